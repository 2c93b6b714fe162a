-- What each `FunctionBindgen` keeps.
use Rattle.std.specs.Prelude.{◌≡◌, ◌≤◌, ◌^◌, true, List, [], ◌∷◌, None}
use Rattle.std.specs.List.{AllByRecursion}
use Rattle.wit_model.specs.Bytes.{Bytes}
use Rattle.wit_model.specs.Size.{bytes_at}
use Rattle.abi_bindgen.specs.declared.bindgen.Asked.{Asked}
use Rattle.func_gen.specs.declared.function_bindgen.Code.{Code}
use Rattle.func_gen.specs.declared.function_bindgen.FinishedBlock.{FinishedBlock}
use Rattle.func_gen.specs.declared.function_bindgen.OpenBlock.{OpenBlock}
use Rattle.func_gen.specs.InwardCode.{IsInwardBlock, are_inward_stmts}
use Rattle.func_gen.specs.Scope.{Keeps}

-- a record has at most 2^31 bytes where pointers have 8
abbrev pub IsSmall : Asked → Type 0
IsSmall a = bytes_at a.size 8 ≤ 2 ^ 31

-- code that a block may have: no method is called in it, and it is inward
pub record IsBlockCode (code : Code) : Type 0 where
  pub uncalled : code.call ≡ None
  pub inward : are_inward_stmts code.stmts ≡ true

-- each open block has such code: the innermost one, whose code this is, and those around it
abbrev pub HaveBlockCode : List OpenBlock → Code → Type 0
HaveBlockCode [] code = Unit {0}
HaveBlockCode (o ∷ []) code = IsBlockCode code
HaveBlockCode (o ∷ p ∷ opened) code = IsBlockCode p.code × HaveBlockCode (p ∷ opened) code

pub record IsWhole (opened : List OpenBlock) (code : Code) (asked : List Asked) (used : List Bytes) (finished : List FinishedBlock) : Type 0 where
  pub blocks : HaveBlockCode opened code
  pub small : AllByRecursion IsSmall asked
  -- the names that were used when a block was opened are used still
  pub around : AllByRecursion (λ (o : OpenBlock). Keeps o.names used) opened
  pub before : AllByRecursion (λ (b : FinishedBlock). Keeps b.names used) finished
  pub inward : AllByRecursion IsInwardBlock finished
