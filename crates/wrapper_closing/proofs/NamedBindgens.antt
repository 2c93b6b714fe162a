-- Which bindgens write identifiers alone as names.
use Rattle.std.proofs.Common.{◌≡◌, ℕ, true}
use Rattle.std.specs.List.{AllByRecursion, list_all}
use Rattle.rust_tree.specs.Ident.{is_ident, rust_ident}
use Rattle.rust_tree.specs.WellNamed.{is_absent_or, is_named_call, is_named_expr, is_named_stmt, is_quotable}
use Rattle.abi_bindgen.specs.declared.instruction.Instruction.{Instruction}
use Rattle.abi_bindgen.specs.declared.instruction.Instruction.TheVariants.{CallInterface, CallWasm}
use Rattle.func_gen.specs.declared.function_bindgen.Code.{Code}
use Rattle.func_gen.specs.declared.function_bindgen.FinishedBlock.{FinishedBlock}
use Rattle.func_gen.specs.declared.function_bindgen.FunctionBindgen.{FunctionBindgen}
use Rattle.func_gen.specs.declared.function_bindgen.OpenBlock.{OpenBlock}
use Rattle.func_gen.specs.PartForms.{exprs_of}
use Rattle.wrapper_closing.specs.Named.{AreNamedParams, AreNamedSites}

pub record IsNamedCode (code : Code) : Type 0 where
  pub call : is_absent_or is_named_call code.call ≡ true
  pub stmts : list_all is_named_stmt code.stmts ≡ true

pub record IsNamedBlock (b : FinishedBlock) : Type 0 where
  pub stmts : list_all is_named_stmt b.stmts ≡ true
  pub results : list_all is_named_expr (exprs_of b.results) ≡ true

-- what it was made of, and all that it made
pub record IsNamed (b : FunctionBindgen) : Type 0 where
  pub home : is_quotable b.home ≡ true
  pub area : is_ident b.area ≡ true
  pub params : AreNamedParams b.params
  pub sites : AreNamedSites b.sites
  pub code : IsNamedCode b.code
  pub opened : AllByRecursion (λ (o : OpenBlock). IsNamedCode o.code) b.opened
  pub finished : AllByRecursion IsNamedBlock b.finished

-- the function that an instruction calls has such a name
abbrev pub KeepsNames : Instruction → ℕ → Type 0
KeepsNames (CallWasm f) n = is_quotable f.now.name.wit ≡ true
KeepsNames (CallInterface f) n = is_ident (rust_ident f.now.name) ≡ true
KeepsNames _ n = Unit {0}
