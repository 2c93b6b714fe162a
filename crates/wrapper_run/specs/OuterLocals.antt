-- A law of inward code: behind locals that are in its reach it runs as it does behind all that are there, and leaves them as they are.
use Rattle.std.specs.Prelude.{◌≡◌, ◌≢◌, ℕ, true, List, [], ◌∷◌, ◌++◌, Option, Some, None}
use Rattle.rust_tree.specs.declared.stmt.Block.{Block}
use Rattle.wit_model.specs.Bytes.{Bytes}
use Rattle.wrapper_data.specs.declared.run.Stop.TheVariants as stop_of
use Rattle.wrapper_values.specs.declared.state.Local.{Local}
use Rattle.wrapper_values.specs.declared.state.State.{State}
use Rattle.wrapper_values.specs.declared.state.Val.{Val}
use Rattle.wrapper_values.specs.Act.{Act, Outcome, Done, Stopped}
use Rattle.wrapper_values.specs.Locals.{local_named, value_of}
use Rattle.wrapper_values.specs.Owning.{owned_in}
use Rattle.wrapper_values.specs.Setting.{Setting}
use Rattle.wrapper_run.specs.Inward.{is_inward}
use Rattle.wrapper_run.specs.Results.{run_inner}
use Rattle.wrapper_run.specs.Run.{run_block}

abbrev pub OwnNothing : List Local → Type 0
OwnNothing [] = Unit {0}
OwnNothing (l ∷ locals) = (owned_in l.value ≡ []) × OwnNothing locals

-- those in reach own nothing, and what is read by a name there is read by it among all
pub record IsInReach (reached outer : List Local) : Type 0 where
  pub plain : OwnNothing reached
  pub same : (name : Bytes) (v : Val) → value_of (local_named name reached) ≡ Some v → value_of (local_named name outer) ≡ Some v

-- a state in which these stand in front, and the static area is not in reach
pub record IsBehind (reached later : List Local) (s : State) : Type 0 where
  pub locals : s.locals ≡ reached ++ later
  pub place : s.place ≡ None

-- the same state behind all locals, and with the place of the static area, if it stands
abbrev pub behind_all : (outer later : List Local) → Option ℕ → State → State
behind_all outer later place s = record s { locals = outer ++ later; place = place }

-- behind those in reach the act ends so, and behind all so. Where it is stuck behind those in reach, nothing is said; at another stop a
-- scope may have ended half, and then has no locals
abbrev pub EndsBehind : {A : Type 0} → (reached outer : List Local) → Option ℕ → Outcome A → Outcome A → Type 0
EndsBehind reached outer place (Done a t) end = (later : List Local) × IsBehind reached later t × (end ≡ Done a (behind_all outer later place t))
EndsBehind reached outer place (Stopped e t) end = ((n : ℕ) → e ≢ stop_of.Stuck n) → (locals : List Local) × (end ≡ Stopped e (record t { locals = locals; place = place }))

pub record RunsBehind {A : Type 0} (act : Act A) : Type 0 where
  pub alike : (reached outer later : List Local) (place : Option ℕ) (s : State) → IsInReach reached outer → IsBehind reached later s → EndsBehind reached outer place (act s) (act (behind_all outer later place s))

abbrev pub BlocksRunBehind : Type 0
BlocksRunBehind = (w : Setting) (b : Block) → is_inward b ≡ true → RunsBehind (run_block w b)

-- and so for a block that is no body
abbrev pub InnerBlocksRunBehind : Type 0
InnerBlocksRunBehind = (w : Setting) (b : Block) → is_inward b ≡ true → RunsBehind (run_inner w b)
