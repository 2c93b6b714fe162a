-- A law of code that makes no call: it ends as it does without the blocks that stand beside its own, where the choices fit there too,
-- and leaves these as they are.
use Rattle.std.specs.Prelude.{◌≡◌, ℕ, ◌⊎◌, Bool, true, not, ◌&&◌, nat_lt, List, [], ◌∷◌}
use Rattle.std.specs.List.{list_all, list_any}
use Rattle.rust_tree.specs.declared.stmt.Block.{Block as Code}
use Rattle.wrapper_data.specs.Heap.{overlaps_any}
use Rattle.wrapper_data.specs.declared.block.Block.{Block}
use Rattle.wrapper_data.specs.declared.run.Stop.TheVariants as stop_of
use Rattle.wrapper_values.specs.declared.state.State.{State}
use Rattle.wrapper_values.specs.Act.{Outcome, Done, Stopped}
use Rattle.wrapper_run.specs.Growth.{state_of}
use Rattle.wrapper_run.specs.Memory.{begins_at}
use Rattle.wrapper_run.specs.Results.{run_inner}
use Rattle.wrapper_run.specs.Run.{run_block}
use Rattle.wrapper_values.specs.Setting.{Setting}

-- two lists in one, each in its order: others, those that code knows, and all
pub data Between (A : Type 0) : List A → List A → List A → Type 0 where
  nothing : Between A [] [] []
  theirs : {xs ys zs : List A} (x : A) → Between A xs ys zs → Between A (x ∷ xs) ys (x ∷ zs)
  ours : {xs ys zs : List A} (x : A) → Between A xs ys zs → Between A xs (x ∷ ys) (x ∷ zs)

-- a block that has bytes, and overlaps none of these
abbrev pub is_clear : List Block → Block → Bool
is_clear blocks o = nat_lt 0 o.size && not (overlaps_any o blocks)

abbrev pub are_clear : List Block → List Block → Bool
are_clear others blocks = list_all (is_clear blocks) others

-- each address is that of one of the others
abbrev pub are_held : List Block → List ℕ → Bool
are_held others held = list_all (λ address. list_any (begins_at address) others) held

-- a state with these blocks, of which owners have these
abbrev pub widened : List Block → List ℕ → State → State
widened blocks taken s = record s { heap = record s.heap { blocks = blocks }; taken = taken }

-- these are the state's own, with the others in between
pub record Beside (others : List Block) (held : List ℕ) (s : State) (blocks : List Block) (taken : List ℕ) : Type 0 where
  pub blocks_between : Between Block others s.heap.blocks blocks
  pub taken_between : Between ℕ held s.taken taken
  pub clear : are_clear others s.heap.blocks ≡ true

abbrev pub IsBadChoice : {A : Type 0} → Outcome A → Type 0
IsBadChoice end = (u : State) × (end ≡ Stopped stop_of.BadChoice u)

-- with the others in between: a choice that does not fit beside them, or the same end, with the others as they were
abbrev pub EndsBeside : {A : Type 0} → List Block → List ℕ → Outcome A → Outcome A → Type 0
EndsBeside others held (Stopped e t) end = Unit {0}
EndsBeside others held (Done a t) end = IsBadChoice end ⊎ ((blocks : List Block) × (taken : List ℕ) × Beside others held t blocks taken × (end ≡ Done a (widened blocks taken t)))

abbrev pub IgnoresBlocks : Type 0
IgnoresBlocks = (w : Setting) (b : Code) (others : List Block) (held : List ℕ) (s : State) (blocks : List Block) (taken : List ℕ) → are_held others held ≡ true → Beside others held s blocks taken
    → (state_of (run_block w b s)).calls ≡ s.calls → EndsBeside others held (run_block w b s) (run_block w b (widened blocks taken s))

-- and so for a block that is no body
abbrev pub InnerIgnoresBlocks : Type 0
InnerIgnoresBlocks = (w : Setting) (b : Code) (others : List Block) (held : List ℕ) (s : State) (blocks : List Block) (taken : List ℕ) → are_held others held ≡ true → Beside others held s blocks taken
    → (state_of (run_inner w b s)).calls ≡ s.calls → EndsBeside others held (run_inner w b s) (run_inner w b (widened blocks taken s))
