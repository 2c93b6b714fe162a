-- How an import's item ends behind its statements: it gives its value, and its locals go, with the area.
use Rattle.std.proofs.Common.{◌≡◌, ◌≤◌, ℕ, true, ◌||◌, cond, List, [], ◌∷◌, ◌++◌, length, Option, None, Some, refl, sym, ap, ◌∙◌, arith, append-nil}
use Rattle.std.specs.List.{flat_map}
use Rattle.std.specs.Option.{option_to_list}
use Rattle.std.proofs.lemmas.Bool.{eq-eqb}
use Rattle.rust_tree.specs.declared.item.FnItem.{FnItem}
use Rattle.wrapper_data.specs.declared.block.Block.{Block}
use Rattle.wrapper_data.specs.declared.value.RustValue.{RustValue}
use Rattle.wrapper_data.specs.Heap.{is_heap}
use Rattle.wrapper_meaning.specs.Items.{SameItems, total}
use Rattle.wrapper_values.specs.declared.state.Local.{Local}
use Rattle.wrapper_values.specs.declared.state.State.{State}
use Rattle.wrapper_values.specs.declared.state.Val.{Val}
use Rattle.wrapper_values.specs.Act as machine
use Rattle.wrapper_values.specs.Act.{◌>>◌, pure}
use Rattle.wrapper_values.specs.Owning.{is_taken, owned_in}
use Rattle.wrapper_values.specs.Setting.{Setting, stuck}
use Rattle.wrapper_values.specs.Typed.{answer_in}
use Rattle.wrapper_run.specs.Blocks.{leave_to, owned_block, without_block}
use Rattle.wrapper_run.specs.Memory.{block_from, without}
use Rattle.wrapper_run.specs.Run.{answer_and_leave}
use Rattle.abi_bindgen.specs.Account.{addresses}
use Rattle.abi_driver.proofs.AreaHeaps.{contains_last}
use Rattle.abi_driver.proofs.Replaced.{block_formed}
use Rattle.func_gen.specs.Meaning.{owns_of}
use Rattle.wrapper_closing.proofs.AnswerHeap.{begins_there, left_without}
use Rattle.wrapper_closing.proofs.Leaving.{leaves_block, leaves_nothing, no_items}
use Rattle.wrapper_meaning.proofs.PostReturn.{total-append}
use Rattle.abi_driver.proofs.AnswerArea.{only_one}

-- a state in which all locals are gone, and of the heap the area
pub record LeftOver (w : Setting) (s : State) (rest : List Block) : Type 0 where
  pub state : State
  pub leaves : leave_to w 0 s ≡ machine.Done tt state
  pub heap : SameItems state.heap.blocks rest
  pub calls : state.calls ≡ s.calls
  pub requests : state.requests ≡ s.requests

module _ (w : Setting) (s : State) (rest : List Block) (whole : is_heap s.heap ≡ true) (unplaced : s.place ≡ None) where
  -- what the locals own is all that has an owner
  locals_own : owns_of s ≡ flat_map (λ (l : Local). owned_in l.value) s.locals
  locals_own = ap (λ o. option_to_list o ++ flat_map (λ (l : Local). owned_in l.value) s.locals) unplaced

  -- nothing has an owner
  none_left : SameItems (owns_of s) [] → SameItems s.heap.blocks rest → LeftOver w s rest
  none_left owns all = record { state = record s { locals = [] }; leaves = leaves_nothing w s (sym locals_own ∙ no_items (owns_of s) owns); heap = all; calls = refl; requests = refl }

  -- the area has one, a local
  one_left : (b : Block) → SameItems (owns_of s) (b.address ∷ []) → is_taken b.address s.taken ≡ true → SameItems s.heap.blocks (rest ++ b ∷ []) → LeftOver w s rest
  one_left b owns taken all =
      let there = contains_last rest b s.heap.blocks all in
      let good = block_formed s.heap.blocks b whole there in
      let found : owned_block b.address s ≡ Some b = ap (λ c. cond c (block_from b.address s.heap.blocks) None) taken ∙ begins_there s.heap.blocks b whole there good in
      record {
        state = without_block (b.address, b.size) (record s { locals = [] });
        leaves = leaves_block w s b.address b (sym locals_own ∙ only_one (owns_of s) b.address owns) found;
        heap = λ g. let left = left_without s.heap.blocks b whole there good g in omega (arith, left, all g, total-append g (without b.address b.size s.heap.blocks) (b ∷ []), total-append g rest (b ∷ []));
        calls = refl;
        requests = refl;
      }

  -- either
  pub left_over : (area : List Block) (taken : List ℕ) → length area ≤ 1 → SameItems (owns_of s) (addresses area) → s.taken ≡ addresses area ++ taken → SameItems s.heap.blocks (rest ++ area) → LeftOver w s rest
  left_over [] taken short owns is all = none_left owns (λ g. all g ∙ ap (total g) (append-nil rest))
  left_over (b ∷ []) taken short owns is all =
      one_left b owns (ap (is_taken b.address) is ∙ ap (λ c. c || is_taken b.address taken) (eq-eqb b.address b.address refl)) all
  left_over (b ∷ d ∷ area) taken short owns is all = absurd (omega (arith, short))

-- what is given, and that the locals go then
pub gives_and_leaves : (w : Setting) (item : FnItem) (v : Val) (answer : Option RustValue) (s : State) (rest : List Block) → answer_in w.items item.result v ≡ Some answer → (left : LeftOver w s rest) → answer_and_leave w item.result v s ≡ machine.Done answer left.state
gives_and_leaves w item v answer s rest is left =
    ap (λ o. machine.and_then (machine.or_stop (stuck w) o s) (λ r. leave_to w 0 >> pure r)) is ∙ ap (λ o. machine.and_then o (λ u. pure answer)) left.leaves
