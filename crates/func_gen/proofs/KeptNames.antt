-- Names that are used stay so, also those that were used when a block was opened.
use Rattle.std.proofs.Common.{◌≡◌, true, false, List, [], ◌∷◌, ◌++◌, reverse, sym, subst}
use Rattle.std.specs.List.{AllByRecursion}
use Rattle.std.proofs.lemmas.List.{reverse-reverse}
use Rattle.wit_model.specs.Bytes.{Bytes}
use Rattle.rust_tree.specs.declared.stmt.Stmt.{Stmt}
use Rattle.abi_bindgen.specs.declared.bindgen.Asked.{Asked}
use Rattle.abi_bindgen.proofs.AllLemmas.{all_both, all_left, all_right}
use Rattle.func_gen.specs.declared.function_bindgen.Code.{Code}
use Rattle.func_gen.specs.declared.function_bindgen.FinishedBlock.{FinishedBlock}
use Rattle.func_gen.specs.declared.function_bindgen.OpenBlock.{OpenBlock}
use Rattle.func_gen.specs.InwardCode.{are_inward_stmts}
use Rattle.func_gen.specs.Scope.{Keeps, is_used}
use Rattle.func_gen.specs.Whole.{IsWhole}
use Rattle.func_gen.proofs.BlocksThere.{all_back}
use Rattle.func_gen.proofs.WholeLemmas.{added_blocks}

-- what has names that are used has them still as names are added
pub still_kept : {A : Type 0} {before after : List Bytes} (names : A → List Bytes) → Keeps before after → (xs : List A) → AllByRecursion (λ x. Keeps (names x) before) xs → AllByRecursion (λ x. Keeps (names x) after) xs
still_kept names k [] h = tt
still_kept names k (x ∷ xs) h = (record { free = λ n free. h.0.free n (k.free n free) }, still_kept names k xs h.1)

pub still_whole : {opened : List OpenBlock} {code : Code} {asked : List Asked} {before after : List Bytes} {finished : List FinishedBlock}
    → Keeps before after → IsWhole opened code asked before finished → IsWhole opened code asked after finished
still_whole {opened = opened} {finished = finished} k h =
    record {
      blocks = h.blocks;
      small = h.small;
      around = still_kept (λ (o : OpenBlock). o.names) k opened h.around;
      before = still_kept (λ (b : FinishedBlock). b.names) k finished h.before;
      inward = h.inward;
    }

-- inward statements may be added
pub added_whole : {opened : List OpenBlock} {asked : List Asked} {used : List Bytes} {finished : List FinishedBlock} (code : Code) (added : List Stmt)
    → are_inward_stmts added ≡ true → IsWhole opened code asked used finished → IsWhole opened (record code { stmts = code.stmts ++ added }) asked used finished
added_whole {opened = opened} code added inward h =
    record { blocks = added_blocks opened code added inward h.blocks; small = h.small; around = h.around; before = h.before; inward = h.inward }

-- a block is opened, with the names that were used before
pub opened_kept : {before after : List Bytes} (opened : List OpenBlock) (o : OpenBlock) → o.names ≡ before → Keeps before after → AllByRecursion (λ (p : OpenBlock). Keeps p.names before) opened → AllByRecursion (λ (p : OpenBlock). Keeps p.names after) (opened ++ o ∷ [])
opened_kept {after = after} opened o is k h =
    all_both (λ (p : OpenBlock). Keeps p.names after) opened (o ∷ []) (still_kept (λ (p : OpenBlock). p.names) k opened h) (subst (λ ns. Keeps ns after) (sym is) k, tt)

-- the innermost one is closed
module _ (opened around : List OpenBlock) (o : OpenBlock) (used : List Bytes) (is : opened ≡ around ++ o ∷ []) (h : AllByRecursion (λ (p : OpenBlock). Keeps p.names used) opened) where
  both : AllByRecursion (λ (p : OpenBlock). Keeps p.names used) (around ++ o ∷ [])
  both = subst (AllByRecursion (λ (p : OpenBlock). Keeps p.names used)) is h

  pub around_kept : AllByRecursion (λ (p : OpenBlock). Keeps p.names used) around
  around_kept = all_left (λ (p : OpenBlock). Keeps p.names used) around (o ∷ []) both

  pub closed_kept : (finished : List FinishedBlock) (b : FinishedBlock) → b.names ≡ o.names → AllByRecursion (λ (c : FinishedBlock). Keeps c.names used) finished → AllByRecursion (λ (c : FinishedBlock). Keeps c.names used) (finished ++ b ∷ [])
  closed_kept finished b same done =
      let inner = all_right (λ (p : OpenBlock). Keeps p.names used) around (o ∷ []) both in
      all_both (λ (c : FinishedBlock). Keeps c.names used) finished (b ∷ []) done (subst (λ ns. Keeps ns used) (sym same) inner.0, tt)

-- some finished blocks are used up, the last ones, and the others stay
module _ (P : FinishedBlock → Type 0) (finished used left : List FinishedBlock) (is : reverse finished ≡ used ++ reverse left) (h : AllByRecursion P finished) where
  two : AllByRecursion P (used ++ reverse left)
  two = subst (AllByRecursion P) is (all_back P finished h)

  pub all_used : AllByRecursion P used
  all_used = all_left P used (reverse left) two

  pub all_others : AllByRecursion P left
  all_others = subst (AllByRecursion P) (reverse-reverse left) (all_back P (reverse left) (all_right P used (reverse left) two))

-- a name that is free now is none that a block had in reach
pub none_has : (used : List Bytes) (n : Bytes) → is_used used n ≡ false → (blocks : List FinishedBlock) → AllByRecursion (λ (b : FinishedBlock). Keeps b.names used) blocks → AllByRecursion (λ (b : FinishedBlock). is_used b.names n ≡ false) blocks
none_has used n free [] h = tt
none_has used n free (b ∷ blocks) h = (h.0.free n free, none_has used n free blocks h.1)
