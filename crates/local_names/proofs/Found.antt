-- A name is found where a set has it.
use Rattle.std.proofs.Common.{◌≡◌, ◌+◌, ◌<◌, ◌||◌, Bool, ℕ, suc, List, [], ◌∷◌, drop, get_or, length, map, refl, sym, ap, ap₂, ◌∙◌, arith}
use Rattle.std.proofs.Math.Seq.{drop-cons}
use Rattle.std.proofs.lemmas.Cmp.{nat_list_eq_equiv}
use Rattle.std.proofs.lemmas.List.Folds.{list_any-append}
use Rattle.std.specs.List.{list_any}
use Rattle.std.specs.Rc.{rc_str_bytes}
use Rattle.std.specs.Str.{bytes_eq}
use Rattle.std.specs.declared.rc.Rc.{Rc}
use Rattle.std.specs.declared.rc.RcStr.{RcStr}
use Rattle.indexmap.specs.IndexSet.{IndexSet, contains_by}
use Rattle.local_names.specs.Texts.{texts_in, texts_of}

-- a set tells by its names' bytes
any-text : {Y : Type 0} (b : List ℕ) (ks : List (RcStr Y)) → list_any (λ n. bytes_eq n b) (map rc_str_bytes ks) ≡ list_any (λ k. bytes_eq b (rc_str_bytes k)) ks
any-text b [] = refl
any-text b (k ∷ ks) = ap₂ (λ c d. c || d) (nat_list_eq_equiv.symm (rc_str_bytes k) b) (any-text b ks)

-- a name is in the set at a place, or behind it
pub any-at : {Y S Z : Type 0} (b : List ℕ) (sets : List (Rc (IndexSet (RcStr Y) S) Z)) (i : ℕ) (s : Rc (IndexSet (RcStr Y) S) Z) → i < length sets → s ≡ get_or sets i s
    → list_any (λ n. bytes_eq n b) (texts_of (drop i sets)) ≡ (contains_by (λ k. bytes_eq b (rc_str_bytes k)) s.value || list_any (λ n. bytes_eq n b) (texts_of (drop (i + 1) sets)))
any-at {Y = Y} {S = S} {Z = Z} b sets i s inside is =
    let test : List ℕ → Bool = λ n. bytes_eq n b in
    let next : suc i ≡ i + 1 = omega arith in
    let front = drop-cons sets i s inside ∙ ap (λ k. get_or sets i s ∷ drop k sets) next ∙ ap (λ (t : Rc (IndexSet (RcStr Y) S) Z). t ∷ drop (i + 1) sets) (sym is) in
    ap (λ ss. list_any test (texts_of ss)) front
    ∙ list_any-append test (texts_in s.value) (texts_of (drop (i + 1) sets))
    ∙ ap (λ c. c || list_any test (texts_of (drop (i + 1) sets))) (any-text b s.value.keys)
