-- The members ahead, where a run is left out, comes first or has one member less.
use Rattle.std.proofs.Common.{inl, inr, Bool, true, false, nat_eq, length-append, ◌≡◌, ◌⊎◌, ℕ, ◌+◌, ◌-◌, ◌<◌, ◌≤◌, List, [], ◌∷◌, ◌++◌, length, take, drop, Option, Some, refl, sym, ap, ap₂, ◌∙◌, subst, arith, append_assoc}
use Rattle.std.specs.List.{slice_get, All}
use Rattle.std.proofs.lemmas.Bool.{eqb-true, eqb-false}
use Rattle.std.proofs.lemmas.List.{append-nil, take_all, take-append-le, take-append-drop, drop_all, length-drop, length-take-le}
use Rattle.std.proofs.lemmas.List.Elements.{All-drop, All-push}
use Rattle.wit_model.specs.declared.types.WitType.{WitType}
use Rattle.wit_model.specs.declared.types.TypeDef.{TypeDef}
use Rattle.wit_layout.specs.declared.ahead.Run.{Run}
use Rattle.wit_layout.specs.declared.ahead.Ahead.{Ahead}
use Rattle.wit_layout.specs.inside.Ahead.{runs, runs_members, run_members, ahead_members, IsRun, AreRuns, ArePut}
use Rattle.wit_layout.specs.inside.Sequence.{members_at}
use Rattle.wit_model.proofs.ListLemmas.{drop_at}

pub runs-length : (a : Ahead) → length (runs a) ≡ a.count
runs-length a = length-take-le a.count a.runs (omega (arith, a.bounded, a.whole))

-- the runs that are kept when the first of a full array goes round to its end
pub nearest_kept : (all turned : List Run) (count : ℕ) → length all ≡ 17 → count ≡ 17 → turned ≡ drop 1 all ++ take 1 all → take (count - 1) turned ≡ drop (count - 16) (take count all)
nearest_kept all turned count len full is =
    let long : length (drop 1 all) ≡ 16 = length-drop 1 all ∙ omega arith in
    let less : count - 1 ≡ 16 = omega arith in
    let one : 1 ≡ count - 16 = omega arith in
    let enough : 16 ≤ length (drop 1 all) = omega arith in
    ap₂ (λ n (xs : List Run). take n xs) less is ∙ take-append-le 16 (drop 1 all) (take 1 all) enough ∙ take_all 16 (drop 1 all) (omega arith) ∙ ap₂ (λ n (xs : List Run). drop n xs) one (sym (take_all count all (omega arith)))

pub All-behind : (P : Run → Type 0) (xs ys : List Run) → All P (xs ++ ys) → All P ys
All-behind P [] ys h = h
All-behind P (x ∷ xs) ys h = All-behind P xs ys (All-drop P 1 (x ∷ (xs ++ ys)) h)

-- what holds of each run holds of the last
pub last_is : (P : Run → Type 0) (all front : List Run) (run : Run) → all ≡ front ++ run ∷ [] → All P all → P run
last_is P all front run is h = All-behind P front (run ∷ []) (subst (All P) is h) 0 run (omega arith)

module _ (types : List TypeDef) where
  runs_members-append : (xs ys : List Run) → runs_members types (xs ++ ys) ≡ runs_members types ys ++ runs_members types xs
  runs_members-append [] ys = sym (append-nil (runs_members types ys))
  runs_members-append (x ∷ xs) ys =
      ap (λ ms. ms ++ run_members types x) (runs_members-append xs ys) ∙ append_assoc (runs_members types ys) (runs_members types xs) (run_members types x)

  -- each run has a member
  enough_members : (rs : List Run) → All (IsRun types) rs → length rs ≤ length (runs_members types rs)
  enough_members [] h = omega arith
  enough_members (r ∷ rs) h =
      let some : 0 < length (run_members types r) = let run : IsRun types r = h 0 r (omega arith) in omega (arith, run.1, length-drop r.nth (members_at types r.at)) in
      omega (arith, enough_members rs (All-drop (IsRun types) 1 (r ∷ rs) h), length-append (runs_members types rs) (run_members types r), some)

  module _ (before between after : Ahead) (at : ℕ) (kept : runs between ≡ drop (before.count - 16) (runs before)) (put : runs after ≡ runs between ++ record { at = at; nth = 0 } ∷ []) where
    left_out : List Run
    left_out = take (before.count - 16) (runs before)

    left : left_out ++ runs between ≡ runs before
    unfolding left_out
    left = ap (λ rs. left_out ++ rs) kept ∙ take-append-drop (before.count - 16) (runs before)

    put_members : runs_members types (runs after) ++ runs_members types left_out ≡ members_at types at ++ runs_members types (runs before)
    put_members =
        ap (λ rs. runs_members types rs ++ runs_members types left_out) put ∙ ap (λ ms. ms ++ runs_members types left_out) (runs_members-append (runs between) (record { at = at; nth = 0 } ∷ []))
        ∙ append_assoc (members_at types at) (runs_members types (runs between)) (runs_members types left_out) ∙ ap (λ ms. members_at types at ++ ms) (sym (runs_members-append left_out (runs between)) ∙ ap (runs_members types) left)

    none_left : before.count ≤ 16 → runs_members types left_out ≡ []
    unfolding left_out
    none_left few = let none : before.count - 16 ≡ 0 = omega arith in ap (λ n. runs_members types (take n (runs before))) none

    module _ (within : at < length types) (some : 0 < length (members_at types at)) (valid : AreRuns types before) where
      pub put_valid : AreRuns types after
      put_valid =
          subst (All (IsRun types)) (sym put) (All-push (IsRun types) (runs between) (record { at = at; nth = 0 }) (All-behind (IsRun types) left_out (runs between) (subst (All (IsRun types)) (sym left) valid)) (within, some))

      full : before.count ≡ 17 → 17 ≤ length (runs_members types (runs after))
      full is =
          let long : length (runs between) ≡ 16 = ap length kept ∙ length-drop (before.count - 16) (runs before) ∙ omega (arith, runs-length before, is) in
          omega (arith, enough_members (runs after) put_valid, ap length put, length-append (runs between) (record { at = at; nth = 0 } ∷ []), long)

      few : nat_eq before.count 17 ≡ false → runs_members types left_out ≡ []
      few is = none_left (omega (arith, before.bounded, eqb-false before.count 17 is))

      by_test : (b : Bool) → nat_eq before.count 17 ≡ b → (runs_members types left_out ≡ []) ⊎ (17 ≤ length (runs_members types (runs after)))
      by_test true is = inr (full (eqb-true before.count 17 is))
      by_test false is = inl (few is)

      pub are_put : ArePut types at before after
      are_put = record { left_out = runs_members types left_out; same = put_members; far = by_test (nat_eq before.count 17) refl }

  pub none_put : (a : Ahead) (at : ℕ) → members_at types at ≡ [] → ArePut types at a a
  none_put a at none = record {
    left_out = [];
    same = append-nil (ahead_members types a) ∙ sym (ap (λ ms. ms ++ ahead_members types a) none);
    far = inl refl;
  }

  module _ (old front new : List Run) (at nth : ℕ) (first : Option WitType) (is : old ≡ front ++ record { at = at; nth = nth } ∷ []) (here : slice_get (members_at types at) nth ≡ Some first) where
    first_member : runs_members types old ≡ first ∷ (drop (nth + 1) (members_at types at) ++ runs_members types front)
    first_member =
        ap (runs_members types) is ∙ runs_members-append front (record { at = at; nth = nth } ∷ []) ∙ ap (λ ms. ms ++ runs_members types front) (drop_at (members_at types at) nth first here)

    pub next_of_more : new ≡ front ++ record { at = at; nth = nth + 1 } ∷ [] → runs_members types old ≡ first ∷ runs_members types new
    next_of_more moved =
        first_member ∙ ap (λ ms. first ∷ ms) (sym (ap (runs_members types) moved ∙ runs_members-append front (record { at = at; nth = nth + 1 } ∷ [])))

    pub next_of_last : length (members_at types at) ≤ nth + 1 → new ≡ front → runs_members types old ≡ first ∷ runs_members types new
    next_of_last done moved =
        first_member ∙ ap₂ (λ (ms : List (Option WitType)) (rs : List Run). first ∷ (ms ++ runs_members types rs)) (drop_all (nth + 1) (members_at types at) done) (sym moved)
