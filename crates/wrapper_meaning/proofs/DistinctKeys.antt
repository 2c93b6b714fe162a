-- A map is handed on as it is exactly where its keys are distinct.
use Rattle.std.proofs.Common.{◌≡◌, ◌⊎◌, suc, ◌+◌, ◌≤◌, Bool, true, false, List, [], ◌∷◌, ◌++◌, length, fold, refl, sym, ap, subst, arith, ◌∙◌, append_assoc, append-nil, if◌then◌else◌}
use mathlib.Core.Logic.{inl, inr}
use Rattle.std.specs.List.{list_any}
use Rattle.std.proofs.lemmas.Bool.{cases_Bool, or_from, or_parts}
use Rattle.wrapper_meaning.specs.Laws.{AreNewKeys, SettledIsDistinct}
use Rattle.wrapper_meaning.specs.Settled.{pushed, same_key}

module _ {A B : Type 0} (same : A → A → Bool) where
  -- an entry whose key is there makes no list longer
  kept : (d : A × B) (earlier : List (A × B)) (e : A × B) → same d.0 e.0 ≡ true → length (pushed same (d ∷ earlier) e) ≡ suc (length earlier)
  kept d earlier e h = ap (λ t. length (if t then (d.0, e.1) ∷ earlier else d ∷ pushed same earlier e)) h

  passed : (d : A × B) (earlier : List (A × B)) (e : A × B) → same d.0 e.0 ≡ false → pushed same (d ∷ earlier) e ≡ d ∷ pushed same earlier e
  passed d earlier e h = ap (λ t. if t then (d.0, e.1) ∷ earlier else d ∷ pushed same earlier e) h

  pushed-length : (earlier : List (A × B)) (e : A × B) → length (pushed same earlier e) ≤ suc (length earlier)
  pushed-length [] e = omega (arith)
  pushed-length (d ∷ earlier) e =
      by_test (cases_Bool (same d.0 e.0)) (pushed-length earlier e)
    where
      by_test : (same d.0 e.0 ≡ true) ⊎ (same d.0 e.0 ≡ false) → length (pushed same earlier e) ≤ suc (length earlier) → length (pushed same (d ∷ earlier) e) ≤ suc (length (d ∷ earlier))
      by_test (inl h) rest = omega (kept d earlier e h, arith)
      by_test (inr h) rest = omega (ap length (passed d earlier e h), rest, arith)

  -- one whose key is new stands last
  pushed-new : (earlier : List (A × B)) (e : A × B) → list_any (λ d. same d.0 e.0) earlier ≡ false → pushed same earlier e ≡ earlier ++ e ∷ []
  pushed-new [] e h = refl
  pushed-new (d ∷ earlier) e h =
      let parts = or_parts (same d.0 e.0) (list_any (λ x. same x.0 e.0) earlier) h in
      passed d earlier e parts.0 ∙ ap (λ t. d ∷ t) (pushed-new earlier e parts.1)

  new-pushed : (earlier : List (A × B)) (e : A × B) → length (pushed same earlier e) ≡ suc (length earlier) → list_any (λ d. same d.0 e.0) earlier ≡ false
  new-pushed [] e n = refl
  new-pushed (d ∷ earlier) e n = by_test (cases_Bool (same d.0 e.0)) (new-pushed earlier e)
    where
      by_test : (same d.0 e.0 ≡ true) ⊎ (same d.0 e.0 ≡ false) → (length (pushed same earlier e) ≡ suc (length earlier) → list_any (λ x. same x.0 e.0) earlier ≡ false) → list_any (λ x. same x.0 e.0) (d ∷ earlier) ≡ false
      by_test (inl h) rest = absurd (omega (kept d earlier e h, n, arith))
      by_test (inr h) rest = or_from (same d.0 e.0) (list_any (λ x. same x.0 e.0) earlier) h (rest (omega (ap length (passed d earlier e h), n, arith)))

  all-length : (earlier entries : List (A × B)) → length (fold (pushed same) earlier entries) ≤ length earlier + length entries
  all-length earlier [] = omega (arith)
  all-length earlier (e ∷ entries) = omega (all-length (pushed same earlier e) entries, pushed-length earlier e, arith)

  all-new : (earlier entries : List (A × B)) → length (fold (pushed same) earlier entries) ≡ length earlier + length entries → AreNewKeys same earlier entries
  all-new earlier [] n = tt
  all-new earlier (e ∷ entries) n =
      let short = all-length (pushed same earlier e) entries in
      let grown : length (pushed same earlier e) ≡ suc (length earlier) = omega (short, pushed-length earlier e, n, arith) in
      let fresh = new-pushed earlier e grown in
      let last = pushed-new earlier e fresh in
      (fresh, subst (λ x. AreNewKeys same x entries) last (all-new (pushed same earlier e) entries (omega (n, grown, arith))))

  new-all : (earlier entries : List (A × B)) → AreNewKeys same earlier entries → fold (pushed same) earlier entries ≡ earlier ++ entries
  new-all earlier [] h = sym (append-nil earlier)
  new-all earlier (e ∷ entries) h =
      ap (λ x. fold (pushed same) x entries) (pushed-new earlier e h.0) ∙ new-all (earlier ++ e ∷ []) entries h.1 ∙ append_assoc earlier (e ∷ []) entries

pub settled_is_distinct : SettledIsDistinct
settled_is_distinct k x entries = (λ e. all-new (same_key k) [] entries (omega (ap length e, arith)), λ h. new-all (same_key k) [] entries h)
