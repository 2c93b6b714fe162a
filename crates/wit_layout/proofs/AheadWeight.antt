-- How many members a type has in all, those of its members among them: with each that is opened fewer are ahead.
use Rattle.std.proofs.Common.{◌≡◌, ℕ, zero, suc, ◌≤◌, ◌<◌, true, List, [], ◌∷◌, ◌++◌, Option, None, Some, ap, arith, add-one}
use Rattle.std.specs.List.{All, sum_by}
use Rattle.std.proofs.lemmas.List.Elements.{All-drop}
use Rattle.std.proofs.lemmas.List.Sums.{sum_by-append, sum_by-cons, sum_by-le-sum_by}
use Rattle.wit_model.specs.declared.types.WitType.{WitType}
use Rattle.wit_model.specs.declared.types.WitType.TheVariants as wit
use Rattle.wit_model.specs.declared.types.TypeDef.{TypeDef}
use Rattle.wit_model.specs.TypeOrder.{payload_below}
use Rattle.wit_layout.specs.inside.Sequence.{members_at}
use Rattle.wit_layout.proofs.FlattenSteps.{payload_rank, payload_rank_below}

sum_le : {A : Type 0} (P : A → Type 0) (f g : A → ℕ) → ((x : A) → P x → f x ≤ g x) → (xs : List A) → All P xs → sum_by f xs ≤ sum_by g xs
sum_le P f g le [] h = omega arith
sum_le P f g le (x ∷ xs) h =
    let here : P x = h 0 x (omega arith) in
    let rest = sum_le P f g le xs (All-drop P 1 (x ∷ xs) h) in
    omega (arith, le x here, rest, sum_by-cons f x xs, sum_by-cons g x xs)

module _ (types : List TypeDef) where
  abbrev members_of_type : WitType → List (Option WitType)
  members_of_type (wit.Id id) = members_at types id.0
  members_of_type _ = []

  abbrev members_of : Option WitType → List (Option WitType)
  members_of None = []
  members_of (Some ty) = members_of_type ty

  -- so many levels down
  levels : ℕ → Option WitType → ℕ
  levels zero p = 1
  levels (suc n) p = suc (sum_by (levels n) (members_of p))

  levels_some : (n : ℕ) (p : Option WitType) → 1 ≤ levels n p
  unfolding levels
  levels_some zero p = omega arith
  levels_some (suc n) p = omega arith

  levels_more : (n m : ℕ) (p : Option WitType) → n ≤ m → levels n p ≤ levels m p
  unfolding levels
  levels_more zero m p le = levels_some m p
  levels_more (suc n) zero p le = absurd (omega arith)
  levels_more (suc n) (suc m) p le =
      omega (arith, sum_by-le-sum_by (levels n) (levels m) (members_of p) (λ q. levels_more n m q (omega arith)))

  pub weight : Option WitType → ℕ
  weight p = levels (payload_rank p) p

  abbrev pub weights : List (Option WitType) → ℕ
  weights ms = sum_by weight ms

  pub weight_some : (p : Option WitType) → 1 ≤ weight p
  unfolding weight
  weight_some p = levels_some (payload_rank p) p

  pub weight_opened : (at : ℕ) → All (λ p. payload_below at p ≡ true) (members_at types at) → weights (members_at types at) < weight (Some (wit.Id (record { 0 = at })))
  unfolding weight levels
  weight_opened at low =
      let less = sum_le (λ p. payload_below at p ≡ true) weight (levels at) (λ p h. levels_more (payload_rank p) at p (payload_rank_below at p h)) (members_at types at) low in
      let more = ap (λ n. levels n (Some (wit.Id (record { 0 = at })))) (add-one at) in
      omega (arith, less, more)

  -- a member less
  pub weights_next : (before ms : List (Option WitType)) (p : Option WitType) → before ≡ p ∷ ms → weights ms < weights before
  weights_next before ms p is = omega (arith, ap weights is, sum_by-cons weight p ms, weight_some p)

  -- a member opened
  pub weights_put : (before ms after left_out : List (Option WitType)) (at : ℕ) → before ≡ Some (wit.Id (record { 0 = at })) ∷ ms → after ++ left_out ≡ members_at types at ++ ms → All (λ p. payload_below at p ≡ true) (members_at types at) → weights after < weights before
  weights_put before ms after left_out at is put low =
      omega (arith, ap weights is, sum_by-cons weight (Some (wit.Id (record { 0 = at }))) ms, ap weights put, sum_by-append weight after left_out, sum_by-append weight (members_at types at) ms, weight_opened at low)
