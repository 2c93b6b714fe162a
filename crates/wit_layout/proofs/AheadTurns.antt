-- A turn of the loop over the members ahead: each has a lower place in the table, and fewer are ahead in all.
use Rattle.std.proofs.Common.{◌≡◌, ℕ, zero, suc, ◌<◌, true, List, [], ◌∷◌, ◌++◌, length, get_or, Option, Some, refl, sym, ap, ◌∙◌, subst, arith, length-append}
use Rattle.std.specs.List.{slice_get, All}
use Rattle.std.proofs.lemmas.List.{get_or_append_left}
use Rattle.std.proofs.lemmas.List.Elements.{All-append, All-drop}
use Rattle.std.proofs.lemmas.Bool.{ltb-true}
use Rattle.wit_model.specs.declared.types.WitType.{WitType}
use Rattle.wit_model.specs.declared.types.WitType.TheVariants.{Id}
use Rattle.wit_model.specs.declared.types.TypeDef.{TypeDef}
use Rattle.wit_model.specs.TypeOrder.{type_below, payload_below, GoesDown}
use Rattle.wit_layout.specs.Flat.{flatten_type, flatten_record}
use Rattle.wit_layout.specs.inside.Sequence.{members_at}
use Rattle.wit_layout.specs.Tree.{trees, payload_in, payloads_in}
use Rattle.wit_layout.proofs.FlattenSteps.{members_low, words_at}
use Rattle.wit_layout.proofs.SequenceSteps.{IsSequenceAt}
use Rattle.wit_layout.proofs.AheadWeight.{weights, weights_put}
use Rattle.wit_model.proofs.BelowLemmas.{payload_below_more}

pub entry_at : {A : Type 0} (xs : List A) (i : ℕ) → i < length xs → (x : A) × (slice_get xs i ≡ Some x)
entry_at [] i l = absurd (omega arith)
entry_at (x ∷ xs) zero l = (x, refl)
entry_at (x ∷ xs) (suc i) l = entry_at xs i (omega arith)

All-front : {A : Type 0} (P : A → Type 0) (xs ys : List A) → All P (xs ++ ys) → All P xs
All-front P xs ys h k d l = subst P (get_or_append_left xs ys d k l) (h k d (omega (arith, length-append xs ys)))

-- members that have lower places than a bound
abbrev pub AreLow : ℕ → List (Option WitType) → Type 0
AreLow bound ms = All (λ p. payload_below bound p ≡ true) ms

-- where members come first, and some may be left out behind
pub low_put : (bound : ℕ) (after left_out inner ms : List (Option WitType)) → after ++ left_out ≡ inner ++ ms → AreLow bound inner → AreLow bound ms → AreLow bound after
low_put bound after left_out inner ms put low rest =
    All-front (λ p. payload_below bound p ≡ true) after left_out (subst (AreLow bound) (sym put) (All-append (λ p. payload_below bound p ≡ true) inner ms low rest))

place_below : (bound at : ℕ) → payload_below bound (Some (Id (record { 0 = at }))) ≡ true → at < bound
unfolding payload_below type_below
place_below bound at h = ltb-true at bound h

module _ (types : List TypeDef) (down : GoesDown types) (bound : ℕ) (before ms : List (Option WitType)) (first : Option WitType) (next : before ≡ first ∷ ms) (low : AreLow bound before) where
  pub first_low : payload_below bound first ≡ true
  first_low = subst (AreLow bound) next low 0 first (omega arith)

  pub rest_low : AreLow bound ms
  rest_low = All-drop (λ p. payload_below bound p ≡ true) 1 (first ∷ ms) (subst (AreLow bound) next low)

  module _ (at : ℕ) (is : IsSequenceAt types first at) where
    inner_low : AreLow at (members_at types at)
    inner_low = members_low types down at is.0 is.1

    low_in_bound : AreLow bound (members_at types at)
    low_in_bound k d l =
        let within = place_below bound at (subst (λ p. payload_below bound p ≡ true) is.3 first_low) in
        payload_below_more at bound (get_or (members_at types at) k d) (omega (arith, within)) (inner_low k d l)

    pub place_words : flatten_type (payload_in (trees types) first) ≡ flatten_record (payloads_in (trees types) (members_at types at))
    place_words = ap (λ p. flatten_type (payload_in (trees types) p)) is.3 ∙ words_at types down at is.0 is.1 is.2

    module _ (after left_out : List (Option WitType)) (put : after ++ left_out ≡ members_at types at ++ ms) where
      pub after_low : AreLow bound after
      after_low = low_put bound after left_out (members_at types at) ms put low_in_bound rest_low

      pub fewer_after : weights types after < weights types before
      fewer_after = weights_put types before ms after left_out at (next ∙ ap (λ p. p ∷ ms) is.3) put inner_low
