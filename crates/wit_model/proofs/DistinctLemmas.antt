-- Lists of texts of which no two are equal, from their end.
use Rattle.std.proofs.Common.{◌≡◌, ℕ, zero, suc, ◌-◌, ◌<◌, ◌≤◌, ◌&&◌, ◌||◌, Bool, true, false, not, cond, List, [], ◌∷◌, length, get_or, map, drop, refl, sym, ap, ◌∙◌, arith}
use Rattle.std.proofs.Math.Bool.{and-true}
use Rattle.std.proofs.Math.Seq.{drop-cons}
use Rattle.std.specs.List.{list_any}
use Rattle.std.specs.Str.{bytes_eq}
use Rattle.std.proofs.Common.{Bor}
use Rattle.wit_model.specs.Bytes.{Bytes}
use Rattle.wit_model.specs.Distinct.{is_distinct}

-- the texts from place i on
abbrev pub texts_from : ℕ → List (Bor Bytes) → List Bytes
texts_from i xs = map (λ t. t.now) (drop i xs)

-- the place to which an empty reference goes where there is none
abbrev pub nothing : Bor Bytes
nothing = record { ref_ptr = (0, 0); now = [] }

-- the text before place `left`
abbrev pub text_before : List (Bor Bytes) → ℕ → Bor Bytes
text_before xs left = get_or xs (left - 1) nothing

pub texts_from-before : (xs : List (Bor Bytes)) (left : ℕ) → 0 < left → left ≤ length xs → texts_from (left - 1) xs ≡ (get_or xs (left - 1) nothing).now ∷ texts_from left xs
texts_from-before xs left positive within =
    let inside : left - 1 < length xs = omega arith in
    let next : suc (left - 1) ≡ left = omega arith in
    ap (map (λ t. t.now)) (drop-cons xs (left - 1) nothing inside ∙ ap (λ i. get_or xs (left - 1) nothing ∷ drop i xs) next)

and-false : (a b : Bool) → b ≡ false → (a && b) ≡ false
and-false true b e = e
and-false false b e = refl

-- a list is not distinct where its rest is not
pub distinct-rest : (i : ℕ) (xs : List (Bor Bytes)) → is_distinct (texts_from i xs) ≡ false → is_distinct (map (λ t. t.now) xs) ≡ false
distinct-rest zero xs e = e
distinct-rest (suc i) [] e = e
distinct-rest (suc i) (x ∷ xs) e = and-false _ _ (distinct-rest i xs e)

or-cond : (a b : Bool) → cond a true b ≡ (a || b)
or-cond true b = refl
or-cond false b = refl

module _ (xs : List (Bor Bytes)) (left : ℕ) (positive : 0 < left) (within : left ≤ length xs) where
  abbrev text : Bytes
  text = (text_before xs left).now

  front : texts_from (left - 1) xs ≡ text ∷ texts_from left xs
  front = texts_from-before xs left positive within

  -- with one more text the rest is distinct exactly where that text is new
  pub distinct-more : {seen is_new : Bool} → is_distinct (texts_from left xs) ≡ true → seen ≡ list_any (λ t. bytes_eq t text) (texts_from left xs)
      → is_new ≡ not seen → is_distinct (texts_from (left - 1) xs) ≡ is_new
  distinct-more {seen = seen} {is_new = is_new} rest e n =
      ap is_distinct front ∙ ap (λ b. not (list_any (λ u. bytes_eq u text) (texts_from left xs)) && b) rest ∙ and-true _ ∙ ap not (sym e) ∙ sym n

  -- what stands among the texts with one more
  pub any-more : (k : Bytes) {before after : Bool} → before ≡ list_any (λ t. bytes_eq t k) (texts_from left xs) → after ≡ cond (bytes_eq text k) true before
      → after ≡ list_any (λ t. bytes_eq t k) (texts_from (left - 1) xs)
  any-more k b a = a ∙ ap (cond (bytes_eq text k) true) b ∙ or-cond (bytes_eq text k) _ ∙ sym (ap (list_any (λ t. bytes_eq t k)) front)
