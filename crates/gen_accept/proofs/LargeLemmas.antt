-- The first type that is too large, by the first with too many bytes and the first with too many levels; and what is known where there
-- is none.
use Rattle.std.proofs.Common.{◌≡◌, ℕ, ◌+◌, ◌<◌, ◌≤◌, ◌∙◌, Bool, true, false, cond, not, ◌||◌, List, [], ◌∷◌, ◌++◌, length, Option, None, Some, Result, Ok, Err, IfOk, is_some, find, position, zip, refl, sym, ap, arith}
use Rattle.std.specs.List.{position_from}
use Rattle.std.specs.Option.{option_map, option_or}
use Rattle.std.proofs.lemmas.Grind.{common_steps}
use Rattle.std.proofs.lemmas.Iterator.Adapters.{position_from-zero}
use Rattle.wit_model.proofs.InRange.{neither, unmapped}
use Rattle.wit_model.specs.declared.types.TypeDef.{TypeDef}
use Rattle.wit_model.specs.declared.world.World.{World}
use Rattle.wit_layout.specs.Filled.{first_too_large}
use Rattle.wit_layout.specs.Tree.{trees}
use Rattle.wit_layout.proofs.TreeLemmas.{trees-length}
use Rattle.type_defs.specs.Levels.{are_shallow, first_deep, is_shallow}
use Rattle.type_defs.proofs.LevelLemmas.{not-deep}
use Rattle.gen_accept.specs.TooLarge.{earlier, first_large, first_large_function, first_large_type, is_large, is_large_type, large_function, large_type}

module _ {A B : Type 0} (p : A → Bool) (q : B → Bool) where
  abbrev either : A × B → Bool
  either e = p e.0 || q e.1

  -- what is found stands no earlier than where it is looked for
  found-on : (i : ℕ) (ys : List B) (n : ℕ) → position_from q i ys ≡ Some n → i ≤ n
  found-on i [] n e = cc
  found-on i (y ∷ ys) n e = go (q y) refl (λ later. found-on (i + 1) ys n later)
    where
      go : (b : Bool) → q y ≡ b → (position_from q (i + 1) ys ≡ Some n → i + 1 ≤ n) → i ≤ n
      go true h rest = let is : i ≡ n = cc in omega (arith, is)
      go false h rest = let later : position_from q (i + 1) ys ≡ Some n = cc in omega (arith, rest later)

  -- where no first part is found, the second parts alone decide
  one-none : (i : ℕ) (xs : List A) (ys : List B) → length xs ≡ length ys → position_from p i xs ≡ None → position_from either i (zip xs ys) ≡ position_from q i ys
  one-none i [] [] same e = refl
  one-none i [] (y ∷ ys) same e = absurd (omega (arith, same))
  one-none i (x ∷ xs) [] same e = absurd (omega (arith, same))
  one-none i (x ∷ xs) (y ∷ ys) same e = go (p x) refl (one-none (i + 1) xs ys (omega (arith, same)))
    where
      go : (b : Bool) → p x ≡ b → (position_from p (i + 1) xs ≡ None → position_from either (i + 1) (zip xs ys) ≡ position_from q (i + 1) ys) → position_from either i (zip (x ∷ xs) (y ∷ ys)) ≡ position_from q i (y ∷ ys)
      go true h rest = absurd (cc)
      go false h rest =
          let none : position_from p (i + 1) xs ≡ None = cc in
          let here : Option ℕ = Some i in
          ap (λ b. cond (b || q y) here (position_from either (i + 1) (zip xs ys))) h ∙ ap (λ o. cond (q y) here o) (rest none)

  -- the earlier of a place and of what is found from there on is that place
  earlier-here : (i : ℕ) (ys : List B) (o : Option ℕ) → position_from q i ys ≡ o → earlier i o ≡ i
  earlier-here i ys None e = refl
  earlier-here i ys (Some n) e = grind (arith, common_steps, found-on i ys n e)

  -- where a first part is found, the earlier of it and of what is found among the second parts is the first of both. Step by step down both
  -- lists: it stands here if either is here, and else behind
  one-some : (i : ℕ) (xs : List A) (ys : List B) (n : ℕ) → length xs ≡ length ys → position_from p i xs ≡ Some n → i ≤ n × (position_from either i (zip xs ys) ≡ Some (earlier n (position_from q i ys)))
  one-some i [] ys n same e = cc
  one-some i (x ∷ xs) [] n same e = absurd (omega (arith, same))
  one-some i (x ∷ xs) (y ∷ ys) n same e = go (p x) refl (one-some (i + 1) xs ys n (omega (arith, same)))
    where
      later : Option ℕ
      later = position_from q (i + 1) ys

      here : Option ℕ
      here = Some i

      go : (b : Bool) → p x ≡ b → (position_from p (i + 1) xs ≡ Some n → (i + 1 ≤ n) × (position_from either (i + 1) (zip xs ys) ≡ Some (earlier n later)))
          → (i ≤ n) × (position_from either i (zip (x ∷ xs) (y ∷ ys)) ≡ Some (earlier n (position_from q i (y ∷ ys))))
      go true h rest =
          let is : i ≡ n = cc in (
            omega (arith, is),
            ap (λ b. cond (b || q y) here (position_from either (i + 1) (zip xs ys))) h
                ∙ ap (λ m. Some m) (sym (earlier-here i (y ∷ ys) (position_from q i (y ∷ ys)) refl)) ∙ ap (λ m. Some (earlier m (position_from q i (y ∷ ys)))) is,
          )
      go false h rest =
          let found : position_from p (i + 1) xs ≡ Some n = cc in
          let on = rest found in
          let behind : earlier n here ≡ i = grind (arith, common_steps, on.0) in
          let step : (c : Bool) → q y ≡ c → cond (q y) here (position_from either (i + 1) (zip xs ys)) ≡ Some (earlier n (cond (q y) here later)) = λ c g. by_test c g on.1 behind in (
            omega (arith, on.0),
            ap (λ b. cond (b || q y) here (position_from either (i + 1) (zip xs ys))) h ∙ step (q y) refl,
          )
        where
          by_test : (c : Bool) → q y ≡ c → position_from either (i + 1) (zip xs ys) ≡ Some (earlier n later) → earlier n here ≡ i
              → cond (q y) here (position_from either (i + 1) (zip xs ys)) ≡ Some (earlier n (cond (q y) here later))
          by_test true g found behind =
              ap (λ b. cond b here (position_from either (i + 1) (zip xs ys))) g ∙ ap (λ m. Some m) (sym behind) ∙ sym (ap (λ b. Some (earlier n (cond b here later))) g)
          by_test false g found behind =
              ap (λ b. cond b here (position_from either (i + 1) (zip xs ys))) g ∙ found ∙ sym (ap (λ b. Some (earlier n (cond b here later))) g)

  -- where nothing is found together, nothing is found among either parts
  none-either : (i : ℕ) (xs : List A) (ys : List B) → length xs ≡ length ys → position_from either i (zip xs ys) ≡ None → (position_from p i xs ≡ None) × (position_from q i ys ≡ None)
  none-either i [] [] same e = (refl, refl)
  none-either i [] (y ∷ ys) same e = absurd (omega (arith, same))
  none-either i (x ∷ xs) [] same e = absurd (omega (arith, same))
  none-either i (x ∷ xs) (y ∷ ys) same e = go (p x) refl (q y) refl (none-either (i + 1) xs ys (omega (arith, same)))
    where
      later : Type 0
      later = (position_from p (i + 1) xs ≡ None) × (position_from q (i + 1) ys ≡ None)

      go : (b : Bool) → p x ≡ b → (c : Bool) → q y ≡ c → (position_from either (i + 1) (zip xs ys) ≡ None → later) → (position_from p i (x ∷ xs) ≡ None) × (position_from q i (y ∷ ys) ≡ None)
      go true h c g rest = absurd (cc)
      go false h true g rest = absurd (cc)
      go false h false g rest =
          let none : position_from either (i + 1) (zip xs ys) ≡ None = cc in
          let both = rest none in
          (ap (λ b. cond b (Some i) (position_from p (i + 1) xs)) h ∙ both.0, ap (λ b. cond b (Some i) (position_from q (i + 1) ys)) g ∙ both.1)

module _ (types : List TypeDef) where
  abbrev is_deep : TypeDef → Bool
  is_deep entry = not (is_shallow types entry)

  -- where no type has too many bytes, the first that is too large has too many levels
  pub large-by-levels : first_too_large types ≡ None → first_large_type types ≡ first_deep types
  unfolding first_too_large
  large-by-levels none =
      position_from-zero (is_large_type types) (zip (trees types) types)
      ∙ one-none is_large is_deep 0 (trees types) types (trees-length types) (sym (position_from-zero is_large (trees types)) ∙ none) ∙ sym (position_from-zero is_deep types)

  -- else it is the earlier of both
  pub large-by-bytes : (n : ℕ) → first_too_large types ≡ Some n → first_large_type types ≡ Some (earlier n (first_deep types))
  unfolding first_too_large
  large-by-bytes n found =
      position_from-zero (is_large_type types) (zip (trees types) types)
      ∙ (one-some is_large is_deep 0 (trees types) types n (trees-length types) (sym (position_from-zero is_large (trees types)) ∙ found)).1
      ∙ ap (λ o. Some (earlier n o)) (sym (position_from-zero is_deep types))

  -- what is known where nothing is too large: every type is stored, no way down is too long, and no function is found

  module _ (world : World) (none : first_large types world ≡ None) where
    parts : (first_large_type types ≡ None) × (first_large_function types world ≡ None)
    unfolding first_large
    parts =
        let both = neither (option_map large_type (first_large_type types)) (option_map large_function (first_large_function types world)) none in
        (unmapped large_type (first_large_type types) both.0, unmapped large_function (first_large_function types world) both.1)

    alone : (position_from is_large 0 (trees types) ≡ None) × (position_from is_deep 0 types ≡ None)
    alone = none-either is_large is_deep 0 (trees types) types (trees-length types) (sym (position_from-zero (is_large_type types) (zip (trees types) types)) ∙ parts.0)

    pub none-filled : first_too_large types ≡ None
    unfolding first_too_large
    none-filled = position_from-zero is_large (trees types) ∙ alone.0

    pub none-shallow : are_shallow types ≡ true
    none-shallow = not-deep types (position_from-zero is_deep types ∙ alone.1)

    pub none-functions : first_large_function types world ≡ None
    none-functions = parts.1

  -- a type that is too large comes before a function
  pub type-first : (world : World) (n : ℕ) → first_large_type types ≡ Some n → first_large types world ≡ Some (large_type n)
  unfolding first_large
  type-first world n found = ap (λ o. option_or (option_map large_type o) (option_map large_function (first_large_function types world))) found

  pub function-first : (world : World) → first_large_type types ≡ None → first_large types world ≡ option_map large_function (first_large_function types world)
  unfolding first_large
  function-first world none = ap (λ o. option_or (option_map large_type o) (option_map large_function (first_large_function types world))) none

-- a place that is found is one of the list
pub found-within : {A : Type 0} (p : A → Bool) (xs : List A) (n : ℕ) → position p xs ≡ Some n → n < length xs
found-within p xs n e = grind (arith, common_steps, e)

-- the first of two lists together

pub found-front : {A : Type 0} (p : A → Bool) (xs ys : List A) → is_some (find p xs) ≡ true → find p (xs ++ ys) ≡ find p xs
found-front p [] ys h = cc
found-front p (x ∷ xs) ys h = go (p x) refl (found-front p xs ys)
  where
    go : (b : Bool) → p x ≡ b → (is_some (find p xs) ≡ true → find p (xs ++ ys) ≡ find p xs) → find p (x ∷ xs ++ ys) ≡ find p (x ∷ xs)
    go true e rest = ap (λ b. cond b (Some x) (find p (xs ++ ys))) e ∙ sym (ap (λ b. cond b (Some x) (find p xs)) e)
    go false e rest =
        let later : is_some (find p xs) ≡ true = sym (ap (λ b. is_some (cond b (Some x) (find p xs))) e) ∙ h in
        ap (λ b. cond b (Some x) (find p (xs ++ ys))) e ∙ rest later ∙ sym (ap (λ b. cond b (Some x) (find p xs)) e)

pub found-behind : {A : Type 0} (p : A → Bool) (xs ys : List A) → find p xs ≡ None → find p (xs ++ ys) ≡ find p ys
found-behind p [] ys h = refl
found-behind p (x ∷ xs) ys h = go (p x) refl (found-behind p xs ys)
  where
    go : (b : Bool) → p x ≡ b → (find p xs ≡ None → find p (xs ++ ys) ≡ find p ys) → find p (x ∷ xs ++ ys) ≡ find p ys
    go true e rest = let wrong : cond true (Some x) (find p xs) ≡ None = sym (ap (λ b. cond b (Some x) (find p xs)) e) ∙ h in cc
    go false e rest =
        let later : find p xs ≡ None = sym (ap (λ b. cond b (Some x) (find p xs)) e) ∙ h in
        ap (λ b. cond b (Some x) (find p (xs ++ ys))) e ∙ rest later

-- what is found, where it is lent

pub mapped-some : {A B : Type 0} (f : A → B) (o : Option A) → is_some o ≡ true → is_some (option_map f o) ≡ true
mapped-some f None h = cc
mapped-some f (Some x) h = refl

pub mapped-none : {A B : Type 0} (f : A → B) (o : Option A) → is_some o ≡ false → option_map f o ≡ None
mapped-none f None h = refl
mapped-none f (Some x) h = cc

pub mapped-twice : {A B C : Type 0} (g : B → C) (f : A → B) (o : Option A) → option_map (λ x. g (f x)) o ≡ option_map g (option_map f o)
mapped-twice g f None = refl
mapped-twice g f (Some x) = refl

pub ok-more : {T E : Type 0} {P Q : T → Type 0} (r : Result T E) → ((t : T) → P t → Q t) → IfOk r P → IfOk r Q
ok-more (Ok t) more h = more t h
ok-more (Err e) more h = h
