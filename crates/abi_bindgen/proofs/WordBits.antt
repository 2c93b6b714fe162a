-- Words as bits: a word is the one of its bits, and a slot to which a word was cast is read as that word.
use Rattle.std.proofs.Common.{◌≡◌, ◌⊎◌, ℕ, zero, suc, ◌%◌, ◌^◌, ◌<◌, ◌≤◌, Bool, true, false, not, ◌||◌, nat_eq, get_or, ℤ, pos, List, [], ◌∷◌, ◌++◌, length, map, take, drop, Option, Some, refl, sym, ap, ap₂, ◌∙◌, subst, arith, mod-eq_of_lt, mod-lt, pow_pos, inl, inr}
use Rattle.std.specs.Int.{w32, w64, cast_signed}
use Rattle.std.specs.List.{list_all}
use Rattle.std.proofs.lemmas.Bool.{and_parts, eqb-true, eq-eqb}
use Rattle.std.proofs.lemmas.Int.{ints}
use Rattle.wit_model.specs.declared.wasm_type.WasmType.{WasmType}
use Rattle.wit_model.specs.declared.wasm_type.WasmType.TheVariants.{I32, I64, F32, F64, Pointer, PointerOrI64, Length}
use Rattle.wit_layout.specs.Cast.{cast}
use Rattle.wit_layout.specs.CastBits.{ReadsBack, after_cast, bits}
use Rattle.wit_layout.specs.Join.{AreInOrder, join}
use Rattle.wit_layout.specs.Flat.{joined, flatten_type, slots}
use Rattle.wit_layout.specs.declared.bitcast.Bitcast.{Bitcast}
use Rattle.wit_layout.specs.declared.bitcast.Bitcast.TheVariants as bitcast
use Rattle.wit_model.specs.declared.types.TypeDef.{TypeDef}
use Rattle.wit_model.specs.declared.types.WitType.{WitType}
use Rattle.wrapper_data.specs.declared.word.Word.{Word}
use Rattle.wrapper_data.specs.declared.word.Word.TheVariants as core
use Rattle.wrapper_meaning.specs.Numbers.{is_signed, low_bits}
use Rattle.wrapper_meaning.specs.Layout.{layout, layouts}
use Rattle.wrapper_meaning.specs.Shape.{Shape, Shapes, payload_in, payloads_in, shapes}
use Rattle.wrapper_meaning.specs.Shape.Shapes.{none, more}
use Rattle.wrapper_meaning.specs.Words.{AreWords, AreZero, IsWord, bits_of, read_slots, word_of_bits}
use Rattle.abi_bindgen.specs.Code.{payload_words, shared_slots}
use Rattle.abi_bindgen.specs.Constants.{AreCasts, cast_words}
use Rattle.abi_bindgen.specs.Meaning.{Meaning}
use Rattle.abi_bindgen.specs.SlotCasts.{AreOrdered, FitIn, ReadBack, casts_between, is_no_cast}

or_true : (a : Bool) → (a || true) ≡ true
or_true true = refl
or_true false = refl

-- 1. One word

signed_32 : (z : ℤ) → is_signed 31 z ≡ true → cast_signed w32 (low_bits 32 z % 2 ^ 32) ≡ z
signed_32 z h = grind (arith, ints)

signed_64 : (z : ℤ) → is_signed 63 z ≡ true → cast_signed w64 (low_bits 64 z % 2 ^ 64) ≡ z
signed_64 z h = grind (arith, ints)

low_32 : (n : ℕ) → n < 2 ^ 32 → low_bits 32 (cast_signed w32 n) ≡ n
low_32 n l = grind (arith, ints)

low_64 : (n : ℕ) → n < 2 ^ 64 → low_bits 64 (cast_signed w64 n) ≡ n
low_64 n l = grind (arith, ints)

ranged_32 : (n : ℕ) → n < 2 ^ 32 → is_signed 31 (cast_signed w32 n) ≡ true
ranged_32 n l = grind (arith, ints)

ranged_64 : (n : ℕ) → n < 2 ^ 64 → is_signed 63 (cast_signed w64 n) ≡ true
ranged_64 n l = grind (arith, ints)

few_32 : (z : ℤ) → low_bits 32 z < 2 ^ 32
few_32 z = grind (arith, ints)

few_64 : (z : ℤ) → low_bits 64 z < 2 ^ 64
few_64 z = grind (arith, ints)

pub number_signed : (n : ℕ) → n < 2 ^ 31 → cast_signed w32 n ≡ pos n
number_signed n l = grind (arith, ints)

below : (x n : ℕ) → x % 2 ^ n < 2 ^ n
below x n = mod-lt x (pow_pos n)

module _ (w : ℕ) where
  -- the bits of a word are the word's
  pub word_again : (ty : WasmType) (x : Word) → IsWord w ty x → word_of_bits w ty (bits_of x) ≡ x
  word_again I32 (core.I32 z) h = ap core.I32 (signed_32 z h)
  word_again I64 (core.I64 z) h = ap core.I64 (signed_64 z h)
  word_again F32 (core.F32 x) h = ap core.F32 (mod-eq_of_lt h)
  word_again F64 (core.F64 x) h = ap core.F64 (mod-eq_of_lt h)
  word_again Pointer (core.Pointer x) h = ap core.Pointer (mod-eq_of_lt h)
  word_again PointerOrI64 (core.Slot (Some x)) h = ap (λ n. core.Slot (Some n)) (mod-eq_of_lt h)
  word_again Length (core.Length n) h = ap core.Length (mod-eq_of_lt h)
  word_again _ _ h = absurd h

  bits_ranged : (ty : WasmType) (x : Word) → IsWord w ty x → bits_of x < 2 ^ bits w ty
  bits_ranged I32 (core.I32 z) h = few_32 z
  bits_ranged I64 (core.I64 z) h = few_64 z
  bits_ranged F32 (core.F32 x) h = h
  bits_ranged F64 (core.F64 x) h = h
  bits_ranged Pointer (core.Pointer x) h = h
  bits_ranged PointerOrI64 (core.Slot (Some x)) h = h
  bits_ranged Length (core.Length n) h = h
  bits_ranged _ _ h = absurd h

  -- and those of the word of some bits are the low ones
  bits_again : (ty : WasmType) (x : ℕ) → bits_of (word_of_bits w ty x) ≡ x % 2 ^ bits w ty
  bits_again I32 x = low_32 (x % 2 ^ 32) (below x 32)
  bits_again I64 x = low_64 (x % 2 ^ 64) (below x 64)
  bits_again F32 x = refl
  bits_again F64 x = refl
  bits_again Pointer x = refl
  bits_again PointerOrI64 x = refl
  bits_again Length x = refl

  word_ranged : (ty : WasmType) (x : ℕ) → IsWord w ty (word_of_bits w ty x)
  word_ranged I32 x = ranged_32 (x % 2 ^ 32) (below x 32)
  word_ranged I64 x = ranged_64 (x % 2 ^ 64) (below x 64)
  word_ranged F32 x = below x 32
  word_ranged F64 x = below x 64
  word_ranged Pointer x = below x (bits w Pointer)
  word_ranged PointerOrI64 x = below x 64
  word_ranged Length x = below x (bits w Length)

  -- words of the same low bits are the same
  word_by_low : (ty : WasmType) (x y : ℕ) → x % 2 ^ bits w ty ≡ y % 2 ^ bits w ty → word_of_bits w ty x ≡ word_of_bits w ty y
  word_by_low I32 x y h = ap (λ n. core.I32 (cast_signed w32 n)) h
  word_by_low I64 x y h = ap (λ n. core.I64 (cast_signed w64 n)) h
  word_by_low F32 x y h = ap core.F32 h
  word_by_low F64 x y h = ap core.F64 h
  word_by_low Pointer x y h = ap core.Pointer h
  word_by_low PointerOrI64 x y h = ap (λ n. core.Slot (Some n)) h
  word_by_low Length x y h = ap core.Length h

  zero_bits : (ty : WasmType) → bits_of (word_of_bits w ty 0) ≡ 0
  zero_bits ty = bits_again ty 0 ∙ mod-eq_of_lt (pow_pos (bits w ty))

  -- a word that was cast to a slot is read there again
  cast_read : (from to : WasmType) (x : Word) → IsWord w from x → ReadsBack w from to → word_of_bits w from (bits_of (word_of_bits w to (after_cast w (cast from to) (bits_of x)))) ≡ x
  cast_read from to x h back =
      let y = after_cast w (cast from to) (bits_of x) in
      let r = back (bits_of x) (bits_ranged from x h) in
      ap (word_of_bits w from) (bits_again to y ∙ mod-eq_of_lt r.0) ∙ word_by_low from y (bits_of x) (r.1 ∙ sym (mod-eq_of_lt (bits_ranged from x h))) ∙ word_again from x h

-- 2. Joins

number : WasmType → ℕ
number I32 = 0
number I64 = 1
number F32 = 2
number F64 = 3
number Pointer = 4
number PointerOrI64 = 5
number Length = 6

abbrev all_types : List WasmType
all_types = I32 ∷ I64 ∷ F32 ∷ F64 ∷ Pointer ∷ PointerOrI64 ∷ Length ∷ []

numbered : ℕ → WasmType
numbered n = get_or all_types n Length

numbered_again : (ty : WasmType) → numbered (number ty) ≡ ty
unfolding number numbered
numbered_again I32 = refl
numbered_again I64 = refl
numbered_again F32 = refl
numbered_again F64 = refl
numbered_again Pointer = refl
numbered_again PointerOrI64 = refl
numbered_again Length = refl

abbrev is_same : WasmType → WasmType → Bool
is_same a b = nat_eq (number a) (number b)

same : (a b : WasmType) → is_same a b ≡ true → a ≡ b
same a b h = sym (numbered_again a) ∙ ap numbered (eqb-true (number a) (number b) h) ∙ numbered_again b

-- a test of all seven types
abbrev of_all : (WasmType → Bool) → Bool
of_all p = list_all p all_types

all_get : (p : WasmType → Bool) (xs : List WasmType) (i : ℕ) → list_all p xs ≡ true → i < length xs → p (get_or xs i Length) ≡ true
all_get p [] i h l = absurd (omega (arith, l))
all_get p (x ∷ xs) zero h l = (and_parts (p x) (list_all p xs) h).0
all_get p (x ∷ xs) (suc i) h l = all_get p xs i (and_parts (p x) (list_all p xs) h).1 (omega (arith, l))

few_types : (ty : WasmType) → number ty < 7
unfolding number
few_types I32 = omega arith
few_types I64 = omega arith
few_types F32 = omega arith
few_types F64 = omega arith
few_types Pointer = omega arith
few_types PointerOrI64 = omega arith
few_types Length = omega arith

of_each : (p : WasmType → Bool) → of_all p ≡ true → (ty : WasmType) → p ty ≡ true
unfolding numbered
of_each p h ty = subst (λ x. p x ≡ true) (numbered_again ty) (all_get p all_types (number ty) h (few_types ty))

abbrev swaps : WasmType → WasmType → WasmType → Bool
swaps a b c = is_same (join a (join b c)) (join b (join a c))

all_swap : of_all (λ a. of_all (λ b. of_all (λ c. swaps a b c))) ≡ true
unfolding number
all_swap = refl

join_swap : (a b c : WasmType) → join a (join b c) ≡ join b (join a c)
join_swap a b c =
    same (join a (join b c)) (join b (join a c)) (of_each (λ c. swaps a b c) (of_each (λ b. of_all (λ c. swaps a b c)) (of_each (λ a. of_all (λ b. of_all (λ c. swaps a b c))) all_swap a) b) c)

abbrev again : WasmType → WasmType → Bool
again a b = is_same (join a (join a b)) (join a b)

all_again : of_all (λ a. of_all (λ b. again a b)) ≡ true
unfolding number
all_again = refl

join_again : (a b : WasmType) → join a (join a b) ≡ join a b
join_again a b = same (join a (join a b)) (join a b) (of_each (λ b. again a b) (of_each (λ a. of_all (λ b. again a b)) all_again a) b)

abbrev turns : WasmType → WasmType → Bool
turns a b = is_same (join a b) (join b a)

all_turn : of_all (λ a. of_all (λ b. turns a b)) ≡ true
unfolding number
all_turn = refl

join_turn : (a b : WasmType) → join a b ≡ join b a
join_turn a b = same (join a b) (join b a) (of_each (λ b. turns a b) (of_each (λ a. of_all (λ b. turns a b)) all_turn a) b)

join_self : (a : WasmType) → join a a ≡ a
join_self I32 = refl
join_self I64 = refl
join_self F32 = refl
join_self F64 = refl
join_self Pointer = refl
join_self PointerOrI64 = refl
join_self Length = refl

-- 3. The slots that payloads share hold the words of each

fit_self : (xs : List WasmType) → FitIn xs xs
fit_self [] = tt
fit_self (x ∷ xs) = (join_self x, fit_self xs)

fit_left : (xs ys : List WasmType) → FitIn xs (joined xs ys)
fit_left [] ys = tt
fit_left (x ∷ xs) [] = (join_self x, fit_self xs)
fit_left (x ∷ xs) (y ∷ ys) = (join_again x y, fit_left xs ys)

fit_right : (bs cs ds : List WasmType) → FitIn bs ds → FitIn bs (joined cs ds)
fit_right [] cs ds h = tt
fit_right (b ∷ bs) cs [] h = absurd h
fit_right (b ∷ bs) [] (d ∷ ds) h = h
fit_right (b ∷ bs) (c ∷ cs) (d ∷ ds) h = (join_swap b c d ∙ ap (join c) h.0, fit_right bs cs ds h.1)

abbrev AllFit : Shapes → List WasmType → Type 0
AllFit none ds = Unit {0}
AllFit (more t ts) ds = FitIn (flatten_type (layout t)) ds × AllFit ts ds

all_right : (ts : Shapes) (cs ds : List WasmType) → AllFit ts ds → AllFit ts (joined cs ds)
all_right none cs ds h = tt
all_right (more t ts) cs ds h = (fit_right (flatten_type (layout t)) cs ds h.0, all_right ts cs ds h.1)

all_fit : (ts : Shapes) → AllFit ts (slots (layouts ts))
all_fit none = tt
all_fit (more t ts) = (fit_left (flatten_type (layout t)) (slots (layouts ts)), all_right ts (flatten_type (layout t)) (slots (layouts ts)) (all_fit ts))

fit_at : (ss : List Shape) (payloads : List (Option WitType)) (ds : List WasmType) (i : ℕ) (d : Option WitType) → AllFit (payloads_in ss payloads) ds → i < length payloads → FitIn (flatten_type (layout (payload_in ss (get_or payloads i d)))) ds
fit_at ss [] ds i d h l = absurd (omega (arith, l))
fit_at ss (p ∷ payloads) ds zero d h l = h.0
fit_at ss (p ∷ payloads) ds (suc i) d h l = fit_at ss payloads ds i d h.1 (omega (arith, l))

-- the words of a payload fit the slots of all payloads
pub payload_fits : (types : List TypeDef) (payloads : List (Option WitType)) (i : ℕ) (d : Option WitType) → i < length payloads → FitIn (payload_words types (get_or payloads i d)) (shared_slots types payloads)
payload_fits types payloads i d l = fit_at (shapes types) payloads (shared_slots types payloads) i d (all_fit (payloads_in (shapes types) payloads)) l

pub fit_length : (xs ds : List WasmType) → FitIn xs ds → length xs ≤ length ds
fit_length [] ds h = omega arith
fit_length (x ∷ xs) [] h = absurd h
fit_length (x ∷ xs) (d ∷ ds) h = let more = fit_length xs ds h.1 in omega (arith, more)

-- 4. Casts of words to slots

pub to_slots : (xs ds : List WasmType) → FitIn xs ds → AreOrdered xs (take (length xs) ds)
to_slots [] ds h = refl
to_slots (x ∷ xs) [] h = absurd h
to_slots (x ∷ xs) (d ∷ ds) h = (inl h.0, to_slots xs ds h.1)

pub of_slots : (xs ds : List WasmType) → FitIn xs ds → AreOrdered (take (length xs) ds) xs
of_slots [] ds h = refl
of_slots (x ∷ xs) [] h = absurd h
of_slots (x ∷ xs) (d ∷ ds) h = (inr (join_turn d x ∙ h.0), of_slots xs ds h.1)

pub ordered_length : (froms tos : List WasmType) → AreOrdered froms tos → length tos ≡ length froms
ordered_length [] tos h = ap length h
ordered_length (from ∷ froms) [] h = absurd h
ordered_length (from ∷ froms) (to ∷ tos) h = ap suc (ordered_length froms tos h.1)

pub are_casts : (froms tos : List WasmType) → AreOrdered froms tos → AreCasts froms tos (casts_between froms tos)
are_casts [] tos h = subst (λ tys. AreCasts [] tys (casts_between [] tys)) (sym h) refl
are_casts (from ∷ froms) [] h = absurd h
are_casts (from ∷ froms) (to ∷ tos) h = (h.0, refl, are_casts froms tos h.1)

pub casts_length : (froms tos : List WasmType) → AreOrdered froms tos → length (casts_between froms tos) ≡ length froms
casts_length [] tos h = refl
casts_length (from ∷ froms) [] h = absurd h
casts_length (from ∷ froms) (to ∷ tos) h = ap suc (casts_length froms tos h.1)

-- where no cast changes anything, the types are the same
abbrev tells : WasmType → WasmType → Bool
tells a b = not (is_same (join a b) b || is_same (join a b) a) || (not (is_no_cast (cast a b)) || is_same a b)

all_tell : of_all (λ a. of_all (λ b. tells a b)) ≡ true
unfolding number
all_tell = refl

told : (ordered no_cast same : Bool) → (not ordered || (not no_cast || same)) ≡ true → ordered ≡ true → no_cast ≡ true → same ≡ true
told true true same h e f = h
told true false same h e f = absurd cc
told false no_cast same h e f = absurd cc

is_it : (a b : WasmType) → a ≡ b → is_same a b ≡ true
is_it a b e = subst (λ c. is_same a c ≡ true) e (eq-eqb (number a) (number a) refl)

ordered_told : (a b : WasmType) → AreInOrder a b → (is_same (join a b) b || is_same (join a b) a) ≡ true
ordered_told a b (inl e) = ap (λ x. x || is_same (join a b) a) (is_it (join a b) b e)
ordered_told a b (inr e) = ap (λ x. is_same (join a b) b || x) (is_it (join a b) a e) ∙ or_true (is_same (join a b) b)

no_cast_same : (a b : WasmType) → AreInOrder a b → is_no_cast (cast a b) ≡ true → a ≡ b
no_cast_same a b h e =
    same a b (told (is_same (join a b) b || is_same (join a b) a) (is_no_cast (cast a b)) (is_same a b) (of_each (λ b. tells a b) (of_each (λ a. of_all (λ b. tells a b)) all_tell a) b) (ordered_told a b h) e)

module _ {Self Operand : Type 0} (m : Meaning Self Operand) where
  pub cast_length : (froms tos : List WasmType) (ws : List Word) → AreOrdered froms tos → AreWords m.width froms ws → length (cast_words m froms tos ws) ≡ length froms
  cast_length [] tos ws o h = refl
  cast_length (from ∷ froms) [] ws o h = absurd o
  cast_length (from ∷ froms) (to ∷ tos) [] o h = absurd h
  cast_length (from ∷ froms) (to ∷ tos) (x ∷ ws) o h = ap suc (cast_length froms tos ws o.1 h.1)

  one_same : (from to : WasmType) (x : Word) → from ≡ to → is_no_cast (cast from to) ≡ true → IsWord m.width from x → word_of_bits m.width to (after_cast m.width (cast from to) (bits_of x)) ≡ x
  one_same from to x e idle h =
      ap (word_of_bits m.width to) (no_change (cast from to) (bits_of x) idle) ∙ ap (λ ty. word_of_bits m.width ty (bits_of x)) (sym e) ∙ word_again m.width from x h
    where
      no_change : (c : Bitcast) (y : ℕ) → is_no_cast c ≡ true → after_cast m.width c y ≡ y
      no_change bitcast.None y h = refl
      no_change _ y h = absurd cc

  -- where idle cast changes anything, the words stay
  pub no_casts : (froms tos : List WasmType) (ws : List Word) → AreOrdered froms tos → list_all is_no_cast (casts_between froms tos) ≡ true → AreWords m.width froms ws → cast_words m froms tos ws ≡ ws
  no_casts [] tos ws o idle h = sym h
  no_casts (from ∷ froms) [] ws o idle h = absurd o
  no_casts (from ∷ froms) (to ∷ tos) [] o idle h = absurd h
  no_casts (from ∷ froms) (to ∷ tos) (x ∷ ws) o idle h =
      let b = and_parts (is_no_cast (cast from to)) (list_all is_no_cast (casts_between froms tos)) idle in
      ap₂ (λ y ys. y ∷ ys) (one_same from to x (no_cast_same from to o.0 b.0) b.0 h.0) (no_casts froms tos ws o.1 b.1 h.1)

-- 5. Slots that were written are read

module _ {Self Operand : Type 0} (m : Meaning Self Operand) (wide : (m.width ≡ 2) ⊎ (m.width ≡ 3)) where
  at_width : (from to : WasmType) → ReadsBack 2 from to × ReadsBack 3 from to → ReadsBack m.width from to
  at_width from to r = by wide
    where
      by : (m.width ≡ 2) ⊎ (m.width ≡ 3) → ReadsBack m.width from to
      by (inl e) = subst (λ w. ReadsBack w from to) (sym e) r.0
      by (inr e) = subst (λ w. ReadsBack w from to) (sym e) r.1

  abbrev pub written : (xs ds : List WasmType) → List Word → List Word
  written xs ds ws = cast_words m xs (take (length xs) ds) ws ++ map (λ ty. word_of_bits m.width ty 0) (drop (length xs) ds)

  pub zeros_are : (ds : List WasmType) → AreWords m.width ds (map (λ ty. word_of_bits m.width ty 0) ds)
  zeros_are [] = refl
  zeros_are (d ∷ ds) = (word_ranged m.width d 0, zeros_are ds)

  pub zeros_zero : (ds : List WasmType) → AreZero (map (λ ty. word_of_bits m.width ty 0) ds)
  zeros_zero [] = tt
  zeros_zero (d ∷ ds) = (zero_bits m.width d, zeros_zero ds)

  pub written_are : (xs ds : List WasmType) (ws : List Word) → FitIn xs ds → AreWords m.width xs ws → AreWords m.width ds (written xs ds ws)
  written_are [] ds ws f h = zeros_are ds
  written_are (x ∷ xs) [] ws f h = absurd f
  written_are (x ∷ xs) (d ∷ ds) [] f h = absurd h
  written_are (x ∷ xs) (d ∷ ds) (y ∷ ws) f h = (word_ranged m.width d (after_cast m.width (cast x d) (bits_of y)), written_are xs ds ws f.1 h.1)

  pub written_read : (xs ds : List WasmType) (ws : List Word) → FitIn xs ds → AreWords m.width xs ws → ReadBack xs (take (length xs) ds) → read_slots m.width xs (written xs ds ws) ≡ ws
  written_read [] ds ws f h back = sym h
  written_read (x ∷ xs) [] ws f h back = absurd f
  written_read (x ∷ xs) (d ∷ ds) [] f h back = absurd h
  written_read (x ∷ xs) (d ∷ ds) (y ∷ ws) f h back = ap₂ (λ z zs. z ∷ zs) (cast_read m.width x d y h.0 (at_width x d (back.0 f.0))) (written_read xs ds ws f.1 h.1 back.1)

  pub written_left : (xs ds : List WasmType) (ws : List Word) → FitIn xs ds → AreWords m.width xs ws → drop (length xs) (written xs ds ws) ≡ map (λ ty. word_of_bits m.width ty 0) (drop (length xs) ds)
  written_left [] ds ws f h = refl
  written_left (x ∷ xs) [] ws f h = absurd f
  written_left (x ∷ xs) (d ∷ ds) [] f h = absurd h
  written_left (x ∷ xs) (d ∷ ds) (y ∷ ws) f h = written_left xs ds ws f.1 h.1

-- 6. Slots are cast back to the words of a payload

mod_again : (x n : ℕ) → (x % 2 ^ n) % 2 ^ n ≡ x % 2 ^ n
mod_again x n = mod-eq_of_lt (below x n)

-- a word of a slot that is cast back is its low bits
narrowed : (w : ℕ) (ty slot : WasmType) (x : ℕ) → join ty slot ≡ slot → word_of_bits w ty (after_cast w (cast slot ty) x) ≡ word_of_bits w ty x
narrowed w I32 I32 x h = refl
narrowed w I32 I64 x h = word_by_low w I32 (x % 2 ^ 32) x (mod_again x 32)
narrowed w I32 Pointer x h = word_by_low w I32 (x % 2 ^ 32) x (mod_again x 32)
narrowed w I32 Length x h = word_by_low w I32 (x % 2 ^ 32) x (mod_again x 32)
narrowed w I32 PointerOrI64 x h = word_by_low w I32 (x % 2 ^ 32) x (mod_again x 32)
narrowed w F32 F32 x h = refl
narrowed w F32 I32 x h = refl
narrowed w F32 I64 x h = word_by_low w F32 (x % 2 ^ 32) x (mod_again x 32)
narrowed w F32 Pointer x h = word_by_low w F32 (x % 2 ^ 32) x (mod_again x 32)
narrowed w F32 Length x h = word_by_low w F32 (x % 2 ^ 32) x (mod_again x 32)
narrowed w F32 PointerOrI64 x h = word_by_low w F32 (x % 2 ^ 32) x (mod_again x 32)
narrowed w F64 F64 x h = refl
narrowed w F64 I64 x h = refl
narrowed w F64 PointerOrI64 x h = refl
narrowed w I64 I64 x h = refl
narrowed w I64 PointerOrI64 x h = refl
narrowed w Pointer Pointer x h = refl
narrowed w Pointer PointerOrI64 x h = word_by_low w Pointer (x % 2 ^ bits w Pointer) x (mod_again x (bits w Pointer))
narrowed w Length Length x h = refl
narrowed w Length Pointer x h = refl
narrowed w Length I64 x h = word_by_low w Length (x % 2 ^ bits w Length) x (mod_again x (bits w Length))
narrowed w Length PointerOrI64 x h = word_by_low w Length (x % 2 ^ bits w Length) x (mod_again x (bits w Length))
narrowed w PointerOrI64 PointerOrI64 x h = refl
narrowed w _ _ x h = absurd cc

module _ {Self Operand : Type 0} (m : Meaning Self Operand) where
  pub cast_back : (xs ds : List WasmType) (shared : List Word) → FitIn xs ds → AreWords m.width ds shared → cast_words m (take (length xs) ds) xs (take (length xs) shared) ≡ read_slots m.width xs shared
  cast_back [] ds shared f h = refl
  cast_back (x ∷ xs) [] shared f h = absurd f
  cast_back (x ∷ xs) (d ∷ ds) [] f h = absurd h
  cast_back (x ∷ xs) (d ∷ ds) (y ∷ shared) f h = ap₂ (λ z zs. z ∷ zs) (narrowed m.width x d (bits_of y) f.0) (cast_back xs ds shared f.1 h.1)
