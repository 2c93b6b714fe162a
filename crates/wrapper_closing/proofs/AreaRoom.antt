-- An area that is the greatest of what was asked for has room for each record.
use Rattle.std.proofs.Common.{◌≡◌, ◌⊎◌, inl, inr, ◌≤◌, ◌<◌, ℕ, ◌+◌, ◌*◌, ◌-◌, ◌/◌, ◌%◌, ◌^◌, Bool, true, false, if◌then◌else◌, nat_le, List, [], ◌∷◌, map, refl, sym, ◌∙◌, subst, arith}
use Rattle.std.specs.Prelude.{max}
use Rattle.std.specs.List.{AllByRecursion, fold}
use Rattle.std.proofs.lemmas.Bool.{and_parts}
use Rattle.std.proofs.lemmas.Bool.Decides.{nat_tests}
use Rattle.std.proofs.Math.Nat.{le-max_left, le-max_right, max-eq_left, max-eq_right}
use Rattle.std.proofs.Math.Pow.{pow_mono}
use Rattle.std.proofs.lemmas.Nat.{pow_pos}
use Rattle.wit_model.specs.Size.{alignment_at, bytes_at, greater_alignment, greater_size, is_at_least, paired, rounded_up}
use Rattle.wit_model.specs.declared.size.Alignment.{Alignment}
use Rattle.wit_model.specs.declared.size.Alignment.TheVariants.{Bytes, Pointer}
use Rattle.wit_model.specs.declared.size.ArchitectureSize.{ArchitectureSize}
use Rattle.wrapper_meaning.specs.Shape.{Shape}
use Rattle.wrapper_meaning.proofs.PartPlaces.{less_grain}
use Rattle.wrapper_run.specs.Places.{request_of}
use Rattle.abi_bindgen.specs.declared.bindgen.Asked.{Asked}
use Rattle.abi_bindgen.specs.Area.{AreFor, HasRoomFor}
use Rattle.func_gen.specs.Body.{asked_alignment, asked_size}

-- 1. Sizes, where a pointer has four bytes

-- two roundings, at both widths, as one size
at_least : (x y : ℕ) → x ≤ (2 * (x * 4) - y * 8) + (y * 8 - x * 4) / 4 * 4
at_least x y = omega arith

pair_at_least : (n m : ℕ) → n ≤ bytes_at (paired (rounded_up 4 n) (rounded_up 8 m)) 4
pair_at_least n m = let low : n ≤ (n + 3) / 4 * 4 = omega arith in omega (arith, low, at_least ((n + 3) / 4) ((m + 7) / 8))

pub greater_first : (a b : ArchitectureSize) → bytes_at a 4 ≤ bytes_at (greater_size a b) 4
greater_first a b = go (is_at_least a b) refl (is_at_least b a) refl
  where
    go : (c : Bool) → is_at_least a b ≡ c → (d : Bool) → is_at_least b a ≡ d
        → bytes_at a 4 ≤ bytes_at (if c then a else (if d then b else paired (rounded_up 4 (max (bytes_at a 4) (bytes_at b 4))) (rounded_up 8 (max (bytes_at a 8) (bytes_at b 8))))) 4
    go true e d f = omega arith
    go false e true f = let h = (and_parts (nat_le (bytes_at a 4) (bytes_at b 4)) (nat_le (bytes_at a 8) (bytes_at b 8)) f).0 in grind (arith, nat_tests)
    go false e false f = omega (arith, le-max_left (bytes_at a 4) (bytes_at b 4), pair_at_least (max (bytes_at a 4) (bytes_at b 4)) (max (bytes_at a 8) (bytes_at b 8)))

pub greater_second : (a b : ArchitectureSize) → bytes_at b 4 ≤ bytes_at (greater_size a b) 4
greater_second a b = go (is_at_least a b) refl (is_at_least b a) refl
  where
    go : (c : Bool) → is_at_least a b ≡ c → (d : Bool) → is_at_least b a ≡ d
        → bytes_at b 4 ≤ bytes_at (if c then a else (if d then b else paired (rounded_up 4 (max (bytes_at a 4) (bytes_at b 4))) (rounded_up 8 (max (bytes_at a 8) (bytes_at b 8))))) 4
    go true e d f = let h = (and_parts (nat_le (bytes_at b 4) (bytes_at a 4)) (nat_le (bytes_at b 8) (bytes_at a 8)) e).0 in grind (arith, nat_tests)
    go false e true f = omega arith
    go false e false f = omega (arith, le-max_right (bytes_at a 4) (bytes_at b 4), pair_at_least (max (bytes_at a 4) (bytes_at b 4)) (max (bytes_at a 8) (bytes_at b 8)))

-- 2. Alignments, where a pointer has four bytes

abbrev IsPower : ℕ → Type 0
IsPower n = (grain : ℕ) × (n ≡ 2 ^ grain)

greater_is_max : (a b : Alignment) → alignment_at (greater_alignment a b) 4 ≡ max (alignment_at a 4) (alignment_at b 4)
greater_is_max Pointer Pointer = refl
greater_is_max Pointer (Bytes n) = go (nat_le n 4) refl
  where
    go : (c : Bool) → nat_le n 4 ≡ c → alignment_at (if c then Pointer else Bytes n) 4 ≡ max 4 n
    go true e = let l : n ≤ 4 = grind (arith, nat_tests) in sym (max-eq_left l)
    go false e = let l : 4 ≤ n = grind (arith, nat_tests) in sym (max-eq_right l)
greater_is_max (Bytes n) Pointer = go (nat_le n 4) refl
  where
    go : (c : Bool) → nat_le n 4 ≡ c → alignment_at (if c then Pointer else Bytes n) 4 ≡ max n 4
    go true e = let l : n ≤ 4 = grind (arith, nat_tests) in sym (max-eq_right l)
    go false e = let l : 4 ≤ n = grind (arith, nat_tests) in sym (max-eq_left l)
greater_is_max (Bytes m) (Bytes n) = refl

-- what is aligned to the greater is aligned to the smaller
pub record Finer (big small : ℕ) : Type 0 where
  pub aligned : (q : ℕ) → q % big ≡ 0 → q % small ≡ 0

finer_power : (big small g k : ℕ) → big ≡ 2 ^ g → small ≡ 2 ^ k → k ≤ g → Finer big small
finer_power big small g k e f l = record { aligned = λ q h. subst (λ z. q % z ≡ 0) (sym f) (less_grain q g k (subst (λ z. q % z ≡ 0) e h) l) }

finer_then : (a b c : ℕ) → Finer a b → Finer b c → Finer a c
finer_then a b c f g = record { aligned = λ q h. g.aligned q (f.aligned q h) }

either : (a b : ℕ) → (a ≤ b) ⊎ (b ≤ a)
either a b = go (nat_le a b) refl
  where
    go : (c : Bool) → nat_le a b ≡ c → (a ≤ b) ⊎ (b ≤ a)
    go true e = inl (grind (arith, nat_tests))
    go false e = inr (grind (arith, nat_tests))

-- of two powers the greater is one, and finer than both
greater_power : (m n : ℕ) → IsPower m → IsPower n → IsPower (max m n) × Finer (max m n) m × Finer (max m n) n
greater_power m n (g, e) (k, f) = go (either g k)
  where
    go : (g ≤ k) ⊎ (k ≤ g) → IsPower (max m n) × Finer (max m n) m × Finer (max m n) n
    go (inl l) =
        let is : max m n ≡ 2 ^ k = max-eq_right (omega (arith, e, f, pow_mono l)) ∙ f in
        ((k, is), finer_power (max m n) m k g is e l, finer_power (max m n) n k k is f (omega arith))
    go (inr l) =
        let is : max m n ≡ 2 ^ g = max-eq_left (omega (arith, e, f, pow_mono l)) ∙ e in
        ((g, is), finer_power (max m n) m g g is e (omega arith), finer_power (max m n) n g k is f l)

-- 3. What was asked for

abbrev ArePowers : List Asked → Type 0
ArePowers asked = AllByRecursion (λ a. IsPower (alignment_at a.align 4)) asked

abbrev sizes_from : ArchitectureSize → List Asked → ArchitectureSize
sizes_from size asked = fold greater_size size (map (λ a. a.size) asked)

abbrev alignments_from : Alignment → List Asked → Alignment
alignments_from align asked = fold greater_alignment align (map (λ a. a.align) asked)

-- a record has room, and is aligned, in what is so large and so aligned
abbrev Suits : ArchitectureSize → Alignment → Asked → Type 0
Suits size align a = (bytes_at a.size 4 ≤ bytes_at size 4) × Finer (alignment_at align 4) (alignment_at a.align 4)

record Greatest (size : ArchitectureSize) (align : Alignment) (asked : List Asked) : Type 0 where
  large : bytes_at size 4 ≤ bytes_at (sizes_from size asked) 4
  power : IsPower (alignment_at (alignments_from align asked) 4)
  fine : Finer (alignment_at (alignments_from align asked) 4) (alignment_at align 4)
  each : AllByRecursion (Suits (sizes_from size asked) (alignments_from align asked)) asked

greatest : (size : ArchitectureSize) (align : Alignment) (asked : List Asked) → IsPower (alignment_at align 4) → ArePowers asked → Greatest size align asked
greatest size align [] (g, e) h = record { large = omega arith; power = (g, e); fine = finer_power _ _ g g e e (omega arith); each = tt }
greatest size align (a ∷ asked) p h =
    let both = greater_power (alignment_at align 4) (alignment_at a.align 4) p h.0 in
    let is = sym (greater_is_max align a.align) in
    let later = greatest (greater_size size a.size) (greater_alignment align a.align) asked (both.0.0, sym is ∙ both.0.1) h.1 in
    let one : Finer (alignment_at (greater_alignment align a.align) 4) (alignment_at align 4) = subst (λ z. Finer z (alignment_at align 4)) is both.1 in
    let two : Finer (alignment_at (greater_alignment align a.align) 4) (alignment_at a.align 4) = subst (λ z. Finer z (alignment_at a.align 4)) is both.2 in
    record {
      large = omega (arith, later.large, greater_first size a.size);
      power = later.power;
      fine = finer_then _ _ _ later.fine one;
      each = ((omega (arith, later.large, greater_second size a.size), finer_then _ _ _ later.fine two), later.each);
    }

-- records of shapes are aligned to powers of two
powers : (ts : List Shape) (asked : List Asked) → AreFor ts asked → ArePowers asked
powers [] [] h = tt
powers [] (a ∷ asked) h = absurd h
powers (t ∷ ts) [] h = absurd h
powers (t ∷ ts) (a ∷ asked) (size, align, h) = ((_, align.0), powers ts asked h)

have_room : (size : ArchitectureSize) (align : Alignment) (asked : List Asked) → AllByRecursion (Suits size align) asked → AllByRecursion (HasRoomFor 2 (request_of size align)) asked
have_room size align [] h = tt
have_room size align (a ∷ asked) ((large, fine), h) = (record { size = large; aligned = fine.aligned }, have_room size align asked h)

abbrev nothing_asked : ArchitectureSize
nothing_asked = record { bytes = 0; pointers = 0 }

pub area_room : (ts : List Shape) (asked : List Asked) → AreFor ts asked → AllByRecursion (HasRoomFor 2 (request_of (asked_size asked) (asked_alignment asked))) asked
area_room ts asked h = have_room (asked_size asked) (asked_alignment asked) asked (greatest nothing_asked (Bytes 1) asked (0, refl) (powers ts asked h)).each

-- the area has as many bytes as the first record at least, and an alignment
pub area_aligned : (ts : List Shape) (asked : List Asked) → AreFor ts asked → 0 < alignment_at (asked_alignment asked) 4
area_aligned ts asked h = let g = (greatest nothing_asked (Bytes 1) asked (0, refl) (powers ts asked h)).power in omega (arith, g.1, pow_pos g.0)

pub area_large : (ts : List Shape) (a : Asked) (asked : List Asked) → AreFor ts (a ∷ asked) → bytes_at a.size 4 ≤ bytes_at (asked_size (a ∷ asked)) 4
area_large ts a asked h = (area_room ts (a ∷ asked) h).0.size
