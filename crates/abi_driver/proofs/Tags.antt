-- Tags in memory: how many bytes they have, and that these keep the number of a case.
use Rattle.std.proofs.Common.{◌≡◌, ◌⊎◌, ℕ, ◌+◌, ◌*◌, ◌%◌, ◌^◌, ◌<◌, ◌≤◌, max, nat_le, Bool, true, false, if◌then◌else◌, pos, List, [], ◌∷◌, length, refl, sym, ap, ap₂, ◌∙◌, subst, arith}
use Rattle.std.specs.Int.{w32, cast_signed}
use Rattle.std.proofs.lemmas.Bool.{leb-true}
use Rattle.std.proofs.lemmas.Int.{ints}
use mathlib.Core.Logic.{inl, inr}
use Rattle.wit_model.specs.Size.{rounded_up}
use Rattle.wit_layout.specs.Extent.{Extent, discriminant_grain, extent, greater, greatest, record_of_grain}
use Rattle.wit_layout.specs.Sizes.{extent_of, extents_of}
use Rattle.wrapper_meaning.specs.Layout.{layout, layouts}
use Rattle.wrapper_meaning.specs.Numbers.{low_bits}
use Rattle.wrapper_meaning.specs.Shape.{bare}
use Rattle.wrapper_meaning.specs.Shape.Shape.{cases}
use Rattle.abi_bindgen.proofs.BareCases.{tree_count}
use Rattle.abi_driver.proofs.ScalarsInMemory.{low_of_nat}

-- 1. How many bytes a tag has

one_of_three : (a b : Bool) → let g : ℕ = if a then 0 else (if b then 1 else 2) in (g ≡ 0) ⊎ ((g ≡ 1) ⊎ (g ≡ 2))
one_of_three true b = inl refl
one_of_three false true = inr (inl refl)
one_of_three false false = inr (inr refl)

pub tag_grains : (n : ℕ) → (discriminant_grain n ≡ 0) ⊎ ((discriminant_grain n ≡ 1) ⊎ (discriminant_grain n ≡ 2))
tag_grains n = one_of_three (nat_le n 256) (nat_le n 65536)

pub tag_grain_small : (n : ℕ) → discriminant_grain n ≤ 2
tag_grain_small n = by (tag_grains n)
  where
    by : {g : ℕ} → (g ≡ 0) ⊎ ((g ≡ 1) ⊎ (g ≡ 2)) → g ≤ 2
    by (inl e) = omega (arith, e)
    by (inr (inl e)) = omega (arith, e)
    by (inr (inr e)) = omega (arith, e)

-- 2. A tag without payloads

absent : {A : Type 0} (w : ℕ) (members : List A) → greatest (extents_of w (layouts (bare members))) ≡ extent 0 0
absent w [] = refl
absent w (x ∷ members) = ap (greater (extent 0 0)) (absent w members)

-- a tag alone, of a grain
abbrev tag_alone : ℕ → Extent
tag_alone g = record_of_grain (max g 0) (rounded_up (2 ^ 0) (2 ^ g) + 0)

alone_is : (g : ℕ) → (g ≡ 0) ⊎ ((g ≡ 1) ⊎ (g ≡ 2)) → tag_alone g ≡ extent g (2 ^ g)
alone_is g (inl e) = subst (λ n. tag_alone n ≡ extent n (2 ^ n)) (sym e) refl
alone_is g (inr (inl e)) = subst (λ n. tag_alone n ≡ extent n (2 ^ n)) (sym e) refl
alone_is g (inr (inr e)) = subst (λ n. tag_alone n ≡ extent n (2 ^ n)) (sym e) refl

pub bare_extent : {A : Type 0} (w : ℕ) (members : List A) → extent_of w (layout (cases (bare members))) ≡ extent (discriminant_grain (length members)) (2 ^ discriminant_grain (length members))
bare_extent w members =
    ap₂ (λ (n : ℕ) (e : Extent). record_of_grain (max (discriminant_grain n) e.grain) (rounded_up (2 ^ e.grain) (2 ^ discriminant_grain n) + e.bytes)) (tree_count members) (absent w members)
    ∙ alone_is (discriminant_grain (length members)) (tag_grains (length members))

-- 3. The number of a case

low_8 : (n : ℕ) → n < 256 → low_bits 8 (pos n) ≡ n
low_8 n l = grind (arith, ints)

low_16 : (n : ℕ) → n < 65536 → low_bits 16 (pos n) ≡ n
low_16 n l = grind (arith, ints)

-- so many cases have numbers of so many bits
tag_bits : (k n : ℕ) (a b : Bool) → nat_le k 256 ≡ a → nat_le k 65536 ≡ b → n < k → k ≤ 2 ^ 31 → low_bits (8 * 2 ^ (if a then 0 else (if b then 1 else 2))) (pos n) ≡ n
tag_bits k n true b small few l most = let h = leb-true k 256 small in low_8 n (omega (arith, h, l))
tag_bits k n false true small few l most = let h = leb-true k 65536 few in low_16 n (omega (arith, h, l))
tag_bits k n false false small few l most = low_of_nat n (omega (arith, l, most))

pub tag_is : (k n : ℕ) → n < k → k ≤ 2 ^ 31 → low_bits (8 * 2 ^ discriminant_grain k) (pos n) ≡ n
tag_is k n l most = tag_bits k n (nat_le k 256) (nat_le k 65536) refl refl l most

-- a word keeps a number of so many bytes

kept : (k n : ℕ) (a b : Bool) → nat_le k 256 ≡ a → nat_le k 65536 ≡ b → n < k → k ≤ 2 ^ 31 → low_bits 32 (pos n) % 256 ^ (2 ^ (if a then 0 else (if b then 1 else 2))) ≡ n
kept k n true b small few l most = let h = leb-true k 256 small in let same = low_of_nat n (omega (arith, l, most)) in omega (arith, same, h, l)
kept k n false true small few l most = let h = leb-true k 65536 few in let same = low_of_nat n (omega (arith, l, most)) in omega (arith, same, h, l)
kept k n false false small few l most = let same = low_of_nat n (omega (arith, l, most)) in omega (arith, same, l, most)

pub tag_kept : (k n : ℕ) → n < k → k ≤ 2 ^ 31 → low_bits 32 (pos n) % 256 ^ (2 ^ discriminant_grain k) ≡ n
tag_kept k n l most = kept k n (nat_le k 256) (nat_le k 65536) refl refl l most

read_8 : (n : ℕ) → n < 256 → low_bits 8 (cast_signed w32 (n % 2 ^ 32)) ≡ n
read_8 n l = grind (arith, ints)

read_16 : (n : ℕ) → n < 65536 → low_bits 16 (cast_signed w32 (n % 2 ^ 32)) ≡ n
read_16 n l = grind (arith, ints)

pub read_32 : (n : ℕ) → n < 2 ^ 32 → low_bits 32 (cast_signed w32 (n % 2 ^ 32)) ≡ n
read_32 n l = grind (arith, ints)

loaded : (n : ℕ) (a b : Bool) → n < 256 ^ (2 ^ (if a then 0 else (if b then 1 else 2))) → low_bits (8 * 2 ^ (if a then 0 else (if b then 1 else 2))) (cast_signed w32 (n % 2 ^ 32)) ≡ n
loaded n true b l = read_8 n (omega (arith, l))
loaded n false true l = read_16 n (omega (arith, l))
loaded n false false l = read_32 n (omega (arith, l))

pub tag_loaded : (k n : ℕ) → n < 256 ^ (2 ^ discriminant_grain k) → low_bits (8 * 2 ^ discriminant_grain k) (cast_signed w32 (n % 2 ^ 32)) ≡ n
tag_loaded k n l = loaded n (nat_le k 256) (nat_le k 65536) l
