-- The names of several locals that have one number: how many they are, and that none stands twice.
use Rattle.std.proofs.Common.{◌≡◌, ℕ, zero, suc, ◌+◌, ◌-◌, ◌<◌, ◌^◌, Bool, true, false, not, ◌&&◌, ◌||◌, List, [], ◌∷◌, ◌++◌, length, refl, sym, ap, ◌∙◌, arith, append_assoc}
use Rattle.std.specs.Prelude.{decimal}
use Rattle.std.specs.List.{list_any}
use Rattle.std.specs.Str.{bytes_eq}
use Rattle.std.proofs.lemmas.Fmt.{decimal_injective}
use Rattle.std.proofs.lemmas.List.{append_cancel_left, map-append}
use Rattle.std.proofs.lemmas.Slice.Eq.{bytes_eq-Decides}
use Rattle.wit_model.specs.Bytes.{Bytes}
use Rattle.wit_model.specs.Distinct.{is_distinct}
use Rattle.func_gen.specs.declared.scope.LocalName.{LocalName}
use Rattle.func_gen.specs.PartForms.{names_from, part_name}
use Rattle.func_gen.specs.Scope.{names_at, numbered, part_mark}

-- one more name, of the next part
pub one_more_part : (prefix : Bytes) (t m n : ℕ) (names : List LocalName) (x : LocalName) → m < n → numbered x t ≡ part_name prefix t m → names_at (names ++ x ∷ []) t ++ names_from prefix t (m + 1) (n - (m + 1)) ≡ names_at names t ++ names_from prefix t m (n - m)
one_more_part prefix t m n names x below is =
    let left : n - m ≡ suc (n - (m + 1)) = omega (arith, below) in
    let later = names_from prefix t (m + 1) (n - (m + 1)) in
    ap (λ ns. ns ++ later) (map-append (λ (l : LocalName). numbered l t) names (x ∷ [])) ∙ append_assoc (names_at names t) (numbered x t ∷ []) later
    ∙ ap (λ n. names_at names t ++ n ∷ later) is ∙ ap (λ k. names_at names t ++ names_from prefix t m k) (sym left)

pub names_many : (prefix : Bytes) (t part k : ℕ) → length (names_from prefix t part k) ≡ k
names_many prefix t part zero = refl
names_many prefix t part (suc k) = ap suc (names_many prefix t (part + 1) k)

pub other_part : (prefix : Bytes) (t m n : ℕ) → m < 2 ^ 64 → n < m → bytes_eq (part_name prefix t m) (part_name prefix t n) ≡ false
unfolding part_mark
other_part prefix t m n small below = go (bytes_eq (part_name prefix t m) (part_name prefix t n)) refl
  where
    go : (b : Bool) → bytes_eq (part_name prefix t m) (part_name prefix t n) ≡ b → bytes_eq (part_name prefix t m) (part_name prefix t n) ≡ false
    go true e =
        let same : part_mark ++ decimal m ≡ part_mark ++ decimal n = append_cancel_left (prefix ++ decimal t) (part_mark ++ decimal m) (part_mark ++ decimal n) ((bytes_eq-Decides (part_name prefix t m) (part_name prefix t n)).0 e) in
        let numbers : decimal m ≡ decimal n = cc in
        let is : m ≡ n = decimal_injective m n small (omega arith) numbers in
        absurd (omega arith)
    go false e = e

no_part : (prefix : Bytes) (t n m k : ℕ) → n < m → m + k < 2 ^ 64 → list_any (λ u. bytes_eq u (part_name prefix t n)) (names_from prefix t m k) ≡ false
no_part prefix t n m zero below small = refl
no_part prefix t n m (suc k) below small =
    ap (λ b. b || list_any (λ u. bytes_eq u (part_name prefix t n)) (names_from prefix t (m + 1) k)) (other_part prefix t m n (omega arith) below) ∙ no_part prefix t n (m + 1) k (omega arith) (omega arith)

pub parts_distinct : (prefix : Bytes) (t m k : ℕ) → m + k < 2 ^ 64 → is_distinct (names_from prefix t m k) ≡ true
parts_distinct prefix t m zero small = refl
parts_distinct prefix t m (suc k) small =
    ap (λ b. not b && is_distinct (names_from prefix t (m + 1) k)) (no_part prefix t m (m + 1) k (omega arith) (omega arith)) ∙ parts_distinct prefix t (m + 1) k (omega arith)
