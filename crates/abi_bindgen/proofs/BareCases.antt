-- Cases without payload: what a value of an enum is as a word, and which blocks it has in memory.
use Rattle.std.proofs.Common.{◌≡◌, ℕ, suc, ◌%◌, ◌^◌, ◌<◌, true, pos, List, [], ◌∷◌, length, refl, ap, arith}
use Rattle.std.specs.Int.{w32, cast_signed}
use Rattle.std.proofs.lemmas.Int.{ints}
use mathlib.Core.Logic.{inl, inr}
use Rattle.wit_layout.specs.Extent.{Extent}
use Rattle.wit_layout.specs.Flat.{slots}
use Rattle.wit_layout.specs.Sizes.{count}
use Rattle.wrapper_data.specs.declared.block.Block.{Block}
use Rattle.wrapper_data.specs.declared.choice.Request.{Request}
use Rattle.wrapper_data.specs.declared.word.Word.{Word}
use Rattle.wrapper_meaning.specs.AsWords.{AreLeftOver, CaseSays}
use Rattle.wrapper_meaning.specs.Direction.{Direction, give, lend, make, take}
use Rattle.wrapper_meaning.specs.InMemory.{CaseHolds}
use Rattle.wrapper_meaning.specs.Layout.{layouts}
use Rattle.wrapper_meaning.specs.Numbers.{is_signed}
use Rattle.wrapper_meaning.specs.Requests.{case_requests}
use Rattle.wrapper_meaning.specs.Settled.{settled_case}
use Rattle.wrapper_meaning.specs.Shape.{bare}
use Rattle.wrapper_meaning.specs.Value.{Case, case_number}
use Rattle.abi_bindgen.specs.Parts.{count as shape_count}

-- 1. Layouts

pub count_bare : {A : Type 0} (members : List A) → shape_count (bare members) ≡ length members
count_bare [] = refl
count_bare (x ∷ members) = ap suc (count_bare members)

pub tree_count : {A : Type 0} (members : List A) → count (layouts (bare members)) ≡ length members
tree_count [] = refl
tree_count (x ∷ members) = ap suc (tree_count members)

pub no_slots : {A : Type 0} (members : List A) → slots (layouts (bare members)) ≡ []
no_slots [] = refl
no_slots (x ∷ members) = no_slots members

-- 2. Nothing stands behind the tag

left_none : (dir : Direction) → AreLeftOver dir []
left_none take = tt
left_none give = tt
left_none (lend blocks) = tt
left_none (make blocks) = tt

pub bare_says : {A : Type 0} (w : ℕ) (dir : Direction) (members : List A) (c : Case (bare members)) → CaseSays w dir (bare members) c [] []
bare_says w dir [] c = elim c [ ]
bare_says w dir (x ∷ members) (inl v) = ((refl, refl), left_none dir)
bare_says w dir (x ∷ members) (inr c) = bare_says w dir members c

pub none_said : {A : Type 0} (w : ℕ) (dir : Direction) (members : List A) (c : Case (bare members)) (shared : List Word) (own : List Block) → CaseSays w dir (bare members) c shared own → own ≡ []
none_said w dir [] c shared own h = elim c [ ]
none_said w dir (x ∷ members) (inl v) shared own h = h.0.1
none_said w dir (x ∷ members) (inr c) shared own h = none_said w dir members c shared own h

pub bare_holds : {A : Type 0} (w : ℕ) (dir : Direction) (members : List A) (c : Case (bare members)) (b : Block) (k : ℕ) → CaseHolds w dir (bare members) c b k []
bare_holds w dir [] c b k = elim c [ ]
bare_holds w dir (x ∷ members) (inl v) b k = refl
bare_holds w dir (x ∷ members) (inr c) b k = bare_holds w dir members c b k

pub none_held : {A : Type 0} (w : ℕ) (dir : Direction) (members : List A) (c : Case (bare members)) (b : Block) (k : ℕ) (own : List Block) → CaseHolds w dir (bare members) c b k own → own ≡ []
none_held w dir [] c b k own h = elim c [ ]
none_held w dir (x ∷ members) (inl v) b k own h = h
none_held w dir (x ∷ members) (inr c) b k own h = none_held w dir members c b k own h

pub bare_settled : {A : Type 0} (members : List A) (c : Case (bare members)) → settled_case (bare members) c ≡ c
bare_settled [] c = elim c [ ]
bare_settled (x ∷ members) (inl v) = refl
bare_settled (x ∷ members) (inr c) = ap (λ d. inr d) (bare_settled members c)

-- and nothing is asked for
pub bare_asks : {A : Type 0} (w : ℕ) (asked : ℕ → Extent → List Request) (members : List A) (c : Case (bare members)) → case_requests w asked (bare members) c ≡ []
bare_asks w asked [] c = elim c [ ]
bare_asks w asked (x ∷ members) (inl v) = refl
bare_asks w asked (x ∷ members) (inr c) = bare_asks w asked members c

-- 3. The number of a case

pub case_below : {A : Type 0} (members : List A) (c : Case (bare members)) → case_number (bare members) c < length members
case_below [] c = elim c [ ]
case_below (x ∷ members) (inl v) = omega arith
case_below (x ∷ members) (inr c) = let later = case_below members c in omega (arith, later)

-- below 2^31 it is read as it is
pub read_number : (n : ℕ) → n < 2 ^ 31 → cast_signed w32 (n % 2 ^ 32) ≡ pos n
read_number n l = grind (arith, ints)

pub number_ranged : (n : ℕ) → n < 2 ^ 31 → is_signed 31 (pos n) ≡ true
number_ranged n l = grind (arith, ints)
