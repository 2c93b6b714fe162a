-- What is plain is held alike in each direction, and a list of such lies in memory as its elements do.
use Rattle.std.proofs.Common.{◌≡◌, ◌+◌, ◌*◌, ℕ, zero, suc, true, false, MatchBool, List, [], ◌∷◌, ◌++◌, length, Some, None, is_none, slice_get, refl, sym, ap, ap₂, subst, arith, ◌∙◌}
use Rattle.std.proofs.lemmas.Bool.{and_parts, true≢false}
use Rattle.wrapper_data.specs.declared.block.Block.{Block}
use Rattle.wrapper_data.specs.declared.value.RustValue.{RustValue}
use Rattle.wrapper_data.specs.declared.value.RustValue.TheVariants as value
use Rattle.wrapper_data.specs.declared.word.Word.TheVariants as word
use Rattle.wit_layout.specs.Extent.{place}
use Rattle.wit_layout.specs.Sizes.{elem_size, extent_of}
use Rattle.wrapper_meaning.specs.Buffer.{IsBuffer}
use Rattle.wrapper_meaning.specs.Direction.{Direction}
use Rattle.wrapper_meaning.specs.InMemory.{EachHolds, Holder, Holds, PartsHold}
use Rattle.wrapper_meaning.specs.Kinds.{are_plain, is_plain}
use Rattle.wrapper_meaning.specs.Laws.{BufferIsItsWords, ListIsItsElements, PlainIsAlike}
use Rattle.wrapper_meaning.specs.Layout.{layout}
use Rattle.wrapper_meaning.specs.Shape.{Shape, Shapes}
use Rattle.wrapper_meaning.specs.Shape.Shape.{scalar, fixed, fields}
use Rattle.wrapper_meaning.specs.Shape.Shapes.{none, more}
use Rattle.wrapper_meaning.specs.StandsFor.{EachStands, Stands, StandsAsBuffer}
use Rattle.wrapper_meaning.proofs.Lists.{some_same}
use Rattle.wrapper_meaning.proofs.RustValues.{buffer_same}
use Rattle.wrapper_meaning.proofs.NoLists.{no_blocks}

-- what holds a value has no blocks, and is held otherwise too
abbrev AlikeHeld : {A : Type 0} → Holder A → Holder A → Type 0
AlikeHeld {A} holds otherwise = (v : A) (b : Block) (k : ℕ) (blocks : List Block) → holds v b k blocks → (blocks ≡ []) × otherwise v b k []

each_alike : {A : Type 0} (holds otherwise : Holder A) (size : ℕ) → AlikeHeld holds otherwise → AlikeHeld (EachHolds holds size) (EachHolds otherwise size)
each_alike holds otherwise size alike [] b k blocks h = (h, refl)
each_alike holds otherwise size alike (v ∷ vs) b k blocks (first, rest, h, hs, all) =
    let one = alike v b k first h in
    let others = each_alike holds otherwise size alike vs b (k + size) rest hs in
    (no_blocks blocks first rest all one.0 others.0, ([], [], one.1, others.1, refl))

module _ (w : ℕ) (dir another : Direction) where
  not_plain : {A : Type 0} → false ≡ true → A
  not_plain p = absurd (true≢false (sym p))

  mutual
    holds_alike : (t : Shape) → is_plain t ≡ true → AlikeHeld (Holds w dir t) (Holds w another t)
    holds_alike (scalar s) p v b k blocks h = (h.1, (h.0, refl))
    holds_alike (fixed t n) p vs b k blocks h = each_alike (Holds w dir t) (Holds w another t) (elem_size w (layout t)) (holds_alike t p) vs b k blocks h
    holds_alike (fields ts) p v b k blocks h = parts_alike ts p 0 v b k blocks h
    holds_alike _ p v b k blocks h = not_plain p

    parts_alike : (ts : Shapes) → are_plain ts ≡ true → (behind : ℕ) → AlikeHeld (λ v. PartsHold w dir ts v behind) (λ v. PartsHold w another ts v behind)
    parts_alike none p behind v b k blocks h = (h, refl)
    parts_alike (more t ts) p behind v b k blocks (first, rest, h, hs, all) =
        let both = and_parts (is_plain t) (are_plain ts) p in
        let one = holds_alike t both.0 v.0 b (k + place (extent_of w (layout t)) behind) first h in
        let others = parts_alike ts both.1 (place (extent_of w (layout t)) behind + elem_size w (layout t)) v.1 b k rest hs in
        (no_blocks blocks first rest all one.0 others.0, ([], [], one.1, others.1, refl))

pub plain_is_alike : PlainIsAlike
plain_is_alike w dir another t v b k blocks p h = holds_alike w dir another t p v b k blocks h

-- each element is held at its place
abbrev EachAtPlace : {A : Type 0} → Holder A → ℕ → List A → Block → ℕ → Type 0
EachAtPlace {A} holds size vs b k = (i : ℕ) (v : A) → slice_get vs i ≡ Some v → holds v b (k + i * size) []

no_element : {A : Type 0} {B : Type 0} (v : A) → None ≡ Some v → B
no_element v e = absurd (true≢false (ap is_none e))

to_places : {A : Type 0} (holds : Holder A) (size : ℕ) → AlikeHeld holds holds → (vs : List A) (b : Block) (k : ℕ) (blocks : List Block) → EachHolds holds size vs b k blocks → EachAtPlace holds size vs b k
to_places holds size alike [] b k blocks h i v e = no_element v e
to_places holds size alike (x ∷ vs) b k blocks (first, rest, h, hs, all) zero v e =
    subst (λ o. holds v b o []) (omega (arith)) (subst (λ y. holds y b k []) (some_same x v e) (alike x b k first h).1)
to_places holds size alike (x ∷ vs) b k blocks (first, rest, h, hs, all) (suc i) v e =
    subst (λ o. holds v b o []) (omega (arith)) (to_places holds size alike vs b (k + size) rest hs i v e)

from_places : {A : Type 0} (holds : Holder A) (size : ℕ) (vs : List A) (b : Block) (k : ℕ) → EachAtPlace holds size vs b k → EachHolds holds size vs b k []
from_places holds size [] b k at = refl
from_places holds size (x ∷ vs) b k at =
    ([], [], subst (λ o. holds x b o []) (omega (arith)) (at 0 x refl), from_places holds size vs b (k + size) (λ i v e. subst (λ o. holds v b o []) (omega (arith)) (at (suc i) v e)), refl)

pub list_is_its_elements : ListIsItsElements
list_is_its_elements w dir t vs b k p =
    (to_places (Holds w dir t) (elem_size w (layout t)) (λ v c o blocks h. holds_alike w dir dir t p v c o blocks h) vs b k [], from_places (Holds w dir t) (elem_size w (layout t)) vs b k)

pub buffer_is_its_words : BufferIsItsWords
buffer_is_its_words w dir t vs address entries owned blocks p h =
    let stands : StandsAsBuffer w dir (length vs) (extent_of w (layout t)) (EachHolds (Holds w dir t) (elem_size w (layout t)) vs) (value.Buffer address entries owned) blocks =
    subst (λ q. MatchBool q (StandsAsBuffer w dir (length vs) (extent_of w (layout t)) (EachHolds (Holds w dir t) (elem_size w (layout t)) vs) (value.Buffer address entries owned) blocks)
    ((rs : List RustValue) × (value.Buffer address entries owned ≡ value.Seq rs) × EachStands (Stands w dir t) vs rs blocks)) p h in
    let same = buffer_same address stands.address entries (length vs) owned stands.owned stands.is in
    record {
      address = stands.address;
      pair = ap₂ (λ a n. word.Pointer a ∷ word.Length n ∷ []) same.0 same.1;
      range = stands.range;
      buffer = subst (λ q. IsBuffer dir q stands.address (length vs) (extent_of w (layout t)) (EachHolds (Holds w dir t) (elem_size w (layout t)) vs) blocks) (sym p) stands.buffer;
    }
