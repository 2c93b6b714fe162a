-- Where the parts of a record or a tuple of the table stand.
use Rattle.std.proofs.Common.{◌≡◌, ℕ, zero, suc, ◌+◌, ◌-◌, ◌*◌, ◌/◌, ◌<◌, Bool, false, true, List, [], ◌∷◌, ◌++◌, length, map, take, get_or, Some, refl, sym, ap, ap₂, ◌∙◌, arith, add-mul}
use Rattle.std.proofs.Math.Nat.{mul-div_cancel}
use Rattle.std.specs.List.{slice_get, slice_index}
use Rattle.std.proofs.lemmas.List.{take_more}
use Rattle.wit_model.specs.Size.{bytes_at, paired}
use Rattle.wit_model.specs.TypeOrder.{GoesDown}
use Rattle.wit_model.specs.declared.name.TypeId.{TypeId}
use Rattle.wit_model.specs.declared.size.ArchitectureSize.{ArchitectureSize}
use Rattle.wit_model.specs.declared.types.TypeDef.{TypeDef}
use Rattle.wit_model.specs.declared.types.TypeDefKind.{TypeDefKind}
use Rattle.wit_model.specs.declared.types.TypeDefKind.TheVariants as kind
use Rattle.wit_model.specs.declared.types.WitType.{WitType}
use Rattle.wit_model.specs.declared.types.WitType.TheVariants as wit
use Rattle.wit_layout.specs.Extent.{Extent, end, place, places}
use Rattle.wit_layout.specs.Sizes.{elem_size, extent_of, extents_of, field_offsets, payload_offset}
use Rattle.wit_layout.specs.Told.{ArePairsOf, IsPairOf, is_alias}
use Rattle.wit_layout.specs.Tree.{Tree, tree_at, tree_of}
use Rattle.wrapper_meaning.specs.Layout.{layout, layouts}
use Rattle.wrapper_meaning.specs.Shape.{Shape, Shapes, is_nothing, nothing, shape_at, shape_of}
use Rattle.wrapper_meaning.specs.Shape.Shape.{cases, fields}
use Rattle.wrapper_meaning.specs.Shape.Shapes.{none}
use Rattle.wrapper_meaning.proofs.LayoutIsTree.{layout_is_tree}
use Rattle.abi_bindgen.specs.Code.{beyond, one_pointer, payload_place, place_in}
use Rattle.abi_bindgen.specs.Instructions.{has_cases, shapes_of}
use Rattle.abi_bindgen.specs.Places.{HasParts, IsOfParts}
use Rattle.abi_bindgen.proofs.Records.{record_shape, tuple_shape}

-- 1. Ends and places of lists

end_last : (es : List Extent) (e : Extent) (k : ℕ) → end (es ++ e ∷ []) k ≡ place e (end es k) + e.bytes
end_last [] e k = refl
end_last (x ∷ es) e k = end_last es e (place x k + x.bytes)

place_at : (es : List Extent) (i k : ℕ) (d : Extent) → i < length es → slice_index (places es k) i ≡ place (get_or es i d) (end (take i es) k)
place_at [] i k d l = absurd (omega (arith, l))
place_at (e ∷ es) zero k d l = refl
place_at (e ∷ es) (suc i) k d l = place_at es i (place e k + e.bytes) d (omega (arith, l))

map_take : {A B : Type 0} (f : A → B) (xs : List A) (i : ℕ) → take i (map f xs) ≡ map f (take i xs)
map_take f xs zero = refl
map_take f [] (suc i) = refl
map_take f (x ∷ xs) (suc i) = ap (λ ys. f x ∷ ys) (map_take f xs i)

map_get : {A B : Type 0} (f : A → B) (xs : List A) (i : ℕ) (d : A) → i < length xs → get_or (map f xs) i (f d) ≡ f (get_or xs i d)
map_get f [] i d l = absurd (omega (arith, l))
map_get f (x ∷ xs) zero d l = refl
map_get f (x ∷ xs) (suc i) d l = map_get f xs i d (omega (arith, l))

length_all : {A B : Type 0} (f : A → B) (xs : List A) → length (map f xs) ≡ length xs
length_all f [] = refl
length_all f (x ∷ xs) = ap suc (length_all f xs)

map_last : {A B : Type 0} (f : A → B) (xs : List A) (x : A) → map f (xs ++ x ∷ []) ≡ map f xs ++ f x ∷ []
map_last f [] x = refl
map_last f (y ∷ xs) x = ap (λ ys. f y ∷ ys) (map_last f xs x)

-- 2. Parts of the table

module _ (w : ℕ) (types : List TypeDef) where
  part_extent : WitType → Extent
  part_extent ty = extent_of w (layout (shape_of types ty))

  pub part_extents : (tys : List WitType) → extents_of w (layouts (shapes_of types tys)) ≡ map (λ ty. extent_of w (layout (shape_of types ty))) tys
  part_extents [] = refl
  part_extents (ty ∷ tys) = ap (λ es. extent_of w (layout (shape_of types ty)) ∷ es) (part_extents tys)

  -- behind one more part
  pub behind_next : (tys : List WitType) (i : ℕ) (d : WitType) → i < length tys
      → end (extents_of w (layouts (shapes_of types (take (i + 1) tys)))) 0 ≡ place (extent_of w (layout (shape_of types (get_or tys i d)))) (end (extents_of w (layouts (shapes_of types (take i tys)))) 0) + elem_size w (layout (shape_of types (get_or tys i d)))
  behind_next tys i d l =
      let f : WitType → Extent = λ ty. extent_of w (layout (shape_of types ty)) in
      ap (λ es. end es 0) (part_extents (take (i + 1) tys) ∙ ap (map f) (take_more tys i d l) ∙ map_last f (take i tys) (get_or tys i d)) ∙ end_last (map f (take i tys)) (f (get_or tys i d)) 0
      ∙ ap (λ es. place (f (get_or tys i d)) (end es 0) + (f (get_or tys i d)).bytes) (sym (part_extents (take i tys)))

  pub kind_layout : (id : ℕ) (entry : TypeDef) (tys : List WitType) (k : TypeDefKind) → GoesDown types → slice_get types id ≡ Some entry → entry.kind ≡ k → IsOfParts k tys → layout (shape_at types id) ≡ layout (fields (shapes_of types tys))
  kind_layout id entry tys (kind.Record members) down at e is = ap layout (record_shape types down id entry at members e) ∙ ap (λ xs. layout (fields (shapes_of types xs))) (sym is)
  kind_layout id entry tys (kind.Tuple members) down at e is = ap layout (tuple_shape types down id entry at members e) ∙ ap (λ xs. layout (fields (shapes_of types xs))) (sym is)
  kind_layout id entry tys _ down at e is = elim is [ ]

  not_alias : (k : TypeDefKind) (tys : List WitType) → IsOfParts k tys → is_alias k ≡ false
  not_alias (kind.Record members) tys is = refl
  not_alias (kind.Tuple members) tys is = refl
  not_alias _ tys is = elim is [ ]

  pub no_alias : (id : ℕ) (tys : List WitType) → (h : HasParts types id tys) → is_alias h.0.kind ≡ false
  no_alias id tys h = not_alias h.0.kind tys h.2

  pub cases_no_alias : (k : TypeDefKind) → has_cases k ≡ true → is_alias k ≡ false
  cases_no_alias (kind.Alias ty) h = sym h
  cases_no_alias _ h = refl

  -- the place of a part
  pub place_of : (tys : List WitType) (i : ℕ) (d : WitType) → i < length tys
      → slice_index (field_offsets w (layout (fields (shapes_of types tys)))) i ≡ place (extent_of w (layout (shape_of types (get_or tys i d)))) (end (extents_of w (layouts (shapes_of types (take i tys)))) 0)
  place_of tys i d l =
      let f : WitType → Extent = λ ty. extent_of w (layout (shape_of types ty)) in
      let short : i < length (map f tys) = omega (arith, l, length_all f tys) in
      ap (λ es. slice_index (places es 0) i) (part_extents tys) ∙ place_at (map f tys) i 0 (f d) short ∙ ap (λ e. place e (end (take i (map f tys)) 0)) (map_get f tys i d l)
      ∙ ap (λ es. place (f (get_or tys i d)) (end es 0)) (map_take f tys i ∙ sym (part_extents (take i tys)))

  pub part_offset : (id : TypeId) (tys : List WitType) (i : ℕ) (d : WitType) → GoesDown types → HasParts types id.0 tys → i < length tys
      → slice_index (field_offsets w (tree_at types id.0)) i ≡ place (extent_of w (layout (shape_of types (get_or tys i d)))) (end (extents_of w (layouts (shapes_of types (take i tys)))) 0)
  part_offset id tys i d down h l =
      let tree : tree_at types id.0 ≡ layout (fields (shapes_of types tys)) = sym (layout_is_tree types (wit.Id id)) ∙ kind_layout id.0 h.0 tys h.0.kind down h.1 refl h.2 in
      ap (λ t. slice_index (field_offsets w t) i) tree ∙ place_of tys i d l

  -- where the payloads of a type with cases stand
  pub payload_offset_of : (id : TypeId) (ts : Shapes) → shape_at types id.0 ≡ cases ts → payload_offset w (tree_at types id.0) ≡ payload_offset w (layout (cases ts))
  payload_offset_of id ts is = ap (payload_offset w) (sym (layout_is_tree types (wit.Id id)) ∙ ap layout is)

-- 3. An offset that was read

get_in : (sizes : List ArchitectureSize) (n width : ℕ) (s : ArchitectureSize) → slice_get sizes n ≡ Some s → slice_index (map (λ (z : ArchitectureSize). bytes_at z width) sizes) n ≡ bytes_at s width
get_in [] n width s e = absurd (let h = e in cc)
get_in (z ∷ sizes) zero width s e = ap (λ (z : ArchitectureSize). bytes_at z width) (let h = e in cc)
get_in (z ∷ sizes) (suc n) width s e = get_in sizes n width s e

pub pair_read : (sizes : List ArchitectureSize) (f : ℕ → List ℕ) (n : ℕ) (s : ArchitectureSize) → ArePairsOf sizes f → slice_get sizes n ≡ Some s → IsPairOf s (λ w. slice_index (f w) n)
pair_read sizes f n s pairs at = (
  sym (get_in sizes n 4 s at) ∙ ap (λ (xs : List ℕ). slice_index xs n) pairs.0,
  sym (get_in sizes n 8 s at) ∙ ap (λ (xs : List ℕ). slice_index xs n) pairs.1,
)

-- bytes and pointers, each with a sum of two, are the sum
pub spread : (x y p r width : ℕ) → x + y + (p + r) * width ≡ x + p * width + (y + r * width)
spread x y p r width = omega (arith, add-mul p r width)

pub beyond_at : (a b : ArchitectureSize) (width : ℕ) → bytes_at (beyond a b) width ≡ bytes_at a width + bytes_at b width
beyond_at a b width = spread a.bytes b.bytes a.pointers b.pointers width

pub behind_at : (a c : ArchitectureSize) (width : ℕ) → c ≡ beyond a one_pointer → bytes_at c width ≡ bytes_at a width + width
behind_at a c width e = ap (λ s. bytes_at s width) e ∙ beyond_at a one_pointer width ∙ omega arith

-- a size that is told at both widths
pub pair_is : (s : ArchitectureSize) (f : ℕ → ℕ) → IsPairOf s f → s ≡ paired (f 2) (f 3)
pair_is s f pair =
    let four = pair.0 in
    let eight = pair.1 in
    let bytes : s.bytes ≡ 2 * f 2 - f 3 = omega (arith, four, eight) in
    let apart : s.pointers * 4 ≡ f 3 - f 2 = omega (arith, four, eight) in
    let pointers : s.pointers ≡ (f 3 - f 2) / 4 = sym (mul-div_cancel s.pointers {n = 4} (omega arith)) ∙ ap (λ n. n / 4) apart in
    ap₂ (λ x y. record { bytes = x; pointers = y }) bytes pointers

-- the place of a part, which was told at both widths
pub place_sent : (place offset at : ArchitectureSize) (t : Tree) (n : ℕ) → place ≡ beyond offset at → IsPairOf at (λ w. slice_index (field_offsets w t) n) → place ≡ beyond offset (place_in t n)
place_sent place offset at t n e pair = e ∙ ap (beyond offset) (pair_is at (λ w. slice_index (field_offsets w t) n) pair)

pub payload_sent : (place offset at : ArchitectureSize) (t : Tree) → place ≡ beyond offset at → IsPairOf at (λ w. payload_offset w t) → place ≡ beyond offset (payload_place t)
payload_sent place offset at t e pair = e ∙ ap (beyond offset) (pair_is at (λ w. payload_offset w t) pair)

-- 4. What takes bytes

empty_layout : (t : Shape) → is_nothing t ≡ true → layout t ≡ layout nothing
empty_layout (fields none) h = refl
empty_layout _ h = absurd (let e = h in cc)

-- a type that takes bytes is not nothing
pub is_something : (types : List TypeDef) (ty : WitType) (size : ArchitectureSize) → IsPairOf size (λ w. elem_size w (tree_of types ty)) → (size.bytes ≡ 0 → size.pointers ≡ 0 → ⊥) → is_nothing (shape_of types ty) ≡ false
is_something types ty size pair some = by (is_nothing (shape_of types ty)) refl
  where
    by : (b : Bool) → is_nothing (shape_of types ty) ≡ b → is_nothing (shape_of types ty) ≡ false
    by false e = e
    by true e =
        let four : bytes_at size 4 ≡ 0 = pair.0 ∙ ap (elem_size 2) (sym (layout_is_tree types ty) ∙ empty_layout (shape_of types ty) e) in
        absurd (some (omega (arith, four)) (omega (arith, four)))
