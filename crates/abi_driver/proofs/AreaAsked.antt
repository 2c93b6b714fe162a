-- The area is asked for a value of a type, or for a record of some types.
use Rattle.std.proofs.Common.{◌≡◌, true, false, nat_eq, if◌then◌else◌, List, refl, sym, ap, ap₂, ◌∙◌, subst, arith, [], ◌∷◌}
use Rattle.std.proofs.lemmas.Bool.{eq-eqb, ne_eqb}
use Rattle.wit_model.specs.declared.size.Alignment.{Alignment}
use Rattle.wit_model.specs.declared.size.Alignment.TheVariants.{Bytes, Pointer}
use Rattle.wit_model.specs.declared.size.ArchitectureSize.{ArchitectureSize}
use Rattle.wit_model.specs.declared.types.TypeDef.{TypeDef}
use Rattle.wit_model.specs.declared.types.WitType.{WitType}
use Rattle.wit_layout.specs.Sizes.{alignment, elem_size, extent_of}
use Rattle.wit_layout.specs.Told.{IsAlignmentOf, IsPairOf}
use Rattle.wit_layout.specs.Tree.{Tree, record_of, tree_of}
use Rattle.wrapper_meaning.specs.Areas.{stored_alignment}
use Rattle.wrapper_meaning.specs.Layout.{layout}
use Rattle.wrapper_meaning.specs.Shape.{Shape, shape_of}
use Rattle.wrapper_meaning.specs.Shape.Shape.{fields}
use Rattle.wrapper_meaning.proofs.LayoutIsTree.{layout_is_tree}
use Rattle.abi_bindgen.specs.declared.bindgen.Asked.{Asked}
use Rattle.abi_bindgen.specs.Area.{IsAlignment}
use Rattle.abi_bindgen.specs.Code.{ask_for, record_size}
use Rattle.abi_driver.specs.Imports.{Points}
use Rattle.abi_bindgen.specs.Instructions.{shapes_of}
use Rattle.abi_bindgen.specs.Laws.{PointsTo}
use Rattle.abi_bindgen.specs.Meaning.{Meaning}
use Rattle.abi_bindgen.specs.Flows.{Flows}
use Rattle.abi_driver.proofs.PartOffsets.{pair_is}
use Rattle.abi_driver.proofs.RecordPlaces.{record_layout}

-- the alignment of a type is a power of two
power_of : (a : Alignment) (t : Tree) → IsAlignmentOf a (λ w. alignment w t) → IsAlignment a
power_of (Bytes n) t h = ((extent_of 2 t).grain, h.0)
power_of Pointer t h = tt

pub is_power : (types : List TypeDef) (ty : WitType) (a : Alignment) → IsAlignmentOf a (λ w. alignment w (tree_of types ty)) → IsAlignment a
is_power types ty a h = power_of a (tree_of types ty) h

pub record_is_power : (types : List TypeDef) (tys : List WitType) (a : Alignment) → IsAlignmentOf a (λ w. alignment w (record_of types tys)) → IsAlignment a
record_is_power types tys a h = power_of a (record_of types tys) h

-- an alignment that is told at both widths
alignment_is : (a : Alignment) (t : Shape) → IsAlignmentOf a (λ w. alignment w (layout t)) → a ≡ stored_alignment t
alignment_is (Bytes n) t h =
    let four = alignment 2 (layout t) in
    let eight = alignment 3 (layout t) in
    let same : nat_eq four eight ≡ true = eq-eqb four eight (sym h.0 ∙ h.1) in
    ap Bytes h.0 ∙ sym (ap (λ b. if b then Bytes four else Pointer) same)
alignment_is Pointer t h =
    let four = alignment 2 (layout t) in
    let eight = alignment 3 (layout t) in
    let other : nat_eq four eight ≡ false = ne_eqb four eight (λ e. omega (arith, h.0, h.1, e)) in
    sym (ap (λ b. if b then Bytes four else Pointer) other)

-- what is told of a record at both widths is its size and its alignment
pub record_told : (t : Shape) (tree : Tree) (size : ArchitectureSize) (align : Alignment) → tree ≡ layout t → IsPairOf size (λ w. elem_size w tree) → IsAlignmentOf align (λ w. alignment w tree) → (size ≡ record_size t) × (align ≡ stored_alignment t)
record_told t tree size align e s a = (
  pair_is size (λ w. elem_size w (layout t)) (subst (λ l. IsPairOf size (λ w. elem_size w l)) e s),
  alignment_is align t (subst (λ l. IsAlignmentOf align (λ w. alignment w l)) e a),
)

module _ {Self Operand : Type 0} (m : Meaning Self Operand) where
  flows_ask : (types : List TypeDef) (t : Shape) (tree : Tree) (size : ArchitectureSize) (align : Alignment) (o : Operand) (old new : Self) → tree ≡ layout t → IsPairOf size (λ w. elem_size w tree) → IsAlignmentOf align (λ w. alignment w tree)
      → PointsTo m (record { size = size; align = align }) o old new → Flows m types (ask_for t) [] (o ∷ []) old new
  flows_ask types t tree size align o old new e s a h =
      let told = record_told t tree size align e s a in
      (refl, o, refl, subst (λ (x : Asked). PointsTo m x o old new) (ap₂ (λ (x : ArchitectureSize) (y : Alignment). record { size = x; align = y }) told.0 told.1) h)

  points_as : (t : Shape) (tree : Tree) (size : ArchitectureSize) (align : Alignment) (o : Operand) (old new : Self) → tree ≡ layout t → IsPairOf size (λ w. elem_size w tree) → IsAlignmentOf align (λ w. alignment w tree)
      → PointsTo m (record { size = size; align = align }) o old new → Points m t o old new
  points_as t tree size align o old new e s a h =
      (record { size = size; align = align }, (subst (λ l. IsPairOf size (λ w. elem_size w l)) e s, subst (λ l. IsAlignmentOf align (λ w. alignment w l)) e a, tt), h)

  pub asks_for : (types : List TypeDef) (ty : WitType) (size : ArchitectureSize) (align : Alignment) (o : Operand) (old new : Self) → IsPairOf size (λ w. elem_size w (tree_of types ty)) → IsAlignmentOf align (λ w. alignment w (tree_of types ty))
      → PointsTo m (record { size = size; align = align }) o old new → Points m (shape_of types ty) o old new
  asks_for types ty size align o old new s a h = points_as (shape_of types ty) (tree_of types ty) size align o old new (sym (layout_is_tree types ty)) s a h

  pub asks_for_record : (types : List TypeDef) (tys : List WitType) (size : ArchitectureSize) (align : Alignment) (o : Operand) (old new : Self) → IsPairOf size (λ w. elem_size w (record_of types tys)) → IsAlignmentOf align (λ w. alignment w (record_of types tys))
      → PointsTo m (record { size = size; align = align }) o old new → Points m (fields (shapes_of types tys)) o old new
  asks_for_record types tys size align o old new s a h = points_as (fields (shapes_of types tys)) (record_of types tys) size align o old new (record_layout m.width types tys) s a h

  -- and an area was asked for nothing else

  pub flows_asking : (types : List TypeDef) (ty : WitType) (size : ArchitectureSize) (align : Alignment) (o : Operand) (old new : Self) → IsPairOf size (λ w. elem_size w (tree_of types ty)) → IsAlignmentOf align (λ w. alignment w (tree_of types ty))
      → PointsTo m (record { size = size; align = align }) o old new → Flows m types (ask_for (shape_of types ty)) [] (o ∷ []) old new
  flows_asking types ty size align o old new s a h = flows_ask types (shape_of types ty) (tree_of types ty) size align o old new (sym (layout_is_tree types ty)) s a h

  pub flows_asking_record : (types : List TypeDef) (tys : List WitType) (size : ArchitectureSize) (align : Alignment) (o : Operand) (old new : Self) → IsPairOf size (λ w. elem_size w (record_of types tys)) → IsAlignmentOf align (λ w. alignment w (record_of types tys))
      → PointsTo m (record { size = size; align = align }) o old new → Flows m types (ask_for (fields (shapes_of types tys))) [] (o ∷ []) old new
  flows_asking_record types tys size align o old new s a h = flows_ask types (fields (shapes_of types tys)) (record_of types tys) size align o old new (record_layout m.width types tys) s a h
