-- The shapes of some types of a table: a list of records of numbers lies in memory as it is, and a list of tuples of numbers does not, though
-- their layouts are one.
use Rattle.std.proofs.Common.{◌≡◌, ℕ, true, false, List, [], ◌∷◌, None, refl}
use Rattle.wit_model.specs.declared.name.Docs.{Docs}
use Rattle.wit_model.specs.declared.name.Name.{Name}
use Rattle.wit_model.specs.declared.types.Handle.TheVariants.{Own}
use Rattle.wit_model.specs.declared.types.TypeDef.{TypeDef}
use Rattle.wit_model.specs.declared.types.TypeDefKind.{TypeDefKind}
use Rattle.wit_model.specs.declared.types.TypeDefKind.TheVariants as kind
use Rattle.wit_model.specs.declared.types.TypeOwner.TheVariants as owner
use Rattle.wit_model.specs.declared.types.WitType.{WitType}
use Rattle.wit_model.specs.declared.types.WitType.TheVariants as wit
use Rattle.wit_layout.specs.Tree.{Scalar}
use Rattle.wrapper_meaning.specs.Kinds.{has_own_handle, is_plain}
use Rattle.wrapper_meaning.specs.Layout.{layout}
use Rattle.wrapper_meaning.specs.Shape.{nothing, shape_of, shapes}
use Rattle.wrapper_meaning.specs.Shape.Shape.{scalar, list, fields, tuple, cases, handle, resource}
use Rattle.wrapper_meaning.specs.Shape.Shapes.{none, more}

no_docs : Docs
no_docs = record { contents = None }

of_kind : TypeDefKind → TypeDef
of_kind k = record { name = None; owner = owner.None; kind = k; docs = no_docs }

named : Name
named = record { wit = []; snake = []; camel = []; upper = [] }

id : ℕ → WitType
id n = wit.Id (record { 0 = n })

-- a record of one number, a tuple of one number, lists of them, a resource, and an option of its own handle
types : List TypeDef
types =
    of_kind (kind.Record (record { name = named; ty = wit.U32; docs = no_docs } ∷ [])) ∷ of_kind (kind.Tuple (wit.U32 ∷ [])) ∷ of_kind (kind.List (id 0)) ∷ of_kind (kind.List (id 1))
    ∷ of_kind kind.Resource ∷ of_kind (kind.Handle (Own (record { 0 = 4 }))) ∷ of_kind (kind.Option (id 5)) ∷ []

their_shapes : shapes types ≡ fields (more (scalar Scalar.u32) none) ∷ tuple (more (scalar Scalar.u32) none) ∷ list (fields (more (scalar Scalar.u32) none)) ∷ list (tuple (more (scalar Scalar.u32) none))
    ∷ resource 4 ∷ handle true 4 ∷ cases (more nothing (more (handle true 4) none)) ∷ []
unfolding types of_kind id shapes
their_shapes = refl

of_records : is_plain (shape_of types (id 0)) ≡ true
unfolding types of_kind id shapes
of_records = refl

of_tuples : is_plain (shape_of types (id 1)) ≡ false
unfolding types of_kind id shapes
of_tuples = refl

one_layout : layout (shape_of types (id 2)) ≡ layout (shape_of types (id 3))
unfolding types of_kind id shapes
one_layout = refl

owns_a_handle : has_own_handle (shape_of types (id 6)) ≡ true
unfolding types of_kind id shapes
owns_a_handle = refl
