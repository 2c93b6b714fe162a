-- The layout of a type's shape is the tree of the type; and so the core words of shapes are those of a signature.
use Rattle.std.proofs.Common.{◌≡◌, ℕ, zero, suc, Bool, true, false, List, [], ◌∷◌, ◌++◌, map, length, slice_index_or, Option, Some, None, option_map, refl, ap, ap₂, ◌∙◌}
use Rattle.std.proofs.lemmas.List.{map-append}
use Rattle.wit_model.specs.declared.types.Handle.{Handle}
use Rattle.wit_model.specs.declared.types.Handle.TheVariants.{Own, Borrow}
use Rattle.wit_model.specs.declared.types.TypeDef.{TypeDef}
use Rattle.wit_model.specs.declared.types.TypeDefKind.{TypeDefKind}
use Rattle.wit_model.specs.declared.types.TypeDefKind.TheVariants as kind
use Rattle.wit_model.specs.declared.types.WitType.{WitType}
use Rattle.wit_model.specs.declared.types.WitType.TheVariants as wit
use Rattle.wit_layout.specs.Tree.{Scalar, Tree, Trees, trees, tree_by, tree_in, tree_of, trees_behind, payload_in as tree_payload, payloads_in as tree_payloads, bare as bare_trees, nothing as no_tree}
use Rattle.wit_layout.specs.Flat.{flatten_record, flatten_type}
use Rattle.wit_layout.specs.Signature as signature
use Rattle.wrapper_meaning.specs.Laws.{SignatureIsByShapes}
use Rattle.wrapper_meaning.specs.Layout.{layout, layouts}
use Rattle.wrapper_meaning.specs.Represents.{result_words}
use Rattle.wrapper_meaning.specs.Shape.{Shape, bare, handle_in, handle_of, nothing, payload_in, payloads_in, shape_by, shape_in, shape_of, shapes, shapes_behind}
use Rattle.wrapper_meaning.specs.Shape.Shape.{resource}

at_place : (ss : List Shape) (i : ℕ) → layout (slice_index_or ss i nothing) ≡ slice_index_or (map layout ss) i no_tree
at_place [] i = refl
at_place (s ∷ ss) zero = refl
at_place (s ∷ ss) (suc i) = at_place ss i

handle_number : (owns : Bool) (s : Shape) → layout (handle_of owns s) ≡ Tree.scalar Scalar.handle
handle_number owns (resource number) = refl
handle_number owns _ = refl

of_handle : (ss : List Shape) (h : Handle) → layout (handle_in ss h) ≡ Tree.scalar Scalar.handle
of_handle ss (Own id) = handle_number true (slice_index_or ss id.0 nothing)
of_handle ss (Borrow id) = handle_number false (slice_index_or ss id.0 nothing)

of_type : (ss : List Shape) (ty : WitType) → layout (shape_in ss ty) ≡ tree_in (map layout ss) ty
of_type ss (wit.Id id) = at_place ss id.0
of_type ss _ = refl

of_payload : (ss : List Shape) (ty : Option WitType) → layout (payload_in ss ty) ≡ tree_payload (map layout ss) ty
of_payload ss None = refl
of_payload ss (Some ty) = of_type ss ty

pub of_payloads : (ss : List Shape) (tys : List (Option WitType)) → layouts (payloads_in ss tys) ≡ tree_payloads (map layout ss) tys
of_payloads ss [] = refl
of_payloads ss (ty ∷ tys) = ap₂ Trees.more (of_payload ss ty) (of_payloads ss tys)

of_bare : {A : Type 0} (xs : List A) → layouts (bare xs) ≡ bare_trees xs
of_bare [] = refl
of_bare (x ∷ xs) = ap (Trees.more no_tree) (of_bare xs)

of_kind : (n : ℕ) (ss : List Shape) (k : TypeDefKind) → layout (shape_by n ss k) ≡ tree_by (map layout ss) k
of_kind n ss (kind.Alias ty) = of_type ss ty
of_kind n ss (kind.Handle h) = of_handle ss h
of_kind n ss (kind.List element) = ap Tree.list (of_type ss element)
of_kind n ss (kind.Map k v) = ap₂ Tree.pairs (of_type ss k) (of_type ss v)
of_kind n ss (kind.FixedLengthList element m) = ap (λ t. Tree.fixed t m) (of_type ss element)
of_kind n ss (kind.Tuple members) = ap Tree.fields (of_payloads ss (map (λ ty. Some ty) members))
of_kind n ss (kind.Option payload) = ap (λ t. Tree.cases (Trees.more no_tree (Trees.more t Trees.none))) (of_type ss payload)
of_kind n ss (kind.Result good bad) = ap₂ (λ s t. Tree.cases (Trees.more s (Trees.more t Trees.none))) (of_payload ss good) (of_payload ss bad)
of_kind n ss (kind.Record members) = ap Tree.fields (of_payloads ss (map (λ f. Some f.ty) members))
of_kind n ss (kind.Variant members) = ap Tree.cases (of_payloads ss (map (λ c. c.ty) members))
of_kind n ss (kind.Enum members) = ap Tree.cases (of_bare members)
of_kind n ss (kind.Flags members) = refl
of_kind n ss kind.Resource = refl
of_kind n ss (kind.Future _) = refl
of_kind n ss (kind.Stream _) = refl
of_kind n ss kind.Unknown = refl

behind : (ss : List Shape) (types : List TypeDef) → map layout (shapes_behind ss types) ≡ trees_behind (map layout ss) types
behind ss [] = refl
behind ss (t ∷ types) =
    behind (ss ++ shape_by (length ss) ss t.kind ∷ []) types
    ∙ ap (λ ts. trees_behind ts types) (map-append layout ss (shape_by (length ss) ss t.kind ∷ []) ∙ ap (λ t'. map layout ss ++ t' ∷ []) (of_kind (length ss) ss t.kind))

pub layouts_are_trees : (types : List TypeDef) → map layout (shapes types) ≡ trees types
unfolding shapes trees
layouts_are_trees types = behind [] types

pub layout_is_tree : (types : List TypeDef) (ty : WitType) → layout (shape_of types ty) ≡ tree_of types ty
layout_is_tree types ty = of_type (shapes types) ty ∙ ap (λ ts. tree_in ts ty) (layouts_are_trees types)

result_by_shape : (types : List TypeDef) (r : Option WitType) → result_words (option_map (shape_of types) r) ≡ signature.result_words types r
result_by_shape types None = refl
result_by_shape types (Some ty) = ap flatten_type (layout_is_tree types ty)

pub signature_is_by_shapes : SignatureIsByShapes
signature_is_by_shapes types f =
    let members : List (Option WitType) = map (λ ty. Some ty) (map (λ p. p.ty) f.params) in
    (ap flatten_record (of_payloads (shapes types) members ∙ ap (λ ts. tree_payloads ts members) (layouts_are_trees types)), result_by_shape types f.result)
