-- What printed forms are behind the aliases of a file, and which payloads their cases have.
use Rattle.std.proofs.Common.{◌≡◌, suc, ◌<◌, ◌≤◌, List, [], ◌∷◌, length, Option, None, Some, refl, rules, sym, ap, ◌∙◌, subst, arith}
use Rattle.std.specs.Option.{option_map}
use Rattle.wit_model.specs.Bytes.{Bytes}
use Rattle.wit_model.specs.declared.types.WitType.{WitType}
use Rattle.rust_tree.specs.declared.item.Item.{Item}
use Rattle.rust_tree.specs.declared.type_expr.Primitive.{Primitive}
use Rattle.rust_tree.specs.declared.type_expr.TypeExpr.{TypeExpr, TypeExpr-F, out-TypeExpr, the_lemmas as type_lemmas}
use Rattle.rust_tree.specs.declared.type_expr.TypeExpr.TheVariants as type
use Rattle.rust_tree.specs.declared.type_item.TypeItem.{TypeItem}
use Rattle.type_defs.specs.PartType.{payload_type}
use Rattle.type_defs.specs.Paths.{local_path}
use Rattle.wrapper_closing.specs.PrintedAs.{HavePayloads, IsSide, item_payloads}
use Rattle.wrapper_values.specs.Fields.{type_named}
use Rattle.wrapper_values.specs.Typed.{behind, behind_one, definition_in, target_in, target_of}

-- 1. What they end in

-- what has no definition is no other name of a type
no-path : (items : List Item) (ty : TypeExpr) (l : TypeExpr-F TypeExpr) → out-TypeExpr ty ≡ l → definition_in items l ≡ None → target_of items ty ≡ None
no-path items ty l out none = ap target_in (ap (definition_in items) out ∙ none)

pub primitive-ends : (items : List Item) (p : Primitive) → target_of items (type.Primitive p) ≡ None
primitive-ends items p = no-path items (type.Primitive p) (TypeExpr-F.Primitive p) opened refl
  where
    opened : out-TypeExpr (type.Primitive p) ≡ TypeExpr-F.Primitive p
    opened = search (rules, type_lemmas)

pub string-ends : (items : List Item) → target_of items type.String ≡ None
string-ends items = no-path items type.String TypeExpr-F.String opened refl
  where
    opened : out-TypeExpr type.String ≡ TypeExpr-F.String
    opened = search (rules, type_lemmas)

pub unit-ends : (items : List Item) → target_of items type.Unit ≡ None
unit-ends items = no-path items type.Unit TypeExpr-F.Unit opened refl
  where
    opened : out-TypeExpr type.Unit ≡ TypeExpr-F.Unit
    opened = search (rules, type_lemmas)

pub tuple-ends : (items : List Item) (types : List TypeExpr) → target_of items (type.Tuple types) ≡ None
tuple-ends items types = no-path items (type.Tuple types) (TypeExpr-F.Tuple types) opened refl
  where
    opened : out-TypeExpr (type.Tuple types) ≡ TypeExpr-F.Tuple types
    opened = search (rules, type_lemmas)

pub optional-ends : (items : List Item) (ty : TypeExpr) → target_of items (type.Optional ty) ≡ None
optional-ends items ty = no-path items (type.Optional ty) (TypeExpr-F.Optional ty) opened refl
  where
    opened : out-TypeExpr (type.Optional ty) ≡ TypeExpr-F.Optional ty
    opened = search (rules, type_lemmas)

pub result-ends : (items : List Item) (ok err : TypeExpr) → target_of items (type.Result ok err) ≡ None
result-ends items ok err = no-path items (type.Result ok err) (TypeExpr-F.Result ok err) opened refl
  where
    opened : out-TypeExpr (type.Result ok err) ≡ TypeExpr-F.Result ok err
    opened = search (rules, type_lemmas)

pub path-definition : (items : List Item) (name : Bytes) → definition_in items (out-TypeExpr (type.Path (local_path name))) ≡ type_named items name
path-definition items name = ap (definition_in items) opened
  where
    opened : out-TypeExpr (type.Path (local_path name)) ≡ TypeExpr-F.Path (local_path name)
    opened = search (rules, type_lemmas)

pub stays : (items more : List Item) (ty : TypeExpr) → target_of items ty ≡ None → behind more items ty ≡ ty
stays items [] ty e = refl
stays items (i ∷ more) ty e = ap (behind_one (behind more items) ty) e

-- one step, where there is another name
pub steps : (items more : List Item) (ty target last : TypeExpr) → target_of items ty ≡ Some target → 0 < length more → ((later : List Item) → length more ≤ suc (length later) → behind later items target ≡ last)
    → behind more items ty ≡ last
steps items [] ty target last e some h = absurd (omega arith)
steps items (i ∷ more) ty target last e some h = ap (behind_one (behind more items) ty) e ∙ h more (omega arith)

-- 2. The payloads of their cases

pub optional-payloads : (items : List Item) (ty : TypeExpr) → HavePayloads items (out-TypeExpr (type.Optional ty)) (None ∷ Some ty ∷ [])
optional-payloads items ty = subst (λ l. HavePayloads items l (None ∷ Some ty ∷ [])) (sym opened) refl
  where
    opened : out-TypeExpr (type.Optional ty) ≡ TypeExpr-F.Optional ty
    opened = search (rules, type_lemmas)

payload-side : (printed : WitType → TypeExpr) (payload : Option WitType) → IsSide (payload_type printed payload) (option_map printed payload)
payload-side printed None = refl
payload-side printed (Some ty) = refl

pub result-payloads : (items : List Item) (printed : WitType → TypeExpr) (ok err : Option WitType)
    → HavePayloads items (out-TypeExpr (type.Result (payload_type printed ok) (payload_type printed err))) (option_map printed ok ∷ option_map printed err ∷ [])
result-payloads items printed ok err =
    subst (λ l. HavePayloads items l (option_map printed ok ∷ option_map printed err ∷ [])) (sym opened) (option_map printed ok, option_map printed err, refl, payload-side printed ok, payload-side printed err)
  where
    opened : out-TypeExpr (type.Result (payload_type printed ok) (payload_type printed err)) ≡ TypeExpr-F.Result (payload_type printed ok) (payload_type printed err)
    opened = search (rules, type_lemmas)

pub path-payloads : (items : List Item) (name : Bytes) (i : TypeItem) (payloads : List (Option TypeExpr)) → definition_in items (out-TypeExpr (type.Path (local_path name))) ≡ Some i → item_payloads (Some i) ≡ Some payloads
    → HavePayloads items (out-TypeExpr (type.Path (local_path name))) payloads
path-payloads items name i payloads is has = subst (λ l. HavePayloads items l payloads) (sym opened) (ap item_payloads (ap (definition_in items) (sym opened) ∙ is) ∙ has)
  where
    opened : out-TypeExpr (type.Path (local_path name)) ≡ TypeExpr-F.Path (local_path name)
    opened = search (rules, type_lemmas)
