-- One level of a type's names.
use Rattle.std.proofs.Common.{◌≡◌, Bool, true, ◌&&◌, List, [], ◌∷◌, map, refl, sym, ap, ◌∙◌, rules}
use Rattle.std.specs.List.{list_all}
use Rattle.std.proofs.lemmas.List.Folds.{list_all-map}
use Rattle.rust_tree.specs.declared.path.Path.{Path}
use Rattle.rust_tree.specs.declared.type_expr.Primitive.{Primitive}
use Rattle.rust_tree.specs.declared.type_expr.TypeExpr.{TypeExpr, TypeExpr-F, fold-roll-TypeExpr, the_lemmas}
use Rattle.rust_tree.specs.declared.type_expr.TypeExpr.TheVariants as type
use Rattle.rust_tree.specs.declared.type_expr.TypeExpr.TheVariants.{rolls-Optional, rolls-Ref, rolls-Result, rolls-Tuple}
use Rattle.rust_tree.specs.WellNamed.{is_named_type, is_nonempty, is_type_path, named_type_step}

pub is_named-primitive : (p : Primitive) → is_named_type (type.Primitive p) ≡ true
is_named-primitive p = search (rules, the_lemmas)

pub is_named-unit : is_named_type type.Unit ≡ true
is_named-unit = search (rules, the_lemmas)

pub is_named-str : is_named_type type.Str ≡ true
is_named-str = search (rules, the_lemmas)

pub is_named-string : is_named_type type.String ≡ true
is_named-string = search (rules, the_lemmas)

pub is_named-path : (path : Path) → is_named_type (type.Path path) ≡ is_type_path path
is_named-path path = search (rules, the_lemmas)

pub is_named-lent : (ty : TypeExpr) → is_named_type (type.Ref ty) ≡ is_named_type ty
is_named-lent ty = ap is_named_type (sym (rolls-Ref ty)) ∙ fold-roll-TypeExpr Bool named_type_step (TypeExpr-F.Ref ty)

nonempty-map : (types : List TypeExpr) → is_nonempty (map is_named_type types) ≡ is_nonempty types
nonempty-map [] = refl
nonempty-map (t ∷ types) = refl

pub is_named-tuple : (types : List TypeExpr) → is_named_type (type.Tuple types) ≡ (is_nonempty types && list_all is_named_type types)
is_named-tuple types =
    ap is_named_type (sym (rolls-Tuple types)) ∙ fold-roll-TypeExpr Bool named_type_step (TypeExpr-F.Tuple types)
    ∙ ap (λ b. b && list_all (λ b. b) (map is_named_type types)) (nonempty-map types)
    ∙ ap (λ b. is_nonempty types && b) (list_all-map (λ b. b) is_named_type types)

pub is_named-result : (ok err : TypeExpr) → is_named_type (type.Result ok err) ≡ (is_named_type ok && is_named_type err)
is_named-result ok err = ap is_named_type (sym (rolls-Result ok err)) ∙ fold-roll-TypeExpr Bool named_type_step (TypeExpr-F.Result ok err)

pub is_named-option : (ty : TypeExpr) → is_named_type (type.Optional ty) ≡ is_named_type ty
is_named-option ty = ap is_named_type (sym (rolls-Optional ty)) ∙ fold-roll-TypeExpr Bool named_type_step (TypeExpr-F.Optional ty)
