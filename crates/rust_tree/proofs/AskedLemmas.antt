-- One level of what types and expressions name of `_rt`.
use Rattle.std.proofs.Common.{◌≡◌, ℕ, List, ◌∷◌, ◌++◌, sym, ap, ◌∙◌}
use Rattle.std.specs.List.{flat_map}
use Rattle.std.proofs.lemmas.List.Folds.{flat_map-map}
use Rattle.wit_model.specs.Bytes.{Bytes}
use Rattle.rust_tree.specs.declared.expr.Expr.{Expr, Expr-F, fold-roll-Expr}
use Rattle.rust_tree.specs.declared.expr.Expr.TheVariants as expr
use Rattle.rust_tree.specs.declared.expr.Expr.TheVariants.{rolls-Array, rolls-Call, rolls-FlagsOfWords, rolls-FromRawParts, rolls-Record, rolls-Tuple}
use Rattle.rust_tree.specs.declared.path.Path.{Path}
use Rattle.rust_tree.specs.declared.repr.Repr.{Repr}
use Rattle.rust_tree.specs.declared.runtime_item.RuntimeItem.{RuntimeItem}
use Rattle.rust_tree.specs.declared.runtime_item.RuntimeItem.TheVariants.{VecType}
use Rattle.rust_tree.specs.declared.type_expr.TypeExpr.{TypeExpr, TypeExpr-F, fold-roll-TypeExpr}
use Rattle.rust_tree.specs.declared.type_expr.TypeExpr.TheVariants as type
use Rattle.rust_tree.specs.Asked.{asked_by_expr, asked_by_path, asked_by_type, asked_step, asked_type_step}

pub asked-tuple_type : (types : List TypeExpr) → asked_by_type (type.Tuple types) ≡ flat_map asked_by_type types
asked-tuple_type types =
    ap asked_by_type (sym (type.rolls-Tuple types)) ∙ fold-roll-TypeExpr (List RuntimeItem) asked_type_step (TypeExpr-F.Tuple types)
    ∙ flat_map-map (λ items. items) asked_by_type types

pub asked-call : (path : Path) (es : List Expr) → asked_by_expr (expr.Call path es) ≡ asked_by_path path ++ flat_map asked_by_expr es
asked-call path es =
    ap asked_by_expr (sym (rolls-Call path es)) ∙ fold-roll-Expr (List RuntimeItem) asked_step (Expr-F.Call path es)
    ∙ ap (λ items. asked_by_path path ++ items) (flat_map-map (λ items. items) asked_by_expr es)

pub asked-raw : (e : Expr) (len : Bytes) → asked_by_expr (expr.FromRawParts e len) ≡ VecType ∷ asked_by_expr e
asked-raw e len = ap asked_by_expr (sym (rolls-FromRawParts e len)) ∙ fold-roll-Expr (List RuntimeItem) asked_step (Expr-F.FromRawParts e len)

pub asked-record : (path : Path) (fields : List (Bytes × Expr)) → asked_by_expr (expr.Record path fields) ≡ asked_by_path path ++ flat_map (λ f. asked_by_expr f.1) fields
asked-record path fields =
    ap asked_by_expr (sym (rolls-Record path fields)) ∙ fold-roll-Expr (List RuntimeItem) asked_step (Expr-F.Record path fields)
    ∙ ap (λ items. asked_by_path path ++ items) (flat_map-map (λ f. f.1) (λ (f : Bytes × Expr). (f.0, asked_by_expr f.1)) fields)

pub asked-tuple : (es : List Expr) → asked_by_expr (expr.Tuple es) ≡ flat_map asked_by_expr es
asked-tuple es = ap asked_by_expr (sym (rolls-Tuple es)) ∙ fold-roll-Expr (List RuntimeItem) asked_step (Expr-F.Tuple es) ∙ flat_map-map (λ items. items) asked_by_expr es

pub asked-array : (es : List Expr) → asked_by_expr (expr.Array es) ≡ flat_map asked_by_expr es
asked-array es = ap asked_by_expr (sym (rolls-Array es)) ∙ fold-roll-Expr (List RuntimeItem) asked_step (Expr-F.Array es) ∙ flat_map-map (λ items. items) asked_by_expr es

pub asked-words : (path : Path) (repr : Repr) (words : List (ℕ × Expr))
    → asked_by_expr (expr.FlagsOfWords path repr words) ≡ asked_by_path path ++ flat_map (λ w. asked_by_path path ++ asked_by_expr w.1) words
asked-words path repr words =
    ap asked_by_expr (sym (rolls-FlagsOfWords path repr words)) ∙ fold-roll-Expr (List RuntimeItem) asked_step (Expr-F.FlagsOfWords path repr words)
    ∙ ap (λ items. asked_by_path path ++ items) (flat_map-map (λ w. asked_by_path path ++ w.1) (λ (w : ℕ × Expr). (w.0, asked_by_expr w.1)) words)
