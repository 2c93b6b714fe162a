-- One level of an expression's names.
use Rattle.std.proofs.Common.{◌≡◌, ℕ, ℤ, Bool, true, ◌&&◌, List, map, sym, ap, ◌∙◌, rules}
use Rattle.std.specs.List.{list_all}
use Rattle.std.proofs.lemmas.List.Folds.{list_all-map}
use Rattle.wit_model.specs.Bytes.{Bytes}
use Rattle.wit_model.specs.declared.size.ArchitectureSize.{ArchitectureSize}
use Rattle.wit_model.specs.declared.size.ArchitectureSize.{ArchitectureSize}
use Rattle.wit_model.specs.declared.wasm_type.WasmType.{WasmType}
use Rattle.rust_tree.specs.declared.expr.CastType.{CastType}
use Rattle.rust_tree.specs.declared.expr.Expr.{Expr, Expr-F, fold-roll-Expr, the_lemmas}
use Rattle.rust_tree.specs.declared.expr.Expr.TheVariants as expr
use Rattle.rust_tree.specs.declared.expr.Expr.TheVariants.{rolls-Array, rolls-Call, rolls-Cast, rolls-EnumNumber, rolls-FlagsOfWords, rolls-FromRawParts, rolls-I32FromBool, rolls-Load, rolls-LoadSmall, rolls-Method, rolls-Tuple}
use Rattle.rust_tree.specs.declared.expr.Method.{Method}
use Rattle.rust_tree.specs.declared.expr.SmallType.{SmallType}
use Rattle.rust_tree.specs.declared.expr.ZeroType.{ZeroType}
use Rattle.rust_tree.specs.declared.path.Path.{Path}
use Rattle.rust_tree.specs.declared.repr.Repr.{Repr}
use Rattle.rust_tree.specs.Ident.{is_ident}
use Rattle.rust_tree.specs.WellNamed.{are_path_names, are_words, is_case_path, is_named_expr, named_step}

pub is_named-local : (name : Bytes) → is_named_expr (expr.Local name) ≡ is_ident name
is_named-local name = search (rules, the_lemmas)

pub is_named-ref : (name : Bytes) → is_named_expr (expr.Ref name) ≡ is_ident name
is_named-ref name = search (rules, the_lemmas)

pub is_named-as_ptr : (name : Bytes) → is_named_expr (expr.AsPtr name) ≡ is_ident name
is_named-as_ptr name = search (rules, the_lemmas)

pub is_named-len : (name : Bytes) → is_named_expr (expr.Len name) ≡ is_ident name
is_named-len name = search (rules, the_lemmas)

pub is_named-cast_mut : (name : Bytes) → is_named_expr (expr.CastMut name) ≡ is_ident name
is_named-cast_mut name = search (rules, the_lemmas)

pub is_named-return_pointer : (name : Bytes) → is_named_expr (expr.ReturnPointer name) ≡ is_ident name
is_named-return_pointer name = search (rules, the_lemmas)

pub is_named-boxed : (name : Bytes) → is_named_expr (expr.IntoBoxedBytes name) ≡ is_ident name
is_named-boxed name = search (rules, the_lemmas)

pub is_named-static : is_named_expr expr.StaticPointer ≡ true
is_named-static = search (rules, the_lemmas)

pub is_named-size : (size : ArchitectureSize) → is_named_expr (expr.Size size) ≡ true
is_named-size size = search (rules, the_lemmas)

pub is_named-cast : (e : Expr) (to : CastType) → is_named_expr (expr.Cast e to) ≡ is_named_expr e
is_named-cast e to = ap is_named_expr (sym (rolls-Cast e to)) ∙ fold-roll-Expr Bool named_step (Expr-F.Cast e to)

pub is_named-bool : (e : Expr) → is_named_expr (expr.I32FromBool e) ≡ is_named_expr e
is_named-bool e = ap is_named_expr (sym (rolls-I32FromBool e)) ∙ fold-roll-Expr Bool named_step (Expr-F.I32FromBool e)

pub is_named-load : (e : Expr) (offset : ArchitectureSize) (ty : WasmType) → is_named_expr (expr.Load e offset ty) ≡ is_named_expr e
is_named-load e offset ty = ap is_named_expr (sym (rolls-Load e offset ty)) ∙ fold-roll-Expr Bool named_step (Expr-F.Load e offset ty)

pub is_named-load_small : (e : Expr) (offset : ArchitectureSize) (ty : SmallType) → is_named_expr (expr.LoadSmall e offset ty) ≡ is_named_expr e
is_named-load_small e offset ty = ap is_named_expr (sym (rolls-LoadSmall e offset ty)) ∙ fold-roll-Expr Bool named_step (Expr-F.LoadSmall e offset ty)

pub is_named-raw : (e : Expr) (len : Bytes) → is_named_expr (expr.FromRawParts e len) ≡ (is_named_expr e && is_ident len)
is_named-raw e len = ap is_named_expr (sym (rolls-FromRawParts e len)) ∙ fold-roll-Expr Bool named_step (Expr-F.FromRawParts e len)

pub is_named-call : (path : Path) (es : List Expr) → is_named_expr (expr.Call path es) ≡ (are_path_names path.names && list_all is_named_expr es)
is_named-call path es =
    ap is_named_expr (sym (rolls-Call path es)) ∙ fold-roll-Expr Bool named_step (Expr-F.Call path es)
    ∙ ap (λ b. are_path_names path.names && b) (list_all-map (λ b. b) is_named_expr es)

pub is_named-tuple : (es : List Expr) → is_named_expr (expr.Tuple es) ≡ list_all is_named_expr es
is_named-tuple es = ap is_named_expr (sym (rolls-Tuple es)) ∙ fold-roll-Expr Bool named_step (Expr-F.Tuple es) ∙ list_all-map (λ b. b) is_named_expr es

pub is_named-array : (es : List Expr) → is_named_expr (expr.Array es) ≡ list_all is_named_expr es
is_named-array es = ap is_named_expr (sym (rolls-Array es)) ∙ fold-roll-Expr Bool named_step (Expr-F.Array es) ∙ list_all-map (λ b. b) is_named_expr es

pub is_named-number : (e : Expr) → is_named_expr (expr.EnumNumber e) ≡ is_named_expr e
is_named-number e = ap is_named_expr (sym (rolls-EnumNumber e)) ∙ fold-roll-Expr Bool named_step (Expr-F.EnumNumber e)

pub is_named-bits : (name : Bytes) (n : ℕ) → is_named_expr (expr.FlagsBits name n) ≡ is_ident name
is_named-bits name n = search (rules, the_lemmas)

pub is_named-words : (path : Path) (repr : Repr) (words : List (ℕ × Expr))
    → is_named_expr (expr.FlagsOfWords path repr words) ≡ (are_path_names path.names && are_words (map (λ w. (w.0, is_named_expr w.1)) words))
is_named-words path repr words = ap is_named_expr (sym (rolls-FlagsOfWords path repr words)) ∙ fold-roll-Expr Bool named_step (Expr-F.FlagsOfWords path repr words)

pub is_named-i32 : (n : ℤ) → is_named_expr (expr.I32Const n) ≡ true
is_named-i32 n = search (rules, the_lemmas)

pub is_named-zero : (ty : ZeroType) → is_named_expr (expr.Zero ty) ≡ true
is_named-zero ty = search (rules, the_lemmas)

pub is_named-unit : is_named_expr expr.Unit ≡ true
is_named-unit = search (rules, the_lemmas)

pub is_named-case : (path : Path) → is_named_expr (expr.Case path) ≡ is_case_path path
is_named-case path = search (rules, the_lemmas)

pub is_named-method : (e : Expr) (method : Method) → is_named_expr (expr.Method e method) ≡ is_named_expr e
is_named-method e method = ap is_named_expr (sym (rolls-Method e method)) ∙ fold-roll-Expr Bool named_step (Expr-F.Method e method)
