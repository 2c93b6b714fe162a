-- What the table of steps reads like: the statements and the results of some instructions, as they are printed.
use Rattle.std.proofs.Common.{◌≡◌, ℕ, true, false, List, [], ◌∷◌, ◌++◌, map, Option, Some, refl, sym, ap, ◌∙◌}
use Rattle.std.specs.Prelude.{codes, decimal, option_and_then, option_map}
use Rattle.wit_model.specs.Bytes.{Bytes}
use Rattle.wit_model.specs.declared.name.TypeId.{TypeId}
use Rattle.wit_model.specs.declared.size.ArchitectureSize.{ArchitectureSize}
use Rattle.rust_tree.specs.CodeText.{Spelled, arm_step, block_step, expr_spelled, expr_step, expr_text, flags_of_words_text, stmt_step, stmt_text, term_text}
use Rattle.rust_tree.specs.Runtime.{item_name}
use Rattle.rust_tree.specs.Word.{expr_word, flags_word, sign}
use Rattle.rust_tree.specs.declared.expr.CastType.{CastType}
use Rattle.rust_tree.specs.declared.expr.CastType.TheVariants as cast
use Rattle.rust_tree.specs.declared.expr.Expr.{Expr, Expr-F, fold-roll-Expr}
use Rattle.rust_tree.specs.declared.expr.Expr.TheVariants as expr
use Rattle.rust_tree.specs.declared.expr.Expr.TheVariants.{rolls-AsPtr, rolls-Call, rolls-Cast, rolls-CastMut, rolls-EnumNumber, rolls-FlagsBits, rolls-FlagsOfWords, rolls-FromRawParts, rolls-I32FromBool, rolls-IntoBoxedBytes, rolls-Len, rolls-LoadSmall, rolls-Local}
use Rattle.rust_tree.specs.declared.expr.SmallType.{SmallType}
use Rattle.rust_tree.specs.declared.expr.SmallType.TheVariants as small
use Rattle.rust_tree.specs.declared.path.Path.{Path}
use Rattle.rust_tree.specs.declared.repr.Repr.{Repr}
use Rattle.rust_tree.specs.declared.repr.Repr.TheVariants as repr_of
use Rattle.rust_tree.specs.declared.runtime_item.RuntimeItem.TheVariants as runtime
use Rattle.rust_tree.specs.declared.stmt.Stmt.{Stmt-F, fold-roll-Stmt}
use Rattle.rust_tree.specs.declared.stmt.Stmt.TheVariants as stmt
use Rattle.rust_tree.specs.declared.stmt.Stmt.TheVariants.{rolls-Expr, rolls-Let, rolls-StoreSmall}
use Rattle.wrapper_run.specs.Run.{lift_name}
use Rattle.abi_bindgen.specs.declared.instruction.Instruction.{Instruction}
use Rattle.abi_bindgen.specs.declared.instruction.Instruction.TheVariants.{BoolFromI32, EnumLift, EnumLower, FlagsLift, FlagsLower, I32FromBool, I32Load8U, I32Store8, StringLift, StringLower}
use Rattle.abi_bindgen.specs.Sent.{sends}
use Rattle.func_gen.specs.declared.enum_site.EnumSite.{EnumSite}
use Rattle.func_gen.specs.declared.flags_site.FlagsSite.{FlagsSite}
use Rattle.func_gen.specs.declared.function_bindgen.FunctionBindgen.{FunctionBindgen}
use Rattle.func_gen.specs.CodeOf.{context, emitted}
use Rattle.func_gen.specs.Emission.{Emission}
use Rattle.func_gen.specs.EnumForms.{enum_at, lift_path, lifts_enum}
use Rattle.func_gen.specs.FlagsForms.{flags_at, lifts_flags, lowers_flags}
use Rattle.func_gen.specs.Forms.{runtime_name, runtime_path}
use Rattle.func_gen.specs.TextForms.{bytes_name, forget_names, forget_path, len_name, ptr_name, text_name, vec_name}
use Rattle.func_gen.proofs.Emissions.{local_is}

-- 1. Expressions

spelled-local : (n : Bytes) → expr_spelled (expr.Local n) ≡ expr_step (Expr-F.Local n)
spelled-local n = ap expr_spelled (sym (rolls-Local n)) ∙ fold-roll-Expr Spelled expr_step (Expr-F.Local n)

spelled-cast : (e : Expr) (to : CastType) → expr_spelled (expr.Cast e to) ≡ expr_step (Expr-F.Cast (expr_spelled e) to)
spelled-cast e to = ap expr_spelled (sym (rolls-Cast e to)) ∙ fold-roll-Expr Spelled expr_step (Expr-F.Cast e to)

spelled-call : (p : Path) (es : List Expr) → expr_spelled (expr.Call p es) ≡ expr_step (Expr-F.Call p (map expr_spelled es))
spelled-call p es = ap expr_spelled (sym (rolls-Call p es)) ∙ fold-roll-Expr Spelled expr_step (Expr-F.Call p es)

spelled-bool : (e : Expr) → expr_spelled (expr.I32FromBool e) ≡ expr_step (Expr-F.I32FromBool (expr_spelled e))
spelled-bool e = ap expr_spelled (sym (rolls-I32FromBool e)) ∙ fold-roll-Expr Spelled expr_step (Expr-F.I32FromBool e)

spelled-pointer : (n : Bytes) → expr_spelled (expr.AsPtr n) ≡ expr_step (Expr-F.AsPtr n)
spelled-pointer n = ap expr_spelled (sym (rolls-AsPtr n)) ∙ fold-roll-Expr Spelled expr_step (Expr-F.AsPtr n)

spelled-len : (n : Bytes) → expr_spelled (expr.Len n) ≡ expr_step (Expr-F.Len n)
spelled-len n = ap expr_spelled (sym (rolls-Len n)) ∙ fold-roll-Expr Spelled expr_step (Expr-F.Len n)

spelled-mut : (n : Bytes) → expr_spelled (expr.CastMut n) ≡ expr_step (Expr-F.CastMut n)
spelled-mut n = ap expr_spelled (sym (rolls-CastMut n)) ∙ fold-roll-Expr Spelled expr_step (Expr-F.CastMut n)

spelled-raw : (e : Expr) (n : Bytes) → expr_spelled (expr.FromRawParts e n) ≡ expr_step (Expr-F.FromRawParts (expr_spelled e) n)
spelled-raw e n = ap expr_spelled (sym (rolls-FromRawParts e n)) ∙ fold-roll-Expr Spelled expr_step (Expr-F.FromRawParts e n)

spelled-number : (e : Expr) → expr_spelled (expr.EnumNumber e) ≡ expr_step (Expr-F.EnumNumber (expr_spelled e))
spelled-number e = ap expr_spelled (sym (rolls-EnumNumber e)) ∙ fold-roll-Expr Spelled expr_step (Expr-F.EnumNumber e)

spelled-bits : (name : Bytes) (by : ℕ) → expr_spelled (expr.FlagsBits name by) ≡ expr_step (Expr-F.FlagsBits name by)
spelled-bits name by = ap expr_spelled (sym (rolls-FlagsBits name by)) ∙ fold-roll-Expr Spelled expr_step (Expr-F.FlagsBits name by)

spelled-flags : (p : Path) (r : Repr) (words : List (ℕ × Expr)) → expr_spelled (expr.FlagsOfWords p r words) ≡ expr_step (Expr-F.FlagsOfWords p r (map (λ w. (w.0, expr_spelled w.1)) words))
spelled-flags p r words = ap expr_spelled (sym (rolls-FlagsOfWords p r words)) ∙ fold-roll-Expr Spelled expr_step (Expr-F.FlagsOfWords p r words)

spelled-small : (e : Expr) (o : ArchitectureSize) (ty : SmallType) → expr_spelled (expr.LoadSmall e o ty) ≡ expr_step (Expr-F.LoadSmall (expr_spelled e) o ty)
spelled-small e o ty = ap expr_spelled (sym (rolls-LoadSmall e o ty)) ∙ fold-roll-Expr Spelled expr_step (Expr-F.LoadSmall e o ty)

spelled-boxed : (n : Bytes) → expr_spelled (expr.IntoBoxedBytes n) ≡ expr_step (Expr-F.IntoBoxedBytes n)
spelled-boxed n = ap expr_spelled (sym (rolls-IntoBoxedBytes n)) ∙ fold-roll-Expr Spelled expr_step (Expr-F.IntoBoxedBytes n)

-- 2. Statements

printed-let : (n : Bytes) (e : Expr) → stmt_text (stmt.Let n e) ≡ stmt_step (Stmt-F.Let n e)
printed-let n e = ap stmt_text (sym (rolls-Let n e)) ∙ fold-roll-Stmt Bytes Bytes Bytes stmt_step arm_step block_step (Stmt-F.Let n e)

printed-expr : (e : Expr) → stmt_text (stmt.Expr e) ≡ stmt_step (Stmt-F.Expr e)
printed-expr e = ap stmt_text (sym (rolls-Expr e)) ∙ fold-roll-Stmt Bytes Bytes Bytes stmt_step arm_step block_step (Stmt-F.Expr e)

printed-store_small : (address : Expr) (o : ArchitectureSize) (ty : SmallType) (e : Expr) → stmt_text (stmt.StoreSmall address o ty e) ≡ stmt_step (Stmt-F.StoreSmall address o ty e)
printed-store_small address o ty e = ap stmt_text (sym (rolls-StoreSmall address o ty e)) ∙ fold-roll-Stmt Bytes Bytes Bytes stmt_step arm_step block_step (Stmt-F.StoreSmall address o ty e)

-- 3. Instructions

abbrev printed : Emission → List Bytes × List Bytes
printed e = (map stmt_text e.stmts, map expr_text e.results)

abbrev shown : FunctionBindgen → Instruction → List Expr → ℕ → Option (List Bytes × List Bytes)
shown b i es t = option_map (λ (code : ℕ → Emission). printed (code t)) (emitted (context b) (sends i) es)

abbrev a : Expr
a = expr.Local (codes "a")

abbrev c : Expr
c = expr.Local (codes "c")

-- a number as it stands in the name of a local
abbrev n : ℕ → Bytes
n t = decimal t ++ []

-- `let x7 = e;`
abbrev let_is : Bytes → ℕ → Bytes → Bytes
let_is prefix t e = prefix ++ n t ++ codes " = " ++ e ++ codes ";\n"

lower_bool : (b : FunctionBindgen) (t : ℕ) → shown b I32FromBool (a ∷ []) t ≡ Some (let_is (codes "let b") t (codes "match a { true => 1i32, false => 0i32 }") ∷ [], (codes "b" ++ n t) ∷ [])
unfolding sign expr_word
lower_bool b t = rw (printed-let, spelled-bool a, spelled-local (codes "a"), spelled-local (codes "b" ++ n t), expr_text) refl

lift_bool : (b : FunctionBindgen) (t : ℕ) → shown b BoolFromI32 (a ∷ []) t ≡ Some (let_is (codes "let b") t (codes "_rt::bool_lift(a as u8)") ∷ [], (codes "b" ++ n t) ∷ [])
unfolding sign expr_word runtime_name item_name
lift_bool b t = rw (printed-let, spelled-call (runtime_path runtime.BoolLift) (expr.Cast a cast.U8 ∷ []), spelled-cast a cast.U8, spelled-local (codes "a"), spelled-local (codes "b" ++ n t), expr_text) refl

load_byte : (b : FunctionBindgen) (o : ArchitectureSize) (t : ℕ) → shown b (I32Load8U o) (a ∷ []) t
    ≡ Some (let_is (codes "let l") t (codes "i32::from(*a" ++ (codes ".add(" ++ term_text o ++ codes ").cast::<" ++ codes "u8" ++ codes ">()") ++ codes ")") ∷ [], (codes "l" ++ n t) ∷ [])
unfolding sign expr_word
load_byte b o t = rw (printed-let, spelled-small a o small.U8, spelled-local (codes "a"), spelled-local (codes "l" ++ n t), expr_text) refl

store_byte : (b : FunctionBindgen) (o : ArchitectureSize) (t : ℕ) → shown b (I32Store8 o) (a ∷ c ∷ []) t ≡ Some ((codes "*c" ++ (codes ".add(" ++ term_text o ++ codes ").cast::<" ++ codes "u8" ++ codes ">()") ++ codes " = " ++ codes "(a) as u8" ++ codes ";\n") ∷ [], [])
unfolding sign expr_word
store_byte b o t = rw (printed-store_small, spelled-local (codes "c"), spelled-local (codes "a"), expr_text) refl

lend_text : (b : FunctionBindgen) (t : ℕ) → shown b (StringLower false) (a ∷ []) t
    ≡ Some (
      let_is (codes "let vec") t (codes "a") ∷ let_is (codes "let ptr") t (codes "vec" ++ n t ++ codes ".as_ptr().cast::<u8>()") ∷ let_is (codes "let len") t (codes "vec" ++ n t ++ codes ".len()") ∷ [],
      (codes "ptr" ++ n t ++ codes ".cast_mut()") ∷ (codes "len" ++ n t) ∷ [],
    )
unfolding sign expr_word
lend_text b t = rw (printed-let, printed-let, printed-let, spelled-local (codes "a"), spelled-pointer (vec_name t), spelled-len (vec_name t), spelled-mut (ptr_name t), spelled-local (len_name t), expr_text) refl

give_text : (b : FunctionBindgen) (t : ℕ) → shown b (StringLower true) (a ∷ []) t
    ≡ Some (
      let_is (codes "let vec") t (codes "(a.into_bytes()).into_boxed_slice()") ∷ let_is (codes "let ptr") t (codes "vec" ++ n t ++ codes ".as_ptr().cast::<u8>()") ∷ let_is (codes "let len") t (codes "vec" ++ n t ++ codes ".len()")
          ∷ (codes "::core::mem::forget" ++ (codes "(vec" ++ n t ++ [] ++ codes ")") ++ codes ";\n") ∷ [],
      (codes "ptr" ++ n t ++ codes ".cast_mut()") ∷ (codes "len" ++ n t) ∷ [],
    )
unfolding sign expr_word forget_names
give_text b t =
    rw (local_is (codes "a"), printed-let, printed-let, printed-let, printed-expr, spelled-boxed (codes "a"), spelled-pointer (vec_name t), spelled-len (vec_name t), spelled-call forget_path (expr.Local (vec_name t) ∷ []), spelled-local (vec_name t), spelled-mut (ptr_name t), spelled-local (len_name t), expr_text) refl

take_text : (b : FunctionBindgen) (t : ℕ) → shown b StringLift (a ∷ c ∷ []) t
    ≡ Some (
      let_is (codes "let len") t (codes "c") ∷ let_is (codes "let bytes") t (codes "_rt::Vec::from_raw_parts(a" ++ (codes ".cast(), len" ++ n t ++ codes ", " ++ (codes "len" ++ n t) ++ codes ")"))
          ∷ let_is (codes "let text") t (codes "_rt::string_lift" ++ (codes "(bytes" ++ n t ++ [] ++ codes ")")) ∷ [],
      (codes "text" ++ n t) ∷ [],
    )
unfolding sign expr_word runtime_name item_name
take_text b t =
    rw (printed-let, printed-let, printed-let, spelled-local (codes "c"), spelled-raw a (len_name t), spelled-local (codes "a"), spelled-call (runtime_path runtime.StringLift) (expr.Local (bytes_name t) ∷ []), spelled-local (bytes_name t), spelled-local (text_name t), expr_text) refl

lower_enum : (b : FunctionBindgen) (id : TypeId) (t : ℕ) → shown b (EnumLower id) (a ∷ []) t ≡ Some ([], codes "(a).clone() as i32" ∷ [])
unfolding sign expr_word
lower_enum b id t = rw (spelled-number a, spelled-local (codes "a"), expr_text) refl

-- an enum of three cases
abbrev color : EnumSite
color = record { path = record { lead = false; supers = 0; names = codes "Color" ∷ [] }; repr = repr_of.U8; cases = 3 }

lift_enum : (b : FunctionBindgen) (id : TypeId) (t : ℕ) → enum_at b.sites id.0 ≡ Some color → shown b (EnumLift id) (a ∷ []) t ≡ Some (let_is (codes "let v") t (codes "Color::_lift(a as u8)") ∷ [], (codes "v" ++ n t) ∷ [])
unfolding sign expr_word lift_name
lift_enum b id t h =
    ap (λ o. option_map (λ (code : ℕ → Emission). printed (code t)) (option_and_then (lifts_enum a) o)) h
    ∙ rw (printed-let, spelled-call (lift_path (codes "Color")) (expr.Cast a cast.U8 ∷ []), spelled-cast a cast.U8, spelled-local (codes "a"), spelled-local (codes "v" ++ n t), expr_text) refl

-- flags of two words
abbrev perms : FlagsSite
perms = record { path = record { lead = false; supers = 0; names = codes "Perms" ∷ [] }; repr = repr_of.U64; members = 33 }

-- the flags by the number in their name
abbrev flags_local : ℕ → Bytes
flags_local t = codes "flags" ++ n t

lower_flags : (b : FunctionBindgen) (id : TypeId) (t : ℕ) → flags_at b.sites id.0 ≡ Some perms → shown b (FlagsLower id) (a ∷ []) t
    ≡ Some (let_is (codes "let flags") t (codes "a") ∷ [], (codes "(flags" ++ n t ++ codes ".bits() >> " ++ decimal 0 ++ codes ") as i32") ∷ (codes "(flags" ++ n t ++ codes ".bits() >> " ++ decimal 32 ++ codes ") as i32") ∷ [])
unfolding sign expr_word flags_word
lower_flags b id t h =
    ap (λ o. option_map (λ (code : ℕ → Emission). printed (code t)) (option_map (lowers_flags a) o)) h ∙ rw (printed-let, spelled-local (codes "a"), spelled-bits (flags_local t) 0, spelled-bits (flags_local t) 32, expr_text) refl

-- `Perms::empty() | Perms::from_bits_retain(((a as u32 as u64) << 0) as _) | Perms::from_bits_retain(((c as u32 as u64) << 32) as _)`
lift_flags : (b : FunctionBindgen) (id : TypeId) (t : ℕ) → flags_at b.sites id.0 ≡ Some perms → shown b (FlagsLift id) (a ∷ c ∷ []) t
    ≡ Some (let_is (codes "let flags") t (flags_of_words_text perms.path repr_of.U64 ((0, codes "a") ∷ (32, codes "c") ∷ [])) ∷ [], flags_local t ∷ [])
unfolding sign expr_word flags_word
lift_flags b id t h =
    ap (λ o. option_map (λ (code : ℕ → Emission). printed (code t)) (option_map (lifts_flags (a ∷ c ∷ [])) o)) h
    ∙ rw (printed-let, spelled-flags perms.path repr_of.U64 ((0, a) ∷ (32, c) ∷ []), spelled-local (codes "a"), spelled-local (codes "c"), spelled-local (flags_local t), expr_text) refl
