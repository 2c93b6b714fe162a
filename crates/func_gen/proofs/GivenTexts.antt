-- An operand that is no local by itself denotes no text that may be given away: what is read behind a reference is lent, and every other form
-- reads a word or a number.
use Rattle.std.proofs.Common.{rules, ◌≡◌, ℕ, Bool, true, false, List, [], ◌∷◌, length, Option, None, Some, refl, sym, ap, ◌∙◌, arith}
use Rattle.std.specs.Prelude.{ℤ, option_and_then, option_map}
use Rattle.std.specs.Option.{option_or}
use Rattle.wit_model.specs.Bytes.{Bytes}
use Rattle.wit_model.specs.declared.types.TypeDef.{TypeDef}
use Rattle.wit_model.specs.declared.types.WitType.TheVariants as wit
use Rattle.rust_tree.specs.declared.expr.CastType.{CastType}
use Rattle.rust_tree.specs.declared.expr.CastType.TheVariants as cast
use Rattle.rust_tree.specs.declared.expr.Expr.{Expr, Expr-F, fold-roll-Expr, map-Expr, out-Expr, roll-Expr, roll-out-Expr}
use Rattle.rust_tree.specs.declared.expr.Expr.TheVariants as expr
use Rattle.rust_tree.specs.declared.expr.Expr.TheVariants.{rolls-Local}
use Rattle.rust_tree.specs.declared.expr.Method.{Method}
use Rattle.rust_tree.specs.declared.expr.Method.TheVariants as method
use Rattle.rust_tree.specs.declared.item.Item.{Item}
use Rattle.rust_tree.specs.declared.runtime_item.RuntimeItem.{RuntimeItem}
use Rattle.wrapper_data.specs.declared.block.Block.{Block}
use Rattle.wrapper_data.specs.declared.value.RustValue.{RustValue, RustValue-F, fold-RustValue, fold-roll-RustValue, map-RustValue, out-RustValue, roll-out-RustValue, the_lemmas}
use Rattle.wrapper_data.specs.declared.value.RustValue.TheVariants as value
use Rattle.wrapper_data.specs.declared.word.Word.{Word}
use Rattle.wrapper_data.specs.declared.word.Word.TheVariants as core
use Rattle.wrapper_data.proofs.Opened.{out-buffer}
use Rattle.wrapper_meaning.specs.Direction.{give}
use Rattle.wrapper_meaning.specs.Shape.Shape.{text}
use Rattle.wrapper_meaning.specs.Value.{Value}
use Rattle.wrapper_meaning.proofs.RustValues.{out-bits, out-bool, out-case, out-char, out-f32, out-f64, out-num}
use Rattle.wrapper_values.specs.declared.state.Val.{Val}
use Rattle.wrapper_values.specs.declared.state.Val.TheVariants as val
use Rattle.wrapper_values.specs.CoreWords.{called_on, core_word, slot_bits, slot_pointer, u32_value, u64_value, zero_word}
use Rattle.wrapper_values.specs.Effect.{cast_integer, cast_to, converted, f32_of, f64_of, integer_of}
use Rattle.wrapper_values.specs.Enums.{word_of_case}
use Rattle.wrapper_values.specs.Flags.{bits_of_flags, word_at}
use Rattle.wrapper_values.specs.Owning.{lent, lent_level, lent_value, pointer_of}
use Rattle.wrapper_run.specs.Run.{Callee, alone, callee, core_case, core_forget, core_function, member_of, of_runtime, runtime_item_named, unknown}
use Rattle.abi_bindgen.specs.declared.instruction.Instruction.TheVariants.{StringLower}
use Rattle.abi_bindgen.specs.Instructions.{Emits}
use Rattle.abi_bindgen.specs.Leaves.{LowersText}
use Rattle.abi_bindgen.specs.Meaning.{item, of}
use Rattle.abi_bindgen.specs.Sent.{sends}
use Rattle.func_gen.specs.declared.function_bindgen.FunctionBindgen.{FunctionBindgen}
use Rattle.func_gen.specs.declared.operand.ExprOperand.{ExprOperand}
use Rattle.func_gen.specs.CodeOf.{context, emitted, gives_text, local_of, local_step}
use Rattle.func_gen.specs.FactLemmas.{is_said}
use Rattle.func_gen.specs.Forms.{operand_of}
use Rattle.func_gen.specs.Meaning.{StandsAsItIs, func_meaning, passing_level}
use Rattle.func_gen.specs.PartForms.{exprs_of}
use Rattle.func_gen.specs.Read.{Env, Read, as_case_word, as_flags_word, as_pointer, conversion, converts, env_of, read, read_step}
use Rattle.func_gen.specs.ReadForms.{bare_value, lent_of}
use Rattle.func_gen.proofs.Buffers.{normal_buffer}
use Rattle.func_gen.proofs.PlainOperands.{emits_plainly}

-- 1. Which values own their bytes

abbrev flag_level : RustValue-F RustValue → Bool
flag_level (RustValue-F.Buffer address len owned) = owned
flag_level _ = false

-- a buffer whose flag says that it owns its block
abbrev is_owner : Val → Bool
is_owner (val.Value r) = flag_level (out-RustValue r)
is_owner _ = false

out-seq : (rs : List RustValue) → out-RustValue (value.Seq rs) ≡ RustValue-F.Seq rs
out-seq rs = search (rules, the_lemmas)

out-struct : (rs : List RustValue) → out-RustValue (value.Struct rs) ≡ RustValue-F.Struct rs
out-struct rs = search (rules, the_lemmas)

out-map : (rs : List (RustValue × RustValue)) → out-RustValue (value.Map rs) ≡ RustValue-F.Map rs
out-map rs = search (rules, the_lemmas)

out-handle : (n : ℕ) (o : Bool) → out-RustValue (value.Handle n o) ≡ RustValue-F.Handle n o
out-handle n o = search (rules, the_lemmas)

out-unit : out-RustValue value.Unit ≡ RustValue-F.Unit
out-unit = search (rules, the_lemmas)

level_lent : (l : RustValue-F RustValue) → flag_level (out-RustValue (lent_level l)) ≡ false
level_lent (RustValue-F.Buffer a n o) = ap flag_level (out-buffer a n false)
level_lent (RustValue-F.Handle n o) = ap flag_level (out-handle n false)
level_lent (RustValue-F.Bool b) = ap flag_level (out-bool b)
level_lent (RustValue-F.Num k z) = ap flag_level (out-num k z)
level_lent (RustValue-F.F32 n) = ap flag_level (out-f32 n)
level_lent (RustValue-F.F64 n) = ap flag_level (out-f64 n)
level_lent (RustValue-F.Char n) = ap flag_level (out-char n)
level_lent (RustValue-F.Seq rs) = ap flag_level (out-seq rs)
level_lent (RustValue-F.Struct rs) = ap flag_level (out-struct rs)
level_lent (RustValue-F.Case n p) = ap flag_level (out-case n p)
level_lent (RustValue-F.Bits n) = ap flag_level (out-bits n)
level_lent (RustValue-F.Map rs) = ap flag_level (out-map rs)
level_lent RustValue-F.Unit = ap flag_level out-unit

lent_no_owner : (r : RustValue) → is_owner (val.Value (lent_value r)) ≡ false
lent_no_owner r =
    ap (λ x. flag_level (out-RustValue (lent_value x))) (sym (roll-out-RustValue r)) ∙ ap (λ x. flag_level (out-RustValue x)) (fold-roll-RustValue RustValue lent_level (out-RustValue r))
    ∙ level_lent (map-RustValue RustValue RustValue lent_value (out-RustValue r))

-- 2. What forms read

mapped : {A : Type 0} (f : A → Val) → ((a : A) → is_owner (f a) ≡ false) → (o : Option A) (v : Val) → option_map f o ≡ Some v → is_owner v ≡ false
mapped f each None v h = absurd cc
mapped f each (Some a) v h = let same : f a ≡ v = cc in sym (ap is_owner same) ∙ each a

word_read : (o : Option Word) (v : Val) → option_map val.Word o ≡ Some v → is_owner v ≡ false
word_read o v h = mapped val.Word (λ x. refl) o v h

lent_read : (o : Option Val) (v : Val) → option_and_then lent o ≡ Some v → is_owner v ≡ false
lent_read None v h = absurd cc
lent_read (Some (val.Word x)) v h = let same : val.Word x ≡ v = cc in sym (ap is_owner same)
lent_read (Some (val.Value r)) v h = let same : val.Value (lent_value r) ≡ v = cc in sym (ap is_owner same) ∙ lent_no_owner r
lent_read (Some (val.Area a n)) v h = absurd cc

pointer_read : (o : Option Val) (v : Val) → option_and_then as_pointer o ≡ Some v → is_owner v ≡ false
pointer_read None v h = absurd cc
pointer_read (Some x) v h = word_read (pointer_of x) v h

cast_number : (to : CastType) (z : ℤ) → is_owner (cast_integer to z) ≡ false
cast_number cast.U8 z = ap flag_level (out-num wit.U8 _)
cast_number cast.I8 z = ap flag_level (out-num wit.S8 _)
cast_number cast.U16 z = ap flag_level (out-num wit.U16 _)
cast_number cast.I16 z = ap flag_level (out-num wit.S16 _)
cast_number cast.U32 z = ap flag_level (out-num wit.U32 _)
cast_number cast.U64 z = ap flag_level (out-num wit.U64 _)
cast_number cast.I32 z = refl
cast_number cast.I64 z = refl
cast_number cast.Usize z = refl
cast_number cast.Pointer z = refl

cast_read : (to : CastType) (x v : Val) → cast_to to x ≡ Some v → is_owner v ≡ false
unfolding cast_to
cast_read to x v h = mapped (cast_integer to) (cast_number to) (integer_of x) v h

bits_read : (o p : Option ℕ) (v : Val) → option_or (option_map u32_value o) (option_map u64_value p) ≡ Some v → is_owner v ≡ false
bits_read (Some n) p v h = mapped u32_value (λ k. ap flag_level (out-num wit.U32 _)) (Some n) v h
bits_read None p v h = mapped u64_value (λ k. ap flag_level (out-num wit.U64 _)) p v h

method_read : (m : Method) (x v : Val) → called_on m x ≡ Some v → is_owner v ≡ false
unfolding called_on
method_read method.ToBits x v h = bits_read (f32_of x) (f64_of x) v h
method_read method.AssumeInit x v h = mapped u64_value (λ k. ap flag_level (out-num wit.U64 _)) (slot_bits x) v h
method_read method.ReadPointer x v h = mapped slot_pointer (λ k. refl) (slot_bits x) v h

converted_read : (o : Option RuntimeItem) (x v : Val) → converts o x ≡ Some v → is_owner v ≡ false
converted_read None x v h = absurd cc
converted_read (Some i) x v h = word_read (converted i x) v h

call_read : (items : List Item) (c : Callee) (x v : Val) → conversion items c x ≡ Some v → is_owner v ≡ false
call_read items (of_runtime name) x v h = converted_read (runtime_item_named items name) x v h
call_read items (core_function f) x v h = word_read (core_word f x) v h
call_read items (alone name) x v h = absurd cc
call_read items (member_of ty name) x v h = absurd cc
call_read items (core_case number) x v h = absurd cc
call_read items core_forget x v h = absurd cc
call_read items unknown x v h = absurd cc

level_read : (items : List Item) (l : Expr-F Expr) (env : Env) (v : Val) → local_step (map-Expr Expr (Option Bytes) local_of l) ≡ None → (read_step items (map-Expr Expr Read (read items) l)).at env ≡ Some v → is_owner v ≡ false
level_read items (Expr-F.Local name) env v other h = absurd cc
level_read items (Expr-F.Ref name) env v other h = lent_read (env name) v (lent_of (env name) v h).1
level_read items (Expr-F.CastMut name) env v other h = pointer_read (env name) v h
level_read items (Expr-F.FlagsBits name by) env v other h = let (x, is, none, does) = bare_value (as_flags_word by) (env name) v h in mapped (λ bits. val.Word (word_at by bits)) (λ bits. refl) (bits_of_flags x) v does
level_read items (Expr-F.EnumNumber e) env v other h = let (x, is, none, does) = bare_value as_case_word ((read items e).at env) v h in word_read (word_of_case x) v does
level_read items (Expr-F.Cast e to) env v other h = let (x, is, none, does) = bare_value (cast_to to) ((read items e).at env) v h in cast_read to x v does
level_read items (Expr-F.I32Const n) env v other h = let same : val.Word (core.I32 n) ≡ v = cc in sym (ap is_owner same)
level_read items (Expr-F.Zero ty) env v other h = let same : val.Word (zero_word ty) ≡ v = cc in sym (ap is_owner same)
level_read items (Expr-F.Method e m) env v other h = let (x, is, none, does) = bare_value (called_on m) ((read items e).at env) v h in method_read m x v does
level_read items (Expr-F.Call path []) env v other h = absurd cc
level_read items (Expr-F.Call path (e ∷ [])) env v other h = let (x, is, none, does) = bare_value (conversion items (callee path)) ((read items e).at env) v h in call_read items (callee path) x v does
level_read items (Expr-F.Call path (e ∷ f ∷ es)) env v other h = absurd cc
level_read items l env v other h = absurd (let none : (let o : Option Val = None in o ≡ Some v) = h in cc)

-- 3. So only a local gives a text away

local_out : (e : Expr) → local_of e ≡ local_step (map-Expr Expr (Option Bytes) local_of (out-Expr e))
local_out e = ap local_of (sym (roll-out-Expr e)) ∙ fold-roll-Expr (Option Bytes) local_step (out-Expr e)

no_owner : (items : List Item) (e : Expr) (env : Env) (v : Val) → local_of e ≡ None → (read items e).at env ≡ Some v → is_owner v ≡ false
no_owner items e env v other h =
    let reads : read items e ≡ read_step items (map-Expr Expr Read (read items) (out-Expr e)) = ap (read items) (sym (roll-out-Expr e)) ∙ fold-roll-Expr Read (read_step items) (out-Expr e) in
    level_read items (out-Expr e) env v (sym (local_out e) ∙ other) (sym (ap (λ (r : Read). r.at env) reads) ∙ h)

-- a text that is given away has its bytes for its own
pub given_text : (bytes : Value text) (r : RustValue) (own : List Block) (st : StandsAsItIs give text bytes r own) → r ≡ value.Buffer st.0.address (length bytes) true
given_text bytes r own st = sym st.1 ∙ ap (fold-RustValue RustValue (passing_level give)) st.0.is ∙ normal_buffer st.0.address (length bytes) st.0.owned

module _ (old new : FunctionBindgen) (e : Expr) (rs : List ExprOperand) where
  ungiven : local_of e ≡ None → LowersText func_meaning true (operand_of e ∷ []) rs old new
  ungiven other heap bytes r own st =
      let b = st.0 in (
        core.Pointer b.address ∷ core.Length (length bytes) ∷ [],
        record { address = b.address; pair = refl; range = b.range; buffer = b.buffer },
        λ w p others s0 s at.
            let reads = is_said w.items old.params (env_of s.machine) (of (operand_of e) (item r)) (omega (arith, at.holds.hold.right)) in
            let none : is_owner (val.Value r) ≡ false = no_owner w.items e (env_of s.machine) (val.Value r) other reads in
            let owner : is_owner (val.Value r) ≡ true = ap (λ x. flag_level (out-RustValue x)) (given_text bytes r own st) ∙ ap flag_level (out-buffer b.address (length bytes) true) in
            absurd (let clash : true ≡ false = sym owner ∙ none in cc),
      )

-- of any other operand the code is that of a text that is lent
pub lent_instead : (types : List TypeDef) (os rs : List ExprOperand) (e : Expr) (old new : FunctionBindgen) → exprs_of os ≡ e ∷ [] → local_of e ≡ None → Emits func_meaning types (StringLower false) os rs old new → Emits func_meaning types (StringLower true) os rs old new
lent_instead types os rs e old new only other h =
    let code = h.form.code in
    emits_plainly types (StringLower true) os (e ∷ []) rs rs old new refl only refl (record {
      adds = h.adds;
      blocks = h.blocks;
      returned = h.returned;
      asked = h.asked;
      results = h.results;
      form = record {
        still = h.form.still;
        given = tt;
        code = record { code = code.code; is = ap (λ o. Some (gives_text e o)) other ∙ sym (ap (emitted (context old) (sends (StringLower false))) only) ∙ code.is; writes = code.writes };
      };
      row = ungiven old new e rs other;
    })

level_local : (l : Expr-F Expr) (name : Bytes) → local_step (map-Expr Expr (Option Bytes) local_of l) ≡ Some name → roll-Expr l ≡ expr.Local name
level_local (Expr-F.Local n) name h = let same : n ≡ name = cc in rolls-Local n ∙ ap (λ x. expr.Local x) same
level_local _ name h = absurd (let other = h in cc)

pub local_there : (e : Expr) (name : Bytes) → local_of e ≡ Some name → e ≡ expr.Local name
local_there e name h = sym (roll-out-Expr e) ∙ level_local (out-Expr e) name (sym (local_out e) ∙ h)
