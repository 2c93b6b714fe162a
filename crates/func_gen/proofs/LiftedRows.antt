-- The rows of bools and of chars that are lifted: a statement binds what the expression gives.
use Rattle.std.proofs.Common.{◌≡◌, ℕ, zero, suc, ℤ, pos, Bool, true, false, nat_eq, nat_lt, if◌then◌else◌, List, [], ◌∷◌, Some, refl, sym, ap, ◌∙◌, subst, arith}
use Rattle.std.specs.Prelude.{option_and_then, Result, Ok, Err, codes}
use Rattle.std.proofs.lemmas.Bool.Decides.{nat_tests}
use Rattle.std.proofs.lemmas.Int.{ints}
use Rattle.wit_layout.specs.Tree.{Scalar}
use Rattle.wit_model.specs.Bytes.{Bytes}
use Rattle.wit_model.specs.declared.types.TypeDef.{TypeDef}
use Rattle.wit_model.specs.declared.types.WitType.TheVariants as wit
use Rattle.rust_tree.specs.declared.expr.CastType.{CastType}
use Rattle.rust_tree.specs.declared.expr.CastType.TheVariants as cast
use Rattle.rust_tree.specs.declared.expr.Expr.{Expr}
use Rattle.rust_tree.specs.declared.expr.Expr.TheVariants as expr
use Rattle.rust_tree.specs.declared.item.Item.{Item}
use Rattle.rust_tree.specs.declared.runtime_item.RuntimeItem.{RuntimeItem}
use Rattle.rust_tree.specs.declared.runtime_item.RuntimeItem.TheVariants.{BoolLift, CharLift}
use Rattle.rust_tree.specs.declared.stmt.Stmt.TheVariants as stmt
use Rattle.rust_tree.specs.Runtime.{item_name}
use Rattle.wrapper_data.specs.declared.form.Form.{Form}
use Rattle.wrapper_data.specs.declared.form.Form.TheVariants as form
use Rattle.wrapper_data.specs.declared.run.TrapKind.{TrapKind}
use Rattle.wrapper_data.specs.declared.run.TrapKind.TheVariants as trap
use Rattle.wrapper_data.specs.declared.value.RustValue.{RustValue}
use Rattle.wrapper_data.specs.declared.value.RustValue.TheVariants as value
use Rattle.wrapper_data.specs.declared.word.Word.{Word}
use Rattle.wrapper_data.specs.declared.word.Word.TheVariants as core
use Rattle.wrapper_meaning.specs.AsWords.{IsTaken, passed_word}
use Rattle.wrapper_meaning.specs.Direction.{take}
use Rattle.wrapper_meaning.specs.InRange.{IsScalar}
use Rattle.wrapper_meaning.specs.Numbers.{is_scalar_value, low_bits}
use Rattle.wrapper_meaning.specs.Numbers as number
use Rattle.wrapper_meaning.specs.Shape.Shape.{scalar}
use Rattle.wrapper_meaning.specs.Value.{ScalarValue}
use Rattle.wrapper_values.specs.declared.state.State.{State}
use Rattle.wrapper_values.specs.declared.state.Val.{Val}
use Rattle.wrapper_values.specs.declared.state.Val.TheVariants as val
use Rattle.wrapper_values.specs.Act as machine
use Rattle.wrapper_values.specs.Effect.{bit, bool_of_number, cast_integer, char_of_number, is_of_kind, lift_of, lift_of_number, low}
use Rattle.wrapper_values.specs.Owning.{owned}
use Rattle.wrapper_values.specs.Setting.{Setting}
use Rattle.wrapper_run.specs.Run.{apply, call_callee, call_runtime, converted_or_lifted, eval, lift_act, runtime_item_named}
use Rattle.wrapper_run.specs.Inward.{CallsNothing}
use Rattle.wrapper_run.proofs.InwardCalls.{expr_quiet}
use Rattle.wrapper_run.proofs.NumberLemmas.{not-converted, num_of-number, word_of-bool}
use Rattle.wrapper_run.proofs.StepLemmas.{bool_gives, call_gives}
use Rattle.abi_bindgen.specs.declared.instruction.Instruction.TheVariants.{BoolFromI32, CharFromI32, I32FromBool}
use Rattle.abi_bindgen.specs.Account.{Peer, failing, reading, stay}
use Rattle.abi_bindgen.specs.Instructions.{Emits}
use Rattle.abi_bindgen.specs.Laws.{Facts}
use Rattle.abi_bindgen.specs.Meaning.{Datum, item, of, word}
use Rattle.func_gen.specs.declared.function_bindgen.FunctionBindgen.{FunctionBindgen}
use Rattle.func_gen.specs.declared.operand.ExprOperand.{ExprOperand}
use Rattle.func_gen.specs.Added.{Appends, Fresh}
use Rattle.func_gen.specs.Facts.{Hold}
use Rattle.func_gen.specs.Forms.{operand_of, runtime_call, runtime_path}
use Rattle.func_gen.specs.Meaning.{File, Found, StandsAsItIs, account_of, answer_of, func_meaning, setting_for}
use Rattle.func_gen.specs.Operand.{is_operand}
use Rattle.func_gen.specs.Read.{env_of, read, read_operand}
use Rattle.func_gen.specs.Scope.{TakesOne}
use Rattle.abi_bindgen.specs.Sent.{sends}
use Rattle.func_gen.proofs.Evaluated.{gives}
use Rattle.func_gen.specs.FactLemmas.{Says, is_said}
use Rattle.func_gen.proofs.Forming.{IsPlain, form_let}
use Rattle.func_gen.proofs.InwardForms.{bool_inward, lifted_inward}
use Rattle.func_gen.proofs.Rows.{Agrees, let_adds, lets}
use Rattle.func_gen.proofs.ScalarRows.{calls_runtime, cast_says, emits_lifted, emits_lowered}
use Rattle.func_gen.proofs.Scalars.{stands_scalar}
use Rattle.func_gen.specs.StandLemmas.{scalar_owns}
use Rattle.func_gen.proofs.LowBits.{same_low}

-- what one fact that holds says
pub says_one : (items : List Item) (b : FunctionBindgen) (o : ExprOperand) (d : Datum RustValue) (s : State) → Hold items b (of o d ∷ []) s → Says d ((read_operand items o).at (env_of s))
says_one items b o d s h = is_said items b.params (env_of s) (of o d) (omega (arith, h.right))

-- 1. A bool becomes a word

same_bit : (b : Bool) → bit b ≡ pos (number.bit b)
same_bit true = refl
same_bit false = refl

bool_evaluated : (w : Setting) (e : Expr) (b : Bool) (s : State) → (read w.items e).at (env_of s) ≡ Some (val.Value (value.Bool b)) → eval w (expr.I32FromBool e) s ≡ machine.Done (val.Word (passed_word Scalar.bool b)) s
bool_evaluated w e b s h =
    let v = val.Value (value.Bool b) in
    let given = gives w e s v h (scalar_owns Scalar.bool b) in
    bool_gives w e v (core.I32 (bit b)) s given (word_of-bool b) ∙ ap (λ z. machine.Done (val.Word (core.I32 z)) s) (same_bit b)

pub bool_row : (types : List TypeDef) (old new : FunctionBindgen) (n : Bytes) (e : Expr) → is_operand e ≡ true → Appends old new (stmt.Let n (expr.I32FromBool e) ∷ []) [] → Fresh old new n → TakesOne old.scope (codes "b") n new.scope
    → Emits func_meaning types I32FromBool (operand_of e ∷ []) (operand_of (expr.Local n) ∷ []) old new
bool_row types old new n e ok a fresh one =
    let plain : IsPlain (sends I32FromBool) = record { gives = refl; calls = refl } in
    let quiet : (w : Setting) → CallsNothing (eval w (expr.I32FromBool e)) = λ w. expr_quiet w (expr.I32FromBool e) (bool_inward e ok) in
    emits_lowered types old new I32FromBool Scalar.bool (operand_of e) (operand_of (expr.Local n)) refl (let_adds old new n (expr.I32FromBool e) [] a fresh quiet) a.returned
    (form_let (sends I32FromBool) plain (operand_of e ∷ []) old new (codes "b") n (expr.I32FromBool e) [] refl one a)
    (λ dir v r own good st. (
      st.0.1,
      lets old new n (expr.I32FromBool e) [] a fresh quiet (of (operand_of e) (item r) ∷ []) (λ p. stay) (word (passed_word Scalar.bool v)) (λ fs. fs ≡ of (operand_of (expr.Local n)) (word (passed_word Scalar.bool v)) ∷ []) refl
          (λ w p s found h. (refl, (val.Word (passed_word Scalar.bool v), bool_evaluated (setting_for w p) e v s (says_one w.items old (operand_of e) (item r) s h ∙ ap (λ q. Some (val.Value q)) st.0.0), refl, refl))),
    ))

-- 2. A word is lifted

pub low_u8 : (z : ℤ) → is_of_kind wit.U8 (low 8 z) ≡ true
low_u8 z = grind (arith, ints)

pub low_u32 : (z : ℤ) → is_of_kind wit.U32 (low 32 z) ≡ true
low_u32 z = grind (arith, ints)

-- the call of a function of `_rt` that lifts a number
lifted_act : (w : Setting) (i : RuntimeItem) (e : Expr) (v : Val) (s : State) (r : Result RustValue TrapKind) → runtime_item_named w.items (item_name i) ≡ Some i → eval w e s ≡ machine.Done v s → apply w (Some i) (v ∷ []) s ≡ lift_act w (Some r) s
    → eval w (runtime_call i e) s ≡ lift_act w (Some r) s
unfolding call_runtime
lifted_act w i e v s r found given h =
    call_gives w (runtime_path i) (e ∷ []) (v ∷ []) s (given, tt) ∙ ap (λ c. call_callee w c (v ∷ []) s) (calls_runtime i) ∙ ap (λ o. apply w o (v ∷ []) s) found ∙ h

bool_applied : (w : Setting) (z : ℤ) (s : State) → is_of_kind wit.U8 z ≡ true → apply w (Some BoolLift) (val.Value (value.Num wit.U8 z) ∷ []) s ≡ lift_act w (Some (bool_of_number w.form z)) s
unfolding lift_of
bool_applied w z s h =
    let v = val.Value (value.Num wit.U8 z) in
    ap (λ o. converted_or_lifted w o (lift_of w.form BoolLift v) s) (not-converted v).0 ∙ ap (λ o. lift_act w (option_and_then (lift_of_number w.form BoolLift) o) s) (num_of-number wit.U8 z h)

char_applied : (w : Setting) (z : ℤ) (s : State) → is_of_kind wit.U32 z ≡ true → apply w (Some CharLift) (val.Value (value.Num wit.U32 z) ∷ []) s ≡ lift_act w (Some (char_of_number z)) s
unfolding lift_of
char_applied w z s h =
    let v = val.Value (value.Num wit.U32 z) in
    ap (λ o. converted_or_lifted w o (lift_of w.form CharLift v) s) (not-converted v).1 ∙ ap (λ o. lift_act w (option_and_then (lift_of_number w.form CharLift) o) s) (num_of-number wit.U32 z h)

pub cast_given : (w : Setting) (e : Expr) (to : CastType) (z : ℤ) (s : State) → owned (cast_integer to z) ≡ [] → (read w.items e).at (env_of s) ≡ Some (val.Word (core.I32 z)) → eval w (expr.Cast e to) s ≡ machine.Done (cast_integer to z) s
cast_given w e to z s none h = gives w (expr.Cast e to) s (cast_integer to z) (cast_says w.items e to (core.I32 z) z (env_of s) refl h) none

bool_evaluates : (w : Setting) (e : Expr) (z : ℤ) (s : State) → runtime_item_named w.items (item_name BoolLift) ≡ Some BoolLift → (read w.items e).at (env_of s) ≡ Some (val.Word (core.I32 z))
    → eval w (runtime_call BoolLift (expr.Cast e cast.U8)) s ≡ lift_act w (Some (bool_of_number w.form (pos (low_bits 8 z)))) s
bool_evaluates w e z s found h =
    lifted_act w BoolLift (expr.Cast e cast.U8) (cast_integer cast.U8 z) s (bool_of_number w.form (low 8 z)) found (cast_given w e cast.U8 z s (scalar_owns Scalar.u8 (low 8 z)) h) (bool_applied w (low 8 z) s (low_u8 z))
    ∙ ap (λ k. lift_act w (Some (bool_of_number w.form k)) s) (same_low 8 z)

char_evaluates : (w : Setting) (e : Expr) (z : ℤ) (s : State) → runtime_item_named w.items (item_name CharLift) ≡ Some CharLift → (read w.items e).at (env_of s) ≡ Some (val.Word (core.I32 z))
    → eval w (runtime_call CharLift (expr.Cast e cast.U32)) s ≡ lift_act w (Some (char_of_number (pos (low_bits 32 z)))) s
char_evaluates w e z s found h =
    lifted_act w CharLift (expr.Cast e cast.U32) (cast_integer cast.U32 z) s (char_of_number (low 32 z)) found (cast_given w e cast.U32 z s (scalar_owns Scalar.u32 (low 32 z)) h) (char_applied w (low 32 z) s (low_u32 z))
    ∙ ap (λ k. lift_act w (Some (char_of_number k)) s) (same_low 32 z)

-- 3. It agrees with what the laws test

abbrev BoolAgrees : File → Peer RustValue → Form → ℕ → State → Bool → Type 0
BoolAgrees w p f k s b =
    Agrees (account_of s) (if b then stay (account_of s) else failing f trap.Bool (account_of s)) (lift_act (record { items = w.items; item = w.item; answer = answer_of p.reply; form = f }) (Some (bool_of_number f (pos k))) s) s (item (value.Bool (nat_eq k 1)))

no_bit : (k : ℕ) → nat_lt (suc (suc k)) 2 ≡ false
no_bit k = grind (arith, nat_tests)

bool_agrees : (w : File) (p : Peer RustValue) (f : Form) (k : ℕ) (s : State) → BoolAgrees w p f k s (nat_lt k 2)
bool_agrees w p f zero s = (refl, (val.Value (value.Bool false), refl, scalar_owns Scalar.bool false, refl))
bool_agrees w p f (suc zero) s = (refl, (val.Value (value.Bool true), refl, scalar_owns Scalar.bool true, refl))
bool_agrees w p form.Debug (suc (suc k)) s = subst (BoolAgrees w p form.Debug (suc (suc k)) s) (sym (no_bit k)) refl
bool_agrees w p form.Release (suc (suc k)) s = subst (BoolAgrees w p form.Release (suc (suc k)) s) (sym (no_bit k)) refl

char_agrees : (w : File) (p : Peer RustValue) (f : Form) (k : ℕ) (s : State) (b : Bool)
    → Agrees (account_of s) (if b then stay (account_of s) else failing f trap.Char (account_of s)) (lift_act (record { items = w.items; item = w.item; answer = answer_of p.reply; form = f }) (Some (if b then Ok (value.Char k) else Err trap.Char)) s) s (item (value.Char k))
char_agrees w p f k s true = (refl, (val.Value (value.Char k), refl, scalar_owns Scalar.char k, refl))
char_agrees w p form.Debug k s false = refl
char_agrees w p form.Release k s false = refl

-- 4. The rows

abbrev bool_taken : Word → RustValue
bool_taken (core.I32 z) = value.Bool (nat_eq (low_bits 8 z) 1)
bool_taken x = value.Bool false

abbrev char_taken : Word → RustValue
char_taken (core.I32 z) = value.Char (low_bits 32 z)
char_taken x = value.Char 0

is_bit : (v : Bool) → nat_eq (number.bit v) 1 ≡ v
is_bit true = refl
is_bit false = refl

bool_stands : (x : Word) (v : Bool) → IsTaken Scalar.bool v x → bool_taken x ≡ value.Bool v
bool_stands x v (z, e, h) = ap bool_taken e ∙ ap (λ k. value.Bool (nat_eq k 1)) (sym h) ∙ ap value.Bool (is_bit v)

char_stands : (x : Word) (v : ℕ) → IsTaken Scalar.char v x → char_taken x ≡ value.Char v
char_stands x v (z, e, h) = ap char_taken e ∙ ap value.Char (sym h)

module _ (types : List TypeDef) (old new : FunctionBindgen) (n : Bytes) (e : Expr) (ok : is_operand e ≡ true) (fresh : Fresh old new n) where
  lifts_quietly : (i : RuntimeItem) (to : CastType) (w : Setting) → CallsNothing (eval w (runtime_call i (expr.Cast e to)))
  lifts_quietly i to w = expr_quiet w (runtime_call i (expr.Cast e to)) (lifted_inward e ok i to)

  abbrev Outs : (s : Scalar) → Word → Facts func_meaning → Type 0
  Outs s x fs = (r : RustValue) × (fs ≡ of (operand_of (expr.Local n)) (item r) ∷ []) × ((v : ScalarValue s) → IsScalar s v → IsTaken s v x → StandsAsItIs take (scalar s) v r [])

  pub bool_lift_row : Appends old new (stmt.Let n (runtime_call BoolLift (expr.Cast e cast.U8)) ∷ []) (BoolLift ∷ []) → TakesOne old.scope (codes "b") n new.scope → Emits func_meaning types BoolFromI32 (operand_of e ∷ []) (operand_of (expr.Local n) ∷ []) old new
  bool_lift_row a one =
      let plain : IsPlain (sends BoolFromI32) = record { gives = refl; calls = refl } in
      emits_lifted types old new BoolFromI32 Scalar.bool (operand_of e) (operand_of (expr.Local n)) refl refl (let_adds old new n (runtime_call BoolLift (expr.Cast e cast.U8)) (BoolLift ∷ []) a fresh (lifts_quietly BoolLift cast.U8)) a.returned
      (form_let (sends BoolFromI32) plain (operand_of e ∷ []) old new (codes "b") n (runtime_call BoolLift (expr.Cast e cast.U8)) (BoolLift ∷ []) refl one a)
      (λ x. lets old new n (runtime_call BoolLift (expr.Cast e cast.U8)) (BoolLift ∷ []) a fresh (lifts_quietly BoolLift cast.U8) (of (operand_of e) (word x) ∷ []) (λ p. reading Scalar.bool p.form x) (item (bool_taken x)) (Outs Scalar.bool x)
      (bool_taken x, refl, λ v good taken. stands_scalar take Scalar.bool v (bool_taken x) (bool_stands x v taken)) (agrees x))
    where
      agrees : (x : Word) (w : File) (p : Peer RustValue) (s : State) → Found w.items (BoolLift ∷ []) → Hold w.items old (of (operand_of e) (word x) ∷ []) s
          → Agrees (account_of s) (reading Scalar.bool p.form x (account_of s)) (eval (setting_for w p) (runtime_call BoolLift (expr.Cast e cast.U8)) s) s (item (bool_taken x))
      agrees (core.I32 z) w p s found h =
          subst (λ q. Agrees (account_of s) (reading Scalar.bool p.form (core.I32 z) (account_of s)) q s (item (bool_taken (core.I32 z))))
          (sym (bool_evaluates (setting_for w p) e z s found.0 (says_one w.items old (operand_of e) (word (core.I32 z)) s h))) (bool_agrees w p p.form (low_bits 8 z) s)
      agrees (core.I64 z) w p s found h = refl
      agrees (core.F32 z) w p s found h = refl
      agrees (core.F64 z) w p s found h = refl
      agrees (core.Pointer z) w p s found h = refl
      agrees (core.Length z) w p s found h = refl
      agrees (core.Slot z) w p s found h = refl

  pub char_lift_row : Appends old new (stmt.Let n (runtime_call CharLift (expr.Cast e cast.U32)) ∷ []) (CharLift ∷ []) → TakesOne old.scope (codes "c") n new.scope → Emits func_meaning types CharFromI32 (operand_of e ∷ []) (operand_of (expr.Local n) ∷ []) old new
  char_lift_row a one =
      let plain : IsPlain (sends CharFromI32) = record { gives = refl; calls = refl } in
      emits_lifted types old new CharFromI32 Scalar.char (operand_of e) (operand_of (expr.Local n)) refl refl (let_adds old new n (runtime_call CharLift (expr.Cast e cast.U32)) (CharLift ∷ []) a fresh (lifts_quietly CharLift cast.U32)) a.returned
      (form_let (sends CharFromI32) plain (operand_of e ∷ []) old new (codes "c") n (runtime_call CharLift (expr.Cast e cast.U32)) (CharLift ∷ []) refl one a)
      (λ x. lets old new n (runtime_call CharLift (expr.Cast e cast.U32)) (CharLift ∷ []) a fresh (lifts_quietly CharLift cast.U32) (of (operand_of e) (word x) ∷ []) (λ p. reading Scalar.char p.form x) (item (char_taken x)) (Outs Scalar.char x)
      (char_taken x, refl, λ v good taken. stands_scalar take Scalar.char v (char_taken x) (char_stands x v taken)) (agrees x))
    where
      agrees : (x : Word) (w : File) (p : Peer RustValue) (s : State) → Found w.items (CharLift ∷ []) → Hold w.items old (of (operand_of e) (word x) ∷ []) s
          → Agrees (account_of s) (reading Scalar.char p.form x (account_of s)) (eval (setting_for w p) (runtime_call CharLift (expr.Cast e cast.U32)) s) s (item (char_taken x))
      agrees (core.I32 z) w p s found h =
          subst (λ q. Agrees (account_of s) (reading Scalar.char p.form (core.I32 z) (account_of s)) q s (item (char_taken (core.I32 z))))
          (sym (char_evaluates (setting_for w p) e z s found.0 (says_one w.items old (operand_of e) (word (core.I32 z)) s h))) (char_agrees w p p.form (low_bits 32 z) s (is_scalar_value (low_bits 32 z)))
      agrees (core.I64 z) w p s found h = refl
      agrees (core.F32 z) w p s found h = refl
      agrees (core.F64 z) w p s found h = refl
      agrees (core.Pointer z) w p s found h = refl
      agrees (core.Length z) w p s found h = refl
      agrees (core.Slot z) w p s found h = refl
