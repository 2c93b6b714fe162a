-- The definitions hold of worked rows of variants: the arms of a match, casts of joined slots, and what has no meaning.
use Rattle.std.proofs.Common.{◌≡◌, ℕ, true, false, [], ◌∷◌, None, Some, refl, ap, ◌∙◌, rules}
use Rattle.std.specs.Prelude.{codes, pos}
use Rattle.wit_model.specs.Bytes.{Bytes}
use Rattle.wit_model.specs.declared.types.WitType.TheVariants as wit
use Rattle.rust_tree.specs.declared.expr.CastType.TheVariants as cast
use Rattle.rust_tree.specs.declared.expr.Expr.{Expr}
use Rattle.rust_tree.specs.declared.expr.Expr.TheVariants as expr
use Rattle.rust_tree.specs.declared.expr.Method.TheVariants as method
use Rattle.rust_tree.specs.declared.item.Item.TheVariants as item
use Rattle.rust_tree.specs.declared.path.Path.{Path}
use Rattle.rust_tree.specs.declared.pattern.ArmPattern.TheVariants as arm
use Rattle.rust_tree.specs.declared.stmt.Stmt.TheVariants as stmt
use Rattle.rust_tree.specs.declared.type_expr.Primitive.TheVariants as prim
use Rattle.rust_tree.specs.declared.type_expr.TypeExpr.{TypeExpr}
use Rattle.rust_tree.specs.declared.type_expr.TypeExpr.TheVariants as type
use Rattle.rust_tree.specs.declared.type_item.TypeItem.TheVariants.{Variant}
use Rattle.rust_tree.specs.declared.variant_item.VariantCase.{VariantCase}
use Rattle.rust_tree.specs.declared.variant_item.VariantItem.{VariantItem}
use Rattle.wrapper_data.specs.declared.form.Form.TheVariants as form
use Rattle.wrapper_data.specs.declared.run.Stop.TheVariants as stop_of
use Rattle.wrapper_data.specs.declared.run.TrapKind.TheVariants as trap
use Rattle.wrapper_data.specs.declared.value.RustValue.{RustValue, the_lemmas}
use Rattle.wrapper_data.specs.declared.value.RustValue.TheVariants as value
use Rattle.wrapper_data.specs.declared.word.Word.TheVariants as word
use Rattle.wrapper_values.specs.declared.core_words.CoreFn.TheVariants as core_fn
use Rattle.wrapper_values.specs.declared.state.State.{State}
use Rattle.wrapper_values.specs.declared.state.Val.{Val}
use Rattle.wrapper_values.specs.declared.state.Val.TheVariants as val
use Rattle.wrapper_values.specs.Act.{Done, Stopped}
use Rattle.wrapper_values.specs.CoreWords.{called_on, core_word, empty_slot, u32_value}
use Rattle.wrapper_values.specs.Effect.{cast_to}
use Rattle.wrapper_values.specs.Matches.{assert_last, enter_arm, expect_number, left_out, takes}
use Rattle.wrapper_values.specs.Locals.{bind, lend_local}
use Rattle.wrapper_values.specs.Owning.{owned}
use Rattle.wrapper_values.specs.Setting.{Setting, stuck}
use Rattle.wrapper_values.specs.Variants.{case_number, full_case, is_core_option, is_core_result, number_in_option, number_in_result, number_in_variant}
use Rattle.wrapper_run.specs.Run.{begin, call_member, callee, core_function, eval, is_i64_from, is_new_slot, run_stmt, runtime_module_name}
use Rattle.wrapper_run.proofs.OwningLemmas.{owned-f32}
use Rattle.wrapper_run.proofs.StepLemmas.{local_gives}
use Rattle.wrapper_run.proofs.StmtSteps.{run-assert}
use Rattle.wrapper_run.proofs.VariantSteps.{cast_gives, core_gives, method_gives}

-- a variant `V` of the cases `A(f32)`, `B(u64)` and `C(String)`, in a file that begins with it

abbrev case : Bytes → TypeExpr → VariantCase
case name ty = record { docs = []; name = name; ty = Some ty }

abbrev v_item : VariantItem
v_item = record {
  docs = [];
  derives = [];
  name = codes "V";
  cases = case (codes "A") (type.Primitive prim.F32) ∷ case (codes "B") (type.Primitive prim.U64) ∷ case (codes "C") type.String ∷ [];
  error = None;
}

abbrev in_file : Setting → Setting
in_file w = record w { items = item.Type (Variant v_item) ∷ w.items }

abbrev case_path : Bytes → Path
case_path name = record { lead = false; supers = 0; names = codes "V" ∷ name ∷ [] }

abbrev core_path : Bytes → Bytes → Bytes → Path
core_path module_name ty name = record { lead = true; supers = 0; names = codes "core" ∷ module_name ∷ ty ∷ name ∷ [] }

-- the numbers of cases

third_case : (w : Setting) → case_number (in_file w).items (case_path (codes "C")) ≡ Some 2
unfolding number_in_variant
third_case w = refl

some_is_one : (w : Setting) → case_number (in_file w).items (core_path (codes "option") (codes "Option") (codes "Some")) ≡ Some 1
unfolding is_core_option number_in_option
some_is_one w = refl

err_is_one : (w : Setting) → case_number (in_file w).items (core_path (codes "result") (codes "Result") (codes "Err")) ≡ Some 1
unfolding is_core_option is_core_result number_in_result
err_is_one w = refl

no_fourth_case : (w : Setting) → case_number (in_file w).items (case_path (codes "D")) ≡ None
unfolding number_in_variant
no_fourth_case w = refl

-- the bits of `A`'s payload in the slot that it shares with `B` and the address of `C`: `MaybeUninit::new(i64::from((e).to_bits()) as u64)`

abbrev e_name : Bytes
e_name = codes "e"

abbrev with_e : RustValue → State
with_e r = begin (record { name = e_name; value = Some (val.Value r) } ∷ []) [] (record { blocks = [] }) (record { list = [] })

abbrev i64_from : Path
i64_from = record { lead = false; supers = 0; names = codes "i64" ∷ codes "from" ∷ [] }

abbrev new_slot : Path
new_slot = record { lead = true; supers = 0; names = codes "core" ∷ codes "mem" ∷ codes "MaybeUninit" ∷ codes "new" ∷ [] }

abbrev slot_of_e : Expr
slot_of_e = expr.Call new_slot (expr.Cast (expr.Call i64_from (expr.Method (expr.Local e_name) method.ToBits ∷ [])) cast.U64 ∷ [])

is_i64_call : callee i64_from ≡ core_function core_fn.I64From
unfolding callee is_i64_from runtime_module_name
is_i64_call = refl

is_slot_call : callee new_slot ≡ core_function core_fn.NewSlot
unfolding callee is_new_slot
is_slot_call = refl

-- where the cast of these bits, step by step, gives this slot
in_the_slot : (w : Setting) (n : ℕ) → eval w (expr.Local e_name) (with_e (value.F32 n)) ≡ Done (val.Value (value.F32 n)) (with_e (value.F32 n))
in_the_slot w n = local_gives w e_name (val.Value (value.F32 n)) (with_e (value.F32 n)) refl (owned-f32 n)

bits_of : (n : ℕ) → called_on method.ToBits (val.Value (value.F32 n)) ≡ Some (u32_value n)
unfolding called_on
bits_of n = search (rules, the_lemmas)

wide_of : core_word core_fn.I64From (u32_value 2147483648) ≡ Some (word.I64 (pos 2147483648))
unfolding core_word
wide_of = search (rules, the_lemmas)

number_of_wide : cast_to cast.U64 (val.Word (word.I64 (pos 2147483648))) ≡ Some (val.Value (value.Num wit.U64 (pos 2147483648)))
unfolding cast_to
number_of_wide = refl

slot_of_number : core_word core_fn.NewSlot (val.Value (value.Num wit.U64 (pos 2147483648))) ≡ Some (word.Slot (Some 2147483648))
unfolding core_word
slot_of_number = search (rules, the_lemmas)

-- the highest bit alone: it is no sign
high_bit : (w : Setting) → eval w slot_of_e (with_e (value.F32 2147483648)) ≡ Done (val.Word (word.Slot (Some 2147483648))) (with_e (value.F32 2147483648))
high_bit w =
    let s = with_e (value.F32 2147483648) in
    let bits : Val = u32_value 2147483648 in
    let wide : Val = val.Word (word.I64 (pos 2147483648)) in
    let number : Val = val.Value (value.Num wit.U64 (pos 2147483648)) in
    let to_bits : Expr = expr.Method (expr.Local e_name) method.ToBits in
    let from : Expr = expr.Call i64_from (to_bits ∷ []) in
    core_gives w new_slot core_fn.NewSlot (expr.Cast from cast.U64) number (word.Slot (Some 2147483648)) s s is_slot_call
    (cast_gives w from cast.U64 wide number s s
    (core_gives w i64_from core_fn.I64From to_bits bits (word.I64 (pos 2147483648)) s s is_i64_call
    (method_gives w (expr.Local e_name) method.ToBits (val.Value (value.F32 2147483648)) bits s s (in_the_slot w 2147483648) (bits_of 2147483648)) wide_of) number_of_wide)
    slot_of_number

-- a slot that was not written has no number and no pointer

no_number : called_on method.AssumeInit empty_slot ≡ None
unfolding called_on
no_number = refl

no_pointer : called_on method.ReadPointer empty_slot ≡ None
unfolding called_on
no_pointer = refl

-- the test of a last case's number, which is 2

abbrev n_name : Bytes
n_name = codes "n"

abbrev with_n : ℕ → State
with_n n = begin (record { name = n_name; value = Some (val.Word (word.I32 (pos n))) } ∷ []) [] (record { blocks = [] }) (record { list = [] })

tested : (w : Setting) (n : ℕ) → run_stmt w (stmt.AssertLast n_name 2) (with_n n) ≡ assert_last w 2 (val.Word (word.I32 (pos n))) (with_n n)
unfolding lend_local
tested w n = ap (λ act. act (with_n n)) (run-assert w n_name 2)

seven_trapped : (w : Setting) → w.form ≡ form.Debug → run_stmt w (stmt.AssertLast n_name 2) (with_n 7) ≡ Stopped (stop_of.Trap trap.Discriminant) (with_n 7)
seven_trapped w debug = tested w 7 ∙ ap (λ f. expect_number f (stuck w) 2 (Some (pos 7)) (with_n 7)) debug

seven_released : (w : Setting) → w.form ≡ form.Release → run_stmt w (stmt.AssertLast n_name 2) (with_n 7) ≡ Done tt (with_n 7)
seven_released w release = tested w 7 ∙ ap (λ f. expect_number f (stuck w) 2 (Some (pos 7)) (with_n 7)) release

two_passed : (w : Setting) → w.form ≡ form.Debug → run_stmt w (stmt.AssertLast n_name 2) (with_n 2) ≡ Done tt (with_n 2)
two_passed w debug = tested w 2 ∙ ap (λ f. expect_number f (stuck w) 2 (Some (pos 2)) (with_n 2)) debug

-- which arms take a case, and a number

abbrev text_case : RustValue
text_case = value.Case 2 (Some (value.Buffer 4096 2 true))

takes_its_case : (w : Setting) → takes (in_file w).items (arm.Payload (case_path (codes "C")) e_name) (val.Value text_case) ≡ Some true
unfolding takes number_in_variant
takes_its_case w = search (rules, the_lemmas)

leaves_another : (w : Setting) → takes (in_file w).items (arm.Payload (case_path (codes "A")) e_name) (val.Value text_case) ≡ Some false
unfolding takes number_in_variant
leaves_another w = search (rules, the_lemmas)

-- a path of no case has no meaning, and no case has none at a number
no_such_case : (w : Setting) → takes (in_file w).items (arm.Case (case_path (codes "D"))) (val.Value text_case) ≡ None
unfolding takes number_in_variant
no_such_case w = search (rules, the_lemmas)

no_number_of_case : (w : Setting) → takes (in_file w).items (arm.Number 2) (val.Value text_case) ≡ None
unfolding takes
no_number_of_case w = refl

-- an arm binds a payload that owns a text, and may not leave it out

payload_bound : (w : Setting) (path : Path) (s : State) → enter_arm w (arm.Payload path e_name) (val.Value text_case) s ≡ bind e_name (val.Value (value.Buffer 4096 2 true)) s
payload_bound w path s = search (rules, the_lemmas)

text_case_owns : owned (val.Value text_case) ≡ 4096 ∷ []
text_case_owns = search (rules, the_lemmas)

payload_left : (w : Setting) (path : Path) (s : State) → enter_arm w (arm.LeftOut path) (val.Value text_case) s ≡ Stopped (stuck w) s
payload_left w path s = ap (λ addresses. left_out w addresses s) text_case_owns

-- `V::_lift(a)` of a variant `V` with a case `_lift(u32)` makes that case: a variant has no function of this name

abbrev lift_item : VariantItem
lift_item = record { docs = []; derives = []; name = codes "V"; cases = case (codes "_lift") (type.Primitive prim.U32) ∷ []; error = None }

lift_made : (w : Setting) (a : RustValue) (s : State) → call_member (record w { items = item.Type (Variant lift_item) ∷ w.items }) (codes "V") (codes "_lift") (val.Value a ∷ []) s ≡ Done (val.Value (value.Case 0 (Some a))) s
unfolding full_case number_in_variant
lift_made w a s = refl
