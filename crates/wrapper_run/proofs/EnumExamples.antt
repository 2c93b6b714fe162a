-- The definitions hold of worked rows of enums: the number of a case, what `_lift` gives, and which cases are of the type.
use Rattle.std.proofs.Common.{◌≡◌, true, false, List, [], ◌∷◌, None, Some, refl, sym, ap, ◌∙◌, rules}
use Rattle.std.specs.Prelude.{ℕ, Err, Ok, codes, pos}
use Rattle.std.specs.Option.{option_map}
use Rattle.wit_model.specs.Bytes.{Bytes}
use Rattle.wit_model.specs.declared.types.WitType.TheVariants as wit
use Rattle.rust_tree.specs.declared.enum_item.EnumCase.{EnumCase}
use Rattle.rust_tree.specs.declared.enum_item.EnumItem.{EnumItem}
use Rattle.rust_tree.specs.declared.expr.Expr.{Expr}
use Rattle.rust_tree.specs.declared.expr.Expr.TheVariants as expr
use Rattle.rust_tree.specs.declared.item.Item.{Item}
use Rattle.rust_tree.specs.declared.item.Item.TheVariants as item
use Rattle.rust_tree.specs.declared.path.Path.{Path}
use Rattle.rust_tree.specs.declared.repr.Repr.TheVariants as repr
use Rattle.rust_tree.specs.declared.type_expr.TypeExpr.{TypeExpr, TypeExpr-F, out-TypeExpr, the_lemmas as type_lemmas}
use Rattle.rust_tree.specs.declared.type_expr.TypeExpr.TheVariants as type
use Rattle.rust_tree.specs.declared.type_item.TypeItem.TheVariants.{Enum}
use Rattle.wrapper_data.specs.declared.form.Form.TheVariants as form
use Rattle.wrapper_data.specs.declared.run.Stop.TheVariants as stop_of
use Rattle.wrapper_data.specs.declared.run.TrapKind.TheVariants as trap
use Rattle.wrapper_data.specs.declared.value.RustValue.{RustValue, RustValue-F, fold-roll-RustValue, the_lemmas}
use Rattle.wrapper_data.specs.declared.value.RustValue.TheVariants as value
use Rattle.wrapper_data.specs.declared.value.RustValue.TheVariants.{rolls-Case}
use Rattle.wrapper_data.specs.declared.word.Word.TheVariants as word
use Rattle.wrapper_values.specs.declared.state.State.{State}
use Rattle.wrapper_values.specs.declared.state.Val.{Val}
use Rattle.wrapper_values.specs.declared.state.Val.TheVariants as val
use Rattle.wrapper_values.specs.Act.{Done, Stopped}
use Rattle.wrapper_values.specs.Effect.{answer_of}
use Rattle.wrapper_values.specs.Enums.{enum_lift_of, is_enum}
use Rattle.wrapper_values.specs.Setting.{Setting, stuck}
use Rattle.wrapper_values.specs.Typed.{Typed, answer_in, typed, typed_case, typed_enum, typed_level, unaliased}
use Rattle.wrapper_run.specs.Run.{begin, eval, lift_act}
use Rattle.wrapper_run.proofs.EnumSteps.{callee-lift, case_gives, lift_steps, number-none, number-unit}
use Rattle.wrapper_run.proofs.OwningLemmas.{owned-case, owned-case-unit, owned-number}
use Rattle.wrapper_run.proofs.StepLemmas.{local_gives}

-- an enum `E` of three cases, in a file that begins with it

abbrev case : Bytes → EnumCase
case name = record { docs = []; name = name }

abbrev three : EnumItem
three = record { docs = []; repr = repr.U8; derives = []; name = codes "E"; cases = case (codes "A") ∷ case (codes "B") ∷ case (codes "C") ∷ []; error = None }

abbrev in_file : Setting → Setting
in_file w = record w { items = item.Type (Enum three) ∷ w.items }

abbrev a_name : Bytes
a_name = codes "a"

-- a local `a` of this value
abbrev with_local : RustValue → State
with_local r = begin (record { name = a_name; value = Some (val.Value r) } ∷ []) [] (record { blocks = [] }) (record { list = [] })

-- the number of its last case; `()` stands for no payload

last_number : (w : Setting) → eval w (expr.EnumNumber (expr.Local a_name)) (with_local (value.Case 2 None)) ≡ Done (val.Word (word.I32 (pos 2))) (with_local (value.Case 2 None))
last_number w =
    let v : Val = val.Value (value.Case 2 None) in
    let s = with_local (value.Case 2 None) in
    case_gives w (expr.Local a_name) v 2 s s (local_gives w a_name v s refl (owned-case 2)) (number-none 2)

unit_number : (w : Setting) → eval w (expr.EnumNumber (expr.Local a_name)) (with_local (value.Case 2 (Some value.Unit))) ≡ Done (val.Word (word.I32 (pos 2))) (with_local (value.Case 2 (Some value.Unit)))
unit_number w =
    let v : Val = val.Value (value.Case 2 (Some value.Unit)) in
    let s = with_local (value.Case 2 (Some value.Unit)) in
    case_gives w (expr.Local a_name) v 2 s s (local_gives w a_name v s refl (owned-case-unit 2)) (number-unit 2)

-- `E::_lift(a)`, where `a` is a `u8`

abbrev lift_path : Path
lift_path = record { lead = false; supers = 0; names = codes "E" ∷ codes "_lift" ∷ [] }

abbrev lifted : Expr
lifted = expr.Call lift_path (expr.Local a_name ∷ [])

abbrev byte : ℕ → RustValue
byte n = value.Num wit.U8 (pos n)

lifts : (w : Setting) (n : ℕ) → is_enum w.items (codes "E") ≡ true → eval w lifted (with_local (byte n)) ≡ lift_act w (enum_lift_of w.items (codes "E") (val.Value (byte n))) (with_local (byte n))
lifts w n enum =
    let s = with_local (byte n) in
    lift_steps w lift_path (codes "E") (expr.Local a_name) (val.Value (byte n)) s s (callee-lift (codes "E") refl) enum (local_gives w a_name (val.Value (byte n)) s refl (owned-number wit.U8 (pos n)))

-- 2 is the last case

two_is_case : (w : Setting) → enum_lift_of (in_file w).items (codes "E") (val.Value (byte 2)) ≡ Some (Ok (value.Case 2 None))
unfolding enum_lift_of
two_is_case w = search (rules, the_lemmas)

two_lifted : (w : Setting) → eval (in_file w) lifted (with_local (byte 2)) ≡ Done (val.Value (value.Case 2 None)) (with_local (byte 2))
two_lifted w = lifts (in_file w) 2 refl ∙ ap (λ o. lift_act (in_file w) o (with_local (byte 2))) (two_is_case w)

-- 3 is none: the debug form tests it, and the release form has no meaning

three_is_none : (w : Setting) → enum_lift_of (in_file w).items (codes "E") (val.Value (byte 3)) ≡ Some (Err trap.Discriminant)
unfolding enum_lift_of
three_is_none w = search (rules, the_lemmas)

three_trapped : (w : Setting) → w.form ≡ form.Debug → eval (in_file w) lifted (with_local (byte 3)) ≡ Stopped (stop_of.Trap trap.Discriminant) (with_local (byte 3))
three_trapped w debug =
    lifts (in_file w) 3 refl ∙ ap (λ o. lift_act (in_file w) o (with_local (byte 3))) (three_is_none w)
    ∙ ap (λ f. lift_act (record (in_file w) { form = f }) (Some (Err trap.Discriminant)) (with_local (byte 3))) debug

three_released : (w : Setting) → w.form ≡ form.Release → eval (in_file w) lifted (with_local (byte 3)) ≡ Stopped (stuck w) (with_local (byte 3))
three_released w release =
    lifts (in_file w) 3 refl ∙ ap (λ o. lift_act (in_file w) o (with_local (byte 3))) (three_is_none w)
    ∙ ap (λ f. lift_act (record (in_file w) { form = f }) (Some (Err trap.Discriminant)) (with_local (byte 3))) release

-- a number of another kind stands for nothing
wide_is_none : (w : Setting) → enum_lift_of (in_file w).items (codes "E") (val.Value (value.Num wit.U16 (pos 2))) ≡ None
unfolding enum_lift_of
wide_is_none w = search (rules, the_lemmas)

-- a function whose result is printed as `E` answers one of its cases, without a payload

abbrev e_items : List Item
e_items = item.Type (Enum three) ∷ []

abbrev e_path : Path
e_path = record { lead = false; supers = 0; names = codes "E" ∷ [] }

abbrev e_type : TypeExpr
e_type = type.Path e_path

e_answers : answer_in e_items e_type (val.Value (value.Case 2 None)) ≡ Some (Some (value.Case 2 None))
unfolding answer_of
e_answers = search (rules, the_lemmas, type_lemmas)

e_has_no_fourth : answer_in e_items e_type (val.Value (value.Case 3 None)) ≡ None
unfolding answer_of
e_has_no_fourth = search (rules, the_lemmas, type_lemmas)

-- a case with `()` is one of them, as it is; and with another payload it is none

case_is_typed : (n : ℕ) (r : RustValue) → typed e_items (value.Case n (Some r)) e_type ≡ typed_enum n (Some (typed e_items r)) (Some three)
case_is_typed n r =
    ap (λ v. typed e_items v e_type) (sym (rolls-Case n (Some r)))
    ∙ ap (λ (f : Typed). f e_type) (fold-roll-RustValue Typed (λ l ty. typed_level e_items l (unaliased e_items ty)) (RustValue-F.Case n (Some r)))
    ∙ ap (λ ty. typed_case e_items n (Some (typed e_items r)) (out-TypeExpr ty)) e_is_last ∙ ap (typed_case e_items n (Some (typed e_items r))) e_opened
  where
    e_is_last : unaliased e_items e_type ≡ e_type
    e_is_last = search (rules, type_lemmas)

    e_opened : out-TypeExpr e_type ≡ TypeExpr-F.Path e_path
    e_opened = search (rules, type_lemmas)

unit_is_typed : typed e_items value.Unit type.Unit ≡ Some value.Unit
unfolding answer_of
unit_is_typed = search (rules, the_lemmas, type_lemmas)

e_takes_unit : typed e_items (value.Case 2 (Some value.Unit)) e_type ≡ Some (value.Case 2 (Some value.Unit))
e_takes_unit = case_is_typed 2 value.Unit ∙ ap (option_map (λ r. value.Case 2 (Some r))) unit_is_typed

byte_is_no_unit : typed e_items (byte 7) type.Unit ≡ None
unfolding answer_of
byte_is_no_unit = search (rules, the_lemmas, type_lemmas)

e_takes_no_byte : typed e_items (value.Case 2 (Some (byte 7))) e_type ≡ None
e_takes_no_byte = case_is_typed 2 (byte 7) ∙ ap (option_map (λ r. value.Case 2 (Some r))) byte_is_no_unit
