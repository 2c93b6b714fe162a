-- What a finished block does: it runs in the locals that it reaches, and gives its results.
use Rattle.std.specs.Prelude.{ℕ, Bool, true, false, List, [], ◌∷◌, drop, map, Option, None, Some, option_and_then, option_map}
use Rattle.std.specs.List.{flat_map}
use Rattle.wrapper_data.specs.declared.value.RustValue.{RustValue}
use Rattle.wrapper_values.specs.declared.state.Local.{Local}
use Rattle.wrapper_values.specs.declared.state.State.{State}
use Rattle.wrapper_values.specs.declared.state.Val.{Val}
use Rattle.wrapper_values.specs.declared.state.Val.TheVariants as val
use Rattle.wrapper_values.specs.Act.{Act, ◌>>◌, all}
use Rattle.wrapper_values.specs.Owning.{owned_in}
use Rattle.wrapper_values.specs.Setting.{Setting}
use Rattle.wrapper_run.specs.Run.{eval, run_stmts}
use Rattle.abi_bindgen.specs.Meaning.{Datum, item, word}
use Rattle.func_gen.specs.declared.function_bindgen.FinishedBlock.{FinishedBlock}
use Rattle.func_gen.specs.declared.operand.ExprOperand.{ExprOperand}
use Rattle.func_gen.specs.Read.{item_of}
use Rattle.func_gen.specs.Slot.{Slot}

-- what told it from others while it was open
abbrev pub slot_before : FinishedBlock → Slot
slot_before b = record { number = b.number; names = b.names }

-- its statements run, then its results are evaluated
abbrev pub evaluated : Setting → List ExprOperand → Act (List Val)
evaluated w os = all (map (λ (o : ExprOperand). eval w o.expr) os)

abbrev pub results_act : Setting → FinishedBlock → Act (List Val)
results_act w b = run_stmts w b.stmts >> evaluated w b.results

-- what a value is of an operand, by whether its word is kept as a value
abbrev pub datum_of : Bool → Val → Option (Datum RustValue)
datum_of false (val.Word x) = Some (word x)
datum_of false (val.Value r) = Some (item r)
datum_of false (val.Area address size) = None
datum_of true v = option_map (λ r. item r) (item_of v)

-- one each
abbrev pub data_of : List ExprOperand → List Val → Option (List (Datum RustValue))
data_of [] [] = Some []
data_of [] (v ∷ vs) = None
data_of (o ∷ os) [] = None
data_of (o ∷ os) (v ∷ vs) = option_and_then (λ d. option_map (λ ds. d ∷ ds) (data_of os vs)) (datum_of o.kept v)

-- what is owned by the locals behind so many
abbrev pub left_owners : ℕ → State → List ℕ
left_owners found s = flat_map (λ (l : Local). owned_in l.value) (drop found s.locals)

-- the locals outside, and the place of the static area, are as they were before
abbrev pub outside : State → State → State
outside before after = record after { locals = before.locals; place = before.place }
