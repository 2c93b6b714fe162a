-- Steps by which the implementation of an export is called, and the block of the call ends.
use Rattle.std.proofs.Common.{◌≡◌, List, [], ◌∷◌, ◌++◌, Option, None, Some, drop, length, take, refl, ap, ◌∙◌}
use Rattle.std.specs.Prelude.{option_and_then}
use Rattle.std.specs.Option.{option_map}
use Rattle.rust_tree.specs.declared.item.Item.{Item}
use Rattle.rust_tree.specs.declared.trait_item.TraitFn.{TraitFn}
use Rattle.rust_tree.specs.declared.type_expr.TypeExpr.{TypeExpr}
use Rattle.rust_tree.specs.declared.type_expr.TypeExpr.TheVariants as type
use Rattle.wrapper_data.specs.declared.answer.Answer.{Answer}
use Rattle.wrapper_data.specs.declared.answer.Answer.TheVariants as answer
use Rattle.wrapper_data.specs.declared.heap.Heap.{Heap}
use Rattle.wrapper_data.specs.declared.run.CallPoint.{CallPoint}
use Rattle.wrapper_data.specs.declared.value.RustValue.{RustValue}
use Rattle.wrapper_data.specs.declared.value.RustValue.TheVariants as value
use Rattle.wrapper_data.specs.declared.word.Word.{Word}
use Rattle.wrapper_values.specs.declared.state.Local.{Local}
use Rattle.wrapper_values.specs.declared.state.State.{State}
use Rattle.wrapper_values.specs.declared.state.Val.{Val}
use Rattle.wrapper_values.specs.declared.state.Val.TheVariants as val
use Rattle.wrapper_values.specs.Act.{Act, Outcome, Done, Stopped, ◌>>◌, and_then, or_stop}
use Rattle.wrapper_run.specs.Blocks.{drop_locals, keep_locals, leave_to}
use Rattle.wrapper_run.specs.ExportRun.{call_method, ended_export, method_answer, method_call, method_named, method_point, returned_of, take_value, values_of}
use Rattle.wit_model.specs.Bytes.{Bytes}
use Rattle.wrapper_values.specs.Owning.{listed, taken_by}
use Rattle.wrapper_run.specs.Run.{record_call}
use Rattle.wrapper_values.specs.Setting.{Setting, stuck}
use Rattle.wrapper_run.specs.Inward.{CallsNothing}
use Rattle.wrapper_run.proofs.NumberLemmas.{answered-unit}
use Rattle.wrapper_run.proofs.TypedLemmas.{answered_in}
use Rattle.wrapper_run.proofs.OwningLemmas.{ArePlain, drops_plain}
use Rattle.wrapper_run.proofs.QuietActs.{calls_at, quiet_or_stop}

-- a scope inside another

take-append : (xs ys : List Local) → take (length xs) (xs ++ ys) ≡ xs
take-append [] [] = refl
take-append [] (y ∷ ys) = refl
take-append (x ∷ xs) ys = ap (λ ls. x ∷ ls) (take-append xs ys)

drop-append : (xs ys : List Local) → drop (length xs) (xs ++ ys) ≡ ys
drop-append [] ys = refl
drop-append (x ∷ xs) ys = drop-append xs ys

-- its locals own nothing: those before it stay
pub leaves_inner : (w : Setting) (outer more : List Local) (s : State) → s.locals ≡ outer ++ more → ArePlain more → leave_to w (length outer) s ≡ Done tt (record s { locals = outer })
unfolding leave_to
leaves_inner w outer more s e p =
    ap (λ ls. and_then (drop_locals w (drop (length outer) ls) (record s { locals = [] })) (λ _. keep_locals (take (length outer) ls))) e
    ∙ ap (λ ls. and_then (drop_locals w ls (record s { locals = [] })) (λ _. keep_locals (take (length outer) (outer ++ more)))) (drop-append outer more)
    ∙ ap (λ o. and_then o (λ _. keep_locals (take (length outer) (outer ++ more)))) (drops_plain w more (record s { locals = [] }) p)
    ∙ ap (λ ls. Done tt (record s { locals = ls })) (take-append outer more)

-- the call

abbrev pub answered_by : Setting → CallPoint × TypeExpr → Act Val
answered_by w p = record_call p.0 >> take_value w p.1

abbrev pub called_with : List Item → Bytes → Bytes → Heap → List Val → TraitFn → Option (CallPoint × TypeExpr)
called_with items named name heap vs f = option_map (λ values. (method_point named name heap values, f.result)) (values_of items f.params vs)

abbrev pub point_of : Bytes → Bytes → Heap → TraitFn → List RustValue → CallPoint × TypeExpr
point_of named name heap f values = (method_point named name heap values, f.result)

pub method_gives : (w : Setting) (named name : Bytes) (f : TraitFn) (vs : List Val) (values : List RustValue) (s : State) → method_named w.items named name ≡ Some f → values_of w.items f.params vs ≡ Some values
    → call_method w named name vs s ≡ take_value w f.result (record s { calls = s.calls ++ method_point named name s.heap values ∷ [] })
unfolding method_call
method_gives w named name f vs values s m p =
    ap (λ o. and_then (or_stop (stuck w) (option_and_then (called_with w.items named name s.heap vs) o) s) (answered_by w)) m
    ∙ ap (λ o. and_then (or_stop (stuck w) (option_map (point_of named name s.heap f) o) s) (answered_by w)) p

pub value_gives : (w : Setting) (ty : TypeExpr) (r : Option RustValue) (v : Val) (heap : Heap) (s : State) → w.answer ≡ answer.Value r heap → returned_of w.items ty r ≡ Some v
    → take_value w ty s ≡ Done v (record s { heap = heap; taken = taken_by (listed r) })
unfolding take_value
value_gives w ty r v heap s a e = ap (λ a. method_answer w ty a s) a ∙ ap (λ o. or_stop (stuck w) o (record s { heap = heap; taken = taken_by (listed r) })) e

pub returned-unit : (items : List Item) → returned_of items type.Unit None ≡ Some (val.Value value.Unit)
returned-unit items = ap (option_map (λ r. val.Value value.Unit)) (answered_in items type.Unit (val.Value value.Unit) None answered-unit)

-- to take an answer is no call, and the ended run shows the calls of an outcome

quiet_answered : (w : Setting) (ty : TypeExpr) (a : Answer) → CallsNothing (method_answer w ty a)
quiet_answered w ty (answer.Value v heap) = record { quiet = λ s. (quiet_or_stop (stuck w) (returned_of w.items ty v)).quiet (record s { heap = heap; taken = taken_by (listed v) }) }
quiet_answered w ty (answer.Words r writes blocks) = record { quiet = λ s. refl }

pub quiet_taken : (w : Setting) (ty : TypeExpr) → CallsNothing (take_value w ty)
unfolding take_value
quiet_taken w ty = quiet_answered w ty w.answer

pub ended-words : (o : Outcome (List Word)) → (ended_export o).calls ≡ calls_at o
ended-words (Done words s) = refl
ended-words (Stopped e s) = refl
