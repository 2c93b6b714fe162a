-- The code that was made for an export calls the method of its function, and keeps a value where the function has one.
use Rattle.std.proofs.Common.{◌≡◌, ℕ, List, [], length, map, is_some, Option, None, Some, refl, sym, ap, ◌∙◌}
use Rattle.std.specs.Borrow.{Bor}
use Rattle.wit_model.specs.declared.function.Function.{Function}
use Rattle.wit_model.specs.declared.types.TypeDef.{TypeDef}
use Rattle.wit_layout.specs.declared.signature.AbiVariant.TheVariants.{GuestExport}
use Rattle.wit_layout.specs.Signature.{core_results}
use Rattle.wrapper_meaning.specs.Represents.{result_words}
use Rattle.wrapper_meaning.specs.Shape.{result_shape}
use Rattle.wrapper_meaning.proofs.Lists.{some_same}
use Rattle.rust_tree.specs.declared.export.CallBlock.{CallBlock}
use Rattle.abi_bindgen.specs.declared.instruction.Instruction.TheVariants.{Return}
use Rattle.abi_bindgen.specs.Code.{give_code, take_code}
use Rattle.abi_bindgen.specs.Flow.{Flow, emit}
use Rattle.abi_bindgen.proofs.QuietFlows.{give_quiet}
use Rattle.func_gen.specs.declared.body.Body.{Body}
use Rattle.func_gen.specs.declared.function_bindgen.Code.{Code}
use Rattle.func_gen.specs.MethodForms.{call_block, value_local}
use Rattle.func_gen.specs.PartForms.{exprs_of}
use Rattle.wrapper_closing.specs.Bodies.{MakesExport}
use Rattle.wrapper_closing.specs.declared.parts.BodyParts.{BodyParts}
use Rattle.wrapper_closing.proofs.CallsKept.{quiet_keep}
use Rattle.wrapper_closing.proofs.StepsDeclare.{closed_still}
use Rattle.rust_gen.specs.Body.{CallsMethodOf}

value_kept : {A : Type 0} (due : Option A) (n : ℕ) → is_some (value_local due n) ≡ is_some due
value_kept None n = refl
value_kept (Some ty) n = refl

-- behind the call no code calls a method, and so the block of the call is that of the body
pub calls_its_method : (types : List TypeDef) (func : Bor Function) (parts : BodyParts) (body : Body) (call : CallBlock) → MakesExport types func parts body → body.call ≡ Some call → CallsMethodOf func.now call
calls_its_method types func parts body call h at =
    let f = func.now in
    let (given, last, (answer, called, (values, mid, takes, e), answers), returns) = h.flows in
    let before = take_code types (map (λ p. p.ty) f.params) in
    let gives = give_code types f.result in
    let ends : Flow = emit (Return (length (core_results GuestExport (result_words (result_shape types f))))) in
    let at_start = closed_still types before [] values h.old mid takes h.made.closed in
    let c = e.form.code in
    let block : CallBlock = call_block f mid.code.stmts (exprs_of values) (value_local f.result c.number) in
    let made : Option CallBlock = Some block in
    let at_call = c.opened ∙ at_start in
    let kept = quiet_keep types made gives answer given called last (give_quiet types f.result) answers at_call (ap (λ (k : Code). k.call) c.code) in
    let at_end = closed_still types gives answer given called last answers at_call in
    let kept_all = quiet_keep types made ends given [] last h.new refl returns at_end kept in
    let is = some_same call block (sym at ∙ h.body_of.call ∙ kept_all) in
    record { calls = ap (λ (b : CallBlock). b.method) is; keeps = ap (λ (b : CallBlock). is_some b.result) is ∙ value_kept f.result c.number }
