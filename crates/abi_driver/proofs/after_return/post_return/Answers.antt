use Rattle.std.proofs.Common.{[], List, subst}
use Rattle.wrapper_meaning.specs.Shape.{result_shape}
use Rattle.abi_bindgen.specs.declared.instruction.Instruction.TheVariants.{Return}
use Rattle.abi_bindgen.specs.Code.{free_result_code}
use Rattle.abi_bindgen.specs.Flow.{emit}
use Rattle.abi_bindgen.specs.Instructions.{Emits}
use Rattle.abi_driver.proofs.ReturnSteps.{post_returns}
use Rattle.abi_bindgen.proofs.FlowSteps.{flows_then}
use Rattle.std.proofs.lemmas.List.{nil_from_length}
use Rattle.abi_driver.proofs.after_return.post_return.Goals as goal

pub returns : goal.returns
returns g c =
    let m = g.B.Bindgen.meaning in
    let types = c.args.resolve.now.types in
    let none = nil_from_length c.in_ok-send.field-0 c.in_ok-send.ensures.results in
    let ended = subst (λ (os : List g.row.B-Operand.Denot). Emits m types (Return 0) [] os c.free_result.new.bindgen c.send.new.bindgen) none
    (subst (λ (os : List g.row.B-Operand.Denot). Emits m types (Return 0) os c.in_ok-send.field-0 c.free_result.new.bindgen c.send.new.bindgen) c.new.ensures c.in_ok-send.ensures) in
    record {
      frees = post_returns m types (result_shape types c.args.func.now) _ _ _ c.new.result _ c.in_ok-free_result.ensures.adds c.in_ok-free_result.ensures.frees c.new.ensures c.in_ok-send.ensures;
      flows = flows_then m types (free_result_code types c.args.func.now.result) (emit (Return 0)) [] [] [] _ _ _ c.in_ok-free_result.ensures.flows ended;
    }
