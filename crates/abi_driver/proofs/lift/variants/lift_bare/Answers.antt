use Rattle.std.proofs.Common.{List, [], refl, subst}
use Rattle.abi_bindgen.specs.Blocks.{Finishes}
use Rattle.abi_bindgen.specs.Flow.{leave_none}
use Rattle.abi_bindgen.proofs.FlowSteps.{flows_block}
use Rattle.abi_driver.proofs.CaseLifts.{bare_lifts}
use Rattle.abi_driver.proofs.lift.variants.lift_bare.Goals as goal

pub finish_block-requires : goal.finish_block-requires
finish_block-requires g c =
    let m = g.B.Bindgen.meaning in
    let opens = c.in_ok-push_block.ensures in
    record { «open» = record { slot = opens.slot; suspended = m.code c.args.bindgen.now; outer = m.opened c.args.bindgen.now; opened = opens.opened } }

pub returns-clause-lifts : goal.returns-clause-lifts
returns-clause-lifts g c = λ slots os.
    let m = g.B.Bindgen.meaning in
    let opens = c.in_ok-push_block.ensures in
    let close = subst (λ (xs : List g.row.B-Operand.Denot). Finishes m xs c.push_block.new.self c.finish_block.new.self) c.new-results.ensures c.in_ok-finish_block.ensures in
    bare_lifts m g.met.B.Bindgen.sound slots os _ _ _ opens close

pub returns-clause-flows : goal.returns-clause-flows
returns-clause-flows g c = λ types reads.
    let m = g.B.Bindgen.meaning in
    let a = c.args.bindgen.now in
    let b = c.push_block.new.self in
    let close = subst (λ (xs : List g.row.B-Operand.Denot). Finishes m xs b c.finish_block.new.self) c.new-results.ensures c.in_ok-finish_block.ensures in
    flows_block m types leave_none reads [] a b b c.finish_block.new.self c.in_ok-push_block.ensures (refl, refl) close
