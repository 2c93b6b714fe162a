use Rattle.std.proofs.Common.{◌∙◌, arith, sym}
use Rattle.func_gen.proofs.BodyArea.{found}
use Rattle.func_gen.proofs.body.needed_area.Goals as goal

pub returns-clause-needed : goal.returns-clause-needed
returns-clause-needed c =
    let l = c.loop-record-test.false in
    found c.args.asked.now c.loop-record.area c.loop-record.record-index (sym c.is_empty.ensures ∙ c.if-is_empty.false) (omega (arith, l)) c.loop-record.invariant.0
