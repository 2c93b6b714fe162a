use Rattle.wit_layout.proofs.AheadSteps.{nearest_kept}
use Rattle.wit_layout.proofs.ahead.Ahead.make_room.Goals as goal

pub returns-then-self-eq17-clause-runs : goal.returns-then-self-eq17-clause-runs
returns-then-self-eq17-clause-runs c =
    let all = c.args.self.now in
    nearest_kept all.runs c.rotate_left.new.self all.count all.whole c.if-self-eq17.true c.rotate_left.ensures.after
