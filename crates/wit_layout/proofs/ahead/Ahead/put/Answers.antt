use Rattle.std.proofs.Common.{◌≡◌, ◌<◌, length, ap, arith}
use Rattle.std.proofs.lemmas.List.{nil_from_length}
use Rattle.wit_layout.specs.inside.Sequence.{members_at}
use Rattle.wit_layout.proofs.AheadSteps.{are_put, none_put, put_valid}
use Rattle.wit_layout.proofs.SequenceSteps.{members_read}
use Rattle.wit_layout.proofs.ahead.Ahead.put.Goals as goal

pub returns-then-member_count-gt0-clause-valid : goal.returns-then-member_count-gt0-clause-valid
returns-then-member_count-gt0-clause-valid c =
    let types = c.args.types.now in
    let room = c.make_room in
    let some : 0 < length (members_at types c.args.at) = omega (arith, ap length (members_read types c.args.at c.index-types-at.result c.requires.within)) in
    put_valid types c.args.self.now room.new.self c.push.new.self c.args.at room.ensures.runs c.push.ensures c.requires.within some c.requires.valid

pub returns-then-member_count-gt0-clause-members :
    goal.returns-then-member_count-gt0-clause-members
returns-then-member_count-gt0-clause-members c =
    let types = c.args.types.now in
    let room = c.make_room in
    let some : 0 < length (members_at types c.args.at) = omega (arith, ap length (members_read types c.args.at c.index-types-at.result c.requires.within)) in
    are_put types c.args.self.now room.new.self c.push.new.self c.args.at room.ensures.runs c.push.ensures c.requires.within some c.requires.valid

pub returns-else-member_count-gt0-clause-members :
    goal.returns-else-member_count-gt0-clause-members
returns-else-member_count-gt0-clause-members c =
    let types = c.args.types.now in
    let few : length (members_at types c.args.at) ≡ 0 = omega (arith, ap length (members_read types c.args.at c.index-types-at.result c.requires.within)) in
    none_put types c.args.self.now c.args.at (nil_from_length (members_at types c.args.at) few)
