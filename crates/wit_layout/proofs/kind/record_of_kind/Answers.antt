use Rattle.std.proofs.Common.{◌<◌, ◌^◌, length, arith}
use Rattle.wit_model.specs.Parts.{parts}
use Rattle.wit_layout.proofs.PartSteps.{parts_short}
use Rattle.wit_layout.proofs.kind.record_of_kind.Goals as goal

pub record-requires : goal.record-requires
record-requires c =
    let short : length (parts c.args.kind.now) < 2 ^ 32 = parts_short c.args.kind.now c.requires.numbered in
    omega arith
