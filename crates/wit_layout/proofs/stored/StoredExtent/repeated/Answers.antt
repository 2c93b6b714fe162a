use Rattle.wit_layout.proofs.Repeats.{repeated_size}
use Rattle.wit_layout.proofs.stored.StoredExtent.repeated.Goals as goal

pub new-requires-clause-size : goal.new-requires-clause-size
new-requires-clause-size c =
    let size = c.args.self.now.size in
    repeated_size c.from-n.result size.bytes size.pointers c.at.result c.at-2.result c.at.ensures c.at-2.ensures
