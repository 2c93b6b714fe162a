use Rattle.func_gen.proofs.WholeLemmas.{none_open}
use Rattle.func_gen.proofs.lawful.FunctionBindgenBindgen.return_pointer.Goals as goal

pub point-requires-clause-closed : goal.point-requires-clause-closed
point-requires-clause-closed c = none_open c.args.self.now.opened c.requires.closed
