use Rattle.std.proofs.Common.{◌∙◌, sym}
use Rattle.wit_model.proofs.WellFormedLemmas.{types_go_down}
use Rattle.wit_model.proofs.resolve.Resolve.check.Goals as goal

pub returns-in-None-clause-order : goal.returns-in-None-clause-order
returns-in-None-clause-order c = types_go_down c.args.self.now (sym c.in_ok-first_fault.ensures ∙ c.in-None.is)
