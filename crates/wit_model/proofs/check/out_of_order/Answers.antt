use Rattle.std.proofs.Common.{rules}
use Rattle.wit_model.specs.TypeOrder.{first_out_of_order}
use Rattle.wit_model.proofs.WellFormedLemmas.{goes_down_if_none}
use Rattle.wit_model.proofs.check.out_of_order.Goals as goal

pub returns-clause-none : goal.returns-clause-none
unfolding first_out_of_order
returns-clause-none c = goes_down_if_none c.args.resolve.now c.placed.result (search rules)
