use Rattle.wit_model.proofs.WellFormedLemmas.{types_go_down}
use Rattle.gen_accept.proofs.FunctionLemmas.{result-below}
use Rattle.gen_accept.proofs.area.needs_return.Goals as goal

pub guest_export_needs_post_return-requires-clause-down : goal.guest_export_needs_post_return-requires-clause-down
guest_export_needs_post_return-requires-clause-down c = types_go_down c.args.resolve.now c.requires.well.unbroken

pub guest_export_needs_post_return-requires-clause-below : goal.guest_export_needs_post_return-requires-clause-below
guest_export_needs_post_return-requires-clause-below c = result-below c.args.resolve.now c.args.f.now c.requires.within
