use Rattle.wit_model.proofs.WellFormedLemmas.{types_go_down}
use Rattle.base_tests.proofs.calls.given.Goals as goal

pub classify_constructor-requires : goal.classify_constructor-requires
classify_constructor-requires c = types_go_down c.args.resolve.now c.requires.unbroken
