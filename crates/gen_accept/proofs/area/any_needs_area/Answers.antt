use Rattle.std.proofs.Common.{length, refl}
use Rattle.std.proofs.lemmas.Option.{slice_get_read}
use Rattle.gen_accept.proofs.FunctionLemmas.{in-range-at}
use Rattle.gen_accept.proofs.area.any_needs_area.Goals as goal

pub needs_area_on-requires-clause-within : goal.needs_area_on-requires-clause-within
needs_area_on-requires-clause-within c =
    let functions = c.args.functions.now in
    in-range-at c.args.resolve.now functions c.loop-function.function-index c.function-item.result c.requires.within
    (slice_get_read functions (length functions) c.loop-function.function-index c.function-item.result refl c.loop-function-test.true c.function-item.is)
