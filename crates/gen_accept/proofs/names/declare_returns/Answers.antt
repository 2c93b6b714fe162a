use Rattle.std.proofs.Common.{length, refl}
use Rattle.std.proofs.lemmas.Option.{slice_get_read}
use Rattle.gen_accept.proofs.FunctionLemmas.{in-range-at}
use Rattle.gen_accept.proofs.names.declare_returns.Goals as goal

pub declare_return-requires-clause-within : goal.declare_return-requires-clause-within
declare_return-requires-clause-within c =
    let functions = c.args.functions.now in
    in-range-at c.args.resolve.now functions c.loop-function.function-index c.function-item.result c.requires.within
    (slice_get_read functions (length functions) c.loop-function.function-index c.function-item.result refl c.loop-function-test.true c.function-item.is)
