use Rattle.std.proofs.Common.{length, refl}
use Rattle.std.proofs.lemmas.Option.{slice_get_read}
use Rattle.gen_accept.proofs.FunctionLemmas.{lent-at}
use Rattle.gen_accept.proofs.too_large.first_large_of.Goals as goal

pub is_large_function-requires : goal.is_large_function-requires
is_large_function-requires c =
    let functions = c.args.functions.now in
    let f = c.function-item.result in
    c.requires c.loop-function.function-index f.now (lent-at functions c.loop-function.function-index f (slice_get_read functions (length functions) c.loop-function.function-index f refl c.loop-function-test.true c.function-item.is))
