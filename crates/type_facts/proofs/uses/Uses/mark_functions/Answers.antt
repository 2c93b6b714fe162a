use Rattle.std.proofs.Common.{◌≡◌, ◌∙◌, length, refl, slice_get, Some}
use Rattle.std.proofs.lemmas.Option.{slice_get_read}
use Rattle.type_facts.proofs.Using.{function_next}
use Rattle.type_facts.proofs.uses.Uses.mark_functions.Goals as goal

pub loop-function-preserved : goal.loop-function-preserved
loop-function-preserved c =
    let functions = c.args.functions.now in
    let n = c.loop-function.function-index in
    let f = c.function-item.result in
    let at : slice_get functions n ≡ Some f = slice_get_read functions (length functions) n f refl c.loop-function-test.true c.function-item.is in
    rw c.mark_function.ensures (function_next c.args.resolve.now.types c.args.side c.loop-function.self functions n f at ∙ c.loop-function.invariant)
