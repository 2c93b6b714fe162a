use Rattle.std.proofs.Common.{◌≡◌, true, arith}
use Rattle.wit_model.specs.IndexRange.{function_in_range}
use Rattle.rust_gen.proofs.TreeLemmas.{at-loop}
use Rattle.rust_gen.proofs.exported.export_entries.Goals as goal

pub push_entries-requires-clause-within : goal.push_entries-requires-clause-within
push_entries-requires-clause-within c =
    at-loop (λ f. function_in_range c.args.resolve.now f ≡ true) c.args.functions.now c.requires.within c.loop-function.function-index c.function-item.result (omega arith) c.function-item.is
