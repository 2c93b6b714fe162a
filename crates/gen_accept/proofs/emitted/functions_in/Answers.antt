use Rattle.std.proofs.Common.{◌++◌, ◌∙◌, ap, sym, arith}
use Rattle.gen_accept.specs.Emitted.{function_at}
use Rattle.gen_accept.proofs.EmittedLemmas.{functions_in-more}
use Rattle.gen_accept.proofs.emitted.functions_in.Goals as goal

pub loop-entry-preserved : goal.loop-entry-preserved
loop-entry-preserved c =
    c.in_ok-push_function.ensures ∙ ap (λ fs. fs ++ function_at c.entry-item.result.1) c.loop-entry.invariant
    ∙ sym (functions_in-more c.args.entries.now c.loop-entry.entry-index c.entry-item.result (omega arith) c.entry-item.is)
