use Rattle.std.proofs.Common.{length}
use Rattle.wrapper_closing.proofs.params.+push_args.Given as goal

abbrev pub decreases-push_args : goal.decreases-push_args
decreases-push_args l = length l.types.now
