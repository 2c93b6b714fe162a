use Rattle.std.proofs.Common.{◌≡◌, drop}
use Rattle.wrapper_run.specs.PostReturn.{post_return_named}
use Rattle.wrapper_run.proofs.post_return.post_return_named.Given as goal

abbrev pub invariant-loop-item : goal.invariant-loop-item
invariant-loop-item l = post_return_named l.base (drop l.item-index l.items) ≡ post_return_named l.base l.items
