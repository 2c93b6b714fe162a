use Rattle.std.proofs.Common.{◌≡◌, drop}
use Rattle.std.specs.Prelude.{fold}
use Rattle.rust_gen.specs.Runtime.{with_asked}
use Rattle.rust_gen.proofs.runtime.ask_all.Given as goal

abbrev pub invariant-loop-item : goal.invariant-loop-item
invariant-loop-item l = fold with_asked l.items (drop l.item-index l.asked) ≡ fold with_asked l.initial.items l.asked
