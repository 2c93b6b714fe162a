use Rattle.std.proofs.Common.{◌≡◌, map, drop}
use Rattle.std.specs.List.{list_any}
use Rattle.gen_accept.specs.DeclaredNames.{is_flags}
use Rattle.gen_accept.proofs.names.has_flags.Given as goal

abbrev pub invariant-loop-entry : goal.invariant-loop-entry
invariant-loop-entry l = list_any is_flags (map (λ t. t.now) (drop l.entry-index l.defined)) ≡ list_any is_flags (map (λ t. t.now) l.defined)
