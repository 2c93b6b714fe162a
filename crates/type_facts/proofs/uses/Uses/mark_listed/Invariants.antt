use Rattle.std.proofs.Common.{◌≡◌, drop}
use Rattle.type_facts.specs.Passes.{with_marked}
use Rattle.type_facts.specs.Roots.{listed_roots}
use Rattle.type_facts.proofs.uses.Uses.mark_listed.Given as goal

abbrev pub invariant-loop-entry : goal.invariant-loop-entry
invariant-loop-entry l =
    with_marked l.self (listed_roots l.resolve l.side (drop l.entry-index l.listed)) ≡ with_marked l.fn.self (listed_roots l.resolve l.side l.listed)
