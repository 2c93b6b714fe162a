use Rattle.std.proofs.Common.{◌≡◌, drop}
use Rattle.type_facts.specs.Passes.{with_marked}
use Rattle.type_facts.specs.Roots.{functions_roots}
use Rattle.type_facts.proofs.uses.Uses.mark_functions.Given as goal

abbrev pub invariant-loop-function : goal.invariant-loop-function
invariant-loop-function l =
    with_marked l.self (functions_roots l.resolve.types l.side (drop l.function-index l.functions)) ≡ with_marked l.fn.self (functions_roots l.resolve.types l.side l.functions)
