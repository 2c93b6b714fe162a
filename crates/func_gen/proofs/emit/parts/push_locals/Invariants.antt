use Rattle.std.proofs.Common.{◌≡◌, ◌++◌, drop}
use Rattle.func_gen.specs.PartForms.{locals_of}
use Rattle.func_gen.proofs.emit.parts.push_locals.Given as goal

abbrev pub invariant-loop-name : goal.invariant-loop-name
invariant-loop-name l = l.results ++ locals_of (drop l.name-index l.names) ≡ l.initial.results ++ locals_of l.names
