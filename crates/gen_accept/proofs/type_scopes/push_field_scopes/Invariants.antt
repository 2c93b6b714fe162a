use Rattle.std.proofs.Common.{◌≡◌, ◌++◌, map, take}
use Rattle.gen_accept.specs.DeclaredNames.{field_scope}
use Rattle.gen_accept.proofs.type_scopes.push_field_scopes.Given as goal

abbrev pub invariant-loop-entry : goal.invariant-loop-entry
invariant-loop-entry l = l.scopes ≡ l.initial.scopes ++ map field_scope (map (λ t. t.now) (take l.entry-index l.defined))
