use Rattle.std.proofs.Common.{◌≡◌, ◌++◌, map, take}
use Rattle.gen_accept.specs.declared.declared.Sort.TheVariants.{WorldType}
use Rattle.gen_accept.specs.DeclaredNames.{declared}
use Rattle.type_defs.specs.PrintedTypes.{type_name}
use Rattle.gen_accept.proofs.names.declare_types.Given as goal

abbrev pub invariant-loop-entry : goal.invariant-loop-entry
invariant-loop-entry l = l.names ≡ l.initial.names ++ map (declared WorldType) (map type_name (map (λ t. t.now) (take l.entry-index l.defined)))
