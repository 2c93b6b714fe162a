use Rattle.std.proofs.Common.{◌≡◌, ◌++◌, map, take}
use Rattle.gen_accept.specs.declared.declared.Sort.TheVariants.{Value}
use Rattle.gen_accept.specs.DeclaredNames.{declared}
use Rattle.gen_accept.proofs.type_scopes.declare_variant_cases.Given as goal

abbrev pub invariant-loop-case : goal.invariant-loop-case
invariant-loop-case l = l.names ≡ l.initial.names ++ map (declared Value) (map (λ c. c.name.camel) (take l.case-index l.cases))
