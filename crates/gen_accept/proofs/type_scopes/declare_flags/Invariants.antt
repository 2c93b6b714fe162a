use Rattle.std.proofs.Common.{◌≡◌, ◌++◌, map, take}
use Rattle.gen_accept.specs.declared.declared.Sort.TheVariants.{Value}
use Rattle.gen_accept.specs.DeclaredNames.{declared}
use Rattle.gen_accept.proofs.type_scopes.declare_flags.Given as goal

abbrev pub invariant-loop-member : goal.invariant-loop-member
invariant-loop-member l = l.names ≡ l.initial.names ++ map (declared Value) (map (λ m. m.name.upper) (take l.member-index l.members))
