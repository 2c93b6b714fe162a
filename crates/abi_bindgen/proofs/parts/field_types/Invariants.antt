use Rattle.std.proofs.Common.{◌≡◌, ◌++◌, drop, map}
use Rattle.abi_bindgen.proofs.parts.field_types.Given as goal

abbrev pub invariant-loop-member : goal.invariant-loop-member
invariant-loop-member l = l.tys ++ map (λ f. f.ty) (drop l.member-index l.members) ≡ l.initial.tys ++ map (λ f. f.ty) l.members
