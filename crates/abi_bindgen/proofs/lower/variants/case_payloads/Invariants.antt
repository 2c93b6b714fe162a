use Rattle.std.proofs.Common.{◌≡◌, ◌++◌, drop, map}
use Rattle.abi_bindgen.proofs.lower.variants.case_payloads.Given as goal

abbrev pub invariant-loop-member : goal.invariant-loop-member
invariant-loop-member l = l.payloads ++ map (λ c. c.ty) (drop l.member-index l.members) ≡ l.initial.payloads ++ map (λ f. f.ty) l.members
