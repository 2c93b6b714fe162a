use Rattle.std.proofs.Common.{◌≡◌, drop}
use Rattle.gen_accept.specs.Clash.{first_clash}
use Rattle.gen_accept.proofs.clash.first_clash.Given as goal

abbrev pub invariant-loop-scope : goal.invariant-loop-scope
invariant-loop-scope l = first_clash (drop l.scope-index l.scopes) ≡ first_clash l.scopes
