use Rattle.std.proofs.Common.{◌≡◌, ◌++◌, Some, map, take, drop}
use Rattle.wit_layout.specs.Flat.{flatten_record}
use Rattle.wit_layout.specs.inside.Words.{kept}
use Rattle.wit_layout.specs.Signature.{param_words}
use Rattle.wit_layout.specs.Tree.{payloads_in, trees}
use Rattle.wit_layout.proofs.signature.flatten_params.Given as goal

abbrev pub invariant-loop-param : goal.invariant-loop-param
invariant-loop-param l = record {
  words : take 17 (kept l.all ++ flatten_record (payloads_in (trees l.types) (map (λ ty. Some ty) (map (λ p. p.ty) (drop l.param-index l.params))))) ≡ take 17 (param_words l.types l.params);
  room : l.all.room ≡ 17;
}
