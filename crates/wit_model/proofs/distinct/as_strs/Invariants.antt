use Rattle.std.proofs.Common.{◌≡◌, map, take}
use Rattle.wit_model.proofs.distinct.as_strs.Given as goal

abbrev pub invariant-loop-text : goal.invariant-loop-text
invariant-loop-text l = map (λ s. s.now) l.strs.items ≡ take l.text-index l.texts
