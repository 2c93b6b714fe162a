use Rattle.std.proofs.Common.{◌≡◌, map, take}
use Rattle.gen_accept.proofs.names.wit_names.Given as goal

abbrev pub invariant-loop-function : goal.invariant-loop-function
invariant-loop-function l = map (λ n. n.now) l.names.items ≡ map (λ f. f.name.wit) (map (λ f. f.now) (take l.function-index l.functions))
