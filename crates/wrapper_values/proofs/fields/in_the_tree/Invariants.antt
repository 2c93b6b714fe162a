use Rattle.std.proofs.Common.{◌≡◌, map, take}
use Rattle.wrapper_values.proofs.fields.in_the_tree.Given as goal

abbrev pub invariant-loop-field : goal.invariant-loop-field
invariant-loop-field g l = l.given ≡ map (λ f. f.1) (take l.field-index l.fields)
