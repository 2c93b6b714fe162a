use Rattle.std.proofs.Common.{◌≡◌, List, map, drop, find}
use Rattle.wit_model.specs.declared.types.TypeDef.{TypeDef}
use Rattle.wit_layout.specs.Filled.{IsFilledFor}
use Rattle.type_defs.specs.Nodes.{nodes}
use Rattle.gen_accept.specs.TooLarge.{is_large_function}
use Rattle.gen_accept.proofs.too_large.first_large_of.Given as goal

abbrev pub invariant-loop-function : goal.invariant-loop-function
invariant-loop-function l =
    (table : List TypeDef) → IsFilledFor l.sizes table → l.counts ≡ nodes table
    → find (is_large_function table) (map (λ f. f.now) (drop l.function-index l.functions)) ≡ find (is_large_function table) (map (λ f. f.now) l.functions)
