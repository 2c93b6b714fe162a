use Rattle.std.proofs.Common.{◌≡◌, drop}
use Rattle.std.specs.Option.{option_copied, option_or}
use Rattle.std.specs.Str.{bytes_eq}
use Rattle.wrapper_values.specs.Locals.{last, local_named}
use Rattle.wrapper_values.proofs.locals.local_named.Given as goal

abbrev pub invariant-loop-each : goal.invariant-loop-each
invariant-loop-each l = option_or (last (λ x. bytes_eq x.name l.name) (drop l.each-index l.locals)) (option_copied l.found) ≡ local_named l.name l.locals
