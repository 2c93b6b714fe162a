use Rattle.std.proofs.Common.{◌≡◌, drop}
use Rattle.std.specs.List.{list_any}
use Rattle.std.specs.Str.{bytes_eq}
use Rattle.local_names.specs.Texts.{texts_of}
use Rattle.local_names.proofs.names.is_in_sets.Given as goal

abbrev pub invariant-loop-set : goal.invariant-loop-set
invariant-loop-set l = list_any (λ n. bytes_eq n l.name) (texts_of (drop l.set-index l.sets)) ≡ list_any (λ n. bytes_eq n l.name) (texts_of l.sets)
