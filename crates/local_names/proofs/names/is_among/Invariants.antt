use Rattle.std.proofs.Common.{◌≡◌, drop, map}
use Rattle.std.specs.List.{list_any}
use Rattle.std.specs.Rc.{rc_str_bytes}
use Rattle.std.specs.Str.{bytes_eq}
use Rattle.local_names.proofs.names.is_among.Given as goal

abbrev pub invariant-loop-one : goal.invariant-loop-one
invariant-loop-one l = list_any (λ n. bytes_eq n l.name) (map rc_str_bytes (drop l.one-index l.names)) ≡ list_any (λ n. bytes_eq n l.name) (map rc_str_bytes l.names)
