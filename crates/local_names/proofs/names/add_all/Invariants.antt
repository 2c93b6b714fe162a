use Rattle.std.proofs.Common.{◌≡◌, ◌++◌, drop, map}
use Rattle.std.specs.Rc.{rc_str_bytes}
use Rattle.local_names.specs.Texts.{texts_in}
use Rattle.local_names.proofs.names.add_all.Given as goal

abbrev pub invariant-loop-name : goal.invariant-loop-name
invariant-loop-name l = texts_in l.set ++ map rc_str_bytes (drop l.name-index l.more) ≡ texts_in l.initial.set ++ map rc_str_bytes l.more
