use Rattle.std.proofs.Common.{◌-◌, length, drop}
use Rattle.wit_layout.specs.Extent.{flags_extent}
use Rattle.abi_driver.proofs.FlagSteps.{place_of}
use Rattle.abi_driver.proofs.NumberWords.{StoredBack}
use Rattle.abi_driver.proofs.memory.flags.store_flags.Given as goal

-- the last words were stored
abbrev pub invariant-loop-behind : goal.invariant-loop-behind
invariant-loop-behind g l =
    StoredBack g.B.Bindgen.meaning l.resolve.types (flags_extent (length l.members)).grain (place_of l.offset) l.address (l.count - l.behind) (drop (l.count - l.behind) l.words) l.initial.bindgen l.bindgen
