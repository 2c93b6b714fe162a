use Rattle.std.proofs.Common.{◌≡◌, length}
use Rattle.wit_layout.specs.Extent.{flags_extent}
use Rattle.abi_driver.proofs.FlagSteps.{place_of}
use Rattle.abi_driver.proofs.NumberWords.{LoadedOn}
use Rattle.abi_driver.proofs.memory.flags.load_flags.Given as goal

-- the first words were loaded
abbrev pub invariant-loop-nth : goal.invariant-loop-nth
invariant-loop-nth g l = record {
  count : length l.words ≡ l.nth;
  loaded : LoadedOn g.B.Bindgen.meaning l.resolve.types (flags_extent (length l.members)).grain (place_of l.offset) l.address 0 l.words l.initial.bindgen l.bindgen;
}
