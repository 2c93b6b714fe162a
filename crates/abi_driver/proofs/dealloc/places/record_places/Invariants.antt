use Rattle.std.proofs.Common.{◌≡◌, length}
use Rattle.wit_layout.specs.Filled.{IsBehind}
use Rattle.abi_driver.proofs.RecordPlaces.{ArePlaces}
use Rattle.abi_driver.proofs.dealloc.places.record_places.Given as goal

-- the places so far, and where the last of them ends
abbrev pub invariant-loop : goal.invariant-loop
invariant-loop l = record {
  nth : l.running.nth ≡ l.counter;
  behind : IsBehind l.sizes l.types l.running;
  count : length l.places ≡ l.counter;
  each : ArePlaces l.sizes l.types l.places l.counter;
}
