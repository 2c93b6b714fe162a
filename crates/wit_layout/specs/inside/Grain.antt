-- Which power of 2 an alignment is, where a pointer has 2 ^ w bytes.
use Rattle.std.specs.Prelude.{ℕ}
use Rattle.wit_layout.specs.declared.grain.Grain.{Grain}
use Rattle.wit_layout.specs.declared.grain.Grain.TheVariants.{One, Two, Four, Pointer, Eight}

abbrev pub exponent : ℕ → Grain → ℕ
exponent w One = 0
exponent w Two = 1
exponent w Four = 2
exponent w Pointer = w
exponent w Eight = 3
