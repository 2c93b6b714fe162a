-- Which entry of a table is the first that fails a test.
use Rattle.std.specs.Prelude.{ℕ, Bool, not, List, position, Option}
use Rattle.std.specs.Option.{option_map}
use Rattle.wit_model.specs.declared.resolve.Table.{Table}

-- a place of the tables
abbrev pub Place : Type 0
Place = Table × ℕ

-- the first entry of a table that fails a test
abbrev pub first_failing : {A : Type 0} → Table → (A → Bool) → List A → Option Place
first_failing table passes entries = option_map (λ index. (table, index)) (position (λ entry. not (passes entry)) entries)
