use Rattle.std.proofs.Common.{◌≡◌, ◌++◌, map, drop}
use Rattle.std.specs.List.{flat_map}
use Rattle.rust_gen.specs.Exported.{entries_of}
use Rattle.rust_gen.proofs.exported.export_entries.Given as goal

abbrev pub invariant-loop-function : goal.invariant-loop-function
invariant-loop-function l = l.entries ++ flat_map (entries_of l.resolve.types) (map (λ f. f.now) (drop l.function-index l.functions)) ≡ flat_map (entries_of l.resolve.types) (map (λ f. f.now) l.functions)
