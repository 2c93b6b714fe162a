-- How the keys of exports compare: the world stands first, and names by their bytes.
use Rattle.std.specs.Prelude.{ℕ, Bool, List, Option, None, Some, nat_eq}
use Rattle.std.specs.Option.{option_eq, option_cmp}
use Rattle.std.specs.declared.cmp.Ordering.{Ordering}
use Rattle.std.specs.Ordering.{on, nat_cmp}
use Rattle.std.specs.Cmp.Lexicographic.{pointwise, slice_cmp}
use Rattle.gen_accept.specs.declared.export_key.ExportKey.{ExportKey}
use Rattle.gen_accept.specs.declared.export_key.ExportKey.TheVariants.{World, Name}

-- the name, which the world has none of
abbrev pub key_name : ExportKey → Option (List ℕ)
key_name World = None
key_name (Name name) = Some name

abbrev pub key_eq : ExportKey → ExportKey → Bool
key_eq = on key_name (option_eq (pointwise nat_eq))

-- no name stands before every name
abbrev pub key_cmp : ExportKey → ExportKey → Ordering
key_cmp = on key_name (option_cmp (slice_cmp nat_cmp))
