-- Whether each type that a world's own functions name, as a parameter or a result, passes a test.
use Rattle.std.specs.Prelude.{Bool, true, ◌&&◌, Option, None, Some}
use Rattle.std.specs.List.{list_all}
use Rattle.wit_model.specs.declared.function.Function.{Function}
use Rattle.wit_model.specs.declared.types.WitType.{WitType}
use Rattle.wit_model.specs.declared.world.World.{World}
use Rattle.wit_model.specs.declared.world.WorldItem.{WorldItem}
use Rattle.wit_model.specs.declared.world.WorldItem.TheVariants as item
use Rattle.type_defs.specs.ListedTypes.{Entries}

abbrev pub passes_or_none : (WitType → Bool) → Option WitType → Bool
passes_or_none test None = true
passes_or_none test (Some ty) = test ty

abbrev pub function_passes : (WitType → Bool) → Function → Bool
function_passes test f = list_all (λ p. test p.ty) f.params && passes_or_none test f.result

-- interfaces and types stand for themselves
abbrev pub item_passes : (WitType → Bool) → WorldItem → Bool
item_passes test (item.Interface _) = true
item_passes test (item.Function f) = function_passes test f
item_passes test (item.Named _) = true

-- the imports, or the exports, of a world
abbrev pub entries_pass : (WitType → Bool) → Entries → Bool
entries_pass test entries = list_all (λ entry. item_passes test entry.1) entries

abbrev pub functions_pass : (WitType → Bool) → World → Bool
functions_pass test world = entries_pass test world.imports && entries_pass test world.exports
