-- Which functions of a world get a wrapper, and where each of them stands.
use Rattle.std.specs.Prelude.{ℕ, ◌+◌, Bool, true, false, List, [], ◌∷◌, ◌++◌, map, None}
use Rattle.wit_model.specs.declared.function.Function.{Function}
use Rattle.wit_model.specs.declared.world.WorldItem.{WorldItem}
use Rattle.wit_model.specs.declared.world.WorldItem.TheVariants as item
use Rattle.wit_model.specs.declared.world.World.{World}
use Rattle.rust_tree.specs.declared.place.FuncPlace.{FuncPlace}
use Rattle.type_defs.specs.ListedTypes.{Entries}

-- the function that an entry is, if it is one
abbrev pub function_at : WorldItem → List Function
function_at (item.Interface _) = []
function_at (item.Function f) = f ∷ []
function_at (item.Named _) = []

-- the functions among the entries, in their order
abbrev pub functions_in : Entries → List Function
functions_in [] = []
functions_in (entry ∷ entries) = function_at entry.1 ++ functions_in entries

-- the place of an entry at world level, if it is a function
abbrev pub place_at : ℕ → WorldItem → List FuncPlace
place_at nth (item.Interface _) = []
place_at nth (item.Function _) = record { interface = None; nth = nth } ∷ []
place_at nth (item.Named _) = []

-- the places of the functions among entries whose first stands at the place `nth`
abbrev pub places_from : ℕ → Entries → List FuncPlace
places_from nth [] = []
places_from nth (entry ∷ entries) = place_at nth entry.1 ++ places_from (nth + 1) entries

abbrev pub imported_functions : World → List Function
imported_functions world = functions_in world.imports

abbrev pub exported_functions : World → List Function
exported_functions world = functions_in world.exports

-- in the order of the file
abbrev pub emitted_functions : World → List Function
emitted_functions world = imported_functions world ++ exported_functions world

-- the places of the imported functions, and those of the exported ones behind them
abbrev pub emitted_places : World → List FuncPlace
emitted_places world = places_from 0 world.imports ++ places_from 0 world.exports

-- the same with the side: true for an import
abbrev pub on_side : Bool → List FuncPlace → List (FuncPlace × Bool)
on_side is_import places = map (λ p. (p, is_import)) places

abbrev pub emitted_sides : World → List (FuncPlace × Bool)
emitted_sides world = on_side true (places_from 0 world.imports) ++ on_side false (places_from 0 world.exports)
