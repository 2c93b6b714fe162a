-- Which items the module `_rt` holds: each that is asked for, once, in the order in which they are first asked for; and behind them
-- those that they need.
use Rattle.std.specs.Prelude.{Bool, true, false, List, [], ◌∷◌, ◌++◌, if◌then◌else◌, fold}
use Rattle.std.specs.List.{list_any, flat_map}
use Rattle.rust_tree.specs.declared.item.Item.{Item}
use Rattle.rust_tree.specs.declared.item.Item.TheVariants as item
use Rattle.rust_tree.specs.declared.runtime_item.RuntimeItem.{RuntimeItem}
use Rattle.rust_tree.specs.declared.runtime_item.RuntimeItem.TheVariants.{AsI32, AsI64, AsF32, AsF64, AllocCrate, StringType, VecType, BoolLift, CharLift, StringLift, StdAllocModule, CabiDealloc, InvalidEnumDiscriminant}
use Rattle.rust_tree.specs.Runtime.{needed_items}

abbrev pub is_same_item : RuntimeItem → RuntimeItem → Bool
is_same_item AsI32 AsI32 = true
is_same_item AsI64 AsI64 = true
is_same_item AsF32 AsF32 = true
is_same_item AsF64 AsF64 = true
is_same_item AllocCrate AllocCrate = true
is_same_item StringType StringType = true
is_same_item VecType VecType = true
is_same_item BoolLift BoolLift = true
is_same_item CharLift CharLift = true
is_same_item StringLift StringLift = true
is_same_item StdAllocModule StdAllocModule = true
is_same_item CabiDealloc CabiDealloc = true
is_same_item InvalidEnumDiscriminant InvalidEnumDiscriminant = true
is_same_item _ _ = false

-- the items, and one more that is asked for
abbrev pub with_asked : List RuntimeItem → RuntimeItem → List RuntimeItem
with_asked items asked = if list_any (λ i. is_same_item i asked) items then items else items ++ asked ∷ []

-- a round: behind the items stand those that they need; two rounds leave none out
abbrev pub with_needed : List RuntimeItem → List RuntimeItem
with_needed items = fold with_asked items (flat_map needed_items items)

-- what is asked for, and what this needs
unfoldable pub runtime_items : List RuntimeItem → List RuntimeItem
runtime_items asked = with_needed (with_needed (fold with_asked [] asked))

-- the module stands where an item is asked for
abbrev pub runtime_module : List RuntimeItem → List Item
runtime_module [] = []
runtime_module (i ∷ items) = item.Runtime (i ∷ items) ∷ []
