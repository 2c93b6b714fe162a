-- The law of the module `_rt`: what stands in it, by what the items of the file name.
use Rattle.std.specs.Prelude.{◌≡◌, true, List, [], ◌∷◌, ◌++◌, map}
use Rattle.std.specs.List.{Contains}
use Rattle.wit_model.specs.Distinct.{is_distinct}
use Rattle.rust_tree.specs.declared.item.Item.{Item}
use Rattle.rust_tree.specs.declared.item.Item.TheVariants as item
use Rattle.rust_tree.specs.declared.runtime_item.RuntimeItem.{RuntimeItem}
use Rattle.rust_tree.specs.Runtime.{item_name, needed_items}

-- the items of a file that stand in `_rt`
abbrev pub runtime_in : List Item → List RuntimeItem
runtime_in [] = []
runtime_in (item.Runtime parts ∷ items) = parts ++ runtime_in items
runtime_in (_ ∷ items) = runtime_in items

-- due is what is asked for, and what another item that is due needs
pub data IsDue (asked : List RuntimeItem) : RuntimeItem → Type 0 where
  asked_for : (i : RuntimeItem) → Contains asked i → IsDue asked i
  needed_by : (i j : RuntimeItem) → IsDue asked i → Contains (needed_items i) j → IsDue asked j

-- each item stands there once; each that is due stands there, and no other
pub record Serves (asked items : List RuntimeItem) : Type 0 where
  pub once : is_distinct (map item_name items) ≡ true
  pub all : (i : RuntimeItem) → IsDue asked i → Contains items i
  pub no_other : (i : RuntimeItem) → Contains items i → IsDue asked i
