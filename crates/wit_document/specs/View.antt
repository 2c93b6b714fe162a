-- Which data does a JSON value in memory stand for? Private contracts alone cite this.
use Rattle.std.specs.Prelude.{ℕ, pos, List, Bool, true, ◌&&◌, unwrap_or, is_some}
use Rattle.std.specs.Global.{Global}
use Rattle.std.specs.Borrow.{Bor}
use Rattle.json.specs.Json as json
use Rattle.json.specs.Value.{value_view}
use Rattle.json.specs.Value as json_view
use Rattle.json.specs.declared.value.Value.{Value}
use Rattle.serde_json.specs.Data.{Num, negative, Data, null, boolean, number, string, array, object, Items, no_items, item, Members, no_members, put}
use Rattle.serde_json.specs.Read.{number_of}

-- Some number stands for one that is out of range, so that every value has data. A value with such a number is not read.
abbrev pub number_data : List ℕ → Num
number_data s = unwrap_or (number_of s) (negative (pos 0))

-- the members go in one after another, so the last value of a key stays
abbrev mutual
  pub data_of : json.Json → Data
  data_of json.null = null
  data_of (json.boolean b) = boolean b
  data_of (json.number s) = number (number_data s)
  data_of (json.string s) = string s
  data_of (json.array js) = array (items_data js)
  data_of (json.object ms) = object (members_data ms no_members)

  pub items_data : json.Items → Items
  items_data json.no_items = no_items
  items_data (json.item j js) = item (data_of j) (items_data js)

  pub members_data : json.Members → Members → Members
  members_data json.no_members found = found
  members_data (json.member k j ms) found = members_data ms (put k (data_of j) found)

-- each number is in range
abbrev mutual
  pub is_in_range : json.Json → Bool
  is_in_range json.null = true
  is_in_range (json.boolean b) = true
  is_in_range (json.number s) = is_some (number_of s)
  is_in_range (json.string s) = true
  is_in_range (json.array js) = items_are_in_range js
  is_in_range (json.object ms) = members_are_in_range ms

  pub items_are_in_range : json.Items → Bool
  items_are_in_range json.no_items = true
  items_are_in_range (json.item j js) = is_in_range j && items_are_in_range js

  pub members_are_in_range : json.Members → Bool
  members_are_in_range json.no_members = true
  members_are_in_range (json.member k j ms) = is_in_range j && members_are_in_range ms

abbrev pub view : Value Global → Data
view v = data_of (value_view v)

abbrev pub items_view : List (Value Global) → Items
items_view vs = items_data (json_view.items_view vs)

abbrev pub members_view : List (Bor (List ℕ) × Value Global) → Members
members_view ms = members_data (json_view.members_view ms) no_members
