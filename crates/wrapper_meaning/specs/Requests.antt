-- Which requests for memory are due for the lists and maps of a value.
use Rattle.std.specs.Prelude.{ℕ, zero, suc, ◌*◌, ◌^◌, List, [], ◌∷◌, ◌++◌, flat_map, length, Option, None, Some, if◌then◌else◌}
use mathlib.Core.Logic.{inl, inr}
use Rattle.wit_layout.specs.Extent.{Extent}
use Rattle.wit_layout.specs.Sizes.{extent_of}
use Rattle.wrapper_data.specs.declared.choice.Request.{Request}
use Rattle.wrapper_meaning.specs.InMemory.{entry_extent}
use Rattle.wrapper_meaning.specs.Kinds.{is_plain}
use Rattle.wrapper_meaning.specs.Layout.{layout}
use Rattle.wrapper_meaning.specs.Shape.{Shape, Shapes}
use Rattle.wrapper_meaning.specs.Shape.Shape.{list, pairs, fixed, fields, tuple, cases}
use Rattle.wrapper_meaning.specs.Shape.Shapes.{none, more}
use Rattle.wrapper_meaning.specs.Value.{Case, Parts, Result, Value}

-- no request where there are no entries
abbrev pub for_entries : ℕ → Request → List Request
for_entries zero request = []
for_entries (suc n) request = request ∷ []

-- a block for so many entries of an extent
abbrev pub block_for : ℕ → Extent → List Request
block_for entries e = for_entries entries (record { size = entries * e.bytes; align = 2 ^ e.grain })

-- room for so many entries of a Rust list or map
abbrev pub room_for : ℕ → Extent → List Request
room_for entries e = for_entries entries (record { size = entries; align = 0 })

-- what is asked for each list or map that has entries and is no text and no list that lies in memory as it is: by the number of
-- entries and the extent of one. A pointer has 2 ^ w bytes
module _ (w : ℕ) (asked : ℕ → Extent → List Request) where
  abbrev mutual
    pub requests : (t : Shape) → Value t → List Request
    requests (list t) vs = if is_plain t then [] else asked (length vs) (extent_of w (layout t)) ++ flat_map (requests t) vs
    requests (pairs k x) entries = asked (length entries) (entry_extent w k x) ++ flat_map (λ e. requests k e.0 ++ requests x e.1) entries
    requests (fixed t n) vs = flat_map (requests t) vs
    requests (fields ts) v = part_requests ts v
    requests (tuple ts) v = part_requests ts v
    requests (cases ts) v = case_requests ts v
    requests _ v = []

    pub part_requests : (ts : Shapes) → Parts ts → List Request
    part_requests none v = []
    part_requests (more t ts) v = requests t v.0 ++ part_requests ts v.1

    pub case_requests : (ts : Shapes) → Case ts → List Request
    case_requests none c = []
    case_requests (more t ts) (inl v) = requests t v
    case_requests (more t ts) (inr c) = case_requests ts c

  abbrev pub result_requests : (r : Option Shape) → Result r → List Request
  result_requests None v = []
  result_requests (Some t) v = requests t v
