-- Which requests are due for a call, by what they are for.
use Rattle.std.specs.Prelude.{ℕ, List, ◌++◌, length, Option}
use Rattle.wrapper_data.specs.declared.choice.Request.{Request}
use Rattle.wrapper_meaning.specs.Areas.{export_area, import_area}
use Rattle.wrapper_meaning.specs.Requests.{block_for, part_requests, result_requests, room_for}
use Rattle.wrapper_meaning.specs.Shape.{Shape, Shapes}
use Rattle.wrapper_meaning.specs.Value.{Parts, Result}

-- the area, which is none or one; blocks for what is lowered; room for what is lifted. So many requests come before that of the area
pub record Bill : Type 0 where
  pub area : List Request
  pub lowered : List Request
  pub rooms : List Request
  pub before : ℕ

-- all of them
abbrev pub due : Bill → List Request
due b = b.area ++ b.lowered ++ b.rooms

-- A pointer has 2 ^ w bytes
module _ (w : ℕ) where
  -- of an import: its area first of all, blocks for its arguments, and room for its result
  abbrev pub import_bill : (ts : Shapes) → Parts ts → (r : Option Shape) → Result r → Bill
  import_bill ts vs r u = record { area = import_area w ts r; lowered = part_requests w block_for ts vs; rooms = result_requests w room_for r u; before = 0 }

  -- of an export, in whose module functions with these results are: room for its arguments, and then, behind the call, its area first,
  -- and blocks for its result
  abbrev pub export_bill : List (Option Shape) → (ts : Shapes) → Parts ts → (r : Option Shape) → Result r → Bill
  export_bill results ts us r v = record { area = export_area w results r; lowered = result_requests w block_for r v; rooms = part_requests w room_for ts us; before = length (part_requests w room_for ts us) }
