-- Which areas records pass by: what is asked for them, and where the choices put them.
use Rattle.std.specs.Prelude.{◌≡◌, ℕ, ◌%◌, ◌^◌, nat_eq, List, [], ◌∷◌, ◌++◌, map, fold, flat_map, Option, None, Some, if◌then◌else◌}
use Rattle.wit_model.specs.declared.size.Alignment.{Alignment}
use Rattle.wit_model.specs.declared.size.Alignment.TheVariants.{Pointer, Bytes}
use Rattle.wit_model.specs.declared.size.ArchitectureSize.{ArchitectureSize}
use Rattle.wit_model.specs.Size.{alignment_at, bytes_at, greater_alignment, greater_size, paired}
use Rattle.wit_layout.specs.Sizes.{alignment, elem_size}
use Rattle.wrapper_data.specs.declared.block.Block.{Block}
use Rattle.wrapper_data.specs.declared.choice.Choice.{Choice}
use Rattle.wrapper_data.specs.declared.choice.Choice.TheVariants as choice
use Rattle.wrapper_data.specs.declared.choice.Request.{Request}
use Rattle.wrapper_meaning.specs.Layout.{layout}
use Rattle.wrapper_meaning.specs.Represents.{are_indirect, is_indirect}
use Rattle.wrapper_meaning.specs.Shape.{Shape, Shapes}
use Rattle.wrapper_meaning.specs.Shape.Shape.{fields}

-- an area has the size and the alignment that are the greatest of its records', taken in order

abbrev pub area_size : List Shape → ArchitectureSize
area_size ts = fold greater_size (record { bytes = 0; pointers = 0 }) (map (λ t. paired (elem_size 2 (layout t)) (elem_size 3 (layout t))) ts)

-- a pointer's, where it is another at another width
abbrev pub stored_alignment : Shape → Alignment
stored_alignment t = if nat_eq (alignment 2 (layout t)) (alignment 3 (layout t)) then Bytes (alignment 2 (layout t)) else Pointer

abbrev pub area_alignment : List Shape → Alignment
area_alignment ts = fold greater_alignment (Bytes 1) (map stored_alignment ts)

-- the records of a call that pass by an area: that of its parameters, and its result
abbrev pub parameter_record : Shapes → List Shape
parameter_record ts = if are_indirect ts then fields ts ∷ [] else []

abbrev pub result_record : Option Shape → List Shape
result_record None = []
result_record (Some t) = if is_indirect (Some t) then t ∷ [] else []

-- A pointer has 2 ^ w bytes
module _ (w : ℕ) where
  abbrev pub area_request : List Shape → Request
  area_request ts = record { size = bytes_at (area_size ts) (2 ^ w); align = alignment_at (area_alignment ts) (2 ^ w) }

  -- one request where there are records, and none elsewhere
  abbrev pub area_for : List Shape → List Request
  area_for [] = []
  area_for (t ∷ ts) = area_request (t ∷ ts) ∷ []

  -- the area of an import is for its own records
  abbrev pub import_area : Shapes → Option Shape → List Request
  import_area ts r = area_for (parameter_record ts ++ result_record r)

  -- the area of an export is for the results of all functions of its module, and is asked for where its own result passes by it
  abbrev pub export_area : List (Option Shape) → Option Shape → List Request
  export_area results r = if is_indirect r then area_for (flat_map result_record results) else []

-- an area stands at the address that its request met, aligned, and has the size that is asked for
pub record StandsAt (request : Request) (met : Option Choice) (area : List Block) : Type 0 where
  pub block : Block
  pub is : area ≡ block ∷ []
  pub chosen : met ≡ Some (choice.At block.address)
  pub aligned : block.address % request.align ≡ 0
  pub exact : block.size ≡ request.size

-- where one is asked for, and none elsewhere
abbrev pub IsArea : List Request → Option Choice → List Block → Type 0
IsArea [] met area = area ≡ []
IsArea (request ∷ _) met area = StandsAt request met area
