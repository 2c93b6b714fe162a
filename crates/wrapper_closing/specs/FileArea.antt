-- Which static area a file has for the bodies of its exported functions.
use Rattle.std.specs.Prelude.{◌≡◌, true, List, [], ◌∷◌, Contains, Option, None, Some, option_to_list}
use Rattle.std.specs.List.{AllByRecursion, flat_map}
use Rattle.rust_tree.specs.Tree.{Tree}
use Rattle.rust_tree.specs.declared.area.StaticArea.{StaticArea}
use Rattle.wrapper_meaning.specs.Areas.{result_record}
use Rattle.wrapper_meaning.specs.Shape.{Shape}
use Rattle.wrapper_run.specs.Places.{area_in}
use Rattle.abi_bindgen.specs.declared.bindgen.Asked.{Asked}
use Rattle.abi_bindgen.specs.Area.{AreFor}
use Rattle.func_gen.specs.Body.{needed}
use Rattle.wrapper_closing.specs.Direct.{is_direct_result}

-- the bodies of functions of these results need these areas
abbrev pub NeedAreas : List (Option Shape) → List (Option Asked) → Type 0
NeedAreas [] [] = Unit {0}
NeedAreas (r ∷ results) (a ∷ areas) = AreFor (result_record r) (option_to_list a) × NeedAreas results areas
NeedAreas _ _ = ⊥

abbrev pub static_area : Option Asked → Option StaticArea
static_area None = None
static_area (Some a) = Some (record { size = a.size; align = a.align })

-- the file has the area for all of them, of which the function's own result is one
pub record HasAreaFor (results : List (Option Shape)) (areas : List (Option Asked)) (r : Option Shape) (tree : Tree) : Type 0 where
  pub need : NeedAreas results areas
  pub has : area_in tree.items ≡ static_area (needed (flat_map option_to_list areas))
  pub shares : Contains results r
  pub direct : AllByRecursion (λ r. is_direct_result r ≡ true) results
