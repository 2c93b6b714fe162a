-- What the definition of a type derives.
use Rattle.std.specs.Prelude.{Bool, not, ◌&&◌, List, [], ◌∷◌, codes, map, if◌then◌else◌}
use Rattle.rust_tree.specs.declared.path.Path.{Path}
use Rattle.type_facts.specs.declared.info.TypeInfo.{TypeInfo}
use Rattle.type_defs.specs.Paths.{local_path}
use Rattle.wit_model.specs.Bytes.{Bytes}

unfoldable pub clone_name : Bytes
clone_name = codes "Clone"

unfoldable pub copy_name : Bytes
copy_name = codes "Copy"

-- a type that reaches no list and no resource is copied
abbrev pub is_copied : TypeInfo → Bool
is_copied info = not info.has_list && not info.has_resource

abbrev pub copy_derive : TypeInfo → List Path
copy_derive info = if is_copied info then local_path copy_name ∷ [] else []

-- a type that reaches no resource is cloned
abbrev pub derives_of : TypeInfo → List Path
derives_of info = if info.has_resource then [] else local_path clone_name ∷ copy_derive info

unfoldable pub eq_name : Bytes
eq_name = codes "Eq"

unfoldable pub ord_name : Bytes
ord_name = codes "Ord"

unfoldable pub partial_eq_name : Bytes
partial_eq_name = codes "PartialEq"

unfoldable pub partial_ord_name : Bytes
partial_ord_name = codes "PartialOrd"

-- an enum is copied and compared, whatever its facts
abbrev pub enum_derives : List Path
enum_derives = map local_path (clone_name ∷ copy_name ∷ eq_name ∷ ord_name ∷ partial_eq_name ∷ partial_ord_name ∷ [])
