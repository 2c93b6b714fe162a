-- Which path names an item of the module in which it is read, and which one the crate of flags types.
use Rattle.std.specs.Prelude.{false, List, [], ◌∷◌, codes}
use Rattle.wit_model.specs.Bytes.{Bytes}
use Rattle.rust_tree.specs.declared.path.Path.{Path}

abbrev pub local_path : Bytes → Path
local_path name = record { lead = false; supers = 0; names = name ∷ [] }

-- the runtime's crate
unfoldable pub runtime_crate : Bytes
runtime_crate = codes "wit_bindgen"

unfoldable pub bitflags_rest : List Bytes
bitflags_rest = codes "rt" ∷ codes "bitflags" ∷ []

-- the crate of flags types is the runtime's so far, since its option is at its default
abbrev pub bitflags_path : Path
bitflags_path = record { lead = false; supers = 0; names = runtime_crate ∷ bitflags_rest }
