-- That the wrappers of a tree are those of a world, and that each is faithful to its function.
use Rattle.std.specs.Prelude.{◌≡◌, ℕ, ◌+◌, false, List, length, Some, codes, map, slice_get}
use Rattle.wit_model.specs.declared.function.Function.{Function}
use Rattle.wit_model.specs.declared.types.TypeDef.{TypeDef}
use Rattle.wit_model.specs.declared.world.World.{World}
use Rattle.rust_tree.specs.Ident.{rust_ident}
use Rattle.rust_tree.specs.Tree.{Tree, wrappers_of}
use Rattle.wrapper_data.specs.declared.run.Target.{Target}
use Rattle.wrapper_data.specs.declared.run.Target.TheVariants as target
use Rattle.wrapper_run.specs.Entries.{ExportNames}
use Rattle.wrapper_meaning.specs.Shape.{result_shape}
use Rattle.wrapper_faithful.specs.Export.{IsExportFaithful}
use Rattle.wrapper_faithful.specs.Import.{IsFaithful}
use Rattle.wrapper_faithful.specs.Passed.{passed}
use Rattle.wrapper_faithful.specs.Resources.{Resources}
use Rattle.gen_accept.specs.Emitted.{emitted_sides, exported_functions, imported_functions}
use Rattle.rust_gen.specs.Exported.{post_return_name}

-- the core import of a function of the world
abbrev pub import_target : Function → Target
import_target f = target.Core (codes "$root") f.name.wit

-- the method of the implementation of the world's own functions
abbrev pub export_target : Function → Target
export_target f = target.Method (codes "Guest") (rust_ident f.name)

-- a function of the world is exported under its own name
abbrev pub export_names : Function → ExportNames
export_names f = record { method = export_target f; entry = f.name.wit; post_return = post_return_name f }

-- there is exactly one wrapper for each function that gets one, in the world's order, with its place and its side; and it is
-- faithful, whatever resources there are, since no function has a handle. The wrappers of the exports are numbered behind those of the
-- imports, and share their static area
pub record AreFaithful (types : List TypeDef) (world : World) (tree : Tree) : Type 0 where
  pub places : map (λ w. (w.place, w.import)) (wrappers_of tree) ≡ emitted_sides world
  pub imports : (resources : Resources) (nth : ℕ) (f : Function) → slice_get (imported_functions world) nth ≡ Some f → IsFaithful resources (import_target f) false tree nth (passed types f)
  pub exports : (resources : Resources) (nth : ℕ) (f : Function) → slice_get (exported_functions world) nth ≡ Some f
      → IsExportFaithful resources (export_names f) (map (result_shape types) (exported_functions world)) tree (length (imported_functions world) + nth) (passed types f)
