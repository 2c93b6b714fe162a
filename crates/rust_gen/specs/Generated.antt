-- What a call of `generate` that makes a file leaves: the tree of the world, and its text in the file of the world's name.
use Rattle.std.specs.Prelude.{◌≡◌, ◌≢◌, true, List, [], ◌++◌, Some, codes, slice_get, unwrap_or}
use Rattle.wit_model.specs.declared.name.WorldId.{WorldId}
use Rattle.wit_model.specs.declared.resolve.Resolve.{Resolve}
use Rattle.wit_model.specs.declared.world.World.{World}
use Rattle.wit_model.specs.Bytes.{Bytes}
use Rattle.gen_files.specs.Entries.{Entry, entry_of, with_pushed}
use Rattle.rust_tree.specs.Asked.{asked_in}
use Rattle.rust_tree.specs.Text.{text}
use Rattle.rust_tree.specs.Tree.{Tree}
use Rattle.rust_tree.specs.WellNamed.{are_well_named}
use Rattle.gen_accept.specs.declared.opts.Opts.{Opts}
use Rattle.type_sites.specs.Sites.{type_sites}
use Rattle.rust_gen.specs.Asking.{AskInOrder}
use Rattle.rust_gen.specs.Body.{ArePartsWritten, IsWritten}
use Rattle.rust_gen.specs.Bound.{Binds}
use Rattle.rust_gen.specs.Faithful.{AreFaithful}
use Rattle.rust_gen.specs.Served.{Serves, runtime_in}
use Rattle.rust_gen.specs.Wrapper.{Wraps, WrapsParts}

unfoldable pub rust_ending : Bytes
rust_ending = codes ".rs"

-- the world's name in snake case, and `.rs`
abbrev pub file_name : World → Bytes
file_name world = world.name.snake ++ rust_ending

-- the file of a name has gained bytes, and every other file is as it was
pub record Gains (old new : List Entry) (name bytes : Bytes) : Type 0 where
  pub exact : new ≡ with_pushed old name bytes
  pub gained : entry_of new name ≡ Some (unwrap_or (entry_of old name) [] ++ bytes)
  pub others : (other : Bytes) → other ≢ name → entry_of new other ≡ entry_of old other

-- the body of each wrapper is the driver's code for its function
abbrev pub AreWritten : Opts → Resolve → WorldId → World → Tree → Type 0
AreWritten opts r id world tree = Binds (IsWritten r.types (type_sites r world)) (ArePartsWritten r.types (type_sites r world)) opts r id world tree

-- the tree is that of a world: it holds the definitions of the world's own types, and a wrapper for each function. From outside that has the
-- signature and the core import or the method of its function, its body is the driver's code, and it carries each call of it. `_rt` holds
-- what the items ask for, in the order in which they ask; and each name is an identifier
pub record IsTreeOf (opts : Opts) (r : Resolve) (id : WorldId) (world : World) (tree : Tree) : Type 0 where
  pub bound : Binds (Wraps r.types) (WrapsParts r.types) opts r id world tree
  pub written : AreWritten opts r id world tree
  pub runtime : Serves (asked_in tree.items) (runtime_in tree.items)
  pub order : AskInOrder r.types (type_sites r world) world tree.items
  pub faithful : AreFaithful r.types world tree
  pub well_named : are_well_named tree.options tree.items ≡ true

-- the tree is that of the world of this id, and its text is in the file of the world's name
pub record Generates (opts : Opts) (resolve : Resolve) (id : WorldId) (old new : List Entry) (tree : Tree) : Type 0 where
  pub world : World
  pub named : slice_get resolve.worlds id.0 ≡ Some world
  pub tree_of : IsTreeOf opts resolve id world tree
  pub gains : Gains old new (file_name world) (text tree)
