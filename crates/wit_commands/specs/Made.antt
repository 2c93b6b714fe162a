-- What is made of the bytes of a document: the tree of the world that it asks for, or a refusal for its cause.
use Rattle.std.specs.Prelude.{◌≡◌, ℕ, List, [], ◌∷◌, Some, None, slice_get, ⊤}
use Rattle.gen_files.specs.Entries.{Entry}
use Rattle.wit_model.specs.declared.world.World.{World}
use Rattle.rust_tree.specs.Tree.{Tree}
use Rattle.gen_accept.specs.declared.error.GenError.{GenError}
use Rattle.gen_accept.specs.declared.error.GenError.TheVariants as error
use Rattle.gen_accept.specs.Cause.{cause}
use Rattle.rust_gen.specs.Generated.{IsTreeOf}
use Rattle.wit_refusal.specs.declared.refusal.Refusal.{Refusal}
use Rattle.wit_refusal.specs.declared.refusal.Refusal.TheVariants as refusal
use Rattle.wit_commands.specs.declared.input.Input.{Input}
use Rattle.wit_commands.specs.Input.{input_in}

-- the tree is that of the input's world
pub record IsBoundFor (input : Input) (tree : Tree) : Type 0 where
  pub world : World
  pub named : slice_get input.resolve.worlds input.world.0 ≡ Some world
  pub tree_of : IsTreeOf input.opts input.resolve input.world world tree

-- the bytes are a document, there is no cause of refusal, and the tree is that of its world
pub record Makes (bytes : List ℕ) (tree : Tree) : Type 0 where
  pub input : Input
  pub asked : input_in bytes ≡ Some input
  pub no_cause : cause input.opts input.resolve input.world ≡ None
  pub bound : IsBoundFor input tree

-- the cause of a refusal of the generator; its want of memory is free
abbrev pub IsGenCause : List ℕ → GenError → Type 0
IsGenCause bytes error.OutOfMemory = ⊤
IsGenCause bytes e = (input : Input) × (input_in bytes ≡ Some input) × (cause input.opts input.resolve input.world ≡ Some e)

-- the cause of a refusal that lies in the bytes
abbrev pub IsBytesCause : List ℕ → Refusal → Type 0
IsBytesCause bytes refusal.BadJson = input_in bytes ≡ None
IsBytesCause bytes (refusal.Gen e) = IsGenCause bytes e
IsBytesCause bytes refusal.OutOfMemory = ⊤
IsBytesCause bytes _ = ⊥

-- the bytes of the one file
abbrev pub only_bytes : List Entry → List ℕ
only_bytes (entry ∷ []) = entry.1
only_bytes _ = []
