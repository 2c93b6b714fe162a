-- When a function's post-return function frees what its words own, and when a function has none.
use Rattle.std.specs.Prelude.{◌≡◌, ℕ, true, MatchBool, List, [], ◌∷◌, ◌++◌, filter, map, None, Some}
use Rattle.std.specs.Str.{bytes_eq}
use Rattle.wit_model.specs.Bytes.{Bytes}
use Rattle.rust_tree.specs.declared.export.PostReturnFn.{PostReturnFn}
use Rattle.rust_tree.specs.declared.macros.EntryKind.TheVariants.{PostReturn}
use Rattle.rust_tree.specs.declared.macros.ExportEntry.{ExportEntry}
use Rattle.rust_tree.specs.Tree.{Tree}
use Rattle.wit_layout.specs.declared.signature.AbiVariant.TheVariants.{GuestExport}
use Rattle.wit_layout.specs.Signature.{core_results}
use Rattle.wrapper_data.specs.declared.block.Block.{Block}
use Rattle.wrapper_data.specs.declared.form.Form.{Form}
use Rattle.wrapper_data.specs.declared.heap.Heap.{Heap}
use Rattle.wrapper_data.specs.declared.run.Run.{Run}
use Rattle.wrapper_data.specs.declared.word.Word.{Word}
use Rattle.wrapper_data.specs.Heap.{is_heap}
use Rattle.wrapper_meaning.specs.Gives.{FreesWords}
use Rattle.wrapper_meaning.specs.Items.{SameItems}
use Rattle.wrapper_meaning.specs.Kinds.{result_has_list}
use Rattle.wrapper_meaning.specs.Represents.{GivesResult, result_words}
use Rattle.wrapper_meaning.specs.Settled.{IsResult}
use Rattle.wrapper_meaning.specs.Value.{Result}
use Rattle.wrapper_run.specs.Entries.{entries_named, post_returns_in}
use Rattle.wrapper_run.specs.PostReturn.{post_return_at, post_return_run}
use Rattle.wrapper_faithful.specs.Passed.{Passed, width}

-- what a wrapper returned: words that represent a value, as they were returned. Their blocks are live in a well-formed heap, and so is the
-- area in which the value stands
pub record IsReturnedIn (p : Passed) (words : List Word) (heap : Heap) (blocks : List Block) : Type 0 where
  pub value : Result p.result
  pub good : IsResult p.result value
  pub formed : is_heap heap ≡ true
  pub area : List Block
  pub others : List Block
  pub represents : GivesResult width p.result value words blocks area
  pub live : SameItems heap.blocks (blocks ++ area ++ others)

-- a run of the post-return function of the wrapper of this number, in one of the two forms
pub record RunOfPostReturn (p : Passed) (tree : Tree) (nth : ℕ) : Type 0 where
  pub words : List Word
  pub heap : Heap
  pub blocks : List Block
  pub given : IsReturnedIn p words heap blocks
  pub form : Form
  pub run : Run
  pub ran : post_return_run tree nth words heap form ≡ Some run

-- exactly one entry has the export name, and that is the entry of a post-return function: it takes the words of the function's core result,
-- gives none, and calls this function by its base name, which no other post-return function has
pub record IsEntered (name : Bytes) (tree : Tree) (p : Passed) (function : PostReturnFn) : Type 0 where
  pub entry : ExportEntry
  pub alone : entries_named name tree.items ≡ entry ∷ []
  pub returns : entry.kind ≡ PostReturn
  pub params : entry.params ≡ function.params
  pub pinned : map (λ x. x.ty) function.params ≡ core_results GuestExport (result_words p.result)
  pub answer : entry.result ≡ None
  pub named : filter (λ x. bytes_eq x.base entry.base) (post_returns_in tree.items) ≡ function ∷ []

-- the wrapper of this number has a post-return function, which is exported under the name; and in both forms, for all results, and words and
-- heaps that hold them as they were returned, its run frees the blocks of the words
pub record IsReturned (name : Bytes) (tree : Tree) (nth : ℕ) (p : Passed) : Type 0 where
  pub number : ℕ
  pub function : PostReturnFn
  pub there : post_return_at tree nth ≡ Some (number, function)
  pub entered : IsEntered name tree p function
  pub frees : (x : RunOfPostReturn p tree nth) → FreesWords x.blocks x.heap x.run

-- there is no post-return function and no entry of its export name; the words own no block
pub record IsUnreturned (name : Bytes) (tree : Tree) (nth : ℕ) (p : Passed) : Type 0 where
  pub missing : post_return_at tree nth ≡ None
  pub unnamed : entries_named name tree.items ≡ []
  pub owns : (v : Result p.result) (words : List Word) (blocks area : List Block) → IsResult p.result v → GivesResult width p.result v words blocks area → blocks ≡ []

-- a post-return function where the result may hold a text, a list or a map, and none elsewhere
abbrev pub Returns : Bytes → Tree → ℕ → Passed → Type 0
Returns name tree nth p = MatchBool (result_has_list p.result) (IsReturned name tree nth p) (IsUnreturned name tree nth p)
