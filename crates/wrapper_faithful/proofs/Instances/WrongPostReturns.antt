-- What the clause `returned` refuses: a text without a post-return function; such a function or its entry where there is nothing to free;
-- entries that do not export it, or not alone; and one that frees nothing.
use Rattle.std.proofs.Common.{◌≡◌, ℕ, List, [], ◌∷◌, ◌++◌, length, map, Option, None, Some, codes, refl, ap, ◌∙◌, arith}
use Rattle.std.specs.Prelude.{filter}
use Rattle.std.specs.Str.{bytes_eq}
use Rattle.wit_model.specs.Bytes.{Bytes}
use Rattle.wit_model.specs.declared.wasm_type.WasmType.{WasmType}
use Rattle.wit_model.specs.declared.wasm_type.WasmType.TheVariants as core
use Rattle.rust_tree.specs.declared.export.CoreParam.{CoreParam}
use Rattle.rust_tree.specs.declared.export.PostReturnFn.{PostReturnFn}
use Rattle.rust_tree.specs.declared.item.Item.TheVariants as item
use Rattle.rust_tree.specs.declared.macros.EntryKind.{EntryKind}
use Rattle.rust_tree.specs.declared.macros.EntryKind.TheVariants.{PostReturn, Wrapper}
use Rattle.rust_tree.specs.declared.macros.ExportEntry.{ExportEntry}
use Rattle.rust_tree.specs.Tree.{Tree}
use Rattle.wrapper_data.specs.declared.form.Form.TheVariants as form
use Rattle.wrapper_data.specs.declared.heap.Heap.{Heap}
use Rattle.wrapper_data.specs.declared.run.Run.{Run}
use Rattle.wrapper_data.specs.declared.value.RustValue.TheVariants as value
use Rattle.wrapper_data.specs.declared.word.Word.TheVariants as word
use Rattle.wrapper_meaning.specs.Items.{total}
use Rattle.wrapper_meaning.specs.Shape.{Shape}
use Rattle.wrapper_meaning.proofs.Instances.Forms.{ascii, text_given}
use Rattle.wrapper_meaning.proofs.Instances.OkAnswer.{area_of, names_ok, ok}
use Rattle.wrapper_meaning.proofs.Lists.{first_or}
use Rattle.wrapper_values.specs.declared.state.State.{State}
use Rattle.wrapper_values.specs.declared.state.Val.TheVariants as val
use Rattle.wrapper_values.specs.Act.{Done}
use Rattle.wrapper_run.specs.Code.{code_of}
use Rattle.wrapper_run.specs.Entries.{ExportNames}
use Rattle.wrapper_run.specs.ExportRun.{core_answer, ended_export}
use Rattle.wrapper_run.specs.PostReturn.{post_return_setting, run_post_return_item, start_post_return}
use Rattle.wrapper_run.proofs.FreeSteps.{unit_words}
use Rattle.wrapper_run.proofs.StepLemmas.{gives_plain}
use Rattle.wrapper_faithful.specs.Export.{IsExportFaithful}
use Rattle.wrapper_faithful.specs.Resources.{Resources}
use Rattle.wrapper_faithful.specs.Returned.{IsEntered, IsReturned, IsReturnedIn, IsUnreturned, RunOfPostReturn}
use Rattle.wrapper_faithful.proofs.Instances.PlainExport as plain_export
use Rattle.wrapper_faithful.proofs.Instances.Refused.{texts}

-- the function takes the pointer of the area
abbrev pointer : List CoreParam
pointer = record { name = codes "arg0"; ty = core.Pointer } ∷ []

abbrev function : PostReturnFn
function = record { base = codes "f"; bound = codes "Guest"; params = pointer; body = code_of [] None }

abbrev entry_of : EntryKind → List CoreParam → Option WasmType → ExportEntry
entry_of kind params result = record { kind = kind; export_name = codes "cabi_post_f"; base = codes "f"; params = params; result = result }

abbrev entry : ExportEntry
entry = entry_of PostReturn pointer None

-- the wrapper and the method of `PlainExport`, with these post-return functions and entries
abbrev tree_with : List PostReturnFn → List ExportEntry → Tree
tree_with functions entries = record {
  options = [];
  items = item.Export plain_export.wrapper ∷ item.Trait plain_export.guest ∷ item.ModuleMacro (record { name = codes "w"; entries = plain_export.entry ∷ entries }) ∷ map (λ f. item.PostReturn f) functions;
  places = record { interface = None; nth = 0 } ∷ [];
}

-- the entry that there ought to be
entered : IsEntered (codes "cabi_post_f") (tree_with (function ∷ []) (entry ∷ [])) texts function
entered = record { entry = entry; alone = refl; returns = refl; params = refl; pinned = refl; answer = refl; named = refl }

-- 1. None where there is a text to free, and one or its entry where there is nothing (`there`, `missing`, `unnamed`)

refuses_no_post_return : (resources : Resources) (names : ExportNames) (results : List (Option Shape)) → IsExportFaithful resources names results plain_export.tree 0 texts → ⊥
refuses_no_post_return resources names results faithful =
    let there : None ≡ Some (faithful.returned.number, faithful.returned.function) = faithful.returned.there in
    absurd (cc)

refuses_a_post_return_of_nothing : (resources : Resources) (results : List (Option Shape)) → IsExportFaithful resources plain_export.names results (tree_with (function ∷ []) []) 0 plain_export.nothing → ⊥
refuses_a_post_return_of_nothing resources results faithful =
    let missing : Some (1, function) ≡ None = faithful.returned.missing in
    absurd (cc)

refuses_an_entry_of_nothing : (resources : Resources) (results : List (Option Shape)) → IsExportFaithful resources plain_export.names results (tree_with [] (entry ∷ [])) 0 plain_export.nothing → ⊥
refuses_an_entry_of_nothing resources results faithful =
    let unnamed : entry ∷ [] ≡ [] = faithful.returned.unnamed in
    omega (ap length unnamed, arith)

-- 2. Entries: none and two; a wrapper's; one that takes two words, or gives one; one of another function (`alone`, `returns`, `params`, `answer`,
-- `named`)

abbrev Entered : List PostReturnFn → List ExportEntry → Type 0
Entered functions entries = IsEntered (codes "cabi_post_f") (tree_with functions entries) texts function

refuses_no_entry : Entered (function ∷ []) [] → ⊥
refuses_no_entry wrong =
    let alone : [] ≡ wrong.entry ∷ [] = wrong.alone in
    omega (ap length alone, arith)

refuses_two_entries : Entered (function ∷ []) (entry ∷ entry ∷ []) → ⊥
refuses_two_entries wrong =
    let alone : entry ∷ entry ∷ [] ≡ wrong.entry ∷ [] = wrong.alone in
    omega (ap length alone, arith)

refuses_the_entry_of_a_wrapper : Entered (function ∷ []) (entry_of Wrapper pointer None ∷ []) → ⊥
refuses_the_entry_of_a_wrapper wrong =
    let alone : entry_of Wrapper pointer None ∷ [] ≡ wrong.entry ∷ [] = wrong.alone in
    let kinds : Wrapper ≡ PostReturn = ap (λ (x : ExportEntry). x.kind) (ap (first_or entry) alone) ∙ wrong.returns in
    absurd (cc)

abbrev two_words : List CoreParam
two_words = record { name = codes "arg0"; ty = core.Pointer } ∷ record { name = codes "arg1"; ty = core.Length } ∷ []

refuses_an_entry_that_takes_two_words : Entered (function ∷ []) (entry_of PostReturn two_words None ∷ []) → ⊥
refuses_an_entry_that_takes_two_words wrong =
    let alone : entry_of PostReturn two_words None ∷ [] ≡ wrong.entry ∷ [] = wrong.alone in
    let params : two_words ≡ pointer = ap (λ (x : ExportEntry). x.params) (ap (first_or entry) alone) ∙ wrong.params in
    omega (ap length params, arith)

refuses_an_entry_that_gives_a_word : Entered (function ∷ []) (entry_of PostReturn pointer (Some core.I32) ∷ []) → ⊥
refuses_an_entry_that_gives_a_word wrong =
    let alone : entry_of PostReturn pointer (Some core.I32) ∷ [] ≡ wrong.entry ∷ [] = wrong.alone in
    let answer : Some core.I32 ≡ None = ap (λ (x : ExportEntry). x.result) (ap (first_or entry) alone) ∙ wrong.answer in
    absurd (cc)

abbrev another : PostReturnFn
another = record function { base = codes "g" }

refuses_the_entry_of_another : Entered (another ∷ function ∷ []) (record entry { base = codes "g" } ∷ []) → ⊥
refuses_the_entry_of_another wrong =
    let alone : record entry { base = codes "g" } ∷ [] ≡ wrong.entry ∷ [] = wrong.alone in
    let named : another ∷ [] ≡ function ∷ [] = ap (λ (e : ExportEntry). filter (λ x. bytes_eq x.base e.base) (another ∷ function ∷ [])) (ap (first_or entry) alone) ∙ wrong.named in
    omega (ap (λ (fs : List PostReturnFn). first_or 0 (first_or function fs).base) named, arith)

-- 3. One that frees nothing, where the text `ok` was returned (`frees`)

abbrev returned_heap : Heap
returned_heap = record { blocks = area_of 8 names_ok ∷ ok ∷ [] }

-- the words as they were returned
as_returned : IsReturnedIn texts (word.Pointer 4096 ∷ []) returned_heap (ok ∷ [])
as_returned = record {
  value = codes "ok";
  good = (ascii (codes "ok") refl, refl);
  formed = refl;
  area = area_of 8 names_ok ∷ [];
  others = [];
  represents = record {
    block = area_of 8 names_ok;
    is_area = refl;
    named = refl;
    stands = record { aligned = refl; room = omega (arith); holds = record { address = 8192; pointer = (omega (arith), refl); counted = (omega (arith), refl); buffer = text_given ok 111 (107 ∷ []) refl (omega (arith)) refl } };
  };
  live = λ weight. omega (arith);
}

-- so they own a block, which is to be freed (`owns`)
refuses_a_text_unreturned : (name : Bytes) (tree : Tree) (nth : ℕ) → IsUnreturned name tree nth texts → ⊥
unfolding as_returned
refuses_a_text_unreturned name tree nth wrong =
    let none_owned : ok ∷ [] ≡ [] = wrong.owns (codes "ok") (word.Pointer 4096 ∷ []) (ok ∷ []) (area_of 8 names_ok ∷ []) as_returned.good as_returned.represents in
    omega (ap length none_owned, arith)

abbrev idle : Tree
idle = tree_with (function ∷ []) (entry ∷ [])

abbrev idle_run : RunOfPostReturn texts idle 0
idle_run = record {
  words = word.Pointer 4096 ∷ [];
  heap = returned_heap;
  blocks = ok ∷ [];
  given = as_returned;
  form = form.Release;
  run = run_post_return_item (post_return_setting idle 1 form.Release) function (word.Pointer 4096 ∷ []) returned_heap;
  ran = refl;
}

abbrev begun : State
begun = start_post_return function (word.Pointer 4096 ∷ []) returned_heap

frees_nothing : idle_run.run ≡ ended_export (Done [] (record begun { locals = [] }))
unfolding run_post_return_item
frees_nothing = ap ended_export (gives_plain (post_return_setting idle 1 form.Release) (core_answer None (val.Value value.Unit)) [] begun unit_words (refl, tt))

refuses_what_frees_nothing : IsReturned (codes "cabi_post_f") idle 0 texts → ⊥
refuses_what_frees_nothing wrong = omega ((wrong.frees idle_run).account (λ b. 1), ap (λ (r : Run). total (λ b. 1) (r.heap.blocks ++ ok ∷ [])) frees_nothing, arith)
