-- What the clause `exported` refuses: entries of the module macro that do not export the wrapper of `PlainExport`, or not alone.
use Rattle.std.proofs.Common.{◌≡◌, ℕ, List, [], ◌∷◌, length, Option, None, Some, sym, ap, ◌∙◌, arith}
use Rattle.std.specs.Prelude.{codes, filter}
use Rattle.std.specs.Str.{bytes_eq}
use Rattle.wit_model.specs.declared.wasm_type.WasmType.{WasmType}
use Rattle.wit_model.specs.declared.wasm_type.WasmType.TheVariants as core
use Rattle.rust_tree.specs.declared.export.CoreParam.{CoreParam}
use Rattle.rust_tree.specs.declared.export.ExportFn.{ExportFn}
use Rattle.rust_tree.specs.declared.item.Item.TheVariants as item
use Rattle.rust_tree.specs.declared.macros.EntryKind.{EntryKind}
use Rattle.rust_tree.specs.declared.macros.EntryKind.TheVariants.{PostReturn, Wrapper}
use Rattle.rust_tree.specs.declared.macros.ExportEntry.{ExportEntry}
use Rattle.rust_tree.specs.Tree.{Tree}
use Rattle.wrapper_meaning.specs.Shape.{Shape}
use Rattle.wrapper_meaning.proofs.Lists.{first_or, some_or}
use Rattle.wrapper_faithful.specs.Export.{IsExportFaithful}
use Rattle.wrapper_faithful.specs.Resources.{Resources}
use Rattle.wrapper_faithful.proofs.Instances.PlainExport.{entry, guest, names, nothing, wrapper}

-- trees with these wrappers, exported by these entries
abbrev tree_with : ExportFn → ExportFn → List ExportEntry → Tree
tree_with first second entries = record {
  options = [];
  items = item.Export first ∷ item.Export second ∷ item.Trait guest ∷ item.ModuleMacro (record { name = codes "w"; entries = entries }) ∷ [];
  places = record { interface = None; nth = 0 } ∷ record { interface = None; nth = 1 } ∷ [];
}

-- a wrapper like the other, of another base name
abbrev other : ExportFn
other = record wrapper { base = codes "g" }

abbrev other_entry : ExportEntry
other_entry = record { kind = Wrapper; export_name = codes "g"; base = codes "g"; params = []; result = None }

-- that the first wrapper is faithful, with these entries
abbrev Exported : Resources → List (Option Shape) → List ExportEntry → Type 0
Exported resources results entries = IsExportFaithful resources names results (tree_with wrapper other entries) 0 nothing

-- the wrapper that is there, and the one entry
same_wrapper : (resources : Resources) (results : List (Option Shape)) (entries : List ExportEntry) (faithful : Exported resources results entries) → wrapper ≡ faithful.wrapper
same_wrapper resources results entries faithful = ap (λ (o : Option (ℕ × ExportFn)). (some_or (1, wrapper) o).1) faithful.there

-- 1. None of the name, and two (`alone`)

refuses_no_entry : (resources : Resources) (results : List (Option Shape)) → Exported resources results (other_entry ∷ []) → ⊥
refuses_no_entry resources results faithful =
    let alone : [] ≡ faithful.exported.entry ∷ [] = faithful.exported.alone in
    omega (ap length alone, arith)

refuses_two_entries : (resources : Resources) (results : List (Option Shape)) → Exported resources results (entry ∷ other_entry ∷ record other_entry { export_name = codes "f" } ∷ []) → ⊥
refuses_two_entries resources results faithful =
    let alone : entry ∷ record other_entry { export_name = codes "f" } ∷ [] ≡ faithful.exported.entry ∷ [] = faithful.exported.alone in
    omega (ap length alone, arith)

-- 2. One that is no wrapper's, takes a word, or gives one (`wraps`, `params`, `answer`)

abbrev of_kind : EntryKind → List CoreParam → Option WasmType → ExportEntry
of_kind kind params result = record { kind = kind; export_name = codes "f"; base = codes "f"; params = params; result = result }

is_entry : (resources : Resources) (results : List (Option Shape)) (e : ExportEntry) (faithful : Exported resources results (e ∷ [])) → e ∷ [] ≡ faithful.exported.entry ∷ [] → e ≡ faithful.exported.entry
is_entry resources results e faithful alone = ap (first_or e) alone

refuses_a_post_return : (resources : Resources) (results : List (Option Shape)) → Exported resources results (of_kind PostReturn [] None ∷ []) → ⊥
refuses_a_post_return resources results faithful =
    let is : of_kind PostReturn [] None ≡ faithful.exported.entry = is_entry resources results (of_kind PostReturn [] None) faithful faithful.exported.alone in
    let kinds : PostReturn ≡ Wrapper = ap (λ (x : ExportEntry). x.kind) is ∙ faithful.exported.wraps in
    absurd (cc)

abbrev one_word : List CoreParam
one_word = record { name = codes "arg0"; ty = core.I32 } ∷ []

refuses_an_entry_that_takes_a_word : (resources : Resources) (results : List (Option Shape)) → Exported resources results (of_kind Wrapper one_word None ∷ []) → ⊥
refuses_an_entry_that_takes_a_word resources results faithful =
    let is : of_kind Wrapper one_word None ≡ faithful.exported.entry = is_entry resources results (of_kind Wrapper one_word None) faithful faithful.exported.alone in
    let params : one_word ≡ [] = ap (λ (x : ExportEntry). x.params) is ∙ faithful.exported.params ∙ ap (λ (x : ExportFn). x.params) (sym (same_wrapper resources results (of_kind Wrapper one_word None ∷ []) faithful)) in
    omega (ap length params, arith)

refuses_an_entry_that_gives_a_word : (resources : Resources) (results : List (Option Shape)) → Exported resources results (of_kind Wrapper [] (Some core.I32) ∷ []) → ⊥
refuses_an_entry_that_gives_a_word resources results faithful =
    let is : of_kind Wrapper [] (Some core.I32) ≡ faithful.exported.entry = is_entry resources results (of_kind Wrapper [] (Some core.I32)) faithful faithful.exported.alone in
    let answer : Some core.I32 ≡ None = ap (λ (x : ExportEntry). x.result) is ∙ faithful.exported.answer ∙ ap (λ (x : ExportFn). x.result) (sym (same_wrapper resources results (of_kind Wrapper [] (Some core.I32) ∷ []) faithful)) in
    absurd (cc)

-- 3. Two that call one another's wrappers; and two wrappers of one base name (`named`)

abbrev crossed : List ExportEntry
crossed = record entry { base = codes "g" } ∷ record other_entry { base = codes "f" } ∷ []

refuses_crossed_entries : (resources : Resources) (results : List (Option Shape)) → Exported resources results crossed → ⊥
refuses_crossed_entries resources results faithful =
    let alone : record entry { base = codes "g" } ∷ [] ≡ faithful.exported.entry ∷ [] = faithful.exported.alone in
    let is : record entry { base = codes "g" } ≡ faithful.exported.entry = ap (first_or (record entry { base = codes "g" })) alone in
    let named : other ∷ [] ≡ faithful.wrapper ∷ [] = ap (λ (e : ExportEntry). filter (λ x. bytes_eq x.base e.base) (wrapper ∷ other ∷ [])) is ∙ faithful.exported.named in
    let both : other ≡ wrapper = ap (first_or other) named ∙ sym (same_wrapper resources results crossed faithful) in
    omega (ap (λ (x : ExportFn). first_or 0 x.base) both, arith)

refuses_one_base_name_twice : (resources : Resources) (results : List (Option Shape)) → IsExportFaithful resources names results (tree_with wrapper wrapper (entry ∷ [])) 0 nothing → ⊥
refuses_one_base_name_twice resources results faithful =
    let alone : entry ∷ [] ≡ faithful.exported.entry ∷ [] = faithful.exported.alone in
    let named : wrapper ∷ wrapper ∷ [] ≡ faithful.wrapper ∷ [] = ap (λ (e : ExportEntry). filter (λ x. bytes_eq x.base e.base) (wrapper ∷ wrapper ∷ [])) (ap (first_or entry) alone) ∙ faithful.exported.named in
    omega (ap length named, arith)
