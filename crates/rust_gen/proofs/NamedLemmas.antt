-- The tree of a world whose names are declared well has only names that are identifiers.
use Rattle.std.proofs.Common.{◌≡◌, ℕ, suc, true, false, ◌&&◌, List, [], ◌∷◌, ◌++◌, map, refl, sym, ap, ◌∙◌}
use Rattle.std.specs.Prelude.{codes, Bool, Option, None, Some, if◌then◌else◌, slice_get}
use Rattle.std.specs.List.{AllZip, flat_map, list_all}
use Rattle.std.proofs.lemmas.Bool.{and_from, and_parts, cond_both}
use Rattle.std.proofs.lemmas.List.Elements.{Contains-append_left, Contains-append_right}
use Rattle.std.proofs.lemmas.List.Folds.{list_all-append, list_all-map}
use Rattle.wit_model.specs.Bytes.{Bytes}
use Rattle.wit_model.specs.WellFormed.{IsWellFormed}
use Rattle.wit_model.specs.declared.function.Function.{Function}
use Rattle.wit_model.specs.declared.name.WorldId.{WorldId}
use Rattle.wit_model.specs.declared.resolve.Resolve.{Resolve}
use Rattle.wit_model.specs.declared.world.World.{World}
use Rattle.wit_model.specs.declared.types.TypeDef.{TypeDef}
use Rattle.rust_tree.specs.declared.area.StaticArea.{StaticArea}
use Rattle.rust_tree.specs.declared.export.PostReturnFn.{PostReturnFn}
use Rattle.rust_tree.specs.declared.item.FnItem.{FnItem}
use Rattle.rust_tree.specs.declared.item.Item.{Item}
use Rattle.rust_tree.specs.declared.item.Item.TheVariants as item
use Rattle.rust_tree.specs.declared.runtime_item.RuntimeItem.{RuntimeItem}
use Rattle.rust_tree.specs.Ident.{is_ident, may_follow, rust_ident}
use Rattle.rust_tree.specs.WellNamed.{are_named_core_params, are_well_named, is_ident_part, is_line, is_named_entry, is_named_item, is_named_method, is_named_module_macro, is_named_param, is_named_root_macro, is_named_trait, is_named_type, is_option_line, is_quotable}
use Rattle.gen_accept.specs.Area.{needs_return}
use Rattle.gen_accept.specs.declared.opts.Opts.{Opts}
use Rattle.gen_accept.specs.TypeOpts.{type_opts}
use Rattle.func_gen.specs.declared.type_site.TypeSite.{TypeSite}
use Rattle.type_sites.specs.Sites.{type_sites}
use Rattle.type_sites.proofs.SitesNamed.{sites-are-named}
use Rattle.wrapper_closing.specs.Named.{AreNamedSites}
use Rattle.rust_gen.specs.Body.{ArePartsWritten, IsWritten, ReturnWritten}
use Rattle.rust_gen.specs.Bound.{AreItems, Parts, area_items, area_of, areas_of, export_items, file_area}
use Rattle.rust_gen.specs.Known.{IsKnown}
use Rattle.rust_gen.proofs.TreeLemmas.{own-first}
use Rattle.gen_accept.specs.DeclaredNames.{cabi_suffix, declares_well, export_ident, export_prefix, guest_name, is_empty, macro_idents, param_idents, where_exported}
use Rattle.type_defs.specs.Docs.{doc_lines}
use Rattle.gen_accept.specs.Emitted.{exported_functions, imported_functions}
use Rattle.wrapper_faithful.specs.Passed.{passed}
use Rattle.wrapper_closing.specs.Params.{export_args, param_types, result_types, return_args}
use Rattle.rust_gen.specs.Exported.{entries_of, export_entry, file_macro, guest_trait, last_macro, macro_name, post_return_name, return_entry, trait_and_macro, trait_fn, trait_param, where_any, where_returned, world_macro, world_prefix}
use Rattle.gen_accept.specs.NameText.{is_written_entry}
use Rattle.type_defs.specs.WitForm.{is_wit_form}
use Rattle.rust_gen.specs.OptionLines.{option_lines, unused_types_line}
use Rattle.type_defs.specs.PartType.{printed_result}
use Rattle.rust_gen.specs.Runtime.{runtime_module}
use Rattle.type_facts.specs.Roots as roots
use Rattle.type_defs.proofs.DefinedNameLemmas.{definitions-named}
use Rattle.type_defs.proofs.UsedNameLemmas.{functions-named}
use Rattle.gen_accept.proofs.DeclaredLemmas.{export_idents, macro_names, method_idents}
use Rattle.gen_accept.proofs.DeclaredLemmas as names
use Rattle.rust_gen.proofs.EntryLemmas.{wit-forms}
use Rattle.rust_gen.proofs.IdentLemmas.{args-named, guest_ident, part_of, return-quotable}
use Rattle.type_defs.proofs.NamedTextLemmas.{docs-named, wit-quotable}
use Rattle.rust_gen.proofs.SignatureLemmas.{AreNamedTypes, result-named, trait_params-named}
use Rattle.rust_gen.proofs.WrapperNames.{export-named, import-named, return-named}

-- what is known of functions

abbrev Idents : List Function → Type 0
Idents fs = list_all (λ f. is_ident (rust_ident f.name)) fs ≡ true

abbrev Bases : List Function → Type 0
Bases fs = list_all (λ f. is_ident_part f.name.snake) fs ≡ true

abbrev Params : List Function → Type 0
Params fs = list_all (λ f. list_all is_ident (param_idents f)) fs ≡ true

abbrev Quotables : List Function → Type 0
Quotables fs = list_all (λ f. is_quotable f.name.wit) fs ≡ true

bases : (fs : List Function) → list_all is_ident (map export_ident fs) ≡ true → Bases fs
bases [] h = refl
bases (f ∷ fs) h =
    let parts = and_parts (is_ident (export_ident f)) (list_all is_ident (map export_ident fs)) h in
    and_from (is_ident_part f.name.snake) (list_all (λ f. is_ident_part f.name.snake) fs) (part_of export_prefix f.name.snake cabi_suffix parts.0) (bases fs parts.1)

quotables : (fs : List Function) → list_all (λ f. is_wit_form f.name.wit) fs ≡ true → Quotables fs
quotables [] h = refl
quotables (f ∷ fs) h =
    let parts = and_parts (is_wit_form f.name.wit) (list_all (λ f. is_wit_form f.name.wit) fs) h in
    and_from (is_quotable f.name.wit) (list_all (λ f. is_quotable f.name.wit) fs) (wit-quotable f.name.wit parts.0) (quotables fs parts.1)

-- the trait

module _ (r : Resolve) (checked : IsWellFormed r) where
  -- each function's types
  abbrev Typed : List Function → Type 0
  Typed fs = (nth : ℕ) (f : Function) → slice_get fs nth ≡ Some f → AreNamedTypes r.types (roots.param_types f ++ roots.result_types f)

  method-named : (f : Function) → is_ident (rust_ident f.name) ≡ true → list_all is_ident (param_idents f) ≡ true → AreNamedTypes r.types (roots.param_types f ++ roots.result_types f) → is_named_method (trait_fn r.types f) ≡ true
  method-named f name ps named =
      let params : AreNamedTypes r.types (roots.param_types f) = λ ty c. named ty (Contains-append_left (roots.param_types f) (roots.result_types f) ty c) in
      let answer : AreNamedTypes r.types (roots.result_types f) = λ ty c. named ty (Contains-append_right (roots.param_types f) (roots.result_types f) ty c) in
      let printed : list_all is_named_param (map (trait_param r.types) f.params) ≡ true = trait_params-named r checked f.params (sym (list_all-map is_ident (λ p. rust_ident p.name) f.params) ∙ ps) params in
      and_from (list_all is_line (doc_lines f.docs) && is_ident (rust_ident f.name) && list_all is_named_param (map (trait_param r.types) f.params)) (is_named_type (printed_result r.types f.result))
      (and_from (list_all is_line (doc_lines f.docs) && is_ident (rust_ident f.name)) (list_all is_named_param (map (trait_param r.types) f.params))
      (and_from (list_all is_line (doc_lines f.docs)) (is_ident (rust_ident f.name)) (docs-named f.docs) name) printed) (result-named r checked f.result answer)

  methods-named : (fs : List Function) → Idents fs → Params fs → Typed fs → list_all is_named_method (map (trait_fn r.types) fs) ≡ true
  methods-named [] n p t = refl
  methods-named (f ∷ fs) n p t =
      let names = and_parts (is_ident (rust_ident f.name)) (list_all (λ f. is_ident (rust_ident f.name)) fs) n in
      let ps = and_parts (list_all is_ident (param_idents f)) (list_all (λ f. list_all is_ident (param_idents f)) fs) p in
      and_from (is_named_method (trait_fn r.types f)) (list_all is_named_method (map (trait_fn r.types) fs)) (method-named f names.0 ps.0 (t 0 f refl))
      (methods-named fs names.1 ps.1 (λ nth g e. t (suc nth) g e))

  trait-named : (fs : List Function) → Idents fs → Params fs → Typed fs → is_named_trait (guest_trait r.types fs) ≡ true
  trait-named fs n p t = and_from (is_ident guest_name) (list_all is_named_method (map (trait_fn r.types) fs)) guest_ident (methods-named fs n p t)

-- the macros

entries-named : (types : List TypeDef) (f : Function) → is_quotable f.name.wit ≡ true → is_ident_part f.name.snake ≡ true → list_all is_named_entry (entries_of types f) ≡ true
entries-named types f quoted base =
    and_from (is_named_entry (export_entry types f)) (list_all is_named_entry (where_returned types f (return_entry types f))) wrapper
    (cond_both (needs_return types f) (return_entry types f ∷ []) [] (λ es. list_all is_named_entry es ≡ true) (λ _. and_from (is_named_entry (return_entry types f)) true returns refl) (λ _. refl))
  where
    wrapper : is_named_entry (export_entry types f) ≡ true
    wrapper = and_from (is_quotable f.name.wit && is_ident_part f.name.snake) (are_named_core_params (export_args (passed types f))) (and_from (is_quotable f.name.wit) (is_ident_part f.name.snake) quoted base) (args-named 0 (param_types (passed types f)))

    returns : is_named_entry (return_entry types f) ≡ true
    returns =
        and_from (is_quotable (post_return_name f) && is_ident_part f.name.snake) (are_named_core_params (return_args (passed types f)))
        (and_from (is_quotable (post_return_name f)) (is_ident_part f.name.snake) (return-quotable f quoted) base) (args-named 0 (result_types (passed types f)))

all-entries-named : (types : List TypeDef) (fs : List Function) → Quotables fs → Bases fs → list_all is_named_entry (flat_map (entries_of types) fs) ≡ true
all-entries-named types [] q b = refl
all-entries-named types (f ∷ fs) q b =
    let quoted = and_parts (is_quotable f.name.wit) (list_all (λ f. is_quotable f.name.wit) fs) q in
    let based = and_parts (is_ident_part f.name.snake) (list_all (λ f. is_ident_part f.name.snake) fs) b in
    list_all-append is_named_entry (entries_of types f) (flat_map (entries_of types) fs)
    ∙ and_from (list_all is_named_entry (entries_of types f)) (list_all is_named_entry (flat_map (entries_of types) fs)) (entries-named types f quoted.0 based.0) (all-entries-named types fs quoted.1 based.1)

prefix-part : is_ident_part world_prefix ≡ true
unfolding world_prefix
prefix-part = refl

macro_name-part : (world : World) → is_ident_part world.name.snake ≡ true → is_ident_part (macro_name world) ≡ true
macro_name-part world h = list_all-append may_follow world_prefix world.name.snake ∙ and_from (is_ident_part world_prefix) (is_ident_part world.name.snake) prefix-part h

file_macro-named : (world : World) → is_ident_part world.name.snake ≡ true → is_named_root_macro (file_macro world) ≡ true
file_macro-named world h =
    and_from (is_ident_part world.name.snake) (is_ident_part (macro_name world) && true) h (and_from (is_ident_part (macro_name world)) true (macro_name-part world h) refl)

-- items that stand where there is an exported function, an area or a runtime item

any-named : (fs : List Function) (items : List Item) → (is_empty fs ≡ false → list_all is_named_item items ≡ true) → list_all is_named_item (where_any fs items) ≡ true
any-named [] items h = refl
any-named (f ∷ fs) items h = h refl

area-named : (o : Option StaticArea) → list_all is_named_item (area_items o) ≡ true
area-named None = refl
area-named (Some a) = refl

runtime-named : (asked : List RuntimeItem) → list_all is_named_item (runtime_module asked) ≡ true
runtime-named [] = refl
runtime-named (i ∷ asked) = refl

items-append : (xs ys : List Item) → list_all is_named_item xs ≡ true → list_all is_named_item ys ≡ true → list_all is_named_item (xs ++ ys) ≡ true
items-append xs ys h g = list_all-append is_named_item xs ys ∙ and_from (list_all is_named_item xs) (list_all is_named_item ys) h g

-- the wrappers

module _ (r : Resolve) (checked : IsWellFormed r) (sites : List (Option TypeSite)) (named : AreNamedSites sites) where
  imports-named : (fs : List Function) (ws : List FnItem) → Idents fs → Params fs → Quotables fs → Typed r checked fs → AllZip (IsWritten r.types sites) fs ws → list_all is_named_item (map item.Import ws) ≡ true
  imports-named [] [] n p q t z = refl
  imports-named [] (w ∷ ws) n p q t z = absurd z
  imports-named (f ∷ fs) [] n p q t z = absurd z
  imports-named (f ∷ fs) (w ∷ ws) n p q t z =
      let names = and_parts (is_ident (rust_ident f.name)) (list_all (λ f. is_ident (rust_ident f.name)) fs) n in
      let ps = and_parts (list_all is_ident (param_idents f)) (list_all (λ f. list_all is_ident (param_idents f)) fs) p in
      let quoted = and_parts (is_quotable f.name.wit) (list_all (λ f. is_quotable f.name.wit) fs) q in
      let params : AreNamedTypes r.types (roots.param_types f) = λ ty c. t 0 f refl ty (Contains-append_left (roots.param_types f) (roots.result_types f) ty c) in
      let answer : AreNamedTypes r.types (roots.result_types f) = λ ty c. t 0 f refl ty (Contains-append_right (roots.param_types f) (roots.result_types f) ty c) in
      and_from (is_named_item (item.Import w)) (list_all is_named_item (map item.Import ws)) (import-named r checked sites named f w z.0.runtime names.0 ps.0 quoted.0 params answer z.0.made)
      (imports-named fs ws names.1 ps.1 quoted.1 (λ nth g e. t (suc nth) g e) z.1)

  parts-named : (f : Function) (x : Parts) → is_ident (rust_ident f.name) ≡ true → is_ident_part f.name.snake ≡ true → ArePartsWritten r.types sites f x → list_all is_named_item (export_items x) ≡ true
  parts-named f (e, o, a) name base w = go (needs_return r.types f) o w.1
    where
      own : is_named_item (item.Export e) ≡ true
      own = export-named r checked sites named f e a w.0.runtime name base w.0.made

      go : (b : Bool) (o : Option PostReturnFn) → ReturnWritten r.types sites b f o → list_all is_named_item (export_items (e, o, a)) ≡ true
      go true o (q, is, written) =
          let alone : is_named_item (item.PostReturn q) ≡ true = return-named r checked sites named f q written.runtime base written.made in
          ap (λ o. list_all is_named_item (export_items (e, o, a))) is ∙ and_from (is_named_item (item.Export e)) (is_named_item (item.PostReturn q) && true) own (and_from (is_named_item (item.PostReturn q)) true alone refl)
      go false o is = ap (λ o. list_all is_named_item (export_items (e, o, a))) is ∙ and_from (is_named_item (item.Export e)) true own refl

  exports-named : (fs : List Function) (es : List Parts) → Idents fs → Bases fs → AllZip (ArePartsWritten r.types sites) fs es → list_all is_named_item (flat_map export_items es) ≡ true
  exports-named [] [] n b z = refl
  exports-named [] (x ∷ es) n b z = absurd z
  exports-named (f ∷ fs) [] n b z = absurd z
  exports-named (f ∷ fs) (x ∷ es) n b z =
      let names = and_parts (is_ident (rust_ident f.name)) (list_all (λ f. is_ident (rust_ident f.name)) fs) n in
      let based = and_parts (is_ident_part f.name.snake) (list_all (λ f. is_ident_part f.name.snake) fs) b in
      list_all-append is_named_item (export_items x) (flat_map export_items es)
      ∙ and_from (list_all is_named_item (export_items x)) (list_all is_named_item (flat_map export_items es)) (parts-named f x names.0 based.0 z.0) (exports-named fs es names.1 based.1 z.1)

-- the whole

-- what a world's declared names are known to be
record AreNamed (world : World) : Type 0 where
  imports : Idents (imported_functions world)
  import_params : Params (imported_functions world)
  exports : Idents (exported_functions world)
  exported : Bases (exported_functions world)
  export_params : Params (exported_functions world)
  macros : is_empty (exported_functions world) ≡ false → is_ident_part world.name.snake ≡ true

known : (opts : Opts) (r : Resolve) (world : World) → declares_well opts r world ≡ true → AreNamed world
unfolding macro_idents
known opts r world h = record {
  imports = names.import_idents opts r world h;
  import_params = names.import_params opts r world h;
  exports = method_idents opts r world h;
  exported = bases (exported_functions world) (export_idents opts r world h);
  export_params = names.export_params opts r world h;
  macros = snake (exported_functions world) (macro_names opts r world h);
}
  where
    snake : (exports : List Function) → list_all is_ident (where_exported exports (macro_idents world)) ≡ true → is_empty exports ≡ false → is_ident_part world.name.snake ≡ true
    snake [] h full = cc
    snake (f ∷ exports) h full = part_of (codes "__export_world_") world.name.snake (codes "_cabi") (and_parts (is_ident (codes "__export_world_" ++ world.name.snake ++ codes "_cabi")) _ h).0

items-named : (opts : Opts) (r : Resolve) (id : WorldId) (world : World) (items : List Item) → IsKnown opts r id world → AreItems (IsWritten r.types (type_sites r world)) (ArePartsWritten r.types (type_sites r world)) opts r id world items → list_all is_named_item items ≡ true
items-named opts r id world items w a =
    let k = known opts r world w.declared in
    let is : List Function = imported_functions world in
    let es : List Function = exported_functions world in
    let parts = and_parts (is_wit_form world.name.wit && list_all is_written_entry world.imports) (list_all is_written_entry world.exports) w.written in
    let imports : Quotables is = quotables is (wit-forms world.imports (and_parts (is_wit_form world.name.wit) (list_all is_written_entry world.imports) parts.0).1) in
    let exports : Quotables es = quotables es (wit-forms world.exports parts.1) in
    let lent : Typed r w.well is = λ nth f e ty c. functions-named (type_opts opts) r id world a.types w.types a.defined ty (w.imports_use nth f e ty c).used in
    let typed : Typed r w.well es = λ nth f e ty c. functions-named (type_opts opts) r id world a.types w.types a.defined ty (w.exports_use nth f e ty c).used in
    let sites : List (Option TypeSite) = type_sites r world in
    let named : AreNamedSites sites = sites-are-named (type_opts opts) r id world a.types w.types a.defined in
    let traits : list_all is_named_item (trait_and_macro r.types world) ≡ true = any-named es (item.Trait (guest_trait r.types es) ∷ item.ModuleMacro (world_macro r.types world) ∷ []) (λ full.
    and_from (is_named_trait (guest_trait r.types es)) (is_named_module_macro (world_macro r.types world) && true) (trait-named r w.well es k.exports k.export_params typed)
    (and_from (is_named_module_macro (world_macro r.types world)) true
    (and_from (is_ident_part (macro_name world)) (list_all is_named_entry (flat_map (entries_of r.types) es)) (macro_name-part world (k.macros full)) (all-entries-named r.types es exports k.exported)) refl)) in
    let last : list_all is_named_item (last_macro world) ≡ true = any-named es (item.RootMacro (file_macro world) ∷ []) (λ full. and_from (is_named_root_macro (file_macro world)) true (file_macro-named world (k.macros full)) refl) in
    let asked = a.runtime in
    let runtime : List Item = runtime_module asked in
    let area : List Item = area_of a.exports in
    let definitions : list_all is_named_item (map item.Type a.types) ≡ true = list_all-map is_named_item item.Type a.types ∙ definitions-named (type_opts opts) r id world a.types w.types a.defined in
    ap (list_all is_named_item) (a.are ∙ own-first r.types a.types a.wrappers a.exports world (runtime ++ last_macro world))
    ∙ items-append (map item.Type a.types) (map item.Import a.wrappers ++ (flat_map export_items a.exports ++ (trait_and_macro r.types world ++ (area ++ (runtime ++ last_macro world))))) definitions
    (items-append (map item.Import a.wrappers) (flat_map export_items a.exports ++ (trait_and_macro r.types world ++ (area ++ (runtime ++ last_macro world)))) (imports-named r w.well sites named is a.wrappers k.imports k.import_params imports lent a.wraps)
    (items-append (flat_map export_items a.exports) (trait_and_macro r.types world ++ (area ++ (runtime ++ last_macro world))) (exports-named r w.well sites named es a.exports k.exports k.exported a.exported)
    (items-append (trait_and_macro r.types world) (area ++ (runtime ++ last_macro world)) traits
    (items-append area (runtime ++ last_macro world) (area-named (file_area (areas_of a.exports))) (items-append runtime (last_macro world) (runtime-named asked) last)))))

line-named : list_all is_option_line (unused_types_line ∷ []) ≡ true
unfolding unused_types_line
line-named = refl

options-named : (opts : Opts) → list_all is_option_line (option_lines opts) ≡ true
options-named opts = go opts.generate_unused_types
  where
    go : (b : Bool) → list_all is_option_line (if b then unused_types_line ∷ [] else []) ≡ true
    go true = line-named
    go false = refl

pub tree-named : (opts : Opts) (r : Resolve) (id : WorldId) (world : World) (options : List Bytes) (items : List Item) → IsKnown opts r id world
    → options ≡ option_lines opts → AreItems (IsWritten r.types (type_sites r world)) (ArePartsWritten r.types (type_sites r world)) opts r id world items → are_well_named options items ≡ true
tree-named opts r id world options items w lines a =
    ap (λ o. are_well_named o items) lines
    ∙ and_from (list_all is_option_line (option_lines opts)) (list_all is_named_item items) (options-named opts) (items-named opts r id world items w a)
