-- The wrappers of a tree that is made as it is written are faithful.
use Rattle.std.proofs.Common.{◌≡◌, ℕ, zero, suc, ◌+◌, Bool, true, false, MatchBool, List, [], ◌∷◌, ◌++◌, length, ◌&&◌, Option, None, Some, cond, map, refl, sym, ap, ap₂, subst, ◌∙◌, arith, append-nil}
use Rattle.std.specs.Prelude.{IfSome, codes, filter, is_some, option_and_then, option_to_list, slice_get}
use Rattle.std.specs.Option.{option_map}
use Rattle.std.specs.List.{AllByRecursion, AllZip, flat_map, list_all}
use Rattle.std.specs.Str.{bytes_eq}
use Rattle.std.proofs.lemmas.Bool.{and_parts}
use Rattle.std.proofs.lemmas.Slice.Zip.{AllZip-long}
use Rattle.wit_model.proofs.AllLemmas.{all_at}
use Rattle.wit_model.specs.Distinct.{is_distinct}
use Rattle.wit_model.specs.declared.function.Function.{Function}
use Rattle.wit_model.specs.declared.name.WorldId.{WorldId}
use Rattle.wit_model.specs.declared.resolve.Resolve.{Resolve}
use Rattle.wit_model.specs.declared.types.TypeDef.{TypeDef}
use Rattle.wit_model.specs.declared.types.WitType.{WitType}
use Rattle.wit_model.specs.declared.world.World.{World}
use Rattle.rust_tree.specs.declared.area.StaticArea.{StaticArea}
use Rattle.rust_tree.specs.declared.export.ExportFn.{ExportFn}
use Rattle.rust_tree.specs.declared.export.PostReturnFn.{PostReturnFn}
use Rattle.rust_tree.specs.declared.item.FnItem.{FnItem}
use Rattle.rust_tree.specs.declared.item.Item.{Item}
use Rattle.rust_tree.specs.declared.item.Item.TheVariants as item
use Rattle.rust_tree.specs.declared.place.FuncPlace.{FuncPlace}
use Rattle.rust_tree.specs.declared.place.WrapperInfo.{WrapperInfo}
use Rattle.rust_tree.specs.declared.runtime_item.RuntimeItem.{RuntimeItem}
use Rattle.rust_tree.specs.declared.trait_item.TraitFn.{TraitFn}
use Rattle.rust_tree.specs.declared.type_expr.TypeExpr.TheVariants as type
use Rattle.rust_tree.specs.declared.type_item.TypeItem.{TypeItem}
use Rattle.rust_tree.specs.Asked.{asked_by_block, asked_by_export, asked_by_fn, asked_by_item, asked_in}
use Rattle.rust_tree.specs.Ident.{rust_ident}
use Rattle.rust_tree.specs.Runtime.{item_name}
use Rattle.rust_tree.specs.Tree.{Tree, wrapper_info, wrappers_from, wrappers_of}
use Rattle.type_defs.specs.ParamType.{param_type}
use Rattle.type_defs.specs.PartType.{part_type, printed_result}
use Rattle.type_defs.specs.WitForm.{is_wit_form}
use Rattle.gen_accept.specs.Area.{needs_return}
use Rattle.gen_accept.specs.Cause.{is_well_named}
use Rattle.gen_accept.specs.DeclaredNames.{are_distinct_functions, cabi_suffix, declares_well, export_prefix, guest_name, has_distinct_names}
use Rattle.gen_accept.specs.Emitted.{emitted_sides, exported_functions, imported_functions, on_side, places_from}
use Rattle.gen_accept.specs.NameText.{are_written_tables, is_written_entry, is_written_world}
use Rattle.gen_accept.specs.declared.opts.Opts.{Opts}
use Rattle.gen_accept.proofs.DeclaredLemmas.{distinct_exports, distinct_methods}
use Rattle.wrapper_data.specs.declared.run.Target.TheVariants as target
use Rattle.wrapper_meaning.specs.Shape.{Shape, param_shapes, result_shape}
use Rattle.wrapper_run.specs.Entries.{IsExported, entries_in, entries_named, exports_in, post_returns_in}
use Rattle.wrapper_run.specs.ExportRun.{export_at, export_nth, method_named}
use Rattle.wrapper_run.specs.Places.{area_in}
use Rattle.wrapper_run.specs.PostReturn.{post_return_at, post_return_named}
use Rattle.wrapper_run.specs.Run.{import_at, import_nth, numbered, runtime_item_named}
use Rattle.wrapper_faithful.specs.Export.{HasCoreSignature, IsExportFaithful}
use Rattle.wrapper_faithful.specs.Import.{IsFaithful}
use Rattle.wrapper_faithful.specs.Passed.{passed}
use Rattle.wrapper_faithful.specs.Resources.{Resources}
use Rattle.wrapper_faithful.specs.Returned.{IsReturned, IsUnreturned, Returns}
use Rattle.func_gen.specs.Meaning as bodies
use Rattle.func_gen.specs.Meaning.{GivesAsCalled, method}
use Rattle.func_gen.specs.TypeSites.{AreDefined}
use Rattle.func_gen.specs.Sites.{site_names}
use Rattle.wrapper_closing.specs.ClosedExport.{SharesArea, export_file}
use Rattle.wrapper_closing.specs.ClosedImport.{AnswersAs}
use Rattle.wrapper_closing.specs.Direct.{are_direct, is_direct_result}
use Rattle.wrapper_closing.specs.ExportBody.{ClosesExportBody}
use Rattle.wrapper_closing.specs.FileArea.{HasAreaFor, NeedAreas}
use Rattle.wrapper_closing.specs.ImportBody.{ClosesImportBody, import_called}
use Rattle.wrapper_closing.specs.Params.{arg_names, arg_types, export_args, local_sites, param_types, result_types, return_args}
use Rattle.wrapper_closing.specs.PostReturnBody.{ClosesPostReturnBody}
use Rattle.wrapper_closing.specs.PrintedAs.{ArePrintedLent, ArePrintedParams, IsPrintedResult}
use Rattle.wrapper_closing.proofs.Args.{result_alone, types_of_args}
use Rattle.wrapper_closing.proofs.BodyAreas.{needed_area_is_shared}
use Rattle.wrapper_closing.proofs.ExportBodyCloses.{export_body_is_faithful}
use Rattle.wrapper_closing.proofs.ImportBodyCloses.{import_body_is_faithful}
use Rattle.wrapper_closing.proofs.LocalSites.{named_so}
use Rattle.wrapper_closing.proofs.PostReturnBodyCloses.{post_return_body_is_returned}
use Rattle.wrapper_closing.proofs.PrintedAnswers.{printed_params_pass, printed_results_answer, printed_results_come_in}
use Rattle.wrapper_closing.proofs.ReturnedFrees.{unlisted_is_unreturned}
use Rattle.wrapper_closing.proofs.SharedArea.{shared_sized}
use Rattle.type_sites.specs.PrintedLaws.{AreSites}
use Rattle.type_sites.specs.Sites.{type_sites}
use Rattle.type_defs.specs.Used.{UsesTypes}
use Rattle.type_sites.proofs.SitesDefined.{sites-are-defined}
use Rattle.type_sites.proofs.WorldTypes.{lent-params-are-printed, params-are-direct, params-are-printed, results-are-direct, results-are-printed}
use Rattle.func_gen.specs.declared.type_site.TypeSite.{TypeSite}
use Rattle.gen_accept.specs.TypeOpts.{type_opts}
use Rattle.rust_gen.specs.Body.{ArePartsWritten, IsExportWritten, IsReturnWritten, IsWritten, ReturnWritten, import_site}
use Rattle.rust_gen.specs.Bound.{Binds, Parts, area_items, areas_of, export_items, file_area, own_items}
use Rattle.rust_gen.specs.Exported.{entries_of, export_entry, file_macro, guest_trait, last_macro, post_return_name, return_entry, trait_and_macro, trait_fn, trait_param, where_any, where_returned, world_macro}
use Rattle.rust_gen.specs.Known.{IsKnown}
use Rattle.rust_gen.specs.Faithful.{AreFaithful, export_names, import_target}
use Rattle.rust_gen.specs.Runtime.{runtime_module}
use Rattle.rust_gen.specs.Wrapper.{printed_param, root_module}
use Rattle.rust_gen.proofs.AskedItems.{export-asked, import-asked, return-asked}
use Rattle.rust_gen.proofs.AskedLemmas.{Found, found-asked, found-at, found-export, found-parts, found-return, found-wrapper, found_all}
use Rattle.rust_gen.proofs.EntryLemmas.{alone-return, alone-wrapper, wit-forms}
use Rattle.rust_gen.proofs.ItemLemmas.{alone-named, area-found, distinct-image, entries-are, find-named, method-found, runtime-found}
use Rattle.rust_gen.proofs.PartsLemmas.{exports-of_parts, no_exports-behind, no_returns-behind, post_return-alone, post_return_named-at}
use Rattle.rust_gen.proofs.SkipLemmas.{skip-area, skip-entries, skip-export, skip-exports, skip-import, skip-method, skip-post_return, skip-post_returns, skip-runtime_item, skip-wrappers}
use Rattle.rust_gen.proofs.TreeLemmas.{length-places_from, own-first}
use Rattle.rust_gen.proofs.WrapperLemmas.{area-for}
use Rattle.type_defs.proofs.UsedLemmas.{contained-at}

-- what holds of all holds of each
zip-at : {A B : Type 0} (R : A → B → Type 0) (xs : List A) (ys : List B) (nth : ℕ) (x : A) → AllZip R xs ys → slice_get xs nth ≡ Some x → (y : B) × (slice_get ys nth ≡ Some y) × R x y
zip-at R [] [] nth x z e = absurd (cc)
zip-at R [] (y ∷ ys) nth x z e = absurd z
zip-at R (a ∷ xs) [] nth x z e = absurd z
zip-at R (a ∷ xs) (y ∷ ys) zero x z e = let is : a ≡ x = cc in (y, refl, subst (λ a. R a y) is z.0)
zip-at R (a ∷ xs) (y ∷ ys) (suc nth) x z e = zip-at R xs ys nth x z.1 e

-- lists of images

get-map : {A B : Type 0} (g : A → B) (xs : List A) (nth : ℕ) (x : A) → slice_get xs nth ≡ Some x → slice_get (map g xs) nth ≡ Some (g x)
get-map g [] nth x e = absurd (cc)
get-map g (y ∷ xs) zero x e = let is : y ≡ x = cc in ap (λ y. Some (g y)) is
get-map g (y ∷ xs) (suc nth) x e = get-map g xs nth x e

map-map : {A B C : Type 0} (h : B → C) (g : A → B) (xs : List A) → map h (map g xs) ≡ map (λ x. h (g x)) xs
map-map h g [] = refl
map-map h g (x ∷ xs) = ap (λ ys. h (g x) ∷ ys) (map-map h g xs)

nonempty : {A : Type 0} (xs : List A) (nth : ℕ) (x : A) → slice_get xs nth ≡ Some x → (y : A) × (ys : List A) × (xs ≡ y ∷ ys)
nonempty [] nth x e = absurd (cc)
nonempty (y ∷ ys) nth x e = (y, ys, refl)

bases-are : (types : List TypeDef) (sites : List (Option TypeSite)) (fs : List Function) (es : List Parts) → AllZip (ArePartsWritten types sites) fs es → map (λ e. e.0.base) es ≡ map (λ f. f.name.snake) fs
bases-are types sites [] [] z = refl
bases-are types sites [] (e ∷ es) z = absurd z
bases-are types sites (f ∷ fs) [] z = absurd z
bases-are types sites (f ∷ fs) (e ∷ es) z = ap (λ b. b ∷ map (λ e. e.0.base) es) z.0.0.made.outside.base ∙ ap (λ bs. f.name.snake ∷ bs) (bases-are types sites fs es z.1)

-- the functions of a world that is accepted

-- the wrapper of a base name
abbrev wrapper_ident : List ℕ → List ℕ
wrapper_ident base = export_prefix ++ base ++ cabi_suffix

module _ (opts : Opts) (r : Resolve) (world : World) (h : declares_well opts r world ≡ true) where
  distinct-methods : is_distinct (map (λ f. rust_ident f.name) (exported_functions world)) ≡ true
  distinct-methods = distinct_methods opts r world h

  distinct-bases : is_distinct (map (λ f. f.name.snake) (exported_functions world)) ≡ true
  distinct-bases =
      distinct-image wrapper_ident (map (λ f. f.name.snake) (exported_functions world))
      (ap is_distinct (map-map wrapper_ident (λ f. f.name.snake) (exported_functions world)) ∙ distinct_exports opts r world h)

-- the wrappers of a tree

import_nth-at : (ws : List FnItem) (behind : List Item) (nth : ℕ) (w : FnItem) → slice_get ws nth ≡ Some w → import_nth nth (map item.Import ws ++ behind) ≡ Some w
import_nth-at [] behind nth w e = absurd (cc)
import_nth-at (f ∷ ws) behind zero w e = e
import_nth-at (f ∷ ws) behind (suc nth) w e = import_nth-at ws behind nth w e

export_nth-skip : (ws : List FnItem) (behind : List Item) (nth : ℕ) → export_nth (length ws + nth) (map item.Import ws ++ behind) ≡ export_nth nth behind
export_nth-skip [] behind nth = let e : 0 + nth ≡ nth = omega arith in ap (λ n. export_nth n behind) e
export_nth-skip (f ∷ ws) behind nth =
    let e : length (f ∷ ws) + nth ≡ suc (length ws + nth) = omega arith in ap (λ n. export_nth n (map item.Import (f ∷ ws) ++ behind)) e ∙ export_nth-skip ws behind nth

past_return : (nth : ℕ) (p : PostReturnFn) (items : List Item) → export_nth nth (item.PostReturn p ∷ items) ≡ export_nth nth items
past_return zero p items = refl
past_return (suc nth) p items = refl

export_nth-at : (es : List Parts) (behind : List Item) (nth : ℕ) (x : Parts) → slice_get es nth ≡ Some x → export_nth nth (flat_map export_items es ++ behind) ≡ Some x.0
export_nth-at [] behind nth x e = absurd (cc)
export_nth-at ((f, None, a) ∷ es) behind zero x e = ap (option_map (λ x. x.0)) e
export_nth-at ((f, Some p, a) ∷ es) behind zero x e = ap (option_map (λ x. x.0)) e
export_nth-at ((f, None, a) ∷ es) behind (suc nth) x e = export_nth-at es behind nth x e
export_nth-at ((f, Some p, a) ∷ es) behind (suc nth) x e = past_return nth p (flat_map export_items es ++ behind) ∙ export_nth-at es behind nth x e

imports-at : (next : ℕ) (ws : List FnItem) (behind : List Item) (ps qs : List FuncPlace) (nth : ℕ) (w : FnItem) → length ps ≡ length ws → slice_get ws nth ≡ Some w
    → (info : WrapperInfo) × (slice_get (wrappers_from next (map item.Import ws ++ behind) (ps ++ qs)) nth ≡ Some info)
imports-at next [] behind ps qs nth w l e = absurd (cc)
imports-at next (f ∷ ws) behind [] qs nth w l e = absurd (omega arith)
imports-at next (f ∷ ws) behind (p ∷ ps) qs zero w l e = (wrapper_info next p true, refl)
imports-at next (f ∷ ws) behind (p ∷ ps) qs (suc nth) w l e = imports-at (next + 1) ws behind ps qs nth w (omega arith) e

exports-at : (next : ℕ) (es : List Parts) (behind : List Item) (qs : List FuncPlace) (nth : ℕ) (x : Parts) → length qs ≡ length es → slice_get es nth ≡ Some x
    → (info : WrapperInfo) × (slice_get (wrappers_from next (flat_map export_items es ++ behind) qs) nth ≡ Some info)
exports-at next [] behind qs nth x l e = absurd (cc)
exports-at next (f ∷ es) behind [] nth x l e = absurd (omega arith)
exports-at next ((f, None, a) ∷ es) behind (q ∷ qs) zero x l e = (wrapper_info next q false, refl)
exports-at next ((f, Some p, a) ∷ es) behind (q ∷ qs) zero x l e = (wrapper_info next q false, refl)
exports-at next ((f, None, a) ∷ es) behind (q ∷ qs) (suc nth) x l e = exports-at (next + 1) es behind qs nth x (omega arith) e
exports-at next ((f, Some p, a) ∷ es) behind (q ∷ qs) (suc nth) x l e = exports-at (next + 1 + 1) es behind qs nth x (omega arith) e

wrappers-skip : (next : ℕ) (ws : List FnItem) (behind : List Item) (ps qs : List FuncPlace) (nth : ℕ) → length ps ≡ length ws
    → (m : ℕ) × (slice_get (wrappers_from next (map item.Import ws ++ behind) (ps ++ qs)) (length ws + nth) ≡ slice_get (wrappers_from m behind qs) nth)
wrappers-skip next [] behind [] qs nth l = let e : 0 + nth ≡ nth = omega arith in (next, ap (slice_get (wrappers_from next behind qs)) e)
wrappers-skip next [] behind (p ∷ ps) qs nth l = absurd (omega arith)
wrappers-skip next (f ∷ ws) behind [] qs nth l = absurd (omega arith)
wrappers-skip next (f ∷ ws) behind (p ∷ ps) qs nth l =
    let e : length (f ∷ ws) + nth ≡ suc (length ws + nth) = omega arith in
    let s = wrappers-skip (next + 1) ws behind ps qs nth (omega arith) in
    (s.0, ap (slice_get (wrappers_from next (map item.Import (f ∷ ws) ++ behind) ((p ∷ ps) ++ qs))) e ∙ s.1)

-- their places and sides

abbrev side_of : WrapperInfo → FuncPlace × Bool
side_of w = (w.place, w.import)

sides-imports : (next : ℕ) (ws : List FnItem) (behind : List Item) (ps qs : List FuncPlace) → length ps ≡ length ws
    → (m : ℕ) × (map side_of (wrappers_from next (map item.Import ws ++ behind) (ps ++ qs)) ≡ on_side true ps ++ map side_of (wrappers_from m behind qs))
sides-imports next [] behind [] qs l = (next, refl)
sides-imports next [] behind (p ∷ ps) qs l = absurd (omega arith)
sides-imports next (f ∷ ws) behind [] qs l = absurd (omega arith)
sides-imports next (f ∷ ws) behind (p ∷ ps) qs l = let r = sides-imports (next + 1) ws behind ps qs (omega arith) in (r.0, ap (λ ss. (p, true) ∷ ss) r.1)

sides-exports : (next : ℕ) (es : List Parts) (behind : List Item) (qs : List FuncPlace) → length qs ≡ length es
    → (m : ℕ) × (map side_of (wrappers_from next (flat_map export_items es ++ behind) qs) ≡ on_side false qs ++ map side_of (wrappers_from m behind []))
sides-exports next [] behind [] l = (next, refl)
sides-exports next [] behind (q ∷ qs) l = absurd (omega arith)
sides-exports next (f ∷ es) behind [] l = absurd (omega arith)
sides-exports next ((f, None, a) ∷ es) behind (q ∷ qs) l = let r = sides-exports (next + 1) es behind qs (omega arith) in (r.0, ap (λ ss. (q, false) ∷ ss) r.1)
sides-exports next ((f, Some p, a) ∷ es) behind (q ∷ qs) l = let r = sides-exports (next + 1 + 1) es behind qs (omega arith) in (r.0, ap (λ ss. (q, false) ∷ ss) r.1)

-- without places there are no wrappers
no_places : (m : ℕ) (items : List Item) → wrappers_from m items [] ≡ []
no_places m [] = refl
no_places m (item.Import f ∷ items) = refl
no_places m (item.Export e ∷ items) = refl
no_places m (item.Trait t ∷ items) = no_places (m + 1) items
no_places m (item.ModuleMacro x ∷ items) = no_places (m + 1) items
no_places m (item.Runtime parts ∷ items) = no_places (m + suc (length parts)) items
no_places m (item.RootMacro r ∷ items) = no_places (m + 1) items
no_places m (item.PostReturn p ∷ items) = no_places (m + 1) items
no_places m (item.Area a ∷ items) = no_places (m + 1) items
no_places m (item.Type t ∷ items) = no_places (m + 1) items

module _ (opts : Opts) (resolve : Resolve) (id : WorldId) (world : World) (known : IsKnown opts resolve id world) (well : is_well_named opts resolve world ≡ true) (tree : Tree)
    (b : Binds (IsWritten resolve.types (type_sites resolve world)) (ArePartsWritten resolve.types (type_sites resolve world)) opts resolve id world tree) where
  found : slice_get resolve.worlds id.0 ≡ Some world
  found = known.types.found

  named : declares_well opts resolve world ≡ true
  named = known.declared

  distinct : has_distinct_names world ≡ true
  unfolding is_well_named
  distinct = all_at has_distinct_names resolve.worlds id.0 world (and_parts _ (list_all has_distinct_names resolve.worlds) (and_parts (are_written_tables resolve && list_all has_distinct_names resolve.worlds) (declares_well opts resolve world) well).0).1 found

  abbrev types : List TypeDef
  types = resolve.types

  abbrev sites : List (Option TypeSite)
  sites = type_sites resolve world

  abbrev ws : List FnItem
  ws = b.items.wrappers

  forms : list_all (λ f. is_wit_form f.name.wit) (exported_functions world) ≡ true
  unfolding is_well_named are_written_tables
  forms =
      let written = (and_parts (are_written_tables resolve) (list_all has_distinct_names resolve.worlds) (and_parts (are_written_tables resolve && list_all has_distinct_names resolve.worlds) (declares_well opts resolve world) well).0).0 in
      let worlds = (and_parts _ (list_all is_written_world resolve.worlds) written).1 in
      wit-forms world.exports (and_parts _ (list_all is_written_entry world.exports) (all_at is_written_world resolve.worlds id.0 world worlds found)).1

  abbrev es : List Parts
  es = b.items.exports

  abbrev fs : List Function
  fs = exported_functions world

  abbrev ps : List FuncPlace
  ps = places_from 0 world.imports

  abbrev qs : List FuncPlace
  qs = places_from 0 world.exports

  as_many : length ps ≡ length ws
  as_many = length-places_from 0 world.imports ∙ sym (AllZip-long (IsWritten types sites) (imported_functions world) ws b.items.wraps)

  as_many_exports : length qs ≡ length es
  as_many_exports = length-places_from 0 world.exports ∙ sym (AllZip-long (ArePartsWritten types sites) fs es b.items.exported)

  abbrev ts : List TypeItem
  ts = b.items.types

  -- what may ask for items of `_rt`
  abbrev own : List Item
  own = own_items types ts ws es world

  abbrev asked : List RuntimeItem
  asked = b.items.runtime

  abbrev area : Option StaticArea
  area = file_area (areas_of es)

  abbrev behind : List Item
  behind = trait_and_macro types world ++ (area_items area ++ (runtime_module asked ++ last_macro world))

  -- what stands behind the definitions of types
  abbrev others : List Item
  others = map item.Import ws ++ (flat_map export_items es ++ behind)

  are : tree.items ≡ map item.Type ts ++ others
  are = b.items.are ∙ own-first types ts ws es world (runtime_module asked ++ last_macro world)

  -- 1. Its types

  are-sites : AreSites (type_opts opts) resolve id world ts
  are-sites = record { definable = known.types; names = known.names; are = b.items.defined }

  result-printed : (f : Function) → UsesTypes resolve world f → IsPrintedResult tree.items (result_shape types f) (printed_result types f.result)
  result-printed f uses = subst (λ is. IsPrintedResult is (result_shape types f) (printed_result types f.result)) (sym are) (results-are-printed (type_opts opts) resolve id world ts others are-sites f uses)

  params-printed : (f : Function) → UsesTypes resolve world f → ArePrintedParams tree.items (param_shapes types f) (map (trait_param types) f.params)
  params-printed f uses =
      subst (λ is. ArePrintedParams is (param_shapes types f) (map (trait_param types) f.params)) (sym are)
      (params-are-printed (type_opts opts) resolve id world ts others are-sites f uses (map (trait_param types) f.params)
      (map-map (λ p. p.ty) (trait_param types) f.params ∙ sym (map-map (part_type types) (λ p. p.ty) f.params)))

  lent-printed : (f : Function) → UsesTypes resolve world f → ArePrintedLent tree.items (param_shapes types f) (map (printed_param types) f.params)
  lent-printed f uses =
      subst (λ is. ArePrintedLent is (param_shapes types f) (map (printed_param types) f.params)) (sym are)
      (lent-params-are-printed (type_opts opts) resolve id world ts others are-sites f uses (map (printed_param types) f.params)
      (map-map (λ p. p.ty) (printed_param types) f.params ∙ sym (map-map (param_type types) (λ p. p.ty) f.params)))

  params-direct : (f : Function) → UsesTypes resolve world f → are_direct (param_shapes types f) ≡ true
  params-direct f uses = params-are-direct (type_opts opts) resolve id world known.types f uses

  result-direct : (f : Function) → UsesTypes resolve world f → is_direct_result (result_shape types f) ≡ true
  result-direct f uses = results-are-direct (type_opts opts) resolve id world known.types f uses

  sites-defined : (given : List (Option TypeSite)) → given ≡ sites → AreDefined tree.items given
  sites-defined given is = subst (AreDefined tree.items) (sym is) (subst (λ items. AreDefined items sites) (sym are) (sites-are-defined (type_opts opts) resolve id world ts others known.types b.items.defined))

  -- 2. What its items ask for is found

  asks : Found tree.items (asked_in own)
  asks x h =
      ap (λ is. runtime_item_named is (item_name x)) are ∙ skip-runtime_item ts others (item_name x)
      ∙ runtime-found ws es fs area (guest_trait types fs) (world_macro types world) asked (last_macro world) (item_name x) x (found_all (asked_in own) asked b.items.serves x h)

  asks-wrappers : Found tree.items (asked_in (map item.Import ws)) × Found tree.items (asked_in (flat_map export_items es))
  asks-wrappers =
      let last : List Item = trait_and_macro types world ++ area_items area in
      let exports : List Item = flat_map export_items es ++ last in
      let wrappers = found-parts tree.items asked_by_item (map item.Import ws) exports (map item.Import ws ++ exports) refl
      (found-parts tree.items asked_by_item (map item.Type ts) (map item.Import ws ++ exports) own refl asks).1 in
      (wrappers.0, (found-parts tree.items asked_by_item (flat_map export_items es) last exports refl wrappers.1).0)

  -- the number of the first item behind these
  start : (m : ℕ) × (wrappers_from 1 (map item.Type ts ++ others) (ps ++ qs) ≡ wrappers_from m others (ps ++ qs))
  start = skip-wrappers ts others (ps ++ qs) 1

  wrappers_are : wrappers_of tree ≡ wrappers_from start.0 others (ps ++ qs)
  wrappers_are = ap (λ is. wrappers_from 1 is tree.places) are ∙ ap (wrappers_from 1 (map item.Type ts ++ others)) b.places ∙ start.1

  placed : map side_of (wrappers_of tree) ≡ emitted_sides world
  placed =
      let i = sides-imports start.0 ws (flat_map export_items es ++ behind) ps qs as_many in
      let e = sides-exports i.0 es behind qs as_many_exports in
      ap (map side_of) wrappers_are ∙ i.1 ∙ ap (λ ss. on_side true ps ++ ss) (e.1 ∙ ap (λ is. on_side false qs ++ map side_of is)
      (no_places e.0 behind) ∙ append-nil (on_side false qs))

  module _ (nth : ℕ) (f : Function) (e : slice_get (imported_functions world) nth ≡ Some f) where
    wrapper : (w : FnItem) × (slice_get ws nth ≡ Some w) × IsWritten types sites f w
    wrapper = zip-at (IsWritten types sites) (imported_functions world) ws nth f b.items.wraps e

    info : (info : WrapperInfo) × (slice_get (wrappers_of tree) nth ≡ Some info)
    info =
        let i = imports-at start.0 ws (flat_map export_items es ++ behind) ps qs nth wrapper.0 as_many wrapper.1 in
        (i.0, ap (λ is. slice_get is nth) wrappers_are ∙ i.1)

    there : import_at tree nth ≡ Some (info.0.item.0, wrapper.0)
    there =
        ap (option_and_then (numbered tree nth)) (ap (import_nth nth) are ∙ skip-import ts others nth ∙ import_nth-at ws (flat_map export_items es ++ behind) nth wrapper.0 wrapper.1)
        ∙ ap (option_map (λ w. (w.item.0, wrapper.0))) info.1

    asks-import : Found tree.items (asked_by_item (item.Import wrapper.0))
    asks-import = found-at tree.items asked_by_item (map item.Import ws) nth (item.Import wrapper.0) (get-map item.Import ws nth wrapper.0 wrapper.1) asks-wrappers.0

    -- its item closes the body that was made for it
    closes-import : ClosesImportBody types wrapper.2.made.func wrapper.2.made.code.parts wrapper.2.made.code.body tree nth
    closes-import =
        let w = wrapper.2.made in
        let code = w.code in
        let uses = subst (UsesTypes resolve world) (sym w.of) (known.imports_use nth f e) in
        record {
          parted = code.made_of.are;
          makes = code.makes;
          number = info.0.item.0;
          item = wrapper.0;
          there = there;
          names =
              ap (map (λ p. p.name)) w.outside.params ∙ map-map (λ p. p.name) (printed_param types) f.params ∙ sym (map-map (λ p. p.name) import_site f.params)
              ∙ ap (λ g. map (λ p. p.name) (map import_site g.params)) (sym w.of) ∙ ap (map (λ p. p.name)) (sym code.made_of.params);
          block = code.is;
          runtime = subst (bodies.Found tree.items) code.asks (found-asked tree.items (asked_by_fn wrapper.0) wrapper.2.runtime (import-asked types sites f wrapper.0 wrapper.2.runtime wrapper.2.made) asks-import);
          sites = sites-defined code.parts.tables.now.sites code.made_of.written;
          answers =
              subst (λ ty. AnswersAs tree.items ty (result_shape types w.func.now)) (ap (λ g. printed_result types g.result) w.of ∙ sym w.outside.answer)
              (printed_results_answer tree.items (result_shape types w.func.now) (printed_result types w.func.now.result) (result-printed w.func.now uses));
          printed = subst (ArePrintedLent tree.items (param_shapes types w.func.now)) (ap (λ (g : Function). map (printed_param types) g.params) w.of ∙ sym w.outside.params) (lent-printed w.func.now uses);
          params = params-direct w.func.now uses;
          result = result-direct w.func.now uses;
        }

    called-import : import_called wrapper.2.made.code.parts wrapper.2.made.func.now ≡ import_target f
    unfolding root_module
    called-import = ap₂ (λ home (g : Function). target.Core home g.name.wit) wrapper.2.made.code.made_of.home wrapper.2.made.of

  faithful-at : (resources : Resources) (nth : ℕ) (f : Function) → slice_get (imported_functions world) nth ≡ Some f → IsFaithful resources (import_target f) false tree nth (passed types f)
  faithful-at resources nth f e =
      let w = (wrapper nth f e).2.made in
      subst (λ t. IsFaithful resources t false tree nth (passed types f)) (called-import nth f e)
      (subst (λ g. IsFaithful resources (import_called w.code.parts w.func.now) false tree nth (passed types g)) w.of (import_body_is_faithful types resources tree nth w.func w.code.parts w.code.body (closes-import nth f e)))

  -- the results of exported functions, and the static area

  abbrev results : List (Option Shape)
  results = map (result_shape types) fs

  all-direct : AllByRecursion (λ r. is_direct_result r ≡ true) results
  all-direct = each fs (λ nth f e. result-direct f (known.exports_use nth f e))
    where
      each : (fs : List Function) → ((nth : ℕ) (f : Function) → slice_get fs nth ≡ Some f → is_direct_result (result_shape types f) ≡ true) → AllByRecursion (λ r. is_direct_result r ≡ true) (map (result_shape types) fs)
      each [] h = tt
      each (f ∷ fs) h = (h 0 f refl, each fs (λ nth g e. h (suc nth) g e))

  needs-all : (fs : List Function) (es : List Parts) → AllZip (ArePartsWritten types sites) fs es → NeedAreas (map (result_shape types) fs) (areas_of es)
  needs-all [] [] z = tt
  needs-all [] (x ∷ es) z = absurd z
  needs-all (f ∷ fs) [] z = absurd z
  needs-all (f ∷ fs) (x ∷ es) z = (area-for types sites f x.0 x.2 z.0.0, needs-all fs es z.1)

  area_is : area_in tree.items ≡ area
  area_is = ap area_in are ∙ skip-area ts others ∙ area-found ws es fs fs area (guest_trait types fs) (world_macro types world) asked (file_macro world)

  module _ (nth : ℕ) (f : Function) (e : slice_get fs nth ≡ Some f) where
    abbrev place : ℕ
    place = length (imported_functions world) + nth

    parts : (x : Parts) × (slice_get es nth ≡ Some x) × ArePartsWritten types sites f x
    parts = zip-at (ArePartsWritten types sites) fs es nth f b.items.exported e

    abbrev export : ExportFn
    export = parts.0.0

    abbrev written : IsExportWritten types sites f export parts.0.2
    written = parts.2.0

    place_is : place ≡ length ws + nth
    place_is = ap (λ n. n + nth) (sym (AllZip-long (IsWritten types sites) (imported_functions world) ws b.items.wraps))

    export-info : (info : WrapperInfo) × (slice_get (wrappers_of tree) place ≡ Some info)
    export-info =
        let s = wrappers-skip start.0 ws (flat_map export_items es ++ behind) ps qs nth as_many in
        let i = exports-at s.0 es behind qs nth parts.0 as_many_exports parts.1 in
        (i.0, ap (λ is. slice_get is place) wrappers_are ∙ ap (slice_get (wrappers_from start.0 others (ps ++ qs))) place_is ∙ s.1 ∙ i.1)

    export-there : export_at tree place ≡ Some (export-info.0.item.0, export)
    export-there =
        ap (option_and_then (numbered tree place))
        (ap (export_nth place) are ∙ skip-export ts others place ∙ ap (λ n. export_nth n (map item.Import ws ++ (flat_map export_items es ++ behind))) place_is
        ∙ export_nth-skip ws (flat_map export_items es ++ behind) nth ∙ export_nth-at es behind nth parts.0 parts.1)
        ∙ ap (option_map (λ w. (w.item.0, export))) export-info.1

    some_export : (g : Function) × (gs : List Function) × (fs ≡ g ∷ gs)
    some_export = nonempty fs nth f e

    abbrev under : List Function → List Item
    under gs =
        map item.Import ws ++ (flat_map export_items es ++ (where_any gs (item.Trait (guest_trait types fs) ∷ item.ModuleMacro (world_macro types world) ∷ []) ++ (area_items area ++ (runtime_module asked ++ last_macro world))))

    abbrev first : Function
    first = some_export.0

    abbrev later : List Function
    later = some_export.1

    items_are : tree.items ≡ map item.Type ts ++ under (first ∷ later)
    items_are = are ∙ ap (λ gs. map item.Type ts ++ under gs) some_export.2

    method-there : method_named tree.items guest_name (rust_ident f.name) ≡ Some (trait_fn types f)
    method-there =
        ap (λ is. method_named is guest_name (rust_ident f.name)) items_are ∙ skip-method ts (under (first ∷ later)) guest_name (rust_ident f.name)
        ∙ method-found ws es first later (guest_trait types fs) (world_macro types world) (area_items area ++ (runtime_module asked ++ last_macro world)) (rust_ident f.name) (trait_fn types f)
        (find-named (λ t. t.name) (map (trait_fn types) fs) nth (trait_fn types f) (ap is_distinct (map-map (λ t. t.name) (trait_fn types) fs) ∙ distinct-methods opts resolve world named) (get-map (trait_fn types) fs nth f e))

    asked-parts : Found tree.items (asked_in (export_items parts.0))
    asked-parts = found-export tree.items es nth parts.0 parts.1 asks-wrappers.1

    entries : entries_in tree.items ≡ flat_map (entries_of types) fs
    entries = ap entries_in items_are ∙ skip-entries ts (under (first ∷ later)) ∙ entries-are ws es first later fs area (guest_trait types fs) (world_macro types world) asked (file_macro world)

    distinct-names : is_distinct (map (λ f. f.name.wit) fs) ≡ true
    distinct-names = (and_parts (are_distinct_functions (imported_functions world)) (are_distinct_functions fs) distinct).1

    exported-there : IsExported tree f.name.wit export
    exported-there = record {
      entry = export_entry types f;
      alone = ap (filter (λ x. bytes_eq x.export_name f.name.wit)) entries ∙ alone-wrapper types fs nth f distinct-names forms e (all_at (λ f. is_wit_form f.name.wit) fs nth f forms e);
      wraps = refl;
      params = sym written.made.outside.params;
      answer = sym written.made.outside.answer;
      named =
          ap (λ base. filter (λ x. bytes_eq x.base base) (exports_in tree.items)) (sym written.made.outside.base)
          ∙ ap (filter (λ x. bytes_eq x.base export.base)) (ap exports_in are ∙ skip-exports ts others ∙ exports-of_parts ws es behind (no_exports-behind types sites area asked world))
          ∙ alone-named (λ x. x.base) (map (λ x. x.0) es) nth export (ap is_distinct (map-map (λ x. x.base) (λ x. x.0) es ∙ bases-are types sites fs es b.items.exported) ∙ distinct-bases opts resolve world named) (get-map (λ x. x.0) es nth parts.0 parts.1);
    }

    no_returns : post_returns_in behind ≡ []
    no_returns = no_returns-behind types sites area asked world

    post-return-there : post_return_named export.base tree.items ≡ parts.0.1
    post-return-there =
        ap (λ base. post_return_named base tree.items) written.made.outside.base ∙ ap (post_return_named f.name.snake) are ∙ skip-post_return ts others f.name.snake
        ∙ post_return_named-at types sites ws es fs behind nth f parts.0 b.items.exported (distinct-bases opts resolve world named) e parts.1 no_returns

    return-at : post_return_at tree place ≡ option_map (λ p. (export-info.0.item.0, p)) parts.0.1
    return-at =
        ap (option_and_then (λ w. option_map (λ p. (w.0, p)) (post_return_named w.1.base tree.items))) export-there
        ∙ ap (option_map (λ p. (export-info.0.item.0, p))) post-return-there

    return-entries : entries_named (post_return_name f) tree.items ≡ where_returned types f (return_entry types f)
    return-entries = ap (filter (λ x. bytes_eq x.export_name (post_return_name f))) entries ∙ alone-return types fs nth f distinct-names forms e

    uses-here : UsesTypes resolve world f
    uses-here = known.exports_use nth f e

    function_is : written.made.func.now ≡ f
    function_is = written.made.of

    asks-export : Found tree.items (asked_by_item (item.Export export))
    asks-export = found-wrapper tree.items parts.0 asked-parts

    -- the static area is for the results of all exported functions

    has_area : HasAreaFor results (areas_of es) (result_shape types f) tree
    has_area = record {
      need = needs-all fs es b.items.exported;
      has = area_is;
      shares = contained-at results nth (result_shape types f) (get-map (result_shape types) fs nth f e);
      direct = all-direct;
    }

    shared : SharesArea results (result_shape types f) tree
    shared = needed_area_is_shared results (areas_of es) (result_shape types f) tree has_area

    -- the post-return function

    abbrev returned-body : (p : PostReturnFn) → parts.0.1 ≡ Some p → (w : IsReturnWritten types sites f p) → needs_return types f ≡ true → ClosesPostReturnBody types f w.made.code.parts w.made.code.body tree place
    returned-body p is w needs = record {
      parted = w.made.code.made_of.are;
      makes = w.made.code.makes;
      number = export-info.0.item.0;
      function = p;
      there = return-at ∙ ap (option_map (λ p. (export-info.0.item.0, p))) is;
      names =
          ap arg_names w.made.outside.params ∙ sym (named_so (arg_names (return_args (passed types f)))) ∙ ap site_names (sym w.made.code.made_of.params);
      pinned = ap arg_types w.made.outside.params ∙ types_of_args 0 (result_types (passed types f));
      block = w.made.code.is;
      runtime = subst (bodies.Found tree.items) w.made.code.asks (found-asked tree.items (asked_by_block p.body) w.runtime (return-asked types sites f p w.runtime w.made) (found-return tree.items parts.0 p is asked-parts));
      sites = sites-defined w.made.code.parts.tables.now.sites w.made.code.made_of.written;
      sized = shared_sized results (result_shape types f) tree shared;
      result = result-direct f uses-here;
      lists = needs;
    }

    returned-there : Returns (post_return_name f) tree place (passed types f)
    returned-there = go (needs_return types f) refl parts.2.1
      where
        Returned : Type 0
        Returned = IsReturned (post_return_name f) tree place (passed types f)

        Unreturned : Type 0
        Unreturned = IsUnreturned (post_return_name f) tree place (passed types f)

        go : (b : Bool) → needs_return types f ≡ b → ReturnWritten types sites b f parts.0.1 → MatchBool b Returned Unreturned
        go true needs (p, is, w) =
            post_return_body_is_returned types (post_return_name f) tree place f w.made.code.parts w.made.code.body (returned-body p is w needs) (record {
              entry = return_entry types f;
              alone = return-entries ∙ ap (λ b. cond b (return_entry types f ∷ []) []) needs;
              returns = refl;
              params = sym w.made.outside.params;
              pinned = ap arg_types w.made.outside.params ∙ types_of_args 0 (result_types (passed types f));
              answer = refl;
              named = ap (filter (λ x. bytes_eq x.base f.name.snake)) (ap post_returns_in are ∙ skip-post_returns ts others) ∙ post_return-alone types sites ws es fs behind nth f parts.0 p b.items.exported (distinct-bases opts resolve world named) e parts.1 no_returns is;
            })
        go false needs none =
            unlisted_is_unreturned types (post_return_name f) tree place f needs
            (return-at ∙ ap (option_map (λ p. (export-info.0.item.0, p))) none)
            (return-entries ∙ ap (λ b. cond b (return_entry types f ∷ []) []) needs)

    -- the wrapper

    method-is : method (export_file tree export-info.0.item.0 written.made.code.parts.home) written.made.func.now ≡ Some (trait_fn types f)
    method-is = ap₂ (λ home (g : Function). method_named tree.items home (rust_ident g.name)) written.made.code.made_of.home function_is ∙ method-there

    -- it keeps no value only where the method gives none
    gives-as_called : GivesAsCalled tree.items written.made.code.parts.home (Some export.call)
    gives-as_called none =
        subst (λ (o : Option TraitFn). IfSome o (λ t. t.result ≡ type.Unit))
        (sym (ap₂ (method_named tree.items) written.made.code.made_of.home written.made.calls.calls ∙ method-there))
        (no-value f.result (sym written.made.calls.keeps ∙ ap is_some none))
      where
        no-value : (r : Option WitType) → is_some r ≡ false → printed_result types r ≡ type.Unit
        no-value None h = refl
        no-value (Some ty) h = absurd (cc)

    method-target : target.Method (codes "Guest") (rust_ident f.name) ≡ target.Method written.made.code.parts.home (rust_ident written.made.func.now.name)
    unfolding guest_name
    method-target = sym (ap₂ (λ home (g : Function). target.Method home (rust_ident g.name)) written.made.code.made_of.home function_is)

    closes-export : ClosesExportBody types written.made.func written.made.code.parts written.made.code.body (export_names f) results tree place
    closes-export =
        let w = written.made in
        let code = w.code in
        let uses = subst (UsesTypes resolve world) (sym w.of) uses-here in
        let file = export_file tree export-info.0.item.0 code.parts.home in
        record {
          parted = code.made_of.are;
          makes = code.makes;
          number = export-info.0.item.0;
          item = export;
          there = export-there;
          head = code.is.call;
          bound = w.outside.bound ∙ sym code.made_of.home;
          params =
              ap arg_names w.outside.params ∙ sym (named_so (arg_names (export_args (passed types f)))) ∙ ap (λ g. site_names (local_sites (arg_names (export_args (passed types g))))) (sym w.of)
              ∙ ap site_names (sym code.made_of.params);
          signature = subst (λ g. HasCoreSignature (passed types g) export) (sym w.of) signature-is;
          block = code.is.rest;
          runtime = subst (bodies.Found tree.items) code.is.asks (found-asked tree.items (asked_by_export export) written.runtime (export-asked types sites f export _ written.runtime written.made) asks-export);
          sites = sites-defined code.parts.tables.now.sites code.made_of.written;
          called = gives-as_called;
          area = subst (λ g. SharesArea results (result_shape types g) tree) (sym w.of) shared;
          passes =
              printed_params_pass file code.makes.old w.func.now (param_shapes types w.func.now) (trait_fn types f) method-is
              (subst (λ (g : Function). ArePrintedParams tree.items (param_shapes types w.func.now) (map (trait_param types) g.params)) w.of (params-printed w.func.now uses));
          answers =
              printed_results_come_in file code.makes.old w.func.now (result_shape types w.func.now) (trait_fn types f) method-is
              (subst (λ (g : Function). IsPrintedResult tree.items (result_shape types w.func.now) (printed_result types g.result)) w.of (result-printed w.func.now uses));
          direct = params-direct w.func.now uses;
          method = method-target;
          exported = exported-there;
          post_return = subst (λ g. Returns (post_return_name f) tree place (passed types g)) (sym w.of) returned-there;
        }
      where
        signature-is : HasCoreSignature (passed types f) export
        signature-is = record {
          params = ap arg_types written.made.outside.params ∙ types_of_args 0 (param_types (passed types f));
          answer = ap option_to_list written.made.outside.answer ∙ result_alone (passed types f);
        }

  export-at : (resources : Resources) (nth : ℕ) (f : Function) → slice_get fs nth ≡ Some f → IsExportFaithful resources (export_names f) results tree (length (imported_functions world) + nth) (passed types f)
  export-at resources nth f e =
      let w = (written nth f e).made in
      let n = length (imported_functions world) + nth in
      subst (λ g. IsExportFaithful resources (export_names f) results tree n (passed types g)) w.of
      (export_body_is_faithful types resources (export_names f) results tree n w.func w.code.parts w.code.body (closes-export nth f e))

  pub are_faithful : AreFaithful types world tree
  are_faithful = record { places = placed; imports = faithful-at; exports = export-at }
