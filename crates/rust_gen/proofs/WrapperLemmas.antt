-- What is written is a wrapper, seen from outside.
use Rattle.std.proofs.Common.{Bool, true, false, List, [], ◌∷◌, Option, None, Some, subst, sym}
use Rattle.std.specs.Prelude.{IfSome, option_to_list}
use Rattle.std.specs.List.{AllByRecursion, AllZip, flat_map}
use Rattle.wit_model.specs.declared.function.Function.{Function}
use Rattle.wit_model.specs.declared.name.WorldId.{WorldId}
use Rattle.wit_model.specs.declared.resolve.Resolve.{Resolve}
use Rattle.wit_model.specs.declared.types.TypeDef.{TypeDef}
use Rattle.wit_model.specs.declared.world.World.{World}
use Rattle.rust_tree.specs.Tree.{Tree}
use Rattle.rust_tree.specs.declared.export.ExportFn.{ExportFn}
use Rattle.rust_tree.specs.declared.export.PostReturnFn.{PostReturnFn}
use Rattle.rust_tree.specs.declared.item.FnItem.{FnItem}
use Rattle.rust_tree.specs.declared.runtime_item.RuntimeItem.{RuntimeItem}
use Rattle.rust_tree.specs.declared.stmt.Block.{Block}
use Rattle.gen_accept.specs.Area.{needs_return}
use Rattle.gen_accept.specs.DeclaredNames.{guest_name}
use Rattle.gen_accept.specs.declared.opts.Opts.{Opts}
use Rattle.wrapper_meaning.specs.Areas.{result_record}
use Rattle.wrapper_meaning.specs.Shape.{result_shape}
use Rattle.abi_bindgen.specs.Area.{AreFor}
use Rattle.abi_bindgen.specs.declared.bindgen.Asked.{Asked}
use Rattle.abi_bindgen.proofs.AllLemmas.{all_both}
use Rattle.func_gen.specs.declared.type_site.TypeSite.{TypeSite}
use Rattle.func_gen.specs.Whole.{IsSmall}
use Rattle.type_sites.specs.Sites.{type_sites}
use Rattle.wrapper_closing.specs.Declares.{DeclaresOne}
use Rattle.wrapper_closing.specs.ImportBlock.{block_of}
use Rattle.wrapper_closing.proofs.BodyAreas.{export_body_area_is_for}
use Rattle.wrapper_closing.proofs.ImportDeclares.{import_body_declares}
use Rattle.rust_gen.specs.Body.{ArePartsWritten, IsExportWritten, IsImportMade, IsReturnWritten, IsWritten, ReturnWritten}
use Rattle.rust_gen.specs.Bound.{Binds, Parts, areas_of}
use Rattle.rust_gen.specs.Wrapper.{HasReturn, Wraps, WrapsExport, WrapsParts, WrapsReturn, root_module}

-- its body declares the core import of its function, and no other
declares : (types : List TypeDef) (sites : List (Option TypeSite)) (f : Function) (item : FnItem) (runtime : List RuntimeItem) → IsImportMade types sites f item runtime → DeclaresOne types root_module f item.body.stmts
declares types sites f item runtime made =
    let code = made.code in
    let one = import_body_declares types made.func code.parts code.body code.makes in
    subst (λ (b : Block). DeclaresOne types root_module f b.stmts) (sym code.is)
    (subst (λ g. DeclaresOne types root_module g (block_of code.parts.area code.body).stmts) made.of
    (subst (λ home. DeclaresOne types home made.func.now (block_of code.parts.area code.body).stmts) code.made_of.home one))

wraps : (types : List TypeDef) (sites : List (Option TypeSite)) (f : Function) (item : FnItem) → IsWritten types sites f item → Wraps types f item
wraps types sites f item w = record { docs = w.made.outside.docs; name = w.made.outside.name; params = w.made.outside.params; answer = w.made.outside.answer; declares = declares types sites f item w.runtime w.made }

wraps_export : (types : List TypeDef) (sites : List (Option TypeSite)) (f : Function) (e : ExportFn) (a : Option Asked) → IsExportWritten types sites f e a → WrapsExport types f e
unfolding guest_name
wraps_export types sites f e a w = record { base = w.made.outside.base; bound = w.made.outside.bound; params = w.made.outside.params; answer = w.made.outside.answer; calls = w.made.calls.calls; keeps = w.made.calls.keeps }

wraps_return : (types : List TypeDef) (sites : List (Option TypeSite)) (f : Function) (p : PostReturnFn) → IsReturnWritten types sites f p → WrapsReturn types f p
unfolding guest_name
wraps_return types sites f p w = record { base = w.made.outside.base; bound = w.made.outside.bound; params = w.made.outside.params }

-- the area that its body needs is that of its result
pub area-for : (types : List TypeDef) (sites : List (Option TypeSite)) (f : Function) (e : ExportFn) (a : Option Asked) → IsExportWritten types sites f e a → AreFor (result_record (result_shape types f)) (option_to_list a)
area-for types sites f e a w =
    let for = export_body_area_is_for types w.made.func w.made.code.parts w.made.code.body w.made.code.makes in
    subst (λ a. AreFor (result_record (result_shape types f)) (option_to_list a)) (sym w.made.code.is.area)
    (subst (λ g. AreFor (result_record (result_shape types g)) (option_to_list w.made.code.body.area)) w.made.of for)

-- and its size is one that a memory has
area-small : (types : List TypeDef) (sites : List (Option TypeSite)) (f : Function) (e : ExportFn) (a : Option Asked) → IsExportWritten types sites f e a → AllByRecursion IsSmall (option_to_list a)
area-small types sites f e a w =
    subst (λ a. AllByRecursion IsSmall (option_to_list a)) (sym w.made.code.is.area) (go w.made.code.body.area w.made.code.makes.body_of.small)
  where
    go : (a : Option Asked) → IfSome a IsSmall → AllByRecursion IsSmall (option_to_list a)
    go None h = tt
    go (Some a) h = (h, tt)

pub areas-small : (types : List TypeDef) (sites : List (Option TypeSite)) (fs : List Function) (es : List Parts) → AllZip (ArePartsWritten types sites) fs es → AllByRecursion IsSmall (flat_map option_to_list (areas_of es))
areas-small types sites [] [] z = tt
areas-small types sites [] (e ∷ es) z = absurd z
areas-small types sites (f ∷ fs) [] z = absurd z
areas-small types sites (f ∷ fs) (e ∷ es) z =
    all_both IsSmall (option_to_list e.2) (flat_map option_to_list (areas_of es)) (area-small types sites f e.0 e.2 z.0.0) (areas-small types sites fs es z.1)

wraps_parts : (types : List TypeDef) (sites : List (Option TypeSite)) (f : Function) (parts : Parts) → ArePartsWritten types sites f parts → WrapsParts types f parts
wraps_parts types sites f parts w = (wraps_export types sites f parts.0 parts.2 w.0, go (needs_return types f) w.1, area-for types sites f parts.0 parts.2 w.0)
  where
    go : (b : Bool) → ReturnWritten types sites b f parts.1 → HasReturn types b f parts.1
    go true (q, is, written) = (q, is, wraps_return types sites f q written)
    go false e = e

pub AllZip-map : {A B : Type 0} (R S : A → B → Type 0) → ((a : A) (b : B) → R a b → S a b) → (xs : List A) (ys : List B) → AllZip R xs ys → AllZip S xs ys
AllZip-map R S h [] [] z = tt
AllZip-map R S h [] (b ∷ ys) z = absurd z
AllZip-map R S h (a ∷ xs) [] z = absurd z
AllZip-map R S h (a ∷ xs) (b ∷ ys) z = (h a b z.0, AllZip-map R S h xs ys z.1)

pub binds_wraps : {opts : Opts} {r : Resolve} {id : WorldId} {world : World} {tree : Tree} → Binds (IsWritten r.types (type_sites r world)) (ArePartsWritten r.types (type_sites r world)) opts r id world tree → Binds (Wraps r.types) (WrapsParts r.types) opts r id world tree
binds_wraps {r = r} {world = world} b = record {
  items = record {
    types = b.items.types;
    wrappers = b.items.wrappers;
    exports = b.items.exports;
    runtime = b.items.runtime;
    are = b.items.are;
    serves = b.items.serves;
    defined = b.items.defined;
    wraps = AllZip-map (IsWritten r.types (type_sites r world)) (Wraps r.types) (wraps r.types (type_sites r world)) _ b.items.wrappers b.items.wraps;
    exported = AllZip-map (ArePartsWritten r.types (type_sites r world)) (WrapsParts r.types) (wraps_parts r.types (type_sites r world)) _ b.items.exports b.items.exported;
  };
  places = b.places;
  options = b.options;
}
