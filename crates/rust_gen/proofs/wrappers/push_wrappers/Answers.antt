use Rattle.std.proofs.Common.{◌≡◌, ◌++◌, ◌∙◌, List, Option, ap, map, subst, sym}
use Rattle.std.specs.List.{AllZip, flat_map}
use Rattle.gen_accept.specs.Emitted.{functions_in, imported_functions}
use Rattle.func_gen.specs.declared.type_site.TypeSite.{TypeSite}
use Rattle.type_sites.specs.Sites.{type_sites}
use Rattle.rust_gen.specs.Asking.{ExportAsks, ImportAsks, asked_with, bare}
use Rattle.rust_gen.specs.Bound.{export_items}
use Rattle.rust_gen.specs.Known.{CanWriteFunctions, HaveCode}
use Rattle.rust_gen.proofs.wrappers.push_wrappers.Goals as goal

pub type_tables-requires : goal.type_tables-requires
type_tables-requires c = (c.requires.types.0, c.requires.types.2, c.requires.types.3)

pub push_imports-requires-clause-facts : goal.push_imports-requires-clause-facts
push_imports-requires-clause-facts c = record { checked = c.requires.well; shallow = c.requires.shallow; analyzed = (c.requires.types.0, c.requires.types.3) }

pub push_imports-requires-clause-code : goal.push_imports-requires-clause-code
push_imports-requires-clause-code c =
    let functions = ap (map (λ f. f.now)) c.as_slice-2.ensures.value ∙ c.in_ok-imports.ensures ∙ ap functions_in c.as_slice.ensures in
    subst (HaveCode c.args.resolve.now.types) (sym functions) c.requires.imports_code

pub push_imports-requires-clause-writes : goal.push_imports-requires-clause-writes
push_imports-requires-clause-writes c =
    let types = c.args.resolve.now.types in
    let functions = ap (map (λ f. f.now)) c.as_slice-2.ensures.value ∙ c.in_ok-imports.ensures ∙ ap functions_in c.as_slice.ensures in
    let known = c.in_ok-tables.ensures.sites c.requires.types.0 c.args.world.now c.requires.types.3 c.requires.types.1 c.requires.shallow in
    subst (λ (sites : List (Option TypeSite)). CanWriteFunctions types sites (map (λ f. f.now) c.as_slice-2.result.now)) (sym known)
    (subst (CanWriteFunctions types (type_sites c.args.resolve.now c.args.world.now)) (sym functions) c.requires.imports_write)

pub push_exports-requires-clause-writes : goal.push_exports-requires-clause-writes
push_exports-requires-clause-writes c =
    let known = c.in_ok-tables.ensures.sites c.requires.types.0 c.args.world.now c.requires.types.3 c.requires.types.1 c.requires.shallow in
    subst (λ (sites : List (Option TypeSite)). CanWriteFunctions c.args.resolve.now.types sites (map (λ f. f.now) c.args.exports.now)) (sym known) c.requires.exports_write

pub returns : goal.returns
returns c =
    let types = c.args.resolve.now.types in
    let world = c.args.world.now in
    let (imports, imported, adds, asks) = c.in_ok-push_imports.ensures in
    let (exports, exported, areas, adds_more, asks_more) = c.in_ok-areas.ensures in
    let known : c.in_ok-tables.tables.sites ≡ type_sites c.args.resolve.now world = c.in_ok-tables.ensures.sites c.requires.types.0 world c.requires.types.3 c.requires.types.1 c.requires.shallow in
    let functions = ap (map (λ f. f.now)) c.as_slice-2.ensures.value ∙ c.in_ok-imports.ensures ∙ ap functions_in c.as_slice.ensures in (
      imports,
      exports,
      exported ∙ ap (λ is. is ++ flat_map export_items (bare exports)) imported,
      areas,
      adds_more ∙ ap (λ xs. xs ++ asked_with exports) adds,
      subst (λ rs. AllZip (ImportAsks types rs) (imported_functions world) imports) known (subst (λ fs. AllZip (ImportAsks types c.in_ok-tables.tables.sites) fs imports) functions asks),
      subst (λ rs. AllZip (ExportAsks types rs) (map (λ f. f.now) c.args.exports.now) exports) known asks_more,
    )
