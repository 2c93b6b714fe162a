use Rattle.std.proofs.Common.{◌++◌, ◌∙◌, ap, map, refl, subst, sym}
use Rattle.std.specs.List.{AllByRecursion, AllZip}
use Rattle.rust_tree.specs.declared.item.Item.TheVariants as item
use Rattle.rust_tree.specs.Asked.{asked_in}
use Rattle.gen_accept.specs.Emitted.{exported_functions, functions_in, imported_functions}
use Rattle.type_defs.specs.Defined.{AreDefinitions}
use Rattle.type_defs.specs.DefinedNames.{AreDefinable}
use Rattle.gen_accept.specs.TypeOpts.{type_opts}
use Rattle.func_gen.specs.Whole.{IsSmall}
use Rattle.type_sites.specs.Sites.{type_sites}
use Rattle.type_sites.proofs.SitesDefined.{sites-can-be-defined}
use Rattle.rust_gen.specs.Asking.{ExportAsks, asked_order, asking_items, bare}
use Rattle.rust_gen.specs.Exported.{last_macro}
use Rattle.rust_gen.specs.Known.{CanWriteFunctions, CanWriteTypes, HaveCode}
use Rattle.rust_gen.specs.Runtime.{runtime_items}
use Rattle.rust_gen.proofs.OwnNames.{exports-can-be-written, imports-can-be-written}
use Rattle.rust_gen.proofs.OrderLemmas.{exports-written, imports-written, order-made, serves-order}
use Rattle.rust_gen.proofs.TreeLemmas.{all-made, own-made}
use Rattle.rust_gen.proofs.WrapperLemmas.{areas-small}
use Rattle.rust_gen.proofs.tree.world_items.Goals as goal

pub definitions_of-requires : goal.definitions_of-requires
definitions_of-requires c = (
  c.args.id,
  subst (λ o. AreDefinable o c.args.resolve.now c.args.id c.args.world.now) (sym c.type_opts.ensures) c.requires.types,
  c.in_ok-facts.ensures,
)

pub push_wrappers-requires-clause-types : goal.push_wrappers-requires-clause-types
push_wrappers-requires-clause-types c =
    let known : CanWriteTypes c.args.resolve.now c.args.id = record {
      sized = c.requires.sized;
      opts = type_opts c.args.opts.now;
      world = c.args.world.now;
      definable = c.requires.types;
      defined =
          sites-can-be-defined (type_opts c.args.opts.now) c.args.resolve.now c.args.id c.args.world.now c.in_ok-types.types c.requires.types
          (subst (λ o. AreDefinitions o c.args.resolve.now c.args.id c.args.world.now c.in_ok-types.types) c.type_opts.ensures (c.in_ok-types.ensures c.args.id c.in_ok-facts.ensures));
    } in
    (c.args.id, c.requires.types.found, known, c.in_ok-facts.ensures)

pub push_wrappers-requires-clause-shallow : goal.push_wrappers-requires-clause-shallow
push_wrappers-requires-clause-shallow c = c.requires.types.shallow

pub push_wrappers-requires-clause-exports_code : goal.push_wrappers-requires-clause-exports_code
push_wrappers-requires-clause-exports_code c =
    let methods = ap (map (λ f. f.now)) c.as_slice-exports.ensures.value ∙ c.in_ok-exports.ensures ∙ ap functions_in c.as_slice-2.ensures in
    subst (HaveCode c.args.resolve.now.types) (sym methods) c.requires.exports_code

pub push_wrappers-requires-clause-imports_write : goal.push_wrappers-requires-clause-imports_write
push_wrappers-requires-clause-imports_write c = imports-can-be-written c.args.opts.now c.args.resolve.now c.args.id c.args.world.now c.requires

pub push_wrappers-requires-clause-exports_write : goal.push_wrappers-requires-clause-exports_write
push_wrappers-requires-clause-exports_write c =
    let methods = ap (map (λ f. f.now)) c.as_slice-exports.ensures.value ∙ c.in_ok-exports.ensures ∙ ap functions_in c.as_slice-2.ensures in
    subst (CanWriteFunctions c.args.resolve.now.types (type_sites c.args.resolve.now c.args.world.now)) (sym methods)
    (exports-can-be-written c.args.opts.now c.args.resolve.now c.args.id c.args.world.now c.requires)

pub push_area-requires : goal.push_area-requires
push_area-requires c =
    let types = c.args.resolve.now.types in
    let sites = type_sites c.args.resolve.now c.args.world.now in
    let (is, es, pushed, areas, adds, wraps, exported) = c.in_ok-areas.ensures in
    record { small = subst (AllByRecursion IsSmall) (sym (c.as_slice-3.ensures ∙ areas)) (areas-small types sites _ (bare es) (exports-written types sites _ es exported)) }

-- the items before the runtime items, step by step, and then those behind them
pub returns-clause-order : goal.returns-clause-order
returns-clause-order c =
    let types = c.args.resolve.now.types in
    let world = c.args.world.now in
    let ts = c.in_ok-types.types in
    let (is, es, pushed, areas, adds, wraps, exported) = c.in_ok-areas.ensures in
    let methods = ap (map (λ f. f.now)) c.as_slice-exports.ensures.value ∙ c.in_ok-exports.ensures ∙ ap functions_in c.as_slice-2.ensures in
    let own = own-made types ts (bare is) (bare es) world c.as_slice-3.result.now c.in_ok-items.items (c.in_ok-items.items ++ map item.Import (bare is)) c.push_wrappers.new.items c.push_trait_and_macro.new.items c.push_area.new.items
    c.in_ok-items.ensures refl pushed c.in_ok-push_trait_and_macro.ensures (c.as_slice-3.ensures ∙ areas) c.in_ok-push_area.ensures in
    let order = order-made types world ts is es c.in_ok-asked.asked c.as_slice-4.result.now (asked_in c.push_area.new.items) (c.in_ok-asked.ensures ∙ ap asked_in (c.as_slice.ensures ∙ c.in_ok-items.ensures)) (c.as_slice-4.ensures ∙ adds) (ap asked_in own) in
    record {
      defs = ts;
      imports = is;
      exports = es;
      are =
          all-made (asking_items types world ts is es) c.push_area.new.items c.push_runtime.new.items c.push_last_macro.new.items (last_macro world) (c.as_slice-4.result.now ++ asked_in c.push_area.new.items) (asked_order types world ts is es) own
          order c.in_ok-push_runtime.ensures c.in_ok-push_last_macro.ensures;
      wraps = wraps;
      exported = subst (λ fs. AllZip (ExportAsks types (type_sites c.args.resolve.now world)) fs es) methods exported;
    }

pub returns-clause-are : goal.returns-clause-are
unfolding returns-clause-order
returns-clause-are c =
    let o = returns-clause-order c in
    let types = c.args.resolve.now.types in
    let world = c.args.world.now in
    let sites = type_sites c.args.resolve.now world in
    record {
      types = o.defs;
      wrappers = bare o.imports;
      exports = bare o.exports;
      runtime = runtime_items (asked_order types world o.defs o.imports o.exports);
      are = o.are;
      serves = serves-order types sites world o.defs o.imports o.exports o.wraps o.exported;
      defined = subst (λ o. AreDefinitions o c.args.resolve.now c.args.id world c.in_ok-types.types) c.type_opts.ensures (c.in_ok-types.ensures c.args.id c.in_ok-facts.ensures);
      wraps = imports-written types sites (imported_functions world) o.imports o.wraps;
      exported = exports-written types sites (exported_functions world) o.exports o.exported;
    }
