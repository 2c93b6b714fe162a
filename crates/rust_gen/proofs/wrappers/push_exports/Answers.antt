use Rattle.std.proofs.Common.{◌≡◌, true, [], ◌∷◌, ◌++◌, ◌∙◌, ap, arith, sym}
use Rattle.std.specs.Prelude.{option_to_list}
use Rattle.std.specs.List.{flat_map}
use Rattle.wit_model.specs.IndexRange.{function_in_range}
use Rattle.wrapper_closing.specs.Parts.{CanWriteFunction}
use Rattle.rust_gen.specs.Asking.{ExportAsks, bare}
use Rattle.rust_gen.specs.Bound.{areas_of, export_items}
use Rattle.rust_gen.specs.Known.{HasCode}
use Rattle.rust_gen.proofs.OrderLemmas.{asked-more, bare-more}
use Rattle.rust_gen.proofs.TreeLemmas.{areas-more, at-loop, items-more, wraps-more}
use Rattle.rust_gen.proofs.wrappers.push_exports.Goals as goal

pub push_export-requires-clause-within : goal.push_export-requires-clause-within
push_export-requires-clause-within c =
    at-loop (λ f. function_in_range c.args.resolve.now f ≡ true) c.args.functions.now c.requires.within c.loop-function.function-index c.function-item.result (omega arith) c.function-item.is

pub push_export-requires-clause-code : goal.push_export-requires-clause-code
push_export-requires-clause-code c =
    at-loop (HasCode c.args.resolve.now.types) c.args.functions.now c.requires.code c.loop-function.function-index c.function-item.result (omega arith) c.function-item.is

pub push_export-requires-clause-writes : goal.push_export-requires-clause-writes
push_export-requires-clause-writes c =
    at-loop (CanWriteFunction c.args.resolve.now.types c.args.tables.now.sites) c.args.functions.now c.requires.writes c.loop-function.function-index c.function-item.result (omega arith) c.function-item.is

pub loop-function-preserved : goal.loop-function-preserved
loop-function-preserved c =
    let (before, items, areas, asked, zipped) = c.loop-function.invariant in
    let (more, pushed, needs, adds, asks) = c.in_ok-push_export.ensures in
    let bare_is = sym (bare-more before more) in (
      before ++ more ∷ [],
      items-more c.args.items.now (bare before) more.0 c.loop-function.items c.push_export.new.items items pushed ∙ ap (λ xs. c.args.items.now ++ flat_map export_items xs) bare_is,
      areas-more (bare before) more.0 c.loop-function.areas c.push_export.new.areas areas needs ∙ ap (λ xs. flat_map option_to_list (areas_of xs)) bare_is,
      asked-more before more c.args.asked.now c.loop-function.asked c.push_export.new.asked asked adds,
      wraps-more (ExportAsks c.args.resolve.now.types c.args.tables.now.sites) c.args.functions.now c.loop-function.function-index c.function-item.result before more (omega arith) c.function-item.is zipped asks,
    )
