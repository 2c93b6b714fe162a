use Rattle.std.proofs.Common.{◌≡◌, true, [], ◌∷◌, ◌++◌, ◌∙◌, ap, map, sym, append_assoc, arith}
use Rattle.std.proofs.lemmas.List.{map-append}
use Rattle.wit_model.specs.Distinct.{is_distinct}
use Rattle.wit_model.specs.IndexRange.{function_in_range}
use Rattle.rust_tree.specs.declared.item.Item.TheVariants as item
use Rattle.gen_accept.specs.DeclaredNames.{param_idents}
use Rattle.wrapper_closing.specs.Parts.{CanWriteFunction}
use Rattle.rust_gen.specs.Asking.{ImportAsks, bare}
use Rattle.rust_gen.specs.Known.{HasCode}
use Rattle.rust_gen.proofs.OrderLemmas.{asked-more, bare-more}
use Rattle.rust_gen.proofs.TreeLemmas.{at-loop, wraps-more}
use Rattle.rust_gen.proofs.wrappers.push_imports.Goals as goal

pub push_import-requires-clause-within : goal.push_import-requires-clause-within
push_import-requires-clause-within c =
    at-loop (λ f. function_in_range c.args.resolve.now f ≡ true) c.args.functions.now c.requires.within c.loop-function.function-index c.function-item.result (omega arith) c.function-item.is

pub push_import-requires-clause-distinct : goal.push_import-requires-clause-distinct
push_import-requires-clause-distinct c =
    at-loop (λ f. is_distinct (param_idents f) ≡ true) c.args.functions.now c.requires.distinct c.loop-function.function-index c.function-item.result (omega arith) c.function-item.is

pub push_import-requires-clause-code : goal.push_import-requires-clause-code
push_import-requires-clause-code c =
    at-loop (HasCode c.args.resolve.now.types) c.args.functions.now c.requires.code c.loop-function.function-index c.function-item.result (omega arith) c.function-item.is

pub push_import-requires-clause-writes : goal.push_import-requires-clause-writes
push_import-requires-clause-writes c =
    at-loop (CanWriteFunction c.args.resolve.now.types c.args.tables.now.sites) c.args.functions.now c.requires.writes c.loop-function.function-index c.function-item.result (omega arith) c.function-item.is

pub loop-function-preserved : goal.loop-function-preserved
loop-function-preserved c =
    let (before, items, asked, zipped) = c.loop-function.invariant in
    let (more, pushed, adds, asks) = c.in_ok-push_import.ensures in (
      before ++ more ∷ [],
      pushed ∙ ap (λ is. is ++ item.Import more.0 ∷ []) items ∙ append_assoc c.args.items.now (map item.Import (bare before)) (item.Import more.0 ∷ [])
          ∙ ap (λ is. c.args.items.now ++ is) (sym (map-append item.Import (bare before) (more.0 ∷ []))) ∙ ap (λ xs. c.args.items.now ++ map item.Import xs) (sym (bare-more before more)),
      asked-more before more c.args.asked.now c.loop-function.asked c.push_import.new.asked asked adds,
      wraps-more (ImportAsks c.args.resolve.now.types c.args.tables.now.sites) c.args.functions.now c.loop-function.function-index c.function-item.result before more (omega arith) c.function-item.is zipped asks,
    )
