use Rattle.std.proofs.Common.{◌+◌, ◌∙◌, ◌++◌, Some, map, ap, sym, take, drop, arith}
use Rattle.std.proofs.lemmas.List.{drop_all}
use Rattle.std.proofs.lemmas.Option.{slice_get-get_or}
use Rattle.wit_model.specs.declared.function.Param.{Param}
use Rattle.wit_layout.specs.Flat.{flatten_type, flatten_record}
use Rattle.wit_layout.specs.inside.Words.{kept}
use Rattle.wit_layout.specs.Tree.{trees, tree_in, payloads_in}
use Rattle.wit_layout.proofs.KeptWords.{kept_fit}
use Rattle.wit_layout.proofs.WordLists.{take_then, take_settled}
use Rattle.wit_layout.proofs.signature.flatten_params.Goals as goal
use Rattle.wit_model.proofs.ListLemmas.{drop_at}

pub loop-param-preserved : goal.loop-param-preserved
loop-param-preserved c =
    let ts = trees c.args.types.now in
    let ps = c.args.params.now in
    let i = c.loop-param.param-index in
    let here = c.param-item.result in
    let all = c.loop-param.all in
    let h = c.loop-param.invariant in
    let put = c.flatten_type-all in
    let next = drop_at ps i here (slice_get-get_or ps i here c.loop-param-test.true ∙ ap (λ (p : Param). Some p) (sym c.param-item.is)) in
    record {
      words = take_then 17 all.room (kept all) (kept put.result) (flatten_type (tree_in ts here.ty)) (flatten_record (payloads_in ts (map (λ ty. Some ty) (map (λ (p : Param). p.ty) (drop (i + 1) ps))))) _ h.room put.ensures.words (sym (ap (λ qs. take 17 (kept all ++ flatten_record (payloads_in ts (map (λ ty. Some ty) (map (λ (p : Param). p.ty) qs))))) next) ∙ h.words);
      room = put.ensures.room ∙ h.room;
    }

pub returns-clause-words : goal.returns-clause-words
returns-clause-words c =
    let ts = trees c.args.types.now in
    let ps = c.args.params.now in
    let all = c.loop-param.all in
    let h = c.loop-param.invariant in
    let fits = kept_fit all in
    let none = drop_all c.loop-param.param-index ps (omega (arith, c.loop-param-test.false)) in
    take_settled 17 (kept all) _ (omega (arith, fits, h.room)) (sym (ap (λ qs. take 17 (kept all ++ flatten_record (payloads_in ts (map (λ ty. Some ty) (map (λ (p : Param). p.ty) qs))))) none) ∙ h.words)
