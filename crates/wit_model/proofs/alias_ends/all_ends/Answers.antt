use Rattle.std.proofs.Common.{◌≡◌, ◌∙◌, List, [], ◌∷◌, ◌++◌, length, Option, Some, subst, sym, ap, refl, arith, slice_get, length-append}
use Rattle.std.proofs.lemmas.Option.{slice_get_read}
use Rattle.wit_model.specs.declared.name.TypeId.{TypeId}
use Rattle.wit_model.specs.Ends.{AreEnds, end_of_kind}
use Rattle.wit_model.proofs.EndLemmas.{ends_more}
use Rattle.wit_model.proofs.alias_ends.all_ends.Goals as goal

pub loop-entry-preserved : goal.loop-entry-preserved
loop-entry-preserved c =
    let ends : List (Option TypeId) = c.loop-entry.ends in
    let entry = c.entry-item.result in
    let at : slice_get c.args.types.now c.loop-entry.entry-index ≡ Some entry = slice_get_read c.args.types.now (length c.args.types.now) c.loop-entry.entry-index entry refl c.loop-entry-test.true c.entry-item.is in
    let end = c.end_of_kind-end.ensures ∙ ap (λ (k : List (Option TypeId)). end_of_kind k entry.kind) c.as_slice.ensures in
    let whole : c.push.new.self ≡ ends ++ end_of_kind ends entry.kind ∷ [] = c.in_ok-push.ensures.ok ∙ ap (λ (e : Option TypeId). ends ++ e ∷ []) end in
    record {
      count = rw whole (omega (arith, length-append ends (end_of_kind ends entry.kind ∷ []), c.loop-entry.invariant.count));
      end = subst (AreEnds c.args.types.now) (sym whole) (ends_more c.args.types.now c.requires ends c.loop-entry.invariant.end c.loop-entry.entry-index entry at c.loop-entry.invariant.count);
    }
