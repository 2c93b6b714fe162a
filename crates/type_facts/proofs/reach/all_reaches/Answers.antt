use Rattle.std.proofs.Common.{◌≡◌, ◌∙◌, List, [], ◌∷◌, ◌++◌, length, Some, subst, sym, ap, refl, arith, slice_get, length-append}
use Rattle.std.proofs.lemmas.Option.{slice_get_read}
use Rattle.type_facts.specs.declared.reach.Reach.{Reach}
use Rattle.type_facts.specs.Passes.{AreReaches, reach_of_kind}
use Rattle.type_facts.proofs.Reaching.{reaches_more}
use Rattle.type_facts.proofs.reach.all_reaches.Goals as goal

pub loop-entry-preserved : goal.loop-entry-preserved
loop-entry-preserved c =
    let known : List Reach = c.loop-entry.known in
    let entry = c.entry-item.result in
    let at : slice_get c.args.types.now c.loop-entry.entry-index ≡ Some entry = slice_get_read c.args.types.now (length c.args.types.now) c.loop-entry.entry-index entry refl c.loop-entry-test.true c.entry-item.is in
    let reach = c.reach_of_kind-reach.ensures ∙ ap (λ (k : List Reach). reach_of_kind k entry.kind) c.as_slice.ensures in
    let whole : c.push.new.self ≡ known ++ reach_of_kind known entry.kind ∷ [] = c.in_ok-push.ensures.ok ∙ ap (λ (r : Reach). known ++ r ∷ []) reach in
    record {
      count = rw whole (omega (arith, length-append known (reach_of_kind known entry.kind ∷ []), c.loop-entry.invariant.count));
      reach = subst (AreReaches c.args.types.now) (sym whole) (reaches_more c.args.types.now c.requires known c.loop-entry.invariant.reach c.loop-entry.entry-index entry at c.loop-entry.invariant.count);
    }
