use Rattle.std.proofs.Common.{◌++◌, ◌∙◌, ap, sym, arith}
use Rattle.gen_accept.specs.Emitted.{place_at}
use Rattle.gen_accept.proofs.EmittedLemmas.{places_in-more}
use Rattle.gen_accept.proofs.emitted.places_in.Goals as goal

pub loop-nth-preserved : goal.loop-nth-preserved
loop-nth-preserved c =
    c.in_ok-push_place.ensures ∙ ap (λ ps. ps ++ place_at c.loop-nth.nth c.index-entries-nth.result.1) c.loop-nth.invariant
    ∙ sym (places_in-more c.args.entries.now c.loop-nth.nth c.index-entries-nth.result (omega arith) c.index-entries-nth.is)
