use Rattle.std.proofs.Common.{◌≡◌, ◌∙◌, length, refl, slice_get, Some}
use Rattle.std.proofs.lemmas.Option.{slice_get_read}
use Rattle.type_facts.proofs.Using.{entry_next}
use Rattle.type_facts.proofs.uses.Uses.mark_listed.Goals as goal

pub loop-entry-preserved : goal.loop-entry-preserved
loop-entry-preserved c =
    let listed = c.args.listed.now in
    let n = c.loop-entry.entry-index in
    let entry = c.entry-item.result in
    let at : slice_get listed n ≡ Some entry = slice_get_read listed (length listed) n entry refl c.loop-entry-test.true c.entry-item.is in
    rw c.mark_item.ensures (entry_next c.args.resolve.now c.args.side c.loop-entry.self listed n entry at ∙ c.loop-entry.invariant)
