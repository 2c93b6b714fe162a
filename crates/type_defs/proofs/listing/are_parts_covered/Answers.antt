use Rattle.std.proofs.Common.{◌∙◌, ◌+◌, ◌&&◌, drop, sym, ap}
use Rattle.std.specs.List.{list_all}
use Rattle.wit_model.specs.Parts.{parts}
use Rattle.type_defs.specs.Listing.{covered_by}
use Rattle.type_defs.proofs.CutLemmas.{all_at_cut}
use Rattle.type_defs.proofs.listing.are_parts_covered.Goals as goal

pub returns-then-not-covered_by : goal.returns-then-not-covered_by
returns-then-not-covered_by c =
    sym (ap (λ b. b && list_all (covered_by c.args.known.now) (drop (c.loop-nth.nth + 1) (parts c.args.kind.now))) c.if-not-covered_by.true)
    ∙ sym (all_at_cut (covered_by c.args.known.now) (parts c.args.kind.now) c.loop-nth.nth c.part.result c.part.ensures c.covered_by.ensures) ∙ c.loop-nth.invariant

pub loop-nth-preserved : goal.loop-nth-preserved
loop-nth-preserved c =
    sym (ap (λ b. b && list_all (covered_by c.args.known.now) (drop (c.loop-nth.nth + 1) (parts c.args.kind.now))) c.if-not-covered_by.false)
    ∙ sym (all_at_cut (covered_by c.args.known.now) (parts c.args.kind.now) c.loop-nth.nth c.part.result c.part.ensures c.covered_by.ensures) ∙ c.loop-nth.invariant
