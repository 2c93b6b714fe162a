use Rattle.std.proofs.Common.{◌≡◌, drop}
use Rattle.json.specs.Value.{items_view, members_view}
use Rattle.wit_document.specs.View.{items_are_in_range, members_are_in_range}
use Rattle.wit_document.proofs.range.+range.Given as goal

abbrev pub invariant-items_are_in_range-loop-item : goal.invariant-items_are_in_range-loop-item
invariant-items_are_in_range-loop-item l = items_are_in_range (items_view l.item-items) ≡ items_are_in_range (items_view (drop l.item-index l.item-items))

abbrev pub invariant-members_are_in_range-loop-member : goal.invariant-members_are_in_range-loop-member
invariant-members_are_in_range-loop-member l = members_are_in_range (members_view l.member-items) ≡ members_are_in_range (members_view (drop l.member-index l.member-items))
