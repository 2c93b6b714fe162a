use Rattle.std.proofs.Common.{◌≡◌, ◌+◌, ◌*◌, drop}
use Rattle.std.specs.List.{list_any}
use Rattle.wit_model.specs.Parts.{parts}
use Rattle.wit_layout.proofs.FlattenSteps.{rank}
use Rattle.abi_bindgen.specs.HasList.{payload_has_list}
use Rattle.abi_bindgen.proofs.has_list.+has_list.Given as goal

abbrev pub decreases-type_has_list : goal.decreases-type_has_list
decreases-type_has_list l = 4 * rank l.ty

abbrev pub decreases-id_has_list : goal.decreases-id_has_list
decreases-id_has_list l = 4 * l.id.0 + 3

abbrev pub decreases-parts_have_list : goal.decreases-parts_have_list
decreases-parts_have_list l = 4 * l.at + 2

abbrev pub decreases-part_has_list : goal.decreases-part_has_list
decreases-part_has_list l = 4 * l.at + 1

-- what the parts that are left tell is what all tell
abbrev pub invariant-parts_have_list-loop-nth : goal.invariant-parts_have_list-loop-nth
invariant-parts_have_list-loop-nth l = list_any (payload_has_list l.resolve.types) (drop l.nth (parts l.kind)) ≡ list_any (payload_has_list l.resolve.types) (parts l.kind)
