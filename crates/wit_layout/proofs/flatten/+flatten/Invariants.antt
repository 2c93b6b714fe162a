use Rattle.std.proofs.Common.{◌≡◌, ◌+◌, ◌*◌, ◌≤◌, ◌++◌, true, length, take, drop}
use Rattle.std.specs.List.{All}
use Rattle.wit_model.specs.Parts.{parts}
use Rattle.wit_model.specs.TypeOrder.{payload_below}
use Rattle.wit_layout.specs.inside.Ahead.{AreRuns, ahead_members}
use Rattle.wit_layout.specs.Flat.{flatten_record, slots}
use Rattle.wit_layout.specs.inside.Words.{kept}
use Rattle.wit_layout.specs.inside.Sequence.{members_at}
use Rattle.wit_layout.specs.Tree.{payloads_in, trees}
use Rattle.wit_layout.proofs.AheadWeight.{weights}
use Rattle.wit_layout.proofs.FlattenSteps.{rank, payload_rank}
use Rattle.wit_layout.proofs.flatten.+flatten.Given as goal

abbrev pub decreases-flatten_type : goal.decreases-flatten_type
decreases-flatten_type l = 5 * rank l.ty

abbrev pub decreases-flatten_payload : goal.decreases-flatten_payload
decreases-flatten_payload l = 5 * payload_rank l.payload + 1

abbrev pub decreases-flatten_members : goal.decreases-flatten_members
decreases-flatten_members l = 5 * l.at + 3

abbrev pub decreases-flatten_cases : goal.decreases-flatten_cases
decreases-flatten_cases l = 5 * l.at + 2

abbrev pub decreases-flatten_variant : goal.decreases-flatten_variant
decreases-flatten_variant l = 5 * l.at + 3

abbrev pub decreases-flatten_kind : goal.decreases-flatten_kind
decreases-flatten_kind l = 5 * l.at + 4

abbrev pub invariant-flatten_members-loop-ahead : goal.invariant-flatten_members-loop-ahead
invariant-flatten_members-loop-ahead l = record {
  words : take l.fn.words.room (kept l.all ++ flatten_record (payloads_in (trees l.types) (ahead_members l.types l.ahead))) ≡ take l.fn.words.room (kept l.fn.words ++ flatten_record (payloads_in (trees l.types) (members_at l.types l.at)));
  room : l.all.room ≡ l.fn.words.room;
  low : All (λ p. payload_below l.at p ≡ true) (ahead_members l.types l.ahead);
  valid : AreRuns l.types l.ahead;
}

abbrev pub decreases-flatten_members-loop-ahead : goal.decreases-flatten_members-loop-ahead
decreases-flatten_members-loop-ahead l = weights l.types (ahead_members l.types l.ahead)

abbrev pub invariant-flatten_cases-loop-left : goal.invariant-flatten_cases-loop-left
invariant-flatten_cases-loop-left l = record {
  words : kept l.slots ≡ take l.room (slots (payloads_in (trees l.types) (drop l.left (parts l.kind))));
  room : l.slots.room ≡ l.room;
  within : l.left ≤ length (parts l.kind);
}

abbrev pub decreases-flatten_cases-loop-left : goal.decreases-flatten_cases-loop-left
decreases-flatten_cases-loop-left l = l.left
