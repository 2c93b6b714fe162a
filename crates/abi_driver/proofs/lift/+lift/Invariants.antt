use Rattle.std.proofs.Common.{◌≡◌, ◌++◌, ◌+◌, ◌*◌, ◌≤◌, List, [], drop, length, option_map, take}
use Rattle.wrapper_meaning.specs.Shape.{payloads_in, shapes}
use Rattle.wit_layout.proofs.FlattenSteps.{payload_rank, rank}
use Rattle.abi_bindgen.specs.CaseBlocks.{LiftsCases}
use Rattle.abi_bindgen.specs.Cases.{result_counts}
use Rattle.abi_bindgen.specs.Code.{lift_case, lift_code}
use Rattle.abi_bindgen.specs.Flow.{in_block}
use Rattle.abi_bindgen.specs.Laws.{Adds, Grows}
use Rattle.abi_bindgen.specs.Instructions.{shapes_of}
use Rattle.abi_bindgen.specs.Lifts.{LiftsAll}
use Rattle.abi_bindgen.specs.WordCount.{word_count, word_counts}
use Rattle.abi_bindgen.proofs.FlowSteps.{FlowsOn}
use Rattle.abi_driver.proofs.LiftedArguments.{words_left}
use Rattle.abi_driver.proofs.lift.+lift.Given as goal

abbrev pub decreases-lift_type : goal.decreases-lift_type
decreases-lift_type g l = 8 * rank l.ty

abbrev pub decreases-lift_id : goal.decreases-lift_id
decreases-lift_id g l = 8 * l.id.0 + 7

abbrev pub decreases-lift_variant : goal.decreases-lift_variant
decreases-lift_variant g l = 8 * l.id.0 + 6

abbrev pub decreases-lift_cases : goal.decreases-lift_cases
decreases-lift_cases g l = 8 * l.id.0 + 5

abbrev pub decreases-lift_case : goal.decreases-lift_case
decreases-lift_case g l = 8 * payload_rank l.payload + 2

abbrev pub decreases-lift_payload : goal.decreases-lift_payload
decreases-lift_payload g l = 8 * rank l.ty + 1

abbrev pub decreases-lift_parts : goal.decreases-lift_parts
decreases-lift_parts g l = 8 * l.place + 1

-- what lifts the parts that are left, lifts them all; and what flows for them, flows for all
abbrev pub invariant-lift_parts-loop-i : goal.invariant-lift_parts-loop-i
invariant-lift_parts-loop-i g l =
    let m = g.B.Bindgen.meaning in
    let types = l.resolve.types in
    record {
      adds : Adds m l.initial.bindgen l.bindgen;
      count : length l.parts ≡ l.i;
      left : l.next + words_left types l.tys l.i ≡ l.at + word_counts types l.tys;
      low : l.at ≤ l.next;
      flows : FlowsOn m types 0 (word_count types) (λ n ty. lift_code types ty) [] l.tys (take (word_counts types l.tys) (drop l.at l.words)) l.initial.bindgen l.i l.parts (take (words_left types l.tys l.i) (drop l.next l.words)) l.bindgen;
      rest : (used : List g.row.B-Operand.Denot) × (drop l.at l.words ≡ used ++ drop l.next l.words)
          × ((new : g.row.B.Denot) (qs later : List g.row.B-Operand.Denot) → LiftsAll m (shapes_of types (drop l.i l.tys)) qs later l.bindgen new → LiftsAll m (shapes_of types l.tys) (used ++ qs) (l.parts ++ later) l.initial.bindgen new);
    }

-- what lifts the cases that are left, lifts them all; and what flows for them, flows for all
abbrev pub invariant-lift_cases-loop-i : goal.invariant-lift_cases-loop-i
invariant-lift_cases-loop-i g l =
    let m = g.B.Bindgen.meaning in
    let types = l.resolve.types in
    record {
      grows : Grows m l.initial.bindgen l.bindgen;
      code : m.code l.bindgen ≡ m.code l.initial.bindgen;
      flows : FlowsOn m types (length l.slots) (λ payload. 0) (λ n payload. in_block (lift_case types l.slots n (option_map (λ ty. (ty, lift_code types ty)) payload))) l.words l.payloads l.words l.initial.bindgen l.i [] [] l.bindgen;
      rest : (new : g.row.B.Denot) → LiftsCases m (payloads_in (shapes types) (drop l.i l.payloads)) (result_counts (drop l.i l.payloads)) l.slots l.words l.bindgen new
          → LiftsCases m (payloads_in (shapes types) l.payloads) (result_counts l.payloads) l.slots l.words l.initial.bindgen new;
    }
