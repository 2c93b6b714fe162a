use Rattle.std.proofs.Common.{◌≡◌, ◌+◌, ◌*◌, ◌≤◌, take, drop, length, option_map, []}
use Rattle.wit_layout.proofs.FlattenSteps.{payload_rank, rank}
use Rattle.abi_bindgen.specs.Code.{free_words_code, lift_case}
use Rattle.abi_bindgen.specs.Flow.{in_block}
use Rattle.abi_bindgen.specs.WordCount.{word_counts, word_count}
use Rattle.abi_bindgen.proofs.FlowSteps.{FlowsOn}
use Rattle.abi_driver.proofs.FlatFrees.{Rest}
use Rattle.abi_driver.proofs.LiftedArguments.{words_left}
use Rattle.abi_driver.proofs.SlotFrees.{Rest as RestCases}
use Rattle.abi_driver.specs.FinishedBlocks.{Resumes}
use Rattle.abi_driver.proofs.dealloc.flat.+free.Given as goal

abbrev pub decreases-free_type : goal.decreases-free_type
decreases-free_type g l = 8 * rank l.ty

abbrev pub decreases-free_id : goal.decreases-free_id
decreases-free_id g l = 8 * l.id.0 + 7

abbrev pub decreases-free_variant : goal.decreases-free_variant
decreases-free_variant g l = 8 * l.id.0 + 6

abbrev pub decreases-free_cases : goal.decreases-free_cases
decreases-free_cases g l = 8 * l.id.0 + 5

abbrev pub decreases-free_case : goal.decreases-free_case
decreases-free_case g l = 8 * payload_rank l.payload + 2

abbrev pub decreases-free_payload : goal.decreases-free_payload
decreases-free_payload g l = 8 * rank l.ty + 1

abbrev pub decreases-free_parts : goal.decreases-free_parts
decreases-free_parts g l = 8 * l.place + 1

-- what frees the parts that are left, frees them all; and what flows for them, flows for all
abbrev pub invariant-free_parts-loop-i : goal.invariant-free_parts-loop-i
invariant-free_parts-loop-i g l =
    let m = g.B.Bindgen.meaning in
    let types = l.resolve.types in
    record {
      left : l.next + words_left types l.tys l.i ≡ l.at + word_counts types l.tys;
      low : l.at ≤ l.next;
      flows : FlowsOn m types 0 (word_count types) (λ n ty. free_words_code types ty) [] l.tys (take (word_counts types l.tys) (drop l.at l.words)) l.initial.bindgen l.i [] (take (words_left types l.tys l.i) (drop l.next l.words)) l.bindgen;
      rest : Rest m g.met.B.Bindgen.sound types l.tys l.i l.at l.words l.next l.initial.bindgen l.bindgen;
    }

-- what frees the cases that are left, frees them all; and what flows for them, flows for all
abbrev pub invariant-free_cases-loop-i : goal.invariant-free_cases-loop-i
invariant-free_cases-loop-i g l =
    let m = g.B.Bindgen.meaning in
    let types = l.resolve.types in
    record {
      resumes : Resumes m l.initial.bindgen l.bindgen;
      flows : FlowsOn m types (length l.slots) (λ payload. 0) (λ n payload. in_block (lift_case types l.slots n (option_map (λ ty. (ty, free_words_code types ty)) payload))) l.words l.payloads l.words l.initial.bindgen l.i [] [] l.bindgen;
      rest : RestCases m types l.payloads l.slots l.words l.i l.initial.bindgen l.bindgen;
    }
