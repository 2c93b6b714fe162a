use Rattle.std.proofs.Common.{◌+◌, ◌*◌, option_map, [], ◌∷◌}
use Rattle.wit_layout.proofs.FlattenSteps.{rank}
use Rattle.wit_layout.specs.Tree.{tree_at}
use Rattle.abi_bindgen.specs.Code.{at_payload, beyond, free_code, place_in}
use Rattle.abi_driver.specs.FinishedBlocks.{Resumes}
use Rattle.abi_bindgen.specs.Laws.{Adds}
use Rattle.abi_bindgen.specs.Flow.{in_block}
use Rattle.abi_driver.proofs.CaseFrees.{Rest as RestCases}
use Rattle.abi_driver.proofs.FreeSteps.{Rest}
use Rattle.abi_bindgen.proofs.FlowSteps.{FlowsOn}
use Rattle.abi_driver.proofs.dealloc.memory.+free.Given as goal

abbrev pub decreases-free_type : goal.decreases-free_type
decreases-free_type g l = 8 * rank l.ty

abbrev pub decreases-free_id : goal.decreases-free_id
decreases-free_id g l = 8 * l.id.0 + 7

abbrev pub decreases-free_parts : goal.decreases-free_parts
decreases-free_parts g l = 8 * l.id.0 + 1

abbrev pub decreases-free_variant : goal.decreases-free_variant
decreases-free_variant g l = 8 * l.id.0 + 6

abbrev pub decreases-free_cases : goal.decreases-free_cases
decreases-free_cases g l = 8 * l.id.0 + 5

abbrev pub decreases-free_payload : goal.decreases-free_payload
decreases-free_payload g l = 8 * l.id.0 + 3

abbrev pub decreases-free_case : goal.decreases-free_case
decreases-free_case g l = 8 * l.id.0 + 4

-- what frees the parts that are left, frees them all; and what flows for them, flows for all
abbrev pub invariant-free_parts-loop-i : goal.invariant-free_parts-loop-i
invariant-free_parts-loop-i g l =
    let m = g.B.Bindgen.meaning in
    record {
      adds : Adds m l.initial.bindgen l.bindgen;
      flows : FlowsOn m l.resolve.types 1 (λ ty. 0) (λ n ty. free_code l.resolve.types ty (beyond l.offset (place_in (tree_at l.resolve.types l.id.0) n))) (l.address ∷ []) l.tys (l.address ∷ []) l.initial.bindgen l.i [] [] l.bindgen;
      rest : Rest m l.resolve.types l.tys l.address l.offset l.i l.initial.bindgen l.bindgen;
    }

-- what frees the cases that are left, frees them all; and what flows for them, flows for all
abbrev pub invariant-free_cases-loop-i : goal.invariant-free_cases-loop-i
invariant-free_cases-loop-i g l =
    let m = g.B.Bindgen.meaning in
    let types = l.resolve.types in
    record {
      resumes : Resumes m l.initial.bindgen l.bindgen;
      flows : FlowsOn m types 1 (λ payload. 0) (λ n payload. in_block (at_payload l.place (option_map (λ ty. (ty, free_code types ty)) payload))) (l.address ∷ []) l.payloads (l.address ∷ []) l.initial.bindgen l.i [] [] l.bindgen;
      rest : RestCases m types l.payloads l.address l.place l.i l.initial.bindgen l.bindgen;
    }
