use Rattle.std.proofs.Common.{◌≡◌, ◌++◌, ◌+◌, ◌*◌, List, [], drop, option_map}
use Rattle.wrapper_meaning.specs.Shape.{payloads_in, shapes}
use Rattle.wit_layout.proofs.FlattenSteps.{payload_rank, rank}
use Rattle.abi_bindgen.specs.CaseBlocks.{LowersCases}
use Rattle.abi_bindgen.specs.Code.{lower_case, lower_code, shared_slots}
use Rattle.abi_bindgen.specs.Flow.{in_block}
use Rattle.abi_bindgen.specs.Instructions.{shapes_of}
use Rattle.abi_bindgen.specs.Laws.{Adds, Grows}
use Rattle.abi_bindgen.specs.Lowers.{LowersAll}
use Rattle.abi_bindgen.proofs.FlowSteps.{FlowsOn}
use Rattle.abi_bindgen.proofs.lower.+lower.Given as goal

abbrev pub decreases-lower_type : goal.decreases-lower_type
decreases-lower_type g l = 8 * rank l.ty

abbrev pub decreases-lower_id : goal.decreases-lower_id
decreases-lower_id g l = 8 * l.id.0 + 7

abbrev pub decreases-lower_record : goal.decreases-lower_record
decreases-lower_record g l = 8 * l.id.0 + 6

abbrev pub decreases-lower_tuple : goal.decreases-lower_tuple
decreases-lower_tuple g l = 8 * l.id.0 + 6

abbrev pub decreases-lower_variant : goal.decreases-lower_variant
decreases-lower_variant g l = 8 * l.id.0 + 6

abbrev pub decreases-lower_cases : goal.decreases-lower_cases
decreases-lower_cases g l = 8 * l.id.0 + 5

abbrev pub decreases-lower_case : goal.decreases-lower_case
decreases-lower_case g l = 8 * payload_rank l.payload + 2

abbrev pub decreases-lower_payload : goal.decreases-lower_payload
decreases-lower_payload g l = 8 * rank l.ty + 1

abbrev pub decreases-lower_parts : goal.decreases-lower_parts
decreases-lower_parts g l = 8 * l.at + 1

-- what lowers the parts that are left, lowers them all; and what flows for them, flows for all
abbrev pub invariant-lower_parts-loop-i : goal.invariant-lower_parts-loop-i
invariant-lower_parts-loop-i g l =
    let m = g.B.Bindgen.meaning in
    let types = l.resolve.types in
    record {
      adds : Adds m l.initial.bindgen l.bindgen;
      flows : FlowsOn m types 0 (λ ty. 1) (λ n ty. lower_code types l.realloc ty) [] l.tys l.parts l.initial.bindgen l.i l.all.items (drop l.i l.parts) l.bindgen;
      rest : (new : g.row.B.Denot) (later : List _) → LowersAll m l.realloc (shapes_of types (drop l.i l.tys)) (drop l.i l.parts) later l.bindgen new
          → LowersAll m l.realloc (shapes_of types l.tys) l.parts (l.all.items ++ later) l.initial.bindgen new;
    }

-- what lowers the cases that are left, lowers them all; and what flows for them, flows for all
abbrev pub invariant-lower_cases-loop-i : goal.invariant-lower_cases-loop-i
invariant-lower_cases-loop-i g l =
    let m = g.B.Bindgen.meaning in
    let types = l.resolve.types in
    let shared = shared_slots types l.payloads in
    record {
      grows : Grows m l.initial.bindgen l.bindgen;
      code : m.code l.bindgen ≡ m.code l.initial.bindgen;
      flows : (reads : List g.row.B-Operand.Denot) → FlowsOn m types 0 (λ payload. 0) (λ n payload. in_block (lower_case types shared n (option_map (λ ty. (ty, lower_code types l.realloc ty)) payload))) [] l.payloads reads l.initial.bindgen l.i [] reads l.bindgen;
      rest : (new : g.row.B.Denot) → LowersCases m l.realloc (payloads_in (shapes types) (drop l.i l.payloads)) l.i shared l.bindgen new
          → LowersCases m l.realloc (payloads_in (shapes types) l.payloads) 0 shared l.initial.bindgen new;
    }
