use Rattle.std.proofs.Common.{ℤ, pos, None, List, [], ◌∷◌, subst}
use Rattle.abi_bindgen.specs.declared.instruction.Instruction.TheVariants.{I32Const}
use Rattle.abi_bindgen.specs.Blocks.{Finishes}
use Rattle.abi_bindgen.specs.Code.{lower_case, zero_code}
use Rattle.abi_bindgen.specs.Flow.{emit}
use Rattle.abi_bindgen.specs.Instructions.{Emits}
use Rattle.abi_bindgen.proofs.CaseLowers.{bare_lowers}
use Rattle.abi_bindgen.proofs.FlowSteps.{flows_block, flows_both}
use Rattle.abi_bindgen.proofs.WordBits.{number_signed}
use Rattle.abi_bindgen.proofs.lower.variants.lower_bare.Goals as goal

pub returns : goal.returns
returns g c =
    let m = g.B.Bindgen.meaning in
    let types = c.args.resolve.now.types in
    let a = c.args.bindgen.now in
    let b = c.push_block.new.self in
    let opens = c.in_ok-push_block.ensures in
    let tag = c.in_ok-tag.tag in
    let sent = subst (λ (z : ℤ). Emits m types (I32Const z) c.new.result (tag ∷ []) b c.send_one.new.bindgen) (number_signed c.args.number c.requires) c.in_ok-tag.ensures in
    let const = subst (λ (os : List g.row.B-Operand.Denot). Emits m types (I32Const (pos c.args.number)) os (tag ∷ []) b c.send_one.new.bindgen) c.new.ensures sent in
    let zeros = c.in_ok-zeros.ensures in
    let close = subst (λ (zs : List g.row.B-Operand.Denot). Finishes m (tag ∷ zs) c.zero_words.new.bindgen c.close_case.new.bindgen) c.as_slice.ensures c.in_ok-close_case.ensures in
    record {
      lowers = λ realloc. bare_lowers m g.met.B.Bindgen.sound realloc c.args.number c.args.slots.now types a b _ _ _ tag c.in_ok-zeros.zeros opens const zeros.zeros close;
      flows = flows_block m types (lower_case types c.args.slots.now c.args.number None) [] (tag ∷ c.in_ok-zeros.zeros) a b c.zero_words.new.bindgen c.close_case.new.bindgen opens
          (flows_both m types (emit (I32Const (pos c.args.number))) (zero_code c.args.slots.now) [] (tag ∷ []) c.in_ok-zeros.zeros b c.send_one.new.bindgen c.zero_words.new.bindgen const zeros.flows) close;
    }
