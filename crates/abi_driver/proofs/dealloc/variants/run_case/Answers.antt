use Rattle.std.proofs.Common.{List, [], ◌∷◌, length, refl, ap, subst}
use Rattle.std.proofs.lemmas.List.{nil_from_length}
use Rattle.abi_bindgen.specs.Instructions.{Emits}
use Rattle.abi_bindgen.specs.declared.instruction.Instruction.TheVariants.{GuestDeallocateVariant}
use Rattle.abi_driver.proofs.dealloc.variants.run_case.Goals as goal

pub send-requires : goal.send-requires
send-requires g c = record { built = refl; operands = ap length c.in_ok-operands.ensures; suits = (c.requires.some, c.requires.blocks) }

pub returns : goal.returns
returns g c =
    let Sent : List g.row.B-Operand.Denot → List g.row.B-Operand.Denot → Type 0 = λ os rs. Emits g.B.Bindgen.meaning c.args.resolve.now.types (GuestDeallocateVariant c.args.cases) os rs c.args.bindgen.now c.send.new.bindgen in
    let sent = subst (λ os. Sent os c.in_ok-_none._none) c.in_ok-operands.ensures c.in_ok-_none.ensures in
    subst (Sent (c.args.tag ∷ [])) (nil_from_length _ sent.results) sent
