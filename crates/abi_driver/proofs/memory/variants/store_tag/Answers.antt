use Rattle.std.specs.Int.{w32}
use Rattle.std.proofs.Common.{List, [], ◌∷◌, length, refl, ap, subst}
use Rattle.std.proofs.lemmas.Int.{to_z_pos}
use Rattle.wit_layout.specs.Extent.{discriminant_grain}
use Rattle.abi_bindgen.specs.Instructions.{Emits}
use Rattle.abi_bindgen.specs.declared.instruction.Instruction.{Instruction}
use Rattle.abi_bindgen.specs.declared.instruction.Instruction.TheVariants.{I32Const}
use Rattle.abi_driver.proofs.Sendable.{makeable_number_store}
use Rattle.abi_driver.proofs.memory.variants.store_tag.Goals as goal

pub send_one-requires : goal.send_one-requires
send_one-requires g c = record { ready = record { built = refl; operands = ap length c.new.ensures; suits = tt }; makes = λ k h. h }

pub store_word-requires : goal.store_word-requires
store_word-requires g c =
    let may = makeable_number_store g.B.Bindgen.meaning c.args.resolve.now c.args.offset c.tag_store-store.result c.send_one.new.bindgen c.in_ok-tag.tag c.args.address.now (discriminant_grain c.args.cases) c.tag_store-store.ensures in
    record { sendable = may.sendable; silent = may.makes }

pub returns : goal.returns
returns g c =
    let types = c.args.resolve.now.types in
    let tag = c.in_ok-tag.tag in
    let Sent : Instruction → List g.row.B-Operand.Denot → Type 0 = λ i os. Emits g.B.Bindgen.meaning types i os (tag ∷ []) c.args.bindgen.now c.send_one.new.bindgen in
    let Stored : Instruction → Type 0 = λ i. Emits g.B.Bindgen.meaning types i (tag ∷ c.args.address.now ∷ []) [] c.send_one.new.bindgen c.store_word.new.bindgen in
    let made = subst (Sent (I32Const _)) c.new.ensures c.in_ok-tag.ensures in
    (c.send_one.new.bindgen, tag, subst (λ z. Sent (I32Const z) []) (to_z_pos w32 c.args.number c.requires) made, subst Stored c.tag_store-store.ensures c.in_ok-store_word.ensures)
