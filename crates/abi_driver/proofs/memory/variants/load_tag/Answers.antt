use Rattle.std.proofs.Common.{[], ◌∷◌, subst}
use Rattle.wit_layout.specs.Extent.{discriminant_grain}
use Rattle.abi_bindgen.specs.Instructions.{Emits}
use Rattle.abi_bindgen.specs.declared.instruction.Instruction.{Instruction}
use Rattle.abi_driver.proofs.Sendable.{makeable_number_load}
use Rattle.abi_driver.proofs.memory.variants.load_tag.Goals as goal

pub load_word-requires : goal.load_word-requires
load_word-requires g c =
    let may = makeable_number_load g.B.Bindgen.meaning c.args.resolve.now c.args.offset c.tag_load-load.result c.args.bindgen.now c.args.address.now (discriminant_grain c.args.cases) c.tag_load-load.ensures in
    record { sendable = may.sendable; makes = may.makes }

pub returns : goal.returns
returns g c =
    subst (λ (i : Instruction). Emits g.B.Bindgen.meaning c.args.resolve.now.types i (c.args.address.now ∷ []) (c.in_ok-tag.tag ∷ []) c.args.bindgen.now c.load_word.new.bindgen) c.tag_load-load.ensures c.in_ok-tag.ensures
