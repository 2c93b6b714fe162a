use Rattle.std.proofs.Common.{List, [], ◌∷◌, length, ap, ◌∙◌, subst}
use Rattle.wit_layout.specs.Extent.{discriminant_grain}
use Rattle.abi_bindgen.specs.Instructions.{Emits}
use Rattle.abi_bindgen.specs.NumberTouches.{tag_store}
use Rattle.abi_bindgen.specs.declared.instruction.Instruction.{Instruction}
use Rattle.abi_bindgen.specs.declared.instruction.Instruction.TheVariants.{EnumLower}
use Rattle.abi_bindgen.specs.Flow.{emit}
use Rattle.abi_bindgen.proofs.EnumLowers.{enum_lowers}
use Rattle.abi_driver.proofs.EnumSteps.{enum_stores}
use Rattle.abi_driver.proofs.LeafStores.{one_of}
use Rattle.abi_driver.proofs.MemoryCode.{store_enum_code}
use Rattle.abi_driver.proofs.Sendable.{makeable_number_store}
use Rattle.abi_bindgen.proofs.Records.{enum_shape}
use Rattle.abi_bindgen.proofs.FlowSteps.{flows_as}
use Rattle.abi_driver.proofs.StoreSteps.{stores_as}
use Rattle.abi_driver.proofs.FlowStores.{flows_stored}
use Rattle.abi_driver.proofs.memory.enums.store_enum.Goals as goal

pub store_word-requires : goal.store_word-requires
store_word-requires g c =
    let may = makeable_number_store g.B.Bindgen.meaning c.args.resolve.now c.args.offset c.tag_store-store.result c.lower_by.new.bindgen c.in_ok-tag.tag c.args.address.now (discriminant_grain c.len-cases.result) c.tag_store-store.ensures in
    record { sendable = may.sendable; silent = may.makes }

pub returns : goal.returns
returns g c =
    let m = g.B.Bindgen.meaning in
    let sound = g.met.B.Bindgen.sound in
    let types = c.args.resolve.now.types in
    let here = c.requires.here in
    let members = c.args.members.now in
    let tag = c.in_ok-tag.tag in
    let made = c.in_ok-words.ensures in
    let one = one_of c.in_ok-words.words c.as_slice.result.now c.index-as_slice-0.result tag made.results c.as_slice.ensures c.index-as_slice-0.is c.in_ok-tag.ensures in
    let e = subst (λ (os : List g.row.B-Operand.Denot). Emits m types (EnumLower c.args.id) (c.args.value ∷ []) os c.args.bindgen.now c.lower_by.new.bindgen) one made in
    let is = c.tag_store-store.ensures ∙ ap (λ n. tag_store n c.args.offset) c.len-cases.ensures in
    let store = subst (λ (i : Instruction). Emits m types i (tag ∷ c.args.address.now ∷ []) [] c.lower_by.new.bindgen c.store_word.new.bindgen) is c.in_ok-store_word.ensures in
    let most = c.requires.most in
    let shape = enum_shape types c.requires.down c.args.id.0 here.entry here.stands members here.kind in
    record {
      stores = λ realloc. stores_as m sound types realloc _ _ _ _ c.args.value c.args.address.now c.args.offset shape
          (enum_stores m sound types realloc members _ _ _ c.args.value tag c.args.address.now c.args.offset most (enum_lowers m types realloc c.args.id members _ _ c.args.value (tag ∷ []) most here e) store);
      flows = λ realloc. flows_as m types _ _ _ _ _ _ (store_enum_code types c.requires.down c.args.id here.entry here.stands c.args.offset realloc members here.kind)
          (flows_stored m types (emit (EnumLower c.args.id)) (tag_store (length members) c.args.offset) c.args.address.now c.args.value tag _ _ _ e store);
    }
