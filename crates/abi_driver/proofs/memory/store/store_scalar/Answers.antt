use Rattle.std.proofs.Common.{length, sym, ap, ◌∙◌, arith, List, subst, [], ◌∷◌}
use Rattle.abi_driver.proofs.LeafStores.{one_word, scalar_stores}
use Rattle.abi_bindgen.proofs.LowerSteps.{scalar_lowers}
use Rattle.abi_bindgen.proofs.FlowSteps.{flows_as}
use Rattle.abi_driver.proofs.MemoryCode.{store_scalar_code}
use Rattle.abi_driver.proofs.Sendable.{makeable_lower, makeable_store}
use Rattle.abi_driver.proofs.ScalarTouched.{is_stored}
use Rattle.abi_driver.proofs.FlowStores.{flows_stored}
use Rattle.abi_bindgen.specs.Flow.{emit}
use Rattle.abi_bindgen.specs.Instructions.{Emits}
use Rattle.abi_driver.proofs.memory.store.store_scalar.Goals as goal

pub unreachable-requires : goal.unreachable-requires
unreachable-requires g c = is_stored c.args.ty c.args.lower c.args.offset c.requires (sym c.scalar_store.ensures ∙ c.in_default.is)

pub lower_by-requires : goal.lower_by-requires
lower_by-requires g c = (makeable_lower g.B.Bindgen.meaning c.args.resolve.now c.args.lower c.args.bindgen.now c.args.value c.args.ty c.requires).sendable

pub bounds-as_slice-0 : goal.bounds-as_slice-0
bounds-as_slice-0 g c =
    let may = makeable_lower g.B.Bindgen.meaning c.args.resolve.now c.args.lower c.args.bindgen.now c.args.value c.args.ty c.requires in
    omega (arith, ap length c.as_slice.ensures, may.makes (length c.in_ok-words.words) c.in_ok-words.ensures.results)

pub store_word-requires : goal.store_word-requires
store_word-requires g c =
    let may = makeable_store g.B.Bindgen.meaning c.args.resolve.now c.args.offset c.in-Some.store c.lower_by.new.bindgen c.in_ok-word.word c.args.address.now c.args.ty (sym c.scalar_store.ensures ∙ c.in-Some.is) in
    record { sendable = may.sendable; silent = may.makes }

pub returns : goal.returns
returns g c =
    let m = g.B.Bindgen.meaning in
    let sound = g.met.B.Bindgen.sound in
    let types = c.args.resolve.now.types in
    let one = one_word m types c.args.ty c.args.lower _ _ c.args.value c.in_ok-words.words c.as_slice.result.now c.index-as_slice-0.result c.in_ok-word.word c.requires c.in_ok-words.ensures c.as_slice.ensures c.index-as_slice-0.is c.in_ok-word.ensures in
    let is = sym c.scalar_store.ensures ∙ c.in-Some.is in
    let e = subst (λ (os : List g.row.B-Operand.Denot). Emits m types c.args.lower (c.args.value ∷ []) os c.args.bindgen.now c.lower_by.new.bindgen) one c.in_ok-words.ensures in
    record {
      stores = λ realloc. scalar_stores m sound types realloc c.args.ty c.in-Some.store c.args.offset _ _ _ c.args.value c.in_ok-word.word c.args.address.now c.in_ok-words.words is one
          (scalar_lowers m sound types realloc c.args.ty c.args.lower _ _ c.args.value c.in_ok-words.words c.requires c.in_ok-words.ensures) c.in_ok-store_word.ensures;
      flows = λ realloc. flows_as m types _ _ _ _ _ _ (store_scalar_code types c.args.offset realloc c.args.ty c.args.lower c.in-Some.store c.requires is)
          (flows_stored m types (emit c.args.lower) c.in-Some.store c.args.address.now c.args.value c.in_ok-word.word _ _ _ e c.in_ok-store_word.ensures);
    }
