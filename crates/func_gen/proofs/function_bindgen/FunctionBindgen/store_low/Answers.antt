use Rattle.func_gen.proofs.StoreRows.{small_store_row, small_store_plainly}
use Rattle.func_gen.proofs.InwardForms.{store_small_inward}
use Rattle.func_gen.proofs.PlainOperands.{emits_plainly}
use Rattle.func_gen.proofs.function_bindgen.FunctionBindgen.store_low.Goals as goal

pub returns : goal.returns
returns c =
    let types = c.args.resolve.now.types in
    let given = c.in_ok-value.ensures in
    emits_plainly types c.args.inst.now _ _ _ _ _ _ (small_store_plainly c.args.inst.now c.args.place.0 c.args.place.1 c.requires.store) given.both c.requires.empty
    (small_store_row types c.args.self.now _ c.args.inst.now c.args.place.0 c.in_ok-value.value c.in_ok-value.address given.first given.second c.in_ok-add_effect.ensures.scope c.args.place.1 c.requires.store c.in_ok-add_effect.ensures.adds)

pub add_effect-requires : goal.add_effect-requires
add_effect-requires c =
    let given = c.in_ok-value.ensures in
    record { inward = store_small_inward c.in_ok-value.value c.in_ok-value.address given.first given.second c.args.place.0 c.args.place.1 }
