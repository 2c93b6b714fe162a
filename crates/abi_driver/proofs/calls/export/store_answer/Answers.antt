use Rattle.std.proofs.Common.{true, refl, ◌∙◌, subst, List, sym, [], ◌∷◌}
use Rattle.wrapper_meaning.specs.Shape.{shape_of}
use Rattle.abi_bindgen.specs.Code.{ask_for, store_code, store_answer_code}
use Rattle.abi_bindgen.specs.Frees.{nowhere}
use Rattle.abi_bindgen.specs.Flow.{same, leading, both, alone}
use Rattle.abi_bindgen.specs.Flows.{Flows}
use Rattle.wit_model.specs.declared.size.ArchitectureSize.{ArchitectureSize}
use Rattle.abi_driver.specs.Stores.{LowersToMemory}
use Rattle.abi_driver.proofs.LeafStores.{one_of}
use Rattle.abi_bindgen.proofs.Writing.{writes_later}
use Rattle.abi_bindgen.proofs.FlowSteps.{flows_then, flows_both, flows_alone}
use Rattle.abi_driver.proofs.calls.export.store_answer.Goals as goal

pub store_type-requires : goal.store_type-requires
store_type-requires g c =
    let grows = c.in_ok-address.ensures.points.2.grows in
    let types = c.args.resolve.now.types in
    let knows = grows.knows types c.requires.knows in
    record {
      well = c.requires.well;
      down = c.requires.down;
      below = c.requires.below;
      side = grows.exports ∙ c.requires.side;
      knows = knows;
      serves = c.requires.serves;
      writes = writes_later g.B.Bindgen.meaning types _ _ c.args.ty grows c.requires.writes;
      low = c.start-start.ensures.low types c.args.ty knows c.requires.below;
    }

pub returns : goal.returns
returns g c =
    let types = c.args.resolve.now.types in
    let value = c.in_ok-value.value in
    let asked = c.in_ok-address.ensures in
    let m = g.B.Bindgen.meaning in
    let at = c.start-start.ensures.here in
    let stored = c.in_ok-store_type.ensures in
    let stores = subst (λ (s : ArchitectureSize). LowersToMemory m true (shape_of types c.args.ty) value c.in_ok-address.address s c.point_at.new.bindgen c.store_type.new.bindgen) at stored.stores in
    let address = c.in_ok-address.address in
    let before = c.args.bindgen.now in
    let pointed = c.point_at.new.bindgen in
    let after = c.store_type.new.bindgen in
    let store = store_code types true c.args.ty nowhere in
    let asks = ask_for (shape_of types c.args.ty) in
    let answered = one_of c.args.answer.now c.args.answer.now c.index-answer-0.result value c.requires.due refl c.index-answer-0.is c.in_ok-value.ensures in
    let put = subst (λ (s : ArchitectureSize). Flows m types (store_code types true c.args.ty s) (address ∷ value ∷ []) [] pointed after) at stored.flows in
    let asks_first = flows_both m types (alone asks) same (value ∷ []) (address ∷ []) (value ∷ []) before pointed pointed (flows_alone m types asks (value ∷ []) (address ∷ []) before pointed asked.flows) (refl, refl) in
    let gives = flows_both m types (leading 1) store (address ∷ value ∷ []) (address ∷ []) [] pointed pointed after (refl, refl) put in
    let whole = flows_then m types (both (alone asks) same) (both (leading 1) store) (value ∷ []) (address ∷ value ∷ []) (address ∷ []) before pointed after asks_first gives in
    let code = store_answer_code types c.args.ty in
    record {
      stores = record {
        value = value;
        address = c.in_ok-address.address;
        middle = c.point_at.new.bindgen;
        answered = answered;
        gives = c.in_ok-given.ensures;
        points = asked.points;
        stores = stores;
      };
      flows = subst (λ (os : List g.row.B-Operand.Denot). Flows m types code os c.in_ok-given.given before after) (sym answered) (subst (λ (os : List g.row.B-Operand.Denot). Flows m types code (value ∷ []) os before after) (sym c.in_ok-given.ensures) whole);
    }
