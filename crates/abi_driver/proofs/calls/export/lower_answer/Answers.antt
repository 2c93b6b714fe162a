use Rattle.std.proofs.Common.{true, refl, List, sym, subst}
use Rattle.abi_driver.proofs.LeafStores.{one_of}
use Rattle.abi_bindgen.specs.Flows.{Flows}
use Rattle.abi_bindgen.specs.Code.{lower_code}
use Rattle.abi_driver.proofs.calls.export.lower_answer.Goals as goal

pub lower_flat-requires : goal.lower_flat-requires
lower_flat-requires g c = record { well = c.requires.well; down = c.requires.down; below = c.requires.below; side = c.requires.side; serves = c.requires.serves; writes = c.requires.writes; few = c.requires.few }

pub returns : goal.returns
returns g c =
    let value = c.in_ok-value.value in
    let one = one_of c.args.answer.now c.args.answer.now c.index-answer-0.result value c.requires.due refl c.index-answer-0.is c.in_ok-value.ensures in
    let m = g.B.Bindgen.meaning in
    let types = c.args.resolve.now.types in
    let code = lower_code types true c.args.ty in
    record {
      lowers = (value, one, c.in_ok-words.ensures.lowers);
      flows = subst (λ (os : List g.row.B-Operand.Denot). Flows m types code os c.in_ok-words.words c.args.bindgen.now c.lower_flat.new.bindgen) (sym one) c.in_ok-words.ensures.flows;
    }
