use Rattle.abi_bindgen.specs.Code.{get_arguments}
use Rattle.abi_bindgen.specs.Flows.{Flows}
use Rattle.abi_driver.specs.Exports.{ReadsWords}
use Rattle.std.proofs.Common.{[]}
use Rattle.abi_driver.proofs.calls.export.read_words.Given as goal

abbrev pub invariant-loop-i : goal.invariant-loop-i
invariant-loop-i g l =
    let m = g.B.Bindgen.meaning in
    record {
      reads : ReadsWords m l.first l.i l.words l.initial.bindgen l.bindgen;
      flows : Flows m l.resolve.types (get_arguments l.first l.words) [] l.words l.initial.bindgen l.bindgen;
    }
