use Rattle.std.proofs.Common.{◌≡◌, ◌+◌, length}
use Rattle.wrapper_meaning.specs.Represents.{param_words}
use Rattle.abi_bindgen.specs.Instructions.{shapes_of}
use Rattle.abi_bindgen.specs.Laws.{Adds}
use Rattle.abi_driver.proofs.CallCode as Flowing
use Rattle.abi_driver.proofs.LiftedArguments.{Rest, words_left}
use Rattle.abi_driver.proofs.calls.export.lift_arguments.Given as goal

-- what lifts the arguments that are left, lifts them all, and what flows for them, flows for all
abbrev pub invariant-loop-i : goal.invariant-loop-i
invariant-loop-i g l =
    let m = g.B.Bindgen.meaning in
    let types = l.resolve.types in
    record {
      adds : Adds m l.initial.bindgen l.bindgen;
      words : l.first + words_left types l.tys l.i ≡ length (param_words (shapes_of types l.tys));
      flows : Flowing.Rest m types l.tys l.i l.first l.values l.initial.bindgen l.bindgen;
      rest : Rest m types l.tys l.i l.first l.values l.initial.bindgen l.bindgen;
    }
