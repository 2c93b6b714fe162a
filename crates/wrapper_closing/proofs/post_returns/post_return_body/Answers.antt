use Rattle.std.proofs.Common.{◌≤◌, false, [], sym, ap, ◌∙◌, subst, arith}
use Rattle.abi_bindgen.specs.Code.{post_return_code}
use Rattle.func_gen.specs.declared.function_bindgen.Code.{Code}
use Rattle.wit_model.proofs.WellFormedLemmas.{types_go_down}
use Rattle.wit_layout.proofs.SignatureSteps.{result_in_table}
use Rattle.wrapper_closing.proofs.CallsKept.{post_return_uncalled}
use Rattle.wrapper_closing.proofs.Returned.{GivesFew}
use Rattle.wrapper_closing.proofs.StepsDeclare.{closed_still, none_open}
use Rattle.wrapper_closing.proofs.post_returns.post_return_body.Goals as goal

pub post_return-requires-clause-down : goal.post_return-requires-clause-down
post_return-requires-clause-down c = types_go_down c.args.resolve.now c.requires.well.unbroken

pub post_return-requires-clause-below : goal.post_return-requires-clause-below
post_return-requires-clause-below c = result_in_table c.args.resolve.now c.args.func.now c.requires.within

pub finish-requires-clause-closed : goal.finish-requires-clause-closed
finish-requires-clause-closed c =
    closed_still c.args.resolve.now.types (post_return_code c.args.resolve.now.types c.args.func.now.result) [] [] c.in_ok-bindgen.bindgen c.post_return.new.bindgen c.in_ok-post_return.ensures.flows (none_open c.in_ok-bindgen.bindgen c.in_ok-bindgen.ensures.begins.closed)

pub finish-requires-clause-few : goal.finish-requires-clause-few
finish-requires-clause-few c = let none : 0 ≤ 1 = omega arith in subst GivesFew (sym c.in_ok-post_return.ensures.frees.returned) none

pub returns : goal.returns
returns c =
    let types = c.args.resolve.now.types in
    let old = c.in_ok-bindgen.bindgen in
    let new = c.post_return.new.bindgen in
    let made = c.in_ok-bindgen.ensures.made in
    let sent = c.in_ok-post_return.ensures in
    let body = c.finish.ensures in
    record {
      old = old;
      new = new;
      made = made;
      frees = sent.frees;
      flows = sent.flows;
      body_of = body;
      headless = body.call ∙ post_return_uncalled types c.args.func.now.result [] old new sent.flows (none_open old c.in_ok-bindgen.ensures.begins.closed) (ap (λ (k : Code). k.call) made.empty);
    }
