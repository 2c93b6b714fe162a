use Rattle.std.proofs.Common.{true, [], ap, ◌∙◌}
use Rattle.func_gen.specs.declared.function_bindgen.Code.{Code}
use Rattle.wrapper_closing.proofs.CallsKept.{import_uncalled}
use Rattle.wrapper_closing.proofs.ImportDeclares.{import_closed}
use Rattle.wrapper_closing.proofs.Returned.{import_few}
use Rattle.wrapper_closing.proofs.StepsDeclare.{none_open}
use Rattle.wrapper_closing.proofs.WrittenParts.{made_writes}
use Rattle.wrapper_closing.proofs.imports.import_body.Goals as goal

pub call-requires-clause-fresh : goal.call-requires-clause-fresh
call-requires-clause-fresh c = let begins = c.in_ok-bindgen.ensures.begins in record { closed = begins.closed; unasked = begins.unasked; uncalled = begins.uncalled }

pub call-requires-clause-writes : goal.call-requires-clause-writes
call-requires-clause-writes c = made_writes c.args.resolve.now.types c.args.func.now true c.args.parts c.in_ok-bindgen.bindgen c.in_ok-bindgen.ensures.made c.requires.writes

pub finish-requires-clause-closed : goal.finish-requires-clause-closed
finish-requires-clause-closed c =
    import_closed c.args.resolve.now.types c.args.func [] c.in_ok-bindgen.bindgen c.call.new.bindgen c.in_ok-call.ensures.flows (none_open c.in_ok-bindgen.bindgen c.in_ok-bindgen.ensures.begins.closed)

pub finish-requires-clause-few : goal.finish-requires-clause-few
finish-requires-clause-few c = import_few c.args.resolve.now.types c.args.func [] c.in_ok-bindgen.bindgen c.call.new.bindgen c.in_ok-call.ensures.flows

pub returns : goal.returns
returns c =
    let types = c.args.resolve.now.types in
    let old = c.in_ok-bindgen.bindgen in
    let new = c.call.new.bindgen in
    let made = c.in_ok-bindgen.ensures.made in
    let sent = c.in_ok-call.ensures in
    let body = c.finish.ensures in
    record {
      old = old;
      new = new;
      made = made;
      many = c.requires.many;
      calls = sent.calls;
      flows = sent.flows;
      body_of = body;
      headless = body.call ∙ import_uncalled types c.args.func [] old new sent.flows (none_open old c.in_ok-bindgen.ensures.begins.closed) (ap (λ (k : Code). k.call) made.empty);
    }
