use Rattle.std.proofs.Common.{true, []}
use Rattle.wrapper_closing.proofs.ImportDeclares.{import_closed}
use Rattle.wrapper_closing.proofs.Returned.{import_few}
use Rattle.wrapper_closing.proofs.StepsDeclare.{none_open}
use Rattle.wrapper_closing.proofs.WrittenParts.{made_writes}
use Rattle.command_tests.proofs.bodies.code.called_import.Goals as goal

pub call-requires-clause-fresh : goal.call-requires-clause-fresh
call-requires-clause-fresh c = let begins = c.in_ok-bindgen.ensures.begins in record { closed = begins.closed; unasked = begins.unasked; uncalled = begins.uncalled }

pub finish-requires-clause-closed : goal.finish-requires-clause-closed
finish-requires-clause-closed c =
    import_closed c.args.resolve.now.types c.args.func [] c.in_ok-bindgen.bindgen c.call.new.bindgen c.in_ok-call.ensures.flows (none_open c.in_ok-bindgen.bindgen c.in_ok-bindgen.ensures.begins.closed)

pub finish-requires-clause-few : goal.finish-requires-clause-few
finish-requires-clause-few c = import_few c.args.resolve.now.types c.args.func [] c.in_ok-bindgen.bindgen c.call.new.bindgen c.in_ok-call.ensures.flows

pub call-requires-clause-writes : goal.call-requires-clause-writes
call-requires-clause-writes c = made_writes c.args.resolve.now.types c.args.func.now true c.args.parts c.in_ok-bindgen.bindgen c.in_ok-bindgen.ensures.made c.requires.writes
