use Rattle.std.proofs.Common.{sym, subst}
use Rattle.abi_driver.specs.Low.{IsSmallRecord}
use Rattle.func_gen.specs.declared.type_tables.TypeTables.{TypeTables}
use Rattle.wrapper_closing.specs.Parts.{CanWriteFunction}
use Rattle.command_tests.proofs.Written.{function_written}
use Rattle.command_tests.proofs.bodies.code.import_code.Goals as goal

pub called_import-requires-clause-serves : goal.called_import-requires-clause-serves
called_import-requires-clause-serves c = c.in_ok-func.ensures.serves c.args.resolve.now.types c.requires.serves

pub called_import-requires-clause-small : goal.called_import-requires-clause-small
called_import-requires-clause-small c = subst (IsSmallRecord c.args.resolve.now.types) (sym c.in_ok-func.ensures.types) c.requires.small

pub called_import-requires-clause-writes : goal.called_import-requires-clause-writes
called_import-requires-clause-writes c =
    let written = function_written c.args.resolve.now.types c.in_ok-tables.tables.sites c.in_ok-func.func c.in_ok-tables.ensures.written in
    subst (λ (tables : TypeTables). CanWriteFunction c.args.resolve.now.types tables.sites c.in_ok-func.func) (sym c.in_ok-parts.ensures.over) written
