use Rattle.std.proofs.Common.{List, Option, sym, subst}
use Rattle.func_gen.specs.declared.type_site.TypeSite.{TypeSite}
use Rattle.wrapper_closing.specs.Parts.{CanWriteFunction}
use Rattle.rust_gen.proofs.CalledMethods.{calls_its_method}
use Rattle.rust_gen.proofs.export.export_code.Goals as goal

pub export_body-requires-clause-serves : goal.export_body-requires-clause-serves
export_body-requires-clause-serves c = c.requires.code.serves

pub export_body-requires-clause-small : goal.export_body-requires-clause-small
export_body-requires-clause-small c = c.requires.code.small

pub export_body-requires-clause-writes : goal.export_body-requires-clause-writes
export_body-requires-clause-writes c = subst (λ (sites : List (Option TypeSite)). CanWriteFunction c.args.resolve.now.types sites c.args.f.now) (sym c.in_ok-parts.ensures.written) c.requires.writes

pub code_of-requires : goal.code_of-requires
code_of-requires c = c.in_ok-body.ensures.method

pub returns-clause-calls : goal.returns-clause-calls
returns-clause-calls c = calls_its_method c.args.resolve.now.types c.args.f c.in_ok-parts.parts c.in_ok-body.body c.code_of.result.call c.in_ok-body.ensures c.code_of.ensures.call
