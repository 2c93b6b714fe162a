use Rattle.gen_accept.proofs.FunctionLemmas.{exports-within, imports-within}
use Rattle.gen_accept.proofs.names.declared_names.Goals as goal

pub defined_types-requires-clause-analyzed : goal.defined_types-requires-clause-analyzed
defined_types-requires-clause-analyzed c = (c.args.id, c.requires.found, c.in_ok-facts.ensures)

pub scopes_of-requires-clause-imports : goal.scopes_of-requires-clause-imports
scopes_of-requires-clause-imports c = imports-within c.args.resolve.now c.args.id.0 c.args.world.now c.requires.well c.requires.found

pub scopes_of-requires-clause-exports : goal.scopes_of-requires-clause-exports
scopes_of-requires-clause-exports c = exports-within c.args.resolve.now c.args.id.0 c.args.world.now c.requires.well c.requires.found
