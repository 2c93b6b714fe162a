use Rattle.std.proofs.Common.{◌≡◌, ◌∙◌, true, None, sym}
use Rattle.gen_accept.specs.Cause.{keeps_rules}
use Rattle.gen_accept.specs.TooLarge.{first_large}
use Rattle.gen_accept.proofs.CauseLemmas.{accepted-from, rules-parts}
use Rattle.gen_accept.proofs.FunctionLemmas.{exports-within, imports-within}
use Rattle.gen_accept.proofs.LargeLemmas.{none-shallow}
use Rattle.gen_accept.proofs.accept.without_fault.Goals as goal

pub first_large-requires-clause-imports : goal.first_large-requires-clause-imports
first_large-requires-clause-imports c = imports-within c.args.resolve.now c.args.id.0 c.args.world.now (c.requires.well c.in_default.is) c.requires.found

pub first_large-requires-clause-exports : goal.first_large-requires-clause-exports
first_large-requires-clause-exports c = exports-within c.args.resolve.now c.args.id.0 c.args.world.now (c.requires.well c.in_default.is) c.requires.found

pub first_clash_of-requires-clause-shallow : goal.first_clash_of-requires-clause-shallow
first_clash_of-requires-clause-shallow c =
    let small : first_large c.args.resolve.now.types c.args.world.now ≡ None = sym c.in_ok-large.ensures ∙ c.in_default-2.is in
    none-shallow c.args.resolve.now.types c.args.world.now small

pub first_clash_of-requires-clause-listed : goal.first_clash_of-requires-clause-listed
first_clash_of-requires-clause-listed c =
    let kept : keeps_rules c.args.resolve.now ≡ true = sym c.in_ok-keeps_rules.ensures ∙ c.if-not-branch.false in
    (rules-parts c.args.resolve.now kept).1

pub returns-in-None-clause-accepted : goal.returns-in-None-clause-accepted
returns-in-None-clause-accepted c =
    let kept : keeps_rules c.args.resolve.now ≡ true = sym c.in_ok-keeps_rules.ensures ∙ c.if-not-branch.false in
    accepted-from c.args.opts.now c.args.resolve.now c.args.world.now kept (sym c.in_ok-large.ensures ∙ c.in_default-2.is) (sym c.in_ok-clash.ensures ∙ c.in-None.is)
