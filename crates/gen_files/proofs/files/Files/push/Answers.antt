use Rattle.gen_files.proofs.Pushed.{entry_of-pushed, entry_of-pushed_other, IsAscending-pushed}
use Rattle.gen_files.proofs.files.Files.push.Goals as goal

pub invariant_of-self : goal.invariant_of-self
invariant_of-self c = IsAscending-pushed c.push_into.result _ _ _ _ c.self.invariant c.push_into.ensures.ok c.push_into.ensures.err

pub returns-clause-pushed : goal.returns-clause-pushed
returns-clause-pushed c =
    entry_of-pushed c.push_into.result c.self.inside.entries.items c.args.self.now _ c.args.name.now c.args.bytes.now c.self.view_is c.self.invariant c.push_into.ensures.ok

pub returns-clause-others : goal.returns-clause-others
returns-clause-others c =
    entry_of-pushed_other c.push_into.result c.self.inside.entries.items c.args.self.now _ c.args.name.now c.args.bytes.now c.self.view_is c.push_into.ensures.ok

pub returns-clause-ascending : goal.returns-clause-ascending
returns-clause-ascending c =
    IsAscending-pushed c.push_into.result _ _ _ _ c.self.invariant c.push_into.ensures.ok c.push_into.ensures.err
