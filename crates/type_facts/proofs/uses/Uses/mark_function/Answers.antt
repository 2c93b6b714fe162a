use Rattle.type_facts.specs.Roots.{param_types, result_types}
use Rattle.type_facts.proofs.Marking.{mark_all-append}
use Rattle.type_facts.proofs.uses.Uses.mark_function.Goals as goal

pub returns-in-Export : goal.returns-in-Export
returns-in-Export c =
    let both = mark_all-append c.args.self.now.owned (param_types c.args.function.now) (result_types c.args.function.now) in
    rw c.in-Export.is (cc (both, c.mark_params-in-Export.ensures, c.mark_part-in-Export.ensures, c.mark_part-in-Export-2.ensures, c.error_type-error.ensures))
