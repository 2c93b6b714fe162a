use Rattle.std.proofs.Common.{reverse, sym, ap, ◌∙◌, subst}
use Rattle.std.specs.List.{AllByRecursion}
use Rattle.func_gen.specs.declared.function_bindgen.FinishedBlock.{FinishedBlock}
use Rattle.func_gen.specs.InwardCode.{IsInwardBlock}
use Rattle.func_gen.specs.Scope.{Keeps}
use Rattle.func_gen.proofs.KeptNames.{all_others, all_used}
use Rattle.func_gen.proofs.function_bindgen.FunctionBindgen.use_blocks.Goals as goal

pub invariant_of-self-2 : goal.invariant_of-self-2
invariant_of-self-2 c =
    let Kept = λ (b : FinishedBlock). Keeps b.names c.self.inside.scope.used in
    let is = ap reverse (sym (c.into_vec-finished.ensures ∙ c.replace.ensures.value)) ∙ c.in_ok-blocks.ensures.taken in
    let others = all_others Kept c.self.inside.finished c.in_ok-blocks.blocks c.last_blocks.new.finished.items is c.self.invariant.before in
    record {
      blocks = c.self.invariant.blocks;
      small = c.self.invariant.small;
      around = c.self.invariant.around;
      before = subst (AllByRecursion Kept) (sym c.from_vec.ensures) others;
      inward = subst (AllByRecursion IsInwardBlock) (sym c.from_vec.ensures) (all_others IsInwardBlock c.self.inside.finished c.in_ok-blocks.blocks c.last_blocks.new.finished.items is c.self.invariant.inward);
    }

pub returns-clause-names : goal.returns-clause-names
returns-clause-names c =
    let Kept = λ (b : FinishedBlock). Keeps b.names c.self.inside.scope.used in
    let is = ap reverse (sym (c.into_vec-finished.ensures ∙ c.replace.ensures.value)) ∙ c.in_ok-blocks.ensures.taken in
    rw (← c.self.view_is) (all_used Kept c.self.inside.finished c.in_ok-blocks.blocks c.last_blocks.new.finished.items is c.self.invariant.before)

pub returns-clause-inward : goal.returns-clause-inward
returns-clause-inward c =
    let is = ap reverse (sym (c.into_vec-finished.ensures ∙ c.replace.ensures.value)) ∙ c.in_ok-blocks.ensures.taken in
    all_used IsInwardBlock c.self.inside.finished c.in_ok-blocks.blocks c.last_blocks.new.finished.items is c.self.invariant.inward
