use Rattle.std.proofs.Common.{[], ◌∷◌, ◌++◌, length, reverse, sym, ap, ap₂, ◌∙◌, subst}
use Rattle.rust_tree.specs.declared.pattern.ArmPattern.TheVariants as arm
use Rattle.rust_tree.specs.declared.runtime_item.RuntimeItem.TheVariants.{InvalidEnumDiscriminant}
use Rattle.rust_tree.specs.declared.stmt.MatchNames.TheVariants as names_of
use Rattle.rust_tree.specs.declared.stmt.Stmt.TheVariants as stmt
use Rattle.wrapper_run.specs.Inward.{is_inward}
use Rattle.func_gen.specs.Added.{Appends}
use Rattle.func_gen.specs.LiftedCases.{lifted_bodies, invalid_body}
use Rattle.func_gen.specs.MatchForms.{arm_of}
use Rattle.func_gen.proofs.BlocksThere.{used_few, all_back}
use Rattle.func_gen.proofs.Forming.{one_since}
use Rattle.func_gen.proofs.Rows.{appends_both, fresh_since}
use Rattle.std.specs.List.{list_all}
use Rattle.func_gen.specs.InwardCode.{IsInwardBlock, is_inward_arm}
use Rattle.func_gen.proofs.InwardArms.{number_inward}
use Rattle.func_gen.proofs.function_bindgen.FunctionBindgen.lift_cases.Goals as goal

pub lifted_arms-requires-clause-few : goal.lifted_arms-requires-clause-few
lifted_arms-requires-clause-few c = used_few c.in_ok-blocks.blocks (length c.args.cases.now) c.args.self.now c.use_blocks.new.self c.in_ok-blocks.ensures.uses c.requires.few

pub returns : goal.returns
returns c =
    let mid = c.use_blocks.new.self in
    let asked = c.ask.new.self in
    let name = c.in_ok-name.name in
    let bodies = lifted_bodies c.args.cases.now (reverse c.in_ok-blocks.blocks) in
    let are = c.in_ok-push.ensures.ok ∙ ap₂ (λ arms b. arms ++ arm_of arm.AnyOther b ∷ []) c.in_ok-arms.ensures.arms c.in_ok-body.ensures.body in
    let added = subst (λ arms. Appends asked c.add_match.new.self (stmt.Match (names_of.One name) c.args.e.now arms ∷ []) []) are c.in_ok-name.ensures.adds in
    record {
      used = c.in_ok-blocks.blocks;
      mid = mid;
      uses = c.in_ok-blocks.ensures.uses;
      few = used_few c.in_ok-blocks.blocks (length c.args.cases.now) c.args.self.now mid c.in_ok-blocks.ensures.uses c.requires.few;
      inward = c.in_ok-arms.ensures.inward;
      inward_last = ap is_inward (sym c.in_ok-body.ensures.body) ∙ c.in_ok-body.ensures.inward;
      adds = appends_both mid asked c.add_match.new.self [] _ (InvalidEnumDiscriminant ∷ []) [] c.in_ok-ask.ensures.asks added;
      fresh = fresh_since mid asked c.add_match.new.self name c.in_ok-ask.ensures.scope c.in_ok-name.ensures.fresh;
      takes = one_since mid.scope asked.scope c.add_match.new.self.scope _ name c.in_ok-ask.ensures.scope c.in_ok-name.ensures.takes;
    }

pub lifted_arms-requires-clause-stmts : goal.lifted_arms-requires-clause-stmts
lifted_arms-requires-clause-stmts c = all_back IsInwardBlock c.in_ok-blocks.blocks c.in_ok-blocks.ensures.inward

pub add_match-requires-clause-inward : goal.add_match-requires-clause-inward
add_match-requires-clause-inward c =
    let bodies = lifted_bodies c.args.cases.now (reverse c.in_ok-blocks.blocks) in
    let are = c.in_ok-push.ensures.ok ∙ ap₂ (λ arms b. arms ++ arm_of arm.AnyOther b ∷ []) c.in_ok-arms.ensures.arms c.in_ok-body.ensures.body in
    ap (list_all is_inward_arm) are ∙ number_inward 0 bodies arm.AnyOther invalid_body c.in_ok-arms.ensures.inward (ap is_inward (sym c.in_ok-body.ensures.body) ∙ c.in_ok-body.ensures.inward)
