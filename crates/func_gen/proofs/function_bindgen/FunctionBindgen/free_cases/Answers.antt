use Rattle.std.proofs.Common.{◌≡◌, ◌+◌, ℕ, suc, [], ◌∷◌, ◌++◌, length, replicate, reverse, ap, ap₂, ◌∙◌, subst, sym, arith, map}
use Rattle.std.specs.List.{AllByRecursion, list_all}
use Rattle.std.proofs.lemmas.List.{length-replicate, length-reverse, reverse-append}
use Rattle.rust_tree.specs.declared.pattern.ArmPattern.TheVariants as arm
use Rattle.rust_tree.specs.declared.stmt.MatchNames.TheVariants as names_of
use Rattle.rust_tree.specs.declared.stmt.Stmt.TheVariants as stmt
use Rattle.wrapper_run.specs.Inward.{is_inward, is_inward_expr}
use Rattle.func_gen.specs.declared.function_bindgen.FinishedBlock.{FinishedBlock}
use Rattle.func_gen.specs.Added.{Appends}
use Rattle.func_gen.specs.MatchForms.{arm_of}
use Rattle.func_gen.specs.Uses.{Uses}
use Rattle.func_gen.proofs.BlocksThere.{all_back, blocks_there, none_used}
use Rattle.func_gen.specs.InwardCode.{IsInwardBlock, is_inward_arm}
use Rattle.func_gen.specs.LiftedCases.{freed_body}
use Rattle.func_gen.proofs.InwardArms.{number_inward}
use Rattle.func_gen.proofs.InwardForms.{match_inward, operand_inward}
use Rattle.func_gen.proofs.function_bindgen.FunctionBindgen.free_cases.Goals as goal

pub use_blocks-requires : goal.use_blocks-requires
use_blocks-requires c =
    let zero : ℕ = 0 in
    let there = blocks_there c.args.self.now (replicate (c.args.count + 1) zero) c.requires.blocks in
    record { there = omega (arith, there, length-replicate (c.args.count + 1) zero) }

pub freed_arms-requires-clause-none : goal.freed_arms-requires-clause-none
freed_arms-requires-clause-none c =
    let None = λ (b : FinishedBlock). b.results ≡ [] in
    let none = none_used c.in_ok-blocks.blocks (c.args.count + 1) c.args.self.now c.use_blocks.new.self c.in_ok-blocks.ensures.uses c.requires.blocks in
    all_back None c.parted-last.result.1 (subst (AllByRecursion None) c.parted-last.ensures none).1

pub freed_body-body-requires : goal.freed_body-body-requires
freed_body-body-requires c =
    let None = λ (b : FinishedBlock). b.results ≡ [] in
    let none = none_used c.in_ok-blocks.blocks (c.args.count + 1) c.args.self.now c.use_blocks.new.self c.in_ok-blocks.ensures.uses c.requires.blocks in
    record { none = (subst (AllByRecursion None) c.parted-last.ensures none).0; stmts = (subst (AllByRecursion IsInwardBlock) c.parted-last.ensures c.in_ok-blocks.ensures.inward).0 }

pub returns : goal.returns
returns c =
    let old = c.args.self.now in
    let mid = c.use_blocks.new.self in
    let new = c.add_effect.new.self in
    let blocks = c.in_ok-blocks.blocks in
    let last = c.parted-last.result.0 in
    let others = c.parted-last.result.1 in
    let uses = c.in_ok-blocks.ensures.uses in
    let is : blocks ≡ last ∷ others = c.parted-last.ensures in
    let long = ap length is in
    let next : c.args.count + 1 ≡ suc c.args.count = omega arith in
    let None = λ (b : FinishedBlock). b.results ≡ [] in
    let none = subst (AllByRecursion None) is (none_used blocks (c.args.count + 1) old mid uses c.requires.blocks) in
    let are = c.in_ok-push.ensures.ok ∙ ap₂ (λ arms b. arms ++ arm_of arm.AnyOther b ∷ []) c.in_ok-arms.ensures.arms c.freed_body-body.ensures.body in
    record {
      used = blocks;
      mid = mid;
      first = reverse others;
      last = last;
      split = ap reverse is ∙ reverse-append (last ∷ []) others;
      many = length-reverse others ∙ omega (arith, long, uses.many);
      uses = subst (λ k. Uses blocks k old mid) next uses;
      none = all_back None others none.1;
      none_last = none.0;
      inward = c.in_ok-arms.ensures.inward;
      inward_last = ap is_inward (sym c.freed_body-body.ensures.body) ∙ c.freed_body-body.ensures.inward;
      adds = subst (λ ss. Appends mid new ss []) (ap₂ (λ e arms. stmt.Match names_of.Nothing e arms ∷ []) c.in_ok-e.ensures are) c.in_ok-add_effect.ensures.adds;
      scope = c.in_ok-add_effect.ensures.scope;
    }

pub freed_arms-requires-clause-stmts : goal.freed_arms-requires-clause-stmts
freed_arms-requires-clause-stmts c = all_back IsInwardBlock c.parted-last.result.1 (subst (AllByRecursion IsInwardBlock) c.parted-last.ensures c.in_ok-blocks.ensures.inward).1

pub add_effect-requires : goal.add_effect-requires
add_effect-requires c =
    let are = c.in_ok-push.ensures.ok ∙ ap₂ (λ arms b. arms ++ arm_of arm.AnyOther b ∷ []) c.in_ok-arms.ensures.arms c.freed_body-body.ensures.body in
    let last = ap is_inward (sym c.freed_body-body.ensures.body) ∙ c.freed_body-body.ensures.inward in
    let each = ap (list_all is_inward_arm) are ∙ number_inward 0 (map freed_body (reverse c.parted-last.result.1)) arm.AnyOther (freed_body c.parted-last.result.0) c.in_ok-arms.ensures.inward last in
    record { inward = match_inward c.in_ok-e.e (ap is_inward_expr c.in_ok-e.ensures ∙ operand_inward c.args.e.now c.requires.operand) names_of.Nothing _ each }
