use Rattle.std.proofs.Common.{◌≡◌, false, true, ◌∷◌, ◌++◌, [], length, reverse, ap, ap₂, ◌∙◌, subst, arith}
use Rattle.std.specs.List.{AllByRecursion, list_all}
use Rattle.std.proofs.lemmas.List.{length-reverse, reverse-append}
use Rattle.func_gen.specs.declared.function_bindgen.FinishedBlock.{FinishedBlock}
use Rattle.func_gen.specs.LiftedCases.{is_liftable}
use Rattle.func_gen.specs.Scope.{is_used}
use Rattle.func_gen.proofs.BlocksThere.{split_few, all_back}
use Rattle.func_gen.specs.InwardCode.{IsInwardBlock}
use Rattle.func_gen.proofs.emit.lifted_variants.member_arms.Goals as goal

pub lifted_arms-requires-clause-few : goal.lifted_arms-requires-clause-few
lifted_arms-requires-clause-few c = (split_few c.parted-block.result.0 c.parted-block.result.1 (subst (λ blocks. list_all is_liftable (reverse blocks) ≡ true) c.parted-block.ensures c.requires.few)).1

pub last_arm-requires : goal.last_arm-requires
last_arm-requires c =
    let number = c.args.number in
    record {
      few = (split_few c.parted-block.result.0 c.parted-block.result.1 (subst (λ blocks. list_all is_liftable (reverse blocks) ≡ true) c.parted-block.ensures c.requires.few)).0;
      inward = c.requires.inward_last;
      stmts = (subst (AllByRecursion IsInwardBlock) c.parted-block.ensures c.requires.stmts).0;
      unnamed = (subst (AllByRecursion (λ (b : FinishedBlock). is_used b.names number ≡ false)) c.parted-block.ensures c.requires.unnamed).0;
    }

pub returns : goal.returns
returns c =
    let block = c.parted-block.result.0 in
    let others = c.parted-block.result.1 in
    let is : c.args.blocks ≡ block ∷ others = c.parted-block.ensures in
    let long = ap length is in
    let few = split_few block others (subst (λ blocks. list_all is_liftable (reverse blocks) ≡ true) is c.requires.few) in
    record {
      first = reverse others;
      last = block;
      split = ap reverse is ∙ reverse-append (block ∷ []) others;
      many = length-reverse others ∙ omega (arith, c.requires.many, long);
      few = few.1;
      few_last = few.0;
      unnamed = (subst (AllByRecursion (λ (b : FinishedBlock). is_used b.names c.args.number ≡ false)) is c.requires.unnamed).0;
      inward = c.in_ok-arms.ensures.inward;
      inward_last = c.in_ok-other.ensures.inward;
      are = c.in_ok-push.ensures.ok ∙ ap₂ (λ arms other. arms ++ other ∷ []) c.in_ok-arms.ensures.arms c.in_ok-other.ensures.arm;
    }

pub lifted_arms-requires-clause-stmts : goal.lifted_arms-requires-clause-stmts
lifted_arms-requires-clause-stmts c = all_back IsInwardBlock c.parted-block.result.1 (subst (AllByRecursion IsInwardBlock) c.parted-block.ensures c.requires.stmts).1
