use Rattle.std.proofs.Common.{◌≡◌, true, length, replicate, reverse, sym, ap, ◌∙◌, subst, arith}
use Rattle.std.specs.List.{AllByRecursion, list_all}
use Rattle.std.proofs.lemmas.List.{length-replicate}
use Rattle.func_gen.specs.declared.function_bindgen.FinishedBlock.{FinishedBlock}
use Rattle.func_gen.specs.MatchForms.{is_lowerable, lowered_arms}
use Rattle.func_gen.proofs.BlocksThere.{all_back, blocks_there, used_many}
use Rattle.func_gen.specs.InwardCode.{IsInwardBlock}
use Rattle.func_gen.proofs.function_bindgen.FunctionBindgen.use_arms.Goals as goal

pub use_blocks-requires : goal.use_blocks-requires
use_blocks-requires c =
    let there = blocks_there c.args.self.now (replicate (length c.args.cases.now) c.args.count) c.requires.blocks in
    record { there = omega (arith, there, length-replicate (length c.args.cases.now) c.args.count) }

pub lowered_arms-requires-clause-each : goal.lowered_arms-requires-clause-each
lowered_arms-requires-clause-each c =
    let Many = λ (b : FinishedBlock). length b.results ≡ c.args.count in
    let many = used_many c.in_ok-used.used (length c.args.cases.now) c.args.self.now c.use_blocks.new.self c.in_ok-used.ensures.uses c.args.count c.requires.blocks in
    subst (λ blocks. AllByRecursion Many (reverse blocks)) (sym c.into_vec-blocks.ensures) (all_back Many c.in_ok-used.used many)

pub returns : goal.returns
returns c =
    let same = c.into_vec-blocks.ensures in
    record {
      used = c.in_ok-used.used;
      uses = c.in_ok-used.ensures.uses;
      fit = subst (λ blocks. list_all (is_lowerable c.args.count) (reverse blocks) ≡ true) same c.in_ok-arms.ensures.fit;
      are = c.in_ok-arms.ensures.arms ∙ ap (λ blocks. lowered_arms c.args.cases.now (reverse blocks)) same;
    }

pub lowered_arms-requires-clause-inward : goal.lowered_arms-requires-clause-inward
lowered_arms-requires-clause-inward c = subst (λ blocks. AllByRecursion IsInwardBlock (reverse blocks)) (sym c.into_vec-blocks.ensures) (all_back IsInwardBlock c.in_ok-used.used c.in_ok-used.ensures.inward)
