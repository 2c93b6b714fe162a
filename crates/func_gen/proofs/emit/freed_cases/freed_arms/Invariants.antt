use Rattle.std.proofs.Common.{◌≡◌, ◌+◌, [], ◌++◌, length, map, reverse}
use Rattle.std.specs.List.{AllByRecursion, list_all}
use Rattle.wrapper_run.specs.Inward.{is_inward}
use Rattle.func_gen.specs.declared.function_bindgen.FinishedBlock.{FinishedBlock}
use Rattle.func_gen.specs.InwardCode.{IsInwardBlock}
use Rattle.func_gen.specs.LiftedCases.{freed_body, numbered_arms}
use Rattle.func_gen.proofs.emit.freed_cases.freed_arms.Given as goal

abbrev pub invariant-loop-k : goal.invariant-loop-k
invariant-loop-k l = record {
  arms : l.arms ++ numbered_arms l.k (map freed_body (reverse l.left.items)) ≡ numbered_arms 0 (map freed_body (reverse l.initial.left.items));
  none : AllByRecursion (λ (b : FinishedBlock). b.results ≡ []) (reverse l.left.items);
  inward : list_all is_inward (map freed_body (reverse l.left.items)) ≡ list_all is_inward (map freed_body (reverse l.initial.left.items));
  stmts : AllByRecursion IsInwardBlock (reverse l.left.items);
  many : length l.left.items + l.k ≡ l.count;
}
