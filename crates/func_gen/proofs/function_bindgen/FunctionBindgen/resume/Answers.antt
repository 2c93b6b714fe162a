use Rattle.std.proofs.Common.{◌≡◌, true, List, [], ◌∷◌, ◌++◌, refl, sym, ap, ap₂, ◌∙◌, subst}
use Rattle.rust_tree.specs.declared.stmt.Stmt.{Stmt}
use Rattle.func_gen.specs.declared.function_bindgen.Code.{Code}
use Rattle.func_gen.specs.declared.operand.ExprOperand.{ExprOperand}
use Rattle.func_gen.specs.BindgenSeen.{seen_bindgen}
use Rattle.func_gen.specs.Formed.{block_of}
use Rattle.func_gen.specs.InwardCode.{IsInwardBlock, are_inward_stmts}
use Rattle.func_gen.specs.PartForms.{are_operands}
use Rattle.abi_bindgen.proofs.AllLemmas.{all_both}
use Rattle.func_gen.proofs.KeptNames.{around_kept, closed_kept}
use Rattle.func_gen.proofs.WholeLemmas.{around_blocks, innermost_block}
use Rattle.func_gen.proofs.function_bindgen.FunctionBindgen.resume.Goals as goal

pub returns : goal.returns
returns c =
    let old = seen_bindgen c.self.inside in
    let block = c.take_last-open.result in
    rw (← c.self.view_is) (record {
      closing = record {
        block = block;
        opened = c.take_last-open.ensures;
        code = c.replace-before.ensures.after;
        uncalled = (innermost_block old.opened _ block old.code c.take_last-open.ensures c.self.invariant.blocks).uncalled;
        finished = c.in_ok-push.ensures.ok ∙ ap₂ (λ (stmts : List Stmt) (os : List ExprOperand). old.finished ++ block_of block stmts os ∷ []) (ap (λ (code : Code). code.stmts) c.replace-before.ensures.value) c.replace-results.ensures.value;
        scope = refl;
        runtime = refl;
      };
      still = record { import = refl; home = refl; area = refl; params = refl; sites = refl; sizes = refl };
      asked = refl;
      returned = refl;
      operands = ap are_operands (sym c.as_slice.ensures) ∙ c.are_operands.ensures;
    })

pub invariant_of-self : goal.invariant_of-self
invariant_of-self c =
    record {
      blocks = rw c.replace-before.ensures.after (around_blocks c.self.inside.opened _ c.take_last-open.result c.self.inside.code c.take_last-open.ensures c.self.invariant.blocks);
      small = c.self.invariant.small;
      around = around_kept c.self.inside.opened _ c.take_last-open.result c.self.inside.scope.used c.take_last-open.ensures c.self.invariant.around;
      before = rw c.in_err-push.ensures.err c.self.invariant.before;
      inward = rw c.in_err-push.ensures.err c.self.invariant.inward;
    }

pub invariant_of-self-2 : goal.invariant_of-self-2
invariant_of-self-2 c =
    let code = innermost_block c.self.inside.opened _ c.take_last-open.result c.self.inside.code c.take_last-open.ensures c.self.invariant.blocks in
    record {
      blocks = rw c.replace-before.ensures.after (around_blocks c.self.inside.opened _ c.take_last-open.result c.self.inside.code c.take_last-open.ensures c.self.invariant.blocks);
      small = c.self.invariant.small;
      around = around_kept c.self.inside.opened _ c.take_last-open.result c.self.inside.scope.used c.take_last-open.ensures c.self.invariant.around;
      before = rw c.in_ok-push.ensures.ok (closed_kept c.self.inside.opened _ c.take_last-open.result c.self.inside.scope.used c.take_last-open.ensures c.self.invariant.around c.self.inside.finished _ refl c.self.invariant.before);
      inward = rw c.in_ok-push.ensures.ok (all_both IsInwardBlock c.self.inside.finished _ c.self.invariant.inward (subst (λ (code : Code). are_inward_stmts code.stmts ≡ true) (sym c.replace-before.ensures.value) code.inward, tt));
    }
