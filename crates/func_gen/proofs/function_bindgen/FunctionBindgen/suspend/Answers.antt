use Rattle.std.proofs.Common.{List, [], ◌∷◌, ◌++◌, None, refl, ap, ap₂, ◌∙◌}
use Rattle.rust_tree.specs.declared.stmt.Stmt.{Stmt}
use Rattle.wit_model.specs.Bytes.{Bytes}
use Rattle.func_gen.specs.declared.function_bindgen.Code.{Code}
use Rattle.func_gen.specs.declared.function_bindgen.FinishedBlock.{FinishedBlock}
use Rattle.func_gen.specs.declared.function_bindgen.OpenBlock.{OpenBlock}
use Rattle.func_gen.specs.BindgenSeen.{seen_bindgen}
use Rattle.func_gen.proofs.KeptNames.{opened_kept, still_kept, still_whole}
use Rattle.func_gen.specs.Whole.{HaveBlockCode}
use Rattle.func_gen.proofs.WholeLemmas.{no_code, opened_blocks, other_blocks}
use Rattle.func_gen.proofs.function_bindgen.FunctionBindgen.suspend.Goals as goal

abbrev code_of : List Stmt → Code
code_of stmts = record { call = None; stmts = stmts }

pub returns : goal.returns
returns c =
    let old = seen_bindgen c.self.inside in
    let k = c.in_ok-number.number in
    rw (← c.self.view_is) (record {
      block = record {
        number = k;
        takes = c.in_ok-number.ensures.takes;
        opened = c.in_ok-push.ensures.ok
            ∙ ap₂ (λ (ns : List Bytes) (code : Code). old.opened ++ record { number = k; names = ns; code = code } ∷ []) c.in_ok-names.ensures c.replace-code.ensures.value;
        code = c.replace-code.ensures.after ∙ ap code_of c.new.ensures;
        runtime = refl;
        finished = refl;
      };
      still = record { import = refl; home = refl; area = refl; params = refl; sites = refl; sizes = refl };
      asked = refl;
      returned = refl;
    })

pub invariant_of-self-in_err-push : goal.invariant_of-self-in_err-push
invariant_of-self-in_err-push c =
    record {
      blocks = rw (c.in_err-push.ensures.err, c.replace-code.ensures.after, c.new.ensures) (other_blocks c.self.inside.opened c.self.inside.code _ c.self.invariant.blocks (λ k. no_code));
      small = c.self.invariant.small;
      around = rw c.in_err-push.ensures.err (still_kept (λ (o : OpenBlock). o.names) c.in_ok-number.ensures.keeps c.self.inside.opened c.self.invariant.around);
      before = still_kept (λ (b : FinishedBlock). b.names) c.in_ok-number.ensures.keeps c.self.inside.finished c.self.invariant.before;
      inward = c.self.invariant.inward;
    }

pub invariant_of-self-2 : goal.invariant_of-self-2
invariant_of-self-2 c =
    let block : OpenBlock = record { number = c.in_ok-number.number; names = c.in_ok-names.names; code = c.replace-code.result } in
    let around : HaveBlockCode c.self.inside.opened c.replace-code.result = rw c.replace-code.ensures.value c.self.invariant.blocks in
    record {
      blocks = rw (c.in_ok-push.ensures.ok, c.replace-code.ensures.after, c.new.ensures) (opened_blocks c.self.inside.opened block _ around no_code);
      small = c.self.invariant.small;
      around = rw c.in_ok-push.ensures.ok (opened_kept c.self.inside.opened block c.in_ok-names.ensures c.in_ok-number.ensures.keeps c.self.invariant.around);
      before = still_kept (λ (b : FinishedBlock). b.names) c.in_ok-number.ensures.keeps c.self.inside.finished c.self.invariant.before;
      inward = c.self.invariant.inward;
    }

pub invariant_of-self : goal.invariant_of-self
invariant_of-self c = still_whole c.in_err-number.ensures.keeps c.self.invariant
