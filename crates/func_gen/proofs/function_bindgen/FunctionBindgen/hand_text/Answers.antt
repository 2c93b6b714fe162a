use Rattle.std.proofs.Common.{[], ◌∷◌, ◌++◌, ap, refl, subst, ◌∙◌, sym, true}
use Rattle.rust_tree.specs.declared.expr.Expr.TheVariants as expr
use Rattle.rust_tree.specs.declared.stmt.Stmt.TheVariants as stmt
use Rattle.abi_bindgen.specs.declared.instruction.Instruction.TheVariants as instruction
use Rattle.wrapper_run.specs.Inward.{is_inward_expr}
use Rattle.func_gen.specs.Added.{Appends}
use Rattle.func_gen.specs.TextForms.{buffer_names, buffer_stmts, forgotten}
use Rattle.func_gen.specs.Scope.{Takes}
use Rattle.func_gen.proofs.Declared.{still_fresh}
use Rattle.func_gen.proofs.InwardForms.{bytes_inward, expr_inward, forgotten_inward}
use Rattle.func_gen.proofs.PlainOperands.{emits_plainly}
use Rattle.func_gen.proofs.Rows.{appends_both}
use Rattle.func_gen.proofs.TextRows.{give_row}
use Rattle.func_gen.proofs.function_bindgen.FunctionBindgen.hand_text.Goals as goal

pub returns : goal.returns
returns c =
    let types = c.args.resolve.now.types in
    let old = c.args.self.now in
    let mid = c.declare_three.new.self in
    let pushed = c.push_buffer.new.self in
    let new = c.add_effect.new.self in
    let name = c.args.name.now in
    let t = c.in_ok-t.t in
    let stmts = buffer_stmts t (expr.IntoBoxedBytes name) in
    let scope = c.in_ok-add_effect.ensures.scope ∙ c.in_ok-push_buffer.ensures.scope in
    let given = subst (λ x. Appends mid pushed (buffer_stmts t (expr.IntoBoxedBytes x)) []) c.in_ok-name.ensures c.in_ok-push_buffer.ensures.adds in
    let buffer = appends_both old mid pushed [] stmts [] [] c.in_ok-t.ensures.adds given in
    let added = appends_both old pushed new stmts (stmt.Expr c.in_ok-call.call ∷ []) [] [] buffer c.in_ok-add_effect.ensures.adds in
    emits_plainly types (instruction.StringLower true) _ _ _ _ _ _ refl c.requires.local c.in_ok-push_words.ensures
    (give_row types old new name t
    (subst (λ x. Appends old new (stmts ++ stmt.Expr x ∷ []) []) (c.in_ok-call.ensures ∙ ap forgotten c.in_ok-vec-2.ensures) added)
    (still_fresh old mid new (buffer_names t) scope c.in_ok-t.ensures.fresh)
    (subst (Takes old.scope (λ k. buffer_names k) t) (sym scope) c.in_ok-t.ensures.takes))

pub push_buffer-requires-clause-inward : goal.push_buffer-requires-clause-inward
push_buffer-requires-clause-inward c = bytes_inward c.in_ok-name.name

pub add_effect-requires : goal.add_effect-requires
add_effect-requires c = record { inward = expr_inward c.in_ok-call.call (ap is_inward_expr c.in_ok-call.ensures ∙ forgotten_inward c.in_ok-vec-2.vec) }
