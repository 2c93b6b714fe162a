use Rattle.abi_bindgen.specs.declared.instruction.Instruction.TheVariants as instruction
use Rattle.std.proofs.Common.{refl, false, [], subst, sym}
use Rattle.func_gen.specs.Scope.{Takes}
use Rattle.func_gen.specs.TextForms.{buffer_names, buffer_stmts}
use Rattle.func_gen.proofs.Declared.{still_fresh}
use Rattle.func_gen.proofs.Rows.{appends_both}
use Rattle.func_gen.proofs.TextRows.{lend_row}
use Rattle.func_gen.proofs.InwardForms.{operand_inward}
use Rattle.func_gen.proofs.PlainOperands.{emits_plainly}
use Rattle.func_gen.proofs.function_bindgen.FunctionBindgen.lend_text.Goals as goal

pub returns : goal.returns
returns c =
    let types = c.args.resolve.now.types in
    let old = c.args.self.now in
    let new = c.push_buffer.new.self in
    let e = c.in_ok-e.e in
    let t = c.in_ok-t.t in
    let mid = c.declare_three.new.self in
    let added = appends_both old mid new [] (buffer_stmts t e) [] [] c.in_ok-t.ensures.adds c.in_ok-push_buffer.ensures.adds in
    emits_plainly types (instruction.StringLower false) _ _ _ _ _ _ refl c.in_ok-e.ensures.only c.in_ok-push_words.ensures
    (lend_row types old new e t c.in_ok-e.ensures.operand added
    (still_fresh old mid new (buffer_names t) c.in_ok-push_buffer.ensures.scope c.in_ok-t.ensures.fresh)
    (subst (Takes old.scope (λ k. buffer_names k) t) (sym c.in_ok-push_buffer.ensures.scope) c.in_ok-t.ensures.takes))

pub push_buffer-requires-clause-inward : goal.push_buffer-requires-clause-inward
push_buffer-requires-clause-inward c = operand_inward c.in_ok-e.e c.in_ok-e.ensures.operand
