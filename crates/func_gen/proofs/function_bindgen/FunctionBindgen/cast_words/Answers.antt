use Rattle.std.proofs.Common.{[], ◌++◌, ◌∙◌, ap, map, refl, rules, subst, sym}
use Rattle.abi_bindgen.specs.declared.instruction.Instruction.TheVariants as instruction
use Rattle.func_gen.specs.Added.{Appends}
use Rattle.func_gen.specs.CastForms.{casts_from, stmts_from}
use Rattle.func_gen.specs.Forms.{operand_of}
use Rattle.func_gen.specs.PartForms.{are_operands, exprs_of}
use Rattle.func_gen.proofs.CastRows.{casts_row}
use Rattle.func_gen.proofs.CastSteps.{steps_all}
use Rattle.func_gen.proofs.Rows.{emits_as}
use Rattle.func_gen.proofs.function_bindgen.FunctionBindgen.cast_words.Goals as goal

pub returns : goal.returns
returns c =
    let types = c.args.resolve.now.types in
    let cs = c.args.casts.now in
    let t = c.in_ok-t.t in
    let same = c.as_slice-2.ensures ∙ c.in_ok-es.ensures.same ∙ ap exprs_of c.as_slice.ensures in
    let again = c.as_slice-3.ensures ∙ c.in_ok-es.ensures.same ∙ ap exprs_of c.as_slice.ensures in
    let adds = subst (λ es. Appends c.args.self.now c.add_slots.new.self (stmts_from 0 cs es t) []) same c.in_ok-t.ensures.adds in
    emits_as types (instruction.Bitcasts c.args.casts) _ _ _ _ _ _ refl
    (c.in_ok-push_casts.ensures ∙ ap (λ rs. rs ++ map operand_of (casts_from 0 cs c.as_slice-3.result.now t)) c.requires.empty ∙ ap (λ es. map operand_of (casts_from 0 cs es t)) again)
    (casts_row types c.args.self.now _ t c.args.casts c.args.operands.now c.requires.sendable.operands (search rules) (sym (ap are_operands c.as_slice.ensures) ∙ c.in_ok-es.ensures.operands) adds c.in_ok-t.ensures.fresh c.in_ok-t.ensures.takes)

pub add_slots-requires-clause-steps : goal.add_slots-requires-clause-steps
add_slots-requires-clause-steps c =
    let (froms, tos, are) = c.requires.sendable.suits in
    steps_all froms tos c.args.casts.now are

pub push_casts-requires-clause-steps : goal.push_casts-requires-clause-steps
push_casts-requires-clause-steps c =
    let (froms, tos, are) = c.requires.sendable.suits in
    steps_all froms tos c.args.casts.now are
