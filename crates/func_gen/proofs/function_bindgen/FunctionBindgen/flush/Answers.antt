use Rattle.std.proofs.Common.{◌++◌, ◌∙◌, [], ap, ap₂, arith, length, refl, subst, sym}
use Rattle.abi_bindgen.specs.declared.instruction.Instruction.TheVariants as instruction
use Rattle.func_gen.specs.Added.{Appends}
use Rattle.func_gen.specs.FlushForms.{flush_prefix, flushed, lets_of}
use Rattle.func_gen.specs.PartForms.{are_operands, exprs_of}
use Rattle.func_gen.proofs.FlushRow.{flush_row}
use Rattle.func_gen.proofs.PartNames.{names_many}
use Rattle.func_gen.proofs.Rows.{emits_as}
use Rattle.func_gen.proofs.function_bindgen.FunctionBindgen.flush.Goals as goal

pub push_flushed-requires : goal.push_flushed-requires
push_flushed-requires c =
    let named = c.in_ok-names.ensures.takes in
    record { many = ap length (c.as_slice-3.ensures ∙ named.are) ∙ names_many flush_prefix named.number 0 c.args.count ∙ sym c.requires.many ∙ ap length (sym c.as_slice-4.ensures) }

pub returns : goal.returns
returns c =
    let types = c.args.resolve.now.types in
    let names = c.in_ok-names.names in
    let named = c.in_ok-names.ensures.takes in
    let same = c.as_slice.ensures in
    let adds = subst (λ es. Appends c.args.self.now c.add_lets.new.self (lets_of names es) []) (c.as_slice-2.ensures ∙ c.in_ok-es.ensures.same ∙ ap exprs_of same) c.in_ok-names.ensures.adds in
    emits_as types (instruction.Flush c.args.count) _ _ _ _ _ _ refl
    (c.in_ok-push_flushed.ensures ∙ ap (λ rs. rs ++ flushed c.as_slice-3.result.now c.as_slice-4.result.now) c.requires.empty ∙ ap₂ flushed c.as_slice-3.ensures c.as_slice-4.ensures)
    (flush_row types _ _ named.number c.args.count names c.args.operands.now c.requires.many (omega arith) named.are (sym (ap are_operands same) ∙ c.in_ok-es.ensures.operands) adds c.in_ok-names.ensures.fresh named.takes)
