use Rattle.std.proofs.Common.{refl, ◌++◌, ◌∙◌, ap, arith, length, replicate, subst, sym}
use Rattle.abi_bindgen.specs.Instructions.{HasBlocks}
use Rattle.abi_bindgen.specs.declared.instruction.Instruction.TheVariants as instruction
use Rattle.func_gen.specs.MatchForms.{LowersBy}
use Rattle.func_gen.specs.Meaning.{func_meaning}
use Rattle.func_gen.specs.PartForms.{locals_of}
use Rattle.func_gen.proofs.CaseLowered.{option_lowered}
use Rattle.func_gen.proofs.PlainOperands.{emits_plainly}
use Rattle.func_gen.proofs.function_bindgen.FunctionBindgen.lower_option.Goals as goal

pub lower_cases-requires : goal.lower_cases-requires
lower_cases-requires c = record { operand = c.only_expr-e.ensures.operand; blocks = subst (λ k. HasBlocks func_meaning (replicate k c.args.count) c.args.self.now) (sym (ap length (c.as_slice.ensures ∙ c.in_ok-forms.ensures.are))) c.requires.sendable.suits.2 }

pub returns : goal.returns
returns c =
    let types = c.args.resolve.now.types in
    let e = c.only_expr-e.result.now in
    let forms = c.in_ok-forms.forms in
    let names = c.in_ok-names.names in
    let lowers = subst (λ fs. LowersBy fs e c.args.count names c.args.self.now c.lower_cases.new.self) c.as_slice.ensures c.in_ok-names.ensures in
    emits_plainly types (instruction.OptionLower c.args.id c.args.count) _ _ _ _ _ _ refl c.only_expr-e.ensures.only
    (c.in_ok-push_locals.ensures ∙ ap (λ rs. rs ++ locals_of c.as_slice-2.result.now) c.requires.empty ∙ ap locals_of c.as_slice-2.ensures)
    (option_lowered types c.args.id c.args.count _ _ forms e names lowers c.only_expr-e.ensures.operand (omega arith) c.in_ok-forms.ensures)
