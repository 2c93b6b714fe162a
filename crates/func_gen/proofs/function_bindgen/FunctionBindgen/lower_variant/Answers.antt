use Rattle.std.proofs.Common.{refl, ◌++◌, ◌∙◌, ap, arith, length, replicate, subst, sym}
use Rattle.abi_bindgen.specs.Instructions.{HasBlocks}
use Rattle.abi_bindgen.specs.declared.instruction.Instruction.TheVariants as instruction
use Rattle.func_gen.specs.declared.function_bindgen.FunctionBindgen.{FunctionBindgen}
use Rattle.func_gen.specs.CaseForms.{AreVariantForms}
use Rattle.func_gen.specs.MatchForms.{LowersBy}
use Rattle.func_gen.specs.Meaning.{func_meaning}
use Rattle.func_gen.specs.PartForms.{locals_of}
use Rattle.func_gen.specs.Written.{CanWrite}
use Rattle.func_gen.proofs.CaseLowered.{variant_lowered}
use Rattle.func_gen.proofs.CaseNames.{variant_count}
use Rattle.func_gen.proofs.PlainOperands.{emits_plainly}
use Rattle.func_gen.proofs.function_bindgen.FunctionBindgen.lower_variant.Goals as goal

pub variant_forms-requires-clause-site : goal.variant_forms-requires-clause-site
variant_forms-requires-clause-site c =
    let same = c.as_slice.ensures ∙ ap (λ (b : FunctionBindgen). b.sites) c.self.view_is in
    subst (λ sites. CanWrite c.args.resolve.now.types sites c.args.id.0) (sym same) c.requires.sendable.suits.4

pub lower_cases-requires : goal.lower_cases-requires
lower_cases-requires c =
    let same = variant_count c.args.resolve.now.types c.as_slice.result.now c.args.id.0 c.in_ok-forms.forms c.in_ok-forms.ensures ∙ sym (ap length c.as_slice-2.ensures) in
    record { operand = c.only_expr-e.ensures.operand; blocks = subst (λ k. HasBlocks func_meaning (replicate k c.args.count) c.args.self.now) same c.requires.sendable.suits.2 }

pub returns : goal.returns
returns c =
    let types = c.args.resolve.now.types in
    let e = c.only_expr-e.result.now in
    let forms = c.in_ok-forms.forms in
    let names = c.in_ok-names.names in
    let lowers = subst (λ fs. LowersBy fs e c.args.count names c.args.self.now c.lower_cases.new.self) c.as_slice-2.ensures c.in_ok-names.ensures in
    emits_plainly types (instruction.VariantLower c.args.id c.args.count) _ _ _ _ _ _ refl c.only_expr-e.ensures.only
    (c.in_ok-push_locals.ensures ∙ ap (λ rs. rs ++ locals_of c.as_slice-3.result.now) c.requires.empty ∙ ap locals_of c.as_slice-3.ensures)
    (variant_lowered types c.args.id c.args.count _ _ forms e names lowers c.only_expr-e.ensures.operand (omega arith) (subst (λ sites. AreVariantForms types sites c.args.id.0 forms) (c.as_slice.ensures ∙ ap (λ (b : FunctionBindgen). b.sites) c.self.view_is) c.in_ok-forms.ensures))
