use Rattle.std.proofs.Common.{◌≡◌, ◌+◌, ◌++◌, true, false, [], ◌∷◌, is_some, length, refl, sym, ap, ◌∙◌, subst, arith, ◌&&◌}
use Rattle.std.proofs.lemmas.List.{length-append}
use Rattle.wit_model.specs.Bytes.{Bytes}
use Rattle.rust_tree.specs.declared.expr.Expr.TheVariants as expr
use Rattle.abi_bindgen.specs.Cases.{payloads_at}
use Rattle.abi_bindgen.specs.declared.instruction.Instruction.TheVariants as instruction
use Rattle.func_gen.specs.declared.function_bindgen.FunctionBindgen.{FunctionBindgen}
use Rattle.func_gen.specs.CaseForms.{AreVariantForms}
use Rattle.func_gen.specs.LiftedCases.{LiftsVariantBy, is_inward_case}
use Rattle.func_gen.specs.Written.{CanWrite}
use Rattle.func_gen.proofs.BlocksThere.{cases_few, cases_there}
use Rattle.func_gen.proofs.CaseLifted.{variant_made}
use Rattle.func_gen.proofs.CaseNames.{each_formed, variant_count, variant_low}
use Rattle.func_gen.proofs.PayloadsThere.{members_there}
use Rattle.func_gen.proofs.Rows.{pushed}
use Rattle.std.specs.List.{list_all}
use Rattle.std.proofs.lemmas.Bool.{and_parts}
use Rattle.std.proofs.lemmas.List.Folds.{list_all-append}
use Rattle.func_gen.proofs.InwardArms.{members_inward}
use Rattle.func_gen.proofs.PlainOperands.{emits_plainly}
use Rattle.func_gen.proofs.function_bindgen.FunctionBindgen.lift_variant.Goals as goal

pub variant_forms-requires-clause-site : goal.variant_forms-requires-clause-site
variant_forms-requires-clause-site c =
    let same = c.as_slice.ensures ∙ ap (λ (b : FunctionBindgen). b.sites) c.self.view_is in
    subst (λ sites. CanWrite c.args.resolve.now.types sites c.args.id.0) (sym same) c.requires.sendable.suits.4

pub unreachable-requires : goal.unreachable-requires
unreachable-requires c =
    let r = c.args.resolve.now in
    let id = c.args.id.0 in
    let forms = c.in_ok-forms.ensures in
    let formed = each_formed r.types c.as_slice.result.now id c.in_ok-forms.forms forms in
    let some = members_there r c.requires.sendable.suits.3 id forms.members forms.kind in
    let is = ap length c.into_vec-cases.ensures in
    let there = c.pop.ensures.variant.1 (omega (arith, formed, some, is, c.into_vec-cases.result.ok.0)) in
    let none : true ≡ false = sym there ∙ ap is_some c.in_default.is in
    absurd cc

pub lift_members-requires : goal.lift_members-requires
lift_members-requires c =
    let types = c.args.resolve.now.types in
    let all = c.in_ok-forms.forms in
    let cases = c.as_slice-2.result.now in
    let last = c.in-Some.last in
    let split : all ≡ c.pop.new.self.items ++ last ∷ [] = sym c.into_vec-cases.ensures ∙ c.in-Some.ensures.items in
    let here : length cases ≡ length c.pop.new.self.items = ap length c.as_slice-2.ensures.value in
    let parts = ap length split ∙ length-append c.pop.new.self.items (last ∷ []) in
    let long : length all ≡ length cases + 1 = omega (arith, here, parts) in
    let many = variant_count types c.as_slice.result.now c.args.id.0 all c.in_ok-forms.ensures ∙ long in
    let low = variant_low types c.as_slice.result.now c.args.id.0 all c.in_ok-forms.ensures in
    let has = c.requires.sendable.suits.2 in
    let forms = c.in_ok-forms.ensures in
    let here_are : cases ≡ c.pop.new.self.items = c.as_slice-2.ensures.value in
    let whole = ap (list_all is_inward_case) (sym split ∙ forms.are) ∙ members_inward forms.name forms.site.cases forms.members in
    let apart = and_parts (list_all is_inward_case c.pop.new.self.items) (is_inward_case last && true) (sym (list_all-append is_inward_case c.pop.new.self.items (last ∷ [])) ∙ whole) in
    record { operand = c.only_expr-e.ensures.operand; low = omega (arith, low, long); there = cases_there c.args.self.now (payloads_at types c.args.id.0) (length cases + 1) many has; few = cases_few c.args.self.now (payloads_at types c.args.id.0) (length cases + 1) many has; inward = ap (list_all is_inward_case) here_are ∙ apart.0; inward_last = (and_parts (is_inward_case last) true apart.1).0 }

pub returns : goal.returns
returns c =
    let types = c.args.resolve.now.types in
    let e = c.only_expr-e.result.now in
    let all = c.in_ok-forms.forms in
    let cases = c.pop.new.self.items in
    let last = c.in-Some.last in
    let name = c.in_ok-name.name in
    let lifts = subst (λ fs. (n : Bytes) × LiftsVariantBy fs last e n name c.args.self.now c.lift_members.new.self) c.as_slice-2.ensures.value c.in_ok-name.ensures in
    let split : all ≡ cases ++ last ∷ [] = sym c.into_vec-cases.ensures ∙ c.in-Some.ensures.items in
    let forms = subst (λ sites. AreVariantForms types sites c.args.id.0 all) (c.as_slice.ensures ∙ ap (λ (b : FunctionBindgen). b.sites) c.self.view_is) c.in_ok-forms.ensures in
    emits_plainly types (instruction.VariantLift c.args.id) _ _ _ _ _ _ refl c.only_expr-e.ensures.only (pushed c.args.results.now _ _ (expr.Local name) c.in_ok-push.ensures.ok c.requires.empty refl)
    (variant_made types c.args.id _ _ all cases last e lifts.0 name lifts.1 c.only_expr-e.ensures.operand forms split c.requires.sendable.suits.4)
