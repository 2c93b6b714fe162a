use Rattle.std.proofs.Common.{◌≡◌, ◌+◌, ◌||◌, suc, List, [], ◌∷◌, length, sym, ap, ap₂, ◌∙◌, subst, arith}
use Rattle.rust_tree.specs.declared.stmt.MatchNames.TheVariants as names_of
use Rattle.std.specs.Prelude.{codes}
use Rattle.rust_tree.specs.declared.stmt.Arm.{Arm}
use Rattle.rust_tree.specs.declared.stmt.Stmt.{Stmt}
use Rattle.rust_tree.specs.declared.stmt.Stmt.TheVariants as stmt
use Rattle.wrapper_run.proofs.LocalLemmas.{bytes_eq-same}
use Rattle.func_gen.specs.declared.function_bindgen.FunctionBindgen.{FunctionBindgen}
use Rattle.func_gen.specs.declared.scope.Scope.{Scope}
use Rattle.func_gen.specs.Added.{Appends}
use Rattle.func_gen.specs.LiftedCases.{LiftsVariantBy, last_body, lifted_bodies}
use Rattle.func_gen.specs.Scope.{TakesAll, is_used, with_number}
use Rattle.func_gen.specs.Uses.{Uses}
use Rattle.func_gen.proofs.BlocksThere.{used_few}
use Rattle.func_gen.proofs.KeptNames.{none_has}
use Rattle.func_gen.proofs.Rows.{appends_both, no_code}
use Rattle.std.specs.List.{list_all}
use Rattle.rust_tree.specs.declared.pattern.ArmPattern.TheVariants as arm
use Rattle.wrapper_run.specs.Inward.{is_inward_expr}
use Rattle.func_gen.specs.InwardCode.{is_inward_arm}
use Rattle.func_gen.proofs.InwardArms.{number_inward}
use Rattle.func_gen.proofs.InwardForms.{match_inward, operand_inward}
use Rattle.func_gen.proofs.function_bindgen.FunctionBindgen.lift_members.Goals as goal

pub member_arms-requires-clause-few : goal.member_arms-requires-clause-few
member_arms-requires-clause-few c = used_few c.in_ok-blocks.blocks (length c.args.cases.now + 1) c.args.self.now c.use_blocks.new.self c.in_ok-blocks.ensures.uses c.requires.few

pub member_arms-requires-clause-unnamed : goal.member_arms-requires-clause-unnamed
member_arms-requires-clause-unnamed c =
    let number = c.in_ok-number.number in
    let used = c.args.self.now.scope.used in
    let same = ap (λ (b : FunctionBindgen). b.scope.used) c.in_ok-blocks.ensures.uses.rest in
    let free = c.in_ok-number.ensures.fresh.free number (ap (λ b. b || is_used (c.in_ok-number.name ∷ []) number) (bytes_eq-same number)) in
    none_has used number (ap (λ us. is_used us number) (sym same) ∙ free) c.in_ok-blocks.blocks c.in_ok-blocks.ensures.names

pub returns : goal.returns
returns c =
    let old = c.args.self.now in
    let mid = c.use_blocks.new.self in
    let named = c.name_case.new.self in
    let new = c.add_effect.new.self in
    let number = c.in_ok-number.number in
    let name = c.in_ok-number.name in
    let blocks = c.in_ok-blocks.blocks in
    let cases = c.args.cases.now in
    let names = c.in_ok-number.ensures in
    let arms = c.in_ok-arms.ensures in
    let pushed = c.in_ok-add_effect.ensures in
    let next : length cases + 1 ≡ suc (length cases) = omega arith in
    let match_by : List Arm → List Stmt = λ xs. stmt.Match (names_of.One name) c.args.e.now xs ∷ [] in
    let same = ap₂ (λ n x. stmt.Match (names_of.One n) x c.in_ok-arms.arms ∷ []) c.in_ok-copy.ensures c.in_ok-e.ensures in
    let adds : Appends named new (match_by c.in_ok-arms.arms) [] = subst (λ xs. Appends named new xs []) same pushed.adds in
    let added : Appends mid new (match_by c.in_ok-arms.arms) [] = appends_both mid named new [] (match_by c.in_ok-arms.arms) [] [] (no_code mid named names.rest) adds in
    let whole : LiftsVariantBy cases c.args.last.now c.args.e.now number name old new =
    record {
      used = blocks;
      mid = mid;
      first = arms.first;
      last = arms.last;
      split = arms.split;
      many = arms.many;
      uses = subst (λ k. Uses blocks k old mid) next c.in_ok-blocks.ensures.uses;
      few = arms.few;
      few_last = arms.few_last;
      unnamed = arms.unnamed;
      inward = arms.inward;
      inward_last = arms.inward_last;
      adds = subst (λ xs. Appends mid new (match_by xs) []) arms.are added;
      apart = names.apart;
      fresh = record { free = names.fresh.free; used = ap (λ (s : Scope). s.used) pushed.scope ∙ names.fresh.used };
      takes = subst (λ s. TakesAll mid.scope (λ k. with_number (codes "n") k ∷ with_number (codes "v") k ∷ []) (number ∷ name ∷ []) s) (sym pushed.scope) names.takes;
    }
    in
    (number, whole)

pub add_effect-requires : goal.add_effect-requires
add_effect-requires c =
    let arms = c.in_ok-arms.ensures in
    let cases = c.args.cases.now in
    let number = c.in_ok-number.number in
    let e = ap is_inward_expr c.in_ok-e.ensures ∙ operand_inward c.args.e.now c.requires.operand in
    let each = ap (list_all is_inward_arm) arms.are ∙ number_inward 0 (lifted_bodies cases arms.first) (arm.Name number) (last_body number (length cases) c.args.last.now arms.last) arms.inward arms.inward_last in
    record { inward = match_inward c.in_ok-e.e e (names_of.One c.in_ok-copy.copy) c.in_ok-arms.arms each }
