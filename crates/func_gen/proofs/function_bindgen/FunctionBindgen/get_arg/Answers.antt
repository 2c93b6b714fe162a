use Rattle.std.proofs.Common.{◌≡◌, ◌<◌, ◌∙◌, ◌++◌, [], ◌∷◌, Some, length, refl, sym, ap, subst}
use Rattle.std.specs.Prelude.{slice_get}
use Rattle.std.proofs.lemmas.Option.{slice_get_read}
use Rattle.abi_bindgen.specs.declared.instruction.Instruction.TheVariants as instruction
use Rattle.func_gen.specs.declared.function_bindgen.ParamSite.{ParamSite}
use Rattle.func_gen.specs.declared.function_bindgen.FunctionBindgen.{FunctionBindgen}
use Rattle.func_gen.specs.BindgenSeen.{seen_bindgen}
use Rattle.func_gen.proofs.EndRows.{arg_row}
use Rattle.func_gen.proofs.Rows.{emits_as}
use Rattle.func_gen.proofs.function_bindgen.FunctionBindgen.get_arg.Goals as goal

pub returns : goal.returns
returns c =
    let p = c.index-as_slice-n.result in
    let o = c.in_ok-operand.operand in
    let within = subst (λ ps. c.args.n < length ps) (sym c.as_slice.ensures) (subst (λ (b : FunctionBindgen). c.args.n < length b.params) (sym c.self.view_is) c.requires.within) in
    let is = subst (λ ps. slice_get ps c.args.n ≡ Some p) c.as_slice.ensures (slice_get_read c.as_slice.result.now _ c.args.n p refl within c.index-as_slice-n.is) in
    let same = c.in_ok-operand.ensures ∙ ap (λ (q : ParamSite). q.operand) (sym c.index-as_slice-n.is) in
    rw (← c.self.view_is) (emits_as c.args.resolve.now.types (instruction.GetArg c.args.n) _ _ _ _ _ _ refl (c.in_ok-push.ensures.ok ∙ ap (λ rs. rs ++ o ∷ []) c.requires.empty ∙ ap (λ x. x ∷ []) same)
    (arg_row c.args.resolve.now.types (seen_bindgen c.self.inside) c.args.n p is))
