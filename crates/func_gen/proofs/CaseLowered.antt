-- The rows of variants, options and results that are lowered.
use Rattle.std.proofs.Common.{◌≡◌, ◌<◌, ◌^◌, ℕ, true, List, [], ◌∷◌, length, sym, ap, subst}
use Rattle.wit_model.specs.Bytes.{Bytes}
use Rattle.wit_model.specs.declared.name.TypeId.{TypeId}
use Rattle.wit_model.specs.declared.types.TypeDef.{TypeDef}
use Rattle.rust_tree.specs.declared.expr.Expr.{Expr}
use Rattle.abi_bindgen.specs.declared.instruction.Instruction.TheVariants.{OptionLower, ResultLower, VariantLower}
use Rattle.abi_bindgen.specs.Instructions.{Emits}
use Rattle.func_gen.specs.declared.case_form.CaseForm.{CaseForm}
use Rattle.func_gen.specs.declared.function_bindgen.FunctionBindgen.{FunctionBindgen}
use Rattle.func_gen.specs.CaseForms.{AreOptionForms, AreResultForms, AreVariantForms}
use Rattle.func_gen.specs.Forms.{operand_of}
use Rattle.func_gen.specs.MatchForms.{LowersBy}
use Rattle.func_gen.specs.Meaning.{func_meaning}
use Rattle.func_gen.specs.Operand.{is_operand}
use Rattle.func_gen.specs.PartForms.{locals_of}
use Rattle.func_gen.specs.TypeSites.{AreDefined}
use Rattle.func_gen.proofs.CaseArms.{AreNumbered}
use Rattle.func_gen.proofs.CaseEmits.{option_row, result_row, still, variant_row}
use Rattle.func_gen.proofs.CaseFits.{option_fits, option_numbers, result_fits, result_numbers}
use Rattle.func_gen.proofs.CaseNames.{variant_count, variant_fits, variant_numbers}

module _ (types : List TypeDef) (id : TypeId) (n : ℕ) (old new : FunctionBindgen) (forms : List CaseForm) (e : Expr) (names : List Bytes) (l : LowersBy forms e n names old new) (ok : is_operand e ≡ true) (small : n < 2 ^ 32) where
  pub variant_lowered : AreVariantForms types old.sites id.0 forms → Emits func_meaning types (VariantLower id n) (operand_of e ∷ []) (locals_of names) old new
  variant_lowered f =
      variant_row old new forms e n names l ok small types id
      (λ w s. variant_numbers types old.sites id.0 forms f w.items (subst (AreDefined w.items) (still old new forms e n names l ok small).sites s.sites)) (variant_fits types old.sites id.0 forms f) f (variant_count types old.sites id.0 forms f)

  pub option_lowered : AreOptionForms types id.0 forms → Emits func_meaning types (OptionLower id n) (operand_of e ∷ []) (locals_of names) old new
  option_lowered o =
      option_row old new forms e n names l ok small types id (λ w s. subst (AreNumbered w.items 0) (sym o.are) (option_numbers w.items)) (option_fits types id.0 forms o) o (ap length o.are)

  pub result_lowered : AreResultForms types id.0 forms → Emits func_meaning types (ResultLower id n) (operand_of e ∷ []) (locals_of names) old new
  result_lowered r =
      result_row old new forms e n names l ok small types id (λ w s. subst (AreNumbered w.items 0) (sym r.are) (result_numbers w.items r.ok r.err)) (result_fits types id.0 forms r) r (ap length r.are)
