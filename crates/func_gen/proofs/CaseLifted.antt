-- The rows of variants, options and results that are lifted.
use Rattle.std.proofs.Common.{◌≡◌, ◌++◌, ◌||◌, suc, true, false, List, [], ◌∷◌, length, Option, None, Some, sym, ap, ◌∙◌, subst, arith}
use Rattle.std.specs.Prelude.{codes}
use Rattle.std.specs.Str.{bytes_eq}
use Rattle.std.proofs.lemmas.Bool.{or_parts}
use Rattle.std.proofs.lemmas.List.{length-append}
use Rattle.wit_model.specs.Bytes.{Bytes}
use Rattle.wit_model.specs.declared.name.TypeId.{TypeId}
use Rattle.wit_model.specs.declared.types.Case.{Case}
use Rattle.wit_model.specs.declared.types.TypeDef.{TypeDef}
use Rattle.wit_model.specs.declared.types.WitType.{WitType}
use Rattle.rust_tree.specs.declared.expr.Expr.{Expr}
use Rattle.wrapper_values.specs.Enums.{is_enum}
use Rattle.wrapper_values.specs.Setting.{Setting}
use Rattle.abi_bindgen.specs.declared.instruction.Instruction.TheVariants.{OptionLift, ResultLift, VariantLift}
use Rattle.abi_bindgen.specs.Cases.{payloads_at}
use Rattle.abi_bindgen.specs.Instructions.{Emits}
use Rattle.func_gen.specs.declared.case_form.CaseForm.{CaseForm}
use Rattle.func_gen.specs.declared.function_bindgen.FunctionBindgen.{FunctionBindgen}
use Rattle.func_gen.specs.CalledCases.{is_other_module}
use Rattle.func_gen.specs.CaseForms.{AreOptionForms, AreResultForms, AreVariantForms, member_form, member_forms, member_path, option_forms, side_form}
use Rattle.func_gen.specs.Forms.{operand_of}
use Rattle.func_gen.specs.LiftedCases.{LiftsBy, LiftsVariantBy}
use Rattle.func_gen.specs.MatchForms.{case_path}
use Rattle.func_gen.specs.Meaning.{func_meaning, setting_for}
use Rattle.func_gen.specs.Operand.{is_operand}
use Rattle.func_gen.specs.PartForms.{locals_of}
use Rattle.func_gen.specs.TypeSites.{AreDefined}
use Rattle.func_gen.specs.Written.{CanWrite}
use Rattle.func_gen.proofs.CaseFits.{option_count, option_numbers, result_count, result_numbers}
use Rattle.func_gen.proofs.CaseNames.{variant_count, variant_no_enum, variant_numbers}
use Rattle.func_gen.proofs.CasePaths.{AllCall, CallsCase, NamesType, are_cases, case_called, err_called, none_called, ok_called, some_called}
use Rattle.func_gen.proofs.LiftedCaseRows.{AreCases}
use Rattle.func_gen.proofs.LiftedEmits.{option_lifted, result_lifted, variant_lifted}
use Rattle.func_gen.proofs.WrittenVariants.{variant_typed}

-- 1. What the paths of the cases call

option_cases : (w : Setting) → AreCases w 0 option_forms
option_cases w = are_cases w 0 option_forms (option_numbers w.items) (none_called w, (some_called w, tt))

ok_side : (w : Setting) (payload : Option WitType) → CallsCase w (case_path (side_form (codes "Ok") payload))
ok_side w None = ok_called w
ok_side w (Some ty) = ok_called w

err_side : (w : Setting) (payload : Option WitType) → CallsCase w (case_path (side_form (codes "Err") payload))
err_side w None = err_called w
err_side w (Some ty) = err_called w

result_cases : (w : Setting) (ok err : Option WitType) → AreCases w 0 (side_form (codes "Ok") ok ∷ side_form (codes "Err") err ∷ [])
result_cases w ok err = are_cases w 0 (side_form (codes "Ok") ok ∷ side_form (codes "Err") err ∷ []) (result_numbers w.items ok err) (ok_side w ok, (err_side w err, tt))

names_type : (ty : Bytes) → is_other_module ty ≡ false → NamesType ty
unfolding is_other_module
names_type ty h =
    let one = or_parts (bytes_eq ty (codes "_rt")) (bytes_eq ty (codes "i64") || (bytes_eq ty (codes "f32") || bytes_eq ty (codes "f64"))) h in
    let two = or_parts (bytes_eq ty (codes "i64")) (bytes_eq ty (codes "f32") || bytes_eq ty (codes "f64")) one.1 in
    let three = or_parts (bytes_eq ty (codes "f32")) (bytes_eq ty (codes "f64")) two.1 in
    record { runtime = one.0; i64 = two.0; f32 = three.0; f64 = three.1 }

module _ (w : Setting) (ty : Bytes) (typed : is_other_module ty ≡ false) (other : is_enum w.items ty ≡ false) where
  member_calls : (name : Bytes) → CallsCase w (member_path ty name)
  member_calls name = case_called w ty name (names_type ty typed) other

  form_calls : (name : Bytes) (payload : Option WitType) → CallsCase w (case_path (member_form ty name payload))
  form_calls name None = member_calls name
  form_calls name (Some p) = member_calls name

  members_call : (names : List Bytes) (members : List Case) → AllCall w (member_forms ty names members)
  members_call [] members = tt
  members_call (n ∷ names) [] = tt
  members_call (n ∷ names) (c ∷ members) = (form_calls n c.ty, members_call names members)

-- 2. Options and results

module _ (types : List TypeDef) (id : TypeId) (old new : FunctionBindgen) (forms : List CaseForm) (e : Expr) (v : Bytes) (l : LiftsBy forms e v old new) (ok : is_operand e ≡ true) where
  pub option_made : AreOptionForms types id.0 forms → Emits func_meaning types (OptionLift id) (operand_of e ∷ []) (locals_of (v ∷ [])) old new
  option_made o =
      option_lifted types id forms e v old new l ok 1 (ap length o.are) (option_count types id.0 forms o)
      (λ w p s. subst (AreCases (setting_for w p) 0) (sym o.are) (option_cases (setting_for w p))) o

  pub result_made : AreResultForms types id.0 forms → Emits func_meaning types (ResultLift id) (operand_of e ∷ []) (locals_of (v ∷ [])) old new
  result_made r =
      result_lifted types id forms e v old new l ok 1 (ap length r.are) (result_count types id.0 forms r)
      (λ w p s. subst (AreCases (setting_for w p) 0) (sym r.are) (result_cases (setting_for w p) r.ok r.err)) r

-- 3. Variants

module _ (types : List TypeDef) (id : TypeId) (old new : FunctionBindgen) (all forms : List CaseForm) (c : CaseForm) (e : Expr) (n v : Bytes) (l : LiftsVariantBy forms c e n v old new) (ok : is_operand e ≡ true) where
  pub variant_made : AreVariantForms types old.sites id.0 all → all ≡ forms ++ c ∷ [] → CanWrite types old.sites id.0 → Emits func_meaning types (VariantLift id) (operand_of e ∷ []) (locals_of (v ∷ [])) old new
  variant_made f split can =
      variant_lifted types id forms c e n v old new l ok many
      (λ w p s.
      let sites = subst (AreDefined w.items) same s.sites in
      subst (AreCases (setting_for w p) 0) split (are_cases (setting_for w p) 0 all (variant_numbers types old.sites id.0 all f w.items sites) (calls (setting_for w p) (variant_no_enum types old.sites id.0 all f w.items sites))))
      (subst (AreVariantForms types old.sites id.0) split f)
    where
      many : length (payloads_at types id.0) ≡ suc (length forms)
      many = let counted = variant_count types old.sites id.0 all f in let parts = ap length split in omega (arith, counted, parts, length-append forms (c ∷ []))

      same : new.sites ≡ old.sites
      same = l.adds.sites ∙ ap (λ (b : FunctionBindgen). b.sites) l.uses.rest

      calls : (w : Setting) → is_enum w.items f.name ≡ false → AllCall w all
      calls w other = subst (AllCall w) (sym f.are) (members_call w f.name (variant_typed types old.sites id.0 can all f) other f.site.cases f.members)
