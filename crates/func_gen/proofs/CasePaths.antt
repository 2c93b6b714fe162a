-- What the paths of cases call: a case of `Option` or of `Result`, or one of a type of the file.
use Rattle.std.proofs.Common.{◌≡◌, ℕ, suc, Bool, true, false, cond, ◌&&◌, List, [], ◌∷◌, refl, ap, ◌∙◌}
use Rattle.std.specs.Prelude.{codes}
use Rattle.std.specs.Str.{bytes_eq}
use Rattle.wit_model.specs.Bytes.{Bytes}
use Rattle.rust_tree.specs.declared.path.Path.{Path}
use Rattle.wrapper_values.specs.declared.core_words.CoreFn.TheVariants as core_fn
use Rattle.wrapper_values.specs.declared.state.Val.{Val}
use Rattle.wrapper_values.specs.Enums.{is_enum}
use Rattle.wrapper_values.specs.Setting.{Setting}
use Rattle.wrapper_values.specs.Variants.{case_number, is_core_option, is_core_result, number_in_option, number_in_result}
use Rattle.wrapper_run.specs.Run.{call, call_callee, callee, core_function, is_f32_from_bits, is_f64_from_bits, is_i64_from, is_new_slot, make_case, member_callee, member_of, of_runtime, runtime_module_name}
use Rattle.wrapper_run.proofs.EnumSteps.{member_made}
use Rattle.func_gen.specs.declared.case_form.CaseForm.{CaseForm}
use Rattle.func_gen.specs.CaseForms.{core_path, member_path}
use Rattle.func_gen.specs.MatchForms.{case_path}
use Rattle.func_gen.proofs.CaseArms.{AreNumbered}
use Rattle.func_gen.proofs.LiftedCaseRows.{AreCases}

-- the call of a path makes the case that it names
abbrev pub CallsCase : Setting → Path → Type 0
CallsCase w path = (vs : List Val) → call w path vs ≡ make_case w (case_number w.items path) vs

-- 1. Of the core library

pub none_called : (w : Setting) → CallsCase w (core_path (codes "option") (codes "Option") (codes "None"))
unfolding callee is_new_slot is_core_option number_in_option
none_called w vs = refl

pub some_called : (w : Setting) → CallsCase w (core_path (codes "option") (codes "Option") (codes "Some"))
unfolding callee is_new_slot is_core_option number_in_option
some_called w vs = refl

pub ok_called : (w : Setting) → CallsCase w (core_path (codes "result") (codes "Result") (codes "Ok"))
unfolding callee is_new_slot is_core_option is_core_result number_in_result
ok_called w vs = refl

pub err_called : (w : Setting) → CallsCase w (core_path (codes "result") (codes "Result") (codes "Err"))
unfolding callee is_new_slot is_core_option is_core_result number_in_result
err_called w vs = refl

-- 2. Of a type of the file

-- the name of a type is none behind which a function of `_rt` or of a number stands
pub record NamesType (ty : Bytes) : Type 0 where
  pub runtime : bytes_eq ty (codes "_rt") ≡ false
  pub i64 : bytes_eq ty (codes "i64") ≡ false
  pub f32 : bytes_eq ty (codes "f32") ≡ false
  pub f64 : bytes_eq ty (codes "f64") ≡ false

member_called : (ty name : Bytes) → NamesType ty → member_callee ty name ≡ member_of ty name
unfolding is_i64_from is_f32_from_bits is_f64_from_bits
member_called ty name t = go (bytes_eq ty (codes "i64")) t.i64 (bytes_eq ty (codes "f32")) t.f32 (bytes_eq ty (codes "f64")) t.f64
  where
    go : (a : Bool) → a ≡ false → (b : Bool) → b ≡ false → (c : Bool) → c ≡ false
        → cond (a && bytes_eq name (codes "from")) (core_function core_fn.I64From) (cond (b && bytes_eq name (codes "from_bits")) (core_function core_fn.F32FromBits) (cond (c && bytes_eq name (codes "from_bits")) (core_function core_fn.F64FromBits) (member_of ty name))) ≡ member_of ty name
    go false e false f false g = refl
    go true e b f c g = absurd cc
    go false e true f c g = absurd cc
    go false e false f true g = absurd cc

root_called : (ty name : Bytes) → NamesType ty → callee (member_path ty name) ≡ member_of ty name
unfolding callee runtime_module_name
root_called ty name t = ap (λ b. cond b (of_runtime name) (member_callee ty name)) t.runtime ∙ member_called ty name t

-- of a type that is no enum
pub case_called : (w : Setting) (ty name : Bytes) → NamesType ty → is_enum w.items ty ≡ false → CallsCase w (member_path ty name)
case_called w ty name t other vs = ap (λ c. call_callee w c vs) (root_called ty name t) ∙ member_made w ty name vs other

-- 3. All cases

abbrev pub AllCall : Setting → List CaseForm → Type 0
AllCall w [] = Unit {0}
AllCall w (c ∷ forms) = CallsCase w (case_path c) × AllCall w forms

pub are_cases : (w : Setting) (n : ℕ) (forms : List CaseForm) → AreNumbered w.items n forms → AllCall w forms → AreCases w n forms
are_cases w n [] h k = tt
are_cases w n (c ∷ forms) h k = (record { number = h.0; makes = λ vs. k.0 vs ∙ ap (λ o. make_case w o vs) h.0 }, are_cases w (suc n) forms h.1 k.1)
