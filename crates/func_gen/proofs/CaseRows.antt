-- A value with cases becomes what its case does: the row of a match whose arms are finished blocks.
use mathlib.Core.Logic.{inl, inr}
use Rattle.std.proofs.Common.{◌≡◌, ◌++◌, ℕ, suc, Bool, true, false, List, [], ◌∷◌, length, Option, None, Some, refl, sym, ap, ◌∙◌, subst}
use Rattle.std.specs.Prelude.{slice_get}
use Rattle.wrapper_data.specs.declared.block.Block.{Block}
use Rattle.wrapper_data.specs.declared.value.RustValue.{RustValue, RustValue-F, fold-RustValue, fold-roll-RustValue, out-RustValue}
use Rattle.wrapper_data.specs.declared.value.RustValue.TheVariants as value
use Rattle.wrapper_data.specs.declared.value.RustValue.TheVariants.{rolls-Case}
use Rattle.wrapper_meaning.specs.Direction.{Direction, give, lend, make}
use Rattle.wrapper_meaning.specs.Direction as way
use Rattle.wrapper_meaning.specs.Shape.{Shapes, is_nothing}
use Rattle.wrapper_meaning.specs.Shape.Shapes.{none, more}
use Rattle.wrapper_meaning.specs.StandsFor as rust
use Rattle.wrapper_meaning.specs.StandsFor.{CaseStands}
use Rattle.wrapper_meaning.specs.Value.{Case, case_number}
use Rattle.wrapper_meaning.proofs.RustValues.{out-case}
use Rattle.wrapper_values.specs.Owning.{taken_by}
use Rattle.abi_bindgen.specs.Cases.{PayloadStands, with_case}
use Rattle.abi_bindgen.specs.Parts.{count}
use Rattle.func_gen.specs.declared.case_form.CaseForm.{CaseForm}
use Rattle.func_gen.specs.declared.case_form.CaseForm.TheVariants as form
use Rattle.func_gen.specs.Meaning.{IsNormal, func_meaning, passing_level}
use Rattle.func_gen.specs.StandLemmas.{owned-none, owned-some, owned-unit}
use Rattle.func_gen.proofs.CaseArms.{Brings}

-- 1. What the block of a case is run with

-- a payload has a name in its arm, where it is something
abbrev pub FitsForm : Bool → CaseForm → Type 0
FitsForm true (form.Full path) = ⊥
FitsForm true _ = Unit {0}
FitsForm false (form.Full path) = Unit {0}
FitsForm false _ = ⊥

abbrev pub FitForms : Shapes → List CaseForm → Type 0
FitForms none [] = Unit {0}
FitForms none (f ∷ forms) = ⊥
FitForms (more t ts) [] = ⊥
FitForms (more t ts) (f ∷ forms) = FitsForm (is_nothing t) f × FitForms ts forms

pub forms_count : (ts : Shapes) (forms : List CaseForm) → FitForms ts forms → count ts ≡ length forms
forms_count none [] h = refl
forms_count none (f ∷ forms) h = absurd h
forms_count (more t ts) [] h = absurd h
forms_count (more t ts) (f ∷ forms) h = ap suc (forms_count ts forms h.1)

-- the payload of a case passes as it is where the case does
normal_payload : (dir : Direction) (n : ℕ) (r : RustValue) → IsNormal dir (value.Case n (Some r)) → IsNormal dir r
normal_payload dir n r h =
    let f = fold-RustValue RustValue (passing_level dir) in
    let opened : value.Case n (Some (f r)) ≡ value.Case n (Some r) = sym (ap f (sym (rolls-Case n (Some r))) ∙ fold-roll-RustValue RustValue (passing_level dir) (RustValue-F.Case n (Some r)) ∙ level dir n (f r)) ∙ h in
    let same : RustValue-F.Case n (Some (f r)) ≡ RustValue-F.Case n (Some r) = sym (out-case n (Some (f r))) ∙ ap out-RustValue opened ∙ out-case n (Some r) in
    cc
  where
    level : (dir : Direction) (n : ℕ) (q : RustValue) → passing_level dir (RustValue-F.Case n (Some q)) ≡ value.Case n (Some q)
    level (lend blocks) n q = refl
    level (make blocks) n q = refl
    level give n q = refl
    level way.take n q = refl

-- what a case brings into its arm
pub record Brought (dir : Direction) (ts : Shapes) (c : Case ts) (k : ℕ) (held : Option RustValue) (own : List Block) (forms : List CaseForm) : Type 0 where
  pub taken : CaseForm
  pub at : slice_get forms (case_number ts c) ≡ Some taken
  pub payload : Option RustValue
  pub stands : PayloadStands func_meaning dir ts c payload own
  pub brings : Brings taken k held (with_case func_meaning payload)

pub case_brings : (dir : Direction) (ts : Shapes) (c : Case ts) (k : ℕ) (held : Option RustValue) (own : List Block) (forms : List CaseForm) → FitForms ts forms → CaseStands 2 dir ts c held own → IsNormal dir (value.Case k held) → Brought dir ts c k held own forms
case_brings dir none c k held own forms fit stands normal = elim c [ ]
case_brings dir (more t ts) c k held own [] fit stands normal = absurd fit
case_brings dir (more t ts) (inr c) k held own (f ∷ forms) fit stands normal =
    let later = case_brings dir ts c k held own forms fit.1 stands normal in
    record { taken = later.taken; at = later.at; payload = later.payload; stands = later.stands; brings = later.brings }
case_brings dir (more t ts) (inl v) k held own (f ∷ forms) fit stands normal = by (is_nothing t) refl f held fit.0 stands normal
  where
    by : (b : Bool) → is_nothing t ≡ b → (f : CaseForm) (held : Option RustValue) → FitsForm b f → rust.PayloadStands b (rust.Stands 2 dir t v) held own → IsNormal dir (value.Case k held)
        → Brought dir (more t ts) (inl v) k held own (f ∷ forms)
    by true is (form.Full path) held fits h normal = absurd fits
    by true is (form.Bare path) None fits h normal = record { taken = form.Bare path; at = refl; payload = None; stands = (is, h); brings = (owned-none k, refl) }
    by true is (form.LeftOut path) None fits h normal = record { taken = form.LeftOut path; at = refl; payload = None; stands = (is, h); brings = (owned-none k, refl) }
    by true is (form.Bare path) (Some r) fits h normal =
        record { taken = form.Bare path; at = refl; payload = None; stands = (is, h.1); brings = (owned-some k r ∙ ap (λ q. taken_by (q ∷ [])) h.0 ∙ ap (λ xs. xs ++ []) owned-unit, refl) }
    by true is (form.LeftOut path) (Some r) fits h normal =
        record { taken = form.LeftOut path; at = refl; payload = None; stands = (is, h.1); brings = (owned-some k r ∙ ap (λ q. taken_by (q ∷ [])) h.0 ∙ ap (λ xs. xs ++ []) owned-unit, refl) }
    by false is (form.Bare path) held fits h normal = absurd fits
    by false is (form.LeftOut path) held fits h normal = absurd fits
    by false is (form.Full path) held fits (r, same, h) normal =
        record { taken = form.Full path; at = refl; payload = Some r; stands = (is, (h, normal_payload dir k r (subst (λ o. IsNormal dir (value.Case k o)) same normal))); brings = (r, same, refl) }
