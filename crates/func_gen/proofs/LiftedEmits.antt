-- What the lifting of a variant, an option or a result emits, and the freeing of a variant.
use Rattle.std.proofs.Common.{◌≡◌, ◌++◌, ℕ, suc, false, true, List, [], ◌∷◌, drop, length, map, replicate, reverse, Option, refl, sym, ap, ◌∙◌}
use Rattle.std.proofs.lemmas.List.{length-replicate}
use Rattle.wit_model.specs.Bytes.{Bytes}
use Rattle.wit_model.specs.declared.name.TypeId.{TypeId}
use Rattle.wit_model.specs.declared.types.TypeDef.{TypeDef}
use Rattle.wit_model.specs.declared.types.WitType.{WitType}
use Rattle.rust_tree.specs.declared.expr.Expr.{Expr}
use Rattle.rust_tree.specs.declared.pattern.ArmPattern.TheVariants as arm_by
use Rattle.rust_tree.specs.declared.runtime_item.RuntimeItem.{RuntimeItem}
use Rattle.rust_tree.specs.declared.runtime_item.RuntimeItem.TheVariants.{InvalidEnumDiscriminant}
use Rattle.rust_tree.specs.declared.stmt.MatchNames.TheVariants as names_of
use Rattle.rust_tree.specs.declared.stmt.Stmt.{Stmt}
use Rattle.rust_tree.specs.declared.stmt.Stmt.TheVariants as stmt
use Rattle.wrapper_data.specs.declared.value.RustValue.{RustValue}
use Rattle.wrapper_meaning.specs.Shape.{payloads_in, shapes}
use Rattle.wrapper_values.specs.Setting.{Setting}
use Rattle.wrapper_run.specs.Run.{run_stmts}
use Rattle.wrapper_run.specs.Inward.{CallsNothing}
use Rattle.abi_bindgen.specs.declared.instruction.Instruction.TheVariants.{GuestDeallocateVariant, OptionLift, ResultLift, VariantLift}
use Rattle.abi_bindgen.specs.Account.{Peer}
use Rattle.abi_bindgen.specs.Cases.{case_shapes, payload_counts, payloads_at}
use Rattle.abi_bindgen.specs.Instructions.{Emits}
use Rattle.abi_bindgen.specs.Parts.{count}
use Rattle.func_gen.specs.declared.case_form.CaseForm.{CaseForm}
use Rattle.func_gen.specs.declared.function_bindgen.FinishedBlock.{FinishedBlock}
use Rattle.func_gen.specs.declared.function_bindgen.FunctionBindgen.{FunctionBindgen}
use Rattle.func_gen.specs.declared.scope.Scope.{Scope}
use Rattle.func_gen.specs.Added.{Appends}
use Rattle.func_gen.specs.CaseForms.{AreOptionForms, AreResultForms, AreVariantForms}
use Rattle.func_gen.specs.Forms.{operand_of}
use Rattle.func_gen.specs.LiftedCases.{FreesBy, LiftsBy, LiftsVariantBy, freed_body, invalid_body, last_body, lifted_bodies, number_arms}
use Rattle.func_gen.specs.MatchForms.{arm_of}
use Rattle.func_gen.specs.Meaning.{File, Serves, func_meaning, setting_for}
use Rattle.func_gen.specs.Operand.{is_operand}
use Rattle.func_gen.specs.PartForms.{locals_of}
use Rattle.func_gen.specs.Scope.{is_used}
use Rattle.func_gen.specs.Still.{StillOf}
use Rattle.func_gen.specs.Uses.{Uses}
use Rattle.func_gen.proofs.BlocksGone.{adds_used, asked_still, blocks_left, returned_still}
use Rattle.func_gen.proofs.BlocksThere.{counts_many}
use Rattle.func_gen.proofs.CallRows.{split_used}
use Rattle.func_gen.proofs.Lasting.{still_free}
use Rattle.func_gen.proofs.LiftedCaseRows.{AreCases}
use Rattle.func_gen.proofs.LiftedMatches.{frees_case, lifts_case, lifts_variant}
use Rattle.func_gen.proofs.CaseQuiet.{quiet_numbers}

-- 1. How many there are

shapes_many : (types : List TypeDef) (payloads : List (Option WitType)) → count (payloads_in (shapes types) payloads) ≡ length payloads
shapes_many types [] = refl
shapes_many types (p ∷ payloads) = ap suc (shapes_many types payloads)

pub cases_many : (types : List TypeDef) (id : ℕ) → count (case_shapes types id) ≡ length (payloads_at types id)
cases_many types id = shapes_many types (payloads_at types id)

still_used : (old mid new : FunctionBindgen) (n : ℕ) (used : List FinishedBlock) (stmts : List Stmt) (items : List RuntimeItem) → Uses used n old mid → Appends mid new stmts items → StillOf old new
still_used old mid new n used stmts items uses a = record {
  import = a.import ∙ ap (λ (b : FunctionBindgen). b.import) uses.rest;
  home = a.home ∙ ap (λ (b : FunctionBindgen). b.home) uses.rest;
  area = a.area ∙ ap (λ (b : FunctionBindgen). b.area) uses.rest;
  params = a.params ∙ ap (λ (b : FunctionBindgen). b.params) uses.rest;
  sites = a.sites ∙ ap (λ (b : FunctionBindgen). b.sites) uses.rest;
  sizes = a.sizes ∙ ap (λ (b : FunctionBindgen). b.sizes) uses.rest;
}

-- 2. Options and results

module _ (types : List TypeDef) (id : TypeId) (forms : List CaseForm) (e : Expr) (v : Bytes) (old new : FunctionBindgen) (l : LiftsBy forms e v old new) (ok : is_operand e ≡ true) (m : ℕ) (some : length forms ≡ suc m) (many : length (payloads_at types id.0) ≡ length forms)
    (are : (w : File) (p : Peer RustValue) → Serves w new → AreCases (setting_for w p) 0 forms) where
  names_free : (k : Bytes) → is_used new.scope.used k ≡ false → is_used l.mid.scope.used k ≡ false
  names_free = still_free l.mid new v l.fresh

  abbrev code : List Stmt
  code = stmt.Match (names_of.One v) e (number_arms 0 (lifted_bodies forms (reverse l.used)) (arm_of arm_by.AnyOther invalid_body)) ∷ []

  quiet : (w : Setting) → CallsNothing (run_stmts w code)
  quiet = λ w. quiet_numbers w (names_of.One v) e (lifted_bodies forms (reverse l.used)) arm_by.AnyOther invalid_body ok l.inward l.inward_last

  used_many : length (payload_counts (payloads_at types id.0)) ≡ length forms
  used_many = counts_many (payloads_at types id.0) ∙ many

  pub option_lifted : AreOptionForms types id.0 forms → Emits func_meaning types (OptionLift id) (operand_of e ∷ []) (locals_of (v ∷ [])) old new
  option_lifted forms_are = record {
    adds = adds_used old l.mid new (length forms) l.used l.uses code (InvalidEnumDiscriminant ∷ []) l.adds names_free quiet (payload_counts (payloads_at types id.0)) used_many m some;
    blocks = blocks_left old l.mid new (length forms) l.used l.uses code (InvalidEnumDiscriminant ∷ []) l.adds names_free quiet ∙ ap (λ k. drop k (func_meaning.blocks old)) (sym used_many);
    returned = returned_still old l.mid new (length forms) l.used l.uses code (InvalidEnumDiscriminant ∷ []) l.adds names_free quiet;
    asked = asked_still old l.mid new (length forms) l.used l.uses code (InvalidEnumDiscriminant ∷ []) l.adds names_free quiet;
    results = refl;
    form = record { still = still_used old l.mid new (length forms) l.used code (InvalidEnumDiscriminant ∷ []) l.uses l.adds; given = tt; code = record { forms = forms; are = forms_are; operand = e; only = refl; name = v; lifts = l; results = refl } };
    row = lifts_case forms e v old new l (case_shapes types id.0) (cases_many types id.0 ∙ many) are;
  }

  pub result_lifted : AreResultForms types id.0 forms → Emits func_meaning types (ResultLift id) (operand_of e ∷ []) (locals_of (v ∷ [])) old new
  result_lifted forms_are = record {
    adds = adds_used old l.mid new (length forms) l.used l.uses code (InvalidEnumDiscriminant ∷ []) l.adds names_free quiet (payload_counts (payloads_at types id.0)) used_many m some;
    blocks = blocks_left old l.mid new (length forms) l.used l.uses code (InvalidEnumDiscriminant ∷ []) l.adds names_free quiet ∙ ap (λ k. drop k (func_meaning.blocks old)) (sym used_many);
    returned = returned_still old l.mid new (length forms) l.used l.uses code (InvalidEnumDiscriminant ∷ []) l.adds names_free quiet;
    asked = asked_still old l.mid new (length forms) l.used l.uses code (InvalidEnumDiscriminant ∷ []) l.adds names_free quiet;
    results = refl;
    form = record { still = still_used old l.mid new (length forms) l.used code (InvalidEnumDiscriminant ∷ []) l.uses l.adds; given = tt; code = record { forms = forms; are = forms_are; operand = e; only = refl; name = v; lifts = l; results = refl } };
    row = lifts_case forms e v old new l (case_shapes types id.0) (cases_many types id.0 ∙ many) are;
  }

-- 3. Variants

module _ (types : List TypeDef) (id : TypeId) (forms : List CaseForm) (c : CaseForm) (e : Expr) (n v : Bytes) (old new : FunctionBindgen) (l : LiftsVariantBy forms c e n v old new) (ok : is_operand e ≡ true) (many : length (payloads_at types id.0) ≡ suc (length forms))
    (are : (w : File) (p : Peer RustValue) → Serves w new → AreCases (setting_for w p) 0 (forms ++ c ∷ [])) where
  free_then : (k : Bytes) → is_used new.scope.used k ≡ false → is_used l.mid.scope.used k ≡ false
  free_then k free = (split_used l.mid new (n ∷ v ∷ []) l.fresh k free).0

  abbrev code_last : List Stmt
  code_last = stmt.Match (names_of.One v) e (number_arms 0 (lifted_bodies forms l.first) (arm_of (arm_by.Name n) (last_body n (length forms) c l.last))) ∷ []

  quiet_last : (w : Setting) → CallsNothing (run_stmts w code_last)
  quiet_last = λ w. quiet_numbers w (names_of.One v) e (lifted_bodies forms l.first) (arm_by.Name n) (last_body n (length forms) c l.last) ok l.inward l.inward_last

  counted : length (payload_counts (payloads_at types id.0)) ≡ suc (length forms)
  counted = counts_many (payloads_at types id.0) ∙ many

  pub variant_lifted : AreVariantForms types old.sites id.0 (forms ++ c ∷ []) → Emits func_meaning types (VariantLift id) (operand_of e ∷ []) (locals_of (v ∷ [])) old new
  variant_lifted forms_are = record {
    adds = adds_used old l.mid new (suc (length forms)) l.used l.uses code_last [] l.adds free_then quiet_last (payload_counts (payloads_at types id.0)) counted (length forms) refl;
    blocks = blocks_left old l.mid new (suc (length forms)) l.used l.uses code_last [] l.adds free_then quiet_last ∙ ap (λ k. drop k (func_meaning.blocks old)) (sym counted);
    returned = returned_still old l.mid new (suc (length forms)) l.used l.uses code_last [] l.adds free_then quiet_last;
    asked = asked_still old l.mid new (suc (length forms)) l.used l.uses code_last [] l.adds free_then quiet_last;
    results = refl;
    form = record { still = still_used old l.mid new (suc (length forms)) l.used code_last [] l.uses l.adds; given = tt; code = record { forms = forms; last = c; are = forms_are; operand = e; only = refl; number = n; name = v; lifts = l; results = refl } };
    row = lifts_variant forms c e n v old new l (case_shapes types id.0) (cases_many types id.0 ∙ many) are;
  }

-- 4. Blocks that free

module _ (types : List TypeDef) (k : ℕ) (e : Expr) (old new : FunctionBindgen) (l : FreesBy k e old new) (ok : is_operand e ≡ true) where
  free_still : (x : Bytes) → is_used new.scope.used x ≡ false → is_used l.mid.scope.used x ≡ false
  free_still x free = ap (λ (s : Scope). is_used s.used x) (sym l.scope) ∙ free

  abbrev code_free : List Stmt
  code_free = stmt.Match names_of.Nothing e (number_arms 0 (map freed_body l.first) (arm_of arm_by.AnyOther (freed_body l.last))) ∷ []

  quiet_free : (w : Setting) → CallsNothing (run_stmts w code_free)
  quiet_free = λ w. quiet_numbers w names_of.Nothing e (map freed_body l.first) arm_by.AnyOther (freed_body l.last) ok l.inward l.inward_last

  replicated : length {A = ℕ} (replicate (suc k) 0) ≡ suc k
  replicated = length-replicate (suc k) 0

  pub variant_freed : Emits func_meaning types (GuestDeallocateVariant (suc k)) (operand_of e ∷ []) [] old new
  variant_freed = record {
    adds = adds_used old l.mid new (suc k) l.used l.uses code_free [] l.adds free_still quiet_free (replicate (suc k) 0) replicated k refl;
    blocks = blocks_left old l.mid new (suc k) l.used l.uses code_free [] l.adds free_still quiet_free ∙ ap (λ j. drop j (func_meaning.blocks old)) (sym replicated);
    returned = returned_still old l.mid new (suc k) l.used l.uses code_free [] l.adds free_still quiet_free;
    asked = asked_still old l.mid new (suc k) l.used l.uses code_free [] l.adds free_still quiet_free;
    results = refl;
    form = record { still = still_used old l.mid new (suc k) l.used code_free [] l.uses l.adds; given = tt; code = record { first = k; many = refl; operand = e; only = refl; frees = l; results = refl } };
    row = frees_case k e old new l;
  }
