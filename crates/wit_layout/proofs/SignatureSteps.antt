-- Which words are core parameters: one of the first sixteen, and a pointer behind them.
use Rattle.std.proofs.Common.{◌≡◌, ℕ, zero, suc, ◌≤◌, ◌<◌, ◌⊎◌, inl, inr, ⊎_elim, min, Bool, true, false, cond, List, [], ◌∷◌, ◌++◌, length, take, get_or, Some, refl, nat_lt, sym, ap, ap₂, ◌∙◌, subst, arith, length-append}
use Rattle.std.specs.List.{slice_get}
use Rattle.std.proofs.lemmas.List.{get_or-take, length-take, take_all}
use Rattle.std.proofs.lemmas.Bool.Decides.{leb_tells}
use Rattle.std.proofs.lemmas.Option.{slice_get-get_or}
use Rattle.std.proofs.lemmas.Bool.{and_parts, or_cases, eqb-true, ltb-true, ltb-false}
use Rattle.wit_model.specs.declared.wasm_type.WasmType.{WasmType}
use Rattle.wit_model.specs.declared.wasm_type.WasmType.TheVariants.{Pointer}
use Rattle.wit_model.specs.declared.function.Function.{Function}
use Rattle.wit_model.specs.declared.resolve.Resolve.{Resolve}
use Rattle.wit_model.specs.IndexRange.{function_in_range}
use Rattle.wit_model.specs.TypeOrder.{payload_below}
use Rattle.wit_layout.specs.declared.flat.Flat.{Flat}
use Rattle.wit_layout.specs.declared.signature.AbiVariant.{AbiVariant}
use Rattle.wit_layout.specs.declared.signature.AbiVariant.TheVariants.{GuestImport, GuestExport}
use Rattle.wit_layout.specs.declared.signature.WasmSignature.{WasmSignature}
use Rattle.wit_layout.specs.Flat.{IsFlatOf}
use Rattle.wit_layout.specs.Signature.{IsCoreSignature, are_many, direct_words, needs_pointer, core_params, core_results, has_param, params_below}

-- a word that is told
pub word_told : (f : Flat) (core : List WasmType) (nth : ℕ) (d : WasmType) → IsFlatOf f core → nth < f.count → slice_get core nth ≡ Some (get_or f.words nth d)
word_told f core nth d told l =
    let within : nth < length core = omega (arith, told.count) in
    let low : nth < 16 = omega (arith, told.count) in
    slice_get-get_or core nth d within ∙ ap (λ w. Some w) (sym (get_or-take 16 core nth d low) ∙ sym (ap (λ ws. get_or ws nth d) told.kept) ∙ get_or-take f.count f.words nth d l)

at_end : (xs : List WasmType) (x : WasmType) (n : ℕ) → n ≡ length xs → slice_get (xs ++ x ∷ []) n ≡ Some x
at_end [] x zero e = refl
at_end [] x (suc n) e = absurd (omega arith)
at_end (y ∷ xs) x zero e = absurd (omega arith)
at_end (y ∷ xs) x (suc n) e = at_end xs x n (omega arith)

pub direct_short : (params : List WasmType) → length (direct_words params) ≤ 16
direct_short params = by_test (are_many params) refl
  where
    by_test : (b : Bool) → are_many params ≡ b → length (cond b (Pointer ∷ []) params) ≤ 16
    by_test true e = omega arith
    by_test false e = omega (arith, ltb-false 16 (length params) e)

-- a seventeenth parameter is the pointer for the result
pub last_param : (variant : AbiVariant) (params answer : List WasmType) → 16 < length (core_params variant params answer) → slice_get (core_params variant params answer) 16 ≡ Some Pointer
last_param GuestImport params answer l = by_test (needs_pointer answer) l
  where
    by_test : (b : Bool) → 16 < length (direct_words params ++ cond b (Pointer ∷ []) []) → slice_get (direct_words params ++ cond b (Pointer ∷ []) []) 16 ≡ Some Pointer
    by_test true l = at_end (direct_words params) Pointer 16 (omega (arith, direct_short params, length-append (direct_words params) (Pointer ∷ [])))
    by_test false l = absurd (omega (arith, direct_short params, length-append {A = WasmType} (direct_words params) []))
last_param GuestExport params answer l = absurd (omega (arith, direct_short params))

pub param_cases : (s : WasmSignature) (nth : ℕ) → has_param s nth ≡ true → (nth < s.params.count) ⊎ ((nth ≡ 16) × (s.params.more ≡ true))
param_cases s nth h =
    ⊎_elim (λ told. inl (ltb-true nth s.params.count told)) (λ last. inr (eqb-true nth 16 (and_parts _ _ last).0, (and_parts _ _ last).1)) (or_cases _ _ h)

-- the words of a function are told by the first seventeen of each side
module _ (params answer : List WasmType) where
  abbrev cut : List WasmType → List WasmType
  cut words = take 17 words

  cut_test : (k n : ℕ) → k < 17 → nat_lt k (min 17 n) ≡ nat_lt k n
  cut_test k n l =
      ⊎_elim (λ (e, low). ⊎_elim (λ (f, near). e ∙ sym f) (λ (f, far). absurd (omega (arith, low, far))) (leb_tells (suc k) n)) (λ (e, high). ⊎_elim (λ (f, near). absurd (omega (arith, high, near, l))) (λ (f, far). e ∙ sym f) (leb_tells (suc k) n)) (leb_tells (suc k) (min 17 n))

  many_cut : are_many (cut params) ≡ are_many params
  many_cut = ap (λ n. nat_lt 16 n) (length-take 17 params) ∙ cut_test 16 (length params) (omega arith)

  needs_cut : needs_pointer (cut answer) ≡ needs_pointer answer
  needs_cut = ap (λ n. nat_lt 1 n) (length-take 17 answer) ∙ cut_test 1 (length answer) (omega arith)

  direct_by_test : (b : Bool) → are_many params ≡ b → cond b (Pointer ∷ []) (cut params) ≡ cond b (Pointer ∷ []) params
  direct_by_test true e = refl
  direct_by_test false e = take_all 17 params (omega (arith, ltb-false 16 (length params) e))

  direct_cut : direct_words (cut params) ≡ direct_words params
  direct_cut = ap (λ b. cond b (Pointer ∷ []) (cut params)) many_cut ∙ direct_by_test (are_many params) refl

  params_cut : (variant : AbiVariant) → core_params variant (cut params) (cut answer) ≡ core_params variant params answer
  params_cut GuestImport = ap₂ (λ ws b. ws ++ cond b (Pointer ∷ []) []) direct_cut needs_cut
  params_cut GuestExport = direct_cut

  answer_by_test : (none : List WasmType) (b : Bool) → needs_pointer answer ≡ b → cond b none (cut answer) ≡ cond b none answer
  answer_by_test none true e = refl
  answer_by_test none false e = take_all 17 answer (omega (arith, ltb-false 1 (length answer) e))

  answer_cut : (none : List WasmType) → cond (needs_pointer (cut answer)) none (cut answer) ≡ cond (needs_pointer answer) none answer
  answer_cut none = ap (λ b. cond b none (cut answer)) needs_cut ∙ answer_by_test none (needs_pointer answer) refl

  results_cut : (variant : AbiVariant) → core_results variant (cut answer) ≡ core_results variant answer
  results_cut GuestImport = answer_cut []
  results_cut GuestExport = answer_cut (Pointer ∷ [])

  pub signature_cut : (variant : AbiVariant) (s : WasmSignature) → IsCoreSignature variant (cut params) (cut answer) s → IsCoreSignature variant params answer s
  signature_cut variant s told = record {
    params_told = subst (IsFlatOf s.params) (params_cut variant) told.params_told;
    results_told = subst (IsFlatOf s.results) (results_cut variant) told.results_told;
    indirect = told.indirect ∙ many_cut;
    pointed = told.pointed ∙ needs_cut;
  }

pub params_in_table : (r : Resolve) (f : Function) → function_in_range r f ≡ true → params_below (length r.types) f.params ≡ true
unfolding function_in_range
params_in_table r f h = (and_parts _ _ (and_parts _ _ h).0).1

pub result_in_table : (r : Resolve) (f : Function) → function_in_range r f ≡ true → payload_below (length r.types) f.result ≡ true
unfolding function_in_range
result_in_table r f h = (and_parts _ _ h).1
