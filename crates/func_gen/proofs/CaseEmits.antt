-- What the lowering of a variant, an option or a result emits.
use Rattle.std.proofs.Common.{◌≡◌, ◌<◌, ◌^◌, ◌++◌, ℕ, zero, suc, false, true, List, [], ◌∷◌, drop, length, replicate, reverse, refl, sym, ap, ◌∙◌, subst, arith}
use Rattle.std.proofs.Math.Seq.{drop-append_seam}
use Rattle.std.proofs.lemmas.List.{length-replicate}
use Rattle.wit_model.specs.Bytes.{Bytes}
use Rattle.wit_model.specs.Distinct.{is_distinct}
use Rattle.wit_model.specs.declared.name.TypeId.{TypeId}
use Rattle.wit_model.specs.declared.types.TypeDef.{TypeDef}
use Rattle.rust_tree.specs.declared.expr.Expr.{Expr}
use Rattle.abi_bindgen.specs.declared.instruction.Instruction.TheVariants.{OptionLower, ResultLower, VariantLower}
use Rattle.abi_bindgen.specs.Cases.{LowersCase, case_shapes, payloads_at}
use Rattle.abi_bindgen.specs.Instructions.{AddsCode, Emits}
use Rattle.abi_bindgen.specs.Laws.{Adds, Grows, Quiet, StaysUncalled}
use Rattle.func_gen.specs.declared.case_form.CaseForm.{CaseForm}
use Rattle.func_gen.specs.declared.function_bindgen.FinishedBlock.{FinishedBlock}
use Rattle.func_gen.specs.declared.function_bindgen.FunctionBindgen.{FunctionBindgen}
use Rattle.func_gen.specs.CaseForms.{AreFormsOf, AreOptionForms, AreResultForms, AreVariantForms, CasedType, a_result, a_variant, an_option}
use Rattle.func_gen.specs.Forms.{operand_of}
use Rattle.func_gen.specs.Formed.{MatchesCases}
use Rattle.func_gen.specs.MatchForms.{LowersBy, lowered_arms, match_of, result_names, result_prefix}
use Rattle.func_gen.specs.Meaning.{File, Serves, func_meaning}
use Rattle.func_gen.specs.Operand.{is_operand}
use Rattle.func_gen.specs.PartForms.{locals_of}
use Rattle.func_gen.specs.Still.{StillOf}
use Rattle.func_gen.proofs.CallRows.{split_used}
use Rattle.func_gen.proofs.CaseArms.{AreNumbered}
use Rattle.func_gen.proofs.CaseMatch.{but, known_but, lowers_case}
use Rattle.func_gen.proofs.CaseQuiet.{quiet_match}
use Rattle.func_gen.proofs.CaseRows.{FitForms}
use Rattle.func_gen.proofs.PartNames.{names_many, parts_distinct}
use Rattle.func_gen.proofs.PartsTaken.{locals_many}
use Rattle.func_gen.proofs.Steps.{func_adds}

-- 1. With other finished blocks the code is the same

module _ (b : FunctionBindgen) (f : List FinishedBlock) (new : FunctionBindgen) where
  serves_but : (w : File) → Serves w (but b f) → Serves w b
  serves_but w h = record { runtime = h.runtime; sites = h.sites; room = h.room; sized = h.sized; static = h.static; bound = h.bound; called = h.called; suspended = h.suspended }

  serves_with : (w : File) → Serves w b → Serves w (but b f)
  serves_with w h = record { runtime = h.runtime; sites = h.sites; room = h.room; sized = h.sized; static = h.static; bound = h.bound; called = h.called; suspended = h.suspended }

  grows_but : Grows func_meaning (but b f) new → Grows func_meaning b new
  grows_but h = record {
    serves = λ w s. serves_but w (h.serves w s);
    more = λ w s. h.more w (serves_with w s);
    stops = h.stops;
    imports = h.imports;
    exports = h.exports;
    arguments = h.arguments;
    knows = h.knows;
    writes = h.writes;
    target = h.target;
    crosses = h.crosses;
    opened = h.opened;
    known = λ w facts s d. h.known w facts s (known_but b f w facts s d);
  }

-- 2. The names of the results

result_count : (n t : ℕ) → length (result_names n t) ≡ n
result_count zero t = refl
result_count (suc zero) t = refl
result_count (suc (suc n)) t = names_many result_prefix t 0 (suc (suc n))

result_distinct : (n t : ℕ) → n < 2 ^ 32 → is_distinct (result_names n t) ≡ true
result_distinct zero t small = refl
result_distinct (suc zero) t small = refl
result_distinct (suc (suc n)) t small = parts_distinct result_prefix t 0 (suc (suc n)) (omega (arith, small))

-- 3. What is emitted

module _ (old new : FunctionBindgen) (forms : List CaseForm) (e : Expr) (n : ℕ) (names : List Bytes) (l : LowersBy forms e n names old new) (ok : is_operand e ≡ true) (small : n < 2 ^ 32) where
  many : length names ≡ n
  many = ap length l.takes.are ∙ result_count n l.takes.number

  distinct : is_distinct names ≡ true
  distinct = ap is_distinct l.takes.are ∙ result_distinct n l.takes.number small

  mid_adds : Adds func_meaning l.mid new
  mid_adds = func_adds l.mid new (match_of names e (lowered_arms forms (reverse l.used)) ∷ []) [] l.adds (λ k free. (split_used l.mid new names l.fresh k free).0) (λ w. quiet_match w n names e forms (reverse l.used) ok l.fit)

  code_grows : Grows func_meaning old new
  code_grows = grows_but old l.mid.finished new (subst (λ b. Grows func_meaning b new) l.uses.rest mid_adds.grows)

  code_quiet : Quiet func_meaning old new
  code_quiet = subst (λ (b : FunctionBindgen). Quiet func_meaning (record b { finished = old.finished }) new) l.uses.rest mid_adds.quiet

  code_uncalled : StaysUncalled func_meaning old new
  code_uncalled = subst (λ (b : FunctionBindgen). StaysUncalled func_meaning (record b { finished = old.finished }) new) l.uses.rest (λ h. mid_adds.uncalled (record { here = h.here; around = h.around }))

  pub blocks_gone : func_meaning.blocks new ≡ drop (length forms) (func_meaning.blocks old)
  blocks_gone =
      ap reverse l.adds.finished ∙ sym (drop-append_seam l.used (reverse l.mid.finished)) ∙ ap (λ k. drop k (l.used ++ reverse l.mid.finished)) l.uses.many ∙ ap (drop (length forms)) (sym l.uses.taken)

  same_asked : new.asked ≡ old.asked
  same_asked = l.adds.asked ∙ ap (λ (b : FunctionBindgen). b.asked) l.uses.rest

  same_returned : new.returned ≡ old.returned
  same_returned = l.adds.returned ∙ ap (λ (b : FunctionBindgen). b.returned) l.uses.rest

  pub still : StillOf old new
  still = record {
    import = l.adds.import ∙ ap (λ (b : FunctionBindgen). b.import) l.uses.rest;
    home = l.adds.home ∙ ap (λ (b : FunctionBindgen). b.home) l.uses.rest;
    area = l.adds.area ∙ ap (λ (b : FunctionBindgen). b.area) l.uses.rest;
    params = l.adds.params ∙ ap (λ (b : FunctionBindgen). b.params) l.uses.rest;
    sites = l.adds.sites ∙ ap (λ (b : FunctionBindgen). b.sites) l.uses.rest;
    sizes = l.adds.sizes ∙ ap (λ (b : FunctionBindgen). b.sizes) l.uses.rest;
  }

  code_added : (used : List ℕ) → length used ≡ length forms → AddsCode func_meaning false used old new
  code_added [] h = record { grows = code_grows; quiet = code_quiet; uncalled = code_uncalled; asked = same_asked; blocks = blocks_gone ∙ ap (λ k. drop k (func_meaning.blocks old)) (sym h) }
  code_added (k ∷ used) h = (code_grows, code_quiet, code_uncalled)

  formed : (types : List TypeDef) (ty : CasedType) → AreFormsOf types old.sites ty forms → MatchesCases types ty n (operand_of e ∷ []) (locals_of names) old new
  formed types ty are = record { forms = forms; are = are; operand = e; only = refl; names = names; lowers = l; results = refl }

  module _ (types : List TypeDef) (id : TypeId) (numbers : (w : File) → Serves w new → AreNumbered w.items 0 forms) (fits : FitForms (case_shapes types id.0) forms) where
    lowers : LowersCase func_meaning (case_shapes types id.0) (operand_of e ∷ []) (locals_of names) old new
    lowers = lowers_case old l.mid new forms e n names l.used l.uses l.fit l.adds l.fresh distinct many numbers (λ w. quiet_match w n names e forms (reverse l.used) ok l.fit) (case_shapes types id.0) fits

    pub variant_row : AreVariantForms types old.sites id.0 forms → length (payloads_at types id.0) ≡ length forms → Emits func_meaning types (VariantLower id n) (operand_of e ∷ []) (locals_of names) old new
    variant_row are each =
        let used : length (replicate (length (payloads_at types id.0)) n) ≡ length forms = length-replicate (length (payloads_at types id.0)) n ∙ each in
        record {
          adds = code_added (replicate (length (payloads_at types id.0)) n) used;
          blocks = blocks_gone ∙ ap (λ k. drop k (func_meaning.blocks old)) (sym used);
          returned = same_returned;
          asked = same_asked;
          results = locals_many names ∙ many;
          form = record { still = still; given = tt; code = formed types (a_variant id.0) are };
          row = lowers;
        }

    pub option_row : AreOptionForms types id.0 forms → length forms ≡ 2 → Emits func_meaning types (OptionLower id n) (operand_of e ∷ []) (locals_of names) old new
    option_row are two = record {
      adds = code_added (n ∷ n ∷ []) (sym two);
      blocks = blocks_gone ∙ ap (λ k. drop k (func_meaning.blocks old)) two;
      returned = same_returned;
      asked = same_asked;
      results = locals_many names ∙ many;
      form = record { still = still; given = tt; code = formed types (an_option id.0) are };
      row = lowers;
    }

    pub result_row : AreResultForms types id.0 forms → length forms ≡ 2 → Emits func_meaning types (ResultLower id n) (operand_of e ∷ []) (locals_of names) old new
    result_row are two = record {
      adds = code_added (n ∷ n ∷ []) (sym two);
      blocks = blocks_gone ∙ ap (λ k. drop k (func_meaning.blocks old)) two;
      returned = same_returned;
      asked = same_asked;
      results = locals_many names ∙ many;
      form = record { still = still; given = tt; code = formed types (a_result id.0) are };
      row = lowers;
    }
