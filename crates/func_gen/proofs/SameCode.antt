-- Two runs of the same code are alike behind it, where they were alike before it: each step has one form, and its operands are those that the
-- steps before it left.
use Rattle.std.proofs.Common.{◌≡◌, ℕ, zero, suc, false, List, [], ◌∷◌, ◌++◌, drop, take, Option, Some, option_map, refl, sym, ap, ap₂, ◌∙◌, subst}
use Rattle.std.specs.Borrow.{Bor}
use Rattle.std.proofs.lemmas.List.{map-append}
use Rattle.wit_model.specs.declared.types.TypeDef.{TypeDef}
use Rattle.wit_model.specs.declared.wasm_type.WasmType.{WasmType}
use Rattle.wit_layout.specs.declared.bitcast.Bitcast.{Bitcast}
use Rattle.rust_tree.specs.declared.expr.Expr.{Expr}
use Rattle.wrapper_meaning.proofs.Lists.{some_same}
use Rattle.abi_bindgen.specs.declared.instruction.Instruction.{Instruction}
use Rattle.abi_bindgen.specs.declared.instruction.Instruction.TheVariants.{Bitcasts, CallInterface, CallWasm, ConstZero, GuestDeallocateVariant, OptionLift, OptionLower, ResultLift, ResultLower, Return, VariantLift, VariantLower}
use Rattle.abi_bindgen.specs.Calls.{returned_by}
use Rattle.abi_bindgen.specs.Flow.{Flow, ask, behind, both, cast_by, emit, in_block, leading, leave_none, same, zeros_of, ◌>>>◌}
use Rattle.abi_bindgen.specs.Flows.{Flows}
use Rattle.abi_bindgen.specs.Instructions.{Emits}
use Rattle.abi_bindgen.specs.Sent.{asks, sends}
use Rattle.func_gen.specs.declared.function_bindgen.FunctionBindgen.{FunctionBindgen}
use Rattle.func_gen.specs.declared.operand.ExprOperand.{ExprOperand}
use Rattle.func_gen.specs.CastForms.{casts, zeros}
use Rattle.func_gen.specs.CodeOf.{Context, context, emitted}
use Rattle.func_gen.specs.Formed.{called}
use Rattle.func_gen.specs.Emission.{Emission}
use Rattle.func_gen.specs.Meaning.{func_meaning}
use Rattle.func_gen.specs.PartForms.{exprs_of}
use Rattle.func_gen.proofs.SameForms.{Alike, closes_same, formed_same, is_side, opens_same, told_by}

-- 1. What is the same behind code

pub record Same (a b : FunctionBindgen) : Type 0 where
  pub alike : Alike a b
  pub asked : b.asked ≡ a.asked
  pub returned : option_map exprs_of b.returned ≡ option_map exprs_of a.returned

pub record SameFlow (gives more : List ExprOperand) (b d : FunctionBindgen) : Type 0 where
  pub results : exprs_of more ≡ exprs_of gives
  pub same : Same b d

-- no step was made
unchanged : (gives more : List ExprOperand) (a b c d : FunctionBindgen) → Same a c → exprs_of more ≡ exprs_of gives → b ≡ a → d ≡ c → SameFlow gives more b d
unchanged gives more a b c d s results left right = record { results = results; same = subst (λ x. Same x d) (sym left) (subst (Same a) (sym right) s) }

exprs_taken : (n : ℕ) (os : List ExprOperand) → exprs_of (take n os) ≡ take n (exprs_of os)
exprs_taken zero os = refl
exprs_taken (suc n) [] = refl
exprs_taken (suc n) (o ∷ os) = ap (λ es. o.expr ∷ es) (exprs_taken n os)

exprs_left : (n : ℕ) (os : List ExprOperand) → exprs_of (drop n os) ≡ drop n (exprs_of os)
exprs_left zero os = refl
exprs_left (suc n) [] = refl
exprs_left (suc n) (o ∷ os) = exprs_left n os

-- 2. Instructions

no_side : (i : Instruction) → is_side (called (sends i)) ≡ false
no_side (CallWasm f) = refl
no_side (CallInterface f) = refl
no_side (VariantLower id n) = refl
no_side (OptionLower id n) = refl
no_side (ResultLower id n) = refl
no_side (VariantLift id) = refl
no_side (OptionLift id) = refl
no_side (ResultLift id) = refl
no_side (GuestDeallocateVariant n) = refl
no_side _ = refl

returned_same : (i : Instruction) (os ps : List ExprOperand) (x y : Option (List ExprOperand)) → exprs_of ps ≡ exprs_of os → option_map exprs_of y ≡ option_map exprs_of x
    → option_map exprs_of (returned_by i ps y) ≡ option_map exprs_of (returned_by i os x)
returned_same (Return n) os ps x y equal e = ap (λ es. Some es) equal
returned_same _ os ps x y equal e = e

-- zeros are told of no operands
zeros_told : (es fs : List Expr) (x y : Context) (held holds : Bor (List WasmType)) (left right : ℕ → Emission) → holds.now ≡ held.now → fs ≡ es → emitted x (sends (ConstZero held)) es ≡ Some left → emitted y (sends (ConstZero holds)) fs ≡ Some right → right ≡ left
zeros_told [] [] x y held holds left right equal e h g = some_same right left (sym g ∙ ap (λ tys. Some (zeros tys)) equal ∙ h)
zeros_told (e1 ∷ es) fs x y held holds left right equal e h g = absurd cc
zeros_told [] (f ∷ fs) x y held holds left right equal e h g = absurd cc

module _ (types : List TypeDef) where
  emits_same : (i : Instruction) (os ps rs ss : List ExprOperand) (a b c d : FunctionBindgen) → Same a c → exprs_of ps ≡ exprs_of os → Emits func_meaning types i os rs a b → Emits func_meaning types i ps ss c d → SameFlow rs ss b d
  emits_same i os ps rs ss a b c d s equal h g =
      let step = formed_same types (sends i) os ps rs ss a b c d (no_side i) s.alike equal h.form g.form in
      record {
        results = step.results;
        same = record {
          alike = step.alike;
          asked = g.asked ∙ s.asked ∙ sym h.asked;
          returned = ap (option_map exprs_of) g.returned ∙ returned_same i os ps a.returned c.returned equal s.returned ∙ ap (option_map exprs_of) (sym h.returned);
        };
      }

  -- casts, and zeros, that are told by equal lists
  casts_same : (os ps rs ss : List ExprOperand) (a b c d : FunctionBindgen) (held holds : Bor (List Bitcast)) → Same a c → exprs_of ps ≡ exprs_of os → holds.now ≡ held.now → Emits func_meaning types (Bitcasts held) os rs a b
      → Emits func_meaning types (Bitcasts holds) ps ss c d → SameFlow rs ss b d
  casts_same os ps rs ss a b c d held holds s e equal h g =
      let left = h.form.code in
      let right = g.form.code in
      let code : right.code ≡ left.code = some_same right.code left.code (sym right.is ∙ ap₂ (λ cs es. Some (casts cs es)) equal e ∙ left.is) in
      let step = told_by (sends (Bitcasts held)) (sends (Bitcasts holds)) os ps rs ss a b c d s.alike h.form.still g.form.still left right code in
      record {
        results = step.results;
        same = record {
          alike = step.alike;
          asked = g.asked ∙ s.asked ∙ sym h.asked;
          returned = ap (option_map exprs_of) g.returned ∙ s.returned ∙ ap (option_map exprs_of) (sym h.returned);
        };
      }

  zeros_same : (os ps rs ss : List ExprOperand) (a b c d : FunctionBindgen) (held holds : Bor (List WasmType)) → Same a c → exprs_of ps ≡ exprs_of os → holds.now ≡ held.now → Emits func_meaning types (ConstZero held) os rs a b
      → Emits func_meaning types (ConstZero holds) ps ss c d → SameFlow rs ss b d
  zeros_same os ps rs ss a b c d held holds s e equal h g =
      let left = h.form.code in
      let right = g.form.code in
      let code : right.code ≡ left.code = zeros_told (exprs_of os) (exprs_of ps) (context a) (context c) held holds left.code right.code equal e left.is right.is in
      let step = told_by (sends (ConstZero held)) (sends (ConstZero holds)) os ps rs ss a b c d s.alike h.form.still g.form.still left right code in
      record {
        results = step.results;
        same = record {
          alike = step.alike;
          asked = g.asked ∙ s.asked ∙ sym h.asked;
          returned = ap (option_map exprs_of) g.returned ∙ s.returned ∙ ap (option_map exprs_of) (sym h.returned);
        };
      }

  -- 3. Code

  pub flows_same : (code : Flow) (reads other gives more : List ExprOperand) (a b c d : FunctionBindgen) → Same a c → exprs_of other ≡ exprs_of reads → Flows func_meaning types code reads gives a b → Flows func_meaning types code other more c d
      → SameFlow gives more b d
  flows_same (emit i) reads other gives more a b c d s e h g = emits_same i reads other gives more a b c d s e h g
  flows_same (cast_by cs) reads other gives more a b c d s e (held, is, h) (holds, are, g) = casts_same reads other gives more a b c d held holds s e (are ∙ sym is) h g
  flows_same (zeros_of tys) reads other gives more a b c d s e (held, is, h) (holds, are, g) = zeros_same reads other gives more a b c d held holds s e (are ∙ sym is) h g
  flows_same (ask room) reads other gives more a b c d s e (none, o, is, p) (none2, o2, is2, q) =
      let step = formed_same types (asks room) [] [] (o ∷ []) (o2 ∷ []) a b c d refl s.alike refl (p.form types) (q.form types) in
      record {
        results = ap exprs_of is2 ∙ step.results ∙ sym (ap exprs_of is);
        same = record {
          alike = step.alike;
          asked = q.asked ∙ ap (λ xs. xs ++ room ∷ []) s.asked ∙ sym p.asked;
          returned = ap (option_map exprs_of) q.returned ∙ s.returned ∙ ap (option_map exprs_of) (sym p.returned);
        };
      }
  flows_same (in_block code) reads other gives more a b c d s e (none, results, begun, ended, begins, inside, ends) (none2, results2, begun2, ended2, begins2, inside2, ends2) =
      let entered : Same begun begun2 = record {
        alike = opens_same a begun c begun2 s.alike (begins.form types).still (begins2.form types).still (begins.form types).code (begins2.form types).code;
        asked = begins2.lasts.asked ∙ s.asked ∙ sym begins.lasts.asked;
        returned = ap (option_map exprs_of) begins2.lasts.returned ∙ s.returned ∙ ap (option_map exprs_of) (sym begins.lasts.returned);
      } in
      let run = flows_same code reads other results results2 begun ended begun2 ended2 entered e inside inside2 in
      record {
        results = ap exprs_of none2 ∙ sym (ap exprs_of none);
        same = record {
          alike = closes_same results results2 ended b ended2 d run.same.alike (ends.form types).still (ends2.form types).still run.results (ends.form types).code (ends2.form types).code;
          asked = ends2.lasts.asked ∙ run.same.asked ∙ sym ends.lasts.asked;
          returned = ap (option_map exprs_of) ends2.lasts.returned ∙ run.same.returned ∙ ap (option_map exprs_of) (sym ends.lasts.returned);
        };
      }
  flows_same same reads other gives more a b c d s e h g = unchanged gives more a b c d s (ap exprs_of g.0 ∙ e ∙ sym (ap exprs_of h.0)) h.1 g.1
  flows_same leave_none reads other gives more a b c d s e h g = unchanged gives more a b c d s (ap exprs_of g.0 ∙ sym (ap exprs_of h.0)) h.1 g.1
  flows_same (leading n) reads other gives more a b c d s e h g =
      unchanged gives more a b c d s (ap exprs_of g.0 ∙ exprs_taken n other ∙ ap (take n) e ∙ sym (exprs_taken n reads) ∙ sym (ap exprs_of h.0)) h.1 g.1
  flows_same (behind n) reads other gives more a b c d s e h g =
      unchanged gives more a b c d s (ap exprs_of g.0 ∙ exprs_left n other ∙ ap (drop n) e ∙ sym (exprs_left n reads) ∙ sym (ap exprs_of h.0)) h.1 g.1
  flows_same (one >>> two) reads other gives more a b c d s e (between, next, h, k) (between2, next2, g, l) =
      let first = flows_same one reads other between between2 a next c next2 s e h g in
      flows_same two between between2 gives more next b next2 d first.same first.results k l
  flows_same (both one two) reads other gives more a b c d s e (left, right, next, h, k, is) (left2, right2, next2, g, l, is2) =
      let first = flows_same one reads other left left2 a next c next2 s e h g in
      let second = flows_same two reads other right right2 next b next2 d first.same e k l in
      record {
        results = ap exprs_of is2 ∙ map-append (λ (o : ExprOperand). o.expr) left2 right2 ∙ ap₂ (λ xs ys. xs ++ ys) first.results second.results ∙ sym (map-append (λ (o : ExprOperand). o.expr) left right) ∙ sym (ap exprs_of is);
        same = second.same;
      }
