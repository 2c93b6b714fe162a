-- Code of whose steps none calls a method keeps the block of the call that was made before it.
use Rattle.std.proofs.Common.{◌≡◌, ℕ, Bool, true, false, List, [], ◌∷◌, ◌++◌, length, map, Option, None, refl, sym, ap, ◌∙◌, subst}
use Rattle.std.specs.Borrow.{Bor}
use Rattle.rust_tree.specs.declared.export.CallBlock.{CallBlock}
use Rattle.wit_model.specs.declared.function.Function.{Function}
use Rattle.wit_model.specs.declared.function.Param.{Param}
use Rattle.wit_model.specs.declared.types.TypeDef.{TypeDef}
use Rattle.wit_model.specs.declared.types.WitType.{WitType}
use Rattle.wit_layout.specs.declared.signature.AbiVariant.TheVariants.{GuestImport}
use Rattle.abi_bindgen.specs.declared.instruction.Instruction.{Instruction}
use Rattle.abi_bindgen.specs.declared.instruction.Instruction.TheVariants.{CallInterface, CallWasm, GuestDeallocateVariant, OptionLift, OptionLower, ResultLift, ResultLower, VariantLift, VariantLower}
use Rattle.abi_bindgen.specs.Code.{call_code, pass_code, point_code, post_return_code, read_code}
use Rattle.abi_bindgen.specs.Calls.{is_call}
use Rattle.abi_bindgen.specs.Flow.{Flow}
use Rattle.abi_bindgen.specs.Flows.{Flows}
use Rattle.abi_bindgen.specs.Sent.{Sent, closes, opens, sends}
use Rattle.abi_bindgen.proofs.QuietFlows.{is_quiet, pass_quiet, point_quiet, post_return_quiet, read_quiet}
use Rattle.func_gen.specs.declared.function_bindgen.Code.{Code}
use Rattle.func_gen.specs.declared.function_bindgen.FinishedBlock.{FinishedBlock}
use Rattle.func_gen.specs.declared.function_bindgen.FunctionBindgen.{FunctionBindgen}
use Rattle.func_gen.specs.declared.function_bindgen.OpenBlock.{OpenBlock}
use Rattle.func_gen.specs.declared.operand.ExprOperand.{ExprOperand}
use Rattle.func_gen.specs.Added.{Appends}
use Rattle.func_gen.specs.Formed.{ClosesBlock, Formed, OpensBlock}
use Rattle.func_gen.specs.Meaning.{func_meaning}
use Rattle.func_gen.specs.Uses.{Uses}
use Rattle.wrapper_closing.proofs.StepsDeclare.{closed_still}
use Rattle.wrapper_closing.proofs.StepsKeep.{CodeFits, StepFits, quiet_fits, whole_keeps}

-- 1. The calls of open blocks

-- neither the codes that these suspend call a method, nor the innermost code
abbrev AreUncalled : List OpenBlock → Option CallBlock → Type 0
AreUncalled [] call = call ≡ None
AreUncalled (o ∷ opened) call = (o.code.call ≡ None) × AreUncalled opened call

-- the outermost code has this call, and no other has one
abbrev OuterCalls : Option CallBlock → List OpenBlock → Option CallBlock → Type 0
OuterCalls c [] call = call ≡ c
OuterCalls c (o ∷ opened) call = (o.code.call ≡ c) × AreUncalled opened call

abbrev HasCalled : Option CallBlock → FunctionBindgen → Type 0
HasCalled c b = OuterCalls c b.opened b.code.call

-- no method is called by an instruction
abbrev calls_none : Instruction → Bool
calls_none (CallInterface f) = false
calls_none _ = true

abbrev IsUncalling : Instruction → ℕ → Type 0
IsUncalling i n = calls_none i ≡ true

inner_begins : (opened : List OpenBlock) (o : OpenBlock) → AreUncalled opened o.code.call → AreUncalled (opened ++ o ∷ []) None
inner_begins [] o h = (h, refl)
inner_begins (p ∷ opened) o h = (h.0, inner_begins opened o h.1)

outer_begins : (c : Option CallBlock) (opened : List OpenBlock) (o : OpenBlock) → OuterCalls c opened o.code.call → OuterCalls c (opened ++ o ∷ []) None
outer_begins c [] o h = (h, refl)
outer_begins c (p ∷ opened) o h = (h.0, inner_begins opened o h.1)

inner_ends : (opened : List OpenBlock) (o : OpenBlock) (call : Option CallBlock) → AreUncalled (opened ++ o ∷ []) call → AreUncalled opened o.code.call
inner_ends [] o call h = h.0
inner_ends (p ∷ opened) o call h = (h.0, inner_ends opened o call h.1)

outer_ends : (c : Option CallBlock) (opened : List OpenBlock) (o : OpenBlock) (call : Option CallBlock) → OuterCalls c (opened ++ o ∷ []) call → OuterCalls c opened o.code.call
outer_ends c [] o call h = h.0
outer_ends c (p ∷ opened) o call h = (h.0, inner_ends opened o call h.1)

-- 2. Steps

module _ (c : Option CallBlock) (old : FunctionBindgen) (h : HasCalled c old) where
  keeps : (new : FunctionBindgen) → new.code.call ≡ old.code.call → new.opened ≡ old.opened → HasCalled c new
  keeps new call opened = subst (λ o. OuterCalls c o new.code.call) (sym opened) (subst (OuterCalls c old.opened) (sym call) h)

  -- a match of finished blocks
  matches : (used : List FinishedBlock) (n : ℕ) (mid new : FunctionBindgen) (added : _) (items : _) → Uses used n old mid → Appends mid new added items → HasCalled c new
  matches used n mid new added items uses a =
      keeps new (a.call ∙ ap (λ (b : FunctionBindgen). b.code.call) uses.rest) (a.opened ∙ ap (λ (b : FunctionBindgen). b.opened) uses.rest)

  begins : (new : FunctionBindgen) → OpensBlock old new → HasCalled c new
  begins new o =
      let block : OpenBlock = record { number = o.number; names = old.scope.used; code = old.code } in
      subst (OuterCalls c new.opened) (sym (ap (λ (k : Code). k.call) o.code)) (subst (λ opened. OuterCalls c opened None) (sym o.opened) (outer_begins c old.opened block h))

  ends : (os : List ExprOperand) (new : FunctionBindgen) → ClosesBlock os old new → HasCalled c new
  ends os new e =
      subst (λ (k : Code). OuterCalls c new.opened k.call) (sym e.code) (outer_ends c new.opened e.block old.code.call (subst (λ opened. OuterCalls c opened old.code.call) e.opened h))

  step_keeps : (types : List TypeDef) (step : Sent) (os rs : List ExprOperand) (new : FunctionBindgen) → StepFits types IsUncalling step (length os) → Formed types step os rs old new → HasCalled c new
  step_keeps types (sends (CallInterface g)) os rs new q f = absurd (let no = q in cc)
  step_keeps types (sends (CallWasm g)) os rs new q f = let w = f.code.writes in keeps new w.call w.opened
  step_keeps types (sends (VariantLower id n)) os rs new q f = let l = f.code.lowers in matches l.used _ l.mid new _ _ l.uses l.adds
  step_keeps types (sends (OptionLower id n)) os rs new q f = let l = f.code.lowers in matches l.used _ l.mid new _ _ l.uses l.adds
  step_keeps types (sends (ResultLower id n)) os rs new q f = let l = f.code.lowers in matches l.used _ l.mid new _ _ l.uses l.adds
  step_keeps types (sends (OptionLift id)) os rs new q f = let l = f.code.lifts in matches l.used _ l.mid new _ _ l.uses l.adds
  step_keeps types (sends (ResultLift id)) os rs new q f = let l = f.code.lifts in matches l.used _ l.mid new _ _ l.uses l.adds
  step_keeps types (sends (VariantLift id)) os rs new q f = let l = f.code.lifts in matches l.used _ l.mid new _ _ l.uses l.adds
  step_keeps types (sends (GuestDeallocateVariant n)) os rs new q f = let l = f.code.frees in matches l.used _ l.mid new _ _ l.uses l.adds
  step_keeps types opens os rs new q f = begins new f.code
  step_keeps types closes os rs new q f = ends os new f.code
  step_keeps types step os rs new q f = let w = f.code.writes in keeps new w.call w.opened

module _ (types : List TypeDef) (c : Option CallBlock) where
  -- where no block is open before the code
  call_kept : (code : Flow) (reads gives : List ExprOperand) (old new : FunctionBindgen) → CodeFits types IsUncalling (length reads) code → Flows func_meaning types code reads gives old new → old.opened ≡ [] → old.code.call ≡ c → new.code.call ≡ c
  call_kept code reads gives old new fit h before is =
      let none = closed_still types code reads gives old new h before in
      let kept = whole_keeps types IsUncalling (HasCalled c) (λ step os rs old new q f k. step_keeps c old k types step os rs new q f) code reads gives old new fit h (subst (λ opened. OuterCalls c opened old.code.call) (sym before) is) in
      subst (λ opened. OuterCalls c opened new.code.call) none kept

quiet_step : (i : Instruction) (n : ℕ) → is_call i ≡ false → IsUncalling i n
quiet_step (CallInterface f) n q = absurd (let no = q in cc)
quiet_step _ n q = refl

uncalling : (types : List TypeDef) (code : Flow) (n : ℕ) → is_quiet code ≡ true → CodeFits types IsUncalling n code
uncalling types code n q = quiet_fits types IsUncalling quiet_step code n q

-- code that calls nothing
pub quiet_keep : (types : List TypeDef) (c : Option CallBlock) (code : Flow) (reads gives : List ExprOperand) (old new : FunctionBindgen) → is_quiet code ≡ true → Flows func_meaning types code reads gives old new → old.opened ≡ [] → old.code.call ≡ c → new.code.call ≡ c
quiet_keep types c code reads gives old new q h before is = call_kept types c code reads gives old new (uncalling types code (length reads) q) h before is

-- 3. The code of an import, and of a post-return function

pub post_return_uncalled : (types : List TypeDef) (r : Option WitType) (gives : List ExprOperand) (old new : FunctionBindgen) → Flows func_meaning types (post_return_code types r) [] gives old new → old.opened ≡ [] → old.code.call ≡ None → new.code.call ≡ None
post_return_uncalled types r gives old new h none empty = quiet_keep types None (post_return_code types r) [] gives old new (post_return_quiet types r) h none empty

pub import_uncalled : (types : List TypeDef) (func : Bor Function) (gives : List ExprOperand) (old new : FunctionBindgen) → Flows func_meaning types (call_code types GuestImport func) [] gives old new → old.opened ≡ [] → old.code.call ≡ None → new.code.call ≡ None
import_uncalled types func gives old new h none empty =
    let f = func.now in
    let tys = map (λ (p : Param). p.ty) f.params in
    let passed = uncalling types (pass_code types tys) 0 (pass_quiet types tys) in
    let pointed = uncalling types (point_code types f.result) 0 (point_quiet types f.result) in
    let read : (n : ℕ) → CodeFits types IsUncalling n (read_code types f.result) = λ n. uncalling types (read_code types f.result) n (read_quiet types f.result) in
    call_kept types None (call_code types GuestImport func) [] gives old new ((((passed, pointed), (λ n many. (refl, tt))), (λ n many. read n)), (λ n many. refl)) h none empty
