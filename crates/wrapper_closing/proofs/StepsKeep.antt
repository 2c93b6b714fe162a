-- What each step keeps of a bindgen and of its operands, code keeps.
use Rattle.std.proofs.Common.{◌≡◌, ℕ, zero, suc, ◌+◌, ◌-◌, true, false, min, List, [], ◌∷◌, drop, length, take, refl, ap, sym, ◌∙◌, subst}
use Rattle.std.specs.Borrow.{Bor}
use Rattle.std.specs.List.{AllByRecursion}
use Rattle.std.proofs.lemmas.Bool.{and_parts, not-true}
use Rattle.std.proofs.lemmas.List.{length-append, length-drop, length-take}
use Rattle.wit_model.specs.declared.types.TypeDef.{TypeDef}
use Rattle.wit_model.specs.declared.wasm_type.WasmType.{WasmType}
use Rattle.wit_layout.specs.declared.bitcast.Bitcast.{Bitcast}
use Rattle.abi_bindgen.specs.declared.instruction.Instruction.{Instruction}
use Rattle.abi_bindgen.specs.declared.instruction.Instruction.TheVariants.{Bitcasts, ConstZero}
use Rattle.abi_bindgen.specs.Calls.{is_call}
use Rattle.abi_bindgen.specs.Flow.{Flow, ask, behind, both, cast_by, emit, in_block, leading, leave_none, same, zeros_of, ◌>>>◌}
use Rattle.abi_bindgen.specs.Flows.{Flows}
use Rattle.abi_bindgen.specs.Instructions.{Makes}
use Rattle.abi_bindgen.specs.Sent.{Sent, asks, closes, opens, sends, sends_casts, sends_zeros}
use Rattle.abi_bindgen.proofs.AllLemmas.{all_both}
use Rattle.abi_bindgen.proofs.QuietFlows.{is_quiet}
use Rattle.func_gen.specs.declared.function_bindgen.FunctionBindgen.{FunctionBindgen}
use Rattle.func_gen.specs.declared.operand.ExprOperand.{ExprOperand}
use Rattle.func_gen.specs.Formed.{Formed}
use Rattle.func_gen.specs.Meaning.{func_meaning}

-- 1. All of some operands, and of others

module _ {A : Type 0} (P : A → Type 0) where
  all_taken : (n : ℕ) (xs : List A) → AllByRecursion P xs → AllByRecursion P (take n xs)
  all_taken zero xs h = tt
  all_taken (suc n) [] h = tt
  all_taken (suc n) (x ∷ xs) h = (h.0, all_taken n xs h.1)

  all_behind : (n : ℕ) (xs : List A) → AllByRecursion P xs → AllByRecursion P (drop n xs)
  all_behind zero xs h = h
  all_behind (suc n) [] h = tt
  all_behind (suc n) (x ∷ xs) h = all_behind n xs h.1

any_of : {A : Type 0} (xs : List A) → AllByRecursion (λ (x : A). Unit {0}) xs
any_of [] = tt
any_of (x ∷ xs) = (tt, any_of xs)

-- the results of a step. Where a block is opened or closed there are none
abbrev pub AreResults : (ExprOperand → Type 0) → Sent → List ExprOperand → Type 0
AreResults Each opens rs = Unit {0}
AreResults Each closes rs = Unit {0}
AreResults Each step rs = AllByRecursion Each rs

any_results : (step : Sent) (rs : List ExprOperand) → AreResults (λ o. Unit {0}) step rs
any_results opens rs = tt
any_results closes rs = tt
any_results (sends i) rs = any_of rs
any_results (asks a) rs = any_of rs
any_results (sends_casts cs) rs = any_of rs
any_results (sends_zeros zs) rs = any_of rs

module _ (types : List TypeDef) where
  -- 2. How many operands code gives that reads so many

  abbrev pub GivesMany : ℕ → Flow → ℕ → Type 0
  GivesMany n (emit i) k = Makes types i k
  GivesMany n (cast_by casts) k = k ≡ length casts
  GivesMany n (zeros_of zeros) k = k ≡ length zeros
  GivesMany n (ask a) k = k ≡ 1
  GivesMany n (in_block code) k = k ≡ 0
  GivesMany n same k = k ≡ n
  GivesMany n leave_none k = k ≡ 0
  GivesMany n (leading m) k = k ≡ min m n
  GivesMany n (behind m) k = k ≡ n - m
  GivesMany n (one >>> two) k = (between : ℕ) × GivesMany n one between × GivesMany between two k
  GivesMany n (both one two) k = (left : ℕ) × (right : ℕ) × GivesMany n one left × GivesMany n two right × (k ≡ left + right)

  pub gives_many : (code : Flow) (reads gives : List ExprOperand) (old new : FunctionBindgen) → Flows func_meaning types code reads gives old new → GivesMany (length reads) code (length gives)
  gives_many (emit i) reads gives old new e = e.results
  gives_many (cast_by casts) reads gives old new (held, is, e) = e.results ∙ ap length is
  gives_many (zeros_of zeros) reads gives old new (held, is, e) = e.results ∙ ap length is
  gives_many (ask a) reads gives old new (none, o, is, p) = ap length is
  gives_many (in_block code) reads gives old new (none, results, begun, ended, begins, inside, ends) = ap length none
  gives_many same reads gives old new h = ap length h.0
  gives_many leave_none reads gives old new h = ap length h.0
  gives_many (leading n) reads gives old new h = ap length h.0 ∙ length-take n reads
  gives_many (behind n) reads gives old new h = ap length h.0 ∙ length-drop n reads
  gives_many (one >>> two) reads gives old new (between, next, h, g) = (length between, gives_many one reads between old next h, gives_many two between gives next new g)
  gives_many (both one two) reads gives old new (left, right, next, h, g, is) =
      (length left, length right, gives_many one reads left old next h, gives_many two reads right next new g, ap length is ∙ length-append left right)

  -- 3. Code that fits: each instruction does, with as many operands as it reads

  module _ (Fits : Instruction → ℕ → Type 0) where
    abbrev pub StepFits : Sent → ℕ → Type 0
    StepFits (sends i) n = Fits i n
    StepFits _ n = Unit {0}

    abbrev pub CodeFits : ℕ → Flow → Type 0
    CodeFits n (emit i) = Fits i n
    CodeFits n (cast_by casts) = (held : Bor (List Bitcast)) → held.now ≡ casts → Fits (Bitcasts held) n
    CodeFits n (zeros_of zeros) = (held : Bor (List WasmType)) → held.now ≡ zeros → Fits (ConstZero held) n
    CodeFits n (in_block code) = CodeFits n code
    CodeFits n (one >>> two) = CodeFits n one × ((between : ℕ) → GivesMany n one between → CodeFits between two)
    CodeFits n (both one two) = CodeFits n one × CodeFits n two
    CodeFits n _ = Unit {0}

    -- as code that calls nothing does where each instruction fits that is no call
    pub quiet_fits : ((i : Instruction) (n : ℕ) → is_call i ≡ false → Fits i n) → (code : Flow) (n : ℕ) → is_quiet code ≡ true → CodeFits n code
    quiet_fits each (emit i) n q = each i n (not-true (is_call i) q)
    quiet_fits each (cast_by casts) n q = λ held is. each (Bitcasts held) n refl
    quiet_fits each (zeros_of zeros) n q = λ held is. each (ConstZero held) n refl
    quiet_fits each (in_block code) n q = quiet_fits each code n q
    quiet_fits each (one >>> two) n q = let parts = and_parts (is_quiet one) (is_quiet two) q in (quiet_fits each one n parts.0, λ between g. quiet_fits each two between parts.1)
    quiet_fits each (both one two) n q = let parts = and_parts (is_quiet one) (is_quiet two) q in (quiet_fits each one n parts.0, quiet_fits each two n parts.1)
    quiet_fits each _ n q = tt

    -- 4. What each step that fits keeps, code that fits keeps

    module _ (Whole : FunctionBindgen → Type 0) (Each : ExprOperand → Type 0)
        (keeps : (step : Sent) (os rs : List ExprOperand) (old new : FunctionBindgen) → StepFits step (length os) → AllByRecursion Each os → Formed types step os rs old new → Whole old → Whole new × AreResults Each step rs) where
      pub code_keeps : (code : Flow) (reads gives : List ExprOperand) (old new : FunctionBindgen) → CodeFits (length reads) code → Flows func_meaning types code reads gives old new → AllByRecursion Each reads → Whole old
          → Whole new × AllByRecursion Each gives
      code_keeps (emit i) reads gives old new f e all w = keeps (sends i) reads gives old new f all e.form w
      code_keeps (cast_by casts) reads gives old new f (held, is, e) all w = keeps (sends (Bitcasts held)) reads gives old new (f held is) all e.form w
      code_keeps (zeros_of zeros) reads gives old new f (held, is, e) all w = keeps (sends (ConstZero held)) reads gives old new (f held is) all e.form w
      code_keeps (ask a) reads gives old new f (none, o, is, p) all w =
          let k = keeps (asks a) [] (o ∷ []) old new tt tt (p.form types) w in (k.0, subst (AllByRecursion Each) (sym is) k.1)
      code_keeps (in_block code) reads gives old new f (none, results, begun, ended, begins, inside, ends) all w =
          let first = keeps opens [] [] old begun tt tt (begins.form types) w in
          let inner = code_keeps code reads results begun ended f inside all first.0 in
          ((keeps closes results [] ended new tt inner.1 (ends.form types) inner.0).0, subst (AllByRecursion Each) (sym none) tt)
      code_keeps same reads gives old new f h all w = (subst Whole (sym h.1) w, subst (AllByRecursion Each) (sym h.0) all)
      code_keeps leave_none reads gives old new f h all w = (subst Whole (sym h.1) w, subst (AllByRecursion Each) (sym h.0) tt)
      code_keeps (leading n) reads gives old new f h all w = (subst Whole (sym h.1) w, subst (AllByRecursion Each) (sym h.0) (all_taken Each n reads all))
      code_keeps (behind n) reads gives old new f h all w = (subst Whole (sym h.1) w, subst (AllByRecursion Each) (sym h.0) (all_behind Each n reads all))
      code_keeps (one >>> two) reads gives old new f (between, next, h, g) all w =
          let first = code_keeps one reads between old next f.0 h all w in code_keeps two between gives next new (f.1 (length between) (gives_many one reads between old next h)) g first.1 first.0
      code_keeps (both one two) reads gives old new f (left, right, next, h, g, is) all w =
          let first = code_keeps one reads left old next f.0 h all w in
          let second = code_keeps two reads right next new f.1 g all first.0 in
          (second.0, subst (AllByRecursion Each) (sym is) (all_both Each left right first.1 second.1))

    -- the same of what is kept whatever the operands are
    module _ (Whole : FunctionBindgen → Type 0) (keeps : (step : Sent) (os rs : List ExprOperand) (old new : FunctionBindgen) → StepFits step (length os) → Formed types step os rs old new → Whole old → Whole new) where
      pub whole_keeps : (code : Flow) (reads gives : List ExprOperand) (old new : FunctionBindgen) → CodeFits (length reads) code → Flows func_meaning types code reads gives old new → Whole old → Whole new
      whole_keeps code reads gives old new f h w =
          (code_keeps Whole (λ o. Unit {0}) (λ step os rs old new f all e w. (keeps step os rs old new f e w, any_results step rs)) code reads gives old new f h (any_of reads) w).0
