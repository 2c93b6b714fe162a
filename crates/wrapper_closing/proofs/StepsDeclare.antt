-- What code that calls nothing declares, where so much was declared before it.
use Rattle.std.proofs.Common.{◌≡◌, ℕ, suc, true, false, List, [], ◌∷◌, ◌++◌, length, reverse, refl, sym, ap, ◌∙◌, subst}
use Rattle.std.proofs.lemmas.List.{length-map, length-reverse}
use Rattle.wit_model.specs.Bytes.{Bytes}
use Rattle.wit_model.specs.declared.types.TypeDef.{TypeDef}
use Rattle.rust_tree.specs.declared.expr.Expr.{Expr}
use Rattle.rust_tree.specs.declared.runtime_item.RuntimeItem.{RuntimeItem}
use Rattle.rust_tree.specs.declared.runtime_item.RuntimeItem.TheVariants.{InvalidEnumDiscriminant}
use Rattle.rust_tree.specs.declared.stmt.ImportDecl.{ImportDecl}
use Rattle.rust_tree.specs.declared.stmt.Stmt.{Stmt}
use Rattle.abi_bindgen.specs.declared.instruction.Instruction.{Instruction}
use Rattle.abi_bindgen.specs.declared.instruction.Instruction.TheVariants.{CallInterface, CallWasm, GuestDeallocateVariant, OptionLift, OptionLower, ResultLift, ResultLower, VariantLift, VariantLower}
use Rattle.abi_bindgen.specs.Calls.{is_call}
use Rattle.abi_bindgen.specs.Flow.{Flow}
use Rattle.abi_bindgen.specs.Flows.{Flows}
use Rattle.abi_bindgen.specs.Sent.{Sent, closes, opens, sends}
use Rattle.abi_bindgen.proofs.AllLemmas.{all_both, all_left, all_right}
use Rattle.abi_bindgen.proofs.QuietFlows.{flows_opened, is_quiet}
use Rattle.func_gen.specs.declared.function_bindgen.Code.{Code}
use Rattle.func_gen.specs.declared.function_bindgen.FinishedBlock.{FinishedBlock}
use Rattle.func_gen.specs.declared.function_bindgen.FunctionBindgen.{FunctionBindgen}
use Rattle.func_gen.specs.declared.function_bindgen.OpenBlock.{OpenBlock}
use Rattle.func_gen.specs.declared.operand.ExprOperand.{ExprOperand}
use Rattle.func_gen.specs.Added.{Appends}
use Rattle.func_gen.specs.CodeOf.{context}
use Rattle.func_gen.specs.Formed.{BecomesTold, ClosesBlock, Formed, OpensBlock, block_of}
use Rattle.func_gen.specs.LiftedCases.{LiftsBy, LiftsVariantBy, FreesBy}
use Rattle.func_gen.specs.MatchForms.{LowersBy, lowered_arms, match_of}
use Rattle.func_gen.specs.Meaning.{func_meaning}
use Rattle.func_gen.specs.Opened.{is_closed, open_block}
use Rattle.func_gen.specs.PartForms.{exprs_of}
use Rattle.func_gen.specs.Uses.{Uses}
use Rattle.func_gen.proofs.BlocksThere.{all_back}
use Rattle.func_gen.proofs.KeptNames.{all_others, all_used}
use Rattle.wrapper_closing.specs.Declares.{Declaration}
use Rattle.wrapper_closing.proofs.StepsKeep.{StepFits, quiet_fits, whole_keeps}
use Rattle.wrapper_closing.proofs.Undeclared.{AreBare, Declare, IsBare, declare_more, frees_bare, last_bare, lifts_bare, lowers_bare, no_stmts, told_bare}

-- an instruction is no call
abbrev IsNoCall : Instruction → ℕ → Type 0
IsNoCall i n = is_call i ≡ false

-- 1. What is declared by code that is made

module _ (what : Declaration) where
  -- the statements of open blocks declare none, and no more does the innermost code
  abbrev pub AreInner : List OpenBlock → List Stmt → Type 0
  AreInner [] stmts = Declare what [] stmts
  AreInner (o ∷ opened) stmts = Declare what [] o.code.stmts × AreInner opened stmts

  -- the outermost code declares these
  abbrev pub Outer : List ImportDecl → List OpenBlock → List Stmt → Type 0
  Outer decls [] stmts = Declare what decls stmts
  Outer decls (o ∷ opened) stmts = Declare what decls o.code.stmts × AreInner opened stmts

  pub record HasDeclared (decls : List ImportDecl) (b : FunctionBindgen) : Type 0 where
    pub outer : Outer decls b.opened b.code.stmts
    pub blocks : AreBare what b.finished

  inner_more : (opened : List OpenBlock) (stmts added : List Stmt) → AreInner opened stmts → Declare what [] added → AreInner opened (stmts ++ added)
  inner_more [] stmts added h g = declare_more what [] stmts added h g
  inner_more (o ∷ opened) stmts added h g = (h.0, inner_more opened stmts added h.1 g)

  outer_more : (decls : List ImportDecl) (opened : List OpenBlock) (stmts added : List Stmt) → Outer decls opened stmts → Declare what [] added → Outer decls opened (stmts ++ added)
  outer_more decls [] stmts added h g = declare_more what decls stmts added h g
  outer_more decls (o ∷ opened) stmts added h g = (h.0, inner_more opened stmts added h.1 g)

  inner_opens : (opened : List OpenBlock) (o : OpenBlock) → AreInner opened o.code.stmts → AreInner (opened ++ o ∷ []) []
  inner_opens [] o h = (h, no_stmts what)
  inner_opens (p ∷ opened) o h = (h.0, inner_opens opened o h.1)

  outer_opens : (decls : List ImportDecl) (opened : List OpenBlock) (o : OpenBlock) → Outer decls opened o.code.stmts → Outer decls (opened ++ o ∷ []) []
  outer_opens decls [] o h = (h, no_stmts what)
  outer_opens decls (p ∷ opened) o h = (h.0, inner_opens opened o h.1)

  inner_closes : (opened : List OpenBlock) (o : OpenBlock) (stmts : List Stmt) → AreInner (opened ++ o ∷ []) stmts → AreInner opened o.code.stmts × Declare what [] stmts
  inner_closes [] o stmts h = (h.0, h.1)
  inner_closes (p ∷ opened) o stmts h = let rest = inner_closes opened o stmts h.1 in ((h.0, rest.0), rest.1)

  outer_closes : (decls : List ImportDecl) (opened : List OpenBlock) (o : OpenBlock) (stmts : List Stmt) → Outer decls (opened ++ o ∷ []) stmts → Outer decls opened o.code.stmts × Declare what [] stmts
  outer_closes decls [] o stmts h = (h.0, h.1)
  outer_closes decls (p ∷ opened) o stmts h = let rest = inner_closes opened o stmts h.1 in ((h.0, rest.0), rest.1)

  -- 2. Steps

  abbrev Bare : FinishedBlock → Type 0
  Bare b = Declare what [] b.stmts

  module _ (decls : List ImportDecl) (old : FunctionBindgen) (h : HasDeclared decls old) where
    -- statements that declare none are added
    adds : (new : FunctionBindgen) (added : List Stmt) → new.opened ≡ old.opened → new.code.stmts ≡ old.code.stmts ++ added → Declare what [] added → AreBare what new.finished → HasDeclared decls new
    adds new added opened stmts g blocks = record {
      outer = subst (λ o. Outer decls o new.code.stmts) (sym opened) (subst (Outer decls old.opened) (sym stmts) (outer_more decls old.opened old.code.stmts added h.outer g));
      blocks = blocks;
    }

    module _ (used : List FinishedBlock) (n : ℕ) (mid : FunctionBindgen) (uses : Uses used n old mid) where
      used_bare : AreBare what (reverse used)
      used_bare = all_back Bare used (all_used Bare old.finished used mid.finished uses.taken h.blocks)

      left_bare : AreBare what mid.finished
      left_bare = all_others Bare old.finished used mid.finished uses.taken h.blocks

      -- a match of them is added
      matches : (new : FunctionBindgen) (added : List Stmt) (items : List RuntimeItem) → Appends mid new added items → Declare what [] added → HasDeclared decls new
      matches new added items a g =
          adds new added (a.opened ∙ ap (λ (b : FunctionBindgen). b.opened) uses.rest) (a.stmts ∙ ap (λ (b : FunctionBindgen). b.code.stmts ++ added) uses.rest) g (subst (AreBare what) (sym a.finished) left_bare)

    lowered : (cases : _) (e : Expr) (n : ℕ) (names : List Bytes) (new : FunctionBindgen) → LowersBy cases e n names old new → HasDeclared decls new
    lowered cases e n names new l =
        matches l.used (length cases) l.mid l.uses new (match_of names e (lowered_arms cases (reverse l.used)) ∷ []) [] l.adds (lowers_bare what names e cases (reverse l.used) (used_bare l.used (length cases) l.mid l.uses))

    lifted : (cases : _) (e : Expr) (v : Bytes) (new : FunctionBindgen) → LiftsBy cases e v old new → HasDeclared decls new
    lifted cases e v new l = matches l.used (length cases) l.mid l.uses new _ (InvalidEnumDiscriminant ∷ []) l.adds (lifts_bare what v e cases (reverse l.used) (used_bare l.used (length cases) l.mid l.uses))

    lifted_last : (cases : _) (c : _) (e : Expr) (n v : Bytes) (new : FunctionBindgen) → LiftsVariantBy cases c e n v old new → HasDeclared decls new
    lifted_last cases c e n v new l =
        let bare = subst (AreBare what) l.split (used_bare l.used (suc (length cases)) l.mid l.uses) in
        matches l.used (suc (length cases)) l.mid l.uses new _ [] l.adds (last_bare what n v e cases c l.first l.last (all_left Bare l.first (l.last ∷ []) bare) (all_right Bare l.first (l.last ∷ []) bare).0)

    freed : (k : ℕ) (e : Expr) (new : FunctionBindgen) → FreesBy k e old new → HasDeclared decls new
    freed k e new l =
        let bare = subst (AreBare what) l.split (used_bare l.used (suc k) l.mid l.uses) in
        matches l.used (suc k) l.mid l.uses new _ [] l.adds (frees_bare what e l.first l.last (all_left Bare l.first (l.last ∷ []) bare) (all_right Bare l.first (l.last ∷ []) bare).0)

    opened_block : (new : FunctionBindgen) → OpensBlock old new → HasDeclared decls new
    opened_block new o =
        let block : OpenBlock = record { number = o.number; names = old.scope.used; code = old.code } in
        record {
          outer = subst (λ x. Outer decls new.opened x) (sym (ap (λ (c : Code). c.stmts) o.code)) (subst (λ x. Outer decls x []) (sym o.opened) (outer_opens decls old.opened block h.outer));
          blocks = subst (AreBare what) (sym o.finished) h.blocks;
        }

    closed_block : (os : List ExprOperand) (new : FunctionBindgen) → ClosesBlock os old new → HasDeclared decls new
    closed_block os new c =
        let parts = outer_closes decls new.opened c.block old.code.stmts (subst (λ x. Outer decls x old.code.stmts) c.opened h.outer) in
        record {
          outer = subst (λ (x : Code). Outer decls new.opened x.stmts) (sym c.code) parts.0;
          blocks = subst (AreBare what) (sym c.finished) (all_both Bare old.finished (block_of c.block old.code.stmts os ∷ []) h.blocks (parts.1, tt));
        }

    written : (step : Sent) (os rs : List ExprOperand) (new : FunctionBindgen) → BecomesTold step os rs old new → HasDeclared decls new
    written step os rs new t =
        let bare = subst (IsBare what) t.is (told_bare what (context old) step (exprs_of os)) in
        adds new (t.code t.writes.number).stmts t.writes.opened t.writes.stmts (bare t.writes.number) (subst (AreBare what) (sym t.writes.finished) h.blocks)

    -- a step that is no call leaves what is declared
    step_declares : (types : List TypeDef) (step : Sent) (os rs : List ExprOperand) (new : FunctionBindgen) → StepFits types IsNoCall step (length os) → Formed types step os rs old new → HasDeclared decls new
    step_declares types (sends (CallWasm g)) os rs new q f = absurd (let no = q in cc)
    step_declares types (sends (CallInterface g)) os rs new q f = absurd (let no = q in cc)
    step_declares types (sends (VariantLower id n)) os rs new q f = let c = f.code in lowered c.forms c.operand n c.names new c.lowers
    step_declares types (sends (OptionLower id n)) os rs new q f = let c = f.code in lowered c.forms c.operand n c.names new c.lowers
    step_declares types (sends (ResultLower id n)) os rs new q f = let c = f.code in lowered c.forms c.operand n c.names new c.lowers
    step_declares types (sends (OptionLift id)) os rs new q f = let c = f.code in lifted c.forms c.operand c.name new c.lifts
    step_declares types (sends (ResultLift id)) os rs new q f = let c = f.code in lifted c.forms c.operand c.name new c.lifts
    step_declares types (sends (VariantLift id)) os rs new q f = let c = f.code in lifted_last c.forms c.last c.operand c.number c.name new c.lifts
    step_declares types (sends (GuestDeallocateVariant n)) os rs new q f = let c = f.code in freed c.first c.operand new c.frees
    step_declares types opens os rs new q f = opened_block new f.code
    step_declares types closes os rs new q f = closed_block os new f.code
    step_declares types step os rs new q f = written step os rs new f.code

  -- 3. Code

  pub declares_still : (types : List TypeDef) (decls : List ImportDecl) (code : Flow) (reads gives : List ExprOperand) (old new : FunctionBindgen) → is_quiet code ≡ true → Flows func_meaning types code reads gives old new → HasDeclared decls old → HasDeclared decls new
  declares_still types decls code reads gives old new q h d =
      whole_keeps types IsNoCall (HasDeclared decls) (λ step os rs old new q f d. step_declares decls old d types step os rs new q f) code reads gives old new (quiet_fits types IsNoCall (λ i n quiet. quiet) code (length reads) q) h d

  -- what the code declares where no block is open
  pub outside_of : (decls : List ImportDecl) (b : FunctionBindgen) → b.opened ≡ [] → HasDeclared decls b → Declare what decls b.code.stmts
  outside_of decls b none h = subst (λ o. Outer decls o b.code.stmts) none h.outer

-- 4. Blocks that are open

no_more : {A : Type 0} (xs : List A) → length xs ≡ 0 → xs ≡ []
no_more [] h = refl
no_more (x ∷ xs) h = absurd (let no = h in cc)

-- how many blocks are open
open_many : (b : FunctionBindgen) → length (func_meaning.opened b) ≡ length b.opened
open_many b = length-map (reverse b.opened) open_block ∙ length-reverse b.opened

pub none_open : (b : FunctionBindgen) → func_meaning.opened b ≡ [] → b.opened ≡ []
none_open b h = no_more b.opened (sym (open_many b) ∙ ap length h)

-- code leaves as many open as there were
pub as_open : (types : List TypeDef) (code : Flow) (reads gives : List ExprOperand) (old new : FunctionBindgen) → Flows func_meaning types code reads gives old new → length new.opened ≡ length old.opened
as_open types code reads gives old new h = sym (open_many new) ∙ ap length (flows_opened func_meaning types code reads gives old new h) ∙ open_many old

pub closed_still : (types : List TypeDef) (code : Flow) (reads gives : List ExprOperand) (old new : FunctionBindgen) → Flows func_meaning types code reads gives old new → old.opened ≡ [] → new.opened ≡ []
closed_still types code reads gives old new h none = no_more new.opened (as_open types code reads gives old new h ∙ ap length none)

closed_is : (opened : List OpenBlock) → is_closed opened ≡ true → opened ≡ []
closed_is [] h = refl
closed_is (o ∷ opened) h = absurd (let no = h in cc)

-- and where none is open behind it, none was before
pub closed_before : (types : List TypeDef) (code : Flow) (reads gives : List ExprOperand) (old new : FunctionBindgen) → Flows func_meaning types code reads gives old new → is_closed new.opened ≡ true → old.opened ≡ []
closed_before types code reads gives old new h closed = no_more old.opened (sym (as_open types code reads gives old new h) ∙ ap length (closed_is new.opened closed))
