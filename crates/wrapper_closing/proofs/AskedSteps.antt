-- What a step asks for of `_rt` its code names, or its results; and which steps use up what their operands name.
use Rattle.std.proofs.Common.{◌≡◌, ℕ, suc, true, false, not, List, [], ◌∷◌, ◌++◌, length, map, reverse, Option, None, Some, refl, sym, ap, ap₂, ◌∙◌, subst}
use Rattle.std.specs.Borrow.{Bor}
use Rattle.std.specs.List.{flat_map}
use Rattle.std.proofs.lemmas.Grind.{flat_map-append}
use Rattle.std.proofs.lemmas.List.{length-map, length-reverse, reverse-append, reverse-reverse}
use Rattle.wit_layout.specs.declared.bitcast.Bitcast.{Bitcast}
use Rattle.wit_model.specs.Bytes.{Bytes}
use Rattle.wit_model.specs.declared.function.Function.{Function}
use Rattle.wit_model.specs.declared.types.TypeDef.{TypeDef}
use Rattle.wit_model.specs.declared.wasm_type.WasmType.{WasmType}
use Rattle.rust_tree.specs.declared.export.CallBlock.{CallBlock}
use Rattle.rust_tree.specs.declared.expr.Expr.{Expr}
use Rattle.rust_tree.specs.declared.expr.Expr.TheVariants as expr
use Rattle.rust_tree.specs.declared.pattern.ArmPattern.TheVariants as arm
use Rattle.rust_tree.specs.declared.runtime_item.RuntimeItem.{RuntimeItem}
use Rattle.rust_tree.specs.declared.runtime_item.RuntimeItem.TheVariants.{InvalidEnumDiscriminant}
use Rattle.rust_tree.specs.declared.stmt.Arm.{Arm}
use Rattle.rust_tree.specs.declared.stmt.MatchNames.{MatchNames}
use Rattle.rust_tree.specs.declared.stmt.Stmt.{Stmt}
use Rattle.rust_tree.specs.declared.stmt.Stmt.TheVariants as stmt
use Rattle.rust_tree.specs.Asked.{asked_by_arm, asked_by_block, asked_by_call, asked_by_expr, asked_by_stmt}
use Rattle.rust_tree.proofs.StmtLemmas.{asked-match}
use Rattle.abi_bindgen.specs.declared.instruction.Instruction.{Instruction}
use Rattle.abi_bindgen.specs.declared.instruction.Instruction.TheVariants.{Bitcasts, CallInterface, CallWasm, GuestDeallocateVariant, OptionLift, OptionLower, ResultLift, ResultLower, VariantLift, VariantLower}
use Rattle.abi_bindgen.specs.declared.bindgen.Asked.{Asked}
use Rattle.abi_bindgen.specs.Calls.{import_params}
use Rattle.abi_bindgen.specs.Sent.{Sent, asks, closes, opens, sends}
use Rattle.abi_bindgen.proofs.SpentFlows.{converts, uses}
use Rattle.wrapper_meaning.proofs.Lists.{some_same}
use Rattle.func_gen.specs.CaseForms.{CasedType}
use Rattle.func_gen.specs.declared.function_bindgen.Code.{Code}
use Rattle.func_gen.specs.declared.function_bindgen.FinishedBlock.{FinishedBlock}
use Rattle.func_gen.specs.declared.function_bindgen.FunctionBindgen.{FunctionBindgen}
use Rattle.func_gen.specs.declared.function_bindgen.OpenBlock.{OpenBlock}
use Rattle.func_gen.specs.declared.operand.ExprOperand.{ExprOperand}
use Rattle.func_gen.specs.Added.{Appends}
use Rattle.func_gen.specs.CallForms.{import_name, import_of, local_path, ret_name}
use Rattle.func_gen.specs.CastForms.{casts}
use Rattle.func_gen.specs.CodeOf.{calls_core, context}
use Rattle.func_gen.specs.Emission.{Emission, Writes}
use Rattle.func_gen.specs.Formed.{BecomesTold, CallsImported, CallsMethod, ClosesBlock, Formed, FreesCases, LiftsCases, LiftsLast, MatchesCases, OpensBlock, block_of}
use Rattle.func_gen.specs.LiftedCases.{freed_body, invalid_body, last_body, lifted_bodies, number_arms}
use Rattle.func_gen.specs.MatchForms.{arm_of, lowered_arms, match_names}
use Rattle.func_gen.specs.MethodForms.{call_block, value_local}
use Rattle.func_gen.specs.PartForms.{exprs_of, locals_of}
use Rattle.func_gen.specs.Uses.{Uses}
use Rattle.wrapper_closing.proofs.AskedEmissions.{ArePlain, AreNamed, IsNamed, casts_spent, emission_named, is_plain_step, stores_spend, told_named}
use Rattle.wrapper_closing.proofs.AskedForms.{arguments_named, code_named, expr_named, exprs_named, item_named, let_named, named-local, one_named, stmts_named}
use Rattle.wrapper_closing.proofs.AskedMatches.{block_named, blocks_named, frees_named, lifts_last_named, lifts_named, lowered_named, operands_named, other_named}
use Rattle.wrapper_closing.proofs.Within.{Within, in_left, in_right, within_as, within_both, within_from, within_left, within_none, within_pairs, within_right, within_self, within_then, within_to}

abbrev Items : Type 0
Items = List RuntimeItem

-- 1. What all code of a bindgen names: that of the open blocks, of the innermost one, and of finished blocks

abbrev pub call_named : Option CallBlock → List RuntimeItem
call_named None = []
call_named (Some block) = asked_by_call block

abbrev pub code_items : Code → List RuntimeItem
code_items code = call_named code.call ++ stmts_named code.stmts

abbrev pub outer_named : List OpenBlock → List RuntimeItem
outer_named opened = flat_map (λ (o : OpenBlock). code_items o.code) opened

abbrev pub all_named : FunctionBindgen → List RuntimeItem
all_named b = outer_named b.opened ++ (code_items b.code ++ blocks_named b.finished)

-- what was named is named still, and what is asked for is named by all code, or by these operands
pub record Accounts (old new : FunctionBindgen) (rs : List ExprOperand) : Type 0 where
  pub grows : Within (all_named old) (all_named new)
  pub asks : Within new.runtime (old.runtime ++ (all_named new ++ operands_named rs))

code_in : (b : FunctionBindgen) → Within (code_items b.code) (all_named b)
code_in b = within_right (outer_named b.opened) (code_items b.code ++ blocks_named b.finished) (in_left (code_items b.code) (blocks_named b.finished))

finished_in : (b : FunctionBindgen) → Within (blocks_named b.finished) (all_named b)
finished_in b = within_right (outer_named b.opened) (code_items b.code ++ blocks_named b.finished) (in_right (code_items b.code) (blocks_named b.finished))

-- blocks that stay
still_finished : (old new : FunctionBindgen) → new.finished ≡ old.finished → Within (blocks_named old.finished) (all_named new)
still_finished old new same = within_from (blocks_named old.finished) (blocks_named new.finished) (ap blocks_named (sym same)) (finished_in new)

still_opened : (old new : FunctionBindgen) → new.opened ≡ old.opened → Within (outer_named old.opened) (all_named new)
still_opened old new same = within_from (outer_named old.opened) (outer_named new.opened) (ap outer_named (sym same)) (in_left (outer_named new.opened) (code_items new.code ++ blocks_named new.finished))

-- where nothing more is asked for
unasked : (old new : FunctionBindgen) (rs : List ExprOperand) → new.runtime ≡ old.runtime → Within (all_named old) (all_named new) → Accounts old new rs
unasked old new rs same grows = record { grows = grows; asks = within_from new.runtime old.runtime same (in_left old.runtime (all_named new ++ operands_named rs)) }

pub locals_none : (names : List Bytes) → operands_named (locals_of names) ≡ []
locals_none [] = refl
locals_none (n ∷ names) = ap₂ (λ (x y : Items). x ++ y) (named-local n) (locals_none names)

-- 2. Statements are added

module _ (old new : FunctionBindgen) (added : List Stmt) (opened : new.opened ≡ old.opened) (call : new.code.call ≡ old.code.call) (stmts : new.code.stmts ≡ old.code.stmts ++ added) where
  code_is : code_items new.code ≡ call_named old.code.call ++ (stmts_named old.code.stmts ++ stmts_named added)
  code_is = ap₂ (λ (c s : Items). c ++ s) (ap call_named call) (ap stmts_named stmts ∙ flat_map-append asked_by_stmt old.code.stmts added)

  into_code : (xs : Items) → Within xs (call_named old.code.call ++ (stmts_named old.code.stmts ++ stmts_named added)) → Within xs (all_named new)
  into_code xs h = within_then (within_to (call_named old.code.call ++ (stmts_named old.code.stmts ++ stmts_named added)) (code_items new.code) (sym code_is) h) (code_in new)

  added_in : Within (stmts_named added) (all_named new)
  added_in = into_code (stmts_named added) (within_right (call_named old.code.call) (stmts_named old.code.stmts ++ stmts_named added) (in_right (stmts_named old.code.stmts) (stmts_named added)))

  before_in : Within (code_items old.code) (all_named new)
  before_in =
      into_code (code_items old.code)
      (within_pairs (call_named old.code.call) (stmts_named old.code.stmts) (call_named old.code.call) (stmts_named old.code.stmts ++ stmts_named added) (within_self (call_named old.code.call)) (in_left (stmts_named old.code.stmts) (stmts_named added)))

  -- those name what they ask for, or the results do
  adds : (rs : List ExprOperand) (items : Items) → new.runtime ≡ old.runtime ++ items → Within items (stmts_named added ++ operands_named rs) → Within (blocks_named old.finished) (all_named new) → Accounts old new rs
  adds rs items more named blocks =
      let all = all_named new ++ operands_named rs in
      record {
        grows = within_both (outer_named old.opened) (code_items old.code ++ blocks_named old.finished) (still_opened old new opened) (within_both (code_items old.code) (blocks_named old.finished) before_in blocks);
        asks = within_from new.runtime (old.runtime ++ items) more
            (within_both old.runtime items (in_left old.runtime all)
            (within_right old.runtime all (within_then named (within_both (stmts_named added) (operands_named rs) (within_left (all_named new) (operands_named rs) added_in) (in_right (all_named new) (operands_named rs))))));
      }

module _ (code : ℕ → Emission) (rs : List ExprOperand) (old new : FunctionBindgen) (w : Writes code rs old new) where
  results_are : operands_named rs ≡ exprs_named (code w.number).results
  results_are = ap exprs_named w.results

  with_results : emission_named (code w.number) ≡ stmts_named (code w.number).stmts ++ operands_named rs
  with_results = ap (λ (xs : Items). stmts_named (code w.number).stmts ++ xs) (sym results_are)

  writes_accounts : Within (code w.number).items (emission_named (code w.number)) → Accounts old new rs
  writes_accounts h =
      adds old new (code w.number).stmts w.opened w.call w.stmts rs (code w.number).items w.runtime (within_to (emission_named (code w.number)) (stmts_named (code w.number).stmts ++ operands_named rs) with_results h) (still_finished old new w.finished)

  writes_named : Within (stmts_named (code w.number).stmts) (all_named new)
  writes_named = added_in old new (code w.number).stmts w.opened w.call w.stmts

  writes_spends : (xs : Items) → Within xs (emission_named (code w.number)) → Within xs (all_named new ++ operands_named rs)
  writes_spends xs h =
      within_then (within_to (emission_named (code w.number)) (stmts_named (code w.number).stmts ++ operands_named rs) with_results h)
      (within_pairs (stmts_named (code w.number).stmts) (operands_named rs) (all_named new) (operands_named rs) writes_named (within_self (operands_named rs)))

-- 3. Matches of finished blocks

module _ (old : FunctionBindgen) (used : List FinishedBlock) (n : ℕ) (mid : FunctionBindgen) (by : Uses used n old mid) (new : FunctionBindgen) (bound : MatchNames) (e : Expr) (arms : List Arm) (items : Items) (a : Appends mid new (stmt.Match bound e arms ∷ []) items) where
  abbrev one : Stmt
  one = stmt.Match bound e arms

  opened_still : new.opened ≡ old.opened
  opened_still = a.opened ∙ ap (λ (b : FunctionBindgen). b.opened) by.rest

  call_still : new.code.call ≡ old.code.call
  call_still = a.call ∙ ap (λ (b : FunctionBindgen). b.code.call) by.rest

  stmts_more : new.code.stmts ≡ old.code.stmts ++ one ∷ []
  stmts_more = a.stmts ∙ ap (λ (b : FunctionBindgen). b.code.stmts ++ one ∷ []) by.rest

  match_in : (xs : Items) → Within xs (asked_by_expr e ++ flat_map asked_by_arm arms) → Within xs (stmts_named (one ∷ []))
  match_in xs h = within_left (asked_by_stmt one) [] (within_to (asked_by_expr e ++ flat_map asked_by_arm arms) (asked_by_stmt one) (sym (asked-match bound e arms)) h)

  blocks_are : old.finished ≡ mid.finished ++ reverse used
  blocks_are = sym (reverse-reverse old.finished) ∙ ap reverse by.taken ∙ reverse-append used (reverse mid.finished) ∙ ap (λ (xs : List FinishedBlock). xs ++ reverse used) (reverse-reverse mid.finished)

  used_many : length (reverse used) ≡ n
  used_many = length-reverse used ∙ by.many

  -- its arms name what the blocks do
  match_accounts : (rs : List ExprOperand) → Within (blocks_named (reverse used)) (flat_map asked_by_arm arms) → Within items (flat_map asked_by_arm arms) → Accounts old new rs
  match_accounts rs blocks named =
      let arms_in = λ (xs : Items) (h : Within xs (flat_map asked_by_arm arms)). match_in xs (within_right (asked_by_expr e) (flat_map asked_by_arm arms) h) in
      adds old new (one ∷ []) opened_still call_still stmts_more rs items (a.runtime ∙ ap (λ (b : FunctionBindgen). b.runtime ++ items) by.rest) (within_left (stmts_named (one ∷ [])) (operands_named rs) (arms_in items named))
      (within_from (blocks_named old.finished) (blocks_named mid.finished ++ blocks_named (reverse used)) (ap blocks_named blocks_are ∙ flat_map-append block_named mid.finished (reverse used))
      (within_both (blocks_named mid.finished) (blocks_named (reverse used)) (still_finished mid new a.finished) (within_then (arms_in (blocks_named (reverse used)) blocks) (added_in old new (one ∷ []) opened_still call_still stmts_more))))

  -- and it names what its operand does
  match_spends : (os : List ExprOperand) → exprs_of os ≡ e ∷ [] → Within (operands_named os) (all_named new)
  match_spends os only =
      within_from (operands_named os) (asked_by_expr e) (ap exprs_named only ∙ one_named e)
      (within_then (match_in (asked_by_expr e) (in_left (asked_by_expr e) (flat_map asked_by_arm arms))) (added_in old new (one ∷ []) opened_still call_still stmts_more))

module _ (types : List TypeDef) (os rs : List ExprOperand) (old new : FunctionBindgen) where
  lowers_accounts : (ty : CasedType) (n : ℕ) → MatchesCases types ty n os rs old new → Accounts old new rs
  lowers_accounts ty n c =
      let l = c.lowers in
      match_accounts old l.used (length c.forms) l.mid l.uses new (match_names c.names) c.operand (lowered_arms c.forms (reverse l.used)) [] l.adds rs
      (lowered_named c.forms (reverse l.used) (used_many old l.used (length c.forms) l.mid l.uses new (match_names c.names) c.operand (lowered_arms c.forms (reverse l.used)) [] l.adds)) (within_none (flat_map asked_by_arm (lowered_arms c.forms (reverse l.used))))

  lowers_spends : (ty : CasedType) (n : ℕ) → MatchesCases types ty n os rs old new → Within (operands_named os) (all_named new)
  lowers_spends ty n c = let l = c.lowers in match_spends old l.used (length c.forms) l.mid l.uses new (match_names c.names) c.operand (lowered_arms c.forms (reverse l.used)) [] l.adds os c.only

  lifts_accounts : (ty : CasedType) → LiftsCases types ty os rs old new → Accounts old new rs
  lifts_accounts ty c =
      let l = c.lifts in
      let bodies = lifted_bodies c.forms (reverse l.used) in
      match_accounts old l.used (length c.forms) l.mid l.uses new _ c.operand (number_arms 0 bodies (arm_of arm.AnyOther invalid_body)) (InvalidEnumDiscriminant ∷ []) l.adds rs
      (lifts_named c.forms (reverse l.used) arm.AnyOther invalid_body (length-reverse l.used ∙ l.uses.many) l.few)
      (within_then invalid_named (other_named bodies arm.AnyOther invalid_body))
    where
      invalid_named : Within (InvalidEnumDiscriminant ∷ []) (asked_by_block invalid_body)
      invalid_named = within_to _ (asked_by_block invalid_body) (sym (code_named [] (Some _))) (item_named InvalidEnumDiscriminant [])

  lifts_last_accounts : (ty : CasedType) → LiftsLast types ty os rs old new → Accounts old new rs
  lifts_last_accounts ty c =
      let l = c.lifts in
      let arms = number_arms 0 (lifted_bodies c.forms l.first) (arm_of (arm.Name c.number) (last_body c.number (length c.forms) c.last l.last)) in
      match_accounts old l.used (suc (length c.forms)) l.mid l.uses new _ c.operand arms [] l.adds rs
      (within_from (blocks_named (reverse l.used)) (blocks_named (l.first ++ l.last ∷ [])) (ap blocks_named l.split) (lifts_last_named c.forms c.last c.number l.first l.last l.many l.few l.few_last)) (within_none (flat_map asked_by_arm arms))

  frees_accounts : (n : ℕ) → FreesCases n os rs old new → Accounts old new rs
  frees_accounts n c =
      let l = c.frees in
      let arms = number_arms 0 (map freed_body l.first) (arm_of arm.AnyOther (freed_body l.last)) in
      match_accounts old l.used (suc c.first) l.mid l.uses new _ c.operand arms [] l.adds rs
      (within_from (blocks_named (reverse l.used)) (blocks_named (l.first ++ l.last ∷ [])) (ap blocks_named l.split) (frees_named l.first l.last l.none l.none_last)) (within_none (flat_map asked_by_arm arms))

-- 4. Calls

module _ (types : List TypeDef) (f : Function) (os rs : List ExprOperand) (old new : FunctionBindgen) (c : CallsImported types f os rs old new) where
  abbrev core : ℕ → Emission
  core = calls_core old.home f (import_params types f) c.answer (exprs_of os)

  pub core_accounts : Accounts old new rs
  core_accounts = writes_accounts core rs old new c.writes (asks_none c.answer)
    where
      asks_none : (answer : Option WasmType) → Within (calls_core old.home f (import_params types f) answer (exprs_of os) c.writes.number).items (emission_named (calls_core old.home f (import_params types f) answer (exprs_of os) c.writes.number))
      asks_none None = within_none _
      asks_none (Some ty) = within_none _

  -- its words are named, and its answer names nothing
  pub core_spends : Within (operands_named os) (all_named new)
  core_spends = within_then (named c.answer) (writes_named core rs old new c.writes)
    where
      named : (answer : Option WasmType) → Within (operands_named os) (stmts_named (calls_core old.home f (import_params types f) answer (exprs_of os) c.writes.number).stmts)
      named None =
          let t = c.writes.number in
          let call = expr.Call (local_path (import_name t)) (exprs_of os) in
          let second = asked_by_stmt (stmt.Expr call) in
          within_right (asked_by_stmt (stmt.Import (import_of old.home f (import_params types f) None (import_name t)))) (second ++ [])
          (within_left second [] (within_to (asked_by_expr call) second (sym (expr_named call)) (arguments_named (local_path (import_name t)) (exprs_of os))))
      named (Some ty) =
          let t = c.writes.number in
          let call = expr.Call (local_path (import_name t)) (exprs_of os) in
          let second = asked_by_stmt (stmt.Let (ret_name t) call) in
          within_right (asked_by_stmt (stmt.Import (import_of old.home f (import_params types f) (Some ty) (import_name t)))) (second ++ [])
          (within_left second [] (within_to (asked_by_expr call) second (sym (let_named (ret_name t) call)) (arguments_named (local_path (import_name t)) (exprs_of os))))

  pub core_results : operands_named rs ≡ []
  core_results = results_are core rs old new c.writes ∙ none c.answer
    where
      none : (answer : Option WasmType) → exprs_named (calls_core old.home f (import_params types f) answer (exprs_of os) c.writes.number).results ≡ []
      none None = refl
      none (Some ty) = one_named (expr.Local (ret_name c.writes.number)) ∙ named-local (ret_name c.writes.number)

module _ (f : Function) (os rs : List ExprOperand) (old new : FunctionBindgen) (c : CallsMethod f.result f os rs old new) where
  abbrev block : CallBlock
  block = call_block f old.code.stmts (exprs_of os) (value_local f.result c.number)

  block_in : (xs : Items) → Within xs (stmts_named old.code.stmts ++ operands_named os) → Within xs (all_named new)
  block_in xs h =
      within_then (within_left (asked_by_call block) [] h) (within_then (within_as (asked_by_call block ++ []) (code_items new.code) (ap code_items (sym c.code))) (code_in new))

  pub method_accounts : Accounts old new rs
  method_accounts =
      unasked old new rs c.runtime
      (within_both (outer_named old.opened) (code_items old.code ++ blocks_named old.finished) (still_opened old new c.opened)
      (within_both (code_items old.code) (blocks_named old.finished)
      (within_from (code_items old.code) (stmts_named old.code.stmts) (ap (λ (x : Option CallBlock). call_named x ++ stmts_named old.code.stmts) c.first) (block_in (stmts_named old.code.stmts) (in_left (stmts_named old.code.stmts) (operands_named os))))
      (still_finished old new c.finished)))

  pub method_spends : Within (operands_named os) (all_named new)
  method_spends = block_in (operands_named os) (in_right (stmts_named old.code.stmts) (operands_named os))

  pub method_results : operands_named rs ≡ []
  method_results = ap operands_named c.results ∙ locals_none _

-- 5. Blocks

opens_accounts : (rs : List ExprOperand) (old new : FunctionBindgen) → OpensBlock old new → Accounts old new rs
opens_accounts rs old new o =
    let block : OpenBlock = record { number = o.number; names = old.scope.used; code = old.code } in
    let outer : outer_named new.opened ≡ outer_named old.opened ++ outer_named (block ∷ []) = ap outer_named o.opened ∙ flat_map-append (λ (x : OpenBlock). code_items x.code) old.opened (block ∷ []) in
    let rest = code_items new.code ++ blocks_named new.finished in
    let around = λ (xs : Items) (h : Within xs (outer_named old.opened ++ outer_named (block ∷ []))). within_left (outer_named new.opened) rest (within_to (outer_named old.opened ++ outer_named (block ∷ [])) (outer_named new.opened) (sym outer) h) in
    unasked old new rs o.runtime
    (within_both (outer_named old.opened) (code_items old.code ++ blocks_named old.finished) (around (outer_named old.opened) (in_left (outer_named old.opened) (outer_named (block ∷ []))))
    (within_both (code_items old.code) (blocks_named old.finished) (around (code_items old.code) (within_right (outer_named old.opened) (outer_named (block ∷ [])) (in_left (code_items old.code) []))) (still_finished old new o.finished)))

module _ (os : List ExprOperand) (old new : FunctionBindgen) (c : ClosesBlock os old new) where
  abbrev finished : FinishedBlock
  finished = block_of c.block old.code.stmts os

  finished_named : blocks_named new.finished ≡ blocks_named old.finished ++ blocks_named (finished ∷ [])
  finished_named = ap blocks_named c.finished ∙ flat_map-append block_named old.finished (finished ∷ [])

  into_finished : (xs : Items) → Within xs (blocks_named old.finished ++ blocks_named (finished ∷ [])) → Within xs (all_named new)
  into_finished xs h = within_then (within_to (blocks_named old.finished ++ blocks_named (finished ∷ [])) (blocks_named new.finished) (sym finished_named) h) (finished_in new)

  into_block : (xs : Items) → Within xs (stmts_named old.code.stmts ++ operands_named os) → Within xs (all_named new)
  into_block xs h = into_finished xs (within_right (blocks_named old.finished) (blocks_named (finished ∷ [])) (within_left (block_named finished) [] h))

  closes_accounts : (rs : List ExprOperand) → Accounts old new rs
  closes_accounts rs =
      let outer : outer_named old.opened ≡ outer_named new.opened ++ outer_named (c.block ∷ []) = ap outer_named c.opened ∙ flat_map-append (λ (x : OpenBlock). code_items x.code) new.opened (c.block ∷ []) in
      let code : code_items c.block.code ++ [] ≡ code_items new.code ++ [] = ap (λ (k : Code). code_items k ++ []) (sym c.code) in
      unasked old new rs c.runtime
      (within_both (outer_named old.opened) (code_items old.code ++ blocks_named old.finished)
      (within_from (outer_named old.opened) (outer_named new.opened ++ outer_named (c.block ∷ [])) outer
      (within_both (outer_named new.opened) (outer_named (c.block ∷ [])) (in_left (outer_named new.opened) (code_items new.code ++ blocks_named new.finished))
      (within_from (outer_named (c.block ∷ [])) (code_items new.code ++ []) code (within_both (code_items new.code) [] (code_in new) (within_none (all_named new))))))
      (within_both (code_items old.code) (blocks_named old.finished)
      (within_from (code_items old.code) (stmts_named old.code.stmts) (ap (λ (x : Option CallBlock). call_named x ++ stmts_named old.code.stmts) c.uncalled) (into_block (stmts_named old.code.stmts) (in_left (stmts_named old.code.stmts) (operands_named os))))
      (into_finished (blocks_named old.finished) (in_left (blocks_named old.finished) (blocks_named (finished ∷ []))))))

  pub closes_spends : Within (operands_named os) (all_named new)
  closes_spends = into_block (operands_named os) (in_right (stmts_named old.code.stmts) (operands_named os))

-- 6. Each step

module _ (types : List TypeDef) (os rs : List ExprOperand) (old new : FunctionBindgen) (plain : ArePlain old.params) where
  told_at : (step : Sent) (t : BecomesTold step os rs old new) → IsNamed (is_plain_step step) (exprs_of os) (t.code t.writes.number)
  told_at step t = (subst (AreNamed (is_plain_step step) (exprs_of os)) t.is (told_named (context old) plain step (exprs_of os))) t.writes.number

  told_accounts : (step : Sent) → BecomesTold step os rs old new → Accounts old new rs
  told_accounts step t = writes_accounts t.code rs old new t.writes (told_at step t).items

  told_plain : (step : Sent) → is_plain_step step ≡ true → BecomesTold step os rs old new → Within (operands_named rs) (operands_named os)
  told_plain step p t = within_from (operands_named rs) (exprs_named (t.code t.writes.number).results) (results_are t.code rs old new t.writes) ((told_at step t).results p)

  pub step_accounts : (step : Sent) → Formed types step os rs old new → Accounts old new rs
  step_accounts (sends (CallWasm g)) f = core_accounts types g.now os rs old new f.code
  step_accounts (sends (CallInterface g)) f = method_accounts g.now os rs old new f.code
  step_accounts (sends (VariantLower id n)) f = lowers_accounts types os rs old new _ n f.code
  step_accounts (sends (OptionLower id n)) f = lowers_accounts types os rs old new _ n f.code
  step_accounts (sends (ResultLower id n)) f = lowers_accounts types os rs old new _ n f.code
  step_accounts (sends (OptionLift id)) f = lifts_accounts types os rs old new _ f.code
  step_accounts (sends (ResultLift id)) f = lifts_accounts types os rs old new _ f.code
  step_accounts (sends (VariantLift id)) f = lifts_last_accounts types os rs old new _ f.code
  step_accounts (sends (GuestDeallocateVariant n)) f = frees_accounts types os rs old new n f.code
  step_accounts opens f = opens_accounts rs old new f.code
  step_accounts closes f = closes_accounts os old new f.code rs
  step_accounts step f = told_accounts step f.code

  results_none : (names : List Bytes) → rs ≡ locals_of names → Within (operands_named rs) (operands_named os)
  results_none names is = within_from (operands_named rs) [] (ap operands_named is ∙ locals_none names) (within_none (operands_named os))

  -- where nothing is converted, the results name no more than the operands
  pub step_plain : (i : Instruction) → converts i ≡ false → Formed types (sends i) os rs old new → Within (operands_named rs) (operands_named os)
  step_plain (CallWasm g) p f = within_from (operands_named rs) [] (core_results types g.now os rs old new f.code) (within_none (operands_named os))
  step_plain (CallInterface g) p f = within_from (operands_named rs) [] (method_results g.now os rs old new f.code) (within_none (operands_named os))
  step_plain (VariantLower id n) p f = results_none f.code.names f.code.results
  step_plain (OptionLower id n) p f = results_none f.code.names f.code.results
  step_plain (ResultLower id n) p f = results_none f.code.names f.code.results
  step_plain (OptionLift id) p f = results_none (f.code.name ∷ []) f.code.results
  step_plain (ResultLift id) p f = results_none (f.code.name ∷ []) f.code.results
  step_plain (VariantLift id) p f = results_none (f.code.name ∷ []) f.code.results
  step_plain (GuestDeallocateVariant n) p f = results_none [] f.code.results
  step_plain i p f = told_plain (sends i) (ap not p) f.code

  pub asks_plain : (a : Asked) → Formed types (asks a) os rs old new → Within (operands_named rs) (operands_named os)
  asks_plain a f = told_plain (asks a) refl f.code

  stores_spent : (i : Instruction) → uses i ≡ true → BecomesTold (sends i) os rs old new → Within (operands_named os) (all_named new ++ operands_named rs)
  stores_spent i u t = writes_spends t.code rs old new t.writes (operands_named os) (stores_spend (context old) i (exprs_of os) t.code u t.is t.writes.number)

  -- what the operands name the code does, or the results
  pub step_spends : (i : Instruction) → uses i ≡ true → Formed types (sends i) os rs old new → Within (operands_named os) (all_named new ++ operands_named rs)
  step_spends (VariantLower id n) u f = within_left (all_named new) (operands_named rs) (lowers_spends types os rs old new _ n f.code)
  step_spends (OptionLower id n) u f = within_left (all_named new) (operands_named rs) (lowers_spends types os rs old new _ n f.code)
  step_spends (ResultLower id n) u f = within_left (all_named new) (operands_named rs) (lowers_spends types os rs old new _ n f.code)
  step_spends (CallWasm g) u f = absurd (let no = u in cc)
  step_spends (CallInterface g) u f = absurd (let no = u in cc)
  step_spends (OptionLift id) u f = absurd (let no = u in cc)
  step_spends (ResultLift id) u f = absurd (let no = u in cc)
  step_spends (VariantLift id) u f = absurd (let no = u in cc)
  step_spends (GuestDeallocateVariant n) u f = absurd (let no = u in cc)
  step_spends i u f = stores_spent i u f.code

  pub casts_spend : (held : Bor (List Bitcast)) → Formed types (sends (Bitcasts held)) os rs old new → Within (operands_named os) (all_named new ++ operands_named rs)
  casts_spend held f =
      let t = f.code in
      let code : casts held.now (exprs_of os) ≡ t.code = some_same _ _ t.is in
      let spent = casts_spent 0 held.now (exprs_of os) t.writes.number (length-map os (λ (o : ExprOperand). o.expr) ∙ f.given) in
      writes_spends t.code rs old new t.writes (operands_named os) (subst (λ (c : ℕ → Emission). Within (operands_named os) (emission_named (c t.writes.number))) code spent)
