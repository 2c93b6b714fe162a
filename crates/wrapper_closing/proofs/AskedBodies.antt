-- Each item of `_rt` that the body of a wrapper asks for is named in its text.
use Rattle.std.proofs.Common.{◌≡◌, ℕ, Bool, true, List, [], ◌∷◌, ◌++◌, map, reverse, Option, None, Some, inl, inr, refl, sym, ap, ap₂, ◌∙◌, subst}
use Rattle.std.specs.Borrow.{Bor}
use Rattle.std.specs.List.{AllByRecursion}
use Rattle.std.proofs.lemmas.Grind.{flat_map-append}
use Rattle.std.proofs.lemmas.List.{reverse-reverse}
use Rattle.wit_model.specs.declared.function.Function.{Function}
use Rattle.wit_model.specs.declared.function.Param.{Param}
use Rattle.wit_model.specs.declared.types.TypeDef.{TypeDef}
use Rattle.wit_model.specs.declared.types.WitType.{WitType}
use Rattle.wit_layout.specs.declared.signature.AbiVariant.TheVariants.{GuestExport, GuestImport}
use Rattle.rust_tree.specs.declared.export.CallBlock.{CallBlock}
use Rattle.rust_tree.specs.declared.expr.Expr.{Expr}
use Rattle.rust_tree.specs.declared.runtime_item.RuntimeItem.{RuntimeItem}
use Rattle.rust_tree.specs.Asked.{asked_by_block, asked_by_call, asked_by_expr, asked_by_stmt, asked_by_tail}
use Rattle.wrapper_meaning.specs.Items.{AllIn}
use Rattle.wrapper_run.specs.Code.{code_of}
use Rattle.abi_bindgen.specs.declared.instruction.Instruction.TheVariants.{Return}
use Rattle.abi_bindgen.specs.Code.{call_code, free_result_code, give_code, pass_code, point_code, post_return_code, read_code, take_code}
use Rattle.abi_bindgen.specs.Flow.{Flow, both}
use Rattle.abi_bindgen.specs.Flows.{Flows}
use Rattle.abi_bindgen.specs.Frees.{nowhere}
use Rattle.abi_bindgen.specs.Instructions.{Emits}
use Rattle.abi_bindgen.specs.Sent.{sends}
use Rattle.abi_bindgen.proofs.QuietFlows.{quiet_two}
use Rattle.abi_bindgen.proofs.SpentFlows.{free_plain, give_thrifty, is_plain, pass_thrifty, point_thrifty, read_plain, take_plain}
use Rattle.func_gen.specs.declared.body.Body.{Body}
use Rattle.func_gen.specs.declared.function_bindgen.FunctionBindgen.{FunctionBindgen}
use Rattle.func_gen.specs.declared.function_bindgen.ParamSite.{ParamSite}
use Rattle.func_gen.specs.declared.operand.ExprOperand.{ExprOperand}
use Rattle.func_gen.specs.Body.{Gives, IsBodyOf}
use Rattle.func_gen.specs.Meaning.{func_meaning}
use Rattle.func_gen.specs.Sites.{IsSite}
use Rattle.func_gen.proofs.StillFlows.{still_flows}
use Rattle.wrapper_closing.specs.AskedLaws.{ExportBodyNamesAsked, ImportBodyNamesAsked, PostReturnBodyNamesAsked}
use Rattle.wrapper_closing.specs.Bodies.{MakesExport, MakesImport, MakesPostReturn}
use Rattle.wrapper_closing.specs.ImportBlock.{block_of, local_area}
use Rattle.wrapper_closing.specs.Parts.{AreParts, IsMadeFrom}
use Rattle.wrapper_closing.specs.declared.parts.BodyParts.{BodyParts}
use Rattle.wrapper_closing.proofs.AskedEmissions.{ArePlain}
use Rattle.wrapper_closing.proofs.AskedFlows.{AreSettled, accounts_on, accounts_then, behind_named, both_named, plain_flows, still_plain, thrifty_flows}
use Rattle.wrapper_closing.proofs.AskedForms.{code_named, named-local, named-ref, one_named, stmts_named}
use Rattle.wrapper_closing.proofs.AskedMatches.{blocks_named, operands_named}
use Rattle.wrapper_closing.proofs.AskedSteps.{Accounts, all_named, call_named, code_items, core_accounts, core_results, core_spends, method_accounts, method_results, outer_named, step_accounts, step_plain}
use Rattle.wrapper_closing.proofs.StepsDeclare.{closed_still}
use Rattle.wrapper_closing.proofs.Within.{Within, all_in, in_left, in_right, within_as, within_both, within_from, within_left, within_none, within_pairs, within_right, within_self, within_then, within_to}

abbrev Items : Type 0
Items = List RuntimeItem

-- 1. Bindgens that were made of parts

site_plain : (p : ParamSite) → IsSite p → asked_by_expr p.operand.expr ≡ []
site_plain p (inl e) = ap (λ (o : ExprOperand). asked_by_expr o.expr) e ∙ named-local p.name
site_plain p (inr e) = ap (λ (o : ExprOperand). asked_by_expr o.expr) e ∙ named-ref p.name

sites_plain : (params : List ParamSite) → AllByRecursion IsSite params → ArePlain params
sites_plain [] all = tt
sites_plain (p ∷ params) all = (site_plain p all.0, sites_plain params all.1)

made_plain : (types : List TypeDef) (import : Bool) (parts : BodyParts) (b : FunctionBindgen) → AreParts types parts → IsMadeFrom import parts b → ArePlain b.params
made_plain types import parts b are made = subst ArePlain (sym made.of_params) (sites_plain parts.params are.sites)

none_finished : (old new : FunctionBindgen) → reverse new.finished ≡ reverse old.finished → old.finished ≡ [] → new.finished ≡ []
none_finished old new same none = sym (reverse-reverse new.finished) ∙ ap reverse (same ∙ ap reverse none)

-- 2. What the body names

abbrev body_named : Body → List RuntimeItem
body_named body = call_named body.call ++ (stmts_named body.stmts ++ asked_by_tail body.tail)

-- where no block is open, and none was finished and not used, all code is that of the body
code_of_body : (b : FunctionBindgen) (body : Body) → b.opened ≡ [] → b.finished ≡ [] → IsBodyOf b body → Within (all_named b) (body_named body)
code_of_body b body closed unfinished is =
    let tail = asked_by_tail body.tail in
    let rest = stmts_named body.stmts ++ tail in
    within_both (outer_named b.opened) (code_items b.code ++ blocks_named b.finished) (within_from (outer_named b.opened) [] (ap outer_named closed) (within_none (body_named body)))
    (within_both (code_items b.code) (blocks_named b.finished)
    (within_from (code_items b.code) (call_named body.call ++ stmts_named body.stmts) (ap₂ (λ (x y : Items). x ++ y) (ap call_named (sym is.call)) (ap stmts_named (sym is.stmts)))
    (within_pairs (call_named body.call) (stmts_named body.stmts) (call_named body.call) rest (within_self (call_named body.call)) (in_left (stmts_named body.stmts) tail)))
    (within_from (blocks_named b.finished) [] (ap blocks_named unfinished) (within_none (body_named body))))

given_named : (given : List ExprOperand) (tail : Option Expr) → Gives (Some given) tail → Within (operands_named given) (asked_by_tail tail)
given_named [] tail h = within_none (asked_by_tail tail)
given_named (o ∷ []) tail h = within_as (operands_named (o ∷ [])) (asked_by_tail tail) (one_named o.expr ∙ ap asked_by_tail (sym h))
given_named (o ∷ p ∷ os) tail h = absurd h

-- what code gives stands last, and names what its operands do
module _ (types : List TypeDef) (n : ℕ) (old last new : FunctionBindgen) (given gives : List ExprOperand) (body : Body) (plain : ArePlain last.params) (e : Emits func_meaning types (Return n) given gives last new) (is : IsBodyOf new body) where
  body_names : Accounts old last given → old.runtime ≡ [] → new.opened ≡ [] → new.finished ≡ [] → Within body.runtime (body_named body)
  body_names accounts unnamed closed unfinished =
      let step = step_accounts types given gives last new plain (sends (Return n)) e.form in
      let whole = accounts_on old last new given gives given accounts step (in_right (all_named new) (operands_named given)) (within_right (all_named new) (operands_named given) (step_plain types given gives last new plain (Return n) refl e.form)) in
      let tail : Gives (Some given) body.tail = subst (λ r. Gives r body.tail) e.returned is.tail in
      within_from body.runtime new.runtime is.runtime
      (within_then whole.asks
      (within_both old.runtime (all_named new ++ operands_named given) (within_from old.runtime [] unnamed (within_none (body_named body)))
      (within_both (all_named new) (operands_named given) (code_of_body new body closed unfinished is)
      (within_then (given_named given body.tail tail) (within_right (call_named body.call) (stmts_named body.stmts ++ asked_by_tail body.tail) (in_right (stmts_named body.stmts) (asked_by_tail body.tail)))))))

-- 3. An import

module _ (types : List TypeDef) (func : Bor Function) (parts : BodyParts) (body : Body) (are : AreParts types parts) (m : MakesImport types func parts body) where
  abbrev before : Flow
  before = both (pass_code types (map (λ p. p.ty) func.now.params)) (point_code types func.now.result)

  -- what the words that are passed name, the call names, and what is read behind it converts nothing
  import_within : Within body.runtime (body_named body)
  import_within =
      let tys : List WitType = map (λ (p : Param). p.ty) func.now.params in
      let code = call_code types GuestImport func in
      let plain = made_plain types true parts m.old are m.made in
      let (given, last, (answer, called, (passed, mid, first, (back, pointer, next, e, stays, is)), reads), ends) = m.flows in
      let thrifty = quiet_two _ _ (pass_thrifty types tys) (point_thrifty types func.now.result) in
      let passes = thrifty_flows types before [] passed m.old mid thrifty first plain (within_none (all_named m.old)) in
      let plain_mid = still_plain m.old mid (still_flows types before [] passed m.old mid first) plain in
      let calls = core_accounts types func.now passed back mid next e.form.code in
      let spent = core_spends types func.now passed back mid next e.form.code in
      let none = core_results types func.now passed back mid next e.form.code in
      let so_far = accounts_then m.old mid next passed back passes calls (within_left (all_named next) (operands_named back) spent) in
      let answered : AreSettled answer next =
      within_from (operands_named answer) (operands_named back ++ operands_named pointer) (ap operands_named is ∙ both_named back pointer)
      (within_both (operands_named back) (operands_named pointer) (within_from (operands_named back) [] none (within_none (all_named next)))
      (within_from (operands_named pointer) _ (ap operands_named stays.0) (within_then (behind_named _ passed) spent))) in
      let read = read_code types func.now.result in
      let from_there = subst (λ (b : FunctionBindgen). Flows func_meaning types read answer given b last) stays.1 reads in
      let plain_next = still_plain mid next e.form.still plain_mid in
      let lifted = (plain_flows types read answer given next last (read_plain types func.now.result) from_there plain_next answered).0 in
      let all = accounts_then m.old next last back given so_far lifted (within_from (operands_named back) [] none (within_none (all_named last ++ operands_named given))) in
      let plain_last = still_plain next last (still_flows types read answer given next last from_there) plain_next in
      body_names types _ m.old last m.new given [] body plain_last ends m.body_of all m.made.unnamed (closed_still types code [] [] m.old m.new m.flows m.made.closed) (none_finished m.old m.new m.calls.blocks m.made.unfinished)

  import_names : AllIn (asked_by_block (block_of parts.area body)) body.runtime
  import_names =
      let area = local_area parts.area body.area in
      let tail = asked_by_tail body.tail in
      let named : asked_by_block (block_of parts.area body) ≡ (stmts_named area ++ stmts_named body.stmts) ++ tail =
      code_named (area ++ body.stmts) body.tail ∙ ap (λ (xs : Items). xs ++ tail) (flat_map-append asked_by_stmt area body.stmts) in
      all_in body.runtime (asked_by_block (block_of parts.area body))
      (within_then import_within
      (within_both (call_named body.call) (stmts_named body.stmts ++ tail) (within_from (call_named body.call) [] (ap call_named m.headless) (within_none _))
      (within_to ((stmts_named area ++ stmts_named body.stmts) ++ tail) (asked_by_block (block_of parts.area body)) (sym named)
      (within_pairs (stmts_named body.stmts) tail (stmts_named area ++ stmts_named body.stmts) tail (in_right (stmts_named area) (stmts_named body.stmts)) (within_self tail)))))

-- 4. An export

module _ (types : List TypeDef) (func : Bor Function) (parts : BodyParts) (body : Body) (are : AreParts types parts) (m : MakesExport types func parts body) where
  -- what is taken converts nothing, and what is given of the answer stands last
  export_within : Within body.runtime (body_named body)
  export_within =
      let tys : List WitType = map (λ (p : Param). p.ty) func.now.params in
      let code = call_code types GuestExport func in
      let plain = made_plain types _ parts m.old are m.made in
      let (given, last, (answer, called, (values, mid, takes, e), answers), ends) = m.flows in
      let took = plain_flows types (take_code types tys) [] values m.old mid (take_plain types tys) takes plain (within_none (all_named m.old)) in
      let plain_mid = still_plain m.old mid (still_flows types (take_code types tys) [] values m.old mid takes) plain in
      let calls = method_accounts func.now values answer mid called e.form.code in
      let none = method_results func.now values answer mid called e.form.code in
      let so_far = accounts_then m.old mid called values answer took.0 calls (within_left (all_named called) (operands_named answer) (within_then took.1 calls.grows)) in
      let plain_called = still_plain mid called e.form.still plain_mid in
      let give = give_code types func.now.result in
      let gave = thrifty_flows types give answer given called last (give_thrifty types func.now.result) answers plain_called (within_from (operands_named answer) [] none (within_none (all_named called))) in
      let all = accounts_then m.old called last answer given so_far gave (within_from (operands_named answer) [] none (within_none (all_named last ++ operands_named given))) in
      let plain_last = still_plain called last (still_flows types give answer given called last answers) plain_called in
      body_names types _ m.old last m.new given [] body plain_last ends m.body_of all m.made.unnamed (closed_still types code [] [] m.old m.new m.flows m.made.closed) (none_finished m.old m.new m.calls.blocks m.made.unfinished)

  export_names : (call : CallBlock) → body.call ≡ Some call → AllIn (asked_by_call call ++ asked_by_block (code_of body.stmts body.tail)) body.runtime
  export_names call is =
      let rest = stmts_named body.stmts ++ asked_by_tail body.tail in
      let named : asked_by_call call ++ asked_by_block (code_of body.stmts body.tail) ≡ body_named body = ap₂ (λ (x y : Items). x ++ y) (sym (ap call_named is)) (code_named body.stmts body.tail) in
      all_in body.runtime (asked_by_call call ++ asked_by_block (code_of body.stmts body.tail)) (within_to (body_named body) (asked_by_call call ++ asked_by_block (code_of body.stmts body.tail)) (sym named) export_within)

-- 5. A post-return function

module _ (types : List TypeDef) (f : Function) (parts : BodyParts) (body : Body) (are : AreParts types parts) (m : MakesPostReturn types f parts body) where
  frees_plain : (r : Option WitType) → is_plain (free_result_code types r) ≡ true
  frees_plain None = refl
  frees_plain (Some ty) = free_plain types ty nowhere

  post_return_within : Within body.runtime (body_named body)
  post_return_within =
      let code = post_return_code types f.result in
      let free = free_result_code types f.result in
      let plain = made_plain types _ parts m.old are m.made in
      let (given, last, frees, ends) = m.flows in
      let freed = (plain_flows types free [] given m.old last (frees_plain f.result) frees plain (within_none (all_named m.old))).0 in
      let plain_last = still_plain m.old last (still_flows types free [] given m.old last frees) plain in
      body_names types 0 m.old last m.new given [] body plain_last ends m.body_of freed m.made.unnamed (closed_still types code [] [] m.old m.new m.flows m.made.closed) (none_finished m.old m.new m.frees.adds.blocks m.made.unfinished)

  post_return_names : AllIn (asked_by_block (code_of body.stmts body.tail)) body.runtime
  post_return_names =
      let rest = stmts_named body.stmts ++ asked_by_tail body.tail in
      all_in body.runtime (asked_by_block (code_of body.stmts body.tail))
      (within_then post_return_within
      (within_both (call_named body.call) rest (within_from (call_named body.call) [] (ap call_named m.headless) (within_none _))
      (within_as rest (asked_by_block (code_of body.stmts body.tail)) (sym (code_named body.stmts body.tail)))))

-- 6. All of it

pub import_body_asks : ImportBodyNamesAsked
import_body_asks types func parts body are m = import_names types func parts body are m

pub export_body_asks : ExportBodyNamesAsked
export_body_asks types func parts body call are m is = export_names types func parts body are m call is

pub post_return_body_asks : PostReturnBodyNamesAsked
post_return_body_asks types f parts body are m = post_return_names types f parts body are m
