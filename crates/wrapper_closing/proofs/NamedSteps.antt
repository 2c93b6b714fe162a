-- Each step writes identifiers alone as names, where all names before it are; and so does code.
use Rattle.std.proofs.Common.{◌≡◌, ℕ, zero, suc, true, ◌&&◌, List, [], ◌∷◌, ◌++◌, length, reverse, Option, None, Some, refl, sym, ap, ◌∙◌, subst}
use Rattle.std.specs.Prelude.{codes, option_and_then, option_to_list}
use Rattle.std.specs.List.{AllByRecursion, list_all}
use Rattle.std.proofs.lemmas.Bool.{and_parts}
use Rattle.wit_model.specs.Bytes.{Bytes}
use Rattle.wit_model.specs.declared.function.Function.{Function}
use Rattle.wit_model.specs.declared.types.Case.{Case}
use Rattle.wit_model.specs.declared.types.TypeDef.{TypeDef}
use Rattle.wit_model.specs.declared.types.WitType.{WitType}
use Rattle.wit_model.specs.declared.wasm_type.WasmType.{WasmType}
use Rattle.rust_tree.specs.declared.expr.Expr.{Expr}
use Rattle.rust_tree.specs.declared.expr.Expr.TheVariants as expr
use Rattle.rust_tree.specs.declared.path.Path.{Path}
use Rattle.rust_tree.specs.declared.runtime_item.RuntimeItem.{RuntimeItem}
use Rattle.rust_tree.specs.declared.stmt.Stmt.{Stmt}
use Rattle.rust_tree.specs.declared.stmt.Stmt.TheVariants as stmt
use Rattle.rust_tree.specs.Ident.{escaped_words, is_ident, rust_ident}
use Rattle.rust_tree.specs.WellNamed.{are_path_names, is_absent_or, is_case_path, is_named_call, is_named_expr, is_named_stmt, is_quotable}
use Rattle.rust_tree.proofs.NamedLemmas.{is_named-local}
use Rattle.abi_bindgen.specs.declared.instruction.Instruction.TheVariants.{CallInterface, CallWasm, GuestDeallocateVariant, OptionLift, OptionLower, ResultLift, ResultLower, VariantLift, VariantLower}
use Rattle.abi_bindgen.specs.Calls.{import_params}
use Rattle.abi_bindgen.specs.Flow.{Flow}
use Rattle.abi_bindgen.specs.Flows.{Flows}
use Rattle.abi_bindgen.specs.Meaning.{the_payload}
use Rattle.abi_bindgen.specs.Sent.{Sent, closes, opens, sends}
use Rattle.abi_bindgen.proofs.AllLemmas.{all_both, all_left, all_right}
use Rattle.func_gen.specs.declared.function_bindgen.FinishedBlock.{FinishedBlock}
use Rattle.func_gen.specs.declared.function_bindgen.FunctionBindgen.{FunctionBindgen}
use Rattle.func_gen.specs.declared.function_bindgen.OpenBlock.{OpenBlock}
use Rattle.func_gen.specs.declared.function_bindgen.ParamSite.{ParamSite}
use Rattle.func_gen.specs.declared.operand.ExprOperand.{ExprOperand}
use Rattle.func_gen.specs.declared.type_site.TypeSite.{TypeSite}
use Rattle.func_gen.specs.declared.type_site.TypeSite.TheVariants as site
use Rattle.func_gen.specs.declared.variant_site.VariantSite.{VariantSite}
use Rattle.func_gen.specs.Added.{Appends}
use Rattle.func_gen.specs.CallForms.{import_name, import_of, local_path, ret_name}
use Rattle.func_gen.specs.CaseForms.{AreFormsOf, CasedType, a_result, a_variant, an_option, core_path, member_form, member_path, member_forms, option_forms, result_forms, side_form, variant_at, variant_site_in}
use Rattle.func_gen.specs.CodeOf.{calls_core, context}
use Rattle.func_gen.specs.Emission.{Emission, Writes}
use Rattle.func_gen.specs.Formed.{BecomesTold, CallsImported, CallsMethod, ClosesBlock, Formed, OpensBlock, block_of}
use Rattle.func_gen.specs.LiftedCases.{FreesBy, LiftsBy, LiftsVariantBy}
use Rattle.func_gen.specs.MatchForms.{LowersBy, case_path, case_pattern, lowered_arms, match_of, result_names, result_prefix}
use Rattle.func_gen.specs.Meaning.{func_meaning}
use Rattle.func_gen.specs.MethodForms.{value_local}
use Rattle.func_gen.specs.PartForms.{exprs_of, locals_of}
use Rattle.func_gen.specs.Scope.{with_number}
use Rattle.func_gen.specs.Slot.{slot_name}
use Rattle.func_gen.specs.Still.{StillOf}
use Rattle.func_gen.specs.TypeSites.{site_at}
use Rattle.func_gen.specs.Uses.{Uses}
use Rattle.func_gen.proofs.BlocksThere.{all_back}
use Rattle.func_gen.proofs.KeptNames.{all_others, all_used}
use Rattle.wrapper_closing.specs.Named.{AreNamedSites, IsNamedOperand, is_named_site}
use Rattle.wrapper_closing.proofs.NamedBindgens.{IsNamed, IsNamedBlock, IsNamedCode, KeepsNames}
use Rattle.wrapper_closing.proofs.NamedEmissions.{NamedWhere, root_known, site_named, told_named}
use Rattle.wrapper_closing.proofs.NamedStmts.{AreNamed, IsNamedForm, alone_named, call_named, expr_named, frees_named, import_named, last_named, let_named, lifts_named, longer_path, lowers_named, more_named, one_named, own_path, payload_ident, then_named, two_true}
use Rattle.wrapper_closing.proofs.NumberedIdents.{local_ident, parts_idents}
use Rattle.wrapper_closing.proofs.StepsKeep.{AreResults, CodeFits, StepFits, code_keeps}

-- 1. Operands, one by one and all together

abbrev AreOperands : List ExprOperand → Type 0
AreOperands os = AllByRecursion IsNamedOperand os

together : (os : List ExprOperand) → AreOperands os → list_all is_named_expr (exprs_of os) ≡ true
together [] h = refl
together (o ∷ os) h = two_true (is_named_expr o.expr) (list_all is_named_expr (exprs_of os)) h.0 (together os h.1)

apart : (os : List ExprOperand) → list_all is_named_expr (exprs_of os) ≡ true → AreOperands os
apart [] h = tt
apart (o ∷ os) h = let parts = and_parts (is_named_expr o.expr) (list_all is_named_expr (exprs_of os)) h in (parts.0, apart os parts.1)

locals_are : (names : List Bytes) → list_all is_ident names ≡ true → AreOperands (locals_of names)
locals_are [] h = tt
locals_are (n ∷ names) h = let parts = and_parts (is_ident n) (list_all is_ident names) h in (is_named-local n ∙ parts.0, locals_are names parts.1)

-- 2. Forms of cases

full_named : (path : Path) → is_case_path path ≡ true → (k : ℕ) → (is_case_path path && is_ident (slot_name the_payload k)) ≡ true
full_named path h k = two_true (is_case_path path) (is_ident (slot_name the_payload k)) h (payload_ident k)

option_named : AllByRecursion (λ c. IsNamedForm (case_pattern c) (case_path c)) option_forms
unfolding escaped_words
option_named = (record { pattern = λ k. refl; case = refl }, (record { pattern = full_named (core_path (codes "option") (codes "Option") (codes "Some")) refl; case = refl }, tt))

side_named : (case : Bytes) (side : Option WitType) → is_case_path (core_path (codes "result") (codes "Result") case) ≡ true → IsNamedForm (case_pattern (side_form case side)) (case_path (side_form case side))
side_named case None h = record { pattern = λ k. h; case = h }
side_named case (Some ty) h = record { pattern = full_named (core_path (codes "result") (codes "Result") case) h; case = h }

sides_named : (ok err : Option WitType) → AllByRecursion (λ c. IsNamedForm (case_pattern c) (case_path c)) (result_forms ok err)
unfolding escaped_words
sides_named ok err = (side_named (codes "Ok") ok refl, (side_named (codes "Err") err refl, tt))

module _ (ty : Bytes) (named : are_path_names (ty ∷ []) ≡ true) where
  member_named : (name : Bytes) (payload : Option WitType) → is_ident name ≡ true → IsNamedForm (case_pattern (member_form ty name payload)) (case_path (member_form ty name payload))
  member_named name None h = let path = two_true (are_path_names (ty ∷ name ∷ [])) true (longer_path ty name named h) refl in record { pattern = λ k. path; case = path }
  member_named name (Some p) h = let path = two_true (are_path_names (ty ∷ name ∷ [])) true (longer_path ty name named h) refl in record { pattern = full_named (member_path ty name) path; case = path }

  members_named : (names : List Bytes) (members : List Case) → list_all is_ident names ≡ true → AllByRecursion (λ c. IsNamedForm (case_pattern c) (case_path c)) (member_forms ty names members)
  members_named [] members h = tt
  members_named (n ∷ names) [] h = tt
  members_named (n ∷ names) (c ∷ members) h = let parts = and_parts (is_ident n) (list_all is_ident names) h in (member_named n c.ty parts.0, members_named names members parts.1)

variant_named : (sites : List (Option TypeSite)) (id : ℕ) (s : VariantSite) → AreNamedSites sites → variant_at sites id ≡ Some s → is_named_site (site.Variant s) ≡ true
variant_named sites id s all is = go (site_at sites id) refl is
  where
    go : (o : Option TypeSite) → site_at sites id ≡ o → option_and_then variant_site_in o ≡ Some s → is_named_site (site.Variant s) ≡ true
    go None e is = absurd cc
    go (Some (site.Record r)) e is = absurd cc
    go (Some (site.Enum r)) e is = absurd cc
    go (Some (site.Flags r)) e is = absurd cc
    go (Some (site.Variant r)) e is = let same : r ≡ s = cc in subst (λ r. is_named_site (site.Variant r) ≡ true) same (site_named sites id (site.Variant r) all e)

forms_named : (types : List TypeDef) (sites : List (Option TypeSite)) (ty : CasedType) (forms : _) → AreNamedSites sites → AreFormsOf types sites ty forms → AllByRecursion (λ c. IsNamedForm (case_pattern c) (case_path c)) forms
forms_named types sites (a_variant id) forms all f =
    let s = and_parts (list_all is_ident f.site.cases) (are_path_names f.site.lowered.names) (variant_named sites id f.site all f.at) in
    let root : are_path_names (f.name ∷ []) ≡ true = ap are_path_names (sym (root_known f.site.lowered f.name f.root)) ∙ s.1 in
    subst (AllByRecursion (λ c. IsNamedForm (case_pattern c) (case_path c))) (sym f.are) (members_named f.name root f.site.cases f.members s.0)
forms_named types sites (an_option id) forms all f = subst (AllByRecursion (λ c. IsNamedForm (case_pattern c) (case_path c))) (sym f.are) option_named
forms_named types sites (a_result id) forms all f = subst (AllByRecursion (λ c. IsNamedForm (case_pattern c) (case_path c))) (sym f.are) (sides_named f.ok f.err)

-- 3. Steps

result_form : (n t : ℕ) → list_all is_ident (result_names n t) ≡ true
unfolding result_prefix
result_form zero t = refl
result_form (suc zero) t = two_true (is_ident (with_number result_prefix t)) true (local_ident result_prefix t refl) refl
result_form (suc (suc n)) t = parts_idents result_prefix t 0 (suc (suc n)) refl

abbrev AllOpen : List OpenBlock → Type 0
AllOpen opened = AllByRecursion (λ (o : OpenBlock). IsNamedCode o.code) opened

module _ (old new : FunctionBindgen) (still : StillOf old new) (h : IsNamed old) where
  -- what it was made of stays
  stays : IsNamedCode new.code → AllOpen new.opened → AllByRecursion IsNamedBlock new.finished → IsNamed new
  stays code opened finished = record {
    home = ap is_quotable still.home ∙ h.home;
    area = ap is_ident still.area ∙ h.area;
    params = subst (AllByRecursion (λ (p : ParamSite). IsNamedOperand p.operand)) (sym still.params) h.params;
    sites = subst AreNamedSites (sym still.sites) h.sites;
    code = code;
    opened = opened;
    finished = finished;
  }

  -- statements are added
  grows : (added : List Stmt) → new.code.call ≡ old.code.call → new.code.stmts ≡ old.code.stmts ++ added → AreNamed added → new.opened ≡ old.opened → AllByRecursion IsNamedBlock new.finished → IsNamed new
  grows added call stmts named opened finished =
      stays (record { call = ap (is_absent_or is_named_call) call ∙ h.code.call; stmts = ap (list_all is_named_stmt) stmts ∙ more_named old.code.stmts added h.code.stmts named }) (subst AllOpen (sym opened) h.opened) finished

  writes : (code : ℕ → Emission) (rs : List ExprOperand) → ((t : ℕ) → AreNamed (code t).stmts × (list_all is_named_expr (code t).results ≡ true)) → Writes code rs old new → IsNamed new × AreOperands rs
  writes code rs each w = (
    grows (code w.number).stmts w.call w.stmts (each w.number).0 w.opened (subst (AllByRecursion IsNamedBlock) (sym w.finished) h.finished),
    apart rs (ap (list_all is_named_expr) w.results ∙ (each w.number).1),
  )

  told : (step : Sent) (os rs : List ExprOperand) → AreOperands os → BecomesTold step os rs old new → IsNamed new × AreOperands rs
  told step os rs all t =
      let each = subst NamedWhere t.is (told_named (context old) h.area h.params h.sites step (exprs_of os) (together os all)) in
      writes t.code rs each t.writes

  called_core : (f : Function) (params : List WasmType) (answer : Option WasmType) (es : List Expr) → is_quotable f.name.wit ≡ true → list_all is_named_expr es ≡ true
      → (t : ℕ) → AreNamed (calls_core old.home f params answer es t).stmts × (list_all is_named_expr (calls_core old.home f params answer es t).results ≡ true)
  called_core f params None es name all t =
      let ident = local_ident (codes "wit_import") t refl in
      let path = own_path (import_name t) ident in (
        then_named (stmt.Import (import_of old.home f params None (import_name t))) (stmt.Expr (expr.Call (local_path (import_name t)) es) ∷ []) (import_named (import_of old.home f params None (import_name t)) (two_true (is_quotable old.home && is_quotable f.name.wit) (is_ident (import_name t)) (two_true (is_quotable old.home) (is_quotable f.name.wit) h.home name) ident))
            (one_named (stmt.Expr (expr.Call (local_path (import_name t)) es)) (expr_named (expr.Call (local_path (import_name t)) es) (call_named (local_path (import_name t)) es path all))),
        refl,
      )
  called_core f params (Some ty) es name all t =
      let ident = local_ident (codes "wit_import") t refl in
      let answered = local_ident (codes "ret") t refl in
      let path = own_path (import_name t) ident in (
        then_named (stmt.Import (import_of old.home f params (Some ty) (import_name t))) (stmt.Let (ret_name t) (expr.Call (local_path (import_name t)) es) ∷ []) (import_named (import_of old.home f params (Some ty) (import_name t)) (two_true (is_quotable old.home && is_quotable f.name.wit) (is_ident (import_name t)) (two_true (is_quotable old.home) (is_quotable f.name.wit) h.home name) ident))
            (one_named (stmt.Let (ret_name t) (expr.Call (local_path (import_name t)) es)) (let_named (ret_name t) (expr.Call (local_path (import_name t)) es) answered (call_named (local_path (import_name t)) es path all))),
        alone_named (expr.Local (ret_name t)) (is_named-local (ret_name t) ∙ answered),
      )

  imported : (types : List TypeDef) (f : Function) (os rs : List ExprOperand) → is_quotable f.name.wit ≡ true → AreOperands os → CallsImported types f os rs old new → IsNamed new × AreOperands rs
  imported types f os rs name all c = writes (calls_core old.home f (import_params types f) c.answer (exprs_of os)) rs (called_core f (import_params types f) c.answer (exprs_of os) name (together os all)) c.writes

  value_named : (due : Option WitType) (t : ℕ) → is_absent_or is_ident (value_local due t) ≡ true
  value_named None t = refl
  value_named (Some ty) t = local_ident (codes "result") t refl

  value_operand : (due : Option WitType) (t : ℕ) → AreOperands (locals_of (option_to_list (value_local due t)))
  value_operand None t = tt
  value_operand (Some ty) t = (is_named-local (with_number (codes "result") t) ∙ local_ident (codes "result") t refl, tt)

  method : (f : Function) (os rs : List ExprOperand) → is_ident (rust_ident f.name) ≡ true → AreOperands os → CallsMethod f.result f os rs old new → IsNamed new × AreOperands rs
  method f os rs name all c =
      let block = two_true (is_absent_or is_ident (value_local f.result c.number) && list_all is_named_stmt old.code.stmts && is_ident (rust_ident f.name)) (list_all is_named_expr (exprs_of os))
      (two_true (is_absent_or is_ident (value_local f.result c.number) && list_all is_named_stmt old.code.stmts) (is_ident (rust_ident f.name))
      (two_true (is_absent_or is_ident (value_local f.result c.number)) (list_all is_named_stmt old.code.stmts) (value_named f.result c.number) h.code.stmts) name) (together os all) in (
        stays (subst IsNamedCode (sym c.code) (record { call = block; stmts = refl })) (subst AllOpen (sym c.opened) h.opened) (subst (AllByRecursion IsNamedBlock) (sym c.finished) h.finished),
        subst AreOperands (sym c.results) (value_operand f.result c.number),
      )

  begins : OpensBlock old new → IsNamed new
  begins o =
      stays (subst IsNamedCode (sym o.code) (record { call = refl; stmts = refl })) (subst AllOpen (sym o.opened) (all_both (λ (o : OpenBlock). IsNamedCode o.code) old.opened _ h.opened (h.code, tt)))
      (subst (AllByRecursion IsNamedBlock) (sym o.finished) h.finished)

  ends : (os : List ExprOperand) → AreOperands os → ClosesBlock os old new → IsNamed new
  ends os all c =
      let opened = subst AllOpen c.opened h.opened in
      stays (subst IsNamedCode (sym c.code) (all_right (λ (o : OpenBlock). IsNamedCode o.code) new.opened (c.block ∷ []) opened).0) (all_left (λ (o : OpenBlock). IsNamedCode o.code) new.opened (c.block ∷ []) opened)
      (subst (AllByRecursion IsNamedBlock) (sym c.finished) (all_both IsNamedBlock old.finished (block_of c.block old.code.stmts os ∷ []) h.finished (record { stmts = h.code.stmts; results = together os all }, tt)))

  -- a match of finished blocks, which are used up
  module _ (used : List FinishedBlock) (n : ℕ) (mid : FunctionBindgen) (uses : Uses used n old mid) where
    used_named : AllByRecursion IsNamedBlock (reverse used)
    used_named = all_back IsNamedBlock used (all_used IsNamedBlock old.finished used mid.finished uses.taken h.finished)

    matches : (added : List Stmt) (items : List RuntimeItem) → Appends mid new added items → AreNamed added → IsNamed new
    matches added items a named =
        grows added (a.call ∙ ap (λ (b : FunctionBindgen). b.code.call) uses.rest) (a.stmts ∙ ap (λ (b : FunctionBindgen). b.code.stmts ++ added) uses.rest) named (a.opened ∙ ap (λ (b : FunctionBindgen). b.opened) uses.rest)
        (subst (AllByRecursion IsNamedBlock) (sym a.finished) (all_others IsNamedBlock old.finished used mid.finished uses.taken h.finished))

  only_named : (os : List ExprOperand) (e : Expr) → exprs_of os ≡ e ∷ [] → AreOperands os → is_named_expr e ≡ true
  only_named os e only all = (and_parts (is_named_expr e) true (ap (list_all is_named_expr) (sym only) ∙ together os all)).0

  lowers : (types : List TypeDef) (ty : CasedType) (n : ℕ) (forms : _) (e : Expr) (names : List Bytes) → AreFormsOf types old.sites ty forms → is_named_expr e ≡ true → LowersBy forms e n names old new → IsNamed new × AreOperands (locals_of names)
  lowers types ty n forms e names are named l =
      let idents = ap (list_all is_ident) l.takes.are ∙ result_form n l.takes.number in (
        matches l.used (length forms) l.mid l.uses (match_of names e (lowered_arms forms (reverse l.used)) ∷ []) [] l.adds (lowers_named names e forms (reverse l.used) idents named (forms_named types old.sites ty forms h.sites are) (used_named l.used (length forms) l.mid l.uses)),
        locals_are names idents,
      )

  lifts : (types : List TypeDef) (ty : CasedType) (forms : _) (e : Expr) (v : Bytes) → AreFormsOf types old.sites ty forms → is_named_expr e ≡ true → LiftsBy forms e v old new → IsNamed new × AreOperands (locals_of (v ∷ []))
  lifts types ty forms e v are named l =
      let ident = ap is_ident l.takes.is ∙ local_ident (codes "v") l.takes.number refl in (
        matches l.used (length forms) l.mid l.uses _ _ l.adds (lifts_named v e forms (reverse l.used) ident named (forms_named types old.sites ty forms h.sites are) (used_named l.used (length forms) l.mid l.uses)),
        locals_are (v ∷ []) (two_true (is_ident v) true ident refl),
      )

  lifts_last : (types : List TypeDef) (ty : CasedType) (forms : _) (c : _) (e : Expr) (n v : Bytes) → AreFormsOf types old.sites ty (forms ++ c ∷ []) → is_named_expr e ≡ true → LiftsVariantBy forms c e n v old new → IsNamed new × AreOperands (locals_of (v ∷ []))
  lifts_last types ty forms c e n v are named l =
      let t = l.takes.number in
      let idents = and_parts (is_ident n) (is_ident v && true) (ap (list_all is_ident) l.takes.are ∙ two_true (is_ident (with_number (codes "n") t)) (is_ident (with_number (codes "v") t) && true) (local_ident (codes "n") t refl) (two_true (is_ident (with_number (codes "v") t)) true (local_ident (codes "v") t refl) refl)) in
      let ident = (and_parts (is_ident v) true idents.1).0 in
      let paths = forms_named types old.sites ty (forms ++ c ∷ []) h.sites are in
      let blocks = subst (AllByRecursion IsNamedBlock) l.split (used_named l.used (suc (length forms)) l.mid l.uses) in (
        matches l.used (suc (length forms)) l.mid l.uses _ [] l.adds
            (last_named n v e forms c l.first l.last (length forms) idents.0 ident named (all_left (λ c. IsNamedForm (case_pattern c) (case_path c)) forms (c ∷ []) paths) (all_right (λ c. IsNamedForm (case_pattern c) (case_path c)) forms (c ∷ []) paths).0 (all_left IsNamedBlock l.first (l.last ∷ []) blocks) (all_right IsNamedBlock l.first (l.last ∷ []) blocks).0),
        locals_are (v ∷ []) (two_true (is_ident v) true ident refl),
      )

  frees : (k : ℕ) (e : Expr) → is_named_expr e ≡ true → FreesBy k e old new → IsNamed new
  frees k e named l =
      let blocks = subst (AllByRecursion IsNamedBlock) l.split (used_named l.used (suc k) l.mid l.uses) in
      matches l.used (suc k) l.mid l.uses _ [] l.adds (frees_named e l.first l.last named (all_left IsNamedBlock l.first (l.last ∷ []) blocks) (all_right IsNamedBlock l.first (l.last ∷ []) blocks).0)

-- results are those of the form
results_as : (new : FunctionBindgen) (rs ps : List ExprOperand) → rs ≡ ps → IsNamed new × AreOperands ps → IsNamed new × AreOperands rs
results_as new rs ps is both = (both.0, subst AreOperands (sym is) both.1)

module _ (types : List TypeDef) where
  step_named : (step : Sent) (os rs : List ExprOperand) (old new : FunctionBindgen) → StepFits types KeepsNames step (length os) → AreOperands os → Formed types step os rs old new → IsNamed old → IsNamed new × AreResults IsNamedOperand step rs
  step_named (sends (CallWasm g)) os rs old new fit all f h = imported old new f.still h types g.now os rs fit all f.code
  step_named (sends (CallInterface g)) os rs old new fit all f h = method old new f.still h g.now os rs fit all f.code
  step_named (sends (VariantLower id n)) os rs old new fit all f h = let c = f.code in results_as new rs (locals_of c.names) c.results (lowers old new f.still h types (a_variant id.0) n c.forms c.operand c.names c.are (only_named old new f.still h os c.operand c.only all) c.lowers)
  step_named (sends (OptionLower id n)) os rs old new fit all f h = let c = f.code in results_as new rs (locals_of c.names) c.results (lowers old new f.still h types (an_option id.0) n c.forms c.operand c.names c.are (only_named old new f.still h os c.operand c.only all) c.lowers)
  step_named (sends (ResultLower id n)) os rs old new fit all f h = let c = f.code in results_as new rs (locals_of c.names) c.results (lowers old new f.still h types (a_result id.0) n c.forms c.operand c.names c.are (only_named old new f.still h os c.operand c.only all) c.lowers)
  step_named (sends (OptionLift id)) os rs old new fit all f h = let c = f.code in results_as new rs (locals_of (c.name ∷ [])) c.results (lifts old new f.still h types (an_option id.0) c.forms c.operand c.name c.are (only_named old new f.still h os c.operand c.only all) c.lifts)
  step_named (sends (ResultLift id)) os rs old new fit all f h = let c = f.code in results_as new rs (locals_of (c.name ∷ [])) c.results (lifts old new f.still h types (a_result id.0) c.forms c.operand c.name c.are (only_named old new f.still h os c.operand c.only all) c.lifts)
  step_named (sends (VariantLift id)) os rs old new fit all f h =
      let c = f.code in results_as new rs (locals_of (c.name ∷ [])) c.results (lifts_last old new f.still h types (a_variant id.0) c.forms c.last c.operand c.number c.name c.are (only_named old new f.still h os c.operand c.only all) c.lifts)
  step_named (sends (GuestDeallocateVariant n)) os rs old new fit all f h = let c = f.code in results_as new rs [] c.results (frees old new f.still h c.first c.operand (only_named old new f.still h os c.operand c.only all) c.frees, tt)
  step_named opens os rs old new fit all f h = (begins old new f.still h f.code, tt)
  step_named closes os rs old new fit all f h = (ends old new f.still h os all f.code, tt)
  step_named step os rs old new fit all f h = told old new f.still h step os rs all f.code

  -- code does so that calls such functions
  pub code_named : (code : Flow) (reads gives : List ExprOperand) (old new : FunctionBindgen) → CodeFits types KeepsNames (length reads) code → Flows func_meaning types code reads gives old new → AreOperands reads → IsNamed old → IsNamed new × AreOperands gives
  code_named = code_keeps types KeepsNames IsNamed IsNamedOperand step_named
