-- The row of a match whose arms are finished blocks: it does what the block of a value's case does.
use Rattle.std.proofs.Common.{◌≡◌, ◌++◌, ℕ, Bool, true, false, List, [], ◌∷◌, length, map, reverse, take, Option, None, Some, refl, sym, ap, ◌∙◌, subst, arith, append-nil}
use Rattle.std.specs.Prelude.{◌≢◌, if◌then◌else◌, slice_get}
use Rattle.std.specs.List.{flat_map, list_all}
use Rattle.std.proofs.Math.Seq.{take-append_seam}
use Rattle.wit_model.specs.Bytes.{Bytes}
use Rattle.wit_model.specs.Distinct.{is_distinct}
use Rattle.rust_tree.specs.declared.expr.Expr.{Expr}
use Rattle.rust_tree.specs.declared.stmt.Stmt.{Stmt}
use Rattle.wrapper_data.specs.declared.run.Stop.{Stop}
use Rattle.wrapper_data.specs.declared.run.Stop.TheVariants as stop_of
use Rattle.wrapper_data.specs.declared.value.RustValue.{RustValue}
use Rattle.wrapper_data.specs.declared.value.RustValue.TheVariants as value
use Rattle.wrapper_meaning.specs.Items.{total}
use Rattle.wrapper_meaning.specs.Shape.{Shapes}
use Rattle.wrapper_meaning.specs.Value.{case_number}
use Rattle.wrapper_meaning.proofs.PostReturn.{total-append}
use Rattle.wrapper_values.specs.declared.state.Local.{Local}
use Rattle.wrapper_values.specs.declared.state.State.{State}
use Rattle.wrapper_values.specs.declared.state.Val.{Val}
use Rattle.wrapper_values.specs.declared.state.Val.TheVariants as val
use Rattle.wrapper_values.specs.Act as machine
use Rattle.wrapper_values.specs.Act.{Act, ◌>>◌, and_then}
use Rattle.wrapper_values.specs.Matches.{bind_results, enter_arm}
use Rattle.wrapper_values.specs.Owning.{owned}
use Rattle.wrapper_values.specs.Setting.{Setting}
use Rattle.wrapper_run.specs.Blocks.{in_scope}
use Rattle.wrapper_run.specs.Growth.{state_of}
use Rattle.wrapper_run.specs.OuterLocals.{IsInReach}
use Rattle.wrapper_run.specs.Run.{eval, run_stmts}
use Rattle.wrapper_run.specs.Inward.{CallsNothing}
use Rattle.wrapper_run.proofs.VariantSteps.{match_runs}
use Rattle.abi_bindgen.specs.Account.{Account, Done, Follows, Outcome, Peer, Stuck, account_in, then_do}
use Rattle.abi_bindgen.specs.Arms.{Armed, arms, gives_words}
use Rattle.abi_bindgen.specs.Blocks.{owned_datum}
use Rattle.abi_bindgen.specs.Cases.{LowersCase, with_case}
use Rattle.abi_bindgen.specs.Laws.{At, Data, Facts, ofs}
use Rattle.abi_bindgen.specs.Meaning.{Bound, Ended, item, of}
use Rattle.abi_bindgen.specs.Parts.{count}
use Rattle.abi_bindgen.specs.Turns.{Arrives, Moved, Went}
use Rattle.func_gen.specs.declared.case_form.CaseForm.{CaseForm}
use Rattle.func_gen.specs.declared.function_bindgen.FinishedBlock.{FinishedBlock}
use Rattle.func_gen.specs.declared.function_bindgen.FunctionBindgen.{FunctionBindgen}
use Rattle.func_gen.specs.Added.{Appends}
use Rattle.func_gen.specs.CallForms.{FreshAll}
use Rattle.func_gen.specs.Entered.{bindings, entered, is_nothing, reached}
use Rattle.func_gen.specs.Facts.{AreOwned}
use Rattle.func_gen.specs.Finished.{data_of, left_owners, outside, results_act, slot_before}
use Rattle.func_gen.specs.Forms.{operand_of}
use Rattle.func_gen.specs.MatchForms.{case_pattern, is_lowerable, lowered_arms, match_names, match_of}
use Rattle.func_gen.specs.Meaning.{Denote, File, FuncState, IsNormal, Serves, account_of, call_of, done_block, ended_block, func_meaning, owns_of, seen, setting_for}
use Rattle.func_gen.specs.PartForms.{locals_of}
use Rattle.func_gen.specs.Scope.{is_used}
use Rattle.func_gen.specs.Uses.{Uses}
use Rattle.func_gen.proofs.ArmEnds.{arm_ends, arm_stops}
use Rattle.func_gen.proofs.CaseArms.{AreNumbered, Brings, Lowerable, case_chosen, case_enters, fit_at, is_lowered}
use Rattle.func_gen.proofs.CaseRows.{FitForms, case_brings, forms_count}
use Rattle.func_gen.proofs.Lasting.{SameArea, area_same, lasts}
use Rattle.func_gen.proofs.MatchLocals.{add_data, binds_data, data_under, owns_data, with_data, words_data}
use Rattle.func_gen.proofs.Moving.{Used, uses}
use Rattle.func_gen.proofs.Opening.{reached_in}
use Rattle.func_gen.proofs.PartRows.{areas_last}
use Rattle.func_gen.proofs.PartsTaken.{AllFree, all_free, using, using_params, using_used}
use Rattle.func_gen.proofs.Steps.{ran, seen_calls}

-- 1. With other finished blocks nothing else is known or needed

module _ (b : FunctionBindgen) (f : List FinishedBlock) where
  abbrev pub but : FunctionBindgen
  but = record b { finished = f }

  pub known_but : (w : File) (facts : Facts func_meaning) (s : FuncState) → Denote w b facts s → Denote w but facts s
  known_but w facts s d = record { hold = record { right = d.hold.right; apart = d.hold.apart; within = d.hold.within }; owners = d.owners; area = d.area }

  pub at_but : (w : File) (p : Peer RustValue) (new : FunctionBindgen) (facts : Facts func_meaning) (s0 s : FuncState) → At func_meaning w p b new facts s0 s → At func_meaning w p but new facts s0 s
  at_but w p new facts s0 s at = record { serves = at.serves; done = at.done; holds = known_but w facts s at.holds }

-- 2. Where the operand was used

pub value_used : (w : Setting) (b : FunctionBindgen) (e : Expr) (r : RustValue) (others : Facts func_meaning) (s : State) → (u : Used w b (operand_of e) r others s) → u.given ≡ val.Value r
value_used w b e r others s u = let same : (let o : Option Val = Some u.given in o) ≡ Some (val.Value r) = u.denotes in cc

same_state : (v x : Val) (t u : State) (o : machine.Outcome Val) → o ≡ machine.Done v t → o ≡ machine.Done x u → t ≡ u
same_state v x t u o h k = ap (λ (q : machine.Outcome Val). state_of q) (sym h ∙ k)

-- 3. How the block ends

module _ (w : File) (p : Peer RustValue) (body : FinishedBlock) (n : ℕ) (fit : Lowerable (setting_for w p) n body) (with : Bound RustValue) (s : FuncState) (enter : Act (Unit {0}))
    (enters : enter s.machine ≡ machine.Done tt (record s.machine { locals = s.machine.locals ++ ([] ++ bindings body.number with) })) where
  abbrev there : State
  there = entered (slot_before body) with s.machine

  abbrev pub in_arm : machine.Outcome (List Val)
  in_arm = in_scope (setting_for w p) (enter >> results_act (setting_for w p) body) s.machine

  reach : IsInReach (reached body.names s.machine.locals) (s.machine.locals ++ [])
  reach = subst (IsInReach (reached body.names s.machine.locals)) (sym (append-nil s.machine.locals)) (reached_in body.names s.machine.locals)

  pub body_ends : (vs : List Val) (u : State) → results_act (setting_for w p) body there ≡ machine.Done vs u → left_owners (length (reached body.names s.machine.locals)) u ≡ [] → in_arm ≡ machine.Done vs (outside s.machine u)
  body_ends vs u done none = arm_ends (setting_for w p) (reached body.names s.machine.locals) [] (bindings body.number with) s.machine (results_act (setting_for w p) body) reach tt fit.behind enter enters vs u done none

  pub body_stops : (e : Stop) (u : State) → ((k : ℕ) → e ≢ stop_of.Stuck k) → results_act (setting_for w p) body there ≡ machine.Stopped e u
      → (locals : List Local) × (in_arm ≡ machine.Stopped e (record u { locals = locals; place = s.machine.place }))
  body_stops e u ns stopped = arm_stops (setting_for w p) (reached body.names s.machine.locals) [] (bindings body.number with) s.machine (results_act (setting_for w p) body) reach tt fit.behind enter enters e u ns stopped

  -- it makes no call
  pub body_calls : (o : machine.Outcome (List Val)) → results_act (setting_for w p) body there ≡ o → (state_of o).calls ≡ s.machine.calls
  body_calls o is = ap (λ (q : machine.Outcome (List Val)). (state_of q).calls) (sym is) ∙ fit.quiet.quiet there

-- 4. The row

module _ (old mid new : FunctionBindgen) (forms : List CaseForm) (e : Expr) (n : ℕ) (names : List Bytes) (used : List FinishedBlock) (taken : Uses used (length forms) old mid) (fit : list_all (is_lowerable n) (reverse used) ≡ true)
    (a : Appends mid new (match_of names e (lowered_arms forms (reverse used)) ∷ []) []) (fresh : FreshAll mid new names) (distinct : is_distinct names ≡ true) (many : length names ≡ n)
    (numbers : (w : File) → Serves w new → AreNumbered w.items 0 forms) (quiet : (w : Setting) → CallsNothing (run_stmts w (match_of names e (lowered_arms forms (reverse used)) ∷ []))) where
  abbrev statement : List Stmt
  statement = match_of names e (lowered_arms forms (reverse used)) ∷ []

  same_area : SameArea old new
  same_area = record {
    import = a.import ∙ ap (λ (b : FunctionBindgen). b.import) taken.rest;
    asked = a.asked ∙ ap (λ (b : FunctionBindgen). b.asked) taken.rest;
    name = a.area ∙ ap (λ (b : FunctionBindgen). b.area) taken.rest;
  }

  params : new.params ≡ old.params
  params = a.params ∙ ap (λ (b : FunctionBindgen). b.params) taken.rest

  names_used : new.scope.used ≡ old.scope.used ++ names
  names_used = fresh.used ∙ ap (λ (b : FunctionBindgen). b.scope.used ++ names) taken.rest

  names_free : AllFree old.scope.used names
  names_free = subst (λ (b : FunctionBindgen). AllFree b.scope.used names) taken.rest (all_free mid.scope.used names fresh.free distinct)

  -- the blocks of the cases
  pub blocks_are : (ts : Shapes) → count ts ≡ length forms → arms func_meaning (count ts) (func_meaning.blocks old) ≡ reverse used
  blocks_are ts same =
      ap (λ k. reverse (take k (reverse old.finished))) (same ∙ sym taken.many) ∙ ap (λ bs. reverse (take (length used) bs)) taken.taken ∙ ap reverse (take-append_seam used (reverse mid.finished))

  runs_statement : (w : File) (p : Peer RustValue) (facts : Facts func_meaning) (s0 s : FuncState) → At func_meaning w p old new facts s0 s → func_meaning.does w p new.code s0 ≡ seen s.area (run_stmts (setting_for w p) statement s.machine)
  runs_statement w p facts s0 s at =
      ran mid new statement [] a w p facts s0 s (subst (λ b. At func_meaning w p b new facts s0 s) (sym taken.rest) (at_but old mid.finished w p new facts s0 s at))

  module _ (w : File) (p : Peer RustValue) (others : Facts func_meaning) (s0 s : FuncState) (i : ℕ) (held : Option RustValue) (at : At func_meaning w p old new (of (operand_of e) (item (value.Case i held)) ∷ others) s0 s) where
    abbrev here : Setting
    here = setting_for w p

    abbrev a_value : RustValue
    a_value = value.Case i held

    pub operand : Used here old (operand_of e) a_value others s.machine
    operand = uses here old (operand_of e) a_value others s.machine at.holds.hold

    abbrev pub moved_to : FuncState
    moved_to = record { machine = operand.then; area = s.area }

    pub moved : Moved func_meaning w old (of (operand_of e) (item a_value) ∷ []) (func_meaning.owned a_value) s (account_of s.machine) moved_to
    moved = record {
      account = operand.account;
      owns = λ g. let x = ap (λ v. total g (owned v)) (value_used here old e a_value others s.machine operand) in omega (arith, x, operand.owns g, total-append g (owns_of operand.then) (func_meaning.owned a_value));
      denotes = λ rest d.
          let u = uses here old (operand_of e) a_value rest s.machine d.hold in
          let same : u.then ≡ operand.then = same_state u.given operand.given u.then operand.then (eval here e s.machine) u.evaluated operand.evaluated in
          subst (λ t. Denote w old rest (record { machine = t; area = s.area })) same (record {
            hold = u.holds;
            owners = subst (λ (acc : Account RustValue). AreOwned acc.heap.blocks acc.taken) (sym u.account) d.owners;
            area = areas_last old.import w.area s.area old.asked old.area s.machine u.then u.areas u.place d.area;
          });
    }

    module _ (taken_form : CaseForm) (body : FinishedBlock) (with : Bound RustValue) (at_form : slice_get forms i ≡ Some taken_form) (at_body : slice_get (reverse used) i ≡ Some body) (brings : Brings taken_form i held with) where
      pub one : Lowerable here n body
      one = is_lowered here n body (fit_at n i (reverse used) body fit at_body)

      abbrev enter : Act (Unit {0})
      enter = enter_arm here (case_pattern taken_form body.number) (val.Value a_value)

      pub enters : enter operand.then ≡ machine.Done tt (record operand.then { locals = operand.then.locals ++ ([] ++ bindings body.number with) })
      enters = case_enters here taken_form body.number i held with operand.then brings

      abbrev arm_run : machine.Outcome (List Val)
      arm_run = in_arm w p body n one with moved_to enter enters

      abbrev binding : machine.Outcome (List Val) → machine.Outcome (Unit {0})
      binding o = and_then (and_then o (bind_results here (match_names names))) (λ _. machine.pure tt)

      -- the code is that of the arm, and then its results get their names
      pub arrives_by : func_meaning.does w p new.code s0 ≡ seen s.area (binding arm_run)
      arrives_by =
          runs_statement w p (of (operand_of e) (item a_value) ∷ others) s0 s at
          ∙ ap (λ o. seen s.area (and_then o (λ _. machine.pure tt)))
          (match_runs here (match_names names) e (lowered_arms forms (reverse used)) (val.Value a_value) s.machine operand.then (operand.evaluated ∙ ap (λ v. machine.Done v operand.then) (value_used here old e a_value others s.machine operand))
          ∙ ap (λ (act : Act (List Val)). and_then (act operand.then) (bind_results here (match_names names))) (case_chosen here held i forms (reverse used) taken_form body (numbers w at.serves) at_form at_body)
          ∙ ap (λ (act : Act (List Val)). and_then (in_scope here (enter >> act) operand.then) (bind_results here (match_names names))) one.gives)

      -- however it ends, it makes no call
      calls_none : (u : State) → u.calls ≡ operand.then.calls → (account_in func_meaning.account (func_meaning.does w p new.code s0)).calls ≡ (account_of u).calls
      calls_none u same =
          ap (λ o. (account_in func_meaning.account o).calls) (runs_statement w p (of (operand_of e) (item a_value) ∷ others) s0 s at) ∙ seen_calls s.area (run_stmts here statement s.machine)
          ∙ ap (map call_of) ((quiet here).quiet s.machine) ∙ sym (ap (λ (acc : Account RustValue). acc.calls) operand.account) ∙ ap (map call_of) (sym same)

      abbrev Reached : Went func_meaning (Armed func_meaning) → FuncState → Type 0
      Reached = Arrives func_meaning w old new others (λ l fs. fs ≡ ofs func_meaning (locals_of names) l.results) (λ l. flat_map (owned_datum func_meaning) l.results)

      abbrev fitting : Bool → Data func_meaning → State → Outcome RustValue (Went func_meaning (Armed func_meaning))
      fitting fit ds t = if fit then Done (record { result = record { number = i; results = ds }; state = record { machine = t; area = s.area }; account = account_of t }) else Stuck (account_of t)

      abbrev armed : Outcome RustValue (Ended RustValue FuncState) → Outcome RustValue (Went func_meaning (Armed func_meaning))
      armed o = then_do o (λ ended. if gives_words func_meaning ended.results then Done (record { result = record { number = i; results = ended.results }; state = ended.state; account = account_of ended.state.machine }) else Stuck (account_of ended.state.machine))

      -- the data of the results get their names
      named : (u : State) (ds : Data func_meaning) → length names ≡ length ds
          → Reached (record { result = record { number = i; results = ds }; state = record { machine = outside operand.then u; area = s.area }; account = account_of (outside operand.then u) }) (record { machine = with_data (outside operand.then u) names ds; area = s.area })
      named u ds len =
          let t = outside operand.then u in
          let facts = ofs func_meaning (locals_of names) ds in
          record {
            account = refl;
            owns = λ g. omega (arith, owns_data g t names ds len, total-append g (owns_of t) (flat_map (owned_datum func_meaning) ds));
            denotes = λ d.
                let added = add_data w.items old names ds others t names_free len d.hold in
                let under = data_under t old.scope.used names ds names_free len d.hold.within in (
                  facts,
                  refl,
                  record {
                    hold = lasts w.items (using old names) new (facts ++ others) (with_data t names ds) (with_data t names ds) (params ∙ sym (using_params old names)) (λ k v h. h)
                        (λ k free. added.within k (sym (ap (λ us. is_used us k) (names_used ∙ sym (using_used old names))) ∙ free)) added;
                    owners = d.owners;
                    area = areas_last new.import w.area s.area new.asked new.area t (with_data t names ds) (λ k x z h. under k (val.Area x z) h) refl (area_same w old new s.area t same_area d.area);
                  },
                );
          }

      done_with : (vs : List Val) (u : State) → results_act here body (entered (slot_before body) with operand.then) ≡ machine.Done vs u → (left : List ℕ) → left_owners (length (reached body.names operand.then.locals)) u ≡ left → (o : Option (Data func_meaning)) → data_of body.results vs ≡ o
          → Follows func_meaning.account (armed (done_block (is_nothing left) o moved_to u)) (func_meaning.does w p new.code s0) Reached
      done_with vs u done (x ∷ left) own o is_data = calls_none u (body_calls w p body n one with moved_to enter enters (machine.Done vs u) done)
      done_with vs u done [] own None is_data = calls_none u (body_calls w p body n one with moved_to enter enters (machine.Done vs u) done)
      done_with vs u done [] own (Some ds) is_data = by (gives_words func_meaning ds) refl
        where
          by : (fit : Bool) → gives_words func_meaning ds ≡ fit → Follows func_meaning.account (fitting fit ds (outside operand.then u)) (func_meaning.does w p new.code s0) Reached
          by false fit = calls_none u (body_calls w p body n one with moved_to enter enters (machine.Done vs u) done)
          by true fit =
              let is = words_data body.results vs ds fit is_data in
              let len : length names ≡ length ds = many ∙ sym one.many ∙ sym is.1 in
              let t = outside operand.then u in (
                record { machine = with_data t names ds; area = s.area },
                arrives_by ∙ ap (λ o. seen s.area (binding o)) (body_ends w p body n one with moved_to enter enters vs u done own ∙ ap (λ xs. machine.Done xs t) is.0)
                    ∙ ap (λ o. seen s.area (and_then o (λ _. machine.pure tt))) (binds_data here names ds t len),
                named u ds len,
              )

      stopped_with : (x : Stop) (u : State) → ((k : ℕ) → x ≢ stop_of.Stuck k) → results_act here body (entered (slot_before body) with operand.then) ≡ machine.Stopped x u
          → (locals : List Local) × (func_meaning.does w p new.code s0 ≡ seen s.area (machine.Stopped x (record u { locals = locals; place = operand.then.place })))
      stopped_with x u ns stopped = let (locals, same) = body_stops w p body n one with moved_to enter enters x u ns stopped in (locals, arrives_by ∙ ap (λ o. seen s.area (binding o)) same)

      pub follows : (o : machine.Outcome (List Val)) → results_act here body (entered (slot_before body) with operand.then) ≡ o → Follows func_meaning.account (armed (ended_block body moved_to o)) (func_meaning.does w p new.code s0) Reached
      follows (machine.Done vs u) done = done_with vs u done (left_owners (length (reached body.names operand.then.locals)) u) refl (data_of body.results vs) refl
      follows (machine.Stopped (stop_of.Stuck k) u) stopped = calls_none u (body_calls w p body n one with moved_to enter enters (machine.Stopped (stop_of.Stuck k) u) stopped)
      follows (machine.Stopped stop_of.Done u) stopped = (stopped_with stop_of.Done u (λ k z. absurd (let no = z in cc)) stopped).1
      follows (machine.Stopped (stop_of.Refused r) u) stopped = (stopped_with (stop_of.Refused r) u (λ k z. absurd (let no = z in cc)) stopped).1
      follows (machine.Stopped (stop_of.Trap t) u) stopped = (stopped_with (stop_of.Trap t) u (λ k z. absurd (let no = z in cc)) stopped).1
      follows (machine.Stopped stop_of.BadChoice u) stopped = (stopped_with stop_of.BadChoice u (λ k z. absurd (let no = z in cc)) stopped).1

  -- the case of a value
  pub lowers_case : (ts : Shapes) → FitForms ts forms → LowersCase func_meaning ts (operand_of e ∷ []) (locals_of names) old new
  lowers_case ts fits dir c r own body ((held, is, stands), normal) at_body =
      let i = case_number ts c in
      let b = case_brings dir ts c i held own forms fits stands (subst (IsNormal dir) is normal) in
      let there : slice_get (reverse used) i ≡ Some body = sym (ap (λ bs. slice_get bs i) (blocks_are ts (forms_count ts forms fits))) ∙ at_body in (
        b.payload,
        b.stands,
        λ w p others s0 s at.
            let at_case = subst (λ q. At func_meaning w p old new (of (operand_of e) (item q) ∷ others) s0 s) is at in (
              moved_to w p others s0 s i held at_case,
              subst (λ q. Moved func_meaning w old (of (operand_of e) (item q) ∷ []) (func_meaning.owned q) s (account_of s.machine) (moved_to w p others s0 s i held at_case)) (sym is) (moved w p others s0 s i held at_case),
              follows w p others s0 s i held at_case b.taken body (with_case func_meaning b.payload) b.at there b.brings
                  (results_act (setting_for w p) body (entered (slot_before body) (with_case func_meaning b.payload) (moved_to w p others s0 s i held at_case).machine)) refl,
            ),
      )
