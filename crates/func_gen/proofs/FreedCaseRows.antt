-- The arms of cases whose blocks free: each runs its block, and gives nothing.
use Rattle.std.proofs.Common.{◌≡◌, ℕ, true, List, [], ◌∷◌, None, Some, refl, sym, ap, ◌∙◌, subst, arith, append-nil}
use Rattle.std.specs.List.{flat_map}
use Rattle.rust_tree.specs.declared.stmt.MatchNames.TheVariants as names_of
use Rattle.wrapper_data.specs.declared.value.RustValue.{RustValue}
use Rattle.wrapper_meaning.proofs.PostReturn.{total-append}
use Rattle.wrapper_values.specs.declared.state.State.{State}
use Rattle.wrapper_values.specs.declared.state.Val.{Val}
use Rattle.wrapper_values.specs.Act as machine
use Rattle.wrapper_values.specs.Act.{◌>>◌, and_then}
use Rattle.wrapper_values.specs.Matches.{bind_results}
use Rattle.wrapper_values.specs.Setting.{Setting}
use Rattle.wrapper_run.specs.Blocks.{in_scope}
use Rattle.wrapper_run.specs.Inward.{is_inward}
use Rattle.wrapper_run.specs.Results.{run_results}
use Rattle.wrapper_run.specs.Run.{run_stmts}
use Rattle.wrapper_run.proofs.InwardCalls.{body_quiet}
use Rattle.wrapper_run.proofs.QuietActs.{quiet_pure}
use Rattle.abi_bindgen.specs.Account.{Follows, Peer}
use Rattle.abi_bindgen.specs.Arms.{Armed, arm, gives_nothing}
use Rattle.abi_bindgen.specs.Blocks.{owned_datum}
use Rattle.abi_bindgen.specs.Laws.{Data, Facts}
use Rattle.abi_bindgen.specs.Meaning.{with_nothing}
use Rattle.abi_bindgen.specs.Turns.{Arrives, Went}
use Rattle.func_gen.specs.declared.function_bindgen.FinishedBlock.{FinishedBlock}
use Rattle.func_gen.specs.declared.function_bindgen.FunctionBindgen.{FunctionBindgen}
use Rattle.func_gen.specs.Finished.{data_of, evaluated, outside, results_act}
use Rattle.func_gen.specs.LiftedCases.{freed_body}
use Rattle.func_gen.specs.Meaning.{File, FuncState, account_of, func_meaning, owns_of, run_finished, seen, setting_for}
use Rattle.func_gen.specs.Scope.{is_used}
use Rattle.func_gen.proofs.ArmFollows.{arm_follows}
use Rattle.func_gen.proofs.ArmResults.{gives-code}
use Rattle.func_gen.proofs.Lasting.{SameArea, area_same, lasts}
use Rattle.func_gen.proofs.MatchByNumber.{body_behind}

module _ (old new : FunctionBindgen) (same : SameArea old new) (params : new.params ≡ old.params) (used : new.scope.used ≡ old.scope.used) where
  abbrev pub Outs : Armed func_meaning → Facts func_meaning → Type 0
  Outs l fs = fs ≡ []

  module _ (w : File) (p : Peer RustValue) (others : Facts func_meaning) (s : FuncState) (i : ℕ) (b : FinishedBlock) (none : b.results ≡ []) (inward : is_inward (freed_body b) ≡ true) where
    abbrev set : Setting
    set = setting_for w p

    abbrev Reached : Went func_meaning (Armed func_meaning) → FuncState → Type 0
    Reached = Arrives func_meaning w old new others Outs (λ l. flat_map (owned_datum func_meaning) l.results)

    arrives : (u : State) → Reached (record { result = record { number = i; results = [] }; state = record { machine = outside s.machine u; area = s.area }; account = account_of u }) (record { machine = outside s.machine u; area = s.area })
    arrives u =
        let t = outside s.machine u in
        record {
          account = refl;
          owns = λ g. omega (arith, total-append g (owns_of t) []);
          denotes = λ d. (
            [],
            refl,
            record {
              hold = lasts w.items old new others t t params (λ n z h. h) (λ n free. d.hold.within n (ap (λ us. is_used us n) (sym used) ∙ free)) d.hold;
              owners = d.owners;
              area = area_same w old new s.area t same d.area;
            },
          );
        }

    gives_same : (o : machine.Outcome (Unit {0})) → and_then o (λ _. machine.all {A = Val} []) ≡ and_then (and_then o (λ _. machine.all {A = Val} [])) machine.pure
    gives_same (machine.Done u t) = refl
    gives_same (machine.Stopped x t) = refl

    wraps : (t : State) → run_results set (freed_body b) t ≡ and_then (results_act set b t) machine.pure
    wraps t =
        ap (λ (act : machine.Act (List Val)). act t) (gives-code set b.stmts None) ∙ gives_same (run_stmts set b.stmts t)
        ∙ ap (λ os. and_then ((run_stmts set b.stmts >> evaluated set os) t) machine.pure) (sym none)

    no_data : (vs : List Val) (ds : Data func_meaning) → data_of [] vs ≡ Some ds → (vs ≡ []) × (ds ≡ [])
    no_data [] ds h = (refl, let e : [] ≡ ds = cc in sym e)
    no_data (v ∷ vs) ds h = absurd cc

    pub free_follows : (enter : machine.Act (Unit {0})) → enter s.machine ≡ machine.Done tt s.machine
        → Follows func_meaning.account (arm func_meaning (gives_nothing func_meaning) (λ body. run_finished w p body with_nothing) i s (Some b))
        (seen s.area (and_then (in_scope set (enter >> run_results set (freed_body b)) s.machine) (bind_results set names_of.Nothing))) Reached
    free_follows enter enters =
        arm_follows w p b names_of.Nothing s [] tt tt (run_results set (freed_body b)) (body_behind set (freed_body b) inward) (body_quiet set (freed_body b) inward) machine.pure (λ vs. quiet_pure vs) wraps enter
        (enters ∙ ap (λ ls. machine.Done tt (record s.machine { locals = ls })) (sym (append-nil s.machine.locals))) (gives_nothing func_meaning) i Reached
        (λ vs ds u known fits.
        let is = no_data vs ds (ap (λ os. data_of os vs) (sym none) ∙ known) in (
          [],
          outside s.machine u,
          ap (λ xs. machine.Done xs u) is.0,
          refl,
          subst (λ xs. Reached (record { result = record { number = i; results = xs }; state = record { machine = outside s.machine u; area = s.area }; account = account_of u }) (record { machine = outside s.machine u; area = s.area })) (sym is.1) (arrives u),
        ))
