-- The arms of cases that are lifted: each runs its block, and the case of what that gives gets a name.
use Rattle.std.proofs.Common.{◌≡◌, ◌+◌, ◌≤◌, ℕ, zero, suc, Bool, true, false, List, [], ◌∷◌, ◌++◌, length, map, Option, None, Some, refl, sym, ap, ◌∙◌, subst, arith, append-nil}
use Rattle.std.specs.Prelude.{option_and_then, slice_get}
use Rattle.std.specs.List.{flat_map}
use Rattle.std.specs.Option.{option_map}
use Rattle.wit_model.specs.Bytes.{Bytes}
use Rattle.rust_tree.specs.declared.expr.Expr.TheVariants as expr
use Rattle.rust_tree.specs.declared.path.Path.{Path}
use Rattle.rust_tree.specs.declared.stmt.Block.{Block}
use Rattle.rust_tree.specs.declared.stmt.MatchNames.TheVariants as names_of
use Rattle.wrapper_data.specs.declared.block.Block.{Block as HeapBlock}
use Rattle.wrapper_data.specs.declared.value.RustValue.{RustValue}
use Rattle.wrapper_data.specs.declared.value.RustValue.TheVariants as value
use Rattle.wrapper_meaning.specs.Direction.{take}
use Rattle.wrapper_meaning.specs.Items.{total}
use Rattle.wrapper_meaning.specs.Shape.{Shapes}
use Rattle.wrapper_meaning.specs.Shape.Shape.{cases}
use Rattle.wrapper_meaning.specs.Value.{Case, case_number}
use Rattle.wrapper_meaning.proofs.PostReturn.{total-append}
use Rattle.wrapper_values.specs.declared.state.Local.{Local}
use Rattle.wrapper_values.specs.declared.state.State.{State}
use Rattle.wrapper_values.specs.declared.state.Val.{Val}
use Rattle.wrapper_values.specs.declared.state.Val.TheVariants as val
use Rattle.wrapper_values.specs.Act as machine
use Rattle.wrapper_values.specs.Act.{◌>>◌, all, and_then}
use Rattle.wrapper_values.specs.Effect.{rust_of}
use Rattle.wrapper_values.specs.Locals.{bind}
use Rattle.wrapper_values.specs.Matches.{bind_results}
use Rattle.wrapper_values.specs.Owning.{owned_by}
use Rattle.wrapper_values.specs.Setting.{Setting}
use Rattle.wrapper_run.specs.Blocks.{in_scope}
use Rattle.wrapper_run.specs.Inward.{is_inward}
use Rattle.wrapper_run.specs.OuterLocals.{OwnNothing}
use Rattle.wrapper_run.specs.Results.{run_results}
use Rattle.wrapper_run.specs.Run.{eval, run_stmts}
use Rattle.wrapper_run.proofs.InwardCalls.{body_quiet}
use Rattle.abi_bindgen.specs.Account.{Follows, Peer}
use Rattle.abi_bindgen.specs.Arms.{Armed, arm, gives_payload}
use Rattle.abi_bindgen.specs.Blocks.{owned_datum}
use Rattle.abi_bindgen.specs.Cases.{IsPayload, PayloadStands}
use Rattle.abi_bindgen.specs.Laws.{Data, Facts}
use Rattle.abi_bindgen.specs.Meaning.{Datum, item, of, with_nothing, word}
use Rattle.abi_bindgen.specs.Turns.{Arrives, Went}
use Rattle.func_gen.specs.declared.case_form.CaseForm.{CaseForm}
use Rattle.func_gen.specs.declared.function_bindgen.FinishedBlock.{FinishedBlock}
use Rattle.func_gen.specs.declared.function_bindgen.FunctionBindgen.{FunctionBindgen}
use Rattle.func_gen.specs.declared.operand.ExprOperand.{ExprOperand}
use Rattle.func_gen.specs.Added.{Fresh}
use Rattle.func_gen.specs.FactLemmas.{item_rust}
use Rattle.func_gen.specs.Finished.{data_of, datum_of, outside}
use Rattle.func_gen.specs.Forms.{operand_of}
use Rattle.func_gen.specs.LiftedCases.{are_few, is_unit, lifted_bodies, lifted_body}
use Rattle.func_gen.specs.MatchForms.{case_path}
use Rattle.func_gen.specs.Meaning.{File, FuncState, StandsAsItIs, account_of, func_meaning, owns_of, run_finished, seen, setting_for}
use Rattle.func_gen.specs.PartForms.{exprs_of}
use Rattle.func_gen.specs.Read.{item_of}
use Rattle.func_gen.specs.Scope.{is_used}
use Rattle.func_gen.proofs.ArmFollows.{arm_follows}
use Rattle.func_gen.proofs.ArmReach.{Unused}
use Rattle.func_gen.proofs.CaseArms.{each_evaluated}
use Rattle.func_gen.proofs.CaseValues.{Fills, case_made, case_owns}
use Rattle.func_gen.proofs.CasesMade.{IsCaseOf, alone, bare_made, case_of, full_made, makes_case, quiet_case, unit_made}
use Rattle.func_gen.proofs.Lasting.{SameArea, area_same, bound_under, lasts, owns_with, with_local}
use Rattle.func_gen.proofs.MatchByNumber.{body_behind}
use Rattle.func_gen.proofs.PartRows.{areas_last}
use Rattle.func_gen.proofs.Several.{add_local}

-- 1. Which block it is

-- the cases have the numbers from one on
abbrev pub AreCases : Setting → ℕ → List CaseForm → Type 0
AreCases w k [] = Unit {0}
AreCases w k (c ∷ forms) = IsCaseOf w (case_path c) k × AreCases w (suc k) forms

pub record BodyOf (w : Setting) (k : ℕ) (blocks : List FinishedBlock) (i : ℕ) (body : Block) : Type 0 where
  pub taken : CaseForm
  pub block : FinishedBlock
  pub at : slice_get blocks i ≡ Some block
  pub is : body ≡ lifted_body taken block
  pub numbered : IsCaseOf w (case_path taken) (k + i)

pub body_at : (w : Setting) (k : ℕ) (forms : List CaseForm) (blocks : List FinishedBlock) (i : ℕ) (body : Block) → AreCases w k forms → slice_get (lifted_bodies forms blocks) i ≡ Some body → BodyOf w k blocks i body
body_at w k [] blocks i body h e = absurd cc
body_at w k (c ∷ forms) [] i body h e = absurd cc
body_at w k (c ∷ forms) (b ∷ blocks) zero body h e =
    let same : lifted_body c b ≡ body = cc in
    record { taken = c; block = b; at = refl; is = sym same; numbered = subst (IsCaseOf w (case_path c)) (let z : k ≡ k + 0 = omega arith in z) h.0 }
body_at w k (c ∷ forms) (b ∷ blocks) (suc i) body h e =
    let later = body_at w (suc k) forms blocks i body h.1 e in
    record { taken = later.taken; block = later.block; at = later.at; is = later.is; numbered = subst (IsCaseOf w (case_path later.taken)) (let z : suc k + i ≡ k + suc i = omega arith in z) later.numbered }

-- 2. What a block gives is a payload

few_exprs : (os : List ExprOperand) → are_few os ≡ true → length (exprs_of os) ≤ 1
few_exprs [] h = omega arith
few_exprs (o ∷ []) h = omega arith
few_exprs (o ∷ p ∷ os) h = absurd cc

kept_value : (kept : Bool) (v : Val) (r : RustValue) → datum_of kept v ≡ Some (item r) → rust_of v ≡ Some r
kept_value false (val.Word x) r h = absurd cc
kept_value false (val.Value q) r h = let same : q ≡ r = cc in ap (λ z. Some z) same
kept_value false (val.Area a n) r h = absurd cc
kept_value true v r h = go (item_of v) refl h
  where
    go : (o : Option RustValue) → item_of v ≡ o → option_map (λ r. item r) o ≡ Some (item r) → rust_of v ≡ Some r
    go None e k = absurd cc
    go (Some q) e k = let same : q ≡ r = cc in item_rust v r (e ∙ ap (λ z. Some z) same)

-- what stands in the case of it
abbrev pub empty_inner : (unit : Bool) → Option RustValue
empty_inner true = Some value.Unit
empty_inner false = None

abbrev pub inner_of : (unit : Bool) → Data func_meaning → Option RustValue
inner_of unit [] = empty_inner unit
inner_of unit (item r ∷ ds) = Some r
inner_of unit (word x ∷ ds) = None

filled : (unit : Bool) (ds : Data func_meaning) (payload : Option RustValue) → IsPayload func_meaning ds payload → Fills payload (inner_of unit ds)
filled true [] None h = refl
filled false [] None h = tt
filled unit [] (Some r) h = absurd h
filled unit (item r ∷ []) None h = absurd h
filled unit (item r ∷ []) (Some q) h = ap (λ z. Some z) h
filled unit (item r ∷ d ∷ ds) payload h = absurd h
filled unit (word x ∷ ds) payload h = absurd h

inner_owns : (n : ℕ) (unit : Bool) (ds : Data func_meaning) → gives_payload func_meaning ds ≡ true → owned_by (value.Case n (inner_of unit ds)) ≡ flat_map (owned_datum func_meaning) ds
inner_owns n true [] h = case_owns n None (Some value.Unit) refl
inner_owns n false [] h = case_owns n None None tt
inner_owns n unit (item r ∷ []) h = case_owns n (Some r) (Some r) refl ∙ sym (append-nil (owned_by r))
inner_owns n unit (item r ∷ d ∷ ds) h = absurd cc
inner_owns n unit (word x ∷ ds) h = absurd cc

module _ (w : Setting) (unit : Bool) (path : Path) (n : ℕ) (is : IsCaseOf w path n) (u : State) where
  -- the case is made of the data
  pub data_made : (os : List ExprOperand) (vs : List Val) (ds : Data func_meaning) → are_few os ≡ true → data_of os vs ≡ Some ds → gives_payload func_meaning ds ≡ true
      → alone (case_of w unit path vs) u ≡ machine.Done (val.Value (value.Case n (inner_of unit ds)) ∷ []) u
  data_made [] [] ds few e fits = subst (λ xs. alone (case_of w unit path []) u ≡ machine.Done (val.Value (value.Case n (inner_of unit xs)) ∷ []) u) (let z : [] ≡ ds = cc in z) (empty unit)
    where
      empty : (b : Bool) → alone (case_of w b path []) u ≡ machine.Done (val.Value (value.Case n (inner_of b [])) ∷ []) u
      empty true = ap (λ o. and_then o (λ x. machine.pure (x ∷ []))) (unit_made w path n u is)
      empty false = ap (λ o. and_then o (λ x. machine.pure (x ∷ []))) (bare_made w path n u is)
  data_made [] (v ∷ vs) ds few e fits = absurd cc
  data_made (o ∷ []) [] ds few e fits = absurd cc
  data_made (o ∷ []) (v ∷ []) ds few e fits = go (datum_of o.kept v) refl e
    where
      one : (d : Datum RustValue) → datum_of o.kept v ≡ Some d → d ∷ [] ≡ ds → alone (case_of w unit path (v ∷ [])) u ≡ machine.Done (val.Value (value.Case n (inner_of unit ds)) ∷ []) u
      one (word x) i k = absurd (let z : gives_payload func_meaning (word x ∷ []) ≡ true = ap (gives_payload func_meaning) k ∙ fits in cc)
      one (item r) i k =
          ap (λ o. and_then o (λ x. machine.pure (x ∷ []))) (full_made w unit path n v r u is (kept_value o.kept v r i)) ∙ ap (λ xs. machine.Done (val.Value (value.Case n (inner_of unit xs)) ∷ []) u) k

      go : (q : Option (Datum RustValue)) → datum_of o.kept v ≡ q → option_and_then (λ d. option_map (λ ds. d ∷ ds) (data_of [] [])) q ≡ Some ds → alone (case_of w unit path (v ∷ [])) u ≡ machine.Done (val.Value (value.Case n (inner_of unit ds)) ∷ []) u
      go None i k = absurd cc
      go (Some d) i k = one d i (let z : d ∷ [] ≡ ds = cc in z)
  data_made (o ∷ []) (v ∷ v2 ∷ vs) ds few e fits = absurd (no (datum_of o.kept v) e)
    where
      no : (q : Option (Datum RustValue)) → option_and_then (λ d. option_map (λ ds. d ∷ ds) (let z : Option (Data func_meaning) = None in z)) q ≡ Some ds → ⊥
      no None k = absurd cc
      no (Some d) k = absurd cc
  data_made (o ∷ p ∷ os) vs ds few e fits = absurd cc

-- 3. The arm

module _ (old new base : FunctionBindgen) (v : Bytes) (ts : Shapes) (same : SameArea old new) (params : base.params ≡ old.params) (still : new.params ≡ base.params)
    (wider : (k : Bytes) → is_used base.scope.used k ≡ false → is_used old.scope.used k ≡ false) (fresh : Fresh base new v) where
  abbrev pub Outs : Armed func_meaning → Facts func_meaning → Type 0
  Outs l fs =
      (r : RustValue) × (fs ≡ of (operand_of (expr.Local v)) (item r) ∷ [])
      × ((c : Case ts) (payload : Option RustValue) (own : List HeapBlock) → case_number ts c ≡ l.number → IsPayload func_meaning l.results payload → PayloadStands func_meaning take ts c payload own → StandsAsItIs take (cases ts) c r own)

  module _ (w : File) (p : Peer RustValue) (others : Facts func_meaning) (s : FuncState) (i : ℕ) (c : CaseForm) (b : FinishedBlock) (few : are_few b.results ≡ true) (inward : is_inward (lifted_body c b) ≡ true) (is : IsCaseOf (setting_for w p) (case_path c) i) where
    abbrev set : Setting
    set = setting_for w p

    abbrev Reached : Went func_meaning (Armed func_meaning) → FuncState → Type 0
    Reached = Arrives func_meaning w old new others Outs (λ l. flat_map (owned_datum func_meaning) l.results)

    abbrev case_value : Data func_meaning → RustValue
    case_value ds = value.Case i (inner_of (is_unit c) ds)

    -- the case gets its name
    arrives : (ds : Data func_meaning) (u : State) → gives_payload func_meaning ds ≡ true
        → Reached (record { result = record { number = i; results = ds }; state = record { machine = outside s.machine u; area = s.area }; account = account_of u }) (record { machine = with_local (outside s.machine u) v (val.Value (case_value ds)); area = s.area })
    arrives ds u fits =
        let t = outside s.machine u in
        let x : Val = val.Value (case_value ds) in
        record {
          account = refl;
          owns = λ g. let e = ap (total g) (inner_owns i (is_unit c) ds fits) in omega (arith, e, owns_with g t v x, total-append g (owns_of t) (flat_map (owned_datum func_meaning) ds));
          denotes = λ d.
              let held = lasts w.items old base others t t params (λ n z h. h) (λ n free. d.hold.within n (wider n free)) d.hold in
              let under = bound_under t v x (held.within v fresh.free) in (
                of (operand_of (expr.Local v)) (item (case_value ds)) ∷ [],
                (case_value ds, refl, λ k payload own at paid stands. case_made ts k i payload (inner_of (is_unit c) ds) own at (filled (is_unit c) ds payload paid) stands),
                record {
                  hold = add_local w.items base new others t v x (item (case_value ds)) still fresh refl held;
                  owners = d.owners;
                  area = areas_last new.import w.area s.area new.asked new.area t (with_local t v x) (λ k a z h. under k (val.Area a z) h) refl (area_same w old new s.area t same d.area);
                },
              );
        }

    wraps : (t : State) → run_results set (lifted_body c b) t ≡ and_then ((run_stmts set b.stmts >> all (map (λ (o : ExprOperand). eval set o.expr) b.results)) t) (λ vs. alone (case_of set (is_unit c) (case_path c) vs))
    wraps t =
        makes_case set (is_unit c) (case_path c) b.stmts (exprs_of b.results) t (few_exprs b.results few)
        ∙ ap (λ acts. and_then ((run_stmts set b.stmts >> all acts) t) (λ vs. alone (case_of set (is_unit c) (case_path c) vs))) (sym (each_evaluated set b.results))

    bound_as : (x : Val) (t : State) → bind_results set (names_of.One v) (x ∷ []) t ≡ machine.Done tt (with_local t v x)
    unfolding bind
    bound_as x t = refl

    pub lift_follows : (extra : List Local) → Unused b.names extra → OwnNothing extra → (enter : machine.Act (Unit {0})) → enter s.machine ≡ machine.Done tt (record s.machine { locals = s.machine.locals ++ (extra ++ []) })
        → Follows func_meaning.account (arm func_meaning (gives_payload func_meaning) (λ body. run_finished w p body with_nothing) i s (Some b))
        (seen s.area (and_then (in_scope set (enter >> run_results set (lifted_body c b)) s.machine) (bind_results set (names_of.One v)))) Reached
    lift_follows extra unused plain enter enters =
        arm_follows w p b (names_of.One v) s extra unused plain (run_results set (lifted_body c b)) (body_behind set (lifted_body c b) inward) (body_quiet set (lifted_body c b) inward) (λ vs. alone (case_of set (is_unit c) (case_path c) vs))
        (λ vs. quiet_case set (is_unit c) (case_path c) i vs is) wraps enter enters (gives_payload func_meaning) i Reached
        (λ vs ds u known fits.
        let x : Val = val.Value (case_value ds) in
        (x ∷ [], with_local (outside s.machine u) v x, data_made set (is_unit c) (case_path c) i is u b.results vs ds few known fits, bound_as x (outside s.machine u), arrives ds u fits))
