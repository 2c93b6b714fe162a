-- The row of operands that get locals of their own.
use Rattle.std.proofs.Common.{◌≡◌, ℕ, ◌+◌, ◌<◌, ◌^◌, true, List, [], ◌∷◌, ◌++◌, length, reverse, Some, refl, sym, ap, ◌∙◌, subst, arith, false, map, suc, Option, None, Bool}
use Rattle.std.specs.Prelude.{option_and_then}
use Rattle.wit_model.specs.Bytes.{Bytes}
use Rattle.wit_model.specs.Distinct.{is_distinct}
use Rattle.wit_model.specs.declared.types.TypeDef.{TypeDef}
use Rattle.rust_tree.specs.declared.expr.Expr.{Expr}
use Rattle.rust_tree.specs.declared.expr.Expr.TheVariants as expr
use Rattle.rust_tree.specs.declared.stmt.Stmt.{Stmt}
use Rattle.rust_tree.specs.declared.stmt.Stmt.TheVariants as stmt
use Rattle.wrapper_data.specs.declared.value.RustValue.{RustValue}
use Rattle.wrapper_meaning.specs.Items.{total}
use Rattle.wrapper_values.specs.declared.state.State.{State}
use Rattle.wrapper_values.specs.declared.state.Val.{Val}
use Rattle.wrapper_values.specs.declared.state.Val.TheVariants as val
use Rattle.wrapper_values.specs.Act as machine
use Rattle.wrapper_values.specs.Locals.{usable}
use Rattle.wrapper_values.specs.Owning.{owned}
use Rattle.wrapper_values.specs.Setting.{Setting}
use Rattle.wrapper_run.specs.Run.{eval, run_stmts}
use Rattle.wrapper_run.specs.Inward.{CallsNothing}
use Rattle.wrapper_run.proofs.GiveSteps.{let_runs}
use Rattle.wrapper_run.proofs.InwardCalls.{stmts_quiet}
use Rattle.abi_bindgen.specs.declared.instruction.Instruction.TheVariants.{Flush}
use Rattle.abi_bindgen.specs.Account.{Account}
use Rattle.abi_bindgen.specs.Calls.{Renames}
use Rattle.abi_bindgen.specs.Instructions.{Emits}
use Rattle.abi_bindgen.specs.Laws.{Adds, Data, Facts, ofs}
use Rattle.abi_bindgen.specs.Meaning.{Datum, Fact, item, of, word}
use Rattle.abi_bindgen.specs.Sent.{sends}
use Rattle.func_gen.specs.declared.function_bindgen.FunctionBindgen.{FunctionBindgen}
use Rattle.func_gen.specs.declared.operand.ExprOperand.{ExprOperand}
use Rattle.func_gen.specs.Added.{Appends}
use Rattle.func_gen.specs.CallForms.{FreshAll}
use Rattle.func_gen.specs.FactLemmas.{Says, is_said, word_read}
use Rattle.func_gen.specs.Facts.{AreOwned, Hold}
use Rattle.func_gen.specs.FlushForms.{flush_prefix, lets_of, flushed}
use Rattle.func_gen.specs.Forms.{local_kept}
use Rattle.func_gen.specs.Meaning.{account_of, func_meaning, owns_of, seen, setting_for}
use Rattle.func_gen.specs.PartForms.{are_operands, exprs_of, names_from}
use Rattle.func_gen.specs.Read.{env_of, item_of, kept_value}
use Rattle.func_gen.specs.Scope.{is_used, Takes}
use Rattle.func_gen.specs.CodeOf.{flushes}
use Rattle.func_gen.specs.Slot.{Slot}
use Rattle.func_gen.proofs.CallRows.{split_used}
use Rattle.func_gen.proofs.Evaluated.{gives}
use Rattle.func_gen.proofs.Forming.{form_as}
use Rattle.func_gen.proofs.InwardForms.{lets_inward}
use Rattle.func_gen.proofs.Lasting.{area_same, bound_under, lasts, owns_with, part, with_local}
use Rattle.func_gen.proofs.Moving.{uses}
use Rattle.func_gen.proofs.OperandLists.{same_operands}
use Rattle.func_gen.proofs.PartNames.{names_many, parts_distinct}
use Rattle.func_gen.proofs.PartRows.{areas_last}
use Rattle.func_gen.proofs.PartsTaken.{AllFree, all_free, using, using_params, using_used}
use Rattle.func_gen.proofs.Rows.{same_area}
use Rattle.func_gen.proofs.Several.{add_kept}
use Rattle.func_gen.proofs.Steps.{func_adds, ran}
use Rattle.wrapper_meaning.proofs.PostReturn.{total-append}

-- 1. One operand is used, whatever it denotes

pub record Given (w : Setting) (b : FunctionBindgen) (o : ExprOperand) (d : Datum RustValue) (others : Facts func_meaning) (s : State) : Type 0 where
  pub given : Val
  pub then : State
  pub evaluated : eval w o.expr s ≡ machine.Done given then
  pub is : Says d (kept_value o.kept (option_and_then usable (Some given)))
  pub account : account_of then ≡ account_of s
  pub place : then.place ≡ s.place
  pub owns : (f : ℕ → ℕ) → total f (owns_of then) + total f (owned given) ≡ total f (owns_of s)
  pub holds : Hold w.items b others then
  pub areas : (k : Bytes) (address size : ℕ) → env_of s k ≡ Some (val.Area address size) → env_of then k ≡ Some (val.Area address size)

-- what denotes a value is no area
usable_value : (kept : Bool) (v : Val) (r : RustValue) → kept_value kept (Some v) ≡ Some (val.Value r) → Says (item r) (kept_value kept (option_and_then usable (Some v)))
usable_value kept (val.Word x) r h = h
usable_value kept (val.Value q) r h = h
usable_value true (val.Area a n) r h = absurd cc
usable_value false (val.Area a n) r h = absurd (let none : (let q : Option RustValue = None in q ≡ Some r) = ap (option_and_then item_of) h in cc)

pub is_given : (w : Setting) (b : FunctionBindgen) (o : ExprOperand) (d : Datum RustValue) (others : Facts func_meaning) (s : State) → Hold w.items b (of o d ∷ others) s → Given w b o d others s
is_given w b o (word x) others s h =
    let two = word_read w.items o (env_of s) x (is_said w.items b.params (env_of s) (of o (word x)) (omega (arith, h.right))) in
    record {
      given = val.Word x;
      then = s;
      evaluated = gives w o.expr s (val.Word x) two.1 refl;
      is = ap (λ kept. kept_value kept (Some (val.Word x))) two.0;
      account = refl;
      place = refl;
      owns = λ f. omega arith;
      holds = part w.items b others (of o (word x) ∷ others) s (λ f. omega arith) h;
      areas = λ k a n is. is;
    }
is_given w b o (item r) others s h =
    let u = uses w b o r others s h in
    record { given = u.given; then = u.then; evaluated = u.evaluated; is = usable_value o.kept u.given r u.denotes; account = u.account; place = u.place; owns = u.owns; holds = u.holds; areas = u.areas }

-- 2. One after the other

pub record Renamed (w : Setting) (b : FunctionBindgen) (names : List Bytes) (stmts : List Stmt) (facts : Facts func_meaning) (s : State) : Type 0 where
  pub then : State
  pub runs : run_stmts w stmts s ≡ machine.Done tt then
  pub account : account_of then ≡ account_of s
  pub place : then.place ≡ s.place
  pub owns : (f : ℕ → ℕ) → total f (owns_of then) ≡ total f (owns_of s)
  pub holds : Hold w.items (using b names) facts then
  pub areas : (k : Bytes) (address size : ℕ) → env_of s k ≡ Some (val.Area address size) → env_of then k ≡ Some (val.Area address size)

binds_one : (w : Setting) (n : Bytes) (e : Expr) (more : List Stmt) (v : Val) (s t : State) → eval w e s ≡ machine.Done v t → run_stmts w (stmt.Let n e ∷ more) s ≡ run_stmts w more (with_local t n v)
binds_one w n e more v s t h = let_runs w n e more v s t h

-- what operands denote, new locals do, and all other facts last
renamed : (w : Setting) (b : FunctionBindgen) (names : List Bytes) (os : List ExprOperand) (ds : Data func_meaning) (others : Facts func_meaning) (s : State) → AllFree b.scope.used names → length names ≡ length os → length ds ≡ length os → Hold w.items b (ofs func_meaning os ds ++ others) s
    → Renamed w b names (lets_of names (exprs_of os)) (ofs func_meaning (flushed names os) ds ++ others) s
renamed w b [] [] [] others s free many len h = record { then = s; runs = refl; account = refl; place = refl; owns = λ f. refl; holds = h; areas = λ k a n is. is }
renamed w b [] [] (d ∷ ds) others s free many len h = absurd (omega (arith, len))
renamed w b [] (o ∷ os) ds others s free many len h = absurd (omega (arith, many))
renamed w b (n ∷ ns) [] ds others s free many len h = absurd (omega (arith, many))
renamed w b (n ∷ ns) (o ∷ os) [] others s free many len h = absurd (omega (arith, len))
renamed w b (n ∷ ns) (o ∷ os) (d ∷ ds) others s free many len h =
    let next : FunctionBindgen = record b { scope = record b.scope { used = b.scope.used ++ n ∷ [] } } in
    let first : Fact ExprOperand Slot RustValue = of (local_kept o.kept n) d in
    let rest = ofs func_meaning os ds in
    let after = ofs func_meaning (flushed ns os) ds in
    let one = is_given w b o d (rest ++ others) s h in
    let bound = with_local one.then n one.given in
    let added = add_kept w.items b next (rest ++ others) one.then o.kept n one.given d refl (record { free = free.0; used = refl }) one.is one.holds in
    let turned = part w.items next (rest ++ (first ∷ others)) (first ∷ (rest ++ others)) bound (λ g. omega (arith, total-append g rest others, total-append g rest (first ∷ others))) added in
    let later = renamed w next ns os ds (first ∷ others) bound free.1 (omega (arith, many)) (omega (arith, len)) turned in
    record {
      then = later.then;
      runs = binds_one w n o.expr (lets_of ns (exprs_of os)) one.given s one.then one.evaluated ∙ later.runs;
      account = later.account ∙ one.account;
      place = later.place ∙ one.place;
      owns = λ f. omega (arith, later.owns f, one.owns f, owns_with f one.then n one.given);
      holds = part w.items (using next ns) (first ∷ (after ++ others)) (after ++ (first ∷ others)) later.then (λ g. omega (arith, total-append g after others, total-append g after (first ∷ others))) later.holds;
      areas = λ k a z is. later.areas k a z (bound_under one.then n one.given (one.holds.within n free.0) k (val.Area a z) (one.areas k a z is));
    }

quiet_lets : (w : Setting) (names : List Bytes) (os : List ExprOperand) → are_operands os ≡ true → CallsNothing (run_stmts w (lets_of names (exprs_of os)))
quiet_lets w names os ok = stmts_quiet w (lets_of names (exprs_of os)) (lets_inward names (exprs_of os) (same_operands os ∙ ok))

-- 3. The row

flushed_exprs : (names : List Bytes) (os : List ExprOperand) → length names ≡ length os → exprs_of (flushed names os) ≡ map (λ n. expr.Local n) names
flushed_exprs [] os e = refl
flushed_exprs (n ∷ ns) [] e = absurd (omega (arith, e))
flushed_exprs (n ∷ ns) (o ∷ os) e = ap (λ es. expr.Local n ∷ es) (flushed_exprs ns os (omega (arith, e)))

flushed_many : (names : List Bytes) (os : List ExprOperand) → length names ≡ length os → length (flushed names os) ≡ length names
flushed_many [] os e = refl
flushed_many (n ∷ ns) [] e = absurd (omega (arith, e))
flushed_many (n ∷ ns) (o ∷ os) e = ap suc (flushed_many ns os (omega (arith, e)))

module _ (old new : FunctionBindgen) (names : List Bytes) (os : List ExprOperand) (a : Appends old new (lets_of names (exprs_of os)) []) (fresh : FreshAll old new names) (distinct : is_distinct names ≡ true) where
  flush_adds : are_operands os ≡ true → Adds func_meaning old new
  flush_adds ok = func_adds old new (lets_of names (exprs_of os)) [] a (λ k free. (split_used old new names fresh k free).0) (λ w. quiet_lets w names os ok)

  flush_renames : length names ≡ length os → Renames func_meaning os (flushed names os) old new
  flush_renames many ds len w p others s0 s at =
      let stmts = lets_of names (exprs_of os) in
      let facts = ofs func_meaning (flushed names os) ds in
      let free = all_free old.scope.used names fresh.free distinct in
      let r = renamed (setting_for w p) old names os ds others s.machine free many len at.holds.hold in (
        record { machine = r.then; area = s.area },
        ran old new stmts [] a w p (ofs func_meaning os ds ++ others) s0 s at ∙ ap (seen s.area) r.runs,
        (
          facts,
          refl,
          record {
            account = r.account;
            owns = λ g. omega (arith, r.owns g, total-append g (owns_of r.then) [], total-append g (owns_of s.machine) []);
            denotes = record {
              hold = lasts w.items (using old names) new (facts ++ others) r.then r.then (a.params ∙ sym (using_params old names)) (λ n v h. h)
                  (λ n fr. r.holds.within n (sym (ap (λ us. is_used us n) (fresh.used ∙ sym (using_used old names))) ∙ fr)) r.holds;
              owners = subst (λ (acc : Account RustValue). AreOwned acc.heap.blocks acc.taken) (sym r.account) at.holds.owners;
              area = areas_last new.import w.area s.area new.asked new.area s.machine r.then r.areas r.place (area_same w old new s.area s.machine (same_area old new stmts [] a) at.holds.area);
            };
          },
        ),
      )

pub flush_row : (types : List TypeDef) (old new : FunctionBindgen) (t k : ℕ) (names : List Bytes) (os : List ExprOperand) → length os ≡ k → k < 2 ^ 32 → names ≡ names_from flush_prefix t 0 k → are_operands os ≡ true → Appends old new (lets_of names (exprs_of os)) [] → FreshAll old new names → Takes old.scope (λ x. names_from flush_prefix x 0 k) t new.scope
    → Emits func_meaning types (Flush k) os (flushed names os) old new
flush_row types old new t k names os len small is ok a fresh takes =
    let distinct : is_distinct names ≡ true = ap is_distinct is ∙ parts_distinct flush_prefix t 0 k (omega arith) in
    let many : length names ≡ k = ap length is ∙ names_many flush_prefix t 0 k in
    record {
      adds = flush_adds old new names os a fresh distinct ok;
      blocks = ap reverse a.finished;
      returned = a.returned;
      asked = a.asked;
      form = form_as (sends (Flush k)) (record { gives = refl; calls = refl }) os old new (flushed names os) (flushes k (exprs_of os)) t refl takes (subst (λ ns. Appends old new (lets_of ns (exprs_of os)) []) is a) (flushed_exprs names os (many ∙ sym len) ∙ ap (map (λ n. expr.Local n)) is);
      results = flushed_many names os (many ∙ sym len) ∙ many;
      row = flush_renames old new names os a fresh distinct (many ∙ sym len);
    }
