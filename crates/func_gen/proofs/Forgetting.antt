-- What is forgotten has no owner any more: the machine lets go of blocks as the laws say.
use Rattle.std.proofs.Common.{◌≡◌, ℕ, Bool, true, false, cond, ◌||◌, not, nat_eq, if◌then◌else◌, List, [], ◌∷◌, Option, None, Some, filter, refl, sym, ap, ◌∙◌, subst}
use Rattle.std.proofs.lemmas.Bool.{eqb-true, or_parts}
use Rattle.wrapper_data.specs.declared.block.Block.{Block}
use Rattle.wrapper_data.specs.declared.value.RustValue.{RustValue}
use Rattle.wit_model.specs.Bytes.{Bytes}
use Rattle.rust_tree.specs.declared.expr.Expr.{Expr}
use Rattle.rust_tree.specs.declared.expr.Expr.TheVariants as expr
use Rattle.rust_tree.specs.declared.path.Path.{Path}
use Rattle.rust_tree.specs.declared.stmt.Stmt.TheVariants as stmt
use Rattle.wrapper_values.specs.declared.state.State.{State}
use Rattle.wrapper_values.specs.declared.state.Val.{Val}
use Rattle.wrapper_values.specs.Act as machine
use Rattle.wrapper_values.specs.Act.{◌>>=◌, and_then, pure}
use Rattle.wrapper_values.specs.Owning.{is_taken, owned}
use Rattle.wrapper_values.specs.Setting.{Setting}
use Rattle.wrapper_run.specs.Blocks.{drop_value, release, release_all, release_found}
use Rattle.wrapper_run.specs.Memory.{block_from}
use Rattle.wrapper_run.specs.Run.{call, call_callee, callee, core_forget, eval, is_core_forget, run_stmts}
use Rattle.wrapper_run.proofs.StepLemmas.{eval-call}
use Rattle.wrapper_run.proofs.StmtSteps.{runs-expr}
use Rattle.abi_bindgen.specs.Account.{Account, Done, Got, Outcome, Stopped, Stuck, releasing, without}
use Rattle.func_gen.specs.Facts.{AreOwned, IsThere}
use Rattle.func_gen.specs.Meaning.{account_of}
use Rattle.func_gen.specs.TextForms.{forget_names, forget_path, forgotten}
use Rattle.func_gen.proofs.FreeRow.{dropped}

-- 1. One owner is no more

-- no owner has an address, so none goes
filter_none : (a : ℕ) (taken : List ℕ) → is_taken a taken ≡ false → filter (λ t. not (nat_eq t a)) taken ≡ taken
filter_none a [] e = refl
filter_none a (t ∷ taken) e =
    let parts = or_parts (nat_eq t a) (is_taken a taken) e in
    ap (λ b. cond (not b) (t ∷ filter (λ t. not (nat_eq t a)) taken) (filter (λ t. not (nat_eq t a)) taken)) parts.0 ∙ ap (λ ts. t ∷ ts) (filter_none a taken parts.1)

-- an address has one owner at most
without_is : (blocks : List Block) (a : ℕ) (taken : List ℕ) → AreOwned blocks taken → filter (λ t. not (nat_eq t a)) taken ≡ without a taken
without_is blocks a [] h = refl
without_is blocks a (t ∷ taken) (once, there, more) = go (nat_eq t a) refl (without_is blocks a taken more)
  where
    go : (c : Bool) → nat_eq t a ≡ c → filter (λ t. not (nat_eq t a)) taken ≡ without a taken → cond (not c) (t ∷ filter (λ t. not (nat_eq t a)) taken) (filter (λ t. not (nat_eq t a)) taken) ≡ cond c taken (t ∷ without a taken)
    go true e later = filter_none a taken (ap (λ x. is_taken x taken) (sym (eqb-true t a e)) ∙ once)
    go false e later = ap (λ ts. t ∷ ts) later

still_once : (t a : ℕ) (taken : List ℕ) → is_taken t taken ≡ false → is_taken t (without a taken) ≡ false
still_once t a [] e = refl
still_once t a (x ∷ taken) e = go (nat_eq x a) (or_parts (nat_eq x t) (is_taken t taken) e) (still_once t a taken)
  where
    go : (c : Bool) → (nat_eq x t ≡ false) × (is_taken t taken ≡ false) → (is_taken t taken ≡ false → is_taken t (without a taken) ≡ false) → is_taken t (cond c taken (x ∷ without a taken)) ≡ false
    go true parts later = parts.1
    go false parts later = ap (λ b. b || is_taken t (without a taken)) parts.0 ∙ later parts.1

owned_left : (blocks : List Block) (a : ℕ) (taken : List ℕ) → AreOwned blocks taken → AreOwned blocks (without a taken)
owned_left blocks a [] h = tt
owned_left blocks a (t ∷ taken) (once, there, more) = go (nat_eq t a) (owned_left blocks a taken more)
  where
    go : (c : Bool) → AreOwned blocks (without a taken) → AreOwned blocks (cond c taken (t ∷ without a taken))
    go true later = more
    go false later = (still_once t a taken once, there, later)

-- what has an owner is there
owner_there : (blocks : List Block) (a : ℕ) (taken : List ℕ) → AreOwned blocks taken → is_taken a taken ≡ true → IsThere (block_from a blocks)
owner_there blocks a [] h e = absurd cc
owner_there blocks a (t ∷ taken) (once, there, more) e = go (nat_eq t a) refl (owner_there blocks a taken more) e
  where
    go : (c : Bool) → nat_eq t a ≡ c → (is_taken a taken ≡ true → IsThere (block_from a blocks)) → (c || is_taken a taken) ≡ true → IsThere (block_from a blocks)
    go true same later k = subst (λ x. IsThere (block_from x blocks)) (eqb-true t a same) there
    go false same later k = later k

-- 2. Some are no more

abbrev pub with_taken : State → List ℕ → State
with_taken s taken = record s { taken = taken }

-- an action that lets go of owners alone agrees with what the machine does
abbrev pub Releases : Account RustValue → Outcome RustValue (Got RustValue (Unit {0})) → machine.Outcome (Unit {0}) → State → Type 0
Releases acc (Done x) q s = (taken : List ℕ) × (q ≡ machine.Done tt (with_taken s taken)) × (x.account ≡ account_of (with_taken s taken)) × AreOwned s.heap.blocks taken
Releases acc (Stopped e left) q s = ⊥
Releases acc (Stuck left) q s = left.calls ≡ acc.calls

-- of a state in which others own no more
later_releases : (s : State) (taken : List ℕ) (o : Outcome RustValue (Got RustValue (Unit {0}))) (q : machine.Outcome (Unit {0})) → Releases (account_of (with_taken s taken)) o q (with_taken s taken) → Releases (account_of s) o q s
later_releases s taken (Done x) q h = h
later_releases s taken (Stopped e left) q h = h
later_releases s taken (Stuck left) q h = h

-- by what is there of each
pub releases : (w : Setting) (places : List ℕ) (s : State) → AreOwned s.heap.blocks s.taken → Releases (account_of s) (releasing places (account_of s)) (release_all w places s) s
unfolding release
releases w [] s h = (s.taken, refl, refl, h)
releases w (a ∷ places) s h = go (is_taken a s.taken) refl (releases w places (with_taken s (without a s.taken)) (owned_left s.heap.blocks a s.taken h))
  where
    left : State
    left = with_taken s (without a s.taken)

    found : (o : Option Block) → IsThere o → and_then (release_found w a o s) (λ u. release_all w places) ≡ release_all w places (with_taken s (filter (λ t. not (nat_eq t a)) s.taken))
    found None k = absurd k
    found (Some b) k = refl

    go : (c : Bool) → is_taken a s.taken ≡ c → Releases (account_of left) (releasing places (account_of left)) (release_all w places left) left
        → Releases (account_of s) (if c then releasing places (account_of left) else Stuck (account_of s)) (and_then (release_found w a (if c then block_from a s.heap.blocks else None) s) (λ u. release_all w places)) s
    go false e later = refl
    go true e later =
        let runs = found (block_from a s.heap.blocks) (owner_there s.heap.blocks a s.taken h e) ∙ ap (λ ts. release_all w places (with_taken s ts)) (without_is s.heap.blocks a s.taken h) in
        subst (λ q. Releases (account_of s) (releasing places (account_of left)) q s) (sym runs) (later_releases s (without a s.taken) (releasing places (account_of left)) (release_all w places left) later)

-- 3. The statement

calls_forget : callee forget_path ≡ core_forget
unfolding callee forget_names is_core_forget
calls_forget = refl

-- the call of a function on one value
pub one_called : (w : Setting) (path : Path) (e : Expr) (v : Val) (s t : State) → eval w e s ≡ machine.Done v t → eval w (expr.Call path (e ∷ [])) s ≡ call w path (v ∷ []) t
one_called w path e v s t h = ap (λ act. act s) (eval-call w path (e ∷ [])) ∙ ap (λ o. and_then (and_then o (λ x. pure [] >>= (λ xs. pure (x ∷ xs)))) (λ vs. call w path vs)) h

pub forget_runs : (w : Setting) (name : Bytes) (v : Val) (s t : State) → eval w (expr.Local name) s ≡ machine.Done v t → run_stmts w (stmt.Expr (forgotten name) ∷ []) s ≡ release_all w (owned v) t
forget_runs w name v s t h =
    runs-expr w (forgotten name) [] s ∙ ap (λ o. and_then (and_then o (drop_value w)) (λ u. pure tt)) (one_called w forget_path (expr.Local name) v s t h ∙ ap (λ k. call_callee w k (v ∷ []) t) calls_forget) ∙ dropped w (release_all w (owned v) t)
