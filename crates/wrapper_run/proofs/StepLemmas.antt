-- Single steps of the machine.
use Rattle.std.proofs.Common.{◌≡◌, List, [], ◌∷◌, ◌++◌, Option, None, Some, map, refl, sym, ap, subst, ◌∙◌, rules}
use Rattle.std.specs.Prelude.{ℕ, ◌-◌, Result, option_and_then}
use Rattle.std.specs.List.{AllZip}
use Rattle.std.specs.Option.{option_map}
use Rattle.wit_model.specs.declared.wasm_type.WasmType.{WasmType}
use Rattle.rust_tree.specs.declared.expr.CastType.{CastType}
use Rattle.rust_tree.specs.declared.expr.Expr.{Expr, Expr-F, fold-roll-Expr, map-Expr, roll-Expr, the_lemmas}
use Rattle.rust_tree.specs.declared.expr.Expr.TheVariants as expr
use Rattle.rust_tree.specs.declared.expr.Expr.TheVariants.{rolls-Call, rolls-Cast, rolls-I32FromBool}
use Rattle.rust_tree.specs.declared.path.Path.{Path}
use Rattle.std.proofs.Common.{Bool}
use Rattle.wrapper_run.proofs.OwningLemmas.{ArePlain, buffer-text, drops_plain}
use Rattle.wrapper_values.specs.declared.owning.View.{View}
use Rattle.wrapper_values.specs.declared.owning.View.TheVariants as view_of
use Rattle.wrapper_data.specs.declared.word.Word.TheVariants as word
use Rattle.wrapper_values.specs.Owning.{view}
use Rattle.wrapper_values.specs.Locals.{ask_local}
use Rattle.rust_tree.specs.declared.type_expr.TypeExpr.{TypeExpr}
use Rattle.wrapper_values.specs.Effect.{answer_of}
use Rattle.wrapper_run.specs.Run.{answer_and_leave, give_and_leave}
use Rattle.wrapper_data.specs.declared.answer.Answer.TheVariants as answer
use Rattle.wrapper_data.specs.declared.run.CallPoint.{CallPoint}
use Rattle.wrapper_data.specs.declared.run.Stop.{Stop}
use Rattle.wrapper_data.specs.declared.value.RustValue.{RustValue}
use Rattle.wrapper_data.specs.declared.value.RustValue.TheVariants as value
use Rattle.wrapper_data.specs.declared.word.Word.{Word}
use Rattle.wrapper_values.specs.declared.state.Halt.{Halt}
use Rattle.wrapper_values.specs.declared.state.State.{State}
use Rattle.wrapper_values.specs.declared.state.Val.{Val}
use Rattle.wrapper_values.specs.declared.state.Val.TheVariants as val
use Rattle.wrapper_values.specs.Act.{Act, Runs, Outcome, Done, Stopped, ◌>>=◌, ◌>>◌, all, and_then, or_stop, pure}
use Rattle.wrapper_values.specs.Effect.{cast_to, word_of_bool}
use Rattle.wrapper_values.specs.Locals.{lend_local, local_named, usable, use_local, used, value_of}
use Rattle.wit_model.specs.Bytes.{Bytes}
use Rattle.wrapper_values.specs.Owning.{owned}
use Rattle.wrapper_values.specs.Setting.{Setting, stuck}
use Rattle.wrapper_values.specs.Typed.{answer_in}
use Rattle.wrapper_run.proofs.QuietActs.{calls_at}
use Rattle.wrapper_run.proofs.TypedLemmas.{answered_in}
use Rattle.wrapper_run.specs.Blocks.{keep_locals, leave_to}
use Rattle.wrapper_run.specs.Run.{alone, call, call_callee, call_point, callee, answer_act, ended, eval, eval_step, record_call, take_answer}

-- an expression of a form runs as one level of it
pub eval-form : (w : Setting) (form : Expr-F Expr) {e : Expr} {act : Act Val} (s new : State) (r : Result Val Halt)
    → e ≡ roll-Expr form → eval_step w (map-Expr Expr (Act Val) (eval w) form) ≡ act → Runs (act s) r new → Runs (eval w e s) r new
eval-form w form s new r is level = subst (λ (act : Act Val). Runs (act s) r new) (sym (ap (eval w) is ∙ fold-roll-Expr (Act Val) (eval_step w) form ∙ level))

-- values

-- an area owns its block
plain-usable : (v : Val) → owned v ≡ [] → usable v ≡ Some v
plain-usable (val.Word x) o = refl
plain-usable (val.Value r) o = refl
plain-usable (val.Area address size) o = absurd (cc)

pub uses : (e : Stop) (name : Bytes) (v : Val) (s : State) → value_of (local_named name s.locals) ≡ Some v → owned v ≡ [] → use_local e name s ≡ Done v s
unfolding use_local
uses e name v s h o =
    ap (λ x. and_then (or_stop e (option_and_then usable x) s) (λ v. used name v (owned v))) h
    ∙ ap (λ x. and_then (or_stop e x s) (λ v. used name v (owned v))) (plain-usable v o) ∙ ap (λ x. used name v x s) o

-- expressions that give these values, one by one, and change nothing
abbrev pub Give : Setting → State → List Expr → List Val → Type 0
Give w s es vs = AllZip (λ e v. eval w e s ≡ Done v s) es vs

abbrev then_cons : Val → Outcome (List Val) → Outcome (List Val)
then_cons v (Done us t) = Done (v ∷ us) t
then_cons v (Stopped e t) = Stopped e t

all_cons : (a : Act Val) (more : List (Act Val)) (v : Val) (s : State) → a s ≡ Done v s → all (a ∷ more) s ≡ then_cons v (all more s)
all_cons a more v s h = ap (λ o. and_then o (λ x. all more >>= (λ xs. pure (x ∷ xs)))) h ∙ go (all more s)
  where
    go : (o : Outcome (List Val)) → and_then o (λ xs. pure (v ∷ xs)) ≡ then_cons v o
    go (Done us t) = refl
    go (Stopped e t) = refl

pub all_give : (w : Setting) (s : State) (es : List Expr) (vs : List Val) → Give w s es vs → all (map (eval w) es) s ≡ Done vs s
all_give w s [] [] h = refl
all_give w s [] (v ∷ vs) h = absurd h
all_give w s (e ∷ es) [] h = absurd h
all_give w s (e ∷ es) (v ∷ vs) h = all_cons (eval w e) (map (eval w) es) v s h.0 ∙ ap (then_cons v) (all_give w s es vs h.1)

-- one level of an expression
pub eval-call : (w : Setting) (path : Path) (es : List Expr) → eval w (expr.Call path es) ≡ (all (map (eval w) es) >>= (λ vs. call w path vs))
eval-call w path es = ap (eval w) (sym (rolls-Call path es)) ∙ fold-roll-Expr (Act Val) (eval_step w) (Expr-F.Call path es)

pub eval-cast : (w : Setting) (e : Expr) (to : CastType) → eval w (expr.Cast e to) ≡ (eval w e >>= (λ v. or_stop (stuck w) (cast_to to v)))
eval-cast w e to = ap (eval w) (sym (rolls-Cast e to)) ∙ fold-roll-Expr (Act Val) (eval_step w) (Expr-F.Cast e to)

pub eval-bool : (w : Setting) (e : Expr) → eval w (expr.I32FromBool e) ≡ (eval w e >>= (λ v. or_stop (stuck w) (option_map val.Word (word_of_bool v))))
eval-bool w e = ap (eval w) (sym (rolls-I32FromBool e)) ∙ fold-roll-Expr (Act Val) (eval_step w) (Expr-F.I32FromBool e)

pub eval-local : (w : Setting) (name : Bytes) → eval w (expr.Local name) ≡ use_local (stuck w) name
eval-local w name = search (rules, the_lemmas)

pub eval-ref : (w : Setting) (name : Bytes) → eval w (expr.Ref name) ≡ lend_local (stuck w) name
eval-ref w name = search (rules, the_lemmas)

pub call_gives : (w : Setting) (path : Path) (es : List Expr) (vs : List Val) (s : State) → Give w s es vs → eval w (expr.Call path es) s ≡ call w path vs s
call_gives w path es vs s h = ap (λ act. act s) (eval-call w path es) ∙ ap (λ o. and_then o (λ vs. call w path vs)) (all_give w s es vs h)

pub local_gives : (w : Setting) (name : Bytes) (v : Val) (s : State) → value_of (local_named name s.locals) ≡ Some v → owned v ≡ [] → eval w (expr.Local name) s ≡ Done v s
local_gives w name v s h o = ap (λ act. act s) (eval-local w name) ∙ uses (stuck w) name v s h o

-- what a method tells of a local

pub ask_gives : (e : Stop) (of : View) (name : Bytes) (v : Val) (x : Word) (s : State) → value_of (local_named name s.locals) ≡ Some v → view of v ≡ Some x → ask_local e of name s ≡ Done (val.Word x) s
unfolding ask_local
ask_gives e of name v x s h k = ap (λ o. or_stop e (option_map val.Word (option_and_then (view of) o)) s) h ∙ ap (λ o. or_stop e (option_map val.Word o) s) k

pub eval-as_ptr : (w : Setting) (name : Bytes) → eval w (expr.AsPtr name) ≡ ask_local (stuck w) view_of.TextAddress name
eval-as_ptr w name = search (rules, the_lemmas)

pub eval-len : (w : Setting) (name : Bytes) → eval w (expr.Len name) ≡ ask_local (stuck w) view_of.TextLength name
eval-len w name = search (rules, the_lemmas)

pub eval-cast_mut : (w : Setting) (name : Bytes) → eval w (expr.CastMut name) ≡ ask_local (stuck w) view_of.Pointer name
eval-cast_mut w name = search (rules, the_lemmas)

pub as_ptr_gives : (w : Setting) (name : Bytes) (p n : ℕ) (o : Bool) (s : State) → value_of (local_named name s.locals) ≡ Some (val.Value (value.Buffer p n o)) → eval w (expr.AsPtr name) s ≡ Done (val.Word (word.Pointer p)) s
as_ptr_gives w name p n o s h =
    ap (λ act. act s) (eval-as_ptr w name)
    ∙ ask_gives (stuck w) view_of.TextAddress name (val.Value (value.Buffer p n o)) (word.Pointer p) s h (ap (option_map (λ b. word.Pointer b.0)) (buffer-text p n o))

pub len_gives : (w : Setting) (name : Bytes) (p n : ℕ) (o : Bool) (s : State) → value_of (local_named name s.locals) ≡ Some (val.Value (value.Buffer p n o)) → eval w (expr.Len name) s ≡ Done (val.Word (word.Length n)) s
len_gives w name p n o s h =
    ap (λ act. act s) (eval-len w name)
    ∙ ask_gives (stuck w) view_of.TextLength name (val.Value (value.Buffer p n o)) (word.Length n) s h (ap (option_map (λ b. word.Length b.1)) (buffer-text p n o))

pub bool_gives : (w : Setting) (e : Expr) (v : Val) (x : Word) (s : State) → eval w e s ≡ Done v s → word_of_bool v ≡ Some x → eval w (expr.I32FromBool e) s ≡ Done (val.Word x) s
bool_gives w e v x s h k =
    ap (λ act. act s) (eval-bool w e)
    ∙ ap (λ o. and_then o (λ v. or_stop (stuck w) (option_map val.Word (word_of_bool v)))) h
    ∙ ap (λ o. or_stop (stuck w) (option_map val.Word o) s) k

-- a call of a core import is recorded and then answered
pub import_gives : (w : Setting) (path : Path) (name : Bytes) (vs : List Val) (s : State) (p : CallPoint) (ty : Option WasmType)
    → callee path ≡ alone name → call_point s name vs ≡ Some (p, ty) → call w path vs s ≡ take_answer w ty (record s { calls = s.calls ++ p ∷ [] })
import_gives w path name vs s p ty c h =
    ap (λ k. call_callee w k vs s) c ∙ ap (λ o. and_then (or_stop (stuck w) o s) (λ p. record_call p.0 >> take_answer w p.1)) h

pub no_answer_gives : (w : Setting) (s : State) → w.answer ≡ answer.Words None [] [] → take_answer w None s ≡ Done (val.Value value.Unit) s
unfolding take_answer
no_answer_gives w s h = ap (λ a. answer_act w None a s) h

-- what the ended run shows of an outcome
pub ended-calls : (o : Outcome (Option RustValue)) → (ended o).calls ≡ calls_at o
ended-calls (Done v s) = refl
ended-calls (Stopped e s) = refl

-- where no local owns anything, nothing is freed

pub gives_plain : {A : Type 0} (w : Setting) (o : Option A) (r : A) (s : State) → o ≡ Some r → ArePlain s.locals → give_and_leave w o s ≡ Done r (record s { locals = [] })
unfolding leave_to
gives_plain w o r s e p =
    ap (λ o. and_then (or_stop (stuck w) o s) (λ r. leave_to w 0 >> pure r)) e
    ∙ ap (λ o. and_then (and_then o (λ _. keep_locals [])) (λ _. pure r)) (drops_plain w s.locals (record s { locals = [] }) p)

pub answers_plain : (w : Setting) (ty : TypeExpr) (v : Val) (r : Option RustValue) (s : State) → answer_of ty v ≡ Some r → ArePlain s.locals → answer_and_leave w ty v s ≡ Done r (record s { locals = [] })
answers_plain w ty v r s e p = gives_plain w (answer_in w.items ty v) r s (answered_in w.items ty v r e) p
