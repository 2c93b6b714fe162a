-- Operands are used one after the other, and a new local may own blocks.
use Rattle.std.proofs.Common.{◌≡◌, ℕ, ◌+◌, ◌≤◌, Bool, true, false, cond, List, [], ◌∷◌, ◌++◌, length, map, None, Some, refl, sym, ap, ◌∙◌, subst, arith}
use Rattle.std.specs.Prelude.{option_and_then}
use Rattle.std.specs.List.{flat_map}
use Rattle.std.specs.Str.{bytes_eq}
use Rattle.std.proofs.lemmas.Slice.Eq.{bytes_eq-Decides}
use Rattle.wit_model.specs.Bytes.{Bytes}
use Rattle.rust_tree.specs.declared.expr.Expr.TheVariants as expr
use Rattle.rust_tree.specs.declared.item.Item.{Item}
use Rattle.wrapper_data.specs.declared.value.RustValue.{RustValue}
use Rattle.wrapper_meaning.specs.Items.{total}
use Rattle.wrapper_values.specs.declared.state.State.{State}
use Rattle.wrapper_values.specs.declared.state.Val.{Val}
use Rattle.wrapper_values.specs.declared.state.Val.TheVariants as val
use Rattle.wrapper_values.specs.Act as machine
use Rattle.wrapper_values.specs.Act.{Act, ◌>>=◌, all, and_then, pure}
use Rattle.wrapper_values.specs.Effect.{rust_of}
use Rattle.wrapper_values.specs.Locals.{usable, value_of}
use Rattle.wrapper_values.specs.Owning.{owned}
use Rattle.wrapper_values.specs.Setting.{Setting}
use Rattle.wrapper_run.specs.Run.{eval}
use Rattle.wrapper_run.proofs.LocalLemmas.{reads-new}
use Rattle.abi_bindgen.specs.Laws.{item_data, ofs}
use Rattle.abi_bindgen.specs.Meaning.{Datum, Fact, of}
use Rattle.func_gen.specs.declared.function_bindgen.FunctionBindgen.{FunctionBindgen}
use Rattle.func_gen.specs.declared.operand.ExprOperand.{ExprOperand}
use Rattle.func_gen.specs.Added.{Fresh}
use Rattle.func_gen.specs.FactLemmas.{Says, kept_reads, one_at_most, said, total_mono}
use Rattle.func_gen.specs.Facts.{Hold, matches, wrong}
use Rattle.func_gen.specs.Forms.{local_kept, operand_of}
use Rattle.func_gen.specs.Meaning.{account_of, func_meaning, owns_of}
use Rattle.func_gen.specs.Read.{Env, Read, Under, env_of, item_of, kept_value, less, read, read_operand}
use Rattle.func_gen.specs.ReadForms.{read-local}
use Rattle.func_gen.specs.Slot.{Slot}
use Rattle.func_gen.proofs.Lasting.{bound_under, lasts, under_less, with_local, within_with}
use Rattle.func_gen.proofs.Moving.{uses}
use Rattle.wrapper_meaning.proofs.PostReturn.{total-append}

-- 1. One after the other

-- these values of the machine are these for the Rust side
abbrev pub Are : List Val → List RustValue → Type 0
Are [] rs = rs ≡ []
Are (v ∷ vs) [] = ⊥
Are (v ∷ vs) (r ∷ rs) = (rust_of v ≡ Some r) × Are vs rs

-- and whole numbers are in their ranges
abbrev pub AreItems : List Val → List RustValue → Type 0
AreItems [] rs = rs ≡ []
AreItems (v ∷ vs) [] = ⊥
AreItems (v ∷ vs) (r ∷ rs) = (item_of v ≡ Some r) × AreItems vs rs

pub record UsedAll (w : Setting) (b : FunctionBindgen) (os : List ExprOperand) (rs : List RustValue) (others : List (Fact ExprOperand Slot RustValue)) (s : State) : Type 0 where
  pub given : List Val
  pub then : State
  pub evaluated : all (map (λ (o : ExprOperand). eval w o.expr) os) s ≡ machine.Done given then
  pub is : Are given rs
  pub items : AreItems given rs
  pub account : account_of then ≡ account_of s
  pub place : then.place ≡ s.place
  -- what the values own, the locals own no more
  pub owns : (f : ℕ → ℕ) → total f (owns_of then) + total f (flat_map owned given) ≡ total f (owns_of s)
  pub holds : Hold w.items b others then
  pub areas : (k : Bytes) (address size : ℕ) → env_of s k ≡ Some (val.Area address size) → env_of then k ≡ Some (val.Area address size)

pub one_more : (a : Act Val) (more : List (Act Val)) (v : Val) (vs : List Val) (s t u : State) → a s ≡ machine.Done v t → all more t ≡ machine.Done vs u → all (a ∷ more) s ≡ machine.Done (v ∷ vs) u
one_more a more v vs s t u h k = ap (λ o. and_then o (λ x. all more >>= (λ xs. pure (x ∷ xs)))) h ∙ ap (λ o. and_then o (λ xs. pure (v ∷ xs))) k

pub uses_all : (w : Setting) (b : FunctionBindgen) (os : List ExprOperand) (rs : List RustValue) (others : List (Fact ExprOperand Slot RustValue)) (s : State) → length os ≡ length rs → Hold w.items b (ofs func_meaning os (item_data func_meaning rs) ++ others) s → UsedAll w b os rs others s
uses_all w b [] [] others s len h = record { given = []; then = s; evaluated = refl; is = refl; items = refl; account = refl; place = refl; owns = λ f. omega arith; holds = h; areas = λ k a n is. is }
uses_all w b [] (r ∷ rs) others s len h = absurd (omega (arith, len))
uses_all w b (o ∷ os) [] others s len h = absurd (omega (arith, len))
uses_all w b (o ∷ os) (r ∷ rs) others s len h =
    let one = uses w b o r (ofs func_meaning os (item_data func_meaning rs) ++ others) s h in
    let later = uses_all w b os rs others one.then (omega (arith, len)) one.holds in
    record {
      given = one.given ∷ later.given;
      then = later.then;
      evaluated = one_more (eval w o.expr) (map (λ (o : ExprOperand). eval w o.expr) os) one.given later.given s one.then later.then one.evaluated later.evaluated;
      is = (one.is, later.is);
      items = (one.item, later.items);
      account = later.account ∙ one.account;
      place = later.place ∙ one.place;
      owns = λ f. omega (arith, one.owns f, later.owns f, total-append f (owned one.given) (flat_map owned later.given));
      holds = later.holds;
      areas = λ k a n is. later.areas k a n (one.areas k a n is);
    }

-- 2. A new local, which may own blocks

pub add_kept : (items : List Item) (old new : FunctionBindgen) (facts : List (Fact ExprOperand Slot RustValue)) (s : State) (kept : Bool) (n : Bytes) (v : Val) (d : Datum RustValue) → new.params ≡ old.params → Fresh old new n → Says d (kept_value kept (option_and_then usable (Some v)))
    → Hold items old facts s → Hold items new (of (local_kept kept n) d ∷ facts) (with_local s n v)
add_kept items old new facts s kept n v d params fresh is h =
    let t = with_local s n v in
    let free = h.within n fresh.free in
    let under = bound_under s n v free in
    let last = lasts items old new facts s t params under (within_with old new n s v fresh h.within) h in
    let at : env_of t n ≡ Some v = reads-new n (Some v) s.locals in
    record {
      right = omega (arith, last.right, said items new.params (env_of t) f (says (env_of t) at));
      apart = λ k owns. each k (last.apart k owns) (bytes_eq n k) refl at (under_less items (env_of s) (env_of t) n (ap value_of free) under);
      within = last.within;
    }
  where
    f : Fact ExprOperand Slot RustValue
    f = of (local_kept kept n) d

    says : (env : Env) → env n ≡ Some v → Says d ((read_operand items (local_kept kept n)).at env)
    says env e = subst (Says d) (sym (kept_reads kept (read items (expr.Local n)) env ∙ ap (kept_value kept) (ap (λ (q : Read). q.at env) (read-local items n) ∙ ap (option_and_then usable) e))) is

    each : (k : Bytes) → total (wrong items new.params (less (env_of (with_local s n v)) k)) facts ≤ 1 → (c : Bool) → bytes_eq n k ≡ c → env_of (with_local s n v) n ≡ Some v → Under (env_of s) (less (env_of (with_local s n v)) n)
        → total (wrong items new.params (less (env_of (with_local s n v)) k)) (of (local_kept kept n) d ∷ facts) ≤ 1
    each k few true e at under =
        let same : n ≡ k = (bytes_eq-Decides n k).0 e in
        let ps = ap (λ q. total (wrong items q (less (env_of (with_local s n v)) n)) facts) params in
        let z = total_mono items old.params (env_of s) (less (env_of (with_local s n v)) n) under facts in
        let y = ap (λ q. total (wrong items new.params (less (env_of (with_local s n v)) q)) facts) same in
        let x = one_at_most (matches d ((read_operand items (local_kept kept n)).at (less (env_of (with_local s n v)) k))) in
        omega (arith, ps, z, y, x, h.right)
    each k few false e at under =
        let here : less (env_of (with_local s n v)) k n ≡ Some v = ap (λ c. cond c None (env_of (with_local s n v) n)) e ∙ at in
        omega (arith, few, said items new.params (less (env_of (with_local s n v)) k) (of (local_kept kept n) d) (says (less (env_of (with_local s n v)) k) here))

pub add_local : (items : List Item) (old new : FunctionBindgen) (facts : List (Fact ExprOperand Slot RustValue)) (s : State) (n : Bytes) (v : Val) (d : Datum RustValue) → new.params ≡ old.params → Fresh old new n → Says d (option_and_then usable (Some v))
    → Hold items old facts s → Hold items new (of (operand_of (expr.Local n)) d ∷ facts) (with_local s n v)
add_local items old new facts s n v d params fresh is h = add_kept items old new facts s false n v d params fresh is h
