-- A buffer in a local, and locals of its address and its length.
use Rattle.std.proofs.Common.{◌≡◌, ℕ, ◌+◌, Bool, true, false, List, [], ◌∷◌, ◌++◌, None, Some, refl, sym, ap, ◌∙◌, arith}
use Rattle.std.specs.Prelude.{option_and_then}
use Rattle.std.specs.Str.{bytes_eq}
use Rattle.wit_model.specs.declared.types.WitType.TheVariants as wit
use Rattle.wit_model.specs.Bytes.{Bytes}
use Rattle.rust_tree.specs.declared.expr.Expr.{Expr}
use Rattle.rust_tree.specs.declared.expr.Expr.TheVariants as expr
use Rattle.rust_tree.specs.declared.stmt.Stmt.{Stmt}
use Rattle.rust_tree.specs.declared.stmt.Stmt.TheVariants as stmt
use Rattle.rust_tree.specs.declared.item.Item.{Item}
use Rattle.wrapper_data.specs.declared.value.RustValue.{RustValue, RustValue-F, fold-RustValue, fold-roll-RustValue}
use Rattle.wrapper_data.specs.declared.value.RustValue.TheVariants as value
use Rattle.wrapper_data.specs.declared.value.RustValue.TheVariants.{rolls-Buffer}
use Rattle.wrapper_data.specs.declared.word.Word.TheVariants as core
use Rattle.wrapper_meaning.specs.Direction.{take}
use Rattle.wrapper_meaning.specs.Items.{total}
use Rattle.wrapper_values.specs.declared.state.State.{State}
use Rattle.wrapper_values.specs.declared.state.Val.{Val}
use Rattle.wrapper_values.specs.declared.state.Val.TheVariants as val
use Rattle.wrapper_values.specs.Act as machine
use Rattle.wrapper_values.specs.Effect.{rust_of}
use Rattle.wrapper_values.specs.Locals.{usable}
use Rattle.wrapper_values.specs.Owning.{buffer_of, owned}
use Rattle.wrapper_values.specs.Setting.{Setting}
use Rattle.wrapper_run.specs.Run.{eval, run_stmts}
use Rattle.wrapper_run.specs.Inward.{is_inward_expr}
use Rattle.wrapper_run.proofs.GiveSteps.{let_runs}
use Rattle.wrapper_run.proofs.LocalLemmas.{reads-new, reads-past}
use Rattle.wrapper_run.proofs.OwningLemmas.{buffer-text, no_buffer-f32, no_buffer-f64, no_buffer-number}
use Rattle.wrapper_run.proofs.StepLemmas.{as_ptr_gives, len_gives}
use Rattle.abi_bindgen.specs.Meaning.{Fact, item, of, word}
use Rattle.func_gen.specs.declared.function_bindgen.FunctionBindgen.{FunctionBindgen}
use Rattle.func_gen.specs.declared.operand.ExprOperand.{ExprOperand}
use Rattle.func_gen.specs.Facts.{Hold}
use Rattle.func_gen.specs.Forms.{operand_of}
use Rattle.func_gen.specs.InwardCode.{are_inward_stmts}
use Rattle.func_gen.specs.Meaning.{account_of, owns_of, passing_level}
use Rattle.func_gen.specs.Read.{Read, Under, as_pointer, env_of}
use Rattle.func_gen.specs.ReadForms.{read-cast_mut, read-local}
use Rattle.func_gen.specs.TextForms.{buffer_stmts, len_name, ptr_name, vec_name}
use Rattle.func_gen.specs.Slot.{Slot}
use Rattle.func_gen.proofs.Declared.{Three, fresh_name, keeps, with_name, with_three, with_two}
use Rattle.func_gen.proofs.InwardForms.{address_inward, inward_both, length_inward, let_inward}
use Rattle.func_gen.proofs.Lasting.{add_plain, bound_under, owns_with, with_local}
use Rattle.func_gen.proofs.Moving.{uses}
use Rattle.func_gen.proofs.Several.{add_local}

-- 1. What is a buffer for the Rust side is one

pub buffer_is : (v : Val) (p n : ℕ) (o : Bool) → rust_of v ≡ Some (value.Buffer p n o) → v ≡ val.Value (value.Buffer p n o)
buffer_is (val.Value r) p n o h = let e : r ≡ value.Buffer p n o = cc in ap val.Value e
buffer_is (val.Area a k) p n o h = absurd cc
buffer_is (val.Word (core.I32 x)) p n o h = absurd (let e : value.Num wit.S32 x ≡ value.Buffer p n o = cc in let k : None ≡ Some (p, n, o) = sym (no_buffer-number wit.S32 x) ∙ ap (λ r. buffer_of (val.Value r)) e ∙ buffer-text p n o in cc)
buffer_is (val.Word (core.I64 x)) p n o h = absurd (let e : value.Num wit.S64 x ≡ value.Buffer p n o = cc in let k : None ≡ Some (p, n, o) = sym (no_buffer-number wit.S64 x) ∙ ap (λ r. buffer_of (val.Value r)) e ∙ buffer-text p n o in cc)
buffer_is (val.Word (core.F32 x)) p n o h = absurd (let e : value.F32 x ≡ value.Buffer p n o = cc in let k : None ≡ Some (p, n, o) = sym (no_buffer-f32 x) ∙ ap (λ r. buffer_of (val.Value r)) e ∙ buffer-text p n o in cc)
buffer_is (val.Word (core.F64 x)) p n o h = absurd (let e : value.F64 x ≡ value.Buffer p n o = cc in let k : None ≡ Some (p, n, o) = sym (no_buffer-f64 x) ∙ ap (λ r. buffer_of (val.Value r)) e ∙ buffer-text p n o in cc)
buffer_is (val.Word (core.Pointer x)) p n o h = absurd cc
buffer_is (val.Word (core.Length x)) p n o h = absurd cc
buffer_is (val.Word (core.Slot x)) p n o h = absurd cc

abbrev pub buffer_val : ℕ → ℕ → Bool → Val
buffer_val p n o = val.Value (value.Buffer p n o)

-- the use of an operand that denotes a buffer
pub record UsedBuffer (w : Setting) (b : FunctionBindgen) (e : Expr) (p n : ℕ) (o : Bool) (others : List (Fact ExprOperand Slot RustValue)) (s : State) : Type 0 where
  pub then : State
  pub evaluated : eval w e s ≡ machine.Done (buffer_val p n o) then
  pub account : account_of then ≡ account_of s
  pub place : then.place ≡ s.place
  pub owns : (f : ℕ → ℕ) → total f (owns_of then) + total f (owned (buffer_val p n o)) ≡ total f (owns_of s)
  pub holds : Hold w.items b others then
  pub areas : (k : Bytes) (address size : ℕ) → env_of s k ≡ Some (val.Area address size) → env_of then k ≡ Some (val.Area address size)

pub uses_buffer : (w : Setting) (b : FunctionBindgen) (e : Expr) (p n : ℕ) (o : Bool) (others : List (Fact ExprOperand Slot RustValue)) (s : State) → Hold w.items b (of (operand_of e) (item (value.Buffer p n o)) ∷ others) s → UsedBuffer w b e p n o others s
uses_buffer w b e p n o others s h =
    let u = uses w b (operand_of e) (value.Buffer p n o) others s h in
    let same = buffer_is u.given p n o u.is in
    record {
      then = u.then;
      evaluated = u.evaluated ∙ ap (λ v. machine.Done v u.then) same;
      account = u.account;
      place = u.place;
      owns = λ f. let z = ap (λ v. total f (owned v)) same in omega (arith, z, u.owns f);
      holds = u.holds;
      areas = u.areas;
    }

-- an owner's buffers are its own
pub normal_buffer : (p n : ℕ) (o : Bool) → fold-RustValue RustValue (passing_level take) (value.Buffer p n o) ≡ value.Buffer p n true
normal_buffer p n o = ap (fold-RustValue RustValue (passing_level take)) (sym (rolls-Buffer p n o)) ∙ fold-roll-RustValue RustValue (passing_level take) (RustValue-F.Buffer p n o)

-- 2. Its address and its length

pub vec_ptr : (t : ℕ) → bytes_eq (vec_name t) (ptr_name t) ≡ false
vec_ptr t = refl

pub vec_len : (t : ℕ) → bytes_eq (vec_name t) (len_name t) ≡ false
vec_len t = refl

pub ptr_len : (t : ℕ) → bytes_eq (ptr_name t) (len_name t) ≡ false
ptr_len t = refl

ptr_vec : (t : ℕ) → bytes_eq (ptr_name t) (vec_name t) ≡ false
ptr_vec t = refl

len_ptr : (t : ℕ) → bytes_eq (len_name t) (ptr_name t) ≡ false
len_ptr t = refl

-- the state behind the statements of a buffer
abbrev pub with_buffer : State → ℕ → ℕ → ℕ → Bool → State
with_buffer s t p n o = with_local (with_local (with_local s (vec_name t) (buffer_val p n o)) (ptr_name t) (val.Word (core.Pointer p))) (len_name t) (val.Word (core.Length n))

pub buffer_runs : (w : Setting) (t : ℕ) (e : Expr) (p n : ℕ) (o : Bool) (more : List Stmt) (s u : State) → eval w e s ≡ machine.Done (buffer_val p n o) u → run_stmts w (buffer_stmts t e ++ more) s ≡ run_stmts w more (with_buffer u t p n o)
buffer_runs w t e p n o more s u h =
    let v : Val = buffer_val p n o in
    let pv : Val = val.Word (core.Pointer p) in
    let s1 = with_local u (vec_name t) v in
    let s2 = with_local s1 (ptr_name t) pv in
    let_runs w (vec_name t) e (stmt.Let (ptr_name t) (expr.AsPtr (vec_name t)) ∷ stmt.Let (len_name t) (expr.Len (vec_name t)) ∷ more) v s u h
    ∙ let_runs w (ptr_name t) (expr.AsPtr (vec_name t)) (stmt.Let (len_name t) (expr.Len (vec_name t)) ∷ more) pv s1 s1 (as_ptr_gives w (vec_name t) p n o s1 (reads-new (vec_name t) (Some v) u.locals))
    ∙ let_runs w (len_name t) (expr.Len (vec_name t)) more (val.Word (core.Length n)) s2 s2
    (len_gives w (vec_name t) p n o s2 (reads-past s1.locals (record { name = ptr_name t; value = Some pv }) (vec_name t) (Some v) (ptr_vec t) (reads-new (vec_name t) (Some v) u.locals)))

pub owns_buffer : (f : ℕ → ℕ) (s : State) (t p n : ℕ) (o : Bool) → total f (owns_of (with_buffer s t p n o)) ≡ total f (owns_of s) + total f (owned (buffer_val p n o))
owns_buffer f s t p n o =
    let s1 = with_local s (vec_name t) (buffer_val p n o) in
    let s2 = with_local s1 (ptr_name t) (val.Word (core.Pointer p)) in
    omega (arith, owns_with f s (vec_name t) (buffer_val p n o), owns_with f s1 (ptr_name t) (val.Word (core.Pointer p)), owns_with f s2 (len_name t) (val.Word (core.Length n)))

pub buffer_inward : (t : ℕ) (e : Expr) → is_inward_expr e ≡ true → are_inward_stmts (buffer_stmts t e) ≡ true
buffer_inward t e h =
    let address = stmt.Let (ptr_name t) (expr.AsPtr (vec_name t)) in
    let length = stmt.Let (len_name t) (expr.Len (vec_name t)) in
    inward_both (stmt.Let (vec_name t) e ∷ []) (address ∷ length ∷ []) (let_inward e h (vec_name t))
    (inward_both (address ∷ []) (length ∷ []) (let_inward (expr.AsPtr (vec_name t)) (address_inward (vec_name t)) (ptr_name t)) (let_inward (expr.Len (vec_name t)) (length_inward (vec_name t)) (len_name t)))

abbrev pub buffer_facts : ℕ → ℕ → ℕ → List (Fact ExprOperand Slot RustValue)
buffer_facts t p n = of (operand_of (expr.CastMut (ptr_name t))) (word (core.Pointer p)) ∷ of (operand_of (expr.Local (len_name t))) (word (core.Length n)) ∷ []

module _ (items : List Item) (old : FunctionBindgen) (t : ℕ) (free : Three old (vec_name t) (ptr_name t) (len_name t)) (p n : ℕ) (o : Bool) (facts : List (Fact ExprOperand Slot RustValue)) (s : State) (h : Hold items old facts s) where
  abbrev pub vec_fact : Fact ExprOperand Slot RustValue
  vec_fact = of (operand_of (expr.Local (vec_name t))) (item (value.Buffer p n o))

  abbrev pub state1 : State
  state1 = with_local s (vec_name t) (buffer_val p n o)

  abbrev pub state2 : State
  state2 = with_local state1 (ptr_name t) (val.Word (core.Pointer p))

  hold1 : Hold items (with_name old (vec_name t)) (vec_fact ∷ facts) state1
  hold1 = add_local items old (with_name old (vec_name t)) facts s (vec_name t) (buffer_val p n o) (item (value.Buffer p n o)) refl (fresh_name old (vec_name t) free.first) refl h

  hold2 : Hold items (with_two old (vec_name t) (ptr_name t)) (vec_fact ∷ facts) state2
  hold2 = keeps items (with_name old (vec_name t)) (ptr_name t) (val.Word (core.Pointer p)) (vec_fact ∷ facts) state1 free.second hold1

  pub buffer_under : Under (env_of s) (env_of (with_buffer s t p n o))
  buffer_under k x e =
      bound_under state2 (len_name t) (val.Word (core.Length n)) (hold2.within (len_name t) free.third) k x
      (bound_under state1 (ptr_name t) (val.Word (core.Pointer p)) (hold1.within (ptr_name t) free.second) k x (bound_under s (vec_name t) (buffer_val p n o) (h.within (vec_name t) free.first) k x e))

  -- its address and its length are read by their names, and it is there itself
  pub buffer_holds : Hold items (with_three old (vec_name t) (ptr_name t) (len_name t)) (buffer_facts t p n ++ (vec_fact ∷ facts)) (with_buffer s t p n o)
  buffer_holds =
      let pv : Val = val.Word (core.Pointer p) in
      let lv : Val = val.Word (core.Length n) in
      let b = with_three old (vec_name t) (ptr_name t) (len_name t) in
      let s3 = with_buffer s t p n o in
      let len_fact : Fact ExprOperand Slot RustValue = of (operand_of (expr.Local (len_name t))) (word (core.Length n)) in
      let hold3 = keeps items (with_two old (vec_name t) (ptr_name t)) (len_name t) lv (vec_fact ∷ facts) state2 free.third hold2 in
      let one = add_plain items b (vec_fact ∷ facts) s3 (operand_of (expr.Local (len_name t))) (word (core.Length n)) (len_name t) lv
      (λ env at. ap (λ (r : Read). r.at env) (read-local items (len_name t)) ∙ ap (option_and_then usable) at) (reads-new (len_name t) (Some lv) state2.locals) refl hold3 in
      add_plain items b (len_fact ∷ vec_fact ∷ facts) s3 (operand_of (expr.CastMut (ptr_name t))) (word (core.Pointer p)) (ptr_name t) pv
      (λ env at. ap (λ (r : Read). r.at env) (read-cast_mut items (ptr_name t)) ∙ ap (option_and_then as_pointer) at)
      (reads-past state2.locals (record { name = len_name t; value = Some lv }) (ptr_name t) (Some pv) (len_ptr t) (reads-new (ptr_name t) (Some pv) state1.locals)) refl one
