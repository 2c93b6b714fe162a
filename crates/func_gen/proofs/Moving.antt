-- An operand is used: a value that owns a block is moved out of its local, and all other facts last.
use Rattle.std.proofs.Common.{◌≡◌, ℕ, ℤ, ◌+◌, ◌≤◌, Bool, true, false, cond, List, [], ◌∷◌, map, Option, None, Some, refl, sym, ap, ◌∙◌, subst, arith}
use Rattle.std.specs.Prelude.{option_and_then, pos}
use Rattle.std.specs.Option.{option_map, option_or}
use Rattle.std.specs.Str.{bytes_eq}
use Rattle.std.proofs.lemmas.Slice.Eq.{bytes_eq-Decides}
use Rattle.wit_model.specs.Bytes.{Bytes}
use Rattle.wit_layout.specs.Tree.{Scalar}
use Rattle.rust_tree.specs.declared.expr.CastType.{CastType}
use Rattle.rust_tree.specs.declared.expr.CastType.TheVariants as cast
use Rattle.rust_tree.specs.declared.expr.Expr.{Expr, Expr-F, fold-roll-Expr, ind-Expr, map-Expr, roll-Expr}
use Rattle.rust_tree.specs.declared.expr.Expr.TheVariants as expr
use Rattle.rust_tree.specs.declared.expr.Expr.TheVariants.{rolls-Call, rolls-Cast, rolls-CastMut, rolls-EnumNumber, rolls-FlagsBits, rolls-I32Const, rolls-Local, rolls-Method, rolls-Ref, rolls-Zero}
use Rattle.rust_tree.specs.declared.expr.Method.{Method}
use Rattle.rust_tree.specs.declared.expr.Method.TheVariants as method_of
use Rattle.rust_tree.specs.declared.expr.ZeroType.{ZeroType}
use Rattle.rust_tree.specs.declared.item.Item.{Item}
use Rattle.rust_tree.specs.declared.path.Path.{Path}
use Rattle.rust_tree.specs.declared.runtime_item.RuntimeItem.{RuntimeItem}
use Rattle.wrapper_data.specs.declared.value.RustValue.{RustValue}
use Rattle.wrapper_data.specs.declared.word.Word.{Word}
use Rattle.wrapper_data.specs.declared.word.Word.TheVariants as word
use Rattle.wrapper_meaning.specs.Items.{total}
use Rattle.wrapper_values.specs.declared.state.State.{State}
use Rattle.wrapper_values.specs.declared.state.Val.{Val}
use Rattle.wrapper_values.specs.declared.state.Val.TheVariants as val
use Rattle.wrapper_values.specs.Act as machine
use Rattle.wrapper_values.specs.Act.{and_then, or_stop}
use Rattle.wrapper_values.specs.CoreWords.{called_on, core_word, slot_bits, slot_pointer, u32_value, u64_value, zero_word}
use Rattle.wrapper_values.specs.Effect.{cast_integer, cast_to, converted, f32_of, f64_of, integer_of, rust_of}
use Rattle.wrapper_values.specs.Enums.{word_of_case}
use Rattle.wrapper_values.specs.Flags.{bits_of_flags, word_at}
use Rattle.wrapper_values.specs.Locals.{local_named, moved, usable, use_local, used, value_of}
use Rattle.wrapper_values.specs.Owning.{owned, pointer_of}
use Rattle.wrapper_values.specs.Setting.{Setting, stuck}
use Rattle.wrapper_run.specs.Run.{Callee, alone, callee, core_case, core_forget, core_function, eval, member_of, of_runtime, runtime_item_named, unknown}
use Rattle.wrapper_run.proofs.LocalLemmas.{bytes_eq-same}
use Rattle.wrapper_run.proofs.StepLemmas.{eval-local}
use Rattle.abi_bindgen.specs.Meaning.{Fact, item, of}
use Rattle.func_gen.specs.declared.function_bindgen.FunctionBindgen.{FunctionBindgen}
use Rattle.func_gen.specs.declared.function_bindgen.ParamSite.{ParamSite}
use Rattle.func_gen.specs.declared.operand.ExprOperand.{ExprOperand}
use Rattle.func_gen.specs.FactLemmas.{is_said, item_read, item_rust, kept_item, less_under, matches_says, operand_reads, total_meet, total_mono}
use Rattle.func_gen.specs.Facts.{Hold, Owns, matches, wrong}
use Rattle.func_gen.specs.Forms.{local_kept}
use Rattle.func_gen.specs.Meaning.{account_of, owns_of}
use Rattle.func_gen.specs.Read.{Env, Read, Under, as_case_word, as_flags_word, as_pointer, conversion, converts, env_of, item_of, kept_value, less, nothing, read, read_operand, read_step}
use Rattle.func_gen.specs.ReadForms.{at_read, bare_value, read-call, read-cast, read-cast_mut, read-enum_number, read-flags_bits, read-i32_const, read-local, read-method, read-ref, read-zero, ref_bare, usable_is}
use Rattle.func_gen.specs.Scope.{is_used}
use Rattle.func_gen.specs.StandLemmas.{scalar_owns}
use Rattle.func_gen.specs.Slot.{Slot}
use Rattle.func_gen.proofs.Evaluated.{gives}
use Rattle.func_gen.proofs.Lasting.{part}
use Rattle.func_gen.proofs.Moves.{less_stays, other_named, owns_without, without}

-- 1. Only a local by itself gives a value that owns a block

pub cast_owns : (to : CastType) (z : ℤ) → owned (cast_integer to z) ≡ []
cast_owns cast.U8 z = scalar_owns Scalar.u8 _
cast_owns cast.I8 z = scalar_owns Scalar.s8 _
cast_owns cast.U16 z = scalar_owns Scalar.u16 _
cast_owns cast.I16 z = scalar_owns Scalar.s16 _
cast_owns cast.U32 z = scalar_owns Scalar.u32 _
cast_owns cast.U64 z = scalar_owns Scalar.u64 _
cast_owns cast.I32 z = refl
cast_owns cast.I64 z = refl
cast_owns cast.Usize z = refl
cast_owns cast.Pointer z = refl

word_owns : (o : Option Word) (v : Val) → option_map val.Word o ≡ Some v → owned v ≡ []
word_owns None v h = absurd cc
word_owns (Some x) v h = let e : val.Word x ≡ v = cc in ap owned (sym e)

-- nor does what a method gives
called_owns : (method : Method) (x v : Val) → called_on method x ≡ Some v → owned v ≡ []
unfolding called_on
called_owns method_of.ToBits x v h = go (f32_of x) (f64_of x) h
  where
    go : (o p : Option ℕ) → option_or (option_map u32_value o) (option_map u64_value p) ≡ Some v → owned v ≡ []
    go (Some n) p k = let e : u32_value n ≡ v = cc in ap owned (sym e) ∙ scalar_owns Scalar.u32 (pos n)
    go None (Some n) k = let e : u64_value n ≡ v = cc in ap owned (sym e) ∙ scalar_owns Scalar.u64 (pos n)
    go None None k = absurd cc
called_owns method_of.AssumeInit x v h = go (slot_bits x) h
  where
    go : (o : Option ℕ) → option_map u64_value o ≡ Some v → owned v ≡ []
    go (Some n) k = let e : u64_value n ≡ v = cc in ap owned (sym e) ∙ scalar_owns Scalar.u64 (pos n)
    go None k = absurd cc
called_owns method_of.ReadPointer x v h = go (slot_bits x) h
  where
    go : (o : Option ℕ) → option_map slot_pointer o ≡ Some v → owned v ≡ []
    go (Some n) k = let e : slot_pointer n ≡ v = cc in ap owned (sym e)
    go None k = absurd cc

module _ (items : List Item) where
  abbrev pub Owner : Expr → Type 0
  Owner e = (env : Env) (v : Val) → (read items e).at env ≡ Some v → (owned v ≡ [] → ⊥) → (n : Bytes) × (e ≡ expr.Local n)

  owner-ref : (name : Bytes) → Owner (expr.Ref name)
  owner-ref name env v h owns = absurd (owns (ref_bare (env name) v (at_read items _ _ env v (read-ref items name) h)))

  owner-cast : (e : Expr) (to : CastType) → Owner (expr.Cast e to)
  unfolding cast_to
  owner-cast e to env v h owns =
      let x = bare_value (cast_to to) ((read items e).at env) v (at_read items _ _ env v (read-cast items e to) h) in
      absurd (owns (go (integer_of x.0) x.3))
    where
      go : (o : Option ℤ) → option_map (cast_integer to) o ≡ Some v → owned v ≡ []
      go None k = absurd cc
      go (Some z) k = let e : cast_integer to z ≡ v = cc in ap owned (sym e) ∙ cast_owns to z

  owner-enum_number : (e : Expr) → Owner (expr.EnumNumber e)
  owner-enum_number e env v h owns =
      let x = bare_value as_case_word ((read items e).at env) v (at_read items _ _ env v (read-enum_number items e) h) in
      absurd (owns (word_owns (word_of_case x.0) v x.3))

  owner-flags_bits : (name : Bytes) (by : ℕ) → Owner (expr.FlagsBits name by)
  owner-flags_bits name by env v h owns =
      let x = bare_value (as_flags_word by) (env name) v (at_read items _ _ env v (read-flags_bits items name by) h) in
      absurd (owns (go (bits_of_flags x.0) x.3))
    where
      go : (o : Option ℕ) → option_map (λ bits. val.Word (word_at by bits)) o ≡ Some v → owned v ≡ []
      go None k = absurd cc
      go (Some bits) k = word_owns (Some (word_at by bits)) v k

  owner-call : (path : Path) (e : Expr) → Owner (expr.Call path (e ∷ []))
  owner-call path e env v h owns =
      let x = bare_value (conversion items (callee path)) ((read items e).at env) v (at_read items _ _ env v (read-call items path (e ∷ [])) h) in
      absurd (owns (go (callee path) x.0 x.3))
    where
      item_owns : (o : Option RuntimeItem) (x : Val) → converts o x ≡ Some v → owned v ≡ []
      item_owns None x k = absurd cc
      item_owns (Some i) x k = word_owns (converted i x) v k

      go : (c : Callee) (x : Val) → conversion items c x ≡ Some v → owned v ≡ []
      go (of_runtime name) x k = item_owns (runtime_item_named items name) x k
      go (alone name) x k = absurd cc
      go (member_of ty name) x k = absurd cc
      go (core_case number) x k = absurd cc
      go (core_function f) x k = word_owns (core_word f x) v k
      go core_forget x k = absurd cc
      go unknown x k = absurd cc

  owner-cast_mut : (name : Bytes) → Owner (expr.CastMut name)
  owner-cast_mut name env v h owns = absurd (owns (go (env name) (at_read items _ _ env v (read-cast_mut items name) h)))
    where
      go : (o : Option Val) → option_and_then as_pointer o ≡ Some v → owned v ≡ []
      go None k = absurd cc
      go (Some x) k = word_owns (pointer_of x) v k

  owner-method : (e : Expr) (method : Method) → Owner (expr.Method e method)
  owner-method e method env v h owns =
      let x = bare_value (called_on method) ((read items e).at env) v (at_read items _ _ env v (read-method items e method) h) in
      absurd (owns (called_owns method x.0 v x.3))

  owner-i32_const : (n : ℤ) → Owner (expr.I32Const n)
  owner-i32_const n env v h owns = absurd (owns (word_owns (Some (word.I32 n)) v (at_read items _ _ env v (read-i32_const items n) h)))

  owner-zero : (ty : ZeroType) → Owner (expr.Zero ty)
  owner-zero ty env v h owns = absurd (owns (word_owns (Some (zero_word ty)) v (at_read items _ _ env v (read-zero items ty) h)))

  nothing_owned : (l : Expr-F Expr) → read_step items (map-Expr Expr Read (read items) l) ≡ nothing → Owner (roll-Expr l)
  nothing_owned l none env v h owns =
      let e : nothing.at env ≡ Some v = at_read items _ _ env v (fold-roll-Expr Read (read_step items) l ∙ none) h in
      absurd (let k : (let n : Option Val = None in n ≡ Some v) = e in cc)

  step : {X : Type 0} (fst : X → Expr) (l : Expr-F Expr) (y : Expr-F X) → map-Expr X Expr fst y ≡ l → Owner (roll-Expr l)
  step fst l (Expr-F.Local name) is = subst (λ z. Owner (roll-Expr z)) is (subst Owner (sym (rolls-Local name)) (λ env v h owns. (name, refl)))
  step fst l (Expr-F.Ref name) is = subst (λ z. Owner (roll-Expr z)) is (subst Owner (sym (rolls-Ref name)) (owner-ref name))
  step fst l (Expr-F.CastMut name) is = subst (λ z. Owner (roll-Expr z)) is (subst Owner (sym (rolls-CastMut name)) (owner-cast_mut name))
  step fst l (Expr-F.FlagsBits name by) is = subst (λ z. Owner (roll-Expr z)) is (subst Owner (sym (rolls-FlagsBits name by)) (owner-flags_bits name by))
  step fst l (Expr-F.EnumNumber x) is = subst (λ z. Owner (roll-Expr z)) is (subst Owner (sym (rolls-EnumNumber (fst x))) (owner-enum_number (fst x)))
  step fst l (Expr-F.Cast x to) is = subst (λ z. Owner (roll-Expr z)) is (subst Owner (sym (rolls-Cast (fst x) to)) (owner-cast (fst x) to))
  step fst l (Expr-F.I32Const n) is = subst (λ z. Owner (roll-Expr z)) is (subst Owner (sym (rolls-I32Const n)) (owner-i32_const n))
  step fst l (Expr-F.Zero ty) is = subst (λ z. Owner (roll-Expr z)) is (subst Owner (sym (rolls-Zero ty)) (owner-zero ty))
  step fst l (Expr-F.Method x method) is = subst (λ z. Owner (roll-Expr z)) is (subst Owner (sym (rolls-Method (fst x) method)) (owner-method (fst x) method))
  step fst l (Expr-F.Call path []) is = subst (λ z. Owner (roll-Expr z)) is (nothing_owned (Expr-F.Call path []) refl)
  step fst l (Expr-F.Call path (x ∷ [])) is = subst (λ z. Owner (roll-Expr z)) is (subst Owner (sym (rolls-Call path (fst x ∷ []))) (owner-call path (fst x)))
  step fst l (Expr-F.Call path (x ∷ x2 ∷ xs)) is = subst (λ z. Owner (roll-Expr z)) is (nothing_owned (Expr-F.Call path (fst x ∷ fst x2 ∷ map fst xs)) refl)
  step {X} fst l y is = subst (λ z. Owner (roll-Expr z)) is (nothing_owned (map-Expr X Expr fst y) refl)

  pub owner : (e : Expr) → Owner e
  owner = ind-Expr Owner (λ l y is. step (λ e. e.0) l y is)

-- 2. The use of an operand

pub record Used (w : Setting) (b : FunctionBindgen) (u : ExprOperand) (r : RustValue) (others : List (Fact ExprOperand Slot RustValue)) (s : State) : Type 0 where
  pub given : Val
  pub then : State
  pub evaluated : eval w u.expr s ≡ machine.Done given then
  -- it denotes the value, as the operand does
  pub denotes : kept_value u.kept (Some given) ≡ Some (val.Value r)
  pub is : rust_of given ≡ Some r
  pub item : item_of given ≡ Some r
  pub account : account_of then ≡ account_of s
  pub place : then.place ≡ s.place
  pub owns : (f : ℕ → ℕ) → total f (owns_of then) + total f (owned given) ≡ total f (owns_of s)
  pub holds : Hold w.items b others then
  -- an area stays where it is
  pub areas : (k : Bytes) (address size : ℕ) → env_of s k ≡ Some (val.Area address size) → env_of then k ≡ Some (val.Area address size)

use_moves : (w : Setting) (n : Bytes) (v : Val) (x : ℕ) (more : List ℕ) (s : State) → option_and_then usable (env_of s n) ≡ Some v → owned v ≡ x ∷ more → eval w (expr.Local n) s ≡ machine.Done v (without s n)
unfolding use_local
use_moves w n v x more s at own =
    ap (λ act. act s) (eval-local w n) ∙ ap (λ o. and_then (or_stop (stuck w) o s) (λ v. used n v (owned v))) at ∙ ap (λ bs. used n v bs s) own

-- a local denotes nothing without its name
not_read : (items : List Item) (params : List ParamSite) (env : Env) (kept : Bool) (n : Bytes) (r : RustValue) → wrong items params (less env n) (of (local_kept kept n) (item r)) ≡ 1
not_read items params env kept n r = go (matches (item r) ((read_operand items (local_kept kept n)).at (less env n))) refl
  where
    none : (read items (expr.Local n)).at (less env n) ≡ None
    none = ap (λ (q : Read). q.at (less env n)) (read-local items n) ∙ ap (λ c. option_and_then usable (cond c None (env n))) (bytes_eq-same n)

    go : (c : Bool) → matches (item r) ((read_operand items (local_kept kept n)).at (less env n)) ≡ c → cond {A = ℕ} c 0 1 ≡ 1
    go false e = refl
    go true e =
        let reads = item_read items (local_kept kept n) (less env n) r (matches_says (item r) ((read_operand items (local_kept kept n)).at (less env n)) e) in
        absurd (let z : (let q : Option RustValue = None in q ≡ Some r) = sym (ap (option_and_then item_of) none) ∙ reads in cc)

less_same : (s : State) (n : Bytes) → Under (less (env_of s) n) (less (env_of (without s n)) n)
less_same s n k v h = go (bytes_eq k n) refl h
  where
    go : (c : Bool) → bytes_eq k n ≡ c → cond c None (env_of s k) ≡ Some v → cond c None (env_of (without s n) k) ≡ Some v
    go true e x = absurd cc
    go false e x = less_stays s n k v (ap (λ c. cond c None (env_of s k)) e ∙ x)

-- other facts last, where a local that owns a block is moved
moved_lasts : (items : List Item) (b : FunctionBindgen) (kept : Bool) (n : Bytes) (r : RustValue) (v : Val) (others : List (Fact ExprOperand Slot RustValue)) (s : State) → env_of s n ≡ Some v → Owns (env_of s n) → Hold items b (of (local_kept kept n) (item r) ∷ others) s → Hold items b others (without s n)
moved_lasts items b kept n r v others s at owning h =
    let params = b.params in
    let env = env_of s in
    let zero_others : total (wrong items params (less env n)) others ≡ 0 = omega (arith, not_read items params env kept n r, h.apart n owning) in
    record {
      right = omega (arith, zero_others, total_mono items params (less env n) (env_of (without s n)) (less_stays s n) others);
      apart = λ k owned_k. each zero_others k owned_k (bytes_eq n k) refl;
      within = λ k free. free_still k free (bytes_eq n k) refl;
    }
  where
    each : total (wrong items b.params (less (env_of s) n)) others ≡ 0 → (k : Bytes) → Owns (env_of (without s n) k) → (c : Bool) → bytes_eq n k ≡ c → total (wrong items b.params (less (env_of (without s n)) k)) others ≤ 1
    each zero_others k owned_k true e =
        let same : n ≡ k = (bytes_eq-Decides n k).0 e in
        let z = total_mono items b.params (less (env_of s) n) (less (env_of (without s n)) n) (less_same s n) others in
        let y = ap (λ q. total (wrong items b.params (less (env_of (without s n)) q)) others) same in
        omega (arith, z, y, zero_others)
    each zero_others k owned_k false e =
        let was : Owns (env_of s k) = subst Owns (ap value_of (other_named n k s.locals e)) owned_k in
        let z = total_mono items b.params (less (less (env_of s) n) k) (less (env_of (without s n)) k) (less_under (less (env_of s) n) (env_of (without s n)) k (less_stays s n)) others in
        omega (arith, z, total_meet items b.params (env_of s) n k others zero_others, h.apart k was)

    free_still : (k : Bytes) → is_used b.scope.used k ≡ false → (c : Bool) → bytes_eq n k ≡ c → local_named k (moved n s.locals) ≡ None
    free_still k free true e =
        let same : n ≡ k = (bytes_eq-Decides n k).0 e in
        absurd (let z : (let q : Option Val = None in q ≡ Some v) = sym (ap value_of (ap (λ q. local_named q s.locals) same ∙ h.within k free)) ∙ at in cc)
    free_still k free false e = other_named n k s.locals e ∙ h.within k free

-- an area is never moved
area_stays : (s : State) (n k : Bytes) (v : Val) (a z : ℕ) → option_and_then usable (env_of s n) ≡ Some v → env_of s k ≡ Some (val.Area a z) → env_of (without s n) k ≡ Some (val.Area a z)
area_stays s n k v a z used is = go (bytes_eq n k) refl
  where
    go : (c : Bool) → bytes_eq n k ≡ c → env_of (without s n) k ≡ Some (val.Area a z)
    go true e = absurd (let no : (let q : Option Val = None in q ≡ Some v) = sym (ap (option_and_then usable) (ap (env_of s) ((bytes_eq-Decides n k).0 e) ∙ is)) ∙ used in cc)
    go false e = ap value_of (other_named n k s.locals e) ∙ is

pub uses : (w : Setting) (b : FunctionBindgen) (o : ExprOperand) (r : RustValue) (others : List (Fact ExprOperand Slot RustValue)) (s : State) → Hold w.items b (of o (item r) ∷ others) s → Used w b o r others s
uses w b o r others s h =
    let (v, reads, told) = operand_reads w.items o (env_of s) (val.Value r) (is_said w.items b.params (env_of s) (of o (item r)) (omega (arith, h.right))) in
    go v reads told (kept_item o.kept v r told) (owned v) refl
  where
    go : (v : Val) → (read w.items o.expr).at (env_of s) ≡ Some v → kept_value o.kept (Some v) ≡ Some (val.Value r) → item_of v ≡ Some r → (bs : List ℕ) → owned v ≡ bs → Used w b o r others s
    go v reads told is [] own = record {
      given = v;
      then = s;
      evaluated = gives w o.expr s v reads own;
      denotes = told;
      is = item_rust v r is;
      item = is;
      account = refl;
      place = refl;
      owns = λ f. let z = ap (total f) own in omega (arith, z);
      holds = part w.items b others (of o (item r) ∷ others) s (λ f. omega arith) h;
      areas = λ k a n is. is;
    }
    go v reads told is (x ∷ more) own =
        let local = owner w.items o.expr (env_of s) v reads (λ z. let k : [] ≡ x ∷ more = sym z ∙ own in cc) in
        let n = local.0 in
        let used_at : option_and_then usable (env_of s n) ≡ Some v = sym (ap (λ (q : Read). q.at (env_of s)) (read-local w.items n)) ∙ ap (λ z. (read w.items z).at (env_of s)) (sym local.1) ∙ reads in
        let at : env_of s n ≡ Some v = usable_is w.items (env_of s n) v used_at in
        let owning : Owns (env_of s n) = subst Owns (sym at) (λ z. let k : [] ≡ x ∷ more = sym z ∙ own in cc) in
        let h1 = subst (λ z. Hold w.items b (of (record o { expr = z }) (item r) ∷ others) s) local.1 h in
        record {
          given = v;
          then = without s n;
          evaluated = ap (λ z. eval w z s) local.1 ∙ use_moves w n v x more s used_at own;
          denotes = told;
          is = item_rust v r is;
          item = is;
          account = refl;
          place = refl;
          owns = λ f. owns_without f s n v at;
          holds = moved_lasts w.items b o.kept n r v others s at owning h1;
          areas = λ k a z is. area_stays s n k v a z used_at is;
        }
