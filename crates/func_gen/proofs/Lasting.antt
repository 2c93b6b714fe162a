-- Facts last where locals are added, and a new local has its own.
use Rattle.std.proofs.Common.{◌≡◌, ℕ, ◌+◌, ◌≤◌, Bool, true, false, cond, List, [], ◌∷◌, ◌++◌, Option, None, Some, refl, sym, ap, ◌∙◌, subst, arith}
use Rattle.std.specs.Prelude.{option_to_list}
use Rattle.std.specs.List.{flat_map}
use Rattle.std.specs.Option.{option_or}
use Rattle.std.specs.Str.{bytes_eq}
use Rattle.std.proofs.lemmas.Bool.{or_parts}
use Rattle.std.proofs.lemmas.Grind.{flat_map-append}
use Rattle.std.proofs.lemmas.List.Folds.{list_any-append}
use Rattle.std.proofs.lemmas.Slice.Eq.{bytes_eq-Decides}
use Rattle.rust_tree.specs.declared.item.Item.{Item}
use Rattle.wit_model.specs.Bytes.{Bytes}
use Rattle.wrapper_data.specs.declared.choice.Request.{Request}
use Rattle.wrapper_data.specs.declared.value.RustValue.{RustValue}
use Rattle.wrapper_meaning.specs.Items.{AtMost, total}
use Rattle.wrapper_values.specs.declared.state.Local.{Local}
use Rattle.wrapper_values.specs.declared.state.State.{State}
use Rattle.wrapper_values.specs.declared.state.Val.{Val}
use Rattle.wrapper_values.specs.declared.state.Val.TheVariants as val
use Rattle.wrapper_values.specs.Locals.{local_named, value_of}
use Rattle.wrapper_values.specs.Owning.{owned, owned_in}
use Rattle.wrapper_run.proofs.LocalLemmas.{last-append, reads-past}
use Rattle.abi_bindgen.specs.declared.bindgen.Asked.{Asked}
use Rattle.abi_bindgen.specs.Meaning.{Datum, Fact, of}
use Rattle.func_gen.specs.declared.function_bindgen.FunctionBindgen.{FunctionBindgen}
use Rattle.func_gen.specs.declared.operand.ExprOperand.{ExprOperand}
use Rattle.func_gen.specs.Added.{Fresh}
use Rattle.func_gen.specs.Facts.{AreOwned, Hold, Owns, wrong}
use Rattle.func_gen.specs.Meaning.{AreaIs, Denote, File, FuncState, owns_of}
use Rattle.func_gen.specs.Read.{Env, Under, env_of, less, read_operand}
use Rattle.func_gen.specs.Scope.{is_used}
use Rattle.func_gen.specs.FactLemmas.{Says, less_under, said, total_mono}
use Rattle.func_gen.specs.Slot.{Slot}
use Rattle.wrapper_meaning.proofs.PostReturn.{total-append}

-- 1. A local more

abbrev pub with_local : State → Bytes → Val → State
with_local s n v = record s { locals = s.locals ++ record { name = n; value = Some v } ∷ [] }

-- a new name hides none
pub bound_under : (s : State) (n : Bytes) (v : Val) → local_named n s.locals ≡ None → Under (env_of s) (env_of (with_local s n v))
bound_under s n v free k u h = go (bytes_eq n k) refl
  where
    go : (c : Bool) → bytes_eq n k ≡ c → value_of (local_named k (s.locals ++ record { name = n; value = Some v } ∷ [])) ≡ Some u
    go true e =
        let same : n ≡ k = (bytes_eq-Decides n k).0 e in
        let none : value_of (local_named k s.locals) ≡ None = ap value_of (ap (λ m. local_named m s.locals) (sym same) ∙ free) in
        absurd (let no : (let o : Option Val = None in o ≡ Some u) = sym none ∙ h in cc)
    go false e = reads-past s.locals (record { name = n; value = Some v }) k (Some u) e h

-- what one more local owns
pub owns_with : (f : ℕ → ℕ) (s : State) (n : Bytes) (v : Val) → total f (owns_of (with_local s n v)) ≡ total f (owns_of s) + total f (owned v)
owns_with f s n v =
    let l : Local = record { name = n; value = Some v } in
    let e = ap (total f) (flat_map-append (λ (l : Local). owned_in l.value) s.locals (l ∷ [])) in
    let placed = option_to_list s.place in
    let before = flat_map (λ (l : Local). owned_in l.value) s.locals in
    omega (arith, e, total-append f placed before, total-append f placed (flat_map (λ (l : Local). owned_in l.value) (s.locals ++ l ∷ [])), total-append f before (flat_map (λ (l : Local). owned_in l.value) (l ∷ [])), total-append f (owned v) [])

-- 2. A name that was free, and is used then

-- a name that is free then was free
pub still_free : (old new : FunctionBindgen) (n : Bytes) → Fresh old new n → (k : Bytes) → is_used new.scope.used k ≡ false → is_used old.scope.used k ≡ false
still_free old new n f k free =
    (or_parts (is_used old.scope.used k) (is_used (n ∷ []) k) (sym (list_any-append (λ u. bytes_eq u k) old.scope.used (n ∷ [])) ∙ sym (ap (λ us. is_used us k) f.used) ∙ free)).0

pub within_with : (old new : FunctionBindgen) (n : Bytes) (s : State) (v : Val) → Fresh old new n → ((k : Bytes) → is_used old.scope.used k ≡ false → local_named k s.locals ≡ None)
    → (k : Bytes) → is_used new.scope.used k ≡ false → local_named k (with_local s n v).locals ≡ None
within_with old new n s v f within k free =
    let l : Local = record { name = n; value = Some v } in
    let split = or_parts (is_used old.scope.used k) (is_used (n ∷ []) k) (sym (list_any-append (λ u. bytes_eq u k) old.scope.used (n ∷ [])) ∙ sym (ap (λ us. is_used us k) f.used) ∙ free) in
    let other = (or_parts (bytes_eq n k) false split.1).0 in
    last-append (λ (m : Local). bytes_eq m.name k) s.locals l ∙ ap (λ b. option_or (cond b (Some l) None) (local_named k s.locals)) other ∙ within k split.0

-- 3. Facts

module _ (items : List Item) where
  pub part : (b : FunctionBindgen) (facts all : List (Fact ExprOperand Slot RustValue)) (s : State) → AtMost facts all → Hold items b all s → Hold items b facts s
  part b facts all s le d = record {
    right = omega (arith, le (wrong items b.params (env_of s)), d.right);
    apart = λ n o. omega (arith, le (wrong items b.params (less (env_of s) n)), d.apart n o);
    within = d.within;
  }

  pub under_less : (a b : Env) (n : Bytes) → a n ≡ None → Under a b → Under a (less b n)
  under_less a b n none u k v h = go (bytes_eq k n) refl
    where
      go : (c : Bool) → bytes_eq k n ≡ c → cond c None (b k) ≡ Some v
      go true e =
          let same : k ≡ n = (bytes_eq-Decides k n).0 e in
          absurd (let no : (let o : Option Val = None in o ≡ Some v) = sym none ∙ sym (ap a same) ∙ h in cc)
      go false e = u k v h

  -- where more names are known, and none that is free
  pub lasts : (old new : FunctionBindgen) (facts : List (Fact ExprOperand Slot RustValue)) (s t : State) → new.params ≡ old.params → Under (env_of s) (env_of t)
      → ((n : Bytes) → is_used new.scope.used n ≡ false → local_named n t.locals ≡ None) → Hold items old facts s → Hold items new facts t
  lasts old new facts s t params under within d = record {
    right = let e = ap (λ ps. total (wrong items ps (env_of t)) facts) params in omega (arith, e, d.right, total_mono items old.params (env_of s) (env_of t) under facts);
    apart = λ n owns. let e = ap (λ ps. total (wrong items ps (less (env_of t) n)) facts) params in omega (arith, e, one n owns (env_of s n) refl);
    within = within;
  }
    where
      one : (n : Bytes) → Owns (env_of t n) → (o : Option Val) → env_of s n ≡ o → total (wrong items old.params (less (env_of t) n)) facts ≤ 1
      one n owns None e = omega (arith, d.right, total_mono items old.params (env_of s) (less (env_of t) n) (under_less (env_of s) (env_of t) n e under) facts)
      one n owns (Some v) e =
          let same : env_of t n ≡ env_of s n = under n v e ∙ sym e in
          let x = d.apart n (subst Owns same owns) in
          omega (arith, x, total_mono items old.params (less (env_of s) n) (less (env_of t) n) (less_under (env_of s) (env_of t) n under) facts)

  -- a fact that rests on one local, which owns nothing
  pub add_plain : (b : FunctionBindgen) (facts : List (Fact ExprOperand Slot RustValue)) (s : State) (o : ExprOperand) (d : Datum RustValue) (n : Bytes) (v : Val)
      → ((env : Env) → env n ≡ Some v → Says d ((read_operand items o).at env)) → env_of s n ≡ Some v → owned v ≡ [] → Hold items b facts s → Hold items b (of o d ∷ facts) s
  add_plain b facts s o d n v says at none h = record {
    right = omega (arith, said items b.params (env_of s) (of o d) (says (env_of s) at), h.right);
    apart = λ k owns. omega (arith, h.apart k owns, said items b.params (less (env_of s) k) (of o d) (says (less (env_of s) k) (other k owns (bytes_eq n k) refl)));
    within = h.within;
  }
    where
      other : (k : Bytes) → Owns (env_of s k) → (c : Bool) → bytes_eq n k ≡ c → cond c None (env_of s n) ≡ Some v
      other k owns true same =
          let e : n ≡ k = (bytes_eq-Decides n k).0 same in
          let here : env_of s k ≡ Some v = ap (env_of s) (sym e) ∙ at in
          absurd ((subst Owns here owns) none)
      other k owns false same = at

-- 4. The area

pub area_lasts : (import : Bool) (area : Option Request) (at : Option ℕ) (asked : List Asked) (name : Bytes) (s t : State) → Under (env_of s) (env_of t) → t.place ≡ s.place → AreaIs import area at asked name s → AreaIs import area at asked name t
area_lasts true None None asked name s t u p h = p ∙ h
area_lasts true None (Some address) asked name s t u p h = h
area_lasts true (Some area) None asked name s t u p h = p ∙ h
area_lasts true (Some area) (Some address) asked name s t u p h = (u name (val.Area address area.size) h.0, p ∙ h.1)
area_lasts false area None asked name s t u p h = λ e. p ∙ h e
area_lasts false area (Some address) asked name s t u p h = h

-- what tells how a bindgen uses the area
pub record SameArea (old new : FunctionBindgen) : Type 0 where
  pub import : new.import ≡ old.import
  pub asked : new.asked ≡ old.asked
  pub name : new.area ≡ old.area

pub area_same : (w : File) (old new : FunctionBindgen) (at : Option ℕ) (s : State) → SameArea old new → AreaIs old.import w.area at old.asked old.area s → AreaIs new.import w.area at new.asked new.area s
area_same w old new at s e h =
    subst (λ i. AreaIs i w.area at new.asked new.area s) (sym e.import) (subst (λ a. AreaIs old.import w.area at a new.area s) (sym e.asked) (subst (λ n. AreaIs old.import w.area at old.asked n s) (sym e.name) h))

-- a state in which no more than locals was changed
pub record Beside (s t : State) : Type 0 where
  pub heap : t.heap ≡ s.heap
  pub taken : t.taken ≡ s.taken
  pub place : t.place ≡ s.place
  pub under : Under (env_of s) (env_of t)

pub denotes_on : (w : File) (old new : FunctionBindgen) (before facts : List (Fact ExprOperand Slot RustValue)) (s : FuncState) (t : State) → SameArea old new → Beside s.machine t → Denote w old before s → Hold w.items new facts t
    → Denote w new facts (record { machine = t; area = s.area })
denotes_on w old new before facts s t e beside d h = record {
  hold = h;
  owners = subst (λ blocks. AreOwned blocks t.taken) (ap (λ heap. heap.blocks) (sym beside.heap)) (subst (AreOwned s.machine.heap.blocks) (sym beside.taken) d.owners);
  area = area_lasts new.import w.area s.area new.asked new.area s.machine t beside.under beside.place (area_same w old new s.area s.machine e d.area);
}
