-- When a fact is right, and that it stays so where more names are known.
use Rattle.std.proofs.Common.{◌≡◌, ℕ, ◌≤◌, Bool, true, false, cond, List, [], ◌∷◌, Option, None, Some, refl, sym, ap, ap₂, ◌∙◌, arith}
use Rattle.std.specs.Prelude.{option_and_then, slice_get}
use Rattle.std.specs.Option.{option_map}
use Rattle.std.specs.Coded.{Coded, coded_option}
use Rattle.std.proofs.lemmas.Bool.{and_parts, and_from}
use Rattle.std.proofs.lemmas.Bool.Decides.{nat_tests}
use Rattle.std.specs.Str.{bytes_eq}
use base.Stored.{Gv, gnil, gnum, gcons}
use Rattle.rust_tree.specs.declared.item.Item.{Item}
use Rattle.wit_model.specs.Bytes.{Bytes}
use Rattle.wit_model.specs.declared.types.WitType.TheVariants as wit
use Rattle.wrapper_data.specs.declared.value.RustValue.{RustValue}
use Rattle.wrapper_data.specs.declared.value.RustValue.TheVariants as value
use Rattle.wrapper_data.specs.declared.word.Word.{Word}
use Rattle.wrapper_data.specs.declared.word.Word.TheVariants as core
use Rattle.wrapper_meaning.specs.Items.{total}
use Rattle.wrapper_meaning.specs.Numbers.{is_signed}
use Rattle.wrapper_values.specs.contracts.state.Val as vals
use Rattle.wrapper_values.specs.declared.state.Val.{Val}
use Rattle.wrapper_values.specs.declared.state.Val.TheVariants as val
use Rattle.wrapper_values.specs.Effect.{rust_of}
use Rattle.abi_bindgen.specs.Meaning.{Datum, Fact, of, arg, bound}
use Rattle.func_gen.specs.declared.function_bindgen.ParamSite.{ParamSite}
use Rattle.func_gen.specs.declared.operand.ExprOperand.{ExprOperand}
use Rattle.func_gen.specs.Facts.{fact_datum, fact_value, gv_eq, matches, same, val_of, wrong}
use Rattle.func_gen.specs.Read.{Env, Read, Under, item_of, kept_value, less, read, read_kept, read_operand}
use Rattle.func_gen.specs.Slot.{Slot, slot_read}

-- 1. The test of codes

gv_true : (a b : Gv) → gv_eq a b ≡ true → a ≡ b
gv_true gnil gnil h = refl
gv_true gnil (gnum n) h = absurd cc
gv_true gnil (gcons c d) h = absurd cc
gv_true (gnum n) gnil h = absurd cc
gv_true (gnum n) (gnum k) h = let e : n ≡ k = grind (arith, nat_tests) in ap gnum e
gv_true (gnum n) (gcons c d) h = absurd cc
gv_true (gcons a b) gnil h = absurd cc
gv_true (gcons a b) (gnum n) h = absurd cc
gv_true (gcons a b) (gcons c d) h = let two = and_parts (gv_eq a c) (gv_eq b d) h in ap₂ gcons (gv_true a c two.0) (gv_true b d two.1)

gv_self : (a : Gv) → gv_eq a a ≡ true
gv_self gnil = refl
gv_self (gnum n) = grind (arith, nat_tests)
gv_self (gcons a b) = and_from (gv_eq a a) (gv_eq b b) (gv_self a) (gv_self b)

same_true : {A : Type 0} (c : Coded A) (x y : A) → same c x y ≡ true → x ≡ y
unfolding same
same_true c x y h = c.inj x y (gv_true (c.code x) (c.code y) h)

same_from : {A : Type 0} (c : Coded A) (x y : A) → x ≡ y → same c x y ≡ true
unfolding same
same_from c x y e = ap (λ z. gv_eq (c.code z) (c.code y)) e ∙ gv_self (c.code y)

-- 2. Facts

-- what a fact says of the value that is read
abbrev pub Says : Datum RustValue → Option Val → Type 0
Says d o = o ≡ Some (val_of d)

pub matches_says : (d : Datum RustValue) (o : Option Val) → matches d o ≡ true → Says d o
matches_says d o h = same_true (coded_option vals.the_row.coded) o (Some (val_of d)) h

pub says_matches : (d : Datum RustValue) (o : Option Val) → Says d o → matches d o ≡ true
says_matches d o h = same_from (coded_option vals.the_row.coded) o (Some (val_of d)) h

-- a word that is a whole number is one of the Rust side
ranged_is : (b : Bool) (r s : RustValue) → cond b (Some r) None ≡ Some s → (let o : Option RustValue = Some r in o) ≡ Some s
ranged_is true r s h = h
ranged_is false r s h = absurd cc

pub item_rust : (v : Val) (r : RustValue) → item_of v ≡ Some r → rust_of v ≡ Some r
item_rust (val.Word (core.I32 z)) r h = ranged_is (is_signed 31 z) (value.Num wit.S32 z) r h
item_rust (val.Word (core.I64 z)) r h = ranged_is (is_signed 63 z) (value.Num wit.S64 z) r h
item_rust (val.Word (core.F32 bits)) r h = h
item_rust (val.Word (core.F64 bits)) r h = h
item_rust (val.Word (core.Pointer n)) r h = absurd cc
item_rust (val.Word (core.Length n)) r h = absurd cc
item_rust (val.Word (core.Slot o)) r h = absurd cc
item_rust (val.Value q) r h = h
item_rust (val.Area a z) r h = absurd cc

pub kept_reads : (kept : Bool) (x : Read) (env : Env) → (read_kept kept x).at env ≡ kept_value kept (x.at env)
kept_reads true x env = refl
kept_reads false x env = refl

value_is : (o : Option RustValue) (r : RustValue) → option_map val.Value o ≡ Some (val.Value r) → o ≡ Some r
value_is None r h = absurd cc
value_is (Some q) r h = ap (option_and_then item_of) h

is_word : Option Val → Bool
is_word (Some (val.Word x)) = true
is_word _ = false

no_word : (o : Option RustValue) (x : Word) → option_map val.Value o ≡ Some (val.Word x) → ⊥
unfolding is_word
no_word None x h = cc
no_word (Some q) x h = let e : false ≡ true = ap is_word h in cc

-- a value that is denoted is that value for the Rust side, whether a word was kept or not
pub kept_item : (kept : Bool) (v : Val) (r : RustValue) → kept_value kept (Some v) ≡ Some (val.Value r) → item_of v ≡ Some r
kept_item true v r h = value_is (item_of v) r h
kept_item false v r h = ap (option_and_then item_of) h

-- and a word that is denoted was not kept
pub kept_word : (kept : Bool) (v : Val) (x : Word) → kept_value kept (Some v) ≡ Some (val.Word x) → (kept ≡ false) × (v ≡ val.Word x)
kept_word true v x h = absurd (no_word (item_of v) x h)
kept_word false v x h = (refl, cc)

-- something was read where something is denoted
pub kept_some : (kept : Bool) (o : Option Val) (v : Val) → kept_value kept o ≡ Some v → (u : Val) × (o ≡ Some u) × (kept_value kept (Some u) ≡ Some v)
kept_some true None v h = absurd cc
kept_some false None v h = absurd cc
kept_some kept (Some u) v h = (u, refl, h)

-- what an operand reads that denotes a datum
pub operand_reads : (items : List Item) (o : ExprOperand) (env : Env) (v : Val) → (read_operand items o).at env ≡ Some v → (u : Val) × ((read items o.expr).at env ≡ Some u) × (kept_value o.kept (Some u) ≡ Some v)
operand_reads items o env v h = kept_some o.kept ((read items o.expr).at env) v (sym (kept_reads o.kept (read items o.expr) env) ∙ h)

pub item_read : (items : List Item) (o : ExprOperand) (env : Env) (r : RustValue) → (read_operand items o).at env ≡ Some (val.Value r) → option_and_then item_of ((read items o.expr).at env) ≡ Some r
item_read items o env r h =
    let (u, reads, is) = operand_reads items o env (val.Value r) h in
    ap (option_and_then item_of) reads ∙ kept_item o.kept u r is

pub word_read : (items : List Item) (o : ExprOperand) (env : Env) (x : Word) → (read_operand items o).at env ≡ Some (val.Word x) → (o.kept ≡ false) × ((read items o.expr).at env ≡ Some (val.Word x))
word_read items o env x h =
    let (u, reads, is) = operand_reads items o env (val.Word x) h in
    let two = kept_word o.kept u x is in
    (two.0, reads ∙ ap (λ z. Some z) two.1)

-- a word is denoted by an operand that was not kept and reads it
pub word_denoted : (items : List Item) (o : ExprOperand) (env : Env) (x : Word) → o.kept ≡ false → (read items o.expr).at env ≡ Some (val.Word x) → (read_operand items o).at env ≡ Some (val.Word x)
word_denoted items o env x plain h = ap (λ kept. (read_kept kept (read items o.expr)).at env) plain ∙ h

-- a weight is 0 or 1
pub wrong_none : (b : Bool) → b ≡ true → cond {A = ℕ} b 0 1 ≡ 0
wrong_none b e = ap (λ x. cond {A = ℕ} x 0 1) e

none_wrong : (b : Bool) → cond {A = ℕ} b 0 1 ≡ 0 → b ≡ true
none_wrong true h = refl
none_wrong false h = absurd (omega arith)

pub one_at_most : (b : Bool) → cond {A = ℕ} b 0 1 ≤ 1
one_at_most true = omega arith
one_at_most false = omega arith

pub less_wrong : (b c : Bool) → (b ≡ true → c ≡ true) → cond {A = ℕ} c 0 1 ≤ cond {A = ℕ} b 0 1
less_wrong true c h = let e = wrong_none c (h refl) in omega arith
less_wrong false c h = one_at_most c

module _ (items : List Item) (params : List ParamSite) where
  pub is_said : (env : Env) (f : Fact ExprOperand Slot RustValue) → wrong items params env f ≡ 0 → Says (fact_datum f) (fact_value items params env f)
  is_said env f h = matches_says (fact_datum f) (fact_value items params env f) (none_wrong (matches (fact_datum f) (fact_value items params env f)) h)

  pub said : (env : Env) (f : Fact ExprOperand Slot RustValue) → Says (fact_datum f) (fact_value items params env f) → wrong items params env f ≡ 0
  said env f h = wrong_none (matches (fact_datum f) (fact_value items params env f)) (says_matches (fact_datum f) (fact_value items params env f) h)

  -- a fact that follows from another is wrong no more often
  pub follows : (env : Env) (f g : Fact ExprOperand Slot RustValue) → (Says (fact_datum f) (fact_value items params env f) → Says (fact_datum g) (fact_value items params env g)) → wrong items params env g ≤ wrong items params env f
  follows env f g from =
      less_wrong (matches (fact_datum f) (fact_value items params env f)) (matches (fact_datum g) (fact_value items params env g))
      (λ h. says_matches (fact_datum g) (fact_value items params env g) (from (matches_says (fact_datum f) (fact_value items params env f) h)))

  -- 3. More names

  -- what is read is read where more names are known
  value_mono : (a b : Env) → Under a b → (f : Fact ExprOperand Slot RustValue) (v : Val) → fact_value items params a f ≡ Some v → fact_value items params b f ≡ Some v
  value_mono a b u (of o d) v h = (read_operand items o).mono a b u v h
  value_mono a b u (bound slot name d) v h = (slot_read slot name).mono a b u v h
  value_mono a b u (arg n d) v h = go (slice_get params n) h
    where
      go : (o : Option ParamSite) → option_and_then (λ p. (read_operand items p.operand).at a) o ≡ Some v → option_and_then (λ p. (read_operand items p.operand).at b) o ≡ Some v
      go None k = absurd cc
      go (Some p) k = (read_operand items p.operand).mono a b u v k

  wrong_mono : (a b : Env) → Under a b → (f : Fact ExprOperand Slot RustValue) → wrong items params b f ≤ wrong items params a f
  wrong_mono a b u f =
      less_wrong (matches (fact_datum f) (fact_value items params a f)) (matches (fact_datum f) (fact_value items params b f))
      (λ h. says_matches (fact_datum f) (fact_value items params b f) (value_mono a b u f (val_of (fact_datum f)) (matches_says (fact_datum f) (fact_value items params a f) h)))

  pub total_mono : (a b : Env) → Under a b → (fs : List (Fact ExprOperand Slot RustValue)) → total (wrong items params b) fs ≤ total (wrong items params a) fs
  total_mono a b u [] = omega arith
  total_mono a b u (f ∷ fs) = omega (arith, wrong_mono a b u f, total_mono a b u fs)

  -- 4. Fewer names

  -- what holds without one name, and without another, holds without both
  value_meet : (env : Env) (n k : Bytes) (f : Fact ExprOperand Slot RustValue) (v : Val) → fact_value items params (less env n) f ≡ Some v → fact_value items params (less env k) f ≡ Some v → fact_value items params (less (less env n) k) f ≡ Some v
  value_meet env n k (of o d) v g h = (read_operand items o).meet env n k v g h
  value_meet env n k (bound slot name d) v g h = (slot_read slot name).meet env n k v g h
  value_meet env n k (arg i d) v g h = go (slice_get params i) g h
    where
      go : (o : Option ParamSite) → option_and_then (λ p. (read_operand items p.operand).at (less env n)) o ≡ Some v → option_and_then (λ p. (read_operand items p.operand).at (less env k)) o ≡ Some v
          → option_and_then (λ p. (read_operand items p.operand).at (less (less env n) k)) o ≡ Some v
      go None x y = absurd cc
      go (Some p) x y = (read_operand items p.operand).meet env n k v x y

  says_meet : (env : Env) (n k : Bytes) (f : Fact ExprOperand Slot RustValue) → Says (fact_datum f) (fact_value items params (less env n) f) → Says (fact_datum f) (fact_value items params (less env k) f) → Says (fact_datum f) (fact_value items params (less (less env n) k) f)
  says_meet env n k f g h = value_meet env n k f (val_of (fact_datum f)) g h

  pub total_meet : (env : Env) (n k : Bytes) (fs : List (Fact ExprOperand Slot RustValue)) → total (wrong items params (less env n)) fs ≡ 0 → total (wrong items params (less (less env n) k)) fs ≤ total (wrong items params (less env k)) fs
  total_meet env n k [] h = omega arith
  total_meet env n k (f ∷ fs) h =
      let here = is_said (less env n) f (omega (arith, h)) in
      let one = less_wrong (matches (fact_datum f) (fact_value items params (less env k) f)) (matches (fact_datum f) (fact_value items params (less (less env n) k) f))
      (λ z. says_matches (fact_datum f) (fact_value items params (less (less env n) k) f) (says_meet env n k f here (matches_says (fact_datum f) (fact_value items params (less env k) f) z))) in
      omega (arith, one, total_meet env n k fs (omega (arith, h)))

pub less_under : (a b : Env) (n : Bytes) → Under a b → Under (less a n) (less b n)
less_under a b n u k v h = go (bytes_eq k n) h
  where
    go : (c : Bool) → cond c None (a k) ≡ Some v → cond c None (b k) ≡ Some v
    go true e = absurd cc
    go false e = u k v e
