-- Which facts hold together in a state of the machine.
use Rattle.std.specs.Prelude.{◌≡◌, ◌≤◌, ℕ, Bool, true, false, ◌&&◌, nat_eq, if◌then◌else◌, List, [], ◌∷◌, Option, None, Some, option_and_then, slice_get}
use Rattle.std.specs.Coded.{coded_option}
use base.Stored.{Coded, Gv, gnil, gnum, gcons}
use Rattle.rust_tree.specs.declared.item.Item.{Item}
use Rattle.wit_model.specs.Bytes.{Bytes}
use Rattle.wrapper_data.specs.declared.block.Block.{Block}
use Rattle.wrapper_data.specs.declared.value.RustValue.{RustValue}
use Rattle.wrapper_meaning.specs.Items.{total}
use Rattle.wrapper_values.specs.contracts.state.Val as vals
use Rattle.wrapper_values.specs.declared.state.State.{State}
use Rattle.wrapper_values.specs.declared.state.Val.{Val}
use Rattle.wrapper_values.specs.declared.state.Val.TheVariants as val
use Rattle.wrapper_values.specs.Locals.{local_named}
use Rattle.wrapper_values.specs.Owning.{owned}
use Rattle.wrapper_run.specs.Memory.{block_from}
use Rattle.abi_bindgen.specs.Account.{is_taken}
use Rattle.abi_bindgen.specs.Meaning.{Datum, Fact, word, item, of, arg, bound}
use Rattle.func_gen.specs.declared.function_bindgen.FunctionBindgen.{FunctionBindgen}
use Rattle.func_gen.specs.declared.function_bindgen.ParamSite.{ParamSite}
use Rattle.func_gen.specs.declared.operand.ExprOperand.{ExprOperand}
use Rattle.func_gen.specs.Read.{Env, env_of, less, read_operand}
use Rattle.func_gen.specs.Scope.{is_used}
use Rattle.func_gen.specs.Slot.{Slot, slot_read}

-- 1. Equality that computes, by codes

abbrev pub gv_eq : Gv → Gv → Bool
gv_eq gnil gnil = true
gv_eq gnil (gnum n) = false
gv_eq gnil (gcons c d) = false
gv_eq (gnum n) gnil = false
gv_eq (gnum n) (gnum k) = nat_eq n k
gv_eq (gnum n) (gcons c d) = false
gv_eq (gcons a b) gnil = false
gv_eq (gcons a b) (gnum n) = false
gv_eq (gcons a b) (gcons c d) = gv_eq a c && gv_eq b d

unfoldable pub same : {A : Type 0} → Coded A → A → A → Bool
same c x y = gv_eq (c.code x) (c.code y)

-- 2. A fact by itself

-- the value that a datum is: a word, or a value of the Rust side
abbrev pub val_of : Datum RustValue → Val
val_of (word x) = val.Word x
val_of (item r) = val.Value r

abbrev pub matches : Datum RustValue → Option Val → Bool
matches d o = same (coded_option vals.the_row.coded) o (Some (val_of d))

-- what names let read, of an operand, of an argument, and of a name of a block
abbrev pub fact_value : List Item → List ParamSite → Env → Fact ExprOperand Slot RustValue → Option Val
fact_value items params env (of o d) = (read_operand items o).at env
fact_value items params env (arg n d) = option_and_then (λ p. (read_operand items p.operand).at env) (slice_get params n)
fact_value items params env (bound slot name d) = (slot_read slot name).at env

abbrev pub fact_datum : Fact ExprOperand Slot RustValue → Datum RustValue
fact_datum (of o d) = d
fact_datum (arg n d) = d
fact_datum (bound slot name d) = d

-- 1 where these names do not let the fact be
abbrev pub wrong : List Item → List ParamSite → Env → Fact ExprOperand Slot RustValue → ℕ
wrong items params env f = if matches (fact_datum f) (fact_value items params env f) then 0 else 1

-- 3. Facts together

abbrev pub Owns : Option Val → Type 0
Owns None = ⊥
Owns (Some v) = owned v ≡ [] → ⊥

-- all hold, by weights; and a local that owns a block is needed by one of them at most
pub record Hold (items : List Item) (b : FunctionBindgen) (facts : List (Fact ExprOperand Slot RustValue)) (s : State) : Type 0 where
  pub right : total (wrong items b.params (env_of s)) facts ≡ 0
  pub apart : (n : Bytes) → Owns (env_of s n) → total (wrong items b.params (less (env_of s) n)) facts ≤ 1
  -- no local has a name that is free
  pub within : (n : Bytes) → is_used b.scope.used n ≡ false → local_named n s.locals ≡ None

-- 4. What has an owner

abbrev pub IsThere : Option Block → Type 0
IsThere None = ⊥
IsThere (Some b) = Unit {0}

-- each address once, and a block with bytes begins there
abbrev pub AreOwned : List Block → List ℕ → Type 0
AreOwned blocks [] = Unit {0}
AreOwned blocks (a ∷ taken) = (is_taken a taken ≡ false) × IsThere (block_from a blocks) × AreOwned blocks taken
