-- What an operand reads from locals: the forms that operands have change nothing but move a local that owns a block.
use Rattle.std.specs.Prelude.{◌≡◌, ℕ, Bool, true, false, if◌then◌else◌, List, [], ◌∷◌, Option, None, Some, option_and_then, refl}
use Rattle.std.specs.Option.{option_map}
use Rattle.std.specs.Str.{bytes_eq}
use Rattle.rust_tree.specs.declared.expr.Expr.{Expr, Expr-F, fold-Expr}
use Rattle.rust_tree.specs.declared.item.Item.{Item}
use Rattle.rust_tree.specs.declared.runtime_item.RuntimeItem.{RuntimeItem}
use Rattle.wit_model.specs.Bytes.{Bytes}
use Rattle.wit_model.specs.declared.types.WitType.TheVariants as wit
use Rattle.wrapper_data.specs.declared.value.RustValue.{RustValue}
use Rattle.wrapper_data.specs.declared.value.RustValue.TheVariants as value
use Rattle.wrapper_data.specs.declared.word.Word.{Word}
use Rattle.wrapper_data.specs.declared.word.Word.TheVariants as word
use Rattle.wrapper_meaning.specs.Numbers.{is_signed}
use Rattle.wrapper_values.specs.declared.state.State.{State}
use Rattle.wrapper_values.specs.declared.state.Val.{Val}
use Rattle.wrapper_values.specs.declared.state.Val.TheVariants as val
use Rattle.wrapper_values.specs.CoreWords.{called_on, core_word, zero_word}
use Rattle.wrapper_values.specs.Effect.{cast_to, converted}
use Rattle.wrapper_values.specs.Enums.{word_of_case}
use Rattle.wrapper_values.specs.Flags.{bits_of_flags, word_at}
use Rattle.wrapper_values.specs.Locals.{local_named, usable, value_of}
use Rattle.wrapper_values.specs.Owning.{lent, owned, pointer_of}
use Rattle.wrapper_run.specs.Run.{Callee, alone, callee, core_case, core_forget, core_function, member_of, of_runtime, runtime_item_named, unknown}
use Rattle.func_gen.specs.declared.operand.ExprOperand.{ExprOperand}

-- 1. Environments

-- what names stand for
abbrev pub Env : Type 0
Env = Bytes → Option Val

abbrev pub env_of : State → Env
env_of s = λ n. value_of (local_named n s.locals)

-- all but one name
abbrev pub less : Env → Bytes → Env
less env n = λ k. if bytes_eq k n then None else env k

-- each name that one has, the other has too
abbrev pub Under : Env → Env → Type 0
Under a b = (n : Bytes) (v : Val) → a n ≡ Some v → b n ≡ Some v

-- 2. Readers

-- a value that is read, and is read where more names are known too
pub record Read : Type 0 where
  pub at : Env → Option Val
  pub mono : (a b : Env) → Under a b → (v : Val) → at a ≡ Some v → at b ≡ Some v
  -- what is read without one name, and without another, is read without both
  pub meet : (env : Env) (n k : Bytes) (v : Val) → at (less env n) ≡ Some v → at (less env k) ≡ Some v → at (less (less env n) k) ≡ Some v

pub and_then_mono : (f : Val → Option Val) (o p : Option Val) → ((v : Val) → o ≡ Some v → p ≡ Some v) → (v : Val) → option_and_then f o ≡ Some v → option_and_then f p ≡ Some v
and_then_mono f None p h v e = absurd cc
and_then_mono f (Some x) p h v e = step p (h x refl) e
  where
    step : (q : Option Val) → q ≡ Some x → f x ≡ Some v → option_and_then f q ≡ Some v
    step None k e = absurd cc
    step (Some y) k e = let same : y ≡ x = cc in let r : f y ≡ f x = cc in cc

pub local_meet : (env : Env) (n k x : Bytes) (v : Val) → less env n x ≡ Some v → less env k x ≡ Some v → less (less env n) k x ≡ Some v
local_meet env n k x v g h = go (bytes_eq x k) (bytes_eq x n) g h
  where
    go : (c d : Bool) → (if d then None else env x) ≡ Some v → (if c then None else env x) ≡ Some v → (if c then None else (if d then None else env x)) ≡ Some v
    go true d g h = h
    go false d g h = g

abbrev pub of_local : Bytes → Read
of_local n = record { at = λ env. env n; mono = λ a b u v e. u n v e; meet = λ env m k v g h. local_meet env m k n v g h }

pub less_is_under : (env : Env) (n : Bytes) → Under (less env n) env
less_is_under env n k v h = go (bytes_eq k n) h
  where
    go : (c : Bool) → (if c then None else env k) ≡ Some v → env k ≡ Some v
    go true e = absurd cc
    go false e = e

pub through_meet : (f : Val → Option Val) (r : Read) (env : Env) (n k : Bytes) (v : Val) → option_and_then f (r.at (less env n)) ≡ Some v → option_and_then f (r.at (less env k)) ≡ Some v → option_and_then f (r.at (less (less env n) k)) ≡ Some v
through_meet f r env n k v g h = go (r.at (less env n)) refl (r.at (less env k)) refl g h
  where
    both : (x : Val) → r.at (less env n) ≡ Some x → r.at (less env k) ≡ Some x → f x ≡ Some v → option_and_then f (r.at (less (less env n) k)) ≡ Some v
    both x a b e = step (r.at (less (less env n) k)) (r.meet env n k x a b) e
      where
        step : (q : Option Val) → q ≡ Some x → f x ≡ Some v → option_and_then f q ≡ Some v
        step None e1 e2 = absurd cc
        step (Some y) e1 e2 = let same : y ≡ x = cc in let z : f y ≡ f x = cc in cc

    go : (o : Option Val) → r.at (less env n) ≡ o → (p : Option Val) → r.at (less env k) ≡ p → option_and_then f o ≡ Some v → option_and_then f p ≡ Some v → option_and_then f (r.at (less (less env n) k)) ≡ Some v
    go None a p b g h = absurd cc
    go (Some x) a None b g h = absurd cc
    go (Some x) a (Some y) b g h =
        let ex : r.at env ≡ Some x = r.mono (less env n) env (less_is_under env n) x a in
        let ey : r.at env ≡ Some y = r.mono (less env k) env (less_is_under env k) y b in
        let same : y ≡ x = cc in
        let by : r.at (less env k) ≡ Some x = cc in
        both x a by g

abbrev pub through : (Val → Option Val) → Read → Read
through f r = record { at = λ env. option_and_then f (r.at env); mono = λ a b u v e. and_then_mono f (r.at a) (r.at b) (r.mono a b u) v e; meet = λ env n k v g h. through_meet f r env n k v g h }

pub no_value : (v : Val) → (let o : Option Val = None in o ≡ Some v) → (let o : Option Val = None in o ≡ Some v)
no_value v e = e

abbrev pub nothing : Read
nothing = record { at = λ env. None; mono = λ a b u v e. no_value v e; meet = λ env n k v g h. no_value v g }

-- the same value, whatever the names stand for
abbrev pub always : Val → Read
always x = record { at = λ env. Some x; mono = λ a b u v e. e; meet = λ env n k v g h. g }

-- 3. What the forms read

-- a value that owns no block
abbrev pub bare_or : Val → List ℕ → Option Val
bare_or v [] = Some v
bare_or v (_ ∷ _) = None

abbrev pub bare : Val → Option Val
bare v = bare_or v (owned v)

-- of a value without blocks
abbrev pub on_bare : (Val → Option Val) → Val → Option Val
on_bare f v = option_and_then f (bare v)

-- a value that owns nothing, behind a reference, where it owns nothing either
abbrev pub lent_bare : Val → Option Val
lent_bare v = on_bare (λ x. option_and_then bare (lent x)) v

abbrev pub as_pointer : Val → Option Val
as_pointer v = option_map val.Word (pointer_of v)

-- one word of flags
abbrev pub as_flags_word : ℕ → Val → Option Val
as_flags_word by v = option_map (λ bits. val.Word (word_at by bits)) (bits_of_flags v)

-- the number of an enum's case
abbrev pub as_case_word : Val → Option Val
as_case_word v = option_map val.Word (word_of_case v)

-- a conversion of `_rt`, or a function of the core library
abbrev pub converts : Option RuntimeItem → Val → Option Val
converts None v = None
converts (Some i) v = option_map val.Word (converted i v)

abbrev pub conversion : List Item → Callee → Val → Option Val
conversion items (of_runtime name) v = converts (runtime_item_named items name) v
conversion items (alone name) v = None
conversion items (member_of ty name) v = None
conversion items (core_case number) v = None
conversion items (core_function f) v = option_map val.Word (core_word f v)
conversion items core_forget v = None
conversion items unknown v = None

abbrev pub call_reads : List Item → Callee → List Read → Read
call_reads items c (r ∷ []) = through (on_bare (conversion items c)) r
call_reads items c _ = nothing

-- an area is no value
abbrev pub read_step : List Item → Expr-F Read → Read
read_step items (Expr-F.Local name) = through usable (of_local name)
read_step items (Expr-F.Ref name) = through lent_bare (of_local name)
read_step items (Expr-F.Cast e to) = through (on_bare (cast_to to)) e
read_step items (Expr-F.Call path arguments) = call_reads items (callee path) arguments
read_step items (Expr-F.CastMut name) = through as_pointer (of_local name)
read_step items (Expr-F.EnumNumber e) = through (on_bare as_case_word) e
read_step items (Expr-F.FlagsBits name by) = through (on_bare (as_flags_word by)) (of_local name)
read_step items (Expr-F.I32Const n) = always (val.Word (word.I32 n))
read_step items (Expr-F.Zero ty) = always (val.Word (zero_word ty))
read_step items (Expr-F.Method e method) = through (on_bare (called_on method)) e
read_step items _ = nothing

-- in a file of these items
abbrev pub read : List Item → Expr → Read
read items = fold-Expr Read (read_step items)

-- 4. What an operand denotes

-- what something is for the Rust side. A whole number that is a word is in its range: no method is passed another as its value
abbrev pub item_of_word : Word → Option RustValue
item_of_word (word.I32 z) = if is_signed 31 z then Some (value.Num wit.S32 z) else None
item_of_word (word.I64 z) = if is_signed 63 z then Some (value.Num wit.S64 z) else None
item_of_word (word.F32 bits) = Some (value.F32 bits)
item_of_word (word.F64 bits) = Some (value.F64 bits)
item_of_word _ = None

abbrev pub item_of : Val → Option RustValue
item_of (val.Word x) = item_of_word x
item_of (val.Value r) = Some r
item_of (val.Area _ _) = None

abbrev pub as_item : Val → Option Val
as_item v = option_map val.Value (item_of v)

-- a word that is kept as a number is one for the Rust side, and no word any more
abbrev pub kept_value : Bool → Option Val → Option Val
kept_value true o = option_and_then as_item o
kept_value false o = o

abbrev pub read_kept : Bool → Read → Read
read_kept true r = through as_item r
read_kept false r = r

abbrev pub read_operand : List Item → ExprOperand → Read
read_operand items o = read_kept o.kept (read items o.expr)
