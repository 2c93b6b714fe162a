-- What a value owns: the blocks of its texts and lists, by their addresses, since an owner has the one block that begins there; what
-- it is behind a reference; and what a method tells of it.
use Rattle.std.specs.Prelude.{ℕ, suc, Bool, true, false, nat_eq, List, [], ◌∷◌, ◌++◌, Option, None, Some, map}
use Rattle.std.specs.List.{flat_map, list_any}
use Rattle.std.specs.Option.{option_map}
use Rattle.wrapper_data.specs.declared.value.RustValue.{RustValue, RustValue-F, fold-RustValue}
use Rattle.wrapper_data.specs.declared.value.RustValue.TheVariants as value
use Rattle.wrapper_data.specs.declared.word.Word.{Word}
use Rattle.wrapper_data.specs.declared.word.Word.TheVariants as word
use Rattle.wrapper_values.specs.declared.state.Val.{Val}
use Rattle.wrapper_values.specs.declared.state.Val.TheVariants as val
use Rattle.wrapper_values.specs.declared.owning.View.{View}
use Rattle.wrapper_values.specs.declared.owning.View.TheVariants as view_of
use Rattle.wrapper_values.specs.Effect.{seen_as}
use Rattle.wrapper_values.specs.Flags.{bits_of_flags, word_at}

-- the addresses of blocks that values own

abbrev pub concat : List (List ℕ) → List ℕ
concat lists = flat_map (λ l. l) lists

abbrev pub listed : {A : Type 0} → Option A → List A
listed None = []
listed (Some a) = a ∷ []

abbrev pub both : List (List ℕ × List ℕ) → List ℕ
both pairs = flat_map (λ e. e.0 ++ e.1) pairs

-- one level of a value, with the addresses of its parts; an empty buffer has no block
abbrev pub owned_level : RustValue-F (List ℕ) → List ℕ
owned_level (RustValue-F.Buffer address (suc n) true) = address ∷ []
owned_level (RustValue-F.Seq parts) = concat parts
owned_level (RustValue-F.Struct parts) = concat parts
owned_level (RustValue-F.Case number payload) = concat (listed payload)
owned_level (RustValue-F.Map entries) = both entries
owned_level _ = []

abbrev pub owned_by : RustValue → List ℕ
owned_by v = fold-RustValue (List ℕ) owned_level v

abbrev pub taken_by : List RustValue → List ℕ
taken_by values = concat (map owned_by values)

abbrev pub taken_by_entries : List (RustValue × RustValue) → List ℕ
taken_by_entries entries = both (map (λ e. (owned_by e.0, owned_by e.1)) entries)

abbrev pub owned : Val → List ℕ
owned (val.Area address size) = address ∷ []
owned (val.Value v) = owned_by v
owned (val.Word w) = []

-- of a local, or of one that was moved
abbrev pub owned_in : Option Val → List ℕ
owned_in None = []
owned_in (Some v) = owned v

abbrev pub is_taken : ℕ → List ℕ → Bool
is_taken address taken = list_any (λ t. nat_eq t address) taken

-- a value behind a reference owns nothing, wherever in it a buffer or a handle stands; an area is never behind one

-- one level of a value, whose parts are behind a reference already
abbrev pub lent_level : RustValue-F RustValue → RustValue
lent_level (RustValue-F.Buffer address len owned) = value.Buffer address len false
lent_level (RustValue-F.Handle number own) = value.Handle number false
lent_level (RustValue-F.Bool b) = value.Bool b
lent_level (RustValue-F.Num kind n) = value.Num kind n
lent_level (RustValue-F.F32 bits) = value.F32 bits
lent_level (RustValue-F.F64 bits) = value.F64 bits
lent_level (RustValue-F.Char code) = value.Char code
lent_level (RustValue-F.Seq parts) = value.Seq parts
lent_level (RustValue-F.Struct parts) = value.Struct parts
lent_level (RustValue-F.Case number payload) = value.Case number payload
lent_level (RustValue-F.Bits bits) = value.Bits bits
lent_level (RustValue-F.Map entries) = value.Map entries
lent_level RustValue-F.Unit = value.Unit

abbrev pub lent_value : RustValue → RustValue
lent_value v = fold-RustValue RustValue lent_level v

abbrev pub lent : Val → Option Val
lent (val.Word w) = Some (val.Word w)
lent (val.Value v) = Some (val.Value (lent_value v))
lent (val.Area _ _) = None

-- what a method tells of a value

-- the address of a text or list, its length in entries, and whether it owns its block
abbrev pub buffer_of_level : RustValue-F RustValue → Option (ℕ × ℕ × Bool)
buffer_of_level (RustValue-F.Buffer address len owned) = Some (address, len, owned)
buffer_of_level _ = None

abbrev pub buffer_of : Val → Option (ℕ × ℕ × Bool)
buffer_of v = seen_as buffer_of_level v

abbrev pub area_pointer : Val → Option Word
area_pointer (val.Area address _) = Some (word.Pointer address)
area_pointer _ = None

abbrev pub pointer_of : Val → Option Word
pointer_of (val.Word (word.Pointer address)) = Some (word.Pointer address)
pointer_of _ = None

abbrev pub view : View → Val → Option Word
view view_of.TextAddress v = option_map (λ b. word.Pointer b.0) (buffer_of v)
view view_of.TextLength v = option_map (λ b. word.Length b.1) (buffer_of v)
view view_of.Pointer v = pointer_of v
view view_of.AreaAddress v = area_pointer v
view (view_of.FlagsWord by) v = option_map (word_at by) (bits_of_flags v)
