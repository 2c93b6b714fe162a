-- What is done to blocks: a block is taken over or let go, a text is tested, blocks are freed, and a core value is written into one.
use Rattle.std.specs.Prelude.{ℤ, ℕ, zero, suc, ◌+◌, ◌-◌, ◌^◌, Bool, true, not, nat_eq, nat_lt, if◌then◌else◌, List, [], ◌∷◌, ◌++◌, Option, None, Some, filter, drop, length, take, option_and_then}
use Rattle.std.specs.Str.{is_utf8}
use Rattle.wit_model.specs.declared.size.ArchitectureSize.{ArchitectureSize}
use Rattle.wit_model.specs.declared.wasm_type.WasmType.{WasmType}
use Rattle.wit_model.specs.Size.{bytes_at}
use Rattle.rust_tree.specs.declared.expr.SmallType.{SmallType}
use Rattle.wrapper_data.specs.declared.block.Block.{Block}
use Rattle.wrapper_data.specs.declared.run.TrapKind.TheVariants as trap
use Rattle.wrapper_data.specs.declared.value.RustValue.TheVariants as value
use Rattle.wrapper_data.specs.declared.word.Word.{Word}
use Rattle.wrapper_data.specs.declared.word.Word.TheVariants as word
use Rattle.wrapper_values.specs.declared.state.Local.{Local}
use Rattle.wrapper_values.specs.declared.state.State.{State}
use Rattle.wrapper_values.specs.declared.state.Val.{Val}
use Rattle.wrapper_values.specs.declared.state.Val.TheVariants as val
use Rattle.wrapper_values.specs.Act.{Act, Done, ◌>>=◌, ◌>>◌, or_stop, pure, stop}
use Rattle.wrapper_values.specs.Effect.{integer_of, word_of}
use Rattle.wrapper_run.specs.Memory.{block_at, block_from, bytes_from, stored, stored_small, without}
use Rattle.wrapper_values.specs.Owning.{buffer_of, is_taken, owned, owned_in}
use Rattle.wrapper_values.specs.Setting.{Setting, failed, stuck}

-- a look at the state, which changes nothing, and a change of it
abbrev pub look : {A : Type 0} → (State → A) → Act A
look f = λ s. Done (f s) s

abbrev pub turn : (State → State) → Act (Unit {0})
turn f = λ s. Done tt (f s)

-- a block at an address has an owner
abbrev pub owns : ℕ → Act (Unit {0})
owns address = turn (λ s. record s { taken = s.taken ++ address ∷ [] })

abbrev pub keep_blocks : List Block → Act (Unit {0})
keep_blocks blocks = turn (λ s. record s { heap = record s.heap { blocks = blocks } })

-- the bytes at an address become a text's own

abbrev pub untaken : ℕ → ℕ → State → Option Block
untaken address size s = if is_taken address s.taken then None else block_at address size s.heap.blocks

abbrev pub owner_of : Setting → ℕ → ℕ → Option (List ℕ) → Act Val
owner_of w address size o = or_stop (failed w trap.Pointer) o >> owns address >> pure (val.Value (value.Buffer address size true))

abbrev pub own_block : Setting → ℕ → ℕ → Option Block → Act Val
own_block w address size o = or_stop (failed w trap.Block) o >>= (λ b. owner_of w address size (bytes_from b.cells 0 size))

abbrev pub own : Setting → ℕ → ℕ → Act Val
own w address zero = pure (val.Value (value.Buffer address 0 true))
own w address (suc n) = look (untaken address (suc n)) >>= own_block w address (suc n)

-- at most 2^31 - 1 of them
unfoldable pub take_over : Setting → ℕ → ℕ → Act Val
take_over w address size =
    if nat_lt (2 ^ 31 - 1) size then stop (failed w trap.Size)
    else (if nat_eq address 0 then stop (failed w trap.Pointer) else own w address size)

-- bytes that are owned are a text

abbrev pub owned_bytes : ℕ → ℕ → State → Option (List ℕ)
owned_bytes address zero s = Some []
owned_bytes address (suc n) s =
    if is_taken address s.taken then option_and_then (λ b. bytes_from b.cells 0 (suc n)) (block_at address (suc n) s.heap.blocks) else None

abbrev pub tested : Setting → Val → Option (List ℕ) → Act Val
tested w v o = or_stop (stuck w) o >>= (λ bytes. if is_utf8 bytes then pure v else stop (failed w trap.Utf8))

abbrev pub lift_buffer : Setting → Val → Option (ℕ × ℕ × Bool) → Act Val
lift_buffer w v (Some (address, size, true)) = look (owned_bytes address size) >>= tested w v
lift_buffer w v _ = stop (stuck w)

unfoldable pub lift_text : Setting → Val → Act Val
lift_text w v = lift_buffer w v (buffer_of v)

-- the bytes of a text that owns its block are that block, as a box

abbrev pub box_buffer : Setting → Val → Option (ℕ × ℕ × Bool) → Act Val
box_buffer w v (Some (address, size, true)) = pure v
box_buffer w v _ = stop (stuck w)

unfoldable pub boxed : Setting → Val → Act Val
boxed w v = box_buffer w v (buffer_of v)

-- what a value owns is freed

abbrev pub without_owner : ℕ → State → State
without_owner address s = record s { taken = filter (λ t. not (nat_eq t address)) s.taken }

abbrev pub removed : ℕ → ℕ → State → State
removed address size s = record s { heap = record s.heap { blocks = without address size s.heap.blocks } }

abbrev pub without_block : ℕ × ℕ → State → State
without_block b s = removed b.0 b.1 (without_owner b.0 s)

-- the live block that begins at an address, where an owner has it
abbrev pub owned_block : ℕ → State → Option Block
owned_block address s = if is_taken address s.taken then block_from address s.heap.blocks else None

-- it goes, with all its bytes
abbrev pub free_found : Setting → ℕ → Option Block → Act (Unit {0})
free_found w address o = or_stop (stuck w) o >>= (λ b. turn (without_block (address, b.size)))

unfoldable pub free : Setting → ℕ → Act (Unit {0})
free w address = look (owned_block address) >>= free_found w address

abbrev pub free_all : Setting → List ℕ → Act (Unit {0})
free_all w [] = pure tt
free_all w (address ∷ addresses) = free w address >> free_all w addresses

abbrev pub drop_value : Setting → Val → Act (Unit {0})
drop_value w v = free_all w (owned v)

abbrev pub drop_local : Setting → Option Val → Act (Unit {0})
drop_local w value = free_all w (owned_in value)

-- locals are dropped, the newest first
abbrev pub drop_locals : Setting → List Local → Act (Unit {0})
drop_locals w [] = pure tt
drop_locals w (l ∷ locals) = drop_locals w locals >> drop_local w l.value

abbrev pub keep_locals : List Local → Act (Unit {0})
keep_locals locals = λ s. Done tt (record s { locals = locals })

-- a scope ends: its locals are dropped, and so many stay, which were there before it
unfoldable pub leave_to : Setting → ℕ → Act (Unit {0})
leave_to w kept = λ s. (drop_locals w (drop kept s.locals) >> keep_locals (take kept s.locals)) (record s { locals = [] })

-- an act in a scope of its own: the locals that it makes are dropped once its value is there
abbrev pub in_scope : {A : Type 0} → Setting → Act A → Act A
in_scope w act = λ s. (act >>= (λ a. leave_to w (length s.locals) >> pure a)) s

-- a block stays, and has no owner any more

abbrev pub release_found : Setting → ℕ → Option Block → Act (Unit {0})
release_found w address o = or_stop (stuck w) o >> turn (without_owner address)

unfoldable pub release : Setting → ℕ → Act (Unit {0})
release w address = look (owned_block address) >>= release_found w address

abbrev pub release_all : Setting → List ℕ → Act (Unit {0})
release_all w [] = pure tt
release_all w (address ∷ addresses) = release w address >> release_all w addresses

-- a value is forgotten
abbrev pub forget : Setting → Val → Act Val
forget w v = release_all w (owned v) >> pure (val.Value value.Unit)

-- a block is freed by its address and size, where no owner has it

abbrev pub free_untaken : Setting → ℕ → ℕ → Option Block → Act (Unit {0})
free_untaken w address size o = or_stop (failed w trap.Block) o >> turn (removed address size)

abbrev pub free_bytes : Setting → ℕ → ℕ → Act (Unit {0})
free_bytes w address zero = pure tt
free_bytes w address (suc n) = look (untaken address (suc n)) >>= free_untaken w address (suc n)

-- at most 2^31 - 1 bytes
unfoldable pub dealloc : Setting → ℕ → ℕ → Act (Unit {0})
dealloc w address size = if nat_lt (2 ^ 31 - 1) size then stop (failed w trap.Size) else free_bytes w address size

-- the address, the size and the alignment, by words
abbrev pub dealloc_words : Setting → List Val → Act Val
dealloc_words w (val.Word (word.Pointer address) ∷ val.Word (word.Length size) ∷ val.Word (word.Length align) ∷ []) = dealloc w address size >> pure (val.Value value.Unit)
dealloc_words w _ = stop (stuck w)

-- a core value is written

abbrev pub write_word : Setting → WasmType → ℕ → Option Word → Act (Unit {0})
write_word w ty address o = or_stop (stuck w) o >>= (λ x. look (λ s. stored ty address x s.heap.blocks) >>= or_stop (stuck w) >>= keep_blocks)

-- a value of a core type is written at an offset from an address
abbrev pub store_word : Setting → ArchitectureSize → WasmType → Val → Val → Act (Unit {0})
store_word w offset ty v (val.Word (word.Pointer address)) = write_word w ty (address + bytes_at offset 4) (word_of ty v)
store_word w offset ty v _ = stop (stuck w)

-- the low bytes of a number are written

abbrev pub write_small : Setting → SmallType → ℕ → Option ℤ → Act (Unit {0})
write_small w ty address o = or_stop (stuck w) o >>= (λ z. look (λ s. stored_small ty address z s.heap.blocks) >>= or_stop (stuck w) >>= keep_blocks)

-- what is cut to a small type is written at an offset from an address
abbrev pub store_small : Setting → ArchitectureSize → SmallType → Val → Val → Act (Unit {0})
store_small w offset ty v (val.Word (word.Pointer address)) = write_small w ty (address + bytes_at offset 4) (integer_of v)
store_small w offset ty v _ = stop (stuck w)
