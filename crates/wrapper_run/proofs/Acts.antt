-- What holds of the primitive acts holds of those that are made of them: each composite act is derived here once, for every property.
use Rattle.std.proofs.Common.{◌≡◌, ℕ, zero, suc, ◌+◌, ◌-◌, ◌^◌, Bool, true, false, cond, List, Option, None, Some, refl}
use Rattle.std.specs.Prelude.{ℤ, nat_eq, nat_lt}
use Rattle.std.specs.Option.{option_map}
use Rattle.std.specs.Str.{is_utf8}
use Rattle.wit_model.specs.Size.{bytes_at}
use Rattle.wit_model.specs.declared.size.ArchitectureSize.{ArchitectureSize}
use Rattle.wit_model.specs.declared.wasm_type.WasmType.{WasmType}
use Rattle.rust_tree.specs.declared.expr.SmallType.{SmallType}
use Rattle.wrapper_data.specs.declared.block.Block.{Block}
use Rattle.wrapper_data.specs.declared.run.Stop.{Stop}
use Rattle.wrapper_data.specs.declared.run.TrapKind.TheVariants as trap
use Rattle.wrapper_data.specs.declared.value.RustValue.TheVariants as value
use Rattle.wrapper_data.specs.declared.word.Word.{Word}
use Rattle.wrapper_data.specs.declared.word.Word.TheVariants as word
use Rattle.wrapper_values.specs.declared.state.Val.{Val}
use Rattle.wrapper_values.specs.declared.state.Val.TheVariants as val
use Rattle.wrapper_values.specs.Act.{Act, ◌>>=◌, ◌>>◌, or_stop, pure, stop}
use Rattle.wrapper_values.specs.Effect.{integer_of, word_of}
use Rattle.wrapper_values.specs.Owning.{buffer_of}
use Rattle.wrapper_values.specs.Setting.{Setting, failed, stuck}
use Rattle.wrapper_run.specs.Blocks.{dealloc, free_bytes, keep_blocks, lift_buffer, lift_text, look, own, owned_bytes, owns, removed, store_small, store_word, take_over, turn, untaken}
use Rattle.wrapper_run.specs.Memory.{bytes_from, loaded, loaded_small, stored, stored_small}
use Rattle.wrapper_run.specs.Run.{load_small, load_word, take_bytes}

-- what holds of acts without a step, of one after the other, and of each act that looks at the memory or changes it
pub record Acts (w : Setting) (P : (A : Type 0) → Act A → Type 0) : Type 1 where
  pub gives : (A : Type 0) (a : A) → P A (pure a)
  pub stops : (A : Type 0) (e : Stop) → P A (stop e)
  pub follows : (A B : Type 0) (act : Act A) (f : A → Act B) → P A act → ((a : A) → P B (f a)) → P B (act >>= f)
  -- a block that no owner has, with at least a byte
  pub finds : (e : Stop) (address n : ℕ) → P Block (look (untaken address (suc n)) >>= or_stop e)
  -- the bytes of a block that an owner has
  pub tells : (e : Stop) (address size : ℕ) → P (List ℕ) (look (owned_bytes address size) >>= or_stop e)
  pub owns : (address : ℕ) → P (Unit {0}) (owns address)
  pub removes : (e : Stop) (address n : ℕ) → P (Unit {0}) (look (untaken address (suc n)) >>= (λ o. or_stop e o >> turn (removed address (suc n))))
  pub loads : (e : Stop) (address : ℕ) (ty : WasmType) → P Val (look (λ s. option_map val.Word (loaded ty address s.heap.blocks)) >>= or_stop e)
  pub loads_small : (e : Stop) (address : ℕ) (ty : SmallType) → P Val (look (λ s. option_map val.Word (loaded_small ty address s.heap.blocks)) >>= or_stop e)
  pub stores : (address : ℕ) (ty : WasmType) (v : Val) (x : Word) → word_of ty v ≡ Some x → P (Unit {0}) (look (λ s. stored ty address x s.heap.blocks) >>= or_stop (stuck w) >>= keep_blocks)
  pub stores_small : (address : ℕ) (ty : SmallType) (z : ℤ) → P (Unit {0}) (look (λ s. stored_small ty address z s.heap.blocks) >>= or_stop (stuck w) >>= keep_blocks)

-- and that each act keeps which is made of such
module _ (w : Setting) (P : (A : Type 0) → Act A → Type 0) (h : Acts w P) where
  or_stops : (A : Type 0) (e : Stop) (o : Option A) → P A (or_stop e o)
  or_stops A e None = h.stops A e
  or_stops A e (Some a) = h.gives A a

  either : (A : Type 0) (b : Bool) (p q : Act A) → P A p → P A q → P A (cond b p q)
  either A true p q h k = h
  either A false p q h k = k

  -- blocks that come in

  owned : (address size : ℕ) → P Val (own w address size)
  owned address zero = h.gives Val (val.Value (value.Buffer address 0 true))
  owned address (suc n) =
      let whole : Val = val.Value (value.Buffer address (suc n) true) in
      h.follows Block Val (look (untaken address (suc n)) >>= or_stop (failed w trap.Block))
      (λ b. or_stop (failed w trap.Pointer) (bytes_from b.cells 0 (suc n)) >> owns address >> pure whole) (h.finds (failed w trap.Block) address n)
      (λ b. h.follows (Unit {0}) Val (or_stop (failed w trap.Pointer) (bytes_from b.cells 0 (suc n)) >> owns address) (λ _. pure whole)
      (h.follows (List ℕ) (Unit {0}) (or_stop (failed w trap.Pointer) (bytes_from b.cells 0 (suc n))) (λ _. owns address) (or_stops (List ℕ) (failed w trap.Pointer) (bytes_from b.cells 0 (suc n))) (λ _. h.owns address))
      (λ _. h.gives Val whole))

  taken_over : (address size : ℕ) → P Val (take_over w address size)
  unfolding take_over
  taken_over address size =
      either Val (nat_lt (2 ^ 31 - 1) size) (stop (failed w trap.Size)) (cond (nat_eq address 0) (stop (failed w trap.Pointer)) (own w address size)) (h.stops Val (failed w trap.Size))
      (either Val (nat_eq address 0) (stop (failed w trap.Pointer)) (own w address size) (h.stops Val (failed w trap.Pointer)) (owned address size))

  pub takes_bytes : (o : Option Val) (v : Val) → P Val (take_bytes w o v)
  takes_bytes (Some (val.Word (word.Length n))) (val.Word (word.Pointer address)) = taken_over address n
  takes_bytes _ _ = h.stops Val (stuck w)

  lifted : (v : Val) (o : Option (ℕ × ℕ × Bool)) → P Val (lift_buffer w v o)
  lifted v (Some (address, size, true)) =
      h.follows (List ℕ) Val (look (owned_bytes address size) >>= or_stop (stuck w)) (λ bytes. cond (is_utf8 bytes) (pure v) (stop (failed w trap.Utf8))) (h.tells (stuck w) address size)
      (λ bytes. either Val (is_utf8 bytes) (pure v) (stop (failed w trap.Utf8)) (h.gives Val v) (h.stops Val (failed w trap.Utf8)))
  lifted v _ = h.stops Val (stuck w)

  pub lifts : (v : Val) → P Val (lift_text w v)
  unfolding lift_text
  lifts v = lifted v (buffer_of v)

  -- blocks that go

  freed : (address size : ℕ) → P (Unit {0}) (free_bytes w address size)
  freed address zero = h.gives (Unit {0}) tt
  freed address (suc n) = h.removes (failed w trap.Block) address n

  pub deallocates : (address size : ℕ) → P (Unit {0}) (dealloc w address size)
  unfolding dealloc
  deallocates address size = either (Unit {0}) (nat_lt (2 ^ 31 - 1) size) (stop (failed w trap.Size)) (free_bytes w address size) (h.stops (Unit {0}) (failed w trap.Size)) (freed address size)

  -- loads and stores

  pub loads_word : (offset : ArchitectureSize) (ty : WasmType) (v : Val) → P Val (load_word w offset ty v)
  loads_word offset ty (val.Word (word.Pointer address)) = h.loads (failed w trap.Pointer) (address + bytes_at offset 4) ty
  loads_word offset ty _ = h.stops Val (stuck w)

  pub loads_number : (offset : ArchitectureSize) (ty : SmallType) (v : Val) → P Val (load_small w offset ty v)
  loads_number offset ty (val.Word (word.Pointer address)) = h.loads_small (failed w trap.Pointer) (address + bytes_at offset 4) ty
  loads_number offset ty _ = h.stops Val (stuck w)

  pub stores_word : (offset : ArchitectureSize) (ty : WasmType) (v at : Val) → P (Unit {0}) (store_word w offset ty v at)
  stores_word offset ty v (val.Word (word.Pointer address)) = go (word_of ty v) refl
    where
      go : (o : Option Word) → word_of ty v ≡ o → P (Unit {0}) (or_stop (stuck w) o >>= (λ x. look (λ s. stored ty (address + bytes_at offset 4) x s.heap.blocks) >>= or_stop (stuck w) >>= keep_blocks))
      go None is = h.stops (Unit {0}) (stuck w)
      go (Some x) is = h.stores (address + bytes_at offset 4) ty v x is
  stores_word offset ty v _ = h.stops (Unit {0}) (stuck w)

  pub stores_number : (offset : ArchitectureSize) (ty : SmallType) (v at : Val) → P (Unit {0}) (store_small w offset ty v at)
  stores_number offset ty v (val.Word (word.Pointer address)) = go (integer_of v)
    where
      go : (o : Option ℤ) → P (Unit {0}) (or_stop (stuck w) o >>= (λ z. look (λ s. stored_small ty (address + bytes_at offset 4) z s.heap.blocks) >>= or_stop (stuck w) >>= keep_blocks))
      go None = h.stops (Unit {0}) (stuck w)
      go (Some z) = h.stores_small (address + bytes_at offset 4) ty z
  stores_number offset ty v _ = h.stops (Unit {0}) (stuck w)
