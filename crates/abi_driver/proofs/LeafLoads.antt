-- Scalars and texts are loaded.
use Rattle.std.proofs.Common.{◌≡◌, ℕ, ◌+◌, ◌*◌, ◌%◌, ◌^◌, ◌<◌, ◌⊎◌, Bool, true, false, List, [], ◌∷◌, ◌++◌, length, None, Some, refl, sym, ap, ◌∙◌, subst, arith}
use mathlib.Core.Logic.{inl, inr}
use Rattle.wit_model.specs.Size.{bytes_at}
use Rattle.wit_model.specs.declared.size.ArchitectureSize.{ArchitectureSize}
use Rattle.wit_model.specs.declared.resolve.Resolve.{Resolve}
use Rattle.wit_model.specs.declared.types.TypeDef.{TypeDef}
use Rattle.wit_model.specs.declared.types.WitType.{WitType}
use Rattle.wit_model.specs.declared.types.WitType.TheVariants as wit
use Rattle.wit_model.specs.declared.wasm_type.WasmType.{WasmType}
use Rattle.wit_model.specs.declared.wasm_type.WasmType.TheVariants as wasm
use Rattle.wit_layout.specs.Tree.{Scalar}
use Rattle.wrapper_data.specs.declared.block.Block.{Block}
use Rattle.wrapper_data.specs.declared.word.Word.{Word}
use Rattle.wrapper_data.specs.declared.word.Word.TheVariants as core
use Rattle.wrapper_meaning.specs.AsWords.{Says}
use Rattle.wrapper_meaning.specs.Cells.{HasNumber}
use Rattle.wrapper_meaning.specs.Direction.{Direction, take}
use Rattle.wrapper_meaning.specs.InMemory.{Holds, stored_bits}
use Rattle.wrapper_meaning.specs.Items.{SameItems}
use Rattle.wrapper_meaning.specs.Shape.{shape_of}
use Rattle.wrapper_meaning.specs.Shape.Shape.{scalar, text}
use Rattle.wrapper_meaning.specs.Words.{word_of_bits}
use Rattle.wrapper_meaning.proofs.Lists.{some_same}
use Rattle.wrapper_meaning.proofs.PartPlaces.{aligned_part}
use Rattle.abi_bindgen.specs.declared.instruction.Instruction.{Instruction}
use Rattle.abi_bindgen.specs.declared.instruction.Instruction.TheVariants.{LengthLoad, PointerLoad}
use Rattle.abi_bindgen.specs.Account.{Done, Peer}
use Rattle.abi_bindgen.specs.Instructions.{Emits, IsSendable, Makes, RowBy, RowTouch, lifted_scalar, lifting, lowered_scalar}
use Rattle.abi_bindgen.specs.Laws.{Adds, At, Facts, Sound, core_data, ofs}
use Rattle.abi_bindgen.specs.Lifts.{LiftsFlat, MayTake, OneStands}
use Rattle.abi_driver.specs.Loads.{LiftsFromMemory}
use Rattle.abi_bindgen.specs.Meaning.{Meaning, of, word}
use Rattle.abi_bindgen.specs.Memory.{loading, word_read}
use Rattle.abi_bindgen.specs.Places.{HasRoom}
use Rattle.abi_bindgen.specs.ScalarTouches.{scalar_load}
use Rattle.abi_bindgen.specs.Touches.{LoadsWord, Part, accessed, loads, low_byte, low_half, reached, touch, whole}
use Rattle.abi_bindgen.proofs.Done.{does_done}
use Rattle.abi_driver.proofs.LeafStores.{at_least, itself}
use Rattle.abi_bindgen.proofs.Ordinary.{adds_of, touches_ordinary}
use Rattle.abi_bindgen.proofs.Runs.{adds_both}
use Rattle.abi_driver.proofs.ScalarsInMemory.{load_access, load_grain, loaded_scalar, scalar_alignment, scalar_size, store_access}
use Rattle.abi_driver.proofs.Storing.{loads_from}
use Rattle.wrapper_meaning.proofs.PostReturn.{total-append}
use Rattle.abi_driver.proofs.TakeSteps.{stays_gets}

-- 1. Which load a scalar's is

pub record IsScalarLoad (ty : WitType) (o : ArchitectureSize) (i : Instruction) : Type 0 where
  pub scalar_is : Scalar
  pub shape : (types : List TypeDef) → shape_of types ty ≡ scalar scalar_is
  pub part : Part
  pub signed : Bool
  pub word_type : WasmType
  pub lowers : lowered_scalar i ≡ None
  pub lifts : lifted_scalar i ≡ None
  pub touches : touch i ≡ Some (loads part signed word_type o)
  pub is_access : (w : ℕ) → accessed w part signed word_type ≡ load_access scalar_is

module _ (o : ArchitectureSize) (i : Instruction) where
  told : (ty : WitType) (s : Scalar) (part : Part) (signed : Bool) (word_type : WasmType) (j : Instruction) → Some j ≡ Some i → lowered_scalar j ≡ None → lifted_scalar j ≡ None → touch j ≡ Some (loads part signed word_type o)
      → ((types : List TypeDef) → shape_of types ty ≡ scalar s) → ((w : ℕ) → accessed w part signed word_type ≡ load_access s) → IsScalarLoad ty o i
  told ty s part signed word_type j e lowers lifts touches shape is =
      let same = some_same j i e in
      record {
        scalar_is = s;
        shape = shape;
        part = part;
        signed = signed;
        word_type = word_type;
        lowers = ap lowered_scalar (sym same) ∙ lowers;
        lifts = ap lifted_scalar (sym same) ∙ lifts;
        touches = ap touch (sym same) ∙ touches;
        is_access = is;
      }

  pub load_type : (ty : WitType) → scalar_load ty o ≡ Some i → IsScalarLoad ty o i
  load_type wit.Bool e = told wit.Bool Scalar.bool low_byte false wasm.I32 _ e refl refl refl (λ types. refl) (λ w. refl)
  load_type wit.U8 e = told wit.U8 Scalar.u8 low_byte false wasm.I32 _ e refl refl refl (λ types. refl) (λ w. refl)
  load_type wit.S8 e = told wit.S8 Scalar.s8 low_byte true wasm.I32 _ e refl refl refl (λ types. refl) (λ w. refl)
  load_type wit.U16 e = told wit.U16 Scalar.u16 low_half false wasm.I32 _ e refl refl refl (λ types. refl) (λ w. refl)
  load_type wit.S16 e = told wit.S16 Scalar.s16 low_half true wasm.I32 _ e refl refl refl (λ types. refl) (λ w. refl)
  load_type wit.U32 e = told wit.U32 Scalar.u32 whole false wasm.I32 _ e refl refl refl (λ types. refl) (λ w. refl)
  load_type wit.S32 e = told wit.S32 Scalar.s32 whole false wasm.I32 _ e refl refl refl (λ types. refl) (λ w. refl)
  load_type wit.Char e = told wit.Char Scalar.char whole false wasm.I32 _ e refl refl refl (λ types. refl) (λ w. refl)
  load_type wit.U64 e = told wit.U64 Scalar.u64 whole false wasm.I64 _ e refl refl refl (λ types. refl) (λ w. refl)
  load_type wit.S64 e = told wit.S64 Scalar.s64 whole false wasm.I64 _ e refl refl refl (λ types. refl) (λ w. refl)
  load_type wit.F32 e = told wit.F32 Scalar.f32 whole false wasm.F32 _ e refl refl refl (λ types. refl) (λ w. refl)
  load_type wit.F64 e = told wit.F64 Scalar.f64 whole false wasm.F64 _ e refl refl refl (λ types. refl) (λ w. refl)
  load_type wit.String e = absurd (let h = e in cc)
  load_type wit.ErrorContext e = absurd (let h = e in cc)
  load_type (wit.Id id) e = absurd (let h = e in cc)

-- 2. Words of a pointer's size, which are read whole

four_whole : (n : ℕ) → n < 256 ^ 4 → n % 2 ^ 32 ≡ n
four_whole n l = omega arith

eight_whole : (n : ℕ) → n < 256 ^ 8 → n % 2 ^ 64 ≡ n
eight_whole n l = omega arith

pub read_whole : (w n : ℕ) → (w ≡ 2) ⊎ (w ≡ 3) → n < 256 ^ (2 ^ w) → n % 2 ^ (8 * 2 ^ w) ≡ n
read_whole w n (inl e) l = ap (λ k. n % 2 ^ (8 * 2 ^ k)) e ∙ four_whole n (subst (λ k. n < 256 ^ (2 ^ k)) e l)
read_whole w n (inr e) l = ap (λ k. n % 2 ^ (8 * 2 ^ k)) e ∙ eight_whole n (subst (λ k. n < 256 ^ (2 ^ k)) e l)

four_in : (n : ℕ) → n < 256 ^ 4 → n < 2 ^ 32
four_in n l = omega arith

eight_in : (n : ℕ) → n < 256 ^ 8 → n < 2 ^ 64
eight_in n l = omega arith

pub in_word : (w n : ℕ) → (w ≡ 2) ⊎ (w ≡ 3) → n < 256 ^ (2 ^ w) → n < 2 ^ (8 * 2 ^ w)
in_word w n (inl e) l = subst (λ k. n < 2 ^ (8 * 2 ^ k)) (sym e) (four_in n (subst (λ k. n < 256 ^ (2 ^ k)) e l))
in_word w n (inr e) l = subst (λ k. n < 2 ^ (8 * 2 ^ k)) (sym e) (eight_in n (subst (λ k. n < 256 ^ (2 ^ k)) e l))

-- 3. Loads

module _ {Self Operand : Type 0} (m : Meaning Self Operand) (sound : Sound m) (types : List TypeDef) where
  -- the row of a load
  pub load_row : (i : Instruction) (part : Part) (signed : Bool) (ty : WasmType) (o : ArchitectureSize) (os rs : List Operand) (a b : Self) → lowered_scalar i ≡ None → lifted_scalar i ≡ None → touch i ≡ Some (loads part signed ty o) → Emits m types i os rs a b
      → LoadsWord m (accessed m.width part signed ty) o os rs a b
  load_row i part signed ty o os rs a b lowers lifts touches e =
      subst (λ t. RowTouch m types i t os rs a b) touches (subst (λ x. RowBy m types i None x os rs a b) lifts (subst (λ x. RowBy m types i x (lifted_scalar i) os rs a b) lowers e.row))

  scalar_at : (s : Scalar) (a b c : Self) (address x r : Operand) (offset : ArchitectureSize) → Adds m a b → LoadsWord m (load_access s) offset (address ∷ []) (x ∷ []) a b → LiftsFlat m (scalar s) (x ∷ []) r b c → LiftsFromMemory m (scalar s) address offset r a c
  scalar_at s a b c address x r offset adds load flat = record {
    adds = adds_both m a b c adds flat.adds;
    asks_nothing = flat.asks_nothing;
    row = λ v own listed w f others s0 st q k blk at room holds may.
        let acc = m.account st in
        let la = load_access s in
        let same = load_grain s in
        let size : 2 ^ la.grain ≡ 2 ^ (store_access s).grain = ap (λ g. 2 ^ g) same in
        let y = word_read m.width la (stored_bits s v) in
        let read = loads_from m.width f.form la (reached m q offset) (stored_bits s v) blk k acc room.formed room.there room.starts (omega (arith, room.fits, size, scalar_size m.width s))
        (subst (λ n. reached m q offset % n ≡ 0) (scalar_alignment m.width s ∙ sym size) room.aligned) (at_least m.width sound.wide) (subst (λ n. HasNumber blk k n (stored_bits s v)) (scalar_size m.width s ∙ sym size) holds.0) in
        let at1 : At m w f a b (ofs m (address ∷ []) (word (core.Pointer q) ∷ []) ++ others) s0 st = record { serves = flat.adds.grows.serves w at.serves; done = at.done; holds = at.holds } in
        let one = does_done m Word a b (ofs m (address ∷ []) (word (core.Pointer q) ∷ [])) (λ f. loading m.width f.form la (reached m q offset)) (λ z fs. fs ≡ ofs m (x ∷ []) (word z ∷ [])) (λ z. []) (λ z. []) (load q) w f others s0 st at1 (record { result = y; account = acc }) read in
        let s1 = one.0 in
        let after1 = one.2.2 in
        let at2 : At m w f b c (ofs m (x ∷ []) (core_data m (y ∷ [])) ++ others) s0 s1 = record { serves = at.serves; done = one.1; holds = subst (λ fs. m.denotes w b (fs ++ others) s1) one.2.1 after1.denotes } in
        stays_gets m (OneStands m (scalar s) v) own (r ∷ []) c w f others s0 st s1 [] after1.account after1.owns
        (flat.row v (y ∷ []) own listed (y, refl, loaded_scalar m.width s v listed, holds.1) w f others s0 s1 at2 (subst (MayTake own) (sym after1.account) may.may));
  }

  pub scalar_loads : (ty : WitType) (load : Instruction) (offset : ArchitectureSize) (a b c : Self) (address x r : Operand) → scalar_load ty offset ≡ Some load → Emits m types load (address ∷ []) (x ∷ []) a b
      → LiftsFlat m (shape_of types ty) (x ∷ []) r b c → LiftsFromMemory m (shape_of types ty) address offset r a c
  scalar_loads ty load offset a b c address x r is e flat =
      let k = load_type offset load ty is in
      let row : LoadsWord m (load_access k.scalar_is) offset (address ∷ []) (x ∷ []) a b =
      subst (λ z. LoadsWord m z offset (address ∷ []) (x ∷ []) a b) (k.is_access m.width) (load_row load k.part k.signed k.word_type offset (address ∷ []) (x ∷ []) a b k.lowers k.lifts k.touches e) in
      subst (λ t. LiftsFromMemory m t address offset r a c) (sym (k.shape types)) (scalar_at k.scalar_is a b c address x r offset (adds_of m load (touches_ordinary load _ k.touches) types a b e.adds) row (subst (λ t. LiftsFlat m t (x ∷ []) r b c) (k.shape types) flat))

  -- the words of a text that stands at an offset
  abbrev pub WordsThere : (dir : Direction) (v : List ℕ) (own : List Block) (x n : Operand) (c : Self) → m.World → Peer m.Item → Facts m → (s0 s : m.State) → Type 0
  WordsThere dir v own x n c w f others s0 s =
      (t : m.State) × (m.does w f (m.code c) s0 ≡ Done t) × (ws : List Word) × Says m.width dir text v ws own × (m.account t ≡ m.account s) × SameItems (m.owns t) (m.owns s) × m.denotes w c (ofs m (x ∷ n ∷ []) (core_data m ws) ++ others) t

  pub text_words : (dir : Direction) (a b c : Self) (address x n : Operand) (offset behind : ArchitectureSize) → bytes_at behind (2 ^ m.width) ≡ bytes_at offset (2 ^ m.width) + 2 ^ m.width → Emits m types (PointerLoad offset) (address ∷ []) (x ∷ []) a b
      → Emits m types (LengthLoad behind) (address ∷ []) (n ∷ []) b c → (v : List ℕ) (own : List Block) (w : m.World) (f : Peer m.Item) (others : Facts m) (s0 st : m.State) (q k : ℕ) (blk : Block)
      → At m w f a c (of address (word (core.Pointer q)) ∷ others) s0 st → HasRoom m.width text (reached m q offset) blk k (m.account st).heap → Holds m.width dir text v blk k own → WordsThere dir v own x n c w f others s0 st
  text_words dir a b c address x n offset behind further pointers lengths v own w f others s0 st q k blk at room holds =
      let acc = m.account st in
      let wide = at_least m.width sound.wide in
      let size = 2 ^ m.width in
      let base = reached m q offset in
      let pointer : Facts m = of address (word (core.Pointer q)) ∷ [] in
      let place = holds.address in
      let len = length v in
      let is_place : word_of_bits m.width wasm.Pointer place ≡ core.Pointer place = ap core.Pointer (read_whole m.width place sound.wide holds.pointer.0) in
      let is_len : word_of_bits m.width wasm.Length len ≡ core.Length len = ap core.Length (read_whole m.width len sound.wide holds.counted.0) in
      let pointer_access = accessed m.width whole false wasm.Pointer in
      let length_access = accessed m.width whole false wasm.Length in
      let row1 = load_row (PointerLoad offset) whole false wasm.Pointer offset (address ∷ []) (x ∷ []) a b refl refl refl pointers in
      let row2 = load_row (LengthLoad behind) whole false wasm.Length behind (address ∷ []) (n ∷ []) b c refl refl refl lengths in
      let reach : reached m q behind ≡ base + size = ap (λ z. q + z) further ∙ omega arith in
      let read1 = loads_from m.width f.form pointer_access base place blk k acc room.formed room.there room.starts (omega (arith, room.fits)) room.aligned wide holds.pointer in
      let read2 = loads_from m.width f.form length_access (reached m q behind) len blk (k + size) acc room.formed room.there (reach ∙ omega (arith, room.starts)) (omega (arith, room.fits)) (subst (λ z. z % size ≡ 0) (sym reach) (aligned_part base size m.width m.width room.aligned (omega arith) (itself m.width sound.wide))) wide holds.counted in
      let at1 : At m w f a b (ofs m (address ∷ []) (word (core.Pointer q) ∷ []) ++ (pointer ++ others)) s0 st =
      record { serves = lengths.adds.grows.serves w at.serves; done = at.done; holds = sound.again w a address (core.Pointer q) others st at.holds } in
      let one = does_done m Word a b (ofs m (address ∷ []) (word (core.Pointer q) ∷ [])) (λ f. loading m.width f.form pointer_access base) (λ z fs. fs ≡ ofs m (x ∷ []) (word z ∷ [])) (λ z. []) (λ z. []) (row1 q) w f (pointer ++ others) s0 st at1
      (record { result = word_of_bits m.width wasm.Pointer place; account = acc }) read1 in
      let s1 = one.0 in
      let after1 = one.2.2 in
      let first : Facts m = of x (word (core.Pointer place)) ∷ [] in
      let second : Facts m = of n (word (core.Length len)) ∷ [] in
      let facts1 : m.denotes w b (first ++ (pointer ++ others)) s1 = subst (λ fs. m.denotes w b (fs ++ (pointer ++ others)) s1) (one.2.1 ∙ ap (λ z. of x (word z) ∷ []) is_place) after1.denotes in
      let at2 : At m w f b c (ofs m (address ∷ []) (word (core.Pointer q) ∷ []) ++ (first ++ others)) s0 s1 = record { serves = at.serves; done = one.1; holds = sound.swap w b first pointer others s1 facts1 } in
      let two = does_done m Word b c (ofs m (address ∷ []) (word (core.Pointer q) ∷ [])) (λ f. loading m.width f.form length_access (reached m q behind)) (λ z fs. fs ≡ ofs m (n ∷ []) (word z ∷ [])) (λ z. []) (λ z. []) (row2 q) w f (first ++ others) s0 s1 at2
      (record { result = word_of_bits m.width wasm.Length len; account = acc }) (ap (loading m.width f.form length_access (reached m q behind)) after1.account ∙ read2) in
      let s2 = two.0 in
      let after2 = two.2.2 in
      let facts2 : m.denotes w c (second ++ (first ++ others)) s2 = subst (λ fs. m.denotes w c (fs ++ (first ++ others)) s2) (two.2.1 ∙ ap (λ z. of n (word z) ∷ []) is_len) after2.denotes in (
        s2,
        two.1,
        core.Pointer place ∷ core.Length len ∷ [],
        record { address = place; pair = refl; range = in_word m.width place sound.wide holds.pointer.0; buffer = holds.buffer },
        after2.account,
        λ g. omega (arith, after1.owns g, after2.owns g, total-append g (m.owns s2) [], total-append g (m.owns s1) [], total-append g (m.owns st) []),
        sound.swap w c second first others s2 facts2,
      )

  pub text_loads : (a b c d : Self) (address x n r : Operand) (offset behind : ArchitectureSize) → bytes_at behind (2 ^ m.width) ≡ bytes_at offset (2 ^ m.width) + 2 ^ m.width → Emits m types (PointerLoad offset) (address ∷ []) (x ∷ []) a b
      → Emits m types (LengthLoad behind) (address ∷ []) (n ∷ []) b c → LiftsFlat m text (x ∷ n ∷ []) r c d → LiftsFromMemory m text address offset r a d
  text_loads a b c d address x n r offset behind further pointers lengths flat = record {
    adds = adds_both m a b d pointers.adds (adds_both m b c d lengths.adds flat.adds);
    asks_nothing = flat.asks_nothing;
    row = λ v own listed w f others s0 st q k blk at room holds may.
        let at1 : At m w f a c (of address (word (core.Pointer q)) ∷ others) s0 st = record { serves = flat.adds.grows.serves w at.serves; done = at.done; holds = at.holds } in
        let one = text_words take a b c address x n offset behind further pointers lengths v own w f others s0 st q k blk at1 room holds in
        let at2 : At m w f c d (ofs m (x ∷ n ∷ []) (core_data m one.2) ++ others) s0 one.0 = record { serves = at.serves; done = one.1; holds = one.6 } in
        stays_gets m (OneStands m text v) own (r ∷ []) d w f others s0 st one.0 [] one.4 (λ g. omega (arith, one.5 g, total-append g (m.owns one.0) [], total-append g (m.owns st) []))
        (flat.row v one.2 own listed one.3 w f others s0 one.0 at2 (subst (MayTake own) (sym one.4) may.may));
  }

-- 4. The instruction that lifts a scalar may be sent, and has one result

module _ {Self Operand : Type 0} (m : Meaning Self Operand) (types : List TypeDef) where
  lift_ready : (r : Resolve) (ty : WitType) (i : Instruction) (os : List Operand) (b : Self) → lifting ty ≡ Some i → length os ≡ 1 → IsSendable m r i os b
  lift_ready r wit.Bool i os b e len = subst (λ j. IsSendable m r j os b) (some_same _ _ e) (record { built = refl; operands = len; suits = tt })
  lift_ready r wit.U8 i os b e len = subst (λ j. IsSendable m r j os b) (some_same _ _ e) (record { built = refl; operands = len; suits = tt })
  lift_ready r wit.S8 i os b e len = subst (λ j. IsSendable m r j os b) (some_same _ _ e) (record { built = refl; operands = len; suits = tt })
  lift_ready r wit.U16 i os b e len = subst (λ j. IsSendable m r j os b) (some_same _ _ e) (record { built = refl; operands = len; suits = tt })
  lift_ready r wit.S16 i os b e len = subst (λ j. IsSendable m r j os b) (some_same _ _ e) (record { built = refl; operands = len; suits = tt })
  lift_ready r wit.U32 i os b e len = subst (λ j. IsSendable m r j os b) (some_same _ _ e) (record { built = refl; operands = len; suits = tt })
  lift_ready r wit.S32 i os b e len = subst (λ j. IsSendable m r j os b) (some_same _ _ e) (record { built = refl; operands = len; suits = tt })
  lift_ready r wit.Char i os b e len = subst (λ j. IsSendable m r j os b) (some_same _ _ e) (record { built = refl; operands = len; suits = tt })
  lift_ready r wit.U64 i os b e len = subst (λ j. IsSendable m r j os b) (some_same _ _ e) (record { built = refl; operands = len; suits = tt })
  lift_ready r wit.S64 i os b e len = subst (λ j. IsSendable m r j os b) (some_same _ _ e) (record { built = refl; operands = len; suits = tt })
  lift_ready r wit.F32 i os b e len = subst (λ j. IsSendable m r j os b) (some_same _ _ e) (record { built = refl; operands = len; suits = tt })
  lift_ready r wit.F64 i os b e len = subst (λ j. IsSendable m r j os b) (some_same _ _ e) (record { built = refl; operands = len; suits = tt })
  lift_ready r wit.String i os b e len = absurd (let h = e in cc)
  lift_ready r wit.ErrorContext i os b e len = absurd (let h = e in cc)
  lift_ready r (wit.Id id) i os b e len = absurd (let h = e in cc)

  pub lift_sendable : (r : Resolve) (ty : WitType) (i : Instruction) (os : List Operand) (o : Operand) (b : Self) → lifting ty ≡ Some i → os ≡ o ∷ [] → IsSendable m r i os b
  lift_sendable r ty i os o b e is = lift_ready r ty i os b e (ap length is)

  pub lift_makes : (ty : WitType) (i : Instruction) (k : ℕ) → lifting ty ≡ Some i → Makes types i k → k ≡ 1
  lift_makes wit.Bool i k e h = subst (λ j. Makes types j k) (sym (some_same _ _ e)) h
  lift_makes wit.U8 i k e h = subst (λ j. Makes types j k) (sym (some_same _ _ e)) h
  lift_makes wit.S8 i k e h = subst (λ j. Makes types j k) (sym (some_same _ _ e)) h
  lift_makes wit.U16 i k e h = subst (λ j. Makes types j k) (sym (some_same _ _ e)) h
  lift_makes wit.S16 i k e h = subst (λ j. Makes types j k) (sym (some_same _ _ e)) h
  lift_makes wit.U32 i k e h = subst (λ j. Makes types j k) (sym (some_same _ _ e)) h
  lift_makes wit.S32 i k e h = subst (λ j. Makes types j k) (sym (some_same _ _ e)) h
  lift_makes wit.Char i k e h = subst (λ j. Makes types j k) (sym (some_same _ _ e)) h
  lift_makes wit.U64 i k e h = subst (λ j. Makes types j k) (sym (some_same _ _ e)) h
  lift_makes wit.S64 i k e h = subst (λ j. Makes types j k) (sym (some_same _ _ e)) h
  lift_makes wit.F32 i k e h = subst (λ j. Makes types j k) (sym (some_same _ _ e)) h
  lift_makes wit.F64 i k e h = subst (λ j. Makes types j k) (sym (some_same _ _ e)) h
  lift_makes wit.String i k e h = absurd (let h = e in cc)
  lift_makes wit.ErrorContext i k e h = absurd (let h = e in cc)
  lift_makes (wit.Id id) i k e h = absurd (let h = e in cc)
