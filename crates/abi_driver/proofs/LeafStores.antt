-- Scalars and texts are stored.
use Rattle.std.proofs.Common.{◌≡◌, ℕ, ◌+◌, ◌*◌, ◌%◌, ◌^◌, ◌<◌, ◌≤◌, ◌⊎◌, Bool, true, false, List, [], ◌∷◌, ◌++◌, length, get_or, None, Some, option_map, refl, sym, ap, ap₂, ◌∙◌, subst, arith}
use mathlib.Core.Logic.{inl, inr}
use Rattle.wit_model.specs.Size.{bytes_at}
use Rattle.wit_model.specs.declared.size.ArchitectureSize.{ArchitectureSize}
use Rattle.wit_model.specs.declared.types.TypeDef.{TypeDef}
use Rattle.wit_model.specs.declared.types.WitType.{WitType}
use Rattle.wit_model.specs.declared.types.WitType.TheVariants as wit
use Rattle.wit_model.specs.declared.wasm_type.WasmType.{WasmType}
use Rattle.wit_model.specs.declared.wasm_type.WasmType.TheVariants as wasm
use Rattle.wit_layout.specs.Tree.{Scalar}
use Rattle.wrapper_data.specs.declared.block.Block.{Block}
use Rattle.wrapper_data.specs.declared.word.Word.{Word}
use Rattle.wrapper_data.specs.declared.word.Word.TheVariants as core
use Rattle.wrapper_meaning.specs.AsWords.{SaysScalar, passed_word, Says, Saying}
use Rattle.wrapper_meaning.specs.Cells.{HasNumber, little}
use Rattle.wrapper_meaning.specs.InMemory.{stored_bits, Holds}
use Rattle.wrapper_meaning.specs.Items.{SameItems}
use Rattle.wrapper_meaning.specs.Shape.{shape_of}
use Rattle.wrapper_meaning.specs.Shape.Shape.{scalar, text}
use Rattle.wrapper_meaning.specs.Value.{ScalarValue}
use Rattle.wrapper_meaning.proofs.Lists.{some_same}
use Rattle.wrapper_meaning.proofs.PartPlaces.{aligned_part}
use Rattle.abi_bindgen.specs.declared.instruction.Instruction.{Instruction}
use Rattle.abi_bindgen.specs.declared.instruction.Instruction.TheVariants.{LengthStore, PointerStore}
use Rattle.abi_bindgen.specs.Account.{Account, addresses}
use Rattle.abi_bindgen.specs.Instructions.{Emits, MakesBy, RowBy, RowTouch, lifted_scalar, lowered_scalar, lowering}
use Rattle.abi_bindgen.specs.Laws.{Adds, At, Facts, Sound, core_data, ofs}
use Rattle.abi_bindgen.specs.Lowers.{LowersFlat}
use Rattle.abi_bindgen.specs.Meaning.{Meaning, item, of, word}
use Rattle.abi_bindgen.specs.Memory.{storing}
use Rattle.abi_bindgen.specs.Places.{IsWritten, replaced}
use Rattle.abi_bindgen.specs.ScalarTouches.{scalar_store}
use Rattle.abi_driver.specs.Stores.{LowersToMemory}
use Rattle.abi_bindgen.specs.Touches.{Part, StoresWord, accessed, low_byte, low_half, reached, stores, touch, whole}
use Rattle.abi_bindgen.proofs.Done.{does_done}
use Rattle.abi_bindgen.proofs.LowerSteps.{scalar_type}
use Rattle.abi_driver.proofs.Replaced.{replaced_formed}
use Rattle.abi_bindgen.proofs.Ordinary.{adds_of, touches_ordinary}
use Rattle.abi_bindgen.proofs.Runs.{adds_both}
use Rattle.abi_bindgen.proofs.ScalarRanges.{stored_ranged}
use Rattle.abi_driver.proofs.ScalarsInMemory.{scalar_alignment, scalar_size, store_access, stored_scalar, stored_type}
use Rattle.abi_driver.proofs.StoreSteps.{word_again}
use Rattle.abi_driver.proofs.Storing.{stored_again, stores_in, written_both}
use Rattle.wrapper_meaning.proofs.PostReturn.{total-append}
use Rattle.abi_bindgen.specs.Lowering.{said}
use Rattle.abi_bindgen.proofs.LoweredPlainly.{passed_plainly}
use Rattle.abi_driver.proofs.PutSteps.{puts_plainly}
use Rattle.wit_layout.specs.Sizes.{elem_size}
use Rattle.wrapper_meaning.specs.Layout.{layout}

-- 1. Which store a scalar's is

pub record IsScalarStore (ty : WitType) (o : ArchitectureSize) (i : Instruction) : Type 0 where
  pub scalar_is : Scalar
  pub shape : (types : List TypeDef) → shape_of types ty ≡ scalar scalar_is
  pub part : Part
  pub word_type : WasmType
  pub lowers : lowered_scalar i ≡ None
  pub lifts : lifted_scalar i ≡ None
  pub touches : touch i ≡ Some (stores part word_type o)
  pub is_access : (w : ℕ) → accessed w part false word_type ≡ store_access scalar_is

module _ (o : ArchitectureSize) (i : Instruction) where
  told : (ty : WitType) (s : Scalar) (part : Part) (word_type : WasmType) (j : Instruction) → Some j ≡ Some i → lowered_scalar j ≡ None → lifted_scalar j ≡ None → touch j ≡ Some (stores part word_type o)
      → ((types : List TypeDef) → shape_of types ty ≡ scalar s) → ((w : ℕ) → accessed w part false word_type ≡ store_access s) → IsScalarStore ty o i
  told ty s part word_type j e lowers lifts touches shape is =
      let same = some_same j i e in
      record {
        scalar_is = s;
        shape = shape;
        part = part;
        word_type = word_type;
        lowers = ap lowered_scalar (sym same) ∙ lowers;
        lifts = ap lifted_scalar (sym same) ∙ lifts;
        touches = ap touch (sym same) ∙ touches;
        is_access = is;
      }

  pub store_type : (ty : WitType) → scalar_store ty o ≡ Some i → IsScalarStore ty o i
  store_type wit.Bool e = told wit.Bool Scalar.bool low_byte wasm.I32 _ e refl refl refl (λ types. refl) (λ w. refl)
  store_type wit.U8 e = told wit.U8 Scalar.u8 low_byte wasm.I32 _ e refl refl refl (λ types. refl) (λ w. refl)
  store_type wit.S8 e = told wit.S8 Scalar.s8 low_byte wasm.I32 _ e refl refl refl (λ types. refl) (λ w. refl)
  store_type wit.U16 e = told wit.U16 Scalar.u16 low_half wasm.I32 _ e refl refl refl (λ types. refl) (λ w. refl)
  store_type wit.S16 e = told wit.S16 Scalar.s16 low_half wasm.I32 _ e refl refl refl (λ types. refl) (λ w. refl)
  store_type wit.U32 e = told wit.U32 Scalar.u32 whole wasm.I32 _ e refl refl refl (λ types. refl) (λ w. refl)
  store_type wit.S32 e = told wit.S32 Scalar.s32 whole wasm.I32 _ e refl refl refl (λ types. refl) (λ w. refl)
  store_type wit.Char e = told wit.Char Scalar.char whole wasm.I32 _ e refl refl refl (λ types. refl) (λ w. refl)
  store_type wit.U64 e = told wit.U64 Scalar.u64 whole wasm.I64 _ e refl refl refl (λ types. refl) (λ w. refl)
  store_type wit.S64 e = told wit.S64 Scalar.s64 whole wasm.I64 _ e refl refl refl (λ types. refl) (λ w. refl)
  store_type wit.F32 e = told wit.F32 Scalar.f32 whole wasm.F32 _ e refl refl refl (λ types. refl) (λ w. refl)
  store_type wit.F64 e = told wit.F64 Scalar.f64 whole wasm.F64 _ e refl refl refl (λ types. refl) (λ w. refl)
  store_type wit.String e = absurd (let h = e in cc)
  store_type wit.ErrorContext e = absurd (let h = e in cc)
  store_type (wit.Id id) e = absurd (let h = e in cc)

-- 2. Words of a pointer's size

pub at_least : (w : ℕ) → (w ≡ 2) ⊎ (w ≡ 3) → 2 ≤ w
at_least w (inl e) = omega (arith, e)
at_least w (inr e) = omega (arith, e)

below_four : (n : ℕ) → n < 2 ^ 32 → n % 256 ^ 4 ≡ n
below_four n l = omega arith

below_eight : (n : ℕ) → n < 2 ^ 64 → n % 256 ^ 8 ≡ n
below_eight n l = omega arith

pub fits_word : (w n : ℕ) → (w ≡ 2) ⊎ (w ≡ 3) → n < 2 ^ (8 * 2 ^ w) → n % 256 ^ (2 ^ w) ≡ n
fits_word w n (inl e) l = ap (λ k. n % 256 ^ (2 ^ k)) e ∙ below_four n (subst (λ k. n < 2 ^ (8 * 2 ^ k)) e l)
fits_word w n (inr e) l = ap (λ k. n % 256 ^ (2 ^ k)) e ∙ below_eight n (subst (λ k. n < 2 ^ (8 * 2 ^ k)) e l)

low_word : (w n : ℕ) → (w ≡ 2) ⊎ (w ≡ 3) → n < 2 ^ 31 → n < 2 ^ (8 * 2 ^ w)
low_word w n (inl e) l = subst (λ k. n < 2 ^ (8 * 2 ^ k)) (sym e) (omega (arith, l))
low_word w n (inr e) l = subst (λ k. n < 2 ^ (8 * 2 ^ k)) (sym e) (omega (arith, l))

pub itself : (w : ℕ) → (w ≡ 2) ⊎ (w ≡ 3) → 2 ^ w % 2 ^ w ≡ 0
itself w (inl e) = ap (λ k. 2 ^ k % 2 ^ k) e
itself w (inr e) = ap (λ k. 2 ^ k % 2 ^ k) e

-- 3. Stores

-- owners are let go, and then what is left stays
owns_kept : (s s1 u own : List ℕ) → SameItems (s1 ++ own) (s ++ []) → SameItems (u ++ []) (s1 ++ []) → SameItems (u ++ own) (s ++ [])
owns_kept s s1 u own one two g = omega (arith, one g, two g, total-append g u own, total-append g u [], total-append g s1 own, total-append g s1 [])

said_word : (realloc : Bool) (given : List Block) (s : Scalar) (v : ScalarValue s) (x : Word) → SaysScalar (said realloc given) s v x → x ≡ passed_word s v
said_word false given s v x h = h
said_word true given s v x h = h

module _ {Self Operand : Type 0} (m : Meaning Self Operand) (sound : Sound m) (types : List TypeDef) where
  -- the row of a store
  pub store_row : (i : Instruction) (part : Part) (ty : WasmType) (o : ArchitectureSize) (os rs : List Operand) (a b : Self) → lowered_scalar i ≡ None → lifted_scalar i ≡ None → touch i ≡ Some (stores part ty o) → Emits m types i os rs a b
      → StoresWord m (accessed m.width part false ty) o os rs a b
  store_row i part ty o os rs a b lowers lifts touches e =
      subst (λ t. RowTouch m types i t os rs a b) touches (subst (λ x. RowBy m types i None x os rs a b) lifts (subst (λ x. RowBy m types i x (lifted_scalar i) os rs a b) lowers e.row))

  scalar_at : (realloc : Bool) (s : Scalar) (a b c : Self) (o r address : Operand) (offset : ArchitectureSize) → LowersFlat m realloc (scalar s) o (r ∷ []) a b → Adds m b c → StoresWord m (store_access s) offset (r ∷ address ∷ []) [] b c
      → LowersToMemory m realloc (scalar s) o address offset a c
  scalar_at realloc s a b c o r address offset flat adds store = record {
    adds = adds_both m a b c flat.adds adds;
    asks_nothing = flat.asks_nothing;
    row = λ given v x own listed stands w f others s0 st q k blk left at room goes.
        let acc = m.account st in
        let pointer : Facts m = of address (word (core.Pointer q)) ∷ [] in
        let Say : Saying = Says m.width (said realloc given) (scalar s) v in
        let at1 : At m w f a b ((of o (item x) ∷ []) ++ (pointer ++ others)) s0 st = record { serves = adds.grows.serves w at.serves; done = at.done; holds = at.holds } in
        let one = passed_plainly m realloc Say (of o (item x) ∷ []) own [] (r ∷ []) a b refl (flat.row given v x own listed stands) w f (pointer ++ others) s0 st left at1 room.formed goes in
        let y = one.says.0 in
        let empty : own ≡ [] = one.says.3 in
        let s1 = one.state in
        let after1 = one.after in
        let is : ofs m (r ∷ []) (core_data m one.ws) ≡ of r (word y) ∷ [] = ap (λ ws. ofs m (r ∷ []) (core_data m ws)) one.says.1 in
        let at2 : At m w f b c (ofs m (r ∷ address ∷ []) (word y ∷ word (core.Pointer q) ∷ []) ++ others) s0 s1 = record { serves = at.serves; done = one.done; holds = subst (λ fs. m.denotes w b (fs ++ (pointer ++ others)) s1) is after1.denotes } in
        let grain = (store_access s).grain in
        let size = scalar_size m.width s in
        let known : y ≡ passed_word s v = said_word realloc given s v y one.says.2 in
        let stored = stores_in m.width (store_access s) (reached m q offset) (passed_word s v) blk k (record acc { taken = left }) room.formed room.there room.starts (omega (arith, room.fits, size)) (subst (λ n. reached m q offset % n ≡ 0) (scalar_alignment m.width s) room.aligned)
        (at_least m.width sound.wide) (stored_type s v) (stored_ranged s v listed) in
        let all = stored.0 in
        let two = does_done m (Unit {0}) b c (ofs m (r ∷ address ∷ []) (word y ∷ word (core.Pointer q) ∷ [])) (λ f. storing m.width (store_access s) (reached m q offset) y) (λ u fs. fs ≡ []) (λ u. []) (λ u. []) (store y q) w f others s0 s1 at2
        (record { result = tt; account = record acc { taken = left; heap = record { blocks = replaced all acc.heap.blocks } } }) (ap (λ z. storing m.width (store_access s) (reached m q offset) z (m.account s1)) known ∙ ap (storing m.width (store_access s) (reached m q offset) (passed_word s v)) after1.account ∙ stored.1) in
        let after2 = two.2.2 in
        puts_plainly m realloc (Holds m.width (said realloc given) (scalar s) v) k (elem_size m.width (layout (scalar s))) blk k own left c w f others s0 st room.formed room.there (
          two.0,
          all,
          two.1,
          record {
            written = subst (λ n. IsWritten k n blk all) (sym size) stored.2;
            holds = (subst (λ n. HasNumber all k n (stored_bits s v)) (sym size) (subst (λ n. HasNumber all k (2 ^ grain) n) (stored_scalar s v listed) stored.3), empty);
          },
          record {
            account = after2.account;
            owns = owns_kept (m.owns st) (m.owns s1) (m.owns two.0) (addresses own) after1.owns after2.owns;
            denotes = subst (λ fs. m.denotes w c (fs ++ others) two.0) two.2.1 after2.denotes;
          },
        );
  }

  pub scalar_stores : (realloc : Bool) (ty : WitType) (store : Instruction) (offset : ArchitectureSize) (a b c : Self) (o r address : Operand) (os : List Operand) → scalar_store ty offset ≡ Some store → os ≡ r ∷ []
      → LowersFlat m realloc (shape_of types ty) o os a b → Emits m types store (r ∷ address ∷ []) [] b c → LowersToMemory m realloc (shape_of types ty) o address offset a c
  scalar_stores realloc ty store offset a b c o r address os is one flat e =
      let k = store_type offset store ty is in
      let row : StoresWord m (store_access k.scalar_is) offset (r ∷ address ∷ []) [] b c =
      subst (λ a. StoresWord m a offset (r ∷ address ∷ []) [] b c) (k.is_access m.width) (store_row store k.part k.word_type offset (r ∷ address ∷ []) [] b c k.lowers k.lifts k.touches e) in
      subst (λ t. LowersToMemory m realloc t o address offset a c) (sym (k.shape types))
      (scalar_at realloc k.scalar_is a b c o r address offset (subst (λ t. LowersFlat m realloc t o (r ∷ []) a b) (k.shape types) (subst (λ xs. LowersFlat m realloc (shape_of types ty) o xs a b) one flat)) (adds_of m store (touches_ordinary store _ k.touches) types b c e.adds) row)

  pub text_stores : (realloc : Bool) (a b c d : Self) (o r n address : Operand) (os : List Operand) (offset behind : ArchitectureSize) → bytes_at behind (2 ^ m.width) ≡ bytes_at offset (2 ^ m.width) + 2 ^ m.width → os ≡ r ∷ n ∷ []
      → LowersFlat m realloc text o os a b → Emits m types (LengthStore behind) (n ∷ address ∷ []) [] b c → Emits m types (PointerStore offset) (r ∷ address ∷ []) [] c d → LowersToMemory m realloc text o address offset a d
  text_stores realloc a b c d o r n address os offset behind further pair flat lengths pointers = record {
    adds = adds_both m a b d flat.adds (adds_both m b c d lengths.adds pointers.adds);
    asks_nothing = flat.asks_nothing;
    row = λ given v x own listed stands w f others s0 st q k blk left at room goes.
        let acc = m.account st in
        let wide = at_least m.width sound.wide in
        let size = 2 ^ m.width in
        let base = reached m q offset in
        let pointer : Facts m = of address (word (core.Pointer q)) ∷ [] in
        let Say : Saying = Says m.width (said realloc given) text v in
        let at1 : At m w f a b ((of o (item x) ∷ []) ++ (pointer ++ others)) s0 st = record { serves = lengths.adds.grows.serves w (pointers.adds.grows.serves w at.serves); done = at.done; holds = at.holds } in
        let one = passed_plainly m realloc Say (of o (item x) ∷ []) own [] os a b refl (flat.row given v x own listed stands) w f (pointer ++ others) s0 st left at1 room.formed goes in
        let says = one.says in
        let place = says.address in
        let len = length v in
        let first : Facts m = of r (word (core.Pointer place)) ∷ [] in
        let second : Facts m = of n (word (core.Length len)) ∷ [] in
        let s1 = one.state in
        let after1 = one.after in
        let is : ofs m os (core_data m one.ws) ≡ first ++ second = ap (λ xs. ofs m xs (core_data m one.ws)) pair ∙ ap (λ ws. ofs m (r ∷ n ∷ []) (core_data m ws)) says.pair in
        let facts : m.denotes w b ((first ++ second) ++ (pointer ++ others)) s1 = subst (λ fs. m.denotes w b (fs ++ (pointer ++ others)) s1) is after1.denotes in
        let doubled : m.denotes w b ((pointer ++ first) ++ (second ++ (pointer ++ others))) s1 = word_again m sound types w b (first ++ second) others address (core.Pointer q) s1 facts in
        let at2 : At m w f b c (ofs m (n ∷ address ∷ []) (word (core.Length len) ∷ word (core.Pointer q) ∷ []) ++ (first ++ (pointer ++ others))) s0 s1 =
        record { serves = pointers.adds.grows.serves w at.serves; done = one.done; holds = sound.swap w b (pointer ++ first) second (pointer ++ others) s1 doubled } in
        let row1 = store_row (LengthStore behind) whole wasm.Length behind (n ∷ address ∷ []) [] b c refl refl refl lengths in
        let row2 = store_row (PointerStore offset) whole wasm.Pointer offset (r ∷ address ∷ []) [] c d refl refl refl pointers in
        let length_access = accessed m.width whole false wasm.Length in
        let pointer_access = accessed m.width whole false wasm.Pointer in
        let reach : reached m q behind ≡ base + size = ap (λ z. q + z) further ∙ omega arith in
        let put1 = stores_in m.width length_access (reached m q behind) (core.Length len) blk (k + size) (record acc { taken = left }) room.formed room.there (reach ∙ omega (arith, room.starts)) (omega (arith, room.fits))
        (subst (λ z. z % size ≡ 0) (sym reach) (aligned_part base size m.width m.width room.aligned (omega arith) (itself m.width sound.wide))) wide refl refl in
        let mid = put1.0 in
        let acc1 : Account m.Item = record acc { taken = left; heap = record { blocks = replaced mid acc.heap.blocks } } in
        let two = does_done m (Unit {0}) b c (ofs m (n ∷ address ∷ []) (word (core.Length len) ∷ word (core.Pointer q) ∷ [])) (λ f. storing m.width length_access (reached m q behind) (core.Length len)) (λ u fs. fs ≡ []) (λ u. []) (λ u. []) (row1 (core.Length len) q) w f (first ++ (pointer ++ others)) s0 s1 at2
        (record { result = tt; account = acc1 }) (ap (storing m.width length_access (reached m q behind) (core.Length len)) after1.account ∙ put1.1) in
        let s2 = two.0 in
        let after2 = two.2.2 in
        let formed = replaced_formed acc.heap.blocks blk mid (k + size) size room.formed room.there put1.2 in
        let at3 : At m w f c d (ofs m (r ∷ address ∷ []) (word (core.Pointer place) ∷ word (core.Pointer q) ∷ []) ++ others) s0 s2 = record { serves = at.serves; done = two.1; holds = subst (λ fs. m.denotes w c (fs ++ (first ++ (pointer ++ others))) s2) two.2.1 after2.denotes } in
        let put2 = stores_in m.width pointer_access base (core.Pointer place) mid k acc1 formed.0 formed.1 (room.starts ∙ ap (λ z. z + k) (sym put1.2.same_address)) (omega (arith, room.fits, put1.2.same_size)) room.aligned wide refl refl in
        let all = put2.0 in
        let three = does_done m (Unit {0}) c d (ofs m (r ∷ address ∷ []) (word (core.Pointer place) ∷ word (core.Pointer q) ∷ [])) (λ f. storing m.width pointer_access base (core.Pointer place)) (λ u fs. fs ≡ []) (λ u. []) (λ u. []) (row2 (core.Pointer place) q) w f others s0 s2 at3
        (record { result = tt; account = record acc1 { heap = record { blocks = replaced all acc1.heap.blocks } } }) (ap (storing m.width pointer_access base (core.Pointer place)) after2.account ∙ put2.1) in
        let s3 = three.0 in
        let after3 = three.2.2 in
        let short : len < 2 ^ 31 = omega (arith, says.buffer.bounded) in
        let kept : HasNumber mid (k + size) size len = subst (λ z. HasNumber mid (k + size) size z) (fits_word m.width len sound.wide (low_word m.width len sound.wide short)) put1.3 in
        puts_plainly m realloc (Holds m.width (said realloc given) text v) k (elem_size m.width (layout text)) blk k own left d w f others s0 st room.formed room.there (
          s3,
          all,
          three.1,
          record {
            written = written_both blk mid all k (2 * size) (k + size) size k size put1.2 put2.2 (omega arith) (omega arith) (omega arith) (omega arith);
            holds = record {
              address = place;
              pointer = subst (λ z. HasNumber all k size z) (fits_word m.width place sound.wide says.range) put2.3;
              counted = (kept.0, ap (option_map little) (put2.2.outside (k + size) size (inr (omega arith))) ∙ kept.1);
              buffer = says.buffer;
            };
          },
          record {
            account = stored_again (record acc { taken = left }) acc1 (m.account s3) mid all refl after3.account put2.2.same_address;
            owns = owns_kept (m.owns st) (m.owns s1) (m.owns s3) (addresses own) after1.owns (λ g. after3.owns g ∙ after2.owns g);
            denotes = subst (λ fs. m.denotes w d (fs ++ others) s3) three.2.1 after3.denotes;
          },
        );
  }

-- 4. Lists of one operand, and of two

pub one_of : {A : Type 0} (xs read : List A) (at x : A) → length xs ≡ 1 → read ≡ xs → at ≡ get_or read 0 at → x ≡ at → xs ≡ x ∷ []
one_of [] read at x len same is copied = absurd (omega (arith, len))
one_of (y ∷ []) read at x len same is copied = ap (λ z. z ∷ []) (sym (copied ∙ is ∙ ap (λ zs. get_or zs 0 at) same))
one_of (y ∷ z ∷ xs) read at x len same is copied = absurd (omega (arith, len))

pub two_words : {A : Type 0} (xs one two : List A) (at next x y : A) → length xs ≡ 2 → one ≡ xs → two ≡ xs → at ≡ get_or one 0 at → next ≡ get_or two 1 next → x ≡ at → y ≡ next → xs ≡ x ∷ y ∷ []
two_words [] one two at next x y len same1 same2 is1 is2 copied1 copied2 = absurd (omega (arith, len))
two_words (p ∷ []) one two at next x y len same1 same2 is1 is2 copied1 copied2 = absurd (omega (arith, len))
two_words (p ∷ r ∷ []) one two at next x y len same1 same2 is1 is2 copied1 copied2 =
    ap₂ (λ a b. a ∷ b ∷ []) (sym (copied1 ∙ is1 ∙ ap (λ zs. get_or zs 0 at) same1)) (sym (copied2 ∙ is2 ∙ ap (λ zs. get_or zs 1 next) same2))
two_words (p ∷ r ∷ s ∷ xs) one two at next x y len same1 same2 is1 is2 copied1 copied2 = absurd (omega (arith, len))

module _ {Self Operand : Type 0} (m : Meaning Self Operand) (types : List TypeDef) where
  -- the word of a scalar
  pub one_word : (ty : WitType) (i : Instruction) (a b : Self) (o : Operand) (os read : List Operand) (at r : Operand) → lowering ty ≡ Some i → Emits m types i (o ∷ []) os a b → read ≡ os → at ≡ get_or read 0 at → r ≡ at → os ≡ r ∷ []
  one_word ty i a b o os read at r is e same there copied =
      one_of os read at r (subst (λ x. MakesBy types i x (lifted_scalar i) (length os)) (scalar_type ty i is).lowers e.results) same there copied
