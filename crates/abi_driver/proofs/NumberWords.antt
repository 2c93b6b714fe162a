-- Numbers of one byte, two or four are stored as the low bytes of words, one after another from the last to the first, and loaded from
-- there in their order.
use Rattle.std.specs.List.{AllByRecursion}
use Rattle.std.specs.Int.{w32, cast_signed}
use Rattle.std.proofs.Common.{◌≡◌, ◌⊎◌, ℕ, zero, suc, ◌+◌, ◌*◌, ◌%◌, ◌^◌, ◌<◌, ◌≤◌, true, false, List, [], ◌∷◌, ◌++◌, length, option_map, Contains, refl, sym, ap, ap₂, ◌∙◌, subst, arith, append_assoc}
use Rattle.std.proofs.Math.Nat.{add-mul-mod_self_right, mul-le-mul_right}
use Rattle.std.proofs.lemmas.Int.{ints}
use mathlib.Core.Logic.{inl, inr}
use Rattle.wit_model.specs.Size.{bytes_at}
use Rattle.wit_model.specs.declared.size.ArchitectureSize.{ArchitectureSize}
use Rattle.wit_model.specs.declared.types.TypeDef.{TypeDef}
use Rattle.wit_model.specs.declared.wasm_type.WasmType.TheVariants as wasm
use Rattle.wrapper_data.specs.Heap.{is_heap}
use Rattle.wrapper_data.specs.declared.block.Block.{Block}
use Rattle.wrapper_data.specs.declared.word.Word.{Word}
use Rattle.wrapper_data.specs.declared.word.Word.TheVariants as core
use Rattle.wrapper_meaning.specs.Cells.{HasNumber, little}
use Rattle.wrapper_meaning.specs.InMemory.{HasWords}
use Rattle.wrapper_meaning.specs.Numbers.{is_signed}
use Rattle.wrapper_meaning.specs.AsWords.{flag_bits}
use Rattle.wrapper_meaning.specs.Words.{IsWord, bits_of, word_of_bits}
use Rattle.abi_bindgen.specs.Account.{Account, Done, Got, Peer, has_type}
use Rattle.abi_bindgen.specs.Code.{store_by}
use Rattle.abi_bindgen.specs.Flow.{behind, both, each, each_back, emit, leading}
use Rattle.abi_bindgen.specs.Flows.{Flows}
use Rattle.abi_bindgen.specs.Instructions.{Emits}
use Rattle.abi_bindgen.specs.Laws.{Adds, After, At, Facts, Sound, core_data, ofs}
use Rattle.abi_bindgen.specs.Meaning.{Meaning, of, word}
use Rattle.abi_bindgen.specs.Memory.{access, is_ranged, loading, storing}
use Rattle.abi_bindgen.specs.NumberTouches.{number_load, number_store}
use Rattle.abi_bindgen.specs.Places.{IsWritten}
use Rattle.abi_bindgen.specs.Touches.{LoadsWord, StoresWord, low_byte, low_half, reached, whole}
use Rattle.abi_driver.proofs.Tags.{read_32}
use Rattle.abi_bindgen.proofs.Done.{does_done}
use Rattle.abi_driver.proofs.LeafLoads.{load_row}
use Rattle.abi_driver.proofs.LeafStores.{at_least, store_row}
use Rattle.abi_bindgen.proofs.Runs.{adds_both, adds_same}
use Rattle.abi_driver.proofs.Replaced.{block_formed, replaced_formed, replaced_same}
use Rattle.abi_bindgen.proofs.FlowSteps.{flows_back, flows_more, flows_then}
use Rattle.abi_driver.proofs.Storing.{loads_from, stored_again, stored_in, stores_in, written_both, written_in, written_none}

-- 1. One word

word_typed : (w : ℕ) (x : Word) → IsWord w wasm.I32 x → has_type wasm.I32 x ≡ true
word_typed w (core.I32 z) h = refl
word_typed w (core.I64 z) h = elim h [ ]
word_typed w (core.F32 z) h = elim h [ ]
word_typed w (core.F64 z) h = elim h [ ]
word_typed w (core.Pointer z) h = elim h [ ]
word_typed w (core.Length z) h = elim h [ ]
word_typed w (core.Slot z) h = elim h [ ]

word_ranged : (w : ℕ) (x : Word) → IsWord w wasm.I32 x → is_ranged x ≡ true
word_ranged w (core.I32 z) h = h
word_ranged w (core.I64 z) h = elim h [ ]
word_ranged w (core.F32 z) h = elim h [ ]
word_ranged w (core.F64 z) h = elim h [ ]
word_ranged w (core.Pointer z) h = elim h [ ]
word_ranged w (core.Length z) h = elim h [ ]
word_ranged w (core.Slot z) h = elim h [ ]

abbrev pub by_putting : {V : Type 0} → Block → Account V → Got V (Unit {0})
by_putting after acc = record { result = tt; account = stored_in after acc }

module _ {Self Operand : Type 0} (m : Meaning Self Operand) (sound : Sound m) (types : List TypeDef) where
  number_store_row : (g : ℕ) (o : ArchitectureSize) (os rs : List Operand) (a b : Self) → g ≤ 2 → Emits m types (number_store g o) os rs a b → StoresWord m (access wasm.I32 g) o os rs a b
  number_store_row zero o os rs a b l e = store_row m sound types (number_store 0 o) low_byte wasm.I32 o os rs a b refl refl refl e
  number_store_row (suc zero) o os rs a b l e = store_row m sound types (number_store 1 o) low_half wasm.I32 o os rs a b refl refl refl e
  number_store_row (suc (suc zero)) o os rs a b l e = store_row m sound types (number_store 2 o) whole wasm.I32 o os rs a b refl refl refl e
  number_store_row (suc (suc (suc g))) o os rs a b l e = absurd (omega (arith, l))

  pub number_store_adds : (g : ℕ) (o : ArchitectureSize) (os rs : List Operand) (a b : Self) → Emits m types (number_store g o) os rs a b → Adds m a b
  number_store_adds zero o os rs a b e = e.adds
  number_store_adds (suc zero) o os rs a b e = e.adds
  number_store_adds (suc (suc g)) o os rs a b e = e.adds

  number_load_row : (g : ℕ) (o : ArchitectureSize) (os rs : List Operand) (a b : Self) → g ≤ 2 → Emits m types (number_load g o) os rs a b → LoadsWord m (access wasm.I32 g) o os rs a b
  number_load_row zero o os rs a b l e = load_row m sound types (number_load 0 o) low_byte false wasm.I32 o os rs a b refl refl refl e
  number_load_row (suc zero) o os rs a b l e = load_row m sound types (number_load 1 o) low_half false wasm.I32 o os rs a b refl refl refl e
  number_load_row (suc (suc zero)) o os rs a b l e = load_row m sound types (number_load 2 o) whole false wasm.I32 o os rs a b refl refl refl e
  number_load_row (suc (suc (suc g))) o os rs a b l e = absurd (omega (arith, l))

  pub number_load_adds : (g : ℕ) (o : ArchitectureSize) (os rs : List Operand) (a b : Self) → Emits m types (number_load g o) os rs a b → Adds m a b
  number_load_adds zero o os rs a b e = e.adds
  number_load_adds (suc zero) o os rs a b e = e.adds
  number_load_adds (suc (suc g)) o os rs a b e = e.adds

  -- so many bytes of a block were written, and are a number
  abbrev pub Written : (from size x : ℕ) (b : Block) (new : Self) → m.World → Peer m.Item → Facts m → (s0 s : m.State) → Type 0
  Written from size x b new w f facts s0 s =
      (t : m.State) × (after : Block) × (m.does w f (m.code new) s0 ≡ Done t) × IsWritten from size b after × HasNumber after from size x
      × After m w new facts [] [] s (by_putting after (m.account s)) t

  pub number_stored : (g : ℕ) (o : ArchitectureSize) (r address : Operand) (a b : Self) → g ≤ 2 → Emits m types (number_store g o) (r ∷ address ∷ []) [] a b
      → (x : Word) → IsWord m.width wasm.I32 x → (w : m.World) (f : Peer m.Item) (others : Facts m) (s0 s : m.State) (q k : ℕ) (blk : Block)
      → At m w f a b (of r (word x) ∷ of address (word (core.Pointer q)) ∷ others) s0 s → is_heap (m.account s).heap ≡ true → Contains (m.account s).heap.blocks blk
      → reached m q o ≡ blk.address + k → k + 2 ^ g ≤ blk.size → reached m q o % 2 ^ g ≡ 0 → Written k (2 ^ g) (bits_of x % 256 ^ (2 ^ g)) blk b w f others s0 s
  number_stored g o r address a b small e x is w f others s0 s q k blk at formed there starts fits aligned =
      let acc = m.account s in
      let put = stores_in m.width (access wasm.I32 g) (reached m q o) x blk k acc formed there starts fits aligned (at_least m.width sound.wide) (word_typed m.width x is) (word_ranged m.width x is) in
      let one = does_done m (Unit {0}) a b (ofs m (r ∷ address ∷ []) (word x ∷ word (core.Pointer q) ∷ [])) (λ f. storing m.width (access wasm.I32 g) (reached m q o) x) (λ u fs. fs ≡ []) (λ u. []) (λ u. [])
      (number_store_row g o (r ∷ address ∷ []) [] a b small e x q) w f others s0 s at (record { result = tt; account = stored_in put.0 acc }) put.1 in
      let after = one.2.2 in (
        one.0,
        put.0,
        one.1,
        put.2,
        put.3,
        record { account = after.account; owns = after.owns; denotes = subst (λ fs. m.denotes w b (fs ++ others) one.0) one.2.1 after.denotes },
      )

  -- a number was loaded as a word
  abbrev pub Loaded : (x : Word) (r : Operand) (new : Self) → m.World → Peer m.Item → Facts m → (s0 s : m.State) → Type 0
  Loaded x r new w f others s0 s =
      (t : m.State) × (m.does w f (m.code new) s0 ≡ Done t) × After m w new (of r (word x) ∷ others) [] [] s (record { result = x; account = m.account s }) t

  pub number_loaded : (g : ℕ) (o : ArchitectureSize) (address r : Operand) (a b : Self) → g ≤ 2 → Emits m types (number_load g o) (address ∷ []) (r ∷ []) a b
      → (w : m.World) (f : Peer m.Item) (others : Facts m) (s0 s : m.State) (q k n : ℕ) (blk : Block)
      → At m w f a b (of address (word (core.Pointer q)) ∷ others) s0 s → is_heap (m.account s).heap ≡ true → Contains (m.account s).heap.blocks blk
      → reached m q o ≡ blk.address + k → k + 2 ^ g ≤ blk.size → reached m q o % 2 ^ g ≡ 0 → HasNumber blk k (2 ^ g) n → Loaded (word_of_bits m.width wasm.I32 n) r b w f others s0 s
  number_loaded g o address r a b small e w f others s0 s q k n blk at formed there starts fits aligned holds =
      let acc = m.account s in
      let read = loads_from m.width f.form (access wasm.I32 g) (reached m q o) n blk k acc formed there starts fits aligned (at_least m.width sound.wide) holds in
      let one = does_done m Word a b (ofs m (address ∷ []) (word (core.Pointer q) ∷ [])) (λ f. loading m.width f.form (access wasm.I32 g) (reached m q o)) (λ z fs. fs ≡ ofs m (r ∷ []) (word z ∷ [])) (λ z. []) (λ z. [])
      (number_load_row g o (address ∷ []) (r ∷ []) a b small e q) w f others s0 s at (record { result = word_of_bits m.width wasm.I32 n; account = acc }) read in
      let after = one.2.2 in
      (one.0, one.1, record { account = after.account; owns = after.owns; denotes = subst (λ fs. m.denotes w b (fs ++ others) one.0) one.2.1 after.denotes })

-- 2. Words one after another

-- the low bytes of words, by which they stand in memory
abbrev pub kept_bits : ℕ → List Word → ℕ
kept_bits g [] = 0
kept_bits g (x ∷ words) = bits_of x % 256 ^ (2 ^ g) + 2 ^ 32 * kept_bits g words

-- so many words stand four bytes apart, or there is one at most
abbrev pub AreApart : ℕ → ℕ → Type 0
AreApart g n = (g ≡ 2) ⊎ (n ≤ 1)

spaced : (g n j : ℕ) → AreApart g n → j < n → 4 * j ≡ j * 2 ^ g
spaced g n j (inl e) l = omega arith ∙ ap (λ k. j * 2 ^ k) (sym e)
spaced g n j (inr few) l = let none : j ≡ 0 = omega (arith, few, l) in subst (λ i. 4 * i ≡ i * 2 ^ g) (sym none) (omega arith)

no_bits : (g : ℕ) (ws : List Word) → length ws ≡ 0 → kept_bits g ws ≡ 0
no_bits g [] e = refl
no_bits g (x ∷ ws) e = absurd (omega (arith, e))

words_kept : (b after : Block) (from count p size n x : ℕ) → IsWritten from count b after → from + count ≤ p → HasWords b p size n x → HasWords after p size n x
words_kept b after from count p size zero x written beyond h = h
words_kept b after from count p size (suc n) x written beyond (low, high, has, later, e) = (
  low,
  high,
  (has.0, ap (λ o. option_map little o) (written.outside p size (inr beyond)) ∙ has.1),
  words_kept b after from count (p + size) size n high written (omega (arith, beyond)) later,
  e,
)

-- where one of so many words lies
word_room : (j n size k end : ℕ) → j < n → k + n * size ≤ end → k + j * size + size ≤ end
word_room j n size k end l room =
    let more : suc j * size ≤ n * size = mul-le-mul_right size l in
    omega (arith, more, room)

word_aligned : (g base j : ℕ) → base % 2 ^ g ≡ 0 → (base + j * 2 ^ g) % 2 ^ g ≡ 0
word_aligned g base j h = add-mul-mod_self_right base j (2 ^ g) ∙ h

-- words of four bytes or fewer keep their numbers
fits_four : (g n : ℕ) → g ≤ 2 → n < 256 ^ (2 ^ g) → n < 2 ^ 32
fits_four zero n l h = omega (arith, h)
fits_four (suc zero) n l h = omega (arith, h)
fits_four (suc (suc zero)) n l h = omega (arith, h)
fits_four (suc (suc (suc g))) n l h = absurd (omega (arith, l))

cast_ranged : (n : ℕ) → n < 2 ^ 32 → is_signed 31 (cast_signed w32 (n % 2 ^ 32)) ≡ true
cast_ranged n l = grind (arith, ints)

module _ {Self Operand : Type 0} (m : Meaning Self Operand) (types : List TypeDef) (g : ℕ) (place : ℕ → ArchitectureSize) (address : Operand) where
  -- stores of words, of which the first has this number; the last one is stored first
  abbrev pub StoredBack : ℕ → List Operand → (old new : Self) → Type 0
  StoredBack j [] old new = new ≡ old
  StoredBack j (o ∷ os) old new = (mid : Self) × StoredBack (suc j) os old mid × Emits m types (number_store g (place j)) (o ∷ address ∷ []) [] mid new

  -- loads of words in their order
  abbrev pub LoadedOn : ℕ → List Operand → (old new : Self) → Type 0
  LoadedOn j [] old new = new ≡ old
  LoadedOn j (r ∷ rs) old new = (mid : Self) × Emits m types (number_load g (place j)) (address ∷ []) (r ∷ []) old mid × LoadedOn (suc j) rs mid new

module _ {Self Operand : Type 0} (m : Meaning Self Operand) (sound : Sound m) (types : List TypeDef) (g : ℕ) (small : g ≤ 2) (place : ℕ → ArchitectureSize) (address : Operand) where
  pub stored_adds : (j : ℕ) (os : List Operand) (a b : Self) → StoredBack m types g place address j os a b → Adds m a b
  stored_adds j [] a b h = subst (Adds m a) (sym h) (adds_same m a)
  stored_adds j (o ∷ os) a b h = adds_both m a h.0 b (stored_adds (suc j) os a h.0 h.1) (number_store_adds m sound types g (place j) (o ∷ address ∷ []) [] h.0 b h.2)

  pub loaded_adds : (j : ℕ) (rs : List Operand) (a b : Self) → LoadedOn m types g place address j rs a b → Adds m a b
  loaded_adds j [] a b h = subst (Adds m a) (sym h) (adds_same m a)
  loaded_adds j (r ∷ rs) a b h = adds_both m a h.0 b (number_load_adds m sound types g (place j) (address ∷ []) (r ∷ []) a h.0 h.1) (loaded_adds (suc j) rs h.0 b h.2)

  -- one more is loaded
  pub loaded_more : (j : ℕ) (rs : List Operand) (r : Operand) (n : ℕ) (a b c : Self) → LoadedOn m types g place address j rs a b → n ≡ j + length rs → Emits m types (number_load g (place n)) (address ∷ []) (r ∷ []) b c → LoadedOn m types g place address j (rs ++ r ∷ []) a c
  loaded_more j [] r n a b c h e one =
      let here : n ≡ j = omega (arith, e) in
      (c, subst (λ i. Emits m types (number_load g (place i)) (address ∷ []) (r ∷ []) a c) here (subst (λ s. Emits m types (number_load g (place n)) (address ∷ []) (r ∷ []) s c) h one), refl)
  loaded_more j (q ∷ rs) r n a b c h e one = (h.0, h.1, loaded_more (suc j) rs r n h.0 b c h.2 (omega (arith, e)) one)

  -- for as many words
  pub stored_flows : {A : Type 0} (j : ℕ) (xs : List A) (os : List Operand) (a b : Self) → length xs ≡ length os → StoredBack m types g place address j os a b
      → Flows m types (each_back 1 (λ x. 1) (λ n x. store_by (behind 1) (number_store g (place n))) j xs) (address ∷ os) [] a b
  stored_flows j [] [] a b e h = (refl, h)
  stored_flows j [] (o ∷ os) a b e h = absurd (omega (arith, e))
  stored_flows j (x ∷ xs) [] a b e h = absurd (omega (arith, e))
  stored_flows j (x ∷ xs) (o ∷ os) a b e h =
      let one = flows_then m types (both (behind 1) (leading 1)) (emit (number_store g (place j))) (address ∷ o ∷ []) (o ∷ address ∷ []) [] h.0 h.0 b (o ∷ [], address ∷ [], h.0, (refl, refl), (refl, refl), refl) h.2 in
      flows_back m types 1 (λ x. 1) (λ n x. store_by (behind 1) (number_store g (place n))) (address ∷ []) refl x (o ∷ []) os refl j xs [] [] a h.0 b (stored_flows (suc j) xs os a h.0 (omega (arith, e)) h.1) one

  pub loaded_flows : {A : Type 0} (j : ℕ) (xs : List A) (rs : List Operand) (a b : Self) → length xs ≡ length rs → LoadedOn m types g place address j rs a b
      → Flows m types (each 1 (λ x. 0) (λ n x. emit (number_load g (place n))) j xs) (address ∷ []) rs a b
  loaded_flows j [] [] a b e h = (refl, h)
  loaded_flows j [] (r ∷ rs) a b e h = absurd (omega (arith, e))
  loaded_flows j (x ∷ xs) [] a b e h = absurd (omega (arith, e))
  loaded_flows j (x ∷ xs) (r ∷ rs) a b e h =
      flows_more m types 1 (λ x. 0) (λ n x. emit (number_load g (place n))) (address ∷ []) refl x [] [] refl j xs (r ∷ []) rs a h.0 b h.1 (loaded_flows (suc j) xs rs h.0 b (omega (arith, e)) h.2)

  -- the places are behind an offset
  module _ (base count : ℕ) (apart : AreApart g count) (told : (n : ℕ) → bytes_at (place n) (2 ^ m.width) ≡ base + 4 * n) where
    reach : (q j : ℕ) → j < count → reached m q (place j) ≡ q + base + j * 2 ^ g
    reach q j l = ap (λ n. q + n) (told j) ∙ omega (arith, spaced g count j apart l)

    -- what words that were stored leave
    abbrev pub WordsStored : (j : ℕ) (os : List Operand) (words : List Word) (b : Block) (k : ℕ) (new : Self) → m.World → Peer m.Item → Facts m → (s0 s : m.State) → Type 0
    WordsStored j os words b k new w f facts s0 s =
        (t : m.State) × (after : Block) × (m.does w f (m.code new) s0 ≡ Done t) × IsWritten k (count * 2 ^ g) b after × HasWords after (k + j * 2 ^ g) (2 ^ g) (length os) (kept_bits g words)
        × After m w new facts [] [] s (by_putting after (m.account s)) t

    pub words_stored : (os : List Operand) (ws : List Word) (j : ℕ) (a b : Self) → length ws ≡ length os → AllByRecursion (IsWord m.width wasm.I32) ws → j + length os ≤ count → StoredBack m types g place address j os a b
        → (w : m.World) (f : Peer m.Item) (others : Facts m) (s0 s : m.State) (q k : ℕ) (blk : Block) → At m w f a b (ofs m os (core_data m ws) ++ (of address (word (core.Pointer q)) ∷ others)) s0 s
        → is_heap (m.account s).heap ≡ true → Contains (m.account s).heap.blocks blk → q + base ≡ blk.address + k → k + count * 2 ^ g ≤ blk.size → (q + base) % 2 ^ g ≡ 0
        → WordsStored j os ws blk k b w f (of address (word (core.Pointer q)) ∷ others) s0 s
    words_stored [] ws j a b len are few h w f others s0 s q k blk at formed there starts fits aligned =
        let good = block_formed (m.account s).heap.blocks blk formed there in
        let none : kept_bits g ws ≡ 0 = no_bits g ws len in (
          s,
          blk,
          ap (λ x. m.does w f (m.code x) s0) h ∙ at.done,
          written_in blk blk k 0 k (count * 2 ^ g) (written_none k blk good) (omega arith) (omega arith),
          none,
          record {
            account = sym (ap (λ (bs : List Block). record (m.account s) { heap = record { blocks = bs } }) (replaced_same (m.account s).heap.blocks blk formed there));
            owns = λ g. refl;
            denotes = subst (λ x. m.denotes w x (of address (word (core.Pointer q)) ∷ others) s) (sym h) at.holds;
          },
        )
    words_stored (o ∷ os) [] j a b len are few h w f others s0 s q k blk at formed there starts fits aligned = absurd (omega (arith, len))
    words_stored (o ∷ os) (x ∷ xs) j a b len are few h w f others s0 s q k blk at formed there starts fits aligned =
        let acc = m.account s in
        let mid = h.0 in
        let e = h.2 in
        let size = 2 ^ g in
        let adds = number_store_adds m sound types g (place j) (o ∷ address ∷ []) [] mid b e in
        let here : Facts m = of o (word x) ∷ [] in
        let pointer : Facts m = of address (word (core.Pointer q)) ∷ [] in
        let rest : Facts m = ofs m os (core_data m xs) in
        let within : j < count = omega (arith, few) in
        -- the words behind it
        let first : m.denotes w a ((rest ++ pointer) ++ (here ++ others)) s = sound.swap w a here (rest ++ pointer) others s (subst (λ fs. m.denotes w a (here ++ fs) s) (sym (append_assoc rest pointer others)) at.holds) in
        let at1 : At m w f a mid (rest ++ (pointer ++ (here ++ others))) s0 s = record { serves = adds.grows.serves w at.serves; done = at.done; holds = subst (λ fs. m.denotes w a fs s) (append_assoc rest pointer (here ++ others)) first } in
        let later = words_stored os xs (suc j) a mid (omega (arith, len)) are.1 (omega (arith, few)) h.1 w f (here ++ others) s0 s q k blk at1 formed there starts fits aligned in
        let s1 = later.0 in
        let one = later.1 in
        let after1 = later.5 in
        -- the word itself
        let twice : m.denotes w mid (pointer ++ (pointer ++ (here ++ others))) s1 = sound.again w mid address (core.Pointer q) (here ++ others) s1 after1.denotes in
        let at2 : At m w f mid b (here ++ (pointer ++ (pointer ++ others))) s0 s1 = record { serves = at.serves; done = later.2; holds = sound.swap w mid (pointer ++ pointer) here others s1 twice } in
        let still = replaced_formed acc.heap.blocks blk one k (count * size) formed there later.3 in
        let base_at = starts ∙ ap (λ p. p + k) (sym later.3.same_address) in
        let put = number_stored m sound types g (place j) o address mid b small e x are.0 w f (pointer ++ others) s0 s1 q (k + j * size) one at2
        (ap (λ (t : Account m.Item). is_heap t.heap) after1.account ∙ still.0) (subst (λ (t : Account m.Item). Contains t.heap.blocks one) (sym after1.account) still.1)
        (reach q j within ∙ omega (arith, base_at)) (word_room j count size k one.size within (omega (arith, fits, later.3.same_size)))
        (ap (λ n. n % size) (reach q j within) ∙ word_aligned g (q + base) j aligned) in
        let all = put.1 in
        let after2 = put.5 in (
          put.0,
          all,
          put.2,
          written_both blk one all k (count * size) k (count * size) (k + j * size) size later.3 put.3 (omega arith) (omega arith) (omega arith) (word_room j count size k (k + count * size) within (omega arith)),
          (
            bits_of x % 256 ^ size,
            kept_bits g xs,
            put.4,
            words_kept one all (k + j * size) size (k + j * size + size) size (length os) (kept_bits g xs) put.3 (omega arith) (subst (λ p. HasWords one p size (length os) (kept_bits g xs)) (omega arith) later.4),
            refl,
          ),
          record {
            account = stored_again acc (m.account s1) (m.account put.0) one all after1.account after2.account put.3.same_address;
            owns = λ g. after2.owns g ∙ after1.owns g;
            denotes = after2.denotes;
          },
        )

    -- what words that were loaded are
    abbrev pub WordsLoaded : (x : ℕ) (rs : List Operand) (new : Self) → m.World → Peer m.Item → (pointer others : Facts m) → (s0 s : m.State) → Type 0
    WordsLoaded x rs new w f pointer others s0 s =
        (t : m.State) × (words : List Word) × (m.does w f (m.code new) s0 ≡ Done t) × (length words ≡ length rs) × AllByRecursion (IsWord m.width wasm.I32) words × (flag_bits words ≡ x)
        × After m w new (ofs m rs (core_data m words) ++ (pointer ++ others)) [] [] s (record { result = words; account = m.account s }) t

    pub words_loaded : (rs : List Operand) (x j : ℕ) (a b : Self) → j + length rs ≤ count → LoadedOn m types g place address j rs a b
        → (w : m.World) (f : Peer m.Item) (others : Facts m) (s0 s : m.State) (q k : ℕ) (blk : Block) → At m w f a b (of address (word (core.Pointer q)) ∷ others) s0 s
        → is_heap (m.account s).heap ≡ true → Contains (m.account s).heap.blocks blk → q + base ≡ blk.address + k → k + count * 2 ^ g ≤ blk.size → (q + base) % 2 ^ g ≡ 0
        → HasWords blk (k + j * 2 ^ g) (2 ^ g) (length rs) x → WordsLoaded x rs b w f (of address (word (core.Pointer q)) ∷ []) others s0 s
    words_loaded [] x j a b few h w f others s0 s q k blk at formed there starts fits aligned has = (
      s,
      [],
      ap (λ y. m.does w f (m.code y) s0) h ∙ at.done,
      refl,
      tt,
      sym has,
      record { account = refl; owns = λ g. refl; denotes = subst (λ y. m.denotes w y (of address (word (core.Pointer q)) ∷ others) s) (sym h) at.holds },
    )
    words_loaded (r ∷ rs) x j a b few h w f others s0 s q k blk at formed there starts fits aligned has =
        let mid = h.0 in
        let size = 2 ^ g in
        let low = has.0 in
        let high = has.1 in
        let y = word_of_bits m.width wasm.I32 low in
        let adds = loaded_adds (suc j) rs mid b h.2 in
        let pointer : Facts m = of address (word (core.Pointer q)) ∷ [] in
        let here : Facts m = of r (word y) ∷ [] in
        let within : j < count = omega (arith, few) in
        let at1 : At m w f a mid (pointer ++ (pointer ++ others)) s0 s = record { serves = adds.grows.serves w at.serves; done = at.done; holds = sound.again w a address (core.Pointer q) others s at.holds } in
        let one = number_loaded m sound types g (place j) address r a mid small h.1 w f (pointer ++ others) s0 s q (k + j * size) low blk at1 formed there (reach q j within ∙ omega (arith, starts)) (word_room j count size k blk.size within fits)
        (ap (λ n. n % size) (reach q j within) ∙ word_aligned g (q + base) j aligned) has.2 in
        let s1 = one.0 in
        let after1 = one.2 in
        let at2 : At m w f mid b (pointer ++ (here ++ others)) s0 s1 = record { serves = at.serves; done = one.1; holds = sound.swap w mid here pointer others s1 after1.denotes } in
        let later = words_loaded rs high (suc j) mid b (omega (arith, few)) h.2 w f (here ++ others) s0 s1 q k blk at2
        (ap (λ (t : Account m.Item). is_heap t.heap) after1.account ∙ formed) (subst (λ (t : Account m.Item). Contains t.heap.blocks blk) (sym after1.account) there) starts fits aligned
        (subst (λ p. HasWords blk p size (length rs) high) (omega arith) has.3) in
        let after2 = later.6 in
        let rest : Facts m = ofs m rs (core_data m later.1) in
        let read : bits_of y ≡ low = read_32 low (fits_four g low small has.2.0) in (
          later.0,
          y ∷ later.1,
          later.2,
          ap suc later.3,
          (cast_ranged low (fits_four g low small has.2.0), later.4),
          ap₂ (λ a b. a + 2 ^ 32 * b) read later.5 ∙ sym has.4,
          record {
            account = after2.account ∙ after1.account;
            owns = λ g. after2.owns g ∙ after1.owns g;
            denotes = subst (λ fs. m.denotes w b (here ++ fs) later.0) (append_assoc rest pointer others) (sound.swap w b (rest ++ pointer) here others later.0 (subst (λ fs. m.denotes w b fs later.0) (sym (append_assoc rest pointer (here ++ others))) after2.denotes));
          },
        )
