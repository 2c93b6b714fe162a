-- Flags become words, and words become flags; they are stored and loaded.
use Rattle.std.proofs.Common.{◌≡◌, ℕ, zero, suc, ◌+◌, ◌-◌, ◌*◌, ◌%◌, ◌^◌, ◌<◌, ◌≤◌, nat_le, Bool, true, false, if◌then◌else◌, List, [], ◌∷◌, ◌++◌, length, replicate, Contains, refl, sym, ap, ◌∙◌, subst, arith}
use Rattle.std.specs.List.{AllByRecursion}
use Rattle.std.proofs.Math.Pow.{mod-mod-pow}
use Rattle.std.proofs.lemmas.Bool.{leb-true}
use Rattle.std.proofs.lemmas.Int.{ints}
use mathlib.Core.Logic.{inl, inr}
use Rattle.wit_model.specs.Size.{bytes_at}
use Rattle.wit_model.specs.declared.name.TypeId.{TypeId}
use Rattle.wit_model.specs.declared.size.ArchitectureSize.{ArchitectureSize}
use Rattle.wit_model.specs.declared.types.TypeDef.{TypeDef}
use Rattle.wit_model.specs.declared.wasm_type.WasmType.TheVariants as wasm
use Rattle.wit_layout.specs.Extent.{Extent, extent, flag_words, flags_extent}
use Rattle.wit_layout.specs.Flat.{words_of_flags}
use Rattle.wrapper_data.specs.Heap.{is_heap}
use Rattle.wrapper_data.specs.declared.block.Block.{Block}
use Rattle.wrapper_data.specs.declared.word.Word.{Word}
use Rattle.wrapper_data.specs.declared.word.Word.TheVariants as core
use Rattle.wrapper_meaning.specs.AsWords.{Says, flag_bits}
use Rattle.wrapper_meaning.specs.Direction.{take}
use Rattle.wrapper_meaning.specs.InMemory.{HasWords, Holds}
use Rattle.wrapper_meaning.specs.Items.{total}
use Rattle.wrapper_meaning.specs.Shape.Shape.{flags}
use Rattle.wrapper_meaning.specs.Words.{AreWords, IsWord, bits_of}
use Rattle.wrapper_meaning.proofs.HoldsLocally.{flags_within}
use Rattle.wrapper_meaning.proofs.PostReturn.{total-append}
use Rattle.abi_bindgen.specs.declared.instruction.Instruction.TheVariants.{FlagsLift}
use Rattle.abi_bindgen.specs.Account.{Account, Peer, addresses}
use Rattle.abi_bindgen.specs.Code.{beyond, word_place}
use Rattle.abi_bindgen.specs.FlagSets.{AreFlags, LiftsFlags}
use Rattle.abi_bindgen.specs.Instructions.{Emits}
use Rattle.abi_bindgen.specs.Laws.{Adds, At, Facts, Sound, core_data, ofs}
use Rattle.abi_bindgen.specs.Lifts.{LiftsFlat, OneStands, took}
use Rattle.abi_driver.specs.Loads.{LiftsFromMemory}
use Rattle.abi_bindgen.specs.Lowers.{LowersFlat}
use Rattle.abi_bindgen.specs.Meaning.{Meaning, item, of, word}
use Rattle.abi_driver.specs.Stores.{LowersToMemory}
use Rattle.abi_driver.proofs.NumberWords.{AreApart, LoadedOn, StoredBack, kept_bits, loaded_adds, stored_adds, words_loaded, words_stored}
use Rattle.abi_driver.proofs.PartOffsets.{beyond_at}
use Rattle.abi_bindgen.proofs.Runs.{adds_both}
use Rattle.abi_bindgen.proofs.SaysTypes.{words_typed}
use Rattle.abi_bindgen.proofs.WordCounts.{length_words}
use Rattle.abi_driver.proofs.Storing.{stored_in, written_in}
use Rattle.abi_driver.proofs.TakingOver.{took_none}
use Rattle.abi_bindgen.specs.Lowering.{said}
use Rattle.abi_bindgen.proofs.LoweredPlainly.{passed_plainly}
use Rattle.abi_driver.proofs.PutSteps.{puts_plainly}
use Rattle.wit_layout.specs.Sizes.{elem_size}
use Rattle.wrapper_meaning.specs.Layout.{layout}
use Rattle.abi_driver.proofs.TakeSteps.{GetsPlainly, gets_plainly}

-- 1. How many words there are, and how many bytes each has

abbrev extent_by : ℕ → Bool → Bool → Extent
extent_by n a b = if a then extent 0 1 else (if b then extent 1 2 else extent 2 (4 * flag_words n))

-- what is so for each of the three
pub by_three : (P : Extent → Type 0) (n : ℕ) → (nat_le n 8 ≡ true → P (extent 0 1)) → (nat_le n 16 ≡ true → P (extent 1 2)) → P (extent 2 (4 * flag_words n)) → P (flags_extent n)
by_three P n few some many = go (nat_le n 8) (nat_le n 16) refl refl
  where
    go : (a b : Bool) → nat_le n 8 ≡ a → nat_le n 16 ≡ b → P (extent_by n a b)
    go true b e f = few e
    go false true e f = some f
    go false false e f = many

pub flags_grain_small : (n : ℕ) → (flags_extent n).grain ≤ 2
flags_grain_small n = by_three (λ e. e.grain ≤ 2) n (λ h. omega arith) (λ h. omega arith) (omega arith)

pub flags_apart : (n : ℕ) → AreApart (flags_extent n).grain (flag_words n)
flags_apart n =
    by_three (λ e. AreApart e.grain (flag_words n)) n (λ h. let l = leb-true n 8 h in inr (omega (arith, l))) (λ h. let l = leb-true n 16 h in inr (omega (arith, l))) (inl refl)

-- 2. Words of 32 bits

each_word : (w k : ℕ) (ws : List Word) → AreWords w (replicate k wasm.I32) ws → AllByRecursion (IsWord w wasm.I32) ws
each_word w zero ws h = subst (AllByRecursion (IsWord w wasm.I32)) (sym h) tt
each_word w (suc k) [] h = elim h [ ]
each_word w (suc k) (x ∷ ws) h = (h.0, each_word w k ws h.1)

are_words : (w k : ℕ) (ws : List Word) → length ws ≡ k → AllByRecursion (IsWord w wasm.I32) ws → AreWords w (replicate k wasm.I32) ws
are_words w zero [] e h = refl
are_words w zero (x ∷ ws) e h = absurd (omega (arith, e))
are_words w (suc k) [] e h = absurd (omega (arith, e))
are_words w (suc k) (x ∷ ws) e h = (h.0, are_words w k ws (omega (arith, e)) h.1)

low_below : (x : Word) (w : ℕ) → IsWord w wasm.I32 x → bits_of x < 2 ^ 32
low_below (core.I32 z) w h = grind (arith, ints)
low_below (core.I64 z) w h = elim h [ ]
low_below (core.F32 z) w h = elim h [ ]
low_below (core.F64 z) w h = elim h [ ]
low_below (core.Pointer z) w h = elim h [ ]
low_below (core.Length z) w h = elim h [ ]
low_below (core.Slot z) w h = elim h [ ]

whole_kept : (w : ℕ) (ws : List Word) → AllByRecursion (IsWord w wasm.I32) ws → kept_bits 2 ws ≡ flag_bits ws
whole_kept w [] h = refl
whole_kept w (x ∷ ws) h = let later = whole_kept w ws h.1 in let small = low_below x w h.0 in omega (arith, later, small)

-- the low bits of one word at most keep its lowest ones
few_kept : (n g bits : ℕ) (ws : List Word) → 256 ^ (2 ^ g) ≡ 2 ^ bits → n ≤ bits → length ws ≤ 1 → kept_bits g ws % 2 ^ n ≡ flag_bits ws % 2 ^ n
few_kept n g bits [] e l one = refl
few_kept n g bits (x ∷ []) e l one =
    let split : bits - n + n ≡ bits = omega (arith, l) in
    let low : bits_of x % 256 ^ (2 ^ g) % 2 ^ n ≡ bits_of x % 2 ^ n = ap (λ k. bits_of x % k % 2 ^ n) (e ∙ ap (λ k. 2 ^ k) (sym split)) ∙ mod-mod-pow (bits_of x) (bits - n) n in
    ap (λ k. k % 2 ^ n) (omega arith) ∙ low ∙ ap (λ k. k % 2 ^ n) (omega arith)
few_kept n g bits (x ∷ y ∷ ws) e l one = absurd (omega (arith, one))

flags_kept : (w n : ℕ) (ws : List Word) → length ws ≡ flag_words n → AllByRecursion (IsWord w wasm.I32) ws → kept_bits (flags_extent n).grain ws % 2 ^ n ≡ flag_bits ws % 2 ^ n
flags_kept w n ws len are =
    by_three (λ e. kept_bits e.grain ws % 2 ^ n ≡ flag_bits ws % 2 ^ n) n (λ h. let l = leb-true n 8 h in few_kept n 0 8 ws refl l (omega (arith, l, len)))
    (λ h. let l = leb-true n 16 h in few_kept n 1 16 ws refl l (omega (arith, l, len))) (ap (λ k. k % 2 ^ n) (whole_kept w ws are))

-- 3. Where they stand

abbrev pub place_of : ArchitectureSize → ℕ → ArchitectureSize
place_of offset n = beyond offset (word_place n)

-- 4. Core words

module _ {Self Operand : Type 0} (m : Meaning Self Operand) (sound : Sound m) (types : List TypeDef) where
  -- words become flags that they say
  flags_made : (n : ℕ) (a b : Self) (os : List Operand) (r : Operand) → LiftsFlags m n os (r ∷ []) a b → (v : ℕ) (ws : List Word) (own : List Block) → own ≡ [] → Says m.width take (flags n) v ws []
      → (w : m.World) (f : Peer m.Item) (others : Facts m) (s0 st : m.State) → At m w f a b (ofs m os (core_data m ws) ++ others) s0 st → GetsPlainly m (OneStands m (flags n) v) own (r ∷ []) b w f others s0 st
  flags_made n a b os r row v ws own empty says w f others s0 st at =
      let ran = row ws (words_typed m.width (words_of_flags n) ws says.0) w f others s0 st at in
      let t = ran.0 in
      let made = ran.2.1 in
      let after = ran.2.2 in (
        t,
        made.0 ∷ [],
        ran.1,
        (made.0, refl, subst (m.stands take (flags n) v made.0) (sym empty) (made.2 v says)),
        record {
          account = after.account ∙ sym (ap (λ bs. took bs (m.account st)) empty ∙ took_none (m.account st));
          owns = λ g. after.owns g ∙ sym (ap (λ bs. total g (m.owns st ++ addresses bs)) empty);
          denotes = subst (λ fs. m.denotes w b (fs ++ others) t) made.1 after.denotes;
        },
      )

  pub flags_lifts : (id : TypeId) (n : ℕ) (a b : Self) (os : List Operand) (r : Operand) → AreFlags types id.0 n → length os ≡ flag_words n → Emits m types (FlagsLift id) os (r ∷ []) a b → LiftsFlat m (flags n) os r a b
  flags_lifts id n a b os r is len e = record {
    adds = e.adds;
    fits = len ∙ sym (length_words n);
    asks_nothing = λ v. refl;
    row = λ v ws own listed says w f others s0 st at may.
        gets_plainly m (OneStands m (flags n) v) own (r ∷ []) b w f others s0 st may.formed (flags_made n a b os r (e.row n is) v ws own says.2 (says.0, says.1, refl) w f others s0 st at);
  }

  -- 5. Memory

  place_told : (offset : ArchitectureSize) (n : ℕ) → bytes_at (place_of offset n) (2 ^ m.width) ≡ bytes_at offset (2 ^ m.width) + 4 * n
  place_told offset n = beyond_at offset (word_place n) (2 ^ m.width) ∙ omega arith

  pub flags_stores : (realloc : Bool) (n : ℕ) (a b c : Self) (o address : Operand) (os : List Operand) (offset : ArchitectureSize) → LowersFlat m realloc (flags n) o os a b
      → StoredBack m types (flags_extent n).grain (place_of offset) address 0 os b c → LowersToMemory m realloc (flags n) o address offset a c
  flags_stores realloc n a b c o address os offset flat stored = record {
    adds = adds_both m a b c flat.adds (stored_adds m sound types (flags_extent n).grain (flags_grain_small n) (place_of offset) address 0 os b c stored);
    asks_nothing = flat.asks_nothing;
    row = λ given v x own listed stands w f others s0 st q k blk left at room goes.
        let g = (flags_extent n).grain in
        let small = flags_grain_small n in
        let acc = m.account st in
        let pointer : Facts m = of address (word (core.Pointer q)) ∷ [] in
        let adds = stored_adds m sound types g small (place_of offset) address 0 os b c stored in
        let at1 : At m w f a b ((of o (item x) ∷ []) ++ (pointer ++ others)) s0 st = record { serves = adds.grows.serves w at.serves; done = at.done; holds = at.holds } in
        let one = passed_plainly m realloc (Says m.width (said realloc given) (flags n) v) (of o (item x) ∷ []) own [] os a b refl (flat.row given v x own listed stands) w f (pointer ++ others) s0 st left at1 room.formed goes in
        let ws = one.ws in
        let says = one.says in
        let s1 = one.state in
        let after1 = one.after in
        let same : m.account s1 ≡ record acc { taken = left } = after1.account in
        let at2 : At m w f b c (ofs m os (core_data m ws) ++ (pointer ++ others)) s0 s1 =
        record { serves = at.serves; done = one.done; holds = after1.denotes } in
        let many : length os ≡ flag_words n = flat.fits ∙ length_words n in
        let are = each_word m.width (flag_words n) ws says.0 in
        let put = words_stored m sound types g small (place_of offset) address (bytes_at offset (2 ^ m.width)) (flag_words n) (flags_apart n) (place_told offset) os ws 0 b c one.fits are (omega (arith, many)) stored w f others s0 s1 q k blk at2
        (ap (λ (t : Account m.Item). is_heap t.heap) same ∙ room.formed) (subst (λ (t : Account m.Item). Contains t.heap.blocks blk) (sym same) room.there) room.starts
        (omega (arith, room.fits, flags_within n)) room.aligned in
        let all = put.1 in
        let after2 = put.5 in
        let bits = kept_bits g ws in
        let has : HasWords all k (2 ^ g) (flag_words n) bits = subst (λ j. HasWords all k (2 ^ g) j bits) many (subst (λ j. HasWords all j (2 ^ g) (length os) bits) (omega arith) put.4) in
        puts_plainly m realloc (Holds m.width (said realloc given) (flags n) v) k (elem_size m.width (layout (flags n))) blk k own left c w f others s0 st room.formed room.there (
          put.0,
          all,
          put.2,
          record {
            written = written_in blk all k (flag_words n * 2 ^ g) k (flags_extent n).bytes put.3 (omega arith) (omega (arith, flags_within n));
            holds = (bits, has, says.1 ∙ sym (flags_kept m.width n ws (one.fits ∙ many) are), says.2);
          },
          record {
            account = after2.account ∙ ap (stored_in all) same;
            owns = λ g. omega (arith, after1.owns g, after2.owns g, total-append g (m.owns put.0) (addresses own), total-append g (m.owns put.0) [], total-append g (m.owns s1) (addresses own), total-append g (m.owns s1) [], total-append g (m.owns st) []);
            denotes = sound.fewer w c pointer others put.0 after2.denotes;
          },
        );
  }

  pub flags_loads : (n : ℕ) (a b c : Self) (address r : Operand) (rs : List Operand) (offset : ArchitectureSize) → length rs ≡ flag_words n
      → LoadedOn m types (flags_extent n).grain (place_of offset) address 0 rs a b → Adds m b c → LiftsFlags m n rs (r ∷ []) b c → LiftsFromMemory m (flags n) address offset r a c
  flags_loads n a b c address r rs offset many loaded adds row = record {
    adds = adds_both m a b c (loaded_adds m sound types (flags_extent n).grain (flags_grain_small n) (place_of offset) address 0 rs a b loaded) adds;
    asks_nothing = λ v. refl;
    row = λ v own listed w f others s0 st q k blk at room holds may.
        let g = (flags_extent n).grain in
        let small = flags_grain_small n in
        let pointer : Facts m = of address (word (core.Pointer q)) ∷ [] in
        let at1 : At m w f a b (pointer ++ others) s0 st = record { serves = adds.grows.serves w at.serves; done = at.done; holds = at.holds } in
        let has : HasWords blk (k + 0 * 2 ^ g) (2 ^ g) (length rs) holds.0 = subst (λ j. HasWords blk j (2 ^ g) (length rs) holds.0) (omega arith) (subst (λ j. HasWords blk k (2 ^ g) j holds.0) (sym many) holds.1) in
        let one = words_loaded m sound types g small (place_of offset) address (bytes_at offset (2 ^ m.width)) (flag_words n) (flags_apart n) (place_told offset) rs holds.0 0 a b (omega (arith, many)) loaded w f others s0 st q k blk at1
        room.formed room.there room.starts (omega (arith, room.fits, flags_within n)) room.aligned has in
        let s1 = one.0 in
        let ws = one.1 in
        let after1 = one.6 in
        let rest : Facts m = ofs m rs (core_data m ws) in
        let says : Says m.width take (flags n) v ws [] = (are_words m.width (flag_words n) ws (one.3 ∙ many) one.4, holds.2 ∙ ap (λ x. x % 2 ^ n) (sym one.5), refl) in
        let at2 : At m w f b c (rest ++ others) s0 s1 = record { serves = at.serves; done = one.2; holds = sound.fewer w b pointer (rest ++ others) s1 (sound.swap w b rest pointer others s1 after1.denotes) } in
        let two = flags_made n b c rs r row v ws own holds.3 says w f others s0 s1 at2 in
        let after2 = two.4 in
        gets_plainly m (OneStands m (flags n) v) own (r ∷ []) c w f others s0 st room.formed (
          two.0,
          two.1,
          two.2,
          two.3,
          record {
            account = after2.account ∙ ap (took own) after1.account;
            owns = λ g. omega (arith, after1.owns g, after2.owns g, total-append g (m.owns two.0) [], total-append g (m.owns s1) [], total-append g (m.owns st) [], total-append g (m.owns s1) (addresses own), total-append g (m.owns st) (addresses own));
            denotes = after2.denotes;
          },
        );
  }
