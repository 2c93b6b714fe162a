-- Values are stored: scalars, texts, and parts.
use Rattle.std.proofs.Common.{◌≡◌, ℕ, ◌+◌, ◌-◌, ◌%◌, ◌^◌, ◌≤◌, Bool, List, [], ◌∷◌, ◌++◌, length, drop, take, refl, sym, ap, ap₂, ◌∙◌, subst, arith, true, Contains}
use mathlib.Core.Logic.{inl}
use Rattle.std.proofs.lemmas.List.{drop_all}
use Rattle.wit_model.specs.Size.{bytes_at}
use Rattle.wit_model.specs.declared.name.TypeId.{TypeId}
use Rattle.wit_model.specs.declared.size.ArchitectureSize.{ArchitectureSize}
use Rattle.wit_model.specs.declared.types.Field.{Field}
use Rattle.wit_model.specs.declared.types.TypeDef.{TypeDef}
use Rattle.wit_model.specs.declared.types.WitType.{WitType}
use Rattle.wit_layout.specs.Extent.{end, greatest, place, record_extent}
use Rattle.wit_layout.specs.Sizes.{alignment, elem_size, extent_of, extents_of}
use Rattle.wrapper_data.specs.declared.block.Block.{Block}
use Rattle.wrapper_data.specs.declared.word.Word.{Word}
use Rattle.wrapper_data.specs.declared.word.Word.TheVariants as core
use Rattle.wrapper_meaning.specs.Direction.{Direction}
use Rattle.wrapper_meaning.specs.InMemory.{Holds, PartsHold}
use Rattle.wrapper_meaning.specs.InRange.{AreListed}
use Rattle.wrapper_meaning.specs.Layout.{layout, layouts}
use Rattle.wrapper_meaning.specs.Shape.{Shape, Shapes, shape_of}
use Rattle.wrapper_meaning.specs.Shape.Shape.{fields, tuple}
use Rattle.wrapper_meaning.specs.Shape.Shapes.{none, more}
use Rattle.wrapper_meaning.specs.Value.{Parts, Value}
use Rattle.wrapper_meaning.proofs.HoldsLocally.{holds_locally}
use Rattle.wrapper_meaning.proofs.PartPlaces.{aligned_part, grain_of_first, grain_of_rest, less_grain, place_aligned, place_behind}
use Rattle.abi_bindgen.specs.declared.instruction.Instruction.TheVariants.{RecordLower, TupleLower}
use Rattle.abi_bindgen.specs.Account.{Account, Peer, addresses}
use Rattle.abi_bindgen.specs.Instructions.{Emits, IsRecord, field_shapes, shapes_of}
use Rattle.abi_bindgen.specs.Laws.{Adds, At, Facts, Sound, item_data, ofs}
use Rattle.abi_bindgen.specs.Leaves.{way}
use Rattle.abi_bindgen.specs.Meaning.{Meaning, item, of, word}
use Rattle.abi_bindgen.specs.Parts.{LowersParts, count}
use Rattle.abi_bindgen.specs.Places.{HasRoom, HavePlaces, IsWritten}
use Rattle.abi_driver.specs.Stores.{LowersToMemory, Put, Puts, StoresFrom, StoresParts}
use Rattle.abi_bindgen.specs.Touches.{reached}
use Rattle.abi_bindgen.proofs.Done.{releases_both}
use Rattle.abi_bindgen.proofs.Runs.{adds_both, adds_same, addresses_both}
use Rattle.wrapper_meaning.specs.Items.{SameItems, total}
use Rattle.abi_driver.proofs.Replaced.{block_formed, replaced_same, split}
use Rattle.abi_driver.proofs.Storing.{written_both, written_in}
use Rattle.wrapper_meaning.proofs.PostReturn.{total-append}
use Rattle.wit_layout.proofs.RecordSteps.{end_behind, record_behind}
use Rattle.abi_bindgen.specs.Lowering.{Releases, said}
use Rattle.abi_bindgen.specs.Early.{HasAsked}
use Rattle.abi_bindgen.proofs.EarlyLemmas.{comes_more, comes_on}
use Rattle.abi_bindgen.proofs.PassSteps.{made_both, none_behind, none_front, onward, split_both}
use Rattle.abi_bindgen.proofs.LowerSteps.{parts_bare}
use Rattle.abi_driver.proofs.PutSteps.{asked_by_putting, puts_as, puts_plainly, putting_both, stays_puts, there_behind}
use Rattle.wrapper_meaning.specs.Requests.{block_for, part_requests, requests}
use Rattle.wrapper_meaning.specs.Buffer.{Contents}

-- what was written in a part and then in those behind it
written_parts : (b mid after : Block) (k behind here size last : ℕ) → behind ≤ here → here + size ≤ last → IsWritten (k + here) size b mid → IsWritten (k + (here + size)) (last - (here + size)) mid after → IsWritten (k + behind) (last - behind) b after
written_parts b mid after k behind here size last low ends one two =
    written_both b mid after (k + behind) (last - behind) (k + here) size (k + (here + size)) (last - (here + size)) one two (omega (arith, low)) (omega (arith, low, ends)) (omega (arith, low)) (omega (arith, low, ends))

-- owners are let go, and then others
owns_parts : (s s1 u first second all : List ℕ) → all ≡ first ++ second → SameItems (s1 ++ first) s → SameItems (u ++ second) s1 → SameItems (u ++ all) s
owns_parts s s1 u first second all same one two g =
    let sum : total g all ≡ total g first + total g second = ap (total g) same ∙ total-append g first second in
    omega (arith, sum, one g, two g, total-append g u all, total-append g u second, total-append g s1 first)

module _ {Self Operand : Type 0} (m : Meaning Self Operand) (types : List TypeDef) where
  -- where the parts from one on begin
  abbrev pub behind_of : List WitType → ℕ → ℕ
  behind_of tys i = end (extents_of m.width (layouts (shapes_of types (take i tys)))) 0

  -- what stores the parts from one on, stores all
  abbrev pub Rest : Bool → List WitType → List Operand → Operand → ArchitectureSize → ℕ → (a b : Self) → Type 0
  Rest realloc tys parts address offset i a b = (new : Self) → StoresParts m realloc (shapes_of types (drop i tys)) (drop i parts) address offset (behind_of tys i) b new → StoresParts m realloc (shapes_of types tys) parts address offset 0 a new

module _ {Self Operand : Type 0} (m : Meaning Self Operand) (sound : Sound m) (types : List TypeDef) where
  -- a word that an operand denotes may be read again, behind other facts
  pub word_again : (w : m.World) (b : Self) (front others : Facts m) (o : Operand) (x : Word) (s : m.State) → m.denotes w b (front ++ of o (word x) ∷ others) s → m.denotes w b (of o (word x) ∷ front ++ of o (word x) ∷ others) s
  word_again w b front others o x s h =
      let y : Facts m = of o (word x) ∷ [] in
      let first : m.denotes w b (y ++ (front ++ others)) s = sound.swap w b front y others s h in
      let twice : m.denotes w b (y ++ (y ++ (front ++ others))) s = sound.again w b o x (front ++ others) s first in
      let both : m.denotes w b ((y ++ y) ++ (front ++ others)) s = twice in
      let behind : m.denotes w b (front ++ ((y ++ y) ++ others)) s = sound.swap w b (y ++ y) front others s both in
      sound.swap w b front y (y ++ others) s behind

  -- no parts are stored by no code
  pub none_stores : (realloc : Bool) (Ins : List m.Item → Facts m) (address : Operand) (offset : ArchitectureSize) (behind : ℕ) (a : Self) → Ins [] ≡ [] → StoresFrom m realloc none Ins address offset behind a a
  none_stores realloc Ins address offset behind a bare = record {
    adds = adds_same m a;
    asks_nothing = λ v. refl;
    row = λ given v vals own listed stands w f others s0 s q k b left at places goes.
        let empty : own ≡ [] = stands.1 in
        let is_left : left ≡ (m.account s).taken = subst (λ bs. Releases (addresses bs) (m.account s).taken left) empty goes in
        let here : m.denotes w a (of address (word (core.Pointer q)) ∷ others) s = subst (λ fs. m.denotes w a (fs ++ of address (word (core.Pointer q)) ∷ others) s) (ap Ins stands.0 ∙ bare) at.holds in
        let same = replaced_same (m.account s).heap.blocks b places.formed places.there in
        puts_plainly m realloc (PartsHold m.width (said realloc given) none v behind) (k + behind) (end [] behind - behind) b k own left a w f others s0 s places.formed places.there (
          s,
          b,
          at.done,
          record { written = record { formed = block_formed (m.account s).heap.blocks b places.formed places.there; same_address = refl; same_size = refl; outside = λ i n h. refl }; holds = empty },
          record {
            account = ap₂ (λ (bs : List Block) (ts : List ℕ). record (m.account s) { heap = record { blocks = bs }; taken = ts }) (sym same) (sym is_left);
            owns = λ g. ap (λ bs. total g (m.owns s ++ addresses bs)) empty;
            denotes = sound.fewer w a (of address (word (core.Pointer q)) ∷ []) others s here;
          },
        );
  }

  module _ (realloc : Bool) (t : Shape) (ts : Shapes) (behind : ℕ) where
    -- where the first part stands, and where it ends
    abbrev here : ℕ
    here = place (extent_of m.width (layout t)) behind

    abbrev next : ℕ
    next = here + elem_size m.width (layout t)

    abbrev last : ℕ
    last = end (extents_of m.width (layouts ts)) next

    -- a part and then others, which stand in other facts
    pub more_stores : (a b c : Self) (o : Operand) (Ins Rest : List m.Item → Facts m) (address : Operand) (offset first_offset : ArchitectureSize) → ((x : m.Item) (rest : List m.Item) → Ins (x ∷ rest) ≡ of o (item x) ∷ Rest rest)
        → bytes_at first_offset (2 ^ m.width) ≡ bytes_at offset (2 ^ m.width) + here
        → LowersToMemory m realloc t o address first_offset a b → StoresFrom m realloc ts Rest address offset next b c → StoresFrom m realloc (more t ts) Ins address offset behind a c
    more_stores a b c o Ins Rest address offset first_offset splits is first later = record {
      adds = adds_both m a b c first.adds later.adds;
      asks_nothing = λ v. ap₂ (λ xs ys. xs ++ ys) (first.asks_nothing v.0) (later.asks_nothing v.1);
      row = λ given v vals own listed stands w f others s0 s q k blk left at places goes.
          let acc = m.account s in
          let x = stands.0 in
          let rest = stands.1 in
          let own1 = stands.2 in
          let own2 = stands.3 in
          let e = extent_of m.width (layout t) in
          let es = extents_of m.width (layouts ts) in
          let base = reached m q offset in
          let pointer : Facts m = of address (word (core.Pointer q)) ∷ [] in
          let ys : Facts m = Rest rest in
          let low : behind ≤ here = place_behind e behind in
          let ends : next ≤ last = end_behind es next in
          let owners = releases_both (addresses own1) (addresses own2) acc.taken left (subst (λ zs. Releases zs acc.taken left) (ap addresses stands.7 ∙ addresses_both own1 own2) goes) in
          let facts : m.denotes w a (((of o (item x) ∷ []) ++ ys) ++ of address (word (core.Pointer q)) ∷ others) s = subst (λ fs. m.denotes w a (fs ++ of address (word (core.Pointer q)) ∷ others) s) (ap Ins stands.4 ∙ splits x rest) at.holds in
          let doubled : m.denotes w a (pointer ++ ((of o (item x) ∷ []) ++ (ys ++ (pointer ++ others)))) s = word_again w a ((of o (item x) ∷ []) ++ ys) others address (core.Pointer q) s facts in
          let at1 : At m w f a b (of o (item x) ∷ of address (word (core.Pointer q)) ∷ (ys ++ (pointer ++ others))) s0 s =
          record { serves = later.adds.grows.serves w at.serves; done = at.done; holds = sound.swap w a pointer (of o (item x) ∷ []) (ys ++ (pointer ++ others)) s doubled } in
          let reach : reached m q first_offset ≡ base + here = ap (λ n. q + n) is ∙ omega arith in
          let room : HasRoom m.width t (reached m q first_offset) blk (k + here) acc.heap = record {
            formed = places.formed;
            there = places.there;
            starts = reach ∙ omega (arith, places.starts);
            fits = omega (arith, places.fits, ends);
            aligned = subst (λ n. n % alignment m.width (layout t) ≡ 0) (sym reach) (aligned_part base here (greatest (e ∷ es)).grain e.grain places.aligned (grain_of_first e es) (place_aligned e behind));
          } in
          let due1 = requests m.width block_for t v.0 in
          let due2 = part_requests m.width block_for ts v.1 in
          let size = elem_size m.width (layout t) in
          let One : Contents = Holds m.width (said realloc given) t v.0 in
          let Two : Contents = PartsHold m.width (said realloc given) ts v.1 next in
          let First : m.State → Type 0 = Put m realloc One (k + here) size blk (k + here) own1 owners.0 due1 w b (ys ++ (pointer ++ others)) s in
          let Whole : m.State → Type 0 = Put m realloc (PartsHold m.width (said realloc given) (more t ts) v behind) (k + behind) (last - behind) blk k own left (due1 ++ due2) w c others s in
          let own_is : addresses own ≡ addresses own1 ++ addresses own2 = ap addresses stands.7 ∙ addresses_both own1 own2 in
          comes_on true due1 due2 m.account acc (m.does w f (m.code b) s0) (m.does w f (m.code c) s0) First Whole (later.adds.grows.stops w f s0 at.serves)
          (comes_more true due1 acc (m.does w f (m.code b) s0) First (λ s1. HasAsked due1 acc (m.account s1) × First s1) (first.row given v.0 x own1 listed.0 stands.5 w f (ys ++ (pointer ++ others)) s0 s q (k + here) blk owners.0 at1 room owners.1)
          (λ s1 d put1. (asked_by_putting realloc put1.puts.block put1.puts.made owners.0 due1 acc (m.account s1) put1.puts.account, put1)))
          (λ s1 done put1.
          let mid = put1.puts.block in
          let made1 = put1.puts.made in
          let written1 = put1.puts.stored.written in
          let is_behind = put1.puts.account in
          let there = split acc.heap.blocks blk places.formed places.there in
          let on = onward realloc own2 made1 owners.0 left (parts_bare m sound types realloc given ts v.1 rest own2 stands.6) owners.2 in
          let at2 : At m w f b c (ys ++ (pointer ++ others)) s0 s1 = record { serves = at.serves; done = done; holds = put1.denotes } in
          let places2 : HavePlaces m.width ts next base mid k (m.account s1).heap = record {
            formed = put1.puts.formed;
            there = subst (λ (z : Account m.Item). Contains z.heap.blocks mid) (sym is_behind) (there_behind acc.heap.blocks blk mid made1 there written1.same_address);
            starts = places.starts ∙ ap (λ n. n + k) (sym written1.same_address);
            fits = omega (arith, places.fits, written1.same_size);
            aligned = less_grain base (greatest (e ∷ es)).grain (greatest es).grain places.aligned (grain_of_rest e es);
          } in
          let goes2 = subst (λ (z : Account m.Item). Releases (addresses own2) z.taken on.next) (sym is_behind) on.goes in
          comes_more true due2 (m.account s1) (m.does w f (m.code c) s0) (Put m realloc Two (k + next) (last - next) mid k own2 on.next due2 w c others s1) Whole
          (later.row given v.1 rest own2 listed.1 stands.6 w f others s0 s1 q k mid on.next at2 places2 goes2)
          (λ u d put2.
          let all = put2.puts.block in
          let written2 = put2.puts.stored.written in
          let stays = holds_locally m.width (said realloc given) t v.0 mid all (k + here) put1.puts.blocks listed.0 (λ i n l h. written2.outside i n (inl (omega (arith, h)))) put1.puts.stored.holds in
          record {
            puts = record {
              block = all;
              made = made1 ++ put2.puts.made;
              blocks = put1.puts.blocks ++ put2.puts.blocks;
              stored = record { written = written_parts blk mid all k behind here size last low ends written1 written2; holds = (put1.puts.blocks, put2.puts.blocks, stays, put2.puts.stored.holds, refl) };
              split = subst (λ bs. SameItems (put1.puts.blocks ++ put2.puts.blocks) ((made1 ++ put2.puts.made) ++ bs)) (sym stands.7) (split_both put1.puts.blocks put2.puts.blocks made1 put2.puts.made own1 own2 put1.puts.split put2.puts.split);
              same = λ unmade. ap₂ (λ xs ys. xs ++ ys) (put1.puts.same (none_front made1 put2.puts.made unmade)) (put2.puts.same (none_behind made1 put2.puts.made unmade)) ∙ sym stands.7;
              each = made_both due1 due2 made1 put2.puts.made put1.puts.each put2.puts.each;
              account = putting_both realloc blk mid all made1 put2.puts.made owners.0 on.next left due1 due2 acc (m.account s1) (m.account u) there written1.same_address written2.same_address is_behind put2.puts.account on.same;
              formed = put2.puts.formed;
            };
            owns = owns_parts (m.owns s) (m.owns s1) (m.owns u) (addresses own1) (addresses own2) (addresses own) own_is put1.owns put2.owns;
            denotes = put2.denotes;
          }));
    }

  -- a value whose parts are stored
  parts_row : (realloc : Bool) (ts : Shapes) (t : Shape) (whole : Parts ts → Value t) (a b c : Self) (o address : Operand) (parts : List Operand) (offset : ArchitectureSize)
      → layout t ≡ layout (fields ts) → ((v : Parts ts) (dir : Direction) (blk : Block) (k : ℕ) (own : List Block) → PartsHold m.width dir ts v 0 blk k own → Holds m.width dir t (whole v) blk k own)
      → Adds m a b → LowersParts m ts t whole (o ∷ []) parts a b → StoresParts m realloc ts parts address offset 0 b c
      → (given : List Block) (v : Parts ts) (x : m.Item) (own : List Block) → AreListed ts v → m.stands (way realloc given) t (whole v) x own
      → (w : m.World) (f : Peer m.Item) (others : Facts m) (s0 s : m.State) (q k : ℕ) (blk : Block) (left : List ℕ)
      → At m w f a c (of o (item x) ∷ of address (word (core.Pointer q)) ∷ others) s0 s → HasRoom m.width t (reached m q offset) blk k (m.account s).heap → Releases (addresses own) (m.account s).taken left
      → Puts m realloc (Holds m.width (said realloc given) t (whole v)) k (elem_size m.width (layout t)) blk k own left (part_requests m.width block_for ts v) c w f others s0 s
  parts_row realloc ts t whole a b c o address parts offset same holds adds lowers stores given v x own listed stands w f others s0 s q k blk left at room goes =
      let row = lowers (way realloc given) v x own stands in
      let vals = row.0 in
      let pointer : Facts m = of address (word (core.Pointer q)) ∷ [] in
      let at1 : At m w f a b ((of o (item x) ∷ []) ++ (pointer ++ others)) s0 s = record { serves = stores.adds.grows.serves w at.serves; done = at.done; holds = at.holds } in
      let one = row.2 w f (pointer ++ others) s0 s at1 in
      let s1 = one.0 in
      let after1 = one.2.2 in
      let at2 : At m w f b c (ofs m parts (item_data m vals) ++ (pointer ++ others)) s0 s1 = record { serves = at.serves; done = one.1; holds = subst (λ fs. m.denotes w b (fs ++ (pointer ++ others)) s1) one.2.1 after1.denotes } in
      let es = extents_of m.width (layouts ts) in
      let size : elem_size m.width (layout t) ≡ (record_extent es).bytes = ap (elem_size m.width) same in
      let places : HavePlaces m.width ts 0 (reached m q offset) blk k (m.account s).heap = record {
        formed = room.formed;
        there = room.there;
        starts = room.starts;
        fits = omega (arith, room.fits, size, record_behind es);
        aligned = subst (λ l. reached m q offset % alignment m.width l ≡ 0) same room.aligned;
      } in
      let places1 = subst (λ (z : Account m.Item). HavePlaces m.width ts 0 (reached m q offset) blk k z.heap) (sym after1.account) places in
      let goes1 = subst (λ (z : Account m.Item). Releases (addresses own) z.taken left) (sym after1.account) goes in
      let due = part_requests m.width block_for ts v in
      let Parted : Contents = PartsHold m.width (said realloc given) ts v 0 in
      let Whole : Contents = Holds m.width (said realloc given) t (whole v) in
      let two = stores.row given v vals own listed row.1 w f others s0 s1 q k blk left at2 places1 goes1 in
      let from_start = stays_puts m realloc Parted (k + 0) (end es 0 - 0) blk k own left c w f others s0 s s1 due after1.account after1.owns two in
      puts_as m realloc Parted (k + 0) (end es 0 - 0) blk k own left c w f others s0 Whole k (elem_size m.width (layout t)) k s due
      (λ all written. written_in blk all (k + 0) (end es 0 - 0) k (elem_size m.width (layout t)) written (omega arith) (omega (arith, size, record_behind es)))
      (λ all blocks written there. holds v (said realloc given) all k blocks there) from_start

  pub record_stores : (realloc : Bool) (id : TypeId) (members : List Field) (a b c : Self) (o address : Operand) (parts : List Operand) (offset : ArchitectureSize) → IsRecord types id.0 members → Emits m types (RecordLower id) (o ∷ []) parts a b
      → StoresParts m realloc (field_shapes types members) parts address offset 0 b c → LowersToMemory m realloc (fields (field_shapes types members)) o address offset a c
  record_stores realloc id members a b c o address parts offset is e stores = record {
    adds = adds_both m a b c e.adds stores.adds;
    asks_nothing = stores.asks_nothing;
    row = λ given v x own listed stands.
        parts_row realloc (field_shapes types members) (fields (field_shapes types members)) (λ v. v) a b c o address parts offset refl (λ v dir blk k own h. h) e.adds (e.row members is) stores given v x own listed stands;
  }

  pub tuple_stores : (realloc : Bool) (n : ℕ) (ts : Shapes) (a b c : Self) (o address : Operand) (parts : List Operand) (offset : ArchitectureSize) → count ts ≡ n → Emits m types (TupleLower n) (o ∷ []) parts a b
      → StoresParts m realloc ts parts address offset 0 b c → LowersToMemory m realloc (tuple ts) o address offset a c
  tuple_stores realloc n ts a b c o address parts offset is e stores = record {
    adds = adds_both m a b c e.adds stores.adds;
    asks_nothing = stores.asks_nothing;
    row = λ given v x own listed stands. parts_row realloc ts (tuple ts) (λ v. v) a b c o address parts offset refl (λ v dir blk k own h. h) e.adds (e.row ts is) stores given v x own listed stands;
  }

  pub stores_as : (realloc : Bool) (s t : Shape) (a b : Self) (o address : Operand) (offset : ArchitectureSize) → s ≡ t → LowersToMemory m realloc t o address offset a b → LowersToMemory m realloc s o address offset a b
  stores_as realloc s t a b o address offset e h = subst (λ x. LowersToMemory m realloc x o address offset a b) (sym e) h

  pub stores_parts_as : (realloc : Bool) (xs ys : List WitType) (a b : Self) (parts : List Operand) (address : Operand) (offset : ArchitectureSize) (behind : ℕ) → xs ≡ ys
      → StoresParts m realloc (shapes_of types xs) parts address offset behind a b → StoresParts m realloc (shapes_of types ys) parts address offset behind a b
  stores_parts_as realloc xs ys a b parts address offset behind e h = subst (λ x. StoresParts m realloc (shapes_of types x) parts address offset behind a b) e h

  pub rest_next : (realloc : Bool) (tys : List WitType) (parts : List Operand) (address : Operand) (offset first_offset : ArchitectureSize) (i : ℕ) (a b c : Self) (ty : WitType) (o : Operand) → drop i tys ≡ ty ∷ drop (i + 1) tys → drop i parts ≡ o ∷ drop (i + 1) parts
      → behind_of m types tys (i + 1) ≡ place (extent_of m.width (layout (shape_of types ty))) (behind_of m types tys i) + elem_size m.width (layout (shape_of types ty))
      → bytes_at first_offset (2 ^ m.width) ≡ bytes_at offset (2 ^ m.width) + place (extent_of m.width (layout (shape_of types ty))) (behind_of m types tys i)
      → LowersToMemory m realloc (shape_of types ty) o address first_offset b c → Rest m types realloc tys parts address offset i a b → Rest m types realloc tys parts address offset (i + 1) a c
  rest_next realloc tys parts address offset first_offset i a b c ty o et eo next is one rest new h =
      let both = more_stores realloc (shape_of types ty) (shapes_of types (drop (i + 1) tys)) (behind_of m types tys i) b c new o (λ vals. ofs m (o ∷ drop (i + 1) parts) (item_data m vals)) (λ vals. ofs m (drop (i + 1) parts) (item_data m vals)) address offset first_offset (λ x rest. refl) is one (subst (λ n. StoresParts m realloc (shapes_of types (drop (i + 1) tys)) (drop (i + 1) parts) address offset n c new) next h) in
      rest new (subst (λ ps. StoresParts m realloc (shapes_of types (drop i tys)) ps address offset (behind_of m types tys i) b new) (sym eo)
      (subst (λ ts. StoresParts m realloc (shapes_of types ts) (o ∷ drop (i + 1) parts) address offset (behind_of m types tys i) b new) (sym et) both))

  pub rest_last : (realloc : Bool) (tys : List WitType) (parts : List Operand) (address : Operand) (offset : ArchitectureSize) (i : ℕ) (a b : Self) → length tys ≤ i → length parts ≤ i → Rest m types realloc tys parts address offset i a b → StoresParts m realloc (shapes_of types tys) parts address offset 0 a b
  rest_last realloc tys parts address offset i a b ht hp rest =
      rest b (subst (λ ps. StoresParts m realloc (shapes_of types (drop i tys)) ps address offset (behind_of m types tys i) b b) (sym (drop_all i parts hp))
      (subst (λ ts. StoresParts m realloc (shapes_of types ts) [] address offset (behind_of m types tys i) b b) (sym (drop_all i tys ht)) (none_stores realloc (λ vals. ofs m [] (item_data m vals)) address offset (behind_of m types tys i) b refl)))
