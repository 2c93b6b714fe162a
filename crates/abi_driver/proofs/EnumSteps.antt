-- Enums become words, and words become enums; they are stored and loaded.
use Rattle.std.proofs.Common.{◌≡◌, ℕ, suc, ◌%◌, ◌^◌, ◌<◌, ◌≤◌, nat_lt, Bool, pos, ℤ, List, [], ◌∷◌, ◌++◌, length, Contains, refl, sym, ap, ◌∙◌, subst, arith, true}
use Rattle.std.proofs.lemmas.Bool.{cond-true, lt-ltb}
use Rattle.std.specs.Int.{w32, cast_signed}
use Rattle.wit_model.specs.declared.name.TypeId.{TypeId}
use Rattle.wit_model.specs.declared.size.ArchitectureSize.{ArchitectureSize}
use Rattle.wit_model.specs.declared.types.Member.{Member}
use Rattle.wit_model.specs.declared.types.TypeDef.{TypeDef}
use Rattle.wit_model.specs.declared.types.TypeDefKind.TheVariants as kind
use Rattle.wit_layout.specs.Extent.{discriminant_grain}
use Rattle.wrapper_data.specs.Heap.{is_heap}
use Rattle.wrapper_data.specs.declared.block.Block.{Block}
use Rattle.wrapper_data.specs.declared.form.Form.{Form}
use Rattle.wrapper_data.specs.declared.word.Word.TheVariants as core
use Rattle.wrapper_meaning.specs.Cells.{HasNumber}
use Rattle.wrapper_meaning.specs.Direction.{take}
use Rattle.wrapper_meaning.specs.InMemory.{CaseHolds, Holds}
use Rattle.wrapper_meaning.specs.Items.{total}
use Rattle.wrapper_meaning.specs.Settled.{settled}
use Rattle.wrapper_meaning.specs.Shape.{bare}
use Rattle.wrapper_meaning.specs.Shape.Shape.{cases}
use Rattle.wrapper_meaning.specs.Value.{Case, case_number}
use Rattle.wrapper_meaning.specs.Words.{AreWords}
use Rattle.abi_bindgen.specs.declared.instruction.Instruction.TheVariants.{EnumLift}
use Rattle.abi_bindgen.specs.Account.{Account, Got, Peer, addresses, stay}
use Rattle.abi_bindgen.specs.Cases.{LiftsEnum, reading_tag, tag_of}
use Rattle.abi_bindgen.specs.HasList.{IsKindOf}
use Rattle.abi_bindgen.specs.Instructions.{Emits}
use Rattle.abi_bindgen.specs.Laws.{Adds, After, At, Facts, Sound, core_data, ofs}
use Rattle.abi_bindgen.specs.Lifts.{LiftsFlat, OneStands, took}
use Rattle.abi_driver.specs.Loads.{LiftsFromMemory}
use Rattle.abi_bindgen.specs.Lowers.{LowersFlat}
use Rattle.abi_bindgen.specs.Meaning.{Meaning, item, of, word}
use Rattle.abi_bindgen.specs.NumberTouches.{tag_load, tag_store}
use Rattle.abi_bindgen.specs.Parts.{count}
use Rattle.abi_bindgen.specs.Places.{IsWritten}
use Rattle.abi_driver.specs.Stores.{LowersToMemory, Puts}
use Rattle.abi_bindgen.specs.Touches.{reached}
use Rattle.abi_bindgen.proofs.BareCases.{bare_holds, bare_settled, case_below, count_bare, no_slots, none_held, none_said, number_ranged, tree_count, bare_asks}
use Rattle.abi_driver.proofs.Tags.{bare_extent, tag_grain_small, tag_is, tag_kept, tag_loaded}
use Rattle.abi_bindgen.proofs.EnumLowers.{enum_cases}
use Rattle.abi_driver.proofs.LiftSteps.{follows_done}
use Rattle.abi_driver.proofs.NumberWords.{number_load_adds, number_loaded, number_store_adds, number_stored}
use Rattle.abi_bindgen.proofs.Runs.{adds_both}
use Rattle.abi_driver.proofs.Storing.{stored_in}
use Rattle.abi_driver.proofs.TakingOver.{took_none}
use Rattle.wrapper_meaning.proofs.PostReturn.{total-append}
use Rattle.abi_bindgen.specs.Lowering.{said}
use Rattle.abi_bindgen.proofs.LoweredPlainly.{passed_plainly}
use Rattle.abi_driver.proofs.PutSteps.{puts_plainly}
use Rattle.wrapper_meaning.specs.AsWords.{Says}
use Rattle.wit_layout.specs.Sizes.{elem_size}
use Rattle.wrapper_meaning.specs.Layout.{layout}
use Rattle.wrapper_meaning.specs.Requests.{block_for, case_requests, requests, room_for}
use Rattle.abi_driver.proofs.TakeSteps.{GetsPlainly, gets_plainly}
use Rattle.abi_bindgen.specs.Lifting.{Gets}

module _ {Self Operand : Type 0} (m : Meaning Self Operand) (sound : Sound m) (types : List TypeDef) where
  -- 1. Core words

  reads_tag : {V : Type 0} (f : Form) (k n : ℕ) (z : ℤ) (acc : Account V) → n < k → tag_of k (core.I32 z) ≡ n → reading_tag f k (core.I32 z) acc ≡ stay acc
  reads_tag f k n z acc l is = cond-true (nat_lt (tag_of k (core.I32 z)) k) _ _ (ap (λ t. nat_lt t k) is ∙ lt-ltb n k l)

  -- a word of which the tag is the number of a case becomes an enum of that case
  enum_made : {A : Type 0} (members : List A) (a b : Self) (o r : Operand) → LiftsEnum m (bare members) (o ∷ []) (r ∷ []) a b → (v : Case (bare members)) (own : List Block) (z : ℤ) → own ≡ []
      → tag_of (count (bare members)) (core.I32 z) ≡ case_number (bare members) v → (w : m.World) (f : Peer m.Item) (others : Facts m) (s0 st : m.State) → At m w f a b (of o (word (core.I32 z)) ∷ others) s0 st
      → GetsPlainly m (OneStands m (cases (bare members)) v) own (r ∷ []) b w f others s0 st
  enum_made members a b o r row v own z empty is w f others s0 st at =
      let ts = bare members in
      let k = count ts in
      let x = core.I32 z in
      let below : case_number ts v < k = subst (λ j. case_number ts v < j) (sym (count_bare members)) (case_below members v) in
      let P : Got m.Item (Unit {0}) → m.State → Type 0 = λ y t. (outs : Facts m) × ((c : m.Item) × (outs ≡ ofs m (r ∷ []) (item c ∷ [])) × ((u : Case ts) → case_number ts u ≡ tag_of k x → m.stands take (cases ts) u c [])) × After m w b (outs ++ others) [] [] st y t in
      let ran = follows_done m.account (reading_tag f.form k x (m.account st)) (m.does w f (m.code b) s0) P (record { result = tt; account = m.account st }) (reads_tag f.form k (case_number ts v) z (m.account st) below is) (row x w f others s0 st at) in
      let t = ran.0 in
      let made = ran.2.1 in
      let after = ran.2.2 in
      let stands : m.stands take (cases ts) v made.0 [] = made.2 v (sym is) in (
        t,
        made.0 ∷ [],
        ran.1,
        (made.0, refl, subst (m.stands take (cases ts) (settled (cases ts) v) made.0) (sym empty) (subst (λ u. m.stands take (cases ts) u made.0 []) (sym (bare_settled members v)) stands)),
        record {
          account = after.account ∙ sym (ap (λ bs. took bs (m.account st)) empty ∙ took_none (m.account st));
          owns = λ g. after.owns g ∙ sym (ap (λ bs. total g (m.owns st ++ addresses bs)) empty);
          denotes = subst (λ fs. m.denotes w b (fs ++ others) t) made.1 after.denotes;
        },
      )

  -- an enum asks for no room
  plainly_enum : {A : Type 0} (members : List A) (v : Case (bare members)) (own : List Block) (rs : List Operand) (new : Self) (w : m.World) (f : Peer m.Item) (others : Facts m) (s0 s : m.State) → is_heap (m.account s).heap ≡ true
      → GetsPlainly m (OneStands m (cases (bare members)) v) own rs new w f others s0 s → Gets m (OneStands m (cases (bare members)) v) own (requests m.width room_for (cases (bare members)) v) rs new w f others s0 s
  plainly_enum members v own rs new w f others s0 s formed h =
      subst (λ due. Gets m (OneStands m (cases (bare members)) v) own due rs new w f others s0 s) (sym (bare_asks m.width room_for members v)) (gets_plainly m (OneStands m (cases (bare members)) v) own rs new w f others s0 s formed h)

  enum_lifts_row : {A : Type 0} (members : List A) (a b : Self) (o r : Operand) → length members ≤ 2 ^ 31 → Adds m a b → LiftsEnum m (bare members) (o ∷ []) (r ∷ []) a b → LiftsFlat m (cases (bare members)) (o ∷ []) r a b
  enum_lifts_row members a b o r most adds row = record {
    adds = adds;
    fits = sym (ap (λ cs. suc (length cs)) (no_slots members));
    asks_nothing = bare_asks m.width room_for members;
    row = λ v ws own listed says w f others s0 st at may.
        let ts = bare members in
        let n = case_number ts v in
        let many : count ts ≡ length members = count_bare members in
        let below : n < count ts = subst (λ j. n < j) (sym many) (case_below members v) in
        let bound : count ts ≤ 2 ^ 31 = subst (λ j. j ≤ 2 ^ 31) (sym many) most in
        let alone : says.0 ≡ [] = subst (λ cs. AreWords m.width cs says.0) (no_slots members) says.2 in
        let is_word : ws ≡ core.I32 (pos n) ∷ [] = says.1 ∙ ap (λ zs. core.I32 (pos n) ∷ zs) alone in
        let at1 : At m w f a b (of o (word (core.I32 (pos n))) ∷ others) s0 st = record { serves = at.serves; done = at.done; holds = subst (λ zs. m.denotes w a (ofs m (o ∷ []) (core_data m zs) ++ others) st) is_word at.holds } in
        plainly_enum members v own (r ∷ []) b w f others s0 st may.formed (enum_made members a b o r row v own (pos n) (none_said m.width take members v says.0 own says.3) (tag_is (count ts) n below bound) w f others s0 st at1);
  }

  pub enum_lifts : (id : TypeId) (members : List Member) (a b : Self) (o r : Operand) → IsKindOf types id.0 (kind.Enum members) → length members ≤ 2 ^ 31 → Emits m types (EnumLift id) (o ∷ []) (r ∷ []) a b
      → LiftsFlat m (cases (bare members)) (o ∷ []) r a b
  enum_lifts id members a b o r is most e =
      enum_lifts_row members a b o r most e.adds (subst (λ ts. LiftsEnum m ts (o ∷ []) (r ∷ []) a b) (enum_cases types id.0 members is) e.row)

  -- 2. Memory

  pub enum_stores : (realloc : Bool) (members : List Member) (a b c : Self) (o r address : Operand) (offset : ArchitectureSize) → length members ≤ 2 ^ 31 → LowersFlat m realloc (cases (bare members)) o (r ∷ []) a b
      → Emits m types (tag_store (length members) offset) (r ∷ address ∷ []) [] b c → LowersToMemory m realloc (cases (bare members)) o address offset a c
  enum_stores realloc members a b c o r address offset most flat e = record {
    adds = adds_both m a b c flat.adds (number_store_adds m sound types (discriminant_grain (length members)) offset (r ∷ address ∷ []) [] b c e);
    asks_nothing = flat.asks_nothing;
    row = λ given v x own listed stands w f others s0 st q k blk left at room goes.
        let g = discriminant_grain (length members) in
        let acc = m.account st in
        let dir = said realloc given in
        let n = case_number (bare members) v in
        let extent = bare_extent m.width members in
        let pointer : Facts m = of address (word (core.Pointer q)) ∷ [] in
        let adds = number_store_adds m sound types g offset (r ∷ address ∷ []) [] b c e in
        let at1 : At m w f a b ((of o (item x) ∷ []) ++ (pointer ++ others)) s0 st = record { serves = adds.grows.serves w at.serves; done = at.done; holds = at.holds } in
        let one = passed_plainly m realloc (Says m.width dir (cases (bare members)) v) (of o (item x) ∷ []) own (case_requests m.width block_for (bare members) v) (r ∷ []) a b (flat.asks_nothing v) (flat.row given v x own listed stands) w f (pointer ++ others) s0 st left at1 room.formed goes in
        let says = one.says in
        let empty : own ≡ [] = none_said m.width dir members v says.0 own says.3 in
        let s1 = one.state in
        let after1 = one.after in
        let alone : says.0 ≡ [] = subst (λ cs. AreWords m.width cs says.0) (no_slots members) says.2 in
        let is : ofs m (r ∷ []) (core_data m one.ws) ≡ of r (word (core.I32 (pos n))) ∷ [] = ap (λ ws. ofs m (r ∷ []) (core_data m ws)) (says.1 ∙ ap (λ zs. core.I32 (pos n) ∷ zs) alone) in
        let at2 : At m w f b c (of r (word (core.I32 (pos n))) ∷ of address (word (core.Pointer q)) ∷ others) s0 s1 =
        record { serves = at.serves; done = one.done; holds = subst (λ fs. m.denotes w b (fs ++ (pointer ++ others)) s1) is after1.denotes } in
        let same : m.account s1 ≡ record acc { taken = left } = after1.account in
        let below = case_below members v in
        let put = number_stored m sound types g offset r address b c (tag_grain_small (length members)) e (core.I32 (pos n)) (number_ranged n (omega (arith, below, most))) w f others s0 s1 q k blk at2
        (ap (λ (t : Account m.Item). is_heap t.heap) same ∙ room.formed) (subst (λ (t : Account m.Item). Contains t.heap.blocks blk) (sym same) room.there) room.starts
        (omega (arith, room.fits, ap (λ e. e.bytes) extent)) (subst (λ j. reached m q offset % 2 ^ j ≡ 0) (ap (λ e. e.grain) extent) room.aligned) in
        let after2 = put.5 in
        subst (λ due. Puts m realloc (Holds m.width dir (cases (bare members)) v) k (elem_size m.width (layout (cases (bare members)))) blk k own left due c w f others s0 st) (sym (flat.asks_nothing v))
        (puts_plainly m realloc (Holds m.width dir (cases (bare members)) v) k (elem_size m.width (layout (cases (bare members)))) blk k own left c w f others s0 st room.formed room.there (
          put.0,
          put.1,
          put.2,
          record {
            written = subst (λ j. IsWritten k j blk put.1) (sym (ap (λ e. e.bytes) extent)) put.3;
            holds = (
              subst (λ j. HasNumber put.1 k (2 ^ discriminant_grain j) n) (sym (tree_count members)) (subst (λ j. HasNumber put.1 k (2 ^ g) j) (tag_kept (length members) n below most) put.4),
              subst (CaseHolds m.width dir (bare members) v put.1 _) (sym empty) (bare_holds m.width dir members v put.1 _),
            );
          },
          record {
            account = after2.account ∙ ap (stored_in put.1) same;
            owns = λ g. omega (arith, after1.owns g, after2.owns g, total-append g (m.owns put.0) (addresses own), total-append g (m.owns put.0) [], total-append g (m.owns s1) (addresses own), total-append g (m.owns s1) [], total-append g (m.owns st) []);
            denotes = after2.denotes;
          },
        ));
  }

  pub enum_loads : (members : List Member) (a b c : Self) (address x r : Operand) (offset : ArchitectureSize) → Emits m types (tag_load (length members) offset) (address ∷ []) (x ∷ []) a b → Adds m b c
      → LiftsEnum m (bare members) (x ∷ []) (r ∷ []) b c → LiftsFromMemory m (cases (bare members)) address offset r a c
  enum_loads members a b c address x r offset e adds row = record {
    adds = adds_both m a b c (number_load_adds m sound types (discriminant_grain (length members)) offset (address ∷ []) (x ∷ []) a b e) adds;
    asks_nothing = bare_asks m.width room_for members;
    row = λ v own listed w f others s0 st q k blk at room holds may.
        let g = discriminant_grain (length members) in
        let ts = bare members in
        let n = case_number ts v in
        let extent = bare_extent m.width members in
        let has : HasNumber blk k (2 ^ g) n = subst (λ j. HasNumber blk k (2 ^ discriminant_grain j) n) (tree_count members) holds.0 in
        let at1 : At m w f a b (of address (word (core.Pointer q)) ∷ others) s0 st = record { serves = adds.grows.serves w at.serves; done = at.done; holds = at.holds } in
        let one = number_loaded m sound types g offset address x a b (tag_grain_small (length members)) e w f others s0 st q k n blk at1 room.formed room.there room.starts
        (omega (arith, room.fits, ap (λ e. e.bytes) extent)) (subst (λ j. reached m q offset % 2 ^ j ≡ 0) (ap (λ e. e.grain) extent) room.aligned) has in
        let s1 = one.0 in
        let after1 = one.2 in
        let at2 : At m w f b c (of x (word (core.I32 (cast_signed w32 (n % 2 ^ 32)))) ∷ others) s0 s1 = record { serves = at.serves; done = one.1; holds = after1.denotes } in
        let is : tag_of (count ts) (core.I32 (cast_signed w32 (n % 2 ^ 32))) ≡ n = ap (λ j. tag_of j (core.I32 (cast_signed w32 (n % 2 ^ 32)))) (count_bare members) ∙ tag_loaded (length members) n has.0 in
        let two = enum_made members b c x r row v own (cast_signed w32 (n % 2 ^ 32)) (none_held m.width take members v blk _ own holds.1) is w f others s0 s1 at2 in
        let after2 = two.4 in
        plainly_enum members v own (r ∷ []) c w f others s0 st room.formed (
          two.0,
          two.1,
          two.2,
          two.3,
          record {
            account = after2.account ∙ ap (took own) after1.account;
            owns = λ g. omega (arith, after1.owns g, after2.owns g, total-append g (m.owns two.0) [], total-append g (m.owns s1) [], total-append g (m.owns st) [], total-append g (m.owns s1) (addresses own), total-append g (m.owns st) (addresses own));
            denotes = after2.denotes;
          },
        );
  }
