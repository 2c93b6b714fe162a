-- Values are loaded: parts, one after another, and what is made of them.
use Rattle.std.proofs.Common.{◌≡◌, ℕ, ◌+◌, ◌%◌, ◌^◌, ◌≤◌, List, [], ◌∷◌, ◌++◌, length, drop, take, refl, sym, ap, ◌∙◌, subst, arith, append_assoc, append-nil, ap₂, false}
use Rattle.std.proofs.lemmas.List.{drop_all}
use Rattle.wit_model.specs.Size.{bytes_at}
use Rattle.wit_model.specs.declared.name.TypeId.{TypeId}
use Rattle.wit_model.specs.declared.size.ArchitectureSize.{ArchitectureSize}
use Rattle.wit_model.specs.declared.types.Field.{Field}
use Rattle.wit_model.specs.declared.types.TypeDef.{TypeDef}
use Rattle.wit_model.specs.declared.types.WitType.{WitType}
use Rattle.wit_layout.specs.Extent.{end, greatest, place, record_extent}
use Rattle.wit_layout.specs.Sizes.{alignment, elem_size, extent_of, extents_of}
use Rattle.wrapper_data.specs.declared.block.Block.{Block}
use Rattle.wrapper_data.specs.declared.word.Word.TheVariants as core
use Rattle.wrapper_meaning.specs.Direction.{take as taking_over}
use Rattle.wrapper_meaning.specs.InMemory.{PartsHold}
use Rattle.wrapper_meaning.specs.InRange.{AreListed}
use Rattle.wrapper_meaning.specs.Items.{total}
use Rattle.wrapper_meaning.specs.Layout.{layout, layouts}
use Rattle.wrapper_meaning.specs.Settled.{all_settled}
use Rattle.wrapper_meaning.specs.Shape.{Shape, Shapes, shape_of}
use Rattle.wrapper_meaning.specs.Shape.Shape.{fields, tuple}
use Rattle.wrapper_meaning.specs.Shape.Shapes.{none, more}
use Rattle.wrapper_meaning.specs.Value.{Parts, Value}
use Rattle.wrapper_meaning.proofs.PartPlaces.{aligned_part, grain_of_first, grain_of_rest, less_grain, place_aligned, place_behind}
use Rattle.abi_bindgen.specs.declared.instruction.Instruction.TheVariants.{RecordLift, TupleLift}
use Rattle.abi_bindgen.specs.Account.{Peer, addresses}
use Rattle.abi_bindgen.specs.Instructions.{Emits, IsRecord, field_shapes, shapes_of}
use Rattle.abi_bindgen.specs.Laws.{Adds, At, Facts, Sound, item_data, ofs}
use Rattle.abi_bindgen.specs.Lifts.{took, OneStands}
use Rattle.abi_driver.specs.Loads.{LiftsFromMemory, LoadsParts}
use Rattle.abi_bindgen.specs.Meaning.{Meaning, item, of, word}
use Rattle.abi_bindgen.specs.Parts.{LiftsParts, count, PartsStand}
use Rattle.abi_bindgen.specs.Places.{HasRoom, HavePlaces}
use Rattle.abi_bindgen.specs.Touches.{reached}
use Rattle.abi_driver.proofs.LiftSteps.{owns_and, whole_made}
use Rattle.abi_bindgen.proofs.Runs.{adds_both, adds_same}
use Rattle.abi_driver.proofs.TakingOver.{took_none}
use Rattle.wit_layout.proofs.RecordSteps.{end_behind, record_behind}
use Rattle.abi_bindgen.specs.Early.{HasAsked}
use Rattle.abi_bindgen.specs.Lifting.{Lifted, LiftedBy, Gets}
use Rattle.abi_bindgen.proofs.EarlyLemmas.{comes_more, comes_on}
use Rattle.abi_driver.proofs.LiftedHeaps.{asked_by_lifting, lifted_and, may_free_later, stays_later}
use Rattle.abi_driver.proofs.TakeSteps.{gets_plainly, gets_stay}
use Rattle.wrapper_meaning.specs.Requests.{part_requests, requests, room_for}
use Rattle.abi_bindgen.specs.Frees.{MayFree}
use Rattle.abi_driver.proofs.Freeing.{free_first}

module _ {Self Operand : Type 0} (m : Meaning Self Operand) (types : List TypeDef) where
  -- where the parts from one on begin
  abbrev pub behind_of : List WitType → ℕ → ℕ
  behind_of tys i = end (extents_of m.width (layouts (shapes_of types (take i tys)))) 0

  -- what loads the parts from one on, loads all behind those that were loaded
  abbrev pub Rest : List WitType → Operand → ArchitectureSize → ℕ → (parts : List Operand) → (a b : Self) → Type 0
  Rest tys address offset i parts a b = (new : Self) (later : List Operand) → LoadsParts m (shapes_of types (drop i tys)) address offset (behind_of tys i) later b new → LoadsParts m (shapes_of types tys) address offset 0 (parts ++ later) a new

module _ {Self Operand : Type 0} (m : Meaning Self Operand) (sound : Sound m) (types : List TypeDef) where
  -- no parts are loaded by no code
  pub none_loads : (address : Operand) (offset : ArchitectureSize) (behind : ℕ) (a : Self) → LoadsParts m none address offset behind [] a a
  none_loads address offset behind a = record {
    adds = adds_same m a;
    asks_nothing = λ v. refl;
    row = λ v own listed w f others s0 s q k b at places holds may. gets_plainly m (PartsStand m taking_over none (all_settled none v)) own [] a w f others s0 s places.formed (
      s,
      [],
      at.done,
      (refl, holds),
      record {
        account = sym (ap (λ bs. took bs (m.account s)) holds ∙ took_none (m.account s));
        owns = λ g. sym (ap (λ bs. total g (m.owns s ++ addresses bs)) holds);
        denotes = sound.fewer w a (of address (word (core.Pointer q)) ∷ []) others s at.holds;
      },
    );
  }

  -- a part and then others
  pub more_loads : (t : Shape) (ts : Shapes) (behind : ℕ) (a b c : Self) (r : Operand) (parts : List Operand) (address : Operand) (offset first_offset : ArchitectureSize)
      → bytes_at first_offset (2 ^ m.width) ≡ bytes_at offset (2 ^ m.width) + place (extent_of m.width (layout t)) behind → LiftsFromMemory m t address first_offset r a b
      → LoadsParts m ts address offset (place (extent_of m.width (layout t)) behind + elem_size m.width (layout t)) parts b c → LoadsParts m (more t ts) address offset behind (r ∷ parts) a c
  more_loads t ts behind a b c r parts address offset first_offset is first later = record {
    adds = adds_both m a b c first.adds later.adds;
    asks_nothing = λ v. ap₂ (λ xs ys. xs ++ ys) (first.asks_nothing v.0) (later.asks_nothing v.1);
    row = λ v blocks listed w f others s0 s q k blk at places holds may.
        let acc = m.account s in
        let one = holds.0 in
        let two = holds.1 in
        let due1 = requests m.width room_for t v.0 in
        let due2 = part_requests m.width room_for ts v.1 in
        let e = extent_of m.width (layout t) in
        let es = extents_of m.width (layouts ts) in
        let here = place e behind in
        let next = here + elem_size m.width (layout t) in
        let base = reached m q offset in
        let pointer : Facts m = of address (word (core.Pointer q)) ∷ [] in
        let low : behind ≤ here = place_behind e behind in
        let ends : next ≤ end es next = end_behind es next in
        let reach : reached m q first_offset ≡ base + here = ap (λ n. q + n) is ∙ omega arith in
        let at1 : At m w f a b (of address (word (core.Pointer q)) ∷ (pointer ++ others)) s0 s =
        record { serves = later.adds.grows.serves w at.serves; done = at.done; holds = sound.again w a address (core.Pointer q) others s at.holds } in
        let room : HasRoom m.width t (reached m q first_offset) blk (k + here) acc.heap = record {
          formed = places.formed;
          there = places.there;
          starts = reach ∙ omega (arith, places.starts);
          fits = omega (arith, places.fits, ends);
          aligned = subst (λ n. n % alignment m.width (layout t) ≡ 0) (sym reach) (aligned_part base here (greatest (e ∷ es)).grain e.grain places.aligned (grain_of_first e es) (place_aligned e behind));
        } in
        let may1 : MayFree (one ++ two) blk acc = subst (λ bs. MayFree bs blk acc) holds.4 may in
        let First : m.State → Type 0 = Lifted m (OneStands m t v.0) one due1 (r ∷ []) w b (pointer ++ others) s in
        let Whole : m.State → Type 0 = Lifted m (PartsStand m taking_over (more t ts) (all_settled (more t ts) v)) blocks (due1 ++ due2) (r ∷ parts) w c others s in
        comes_on false due1 due2 m.account acc (m.does w f (m.code b) s0) (m.does w f (m.code c) s0) First Whole (later.adds.grows.stops w f s0 at.serves)
        (comes_more false due1 acc (m.does w f (m.code b) s0) First (λ s1. HasAsked due1 acc (m.account s1) × First s1) (first.row v.0 one listed.0 w f (pointer ++ others) s0 s q (k + here) blk at1 room holds.2 (free_first one two blk acc may1))
        (λ s1 d got. (asked_by_lifting got.lifted.gone got.own due1 acc (m.account s1) got.lifted.account, got)))
        (λ s1 done got.
        let x = got.stands.0 in
        let loaded : Facts m = of r (item x) ∷ [] in
        let facts : m.denotes w b (loaded ++ (pointer ++ others)) s1 = subst (λ vs. m.denotes w b (ofs m (r ∷ []) (item_data m vs) ++ (pointer ++ others)) s1) got.stands.1 got.denotes in
        let at2 : At m w f b c (of address (word (core.Pointer q)) ∷ (loaded ++ others)) s0 s1 = record { serves = at.serves; done = done; holds = sound.swap w b loaded pointer others s1 facts } in
        let places1 : HavePlaces m.width ts next base blk k (m.account s1).heap = record {
          formed = got.lifted.formed;
          there = stays_later one two got.own due1 blk acc (m.account s1) got.lifted may1 places.there;
          starts = places.starts;
          fits = places.fits;
          aligned = less_grain base (greatest (e ∷ es)).grain (greatest es).grain places.aligned (grain_of_rest e es);
        } in
        comes_more false due2 (m.account s1) (m.does w f (m.code c) s0) (Lifted m (PartsStand m taking_over ts (all_settled ts v.1)) two due2 parts w c (loaded ++ others) s1) Whole
        (later.row v.1 two listed.1 w f (loaded ++ others) s0 s1 q k blk at2 places1 holds.3 (may_free_later one two got.own due1 blk acc (m.account s1) got.lifted may1))
        (λ u d more_got. record {
          vals = x ∷ more_got.vals;
          own = got.own ++ more_got.own;
          stands = (x, more_got.vals, got.own, more_got.own, refl, got.stands.2, more_got.stands, refl);
          lifted = subst (λ bs. LiftedBy bs (got.own ++ more_got.own) (due1 ++ due2) acc (m.account u)) (sym holds.4) (lifted_and one two got.own more_got.own due1 due2 acc (m.account s1) (m.account u) got.lifted more_got.lifted);
          owns = owns_and (m.owns s) (m.owns s1) (m.owns u) got.own more_got.own got.owns more_got.owns;
          denotes = sound.swap w c (ofs m parts (item_data m more_got.vals)) loaded others u more_got.denotes;
        }));
  }

  -- what a value becomes of its parts
  parts_row : (ts : Shapes) (t : Shape) (whole : Parts ts → Value t) (a b c : Self) (parts : List Operand) (address r : Operand) (offset : ArchitectureSize) → layout t ≡ layout (fields ts) → LoadsParts m ts address offset 0 parts a b → Adds m b c
      → LiftsParts m ts t whole parts (r ∷ []) b c → (v : Parts ts) (blocks : List Block) → AreListed ts v → (w : m.World) (f : Peer m.Item) (others : Facts m) (s0 s : m.State) (q k : ℕ) (blk : Block)
      → At m w f a c (of address (word (core.Pointer q)) ∷ others) s0 s → HasRoom m.width t (reached m q offset) blk k (m.account s).heap → PartsHold m.width taking_over ts v 0 blk k blocks → MayFree blocks blk (m.account s)
      → Gets m (λ vals own. (x : m.Item) × (vals ≡ x ∷ []) × m.stands taking_over t (whole (all_settled ts v)) x own) blocks (part_requests m.width room_for ts v) (r ∷ []) c w f others s0 s
  parts_row ts t whole a b c parts address r offset same first adds row v blocks listed w f others s0 s q k blk at room holds may =
      let es = extents_of m.width (layouts ts) in
      let size : elem_size m.width (layout t) ≡ (record_extent es).bytes = ap (elem_size m.width) same in
      let places : HavePlaces m.width ts 0 (reached m q offset) blk k (m.account s).heap = record {
        formed = room.formed;
        there = room.there;
        starts = room.starts;
        fits = omega (arith, room.fits, size, record_behind es);
        aligned = subst (λ l. reached m q offset % alignment m.width l ≡ 0) same room.aligned;
      } in
      let at1 : At m w f a b (of address (word (core.Pointer q)) ∷ others) s0 s = record { serves = adds.grows.serves w at.serves; done = at.done; holds = at.holds } in
      let Parted = PartsStand m taking_over ts (all_settled ts v) in
      gets_stay m Parted (λ vals own. (x : m.Item) × (vals ≡ x ∷ []) × m.stands taking_over t (whole (all_settled ts v)) x own) blocks (part_requests m.width room_for ts v) parts (r ∷ []) b c w f others s0 s
      (adds.grows.stops w f s0 at.serves) (first.row v blocks listed w f others s0 s q k blk at1 places holds may)
      (λ t1 done got. whole_made m sound types ts t whole b c parts r row (all_settled ts v) got.vals got.own got.stands w f others s0 t1 (record { serves = at.serves; done = done; holds = got.denotes }))

  pub record_loads : (id : TypeId) (members : List Field) (a b c : Self) (parts : List Operand) (address r : Operand) (offset : ArchitectureSize) → IsRecord types id.0 members → LoadsParts m (field_shapes types members) address offset 0 parts a b
      → Emits m types (RecordLift id) parts (r ∷ []) b c → LiftsFromMemory m (fields (field_shapes types members)) address offset r a c
  record_loads id members a b c parts address r offset is first e = record {
    adds = adds_both m a b c first.adds e.adds;
    asks_nothing = first.asks_nothing;
    row = parts_row (field_shapes types members) (fields (field_shapes types members)) (λ v. v) a b c parts address r offset refl first e.adds (e.row members is);
  }

  pub tuple_loads : (n : ℕ) (ts : Shapes) (a b c : Self) (parts : List Operand) (address r : Operand) (offset : ArchitectureSize) → count ts ≡ n → LoadsParts m ts address offset 0 parts a b
      → Emits m types (TupleLift n) parts (r ∷ []) b c → LiftsFromMemory m (tuple ts) address offset r a c
  tuple_loads n ts a b c parts address r offset is first e = record {
    adds = adds_both m a b c first.adds e.adds;
    asks_nothing = first.asks_nothing;
    row = parts_row ts (tuple ts) (λ v. v) a b c parts address r offset refl first e.adds (e.row ts is);
  }

  pub loads_as : (s t : Shape) (a b : Self) (address r : Operand) (offset : ArchitectureSize) → s ≡ t → LiftsFromMemory m t address offset r a b → LiftsFromMemory m s address offset r a b
  loads_as s t a b address r offset e h = subst (λ x. LiftsFromMemory m x address offset r a b) (sym e) h

  pub loads_parts_as : (xs ys : List WitType) (a b : Self) (parts : List Operand) (address : Operand) (offset : ArchitectureSize) (behind : ℕ) → xs ≡ ys
      → LoadsParts m (shapes_of types xs) address offset behind parts a b → LoadsParts m (shapes_of types ys) address offset behind parts a b
  loads_parts_as xs ys a b parts address offset behind e h = subst (λ x. LoadsParts m (shapes_of types x) address offset behind parts a b) e h

  pub rest_next : (tys : List WitType) (address : Operand) (offset first_offset : ArchitectureSize) (i : ℕ) (parts now : List Operand) (a b c : Self) (ty : WitType) (r : Operand) → drop i tys ≡ ty ∷ drop (i + 1) tys
      → behind_of m types tys (i + 1) ≡ place (extent_of m.width (layout (shape_of types ty))) (behind_of m types tys i) + elem_size m.width (layout (shape_of types ty))
      → bytes_at first_offset (2 ^ m.width) ≡ bytes_at offset (2 ^ m.width) + place (extent_of m.width (layout (shape_of types ty))) (behind_of m types tys i)
      → LiftsFromMemory m (shape_of types ty) address first_offset r b c → now ≡ parts ++ r ∷ [] → Rest m types tys address offset i parts a b → Rest m types tys address offset (i + 1) now a c
  rest_next tys address offset first_offset i parts now a b c ty r et next is one en rest new later h =
      let both = more_loads (shape_of types ty) (shapes_of types (drop (i + 1) tys)) (behind_of m types tys i) b c new r later address offset first_offset is one (subst (λ n. LoadsParts m (shapes_of types (drop (i + 1) tys)) address offset n later c new) next h) in
      let all = rest new (r ∷ later) (subst (λ ts. LoadsParts m (shapes_of types ts) address offset (behind_of m types tys i) (r ∷ later) b new) (sym et) both) in
      subst (λ ps. LoadsParts m (shapes_of types tys) address offset 0 ps a new) (sym (ap (λ ps. ps ++ later) en ∙ append_assoc parts (r ∷ []) later)) all

  pub rest_last : (tys : List WitType) (address : Operand) (offset : ArchitectureSize) (i : ℕ) (parts : List Operand) (a b : Self) → length tys ≤ i → Rest m types tys address offset i parts a b → LoadsParts m (shapes_of types tys) address offset 0 parts a b
  rest_last tys address offset i parts a b ended rest =
      let none_left = subst (λ ts. LoadsParts m (shapes_of types ts) address offset (behind_of m types tys i) [] b b) (sym (drop_all i tys ended)) (none_loads address offset (behind_of m types tys i) b) in
      subst (λ ps. LoadsParts m (shapes_of types tys) address offset 0 ps a b) (append-nil parts) (rest b [] none_left)
