-- The blocks of values are freed: of parts, one after another, and so of what has these parts.
use Rattle.std.proofs.Common.{◌≡◌, ℕ, ◌+◌, ◌%◌, ◌^◌, ◌≤◌, List, [], ◌∷◌, ◌++◌, length, drop, refl, sym, ap, ◌∙◌, subst, arith}
use Rattle.std.proofs.lemmas.List.{drop_all}
use Rattle.wit_model.specs.Size.{bytes_at}
use Rattle.wit_model.specs.declared.size.ArchitectureSize.{ArchitectureSize}
use Rattle.wit_model.specs.declared.types.TypeDef.{TypeDef}
use Rattle.wit_model.specs.declared.types.WitType.{WitType}
use Rattle.wit_layout.specs.Extent.{end, greatest, place}
use Rattle.wit_layout.specs.Sizes.{alignment, elem_size, extent_of, extents_of}
use Rattle.wrapper_data.specs.declared.block.Block.{Block}
use Rattle.wrapper_data.specs.declared.word.Word.TheVariants as core
use Rattle.wrapper_meaning.specs.Layout.{layout, layouts}
use Rattle.wrapper_meaning.specs.Shape.{Shape, Shapes, shape_of}
use Rattle.wrapper_meaning.specs.Shape.Shape.{fields, tuple}
use Rattle.wrapper_meaning.specs.Shape.Shapes.{none, more}
use Rattle.wrapper_meaning.proofs.PartPlaces.{aligned_part, grain_of_first, grain_of_rest, less_grain, place_aligned, place_behind}
use Rattle.abi_bindgen.specs.Account.{Account}
use Rattle.abi_bindgen.specs.Frees.{FreesInMemory, FreesParts, MayFree, by_freeing}
use Rattle.abi_bindgen.specs.Instructions.{shapes_of}
use Rattle.abi_bindgen.specs.Laws.{At, Facts, Sound}
use Rattle.abi_bindgen.specs.Meaning.{Meaning, of, word}
use Rattle.abi_bindgen.specs.Places.{HasRoom, HavePlaces}
use Rattle.abi_bindgen.specs.Touches.{reached}
use Rattle.abi_driver.proofs.Freeing.{free_first, free_rest, freed_both, without_formed, without_there}
use Rattle.abi_bindgen.proofs.Runs.{adds_both, adds_same}
use Rattle.abi_driver.proofs.StoreSteps.{behind_of}
use Rattle.wrapper_meaning.proofs.PostReturn.{total-append}
use Rattle.wit_layout.proofs.RecordSteps.{end_behind, record_behind}

module _ {Self Operand : Type 0} (m : Meaning Self Operand) (types : List TypeDef) where
  -- what frees the parts from one on, frees all
  abbrev pub Rest : List WitType → Operand → ArchitectureSize → ℕ → (a b : Self) → Type 0
  Rest tys address offset i a b = (new : Self) → FreesParts m (shapes_of types (drop i tys)) address offset (behind_of m types tys i) b new → FreesParts m (shapes_of types tys) address offset 0 a new

module _ {Self Operand : Type 0} (m : Meaning Self Operand) (sound : Sound m) (types : List TypeDef) where
  -- no parts are freed by no code
  pub none_frees : (address : Operand) (offset : ArchitectureSize) (behind : ℕ) (a : Self) → FreesParts m none address offset behind a a
  none_frees address offset behind a = record {
    adds = adds_same m a;
    row = λ v own listed w f others s0 s q k b at places holds may. (
      s,
      at.done,
      record {
        account = sym (ap (λ (bs : List Block). (by_freeing bs (m.account s)).account) holds);
        owns = λ g. refl;
        denotes = sound.fewer w a (of address (word (core.Pointer q)) ∷ []) others s at.holds;
      },
    );
  }

  -- a part and then others
  pub more_frees : (t : Shape) (ts : Shapes) (behind : ℕ) (a b c : Self) (address : Operand) (offset first_offset : ArchitectureSize)
      → bytes_at first_offset (2 ^ m.width) ≡ bytes_at offset (2 ^ m.width) + place (extent_of m.width (layout t)) behind → FreesInMemory m t address first_offset a b
      → FreesParts m ts address offset (place (extent_of m.width (layout t)) behind + elem_size m.width (layout t)) b c → FreesParts m (more t ts) address offset behind a c
  more_frees t ts behind a b c address offset first_offset is first later = record {
    adds = adds_both m a b c first.adds later.adds;
    row = λ v own listed w f others s0 s q k blk at places holds may.
        let acc = m.account s in
        let own1 = holds.0 in
        let own2 = holds.1 in
        let e = extent_of m.width (layout t) in
        let es = extents_of m.width (layouts ts) in
        let here = place e behind in
        let next = here + elem_size m.width (layout t) in
        let base = reached m q offset in
        let pointer : Facts m = of address (word (core.Pointer q)) ∷ [] in
        let low : behind ≤ here = place_behind e behind in
        let ends : next ≤ end es next = end_behind es next in
        let reach : reached m q first_offset ≡ base + here = ap (λ n. q + n) is ∙ omega arith in
        let at1 : At m w f a b (of address (word (core.Pointer q)) ∷ (pointer ++ others)) s0 s =
        record { serves = later.adds.grows.serves w at.serves; done = at.done; holds = sound.again w a address (core.Pointer q) others s at.holds } in
        let room : HasRoom m.width t (reached m q first_offset) blk (k + here) acc.heap = record {
          formed = places.formed;
          there = places.there;
          starts = reach ∙ omega (arith, places.starts);
          fits = omega (arith, places.fits, ends);
          aligned = subst (λ n. n % alignment m.width (layout t) ≡ 0) (sym reach) (aligned_part base here (greatest (e ∷ es)).grain e.grain places.aligned (grain_of_first e es) (place_aligned e behind));
        } in
        let may1 : MayFree (own1 ++ own2) blk acc = subst (λ bs. MayFree bs blk acc) holds.4 may in
        let one = first.row v.0 own1 listed.0 w f (pointer ++ others) s0 s q (k + here) blk at1 room holds.2 (free_first own1 own2 blk acc may1) in
        let s1 = one.0 in
        let after1 = one.2 in
        let at2 : At m w f b c (of address (word (core.Pointer q)) ∷ others) s0 s1 = record { serves = at.serves; done = one.1; holds = after1.denotes } in
        let mid : Account m.Item = (by_freeing own1 acc).account in
        let places1 : HavePlaces m.width ts next base blk k mid.heap = record {
          formed = without_formed own1 acc.heap.blocks places.formed;
          there = without_there own1 acc.heap.blocks blk (free_first own1 own2 blk acc may1).others places.there;
          starts = places.starts;
          fits = places.fits;
          aligned = less_grain base (greatest (e ∷ es)).grain (greatest es).grain places.aligned (grain_of_rest e es);
        } in
        let places2 = subst (λ (z : Account m.Item). HavePlaces m.width ts next base blk k z.heap) (sym after1.account) places1 in
        let may2 : MayFree own2 blk (m.account s1) = subst (λ (z : Account m.Item). MayFree own2 blk z) (sym after1.account) (free_rest own1 own2 blk acc may1) in
        let two = later.row v.1 own2 listed.1 w f others s0 s1 q k blk at2 places2 holds.3 may2 in
        let u = two.0 in
        let after2 = two.2 in (
          u,
          two.1,
          record {
            account = after2.account ∙ ap (λ (z : Account m.Item). (by_freeing own2 z).account) after1.account ∙ freed_both own1 own2 acc ∙ ap (λ (bs : List Block). (by_freeing bs acc).account) (sym holds.4);
            owns = λ g. omega (arith, after1.owns g, after2.owns g, total-append g (m.owns u) [], total-append g (m.owns s1) [], total-append g (m.owns s) []);
            denotes = after2.denotes;
          },
        );
  }

  -- a record is freed by its parts, and a tuple
  pub fields_free : (ts : Shapes) (a b : Self) (address : Operand) (offset : ArchitectureSize) → FreesParts m ts address offset 0 a b → FreesInMemory m (fields ts) address offset a b
  fields_free ts a b address offset parts = record {
    adds = parts.adds;
    row = λ v own listed w f others s0 s q k blk at room holds may.
        let es = extents_of m.width (layouts ts) in
        parts.row v own listed w f others s0 s q k blk at (record { formed = room.formed; there = room.there; starts = room.starts; fits = omega (arith, room.fits, record_behind es); aligned = room.aligned }) holds may;
  }

  pub tuple_free : (ts : Shapes) (a b : Self) (address : Operand) (offset : ArchitectureSize) → FreesParts m ts address offset 0 a b → FreesInMemory m (tuple ts) address offset a b
  tuple_free ts a b address offset parts = record {
    adds = parts.adds;
    row = λ v own listed w f others s0 s q k blk at room holds may.
        let es = extents_of m.width (layouts ts) in
        parts.row v own listed w f others s0 s q k blk at (record { formed = room.formed; there = room.there; starts = room.starts; fits = omega (arith, room.fits, record_behind es); aligned = room.aligned }) holds may;
  }

  pub frees_as : (s t : Shape) (a b : Self) (address : Operand) (offset : ArchitectureSize) → s ≡ t → FreesInMemory m t address offset a b → FreesInMemory m s address offset a b
  frees_as s t a b address offset e h = subst (λ x. FreesInMemory m x address offset a b) (sym e) h

  pub frees_parts_as : (xs ys : List WitType) (a b : Self) (address : Operand) (offset : ArchitectureSize) (behind : ℕ) → xs ≡ ys
      → FreesParts m (shapes_of types xs) address offset behind a b → FreesParts m (shapes_of types ys) address offset behind a b
  frees_parts_as xs ys a b address offset behind e h = subst (λ x. FreesParts m (shapes_of types x) address offset behind a b) e h

  pub rest_next : (tys : List WitType) (address : Operand) (offset first_offset : ArchitectureSize) (i : ℕ) (a b c : Self) (ty : WitType) → drop i tys ≡ ty ∷ drop (i + 1) tys
      → behind_of m types tys (i + 1) ≡ place (extent_of m.width (layout (shape_of types ty))) (behind_of m types tys i) + elem_size m.width (layout (shape_of types ty))
      → bytes_at first_offset (2 ^ m.width) ≡ bytes_at offset (2 ^ m.width) + place (extent_of m.width (layout (shape_of types ty))) (behind_of m types tys i)
      → FreesInMemory m (shape_of types ty) address first_offset b c → Rest m types tys address offset i a b → Rest m types tys address offset (i + 1) a c
  rest_next tys address offset first_offset i a b c ty et next is one rest new h =
      let both = more_frees (shape_of types ty) (shapes_of types (drop (i + 1) tys)) (behind_of m types tys i) b c new address offset first_offset is one (subst (λ n. FreesParts m (shapes_of types (drop (i + 1) tys)) address offset n c new) next h) in
      rest new (subst (λ ts. FreesParts m (shapes_of types ts) address offset (behind_of m types tys i) b new) (sym et) both)

  pub rest_last : (tys : List WitType) (address : Operand) (offset : ArchitectureSize) (i : ℕ) (a b : Self) → length tys ≤ i → Rest m types tys address offset i a b → FreesParts m (shapes_of types tys) address offset 0 a b
  rest_last tys address offset i a b ended rest =
      rest b (subst (λ ts. FreesParts m (shapes_of types ts) address offset (behind_of m types tys i) b b) (sym (drop_all i tys ended)) (none_frees address offset (behind_of m types tys i) b))
