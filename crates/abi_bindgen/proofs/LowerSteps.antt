-- Values become words: scalars, texts, and parts.
use Rattle.std.proofs.Common.{◌≡◌, ℕ, zero, suc, ◌+◌, Bool, true, false, List, [], ◌∷◌, ◌++◌, length, drop, Some, refl, sym, ap, ap₂, ◌∙◌, subst, arith, ◌≤◌, append_assoc, append-nil}
use Rattle.std.proofs.lemmas.List.{drop_all, length-append}
use Rattle.wit_model.specs.declared.name.TypeId.{TypeId}
use Rattle.wit_model.specs.declared.types.Field.{Field}
use Rattle.wit_model.specs.declared.types.TypeDef.{TypeDef}
use Rattle.wit_model.specs.declared.types.WitType.{WitType}
use Rattle.wit_model.specs.declared.types.WitType.TheVariants as wit
use Rattle.wit_layout.specs.Extent.{Extent}
use Rattle.wit_layout.specs.Flat.{flatten_record, flatten_type}
use Rattle.wit_layout.specs.Tree.{Scalar}
use Rattle.wrapper_data.specs.declared.block.Block.{Block}
use Rattle.wrapper_data.specs.declared.word.Word.{Word}
use Rattle.wrapper_meaning.specs.AsWords.{PartsSay, Says, SaysScalar, passed_word}
use Rattle.wrapper_meaning.specs.Buffer.{Contents, IsBuffer, IsPlaced}
use Rattle.wrapper_meaning.specs.Direction.{lend, make}
use Rattle.wrapper_meaning.specs.InMemory.{TextHolds, text_extent}
use Rattle.wrapper_meaning.specs.InRange.{AreListed}
use Rattle.wrapper_meaning.specs.Layout.{layout, layouts}
use Rattle.wrapper_meaning.specs.Requests.{block_for, part_requests, requests}
use Rattle.wrapper_meaning.specs.Shape.{Shape, Shapes, shape_of}
use Rattle.wrapper_meaning.specs.Shape.Shape.{scalar, text, fields, tuple}
use Rattle.wrapper_meaning.specs.Shape.Shapes.{none, more}
use Rattle.wrapper_meaning.specs.Value.{Parts, ScalarValue, Value}
use Rattle.wrapper_meaning.proofs.Lists.{some_same}
use Rattle.abi_bindgen.specs.declared.instruction.Instruction.{Instruction}
use Rattle.abi_bindgen.specs.declared.instruction.Instruction.TheVariants.{RecordLower, StringLower, TupleLower}
use Rattle.abi_bindgen.specs.Account.{addresses, releasing}
use Rattle.abi_bindgen.specs.Instructions.{Emits, IsRecord, MakesBy, RowBy, field_shapes, lifted_scalar, lowered_scalar, lowering, shapes_of}
use Rattle.abi_bindgen.specs.Laws.{Adds, Does, Sound, item_data, ofs}
use Rattle.abi_bindgen.specs.Leaves.{LowersScalar, way}
use Rattle.abi_bindgen.specs.Lowering.{Passes, said}
use Rattle.abi_bindgen.specs.Lowers.{LowersAll, LowersFlat}
use Rattle.abi_bindgen.specs.Meaning.{Meaning, item, of, word}
use Rattle.abi_bindgen.specs.Parts.{LowersParts, PartsStand, count}
use Rattle.abi_bindgen.proofs.Ordinary.{adds_of, lowers_ordinary}
use Rattle.wrapper_meaning.specs.Words.{AreWords}
use Rattle.abi_bindgen.proofs.WordRanges.{scalar_ranged, text_ranged, words_both}
use Rattle.abi_bindgen.proofs.PassSteps.{passes_both, passes_plainly, stays_passes}
use Rattle.abi_bindgen.proofs.Runs.{adds_both, adds_same, does_none}

-- the scalar of an instruction that was chosen by a type
pub record IsScalarType (ty : WitType) (i : Instruction) : Type 0 where
  pub scalar_is : Scalar
  pub lowers : lowered_scalar i ≡ Some scalar_is
  pub shape : (types : List TypeDef) → shape_of types ty ≡ scalar scalar_is

pub scalar_type : (ty : WitType) (i : Instruction) → lowering ty ≡ Some i → IsScalarType ty i
scalar_type wit.Bool i e = record { scalar_is = Scalar.bool; lowers = ap lowered_scalar (sym (some_same _ _ e)); shape = λ types. refl }
scalar_type wit.U8 i e = record { scalar_is = Scalar.u8; lowers = ap lowered_scalar (sym (some_same _ _ e)); shape = λ types. refl }
scalar_type wit.S8 i e = record { scalar_is = Scalar.s8; lowers = ap lowered_scalar (sym (some_same _ _ e)); shape = λ types. refl }
scalar_type wit.U16 i e = record { scalar_is = Scalar.u16; lowers = ap lowered_scalar (sym (some_same _ _ e)); shape = λ types. refl }
scalar_type wit.S16 i e = record { scalar_is = Scalar.s16; lowers = ap lowered_scalar (sym (some_same _ _ e)); shape = λ types. refl }
scalar_type wit.U32 i e = record { scalar_is = Scalar.u32; lowers = ap lowered_scalar (sym (some_same _ _ e)); shape = λ types. refl }
scalar_type wit.S32 i e = record { scalar_is = Scalar.s32; lowers = ap lowered_scalar (sym (some_same _ _ e)); shape = λ types. refl }
scalar_type wit.Char i e = record { scalar_is = Scalar.char; lowers = ap lowered_scalar (sym (some_same _ _ e)); shape = λ types. refl }
scalar_type wit.U64 i e = record { scalar_is = Scalar.u64; lowers = ap lowered_scalar (sym (some_same _ _ e)); shape = λ types. refl }
scalar_type wit.S64 i e = record { scalar_is = Scalar.s64; lowers = ap lowered_scalar (sym (some_same _ _ e)); shape = λ types. refl }
scalar_type wit.F32 i e = record { scalar_is = Scalar.f32; lowers = ap lowered_scalar (sym (some_same _ _ e)); shape = λ types. refl }
scalar_type wit.F64 i e = record { scalar_is = Scalar.f64; lowers = ap lowered_scalar (sym (some_same _ _ e)); shape = λ types. refl }
scalar_type wit.String i e = absurd (let h = e in cc)
scalar_type wit.ErrorContext i e = absurd (let h = e in cc)
scalar_type (wit.Id id) i e = absurd (let h = e in cc)

says_said : (realloc : Bool) (given : List Block) (s : Scalar) (v : ScalarValue s) → SaysScalar (said realloc given) s v (passed_word s v)
says_said false given s v = refl
says_said true given s v = refl

-- what was lent of a text stays where it is
placed_made : (given : List Block) (address n size : ℕ) (inside : Contents) (own : List Block) → IsPlaced (lend given) true address n size inside own → IsPlaced (make given) true address n size inside own
placed_made given address zero size inside own h = h
placed_made given address (suc n) size inside own h = record { block = h.block; offset = h.offset; own = h.own; inner = h.inner; held = h.held; holds = h.holds; all = h.all }

buffer_made : (given : List Block) (address n : ℕ) (e : Extent) (inside : Contents) (own : List Block) → IsBuffer (lend given) true address n e inside own → IsBuffer (make given) true address n e inside own
buffer_made given address n e inside own h = record { aligned = h.aligned; bounded = h.bounded; placed = placed_made given address n e.bytes inside own h.placed }

text_said : (w : ℕ) (realloc : Bool) (given : List Block) (v : Value text) (ws : List Word) (own : List Block) → Says w (way realloc given) text v ws own → Says w (said realloc given) text v ws own
text_said w true given v ws own h = h
text_said w false given v ws own h = record { address = h.address; pair = h.pair; range = h.range; buffer = buffer_made given h.address (length v) text_extent (TextHolds v) own h.buffer }

module _ {Self Operand : Type 0} (m : Meaning Self Operand) (sound : Sound m) (types : List TypeDef) (realloc : Bool) where
  -- without realloc nothing has blocks of its own
  pub one_bare : (given : List Block) (t : Shape) (v : Value t) (a : m.Item) (own : List Block) → m.stands (way realloc given) t v a own → realloc ≡ false → own ≡ []
  one_bare given t v a own st is = sound.bare t v a given own (subst (λ c. m.stands (way c given) t v a own) is st)

  pub parts_bare : (given : List Block) (ts : Shapes) (v : Parts ts) (vals : List m.Item) (own : List Block) → PartsStand m (way realloc given) ts v vals own → realloc ≡ false → own ≡ []
  parts_bare given none v vals own st is = st.1
  parts_bare given (more t ts) v vals own st is = st.7 ∙ ap₂ (λ xs ys. xs ++ ys) (one_bare given t v.0 st.0 st.2 st.5 is) (parts_bare given ts v.1 st.1 st.3 st.6 is)

  scalar_row : (s : Scalar) (a b : Self) (o r : Operand) → Adds m a b → LowersScalar m s (o ∷ []) (r ∷ []) a b → LowersFlat m realloc (scalar s) o (r ∷ []) a b
  scalar_row s a b o r adds row = record {
    adds = adds;
    fits = refl;
    ranged = λ given v ws blocks listed says. scalar_ranged m.width realloc given s v ws blocks listed says;
    asks_nothing = λ v. refl;
    row = λ given v x own listed st.
        let q = row (way realloc given) v x own listed st in
        let P : List Block → Type 0 = λ own. Does m (Unit {0}) a b (of o (item x) ∷ []) (λ f. releasing (addresses own)) (λ u fs. fs ≡ of r (word (passed_word s v)) ∷ []) (λ u. []) (λ u. addresses own) in
        passes_plainly m realloc (Says m.width (said realloc given) (scalar s) v) (of o (item x) ∷ []) own (passed_word s v ∷ []) (r ∷ []) a b refl (passed_word s v, refl, says_said realloc given s v, q.0) (subst P (sym q.0) q.1);
  }

  scalar_words : (s : Scalar) (a b : Self) (o : Operand) (os : List Operand) → Adds m a b → length os ≡ 1 → LowersScalar m s (o ∷ []) os a b → LowersFlat m realloc (scalar s) o os a b
  scalar_words s a b o [] adds e row = absurd (omega (arith, e))
  scalar_words s a b o (r ∷ []) adds e row = scalar_row s a b o r adds row
  scalar_words s a b o (r ∷ q ∷ os) adds e row = absurd (omega (arith, e))

  pub scalar_lowers : (ty : WitType) (i : Instruction) (a b : Self) (o : Operand) (os : List Operand) → lowering ty ≡ Some i → Emits m types i (o ∷ []) os a b → LowersFlat m realloc (shape_of types ty) o os a b
  scalar_lowers ty i a b o os is e =
      let s = scalar_type ty i is in
      let one : length os ≡ 1 = subst (λ x. MakesBy types i x (lifted_scalar i) (length os)) s.lowers e.results in
      let row : LowersScalar m s.scalar_is (o ∷ []) os a b = subst (λ x. RowBy m types i x (lifted_scalar i) (o ∷ []) os a b) s.lowers e.row in
      subst (λ t. LowersFlat m realloc t o os a b) (sym (s.shape types)) (scalar_words s.scalar_is a b o os (adds_of m i (lowers_ordinary i s.scalar_is s.lowers) types a b e.adds) one row)

  pub text_lowers : (a b : Self) (o : Operand) (os : List Operand) → Emits m types (StringLower realloc) (o ∷ []) os a b → LowersFlat m realloc text o os a b
  text_lowers a b o os e = record {
    adds = e.adds;
    fits = e.results;
    ranged = λ given v ws blocks listed says. text_ranged m.width sound.wide realloc given v ws blocks says;
    asks_nothing = λ v. refl;
    row = λ given v x own listed st.
        let q = e.row given v x own st in
        passes_plainly m realloc (Says m.width (said realloc given) text v) (of o (item x) ∷ []) own q.0 os a b (ap length q.1.pair ∙ sym e.results) (text_said m.width realloc given v q.0 own q.1) q.2;
  }

  pub lowers_as : (s t : Shape) (a b : Self) (o : Operand) (os : List Operand) → s ≡ t → LowersFlat m realloc t o os a b → LowersFlat m realloc s o os a b
  lowers_as s t a b o os e h = subst (λ x. LowersFlat m realloc x o os a b) (sym e) h

  pub lowers_all_as : (xs ys : List WitType) (a b : Self) (parts os : List Operand) → xs ≡ ys → LowersAll m realloc (shapes_of types xs) parts os a b → LowersAll m realloc (shapes_of types ys) parts os a b
  lowers_all_as xs ys a b parts os e h = subst (λ x. LowersAll m realloc (shapes_of types x) parts os a b) e h

  pub none_lowers : (a : Self) → LowersAll m realloc none [] [] a a
  none_lowers a = record {
    adds = adds_same m a;
    fits = refl;
    ranged = λ given v ws blocks listed says. says.0;
    asks_nothing = λ v. refl;
    row = λ given v vals own listed st.
        let P : List m.Item → List Block → Type 0 = λ vals own. Passes m realloc (PartsSay m.width (said realloc given) none v) (ofs m [] (item_data m vals)) own [] [] a a in
        let nothing : P [] [] = passes_plainly m realloc (PartsSay m.width (said realloc given) none v) [] [] [] [] a a refl (refl, refl) (does_none m a) in
        subst (λ vs. P vs own) (sym st.0) (subst (P []) (sym st.1) nothing);
  }

  pub more_lowers : (t : Shape) (ts : Shapes) (a b c : Self) (o : Operand) (os parts qs : List Operand) → LowersFlat m realloc t o os a b → LowersAll m realloc ts parts qs b c → LowersAll m realloc (more t ts) (o ∷ parts) (os ++ qs) a c
  more_lowers t ts a b c o os parts qs first later = record {
    adds = adds_both m a b c first.adds later.adds;
    fits = length-append os qs ∙ omega (arith, first.fits, later.fits, length-append (flatten_type (layout t)) (flatten_record (layouts ts)));
    ranged = λ given v ws blocks listed says.
        let front = first.ranged given v.0 says.0 says.2 listed.0 says.4 in
        let back = later.ranged given v.1 says.1 says.3 listed.1 says.5 in
        subst (AreWords m.width (flatten_type (layout t) ++ flatten_record (layouts ts))) (sym says.6) (words_both m.width (flatten_type (layout t)) (flatten_record (layouts ts)) says.0 says.1 front back);
    asks_nothing = λ v. ap₂ (λ xs ys. xs ++ ys) (first.asks_nothing v.0) (later.asks_nothing v.1);
    row = λ given v vals own listed st.
        let x = st.0 in
        let rest = st.1 in
        let dir = said realloc given in
        let due1 = requests m.width block_for t v.0 in
        let due2 = part_requests m.width block_for ts v.1 in
        let P : List m.Item → List Block → Type 0 = λ vals own. Passes m realloc (PartsSay m.width dir (more t ts) v) (ofs m (o ∷ parts) (item_data m vals)) own (due1 ++ due2) (os ++ qs) a c in
        let whole : P (x ∷ rest) (st.2 ++ st.3) = passes_both m realloc sound (Says m.width dir t v.0) (PartsSay m.width dir ts v.1) (of o (item x) ∷ []) (ofs m parts (item_data m rest)) st.2 st.3 due1 due2 os qs a b c
        (parts_bare given ts v.1 rest st.3 st.6) later.adds (first.row given v.0 x st.2 listed.0 st.5) (later.row given v.1 rest st.3 listed.1 st.6) in
        subst (λ vs. P vs own) (sym st.4) (subst (P (x ∷ rest)) (sym st.7) whole);
  }

  -- what a value becomes by its parts
  parts_row : (ts : Shapes) (t : Shape) (whole : Parts ts → Value t) (a b c : Self) (o : Operand) (parts os : List Operand) → LowersParts m ts t whole (o ∷ []) parts a b → LowersAll m realloc ts parts os b c
      → (given : List Block) (v : Parts ts) (x : m.Item) (own : List Block) → AreListed ts v → m.stands (way realloc given) t (whole v) x own
      → Passes m realloc (PartsSay m.width (said realloc given) ts v) (ofs m (o ∷ []) (item x ∷ [])) own (part_requests m.width block_for ts v) os a c
  parts_row ts t whole a b c o parts os row later given v x own listed st =
      let r = row (way realloc given) v x own st in
      stays_passes m realloc (PartsSay m.width (said realloc given) ts v) (of o (item x) ∷ []) (ofs m parts (item_data m r.0)) own (part_requests m.width block_for ts v) os a b c later.adds r.2 (later.row given v r.0 own listed r.1)

  pub record_lowers : (id : TypeId) (members : List Field) (a b c : Self) (o : Operand) (parts os : List Operand) → IsRecord types id.0 members → Emits m types (RecordLower id) (o ∷ []) parts a b
      → LowersAll m realloc (field_shapes types members) parts os b c → LowersFlat m realloc (fields (field_shapes types members)) o os a c
  record_lowers id members a b c o parts os is e later = record {
    adds = adds_both m a b c e.adds later.adds;
    fits = later.fits;
    ranged = later.ranged;
    asks_nothing = later.asks_nothing;
    row = parts_row (field_shapes types members) (fields (field_shapes types members)) (λ v. v) a b c o parts os (e.row members is) later;
  }

  pub tuple_lowers : (n : ℕ) (ts : Shapes) (a b c : Self) (o : Operand) (parts os : List Operand) → count ts ≡ n → Emits m types (TupleLower n) (o ∷ []) parts a b
      → LowersAll m realloc ts parts os b c → LowersFlat m realloc (tuple ts) o os a c
  tuple_lowers n ts a b c o parts os is e later = record {
    adds = adds_both m a b c e.adds later.adds;
    fits = later.fits;
    ranged = later.ranged;
    asks_nothing = later.asks_nothing;
    row = parts_row ts (tuple ts) (λ v. v) a b c o parts os (e.row ts is) later;
  }

  -- what lowers the parts from one on, with what was lowered before it, lowers all

  abbrev pub Rest : List WitType → List Operand → ℕ → List Operand → (a b : Self) → Type 0
  Rest tys parts i all a b = (new : Self) (later : List Operand) → LowersAll m realloc (shapes_of types (drop i tys)) (drop i parts) later b new → LowersAll m realloc (shapes_of types tys) parts (all ++ later) a new

  pub rest_next : (tys : List WitType) (parts : List Operand) (i : ℕ) (all os now : List Operand) (a b c : Self) (ty : WitType) (o : Operand) → drop i tys ≡ ty ∷ drop (i + 1) tys → drop i parts ≡ o ∷ drop (i + 1) parts
      → LowersFlat m realloc (shape_of types ty) o os b c → now ≡ all ++ os → Rest tys parts i all a b → Rest tys parts (i + 1) now a c
  rest_next tys parts i all os now a b c ty o et eo one en rest new later h =
      let both = more_lowers (shape_of types ty) (shapes_of types (drop (i + 1) tys)) b c new o os (drop (i + 1) parts) later one h in
      let back = subst (λ ps. LowersAll m realloc (shapes_of types (drop i tys)) ps (os ++ later) b new) (sym eo) (subst (λ ts. LowersAll m realloc (shapes_of types ts) (o ∷ drop (i + 1) parts) (os ++ later) b new) (sym et) both) in
      subst (λ ps. LowersAll m realloc (shapes_of types tys) parts ps a new) (sym (ap (λ xs. xs ++ later) en ∙ append_assoc all os later)) (rest new (os ++ later) back)

  pub rest_last : (tys : List WitType) (parts : List Operand) (i : ℕ) (all : List Operand) (a b : Self) → length tys ≤ i → length parts ≤ i → Rest tys parts i all a b → LowersAll m realloc (shapes_of types tys) parts all a b
  rest_last tys parts i all a b ht hp rest =
      let none : LowersAll m realloc (shapes_of types (drop i tys)) (drop i parts) [] b b =
      subst (λ ps. LowersAll m realloc (shapes_of types (drop i tys)) ps [] b b) (sym (drop_all i parts hp)) (subst (λ ts. LowersAll m realloc (shapes_of types ts) [] [] b b) (sym (drop_all i tys ht)) (none_lowers b)) in
      subst (λ ps. LowersAll m realloc (shapes_of types tys) parts ps a b) (append-nil all) (rest b [] none)
