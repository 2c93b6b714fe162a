-- Words become values: scalars, texts, and parts.
use Rattle.std.proofs.Common.{◌≡◌, ℕ, suc, ◌+◌, ◌≤◌, List, [], ◌∷◌, ◌++◌, length, drop, None, Some, refl, sym, ap, ◌∙◌, subst, arith, append_assoc, append-nil, ap₂, false}
use Rattle.std.proofs.lemmas.List.{drop_all, length-append, length-map}
use Rattle.wit_model.specs.declared.name.TypeId.{TypeId}
use Rattle.wit_model.specs.declared.types.Field.{Field}
use Rattle.wit_model.specs.declared.types.TypeDef.{TypeDef}
use Rattle.wit_model.specs.declared.types.WitType.{WitType}
use Rattle.wit_model.specs.declared.types.WitType.TheVariants as wit
use Rattle.wit_layout.specs.Flat.{flatten_record, flatten_type}
use Rattle.wit_layout.specs.Tree.{Scalar}
use Rattle.wrapper_data.specs.declared.block.Block.{Block}
use Rattle.wrapper_data.specs.declared.word.Word.{Word}
use Rattle.wrapper_data.specs.declared.word.Word.TheVariants as core
use Rattle.wrapper_meaning.specs.AsWords.{IsTaken, PartsSay, Says}
use Rattle.wrapper_meaning.specs.Direction.{take}
use Rattle.wrapper_meaning.specs.InRange.{AreListed, IsScalar}
use Rattle.wrapper_meaning.specs.Items.{total, SameItems}
use Rattle.wrapper_meaning.specs.Layout.{layout, layouts}
use Rattle.wrapper_meaning.specs.Settled.{all_settled}
use Rattle.wrapper_meaning.specs.Shape.{Shape, Shapes, shape_of}
use Rattle.wrapper_meaning.specs.Shape.Shape.{scalar, text, fields, tuple}
use Rattle.wrapper_meaning.specs.Shape.Shapes.{none, more}
use Rattle.wrapper_meaning.specs.Value.{Parts, ScalarValue, Value}
use Rattle.wrapper_meaning.proofs.Lists.{some_same}
use Rattle.abi_bindgen.specs.declared.instruction.Instruction.{Instruction}
use Rattle.abi_bindgen.specs.declared.instruction.Instruction.TheVariants.{RecordLift, StringLift, TupleLift}
use Rattle.abi_bindgen.specs.Account.{Account, Done, Follows, Got, Outcome, Taken, addresses, reading, taking, Peer}
use Rattle.abi_bindgen.specs.Instructions.{Emits, IsRecord, RowBy, field_shapes, lifted_scalar, lifting, lowered_scalar, shapes_of}
use Rattle.abi_bindgen.specs.Laws.{Adds, After, At, Facts, Sound, core_data, item_data, ofs}
use Rattle.abi_bindgen.specs.Leaves.{LiftsScalar}
use Rattle.abi_bindgen.specs.Lifts.{LiftsAll, LiftsFlat, OneStands, TakesOver, took}
use Rattle.abi_bindgen.specs.Meaning.{Meaning, item, of, word}
use Rattle.abi_bindgen.specs.Parts.{LiftsParts, PartsStand, count}
use Rattle.abi_bindgen.specs.WordCount.{word_count}
use Rattle.abi_bindgen.proofs.Ordinary.{adds_of, lifts_ordinary}
use Rattle.abi_bindgen.proofs.Runs.{adds_both, adds_same, addresses_both, core_append, ofs_append}
use Rattle.abi_driver.proofs.SaysLength.{says_length}
use Rattle.abi_driver.proofs.TakingOver.{may_first, reads, taking_text, took_none}
use Rattle.wrapper_meaning.proofs.PostReturn.{total-append}
use Rattle.abi_bindgen.specs.Early.{HasAsked}
use Rattle.abi_bindgen.specs.Lifting.{Lifted}
use Rattle.abi_bindgen.proofs.EarlyLemmas.{comes_more, comes_on}
use Rattle.abi_driver.proofs.LiftedHeaps.{asked_by_lifting, lifted_and, may_later}
use Rattle.abi_driver.proofs.TakeSteps.{gets_plainly, gets_stay, MadeOf}
use Rattle.wrapper_meaning.specs.Requests.{part_requests, requests, room_for}

-- what follows an action that is done
pub follows_done : {V A S : Type 0} (account : S → Account V) (o : Outcome V A) (q : Outcome V S) (P : A → S → Type 0) (x : A) → o ≡ Done x → Follows account o q P → (t : S) × (q ≡ Done t) × P x t
follows_done account o q P x e h = subst (λ z. Follows account z q P) e h

-- the scalar of an instruction that was chosen by a type
pub record IsLifted (ty : WitType) (i : Instruction) : Type 0 where
  pub scalar_is : Scalar
  pub lowers : lowered_scalar i ≡ None
  pub lifts : lifted_scalar i ≡ Some scalar_is
  pub shape : (types : List TypeDef) → shape_of types ty ≡ scalar scalar_is

pub lifted_type : (ty : WitType) (i : Instruction) → lifting ty ≡ Some i → IsLifted ty i
lifted_type wit.Bool i e = record { scalar_is = Scalar.bool; lowers = ap lowered_scalar (sym (some_same _ _ e)); lifts = ap lifted_scalar (sym (some_same _ _ e)); shape = λ types. refl }
lifted_type wit.U8 i e = record { scalar_is = Scalar.u8; lowers = ap lowered_scalar (sym (some_same _ _ e)); lifts = ap lifted_scalar (sym (some_same _ _ e)); shape = λ types. refl }
lifted_type wit.S8 i e = record { scalar_is = Scalar.s8; lowers = ap lowered_scalar (sym (some_same _ _ e)); lifts = ap lifted_scalar (sym (some_same _ _ e)); shape = λ types. refl }
lifted_type wit.U16 i e = record { scalar_is = Scalar.u16; lowers = ap lowered_scalar (sym (some_same _ _ e)); lifts = ap lifted_scalar (sym (some_same _ _ e)); shape = λ types. refl }
lifted_type wit.S16 i e = record { scalar_is = Scalar.s16; lowers = ap lowered_scalar (sym (some_same _ _ e)); lifts = ap lifted_scalar (sym (some_same _ _ e)); shape = λ types. refl }
lifted_type wit.U32 i e = record { scalar_is = Scalar.u32; lowers = ap lowered_scalar (sym (some_same _ _ e)); lifts = ap lifted_scalar (sym (some_same _ _ e)); shape = λ types. refl }
lifted_type wit.S32 i e = record { scalar_is = Scalar.s32; lowers = ap lowered_scalar (sym (some_same _ _ e)); lifts = ap lifted_scalar (sym (some_same _ _ e)); shape = λ types. refl }
lifted_type wit.Char i e = record { scalar_is = Scalar.char; lowers = ap lowered_scalar (sym (some_same _ _ e)); lifts = ap lifted_scalar (sym (some_same _ _ e)); shape = λ types. refl }
lifted_type wit.U64 i e = record { scalar_is = Scalar.u64; lowers = ap lowered_scalar (sym (some_same _ _ e)); lifts = ap lifted_scalar (sym (some_same _ _ e)); shape = λ types. refl }
lifted_type wit.S64 i e = record { scalar_is = Scalar.s64; lowers = ap lowered_scalar (sym (some_same _ _ e)); lifts = ap lifted_scalar (sym (some_same _ _ e)); shape = λ types. refl }
lifted_type wit.F32 i e = record { scalar_is = Scalar.f32; lowers = ap lowered_scalar (sym (some_same _ _ e)); lifts = ap lifted_scalar (sym (some_same _ _ e)); shape = λ types. refl }
lifted_type wit.F64 i e = record { scalar_is = Scalar.f64; lowers = ap lowered_scalar (sym (some_same _ _ e)); lifts = ap lifted_scalar (sym (some_same _ _ e)); shape = λ types. refl }
lifted_type wit.String i e = absurd (let h = e in cc)
lifted_type wit.ErrorContext i e = absurd (let h = e in cc)
lifted_type (wit.Id id) i e = absurd (let h = e in cc)

pub scalar_words : (types : List TypeDef) (ty : WitType) (i : Instruction) → lifting ty ≡ Some i → word_count types ty ≡ 1
scalar_words types ty i e = ap (λ t. length (flatten_type (layout t))) ((lifted_type ty i e).shape types)

-- what is owned behind one thing, and then behind others
pub owns_and : (s s1 u : List ℕ) (own more_own : List Block) → SameItems s1 (s ++ addresses own) → SameItems u (s1 ++ addresses more_own) → SameItems u (s ++ addresses (own ++ more_own))
owns_and s s1 u own more_own one two g =
    let all : total g (addresses (own ++ more_own)) ≡ total g (addresses own) + total g (addresses more_own) = ap (total g) (addresses_both own more_own) ∙ total-append g (addresses own) (addresses more_own) in
    omega (arith, all, one g, two g, total-append g s (addresses own), total-append g s1 (addresses more_own), total-append g s (addresses (own ++ more_own)))

module _ {Self Operand : Type 0} (m : Meaning Self Operand) (sound : Sound m) (types : List TypeDef) where
  scalar_row : (s : Scalar) (a b : Self) (o r : Operand) → Adds m a b → LiftsScalar m s (o ∷ []) (r ∷ []) a b → LiftsFlat m (scalar s) (o ∷ []) r a b
  scalar_row s a b o r adds row = record {
    adds = adds;
    fits = refl;
    asks_nothing = λ v. refl;
    row = λ v ws own listed says w f others s0 st at may.
        let x = says.0 in
        let at1 : At m w f a b (of o (word x) ∷ others) s0 st = record { serves = at.serves; done = at.done; holds = subst (λ zs. m.denotes w a (ofs m (o ∷ []) (core_data m zs) ++ others) st) says.1 at.holds } in
        let P : Got m.Item (Unit {0}) → m.State → Type 0 = λ y t. (outs : Facts m) × ((c : m.Item) × (outs ≡ ofs m (r ∷ []) (item c ∷ [])) × ((v : ScalarValue s) → IsScalar s v → IsTaken s v x → m.stands take (scalar s) v c [])) × After m w b (outs ++ others) [] [] st y t in
        let ran = follows_done m.account (reading s f.form x (m.account st)) (m.does w f (m.code b) s0) P (record { result = tt; account = m.account st }) (reads s f.form v x (m.account st) listed says.2) (row x w f others s0 st at1) in
        let t = ran.0 in
        let is = ran.2.1 in
        let after = ran.2.2 in
        gets_plainly m (OneStands m (scalar s) v) own (r ∷ []) b w f others s0 st may.formed (
          t,
          is.0 ∷ [],
          ran.1,
          (is.0, refl, subst (m.stands take (scalar s) v is.0) (sym says.3) (is.2 v listed says.2)),
          record {
            account = after.account ∙ sym (ap (λ bs. took bs (m.account st)) says.3 ∙ took_none (m.account st));
            owns = λ g. after.owns g ∙ sym (ap (λ bs. total g (m.owns st ++ addresses bs)) says.3);
            denotes = subst (λ fs. m.denotes w b (fs ++ others) t) is.1 after.denotes;
          },
        );
  }

  pub scalar_lifts : (ty : WitType) (i : Instruction) (a b : Self) (o r : Operand) → lifting ty ≡ Some i → Emits m types i (o ∷ []) (r ∷ []) a b → LiftsFlat m (shape_of types ty) (o ∷ []) r a b
  scalar_lifts ty i a b o r is e =
      let s = lifted_type ty i is in
      let row : LiftsScalar m s.scalar_is (o ∷ []) (r ∷ []) a b =
      subst (λ x. RowBy m types i None x (o ∷ []) (r ∷ []) a b) s.lifts (subst (λ x. RowBy m types i x (lifted_scalar i) (o ∷ []) (r ∷ []) a b) s.lowers e.row) in
      subst (λ t. LiftsFlat m t (o ∷ []) r a b) (sym (s.shape types)) (scalar_row s.scalar_is a b o r (adds_of m i (lifts_ordinary i s.scalar_is s.lifts) types a b e.adds) row)

  pub text_lifts : (a b : Self) (o p r : Operand) → Emits m types StringLift (o ∷ p ∷ []) (r ∷ []) a b → LiftsFlat m text (o ∷ p ∷ []) r a b
  text_lifts a b o p r e = record {
    adds = e.adds;
    fits = refl;
    asks_nothing = λ v. refl;
    row = λ v ws own listed says w f others s0 st at may.
        let q = says.address in
        let n = length v in
        let pair : List Word = core.Pointer q ∷ core.Length n ∷ [] in
        let at1 : At m w f a b (ofs m (o ∷ p ∷ []) (core_data m pair) ++ others) s0 st = record { serves = at.serves; done = at.done; holds = subst (λ zs. m.denotes w a (ofs m (o ∷ p ∷ []) (core_data m zs) ++ others) st) says.pair at.holds } in
        let P : Got m.Item Taken → m.State → Type 0 = λ x t. (outs : Facts m) × ((c : m.Item) × (outs ≡ ofs m (r ∷ []) (item c ∷ [])) × (Says m.width take text x.result.bytes pair x.result.blocks → m.stands take text x.result.bytes c x.result.blocks))
        × After m w b (outs ++ others) (addresses x.result.blocks) [] st x t in
        let ran = follows_done m.account (taking (m.tests a) f.form q n (m.account st)) (m.does w f (m.code b) s0) P (record { result = record { bytes = v; blocks = own }; account = took own (m.account st) })
        (taking_text (m.tests a) f.form q v own (m.account st) listed says.buffer.bounded says.buffer.placed may) (e.row q n w f others s0 st at1) in
        let t = ran.0 in
        let is = ran.2.1 in
        let after = ran.2.2 in
        gets_plainly m (OneStands m text v) own (r ∷ []) b w f others s0 st may.formed (
          t,
          is.0 ∷ [],
          ran.1,
          (is.0, refl, is.2 (subst (λ zs. Says m.width take text v zs own) says.pair says)),
          record {
            account = after.account;
            owns = after.owns;
            denotes = subst (λ fs. m.denotes w b (fs ++ others) t) is.1 after.denotes;
          },
        );
  }

  pub none_lifts : (a : Self) → LiftsAll m none [] [] a a
  none_lifts a = record {
    adds = adds_same m a;
    fits = refl;
    asks_nothing = λ v. refl;
    row = λ v ws own listed says w f others s0 st at may.
        let none_said : ws ≡ [] = says.0 in
        gets_plainly m (PartsStand m take none (all_settled none v)) own [] a w f others s0 st may.formed (
          st,
          [],
          at.done,
          (refl, says.1),
          record {
            account = sym (ap (λ bs. took bs (m.account st)) says.1 ∙ took_none (m.account st));
            owns = λ g. sym (ap (λ bs. total g (m.owns st ++ addresses bs)) says.1);
            denotes = subst (λ zs. m.denotes w a (ofs m [] (core_data m zs) ++ others) st) none_said at.holds;
          },
        );
  }

  -- what takes over the words of a value, and then what takes over those of other parts
  pub takes_both : (t : Shape) (ts : Shapes) (v : Parts (more t ts)) (xs ys : Facts m) (blocks1 blocks2 : List Block) (a b c : Self) (o : Operand) (parts : List Operand) → Adds m b c
      → TakesOver m (OneStands m t v.0) xs blocks1 (requests m.width room_for t v.0) (o ∷ []) a b → TakesOver m (PartsStand m take ts (all_settled ts v.1)) ys blocks2 (part_requests m.width room_for ts v.1) parts b c
      → TakesOver m (PartsStand m take (more t ts) (all_settled (more t ts) v)) (xs ++ ys) (blocks1 ++ blocks2) (part_requests m.width room_for (more t ts) v) (o ∷ parts) a c
  takes_both t ts v xs ys blocks1 blocks2 a b c o parts adds first later w f others s0 st at may =
      let acc = m.account st in
      let due1 = requests m.width room_for t v.0 in
      let due2 = part_requests m.width room_for ts v.1 in
      let First : m.State → Type 0 = Lifted m (OneStands m t v.0) blocks1 due1 (o ∷ []) w b (ys ++ others) st in
      let Whole : m.State → Type 0 = Lifted m (PartsStand m take (more t ts) (all_settled (more t ts) v)) (blocks1 ++ blocks2) (due1 ++ due2) (o ∷ parts) w c others st in
      let at1 : At m w f a b (xs ++ (ys ++ others)) s0 st = record { serves = adds.grows.serves w at.serves; done = at.done; holds = subst (λ fs. m.denotes w a fs st) (append_assoc xs ys others) at.holds } in
      comes_on false due1 due2 m.account acc (m.does w f (m.code b) s0) (m.does w f (m.code c) s0) First Whole (adds.grows.stops w f s0 at.serves)
      (comes_more false due1 acc (m.does w f (m.code b) s0) First (λ t1. HasAsked due1 acc (m.account t1) × First t1) (first w f (ys ++ others) s0 st at1 (may_first blocks1 blocks2 acc may))
      (λ t1 d got. (asked_by_lifting got.lifted.gone got.own due1 acc (m.account t1) got.lifted.account, got)))
      (λ t1 done got.
      let x = got.stands.0 in
      let holds2 : m.denotes w b ((of o (item x) ∷ []) ++ (ys ++ others)) t1 = subst (λ vals. m.denotes w b (ofs m (o ∷ []) (item_data m vals) ++ (ys ++ others)) t1) got.stands.1 got.denotes in
      let at2 : At m w f b c (ys ++ ((of o (item x) ∷ []) ++ others)) s0 t1 = record { serves = at.serves; done = done; holds = sound.swap w b (of o (item x) ∷ []) ys others t1 holds2 } in
      comes_more false due2 (m.account t1) (m.does w f (m.code c) s0) (Lifted m (PartsStand m take ts (all_settled ts v.1)) blocks2 due2 parts w c ((of o (item x) ∷ []) ++ others) t1) Whole
      (later w f ((of o (item x) ∷ []) ++ others) s0 t1 at2 (may_later blocks1 blocks2 got.own due1 acc (m.account t1) got.lifted may))
      (λ u d more_got. record {
        vals = x ∷ more_got.vals;
        own = got.own ++ more_got.own;
        stands = (x, more_got.vals, got.own, more_got.own, refl, got.stands.2, more_got.stands, refl);
        lifted = lifted_and blocks1 blocks2 got.own more_got.own due1 due2 acc (m.account t1) (m.account u) got.lifted more_got.lifted;
        owns = owns_and (m.owns st) (m.owns t1) (m.owns u) got.own more_got.own got.owns more_got.owns;
        denotes = sound.swap w c (ofs m parts (item_data m more_got.vals)) (of o (item x) ∷ []) others u more_got.denotes;
      }))

  pub more_lifts : (t : Shape) (ts : Shapes) (a b c : Self) (os qs : List Operand) (o : Operand) (parts : List Operand) → LiftsFlat m t os o a b → LiftsAll m ts qs parts b c → LiftsAll m (more t ts) (os ++ qs) (o ∷ parts) a c
  more_lifts t ts a b c os qs o parts first later = record {
    adds = adds_both m a b c first.adds later.adds;
    fits = length-append os qs ∙ omega (arith, first.fits, later.fits, length-append (flatten_type (layout t)) (flatten_record (layouts ts)));
    asks_nothing = λ v. ap₂ (λ xs ys. xs ++ ys) (first.asks_nothing v.0) (later.asks_nothing v.1);
    row = λ v ws own listed says.
        let ws1 = says.0 in
        let ws2 = says.1 in
        let own1 = says.2 in
        let own2 = says.3 in
        let xs : Facts m = ofs m os (core_data m ws1) in
        let ys : Facts m = ofs m qs (core_data m ws2) in
        let len : length (core_data m ws1) ≡ length os = length-map ws1 (λ w. word w) ∙ says_length m.width take t v.0 ws1 own1 listed.0 says.4 ∙ sym first.fits in
        let facts : ofs m (os ++ qs) (core_data m ws) ≡ xs ++ ys = ap (λ zs. ofs m (os ++ qs) (core_data m zs)) says.6 ∙ ap (ofs m (os ++ qs)) (core_append m ws1 ws2) ∙ ofs_append m os qs (core_data m ws1) (core_data m ws2) len in
        let P : Facts m → List Block → Type 0 = λ ins bs. TakesOver m (PartsStand m take (more t ts) (all_settled (more t ts) v)) ins bs (part_requests m.width room_for (more t ts) v) (o ∷ parts) a c in
        let both = takes_both t ts v xs ys own1 own2 a b c o parts later.adds (first.row v.0 ws1 own1 listed.0 says.4) (later.row v.1 ws2 own2 listed.1 says.5) in
        subst (λ ins. P ins own) (sym facts) (subst (P (xs ++ ys)) (sym says.7) both);
  }

  pub stand_count : (ts : Shapes) (v : Parts ts) (vals : List m.Item) (own : List Block) → PartsStand m take ts v vals own → length vals ≡ count ts
  stand_count none v vals own h = ap length h.0
  stand_count (more t ts) v vals own h = ap length h.4 ∙ ap suc (stand_count ts v.1 h.1 h.3 h.6)

  -- parts become a value
  pub whole_made : (ts : Shapes) (t : Shape) (whole : Parts ts → Value t) (b c : Self) (parts : List Operand) (r : Operand) → LiftsParts m ts t whole parts (r ∷ []) b c → (v : Parts ts) (vals : List m.Item) (own : List Block) → PartsStand m take ts v vals own
      → (w : m.World) (f : Peer m.Item) (others : Facts m) (s0 t1 : m.State) → At m w f b c (ofs m parts (item_data m vals) ++ others) s0 t1 → MadeOf m (λ made own. (x : m.Item) × (made ≡ x ∷ []) × m.stands take t (whole v) x own) own (r ∷ []) w f c others s0 t1
  whole_made ts t whole b c parts r row v vals own stand w f others s0 t1 at =
      let made = row vals (stand_count ts v vals own stand) w f others s0 t1 at in
      let u = made.0 in
      let is = made.2.1 in
      let after = made.2.2 in
      record {
        state = u;
        done = made.1;
        vals = is.0 ∷ [];
        stands = (is.0, refl, is.2 v own stand);
        account = after.account;
        owns = λ g. omega (arith, after.owns g, total-append g (m.owns u) [], total-append g (m.owns t1) []);
        denotes = subst (λ fs. m.denotes w c (fs ++ others) u) is.1 after.denotes;
      }

  -- what a value becomes of its parts
  parts_row : (ts : Shapes) (t : Shape) (whole : Parts ts → Value t) (a b c : Self) (os parts : List Operand) (r : Operand) → LiftsAll m ts os parts a b → Adds m b c → LiftsParts m ts t whole parts (r ∷ []) b c
      → (v : Parts ts) (ws : List Word) (blocks : List Block) → AreListed ts v → PartsSay m.width take ts v ws blocks
      → TakesOver m (λ vals own. (x : m.Item) × (vals ≡ x ∷ []) × m.stands take t (whole (all_settled ts v)) x own) (ofs m os (core_data m ws)) blocks (part_requests m.width room_for ts v) (r ∷ []) a c
  parts_row ts t whole a b c os parts r first adds row v ws blocks listed says w f others s0 st at may =
      let at1 : At m w f a b (ofs m os (core_data m ws) ++ others) s0 st = record { serves = adds.grows.serves w at.serves; done = at.done; holds = at.holds } in
      let Parted = PartsStand m take ts (all_settled ts v) in
      gets_stay m Parted (λ vals own. (x : m.Item) × (vals ≡ x ∷ []) × m.stands take t (whole (all_settled ts v)) x own) blocks (part_requests m.width room_for ts v) parts (r ∷ []) b c w f others s0 st
      (adds.grows.stops w f s0 at.serves) (first.row v ws blocks listed says w f others s0 st at1 may)
      (λ t1 done got. whole_made ts t whole b c parts r row (all_settled ts v) got.vals got.own got.stands w f others s0 t1 (record { serves = at.serves; done = done; holds = got.denotes }))

  pub record_lifts : (id : TypeId) (members : List Field) (a b c : Self) (os parts : List Operand) (r : Operand) → IsRecord types id.0 members → LiftsAll m (field_shapes types members) os parts a b → Emits m types (RecordLift id) parts (r ∷ []) b c
      → LiftsFlat m (fields (field_shapes types members)) os r a c
  record_lifts id members a b c os parts r is first e = record {
    adds = adds_both m a b c first.adds e.adds;
    fits = first.fits;
    asks_nothing = first.asks_nothing;
    row = parts_row (field_shapes types members) (fields (field_shapes types members)) (λ v. v) a b c os parts r first e.adds (e.row members is);
  }

  pub tuple_lifts : (n : ℕ) (ts : Shapes) (a b c : Self) (os parts : List Operand) (r : Operand) → count ts ≡ n → LiftsAll m ts os parts a b → Emits m types (TupleLift n) parts (r ∷ []) b c → LiftsFlat m (tuple ts) os r a c
  tuple_lifts n ts a b c os parts r is first e = record {
    adds = adds_both m a b c first.adds e.adds;
    fits = first.fits;
    asks_nothing = first.asks_nothing;
    row = parts_row ts (tuple ts) (λ v. v) a b c os parts r first e.adds (e.row ts is);
  }

  pub lifts_as : (s t : Shape) (a b : Self) (words : List Operand) (at next : ℕ) (r : Operand) → s ≡ t → (used : List Operand) × (drop at words ≡ used ++ drop next words) × LiftsFlat m t used r a b
      → (used : List Operand) × (drop at words ≡ used ++ drop next words) × LiftsFlat m s used r a b
  lifts_as s t a b words at next r e h = (h.0, h.1, subst (λ x. LiftsFlat m x h.0 r a b) (sym e) h.2)

  pub lifts_all_as : (xs ys : List WitType) (a b : Self) (words : List Operand) (at next : ℕ) (parts : List Operand) → xs ≡ ys → (used : List Operand) × (drop at words ≡ used ++ drop next words) × LiftsAll m (shapes_of types xs) used parts a b
      → (used : List Operand) × (drop at words ≡ used ++ drop next words) × LiftsAll m (shapes_of types ys) used parts a b
  lifts_all_as xs ys a b words at next parts e h = (h.0, h.1, subst (λ x. LiftsAll m (shapes_of types x) h.0 parts a b) e h.2)

  -- what lifts the parts from one on lifts all, where the words before a place were read

  abbrev pub Rest : List WitType → (i at : ℕ) (words : List Operand) (next : ℕ) (parts : List Operand) (a b : Self) → Type 0
  Rest tys i at words next parts a b =
      (used : List Operand) × (drop at words ≡ used ++ drop next words)
      × ((new : Self) (qs later : List Operand) → LiftsAll m (shapes_of types (drop i tys)) qs later b new → LiftsAll m (shapes_of types tys) (used ++ qs) (parts ++ later) a new)

  pub rest_next : (tys : List WitType) (i at : ℕ) (words : List Operand) (next behind : ℕ) (parts now : List Operand) (a b c : Self) (ty : WitType) (o : Operand) → drop i tys ≡ ty ∷ drop (i + 1) tys
      → ((os : List Operand) × (drop next words ≡ os ++ drop behind words) × LiftsFlat m (shape_of types ty) os o b c) → now ≡ parts ++ o ∷ [] → Rest tys i at words next parts a b → Rest tys (i + 1) at words behind now a c
  rest_next tys i at words next behind parts now a b c ty o et one en rest =
      let used = rest.0 in
      let os = one.0 in (
        used ++ os,
        rest.1 ∙ ap (λ ys. used ++ ys) one.1 ∙ sym (append_assoc used os (drop behind words)),
        λ new qs later h.
            let both = more_lifts (shape_of types ty) (shapes_of types (drop (i + 1) tys)) b c new os qs o later one.2 h in
            let all = rest.2 new (os ++ qs) (o ∷ later) (subst (λ ts. LiftsAll m (shapes_of types ts) (os ++ qs) (o ∷ later) b new) (sym et) both) in
            subst (λ xs. LiftsAll m (shapes_of types tys) ((used ++ os) ++ qs) xs a new) (sym (ap (λ xs. xs ++ later) en ∙ append_assoc parts (o ∷ []) later))
            (subst (λ xs. LiftsAll m (shapes_of types tys) xs (parts ++ (o ∷ later)) a new) (sym (append_assoc used os qs)) all),
      )

  pub rest_last : (tys : List WitType) (i at : ℕ) (words : List Operand) (next : ℕ) (parts : List Operand) (a b : Self) → length tys ≤ i → Rest tys i at words next parts a b
      → (used : List Operand) × (drop at words ≡ used ++ drop next words) × LiftsAll m (shapes_of types tys) used parts a b
  rest_last tys i at words next parts a b short rest =
      let none_left : LiftsAll m (shapes_of types (drop i tys)) [] [] b b = subst (λ ts. LiftsAll m (shapes_of types ts) [] [] b b) (sym (drop_all i tys short)) (none_lifts b) in
      let all = rest.2 b [] [] none_left in
      (rest.0, rest.1, subst (λ xs. LiftsAll m (shapes_of types tys) rest.0 xs a b) (append-nil parts) (subst (λ xs. LiftsAll m (shapes_of types tys) xs (parts ++ []) a b) (append-nil rest.0) all))
