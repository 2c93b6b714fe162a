-- The whole code of an export: its words become values, the method is called, and what is answered becomes words.
use Rattle.std.proofs.Common.{◌≡◌, Bor, ℕ, ◌+◌, Bool, true, false, nat_eq, if◌then◌else◌, MatchBool, List, [], ◌∷◌, ◌++◌, length, Option, None, Some, refl, sym, ap, ap₂, ◌∙◌, subst, arith, append-nil}
use Rattle.std.specs.Prelude.{option_to_list}
use Rattle.std.specs.List.{AllByRecursion, flat_map}
use Rattle.std.specs.Option.{option_map}
use Rattle.std.proofs.lemmas.Bool.{eq-eqb}
use Rattle.wit_model.specs.declared.function.Function.{Function}
use Rattle.wit_model.specs.declared.types.TypeDef.{TypeDef}
use Rattle.wit_layout.specs.declared.signature.AbiVariant.TheVariants.{GuestExport}
use Rattle.wit_layout.specs.declared.signature.WasmSignature.{WasmSignature}
use Rattle.wit_layout.specs.Signature.{IsFlattenedFunctype, are_many, core_params, needs_pointer}
use Rattle.wit_layout.specs.Signature as signature
use Rattle.wit_layout.specs.Sizes.{alignment, elem_size}
use Rattle.wrapper_data.specs.Heap.{is_heap}
use Rattle.wrapper_data.specs.declared.block.Block.{Block}
use Rattle.wrapper_data.specs.declared.word.Word.{Word}
use Rattle.wrapper_data.specs.declared.word.Word.TheVariants as core
use Rattle.wrapper_meaning.specs.Areas.{result_record}
use Rattle.wrapper_meaning.specs.Direction.{give, take}
use Rattle.wrapper_meaning.specs.InRange.{IsListed}
use Rattle.wrapper_meaning.specs.Items.{SameItems, total}
use Rattle.wrapper_meaning.specs.Layout.{layout}
use Rattle.wrapper_meaning.specs.Represents.{GivesResult, ResultInArea, ResultInWord, are_indirect, is_indirect}
use Rattle.wrapper_meaning.specs.Settled.{IsResult, all_settled}
use Rattle.wrapper_meaning.specs.Shape.{Shape, Shapes, param_shapes, result_shape}
use Rattle.wrapper_meaning.specs.Shape.Shapes.{none, more}
use Rattle.wrapper_meaning.specs.Value.{Parts, Result, Value}
use Rattle.wrapper_meaning.proofs.LayoutIsTree.{signature_is_by_shapes}
use Rattle.abi_bindgen.specs.declared.bindgen.Asked.{Asked}
use Rattle.abi_bindgen.specs.declared.instruction.Instruction.TheVariants.{CallInterface, Return}
use Rattle.abi_bindgen.specs.Account.{Account, Call, Crossing, Done, Follows, Got, Outcome, Peer, account_in, addresses, gives}
use Rattle.abi_bindgen.specs.Area.{AreFor, AreaStands, HoldsRecord, newly, pointing}
use Rattle.abi_bindgen.specs.Calls.{PassesAsItIs, coming, handing, method_point, result_count}
use Rattle.abi_driver.specs.Exports.{CallsExport, EndsWithWords, GivesAnswer, GivesWords, HandsBack, IsHonestMethod, PassesItems, Received, StoresAnswer, TakesArgumentsOver, TookOver, argument_words, export_params, handed_on, placing_result}
use Rattle.abi_driver.specs.Imports.{ResultStands}
use Rattle.abi_bindgen.specs.Instructions.{Emits}
use Rattle.abi_bindgen.specs.Laws.{Adds, After, At, Facts, Grows, Quiet, Sound, core_data, item_data, ofs}
use Rattle.abi_bindgen.specs.Lowers.{LowersAnswer}
use Rattle.abi_bindgen.specs.Meaning.{Meaning, item, of, word}
use Rattle.abi_bindgen.specs.Parts.{PartsStand}
use Rattle.abi_driver.proofs.AnswerArea.{StoredThere, follows_known, pointing_is, stored_there}
use Rattle.abi_driver.proofs.AreaSteps.{last_room}
use Rattle.abi_bindgen.proofs.Done.{releases_all}
use Rattle.abi_driver.proofs.ImportSteps.{follows_calls, no_result_record}
use Rattle.abi_driver.proofs.LiftSteps.{follows_done, stand_count}
use Rattle.abi_driver.proofs.MethodCalls.{Came, after_answer, came_many, handing_calls, handing_done, live_owners}
use Rattle.abi_driver.proofs.RecordPlaces.{align_at_width, at_width}
use Rattle.abi_bindgen.proofs.Runs.{adds_both, adds_same, addresses_both, follows_then, grows_both, ofs_none, quiet_both}
use Rattle.wrapper_meaning.proofs.PostReturn.{total-append}
use Rattle.abi_bindgen.proofs.LoweredPlainly.{passed_plainly}
use Rattle.wrapper_meaning.specs.Requests.{block_for, requests}
use Rattle.wrapper_meaning.specs.AsWords.{Says}

-- 1. The call

pub export_words : (types : List TypeDef) (f : Function) → export_params types f ≡ argument_words (param_shapes types f)
export_words types f = ap (λ ps. core_params GuestExport ps (signature.result_words types f.result)) (sym (signature_is_by_shapes types f).0)

-- the signature tells whether the arguments pass by a record, and whether the result does
pub export_indirect : (types : List TypeDef) (f : Function) (s : WasmSignature) → IsFlattenedFunctype types GuestExport f s → s.indirect_params ≡ are_indirect (param_shapes types f)
export_indirect types f s is = is.indirect ∙ sym (ap are_many (signature_is_by_shapes types f).0)

pub export_pointer : (types : List TypeDef) (f : Function) (s : WasmSignature) → IsFlattenedFunctype types GuestExport f s → s.retptr ≡ is_indirect (result_shape types f)
export_pointer types f s is = is.pointed ∙ sym (ap needs_pointer (signature_is_by_shapes types f).1)

pub count_mapped : {A B : Type 0} (f : A → B) (o : Option A) → length (option_to_list (option_map f o)) ≡ length (option_to_list o)
count_mapped f None = refl
count_mapped f (Some a) = refl

module _ {Self Operand : Type 0} (m : Meaning Self Operand) (sound : Sound m) where
  -- 2. What items own

  owned_parts : (ts : Shapes) (v : Parts ts) (vals : List m.Item) (own : List Block) → PartsStand m take ts v vals own → SameItems (flat_map m.owned vals) (addresses own)
  owned_parts none v vals own h g = ap (λ xs. total g (flat_map m.owned xs)) h.0 ∙ sym (ap (λ bs. total g (addresses bs)) h.1)
  owned_parts (more t ts) v vals own h g =
      ap (λ xs. total g (flat_map m.owned xs)) h.4 ∙ total-append g (m.owned h.0) (flat_map m.owned h.1) ∙ ap₂ (λ x y. x + y) (sound.owned t v.0 h.0 h.2 h.5 g) (owned_parts ts v.1 h.1 h.3 h.6 g)
      ∙ sym (total-append g (addresses h.2) (addresses h.3)) ∙ ap (total g) (sym (addresses_both h.2 h.3)) ∙ sym (ap (λ bs. total g (addresses bs)) h.7)

  owned_answer : (r : Option Shape) (v : Result r) (vals : List m.Item) (own : List Block) → ResultStands m give r v vals own → SameItems (flat_map m.owned vals) (addresses own)
  owned_answer None v vals own h g = ap (λ xs. total g (flat_map m.owned xs)) h.0 ∙ sym (ap (λ bs. total g (addresses bs)) h.1)
  owned_answer (Some t) v vals own h g =
      ap (λ xs. total g (flat_map m.owned xs)) h.1 ∙ ap (total g) (append-nil (m.owned h.0)) ∙ sound.owned t v h.0 own (sound.taken t v h.0 own h.2) g

  answer_count : (r : Option Shape) (v : Result r) (vals : List m.Item) (own : List Block) → ResultStands m give r v vals own → length vals ≡ length (option_to_list r)
  answer_count None v vals own h = ap length h.0
  answer_count (Some t) v vals own h = ap length h.1

  -- 3. What was answered becomes words

  -- the words of an answer, whose blocks have no owner any more
  pub record Lowered (r : Option Shape) (v : Result r) (own : List Block) (rs : List Operand) (new : Self) (w : m.World) (p : Peer m.Item) (s0 s : m.State) : Type 0 where
    pub state : m.State
    pub done : m.does w p (m.code new) s0 ≡ Done state
    pub ws : List Word
    pub represents : GivesResult m.width r v ws own []
    pub account : m.account state ≡ record (m.account s) { taken = [] }
    pub owns : SameItems (m.owns state ++ addresses own) (m.owns s)
    pub denotes : m.denotes w new (ofs m rs (core_data m ws)) state

  no_answer : (v : Result None) (os : List Operand) (vals : List m.Item) (own : List Block) (b : Self) (w : m.World) (p : Peer m.Item) (s0 s : m.State) → vals ≡ [] → own ≡ [] → (m.account s).taken ≡ flat_map m.owned vals
      → At m w p b b (ofs m os (item_data m vals)) s0 s → Lowered None v own [] b w p s0 s
  no_answer v os vals own b w p s0 s empty bare taken at = record {
    state = s;
    done = at.done;
    ws = [];
    represents = (refl, bare, refl);
    account = ap (λ ts. record (m.account s) { taken = ts }) (taken ∙ ap (flat_map m.owned) empty);
    owns = λ g. ap (λ bs. total g (m.owns s ++ addresses bs)) bare ∙ ap (total g) (append-nil (m.owns s));
    denotes = subst (λ fs. m.denotes w b fs s) (ap (λ xs. ofs m os (item_data m xs)) empty ∙ ofs_none m os) at.holds;
  }

  lowered_adds : (r : Option Shape) (os rs : List Operand) (b c : Self) → LowersAnswer m r os rs b c → Adds m b c
  lowered_adds None os rs b c h = subst (Adds m b) (sym h.1) (adds_same m b)
  lowered_adds (Some t) os rs b c h = h.2.adds

  answer_lowered : (r : Option Shape) (os rs : List Operand) (b c : Self) → LowersAnswer m r os rs b c → is_indirect r ≡ false → (v : Result r) (vals : List m.Item) (own : List Block) → IsResult r v → ResultStands m give r v vals own
      → (w : m.World) (p : Peer m.Item) (s0 s : m.State) → is_heap (m.account s).heap ≡ true → (m.account s).taken ≡ flat_map m.owned vals → At m w p b c (ofs m os (item_data m vals)) s0 s → Lowered r v own rs c w p s0 s
  answer_lowered None os rs b c h one v vals own good stands w p s0 s formed taken at =
      let at1 = subst (λ x. At m w p b x (ofs m os (item_data m vals)) s0 s) h.1 at in
      subst (λ xs. Lowered None v own xs c w p s0 s) (sym h.0) (subst (λ x. Lowered None v own [] x w p s0 s) (sym h.1) (no_answer v os vals own b w p s0 s stands.0 stands.1 taken at1))
  answer_lowered (Some t) os rs b c h one v vals own good stands w p s0 s formed taken at =
      let o = h.0 in
      let a = stands.0 in
      let acc = m.account s in
      let all : SameItems acc.taken (addresses own) = λ g. ap (total g) taken ∙ owned_answer (Some t) v vals own stands g in
      let facts : ofs m os (item_data m vals) ≡ of o (item a) ∷ [] = ap₂ (λ ps xs. ofs m ps (item_data m xs)) h.1 stands.1 in
      let at1 : At m w p b c ((of o (item a) ∷ []) ++ []) s0 s = record { serves = at.serves; done = at.done; holds = subst (λ fs. m.denotes w b fs s) facts at.holds } in
      let ran = passed_plainly m true (Says m.width give t v) (of o (item a) ∷ []) own (requests m.width block_for t v) rs b c (h.2.asks_nothing v) (h.2.row acc.heap.blocks v a own good.0 stands.2) w p [] s0 s [] at1 formed (releases_all (addresses own) acc.taken all) in
      let after = ran.after in
      record {
        state = ran.state;
        done = ran.done;
        ws = ran.ws;
        represents = subst (λ q. MatchBool q (ResultInArea m.width give t v ran.ws own []) (ResultInWord m.width give t v ran.ws own [])) (sym one) (ran.says, refl);
        account = after.account;
        owns = λ g. after.owns g ∙ ap (total g) (append-nil (m.owns s));
        denotes = subst (λ fs. m.denotes w c fs ran.state) (append-nil (ofs m rs (core_data m ran.ws))) after.denotes;
      }

  -- or it is stored in the area, which is placed for it

  module _ (t : Shape) (back given : List Operand) (d e : Self) (h : StoresAnswer m t back given d e) where
    middle_later : Adds m h.middle e
    middle_later = h.stores.adds

    stores_grows : Grows m d e
    stores_grows = grows_both m d h.middle e h.points.2.grows middle_later.grows middle_later.quiet

    stores_quiet : Quiet m d e
    stores_quiet = quiet_both m d h.middle e h.points.2.quiet middle_later.grows middle_later.quiet

    module _ (types : List TypeDef) (z : Self) (n : ℕ) (empty : List Operand) (ended : Emits m types (Return n) given empty e z) (many : is_indirect (Some t) ≡ true) (v : Value t) (a : m.Item) (own : List Block) (listed : IsListed t v) (stands : m.stands give t v a own)
        (w : m.World) (p : Peer m.Item) (s0 s2 : m.State) (serves : m.serves w z) (done : m.does w p (m.code d) s0 ≡ Done s2) (good : is_heap (m.account s2).heap ≡ true) (owners : SameItems (m.account s2).taken (addresses own)) (owns : SameItems (m.owns s2) (addresses own))
        (unplaced : m.area_at s0 ≡ None) (export : m.exports d ≡ true) (unasked : m.asked d ≡ []) (denotes : m.denotes w d (of h.value (item a) ∷ []) s2) where
      abbrev acc : Account m.Item
      acc = m.account s2

      serves_middle : m.serves w h.middle
      serves_middle = middle_later.grows.serves w (ended.adds.grows.serves w serves)

      abbrev Pointing : Got m.Item ℕ → m.State → Type 0
      Pointing x s3 = After m w h.middle (of h.address (word (core.Pointer x.result)) ∷ of h.value (item a) ∷ []) (newly None x.result) [] s2 x s3

      pointed_so : Follows m.account (pointing (m.area w) None acc) (m.does w p (m.code h.middle) s0) (λ x s3. (pointing (m.area w) None acc ≡ Done x) × Pointing x s3)
      pointed_so =
          follows_known m.account (pointing (m.area w) None acc) (m.does w p (m.code h.middle) s0) Pointing
          (h.points.2.row w p (of h.value (item a) ∷ []) s0 s2 None (record { serves = serves_middle; done = done; holds = denotes }) unplaced (λ e. (export, unasked)))

      holds : HoldsRecord m.width (m.area w) h.points.0
      holds = last_room (HoldsRecord m.width (m.area w)) (m.asked d) h.points.0 (subst (AllByRecursion (HoldsRecord m.width (m.area w))) h.points.2.asked (sound.room w h.middle serves_middle))

      there : (x : Got m.Item ℕ) (s3 : m.State) → m.does w p (m.code h.middle) s0 ≡ Done s3 → pointing (m.area w) None acc ≡ Done x → Pointing x s3 → StoredThere m sound t v own acc.heap (m.area w) h.address e w p x s0 s3
      there x s3 done3 known after =
          stored_there m sound t h.value h.address h.middle e h.stores v a own listed stands w p s0 s3 h.points.0 holds
          (at_width m.width h.points.0.size (λ w. elem_size w (layout t)) sound.wide h.points.1.0) (align_at_width m.width h.points.0.align (λ w. alignment w (layout t)) sound.wide h.points.1.1)
          acc good owners x (pointing_is (m.area w) acc x known) after.account (ended.adds.grows.serves w serves) done3 after.denotes

      gives_in_area : (x : Got m.Item ℕ) (s3 : m.State) → m.does w p (m.code h.middle) s0 ≡ Done s3 → pointing (m.area w) None acc ≡ Done x → Pointing x s3
          → (t' : m.State) × (m.does w p (m.code z) s0 ≡ Done t') × GivesWords m w (Some t) v own acc.heap given z (record { result = x.result ∷ []; account = x.account }) t'
      gives_in_area x s3 done3 known after =
          let st = there x s3 done3 known after in
          let q = x.result in
          let ws = core.Pointer q ∷ [] in
          let facts : ofs m given (core_data m ws) ≡ of h.address (word (core.Pointer q)) ∷ [] = ap (λ os. ofs m os (core_data m ws)) h.gives in
          let at4 : At m w p e z (ofs m given (core_data m ws) ++ []) s0 st.state = record { serves = serves; done = st.done; holds = subst (λ fs. m.denotes w e fs st.state) (sym (append-nil (ofs m given (core_data m ws)) ∙ facts)) st.denotes } in
          let end = ended.row (core_data m ws) w p [] s0 st.state at4 in
          let after5 = end.2.2 in (
            end.0,
            end.1,
            record {
              ws = ws;
              area = st.block ∷ [];
              placed = subst (λ ts. AreaStands ts (m.area w) (Some q) (st.block ∷ [])) (sym (ap (λ c. if c then t ∷ [] else []) many)) st.placed;
              represents = subst (λ c. MatchBool c (ResultInArea m.width give t v ws own (st.block ∷ [])) (ResultInWord m.width give t v ws own (st.block ∷ []))) (sym many)
                  (record { block = st.block; is_area = refl; named = ap (λ n. core.Pointer n ∷ []) (sym st.at); stands = st.begins });
              heap = st.heap;
              formed = st.formed;
              all = st.all;
              account = after5.account ∙ st.account;
              owns = λ g. omega (
                arith,
                after5.owns g,
                st.owns g,
                after.owns g,
                owns g,
                total-append g (m.owns end.0) [],
                total-append g (m.owns st.state) [],
                total-append g (m.owns st.state) (addresses own),
                total-append g (m.owns s3) [],
                total-append g (m.owns s2) (q ∷ []),
              );
              denotes = subst (λ fs. m.denotes w z fs end.0) (ap (λ fs. fs ++ []) end.2.1 ∙ append-nil (ofs m given (core_data m ws))) after5.denotes;
            },
          )

      pub ends_in_area : EndsWithWords m w p (Some t) v own acc.heap given z s0 acc
      ends_in_area =
          let Q : Got m.Item (List ℕ) → m.State → Type 0 = λ x s4. GivesWords m w (Some t) v own acc.heap given z x s4 in
          let on : Adds m h.middle z = adds_both m h.middle e z middle_later ended.adds in
          subst (λ c. Follows m.account (placing_result c (m.area w) acc) (m.does w p (m.code z) s0) Q) (sym many)
          (follows_then m.account (pointing (m.area w) None acc) (λ x. gives (x.result ∷ []) x.account) (m.does w p (m.code h.middle) s0) (m.does w p (m.code z) s0)
          (λ x s3. (pointing (m.area w) None acc ≡ Done x) × Pointing x s3) Q pointed_so (on.grows.stops w p s0 serves) (on.quiet w p s0 serves)
          (λ x s3 done3 h3. gives_in_area x s3 done3 h3.0 h3.1))

  -- 4. All of it

  -- what an answer becomes, makes no call; and the area is asked for the record that passes by it

  pub record GivenOn (r : Option Shape) (d e : Self) : Type 0 where
    pub grows : Grows m d e
    pub quiet : Quiet m d e
    pub records : List Asked
    pub for : AreFor (result_record r) records
    pub asked : m.asked e ≡ m.asked d ++ records
    pub blocks : m.blocks e ≡ m.blocks d

  given_direct : (r : Option Shape) (back given : List Operand) (d e : Self) → is_indirect r ≡ false → LowersAnswer m r back given d e → GivenOn r d e
  given_direct r back given d e one h =
      let adds = lowered_adds r back given d e h in
      record { grows = adds.grows; quiet = adds.quiet; records = []; for = subst (λ ts. AreFor ts []) (sym (no_result_record r one)) tt; asked = adds.asked ∙ sym (append-nil (m.asked d)); blocks = adds.blocks }

  given_on : (r : Option Shape) (back given : List Operand) (d e : Self) → GivesAnswer m r back given d e → GivenOn r d e
  given_on None back given d e h = given_direct None back given d e refl h
  given_on (Some t) back given d e h = by (is_indirect (Some t)) refl h
    where
      by : (c : Bool) → is_indirect (Some t) ≡ c → MatchBool c (StoresAnswer m t back given d e) (LowersAnswer m (Some t) back given d e) → GivenOn (Some t) d e
      by true many h = record {
        grows = stores_grows t back given d e h;
        quiet = stores_quiet t back given d e h;
        records = h.points.0 ∷ [];
        for = subst (λ ts. AreFor ts (h.points.0 ∷ [])) (sym (ap (λ c. if c then t ∷ [] else []) many)) h.points.1;
        asked = h.stores.adds.asked ∙ h.points.2.asked;
        blocks = h.stores.adds.blocks ∙ h.points.2.blocks;
      }
      by false one h = given_direct (Some t) back given d e one h

  lowers_direct : (r : Option Shape) (back given : List Operand) (d e : Self) → is_indirect r ≡ false → GivesAnswer m r back given d e → LowersAnswer m r back given d e
  lowers_direct None back given d e one h = h
  lowers_direct (Some t) back given d e one h = subst (λ c. MatchBool c (StoresAnswer m t back given d e) (LowersAnswer m (Some t) back given d e)) one h

  -- the words of a result that passes by the area
  ends_by_area : (types : List TypeDef) (r : Option Shape) (back given : List Operand) (d e z : Self) (n : ℕ) (empty : List Operand) → Emits m types (Return n) given empty e z → is_indirect r ≡ true → GivesAnswer m r back given d e
      → (v : Result r) (vals : List m.Item) (own : List Block) → IsResult r v → ResultStands m give r v vals own → (w : m.World) (p : Peer m.Item) (s0 s2 : m.State) → m.serves w z → m.does w p (m.code d) s0 ≡ Done s2 → is_heap (m.account s2).heap ≡ true
      → (m.account s2).taken ≡ flat_map m.owned vals → SameItems (m.owns s2) (flat_map m.owned vals) → m.area_at s0 ≡ None → m.exports d ≡ true → m.asked d ≡ [] → m.denotes w d (ofs m back (item_data m vals)) s2 → EndsWithWords m w p r v own (m.account s2).heap given z s0 (m.account s2)
  ends_by_area types None back given d e z n empty ended many gives v vals own good stands w p s0 s2 serves done formed taken owns unplaced export unasked denotes = absurd (let g = many in cc)
  ends_by_area types (Some t) back given d e z n empty ended many gives v vals own good stands w p s0 s2 serves done formed taken owns unplaced export unasked denotes =
      let h = subst (λ c. MatchBool c (StoresAnswer m t back given d e) (LowersAnswer m (Some t) back given d e)) many gives in
      let owned : SameItems (flat_map m.owned vals) (addresses own) = owned_answer (Some t) v vals own stands in
      let facts : m.denotes w d (of h.value (item stands.0) ∷ []) s2 = subst (λ fs. m.denotes w d fs s2) (ap₂ (λ os xs. ofs m os (item_data m xs)) h.answered stands.1) denotes in
      ends_in_area t back given d e h types z n empty ended many v stands.0 own good.0 stands.2 w p s0 s2 serves done formed (λ g. ap (total g) taken ∙ owned g) (λ g. owns g ∙ owned g) unplaced export unasked facts

  module _ (types : List TypeDef) (fn : Bor Function) (a c d e z : Self) (values back given empty : List Operand) (n : ℕ)
      (takes : TakesArgumentsOver m (param_shapes types fn.now) values a c)
      (called : Emits m types (CallInterface fn) values back c d) (export : m.exports a ≡ true) (lowers : GivesAnswer m (result_shape types fn.now) back given d e) (ended : Emits m types (Return n) given empty e z) where
    abbrev ts : Shapes
    ts = param_shapes types fn.now

    abbrev r : Option Shape
    r = result_shape types fn.now

    on : GivenOn r d e
    on = given_on r back given d e lowers

    later_grows : Grows m d z
    later_grows = grows_both m d e z on.grows ended.adds.grows ended.adds.quiet

    later_quiet : Quiet m d z
    later_quiet = quiet_both m d e z on.quiet ended.adds.grows ended.adds.quiet

    module _ (w : m.World) (p : Peer m.Item) (us : Parts ts) (ws : List Word) (blocks : List Block) (others : Facts m) (s0 s : m.State) (crossed : PassesAsItIs m w a fn.now ts) (is : Received m w p ts us ws blocks a z others s0 s) where
      serves_e : m.serves w e
      serves_e = ended.adds.grows.serves w is.at.serves

      serves_d : m.serves w d
      serves_d = later_grows.serves w is.at.serves

      serves_c : m.serves w c
      serves_c = called.adds.serves w serves_d

      -- the arguments were taken over
      lifted : TookOver m w p ts us blocks values c others s0 s
      lifted = takes.row w p us ws blocks others s0 s is.listed is.represents is.may (record { serves = serves_c; done = is.at.done; holds = is.at.holds })

      lifted_owns : SameItems (m.owns lifted.state) (flat_map m.owned lifted.vals)
      lifted_owns g =
          omega (arith, lifted.after.owns g, is.bare g, owned_parts ts (all_settled ts us) lifted.vals lifted.own lifted.stands g, total-append g (m.owns lifted.state) [], total-append g (m.owns s) (addresses lifted.own))

      abbrev call : Call m.Item
      call = method_point (m.target c fn.now) lifted.vals (m.account lifted.state)

      abbrev crossing : Crossing m.Item
      crossing = m.crosses w c fn.now

      abbrev answering : Outcome m.Item (Got m.Item (List m.Item))
      answering = handing m.owned crossing (m.target c fn.now) lifted.vals (result_count fn.now) p.reply (m.account lifted.state)

      abbrev Answered : Got m.Item (List m.Item) → m.State → Type 0
      Answered x t = (m.account t ≡ x.account) × SameItems (m.owns t) (flat_map m.owned x.result) × m.denotes w d (ofs m back (item_data m x.result)) t

      answered : Follows m.account answering (m.does w p (m.code d) s0) Answered
      answered =
          called.row lifted.vals w p others s0 lifted.state (stand_count m sound types ts (all_settled ts us) lifted.vals lifted.own lifted.stands ∙ sym takes.many)
          (record { serves = serves_d; done = lifted.done; holds = lifted.after.denotes }) lifted_owns

      same_crossing : crossing ≡ m.crosses w a fn.now
      same_crossing = takes.adds.grows.crosses w fn.now

      as_they_are : crossing.passes lifted.vals ≡ Some lifted.vals
      as_they_are = ap (λ x. x.passes lifted.vals) same_crossing ∙ crossed us lifted.vals lifted.own is.listed lifted.stands

      passed : PassesItems m (m.target a fn.now) ts us blocks (m.account s) call
      passed = record {
        aimed = takes.adds.grows.target fn.now;
        words = refl;
        own = lifted.own;
        stands = lifted.stands;
        formed = ap (λ acc. is_heap acc.heap) lifted.after.account ∙ lifted.formed;
        kept = λ g. ap (λ acc. total g (acc.heap.blocks ++ blocks)) lifted.after.account ∙ lifted.kept g;
      }

      made : (account_in m.account (m.does w p (m.code z) s0)).calls ≡ (m.account s).calls ++ call ∷ []
      made =
          later_quiet w p s0 is.at.serves
          ∙ follows_calls m.account answering (m.does w p (m.code d) s0) Answered answered (λ x t h. h.0)
          ∙ handing_calls m.owned crossing (m.target c fn.now) lifted.vals (result_count fn.now) p.reply (m.account lifted.state) as_they_are
          ∙ ap (λ acc. acc.calls ++ call ∷ []) lifted.after.account

      -- what came in of an answer
      back_in : (v : Result r) (honest : IsHonestMethod m w a fn.now r v p.reply) → Came m r crossing.receives v honest.item honest.own
      back_in v honest = record { vals = honest.vals; came = ap (λ k. coming k.receives honest.item) same_crossing ∙ honest.comes; stands = honest.stands }

      -- the account when the method has answered
      abbrev answered_account : (v : Result r) → IsHonestMethod m w a fn.now r v p.reply → Account m.Item
      answered_account v honest = handed_on call honest.heap (flat_map m.owned (back_in v honest).vals) (m.account s)

      record Answering (v : Result r) (honest : IsHonestMethod m w a fn.now r v p.reply) : Type 0 where
        pub state : m.State
        pub done : m.does w p (m.code d) s0 ≡ Done state
        pub account : m.account state ≡ answered_account v honest
        pub owns : SameItems (m.owns state) (flat_map m.owned (back_in v honest).vals)
        pub denotes : m.denotes w d (ofs m back (item_data m (back_in v honest).vals)) state

      answered_so : (v : Result r) (honest : IsHonestMethod m w a fn.now r v p.reply) → Answering v honest
      answered_so v honest =
          let vals = option_to_list honest.item in
          let in_vals = (back_in v honest).vals in
          let due : nat_eq (length vals) (result_count fn.now) ≡ true = eq-eqb (length vals) (result_count fn.now) (came_many m (m.crosses w a fn.now).receives honest.item honest.vals honest.comes ∙ answer_count r v honest.vals honest.own honest.stands ∙ count_mapped _ fn.now.result) in
          let live = live_owners (flat_map m.owned in_vals) honest.heap honest.own honest.others honest.formed honest.live (owned_answer r v in_vals honest.own (back_in v honest).stands) in
          let got : Got m.Item (List m.Item) = record { result = in_vals; account = after_answer m.owned call honest.heap in_vals (m.account lifted.state) } in
          let two = follows_done m.account answering (m.does w p (m.code d) s0) Answered got
          (handing_done m.owned crossing (m.target c fn.now) lifted.vals (result_count fn.now) p.reply (m.account lifted.state) honest.item honest.heap in_vals as_they_are honest.answers due (back_in v honest).came live) answered in
          record { state = two.0; done = two.1; account = two.2.0 ∙ ap (handed_on call honest.heap (flat_map m.owned in_vals)) lifted.after.account; owns = two.2.1; denotes = two.2.2 }

      -- a result that passes as a word
      gives_word : is_indirect r ≡ false → (v : Result r) → (honest : IsHonestMethod m w a fn.now r v p.reply) → EndsWithWords m w p r v honest.own honest.heap given z s0 (answered_account v honest)
      gives_word one v honest =
          let vals = (back_in v honest).vals in
          let stands = (back_in v honest).stands in
          let two = answered_so v honest in
          let at3 : At m w p d e (ofs m back (item_data m vals)) s0 two.state = record { serves = serves_e; done = two.done; holds = two.denotes } in
          let low = answer_lowered r back given d e (lowers_direct r back given d e one lowers) one v vals honest.own honest.good stands w p s0 two.state (ap (λ (acc : Account m.Item). is_heap acc.heap) two.account ∙ honest.formed) (ap (λ acc. acc.taken) two.account) at3 in
          let out = ofs m given (core_data m low.ws) in
          let at4 : At m w p e z (out ++ []) s0 low.state = record { serves = is.at.serves; done = low.done; holds = subst (λ fs. m.denotes w e fs low.state) (sym (append-nil out)) low.denotes } in
          let end = ended.row (core_data m low.ws) w p [] s0 low.state at4 in
          let after = end.2.2 in
          subst (λ q. Follows m.account (placing_result q (m.area w) (answered_account v honest)) (m.does w p (m.code z) s0) (λ x t. GivesWords m w r v honest.own honest.heap given z x t)) (sym one) (
            end.0,
            end.1,
            record {
              ws = low.ws;
              area = [];
              placed = subst (λ ts. AreaStands ts (m.area w) None []) (sym (no_result_record r one)) refl;
              represents = low.represents;
              heap = honest.heap;
              formed = honest.formed;
              all = λ g. ap (total g) (sym (append-nil honest.heap.blocks));
              account = after.account ∙ low.account ∙ ap (λ (acc : Account m.Item). record acc { taken = [] }) two.account;
              owns = λ g. omega (
                arith,
                after.owns g,
                low.owns g,
                two.owns g,
                owned_answer r v vals honest.own stands g,
                total-append g (m.owns end.0) [],
                total-append g (m.owns low.state) [],
                total-append g (m.owns low.state) (addresses honest.own),
              );
              denotes = subst (λ fs. m.denotes w z fs end.0) (ap (λ fs. fs ++ []) end.2.1 ∙ append-nil out) after.denotes;
            },
          )

      -- and one that passes by the area
      gives_record : is_indirect r ≡ true → (v : Result r) → (honest : IsHonestMethod m w a fn.now r v p.reply) → EndsWithWords m w p r v honest.own honest.heap given z s0 (answered_account v honest)
      gives_record many v honest =
          let vals = (back_in v honest).vals in
          let stands = (back_in v honest).stands in
          let two = answered_so v honest in
          let unasked : m.asked d ≡ [] = called.asked ∙ takes.adds.asked ∙ is.unasked in
          let ends = ends_by_area types r back given d e z n empty ended many lowers v vals honest.own honest.good stands w p s0 two.state is.at.serves two.done (ap (λ acc. is_heap acc.heap) two.account ∙ honest.formed) (ap (λ acc. acc.taken) two.account) two.owns is.unplaced (called.adds.exports ∙ takes.adds.grows.exports ∙ export) unasked two.denotes in
          subst (λ acc. EndsWithWords m w p r v honest.own acc.heap given z s0 acc) two.account ends

      gives_words : (v : Result r) → (honest : IsHonestMethod m w a fn.now r v p.reply) → HandsBack m w p r v honest.own honest.heap call given z s0 s
      gives_words v honest = record { owners = flat_map m.owned (back_in v honest).vals; same = owned_answer r v (back_in v honest).vals honest.own (back_in v honest).stands; ends = by (is_indirect r) refl }
        where
          by : (c : Bool) → is_indirect r ≡ c → EndsWithWords m w p r v honest.own honest.heap given z s0 (answered_account v honest)
          by false one = gives_word one v honest
          by true many = gives_record many v honest

    pub calls_export : CallsExport m fn.now ts r a z
    calls_export = record {
      serves = λ w h. takes.adds.grows.serves w (called.adds.serves w (later_grows.serves w h));
      more = λ w h.
          let first = takes.adds.grows.more w h in
          let second = called.adds.more first.0 first.1 in
          later_grows.more second.0 second.1;
      records = on.records;
      for = on.for;
      asked = ended.adds.asked ∙ on.asked ∙ ap (λ xs. xs ++ on.records) (called.asked ∙ takes.adds.asked);
      blocks = ended.adds.blocks ∙ on.blocks ∙ called.blocks ∙ takes.adds.blocks;
      row = λ w p us ws blocks others s0 s crossed is. record {
        call = call w p us ws blocks others s0 s crossed is;
        passes = passed w p us ws blocks others s0 s crossed is;
        made = made w p us ws blocks others s0 s crossed is;
        os = given;
        returned = ended.returned;
        gives = gives_words w p us ws blocks others s0 s crossed is;
      };
    }
