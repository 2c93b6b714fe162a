-- The return area of an import: arguments that are lent as words or stored in it, and an operand that denotes its address.
use Rattle.std.proofs.Common.{◌≡◌, ◌≤◌, ℕ, ◌%◌, ◌^◌, Bool, true, false, if◌then◌else◌, MatchBool, List, [], ◌∷◌, ◌++◌, length, Option, None, Some, refl, sym, ap, ◌∙◌, subst, arith, append-nil}
use Rattle.std.specs.List.{AllByRecursion}
use Rattle.wit_model.specs.Size.{alignment_at, bytes_at}
use Rattle.wit_layout.specs.Extent.{greatest, end}
use Rattle.wit_layout.specs.Sizes.{alignment, elem_size, extents_of}
use Rattle.wrapper_data.specs.declared.block.Block.{Block}
use Rattle.wrapper_data.specs.declared.choice.Request.{Request}
use Rattle.wrapper_data.specs.declared.word.Word.{Word}
use Rattle.wrapper_data.specs.declared.word.Word.TheVariants as core
use Rattle.wrapper_meaning.specs.Areas.{parameter_record, result_record}
use Rattle.wrapper_meaning.specs.AsWords.{PartsSay}
use Rattle.wrapper_meaning.specs.Direction.{lend}
use Rattle.wrapper_meaning.specs.Honest.{result_size}
use Rattle.wrapper_meaning.specs.Items.{SameItems}
use Rattle.wrapper_meaning.specs.Layout.{layout, layouts}
use Rattle.wrapper_meaning.specs.Represents.{LendsRecord, are_indirect, is_indirect, param_words}
use Rattle.wrapper_meaning.specs.Shape.{Shape, Shapes}
use Rattle.wrapper_meaning.specs.Shape.Shape.{fields}
use Rattle.wrapper_meaning.specs.Value.{Parts}
use Rattle.abi_bindgen.specs.declared.bindgen.Asked.{Asked}
use Rattle.abi_bindgen.specs.Account.{Account, Done, Got, Peer}
use Rattle.abi_bindgen.specs.Area.{AreFor, AreaStands, HoldsRecord, NeedsArea, SameArea, newly, pointing}
use Rattle.abi_bindgen.specs.Frees.{nowhere}
use Rattle.abi_driver.specs.Imports.{AreGiven, Lent, PassesArguments, PassesRecord, Points, PointsAtResult}
use Rattle.abi_bindgen.specs.Laws.{After, At, Facts, Grows, Quiet, Sound, args, core_data, item_data, ofs}
use Rattle.abi_bindgen.specs.Lowers.{LowersArguments}
use Rattle.abi_bindgen.specs.Meaning.{Meaning, of, word}
use Rattle.abi_bindgen.specs.Places.{HavePlaces, replaced}
use Rattle.abi_bindgen.specs.Touches.{reached}
use Rattle.abi_driver.proofs.AreaHeaps.{contains_last, replaced_items}
use Rattle.abi_driver.proofs.LiftSteps.{follows_done}
use Rattle.abi_driver.proofs.RecordPlaces.{align_at_width, at_width}
use Rattle.abi_driver.proofs.Replaced.{replaced_formed}
use Rattle.abi_bindgen.proofs.Runs.{grows_both, grows_same, quiet_both}
use Rattle.wrapper_meaning.proofs.PostReturn.{total-append}
use Rattle.wit_layout.proofs.RecordSteps.{record_behind}
use Rattle.abi_bindgen.specs.Lowering.{said}
use Rattle.abi_bindgen.proofs.LoweredPlainly.{passed_plainly}
use Rattle.wrapper_meaning.specs.Requests.{block_for, part_requests}
use Rattle.wrapper_meaning.proofs.MadeIsLent.{holds_lent, made_is_lent}
use Rattle.wrapper_meaning.specs.Buffer.{Contents}
use Rattle.wrapper_meaning.specs.InMemory.{PartsHold}
use Rattle.abi_driver.proofs.PutSteps.{done_plainly}
use Rattle.std.specs.Prelude.{◌+◌, ◌-◌}

abbrev no_words : List Word
no_words = []

-- 1. The block of the area

pub same_area : (area : List Block) → SameArea area area
same_area [] = tt
same_area (b ∷ area) = (refl, refl, same_area area)

-- the last record for which it was asked has room
pub last_room : {A : Type 0} (P : A → Type 0) (xs : List A) (x : A) → AllByRecursion P (xs ++ x ∷ []) → P x
last_room P [] x h = h.0
last_room P (y ∷ xs) x h = last_room P xs x h.1

-- a block at the area's address, with room for a record
pub record AreaBlock (w : ℕ) (a : Asked) (at : Option ℕ) (blocks : List Block) : Type 0 where
  pub block : Block
  pub is : blocks ≡ block ∷ []
  pub address : at ≡ Some block.address
  pub room : bytes_at a.size (2 ^ w) ≤ block.size
  pub aligned : block.address % alignment_at a.align (2 ^ w) ≡ 0

area_block : (w : ℕ) (area : Option Request) (a : Asked) (at : Option ℕ) (blocks : List Block) → NeedsArea true area at blocks → HoldsRecord w area a → AreaBlock w a at blocks
area_block w None a at blocks needs h = absurd needs
area_block w (Some area) a at blocks needs h = record {
  block = needs.block;
  is = needs.is;
  address = needs.address;
  room = let size = h.size in let exact = needs.exact in omega (arith, size, exact);
  aligned = h.aligned needs.block.address needs.aligned;
}

-- what stands for all records, stands for those of the parameters, and for that of the result
by_parameters : (c : Bool) (t : Shape) (ts : List Shape) (area : Option Request) (at : Option ℕ) (blocks : List Block) → AreaStands ((if c then t ∷ [] else []) ++ ts) area at blocks → NeedsArea c area at blocks
by_parameters true t ts area at blocks h = h
by_parameters false t ts area at blocks h = tt

pub needs_for_parameters : (ts : Shapes) (rs : List Shape) (area : Option Request) (at : Option ℕ) (blocks : List Block) → AreaStands (parameter_record ts ++ rs) area at blocks → NeedsArea (are_indirect ts) area at blocks
needs_for_parameters ts rs area at blocks h = by_parameters (are_indirect ts) (fields ts) rs area at blocks h

by_result : (c : Bool) (t : Shape) (ts : List Shape) (area : Option Request) (at : Option ℕ) (blocks : List Block) → AreaStands (ts ++ (if c then t ∷ [] else [])) area at blocks → NeedsArea c area at blocks
by_result true t [] area at blocks h = h
by_result true t (x ∷ ts) area at blocks h = h
by_result false t ts area at blocks h = tt

pub needs_for_result : (ts : List Shape) (r : Option Shape) (area : Option Request) (at : Option ℕ) (blocks : List Block) → AreaStands (ts ++ result_record r) area at blocks → NeedsArea (is_indirect r) area at blocks
needs_for_result ts None area at blocks h = tt
needs_for_result ts (Some t) area at blocks h = by_result (is_indirect (Some t)) t ts area at blocks h

module _ {Self Operand : Type 0} (m : Meaning Self Operand) where
  -- an operand denotes the address of the area's block, which has room for a value
  pub record Pointed (t : Shape) (o : Operand) (area : List Block) (new : Self) (w : m.World) (p : Peer m.Item) (others : Facts m) (s0 s : m.State) : Type 0 where
    pub block : Block
    pub is : area ≡ block ∷ []
    pub room : elem_size m.width (layout t) ≤ block.size
    pub aligned : block.address % alignment m.width (layout t) ≡ 0
    pub state : m.State
    pub done : m.does w p (m.code new) s0 ≡ Done state
    pub account : m.account state ≡ m.account s
    pub owns : SameItems (m.owns state) (m.owns s)
    pub denotes : m.denotes w new (of o (word (core.Pointer block.address)) ∷ others) state

  -- none, or one that names the area, which has room for the result
  abbrev pub Names : Option Shape → (given written : List Block) → List Word → Type 0
  Names r given written ps =
      MatchBool (is_indirect r) ((c : Block) × (written ≡ c ∷ []) × (ps ≡ core.Pointer c.address ∷ []) × (result_size m.width r ≤ c.size)) (ps ≡ [])

  pub record ResultPointed (r : Option Shape) (os : List Operand) (given written : List Block) (new : Self) (w : m.World) (p : Peer m.Item) (others : Facts m) (s0 s : m.State) : Type 0 where
    pub ps : List Word
    pub names : Names r given written ps
    pub fits : length ps ≡ length os
    pub state : m.State
    pub done : m.does w p (m.code new) s0 ≡ Done state
    pub account : m.account state ≡ m.account s
    pub owns : SameItems (m.owns state) (m.owns s)
    pub denotes : m.denotes w new (ofs m os (core_data m ps) ++ (ofs m os (core_data m ps) ++ others)) state

module _ {Self Operand : Type 0} (m : Meaning Self Operand) (sound : Sound m) where
  -- 2. An operand that denotes its address

  some_is_not_none : (n : ℕ) (at : Option ℕ) → at ≡ Some n → at ≡ None → ⊥
  some_is_not_none n at e h = let g : Some n ≡ None = sym e ∙ h in absurd (let k = g in cc)

  pub pointed : (t : Shape) (o : Operand) (a b : Self) → Points m t o a b → (area : List Block) (w : m.World) (p : Peer m.Item) (others : Facts m) (s0 s : m.State) → NeedsArea true (m.area w) (m.area_at s0) area → At m w p a b others s0 s
      → Pointed m t o area b w p others s0 s
  pointed t o a b points area w p others s0 s needs at =
      let asked = points.0 in
      let pt = points.2 in
      let rooms = subst (AllByRecursion (HoldsRecord m.width (m.area w))) pt.asked (sound.room w b at.serves) in
      let blk = area_block m.width (m.area w) asked (m.area_at s0) area needs (last_room (HoldsRecord m.width (m.area w)) (m.asked a) asked rooms) in
      let q = blk.block.address in
      let P : Got m.Item ℕ → m.State → Type 0 = λ x t. After m w b (of o (word (core.Pointer x.result)) ∷ others) (newly (Some q) x.result) [] s x t in
      let got : Got m.Item ℕ = record { result = q; account = m.account s } in
      let one = follows_done m.account (pointing (m.area w) (Some q) (m.account s)) (m.does w p (m.code b) s0) P got refl (pt.row w p others s0 s (Some q) at blk.address (λ e. absurd (some_is_not_none q (Some q) refl e))) in
      let after = one.2 in
      let size = at_width m.width asked.size (λ w. elem_size w (layout t)) sound.wide points.1.0 in
      let grain = align_at_width m.width asked.align (λ w. alignment w (layout t)) sound.wide points.1.1 in
      record {
        block = blk.block;
        is = blk.is;
        room = let room = blk.room in omega (arith, room, size);
        aligned = subst (λ n. q % n ≡ 0) grain blk.aligned;
        state = one.0;
        done = one.1;
        account = after.account;
        owns = λ g. omega (arith, after.owns g, total-append g (m.owns one.0) [], total-append g (m.owns s) []);
        denotes = after.denotes;
      }

  -- 3. Arguments

  -- as words, where they are few
  pub passes_words : (ts : Shapes) (os : List Operand) (a b : Self) → are_indirect ts ≡ false → LowersArguments m false ts 0 os a b → PassesArguments m ts os a b
  passes_words ts os a b few lowers = record {
    grows = lowers.adds.grows;
    quiet = lowers.adds.quiet;
    records = [];
    for = subst (λ c. AreFor (if c then fields ts ∷ [] else []) []) (sym few) tt;
    asked = lowers.adds.asked ∙ sym (append-nil (m.asked a));
    blocks = lowers.adds.blocks;
    fits = subst (λ c. MatchBool c (length os ≡ 1) (length os ≡ length (param_words ts))) (sym few) lowers.fits;
    row = λ w p vs vals given area others s0 s g needs at.
        let ran = passed_plainly m false (PartsSay m.width (said false given) ts vs) (args m 0 (item_data m vals)) [] (part_requests m.width block_for ts vs) os a b (lowers.asks_nothing vs) (lowers.row given vs vals [] g.listed g.stand) w p others s0 s (m.account s).taken at g.formed refl in
        let lent : PartsSay m.width (lend given) ts vs ran.ws [] = made_is_lent m.width given given ts vs ran.ws [] (λ b there. there) tt ran.says in
        record {
          ws = ran.ws;
          written = area;
          same = same_area area;
          fits = ran.fits;
          lends = subst (λ c. MatchBool c (LendsRecord m.width given area ts vs ran.ws) (PartsSay m.width (lend given) ts vs ran.ws [])) (sym few) lent;
          heap = (m.account s).heap;
          formed = g.formed;
          all = g.all;
          state = ran.state;
          done = ran.done;
          after = ran.after;
        };
  }

  -- the record of the parameters is stored in the area, and its address is denoted twice before
  record_lent : (ts : Shapes) (o : Operand) (a b : Self) → are_indirect ts ≡ true → PassesRecord m ts o a b
      → (w : m.World) (p : Peer m.Item) (vs : Parts ts) (vals : List m.Item) (given area : List Block) (others : Facts m) (s0 s : m.State) → AreGiven m ts vs vals given area s
      → NeedsArea (are_indirect ts) (m.area w) (m.area_at s0) area → At m w p a b (args m 0 (item_data m vals) ++ others) s0 s → Lent m w p ts vs given area (o ∷ []) b others s0 s
  record_lent ts o a b many h w p vs vals given area others s0 s g needs at =
      let arguments : Facts m = args m 0 (item_data m vals) in
      let at0 : At m w p a h.middle (arguments ++ others) s0 s = record { serves = h.stores.adds.grows.serves w at.serves; done = at.done; holds = at.holds } in
      let one = pointed (fields ts) o a h.middle h.points area w p (arguments ++ others) s0 s (subst (λ c. NeedsArea c (m.area w) (m.area_at s0) area) many needs) at0 in
      let blk = one.block in
      let q = blk.address in
      let pointer : Facts m = of o (word (core.Pointer q)) ∷ [] in
      let twice : m.denotes w h.middle ((pointer ++ pointer) ++ (arguments ++ others)) one.state = sound.again w h.middle o (core.Pointer q) (arguments ++ others) one.state one.denotes in
      let at1 : At m w p h.middle b (arguments ++ of o (word (core.Pointer q)) ∷ (pointer ++ others)) s0 one.state =
      record { serves = at.serves; done = one.done; holds = sound.swap w h.middle (pointer ++ pointer) arguments others one.state twice } in
      let all0 : SameItems (m.account s).heap.blocks (given ++ blk ∷ []) = subst (λ bs. SameItems (m.account s).heap.blocks (given ++ bs)) one.is g.all in
      let there = contains_last given blk (m.account s).heap.blocks all0 in
      let es = extents_of m.width (layouts ts) in
      let fit = one.room in
      let places : HavePlaces m.width ts 0 (reached m q nowhere) blk 0 (m.account s).heap = record {
        formed = g.formed;
        there = there;
        starts = omega arith;
        fits = omega (arith, fit, record_behind es);
        aligned = subst (λ n. n % 2 ^ (greatest es).grain ≡ 0) (let start : q ≡ reached m q nowhere = omega arith in start) one.aligned;
      } in
      let places1 = subst (λ (z : Account m.Item). HavePlaces m.width ts 0 (reached m q nowhere) blk 0 z.heap) (sym one.account) places in
      let Held : Contents = PartsHold m.width (said false given) ts vs 0 in
      let two = done_plainly m false Held (0 + 0) (end (extents_of m.width (layouts ts)) 0 - 0) blk 0 [] (m.account one.state).taken b w p (pointer ++ others) s0 one.state (part_requests m.width block_for ts vs) (h.stores.asks_nothing vs)
      (h.stores.row given vs vals [] g.listed g.stand w p (pointer ++ others) s0 one.state q 0 blk (m.account one.state).taken at1 places1 refl) in
      let put = two.3 in
      let end = two.4 in
      let now = two.1 in
      record {
        ws = core.Pointer q ∷ [];
        written = now ∷ [];
        same = subst (λ bs. SameArea bs (now ∷ [])) (sym one.is) (put.written.same_address, put.written.same_size, tt);
        fits = refl;
        lends = subst (λ c. MatchBool c (LendsRecord m.width given (now ∷ []) ts vs (core.Pointer q ∷ [])) (PartsSay m.width (lend given) ts vs (core.Pointer q ∷ []) [])) (sym many) (record {
          block = now;
          is_area = refl;
          named = ap (λ n. core.Pointer n ∷ []) (sym put.written.same_address);
          stands = record {
            aligned = subst (λ n. n % alignment m.width (layout (fields ts)) ≡ 0) (sym put.written.same_address) one.aligned;
            room = omega (arith, fit, put.written.same_size);
            holds = holds_lent given given (λ b there. there) m.width (fields ts) vs now 0 [] put.holds tt;
          };
        });
        heap = record { blocks = replaced now (m.account s).heap.blocks };
        formed = (replaced_formed (m.account s).heap.blocks blk now 0 _ g.formed there put.written).0;
        all = replaced_items given blk now (m.account s).heap.blocks g.formed put.written.same_address all0;
        state = two.0;
        done = two.2;
        after = record {
          account = end.account ∙ ap (λ (z : Account m.Item). record z { heap = record { blocks = replaced now z.heap.blocks } }) one.account;
          owns = λ g. omega (arith, one.owns g, end.owns g, total-append g (m.owns two.0) [], total-append g (m.owns one.state) [], total-append g (m.owns s) []);
          denotes = end.denotes;
        };
      }

  pub passes_record : (ts : Shapes) (o : Operand) (a b : Self) → are_indirect ts ≡ true → PassesRecord m ts o a b → PassesArguments m ts (o ∷ []) a b
  passes_record ts o a b many h = record {
    grows = grows_both m a h.middle b h.points.2.grows h.stores.adds.grows h.stores.adds.quiet;
    quiet = quiet_both m a h.middle b h.points.2.quiet h.stores.adds.grows h.stores.adds.quiet;
    records = h.points.0 ∷ [];
    for = subst (λ c. AreFor (if c then fields ts ∷ [] else []) (h.points.0 ∷ [])) (sym many) h.points.1;
    asked = h.stores.adds.asked ∙ h.points.2.asked;
    blocks = h.stores.adds.blocks ∙ h.points.2.blocks;
    fits = subst (λ c. MatchBool c (length (o ∷ []) ≡ 1) (length (o ∷ []) ≡ length (param_words ts))) (sym many) refl;
    row = λ w p vs vals given area others s0 s g needs at. record_lent ts o a b many h w p vs vals given area others s0 s g needs at;
  }

  -- 4. The pointer of a result

  pub points_grows : (r : Option Shape) (os : List Operand) (a b : Self) → PointsAtResult m r os a b → Grows m a b × Quiet m a b
  points_grows r os a b h = by (is_indirect r) h
    where
      by : (c : Bool) → MatchBool c ((o : Operand) × (t : Shape) × (r ≡ Some t) × (os ≡ o ∷ []) × Points m t o a b) ((os ≡ []) × (b ≡ a)) → Grows m a b × Quiet m a b
      by true h = (h.4.2.grows, h.4.2.quiet)
      by false h = subst (λ x. Grows m a x × Quiet m a x) (sym h.1) (grows_same m a, λ w f s v. refl)

  pub points_blocks : (r : Option Shape) (os : List Operand) (a b : Self) → PointsAtResult m r os a b → m.blocks b ≡ m.blocks a
  points_blocks r os a b h = by (is_indirect r) h
    where
      by : (c : Bool) → MatchBool c ((o : Operand) × (t : Shape) × (r ≡ Some t) × (os ≡ o ∷ []) × Points m t o a b) ((os ≡ []) × (b ≡ a)) → m.blocks b ≡ m.blocks a
      by true h = h.4.2.blocks
      by false h = ap m.blocks h.1

  -- the area as it was written has the same block
  one_written : (area written : List Block) (b : Block) → area ≡ b ∷ [] → SameArea area written → (c : Block) × (written ≡ c ∷ []) × (c.address ≡ b.address) × (c.size ≡ b.size)
  one_written area written b is same = by written (subst (λ bs. SameArea bs written) is same)
    where
      by : (ws : List Block) → SameArea (b ∷ []) ws → (c : Block) × (ws ≡ c ∷ []) × (c.address ≡ b.address) × (c.size ≡ b.size)
      by [] h = absurd h
      by (c ∷ []) h = (c, refl, h.0, h.1)
      by (c ∷ d ∷ ws) h = absurd h.2

  pub result_pointed : (r : Option Shape) (os : List Operand) (a b : Self) → PointsAtResult m r os a b → (given area written : List Block) → SameArea area written → (w : m.World) (p : Peer m.Item) (others : Facts m) (s0 s : m.State)
      → NeedsArea (is_indirect r) (m.area w) (m.area_at s0) area → At m w p a b others s0 s → ResultPointed m r os given written b w p others s0 s
  result_pointed r os a b h given area written same w p others s0 s needs at = by (is_indirect r) refl h
    where
      by : (c : Bool) → is_indirect r ≡ c → MatchBool c ((o : Operand) × (t : Shape) × (r ≡ Some t) × (os ≡ o ∷ []) × Points m t o a b) ((os ≡ []) × (b ≡ a)) → ResultPointed m r os given written b w p others s0 s
      by false e h =
          let here : m.denotes w b others s = subst (λ x. m.denotes w x others s) (sym h.1) at.holds in
          record {
            ps = [];
            names = subst (λ c. MatchBool c ((c : Block) × (written ≡ c ∷ []) × ([] ≡ core.Pointer c.address ∷ []) × (result_size m.width r ≤ c.size)) (no_words ≡ [])) (sym e) refl;
            fits = sym (ap length h.0);
            state = s;
            done = ap (λ x. m.does w p (m.code x) s0) h.1 ∙ at.done;
            account = refl;
            owns = λ g. refl;
            denotes = subst (λ xs. m.denotes w b (ofs m xs [] ++ (ofs m xs [] ++ others)) s) (sym h.0) here;
          }
      by true e h =
          let o = h.0 in
          let t = h.1 in
          let one = pointed t o a b h.4 area w p others s0 s (subst (λ c. NeedsArea c (m.area w) (m.area_at s0) area) e needs) at in
          let c = one_written area written one.block one.is same in
          let q = one.block.address in
          let twice = sound.again w b o (core.Pointer q) others one.state one.denotes in
          let room = one.room in
          let size : result_size m.width r ≡ elem_size m.width (layout t) = ap (result_size m.width) h.2 in
          record {
            ps = core.Pointer q ∷ [];
            names = subst (λ d. MatchBool d ((c : Block) × (written ≡ c ∷ []) × (core.Pointer q ∷ [] ≡ core.Pointer c.address ∷ []) × (result_size m.width r ≤ c.size)) (core.Pointer q ∷ [] ≡ [])) (sym e)
                (c.0, c.1, ap (λ n. core.Pointer n ∷ []) (sym c.2), omega (arith, room, size, c.3));
            fits = sym (ap length h.3);
            state = one.state;
            done = one.done;
            account = one.account;
            owns = one.owns;
            denotes = subst (λ xs. m.denotes w b (ofs m xs (core_data m (core.Pointer q ∷ [])) ++ (ofs m xs (core_data m (core.Pointer q ∷ [])) ++ others)) one.state) (sym h.3) twice;
          }
