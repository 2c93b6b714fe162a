-- The arguments of an export: words that are lifted, or a record that is loaded and then freed.
use Rattle.std.proofs.Common.{◌≡◌, ◌⊎◌, ◌<◌, ℕ, zero, suc, ◌+◌, ◌-◌, ◌%◌, ◌^◌, ◌||◌, Bool, true, false, nat_eq, nat_lt, if◌then◌else◌, MatchBool, List, [], ◌∷◌, ◌++◌, length, find, None, Some, Contains, refl, sym, ap, ◌∙◌, subst, arith, append-nil}
use mathlib.Core.Logic.{inl, inr}
use Rattle.std.proofs.lemmas.Bool.{cond-false, eqb-true, le-ltb, or_from, or_left, or_parts, true≢false}
use Rattle.std.proofs.lemmas.List.{length-map}
use Rattle.std.proofs.lemmas.List.Folds.{list_any-append}
use Rattle.wit_model.specs.Size.{bytes_at}
use Rattle.wit_model.specs.declared.size.ArchitectureSize.{ArchitectureSize}
use Rattle.wit_model.specs.declared.types.TypeDef.{TypeDef}
use Rattle.wit_layout.specs.Extent.{greatest}
use Rattle.wit_layout.specs.Sizes.{elem_size, extents_of}
use Rattle.wit_layout.specs.Told.{IsPairOf}
use Rattle.wrapper_data.specs.Heap.{is_heap}
use Rattle.wrapper_data.specs.declared.block.Block.{Block}
use Rattle.wrapper_data.specs.declared.form.Form.{Form}
use Rattle.wrapper_data.specs.declared.run.TrapKind.TheVariants as trap
use Rattle.wrapper_data.specs.declared.word.Word.TheVariants as core
use Rattle.wrapper_meaning.specs.AsWords.{PartsSay}
use Rattle.wrapper_meaning.specs.Direction.{take}
use Rattle.wrapper_meaning.specs.InRange.{AreListed}
use Rattle.wrapper_meaning.specs.Items.{SameItems, total}
use Rattle.wrapper_meaning.specs.Layout.{layout, layouts}
use Rattle.wrapper_meaning.specs.Represents.{Begins, TakesRecord, are_indirect}
use Rattle.wrapper_meaning.specs.Settled.{all_settled}
use Rattle.wrapper_meaning.specs.Shape.{Shapes}
use Rattle.wrapper_meaning.specs.Shape.Shape.{fields}
use Rattle.wrapper_meaning.specs.Value.{Parts}
use Rattle.wrapper_meaning.proofs.Lists.{some_same}
use Rattle.abi_bindgen.specs.Account.{Account, Done, Got, Outcome, Peer, addresses, failing, is_at, is_taken, stay}
use Rattle.abi_driver.specs.Exports.{TakesArgumentsOver, TakesRecordOver, TookOver}
use Rattle.abi_bindgen.specs.Frees.{nowhere, MayFree}
use Rattle.abi_bindgen.specs.Laws.{Adds, At, Facts, Sound, args, core_data, item_data, ofs}
use Rattle.abi_bindgen.specs.Lifts.{AreFree, LiftsArguments, MayTake, took}
use Rattle.abi_bindgen.specs.Meaning.{Meaning, arg, item, of, word}
use Rattle.abi_bindgen.specs.Memory.{except, freed, freeing}
use Rattle.abi_bindgen.specs.Parts.{PartsStand}
use Rattle.abi_bindgen.specs.Places.{HavePlaces}
use Rattle.abi_bindgen.specs.Touches.{reached}
use Rattle.abi_bindgen.proofs.Done.{does_done}
use Rattle.abi_bindgen.proofs.Taken.{last_taken}
use Rattle.abi_driver.proofs.Freeing.{without_formed}
use Rattle.abi_driver.proofs.LiftSteps.{stand_count}
use Rattle.abi_driver.proofs.RecordPlaces.{at_width}
use Rattle.abi_driver.proofs.Replaced.{IsSized, is_sized, split}
use Rattle.abi_bindgen.proofs.Runs.{adds_both}
use Rattle.abi_driver.proofs.Storing.{find_block}
use Rattle.wrapper_meaning.proofs.PostReturn.{total-append}
use Rattle.wit_layout.proofs.RecordSteps.{record_behind}
use Rattle.abi_driver.proofs.TakeSteps.{got_plainly}
use Rattle.wrapper_meaning.specs.Requests.{part_requests, room_for}
use Rattle.abi_driver.proofs.LiftedHeaps.{may_inner}

-- 1. Blocks that nobody owns

taken_both : (a : ℕ) (xs ys : List ℕ) → is_taken a (xs ++ ys) ≡ (is_taken a xs || is_taken a ys)
taken_both a xs ys = list_any-append (λ t. nat_eq t a) xs ys

-- what is free where more is taken, is free where less is
free_where_less : (own : List Block) (more less : List ℕ) → ((a : ℕ) → is_taken a more ≡ false → is_taken a less ≡ false) → AreFree own more → AreFree own less
free_where_less [] more less h free = tt
free_where_less (b ∷ own) more less h free = (
  h b.address free.0,
  free_where_less own (more ++ b.address ∷ []) (less ++ b.address ∷ []) (λ a e.
      let parts = or_parts (is_taken a more) (is_taken a (b.address ∷ [])) (sym (taken_both a more (b.address ∷ [])) ∙ e) in
      taken_both a less (b.address ∷ []) ∙ or_from (is_taken a less) (is_taken a (b.address ∷ [])) (h a parts.0) parts.1) free.1,
)

-- an address that is taken is none of theirs
not_among : (a : ℕ) (own : List Block) (taken : List ℕ) → is_taken a taken ≡ true → AreFree own taken → is_taken a (addresses own) ≡ false
not_among a [] taken here free = refl
not_among a (b ∷ own) taken here free =
    let still : is_taken a (taken ++ b.address ∷ []) ≡ true = taken_both a taken (b.address ∷ []) ∙ or_left (is_taken a taken) (is_taken a (b.address ∷ [])) here in
    or_from (nat_eq b.address a) (is_taken a (addresses own)) (by (nat_eq b.address a) refl) (not_among a own (taken ++ b.address ∷ []) still free.1)
  where
    by : (t : Bool) → nat_eq b.address a ≡ t → t ≡ false
    by false e = refl
    by true e = absurd (true≢false (sym here ∙ ap (λ n. is_taken n taken) (sym (eqb-true b.address a e)) ∙ free.0))

-- 2. A block that is freed

except_items : (passes : Block → Bool) (blocks : List Block) (b : Block) → find passes blocks ≡ Some b → (g : Block → ℕ) → total g blocks ≡ g b + total g (except passes blocks)
except_items passes [] b e g = absurd (let h = e in cc)
except_items passes (x ∷ blocks) b e g = by (passes x) e (λ f. except_items passes blocks b f g)
  where
    by : (t : Bool) → (if t then Some x else find passes blocks) ≡ Some b → (find passes blocks ≡ Some b → total g blocks ≡ g b + total g (except passes blocks)) → g x + total g blocks ≡ g b + total g (if t then blocks else x ∷ except passes blocks)
    by true h rest = ap (λ y. g y + total g blocks) (some_same x b h)
    by false h rest = omega (arith, rest h)

one_less : (g : Block → ℕ) (b : Block) (before now own blocks : List Block) → total g before ≡ g b + total g now → blocks ≡ b ∷ own → total g (now ++ blocks) ≡ total g (before ++ own)
one_less g b before now own blocks lost all = total-append g now blocks ∙ ap (λ bs. total g now + total g bs) all ∙ omega (arith, lost, total-append g before own)

-- the block of a record, which nobody owns, is freed by its address and its size
frees_record : {V : Type 0} (f : Form) (b : Block) (acc : Account V) → is_heap acc.heap ≡ true → Contains acc.heap.blocks b → b.size < 2 ^ 31 → is_taken b.address acc.taken ≡ false
    → freeing f b.address b.size acc ≡ stay (record acc { heap = record { blocks = except (is_at b.address b.size) acc.heap.blocks } })
frees_record {V} f b acc good there small free = by b.size refl
  where
    sized : IsSized b
    sized = is_sized b (split acc.heap.blocks b good there).formed

    after : Outcome V (Got V (Unit {0}))
    after = stay (record acc { heap = record { blocks = except (is_at b.address b.size) acc.heap.blocks } })

    by : (n : ℕ) → b.size ≡ n → freeing f b.address n acc ≡ stay (record acc { heap = record { blocks = except (is_at b.address b.size) acc.heap.blocks } })
    by zero e = absurd (let some = sized.some in omega (arith, some, e))
    by (suc n) e =
        let within : nat_lt (2 ^ 31 - 1) (suc n) ≡ false = le-ltb (2 ^ 31 - 1) (suc n) (omega (arith, small, e)) in
        let found : find (is_at b.address (suc n)) acc.heap.blocks ≡ Some b = ap (λ k. find (is_at b.address k) acc.heap.blocks) (sym e) ∙ find_block acc.heap.blocks b good there in
        cond-false (nat_lt (2 ^ 31 - 1) (suc n)) (failing f trap.Size acc) (freed f b.address (suc n) (if is_taken b.address acc.taken then None else find (is_at b.address (suc n)) acc.heap.blocks) acc) within
        ∙ ap (λ t. freed f b.address (suc n) (if t then None else find (is_at b.address (suc n)) acc.heap.blocks) acc) free
        ∙ ap (λ o. freed f b.address (suc n) o acc) found
        ∙ ap (λ k. stay (record acc { heap = record { blocks = except (is_at b.address k) acc.heap.blocks } })) (sym e)

unchanged : (g : ℕ → ℕ) (xs ys : List ℕ) → SameItems (xs ++ []) (ys ++ []) → total g xs ≡ total g ys
unchanged g xs ys h = sym (ap (total g) (append-nil xs)) ∙ h g ∙ ap (total g) (append-nil ys)

-- the size is small at each width, where it is at the wider
small_size : (size : ArchitectureSize) (w : ℕ) (f : ℕ → ℕ) → (w ≡ 2) ⊎ (w ≡ 3) → IsPairOf size f → f 3 < 2 ^ 31 → f w < 2 ^ 31
small_size size w f (inl e) pair small =
    let narrow : f w ≡ f 2 = ap f e in
    let four = pair.0 in
    let eight = pair.1 in
    omega (arith, narrow, four, eight, small)
small_size size w f (inr e) pair small = let same : f w ≡ f 3 = ap f e in omega (arith, same, small)

module _ {Self Operand : Type 0} (m : Meaning Self Operand) (sound : Sound m) (types : List TypeDef) where
  -- 3. Words

  pub takes_words : (ts : Shapes) (values : List Operand) (a c : Self) → are_indirect ts ≡ false → LiftsArguments m ts 0 values a c → TakesArgumentsOver m ts values a c
  takes_words ts values a c few lifts = record {
    adds = lifts.adds;
    many = lifts.many;
    row = λ w p us ws blocks others s0 s listed represents may at.
        let says : PartsSay m.width take ts us ws blocks = subst (λ q. MatchBool q (TakesRecord m.width ts us ws blocks) (PartsSay m.width take ts us ws blocks)) few represents in
        let one = got_plainly m (PartsStand m take ts (all_settled ts us)) blocks values c w p others s0 s (part_requests m.width room_for ts us) (lifts.asks_nothing us) (lifts.row us ws blocks listed says w p others s0 s at may) in
        record { vals = one.1; own = blocks; stands = one.3; heap = (m.account s).heap; formed = may.formed; kept = λ g. refl; state = one.0; done = one.2; after = one.4 };
  }

  -- 4. A record

  module _ (ts : Shapes) (values : List Operand) (a z : Self) (h : TakesRecordOver m types ts values a z) where
    frees_adds : Adds m h.three z
    frees_adds = adds_both m h.three h.frees.middle z h.frees.reads.adds h.frees.frees.adds

    later_two : Adds m h.two z
    later_two = adds_both m h.two h.three z h.renames.adds frees_adds

    later_one : Adds m h.one z
    later_one = adds_both m h.one h.two z h.loads.adds later_two

    -- the record is a block whose address is the argument
    module _ (w : m.World) (p : Peer m.Item) (us : Parts ts) (blk : Block) (inner : List Block) (others : Facts m) (s0 s : m.State) (listed : AreListed ts us) (may : MayTake (blk ∷ inner) (m.account s)) (begins : Begins m.width take (fields ts) us blk inner)
        (at : At m w p a z (arg 0 (word (core.Pointer blk.address)) ∷ others) s0 s) where
      abbrev argument : Facts m
      argument = arg 0 (word (core.Pointer blk.address)) ∷ []

      may_load : MayFree inner blk (m.account s)
      may_load = may_inner blk inner (m.account s) may

      -- its address is denoted, and the argument still
      record Read : Type 0 where
        pub state : m.State
        pub done : m.does w p (m.code h.one) s0 ≡ Done state
        pub account : m.account state ≡ m.account s
        pub owns : (g : ℕ → ℕ) → total g (m.owns state) ≡ total g (m.owns s)
        pub denotes : m.denotes w h.one (of h.address (word (core.Pointer blk.address)) ∷ (argument ++ others)) state

      read : Read
      read =
          let at1 : At m w p a h.one (argument ++ (argument ++ others)) s0 s = record { serves = later_one.grows.serves w at.serves; done = at.done; holds = sound.arg_again w a 0 (core.Pointer blk.address) others s at.holds } in
          let one = h.reads.row (word (core.Pointer blk.address)) w p (argument ++ others) s0 s at1 in
          record {
            state = one.0;
            done = one.1;
            account = one.2.2.account;
            owns = λ g. unchanged g (m.owns one.0) (m.owns s) one.2.2.owns;
            denotes = subst (λ fs. m.denotes w h.one (fs ++ (argument ++ others)) one.0) one.2.1 one.2.2.denotes;
          }

      places : HavePlaces m.width ts 0 (reached m blk.address nowhere) blk 0 (m.account s).heap
      places =
          let es = extents_of m.width (layouts ts) in
          let fit = begins.room in
          record {
            formed = may.formed;
            there = may.there.0;
            starts = omega arith;
            fits = omega (arith, fit, record_behind es);
            aligned = subst (λ n. n % 2 ^ (greatest es).grain ≡ 0) (let start : blk.address ≡ reached m blk.address nowhere = omega arith in start) begins.aligned;
          }

      -- the values were made of it
      record Loaded : Type 0 where
        pub vals : List m.Item
        pub stands : PartsStand m take ts (all_settled ts us) vals inner
        pub state : m.State
        pub done : m.does w p (m.code h.two) s0 ≡ Done state
        pub account : m.account state ≡ took inner (m.account s)
        pub owns : (g : ℕ → ℕ) → total g (m.owns state) ≡ total g (m.owns s ++ addresses inner)
        pub denotes : m.denotes w h.two (ofs m h.parts (item_data m vals) ++ (argument ++ others)) state

      loaded : Loaded
      loaded =
          let at2 : At m w p h.one h.two (of h.address (word (core.Pointer blk.address)) ∷ (argument ++ others)) s0 read.state = record { serves = later_two.grows.serves w at.serves; done = read.done; holds = read.denotes } in
          let two = got_plainly m (PartsStand m take ts (all_settled ts us)) inner h.parts h.two w p (argument ++ others) s0 read.state (part_requests m.width room_for ts us) (h.loads.asks_nothing us)
          (h.loads.row us inner listed w p (argument ++ others) s0 read.state blk.address 0 blk at2
          (subst (λ (x : Account m.Item). HavePlaces m.width ts 0 (reached m blk.address nowhere) blk 0 x.heap) (sym read.account) places) begins.holds (subst (MayFree inner blk) (sym read.account) may_load)) in
          record {
            vals = two.1;
            stands = two.3;
            state = two.0;
            done = two.2;
            account = two.4.account ∙ ap (took inner) read.account;
            owns = λ g. sym (ap (total g) (append-nil (m.owns two.0))) ∙ two.4.owns g ∙ total-append g (m.owns read.state) (addresses inner) ∙ ap (λ n. n + total g (addresses inner)) (read.owns g) ∙ sym (total-append g (m.owns s) (addresses inner));
            denotes = two.4.denotes;
          }

      abbrev made : Facts m
      made = ofs m values (item_data m loaded.vals)

      -- they got other names, and the address is denoted again
      record Named : Type 0 where
        pub state : m.State
        pub done : m.does w p (m.code h.frees.middle) s0 ≡ Done state
        pub account : m.account state ≡ took inner (m.account s)
        pub owns : (g : ℕ → ℕ) → total g (m.owns state) ≡ total g (m.owns s ++ addresses inner)
        pub denotes : m.denotes w h.frees.middle (of h.frees.address (word (core.Pointer blk.address)) ∷ (made ++ others)) state

      named : Named
      named =
          let at3 : At m w p h.two h.three (ofs m h.parts (item_data m loaded.vals) ++ (argument ++ others)) s0 loaded.state = record { serves = frees_adds.grows.serves w at.serves; done = loaded.done; holds = loaded.denotes } in
          let as_many : length (item_data m loaded.vals) ≡ length h.parts = length-map loaded.vals (λ a. item a) ∙ stand_count m sound types ts (all_settled ts us) loaded.vals inner loaded.stands ∙ sym h.counted in
          let three = h.renames.row (item_data m loaded.vals) as_many w p (argument ++ others) s0 loaded.state at3 in
          let moved : m.denotes w h.three (argument ++ (made ++ others)) three.0 = sound.swap w h.three made argument others three.0 (subst (λ fs. m.denotes w h.three (fs ++ (argument ++ others)) three.0) three.2.1 three.2.2.denotes) in
          let at4 : At m w p h.three h.frees.middle (argument ++ (made ++ others)) s0 three.0 = record { serves = h.frees.frees.adds.grows.serves w at.serves; done = three.1; holds = moved } in
          let four = h.frees.reads.row (word (core.Pointer blk.address)) w p (made ++ others) s0 three.0 at4 in
          record {
            state = four.0;
            done = four.1;
            account = four.2.2.account ∙ three.2.2.account ∙ loaded.account;
            owns = λ g. unchanged g (m.owns four.0) (m.owns three.0) four.2.2.owns ∙ unchanged g (m.owns three.0) (m.owns loaded.state) three.2.2.owns ∙ loaded.owns g;
            denotes = subst (λ fs. m.denotes w h.frees.middle (fs ++ (made ++ others)) four.0) four.2.1 four.2.2.denotes;
          }

      free_then : is_taken blk.address ((m.account s).taken ++ addresses inner) ≡ false
      free_then =
          taken_both blk.address (m.account s).taken (addresses inner)
          ∙ or_from (is_taken blk.address (m.account s).taken) (is_taken blk.address (addresses inner)) may.free.0 (not_among blk.address inner ((m.account s).taken ++ blk.address ∷ []) (last_taken blk.address (m.account s).taken) may.free.1)

      abbrev blocks_then : List Block
      blocks_then = except (is_at blk.address blk.size) (m.account s).heap.blocks

      abbrev freed_account : Account m.Item
      freed_account = record (took inner (m.account s)) { heap = record { blocks = blocks_then } }

      abbrev frees_it : Peer m.Item → Account m.Item → Outcome m.Item (Got m.Item (Unit {0}))
      frees_it f = freeing f.form blk.address (bytes_at h.frees.size (2 ^ m.width))

      freed_so : blk.size ≡ elem_size m.width (layout (fields ts)) → frees_it p (m.account named.state) ≡ Done (record { result = tt {0}; account = freed_account })
      freed_so exact =
          let size_is : bytes_at h.frees.size (2 ^ m.width) ≡ blk.size = at_width m.width h.frees.size (λ w. elem_size w (layout (fields ts))) sound.wide h.frees.sized ∙ sym exact in
          let small = small_size h.frees.size m.width (λ w. elem_size w (layout (fields ts))) sound.wide h.frees.sized h.frees.bounded in
          ap (frees_it p) named.account ∙ ap (λ n. freeing p.form blk.address n (took inner (m.account s))) size_is ∙ frees_record p.form blk (took inner (m.account s)) may.formed may.there.0 (omega (small, exact, arith)) free_then

      took_record : blk.size ≡ elem_size m.width (layout (fields ts)) → TookOver m w p ts us (blk ∷ inner) values z others s0 s
      took_record exact =
          let at5 : At m w p h.frees.middle z (ofs m (h.frees.address ∷ []) (word (core.Pointer blk.address) ∷ []) ++ (made ++ others)) s0 named.state = record { serves = at.serves; done = named.done; holds = named.denotes } in
          let five = does_done m (Unit {0}) h.frees.middle z (ofs m (h.frees.address ∷ []) (word (core.Pointer blk.address) ∷ [])) frees_it (λ u fs. fs ≡ []) (λ u. []) (λ u. []) (h.frees.frees.row blk.address) w p (made ++ others) s0 named.state at5
          (record { result = tt {0}; account = freed_account }) (freed_so exact) in
          record {
            vals = loaded.vals;
            own = inner;
            stands = loaded.stands;
            heap = record { blocks = blocks_then };
            formed = without_formed (blk ∷ []) (m.account s).heap.blocks may.formed;
            kept = λ g. one_less g blk (m.account s).heap.blocks blocks_then inner (blk ∷ inner) (except_items (is_at blk.address blk.size) (m.account s).heap.blocks blk (find_block (m.account s).heap.blocks blk may.formed may.there.0) g) refl;
            state = five.0;
            done = five.1;
            after = record {
              account = five.2.2.account;
              owns = λ g. ap (total g) (append-nil (m.owns five.0)) ∙ unchanged g (m.owns five.0) (m.owns named.state) five.2.2.owns ∙ named.owns g;
              denotes = subst (λ fs. m.denotes w z (fs ++ (made ++ others)) five.0) five.2.1 five.2.2.denotes;
            };
          }

    pub takes_record : are_indirect ts ≡ true → TakesArgumentsOver m ts values a z
    takes_record wide = record {
      adds = adds_both m a h.one z h.reads.adds later_one;
      many = h.many;
      row = λ w p us ws blocks others s0 s listed represents may at.
          let rec : TakesRecord m.width ts us ws blocks = subst (λ q. MatchBool q (TakesRecord m.width ts us ws blocks) (PartsSay m.width take ts us ws blocks)) wide represents in
          let at1 = subst (λ xs. At m w p a z (args m 0 (core_data m xs) ++ others) s0 s) rec.named at in
          let took_so = took_record w p us rec.block rec.inner others s0 s listed (subst (λ bs. MayTake bs (m.account s)) rec.all may) rec.stands at1 rec.exact in
          subst (λ bs. TookOver m w p ts us bs values z others s0 s) (sym rec.all) took_so;
    }
