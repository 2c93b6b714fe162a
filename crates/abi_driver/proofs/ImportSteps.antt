-- The whole code of an import: its arguments become words or are stored in the area, it is called, and what is answered becomes what is given.
use Rattle.std.proofs.Common.{◌≡◌, ◌≤◌, Bor, ℕ, ◌+◌, ◌%◌, Bool, true, false, if◌then◌else◌, MatchBool, List, [], ◌∷◌, ◌++◌, length, Option, None, Some, Contains, refl, sym, ap, ap₂, ◌∙◌, subst, arith, append_assoc, append-nil}
use Rattle.std.specs.Prelude.{option_to_list}
use Rattle.std.specs.List.{AllByRecursion}
use Rattle.std.proofs.lemmas.List.{length-append, length-map}
use Rattle.wit_model.specs.declared.types.WitType.{WitType}
use Rattle.wit_model.specs.declared.function.Function.{Function}
use Rattle.wit_model.specs.declared.types.TypeDef.{TypeDef}
use Rattle.wit_model.specs.declared.wasm_type.WasmType.{WasmType}
use Rattle.wit_model.specs.declared.wasm_type.WasmType.TheVariants as wasm
use Rattle.wit_layout.specs.declared.signature.AbiVariant.TheVariants.{GuestImport}
use Rattle.wit_layout.specs.Flat.{flatten_record}
use Rattle.wit_layout.specs.declared.signature.WasmSignature.{WasmSignature}
use Rattle.wit_layout.specs.Signature.{IsFlattenedFunctype, are_many, core_params, core_results, needs_pointer}
use Rattle.wit_layout.specs.Signature as signature
use Rattle.wit_layout.specs.Sizes.{alignment}
use Rattle.wrapper_data.specs.Answered.{answered}
use Rattle.wrapper_data.specs.Heap.{is_heap}
use Rattle.wrapper_data.specs.declared.block.Block.{Block}
use Rattle.wrapper_data.specs.declared.heap.Heap.{Heap}
use Rattle.wrapper_data.specs.declared.run.Target.{Target}
use Rattle.wrapper_data.specs.declared.word.Word.{Word}
use Rattle.wrapper_data.specs.declared.word.Word.TheVariants as core
use Rattle.wrapper_data.proofs.FormedHeaps.{formed, formed_answered, is_formed}
use Rattle.wrapper_meaning.specs.Areas.{parameter_record, result_record}
use Rattle.wrapper_meaning.specs.AsWords.{PartsSay}
use Rattle.wrapper_meaning.specs.Calls.{NamesArea, pointers}
use Rattle.wrapper_meaning.specs.Direction.{lend, take}
use Rattle.wrapper_meaning.specs.Honest.{AnswersInArea, AnswersInWord, WritesIn, result_size}
use Rattle.wrapper_meaning.specs.InRange.{AreListed, IsListed, IsListedResult}
use Rattle.wrapper_meaning.specs.Items.{AllIn, AtMost, SameItems, total}
use Rattle.wrapper_meaning.specs.Layout.{layout, layouts}
use Rattle.wrapper_meaning.specs.Represents.{Begins, LendsArguments, LendsRecord, ResultInArea, ResultInWord, are_indirect, is_indirect, param_words, result_words}
use Rattle.wrapper_meaning.specs.Settled.{settled_result}
use Rattle.wrapper_meaning.specs.Shape.{Shape, Shapes, param_shapes, result_shape}
use Rattle.wrapper_meaning.specs.Value.{Parts, Result, Value}
use Rattle.wrapper_meaning.proofs.LayoutIsTree.{signature_is_by_shapes}
use Rattle.wrapper_meaning.proofs.Lists.{first_or}
use Rattle.abi_bindgen.specs.declared.bindgen.Asked.{Asked}
use Rattle.abi_bindgen.specs.declared.instruction.Instruction.TheVariants.{CallWasm, Return}
use Rattle.abi_bindgen.specs.Account.{Account, Call, Done, Follows, Got, Outcome, Peer, Reply, Stopped, Stuck, account_in, addresses, gives, have_types, value, words}
use Rattle.abi_bindgen.specs.Area.{AreFor, SameArea}
use Rattle.abi_bindgen.specs.Calls.{call_point, calling, import_params, import_results, recorded}
use Rattle.abi_bindgen.specs.Frees.{nowhere, MayFree}
use Rattle.abi_driver.specs.Imports.{CallsImport, Given, GivesBack, IsHonest, Lent, LoadsAnswer, PassesArguments, PassesValues, Points, PointsAtResult, ReadsAnswer, ResultStands, point_of}
use Rattle.abi_bindgen.specs.Instructions.{Emits, shapes_of}
use Rattle.abi_bindgen.specs.Laws.{Adds, After, At, Facts, Grows, Quiet, Sound, core_data, item_data, ofs}
use Rattle.abi_bindgen.specs.Lifts.{LiftsAnswer, MayTake, by_taking, took, OneStands}
use Rattle.abi_bindgen.specs.Meaning.{Meaning, of, word}
use Rattle.abi_bindgen.specs.Touches.{reached}
use Rattle.abi_bindgen.specs.Code.{passed_count}
use Rattle.abi_bindgen.specs.WordCount.{word_counts}
use Rattle.abi_driver.proofs.AreaHeaps.{IsInside, contains_last, may_take_answered, silent_there, written_there, none_at_address, none_new_at}
use Rattle.abi_driver.proofs.AreaSteps.{Names, ResultPointed, needs_for_parameters, needs_for_result, points_blocks, points_grows, result_pointed}
use Rattle.abi_bindgen.proofs.Done.{does_done}
use Rattle.abi_driver.proofs.HonestAnswers.{AnswerSays, answer_typed, in_words}
use Rattle.abi_bindgen.proofs.Runs.{adds_both, adds_same, addresses_both, core_append, ofs_append, ofs_none}
use Rattle.abi_bindgen.proofs.SaysTypes.{parts_typed, types_both}
use Rattle.abi_driver.proofs.TakingOver.{took_none}
use Rattle.wrapper_meaning.proofs.PostReturn.{total-append}
use Rattle.abi_driver.proofs.TakeSteps.{got_plainly}
use Rattle.wrapper_meaning.specs.Requests.{requests, room_for}
use Rattle.wrapper_meaning.proofs.HeapBlocks.{at_address}

abbrev no_words : List Word
no_words = []

-- 1. Signatures

-- the core words by which an import passes its arguments, and those that name the area of its result
abbrev pub argument_types : Shapes → List WasmType
argument_types ts = if are_indirect ts then wasm.Pointer ∷ [] else flatten_record (layouts ts)

abbrev pub pointer_types : Option Shape → List WasmType
pointer_types r = if is_indirect r then wasm.Pointer ∷ [] else []

pub import_words : (types : List TypeDef) (f : Function)
    → (import_params types f ≡ argument_types (param_shapes types f) ++ pointer_types (result_shape types f)) × (import_results types f ≡ (if is_indirect (result_shape types f) then [] else result_words (result_shape types f)))
import_words types f =
    let same = signature_is_by_shapes types f in (
      ap (λ ps. core_params GuestImport ps (signature.result_words types f.result)) (sym same.0) ∙ ap (λ rs. core_params GuestImport (flatten_record (layouts (param_shapes types f))) rs) (sym same.1),
      ap (core_results GuestImport) (sym same.1),
    )

-- 2. The call

pub if_calls : {V S : Type 0} (account : S → Account V) (c : Bool) (o q : Outcome V S) (calls : List (Call V)) → (account_in account o).calls ≡ calls → (account_in account q).calls ≡ calls → (account_in account (if c then o else q)).calls ≡ calls
if_calls account true o q calls h k = h
if_calls account false o q calls h k = k

-- whatever is answered, the call was made
calling_calls : {V : Type 0} (target : Target) (ws : List Word) (types : List WasmType) (reply : Reply V) (acc : Account V)
    → (account_in (λ (x : Got V (List Word)). x.account) (calling target ws types reply acc)).calls ≡ acc.calls ++ call_point target ws acc ∷ []
calling_calls target ws types (words w writes blocks) acc = if_calls (λ x. x.account) (have_types types (option_to_list w)) _ _ (acc.calls ++ call_point target ws acc ∷ []) refl refl
calling_calls target ws types (value v heap) acc = refl

pub follows_calls : {V A S : Type 0} (account : S → Account V) (o : Outcome V (Got V A)) (q : Outcome V S) (P : Got V A → S → Type 0) → Follows account o q P → ((x : Got V A) (t : S) → P x t → account t ≡ x.account)
    → (account_in account q).calls ≡ (account_in (λ (x : Got V A). x.account) o).calls
follows_calls account (Done x) q P h go = ap (λ o. (account_in account o).calls) h.1 ∙ ap (λ (acc : Account _). acc.calls) (go x h.0 h.2)
follows_calls account (Stopped e acc) q P h go = ap (λ o. (account_in account o).calls) h
follows_calls account (Stuck acc) q P h go = h

-- the account after an answer
abbrev after_answer : {V : Type 0} → Call V → List (ℕ × ℕ) → List Block → Account V → Account V
after_answer c writes new acc = record (recorded c acc) { heap = answered new writes acc.heap }

abbrev got_words : {V : Type 0} → Call V → Option Word → List (ℕ × ℕ) → List Block → Account V → Got V (List Word)
got_words c w writes new acc = record { result = option_to_list w; account = after_answer c writes new acc }

calling_done : {V : Type 0} (target : Target) (ws : List Word) (types : List WasmType) (reply : Reply V) (acc : Account V) (w : Option Word) (writes : List (ℕ × ℕ)) (new : List Block)
    → reply ≡ words w writes new → have_types types (option_to_list w) ≡ true → calling target ws types reply acc ≡ Done (got_words (call_point target ws acc) w writes new acc)
calling_done target ws types reply acc w writes new e h =
    ap (λ r. calling target ws types r acc) e ∙ ap (λ c. if c then gives (option_to_list w) (after_answer (call_point target ws acc) writes new acc) else Stuck (recorded (call_point target ws acc) acc)) h

-- the signature tells which values pass by a record
pub indirect_told : (types : List TypeDef) (f : Function) (s : WasmSignature) → IsFlattenedFunctype types GuestImport f s → s.indirect_params ≡ are_indirect (param_shapes types f)
indirect_told types f s is = is.indirect ∙ sym (ap are_many (signature_is_by_shapes types f).0)

pub pointer_told : (types : List TypeDef) (f : Function) (s : WasmSignature) → IsFlattenedFunctype types GuestImport f s → s.retptr ≡ is_indirect (result_shape types f)
pointer_told types f s is = is.pointed ∙ sym (ap needs_pointer (signature_is_by_shapes types f).1)

-- 3. The words of the call

-- words that lend arguments have the types of the arguments' words
lent_typed : (w : ℕ) (given written : List Block) (ts : Shapes) (vs : Parts ts) (ws : List Word) → AreListed ts vs → LendsArguments w given written ts vs ws → have_types (argument_types ts) ws ≡ true
lent_typed w given written ts vs ws listed h = by (are_indirect ts) h
  where
    by : (c : Bool) → MatchBool c (LendsRecord w given written ts vs ws) (PartsSay w (lend given) ts vs ws []) → have_types (if c then wasm.Pointer ∷ [] else flatten_record (layouts ts)) ws ≡ true
    by true h = ap (have_types (wasm.Pointer ∷ [])) h.named
    by false h = parts_typed w (lend given) ts vs ws [] listed h

pointer_typed : {Self Operand : Type 0} (m : Meaning Self Operand) (r : Option Shape) (given written : List Block) (ps : List Word) → Names m r given written ps → have_types (pointer_types r) ps ≡ true
pointer_typed m r given written ps h = by (is_indirect r) h
  where
    by : (c : Bool) → MatchBool c ((c : Block) × (written ≡ c ∷ []) × (ps ≡ core.Pointer c.address ∷ []) × (result_size m.width r ≤ c.size)) (ps ≡ []) → have_types (if c then wasm.Pointer ∷ [] else []) ps ≡ true
    by true h = ap (have_types (wasm.Pointer ∷ [])) h.2
    by false h = ap (have_types []) h

pointer_names : {Self Operand : Type 0} (m : Meaning Self Operand) (r : Option Shape) (given written : List Block) (ps : List Word) → Names m r given written ps → NamesArea r written ps
pointer_names m r given written ps h = by (is_indirect r) h
  where
    by : (c : Bool) → MatchBool c ((c : Block) × (written ≡ c ∷ []) × (ps ≡ core.Pointer c.address ∷ []) × (result_size m.width r ≤ c.size)) (ps ≡ []) → MatchBool c (ps ≡ pointers written) (ps ≡ [])
    by true h = h.2 ∙ ap pointers (sym h.1)
    by false h = h

-- written blocks stand where they were
pub same_addresses : (one two : List Block) → SameArea one two → addresses two ≡ addresses one
same_addresses [] [] h = refl
same_addresses [] (c ∷ two) h = absurd h
same_addresses (b ∷ one) [] h = absurd h
same_addresses (b ∷ one) (c ∷ two) h = ap₂ (λ x xs. x ∷ xs) h.0 (same_addresses one two h.2)

addresses_same : (g : ℕ → ℕ) (xs : List Block) → total g (addresses xs) ≡ total (λ (b : Block). g b.address) xs
addresses_same g [] = refl
addresses_same g (b ∷ xs) = ap (λ n. g b.address + n) (addresses_same g xs)

-- a pointer is one operand
pub one_pointer : {Self Operand : Type 0} (m : Meaning Self Operand) (r : Option Shape) (pointer : List Operand) (a b : Self) (c : Bool) → PointsAtResult m r pointer a b → c ≡ is_indirect r → c ≡ true → length pointer ≡ 1
one_pointer m r pointer a b c h e f =
    ap length (subst (λ q. MatchBool q ((o : _) × (t : Shape) × (r ≡ Some t) × (pointer ≡ o ∷ []) × Points m t o a b) ((pointer ≡ []) × (b ≡ a))) (sym e ∙ f) h).3

pub no_pointer : {Self Operand : Type 0} (m : Meaning Self Operand) (r : Option Shape) (pointer : List Operand) (a b : Self) (c : Bool) → PointsAtResult m r pointer a b → c ≡ is_indirect r → c ≡ false → pointer ≡ []
no_pointer m r pointer a b c h e f =
    (subst (λ q. MatchBool q ((o : _) × (t : Shape) × (r ≡ Some t) × (pointer ≡ o ∷ []) × Points m t o a b) ((pointer ≡ []) × (b ≡ a))) (sym e ∙ f) h).0

-- how many words there are
pub passed_words : {Self Operand : Type 0} (m : Meaning Self Operand) (types : List TypeDef) (tys : List WitType) (os : List Operand) (a b : Self) → PassesArguments m (shapes_of types tys) os a b → length os ≡ passed_count types tys
passed_words m types tys os a b passes = by (are_indirect (shapes_of types tys)) passes.fits
  where
    by : (q : Bool) → MatchBool q (length os ≡ 1) (length os ≡ length (param_words (shapes_of types tys))) → length os ≡ (if q then 1 else word_counts types tys)
    by true h = h
    by false h = h

pub words_count : {Self Operand : Type 0} (m : Meaning Self Operand) (types : List TypeDef) (f : Function) (os pointer : List Operand) (a b c d : Self) → PassesArguments m (param_shapes types f) os a b → PointsAtResult m (result_shape types f) pointer c d
    → length (os ++ pointer) ≡ length (import_params types f)
words_count m types f os pointer a b c d passes points =
    length-append os pointer ∙ ap₂ (λ x y. x + y) (arguments_count m (param_shapes types f) os passes.fits) (pointer_count m (result_shape types f) pointer c d points)
    ∙ sym (length-append (argument_types (param_shapes types f)) (pointer_types (result_shape types f))) ∙ ap length (sym (import_words types f).0)
  where
    arguments_count : {Self Operand : Type 0} (m : Meaning Self Operand) (ts : Shapes) (os : List Operand) → MatchBool (are_indirect ts) (length os ≡ 1) (length os ≡ length (param_words ts)) → length os ≡ length (argument_types ts)
    arguments_count m ts os h = by (are_indirect ts) h
      where
        by : (q : Bool) → MatchBool q (length os ≡ 1) (length os ≡ length (param_words ts)) → length os ≡ length (if q then wasm.Pointer ∷ [] else flatten_record (layouts ts))
        by true h = h
        by false h = h

    pointer_count : {Self Operand : Type 0} (m : Meaning Self Operand) (r : Option Shape) (pointer : List Operand) (c d : Self) → PointsAtResult m r pointer c d → length pointer ≡ length (pointer_types r)
    pointer_count m r pointer c d h = by (is_indirect r) h
      where
        by : (q : Bool) → MatchBool q ((o : _) × (t : Shape) × (r ≡ Some t) × (pointer ≡ o ∷ []) × Points m t o c d) ((pointer ≡ []) × (d ≡ c)) → length pointer ≡ length (if q then wasm.Pointer ∷ [] else [])
        by true h = ap length h.3
        by false h = ap length h.0

pub no_result_record : (r : Option Shape) → is_indirect r ≡ false → result_record r ≡ []
no_result_record None one = refl
no_result_record (Some t) one = ap (λ c. if c then t ∷ [] else []) one

-- the last of a list
last_word : List Word → Word
last_word [] = core.Length 0
last_word (x ∷ []) = x
last_word (x ∷ y ∷ ws) = last_word (y ∷ ws)

last_is : (ws : List Word) (x : Word) → last_word (ws ++ x ∷ []) ≡ x
unfolding last_word
last_is [] x = refl
last_is (y ∷ []) x = refl
last_is (y ∷ z ∷ ws) x = last_is (z ∷ ws) x

address_of : Word → ℕ
address_of (core.Pointer q) = q
address_of _ = 0

same_last : (xs ys : List Word) (p q : ℕ) → xs ++ core.Pointer p ∷ [] ≡ ys ++ core.Pointer q ∷ [] → p ≡ q
unfolding address_of
same_last xs ys p q e = ap address_of (sym (last_is xs (core.Pointer p)) ∙ ap last_word e ∙ last_is ys (core.Pointer q))

module _ {Self Operand : Type 0} (m : Meaning Self Operand) (sound : Sound m) where
  -- a record begins in a block, where there is a result
  abbrev pub RecordBegins : (r : Option Shape) → Result r → Block → List Block → Type 0
  RecordBegins None u blk own = ⊥
  RecordBegins (Some t) u blk own = Begins m.width take t u blk own

  -- 4. What was answered becomes what is given

  -- the words of an answer are read, and its blocks taken over
  pub record Lifted (r : Option Shape) (u : Result r) (own : List Block) (rs : List Operand) (new : Self) (w : m.World) (f : Peer m.Item) (others : Facts m) (s0 s : m.State) : Type 0 where
    pub state : m.State
    pub done : m.does w f (m.code new) s0 ≡ Done state
    pub vals : List m.Item
    pub stands : ResultStands m take r (settled_result r u) vals own
    pub after : After m w new (ofs m rs (item_data m vals) ++ others) (addresses own) [] s (by_taking own (m.account s)) state

  no_answer : (u : Result None) (os : List Operand) (ws : List Word) (own : List Block) (b : Self) (w : m.World) (f : Peer m.Item) (others : Facts m) (s0 s : m.State) → ws ≡ [] → own ≡ []
      → At m w f b b (ofs m os (core_data m ws) ++ others) s0 s → Lifted None u own [] b w f others s0 s
  no_answer u os ws own b w f others s0 s none bare at = record {
    state = s;
    done = at.done;
    vals = [];
    stands = (refl, bare);
    after = record {
      account = sym (ap (λ xs. took xs (m.account s)) bare ∙ took_none (m.account s));
      owns = λ g. sym (ap (λ xs. total g (m.owns s ++ addresses xs)) bare);
      denotes = subst (λ fs. m.denotes w b (fs ++ others) s) (ap (λ xs. ofs m os (core_data m xs)) none ∙ ofs_none m os) at.holds;
    };
  }

  answer_adds : (r : Option Shape) (os rs : List Operand) (b c : Self) → LiftsAnswer m r os rs b c → Adds m b c
  answer_adds None os rs b c h = subst (Adds m b) (sym h.1) (adds_same m b)
  answer_adds (Some t) os rs b c h = h.2.adds

  answer_lifted : (r : Option Shape) (os rs : List Operand) (b c : Self) → LiftsAnswer m r os rs b c → (u : Result r) (ws : List Word) (own : List Block) → IsListedResult r u → AnswerSays m.width r u ws own
      → (w : m.World) (f : Peer m.Item) (others : Facts m) (s0 s : m.State) → At m w f b c (ofs m os (core_data m ws) ++ others) s0 s → MayTake own (m.account s) → Lifted r u own rs c w f others s0 s
  answer_lifted None os rs b c h u ws own good says w f others s0 s at may =
      let at1 = subst (λ x. At m w f b x (ofs m os (core_data m ws) ++ others) s0 s) h.1 at in
      subst (λ xs. Lifted None u own xs c w f others s0 s) (sym h.0) (subst (λ x. Lifted None u own [] x w f others s0 s) (sym h.1) (no_answer u os ws own b w f others s0 s says.0 says.1 at1))
  answer_lifted (Some t) os rs b c h u ws own good says w f others s0 s at may =
      let ran = got_plainly m (OneStands m t u) own (h.0 ∷ []) c w f others s0 s (requests m.width room_for t u) (h.2.asks_nothing u) (h.2.row u ws own good says w f others s0 s at may) in
      subst (λ xs. Lifted (Some t) u own xs c w f others s0 s) (sym h.1) (record { state = ran.0; done = ran.2; vals = ran.1; stands = ran.3; after = ran.4 })

  -- what was answered in the area is loaded from there
  loaded_adds : (t : Shape) (pointer rs : List Operand) (b c : Self) → LoadsAnswer m t pointer rs b c → Adds m b c
  loaded_adds t pointer rs b c h = h.4.adds

  pub read_adds : (r : Option Shape) (pointer back rs : List Operand) (b c : Self) → ReadsAnswer m r pointer back rs b c → Adds m b c
  read_adds None pointer back rs b c h = answer_adds None back rs b c h
  read_adds (Some t) pointer back rs b c h = by (is_indirect (Some t)) h
    where
      by : (q : Bool) → MatchBool q (LoadsAnswer m t pointer rs b c) (LiftsAnswer m (Some t) back rs b c) → Adds m b c
      by true h = loaded_adds t pointer rs b c h
      by false h = answer_adds (Some t) back rs b c h

  -- a result that passes as a word is lifted, and one that passes by the area is loaded
  reads_lifts : (r : Option Shape) (pointer back rs : List Operand) (b c : Self) → is_indirect r ≡ false → ReadsAnswer m r pointer back rs b c → LiftsAnswer m r back rs b c
  reads_lifts None pointer back rs b c one h = h
  reads_lifts (Some t) pointer back rs b c one h = subst (λ q. MatchBool q (LoadsAnswer m t pointer rs b c) (LiftsAnswer m (Some t) back rs b c)) one h

  -- the record is read from the block in which it begins
  record_loaded : (t : Shape) (pointer rs : List Operand) (b c : Self) → LoadsAnswer m t pointer rs b c → (u : Value t) (own : List Block) (blk : Block) → IsListed t u → Begins m.width take t u blk own
      → (w : m.World) (p : Peer m.Item) (others : Facts m) (s0 s : m.State) → is_heap (m.account s).heap ≡ true → Contains (m.account s).heap.blocks blk
      → At m w p b c (ofs m pointer (core_data m (core.Pointer blk.address ∷ [])) ++ others) s0 s → MayFree own blk (m.account s) → Lifted (Some t) u own rs c w p others s0 s
  record_loaded t pointer rs b c h u own blk listed begins w p others s0 s formed there at may =
      let q = blk.address in
      let o = h.0 in
      let fit = begins.room in
      let at1 : At m w p b c (of o (word (core.Pointer q)) ∷ others) s0 s = subst (λ os. At m w p b c (ofs m os (core_data m (core.Pointer q ∷ [])) ++ others) s0 s) h.2 at in
      let ran = got_plainly m (OneStands m t u) own (h.1 ∷ []) c w p others s0 s (requests m.width room_for t u) (h.4.asks_nothing u) (h.4.row u own listed w p others s0 s q 0 blk at1
      (record {
        formed = formed;
        there = there;
        starts = omega arith;
        fits = omega (arith, fit);
        aligned = subst (λ n. n % alignment m.width (layout t) ≡ 0) (let start : q ≡ reached m q nowhere = omega arith in start) begins.aligned;
      }) begins.holds may) in
      subst (λ xs. Lifted (Some t) u own xs c w p others s0 s) (sym h.3) (record { state = ran.0; done = ran.2; vals = ran.1; stands = ran.3; after = ran.4 })

  -- a peer that is honest wrote the record into the block that the call's last word names
  pub record InArea (r : Option Shape) (u : Result r) (reply : Reply m.Item) (c : Call m.Item) (honest : IsHonest m.width r u reply c) (q : ℕ) : Type 0 where
    pub block : Block
    pub at : block.address ≡ q
    pub silent : honest.result ≡ None
    pub live : Contains (answered honest.new honest.writes c.heap).blocks block
    pub inside : WritesIn q (result_size m.width r) honest.writes
    pub holds : RecordBegins r u block honest.represents.blocks

  pub answer_in_area : (r : Option Shape) (u : Result r) (reply : Reply m.Item) (c : Call m.Item) (honest : IsHonest m.width r u reply c) (front : List Word) (q : ℕ) → is_indirect r ≡ true → c.words ≡ front ++ core.Pointer q ∷ [] → InArea r u reply c honest q
  answer_in_area None u reply c honest front q many e = absurd (let h = many in cc)
  answer_in_area (Some t) u reply c honest front q many e =
      let rep = honest.represents in
      let placed : AnswersInArea m.width (Some t) honest.result honest.writes honest.new (point_of c) rep.words rep.area =
      subst (λ b. MatchBool b (AnswersInArea m.width (Some t) honest.result honest.writes honest.new (point_of c) rep.words rep.area) (AnswersInWord m.width honest.result honest.writes rep.words)) many rep.placed in
      let takes : ResultInArea m.width take t u rep.words rep.blocks rep.area =
      subst (λ b. MatchBool b (ResultInArea m.width take t u rep.words rep.blocks rep.area) (ResultInWord m.width take t u rep.words rep.blocks rep.area)) many rep.takes in
      let same : placed.block ≡ takes.block = ap (first_or placed.block) (sym placed.is_area ∙ takes.is_area) in
      let at : takes.block.address ≡ q = sym (same_last front placed.before q takes.block.address (sym e ∙ placed.last ∙ ap (λ ws. placed.before ++ ws) takes.named)) in
      record {
        block = takes.block;
        at = at;
        silent = placed.silent;
        live = subst (Contains (answered honest.new honest.writes c.heap).blocks) same placed.live;
        inside = subst (λ a. WritesIn a (result_size m.width (Some t)) honest.writes) (ap (λ (b : Block). b.address) same ∙ at) placed.inside;
        holds = takes.stands;
      }

  answer_loaded : (r : Option Shape) (pointer back rs : List Operand) (b c : Self) → is_indirect r ≡ true → ReadsAnswer m r pointer back rs b c → (u : Result r) (own : List Block) (blk : Block) → IsListedResult r u → RecordBegins r u blk own
      → (w : m.World) (p : Peer m.Item) (others : Facts m) (s0 s : m.State) → is_heap (m.account s).heap ≡ true → Contains (m.account s).heap.blocks blk
      → At m w p b c (ofs m pointer (core_data m (core.Pointer blk.address ∷ [])) ++ others) s0 s → MayFree own blk (m.account s) → Lifted r u own rs c w p others s0 s
  answer_loaded None pointer back rs b c many h = absurd (let g = many in cc)
  answer_loaded (Some t) pointer back rs b c many h =
      record_loaded t pointer rs b c (subst (λ q. MatchBool q (LoadsAnswer m t pointer rs b c) (LiftsAnswer m (Some t) back rs b c)) many h)

  pub writes_in_area : (address size : ℕ) (c : Block) (writes : List (ℕ × ℕ)) → c.address ≡ address → size ≤ c.size → WritesIn address size writes → AllByRecursion (IsInside c) writes
  writes_in_area address size c [] at fit h = tt
  writes_in_area address size c (write ∷ writes) at fit h = ((omega (arith, at, h.0.0), omega (arith, at, fit, h.0.1)), writes_in_area address size c writes at fit h.1)

  -- for which records the area was asked
  are_for_both : (xs ys : List Shape) (one two : List Asked) → AreFor xs one → AreFor ys two → AreFor (xs ++ ys) (one ++ two)
  are_for_both [] ys [] two h k = k
  are_for_both [] ys (a ∷ one) two h k = absurd h
  are_for_both (x ∷ xs) ys [] two h k = absurd h
  are_for_both (x ∷ xs) ys (a ∷ one) two h k = (h.0, h.1, are_for_both xs ys one two h.2 k)

  result_is : (r : Option Shape) (t : Shape) → r ≡ Some t → is_indirect r ≡ true → result_record r ≡ t ∷ []
  result_is r t e many = ap result_record e ∙ ap (λ c. if c then t ∷ [] else []) (sym (ap is_indirect e) ∙ many)

  asked_for_result : (r : Option Shape) (os : List Operand) (b c : Self) → PointsAtResult m r os b c → (records : List Asked) × AreFor (result_record r) records × (m.asked c ≡ m.asked b ++ records)
  asked_for_result r os b c h = by (is_indirect r) refl h
    where
      by : (q : Bool) → is_indirect r ≡ q → MatchBool q ((o : Operand) × (t : Shape) × (r ≡ Some t) × (os ≡ o ∷ []) × Points m t o b c) ((os ≡ []) × (c ≡ b)) → (records : List Asked) × AreFor (result_record r) records × (m.asked c ≡ m.asked b ++ records)
      by true e h = (h.4.0 ∷ [], subst (λ ts. AreFor ts (h.4.0 ∷ [])) (sym (result_is r h.1 h.2 e)) h.4.1, h.4.2.asked)
      by false e h = ([], subst (λ ts. AreFor ts []) (sym (no_result_record r e)) tt, ap m.asked h.1 ∙ sym (append-nil (m.asked b)))

  -- 5. All of it

  module _ (types : List TypeDef) (fn : Bor Function) (a b c d e z : Self) (os pointer back given none : List Operand) (n : ℕ)
      (passes : PassesArguments m (param_shapes types fn.now) os a b) (points : PointsAtResult m (result_shape types fn.now) pointer b c) (called : Emits m types (CallWasm fn) (os ++ pointer) back c d)
      (reads : ReadsAnswer m (result_shape types fn.now) pointer back given d e) (ended : Emits m types (Return n) given none e z) where
    abbrev ts : Shapes
    ts = param_shapes types fn.now

    abbrev r : Option Shape
    r = result_shape types fn.now

    later : Adds m d z
    later = adds_both m d e z (read_adds r pointer back given d e reads) ended.adds

    -- the area was asked for the record of the parameters, and for that of the result
    asked_of : (records : List Asked) × AreFor (parameter_record ts ++ result_record r) records × (m.asked c ≡ m.asked a ++ records)
    asked_of =
        let result = asked_for_result r pointer b c points in
        (passes.records ++ result.0, are_for_both (parameter_record ts) (result_record r) passes.records result.0 passes.for result.1, result.2 ∙ ap (λ xs. xs ++ result.0) passes.asked ∙ append_assoc (m.asked a) passes.records result.0)

    points_on : Grows m b c × Quiet m b c
    points_on = points_grows m sound r pointer b c points

    module _ (w : m.World) (p : Peer m.Item) (vs : Parts ts) (vals : List m.Item) (gave area : List Block) (others : Facts m) (s0 s : m.State) (is : Given m w p ts vs r vals gave area a z others s0 s) where
      serves_e : m.serves w e
      serves_e = ended.adds.grows.serves w is.at.serves

      serves_d : m.serves w d
      serves_d = later.grows.serves w is.at.serves

      serves_c : m.serves w c
      serves_c = called.adds.serves w serves_d

      serves_b : m.serves w b
      serves_b = points_on.0.serves w serves_c

      pub lent : Lent m w p ts vs gave area os b others s0 s
      lent = passes.row w p vs vals gave area others s0 s is.values (needs_for_parameters ts (result_record r) (m.area w) (m.area_at s0) area is.placed) (record { serves = serves_b; done = is.at.done; holds = is.at.holds })

      abbrev words_facts : Facts m
      words_facts = ofs m os (core_data m lent.ws)

      pub pointed_at : ResultPointed m r pointer gave lent.written c w p (words_facts ++ others) s0 lent.state
      pointed_at =
          result_pointed m sound r pointer b c points gave area lent.written lent.same w p (words_facts ++ others) s0 lent.state (needs_for_result (parameter_record ts) r (m.area w) (m.area_at s0) area is.placed)
          (record { serves = serves_c; done = lent.done; holds = lent.after.denotes })

      abbrev pointer_facts : Facts m
      pointer_facts = ofs m pointer (core_data m pointed_at.ps)

      -- the account at the call
      at_call : m.account pointed_at.state ≡ record (m.account s) { heap = lent.heap }
      at_call = pointed_at.account ∙ lent.after.account

      abbrev ws : List Word
      ws = lent.ws ++ pointed_at.ps

      typed : have_types (import_params types fn.now) ws ≡ true
      typed =
          ap (λ tys. have_types tys ws) (import_words types fn.now).0
          ∙ types_both (argument_types ts) (pointer_types r) lent.ws pointed_at.ps (lent_typed m.width gave lent.written ts vs lent.ws is.values.listed lent.lends) (pointer_typed m r gave lent.written pointed_at.ps pointed_at.names)

      abbrev call : Call m.Item
      call = call_point (m.target c fn.now) ws (m.account pointed_at.state)

      -- the words were all denoted, and the pointer is still
      here : At m w p c d (ofs m (os ++ pointer) (core_data m ws) ++ (pointer_facts ++ others)) s0 pointed_at.state
      here =
          let moved : m.denotes w c (words_facts ++ ((pointer_facts ++ pointer_facts) ++ others)) pointed_at.state =
          sound.swap w c (pointer_facts ++ pointer_facts) words_facts others pointed_at.state (subst (λ fs. m.denotes w c fs pointed_at.state) (sym (append_assoc pointer_facts pointer_facts (words_facts ++ others))) pointed_at.denotes) in
          let len : length (core_data m lent.ws) ≡ length os = length-map lent.ws (λ x. word x) ∙ lent.fits in
          let whole : ofs m (os ++ pointer) (core_data m ws) ≡ words_facts ++ pointer_facts = ap (ofs m (os ++ pointer)) (core_append m lent.ws pointed_at.ps) ∙ ofs_append m os pointer (core_data m lent.ws) (core_data m pointed_at.ps) len in
          let order : words_facts ++ ((pointer_facts ++ pointer_facts) ++ others) ≡ ofs m (os ++ pointer) (core_data m ws) ++ (pointer_facts ++ others) =
          ap (λ fs. words_facts ++ fs) (append_assoc pointer_facts pointer_facts others) ∙ sym (append_assoc words_facts pointer_facts (pointer_facts ++ others)) ∙ ap (λ fs. fs ++ (pointer_facts ++ others)) (sym whole) in
          record { serves = serves_d; done = pointed_at.done; holds = subst (λ fs. m.denotes w c fs pointed_at.state) order moved }

      kept_all : SameItems call.heap.blocks (gave ++ lent.written)
      kept_all g = ap (λ acc. total g acc.heap.blocks) at_call ∙ lent.all g

      call_formed : is_heap call.heap ≡ true
      call_formed = ap (λ acc. is_heap acc.heap) at_call ∙ lent.formed

      passed : PassesValues m.width (m.target a fn.now) ts vs r gave area call
      passed = record {
        aimed = points_on.0.target fn.now ∙ passes.grows.target fn.now;
        written = lent.written;
        same = lent.same;
        passes = record { arguments = lent.ws; pointer = pointed_at.ps; all = refl; represents = lent.lends; named = pointer_names m r gave lent.written pointed_at.ps pointed_at.names };
        values = refl;
        formed = call_formed;
        kept = kept_all;
      }

      abbrev answering : Outcome m.Item (Got m.Item (List Word))
      answering = calling (m.target c fn.now) ws (import_results types fn.now) p.reply (m.account pointed_at.state)

      made : (account_in m.account (m.does w p (m.code z) s0)).calls ≡ (m.account s).calls ++ call ∷ []
      made =
          later.quiet w p s0 is.at.serves
          ∙ follows_calls m.account answering (m.does w p (m.code d) s0)
          (λ x t. (outs : Facts m) × (outs ≡ ofs m back (core_data m x.result)) × After m w d (outs ++ (pointer_facts ++ others)) [] [] pointed_at.state x t) (called.row ws typed w p (pointer_facts ++ others) s0 pointed_at.state here)
          (λ x t h. h.2.account)
          ∙ calling_calls (m.target c fn.now) ws (import_results types fn.now) p.reply (m.account pointed_at.state)
          ∙ ap (λ acc. acc.calls ++ call ∷ []) at_call

      -- what has an owner at the call is a block of the heap then
      owners : AtMost (m.account pointed_at.state).taken (addresses call.heap.blocks)
      owners g =
          let before = is.owners g in
          let taken : total g (m.account pointed_at.state).taken ≡ total g (m.account s).taken = ap (λ acc. total g acc.taken) at_call in
          let now : total g (addresses call.heap.blocks) ≡ total g (addresses (gave ++ lent.written)) = addresses_same g call.heap.blocks ∙ kept_all (λ b. g b.address) ∙ sym (addresses_same g (gave ++ lent.written)) in
          let was : addresses (gave ++ lent.written) ≡ addresses (gave ++ area) = addresses_both gave lent.written ∙ ap (λ xs. addresses gave ++ xs) (same_addresses area lent.written lent.same) ∙ sym (addresses_both gave area) in
          omega (arith, before, taken, now, ap (total g) was)

      -- the state after an answer whose words have the result's types
      module _ (u : Result r) (honest : IsHonest m.width r u p.reply call) (fit : have_types (import_results types fn.now) (option_to_list honest.result) ≡ true) where
        abbrev got : Got m.Item (List Word)
        got = got_words call honest.result honest.writes honest.new (m.account pointed_at.state)

        pub record AfterCall : Type 0 where
          pub state : m.State
          pub done : m.does w p (m.code d) s0 ≡ Done state
          pub after : After m w d (ofs m back (core_data m (option_to_list honest.result)) ++ (pointer_facts ++ others)) [] [] pointed_at.state got state

        after_call : AfterCall
        after_call =
            let answered_so = calling_done (m.target c fn.now) ws (import_results types fn.now) p.reply (m.account pointed_at.state) honest.result honest.writes honest.new honest.answers fit in
            let two = does_done m (List Word) c d (ofs m (os ++ pointer) (core_data m ws)) (λ f. calling (m.target c fn.now) ws (import_results types fn.now) f.reply) (λ x fs. fs ≡ ofs m back (core_data m x)) (λ x. []) (λ x. [])
            (called.row ws typed) w p (pointer_facts ++ others) s0 pointed_at.state here got answered_so in
            record { state = two.0; done = two.1; after = subst (λ fs. After m w d (fs ++ (pointer_facts ++ others)) [] [] pointed_at.state got two.0) two.2.1 two.2.2 }

        heap_is : (m.account after_call.state).heap ≡ answered honest.new honest.writes call.heap
        heap_is = ap (λ acc. acc.heap) after_call.after.account

        taken_is : AtMost (m.account after_call.state).taken (addresses call.heap.blocks)
        taken_is = subst (λ xs. AtMost xs (addresses call.heap.blocks)) (sym (ap (λ acc. acc.taken) after_call.after.account)) owners

        may_take : AllIn (answered honest.new honest.writes call.heap).blocks honest.represents.blocks → MayTake honest.represents.blocks (m.account after_call.state)
        may_take there = may_take_answered call.heap honest.new honest.represents.blocks honest.writes (m.account after_call.state) call_formed honest.represents.fresh honest.represents.brings heap_is taken_is there

        abbrev Read : List Block → Facts m → Type 0
        Read own fs = Lifted r u own given e w p fs s0 after_call.state

        -- the pointer is needed no more
        without_pointer : (own : List Block) → Read own (pointer_facts ++ others) → Read own others
        without_pointer own h = record {
          state = h.state;
          done = h.done;
          vals = h.vals;
          stands = h.stands;
          after = record {
            account = h.after.account;
            owns = h.after.owns;
            denotes =
                let vals_facts : Facts m = ofs m given (item_data m h.vals) in
                sound.fewer w e pointer_facts (vals_facts ++ others) h.state (sound.swap w e vals_facts pointer_facts others h.state h.after.denotes);
          };
        }

        -- the end of the code changes nothing
        ends : (own : List Block) → SameItems own honest.new → Read own others → GivesBack m w p r u call honest z others s0 s
        ends own all lifted =
            let at4 : At m w p e z (ofs m given (item_data m lifted.vals) ++ others) s0 lifted.state = record { serves = is.at.serves; done = lifted.done; holds = lifted.after.denotes } in
            let end = ended.row (item_data m lifted.vals) w p others s0 lifted.state at4 in
            let after4 = subst (λ fs. After m w z (fs ++ others) [] [] lifted.state (record { result = tt {0}; account = m.account lifted.state }) end.0) end.2.1 end.2.2 in
            record {
              state = end.0;
              done = end.1;
              os = given;
              returned = ended.returned;
              vals = lifted.vals;
              own = own;
              stands = lifted.stands;
              all = all;
              after = record {
                account = after4.account ∙ lifted.after.account ∙ ap (took own) after_call.after.account ∙ ap (λ acc. took own (record (recorded call acc) { heap = answered honest.new honest.writes call.heap })) at_call;
                owns = λ g. omega (
                  arith,
                  after4.owns g,
                  lifted.after.owns g,
                  after_call.after.owns g,
                  pointed_at.owns g,
                  lent.after.owns g,
                  total-append g (m.owns end.0) [],
                  total-append g (m.owns lifted.state) [],
                  total-append g (m.owns after_call.state) [],
                  total-append g (m.owns after_call.state) (addresses own),
                  total-append g (m.owns pointed_at.state) [],
                  total-append g (m.owns lent.state) [],
                  total-append g (m.owns s) [],
                  total-append g (m.owns s) (addresses own),
                );
                denotes = after4.denotes;
              };
            }

      names_block : is_indirect r ≡ true → Names m r gave lent.written pointed_at.ps → (c : Block) × (lent.written ≡ c ∷ []) × (pointed_at.ps ≡ core.Pointer c.address ∷ []) × (result_size m.width r ≤ c.size)
      names_block many h = subst (λ b. MatchBool b ((c : Block) × (lent.written ≡ c ∷ []) × (pointed_at.ps ≡ core.Pointer c.address ∷ []) × (result_size m.width r ≤ c.size)) (pointed_at.ps ≡ [])) many h

      -- a result that passes as a word is lifted
      gives_word : is_indirect r ≡ false → (u : Result r) → (honest : IsHonest m.width r u p.reply call) → GivesBack m w p r u call honest z others s0 s
      gives_word one u honest =
          let told = in_words m.width r u p.reply call honest one in
          let fit : have_types (import_results types fn.now) (option_to_list honest.result) ≡ true =
          ap (λ tys. have_types tys (option_to_list honest.result)) ((import_words types fn.now).1 ∙ ap (λ c. if c then [] else result_words r) one)
          ∙ answer_typed m.width r u (option_to_list honest.result) honest.represents.blocks honest.good told.says in
          let ac = after_call u honest fit in
          let there : AllIn (answered honest.new honest.writes call.heap).blocks honest.represents.blocks =
          subst (λ writes. AllIn (answered honest.new writes call.heap).blocks honest.represents.blocks) (sym told.silent) (silent_there call.heap honest.new honest.represents.blocks honest.represents.fresh honest.represents.brings) in
          let at3 : At m w p d e (ofs m back (core_data m (option_to_list honest.result)) ++ (pointer_facts ++ others)) s0 ac.state = record { serves = serves_e; done = ac.done; holds = ac.after.denotes } in
          let lifted = answer_lifted r back given d e (reads_lifts r pointer back given d e one reads) u (option_to_list honest.result) honest.represents.blocks honest.good told.says w p (pointer_facts ++ others) s0 ac.state at3 (may_take u honest fit there) in
          ends u honest fit honest.represents.blocks (λ g. sym (honest.represents.brings g)) (without_pointer u honest fit honest.represents.blocks lifted)

      -- and one that passes by the area is loaded from there
      gives_record : is_indirect r ≡ true → (u : Result r) → (honest : IsHonest m.width r u p.reply call) → GivesBack m w p r u call honest z others s0 s
      gives_record many u honest =
          let c = names_block many pointed_at.names in
          let q = c.0.address in
          let from = answer_in_area r u p.reply call honest lent.ws q many (ap (λ ps. lent.ws ++ ps) c.2) in
          let fit : have_types (import_results types fn.now) (option_to_list honest.result) ≡ true =
          ap (λ tys. have_types tys (option_to_list honest.result)) ((import_words types fn.now).1 ∙ ap (λ b. if b then [] else result_words r) many) ∙ ap (λ x. have_types [] (option_to_list x)) from.silent in
          let ac = after_call u honest fit in
          let kept : SameItems call.heap.blocks (gave ++ c.0 ∷ []) = subst (λ bs. SameItems call.heap.blocks (gave ++ bs)) c.1 kept_all in
          let inside = writes_in_area q (result_size m.width r) c.0 honest.writes refl c.3 from.inside in
          let there = written_there call.heap honest.new honest.represents.blocks honest.writes c.0 call_formed honest.represents.fresh honest.represents.brings (contains_last gave c.0 call.heap.blocks kept) inside in
          let heap = heap_is u honest fit in
          let formed_then : is_heap (m.account ac.state).heap ≡ true = ap is_heap heap ∙ is_formed (answered honest.new honest.writes call.heap) (formed_answered call.heap honest.new honest.writes (formed call.heap call_formed)) in
          let live = subst (λ (h : Heap). Contains h.blocks from.block) (sym heap) from.live in
          let none : option_to_list honest.result ≡ [] = ap option_to_list from.silent in
          let facts : m.denotes w d (ofs m pointer (core_data m (core.Pointer from.block.address ∷ [])) ++ others) ac.state =
          subst (λ ps. m.denotes w d (ofs m pointer (core_data m ps) ++ others) ac.state) (c.2 ∙ ap (λ n. core.Pointer n ∷ []) (sym from.at))
          (subst (λ fs. m.denotes w d (fs ++ (pointer_facts ++ others)) ac.state) (ap (λ xs. ofs m back (core_data m xs)) none ∙ ofs_none m back) ac.after.denotes) in
          let none_here = none_new_at call.heap honest.new honest.represents.blocks c.0 call_formed honest.represents.fresh honest.represents.brings (contains_last gave c.0 call.heap.blocks kept) in
          let may : MayFree honest.represents.blocks from.block (m.account ac.state) = record {
            may = may_take u honest fit there;
            others = none_at_address from.block.address honest.represents.blocks (subst (λ a. total (at_address a) honest.represents.blocks ≡ 0) (sym from.at) none_here);
          } in
          let lifted = answer_loaded r pointer back given d e many reads u honest.represents.blocks from.block honest.good from.holds w p others s0 ac.state formed_then live (record { serves = serves_e; done = ac.done; holds = facts }) may in
          ends u honest fit honest.represents.blocks (λ g. sym (honest.represents.brings g)) lifted

      gives_back : (u : Result r) → (honest : IsHonest m.width r u p.reply call) → GivesBack m w p r u call honest z others s0 s
      gives_back u honest = by (is_indirect r) refl
        where
          by : (c : Bool) → is_indirect r ≡ c → GivesBack m w p r u call honest z others s0 s
          by false one = gives_word one u honest
          by true many = gives_record many u honest

    pub calls_import : CallsImport m fn.now ts r a z
    calls_import = record {
      serves = λ w h. passes.grows.serves w (points_on.0.serves w (called.adds.serves w (later.grows.serves w h)));
      more = λ w h.
          let one = passes.grows.more w h in
          let two = points_on.0.more one.0 one.1 in
          let three = called.adds.more two.0 two.1 in
          later.grows.more three.0 three.1;
      records = asked_of.0;
      for = asked_of.1;
      asked = later.asked ∙ called.asked ∙ asked_of.2;
      blocks = later.blocks ∙ called.blocks ∙ points_blocks m sound r pointer b c points ∙ passes.blocks;
      row = λ w p vs vals gave area others s0 s is. record {
        call = call w p vs vals gave area others s0 s is;
        passes = passed w p vs vals gave area others s0 s is;
        made = made w p vs vals gave area others s0 s is;
        gives = gives_back w p vs vals gave area others s0 s is;
      };
    }
