-- An export that closes the driver's code ends as it owes, where the implementation's answer is honest.
use Rattle.std.proofs.Common.{◌≡◌, ◌⊎◌, inl, inr, ℕ, Bool, true, false, ◌||◌, if◌then◌else◌, nat_eq, MatchBool, List, [], ◌∷◌, ◌++◌, length, Option, None, Some, slice_get, refl, sym, ap, ◌∙◌, subst, arith}
use Rattle.std.specs.Prelude.{IfSome}
use Rattle.std.specs.List.{AllByRecursion}
use Rattle.std.specs.Option.{option_map, option_to_list}
use Rattle.std.proofs.lemmas.Bool.{and_parts}
use Rattle.rust_tree.specs.Tree.{Tree}
use Rattle.wit_layout.specs.declared.signature.AbiVariant.TheVariants.{GuestExport}
use Rattle.wit_layout.specs.Signature.{core_results}
use Rattle.wit_model.specs.declared.function.Function.{Function}
use Rattle.wit_model.specs.declared.types.TypeDef.{TypeDef}
use Rattle.wit_model.specs.declared.wasm_type.WasmType.{WasmType}
use Rattle.wit_model.specs.declared.wasm_type.WasmType.TheVariants as wasm
use Rattle.wrapper_data.specs.declared.answer.Answer.TheVariants as answer
use Rattle.wrapper_data.specs.declared.block.Block.{Block}
use Rattle.wrapper_data.specs.declared.choice.Choice.{Choice}
use Rattle.wrapper_data.specs.declared.choice.Choice.TheVariants as choice
use Rattle.wrapper_data.specs.declared.choice.Choices.{Choices}
use Rattle.wrapper_data.specs.declared.choice.Request.{Request}
use Rattle.wrapper_data.specs.declared.heap.Heap.{Heap}
use Rattle.wrapper_data.specs.declared.run.Stop.TheVariants as stop_of
use Rattle.wrapper_data.specs.declared.value.RustValue.{RustValue}
use Rattle.wrapper_data.specs.declared.word.Word.{Word}
use Rattle.wrapper_meaning.specs.Areas.{StandsAt, result_record}
use Rattle.wrapper_meaning.specs.Ends.{Misfits, fits}
use Rattle.wrapper_meaning.specs.Honest.{HonestCaller, HonestImplementation}
use Rattle.wrapper_meaning.specs.Items.{SameItems, total}
use Rattle.wrapper_meaning.specs.Direction.{give}
use Rattle.wrapper_meaning.specs.Represents.{GivesResult, ResultInArea, ResultInWord, is_indirect, result_words}
use Rattle.wrapper_meaning.specs.Settled.{IsResult}
use Rattle.wrapper_meaning.specs.Shape.{Shape, param_shapes, result_shape}
use Rattle.wrapper_meaning.specs.Value.{Parts, Result}
use Rattle.wrapper_meaning.proofs.Lists.{some_same}
use Rattle.wrapper_values.specs.declared.state.State.{State}
use Rattle.wrapper_values.specs.declared.state.Val.TheVariants as val
use Rattle.wrapper_values.specs.Act as machine
use Rattle.wrapper_values.specs.Effect.{is_word_of}
use Rattle.wrapper_values.specs.Setting.{Setting}
use Rattle.wrapper_run.specs.ExportRun.{core_answer}
use Rattle.wrapper_run.specs.Run.{give_and_leave}
use Rattle.wrapper_run.proofs.FreeSteps.{unit_words}
use Rattle.wrapper_run.specs.Entries.{ExportNames}
use Rattle.wrapper_run.specs.Places.{area_in}
use Rattle.abi_bindgen.specs.declared.bindgen.Asked.{Asked}
use Rattle.abi_bindgen.specs.Account.{Account, Done, Follows, Got, Outcome, Peer, Reply, Stopped, Stuck, gives, has_type, have_types, then_do, value as value_reply, words}
use Rattle.abi_bindgen.specs.Area.{AreFor, AreaStands, HoldsRecord, placed, with_area}
use Rattle.abi_driver.specs.Exports.{GivesWords, HandsBack, IsHonestMethod, handed_on, placing_result}
use Rattle.abi_bindgen.specs.Laws.{core_data, ofs}
use Rattle.abi_bindgen.specs.Meaning.{of, word}
use Rattle.abi_bindgen.proofs.SaysTypes.{says_typed}
use Rattle.func_gen.specs.FactLemmas.{is_said, word_read}
use Rattle.func_gen.specs.Facts.{Hold}
use Rattle.func_gen.specs.Read.{env_of, read}
use Rattle.func_gen.specs.Meaning.{FuncState, IsArea, account_of, answer_of, func_meaning, owns_of, run_code, seen, setting_for, static_request}
use Rattle.func_gen.specs.declared.function_bindgen.FunctionBindgen.{FunctionBindgen}
use Rattle.func_gen.specs.declared.operand.ExprOperand.{ExprOperand}
use Rattle.func_gen.proofs.Steps.{seen_done}
use Rattle.func_gen.proofs.Evaluated.{gives as gives_value}
use Rattle.wrapper_closing.specs.ImportBlock.{tail_of}
use Rattle.wrapper_closing.specs.ClosedExport.{ClosesExport, export_file}
use Rattle.wrapper_closing.proofs.ExportCalls.{carried, finish, rest}
use Rattle.wrapper_closing.proofs.ExportPlaced.{bare_locals, locals_of, placed_locals, was_placed}
use Rattle.wrapper_closing.proofs.ExportStart.{at_words, same_type}
use Rattle.wrapper_closing.proofs.Leaving.{leaves_nothing}
use Rattle.wrapper_closing.proofs.Placing.{no_zero}
use Rattle.wrapper_closing.proofs.SharedArea.{shared_room, shared_sized}

-- 1. Honesty, as the driver tells it

value_of : (reply : Reply RustValue) (v : Option RustValue) (heap : Heap) → answer_of reply ≡ answer.Value v heap → reply ≡ value_reply v heap
value_of (words r w b) v heap h = absurd cc
value_of (value_reply u left) v heap h = cc

-- 2. Whether the area is placed

-- a result that passes by the area: it is placed at the next choice, or that does not fit
record AreaTaken (area : Request) (choices : List Choice) (acc : Account RustValue) (x : Got RustValue (List ℕ)) : Type 0 where
  address : ℕ
  later : List Choice
  chosen : choices ≡ choice.At address ∷ later
  result : x.result ≡ address ∷ []
  requests : x.account.requests ≡ acc.requests ++ area ∷ []

record AreaMissed (area : Request) (choices : List Choice) (acc after : Account RustValue) : Type 0 where
  misfit : Misfits true acc.heap.blocks area (slice_get choices 0)
  requests : after.requests ≡ acc.requests ++ area ∷ []
  heap : after.heap ≡ acc.heap

-- what follows such an act is one of the two
abbrev Placing : Request → List Choice → Account RustValue → Outcome RustValue (Got RustValue (List ℕ)) → Type 0
Placing area choices acc (Done x) = AreaTaken area choices acc x
Placing area choices acc (Stopped e after) = (e ≡ stop_of.BadChoice) × AreaMissed area choices acc after
Placing area choices acc (Stuck after) = ⊥

places_or_misses : (area : Request) (acc : Account RustValue) → IsArea area → Placing area acc.choices acc (placing_result true (Some area) acc)
places_or_misses area acc (some, aligned) = subst (Placing area acc.choices acc) (sym asks) (go acc.choices refl)
  where
    given : Outcome RustValue (Got RustValue ℕ) → Outcome RustValue (Got RustValue (List ℕ))
    given o = then_do o (λ x. gives (x.result ∷ []) x.account)

    asks : placing_result true (Some area) acc ≡ given (placed area acc.choices (record acc { requests = acc.requests ++ area ∷ [] }))
    asks =
        ap (λ c. given (if c || nat_eq area.align 0 then Stuck acc else placed area acc.choices (record acc { requests = acc.requests ++ area ∷ [] }))) (no_zero area.size some)
        ∙ ap (λ c. given (if c then Stuck acc else placed area acc.choices (record acc { requests = acc.requests ++ area ∷ [] }))) (no_zero area.align aligned)

    go : (cs : List Choice) → acc.choices ≡ cs → Placing area acc.choices acc (given (placed area cs (record acc { requests = acc.requests ++ area ∷ [] })))
    go [] e = (refl, record { misfit = subst (λ cs. Misfits true acc.heap.blocks area (slice_get cs 0)) (sym e) tt; requests = refl; heap = refl })
    go (choice.Refuse ∷ cs) e = (refl, record { misfit = subst (λ cs. Misfits true acc.heap.blocks area (slice_get cs 0)) (sym e) refl; requests = refl; heap = refl })
    go (choice.At address ∷ cs) e = test (fits area address acc.heap.blocks) refl
      where
        test : (t : Bool) → fits area address acc.heap.blocks ≡ t
            → Placing area acc.choices acc (given (if fits area address acc.heap.blocks then gives address (with_area area address cs (record acc { requests = acc.requests ++ area ∷ [] })) else Stopped stop_of.BadChoice (record acc { requests = acc.requests ++ area ∷ [] })))
        test true h =
            subst (λ t. Placing area acc.choices acc (given (if t then gives address (with_area area address cs (record acc { requests = acc.requests ++ area ∷ [] })) else Stopped stop_of.BadChoice (record acc { requests = acc.requests ++ area ∷ [] })))) (sym h)
            (record { address = address; later = cs; chosen = e; result = refl; requests = refl })
        test false h =
            subst (λ t. Placing area acc.choices acc (given (if t then gives address (with_area area address cs (record acc { requests = acc.requests ++ area ∷ [] })) else Stopped stop_of.BadChoice (record acc { requests = acc.requests ++ area ∷ [] })))) (sym h)
            (refl, record { misfit = subst (λ cs. Misfits true acc.heap.blocks area (slice_get cs 0)) (sym e) (aligned, h); requests = refl; heap = refl })

seen_stopped : (at : Option ℕ) (o : machine.Outcome (Unit {0})) (after : Account RustValue) → seen at o ≡ Stopped stop_of.BadChoice after → (s : State) × (o ≡ machine.Stopped stop_of.BadChoice s) × (account_of s ≡ after)
seen_stopped at (machine.Done u t) after h = absurd cc
seen_stopped at (machine.Stopped stop_of.BadChoice t) after h = (t, refl, cc)
seen_stopped at (machine.Stopped stop_of.Done t) after h = absurd cc
seen_stopped at (machine.Stopped (stop_of.Refused r) t) after h = absurd cc
seen_stopped at (machine.Stopped (stop_of.Trap k) t) after h = absurd cc
seen_stopped at (machine.Stopped (stop_of.Stuck n) t) after h = absurd cc

-- 3. The words

-- words that are given are of the core result's types
given_typed : (r : Option Shape) (v : Result r) (ws : List Word) (own area : List Block) → IsResult r v → GivesResult 2 r v ws own area → have_types (core_results GuestExport (result_words r)) ws ≡ true
given_typed None v ws own area good h = ap (have_types []) h.0
given_typed (Some t) v ws own area good h = go (is_indirect (Some t)) h
  where
    go : (c : Bool) → MatchBool c (ResultInArea 2 give t v ws own area) (ResultInWord 2 give t v ws own area) → have_types (if c then wasm.Pointer ∷ [] else result_words (Some t)) ws ≡ true
    go true k = ap (have_types (wasm.Pointer ∷ [])) k.named
    go false k = says_typed 2 give t v ws own good.0 k.0

-- what the code gives of the words, and that the locals go
gives_words : (w : Setting) (new : FunctionBindgen) (ty : Option WasmType) (given : List ExprOperand) (ws : List Word) (s : State) → length given ≡ length (option_to_list ty) → have_types (option_to_list ty) ws ≡ true → Hold w.items new (ofs func_meaning given (core_data func_meaning ws)) s → locals_of s ≡ []
    → finish w ty (tail_of given) (machine.Done tt s) ≡ machine.Done ws (record s { locals = [] })
gives_words w new None [] [] s count typed holds bare =
    ap (λ o. give_and_leave w o s) unit_words ∙ ap (λ o. machine.and_then o (λ u. machine.pure [])) (leaves_nothing w s bare)
gives_words w new None [] (x ∷ ws) s count typed holds bare = absurd cc
gives_words w new None (o ∷ os) ws s count typed holds bare = absurd (omega (arith, count))
gives_words w new (Some ty) [] ws s count typed holds bare = absurd (omega (arith, count))
gives_words w new (Some ty) (o ∷ p ∷ os) ws s count typed holds bare = absurd (omega (arith, count))
gives_words w new (Some ty) (o ∷ []) [] s count typed holds bare = absurd cc
gives_words w new (Some ty) (o ∷ []) (x ∷ y ∷ ws) s count typed holds bare = absurd (let e = (and_parts (has_type ty x) (have_types [] (y ∷ ws)) typed).1 in cc)
gives_words w new (Some ty) (o ∷ []) (x ∷ []) s count typed holds bare =
    let reads : (read w.items o.expr).at (env_of s) ≡ Some (val.Word x) = (word_read w.items o (env_of s) x (is_said w.items new.params (env_of s) (of o (word x)) (omega (arith, holds.right)))).1 in
    let is : is_word_of ty x ≡ true = same_type ty x (and_parts (has_type ty x) true typed).0 in
    ap (λ q. machine.and_then q (λ v. give_and_leave w (core_answer (Some ty) v))) (gives_value w o.expr s (val.Word x) reads refl)
    ∙ ap (λ c. give_and_leave w (option_map (λ y. y ∷ []) (if c then Some x else None)) s) is
    ∙ ap (λ o. machine.and_then o (λ u. machine.pure (x ∷ []))) (leaves_nothing w s bare)

-- 4. How the whole run ends

module _ (types : List TypeDef) (f : Function) (names : ExportNames) (results : List (Option Shape)) (tree : Tree) (nth : ℕ) (old new : FunctionBindgen) (c : ClosesExport types f names results tree nth old new) (p : Peer RustValue) (us : Parts (param_shapes types f)) (ws : List Word) (heap : Heap) (choices : Choices) (caller : HonestCaller 2 (param_shapes types f) us ws heap) where
  abbrev area_of : Option Request
  area_of = static_request (area_in tree.items)

  abbrev ran : machine.Outcome (Unit {0})
  ran = run_code (setting_for (export_file tree c.number old.home) p) old.home new.code (at_words old ws heap choices)

  -- done, with words that represent the value
  pub record Finished (v : Result (result_shape types f)) (own : List Block) (left : Heap) : Type 0 where
    pub words : List Word
    pub area : List Block
    pub represents : GivesResult 2 (result_shape types f) v words own area
    pub state : State
    pub done : rest types f names results tree nth old new c p (at_words old ws heap choices) ≡ machine.Done words state
    pub heap_left : SameItems state.heap.blocks (left.blocks ++ area)
    pub requests : state.requests ≡ (if is_indirect (result_shape types f) then option_to_list area_of else [])
    pub stands : MatchBool (is_indirect (result_shape types f)) ((request : Request) × (area_of ≡ Some request) × StandsAt request (slice_get choices.list 0) area) (area ≡ [])

  -- or the area missed its choice
  pub record Missed (left : Heap) : Type 0 where
    pub request : Request
    pub is : area_of ≡ Some request
    pub many : is_indirect (result_shape types f) ≡ true
    pub misfit : Misfits true left.blocks request (slice_get choices.list 0)
    pub state : State
    pub stopped : rest types f names results tree nth old new c p (at_words old ws heap choices) ≡ machine.Stopped stop_of.BadChoice state
    pub requests : state.requests ≡ request ∷ []
    pub heap_left : state.heap ≡ left

  abbrev Ending : Result (result_shape types f) → List Block → Heap → Type 0
  Ending v own left = Finished v own left ⊎ Missed left

  abbrev honest_method : (v : Result (result_shape types f)) (h : HonestImplementation 2 (result_shape types f) v (answer_of p.reply)) → IsHonestMethod func_meaning (export_file tree c.number old.home) old f (result_shape types f) v p.reply
  honest_method v h =
      let came = c.answers v h.value h.own h.good h.stands in
      record { good = h.good; item = h.value; heap = h.heap; answers = value_of p.reply h.value h.heap h.answers; formed = h.formed; own = h.own; others = h.others; vals = came.vals; comes = came.comes; stands = came.stands; live = h.live }

  given_is : (carried types f names results tree nth old new c p us ws heap choices caller).os ≡ c.given
  given_is = some_same _ c.given (sym (carried types f names results tree nth old new c p us ws heap choices caller).returned ∙ c.returned)

  abbrev here : Setting
  here = setting_for (export_file tree c.number old.home) p

  module _ (v : Result (result_shape types f)) (h : HonestImplementation 2 (result_shape types f) v (answer_of p.reply)) where
    abbrev Words : Got RustValue (List ℕ) → FuncState → Type 0
    Words x t = GivesWords func_meaning (export_file tree c.number old.home) (result_shape types f) v h.own h.heap (carried types f names results tree nth old new c p us ws heap choices caller).os new x t

    -- the words of the facts are given, and the locals go
    tail_done : (x : Got RustValue (List ℕ)) (t : FuncState) (g : Words x t) → ran ≡ machine.Done tt t.machine → locals_of t.machine ≡ [] → rest types f names results tree nth old new c p (at_words old ws heap choices) ≡ machine.Done g.ws (record t.machine { locals = [] })
    tail_done x t g done bare =
        let typed = given_typed (result_shape types f) v g.ws h.own g.area h.good g.represents in
        let answer = c.signature.answer in
        ap (finish here c.item.result (tail_of c.given)) done
        ∙ gives_words here new c.item.result c.given g.ws t.machine (c.count ∙ sym (ap length answer)) (ap (λ tys. have_types tys g.ws) answer ∙ typed)
        (subst (λ os. Hold tree.items new (ofs func_meaning os (core_data func_meaning g.ws)) t.machine) given_is g.denotes.hold) bare

    abbrev back : HandsBack func_meaning (export_file tree c.number old.home) p (result_shape types f) v h.own h.heap (carried types f names results tree nth old new c p us ws heap choices caller).call (carried types f names results tree nth old new c p us ws heap choices caller).os new
        (record { machine = at_words old ws heap choices; area = None }) (record { machine = at_words old ws heap choices; area = None })
    back = (carried types f names results tree nth old new c p us ws heap choices caller).gives v (honest_method v h)

    -- the account when the method has answered
    abbrev handed : Account RustValue
    handed = handed_on (carried types f names results tree nth old new c p us ws heap choices caller).call h.heap back.owners (account_of (at_words old ws heap choices))

    -- a result that is a word, or none
    word_ends : is_indirect (result_shape types f) ≡ false → Finished v h.own h.heap
    word_ends one =
        let (t, done, g) = subst (λ q. Follows func_meaning.account (placing_result q area_of handed) (seen None ran) (λ x t. Words x t)) one back.ends in
        let machine_done = (seen_done None ran t done).0 in
        let bare = bare_locals t.machine g.owns in
        record {
          words = g.ws;
          area = g.area;
          represents = g.represents;
          state = record t.machine { locals = [] };
          done = tail_done (record { result = []; account = handed }) t g machine_done bare;
          heap_left = λ k. ap (λ (x : Account RustValue). total k x.heap.blocks) g.account ∙ g.all k;
          requests = ap (λ (x : Account RustValue). x.requests) g.account ∙ ap (λ q. if q then option_to_list area_of else []) (sym one);
          stands = subst (λ q. MatchBool q ((request : Request) × (area_of ≡ Some request) × StandsAt request (slice_get choices.list 0) g.area) (g.area ≡ [])) (sym one) (no_area (result_shape types f) one None g.area g.placed);
        }
      where
        no_area : (r : Option Shape) → is_indirect r ≡ false → (at : Option ℕ) (area : List Block) → AreaStands (result_record r) area_of at area → area ≡ []
        no_area None e at area k = k
        no_area (Some t) e at area k = subst (λ q. AreaStands (if q then t ∷ [] else []) area_of at area) e k

    -- a result that passes by the area, which there is then
    some_area : is_indirect (result_shape types f) ≡ true → (request : Request) × (area_of ≡ Some request)
    some_area many = go (result_shape types f) many c.calls.records c.calls.for (shared_room results (result_shape types f) tree c.area c.calls.records c.calls.for)
      where
        there : (o : Option Request) (a : Asked) → HoldsRecord 2 o a → (request : Request) × (o ≡ Some request)
        there None a k = absurd k
        there (Some request) a k = (request, refl)

        records : (t : Shape) (asked : List Asked) → AreFor (t ∷ []) asked → AllByRecursion (HoldsRecord 2 area_of) asked → (request : Request) × (area_of ≡ Some request)
        records t [] h k = absurd h
        records t (a ∷ asked) h k = there area_of a k.0

        go : (r : Option Shape) → is_indirect r ≡ true → (asked : List Asked) → AreFor (result_record r) asked → AllByRecursion (HoldsRecord 2 area_of) asked → (request : Request) × (area_of ≡ Some request)
        go None e asked h k = absurd cc
        go (Some t) e asked h k = records t asked (subst (λ q. AreFor (if q then t ∷ [] else []) asked) e h) k

    -- where it stands
    stands_at : (t : Shape) (request : Request) (x : Got RustValue (List ℕ)) (area : List Block) → AreaTaken request choices.list handed x → AreaStands (t ∷ []) (Some request) (slice_get x.result 0) area → StandsAt request (slice_get choices.list 0) area
    stands_at t request x area taken k =
        let at : slice_get x.result 0 ≡ Some taken.address = ap (λ xs. slice_get xs 0) taken.result in
        record {
          block = k.block;
          is = k.is;
          chosen = ap (λ cs. slice_get cs 0) taken.chosen ∙ ap (λ a. Some (choice.At a)) (some_same taken.address k.block.address (sym at ∙ k.address));
          aligned = k.aligned;
          exact = k.exact;
        }

    by_placing : is_indirect (result_shape types f) ≡ true → (request : Request) → area_of ≡ Some request → (q : Outcome RustValue (Got RustValue (List ℕ))) → Placing request choices.list handed q → Follows func_meaning.account q (seen None ran) (λ x t. Words x t) → Ending v h.own h.heap
    by_placing many request is (Stuck after) k follows = absurd k
    by_placing many request is (Stopped e after) k follows =
        let (s, stops, account) = seen_stopped None ran after (follows ∙ ap (λ z. Stopped z after) k.0) in
        inr (record {
          request = request;
          is = is;
          many = many;
          misfit = k.1.misfit;
          state = s;
          stopped = ap (finish here c.item.result (tail_of c.given)) stops;
          requests = ap (λ (x : Account RustValue). x.requests) account ∙ k.1.requests;
          heap_left = ap (λ (x : Account RustValue). x.heap) account ∙ k.1.heap;
        })
    by_placing many request is (Done x) k (t, done, g) =
        let machine_done = (seen_done None ran t done).0 in
        let requests : t.machine.requests ≡ request ∷ [] = ap (λ (y : Account RustValue). y.requests) g.account ∙ k.requests in
        let placed = was_placed here old.home new.code c.item.call (at_words old ws heap choices) t.machine request c.head c.plain_call c.plain_rest machine_done refl requests in
        let bare = (placed_locals t.machine k.address placed (subst (λ xs. SameItems (owns_of t.machine) xs) k.result g.owns)).0 in
        inl (record {
          words = g.ws;
          area = g.area;
          represents = g.represents;
          state = record t.machine { locals = [] };
          done = tail_done x t g machine_done bare;
          heap_left = λ j. ap (λ (y : Account RustValue). total j y.heap.blocks) g.account ∙ g.all j;
          requests = requests ∙ sym (ap option_to_list is) ∙ ap (λ q. if q then option_to_list area_of else []) (sym many);
          stands = subst (λ q. MatchBool q ((request : Request) × (area_of ≡ Some request) × StandsAt request (slice_get choices.list 0) g.area) (g.area ≡ [])) (sym many)
              (request, is, one_area (result_shape types f) many x g.area k (subst (λ o. AreaStands (result_record (result_shape types f)) o (slice_get x.result 0) g.area) is g.placed));
        })
      where
        one_area : (r : Option Shape) → is_indirect r ≡ true → (x : Got RustValue (List ℕ)) (area : List Block) → AreaTaken request choices.list handed x → AreaStands (result_record r) (Some request) (slice_get x.result 0) area → StandsAt request (slice_get choices.list 0) area
        one_area None e x area k j = absurd cc
        one_area (Some t) e x area k j = stands_at t request x area k (subst (λ q. AreaStands (if q then t ∷ [] else []) (Some request) (slice_get x.result 0) area) e j)

    record_ends : is_indirect (result_shape types f) ≡ true → Ending v h.own h.heap
    record_ends many =
        let (request, is) = some_area many in
        let sized : IsArea request = subst (λ o. IfSome o IsArea) is (shared_sized results (result_shape types f) tree c.area) in
        by_placing many request is (placing_result true (Some request) handed) (places_or_misses request handed sized)
        (subst (λ o. Follows func_meaning.account (placing_result true o handed) (seen None ran) (λ x t. Words x t)) is (subst (λ q. Follows func_meaning.account (placing_result q area_of handed) (seen None ran) (λ x t. Words x t)) many back.ends))

    pub ends : Ending v h.own h.heap
    ends = by (is_indirect (result_shape types f)) refl
      where
        by : (q : Bool) → is_indirect (result_shape types f) ≡ q → Ending v h.own h.heap
        by true e = record_ends e
        by false e = inl (word_ends e)
