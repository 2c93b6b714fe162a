-- An import that closes the driver's code ends as it owes, where its peer's answer is honest.
use Rattle.std.proofs.Common.{◌≡◌, ◌≤◌, ℕ, suc, Bool, true, false, MatchBool, List, [], ◌∷◌, ◌++◌, length, Option, None, Some, slice_get, refl, sym, ap, ap₂, ◌∙◌, subst, arith, append-nil}
use Rattle.std.specs.Prelude.{option_to_list}
use Rattle.std.specs.Option.{option_map}
use Rattle.rust_tree.specs.Tree.{Tree}
use Rattle.rust_tree.specs.declared.item.Item.{Item}
use Rattle.rust_tree.specs.declared.type_expr.TypeExpr.{TypeExpr}
use Rattle.wit_model.specs.Bytes.{Bytes}
use Rattle.wit_model.specs.declared.function.Function.{Function}
use Rattle.wit_model.specs.declared.types.TypeDef.{TypeDef}
use Rattle.wit_model.specs.declared.types.WitType.{WitType}
use Rattle.wrapper_data.specs.Answered.{answered}
use Rattle.wrapper_data.specs.declared.answer.Answer.TheVariants as answer
use Rattle.wrapper_data.specs.declared.block.Block.{Block}
use Rattle.wrapper_data.specs.declared.choice.Request.{Request}
use Rattle.wrapper_data.specs.declared.choice.Choices.{Choices}
use Rattle.wrapper_data.specs.declared.heap.Heap.{Heap}
use Rattle.wrapper_data.specs.declared.run.CallPoint.{CallPoint}
use Rattle.wrapper_data.specs.declared.value.RustValue.{RustValue}
use Rattle.wrapper_data.specs.declared.value.RustValue.TheVariants as value
use Rattle.wrapper_data.specs.declared.word.Word.{Word}
use Rattle.wrapper_data.specs.declared.word.Word.TheVariants as core
use Rattle.wrapper_data.specs.Heap.{is_heap}
use Rattle.wrapper_data.proofs.FormedHeaps.{formed, formed_answered, is_formed}
use Rattle.wrapper_meaning.specs.Areas.{IsArea as IsAreaOf, StandsAt, area_for}
use Rattle.wrapper_meaning.specs.Calls.{pointers}
use Rattle.wrapper_meaning.specs.Direction.{take}
use Rattle.wrapper_meaning.specs.Honest.{AnswersValue, HonestPeer, result_size}
use Rattle.wrapper_meaning.specs.InRange.{IsListedResult}
use Rattle.wrapper_meaning.specs.Represents.{is_indirect}
use Rattle.wrapper_meaning.specs.Items.{SameItems, total}
use Rattle.wrapper_meaning.specs.Settled.{settled_result}
use Rattle.wrapper_meaning.specs.Shape.{Shape, param_shapes, result_shape, shape_of}
use Rattle.wrapper_meaning.specs.StandsFor.{ResultStands}
use Rattle.wrapper_meaning.specs.Value.{Parts, Result}
use Rattle.wrapper_meaning.proofs.Lists.{some_same}
use Rattle.wrapper_values.specs.declared.state.State.{State}
use Rattle.wrapper_values.specs.declared.state.Val.{Val}
use Rattle.wrapper_values.specs.declared.state.Val.TheVariants as val
use Rattle.wrapper_values.specs.Act as machine
use Rattle.wrapper_values.specs.Setting.{Setting}
use Rattle.wrapper_values.specs.Typed.{answer_in}
use Rattle.wrapper_run.specs.Run.{answer_and_leave, run_stmts, run_tail}
use Rattle.abi_bindgen.specs.declared.bindgen.Asked.{Asked}
use Rattle.abi_bindgen.specs.Account.{Account, Call, Peer, Reply, words, value as value_reply}
use Rattle.abi_bindgen.specs.Account.{addresses}
use Rattle.abi_bindgen.specs.Area.{AreFor, SameArea}
use Rattle.abi_driver.specs.Imports.{IsHonest, ResultStands as DriverResult, point_of}
use Rattle.abi_bindgen.specs.Laws.{item_data, ofs}
use Rattle.abi_bindgen.specs.Meaning.{item, of}
use Rattle.abi_driver.proofs.HonestAnswers.{in_words}
use Rattle.abi_driver.proofs.ImportSteps.{answer_in_area, same_addresses}
use Rattle.func_gen.specs.FuncSound.{func_sound}
use Rattle.func_gen.specs.Facts.{Hold}
use Rattle.func_gen.specs.Meaning.{AreaIs, FuncState, account_of, answer_of, call_of, func_meaning, owns_of, setting_for}
use Rattle.func_gen.specs.declared.function_bindgen.FunctionBindgen.{FunctionBindgen}
use Rattle.func_gen.specs.declared.operand.ExprOperand.{ExprOperand}
use Rattle.func_gen.proofs.Moving.{uses}
use Rattle.func_gen.proofs.PartRows.{owned_is}
use Rattle.func_gen.proofs.Steps.{seen_done}
use Rattle.wrapper_closing.specs.ClosedImport.{AnswersAs, ClosesImport}
use Rattle.wrapper_closing.specs.ImportBlock.{tail_of, wanted}
use Rattle.wrapper_closing.proofs.AnswerHeap.{AreaAfter, silent, spoken}
use Rattle.wrapper_closing.proofs.ClosedArea.{records_of, room_for_result, some_wanted}
use Rattle.wrapper_closing.proofs.ImportCalls.{carried, does_is, finish, rest, written_stands}
use Rattle.wrapper_closing.proofs.ImportLeaves.{LeftOver, gives_and_leaves, left_over}
use Rattle.wrapper_closing.proofs.ImportStart.{Ready, asked_for, due_area, file}
use Rattle.wrapper_closing.proofs.SettledDirect.{settled_listed}
use Rattle.wrapper_meaning.proofs.PostReturn.{total-append}

-- 1. Honesty, as the driver tells it

words_of : (reply : Reply RustValue) (result : Option Word) (writes : List (ℕ × ℕ)) (new : List Block) → answer_of reply ≡ answer.Words result writes new → reply ≡ words result writes new
words_of (words r w b) result writes new h = cc
words_of (value_reply v heap) result writes new h = absurd cc

point_again : (p : CallPoint) → p.values ≡ [] → p ≡ point_of (call_of p)
point_again p none = ap {B = CallPoint} (λ vs. record { target = p.target; words = p.words; values = vs; heap = p.heap }) none

pub honest_call : (r : Option Shape) (u : Result r) (reply : Reply RustValue) (p : CallPoint) (c : Call RustValue) → call_of p ≡ c → p.values ≡ [] → HonestPeer 2 r u (answer_of reply) p → IsHonest 2 r u reply c
honest_call r u reply p c is none h = record {
  good = h.good;
  result = h.result;
  writes = h.writes;
  new = h.new;
  answers = words_of reply h.result h.writes h.new h.answers;
  represents = subst (λ q. AnswersValue 2 r u q h.result h.writes h.new) (point_again p none ∙ ap point_of is) h.represents;
}

-- of an import the static area is not placed
unplaced : (area : Option Request) (at : Option ℕ) (asked : List Asked) (name : Bytes) (s : State) → AreaIs true area at asked name s → s.place ≡ None
unplaced None None asked name s h = h
unplaced None (Some a) asked name s h = absurd h
unplaced (Some r) None asked name s h = h
unplaced (Some r) (Some a) asked name s h = h.1

-- 2. The heap after it

many_addresses : (blocks : List Block) → length (addresses blocks) ≡ length blocks
many_addresses [] = refl
many_addresses (b ∷ blocks) = ap suc (many_addresses blocks)

module _ (types : List TypeDef) (f : Function) (tree : Tree) (nth : ℕ) (old new : FunctionBindgen) (c : ClosesImport types f tree nth old new) (p : Peer RustValue) (vs : Parts (param_shapes types f)) (rs : List RustValue) (heap : Heap) (choices : Choices) (ready : Ready types f tree nth old new c p vs rs heap choices) where
  abbrev call : Call RustValue
  call = (carried types f tree nth old new c p vs rs heap choices ready).call

  abbrev written : List Block
  written = (carried types f tree nth old new c p vs rs heap choices ready).passes.written

  abbrev IsHonestHere : Result (result_shape types f) → Type 0
  IsHonestHere u = IsHonest 2 (result_shape types f) u p.reply (carried types f tree nth old new c p vs rs heap choices ready).call

  -- of a result that passes by the area, all was written there
  spoken_area : (u : Result (result_shape types f)) (honest : IsHonestHere u) → is_indirect (result_shape types f) ≡ true → (t : Shape) → result_shape types f ≡ Some t → AreaAfter heap.blocks written honest.new honest.writes call.heap
  spoken_area u honest many t is =
      let passes = (carried types f tree nth old new c p vs rs heap choices ready).passes in
      let indirect : is_indirect (Some t) ≡ true = sym (ap is_indirect is) ∙ many in
      let asked = subst (λ r. AreFor (records_of (param_shapes types f) r) new.asked) is (asked_for types f tree nth old new c) in
      let (area, wants) = some_wanted (param_shapes types f) t new.asked indirect asked in
      let due : area_for 2 (records_of (param_shapes types f) (result_shape types f)) ≡ area ∷ [] = sym (due_area types f tree nth old new c) ∙ ap option_to_list wants in
      let stands : StandsAt area (slice_get choices.list 0) written = subst (λ due_areas. IsAreaOf due_areas (slice_get choices.list 0) written) due
      (written_stands (area_for 2 (records_of (param_shapes types f) (result_shape types f))) (slice_get choices.list 0) ready.area written ready.stands passes.same) in
      let named : passes.passes.pointer ≡ pointers written = subst (λ b. MatchBool b (passes.passes.pointer ≡ pointers written) (passes.passes.pointer ≡ [])) many passes.passes.named in
      let words : call.words ≡ passes.passes.arguments ++ core.Pointer stands.block.address ∷ [] = passes.passes.all ∙ ap (λ ws. passes.passes.arguments ++ ws) (named ∙ ap pointers stands.is) in
      let inside = answer_in_area func_meaning func_sound (result_shape types f) u p.reply call honest passes.passes.arguments stands.block.address many words in
      let size : result_size 2 (result_shape types f) ≤ stands.block.size = omega (arith, ap (result_size 2) is, room_for_result (param_shapes types f) t new.asked area indirect asked wants, stands.exact) in
      spoken heap.blocks written honest.new call.heap passes.formed passes.kept honest.represents.fresh stands.block stands.is honest.writes stands.block.address (result_size 2 (result_shape types f)) refl size inside.inside

  -- of another, nothing was
  area_after : (u : Result (result_shape types f)) (honest : IsHonestHere u) → AreaAfter heap.blocks written honest.new honest.writes call.heap
  area_after u honest = by (is_indirect (result_shape types f)) refl
    where
      some : (r : Option Shape) → is_indirect r ≡ true → (t : Shape) × (r ≡ Some t)
      some None e = absurd cc
      some (Some t) e = (t, refl)

      by : (q : Bool) → is_indirect (result_shape types f) ≡ q → AreaAfter heap.blocks written honest.new honest.writes call.heap
      by true e = let (t, is) = some (result_shape types f) e in spoken_area u honest e t is
      by false e =
          let passes = (carried types f tree nth old new c p vs rs heap choices ready).passes in
          subst (λ ws. AreaAfter heap.blocks written honest.new ws call.heap) (sym (in_words 2 (result_shape types f) u p.reply call honest e).silent)
          (silent heap.blocks written honest.new call.heap passes.formed passes.kept honest.represents.fresh)

  -- 3. The state behind the statements

  pub record Behind (u : Result (result_shape types f)) : Type 0 where
    pub state : FuncState
    pub done : run_stmts (setting_for (file types f tree nth old new c) p) new.code.stmts ready.state.machine ≡ machine.Done tt state.machine
    pub vals : List RustValue
    pub own : List Block
    pub stands : DriverResult func_meaning take (result_shape types f) (settled_result (result_shape types f) u) vals own
    pub holds : Hold tree.items new (ofs func_meaning c.given (item_data func_meaning vals) ++ []) state.machine
    pub whole : is_heap state.machine.heap ≡ true
    pub after : List Block
    pub short : length after ≤ 1
    pub all : SameItems state.machine.heap.blocks ((heap.blocks ++ own) ++ after)
    pub owns : SameItems (owns_of state.machine) (addresses after ++ addresses own)
    pub taken : state.machine.taken ≡ addresses after ++ addresses own
    pub requests : state.machine.requests ≡ option_to_list (wanted new.asked)
    pub place : state.machine.place ≡ None

  short_after : (u : Result (result_shape types f)) (honest : IsHonestHere u) → length (area_after u honest).after ≤ 1
  short_after u honest =
      let passes = (carried types f tree nth old new c p vs rs heap choices ready).passes in
      let a = area_after u honest in
      let same = ap length (a.same ∙ same_addresses ready.area written passes.same) in
      omega (arith, same, many_addresses a.after, many_addresses ready.area, ready.short)

  pub behind : (u : Result (result_shape types f)) → IsHonestHere u → Behind u
  behind u honest =
      let back = (carried types f tree nth old new c p vs rs heap choices ready).gives u honest in
      let a = area_after u honest in
      let passes = (carried types f tree nth old new c p vs rs heap choices ready).passes in
      let areas : addresses a.after ≡ addresses ready.area = a.same ∙ same_addresses ready.area written passes.same in
      let given : back.os ≡ c.given = some_same back.os c.given (sym back.returned ∙ c.returned) in
      let heap_is : back.state.machine.heap ≡ answered honest.new honest.writes call.heap = ap (λ (x : Account RustValue). x.heap) back.after.account in
      let owns_is : owns_of ready.state.machine ≡ addresses a.after = ready.owns ∙ sym areas in
      record {
        state = back.state;
        done = (seen_done ready.state.area (run_stmts (setting_for (file types f tree nth old new c) p) new.code.stmts ready.state.machine) back.state
            (sym (does_is types f tree nth old new c p vs rs heap choices ready.state) ∙ back.done)).0;
        vals = back.vals;
        own = back.own;
        stands = back.stands;
        holds = subst (λ os. Hold tree.items new (ofs func_meaning os (item_data func_meaning back.vals) ++ []) back.state.machine) given back.after.denotes.hold;
        whole = ap is_heap heap_is ∙ is_formed (answered honest.new honest.writes call.heap) (formed_answered call.heap honest.new honest.writes (formed call.heap passes.formed));
        after = a.after;
        short = short_after u honest;
        all = λ g. ap (λ (h : Heap). total g h.blocks) heap_is ∙ a.all g
            ∙ omega (arith, back.all g, total-append g (heap.blocks ++ honest.new) a.after, total-append g (heap.blocks ++ back.own) a.after, total-append g heap.blocks honest.new, total-append g heap.blocks back.own);
        owns = λ g. sym (ap (total g) (append-nil (owns_of back.state.machine))) ∙ back.after.owns g ∙ ap (λ xs. total g (xs ++ addresses back.own)) owns_is;
        taken = ap (λ (x : Account RustValue). x.taken) back.after.account ∙ ap (λ xs. xs ++ addresses back.own) (ready.taken ∙ sym areas);
        requests = ap (λ (x : Account RustValue). x.requests) back.after.account ∙ ready.requests;
        place = unplaced (wanted new.asked) back.state.area new.asked new.area back.state.machine
            (subst (λ i. AreaIs i (wanted new.asked) back.state.area new.asked new.area back.state.machine) (c.still.import ∙ c.import) back.after.denotes.area);
      }

  -- 4. What is given

  abbrev here : Setting
  here = setting_for (file types f tree nth old new c) p

  -- a run that is done, with a value that stands for the peer's
  pub record Finished (u : Result (result_shape types f)) (o : machine.Outcome (Option RustValue)) : Type 0 where
    pub answer : Option RustValue
    pub own : List Block
    pub stands : ResultStands 2 (result_shape types f) (settled_result (result_shape types f) u) answer own
    pub state : State
    pub done : o ≡ machine.Done answer state
    pub heap_left : SameItems state.heap.blocks (heap.blocks ++ own)
    pub requests : state.requests ≡ option_to_list (wanted new.asked)

  module _ (u : Result (result_shape types f)) (b : Behind u) where
    -- the locals go, where what the value owned is no more among what they own
    leaves_at : (s : State) → account_of s ≡ account_of b.state.machine → s.place ≡ None → SameItems (owns_of s) (addresses b.after) → LeftOver here s (heap.blocks ++ b.own)
    leaves_at s same place owns =
        left_over here s (heap.blocks ++ b.own) (ap (λ (x : Account RustValue). is_heap x.heap) same ∙ b.whole) place b.after (addresses b.own) b.short owns (ap (λ (x : Account RustValue). x.taken) same ∙ b.taken)
        (λ g. ap (λ (x : Account RustValue). total g x.heap.blocks) same ∙ b.all g)

    finishes : (v : Val) (s : State) (answer : Option RustValue) → run_tail here (tail_of c.given) b.state.machine ≡ machine.Done v s → answer_in tree.items c.item.result v ≡ Some answer → account_of s ≡ account_of b.state.machine → s.place ≡ None → SameItems (owns_of s) (addresses b.after)
        → ResultStands 2 (result_shape types f) (settled_result (result_shape types f) u) answer b.own → Finished u (finish here c.item (tail_of c.given) (machine.Done tt b.state.machine))
    finishes v s answer tail is same place owns stands =
        let left = leaves_at s same place owns in
        record {
          answer = answer;
          own = b.own;
          stands = stands;
          state = left.state;
          done = ap (λ o. machine.and_then o (answer_and_leave here c.item.result)) tail ∙ gives_and_leaves here c.item v answer s (heap.blocks ++ b.own) is left;
          heap_left = left.heap;
          requests = left.requests ∙ ap (λ (x : Account RustValue). x.requests) same ∙ b.requests;
        }

-- 5. Its tail, by whether there is a result

-- what stands for a result, where there is one, with what the code gives of it
record Tail (w : Setting) (items : List Item) (ty : TypeExpr) (given : List ExprOperand) (r : Option Shape) (u : Result r) (own after : List Block) (s : State) : Type 0 where
  value : Val
  state : State
  answer : Option RustValue
  runs : run_tail w (tail_of given) s ≡ machine.Done value state
  is : answer_in items ty value ≡ Some answer
  same : account_of state ≡ account_of s
  place : state.place ≡ s.place
  owns : SameItems (owns_of state) (addresses after)
  stands : ResultStands 2 r u answer own

tail_runs : (w : Setting) (new : FunctionBindgen) (ty : TypeExpr) (given : List ExprOperand) (r : Option Shape) (u : Result r) (vals : List RustValue) (own after : List Block) (s : State) → AnswersAs w.items ty r → IsListedResult r u → length given ≡ length (option_to_list r)
    → DriverResult func_meaning take r u vals own → Hold w.items new (ofs func_meaning given (item_data func_meaning vals) ++ []) s → SameItems (owns_of s) (addresses after ++ addresses own) → Tail w w.items ty given r u own after s
tail_runs w new ty [] None u vals own after s answers listed count stands holds owns =
    record {
      value = val.Value value.Unit;
      state = s;
      answer = None;
      runs = refl;
      is = answers;
      same = refl;
      place = refl;
      owns = λ g. owns g ∙ ap (λ bs. total g (addresses after ++ addresses bs)) stands.1 ∙ ap (total g) (append-nil (addresses after));
      stands = (refl, stands.1);
    }
tail_runs w new ty (o ∷ os) None u vals own after s answers listed count stands holds owns = absurd (omega (arith, count))
tail_runs w new ty [] (Some t) u vals own after s answers listed count stands holds owns = absurd (omega (arith, count))
tail_runs w new ty (o ∷ p ∷ os) (Some t) u vals own after s answers listed count stands holds owns = absurd (omega (arith, count))
tail_runs w new ty (o ∷ []) (Some t) u vals own after s answers listed count (a, is, stands) holds owns =
    let held : Hold w.items new (of o (item a) ∷ []) s = subst (λ vs. Hold w.items new (ofs func_meaning (o ∷ []) (item_data func_meaning vs) ++ []) s) is holds in
    let used = uses w new o a [] s held in
    let (q, answered_as, also) = answers u used.given a own listed used.is stands.0 in
    record {
      value = used.given;
      state = used.then;
      answer = Some q;
      runs = used.evaluated;
      is = answered_as;
      same = used.account;
      place = used.place;
      owns = λ g.
          let own_of = ap (total g) (owned_is used.given a used.is) in
          let owned = func_sound.owned t u a own stands g in
          omega (arith, used.owns g, own_of, owned, owns g, total-append g (addresses after) (addresses own));
      stands = (q, refl, also);
    }

-- as many results as the function has
one_count : (types : List TypeDef) (res : Option WitType) → length (option_to_list (option_map (shape_of types) res)) ≡ length (option_to_list res)
one_count types None = refl
one_count types (Some ty) = refl

module _ (types : List TypeDef) (f : Function) (tree : Tree) (nth : ℕ) (old new : FunctionBindgen) (c : ClosesImport types f tree nth old new) (p : Peer RustValue) (vs : Parts (param_shapes types f)) (rs : List RustValue) (heap : Heap) (choices : Choices) (ready : Ready types f tree nth old new c p vs rs heap choices) where
  -- the whole run, where the peer's answer is honest
  pub finished : (u : Result (result_shape types f)) → IsHonestHere types f tree nth old new c p vs rs heap choices ready u → Finished types f tree nth old new c p vs rs heap choices ready u (rest types f tree nth old new c p ready.state.machine)
  finished u honest =
      let b = behind types f tree nth old new c p vs rs heap choices ready u honest in
      let t = tail_runs (setting_for (file types f tree nth old new c) p) new c.item.result c.given (result_shape types f) (settled_result (result_shape types f) u) b.vals b.own b.after b.state.machine c.answers (settled_listed (result_shape types f) u c.result honest.good) (c.count ∙ sym (one_count types f.result)) b.stands b.holds b.owns in
      subst (Finished types f tree nth old new c p vs rs heap choices ready u) (ap (finish (setting_for (file types f tree nth old new c) p) c.item (tail_of c.given)) (sym b.done))
      (finishes types f tree nth old new c p vs rs heap choices ready u b t.value t.state t.answer t.runs t.is t.same (t.place ∙ b.place) t.owns t.stands)
