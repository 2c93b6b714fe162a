-- The law of the return area: it stands in a local, or is placed when its pointer is first taken.
use Rattle.std.proofs.Common.{◌≡◌, ℕ, ◌<◌, Bool, true, false, if◌then◌else◌, not, ◌&&◌, ◌||◌, nat_eq, ◌%◌, List, [], ◌∷◌, ◌++◌, reverse, Option, None, Some, refl, sym, ap, ◌∙◌, subst, arith}
use Rattle.std.specs.Prelude.{IfSome, option_to_list, codes}
use Rattle.std.specs.List.{flat_map}
use Rattle.std.proofs.lemmas.Bool.{and_parts, not-true}
use Rattle.wit_model.specs.Bytes.{Bytes}
use Rattle.wit_model.specs.Size.{alignment_at}
use Rattle.rust_tree.specs.declared.area.StaticArea.{StaticArea}
use Rattle.rust_tree.specs.declared.expr.Expr.{Expr}
use Rattle.rust_tree.specs.declared.expr.Expr.TheVariants as expr
use Rattle.rust_tree.specs.declared.stmt.Stmt.TheVariants as stmt
use Rattle.wrapper_data.specs.Heap.{is_block, overlaps_any}
use Rattle.wrapper_data.specs.declared.block.Block.{Block}
use Rattle.wrapper_data.specs.declared.choice.Choice.{Choice}
use Rattle.wrapper_data.specs.declared.choice.Choice.TheVariants as choice
use Rattle.wrapper_data.specs.declared.choice.Request.{Request}
use Rattle.wrapper_data.specs.declared.run.Stop.TheVariants as stop_of
use Rattle.wrapper_data.specs.declared.value.RustValue.{RustValue}
use Rattle.wrapper_data.specs.declared.word.Word.TheVariants as core
use Rattle.wrapper_meaning.specs.Ends.{fits}
use Rattle.wrapper_meaning.specs.Items.{total}
use Rattle.wrapper_values.specs.declared.owning.View.TheVariants as view_of
use Rattle.wrapper_values.specs.declared.state.Local.{Local}
use Rattle.wrapper_values.specs.declared.state.State.{State}
use Rattle.wrapper_values.specs.declared.state.Val.{Val}
use Rattle.wrapper_values.specs.declared.state.Val.TheVariants as val
use Rattle.wrapper_values.specs.Act as machine
use Rattle.wrapper_values.specs.Act.{and_then, pure}
use Rattle.wrapper_values.specs.Locals.{bind}
use Rattle.wrapper_values.specs.Owning.{owned_in}
use Rattle.wrapper_values.specs.Setting.{Setting, stuck}
use Rattle.wrapper_run.specs.Places.{area_block, area_in, is_fitting, place_area, place_at, place_static, request_of, static_place, static_pointer, with_area}
use Rattle.wrapper_run.specs.Run.{eval, run_stmts}
use Rattle.wrapper_run.specs.Inward.{CallsNothing}
use Rattle.wrapper_run.proofs.GiveSteps.{eval-static}
use Rattle.wrapper_run.proofs.QuietSteps.{quiet_static}
use Rattle.wrapper_run.proofs.StmtSteps.{runs-let}
use Rattle.wrapper_run.proofs.TakeLemmas.{area_gives, eval-return_pointer}
use Rattle.wrapper_run.proofs.QuietActs.{quiet_ask}
use Rattle.abi_bindgen.specs.declared.bindgen.Asked.{Asked}
use Rattle.abi_bindgen.specs.Account.{Done, Follows, Got, Outcome, Peer, Stopped, Stuck}
use Rattle.abi_bindgen.specs.Area.{HoldsRecord, IsAlignment, newly, placed, pointing}
use Rattle.abi_bindgen.specs.Area as areas
use Rattle.abi_bindgen.specs.Laws.{After, At, Facts, Grows, PointsTo, Quiet as QuietCode}
use Rattle.abi_bindgen.specs.Meaning.{of, word}
use Rattle.abi_bindgen.proofs.AllLemmas.{all_left, all_right}
use Rattle.abi_bindgen.proofs.Runs.{follows_more, grows_both, quiet_both, stops_same}
use Rattle.func_gen.specs.declared.function_bindgen.FunctionBindgen.{FunctionBindgen}
use Rattle.func_gen.specs.Added.{Appends, Fresh}
use Rattle.func_gen.specs.Area.{area_pointer, asking}
use Rattle.func_gen.specs.Forms.{operand_of}
use Rattle.func_gen.specs.Meaning.{AreaIs, Denote, File, FuncState, IsArea, account_of, func_meaning, owns_of, run_code, seen, setting_for, static_request}
use Rattle.func_gen.specs.Emission.{one_local}
use Rattle.func_gen.specs.Scope.{TakesOne}
use Rattle.func_gen.proofs.AreaRoom.{more_room}
use Rattle.func_gen.proofs.Forming.{written}
use Rattle.func_gen.proofs.Lasting.{owns_with, with_local}
use Rattle.func_gen.proofs.Placed.{owned_placed}
use Rattle.func_gen.proofs.Rows.{binds, bound, let_adds}
use Rattle.func_gen.proofs.Steps.{ran, seen_done}
use Rattle.wrapper_meaning.proofs.PostReturn.{total-append}

-- 1. It is noted that the area was asked for

asked_more : (import : Bool) (area : Option Request) (at : Option ℕ) (asked : List Asked) (a : Asked) (name : Bytes) (s : State) → AreaIs import area at asked name s → AreaIs import area at (asked ++ a ∷ []) name s
asked_more true None None asked a name s h = h
asked_more true None (Some address) asked a name s h = h
asked_more true (Some area) None asked a name s h = h
asked_more true (Some area) (Some address) asked a name s h = h
asked_more false area (Some address) asked a name s h = h
asked_more false area None [] a name s h = λ e. absurd cc
asked_more false area None (b ∷ asked) a name s h = λ e. absurd cc

known : (a : Asked) (b : FunctionBindgen) (w : File) (facts : Facts func_meaning) (s : FuncState) → Denote w b facts s → Denote w (asking a b) facts s
known a b w facts s d = record {
  hold = record { right = d.hold.right; apart = d.hold.apart; within = d.hold.within };
  owners = d.owners;
  area = asked_more b.import w.area s.area b.asked a b.area s.machine d.area;
}

noted_grows : (a : Asked) (b : FunctionBindgen) → IsAlignment a.align → Grows func_meaning b (asking a b)
noted_grows a b aligned = record {
  serves = λ w h. record { runtime = h.runtime; sites = h.sites; room = all_left (HoldsRecord 2 w.area) b.asked (a ∷ []) h.room; sized = h.sized; static = h.static; bound = h.bound; called = h.called; suspended = h.suspended };
  more = more_room a b aligned;
  stops = λ w p s h. stops_same func_meaning.account (func_meaning.does w p b.code s);
  imports = refl;
  exports = refl;
  arguments = refl;
  knows = λ types h. h;
  writes = λ types id h. h;
  target = λ f. refl;
  crosses = λ w f. refl;
  opened = refl;
  known = known a b;
}

-- 2. The two pointers make no call

quiet_return_pointer : (w : Setting) (name : Bytes) → CallsNothing (eval w (expr.ReturnPointer name))
quiet_return_pointer w name = subst CallsNothing (sym (eval-return_pointer w name)) (quiet_ask (stuck w) view_of.AreaAddress name)

quiet_pointer : (b : FunctionBindgen) (w : Setting) → CallsNothing (eval w (area_pointer b))
quiet_pointer b w = go b.import
  where
    go : (c : Bool) → CallsNothing (eval w (if c then expr.ReturnPointer b.area else expr.StaticPointer))
    go true = quiet_return_pointer w b.area
    go false = quiet_static w

-- 3. The static area is placed

abbrev keep : ℕ × ℕ → machine.Act Val
keep p = λ s. machine.Done (val.Word (core.Pointer p.0)) (record s { place = Some p.0 })

static_steps : (w : Setting) (s : State) (sa : StaticArea) → s.place ≡ None → area_in w.items ≡ Some sa → eval w expr.StaticPointer s ≡ and_then (place_area w (request_of sa.size sa.align) s) keep
unfolding static_pointer
static_steps w s sa unplaced there =
    ap (λ act. act s) (eval-static w)
    ∙ ap (λ p. and_then (static_place w p s) (λ address. pure (val.Word (core.Pointer address)))) unplaced
    ∙ ap (λ o. and_then (place_static w o s) (λ address. pure (val.Word (core.Pointer address)))) there
    ∙ go (place_area w (request_of sa.size sa.align) s)
  where
    go : (o : machine.Outcome (ℕ × ℕ)) → and_then (and_then o (λ p. λ s. machine.Done p.0 (record s { place = Some p.0 }))) (λ address. pure (val.Word (core.Pointer address))) ≡ and_then o keep
    go (machine.Done p t) = refl
    go (machine.Stopped e t) = refl

abbrev locals_own : State → List ℕ
locals_own s = flat_map (λ (l : Local). owned_in l.value) s.locals

-- the state with an area at an address
abbrev standing : Request → ℕ → List Choice → State → State
standing r address later s = record (with_area address r (record s { requests = s.requests ++ r ∷ [] })) { choices = later; place = Some address }

-- an outcome of the action, where the machine has this one of the pointer
abbrev Ties : (n : Bytes) → Outcome RustValue (Got RustValue ℕ) → machine.Outcome Val → (ℕ → FuncState → Type 0) → Type 0
Ties n o q P = Follows func_meaning.account o (seen None (and_then (and_then q (bind n)) (λ u. pure tt))) (λ x t. (x.account ≡ account_of t.machine) × P x.result t)

ties_placed : (w : Setting) (n : Bytes) (r : Request) (s : State) (P : ℕ → FuncState → Type 0)
    → ((address : ℕ) (later : List Choice) → is_fitting address r s.heap.blocks ≡ true → P address (record { machine = with_local (standing r address later s) n (val.Word (core.Pointer address)); area = None }))
    → Ties n (areas.placing r (account_of s)) (and_then (place_area w r s) keep) P
unfolding place_area bind
ties_placed w n r s P stands = tested (nat_eq r.size 0 || nat_eq r.align 0)
  where
    s1 : State
    s1 = record s { requests = s.requests ++ r ∷ [] }

    fitting : (address : ℕ) (later : List Choice) (c : Bool) → is_fitting address r s.heap.blocks ≡ c
        → Ties n (if c then Done (record { result = address; account = areas.with_area r address later (account_of s1) }) else Stopped stop_of.BadChoice (account_of s1))
        (and_then (if c then machine.Done (address, r.size) (record (with_area address r s1) { choices = later }) else machine.Stopped stop_of.BadChoice s1) keep) P
    fitting address later true e = (record { machine = with_local (standing r address later s) n (val.Word (core.Pointer address)); area = None }, refl, (refl, stands address later e))
    fitting address later false e = refl

    chosen : (choices : List Choice) → Ties n (placed r choices (account_of s1)) (and_then (place_at r choices s1) keep) P
    chosen [] = refl
    chosen (choice.Refuse ∷ later) = refl
    chosen (choice.At address ∷ later) = fitting address later (is_fitting address r s.heap.blocks) refl

    tested : (c : Bool) → Ties n (if c then Stuck (account_of s) else placed r s.choices (account_of s1)) (and_then (if c then machine.Stopped (stuck w) s else place_at r s.choices s1) keep) P
    tested true = refl
    tested false = chosen s.choices

-- 4. The row

module _ (a : Asked) (old mid : FunctionBindgen) (n : Bytes) (added : Appends old mid (stmt.Let n (area_pointer old) ∷ []) []) (fresh : Fresh old mid n) (aligned : IsAlignment a.align) where
  abbrev PointsAfter : (w : File) (p : Peer RustValue) (others : Facts func_meaning) (s0 s : FuncState) → Option Request → Option ℕ → Type 0
  PointsAfter w p others s0 s area at =
      Follows func_meaning.account (pointing area at (account_of s.machine)) (func_meaning.does w p mid.code s0)
      (λ x t. After func_meaning w (asking a mid) (of (operand_of (expr.Local n)) (word (core.Pointer x.result)) ∷ others) (newly at x.result) [] s x t)

  module _ (w : File) (p : Peer RustValue) (others : Facts func_meaning) (s0 s : FuncState) (stands : At func_meaning w p old (asking a mid) others s0 s) where
    at_mid : At func_meaning w p old mid others s0 s
    at_mid = record { serves = (noted_grows a mid aligned).serves w stands.serves; done = stands.done; holds = stands.holds }

    holds_record : HoldsRecord 2 w.area a
    holds_record = (all_right (HoldsRecord 2 w.area) mid.asked (a ∷ []) stands.serves.room).0

    steps : (e : Expr) → area_pointer old ≡ e → func_meaning.does w p mid.code s0 ≡ seen s.area (run_stmts (setting_for w p) (stmt.Let n e ∷ []) s.machine)
    steps e is = ran old mid (stmt.Let n (area_pointer old) ∷ []) [] added w p others s0 s at_mid ∙ ap (λ x. seen s.area (run_stmts (setting_for w p) (stmt.Let n x ∷ []) s.machine)) is

    -- the new local denotes the address
    denotes : (address : ℕ) → Denote w mid (of (operand_of (expr.Local n)) (word (core.Pointer address)) ∷ others) (record { machine = with_local s.machine n (val.Word (core.Pointer address)); area = s.area })
    denotes address = bound old mid n (area_pointer old) [] added fresh (quiet_pointer old) [] others w s (val.Word (core.Pointer address)) (word (core.Pointer address)) stands.holds refl refl

    -- where the area stands in a local
    of_import : old.import ≡ true → (area : Option Request) (address : ℕ) → AreaIs true area (Some address) old.asked old.area s.machine → PointsAfter w p others s0 s area (Some address)
    of_import import None address h = absurd h
    of_import import (Some area) address h =
        let v = val.Word (core.Pointer address) in
        let pointer = ap (λ (c : Bool). if c then expr.ReturnPointer old.area else expr.StaticPointer) import in
        let t : FuncState = record { machine = with_local s.machine n v; area = s.area } in (
          t,
          steps (expr.ReturnPointer old.area) pointer ∙ ap (seen s.area) (binds (setting_for w p) n (expr.ReturnPointer old.area) v s.machine (area_gives (setting_for w p) old.area address area.size s.machine h.0)),
          record {
            account = refl;
            owns = λ g. omega (arith, total-append g (owns_of t.machine) [], total-append g (owns_of s.machine) [], owns_with g s.machine n v);
            denotes = known a mid w (of (operand_of (expr.Local n)) (word (core.Pointer address)) ∷ others) t (denotes address);
          },
        )

    -- where the area is placed
    module _ (sa : StaticArea) (there : area_in w.items ≡ Some sa) (is : w.area ≡ Some (request_of sa.size sa.align)) (outside : s.area ≡ None) (unplaced : s.machine.place ≡ None) (export : old.import ≡ false) where
      abbrev placed_at : ℕ → List Choice → FuncState
      placed_at address later = record { machine = with_local (standing (request_of sa.size sa.align) address later s.machine) n (val.Word (core.Pointer address)); area = None }

      abbrev Placed : ℕ → FuncState → Type 0
      Placed address t = ((g : ℕ → ℕ) → total g (owns_of t.machine ++ []) ≡ total g (owns_of s.machine ++ address ∷ [])) × Denote w (asking a mid) (of (operand_of (expr.Local n)) (word (core.Pointer address)) ∷ others) t

      not_asked_no_more : (asked : List Asked) → asked ++ a ∷ [] ≡ [] → ⊥
      not_asked_no_more [] e = absurd cc
      not_asked_no_more (b ∷ asked) e = absurd cc

      -- the area has an owner then, and the local denotes its address
      is_placed : (address : ℕ) (later : List Choice) → is_fitting address (request_of sa.size sa.align) s.machine.heap.blocks ≡ true → Placed address (placed_at address later)
      is_placed address later fits = (
        λ g.
            let v = val.Word (core.Pointer address) in
            let t = standing (request_of sa.size sa.align) address later s.machine in
            let before = ap (λ o. total g (option_to_list o)) unplaced in
            omega (arith, before, owns_with g t n v, total-append g (owns_of (with_local t n v)) [], total-append g (owns_of s.machine) (address ∷ []), total-append g (option_to_list s.machine.place) (locals_own s.machine)),
        record {
          hold = record { right = (denotes address).hold.right; apart = (denotes address).hold.apart; within = (denotes address).hold.within };
          owners = owned_placed (area_block address (request_of sa.size sa.align)) some s.machine.heap.blocks s.machine.taken alone stands.holds.owners;
          area = subst (λ i. AreaIs i w.area None (mid.asked ++ a ∷ []) mid.area (placed_at address later).machine) (sym (added.import ∙ export)) (λ e. absurd (not_asked_no_more mid.asked e));
        },
      )
        where
          b : Block
          b = area_block address (request_of sa.size sa.align)

          parts : ((is_block b && not (overlaps_any b s.machine.heap.blocks)) ≡ true) × (nat_eq (address % alignment_at sa.align 4) 0 ≡ true)
          parts = and_parts (is_block b && not (overlaps_any b s.machine.heap.blocks)) (nat_eq (address % alignment_at sa.align 4) 0) fits

          both : (is_block b ≡ true) × (not (overlaps_any b s.machine.heap.blocks) ≡ true)
          both = and_parts (is_block b) (not (overlaps_any b s.machine.heap.blocks)) parts.0

          alone : overlaps_any b s.machine.heap.blocks ≡ false
          alone = not-true (overlaps_any b s.machine.heap.blocks) both.1

          some : 0 < b.size
          some = (subst (λ x. IfSome x IsArea) is stands.serves.sized).0

      -- what the machine places is what the action does
      of_export : PointsAfter w p others s0 s (Some (request_of sa.size sa.align)) None
      of_export =
          let pointer = ap (λ (c : Bool). if c then expr.ReturnPointer old.area else expr.StaticPointer) export in
          let evaluated = static_steps (setting_for w p) s.machine sa unplaced there in
          let runs = steps expr.StaticPointer pointer
          ∙ ap (λ x. seen x (run_stmts (setting_for w p) (stmt.Let n expr.StaticPointer ∷ []) s.machine)) outside
          ∙ ap (seen None) (runs-let (setting_for w p) n expr.StaticPointer [] s.machine) ∙ ap (λ o. seen None (and_then (and_then o (bind n)) (λ u. pure tt))) evaluated in
          let acc = account_of s.machine in
          let r = request_of sa.size sa.align in
          subst (λ o. Follows func_meaning.account (areas.placing r acc) o (λ x t. After func_meaning w (asking a mid) (of (operand_of (expr.Local n)) (word (core.Pointer x.result)) ∷ others) (newly None x.result) [] s x t)) (sym runs)
          (follows_more func_meaning.account (areas.placing r acc) (seen None (and_then (and_then (and_then (place_area (setting_for w p) r s.machine) keep) (bind n)) (λ u. pure tt)))
          (λ x t. (x.account ≡ account_of t.machine) × Placed x.result t)
          (λ x t. After func_meaning w (asking a mid) (of (operand_of (expr.Local n)) (word (core.Pointer x.result)) ∷ others) (newly None x.result) [] s x t)
          (ties_placed (setting_for w p) n r s.machine Placed is_placed)
          (λ x t h. record { account = sym h.0; owns = h.1.0; denotes = h.1.1 }))

    by_static : (o : Option StaticArea) → area_in w.items ≡ o → s.area ≡ None → s.machine.place ≡ None → old.import ≡ false → PointsAfter w p others s0 s w.area None
    by_static None e outside unplaced export =
        let none : w.area ≡ None = stands.serves.static (added.import ∙ export) ∙ ap static_request e in
        absurd (subst (λ x. HoldsRecord 2 x a) none holds_record)
    by_static (Some sa) e outside unplaced export =
        let is : w.area ≡ Some (request_of sa.size sa.align) = stands.serves.static (added.import ∙ export) ∙ ap static_request e in
        subst (λ x. PointsAfter w p others s0 s x None) (sym is) (of_export sa e is outside unplaced export)

    -- where it does not stand yet, the code is an export's
    points : (import : Bool) → old.import ≡ import → (at : Option ℕ) → s.area ≡ at → (at ≡ None → (not old.import ≡ true) × (old.asked ≡ [])) → AreaIs import w.area at old.asked old.area s.machine → PointsAfter w p others s0 s w.area at
    points true e None f first h = absurd (let export : false ≡ true = ap not (sym e) ∙ (first refl).0 in cc)
    points true e (Some address) f first h = of_import e w.area address h
    points false e None f first h = by_static (area_in w.items) refl f (h (first refl).1) e
    points false e (Some address) f first h = absurd h

  -- the statement, and then the note
  pub points_to : TakesOne old.scope (codes "ptr") n mid.scope → PointsTo func_meaning a (operand_of (expr.Local n)) old (asking a mid)
  points_to one =
      let writes = written old mid (operand_of (expr.Local n) ∷ []) (one_local (codes "ptr") (area_pointer old) []) one.number one.takes (subst (λ x. Appends old mid (stmt.Let x (area_pointer old) ∷ []) []) one.is added) (ap (λ x. operand_of (expr.Local x) ∷ []) one.is) in
      let adds = let_adds old mid n (area_pointer old) [] added fresh (quiet_pointer old) in
      let noted = noted_grows a mid aligned in
      let silent : QuietCode func_meaning mid (asking a mid) = λ w f s h. refl in
      record {
        grows = grows_both func_meaning old mid (asking a mid) adds.grows noted silent;
        quiet = quiet_both func_meaning old mid (asking a mid) adds.quiet noted silent;
        returned = added.returned;
        asked = ap (λ asked. asked ++ a ∷ []) added.asked;
        blocks = ap reverse added.finished;
        form = λ types. record {
          code = record { code = one_local (codes "ptr") (area_pointer old) []; is = refl; writes = record { number = writes.number; takes = writes.takes; call = writes.call; stmts = writes.stmts; runtime = writes.runtime; results = writes.results; opened = writes.opened; finished = writes.finished } };
          still = record { import = added.import; home = added.home; area = added.area; params = added.params; sites = added.sites; sizes = added.sizes };
          given = tt;
        };
        row = λ w p others s0 s at stands here first.
            let outside = (seen_done s0.area (run_code (setting_for w p) w.bound old.code s0.machine) s stands.done).1 ∙ here in
            points w p others s0 s stands old.import refl at outside first (subst (λ x. AreaIs old.import w.area x old.asked old.area s.machine) outside stands.holds.area);
      }
