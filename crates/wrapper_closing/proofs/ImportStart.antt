-- An import that closes the driver's code begins as the driver's contract asks, or its area misses the first choice.
use Rattle.std.proofs.Common.{◌≡◌, ◌⊎◌, inl, inr, ◌≤◌, ◌<◌, ℕ, true, false, not, ◌&&◌, ◌%◌, nat_eq, List, [], ◌∷◌, ◌++◌, length, Option, None, Some, slice_get, refl, sym, ap, ◌∙◌, subst, arith, append-nil}
use Rattle.std.specs.Prelude.{IfSome, option_to_list}
use Rattle.std.proofs.lemmas.Bool.{and_parts, eqb-true, not-true, true≢false}
use Rattle.rust_tree.specs.declared.area.ReturnArea.{ReturnArea}
use Rattle.rust_tree.specs.declared.stmt.Stmt.TheVariants as stmt
use Rattle.rust_tree.specs.Tree.{Tree}
use Rattle.wit_model.specs.declared.function.Function.{Function}
use Rattle.wit_model.specs.declared.types.TypeDef.{TypeDef}
use Rattle.wrapper_data.specs.declared.block.Block.{Block}
use Rattle.wrapper_data.specs.declared.choice.Choices.{Choices}
use Rattle.wrapper_data.specs.declared.choice.Request.{Request}
use Rattle.wrapper_data.specs.declared.heap.Heap.{Heap}
use Rattle.wrapper_data.specs.declared.run.Stop.TheVariants as stop_of
use Rattle.wrapper_data.specs.declared.value.RustValue.{RustValue}
use Rattle.wrapper_data.specs.Heap.{is_block, is_heap, overlaps_any}
use Rattle.wrapper_data.proofs.FormedHeaps.{formed, formed_added, is_formed}
use Rattle.wrapper_meaning.specs.Areas.{IsArea as IsAreaOf, area_for}
use Rattle.wrapper_meaning.specs.Ends.{Misfits, fits}
use Rattle.wrapper_meaning.specs.Items.{total}
use Rattle.wrapper_meaning.specs.Settled.{AreValues}
use Rattle.wrapper_meaning.specs.Shape.{Shape, Shapes, param_shapes, result_shape}
use Rattle.wrapper_meaning.specs.Value.{Parts}
use Rattle.wrapper_values.specs.Act as machine
use Rattle.wrapper_run.specs.Places.{area_block, request_of}
use Rattle.wrapper_run.specs.Run.{run_stmts}
use Rattle.abi_bindgen.specs.declared.bindgen.Asked.{Asked}
use Rattle.abi_bindgen.specs.Account.{Done, Peer, addresses}
use Rattle.abi_bindgen.specs.Area.{AreFor, AreaStands, NeedsArea}
use Rattle.abi_driver.specs.Imports.{Given}
use Rattle.abi_bindgen.specs.Laws.{args, item_data}
use Rattle.abi_bindgen.proofs.Runs.{addresses_both}
use Rattle.func_gen.specs.Meaning.{Denote, File, FuncState, GivesAsCalled, IsArea, Serves, func_meaning, owns_of, setting_for}
use Rattle.func_gen.specs.TypeSites.{AreDefined}
use Rattle.func_gen.specs.FuncSound.{func_sound}
use Rattle.func_gen.specs.declared.function_bindgen.FunctionBindgen.{FunctionBindgen}
use Rattle.wrapper_closing.specs.ClosedImport.{ClosesImport}
use Rattle.func_gen.specs.Body.{asked_alignment, asked_size}
use Rattle.func_gen.proofs.RuntimeItems.{none_suspended}
use Rattle.wrapper_closing.specs.ImportBlock.{area_stmts, wanted}
use Rattle.wrapper_closing.proofs.Arguments.{AreItems}
use Rattle.wrapper_closing.proofs.ClosedArea.{area_due, area_holds, area_sized, records_of}
use Rattle.wrapper_closing.proofs.Placing.{Misses, Places, asking, placed, places}
use Rattle.wrapper_closing.proofs.Start.{area_owns, at_first, bare_owns, begins_bare, begins_with_area}
use Rattle.wrapper_meaning.proofs.PostReturn.{total-append}

module _ (types : List TypeDef) (f : Function) (tree : Tree) (nth : ℕ) (old new : FunctionBindgen) (c : ClosesImport types f tree nth old new) where
  abbrev pub shapes : Shapes
  shapes = param_shapes types f

  abbrev pub answer_shape : Option Shape
  answer_shape = result_shape types f

  -- the file, with the area that is asked for
  abbrev pub file : File
  file = record { items = tree.items; item = c.number; bound = old.home; area = wanted new.asked }

  pub asked_for : AreFor (records_of (param_shapes types f) (result_shape types f)) new.asked
  asked_for = subst (AreFor (records_of (param_shapes types f) (result_shape types f))) (sym (c.calls.asked ∙ ap (λ xs. xs ++ c.calls.records) c.begun.unasked)) c.calls.for

  pub due_area : option_to_list (wanted new.asked) ≡ area_for 2 (records_of (param_shapes types f) (result_shape types f))
  due_area = area_due (records_of (param_shapes types f) (result_shape types f)) new.asked asked_for

  sized : IfSome (wanted new.asked) IsArea
  sized = area_sized (param_shapes types f) (result_shape types f) new.asked c.params c.result asked_for

  imports : new.import ≡ true
  imports = c.still.import ∙ c.import

  pub serves : Serves (file) new
  serves = record {
    runtime = c.runtime;
    sites = subst (AreDefined tree.items) (sym c.still.sites) c.sites;
    room = area_holds (records_of (param_shapes types f) (result_shape types f)) new.asked asked_for;
    sized = sized;
    static = λ e. absurd (true≢false (sym imports ∙ e));
    bound = λ e. absurd (true≢false (sym imports ∙ e));
    called = subst (GivesAsCalled tree.items old.home) (sym c.headless) tt;
    suspended = none_suspended tree.items old.home new.opened c.closed;
  }

  no_code : (p : Peer RustValue) (s : FuncState) → func_meaning.does file p old.code s ≡ Done s
  no_code p s = ap (λ code. func_meaning.does file p code s) c.begun.empty ∙ func_sound.nothing file p s

  -- the state that the driver's contract asks for, after the area, where there is one, took the first choice
  pub record Ready (p : Peer RustValue) (vs : Parts (param_shapes types f)) (rs : List RustValue) (heap : Heap) (choices : Choices) : Type 0 where
    pub state : FuncState
    pub area : List Block
    pub ran : run_stmts (setting_for file p) (area_stmts old.area new.asked) (at_first old rs heap choices) ≡ machine.Done tt state.machine
    pub given : Given func_meaning file p (param_shapes types f) vs (result_shape types f) rs heap.blocks area old new [] state state
    pub stands : IsAreaOf (area_for 2 (records_of (param_shapes types f) (result_shape types f))) (slice_get choices.list 0) area
    pub requests : state.machine.requests ≡ option_to_list (wanted new.asked)
    pub calls : state.machine.calls ≡ []
    pub owns : owns_of state.machine ≡ addresses area
    pub taken : state.machine.taken ≡ addresses area
    pub short : length area ≤ 1

  -- or the area missed it
  pub record Missed (p : Peer RustValue) (rs : List RustValue) (heap : Heap) (choices : Choices) : Type 0 where
    pub request : Request
    pub is : wanted new.asked ≡ Some request
    pub misfit : Misfits true heap.blocks request (slice_get choices.list 0)
    pub stops : run_stmts (setting_for file p) (area_stmts old.area new.asked) (at_first old rs heap choices) ≡ machine.Stopped stop_of.BadChoice (asking request (at_first old rs heap choices))

  -- 2. Without an area

  module _ (p : Peer RustValue) (vs : Parts (param_shapes types f)) (rs : List RustValue) (heap : Heap) (choices : Choices) (good : AreValues (param_shapes types f) vs) (whole : is_heap heap ≡ true) (items : AreItems heap.blocks (param_shapes types f) vs rs []) (many : length old.params ≡ length rs) where
    args_alone : (s : FuncState) → Denote file old (args func_meaning 0 (item_data func_meaning rs)) s → Denote file old (args func_meaning 0 (item_data func_meaning rs) ++ []) s
    args_alone s h = subst (λ fs. Denote file old fs s) (sym (append-nil (args func_meaning 0 (item_data func_meaning rs)))) h

    bare_ready : new.asked ≡ [] → Ready p vs rs heap choices
    bare_ready none =
        let s : FuncState = record { machine = at_first old rs heap choices; area = None } in
        let no_area : wanted new.asked ≡ None = ap wanted none in
        let no_due : area_for 2 (records_of (param_shapes types f) (result_shape types f)) ≡ [] = sym due_area ∙ ap option_to_list no_area in
        record {
          state = s;
          area = [];
          ran = ap (λ a. run_stmts (setting_for file p) (area_stmts old.area a) (at_first old rs heap choices)) none;
          given = record {
            values = record { listed = good.0; stand = items.stand; formed = whole; all = λ g. ap (total g) (sym (append-nil heap.blocks)) };
            placed = stands_nowhere (records_of (param_shapes types f) (result_shape types f)) no_due;
            owners = λ g. omega arith;
            at = record { serves = serves; done = no_code p s; holds = args_alone s (begins_bare old c.begun c.import rs heap choices items.lent many file no_area) };
          };
          stands = subst (λ a. IsAreaOf a (slice_get choices.list 0) []) (sym no_due) refl;
          requests = sym (ap option_to_list no_area);
          calls = refl;
          owns = bare_owns old c.begun c.import rs heap choices items.lent many;
          taken = refl;
          short = omega arith;
        }
      where
        stands_nowhere : (ts : List Shape) → area_for 2 ts ≡ [] → AreaStands ts (wanted new.asked) None []
        stands_nowhere [] e = refl
        stands_nowhere (t ∷ ts) e = absurd cc

    -- 3. With an area

    fitting : (address : ℕ) (r : Request) (blocks : List Block) → fits r address blocks ≡ true → (is_block (area_block address r) ≡ true) × (overlaps_any (area_block address r) blocks ≡ false) × (address % r.align ≡ 0)
    fitting address r blocks h =
        let parts = and_parts (is_block (area_block address r) && not (overlaps_any (area_block address r) blocks)) (nat_eq (address % r.align) 0) h in
        let two = and_parts (is_block (area_block address r)) (not (overlaps_any (area_block address r) blocks)) parts.0 in
        (two.0, not-true (overlaps_any (area_block address r) blocks) two.1, eqb-true (address % r.align) 0 parts.1)

    with_area : (a : ReturnArea) → a.name ≡ old.area → area_stmts old.area new.asked ≡ stmt.Area a ∷ [] → wanted new.asked ≡ Some (request_of a.size a.align) → 0 < (request_of a.size a.align).size
        → Places (setting_for file p) a (at_first old rs heap choices) → Ready p vs rs heap choices
    with_area a named is wants some at =
        let block = area_block at.address (request_of a.size a.align) in
        let s : FuncState = record { machine = placed a at.address at.left (at_first old rs heap choices); area = Some at.address } in
        let fit = fitting at.address (request_of a.size a.align) heap.blocks at.fit in
        let due : area_for 2 (records_of (param_shapes types f) (result_shape types f)) ≡ request_of a.size a.align ∷ [] = sym due_area ∙ ap option_to_list wants in
        record {
          state = s;
          area = block ∷ [];
          ran = ap (λ ss. run_stmts (setting_for file p) ss (at_first old rs heap choices)) is ∙ ap (λ o. machine.and_then o (λ u. machine.pure tt)) at.runs;
          given = record {
            values = record { listed = good.0; stand = items.stand; formed = is_formed s.machine.heap (formed_added heap.blocks block (formed heap whole) fit.0 fit.1); all = λ g. refl };
            placed = stands_there (records_of (param_shapes types f) (result_shape types f)) due;
            owners = λ g. omega (arith, total-append g (addresses heap.blocks) (at.address ∷ []), ap (total g) (addresses_both heap.blocks (block ∷ [])));
            at = record { serves = serves; done = no_code p s; holds = args_alone s (begins_with_area old c.begun c.import rs heap choices items.lent many a named at.address at.left some file wants) };
          };
          stands = subst (λ r. IsAreaOf r (slice_get choices.list 0) (block ∷ [])) (sym due) (record { block = block; is = refl; chosen = ap (λ cs. slice_get cs 0) at.chosen; aligned = fit.2; exact = refl });
          requests = sym (ap option_to_list wants);
          calls = refl;
          owns = area_owns old c.begun c.import rs heap choices items.lent many a named at.address at.left some;
          taken = refl;
          short = omega arith;
        }
      where
        stands_there : (ts : List Shape) → area_for 2 ts ≡ request_of a.size a.align ∷ [] → AreaStands ts (wanted new.asked) (Some at.address) (area_block at.address (request_of a.size a.align) ∷ [])
        stands_there [] e = absurd cc
        stands_there (t ∷ ts) e =
            let fit = fitting at.address (request_of a.size a.align) heap.blocks at.fit in
            subst (λ r. NeedsArea true r (Some at.address) (area_block at.address (request_of a.size a.align) ∷ [])) (sym wants)
            (record { block = area_block at.address (request_of a.size a.align); is = refl; address = refl; aligned = fit.2; exact = refl })

    -- 4. Either

    pub begins : Ready p vs rs heap choices ⊎ Missed p rs heap choices
    begins = go new.asked refl
      where
        go : (asked : List Asked) → new.asked ≡ asked → Ready p vs rs heap choices ⊎ Missed p rs heap choices
        go [] e = inl (bare_ready e)
        go (x ∷ asked) e = by (places (setting_for file p) a (at_first old rs heap choices) has.0 has.1)
          where
            a : ReturnArea
            a = record { name = old.area; size = asked_size (x ∷ asked); align = asked_alignment (x ∷ asked) }

            has : IsArea (request_of (asked_size (x ∷ asked)) (asked_alignment (x ∷ asked)))
            has = subst (λ xs. IfSome (wanted xs) IsArea) e sized

            by : Places (setting_for file p) a (at_first old rs heap choices) ⊎ Misses (setting_for file p) a (at_first old rs heap choices) → Ready p vs rs heap choices ⊎ Missed p rs heap choices
            by (inl at) = inl (with_area a refl (ap (area_stmts old.area) e) (ap wanted e) has.0 at)
            by (inr miss) =
                inr (record {
                  request = request_of (asked_size (x ∷ asked)) (asked_alignment (x ∷ asked));
                  is = ap wanted e;
                  misfit = miss.misfit;
                  stops = ap (λ xs. run_stmts (setting_for file p) (area_stmts old.area xs) (at_first old rs heap choices)) e ∙ ap (λ o. machine.and_then o (λ u. machine.pure tt)) miss.stops;
                })
