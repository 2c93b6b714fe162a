-- A post-return function that closes the driver's code, run on the address of a result's record: its statements free the result's blocks.
use Rattle.std.proofs.Common.{◌≡◌, ◌%◌, ℕ, true, MatchBool, List, [], ◌∷◌, ◌++◌, length, map, Option, None, Some, refl, sym, ap, ◌∙◌, subst, arith, append-nil, if◌then◌else◌}
use Rattle.std.specs.Prelude.{option_to_list}
use Rattle.std.specs.List.{AllByRecursion, flat_map}
use Rattle.std.proofs.lemmas.List.{length-map}
use Rattle.wit_model.specs.declared.function.Function.{Function}
use Rattle.wit_model.specs.declared.types.TypeDef.{TypeDef}
use Rattle.wit_model.specs.declared.wasm_type.WasmType.TheVariants as wasm
use Rattle.wit_layout.specs.Sizes.{alignment}
use Rattle.rust_tree.specs.Tree.{Tree}
use Rattle.rust_tree.specs.declared.export.CoreParam.{CoreParam}
use Rattle.wrapper_data.specs.declared.block.Block.{Block}
use Rattle.wrapper_data.specs.declared.form.Form.{Form}
use Rattle.wrapper_data.specs.declared.heap.Heap.{Heap}
use Rattle.wrapper_data.specs.declared.value.RustValue.{RustValue}
use Rattle.wrapper_data.specs.declared.word.Word.{Word}
use Rattle.wrapper_data.specs.declared.word.Word.TheVariants as core
use Rattle.wrapper_data.specs.Heap.{is_heap}
use Rattle.wrapper_meaning.specs.Direction.{give}
use Rattle.wrapper_meaning.specs.Items.{SameItems, total}
use Rattle.wrapper_meaning.specs.Layout.{layout}
use Rattle.wrapper_meaning.specs.Represents.{Begins, GivesResult, ResultInArea, ResultInWord, is_indirect, result_words}
use Rattle.wrapper_meaning.specs.Settled.{IsResult, IsValue}
use Rattle.wrapper_meaning.specs.Shape.{Shape, result_shape}
use Rattle.wrapper_meaning.specs.Value.{Result, Value}
use Rattle.wrapper_values.specs.declared.state.Local.{Local}
use Rattle.wrapper_values.specs.declared.state.State.{State}
use Rattle.wrapper_values.specs.Act as machine
use Rattle.wrapper_values.specs.Owning.{owned_in}
use Rattle.wrapper_run.specs.Places.{area_in}
use Rattle.wrapper_run.specs.Run.{run_stmts}
use Rattle.abi_bindgen.specs.Account.{Account, Peer, words}
use Rattle.abi_bindgen.specs.Area.{HoldsRecord}
use Rattle.abi_bindgen.specs.Frees.{FreesResult, MayFree, nowhere}
use Rattle.abi_bindgen.specs.Laws.{At}
use Rattle.abi_bindgen.specs.Meaning.{arg, word}
use Rattle.abi_bindgen.specs.Places.{HasRoom}
use Rattle.abi_bindgen.specs.Touches.{reached}
use Rattle.abi_driver.proofs.AreaHeaps.{contains_last}
use Rattle.func_gen.specs.FuncSound.{func_sound}
use Rattle.func_gen.specs.Meaning.{File, FuncState, GivesAsCalled, Serves, account_of, func_meaning, owns_of, run_head, seen, setting_for, static_request}
use Rattle.func_gen.specs.declared.function_bindgen.FunctionBindgen.{FunctionBindgen}
use Rattle.func_gen.specs.declared.function_bindgen.ParamSite.{ParamSite}
use Rattle.func_gen.proofs.Steps.{seen_done}
use Rattle.func_gen.proofs.RuntimeItems.{none_suspended}
use Rattle.wrapper_closing.specs.ClosedExport.{export_file}
use Rattle.wrapper_closing.specs.ClosedPostReturn.{ClosesPostReturn}
use Rattle.wrapper_closing.proofs.ExportStart.{at_words, words_begin, words_own}
use Rattle.wrapper_closing.proofs.FreedBlocks.{freed_are_gone, may_free}
use Rattle.wrapper_closing.proofs.Leaving.{no_items}
use Rattle.wrapper_closing.proofs.TwoWords.{by_area}
use Rattle.wrapper_meaning.proofs.PostReturn.{total-append}
use Rattle.wrapper_faithful.proofs.NoHandles.{apart}

module _ (types : List TypeDef) (f : Function) (tree : Tree) (nth : ℕ) (old new : FunctionBindgen) (c : ClosesPostReturn types f tree nth old new) where
  -- 1. What it stands in

  -- the file, with its static area
  abbrev pub file : File
  file = export_file tree c.number new.home

  -- nobody answers
  abbrev pub unanswered : Form → Peer RustValue
  unanswered form = record { form = form; reply = words None [] [] }

  serves : Serves file new
  serves = record {
    runtime = c.runtime;
    sites = c.sites;
    room = subst (AllByRecursion (HoldsRecord 2 (static_request (area_in tree.items)))) (sym (c.frees.adds.asked ∙ c.begun.unasked)) tt;
    sized = c.sized;
    static = λ e. refl;
    bound = λ e. refl;
    called = subst (GivesAsCalled tree.items new.home) (sym c.headless) tt;
    suspended = none_suspended tree.items new.home new.opened c.closed;
  }

  pub indirect : is_indirect (result_shape types f) ≡ true
  indirect = by_area (result_shape types f) c.result c.lists

  -- it has one parameter, an address
  pub one_address : map (λ p. p.ty) c.function.params ≡ wasm.Pointer ∷ []
  one_address = c.pinned ∙ ap (λ q. if q then wasm.Pointer ∷ [] else result_words (result_shape types f)) indirect

  one_site : length old.params ≡ 1
  one_site = omega (arith, length-map old.params (λ (p : ParamSite). p.name), ap length c.names, length-map c.function.params (λ (p : CoreParam). p.name), length-map c.function.params (λ (p : CoreParam). p.ty), ap length one_address)

  -- 2. The state at first

  abbrev pub entered_at : ℕ → Heap → State
  entered_at q heap = at_words old (core.Pointer q ∷ []) heap (record { list = [] })

  abbrev at_first : ℕ → Heap → FuncState
  at_first q heap = record { machine = entered_at q heap; area = None }

  begins : (form : Form) (q : ℕ) (heap : Heap) → At func_meaning file (unanswered form) old new (arg 0 (word (core.Pointer q)) ∷ []) (at_first q heap) (at_first q heap)
  begins form q heap = record {
    serves = serves;
    done = ap (λ code. func_meaning.does file (unanswered form) code (at_first q heap)) c.begun.empty ∙ func_sound.nothing file (unanswered form) (at_first q heap);
    holds = words_begin old c.begun c.export (core.Pointer q ∷ []) heap (record { list = [] }) one_site file;
  }

  -- 3. Its statements

  does_is : (p : Peer RustValue) (s : FuncState) → func_meaning.does file p new.code s ≡ seen s.area (run_stmts (setting_for file p) new.code.stmts s.machine)
  does_is p s = ap (λ call. seen s.area (machine.and_then (run_head (setting_for file p) new.home call s.machine) (λ u. run_stmts (setting_for file p) new.code.stmts))) c.headless

  -- a state behind them, in which these blocks are gone, no local owns any, and nothing else was done
  pub record Freed (form : Form) (q : ℕ) (heap : Heap) (blocks : List Block) : Type 0 where
    pub state : State
    pub done : run_stmts (setting_for file (unanswered form)) new.code.stmts (entered_at q heap) ≡ machine.Done tt state
    pub left : SameItems (state.heap.blocks ++ blocks) heap.blocks
    pub owns : flat_map (λ l. owned_in l.value) state.locals ≡ []
    pub calls : (account_of state).calls ≡ []
    pub requests : state.requests ≡ []

  module _ (form : Form) (heap : Heap) (blocks others : List Block) (whole : is_heap heap ≡ true) where
    room_there : (t : Shape) (v : Value t) (b : Block) → Begins 2 give t v b blocks → SameItems heap.blocks (blocks ++ b ∷ others) → HasRoom 2 t (reached func_meaning b.address nowhere) b 0 heap
    room_there t v b stands all = record {
      formed = whole;
      there = contains_last (blocks ++ others) b heap.blocks (λ g. omega (arith, all g, total-append g blocks (b ∷ others), total-append g (blocks ++ others) (b ∷ []), total-append g blocks others));
      starts = refl;
      fits = omega (arith, stands.room);
      aligned = let same : reached func_meaning b.address nowhere ≡ b.address = omega arith in ap (λ a. a % alignment 2 (layout t)) same ∙ stands.aligned;
    }

    frees_at : (t : Shape) (v : Value t) (b : Block) → FreesResult func_meaning (Some t) old new → IsValue t v → Begins 2 give t v b blocks → SameItems heap.blocks (blocks ++ b ∷ others) → Freed form b.address heap blocks
    frees_at t v b frees good stands all =
        let may : MayFree blocks b (account_of (entered_at b.address heap)) = may_free blocks others b (account_of (entered_at b.address heap)) whole refl all in
        let (s, done, after) =
        frees v blocks good.0 file (unanswered form) [] (at_first b.address heap) (at_first b.address heap) b.address 0 b (begins form b.address heap) (room_there t v b stands all) stands.holds may in
        record {
          state = s.machine;
          done = (seen_done None (run_stmts (setting_for file (unanswered form)) new.code.stmts (entered_at b.address heap)) s (sym (does_is (unanswered form) (at_first b.address heap)) ∙ done)).0;
          left = λ g. ap (λ (x : Account RustValue). total g (x.heap.blocks ++ blocks)) after.account ∙ freed_are_gone blocks (account_of (entered_at b.address heap)) may.may g;
          owns = (apart (option_to_list s.machine.place) (flat_map (λ (l : Local). owned_in l.value) s.machine.locals)
              (no_items (owns_of s.machine) (λ g. sym (ap (total g) (append-nil (owns_of s.machine))) ∙ after.owns g ∙ ap (λ xs. total g (xs ++ [])) (words_own old c.begun c.export (core.Pointer b.address ∷ []) heap (record { list = [] }) one_site)))).1;
          calls = ap (λ (x : Account RustValue). x.calls) after.account;
          requests = ap (λ (x : Account RustValue). x.requests) after.account;
        }

    -- of words as they were returned, which are the address
    pub frees_returned : (r : Option Shape) (v : Result r) (ws : List Word) (area : List Block) → FreesResult func_meaning r old new → is_indirect r ≡ true → IsResult r v → GivesResult 2 r v ws blocks area → SameItems heap.blocks (blocks ++ area ++ others)
        → (q : ℕ) × (ws ≡ core.Pointer q ∷ []) × Freed form q heap blocks
    frees_returned None v ws area frees many good gives live = absurd cc
    frees_returned (Some t) v ws area frees many good gives live =
        let stands : ResultInArea 2 give t v ws blocks area = subst (λ q. MatchBool q (ResultInArea 2 give t v ws blocks area) (ResultInWord 2 give t v ws blocks area)) many gives in
        let b = stands.block in
        let all : SameItems heap.blocks (blocks ++ b ∷ others) =
        λ g. omega (arith, live g, ap (total g) stands.is_area, total-append g (blocks ++ area) others, total-append g blocks area, total-append g blocks (b ∷ others)) in
        (b.address, stands.named, frees_at t v b frees good stands.stands all)
