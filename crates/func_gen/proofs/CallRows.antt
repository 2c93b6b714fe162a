-- The row of the call of a core import.
use Rattle.std.proofs.Common.{◌≡◌, ℕ, Bool, true, false, not, cond, ◌&&◌, ◌||◌, Bor, List, [], ◌∷◌, ◌++◌, length, map, reverse, Option, None, Some, refl, sym, ap, ◌∙◌, subst, arith, append-nil}
use Rattle.std.specs.Prelude.{option_and_then}
use Rattle.std.specs.List.{list_any}
use Rattle.std.specs.Option.{option_map, option_or}
use Rattle.std.specs.Str.{bytes_eq}
use Rattle.std.proofs.lemmas.Bool.{not-true, or_parts}
use Rattle.std.proofs.lemmas.Slice.Eq.{bytes_eq-Decides}
use Rattle.std.proofs.lemmas.List.{map-append}
use Rattle.std.proofs.lemmas.List.Folds.{list_any-append}
use Rattle.wit_model.specs.Bytes.{Bytes}
use Rattle.wit_model.specs.declared.function.Function.{Function}
use Rattle.wit_model.specs.declared.types.TypeDef.{TypeDef}
use Rattle.wit_model.specs.declared.wasm_type.WasmType.{WasmType}
use Rattle.rust_tree.specs.Ident.{rust_ident}
use Rattle.rust_tree.specs.declared.expr.Expr.{Expr}
use Rattle.rust_tree.specs.declared.expr.Expr.TheVariants as expr
use Rattle.rust_tree.specs.declared.stmt.ImportDecl.{ImportDecl}
use Rattle.rust_tree.specs.declared.stmt.Stmt.{Stmt}
use Rattle.rust_tree.specs.declared.stmt.Stmt.TheVariants as stmt
use Rattle.wrapper_data.specs.Answered.{answered, with_block, with_blocks, with_writes, written_block, written_byte}
use Rattle.wrapper_data.specs.Heap.{covers, is_block, overlaps_any}
use Rattle.wrapper_data.specs.declared.block.Block.{Block}
use Rattle.wrapper_data.specs.declared.run.Target.{Target}
use Rattle.wrapper_data.specs.declared.run.Target.TheVariants as target
use Rattle.wrapper_data.specs.declared.value.RustValue.{RustValue}
use Rattle.wrapper_data.specs.declared.word.Word.{Word}
use Rattle.wrapper_values.specs.declared.state.Local.{Local}
use Rattle.wrapper_values.specs.declared.state.State.{State}
use Rattle.wrapper_values.specs.declared.state.Val.{Val}
use Rattle.wrapper_values.specs.declared.state.Val.TheVariants as val
use Rattle.wrapper_values.specs.Act.{Act, and_then, or_stop, pure}
use Rattle.wrapper_values.specs.Locals.{bind, declare, import_named, local_named, usable}
use Rattle.wrapper_values.specs.Setting.{Setting, stuck}
use Rattle.wrapper_run.specs.Blocks.{drop_value, free_all}
use Rattle.wrapper_run.specs.Memory.{begins_at, block_from}
use Rattle.wrapper_run.specs.Run.{alone, answer_act, call_point, called_with, callee, eval, point_of, run_stmts, take_answer, unhidden}
use Rattle.wrapper_run.proofs.LocalLemmas.{bytes_eq-same, last-append, reads-new}
use Rattle.wrapper_run.proofs.StepLemmas.{Give, call_gives, import_gives}
use Rattle.wrapper_run.proofs.StmtSteps.{run-import, runs-expr, runs-first, runs-let}
use Rattle.abi_bindgen.specs.declared.instruction.Instruction.TheVariants as instruction
use Rattle.abi_bindgen.specs.Account.{Account, Done, Follows, Got, Outcome, Peer, Reply, Stuck, has_type, have_types, value as value_reply, words}
use Rattle.abi_bindgen.specs.Calls.{CallsCore, answered_by, calling, call_point as core_point, import_params, import_results, recorded}
use Rattle.abi_bindgen.specs.Instructions.{Emits}
use Rattle.abi_bindgen.specs.Laws.{After, Facts, core_data, ofs}
use Rattle.abi_bindgen.specs.Meaning.{Fact, of, word}
use Rattle.func_gen.specs.declared.function_bindgen.FunctionBindgen.{FunctionBindgen}
use Rattle.func_gen.specs.declared.operand.ExprOperand.{ExprOperand}
use Rattle.func_gen.specs.CallForms.{AddsCall, AddsStatement, FreshAll, exprs, import_of, local_path, import_name}
use Rattle.func_gen.specs.FactLemmas.{is_said, word_read}
use Rattle.func_gen.specs.Facts.{AreOwned, Hold, IsThere}
use Rattle.func_gen.specs.Formed.{CallsImported}
use Rattle.func_gen.specs.Forms.{operand_of}
use Rattle.func_gen.specs.Meaning.{Denote, File, FuncState, account_of, answer_of, call_of, func_meaning, owns_of, seen, setting_for, target_of}
use Rattle.func_gen.specs.Read.{Read, env_of}
use Rattle.func_gen.specs.ReadForms.{read-local}
use Rattle.func_gen.specs.declared.scope.LocalName.{LocalName}
use Rattle.func_gen.specs.declared.scope.Scope.{Scope}
use Rattle.func_gen.specs.Scope.{Declares, declared_in, is_used, names_at}
use Rattle.func_gen.specs.StandLemmas.{owned-unit}
use Rattle.func_gen.specs.CodeOf.{calls_core}
use Rattle.func_gen.specs.Added.{Appends}
use Rattle.func_gen.specs.Slot.{Slot}
use Rattle.func_gen.proofs.CallWords.{same_test, words_are}
use Rattle.func_gen.proofs.Evaluated.{gives}
use Rattle.func_gen.proofs.Lasting.{Beside, SameArea, add_plain, area_lasts, bound_under, denotes_on, lasts, owns_with, part, with_local}
use Rattle.func_gen.proofs.Rows.{same_area}
use Rattle.func_gen.proofs.Steps.{func_grows, ran}
use Rattle.func_gen.proofs.Forming.{still_of, written}
use Rattle.wrapper_meaning.proofs.PostReturn.{total-append}
use Rattle.abi_bindgen.proofs.SaysTypes.{types_length}
use Rattle.func_gen.proofs.Writing.{there_first}

-- 1. What has an owner is there still, once the peer has answered

pub there_behind : (a : ℕ) (blocks : List Block) (x : Block) → IsThere (block_from a blocks) → IsThere (block_from a (blocks ++ x ∷ []))
there_behind a [] x h = absurd h
there_behind a (b ∷ blocks) x h = there_first (begins_at a b) b b (block_from a blocks) (block_from a (blocks ++ x ∷ [])) (there_behind a blocks x) h

there_with : (a : ℕ) (blocks : List Block) (x : Block) → IsThere (block_from a blocks) → IsThere (block_from a (with_block blocks x))
unfolding with_block
there_with a blocks x h = go (is_block x && not (overlaps_any x blocks))
  where
    go : (b : Bool) → IsThere (block_from a (cond b (blocks ++ x ∷ []) blocks))
    go true = there_behind a blocks x h
    go false = h

there_all : (a : ℕ) (blocks new : List Block) → IsThere (block_from a blocks) → IsThere (block_from a (with_blocks blocks new))
there_all a blocks [] h = h
there_all a blocks (x ∷ new) h = there_all a (with_block blocks x) new (there_with a blocks x h)

there_byte : (a : ℕ) (blocks : List Block) (address byte : ℕ) → IsThere (block_from a blocks) → IsThere (block_from a (written_byte blocks address byte))
unfolding written_block
there_byte a [] address byte h = h
there_byte a (b ∷ blocks) address byte h = go (there_byte a blocks address byte) (covers address b)
  where
    go : (IsThere (block_from a blocks) → IsThere (block_from a (written_byte blocks address byte))) → (c : Bool) → IsThere (block_from a (cond c (written_block b address byte ∷ blocks) (b ∷ written_byte blocks address byte)))
    go later true = there_first (begins_at a b) b (written_block b address byte) (block_from a blocks) (block_from a blocks) (λ x. x) h
    go later false = there_first (begins_at a b) b b (block_from a blocks) (block_from a (written_byte blocks address byte)) later h

there_writes : (a : ℕ) (blocks : List Block) (writes : List (ℕ × ℕ)) → IsThere (block_from a blocks) → IsThere (block_from a (with_writes blocks writes))
there_writes a blocks [] h = h
there_writes a blocks (x ∷ writes) h = there_writes a (written_byte blocks x.0 x.1) writes (there_byte a blocks x.0 x.1 h)

owned_still : (blocks new : List Block) (writes : List (ℕ × ℕ)) (taken : List ℕ) → AreOwned blocks taken → AreOwned (with_writes (with_blocks blocks new) writes) taken
owned_still blocks new writes [] h = tt
owned_still blocks new writes (a ∷ taken) h = (h.0, there_writes a (with_blocks blocks new) writes (there_all a blocks new h.1), owned_still blocks new writes taken h.2)

-- 2. The call

-- operands that denote words are evaluated to them
pub words_give : (w : Setting) (b : FunctionBindgen) (os : List ExprOperand) (ws : List Word) (others : List (Fact ExprOperand Slot RustValue)) (s : State) → length os ≡ length ws
    → Hold w.items b (ofs func_meaning os (core_data func_meaning ws) ++ others) s → Give w s (exprs os) (map val.Word ws)
words_give w b [] [] others s len h = tt
words_give w b [] (x ∷ ws) others s len h = absurd (omega (arith, len))
words_give w b (o ∷ os) [] others s len h = absurd (omega (arith, len))
words_give w b (o ∷ os) (x ∷ ws) others s len h =
    let later = ofs func_meaning os (core_data func_meaning ws) ++ others in (
      gives w o.expr s (val.Word x) (word_read w.items o (env_of s) x (is_said w.items b.params (env_of s) (of o (word x)) (omega (arith, h.right)))).1 refl,
      words_give w b os ws others s (omega (arith, len)) (part w.items b later (of o (word x) ∷ later) s (λ f. omega arith) h),
    )

calls_alone : (name : Bytes) → callee (local_path name) ≡ alone name
unfolding callee
calls_alone name = refl

declared_runs : (w : Setting) (d : ImportDecl) (more : List Stmt) (s : State) → run_stmts w (stmt.Import d ∷ more) s ≡ run_stmts w more (record s { imports = s.imports ++ d ∷ [] })
unfolding declare
declared_runs w d more s = runs-first w (stmt.Import d) (declare d) more s (run-import w d)

module _ (w : Setting) (d : ImportDecl) (s : State) (ws : List Word) where
  abbrev declared : State
  declared = record s { imports = s.imports ++ d ∷ [] }

  abbrev called : State
  called = record declared { calls = s.calls ++ point_of d s.heap ws ∷ [] }

  point_is : local_named d.name s.locals ≡ None → have_types d.params ws ≡ true → call_point declared d.name (map val.Word ws) ≡ Some (point_of d s.heap ws, d.result)
  unfolding call_point
  point_is free fit =
      let there : import_named d.name (s.imports ++ d ∷ []) ≡ Some d = last-append (λ (x : ImportDecl). bytes_eq x.name d.name) s.imports d ∙ ap (λ b. option_or (cond b (Some d) None) (import_named d.name s.imports)) (bytes_eq-same d.name) in
      ap (λ l. option_and_then (called_with declared (map val.Word ws)) (unhidden l (import_named d.name (s.imports ++ d ∷ [])))) free
      ∙ ap (option_and_then (called_with declared (map val.Word ws))) there ∙ ap (option_map (λ xs. (point_of d s.heap xs, d.result))) (words_are d.params ws fit)

  pub called_gives : (es : List Expr) → local_named d.name s.locals ≡ None → have_types d.params ws ≡ true → Give w declared es (map val.Word ws) → eval w (expr.Call (local_path d.name) es) declared ≡ answer_act w d.result w.answer called
  unfolding take_answer
  called_gives es free fit give =
      call_gives w (local_path d.name) es (map val.Word ws) declared give
      ∙ import_gives w (local_path d.name) d.name (map val.Word ws) declared (point_of d s.heap ws) d.result (calls_alone d.name) (point_is free fit)

-- 3. The answer

-- the heap alone and the locals are others once the peer has answered
answered_denotes : (file : File) (old new : FunctionBindgen) (before facts : Facts func_meaning) (s : FuncState) (t : State) (writes : List (ℕ × ℕ)) (blocks : List Block) → SameArea old new → Beside s.machine (record t { heap = s.machine.heap })
    → t.heap ≡ answered blocks writes s.machine.heap → Denote file old before s → Hold file.items new facts t → Denote file new facts (record { machine = t; area = s.area })
answered_denotes file old new before facts s t writes blocks same beside is h hold =
    let d = denotes_on file old new before facts s (record t { heap = s.machine.heap }) same beside h (record { right = hold.right; apart = hold.apart; within = hold.within }) in
    record { hold = hold; owners = subst (λ hp. AreOwned hp.blocks t.taken) (sym is) (owned_still s.machine.heap.blocks blocks writes t.taken d.owners); area = area_lasts new.import file.area s.area new.asked new.area (record t { heap = s.machine.heap }) t (λ n v e. e) refl d.area }

module _ (old new : FunctionBindgen) (file : File) (p : Peer RustValue) (d : ImportDecl) (s : FuncState) (ws : List Word) (others : Facts func_meaning) where
  abbrev goal : Target
  goal = target.Core d.«module» d.link_name

  abbrev account1 : Account RustValue
  account1 = recorded (core_point goal ws (account_of s.machine)) (account_of s.machine)

  calls_is : map call_of (s.machine.calls ++ point_of d s.machine.heap ws ∷ []) ≡ account1.calls
  calls_is = map-append call_of s.machine.calls (point_of d s.machine.heap ws ∷ [])

  -- the state once the answer is there
  abbrev left : List (ℕ × ℕ) → List Block → State
  left writes blocks = record (called (setting_for file p) d s.machine ws) { heap = answered blocks writes s.machine.heap }

  account_left : (writes : List (ℕ × ℕ)) (blocks : List Block) → account_of (left writes blocks) ≡ record account1 { heap = answered blocks writes s.machine.heap }
  account_left writes blocks = ap (λ cs. record (account_of s.machine) { heap = answered blocks writes s.machine.heap; calls = cs }) calls_is

  abbrev finished : Option WasmType → (Val → Act (Unit {0})) → Reply RustValue → Outcome RustValue FuncState
  finished ty k r = seen s.area (and_then (and_then (answer_act (setting_for file p) ty (answer_of r) (called (setting_for file p) d s.machine ws)) k) (λ u. pure tt))

  abbrev Ended : List ExprOperand → Got RustValue (List Word) → FuncState → Type 0
  Ended rs x t = (outs : Facts func_meaning) × (outs ≡ ofs func_meaning rs (core_data func_meaning x.result)) × After func_meaning file new (outs ++ others) [] [] s x t

  -- no word is due: the call's value owns nothing, and is dropped
  pub none_answers : (r : Reply RustValue) → ((writes : List (ℕ × ℕ)) (blocks : List Block) → Denote file new others (record { machine = left writes blocks; area = s.area })) → Follows func_meaning.account (answered_by [] r account1) (finished None (drop_value (setting_for file p)) r) (Ended [])
  none_answers (value_reply v heap) den = calls_is
  none_answers (words (Some x) writes blocks) den = calls_is
  none_answers (words None writes blocks) den = (
    record { machine = left writes blocks; area = s.area },
    ap (λ bs. seen s.area (and_then (free_all (setting_for file p) bs (left writes blocks)) (λ u. pure tt))) owned-unit,
    ([], refl, record { account = account_left writes blocks; owns = λ g. refl; denotes = den writes blocks }),
  )

  abbrev behind : Bytes → Word → List (ℕ × ℕ) → List Block → State
  behind ret x writes blocks = with_local (left writes blocks) ret (val.Word x)

  -- a word of the due type is bound to the new local, and whatever else is answered has no meaning
  pub word_answers : (ty : WasmType) (ret : Bytes) (r : Reply RustValue) → ((x : Word) (writes : List (ℕ × ℕ)) (blocks : List Block) → Denote file new (of (operand_of (expr.Local ret)) (word x) ∷ others) (record { machine = behind ret x writes blocks; area = s.area }))
      → Follows func_meaning.account (answered_by (ty ∷ []) r account1) (finished (Some ty) (bind ret) r) (Ended (operand_of (expr.Local ret) ∷ []))
  unfolding bind
  word_answers ty ret (value_reply v heap) den = calls_is
  word_answers ty ret (words None writes blocks) den = calls_is
  word_answers ty ret (words (Some x) writes blocks) den =
      subst (λ c. Follows func_meaning.account (answered_by (ty ∷ []) (words (Some x) writes blocks) account1) (seen s.area (and_then (and_then (or_stop (stuck (setting_for file p)) (cond c (Some (val.Word x)) None) (left writes blocks)) (bind ret)) (λ u. pure tt))) (Ended (operand_of (expr.Local ret) ∷ [])))
      (sym (same_test ty x)) (go (has_type ty x))
    where
      go : (c : Bool) → Follows func_meaning.account (cond (c && true) (let o : Outcome RustValue (Got RustValue (List Word)) = Done (record { result = x ∷ []; account = record account1 { heap = answered blocks writes s.machine.heap } }) in o) (Stuck account1))
          (seen s.area (and_then (and_then (or_stop (stuck (setting_for file p)) (cond c (Some (val.Word x)) None) (left writes blocks)) (bind ret)) (λ u. pure tt))) (Ended (operand_of (expr.Local ret) ∷ []))
      go false = calls_is
      go true = (
        record { machine = behind ret x writes blocks; area = s.area },
        refl,
        (
          of (operand_of (expr.Local ret)) (word x) ∷ [],
          refl,
          record {
            account = account_left writes blocks;
            owns = λ g. omega (arith, total-append g (owns_of (behind ret x writes blocks)) [], total-append g (owns_of s.machine) [], owns_with g (left writes blocks) ret (val.Word x));
            denotes = den x writes blocks;
          },
        ),
      )

-- 4. The rows

pub split_used : (old new : FunctionBindgen) (names : List Bytes) → FreshAll old new names → (k : Bytes) → is_used new.scope.used k ≡ false → (is_used old.scope.used k ≡ false) × (is_used names k ≡ false)
split_used old new names f k free = or_parts (is_used old.scope.used k) (is_used names k) (sym (list_any-append (λ u. bytes_eq u k) old.scope.used names) ∙ sym (ap (λ us. is_used us k) f.used) ∙ free)

abbrev core_of : List TypeDef → FunctionBindgen → Function → Option WasmType → Bytes → ImportDecl
core_of types old f answer import = import_of old.home f (import_params types f) answer import

core_target : (b : FunctionBindgen) (f : Function) → b.import ≡ true → target_of b f ≡ target.Core b.home f.name.wit
core_target b f e = ap (λ i. cond i (target.Core b.home f.name.wit) (target.Method b.home (rust_ident f.name))) e

used_last : (one two : Bytes) → is_used (one ∷ two ∷ []) two ≡ true
used_last one two = go (bytes_eq one two)
  where
    go : (b : Bool) → (b || (bytes_eq two two || false)) ≡ true
    go true = refl
    go false = ap (λ c. c || false) (bytes_eq-same two)

-- a name that is neither of the two
within_ret : (k ret import : Bytes) (locals : List Local) (v : Val) → is_used (import ∷ ret ∷ []) k ≡ false → local_named k locals ≡ None → local_named k (locals ++ record { name = ret; value = Some v } ∷ []) ≡ None
within_ret k ret import locals v free within =
    let l : Local = record { name = ret; value = Some v } in
    let other = (or_parts (bytes_eq ret k) false (or_parts (bytes_eq import k) (is_used (ret ∷ []) k) free).1).0 in
    last-append (λ (m : Local). bytes_eq m.name k) locals l ∙ ap (λ b. option_or (cond b (Some l) None) (local_named k locals)) other ∙ within

module _ (types : List TypeDef) (f : Function) (os : List ExprOperand) (old new : FunctionBindgen) (imports : old.import ≡ true) (len : length os ≡ length (import_params types f)) where
  -- an import that answers nothing: the call follows the law, and all other facts last
  statement_row : AddsStatement f (import_params types f) (exprs os) old new → import_results types f ≡ [] → CallsCore func_meaning types f os [] old new
  unfolding declare
  statement_row adds none ws fit file p others s0 s at =
      let ins = ofs func_meaning os (core_data func_meaning ws) in
      let w = setting_for file p in
      let d = core_of types old f None adds.import in
      let stmts = stmt.Import d ∷ stmt.Expr (expr.Call (local_path adds.import) (exprs os)) ∷ [] in
      let h = part file.items old others (ins ++ others) s.machine (λ g. omega (arith, total-append g ins others)) at.holds.hold in
      let free = h.within adds.import (adds.names.free adds.import (ap (λ b. b || false) (bytes_eq-same adds.import))) in
      let give = words_give w old os ws others (declared w d s.machine ws) (len ∙ sym (types_length (import_params types f) ws fit)) (record { right = at.holds.hold.right; apart = at.holds.hold.apart; within = at.holds.hold.within }) in
      let run : func_meaning.does file p new.code s0 ≡ finished old new file p d s ws others None (drop_value w) p.reply =
      ran old new stmts [] adds.stmts file p (ins ++ others) s0 s at ∙ ap (seen s.area) (declared_runs w d (stmt.Expr (expr.Call (local_path adds.import) (exprs os)) ∷ []) s.machine ∙ runs-expr w (expr.Call (local_path adds.import) (exprs os)) [] (declared w d s.machine ws))
      ∙ ap (λ o. seen s.area (and_then (and_then o (drop_value w)) (λ u. pure tt))) (called_gives w d s.machine ws (exprs os) free fit give) in
      let last = lasts file.items old new others s.machine s.machine adds.stmts.params (λ n v e. e) (λ n fr. h.within n (split_used old new (adds.import ∷ []) adds.names n fr).0) h in
      subst (λ q. Follows func_meaning.account (calling q ws (import_results types f) p.reply (account_of s.machine)) (func_meaning.does file p new.code s0) (Ended old new file p d s ws others [])) (sym (core_target old f imports))
      (subst (λ q. Follows func_meaning.account (answered_by (import_results types f) p.reply (account1 old new file p d s ws others)) q (Ended old new file p d s ws others [])) (sym run)
      (subst (λ ts. Follows func_meaning.account (answered_by ts p.reply (account1 old new file p d s ws others)) (finished old new file p d s ws others None (drop_value w) p.reply) (Ended old new file p d s ws others [])) (sym none)
      (none_answers old new file p d s ws others p.reply
      (λ writes blocks. answered_denotes file old new (ins ++ others) others s (left old new file p d s ws others writes blocks) writes blocks (same_area old new stmts [] adds.stmts) (record { heap = refl; taken = refl; place = refl; under = λ n v e. e }) refl at.holds
      (record { right = last.right; apart = last.apart; within = last.within })))))

  -- an import that answers a word, which the new local denotes then
  word_row : (ty : WasmType) (ret : Bytes) → AddsCall f (import_params types f) ty (exprs os) ret old new → import_results types f ≡ ty ∷ [] → CallsCore func_meaning types f os (operand_of (expr.Local ret) ∷ []) old new
  unfolding declare
  word_row ty ret adds one ws fit file p others s0 s at =
      let ins = ofs func_meaning os (core_data func_meaning ws) in
      let w = setting_for file p in
      let d = core_of types old f (Some ty) adds.import in
      let stmts = stmt.Import d ∷ stmt.Let ret (expr.Call (local_path adds.import) (exprs os)) ∷ [] in
      let names = adds.import ∷ ret ∷ [] in
      let h = part file.items old others (ins ++ others) s.machine (λ g. omega (arith, total-append g ins others)) at.holds.hold in
      let free = h.within adds.import (adds.names.free adds.import (ap (λ b. b || is_used (ret ∷ []) adds.import) (bytes_eq-same adds.import))) in
      let free_ret = h.within ret (adds.names.free ret (used_last adds.import ret)) in
      let give = words_give w old os ws others (declared w d s.machine ws) (len ∙ sym (types_length (import_params types f) ws fit)) (record { right = at.holds.hold.right; apart = at.holds.hold.apart; within = at.holds.hold.within }) in
      let run : func_meaning.does file p new.code s0 ≡ finished old new file p d s ws others (Some ty) (bind ret) p.reply =
      ran old new stmts [] adds.stmts file p (ins ++ others) s0 s at ∙ ap (seen s.area) (declared_runs w d (stmt.Let ret (expr.Call (local_path adds.import) (exprs os)) ∷ []) s.machine ∙ runs-let w ret (expr.Call (local_path adds.import) (exprs os)) [] (declared w d s.machine ws))
      ∙ ap (λ o. seen s.area (and_then (and_then o (bind ret)) (λ u. pure tt))) (called_gives w d s.machine ws (exprs os) free fit give) in
      let den : (x : Word) (writes : List (ℕ × ℕ)) (blocks : List Block) → Denote file new (of (operand_of (expr.Local ret)) (word x) ∷ others) (record { machine = behind old new file p d s ws others ret x writes blocks; area = s.area }) = λ x writes blocks.
      let t = behind old new file p d s ws others ret x writes blocks in
      let under = bound_under (left old new file p d s ws others writes blocks) ret (val.Word x) free_ret in
      let last = lasts file.items old new others s.machine t adds.stmts.params under (λ k fr. within_ret k ret adds.import s.machine.locals (val.Word x) (split_used old new names adds.names k fr).1 (h.within k (split_used old new names adds.names k fr).0)) h in
      answered_denotes file old new (ins ++ others) (of (operand_of (expr.Local ret)) (word x) ∷ others) s t writes blocks (same_area old new stmts [] adds.stmts) (record { heap = refl; taken = refl; place = refl; under = under }) refl at.holds
      (add_plain file.items new others t (operand_of (expr.Local ret)) (word x) ret (val.Word x) (λ env e. ap (λ (r : Read). r.at env) (read-local file.items ret) ∙ ap (option_and_then usable) e) (reads-new ret (Some (val.Word x)) s.machine.locals) refl last) in
      subst (λ q. Follows func_meaning.account (calling q ws (import_results types f) p.reply (account_of s.machine)) (func_meaning.does file p new.code s0) (Ended old new file p d s ws others (operand_of (expr.Local ret) ∷ []))) (sym (core_target old f imports))
      (subst (λ q. Follows func_meaning.account (answered_by (import_results types f) p.reply (account1 old new file p d s ws others)) q (Ended old new file p d s ws others (operand_of (expr.Local ret) ∷ []))) (sym run)
      (subst (λ ts. Follows func_meaning.account (answered_by ts p.reply (account1 old new file p d s ws others)) (finished old new file p d s ws others (Some ty) (bind ret) p.reply) (Ended old new file p d s ws others (operand_of (expr.Local ret) ∷ []))) (sym one)
      (word_answers old new file p d s ws others ty ret p.reply den)))

statement_becomes : (types : List TypeDef) (f : Function) (os : List ExprOperand) (old new : FunctionBindgen) → length os ≡ length (import_params types f) → AddsStatement f (import_params types f) (exprs os) old new → import_results types f ≡ [] → CallsImported types f os [] old new
statement_becomes types f os old new many adds none = record {
  answer = None;
  answers = sym none;
  many = many;
  writes = written old new [] (calls_core old.home f (import_params types f) None (exprs os)) adds.number adds.takes
      (subst (λ n. Appends old new (stmt.Import (import_of old.home f (import_params types f) None n) ∷ stmt.Expr (expr.Call (local_path n) (exprs os)) ∷ []) []) adds.is adds.stmts) refl;
}

call_becomes : (types : List TypeDef) (f : Function) (ty : WasmType) (os : List ExprOperand) (ret : Bytes) (old new : FunctionBindgen) → length os ≡ length (import_params types f) → AddsCall f (import_params types f) ty (exprs os) ret old new → import_results types f ≡ ty ∷ []
    → CallsImported types f os (operand_of (expr.Local ret) ∷ []) old new
call_becomes types f ty os ret old new many adds one =
    let stmts = λ (n m : Bytes). stmt.Import (import_of old.home f (import_params types f) (Some ty) n) ∷ stmt.Let m (expr.Call (local_path n) (exprs os)) ∷ [] in
    let named = subst (λ n. Appends old new (stmts n ret) []) adds.is adds.stmts in
    record {
      answer = Some ty;
      answers = sym one;
      many = many;
      writes = written old new (operand_of (expr.Local ret) ∷ []) (calls_core old.home f (import_params types f) (Some ty) (exprs os)) adds.number adds.takes
          (subst (λ m. Appends old new (stmts (import_name adds.number) m) []) adds.answers named) (ap (λ m. operand_of (expr.Local m) ∷ []) adds.answers);
    }

pub statement_emits : (types : List TypeDef) (fn : Bor Function) (os : List ExprOperand) (old new : FunctionBindgen) → old.import ≡ true → length os ≡ length (import_params types fn.now) → AddsStatement fn.now (import_params types fn.now) (exprs os) old new
    → import_results types fn.now ≡ [] → Emits func_meaning types (instruction.CallWasm fn) os [] old new
statement_emits types fn os old new imports len adds none = record {
  adds = func_grows old new _ [] adds.stmts (λ n free. (split_used old new (adds.import ∷ []) adds.names n free).0);
  blocks = ap reverse adds.stmts.finished;
  returned = adds.stmts.returned;
  asked = adds.stmts.asked;
  form = record {
    still = still_of old new _ [] adds.stmts;
    given = tt;
    code = statement_becomes types fn.now os old new len adds none;
  };
  results = sym (ap length none);
  row = statement_row types fn.now os old new imports len adds none;
}

pub call_emits : (types : List TypeDef) (fn : Bor Function) (os : List ExprOperand) (old new : FunctionBindgen) (ty : WasmType) (ret : Bytes) → old.import ≡ true → length os ≡ length (import_params types fn.now)
    → AddsCall fn.now (import_params types fn.now) ty (exprs os) ret old new → import_results types fn.now ≡ ty ∷ [] → Emits func_meaning types (instruction.CallWasm fn) os (operand_of (expr.Local ret) ∷ []) old new
call_emits types fn os old new ty ret imports len adds one = record {
  adds = func_grows old new _ [] adds.stmts (λ n free. (split_used old new (adds.import ∷ ret ∷ []) adds.names n free).0);
  blocks = ap reverse adds.stmts.finished;
  returned = adds.stmts.returned;
  asked = adds.stmts.asked;
  form = record {
    still = still_of old new _ [] adds.stmts;
    given = tt;
    code = call_becomes types fn.now ty os ret old new len adds one;
  };
  results = sym (ap length one);
  row = word_row types fn.now os old new imports len ty ret adds one;
}

-- 5. What was added

each_free : (used names : List Bytes) (n : Bytes) → list_any (λ m. is_used used m) names ≡ false → is_used names n ≡ true → is_used used n ≡ false
each_free used [] n free is = absurd cc
each_free used (m ∷ names) n free is =
    let parts = or_parts (is_used used m) (list_any (λ m. is_used used m) names) free in
    go parts.0 (each_free used names n parts.1) (bytes_eq m n) refl is
  where
    go : is_used used m ≡ false → (is_used names n ≡ true → is_used used n ≡ false) → (b : Bool) → bytes_eq m n ≡ b → (b || is_used names n) ≡ true → is_used used n ≡ false
    go here later true e k = ap (is_used used) (sym ((bytes_eq-Decides m n).0 e)) ∙ here
    go here later false e k = later k

declared_all : (old new : FunctionBindgen) (names : List LocalName) (t : ℕ) → Declares old.scope names t new.scope → FreshAll old new (names_at names t)
declared_all old new names t d = record {
  free = λ n is. each_free old.scope.used (names_at names t) n (not-true (list_any (λ m. is_used old.scope.used m) (names_at names t)) d.number.free) is;
  used = ap (λ (s : Scope). s.used) d.leaves ∙ go names;
}
  where
    go : (names : List LocalName) → (declared_in old.scope names t).used ≡ old.scope.used ++ names_at names t
    go [] = sym (append-nil old.scope.used)
    go (n ∷ names) = refl

pub declared_as : (old new : FunctionBindgen) (names : List LocalName) (t : ℕ) (all : List Bytes) → Declares old.scope names t new.scope → all ≡ names_at names t → FreshAll old new all
declared_as old new names t all d e = subst (FreshAll old new) (sym e) (declared_all old new names t d)

pub statement_as : (f : Function) (ps qs : List WasmType) (es fs : List Expr) (old new : FunctionBindgen) → ps ≡ qs → es ≡ fs → AddsStatement f ps es old new → AddsStatement f qs fs old new
statement_as f ps qs es fs old new e g h = subst (λ xs. AddsStatement f xs fs old new) e (subst (λ ys. AddsStatement f ps ys old new) g h)

pub call_as : (f : Function) (ps qs : List WasmType) (ty : WasmType) (es fs : List Expr) (answer : Bytes) (old new : FunctionBindgen) → ps ≡ qs → es ≡ fs → AddsCall f ps ty es answer old new → AddsCall f qs ty fs answer old new
call_as f ps qs ty es fs answer old new e g h = subst (λ xs. AddsCall f xs ty fs answer old new) e (subst (λ ys. AddsCall f ps ty ys answer old new) g h)
