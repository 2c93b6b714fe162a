-- The row of an instruction that adds one statement, which changes the heap and binds nothing.
use Rattle.std.proofs.Common.{◌≡◌, ℕ, Bool, true, false, cond, if◌then◌else◌, List, [], ◌∷◌, ◌++◌, map, Option, None, Some, find, refl, sym, ap, ◌∙◌, subst, arith}
use Rattle.wit_model.specs.Bytes.{Bytes}
use Rattle.rust_tree.specs.declared.runtime_item.RuntimeItem.{RuntimeItem}
use Rattle.rust_tree.specs.declared.stmt.Stmt.{Stmt}
use Rattle.wrapper_data.specs.Answered.{with_writes, written_block, written_byte}
use Rattle.wrapper_data.specs.Heap.{covers}
use Rattle.wrapper_data.specs.declared.block.Block.{Block}
use Rattle.wrapper_data.specs.declared.run.Stop.{Stop}
use Rattle.wrapper_data.specs.declared.run.Stop.TheVariants as stop_of
use Rattle.wrapper_data.specs.declared.value.RustValue.{RustValue}
use Rattle.wrapper_values.specs.declared.state.State.{State}
use Rattle.wrapper_values.specs.Act as machine
use Rattle.wrapper_values.specs.Act.{or_stop, ◌>>=◌}
use Rattle.wrapper_values.specs.Setting.{Setting, stuck}
use Rattle.wrapper_run.specs.Blocks.{keep_blocks}
use Rattle.wrapper_run.specs.Memory.{begins_at, block_from}
use Rattle.wrapper_run.specs.Run.{run_stmts}
use Rattle.wrapper_run.specs.Inward.{CallsNothing}
use Rattle.abi_bindgen.specs.Account.{Account, Act, Done, Follows, Got, Outcome, Peer, Stopped, Stuck, account_in}
use Rattle.abi_bindgen.specs.Laws.{Adds, After, Does, Facts}
use Rattle.func_gen.specs.declared.function_bindgen.FunctionBindgen.{FunctionBindgen}
use Rattle.func_gen.specs.declared.scope.Scope.{Scope}
use Rattle.func_gen.specs.Added.{Appends}
use Rattle.func_gen.specs.Facts.{AreOwned, Hold, IsThere}
use Rattle.func_gen.specs.Meaning.{Denote, File, Found, FuncState, account_of, call_of, func_meaning, seen, setting_for}
use Rattle.func_gen.specs.Scope.{is_used}
use Rattle.func_gen.proofs.Lasting.{area_lasts, denotes_on, lasts, part}
use Rattle.func_gen.proofs.MemoryTies.{by_blocks}
use Rattle.func_gen.proofs.Rows.{same_area, unmoved}
use Rattle.func_gen.proofs.RuntimeItems.{found_right}
use Rattle.func_gen.proofs.Steps.{func_adds, ran, seen_calls}
use Rattle.wrapper_meaning.proofs.PostReturn.{total-append}

abbrev pub with_heap : State → List Block → State
with_heap s blocks = record s { heap = record { blocks = blocks } }

-- 1. What has an owner has it still

abbrev pub Keeps : State → List Block → Type 0
Keeps s blocks = (a : ℕ) → IsThere (block_from a s.heap.blocks) → IsThere (block_from a blocks)

same_start : (a place byte : ℕ) (b : Block) → begins_at a (written_block b place byte) ≡ begins_at a b
unfolding written_block
same_start a place byte b = refl

pub there_first : (t : Bool) (b c : Block) (o p : Option Block) → (IsThere o → IsThere p) → IsThere (cond t (Some b) o) → IsThere (cond t (Some c) p)
there_first true b c o p later h = tt
there_first false b c o p later h = later h

there_byte : (a place byte : ℕ) (blocks : List Block) → IsThere (block_from a blocks) → IsThere (block_from a (written_byte blocks place byte))
there_byte a place byte [] h = h
there_byte a place byte (b ∷ blocks) h = go (there_byte a place byte blocks) (covers place b)
  where
    go : (IsThere (block_from a blocks) → IsThere (block_from a (written_byte blocks place byte))) → (c : Bool) → IsThere (block_from a (if c then written_block b place byte ∷ blocks else b ∷ written_byte blocks place byte))
    go later true =
        subst (λ t. IsThere (cond t (Some (written_block b place byte)) (find (begins_at a) blocks))) (sym (same_start a place byte b))
        (there_first (begins_at a b) b (written_block b place byte) (find (begins_at a) blocks) (find (begins_at a) blocks) (λ x. x) h)
    go later false = there_first (begins_at a b) b b (block_from a blocks) (block_from a (written_byte blocks place byte)) later h

pub there_written : (a : ℕ) (writes : List (ℕ × ℕ)) (blocks : List Block) → IsThere (block_from a blocks) → IsThere (block_from a (with_writes blocks writes))
there_written a [] blocks h = h
there_written a (w ∷ writes) blocks h = there_written a writes (written_byte blocks w.0 w.1) (there_byte a w.0 w.1 blocks h)

owned_on : (before after : List Block) (taken : List ℕ) → ((a : ℕ) → IsThere (block_from a before) → IsThere (block_from a after)) → AreOwned before taken → AreOwned after taken
owned_on before after [] keeps h = tt
owned_on before after (a ∷ taken) keeps (once, there, more) = (once, keeps a there, owned_on before after taken keeps more)

-- 2. The row

-- an action that leaves no more than other blocks agrees with what a statement does
abbrev pub Writes : Account RustValue → Outcome RustValue (Got RustValue (Unit {0})) → machine.Outcome (Unit {0}) → State → Type 0
Writes acc (Done x) q s = (blocks : List Block) × (q ≡ machine.Done tt (with_heap s blocks)) × (x.account ≡ account_of (with_heap s blocks)) × (AreOwned s.heap.blocks s.taken → AreOwned blocks s.taken)
Writes acc (Stopped e left) q s = seen None q ≡ Stopped e left
Writes acc (Stuck left) q s = left.calls ≡ acc.calls

abbrev pub finish : Setting → Option (List Block) → machine.Act (Unit {0})
finish w o = or_stop (stuck w) o >>= keep_blocks

pub finishes : (w : Setting) (s : State) (o : Option (List Block)) → ((blocks : List Block) → o ≡ Some blocks → Keeps s blocks) → Writes (account_of s) (by_blocks o (account_of s)) (finish w o s) s
finishes w s None keeps = refl
finishes w s (Some blocks) keeps = (blocks, refl, refl, owned_on s.heap.blocks blocks s.taken (keeps blocks refl))

stopped_early : (at : Option ℕ) (q : machine.Outcome (Unit {0})) (e : Stop) (left : Account RustValue) → seen None q ≡ Stopped e left → seen at q ≡ Stopped e left
stopped_early at (machine.Done v t) e left h = absurd cc
stopped_early at (machine.Stopped (stop_of.Stuck k) t) e left h = absurd cc
stopped_early at (machine.Stopped stop_of.Done t) e left h = h
stopped_early at (machine.Stopped (stop_of.Refused r) t) e left h = h
stopped_early at (machine.Stopped (stop_of.Trap k) t) e left h = h
stopped_early at (machine.Stopped stop_of.BadChoice t) e left h = h

module _ (old new : FunctionBindgen) (st : Stmt) (items : List RuntimeItem) (a : Appends old new (st ∷ []) items) (scope : new.scope ≡ old.scope) (quiet : (w : Setting) → CallsNothing (run_stmts w (st ∷ []))) where
  pub one_adds : Adds func_meaning old new
  one_adds = func_adds old new (st ∷ []) items a (λ n free. ap (λ (s : Scope). is_used s.used n) (sym scope) ∙ free) quiet

  denoted : (w : File) (ins others : Facts func_meaning) (s : FuncState) (blocks : List Block) → (AreOwned s.machine.heap.blocks s.machine.taken → AreOwned blocks s.machine.taken) → Denote w old (ins ++ others) s
      → Denote w new others (record { machine = with_heap s.machine blocks; area = s.area })
  denoted w ins others s blocks keeps h =
      let within = λ (n : Bytes) (free : is_used new.scope.used n ≡ false). h.hold.within n (ap (λ (x : Scope). is_used x.used n) (sym scope) ∙ free) in
      let fewer = part w.items old others (ins ++ others) s.machine (λ g. omega (arith, total-append g ins others)) h.hold in
      let d = denotes_on w old new (ins ++ others) others s s.machine (same_area old new (st ∷ []) items a) (unmoved s.machine) h (lasts w.items old new others s.machine s.machine a.params (λ n v e. e) within fewer) in
      record {
        hold = record { right = d.hold.right; apart = d.hold.apart; within = d.hold.within };
        owners = keeps h.owners;
        area = area_lasts new.import w.area s.area new.asked new.area s.machine (with_heap s.machine blocks) (λ n v e. e) refl d.area;
      }

  pub writes : (ins : Facts func_meaning) (act : Peer RustValue → Act RustValue (Unit {0}))
      → ((w : File) (p : Peer RustValue) (s : State) → Found w.items items → Hold w.items old ins s → Writes (account_of s) (act p (account_of s)) (run_stmts (setting_for w p) (st ∷ []) s) s)
      → Does func_meaning (Unit {0}) old new ins act (λ u fs. fs ≡ []) (λ u. []) (λ u. [])
  writes ins act agrees w p others s0 s at =
      let found = found_right w.items old.runtime items (subst (Found w.items) a.runtime at.serves.runtime) in
      let here = part w.items old ins (ins ++ others) s.machine (λ g. omega (arith, total-append g ins others)) at.holds.hold in
      go (act p (account_of s.machine)) (agrees w p s.machine found here)
    where
      go : (o : Outcome RustValue (Got RustValue (Unit {0}))) → Writes (account_of s.machine) o (run_stmts (setting_for w p) (st ∷ []) s.machine) s.machine
          → Follows func_meaning.account o (func_meaning.does w p new.code s0) (λ x t. (fs : Facts func_meaning) × (fs ≡ []) × After func_meaning w new (fs ++ others) [] [] s x t)
      go (Done x) (blocks, runs, same, keeps) = (
        record { machine = with_heap s.machine blocks; area = s.area },
        ran old new (st ∷ []) items a w p (ins ++ others) s0 s at ∙ ap (seen s.area) runs,
        ([], refl, record { account = sym same; owns = λ g. refl; denotes = denoted w ins others s blocks keeps at.holds }),
      )
      go (Stopped e left) h = ran old new (st ∷ []) items a w p (ins ++ others) s0 s at ∙ stopped_early s.area (run_stmts (setting_for w p) (st ∷ []) s.machine) e left h
      go (Stuck left) h =
          ap (λ o. (account_in func_meaning.account o).calls) (ran old new (st ∷ []) items a w p (ins ++ others) s0 s at)
          ∙ seen_calls s.area (run_stmts (setting_for w p) (st ∷ []) s.machine) ∙ ap (map call_of) ((quiet (setting_for w p)).quiet s.machine) ∙ sym h
