-- The row of the call of a method.
use Rattle.std.proofs.Common.{◌≡◌, ℕ, zero, suc, Bool, true, false, not, cond, if◌then◌else◌, ◌&&◌, Bor, List, [], ◌∷◌, ◌++◌, length, map, take, drop, find, reverse, Option, None, Some, refl, sym, ap, ap₂, ◌∙◌, subst, arith}
use Rattle.std.specs.Prelude.{IfSome, is_some, option_and_then, option_to_list, codes}
use Rattle.std.specs.List.{flat_map, AllByRecursion}
use Rattle.std.specs.Option.{option_map, option_or}
use Rattle.std.specs.Str.{bytes_eq}
use Rattle.std.proofs.lemmas.Bool.{and_parts, not-true}
use Rattle.std.proofs.lemmas.List.{map-append}
use Rattle.wit_layout.specs.Filled.{IsFilledFor}
use Rattle.wit_model.specs.Bytes.{Bytes}
use Rattle.wit_model.specs.declared.function.Function.{Function}
use Rattle.wit_model.specs.declared.types.TypeDef.{TypeDef}
use Rattle.wit_model.specs.declared.types.WitType.{WitType}
use Rattle.rust_tree.specs.Ident.{rust_ident}
use Rattle.rust_tree.specs.declared.export.CallBlock.{CallBlock}
use Rattle.rust_tree.specs.declared.expr.Expr.{Expr}
use Rattle.rust_tree.specs.declared.expr.Expr.TheVariants as expr
use Rattle.rust_tree.specs.declared.item.Item.{Item}
use Rattle.rust_tree.specs.declared.item.Item.TheVariants as item_of_file
use Rattle.rust_tree.specs.declared.runtime_item.RuntimeItem.{RuntimeItem}
use Rattle.rust_tree.specs.declared.trait_item.TraitFn.{TraitFn}
use Rattle.rust_tree.specs.declared.type_expr.TypeExpr.{TypeExpr}
use Rattle.rust_tree.specs.declared.type_expr.TypeExpr.TheVariants as type
use Rattle.wrapper_data.specs.declared.block.Block.{Block}
use Rattle.wrapper_data.specs.declared.choice.Request.{Request}
use Rattle.wrapper_data.specs.declared.heap.Heap.{Heap}
use Rattle.wrapper_data.specs.declared.run.Stop.TheVariants as stop_of
use Rattle.wrapper_data.specs.declared.run.Target.TheVariants as target
use Rattle.wrapper_data.specs.declared.value.RustValue.{RustValue}
use Rattle.wrapper_data.specs.declared.value.RustValue.TheVariants as value
use Rattle.wrapper_meaning.specs.Items.{total}
use Rattle.wrapper_values.specs.declared.state.Local.{Local}
use Rattle.wrapper_values.specs.declared.state.State.{State}
use Rattle.wrapper_values.specs.declared.state.Val.{Val}
use Rattle.wrapper_values.specs.declared.state.Val.TheVariants as val
use Rattle.wrapper_values.specs.Act as machine
use Rattle.wrapper_values.specs.Act.{◌>>=◌, ◌>>◌, all, and_then, or_stop, pure}
use Rattle.wrapper_values.specs.Effect.{rust_of}
use Rattle.wrapper_values.specs.Locals.{bind, last, local_named, usable}
use Rattle.wrapper_values.specs.Owning.{listed, owned_by, owned_in, taken_by}
use Rattle.wrapper_values.specs.Setting.{Setting, stuck}
use Rattle.wrapper_run.specs.Blocks.{free_all, keep_locals, leave_to}
use Rattle.wrapper_run.specs.ExportRun.{call_method, call_with, keep_result, method_call, method_in, method_named, method_point, passed_as, returned_of, take_value, values_of}
use Rattle.wrapper_run.specs.Memory.{block_from}
use Rattle.wrapper_run.specs.Run.{run_stmts}
use Rattle.wrapper_run.specs.Inward.{CallsNothing}
use Rattle.wrapper_run.proofs.LocalLemmas.{bytes_eq-same, reads-new}
use Rattle.wrapper_run.proofs.MethodLemmas.{answered_by, called_with, method_gives, point_of, quiet_taken, returned-unit, value_gives}
use Rattle.wrapper_run.proofs.OwningLemmas.{ArePlain, drops_plain}
use Rattle.wrapper_run.proofs.QuietActs.{calls_at, quiet_bind, quiet_drop, quiet_leave, quiet_pure, quiet_then}
use Rattle.abi_bindgen.specs.declared.bindgen.Asked.{Asked}
use Rattle.abi_bindgen.specs.declared.instruction.Instruction.TheVariants as instruction
use Rattle.abi_bindgen.specs.Account.{Account, Done, Follows, Got, Peer, Reply, Stops, Stuck, account_in, is_taken, value as value_reply, words}
use Rattle.abi_bindgen.specs.Area.{HoldsRecord}
use Rattle.abi_bindgen.specs.Calls.{HandsOver, are_live, handed_over, left_by, left_with, recorded, result_count, returned_with}
use Rattle.abi_bindgen.specs.Calls as calls
use Rattle.abi_bindgen.specs.Instructions.{Emits}
use Rattle.abi_bindgen.specs.Laws.{At, Facts, Grows, item_data, ofs}
use Rattle.abi_bindgen.specs.Meaning.{item, of}
use Rattle.func_gen.specs.declared.function_bindgen.Code.{Code}
use Rattle.func_gen.specs.declared.function_bindgen.FunctionBindgen.{FunctionBindgen}
use Rattle.func_gen.specs.declared.operand.ExprOperand.{ExprOperand}
use Rattle.func_gen.specs.declared.scope.Scope.{Scope}
use Rattle.func_gen.specs.Added.{Fresh}
use Rattle.func_gen.specs.CallForms.{exprs}
use Rattle.func_gen.specs.FactLemmas.{Says, one_at_most, said}
use Rattle.func_gen.specs.Facts.{AreOwned, IsThere, matches}
use Rattle.func_gen.specs.Forms.{operand_of}
use Rattle.func_gen.specs.Opened.{open_blocks}
use Rattle.func_gen.specs.Meaning.{AllAsCalled, AreaIs, Denote, File, Found, FuncState, GivesAsCalled, account_of, answer_of, call_of, func_meaning, owns_of, run_code, run_head, seen, setting_for, target_of}
use Rattle.func_gen.specs.MethodForms.{CallsIn, call_block}
use Rattle.func_gen.specs.Read.{Env, Read, env_of, less, read}
use Rattle.func_gen.specs.ReadForms.{read-local}
use Rattle.func_gen.specs.TypeSites.{AreDefined}
use Rattle.func_gen.specs.Scope.{is_used, TakesOne}
use Rattle.func_gen.specs.StandLemmas.{owned-unit}
use Rattle.func_gen.specs.Formed.{CallsMethod}
use Rattle.func_gen.specs.Written.{CanWrite}
use Rattle.func_gen.proofs.Forming.{takes_none}
use Rattle.func_gen.proofs.Lasting.{area_same, denotes_on, lasts, owns_with, still_free, with_local, within_with}
use Rattle.func_gen.proofs.FieldOrder.{still_defined}
use Rattle.func_gen.proofs.KeptOwners.{KeepsOwners, keeps_owners}
use Rattle.func_gen.proofs.MethodValues.{values_alike}
use Rattle.func_gen.proofs.PartRows.{acts_same, all_owned}
use Rattle.func_gen.proofs.Rows.{unmoved}
use Rattle.func_gen.proofs.Several.{UsedAll, uses_all}
use Rattle.func_gen.proofs.RuntimeItems.{suspended_from}
use Rattle.func_gen.proofs.Steps.{seen_calls, seen_done}
use Rattle.wrapper_meaning.proofs.PostReturn.{total-append}

-- 1. The code, and what it leaves as it was

abbrev unit_method : Bytes → TraitFn
unit_method name = record { docs = []; name = name; params = []; result = type.Unit }

-- a file that has the method, for no value
abbrev with_method : Bytes → Bytes → List Item → List Item
with_method named name items = item_of_file.Trait (record { name = named; functions = unit_method name ∷ [] }) ∷ items

found_still : (named name : Bytes) (items : List Item) (parts : List RuntimeItem) → Found items parts → Found (with_method named name items) parts
found_still named name items [] h = tt
found_still named name items (i ∷ parts) h = (h.0, found_still named name items parts h.1)

named_with : (named name : Bytes) (items : List Item) → method_named (with_method named name items) named name ≡ Some (unit_method name)
named_with named name items =
    ap (λ b. option_or (if b then method_in (unit_method name ∷ []) name else None) (method_named items named name)) (bytes_eq-same named)
    ∙ ap (λ b. option_or (cond b (Some (unit_method name)) None) (method_named items named name)) (bytes_eq-same name)

-- what else is called for no value still gives none
still_called : (named name : Bytes) (items : List Item) (call : Option CallBlock) → GivesAsCalled items named call → GivesAsCalled (with_method named name items) named call
still_called named name items None h = tt
still_called named name items (Some c) h = λ none.
    subst (λ b. IfSome (option_or (if b then method_in (unit_method name ∷ []) c.method else None) (method_named items named c.method)) (λ (m : TraitFn). m.result ≡ type.Unit)) (sym (bytes_eq-same named)) (go (bytes_eq name c.method) (h none))
  where
    go : (b : Bool) → IfSome (method_named items named c.method) (λ (m : TraitFn). m.result ≡ type.Unit) → IfSome (option_or (cond b (Some (unit_method name)) None) (method_named items named c.method)) (λ (m : TraitFn). m.result ≡ type.Unit)
    go true k = refl
    go false k = k

-- how the block ends, once the method has answered
abbrev ending : Option Bytes → Setting → ℕ → machine.Outcome Val → machine.Outcome (Unit {0})
ending held w kept o = and_then (and_then (and_then o (λ v. leave_to w kept >> pure v)) (keep_result w held)) (λ u. pure tt)

module _ (f : Function) (os : List ExprOperand) (held : Option Bytes) (old new : FunctionBindgen) (a : CallsIn f (exprs os) held old new) (first : old.code.call ≡ None) where
  abbrev block : CallBlock
  block = call_block f old.code.stmts (exprs os) held

  code_runs : (w : Setting) (bound : Bytes) (s : State) → run_code w bound new.code s ≡ ending held w (length s.locals) (and_then (run_stmts w old.code.stmts s) (λ u. call_with w bound block))
  code_runs w bound s = ap (λ (c : Code). run_code w bound c s) a.code

  old_runs : (w : Setting) (bound : Bytes) (s : State) → run_code w bound old.code s ≡ run_stmts w old.code.stmts s
  old_runs w bound s = ap (λ c. and_then (run_head w bound c s) (λ u. run_stmts w old.code.stmts)) first

  stops_at : (at : Option ℕ) (w : Setting) (bound : Bytes) (kept : ℕ) (o : machine.Outcome (Unit {0})) → Stops func_meaning.account (seen at o) (seen at (ending held w kept (and_then o (λ u. call_with w bound block))))
  stops_at at w bound kept (machine.Done u t) = tt
  stops_at at w bound kept (machine.Stopped stop_of.Done t) = refl
  stops_at at w bound kept (machine.Stopped (stop_of.Refused r) t) = refl
  stops_at at w bound kept (machine.Stopped (stop_of.Trap k) t) = refl
  stops_at at w bound kept (machine.Stopped (stop_of.Stuck n) t) = refl
  stops_at at w bound kept (machine.Stopped stop_of.BadChoice t) = refl

  module _ (names : (n : Bytes) → is_used new.scope.used n ≡ false → is_used old.scope.used n ≡ false) where
    known : (w : File) (facts : Facts func_meaning) (s : FuncState) → Denote w old facts s → Denote w new facts s
    known w facts s h =
        denotes_on w old new facts facts s s.machine (record { import = a.import; asked = a.asked; name = a.area }) (unmoved s.machine) h
        (lasts w.items old new facts s.machine s.machine a.params (λ n v e. e) (λ n free. h.hold.within n (names n free)) h.hold)

    -- where the old code stops, the block does: its statements come first
    pub method_grows : Grows func_meaning old new
    method_grows = record {
      serves = λ w h. record {
        runtime = subst (Found w.items) a.runtime h.runtime;
        sites = subst (AreDefined w.items) a.sites h.sites;
        room = subst (AllByRecursion (HoldsRecord 2 w.area)) a.asked h.room;
        sized = h.sized;
        static = λ e. h.static (a.import ∙ e);
        bound = λ e. h.bound (a.import ∙ e) ∙ a.home;
        called = subst (GivesAsCalled w.items w.bound) (sym first) tt;
        suspended = subst (AllAsCalled w.items w.bound) a.opened h.suspended;
      };
      more = λ w h.
          let items = with_method w.bound (rust_ident f.name) w.items in (
            record { items = items; item = w.item; bound = w.bound; area = w.area },
            record {
              runtime = subst (Found items) (sym a.runtime) (found_still w.bound (rust_ident f.name) w.items old.runtime h.runtime);
              sites = subst (AreDefined items) (sym a.sites) (still_defined w.items items (λ name. refl) old.sites h.sites);
              room = subst (AllByRecursion (HoldsRecord 2 w.area)) (sym a.asked) h.room;
              sized = h.sized;
              static = λ e. h.static (sym a.import ∙ e);
              bound = λ e. h.bound (sym a.import ∙ e) ∙ sym a.home;
              called = subst (λ (c : Code). GivesAsCalled items w.bound c.call) (sym a.code) (λ none. subst (λ t. IfSome t (λ (m : TraitFn). m.result ≡ type.Unit)) (sym (named_with w.bound (rust_ident f.name) w.items)) refl);
              suspended = subst (AllAsCalled items w.bound) (sym a.opened) (suspended_from w.items items w.bound (still_called w.bound (rust_ident f.name) w.items) old.opened h.suspended);
            },
          );
      stops = λ w p s h.
          subst (λ o. Stops func_meaning.account o (func_meaning.does w p new.code s)) (ap (seen s.area) (sym (old_runs (setting_for w p) w.bound s.machine)))
          (subst (λ o. Stops func_meaning.account (seen s.area (run_stmts (setting_for w p) old.code.stmts s.machine)) o) (ap (seen s.area) (sym (code_runs (setting_for w p) w.bound s.machine)))
          (stops_at s.area (setting_for w p) w.bound (length s.machine.locals) (run_stmts (setting_for w p) old.code.stmts s.machine)));
      imports = a.import;
      exports = ap not a.import;
      arguments = ap (λ ps. Some (length ps)) a.params;
      knows = λ types h. subst (λ sizes. IsFilledFor sizes types) (sym a.sizes) h;
      writes = λ types id h. subst (λ sites. CanWrite types sites id) (sym a.sites) h;
      target = λ g. ap₂ (λ import home. if import then target.Core home g.name.wit else target.Method home (rust_ident g.name)) a.import a.home;
      crosses = λ w g. refl;
      opened = ap open_blocks a.opened;
      known = known;
    }

-- 2. The block's end, where its locals own nothing

take_none : {A : Type 0} (passes : A → Bool) (n : ℕ) (xs : List A) → last passes xs ≡ None → last passes (take n xs) ≡ None
take_none passes zero xs h = refl
take_none passes (suc n) [] h = refl
take_none {A} passes (suc n) (x ∷ xs) h = go (last passes xs) (cond (passes x) (Some x) None) refl (take_none passes n xs) h
  where
    go : (o p : Option A) → last passes xs ≡ o → (last passes xs ≡ None → last passes (take n xs) ≡ None) → option_or o p ≡ None → option_or (last passes (take n xs)) p ≡ None
    go (Some y) p e more k = absurd cc
    go None p e more k = ap (λ q. option_or q p) (more e) ∙ k

plain_drop : (n : ℕ) (locals : List Local) → ArePlain locals → ArePlain (drop n locals)
plain_drop zero locals h = h
plain_drop (suc n) [] h = h
plain_drop (suc n) (l ∷ locals) h = plain_drop n locals h.1

abbrev locals_own : List Local → List ℕ
locals_own locals = flat_map (λ (l : Local). owned_in l.value) locals

taken_nothing : (n : ℕ) (locals : List Local) → ArePlain locals → locals_own (take n locals) ≡ []
taken_nothing zero locals h = refl
taken_nothing (suc n) [] h = refl
taken_nothing (suc n) (l ∷ locals) h = ap₂ (λ xs ys. xs ++ ys) h.0 (taken_nothing n locals h.1)

leaves : (w : Setting) (kept : ℕ) (s : State) → ArePlain s.locals → leave_to w kept s ≡ machine.Done tt (record s { locals = take kept s.locals })
unfolding leave_to
leaves w kept s h = ap (λ o. and_then o (λ u. keep_locals (take kept s.locals))) (drops_plain w (drop kept s.locals) (record s { locals = [] }) (plain_drop kept s.locals h))

pub nothing_there : (xs : List ℕ) → total (λ x. 1) xs ≡ 0 → xs ≡ []
nothing_there [] h = refl
nothing_there (x ∷ xs) h = absurd (omega (arith, h))

pub both_empty : (xs ys : List ℕ) → xs ++ ys ≡ [] → ys ≡ []
both_empty [] ys h = h
both_empty (x ∷ xs) ys h = absurd cc

all_plain : (locals : List Local) → locals_own locals ≡ [] → ArePlain locals
all_plain [] h = tt
all_plain (l ∷ locals) h = (first_empty (owned_in l.value) (locals_own locals) h, all_plain locals (both_empty (owned_in l.value) (locals_own locals) h))
  where
    first_empty : (xs ys : List ℕ) → xs ++ ys ≡ [] → xs ≡ []
    first_empty [] ys k = refl
    first_empty (x ∷ xs) ys k = absurd cc

-- 3. What the method's heap has

live_owned : (taken : List ℕ) (blocks : List Block) → are_live taken blocks ≡ true → AreOwned blocks taken
live_owned [] blocks h = tt
live_owned (x ∷ taken) blocks h =
    let two = and_parts (is_some (find (calls.begins_at x) blocks) && not (is_taken x taken)) (are_live taken blocks) h in
    let one = and_parts (is_some (find (calls.begins_at x) blocks)) (not (is_taken x taken)) two.0 in
    (not-true (is_taken x taken) one.1, there (block_from x blocks) one.0, live_owned taken blocks two.1)
  where
    there : (o : Option Block) → is_some o ≡ true → IsThere o
    there None k = absurd cc
    there (Some b) k = tt

area_of_export : (area : Option Request) (at : Option ℕ) (asked : List Asked) (name : Bytes) (s t : State) → t.place ≡ s.place → AreaIs false area at asked name s → AreaIs false area at asked name t
area_of_export area None asked name s t p h = λ e. p ∙ h e
area_of_export area (Some address) asked name s t p h = h

-- 4. The row

taken_flat : (rs : List RustValue) → taken_by rs ≡ flat_map owned_by rs
taken_flat [] = refl
taken_flat (r ∷ rs) = ap (λ xs. owned_by r ++ xs) (taken_flat rs)

quiet_keep : (w : Setting) (held : Option Bytes) (v : Val) → CallsNothing (keep_result w held v)
quiet_keep w None v = quiet_drop w v
quiet_keep w (Some n) v = quiet_bind n v

-- a call that no method answers, or that passes no values of its types

no_method : (w : Setting) (named name : Bytes) (vs : List Val) (s : State) → method_named w.items named name ≡ None → call_method w named name vs s ≡ machine.Stopped (stuck w) s
unfolding method_call
no_method w named name vs s none = ap (λ o. and_then (or_stop (stuck w) (option_and_then (called_with w.items named name s.heap vs) o) s) (answered_by w)) none

no_values : (w : Setting) (named name : Bytes) (m : TraitFn) (vs : List Val) (s : State) → method_named w.items named name ≡ Some m → values_of w.items m.params vs ≡ None → call_method w named name vs s ≡ machine.Stopped (stuck w) s
unfolding method_call
no_values w named name m vs s there none =
    ap (λ o. and_then (or_stop (stuck w) (option_and_then (called_with w.items named name s.heap vs) o) s) (answered_by w)) there
    ∙ ap (λ o. and_then (or_stop (stuck w) (option_map (point_of named name s.heap m) o) s) (answered_by w)) none

-- an export's area does not stand that was not asked for
not_placed : (import : Bool) → import ≡ false → (area : Option Request) (at : Option ℕ) (asked : List Asked) → asked ≡ [] → (name : Bytes) (s : State) → AreaIs import area at asked name s → s.place ≡ None
not_placed true e area at asked none name s h = absurd cc
not_placed false e area None asked none name s h = h none
not_placed false e area (Some address) asked none name s h = absurd h

value_returned : (items : List Item) (ty : TypeExpr) (r : RustValue) (v : Val) → returned_of items ty (Some r) ≡ Some v → (c : RustValue) × (v ≡ val.Value c)
value_returned items ty r v h = go (passed_as items ty (val.Value r)) h
  where
    go : (o : Option RustValue) → option_map val.Value o ≡ Some v → (c : RustValue) × (v ≡ val.Value c)
    go None k = absurd cc
    go (Some c) k = let same : val.Value c ≡ v = cc in (c, sym same)

abbrev results : Option Bytes → List ExprOperand
results None = []
results (Some n) = operand_of (expr.Local n) ∷ []

-- what is new of the local that holds the value
abbrev NewLocal : Option Bytes → (old new : FunctionBindgen) → Type 0
NewLocal None old new = new.scope ≡ old.scope
NewLocal (Some n) old new = Fresh old new n

names_still : (held : Option Bytes) (old new : FunctionBindgen) → NewLocal held old new → (n : Bytes) → is_used new.scope.used n ≡ false → is_used old.scope.used n ≡ false
names_still None old new same n free = ap (λ (s : Scope). is_used s.used n) (sym same) ∙ free
names_still (Some k) old new fresh n free = still_free old new k fresh n free

module _ (f : Function) (os : List ExprOperand) (held : Option Bytes) (old new : FunctionBindgen) (a : CallsIn f (exprs os) held old new) (first : old.code.call ≡ None) (unasked : old.asked ≡ []) (export : old.import ≡ false) (due : result_count f ≡ length (option_to_list held)) (local : NewLocal held old new) (keeps : (items : List Item) → KeepsOwners items) where
  module _ (vals : List RustValue) (w : File) (p : Peer RustValue) (others : Facts func_meaning) (s0 s : FuncState) (many : length vals ≡ length os) (at : At func_meaning w p old new (ofs func_meaning os (item_data func_meaning vals) ++ others) s0 s) (all_theirs : (g : ℕ → ℕ) → total g (owns_of s.machine) ≡ total g (flat_map owned_by vals)) where
    abbrev set : Setting
    set = setting_for w p

    abbrev acc : Account RustValue
    acc = account_of s.machine

    abbrev kept : ℕ
    kept = length s0.machine.locals

    u : UsedAll set old os vals others s.machine
    u = uses_all set old os vals others s.machine (sym many) at.holds.hold

    abbrev name : Bytes
    name = rust_ident f.name

    -- the run comes to the call, with these values
    comes : func_meaning.does w p new.code s0 ≡ seen s0.area (ending held set kept (call_method set w.bound name u.given u.then))
    comes =
        let before = seen_done s0.area (run_code set w.bound old.code s0.machine) s at.done in
        let done : run_stmts set old.code.stmts s0.machine ≡ machine.Done tt s.machine = sym (old_runs f os held old new a first set w.bound s0.machine) ∙ before.0 in
        ap (seen s0.area) (code_runs f os held old new a first set w.bound s0.machine
        ∙ ap (λ o. ending held set kept (and_then o (λ u. call_with set w.bound (call_block f old.code.stmts (exprs os) held)))) done
        ∙ ap (λ acts. ending held set kept (and_then (all acts s.machine) (call_method set w.bound name))) (acts_same set os)
        ∙ ap (λ o. ending held set kept (and_then o (call_method set w.bound name))) u.evaluated)

    quiet_end : (ty : TypeExpr) (t : State) → calls_at (ending held set kept (take_value set ty t)) ≡ t.calls
    quiet_end ty t =
        let leaving : Val → machine.Act Val = λ v. leave_to set kept >> pure v in
        let left : (v : Val) → CallsNothing (leaving v) = λ v. quiet_then (leave_to set kept) (λ u. pure v) (quiet_leave set kept) (λ u. quiet_pure v) in
        let taken = quiet_then (take_value set ty) leaving (quiet_taken set ty) left in
        (quiet_then ((take_value set ty >>= leaving) >>= keep_result set held) (λ u. pure tt) (quiet_then (take_value set ty >>= leaving) (keep_result set held) taken (quiet_keep set held)) (λ u. quiet_pure tt)).quiet t

    -- what the operands owned, the locals own no more
    plain : ArePlain u.then.locals
    plain =
        let one = u.owns (λ x. 1) in
        let given = ap (total (λ x. 1)) (all_owned u.given vals u.is ∙ taken_flat vals) in
        let none : owns_of u.then ≡ [] = nothing_there (owns_of u.then) (omega (arith, one, given, all_theirs (λ x. 1))) in
        all_plain u.then.locals (both_empty (option_to_list u.then.place) (locals_own u.then.locals) none)

    unplaced : u.then.place ≡ None
    unplaced = u.place ∙ not_placed old.import export w.area s.area old.asked unasked old.area s.machine at.holds.area

    ended : (v : Val) (t : State) → ArePlain t.locals → ending held set kept (machine.Done v t) ≡ and_then (keep_result set held v (record t { locals = take kept t.locals })) (λ u. pure tt)
    ended v t h = ap (λ o. and_then (and_then (and_then o (λ u. pure v)) (keep_result set held)) (λ u. pure tt)) (leaves set kept t h)

    -- of the locals before, no name is free
    within : (n : Bytes) → is_used old.scope.used n ≡ false → local_named n (take kept u.then.locals) ≡ None
    within n free = take_none (λ (l : Local). bytes_eq l.name n) kept u.then.locals (u.holds.within n free)

    area_there : (t : State) → t.place ≡ u.then.place → AreaIs new.import w.area s0.area new.asked new.area t
    area_there t same =
        let before = seen_done s0.area (run_code set w.bound old.code s0.machine) s at.done in
        let here = area_same w old new s.area s.machine (record { import = a.import; asked = a.asked; name = a.area }) at.holds.area in
        let is_false : new.import ≡ false = a.import ∙ export in
        subst (λ i. AreaIs i w.area s0.area new.asked new.area t) (sym is_false)
        (area_of_export w.area s0.area new.asked new.area s.machine t (same ∙ u.place)
        (subst (λ at. AreaIs false w.area at new.asked new.area s.machine) before.1
        (subst (λ i. AreaIs i w.area s.area new.asked new.area s.machine) is_false here)))

    abbrev Handed : Option Bytes → Got RustValue (List RustValue) → FuncState → Type 0
    Handed h x t = (account_of t.machine ≡ x.account) × ((g : ℕ → ℕ) → total g (owns_of t.machine) ≡ total g (flat_map owned_by x.result)) × Denote w new (ofs func_meaning (results h) (item_data func_meaning x.result)) t

    -- where the file has the method, and these values are passed
    module _ (m : TraitFn) (there : method_named w.items w.bound name ≡ Some m) (values : List RustValue) (passes : values_of w.items m.params (map (λ r. val.Value r) vals) ≡ Some values) where
      abbrev s1 : State
      s1 = record u.then { calls = u.then.calls ++ method_point w.bound name u.then.heap values ∷ [] }

      called : func_meaning.does w p new.code s0 ≡ seen s0.area (ending held set kept (take_value set m.result s1))
      called = comes ∙ ap (λ o. seen s0.area (ending held set kept o)) (method_gives set w.bound name m u.given values u.then there (values_alike w.items m.params u.given vals u.items ∙ passes))

      abbrev acc1 : Account RustValue
      acc1 = recorded (calls.method_point (target_of old f) values acc) acc

      target_is : target.Method w.bound name ≡ target_of old f
      target_is =
          ap (λ home. target.Method home name) (at.serves.bound (a.import ∙ export) ∙ a.home)
          ∙ sym (ap (λ (i : Bool). if i then target.Core old.home f.name.wit else target.Method old.home (rust_ident f.name)) export)

      account1 : account_of s1 ≡ acc1
      account1 =
          ap (λ cs. record (account_of u.then) { calls = cs }) (map-append call_of u.then.calls (method_point w.bound name u.then.heap values ∷ []))
          ∙ ap (λ (x : Account RustValue). record x { calls = x.calls ++ record { target = target.Method w.bound name; words = []; values = values; heap = x.heap } ∷ [] }) u.account
          ∙ ap (λ t. record acc { calls = acc.calls ++ record { target = t; words = []; values = values; heap = acc.heap } ∷ [] }) target_is

      -- whatever follows, this call was made
      and_no_more : (account_in func_meaning.account (func_meaning.does w p new.code s0)).calls ≡ acc1.calls
      and_no_more =
          ap (λ o. (account_in func_meaning.account o).calls) called ∙ seen_calls s0.area (ending held set kept (take_value set m.result s1))
          ∙ ap (map call_of) (quiet_end m.result s1) ∙ ap (λ (x : Account RustValue). x.calls) account1

      -- the state once the method has answered
      abbrev answered : Option RustValue → Heap → State
      answered r heap = record s1 { heap = heap; taken = taken_by (listed r) }

      abbrev left : Option RustValue → Heap → State
      left r heap = record (answered r heap) { locals = take kept u.then.locals }

      account_left : (r : Option RustValue) (heap : Heap) (taken : List ℕ) → taken_by (listed r) ≡ taken → account_of (left r heap) ≡ record acc1 { heap = heap; taken = taken }
      account_left r heap taken same = ap (λ (x : Account RustValue). record x { heap = heap; taken = taken_by (listed r) }) account1 ∙ ap (λ ts. record acc1 { heap = heap; taken = ts }) same

      owns_left : (r : Option RustValue) (heap : Heap) → owns_of (left r heap) ≡ []
      owns_left r heap = ap (λ o. option_to_list o ++ locals_own (take kept u.then.locals)) unplaced ∙ taken_nothing kept u.then.locals plain

      runs_on : (r : Option RustValue) (heap : Heap) (v : Val) → p.reply ≡ value_reply r heap → returned_of w.items m.result r ≡ Some v
          → func_meaning.does w p new.code s0 ≡ seen s0.area (and_then (keep_result set held v (left r heap)) (λ u. pure tt))
      runs_on r heap v is given =
          called ∙ ap (λ o. seen s0.area (ending held set kept o)) (value_gives set m.result r v heap s1 (ap answer_of is) given)
          ∙ ap (seen s0.area) (ended v (answered r heap) plain)

      -- no value is due
      for_none : held ≡ None → (heap : Heap) → p.reply ≡ value_reply None heap → NewLocal None old new
          → Follows func_meaning.account (left_with owned_by heap [] acc1) (func_meaning.does w p new.code s0) (Handed None)
      for_none none heap is same =
          let as_called : IfSome (method_named w.items w.bound name) (λ (t : TraitFn). t.result ≡ type.Unit) = subst (λ (c : Code). GivesAsCalled w.items w.bound c.call) a.code at.serves.called none in
          let unit : m.result ≡ type.Unit = subst (λ t. IfSome t (λ (t : TraitFn). t.result ≡ type.Unit)) there as_called in
          let given = ap (λ ty. returned_of w.items ty None) unit ∙ returned-unit w.items in
          let t : FuncState = record { machine = left None heap; area = s0.area } in (
            t,
            runs_on None heap (val.Value value.Unit) is given
                ∙ ap (λ h. seen s0.area (and_then (keep_result set h (val.Value value.Unit) (left None heap)) (λ u. pure tt))) none
                ∙ ap (λ bs. seen s0.area (and_then (free_all set bs (left None heap)) (λ u. pure tt))) owned-unit,
            (
              account_left None heap [] refl,
              λ g. ap (total g) (owns_left None heap),
              record {
                hold = record { right = refl; apart = λ n o. omega arith; within = λ n free. within n (ap (λ (x : Scope). is_used x.used n) (sym same) ∙ free) };
                owners = tt;
                area = area_there (left None heap) refl;
              },
            ),
          )

      -- one is
      for_one : (n : Bytes) → held ≡ Some n → (r c : RustValue) (heap : Heap) → p.reply ≡ value_reply (Some r) heap → returned_of w.items m.result (Some r) ≡ Some (val.Value c) → NewLocal (Some n) old new
          → Follows func_meaning.account (left_with owned_by heap (c ∷ []) acc1) (func_meaning.does w p new.code s0) (Handed (Some n))
      unfolding bind
      for_one n is_held r c heap is given fresh = go (are_live (owned_by c ++ []) heap.blocks) refl
        where
          t : State
          t = with_local (left (Some r) heap) n (val.Value c)

          taken_same : taken_by (listed (Some r)) ≡ owned_by c ++ []
          taken_same = ap (λ xs. xs ++ []) (sym (keeps w.items m.result r c given))

          says : (env : Env) → env n ≡ Some (val.Value c) → Says (item c) ((read w.items (expr.Local n)).at env)
          says env e = ap (λ (q : Read). q.at env) (read-local w.items n) ∙ ap (option_and_then usable) e

          go : (b : Bool) → are_live (owned_by c ++ []) heap.blocks ≡ b
              → Follows func_meaning.account (if b then Done (record { result = c ∷ []; account = record acc1 { heap = heap; taken = owned_by c ++ [] } }) else Stuck acc1) (func_meaning.does w p new.code s0) (Handed (Some n))
          go false e = and_no_more
          go true e = (
            record { machine = t; area = s0.area },
            runs_on (Some r) heap (val.Value c) is given ∙ ap (λ h. seen s0.area (and_then (keep_result set h (val.Value c) (left (Some r) heap)) (λ u. pure tt))) is_held,
            (
              account_left (Some r) heap (owned_by c ++ []) taken_same,
              λ g. let none = ap (total g) (owns_left (Some r) heap) in omega (arith, none, owns_with g (left (Some r) heap) n (val.Value c), total-append g (owned_by c) []),
              record {
                hold = record {
                  right = let z = said w.items new.params (env_of t) (of (operand_of (expr.Local n)) (item c)) (says (env_of t) (reads-new n (Some (val.Value c)) (take kept u.then.locals))) in omega (arith, z);
                  apart = λ k o. let z = one_at_most (matches (item c) ((read w.items (expr.Local n)).at (less (env_of t) k))) in omega (arith, z);
                  within = within_with old new n (left (Some r) heap) (val.Value c) fresh within;
                };
                owners = subst (AreOwned heap.blocks) (sym taken_same) (live_owned (owned_by c ++ []) heap.blocks e);
                area = area_there t refl;
              },
            ),
          )

      -- what comes in, where a value is due
      abbrev receives : RustValue → Option RustValue
      receives r = option_and_then rust_of (returned_of w.items m.result (Some r))

      by_returned : (n : Bytes) → held ≡ Some n → NewLocal (Some n) old new → (r : RustValue) (heap : Heap) → p.reply ≡ value_reply (Some r) heap → (q : Option Val) → returned_of w.items m.result (Some r) ≡ q
          → Follows func_meaning.account (left_by owned_by heap (option_map (λ c. c ∷ []) (option_and_then rust_of q)) acc1) (func_meaning.does w p new.code s0) (Handed (Some n))
      by_returned n e fresh r heap is None given = and_no_more
      by_returned n e fresh r heap is (Some v) given =
          let c = value_returned w.items m.result r v given in
          subst (λ v. Follows func_meaning.account (left_by owned_by heap (option_map (λ c. c ∷ []) (rust_of v)) acc1) (func_meaning.does w p new.code s0) (Handed (Some n))) (sym c.1)
          (for_one n e r c.0 heap is (given ∙ ap (λ v. Some v) c.1) fresh)

      by_value : (h : Option Bytes) → held ≡ h → NewLocal h old new → (v : Option RustValue) (heap : Heap) → p.reply ≡ value_reply v heap
          → Follows func_meaning.account (returned_with owned_by receives (length (option_to_list h)) (value_reply v heap) acc1) (func_meaning.does w p new.code s0) (Handed h)
      by_value None e same None heap is = for_none e heap is same
      by_value None e same (Some r) heap is = and_no_more
      by_value (Some n) e fresh None heap is = and_no_more
      by_value (Some n) e fresh (Some r) heap is = by_returned n e fresh r heap is (returned_of w.items m.result (Some r)) refl

      by_reply : (r : Reply RustValue) → p.reply ≡ r → Follows func_meaning.account (returned_with owned_by receives (result_count f) r acc1) (func_meaning.does w p new.code s0) (Handed held)
      by_reply (words x writes blocks) is = and_no_more
      by_reply (value_reply v heap) is =
          subst (λ d. Follows func_meaning.account (returned_with owned_by receives d (value_reply v heap) acc1) (func_meaning.does w p new.code s0) (Handed held)) (sym due)
          (by_value held refl local v heap is)

    -- nothing is called
    not_called : call_method set w.bound name u.given u.then ≡ machine.Stopped (stuck set) u.then → (account_in func_meaning.account (func_meaning.does w p new.code s0)).calls ≡ acc.calls
    not_called h = ap (λ o. (account_in func_meaning.account o).calls) (comes ∙ ap (λ o. seen s0.area (ending held set kept o)) h) ∙ ap (λ (x : Account RustValue). x.calls) u.account

    abbrev Called : Option TraitFn → Option (List RustValue) → Type 0
    Called o q =
        Follows func_meaning.account (handed_over owned_by (λ r. option_and_then (λ (t : TraitFn). option_and_then rust_of (returned_of w.items t.result (Some r))) o) (target_of old f) (result_count f) p.reply q acc)
        (func_meaning.does w p new.code s0) (Handed held)

    by_values : (m : TraitFn) → method_named w.items w.bound name ≡ Some m → (q : Option (List RustValue)) → values_of w.items m.params (map (λ r. val.Value r) vals) ≡ q → Called (Some m) q
    by_values m there None none = not_called (no_values set w.bound name m u.given u.then there (values_alike w.items m.params u.given vals u.items ∙ none))
    by_values m there (Some values) passes = by_reply m there values passes p.reply refl

    by_method : (o : Option TraitFn) → method_named w.items w.bound name ≡ o → Called o (option_and_then (λ (t : TraitFn). values_of w.items t.params (map (λ r. val.Value r) vals)) o)
    by_method None none = not_called (no_method set w.bound name u.given u.then none)
    by_method (Some m) there = by_values m there (values_of w.items m.params (map (λ r. val.Value r) vals)) refl

  hands : HandsOver func_meaning f os (results held) old new
  hands vals w p others s0 s many at all_theirs = by_method vals w p others s0 s many at all_theirs (method_named w.items w.bound (rust_ident f.name)) refl

as_many : (held : Option Bytes) → length (results held) ≡ length (option_to_list held)
as_many None = refl
as_many (Some n) = refl

abbrev pub NamedBy : Option Bytes → (old new : FunctionBindgen) → Type 0
NamedBy None old new = new.scope ≡ old.scope
NamedBy (Some n) old new = TakesOne old.scope (codes "result") n new.scope

becomes : (f : Function) (os : List ExprOperand) (due : Option WitType) (held : Option Bytes) (old new : FunctionBindgen) → CallsIn f (exprs os) held old new → old.code.call ≡ None → length (option_to_list due) ≡ length (option_to_list held) → NamedBy held old new
    → CallsMethod due f os (results held) old new
becomes f os None None old new a first same named = record { number = old.scope.next; takes = takes_none old.scope new.scope named; first = first; code = a.code; runtime = a.runtime; results = refl; opened = a.opened; finished = a.finished }
becomes f os None (Some n) old new a first same named = absurd cc
becomes f os (Some ty) None old new a first same named = absurd cc
becomes f os (Some ty) (Some n) old new a first same named = record {
  number = named.number;
  takes = named.takes;
  first = first;
  code = (subst (λ x. CallsIn f (exprs os) (Some x) old new) named.is a).code;
  runtime = a.runtime;
  results = ap (λ x. operand_of (expr.Local x) ∷ []) named.is;
  opened = a.opened;
  finished = a.finished;
}

pub method_row : (types : List TypeDef) (f : Bor Function) (os : List ExprOperand) (held : Option Bytes) (old new : FunctionBindgen) → CallsIn f.now (exprs os) held old new → old.code.call ≡ None → old.asked ≡ [] → old.import ≡ false
    → result_count f.now ≡ length (option_to_list held) → NewLocal held old new → NamedBy held old new → Emits func_meaning types (instruction.CallInterface f) os (results held) old new
method_row types f os held old new a first unasked export due local named =
    record {
      adds = method_grows f.now os held old new a first (names_still held old new local);
      blocks = ap reverse a.finished;
      returned = a.returned;
      asked = a.asked;
      results = as_many held ∙ sym due;
      form = record {
        still = record { import = a.import; home = a.home; area = a.area; params = a.params; sites = a.sites; sizes = a.sizes };
        given = tt;
        code = becomes f.now os f.now.result held old new a first due named;
      };
      row = hands f.now os held old new a first unasked export due local keeps_owners;
    }

-- 5. As the code has it

pub calls_as : (f : Function) (arguments others : List Expr) (held : Option Bytes) (old new : FunctionBindgen) → arguments ≡ others → CallsIn f arguments held old new → CallsIn f others held old new
calls_as f arguments others held old new e h = subst (λ es. CallsIn f es held old new) e h

pub none_due : {A : Type 0} (o : Option A) → is_some o ≡ false → length (option_to_list o) ≡ 0
none_due None h = refl
none_due (Some x) h = absurd cc

pub one_due : {A : Type 0} (o : Option A) → is_some o ≡ true → length (option_to_list o) ≡ 1
one_due None h = absurd cc
one_due (Some x) h = refl
