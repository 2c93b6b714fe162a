-- What a wrapper's run is: structural over the finished tree, with an answer for the other side.
use Rattle.std.specs.Prelude.{◌+◌, ◌^◌, nat_lt, ℕ, zero, suc, Bool, false, List, [], ◌∷◌, ◌++◌, codes, Option, None, Some, Result, Ok, Err, option_and_then, if◌then◌else◌, find, map, slice_get, true, ◌&&◌}
use Rattle.std.specs.Option.{option_map, option_or}
use Rattle.std.specs.Str.{bytes_eq}
use Rattle.wit_model.specs.declared.size.ArchitectureSize.{ArchitectureSize}
use Rattle.wit_model.specs.declared.wasm_type.WasmType.{WasmType}
use Rattle.wit_model.specs.Size.{bytes_at}
use Rattle.rust_tree.specs.declared.expr.Expr.{Expr, Expr-F, fold-Expr}
use Rattle.rust_tree.specs.declared.expr.SmallType.{SmallType}
use Rattle.rust_tree.specs.declared.item.FnItem.{FnItem}
use Rattle.rust_tree.specs.declared.item.FnParam.{FnParam}
use Rattle.rust_tree.specs.declared.item.Item.{Item}
use Rattle.rust_tree.specs.declared.item.Item.TheVariants as item
use Rattle.rust_tree.specs.declared.path.Path.{Path}
use Rattle.rust_tree.specs.declared.runtime_item.RuntimeItem.{RuntimeItem}
use Rattle.rust_tree.specs.declared.runtime_item.RuntimeItem.TheVariants.{CabiDealloc, InvalidEnumDiscriminant, StringLift}
use Rattle.rust_tree.specs.declared.stmt.Arm.{Arm, Arm-F, fold-Arm}
use Rattle.rust_tree.specs.declared.stmt.Block.{Block, Block-F, fold-Block, out-Block}
use Rattle.rust_tree.specs.declared.stmt.ImportDecl.{ImportDecl}
use Rattle.rust_tree.specs.declared.stmt.Stmt.{Stmt, Stmt-F, fold-Stmt}
use Rattle.rust_tree.specs.declared.type_expr.TypeExpr.{TypeExpr}
use Rattle.rust_tree.specs.Runtime.{item_name}
use Rattle.rust_tree.specs.Tree.{Tree, wrappers_of}
use Rattle.wrapper_data.specs.Answered.{answered}
use Rattle.wrapper_data.specs.declared.answer.Answer.{Answer}
use Rattle.wrapper_data.specs.declared.answer.Answer.TheVariants as answer
use Rattle.wrapper_data.specs.declared.form.Form.{Form}
use Rattle.wrapper_data.specs.declared.choice.Choices.{Choices}
use Rattle.wrapper_data.specs.declared.heap.Heap.{Heap}
use Rattle.wrapper_data.specs.declared.run.CallPoint.{CallPoint}
use Rattle.wrapper_data.specs.declared.run.Run.{Run}
use Rattle.wrapper_data.specs.declared.run.Stop.{Stop}
use Rattle.wrapper_data.specs.declared.run.Stop.TheVariants as stop_of
use Rattle.wrapper_data.specs.declared.run.Target.TheVariants as target
use Rattle.wrapper_data.specs.declared.run.TrapKind.{TrapKind}
use Rattle.wrapper_data.specs.declared.value.RustValue.{RustValue}
use Rattle.wrapper_data.specs.declared.value.RustValue.TheVariants as value
use Rattle.wrapper_data.specs.declared.word.Word.{Word}
use Rattle.wrapper_data.specs.declared.word.Word.TheVariants as word
use Rattle.wrapper_data.specs.declared.run.TrapKind.TheVariants as trap
use Rattle.wrapper_values.specs.declared.core_words.CoreFn.{CoreFn}
use Rattle.wrapper_values.specs.declared.core_words.CoreFn.TheVariants as core_fn
use Rattle.wrapper_values.specs.declared.state.Local.{Local}
use Rattle.wrapper_values.specs.declared.state.State.{State}
use Rattle.wrapper_values.specs.declared.owning.View.TheVariants as view_of
use Rattle.wrapper_values.specs.declared.state.Val.{Val}
use Rattle.wrapper_values.specs.declared.state.Val.TheVariants as val
use Rattle.wrapper_values.specs.Setting.{Setting, failed, stuck}
use Rattle.wrapper_run.specs.Blocks.{boxed, dealloc_words, drop_value, forget, leave_to, lift_text, look, store_small, store_word, take_over}
use Rattle.wrapper_run.specs.Arms.{ArmAct, run_match}
use Rattle.wrapper_run.specs.LastParts.{results}
use Rattle.wrapper_run.specs.Places.{declare_area, static_pointer}
use Rattle.wrapper_run.specs.Memory.{loaded, loaded_small}
use Rattle.wrapper_values.specs.Whole.{record_of, take_apart, whole}
use Rattle.wrapper_values.specs.Owning.{taken_by}
use Rattle.wrapper_values.specs.Act.{Act, Outcome, Done, Stopped, ◌>>=◌, ◌>>◌, all, or_stop, pure, stop}
use Rattle.wrapper_values.specs.Effect.{cast_to, converted, is_word_of, lift_of, word_of, word_of_bool}
use Rattle.wrapper_values.specs.CoreWords.{called_on, core_word, empty_slot, zero_word}
use Rattle.wrapper_values.specs.Enums.{enum_lift_of, is_enum, word_of_case}
use Rattle.wrapper_values.specs.Flags.{flags_of_words}
use Rattle.wrapper_values.specs.Typed.{answer_in}
use Rattle.wrapper_values.specs.Locals.{ask_local, bind, declare, import_named, lend_local, local_named, use_local, value_of, write_slot}
use Rattle.wrapper_values.specs.Matches.{assert_last}
use Rattle.wrapper_values.specs.Variants.{bare_case, full_case, number_at_root, number_in_core}
use Rattle.wit_model.specs.Bytes.{Bytes}

-- names

abbrev pub runtime_item_in : List RuntimeItem → Bytes → Option RuntimeItem
runtime_item_in parts name = find (λ i. bytes_eq (item_name i) name) parts

abbrev pub found_in : Item → Bytes → Option RuntimeItem
found_in (item.Runtime parts) name = runtime_item_in parts name
found_in _ name = None

-- the runtime item of this name, in the first `_rt` that has one
abbrev pub runtime_item_named : List Item → Bytes → Option RuntimeItem
runtime_item_named [] name = None
runtime_item_named (i ∷ items) name = option_or (found_in i name) (runtime_item_named items name)

-- what a path of a call names: a name alone, a function of `_rt`, a member of a type of the file, a case of `Option` or `Result`, a
-- function of the core library on core values, `::core::mem::forget`, or nothing
pub data Callee : Type 0 where
  alone : Bytes → Callee
  of_runtime : Bytes → Callee
  member_of : (ty name : Bytes) → Callee
  core_case : ℕ → Callee
  core_function : CoreFn → Callee
  core_forget : Callee
  unknown : Callee

unfoldable pub runtime_module_name : Bytes
runtime_module_name = codes "_rt"

unfoldable pub is_i64_from : (first name : Bytes) → Bool
is_i64_from first name = bytes_eq first (codes "i64") && bytes_eq name (codes "from")

unfoldable pub is_f32_from_bits : (first name : Bytes) → Bool
is_f32_from_bits first name = bytes_eq first (codes "f32") && bytes_eq name (codes "from_bits")

unfoldable pub is_f64_from_bits : (first name : Bytes) → Bool
is_f64_from_bits first name = bytes_eq first (codes "f64") && bytes_eq name (codes "from_bits")

-- a function of a number type, or a member of a type of the file
abbrev pub member_callee : (first name : Bytes) → Callee
member_callee first name =
    if is_i64_from first name then core_function core_fn.I64From
    else (if is_f32_from_bits first name then core_function core_fn.F32FromBits
    else (if is_f64_from_bits first name then core_function core_fn.F64FromBits else member_of first name))

abbrev pub names_callee : List Bytes → Callee
names_callee [] = unknown
names_callee (name ∷ []) = alone name
names_callee (first ∷ name ∷ []) = if bytes_eq first runtime_module_name then of_runtime name else member_callee first name
names_callee (_ ∷ _ ∷ _ ∷ _) = unknown

unfoldable pub is_core_forget : (first second third : Bytes) → Bool
is_core_forget first second third = bytes_eq first (codes "core") && (bytes_eq second (codes "mem") && bytes_eq third (codes "forget"))

unfoldable pub is_new_slot : (first second third fourth : Bytes) → Bool
is_new_slot first second third fourth =
    bytes_eq first (codes "core") && (bytes_eq second (codes "mem") && (bytes_eq third (codes "MaybeUninit") && bytes_eq fourth (codes "new")))

abbrev pub case_callee : Option ℕ → Callee
case_callee None = unknown
case_callee (Some number) = core_case number

-- by the names behind a leading `::`
abbrev pub absolute_callee : List Bytes → Callee
absolute_callee (first ∷ second ∷ third ∷ []) = if is_core_forget first second third then core_forget else unknown
absolute_callee (first ∷ second ∷ third ∷ fourth ∷ []) =
    if is_new_slot first second third fourth then core_function core_fn.NewSlot else case_callee (number_in_core (first ∷ second ∷ third ∷ fourth ∷ []))
absolute_callee _ = unknown

abbrev pub path_callee : Bool → ℕ → List Bytes → Callee
path_callee false zero names = names_callee names
path_callee true zero names = absolute_callee names
path_callee _ _ names = unknown

unfoldable pub callee : Path → Callee
callee path = path_callee path.lead path.supers path.names

-- the call of a core import

-- the words of the arguments, each of its parameter's type
abbrev pub words_of : List WasmType → List Val → Option (List Word)
words_of [] [] = Some []
words_of [] (_ ∷ _) = None
words_of (_ ∷ _) [] = None
words_of (ty ∷ types) (v ∷ vs) = option_and_then (λ w. option_map (λ ws. w ∷ ws) (words_of types vs)) (word_of ty v)

abbrev pub point_of : ImportDecl → Heap → List Word → CallPoint
point_of d heap words = record { target = target.Core d.module d.link_name; words = words; values = []; heap = heap }

-- the value of a core result
abbrev pub result_of : Option WasmType → Option Word → Option Val
result_of None None = Some (val.Value value.Unit)
result_of None (Some _) = None
result_of (Some ty) None = None
result_of (Some ty) (Some w) = if is_word_of ty w then Some (val.Word w) else None

-- the peer adds its blocks and writes its bytes, and its word is the call's value
abbrev pub answer_act : Setting → Option WasmType → Answer → Act Val
answer_act w ty (answer.Words result writes blocks) = λ s. or_stop (stuck w) (result_of ty result) (record s { heap = answered blocks writes s.heap })
answer_act w ty (answer.Value _ _) = stop (stuck w)

unfoldable pub take_answer : Setting → Option WasmType → Act Val
take_answer w ty = answer_act w ty w.answer

-- a declared import, unless a local hides it
abbrev pub unhidden : Option Local → Option ImportDecl → Option ImportDecl
unhidden None d = d
unhidden (Some _) d = None

abbrev pub called_with : State → List Val → ImportDecl → Option (CallPoint × Option WasmType)
called_with s vs d = option_map (λ ws. (point_of d s.heap ws, d.result)) (words_of d.params vs)

-- the call of a declared import, with the heap at the call, and the type of its result
unfoldable pub call_point : State → Bytes → List Val → Option (CallPoint × Option WasmType)
call_point s name vs = option_and_then (called_with s vs) (unhidden (local_named name s.locals) (import_named name s.imports))

-- a call is recorded before it is answered
abbrev pub record_call : CallPoint → Act (Unit {0})
record_call p = λ s. Done tt (record s { calls = s.calls ++ p ∷ [] })

abbrev pub call_import : Setting → Bytes → List Val → Act Val
call_import w name vs = look (λ s. call_point s name vs) >>= or_stop (stuck w) >>= (λ p. record_call p.0 >> take_answer w p.1)

-- the call of a function of `_rt`

abbrev pub lift_act : Setting → Option (Result RustValue TrapKind) → Act Val
lift_act w None = stop (stuck w)
lift_act w (Some (Ok v)) = pure (val.Value v)
lift_act w (Some (Err kind)) = stop (failed w kind)

-- a conversion to a core value, or a lift to a value without blocks
abbrev pub converted_or_lifted : Setting → Option Word → Option (Result RustValue TrapKind) → Act Val
converted_or_lifted w (Some x) lifted = pure (val.Word x)
converted_or_lifted w None lifted = lift_act w lifted

abbrev pub apply_item : Setting → RuntimeItem → Val → Act Val
apply_item w StringLift v = lift_text w v
apply_item w i v = converted_or_lifted w (converted i v) (lift_of w.form i v)

abbrev pub apply_one : Setting → Option RuntimeItem → List Val → Act Val
apply_one w (Some i) (v ∷ []) = apply_item w i v
apply_one w _ _ = stop (stuck w)

-- what is called, without arguments, where a number is that of no case
abbrev pub no_case : Setting → List Val → Act Val
no_case w [] = stop (failed w trap.Discriminant)
no_case w (_ ∷ _) = stop (stuck w)

abbrev pub apply : Setting → Option RuntimeItem → List Val → Act Val
apply w (Some CabiDealloc) vs = dealloc_words w vs
apply w (Some InvalidEnumDiscriminant) vs = no_case w vs
apply w i vs = apply_one w i vs

unfoldable pub call_runtime : Setting → Bytes → List Val → Act Val
call_runtime w name vs = apply w (runtime_item_named w.items name) vs

-- the case of an enum whose number one value is
abbrev pub lift_case : Setting → Bytes → List Val → Act Val
lift_case w name (v ∷ []) = lift_act w (enum_lift_of w.items name v)
lift_case w name _ = stop (stuck w)

-- a case with one value as its payload
abbrev pub make_case : Setting → Option ℕ → List Val → Act Val
make_case w number (v ∷ []) = or_stop (stuck w) (full_case number v)
make_case w number _ = stop (stuck w)

unfoldable pub lift_name : Bytes
lift_name = codes "_lift"

-- a member of a type of the file: of an enum `_lift` is a function, and all else is a case
abbrev pub call_member : Setting → (ty name : Bytes) → List Val → Act Val
call_member w ty name vs =
    if is_enum w.items ty && bytes_eq name lift_name then lift_case w ty vs
    else make_case w (number_at_root w.items ty name) vs

-- a function of the core library takes one value
abbrev pub call_core : Setting → CoreFn → List Val → Act Val
call_core w f (v ∷ []) = or_stop (stuck w) (option_map val.Word (core_word f v))
call_core w f _ = stop (stuck w)

-- one value is forgotten
abbrev pub forget_one : Setting → List Val → Act Val
forget_one w (v ∷ []) = forget w v
forget_one w _ = stop (stuck w)

abbrev pub call_callee : Setting → Callee → List Val → Act Val
call_callee w (alone name) vs = call_import w name vs
call_callee w (of_runtime name) vs = call_runtime w name vs
call_callee w (member_of ty name) vs = call_member w ty name vs
call_callee w (core_case number) vs = make_case w (Some number) vs
call_callee w (core_function f) vs = call_core w f vs
call_callee w core_forget vs = forget_one w vs
call_callee w unknown vs = stop (stuck w)

abbrev pub call : Setting → Path → List Val → Act Val
call w path vs = call_callee w (callee path) vs

-- expressions, statements, blocks

-- a load of incoming data
abbrev pub load_word : Setting → ArchitectureSize → WasmType → Val → Act Val
load_word w offset ty (val.Word (word.Pointer address)) =
    look (λ s. option_map val.Word (loaded ty (address + bytes_at offset 4) s.heap.blocks)) >>= or_stop (failed w trap.Pointer)
load_word w offset ty _ = stop (stuck w)

-- a load of a small number
abbrev pub load_small : Setting → ArchitectureSize → SmallType → Val → Act Val
load_small w offset ty (val.Word (word.Pointer address)) =
    look (λ s. option_map val.Word (loaded_small ty (address + bytes_at offset 4) s.heap.blocks)) >>= or_stop (failed w trap.Pointer)
load_small w offset ty _ = stop (stuck w)

-- the take-over of as many bytes as a local says
abbrev pub take_bytes : Setting → Option Val → Val → Act Val
take_bytes w (Some (val.Word (word.Length n))) (val.Word (word.Pointer address)) = take_over w address n
take_bytes w _ _ = stop (stuck w)

-- a number of bytes as a length; there is none from 2^32 on
abbrev pub length_word : ℕ → Option Val
length_word n = if nat_lt n (2 ^ 32) then Some (val.Word (word.Length n)) else None

abbrev pub size_word : ArchitectureSize → Option Val
size_word size = length_word (bytes_at size 4)

-- one level of an expression, with the acts of the expressions in it
abbrev pub eval_step : Setting → Expr-F (Act Val) → Act Val
eval_step w (Expr-F.Local name) = use_local (stuck w) name
eval_step w (Expr-F.Ref name) = lend_local (stuck w) name
eval_step w (Expr-F.Cast e to) = e >>= (λ v. or_stop (stuck w) (cast_to to v))
eval_step w (Expr-F.Call path arguments) = all arguments >>= (λ vs. call w path vs)
eval_step w (Expr-F.I32FromBool e) = e >>= (λ v. or_stop (stuck w) (option_map val.Word (word_of_bool v)))
eval_step w (Expr-F.AsPtr name) = ask_local (stuck w) view_of.TextAddress name
eval_step w (Expr-F.Len name) = ask_local (stuck w) view_of.TextLength name
eval_step w (Expr-F.CastMut name) = ask_local (stuck w) view_of.Pointer name
eval_step w (Expr-F.ReturnPointer name) = ask_local (stuck w) view_of.AreaAddress name
eval_step w (Expr-F.Load e offset ty) = e >>= load_word w offset ty
eval_step w (Expr-F.LoadSmall e offset ty) = e >>= load_small w offset ty
eval_step w (Expr-F.FromRawParts e length) = e >>= (λ v. look (λ s. value_of (local_named length s.locals)) >>= (λ n. take_bytes w n v))
eval_step w (Expr-F.IntoBoxedBytes name) = use_local (stuck w) name >>= boxed w
eval_step w Expr-F.StaticPointer = static_pointer w
eval_step w (Expr-F.Size size) = or_stop (stuck w) (size_word size)
eval_step w (Expr-F.Record path fields) = record_of w path fields
eval_step w (Expr-F.Tuple parts) = whole w parts
eval_step w Expr-F.Unit = pure (val.Value value.Unit)
eval_step w (Expr-F.Array parts) = whole w parts
eval_step w (Expr-F.EnumNumber e) = e >>= (λ v. or_stop (stuck w) (option_map val.Word (word_of_case v)))
eval_step w (Expr-F.FlagsBits name by) = ask_local (stuck w) (view_of.FlagsWord by) name
eval_step w (Expr-F.FlagsOfWords path repr words) = flags_of_words w path repr words
eval_step w (Expr-F.I32Const n) = pure (val.Word (word.I32 n))
eval_step w (Expr-F.Zero ty) = pure (val.Word (zero_word ty))
eval_step w (Expr-F.Case path) = or_stop (stuck w) (bare_case w.items path)
eval_step w (Expr-F.Method e method) = e >>= (λ v. or_stop (stuck w) (called_on method v))

abbrev pub eval : Setting → Expr → Act Val
eval w = fold-Expr (Act Val) (eval_step w)

-- one act after the other
abbrev pub each : List (Act (Unit {0})) → Act (Unit {0})
each [] = pure tt
each (act ∷ acts) = act >> each acts

-- one level of a statement, with the acts of the statements, the arms and the blocks in it; a block in it gives its results
abbrev pub stmt_step : Setting → Stmt-F (Act (Unit {0})) ArmAct (Act (List Val)) → Act (Unit {0})
stmt_step w (Stmt-F.Import d) = declare d
stmt_step w (Stmt-F.Let name e) = eval w e >>= bind name
stmt_step w (Stmt-F.Expr e) = eval w e >>= drop_value w
stmt_step w (Stmt-F.Area a) = declare_area w a
stmt_step w (Stmt-F.LetParts p e) = eval w e >>= take_apart w p
stmt_step w (Stmt-F.Store address offset ty value) = eval w value >>= (λ v. eval w address >>= store_word w offset ty v)
stmt_step w (Stmt-F.StoreSmall address offset ty value) = eval w value >>= (λ v. eval w address >>= store_small w offset ty v)
stmt_step w (Stmt-F.Match names e arms) = eval w e >>= run_match w names arms
stmt_step w (Stmt-F.AssertLast name n) = lend_local (stuck w) name >>= assert_last w n
stmt_step w (Stmt-F.LetSlot name) = bind name empty_slot
stmt_step w (Stmt-F.WriteSlot name e) = eval w e >>= write_slot (stuck w) name

abbrev pub arm_step : Arm-F (Act (Unit {0})) ArmAct (Act (List Val)) → ArmAct
arm_step a = (a.pattern, a.body)

abbrev pub block_step : Setting → Block-F (Act (Unit {0})) ArmAct (Act (List Val)) → Act (List Val)
block_step w b = each b.stmts >> all (map (eval w) (results b.tail))

abbrev pub run_stmt : Setting → Stmt → Act (Unit {0})
run_stmt w = fold-Stmt (Act (Unit {0})) ArmAct (Act (List Val)) (stmt_step w) arm_step (block_step w)

abbrev pub arm_act : Setting → Arm → ArmAct
arm_act w = fold-Arm (Act (Unit {0})) ArmAct (Act (List Val)) (stmt_step w) arm_step (block_step w)

abbrev pub block_act : Setting → Block → Act (List Val)
block_act w = fold-Block (Act (Unit {0})) ArmAct (Act (List Val)) (stmt_step w) arm_step (block_step w)

abbrev pub run_stmts : Setting → List Stmt → Act (Unit {0})
run_stmts w stmts = each (map (run_stmt w) stmts)

-- a block without a tail is `()`
abbrev pub run_tail : Setting → Option Expr → Act Val
run_tail w None = pure (val.Value value.Unit)
run_tail w (Some e) = eval w e

abbrev pub run_block : Setting → Block → Act Val
run_block w b = run_stmts w (out-Block b).stmts >> run_tail w (out-Block b).tail

-- the whole run of an import's wrapper

-- names with their values
abbrev pub bound : List Bytes → List Val → List Local
bound [] vs = []
bound (name ∷ names) [] = []
bound (name ∷ names) (v ∷ vs) = record { name = name; value = Some v } ∷ bound names vs

abbrev pub bound_args : List FnParam → List RustValue → List Local
bound_args params args = bound (map (λ p. p.name) params) (map val.Value args)

-- the locals are dropped once the result is there
abbrev pub give_and_leave : {A : Type 0} → Setting → Option A → Act A
give_and_leave w given = or_stop (stuck w) given >>= (λ r. leave_to w 0 >> pure r)

abbrev pub answer_and_leave : Setting → TypeExpr → Val → Act (Option RustValue)
answer_and_leave w ty v = give_and_leave w (answer_in w.items ty v)

abbrev pub run_fn : Setting → FnItem → Act (Option RustValue)
run_fn w f = run_block w f.body >>= answer_and_leave w f.result

-- a run begins with its parameters, a heap, choices, and the blocks that owners have
abbrev pub begin : List Local → List ℕ → Heap → Choices → State
begin locals taken heap choices = record { locals = locals; imports = []; heap = heap; choices = choices.list; requests = []; calls = []; taken = taken; place = None }

abbrev pub start : FnItem → List RustValue → Heap → Choices → State
start f args heap choices = begin (bound_args f.params args) (taken_by args) heap choices

-- the run that ends at a state
abbrev pub run_at : Stop → List Word → Option RustValue → State → Run
run_at e words v s = record { stop = e; calls = s.calls; requests = s.requests; heap = s.heap; words = words; value = v }

abbrev pub ended : Outcome (Option RustValue) → Run
ended (Done v s) = run_at stop_of.Done [] v s
ended (Stopped e s) = run_at e [] None s

-- the run of a wrapper
unfoldable pub run_item : Setting → FnItem → List RustValue → Heap → Choices → Run
run_item w f args heap choices = ended (run_fn w f (start f args heap choices))

-- the import wrapper that is the wrapper of this number, counted from 0, among those of imports and of exports
abbrev pub import_nth : ℕ → List Item → Option FnItem
import_nth nth [] = None
import_nth zero (item.Import f ∷ items) = Some f
import_nth zero (item.Export e ∷ items) = None
import_nth (suc nth) (item.Import f ∷ items) = import_nth nth items
import_nth (suc nth) (item.Export e ∷ items) = import_nth nth items
import_nth nth (_ ∷ items) = import_nth nth items

-- a wrapper, with the number of its item
abbrev pub numbered : {A : Type 0} → Tree → ℕ → A → Option (ℕ × A)
numbered t nth wrapper = option_map (λ info. (info.item.0, wrapper)) (slice_get (wrappers_of t) nth)

abbrev pub import_at : Tree → ℕ → Option (ℕ × FnItem)
import_at t nth = option_and_then (numbered t nth) (import_nth nth t.items)

abbrev pub setting_of : Tree → ℕ → Answer → Form → Setting
setting_of t number a form = record { items = t.items; item = number; answer = a; form = form }

-- the run of a tree's import wrapper
abbrev pub import_run : Tree → ℕ → List RustValue → Heap → Choices → Answer → Form → Option Run
import_run t nth args heap choices a form = option_map (λ w. run_item (setting_of t w.0 a form) w.1 args heap choices) (import_at t nth)
