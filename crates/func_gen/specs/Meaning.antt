-- What a `FunctionBindgen` means: its statements, as the machine runs them.
use Rattle.std.specs.Prelude.{◌≡◌, ◌<◌, ℕ, Bool, true, false, not, if◌then◌else◌, List, [], ◌∷◌, ◌++◌, length, map, reverse, Option, None, Some, IfSome, option_and_then, option_map, option_to_list}
use Rattle.std.specs.List.{AllByRecursion, flat_map}
use Rattle.rust_tree.specs.Ident.{rust_ident}
use Rattle.rust_tree.specs.declared.area.StaticArea.{StaticArea}
use Rattle.rust_tree.specs.declared.export.CallBlock.{CallBlock}
use Rattle.rust_tree.specs.declared.item.Item.{Item}
use Rattle.rust_tree.specs.declared.runtime_item.RuntimeItem.{RuntimeItem}
use Rattle.rust_tree.specs.declared.trait_item.TraitFn.{TraitFn}
use Rattle.rust_tree.specs.declared.type_expr.TypeExpr.TheVariants as type
use Rattle.rust_tree.specs.Runtime.{item_name}
use Rattle.wit_layout.specs.Filled.{IsFilledFor}
use Rattle.wit_model.specs.Bytes.{Bytes}
use Rattle.wit_model.specs.declared.function.Function.{Function}
use Rattle.wrapper_data.specs.declared.answer.Answer.{Answer}
use Rattle.wrapper_data.specs.declared.answer.Answer.TheVariants as answer
use Rattle.wrapper_data.specs.declared.block.Block.{Block}
use Rattle.wrapper_data.specs.declared.choice.Request.{Request}
use Rattle.wrapper_data.specs.declared.run.CallPoint.{CallPoint}
use Rattle.wrapper_data.specs.declared.run.Stop.TheVariants as stop
use Rattle.wrapper_data.specs.declared.run.Target.{Target}
use Rattle.wrapper_data.specs.declared.run.Target.TheVariants as target
use Rattle.wrapper_data.specs.declared.value.RustValue.{RustValue, RustValue-F, fold-RustValue}
use Rattle.wrapper_data.specs.declared.value.RustValue.TheVariants as value
use Rattle.wrapper_meaning.specs.Direction.{Direction, give, lend, make, take}
use Rattle.wrapper_meaning.specs.Shape.{Shape}
use Rattle.wrapper_meaning.specs.StandsFor.{Stands}
use Rattle.wrapper_meaning.specs.Value.{Value}
use Rattle.wrapper_values.specs.declared.state.State.{State}
use Rattle.wrapper_values.specs.declared.state.Val.{Val}
use Rattle.wrapper_values.specs.declared.state.Val.TheVariants as val
use Rattle.wrapper_values.specs.Act as machine
use Rattle.wrapper_values.specs.Act.{◌>>=◌, ◌>>◌}
use Rattle.wrapper_values.specs.Effect.{rust_of}
use Rattle.wrapper_values.specs.Owning.{lent_level, owned_by, owned_in}
use Rattle.wrapper_values.specs.Setting.{Setting}
use Rattle.wrapper_run.specs.ExportRun.{keep_result, method_named, returned_of, run_call, values_of}
use Rattle.wrapper_run.specs.Places.{area_in, request_of}
use Rattle.wrapper_run.specs.Run.{run_stmts, runtime_item_named}
use Rattle.abi_bindgen.specs.declared.bindgen.Asked.{Asked}
use Rattle.abi_bindgen.specs.Account.{Account, Call, Crossing, Done, Outcome, Peer, Reply, Stopped, Stuck, value as value_reply, words}
use Rattle.abi_bindgen.specs.Area.{HoldsRecord}
use Rattle.abi_bindgen.specs.Meaning.{Bound, Datum, Ended, Fact, Meaning}
use Rattle.func_gen.specs.declared.function_bindgen.Code.{Code}
use Rattle.func_gen.specs.declared.function_bindgen.FinishedBlock.{FinishedBlock}
use Rattle.func_gen.specs.declared.function_bindgen.FunctionBindgen.{FunctionBindgen}
use Rattle.func_gen.specs.declared.function_bindgen.OpenBlock.{OpenBlock}
use Rattle.func_gen.specs.declared.operand.ExprOperand.{ExprOperand}
use Rattle.func_gen.specs.Entered.{entered, is_nothing, reached}
use Rattle.func_gen.specs.Facts.{AreOwned, Hold}
use Rattle.func_gen.specs.Finished.{data_of, left_owners, outside, results_act, slot_before}
use Rattle.func_gen.specs.Opened.{open_blocks}
use Rattle.func_gen.specs.Read.{env_of}
use Rattle.func_gen.specs.TypeSites.{AreDefined}
use Rattle.func_gen.specs.Formed.{Formed}
use Rattle.func_gen.specs.Slot.{Slot}
use Rattle.func_gen.specs.Written.{CanWrite}

-- 1. What is known of the whole

-- the items of the file, the number of the wrapper's item, the trait of the implementation, and the return area
pub record File : Type 0 where
  pub items : List Item
  pub item : ℕ
  pub bound : Bytes
  pub area : Option Request

-- each runtime item that was asked for is the one of its name
abbrev pub Found : List Item → List RuntimeItem → Type 0
Found items [] = Unit {0}
Found items (i ∷ more) = (runtime_item_named items (item_name i) ≡ Some i) × Found items more

abbrev pub static_request : Option StaticArea → Option Request
static_request a = option_map (λ a. request_of a.size a.align) a

-- an area has bytes, and an alignment
abbrev pub IsArea : Request → Type 0
IsArea area = (0 < area.size) × (0 < area.align)

-- the method of a call for no value gives none, where the file has it
abbrev pub GivesAsCalled : List Item → Bytes → Option CallBlock → Type 0
GivesAsCalled items bound None = Unit {0}
GivesAsCalled items bound (Some c) = c.result ≡ None → IfSome (method_named items bound c.method) (λ (t : TraitFn). t.result ≡ type.Unit)

-- so do those of the codes that open blocks suspend
abbrev pub AllAsCalled : List Item → Bytes → List OpenBlock → Type 0
AllAsCalled items bound opened = AllByRecursion (λ (o : OpenBlock). GivesAsCalled items bound o.code.call) opened

pub record Serves (w : File) (b : FunctionBindgen) : Type 0 where
  pub runtime : Found w.items b.runtime
  pub sites : AreDefined w.items b.sites
  pub room : AllByRecursion (HoldsRecord 2 w.area) b.asked
  pub sized : IfSome w.area IsArea
  -- the area of exports is the file's static one, and their methods are of one trait
  pub static : b.import ≡ false → w.area ≡ static_request (area_in w.items)
  pub bound : b.import ≡ false → w.bound ≡ b.home
  pub called : GivesAsCalled w.items w.bound b.code.call
  pub suspended : AllAsCalled w.items w.bound b.opened

-- no method was called, of the code of the innermost block or of what it suspends
pub record IsUncalled (b : FunctionBindgen) : Type 0 where
  pub here : b.code.call ≡ None
  pub around : AllByRecursion (λ (o : OpenBlock). o.code.call ≡ None) b.opened

-- 2. States

-- a state of the machine, and where the area stood when the code began
pub record FuncState : Type 0 where
  pub machine : State
  pub area : Option ℕ

abbrev pub call_of : CallPoint → Call RustValue
call_of c = record { target = c.target; words = c.words; values = c.values; heap = c.heap }

abbrev pub account_of : State → Account RustValue
account_of s = record { heap = s.heap; choices = s.choices; requests = s.requests; calls = map call_of s.calls; taken = s.taken; guarded = [] }

-- what the locals own, and the static area, once it stands
abbrev pub owns_of : State → List ℕ
owns_of s = option_to_list s.place ++ flat_map (λ l. owned_in l.value) s.locals

-- of an import no static area is ever placed, and where its own is in reach, that is in the local of its name: in a block it is not. That of an
-- export does not stand when the code begins, and is not placed while it was not asked for
abbrev pub AreaIs : (import : Bool) → Option Request → Option ℕ → List Asked → Bytes → State → Type 0
AreaIs true None None asked name s = s.place ≡ None
AreaIs true (Some area) (Some address) asked name s = (env_of s name ≡ Some (val.Area address area.size)) × (s.place ≡ None)
AreaIs true (Some area) None asked name s = s.place ≡ None
AreaIs true None (Some address) asked name s = ⊥
AreaIs false area None asked name s = asked ≡ [] → s.place ≡ None
AreaIs false area (Some address) asked name s = ⊥

pub record Denote (w : File) (b : FunctionBindgen) (facts : List (Fact ExprOperand Slot RustValue)) (s : FuncState) : Type 0 where
  pub hold : Hold w.items b facts s.machine
  pub owners : AreOwned s.machine.heap.blocks s.machine.taken
  pub area : AreaIs b.import w.area s.area b.asked b.area s.machine

-- 3. Runs

abbrev pub answer_of : Reply RustValue → Answer
answer_of (words result writes blocks) = answer.Words result writes blocks
answer_of (value_reply v heap) = answer.Value v heap

abbrev pub setting_for : File → Peer RustValue → Setting
setting_for w p = record { items = w.items; item = w.item; answer = answer_of p.reply; form = p.form }

abbrev pub run_head : Setting → Bytes → Option CallBlock → machine.Act (Unit {0})
run_head w bound None = machine.pure tt
run_head w bound (Some c) = run_call w bound c >>= keep_result w c.result

abbrev pub run_code : Setting → Bytes → Code → machine.Act (Unit {0})
run_code w bound code = run_head w bound code.call >> run_stmts w code.stmts

abbrev pub seen : Option ℕ → machine.Outcome (Unit {0}) → Outcome RustValue FuncState
seen at (machine.Done u s) = Done (record { machine = s; area = at })
seen at (machine.Stopped (stop.Stuck n) s) = Stuck (account_of s)
seen at (machine.Stopped e s) = Stopped e (account_of s)

-- a finished block is done where no local of its own owns a block still, and where its results are data
abbrev pub done_block : Bool → Option (List (Datum RustValue)) → FuncState → State → Outcome RustValue (Ended RustValue FuncState)
done_block true (Some ds) s u = Done (record { results = ds; state = record { machine = outside s.machine u; area = s.area } })
done_block true None s u = Stuck (account_of u)
done_block false ds s u = Stuck (account_of u)

abbrev pub ended_block : FinishedBlock → FuncState → machine.Outcome (List Val) → Outcome RustValue (Ended RustValue FuncState)
ended_block b s (machine.Done vs u) = done_block (is_nothing (left_owners (length (reached b.names s.machine.locals)) u)) (data_of b.results vs) s u
ended_block b s (machine.Stopped (stop.Stuck n) u) = Stuck (account_of u)
ended_block b s (machine.Stopped e u) = Stopped e (account_of u)

abbrev pub run_finished : File → Peer RustValue → FinishedBlock → Bound RustValue → FuncState → Outcome RustValue (Ended RustValue FuncState)
run_finished w p b with s = ended_block b s (results_act (setting_for w p) b (entered (slot_before b) with s.machine))

-- 4. Values

-- an owner's buffers are its own, also where they are empty
abbrev pub owning_level : RustValue-F RustValue → RustValue
owning_level (RustValue-F.Buffer address len owned) = value.Buffer address len true
owning_level (RustValue-F.Handle number own) = value.Handle number own
owning_level (RustValue-F.Bool b) = value.Bool b
owning_level (RustValue-F.Num kind n) = value.Num kind n
owning_level (RustValue-F.F32 bits) = value.F32 bits
owning_level (RustValue-F.F64 bits) = value.F64 bits
owning_level (RustValue-F.Char code) = value.Char code
owning_level (RustValue-F.Seq parts) = value.Seq parts
owning_level (RustValue-F.Struct parts) = value.Struct parts
owning_level (RustValue-F.Case number payload) = value.Case number payload
owning_level (RustValue-F.Bits bits) = value.Bits bits
owning_level (RustValue-F.Map entries) = value.Map entries
owning_level RustValue-F.Unit = value.Unit

-- one level of a value as it passes in a direction
abbrev pub passing_level : Direction → RustValue-F RustValue → RustValue
passing_level (lend blocks) = lent_level
passing_level (make blocks) = lent_level
passing_level give = owning_level
passing_level take = owning_level

-- a value passes as it is: each buffer has the flag that its direction says
abbrev pub IsNormal : Direction → RustValue → Type 0
IsNormal dir r = fold-RustValue RustValue (passing_level dir) r ≡ r

abbrev pub StandsAsItIs : Direction → (t : Shape) → Value t → RustValue → List Block → Type 0
StandsAsItIs dir t v r own = Stands 2 dir t v r own × IsNormal dir r

-- 5. The meaning

-- a call goes to the core import of the function's name, or to the method
abbrev pub target_of : FunctionBindgen → Function → Target
target_of b f = if b.import then target.Core b.home f.name.wit else target.Method b.home (rust_ident f.name)

-- the method of a function in the file's trait
abbrev pub method : File → Function → Option TraitFn
method w f = method_named w.items w.bound (rust_ident f.name)

-- values are passed as those of the method's parameters, and its answer comes in as one of its result
abbrev pub crossing : File → FunctionBindgen → Function → Crossing RustValue
crossing w b f = record {
  passes = λ vals. option_and_then (λ t. values_of w.items t.params (map (λ r. val.Value r) vals)) (method w f);
  receives = λ r. option_and_then (λ t. option_and_then rust_of (returned_of w.items t.result (Some r))) (method w f);
}

abbrev pub func_meaning : Meaning FunctionBindgen ExprOperand
func_meaning = record {
  World = File;
  State = FuncState;
  Code = Code;
  Block = FinishedBlock;
  Slot = Slot;
  Item = RustValue;
  width = 2;
  serves = Serves;
  area = λ w. w.area;
  area_at = λ s. s.area;
  stands = StandsAsItIs;
  account = λ s. account_of s.machine;
  owns = λ s. owns_of s.machine;
  owned = owned_by;
  nothing = record { call = None; stmts = [] };
  does = λ w p code s. seen s.area (run_code (setting_for w p) w.bound code s.machine);
  runs = run_finished;
  enter = λ slot with s. record { machine = entered slot with s.machine; area = None };
  results_of = λ b. length b.results;
  denotes = Denote;
  code = λ b. b.code;
  opened = λ b. open_blocks b.opened;
  blocks = λ b. reverse b.finished;
  imports = λ b. b.import;
  exports = λ b. not b.import;
  knows = λ b types. IsFilledFor b.sizes types;
  tests = λ b. true;
  arguments = λ b. Some (length b.params);
  writes = λ b types id. CanWrite types b.sites id;
  uncalled = IsUncalled;
  target = target_of;
  crosses = crossing;
  asked = λ b. b.asked;
  returned = λ b. b.returned;
  forms = Formed;
}
