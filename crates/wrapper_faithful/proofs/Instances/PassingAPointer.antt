-- The wrapper of an import that declares the area of its result, and its run as far as the call, by the pointer that it passes: that of the
-- area, or that of its text.
use Rattle.std.proofs.Common.{◌≡◌, ℕ, false, List, [], ◌∷◌, ◌++◌, None, Some, refl, ap, ◌∙◌}
use Rattle.std.specs.Prelude.{codes}
use Rattle.wit_model.specs.declared.size.Alignment.TheVariants as alignment
use Rattle.wit_model.specs.declared.wasm_type.WasmType.TheVariants as core
use Rattle.wit_layout.specs.Tree.{Scalar}
use Rattle.rust_tree.specs.declared.area.ReturnArea.{ReturnArea}
use Rattle.rust_tree.specs.declared.expr.Expr.{Expr}
use Rattle.rust_tree.specs.declared.expr.Expr.TheVariants as expr
use Rattle.rust_tree.specs.declared.item.FnItem.{FnItem}
use Rattle.rust_tree.specs.declared.item.Item.TheVariants as item
use Rattle.rust_tree.specs.declared.path.Path.{Path}
use Rattle.rust_tree.specs.declared.stmt.Block.{Block as Code, out-Block}
use Rattle.rust_tree.specs.declared.stmt.ImportDecl.{ImportDecl}
use Rattle.rust_tree.specs.declared.stmt.Stmt.{Stmt}
use Rattle.rust_tree.specs.declared.stmt.Stmt.TheVariants as stmt
use Rattle.rust_tree.specs.declared.type_expr.Primitive.TheVariants as prim
use Rattle.rust_tree.specs.declared.type_expr.TypeExpr.TheVariants as type
use Rattle.rust_tree.specs.Tree.{Tree}
use Rattle.wrapper_data.specs.declared.answer.Answer.TheVariants as answer
use Rattle.wrapper_data.specs.declared.choice.Choice.TheVariants as choice
use Rattle.wrapper_data.specs.declared.choice.Choices.{Choices}
use Rattle.wrapper_data.specs.declared.form.Form.TheVariants as form
use Rattle.wrapper_data.specs.declared.heap.Heap.{Heap}
use Rattle.wrapper_data.specs.declared.run.CallPoint.{CallPoint}
use Rattle.wrapper_data.specs.declared.run.Run.{Run}
use Rattle.wrapper_data.specs.declared.run.Target.{Target}
use Rattle.wrapper_data.specs.declared.run.Target.TheVariants as target
use Rattle.wrapper_data.specs.declared.value.RustValue.{RustValue}
use Rattle.wrapper_data.specs.declared.value.RustValue.TheVariants as value
use Rattle.wrapper_data.specs.declared.word.Word.{Word}
use Rattle.wrapper_data.specs.declared.word.Word.TheVariants as word
use Rattle.wrapper_meaning.specs.Shape.Shape.{scalar, text, tuple}
use Rattle.wrapper_meaning.specs.Shape.Shapes.{none, more}
use Rattle.wrapper_meaning.proofs.Instances.OkAnswer.{area_of, ok}
use Rattle.wrapper_values.specs.declared.owning.View.TheVariants as view_of
use Rattle.wrapper_values.specs.declared.state.Local.{Local}
use Rattle.wrapper_values.specs.declared.state.State.{State}
use Rattle.wrapper_values.specs.declared.state.Val.TheVariants as val
use Rattle.wrapper_values.specs.Act.{Done, Stopped, and_then}
use Rattle.wrapper_values.specs.Locals.{bind, declare, local_named, value_of}
use Rattle.wrapper_values.specs.Setting.{Setting, stuck}
use Rattle.wrapper_run.specs.Places.{declare_area}
use Rattle.wrapper_run.proofs.StmtSteps.{run-area, run-import, runs-code, runs-expr, runs-first}
use Rattle.wrapper_run.specs.Code.{code_of}
use Rattle.wrapper_run.specs.Blocks.{drop_value}
use Rattle.wrapper_run.specs.Places.{place_area}
use Rattle.wrapper_run.specs.Run.{answer_act, answer_and_leave, call_point, callee, ended, eval, run_item, run_stmts, run_tail, setting_of, start, take_answer}
use Rattle.wrapper_run.proofs.GiveSteps.{let_runs}
use Rattle.wrapper_run.proofs.StepLemmas.{as_ptr_gives, ask_gives, call_gives, eval-cast_mut, import_gives, len_gives, local_gives}
use Rattle.wrapper_run.proofs.TakeLemmas.{area_gives}
use Rattle.wrapper_faithful.specs.Passed.{Passed}

-- 1. A function of a text, whose result is two numbers; and its wrapper, which passes an expression behind the text. The rest may be any code

abbrev pub counts : Passed
counts = record { params = more text none; result = Some (tuple (more (scalar Scalar.u32) (more (scalar Scalar.u32) none))) }

abbrev area : ReturnArea
area = record { name = codes "ret_area"; size = record { bytes = 8; pointers = 0 }; align = alignment.Bytes 4 }

abbrev decl : ImportDecl
decl = record { «module» = codes "$root"; link_name = codes "f"; name = codes "wit_import2"; params = core.Pointer ∷ core.Length ∷ core.Pointer ∷ []; result = None }

abbrev path : Path
path = record { lead = false; supers = 0; names = codes "wit_import2" ∷ [] }

abbrev call : Expr → Expr
call passed = expr.Call path (expr.CastMut (codes "ptr0") ∷ expr.Local (codes "len0") ∷ passed ∷ [])

abbrev calls_it : Expr → Code → List Stmt
calls_it passed rest = stmt.Import decl ∷ stmt.Expr (call passed) ∷ (out-Block rest).stmts

abbrev names_it : Expr → Code → List Stmt
names_it passed rest = stmt.Let (codes "ptr1") (expr.ReturnPointer (codes "ret_area")) ∷ calls_it passed rest

abbrev body : Expr → Code → List Stmt
body passed rest = stmt.Area area ∷ stmt.Let (codes "ptr0") (expr.AsPtr (codes "s")) ∷ stmt.Let (codes "len0") (expr.Len (codes "s")) ∷ names_it passed rest

abbrev wrapper : Expr → Code → FnItem
wrapper passed rest = record {
  docs = [];
  name = codes "f";
  params = record { name = codes "s"; ty = type.Ref type.Str } ∷ [];
  result = type.Tuple (type.Primitive prim.U32 ∷ type.Primitive prim.U32 ∷ []);
  body = code_of (body passed rest) (out-Block rest).tail;
}

abbrev pub tree : Expr → Code → Tree
tree passed rest = record { options = []; items = item.Import (wrapper passed rest) ∷ []; places = record { interface = None; nth = 0 } ∷ [] }

-- the pointer of the area, and that of the text
abbrev pub areas : Expr
areas = expr.Local (codes "ptr1")

abbrev pub texts : Expr
texts = expr.CastMut (codes "ptr0")

-- 2. A run on the text `ok` at 8192, with the area at 4096. Its answer is none that a peer gives, so that it stops at the call

abbrev pub heap : Heap
heap = record { blocks = ok ∷ [] }

abbrev pub args : List RustValue
args = value.Buffer 8192 2 false ∷ []

abbrev pub choices : Choices
choices = record { list = choice.At 4096 ∷ [] }

abbrev pub setting : Expr → Code → Setting
setting passed rest = setting_of (tree passed rest) 1 (answer.Value None heap) form.Debug

abbrev local_of : List ℕ → Word → Local
local_of name x = record { name = name; value = Some (val.Word x) }

abbrev pub begun : Expr → Code → State
begun passed rest = start (wrapper passed rest) args heap choices

abbrev placed : State → State
placed s = record s {
  locals = s.locals ++ record { name = codes "ret_area"; value = Some (val.Area 4096 8) } ∷ [];
  heap = record { blocks = ok ∷ area_of 8 [] ∷ [] };
  taken = s.taken ++ 4096 ∷ [];
  requests = record { size = 8; align = 4 } ∷ [];
  choices = [];
}

abbrev with_pointer : State → State
with_pointer s = record (placed s) { locals = (placed s).locals ++ local_of (codes "ptr0") (word.Pointer 8192) ∷ [] }

abbrev with_text : State → State
with_text s = record (placed s) { locals = (with_pointer s).locals ++ local_of (codes "len0") (word.Length 2) ∷ [] }

abbrev pub ready : State → State
ready s = record (placed s) { locals = (with_text s).locals ++ local_of (codes "ptr1") (word.Pointer 4096) ∷ []; imports = decl ∷ [] }

abbrev pub aim : Target
aim = target.Core (codes "$root") (codes "f")

abbrev pub point : ℕ → CallPoint
point address = record { target = aim; words = word.Pointer 8192 ∷ word.Length 2 ∷ word.Pointer address ∷ []; values = []; heap = record { blocks = ok ∷ area_of 8 [] ∷ [] } }

abbrev called : ℕ → State → State
called address s = record s { calls = point address ∷ [] }

pub text_pointer_gives : (w : Setting) (s : State) → value_of (local_named (codes "ptr0") s.locals) ≡ Some (val.Word (word.Pointer 8192)) → eval w texts s ≡ Done (val.Word (word.Pointer 8192)) s
text_pointer_gives w s there = ap (λ act. act s) (eval-cast_mut w (codes "ptr0")) ∙ ask_gives (stuck w) view_of.Pointer (codes "ptr0") (val.Word (word.Pointer 8192)) (word.Pointer 8192) s there refl

area_runs : (w : Setting) (passed : Expr) (rest : Code) (after : List Stmt) → run_stmts w (stmt.Area area ∷ after) (begun passed rest) ≡ run_stmts w after (placed (begun passed rest))
unfolding place_area bind
area_runs w passed rest after = runs-first w (stmt.Area area) (declare_area w area) after (begun passed rest) (run-area w area)

body_runs : (w : Setting) (passed : Expr) (rest : Code) → run_stmts w (body passed rest) (begun passed rest) ≡ run_stmts w (stmt.Expr (call passed) ∷ (out-Block rest).stmts) (ready (begun passed rest))
unfolding declare
body_runs w passed rest =
    let s = begun passed rest in
    area_runs w passed rest (stmt.Let (codes "ptr0") (expr.AsPtr (codes "s")) ∷ stmt.Let (codes "len0") (expr.Len (codes "s")) ∷ names_it passed rest)
    ∙ let_runs w (codes "ptr0") (expr.AsPtr (codes "s")) (stmt.Let (codes "len0") (expr.Len (codes "s")) ∷ names_it passed rest) (val.Word (word.Pointer 8192)) (placed s) (placed s) (as_ptr_gives w (codes "s") 8192 2 false (placed s) refl)
    ∙ let_runs w (codes "len0") (expr.Len (codes "s")) (names_it passed rest) (val.Word (word.Length 2)) (with_pointer s) (with_pointer s) (len_gives w (codes "s") 8192 2 false (with_pointer s) refl)
    ∙ let_runs w (codes "ptr1") (expr.ReturnPointer (codes "ret_area")) (calls_it passed rest) (val.Word (word.Pointer 4096)) (with_text s) (with_text s) (area_gives w (codes "ret_area") 4096 8 (with_text s) refl)
    ∙ runs-first w (stmt.Import decl) (declare decl) (stmt.Expr (call passed) ∷ (out-Block rest).stmts) _ (run-import w decl)

-- the call is made with these words
stops : (w : Setting) (passed : Expr) (rest : Code) (address : ℕ) → w.answer ≡ answer.Value None heap → eval w passed (ready (begun passed rest)) ≡ Done (val.Word (word.Pointer address)) (ready (begun passed rest))
    → eval w (call passed) (ready (begun passed rest)) ≡ Stopped (stuck w) (called address (ready (begun passed rest)))
unfolding callee call_point take_answer
stops w passed rest address says gives =
    let s = ready (begun passed rest) in
    call_gives w path (expr.CastMut (codes "ptr0") ∷ expr.Local (codes "len0") ∷ passed ∷ []) (val.Word (word.Pointer 8192) ∷ val.Word (word.Length 2) ∷ val.Word (word.Pointer address) ∷ []) s
    (text_pointer_gives w s refl, (local_gives w (codes "len0") (val.Word (word.Length 2)) s refl refl, (gives, tt)))
    ∙ import_gives w path (codes "wit_import2") (val.Word (word.Pointer 8192) ∷ val.Word (word.Length 2) ∷ val.Word (word.Pointer address) ∷ []) s (point address) None refl refl
    ∙ ap (λ a. answer_act w None a (called address s)) says

abbrev pub run_of : Expr → Code → Run
run_of passed rest = run_item (setting passed rest) (wrapper passed rest) args heap choices

pub run_calls : (passed : Expr) (rest : Code) (address : ℕ) → eval (setting passed rest) passed (ready (begun passed rest)) ≡ Done (val.Word (word.Pointer address)) (ready (begun passed rest))
    → (run_of passed rest).calls ≡ point address ∷ []
unfolding run_item
run_calls passed rest address gives =
    let w = setting passed rest in
    ap (λ o. (ended (and_then o (answer_and_leave w (wrapper passed rest).result))).calls) (runs-code w (wrapper passed rest).body (body passed rest) (out-Block rest).tail (begun passed rest) refl)
    ∙ ap (λ o. (ended (and_then (and_then o (λ _. run_tail w (out-Block rest).tail)) (answer_and_leave w (wrapper passed rest).result))).calls) (body_runs w passed rest ∙ runs-expr w (call passed) (out-Block rest).stmts (ready (begun passed rest)))
    ∙ ap (λ o. (ended (and_then (and_then (and_then (and_then o (drop_value w)) (λ _. run_stmts w (out-Block rest).stmts)) (λ _. run_tail w (out-Block rest).tail)) (answer_and_leave w (wrapper passed rest).result))).calls) (stops w passed rest address refl gives)
