-- The wrapper of an export whose result is two numbers, which stores them in a stack area of its own, or in the static area; and how it runs
-- as far as the area, and from there on.
use Rattle.std.proofs.Common.{◌≡◌, ℕ, true, false, List, [], ◌∷◌, ◌++◌, None, Some, refl, ap, rules, ◌∙◌}
use Rattle.std.specs.Prelude.{codes, pos, ◌+◌}
use Rattle.wit_model.specs.declared.size.Alignment.TheVariants as alignment
use Rattle.wit_model.specs.declared.size.ArchitectureSize.{ArchitectureSize}
use Rattle.wit_model.specs.Size.{bytes_at}
use Rattle.wit_model.specs.declared.types.WitType.TheVariants as wit
use Rattle.wit_model.specs.declared.wasm_type.WasmType.TheVariants as core
use Rattle.wit_layout.specs.Tree.{Scalar}
use Rattle.rust_tree.specs.declared.export.ExportFn.{ExportFn}
use Rattle.rust_tree.specs.declared.expr.Expr.TheVariants as expr
use Rattle.rust_tree.specs.declared.item.Item.TheVariants as item
use Rattle.rust_tree.specs.declared.path.Path.{Path}
use Rattle.rust_tree.specs.declared.pattern.Pattern.TheVariants as pattern
use Rattle.rust_tree.specs.declared.runtime_item.RuntimeItem.TheVariants.{AsI32}
use Rattle.rust_tree.specs.declared.stmt.Stmt.{Stmt}
use Rattle.rust_tree.specs.declared.stmt.Stmt.TheVariants as stmt
use Rattle.rust_tree.specs.declared.trait_item.TraitFn.{TraitFn}
use Rattle.rust_tree.specs.declared.type_expr.Primitive.TheVariants as prim
use Rattle.rust_tree.specs.declared.type_expr.TypeExpr.{TypeExpr, the_lemmas as type_lemmas}
use Rattle.rust_tree.specs.declared.type_expr.TypeExpr.TheVariants as type
use Rattle.rust_tree.specs.Runtime.{item_name}
use Rattle.rust_tree.specs.Tree.{Tree}
use Rattle.wrapper_data.specs.declared.answer.Answer.TheVariants as answer
use Rattle.wrapper_data.specs.declared.block.Block.{Block}
use Rattle.wrapper_data.specs.declared.choice.Choice.TheVariants as choice
use Rattle.wrapper_data.specs.declared.choice.Choices.{Choices}
use Rattle.wrapper_data.specs.declared.form.Form.TheVariants as form
use Rattle.wrapper_data.specs.declared.heap.Heap.{Heap}
use Rattle.wrapper_data.specs.declared.run.CallPoint.{CallPoint}
use Rattle.wrapper_data.specs.declared.value.RustValue.{RustValue, the_lemmas as value_lemmas}
use Rattle.wrapper_data.specs.declared.value.RustValue.TheVariants as value
use Rattle.wrapper_data.specs.declared.word.Word.TheVariants as word
use Rattle.wrapper_data.specs.Answered.{written_block}
use Rattle.wrapper_meaning.specs.Shape.Shape.{scalar, tuple}
use Rattle.wrapper_meaning.specs.Shape.Shapes.{none, more}
use Rattle.wrapper_meaning.proofs.Instances.Forms.{four}
use Rattle.wrapper_meaning.proofs.Instances.OkAnswer.{area_of}
use Rattle.wrapper_values.specs.declared.state.Local.{Local}
use Rattle.wrapper_values.specs.declared.state.State.{State}
use Rattle.wrapper_values.specs.declared.state.Val.TheVariants as val
use Rattle.wrapper_values.specs.Act.{Done, ◌>>=◌, ◌>>◌, and_then, or_stop, pure}
use Rattle.wrapper_values.specs.Effect.{answer_of, is_of_kind, lift_of, low_i32}
use Rattle.wrapper_values.specs.Locals.{bind, local_named, value_of}
use Rattle.wrapper_values.specs.Owning.{concat, owned}
use Rattle.wrapper_values.specs.Setting.{Setting, stuck}
use Rattle.rust_tree.specs.declared.expr.Expr.{Expr}
use Rattle.wrapper_run.specs.Code.{code_of}
use Rattle.wrapper_run.proofs.StmtSteps.{run-store, runs-first}
use Rattle.wrapper_run.specs.ExportRun.{keep_result, returned_of, run_export_fn, run_to_words}
use Rattle.wrapper_run.specs.Blocks.{keep_blocks, leave_to, store_word}
use Rattle.wrapper_run.specs.Memory.{stored}
use Rattle.wrapper_run.specs.Run.{begin, call_runtime, callee, converted_or_lifted, eval, run_stmts, runtime_module_name, setting_of}
use Rattle.wrapper_run.proofs.MethodLemmas.{leaves_inner, method_gives, value_gives}
use Rattle.wrapper_run.proofs.NumberLemmas.{converted-narrow}
use Rattle.wrapper_run.proofs.OwningLemmas.{owned-number}
use Rattle.wrapper_run.proofs.PartSteps.{part_locals, takes_apart}
use Rattle.wrapper_run.proofs.StepLemmas.{call_gives, local_gives}
use Rattle.wrapper_faithful.specs.Passed.{Passed}
use Rattle.wrapper_faithful.proofs.Instances.PlainExport as plain

-- 1. The function, and its wrapper, by the statements behind the call; `ptr1` is what it returns, and where the numbers are stored

abbrev pub pairs : Passed
pairs = record { params = none; result = Some (tuple (more (scalar Scalar.u32) (more (scalar Scalar.u32) none))) }

abbrev pair_type : TypeExpr
pair_type = type.Tuple (type.Primitive prim.U32 ∷ type.Primitive prim.U32 ∷ [])

abbrev word_path : Path
word_path = record { lead = false; supers = 0; names = codes "_rt" ∷ codes "as_i32" ∷ [] }

abbrev put : ℕ → List ℕ → Stmt
put offset name = stmt.Store (expr.Local (codes "ptr1")) (record { bytes = offset; pointers = 0 }) core.I32 (expr.Call word_path (expr.Local name ∷ []))

abbrev pub puts : List Stmt
puts = stmt.LetParts (pattern.Tuple (codes "t2_0" ∷ codes "t2_1" ∷ [])) (expr.Local (codes "result0")) ∷ put 0 (codes "t2_0") ∷ put 4 (codes "t2_1") ∷ []

abbrev pub wrapper : List Stmt → ExportFn
wrapper after = record plain.wrapper {
  result = Some core.Pointer;
  call = record plain.body { result = Some (codes "result0") };
  rest = code_of after (Some (expr.Local (codes "ptr1")));
}

-- a stack area of its own, or the static area of the file
abbrev pub in_its_own : List Stmt
in_its_own =
    stmt.Area (record { name = codes "ret_area"; size = record { bytes = 8; pointers = 0 }; align = alignment.Bytes 4 })
    ∷ stmt.Let (codes "ptr1") (expr.ReturnPointer (codes "ret_area")) ∷ puts

abbrev pub in_the_static : List Stmt
in_the_static = stmt.Let (codes "ptr1") expr.StaticPointer ∷ puts

abbrev method : TraitFn
method = record plain.method { result = pair_type }

abbrev pub tree : List Stmt → Tree
tree after = record {
  options = [];
  items = item.Export (wrapper after) ∷ item.Trait (record plain.guest { functions = method ∷ [] }) ∷ item.Area (record { size = record { bytes = 8; pointers = 0 }; align = alignment.Bytes 4 })
      ∷ item.ModuleMacro (record { name = codes "w"; entries = record plain.entry { result = Some core.Pointer } ∷ [] }) ∷ item.Runtime (AsI32 ∷ []) ∷ [];
  places = record { interface = None; nth = 0 } ∷ [];
}

-- 2. A run whose implementation gives 7 and 9, and leaves an empty heap

abbrev pub empty : Heap
empty = record { blocks = [] }

abbrev pub choices : Choices
choices = record { list = choice.At 4096 ∷ [] }

abbrev pub pair : RustValue
pair = value.Struct (value.Num wit.U32 (pos 7) ∷ value.Num wit.U32 (pos 9) ∷ [])

abbrev pub setting : List Stmt → Setting
setting first = setting_of (tree first) 1 (answer.Value (Some pair) empty) form.Debug

returned : (first : List Stmt) → returned_of (tree first).items pair_type (Some pair) ≡ Some (val.Value pair)
unfolding answer_of
returned first = search (rules, value_lemmas, type_lemmas)

pub pair_owns : owned (val.Value pair) ≡ []
pair_owns = search (rules, value_lemmas)

abbrev pub point : CallPoint
point = record { target = plain.names.method; words = []; values = []; heap = empty }

abbrev pub result : Local
result = record { name = codes "result0"; value = Some (val.Value pair) }

abbrev begun : State
begun = begin [] [] empty choices

abbrev answered : State
answered = record begun { calls = point ∷ [] }

abbrev pub ready : State
ready = record answered { locals = result ∷ [] }

-- the call, and the result in its local
pub calls_it : (first : List Stmt) → run_export_fn (setting first) (wrapper first) [] begun ≡ run_to_words (setting first) (Some core.Pointer) (wrapper first).rest ready
unfolding bind
calls_it first =
    let w = setting first in
    ap (λ o. and_then (and_then (and_then o (λ v. leave_to w 0 >> pure v)) (keep_result w (Some (codes "result0")))) (λ _. run_to_words w (Some core.Pointer) (wrapper first).rest))
    (method_gives w (codes "Guest") (codes "f") method [] [] begun refl refl ∙ value_gives w pair_type (Some pair) (val.Value pair) empty answered refl (returned first)
    ∙ ap (λ addresses. Done (val.Value pair) (record answered { taken = concat (addresses ∷ []) })) pair_owns)
    ∙ ap (λ o. and_then (and_then (and_then o (λ _. pure (val.Value pair))) (keep_result w (Some (codes "result0")))) (λ _. run_to_words w (Some core.Pointer) (wrapper first).rest)) (leaves_inner w [] [] answered refl tt)

-- a number is stored

word_gives : (first : List Stmt) (name : List ℕ) (n : ℕ) (s : State) → value_of (local_named name s.locals) ≡ Some (val.Value (value.Num wit.U32 (pos n))) → is_of_kind wit.U32 (pos n) ≡ true
    → eval (setting first) (expr.Call word_path (expr.Local name ∷ [])) s ≡ Done (val.Word (word.I32 (low_i32 (pos n)))) s
unfolding callee runtime_module_name call_runtime item_name
word_gives first name n s there fits =
    let w = setting first in
    let v = val.Value (value.Num wit.U32 (pos n)) in
    call_gives w word_path (expr.Local name ∷ []) (v ∷ []) s (local_gives w name v s there (owned-number wit.U32 (pos n)), tt)
    ∙ ap (λ o. converted_or_lifted w o (lift_of w.form AsI32 v) s) (converted-narrow wit.U32 (pos n) refl fits)

put_runs : (first : List Stmt) (offset : ℕ) (name : List ℕ) (n : ℕ) (blocks : List Block) (after : List Stmt) (s : State)
    → value_of (local_named name s.locals) ≡ Some (val.Value (value.Num wit.U32 (pos n))) → value_of (local_named (codes "ptr1") s.locals) ≡ Some (val.Word (word.Pointer 4096)) → is_of_kind wit.U32 (pos n) ≡ true
    → stored core.I32 (4096 + bytes_at (record { bytes = offset; pointers = 0 }) 4) (word.I32 (low_i32 (pos n))) s.heap.blocks ≡ Some blocks
    → run_stmts (setting first) (put offset name ∷ after) s ≡ run_stmts (setting first) after (record s { heap = record { blocks = blocks } })
put_runs first offset name n blocks after s there pointer fits written =
    let w = setting first in
    let size : ArchitectureSize = record { bytes = offset; pointers = 0 } in
    let e : Expr = expr.Call word_path (expr.Local name ∷ []) in
    runs-first w (put offset name) (eval w e >>= (λ v. eval w (expr.Local (codes "ptr1")) >>= store_word w size core.I32 v)) after s (run-store w (expr.Local (codes "ptr1")) size core.I32 e)
    ∙ ap (λ o. and_then (and_then o (λ v. eval w (expr.Local (codes "ptr1")) >>= store_word w size core.I32 v)) (λ _. run_stmts w after)) (word_gives first name n s there fits)
    ∙ ap (λ o. and_then (and_then o (store_word w size core.I32 (val.Word (word.I32 (low_i32 (pos n)))))) (λ _. run_stmts w after)) (local_gives w (codes "ptr1") (val.Word (word.Pointer 4096)) s pointer refl)
    ∙ ap (λ o. and_then (and_then (or_stop (stuck w) o s) keep_blocks) (λ _. run_stmts w after)) written

-- the result is taken apart, and both numbers are stored

abbrev pub parts : List Local
parts = part_locals (codes "t2_0" ∷ codes "t2_1" ∷ []) (value.Num wit.U32 (pos 7) ∷ value.Num wit.U32 (pos 9) ∷ [])

abbrev pub with_area : List ℕ → State → State
with_area bytes s = record s { heap = record { blocks = area_of 8 bytes ∷ [] } }

abbrev pub full : List ℕ
full = four 7 ++ four 9

abbrev pub full_state : State → State
full_state s = record (with_area full s) { locals = s.locals ++ parts }

pub puts_run : (first : List Stmt) (s : State) → value_of (local_named (codes "result0") s.locals) ≡ Some (val.Value pair) → value_of (local_named (codes "ptr1") (s.locals ++ parts)) ≡ Some (val.Word (word.Pointer 4096))
    → value_of (local_named (codes "t2_0") (s.locals ++ parts)) ≡ Some (val.Value (value.Num wit.U32 (pos 7))) → value_of (local_named (codes "t2_1") (s.locals ++ parts)) ≡ Some (val.Value (value.Num wit.U32 (pos 9)))
    → run_stmts (setting first) puts (with_area [] s) ≡ Done tt (full_state s)
unfolding stored written_block
puts_run first s whole pointer one two =
    let w = setting first in
    ap (λ o. and_then o (λ _. run_stmts w (put 0 (codes "t2_0") ∷ put 4 (codes "t2_1") ∷ [])))
    (takes_apart w (pattern.Tuple (codes "t2_0" ∷ codes "t2_1" ∷ [])) (expr.Local (codes "result0")) (codes "t2_0" ∷ codes "t2_1" ∷ []) (value.Num wit.U32 (pos 7) ∷ value.Num wit.U32 (pos 9) ∷ []) (with_area [] s) (with_area [] s)
    refl (local_gives w (codes "result0") (val.Value pair) (with_area [] s) whole pair_owns) tt)
    ∙ put_runs first 0 (codes "t2_0") 7 (area_of 8 (four 7) ∷ []) (put 4 (codes "t2_1") ∷ []) (record (with_area [] s) { locals = s.locals ++ parts }) one pointer refl refl
    ∙ put_runs first 4 (codes "t2_1") 9 (area_of 8 full ∷ []) [] (record (with_area (four 7) s) { locals = s.locals ++ parts }) two pointer refl refl
