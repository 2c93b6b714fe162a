-- The definitions hold of worked rows: a record owns what stands in it, is taken apart by its struct, and what it owned is freed once;
-- a block gives two words; an area is no value; small numbers are read and written.
use Rattle.std.proofs.Common.{◌≡◌, ℕ, Bool, true, false, List, [], ◌∷◌, map, None, Some, refl, sym, ap, ◌∙◌, rules}
use Rattle.std.specs.Prelude.{codes, negsuc, option_and_then, pos}
use Rattle.std.specs.Option.{option_map}
use Rattle.wit_model.specs.Bytes.{Bytes}
use Rattle.wit_model.specs.declared.types.WitType.TheVariants as wit
use Rattle.wit_model.specs.declared.wasm_type.WasmType.TheVariants as core
use Rattle.rust_tree.specs.declared.expr.Expr.{Expr, the_lemmas as expr_lemmas}
use Rattle.rust_tree.specs.declared.expr.Expr.TheVariants as expr
use Rattle.rust_tree.specs.declared.expr.SmallType.TheVariants as small
use Rattle.rust_tree.specs.declared.item.Item.{Item}
use Rattle.rust_tree.specs.declared.item.Item.TheVariants as item
use Rattle.rust_tree.specs.declared.path.Path.{Path}
use Rattle.rust_tree.specs.declared.pattern.Pattern.{Pattern}
use Rattle.rust_tree.specs.declared.pattern.Pattern.TheVariants as pattern
use Rattle.rust_tree.specs.declared.stmt.Arm.{Arm}
use Rattle.rust_tree.specs.declared.stmt.Block.{Block as Code, Block-F}
use Rattle.rust_tree.specs.declared.stmt.Stmt.{Stmt}
use Rattle.rust_tree.specs.declared.stmt.Stmt.TheVariants as stmt
use Rattle.rust_tree.specs.declared.type_expr.Primitive.TheVariants as prim
use Rattle.rust_tree.specs.declared.type_expr.TypeExpr.{TypeExpr, TypeExpr-F, out-TypeExpr, the_lemmas as type_lemmas}
use Rattle.rust_tree.specs.declared.type_expr.TypeExpr.TheVariants as type
use Rattle.rust_tree.specs.declared.type_item.AliasItem.{AliasItem}
use Rattle.rust_tree.specs.declared.type_item.StructField.{StructField}
use Rattle.rust_tree.specs.declared.type_item.StructItem.{StructItem}
use Rattle.rust_tree.specs.declared.type_item.TypeItem.TheVariants.{Alias, Struct}
use Rattle.wrapper_data.specs.declared.block.Block.{Block}
use Rattle.wrapper_data.specs.declared.value.RustValue.{RustValue, RustValue-F, fold-roll-RustValue, the_lemmas}
use Rattle.wrapper_data.specs.declared.value.RustValue.TheVariants as value
use Rattle.wrapper_data.specs.declared.value.RustValue.TheVariants.{rolls-Case}
use Rattle.wrapper_data.specs.declared.word.Word.TheVariants as word
use Rattle.wrapper_data.specs.Answered.{written_block}
use Rattle.wrapper_values.specs.declared.state.Local.{Local}
use Rattle.wrapper_values.specs.declared.state.State.{State}
use Rattle.wrapper_values.specs.declared.state.Val.{Val}
use Rattle.wrapper_values.specs.declared.state.Val.TheVariants as val
use Rattle.wrapper_values.specs.Act.{Act, Done, Stopped, ◌>>=◌, ◌>>◌, all, and_then, or_stop, pure}
use Rattle.wrapper_run.specs.Blocks.{drop_value, forget, free, free_all, leave_to, release, release_all}
use Rattle.wrapper_values.specs.Effect.{answer_of}
use Rattle.wrapper_values.specs.Fields.{arranged}
use Rattle.wrapper_values.specs.Locals.{lend_local, use_local}
use Rattle.wrapper_run.specs.Memory.{loaded_small, stored_small}
use Rattle.wrapper_values.specs.Owning.{lent, owned}
use Rattle.wrapper_run.specs.Code.{code_of}
use Rattle.wrapper_run.specs.LastParts.{results}
use Rattle.wrapper_run.specs.Results.{run_inner}
use Rattle.wrapper_run.specs.Run.{begin, bound_args, call, eval, result_of, run_stmt, run_stmts}
use Rattle.wrapper_values.specs.Setting.{Setting, stuck}
use Rattle.wrapper_values.specs.Typed.{Typed, answer_in, typed, typed_case, typed_level, typed_option, unaliased}
use Rattle.wrapper_values.specs.Whole.{whole_of}
use Rattle.wrapper_run.proofs.OwningLemmas.{owned-block, owned-number}
use Rattle.wrapper_run.proofs.PartSteps.{eval-record, takes_apart}
use Rattle.wrapper_run.proofs.StepLemmas.{eval-call, eval-local, eval-ref, local_gives}
use Rattle.wrapper_run.proofs.StmtSteps.{code-opened}
use Rattle.wrapper_run.proofs.TakeLemmas.{leaves_one, text_gives, text_local, used_local}

-- a record with a text in it, and one in a list in it
abbrev nested : Bool → RustValue
nested o = value.Struct (value.Bool true ∷ value.Buffer 4096 2 o ∷ value.Seq (value.Buffer 5000 1 o ∷ []) ∷ [])

nested_owns : owned (val.Value (nested true)) ≡ 4096 ∷ 5000 ∷ []
nested_owns = search (rules, the_lemmas)

-- behind a reference nothing in it owns a block
nested_lent : lent (val.Value (nested true)) ≡ Some (val.Value (nested false))
nested_lent = search (rules, the_lemmas)

nested_lent_owns : owned (val.Value (nested false)) ≡ []
nested_lent_owns = search (rules, the_lemmas)

abbrev block : ℕ → ℕ → Block
block address size = record { address = address; size = size; cells = [] }

-- with the blocks that a value owns, and one more
abbrev owning : State
owning = begin [] (4096 ∷ 5000 ∷ []) (record { blocks = block 4096 2 ∷ block 6000 8 ∷ block 5000 1 ∷ [] }) (record { list = [] })

-- its drop frees both blocks, and leaves the other
nested_dropped : (w : Setting) → drop_value w (val.Value (nested true)) owning ≡ Done tt (begin [] [] (record { blocks = block 6000 8 ∷ [] }) (record { list = [] }))
unfolding free
nested_dropped w = ap (λ o. free_all w o owning) nested_owns

-- where it is forgotten, they stay
nested_forgotten : (w : Setting) → forget w (val.Value (nested true)) owning ≡ Done (val.Value value.Unit) (begin [] [] owning.heap (record { list = [] }))
unfolding release
nested_forgotten w = ap (λ o. and_then (release_all w o owning) (λ _. pure (val.Value value.Unit))) nested_owns

-- `let P { g: d, f: c } = P { g: b, f: a };`, where `a` is a text that owns its block, and `b` a core word; the struct `P` of the file
-- has the fields `f` and `g`, in this order

abbrev a_name : Bytes
a_name = codes "a"

abbrev b_name : Bytes
b_name = codes "b"

abbrev field : Bytes → TypeExpr → StructField
field name ty = record { docs = []; name = name; wit = name; ty = ty }

abbrev p_struct : StructItem
p_struct = record { docs = []; repr_c = false; derives = []; name = codes "P"; fields = field (codes "f") type.String ∷ field (codes "g") (type.Primitive prim.I32) ∷ []; error = None }

-- a file that begins with this struct
abbrev in_file : Setting → Setting
in_file w = record w { items = item.Type (Struct p_struct) ∷ w.items }

abbrev p_path : Path
p_path = record { lead = false; supers = 0; names = codes "P" ∷ [] }

abbrev p_pattern : Pattern
p_pattern = pattern.Record p_path ((codes "g", codes "d") ∷ (codes "f", codes "c") ∷ [])

abbrev p_record : Expr
p_record = expr.Record p_path ((codes "g", expr.Local b_name) ∷ (codes "f", expr.Local a_name) ∷ [])

abbrev seven : Local
seven = record { name = b_name; value = Some (val.Word (word.I32 (pos 7))) }

abbrev with_parts : State
with_parts = begin (text_local a_name 4096 2 ∷ seven ∷ []) (4096 ∷ []) (record { blocks = block 4096 2 ∷ [] }) (record { list = [] })

-- `a` is moved
abbrev a_used : State
a_used = record with_parts { locals = used_local a_name 4096 2 ∷ seven ∷ [] }

-- `c` owns the block, and `d` is a number
abbrev apart_locals : List Local
apart_locals = used_local a_name 4096 2 ∷ seven ∷ text_local (codes "c") 4096 2 ∷ record { name = codes "d"; value = Some (val.Value (value.Num wit.S32 (pos 7))) } ∷ []

-- the values stand in the order of the struct
record_runs : (w : Setting) → eval (in_file w) p_record with_parts ≡ Done (val.Value (value.Struct (value.Buffer 4096 2 true ∷ value.Num wit.S32 (pos 7) ∷ []))) a_used
record_runs w =
    let v = in_file w in
    let end : List (Bytes × Val) → Act Val = λ vs. or_stop (stuck v) (option_and_then whole_of (arranged v.items p_path vs)) in
    ap (λ act. act with_parts) (eval-record v p_path ((codes "g", expr.Local b_name) ∷ (codes "f", expr.Local a_name) ∷ []))
    ∙ ap (λ o. and_then (and_then (and_then o (λ x. pure (codes "g", x))) (λ x. (eval v (expr.Local a_name) >>= (λ y. pure (codes "f", y)) >>= (λ y. pure [] >>= (λ ys. pure (y ∷ ys)))) >>= (λ ys. pure (x ∷ ys)))) end)
    (local_gives v b_name (val.Word (word.I32 (pos 7))) with_parts refl refl)
    ∙ ap (λ o. and_then (and_then (and_then (and_then o (λ y. pure (codes "f", y))) (λ y. pure [] >>= (λ ys. pure (y ∷ ys)))) (λ ys. pure ((codes "g", val.Word (word.I32 (pos 7))) ∷ ys))) end)
    (text_gives v a_name 4096 2 [] (seven ∷ []) with_parts refl refl)

parts_runs : (w : Setting) → run_stmt (in_file w) (stmt.LetParts p_pattern p_record) with_parts ≡ Done tt (record with_parts { locals = apart_locals })
parts_runs w =
    takes_apart (in_file w) p_pattern p_record (codes "c" ∷ codes "d" ∷ []) (value.Buffer 4096 2 true ∷ value.Num wit.S32 (pos 7) ∷ []) with_parts a_used refl (record_runs w) tt

-- a record or a pattern that leaves a field out has no meaning, and none with a name that the struct lacks

left_out : (items : List Item) → arranged (item.Type (Struct p_struct) ∷ items) p_path ((codes "f", codes "c") ∷ []) ≡ None
left_out items = refl

another_name : (items : List Item) → arranged (item.Type (Struct p_struct) ∷ items) p_path ((codes "f", codes "c") ∷ (codes "h", codes "d") ∷ []) ≡ None
another_name items = refl

-- outside of the file the tree's order counts
other_path : arranged [] (record { lead = true; supers = 0; names = codes "P" ∷ [] }) ((codes "g", codes "d") ∷ (codes "f", codes "c") ∷ []) ≡ Some (codes "d" ∷ codes "c" ∷ [])
other_path = refl

-- at the end of the scope the block is freed, once
parts_end : (w : Setting) → leave_to w 0 (record with_parts { locals = apart_locals }) ≡ Done tt (begin [] [] (record { blocks = [] }) (record { list = [] }))
parts_end w =
    let d : Local = record { name = codes "d"; value = Some (val.Value (value.Num wit.S32 (pos 7))) } in
    leaves_one w (used_local a_name 4096 2 ∷ seven ∷ []) (text_local (codes "c") 4096 2) (d ∷ []) 4096 (block 4096 2) (record with_parts { locals = apart_locals }) refl (refl, (refl, tt))
    (owned-block 4096 1) (owned-number wit.S32 (pos 7), tt) refl

-- a block gives the parts of a tuple that stands last in it, if they are two or more; a core word stays one

two_results : (a b : Expr) → results (Some (expr.Tuple (a ∷ b ∷ []))) ≡ a ∷ b ∷ []
two_results a b = search (rules, expr_lemmas)

one_result : (a : Expr) → results (Some (expr.Tuple (a ∷ []))) ≡ expr.Tuple (a ∷ []) ∷ []
one_result a = search (rules, expr_lemmas)

abbrev c_pointer : Local
c_pointer = record { name = codes "c"; value = Some (val.Word (word.Pointer 4096)) }

abbrev two_words : State
two_words = begin (seven ∷ c_pointer ∷ []) [] (record { blocks = [] }) (record { list = [] })

words_given : (w : Setting) → run_inner w (code_of [] (Some (expr.Tuple (expr.Local b_name ∷ expr.Local (codes "c") ∷ [])))) two_words
    ≡ Done (val.Word (word.I32 (pos 7)) ∷ val.Word (word.Pointer 4096) ∷ []) two_words
unfolding leave_to
words_given w =
    let end : List Val → Act (List Val) = λ vs. leave_to w 2 >> pure vs in
    ap (λ (l : Block-F Stmt Arm Code). and_then ((run_stmts w l.stmts >> all (map (eval w) (results l.tail))) two_words) end) (code-opened [] (Some (expr.Tuple (expr.Local b_name ∷ expr.Local (codes "c") ∷ []))))
    ∙ ap (λ es. and_then (all (map (eval w) es) two_words) end) (two_results (expr.Local b_name) (expr.Local (codes "c")))
    ∙ ap (λ o. and_then (and_then o (λ x. eval w (expr.Local (codes "c")) >>= (λ y. pure [] >>= (λ ys. pure (y ∷ ys))) >>= (λ ys. pure (x ∷ ys)))) end) (local_gives w b_name (val.Word (word.I32 (pos 7))) two_words refl refl)
    ∙ ap (λ o. and_then (and_then (and_then o (λ y. pure [] >>= (λ ys. pure (y ∷ ys)))) (λ ys. pure (val.Word (word.I32 (pos 7)) ∷ ys))) end) (local_gives w (codes "c") (val.Word (word.Pointer 4096)) two_words refl refl)

-- a function whose result is printed as `Q`, where `type Q = P;`, answers a value of `P`: a text that owns its bytes, and a number

abbrev q_alias : AliasItem
q_alias = record { docs = []; name = codes "Q"; ty = type.Path p_path }

abbrev two_types : List Item
two_types = item.Type (Struct p_struct) ∷ item.Type (Alias q_alias) ∷ []

abbrev q_type : TypeExpr
q_type = type.Path (record { lead = false; supers = 0; names = codes "Q" ∷ [] })

q_is_p : unaliased two_types q_type ≡ type.Path p_path
q_is_p = search (rules, type_lemmas)

abbrev text_and_seven : Bool → RustValue
text_and_seven owned = value.Struct (value.Buffer 4096 2 owned ∷ value.Num wit.S32 (pos 7) ∷ [])

q_answers : answer_in two_types q_type (val.Value (text_and_seven true)) ≡ Some (Some (text_and_seven true))
unfolding answer_of
q_answers = search (rules, the_lemmas, type_lemmas)

-- one whose text owns nothing is none of that type
q_not_lent : answer_in two_types q_type (val.Value (text_and_seven false)) ≡ None
unfolding answer_of
q_not_lent = search (rules, the_lemmas, type_lemmas)

-- the case 0 without a payload is an option

abbrev number_option : TypeExpr
number_option = type.Optional (type.Primitive prim.I32)

option_none : answer_in [] number_option (val.Value (value.Case 0 None)) ≡ Some (Some (value.Case 0 None))
unfolding answer_of
option_none = search (rules, the_lemmas, type_lemmas)

-- a case with a payload is what that payload makes it

case_is_typed : (n : ℕ) (r : RustValue) → typed [] (value.Case n (Some r)) number_option ≡ typed_option n (Some (typed [] r)) (type.Primitive prim.I32)
case_is_typed n r =
    ap (λ v. typed [] v number_option) (sym (rolls-Case n (Some r)))
    ∙ ap (λ (f : Typed). f number_option) (fold-roll-RustValue Typed (λ l ty. typed_level [] l (unaliased [] ty)) (RustValue-F.Case n (Some r)))
    ∙ ap (typed_case [] n (Some (typed [] r))) number_opened
  where
    number_opened : out-TypeExpr number_option ≡ TypeExpr-F.Optional (type.Primitive prim.I32)
    number_opened = search (rules, type_lemmas)

-- the case 0 with `()` is one too, and with another payload it is none

unit_is_typed : typed [] value.Unit type.Unit ≡ Some value.Unit
unfolding answer_of
unit_is_typed = search (rules, the_lemmas, type_lemmas)

option_unit : typed [] (value.Case 0 (Some value.Unit)) number_option ≡ Some (value.Case 0 (Some value.Unit))
option_unit = case_is_typed 0 value.Unit ∙ ap (option_map (λ r. value.Case 0 (Some r))) unit_is_typed

number_is_no_unit : typed [] (value.Num wit.S32 (pos 7)) type.Unit ≡ None
unfolding answer_of
number_is_no_unit = search (rules, the_lemmas, type_lemmas)

option_not_unit : typed [] (value.Case 0 (Some (value.Num wit.S32 (pos 7)))) number_option ≡ None
option_not_unit = case_is_typed 0 (value.Num wit.S32 (pos 7)) ∙ ap (option_map (λ r. value.Case 0 (Some r))) number_is_no_unit

-- the case 1 with a payload of its type is one

seven_is_typed : typed [] (value.Num wit.S32 (pos 7)) (type.Primitive prim.I32) ≡ Some (value.Num wit.S32 (pos 7))
unfolding answer_of
seven_is_typed = search (rules, the_lemmas, type_lemmas)

option_some : typed [] (value.Case 1 (Some (value.Num wit.S32 (pos 7)))) number_option ≡ Some (value.Case 1 (Some (value.Num wit.S32 (pos 7))))
option_some = case_is_typed 1 (value.Num wit.S32 (pos 7)) ∙ ap (option_map (λ x. value.Case 1 (Some x))) seven_is_typed

-- one with a payload of another type, whether another number or a bool, is none

unsigned_is_none : typed [] (value.Num wit.U32 (pos 7)) (type.Primitive prim.I32) ≡ None
unfolding answer_of
unsigned_is_none = search (rules, the_lemmas, type_lemmas)

option_of_another : typed [] (value.Case 1 (Some (value.Num wit.U32 (pos 7)))) number_option ≡ None
option_of_another = case_is_typed 1 (value.Num wit.U32 (pos 7)) ∙ ap (option_map (λ x. value.Case 1 (Some x))) unsigned_is_none

bool_is_none : typed [] (value.Bool true) (type.Primitive prim.I32) ≡ None
unfolding answer_of
bool_is_none = search (rules, the_lemmas, type_lemmas)

option_of_bool : typed [] (value.Case 1 (Some (value.Bool true))) number_option ≡ None
option_of_bool = case_is_typed 1 (value.Bool true) ∙ ap (option_map (λ x. value.Case 1 (Some x))) bool_is_none

-- the case 1 without one, and another case, are none

option_without : answer_in [] number_option (val.Value (value.Case 1 None)) ≡ None
unfolding answer_of
option_without = search (rules, the_lemmas, type_lemmas)

option_other : answer_in [] number_option (val.Value (value.Case 2 None)) ≡ None
unfolding answer_of
option_other = search (rules, the_lemmas, type_lemmas)

-- arrays: exactly so many values of the type, which may be another name
abbrev two_qs : TypeExpr
two_qs = type.Array q_type 2

array_of_two : answer_in two_types two_qs (val.Value (value.Struct (text_and_seven true ∷ text_and_seven true ∷ []))) ≡ Some (Some (value.Struct (text_and_seven true ∷ text_and_seven true ∷ [])))
unfolding answer_of
array_of_two = search (rules, the_lemmas, type_lemmas)

array_of_one : answer_in two_types two_qs (val.Value (value.Struct (text_and_seven true ∷ []))) ≡ None
unfolding answer_of
array_of_one = search (rules, the_lemmas, type_lemmas)

array_of_three : answer_in two_types two_qs (val.Value (value.Struct (text_and_seven true ∷ text_and_seven true ∷ text_and_seven true ∷ []))) ≡ None
unfolding answer_of
array_of_three = search (rules, the_lemmas, type_lemmas)

-- a parameter without an argument is no local, and a word of another type is no result: neither has a meaning

abbrev without_argument : State
without_argument = begin (bound_args (record { name = b_name; ty = type.Primitive prim.U32 } ∷ []) []) [] (record { blocks = [] }) (record { list = [] })

argument_missing : (w : Setting) → eval w (expr.Ref b_name) without_argument ≡ Stopped (stuck w) without_argument
unfolding lend_local
argument_missing w = ap (λ act. act without_argument) (eval-ref w b_name)

another_word : result_of (Some core.I32) (Some (word.I64 (pos 1))) ≡ None
another_word = refl

-- an area is no value: `::core::mem::forget(ret_area)` and `&ret_area` have no meaning, so no stack area outlives its body

abbrev area_name : Bytes
area_name = codes "ret_area"

abbrev forget_path : Path
forget_path = record { lead = true; supers = 0; names = codes "core" ∷ codes "mem" ∷ codes "forget" ∷ [] }

abbrev with_area : State
with_area = begin (record { name = area_name; value = Some (val.Area 512 8) } ∷ []) (512 ∷ []) (record { blocks = block 512 8 ∷ [] }) (record { list = [] })

area_not_used : (w : Setting) → eval w (expr.Local area_name) with_area ≡ Stopped (stuck w) with_area
unfolding use_local
area_not_used w = ap (λ act. act with_area) (eval-local w area_name)

area_not_forgotten : (w : Setting) → eval w (expr.Call forget_path (expr.Local area_name ∷ [])) with_area ≡ Stopped (stuck w) with_area
area_not_forgotten w =
    ap (λ act. act with_area) (eval-call w forget_path (expr.Local area_name ∷ []))
    ∙ ap (λ o. and_then (and_then o (λ x. pure [] >>= (λ xs. pure (x ∷ xs)))) (λ vs. call w forget_path vs)) (area_not_used w)

area_not_lent : (w : Setting) → eval w (expr.Ref area_name) with_area ≡ Stopped (stuck w) with_area
unfolding lend_local
area_not_lent w = ap (λ act. act with_area) (eval-ref w area_name)

-- small numbers: the byte 255 and the bytes 254, 255 are read by their types, and the low bytes of a number are written

abbrev small_block : List (ℕ × ℕ) → List Block
small_block cells = record { address = 16; size = 4; cells = cells } ∷ []

byte_read : loaded_small small.U8 17 (small_block ((1, 255) ∷ [])) ≡ Some (word.I32 (pos 255))
unfolding loaded_small
byte_read = refl

signed_byte_read : loaded_small small.I8 17 (small_block ((1, 255) ∷ [])) ≡ Some (word.I32 (negsuc 0))
unfolding loaded_small
signed_byte_read = refl

pair_read : loaded_small small.U16 18 (small_block ((2, 254) ∷ (3, 255) ∷ [])) ≡ Some (word.I32 (pos 65534))
unfolding loaded_small
pair_read = refl

signed_pair_read : loaded_small small.I16 18 (small_block ((2, 254) ∷ (3, 255) ∷ [])) ≡ Some (word.I32 (negsuc 1))
unfolding loaded_small
signed_pair_read = refl

-- two bytes at an odd address are none
odd_pair : loaded_small small.U16 17 (small_block ((1, 254) ∷ (2, 255) ∷ [])) ≡ None
unfolding loaded_small
odd_pair = refl

low_byte_written : stored_small small.U8 17 (negsuc 0) (small_block []) ≡ Some (small_block ((1, 255) ∷ []))
unfolding stored_small written_block
low_byte_written = refl

low_pair_written : stored_small small.U16 18 (pos 131070) (small_block []) ≡ Some (small_block ((2, 254) ∷ (3, 255) ∷ []))
unfolding stored_small written_block
low_pair_written = refl

-- what lies outside of the block is not written
not_written : stored_small small.U8 20 (pos 1) (small_block []) ≡ None
unfolding stored_small
not_written = refl
