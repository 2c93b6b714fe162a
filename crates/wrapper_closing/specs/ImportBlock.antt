-- Which block closes the code of an import: its area first, then its statements, and what it gives last.
use Rattle.std.specs.Prelude.{List, [], ◌∷◌, ◌++◌, Option, None, Some}
use Rattle.rust_tree.specs.declared.expr.Expr.{Expr}
use Rattle.rust_tree.specs.declared.stmt.Block.{Block}
use Rattle.rust_tree.specs.declared.stmt.Stmt.{Stmt}
use Rattle.rust_tree.specs.declared.stmt.Stmt.TheVariants as stmt
use Rattle.wit_model.specs.Bytes.{Bytes}
use Rattle.wrapper_data.specs.declared.choice.Request.{Request}
use Rattle.wrapper_run.specs.Code.{code_of}
use Rattle.wrapper_run.specs.Places.{request_of}
use Rattle.abi_bindgen.specs.declared.bindgen.Asked.{Asked}
use Rattle.func_gen.specs.Body.{asked_alignment, asked_size}
use Rattle.func_gen.specs.declared.body.Body.{Body}
use Rattle.func_gen.specs.declared.function_bindgen.FunctionBindgen.{FunctionBindgen}
use Rattle.func_gen.specs.declared.operand.ExprOperand.{ExprOperand}

-- a local of this name, where an area was asked for
abbrev pub area_stmts : Bytes → List Asked → List Stmt
area_stmts name [] = []
area_stmts name (a ∷ asked) = stmt.Area (record { name = name; size = asked_size (a ∷ asked); align = asked_alignment (a ∷ asked) }) ∷ []

-- and is asked for so
abbrev pub wanted : List Asked → Option Request
wanted [] = None
wanted (a ∷ asked) = Some (request_of (asked_size (a ∷ asked)) (asked_alignment (a ∷ asked)))

-- at most one operand is given
abbrev pub tail_of : List ExprOperand → Option Expr
tail_of [] = None
tail_of (o ∷ os) = Some o.expr

abbrev pub import_block : Bytes → FunctionBindgen → List ExprOperand → Block
import_block area b given = code_of (area_stmts area b.asked ++ b.code.stmts) (tail_of given)

-- the same of a body: its area, if it needs one, its statements, and what it gives
abbrev pub local_area : Bytes → Option Asked → List Stmt
local_area name None = []
local_area name (Some a) = stmt.Area (record { name = name; size = a.size; align = a.align }) ∷ []

abbrev pub block_of : Bytes → Body → Block
block_of area body = code_of (local_area area body.area ++ body.stmts) body.tail
