-- Which code is inward: it makes no call, places no area and writes into no slot from outside, whatever it runs in.
use Rattle.std.specs.Prelude.{◌≡◌, Bool, true, false, ◌&&◌, List, [], ◌∷◌, map, Option, None, Some}
use Rattle.std.specs.List.{list_all}
use Rattle.std.specs.Str.{bytes_eq}
use Rattle.wit_model.specs.Bytes.{Bytes}
use Rattle.rust_tree.specs.declared.expr.Expr.{Expr, Expr-F, fold-Expr}
use Rattle.rust_tree.specs.declared.stmt.Arm.{Arm-F}
use Rattle.rust_tree.specs.declared.stmt.Block.{Block, Block-F, out-Block}
use Rattle.rust_tree.specs.declared.stmt.Stmt.{Stmt, Stmt-F, fold-Stmt}
use Rattle.wrapper_values.specs.declared.state.State.{State}
use Rattle.wrapper_values.specs.Act.{Act}
use Rattle.wrapper_values.specs.Setting.{Setting}
use Rattle.wrapper_run.specs.Growth.{state_of}
use Rattle.wrapper_run.specs.Results.{run_inner}
use Rattle.wrapper_run.specs.Run.{Callee, alone, callee, run_block}
use Rattle.wrapper_run.specs.UnusedLocals.{are_known}

-- a name alone is that of a core import
abbrev pub is_no_import : Callee → Bool
is_no_import (alone name) = false
is_no_import _ = true

-- one level of an expression, with the answers for the expressions in it
abbrev pub inward_step : Expr-F Bool → Bool
inward_step (Expr-F.Local name) = true
inward_step (Expr-F.Ref name) = true
inward_step (Expr-F.Cast e to) = e
inward_step (Expr-F.Call path arguments) = is_no_import (callee path) && are_known arguments
inward_step (Expr-F.I32FromBool e) = e
inward_step (Expr-F.AsPtr name) = true
inward_step (Expr-F.Len name) = true
inward_step (Expr-F.CastMut name) = true
inward_step (Expr-F.ReturnPointer name) = true
inward_step (Expr-F.Load e offset ty) = e
inward_step (Expr-F.LoadSmall e offset ty) = e
inward_step (Expr-F.FromRawParts e length) = e
inward_step (Expr-F.IntoBoxedBytes name) = true
inward_step Expr-F.StaticPointer = false
inward_step (Expr-F.Size size) = true
inward_step (Expr-F.Record path fields) = list_all (λ f. f.1) fields
inward_step (Expr-F.Tuple parts) = are_known parts
inward_step Expr-F.Unit = true
inward_step (Expr-F.Array parts) = are_known parts
inward_step (Expr-F.EnumNumber e) = e
inward_step (Expr-F.FlagsBits name by) = true
inward_step (Expr-F.FlagsOfWords path repr words) = list_all (λ x. x.1) words
inward_step (Expr-F.I32Const n) = true
inward_step (Expr-F.Zero ty) = true
inward_step (Expr-F.Case path) = true
inward_step (Expr-F.Method e method) = e

abbrev pub is_inward_expr : Expr → Bool
is_inward_expr = fold-Expr Bool inward_step

abbrev pub is_inward_tail : Option Expr → Bool
is_inward_tail None = true
is_inward_tail (Some e) = is_inward_expr e

-- what the test of a block is told of a statement: whether it is inward, or that it declares a slot, or that it writes into one a value
-- whose expression is inward or not
pub data StmtTest : Type 0 where
  plain : Bool → StmtTest
  declares_slot : Bytes → StmtTest
  writes_slot : Bytes → Bool → StmtTest

-- whether the slot of this name is the one that was declared last
abbrev pub is_fresh : Option Bytes → Bytes → Bool
is_fresh None name = false
is_fresh (Some slot) name = bytes_eq slot name

-- a slot is written right behind its declaration alone, behind the one that is given: so it is a local of the same block
abbrev pub are_inward : Option Bytes → List StmtTest → Bool
are_inward slot [] = true
are_inward slot (plain b ∷ tests) = b && are_inward None tests
are_inward slot (declares_slot name ∷ tests) = are_inward (Some name) tests
are_inward slot (writes_slot name b ∷ tests) = (is_fresh slot name && b) && are_inward None tests

-- one level of a statement, of an arm and of a block, with the answers for what is in it

abbrev pub inward_stmt_step : Stmt-F StmtTest Bool Bool → StmtTest
inward_stmt_step (Stmt-F.Import d) = plain true
inward_stmt_step (Stmt-F.Let name e) = plain (is_inward_expr e)
inward_stmt_step (Stmt-F.Expr e) = plain (is_inward_expr e)
inward_stmt_step (Stmt-F.Area a) = plain false
inward_stmt_step (Stmt-F.Store address offset ty e) = plain (is_inward_expr e && is_inward_expr address)
inward_stmt_step (Stmt-F.StoreSmall address offset ty e) = plain (is_inward_expr e && is_inward_expr address)
inward_stmt_step (Stmt-F.LetParts p e) = plain (is_inward_expr e)
inward_stmt_step (Stmt-F.Match names e arms) = plain (is_inward_expr e && are_known arms)
inward_stmt_step (Stmt-F.AssertLast name n) = plain true
inward_stmt_step (Stmt-F.LetSlot name) = declares_slot name
inward_stmt_step (Stmt-F.WriteSlot name e) = writes_slot name (is_inward_expr e)

abbrev pub inward_arm_step : Arm-F StmtTest Bool Bool → Bool
inward_arm_step a = a.body

abbrev pub inward_block_step : Block-F StmtTest Bool Bool → Bool
inward_block_step b = are_inward None b.stmts && is_inward_tail b.tail

abbrev pub stmt_test : Stmt → StmtTest
stmt_test = fold-Stmt StmtTest Bool Bool inward_stmt_step inward_arm_step inward_block_step

-- no call of an import is in it, no area, no pointer of the static one, and no slot from outside is written
abbrev pub is_inward : Block → Bool
is_inward b = are_inward None (map stmt_test (out-Block b).stmts) && is_inward_tail (out-Block b).tail

-- the act makes no call, from every state, and however it ends
pub record CallsNothing {A : Type 0} (act : Act A) : Type 0 where
  pub quiet : (s : State) → (state_of (act s)).calls ≡ s.calls

abbrev pub BlocksCallNothing : Type 0
BlocksCallNothing = (w : Setting) (b : Block) → is_inward b ≡ true → CallsNothing (run_block w b)

-- and so for a block that is no body
abbrev pub InnerBlocksCallNothing : Type 0
InnerBlocksCallNothing = (w : Setting) (b : Block) → is_inward b ≡ true → CallsNothing (run_inner w b)
