-- Which statements, arms and calls may stand in a block.
use Rattle.std.specs.Prelude.{◌≡◌, Bool, true, List, map, None}
use Rattle.rust_tree.specs.declared.path.Path.{Path}
use Rattle.rust_tree.specs.declared.stmt.Arm.{Arm, out-Arm}
use Rattle.rust_tree.specs.declared.stmt.Stmt.{Stmt}
use Rattle.wrapper_run.specs.Inward.{are_inward, is_inward, is_no_import, stmt_test}
use Rattle.wrapper_run.specs.Run.{callee}
use Rattle.func_gen.specs.declared.function_bindgen.FinishedBlock.{FinishedBlock}

-- they call no import, place no area, and write into no slot but their own
abbrev pub are_inward_stmts : List Stmt → Bool
are_inward_stmts stmts = are_inward None (map stmt_test stmts)

-- those of a finished block
abbrev pub IsInwardBlock : FinishedBlock → Type 0
IsInwardBlock b = are_inward_stmts b.stmts ≡ true

abbrev pub is_inward_arm : Arm → Bool
is_inward_arm a = is_inward (out-Arm a).body

-- what the path names is no import
abbrev pub names_no_import : Path → Bool
names_no_import path = is_no_import (callee path)
