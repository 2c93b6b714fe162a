-- A law of code: it runs as it does without the locals that it does not name, and leaves these as they are.
use Rattle.std.specs.Prelude.{◌≡◌, Bool, true, not, ◌&&◌, List, [], ◌∷◌, filter, map, Option, None, Some}
use Rattle.std.specs.List.{list_all}
use Rattle.wit_model.specs.Bytes.{Bytes}
use Rattle.rust_tree.specs.declared.expr.Expr.{Expr, Expr-F, fold-Expr}
use Rattle.rust_tree.specs.declared.pattern.ArmPattern.{ArmPattern}
use Rattle.rust_tree.specs.declared.pattern.ArmPattern.TheVariants as arm
use Rattle.rust_tree.specs.declared.pattern.Pattern.{Pattern}
use Rattle.rust_tree.specs.declared.pattern.Pattern.TheVariants as pattern
use Rattle.rust_tree.specs.declared.stmt.Arm.{Arm-F}
use Rattle.rust_tree.specs.declared.stmt.Block.{Block, Block-F, out-Block}
use Rattle.rust_tree.specs.declared.stmt.MatchNames.{MatchNames}
use Rattle.rust_tree.specs.declared.stmt.MatchNames.TheVariants as names_of
use Rattle.rust_tree.specs.declared.stmt.Stmt.{Stmt, Stmt-F, fold-Stmt}
use Rattle.wrapper_values.specs.declared.state.Local.{Local}
use Rattle.wrapper_values.specs.declared.state.State.{State}
use Rattle.wrapper_values.specs.Act.{Act, Outcome, Done, Stopped}
use Rattle.wrapper_run.specs.Results.{run_inner}
use Rattle.wrapper_run.specs.Run.{Callee, alone, callee, run_block}
use Rattle.wrapper_values.specs.Setting.{Setting}

-- which names code names

-- a call by a name alone looks for a local of that name, too
abbrev pub is_callee_known : (Bytes → Bool) → Callee → Bool
is_callee_known known (alone name) = known name
is_callee_known known _ = true

abbrev pub are_known : List Bool → Bool
are_known answers = list_all (λ b. b) answers

-- one level of an expression, with the answers for the expressions in it
abbrev pub known_step : (Bytes → Bool) → Expr-F Bool → Bool
known_step known (Expr-F.Local name) = known name
known_step known (Expr-F.Ref name) = known name
known_step known (Expr-F.Cast e to) = e
known_step known (Expr-F.Call path arguments) = is_callee_known known (callee path) && are_known arguments
known_step known (Expr-F.I32FromBool e) = e
known_step known (Expr-F.AsPtr name) = known name
known_step known (Expr-F.Len name) = known name
known_step known (Expr-F.CastMut name) = known name
known_step known (Expr-F.ReturnPointer name) = known name
known_step known (Expr-F.Load e offset ty) = e
known_step known (Expr-F.LoadSmall e offset ty) = e
known_step known (Expr-F.FromRawParts e length) = e && known length
known_step known (Expr-F.IntoBoxedBytes name) = known name
known_step known Expr-F.StaticPointer = true
known_step known (Expr-F.Size size) = true
known_step known (Expr-F.Record path fields) = list_all (λ f. f.1) fields
known_step known (Expr-F.Tuple parts) = are_known parts
known_step known Expr-F.Unit = true
known_step known (Expr-F.Array parts) = are_known parts
known_step known (Expr-F.EnumNumber e) = e
known_step known (Expr-F.FlagsBits name by) = known name
known_step known (Expr-F.FlagsOfWords path repr words) = list_all (λ x. x.1) words
known_step known (Expr-F.I32Const n) = true
known_step known (Expr-F.Zero ty) = true
known_step known (Expr-F.Case path) = true
known_step known (Expr-F.Method e method) = e

abbrev pub is_expr_known : (Bytes → Bool) → Expr → Bool
is_expr_known known = fold-Expr Bool (known_step known)

-- the names that a pattern gives to parts
abbrev pub bound_names : Pattern → List Bytes
bound_names (pattern.Record path fields) = map (λ f. f.1) fields
bound_names (pattern.Tuple names) = names
bound_names (pattern.Array names) = names

-- the names that an arm's pattern gives
abbrev pub arm_names : ArmPattern → List Bytes
arm_names (arm.Case path) = []
arm_names (arm.Payload path name) = name ∷ []
arm_names (arm.LeftOut path) = []
arm_names (arm.Number n) = []
arm_names (arm.Name name) = name ∷ []
arm_names arm.AnyOther = []

-- the names that a match gives to the results of its arm
abbrev pub result_names : MatchNames → List Bytes
result_names names_of.Nothing = []
result_names (names_of.One name) = name ∷ []
result_names (names_of.Parts names) = names

abbrev pub is_tail_known : (Bytes → Bool) → Option Expr → Bool
is_tail_known known None = true
is_tail_known known (Some e) = is_expr_known known e

-- one level of a statement, of an arm and of a block, with the answers for what is in it

abbrev pub known_stmt_step : (Bytes → Bool) → Stmt-F Bool Bool Bool → Bool
known_stmt_step known (Stmt-F.Import d) = true
known_stmt_step known (Stmt-F.Let name e) = is_expr_known known e && known name
known_stmt_step known (Stmt-F.Expr e) = is_expr_known known e
known_stmt_step known (Stmt-F.Area a) = known a.name
known_stmt_step known (Stmt-F.Store address offset ty e) = is_expr_known known e && is_expr_known known address
known_stmt_step known (Stmt-F.StoreSmall address offset ty e) = is_expr_known known e && is_expr_known known address
known_stmt_step known (Stmt-F.LetParts p e) = is_expr_known known e && list_all known (bound_names p)
known_stmt_step known (Stmt-F.Match names e arms) = is_expr_known known e && (are_known arms && list_all known (result_names names))
known_stmt_step known (Stmt-F.AssertLast name n) = known name
known_stmt_step known (Stmt-F.LetSlot name) = known name
known_stmt_step known (Stmt-F.WriteSlot name e) = is_expr_known known e && known name

abbrev pub known_arm_step : (Bytes → Bool) → Arm-F Bool Bool Bool → Bool
known_arm_step known a = list_all known (arm_names a.pattern) && a.body

abbrev pub known_block_step : (Bytes → Bool) → Block-F Bool Bool Bool → Bool
known_block_step known b = are_known b.stmts && is_tail_known known b.tail

abbrev pub is_stmt_known : (Bytes → Bool) → Stmt → Bool
is_stmt_known known = fold-Stmt Bool Bool Bool (known_stmt_step known) (known_arm_step known) (known_block_step known)

-- each name that a block names, or gives to a local, is a known one
abbrev pub is_block_known : (Bytes → Bool) → Block → Bool
is_block_known known b = list_all (is_stmt_known known) (out-Block b).stmts && is_tail_known known (out-Block b).tail

-- the locals of known names, and the others

abbrev pub known_locals : (Bytes → Bool) → List Local → List Local
known_locals known locals = filter (λ l. known l.name) locals

abbrev pub other_locals : (Bytes → Bool) → List Local → List Local
other_locals known locals = filter (λ l. not (known l.name)) locals

-- without the others
abbrev pub narrowed : (Bytes → Bool) → State → State
narrowed known s = record s { locals = known_locals known s.locals }

abbrev pub narrowed_end : {A : Type 0} → (Bytes → Bool) → Outcome A → Outcome A
narrowed_end known (Done a s) = Done a (narrowed known s)
narrowed_end known (Stopped e s) = Stopped e (narrowed known s)

-- the act ends as it does without the others. Where it is done, it leaves these as they are; where it is stopped, a scope may have ended
-- half, and then has no locals
pub record DoneIgnoresOthers {A : Type 0} (known : Bytes → Bool) (act : Act A) : Type 0 where
  pub same : (s : State) → act (narrowed known s) ≡ narrowed_end known (act s)
  pub kept : (s t : State) (a : A) → act s ≡ Done a t → other_locals known t.locals ≡ other_locals known s.locals

abbrev pub IgnoresUnused : Type 0
IgnoresUnused = (w : Setting) (known : Bytes → Bool) (b : Block) → is_block_known known b ≡ true → DoneIgnoresOthers known (run_block w b)

-- a block that is no body
abbrev pub InnerIgnoresUnused : Type 0
InnerIgnoresUnused = (w : Setting) (known : Bytes → Bool) (b : Block) → is_block_known known b ≡ true → DoneIgnoresOthers known (run_inner w b)
