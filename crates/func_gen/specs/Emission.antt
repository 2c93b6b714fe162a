-- What is emitted for a step, with the number of its locals.
use Rattle.std.specs.Prelude.{◌≡◌, ℕ, List, [], ◌∷◌, ◌++◌, map}
use Rattle.wit_model.specs.Bytes.{Bytes}
use Rattle.rust_tree.specs.declared.expr.Expr.{Expr}
use Rattle.rust_tree.specs.declared.expr.Expr.TheVariants as expr
use Rattle.rust_tree.specs.declared.runtime_item.RuntimeItem.{RuntimeItem}
use Rattle.rust_tree.specs.declared.stmt.Stmt.{Stmt}
use Rattle.rust_tree.specs.declared.stmt.Stmt.TheVariants as stmt
use Rattle.func_gen.specs.declared.function_bindgen.FunctionBindgen.{FunctionBindgen}
use Rattle.func_gen.specs.declared.operand.ExprOperand.{ExprOperand}
use Rattle.func_gen.specs.Forms.{runtime_call}
use Rattle.func_gen.specs.PartForms.{exprs_of}
use Rattle.func_gen.specs.Scope.{Takes, with_number}

-- the names that are declared, the statements, the expressions that are the results, and the items of `_rt` that these name
pub record Emission : Type 0 where
  pub names : List Bytes
  pub stmts : List Stmt
  pub results : List Expr
  pub items : List RuntimeItem

-- an expression alone
abbrev pub alone : Expr → Emission
alone e = record { names = []; stmts = []; results = e ∷ []; items = [] }

-- the call of a function of `_rt`
abbrev pub converted : RuntimeItem → Expr → Emission
converted f e = record { names = []; stmts = []; results = runtime_call f e ∷ []; items = f ∷ [] }

-- a local of a prefix and the number, which has this value
abbrev pub one_local : Bytes → Expr → List RuntimeItem → ℕ → Emission
one_local prefix e items t = record { names = with_number prefix t ∷ []; stmts = stmt.Let (with_number prefix t) e ∷ []; results = expr.Local (with_number prefix t) ∷ []; items = items }

-- locals of these names, which statements bind
abbrev pub all_locals : List Bytes → List Stmt → Emission
all_locals names stmts = record { names = names; stmts = stmts; results = map (λ n. expr.Local n) names; items = [] }

-- a statement that binds no name
abbrev pub effect : Stmt → List RuntimeItem → Emission
effect s items = record { names = []; stmts = s ∷ []; results = []; items = items }

abbrev pub nothing : Emission
nothing = record { names = []; stmts = []; results = []; items = [] }

-- this was emitted, where the number is the least that the names can have
pub record Writes (code : ℕ → Emission) (rs : List ExprOperand) (old new : FunctionBindgen) : Type 0 where
  pub number : ℕ
  pub takes : Takes old.scope (λ k. (code k).names) number new.scope
  pub call : new.code.call ≡ old.code.call
  pub stmts : new.code.stmts ≡ old.code.stmts ++ (code number).stmts
  pub runtime : new.runtime ≡ old.runtime ++ (code number).items
  pub results : exprs_of rs ≡ (code number).results
  pub opened : new.opened ≡ old.opened
  pub finished : new.finished ≡ old.finished
