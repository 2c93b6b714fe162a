-- Trees for the rows: paths, wrappers, and what a file of few items is.
use Rattle.std.proofs.Common.{◌≡◌, Bool, true, List, [], ◌∷◌, ◌++◌, length, None}
use Rattle.std.specs.List.{flat_map}
use Rattle.std.specs.Prelude.{codes, false}
use Rattle.wit_model.specs.Bytes.{Bytes}
use Rattle.rust_tree.specs.declared.expr.Expr.{the_lemmas as expr_lemmas}
use Rattle.rust_tree.specs.declared.item.Item.{Item}
use Rattle.rust_tree.specs.declared.item.Item.TheVariants as item
use Rattle.rust_tree.specs.declared.path.Path.{Path}
use Rattle.rust_tree.specs.declared.place.FuncPlace.{FuncPlace}
use Rattle.rust_tree.specs.declared.stmt.Block.{Block, roll-Block}
use Rattle.rust_tree.specs.declared.stmt.Stmt.{Stmt, the_lemmas as stmt_lemmas}
use Rattle.rust_tree.specs.declared.type_expr.TypeExpr.{the_lemmas as type_lemmas}
use Rattle.rust_tree.specs.declared.type_expr.TypeExpr.TheVariants as type
use Rattle.rust_tree.specs.Text.{text}
use Rattle.rust_tree.specs.Tree.{wrapper_count}
use Rattle.rust_tree.specs.WellNamed.{are_well_named}

-- what a fold gives at an expression, a statement and a type
pub ruleset folds = (expr_lemmas, stmt_lemmas, type_lemmas)

-- a path of names alone
abbrev pub path : List Bytes → Path
path names = record { lead = false; supers = 0; names = names }

-- statements, with no value behind them
abbrev pub block : List Stmt → Block
block stmts = roll-Block (record { stmts = stmts; tail = None })

-- an import's wrapper of this name without parameters and a result, whose body is these statements
abbrev pub import : (name : Bytes) (docs : List Bytes) → List Stmt → Item
import name docs stmts = item.Import (record { docs = docs; name = name; params = []; result = type.Unit; body = block stmts })

-- such a wrapper of one statement
abbrev pub wrapper : Stmt → Item
wrapper one = import (codes "f") [] (one ∷ [])

-- whether an item may stand in a tree
abbrev pub may_stand : Item → Bool
may_stand one = are_well_named [] (one ∷ [])

-- the text of these lines
abbrev pub lines : List Bytes → Bytes
lines texts = flat_map (λ t. t ++ codes "\n") texts

-- a file may have these items, whose wrappers wrap the functions at these places, and its text is these lines
pub record Prints (items : List Item) (places : List FuncPlace) (texts : List Bytes) : Type 0 where
  pub placed : length places ≡ wrapper_count items
  pub named : are_well_named [] items ≡ true
  pub printed : text (record { options = []; items = items; places = places }) ≡ lines texts
