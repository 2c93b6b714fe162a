-- Statements that declare no area, or no core import, and none in the arms of a match; and those that declare one core import alone.
use Rattle.std.specs.Prelude.{◌≡◌, Bool, true, false, not, List, [], ◌∷◌, option_to_list}
use Rattle.std.specs.List.{flat_map, list_all}
use Rattle.wit_model.specs.Bytes.{Bytes}
use Rattle.wit_model.specs.declared.function.Function.{Function}
use Rattle.wit_model.specs.declared.types.TypeDef.{TypeDef}
use Rattle.rust_tree.specs.declared.stmt.Arm.{Arm, Arm-F, fold-Arm}
use Rattle.rust_tree.specs.declared.stmt.Block.{Block, Block-F, fold-Block}
use Rattle.rust_tree.specs.declared.stmt.ImportDecl.{ImportDecl}
use Rattle.rust_tree.specs.declared.stmt.Stmt.{Stmt, Stmt-F, fold-Stmt, out-Stmt}
use Rattle.rust_tree.specs.declared.stmt.Stmt.TheVariants as stmt
use Rattle.abi_bindgen.specs.Calls.{import_params, import_results}

-- what a statement may declare: a return area, or a core import
pub data Declaration : Type 0 where
  Area : Declaration
  Import : Declaration

abbrev pub is_area : Declaration → Bool
is_area Area = true
is_area Import = false

-- one level, with the answers for the statements, the arms and the blocks in it

abbrev pub without_step : Declaration → Stmt-F Bool Bool Bool → Bool
without_step what (Stmt-F.Area a) = not (is_area what)
without_step what (Stmt-F.Import d) = is_area what
without_step what (Stmt-F.Match names e arms) = list_all (λ b. b) arms
without_step what _ = true

abbrev pub arm_without_step : Arm-F Bool Bool Bool → Bool
arm_without_step a = a.body

abbrev pub block_without_step : Block-F Bool Bool Bool → Bool
block_without_step b = list_all (λ b. b) b.stmts

abbrev pub is_without : Declaration → Stmt → Bool
is_without what = fold-Stmt Bool Bool Bool (without_step what) arm_without_step block_without_step

abbrev pub is_arm_without : Declaration → Arm → Bool
is_arm_without what = fold-Arm Bool Bool Bool (without_step what) arm_without_step block_without_step

abbrev pub is_block_without : Declaration → Block → Bool
is_block_without what = fold-Block Bool Bool Bool (without_step what) arm_without_step block_without_step

abbrev pub declare_none : Declaration → List Stmt → Bool
declare_none what stmts = list_all (is_without what) stmts

-- in arms alone

abbrev pub has_arms_without_in : Declaration → Stmt-F Stmt Arm Block → Bool
has_arms_without_in what (Stmt-F.Match names e arms) = list_all (is_arm_without what) arms
has_arms_without_in what _ = true

abbrev pub has_arms_without : Declaration → Stmt → Bool
has_arms_without what s = has_arms_without_in what (out-Stmt s)

abbrev pub arms_declare_none : Declaration → List Stmt → Bool
arms_declare_none what stmts = list_all (has_arms_without what) stmts

-- one core import

-- that which a statement declares, if it declares one
abbrev pub declared_by : Stmt → List ImportDecl
declared_by (stmt.Import decl) = decl ∷ []
declared_by _ = []

abbrev pub declared : List Stmt → List ImportDecl
declared stmts = flat_map declared_by stmts

-- a declaration of the core import of a function, which is of this module
pub record IsImportOf (types : List TypeDef) (home : Bytes) (f : Function) (decl : ImportDecl) : Type 0 where
  pub of_home : decl.«module» ≡ home
  pub of_name : decl.link_name ≡ f.name.wit
  pub params : decl.params ≡ import_params types f
  pub answer : option_to_list decl.result ≡ import_results types f

-- exactly one core import is declared, which is that of the function, and none in the arms of a match
abbrev pub DeclaresOne : List TypeDef → Bytes → Function → List Stmt → Type 0
DeclaresOne types home f stmts = (decl : ImportDecl) × (declared stmts ≡ decl ∷ []) × IsImportOf types home f decl × (arms_declare_none Import stmts ≡ true)
