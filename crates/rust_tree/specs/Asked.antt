-- Which items of `_rt` the items of a file name, in the order of the text.
use Rattle.std.specs.Prelude.{ℕ, zero, Bool, false, List, [], ◌∷◌, ◌++◌, Option, None, Some, codes, if◌then◌else◌}
use Rattle.std.specs.List.{flat_map}
use Rattle.std.specs.Str.{bytes_eq}
use Rattle.wit_model.specs.Bytes.{Bytes}
use Rattle.rust_tree.specs.declared.export.CallBlock.{CallBlock}
use Rattle.rust_tree.specs.declared.export.ExportFn.{ExportFn}
use Rattle.rust_tree.specs.declared.expr.Expr.{Expr, Expr-F, fold-Expr}
use Rattle.rust_tree.specs.declared.item.FnItem.{FnItem}
use Rattle.rust_tree.specs.declared.item.FnParam.{FnParam}
use Rattle.rust_tree.specs.declared.item.Item.{Item}
use Rattle.rust_tree.specs.declared.item.Item.TheVariants as item
use Rattle.rust_tree.specs.declared.path.Path.{Path}
use Rattle.rust_tree.specs.declared.pattern.ArmPattern.{ArmPattern}
use Rattle.rust_tree.specs.declared.pattern.ArmPattern.TheVariants as arm
use Rattle.rust_tree.specs.declared.pattern.Pattern.{Pattern}
use Rattle.rust_tree.specs.declared.pattern.Pattern.TheVariants as pattern
use Rattle.rust_tree.specs.declared.runtime_item.RuntimeItem.{RuntimeItem}
use Rattle.rust_tree.specs.declared.runtime_item.RuntimeItem.TheVariants.{StringType, VecType}
use Rattle.rust_tree.specs.declared.stmt.Arm.{Arm, Arm-F, fold-Arm}
use Rattle.rust_tree.specs.declared.stmt.Block.{Block, Block-F, fold-Block}
use Rattle.rust_tree.specs.declared.stmt.Stmt.{Stmt, Stmt-F, fold-Stmt}
use Rattle.rust_tree.specs.declared.trait_item.TraitFn.{TraitFn}
use Rattle.rust_tree.specs.declared.type_expr.TypeExpr.{TypeExpr, TypeExpr-F, fold-TypeExpr}
use Rattle.rust_tree.specs.declared.type_item.TypeItem.{TypeItem}
use Rattle.rust_tree.specs.declared.type_item.TypeItem.TheVariants as type_item
use Rattle.rust_tree.specs.Runtime.{item_of_name}

-- paths

-- the item of a name, or nothing
abbrev pub asked_of : Option RuntimeItem → List RuntimeItem
asked_of None = []
asked_of (Some i) = i ∷ []

-- `_rt::name`, and what may stand behind it
abbrev pub asked_from : Bool → ℕ → List Bytes → List RuntimeItem
asked_from false zero (first ∷ name ∷ _) = if bytes_eq first (codes "_rt") then asked_of (item_of_name name) else []
asked_from _ _ _ = []

unfoldable pub asked_by_path : Path → List RuntimeItem
asked_by_path path = asked_from path.lead path.supers path.names

-- types

-- one level of a type, with what the types in it name
abbrev pub asked_type_step : TypeExpr-F (List RuntimeItem) → List RuntimeItem
asked_type_step (TypeExpr-F.Primitive p) = []
asked_type_step TypeExpr-F.Unit = []
asked_type_step TypeExpr-F.Str = []
asked_type_step TypeExpr-F.String = StringType ∷ []
asked_type_step (TypeExpr-F.Ref ty) = ty
asked_type_step (TypeExpr-F.Path path) = asked_by_path path
asked_type_step (TypeExpr-F.Tuple parts) = flat_map (λ part. part) parts
asked_type_step (TypeExpr-F.Optional ty) = ty
asked_type_step (TypeExpr-F.Array ty n) = ty
asked_type_step (TypeExpr-F.Result ok err) = ok ++ err

abbrev pub asked_by_type : TypeExpr → List RuntimeItem
asked_by_type = fold-TypeExpr (List RuntimeItem) asked_type_step

-- expressions, statements, blocks

-- one level of an expression, with what the expressions in it name; bytes that are taken over are an `_rt::Vec`
abbrev pub asked_step : Expr-F (List RuntimeItem) → List RuntimeItem
asked_step (Expr-F.Local name) = []
asked_step (Expr-F.Ref name) = []
asked_step (Expr-F.Cast e to) = e
asked_step (Expr-F.Call path arguments) = asked_by_path path ++ flat_map (λ e. e) arguments
asked_step (Expr-F.I32FromBool e) = e
asked_step (Expr-F.AsPtr name) = []
asked_step (Expr-F.Len name) = []
asked_step (Expr-F.CastMut name) = []
asked_step (Expr-F.ReturnPointer name) = []
asked_step (Expr-F.Load address offset ty) = address
asked_step (Expr-F.LoadSmall address offset ty) = address
asked_step (Expr-F.FromRawParts pointer len) = VecType ∷ pointer
asked_step (Expr-F.IntoBoxedBytes name) = []
asked_step Expr-F.StaticPointer = []
asked_step (Expr-F.Size size) = []
asked_step (Expr-F.Record path fields) = asked_by_path path ++ flat_map (λ f. f.1) fields
asked_step (Expr-F.Tuple parts) = flat_map (λ e. e) parts
asked_step Expr-F.Unit = []
asked_step (Expr-F.Array parts) = flat_map (λ e. e) parts
asked_step (Expr-F.EnumNumber e) = e
asked_step (Expr-F.FlagsBits name n) = []
asked_step (Expr-F.FlagsOfWords path repr words) = asked_by_path path ++ flat_map (λ w. asked_by_path path ++ w.1) words
asked_step (Expr-F.I32Const n) = []
asked_step (Expr-F.Zero ty) = []
asked_step (Expr-F.Case path) = asked_by_path path
asked_step (Expr-F.Method e method) = e

abbrev pub asked_by_expr : Expr → List RuntimeItem
asked_by_expr = fold-Expr (List RuntimeItem) asked_step

abbrev pub asked_by_pattern : Pattern → List RuntimeItem
asked_by_pattern (pattern.Record path fields) = asked_by_path path
asked_by_pattern (pattern.Tuple names) = []
asked_by_pattern (pattern.Array names) = []

abbrev pub asked_by_arm_pattern : ArmPattern → List RuntimeItem
asked_by_arm_pattern (arm.Case path) = asked_by_path path
asked_by_arm_pattern (arm.Payload path name) = asked_by_path path
asked_by_arm_pattern (arm.LeftOut path) = asked_by_path path
asked_by_arm_pattern (arm.Number n) = []
asked_by_arm_pattern (arm.Name name) = []
asked_by_arm_pattern arm.AnyOther = []

abbrev pub asked_by_tail : Option Expr → List RuntimeItem
asked_by_tail None = []
asked_by_tail (Some e) = asked_by_expr e

-- one level of a statement, with what the arms in it name
abbrev pub asked_stmt_step : Stmt-F (List RuntimeItem) (List RuntimeItem) (List RuntimeItem) → List RuntimeItem
asked_stmt_step (Stmt-F.Import d) = []
asked_stmt_step (Stmt-F.Let name e) = asked_by_expr e
asked_stmt_step (Stmt-F.Expr e) = asked_by_expr e
asked_stmt_step (Stmt-F.Area a) = []
asked_stmt_step (Stmt-F.Store address offset ty e) = asked_by_expr address ++ asked_by_expr e
asked_stmt_step (Stmt-F.StoreSmall address offset ty e) = asked_by_expr address ++ asked_by_expr e
asked_stmt_step (Stmt-F.LetParts p e) = asked_by_pattern p ++ asked_by_expr e
asked_stmt_step (Stmt-F.Match bound e arms) = asked_by_expr e ++ flat_map (λ a. a) arms
asked_stmt_step (Stmt-F.AssertLast name n) = []
asked_stmt_step (Stmt-F.LetSlot name) = []
asked_stmt_step (Stmt-F.WriteSlot name e) = asked_by_expr e

-- one level of an arm, with what its block names
abbrev pub asked_arm_step : Arm-F (List RuntimeItem) (List RuntimeItem) (List RuntimeItem) → List RuntimeItem
asked_arm_step a = asked_by_arm_pattern a.pattern ++ a.body

-- one level of a block, with what its statements name
abbrev pub asked_block_step : Block-F (List RuntimeItem) (List RuntimeItem) (List RuntimeItem) → List RuntimeItem
asked_block_step b = flat_map (λ s. s) b.stmts ++ asked_by_tail b.tail

abbrev pub asked_by_stmt : Stmt → List RuntimeItem
asked_by_stmt = fold-Stmt (List RuntimeItem) (List RuntimeItem) (List RuntimeItem) asked_stmt_step asked_arm_step asked_block_step

abbrev pub asked_by_arm : Arm → List RuntimeItem
asked_by_arm = fold-Arm (List RuntimeItem) (List RuntimeItem) (List RuntimeItem) asked_stmt_step asked_arm_step asked_block_step

abbrev pub asked_by_block : Block → List RuntimeItem
asked_by_block = fold-Block (List RuntimeItem) (List RuntimeItem) (List RuntimeItem) asked_stmt_step asked_arm_step asked_block_step

-- items

-- parameters, and then the result
abbrev pub asked_by_signature : List FnParam → TypeExpr → List RuntimeItem
asked_by_signature params ty = flat_map (λ p. asked_by_type p.ty) params ++ asked_by_type ty

abbrev pub asked_by_fn : FnItem → List RuntimeItem
asked_by_fn f = asked_by_signature f.params f.result ++ asked_by_block f.body

abbrev pub asked_by_call : CallBlock → List RuntimeItem
asked_by_call c = flat_map asked_by_stmt c.stmts ++ flat_map asked_by_expr c.arguments

-- a core signature names nothing
abbrev pub asked_by_export : ExportFn → List RuntimeItem
asked_by_export f = asked_by_call f.call ++ asked_by_block f.rest

abbrev pub asked_by_method : TraitFn → List RuntimeItem
asked_by_method f = asked_by_signature f.params f.result

-- by the payload of a case, if there is one
abbrev pub asked_by_payload : Option TypeExpr → List RuntimeItem
asked_by_payload None = []
asked_by_payload (Some ty) = asked_by_type ty

abbrev pub asked_by_definition : TypeItem → List RuntimeItem
asked_by_definition (type_item.Struct s) = flat_map asked_by_path s.derives ++ flat_map (λ f. asked_by_type f.ty) s.fields
asked_by_definition (type_item.Alias a) = asked_by_type a.ty
asked_by_definition (type_item.Enum e) = flat_map asked_by_path e.derives
asked_by_definition (type_item.Flags f) = asked_by_path f.bitflags
asked_by_definition (type_item.Variant v) = flat_map asked_by_path v.derives ++ flat_map (λ c. asked_by_payload c.ty) v.cases

-- what stands in `_rt` is needed by what stands there, and not asked for
abbrev pub asked_by_item : Item → List RuntimeItem
asked_by_item (item.Import f) = asked_by_fn f
asked_by_item (item.Export f) = asked_by_export f
asked_by_item (item.Trait t) = flat_map asked_by_method t.functions
asked_by_item (item.ModuleMacro m) = []
asked_by_item (item.Runtime items) = []
asked_by_item (item.RootMacro m) = []
asked_by_item (item.PostReturn f) = asked_by_block f.body
asked_by_item (item.Area a) = []
asked_by_item (item.Type t) = asked_by_definition t

-- of the items of a file
abbrev pub asked_in : List Item → List RuntimeItem
asked_in items = flat_map asked_by_item items
