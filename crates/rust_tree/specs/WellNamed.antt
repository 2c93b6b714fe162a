-- Which texts may stand in a tree: as its names, between double quotes, as doc lines, and as the option lines of its preamble.
use Rattle.std.specs.Prelude.{ℕ, Bool, true, false, not, ◌&&◌, ◌||◌, ◌==◌, List, [], ◌∷◌, Option, None, Some, codes, map}
use Rattle.std.specs.List.{list_all, starts_with}
use Rattle.std.specs.Str.{bytes_eq}
use Rattle.wit_model.specs.Bytes.{Bytes}
use Rattle.rust_tree.specs.declared.enum_item.EnumCase.{EnumCase}
use Rattle.rust_tree.specs.declared.enum_item.EnumItem.{EnumItem}
use Rattle.rust_tree.specs.declared.enum_item.ErrorCase.{ErrorCase}
use Rattle.rust_tree.specs.declared.enum_item.ErrorEnum.{ErrorEnum}
use Rattle.rust_tree.specs.declared.export.CallBlock.{CallBlock}
use Rattle.rust_tree.specs.declared.export.CoreParam.{CoreParam}
use Rattle.rust_tree.specs.declared.export.ExportFn.{ExportFn}
use Rattle.rust_tree.specs.declared.export.PostReturnFn.{PostReturnFn}
use Rattle.rust_tree.specs.declared.expr.Expr.{Expr, Expr-F, fold-Expr}
use Rattle.rust_tree.specs.declared.flags_item.FlagsItem.{FlagsItem}
use Rattle.rust_tree.specs.declared.flags_item.FlagsMember.{FlagsMember}
use Rattle.rust_tree.specs.declared.item.FnItem.{FnItem}
use Rattle.rust_tree.specs.declared.item.FnParam.{FnParam}
use Rattle.rust_tree.specs.declared.item.Item.{Item}
use Rattle.rust_tree.specs.declared.item.Item.TheVariants as item
use Rattle.rust_tree.specs.declared.macros.ExportEntry.{ExportEntry}
use Rattle.rust_tree.specs.declared.macros.ModuleMacro.{ModuleMacro}
use Rattle.rust_tree.specs.declared.macros.RootMacro.{RootMacro}
use Rattle.rust_tree.specs.declared.pattern.ArmPattern.{ArmPattern}
use Rattle.rust_tree.specs.declared.pattern.ArmPattern.TheVariants as arm
use Rattle.rust_tree.specs.declared.pattern.Pattern.{Pattern}
use Rattle.rust_tree.specs.declared.pattern.Pattern.TheVariants as pattern
use Rattle.rust_tree.specs.declared.stmt.Arm.{Arm, Arm-F, fold-Arm}
use Rattle.rust_tree.specs.declared.stmt.Block.{Block, Block-F, fold-Block}
use Rattle.rust_tree.specs.declared.stmt.ImportDecl.{ImportDecl}
use Rattle.rust_tree.specs.declared.stmt.MatchNames.{MatchNames}
use Rattle.rust_tree.specs.declared.stmt.MatchNames.TheVariants as names
use Rattle.rust_tree.specs.declared.stmt.Stmt.{Stmt, Stmt-F, fold-Stmt}
use Rattle.rust_tree.specs.declared.trait_item.TraitFn.{TraitFn}
use Rattle.rust_tree.specs.declared.trait_item.TraitItem.{TraitItem}
use Rattle.rust_tree.specs.declared.path.Path.{Path}
use Rattle.rust_tree.specs.declared.type_expr.TypeExpr.{TypeExpr, TypeExpr-F, fold-TypeExpr}
use Rattle.rust_tree.specs.declared.type_item.AliasItem.{AliasItem}
use Rattle.rust_tree.specs.declared.type_item.StructField.{StructField}
use Rattle.rust_tree.specs.declared.type_item.StructItem.{StructItem}
use Rattle.rust_tree.specs.declared.type_item.TypeItem.{TypeItem}
use Rattle.rust_tree.specs.declared.type_item.TypeItem.TheVariants.{Struct, Alias, Enum, Flags, Variant}
use Rattle.rust_tree.specs.declared.variant_item.VariantCase.{VariantCase}
use Rattle.rust_tree.specs.declared.variant_item.VariantItem.{VariantItem}
use Rattle.rust_tree.specs.Ident.{is_ident, is_primitive_name, may_follow}

-- texts

-- no line feed
abbrev pub is_line : Bytes → Bool
is_line t = list_all (λ c. not (c == 10)) t

-- no `"`, no `\` and no line feed
abbrev pub is_quotable : Bytes → Bool
is_quotable t = list_all (λ c. not ((c == 34) || (c == 92) || (c == 10))) t

-- a comment of one line
abbrev pub is_option_line : Bytes → Bool
is_option_line t = starts_with (λ a b. a == b) t (codes "//   * ") && is_line t

-- what stands in an identifier behind its beginning, as `B` in `_export_B_cabi`: letters, digits and `_`
abbrev pub is_ident_part : Bytes → Bool
is_ident_part t = list_all may_follow t

-- a name first that is an identifier, `crate` or `self`, and then identifiers
abbrev pub are_path_names : List Bytes → Bool
are_path_names [] = false
are_path_names (first ∷ names) = (is_ident first || bytes_eq first (codes "crate") || bytes_eq first (codes "self")) && list_all is_ident names

-- what is not there breaks no rule
abbrev pub is_absent_or : {A : Type 0} → (A → Bool) → Option A → Bool
is_absent_or p None = true
is_absent_or p (Some x) = p x

-- types

abbrev pub is_nonempty : {A : Type 0} → List A → Bool
is_nonempty [] = false
is_nonempty (_ ∷ _) = true

-- the names of a path that, alone, is printed as another form of a type
abbrev pub is_other_form : List Bytes → Bool
is_other_form (name ∷ []) = is_primitive_name name
is_other_form (first ∷ name ∷ []) = bytes_eq first (codes "_rt") && bytes_eq name (codes "String")
is_other_form _ = false

abbrev pub is_type_path : Path → Bool
is_type_path p = are_path_names p.names && (p.lead || not (p.supers == 0) || not (is_other_form p.names))

-- one level of a type, with the answers for the types in it
abbrev pub named_type_step : TypeExpr-F Bool → Bool
named_type_step (TypeExpr-F.Primitive p) = true
named_type_step TypeExpr-F.Unit = true
named_type_step TypeExpr-F.Str = true
named_type_step TypeExpr-F.String = true
named_type_step (TypeExpr-F.Ref ty) = ty
named_type_step (TypeExpr-F.Path path) = is_type_path path
named_type_step (TypeExpr-F.Tuple parts) = is_nonempty parts && list_all (λ part. part) parts
named_type_step (TypeExpr-F.Optional ty) = ty
named_type_step (TypeExpr-F.Array ty n) = ty
named_type_step (TypeExpr-F.Result ok err) = ok && err

abbrev pub is_named_type : TypeExpr → Bool
is_named_type = fold-TypeExpr Bool named_type_step

-- expressions and statements

-- fields, with the answers for what stands behind them
abbrev pub are_fields : List (Bytes × Bool) → Bool
are_fields fields = list_all (λ f. is_ident f.0 && f.1) fields

-- words of flags, of which there is one at least, with the answers for the expressions that they are
abbrev pub are_words : List (ℕ × Bool) → Bool
are_words words = is_nonempty words && list_all (λ w. w.1) words

-- two names at least
abbrev pub has_two : List Bytes → Bool
has_two (_ ∷ _ ∷ _) = true
has_two _ = false

-- a type's path, and the name of a case behind it; so it is no local
abbrev pub is_case_path : Path → Bool
is_case_path p = are_path_names p.names && has_two p.names

-- one level of an expression, with the answers for the expressions in it
abbrev pub named_step : Expr-F Bool → Bool
named_step (Expr-F.Local name) = is_ident name
named_step (Expr-F.Ref name) = is_ident name
named_step (Expr-F.Cast e to) = e
named_step (Expr-F.Call path arguments) = are_path_names path.names && list_all (λ e. e) arguments
named_step (Expr-F.I32FromBool e) = e
named_step (Expr-F.AsPtr name) = is_ident name
named_step (Expr-F.Len name) = is_ident name
named_step (Expr-F.CastMut name) = is_ident name
named_step (Expr-F.ReturnPointer name) = is_ident name
named_step (Expr-F.Load address offset ty) = address
named_step (Expr-F.LoadSmall address offset ty) = address
named_step (Expr-F.FromRawParts pointer len) = pointer && is_ident len
named_step (Expr-F.IntoBoxedBytes name) = is_ident name
named_step Expr-F.StaticPointer = true
named_step (Expr-F.Size size) = true
named_step (Expr-F.Record path fields) = are_path_names path.names && are_fields fields
named_step (Expr-F.Tuple parts) = list_all (λ e. e) parts
named_step Expr-F.Unit = true
named_step (Expr-F.Array parts) = list_all (λ e. e) parts
named_step (Expr-F.EnumNumber e) = e
named_step (Expr-F.FlagsBits name n) = is_ident name
named_step (Expr-F.FlagsOfWords path repr words) = are_path_names path.names && are_words words
named_step (Expr-F.I32Const n) = true
named_step (Expr-F.Zero ty) = true
named_step (Expr-F.Case path) = is_case_path path
named_step (Expr-F.Method e method) = e

abbrev pub is_named_expr : Expr → Bool
is_named_expr = fold-Expr Bool named_step

abbrev pub is_named_import : ImportDecl → Bool
is_named_import d = is_quotable d.module && is_quotable d.link_name && is_ident d.name

abbrev pub is_named_pattern : Pattern → Bool
is_named_pattern (pattern.Record path fields) = are_path_names path.names && are_fields (map (λ f. (f.0, is_ident f.1)) fields)
is_named_pattern (pattern.Tuple names) = list_all is_ident names
is_named_pattern (pattern.Array names) = list_all is_ident names

abbrev pub is_named_arm_pattern : ArmPattern → Bool
is_named_arm_pattern (arm.Case path) = is_case_path path
is_named_arm_pattern (arm.Payload path name) = is_case_path path && is_ident name
is_named_arm_pattern (arm.LeftOut path) = is_case_path path
is_named_arm_pattern (arm.Number n) = true
is_named_arm_pattern (arm.Name name) = is_ident name
is_named_arm_pattern arm.AnyOther = true

abbrev pub are_match_names : MatchNames → Bool
are_match_names names.Nothing = true
are_match_names (names.One name) = is_ident name
are_match_names (names.Parts parts) = list_all is_ident parts

-- one level of a statement, with the answers for the arms in it
abbrev pub named_stmt_step : Stmt-F Bool Bool Bool → Bool
named_stmt_step (Stmt-F.Import d) = is_named_import d
named_stmt_step (Stmt-F.Let name e) = is_ident name && is_named_expr e
named_stmt_step (Stmt-F.Expr e) = is_named_expr e
named_stmt_step (Stmt-F.Area a) = is_ident a.name
named_stmt_step (Stmt-F.Store address offset ty e) = is_named_expr address && is_named_expr e
named_stmt_step (Stmt-F.StoreSmall address offset ty e) = is_named_expr address && is_named_expr e
named_stmt_step (Stmt-F.LetParts p e) = is_named_pattern p && is_named_expr e
named_stmt_step (Stmt-F.Match bound e arms) = are_match_names bound && is_named_expr e && list_all (λ a. a) arms
named_stmt_step (Stmt-F.AssertLast name n) = is_ident name
named_stmt_step (Stmt-F.LetSlot name) = is_ident name
named_stmt_step (Stmt-F.WriteSlot name e) = is_ident name && is_named_expr e

-- one level of an arm, with the answer for its block
abbrev pub named_arm_step : Arm-F Bool Bool Bool → Bool
named_arm_step a = is_named_arm_pattern a.pattern && a.body

-- one level of a block, with the answers for its statements
abbrev pub named_block_step : Block-F Bool Bool Bool → Bool
named_block_step b = list_all (λ s. s) b.stmts && is_absent_or is_named_expr b.tail

abbrev pub is_named_stmt : Stmt → Bool
is_named_stmt = fold-Stmt Bool Bool Bool named_stmt_step named_arm_step named_block_step

abbrev pub is_named_arm : Arm → Bool
is_named_arm = fold-Arm Bool Bool Bool named_stmt_step named_arm_step named_block_step

abbrev pub is_named_block : Block → Bool
is_named_block = fold-Block Bool Bool Bool named_stmt_step named_arm_step named_block_step

-- functions and traits

abbrev pub is_named_param : FnParam → Bool
is_named_param p = is_ident p.name && is_named_type p.ty

abbrev pub is_named_fn : FnItem → Bool
is_named_fn f = list_all is_line f.docs && is_ident f.name && list_all is_named_param f.params && is_named_type f.result && is_named_block f.body

abbrev pub is_named_method : TraitFn → Bool
is_named_method f = list_all is_line f.docs && is_ident f.name && list_all is_named_param f.params && is_named_type f.result

abbrev pub is_named_trait : TraitItem → Bool
is_named_trait t = is_ident t.name && list_all is_named_method t.functions

-- definitions

abbrev pub is_named_field : StructField → Bool
is_named_field f = list_all is_line f.docs && is_ident f.name && is_quotable f.wit && is_named_type f.ty

abbrev pub is_named_struct : StructItem → Bool
is_named_struct s = list_all is_line s.docs && list_all (λ path. are_path_names path.names) s.derives && is_ident s.name && list_all is_named_field s.fields

abbrev pub is_named_alias : AliasItem → Bool
is_named_alias a = list_all is_line a.docs && is_ident a.name && is_named_type a.ty

abbrev pub is_named_case : EnumCase → Bool
is_named_case c = list_all is_line c.docs && is_ident c.name

-- a message may be any text, since it is escaped
abbrev pub is_named_error_case : ErrorCase → Bool
is_named_error_case c = is_ident c.name && is_quotable c.wit

abbrev pub is_named_error : ErrorEnum → Bool
is_named_error e = list_all is_named_error_case e.cases

abbrev pub is_named_enum : EnumItem → Bool
is_named_enum e =
    list_all is_line e.docs && list_all (λ path. are_path_names path.names) e.derives && is_ident e.name && list_all is_named_case e.cases && is_absent_or is_named_error e.error

abbrev pub is_named_member : FlagsMember → Bool
is_named_member m = list_all is_line m.docs && is_ident m.name

abbrev pub is_named_flags : FlagsItem → Bool
is_named_flags f = are_path_names f.bitflags.names && list_all is_line f.docs && is_ident f.name && list_all is_named_member f.members

abbrev pub is_named_variant_case : VariantCase → Bool
is_named_variant_case c = list_all is_line c.docs && is_ident c.name && is_absent_or is_named_type c.ty

abbrev pub is_named_variant : VariantItem → Bool
is_named_variant v = list_all is_line v.docs && list_all (λ path. are_path_names path.names) v.derives && is_ident v.name && list_all is_named_variant_case v.cases

abbrev pub is_named_type_item : TypeItem → Bool
is_named_type_item (Struct s) = is_named_struct s
is_named_type_item (Alias a) = is_named_alias a
is_named_type_item (Enum e) = is_named_enum e
is_named_type_item (Flags f) = is_named_flags f
is_named_type_item (Variant v) = is_named_variant v

-- what is exported

abbrev pub are_named_core_params : List CoreParam → Bool
are_named_core_params params = list_all (λ p. is_ident p.name) params

abbrev pub is_named_call : CallBlock → Bool
is_named_call c = is_absent_or is_ident c.result && list_all is_named_stmt c.stmts && is_ident c.method && list_all is_named_expr c.arguments

abbrev pub is_named_export : ExportFn → Bool
is_named_export f = is_ident_part f.base && is_ident f.bound && are_named_core_params f.params && is_named_call f.call && is_named_block f.rest

abbrev pub is_named_post_return : PostReturnFn → Bool
is_named_post_return f = is_ident_part f.base && is_ident f.bound && are_named_core_params f.params && is_named_block f.body

abbrev pub is_named_entry : ExportEntry → Bool
is_named_entry e = is_quotable e.export_name && is_ident_part e.base && are_named_core_params e.params

abbrev pub is_named_module_macro : ModuleMacro → Bool
is_named_module_macro m = is_ident_part m.name && list_all is_named_entry m.entries

abbrev pub is_named_root_macro : RootMacro → Bool
is_named_root_macro m = is_ident_part m.world && list_all is_ident_part m.modules

-- the whole

abbrev pub is_named_item : Item → Bool
is_named_item (item.Import f) = is_named_fn f
is_named_item (item.Export f) = is_named_export f
is_named_item (item.Trait t) = is_named_trait t
is_named_item (item.ModuleMacro m) = is_named_module_macro m
is_named_item (item.Runtime items) = true
is_named_item (item.RootMacro m) = is_named_root_macro m
is_named_item (item.PostReturn f) = is_named_post_return f
is_named_item (item.Area a) = true
is_named_item (item.Type t) = is_named_type_item t

-- of a tree with these option lines and items
abbrev pub are_well_named : List Bytes → List Item → Bool
are_well_named options items = list_all is_option_line options && list_all is_named_item items
