-- How parameters of some types are printed: texts, records and tuples of them, and numbers.
use Rattle.std.proofs.Common.{◌≡◌, ℕ, List, [], ◌∷◌, Option, None, Some, refl}
use Rattle.std.specs.Prelude.{codes}
use Rattle.wit_model.specs.Bytes.{Bytes}
use Rattle.wit_model.specs.declared.types.Field.{Field}
use Rattle.wit_model.specs.declared.types.TypeDef.{TypeDef}
use Rattle.wit_model.specs.declared.types.TypeDefKind.{TypeDefKind}
use Rattle.wit_model.specs.declared.types.TypeDefKind.TheVariants as kind
use Rattle.wit_model.specs.declared.types.TypeOwner.TheVariants as owner
use Rattle.wit_model.specs.declared.types.WitType.{WitType}
use Rattle.wit_model.specs.declared.types.WitType.TheVariants as wit
use Rattle.wit_model.specs.declared.name.Name.{Name}
use Rattle.wit_model.specs.Dealias.{dealias}
use Rattle.wit_model.specs.Parts.{parts}
use Rattle.rust_tree.specs.declared.type_expr.Primitive.TheVariants as prim
use Rattle.rust_tree.specs.declared.type_expr.TypeExpr.{TypeExpr}
use Rattle.rust_tree.specs.declared.type_expr.TypeExpr.TheVariants as type
use Rattle.type_defs.specs.Finds.{finds}
use Rattle.type_defs.specs.ParamType.{lent_type, param_type}
use Rattle.type_defs.specs.PartType.{part_type}
use Rattle.type_defs.specs.Paths.{local_path}

-- the table

abbrev same : Bytes → Name
same t = record { wit = t; snake = t; camel = t; upper = t }

abbrev entry : Option Name → TypeDefKind → TypeDef
entry name kind = record { name = name; owner = owner.None; kind = kind; docs = record { contents = None } }

abbrev field : Bytes → WitType → Field
field name ty = record { name = same name; ty = ty; docs = record { contents = None } }

abbrev id : ℕ → WitType
id n = wit.Id (record { 0 = n })

abbrev types : List TypeDef
types =
    entry (Some (same (codes "Label"))) (kind.Alias wit.String)
    ∷ entry (Some (same (codes "Person"))) (kind.Record (field (codes "name") (id 0) ∷ []))
    ∷ entry (Some (same (codes "Point"))) (kind.Record (field (codes "x") wit.U32 ∷ []))
    ∷ entry None (kind.Tuple (wit.String ∷ id 0 ∷ wit.U8 ∷ id 2 ∷ []))
    ∷ entry None (kind.Tuple (wit.U8 ∷ id 2 ∷ []))
    ∷ entry None (kind.Tuple (id 3 ∷ id 4 ∷ []))
    ∷ entry None (kind.Alias (id 2))
    ∷ entry None (kind.Tuple (id 6 ∷ id 1 ∷ []))
    ∷ []

abbrev named : Bytes → TypeExpr
named name = type.Path (local_path name)

abbrev lent : Bytes → TypeExpr
lent name = type.Ref (named name)

abbrev text : TypeExpr
text = type.Ref type.Str

abbrev byte : TypeExpr
byte = type.Primitive prim.U8

-- a text is lent, also under another name

pub a_text : param_type types wit.String ≡ text
unfolding finds lent_type
a_text = refl

pub a_label : param_type types (id 0) ≡ text
unfolding finds lent_type dealias parts
a_label = refl

-- a record is lent where it reaches a text

pub a_person : param_type types (id 1) ≡ lent (codes "Person")
unfolding finds lent_type dealias parts
a_person = refl

pub a_point : param_type types (id 2) ≡ named (codes "Point")
unfolding finds part_type parts
a_point = refl

-- a tuple that reaches a text lends each part that has a name

pub a_lent_tuple : param_type types (id 3) ≡ type.Tuple (text ∷ text ∷ byte ∷ lent (codes "Point") ∷ [])
unfolding finds lent_type dealias parts
a_lent_tuple = refl

pub a_tuple : param_type types (id 4) ≡ type.Tuple (byte ∷ named (codes "Point") ∷ [])
unfolding finds part_type parts
a_tuple = refl

pub tuples_in_a_tuple : param_type types (id 5) ≡ type.Tuple (type.Tuple (text ∷ text ∷ byte ∷ lent (codes "Point") ∷ []) ∷ type.Tuple (byte ∷ lent (codes "Point") ∷ []) ∷ [])
unfolding finds lent_type dealias parts
tuples_in_a_tuple = refl

-- an unnamed alias in it stands for its target as a parameter
pub alias_in_a_tuple : param_type types (id 7) ≡ type.Tuple (named (codes "Point") ∷ lent (codes "Person") ∷ [])
unfolding finds lent_type dealias part_type parts
alias_in_a_tuple = refl
