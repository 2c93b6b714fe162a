-- Types for the rows: entries of a table without names and owners, and a table that has each kind.
use Rattle.std.proofs.Common.{ℕ, List, [], ◌∷◌, map, replicate, Option, None, Some}
use Rattle.wit_model.specs.declared.name.Docs.{Docs}
use Rattle.wit_model.specs.declared.name.Name.{Name}
use Rattle.wit_model.specs.declared.name.PackageId.{PackageId}
use Rattle.wit_model.specs.declared.name.TypeId.{TypeId}
use Rattle.wit_model.specs.declared.types.Handle.TheVariants.{Own, Borrow}
use Rattle.wit_model.specs.declared.types.Member.{Member}
use Rattle.wit_model.specs.declared.types.TypeDef.{TypeDef}
use Rattle.wit_model.specs.declared.types.TypeDefKind.{TypeDefKind}
use Rattle.wit_model.specs.declared.types.TypeDefKind.TheVariants as kind
use Rattle.wit_model.specs.declared.types.TypeOwner.TheVariants as owner
use Rattle.wit_model.specs.declared.types.WitType.{WitType}
use Rattle.wit_model.specs.declared.types.WitType.TheVariants as wit
use Rattle.wit_model.specs.declared.world.Package.{Package}

abbrev pub no_docs : Docs
no_docs = record { contents = None }

abbrev pub no_name : Name
no_name = record { wit = []; snake = []; camel = []; upper = [] }

abbrev pub any_package : Package
any_package = record { namespace = no_name; name = no_name; version = None; «module» = [] }

abbrev pub package_id : ℕ → PackageId
package_id n = record { 0 = n }

abbrev pub type_id : ℕ → TypeId
type_id n = record { 0 = n }

-- the type at a place of the table
abbrev pub entry : ℕ → WitType
entry n = wit.Id (type_id n)

abbrev pub type_def : TypeDefKind → TypeDef
type_def kind = record { name = None; owner = owner.None; kind = kind; docs = no_docs }

abbrev pub record_kind : List WitType → TypeDefKind
record_kind tys = kind.Record (map (λ ty. record { name = no_name; ty = ty; docs = no_docs }) tys)

abbrev pub variant_kind : List (Option WitType) → TypeDefKind
variant_kind payloads = kind.Variant (map (λ payload. record { name = no_name; ty = payload; docs = no_docs }) payloads)

abbrev pub members : ℕ → List Member
members count = replicate count (record { name = no_name; docs = no_docs })

-- a table that has each kind
abbrev pub types : List TypeDef
types =
    map type_def
    (record_kind (wit.U32 ∷ wit.F64 ∷ [])
    ∷ kind.Alias wit.String
    ∷ kind.List (entry 0)
    ∷ kind.Resource
    ∷ kind.Handle (Own (type_id 3))
    ∷ kind.Handle (Borrow (type_id 3))
    ∷ kind.Tuple (wit.U64 ∷ wit.String ∷ wit.U8 ∷ [])
    ∷ record_kind (entry 2 ∷ entry 4 ∷ [])
    ∷ variant_kind (Some (entry 5) ∷ [])
    ∷ variant_kind (Some wit.U8 ∷ [])
    ∷ kind.Alias (entry 9)
    ∷ kind.Result (Some (entry 7)) (Some (entry 10))
    ∷ kind.Map wit.U8 wit.U32
    ∷ kind.FixedLengthList (entry 0) 4
    ∷ kind.Option wit.U64
    ∷ kind.Option wit.String
    ∷ kind.Result (Some wit.String) (Some wit.U64)
    ∷ kind.Result None None
    ∷ kind.Enum (members 256)
    ∷ kind.Enum (members 257)
    ∷ kind.Flags (members 8)
    ∷ kind.Flags (members 16)
    ∷ kind.Flags (members 33)
    ∷ kind.Future (Some wit.U64)
    ∷ kind.Stream (Some wit.U64)
    ∷ [])
