-- Which tree a type of the table stands for: what is named by an id is put in its place, aliases are what they name, tuples
-- are records, and enums, options and results are variants.
use Rattle.std.specs.Prelude.{ℕ, List, [], ◌∷◌, ◌++◌, map, length, Option, None, Some, slice_index_or}
use Rattle.wit_model.specs.declared.types.WitType.{WitType}
use Rattle.wit_model.specs.declared.types.WitType.TheVariants as wit
use Rattle.wit_model.specs.declared.types.TypeDefKind.{TypeDefKind}
use Rattle.wit_model.specs.declared.types.TypeDefKind.TheVariants as kind
use Rattle.wit_model.specs.declared.types.TypeDef.{TypeDef}

-- a handle is a number, and so is a resource, a future, a stream, an error context and a type of an unknown kind
pub data Scalar : Type 0 where
  bool u8 u16 u32 u64 s8 s16 s32 s64 f32 f64 char handle : Scalar

mutual
  pub data Tree : Type 0 where
    scalar : Scalar → Tree
    text : Tree
    list : Tree → Tree
    pairs : Tree → Tree → Tree
    fixed : Tree → ℕ → Tree
    fields : Trees → Tree
    -- one tree for each case
    cases : Trees → Tree
    flags : ℕ → Tree

  pub data Trees : Type 0 where
    none : Trees
    more : Tree → Trees → Trees

-- what stands where a payload is left out
abbrev pub nothing : Tree
nothing = fields none

abbrev pub tree_in : List Tree → WitType → Tree
tree_in ts wit.Bool = scalar bool
tree_in ts wit.U8 = scalar u8
tree_in ts wit.U16 = scalar u16
tree_in ts wit.U32 = scalar u32
tree_in ts wit.U64 = scalar u64
tree_in ts wit.S8 = scalar s8
tree_in ts wit.S16 = scalar s16
tree_in ts wit.S32 = scalar s32
tree_in ts wit.S64 = scalar s64
tree_in ts wit.F32 = scalar f32
tree_in ts wit.F64 = scalar f64
tree_in ts wit.Char = scalar char
tree_in ts wit.String = text
tree_in ts wit.ErrorContext = scalar handle
tree_in ts (wit.Id id) = slice_index_or ts id.0 nothing

abbrev pub payload_in : List Tree → Option WitType → Tree
payload_in ts None = nothing
payload_in ts (Some ty) = tree_in ts ty

abbrev pub payloads_in : List Tree → List (Option WitType) → Trees
payloads_in ts [] = none
payloads_in ts (payload ∷ payloads) = more (payload_in ts payload) (payloads_in ts payloads)

-- as many cases without payload as there are members
abbrev pub bare : {A : Type 0} → List A → Trees
bare [] = none
bare (_ ∷ members) = more nothing (bare members)

-- the tree of a kind, by the trees of the types that it names. A tuple, an enum, an option and a result become a record or a
-- variant, as in the Canonical ABI's `despecialize`; besides, ids and aliases are followed, and a map stays apart from a list of
-- pairs, since places in its entries are asked for
abbrev pub tree_by : List Tree → TypeDefKind → Tree
tree_by ts (kind.Alias ty) = tree_in ts ty
tree_by ts (kind.Handle _) = scalar handle
tree_by ts (kind.List element) = list (tree_in ts element)
tree_by ts (kind.Map k v) = pairs (tree_in ts k) (tree_in ts v)
tree_by ts (kind.FixedLengthList element n) = fixed (tree_in ts element) n
tree_by ts (kind.Tuple members) = fields (payloads_in ts (map (λ ty. Some ty) members))
tree_by ts (kind.Option payload) = cases (more nothing (more (tree_in ts payload) none))
tree_by ts (kind.Result ok err) = cases (more (payload_in ts ok) (more (payload_in ts err) none))
tree_by ts (kind.Record members) = fields (payloads_in ts (map (λ f. Some f.ty) members))
tree_by ts (kind.Variant members) = cases (payloads_in ts (map (λ c. c.ty) members))
tree_by ts (kind.Enum members) = cases (bare members)
tree_by ts (kind.Flags members) = flags (length members)
tree_by ts kind.Resource = scalar handle
tree_by ts (kind.Future _) = scalar handle
tree_by ts (kind.Stream _) = scalar handle
tree_by ts kind.Unknown = scalar handle

-- each entry of the table names entries before it, whose trees are there
abbrev pub trees_behind : List Tree → List TypeDef → List Tree
trees_behind ts [] = ts
trees_behind ts (t ∷ types) = trees_behind (ts ++ tree_by ts t.kind ∷ []) types

-- the tree of each entry of the table
unfoldable pub trees : List TypeDef → List Tree
trees types = trees_behind [] types

-- the tree of the entry at a place
abbrev pub tree_at : List TypeDef → ℕ → Tree
tree_at types i = slice_index_or (trees types) i nothing

-- the tree of a type
abbrev pub tree_of : List TypeDef → WitType → Tree
tree_of types ty = tree_in (trees types) ty

-- the record of some types
abbrev pub record_of : List TypeDef → List WitType → Tree
record_of types members = fields (payloads_in (trees types) (map (λ ty. Some ty) members))
