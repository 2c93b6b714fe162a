-- What a type is to its values: its shape. It is the tree of the type's layout, and tells besides what layout forgets: tuples stand
-- apart from records, since a list of records may lie in memory as it is and a list of tuples never does; and a handle
-- tells whether it owns, and which resource it is of.
use Rattle.std.specs.Prelude.{ℕ, Bool, true, false, List, [], ◌∷◌, ◌++◌, map, length, Option, None, Some, slice_index_or, option_map}
use Rattle.wit_model.specs.declared.function.Function.{Function}
use Rattle.wit_model.specs.declared.types.Handle.TheVariants.{Own, Borrow}
use Rattle.wit_model.specs.declared.types.Handle.{Handle}
use Rattle.wit_model.specs.declared.types.TypeDef.{TypeDef}
use Rattle.wit_model.specs.declared.types.TypeDefKind.{TypeDefKind}
use Rattle.wit_model.specs.declared.types.TypeDefKind.TheVariants as kind
use Rattle.wit_model.specs.declared.types.WitType.{WitType}
use Rattle.wit_model.specs.declared.types.WitType.TheVariants as wit
use Rattle.wit_layout.specs.Tree.{Scalar}

mutual
  pub data Shape : Type 0 where
    -- a bool, a whole number, a float, a char
    scalar : Scalar → Shape
    text : Shape
    list : Shape → Shape
    -- a map, by its keys and values
    pairs : Shape → Shape → Shape
    fixed : Shape → ℕ → Shape
    fields : Shapes → Shape
    tuple : Shapes → Shape
    -- one shape for each case: of a variant, an enum, an option or a result
    cases : Shapes → Shape
    flags : ℕ → Shape
    -- whether it owns, and the number of its resource's entry in the table
    handle : Bool → ℕ → Shape
    resource : ℕ → Shape
    -- what no wrapper passes: a future, a stream, an error context, an unknown kind
    other : Shape

  pub data Shapes : Type 0 where
    none : Shapes
    more : Shape → Shapes → Shapes

-- what stands where a payload is left out
abbrev pub nothing : Shape
nothing = fields none

abbrev pub is_nothing : Shape → Bool
is_nothing (fields none) = true
is_nothing _ = false

-- The shape of a type of the table. In a well-formed table each id names an entry, and a handle a resource; elsewhere `nothing` and
-- `other` stand in

-- by the shapes of the entries before it
abbrev pub shape_in : List Shape → WitType → Shape
shape_in ts wit.Bool = scalar Scalar.bool
shape_in ts wit.U8 = scalar Scalar.u8
shape_in ts wit.U16 = scalar Scalar.u16
shape_in ts wit.U32 = scalar Scalar.u32
shape_in ts wit.U64 = scalar Scalar.u64
shape_in ts wit.S8 = scalar Scalar.s8
shape_in ts wit.S16 = scalar Scalar.s16
shape_in ts wit.S32 = scalar Scalar.s32
shape_in ts wit.S64 = scalar Scalar.s64
shape_in ts wit.F32 = scalar Scalar.f32
shape_in ts wit.F64 = scalar Scalar.f64
shape_in ts wit.Char = scalar Scalar.char
shape_in ts wit.String = text
shape_in ts wit.ErrorContext = other
shape_in ts (wit.Id id) = slice_index_or ts id.0 nothing

abbrev pub payload_in : List Shape → Option WitType → Shape
payload_in ts None = nothing
payload_in ts (Some ty) = shape_in ts ty

abbrev pub payloads_in : List Shape → List (Option WitType) → Shapes
payloads_in ts [] = none
payloads_in ts (payload ∷ payloads) = more (payload_in ts payload) (payloads_in ts payloads)

-- as many cases without payload as there are members
abbrev pub bare : {A : Type 0} → List A → Shapes
bare [] = none
bare (_ ∷ members) = more nothing (bare members)

abbrev pub handle_of : Bool → Shape → Shape
handle_of owns (resource number) = handle owns number
handle_of owns _ = other

abbrev pub handle_in : List Shape → Handle → Shape
handle_in ts (Own id) = handle_of true (slice_index_or ts id.0 nothing)
handle_in ts (Borrow id) = handle_of false (slice_index_or ts id.0 nothing)

-- the shape of a kind, by the number of its entry and the shapes of the entries before it
abbrev pub shape_by : ℕ → List Shape → TypeDefKind → Shape
shape_by number ts (kind.Alias ty) = shape_in ts ty
shape_by number ts (kind.Handle h) = handle_in ts h
shape_by number ts (kind.List element) = list (shape_in ts element)
shape_by number ts (kind.Map k v) = pairs (shape_in ts k) (shape_in ts v)
shape_by number ts (kind.FixedLengthList element n) = fixed (shape_in ts element) n
shape_by number ts (kind.Tuple members) = tuple (payloads_in ts (map (λ ty. Some ty) members))
shape_by number ts (kind.Option payload) = cases (more nothing (more (shape_in ts payload) none))
shape_by number ts (kind.Result ok err) = cases (more (payload_in ts ok) (more (payload_in ts err) none))
shape_by number ts (kind.Record members) = fields (payloads_in ts (map (λ f. Some f.ty) members))
shape_by number ts (kind.Variant members) = cases (payloads_in ts (map (λ c. c.ty) members))
shape_by number ts (kind.Enum members) = cases (bare members)
shape_by number ts (kind.Flags members) = flags (length members)
shape_by number ts kind.Resource = resource number
shape_by number ts (kind.Future _) = other
shape_by number ts (kind.Stream _) = other
shape_by number ts kind.Unknown = other

abbrev pub shapes_behind : List Shape → List TypeDef → List Shape
shapes_behind ts [] = ts
shapes_behind ts (t ∷ types) = shapes_behind (ts ++ shape_by (length ts) ts t.kind ∷ []) types

-- the shape of each entry of the table
unfoldable pub shapes : List TypeDef → List Shape
shapes types = shapes_behind [] types

abbrev pub shape_of : List TypeDef → WitType → Shape
shape_of types ty = shape_in (shapes types) ty

-- the shape of the entry at a place
abbrev pub shape_at : List TypeDef → ℕ → Shape
shape_at types i = slice_index_or (shapes types) i nothing

-- the shapes of a function's parameters, and of its result

abbrev pub param_shapes : List TypeDef → Function → Shapes
param_shapes types f = payloads_in (shapes types) (map (λ ty. Some ty) (map (λ p. p.ty) f.params))

abbrev pub result_shape : List TypeDef → Function → Option Shape
result_shape types f = option_map (shape_of types) f.result
