-- What the stored layouts of a table say of its types, where a pointer has 2 ^ w bytes.
use Rattle.std.specs.Prelude.{◌≡◌, ℕ, ◌^◌, ◌≤◌, true, false, List, [], length, Option, None, Some, slice_get}
use Rattle.wit_model.specs.declared.types.WitType.{WitType}
use Rattle.wit_model.specs.declared.types.WitType.TheVariants.{Id}
use Rattle.wit_model.specs.declared.types.TypeDef.{TypeDef}
use Rattle.wit_model.specs.Size.{bytes_at}
use Rattle.wit_layout.specs.declared.stored.StoredExtent.{StoredExtent}
use Rattle.wit_layout.specs.declared.type_layout.TypeLayout.{TypeLayout}
use Rattle.wit_layout.specs.Told.{IsPairOf, ArePairsOf, is_alias}
use Rattle.wit_layout.specs.inside.Grain.{exponent}
use Rattle.wit_layout.specs.Extent.{Extent, extent}
use Rattle.wit_layout.specs.Tree.{tree_in, tree_at}
use Rattle.wit_layout.specs.Sizes.{extent_of, payload_offset, field_offsets}

abbrev pub seen : ℕ → StoredExtent → Extent
seen w e = extent (exponent w e.grain) (bytes_at e.size (2 ^ w))

abbrev pub seen_at : ℕ → Option TypeLayout → Extent
seen_at w None = extent 0 0
seen_at w (Some layout) = seen w layout.extent

-- what a type takes, by the layouts of the table
abbrev pub seen_type : ℕ → List TypeLayout → WitType → Extent
seen_type w layouts (Id id) = seen_at w (slice_get layouts id.0)
seen_type w layouts ty = extent_of w (tree_in [] ty)

-- and what a payload takes, which may be left out
abbrev pub seen_payload : ℕ → List TypeLayout → Option WitType → Extent
seen_payload w layouts None = extent 0 0
seen_payload w layouts (Some ty) = seen_type w layouts ty

-- an extent that is stored has at most 2^31 - 1 bytes, also where a pointer has 8
abbrev pub IsStored : Option StoredExtent → (ℕ → Extent) → Type 0
IsStored None f = 2 ^ 31 ≤ (f 3).bytes
IsStored (Some e) f = (seen 2 e ≡ f 2) × (seen 3 e ≡ f 3)

-- the layouts of the first so many types of a table
pub record AreLayoutsOf (layouts : List TypeLayout) (types : List TypeDef) (many : ℕ) : Type 0 where
  pub count : length layouts ≡ many
  pub extents : (i : ℕ) (layout : TypeLayout) → slice_get layouts i ≡ Some layout → (seen 2 layout.extent ≡ extent_of 2 (tree_at types i)) × (seen 3 layout.extent ≡ extent_of 3 (tree_at types i))
  pub payloads : (i : ℕ) (layout : TypeLayout) (entry : TypeDef) → slice_get layouts i ≡ Some layout → slice_get types i ≡ Some entry → is_alias entry.kind ≡ false → IsPairOf layout.payload (λ w. payload_offset w (tree_at types i))
  pub offsets : (i : ℕ) (layout : TypeLayout) (entry : TypeDef) → slice_get layouts i ≡ Some layout → slice_get types i ≡ Some entry → is_alias entry.kind ≡ false → ArePairsOf layout.offsets (λ w. field_offsets w (tree_at types i))
  pub alias_payloads : (i : ℕ) (layout : TypeLayout) (entry : TypeDef) → slice_get layouts i ≡ Some layout → slice_get types i ≡ Some entry → is_alias entry.kind ≡ true → IsPairOf layout.payload (λ w. 0)
  pub alias_offsets : (i : ℕ) (layout : TypeLayout) (entry : TypeDef) → slice_get layouts i ≡ Some layout → slice_get types i ≡ Some entry → is_alias entry.kind ≡ true → ArePairsOf layout.offsets (λ w. [])
