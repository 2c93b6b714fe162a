-- Whether each map's key is, after aliases, of a kind that keys may have, and which map is the first whose key is not.
use Rattle.std.specs.Prelude.{Bool, true, false, List, Option, None, Some, slice_get}
use Rattle.wit_model.specs.declared.types.WitType.{WitType}
use Rattle.wit_model.specs.declared.types.WitType.TheVariants as wit
use Rattle.wit_model.specs.declared.types.TypeDefKind.{TypeDefKind}
use Rattle.wit_model.specs.declared.types.TypeDefKind.TheVariants as kind
use Rattle.wit_model.specs.declared.types.TypeDef.{TypeDef}
use Rattle.wit_model.specs.declared.resolve.Resolve.{Resolve}
use Rattle.wit_model.specs.declared.resolve.Table.TheVariants as table
use Rattle.wit_model.specs.Dealias.{dealias}
use Rattle.wit_model.specs.Place.{Place, first_failing}

-- a whole number, a bool, a char or a string
abbrev pub is_key_primitive : WitType → Bool
is_key_primitive wit.Bool = true
is_key_primitive wit.U8 = true
is_key_primitive wit.U16 = true
is_key_primitive wit.U32 = true
is_key_primitive wit.U64 = true
is_key_primitive wit.S8 = true
is_key_primitive wit.S16 = true
is_key_primitive wit.S32 = true
is_key_primitive wit.S64 = true
is_key_primitive wit.F32 = false
is_key_primitive wit.F64 = false
is_key_primitive wit.Char = true
is_key_primitive wit.String = true
is_key_primitive wit.ErrorContext = false
is_key_primitive (wit.Id _) = false

-- another name of a primitive that a key may have
abbrev pub is_key_alias : TypeDefKind → Bool
is_key_alias (kind.Alias ty) = is_key_primitive ty
is_key_alias _ = false

abbrev pub is_key_entry : Option TypeDef → Bool
is_key_entry None = false
is_key_entry (Some t) = is_key_alias t.kind

unfoldable pub is_key : List TypeDef → WitType → Bool
is_key types (wit.Id id) = is_key_entry (slice_get types (dealias types id).0)
is_key types ty = is_key_primitive ty

unfoldable pub has_good_key : List TypeDef → TypeDefKind → Bool
has_good_key types (kind.Map k _) = is_key types k
has_good_key types _ = true

unfoldable pub first_bad_key : Resolve → Option Place
first_bad_key r = first_failing table.Type_ (λ entry. has_good_key r.types entry.kind) r.types
