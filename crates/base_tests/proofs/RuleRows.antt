-- Which rule of well-formed tables is broken first, and by which entry, by rows; what constructors give; how sizes are printed.
use Rattle.std.proofs.Common.{◌≡◌, ℕ, List, [], ◌∷◌, ◌++◌, map, replicate, Option, None, Some, refl, ap₂, arith}
use Rattle.std.proofs.lemmas.Fmt.{decimal_digit}
use Rattle.std.specs.Prelude.{false, codes}
use Rattle.wit_model.specs.declared.constructor.ConstructorReturn.TheVariants.{Itself, Fallible}
use Rattle.wit_model.specs.declared.function.FunctionKind.TheVariants.{Freestanding}
use Rattle.wit_model.specs.declared.resolve.Resolve.{Resolve}
use Rattle.wit_model.specs.declared.resolve.Rule.{Rule}
use Rattle.wit_model.specs.declared.resolve.Rule.TheVariants.{IndexRange, TypeOrder, Members, MapKey}
use Rattle.wit_model.specs.declared.resolve.Table.TheVariants.{Interface, Type_}
use Rattle.wit_model.specs.declared.size.Alignment.TheVariants.{Pointer}
use Rattle.wit_model.specs.declared.types.Handle.TheVariants.{Own}
use Rattle.wit_model.specs.declared.types.TypeDef.{TypeDef}
use Rattle.wit_model.specs.declared.types.TypeDefKind.{TypeDefKind}
use Rattle.wit_model.specs.declared.types.TypeDefKind.TheVariants as kind
use Rattle.wit_model.specs.declared.types.WitType.{WitType}
use Rattle.wit_model.specs.declared.types.WitType.TheVariants as wit
use Rattle.wit_model.specs.Constructor.{constructor_return}
use Rattle.wit_model.specs.Dealias.{dealias}
use Rattle.wit_model.specs.IndexRange.{first_out_of_range, function_in_range, function_kind_in_range, interface_in_range, owner_in_range, owning_package_in_range, type_def_in_range}
use Rattle.wit_model.specs.MapKey.{first_bad_key, has_good_key, is_key}
use Rattle.wit_model.specs.Members.{first_without_members, has_members}
use Rattle.wit_model.specs.Parts.{parts}
use Rattle.wit_model.specs.Place.{Place}
use Rattle.wit_model.specs.SizeText.{alignment_text, mark_text, size_text}
use Rattle.wit_model.specs.TypeOrder.{first_out_of_order, parts_below, payload_below, type_below}
use Rattle.wit_model.specs.WellFormed.{first_fault}
use Rattle.base_tests.proofs.Sample.{any_package, entry, no_docs, no_name, package_id, type_def, type_id, variant_kind}

-- tables of types alone
abbrev of_types : List TypeDefKind → Resolve
of_types kinds = record { worlds = []; packages = []; interfaces = []; types = map type_def kinds }

-- what is broken where this kind is type 2, behind two aliases, of which the second leads to this type
abbrev behind : WitType → TypeDefKind → Option (Rule × Place)
behind ty this = first_fault (of_types (kind.Alias ty ∷ kind.Alias (entry 0) ∷ this ∷ []))

-- 1. A type names only lower ids

-- each kind that names a type, with this one
abbrev naming : ℕ → List TypeDefKind
naming id =
    kind.Alias (entry id) ∷ kind.Handle (Own (type_id id)) ∷ kind.List (entry id) ∷ kind.Map (entry id) wit.U8 ∷ kind.Map wit.U8 (entry id)
    ∷ kind.FixedLengthList (entry id) 1 ∷ kind.Option (entry id) ∷ kind.Result (Some (entry id)) None ∷ kind.Result None (Some (entry id))
    ∷ kind.Tuple (entry id ∷ []) ∷ variant_kind (Some (entry id) ∷ []) ∷ kind.Future (Some (entry id)) ∷ kind.Stream (Some (entry id)) ∷ []

lower_id : map (behind wit.U8) (naming 1) ≡ replicate 13 None
unfolding first_fault first_out_of_range type_def_in_range owner_in_range first_out_of_order parts_below payload_below type_below parts first_without_members has_members first_bad_key has_good_key is_key dealias
lower_id = refl

own_id : map (behind wit.U8) (naming 2) ≡ replicate 13 (Some (TypeOrder, (Type_, 2)))
unfolding first_fault first_out_of_range type_def_in_range owner_in_range first_out_of_order parts_below payload_below type_below parts
own_id = refl

greater_id : map (behind wit.U8) (naming 3) ≡ replicate 13 (Some (IndexRange, (Type_, 2)))
unfolding first_fault first_out_of_range type_def_in_range owner_in_range parts_below payload_below type_below parts
greater_id = refl

-- 2. A kind that wants a member has one

without_members : map (behind wit.U8) (kind.Record [] ∷ kind.Variant [] ∷ kind.Enum [] ∷ kind.Flags [] ∷ kind.Tuple [] ∷ kind.FixedLengthList wit.U8 0 ∷ []) ≡ replicate 6 (Some (Members, (Type_, 2)))
unfolding first_fault first_out_of_range type_def_in_range owner_in_range first_out_of_order parts_below payload_below type_below parts first_without_members has_members
without_members = refl

-- 3. Whole numbers, bools, chars and strings are keys, also behind aliases

-- what is broken by a map whose keys lead to this type
abbrev keyed : WitType → Option (Rule × Place)
keyed ty = behind ty (kind.Map (entry 1) wit.F32)

keys : map keyed (wit.Bool ∷ wit.U8 ∷ wit.U16 ∷ wit.U32 ∷ wit.U64 ∷ wit.S8 ∷ wit.S16 ∷ wit.S32 ∷ wit.S64 ∷ wit.Char ∷ wit.String ∷ []) ≡ replicate 11 None
unfolding first_fault first_out_of_range type_def_in_range owner_in_range first_out_of_order parts_below payload_below type_below parts first_without_members has_members first_bad_key has_good_key is_key dealias
keys = refl

no_keys : map keyed (wit.F32 ∷ wit.F64 ∷ wit.ErrorContext ∷ []) ≡ replicate 3 (Some (MapKey, (Type_, 2)))
unfolding first_fault first_out_of_range type_def_in_range owner_in_range first_out_of_order parts_below payload_below type_below parts first_without_members has_members first_bad_key has_good_key is_key dealias
no_keys = refl

-- a want of members comes before an earlier key
members_first : first_fault (of_types (kind.Map wit.F32 wit.U8 ∷ kind.Variant [] ∷ [])) ≡ Some (Members, (Type_, 1))
unfolding first_fault first_out_of_range type_def_in_range owner_in_range first_out_of_order parts_below payload_below type_below parts first_without_members has_members
members_first = refl

-- 4. An interface is named before a type

-- one package; an interface of this package, whose function has a parameter of this type; and a type that names this one
abbrev of_interface : ℕ → ℕ → ℕ → Resolve
of_interface of_package param part = record {
  worlds = [];
  packages = any_package ∷ [];
  interfaces =
      record {
        name = None;
        «package» = Some (package_id of_package);
        types = [];
        functions =
            record { name = no_name; kind = Freestanding; params = record { name = no_name; ty = entry param } ∷ []; result = None; docs = no_docs }
            ∷ [];
        docs = no_docs;
      }
      ∷ [];
  types = type_def (kind.Future (Some (entry part))) ∷ [];
}

interface_first : map first_fault (of_interface 1 0 0 ∷ of_interface 0 1 0 ∷ of_interface 0 1 1 ∷ []) ≡ replicate 3 (Some (IndexRange, (Interface, 0)))
unfolding first_fault first_out_of_range interface_in_range owning_package_in_range function_in_range function_kind_in_range type_below
interface_first = refl

-- 5. Constructors give their resource itself, or a result, which is found behind aliases

abbrev results : List TypeDef
results =
    map type_def
    (kind.Resource ∷ kind.Handle (Own (type_id 0)) ∷ kind.Alias (entry 1) ∷ kind.Result (Some (entry 2)) (Some wit.String) ∷ kind.Alias (entry 3) ∷ kind.Alias (entry 4) ∷ kind.Result (Some (entry 1)) None ∷ [])

constructed : map (λ id. constructor_return results (Some (entry id))) (2 ∷ 5 ∷ 6 ∷ []) ≡ Itself ∷ Fallible (Some wit.String) ∷ Fallible None ∷ []
unfolding dealias
constructed = refl

-- 6. A size in a sum stands in brackets, and an alignment may be that of a pointer

sum_printed : size_text false (record { bytes = 4; pointers = 1 }) ≡ codes "(4+1*::core::mem::size_of::<*const u8>())"
unfolding mark_text
sum_printed =
    ap₂ (λ bytes pointers. codes "(" ++ (bytes ++ codes "+" ++ (pointers ++ codes "*" ++ codes "::core::mem::size_of::<*const u8>()")) ++ codes ")") (decimal_digit 4 (omega (arith)))
    (decimal_digit 1 (omega (arith)))

pointer_printed : alignment_text Pointer ≡ codes "::core::mem::size_of::<*const u8>()"
unfolding mark_text
pointer_printed = refl
