-- Which tables and options hold only what the generator builds so far.
use Rattle.std.specs.Prelude.{Bool, true, false, not, ◌&&◌, ◌^◌, ℕ, nat_le, List, [], ◌∷◌, length, is_none}
use Rattle.std.specs.List.{list_all}
use Rattle.wit_model.specs.declared.types.TypeDefKind.{TypeDefKind}
use Rattle.wit_model.specs.declared.types.TypeDefKind.TheVariants as sort
use Rattle.wit_model.specs.declared.function.Function.{Function}
use Rattle.wit_model.specs.declared.function.FunctionKind.{FunctionKind}
use Rattle.wit_model.specs.declared.function.FunctionKind.TheVariants as kind
use Rattle.wit_model.specs.declared.world.WorldItem.{WorldItem}
use Rattle.wit_model.specs.declared.world.WorldItem.TheVariants as item
use Rattle.wit_model.specs.declared.world.World.{World}
use Rattle.wit_model.specs.declared.resolve.Resolve.{Resolve}
use Rattle.gen_accept.specs.declared.opts.Opts.{Opts}
use Rattle.type_defs.specs.Defined.{is_defined_part, is_defined_type}
use Rattle.type_defs.specs.FunctionTypes.{function_passes}
use Rattle.type_defs.specs.Modes.{is_owning}

abbrev pub is_freestanding : FunctionKind → Bool
is_freestanding kind.Freestanding = true
is_freestanding _ = false

-- its types can be named in a definition; what entries of the table name is looked at by themselves
abbrev pub is_built_function : Function → Bool
is_built_function f = is_freestanding f.kind && function_passes is_defined_type f

abbrev pub is_built_item : WorldItem → Bool
is_built_item (item.Function f) = is_built_function f
is_built_item (item.Named _) = true
is_built_item (item.Interface _) = false

abbrev pub is_no_type : WorldItem → Bool
is_no_type (item.Named _) = false
is_no_type _ = true

abbrev pub is_empty : {A : Type 0} → List A → Bool
is_empty [] = true
is_empty (_ ∷ _) = false

-- types stand among the imports alone
unfoldable pub is_built_world : World → Bool
is_built_world world =
    list_all (λ entry. is_built_item entry.1) world.imports && list_all (λ entry. is_built_item entry.1) world.exports
    && list_all (λ entry. is_no_type entry.1) world.exports

-- so many cases have numbers that a word of 32 bits keeps without its sign
abbrev pub most_cases : ℕ
most_cases = 2 ^ 31

-- a type that the table may have: an alias, a record, a tuple, an option, a result, a variant or an enum that has no more cases than these, or
-- flags of which there are 128 at most
abbrev pub is_built_kind : TypeDefKind → Bool
is_built_kind (sort.Alias ty) = is_defined_type ty
is_built_kind (sort.Tuple members) = list_all is_defined_type members
is_built_kind (sort.Record fields) = list_all (λ f. is_defined_type f.ty) fields
is_built_kind (sort.Option ty) = is_defined_type ty
is_built_kind (sort.Result ok err) = is_defined_part ok && is_defined_part err
is_built_kind (sort.Variant cases) = nat_le (length cases) most_cases && list_all (λ c. is_defined_part c.ty) cases
is_built_kind (sort.Enum cases) = nat_le (length cases) most_cases
is_built_kind (sort.Flags members) = nat_le (length members) 128
is_built_kind _ = false

unfoldable pub are_built_tables : Resolve → Bool
are_built_tables r = is_empty r.interfaces && list_all (λ t. is_built_kind t.kind) r.types && list_all is_built_world r.worlds

abbrev pub are_flags_off : Opts → Bool
are_flags_off o =
    not o.std_feature && not o.raw_strings && not o.stubs && not o.generate_all && not o.pub_export_macro

abbrev pub are_lists_empty : Opts → Bool
are_lists_empty o =
    is_empty o.skip && is_empty o.additional_derive_ignore && is_empty o.additional_derive_attributes && is_empty o.additional_type_attributes
    && is_empty o.additional_member_attributes && is_empty o.with && is_empty o.chainable_methods

abbrev pub are_values_absent : Opts → Bool
are_values_absent o =
    is_none o.export_prefix && is_none o.runtime_path && is_none o.map_type && is_none o.bitflags_path && is_none o.default_bindings_module
    && is_none o.export_macro_name && is_none o.merge_structurally_equal_types

-- every option but that for unused types is at its default
unfoldable pub are_built_options : Opts → Bool
are_built_options o = are_flags_off o && are_lists_empty o && are_values_absent o && is_owning o.ownership
