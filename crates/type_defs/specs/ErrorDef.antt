-- What a record or a variant has besides where it is an error type.
use Rattle.std.specs.Prelude.{false, Option, None, Some, if◌then◌else◌}
use Rattle.rust_tree.specs.declared.error_type.ErrorType.{ErrorType}
use Rattle.type_facts.specs.declared.info.TypeInfo.{TypeInfo}

-- the option for the feature `std` is at its default so far
abbrev pub error_type : TypeInfo → Option ErrorType
error_type info = if info.error then Some (record { std_feature = false }) else None
