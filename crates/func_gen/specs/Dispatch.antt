-- Which instructions are left, as one method after another makes the code of some.
use Rattle.std.specs.Prelude.{Bool, true, is_some}
use Rattle.abi_bindgen.specs.Touches.{touch}
use Rattle.abi_bindgen.specs.declared.instruction.Instruction.{Instruction}
use Rattle.abi_bindgen.specs.declared.instruction.Instruction.TheVariants.{I32FromBool, BoolFromI32, CharFromI32, StringLower, StringLift, RecordLower, RecordLift, TupleLower, TupleLift, EnumLower, EnumLift, FlagsLower, FlagsLift, GuestDeallocate, GuestDeallocateString, VariantLower, OptionLower, ResultLower, VariantLift, OptionLift, ResultLift, GuestDeallocateVariant, VariantPayloadName, IterElem, IterMapKey, IterMapValue, IterBasePointer}

-- a core word is stored or loaded
abbrev pub is_touch : Instruction → Bool
is_touch i = is_some (touch i)

-- or cases are lowered, lifted or freed, or a name of a block is read
abbrev pub is_case_code : Instruction → Bool
is_case_code (VariantLower id n) = true
is_case_code (OptionLower id n) = true
is_case_code (ResultLower id n) = true
is_case_code (VariantLift id) = true
is_case_code (OptionLift id) = true
is_case_code (ResultLift id) = true
is_case_code (GuestDeallocateVariant n) = true
is_case_code VariantPayloadName = true
is_case_code IterElem = true
is_case_code IterMapKey = true
is_case_code IterMapValue = true
is_case_code IterBasePointer = true
is_case_code i = is_touch i

-- or a value without cases is, or what it holds is freed
abbrev pub is_value_code : Instruction → Bool
is_value_code I32FromBool = true
is_value_code BoolFromI32 = true
is_value_code CharFromI32 = true
is_value_code (StringLower realloc) = true
is_value_code StringLift = true
is_value_code (RecordLower id) = true
is_value_code (RecordLift id) = true
is_value_code (TupleLower n) = true
is_value_code (TupleLift n) = true
is_value_code (EnumLower id) = true
is_value_code (EnumLift id) = true
is_value_code (FlagsLower id) = true
is_value_code (FlagsLift id) = true
is_value_code (GuestDeallocate size align) = true
is_value_code GuestDeallocateString = true
is_value_code i = is_case_code i
