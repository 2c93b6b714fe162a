-- The fixed pieces of the lines.
use Rattle.std.specs.Prelude.{ℕ, List, codes}
use Rattle.wit_refusal.specs.declared.word.Word.{Word}
use Rattle.wit_refusal.specs.declared.word.Word.TheVariants.{UsageLine, ReadFaultLine, InputTooLongLine, BadJsonLine, InvalidWorld, InvalidOption, MissingWith, TooLargeType, TooLargeFunction, Unsupported, NameClash, UnusedWith, UnusedSelector, UnusedChainable, WriteFaultLine, OutOfMemoryLine, At, In, Space, Comma, Quote, Backslash, KeyEnd, ListEnd, LineEnd}

unfoldable pub word : Word → List ℕ
word UsageLine = codes "usage: wit_program generate, or wit_program sample N\n"
word ReadFaultLine = codes "read fault\n"
word InputTooLongLine = codes "input longer than 67108864 bytes\n"
word BadJsonLine = codes "not a bindings document\n"
word InvalidWorld = codes "invalid world: rule "
word InvalidOption = codes "invalid option: "
word MissingWith = codes "missing `with` mapping for the key `"
word TooLargeType = codes "too large: type "
word TooLargeFunction = codes "too large: function "
word Unsupported = codes "unsupported: "
word NameClash = codes "name clash: "
word UnusedWith = codes "unused remappings provided via `with`: ["
word UnusedSelector = codes "unused selectors provided via `additional_type_attributes` / `additional_member_attributes`: ["
word UnusedChainable = codes "unused chaining entry: "
word WriteFaultLine = codes "write fault\n"
word OutOfMemoryLine = codes "out of memory\n"
word At = codes " at "
word In = codes " in "
word Space = codes " "
word Comma = codes ", "
word Quote = codes "\""
word Backslash = codes "\\"
word KeyEnd = codes "`\n"
word ListEnd = codes "]\n"
word LineEnd = codes "\n"
