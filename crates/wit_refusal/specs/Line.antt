-- The line of each cause for which no file is made, with its line feed.
use Rattle.std.specs.Prelude.{ℕ, ◌||◌, List, [], ◌∷◌, ◌++◌, ◌==◌, if◌then◌else◌, decimal}
use Rattle.std.specs.List.{flat_map, join_by}
use Rattle.gen_accept.specs.declared.error.Clash.{Clash}
use Rattle.gen_accept.specs.declared.error.Clash.TheVariants.{Twice, NotIdent}
use Rattle.gen_accept.specs.declared.error.Entry.{Entry}
use Rattle.gen_accept.specs.declared.error.GenError.{GenError}
use Rattle.gen_accept.specs.declared.error.GenError.TheVariants as error
use Rattle.gen_accept.specs.declared.error.Lack.{Lack}
use Rattle.gen_accept.specs.declared.error.TooLarge.{TooLarge}
use Rattle.gen_accept.specs.declared.error.TooLarge.TheVariants.{Type_, Func}
use Rattle.gen_accept.specs.LackText.{lack_text}
use Rattle.wit_model.specs.declared.resolve.Rule.{Rule}
use Rattle.wit_model.specs.declared.resolve.Table.{Table}
use Rattle.wit_refusal.specs.declared.refusal.Refusal.{Refusal}
use Rattle.wit_refusal.specs.declared.refusal.Refusal.TheVariants.{Usage, ReadFault, InputTooLong, BadJson, Gen, WriteFault, OutOfMemory}
use Rattle.wit_refusal.specs.declared.word.Word.TheVariants as piece
use Rattle.wit_refusal.specs.Names.{rule_number_of, table_text}
use Rattle.wit_refusal.specs.Word.{word}

-- texts in quotes

-- a byte, behind a `\` if it is `"` or `\`
abbrev pub escaped : ℕ → List ℕ
escaped b = if b == 34 || b == 92 then word piece.Backslash ++ b ∷ [] else b ∷ []

abbrev pub quoted : List ℕ → List ℕ
quoted text = word piece.Quote ++ flat_map escaped text ++ word piece.Quote

-- the generator's refusals

abbrev pub invalid_world_line : Rule → Table → ℕ → List ℕ
invalid_world_line rule table index =
    word piece.InvalidWorld ++ decimal (rule_number_of rule) ++ word piece.At ++ table_text table ++ word piece.Space ++ decimal index ++ word piece.LineEnd

abbrev pub invalid_option_line : List ℕ → ℕ → List ℕ
invalid_option_line field index = word piece.InvalidOption ++ field ++ word piece.Space ++ decimal index ++ word piece.LineEnd

abbrev pub missing_with_line : List ℕ → List ℕ
missing_with_line key = word piece.MissingWith ++ key ++ word piece.KeyEnd

abbrev pub too_large_line : TooLarge → List ℕ
too_large_line (Type_ id) = word piece.TooLargeType ++ decimal id.0 ++ word piece.LineEnd
too_large_line (Func name) = word piece.TooLargeFunction ++ name ++ word piece.LineEnd

abbrev pub unsupported_line : Lack → List ℕ → List ℕ
unsupported_line what place = word piece.Unsupported ++ lack_text what ++ word piece.At ++ place ++ word piece.LineEnd

abbrev pub name_clash_line : Entry → List ℕ
name_clash_line entry = word piece.NameClash ++ entry.name ++ word piece.In ++ entry.module ++ word piece.LineEnd

abbrev pub entry_of : Clash → Entry
entry_of (Twice entry) = entry
entry_of (NotIdent entry) = entry

abbrev pub unused_with_line : List (List ℕ) → List ℕ
unused_with_line keys = word piece.UnusedWith ++ join_by quoted (word piece.Comma) keys ++ word piece.ListEnd

abbrev pub unused_selector_line : List (List ℕ) → List ℕ
unused_selector_line selectors = word piece.UnusedSelector ++ join_by quoted (word piece.Comma) selectors ++ word piece.ListEnd

abbrev pub unused_chainable_line : List ℕ → List ℕ
unused_chainable_line entry = word piece.UnusedChainable ++ entry ++ word piece.LineEnd

abbrev pub gen_line_of : GenError → List ℕ
gen_line_of (error.InvalidWorld rule table index) = invalid_world_line rule table index
gen_line_of (error.InvalidOption field index) = invalid_option_line field index
gen_line_of (error.MissingWith missing) = missing_with_line missing.0
gen_line_of (error.TooLarge what) = too_large_line what
gen_line_of (error.Unsupported what place) = unsupported_line what place
gen_line_of (error.NameClash clash) = name_clash_line (entry_of clash)
gen_line_of (error.UnusedWith keys) = unused_with_line keys
gen_line_of (error.UnusedSelector selectors) = unused_selector_line selectors
gen_line_of (error.UnusedChainable entry) = unused_chainable_line entry
gen_line_of error.OutOfMemory = word piece.OutOfMemoryLine

-- every refusal

abbrev pub line_of : Refusal → List ℕ
line_of Usage = word piece.UsageLine
line_of ReadFault = word piece.ReadFaultLine
line_of InputTooLong = word piece.InputTooLongLine
line_of BadJson = word piece.BadJsonLine
line_of (Gen error) = gen_line_of error
line_of WriteFault = word piece.WriteFaultLine
line_of OutOfMemory = word piece.OutOfMemoryLine
