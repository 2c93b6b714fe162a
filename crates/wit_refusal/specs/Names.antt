-- How a line names a rule and a table.
use Rattle.std.specs.Prelude.{ℕ, List, codes}
use Rattle.wit_model.specs.declared.resolve.Rule.{Rule}
use Rattle.wit_model.specs.declared.resolve.Rule.TheVariants.{IndexRange, TypeOrder, Members, MapKey, HandleTarget, BorrowPlace, SelfParam, Constructor, MissingName, Owner, Listing, UnknownKind, NameText}
use Rattle.wit_model.specs.declared.resolve.Table.{Table}
use Rattle.wit_model.specs.declared.resolve.Table.TheVariants.{Package, Interface, Type_, World}

-- a rule's place, counted from 1
abbrev pub rule_number_of : Rule → ℕ
rule_number_of IndexRange = 1
rule_number_of TypeOrder = 2
rule_number_of Members = 3
rule_number_of MapKey = 4
rule_number_of HandleTarget = 5
rule_number_of BorrowPlace = 6
rule_number_of SelfParam = 7
rule_number_of Constructor = 8
rule_number_of MissingName = 9
rule_number_of Owner = 10
rule_number_of Listing = 11
rule_number_of UnknownKind = 12
rule_number_of NameText = 13

-- what an entry of a table is
abbrev pub table_text : Table → List ℕ
table_text Package = codes "package"
table_text Interface = codes "interface"
table_text Type_ = codes "type"
table_text World = codes "world"
