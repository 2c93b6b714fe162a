-- The status and the line of each cause, by worked rows.
use Rattle.std.proofs.Common.{◌≡◌, ℕ, List, [], ◌∷◌, ◌++◌, refl}
use Rattle.std.specs.Prelude.{codes, decimal}
use Rattle.gen_accept.specs.declared.error.Clash.TheVariants.{Twice, NotIdent}
use Rattle.gen_accept.specs.declared.error.Entry.{Entry}
use Rattle.gen_accept.specs.declared.error.GenError.TheVariants as error
use Rattle.gen_accept.specs.declared.error.Lack.TheVariants as lack
use Rattle.gen_accept.specs.declared.error.MissingWith.{MissingWith}
use Rattle.gen_accept.specs.declared.error.TooLarge.TheVariants.{Type_, Func}
use Rattle.gen_accept.specs.LackText.{lack_text}
use Rattle.wit_model.specs.declared.name.TypeId.{TypeId}
use Rattle.wit_model.specs.declared.resolve.Rule.TheVariants as rule
use Rattle.wit_model.specs.declared.resolve.Table.TheVariants as table
use Rattle.wit_refusal.specs.declared.refusal.Refusal.{Refusal}
use Rattle.wit_refusal.specs.declared.refusal.Refusal.TheVariants as refusal
use Rattle.wit_refusal.specs.declared.refusal.Refusal.TheVariants.{Usage, ReadFault, InputTooLong, BadJson, Gen, WriteFault}
use Rattle.wit_refusal.specs.Line.{line_of}
use Rattle.wit_refusal.specs.Status.{status_of}
use Rattle.wit_refusal.specs.Word.{word}

-- a cause is told by this status and this line
abbrev Tells : Refusal → ℕ → List ℕ → Type 0
Tells cause status line = (status_of cause ≡ status) × (line_of cause ≡ line)

-- that this rule is broken by the entry of a table at a place
abbrev rule_line : ℕ → List ℕ → ℕ → List ℕ
rule_line nth table place = codes "invalid world: rule " ++ decimal nth ++ codes " at " ++ table ++ codes " " ++ decimal place ++ codes "\n"

abbrev key : List ℕ → MissingWith
key k = record { 0 = k }

abbrev at : ℕ → TypeId
at id = record { 0 = id }

-- the name `arg0` in the scope of `run`, at the top of a world
abbrev entry : Entry
entry = record { «module» = codes "$root"; scope = codes "run"; name = codes "arg0" }

-- causes outside the generator

usage : Tells Usage 2 (codes "usage: wit_program generate, or wit_program sample N\n")
unfolding word
usage = (refl, refl)

read_fault : Tells ReadFault 3 (codes "read fault\n")
unfolding word
read_fault = (refl, refl)

input_too_long : Tells InputTooLong 4 (codes "input longer than 67108864 bytes\n")
unfolding word
input_too_long = (refl, refl)

bad_json : Tells BadJson 5 (codes "not a bindings document\n")
unfolding word
bad_json = (refl, refl)

write_fault : Tells WriteFault 15 (codes "write fault\n")
unfolding word
write_fault = (refl, refl)

out_of_memory : Tells refusal.OutOfMemory 16 (codes "out of memory\n")
unfolding word
out_of_memory = (refl, refl)

generator_out_of_memory : Tells (Gen error.OutOfMemory) 16 (codes "out of memory\n")
unfolding word
generator_out_of_memory = (refl, refl)

-- options with a fault

option_field : Tells (Gen (error.InvalidOption (codes "with") 4294967295)) 7 (codes "invalid option: with " ++ decimal 4294967295 ++ codes "\n")
unfolding word
option_field = (refl, refl)

missing_with : Tells (Gen (error.MissingWith (key (codes "my:dep/a@1.0.0")))) 8 (codes "missing `with` mapping for the key `my:dep/a@1.0.0`\n")
unfolding word
missing_with = (refl, refl)

unused_chaining : Tells (Gen (error.UnusedChainable (codes "frob"))) 14 (codes "unused chaining entry: frob\n")
unfolding word
unused_chaining = (refl, refl)

unused_selectors : Tells (Gen (error.UnusedSelector (codes "a/b.c" ∷ codes "\"" ∷ []))) 13 (codes "unused selectors provided via `additional_type_attributes` / `additional_member_attributes`: [\"a/b.c\", \"\\\"\"]\n")
unfolding word
unused_selectors = (refl, refl)

no_keys : Tells (Gen (error.UnusedWith [])) 12 (codes "unused remappings provided via `with`: []\n")
unfolding word
no_keys = (refl, refl)

keys : Tells (Gen (error.UnusedWith (codes "a" ∷ codes "b" ∷ codes "" ∷ []))) 12 (codes "unused remappings provided via `with`: [\"a\", \"b\", \"\"]\n")
unfolding word
keys = (refl, refl)

escaped_keys : Tells (Gen (error.UnusedWith (codes "a\"b\\" ∷ codes "e\\\"u" ∷ []))) 12 (codes "unused remappings provided via `with`: [\"a\\\"b\\\\\", \"e\\\\\\\"u\"]\n")
unfolding word
escaped_keys = (refl, refl)

-- faults of the world

large_type : Tells (Gen (error.TooLarge (Type_ (at 0)))) 9 (codes "too large: type " ++ decimal 0 ++ codes "\n")
unfolding word
large_type = (refl, refl)

large_function : Tells (Gen (error.TooLarge (Func (codes "my:dep/a#run")))) 9 (codes "too large: function my:dep/a#run\n")
unfolding word
large_function = (refl, refl)

twice : Tells (Gen (error.NameClash (Twice entry))) 11 (codes "name clash: arg0 in $root\n")
unfolding word
twice = (refl, refl)

not_ident : Tells (Gen (error.NameClash (NotIdent entry))) 11 (codes "name clash: arg0 in $root\n")
unfolding word
not_ident = (refl, refl)

-- each rule, by its number, and each table

rule_1 : Tells (Gen (error.InvalidWorld rule.IndexRange table.World 20)) 6 (rule_line 1 (codes "world") 20)
unfolding word
rule_1 = (refl, refl)

rule_2 : Tells (Gen (error.InvalidWorld rule.TypeOrder table.Type_ 20)) 6 (rule_line 2 (codes "type") 20)
unfolding word
rule_2 = (refl, refl)

rule_3 : Tells (Gen (error.InvalidWorld rule.Members table.Type_ 20)) 6 (rule_line 3 (codes "type") 20)
unfolding word
rule_3 = (refl, refl)

rule_4 : Tells (Gen (error.InvalidWorld rule.MapKey table.Type_ 20)) 6 (rule_line 4 (codes "type") 20)
unfolding word
rule_4 = (refl, refl)

rule_5 : Tells (Gen (error.InvalidWorld rule.HandleTarget table.Type_ 20)) 6 (rule_line 5 (codes "type") 20)
unfolding word
rule_5 = (refl, refl)

rule_6 : Tells (Gen (error.InvalidWorld rule.BorrowPlace table.Type_ 20)) 6 (rule_line 6 (codes "type") 20)
unfolding word
rule_6 = (refl, refl)

rule_7 : Tells (Gen (error.InvalidWorld rule.SelfParam table.Interface 20)) 6 (rule_line 7 (codes "interface") 20)
unfolding word
rule_7 = (refl, refl)

rule_8 : Tells (Gen (error.InvalidWorld rule.Constructor table.Interface 20)) 6 (rule_line 8 (codes "interface") 20)
unfolding word
rule_8 = (refl, refl)

rule_9 : Tells (Gen (error.InvalidWorld rule.MissingName table.Type_ 20)) 6 (rule_line 9 (codes "type") 20)
unfolding word
rule_9 = (refl, refl)

rule_10 : Tells (Gen (error.InvalidWorld rule.Owner table.Type_ 20)) 6 (rule_line 10 (codes "type") 20)
unfolding word
rule_10 = (refl, refl)

rule_11 : Tells (Gen (error.InvalidWorld rule.Listing table.Interface 20)) 6 (rule_line 11 (codes "interface") 20)
unfolding word
rule_11 = (refl, refl)

rule_12 : Tells (Gen (error.InvalidWorld rule.UnknownKind table.Type_ 20)) 6 (rule_line 12 (codes "type") 20)
unfolding word
rule_12 = (refl, refl)

rule_13 : Tells (Gen (error.InvalidWorld rule.NameText table.Package 20)) 6 (rule_line 13 (codes "package") 20)
unfolding word
rule_13 = (refl, refl)

-- all that is not supported

lacks_async : Tells (Gen (error.Unsupported lack.Async (codes "my:dep/a/t"))) 10 (codes "unsupported: async at my:dep/a/t\n")
unfolding word lack_text
lacks_async = (refl, refl)

lacks_future : Tells (Gen (error.Unsupported lack.Future (codes "my:dep/a/t"))) 10 (codes "unsupported: future at my:dep/a/t\n")
unfolding word lack_text
lacks_future = (refl, refl)

lacks_stream : Tells (Gen (error.Unsupported lack.Stream (codes "my:dep/a/t"))) 10 (codes "unsupported: stream at my:dep/a/t\n")
unfolding word lack_text
lacks_stream = (refl, refl)

lacks_error_context : Tells (Gen (error.Unsupported lack.ErrorContext (codes "my:dep/a/t"))) 10 (codes "unsupported: error-context at my:dep/a/t\n")
unfolding word lack_text
lacks_error_context = (refl, refl)

lacks_flags : Tells (Gen (error.Unsupported lack.Flags (codes "my:dep/a/t"))) 10 (codes "unsupported: flags at my:dep/a/t\n")
unfolding word lack_text
lacks_flags = (refl, refl)

lacks_world_resource : Tells (Gen (error.Unsupported lack.WorldResource (codes "my:dep/a/t"))) 10 (codes "unsupported: world resource at my:dep/a/t\n")
unfolding word lack_text
lacks_world_resource = (refl, refl)

lacks_remapped_export : Tells (Gen (error.Unsupported lack.RemappedExport (codes "my:dep/a/t"))) 10 (codes "unsupported: remapped export at my:dep/a/t\n")
unfolding word lack_text
lacks_remapped_export = (refl, refl)

lacks_remapped_import : Tells (Gen (error.Unsupported lack.RemappedImport (codes "my:dep/a/t"))) 10 (codes "unsupported: remapped import at my:dep/a/t\n")
unfolding word lack_text
lacks_remapped_import = (refl, refl)

lacks_borrow_in_fixed_list : Tells (Gen (error.Unsupported lack.BorrowInFixedList (codes "my:dep/a/t"))) 10 (codes "unsupported: borrow in fixed list at my:dep/a/t\n")
unfolding word lack_text
lacks_borrow_in_fixed_list = (refl, refl)

lacks_borrow_in_list : Tells (Gen (error.Unsupported lack.BorrowInList (codes "my:dep/a/t"))) 10 (codes "unsupported: borrow in list at my:dep/a/t\n")
unfolding word lack_text
lacks_borrow_in_list = (refl, refl)

lacks_owning_chain : Tells (Gen (error.Unsupported lack.OwningChain (codes "my:dep/a/t"))) 10 (codes "unsupported: owning chain at my:dep/a/t\n")
unfolding word lack_text
lacks_owning_chain = (refl, refl)

lacks_unbuilt : Tells (Gen (error.Unsupported lack.Unbuilt (codes "my:dep/a/t"))) 10 (codes "unsupported: unbuilt at my:dep/a/t\n")
unfolding word lack_text
lacks_unbuilt = (refl, refl)
