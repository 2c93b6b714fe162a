-- The exit status of each cause for which no file is made.
use Rattle.std.specs.Prelude.{ℕ}
use Rattle.gen_accept.specs.declared.error.GenError.{GenError}
use Rattle.gen_accept.specs.declared.error.GenError.TheVariants as error
use Rattle.wit_refusal.specs.declared.refusal.Refusal.{Refusal}
use Rattle.wit_refusal.specs.declared.refusal.Refusal.TheVariants.{Usage, ReadFault, InputTooLong, BadJson, Gen, WriteFault, OutOfMemory}

abbrev pub gen_status_of : GenError → ℕ
gen_status_of (error.InvalidWorld rule table index) = 6
gen_status_of (error.InvalidOption field index) = 7
gen_status_of (error.MissingWith key) = 8
gen_status_of (error.TooLarge what) = 9
gen_status_of (error.Unsupported what place) = 10
gen_status_of (error.NameClash clash) = 11
gen_status_of (error.UnusedWith keys) = 12
gen_status_of (error.UnusedSelector selectors) = 13
gen_status_of (error.UnusedChainable entry) = 14
gen_status_of error.OutOfMemory = 16

abbrev pub status_of : Refusal → ℕ
status_of Usage = 2
status_of ReadFault = 3
status_of InputTooLong = 4
status_of BadJson = 5
status_of (Gen error) = gen_status_of error
status_of WriteFault = 15
status_of OutOfMemory = 16
