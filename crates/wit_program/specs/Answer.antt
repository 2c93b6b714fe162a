-- With which status the program ends.
use Rattle.std.specs.Prelude.{◌≡◌, ℕ, List, Result, Ok, Err}
use Rattle.wit_model.specs.Bytes.{Bytes}
use Rattle.wit_model.specs.declared.memory.OutOfMemory.{OutOfMemory}
use Rattle.wit_refusal.specs.declared.refusal.Refusal.TheVariants as refusal
use Rattle.wit_refusal.specs.Status.{status_of}
use Rattle.wit_commands.specs.declared.outcome.Outcome.{Outcome}
use Rattle.wit_commands.specs.Outcome.{IsOutcome, IsUntouched, Stretch}

-- that of the run of the words, or that of want of memory, where there was none for the words
abbrev pub Answers : Result (List Bytes) OutOfMemory → Stretch → Stretch → Stretch → ℕ → Type 0
Answers (Ok words) source out fault status = (outcome : Outcome) × IsOutcome words source out fault outcome × (status ≡ outcome.status)
Answers (Err _) source out fault status = (status ≡ status_of refusal.OutOfMemory) × IsUntouched source × IsUntouched out × IsUntouched fault
