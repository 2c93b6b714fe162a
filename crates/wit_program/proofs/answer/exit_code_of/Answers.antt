use Rattle.std.proofs.Common.{◌≡◌, ℕ, List, Result, Ok, subst, sym}
use Rattle.wit_model.specs.Bytes.{Bytes}
use Rattle.wit_model.specs.declared.memory.OutOfMemory.{OutOfMemory}
use Rattle.wit_commands.specs.declared.outcome.Outcome.{Outcome}
use Rattle.wit_commands.specs.Outcome.{IsOutcome, Stretch}
use Rattle.wit_program.specs.Answer.{Answers}
use Rattle.wit_program.proofs.answer.exit_code_of.Goals as goal

-- the status of the run of the words that there are
answered : (given : Result (List Bytes) OutOfMemory) (words run : List Bytes) (source out fault : Stretch) (status : ℕ) (outcome : Outcome) → given ≡ Ok words → run ≡ words → IsOutcome run source out fault outcome → status ≡ outcome.status → Answers given source out fault status
answered given words run source out fault status outcome is same ran ends =
    subst (λ g. Answers g source out fault status) (sym is) (outcome, subst (λ w. IsOutcome w source out fault outcome) same ran, ends)

pub returns-in-Ok : goal.returns-in-Ok
returns-in-Ok g c = answered _ _ _ _ _ _ _ c.run_words-outcome.result c.in-Ok.is c.as_slice.ensures c.run_words-outcome.ensures c.from.ensures
