-- How runs of the wrapper of an export end, whose result is a list of one text: it asks for the area and then for a block, both of eight bytes.
use Rattle.std.proofs.Common.{◌≡◌, List, [], ◌∷◌, ◌++◌, Option, Some, None, is_none, codes, length, length-append, slice_get, refl, sym, ap, arith, ◌∙◌}
use Rattle.std.proofs.lemmas.Bool.{true≢false}
use mathlib.Core.Logic.{inl, inr}
use Rattle.wrapper_data.specs.declared.choice.Choice.{Choice}
use Rattle.wrapper_data.specs.declared.choice.Choice.TheVariants as choice
use Rattle.wrapper_data.specs.declared.choice.Request.{Request}
use Rattle.wrapper_data.specs.declared.run.CallPoint.{CallPoint}
use Rattle.wrapper_data.specs.declared.run.Run.{Run}
use Rattle.wrapper_data.specs.declared.run.Stop.{Stop}
use Rattle.wrapper_data.specs.declared.run.Stop.TheVariants as stop
use Rattle.wrapper_data.specs.declared.run.Target.TheVariants as target
use Rattle.wrapper_data.specs.declared.run.TrapKind.TheVariants as trap
use Rattle.wrapper_data.specs.declared.word.Word.TheVariants as word
use Rattle.wrapper_meaning.specs.Due.{Bill, due, export_bill}
use Rattle.wrapper_meaning.specs.Ends.{Ends, Meets, Misfits, is_areas}
use Rattle.wrapper_meaning.specs.Shape.Shape.{text, list}
use Rattle.wrapper_meaning.specs.Shape.Shapes.{none, more}
use Rattle.wrapper_meaning.proofs.Lists.{first_or}

abbrev eight : Request
eight = record { size = 8; align = 4 }

abbrev bill : Bill
bill = export_bill 2 (Some (list text) ∷ []) none tt (Some (list text)) (codes "a" ∷ [])

is_due : due bill ≡ eight ∷ eight ∷ []
is_due = refl

abbrev call : CallPoint
call = record { target = target.Method (codes "Guest") (codes "f"); words = []; values = []; heap = record { blocks = [] } }

abbrev run_of : Stop → List Request → Run
run_of end made = record { stop = end; calls = call ∷ []; requests = made; heap = record { blocks = [] }; words = []; value = None }

-- 1. Done, after both

done : Ends bill (choice.At 512 ∷ choice.At 64 ∷ []) (call ∷ []) (λ run. Unit {0}) (run_of stop.Done (eight ∷ eight ∷ []))
done = record { call = call; once = refl; requests = λ weight. refl; area = refl; gives = tt }

-- a wrapper that calls twice
calls_twice : Ends bill (choice.At 512 ∷ choice.At 64 ∷ []) (call ∷ call ∷ []) (λ run. Unit {0}) (run_of stop.Done (eight ∷ eight ∷ [])) → ⊥
calls_twice done = omega (ap length done.once, arith)

-- one that asks for a block that is not due
asks_for_more : Ends bill (choice.At 512 ∷ choice.At 64 ∷ choice.At 128 ∷ []) (call ∷ []) (λ run. Unit {0}) (run_of stop.Done (eight ∷ eight ∷ eight ∷ [])) → ⊥
asks_for_more done = omega (done.requests (λ r. 1), arith)

-- one that asks for another area than its module's
asks_otherwise : Ends bill (choice.At 512 ∷ choice.At 64 ∷ []) (call ∷ []) (λ run. Unit {0}) (run_of stop.Done (record { size = 16; align = 4 } ∷ eight ∷ [])) → ⊥
asks_otherwise done = omega (ap (λ r. r.size) done.area, arith)

-- one that has no meaning
is_stuck : Ends bill [] [] (λ run. Unit {0}) (run_of (stop.Stuck 0) []) → ⊥
is_stuck ends = ends

-- one that traps
traps : Ends bill [] [] (λ run. Unit {0}) (run_of (stop.Trap trap.Pointer) []) → ⊥
traps ends = ends

-- the area is asked for first
abbrev of_two : Bill
of_two = export_bill 2 (Some (list text) ∷ []) none tt (Some (list text)) (codes "a" ∷ [] ∷ [])

out_of_place : Ends of_two (choice.At 64 ∷ choice.At 512 ∷ []) (call ∷ []) (λ run. Unit {0}) (run_of stop.Done (record { size = 16; align = 4 } ∷ eight ∷ [])) → ⊥
out_of_place done = omega (ap (λ r. r.size) done.area, arith)

-- 2. Refused, at the block

refused : Ends bill (choice.At 512 ∷ choice.Refuse ∷ []) (call ∷ []) (λ run. Unit {0}) (run_of (stop.Refused eight) (eight ∷ eight ∷ []))
refused = (
  inl (record { meets = record { earlier = eight ∷ []; last = refl; takes = refl }; due = (0, omega (arith), refl); no_area = refl }),
  record { requests = λ weight. omega (arith); area = refl; formed = refl; words = refl; value = refl },
)

-- one that asks for the block before the area (`area`)
block_before_area : Ends of_two (choice.Refuse ∷ []) (call ∷ []) (λ run. Unit {0}) (run_of (stop.Refused (record { size = 16; align = 4 })) (record { size = 16; align = 4 } ∷ [])) → ⊥
block_before_area (refusal, early) = omega (ap (λ r. r.size) early.area, arith)

-- one that gives a word all the same
gives_though_refused : Ends bill (choice.At 512 ∷ choice.Refuse ∷ []) (call ∷ []) (λ run. Unit {0}) (record (run_of (stop.Refused eight) (eight ∷ eight ∷ [])) { words = word.Pointer 512 ∷ [] }) → ⊥
gives_though_refused (refusal, early) = omega (ap length early.words, arith)

-- a run that asks alone for one, and meets a refusal, met it at the area
first_met : (b : Bill) (choices : List Choice) (request : Request) (met : Option Choice) (m : Meets choices (request ∷ []) request met) → length m.earlier ≡ 0
first_met b choices request met m = omega (ap length m.last, length-append m.earlier (request ∷ []), arith)

-- a wrapper that takes a guarded block for its area, and so is refused
of_the_area : Ends bill (choice.Refuse ∷ []) (call ∷ []) (λ run. Unit {0}) (run_of (stop.Refused eight) (eight ∷ [])) → ⊥
of_the_area (inl refusal, early) =
    true≢false (sym (ap (λ n. is_areas bill.area bill.before n) (first_met bill (choice.Refuse ∷ []) eight (Some choice.Refuse) refusal.meets)) ∙ refusal.no_area)
of_the_area (inr (there, large), early) = omega (large, arith)

-- 3. A choice that does not fit: an area meets a refusal, or an address that is no multiple of its alignment, or no choice is left

area_refused : Ends bill (choice.Refuse ∷ []) (call ∷ []) (λ run. Unit {0}) (run_of stop.BadChoice (eight ∷ []))
area_refused = (
  record { request = eight; met = Some choice.Refuse; meets = record { earlier = []; last = refl; takes = refl }; misfits = refl },
  record { requests = λ weight. omega (arith); area = refl; formed = refl; words = refl; value = refl },
)

misaligned : Ends bill (choice.At 513 ∷ []) (call ∷ []) (λ run. Unit {0}) (run_of stop.BadChoice (eight ∷ []))
misaligned = (
  record { request = eight; met = Some (choice.At 513); meets = record { earlier = []; last = refl; takes = refl }; misfits = (omega (arith), refl) },
  record { requests = λ weight. omega (arith); area = refl; formed = refl; words = refl; value = refl },
)

exhausted : Ends bill [] (call ∷ []) (λ run. Unit {0}) (run_of stop.BadChoice (eight ∷ []))
exhausted = (
  record { request = eight; met = None; meets = record { earlier = []; last = refl; takes = refl }; misfits = tt },
  record { requests = λ weight. omega (arith); area = refl; formed = refl; words = refl; value = refl },
)

-- a wrapper that takes most of the memory first, so that nothing else fits (`requests`)
takes_the_memory : Ends bill (choice.At 4096 ∷ choice.At 8192 ∷ []) [] (λ run. Unit {0}) (run_of stop.BadChoice (record { size = 2147483647; align = 1 } ∷ eight ∷ [])) → ⊥
takes_the_memory (misfit, early) = omega (early.requests (λ r. r.size), arith)

-- a wrapper that never calls, since it asks for a block without an alignment, which no address fits
abbrev rooms : Bill
rooms = export_bill 2 [] (more (list text) none) (codes "a" ∷ [] ∷ [], tt) None tt

abbrev unaligned : Request
unaligned = record { size = 2; align = 0 }

-- the only request is the last one
only : (earlier : List Request) (a r : Request) → a ∷ [] ≡ earlier ++ r ∷ [] → a ≡ r
only [] a r e = ap (first_or a) e
only (x ∷ earlier) a r e = absurd (omega (ap length e, length-append earlier (r ∷ []), arith))

never_calls : Ends rooms (choice.At 512 ∷ []) [] (λ run. Unit {0}) (run_of stop.BadChoice (unaligned ∷ [])) → ⊥
never_calls (misfit, early) = by_met misfit.request misfit.met misfit.meets misfit.misfits
  where
    by_met : (request : Request) (met : Option Choice) (m : Meets (choice.At 512 ∷ []) (unaligned ∷ []) request met) → Misfits (is_areas rooms.area rooms.before (length m.earlier)) [] request met → ⊥
    by_met request None m misfits =
        let place : length m.earlier ≡ 0 = omega (ap length m.last, length-append m.earlier (request ∷ []), arith) in
        let some : Some (choice.At 512) ≡ None = ap (slice_get (choice.At 512 ∷ [])) (sym place) ∙ m.takes in
        true≢false (sym (ap is_none some))
    by_met request (Some choice.Refuse) m misfits = true≢false (sym misfits)
    by_met request (Some (choice.At address)) m misfits = omega (misfits.0, ap (λ r. r.align) (only m.earlier unaligned request m.last), arith)
