-- The cause of a refusal, carried from the call that finds it to the whole run.
use Rattle.std.proofs.Common.{◌≡◌, ◌≢◌, ◌∙◌, ap, ℕ, ◌+◌, List, [], true, Err, Some, refl, subst, sym, arith}
use Rattle.std.proofs.Common.{inl, inr}
use Rattle.gen_accept.specs.declared.error.GenError.{GenError}
use Rattle.gen_accept.specs.declared.error.GenError.TheVariants as error
use Rattle.gen_files.specs.Entries.{Entry, with_pushed}
use Rattle.gen_accept.specs.Cause.{IsAnswer, cause}
use Rattle.rust_gen.specs.Generated.{Gains}
use Rattle.wit_ends.specs.Input.{Loses}
use Rattle.wit_refusal.specs.declared.refusal.Refusal.{Refusal}
use Rattle.wit_refusal.specs.declared.refusal.Refusal.TheVariants as refusal
use Rattle.wit_commands.specs.declared.input.Input.{Input}
use Rattle.wit_commands.specs.Input.{input_in}
use Rattle.wit_commands.specs.Made.{IsBytesCause, IsGenCause, only_bytes}
use Rattle.wit_commands.specs.Outcome.{Came, IsCause, IsReadCause, IsReadInPart, IsRefusal, IsSameOrMemory, IsTold, IsUntouched, Stretch, input_limit}
use Rattle.wit_commands.specs.Words.{is_generate}

-- a file pushed into no files is the only one
pub fresh_file : {old new : List Entry} {name content : List ℕ} → old ≡ [] → Gains old new name content → only_bytes new ≡ content
unfolding with_pushed
fresh_file {name = name} {content = content} e g = ap only_bytes g.exact ∙ ap (λ files. only_bytes (with_pushed files name content)) e

-- an equal line is told
pub told_as : (fault : Stretch) {line other : List ℕ} → line ≡ other → IsTold fault line → IsTold fault other
told_as fault e t = subst (IsTold fault) e t

module _ (bytes : List ℕ) (input : Input) (asked : input_in bytes ≡ Some input) where
  pub gen_cause : (T : Type 0) (e : GenError) → IsAnswer {T = T} (Err e) (cause input.opts input.resolve input.world) → IsGenCause bytes e
  gen_cause T (error.InvalidWorld rule table index) h = (input, asked, h)
  gen_cause T (error.InvalidOption field index) h = (input, asked, h)
  gen_cause T (error.MissingWith key) h = (input, asked, h)
  gen_cause T (error.TooLarge what) h = (input, asked, h)
  gen_cause T (error.Unsupported what place) h = (input, asked, h)
  gen_cause T (error.NameClash clash) h = (input, asked, h)
  gen_cause T (error.UnusedWith keys) h = (input, asked, h)
  gen_cause T (error.UnusedSelector selectors) h = (input, asked, h)
  gen_cause T (error.UnusedChainable entry) h = (input, asked, h)
  gen_cause T error.OutOfMemory h = tt

module _ (words : List (List ℕ)) (source : Stretch) where
  -- bytes that are read to the end are no more than an input may have
  read_in_part : (bytes : List ℕ) → Came source bytes → IsReadInPart source
  read_in_part bytes came = (bytes, omega (arith, came.within), came.all)

  -- so many bytes are at most so many
  lost_in_part : Loses source.before source.after (input_limit + 1) → IsReadInPart source
  lost_in_part lost = (lost.0, omega (arith, lost.1), lost.2)

  pub from_reading : (r : Refusal) → is_generate words ≡ true → IsReadCause source r → IsCause words source r
  from_reading refusal.Usage g h = absurd h
  from_reading refusal.ReadFault g h = (g, h.0, h.1)
  from_reading refusal.InputTooLong g h = (g, h)
  from_reading refusal.BadJson g h = absurd h
  from_reading (refusal.Gen e) g h = absurd h
  from_reading refusal.WriteFault g h = absurd h
  from_reading refusal.OutOfMemory g h = inr (g, h)

  pub from_bytes : (r : Refusal) → is_generate words ≡ true → (bytes : List ℕ) → Came source bytes → IsBytesCause bytes r → IsCause words source r
  from_bytes refusal.Usage g bytes came h = absurd h
  from_bytes refusal.ReadFault g bytes came h = absurd h
  from_bytes refusal.InputTooLong g bytes came h = absurd h
  from_bytes refusal.BadJson g bytes came h = (g, bytes, came, h)
  from_bytes (refusal.Gen e) g bytes came h = (g, bytes, came, h)
  from_bytes refusal.WriteFault g bytes came h = absurd h
  from_bytes refusal.OutOfMemory g bytes came h = inr (g, read_in_part bytes came)

  pub unwritten : (out : Stretch) (r : Refusal) → IsUntouched out → IsCause words source r → IsRefusal words source out r
  unwritten out refusal.Usage u h = (h, u)
  unwritten out refusal.ReadFault u h = (h, u)
  unwritten out refusal.InputTooLong u h = (h, u)
  unwritten out refusal.BadJson u h = (h, u)
  unwritten out (refusal.Gen e) u h = (h, u)
  unwritten out refusal.WriteFault u h = absurd h
  unwritten out refusal.OutOfMemory u h = (h, u)

  untouched : (out : Stretch) (r : Refusal) → r ≢ refusal.WriteFault → IsRefusal words source out r → IsUntouched out
  untouched out refusal.Usage n h = h.1
  untouched out refusal.ReadFault n h = h.1
  untouched out refusal.InputTooLong n h = h.1
  untouched out refusal.BadJson n h = h.1
  untouched out (refusal.Gen e) n h = h.1
  untouched out refusal.WriteFault n h = absurd (n refl)
  untouched out refusal.OutOfMemory n h = h.1

  -- what a refusal before the output takes from the source, a want of memory may take too
  as_memory : (out : Stretch) (r : Refusal) → r ≢ refusal.WriteFault → IsRefusal words source out r → IsCause words source refusal.OutOfMemory
  as_memory out refusal.Usage n h = inl h.0
  as_memory out refusal.ReadFault n h = inr (h.0.0, h.0.2)
  as_memory out refusal.InputTooLong n h = inr (h.0.0, lost_in_part h.0.1)
  as_memory out refusal.BadJson n h = inr (h.0.0, read_in_part h.0.1 h.0.2)
  as_memory out (refusal.Gen e) n h = inr (h.0.0, read_in_part h.0.1 h.0.2)
  as_memory out refusal.WriteFault n h = absurd (n refl)
  as_memory out refusal.OutOfMemory n h = h.0

  -- a refusal for whose line there is no memory is a want of memory
  pub as_told : (out : Stretch) (first r : Refusal) → IsRefusal words source out first → IsSameOrMemory first r → IsRefusal words source out r
  as_told out first r h (inl e) = subst (IsRefusal words source out) (sym e) h
  as_told out first r h (inr m) = subst (IsRefusal words source out) (sym m.1) (as_memory out first m.0 h, untouched out first m.0 h)
