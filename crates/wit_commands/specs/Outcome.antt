-- What a run of the program answers: each status by its cause, and what its three ends hold after it.
use Rattle.std.specs.Prelude.{◌≡◌, ◌≢◌, ℕ, ◌+◌, ◌<◌, ◌≤◌, true, false, List, Option, None, length, take, MatchOption, ◌⊎◌}
use Rattle.std.specs.Io.KnownBytes.{prepend_known, append_known, IsAtEnd}
use Rattle.rust_tree.specs.Text.{text}
use Rattle.rust_tree.specs.Tree.{Tree}
use Rattle.wit_ends.specs.Faults.{Rose}
use Rattle.wit_ends.specs.Input.{Loses, LosesAtMost}
use Rattle.wit_refusal.specs.declared.refusal.Refusal.{Refusal}
use Rattle.wit_refusal.specs.declared.refusal.Refusal.TheVariants as refusal
use Rattle.wit_refusal.specs.Line.{line_of}
use Rattle.wit_refusal.specs.Status.{status_of}
use Rattle.wit_commands.specs.declared.outcome.Outcome.{Outcome}
use Rattle.wit_commands.specs.Words.{is_generate}
use Rattle.wit_commands.specs.Input.{input_in}
use Rattle.wit_commands.specs.Made.{Makes, IsGenCause}
use Rattle.wit_model.specs.Bytes.{Bytes}

-- an end before and after a stretch of calls: its bytes, where it tells them, and its count of faults
pub record Stretch : Type 0 where
  pub before : Option Bytes
  pub after : Option Bytes
  pub faults_before : ℕ
  pub faults_after : ℕ

-- from an end's old state to its new one
abbrev pub across : {End : Type 0} → (End → Option Bytes) → (End → ℕ) → End → End → Stretch
across bytes faults old new = record { before = bytes old; after = bytes new; faults_before = faults old; faults_after = faults new }

abbrev pub IsUntouched : Stretch → Type 0
IsUntouched end = (end.after ≡ end.before) × (end.faults_after ≡ end.faults_before)

abbrev pub HasFailed : Stretch → Type 0
HasFailed end = Rose end.faults_before end.faults_after

-- the most bytes that an input may have
abbrev pub input_limit : ℕ
input_limit = 67_108_864

-- these bytes came from the source, which was read to its end
pub record Came (source : Stretch) (bytes : Bytes) : Type 0 where
  pub all : source.before ≡ prepend_known bytes source.after
  pub at_end : IsAtEnd source.after
  pub within : length bytes ≤ input_limit

-- bytes were read and are gone, at most one more than an input may have
abbrev pub IsReadInPart : Stretch → Type 0
IsReadInPart source = LosesAtMost source.before source.after (input_limit + 1)

-- the cause of a refusal that lies in the reading
abbrev pub IsReadCause : Stretch → Refusal → Type 0
IsReadCause source refusal.ReadFault = HasFailed source × IsReadInPart source
IsReadCause source refusal.InputTooLong = Loses source.before source.after (input_limit + 1)
IsReadCause source refusal.OutOfMemory = IsReadInPart source
IsReadCause source _ = ⊥

-- the tree is made of the bytes that came
abbrev pub MakesOf : List Bytes → Stretch → Tree → Type 0
MakesOf words source tree = (is_generate words ≡ true) × (bytes : Bytes) × Came source bytes × Makes bytes tree

-- the words are no command, and nothing is read
abbrev pub IsUnread : List Bytes → Stretch → Type 0
IsUnread words source = (is_generate words ≡ false) × IsUntouched source

-- why no tree is made: for the words, for the reading, or for the bytes that came; and what is gone from the source. When
-- want of memory comes is free
abbrev pub IsCause : List Bytes → Stretch → Refusal → Type 0
IsCause words source refusal.Usage = IsUnread words source
IsCause words source refusal.ReadFault = (is_generate words ≡ true) × HasFailed source × IsReadInPart source
IsCause words source refusal.InputTooLong = (is_generate words ≡ true) × Loses source.before source.after (input_limit + 1)
IsCause words source refusal.BadJson = (is_generate words ≡ true) × (bytes : Bytes) × Came source bytes × (input_in bytes ≡ None)
IsCause words source (refusal.Gen e) = (is_generate words ≡ true) × (bytes : Bytes) × Came source bytes × IsGenCause bytes e
IsCause words source refusal.WriteFault = ⊥
IsCause words source refusal.OutOfMemory = IsUnread words source ⊎ ((is_generate words ≡ true) × IsReadInPart source)

-- the sink has taken all of a text
abbrev pub TakesAll : Stretch → Bytes → Type 0
TakesAll sink t = sink.after ≡ append_known sink.before t

-- the sink has failed, and has taken a part of a text, from its front
abbrev pub TakesPart : Stretch → Bytes → Type 0
TakesPart sink t = HasFailed sink × (n : ℕ) × (n < length t) × (sink.after ≡ append_known sink.before (take n t))

-- a refusal: before anything is written, or where the sink fails
abbrev pub IsRefusal : List Bytes → Stretch → Stretch → Refusal → Type 0
IsRefusal words source out refusal.WriteFault = (tree : Tree) × MakesOf words source tree × TakesPart out (text tree)
IsRefusal words source out r = IsCause words source r × IsUntouched out

abbrev pub Succeeds : List Bytes → Stretch → Stretch → Tree → Type 0
Succeeds words source out tree = MakesOf words source tree × TakesAll out (text tree)

-- the fault sink has the refusal's line, or it has failed
abbrev pub IsTold : Stretch → Bytes → Type 0
IsTold fault line = TakesAll fault line ⊎ TakesPart fault line

-- with a tree the status is 0 and the output has its text; else the status is that of a refusal, and its line is told
pub record IsOutcome (words : List Bytes) (source out fault : Stretch) (outcome : Outcome) : Type 0 where
  pub answer : MatchOption outcome.bindings
      ((r : Refusal) × (outcome.status ≡ status_of r) × IsRefusal words source out r × IsTold fault (line_of r))
      (λ tree. (outcome.status ≡ 0) × Succeeds words source out tree × IsUntouched fault)

-- the refusal is told, or want of memory for its line is; a write fault's line needs none
abbrev pub IsSameOrMemory : Refusal → Refusal → Type 0
IsSameOrMemory first r = (r ≡ first) ⊎ ((first ≢ refusal.WriteFault) × (r ≡ refusal.OutOfMemory))

-- a refusal is told, with its status
abbrev pub Reports : Refusal → Stretch → ℕ → Type 0
Reports first fault status = (r : Refusal) × IsSameOrMemory first r × (status ≡ status_of r) × IsTold fault (line_of r)
