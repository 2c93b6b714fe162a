use Rattle.std.proofs.Common.{◌≡◌, ◌<◌, ◌≤◌, ◌∙◌, ◌++◌, ◌∷◌, ◌-◌, ◌+◌, List, Option, [], length, take, set, get_or, Some, ap, sym, arith}
use Rattle.std.specs.List.{slice_get}
use Rattle.std.proofs.lemmas.List.{take_more, take_more_set}
use Rattle.wit_model.specs.declared.types.WitType.{WitType}
use Rattle.wit_layout.specs.declared.ahead.Run.{Run}
use Rattle.wit_layout.specs.inside.Ahead.{IsRun, runs}
use Rattle.wit_layout.specs.inside.Sequence.{members_at}
use Rattle.wit_layout.proofs.AheadSteps.{last_is, next_of_more, next_of_last}
use Rattle.wit_layout.proofs.SequenceSteps.{members_read}
use Rattle.wit_layout.proofs.ahead.Ahead.next.Goals as goal
use Rattle.wit_layout.proofs.ahead.Ahead.next.Goals.{then-nth-end, else-nth-end}

pub returns-clause-members : goal.returns-clause-members
returns-clause-members c =
    let types = c.args.types.now in
    let all = c.args.self.now.runs in
    let last = c.args.self.now.count - 1 in
    let front = take last all in
    let run : Run = get_or all last (record { at = 0; nth = 0 }) in
    let one : last + 1 ≡ c.args.self.now.count = omega (arith, c.if-self-eq0.false) in
    let within : last < length all = omega (arith, c.args.self.now.bounded, c.args.self.now.whole, one) in
    let old : runs c.args.self.now ≡ front ++ run ∷ [] = sym (ap (λ n. take n all) one) ∙ take_more all last (record { at = 0; nth = 0 }) within in
    let valid : IsRun types run = last_is (IsRun types) (runs c.args.self.now) front run old c.requires.valid in
    let ms = members_read types run.at c.index-types-at.result valid.0 in
    let here : slice_get (members_at types run.at) run.nth ≡ Some c.member.result = ap (λ (xs : List (Option WitType)). slice_get xs run.nth) ms ∙ c.member.ensures in
    elim c.if-nth-end.branch [
      | then-nth-end w ↦
          let new : runs c.if-nth-end.self ≡ front ++ record { at = run.at; nth = run.nth + 1 } ∷ [] = ap runs w.self-is ∙ sym (ap (λ n. take n (set all last (record { at = run.at; nth = run.nth + 1 }))) one) ∙ take_more_set all last (record { at = run.at; nth = run.nth + 1 }) within in
          next_of_more types (runs c.args.self.now) front (runs c.if-nth-end.self) run.at run.nth c.member.result old here new
      | else-nth-end w ↦
          let done : length (members_at types run.at) ≤ run.nth + 1 = omega (arith, ap length ms, w.if-nth-end.false) in
          next_of_last types (runs c.args.self.now) front (runs c.if-nth-end.self) run.at run.nth c.member.result old here done (ap runs w.self-is)
    ]
