use Rattle.std.proofs.Common.{◌<◌, ◌≤◌, ◌+◌, ◌-◌, [], ◌∷◌, ◌++◌, drop, get_or, sym, subst, ◌∙◌, arith}
use Rattle.std.proofs.lemmas.List.{at_drop_more, drop_all}
use Rattle.wrapper_run.specs.Memory.{bytes_from}
use Rattle.wrapper_run.proofs.MemoryLemmas.{Reads, below, positive, reads_end, reads_none, reads_skip, reads_take}
use Rattle.wrapper_run.proofs.memory.bytes_from.Goals.{then-from-next+in_ok-push, else-from-next}
use Rattle.wrapper_run.proofs.memory.bytes_from.Goals as goal

pub returns-then-next-from : goal.returns-then-next-from
returns-then-next-from c =
    let cells = c.args.cells.now in
    let all = bytes_from cells c.args.offset c.args.size in
    let l = c.loop-cell in
    let cell = get_or cells l.cell-index (0, 0) in
    reads_none l.bytes cell (drop (l.cell-index + 1) cells) l.next l.left all (positive l.left c.if-left-eq0.false) (subst (λ n. l.next < n) c.from.ensures c.if-next-from.true)
    (subst (λ cs. Reads l.bytes cs l.next l.left all) (at_drop_more (λ cs. cs) cells l.cell-index (0, 0) c.loop-cell-test.true) l.invariant)

pub loop-cell-preserved : goal.loop-cell-preserved
loop-cell-preserved c =
    let cells = c.args.cells.now in
    let all = bytes_from cells c.args.offset c.args.size in
    let l = c.loop-cell in
    let cell = get_or cells l.cell-index (0, 0) in
    let rest = drop (l.cell-index + 1) cells in
    let here : Reads l.bytes (cell ∷ rest) l.next l.left all = subst (λ cs. Reads l.bytes cs l.next l.left all) (at_drop_more (λ cs. cs) cells l.cell-index (0, 0) c.loop-cell-test.true) l.invariant in
    let some = positive l.left c.if-left-eq0.false in
    elim c.if-from-next.branch [
      | then-from-next+in_ok-push w ↦
          subst (λ bs. Reads bs rest c.if-from-next.next c.if-from-next.left all) (sym (w.bytes-is ∙ w.in_ok-push.ensures.ok))
          (subst (λ n. Reads (l.bytes ++ cell.1 ∷ []) rest n c.if-from-next.left all) (sym w.next-is)
          (subst (λ n. Reads (l.bytes ++ cell.1 ∷ []) rest (l.next + 1) n all) (sym w.left-is)
          (reads_take l.bytes cell rest l.next l.left (l.left - 1) all (omega arith) (sym c.from-in-loop-cell.ensures ∙ w.if-from-next.true) here)))
      | else-from-next w ↦
          subst (λ bs. Reads bs rest c.if-from-next.next c.if-from-next.left all) (sym w.bytes-is)
          (subst (λ n. Reads l.bytes rest n c.if-from-next.left all) (sym w.next-is)
          (subst (λ n. Reads l.bytes rest l.next n all) (sym w.left-is)
          (reads_skip l.bytes cell rest l.next l.left all some
          (below cell.0 l.next (subst (λ n. n ≤ l.next) c.from.ensures c.if-next-from.false) (λ h. w.if-from-next.false (c.from-in-loop-cell.ensures ∙ h))) here)))
    ]

pub returns-else-left-eq0-2 : goal.returns-else-left-eq0-2
returns-else-left-eq0-2 c =
    let cells = c.args.cells.now in
    let all = bytes_from cells c.args.offset c.args.size in
    let l = c.loop-cell in
    reads_end l.bytes l.next l.left all (positive l.left c.if-left-eq0-2.false)
    (subst (λ cs. Reads l.bytes cs l.next l.left all) (drop_all l.cell-index cells c.loop-cell-test.false) l.invariant)
