use Rattle.wrapper_run.proofs.run.begin.Goals as goal

pub returns : goal.returns
returns c = search (c.new.ensures, c.new-2.ensures, c.new-3.ensures, c.in_ok-copy.ensures, c.in_ok-from_slice.ensures, c.as_slice.ensures)
