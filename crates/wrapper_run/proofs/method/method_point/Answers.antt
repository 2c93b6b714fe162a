use Rattle.wrapper_run.proofs.method.method_point.Goals as goal

pub returns : goal.returns
returns c = search (c.new.ensures, c.in_ok-copy.ensures, c.in_ok-copy-2.ensures, c.in_ok-copy-3.ensures)
