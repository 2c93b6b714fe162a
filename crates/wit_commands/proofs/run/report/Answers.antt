use Rattle.std.proofs.Common.{inl, inr, refl, sym}
use Rattle.wit_refusal.specs.declared.refusal.Refusal.TheVariants as refusal
use Rattle.wit_commands.proofs.Causes.{told_as}
use Rattle.wit_commands.proofs.run.report.Goals as goal

pub returns-in-WriteFault : goal.returns-in-WriteFault
returns-in-WriteFault g c = (refusal.WriteFault, inl (sym c.in-WriteFault.is), c.status.ensures, told_as _ c.write_fault_line.ensures c.tell.ensures)

pub returns-in-Err : goal.returns-in-Err
returns-in-Err g c = (refusal.OutOfMemory, inr (c.in_default.not-WriteFault, refl), c.status-in-Err.ensures, told_as _ c.out_of_memory_line.ensures c.tell-in-Err.ensures)
