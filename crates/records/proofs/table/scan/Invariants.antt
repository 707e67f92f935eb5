-- The first pass answers as `read_answer` has it. Assumes nothing.
use Rattle.records.proofs.ScanLaws.{Scans}
use Rattle.records.proofs.table.scan.Given as goal

abbrev pub invariant-loop-item : goal.invariant-loop-item
invariant-loop-item l = Scans l.s l.room l.item-iterator l.n l.over
