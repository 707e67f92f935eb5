-- The second pass enters the records that have room. Assumes nothing.
use Rattle.std.specs.Iterator.Adapters.{zip_first, zip_second}
use Rattle.records.specs.Columns.{Same, lists_of}
use Rattle.records.proofs.TableLaws.{Passing}
use Rattle.records.proofs.table.enter_records.Given as goal

abbrev pub invariant-loop-i : goal.invariant-loop-i
invariant-loop-i l = record {
  same : Same l.initial.columns l.columns;
  passing : Passing l.s (lists_of l.initial.columns) (lists_of l.columns) (zip_second l.i-iterator) (zip_first l.i-iterator).end (zip_first l.i-iterator).start;
}
