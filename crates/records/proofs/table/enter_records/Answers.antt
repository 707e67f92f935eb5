-- The second pass enters the records that have room. Assumes nothing.
use Rattle.std.proofs.Common.{rules, arith, inl, inr}
use Rattle.numbers.proofs.LittleLaws.{slice_bytes}
use Rattle.records.proofs.TableLaws.{pass_start, pass_at, pass_stop, pass_end, pass_full}
use Rattle.records.proofs.table.enter_records.Goals as goal

pub loop-i-init : goal.loop-i-init
loop-i-init c =
    record {
      same = search rules;
      passing = rw (c.into_iter-i-iterator.ensures.into_iter_gives, c.zip-i-items.ensures.first, c.zip-i-items.ensures.second) (pass_start c.room.ensures c.records_of.ensures c.requires);
    }

pub overflow_cast-columns : goal.overflow_cast-columns
overflow_cast-columns c =
    omega (arith, (pass_at c.loop-i.invariant.passing (slice_bytes c.args.s.now c.type_inv.s) (rw c.in-Ok.is at c.in-Some.ensures.steps)).place_small)

pub overflow_cast-columns-in-loop-i : goal.overflow_cast-columns-in-loop-i
overflow_cast-columns-in-loop-i c =
    omega (arith, (pass_at c.loop-i.invariant.passing (slice_bytes c.args.s.now c.type_inv.s) (rw c.in-Ok.is at c.in-Some.ensures.steps)).length_small)

pub overflow_cast-columns-in-loop-i-2 : goal.overflow_cast-columns-in-loop-i-2
overflow_cast-columns-in-loop-i-2 c =
    omega (
      arith,
      (pass_at c.loop-i.invariant.passing (slice_bytes c.args.s.now c.type_inv.s) (rw c.in-Ok.is at c.in-Some.ensures.steps)).parent_small c.parent-parent.ensures,
    )

pub loop-i-preserved : goal.loop-i-preserved
loop-i-preserved c =
    record {
      same = search (rules, c.loop-i.invariant.same);
      passing = (pass_at c.loop-i.invariant.passing (slice_bytes c.args.s.now c.type_inv.s) (rw c.in-Ok.is at c.in-Some.ensures.steps)).onward c.parent-parent.ensures;
    }

pub returns-in_default-clause-table : goal.returns-in_default-clause-table
returns-in_default-clause-table c = pass_stop c.loop-i.invariant.passing (rw c.in_default.is at c.in-Some.ensures.steps.1)

pub returns-clause-table : goal.returns-clause-table
returns-clause-table c =
    elim c.in-None.ensures.steps [
      | inl g ↦ pass_full c.loop-i.invariant.passing (omega (arith, g.1.1.0))
      | inr g ↦ pass_end c.loop-i.invariant.passing g.1
    ]
