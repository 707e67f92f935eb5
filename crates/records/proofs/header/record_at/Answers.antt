-- What stands at a place stands inside the stream. Assumes nothing.
use Rattle.std.proofs.Common.{arith, sym}
use Rattle.numbers.proofs.LittleLaws.{slice_bytes}
use Rattle.records.proofs.ReadingLaws.{record_inside, fault_inside}
use Rattle.records.proofs.header.record_at.Goals as goal

pub overflow_add-body : goal.overflow_add-body
overflow_add-body c = omega (arith, record_inside _ _ _ c.if-s-at.false _ (slice_bytes c.args.s.now c.type_inv.s) (sym c.in-Ok.ensures))

pub overflow_add-result : goal.overflow_add-result
overflow_add-result c = omega (arith, record_inside _ _ _ c.if-s-at.false _ (slice_bytes c.args.s.now c.type_inv.s) (sym c.in-Ok.ensures))

pub overflow_add-result-in-Err : goal.overflow_add-result-in-Err
overflow_add-result-in-Err c = omega (arith, fault_inside c.args.s.now _ _ c.if-s-at.false _ (sym c.in-Err.ensures))
