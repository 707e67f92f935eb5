use Rattle.std.proofs.Common.{◌∙◌, ap, arith, sym}
use Rattle.numbers.proofs.LittleLaws.{slice_bytes}
use Rattle.judgement.proofs.JudgeLaws.{front-judged}
use Rattle.section.proofs.SlotLaws.{names, fault_lost, fault_none, fault_there, ended_parts, first_at}
use Rattle.section.proofs.slot.Slot.judge.Goals as goal

pub returns-in_err-r : goal.returns-in_err-r
returns-in_err-r c = rw c.from_residual.ensures (fault_lost _ _ c.in_err-r.ensures, tt)

pub overflow_add-r : goal.overflow_add-r
overflow_add-r c =
    let d = (names _ _ _ (slice_bytes c.args.s.now c.type_inv.s) c.in_ok-r.ensures).read in
    omega (arith, d.level_is, d.stands.level_high)

pub head_fault-requires : goal.head_fault-requires
head_fault-requires c =
    let k = names _ _ _ (slice_bytes c.args.s.now c.type_inv.s) c.in_ok-r.ensures in
    ended_parts _ _ _ c.requires k.some k.read c.parts.ensures

pub returns-in-Ok : goal.returns-in-Ok
returns-in-Ok c =
    let k = names _ _ _ (slice_bytes c.args.s.now c.type_inv.s) c.in_ok-r.ensures in
    (fault_none _ _ k.some _ (front-judged _ _ k.read _ (c.head_fault.ensures ∙ rw c.body.ensures)) c.in-Ok.is, tt)

pub returns-in-Err : goal.returns-in-Err
returns-in-Err c =
    let k = names _ _ _ (slice_bytes c.args.s.now c.type_inv.s) c.in_ok-r.ensures in
    let j = front-judged _ _ k.read _ (c.head_fault.ensures ∙ rw c.body.ensures) in
    (k.at_r ∙ fault_there _ _ k.some _ j _ c.in-Err.is, sym c.in-Err.is ∙ j ∙ ap (first_at c.args.s.now) (sym k.at_r))
