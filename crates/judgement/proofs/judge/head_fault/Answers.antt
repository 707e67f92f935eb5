use Rattle.std.proofs.Common.{refl, ltb-false, ap₂, ◌∙◌, arith}
use Rattle.numbers.proofs.LittleLaws.{slice_bytes}
use Rattle.paragraph.specs.Rules.{entry_fault}
use Rattle.judgement.proofs.RuleLaws.{exit_is, guard_kept, guard_breaks, guard_passes, else_breaks, else_passes}
use Rattle.judgement.proofs.JudgeLaws.{judged-is, text_sound, text_breaks, text_passes, unmatched_is, fields_none}
use Rattle.judgement.proofs.judge.head_fault.Goals as goal

pub counts-c-requires : goal.counts-c-requires
counts-c-requires c = let h = guard_kept _ c.broken_if.ensures refl c.in_ok-broken_if.was in let g = ltb-false _ _ h in omega (arith, g)

pub returns-in_err-broken_if : goal.returns-in_err-broken_if
returns-in_err-broken_if c =
    exit_is _ _ c.from_residual.ensures.1
    ∙ guard_breaks _ c.broken_if.ensures refl _ _ c.in_err-broken_if.was
    ∙ judged-is c.args.s.now (slice_bytes c.args.s.now c.type_inv.s) _ _ _ c.requires _ _ refl _ refl

pub returns-in_err-broken_if-2 : goal.returns-in_err-broken_if-2
returns-in_err-broken_if-2 c =
    exit_is _ _ c.from_residual-in_err-broken_if-2.ensures.1
    ∙ guard_passes _ c.broken_if.ensures refl c.in_ok-broken_if.was
    (guard_breaks _ c.broken_if-2.ensures c.absent.ensures _ _ c.in_err-broken_if-2.was)
    ∙ judged-is c.args.s.now (slice_bytes c.args.s.now c.type_inv.s) _ _ _ c.requires _ _ c.counts-c.ensures _ refl

pub returns-in_err-length_fault : goal.returns-in_err-length_fault
returns-in_err-length_fault c =
    exit_is _ _ c.from_residual-in_err-length_fault.ensures.1
    ∙ guard_passes _ c.broken_if.ensures refl c.in_ok-broken_if.was
    (guard_passes _ c.broken_if-2.ensures c.absent.ensures c.in_ok-broken_if-2.was
    (else_breaks c.length_fault.ensures _ _ c.in_err-length_fault.was))
    ∙ judged-is c.args.s.now (slice_bytes c.args.s.now c.type_inv.s) _ _ _ c.requires _ _ c.counts-c.ensures _ refl

pub returns-in_err-extended : goal.returns-in_err-extended
returns-in_err-extended c =
    exit_is _ _ c.from_residual-in_err-extended.ensures.1
    ∙ guard_passes _ c.broken_if.ensures refl c.in_ok-broken_if.was
    (guard_passes _ c.broken_if-2.ensures c.absent.ensures c.in_ok-broken_if-2.was
    (else_passes c.length_fault.ensures c.in_ok-length_fault.was
    (text_breaks c.args.s.now _ c.bytes-text.ensures c.text_fault.ensures _ _ c.in_err-extended.was)))
    ∙ judged-is c.args.s.now (slice_bytes c.args.s.now c.type_inv.s) _ _ _ c.requires _ _ c.counts-c.ensures _ c.bytes-text.ensures

pub returns-in_err-entry_fault : goal.returns-in_err-entry_fault
returns-in_err-entry_fault c =
    exit_is _ _ c.from_residual-in_err-entry_fault.ensures.1
    ∙ guard_passes _ c.broken_if.ensures refl c.in_ok-broken_if.was
    (guard_passes _ c.broken_if-2.ensures c.absent.ensures c.in_ok-broken_if-2.was
    (else_passes c.length_fault.ensures c.in_ok-length_fault.was
    (text_passes c.args.s.now _ c.bytes-text.ensures c.text_fault.ensures c.in_ok-extended.was
    (else_breaks (c.entry_fault.ensures ∙ ap₂ (entry_fault _) c.bytes.ensures c.bytes-2.ensures) _ _ c.in_err-entry_fault.was))))
    ∙ judged-is c.args.s.now (slice_bytes c.args.s.now c.type_inv.s) _ _ _ c.requires _ _ c.counts-c.ensures _ c.bytes-text.ensures

pub returns-in_err-broken_if-3 : goal.returns-in_err-broken_if-3
returns-in_err-broken_if-3 c =
    exit_is _ _ c.from_residual-in_err-broken_if-3.ensures.1
    ∙ guard_passes _ c.broken_if.ensures refl c.in_ok-broken_if.was
    (guard_passes _ c.broken_if-2.ensures c.absent.ensures c.in_ok-broken_if-2.was
    (else_passes c.length_fault.ensures c.in_ok-length_fault.was
    (text_passes c.args.s.now _ c.bytes-text.ensures c.text_fault.ensures c.in_ok-extended.was
    (else_passes (c.entry_fault.ensures ∙ ap₂ (entry_fault _) c.bytes.ensures c.bytes-2.ensures) c.in_ok-entry_fault.was
    (guard_breaks _ c.broken_if-3.ensures
    (unmatched_is c.args.s.now _ c.bytes-text.ensures c.text_fault.ensures _ _ c.in_ok-extended.was) _ _ c.in_err-broken_if-3.was)))))
    ∙ judged-is c.args.s.now (slice_bytes c.args.s.now c.type_inv.s) _ _ _ c.requires _ _ c.counts-c.ensures _ c.bytes-text.ensures

pub returns-then-extended-eq0 : goal.returns-then-extended-eq0
returns-then-extended-eq0 c =
    guard_passes _ c.broken_if.ensures refl c.in_ok-broken_if.was
    (guard_passes _ c.broken_if-2.ensures c.absent.ensures c.in_ok-broken_if-2.was
    (else_passes c.length_fault.ensures c.in_ok-length_fault.was
    (text_passes c.args.s.now _ c.bytes-text.ensures c.text_fault.ensures c.in_ok-extended.was
    (else_passes (c.entry_fault.ensures ∙ ap₂ (entry_fault _) c.bytes.ensures c.bytes-2.ensures) c.in_ok-entry_fault.was
    (guard_passes _ c.broken_if-3.ensures
    (unmatched_is c.args.s.now _ c.bytes-text.ensures c.text_fault.ensures _ _ c.in_ok-extended.was) c.in_ok-broken_if-3.was
    (fields_none c.args.s.now _ c.bytes-text.ensures c.text_fault.ensures _ _ c.in_ok-extended.was c.if-extended-eq0.true))))))
    ∙ judged-is c.args.s.now (slice_bytes c.args.s.now c.type_inv.s) _ _ _ c.requires _ _ c.counts-c.ensures _ c.bytes-text.ensures

pub field_fault-requires : goal.field_fault-requires
field_fault-requires c = (text_sound c.args.s.now _ c.bytes-text.ensures c.text_fault.ensures _ c.in_ok-extended.was).fault_none

pub returns-else-extended-eq0 : goal.returns-else-extended-eq0
returns-else-extended-eq0 c =
    guard_passes _ c.broken_if.ensures refl c.in_ok-broken_if.was
    (guard_passes _ c.broken_if-2.ensures c.absent.ensures c.in_ok-broken_if-2.was
    (else_passes c.length_fault.ensures c.in_ok-length_fault.was
    (text_passes c.args.s.now _ c.bytes-text.ensures c.text_fault.ensures c.in_ok-extended.was
    (else_passes (c.entry_fault.ensures ∙ ap₂ (entry_fault _) c.bytes.ensures c.bytes-2.ensures) c.in_ok-entry_fault.was
    (guard_passes _ c.broken_if-3.ensures
    (unmatched_is c.args.s.now _ c.bytes-text.ensures c.text_fault.ensures _ _ c.in_ok-extended.was) c.in_ok-broken_if-3.was
    c.field_fault.ensures)))))
    ∙ judged-is c.args.s.now (slice_bytes c.args.s.now c.type_inv.s) _ _ _ c.requires _ _ c.counts-c.ensures _ c.bytes-text.ensures
