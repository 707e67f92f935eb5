use Rattle.std.proofs.Common.{arith, sym, ap, ◌∙◌}
use Rattle.records.specs.Answers.{place_bits, host_form}
use Rattle.filling.specs.Filling.{text_number, text_place, text_length, TextAnswer}
use Rattle.host.proofs.ToldLaws.{told_at}
use Rattle.host.proofs.told.Goals as goal

pub overflow_add-result : goal.overflow_add-result
unfolding host_form
overflow_add-result c = record { fits = omega (arith, c.host.ensures, c.bits.ensures.1) }

pub returns-in-Ok : goal.returns-in-Ok
returns-in-Ok c =
    told_at _ _ c.host.ensures c.bits.ensures.0 ∙ ap (λ (a : TextAnswer). host_form (text_number a) (place_bits (text_place a)) (place_bits (text_length a))) (sym c.in-Ok.is)
