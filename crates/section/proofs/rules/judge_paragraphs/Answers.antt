use Rattle.std.proofs.Common.{refl, ◌∙◌}
use Rattle.section.proofs.ParagraphLaws.{paragraphs_end, paragraphs_breach}
use Rattle.section.proofs.rules.judge_paragraphs.Goals as goal

pub returns-in-Some : goal.returns-in-Some
returns-in-Some c =
    let w = c.args.whole in
    let e = c.in-Some.ensures in
    c.refused.ensures ∙ paragraphs_breach w.stream.now w.bytes _ e.0 w.ends _ _ _ e.1 c.place_in.ensures

pub returns-in-None : goal.returns-in-None
returns-in-None c = let w = c.args.whole in paragraphs_end w.stream.now w.bytes _ c.in-None.ensures.0 w.ends _ refl
