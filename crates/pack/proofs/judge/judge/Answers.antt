use Rattle.std.proofs.Common.{arith, sym, ◌∙◌}
use Rattle.pack.specs.Rows.{lists_of}
use Rattle.pack.proofs.JudgeLaws.{lists-short, lists-long}
use Rattle.pack.proofs.judge.judge.Goals as goal

pub returns-then-room-table : goal.returns-then-room-table
returns-then-room-table c = c.refused.ensures ∙ sym (lists-short _ (lists_of c.args.table) _ _ (omega arith))

pub returns : goal.returns
returns c = c.judge_rows.ensures ∙ sym (lists-long _ (lists_of c.args.table) _ _ (omega arith))
