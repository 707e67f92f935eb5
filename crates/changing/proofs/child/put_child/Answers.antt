use Rattle.std.proofs.Common.{arith}
use Rattle.changing.proofs.ChildLaws.{child_text, child_shapes, child_layout, child_altered, child_same}
use Rattle.changing.proofs.child.put_child.Goals as goal
use Rattle.changing.proofs.child.put_child.Goals.{in_default-via-in-71+else-nth-fill, in_default-via-in_default-1}

pub returns-in-67 : goal.returns-in-67
returns-in-67 c = child_text c.args.fill.spot c.args.fill.value.bytes.now c.args.nth c.args.piece c.in-67.is c.put_text.ensures

pub returns-in-68 : goal.returns-in-68
returns-in-68 c =
    child_shapes c.args.fill.spot c.args.fill.value.bytes.now c.args.nth c.args.piece c.in-68.is (rw c.change.ensures at c.put_shapes.ensures)

pub returns-in-69 : goal.returns-in-69
returns-in-69 c = child_layout c.args.fill.spot c.args.fill.value.bytes.now c.args.nth c.args.piece c.args.sheet.now c.in-69.is

pub returns-in-71 : goal.returns-in-71
returns-in-71 c = child_altered c.args.fill.spot c.args.fill.value.bytes.now c.args.nth c.args.piece c.in-71.is c.if-nth-fill.true c.put_altered.ensures

pub returns-in_default : goal.returns-in_default
returns-in_default c =
    elim c.in_default.branch [
      | in_default-via-in-71+else-nth-fill w ↦
          child_same c.args.fill.spot c.args.fill.value.bytes.now c.args.nth c.args.piece (λ e. omega arith) (λ e. omega arith) (λ e. omega arith) (λ e. w.if-nth-fill.false) c.put_same.ensures
      | in_default-via-in_default-1 w ↦
          child_same c.args.fill.spot c.args.fill.value.bytes.now c.args.nth c.args.piece (λ e. omega arith) (λ e. omega arith) (λ e. omega arith) (λ e. absurd (omega arith)) c.put_same.ensures
    ]
