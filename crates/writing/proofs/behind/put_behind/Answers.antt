use Rattle.paragraph.proofs.StepLaws.{Stepped, stepped}
use Rattle.writing.proofs.BehindLaws.{behind_stop, behind_over, behind_go}
use Rattle.writing.proofs.behind.put_behind.Goals as goal
use Rattle.writing.proofs.behind.put_behind.Goals.{in-None, in-Some+then-r-n}

pub loop-r-preserved : goal.loop-r-preserved
loop-r-preserved c =
    let k : Stepped c.args.s.bytes.now c.loop-r.r-iterator c.next.new.self c.in-Some.r = stepped c.args.s.each c.loop-r.invariant.stream-is c.in-Some.ensures.steps in
    let level-is = c.loop-r.invariant.level-is in
    record {
      stream-is = k.stream-is;
      at-is = k.at-is;
      level-is = level-is;
      behind =
          behind_go c.loop-r.invariant.behind (rw c.loop-r.invariant.at-is at k.read) c.if-r-n.false c.piece_of.ensures (rw level-is at c.put_below.ensures)
          (rw level-is at c.controls_passed.ensures);
    }

pub returns : goal.returns
returns c =
    elim c.match-next.branch [
      | in-None w ↦
          behind_stop c.loop-r.invariant.behind (rw (c.loop-r.invariant.stream-is, c.loop-r.invariant.at-is) at w.in-None.ensures.steps.0) c.put_rest.ensures
      | in-Some+then-r-n w ↦
          let k : Stepped c.args.s.bytes.now c.loop-r.r-iterator c.next.new.self w.in-Some.r = stepped c.args.s.each c.loop-r.invariant.stream-is w.in-Some.ensures.steps in
          behind_over c.loop-r.invariant.behind (rw c.loop-r.invariant.at-is at k.read) w.if-r-n.true c.put_rest.ensures
    ]
