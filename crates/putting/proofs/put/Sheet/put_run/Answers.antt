use Rattle.std.proofs.Common.{refl}
use Rattle.putting.proofs.PuttingLaws.{puts_lent, puts_past}
use Rattle.putting.proofs.put.Sheet.put_run.Goals as goal

pub returns-then-place-self : goal.returns-then-place-self
returns-then-place-self c = record {
  same = refl;
  puts =
      puts_lent c.args.self.now.out.now c.put_all.new.out c.part.result.now c.args.s.now c.args.self.now.at.0 _ c.args.self.now.room c.if-place-self.true c.part.ensures c.put_all.ensures c.ahead-self.ensures;
}

pub returns-else-place-self : goal.returns-else-place-self
returns-else-place-self c = record { same = refl; puts = puts_past _ _ _ _ c.args.self.now.room c.if-place-self.false c.ahead-self.ensures }
