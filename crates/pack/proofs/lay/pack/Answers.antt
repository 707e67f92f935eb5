use Rattle.pack.proofs.PackLaws.{may_lay}
use Rattle.pack.proofs.lay.pack.Goals as goal

pub lay-requires-clause-count_bound : goal.lay-requires-clause-count_bound
lay-requires-clause-count_bound c = (may_lay c.args.table _ _ c.in_ok-n.ensures).0

pub lay-requires-clause-inside : goal.lay-requires-clause-inside
lay-requires-clause-inside c = (may_lay c.args.table _ _ c.in_ok-n.ensures).1.0

pub lay-requires-clause-lengths_in_bounds : goal.lay-requires-clause-lengths_in_bounds
lay-requires-clause-lengths_in_bounds c = (may_lay c.args.table _ _ c.in_ok-n.ensures).1.1
