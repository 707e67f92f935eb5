-- A read in the host's form, by whichever rules. Assumes nothing.
use Rattle.std.proofs.Common.{rules}
use Rattle.numbers.proofs.LittleLaws.{slice_bytes}
use Rattle.records.specs.Table.{lists}
use Rattle.host.proofs.ToldTableLaws.{tells}
use Rattle.host.proofs.reading.read_by.Goals as goal

pub returns : goal.returns
returns g c =
    let told =
    tells g.R.Rules.answers g.met.R.Rules.stricter g.met.R.Rules.near c.args.stream.now (slice_bytes c.args.stream.now c.type_inv.stream)
    {k = (lists c.args.tags.now c.args.levels.now c.args.places.now c.args.lengths.now c.args.parents.now)} c.room.ensures
    c.answer-answer.ensures c.enter.ensures.table c.host.ensures
    in
    search (rules, told)
