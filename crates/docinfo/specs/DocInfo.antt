-- What the DocInfo read answers (document 01, 'DocInfo', numbers 16 to 18 and 'Order'; document 02, A4).
use Rattle.records.specs.Answers.{Answer}
use Rattle.std.specs.Prelude.{ℕ, ◌+◌, ◌*◌, cond, List, ltb, length, take, drop, None, Option, Some}
use Rattle.records.specs.Records.{Rec}
use Rattle.records.specs.Parents.{children}
use Rattle.records.specs.Reading.{read_from, read_all}
use Rattle.records.specs.Table.{read_answer, after_read}
use Rattle.records.specs.declared.fault.Fault.{Fault}
use Rattle.records.specs.declared.fault.Fault.TheVariants as F
use Rattle.records.specs.declared.fault.Refusal.{Refusal}
use Rattle.records.specs.declared.header.Record.{Record}
use Rattle.docinfo.specs.Only.{Located, body_place, Only, one, wrong, only}
use Rattle.docinfo.specs.Widths.{count_bytes, form_of}
use Rattle.docinfo.specs.Counts.{count_fault}
use Rattle.docinfo.specs.declared.widths.Width.{Width}

abbrev pub fault_at : Fault → ℕ → Option Refusal
fault_at f p = Some (record { fault = f; place = record { 0 = p } })

-- the children of record 17, which stands at level 0
unfoldable pub kids_of : Located → List Rec
kids_of m = children 1 m.behind

-- 18 at the count at fault, the first byte of w, where the body begins at p (document 02, A12)
abbrev pub count_refusal : ℕ → ℕ → Option ℕ → Option Refusal
count_refusal p w None = None
count_refusal p w (Some i) = fault_at F.CountUnmatched (p + w * i)

-- 18 for record 17 where its counts have w bytes, as it stands in a stream at level 0
abbrev pub counts_fault : ℕ → List ℕ → Record → Option Refusal
counts_fault w s m =
    count_refusal m.body.0 w (count_fault w (take m.len (drop m.body.0 s)) (children 1 (read_from 1 0 (drop m.next.0 s)).recs))

-- 17 for record 17, where its length holds no counts, and 18
abbrev pub mappings_fault : Located → Option Width → Option Refusal
mappings_fault m None = fault_at F.DocInfoLength m.at
mappings_fault m (Some w) = count_refusal (body_place m) (count_bytes w) (count_fault (count_bytes w) m.it.body (kids_of m))

-- 17 for record 16, which has 30 bytes or more, and then record 17
unfoldable pub bodies_fault : Located → Located → Option Refusal
bodies_fault p m =
    cond (ltb (length p.it.body) 30) (fault_at F.DocInfoLength p.at) (mappings_fault m (form_of (length m.it.body)))

-- 16 for record 16, 16 for record 17, and then their bodies
unfoldable pub judged : Only → Only → Option Refusal
judged (wrong a) y = fault_at F.DocInfoRecord a
judged (one p) (wrong b) = fault_at F.DocInfoRecord b
judged (one p) (one m) = bodies_fault p m

-- what is wrong with the records of DocInfo, if anything
unfoldable pub docinfo_fault : List Rec → Option Refusal
docinfo_fault rs = judged (only 16 rs) (only 17 rs)

-- the answer where the shortest list has `room` entries: read's numbers, then 16 to 18
unfoldable pub docinfo_answer : List ℕ → ℕ → Answer
docinfo_answer s room = after_read (read_answer s room) (docinfo_fault (read_all s).recs)
