-- How wide the counts of record 17 are, by its length (document 02, A4).
use Rattle.std.specs.Prelude.{ℕ, ◌%◌, cond, ◌&&◌, leb, eqb, None, Some, Option}
use Rattle.docinfo.specs.declared.widths.Width.{Width}
use Rattle.docinfo.specs.declared.widths.Width.TheVariants as N

-- the bytes of a count
unfoldable pub count_bytes : Width → ℕ
count_bytes N.Bits16 = 2
count_bytes N.Bits32 = 4

-- 32 bytes hold 16-bit counts; from 60 bytes up, in multiples of four, they hold 32-bit counts; no other length holds counts
unfoldable pub form_of : ℕ → Option Width
form_of n = cond (eqb n 32) (Some N.Bits16) (cond (leb 60 n && eqb (n % 4) 0) (Some N.Bits32) None)
