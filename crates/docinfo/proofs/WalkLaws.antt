-- A walk over a stream, step by step, goes over the records that are read from it. Assumes nothing.
use Prim.Native.Nat.{ℕ, ◌+◌}
use mathlib.Core.Path.{◌≡◌, sym, ap, ap₂, ◌∙◌}
use mathlib.Core.List.{List, ◌∷◌}
use lib.ListN.{length, take, drop}
use Rattle.records.specs.Records.{Rec, lead_of, size}
use Rattle.records.specs.Reading.{Read, onto, read_from}
use Rattle.records.specs.declared.header.Record.{Record}
use Rattle.records.proofs.ReadingLaws.{Here}

-- the records from a place on
abbrev pub rest : ℕ → List ℕ → ℕ → List Rec
rest cap s at = (read_from cap 0 (drop at s)).recs

module _ {s : List ℕ} {at cap : ℕ} {r : Record} (d : Here s at cap r) where
  -- where the walk goes on, as the record has it and as the step has it
  pub walk_rec : rest cap s at ≡ d.rec ∷ rest (d.rec.level + 1) s (at + size d.rec)
  unfolding onto
  walk_rec = ap (λ (x : Read). x.recs) d.next

  pub walk-next : rest cap s at ≡ d.rec ∷ rest (r.level + 1) s r.next.0
  walk-next = rw (d.next-is, d.level_is) walk_rec

  pub walk_body : take (length d.rec.body) (drop (at + lead_of (length d.rec.body)) s) ≡ d.rec.body
  walk_body = ap₂ (λ (n b : ℕ). take n (drop b s)) (sym d.length-is) (sym d.body_is) ∙ d.body_there
