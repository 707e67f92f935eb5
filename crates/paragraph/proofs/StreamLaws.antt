-- The records of a part of a stream, by the header at a place. Assumes nothing.
use Rattle.std.specs.Prelude.{None, Ok, Some}
use Prim.Native.Nat.{ℕ, zero, suc, ◌+◌, ◌-◌, ◌≤◌, ◌<◌}
use native.Mathlib.Omega.{arith}
use mathlib.Core.Path.{◌≡◌, refl, sym, ap, ◌∙◌}
use mathlib.Core.Bool.{Bool, true, false, cond}
use mathlib.Core.List.{List, [], ◌∷◌, ◌++◌}
use lib.Dec.{ltb}
use borrow.Author.Tests.{ltb-true, ltb-false}
use lib.ListN.{length, take, drop, length-drop, length-append}
use lib.Seq.{drop-drop, drop_at}
use Rattle.numbers.specs.Little.{Bytes}
use Rattle.records.specs.Records.{Rec, lead_of, encode_one, encode, size, RecordObeys, Lawful}
use Rattle.records.specs.Reading.{Stands, whole, fault, stands_at, record_at, ahead_by, ahead_of, read_from, read_all, Ahead}
use Rattle.records.specs.declared.fault.Refusal.{Refusal}
use Rattle.records.specs.declared.header.Record.{Record}
use Rattle.records.proofs.ReadingLaws.{here, NoRecord, found, size_least, length-encode_one, stands_encode, encode_read, body_behind}
use Rattle.numbers.proofs.LittleLaws.{bytes_drop}
use Rattle.paragraph.specs.Stream.{within, records_in}

-- ---- the clauses

in_skip : (k : ℕ) (s : List ℕ) → within k s ≡ within 0 (drop k s)
unfolding within
in_skip zero s = refl
in_skip (suc k) [] = refl
in_skip (suc k) (x ∷ s) = in_skip k s

pub in_end : (s : List ℕ) → length s ≡ 0 → records_in s ≡ []
unfolding records_in within
in_end [] e = refl
in_end (x ∷ s) e = absurd (omega arith)

pub in_stop : (s : List ℕ) (f : Refusal) → stands_at 1023 s ≡ fault f → records_in s ≡ []
unfolding records_in within
in_stop [] f e = refl
in_stop (x ∷ s) f e = rw (e, within)

pub in_next : (s : List ℕ) (r : Rec) → 0 < length s → stands_at 1023 s ≡ whole r → records_in s ≡ r ∷ records_in (drop (size r) s)
unfolding records_in within
in_next [] r h e = absurd (omega arith)
in_next (x ∷ s) r h e =
    let one : size r ≡ suc (size r - 1) = omega (arith, size_least r) in
    rw (e, within) (ap (λ (l : List Rec). r ∷ l) (in_skip (size r - 1) s ∙ ap (λ (k : ℕ). within 0 (drop k (x ∷ s))) (sym one)))

pub none_left : (s : List ℕ) (at : ℕ) → length s ≤ at → records_in (drop at s) ≡ []
none_left s at h = in_end (drop at s) (omega (arith, length-drop at s))

-- ---- a record at a place

-- r stands at `at`, and the records go on behind it
pub record Stood (s : List ℕ) (at : ℕ) (r : Rec) : Type 0 where
  pub level_high : r.level < 1024
  pub inside : at + size r ≤ length s
  pub some_left : at < length s
  pub body_is : take (length r.body) (drop (at + lead_of (length r.body)) s) ≡ r.body
  pub records : records_in (drop at s) ≡ r ∷ records_in (drop (at + size r) s)

module _ (s : List ℕ) (at : ℕ) (bs : Bytes s) where
  pub stood : (r : Rec) → at < length s → stands_at 1023 (drop at s) ≡ whole r → Stood s at r
  stood r h e =
      let k = found 1023 (drop at s) (bytes_drop at s bs) r e in
      let i : at + size r ≤ length s = omega (arith, k.inside, length-drop at s) in
      record {
        level_high = k.obeys.level_high;
        inside = i;
        some_left = h;
        body_is =
            ap (take (length r.body)) (sym (drop-drop (lead_of (length r.body)) at s))
            ∙ body_behind r (drop at s) k.bytes k.inside;
        records = in_next (drop at s) r (omega (arith, length-drop at s)) e ∙ ap (λ (l : List ℕ). r ∷ records_in l) (drop-drop (size r) at s);
      }

  -- by the list: what stands at the front of the records stands in the stream
  stood_by : (a : Stands) → stands_at 1023 (drop at s) ≡ a → (r : Rec) (rs : List Rec) → at < length s → records_in (drop at s) ≡ r ∷ rs → Stood s at r
  stood_by (fault f) q r rs h e = absurd (let z : ◌≡◌ {A = List Rec} [] (r ∷ rs) = sym (in_stop (drop at s) f q) ∙ e in let y : ◌≡◌ {A = ℕ} 0 1 = cc in omega arith)
  stood_by (whole t) q r rs h e =
      let k = stood t h q in
      let same : t ≡ r = let z : t ∷ records_in (drop (at + size t) s) ≡ r ∷ rs = sym k.records ∙ e in cc in
      rw (← same) k

  left_by : (r : Rec) (rs : List Rec) → records_in (drop at s) ≡ r ∷ rs → (b : Bool) → ltb at (length s) ≡ b → at < length s
  left_by r rs e true q = ltb-true at (length s) q
  left_by r rs e false q =
      absurd (let z : ◌≡◌ {A = List Rec} [] (r ∷ rs) = sym (in_end (drop at s) (omega (arith, length-drop at s, ltb-false at (length s) q))) ∙ e in let y : ◌≡◌ {A = ℕ} 0 1 = cc in omega arith)

  pub stood_of : (r : Rec) (rs : List Rec) → records_in (drop at s) ≡ r ∷ rs → Stood s at r × (records_in (drop (at + size r) s) ≡ rs)
  stood_of r rs e =
      let k = stood_by (stands_at 1023 (drop at s)) refl r rs (left_by r rs e (ltb at (length s)) refl) e in
      (k, let z : r ∷ records_in (drop (at + size r) s) ≡ r ∷ rs = sym k.records ∙ e in cc)

-- ---- a step over the records: what is known where it found one at `at`

pub record Read (s : List ℕ) (at : ℕ) (r : Record) : Type 0 where
  pub rec : Rec
  pub is : r ≡ record_at at rec
  pub tag_is : r.tag ≡ rec.tag
  pub level_is : r.level ≡ rec.level
  pub length-is : r.len ≡ length rec.body
  pub next-is : r.next.0 ≡ at + size rec
  pub body_end : r.body.0 + r.len ≡ r.next.0
  pub least : 4 ≤ size rec
  pub body_is : take r.len (drop r.body.0 s) ≡ rec.body
  pub records : records_in (drop at s) ≡ rec ∷ records_in (drop r.next.0 s)
  pub stands : Stood s at rec

pub read_at : (s : List ℕ) (at : ℕ) → Bytes s → (r : Record) → ahead_of 1023 s at ≡ Some (Ok r) → Read s at r
read_at s at bs r e =
    let d = here s at 1023 bs r e in
    let k = stood s at bs d.rec d.left d.stands in
    record {
      rec = d.rec;
      is = d.is;
      tag_is = d.tag_is;
      level_is = d.level_is;
      length-is = d.length-is;
      next-is = d.next-is;
      body_end = d.body_end;
      least = d.size_low;
      body_is = d.body_there;
      records = k.records ∙ ap (λ (i : ℕ). d.rec ∷ records_in (drop i s)) (sym d.next-is);
      stands = k;
    }

-- and where it found none
none_by : (s : List ℕ) (at : ℕ) (b : Bool) (a : Stands) (x : Ahead) → ltb at (length s) ≡ b → stands_at 1023 (drop at s) ≡ a → x ≡ cond b (ahead_by at a) None → NoRecord x
    → records_in (drop at s) ≡ []
none_by s at false a x t q e n = none_left s at (ltb-false at (length s) t)
none_by s at true (fault f) x t q e n = in_stop (drop at s) f q
none_by s at true (whole r) x t q e n = absurd (n (record_at at r) e)

pub none_at : (s : List ℕ) (at : ℕ) (x : Ahead) → x ≡ ahead_of 1023 s at → NoRecord x → records_in (drop at s) ≡ []
unfolding ahead_of
none_at s at x e n = none_by s at (ltb at (length s)) (stands_at 1023 (drop at s)) x refl refl e n

-- ---- the records of a whole stream

-- a level has ten bits
any_level : {cap : ℕ} {r : Rec} → RecordObeys cap r → RecordObeys 1023 r
any_level o =
    record { tag_low = o.tag_low; tag_high = o.tag_high; level_cap = omega (arith, o.level_high); level_high = o.level_high; body_fits = o.body_fits }

pub in_encode : (cap : ℕ) (rs : List Rec) → Lawful cap rs → records_in (encode rs) ≡ rs
unfolding encode
in_encode cap [] l = in_end [] refl
in_encode cap (r ∷ rs) l =
    in_next (encode_one r ++ encode rs) r (omega (arith, length-append (encode_one r) (encode rs), length-encode_one r, size_least r))
    (stands_encode 1023 r (encode rs) (any_level l.0))
    ∙ ap (λ (t : List ℕ). r ∷ records_in t) (drop_at (encode_one r) (encode rs) (size r) (length-encode_one r))
    ∙ ap (λ (t : List Rec). r ∷ t) (in_encode (r.level + 1) rs l.1)

-- the records of a stream that reads to its end are those that are read
pub in_read : (s : List ℕ) → Bytes s → (read_all s).stop ≡ None → records_in s ≡ (read_all s).recs
unfolding read_all
in_read s bs e =
    let k = encode_read 0 s bs e in
    ap records_in (sym k.stream) ∙ in_encode 0 (read_from 0 0 s).recs k.lawful
