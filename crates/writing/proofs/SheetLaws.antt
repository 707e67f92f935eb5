-- The sheet: the stream up to the paragraph header, the paragraph changed, and all behind it. Assumes nothing.
use Rattle.std.specs.Prelude.{None, Option, Some}
use Prim.Native.Nat.{ℕ, suc, ◌+◌, ◌/◌, ◌≤◌, ◌<◌}
use native.Mathlib.Omega.{arith}
use mathlib.Core.Path.{◌≡◌, refl, sym, ap, ap₂, ◌∙◌}
use mathlib.Core.List.{List, [], ◌∷◌, ◌++◌}
use borrow.Author.Tests.{lt-ltb, le-ltb}
use lib.ListN.{length, take, drop}
use Rattle.numbers.specs.Little.{Bytes}
use Rattle.records.specs.Kinds as kind
use Rattle.records.specs.Records.{Rec, encode_one, size}
use Rattle.records.specs.declared.header.Record.{Record}
use Rattle.paragraph.specs.View.{view, kids, child}
use Rattle.paragraph.specs.Stream.{records_in}
use Rattle.entries.specs.Entries.{entries}
use Rattle.paragraph.specs.Rules.{bytes_in}
use Rattle.paragraph.specs.Places.{found_in, body_found, Found}
use Rattle.paragraph.proofs.StreamLaws.{Read}
use Rattle.paragraph.proofs.BodyLaws.{child_found}
use Rattle.filling.specs.Fields.{Field}
use Rattle.filling.specs.Editing.{with_body}
use Rattle.filling.specs.Shapes.{packed, shapes_in, shapes_after}
use Rattle.filling.specs.Filling.{new_head, filling, shapes_of}
use Rattle.putting.specs.Sheet.{Put}
use Rattle.putting.specs.declared.put.Sheet.{Sheet}
use Rattle.changing.specs.declared.fill.Piece.{Piece}
use Rattle.changing.specs.Child.{record_of, record_with, record_read}
use Rattle.writing.specs.Sheet.{behind_bytes, paragraph_bytes, sheet_bytes, sheet_written}
use Rattle.putting.proofs.PuttingLaws.{put_as, put_then}
use Rattle.changing.proofs.ChildLaws.{shapes-number}
use Rattle.writing.proofs.BehindLaws.{rec_is}

-- ---- the number of shapes

shapes_of_lem : (o : Option (List ℕ)) → shapes_in (bytes_in o) ≡ shapes_of o
unfolding shapes_of shapes_in entries
shapes_of_lem None = refl
shapes_of_lem (Some b) = refl

pub shapes_counted : (s : List ℕ) (bs : Bytes s) (n at a b v : ℕ) {f : Found} {body : List ℕ} {m : ℕ} → f ≡ found_in n kind.shapes 0 at (records_in (drop at s))
    → body ≡ bytes_in (body_found s f) → m ≡ length (packed (shapes_after a b v (shapes_in body)))
    → m / 8 ≡ length (shapes_after a b v (shapes_of (child kind.shapes (kids n (records_in (drop at s))))))
shapes_counted s bs n at a b v {f} {body} {m} e g h =
    let o : body ≡ bytes_in (child kind.shapes (kids n (records_in (drop at s)))) = g ∙ ap (λ (x : Found). bytes_in (body_found s x)) e ∙ ap bytes_in (child_found s bs n kind.shapes at) in
    ap (λ (x : ℕ). x / 8) h
    ∙ shapes-number a b v body
    ∙ ap (λ (l : List ℕ). length (shapes_after a b v (shapes_in l))) o
    ∙ ap (λ l. length (shapes_after a b v l)) (shapes_of_lem (child kind.shapes (kids n (records_in (drop at s)))))

-- ---- the clauses

module _ (f : Field) (value s : List ℕ) (header : ℕ) where
  pub paragraph_none : (rs : List Rec) → rs ≡ [] → paragraph_bytes f value s header rs ≡ drop header s
  unfolding paragraph_bytes
  paragraph_none rs e = rw e

  pub paragraph_short : (r : Rec) (rs : List Rec) → length r.body < 22 → paragraph_bytes f value s header (r ∷ rs) ≡ drop header s
  unfolding paragraph_bytes
  paragraph_short r rs h = rw (lt-ltb (length r.body) 22 h)

  pub paragraph_long : (r : Rec) (rs : List Rec) → 22 ≤ length r.body
      → paragraph_bytes f value s header (r ∷ rs)
      ≡ encode_one (with_body ((filling f value).head (view r rs)) r) ++ behind_bytes f value (suc r.level) 0 s (header + size r) rs
  unfolding paragraph_bytes
  paragraph_long r rs h = rw (le-ltb (length r.body) 22 h)

-- ---- the exits

-- how many shapes there are where the records behind the header begin at `behind`
abbrev pub Shapes : Field → List ℕ → List ℕ → ℕ → ℕ → ℕ → Type 0
Shapes f value s n behind shapes =
    shapes ≡ length (shapes_after f.a f.b (length value / 2) (shapes_of (child kind.shapes (kids n (records_in (drop behind s))))))

head_is : (f : Field) (value s : List ℕ) {header : ℕ} {r : Record} (d : Read s header r) (x : Piece) {n shapes : ℕ} → n ≡ r.level + 1
    → record_of x ≡ record_read s r → Shapes f value s n r.next.0 shapes
    → record_with x (new_head f.a f.b (length value / 2) shapes x.body.bytes.now)
    ≡ with_body ((filling f value).head (view d.rec (records_in (drop r.next.0 s)))) d.rec
unfolding filling with_body view
head_is f value s {header} {r} d x {n} {shapes} e g k =
    let l : n ≡ suc d.rec.level = omega (arith, d.level_is) in
    let m : Shapes f value s (suc d.rec.level) r.next.0 shapes
    = k ∙ ap (λ (y : ℕ). length (shapes_after f.a f.b (length value / 2) (shapes_of (child kind.shapes (kids y (records_in (drop r.next.0 s))))))) l in
    ap (λ (y : Rec). with_body (new_head f.a f.b (length value / 2) shapes y.body) y) (rec_is d g)
    ∙ ap (λ (y : ℕ). with_body (new_head f.a f.b (length value / 2) y d.rec.body) d.rec) m

module _ (f : Field) (value s : List ℕ) (header : ℕ) {p t u : Sheet} (k : Put p (take header (drop 0 s)) t) where
  pub sheet_none : records_in (drop header s) ≡ [] → Put t (drop header s) u → Put p (sheet_bytes f value s header) u
  unfolding sheet_bytes
  sheet_none e w = put_then k (put_as (sym (paragraph_none f value s header (records_in (drop header s)) e)) w)

  module _ {r : Record} (d : Read s header r) where
    pub sheet-short : r.len < 22 → Put t (drop header s) u → Put p (sheet_bytes f value s header) u
    unfolding sheet_bytes
    sheet-short l w =
        put_then k
        (put_as (sym (ap (paragraph_bytes f value s header) d.records ∙ paragraph_short f value s header d.rec _ (rw (← d.length-is) l))) w)

    pub sheet-long : (x : Piece) {mid : Sheet} {n shapes : ℕ} → 22 ≤ r.len → n ≡ r.level + 1 → record_of x ≡ record_read s r
        → Shapes f value s n r.next.0 shapes
        → Put t (encode_one (record_with x (new_head f.a f.b (length value / 2) shapes x.body.bytes.now))) mid
        → Put mid (behind_bytes f value n 0 s r.next.0 (records_in (drop r.next.0 s))) u
        → Put p (sheet_bytes f value s header) u
    unfolding sheet_bytes
    sheet-long x {mid} {n} {shapes} l e g h v w =
        let lev : n ≡ suc d.rec.level = omega (arith, d.level_is) in
        let rs = records_in (drop r.next.0 s) in
        let all : paragraph_bytes f value s header (records_in (drop header s))
        ≡ encode_one (record_with x (new_head f.a f.b (length value / 2) shapes x.body.bytes.now)) ++ behind_bytes f value n 0 s r.next.0 rs
        = ap (paragraph_bytes f value s header) d.records
        ∙ paragraph_long f value s header d.rec rs (rw (← d.length-is) l)
        ∙ ap₂ (λ (a b : List ℕ). a ++ b) (ap encode_one (sym (head_is f value s d x e g h)))
        (ap₂ (λ (a b : ℕ). behind_bytes f value a 0 s b rs) (sym lev) (sym d.next-is)) in
        put_then k (put_as (sym all) (put_then v w))

-- ---- the calls

module _ (f : Field) (value s : List ℕ) (header : ℕ) where
  pub over_stream : 4294967295 < length s → [] ≡ sheet_written f value s header
  unfolding sheet_written
  over_stream h = rw (lt-ltb 4294967295 (length s) h)

  pub over_value : length s ≤ 4294967295 → 4294967295 < length value → [] ≡ sheet_written f value s header
  unfolding sheet_written
  over_value h k = rw (le-ltb 4294967295 (length s) h, lt-ltb 4294967295 (length value) k)

  pub sheet_of_lem : length s ≤ 4294967295 → length value ≤ 4294967295 → sheet_bytes f value s header ≡ sheet_written f value s header
  unfolding sheet_written
  sheet_of_lem h k = rw (le-ltb 4294967295 (length s) h, le-ltb 4294967295 (length value) k)

-- the body of a record that was read is as long as its header says
pub body_long : {s : List ℕ} {header : ℕ} {r : Record} (d : Read s header r) (x : Piece) {m : ℕ} → record_of x ≡ record_read s r → m ≤ r.len
    → m ≤ length x.body.bytes.now
body_long d x e h = omega (arith, ap (λ (y : Rec). length y.body) (rec_is d e), d.length-is)
