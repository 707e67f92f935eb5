-- Reading and encoding undo each other: a record has one encoding, and a stream is the encoding of what is read from it. Assumes nothing.
use Rattle.std.specs.Prelude.{Err, None, Ok, Option, Some}
use Prim.Native.Nat.{ℕ, zero, suc, ◌+◌, ◌-◌, ◌/◌, ◌%◌, ◌≤◌, ◌<◌}
use native.Mathlib.Omega.{arith}
use native.Mathlib.Decide.{dec_le}
use native.Mathlib.Nat.{lt_of_not-le}
use mathlib.Core.Path.{◌≡◌, refl, sym, ap, ap₂, ◌∙◌, subst}
use mathlib.Core.Bool.{Bool, true, false, cond, not}
use mathlib.Core.List.{List, [], ◌∷◌, ◌++◌, append_assoc, append-nil}
use lib.Dec.{T, ltb, eqb, ltb→lt, nltb→le, eqb→eq, T_not, eqb_refl}
use lib.ListN.{length, take, drop, length-append, length-drop, take-append-drop}
use lib.Seq.{take_at, drop_at, take-add, drop-drop, length-take-le}
use borrow.Author.Tests.{ltb-true, ltb-false, lt-ltb, le-ltb, ne_eqb}
use Rattle.numbers.specs.Little.{little, bytes_of, Bytes, span}
use Rattle.numbers.proofs.LittleLaws.{bytes_drop, little_small, length-bytes_of, little-bytes_of, bytes_of-little, part_rest}
use Rattle.records.specs.Records.{Rec, header_word, lead_of, header_of, encode_one, encode, size, RecordObeys, Lawful, Encodes}
use Rattle.records.specs.Reading.{Stands, whole, fault, guard, body_at, long_at, word_at, stands_at, front_of, record_at, ahead_by, ahead_of, Read, onto, read_from, Ahead, Front}
use Rattle.records.specs.Answers.{refusal, further}
use Rattle.records.specs.Stopping.{AtFront, cut, long_cut, small, past, long_past, reserved, deep, cap_behind}
use Rattle.records.specs.declared.fault.Fault.{Fault}
use Rattle.records.specs.declared.fault.Refusal.{Refusal}
use Rattle.records.specs.declared.header.Header.{Header}
use Rattle.records.specs.declared.header.Record.{Record}
use Rattle.records.proofs.HeaderLaws.{lead_short, lead_long, lead_bounds, length_part}

-- ---- the 32 bits of a header

module _ (tag level n : ℕ) (ht : tag < 1024) (hl : level < 1024) where
  tag_in : header_word tag level n % 1024 ≡ tag
  unfolding header_word
  tag_in = omega arith

  level_in : header_word tag level n / 1024 % 1024 ≡ level
  unfolding header_word
  level_in = omega arith

  size_in_lem : header_word tag level n / 1048576 ≡ n
  unfolding header_word
  size_in_lem = omega arith

  word_small : n < 4096 → header_word tag level n < span 4
  unfolding header_word span
  word_small h = omega arith

word_parts : (w : ℕ) → header_word (w % 1024) (w / 1024 % 1024) (w / 1048576) ≡ w
unfolding header_word
word_parts w = omega arith

-- ---- lengths

pub header-short : (tag level n : ℕ) → n < 4095 → header_of tag level n ≡ bytes_of 4 (header_word tag level n)
unfolding header_of
header-short tag level n h = simp (lt-ltb n 4095 h)

pub header-long : (tag level n : ℕ) → 4095 ≤ n → header_of tag level n ≡ bytes_of 4 (header_word tag level 4095) ++ bytes_of 4 n
unfolding header_of
header-long tag level n h = simp (le-ltb n 4095 h)

pub length-header_of : (tag level n : ℕ) → length (header_of tag level n) ≡ lead_of n
length-header_of tag level n =
    elim (dec_le 4095 n) [
      | yes h ↦ simp (header-long tag level n h, length-append, length-bytes_of) (sym (lead_long n h))
      | no g ↦
          let h : n < 4095 = lt_of_not-le g in
          simp (header-short tag level n h, length-bytes_of) (sym (lead_short n h))
    ]

pub length-encode_one : (r : Rec) → length (encode_one r) ≡ size r
unfolding encode_one size
length-encode_one r = simp (length-append, length-header_of)

pub size_least : (r : Rec) → 4 ≤ size r
unfolding size
size_least r = omega (arith, lead_bounds (length r.body))

-- ---- the record at the front of an encoding

module _ (cap : ℕ) (s : List ℕ) (tag level n : ℕ) (t-low : 16 ≤ tag) (t-high : tag < 1024) (l-cap : level ≤ cap) (l-high : level < 1024) where
  short_stands : little 4 s ≡ header_word tag level n → n < 4095 → 4 + n ≤ length s
      → stands_at cap s ≡ whole (record { tag = tag; level = level; body = take n (drop 4 s) })
  unfolding stands_at word_at body_at guard
  short_stands e h k =
      simp (
        e,
        tag_in tag level n t-high l-high,
        level_in tag level n t-high l-high,
        size_in_lem tag level n t-high l-high,
        le-ltb (length s) 4 (omega arith),
        le-ltb tag 16 t-low,
        le-ltb cap level l-cap,
        ne_eqb n 4095 (λ q. omega arith),
        le-ltb (length s) (4 + n) k,
      )

  long_stands : little 4 s ≡ header_word tag level 4095 → little 4 (drop 4 s) ≡ n → 4095 ≤ n → 8 + n ≤ length s
      → stands_at cap s ≡ whole (record { tag = tag; level = level; body = take n (drop 8 s) })
  unfolding stands_at word_at long_at body_at guard
  long_stands e f h k =
      simp (
        e,
        f,
        tag_in tag level 4095 t-high l-high,
        level_in tag level 4095 t-high l-high,
        size_in_lem tag level 4095 t-high l-high,
        le-ltb (length s) 4 (omega arith),
        le-ltb (length s) 8 (omega arith),
        le-ltb tag 16 t-low,
        le-ltb cap level l-cap,
        le-ltb n 4095 h,
        le-ltb (length s) (8 + n) k,
      )

short-bytes : (r : Rec) (t : List ℕ) → length r.body < 4095
    → encode_one r ++ t ≡ bytes_of 4 (header_word r.tag r.level (length r.body)) ++ (r.body ++ t)
unfolding encode_one
short-bytes r t h = simp (header-short r.tag r.level (length r.body) h, append_assoc)

long-bytes : (r : Rec) (t : List ℕ) → 4095 ≤ length r.body
    → encode_one r ++ t ≡ bytes_of 4 (header_word r.tag r.level 4095) ++ (bytes_of 4 (length r.body) ++ (r.body ++ t))
unfolding encode_one
long-bytes r t h = simp (header-long r.tag r.level (length r.body) h, append_assoc)

encode-length : (r : Rec) (t : List ℕ) → length (encode_one r ++ t) ≡ size r + length t
encode-length r t = simp (length-append, length-encode_one)

-- the body, behind a lead of four or eight bytes
behind : (a b t : List ℕ) (k : ℕ) → length a ≡ k → take (length b) (drop k (a ++ (b ++ t))) ≡ b
behind a b t k e = simp (drop_at a (b ++ t) k e, take_at b t (length b) refl)

module _ (cap : ℕ) (r : Rec) (t : List ℕ) (o : RecordObeys cap r) where
  stands_short : length r.body < 4095 → stands_at cap (encode_one r ++ t) ≡ whole r
  unfolding size
  stands_short h =
      let n = length r.body in
      let w = header_word r.tag r.level n in
      let e = short-bytes r t h in
      let m = word_small r.tag r.level n o.tag_high o.level_high (omega arith) in
      short_stands cap (encode_one r ++ t) r.tag r.level n o.tag_low o.tag_high o.level_cap o.level_high
      (ap (little 4) e ∙ little-bytes_of 4 w (r.body ++ t) m) h (omega (arith, encode-length r t, lead_short n h))
      ∙ ap (λ (b : List ℕ). whole (record { tag = r.tag; level = r.level; body = b }))
      (ap (λ (l : List ℕ). take n (drop 4 l)) e ∙ behind (bytes_of 4 w) r.body t 4 (length-bytes_of 4 w))

  stands_long : 4095 ≤ length r.body → stands_at cap (encode_one r ++ t) ≡ whole r
  unfolding size span
  stands_long h =
      let n = length r.body in
      let w = header_word r.tag r.level 4095 in
      let e = long-bytes r t h in
      let m = word_small r.tag r.level 4095 o.tag_high o.level_high (omega arith) in
      let d : drop 4 (encode_one r ++ t) ≡ bytes_of 4 n ++ (r.body ++ t) = ap (drop 4) e ∙ drop_at (bytes_of 4 w) (bytes_of 4 n ++ (r.body ++ t)) 4 (length-bytes_of 4 w) in
      let d' : drop 8 (encode_one r ++ t) ≡ drop 4 (bytes_of 4 n ++ (r.body ++ t)) = sym (drop-drop 4 4 (encode_one r ++ t)) ∙ ap (drop 4) d in
      long_stands cap (encode_one r ++ t) r.tag r.level n o.tag_low o.tag_high o.level_cap o.level_high
      (ap (little 4) e ∙ little-bytes_of 4 w (bytes_of 4 n ++ (r.body ++ t)) m) (ap (little 4) d ∙ little-bytes_of 4 n (r.body ++ t) o.body_fits) h
      (omega (arith, encode-length r t, lead_long n h))
      ∙ ap (λ (b : List ℕ). whole (record { tag = r.tag; level = r.level; body = b }))
      (ap (take n) d' ∙ behind (bytes_of 4 n) r.body t 4 (length-bytes_of 4 n))

  pub stands_encode : stands_at cap (encode_one r ++ t) ≡ whole r
  stands_encode = elim (dec_le 4095 (length r.body)) [ yes h ↦ stands_long h | no g ↦ stands_short (lt_of_not-le g) ]

-- ---- what stands at the front is encoded there

-- what is known of a record that stands at the front of s
pub record Found (cap : ℕ) (s : List ℕ) (r : Rec) : Type 0 where
  pub obeys : RecordObeys cap r
  pub inside : size r ≤ length s
  pub bytes : encode_one r ≡ take (size r) s

abbrev FoundIf : ℕ → List ℕ → Stands → Type 0
FoundIf cap s (fault f) = Unit {0}
FoundIf cap s (whole r) = Found cap s r

pub by_guard : (P : Stands → Type 0) (b : Bool) (f : Fault) (p : ℕ) (x : Stands) → (T b → P (fault (refusal f p))) → (T (not b) → P x) → P (guard b f p x)
unfolding guard
by_guard P true f p x stopped passed = stopped tt
by_guard P false f p x stopped passed = passed tt

pub by_cond : (P : Stands → Type 0) (b : Bool) (x y : Stands) → (T b → P x) → (T (not b) → P y) → P (cond b x y)
by_cond P true x y f g = f tt
by_cond P false x y f g = g tt

not_eq : (a b : ℕ) → T (not (eqb a b)) → a ≡ b → ⊥
not_eq a b z e = T_not (eqb a b) z (subst (λ (m : ℕ). T (eqb a m)) e (eqb_refl a))

take_both : (s a b : List ℕ) (m n : ℕ) → a ≡ take m s → b ≡ take n (drop m s) → a ++ b ≡ take (m + n) s
take_both s a b m n e f = ap₂ (λ (x y : List ℕ). x ++ y) e f ∙ sym (take-add m n s)

module _ (cap : ℕ) (s : List ℕ) (bs : Bytes s) where
  abbrev w : ℕ
  w = little 4 s

  abbrev found_of : ℕ → ℕ → Rec
  found_of skip n = record { tag = w % 1024; level = w / 1024 % 1024; body = take n (drop skip s) }

  found_obeys : (skip n : ℕ) → 16 ≤ w % 1024 → w / 1024 % 1024 ≤ cap → n < span 4 → skip + n ≤ length s → RecordObeys cap (found_of skip n)
  unfolding span
  found_obeys skip n t l h k =
      record {
        tag_low = t;
        tag_high = omega arith;
        level_cap = l;
        level_high = omega arith;
        body_fits = omega (arith, length_part s skip n k);
      }

  found_short : 16 ≤ w % 1024 → w / 1024 % 1024 ≤ cap → (w / 1048576 ≡ 4095 → ⊥) → 4 + w / 1048576 ≤ length s → Found cap s (found_of 4 (w / 1048576))
  unfolding size encode_one span
  found_short t l z k =
      let n = w / 1048576 in
      let small = little_small 4 s bs in
      let h : n < 4095 = omega arith in
      let e = length_part s 4 n k in
      let size_is : size (found_of 4 n) ≡ 4 + n = simp (e, lead_short n h) in
      record {
        obeys = found_obeys 4 n t l (omega arith) k;
        inside = omega arith;
        bytes =
            take_both s (header_of (w % 1024) (w / 1024 % 1024) (length (take n (drop 4 s)))) (take n (drop 4 s)) 4 n
            (simp (e, header-short (w % 1024) (w / 1024 % 1024) n h, word_parts w) (bytes_of-little 4 s bs (omega arith))) refl
            ∙ ap (λ (m : ℕ). take m s) (sym size_is);
      }

  found_long : (n : ℕ) → n ≡ little 4 (drop 4 s) → 16 ≤ w % 1024 → w / 1024 % 1024 ≤ cap → w / 1048576 ≡ 4095 → 4095 ≤ n → 8 + n ≤ length s → Found cap s (found_of 8 n)
  unfolding size encode_one span
  found_long n q t l z h k =
      let small = little_small 4 (drop 4 s) (bytes_drop 4 s bs) in
      let e = length_part s 8 n k in
      let size_is : size (found_of 8 n) ≡ 8 + n = simp (e, lead_long n h) in
      let first : bytes_of 4 (header_word (w % 1024) (w / 1024 % 1024) 4095) ≡ take 4 s = simp (sym z, word_parts w) (bytes_of-little 4 s bs (omega arith)) in
      let second : bytes_of 4 n ≡ take 4 (drop 4 s) = simp q (bytes_of-little 4 (drop 4 s) (bytes_drop 4 s bs) (omega (arith, length-drop 4 s))) in
      record {
        obeys = found_obeys 8 n t l (omega arith) k;
        inside = omega arith;
        bytes =
            take_both s (header_of (w % 1024) (w / 1024 % 1024) (length (take n (drop 8 s)))) (take n (drop 8 s)) 8 n
            (simp (e, header-long (w % 1024) (w / 1024 % 1024) n h) (take_both s (bytes_of 4 (header_word (w % 1024) (w / 1024 % 1024) 4095)) (bytes_of 4 n) 4 4 first second)) refl
            ∙ ap (λ (m : ℕ). take m s) (sym size_is);
      }

  found_if : FoundIf cap s (stands_at cap s)
  unfolding stands_at word_at long_at body_at
  found_if =
      let P = FoundIf cap s in
      by_guard P (ltb (length s) 4) _ _ _ (λ _. tt)
      (λ _.
      by_guard P (ltb (w % 1024) 16) _ _ _ (λ _. tt)
      (λ t.
      by_guard P (ltb cap (w / 1024 % 1024)) _ _ _ (λ _. tt)
      (λ l.
      by_cond P (eqb (w / 1048576) 4095) _ _
      (λ z.
      by_guard P (ltb (length s) 8) _ _ _ (λ _. tt)
      (λ _.
      by_guard P (ltb (little 4 (drop 4 s)) 4095) _ _ _ (λ _. tt)
      (λ h.
      by_guard P (ltb (length s) (8 + little 4 (drop 4 s))) _ _ _ (λ _. tt)
      (λ k. found_long (little 4 (drop 4 s)) refl (nltb→le _ _ t) (nltb→le _ _ l) (eqb→eq _ _ z) (nltb→le _ _ h) (nltb→le _ _ k)))))
      (λ z.
      by_guard P (ltb (length s) (4 + w / 1048576)) _ _ _ (λ _. tt)
      (λ k. found_short (nltb→le _ _ t) (nltb→le _ _ l) (not_eq (w / 1048576) 4095 z) (nltb→le _ _ k))))))

  pub found : (r : Rec) → stands_at cap s ≡ whole r → Found cap s r
  found r e = subst (FoundIf cap s) e found_if

-- ---- the clauses of reading

pub read_skip : (cap k : ℕ) (s : List ℕ) → read_from cap k s ≡ read_from cap 0 (drop k s)
unfolding read_from
read_skip cap zero s = refl
read_skip cap (suc k) [] = refl
read_skip cap (suc k) (x ∷ s) = read_skip cap k s

pub read_end : (cap : ℕ) (s : List ℕ) → length s ≡ 0 → read_from cap 0 s ≡ record { recs = []; stop = None }
unfolding read_from
read_end cap [] e = refl
read_end cap (x ∷ s) e = absurd (omega arith)

pub read_stop : (cap : ℕ) (s : List ℕ) (f : Refusal) → 0 < length s → stands_at cap s ≡ fault f → read_from cap 0 s ≡ record { recs = []; stop = Some f }
unfolding read_from
read_stop cap [] f h e = absurd (omega arith)
read_stop cap (x ∷ s) f h e = rw (e, read_from)

pub read_next : (cap : ℕ) (s : List ℕ) (r : Rec) → 0 < length s → stands_at cap s ≡ whole r
    → read_from cap 0 s ≡ onto r (read_from (r.level + 1) 0 (drop (size r) s))
unfolding read_from
read_next cap [] r h e = absurd (omega arith)
read_next cap (x ∷ s) r h e =
    let one : size r ≡ suc (size r - 1) = omega (arith, size_least r) in
    rw (e, read_from) (ap (onto r) (read_skip (r.level + 1) (size r - 1) s ∙ ap (λ (k : ℕ). read_from (r.level + 1) 0 (drop k (x ∷ s))) (sym one)))

-- ---- reading what was encoded

pub read_encode : (cap : ℕ) (rs : List Rec) → Lawful cap rs → read_from cap 0 (encode rs) ≡ record { recs = rs; stop = None }
unfolding encode onto
read_encode cap [] l = read_end cap [] refl
read_encode cap (r ∷ rs) l =
    read_next cap (encode_one r ++ encode rs) r (omega (arith, encode-length r (encode rs), size_least r)) (stands_encode cap r (encode rs) l.0)
    ∙ ap (λ (s : List ℕ). onto r (read_from (r.level + 1) 0 s)) (drop_at (encode_one r) (encode rs) (size r) (length-encode_one r))
    ∙ ap (onto r) (read_encode (r.level + 1) rs l.1)

-- ---- a fault at the front

abbrev AtFrontIf : ℕ → List ℕ → Stands → Type 0
AtFrontIf cap s (fault f) = AtFront cap s f
AtFrontIf cap s (whole r) = Unit {0}

at_front_if : (cap : ℕ) (s : List ℕ) → AtFrontIf cap s (stands_at cap s)
unfolding stands_at word_at long_at body_at
at_front_if cap s =
    let P = AtFrontIf cap s in
    by_guard P (ltb (length s) 4) _ _ _ (λ h. cut (ltb→lt _ _ h))
    (λ _.
    by_guard P (ltb (little 4 s % 1024) 16) _ _ _ (λ h. reserved (ltb→lt _ _ h))
    (λ _.
    by_guard P (ltb cap (little 4 s / 1024 % 1024)) _ _ _ (λ h. deep (ltb→lt _ _ h))
    (λ _.
    by_cond P (eqb (little 4 s / 1048576) 4095) _ _
    (λ z.
    by_guard P (ltb (length s) 8) _ _ _ (λ h. long_cut (eqb→eq _ _ z) (ltb→lt _ _ h))
    (λ k.
    by_guard P (ltb (little 4 (drop 4 s)) 4095) _ _ _ (λ h. small (eqb→eq _ _ z) (nltb→le _ _ k) (ltb→lt _ _ h))
    (λ _. by_guard P (ltb (length s) (8 + little 4 (drop 4 s))) _ _ _ (λ h. long_past (eqb→eq _ _ z) (ltb→lt _ _ h)) (λ _. tt))))
    (λ z. by_guard P (ltb (length s) (4 + little 4 s / 1048576)) _ _ _ (λ h. past (not_eq (little 4 s / 1048576) 4095 z) (ltb→lt _ _ h)) (λ _. tt)))))

pub at_front : (cap : ℕ) (s : List ℕ) (f : Refusal) → stands_at cap s ≡ fault f → AtFront cap s f
at_front cap s f e = subst (AtFrontIf cap s) e (at_front_if cap s)

-- at one of its bytes, or at its end
pub front-inside : (cap : ℕ) (s : List ℕ) (f : Refusal) → AtFront cap s f → f.place.0 ≤ length s
front-inside cap s f (cut h) = omega arith
front-inside cap s f (long_cut z h) = omega arith
front-inside cap s f (small z k h) = omega arith
front-inside cap s f (past z h) = omega arith
front-inside cap s f (long_past z h) = omega arith
front-inside cap s f (reserved h) = omega arith
front-inside cap s f (deep h) = omega arith

-- ---- what reading comes to: n bounds the length

-- what is left where reading came to its end
abbrev pub Left : ℕ → List ℕ → Option Refusal → Type 0
Left cap rest None = rest ≡ []
Left cap rest (Some f) = AtFront cap rest f

-- what reading a stream came to, where the first level is at most cap
pub record Reads (cap : ℕ) (s : List ℕ) (x : Read) : Type 0 where
  pub lawful : Lawful cap x.recs
  pub rest : List ℕ
  pub stream : encode x.recs ++ rest ≡ s
  pub left : Left (cap_behind cap x.recs) rest x.stop

reads_end : (cap : ℕ) (s : List ℕ) → length s ≤ 0 → Reads cap s (read_from cap 0 s)
unfolding encode
reads_end cap [] h = rw (read_end cap [] refl) (record { lawful = tt; rest = []; stream = refl; left = refl })
reads_end cap (x ∷ s) h = absurd (omega arith)

-- at what stands at the front, where the rest behind a record does
reads_by : (cap : ℕ) (s : List ℕ) (a : Stands) → stands_at cap s ≡ a → Bytes s → 0 < length s
    → ((r : Rec) → stands_at cap s ≡ whole r → Reads (r.level + 1) (drop (size r) s) (read_from (r.level + 1) 0 (drop (size r) s)))
    → Reads cap s (read_from cap 0 s)
unfolding encode onto cap_behind
reads_by cap s (fault f) q bs h further = rw (read_stop cap s f h q) (record { lawful = tt; rest = s; stream = refl; left = at_front cap s f q })
reads_by cap s (whole r) q bs h further =
    let k = found cap s bs r q in
    let ih = further r q in
    rw (read_next cap s r h q)
    (record {
      lawful = (k.obeys, ih.lawful);
      rest = ih.rest;
      stream =
          append_assoc (encode_one r) (encode (read_from (r.level + 1) 0 (drop (size r) s)).recs) ih.rest
          ∙ ap₂ (λ (a b : List ℕ). a ++ b) k.bytes ih.stream ∙ take-append-drop (size r) s;
      left = ih.left;
    })

reads_within : (n cap : ℕ) (s : List ℕ) → length s ≤ n → Bytes s → Reads cap s (read_from cap 0 s)
reads_within zero cap s h bs = reads_end cap s h
reads_within (suc n) cap s h bs =
    elim (dec_le (length s) 0) [
      | yes g ↦ reads_end cap s g
      | no g ↦
          reads_by cap s (stands_at cap s) refl bs (lt_of_not-le g)
          (λ r q. reads_within n (r.level + 1) (drop (size r) s) (omega (arith, length-drop (size r) s, size_least r)) (bytes_drop (size r) s bs))
    ]

pub reads : (cap : ℕ) (s : List ℕ) → Bytes s → Reads cap s (read_from cap 0 s)
reads cap s bs = reads_within (length s) cap s (omega arith) bs

-- without a fault the stream is the encoding of the records
pub encode_read : (cap : ℕ) (s : List ℕ) → Bytes s → (read_from cap 0 s).stop ≡ None → Encodes cap s (read_from cap 0 s).recs
encode_read cap s bs e =
    let k = reads cap s bs in
    let none_left : k.rest ≡ [] = subst (Left (cap_behind cap (read_from cap 0 s).recs) k.rest) e k.left in
    record { lawful = k.lawful; stream = sym (append-nil (encode (read_from cap 0 s).recs)) ∙ ap (λ (l : List ℕ). encode (read_from cap 0 s).recs ++ l) (sym none_left) ∙ k.stream }

-- how far behind the records a fault is
abbrev pub beyond : Option Refusal → ℕ
beyond None = 0
beyond (Some f) = f.place.0

-- the records and the fault behind them lie within the stream
pub read_prefix : (cap : ℕ) (s : List ℕ) → Bytes s → length (encode (read_from cap 0 s).recs) + beyond (read_from cap 0 s).stop ≤ length s
read_prefix cap s bs =
    let k = reads cap s bs in
    let l : length (encode (read_from cap 0 s).recs) + length k.rest ≡ length s = sym (length-append (encode (read_from cap 0 s).recs) k.rest) ∙ ap length k.stream in
    omega (arith, l, by (cap_behind cap (read_from cap 0 s).recs) (read_from cap 0 s).stop k.rest k.left)
  where
    by : (most : ℕ) (o : Option Refusal) (rest : List ℕ) → Left most rest o → beyond o ≤ length rest
    by most None rest h = omega arith
    by most (Some f) rest h = front-inside most rest f h

-- ---- what was read from the part behind `at` stands inside

module _ (s : List ℕ) (at cap : ℕ) (h : at < length s) where
  abbrev read_there : Front
  read_there = front_of (stands_at cap (take (length s - at) (drop at s)))

  as_rest : front_of (stands_at cap (drop at s)) ≡ read_there
  as_rest = ap (λ (l : List ℕ). front_of (stands_at cap l)) (sym (part_rest s at))

  by_record : Bytes s → (a : Stands) (k : Header) → stands_at cap (drop at s) ≡ a → front_of a ≡ Ok k → at + k.lead + k.len ≤ length s
  unfolding size
  by_record bs (fault f) k q e = absurd (let z : ◌≡◌ {A = ℕ} 0 1 = cc in omega arith)
  by_record bs (whole r) k q e =
      let same : record { tag = r.tag; level = r.level; lead = lead_of (length r.body); len = length r.body } ≡ k = cc in
      rw (← same) (omega (arith, h, (found cap (drop at s) (bytes_drop at s bs) r q).inside, length-drop at s))

  pub record_inside : (k : Header) → Bytes s → read_there ≡ Ok k → at + k.lead + k.len ≤ length s
  record_inside k bs e = by_record bs (stands_at cap (drop at s)) k refl (as_rest ∙ e)

  by_fault : (a : Stands) (f : Refusal) → front_of a ≡ Err f → a ≡ fault f
  by_fault (fault g) f e = ap fault cc
  by_fault (whole r) f e = absurd (let z : ◌≡◌ {A = ℕ} 0 1 = cc in omega arith)

  pub fault_inside : (f : Refusal) → read_there ≡ Err f → at + f.place.0 ≤ length s
  fault_inside f e =
      let q = by_fault (stands_at cap (drop at s)) f (as_rest ∙ e) in
      omega (arith, h, length-drop at s, front-inside cap (drop at s) f (at_front cap (drop at s) f q))

-- the body is behind the lead
pub body_behind : (r : Rec) (x : List ℕ) → encode_one r ≡ take (size r) x → size r ≤ length x
    → take (length r.body) (drop (lead_of (length r.body)) x) ≡ r.body
unfolding encode_one size
body_behind r x e h =
    let lead = lead_of (length r.body) in
    let n = length r.body in
    sym (drop_at (take lead x) (take n (drop lead x)) lead (length-take-le lead x (omega arith)))
    ∙ ap (drop lead) (sym (take-add lead n x) ∙ sym e)
    ∙ drop_at (header_of r.tag r.level n) r.body lead (length-header_of r.tag r.level n)

-- ---- a step over the records: what is known where it found one at `at`

pub record Here (s : List ℕ) (at cap : ℕ) (r : Record) : Type 0 where
  pub rec : Rec
  pub is : r ≡ record_at at rec
  pub tag_is : r.tag ≡ rec.tag
  pub level_is : r.level ≡ rec.level
  pub body_is : r.body.0 ≡ at + lead_of (length rec.body)
  pub length-is : r.len ≡ length rec.body
  pub next-is : r.next.0 ≡ at + size rec
  pub body_end : r.body.0 + r.len ≡ r.next.0
  pub size_low : 4 ≤ size rec
  pub left : at < length s
  pub stands : stands_at cap (drop at s) ≡ whole rec
  pub obeys : RecordObeys cap rec
  pub inside : at + size rec ≤ length s
  pub bytes : encode_one rec ≡ take (size rec) (drop at s)
  pub body_there : take r.len (drop r.body.0 s) ≡ rec.body
  pub next : read_from cap 0 (drop at s) ≡ onto rec (read_from (rec.level + 1) 0 (drop (at + size rec) s))

-- a reading from `at` on that stops at once, with the fault f of the stream
pub record Stops (x : Read) (at : ℕ) (f : Refusal) : Type 0 where
  pub found : Refusal
  pub is : further at found ≡ f
  pub reads : x ≡ record { recs = []; stop = Some found }

module _ (s : List ℕ) (at cap : ℕ) where
  some_left : at < length s → 0 < length (drop at s)
  some_left h = omega (arith, length-drop at s)

  module _ (bs : Bytes s) where
    here_by : (b : Bool) (a : Stands) (r : Record) → ltb at (length s) ≡ b → stands_at cap (drop at s) ≡ a → cond b (ahead_by at a) None ≡ Some (Ok r) → Here s at cap r
    unfolding size
    here_by false a r t q e = absurd (let z : ◌≡◌ {A = ℕ} 0 1 = cc in omega arith)
    here_by true (fault f) r t q e = absurd (let z : ◌≡◌ {A = ℕ} 0 1 = cc in omega arith)
    here_by true (whole k) r t q e =
        let h = ltb-true at (length s) t in
        let d = found cap (drop at s) (bytes_drop at s bs) k q in
        let i : record_at at k ≡ r = cc in
        rw (← i)
        (record {
          rec = k;
          is = refl;
          tag_is = refl;
          level_is = refl;
          body_is = refl;
          length-is = refl;
          next-is = refl;
          body_end = omega arith;
          size_low = omega (arith, lead_bounds (length k.body));
          left = h;
          stands = q;
          obeys = d.obeys;
          inside = omega (arith, d.inside, length-drop at s);
          bytes = d.bytes;
          body_there = ap (take (length k.body)) (sym (drop-drop (lead_of (length k.body)) at s)) ∙ body_behind k (drop at s) d.bytes d.inside;
          next = read_next cap (drop at s) k (some_left h) q ∙ ap (λ (l : List ℕ). onto k (read_from (k.level + 1) 0 l)) (drop-drop (size k) at s);
        })

    pub here : (r : Record) → ahead_of cap s at ≡ Some (Ok r) → Here s at cap r
    unfolding ahead_of
    here r e = here_by (ltb at (length s)) (stands_at cap (drop at s)) r refl refl e

  -- and where it found none: a fault, with its place in the stream
  stops_by : (b : Bool) (a : Stands) (f : Refusal) → ltb at (length s) ≡ b → stands_at cap (drop at s) ≡ a → cond b (ahead_by at a) None ≡ Some (Err f)
      → Stops (read_from cap 0 (drop at s)) at f
  stops_by false a f t q e = absurd (let z : ◌≡◌ {A = ℕ} 0 1 = cc in omega arith)
  stops_by true (whole k) f t q e = absurd (let z : ◌≡◌ {A = ℕ} 0 1 = cc in omega arith)
  stops_by true (fault g) f t q e = record { found = g; is = cc; reads = read_stop cap (drop at s) g (some_left (ltb-true at (length s) t)) q }

  pub stops_here : (f : Refusal) → ahead_of cap s at ≡ Some (Err f) → Stops (read_from cap 0 (drop at s)) at f
  unfolding ahead_of
  stops_here f e = stops_by (ltb at (length s)) (stands_at cap (drop at s)) f refl refl e

  ends_by : (b : Bool) (a : Stands) → ltb at (length s) ≡ b → cond b (ahead_by at a) None ≡ None → length s ≤ at
  ends_by false a t e = ltb-false at (length s) t
  ends_by true (whole k) t e = absurd (let z : ◌≡◌ {A = ℕ} 0 1 = cc in omega arith)
  ends_by true (fault f) t e = absurd (let z : ◌≡◌ {A = ℕ} 0 1 = cc in omega arith)

  pub at_end : ahead_of cap s at ≡ None → length s ≤ at
  unfolding ahead_of
  at_end e = ends_by (ltb at (length s)) (stands_at cap (drop at s)) refl e

  pub ends_here : ahead_of cap s at ≡ None → read_from cap 0 (drop at s) ≡ record { recs = []; stop = None }
  ends_here e = read_end cap (drop at s) (omega (arith, length-drop at s, at_end e))

-- a step that found no record, whichever way: as `let .. else` leaves it
abbrev pub NoRecord : Ahead → Type 0
NoRecord x = (r : Record) → x ≡ Some (Ok r) → ⊥

-- and as an arm for the rest tells it
pub not_record : (x : Ahead) → ((r : Record) → x ≡ Some (Ok r) → ⊥) → NoRecord x
not_record x n = n

pub none_here : (s : List ℕ) (at cap : ℕ) (x : Ahead) → x ≡ ahead_of cap s at → NoRecord x → (read_from cap 0 (drop at s)).recs ≡ []
none_here s at cap (Some (Ok r)) e n = absurd (n r refl)
none_here s at cap (Some (Err f)) e n = ap (λ (y : Read). y.recs) (stops_here s at cap f (sym e)).reads
none_here s at cap None e n = ap (λ (y : Read). y.recs) (ends_here s at cap (sym e))
