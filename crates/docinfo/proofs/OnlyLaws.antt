-- The only record with a tag: where the records with a tag stand in a stream, and each way out of the search for the one. Assumes nothing.
use Rattle.std.specs.Prelude.{Err, None, Ok, Some}
use Prim.Native.Nat.{ℕ, ◌+◌}
use native.Mathlib.Omega.{arith}
use mathlib.Core.Path.{◌≡◌, refl, sym, ap, ◌∙◌}
use mathlib.Core.Bool.{Bool, true, false, cond}
use mathlib.Core.List.{List, [], ◌∷◌}
use lib.Dec.{eqb}
use borrow.Author.Tests.{eqb-true, eqb-false, eq-eqb, ne_eqb}
use Rattle.numbers.specs.Little.{Bytes}
use Rattle.records.specs.Records.{Rec, size}
use Rattle.records.specs.Reading.{offset, record_at, ahead_of, Read, read_all, Ahead}
use Rattle.records.specs.declared.header.Record.{Record}
use Rattle.records.proofs.ReadingLaws.{Here, here, stops_here, ends_here}
use Rattle.docinfo.specs.Only.{Located, tagged, Only, one, wrong, only_of, only, record_of, sought_of, sole_of, located_at, InStream}
use Rattle.docinfo.proofs.WalkLaws.{rest, walk_rec, walk_body}
use Rattle.docinfo.proofs.SeekLaws.{tagged_here, tagged_other, tagged_none}

-- ---- the record at the front of what is left stands there

pub record Begins (s : List ℕ) (at : ℕ) (r : Rec) (rs : List Rec) : Type 0 where
  pub inside : InStream s (record_at at r)
  pub is : located_at s (record_at at r) ≡ record { at = at; it = r; behind = rs }
  pub left : rest (r.level + 1) s (at + size r) ≡ rs

module _ (s : List ℕ) (bs : Bytes s) (at cap : ℕ) (r : Rec) (rs : List Rec) (e : rest cap s at ≡ r ∷ rs) where
  begins_here : (k : Record) → Here s at cap k → Begins s at r rs
  unfolding size
  begins_here k d =
      let next = walk_rec d in
      let same : d.rec ≡ r = cc in
      let left : rest (d.rec.level + 1) s (at + size d.rec) ≡ rs = cc in
      rw (← same, ← left) (record { inside = (refl, omega (arith, d.inside)); is = rw (walk_body d) refl; left = refl })

  -- nothing is left where no record stands
  begins_not : rest cap s at ≡ [] → Begins s at r rs
  begins_not n = absurd (let z : ◌≡◌ {A = ℕ} 0 1 = cc in omega arith)

  begins_by : (x : Ahead) → ahead_of cap s at ≡ x → Begins s at r rs
  begins_by (Some (Ok k)) q = begins_here k (here s at cap bs k q)
  begins_by (Some (Err f)) q = begins_not (ap (λ (y : Read). y.recs) (stops_here s at cap f q).reads)
  begins_by None q = begins_not (ap (λ (y : Read). y.recs) (ends_here s at cap q))

  begins : Begins s at r rs
  begins = begins_by (ahead_of cap s at) refl

-- ---- where a record with a tag stands: `others` are those behind it

pub record Stands (s : List ℕ) (t : ℕ) (p : Located) (others : List Located) : Type 0 where
  pub inside : InStream s (record_of p)
  pub is : located_at s (record_of p) ≡ p
  pub behind : others ≡ tagged t (p.at + size p.it) p.behind

module _ (s : List ℕ) (bs : Bytes s) (t : ℕ) where
  stands_by : (at : ℕ) (r : Rec) (rs : List Rec) (p : Located) (ps : List Located) → Begins s at r rs → (b : Bool) → eqb r.tag t ≡ b
      → tagged t at (r ∷ rs) ≡ p ∷ ps → (tagged t (at + size r) rs ≡ p ∷ ps → Stands s t p ps) → Stands s t p ps
  stands_by at r rs p ps b true q e further =
      let h = tagged_here t at r rs (eqb-true _ _ q) in
      let same : record { at = at; it = r; behind = rs } ≡ p = cc in
      let left : tagged t (at + size r) rs ≡ ps = cc in
      rw (← same, ← left) (record { inside = b.inside; is = b.is; behind = refl })
  stands_by at r rs p ps b false q e further = further (sym (tagged_other t at r rs (eqb-false _ _ q)) ∙ e)

  pub stands : (rs : List Rec) (at cap : ℕ) → rest cap s at ≡ rs → (p : Located) (ps : List Located) → tagged t at rs ≡ p ∷ ps → Stands s t p ps
  stands [] at cap e p ps q =
      let none_left = tagged_none t at in
      absurd (let z : ◌≡◌ {A = ℕ} 0 1 = cc in omega arith)
  stands (r ∷ rs) at cap e p ps q =
      let b = begins s bs at cap r rs e in
      stands_by at r rs p ps b (eqb r.tag t) refl q
      (λ k. stands rs (at + size r) (r.level + 1) b.left p ps k)

-- ---- the ways out of the search for the one

only_of_low : (p : Located) (ps : List Located) → (p.it.level ≡ 0 → ⊥) → only_of (p ∷ ps) ≡ wrong p.at
unfolding only_of
only_of_low p [] h = simp (ne_eqb p.it.level 0 h)
only_of_low p (q ∷ qs) h = simp (ne_eqb p.it.level 0 h)

only_of-doubled : (p q : Located) (qs : List Located) → p.it.level ≡ 0 → only_of (p ∷ q ∷ qs) ≡ wrong q.at
unfolding only_of
only_of-doubled p q qs h = simp (eq-eqb p.it.level 0 h)

pub only_of_one : (p : Located) → p.it.level ≡ 0 → only_of (p ∷ []) ≡ one p
unfolding only_of
only_of_one p h = simp (eq-eqb p.it.level 0 h)

-- what a finding says of the records with the tag
pub record Heads (ps : List Located) (r : Record) : Type 0 where
  pub first : Located
  pub others : List Located
  pub are : ps ≡ first ∷ others
  pub met : r ≡ record_of first

sought_some : (ps : List Located) (r : Record) → sought_of ps ≡ Some r → Heads ps r
sought_some [] r e = absurd (let z : ◌≡◌ {A = ℕ} 0 1 = cc in omega arith)
sought_some (p ∷ ps) r e = record { first = p; others = ps; are = refl; met = cc }

sought_none : (ps : List Located) → sought_of ps ≡ None → ps ≡ []
sought_none [] e = refl
sought_none (p ∷ ps) e = absurd (let z : ◌≡◌ {A = ℕ} 0 1 = cc in omega arith)

module _ (s : List ℕ) (t : ℕ) where
  abbrev all : List Located
  all = tagged t 0 (rest 0 s 0)

  only-is : only t (read_all s).recs ≡ only_of all
  unfolding only read_all
  only-is = refl

  pub only-absent : sought_of all ≡ None → Err (offset 0) ≡ sole_of (only t (read_all s).recs)
  unfolding only_of
  only-absent e = sym (ap sole_of (only-is ∙ ap only_of (sought_none all e)))

  module _ (bs : Bytes s) (r : Record) (e : sought_of all ≡ Some r) where
    k : Heads all r
    k = sought_some all r e

    stood : Stands s t k.first k.others
    stood = stands s bs t (rest 0 s 0) 0 0 refl k.first k.others k.are

    level_is : r.level ≡ k.first.it.level
    level_is = ap (λ (x : Record). x.level) k.met

    pub only_low : (r.level ≡ 0 → ⊥) → Err r.at ≡ sole_of (only t (read_all s).recs)
    only_low h =
        ap (λ (x : Record). Err x.at) k.met
        ∙ sym (ap sole_of (only-is ∙ ap only_of k.are ∙ only_of_low k.first k.others (λ q. h (level_is ∙ q))))

    module _ (h : r.level ≡ 0) where
      -- the records with the tag behind it
      abbrev behind : List Located
      behind = tagged t r.next.0 (rest 1 s r.next.0)

      others_are : k.others ≡ behind
      others_are =
          let next : k.first.it.level + 1 ≡ 1 = omega (arith, level_is) in
          stood.behind
          ∙ ap (tagged t (record_of k.first).next.0)
          (sym (ap (λ (x : Located). x.behind) stood.is) ∙ ap (λ (c : ℕ). rest c s (record_of k.first).next.0) next)
          ∙ ap (λ (x : Record). tagged t x.next.0 (rest 1 s x.next.0)) (sym k.met)

      pub only-doubled : (second : Record) → sought_of behind ≡ Some second → Err second.at ≡ sole_of (only t (read_all s).recs)
      only-doubled second f =
          let j = sought_some behind second f in
          let two : all ≡ k.first ∷ j.first ∷ j.others = k.are ∙ ap (λ (l : List Located). k.first ∷ l) (others_are ∙ j.are) in
          ap (λ (x : Record). Err x.at) j.met
          ∙ sym (ap sole_of (only-is ∙ ap only_of two ∙ only_of-doubled k.first j.first j.others (sym level_is ∙ h)))

      pub only_one : sought_of behind ≡ None → Ok r ≡ sole_of (only t (read_all s).recs)
      only_one f =
          let alone : all ≡ k.first ∷ [] = k.are ∙ ap (λ (l : List Located). k.first ∷ l) (others_are ∙ sought_none behind f) in
          ap Ok k.met ∙ sym (ap sole_of (only-is ∙ ap only_of alone ∙ only_of_one k.first (sym level_is ∙ h)))

-- ---- what the one record is

pub only_of-is : (ps : List Located) (p : Located) → only_of ps ≡ one p → (ps ≡ p ∷ []) × (p.it.level ≡ 0)
unfolding only_of
only_of-is [] p e = absurd (let z : ◌≡◌ {A = ℕ} 0 1 = cc in omega arith)
only_of-is (q ∷ []) p e = by_level (eqb q.it.level 0) refl e
  where
    by_level : (b : Bool) → eqb q.it.level 0 ≡ b → cond b (one q) (wrong q.at) ≡ one p → (q ∷ [] ≡ p ∷ []) × (p.it.level ≡ 0)
    by_level true l k = let same : q ≡ p = cc in (ap (λ (x : Located). x ∷ []) same, ap (λ (x : Located). x.it.level) (sym same) ∙ eqb-true _ _ l)
    by_level false l k = absurd (let z : ◌≡◌ {A = ℕ} 0 1 = cc in omega arith)
only_of-is (q ∷ r ∷ rs) p e = absurd (let z : ◌≡◌ {A = ℕ} 0 1 = cc in omega arith)

pub record Alone (s : List ℕ) (t : ℕ) (r : Record) : Type 0 where
  pub is : only t (read_all s).recs ≡ one (located_at s r)
  pub inside : InStream s r
  pub level : r.level ≡ 0

module _ (s : List ℕ) (bs : Bytes s) (t : ℕ) (r : Record) where
  alone_by : (x : Only) → only t (read_all s).recs ≡ x → sole_of x ≡ Ok r → Alone s t r
  alone_by (wrong a) q e = absurd (let z : ◌≡◌ {A = ℕ} 0 1 = cc in omega arith)
  alone_by (one p) q e =
      let met : record_of p ≡ r = cc in
      let k = only_of-is (all s t) p (sym (only-is s t) ∙ q) in
      let d = stands s bs t (rest 0 s 0) 0 0 refl p [] k.0 in
      rw (← met) (record { is = q ∙ ap one (sym d.is); inside = d.inside; level = k.1 })

  pub alone : sole_of (only t (read_all s).recs) ≡ Ok r → Alone s t r
  alone e = alone_by (only t (read_all s).recs) refl e
