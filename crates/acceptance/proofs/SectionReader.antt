-- The reader's statement for a section (demand 2): check accepts a stream exactly when it is the encoding of a list of records that
-- obeys document 01. Assumes nothing.
use Rattle.std.specs.Prelude.{Err, None, Ok, Option, Some}
use Rattle.records.specs.Answers.{Answer}
use Prim.Native.Nat.{ℕ, zero, suc, ◌+◌, ◌-◌, ◌≤◌}
use native.Mathlib.Omega.{arith}
use mathlib.Core.Path.{◌≡◌, refl, sym, ap, ◌∙◌, subst}
use mathlib.Core.Logic.{inl, inr, ◌↔◌}
use mathlib.Core.Bool.{Bool, true, false, cond, ◌&&◌, ◌||◌, not}
use mathlib.Core.List.{List, [], ◌∷◌}
use lib.ListN.{length}
use borrow.Author.Tests.{eq-eqb, ne_eqb, not-false}
use Rattle.numbers.specs.Little.{Bytes}
use Rattle.records.specs.Records.{Rec, size, Lawful}
use Rattle.records.specs.Parents.{parent_of}
use Rattle.records.specs.Reading.{Read, Stands, whole, fault, stands_at, onto, read_from, read_all}
use Rattle.records.specs.Table.{read_answer, settled, after_read}
use Rattle.records.specs.declared.fault.Refusal.{Refusal}
use Rattle.records.proofs.AnswerLaws.{judged_accepted}
use Rattle.records.proofs.Reader.{accepted_stream, stream_records, stream_accepted}
use Rattle.paragraph.specs.View.{view}
use Rattle.paragraph.specs.Rules.{first_fault, Finding, breach}
use Rattle.text.proofs.Cases.{eq_or}
use Rattle.section.specs.Parents.{doubled, leaf, header, parent_is, misplaced, stray_from}
use Rattle.section.specs.Section.{refusal_or, finding_of, paragraphs_fault, stray_or, section_fault, section_answer, check_answer}
use Rattle.section.proofs.SectionLaws.{section_accepted}
use Rattle.acceptance.specs.Keeps.{Keeps}
use Rattle.acceptance.specs.Section.{Placed, AllPlaced, AllKeep, SectionObeys, IsSection}
use Rattle.acceptance.proofs.ChainLaws.{both_false, neither}
use Rattle.acceptance.proofs.ParagraphReader.{keeps_exactly}
use Rattle.acceptance.proofs.PlaceLaws.{PlacedBy, by_parent}
use Rattle.acceptance.proofs.SiblingLaws.{cap_of, Stepped, doubled_sibling, sibling_doubled}

-- ---- rule 9

and_says : (a b : Bool) → (a && b) ≡ false → a ≡ true → b ≡ false
and_says true b e q = e
and_says false b e q = absurd (let z : ◌≡◌ {A = ℕ} 0 1 = cc in omega arith)

and_not : (a b : Bool) → (a ≡ true → b ≡ false) → (a && b) ≡ false
and_not true b h = h refl
and_not false b h = refl

not_both : (b : Bool) → (b ≡ true → ⊥) → b ≡ false
not_both true h = absurd (h refl)
not_both false h = refl

module _ (r : Rec) (earlier : List Rec) (steps : Stepped earlier) where
  placed_says : misplaced r earlier ≡ false → PlacedBy r earlier
  unfolding misplaced
  placed_says e =
      let up = parent_of r.level earlier in
      let a = both_false (parent_is leaf up) _ e in
      let b : (leaf r.tag ≡ true → (not (parent_is header up) || doubled r.tag r.level earlier) ≡ false) = and_says (leaf r.tag) _ a.1 in
      record {
        below-header = λ l. not-false (parent_is header up) (both_false (not (parent_is header up)) (doubled r.tag r.level earlier) (b l)).0;
        single = λ l w.
            let d = (both_false (not (parent_is header up)) (doubled r.tag r.level earlier) (b l)).1 in
            let y : true ≡ false = sym (sibling_doubled r.tag r.level earlier steps w) ∙ d in
            let z : ◌≡◌ {A = ℕ} 0 1 = cc in
            omega arith;
        no_leaf_above = a.0;
      }

  placed_not : PlacedBy r earlier → misplaced r earlier ≡ false
  unfolding misplaced
  placed_not k =
      neither k.no_leaf_above
      (and_not (leaf r.tag) _
      (λ l.
      neither (ap not (k.below-header l))
      (not_both (doubled r.tag r.level earlier) (λ d. k.single l (doubled_sibling r.tag r.level earlier d)))))

  -- behind records that keep the level rule, 9 does not name a record exactly when it stands as document 01 says
  pub placed_exactly : (misplaced r earlier ≡ false) ↔ Placed r earlier
  placed_exactly = ((λ e. (by_parent r earlier).1 (placed_says e)), λ k. placed_not ((by_parent r earlier).0 k))

cond_none : (t : Bool) (at : ℕ) (rest : Option ℕ) → cond t (Some at) rest ≡ None → (t ≡ false) × (rest ≡ None)
cond_none true at rest e = absurd (let z : ◌≡◌ {A = ℕ} 0 1 = cc in omega arith)
cond_none false at rest e = (refl, e)

stray_says : (at : ℕ) (earlier rs : List Rec) → Stepped earlier → Lawful (cap_of earlier) rs → stray_from at earlier rs ≡ None → AllPlaced earlier rs
unfolding stray_from
stray_says at earlier [] w l e = tt
stray_says at earlier (r ∷ rs) w l e =
    let k = cond_none (misplaced r earlier) at (stray_from (at + size r) (r ∷ earlier) rs) e in
    ((placed_exactly r earlier w).0 k.0, stray_says (at + size r) (r ∷ earlier) rs (l.0.level_cap, w) l.1 k.1)

stray_not : (at : ℕ) (earlier rs : List Rec) → Stepped earlier → Lawful (cap_of earlier) rs → AllPlaced earlier rs → stray_from at earlier rs ≡ None
unfolding stray_from
stray_not at earlier [] w l k = refl
stray_not at earlier (r ∷ rs) w l k =
    rw ((placed_exactly r earlier w).1 k.0) (stray_not (at + size r) (r ∷ earlier) rs (l.0.level_cap, w) l.1 k.1)

-- ---- the paragraphs

refusal_says : (at : ℕ) (rs : List Rec) (x : Finding) (rest : Option Refusal) → refusal_or at rs x rest ≡ None → (x ≡ Ok tt) × (rest ≡ None)
refusal_says at rs (Ok tt) rest e = (refl, e)
refusal_says at rs (Err b) rest e = absurd (let z : ◌≡◌ {A = ℕ} 0 1 = cc in omega arith)

finding_says : (r : Rec) (rs : List Rec) → finding_of r.tag (r ∷ rs) ≡ Ok tt → r.tag ≡ 66 → Keeps (view r rs)
unfolding first_fault header
finding_says r rs e q = (keeps_exactly (view r rs)).0 (rw (eq-eqb r.tag 66 q) at e)

finding_not : (r : Rec) (rs : List Rec) → (r.tag ≡ 66 → Keeps (view r rs)) → finding_of r.tag (r ∷ rs) ≡ Ok tt
unfolding first_fault header
finding_not r rs h =
    elim (eq_or r.tag 66) [
      | inl q ↦ rw (eq-eqb r.tag 66 q) ((keeps_exactly (view r rs)).1 (h q))
      | inr q ↦ rw (ne_eqb r.tag 66 q)
    ]

keep_says : (at : ℕ) (rs : List Rec) → paragraphs_fault at rs ≡ None → AllKeep rs
unfolding paragraphs_fault
keep_says at [] e = tt
keep_says at (r ∷ rs) e =
    let k = refusal_says at (r ∷ rs) (finding_of r.tag (r ∷ rs)) (paragraphs_fault (at + size r) rs) e in
    (finding_says r rs k.0, keep_says (at + size r) rs k.1)

keep_not : (at : ℕ) (rs : List Rec) → AllKeep rs → paragraphs_fault at rs ≡ None
unfolding paragraphs_fault
keep_not at [] k = refl
keep_not at (r ∷ rs) k =
    ap (λ (x : Finding). refusal_or at (r ∷ rs) x (paragraphs_fault (at + size r) rs)) (finding_not r rs k.0) ∙ keep_not (at + size r) rs k.1

-- ---- the records of a section

stray_or_lem : (o : Option ℕ) (rest : Option Refusal) → stray_or o rest ≡ None → (o ≡ None) × (rest ≡ None)
stray_or_lem None rest e = (refl, e)
stray_or_lem (Some p) rest e = absurd (let z : ◌≡◌ {A = ℕ} 0 1 = cc in omega arith)

section_says : (rs : List Rec) → Lawful 0 rs → section_fault rs ≡ None → SectionObeys rs
unfolding section_fault
section_says rs l e =
    let k = stray_or_lem (stray_from 0 [] rs) (paragraphs_fault 0 rs) e in
    record { placed = stray_says 0 [] rs tt l k.0; paragraphs = keep_says 0 rs k.1 }

section_not : (rs : List Rec) → Lawful 0 rs → SectionObeys rs → section_fault rs ≡ None
unfolding section_fault
section_not rs l k = ap (λ (o : Option ℕ). stray_or o (paragraphs_fault 0 rs)) (stray_not 0 [] rs tt l k.placed) ∙ keep_not 0 rs k.paragraphs

-- of records that keep the tag and level rules, the section's rules find nothing exactly when document 01's sentences hold
pub obeys_exactly : (rs : List Rec) → Lawful 0 rs → (section_fault rs ≡ None) ↔ SectionObeys rs
obeys_exactly rs l = (section_says rs l, section_not rs l)

-- ---- check

-- a record takes a byte at least
records_few : (cap k : ℕ) (s : List ℕ) → length (read_from cap k s).recs ≤ length s
unfolding read_from onto
records_few cap k [] = omega arith
records_few cap (suc k) (x ∷ s) = omega (arith, records_few cap k s)
records_few cap zero (x ∷ s) = by (stands_at cap (x ∷ s)) refl (λ c k. records_few c k s)
  where
    by : (a : Stands) → stands_at cap (x ∷ s) ≡ a → ((c k : ℕ) → length (read_from c k s).recs ≤ length s) → length (read_from cap 0 (x ∷ s)).recs ≤ suc (length s)
    by (fault f) e rest = rw (e, read_from) (omega arith)
    by (whole r) e rest = rw (e, read_from) (omega (arith, rest (r.level + 1) (size r - 1)))

pub room_enough : (s : List ℕ) → length (read_all s).recs ≤ length s
unfolding read_all
room_enough s = records_few 0 0 s

-- what check accepts is a section
pub accepted_section : (s : List ℕ) (n : ℕ) → Bytes s → check_answer s ≡ Ok n → IsSection s n (read_all s).recs
unfolding check_answer section_answer
accepted_section s n bs e =
    let read : read_answer s (length s) ≡ Ok n = section_accepted s (length s) n e in
    let k = accepted_stream s (length s) n bs read in
    record {
      within = k.within;
      encodes = k.encodes;
      count = k.count;
      obeys = section_says (read_all s).recs k.encodes.lawful (judged_accepted (read_answer s (length s)) (section_fault (read_all s).recs) n e).1;
    }

-- a section is accepted, with its number of records
pub section_is_accepted : (s : List ℕ) (n : ℕ) (rs : List Rec) → IsSection s n rs → check_answer s ≡ Ok n
unfolding check_answer section_answer
section_is_accepted s n rs k =
    let same : (read_all s).recs ≡ rs = ap (λ (x : Read). x.recs) (stream_records s rs k.encodes) in
    let few : length rs ≤ length s = subst (λ (l : List Rec). length l ≤ length s) same (room_enough s) in
    let read = stream_accepted s (length s) n rs (record { within = k.within; encodes = k.encodes; fits = few; count = k.count }) in
    ap (λ (a : Answer). after_read a (section_fault (read_all s).recs)) read ∙ ap (settled n) (ap section_fault same ∙ section_not rs k.encodes.lawful k.obeys)
