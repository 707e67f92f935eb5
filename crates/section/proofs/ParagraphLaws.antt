-- Windows behind each other go over all paragraphs, and the least place at fault is what `paragraphs_fault` names. Assumes nothing.
use Rattle.std.specs.Prelude.{Err, None, Ok, Option, Some}
use Prim.Native.Nat.{ℕ, ◌+◌, ◌≤◌, ◌<◌, max}
use native.Mathlib.Omega.{arith}
use mathlib.Core.Path.{◌≡◌, refl, sym, ap, ◌∙◌, subst}
use mathlib.Core.Logic.{◌⊎◌, inl, inr}
use mathlib.Core.Bool.{Bool, true, false, cond}
use mathlib.Core.List.{List, [], ◌∷◌}
use lib.ListN.{length, drop}
use Rattle.numbers.specs.Little.{Bytes}
use Rattle.records.specs.Records.{Rec, size, Lawful}
use Rattle.records.specs.Answers.{refusal, refused_at}
use Rattle.records.specs.Reading.{offset, read_all}
use Rattle.records.specs.Table.{settled}
use Rattle.records.specs.declared.fault.Fault.{Fault}
use Rattle.records.specs.declared.fault.Offset.{Offset}
use Rattle.records.specs.declared.fault.Refusal.{Refusal}
use Rattle.records.proofs.ReadingLaws.{encode_read}
use Rattle.text.proofs.Cases.{lt_or}
use Rattle.paragraph.specs.Stream.{records_in}
use Rattle.paragraph.specs.Rules.{first_fault, Finding, breach}
use Rattle.paragraph.specs.Places.{place_of}
use Rattle.paragraph.specs.declared.finding.Which.{Which}
use Rattle.paragraph.proofs.StreamLaws.{in_read, stood_of, Stood}
use Rattle.section.specs.Parents.{header}
use Rattle.section.specs.Section.{finding_of, paragraphs_fault}
use Rattle.section.specs.Windows.{first_in, deepest_from, sooner}
use Rattle.section.specs.Slots.{below, faulty, fault_in, place_of_blamed}
use Rattle.section.specs.declared.slot.Blamed.{Blamed}
use Rattle.section.proofs.SweepLaws.{deepest_above}
use Rattle.section.proofs.SlotLaws.{Blames, end_lawful, sooner_known}
use Rattle.section.proofs.FirstLaws.{between_in, between_low, between_high, first_miss, first_hit, first_join, first_below}
use Rattle.paragraph.specs.declared.finding.Breach.{Breach}

-- ---- how deep the records go

deepest_high : (cap m : ℕ) (rs : List Rec) → Lawful cap rs → m < 1024 → deepest_from m rs < 1024
unfolding deepest_from
deepest_high cap m [] l h = h
deepest_high cap m (r ∷ rs) l h = deepest_high (r.level + 1) (max m r.level) rs l.1 (omega (arith, l.0.level_high))

-- a window below all records
beyond_none : (test : List Rec → Rec → List Rec → Bool) (m lo hi e at : ℕ) (earlier rs : List Rec) → deepest_from m rs + 1 < lo
    → first_in below test lo hi e at earlier rs ≡ e
unfolding first_in deepest_from
beyond_none test m lo hi e at earlier [] h = refl
beyond_none test m lo hi e at earlier (r ∷ rs) h =
    first_miss below test lo hi e at earlier r rs
    (rw (between_low lo hi (r.level + 1) (omega (arith, deepest_above (max m r.level) rs))))
    ∙ beyond_none test (max m r.level) lo hi e (at + size r) (r ∷ earlier) rs h

-- a window of no levels
none_between : (test : List Rec → Rec → List Rec → Bool) (e at : ℕ) (earlier rs : List Rec) → first_in below test 0 0 e at earlier rs ≡ e
unfolding first_in
none_between test e at earlier [] = refl
none_between test e at earlier (r ∷ rs) =
    first_miss below test 0 0 e at earlier r rs (rw (between_high 0 0 (r.level + 1) (omega arith) (omega arith)))
    ∙ none_between test e (at + size r) (r ∷ earlier) rs

-- ---- one window behind the other

module _ (s : List ℕ) where
  pub windows_none : length s ≡ fault_in 0 0 s
  unfolding fault_in
  windows_none = sym (none_between faulty (length s) 0 [] (records_in s))

  pub windows_next : (lo : ℕ) (a b : Option Blamed) {c : Option Blamed} → Blames s a (fault_in 0 lo s) → Blames s b (fault_in lo (lo + 16) s)
      → c ≡ sooner place_of_blamed a b → Blames s c (fault_in 0 (lo + 16) s)
  unfolding fault_in
  windows_next lo a b k m e =
      let z = first_join below faulty 0 lo (lo + 16) (length s) 0 [] (records_in s) (omega arith) (omega arith) in
      rw (← z) (sooner_known s a b k m e)

  pub windows_all : (lo first deepest : ℕ) → Bytes s → (read_all s).stop ≡ None → first ≡ fault_in 0 lo s → deepest ≡ deepest_from 0 (read_all s).recs → deepest < 1024
      → deepest + 1 < lo → first ≡ fault_in 0 1025 s
  unfolding fault_in
  windows_all lo first deepest bs w e m d h = e ∙ go (lt_or lo 1025)
    where
      deep : deepest_from 0 (records_in s) ≡ deepest
      deep = ap (deepest_from 0) (in_read s bs w) ∙ sym m

      go : (lo < 1025) ⊎ (1025 ≤ lo) → fault_in 0 lo s ≡ fault_in 0 1025 s
      go (inl q) =
          let a = first_join below faulty 0 lo 1025 (length s) 0 [] (records_in s) (omega arith) (omega arith) in
          let b = beyond_none faulty 0 lo 1025 (length s) 0 [] (records_in s) (omega (arith, deep)) in
          let c = first_below below faulty 0 lo (length s) 0 [] (records_in s) in
          omega (arith, a, b, c)
      go (inr q) =
          let a = first_join below faulty 0 1025 lo (length s) 0 [] (records_in s) (omega arith) q in
          let b = beyond_none faulty 0 1025 lo (length s) 0 [] (records_in s) (omega (arith, deep)) in
          let c = first_below below faulty 0 1025 (length s) 0 [] (records_in s) in
          omega (arith, a, b, c)

  pub read_lawful : Bytes s → (read_all s).stop ≡ None → Lawful 0 (records_in s)
  unfolding read_all
  read_lawful bs e = subst (Lawful 0) (sym (in_read s bs e)) (encode_read 0 s bs e).lawful

  pub read_deepest : Bytes s → (read_all s).stop ≡ None → (d : ℕ) → d ≡ deepest_from 0 (read_all s).recs → d < 1024
  unfolding read_all
  read_deepest bs e d q = rw q (deepest_high 0 0 (read_all s).recs (encode_read 0 s bs e).lawful (omega arith))

-- ---- the least place is that of the first paragraph at fault

-- no paragraph is at fault, or the one at x is, and it is the first
pub record Faulted (s : List ℕ) (x : ℕ) (answer : Option Refusal) : Type 0 where
  pub inside : x < length s
  pub fault : Fault
  pub which : Which
  pub finding : first_fault (records_in (drop x s)) ≡ Err (breach fault which)
  pub answered : answer ≡ Some (refusal fault (place_of x (records_in (drop x s)) which))

abbrev pub Told : List ℕ → ℕ → Option Refusal → Type 0
Told s x answer = ((x ≡ length s) × (answer ≡ None)) ⊎ Faulted s x answer

module _ (s : List ℕ) (bs : Bytes s) where
  abbrev least : ℕ → List Rec → List Rec → ℕ
  least at earlier rs = first_in below faulty 0 1025 (length s) at earlier rs

  -- only a paragraph header is at fault
  finds_first : (r : Rec) (rs : List Rec) (f : Fault) (w : Which) → finding_of r.tag (r ∷ rs) ≡ Err (breach f w) → first_fault (r ∷ rs) ≡ Err (breach f w)
  finds_first r rs f w e = go (header r.tag) e
    where
      go : (b : Bool) → cond b (first_fault (r ∷ rs)) (Ok tt) ≡ Err (breach f w) → first_fault (r ∷ rs) ≡ Err (breach f w)
      go true e = e
      go false e = absurd (let z : ◌≡◌ {A = ℕ} 0 1 = cc in omega arith)

  told : (cap at : ℕ) (earlier rs : List Rec) → records_in (drop at s) ≡ rs → Lawful cap rs → Told s (least at earlier rs) (paragraphs_fault at rs)
  unfolding first_in paragraphs_fault
  told cap at earlier [] e l = inl (refl, refl)
  told cap at earlier (r ∷ rs) e l =
      let k = stood_of s at bs r rs e in
      by (finding_of r.tag (r ∷ rs)) refl k.0 (told (r.level + 1) (at + size r) (r ∷ earlier) rs k.1 l.1)
    where
      by : (x : Finding) → finding_of r.tag (r ∷ rs) ≡ x → Stood s at r → Told s (least (at + size r) (r ∷ earlier) rs) (paragraphs_fault (at + size r) rs)
          → Told s (least at earlier (r ∷ rs)) (paragraphs_fault at (r ∷ rs))
      by (Ok tt) q k t = rw (first_miss below faulty 0 1025 (length s) at earlier r rs (rw (q, between_in 0 1025 (r.level + 1) (omega arith) (omega (arith, l.0.level_high)))), q) t
      by (Err b) q k t =
          rw (first_hit below faulty 0 1025 (length s) at earlier r rs (omega (arith, k.some_left)) (rw (q, between_in 0 1025 (r.level + 1) (omega arith) (omega (arith, l.0.level_high)))), q)
          (inr (record {
            inside = k.some_left;
            fault = b.fault;
            which = b.which;
            finding = ap first_fault e ∙ finds_first r rs b.fault b.which q;
            answered = ap (λ (l : List Rec). Some (refusal b.fault (place_of at l b.which))) (sym e);
          }))

  -- of a whole stream
  module _ (x : ℕ) (is : x ≡ fault_in 0 1025 s) (e : (read_all s).stop ≡ None) where
    all_told : Told s x (paragraphs_fault 0 (records_in s))
    unfolding fault_in
    all_told = rw is (told 0 0 [] (records_in s) refl (read_lawful s bs e))

    pub paragraphs_lawful : (n : ℕ) → Ok tt ≡ first_fault (records_in (drop x s)) → Ok n ≡ settled n (paragraphs_fault 0 (records_in s))
    paragraphs_lawful n q = go all_told
      where
        go : Told s x (paragraphs_fault 0 (records_in s)) → Ok n ≡ settled n (paragraphs_fault 0 (records_in s))
        go (inl (a, b)) = rw b
        go (inr k) = absurd (let same : Ok tt ≡ Err (breach k.fault k.which) = q ∙ k.finding in let z : ◌≡◌ {A = ℕ} 0 1 = cc in omega arith)

    pub paragraphs_end : (n : ℕ) → x ≡ length s → Ok n ≡ settled n (paragraphs_fault 0 (records_in s))
    paragraphs_end n q = paragraphs_lawful n (end_lawful s ∙ ap (λ (i : ℕ). first_fault (records_in (drop i s))) (sym q))

    pub paragraphs_breach : (n : ℕ) (b : Breach) (p : Offset) → Err b ≡ first_fault (records_in (drop x s))
        → p ≡ offset (place_of x (records_in (drop x s)) b.which) → refused_at b.fault p.0 ≡ settled n (paragraphs_fault 0 (records_in s))
    paragraphs_breach n b p f z = go all_told
      where
        go : Told s x (paragraphs_fault 0 (records_in s)) → refused_at b.fault p.0 ≡ settled n (paragraphs_fault 0 (records_in s))
        go (inl (a, c)) =
            absurd (let same : Ok tt ≡ Err b = end_lawful s ∙ ap (λ (i : ℕ). first_fault (records_in (drop i s))) (sym a) ∙ sym f in let z : ◌≡◌ {A = ℕ} 0 1 = cc in omega arith)
        go (inr k) =
            let same : Err b ≡ Err (breach k.fault k.which) = f ∙ k.finding in
            let b-is : b ≡ breach k.fault k.which = cc in
            rw (z, k.answered, b-is)
