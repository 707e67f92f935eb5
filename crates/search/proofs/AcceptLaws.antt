-- What check's acceptance gives the calls behind it, and what a search that met says. Assumes nothing.
use Rattle.std.specs.Prelude.{Err, Ok}
use Rattle.records.specs.Answers.{Answer}
use Prim.Native.Nat.{ℕ, ◌≤◌}
use native.Mathlib.Omega.{arith}
use mathlib.Core.Path.{◌≡◌, refl, sym, ap, ◌∙◌, subst}
use mathlib.Core.List.{List}
use lib.ListN.{length}
use Rattle.numbers.specs.Little.{Bytes}
use Rattle.records.specs.Records.{Rec, limit, encode}
use Rattle.records.specs.Reading.{read_all}
use Rattle.records.specs.declared.fault.Refusal.{Refusal}
use Rattle.paragraph.specs.Stream.{records_in}
use Rattle.paragraph.proofs.StreamLaws.{in_encode}
use Rattle.section.specs.Section.{check_answer}
use Rattle.acceptance.proofs.SectionReader.{accepted_section}
use Rattle.filling.specs.Search.{hits}
use Rattle.search.specs.Accepted.{Keep, Searchable}
use Rattle.search.specs.Searching.{met_with, section_search_of, section_search}
use Rattle.search.specs.declared.seek.Met.{Met}
use Rattle.search.specs.declared.seek.Met.TheVariants as M

pub record Sectioned (s : List ℕ) : Type 0 where
  pub small : length s ≤ limit
  pub records : records_in s ≡ (read_all s).recs
  pub sound : Searchable s

module _ (s : List ℕ) (bs : Bytes s) (n : ℕ) (e : check_answer s ≡ Ok n) where
  pub sectioned : Sectioned s
  sectioned =
      let k = accepted_section s n bs e in
      let same = ap records_in (sym k.encodes.stream) ∙ in_encode 0 (read_all s).recs k.encodes.lawful in
      record {
        small = k.within;
        records = same;
        sound = record { whole = ap encode same ∙ k.encodes.stream; keep = subst Keep (sym same) k.obeys.paragraphs };
      }

-- ---- the search of a section

module _ (s : List ℕ) (id : ℕ) (x : Answer) (is : x ≡ check_answer s) where
  pub search_met : (n : ℕ) {m : Met} → Bytes s → x ≡ Ok n → m ≡ met_with M.Nothing (hits id 0 0 (records_in s)) → Ok m ≡ section_search s id
  unfolding section_search
  search_met n bs e q =
      ap Ok (q ∙ ap (λ (l : List Rec). met_with M.Nothing (hits id 0 0 l)) (sectioned s bs n (sym is ∙ e)).records)
      ∙ ap (λ (a : Answer). section_search_of a (met_with M.Nothing (hits id 0 0 (read_all s).recs))) (sym e ∙ is)

  pub search_not : (r : Refusal) → x ≡ Err r → Err r ≡ section_search s id
  unfolding section_search
  search_not r e = ap (λ (a : Answer). section_search_of a (met_with M.Nothing (hits id 0 0 (read_all s).recs))) (sym e ∙ is)

-- and back: a search that met stands over a section that check accepted
pub record Behind (s : List ℕ) (id : ℕ) (m : Met) : Type 0 where
  pub count : ℕ
  pub accepted : Ok count ≡ check_answer s
  pub section : Sectioned s
  pub met_is : m ≡ met_with M.Nothing (hits id 0 0 (records_in s))

behind_by : (a : Answer) (m k : Met) → section_search_of a k ≡ Ok m → (n : ℕ) × (Ok n ≡ a) × (m ≡ k)
behind_by (Ok n) m k e = (n, refl, cc)
behind_by (Err r) m k e = absurd (let z : ◌≡◌ {A = ℕ} 0 1 = cc in omega arith)

pub behind : (s : List ℕ) (id : ℕ) (m : Met) → Bytes s → section_search s id ≡ Ok m → Behind s id m
unfolding section_search
behind s id m bs e =
    let k = behind_by (check_answer s) m (met_with M.Nothing (hits id 0 0 (read_all s).recs)) e in
    let g = sectioned s bs k.0 (sym k.1) in
    record {
      count = k.0;
      accepted = k.1;
      section = g;
      met_is = k.2 ∙ ap (λ (l : List Rec). met_with M.Nothing (hits id 0 0 l)) (sym g.records);
    }

refused_by : (a : Answer) (r : Refusal) (k : Met) → section_search_of a k ≡ Err r → Err r ≡ a
refused_by (Ok n) r k e = absurd (let z : ◌≡◌ {A = ℕ} 0 1 = cc in omega arith)
refused_by (Err q) r k e = let z : q ≡ r = cc in ap Err (sym z)

pub refused_before : (s : List ℕ) (id : ℕ) (r : Refusal) → section_search s id ≡ Err r → Err r ≡ check_answer s
unfolding section_search
refused_before s id r e = refused_by (check_answer s) r (met_with M.Nothing (hits id 0 0 (read_all s).recs)) e
