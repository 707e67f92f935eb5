-- Field text behind check. Assumes nothing.
use Rattle.std.specs.Prelude.{Err, Ok}
use Rattle.records.specs.Answers.{Answer}
use Prim.Native.Nat.{ℕ, ◌-◌, ◌*◌, ◌≤◌}
use native.Mathlib.Omega.{arith}
use mathlib.Core.Path.{◌≡◌, refl, sym, ap, ◌∙◌}
use mathlib.Core.List.{List}
use Rattle.numbers.specs.Little.{Bytes}
use Rattle.records.specs.Reading.{read_all}
use Rattle.records.specs.declared.fault.Refusal.{Refusal}
use Rattle.paragraph.specs.Stream.{records_in}
use Rattle.section.specs.Section.{check_answer}
use Rattle.filling.specs.Filling.{text_answer, TextAnswer}
use Rattle.filling.specs.Search.{search}
use Rattle.paragraph.specs.Places.{unit_place}
use Rattle.records.specs.Records.{limit}
use Rattle.records.specs.declared.fault.Offset.{Offset}
use Rattle.search.specs.Searching.{section_search}
use Rattle.search.specs.declared.seek.Hit.{Hit}
use Rattle.search.specs.declared.seek.Met.{Met}
use Rattle.search.proofs.AcceptLaws.{sectioned, Behind, behind}
use Rattle.fields.specs.Outcomes.{plain_field}
use Rattle.fields.proofs.LocateLaws.{searched_of, field_met, Bounds, bounds, text_refused, text_one}
use Rattle.orders.specs.Calls.{text_after_section, field_text_of}

-- field text
module _ (s : List ℕ) (id : ℕ) (x : Answer) (is : x ≡ check_answer s) where
  pub text_accepted : (n : ℕ) {r : TextAnswer} → Bytes s → x ≡ Ok n → r ≡ text_answer id (records_in s) → r ≡ field_text_of s id
  unfolding field_text_of
  text_accepted n bs e q =
      let g = sectioned s bs n (sym is ∙ e) in
      q ∙ ap (text_answer id) g.records ∙ ap (λ (a : Answer). text_after_section a (text_answer id (read_all s).recs)) (sym (sym is ∙ e))

  pub text_not : (r : Refusal) → x ≡ Err r → Err r ≡ field_text_of s id
  unfolding field_text_of
  text_not r e = ap (λ (a : Answer). text_after_section a (text_answer id (read_all s).recs)) (sym (sym is ∙ e))

-- behind a search that met m
module _ (s : List ℕ) (id : ℕ) (m : Met) (bs : Bytes s) (e : Ok m ≡ section_search s id) where
  abbrev its : Behind s id m
  its = behind s id m bs (sym e)

  -- no plain field
  pub field_refused : (r : Refusal) → Err r ≡ plain_field m → Err r ≡ field_text_of s id
  field_refused r q = text_accepted s id _ its.accepted _ bs refl (text_refused _ _ _ (sym (field_met _ _ its.met_is) ∙ sym q))

  -- the one
  module _ (h : Hit) (q : Ok h ≡ plain_field m) where
    found : searched_of (search id (records_in s)) ≡ Ok h
    found = sym (field_met _ _ its.met_is) ∙ sym q

    within : Bounds s h
    within = bounds s bs its.section.sound id h found

    pub field_bounds : (h.field.a.0 ≤ h.field.b.0) × (2 * (h.field.b.0 - h.field.a.0) ≤ limit)
    field_bounds = (within.a_b, omega (arith, within.a_b, within.inside, its.section.small))

    pub field_found : {p : Offset} → p ≡ unit_place h.text h.field.a
        → Ok (record { place = p; len = 2 * (h.field.b.0 - h.field.a.0) }) ≡ field_text_of s id
    field_found w =
        text_accepted s id _ its.accepted _ bs refl
        (ap (λ (p : Offset). Ok (record { place = p; len = 2 * (h.field.b.0 - h.field.a.0) })) w
        ∙ text_one s id _ h within (omega (arith, its.section.small)) found)
