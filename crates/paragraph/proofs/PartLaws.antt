-- One pass over a paragraph's children: what was found so far, and what the rest adds. Assumes nothing.
use Rattle.std.specs.Prelude.{None, Some}
use Prim.Native.Nat.{ℕ, ◌+◌, ◌≤◌}
use native.Mathlib.Omega.{arith}
use mathlib.Core.Path.{◌≡◌, refl, sym, ap, ◌∙◌}
use mathlib.Core.Bool.{Bool, true, false, cond}
use mathlib.Core.List.{List, [], ◌∷◌}
use lib.Dec.{eqb}
use lib.ListN.{length, drop}
use borrow.Author.Tests.{eqb-true, eqb-false}
use Rattle.records.specs.Records.{Rec, size}
use Rattle.records.specs.Reading.{record_at}
use Rattle.records.specs.declared.header.Record.{Record}
use Rattle.paragraph.specs.View.{side, kids, controls}
use Rattle.paragraph.specs.Stream.{records_in}
use Rattle.paragraph.specs.Places.{found_in, taken_as, parts_in, Found}
use Rattle.paragraph.specs.declared.view.Side.{Side}
use Rattle.paragraph.specs.declared.view.Side.TheVariants as S
use Rattle.paragraph.specs.declared.children.Parts.{Parts}
use Rattle.paragraph.proofs.StreamLaws.{Read}
use Rattle.paragraph.proofs.FindLaws.{sought_beyond, sought_passed, sought_owned, sought_other, found_beyond, found_passed, found_here}
use Rattle.paragraph.proofs.BodyLaws.{kids_beyond, kids_owned, kids_passed, controls_here, controls_other}

-- what was found before, else what the rest has
abbrev pub earlier : Found → Found → Found
earlier (Some p) g = Some p
earlier None g = g

unfoldable pub joined : Parts → Parts → Parts
joined a b =
    record {
      text = earlier a.text b.text;
      shapes = earlier a.shapes b.shapes;
      layout = earlier a.layout b.layout;
      marks = earlier a.marks b.marks;
      controls = a.controls + b.controls;
    }

-- the parts with one more child, by its tag
unfoldable pub taken : Parts → Record → Parts
taken a p =
    record {
      text = taken_as a.text (eqb p.tag 67) p;
      shapes = taken_as a.shapes (eqb p.tag 68) p;
      layout = taken_as a.layout (eqb p.tag 69) p;
      marks = taken_as a.marks (eqb p.tag 70) p;
      controls = a.controls + cond (eqb p.tag 71) 1 0;
    }

abbrev pub nothing : Parts
nothing = record { text = None; shapes = None; layout = None; marks = None; controls = 0 }

earlier_none : (f : Found) → earlier f None ≡ f
earlier_none (Some p) = refl
earlier_none None = refl

joined_nothing : (a : Parts) → joined a nothing ≡ a
unfolding joined
joined_nothing a =
    let z : a.controls + 0 ≡ a.controls = omega arith in
    rw (earlier_none a.text, earlier_none a.shapes, earlier_none a.layout, earlier_none a.marks, z)

nothing_joined : (b : Parts) → joined nothing b ≡ b
unfolding joined
nothing_joined b = let z : 0 + b.controls ≡ b.controls = omega arith in rw z

-- ---- one record

at_most : (a : Parts) (p : Record) → (taken a p).controls ≤ a.controls + 1
unfolding taken
at_most a p = go (eqb p.tag 71)
  where
    go : (b : Bool) → a.controls + cond b 1 0 ≤ a.controls + 1
    go true = omega arith
    go false = omega arith

parts_none : (n at : ℕ) (rs : List Rec) → kids n rs ≡ [] → ((t : ℕ) → found_in n t 0 at rs ≡ None) → parts_in n at rs ≡ nothing
unfolding parts_in controls
parts_none n at rs e f = rw (e, f 67, f 68, f 69, f 70)

module _ (n at : ℕ) (r : Rec) (rs : List Rec) where
  parts_beyond : side n r.tag r.level ≡ S.Beyond → parts_in n at (r ∷ rs) ≡ nothing
  parts_beyond e = parts_none n at (r ∷ rs) (kids_beyond n r rs e) (λ t. found_beyond n t at r rs 0 (sought_beyond n t r.tag r.level e))

  parts_passed : side n r.tag r.level ≡ S.Passed → parts_in n at (r ∷ rs) ≡ parts_in n (at + size r) rs
  unfolding parts_in
  parts_passed e =
      let f : (t : ℕ) → found_in n t 0 at (r ∷ rs) ≡ found_in n t 0 (at + size r) rs = λ t. found_passed n t at r rs 0 (sought_passed n t r.tag r.level e) in
      rw (kids_passed n r rs e, f 67, f 68, f 69, f 70)

  -- one of the four: what was found before, this record, or what the rest has
  found_taken : side n r.tag r.level ≡ S.Owned → (t : ℕ) (f : Found)
      → earlier f (found_in n t 0 at (r ∷ rs)) ≡ earlier (taken_as f (eqb r.tag t) (record_at at r)) (found_in n t 0 (at + size r) rs)
  found_taken e t (Some p) = refl
  found_taken e t None = go (eqb r.tag t) refl
    where
      go : (b : Bool) → eqb r.tag t ≡ b → found_in n t 0 at (r ∷ rs) ≡ earlier (cond b (Some (record_at at r)) None) (found_in n t 0 (at + size r) rs)
      go true q = found_here n t at r rs (sought_owned n t r.tag r.level e (eqb-true r.tag t q))
      go false q = found_passed n t at r rs 0 (sought_other n t r.tag r.level e (eqb-false r.tag t q))

  controls_taken : side n r.tag r.level ≡ S.Owned → (c : ℕ)
      → c + length (controls (kids n (r ∷ rs))) ≡ c + cond (eqb r.tag 71) 1 0 + length (controls (kids n rs))
  controls_taken e c = rw (kids_owned n r rs e) (go (eqb r.tag 71) refl)
    where
      go : (b : Bool) → eqb r.tag 71 ≡ b → c + length (controls (r ∷ kids n rs)) ≡ c + cond b 1 0 + length (controls (kids n rs))
      go true q = rw (controls_here r (kids n rs) (eqb-true r.tag 71 q)) (omega arith)
      go false q = rw (controls_other r (kids n rs) (eqb-false r.tag 71 q)) (omega arith)

  parts_owned : side n r.tag r.level ≡ S.Owned → (a : Parts)
      → joined a (parts_in n at (r ∷ rs)) ≡ joined (taken a (record_at at r)) (parts_in n (at + size r) rs)
  unfolding joined parts_in taken
  parts_owned e a =
      rw (found_taken e 67 a.text, found_taken e 68 a.shapes, found_taken e 69 a.layout, found_taken e 70 a.marks, controls_taken e a.controls)

-- ---- the loop

pub record Gathering (s : List ℕ) (n from : ℕ) (a : Parts) (at : ℕ) : Type 0 where
  pub few : a.controls ≤ at
  pub rest : parts_in n from (records_in (drop from s)) ≡ joined a (parts_in n at (records_in (drop at s)))

pub gather_start : (s : List ℕ) (n from : ℕ) → Gathering s n from nothing from
gather_start s n from = record { few = omega arith; rest = sym (nothing_joined (parts_in n from (records_in (drop from s)))) }

module _ {s : List ℕ} {n from at : ℕ} {a : Parts} {r : Record} (k : Gathering s n from a at) (d : Read s at r) where
  abbrev side_of : Side
  side_of = side n r.tag r.level

  to : side_of ≡ side n d.rec.tag d.rec.level
  to = rw (d.tag_is, d.level_is)

  here : parts_in n from (records_in (drop from s)) ≡ joined a (parts_in n at (d.rec ∷ records_in (drop r.next.0 s)))
  here = k.rest ∙ ap (λ (l : List Rec). joined a (parts_in n at l)) d.records

  -- with what the records behind it add
  behind : (b : Parts) → joined b (parts_in n (at + size d.rec) (records_in (drop r.next.0 s))) ≡ joined b (parts_in n r.next.0 (records_in (drop r.next.0 s)))
  behind b = ap (λ (i : ℕ). joined b (parts_in n i (records_in (drop r.next.0 s)))) (sym d.next-is)

  pub gather_beyond : side_of ≡ S.Beyond → a ≡ parts_in n from (records_in (drop from s))
  gather_beyond e =
      sym (here ∙ ap (joined a) (parts_beyond n at d.rec (records_in (drop r.next.0 s)) (sym to ∙ e)) ∙ joined_nothing a)

  pub gather_passed : side_of ≡ S.Passed → Gathering s n from a r.next.0
  gather_passed e =
      record {
        few = omega (arith, k.few, d.next-is);
        rest = here ∙ ap (joined a) (parts_passed n at d.rec (records_in (drop r.next.0 s)) (sym to ∙ e)) ∙ behind a;
      }

  pub gather_child : side_of ≡ S.Owned → Gathering s n from (taken a r) r.next.0
  gather_child e =
      record {
        few = omega (arith, k.few, at_most a r, d.next-is, d.least);
        rest =
            here ∙ parts_owned n at d.rec (records_in (drop r.next.0 s)) (sym to ∙ e) a
            ∙ behind (taken a (record_at at d.rec))
            ∙ ap (λ (p : Record). joined (taken a p) (parts_in n r.next.0 (records_in (drop r.next.0 s)))) (sym d.is);
      }

pub gather_none : {s : List ℕ} {n from at : ℕ} {a : Parts} → Gathering s n from a at → records_in (drop at s) ≡ []
    → a ≡ parts_in n from (records_in (drop from s))
unfolding found_in kids
gather_none {s} {n} {from} {at} {a} k e =
    sym (k.rest ∙ ap (λ (l : List Rec). joined a (parts_in n at l)) e ∙ ap (joined a) (parts_none n at [] refl (λ t. refl)) ∙ joined_nothing a)
