-- A paragraph with nothing but records 67 to 70 below it has no field. Assumes nothing.
use Rattle.std.specs.Prelude.{None, Some}
use Prim.Native.Nat.{ℕ, zero, suc, ◌+◌, ◌-◌, ◌≤◌}
use native.Mathlib.Omega.{arith}
use mathlib.Core.Path.{◌≡◌, refl, sym, ap, ◌∙◌}
use mathlib.Core.Logic.{inl, inr}
use mathlib.Core.Bool.{Bool, true, false, not}
use mathlib.Core.List.{List, [], ◌∷◌}
use lib.Dec.{eqb}
use lib.ListN.{drop}
use borrow.Author.Tests.{eq-eqb}
use Rattle.numbers.specs.Little.{Bytes}
use Rattle.records.specs.Records.{Rec, size}
use Rattle.records.specs.Reading.{offset}
use Rattle.records.specs.declared.fault.Offset.{Offset}
use Rattle.records.specs.declared.header.Record.{Record}
use Rattle.text.specs.Asked.{among, class_of, what, width}
use Rattle.text.specs.Walk.{walk, is_extended, extended_in}
use Rattle.text.proofs.Cases.{lt_or, eq_or}
use Rattle.text.proofs.TableLaws.{what-control, what_ordinary}
use Rattle.paragraph.specs.View.{side, owned_if, kids, controls}
use Rattle.paragraph.specs.Stream.{records_in}
use Rattle.paragraph.specs.declared.view.Side.{Side}
use Rattle.paragraph.specs.declared.view.Side.TheVariants as S
use Rattle.paragraph.proofs.StreamLaws.{Read, stood_of}
use Rattle.paragraph.proofs.BodyLaws.{kids_beyond, kids_owned, controls_other}
use Rattle.filling.specs.Fields.{fields_in}
use Rattle.filling.specs.Search.{hits}
use Rattle.filling.proofs.FieldLaws.{fields_ordinary, fields_other}
use Rattle.filling.proofs.SearchLaws.{hits_past}
use Rattle.filling.proofs.EditLaws.{which, is_beyond, is_owned, is_passed}
use Rattle.search.specs.Accepted.{Keep}
use Rattle.search.specs.Steps.{part_of, bare_in}

-- ---- no extended control, no field

three_extended : (u : ℕ) → u ≡ 3 → is_extended (what u) ≡ 1
unfolding what class_of among
three_extended u e = rw e

pub no_fields : (p k n : ℕ) (us : List ℕ) → extended_in (walk p k us) ≡ 0 → fields_in n (walk p k us) ≡ []
unfolding walk extended_in
no_fields p k n [] e = unfold fields_in in refl
no_fields p zero n (u ∷ us) e = go (λ n. no_fields (p + 1) (width (what u) - 1) n us) (omega (arith, e)) (omega (arith, e))
  where
    go : ((n : ℕ) → extended_in (walk (p + 1) (width (what u) - 1) us) ≡ 0 → fields_in n (walk (p + 1) (width (what u) - 1) us) ≡ [])
        → is_extended (what u) ≡ 0 → extended_in (walk (p + 1) (width (what u) - 1) us) ≡ 0
        → fields_in n (record { at = p; what = what u } ∷ walk (p + 1) (width (what u) - 1) us) ≡ []
    go on none left = elim (lt_or u 32) [
      | inr h ↦ fields_ordinary (record { at = p; what = what u }) (walk (p + 1) (width (what u) - 1) us) n (what_ordinary u h) ∙ on n left
      | inl h ↦ elim (eq_or u 3) [
        | inl t ↦ absurd (omega (arith, none, three_extended u t))
        | inr t ↦ fields_other (record { at = p; what = what u }) (walk (p + 1) (width (what u) - 1) us) n (what-control u h) t ∙ on _ left
      ]
    ]
no_fields p (suc k) n (u ∷ us) e = no_fields (p + 1) k n us e

-- ---- one record

module _ (n tag level : ℕ) where
  pub part_is : {x y : Side} → x ≡ side n tag level → y ≡ owned_if (not (eqb tag 71)) x → part_of n tag level ≡ y
  unfolding part_of
  part_is e q = sym (q ∙ ap (owned_if (not (eqb tag 71))) e)

  owned_by_lem : (x : Side) → side n tag level ≡ x → owned_if (not (eqb tag 71)) x ≡ S.Owned → (side n tag level ≡ S.Owned) × (tag ≡ 71 → ⊥)
  owned_by_lem S.Beyond e q = absurd (let z : ◌≡◌ {A = ℕ} 0 1 = cc in omega arith)
  owned_by_lem S.Passed e q = absurd (let z : ◌≡◌ {A = ℕ} 0 1 = cc in omega arith)
  owned_by_lem S.Owned e q = (e, λ t. absurd (let z : S.Passed ≡ S.Owned = rw (eq-eqb tag 71 t) at q in let y : ◌≡◌ {A = ℕ} 0 1 = cc in omega arith))

  part_says : part_of n tag level ≡ S.Owned → (side n tag level ≡ S.Owned) × (tag ≡ 71 → ⊥)
  unfolding part_of
  part_says q = owned_by_lem (side n tag level) refl q

  beyond_by : (x : Side) → side n tag level ≡ x → owned_if (not (eqb tag 71)) x ≡ S.Beyond → side n tag level ≡ S.Beyond
  beyond_by S.Beyond e q = e
  beyond_by S.Passed e q = absurd (let z : ◌≡◌ {A = ℕ} 0 1 = cc in omega arith)
  beyond_by S.Owned e q = go (eqb tag 71) refl
    where
      go : (b : Bool) → eqb tag 71 ≡ b → side n tag level ≡ S.Beyond
      go true h = absurd (let z : S.Passed ≡ S.Beyond = rw h at q in let y : ◌≡◌ {A = ℕ} 0 1 = cc in omega arith)
      go false h = absurd (let z : S.Owned ≡ S.Beyond = rw h at q in let y : ◌≡◌ {A = ℕ} 0 1 = cc in omega arith)

  beyond_says : part_of n tag level ≡ S.Beyond → side n tag level ≡ S.Beyond
  unfolding part_of
  beyond_says q = beyond_by (side n tag level) refl q

module _ (n at : ℕ) (r : Rec) (rs : List Rec) where
  bare_beyond : part_of n r.tag r.level ≡ S.Beyond → bare_in n at (r ∷ rs) ≡ Some (offset at)
  unfolding bare_in
  bare_beyond e = rw (e, bare_in)

  bare_owned : part_of n r.tag r.level ≡ S.Owned → bare_in n at (r ∷ rs) ≡ bare_in n (at + size r) rs
  unfolding bare_in
  bare_owned e = rw (e, bare_in)

  bare_passed : part_of n r.tag r.level ≡ S.Passed → bare_in n at (r ∷ rs) ≡ None
  unfolding bare_in
  bare_passed e = rw (e, bare_in)

-- an owned child is no paragraph header
owned_tag : (n tag level : ℕ) → side n tag level ≡ S.Owned → tag ≡ 66 → ⊥
owned_tag n tag level e t = elim (which n tag level) [
  | is_beyond l w ↦ absurd (let z : S.Beyond ≡ S.Owned = sym w ∙ e in let y : ◌≡◌ {A = ℕ} 0 1 = cc in omega arith)
  | is_passed l w ↦ absurd (let z : S.Passed ≡ S.Owned = sym w ∙ e in let y : ◌≡◌ {A = ℕ} 0 1 = cc in omega arith)
  | is_owned l u w ↦ omega (arith, t, u)
]

-- ---- what it says

ended_at : (at end : ℕ) → Some (offset at) ≡ Some (offset end) → at ≡ end
ended_at at end e = let z : offset at ≡ offset end = cc in ap (λ (p : Offset). p.0) z

pub record Bared (s : List ℕ) (n at end : ℕ) (rs : List Rec) : Type 0 where
  pub from : at ≤ end
  pub none : controls (kids n rs) ≡ []
  pub past : (id i : ℕ) → hits id i at rs ≡ hits id i end (records_in (drop end s))
  pub keep : Keep rs → Keep (records_in (drop end s))

module _ (s : List ℕ) (bs : Bytes s) (n : ℕ) where
  -- nothing is passed
  bare_here : (at end : ℕ) (rs : List Rec) → records_in (drop at s) ≡ rs → kids n rs ≡ [] → at ≡ end → Bared s n at end rs
  unfolding controls
  bare_here at end rs q k e =
      rw (← e) (record { from = omega arith; none = ap controls k; past = λ id i. ap (hits id i at) (sym q); keep = λ x. rw q x })

  pub bared : (rs : List Rec) (at end : ℕ) → records_in (drop at s) ≡ rs → bare_in n at rs ≡ Some (offset end) → Bared s n at end rs
  unfolding bare_in kids
  bared [] at end q e = bare_here at end [] q refl (ended_at at end e)
  bared (r ∷ rs) at end q e = go (part_of n r.tag r.level) refl (stood_of s at bs r rs q).1 (bared rs (at + size r) end)
    where
      go : (x : Side) → part_of n r.tag r.level ≡ x → records_in (drop (at + size r) s) ≡ rs
          → (records_in (drop (at + size r) s) ≡ rs → bare_in n (at + size r) rs ≡ Some (offset end) → Bared s n (at + size r) end rs) → Bared s n at end (r ∷ rs)
      go S.Beyond x l on =
          bare_here at end (r ∷ rs) q (kids_beyond n r rs (beyond_says n r.tag r.level x))
          (ended_at at end (sym (bare_beyond n at r rs x) ∙ e))
      go S.Passed x l on = absurd (let z : None ≡ Some (offset end) = sym (bare_passed n at r rs x) ∙ e in let y : ◌≡◌ {A = ℕ} 0 1 = cc in omega arith)
      go S.Owned x l on =
          let p = part_says n r.tag r.level x in
          let b = on l (sym (bare_owned n at r rs x) ∙ e) in
          record {
            from = omega (arith, b.from);
            none = ap controls (kids_owned n r rs p.0) ∙ controls_other r (kids n rs) p.1 ∙ b.none;
            past = λ id i. hits_past id i at r rs (not_header p) ∙ b.past id i;
            keep = λ x. b.keep x.1;
          }
        where
          not_header : (side n r.tag r.level ≡ S.Owned) × (r.tag ≡ 71 → ⊥) → r.tag ≡ 66 → ⊥
          not_header p t = owned_tag n r.tag r.level p.0 t

-- ---- the loop

pub record Baring (s : List ℕ) (n from at : ℕ) : Type 0 where
  pub rest : bare_in n from (records_in (drop from s)) ≡ bare_in n at (records_in (drop at s))

module _ {s : List ℕ} {n from at : ℕ} {r : Record} (k : Baring s n from at) (d : Read s at r) where
  abbrev side_of : Side
  side_of = part_of n r.tag r.level

  to : side_of ≡ part_of n d.rec.tag d.rec.level
  to = rw (d.tag_is, d.level_is)

  here : bare_in n from (records_in (drop from s)) ≡ bare_in n at (d.rec ∷ records_in (drop r.next.0 s))
  here = k.rest ∙ ap (bare_in n at) d.records

  pub baring_end : side_of ≡ S.Beyond → Some (offset at) ≡ bare_in n from (records_in (drop from s))
  baring_end e = sym (here ∙ bare_beyond n at d.rec _ (sym to ∙ e))

  pub baring_other : side_of ≡ S.Passed → None ≡ bare_in n from (records_in (drop from s))
  baring_other e = sym (here ∙ bare_passed n at d.rec _ (sym to ∙ e))

  pub baring_on : side_of ≡ S.Owned → Baring s n from r.next.0
  baring_on e =
      record { rest = here ∙ bare_owned n at d.rec _ (sym to ∙ e) ∙ ap (λ (i : ℕ). bare_in n i (records_in (drop r.next.0 s))) (sym d.next-is) }

pub baring_none : {s : List ℕ} {n from at : ℕ} → Baring s n from at → records_in (drop at s) ≡ [] → Some (offset at) ≡ bare_in n from (records_in (drop from s))
unfolding bare_in
baring_none k e = sym (k.rest ∙ rw e)
