-- A chain of rules finds nothing exactly when none of its tests holds. Assumes nothing.
use Rattle.std.specs.Prelude.{Err, None, Ok, Option, Some}
use Prim.Native.Nat.{ℕ, ◌+◌, ◌*◌, ◌/◌, ◌<◌, max}
use native.Mathlib.Omega.{arith}
use mathlib.Core.Path.{◌≡◌, refl, sym, ap, ◌∙◌}
use mathlib.Core.Logic.{inl, inr}
use mathlib.Core.Bool.{Bool, true, false, cond, ◌&&◌, ◌||◌, not}
use mathlib.Core.List.{List, [], ◌∷◌, map}
use lib.Dec.{ltb, leb, eqb}
use lib.ListN.{length, drop}
use borrow.Author.Tests.{ltb-true, ltb-false, leb-true, leb-false, eqb-true, eqb-false, lt-ltb, le-ltb, le-leb, lt-leb, eq-eqb, ne_eqb, not-false}
use Rattle.numbers.specs.Little.{little}
use Rattle.records.specs.declared.fault.Fault.{Fault}
use Rattle.text.proofs.Cases.{eq_or}
use Rattle.entries.specs.Entries.{entries, later_fault, start_fault, shapes_fault, mark_fault, marks_fault}
use Rattle.paragraph.specs.Rules.{guard, guard_at, or_else, length_of, lacks, unwanted, misfits, field_short, field_fault, Finding, breach}
use Rattle.paragraph.specs.declared.finding.Which.{Which}
use Rattle.acceptance.specs.Keeps.{starts_of, mark_of, marks_of, First, Above, Rise, Below, MarksWithin, LongEnough, Fields, Sized}

-- ---- tests

differ : true ≡ false → ⊥
differ e = let z : ◌≡◌ {A = ℕ} 0 1 = cc in omega arith

pub both_false : (a b : Bool) → (a || b) ≡ false → (a ≡ false) × (b ≡ false)
both_false true b e = absurd (differ e)
both_false false b e = (refl, e)

pub neither : {a b : Bool} → a ≡ false → b ≡ false → (a || b) ≡ false
neither e f = rw (e, f)

pub both_true : (a b : Bool) → (a && b) ≡ true → (a ≡ true) × (b ≡ true)
both_true true b e = (refl, e)
both_true false b e = absurd (differ (sym e))

pub some_none : {b : List ℕ} → Some b ≡ None → ⊥
some_none {b} e = let z : ◌≡◌ {A = ℕ} 0 1 = cc in omega arith

-- ---- the chain

pub guard_says : (b : Bool) (f : Fault) (w : Which) (rest : Finding) → guard b (Err (breach f w)) rest ≡ Ok tt → (b ≡ false) × (rest ≡ Ok tt)
unfolding guard
guard_says true f w rest e = absurd (let z : ◌≡◌ {A = ℕ} 0 1 = cc in omega arith)
guard_says false f w rest e = (refl, e)

pub guard_passes : {b : Bool} {rest : Finding} (x : Finding) → b ≡ false → rest ≡ Ok tt → guard b x rest ≡ Ok tt
unfolding guard
guard_passes x e q = rw e q

pub at_says : (o : Option ℕ) (f : Fault) (names : ℕ → Which) (rest : Finding) → guard_at o f names rest ≡ Ok tt → (o ≡ None) × (rest ≡ Ok tt)
unfolding guard_at
at_says None f names rest e = (refl, e)
at_says (Some i) f names rest e = absurd (let z : ◌≡◌ {A = ℕ} 0 1 = cc in omega arith)

pub at_passes : {o : Option ℕ} {rest : Finding} (f : Fault) (names : ℕ → Which) → o ≡ None → rest ≡ Ok tt → guard_at o f names rest ≡ Ok tt
unfolding guard_at
at_passes f names e q = rw e q

pub else_says : (a rest : Finding) → or_else a rest ≡ Ok tt → (a ≡ Ok tt) × (rest ≡ Ok tt)
unfolding or_else
else_says (Ok tt) rest e = (refl, e)
else_says (Err b) rest e = absurd (let z : ◌≡◌ {A = ℕ} 0 1 = cc in omega arith)

pub else_passes : {a rest : Finding} → a ≡ Ok tt → rest ≡ Ok tt → or_else a rest ≡ Ok tt
unfolding or_else
else_passes e q = rw e q

-- ---- records that must be there, or must not

pub lacks_says : (least number : ℕ) (o : Option (List ℕ)) → lacks least number (length_of o) ≡ false → o ≡ None → number < least
lacks_says least number None e q = leb-false least number e
lacks_says least number (Some b) e q = absurd (some_none q)

pub lacks_not : (least number : ℕ) (o : Option (List ℕ)) → (o ≡ None → number < least) → lacks least number (length_of o) ≡ false
lacks_not least number None h = lt-leb least number (h refl)
lacks_not least number (Some b) h = refl

pub unwanted_says : (number : ℕ) (o : Option (List ℕ)) → unwanted number (length_of o) ≡ false → (b : List ℕ) → o ≡ Some b → 0 < number
unwanted_says number None e b q = absurd (some_none (sym q))
unwanted_says number (Some c) e b q = let h = eqb-false number 0 e in omega arith

pub unwanted_not : (number : ℕ) (o : Option (List ℕ)) → ((b : List ℕ) → o ≡ Some b → 0 < number) → unwanted number (length_of o) ≡ false
unwanted_not number None h = refl
unwanted_not number (Some b) h = let k = h b refl in ne_eqb number 0 (λ q. omega arith)

pub misfits_says : (each number : ℕ) (o : Option (List ℕ)) → misfits number (each * number) (length_of o) ≡ false
    → (b : List ℕ) → o ≡ Some b → Sized each number b
misfits_says each number None e b q = absurd (some_none (sym q))
misfits_says each number (Some c) e b q =
    let k = both_false (eqb number 0) (not (eqb (length c) (each * number))) e in
    let h = eqb-false number 0 k.0 in
    let same : c ≡ b = cc in
    record { above = omega arith; bytes = ap length (sym same) ∙ eqb-true (length c) (each * number) (not-false (eqb (length c) (each * number)) k.1) }

pub misfits_not : (each number : ℕ) (o : Option (List ℕ)) → ((b : List ℕ) → o ≡ Some b → Sized each number b)
    → misfits number (each * number) (length_of o) ≡ false
misfits_not each number None h = refl
misfits_not each number (Some b) h =
    let k = h b refl in
    neither (ne_eqb number 0 (λ q. omega (arith, k.above))) (ap not (eq-eqb (length b) (each * number) k.bytes))

-- ---- entries

cond_says : (t : Bool) (rest : Option ℕ) (i : ℕ) → cond t rest (Some i) ≡ None → (t ≡ true) × (rest ≡ None)
cond_says true rest i e = (refl, e)
cond_says false rest i e = absurd (let z : ◌≡◌ {A = ℕ} 0 1 = cc in omega arith)

above_says : (i x bound : ℕ) (ss : List ℕ) → later_fault i x bound ss ≡ None → Above x ss × Below bound ss
unfolding later_fault
above_says i x bound [] e = (tt, tt)
above_says i x bound (s ∷ ss) e =
    let k = cond_says (ltb x s && ltb s bound) (later_fault (i + 1) s bound ss) i e in
    let t = both_true (ltb x s) (ltb s bound) k.0 in
    let r = above_says (i + 1) s bound ss k.1 in
    ((ltb-true x s t.0, r.0), (ltb-true s bound t.1, r.1))

above_not : (i x bound : ℕ) (ss : List ℕ) → Above x ss → Below bound ss → later_fault i x bound ss ≡ None
unfolding later_fault
above_not i x bound [] a b = refl
above_not i x bound (s ∷ ss) a b = rw (lt-ltb x s a.0, lt-ltb s bound b.0) (above_not (i + 1) s bound ss a.1 b.1)

pub record SoundStarts (count : ℕ) (xs : List ℕ) : Type 0 where
  pub first : First 0 xs
  pub rise : Rise xs
  pub below : Below (max 1 count) xs

starts_says : (bound : ℕ) (ss : List ℕ) → 0 < bound → start_fault bound ss ≡ None → First 0 ss × (Rise ss × Below bound ss)
unfolding start_fault
starts_says bound [] h e = (tt, (tt, tt))
starts_says bound (s ∷ ss) h e =
    let k = cond_says (eqb s 0) (later_fault 1 s bound ss) 0 e in
    let z : s ≡ 0 = eqb-true s 0 k.0 in
    let r = above_says 1 s bound ss k.1 in
    (z, (r.0, (omega arith, r.1)))

starts_not : (bound : ℕ) (ss : List ℕ) → First 0 ss → Rise ss → Below bound ss → start_fault bound ss ≡ None
unfolding start_fault
starts_not bound [] f r b = refl
starts_not bound (s ∷ ss) f r b = rw (eq-eqb s 0 f) (above_not 1 s bound ss r b.1)

pub shapes_say : (count : ℕ) (b : List ℕ) → shapes_fault count b ≡ None → SoundStarts count (starts_of b)
unfolding shapes_fault
shapes_say count b e =
    let k = starts_says (max 1 count) (starts_of b) (omega arith) e in
    record { first = k.0; rise = k.1.0; below = k.1.1 }

pub shapes_not : (count : ℕ) (b : List ℕ) → SoundStarts count (starts_of b) → shapes_fault count b ≡ None
unfolding shapes_fault
shapes_not count b k = starts_not (max 1 count) (starts_of b) k.first k.rise k.below

marks_by : (i count : ℕ) (es : List (List ℕ)) → mark_fault i count es ≡ None → MarksWithin count (map mark_of es)
unfolding mark_fault
marks_by i count [] e = tt
marks_by i count (b ∷ es) e =
    let x = little 4 b in
    let y = little 4 (drop 4 b) in
    let k = cond_says (leb x y && leb y count) (mark_fault (i + 1) count es) i e in
    let t = both_true (leb x y) (leb y count) k.0 in
    (leb-true x y t.0, (leb-true y count t.1, marks_by (i + 1) count es k.1))

marks_of_lem : (i count : ℕ) (es : List (List ℕ)) → MarksWithin count (map mark_of es) → mark_fault i count es ≡ None
unfolding mark_fault
marks_of_lem i count [] k = refl
marks_of_lem i count (b ∷ es) k =
    rw (le-leb (little 4 b) (little 4 (drop 4 b)) k.0, le-leb (little 4 (drop 4 b)) count k.1.0) (marks_of_lem (i + 1) count es k.1.1)

pub marks_say : (count : ℕ) (b : List ℕ) → marks_fault count b ≡ None → MarksWithin count (marks_of b)
unfolding marks_fault
marks_say count b e = marks_by 0 count (entries 12 (length b / 12) b) e

pub marks_not : (count : ℕ) (b : List ℕ) → MarksWithin count (marks_of b) → marks_fault count b ≡ None
unfolding marks_fault
marks_not count b k = marks_of_lem 0 count (entries 12 (length b / 12) b) k

-- ---- fields

long_says : (b : List ℕ) → field_short b ≡ false → LongEnough b
unfolding field_short
long_says b e =
    let k = both_false (ltb (length b) 15) (ltb (length b) (15 + 2 * little 2 (drop 9 b))) e in
    record { fixed = ltb-false (length b) 15 k.0; command = ltb-false (length b) (15 + 2 * little 2 (drop 9 b)) k.1 }

long_not : (b : List ℕ) → LongEnough b → field_short b ≡ false
unfolding field_short
long_not b k = neither (le-ltb (length b) 15 k.fixed) (le-ltb (length b) (15 + 2 * little 2 (drop 9 b)) k.command)

field_says : (c : ℕ) (b : List ℕ) → (eqb c 3 && field_short b) ≡ false → c ≡ 3 → LongEnough b
field_says c b e q = long_says b (rw (eq-eqb c 3 q) at e)

field_not : (c : ℕ) (b : List ℕ) → (c ≡ 3 → LongEnough b) → (eqb c 3 && field_short b) ≡ false
field_not c b h =
    elim (eq_or c 3) [
      | inl q ↦ rw (eq-eqb c 3 q) (long_not b (h q))
      | inr q ↦ rw (ne_eqb c 3 q)
    ]

pub fields_say : (nth : ℕ) (cs : List ℕ) (bs : List (List ℕ)) → field_fault nth cs bs ≡ Ok tt → Fields cs bs
unfolding field_fault
fields_say nth [] bs e = tt
fields_say nth (c ∷ cs) [] e = tt
fields_say nth (c ∷ cs) (b ∷ bs) e =
    let k = guard_says (eqb c 3 && field_short b) _ _ (field_fault (nth + 1) cs bs) e in
    (field_says c b k.0, fields_say (nth + 1) cs bs k.1)

pub fields_not : (nth : ℕ) (cs : List ℕ) (bs : List (List ℕ)) → Fields cs bs → field_fault nth cs bs ≡ Ok tt
unfolding field_fault
fields_not nth [] bs k = refl
fields_not nth (c ∷ cs) [] k = refl
fields_not nth (c ∷ cs) (b ∷ bs) k = guard_passes _ (field_not c b k.0) (fields_not (nth + 1) cs bs k.1)
