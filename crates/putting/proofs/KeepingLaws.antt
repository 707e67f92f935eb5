-- The entries of a shapes record, one by one. Assumes nothing.
use Prim.Native.Nat.{ℕ, ◌+◌, ◌-◌, ◌*◌, ◌/◌, ◌≤◌, ◌<◌}
use native.Mathlib.Omega.{arith}
use mathlib.Core.Path.{◌≡◌, refl, sym, ap, ap₂, ◌∙◌}
use mathlib.Core.Bool.{Bool, true, false, cond, ◌&&◌, ◌||◌}
use mathlib.Core.List.{List, [], ◌∷◌, ◌++◌, map, append_assoc, append-nil}
use lib.ListN.{length, take, drop, length-drop}
use lib.Seq.{drop-drop, take_all}
use Rattle.numbers.specs.Little.{Bytes, little, bytes_of}
use Rattle.numbers.proofs.LittleLaws.{bytes_drop, bytes_of-little, length-bytes_of, part_rest}
use Rattle.entries.specs.Entries.{entries}
use Rattle.entries.proofs.EntryLaws.{entries_next, entries_end}
use Rattle.filling.specs.Shapes.{Entry, entry_at, inside, any_inside, start_at, moved, packed, shapes_in, shapes_after}
use Rattle.putting.specs.Sheet.{Put}
use Rattle.putting.specs.declared.put.Sheet.{Sheet}
use Rattle.putting.specs.declared.shapes.Change.{Change}
use Rattle.putting.specs.Keeping.{shapes_from, kept}
use Rattle.putting.proofs.PuttingLaws.{Left, left_start, left_next, left_done}

pub shapes_all : (body : List ℕ) → shapes_in body ≡ shapes_from body 0
unfolding shapes_in
shapes_all body = let e : length body / 8 - 0 ≡ length body / 8 = omega arith in rw e

pub shapes-next : (body : List ℕ) (i : ℕ) → i < length body / 8 → shapes_from body i ≡ entry_at (drop (8 * i) body) ∷ shapes_from body (i + 1)
shapes-next body i h =
    let e : 8 * i + 8 ≡ 8 * (i + 1) = omega arith in
    ap (map entry_at) (entries_next 8 (length body / 8) i body h)
    ∙ ap (λ (k : ℕ). entry_at (drop (8 * i) body) ∷ map entry_at (entries 8 (length body / 8 - (i + 1)) (drop k body))) e

pub shapes_end : (body : List ℕ) (i : ℕ) → length body / 8 ≤ i → shapes_from body i ≡ []
shapes_end body i h = ap (map entry_at) (entries_end 8 (length body / 8) i body h)

-- ---- the scan ahead

-- a start as it is read
pub start_is : (body : List ℕ) (i : ℕ) {x y : ℕ} → x ≡ little 4 (take (length body - 8 * i) (drop (8 * i) body)) → y ≡ x → y ≡ (entry_at (drop (8 * i) body)).start
unfolding entry_at
start_is body i e q = q ∙ e ∙ ap (little 4) (part_rest body (8 * i))

any_next : (body : List ℕ) (a b i : ℕ) → i < length body / 8
    → any_inside a b (shapes_from body i) ≡ inside a b (entry_at (drop (8 * i) body)).start || any_inside a b (shapes_from body (i + 1))
unfolding any_inside
any_next body a b i h = ap (any_inside a b) (shapes-next body i h)

pub any_end : (body : List ℕ) (a b i : ℕ) → length body / 8 ≤ i → false ≡ any_inside a b (shapes_from body i)
unfolding any_inside
any_end body a b i h = sym (ap (any_inside a b) (shapes_end body i h))

-- ---- an entry, kept or not

packed-append : (es fs : List Entry) → packed (es ++ fs) ≡ packed es ++ packed fs
unfolding packed
packed-append [] fs = refl
packed-append (e ∷ es) fs = rw (packed-append es fs) (simp append_assoc)

module _ (a b v : ℕ) (e : Entry) (es : List Entry) where
  after_by : (t : Bool) → cond t (shapes_after a b v es) (start_at (moved a b v e.start) e ∷ shapes_after a b v es)
      ≡ cond t [] (start_at (moved a b v e.start) e ∷ []) ++ shapes_after a b v es
  after_by true = refl
  after_by false = refl

  after_kept : shapes_after a b v (e ∷ es) ≡ kept a b v e es ++ shapes_after a b v es
  unfolding shapes_after kept
  after_kept = after_by (inside a b e.start && any_inside a b es)

  pub packed-kept : packed (shapes_after a b v (e ∷ es)) ≡ packed (kept a b v e es) ++ packed (shapes_after a b v es)
  packed-kept = ap packed after_kept ∙ packed-append (kept a b v e es) (shapes_after a b v es)

  pub kept_none : inside a b e.start ≡ true → any_inside a b es ≡ true → packed (kept a b v e es) ≡ []
  unfolding kept packed
  kept_none p q = rw (p, q)

  pub kept_out : inside a b e.start ≡ false → packed (kept a b v e es) ≡ bytes_of 4 (moved a b v e.start) ++ bytes_of 4 e.shape
  unfolding kept packed start_at
  kept_out p = rw p (simp append-nil)

  pub kept_last : any_inside a b es ≡ false → packed (kept a b v e es) ≡ bytes_of 4 (moved a b v e.start) ++ bytes_of 4 e.shape
  unfolding kept packed start_at
  kept_last q = by (inside a b e.start)
    where
      by : (t : Bool) → packed (cond (t && any_inside a b es) [] (start_at (moved a b v e.start) e ∷ [])) ≡ bytes_of 4 (moved a b v e.start) ++ bytes_of 4 e.shape
      by true = rw q (simp append-nil)
      by false = simp append-nil

-- ---- the loops

-- what is found from number `from` on is what is found from number i on
pub record Scanning (body : List ℕ) (a b from i : ℕ) : Type 0 where
  pub rest : any_inside a b (shapes_from body from) ≡ any_inside a b (shapes_from body i)

module _ {body : List ℕ} {a b from i : ℕ} (k : Scanning body a b from i) where
  module _ {y : ℕ} {w : Bool} (h : i < length body / 8) (e : y ≡ (entry_at (drop (8 * i) body)).start) (t : w ≡ inside a b y) where
    scan_next : any_inside a b (shapes_from body from) ≡ w || any_inside a b (shapes_from body (i + 1))
    scan_next =
        k.rest ∙ any_next body a b i h
        ∙ ap (λ (x : Bool). x || any_inside a b (shapes_from body (i + 1))) (sym (t ∙ ap (inside a b) e))

    pub scan_here : w ≡ true → true ≡ any_inside a b (shapes_from body from)
    scan_here g = sym (scan_next ∙ rw g)

    pub scan_later : w ≡ false → Scanning body a b from (i + 1)
    scan_later g = record { rest = scan_next ∙ rw g }

  pub scan_end : length body / 8 ≤ i → false ≡ any_inside a b (shapes_from body from)
  scan_end h = any_end body a b i h ∙ sym k.rest

-- what becomes of entry i, whose start is y
module _ (a b v : ℕ) (body : List ℕ) (i : ℕ) {y : ℕ} {w : Bool} (e : y ≡ (entry_at (drop (8 * i) body)).start) (t : w ≡ inside a b y) where
  meets-is : w ≡ inside a b (entry_at (drop (8 * i) body)).start
  meets-is = t ∙ ap (inside a b) e

  pub kept_not : {z : Bool} → w ≡ true → z ≡ any_inside a b (shapes_from body (i + 1)) → z ≡ true
      → packed (kept a b v (entry_at (drop (8 * i) body)) (shapes_from body (i + 1))) ≡ []
  kept_not g r u = kept_none a b v (entry_at (drop (8 * i) body)) (shapes_from body (i + 1)) (sym meets-is ∙ g) (sym r ∙ u)

  -- the bytes of one that is kept
  module _ (bs : Bytes body) (h : i < length body / 8) {m : ℕ} (g : m ≡ moved a b v y) where
    start_bytes : bytes_of 4 (moved a b v (entry_at (drop (8 * i) body)).start) ≡ take 4 (bytes_of 4 m)
    start_bytes =
        ap (λ (z : ℕ). bytes_of 4 (moved a b v z)) (sym e) ∙ ap (bytes_of 4) (sym g)
        ∙ sym (take_all 4 (bytes_of 4 m) (omega (arith, length-bytes_of 4 m)))

    shape_bytes : bytes_of 4 (entry_at (drop (8 * i) body)).shape ≡ take 4 (drop (8 * i + 4) body)
    unfolding entry_at
    shape_bytes =
        bytes_of-little 4 (drop 4 (drop (8 * i) body)) (bytes_drop 4 (drop (8 * i) body) (bytes_drop (8 * i) body bs)) (simp (drop-drop, length-drop) (omega arith))
        ∙ ap (take 4) (drop-drop 4 (8 * i) body)

    both : bytes_of 4 (moved a b v (entry_at (drop (8 * i) body)).start) ++ bytes_of 4 (entry_at (drop (8 * i) body)).shape
        ≡ take 4 (bytes_of 4 m) ++ take 4 (drop (8 * i + 4) body)
    both = ap₂ (λ (l r : List ℕ). l ++ r) start_bytes shape_bytes

    pub kept_outside : w ≡ false
        → take 4 (bytes_of 4 m) ++ take 4 (drop (8 * i + 4) body) ≡ packed (kept a b v (entry_at (drop (8 * i) body)) (shapes_from body (i + 1)))
    kept_outside u = sym (kept_out a b v (entry_at (drop (8 * i) body)) (shapes_from body (i + 1)) (sym meets-is ∙ u) ∙ both)

    pub kept_latest : {z : Bool} → z ≡ any_inside a b (shapes_from body (i + 1)) → z ≡ false
        → take 4 (bytes_of 4 m) ++ take 4 (drop (8 * i + 4) body) ≡ packed (kept a b v (entry_at (drop (8 * i) body)) (shapes_from body (i + 1)))
    kept_latest r u = sym (kept_last a b v (entry_at (drop (8 * i) body)) (shapes_from body (i + 1)) (sym r ∙ u) ∙ both)

-- what is left of the entries from number i on
abbrev pub Keeping : Sheet → List ℕ → Change → ℕ → Sheet → Type 0
Keeping s body c i t =
    Left s (packed (shapes_after c.a.0 c.b.0 c.v (shapes_in body))) (packed (shapes_after c.a.0 c.b.0 c.v (shapes_from body i))) t

pub keeping_start : (s : Sheet) (body : List ℕ) (c : Change) → Keeping s body c 0 s
keeping_start s body c = left_start s (ap (λ (l : List Entry). packed (shapes_after c.a.0 c.b.0 c.v l)) (shapes_all body))

module _ {s t : Sheet} (body : List ℕ) (c : Change) {i : ℕ} (k : Keeping s body c i t) where
  pub keeping_next : {u : Sheet} → i < length body / 8
      → Put t (packed (kept c.a.0 c.b.0 c.v (entry_at (drop (8 * i) body)) (shapes_from body (i + 1)))) u → Keeping s body c (i + 1) u
  keeping_next h p =
      left_next k
      (ap (λ (l : List Entry). packed (shapes_after c.a.0 c.b.0 c.v l)) (shapes-next body i h)
      ∙ packed-kept c.a.0 c.b.0 c.v (entry_at (drop (8 * i) body)) (shapes_from body (i + 1)))
      p

  pub keeping_end : length body / 8 ≤ i → Put s (packed (shapes_after c.a.0 c.b.0 c.v (shapes_in body))) t
  unfolding packed shapes_after
  keeping_end h = left_done k (ap (λ (l : List Entry). packed (shapes_after c.a.0 c.b.0 c.v l)) (shapes_end body i h))
