-- An edit of one paragraph: of its header's body and of its owned children; all else is the identity (document 01, 'Filling a field':
-- everything else is copied).
use Rattle.std.specs.Prelude.{ℕ, zero, suc, true, false, cond, ◌≡◌, List, [], ◌∷◌, eqb, None, Option, Some}
use Rattle.records.specs.Kinds as kind
use Rattle.records.specs.Records.{Rec}
use Rattle.paragraph.specs.View.{View, view, side}
use Rattle.paragraph.specs.declared.view.Side.TheVariants as S

-- an owned child of the paragraph: how many control headers stand before it, its tag, and its body
pub record OwnedChild : Type 0 where
  pub before : ℕ
  pub tag : ℕ
  pub body : List ℕ

abbrev pub as_child : ℕ → Rec → OwnedChild
as_child before r = record { before = before; tag = r.tag; body = r.body }

-- what becomes of a child: its new body, or none where the record goes
abbrev pub Change : Type 0
Change = OwnedChild → Option (List ℕ)

pub record Edit : Type 0 where
  pub head : View → List ℕ
  pub child : Change

unfoldable pub with_body : List ℕ → Rec → Rec
with_body b r = record { tag = r.tag; level = r.level; body = b }

-- a record with its new body before rs; only rs where it goes
unfoldable pub put : Option (List ℕ) → Rec → List Rec → List Rec
put None r rs = rs
put (Some b) r rs = with_body b r ∷ rs

-- the number of control headers behind a record with tag t
unfoldable pub count_control : ℕ → ℕ → ℕ
count_control t j = cond (eqb t kind.control_header) (suc j) j

-- a list of children changed, before which j control headers stand
unfoldable pub changed : ℕ → Change → List Rec → List Rec
changed j f [] = []
changed j f (r ∷ k) = put (f (as_child j r)) r (changed (count_control r.tag j) f k)

-- a view edited
unfoldable pub edit_view : Edit → View → View
edit_view e v = record { head = e.head v; own = changed 0 e.child v.own }

-- the records behind a paragraph header, whose children at level n are changed
unfoldable pub edit_behind : ℕ → ℕ → Change → List Rec → List Rec
edit_behind n j f [] = []
edit_behind n j f (r ∷ rs) =
    elim (side n r.tag r.level) [
      | S.Beyond ↦ r ∷ rs
      | S.Owned ↦ put (f (as_child j r)) r (edit_behind n (count_control r.tag j) f rs)
      | S.Passed ↦ r ∷ edit_behind n j f rs
    ]

-- a paragraph header r before rs, edited
unfoldable pub edit_here : Edit → Rec → List Rec → List Rec
edit_here e r rs = with_body (e.head (view r rs)) r ∷ edit_behind (suc r.level) 0 e.child rs

-- the records of a section with paragraph i edited, counted from 0 in stream order
unfoldable pub edit_at : ℕ → Edit → List Rec → List Rec
edit_at i e [] = []
edit_at zero e (r ∷ rs) = elim (eqb r.tag kind.paragraph_header) [ true ↦ edit_here e r rs | false ↦ r ∷ edit_at zero e rs ]
edit_at (suc i) e (r ∷ rs) = elim (eqb r.tag kind.paragraph_header) [ true ↦ r ∷ edit_at i e rs | false ↦ r ∷ edit_at (suc i) e rs ]

-- ---- how edits go together

-- the paragraph of number i changed, among views
unfoldable pub modified : ℕ → (View → View) → List View → List View
modified i g [] = []
modified zero g (v ∷ vs) = g v ∷ vs
modified (suc i) g (v ∷ vs) = v ∷ modified i g vs

-- a change that takes away layout records only
abbrev pub TakesLayout : Change → Type 0
TakesLayout f = (c : OwnedChild) → f c ≡ None → c.tag ≡ kind.layout

-- one after another
unfoldable pub then_body : Change → OwnedChild → Option (List ℕ) → Option (List ℕ)
then_body g c None = None
then_body g c (Some b) = g (record { before = c.before; tag = c.tag; body = b })

unfoldable pub then_change : Change → Change → Change
then_change f g c = then_body g c (f c)

unfoldable pub then_edit : Edit → Edit → Edit
then_edit e d = record { head = λ v. d.head (edit_view e v); child = then_change e.child d.child }
