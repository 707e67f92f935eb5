-- A paragraph's view: its header's body and the direct children that document 01's paragraph rules speak of ('Paragraphs').
use Rattle.std.specs.Prelude.{ℕ, suc, Bool, cond, ◌&&◌, List, [], ◌∷◌, ltb, leb, eqb, None, Option, Some}
use Rattle.records.specs.Kinds as kind
use Rattle.records.specs.Records.{Rec}
use Rattle.records.specs.Parents.{keep_if}
use Rattle.paragraph.specs.declared.view.Side.{Side}
use Rattle.paragraph.specs.declared.view.Side.TheVariants as S

-- how a record stands to a parent whose children are at level n, among the records behind that parent: behind its last descendant,
-- an owned child (a direct child with a tag from 67 to 71), or something else below it
unfoldable pub side : ℕ → ℕ → ℕ → Side
side n tag level = cond (ltb level n) S.Beyond (cond (eqb level n && (leb kind.text tag && leb tag kind.control_header)) S.Owned S.Passed)

-- an owned child stays one where the test holds, and is passed else
abbrev pub owned_if : Bool → Side → Side
owned_if keeps S.Beyond = S.Beyond
owned_if keeps S.Owned = cond keeps S.Owned S.Passed
owned_if keeps S.Passed = S.Passed

-- the owned children at level n, from the records behind their parent
unfoldable pub keep : Side → Rec → List Rec → List Rec
keep S.Beyond r k = []
keep S.Owned r k = r ∷ k
keep S.Passed r k = k

unfoldable pub kids : ℕ → List Rec → List Rec
kids n [] = []
kids n (r ∷ rs) = keep (side n r.tag r.level) r (kids n rs)

-- those of some records that a paragraph owns: tags 67 to 71
unfoldable pub owned_of : List Rec → List Rec
owned_of [] = []
owned_of (r ∷ rs) = keep_if (leb kind.text r.tag && leb r.tag kind.control_header) r (owned_of rs)

pub record View : Type 0 where
  pub head : List ℕ
  pub own : List Rec

-- the view of a paragraph header r, before the records rs: of the records whose parent is r it owns those with tags 67 to 71 (`kids_are` and
-- `view_exactly` in proofs/ChildLaws.antt)
unfoldable pub view : Rec → List Rec → View
view r rs = record { head = r.body; own = kids (suc r.level) rs }

-- the paragraphs of a section, in stream order
unfoldable pub views : List Rec → List View
views [] = []
views (r ∷ rs) = cond (eqb r.tag kind.paragraph_header) (view r rs ∷ views rs) (views rs)

-- the body of the first child with a tag
unfoldable pub child : ℕ → List Rec → Option (List ℕ)
child t [] = None
child t (r ∷ k) = cond (eqb r.tag t) (Some r.body) (child t k)

-- the control headers among the children, in stream order: the nth belongs to the nth extended control
unfoldable pub controls : List Rec → List (List ℕ)
controls [] = []
controls (r ∷ k) = cond (eqb r.tag kind.control_header) (r.body ∷ controls k) (controls k)
