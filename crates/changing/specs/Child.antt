-- What becomes of a record of the filled paragraph (document 01, 'Filling a field').
use Rattle.std.specs.Prelude.{None, Option, Some, ℕ, ◌*◌, ◌/◌, true, List, [], length}
use Rattle.records.specs.Records.{Rec, encode_one}
use Rattle.records.specs.declared.header.Record.{Record}
use Rattle.paragraph.specs.Places.{body_of}
use Rattle.filling.specs.Fields.{Field}
use Rattle.filling.specs.Editing.{with_body, as_child}
use Rattle.filling.specs.Filling.{new_body}
use Rattle.filling.specs.Replacing.{replaced}
use Rattle.filling.specs.Shapes.{packed, shapes_in, shapes_after}
use Rattle.putting.specs.declared.shapes.Change.{Change}
use Rattle.changing.specs.declared.fill.Spot.{Spot}
use Rattle.changing.specs.declared.fill.Fill.{Fill}
use Rattle.changing.specs.declared.fill.Piece.{Piece}

-- a plain field by where it stands
abbrev pub field_at : Spot → Field
field_at spot = record { ordinal = spot.ordinal; a = spot.a.0; b = spot.b.0; plain = true }

-- what a fill does to the positions of the text
abbrev pub change_of : Fill → Change
change_of fill = record { a = fill.spot.a; b = fill.spot.b; v = length fill.value.bytes.now / 2 }

-- a record by its tag and level, with a body; and with its own
abbrev pub record_with : Piece → List ℕ → Rec
record_with p body = record { tag = p.tag; level = p.level; body = body }

abbrev pub record_of : Piece → Rec
record_of p = record_with p p.body.bytes.now

-- a record of the stream with its body
abbrev pub record_read : List ℕ → Record → Rec
record_read s r = record { tag = r.tag; level = r.level; body = body_of s r }

-- the bytes of the text after a fill, and of the shapes after a change
abbrev pub text_put : Fill → Piece → List ℕ
text_put fill p = encode_one (record_with p (replaced (2 * fill.spot.a.0) (2 * fill.spot.b.0) fill.value.bytes.now p.body.bytes.now))

abbrev pub shapes_put : Change → Piece → List ℕ
shapes_put c p = encode_one (record_with p (packed (shapes_after c.a.0 c.b.0 c.v (shapes_in p.body.bytes.now))))

-- the bytes of a record with its new body, or of none where it goes
unfoldable pub changed_bytes : Option (List ℕ) → Rec → List ℕ
changed_bytes None r = []
changed_bytes (Some b) r = encode_one (with_body b r)

-- what becomes of an owned child, before which j control headers stand
unfoldable pub child_bytes : Field → List ℕ → ℕ → Rec → List ℕ
child_bytes f value j r = changed_bytes (new_body f value (as_child j r)) r

abbrev pub child_put : Fill → ℕ → Piece → List ℕ
child_put fill j p = child_bytes (field_at fill.spot) fill.value.bytes.now j (record_of p)
