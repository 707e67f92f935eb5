-- What kind of record a tag names (document 01, 'The tag numbers belong to the record kind, named once'). Definitions name a tag by
-- these, as the code does by the constants of `Kind`.
use Rattle.std.specs.Prelude.{ℕ, cond, eqb}
use Rattle.records.specs.declared.kind.Kind.{Kind}
use Rattle.records.specs.declared.kind.Kind.TheVariants as K

abbrev pub paragraph_header : ℕ
paragraph_header = 66

abbrev pub text : ℕ
text = 67

abbrev pub shapes : ℕ
shapes = 68

abbrev pub layout : ℕ
layout = 69

abbrev pub marks : ℕ
marks = 70

abbrev pub control_header : ℕ
control_header = 71

abbrev pub list_header : ℕ
list_header = 72

abbrev pub control_data : ℕ
control_data = 87

-- the kind that a tag names; a tag that document 01 does not name is carried unexamined
unfoldable pub kind_of : ℕ → Kind
kind_of t =
    cond (eqb t paragraph_header) K.ParagraphHeader
    (cond (eqb t text) K.Text
    (cond (eqb t shapes) K.Shapes
    (cond (eqb t layout) K.Layout
    (cond (eqb t marks) K.Marks
    (cond (eqb t control_header) K.ControlHeader (cond (eqb t list_header) K.ListHeader (cond (eqb t control_data) K.ControlData K.Other)))))))
