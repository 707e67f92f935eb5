-- A text's units (document 01, 'Limits': a unit is a 16-bit WCHAR, the low byte first).
use Rattle.std.specs.Prelude.{ℕ, ◌+◌, ◌*◌, List, [], ◌∷◌}

-- two bytes a unit; a lone last byte is no unit
unfoldable pub units : List ℕ → List ℕ
units [] = []
units (a ∷ []) = []
units (a ∷ b ∷ bytes) = (a + 256 * b) ∷ units bytes
