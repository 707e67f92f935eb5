-- Numbers in bytes, the lowest byte first (document 01, 'Limits': all numbers are little-endian), over any width.
use Rattle.std.specs.Prelude.{ℕ, zero, suc, ◌+◌, ◌*◌, ◌/◌, ◌%◌, ◌<◌, List, [], ◌∷◌, ◌++◌, cond, leb, length, get_or, drop}

-- the number in the first n bytes of s; a byte that is not there counts as 0
unfoldable pub little : ℕ → List ℕ → ℕ
little zero s = 0
little (suc n) s = get_or s 0 0 + 256 * little n (drop 1 s)

-- the n lowest bytes of a number
unfoldable pub bytes_of : ℕ → ℕ → List ℕ
bytes_of zero w = []
bytes_of (suc n) w = w % 256 ∷ bytes_of n (w / 256)

-- how many numbers n bytes can hold
unfoldable pub span : ℕ → ℕ
span zero = 1
span (suc n) = 256 * span n

-- a list of bytes
abbrev pub Bytes : List ℕ → Type 0
Bytes s = (i : ℕ) → get_or s i 0 < 256

-- bs at the front of a buffer, what stood behind them after them; a buffer too short for them stays as it is
unfoldable pub laid : List ℕ → List ℕ → List ℕ
laid bs out = cond (leb (length bs) (length out)) (bs ++ drop (length bs) out) out
