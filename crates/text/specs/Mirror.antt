-- What the code asks and document 01 does not: it mirrors the code's run, which passes four units at once, and no promise names it. Nothing
-- here is to be believed: that the run is `run` of `Walk` all the same is proved (`run_four` of `RunLaws`).
use Rattle.std.specs.Prelude.{ℕ, ◌+◌, Bool, ◌&&◌, List, leb, length, get_or}

-- the four units from position p on are there and ordinary
unfoldable pub four_ordinary : List ℕ → ℕ → Bool
four_ordinary us p =
    leb (p + 4) (length us)
    && (leb 32 (get_or us p 0) && (leb 32 (get_or us (p + 1) 0) && (leb 32 (get_or us (p + 2) 0) && leb 32 (get_or us (p + 3) 0))))
