-- The pairs that document 01 marks P ('Pairs at each edge'), with the places of document 02, A12: one table, under one statement that is
-- computed.
use Rattle.std.specs.Prelude.{ℕ, List, [], ◌∷◌, ◌++◌, map, Bool, true, false, ◌&&◌, T, eqb, length, replicate}
use Rattle.numbers.specs.Little.{little, bytes_of}
use Rattle.records.specs.Records.{header_word, lead_of, size, encode_one, encode, header_of}
use Rattle.records.specs.Answers as answer
use Rattle.records.specs.Reading.{read_all, read_from, onto, stands_at, word_at, long_at, body_at, guard}
use Rattle.records.specs.Table.{read_answer, answer_of, stopped, room_for, places_from}
use Rattle.text.specs.Units.{units}
use Rattle.text.specs.Asked.{among, class_of, what}
use Rattle.text.specs.Walk.{front_of, front, walk, tokens, extended_in, extended_count, fault, text_fault}
use Rattle.text.specs.Answers as judgement
use Rattle.text.specs.Answers.{judged}
use Rattle.filling.specs.Shapes.{Entry, start_at, inside, any_inside, moved, shapes_after}

-- what comes of an input: accepted, with the number beside it, or refused by a number at a place
pub data Comes : Type 0 where
  accepted : ℕ → Comes
  refused : ℕ → ℕ → Comes

pub data Pair : Type 0 where
  -- a stream: what read answers (its number of records), and where each body starts
  stream : List ℕ → Comes → List ℕ → Pair
  -- a text's bytes: how many units it has, and what the text rules say (the position at fault)
  text : List ℕ → ℕ → Comes → Pair
  -- a fill of the positions a to b with v units: the starts before it, and those after
  starts : (a b v : ℕ) → List ℕ → List ℕ → Pair

-- ---- the table

-- a header of 32 bits, and a long one
unfoldable pub short : ℕ → ℕ → ℕ → List ℕ
short tag level n = bytes_of 4 (header_word tag level n)

unfoldable pub long : ℕ → ℕ → ℕ → List ℕ
long tag level n = short tag level 4095 ++ bytes_of 4 n

-- the bytes of units
unfoldable pub bytes : List ℕ → List ℕ
bytes [] = []
bytes (u ∷ us) = bytes_of 2 u ++ bytes us

-- eight units that begin and end so
unfoldable pub eight_from : ℕ → ℕ → List ℕ
eight_from first last = first ∷ 13 ∷ 0 ∷ 0 ∷ 0 ∷ 0 ∷ 0 ∷ last ∷ []

unfoldable pub pairs : List Pair
pairs =
    -- empty stream; three bytes
    stream [] (accepted 0) []
    ∷ stream (66 ∷ 0 ∷ 0 ∷ []) (refused 2 3) []
    -- body 4094 has a 4-byte header, 4095 has 8; long length 4094
    ∷ stream (short 66 0 4094 ++ replicate 4094 0) (accepted 1) (4 ∷ [])
    ∷ stream (long 66 0 4095 ++ replicate 4095 0) (accepted 1) (8 ∷ [])
    ∷ stream (long 66 0 4094 ++ replicate 4094 0) (refused 3 4) []
    -- first level 1; levels 0, 1, 0; levels 0, 2
    ∷ stream (short 66 1 0) (refused 6 0) []
    ∷ stream (short 66 0 0 ++ (short 67 1 0 ++ short 66 0 0)) (accepted 3) (4 ∷ 8 ∷ 12 ∷ [])
    ∷ stream (short 66 0 0 ++ short 67 2 0) (refused 6 4) (4 ∷ [])
    -- text 13; code 9 eight long, then 13; the same with the eighth unit 8
    ∷ text (bytes (13 ∷ [])) 1 (accepted 0)
    ∷ text (bytes (eight_from 9 9 ++ (13 ∷ []))) 9 (accepted 0)
    ∷ text (bytes (eight_from 9 8 ++ (13 ∷ []))) 9 (refused 12 7)
    -- a = 8, b = 11: starts 0, 8, 19 and a value of 4; starts 0, 9, 11; starts 0, 9 and an empty value
    ∷ starts 8 11 4 (0 ∷ 8 ∷ 19 ∷ []) (0 ∷ 12 ∷ 20 ∷ [])
    ∷ starts 8 11 4 (0 ∷ 9 ∷ 11 ∷ []) (0 ∷ 12 ∷ [])
    ∷ starts 8 11 0 (0 ∷ 9 ∷ []) (0 ∷ 8 ∷ [])
    ∷ []

-- ---- the statement

unfoldable pub same : List ℕ → List ℕ → Bool
same [] [] = true
same [] (y ∷ ys) = false
same (x ∷ xs) [] = false
same (x ∷ xs) (y ∷ ys) = eqb x y && same xs ys

-- a number and what stands beside it are those
unfoldable pub is : Comes → ℕ → ℕ → Bool
is (accepted n) number beside = eqb number 0 && eqb beside n
is (refused m p) number beside = eqb number m && eqb beside p

-- the shape starts after a fill
unfoldable pub starts_after : ℕ → ℕ → ℕ → List ℕ → List ℕ
starts_after a b v before = map (λ (e : Entry). e.start) (shapes_after a b v (map (λ s. record { start = s; shape = 0 }) before))

unfoldable pub holds : Pair → Bool
holds (stream s c bodies) =
    is c (answer.number (read_answer s (length s))) (answer.place (read_answer s (length s))) && same (places_from 0 (read_all s).recs) bodies
holds (text t has c) =
    eqb (length (units t)) has && is c (judgement.number (judged (units t))) (judgement.beside (judged (units t)))
holds (starts a b v before after) = same (starts_after a b v before) after

unfoldable pub all_hold : List Pair → Bool
all_hold [] = true
all_hold (p ∷ ps) = holds p && all_hold ps

pub every_pair : T (all_hold pairs)
unfolding all_hold pairs holds is same starts_after short long bytes eight_from read_answer answer_of stopped room_for places_from read_all read_from onto stands_at word_at long_at body_at guard little bytes_of header_word lead_of size encode encode_one header_of units judgement.judged text_fault fault front front_of what class_of among extended_count extended_in tokens walk start_at inside any_inside moved shapes_after
every_pair = tt
