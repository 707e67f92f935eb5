-- A list with a part of it replaced (document 01, 'text from a to b becomes the value').
use Rattle.std.specs.Prelude.{ℕ, List, ◌++◌, take, drop}

-- the elements from a up to but not including b become w
unfoldable pub replaced {ℓ} : {A : Type ℓ} → ℕ → ℕ → List A → List A → List A
replaced a b w l = take a l ++ (w ++ drop b l)
