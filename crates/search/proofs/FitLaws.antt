-- What the search needs of a paragraph that keeps its rules. Assumes nothing.
use Rattle.std.specs.Prelude.{None, Option, Some}
use Prim.Native.Nat.{ℕ}
use mathlib.Core.Path.{◌≡◌, refl}
use mathlib.Core.List.{List}
use lib.ListN.{length}
use Rattle.text.specs.Units.{units}
use Rattle.text.specs.Asked.{SoundText}
use Rattle.text.specs.Walk.{text_fault, extended_count}
use Rattle.text.proofs.SoundLaws.{sound_exactly}
use Rattle.paragraph.specs.View.{View, child, controls}
use Rattle.paragraph.specs.Rules.{bytes_in}
use Rattle.acceptance.specs.Keeps.{Keeps}

-- 12: a text that is there breaks no rule
abbrev pub TextSound : Option (List ℕ) → Type 0
TextSound None = Unit {0}
TextSound (Some b) = text_fault (units b) ≡ None

pub record Fit (v : View) : Type 0 where
  pub sound : TextSound (child 67 v.own)
  pub owned : extended_count (units (bytes_in (child 67 v.own))) ≡ length (controls v.own)

sound_of : (o : Option (List ℕ)) → ((b : List ℕ) → o ≡ Some b → SoundText (units b)) → TextSound o
sound_of None h = tt
sound_of (Some b) h = (sound_exactly (units b)).1 (h b refl)

pub fit : (v : View) → Keeps v → Fit v
fit v k = record { sound = sound_of (child 67 v.own) k.text_sound; owned = k.controls_equal }
