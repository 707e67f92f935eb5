-- What the C face promises: the promise of each call, its answer told as document 01's sum ('What the part does'); and that it leaves no
-- choice. Assumes nothing.
use Rattle.records.specs.Answers.{Answer, sum_of}
use Rattle.std.specs.Prelude.{ℕ, ◌/◌, ◌%◌, ◌≡◌, List}
use Rattle.std.proofs.Common.{sym, ap, ◌∙◌}
use Rattle.section.specs.Section.{check_answer}
use Rattle.filling.specs.Filling.{text_sum}
use Rattle.orders.specs.Calls.{field_text_of}
use Rattle.orders.specs.Promise.{Filled, fill_determined}

-- the sum taken apart, as hwp_number, hwp_place and hwp_further of include/hwp.h do it
abbrev pub number_told : ℕ → ℕ
number_told told = told % 256

abbrev pub place_told : ℕ → ℕ
place_told told = told / 256 % 268435456

abbrev pub further_told : ℕ → ℕ
further_told told = told / 68719476736

-- of check and of field text the sum is all there is
pub check_told : (s : List ℕ) {m n : ℕ} → m ≡ sum_of (check_answer s) → n ≡ sum_of (check_answer s) → m ≡ n
check_told s a b = a ∙ sym b

pub text-told : (s : List ℕ) (id : ℕ) {m n : ℕ} → m ≡ text_sum (field_text_of s id) → n ≡ text_sum (field_text_of s id) → m ≡ n
text-told s id a b = a ∙ sym b

module _ (s : List ℕ) (id : ℕ) (value out : List ℕ) where
  -- of fill: an answer and a buffer that fill promises, and the answer's sum
  pub record ToldFill (told : ℕ) (out' : List ℕ) : Type 0 where
    pub answer : Answer
    pub filled : Filled s id value out answer out'
    pub sum : told ≡ sum_of answer

  pub fill_told : {m n : ℕ} {o₁ o₂ : List ℕ} → ToldFill m o₁ → ToldFill n o₂ → (m ≡ n) × (o₁ ≡ o₂)
  fill_told a b = let d = fill_determined s id value out a.filled b.filled in (a.sum ∙ ap sum_of d.0 ∙ sym b.sum, d.1)
