-- A read that keeps its promise tells its answer in full: every place of that is within the limit. Assumes nothing.
use Rattle.std.specs.Prelude.{Ok}
use Prim.Native.Nat.{ℕ, ◌≤◌}
use mathlib.Core.Path.{◌≡◌, sym, ap, ◌∙◌, subst}
use mathlib.Core.List.{List}
use Rattle.numbers.specs.Little.{Bytes}
use Rattle.records.specs.Records.{limit}
use Rattle.records.specs.Answers.{place_bits, host_form, number, place, Answer}
use Rattle.records.specs.Table.{read_answer, entered, Lists, room_in, fitting, tabled}
use Rattle.records.proofs.AnswerLaws.{in_full}
use Rattle.records.proofs.TableLaws.{promised}
use Rattle.host.specs.ToldTable.{ToldTable}

-- by rules that accept nothing that read refuses, and whose places are within the limit
module _ (answers : List ℕ → ℕ → Answer) (stricter : (s : List ℕ) (room n : ℕ) → answers s room ≡ Ok n → read_answer s room ≡ Ok n)
    (near : (s : List ℕ) (room : ℕ) → Bytes s → place (answers s room) ≤ limit) where
  pub tells : (s : List ℕ) → Bytes s → {k k' : Lists} {a : Answer} {room told : ℕ} → room ≡ room_in k → a ≡ answers s room
      → k' ≡ tabled (entered a (fitting s (room_in k))) k → told ≡ host_form (number a) (place_bits (place a)) 0 → ToldTable answers s k told k'
  tells s bs {k} {k'} {a} q is table form =
      let answer : a ≡ answers s (room_in k) = is ∙ ap (answers s) q in
      record {
        answer = a;
        promised = promised answers s k (stricter s (room_in k)) a k' answer table;
        sum = form ∙ ap (λ (p : ℕ). host_form (number a) p 0) (in_full (subst (λ (x : Answer). place x ≤ limit) (sym answer) (near s (room_in k) bs)));
      }
