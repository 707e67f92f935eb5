-- A list with a part of it replaced: in either order, once more, and what is read of it. Assumes nothing.
use mathlib.Core.Path.{◌≡◌, refl, sym, ap, ◌∙◌}
use Prim.Native.Nat.{ℕ, ◌+◌, ◌-◌, ◌≤◌}
use native.Mathlib.Omega.{arith}
use mathlib.Core.List.{List, ◌++◌, append_assoc}
use lib.ListN.{length, take, drop, length-append, length-take, length-drop, take-append-drop}
use lib.Seq.{take_at, drop_at, drop-drop, length-take-le}
use Rattle.filling.specs.Replacing.{replaced}

module _ {ℓ} {A : Type ℓ} where
  pub replaced_at : (p x r w : List A) (a b : ℕ) → length p ≡ a → length p + length x ≡ b → replaced a b w (p ++ (x ++ r)) ≡ p ++ (w ++ r)
  unfolding replaced
  replaced_at p x r w a b ha hb =
      rw (take_at p (x ++ r) a ha, ← (append_assoc p x r), drop_at (p ++ x) r b (length-append p x ∙ hb)) refl

  pub length-replaced : (a b : ℕ) (w l : List A) → a ≤ b → b ≤ length l → length (replaced a b w l) ≡ length l + length w + a - b
  unfolding replaced
  length-replaced a b w l h k = simp (length-append, length-take, length-drop) (omega arith)

  -- a list cut at two places
  pub record Cut (a b : ℕ) (l : List A) : Type ℓ where
    pub p : List A
    pub x : List A
    pub r : List A
    pub is : l ≡ p ++ (x ++ r)
    pub lp : length p ≡ a
    pub lx : length p + length x ≡ b

  pub cut : (a b : ℕ) (l : List A) → a ≤ b → b ≤ length l → Cut a b l
  cut a b l h k =
      let e : a + (b - a) ≡ b = omega arith in
      let d : drop (b - a) (drop a l) ≡ drop b l = drop-drop (b - a) a l ∙ ap (λ (n : ℕ). drop n l) e in
      record {
        p = take a l;
        x = take (b - a) (drop a l);
        r = drop b l;
        is = sym (rw (← d, take-append-drop (b - a) (drop a l)) (take-append-drop a l));
        lp = length-take-le a l (omega arith);
        lx = simp (length-take, length-drop) (omega arith);
      }

  -- the same behind three parts
  replaced_third : (p q r y t w : List A) (a b : ℕ) → length p + length q + length r ≡ a → a + length y ≡ b
      → replaced a b w (p ++ (q ++ (r ++ (y ++ t)))) ≡ p ++ (q ++ (r ++ (w ++ t)))
  replaced_third p q r y t w a b ha hb =
      ap (replaced a b w) (simp append_assoc)
      ∙ replaced_at (p ++ q ++ r) y t w a b (simp length-append ha) (simp length-append (omega arith))
      ∙ simp append_assoc

  module _ (a₁ b₁ a₂ b₂ : ℕ) (w₁ w₂ l : List A) (h₁ : a₁ ≤ b₁) (h : b₁ ≤ a₂) (h₂ : a₂ ≤ b₂) (k : b₂ ≤ length l) where
    pub replaced_comm : replaced (a₂ + length w₁ + a₁ - b₁) (b₂ + length w₁ + a₁ - b₁) w₂ (replaced a₁ b₁ w₁ l)
        ≡ replaced a₁ b₁ w₁ (replaced a₂ b₂ w₂ l)
    replaced_comm = go (cut a₁ b₁ l h₁ (omega arith))
        (λ c. cut (a₂ - b₁) (b₂ - b₁) c.r (omega arith) (omega (arith, c.lx, simp length-append at (ap length c.is))))
      where
        both : (c : Cut a₁ b₁ l) (d : Cut (a₂ - b₁) (b₂ - b₁) c.r) (l' : List A) → l' ≡ c.p ++ (c.x ++ (d.p ++ (d.x ++ d.r)))
            → replaced (a₂ + length w₁ + a₁ - b₁) (b₂ + length w₁ + a₁ - b₁) w₂ (replaced a₁ b₁ w₁ l') ≡ replaced a₁ b₁ w₁ (replaced a₂ b₂ w₂ l')
        both c d l' e = rw (
          e,
          replaced_at c.p c.x (d.p ++ (d.x ++ d.r)) w₁ a₁ b₁ c.lp c.lx,
          replaced_third c.p c.x d.p d.x d.r w₂ a₂ b₂ (omega (arith, c.lx, d.lp)) (omega (arith, d.lp, d.lx)),
          replaced_at c.p c.x (d.p ++ (w₂ ++ d.r)) w₁ a₁ b₁ c.lp c.lx,
        )
            (replaced_third c.p w₁ d.p d.x d.r w₂ _ _ (omega (arith, c.lp, c.lx, d.lp)) (omega (arith, d.lp, d.lx)))

        go : (c : Cut a₁ b₁ l) → ((c : Cut a₁ b₁ l) → Cut (a₂ - b₁) (b₂ - b₁) c.r)
            → replaced (a₂ + length w₁ + a₁ - b₁) (b₂ + length w₁ + a₁ - b₁) w₂ (replaced a₁ b₁ w₁ l) ≡ replaced a₁ b₁ w₁ (replaced a₂ b₂ w₂ l)
        go c f = both c (f c) l (c.is ∙ ap (λ (t : List A). c.p ++ (c.x ++ t)) (f c).is)

  pub replaced_again : (a b : ℕ) (w u l : List A) → a ≤ b → b ≤ length l → replaced a (a + length w) u (replaced a b w l) ≡ replaced a b u l
  replaced_again a b w u l h k = go (cut a b l h k)
    where
      go : Cut a b l → replaced a (a + length w) u (replaced a b w l) ≡ replaced a b u l
      go c = rw (c.is, replaced_at c.p c.x c.r w a b c.lp c.lx, replaced_at c.p c.x c.r u a b c.lp c.lx)
          (replaced_at c.p w c.r u a (a + length w) c.lp (omega (arith, c.lp)))
