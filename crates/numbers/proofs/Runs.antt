-- The maximal runs of a set are canonical, hold its numbers and no others, and count them.
-- Assumes nothing.
use Prim.Native.Nat.{ℕ, zero, suc, ◌+◌, ◌≤◌, ◌<◌}
use mathlib.Core.List.{List, [], ◌∷◌}
use mathlib.Core.Bool.{Bool, true, false, cond, false≢true}
use mathlib.Core.Logic.{◌⊎◌, inl, inr, ⊎_elim}
use mathlib.Core.Path.{◌≡◌, refl, sym, ap, ◌∙◌}
use native.Mathlib.Nat.{add-zero}
use native.Mathlib.Omega.{arith}
use Rattle.rows.specs.Values.{Range}
use Rattle.numbers.specs.Ranges.{range}
use Rattle.numbers.specs.Sets.{all_of, how_many, reach, grow, runs, size}
use Rattle.rows.proofs.Tests.{either, if-eq, order, and_both, both-and}
use Rattle.numbers.proofs.Canon.{Canon, In, weaken}

-- ---- one number more in front
grow-canon : (n : ℕ) (rs : List Range) → Canon (suc n) rs → Canon n (grow n rs)
grow-canon n [] c = (omega arith, omega arith, tt)
grow-canon n (r ∷ rs) c =
    if-eq r.from (suc n) (λ b. Canon n (cond b (range n r.to ∷ rs) (range n n ∷ r ∷ rs)))
    (λ e. (omega arith, omega arith, c.2))
    (λ e. (omega arith, omega arith, (omega arith, c.1, c.2)))

grow-from : (n m : ℕ) (rs : List Range) → Canon (suc n) rs → In m (grow n rs) → (m ≡ n) ⊎ In m rs
grow-from n m [] c = ⊎_elim (λ h. inl (omega arith)) (λ i. absurd i)
grow-from n m (r ∷ rs) c =
    if-eq r.from (suc n) (λ b. In m (cond b (range n r.to ∷ rs) (range n n ∷ r ∷ rs)) → (m ≡ n) ⊎ In m (r ∷ rs))
    (λ e. ⊎_elim (λ h. order m n (λ k. inl (omega arith)) (λ k. inr (inl (omega arith)))) (λ i. inr (inr i)))
    (λ e. ⊎_elim (λ h. inl (omega arith)) (λ i. inr i))

grow-to : (n m : ℕ) (rs : List Range) → Canon (suc n) rs → (m ≡ n) ⊎ In m rs → In m (grow n rs)
grow-to n m [] c = ⊎_elim (λ h. inl (omega arith)) (λ i. absurd i)
grow-to n m (r ∷ rs) c =
    if-eq r.from (suc n) (λ b. (m ≡ n) ⊎ In m (r ∷ rs) → In m (cond b (range n r.to ∷ rs) (range n n ∷ r ∷ rs)))
    (λ e. ⊎_elim (λ h. inl (omega arith)) (⊎_elim (λ h. inl (omega arith)) (λ i. inr i)))
    (λ e. ⊎_elim (λ h. inl (omega arith)) (λ i. inr i))

grow-size : (n : ℕ) (rs : List Range) → Canon (suc n) rs → size (grow n rs) ≡ suc (size rs)
grow-size n [] c = omega arith
grow-size n (r ∷ rs) c =
    if-eq r.from (suc n) (λ b. size (cond b (range n r.to ∷ rs) (range n n ∷ r ∷ rs)) ≡ suc (size (r ∷ rs)))
    (λ e. omega arith) (λ e. omega arith)

-- ---- the runs among the k numbers from n on
module _ (S : ℕ → Bool) where
  pub runs-canon : (n k : ℕ) → Canon n (runs S n k)
  runs-canon n zero = tt
  runs-canon n (suc k) =
      either (S n) (λ b. Canon n (cond b (grow n (runs S (suc n) k)) (runs S (suc n) k)))
      (λ e. grow-canon n (runs S (suc n) k) (runs-canon (suc n) k))
      (λ e. weaken (runs S (suc n) k) (omega arith) (runs-canon (suc n) k))

  pub runs-from : (n k m : ℕ) → In m (runs S n k) → (S m ≡ true) × (n ≤ m) × (m < n + k)
  runs-from n zero m = λ i. absurd i
  runs-from n (suc k) m =
      either (S n) (λ b. In m (cond b (grow n (runs S (suc n) k)) (runs S (suc n) k)) → (S m ≡ true) × (n ≤ m) × (m < n + suc k))
      (λ e i. ⊎_elim
      (λ q. (rw q e, omega arith, omega arith))
      (λ i. let h = runs-from (suc n) k m i in (h.0, omega arith, omega arith))
      (grow-from n m (runs S (suc n) k) (runs-canon (suc n) k) i))
      (λ e i. let h = runs-from (suc n) k m i in (h.0, omega arith, omega arith))

  pub runs_to : (n k m : ℕ) → S m ≡ true → n ≤ m → m < n + k → In m (runs S n k)
  runs_to n zero m t p q = absurd (omega arith)
  runs_to n (suc k) m t p q =
      either (S n) (λ b. In m (cond b (grow n (runs S (suc n) k)) (runs S (suc n) k)))
      (λ e. grow-to n m (runs S (suc n) k) (runs-canon (suc n) k) (order m n (λ h. inl (omega arith)) (λ h. inr (runs_to (suc n) k m t h (omega arith)))))
      (λ e. order m n
      (λ h. let z : m ≡ n = omega arith in absurd (false≢true (sym e ∙ ap S (sym z) ∙ t)))
      (λ h. runs_to (suc n) k m t h (omega arith)))

  pub runs-size : (n k : ℕ) → size (runs S n k) ≡ how_many S n k
  runs-size n zero = refl
  runs-size n (suc k) =
      either (S n) (λ b. size (cond b (grow n (runs S (suc n) k)) (runs S (suc n) k)) ≡ cond b (suc (how_many S (suc n) k)) (how_many S (suc n) k))
      (λ e. grow-size n (runs S (suc n) k) (runs-canon (suc n) k) ∙ ap suc (runs-size (suc n) k))
      (λ e. runs-size (suc n) k)

  -- ---- all of them in S, and the first that is not
  pub all-each : (n k : ℕ) → all_of S n k ≡ true → (m : ℕ) → n ≤ m → m < n + k → S m ≡ true
  all-each n zero t m p q = absurd (omega arith)
  all-each n (suc k) t m p q =
      let b = and_both (S n) (all_of S (suc n) k) t in
      order m n (λ h. let z : m ≡ n = omega arith in ap S z ∙ b.0) (λ h. all-each (suc n) k b.1 m h (omega arith))

  pub each_all : (n k : ℕ) → ((m : ℕ) → n ≤ m → m < n + k → S m ≡ true) → all_of S n k ≡ true
  each_all n zero f = refl
  each_all n (suc k) f =
      both-and (S n) (all_of S (suc n) k) (f n (omega arith) (omega arith)) (each_all (suc n) k (λ m p q. f m (omega arith) (omega arith)))

  pub reach-is : (n k c : ℕ) → c ≤ k → ((m : ℕ) → n ≤ m → m < n + c → S m ≡ true) → (c < k → S (n + c) ≡ false) → reach S n k ≡ c
  reach-is n zero c le f g = omega arith
  reach-is n (suc k) zero le f g =
      let z : S n ≡ false = ap S (sym (add-zero n)) ∙ g (omega arith) in
      rw z
  reach-is n (suc k) (suc c) le f g =
      rw (f n (omega arith) (omega arith))
      (ap suc (reach-is (suc n) k c (omega arith) (λ m p q. f m (omega arith) (omega arith))
      (λ h. let z : suc n + c ≡ n + suc c = omega arith in ap S z ∙ g (omega arith))))
