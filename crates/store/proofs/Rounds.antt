-- Rounds of questions: granted exactly if no round has a no, and else refused by the first no.
-- Assumes nothing.
use Prim.Native.Nat.{ℕ, zero, suc, ◌+◌, ◌≤◌, ◌<◌}
use mathlib.Core.List.{List, [], ◌∷◌}
use mathlib.Core.Option.{Option, none, some}
use mathlib.Core.Logic.{◌⊎◌, inl, inr}
use mathlib.Core.Path.{◌≡◌, refl, sym, ap, ◌∙◌}
use native.Mathlib.Omega.{arith}
use native.Mathlib.Decide.{dec_le}
use Rattle.store.specs.Rounds.{Asked, Going, Refused, Round, turn, turns, rounds, Quiet, Here, First}

-- no round has a no
abbrev pub AllQuiet : List Round → ℕ → Type 0
AllQuiet [] n = Unit {0}
AllQuiet (r ∷ rs) n = Quiet r 0 n × AllQuiet rs n

-- rounds that ask the entries below n alike
abbrev pub AskAlike : List Round → List Round → ℕ → Type 0
AskAlike [] [] n = Unit {0}
AskAlike [] (r ∷ rs) n = ⊥
AskAlike (r ∷ rs) [] n = ⊥
AskAlike (r ∷ rs) (r' ∷ rs') n = ((j : ℕ) → j < n → r j ≡ r' j) × AskAlike rs rs' n

pub some≢none : {n : ℕ} → some n ≡ none → ⊥
some≢none {n} e = let z : ◌≡◌ {A = ℕ} 0 1 = cc in omega arith

pub Going≢ : {n i : ℕ} → Going ≡ Refused n i → ⊥
Going≢ e = let z : ◌≡◌ {A = ℕ} 0 1 = cc in omega arith

pub turns-refused : (r : Round) (i n q p : ℕ) → turns r i n (Refused q p) ≡ Refused q p
turns-refused r i zero q p = refl
turns-refused r i (suc n) q p = turns-refused r (suc i) n q p

pub rounds-refused : (rs : List Round) (n q p : ℕ) → rounds rs n (Refused q p) ≡ Refused q p
rounds-refused [] n q p = refl
rounds-refused (r ∷ rs) n q p = ap (λ (v : Asked). rounds rs n v) (turns-refused r 0 n q p) ∙ rounds-refused rs n q p

-- what goes on was going on before
pub rounds-going : (rs : List Round) (n : ℕ) (v : Asked) → rounds rs n v ≡ Going → v ≡ Going
rounds-going rs n Going e = refl
rounds-going rs n (Refused q p) e = absurd (Going≢ (sym e ∙ rounds-refused rs n q p))

-- a round goes through, or is refused at its first no
data Came (r : Round) (i n : ℕ) (v : Asked) : Type 0 where
  through : v ≡ Going → Quiet r i (i + n) → Came r i n v
  stopped : (q p : ℕ) → v ≡ Refused q p → Here r i (i + n) q p → Came r i n v

quiet-cons : (r : Round) (i n : ℕ) → r i ≡ none → Quiet r (suc i) n → Quiet r i n
quiet-cons r i n h k j a b = go (dec_le (suc i) j)
  where
    go : Dec (suc i ≤ j) → r j ≡ none
    go (yes c) = k j c b
    go (no c) = let e : j ≡ i = omega arith in rw e h

none_or : (o : Option ℕ) → (o ≡ none) ⊎ ((q : ℕ) × (o ≡ some q))
none_or none = inl refl
none_or (some q) = inr (q, refl)

came : (r : Round) (i n : ℕ) → Came r i n (turns r i n Going)
came r i zero = through refl (λ j a b. absurd (omega arith))
came r i (suc n) = go (none_or (r i)) (came r (suc i) n)
  where
    later : r i ≡ none → Came r (suc i) n (turns r (suc i) n Going) → Came r i (suc n) (turns r i (suc n) Going)
    later h (through e k) = through (rw h e) (quiet-cons r i (i + suc n) h (λ j a b. k j a (omega arith)))
    later h (stopped q p e x) =
        stopped q p (rw h e) (record { from = omega (arith, x.from); below = omega (arith, x.below); says = x.says; earlier = quiet-cons r i p h x.earlier })

    go : ((r i ≡ none) ⊎ ((q : ℕ) × (r i ≡ some q))) → Came r (suc i) n (turns r (suc i) n Going) → Came r i (suc n) (turns r i (suc n) Going)
    go (inl h) c = later h c
    go (inr h) c = stopped h.0 i (rw h.1 (turns-refused r (suc i) n h.0 i)) (record { from = omega arith; below = omega arith; says = h.1; earlier = λ j a b. absurd (omega arith) })

-- granted exactly when every round is quiet
pub granted-quiet : (rs : List Round) (n : ℕ) → rounds rs n Going ≡ Going → AllQuiet rs n
granted-quiet [] n e = tt
granted-quiet (r ∷ rs) n e = go (came r 0 n) (granted-quiet rs n)
  where
    go : Came r 0 n (turns r 0 n Going) → (rounds rs n Going ≡ Going → AllQuiet rs n) → AllQuiet (r ∷ rs) n
    go (through h k) ih = ((λ j a b. k j a (omega arith)), ih (rw h at e))
    go (stopped q p h x) ih = absurd (Going≢ (sym (rw (h, rounds-refused rs n q p) at e)))

pub rounds-quiet : (rs : List Round) (n : ℕ) (v : Asked) → rounds rs n v ≡ Going → AllQuiet rs n
rounds-quiet rs n v e = granted-quiet rs n (rw (rounds-going rs n v e) at e)

pub quiet-granted : (rs : List Round) (n : ℕ) → AllQuiet rs n → rounds rs n Going ≡ Going
quiet-granted [] n q = refl
quiet-granted (r ∷ rs) n k = go (came r 0 n) (quiet-granted rs n k.1)
  where
    go : Came r 0 n (turns r 0 n Going) → rounds rs n Going ≡ Going → rounds (r ∷ rs) n Going ≡ Going
    go (through h x) ih = rw h ih
    go (stopped q p h x) ih = absurd (some≢none (sym x.says ∙ k.0 p x.from (omega (arith, x.below))))

-- "q at p" exactly when q is a no at p and all that is asked before is a yes
pub refused-first : (rs : List Round) (n q p : ℕ) → rounds rs n Going ≡ Refused q p → First rs n q p
refused-first [] n q p e = absurd (Going≢ e)
refused-first (r ∷ rs) n q p e = go (came r 0 n) (refused-first rs n q p)
  where
    go : Came r 0 n (turns r 0 n Going) → (rounds rs n Going ≡ Refused q p → First rs n q p) → First (r ∷ rs) n q p
    go (through h k) ih = inr ((λ j a b. k j a (omega arith)), ih (rw h at e))
    go (stopped q₁ p₁ h x) ih =
        let same : Refused q₁ p₁ ≡ Refused q p = rw (h, rounds-refused rs n q₁ p₁) at e in
        let eq : q₁ ≡ q = cc in
        let ep : p₁ ≡ p = cc in
        inl (record { from = rw ep at x.from; below = omega (arith, x.below); says = rw (ep, eq) at x.says; earlier = λ j a b. x.earlier j a (omega arith) })

pub first-refused : (rs : List Round) (n q p : ℕ) → First rs n q p → rounds rs n Going ≡ Refused q p
first-refused [] n q p f = absurd f
first-refused (r ∷ rs) n q p (inr f) = rw (quiet-granted (r ∷ []) n (f.0, tt)) (first-refused rs n q p f.1)
first-refused (r ∷ rs) n q p (inl x) = go (came r 0 n)
  where
    go : Came r 0 n (turns r 0 n Going) → rounds (r ∷ rs) n Going ≡ Refused q p
    go (through h k) = absurd (some≢none (sym x.says ∙ k p x.from (omega (arith, x.below))))
    go (stopped q₁ p₁ h y) = place (dec_le p p₁) (dec_le p₁ p)
      where
        place : Dec (p ≤ p₁) → Dec (p₁ ≤ p) → rounds (r ∷ rs) n Going ≡ Refused q p
        place (yes a) (yes b) =
            let ep : p₁ ≡ p = omega arith in
            let both : some q₁ ≡ some q = sym y.says ∙ ap r ep ∙ x.says in
            let eq : q₁ ≡ q = cc in
            rw (h, ep, eq) (rounds-refused rs n q p)
        place (no a) b = absurd (some≢none (sym y.says ∙ x.earlier p₁ y.from (omega arith)))
        place (yes a) (no b) = absurd (some≢none (sym x.says ∙ y.earlier p x.from (omega arith)))

-- rounds that ask alike answer alike
pub turns_same : (r r' : Round) (i n : ℕ) (v : Asked) → ((j : ℕ) → i ≤ j → j < i + n → r j ≡ r' j) → turns r i n v ≡ turns r' i n v
turns_same r r' i zero v h = refl
turns_same r r' i (suc n) v h = rw (h i (omega arith) (omega arith)) (turns_same r r' (suc i) n (turn (r' i) i v) (λ j a b. h j (omega arith) (omega arith)))

pub rounds-same : (rs rs' : List Round) (n : ℕ) (v : Asked) → AskAlike rs rs' n → rounds rs n v ≡ rounds rs' n v
rounds-same [] [] n v h = refl
rounds-same [] (r ∷ rs) n v h = absurd h
rounds-same (r ∷ rs) [] n v h = absurd h
rounds-same (r ∷ rs) (r' ∷ rs') n v h =
    rw (turns_same r r' 0 n v (λ j a b. h.0 j (omega arith))) (rounds-same rs rs' n (turns r' 0 n v) h.1)
