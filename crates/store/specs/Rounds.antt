-- Questions asked one after the other, up to the first no.
-- Assumes nothing.
use Rattle.std.specs.Prelude.{ℕ, zero, suc, ◌≤◌, ◌<◌, List, [], ◌∷◌, Bool, cond, not, ◌⊎◌, ◌≡◌, T, Result, Ok, Err}
use Rattle.std.proofs.Math.Option.{Option, none, some}
use Rattle.layout.specs.declared.question.Question as code
use Rattle.layout.specs.Questions.{number_of}
use Rattle.store.specs.declared.Refusal.{Refusal}

-- ---- of one entry
pub record Question : Type 0 where
  pub number : ℕ
  pub yes : Bool

abbrev pub ask : ℕ → Bool → Question
ask n t = record { number = n; yes = t }

-- the number of the first question whose answer is no, or none
abbrev pub first_no : List Question → Option ℕ
first_no [] = none
first_no (q ∷ qs) = cond q.yes (first_no qs) (some q.number)

-- ---- of all entries: a round asks each in turn, by its index
abbrev pub Round : Type 0
Round = ℕ → Option ℕ

-- how far they have come: every answer so far was yes, or the first no, the question's number and the entry's index
pub data Asked : Type 0 where
  Going : Asked
  Refused : ℕ → ℕ → Asked

-- one turn; a refusal ends all
abbrev pub turn : Option ℕ → ℕ → Asked → Asked
turn o i (Refused n j) = Refused n j
turn none i Going = Going
turn (some n) i Going = Refused n i

-- n entries from the i-th on
abbrev pub turns : Round → ℕ → ℕ → Asked → Asked
turns round i zero a = a
turns round i (suc n) a = turns round (suc i) n (turn (round i) i a)

-- round after round, of n entries each
abbrev pub rounds : List Round → ℕ → Asked → Asked
rounds [] n a = a
rounds (r ∷ rs) n a = rounds rs n (turns r 0 n a)

-- what code answers: an error is the first no, by its number
abbrev pub asked_by : {R : Type 0} → (number : R → ℕ) → Result (Unit {0}) (Refusal R) → Asked
asked_by number (Ok u) = Going
asked_by number (Err r) = Refused (number r.question) r.place

abbrev pub asked_says : Result (Unit {0}) (Refusal code.Question) → Asked
asked_says = asked_by number_of

-- ---- the first no, as a statement
-- of one entry: question n is a no, and every one before it a yes
abbrev pub FirstIn : List Question → (n : ℕ) → Type 0
FirstIn [] n = ⊥
FirstIn (q ∷ qs) n = (T (not q.yes) × (q.number ≡ n)) ⊎ (T q.yes × FirstIn qs n)

-- no answer of the entries from i on and below n is a no
abbrev pub Quiet : Round → ℕ → ℕ → Type 0
Quiet r i n = (j : ℕ) → i ≤ j → j < n → r j ≡ none

-- question q is a no at entry p, and no entry before it has a no in this round
pub record Here (r : Round) (i n q p : ℕ) : Type 0 where
  pub from : i ≤ p
  pub below : p < n
  pub says : r p ≡ some q
  pub earlier : Quiet r i p

-- ... and no earlier round has one
abbrev pub First : List Round → (n q p : ℕ) → Type 0
First [] n q p = ⊥
First (r ∷ rs) n q p = Here r 0 n q p ⊎ (Quiet r 0 n × First rs n q p)
