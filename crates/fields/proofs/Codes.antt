-- A number is its bytes, and a code is a byte that a table names: what is known of the bytes decides.
-- Assumes nothing.
use Prim.Native.Nat.{ℕ, ◌-◌}
use mathlib.Core.List.{List}
use mathlib.Core.Bool.{Bool, true, false, cond}
use mathlib.Core.Option.{Option, none, some}
use mathlib.Core.Path.{◌≡◌, refl, sym, ◌∙◌}
use native.Mathlib.Nat.{zero-mul, zero-add}
use lib.ListN.{length, get_or, take, drop}
use lib.Dec.{leb}
use Rattle.std.specs.Prelude.{Ok, Err}
use Rattle.layout.specs.declared.question.Question.{Question}
use Rattle.layout.specs.declared.question.Question.TheVariants as question
use Rattle.layout.specs.Questions.{CODE, FIELD, number_of}
use Rattle.layout.specs.Read.{value, refused}
use Rattle.layout.specs.Veil.{plain}
use Rattle.layout.specs.Form.{bytes, number, u8, letter, or_refused, big_endian}
use Rattle.layout.specs.Field.{Field, takes, refuses, placed, read_at}
use Rattle.rows.specs.Answers.{named}
use Rattle.rows.proofs.RoundTrip.{ok≢err}

one_byte : (bs : List ℕ) → big_endian 1 bs ≡ get_or bs 0 0
unfolding big_endian
one_byte bs = simp (zero-mul, zero-add)

-- a number is read as bytes are
abbrev pub number-of : ℕ → Field (List ℕ) → Field ℕ
number-of w (takes bs next) = takes (big_endian w bs) next
number-of w (refuses q) = refuses q

pub number_is : (row : List ℕ) (here w : ℕ) → read_at (number w) row here ≡ number-of w (read_at (bytes plain w) row here)
unfolding read_at
number_is row here w = go (leb w (length (drop here row)))
  where
    behind : List ℕ
    behind = drop w (drop here row)

    go : (t : Bool)
        → placed row (cond t (value (big_endian w (take w (drop here row))) behind) (refused FIELD))
        ≡ number-of w (placed row (cond t (value (take w (drop here row)) behind) (refused FIELD)))
    go true = refl
    go false = refl

module _ (row : List ℕ) (here : ℕ) {B : Type 0} (q : ℕ) (of : ℕ → Option B) (to : B → ℕ) where
  abbrev named_or : Option B → ℕ → Field B
  named_or (some c) next = takes c next
  named_or none next = refuses q

  abbrev looked_up : Field ℕ → Field B
  looked_up (takes b next) = named_or (of b) next
  looked_up (refuses p) = refuses p

  -- the code at a position is that of the byte there
  pub looks_up : read_at (letter q of to) row here ≡ looked_up (read_at u8 row here)
  unfolding read_at
  looks_up = go (leb 1 (length (drop here row)))
    where
      behind : List ℕ
      behind = drop 1 (drop here row)

      among : (o : Option B) → placed row (or_refused q behind o) ≡ named_or o (length row - length behind)
      among (some c) = refl
      among none = refl

      go : (t : Bool)
          → placed row (cond t (or_refused q behind (of (get_or (take 1 (drop here row)) 0 0))) (refused FIELD))
          ≡ looked_up (placed row (cond t (value (big_endian 1 (take 1 (drop here row))) behind) (refused FIELD)))
      go true = rw one_byte (among (of (get_or (take 1 (drop here row)) 0 0)))
      go false = refl

  module _ {b next : ℕ} (byte : takes b next ≡ read_at u8 row here) where
    pub code-yes : {c : B} → of b ≡ some c → takes c next ≡ read_at (letter q of to) row here
    code-yes e = sym (looks_up ∙ rw (← byte, e) refl)

    pub code-no : of b ≡ none → refuses q ≡ read_at (letter q of to) row here
    code-no e = sym (looks_up ∙ rw (← byte, e) refl)

    -- the same, of what a table of codes in Rattle answers
    pub named-yes : {c : B} → Ok c ≡ named (of b) → takes c next ≡ read_at (letter q of to) row here
    named-yes {c} e = code-yes (go (of b) e)
      where
        go : (o : Option B) → Ok c ≡ named o → o ≡ some c
        go (some d) e = let same : c ≡ d = cc in rw same
        go none e = absurd (ok≢err e)

    pub named-no : {p : Question} → q ≡ CODE → Err p ≡ named (of b) → refuses (number_of p) ≡ read_at (letter q of to) row here
    named-no {p} is-code e = rw (go (of b) e).1 (rw (← is-code) (code-no (go (of b) e).0))
      where
        go : (o : Option B) → Err p ≡ named o → (o ≡ none) × (number_of p ≡ CODE)
        go (some d) e = absurd (ok≢err (sym e))
        go none e = (refl, let same : p ≡ question.Code = cc in rw same)

  pub code-out : {p : ℕ} → refuses p ≡ read_at u8 row here → refuses p ≡ read_at (letter q of to) row here
  code-out e = sym (looks_up ∙ rw (← e) refl)
