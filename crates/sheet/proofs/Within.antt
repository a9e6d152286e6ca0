-- In a line whose LF is still to come the machine has refused nothing, or has refused the line by 41; so a sheet that ends there is refused by 41.
-- Assumes nothing.
use Prim.Native.Nat.{ℕ, suc, ◌+◌, ◌-◌, ◌≤◌, min}
use mathlib.Core.List.{List, [], ◌∷◌}
use mathlib.Core.Bool.{Bool, true, false, cond}
use mathlib.Core.Option.{Option, none, some}
use mathlib.Core.Path.{◌≡◌, refl}
use native.Mathlib.Omega.{arith}
use lib.Dec.{eqb}
use borrow.Author.Tests.{eqb-true}
use Rattle.layout.specs.Questions.{LINE, DECIMAL}
use Rattle.numbers.specs.Decimal.{LF, COMMA}
use Rattle.sheet.specs.declared.State.{State}
use Rattle.ascii.specs.Decimal.{with_digit}
use Rattle.ascii.specs.Hex.{is_hex, hex_value}
use Rattle.sheet.specs.Sheet.{Shape, shape_of, LINES}
use Rattle.sheet.specs.Machine as machine
use Rattle.sheet.specs.Machine.{START, LETTER, FIRST, NUMBER, HIGH, LOW, WAIT, REFUSED, at_line, waiting, stopped, begun_as, highest_at, grown, taken, lettered, paired, bytes_in, used_one, stored_to, digit_step, number_step, comma_step, high_step, low_step, low_run, other_step, Held, held, state_in, stepped, fed, refuses, answer_of}
use Rattle.ascii.proofs.Parts.{Free, free-nil, free-cons}

data Within (k : ℕ) : State → Type 0 where
  no_line : Within k (stopped k LINE)
  going : {s : State} → eqb s.phase START ≡ false → eqb s.phase REFUSED ≡ false → s.lines ≡ k → Within k s

-- ---- one byte
module _ (k : ℕ) (s : State) (e : s.lines ≡ k) where
  in-line : Within k (stopped s.lines LINE)
  in-line = rw e no_line

  by-comma : Within k (comma_step s)
  unfolding machine.comma_step
  by-comma = go (eqb s.phase LETTER) (eqb s.left 0) (eqb s.phase NUMBER)
    where
      phase : (t : Bool) (p : ℕ) → eqb HIGH p ≡ false → eqb FIRST p ≡ false → eqb (cond t HIGH FIRST) p ≡ false
      phase true p x y = x
      phase false p x y = y

      go : (l z n : Bool) → Within k (cond l (lettered s) (cond z (stopped s.lines LINE) (cond n (taken s) (waiting s.lines (s.left - 1) DECIMAL))))
      go true z n = going refl refl e
      go false true n = in-line
      go false false true = going (phase (eqb s.left 1) START refl refl) (phase (eqb s.left 1) REFUSED refl refl) e
      go false false false = going refl refl e

  module _ (b : ℕ) where
    by_high : Within k (high_step b s)
    unfolding machine.high_step
    by_high = go (is_hex b)
      where
        go : (t : Bool) → Within k (cond t (paired (hex_value b) s) (waiting s.lines s.left 43))
        go true = going refl refl e
        go false = going refl refl e

    by-low : (room : ℕ) → Within k (low_step room b s)
    unfolding machine.low_step
    by-low room = go (is_hex b)
      where
        go : (t : Bool) → Within k (cond t (stored_to (used_one room s.used) s) (waiting s.lines s.left 43))
        go true = going refl refl e
        go false = going refl refl e

    by-digit : Within k (digit_step b s)
    unfolding machine.digit_step
    by-digit = go (with_digit (highest_at s.kind s.left) s.number b)
      where
        go : (o : Option ℕ) → Within k (grown o s)
        go none = going refl refl e
        go (some n) = going refl refl e

    by_number : Within k (number_step b s)
    unfolding machine.number_step
    by_number = go (eqb s.number 0)
      where
        go : (t : Bool) → Within k (cond t (waiting s.lines s.left DECIMAL) (digit_step b s))
        go true = going refl refl e
        go false = by-digit

    by-letter : (o : Option Shape) → Within k (begun_as o s)
    by-letter none = in-line
    by-letter (some shape) = going refl refl e

    by-other : Within k (other_step b s)
    unfolding machine.other_step
    by-other = go (eqb s.phase NUMBER) (eqb s.phase FIRST) (eqb s.phase START) (eqb s.phase WAIT) refl
      where
        go : (n f l w : Bool) → eqb s.phase WAIT ≡ w
            → Within k (cond n (number_step b s) (cond f (digit_step b s) (cond l (begun_as (shape_of (b ∷ [])) s) (cond w s (stopped s.lines LINE)))))
        go true f l w x = by_number
        go false true l w x = by-digit
        go false false true w x = by-letter (shape_of (b ∷ []))
        go false false false true x = let is : s.phase ≡ WAIT = eqb-true s.phase WAIT x in going {s = s} (rw is) (rw is) e
        go false false false false x = in-line

    by_byte : (run records : List ℕ) → eqb s.phase REFUSED ≡ false → eqb b LF ≡ false → Within k (state_in (stepped b (held s run records)))
    unfolding machine.stepped
    by_byte run records q lf = rw (q, lf) (go (eqb b COMMA) (eqb s.phase HIGH) (eqb s.phase LOW))
      where
        go : (c h l : Bool) → Within k (state_in (cond c (held (comma_step s) run records) (cond h (held (high_step b s) run records)
            (cond l (held (low_step (bytes_in run) b s) (low_run (bytes_in run) b s run) records) (held (other_step b s) run records)))))
        go true h l = by-comma
        go false true l = by_high
        go false false true = by-low (bytes_in run)
        go false false false = by-other

-- ---- the bytes of a line
stay-within : (k b : ℕ) (h : Held) → eqb b LF ≡ false → Within k (state_in h) → Within k (state_in (stepped b h))
unfolding machine.stepped
stay-within k b (held s run records) lf w = go s w
  where
    go : (s : State) → Within k s → Within k (state_in (stepped b (held s run records)))
    go _ no_line = no_line
    go s (going p q e) = by_byte k s e b run records q lf

fed-within : (k : ℕ) {bs : List ℕ} → Free LF bs → (h : Held) → Within k (state_in h) → Within k (state_in (fed bs h))
unfolding machine.fed
fed-within k free-nil h w = w
fed-within k (free-cons {b = b} lf f) h w = fed-within k f (stepped b h) (stay-within k b h lf w)

-- ---- the answer
pub stopped-answer : (k q : ℕ) (s : State) → k ≤ LINES → s ≡ stopped k q → answer_of s ≡ refuses q (suc k)
unfolding machine.answer_of
stopped-answer k q s h e = let line : min k LINES + 1 ≡ suc k = omega arith in rw (e, line)

within-answer : (k : ℕ) (s : State) → k ≤ LINES → Within k s → answer_of s ≡ refuses LINE (suc k)
unfolding machine.answer_of
within-answer k _ h no_line = let line : min k LINES + 1 ≡ suc k = omega arith in rw line
within-answer k s h (going p q e) = let line : min k LINES + 1 ≡ suc k = omega arith in rw (p, q, e, line)

-- a line without its LF
pub unended : (k u b : ℕ) (bs run records : List ℕ) → k ≤ LINES → Free LF (b ∷ bs) → answer_of (state_in (fed (b ∷ bs) (held (at_line k u) run records))) ≡ refuses LINE (suc k)
unfolding machine.fed
unended k u b bs run records h (free-cons lf f) =
    within-answer k (state_in (fed bs (stepped b (held (at_line k u) run records)))) h
    (fed-within k f (stepped b (held (at_line k u) run records)) (by_byte k (at_line k u) refl b run records refl lf))
