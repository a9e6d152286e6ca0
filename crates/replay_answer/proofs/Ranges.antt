-- The text of ranges, each a pair, one behind the other: its room, and what writing it leaves.
-- Assumes nothing.
use Prim.Native.Nat.{ℕ, ◌+◌, ◌-◌, ◌*◌, ◌≤◌, ◌<◌}
use mathlib.Core.List.{List, [], ◌∷◌, ◌++◌}
use mathlib.Core.Bool.{Bool, true, false}
use mathlib.Core.Path.{◌≡◌, refl, sym, ap, ◌∙◌, subst}
use native.Mathlib.Omega.{arith}
use lib.ListN.{length, get_or, drop, drop_of_length-le, length-append}
use lib.Dec.{leb, eqb}
use borrow.Author.Tests.{le-leb, lt-leb}
use Rattle.rows.specs.Values.{Range}
use Rattle.numbers.specs.Ranges.{range}
use Rattle.received.specs.Lent.{ranges_of}
use Rattle.received.proofs.Pairs.{length-ranges, drop-ranges}
use Rattle.put.specs.Put.{Wrote}
use Rattle.put.proofs.Put.{Writing, writing_step, writing-done}
use Rattle.numbers.specs.Decimal.{decimal}
use Rattle.ascii.specs.Words.{SPACE}
use Rattle.ascii.specs.Hex.{DASH, pairs_of}
use Rattle.ascii.proofs.Pairs as hex
use Rattle.replay_answer.specs.Transcript as transcript
use Rattle.replay_answer.specs.Transcript.{SEMICOLON, range_text, listed, ranges_text, state_text}

pub length-range : (f t : ℕ) → length (range_text (range f t)) ≡ length (decimal f) + length (decimal t) + 1
length-range f t = omega (arith, length-append (decimal f) (DASH ∷ decimal t))

-- the mark does not matter to the room
any-mark : (m n : ℕ) (rs : List Range) → length (listed m rs) ≡ length (listed n rs)
unfolding transcript.listed
any-mark m n [] = refl
any-mark m n (r ∷ rs) = refl

-- ---- the ranges of pairs
module _ (ps : List (List ℕ)) where
  abbrev ranges : List Range
  ranges = ranges_of ps

  pub no-ranges : {t : Bool} → t ≡ eqb (length ps) 0 → t ≡ true → SPACE ∷ DASH ∷ [] ≡ ranges_text ranges
  no-ranges is e = rw (length-ranges ps, ← is, e)

  pub some-ranges : {t : Bool} → t ≡ eqb (length ps) 0 → t ≡ false → listed SPACE ranges ≡ ranges_text ranges
  some-ranges is e = rw (length-ranges ps, ← is, e)

  listed-all : (mark i : ℕ) → length ps ≤ i → listed mark (drop i ranges) ≡ []
  unfolding transcript.listed
  listed-all mark i h = rw (drop_of_length-le ranges {i = i} (rw (length-ranges ps) h))

  -- the i-th, from f to t
  module _ (mark i : ℕ) {f t : ℕ} (h : i < length ps) (p : f ≡ get_or (get_or ps i []) 0 0) (q : t ≡ get_or (get_or ps i []) 1 0) where
    listed_next : listed mark (drop i ranges) ≡ (mark ∷ range_text (range f t)) ++ listed SEMICOLON (drop (i + 1) ranges)
    unfolding transcript.listed
    listed_next = rw (drop-ranges ps i h, p, q)

    listed-long : length (listed mark (drop i ranges)) ≡ length (mark ∷ range_text (range f t)) + length (listed SPACE (drop (i + 1) ranges))
    listed-long = ap length listed_next ∙ length-append (mark ∷ range_text (range f t)) _ ∙ ap (λ (n : ℕ). length (mark ∷ range_text (range f t)) + n) (any-mark SEMICOLON SPACE (drop (i + 1) ranges))

    -- a turn of the loop that writes them, and the room for it
    module _ {out m : List ℕ} {at here : ℕ} (w : Writing out at (listed SPACE ranges) m here (listed mark (drop i ranges))) where
      pub put-turn : {n : List ℕ} {next : ℕ} → Wrote m here (mark ∷ range_text (range f t)) n next → Writing out at (listed SPACE ranges) n next (listed SEMICOLON (drop (i + 1) ranges))
      put-turn s = writing_step (mark ∷ range_text (range f t)) (rw listed_next at w) s

      pub put-room : at + length (listed SPACE ranges) ≤ length out → here + length (mark ∷ range_text (range f t)) ≤ length m
      put-room room = omega (arith, listed-long, w.room, w.same)

  pub put-end : (mark i : ℕ) {out m : List ℕ} {at here : ℕ} → length ps ≤ i → Writing out at (listed SPACE ranges) m here (listed mark (drop i ranges)) → Wrote out at (listed SPACE ranges) m here
  put-end mark i h w = writing-done (rw (listed-all mark i h) at w)

  -- the loop that asks for their room: what is left of it
  module _ (i left room : ℕ) (e : length (listed SPACE (drop i ranges)) + room ≡ length (listed SPACE ranges) + left) where
    -- the i-th, from f to t, whose text has n bytes
    module _ {f t n : ℕ} (h : i < length ps) (p : f ≡ get_or (get_or ps i []) 0 0) (q : t ≡ get_or (get_or ps i []) 1 0) (s : n ≡ length (SPACE ∷ range_text (range f t))) where
      pub fit-turn : n ≤ left → length (listed SPACE (drop (i + 1) ranges)) + room ≡ length (listed SPACE ranges) + (left - n)
      fit-turn few = omega (arith, listed-long SPACE i h p q)

      pub fit-less : left < n → false ≡ leb (length (listed SPACE ranges)) room
      fit-less few = sym (lt-leb _ room (omega (arith, listed-long SPACE i h p q)))

    pub fit-end : length ps ≤ i → true ≡ leb (length (listed SPACE ranges)) room
    fit-end h = sym (le-leb _ room (omega (arith, ap length (listed-all SPACE i h))))

-- a writer that stored one text has stored another that is the same
pub as-stored : {l m a b : List ℕ} {at p : ℕ} → a ≡ b → Wrote l at a m p → (p ≡ at + length b) × Wrote l at b m p
as-stored {l} {m} {at = at} {p = p} e w = let v = subst (λ (text : List ℕ). Wrote l at text m p) e w in (v.next-is, v)

-- ---- the whole text
pub length-state : (id : ℕ) (row : List ℕ) (rs : List Range) → length (state_text id row rs) ≡ length (decimal id) + 1 + 2 * length row + length (ranges_text rs)
length-state id row rs = omega (arith, length-append (decimal id) (SPACE ∷ (pairs_of row ++ ranges_text rs)), length-append (pairs_of row) (ranges_text rs), hex.length_pairs row)
