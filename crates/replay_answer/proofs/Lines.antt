-- A line around a text: its length, no room for it, and what writing it leaves.
-- Assumes nothing.
use Prim.Native.Nat.{ℕ, ◌+◌, ◌≤◌, ◌<◌}
use mathlib.Core.List.{List, [], ◌∷◌}
use mathlib.Core.Path.{◌≡◌, sym, ap, ap₂, ◌∙◌}
use native.Mathlib.Omega.{arith}
use lib.ListN.{length, length-append}
use borrow.Author.Tests.{eq-eqb, ne_eqb}
use Rattle.layout.specs.Questions.{OUTPUT}
use Rattle.layout.specs.Write.{wrote, refuses, Left, stored}
use Rattle.layout.proofs.Write.{stored_short, stored_row}
use Rattle.put.specs.Put.{Wrote}
use Rattle.put.proofs.Put.{put_front, ◌then◌}
use Rattle.numbers.specs.Decimal.{LF, decimal}
use Rattle.ascii.specs.Words.{SPACE}
use Rattle.ascii.specs.Hex.{DASH, pairs_of, hex_of}
use Rattle.replay_answer.specs.Transcript.{EQUALS, line_of, place_text}

module _ (out text : List ℕ) where
  length-line : length (line_of text) ≡ length text + 3
  length-line = omega (arith, length-append text (LF ∷ []))

  pub no_room : length out < length text + 3 → stored (line_of text) out ≡ record { answer = refuses OUTPUT; out = out }
  no_room h = stored_short (line_of text) out (omega (arith, length-line))

  -- `= `, the text and LF, one behind the other
  pub line-written : {l m n : List ℕ} {p q r : ℕ} → length text + 3 ≤ length out
      → Wrote out 0 (EQUALS ∷ SPACE ∷ []) l p → Wrote l p text m q → Wrote m q (LF ∷ []) n r
      → record { answer = wrote r; out = n } ≡ stored (line_of text) out
  line-written {n = n} {r = r} h a b c =
      let w : Wrote out 0 (line_of text) n r = a then b then c in
      let room : length (line_of text) ≤ length out = omega (arith, length-line) in
      let long : r ≡ length (line_of text) = omega (arith, w.next-is) in
      ap₂ (λ (k : ℕ) (l : List ℕ). record { answer = wrote k; out = l }) long (w.now-is ∙ put_front out (line_of text) room) ∙ sym (stored_row (line_of text) out room)

pub length-place : (q i : ℕ) → length (place_text q i) ≡ length (decimal q) + length (decimal i) + 4
length-place q i = omega (arith, length-append (decimal q) (SPACE ∷ decimal i))

-- the line of another text that is the same
pub as_line : (out : List ℕ) {text other : List ℕ} {l : Left} → text ≡ other → l ≡ stored (line_of text) out → l ≡ stored (line_of other) out
as_line out e p = p ∙ ap (λ (t : List ℕ). stored (line_of t) out) e

-- ---- hexadecimal of no bytes, and of some
pub no_bytes : (bs : List ℕ) → length bs ≡ 0 → DASH ∷ [] ≡ hex_of bs
no_bytes bs e = rw (eq-eqb (length bs) 0 e)

pub some_bytes : (bs : List ℕ) → (length bs ≡ 0 → ⊥) → pairs_of bs ≡ hex_of bs
some_bytes bs e = rw (ne_eqb (length bs) 0 e)
