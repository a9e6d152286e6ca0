-- Laws of LEB128 a byte at a time, for the loop of the reader (`Reading`) and the loops of the writers (`Printing`): where each begins, a turn of it, and where it ends.
-- Assumes nothing.
use Prim.Native.Nat.{ℕ, zero, suc, min, ◌+◌, ◌*◌, ◌/◌, ◌%◌, ◌-◌, ◌^◌, ◌≤◌, ◌<◌}
use mathlib.Core.List.{List, [], ◌∷◌}
use mathlib.Core.Bool.{Bool, true, false}
use mathlib.Core.Path.{◌≡◌, refl, sym, ap, ◌∙◌}
use native.Mathlib.Omega.{arith}
use native.Mathlib.Decide.{dec_lt}
use native.Mathlib.Nat.{pow-suc, mul-le-mul_right}
use native.Mathlib.Numerals.{add-one}
use lib.ListN.{length, get_or, take, drop, length-drop, drop_of_length-le}
use lib.Seq.{drop-cons, drop-drop, take_all}
use lib.Dec.{ltb}
use borrow.Author.Tests.{ltb-true, le-leb, lt-leb, lt-ltb, le-ltb, ne_eqb}
use Rattle.layout.specs.Questions.{FIELD, LEB128}
use Rattle.layout.specs.Read.{Read, value, refused, onto}
use Rattle.layout.specs.Form.{leb_read, leb_print, leb128}
use Rattle.layout.specs.Form as form
use Rattle.layout.specs.Field.{takes, refuses, read_at}
use Rattle.layout.proofs.At.{takes_at, refuses-at}

-- ---- what the next byte says to the reader
no_byte : (left : ℕ) (later : Bool) → leb_read left later [] ≡ refused FIELD
unfolding form.leb_read
no_byte zero later = refl
no_byte (suc l) later = refl

high_byte : (later : Bool) (b : ℕ) (rest : List ℕ) → 15 < b → leb_read 0 later (b ∷ rest) ≡ refused LEB128
unfolding form.leb_read
high_byte later b rest h = rw (lt-ltb 15 b h)

zero-byte : (left : ℕ) (rest : List ℕ) → leb_read left true (0 ∷ rest) ≡ refused LEB128
unfolding form.leb_read
zero-byte zero rest = refl
zero-byte (suc l) rest = refl

last_byte : (left : ℕ) (later : Bool) (b : ℕ) (rest : List ℕ) → (left ≡ 0 → b ≤ 15) → (later ≡ true → b ≡ 0 → ⊥) → b < 128 → leb_read left later (b ∷ rest) ≡ value b rest
unfolding form.leb_read
last_byte zero true b rest k z h = rw (le-ltb 15 b (k refl), ne_eqb b 0 (z refl))
last_byte zero false b rest k z h = rw (le-ltb 15 b (k refl))
last_byte (suc l) true b rest k z h = rw (lt-leb 128 b h, ne_eqb b 0 (z refl))
last_byte (suc l) false b rest k z h = rw (lt-leb 128 b h)

more_bytes : (l : ℕ) (later : Bool) (b : ℕ) (rest : List ℕ) → 128 ≤ b → leb_read (suc l) later (b ∷ rest) ≡ onto (λ n. b % 128 + 128 * n) (leb_read l true rest)
unfolding form.leb_read
more_bytes l later b rest h = rw (le-leb 128 b h) refl

-- ---- the reader's loop: what is left of the bytes, scaled and added to the sum, answers as the whole does
pub record Reading (bytes : List ℕ) (sum scale left i : ℕ) : Type 0 where
  pub few : left + i ≡ 4
  pub scaled : scale * 128 ^ left ≡ 128 ^ 4
  pub below : sum < scale
  pub answers : leb_read 4 false bytes ≡ onto (λ n. sum + n * scale) (leb_read left (ltb 0 i) (drop i bytes))

onto_same : (f : ℕ → ℕ) → ((n : ℕ) → n ≡ f n) → (x : Read ℕ) → x ≡ onto f x
onto_same f e (value n rest) = ap (λ (m : ℕ). value m rest) (e n)
onto_same f e (refused q) = refl

onto-onto : (f g h : ℕ → ℕ) → ((n : ℕ) → f (g n) ≡ h n) → (x : Read ℕ) → onto f (onto g x) ≡ onto h x
onto-onto f g h e (value n rest) = ap (λ (m : ℕ). value m rest) (e n)
onto-onto f g h e (refused q) = refl

pub reading : (bytes : List ℕ) → Reading bytes 0 1 4 0
reading bytes = record {
  few = refl;
  scaled = refl;
  below = omega arith;
  answers = onto_same _ (λ n. omega arith) (leb_read 4 false bytes);
}

module _ {bytes : List ℕ} {sum scale left i : ℕ} (r : Reading bytes sum scale left i) where
  -- ---- the bytes end, or the next one refuses, ends the number or goes on
  pub bytes-end : length bytes ≤ i → leb_read 4 false bytes ≡ refused FIELD
  bytes-end h = rw (r.answers, drop_of_length-le bytes {i = i} h, no_byte left (ltb 0 i)) refl

  module _ (h : i < length bytes) where
    pub too-high : i ≡ 4 → 15 < get_or bytes i 0 → leb_read 4 false bytes ≡ refused LEB128
    too-high e k = let last : left ≡ 0 = omega (arith, r.few) in rw (r.answers, drop-cons bytes i 0 h, last, high_byte (ltb 0 i) (get_or bytes i 0) _ k) refl

    pub zero-last : 0 < i → get_or bytes i 0 ≡ 0 → leb_read 4 false bytes ≡ refused LEB128
    zero-last l e = rw (r.answers, drop-cons bytes i 0 h, e, lt-ltb 0 i l, zero-byte left _) refl

    module _ {x : ℕ} (e : x ≡ get_or bytes i 0 % 128) where
      pub number-ends : (i ≡ 4 → get_or bytes i 0 ≤ 15) → (0 < i → get_or bytes i 0 ≡ 0 → ⊥) → get_or bytes i 0 < 128 → leb_read 4 false bytes ≡ value (sum + x * scale) (drop (i + 1) bytes)
      number-ends fifth last k =
          let low : get_or bytes i 0 ≡ x = omega arith in
          let reads = last_byte left (ltb 0 i) (get_or bytes i 0) (drop (suc i) bytes) (λ z. fifth (omega (arith, r.few))) (λ l. last (ltb-true 0 i l)) k in
          rw (r.answers, drop-cons bytes i 0 h, reads, add-one, low) refl

      pub goes_on : {l : ℕ} → left ≡ suc l → 128 ≤ get_or bytes i 0 → Reading bytes (sum + x * scale) (scale * 128) l (i + 1)
      goes_on {l} s k = record {
        few = omega (arith, r.few);
        scaled = omega (arith, rw (s, pow-suc 128 l) at r.scaled);
        below = omega (arith, mul-le-mul_right {m = x} {n = 127} scale (omega arith), r.below);
        answers = rw (r.answers, drop-cons bytes i 0 h, s, more_bytes l (ltb 0 i) (get_or bytes i 0) (drop (suc i) bytes) k, add-one, lt-ltb 0 (suc i) (omega arith), e) (onto-onto _ _ _ (λ n. omega arith) (leb_read l true (drop (suc i) bytes)));
      }

-- ---- the bytes from a position on, and nothing past the row's end
module _ (row : List ℕ) (at : ℕ) {start : ℕ} (from : start ≡ min at (length row)) where
  abbrev bytes : List ℕ
  bytes = take (length row - start) (drop start row)

  whole : bytes ≡ drop start row
  whole = take_all (length row - start) (drop start row) (rw (length-drop start row) (omega arith))

  long : length bytes ≡ length row - start
  long = rw whole (length-drop start row)

  bytes-are : bytes ≡ drop at row
  bytes-are = whole ∙ elim (dec_lt (length row) at) [
    | yes h ↦ drop_of_length-le row {i = start} (omega (arith, from)) ∙ sym (drop_of_length-le row {i = at} (omega arith))
    | no h ↦ ap (λ (n : ℕ). drop n row) (omega (arith, from))
  ]

  pub refused-there : {q : ℕ} → leb_read 4 false bytes ≡ refused q → refuses q ≡ read_at leb128 row at
  refused-there e = sym (refuses-at row at leb128 (ap (leb_read 4 false) (sym bytes-are) ∙ e))

  pub taken-there : {n i : ℕ} → i < length bytes → leb_read 4 false bytes ≡ value n (drop (i + 1) bytes) → takes n (start + i + 1) ≡ read_at leb128 row at
  taken-there {n} {i} h e =
      let next : start + (i + 1) ≡ start + i + 1 = omega arith in
      let left : drop (i + 1) bytes ≡ drop (start + i + 1) row = ap (drop (i + 1)) whole ∙ drop-drop (i + 1) start row ∙ ap (λ (k : ℕ). drop k row) next in
      sym (takes_at row at leb128 (ap (leb_read 4 false) (sym bytes-are) ∙ e ∙ ap (value n) left) (omega (arith, h, long)))

-- ---- the writers' loops: P holds of what is left to print
pub record Printing (P : List ℕ → Type 0) (n : ℕ) : Type 0 where
  pub left : ℕ
  pub below : n < 16 * 128 ^ left
  pub holds : P (leb_print left n)

module _ {P : List ℕ → Type 0} {n : ℕ} where
  pub prints-more : {Q : List ℕ → Type 0} → Printing P n → 128 ≤ n → ((l : List ℕ) → P ((n % 128 + 128) ∷ l) → Q l) → Printing Q (n / 128)
  unfolding form.leb_print
  prints-more {Q} p h step = go p.left p.below p.holds
    where
      go : (left : ℕ) → n < 16 * 128 ^ left → P (leb_print left n) → Printing Q (n / 128)
      go zero b q = absurd (omega arith)
      go (suc l) b q = record { left = l; below = omega (arith, rw (pow-suc 128 l) at b); holds = step (leb_print l (n / 128)) (rw (le-ltb n 128 h) at q) }

  pub prints-last : Printing P n → n < 128 → P (n ∷ [])
  unfolding form.leb_print
  prints-last p h = go p.left p.holds
    where
      go : (left : ℕ) → P (leb_print left n) → P (n ∷ [])
      go zero q = q
      go (suc l) q = rw (lt-ltb n 128 h) at q

-- ---- at least one byte is printed, and at most one more than may follow the first
pub some-printed : (left n : ℕ) → 1 ≤ length (leb_print left n)
unfolding form.leb_print
some-printed zero n = omega arith
some-printed (suc l) n =
    elim (dec_lt n 128) [
      | yes h ↦ rw (lt-ltb n 128 h) (omega arith)
      | no h ↦ rw (le-ltb n 128 (omega arith)) (omega arith)
    ]

pub few-printed : (left n : ℕ) → length (leb_print left n) ≤ suc left
unfolding form.leb_print
few-printed zero n = omega arith
few-printed (suc l) n =
    elim (dec_lt n 128) [
      | yes h ↦ rw (lt-ltb n 128 h) (omega arith)
      | no h ↦ rw (le-ltb n 128 (omega arith)) (omega (arith, few-printed l (n / 128)))
    ]
