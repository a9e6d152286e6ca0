-- Laws of the UTF-8 definition, for its reader: the character at a position, byte by byte.
-- Assumes nothing.
use Prim.Native.Nat.{ℕ, zero, suc, ◌+◌, ◌-◌, ◌≤◌, ◌<◌}
use mathlib.Core.List.{List, [], ◌∷◌}
use mathlib.Core.Bool.{Bool, true, false, ◌&&◌}
use mathlib.Core.Option.{Option, some}
use mathlib.Core.Path.{◌≡◌, refl, sym, ap, ◌∙◌}
use native.Mathlib.Numerals.{add-one}
use native.Mathlib.Nat.{not-suc-le-zero}
use native.Mathlib.Omega.{arith}
use lib.ListN.{length, get_or, drop, replicate, length-drop, length-replicate, drop_of_length-le}
use lib.Seq.{drop-cons}
use Rattle.rows.specs.Utf8.{Limits, limits, is_in, tail, following, or_no, completes, utf8}
use Rattle.rows.specs.Utf8 as utf
use Rattle.utf8.specs.declared.Lead.{Lead}
use Rattle.utf8.specs.Lead.{lead_of, due, limits_of, Character}
use Rattle.utf8.proofs.Table.{table-laws, longest}

-- behind its last byte a name is whole
pub none_left : (name : List ℕ) (i : ℕ) → length name ≤ i → utf8 (drop i name) ≡ true
unfolding utf.completes
none_left name i h = rw (drop_of_length-le name {i = i} h)

-- bytes that are not there complete nothing
and-false : (t : Bool) → (t && false) ≡ false
and-false true = refl
and-false false = refl

too_short : (rs : List Limits) (bs : List ℕ) → length bs < length rs → completes rs bs ≡ false
unfolding utf.completes
too_short [] bs h = absurd (not-suc-le-zero h)
too_short (r ∷ rs) [] h = refl
too_short (r ∷ rs) (b ∷ bs) h = rw (too_short rs bs (omega arith)) (and-false (is_in r b))

none_here : {name : List ℕ} {at : ℕ} → at < length name → utf8 (drop at name) ≡ false → Character name at 0
none_here h e = record { inside = omega arith; whole = λ z. absurd (omega arith); missing = λ z. e }

-- ---- a character of two bytes or more, by the entry of its first byte
abbrev second : Lead → Limits
second l = limits l.lo l.hi

-- k bytes have passed, and these are due behind them
abbrev Due : (name : List ℕ) (at k : ℕ) → List Limits → Type 0
Due name at k rs = utf8 (drop at name) ≡ completes rs (drop (at + k) name)

-- all of them tails
abbrev pub Passed : (name : List ℕ) (at : ℕ) (l : Lead) (k : ℕ) → Type 0
Passed name at l k = Due name at k (replicate (l.len - k) tail)

module _ (name : List ℕ) (at : ℕ) (here : at < length name) (l : Lead) (entry : l ≡ lead_of (following (get_or name at 0))) where
  first : utf8 (drop at name) ≡ or_no (due l.len (second l)) (λ rs. completes rs (drop (at + 1) name))
  unfolding utf.completes
  first =
      rw (drop-cons name at 0 here, add-one)
      (ap (λ (o : Option (List Limits)). or_no o (λ rs. completes rs (drop (suc at) name))) (sym (table-laws.enough (get_or name at 0)) ∙ ap limits_of (sym entry)))

  -- no character starts so, or one of a single byte
  pub alone : l.len < 2 → Character name at l.len
  alone h = of_length l.len h first
    where
      of_length : (n : ℕ) → n < 2 → utf8 (drop at name) ≡ or_no (due n (second l)) (λ rs. completes rs (drop (at + 1) name)) → Character name at n
      of_length zero h e = none_here here e
      of_length (suc zero) h e = record { inside = omega arith; whole = λ z. e; missing = λ z. absurd (omega arith) }
      of_length (suc (suc n)) h e = absurd (omega arith)

  module _ (more : 2 ≤ l.len) where
    begins : Due name at 1 (second l ∷ replicate (l.len - 2) tail)
    begins = first ∙ ap (λ (o : Option (List Limits)). or_no o (λ rs. completes rs (drop (at + 1) name))) (of_length l.len more)
      where
        of_length : (n : ℕ) → 2 ≤ n → due n (second l) ≡ some (second l ∷ replicate (n - 2) tail)
        of_length zero h = absurd (omega arith)
        of_length (suc zero) h = absurd (omega arith)
        of_length (suc (suc n)) h = let e : suc (suc n) - 2 ≡ n = omega arith in rw e

    pub cut_off : length name - at < l.len → Character name at 0
    cut_off h = none_here here (begins ∙ too_short (second l ∷ replicate (l.len - 2) tail) (drop (at + 1) name) (rw (length-drop, length-replicate) (omega arith)))

-- the next byte that is due decides, and then those behind it
module _ (name : List ℕ) (at k : ℕ) (r : Limits) (rs : List Limits) (inside : at + k < length name) (next : Due name at k (r ∷ rs)) where
  decides : utf8 (drop at name) ≡ (is_in r (get_or name (at + k) 0) && completes rs (drop (at + (k + 1)) name))
  unfolding utf.completes
  decides = let e : suc (at + k) ≡ at + (k + 1) = omega arith in next ∙ rw (drop-cons name (at + k) 0 inside, ← e)

  byte-no : is_in r (get_or name (at + k) 0) ≡ false → Character name at 0
  byte-no e = none_here (omega arith) (decides ∙ ap (λ (t : Bool). t && completes rs (drop (at + (k + 1)) name)) e)

  byte-yes : is_in r (get_or name (at + k) 0) ≡ true → Due name at (k + 1) rs
  byte-yes e = decides ∙ ap (λ (t : Bool). t && completes rs (drop (at + (k + 1)) name)) e

-- what is known of a character whose bytes are all there
pub record Begun (name : List ℕ) (at : ℕ) (l : Lead) : Type 0 where
  pub entry : l ≡ lead_of (following (get_or name at 0))
  pub more : 2 ≤ l.len
  pub fits : at + l.len ≤ length name

module _ {name : List ℕ} {at : ℕ} {l : Lead} (b : Begun name at l) where
  pub four-at-most : l.len ≤ 4
  four-at-most = omega (arith, ap (λ (x : Lead). x.len) b.entry, longest (get_or name at 0))

  at_second : Due name at 1 (second l ∷ replicate (l.len - 2) tail)
  at_second = begins name at (omega (arith, b.more, b.fits)) l b.entry b.more

  pub second-no : is_in (second l) (get_or name (at + 1) 0) ≡ false → Character name at 0
  second-no = byte-no name at 1 (second l) (replicate (l.len - 2) tail) (omega (arith, b.more, b.fits)) at_second

  pub second-yes : is_in (second l) (get_or name (at + 1) 0) ≡ true → Passed name at l 2
  second-yes = byte-yes name at 1 (second l) (replicate (l.len - 2) tail) (omega (arith, b.more, b.fits)) at_second

  module _ (k : ℕ) (passed : Passed name at l k) where
    at_tail : k < l.len → Due name at k (tail ∷ replicate (l.len - (k + 1)) tail)
    at_tail short =
        let e : l.len - k ≡ suc (l.len - (k + 1)) = omega arith in
        passed ∙ ap (λ (n : ℕ). completes (replicate n tail) (drop (at + k) name)) e

    pub tail-no : k < l.len → is_in tail (get_or name (at + k) 0) ≡ false → Character name at 0
    tail-no short = byte-no name at k tail (replicate (l.len - (k + 1)) tail) (omega (arith, b.fits)) (at_tail short)

    pub tail-yes : k < l.len → is_in tail (get_or name (at + k) 0) ≡ true → Passed name at l (k + 1)
    tail-yes short = byte-yes name at k tail (replicate (l.len - (k + 1)) tail) (omega (arith, b.fits)) (at_tail short)

    pub spelled : l.len ≡ k → Character name at k
    spelled e = record {
      inside = omega (arith, b.fits);
      whole = λ z. passed ∙ ap (λ (n : ℕ). completes (replicate n tail) (drop (at + k) name)) none;
      missing = λ z. absurd (omega (arith, b.more));
    }
      where
        none : l.len - k ≡ 0
        none = omega arith
