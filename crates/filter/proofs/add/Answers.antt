-- `filter::add` meets its contract.
use Rattle.std.proofs.Common.{◌≡◌, ℕ, ◌<◌, true, eqb, List, ◌∷◌, length, set, refl, arith, []}
use lib.Bits.{bit_or}
use lib.Dec.{eqb-suc-zero}
use Rattle.filter.specs.Filter.{mask_of, index_of, word_of, is_set, added}
use Rattle.filter.proofs.Filter.{index-inside}
use Rattle.filter.proofs.add.Goals as goal

-- there are no words
empty : (bits : List ℕ) (h : ℕ) → length bits ≡ 0 → (true ≡ is_set bits h) × (bits ≡ added bits h)
empty [] h none = (refl, refl)
empty (x ∷ bits) h none = absurd (omega arith)

now-added : (bits : List ℕ) (h m : ℕ) → 0 < length bits → m ≡ mask_of h → (eqb (bit_or (word_of bits h) m) (word_of bits h) ≡ is_set bits h) × (set bits (index_of (length bits) h) (bit_or (word_of bits h) m) ≡ added bits h)
now-added [] h m some is = absurd (omega arith)
now-added (x ∷ bits) h m some is = rw (is, eqb-suc-zero (length bits)) (refl, refl)

pub returns-then-n-eq0 : goal.returns-then-n-eq0
returns-then-n-eq0 c = empty c.args.bits.now c.args.h c.if-n-eq0.true

pub offset_bounds-bits-at : goal.offset_bounds-bits-at
offset_bounds-bits-at c = omega (arith, index-inside (length c.args.bits.now) c.args.h (omega arith))

pub bounds-bits-at : goal.bounds-bits-at
bounds-bits-at c = let a = c.args in index-inside (length a.bits.now) a.h (omega arith)

pub offset_bounds-bits-at-2 : goal.offset_bounds-bits-at-2
offset_bounds-bits-at-2 c = let a = c.args in omega (arith, index-inside (length a.bits.now) a.h (omega arith))

pub bounds-bits-at-2 : goal.bounds-bits-at-2
bounds-bits-at-2 c = let a = c.args in index-inside (length a.bits.now) a.h (omega arith)

pub returns : goal.returns
returns c = let a = c.args in now-added a.bits.now a.h c.mask_of.result (omega arith) c.mask_of.ensures
