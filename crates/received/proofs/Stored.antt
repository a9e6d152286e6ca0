-- What `apply` leaves in the lent list: the ranges stored from the front on.
-- Assumes nothing.
use Prim.Native.Nat.{ℕ, zero, suc, ◌+◌, ◌-◌, ◌*◌, ◌≤◌, ◌<◌, min, max}
use mathlib.Core.List.{List, [], ◌∷◌, ◌++◌, append_assoc}
use mathlib.Core.Path.{◌≡◌, refl, sym, ap, ◌∙◌}
use native.Mathlib.Omega.{arith}
use lib.ListN.{length, take, drop, set, length-append, length-drop, length-replicate, take-append-drop}
use lib.Seq.{take-add, take_at, drop_at, drop-drop, length-take-le}
use Rattle.layout.specs.Veil.{zeros}
use Rattle.rows.specs.Values.{Range}
use Rattle.rows.proofs.Tests.{if-lt}
use Rattle.put.proofs.Put.{put_front}
use Rattle.numbers.specs.Ranges.{range}
use Rattle.received.specs.Change.{placed, applied}
use Rattle.received.specs.declared.Change.{Change}
use Rattle.std.specs.List.{copy_within}
use borrow.Author.Tests.{eq-eqb, ne_eqb}
use Rattle.received.specs.Lent.{pairs, flat, stored, Fitting}
use Rattle.received.proofs.Pairs.{length_pairs, length-flat, flat_append, flat-take, flat-drop, pairs-flat}

-- the list in three parts: the ranges, the freed places, and what stays
pub stored_is : (rs : List Range) (k : ℕ) (l : List ℕ) → 2 * k ≤ length l → 2 * length rs ≤ length l
    → stored rs k l ≡ flat rs ++ (zeros (2 * (k - length rs)) ++ drop (2 * max k (length rs)) l)
unfolding stored
stored_is rs k l h g =
    let n : length (flat rs ++ zeros (2 * (k - length rs))) ≡ 2 * max k (length rs) =
    length-append (flat rs) (zeros (2 * (k - length rs))) ∙ simp (length-flat, length-replicate) (omega arith) in
    put_front l (flat rs ++ zeros (2 * (k - length rs))) (omega arith) ∙ rw (n, append_assoc)

-- a list with these ranges stored in it holds them
pub pairs-stored : (rs : List Range) (k : ℕ) (l : List ℕ) → 2 * k ≤ length l → 2 * length rs ≤ length l → pairs (length rs) (stored rs k l) ≡ rs
pairs-stored rs k l h g = rw (stored_is rs k l h g) (pairs-flat rs (zeros (2 * (k - length rs)) ++ drop (2 * max k (length rs)) l))

-- the middle of a list
drop-take : (m n : ℕ) (l : List ℕ) → m ≤ n → n ≤ length l → drop m (take n l) ≡ take (n - m) (drop m l)
drop-take m n l h k =
    let e : n ≡ m + (n - m) = omega arith in
    ap (λ (x : ℕ). drop m (take x l)) e ∙ rw (take-add m (n - m) l) (drop_at (take m l) (take (n - m) (drop m l)) m (length-take-le m l (omega arith)))

-- the first numbers but two stay, and two follow
put_two : (i : ℕ) (l rest : List ℕ) (f t : ℕ) → suc (suc i) ≤ length l → set (set (take (suc (suc i)) l ++ rest) i f) (suc i) t ≡ take i l ++ (f ∷ t ∷ rest)
put_two i [] rest f t h = absurd (omega arith)
put_two i (x ∷ []) rest f t h = absurd (omega arith)
put_two zero (x ∷ y ∷ l) rest f t h = refl
put_two (suc i) (x ∷ y ∷ l) rest f t h = ap {B = List ℕ} (λ (r : List ℕ). x ∷ r) (put_two i (y ∷ l) rest f t (omega arith))

put_range : (p q r : ℕ) (l rest : List ℕ) (f t : ℕ) → q ≡ suc p → r ≡ suc q → r ≤ length l → set (set (take r l ++ rest) p f) q t ≡ take p l ++ (f ∷ t ∷ rest)
put_range p q r l rest f t e d h = rw (d, e) (put_two p l rest f t (omega arith))

-- ---- a change c carried out in the list l, which holds k ranges
module _ (l : List ℕ) (k : ℕ) (c : Change) (fit : Fitting l k c) where
  -- the ranges behind move to their places
  moved : (m : List ℕ) → m ≡ copy_within l (2 * k - 2 * c.after) (2 * k) (2 * c.before)
      → m ≡ take (2 * c.before) l ++ (flat (drop (k - c.after) (pairs k l)) ++ drop (2 * c.before + 2 * c.after) l)
  moved m e =
      let n : 2 * k - (2 * k - 2 * c.after) ≡ 2 * c.after = omega arith in
      let s : 2 * k - 2 * c.after ≡ 2 * (k - c.after) = omega arith in
      let w : 2 * k - 2 * (k - c.after) ≡ 2 * c.after = omega arith in
      let behind : flat (drop (k - c.after) (pairs k l)) ≡ take (2 * c.after) (drop (2 * (k - c.after)) l) =
      flat-drop k (k - c.after) l fit.lent ∙ drop-take (2 * (k - c.after)) (2 * k) l (omega arith) fit.lent ∙ rw w in
      e ∙ rw (n, s, behind, append_assoc)

  applied_none : c.before ≤ 0 → applied c (pairs k l) ≡ drop (k - c.after) (pairs k l)
  applied_none h = let z : c.before ≡ 0 = omega arith in rw (eq-eqb c.before 0 z, length_pairs k l fit.lent)

  applied_some : 0 < c.before → applied c (pairs k l) ≡ placed (c.before - 1) (k - c.after) c.from c.to (pairs k l)
  applied_some h = rw (ne_eqb c.before 0 (λ e. omega arith), length_pairs k l fit.lent)

  length-applied : 2 * length (applied c (pairs k l)) ≡ 2 * c.before + 2 * c.after
  length-applied =
      let n : length (drop (k - c.after) (pairs k l)) ≡ c.after = length-drop (k - c.after) (pairs k l) ∙ rw (length_pairs k l fit.lent) (omega (arith, fit.after)) in
      if-lt 0 c.before (λ _. 2 * length (applied c (pairs k l)) ≡ 2 * c.before + 2 * c.after)
      (λ h. let m : length (take (c.before - 1) (pairs k l)) ≡ c.before - 1 = length-take-le (c.before - 1) (pairs k l) (rw (length_pairs k l fit.lent) (omega arith)) in
      rw (applied_some h) (omega (arith, length-append (take (c.before - 1) (pairs k l)) (range c.from c.to ∷ drop (k - c.after) (pairs k l)), m, n)))
      (λ h. rw (applied_none h) (omega (arith, n)))

  -- ... and a range that joins none of 1..contiguous is put in front of them
  pub alone : (m : List ℕ) → m ≡ copy_within l (2 * k - 2 * c.after) (2 * k) (2 * c.before) → c.before ≤ 0
      → m ≡ flat (applied c (pairs k l)) ++ drop (2 * c.before + 2 * c.after) l
  alone m e h = let z : 2 * c.before ≡ 0 = omega arith in rw (applied_none h) (moved m e ∙ rw z)

  pub with_range : (m n : List ℕ) → m ≡ copy_within l (2 * k - 2 * c.after) (2 * k) (2 * c.before) → 0 < c.before → n ≡ set (set m (2 * c.before - 2) c.from) (2 * c.before - 1) c.to
      → n ≡ flat (applied c (pairs k l)) ++ drop (2 * c.before + 2 * c.after) l
  with_range m n e h q =
      let i : ℕ = c.before - 1 in
      let rest : List ℕ = flat (drop (k - c.after) (pairs k l)) ++ drop (2 * c.before + 2 * c.after) l in
      let at : 2 * c.before - 2 ≡ 2 * i = omega arith in
      let flat-placed : flat (placed i (k - c.after) c.from c.to (pairs k l)) ≡ take (2 * i) l ++ (c.from ∷ c.to ∷ flat (drop (k - c.after) (pairs k l))) =
      flat_append (take i (pairs k l)) (range c.from c.to ∷ drop (k - c.after) (pairs k l)) ∙ rw (flat-take k i l fit.lent (omega arith)) in
      q ∙ ap (λ (x : List ℕ). set (set x (2 * c.before - 2) c.from) (2 * c.before - 1) c.to) (moved m e)
      ∙ put_range (2 * c.before - 2) (2 * c.before - 1) (2 * c.before) l rest c.from c.to (omega arith) (omega arith) (omega (arith, fit.room))
      ∙ rw (applied_some h, flat-placed, append_assoc, at)

  -- ... and the places that are left over, if there are any, become 0
  pub settled : (m z : List ℕ) (e : ℕ) → m ≡ flat (applied c (pairs k l)) ++ drop (2 * c.before + 2 * c.after) l → e ≡ min (2 * k) (2 * c.before + 2 * c.after)
      → z ≡ zeros (length (take (2 * k - e) (drop e m))) → take e m ++ (z ++ drop (2 * k - e) (drop e m)) ≡ stored (applied c (pairs k l)) k l
  settled m z e is q p =
      let rs : List Range = applied c (pairs k l) in
      let left : ℕ = 2 * c.before + 2 * c.after in
      let n = length-applied in
      let long : length (flat rs) ≡ left = length-flat rs ∙ n in
      let parts = stored_is rs k l fit.lent (omega (arith, fit.room)) in
      rw p
      (if-lt left (2 * k) (λ _. take e m ++ (zeros (length (take (2 * k - e) (drop e m))) ++ drop (2 * k - e) (drop e m)) ≡ stored rs k l)
      (λ h. let here : e ≡ left = omega arith in
      let front : take left m ≡ flat rs = rw is (take_at (flat rs) (drop left l) left long) in
      let behind : drop left m ≡ drop left l = rw is (drop_at (flat rs) (drop left l) left long) in
      let some : length (take (2 * k - left) (drop left l)) ≡ 2 * (k - length rs) =
      length-take-le (2 * k - left) (drop left l) (rw (length-drop left l) (omega (arith, fit.lent))) ∙ omega arith in
      let all : left + (2 * k - left) ≡ 2 * max k (length rs) = omega arith in
      rw (here, front, behind, some, drop-drop, all) (sym parts))
      (λ h. let here : 2 * k - e ≡ 0 = omega arith in
      let none : 2 * (k - length rs) ≡ 0 = omega arith in
      let all : 2 * max k (length rs) ≡ left = omega arith in
      rw (here, take-append-drop) (is ∙ sym (parts ∙ rw (none, all)))))
