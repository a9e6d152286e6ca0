-- The laws of `put`, and how writers that stand one behind the other, or in a loop, are composed.
-- Assumes nothing.
use Prim.Native.Nat.{ℕ, zero, suc, ◌+◌, ◌-◌, ◌/◌, ◌%◌, ◌≤◌, ◌<◌}
use mathlib.Core.List.{List, [], ◌∷◌, ◌++◌}
use mathlib.Core.Path.{◌≡◌, refl, sym, ◌∙◌}
use native.Mathlib.Nat.{add-zero, zero-add, add-suc, suc-add, sub-zero, zero-sub, suc-sub-suc}
use native.Mathlib.Numerals.{add-one}
use native.Mathlib.Omega.{arith}
use lib.ListN.{length, get_or, set, take, drop, length-append, length-set, length-drop, drop_of_length-le, length-replicate}
use lib.Seq.{length-take-le, take_all, drop-cons, sets, sets-eq, set_comm}
use borrow.Rule.Slice.PartMut.{put_mid}
use Rattle.std.proofs.lemmas.Slice.{put_mid-paste}
use Rattle.layout.specs.Form as form
use Rattle.layout.specs.Form.{bytes_of}
use Rattle.layout.proofs.Front.{length-bytes_of}
use Rattle.layout.specs.Veil.{zeros}
use Rattle.put.specs.Put.{put, Wrote}

-- ---- put
pub length-put : (l : List ℕ) (at : ℕ) (bs : List ℕ) → length (put l at bs) ≡ length l
unfolding put
length-put l at [] = refl
length-put l at (b ∷ bs) = length-put (set l at b) _ bs ∙ length-set l at b

-- two runs one behind the other are one run
pub put-append : (l : List ℕ) (at : ℕ) (a b : List ℕ) → put l at (a ++ b) ≡ put (put l at a) (at + length a) b
unfolding put
put-append l at [] b = rw add-zero
put-append l at (x ∷ a) b = rw (add-suc, ← suc-add) (put-append (set l at x) (suc at) a b)

-- the library has it by another name
put-sets : (l : List ℕ) (at : ℕ) (bs : List ℕ) → put l at bs ≡ sets l at bs
unfolding put
put-sets l at [] = refl
put-sets l at (b ∷ bs) = put-sets (set l at b) (suc at) bs

-- a run for which there is room stands between what was before it and what was behind it
pub put-eq : (l : List ℕ) (at : ℕ) (bs : List ℕ) → at + length bs ≤ length l → put l at bs ≡ take at l ++ bs ++ drop (at + length bs) l
put-eq l at bs h = put-sets l at bs ∙ sets-eq bs l at h

-- a run at the front
pub put_front : (l bs : List ℕ) → length bs ≤ length l → put l 0 bs ≡ bs ++ drop (length bs) l
put_front l bs h = put-eq l 0 bs (rw zero-add h) ∙ rw zero-add

-- a run stored into zeros from the front on: zeros are left behind it
drop-zeros : (n size : ℕ) → drop n (zeros size) ≡ zeros (size - n)
drop-zeros zero size = rw sub-zero
drop-zeros (suc n) zero = rw zero-sub
drop-zeros (suc n) (suc size) = drop-zeros n size ∙ rw suc-sub-suc

pub put-zeros : (size : ℕ) (bs : List ℕ) → length bs ≤ size → put (zeros size) 0 bs ≡ bs ++ zeros (size - length bs)
put-zeros size bs h = put_front (zeros size) bs (rw length-replicate h) ∙ rw drop-zeros

-- a run, and a store behind it, in either order
pub put-set : (l : List ℕ) (at : ℕ) (bs : List ℕ) (i v : ℕ) → at + length bs ≤ i → put (set l i v) at bs ≡ set (put l at bs) i v
unfolding put
put-set l at [] i v h = refl
put-set l at (b ∷ bs) i v h = rw (set_comm l i at v b (λ e. omega arith)) (put-set (set l at b) (suc at) bs i v (omega arith))

-- a turn of a loop that stores a number, its last byte first
pub number-turn : (l : List ℕ) (at i x : ℕ) → 0 < i → put (set l (at + (i - 1)) (x % 256)) at (bytes_of (i - 1) (x / 256)) ≡ put l at (bytes_of i x)
unfolding form.bytes_of put
number-turn l at zero x h = absurd (omega arith)
number-turn l at (suc i) x h =
    let e : suc i - 1 ≡ i = omega arith in
    let n : length (bytes_of i (x / 256)) ≡ i = length-bytes_of i (x / 256) in
    rw (e, put-set l at (bytes_of i (x / 256)) (at + i) (x % 256) (omega arith), put-append, n)

-- ---- one writer behind another
pub wrote_none : (l : List ℕ) (at : ℕ) → Wrote l at [] l at
unfolding put
wrote_none l at = record { now-is = refl; next-is = sym (add-zero at) }

pub wrote-long : {l m bs : List ℕ} {at p : ℕ} → Wrote l at bs m p → length m ≡ length l
wrote-long {l} {m} {bs} {at} w = rw w.now-is (length-put l at bs)

pub wrote-byte : (l : List ℕ) (at b : ℕ) → Wrote l at (b ∷ []) (set l at b) (at + 1)
unfolding put
wrote-byte l at b = record { now-is = refl; next-is = refl }

infixl 20 ◌then◌
pub ◌then◌ : {l m n a b : List ℕ} {at p q : ℕ} → Wrote l at a m p → Wrote m p b n q → Wrote l at (a ++ b) n q
◌then◌ f g = record { now-is = rw put-append (cc); next-is = rw length-append (omega arith) }

-- ---- on the way: what is left, written from p on into the buffer as it is, m, gives what is to be: bs written from at on into l.
pub record Writing (l : List ℕ) (at : ℕ) (bs m : List ℕ) (p : ℕ) (left : List ℕ) : Type 0 where
  pub to-come : put m p left ≡ put l at bs
  pub room : p + length left ≡ at + length bs
  pub same : length m ≡ length l

pub writing_start : (l : List ℕ) (at : ℕ) (bs : List ℕ) → Writing l at bs l at bs
writing_start l at bs = record { to-come = refl; room = refl; same = refl }

pub writing_step : {l m n bs b : List ℕ} (a : List ℕ) {at p q : ℕ} → Writing l at bs m p (a ++ b) → Wrote m p a n q → Writing l at bs n q b
writing_step {b = b} a w s = record {
  to-come = rw (s.now-is, s.next-is, ← put-append) w.to-come;
  room = omega (arith, length-append a b);
  same = rw (s.now-is, length-put) w.same;
}

pub writing-done : {l m bs : List ℕ} {at p : ℕ} → Writing l at bs m p [] → Wrote l at bs m p
unfolding put
writing-done w = record { now-is = w.to-come; next-is = omega arith }

-- ---- a loop that stores bs byte by byte: where it begins, a turn of it, and where it ends
module _ (l : List ℕ) (at : ℕ) (bs : List ℕ) where
  pub bytes-start : Writing l at bs l (at + 0) (drop 0 bs)
  bytes-start = rw add-zero (writing_start l at bs)

  pub bytes-turn : {m : List ℕ} {b : ℕ} (i : ℕ) → i < length bs → get_or bs i 0 ≡ b → Writing l at bs m (at + i) (drop i bs)
      → Writing l at bs (set m (at + i) b) (at + (i + 1)) (drop (i + 1) bs)
  bytes-turn {m} {b} i h e w =
      let d : drop i bs ≡ b ∷ drop (i + 1) bs = rw (add-one, drop-cons bs i 0, e) in
      let n : at + (i + 1) ≡ at + i + 1 = omega arith in
      rw n (writing_step (b ∷ []) (rw d at w) (wrote-byte m (at + i) b))

  pub bytes-end : {m : List ℕ} (i : ℕ) → length bs ≡ i → Writing l at bs m (at + i) (drop i bs) → Wrote l at bs m (at + i)
  bytes-end i e w = writing-done (rw (drop_of_length-le bs {i = i} (omega arith)) at w)

-- ---- a copy into the part of the buffer from at on, which n bytes fill
pub wrote_part : (l ys bs : List ℕ) (at n : ℕ) → at + n ≤ length l → length bs ≡ n → ys ≡ bs → Wrote l at bs (put_mid at (at + n - at) l ys) (at + n)
wrote_part l ys bs at n room long e = record {
  now-is = put_mid-paste at (at + n - at) l ys bs n e (omega arith) (sym long) ∙ rw (take_all n bs (omega arith), ← long) (sym (put-eq l at bs (omega arith)));
  next-is = rw long;
}

-- ---- a run of n bytes of s
module _ (s : List ℕ) (from n : ℕ) where
  pub length_run : from + n ≤ length s → length (take n (drop from s)) ≡ n
  length_run h = length-take-le n (drop from s) (simp length-drop (omega arith))

-- a run of all the bytes
pub whole_run : {l s m : List ℕ} {at p : ℕ} (n : ℕ) → length s ≡ n → Wrote l at (take n (drop 0 s)) m p → Wrote l at s m p
whole_run {s = s} n e w = rw (take_all n s (omega arith)) at w

-- ---- an array of zeros into which a run of n bytes was stored, from its front on
pub filled : (size n from : ℕ) (src : List ℕ) {m : List ℕ} {p : ℕ} → n ≤ size → from + n ≤ length src → Wrote (zeros size) 0 (take n (drop from src)) m p
    → m ≡ take n (drop from src) ++ zeros (size - n)
filled size n from src few inside w =
    let long = length_run src from n inside in
    w.now-is ∙ put-zeros size (take n (drop from src)) (omega arith) ∙ rw long
