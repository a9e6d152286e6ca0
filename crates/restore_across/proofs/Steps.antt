-- One more turn at the end of the round, and what holds while every answer so far was yes.
-- Assumes nothing.
use Prim.Native.Nat.{ℕ, zero, suc, ◌+◌, ◌<◌}
use mathlib.Core.List.{List, [], ◌∷◌}
use mathlib.Core.Bool.{◌&&◌}
use mathlib.Core.Option.{none}
use mathlib.Core.Path.{◌≡◌, refl, sym, ap, subst}
use native.Mathlib.Omega.{arith}
use lib.ListN.{length}
use lib.Dec.{leb, leb→le, eqb→eq}
use Rattle.layout.specs.Questions.{ORDER}
use Rattle.layout.specs.Layout.{read_row}
use Rattle.store.specs.declared.Entry.{Entry}
use Rattle.store.specs.Omitted.{Omitted, is_omitted, read_omitted}
use Rattle.store.specs.Rounds.{Asked, ask, Round, turn, turns, Quiet}
use Rattle.store.specs.Rounds as so
use Rattle.store.specs.Kinds.{DEVICE, CONTACT, COURIER, kind_of, layout_of, refusal_in}
use Rattle.store.specs.Store.{entry_at, part_of, store_of, in_order, order, bounds, begun}
use Rattle.store.proofs.Rounds.{rounds-going, rounds-quiet}
use Rattle.store.proofs.Tests.{both, all_yes}
use Rattle.store.proofs.Duplicates.{across_by}
use Rattle.restore_across.specs.Owner.{Known}
use Rattle.restore_across.specs.At.{read_so, sight}

-- ---- one more turn, the m-th
pub turns-last : (r : Round) (i n m : ℕ) (a : Asked) → i + n ≡ m → turns r i (suc n) a ≡ turn (r m) m (turns r i n a)
turns-last r i zero m a h = let x : i ≡ m = omega arith in ap (λ (j : ℕ). turn (r j) j a) x
turns-last r i (suc n) m a h = turns-last r (suc i) n m (turn (r i) i a) (omega arith)

-- ---- going on means that all so far were yes
module _ (run : List ℕ) (es : List Entry) (omitted : Omitted) (going : read_so run es omitted ≡ so.Going) where
  in_order_lem : Quiet (order (store_of run es)) 0 (length es)
  in_order_lem =
      let s = store_of run es in
      let rs = order s ∷ bounds s ∷ read_omitted run es (is_omitted omitted) ∷ [] in
      (rounds-quiet rs (length es) (begun s) going).0

  pub device-first : (i : ℕ) → i < length es → (entry_at es i).kind ≡ DEVICE → i ≡ 0
  device-first zero b h = refl
  device-first (suc i) b h =
      let k = (entry_at es (suc i)).kind in
      let t = (all_yes (ask ORDER (in_order es (suc i)) ∷ []) (in_order_lem (suc i) (omega arith) b)).0 in
      let r = both (leb CONTACT k) (leb k COURIER) (both (leb CONTACT k && leb k COURIER) (leb (entry_at es i).kind k) t).0 in
      absurd (omega (arith, leb→le CONTACT k r.0, h))

-- a contact's row was accepted
pub contact-known : (run : List ℕ) (es : List Entry) (omitted : Omitted) → read_so run es omitted ≡ so.Going → (p : ℕ) → p < length es → (entry_at es p).kind ≡ CONTACT → Known run omitted (entry_at es p)
contact-known run es omitted going p b is there =
    let s = store_of run es in
    let c = entry_at es p in
    let rs = order s ∷ bounds s ∷ read_omitted run es (is_omitted omitted) ∷ [] in
    let quiet = (rounds-quiet rs (length es) (begun s) going).1.1.0 p (omega arith) b in
    subst (λ (k : ℕ). refusal_in (read_row (layout_of (kind_of k) c.version) (part_of run c)) ≡ none) is (rw there at quiet)

pub first-device : (run : List ℕ) (es : List Entry) (omitted : Omitted) → read_so run es omitted ≡ so.Going → (entry_at es 0).kind ≡ DEVICE
first-device run [] omitted g = refl
first-device run (e ∷ es) omitted g = eqb→eq e.kind DEVICE (all_yes (ask ORDER (in_order (e ∷ es) 0) ∷ []) (in_order_lem run (e ∷ es) omitted g 0 (omega arith) (omega arith))).0

-- before the i-th turn, where every answer so far was yes
pub record SoFar (run : List ℕ) (es : List Entry) (omitted : Omitted) (i : ℕ) : Type 0 where
  pub read : read_so run es omitted ≡ so.Going
  pub quiet : Quiet (across_by es (sight run es omitted)) 0 i

pub so_far : (run : List ℕ) (es : List Entry) (omitted : Omitted) (i : ℕ) → so.Going ≡ turns (across_by es (sight run es omitted)) 0 i (read_so run es omitted) → SoFar run es omitted i
so_far run es omitted i h =
    let across = across_by es (sight run es omitted) in
    let g : read_so run es omitted ≡ so.Going = rounds-going (across ∷ []) i (read_so run es omitted) (sym h) in
    let q = rounds-quiet (across ∷ []) i (read_so run es omitted) (sym h) in
    record { read = g; quiet = q.0 }
