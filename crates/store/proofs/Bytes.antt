-- Differing only in veiled bytes, byte by byte of the run.
-- Assumes nothing.
use Prim.Native.Nat.{ℕ, ◌+◌, ◌-◌}
use mathlib.Core.List.{List}
use mathlib.Core.Bool.{Bool, true, false, cond, ◌&&◌, not}
use mathlib.Core.Path.{◌≡◌, refl, sym, ap, ◌∙◌}
use native.Mathlib.Omega.{arith}
use lib.ListN.{length, get_or}
use lib.Dec.{leb, ltb, T, leb→le, ltb→lt, le→leb, lt→ltb}
use Rattle.store.specs.declared.Entry.{Entry}
use Rattle.store.specs.Store.{entry_at, within, part_of}
use Rattle.store.specs.Veiled.{veiled_in, VeilEqual, covers, veils, OpenAgree}
use Rattle.store.proofs.Tests.{truth, holds, false-not, not-false, both, pair}
use Rattle.store.proofs.Parts.{part-byte}

-- the last of three tests
last-false : (x t : Bool) → t ≡ false → T (not (x && t))
last-false true t e = false-not t e
last-false false t e = tt

false-last : (x y t : Bool) → T x → T y → T (not (x && y && t)) → t ≡ false
false-last true true t g h o = not-false t o
false-last true false t g h o = absurd h
false-last false y t g h o = absurd g

module _ (run run' : List ℕ) (long : length run ≡ length run') (e : Entry) where
  abbrev veiled : ℕ → Bool
  veiled q = get_or (veiled_in e (part_of run e)) q false

  -- a byte of the run that is open in the row stands in the row
  from_row : ((q : ℕ) → veiled q ≡ false → get_or (part_of run e) q 0 ≡ get_or (part_of run' e) q 0) → (p : ℕ) → T (within (length run) e) → T (covers e p) → T (not (veils run e p)) → get_or run p 0 ≡ get_or run' p 0
  from_row h p w c o =
      let s = both (leb e.start p) (ltb p (e.start + e.len)) c in
      let lo = leb→le e.start p s.0 in
      let hi = ltb→lt p (e.start + e.len) s.1 in
      let q = p - e.start in
      let x : e.start + q ≡ p = omega arith in
      let shut : veiled q ≡ false = false-last (within (length run) e) (covers e p) (veiled q) w c o in
      let i : ltb q e.len ≡ true = holds (ltb q e.len) (lt→ltb q e.len (omega arith)) in
      let a : get_or (part_of run e) q 0 ≡ get_or run p 0 = part-byte run e q ∙ rw (holds (within (length run) e) w, i, x) in
      let a' : get_or (part_of run' e) q 0 ≡ get_or run' p 0 = part-byte run' e q ∙ rw (← long, holds (within (length run) e) w, i, x) in
      sym a ∙ h q shut ∙ a'

  -- and the other way round
  to_row : ((p : ℕ) → T (within (length run) e) → T (covers e p) → T (not (veils run e p)) → get_or run p 0 ≡ get_or run' p 0) → (q : ℕ) → veiled q ≡ false → get_or (part_of run e) q 0 ≡ get_or (part_of run' e) q 0
  to_row h q shut = part-byte run e q ∙ rw (← long) (go (within (length run) e) (ltb q e.len) refl refl) ∙ sym (part-byte run' e q)
    where
      go : (t u : Bool) → within (length run) e ≡ t → ltb q e.len ≡ u → cond (t && u) (get_or run (e.start + q) 0) 0 ≡ cond (t && u) (get_or run' (e.start + q) 0) 0
      go true true w l =
          let p = e.start + q in
          let below = ltb→lt q e.len (truth (ltb q e.len) l) in
          let c : T (covers e p) = pair (leb e.start p) (ltb p (e.start + e.len)) (le→leb e.start p (omega arith)) (lt→ltb p (e.start + e.len) (omega arith)) in
          let x : p - e.start ≡ q = omega arith in
          h p (truth (within (length run) e) w) c (last-false (within (length run) e && covers e p) (veiled (p - e.start)) (ap veiled x ∙ shut))
      go true false w l = refl
      go false u w l = refl

module _ (run run' : List ℕ) (es : List Entry) where
  pub equal-agree : VeilEqual run run' es → OpenAgree run run' es
  equal-agree v = record { long = v.long; each = λ i p b. from_row run run' v.long (entry_at es i) (v.each i b) p }

  pub agree-equal : OpenAgree run run' es → VeilEqual run run' es
  agree-equal o = record { long = o.long; each = λ i b. to_row run run' o.long (entry_at es i) (λ p. o.each i p b) }
