-- An entry's part of the run: its length, its bytes.
-- Assumes nothing.
use Prim.Native.Nat.{ℕ, zero, suc, ◌+◌, ◌≤◌, ◌<◌}
use mathlib.Core.List.{List, [], ◌∷◌}
use mathlib.Core.Bool.{Bool, true, false, cond, ◌&&◌}
use mathlib.Core.Path.{◌≡◌, refl, ap, ◌∙◌}
use native.Mathlib.Omega.{arith}
use lib.ListN.{length, get_or, take, drop, length-take, length-drop}
use lib.Dec.{ltb, lit<, ltb→lt, nltb→le}
use lib.Seq.{get_or-take, get_or-drop}
use Rattle.layout.specs.RowLaws.{Bytes}
use Rattle.store.specs.declared.Entry.{Entry}
use Rattle.store.specs.Store.{within, part_of}
use Rattle.store.proofs.Tests.{truth, false-not}

pub part-long : (run run' : List ℕ) (e : Entry) → length run ≡ length run' → length (part_of run e) ≡ length (part_of run' e)
part-long run run' e h = ap (λ (n : ℕ). length (cond (within n e) (take e.len (drop e.start run)) [])) h ∙ go (within (length run') e)
  where
    go : (t : Bool) → length (cond t (take e.len (drop e.start run)) []) ≡ length (cond t (take e.len (drop e.start run')) [])
    go true = rw (length-take e.len (drop e.start run), length-take e.len (drop e.start run'), length-drop e.start run, length-drop e.start run', h)
    go false = refl

take_past : (n : ℕ) (bs : List ℕ) (q : ℕ) → n ≤ q → get_or (take n bs) q 0 ≡ 0
take_past zero bs q h = refl
take_past (suc n) [] q h = refl
take_past (suc n) (b ∷ bs) zero h = absurd (omega arith)
take_past (suc n) (b ∷ bs) (suc q) h = take_past n bs q (omega arith)

-- byte q of the part, if it has one, is a byte of the run
pub part-byte : (run : List ℕ) (e : Entry) (q : ℕ) → get_or (part_of run e) q 0 ≡ cond (within (length run) e && ltb q e.len) (get_or run (e.start + q) 0) 0
part-byte run e q = go (within (length run) e) (ltb q e.len) refl
  where
    go : (t u : Bool) → ltb q e.len ≡ u → get_or (cond t (take e.len (drop e.start run)) []) q 0 ≡ cond (t && u) (get_or run (e.start + q) 0) 0
    go true true h = get_or-take e.len (drop e.start run) q 0 (ltb→lt q e.len (truth (ltb q e.len) h)) ∙ get_or-drop e.start run q 0
    go true false h = take_past e.len (drop e.start run) q (nltb→le q e.len (false-not (ltb q e.len) h))
    go false u h = refl

pub bytes-part : (run : List ℕ) → Bytes run → (e : Entry) → Bytes (part_of run e)
bytes-part run by e q = rw (part-byte run e q) (go (within (length run) e && ltb q e.len))
  where
    go : (t : Bool) → cond t (get_or run (e.start + q) 0) 0 < 256
    go true = by (e.start + q)
    go false = lit< tt
