-- What pairs of digits do to the state, many at a time: the bytes go to the run as far as there is room, and all of them count.
-- Assumes nothing.
use Prim.Native.Nat.{ℕ, zero, suc, ◌+◌, ◌-◌, ◌*◌, ◌/◌, ◌%◌, ◌≤◌, ◌<◌}
use mathlib.Core.List.{List, [], ◌∷◌}
use mathlib.Core.Bool.{Bool, true, false, cond}
use mathlib.Core.Path.{◌≡◌, refl, ap, sym, ◌∙◌}
use native.Mathlib.Omega.{arith}
use lib.ListN.{length, set, take, drop, take-append-drop, length-drop}
use lib.Seq.{take_all}
use lib.Dec.{ltb, eqb}
use borrow.Author.Tests.{lt-ltb, le-ltb, ne_eqb}
use Rattle.numbers.specs.Decimal.{LF, COMMA}
use Rattle.rows.specs.Checks.{all}
use Rattle.rows.proofs.Tests.{and_both}
use Rattle.put.specs.Put as storing
use Rattle.put.specs.Put.{put}
use Rattle.ascii.specs.Hex as hex
use Rattle.ascii.specs.Hex.{is_hex, hex_value, unpaired}
use Rattle.ascii.proofs.Blobs.{hex-small, hex-above, length-unpaired, unpaired-take}
use Rattle.sheet.specs.declared.State.{State}
use Rattle.sheet.specs.Sheet.{BLOB_BYTES}
use Rattle.sheet.specs.Machine as machine
use Rattle.sheet.specs.Machine.{HIGH, state, room_for, bytes_in, used_one, stored_one, stored_to, Held, held, stepped, fed}
use Rattle.sheet.proofs.Fields.{fed-append, used_all, run_all, stored-long, fits-used, fits-run}

no-mark : (d mark : ℕ) → is_hex d ≡ true → mark < 0x30 → eqb d mark ≡ false
no-mark d mark h low = ne_eqb d mark (λ e. absurd (omega (arith, e, hex-above d h)))

-- one pair
pair : (s : State) (run records : List ℕ) → s.phase ≡ HIGH → (d e : ℕ) → is_hex d ≡ true → is_hex e ≡ true
    → stepped e (stepped d (held s run records)) ≡ held (stored_to (used_one (bytes_in run) s.used) s) (stored_one (bytes_in run) s.used (hex_value d * 16 + hex_value e) run) records
unfolding machine.stepped machine.high_step machine.low_step machine.low_run
pair s run records at d e hd he =
    let small : hex_value d % 16 ≡ hex_value d = omega (arith, hex-small d hd) in
    rw (at, no-mark d LF hd (omega arith), no-mark d COMMA hd (omega arith), hd, no-mark e LF he (omega arith), no-mark e COMMA he (omega arith), he, small)

-- what stands after pairs that say these bytes
abbrev pub after_pairs : (bytes : List ℕ) → State → (run records : List ℕ) → Held
after_pairs vs s run records = held (stored_to (used_all (bytes_in run) s.used vs) s) (run_all (bytes_in run) s.used vs run) records

-- a pair, and those behind it
first-pair : (f : List ℕ) (s : State) (run records : List ℕ) → s.phase ≡ HIGH → (d e : ℕ) → is_hex d ≡ true → is_hex e ≡ true
    → ((t : State) (r : List ℕ) → t.phase ≡ HIGH → t.digit ≡ 0 → fed f (held t r records) ≡ after_pairs (unpaired f) t r records)
    → fed (d ∷ e ∷ f) (held s run records) ≡ after_pairs (unpaired (d ∷ e ∷ f)) s run records
unfolding machine.fed hex.unpaired used_all run_all
first-pair f s run records at d e hd he later =
    let v = hex_value d * 16 + hex_value e in
    let room : bytes_in (stored_one (bytes_in run) s.used v run) ≡ bytes_in run = ap (room_for BLOB_BYTES) (stored-long (bytes_in run) s.used v run) in
    ap (fed f) (pair s run records at d e hd he) ∙ later (stored_to (used_one (bytes_in run) s.used) s) (stored_one (bytes_in run) s.used v run) refl refl ∙ rw room

-- between pairs no digit is kept
between : (f : List ℕ) → all is_hex f ≡ true → length f % 2 ≡ 0 → (s : State) (run records : List ℕ) → s.phase ≡ HIGH → s.digit ≡ 0 → fed f (held s run records) ≡ after_pairs (unpaired f) s run records
unfolding machine.fed hex.unpaired used_all run_all
between [] h even s run records at none = λ i.
    held (state s.oldest s.older s.newest s.number s.lines s.start s.used s.kind s.left (none i) s.refusal (at i)) run records
between (d ∷ []) h even s run records at none = absurd (omega arith)
between (d ∷ e ∷ f) h even s run records at none =
    let hd = and_both (is_hex d) (all is_hex (e ∷ f)) h in
    let he = and_both (is_hex e) (all is_hex f) hd.1 in
    first-pair f s run records at d e hd.0 he.0 (λ t r. between f he.1 (omega arith) t r records)

-- ... and of a state that keeps one, the first pair drops it
pub pairs : (f : List ℕ) → 0 < length f → all is_hex f ≡ true → length f % 2 ≡ 0 → (s : State) (run records : List ℕ) → s.phase ≡ HIGH
    → fed f (held s run records) ≡ after_pairs (unpaired f) s run records
pairs [] some h even s run records at = absurd (omega arith)
pairs (d ∷ []) some h even s run records at = absurd (omega arith)
pairs (d ∷ e ∷ f) some h even s run records at =
    let hd = and_both (is_hex d) (all is_hex (e ∷ f)) h in
    let he = and_both (is_hex e) (all is_hex f) hd.1 in
    first-pair f s run records at d e hd.0 he.0 (λ t r. between f he.1 (omega arith) t r records)

-- ---- many bytes stored at once: as far as there is room, and one more than there is room for stands for any more
pub over-all : (room u : ℕ) (vs : List ℕ) → 0 < length vs → room < u + length vs → used_all room u vs ≡ room + 1
unfolding used_all
over-all room u [] some over = absurd (omega arith)
over-all room u (v ∷ []) some over = rw (le-ltb u room (omega arith))
over-all room u (v ∷ w ∷ vs) some over = go (ltb u room) (over-all room (u + 1) (w ∷ vs) (omega arith) (omega arith)) (over-all room (room + 1) (w ∷ vs) (omega arith) (omega arith))
  where
    go : (t : Bool) → used_all room (u + 1) (w ∷ vs) ≡ room + 1 → used_all room (room + 1) (w ∷ vs) ≡ room + 1 → used_all room (cond t (u + 1) (room + 1)) (w ∷ vs) ≡ room + 1
    go true p q = p
    go false p q = q

none-stored : (room u : ℕ) (vs run : List ℕ) → room ≤ u → run_all room u vs run ≡ run
unfolding run_all
none-stored room u [] run h = refl
none-stored room u (v ∷ vs) run h = rw (le-ltb u room h) (none-stored room (room + 1) vs run (omega arith))

pub first-stored : (room u k : ℕ) (vs run : List ℕ) → k ≡ room - u → run_all room u vs run ≡ put run u (take k vs)
unfolding run_all storing.put
first-stored room u zero vs run e = none-stored room u vs run (omega arith)
first-stored room u (suc k) [] run e = refl
first-stored room u (suc k) (v ∷ vs) run e =
    let next : u + 1 ≡ suc u = omega arith in
    rw (lt-ltb u room (omega arith), next) (first-stored room (suc u) k vs (set run u v) (omega arith))

-- ---- pairs taken at once: what one by one leaves
abbrev used_now : (used : ℕ) → State → State
used_now u s = state s.oldest s.older s.newest s.number s.lines s.start u s.kind s.left 0 s.refusal s.phase

module _ (s : State) (f run : List ℕ) (at : s.phase ≡ HIGH) (some : 0 < length f) (even : length f % 2 ≡ 0) (digits : all is_hex f ≡ true) where
  leaves : (u : ℕ) (run' : List ℕ) → used_all (bytes_in run) s.used (unpaired f) ≡ u → run_all (bytes_in run) s.used (unpaired f) run ≡ run'
      → (records : List ℕ) → held (used_now u s) run' records ≡ fed f (held s run records)
  leaves u run' used stored records =
      (λ i. held (state s.oldest s.older s.newest s.number s.lines s.start (sym used i) s.kind s.left 0 s.refusal (at i)) (sym stored i) records)
      ∙ sym (pairs f some digits even s run records at)

  pub all_fit : (run' : List ℕ) → run' ≡ put run s.used (unpaired f) → s.used + length f / 2 ≤ bytes_in run
      → (records : List ℕ) → held (used_now (s.used + length f / 2) s) run' records ≡ fed f (held s run records)
  all_fit run' stored fits =
      let long = length-unpaired f in
      leaves (s.used + length f / 2) run' (fits-used (bytes_in run) s.used (unpaired f) (omega arith) ∙ ap (λ (n : ℕ). s.used + n) long)
      (fits-run (bytes_in run) s.used (unpaired f) run (omega arith) ∙ sym stored)

  pub some_fit : (k : ℕ) (run' : List ℕ) → k ≡ bytes_in run - s.used → run' ≡ put run s.used (unpaired (take (2 * k) f)) → bytes_in run < s.used + length f / 2
      → (records : List ℕ) → held (used_now (bytes_in run + 1) s) run' records ≡ fed f (held s run records)
  some_fit k run' room stored over =
      let long = length-unpaired f in
      leaves (bytes_in run + 1) run' (over-all (bytes_in run) s.used (unpaired f) (omega arith) (omega arith))
      (first-stored (bytes_in run) s.used k (unpaired f) run room ∙ ap (put run s.used) (sym (unpaired-take k f)) ∙ sym stored)

  pub none-fit : bytes_in run ≤ s.used → (records : List ℕ) → held (used_now (bytes_in run + 1) s) run records ≡ fed f (held s run records)
  unfolding storing.put hex.unpaired
  none-fit full = some_fit 0 run (omega arith) refl (omega arith)

-- ---- the first of the bytes to come, and then the others
fed-split : (k : ℕ) (l : List ℕ) (h : Held) → fed (drop k l) (fed (take k l) h) ≡ fed l h
fed-split k l h = sym (fed-append (take k l) (drop k l) h) ∙ ap (λ (x : List ℕ). fed x h) (take-append-drop k l)

pub fed-behind : (k : ℕ) (l : List ℕ) (h after all : Held) → after ≡ fed (take k l) h → fed l h ≡ all → fed (take (length l - k) (drop k l)) after ≡ all
fed-behind k l h after all first whole =
    rw (take_all (length l - k) (drop k l) (simp length-drop (omega arith)), first) (fed-split k l h ∙ whole)
