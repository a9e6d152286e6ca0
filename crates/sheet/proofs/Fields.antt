-- What the bytes of one field do to the state: of a decimal, of a blob, of a line that is refused already.
-- Assumes nothing.
use Prim.Native.Nat.{ℕ, suc, ◌+◌, ◌-◌, ◌*◌, ◌%◌, ◌≤◌, ◌<◌}
use mathlib.Core.List.{List, [], ◌∷◌, ◌++◌}
use mathlib.Core.Bool.{Bool, true, false, cond, ◌&&◌, not}
use mathlib.Core.Option.{Option, none, some}
use mathlib.Core.Path.{◌≡◌, refl, ap, ◌∙◌}
use native.Mathlib.Omega.{arith}
use lib.ListN.{length, set, length-set}
use lib.Dec.{leb, ltb, eqb, eqb-suc-zero}
use borrow.Author.Tests.{lt-ltb}
use Rattle.layout.specs.Questions.{LINE, DECIMAL, BLOB}
use Rattle.numbers.specs.Decimal.{LF, COMMA, number_from, is_digit}
use Rattle.put.specs.Put as storing
use Rattle.put.specs.Put.{put}
use Rattle.sheet.specs.declared.State.{State}
use Rattle.ascii.specs.Decimal as decimals
use Rattle.ascii.specs.Decimal.{decimal_in, goes_on}
use Rattle.ascii.specs.Hex as blobs
use Rattle.ascii.specs.Hex.{is_hex, hex_value, with_byte, blob_of}
use Rattle.sheet.specs.Machine as machine
use Rattle.sheet.specs.Machine.{FIRST, NUMBER, HIGH, LOW, state, waiting, stopped, highest_at, grown, bytes_in, used_one, stored_one, Held, held, state_in, stepped, fed}
use Rattle.sheet.proofs.Plain.{Plain, plain-nil, plain-cons}
use Rattle.ascii.proofs.Blobs.{hex-small}
use Rattle.ascii.proofs.Decimals.{read-digits}

-- ---- chunks
pub fed-append : (a b : List ℕ) (h : Held) → fed (a ++ b) h ≡ fed b (fed a h)
unfolding machine.fed
fed-append [] b h = refl
fed-append (x ∷ a) b h = fed-append a b (stepped x h)

-- ---- behind a refusal nothing changes
stops : (bs : List ℕ) (k q : ℕ) (run records : List ℕ) → fed bs (held (stopped k q) run records) ≡ held (stopped k q) run records
unfolding machine.fed machine.stepped
stops [] k q run records = refl
stops (b ∷ bs) k q run records = stops bs k q run records

pub stays : (bs : List ℕ) (k q : ℕ) (h : Held) → state_in h ≡ stopped k q → state_in (fed bs h) ≡ stopped k q
stays bs k q (held s run records) e = rw e (ap state_in (stops bs k q run records))

pub stays-one : (b k q : ℕ) (h : Held) → state_in h ≡ stopped k q → state_in (stepped b h) ≡ stopped k q
unfolding machine.stepped
stays-one b k q (held s run records) e = rw e

-- ---- a line that is refused at its end
pub waits : {f : List ℕ} → Plain f → (k left q : ℕ) (run records : List ℕ) → fed f (held (waiting k left q) run records) ≡ held (waiting k left q) run records
unfolding machine.fed machine.stepped machine.other_step
waits plain-nil k left q run records = refl
waits (plain-cons lf comma p) k left q run records = rw (lf, comma) (waits p k left q run records)

-- ---- a decimal
abbrev pub first_at : (oldest older newest lines used kind left : ℕ) → State
first_at a b c k u kind left = state a b c 0 k u u kind left 0 0 FIRST

abbrev pub number_at : (oldest older newest number lines used kind left : ℕ) → State
number_at a b c n k u kind left = state a b c n k u u kind left 0 0 NUMBER

module _ (a b c k u kind left : ℕ) (run records : List ℕ) where
  digits : {f : List ℕ} → Plain f → (n : ℕ)
      → fed f (held (number_at a b c n k u kind left) run records) ≡ held (cond (goes_on (highest_at kind left) n f) (number_at a b c (number_from n f) k u kind left) (waiting k left DECIMAL)) run records
  unfolding machine.fed machine.stepped machine.other_step machine.number_step machine.digit_step decimals.goes_on
  digits plain-nil n = refl
  digits (plain-cons {b = d} {bs = ds} lf comma p) n = rw (lf, comma) (go (eqb n 0) (is_digit d) (leb (n * 10 + (d - 0x30)) (highest_at kind left)) (digits p (n * 10 + (d - 0x30))))
    where
      go : (z i l : Bool)
          → fed ds (held (number_at a b c (n * 10 + (d - 0x30)) k u kind left) run records)
          ≡ held (cond (goes_on (highest_at kind left) (n * 10 + (d - 0x30)) ds) (number_at a b c (number_from (n * 10 + (d - 0x30)) ds) k u kind left) (waiting k left DECIMAL)) run records
          → fed ds (held (cond z (waiting k left DECIMAL) (grown (cond (i && l) (some (n * 10 + (d - 0x30))) none) (number_at a b c n k u kind left))) run records)
          ≡ held (cond (not z && (i && (l && goes_on (highest_at kind left) (n * 10 + (d - 0x30)) ds))) (number_at a b c (number_from (n * 10 + (d - 0x30)) ds) k u kind left) (waiting k left DECIMAL)) run records
      go true i l ih = waits p k left DECIMAL run records
      go false false l ih = waits p k left DECIMAL run records
      go false true false ih = waits p k left DECIMAL run records
      go false true true ih = ih

  -- where a field leaves the state
  abbrev after_field : List ℕ → State
  after_field [] = first_at a b c k u kind left
  after_field (d ∷ ds) =
      cond (is_digit d && (leb (0 * 10 + (d - 0x30)) (highest_at kind left) && goes_on (highest_at kind left) (0 * 10 + (d - 0x30)) ds))
      (number_at a b c (number_from (0 * 10 + (d - 0x30)) ds) k u kind left)
      (waiting k left DECIMAL)

  field : {f : List ℕ} → Plain f → fed f (held (first_at a b c k u kind left) run records) ≡ held (after_field f) run records
  unfolding machine.fed machine.stepped machine.other_step machine.digit_step
  field plain-nil = refl
  field (plain-cons {b = d} {bs = ds} lf comma p) = rw (lf, comma) (go (is_digit d) (leb (0 * 10 + (d - 0x30)) (highest_at kind left)))
    where
      go : (i l : Bool)
          → fed ds (held (grown (cond (i && l) (some (0 * 10 + (d - 0x30))) none) (first_at a b c k u kind left)) run records)
          ≡ held (cond (i && (l && goes_on (highest_at kind left) (0 * 10 + (d - 0x30)) ds)) (number_at a b c (number_from (0 * 10 + (d - 0x30)) ds) k u kind left) (waiting k left DECIMAL)) run records
      go false l = waits p k left DECIMAL run records
      go true false = waits p k left DECIMAL run records
      go true true = digits p (0 * 10 + (d - 0x30))

-- the state behind a decimal's comma, with n decimals to come
abbrev pub took_number : (a b c k u kind n : ℕ) → Option ℕ → State
took_number a b c k u kind n none = waiting k n DECIMAL
took_number a b c k u kind n (some v) = state b c v 0 k u u kind n 0 0 (cond (eqb (suc n) 1) HIGH FIRST)

module _ (a b c k u kind n : ℕ) (run records : List ℕ) where
  less : suc n - 1 ≡ n
  less = omega arith

  pub field-comma : {f : List ℕ} → Plain f
      → stepped COMMA (fed f (held (first_at a b c k u kind (suc n)) run records)) ≡ held (took_number a b c k u kind n (decimal_in (highest_at kind (suc n)) f)) run records
  unfolding machine.stepped machine.comma_step decimals.decimal_in
  field-comma plain-nil = rw (field a b c k u kind (suc n) run records plain-nil, eqb-suc-zero n, less)
  field-comma (plain-cons {b = d} {bs = ds} lf comma p) =
      rw (field a b c k u kind (suc n) run records (plain-cons {b = d} {bs = ds} lf comma p), read-digits (highest_at kind (suc n)) d ds)
      (go (is_digit d && (leb (0 * 10 + (d - 0x30)) (highest_at kind (suc n)) && goes_on (highest_at kind (suc n)) (0 * 10 + (d - 0x30)) ds)) (number_from (0 * 10 + (d - 0x30)) ds))
    where
      go : (t : Bool) (v : ℕ)
          → stepped COMMA (held (cond t (number_at a b c v k u kind (suc n)) (waiting k (suc n) DECIMAL)) run records) ≡ held (took_number a b c k u kind n (cond t (some v) none)) run records
      go true v = rw (eqb-suc-zero n, less)
      go false v = rw (eqb-suc-zero n, less)

  pub field_end : {f : List ℕ} → Plain f → state_in (stepped LF (fed f (held (first_at a b c k u kind (suc n)) run records))) ≡ stopped k LINE
  unfolding machine.stepped machine.end_step
  field_end plain-nil = rw (field a b c k u kind (suc n) run records plain-nil)
  field_end (plain-cons {b = d} {bs = ds} lf comma p) =
      rw (field a b c k u kind (suc n) run records (plain-cons {b = d} {bs = ds} lf comma p))
      (go (is_digit d && (leb (0 * 10 + (d - 0x30)) (highest_at kind (suc n)) && goes_on (highest_at kind (suc n)) (0 * 10 + (d - 0x30)) ds)) (number_from (0 * 10 + (d - 0x30)) ds))
    where
      go : (t : Bool) (v : ℕ) → state_in (stepped LF (held (cond t (number_at a b c v k u kind (suc n)) (waiting k (suc n) DECIMAL)) run records)) ≡ stopped k LINE
      go true v = refl
      go false v = rw (eqb-suc-zero n)

-- ---- a blob
abbrev pub blob_at : (oldest older newest lines start used kind : ℕ) → State
blob_at a b c k start u kind = state a b c 0 k start u kind 0 0 0 HIGH

-- the bytes of a blob stored one by one: where the next one goes, and the run
unfoldable pub used_all : (room used : ℕ) → List ℕ → ℕ
used_all room u [] = u
used_all room u (v ∷ vs) = used_all room (used_one room u) vs

unfoldable pub run_all : (room used : ℕ) → List ℕ → List ℕ → List ℕ
run_all room u [] run = run
run_all room u (v ∷ vs) run = run_all room (used_one room u) vs (stored_one room u v run)

pub stored-long : (room u v : ℕ) (run : List ℕ) → length (stored_one room u v run) ≡ length run
stored-long room u v run = go (ltb u room)
  where
    go : (t : Bool) → length (cond t (set run u v) run) ≡ length run
    go true = length-set run u v
    go false = refl

pub run_long : (room u : ℕ) (vs run : List ℕ) → length (run_all room u vs run) ≡ length run
unfolding run_all
run_long room u [] run = refl
run_long room u (v ∷ vs) run = run_long room (used_one room u) vs (stored_one room u v run) ∙ stored-long room u v run

pub fits-used : (room u : ℕ) (vs : List ℕ) → u + length vs ≤ room → used_all room u vs ≡ u + length vs
unfolding used_all
fits-used room u [] h = omega arith
fits-used room u (v ∷ vs) h = rw (lt-ltb u room (omega arith)) (fits-used room (u + 1) vs (omega arith) ∙ omega arith)

pub fits-run : (room u : ℕ) (vs run : List ℕ) → u + length vs ≤ room → run_all room u vs run ≡ put run u vs
unfolding run_all storing.put
fits-run room u [] run h = refl
fits-run room u (v ∷ vs) run h =
    let e : u + 1 ≡ suc u = omega arith in
    rw (lt-ltb u room (omega arith), e) (fits-run room (suc u) vs (set run u v) (omega arith))

pub over-used : (room u : ℕ) (vs : List ℕ) → room < u + length vs → room < used_all room u vs
unfolding used_all
over-used room u [] h = omega arith
over-used room u (v ∷ vs) h = go (ltb u room) (over-used room (u + 1) vs (omega arith)) (over-used room (room + 1) vs (omega arith))
  where
    go : (t : Bool) → room < used_all room (u + 1) vs → room < used_all room (room + 1) vs → room < used_all room (cond t (u + 1) (room + 1)) vs
    go true p q = p
    go false p q = q

module _ (a b c k start kind room : ℕ) (records : List ℕ) where
  -- how a blob's bytes leave the machine
  abbrev pub BlobLeft : (used : ℕ) → (run : List ℕ) → Option (List ℕ) → Held → Type 0
  BlobLeft u run none h = state_in (stepped LF h) ≡ stopped k BLOB
  BlobLeft u run (some bs) h = h ≡ held (blob_at a b c k start (used_all room u bs) kind) (run_all room u bs run) records

  one_more : (u v : ℕ) (run : List ℕ) (o : Option (List ℕ)) (h : Held) → BlobLeft (used_one room u) (stored_one room u v run) o h → BlobLeft u run (with_byte v o) h
  unfolding used_all run_all
  one_more u v run none h p = p
  one_more u v run (some bs) h p = p

  wait-ends : {f : List ℕ} → Plain f → (run : List ℕ) → state_in (stepped LF (fed f (held (waiting k 0 BLOB) run records))) ≡ stopped k BLOB
  unfolding machine.stepped machine.end_step
  wait-ends p run = rw (waits p k 0 BLOB run records)

  pub blob : {f : List ℕ} → Plain f → (u : ℕ) (run : List ℕ) → bytes_in run ≡ room → BlobLeft u run (blob_of f) (fed f (held (blob_at a b c k start u kind) run records))
  unfolding machine.fed machine.stepped machine.high_step machine.low_step machine.low_run machine.end_step blobs.blob_of used_all run_all
  blob plain-nil u run e = refl
  blob (plain-cons {b = d} lf comma plain-nil) u run e = rw (lf, comma) (go (is_hex d))
    where
      go : (i : Bool) → state_in (stepped LF (held (cond i (state a b c 0 k start u kind 0 (hex_value d) 0 LOW) (waiting k 0 BLOB)) run records)) ≡ stopped k BLOB
      go true = refl
      go false = refl
  blob (plain-cons {b = d} lf comma (plain-cons {b = x} {bs = ds} lf2 comma2 p)) u run e =
      rw (lf, comma) (go (is_hex d) refl (blob p (used_one room u) (stored_one room u (hex_value d * 16 + hex_value x) run) (rw (stored-long room u (hex_value d * 16 + hex_value x) run) e)))
    where
      Later : Type 0
      Later =
          BlobLeft (used_one room u) (stored_one room u (hex_value d * 16 + hex_value x) run) (blob_of ds)
          (fed ds (held (blob_at a b c k start (used_one room u) kind) (stored_one room u (hex_value d * 16 + hex_value x) run) records))

      later : (j : Bool) → is_hex d ≡ true → Later →
          BlobLeft u run (cond j (with_byte (hex_value d * 16 + hex_value x) (blob_of ds)) none)
          (fed ds (held (cond j (blob_at a b c k start (used_one room u) kind) (waiting k 0 BLOB)) (cond j (stored_one room u (hex_value d % 16 * 16 + hex_value x) run) run) records))
      later true h ih =
          let s : hex_value d % 16 ≡ hex_value d = omega (arith, hex-small d h) in
          rw s (one_more u (hex_value d * 16 + hex_value x) run (blob_of ds) _ ih)
      later false h ih = wait-ends p run

      go : (i : Bool) → is_hex d ≡ i → Later →
          BlobLeft u run (cond (i && is_hex x) (with_byte (hex_value d * 16 + hex_value x) (blob_of ds)) none)
          (fed (x ∷ ds) (held (cond i (state a b c 0 k start u kind 0 (hex_value d) 0 LOW) (waiting k 0 BLOB)) run records))
      go true h ih = rw (lf2, comma2, e) (later (is_hex x) h ih)
      go false h ih = wait-ends (plain-cons {b = x} {bs = ds} lf2 comma2 p) run

  -- a comma behind a blob's bytes, whatever they are
  pub blob-comma : {f : List ℕ} → Plain f → (u : ℕ) (run : List ℕ) → state_in (stepped COMMA (fed f (held (blob_at a b c k start u kind) run records))) ≡ stopped k LINE
  unfolding machine.fed machine.stepped machine.high_step machine.low_step machine.low_run machine.comma_step
  blob-comma plain-nil u run = refl
  blob-comma (plain-cons {b = d} lf comma plain-nil) u run = rw (lf, comma) (go (is_hex d))
    where
      go : (i : Bool) → state_in (stepped COMMA (held (cond i (state a b c 0 k start u kind 0 (hex_value d) 0 LOW) (waiting k 0 BLOB)) run records)) ≡ stopped k LINE
      go true = refl
      go false = refl
  blob-comma (plain-cons {b = d} lf comma (plain-cons {b = x} {bs = ds} lf2 comma2 p)) u run = rw (lf, comma) (go (is_hex d) (λ v r. blob-comma p v r))
    where
      stop : {g : List ℕ} → Plain g → (r : List ℕ) → state_in (stepped COMMA (fed g (held (waiting k 0 BLOB) r records))) ≡ stopped k LINE
      stop q r = rw (waits q k 0 BLOB r records)

      Later : Type 0
      Later = (v : ℕ) (r : List ℕ) → state_in (stepped COMMA (fed ds (held (blob_at a b c k start v kind) r records))) ≡ stopped k LINE

      later : (j : Bool) (v : ℕ) (r : List ℕ) → Later → state_in (stepped COMMA (fed ds (held (cond j (blob_at a b c k start v kind) (waiting k 0 BLOB)) r records))) ≡ stopped k LINE
      later true v r ih = ih v r
      later false v r ih = stop p r

      go : (i : Bool) → Later → state_in (stepped COMMA (fed (x ∷ ds) (held (cond i (state a b c 0 k start u kind 0 (hex_value d) 0 LOW) (waiting k 0 BLOB)) run records))) ≡ stopped k LINE
      go true ih = rw (lf2, comma2) (later (is_hex x) (used_one (bytes_in run) u) _ ih)
      go false ih = stop (plain-cons {b = x} {bs = ds} lf2 comma2 p) run
