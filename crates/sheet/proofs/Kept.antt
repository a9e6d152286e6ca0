-- No byte changes anything behind the largest room.
-- Assumes nothing.
use Prim.Native.Nat.{ℕ, suc, ◌+◌, ◌*◌, ◌/◌, ◌%◌, ◌≤◌}
use mathlib.Core.List.{List, [], ◌∷◌}
use mathlib.Core.Bool.{Bool, true, false, cond, ◌&&◌}
use mathlib.Core.Path.{◌≡◌, refl, ◌∙◌}
use native.Mathlib.Omega.{arith}
use lib.ListN.{length, drop, set, length-set}
use lib.Seq.{drop-set-lt}
use lib.Dec.{leb, ltb, eqb}
use borrow.Author.Tests.{ltb-true}
use Rattle.numbers.specs.Decimal.{LF, COMMA}
use Rattle.put.specs.Put as storing
use Rattle.put.specs.Put.{put}
use Rattle.put.proofs.Put.{length-put}
use Rattle.sheet.specs.declared.State.{State}
use Rattle.ascii.specs.Hex.{is_hex, hex_value}
use Rattle.sheet.specs.Sheet.{BLOB_BYTES, LINES}
use Rattle.sheet.specs.Machine as machine
use Rattle.sheet.specs.Machine.{HIGH, LOW, REFUSED, room_for, bytes_in, lines_in, low_run, low_step, six, closed_records, end_records, end_step, comma_step, high_step, other_step, Held, held, stepped, fed}
use Rattle.sheet.specs.Proved.{Kept}

-- a list with all behind the first n as it was
record Same (n : ℕ) (l m : List ℕ) : Type 0 where
  long : length m ≡ length l
  behind : drop n m ≡ drop n l

same : (n : ℕ) (l : List ℕ) → Same n l l
same n l = record { long = refl; behind = refl }

drop-put : (n : ℕ) (l : List ℕ) (at : ℕ) (bs : List ℕ) → at + length bs ≤ n → drop n (put l at bs) ≡ drop n l
unfolding storing.put
drop-put n l at [] h = refl
drop-put n l at (b ∷ bs) h = drop-put n (set l at b) (suc at) bs (omega arith) ∙ drop-set-lt n l at b (omega arith)

pub room_most : (most lent : ℕ) → room_for most lent ≤ most
room_most most lent = go (ltb lent most) refl
  where
    go : (t : Bool) → ltb lent most ≡ t → cond t lent most ≤ most
    go true e = omega (arith, ltb-true lent most e)
    go false e = omega arith

same-run : (b : ℕ) (s : State) (run : List ℕ) → Same BLOB_BYTES run (low_run (bytes_in run) b s run)
unfolding machine.low_run
same-run b s run = go (is_hex b) (ltb s.used (bytes_in run)) refl
  where
    go : (i t : Bool) → ltb s.used (bytes_in run) ≡ t → Same BLOB_BYTES run (cond i (cond t (set run s.used (s.digit % 16 * 16 + hex_value b)) run) run)
    go false t e = same BLOB_BYTES run
    go true false e = same BLOB_BYTES run
    go true true e = record {
      long = length-set run s.used (s.digit % 16 * 16 + hex_value b);
      behind = drop-set-lt BLOB_BYTES run s.used (s.digit % 16 * 16 + hex_value b) (omega (arith, ltb-true s.used (bytes_in run) e, room_most BLOB_BYTES (length run)));
    }

same-records : (bytes : ℕ) (s : State) (records : List ℕ) → Same (6 * LINES) records (end_records bytes (lines_in records) s records)
unfolding machine.end_records machine.closed_records
same-records bytes s records = go (eqb s.phase HIGH) (leb s.used bytes) (ltb s.lines (lines_in records)) refl
  where
    go : (h f t : Bool) → ltb s.lines (lines_in records) ≡ t → Same (6 * LINES) records (cond h (cond (f && t) (put records (6 * s.lines) (six s)) records) records)
    go false f t e = same (6 * LINES) records
    go true false t e = same (6 * LINES) records
    go true true false e = same (6 * LINES) records
    go true true true e = record {
      long = length-put records (6 * s.lines) (six s);
      behind = drop-put (6 * LINES) records (6 * s.lines) (six s) (omega (arith, ltb-true s.lines (lines_in records) e, room_most LINES (length records / 6)));
    }

kept-one : (b : ℕ) (h : Held) → Kept h (stepped b h)
unfolding machine.stepped
kept-one b (held s run records) = go (eqb s.phase REFUSED) (eqb b LF) (eqb b COMMA) (eqb s.phase HIGH) (eqb s.phase LOW)
  where
    both : {run2 records2 : List ℕ} {t : State} → Same BLOB_BYTES run run2 → Same (6 * LINES) records records2 → Kept (held s run records) (held t run2 records2)
    both r p = record { run_long = r.long; run-behind = r.behind; records-long = p.long; records-behind = p.behind }

    go : (x lf c h l : Bool) → Kept (held s run records)
        (cond x (held s run records)
        (cond lf (held (end_step (bytes_in run) (lines_in records) s) run (end_records (bytes_in run) (lines_in records) s records))
        (cond c (held (comma_step s) run records)
        (cond h (held (high_step b s) run records)
        (cond l (held (low_step (bytes_in run) b s) (low_run (bytes_in run) b s run) records)
        (held (other_step b s) run records))))))
    go true lf c h l = both (same BLOB_BYTES run) (same (6 * LINES) records)
    go false true c h l = both (same BLOB_BYTES run) (same-records (bytes_in run) s records)
    go false false true h l = both (same BLOB_BYTES run) (same (6 * LINES) records)
    go false false false true l = both (same BLOB_BYTES run) (same (6 * LINES) records)
    go false false false false true = both (same-run b s run) (same (6 * LINES) records)
    go false false false false false = both (same BLOB_BYTES run) (same (6 * LINES) records)

pub kept-all : (bs : List ℕ) (h : Held) → Kept h (fed bs h)
unfolding machine.fed
kept-all [] h = record { run_long = refl; run-behind = refl; records-long = refl; records-behind = refl }
kept-all (b ∷ bs) h =
    let one = kept-one b h in
    let more = kept-all bs (stepped b h) in
    record {
      run_long = more.run_long ∙ one.run_long;
      run-behind = more.run-behind ∙ one.run-behind;
      records-long = more.records-long ∙ one.records-long;
      records-behind = more.records-behind ∙ one.records-behind;
    }
