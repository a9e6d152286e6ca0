-- The theorems of specs/Proved.antt.
-- Assumes nothing.
use Prim.Native.Nat.{ℕ, ◌*◌, ◌/◌, ◌≤◌}
use mathlib.Core.List.{List, [], ◌∷◌, ◌++◌}
use mathlib.Core.Bool.{Bool, true, false, cond}
use mathlib.Core.Path.{◌≡◌, refl, sym, ap, ◌∙◌}
use native.Mathlib.Omega.{arith}
use native.Mathlib.Nat.{zero-add}
use lib.ListN.{length, drop, length-append}
use lib.Dec.{ltb}
use borrow.Author.Tests.{le-ltb, ltb-false}
use Rattle.put.specs.Put.{put}
use Rattle.put.proofs.Put.{put_front}
use Rattle.store.specs.declared.Entry.{Entry}
use Rattle.sheet.specs.Sheet as sheet
use Rattle.sheet.specs.Sheet.{SheetSays, read, refused, sheet_in, sheet_of, BLOB_BYTES, LINES, six_of, sixes, entries_in}
use Rattle.sheet.specs.Machine as machine
use Rattle.sheet.specs.Machine.{at_line, room_for, bytes_in, lines_in, room_of, Held, held, fed, answer_of}
use Rattle.sheet.specs.Proved.{SaidLaws, WholeRead, Leaves, in_chunks, whole, MachineLaws}
use Rattle.sheet.proofs.Fields.{fed-append}
use Rattle.sheet.proofs.Sheets.{Agrees, sheet-from}
use Rattle.sheet.proofs.Kept.{room_most, kept-all}
use Rattle.sheet.proofs.Fits.{sheet-fits}
use Rattle.sheet.proofs.Later.{said-later}

pub said-laws : SaidLaws
said-laws = record { fits = sheet-fits; later = said-later }

-- ---- six numbers for each entry
sixes-long : (es : List Entry) → length (sixes es) ≡ 6 * length es
unfolding sheet.sixes
sixes-long [] = refl
sixes-long (e ∷ es) = rw (length-append (six_of e) (sixes es)) (omega (arith, sixes-long es))

sixes-back : (es : List Entry) (rest : List ℕ) → entries_in (length es) (sixes es ++ rest) ≡ es
unfolding sheet.sixes sheet.entries_in
sixes-back [] rest = refl
sixes-back (e ∷ es) rest = ap (λ (x : List Entry). e ∷ x) (sixes-back es rest)

-- ---- the room
room-lent : (most lent : ℕ) → room_for most lent ≤ lent
room-lent most lent = go (ltb lent most) refl
  where
    go : (t : Bool) → ltb lent most ≡ t → cond t lent most ≤ lent
    go true e = omega arith
    go false e = omega (arith, ltb-false lent most e)

full : (sheet run records : List ℕ) → BLOB_BYTES ≤ length run → 6 * LINES ≤ length records → sheet_in (room_of run records) sheet ≡ sheet_of sheet
full sheet run records b l =
    let lines : LINES ≤ length records / 6 = omega arith in
    rw (le-ltb (length run) BLOB_BYTES b, le-ltb (length records / 6) LINES lines)

-- ---- the whole sheet
whole-read : (run records : List ℕ) (es : List Entry) (blob : List ℕ) (h : Held) → length blob ≤ length run → 6 * length es ≤ length records
    → Agrees 0 0 run records (read es blob) h → WholeRead run records es blob h
unfolding machine.answer_of
whole-read run records es blob h b l e =
    let six = sixes-long es in
    let run_is = put_front run blob b in
    let records-are : put records (6 * 0) (sixes es) ≡ sixes es ++ drop (6 * length es) records = put_front records (sixes es) (omega arith) ∙ rw six in
    let k = zero-add (length es) in
    let u = zero-add (length blob) in
    record {
      answered = rw (e, k, u);
      run_is = rw (e, run_is);
      records-are = rw (e, records-are);
      entries-are = rw (e, records-are) (sixes-back es (drop (6 * length es) records));
    }

leaves : (sheet run records : List ℕ) → Leaves run records (sheet_in (room_of run records) sheet) (fed sheet (held (at_line 0 0) run records))
leaves sheet run records =
    go (sheet_in (room_of run records) sheet) refl
    (sheet-from (bytes_in run) (lines_in records) (room_most LINES (length records / 6)) sheet 0 0 run records refl refl (omega arith))
  where
    go : (says : SheetSays) → sheet_in (room_of run records) sheet ≡ says → Agrees 0 0 run records says (fed sheet (held (at_line 0 0) run records)) → Leaves run records says (fed sheet (held (at_line 0 0) run records))
    go (refused q l) e p = p
    go (read es blob) e p =
        let f = sheet-fits (room_of run records) sheet es blob e in
        let b : length blob ≤ length run = omega (arith, f.few_bytes, room-lent BLOB_BYTES (length run)) in
        let l : 6 * length es ≤ length records = omega (arith, f.few-lines, room-lent LINES (length records / 6)) in
        whole-read run records es blob (fed sheet (held (at_line 0 0) run records)) b l p

in-chunks : (chunks : List (List ℕ)) (h : Held) → in_chunks chunks h ≡ fed (whole chunks) h
unfolding machine.fed
in-chunks [] h = refl
in-chunks (c ∷ cs) h = in-chunks cs (fed c h) ∙ sym (fed-append c (whole cs) h)

pub machine-laws : MachineLaws
machine-laws = record { reads = leaves; full-room = full; chunked = in-chunks; kept = kept-all }
