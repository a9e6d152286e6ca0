-- The bytes of a sheet, one after the other, do to the machine what the sheet says.
-- Assumes nothing.
use Prim.Native.Nat.{ℕ, suc, ◌+◌, ◌*◌, ◌≤◌, ◌<◌}
use mathlib.Core.List.{List, [], ◌∷◌}
use mathlib.Core.Bool.{Bool, true, false, cond, ◌&&◌}
use mathlib.Core.Path.{◌≡◌, refl, subst}
use native.Mathlib.Omega.{arith}
use native.Mathlib.Nat.{add-zero}
use native.Mathlib.Numerals.{add-one}
use lib.ListN.{length, length-append}
use lib.Dec.{leb, ltb}
use borrow.Author.Tests.{ltb-true}
use Rattle.layout.specs.Questions.{SHEET_SIZE}
use Rattle.numbers.specs.Decimal.{LF}
use Rattle.put.specs.Put as storing
use Rattle.put.specs.Put.{put}
use Rattle.put.proofs.Put.{length-put, put-append}
use Rattle.store.specs.declared.Entry.{Entry}
use Rattle.ascii.specs.Words.{parted}
use Rattle.sheet.specs.Sheet as sheet
use Rattle.sheet.specs.Sheet.{LineSays, said, refused_by, line_of, Room, SheetSays, read, refused, entry_of, blob_in, onto, ask44, said_from, LINES, six_of, sixes}
use Rattle.sheet.specs.Machine as machine
use Rattle.sheet.specs.Machine.{at_line, stopped, bytes_in, lines_in, Held, held, state_in, stepped, fed, refuses, answer_of}
use Rattle.ascii.proofs.Never.{no_way}
use Rattle.ascii.proofs.Parts as parts
use Rattle.ascii.proofs.Parts.{joined, joined-parts, AllFree, frees-cons, free-parts}
use Rattle.sheet.proofs.Fields.{fed-append, stays}
use Rattle.sheet.proofs.Lines.{Closed, LineLeft, line}
use Rattle.sheet.proofs.Within.{stopped-answer, unended}

after_line : (l m : List ℕ) (ls : List (List ℕ)) (h : Held) → fed (joined LF (l ∷ m ∷ ls)) h ≡ fed (joined LF (m ∷ ls)) (stepped LF (fed l h))
unfolding parts.joined machine.fed
after_line l m ls h = fed-append l (LF ∷ joined LF (m ∷ ls)) h

-- how what is said from here on leaves the machine, where k lines with u blob bytes were read before
abbrev pub Agrees : (k u : ℕ) → (run records : List ℕ) → SheetSays → Held → Type 0
Agrees k u run records (read es blob) h = h ≡ held (at_line (k + length es) (u + length blob)) (put run u blob) (put records (6 * k) (sixes es))
Agrees k u run records (refused q l) h = answer_of (state_in h) ≡ refuses q l

none_read : (k u : ℕ) (run records : List ℕ) → Agrees k u run records (read [] []) (held (at_line k u) run records)
unfolding storing.put sheet.sixes
none_read k u run records = rw (add-zero k, add-zero u)

one_more : (k u : ℕ) (run records : List ℕ) (e : Entry) (blob : List ℕ) (later : SheetSays) (h : Held)
    → Agrees (suc k) (u + length blob) (put run u blob) (put records (6 * k) (six_of e)) later h → Agrees k u run records (onto e blob later) h
unfolding sheet.sixes
one_more k u run records e blob (refused q l) h p = p
one_more k u run records e blob (read es more) h p =
    let a : k + suc (length es) ≡ suc k + length es = omega arith in
    let b : u + (length blob + length more) ≡ u + length blob + length more = omega arith in
    let c : 6 * suc k ≡ 6 * k + length (six_of e) = omega arith in
    rw (length-append blob more, a, b, put-append run u blob more, put-append records (6 * k) (six_of e) (sixes es), ← c) p

module _ (bytes lines : ℕ) (few : lines ≤ LINES) where
  abbrev room : Room
  room = record { bytes = bytes; lines = lines }

  sheets : (ls : List (List ℕ)) → AllFree LF ls → (k u : ℕ) (run records : List ℕ) → bytes_in run ≡ bytes → lines_in records ≡ lines → k ≤ LINES
      → Agrees k u run records (said_from room k u ls) (fed (joined LF ls) (held (at_line k u) run records))
  unfolding sheet.said_from parts.joined machine.fed
  sheets [] f k u run records here there h = none_read k u run records
  sheets ([] ∷ []) f k u run records here there h = none_read k u run records
  sheets ((b ∷ bs) ∷ []) (frees-cons f fs) k u run records here there h = unended k u b bs run records h f
  sheets (l ∷ m ∷ ls) (frees-cons f fs) k u run records here there h =
      rw (after_line l m ls (held (at_line k u) run records))
      (go (line_of l) (stepped LF (fed l (held (at_line k u) run records))) (line bytes lines k u run records here there l f)
      (λ v r p x y z. sheets (m ∷ ls) fs (suc k) v r p x y z))
    where
      Later : Type 0
      Later = (v : ℕ) (r p : List ℕ) → bytes_in r ≡ bytes → lines_in p ≡ lines → suc k ≤ LINES → Agrees (suc k) v r p (said_from room (suc k) v (m ∷ ls)) (fed (joined LF (m ∷ ls)) (held (at_line (suc k) v) r p))

      below : (a : Bool) → (a && ltb k lines) ≡ true → k < lines
      below true e = ltb-true k lines e
      below false e = no_way e

      closes : (kind : ℕ) (ns blob : List ℕ) (t : Bool) (R : Held) → (leb (u + length blob) bytes && ltb k lines) ≡ t
          → Closed bytes lines k u run records t (six_of (entry_of kind ns u (length blob))) blob R → Later
          → Agrees k u run records (cond t (onto (entry_of kind ns u (length blob)) blob (said_from room (suc k) (u + length blob) (m ∷ ls))) (refused SHEET_SIZE (suc k))) (fed (joined LF (m ∷ ls)) R)
      closes kind ns blob true R e left ih =
          let run2 = put run u blob in
          let records2 = put records (6 * k) (six_of (entry_of kind ns u (length blob))) in
          let here2 : bytes_in run2 ≡ bytes = rw (length-put run u blob) here in
          let there2 : lines_in records2 ≡ lines = rw (length-put records (6 * k) (six_of (entry_of kind ns u (length blob)))) there in
          let next = below (leb (u + length blob) bytes) e in
          rw (left, add-one k)
          (one_more k u run records (entry_of kind ns u (length blob)) blob (said_from room (suc k) (u + length blob) (m ∷ ls)) _ (ih (u + length blob) run2 records2 here2 there2 (omega arith)))
      closes kind ns blob false R e left ih = stopped-answer k SHEET_SIZE _ h (stays (joined LF (m ∷ ls)) k SHEET_SIZE R left)

      go : (says : LineSays) (R : Held) → LineLeft bytes lines k u run records (λ kind ns len. six_of (entry_of kind ns u len)) says R → Later
          → Agrees k u run records (ask44 room k u says (said_from room (suc k) (u + length (blob_in says)) (m ∷ ls))) (fed (joined LF (m ∷ ls)) R)
      go (refused_by q) R left ih = stopped-answer k q _ h (stays (joined LF (m ∷ ls)) k q R left)
      go (said kind ns blob) R left ih = closes kind ns blob (leb (u + length blob) bytes && ltb k lines) R refl left ih

  -- a sheet from here on
  pub sheet-from : (bs : List ℕ) (k u : ℕ) (run records : List ℕ) → bytes_in run ≡ bytes → lines_in records ≡ lines → k ≤ LINES
      → Agrees k u run records (said_from room k u (parted LF bs)) (fed bs (held (at_line k u) run records))
  sheet-from bs k u run records here there h =
      subst (λ (x : List ℕ). Agrees k u run records (said_from room k u (parted LF bs)) (fed x (held (at_line k u) run records))) (joined-parts LF bs)
      (sheets (parted LF bs) (free-parts LF bs) k u run records here there h)
