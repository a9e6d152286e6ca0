-- What a sheet says fits: its numbers their widths, its rows the run, its lines and bytes the room.
-- Assumes nothing.
use Prim.Native.Nat.{ℕ, zero, suc, ◌+◌, ◌*◌, ◌≤◌, ◌<◌}
use mathlib.Core.List.{List, [], ◌∷◌, ◌++◌}
use mathlib.Core.Bool.{Bool, true, false, cond, ◌&&◌}
use mathlib.Core.Option.{Option, none, some}
use mathlib.Core.Path.{◌≡◌, refl, sym, subst}
use native.Mathlib.Omega.{arith}
use native.Mathlib.Nat.{zero-add}
use lib.ListN.{length, get_or, length-append}
use lib.Dec.{leb, ltb, eqb}
use borrow.Author.Tests.{leb-true, ltb-true}
use Rattle.layout.specs.Questions.{LINE, SHEET_SIZE}
use Rattle.layout.specs.RowLaws.{Bytes}
use Rattle.numbers.specs.Decimal.{LF, COMMA, number_from}
use Rattle.store.specs.declared.Entry.{Entry}
use Rattle.store.specs.Kinds.{DEVICE, CONTACT, QUEUED, COURIER}
use Rattle.ascii.specs.Decimal as decimals
use Rattle.ascii.specs.Decimal.{U32, U64, is_decimal, decimal_in}
use Rattle.ascii.specs.Hex as blobs
use Rattle.ascii.specs.Hex.{is_hex, hex_value, with_byte, blob_of}
use Rattle.ascii.specs.Words.{parted}
use Rattle.sheet.specs.Sheet as sheet
use Rattle.sheet.specs.Sheet.{Shape, shape_of, LineSays, said, refused_by, and_others, numbers_of, ask43, ask42, ask41, of_fields, line_of, Room, SheetSays, read, refused, entry_of, blob_in, onto, ask44, said_from}
use Rattle.sheet.specs.Proved.{EntryFits, AllFit, Fits}
use Rattle.ascii.proofs.Blobs.{hex-small}
use Rattle.sheet.proofs.Letters.{of-letter}

abbrev Nothing : Type 0
Nothing = Unit {0}

-- ---- bytes
abbrev AreBytes : List ℕ → Type 0
AreBytes [] = Nothing
AreBytes (b ∷ bs) = (b < 256) × AreBytes bs

bytes-at : (bs : List ℕ) → AreBytes bs → Bytes bs
bytes-at [] p i = omega arith
bytes-at (b ∷ bs) p zero = p.0
bytes-at (b ∷ bs) p (suc i) = bytes-at bs p.1 i

bytes-append : (a b : List ℕ) → AreBytes a → AreBytes b → AreBytes (a ++ b)
bytes-append [] b p q = q
bytes-append (x ∷ a) b p q = (p.0, bytes-append a b p.1 q)

abbrev BlobFits : Option (List ℕ) → Type 0
BlobFits none = Nothing
BlobFits (some bs) = AreBytes bs

blob-fits : (ds : List ℕ) → BlobFits (blob_of ds)
unfolding blobs.blob_of
blob-fits [] = tt
blob-fits (d ∷ []) = tt
blob-fits (d ∷ e ∷ ds) = go (is_hex d) (is_hex e) refl refl (blob_of ds) (blob-fits ds)
  where
    go : (i j : Bool) → is_hex d ≡ i → is_hex e ≡ j → (o : Option (List ℕ)) → BlobFits o → BlobFits (cond (i && j) (with_byte (hex_value d * 16 + hex_value e) o) none)
    go false j p q o f = tt
    go true false p q o f = tt
    go true true p q none f = tt
    go true true p q (some bs) f = (omega (arith, hex-small d p, hex-small e q), f)

-- ---- numbers
abbrev NumberFits : ℕ → Option ℕ → Type 0
NumberFits h none = Nothing
NumberFits h (some n) = n ≤ h

number_fits : (h : ℕ) (f : List ℕ) → NumberFits h (decimal_in h f)
unfolding decimals.decimal_in
number_fits h f = go (is_decimal f) (leb (number_from 0 f) h) refl
  where
    go : (i l : Bool) → leb (number_from 0 f) h ≡ l → NumberFits h (cond (i && l) (some (number_from 0 f)) none)
    go false l e = tt
    go true false e = tt
    go true true e = leb-true (number_from 0 f) h e

data Each : (highest numbers : List ℕ) → Type 0 where
  each_nil : Each [] []
  each-cons : {h n : ℕ} {hs ns : List ℕ} → n ≤ h → Each hs ns → Each (h ∷ hs) (n ∷ ns)

abbrev AllNumbersFit : List ℕ → Option (List ℕ) → Type 0
AllNumbersFit hs none = Nothing
AllNumbersFit hs (some ns) = Each hs ns

numbers_fit : (hs : List ℕ) (fs : List (List ℕ)) → AllNumbersFit hs (numbers_of hs fs)
unfolding sheet.numbers_of
numbers_fit [] fs = each_nil
numbers_fit (h ∷ hs) [] = tt
numbers_fit (h ∷ hs) (f ∷ fs) = go (decimal_in h f) (number_fits h f) (numbers_of hs fs) (numbers_fit hs fs)
  where
    go : (o : Option ℕ) → NumberFits h o → (p : Option (List ℕ)) → AllNumbersFit hs p → AllNumbersFit (h ∷ hs) (and_others o p)
    go none x p y = tt
    go (some n) x none y = tt
    go (some n) x (some ns) y = each-cons x y

-- ---- a line
EntryOf : (kind : ℕ) → List ℕ → Type 0
EntryOf kind ns = (start len size : ℕ) → start + len ≤ size → EntryFits size (entry_of kind ns start len)

abbrev ShapeFits : Option Shape → Type 0
ShapeFits none = Nothing
ShapeFits (some s) = (ns : List ℕ) → Each s.highest ns → EntryOf s.kind ns

device-fits : (ns : List ℕ) → Each (U32 ∷ []) ns → EntryOf DEVICE ns
unfolding EntryOf
device-fits _ (each-cons v each_nil) start len size h = record { kind-known = omega arith; id-fits = omega arith; msgno-fits = omega arith; version-fits = v; inside = h }

queued-fits : (ns : List ℕ) → Each (U64 ∷ U32 ∷ U32 ∷ []) ns → EntryOf QUEUED ns
unfolding EntryOf
queued-fits _ (each-cons c (each-cons m (each-cons v each_nil))) start len size h = record { kind-known = omega arith; id-fits = c; msgno-fits = m; version-fits = v; inside = h }

two_fits : (kind : ℕ) → kind ≤ COURIER → eqb kind DEVICE ≡ false → eqb kind QUEUED ≡ false → (ns : List ℕ) → Each (U64 ∷ U32 ∷ []) ns → EntryOf kind ns
unfolding EntryOf
two_fits kind k d q _ (each-cons c (each-cons v each_nil)) start len size h = record { kind-known = k; id-fits = rw d c; msgno-fits = rw q (omega arith); version-fits = v; inside = h }

shape-fits : (letter : List ℕ) → ShapeFits (shape_of letter)
shape-fits [] = tt
shape-fits (b ∷ c ∷ bs) = tt
shape-fits (b ∷ []) = of-letter ShapeFits tt device-fits (two_fits CONTACT (omega arith) refl refl) queued-fits (two_fits COURIER (omega arith) refl refl) b

abbrev LineFits : LineSays → Type 0
LineFits (refused_by q) = Nothing
LineFits (said kind ns blob) = EntryOf kind ns × AreBytes blob

line-fits : (l : List ℕ) → LineFits (line_of l)
line-fits l = of-fields (parted COMMA l)
  where
    by-blob : (kind : ℕ) (ns : List ℕ) → EntryOf kind ns → (o : Option (List ℕ)) → BlobFits o → LineFits (ask43 kind ns o)
    by-blob kind ns e none f = tt
    by-blob kind ns e (some bs) f = (e, f)

    by-numbers : (s : Shape) → ShapeFits (some s) → (bl : List ℕ) (t : Bool) (o : Option (List ℕ)) → AllNumbersFit s.highest o → LineFits (cond t (ask42 s.kind bl o) (refused_by LINE))
    by-numbers s f bl false o g = tt
    by-numbers s f bl true none g = tt
    by-numbers s f bl true (some ns) g = by-blob s.kind ns (f ns g) (blob_of bl) (blob-fits bl)

    by_shape : (o : Option Shape) → ShapeFits o → (fs : List (List ℕ)) → LineFits (ask41 o fs)
    by_shape none f fs = tt
    by_shape (some s) f fs = by-numbers s f (get_or fs (length s.highest) []) (eqb (length fs) (suc (length s.highest))) (numbers_of s.highest fs) (numbers_fit s.highest fs)

    of-fields : (fields : List (List ℕ)) → LineFits (of_fields fields)
    of-fields [] = tt
    of-fields (letter ∷ fs) = by_shape (shape_of letter) (shape-fits letter) fs

-- ---- the sheet
module _ (room : Room) where
  record ReadFits (k u : ℕ) (es : List Entry) (run : List ℕ) : Type 0 where
    few_bytes : u + length run ≤ room.bytes
    few-lines : k + length es ≤ room.lines
    entries_fit : AllFit (u + length run) es
    run-bytes : AreBytes run

  abbrev SaidFits : (k u : ℕ) → SheetSays → Type 0
  SaidFits k u (read es run) = ReadFits k u es run
  SaidFits k u (refused q l) = Nothing

  none-fits : (k u : ℕ) → u ≤ room.bytes → k ≤ room.lines → SaidFits k u (read [] [])
  none-fits k u b l = record { few_bytes = omega arith; few-lines = omega arith; entries_fit = tt; run-bytes = tt }

  one-fits : (k u kind : ℕ) (ns blob : List ℕ) → EntryOf kind ns → AreBytes blob → (later : SheetSays) → SaidFits (suc k) (u + length blob) later
      → SaidFits k u (onto (entry_of kind ns u (length blob)) blob later)
  unfolding EntryOf
  one-fits k u kind ns blob e f (refused q l) g = tt
  one-fits k u kind ns blob e f (read es more) g =
      let long : u + length (blob ++ more) ≡ u + length blob + length more = rw (length-append blob more) (omega arith) in
      record {
        few_bytes = rw long g.few_bytes;
        few-lines = omega (arith, g.few-lines);
        entries_fit = subst (λ (n : ℕ). AllFit n (entry_of kind ns u (length blob) ∷ es)) (sym long) (e u (length blob) (u + length blob + length more) (omega arith), g.entries_fit);
        run-bytes = bytes-append blob more f g.run-bytes;
      }

  said_fits : (ls : List (List ℕ)) (k u : ℕ) → u ≤ room.bytes → k ≤ room.lines → SaidFits k u (said_from room k u ls)
  unfolding sheet.said_from
  said_fits [] k u b l = none-fits k u b l
  said_fits ([] ∷ []) k u b l = none-fits k u b l
  said_fits ((x ∷ xs) ∷ []) k u b l = tt
  said_fits (x ∷ m ∷ ls) k u b l = go (line_of x) (line-fits x) (λ v p q. said_fits (m ∷ ls) (suc k) v p q)
    where
      Later : Type 0
      Later = (v : ℕ) → v ≤ room.bytes → suc k ≤ room.lines → SaidFits (suc k) v (said_from room (suc k) v (m ∷ ls))

      fitting : (kind : ℕ) (ns blob : List ℕ) → EntryOf kind ns → AreBytes blob → (s t : Bool) → leb (u + length blob) room.bytes ≡ s → ltb k room.lines ≡ t → Later
          → SaidFits k u (cond (s && t) (onto (entry_of kind ns u (length blob)) blob (said_from room (suc k) (u + length blob) (m ∷ ls))) (refused SHEET_SIZE (suc k)))
      fitting kind ns blob e f false t p q ih = tt
      fitting kind ns blob e f true false p q ih = tt
      fitting kind ns blob e f true true p q ih =
          let less = ltb-true k room.lines q in
          one-fits k u kind ns blob e f (said_from room (suc k) (u + length blob) (m ∷ ls)) (ih (u + length blob) (leb-true _ _ p) (omega arith))

      go : (says : LineSays) → LineFits says → Later → SaidFits k u (ask44 room k u says (said_from room (suc k) (u + length (blob_in says)) (m ∷ ls)))
      go (refused_by q) f ih = tt
      go (said kind ns blob) f ih = fitting kind ns blob f.0 f.1 (leb (u + length blob) room.bytes) (ltb k room.lines) refl refl ih

pub sheet-fits : (room : Room) (bs : List ℕ) (es : List Entry) (run : List ℕ) → said_from room 0 0 (parted LF bs) ≡ read es run → Fits room es run
sheet-fits room bs es run e =
    let f : SaidFits room 0 0 (read es run) = rw e at (said_fits room (parted LF bs) 0 0 (omega arith) (omega arith)) in
    record { few_bytes = omega (arith, f.few_bytes); few-lines = omega (arith, f.few-lines); entries_fit = rw zero-add at f.entries_fit; run-bytes = bytes-at run f.run-bytes }
