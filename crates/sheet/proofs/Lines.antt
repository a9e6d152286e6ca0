-- What a line and its LF do to the machine: what the line says, or its refusal.
-- Assumes nothing.
use Prim.Native.Nat.{ℕ, suc, ◌+◌, ◌-◌, ◌*◌, ◌≤◌}
use mathlib.Core.List.{List, [], ◌∷◌}
use mathlib.Core.Bool.{Bool, true, false, cond, ◌&&◌}
use mathlib.Core.Option.{Option, none, some}
use mathlib.Core.Path.{◌≡◌, refl, ap, subst, ◌∙◌}
use native.Mathlib.Omega.{arith}
use native.Mathlib.Decide.{dec_lt}
use lib.ListN.{length, get_or}
use lib.Dec.{leb, ltb, eqb, eqb-suc-zero, eqb-suc-suc, eqb-zero-suc}
use borrow.Author.Tests.{lt-leb}
use Rattle.layout.specs.Questions.{LINE, DECIMAL, SHEET_SIZE}
use Rattle.numbers.specs.Decimal.{LF, COMMA}
use Rattle.put.specs.Put.{put}
use Rattle.store.specs.Kinds.{DEVICE, CONTACT, QUEUED, COURIER}
use Rattle.sheet.specs.declared.State.{State}
use Rattle.ascii.specs.Decimal.{decimal_in}
use Rattle.ascii.specs.Hex.{blob_of}
use Rattle.ascii.specs.Words.{parted}
use Rattle.sheet.specs.Sheet as sheet
use Rattle.sheet.specs.Sheet.{Shape, shape_of, LineSays, said, refused_by, and_others, numbers_of, ask43, ask42, ask41, of_fields, line_of, entry_of, six_of}
use Rattle.sheet.specs.Machine as machine
use Rattle.sheet.specs.Machine.{state, at_line, waiting, stopped, highest_at, bytes_in, lines_in, begun_as, six, Held, held, state_in, stepped, fed}
use Rattle.ascii.proofs.Never.{none-some}
use Rattle.sheet.proofs.Letters.{of-letter}
use Rattle.ascii.proofs.Parts as parts
use Rattle.ascii.proofs.Parts.{joined, joined-parts, Some, some-part, some-parts, Free}
use Rattle.sheet.proofs.Plain.{Plain, plain-cons, AllPlain, plains-cons, plain-fields}
use Rattle.sheet.proofs.Fields.{fed-append, stays, stays-one, waits, first_at, took_number, field-comma, field_end, blob_at, used_all, run_all, run_long, fits-used, fits-run, over-used, BlobLeft, blob, blob-comma}

-- ---- a field, the comma behind it, and the fields to come
after-comma : (p q : List ℕ) (ps : List (List ℕ)) (h : Held) → fed (joined COMMA (p ∷ q ∷ ps)) h ≡ fed (joined COMMA (q ∷ ps)) (stepped COMMA (fed p h))
unfolding parts.joined machine.fed
after-comma p q ps h = fed-append p (COMMA ∷ joined COMMA (q ∷ ps)) h

only-field : (p : List ℕ) (h : Held) → fed (joined COMMA (p ∷ [])) h ≡ fed p h
unfolding parts.joined
only-field p h = refl

-- a line that is refused stays so to its end
refused-rest : (bs : List ℕ) (k q : ℕ) (h : Held) → state_in h ≡ stopped k q → state_in (stepped LF (fed bs h)) ≡ stopped k q
refused-rest bs k q h e = stays-one LF k q (fed bs h) (stays bs k q h e)

some-other : {B : Type 0} {n : ℕ} {ns : List ℕ} → some [] ≡ some (n ∷ ns) → B
some-other e = let z : ◌≡◌ {A = ℕ} 0 1 = cc in absurd (omega arith)

-- the highest numbers of the decimals to come are those that the machine looks up
data Left (kind : ℕ) : List ℕ → Type 0 where
  left-nil : Left kind []
  left-cons : {h : ℕ} {hs : List ℕ} → highest_at kind (suc (length hs)) ≡ h → Left kind hs → Left kind (h ∷ hs)

-- what the fields behind the letter say
abbrev counted : (kind : ℕ) → (highest : List ℕ) → List (List ℕ) → LineSays
counted kind hs fs = cond (eqb (length fs) (suc (length hs))) (ask42 kind (get_or fs (length hs) []) (numbers_of hs fs)) (refused_by LINE)

-- as many numbers as decimals
numbers-long : (hs : List ℕ) (fs : List (List ℕ)) (ns : List ℕ) → numbers_of hs fs ≡ some ns → length ns ≡ length hs
unfolding sheet.numbers_of
numbers-long [] fs [] e = refl
numbers-long [] fs (n ∷ ns) e = some-other e
numbers-long (h ∷ hs) [] ns e = none-some e
numbers-long (h ∷ hs) (f ∷ fs) ns e = go (decimal_in h f) (numbers_of hs fs) (numbers-long hs fs) e
  where
    go : (o : Option ℕ) (p : Option (List ℕ)) → ((ms : List ℕ) → p ≡ some ms → length ms ≡ length hs) → and_others o p ≡ some ns → length ns ≡ suc (length hs)
    go none p ih e = none-some e
    go (some n) none ih e = none-some e
    go (some n) (some ms) ih e = let same : n ∷ ms ≡ ns = cc in rw (← same) (ap suc (ih ms refl))

-- too few fields, and too many
too_few : (n : ℕ) → eqb 1 (suc (suc n)) ≡ false
too_few n = eqb-suc-suc 0 (suc n) ∙ eqb-zero-suc n

too_many : (n : ℕ) → eqb (suc (suc n)) 1 ≡ false
too_many n = eqb-suc-suc (suc n) 0 ∙ eqb-suc-zero n

-- ---- what a line leaves, where k lines with u blob bytes were read before it
module _ (bytes lines k u : ℕ) (run records : List ℕ) where
  abbrev pub Closed : Bool → (six blob : List ℕ) → Held → Type 0
  Closed true s blob h = h ≡ held (at_line (k + 1) (u + length blob)) (put run u blob) (put records (6 * k) s)
  Closed false s blob h = state_in h ≡ stopped k SHEET_SIZE

  abbrev pub LineLeft : (six : ℕ → List ℕ → ℕ → List ℕ) → LineSays → Held → Type 0
  LineLeft s (refused_by q) h = state_in h ≡ stopped k q
  LineLeft s (said kind numbers blob) h = Closed (leb (u + length blob) bytes && ltb k lines) (s kind numbers (length blob)) blob h

  -- the six numbers behind the last three decimals a, b, c and these
  abbrev six_on : (a b c kind : ℕ) → List ℕ → ℕ → List ℕ
  six_on a b c kind [] len = six (state a b c 0 k u (u + len) kind 0 0 0 0)
  six_on a b c kind (n ∷ ns) len = six_on b c n kind ns len

  more_numbers : (a b c kind n : ℕ) (bl : List ℕ) (o : Option (List ℕ)) (h : Held)
      → LineLeft (six_on b c n) (ask42 kind bl o) h → LineLeft (six_on a b c) (ask42 kind bl (and_others (some n) o)) h
  more_numbers a b c kind n bl none h p = p
  more_numbers a b c kind n bl (some ns) h p = go (blob_of bl) p
    where
      go : (o : Option (List ℕ)) → LineLeft (six_on b c n) (ask43 kind ns o) h → LineLeft (six_on a b c) (ask43 kind (n ∷ ns) o) h
      go none p = p
      go (some bs) p = p

  -- ---- the blob and LF
  close-fits : (a b c kind : ℕ) (bs : List ℕ) (t : Bool) (R : List ℕ) → R ≡ put run u bs
      → Closed t (six (state a b c 0 k u (u + length bs) kind 0 0 0 0)) bs
      (held (cond t (at_line (k + 1) (u + length bs)) (stopped k SHEET_SIZE)) R (cond t (put records (6 * k) (six (state a b c 0 k u (u + length bs) kind 0 0 0 0))) records))
  close-fits a b c kind bs true R e = rw e
  close-fits a b c kind bs false R e = refl

  module _ (here : bytes_in run ≡ bytes) (there : lines_in records ≡ lines) where
    close : (a b c kind : ℕ) (bs : List ℕ) → Closed (leb (u + length bs) bytes && ltb k lines) (six_on a b c kind [] (length bs)) bs
        (stepped LF (held (blob_at a b c k u (used_all bytes u bs) kind) (run_all bytes u bs run) records))
    unfolding machine.stepped machine.end_step machine.end_records machine.closed machine.closed_records
    close a b c kind bs =
        let long : length (run_all bytes u bs run) ≡ length run = run_long bytes u bs run in
        elim (dec_lt bytes (u + length bs)) [
          | yes over ↦ rw (long, here, there, lt-leb (used_all bytes u bs) bytes (over-used bytes u bs over), lt-leb (u + length bs) bytes over)
          | no fits ↦
              let inside : u + length bs ≤ bytes = omega arith in
              rw (long, here, there, fits-used bytes u bs inside) (close-fits a b c kind bs (leb (u + length bs) bytes && ltb k lines) (run_all bytes u bs run) (fits-run bytes u bs run inside))
        ]

    blob-end : (a b c kind : ℕ) {f : List ℕ} → Plain f → LineLeft (six_on a b c) (ask43 kind [] (blob_of f)) (stepped LF (fed f (held (blob_at a b c k u u kind) run records)))
    blob-end a b c kind {f} p = go (blob_of f) (fed f (held (blob_at a b c k u u kind) run records)) (blob a b c k u kind bytes records p u run here)
      where
        go : (o : Option (List ℕ)) (h : Held) → BlobLeft a b c k u kind bytes records u run o h → LineLeft (six_on a b c) (ask43 kind [] o) (stepped LF h)
        go none h q = q
        go (some bs) h q = rw q (close a b c kind bs)

    -- ---- a line that is refused at its end: the fields to come are counted
    wait-comma : (n q : ℕ) → stepped COMMA (held (waiting k (suc n) q) run records) ≡ held (waiting k n DECIMAL) run records
    unfolding machine.stepped machine.comma_step
    wait-comma n q = let less : suc n - 1 ≡ n = omega arith in rw (eqb-suc-zero n, less)

    wait-end : (left : List ℕ) (g : List ℕ) → Plain g
        → state_in (stepped LF (fed g (held (waiting k (length left) DECIMAL) run records))) ≡ stopped k (cond (eqb 1 (suc (length left))) DECIMAL LINE)
    unfolding machine.stepped machine.end_step
    wait-end [] g p = rw (waits p k 0 DECIMAL run records)
    wait-end (h ∷ hs) g p = rw (waits p k (suc (length hs)) DECIMAL run records, eqb-suc-zero (length hs), too_few (length hs))

    wait-stop : (g : List ℕ) → Plain g → state_in (stepped COMMA (fed g (held (waiting k 0 DECIMAL) run records))) ≡ stopped k LINE
    unfolding machine.stepped machine.comma_step
    wait-stop g p = rw (waits p k 0 DECIMAL run records)

    wait-rest : (left : List ℕ) (g : List ℕ) (gs : List (List ℕ)) → AllPlain (g ∷ gs)
        → state_in (stepped LF (fed (joined COMMA (g ∷ gs)) (held (waiting k (length left) DECIMAL) run records))) ≡ stopped k (cond (eqb (length (g ∷ gs)) (suc (length left))) DECIMAL LINE)
    wait-rest left g [] (plains-cons p ps) = rw (only-field g (held (waiting k (length left) DECIMAL) run records)) (wait-end left g p)
    wait-rest [] g (g2 ∷ gs) (plains-cons p ps) =
        rw (after-comma g g2 gs (held (waiting k 0 DECIMAL) run records), too_many (length gs))
        (refused-rest (joined COMMA (g2 ∷ gs)) k LINE (stepped COMMA (fed g (held (waiting k 0 DECIMAL) run records))) (wait-stop g p))
    wait-rest (h ∷ hs) g (g2 ∷ gs) (plains-cons p ps) =
        rw (after-comma g g2 gs (held (waiting k (suc (length hs)) DECIMAL) run records), waits p k (suc (length hs)) DECIMAL run records, wait-comma (length hs) DECIMAL, eqb-suc-suc (suc (length gs)) (suc (length hs)))
        (wait-rest hs g2 gs ps)

    -- ---- the fields behind the letter
    abbrev at_field : (a b c kind : ℕ) → List ℕ → State
    at_field a b c kind [] = blob_at a b c k u u kind
    at_field a b c kind (h ∷ hs) = first_at a b c k u kind (suc (length hs))

    took : (a b c kind v : ℕ) (hs : List ℕ) → took_number a b c k u kind (length hs) (some v) ≡ at_field b c v kind hs
    took a b c kind v [] = refl
    took a b c kind v (h ∷ hs) = rw (too_many (length hs))

    refused-count : (a b c kind : ℕ) (t : Bool) (bl : List ℕ) (o : Option (List ℕ)) (h : Held) → state_in h ≡ stopped k (cond t DECIMAL LINE)
        → LineLeft (six_on a b c) (cond t (ask42 kind bl (and_others none o)) (refused_by LINE)) h
    refused-count a b c kind true bl o h e = e
    refused-count a b c kind false bl o h e = e

    more-count : (a b c kind n : ℕ) (t : Bool) (bl : List ℕ) (o : Option (List ℕ)) (h : Held) → LineLeft (six_on b c n) (cond t (ask42 kind bl o) (refused_by LINE)) h
        → LineLeft (six_on a b c) (cond t (ask42 kind bl (and_others (some n) o)) (refused_by LINE)) h
    more-count a b c kind n true bl o h p = more_numbers a b c kind n bl o h p
    more-count a b c kind n false bl o h p = p

    rest : (kind : ℕ) {hs : List ℕ} → Left kind hs → (f : List ℕ) (fs : List (List ℕ)) → AllPlain (f ∷ fs) → (a b c : ℕ)
        → LineLeft (six_on a b c) (counted kind hs (f ∷ fs)) (stepped LF (fed (joined COMMA (f ∷ fs)) (held (at_field a b c kind hs) run records)))
    unfolding sheet.numbers_of
    rest kind left-nil f [] (plains-cons p ps) a b c = rw (only-field f (held (blob_at a b c k u u kind) run records)) (blob-end a b c kind p)
    rest kind left-nil f (g ∷ gs) (plains-cons p ps) a b c =
        rw (after-comma f g gs (held (blob_at a b c k u u kind) run records), too_many (length gs))
        (refused-rest (joined COMMA (g ∷ gs)) k LINE _ (blob-comma a b c k u kind bytes records p u run))
    rest kind (left-cons {h = h} {hs = hs} e l) f [] (plains-cons p ps) a b c =
        rw (only-field f (held (first_at a b c k u kind (suc (length hs))) run records), too_few (length hs)) (field_end a b c k u kind (length hs) run records p)
    rest kind (left-cons {h = h} {hs = hs} e l) f (g ∷ gs) (plains-cons p ps) a b c =
        rw (after-comma f g gs (held (first_at a b c k u kind (suc (length hs))) run records), field-comma a b c k u kind (length hs) run records p, e, eqb-suc-suc (suc (length gs)) (suc (length hs)))
        (go (decimal_in h f) (λ v. rest kind l g gs ps b c v))
      where
        go : (o : Option ℕ)
            → ((v : ℕ) → LineLeft (six_on b c v) (counted kind hs (g ∷ gs)) (stepped LF (fed (joined COMMA (g ∷ gs)) (held (at_field b c v kind hs) run records))))
            → LineLeft (six_on a b c)
            (cond (eqb (length (g ∷ gs)) (suc (length hs))) (ask42 kind (get_or (g ∷ gs) (length hs) []) (and_others o (numbers_of hs (g ∷ gs)))) (refused_by LINE))
            (stepped LF (fed (joined COMMA (g ∷ gs)) (held (took_number a b c k u kind (length hs) o) run records)))
        go none ih = refused-count a b c kind (eqb (length (g ∷ gs)) (suc (length hs))) (get_or (g ∷ gs) (length hs) []) (numbers_of hs (g ∷ gs)) _ (wait-rest hs g gs ps)
        go (some v) ih =
            more-count a b c kind v (eqb (length (g ∷ gs)) (suc (length hs))) (get_or (g ∷ gs) (length hs) []) (numbers_of hs (g ∷ gs)) _
            (rw (took a b c kind v hs) (ih v))

    -- ---- the letter
    abbrev six_line : ℕ → List ℕ → ℕ → List ℕ
    six_line kind ns len = six_of (entry_of kind ns u len)

    -- a shape whose decimals the machine looks up, and whose six numbers it puts together, as the definition does
    data Known : Shape → Type 0 where
      known : {kind h : ℕ} {hs : List ℕ} → Left kind (h ∷ hs) → ((ns : List ℕ) → length ns ≡ length (h ∷ hs) → (len : ℕ) → six_on 0 0 0 kind ns len ≡ six_line kind ns len)
          → Known (record { kind = kind; highest = h ∷ hs })

    abbrev AllKnown : Option Shape → Type 0
    AllKnown none = Unit {0}
    AllKnown (some s) = Known s

    six-device : (ns : List ℕ) → length ns ≡ 1 → (len : ℕ) → six_on 0 0 0 DEVICE ns len ≡ six_line DEVICE ns len
    six-device [] e len = absurd (omega arith)
    six-device (v ∷ []) e len = let l : u + len - u ≡ len = omega arith in rw l
    six-device (v ∷ w ∷ ns) e len = absurd (omega arith)

    six-two : (kind : ℕ) → eqb kind DEVICE ≡ false → eqb kind QUEUED ≡ false → (ns : List ℕ) → length ns ≡ 2 → (len : ℕ) → six_on 0 0 0 kind ns len ≡ six_line kind ns len
    six-two kind d q [] e len = absurd (omega arith)
    six-two kind d q (v ∷ []) e len = absurd (omega arith)
    six-two kind d q (v ∷ w ∷ []) e len = let l : u + len - u ≡ len = omega arith in rw (d, q, l)
    six-two kind d q (v ∷ w ∷ x ∷ ns) e len = absurd (omega arith)

    six-queued : (ns : List ℕ) → length ns ≡ 3 → (len : ℕ) → six_on 0 0 0 QUEUED ns len ≡ six_line QUEUED ns len
    six-queued [] e len = absurd (omega arith)
    six-queued (v ∷ []) e len = absurd (omega arith)
    six-queued (v ∷ w ∷ []) e len = absurd (omega arith)
    six-queued (v ∷ w ∷ x ∷ []) e len = let l : u + len - u ≡ len = omega arith in rw l
    six-queued (v ∷ w ∷ x ∷ y ∷ ns) e len = absurd (omega arith)

    all_known : (b : ℕ) → AllKnown (shape_of (b ∷ []))
    all_known =
        of-letter AllKnown tt
        (known (left-cons refl left-nil) six-device)
        (known (left-cons refl (left-cons refl left-nil)) (six-two CONTACT refl refl))
        (known (left-cons refl (left-cons refl (left-cons refl left-nil))) six-queued)
        (known (left-cons refl (left-cons refl left-nil)) (six-two COURIER refl refl))

    -- ---- the line
    same-six : (kind : ℕ) (hs : List ℕ) → ((ns : List ℕ) → length ns ≡ length hs → (len : ℕ) → six_on 0 0 0 kind ns len ≡ six_line kind ns len)
        → (fs : List (List ℕ)) (h : Held) → LineLeft (six_on 0 0 0) (counted kind hs fs) h → LineLeft six_line (counted kind hs fs) h
    same-six kind hs same fs h = go (eqb (length fs) (suc (length hs))) (numbers_of hs fs) (numbers-long hs fs)
      where
        by-blob : (ns : List ℕ) → length ns ≡ length hs → (p : Option (List ℕ)) → LineLeft (six_on 0 0 0) (ask43 kind ns p) h → LineLeft six_line (ask43 kind ns p) h
        by-blob ns long none left = left
        by-blob ns long (some bs) left = rw (← same ns long (length bs)) left

        go : (t : Bool) (o : Option (List ℕ)) → ((ns : List ℕ) → o ≡ some ns → length ns ≡ length hs)
            → LineLeft (six_on 0 0 0) (cond t (ask42 kind (get_or fs (length hs) []) o) (refused_by LINE)) h → LineLeft six_line (cond t (ask42 kind (get_or fs (length hs) []) o) (refused_by LINE)) h
        go false o long left = left
        go true none long left = left
        go true (some ns) long left = by-blob ns (long ns refl) (blob_of (get_or fs (length hs) [])) left

    -- behind the letter: LF, or a comma and the fields
    abbrev fed_rest : List (List ℕ) → Held → Held
    fed_rest [] h = h
    fed_rest (g ∷ gs) h = fed (joined COMMA (g ∷ gs)) (stepped COMMA h)

    refused-fields : (fs : List (List ℕ)) (h : Held) → state_in h ≡ stopped k LINE → state_in (stepped LF (fed_rest fs h)) ≡ stopped k LINE
    refused-fields [] h e = stays-one LF k LINE h e
    refused-fields (g ∷ gs) h e = refused-rest (joined COMMA (g ∷ gs)) k LINE (stepped COMMA h) (stays-one COMMA k LINE h e)

    behind-letter : (o : Option Shape) → AllKnown o → (fs : List (List ℕ)) → AllPlain fs
        → LineLeft six_line (ask41 o fs) (stepped LF (fed_rest fs (held (begun_as o (at_line k u)) run records)))
    unfolding machine.stepped machine.end_step machine.comma_step
    behind-letter none known-none fs ps = refused-fields fs (held (stopped k LINE) run records) refl
    behind-letter (some _) (known {kind} {h} {hs} l same) [] ps = rw (eqb-zero-suc (suc (length hs)))
    behind-letter (some _) (known {kind} {h} {hs} l same) (g ∷ gs) ps = same-six kind (h ∷ hs) same (g ∷ gs) _ (rest kind l g gs ps 0 0 0)

    two-letters : (b x : ℕ) (bs : List ℕ) → eqb b LF ≡ false → eqb b COMMA ≡ false → eqb x LF ≡ false → eqb x COMMA ≡ false
        → state_in (fed (b ∷ x ∷ bs) (held (at_line k u) run records)) ≡ stopped k LINE
    unfolding machine.fed machine.stepped machine.other_step
    two-letters b x bs lf comma lf2 comma2 = rw (lf, comma) (go (shape_of (b ∷ [])))
      where
        go : (o : Option Shape) → state_in (fed (x ∷ bs) (held (begun_as o (at_line k u)) run records)) ≡ stopped k LINE
        go none = stays (x ∷ bs) k LINE (held (stopped k LINE) run records) refl
        go (some s) = rw (lf2, comma2) (stays bs k LINE (held (stopped k LINE) run records) refl)

    one-letter : (b : ℕ) → eqb b LF ≡ false → eqb b COMMA ≡ false → fed (b ∷ []) (held (at_line k u) run records) ≡ held (begun_as (shape_of (b ∷ [])) (at_line k u)) run records
    unfolding machine.fed machine.stepped machine.other_step
    one-letter b lf comma = rw (lf, comma)

    letter-first : (letter : List ℕ) (fs : List (List ℕ)) (h : Held) → fed (joined COMMA (letter ∷ fs)) h ≡ fed_rest fs (fed letter h)
    letter-first letter [] h = only-field letter h
    letter-first letter (g ∷ gs) h = after-comma letter g gs h

    no-letter : (fs : List (List ℕ)) → state_in (stepped LF (fed_rest fs (fed [] (held (at_line k u) run records)))) ≡ stopped k LINE
    unfolding machine.fed machine.stepped machine.end_step machine.comma_step
    no-letter [] = refl
    no-letter (g ∷ gs) = refused-rest (joined COMMA (g ∷ gs)) k LINE (held (stopped k LINE) run records) refl

    of-fields : (fields : List (List ℕ)) → Some fields → AllPlain fields
        → LineLeft six_line (of_fields fields) (stepped LF (fed (joined COMMA fields) (held (at_line k u) run records)))
    of-fields ([] ∷ fs) some-part (plains-cons p ps) = rw (letter-first [] fs (held (at_line k u) run records)) (no-letter fs)
    of-fields ((b ∷ []) ∷ fs) some-part (plains-cons (plain-cons lf comma p) ps) =
        rw (letter-first (b ∷ []) fs (held (at_line k u) run records), one-letter b lf comma) (behind-letter (shape_of (b ∷ [])) (all_known b) fs ps)
    of-fields ((b ∷ x ∷ bs) ∷ fs) some-part (plains-cons (plain-cons lf comma (plain-cons lf2 comma2 p)) ps) =
        rw (letter-first (b ∷ x ∷ bs) fs (held (at_line k u) run records)) (refused-fields fs (fed (b ∷ x ∷ bs) (held (at_line k u) run records)) (two-letters b x bs lf comma lf2 comma2))
    of-fields [] x'' _ = elim x'' [ ]

    pub line : (l : List ℕ) → Free LF l → LineLeft six_line (line_of l) (stepped LF (fed l (held (at_line k u) run records)))
    line l f =
        subst (λ (x : List ℕ). LineLeft six_line (line_of l) (stepped LF (fed x (held (at_line k u) run records)))) (joined-parts COMMA l)
        (of-fields (parted COMMA l) (some-parts COMMA l) (plain-fields l f))
