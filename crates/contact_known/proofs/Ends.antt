-- Where the parts of a contact row end that were read: by the lengths that stand in them, whatever else does.
-- Assumes nothing.
use Prim.Native.Nat.{ℕ, ◌+◌, ◌*◌, ◌≤◌}
use mathlib.Core.List.{List, []}
use mathlib.Core.Bool.{Bool, true, false, cond}
use mathlib.Core.Option.{Option, none, some}
use mathlib.Core.Path.{◌≡◌, refl, sym, ap, subst, ◌∙◌}
use native.Mathlib.Omega.{arith}
use lib.ListN.{length, take, drop, length-append}
use Rattle.std.specs.Prelude.{Result, Ok, Err}
use Rattle.layout.specs.declared.question.Question.{Question}
use Rattle.layout.specs.Questions.{FIELD, CARD_END}
use Rattle.layout.specs.Veil.{plain}
use Rattle.layout.specs.Form.{Form, bytes, flag, u16, u32}
use Rattle.layout.specs.Field.{Field, takes, refuses, read_at}
use Rattle.layout.specs.Layout.{group, print, present, optional, optional_layout, list, list_layout, sized, sized_layout}
use Rattle.layout.specs.Layout as layout
use Rattle.layout.specs.RowLaws.{Bytes}
use Rattle.layout.proofs.Front.{number-lawful, flag-lawful, length-bytes_of}
use Rattle.layout.proofs.Derived.{list_lawful}
use Rattle.layout.proofs.At.{took, took-next, bytes-in}
use Rattle.rows.specs.Values.{Chain, Range}
use Rattle.rows.specs.Rows.{card, pending, send, chain, skipped, range}
use Rattle.rows.proofs.Lawful.{chain-lawful, skipped-lawful, range-lawful}
use Rattle.offsets.specs.Offset.{offset}
use Rattle.offsets.proofs.Offset.{Stands, stands, stands_read, field-stands, offset-inside, whole, not-past, optional-stands}
use Rattle.contact_lists.specs.Lists.{list_says, ListedAt}
use Rattle.contact_lists.specs.declared.ListAt.{ListAt}
use Rattle.contact_parts.specs.Parts.{Paired, paired, Chained, chained, Numbers, numbers}
use Rattle.contact_parts.specs.Offsets.{list_at, list_in, numbers_at}
use Rattle.contact_parts.proofs.Lawful.{paired-lawful, chained-lawful, numbers-lawful}
use Rattle.contact_parts.proofs.Lists.{list-starts}
use Rattle.contact_lent.proofs.Offsets.{length-exact}
use Rattle.contact_known.specs.Known.{EndsBehindFlag}

-- a field is read one way only
module _ {B : Type 0} {x : Field B} {b : B} {next : ℕ} (read : x ≡ takes b next) where
  pub never : {q : ℕ} → x ≡ refuses q → ⊥
  never e = let is = sym read ∙ e in let z : ◌≡◌ {A = ℕ} 0 1 = cc in omega arith

  pub once : {b' : B} {next' : ℕ} → x ≡ takes b' next' → (b ≡ b') × (next ≡ next')
  once e = let is = sym read ∙ e in (cc, cc)

pub ok_is : {A E : Type 0} {a b : A} → ◌≡◌ {A = Result A E} (Ok a) (Ok b) → a ≡ b
ok_is e = cc

-- n bytes, up to a place in the row
run-to : (row : List ℕ) (start n next : ℕ) → start + n ≡ next → next ≤ length row → read_at (bytes plain n) row start ≡ takes (take n (drop start row)) next
run-to row start n next ends inside = bytes-in row start n plain (omega (arith, ends, inside)) ∙ ap (λ (m : ℕ). takes (take n (drop start row)) m) ends

-- a flag, and n bytes behind it if it is 1
module _ (row : List ℕ) where
  module _ (at n : ℕ) {present : Bool} {start : ℕ} (said : read_at flag row at ≡ takes present start) {t : Bool} {next : ℕ} (read : read_at flag row at ≡ takes t next) where
    abbrev flagged-end : ℕ
    flagged-end = cond t (next + n) next

    pub flagged-run : present ≡ true → flagged-end ≤ length row → read_at (bytes plain n) row start ≡ takes (take n (drop start row)) flagged-end
    flagged-run set inside =
        let is = once said read in
        run-to row start n flagged-end (ap (λ (m : ℕ). m + n) is.1 ∙ ap (λ (b : Bool). cond b (next + n) next) (sym set ∙ is.0)) inside

    pub flagged-none : present ≡ false → start ≡ flagged-end
    flagged-none clear = let is = once said read in is.1 ∙ ap (λ (b : Bool). cond b (next + n) next) (sym clear ∙ is.0)

module _ (row : List ℕ) (by : Bytes row) where
  -- ---- the fields up to the card
  module _ {p : Paired} {next : ℕ} (read : read_at (group paired) row 0 ≡ takes p next) where
    here : Stands (group paired) p row 0
    here = stands (group paired) paired-lawful by read

    abbrev card-long : ℕ
    card-long = length (print card p.card)

    card-at : offset paired 6 p ≡ 83
    card-at = omega (arith, (field-stands row paired 3 p here).fits, (field-stands row paired 4 p here).fits, (field-stands row paired 5 p here).fits)

    -- its length, and then itself
    sized-long : length ((sized (group card) CARD_END).print p.card) ≡ 2 + card-long
    sized-long = sym (whole (sized_layout (group card) CARD_END) p.card) ∙ omega (arith, length-bytes_of 2 card-long)

    card-ends : next ≡ 85 + card-long
    card-ends = omega (arith, took-next row 0 (group paired) paired-lawful by read (omega arith), whole paired p, card-at, sized-long)

    card-inside : next ≤ length row
    card-inside = (took row 0 (group paired) paired-lawful by read).inside

    pub card-counted : read_at u16 row 83 ≡ takes card-long 85
    card-counted =
        let its = field-stands row (sized_layout (group card) CARD_END) 0 p.card (field-stands row paired 6 p here) in
        let there : Stands u16 card-long row 83 = subst (Stands u16 card-long row) (omega (arith, card-at)) its in
        stands_read u16 (number-lawful 2) there (omega (arith, card-ends, card-inside)) ∙ ap (λ (n : ℕ). takes card-long n) (omega (arith, length-bytes_of 2 card-long))

    -- so it is a run from behind its length on
    pub card-run : {len start : ℕ} → read_at u16 row 83 ≡ takes len start → read_at (bytes plain len) row start ≡ takes (take len (drop start row)) next
    card-run {len} {start} e = let is = once card-counted e in run-to row start len next (omega (arith, card-ends, is.0, is.1)) card-inside

  -- ---- a part behind a flag, of n bytes if it is there
  abbrev Long : {B : Type 0} → Form B → ℕ → Type 0
  Long {B} f n = (b : B) (post : List ℕ) → f.fits b post → length (f.print b) ≡ n

  module _ {B : Type 0} (f : Form B) (n : ℕ) (long : Long f n) {at : ℕ} where
    optional-long : (o : Option B) → Stands (optional f) o row at → at + length ((optional f).print o) ≡ cond (present o) (at + 1 + n) (at + 1)
    unfolding layout.print
    optional-long none s = refl
    optional-long (some b) s = omega (arith, long b _ (optional-stands f s).fits, length-append (f.print b) [])

    flag-read : (o : Option B) → Stands (optional f) o row at → at ≤ length row → read_at flag row at ≡ takes (present o) (at + 1)
    flag-read o s past =
        let its = field-stands row (optional_layout f) 0 o s in
        let there : Stands flag (present o) row at = subst (Stands flag (present o) row) (omega arith) its in
        stands_read flag flag-lawful there past

    flag-ends : (o : Option B) → Stands (optional f) o row at → at + length ((optional f).print o) ≤ length row → {r : Result ℕ Question} → EndsBehindFlag n row at r → r ≡ Ok (at + length ((optional f).print o))
    flag-ends o s inside ends =
        let same = optional-long o s in
        ends (present o) (at + 1) (flag-read o s (omega (arith, inside))) (subst (λ (m : ℕ). m ≤ length row) same inside) ∙ ap (λ (m : ℕ). Ok m) (sym same)

  -- ---- the fields from pending to skipped
  pending-long : Long (group pending) 64
  pending-long p post h = sym (whole pending p) ∙ omega (arith, h.0, h.1.0)

  send-long : Long (group send) 38
  send-long s post h = sym (whole send s) ∙ omega (arith, length-bytes_of 1 s.gen, length-bytes_of 4 s.idx, h.1.1.1.0)

  skipped-long : Long (group skipped) 46
  skipped-long k post h = sym (whole skipped k) ∙ omega (arith, length-bytes_of 1 k.gen, length-bytes_of 4 k.idx, h.1.1.1.0, length-bytes_of 8 k.created_s)

  module _ (at : ℕ) {c : Chained} {next : ℕ} (read : read_at (group chained) row at ≡ takes c next) where
    its : Stands (group chained) c row at
    its = stands (group chained) chained-lawful by read

    past : at ≤ length row
    unfolding layout.parse
    past = not-past row at (group chained) {q = FIELD} refl read

    -- field i ends where the next one starts, within the row
    inside-at : (i : ℕ) → at + offset chained i c ≤ length row
    inside-at i = offset-inside row chained i c its past

    -- pending and send
    pub pending-ended : {r : Result ℕ Question} → EndsBehindFlag 64 row at r → r ≡ Ok (at + offset chained 1 c)
    pending-ended ends =
        let there : Stands (optional (group pending)) c.pending row at = subst (Stands (optional (group pending)) c.pending row) (omega arith) (field-stands row chained 0 c its) in
        flag-ends (group pending) 64 pending-long c.pending there (omega (arith, inside-at 1)) ends ∙ ap (λ (n : ℕ). Ok n) (omega arith)

    pub send-ended : {IsSend-at : ℕ} → EndsBehindFlag 64 row at (Ok IsSend-at) → {r : Result ℕ Question} → EndsBehindFlag 38 row IsSend-at r → r ≡ Ok (at + offset chained 2 c)
    send-ended pending-ends {r} ends =
        flag-ends (group send) 38 send-long c.send (field-stands row chained 1 c its) (omega (arith, inside-at 2))
        (subst (λ (n : ℕ). EndsBehindFlag 38 row n r) (ok_is (pending-ended pending-ends)) ends) ∙ ap (λ (n : ℕ). Ok n) (omega arith)

    module _ (IsSend-at chains-at : ℕ) (pending-ends : EndsBehindFlag 64 row at (Ok IsSend-at)) (send-ends : EndsBehindFlag 38 row IsSend-at (Ok chains-at)) where
      chains-there : chains-at ≡ at + offset chained 2 c
      chains-there = ok_is (send-ended pending-ends send-ends)

      -- chains
      pub chains-read : read_at (list (group chain)) row chains-at ≡ takes c.chains (at + offset chained 3 c)
      chains-read =
          ap (read_at (list (group chain)) row) chains-there
          ∙ stands_read (list (group chain)) (list_lawful (group chain) chain-lawful) (field-stands row chained 2 c its) (inside-at 2)
          ∙ ap (λ (n : ℕ). takes c.chains n) (omega arith)

      module _ {chains : List Chain} {Skipped-at : ℕ} (found : read_at (list (group chain)) row chains-at ≡ takes chains Skipped-at) where
        skipped-there : Skipped-at ≡ at + offset chained 3 c
        skipped-there = sym (once chains-read found).1

        -- how many skipped keys there are, and so many bytes
        pub skipped-counted : read_at u16 row Skipped-at ≡ takes (length c.skipped) (Skipped-at + 2)
        skipped-counted =
            let count = length c.skipped in
            let there : Stands u16 count row Skipped-at = subst (Stands u16 count row) (omega (arith, skipped-there)) (field-stands row (list_layout (group skipped)) 0 c.skipped (field-stands row chained 3 c its)) in
            stands_read u16 (number-lawful 2) there (omega (arith, skipped-there, inside-at 3)) ∙ ap (λ (n : ℕ). takes count (Skipped-at + n)) (length-bytes_of 2 count)

        skipped_ends : next ≡ Skipped-at + 2 + 46 * length c.skipped
        skipped_ends =
            let items = field-stands row (list_layout (group skipped)) 1 c.skipped (field-stands row chained 3 c its) in
            let long = length-exact 46 (group skipped) skipped-lawful skipped-long c.skipped items.post items.fits.1 in
            omega (arith, skipped-there, took-next row at (group chained) chained-lawful by read past, whole chained c, whole (list_layout (group skipped)) c.skipped, long, length-bytes_of 2 (length c.skipped))

        pub skipped-run : {count first : ℕ} → read_at u16 row Skipped-at ≡ takes count first → read_at (bytes plain (46 * count)) row first ≡ takes (take (46 * count) (drop first row)) next
        skipped-run {count} {first} e =
            let is = once skipped-counted e in
            run-to row first (46 * count) next (omega (arith, skipped_ends, is.0, is.1)) (took row at (group chained) chained-lawful by read).inside

  -- ---- the fields from peer_acked to unacked
  module _ (at : ℕ) {n : Numbers} {next : ℕ} (read : read_at (group numbers) row at ≡ takes n next) where
    those : Stands (group numbers) n row at
    those = stands (group numbers) numbers-lawful by read

    numbers-inside : (i : ℕ) → at + offset numbers i n ≤ length row
    unfolding layout.parse
    numbers-inside i = offset-inside row numbers i n those (not-past row at (group numbers) {q = FIELD} refl read)

    four-long : offset numbers 4 n ≡ 16
    four-long = omega (arith, length-bytes_of 4 n.peer_acked, length-bytes_of 4 n.peer_read, length-bytes_of 4 n.read_marked, length-bytes_of 4 n.contiguous)

    pub four-run : read_at (bytes plain 16) row at ≡ takes (take 16 (drop at row)) (at + 16)
    four-run = bytes-in row at 16 plain (omega (arith, four-long, numbers-inside 4))

    module _ (above_at : ℕ) (behind-four : above_at ≡ at + 16) where
      pub above-read : read_at (list (group range)) row above_at ≡ takes n.above (at + offset numbers 5 n)
      above-read =
          let there : above_at ≡ at + offset numbers 4 n = omega (arith, behind-four, four-long) in
          ap (read_at (list (group range)) row) there
          ∙ stands_read (list (group range)) (list_lawful (group range) range-lawful) (field-stands row numbers 4 n those) (numbers-inside 4)
          ∙ ap (λ (i : ℕ). takes n.above i) (omega arith)

      module _ {above : List Range} {unacked-at : ℕ} (found : read_at (list (group range)) row above_at ≡ takes above unacked-at) where
        unacked-there : unacked-at ≡ at + offset numbers 5 n
        unacked-there = sym (once above-read found).1

        unacked-read : read_at (list u32) row unacked-at ≡ takes n.unacked (unacked-at + length ((list u32).print n.unacked))
        unacked-read =
            let there : Stands (list u32) n.unacked row unacked-at = subst (Stands (list u32) n.unacked row) (sym unacked-there) (field-stands row numbers 5 n those) in
            stands_read (list u32) (list_lawful u32 (number-lawful 4)) there (omega (arith, unacked-there, numbers-inside 5))

        pub unacked-is : (r : Result ListAt Question) → (list_says u32 row r ≡ read_at (list u32) row unacked-at) × ListedAt u32 row r → r ≡ Ok (numbers_at at n).unacked
        unacked-is (Ok l) said =
            let items : list_in u32 row l ≡ n.unacked = (once (sym said.0) unacked-read).0 in
            ap (λ (l : ListAt). Ok l) (list-starts u32 (number-lawful 4) row by unacked-at l said.0 (omega (arith, unacked-there, numbers-inside 5)) said.1 ∙ (λ i. list_at u32 (unacked-there i) (items i)))
        unacked-is (Err q) said = absurd (never unacked-read (sym said.0))
