-- `contact_parts::card_at` meets its contract: the card's length, its bytes, and then a card that stands alone.
use Rattle.std.proofs.Common.{rules, Err}
use Prim.Native.Nat.{ℕ, ◌+◌, ◌-◌, ◌≤◌}
use mathlib.Core.List.{List, [], ◌++◌}
use mathlib.Core.Bool.{Bool, true, false, cond}
use mathlib.Core.Path.{◌≡◌, refl, sym, ap, ◌∙◌}
use native.Mathlib.Omega.{arith}
use lib.ListN.{length, take, drop, length-append, length-drop}
use lib.Seq.{length-take-le}
use lib.Dec.{leb}
use Rattle.layout.specs.Questions.{FIELD, CARD_END}
use Rattle.layout.specs.Read.{value, refused}
use Rattle.layout.specs.Veil.{plain}
use Rattle.layout.specs.Form.{bytes, u16}
use Rattle.layout.specs.Field.{takes, read_at}
use Rattle.layout.specs.Layout.{group, sized, sized_layout, read_row}
use Rattle.layout.specs.Layout as layout
use Rattle.layout.specs.RowLaws.{Bytes}
use Rattle.layout.proofs.Lawful.{value≢refused}
use Rattle.layout.proofs.Front.{number-lawful, length-bytes_of}
use Rattle.layout.proofs.Derived.{sized-lawful}
use Rattle.layout.proofs.At.{took, took-next, bytes_next, refused-at, typed}
use Rattle.layout.proofs.Steps.{in_row, sized-no-length, sized-short, sized-part}
use Rattle.rows.specs.Values.{Card}
use Rattle.rows.specs.Rows.{card, card_row}
use Rattle.rows.proofs.Lawful.{card-lawful}
use Rattle.fields.proofs.Runs.{run-took, run_short}
use Rattle.offsets.specs.Offset.{offset}
use Rattle.offsets.proofs.Offset.{not-past, next-is, locates, locates-not}
use Rattle.card.specs.Card.{card_from, Offsets}
use Rattle.card.specs.declared.CardAt.{CardAt}
use Rattle.contact_parts.specs.Offsets.{card_at}
use Rattle.contact_parts.proofs.card_at.Goals as goal
use Rattle.contact_parts.proofs.card_at.Goals.{In_ok-start}

-- its place: behind the length, up to where it ends
sized-long : (c : Card) → length ((sized (group card) CARD_END).print c) ≡ offset (sized_layout (group card) CARD_END) 2 c
unfolding layout.print
sized-long c =
    length-append (u16.print (length ((group card).print c))) ((group card).print c ++ [])
    ∙ ap (λ (n : ℕ). length (u16.print (length ((group card).print c))) + n) (length-append ((group card).print c) [])

its-place : (from : ℕ) (input : List ℕ) (n : CardAt) → Offsets input n → {start end : ℕ} → start ≡ from + 2 → end ≡ from + length ((sized (group card) CARD_END).print (card_from input n))
    → record { start = start; end = end; at = n } ≡ card_at from (card_from input n)
its-place from input n runs {start} {end} begins ends =
    let c = card_from input n in
    let first : start ≡ from + offset (sized_layout (group card) CARD_END) 1 c = omega (arith, begins, length-bytes_of 2 (length ((group card).print c))) in
    let last : end ≡ from + offset (sized_layout (group card) CARD_END) 2 c = omega (arith, ends, sized-long c) in
    let name : length (take n.name_len (drop 38 input)) ≡ n.name_len = length-take-le n.name_len (drop 38 input) (rw length-drop (omega (arith, runs.name))) in
    λ i. record { start = first i; end = last i; at = record { caps = n.caps; beacon_day = n.beacon_day; name_len = sym name i } }

-- a run is refused by one question
only-field : (n : ℕ) (rest : List ℕ) {q : ℕ} → (bytes plain n).read rest ≡ refused q → q ≡ FIELD
only-field n rest {q} e = go (leb n (length rest)) e
  where
    go : (t : Bool) → cond t (value (take n rest) (drop n rest)) (refused FIELD) ≡ refused q → q ≡ FIELD
    go true e = absurd (value≢refused e)
    go false e = let same : FIELD ≡ q = cc in sym same

-- the run that was taken is as long as its length says
taken : (c : In_ok-start) → read_at (bytes plain c.in_ok-len.len) c.args.row.now c.in_ok-len.mid ≡ takes (take c.in_ok-len.len (drop c.in_ok-start.start c.args.row.now)) c.in_ok-start.end
taken c = rw c.from.ensures at (sym c.in_ok-start.ensures.0)

-- the card's part lies in the row, and what is read of the card is what that part alone is read as
inside : (c : In_ok-start) → c.in_ok-start.end ≤ length c.args.row.now
inside c = (run-took _ _ plain c.in_ok-len.len (typed _ c.type_inv.row) (taken c)).inside

abbrev part : In_ok-start → List ℕ
part c = take (c.in_ok-start.end - c.in_ok-start.start) (drop c.in_ok-start.start c.args.row.now)

reads : (c : In_ok-start) → (sized (group card) CARD_END).read (drop c.args.at c.args.row.now) ≡ in_row (group card) CARD_END (drop c.in_ok-start.end c.args.row.now) (read_row card_row (part c))
reads c =
    let by : Bytes c.args.row.now = typed _ c.type_inv.row in
    let len-took = took c.args.row.now c.args.at u16 (number-lawful 2) by (sym c.in_ok-len.ensures) in
    let long : c.in_ok-start.end - c.in_ok-start.start ≡ c.in_ok-len.len = omega (arith, c.in_ok-start.ensures.1, c.from.ensures) in
    rw long (sized-part (group card) CARD_END c.args.row.now _ len-took plain (run-took _ _ plain c.in_ok-len.len by (taken c)))

pub returns-in_err-len : goal.returns-in_err-len
returns-in_err-len c =
    let told : c.from_residual.result ≡ Err c.in_err-len.field-0.0 = search rules in
    rw told (locates-not _ _ (sized (group card) CARD_END) (card_at _) (sized-no-length (group card) CARD_END c.args.row.now c.args.at (refused-at _ _ u16 (sym c.in_err-len.ensures))))

pub returns-in_err-start : goal.returns-in_err-start
returns-in_err-start c =
    let told : c.from_residual-in_err-start.result ≡ Err c.in_err-start.field-0.0 = search rules in
    let len-took = took c.args.row.now c.args.at u16 (number-lawful 2) (typed _ c.type_inv.row) (sym c.in_ok-len.ensures) in
    let short = run_short c.args.row.now c.in_ok-len.mid plain c.in_ok-len.len (rw c.from.ensures at (sym c.in_err-start.ensures.0)) in
    let which = only-field c.in_ok-len.len (drop c.in_ok-len.mid c.args.row.now) short in
    rw (told, which) (locates-not _ _ (sized (group card) CARD_END) (card_at _) (sized-short (group card) CARD_END c.args.row.now _ len-took plain (short ∙ ap refused which)))

pub slice_bounds-check_card-end : goal.slice_bounds-check_card-end
slice_bounds-check_card-end c = omega (arith, c.in_ok-start.ensures.1, inside (goal.at.slice_bounds-check_card-end c).In_ok-start)

pub returns-in_err-at : goal.returns-in_err-at
returns-in_err-at c =
    let told : c.from_residual-in_err-at.result ≡ Err c.in_err-at.field-0.0 = search rules in
    let stop = reads (goal.at.returns-in_err-at c).In_ok-start ∙ ap (in_row (group card) CARD_END (drop c.in_ok-start.end c.args.row.now)) (sym c.in_err-at.ensures.0) in
    rw told (locates-not _ _ (sized (group card) CARD_END) (card_at _) stop)

pub returns : goal.returns
returns c =
    let by : Bytes c.args.row.now = typed _ c.type_inv.row in
    let from = c.args.at in
    let ends = inside (goal.at.returns c).In_ok-start in
    let all = reads (goal.at.returns c).In_ok-start ∙ ap (in_row (group card) CARD_END (drop c.in_ok-start.end c.args.row.now)) (sym c.in_ok-at.ensures.0) in
    let len-read = sym c.in_ok-len.ensures in
    let mid-is = took-next _ _ u16 (number-lawful 2) by len-read (not-past _ _ u16 refl len-read) in
    let start_is = bytes_next _ _ c.in_ok-len.len plain by (taken (goal.at.returns c).In_ok-start) (took _ _ u16 (number-lawful 2) by len-read).inside in
    let end_is = next-is c.args.row.now from (sized (group card) CARD_END) (sized-lawful (group card) card-lawful CARD_END) by (not-past _ _ u16 refl len-read)
    {b = card_from (part (goal.at.returns c).In_ok-start) c.in_ok-at.at} (record { reads = all; inside = ends; onward = λ l. omega (arith, l, mid-is, start_is) }) in
    locates _ _ (sized (group card) CARD_END) (card_at _) all ends
    (its-place from (part (goal.at.returns c).In_ok-start) c.in_ok-at.at c.in_ok-at.ensures.1 (omega (arith, c.in_ok-start.ensures.1, c.from.ensures, start_is, mid-is, length-bytes_of 2 c.in_ok-len.len)) end_is)
