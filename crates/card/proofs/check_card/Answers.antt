-- `card::check_card` meets its contract: along the layout, the row's fields are what was taken so far.
use Rattle.std.proofs.Common.{rules, ◌≡◌, ◌+◌, ◌-◌, ◌≤◌, ◌<◌, ℕ, List, length, take, drop, Err, arith}
use mathlib.Core.Bool.{cond}
use mathlib.Core.Option.{none, some}
use mathlib.Core.Path.{refl, sym, ap, ◌∙◌}
use borrow.Author.Tests.{lt-ltb, le-ltb, le-leb, lt-leb}
use Rattle.layout.specs.Questions.{CARD_END}
use Rattle.layout.specs.Veil.{plain, veiled}
use Rattle.layout.specs.Form.{bytes, u8, u32, only_if}
use Rattle.layout.specs.Field.{Field, takes, refuses, read_at}
use Rattle.layout.specs.Layout.{Layout, Answer, accepted, refused_by, done, end, read_row}
use Rattle.layout.specs.RowLaws.{Bytes}
use Rattle.layout.proofs.Front.{bytes-lawful, number-lawful}
use Rattle.layout.proofs.Parts.{only_if-lawful}
use Rattle.layout.proofs.Ends.{no_more-lawful}
use Rattle.layout.proofs.At.{typed, took, number-next}
use Rattle.layout.proofs.Along.{Fields, on, along, asked_of, row-along, part-along, ends, goes_past}
use Rattle.layout.proofs.Walk.{Comes, start, goes, stops, runs, cut, granted, denied, all}
use Rattle.rows.specs.Values as value
use Rattle.rows.specs.Utf8.{utf8}
use Rattle.rows.specs.Checks.{kci}
use Rattle.rows.specs.Rows.{card, card_row}
use Rattle.rows.proofs.Lawful.{card-lawful}
use Rattle.fields.proofs.Runs.{run-stands}
use Rattle.card.specs.Card.{card_from}
use Rattle.card.proofs.check_card.Goals as goal
use Rattle.card.proofs.check_card.Goals.{Else-name_bytes-gt-MAX_NAME_LEN, In_ok-name, After-is_utf8}

card-fields : Fields card
card-fields = (
  number-lawful 1,
  λ caps. (
    number-lawful 4,
    λ day. (
      bytes-lawful veiled 32,
      λ key. (
        number-lawful 1,
        λ len. (
          bytes-lawful plain len,
          λ name.
              (only_if-lawful (bytes plain 1184) (bytes-lawful plain 1184) (kci caps), λ ek. tt),
        ),
      ),
    ),
  ),
)

-- a card, and nothing behind it
module _ (row : List ℕ) (by : Bytes row) where
  abbrev then_ends : Field value.Card → Answer value.Card
  then_ends x = asked_of (on x (λ c next. along (end CARD_END (done c)) row next))

  reads : then_ends (along card row 0) ≡ read_row card_row row
  reads =
      ap then_ends (sym (part-along row by card card-fields 0 tt))
      ∙ sym (row-along row by card_row (card-lawful, λ c. (no_more-lawful CARD_END, λ u. tt)) tt)

  refused : {q : ℕ} → refuses q ≡ along card row 0 → refused_by q ≡ read_row card_row row
  refused e = ap then_ends e ∙ reads

  module _ {c : value.Card} {next : ℕ} (e : takes c next ≡ along card row 0) where
    more : next < length row → refused_by CARD_END ≡ read_row card_row row
    more past = sym (rw (goes_past row next CARD_END past) refl) ∙ ap then_ends e ∙ reads

    whole : length row ≤ next → accepted c ≡ read_row card_row row
    whole past = sym (rw (ends row next CARD_END past) refl) ∙ ap then_ends e ∙ reads

-- where the runs stand
places : (row : List ℕ) (caps day len : ℕ) {key name ek : ℕ} → key ≡ 5 → name ≡ 38 → ek ≡ 38 + len
    → ◌≡◌ {A = Answer value.Card} (accepted (card_from row (record { beacon_day = day; caps = caps; name_len = len })))
    (accepted (record { caps = caps; beacon_day = day; beacon_key = take 32 (drop key row); name = take len (drop name row); static_ek = cond (kci caps) (some (take 1184 (drop ek row))) none }))
places row caps day len key-at name-at ek-at = rw (key-at, name-at, ek-at) refl

-- how far the card was read, and what is left to read of it
abbrev Came : List ℕ → ℕ → Type 1
Came row at = (rest : Layout value.Card) × Comes card row 0 rest at

module _ {row : List ℕ} {caps at1 : ℕ} (read-caps : takes caps at1 ≡ read_at u8 row 0) where
  abbrev behind-caps : Came row at1
  behind-caps = (_, goes (start card row 0) read-caps)

  module _ (known : caps < 4) {day at2 : ℕ} (read-day : takes day at2 ≡ read_at u32 row at1) where
    abbrev behind-day : Came row at2
    behind-day = (_, goes (granted behind-caps.1 (lt-ltb _ _ known)) read-day)

    module _ {key : List ℕ} {at3 : ℕ} (read-key : takes key at3 ≡ read_at (bytes plain 32) row at2) where
      abbrev behind-key : Came row at3
      behind-key = (_, runs veiled 32 behind-day.1 read-key)

      module _ {len at4 : ℕ} (read-len : takes len at4 ≡ read_at u8 row at3) where
        abbrev behind-length : Came row at4
        behind-length = (_, goes behind-key.1 read-len)

        module _ (short : len ≤ 48) {name : List ℕ} {at5 : ℕ} (read-name : takes name at5 ≡ read_at (bytes plain len) row at4) where
          abbrev behind-name : Came row at5
          behind-name = (_, goes (granted behind-length.1 (le-leb _ _ short)) read-name)

-- the name, of as many bytes as its length says
short : (c : Else-name_bytes-gt-MAX_NAME_LEN) → c.in_ok-name_len.name_len ≤ 48
short c = rw c.from-name_bytes.ensures at c.if-name_bytes-gt-MAX_NAME_LEN.false

module _ (c : In_ok-name) where
  took-name : takes (take c.in_ok-name_len.name_len (drop c.in_ok-name.name c.args.input.now)) c.in_ok-name.at5 ≡ read_at (bytes plain c.in_ok-name_len.name_len) c.args.input.now c.in_ok-name_len.at4
  took-name = rw c.from-name_bytes.ensures at c.in_ok-name.ensures.0

  inside : c.in_ok-name.at5 ≤ length c.args.input.now
  inside =
      (took c.args.input.now c.in_ok-name_len.at4 (bytes plain c.in_ok-name_len.name_len) (bytes-lawful plain c.in_ok-name_len.name_len) (typed _ c.type_inv.input) (sym took-name)).inside

  abbrev name-came : Came c.args.input.now c.in_ok-name.at5
  name-came =
      behind-name c.in_ok-caps.ensures c.if-caps-ge4.false c.in_ok-beacon_day.ensures c.in_ok-_beacon_key.ensures.0 c.in_ok-name_len.ensures
      (rw c.from-name_bytes.ensures at c.if-name_bytes-gt-MAX_NAME_LEN.false) took-name

-- the bytes that are asked about are the name's
answered : (c : After-is_utf8) → c.is_utf8.result ≡ utf8 (take c.in_ok-name_len.name_len (drop c.in_ok-name.name c.args.input.now))
answered c =
    let long : c.in_ok-name.at5 - c.in_ok-name.name ≡ c.in_ok-name_len.name_len = omega (arith, c.in_ok-name.ensures.1, c.from-name_bytes.ensures) in
    rw long at c.is_utf8.ensures

pub returns-in_err-caps : goal.returns-in_err-caps
returns-in_err-caps c =
    let told : c.from_residual.result ≡ Err c.in_err-caps.field-0.0 = search rules in
    rw told (refused c.args.input.now (typed _ c.type_inv.input) (stops (start card c.args.input.now 0) c.in_err-caps.ensures), tt)

pub returns-then-caps-ge4 : goal.returns-then-caps-ge4
returns-then-caps-ge4 c =
    (refused c.args.input.now (typed _ c.type_inv.input) (denied (behind-caps c.in_ok-caps.ensures).1 (le-ltb _ _ c.if-caps-ge4.true)), tt)

pub returns-in_err-beacon_day : goal.returns-in_err-beacon_day
returns-in_err-beacon_day c =
    let told : c.from_residual-in_err-beacon_day.result ≡ Err c.in_err-beacon_day.field-0.0 = search rules in
    let here = behind-caps c.in_ok-caps.ensures in
    rw told (refused c.args.input.now (typed _ c.type_inv.input) (stops (granted here.1 (lt-ltb _ _ c.if-caps-ge4.false)) c.in_err-beacon_day.ensures), tt)

pub returns-in_err-_beacon_key : goal.returns-in_err-_beacon_key
returns-in_err-_beacon_key c =
    let told : c.from_residual-in_err-_beacon_key.result ≡ Err c.in_err-_beacon_key.field-0.0 = search rules in
    let here = behind-day c.in_ok-caps.ensures c.if-caps-ge4.false c.in_ok-beacon_day.ensures in
    rw told (refused c.args.input.now (typed _ c.type_inv.input) (cut veiled 32 here.1 c.in_err-_beacon_key.ensures.0), tt)

pub returns-in_err-name_len : goal.returns-in_err-name_len
returns-in_err-name_len c =
    let told : c.from_residual-in_err-name_len.result ≡ Err c.in_err-name_len.field-0.0 = search rules in
    let here = behind-key c.in_ok-caps.ensures c.if-caps-ge4.false c.in_ok-beacon_day.ensures c.in_ok-_beacon_key.ensures.0 in
    rw told (refused c.args.input.now (typed _ c.type_inv.input) (stops here.1 c.in_err-name_len.ensures), tt)

pub returns-then-name_bytes-gt-MAX_NAME_LEN : goal.returns-then-name_bytes-gt-MAX_NAME_LEN
returns-then-name_bytes-gt-MAX_NAME_LEN c =
    (refused c.args.input.now (typed _ c.type_inv.input) (denied (behind-length c.in_ok-caps.ensures c.if-caps-ge4.false c.in_ok-beacon_day.ensures c.in_ok-_beacon_key.ensures.0 c.in_ok-name_len.ensures).1 (lt-leb _ _ (rw c.from-name_bytes.ensures at c.if-name_bytes-gt-MAX_NAME_LEN.true))), tt)

pub returns-in_err-name : goal.returns-in_err-name
returns-in_err-name c =
    let told : c.from_residual-in_err-name.result ≡ Err c.in_err-name.field-0.0 = search rules in
    let here = behind-length c.in_ok-caps.ensures c.if-caps-ge4.false c.in_ok-beacon_day.ensures c.in_ok-_beacon_key.ensures.0 c.in_ok-name_len.ensures in
    rw told (refused c.args.input.now (typed _ c.type_inv.input) (stops (granted here.1 (le-leb _ _ (short (goal.at.returns-in_err-name c).Else-name_bytes-gt-MAX_NAME_LEN))) (rw c.from-name_bytes.ensures at c.in_err-name.ensures.0)), tt)

pub slice_bounds-is_utf8-end : goal.slice_bounds-is_utf8-end
slice_bounds-is_utf8-end c = omega (arith, c.in_ok-name.ensures.1, inside (goal.at.slice_bounds-is_utf8-end c).In_ok-name)

pub returns-then-not-is_utf8 : goal.returns-then-not-is_utf8
returns-then-not-is_utf8 c =
    let at = goal.at.returns-then-not-is_utf8 c in
    (refused c.args.input.now (typed _ c.type_inv.input) (denied (name-came at.In_ok-name).1 (sym (answered at.After-is_utf8) ∙ c.if-not-is_utf8.true)), tt)

pub static_ek_at-requires : goal.static_ek_at-requires
static_ek_at-requires c = inside (goal.at.static_ek_at-requires c).In_ok-name

pub returns-in_err-at6 : goal.returns-in_err-at6
returns-in_err-at6 c =
    let told : c.from_residual-in_err-at6.result ≡ Err c.in_err-at6.field-0.0 = search rules in
    let at = goal.at.returns-in_err-at6 c in
    rw told (refused c.args.input.now (typed _ c.type_inv.input) (stops (granted (name-came at.In_ok-name).1 (sym (answered at.After-is_utf8) ∙ c.if-not-is_utf8.false)) c.in_err-at6.ensures.0), tt)

pub returns-then-at6-input : goal.returns-then-at6-input
returns-then-at6-input c =
    let at = goal.at.returns-then-at6-input c in
    (more c.args.input.now (typed _ c.type_inv.input) (all (goes (granted (name-came at.In_ok-name).1 (sym (answered at.After-is_utf8) ∙ c.if-not-is_utf8.false)) c.in_ok-at6.ensures.0)) c.if-at6-input.true, tt)

pub returns : goal.returns
returns c =
    let at = goal.at.returns c in
    let row : List ℕ = c.args.input.now in
    let by : Bytes row = typed row c.type_inv.input in
    let len = c.in_ok-name_len.name_len in
    let caps-took = took row 0 u8 (number-lawful 1) by (sym c.in_ok-caps.ensures) in
    let day-took = took row _ u32 (number-lawful 4) by (sym c.in_ok-beacon_day.ensures) in
    let behind-caps = number-next row 0 1 by (sym c.in_ok-caps.ensures) (omega arith) in
    let behind-day = number-next row _ 4 by (sym c.in_ok-beacon_day.ensures) caps-took.inside in
    let key = run-stands row _ plain 32 by c.in_ok-_beacon_key.ensures.0 c.in_ok-_beacon_key.ensures.1 day-took.inside in
    let behind-len = number-next row _ 1 by (sym c.in_ok-name_len.ensures) (omega (arith, key, c.in_ok-_beacon_key.ensures.1)) in
    let len-took = took row _ u8 (number-lawful 1) by (sym c.in_ok-name_len.ensures) in
    let name-ends : c.in_ok-name.at5 ≡ c.in_ok-name.name + len = rw c.from-name_bytes.ensures at c.in_ok-name.ensures.1 in
    let name = run-stands row _ plain len by (took-name at.In_ok-name) name-ends len-took.inside in
    let key-at : c.in_ok-_beacon_key._beacon_key ≡ 5 = omega (arith, key.0, behind-caps, behind-day) in
    let name-at : c.in_ok-name.name ≡ 38 = omega (arith, key-at, c.in_ok-_beacon_key.ensures.1, behind-len, name.0) in
    let ek-at : c.in_ok-name.at5 ≡ 38 + len = omega (arith, name-at, name-ends) in
    let ek-took = took row _ (only_if (bytes plain 1184) (kci c.in_ok-caps.caps)) (only_if-lawful (bytes plain 1184) (bytes-lawful plain 1184) (kci c.in_ok-caps.caps)) by (sym c.in_ok-at6.ensures.0) in (
      places row c.in_ok-caps.caps c.in_ok-beacon_day.beacon_day len key-at name-at ek-at ∙ whole row by (all (goes (granted (name-came at.In_ok-name).1 (sym (answered at.After-is_utf8) ∙ c.if-not-is_utf8.false)) c.in_ok-at6.ensures.0)) c.if-at6-input.false,
      record {
        name_len = short at.Else-name_bytes-gt-MAX_NAME_LEN;
        name = omega (arith, name-at, name.1);
        static_ek = λ set. omega (arith, ek-at, ek-took.inside, c.in_ok-at6.ensures.1 set);
      },
    )
