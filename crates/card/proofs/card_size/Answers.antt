-- `card::card_size` meets its contract: question by question, as reading the row would ask.
use Prim.Native.Nat.{◌≤◌}
use mathlib.Core.Bool.{true}
use mathlib.Core.Path.{◌≡◌, sym, ap, ◌∙◌}
use borrow.Author.Tests.{lt-ltb, le-ltb, lt-leb}
use Rattle.layout.specs.Write.{wrote}
use Rattle.rows.specs.Checks.{caps_known}
use Rattle.card.proofs.Image.{bad-caps, long-name, bad-name, name-long, whole}
use Rattle.card.proofs.card_size.Goals as goal
use Rattle.card.proofs.card_size.Goals.{Else-card-ge4, Else-n-gt-MAX_NAME_LEN}

known : (c : Else-card-ge4) → caps_known c.args.card.caps ≡ true
known c = lt-ltb _ _ c.if-card-ge4.false

few : (c : Else-n-gt-MAX_NAME_LEN) → c.args.card.name_len ≤ 48
few c = rw c.from-n.ensures at c.if-n-gt-MAX_NAME_LEN.false

pub returns-then-card-ge4 : goal.returns-then-card-ge4
returns-then-card-ge4 c = sym (bad-caps c.args.card c.typed.ensures (le-ltb _ _ c.if-card-ge4.true))

pub returns-then-n-gt-MAX_NAME_LEN : goal.returns-then-n-gt-MAX_NAME_LEN
returns-then-n-gt-MAX_NAME_LEN c =
    sym (long-name c.args.card c.typed.ensures (known (goal.at.returns-then-n-gt-MAX_NAME_LEN c).Else-card-ge4) (lt-leb _ _ (rw c.from-n.ensures at c.if-n-gt-MAX_NAME_LEN.true)))

pub slice_bounds-is_utf8-end : goal.slice_bounds-is_utf8-end
slice_bounds-is_utf8-end c = rw c.from-n.ensures (sym (name-long c.args.card c.typed.ensures (few (goal.at.slice_bounds-is_utf8-end c).Else-n-gt-MAX_NAME_LEN)))

pub returns-then-not-is_utf8 : goal.returns-then-not-is_utf8
returns-then-not-is_utf8 c =
    let here = goal.at.returns-then-not-is_utf8 c in
    sym (bad-name c.args.card c.typed.ensures (known here.Else-card-ge4) (few here.Else-n-gt-MAX_NAME_LEN) (sym (rw c.from-n.ensures at c.is_utf8.ensures) ∙ c.if-not-is_utf8.true))

pub returns : goal.returns
returns c =
    let here = goal.at.returns c in
    sym (whole c.args.card c.typed.ensures (known here.Else-card-ge4) (few here.Else-n-gt-MAX_NAME_LEN) (sym (rw c.from-n.ensures at c.is_utf8.ensures) ∙ c.if-not-is_utf8.false) ∙ ap wrote (sym c.card_len.ensures))
