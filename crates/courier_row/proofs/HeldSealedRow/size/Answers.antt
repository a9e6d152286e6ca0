-- `Held::size` meets its contract: question by question, as reading the row would ask.
use mathlib.Core.Bool.{true, not}
use mathlib.Core.Path.{◌≡◌, sym, ap, ◌∙◌}
use lib.ListN.{length}
use borrow.Author.Tests.{eq-eqb, ne_eqb}
use Rattle.layout.specs.Write.{wrote}
use Rattle.rows.specs.Checks.{sealed_carried, not_zero}
use Rattle.courier_row.proofs.Image.{whole-tombstone, length-tombstone, bad-expiry, bad-copies, bad-length, whole-carried, length-carried}
use Rattle.courier_row.proofs.HeldSealedRow.size.Goals as goal

pub returns-in_default : goal.returns-in_default
returns-in_default c =
    sym (whole-tombstone c.args.self c.typed.ensures c.args.sealed.now c.in_default.is ∙ ap wrote (length-tombstone c.args.self c.typed.ensures))

pub returns-then-self-eq0 : goal.returns-then-self-eq0
returns-then-self-eq0 c =
    sym (bad-expiry c.args.self c.typed.ensures c.args.sealed.now c.in-Carried.is (ap not (eq-eqb _ _ c.if-self-eq0.true)))

pub returns-then-self-eq0-2 : goal.returns-then-self-eq0-2
returns-then-self-eq0-2 c =
    let expires : not_zero c.args.self.expiry_min ≡ true = ap not (ne_eqb _ _ c.if-self-eq0.false) in
    sym (bad-copies c.args.self c.typed.ensures c.args.sealed.now c.in-Carried.is expires (ap not (eq-eqb _ _ c.if-self-eq0-2.true)))

pub returns : goal.returns
returns c =
    let expires : not_zero c.args.self.expiry_min ≡ true = ap not (ne_eqb _ _ c.if-self-eq0.false) in
    let copied : not_zero c.args.self.copies ≡ true = ap not (ne_eqb _ _ c.if-self-eq0-2.false) in
    let allowed : sealed_carried (length c.args.sealed.now) ≡ true = sym c.sealed_carried.ensures ∙ c.if-not-sealed_carried.false in
    sym (whole-carried c.args.self c.typed.ensures c.args.sealed.now expires copied allowed c.in-Carried.is
    ∙ ap wrote (length-carried c.args.self c.typed.ensures c.args.sealed.now))

pub returns-then-not-sealed_carried : goal.returns-then-not-sealed_carried
returns-then-not-sealed_carried c =
    let expires : not_zero c.args.self.expiry_min ≡ true = ap not (ne_eqb _ _ c.if-self-eq0.false) in
    let copied : not_zero c.args.self.copies ≡ true = ap not (ne_eqb _ _ c.if-self-eq0-2.false) in
    sym (bad-length c.args.self c.typed.ensures c.args.sealed.now c.in-Carried.is expires copied
    (sym c.sealed_carried.ensures ∙ c.if-not-sealed_carried.true))
