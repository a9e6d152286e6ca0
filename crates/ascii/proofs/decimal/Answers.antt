-- `ascii::decimal` meets its contract: the first digit, and the others behind it.
use Rattle.std.proofs.Common.{rules, ◌≡◌, None, sym, ◌∙◌, arith}
use Rattle.ascii.proofs.Decimals.{no_text, first-none, first_some}
use Rattle.ascii.proofs.Words.{whole-rest}
use Rattle.ascii.proofs.decimal.Goals as goal

pub returns-in_default : goal.returns-in_default
returns-in_default c = sym (no_text _ _ (omega arith))

pub returns-in_err-n : goal.returns-in_err-n
returns-in_err-n c =
    let no : c.from_residual.result ≡ None = search rules in
    rw no (sym (first-none _ _ (λ e. omega arith) (sym c.in_err-n.ensures)))

pub returns : goal.returns
returns c =
    let text = c.args.text.now in
    let said = first_some c.args.highest text c.in_ok-n.n (λ e. omega arith) (sym c.in_ok-n.ensures) in
    c.digits.ensures ∙ rw (whole-rest text 1) (sym said)
