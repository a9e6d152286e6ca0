-- `Contact::decode` meets its contract: checked, then counted and filled, then copied; a refusal changes nothing.
use Rattle.std.proofs.Common.{rules, ◌≡◌, Err}
use mathlib.Core.Path.{refl, ◌∙◌}
use Rattle.layout.specs.Layout.{accepted}
use Rattle.contact.specs.Contact.{held_in}
use Rattle.contact.proofs.Checked.{runs-inside}
use Rattle.contact.proofs.Read.{opened-is}
use Rattle.contact.proofs.Contact.decode.Goals as goal

pub returns-in_err-checked : goal.returns-in_err-checked
returns-in_err-checked c =
    let no : c.from_residual.result ≡ Err c.in_err-checked.field-0.0 = search rules in
    rw no (opened-is c.args.version c.args.row.now _ c.in_err-checked.ensures refl, (refl, refl, refl, refl, refl))

pub returns-in_err-fill : goal.returns-in_err-fill
returns-in_err-fill c =
    let no : c.from_residual-in_err-fill.result ≡ Err c.in_err-fill.field-0.0 = search rules in
    rw no (opened-is c.args.version c.args.row.now _ c.in_ok-checked.ensures c.in_err-fill.ensures.0, c.in_err-fill.ensures.1)

pub contact_from-requires : goal.contact_from-requires
contact_from-requires c = runs-inside c.in_ok-checked.checked

pub returns : goal.returns
returns c = (
  opened-is c.args.version c.args.row.now _ c.in_ok-checked.ensures
      ((λ i. record { answer = accepted (c.contact_from.ensures i); lists = held_in c.fill.new.lists }) ∙ c.in_ok-fill.ensures.0),
  c.in_ok-fill.ensures.1,
)
