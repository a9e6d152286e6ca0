-- `contact::check_contact` meets its contract: the parts' answers, the row's end and the questions 54 and 17 to 24.
use Rattle.std.proofs.Common.{rules, ◌≡◌, Err}
use mathlib.Core.Path.{sym, ap, ◌∙◌}
use borrow.Author.Tests.{eq-eqb, ne_eqb}
use Rattle.layout.proofs.At.{typed}
use Rattle.layout.specs.Layout.{accepted}
use Rattle.layout.specs.Says.{made}
use Rattle.contact.specs.Check.{contact_at}
use Rattle.contact.proofs.Parted.{PairedRead, KeysRead, ChainedRead, NumbersRead}
use Rattle.contact.proofs.Parted.{version-stop, paired-stop, keys-stop, chained-stop, numbers-stop, end-stop, lists-inside, all_read, asked-last}
use Rattle.contact.proofs.check_contact.Goals as goal
use Rattle.contact.proofs.check_contact.Goals.{In_ok-paired, In_ok-keys, In_ok-chained, In_ok-numbers}

-- the parts that were read so far
paired : (c : In_ok-paired) → PairedRead c.args.version c.args.row.now c.in_ok-paired.paired c.in_ok-paired.at1
paired c = record { by = typed c.args.row.now c.type_inv.row; known = eq-eqb _ _ c.if-version-ne-BLOB_VERSION.false; found = c.in_ok-paired.ensures }

keys : (c : In_ok-keys) → KeysRead c.args.version c.args.row.now c.in_ok-paired.paired c.in_ok-keys.keys c.in_ok-keys.at2
keys c = record {
  at = c.in_ok-paired.at1;
  before = record { by = typed c.args.row.now c.type_inv.row; known = eq-eqb _ _ c.if-version-ne-BLOB_VERSION.false; found = c.in_ok-paired.ensures };
  found = c.in_ok-keys.ensures;
}

chained : (c : In_ok-chained) → ChainedRead c.args.version c.args.row.now c.in_ok-paired.paired c.in_ok-keys.keys c.in_ok-chained.chained c.in_ok-chained.at3
chained c = record {
  at = c.in_ok-keys.at2;
  before = record {
    at = c.in_ok-paired.at1;
    before = record { by = typed c.args.row.now c.type_inv.row; known = eq-eqb _ _ c.if-version-ne-BLOB_VERSION.false; found = c.in_ok-paired.ensures };
    found = c.in_ok-keys.ensures;
  };
  found = c.in_ok-chained.ensures;
}

numbers : (c : In_ok-numbers) → NumbersRead c.args.version c.args.row.now c.in_ok-paired.paired c.in_ok-keys.keys c.in_ok-chained.chained c.in_ok-numbers.numbers c.in_ok-numbers.at4
numbers c = record {
  at = c.in_ok-chained.at3;
  before = record {
    at = c.in_ok-keys.at2;
    before = record {
      at = c.in_ok-paired.at1;
      before = record { by = typed c.args.row.now c.type_inv.row; known = eq-eqb _ _ c.if-version-ne-BLOB_VERSION.false; found = c.in_ok-paired.ensures };
      found = c.in_ok-keys.ensures;
    };
    found = c.in_ok-chained.ensures;
  };
  found = c.in_ok-numbers.ensures;
}

pub returns-then-version-ne-BLOB_VERSION : goal.returns-then-version-ne-BLOB_VERSION
returns-then-version-ne-BLOB_VERSION c = sym (ap (made (contact_at c.args.version)) (version-stop c.args.version c.args.row.now (ne_eqb _ _ c.if-version-ne-BLOB_VERSION.true)))

pub returns-in_err-paired : goal.returns-in_err-paired
returns-in_err-paired c =
    let no : c.from_residual.result ≡ Err c.in_err-paired.field-0.0 = search rules in
    rw no (sym (ap (made (contact_at c.args.version)) (paired-stop c.args.version c.args.row.now (eq-eqb _ _ c.if-version-ne-BLOB_VERSION.false) c.in_err-paired.ensures)))

pub returns-in_err-keys : goal.returns-in_err-keys
returns-in_err-keys c =
    let no : c.from_residual-in_err-keys.result ≡ Err c.in_err-keys.field-0.0 = search rules in
    rw no (sym (ap (made (contact_at c.args.version)) (keys-stop (paired (goal.at.returns-in_err-keys c).In_ok-paired) c.in_err-keys.ensures)))

pub returns-in_err-chained : goal.returns-in_err-chained
returns-in_err-chained c =
    let no : c.from_residual-in_err-chained.result ≡ Err c.in_err-chained.field-0.0 = search rules in
    rw no (sym (ap (made (contact_at c.args.version)) (chained-stop (keys (goal.at.returns-in_err-chained c).In_ok-keys) c.in_err-chained.ensures)))

pub returns-in_err-numbers : goal.returns-in_err-numbers
returns-in_err-numbers c =
    let no : c.from_residual-in_err-numbers.result ≡ Err c.in_err-numbers.field-0.0 = search rules in
    rw no (sym (ap (made (contact_at c.args.version)) (numbers-stop (chained (goal.at.returns-in_err-numbers c).In_ok-chained) c.in_err-numbers.ensures)))

pub returns-then-at4-row : goal.returns-then-at4-row
returns-then-at4-row c = sym (ap (made (contact_at c.args.version)) (end-stop (numbers (goal.at.returns-then-at4-row c).In_ok-numbers) c.if-at4-row.true))

pub consistent_in_row-requires : goal.consistent_in_row-requires
consistent_in_row-requires c = lists-inside (numbers (goal.at.consistent_in_row-requires c).In_ok-numbers)

pub returns-in_err-consistent_in_row : goal.returns-in_err-consistent_in_row
returns-in_err-consistent_in_row c =
    let no : c.from_residual-in_err-consistent_in_row.result ≡ Err c.in_err-consistent_in_row.field-0.0 = search rules in
    let whole = all_read (numbers (goal.at.returns-in_err-consistent_in_row c).In_ok-numbers) c.if-at4-row.false in
    rw no (sym (ap (made (contact_at c.args.version)) (asked-last whole c.in_err-consistent_in_row.ensures)))

pub returns : goal.returns
returns c =
    let whole = all_read (numbers (goal.at.returns c).In_ok-numbers) c.if-at4-row.false in
    ap (λ at. accepted at) whole.placed ∙ sym (ap (made (contact_at c.args.version)) (asked-last whole c.in_ok-consistent_in_row.ensures))
