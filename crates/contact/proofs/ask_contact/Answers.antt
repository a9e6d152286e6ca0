-- `contact::ask_contact` meets its contract: the parts' answers, the row's end and the questions 54 and 17 to 24.
use Rattle.std.proofs.Common.{rules, ◌≡◌, ℕ, List, Result, Ok, Err}
use mathlib.Core.Path.{refl, sym, ap, ◌∙◌}
use borrow.Author.Tests.{eq-eqb, ne_eqb}
use Rattle.layout.proofs.At.{typed}
use Rattle.layout.specs.declared.question.Question.{Question}
use Rattle.layout.specs.Read.{said}
use Rattle.layout.specs.Layout.{answer}
use Rattle.layout.specs.Says.{answers}
use Rattle.rows.specs.Values.{Contact}
use Rattle.rows.specs.Answers.{verdict_of}
use Rattle.contact.specs.Consistent.{refusal_in}
use Rattle.contact.proofs.Parted.{PairedRead, KeysRead, ChainedRead, NumbersRead}
use Rattle.contact.proofs.Parted.{version-stop, paired-stop, keys-stop, chained-stop, numbers-stop, end-stop, lists-inside, all_read, asked-last}
use Rattle.contact.proofs.ask_contact.Goals as goal
use Rattle.contact.proofs.ask_contact.Goals.{In_ok-_paired, In_ok-keys, In_ok-chained, In_ok-numbers}

-- the parts that were read so far
paired : (c : In_ok-_paired) → PairedRead c.args.version c.args.row.now c.in_ok-_paired._paired c.in_ok-_paired.behind_paired
paired c = record { by = typed c.args.row.now c.type_inv.row; known = eq-eqb _ _ c.if-version-ne-BLOB_VERSION.false; found = c.in_ok-_paired.ensures }

keys : (c : In_ok-keys) → KeysRead c.args.version c.args.row.now c.in_ok-_paired._paired c.in_ok-keys.keys c.in_ok-keys.behind_keys
keys c = record {
  at = c.in_ok-_paired.behind_paired;
  before = record { by = typed c.args.row.now c.type_inv.row; known = eq-eqb _ _ c.if-version-ne-BLOB_VERSION.false; found = c.in_ok-_paired.ensures };
  found = c.in_ok-keys.ensures;
}

chained : (c : In_ok-chained) → ChainedRead c.args.version c.args.row.now c.in_ok-_paired._paired c.in_ok-keys.keys c.in_ok-chained.chained c.in_ok-chained.behind_chained
chained c = record {
  at = c.in_ok-keys.behind_keys;
  before = record {
    at = c.in_ok-_paired.behind_paired;
    before = record { by = typed c.args.row.now c.type_inv.row; known = eq-eqb _ _ c.if-version-ne-BLOB_VERSION.false; found = c.in_ok-_paired.ensures };
    found = c.in_ok-keys.ensures;
  };
  found = c.in_ok-chained.ensures;
}

numbers : (c : In_ok-numbers) → NumbersRead c.args.version c.args.row.now c.in_ok-_paired._paired c.in_ok-keys.keys c.in_ok-chained.chained c.in_ok-numbers.numbers c.in_ok-numbers.end
numbers c = record {
  at = c.in_ok-chained.behind_chained;
  before = record {
    at = c.in_ok-keys.behind_keys;
    before = record {
      at = c.in_ok-_paired.behind_paired;
      before = record { by = typed c.args.row.now c.type_inv.row; known = eq-eqb _ _ c.if-version-ne-BLOB_VERSION.false; found = c.in_ok-_paired.ensures };
      found = c.in_ok-keys.ensures;
    };
    found = c.in_ok-chained.ensures;
  };
  found = c.in_ok-numbers.ensures;
}

pub returns-then-version-ne-BLOB_VERSION : goal.returns-then-version-ne-BLOB_VERSION
returns-then-version-ne-BLOB_VERSION c = sym (ap (verdict_of) (version-stop c.args.version c.args.row.now (ne_eqb _ _ c.if-version-ne-BLOB_VERSION.true)))

pub returns-in_err-_paired : goal.returns-in_err-_paired
returns-in_err-_paired c =
    let no : c.from_residual.result ≡ Err c.in_err-_paired.field-0.0 = search rules in
    rw no (sym (ap (verdict_of) (paired-stop c.args.version c.args.row.now (eq-eqb _ _ c.if-version-ne-BLOB_VERSION.false) c.in_err-_paired.ensures)))

pub returns-in_err-keys : goal.returns-in_err-keys
returns-in_err-keys c =
    let no : c.from_residual-in_err-keys.result ≡ Err c.in_err-keys.field-0.0 = search rules in
    rw no (sym (ap (verdict_of) (keys-stop (paired (goal.at.returns-in_err-keys c).In_ok-_paired) c.in_err-keys.ensures)))

pub returns-in_err-chained : goal.returns-in_err-chained
returns-in_err-chained c =
    let no : c.from_residual-in_err-chained.result ≡ Err c.in_err-chained.field-0.0 = search rules in
    rw no (sym (ap (verdict_of) (chained-stop (keys (goal.at.returns-in_err-chained c).In_ok-keys) c.in_err-chained.ensures)))

pub returns-in_err-numbers : goal.returns-in_err-numbers
returns-in_err-numbers c =
    let no : c.from_residual-in_err-numbers.result ≡ Err c.in_err-numbers.field-0.0 = search rules in
    rw no (sym (ap (verdict_of) (numbers-stop (chained (goal.at.returns-in_err-numbers c).In_ok-chained) c.in_err-numbers.ensures)))

pub returns-then-end-row : goal.returns-then-end-row
returns-then-end-row c = sym (ap (verdict_of) (end-stop (numbers (goal.at.returns-then-end-row c).In_ok-numbers) c.if-end-row.true))

pub consistent_in_row-requires : goal.consistent_in_row-requires
consistent_in_row-requires c = lists-inside (numbers (goal.at.consistent_in_row-requires c).In_ok-numbers)

-- where the questions 54 and 17 to 24 are the last, their answer is the row's
last : (r : Result (Unit {0}) Question) (v : Contact) (behind : List ℕ) → answers r ≡ verdict_of (answer (said (refusal_in r) v behind))
last (Ok u) v behind = refl
last (Err q) v behind = refl

pub returns : goal.returns
returns c =
    let whole = all_read (numbers (goal.at.returns c).In_ok-numbers) c.if-end-row.false in
    last _ _ _ ∙ sym (ap (verdict_of) (asked-last whole c.consistent_in_row.ensures))
