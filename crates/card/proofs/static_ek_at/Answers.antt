-- `card::static_ek_at` meets its contract: a run of 1,184 bytes where KCI is set, and nothing where it is not.
use Rattle.std.proofs.Common.{rules, ◌≡◌, ◌+◌, ◌≤◌, ℕ, List, Bool, true, false, length, take, drop, Result, Ok, Err, arith}
use mathlib.Core.Bool.{cond, true≢false}
use mathlib.Core.Option.{none, some}
use mathlib.Core.Path.{sym, ap, ◌∙◌}
use borrow.Author.Tests.{eq-eqb, ne_eqb}
use Rattle.layout.specs.declared.question.Question.{Question}
use Rattle.layout.specs.Veil.{plain}
use Rattle.layout.specs.Form.{bytes, only_if}
use Rattle.layout.specs.Field.{takes, refuses, read_at}
use Rattle.layout.specs.RowLaws.{Bytes}
use Rattle.layout.proofs.At.{takes_at, refuses-at, typed}
use Rattle.layout.proofs.Steps.{if_yes, if-not, if_no}
use Rattle.rows.specs.Checks.{kci}
use Rattle.fields.proofs.Runs.{run-took, run_short, run-stands}
use Rattle.card.specs.Card.{key_says, KeyEnds}
use Rattle.card.proofs.static_ek_at.Goals as goal

module _ (caps : ℕ) (input : List ℕ) (at : ℕ) where
  abbrev Says : Result ℕ Question → Type 0
  Says r = (key_says caps input at r ≡ read_at (only_if (bytes plain 1184) (kci caps)) input at) × KeyEnds caps at r

  module _ (inside : at ≤ length input) where
    -- with KCI: the run starts at the place asked
    there : kci caps ≡ true → Bytes input → (start next : ℕ) → takes (take 1184 (drop start input)) next ≡ read_at (bytes plain 1184) input at → next ≡ start + 1184 → Says (Ok next)
    there set by start next read ends =
        let place : start ≡ at = (run-stands input at plain 1184 by read ends inside).0 in
        let o = if_yes (bytes plain 1184) input at (kci caps) set (run-took input at plain 1184 by (sym read)) in (
          ap (λ (t : Bool). takes (cond t (some (take 1184 (drop at input))) none) next) set ∙ ap (λ (k : ℕ). takes (some (take 1184 (drop k input))) next) (sym place)
              ∙ sym (takes_at input at (only_if (bytes plain 1184) (kci caps)) o.reads o.inside),
          λ e. omega (arith, ends, place),
        )

    -- without
    absent : kci caps ≡ false → Says (Ok at)
    absent clear =
        let o = if-not (bytes plain 1184) input at (kci caps) clear inside in (
          ap (λ (t : Bool). takes (cond t (some (take 1184 (drop at input))) none) at) clear ∙ sym (takes_at input at (only_if (bytes plain 1184) (kci caps)) o.reads o.inside),
          λ set. absurd (true≢false (sym set ∙ clear)),
        )

  short : kci caps ≡ true → {q : ℕ} → refuses q ≡ read_at (bytes plain 1184) input at → refuses q ≡ read_at (only_if (bytes plain 1184) (kci caps)) input at
  short set e = sym (refuses-at input at (only_if (bytes plain 1184) (kci caps)) (if_no (bytes plain 1184) input at (kci caps) set (run_short input at plain 1184 (sym e))))

pub returns-in_err-_static_ek : goal.returns-in_err-_static_ek
returns-in_err-_static_ek c =
    let told : c.from_residual.result ≡ Err c.in_err-_static_ek.field-0.0 = search rules in
    rw told (short c.args.caps c.args.input.now c.args.at (eq-eqb _ _ c.if-caps-eq1.true) c.in_err-_static_ek.ensures.0, tt)

pub returns-then-caps-eq1 : goal.returns-then-caps-eq1
returns-then-caps-eq1 c =
    let a = c.args in
    there a.caps a.input.now a.at c.requires (eq-eqb _ _ c.if-caps-eq1.true) (typed a.input.now c.type_inv.input) _ _ c.in_ok-_static_ek.ensures.0 c.in_ok-_static_ek.ensures.1

pub returns : goal.returns
returns c = absent c.args.caps c.args.input.now c.args.at c.requires (ne_eqb _ _ c.if-caps-eq1.false)
