-- `contact_checks::is_key` meets its contract: keys whose last bytes differ are not the same.
use Rattle.std.proofs.Common.{ℕ, ◌%◌, ◌<◌, List, get_or, ◌≡◌, sym, ap, ◌∙◌, arith}
use lib.Seq.{get_or-drop}
use borrow.Author.Tests.{ne_eqb}
use Rattle.layout.specs.Form as form
use Rattle.contact_checks.specs.Cells.{key_number}
use Rattle.contact_checks.proofs.is_key.Goals as goal

-- d is the last byte of idx
last : (l : List ℕ) (d : ℕ) → d ≡ get_or l 5 0 → d < 256 → d ≡ key_number l % 256
unfolding form.big_endian
last l d e small = simp get_or-drop (omega arith)

pub returns-else-from-key : goal.returns-else-from-key
returns-else-from-key c =
    let place = c.args.place.now in
    ne_eqb c.from.result (c.args.key % 256) c.if-from-key.false
    ∙ sym (ne_eqb c.args.key (key_number place) (λ same. c.if-from-key.false (last place c.from.result c.from.ensures (omega arith) ∙ ap (λ (n : ℕ). n % 256) (sym same))))
