-- `ascii::start_of` meets its contract. The invariant: the word that is looked for is as many words behind `at` as turns are left.
use Rattle.std.proofs.Common.{◌≡◌, ◌-◌, ◌≤◌, [], length, get_or, drop}
use Rattle.ascii.specs.Words.{parted, word_at}
use Rattle.ascii.proofs.start_of.Given as goal

abbrev pub invariant-loop : goal.invariant-loop
invariant-loop l = (l.at ≤ length l.text) × (word_at l.mark l.i l.text ≡ get_or (parted l.mark (drop l.at l.text)) (l.i - l.counter) [])
