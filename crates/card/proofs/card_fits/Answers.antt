-- `card::card_fits` meets its contract: the name, and then the room.
use borrow.Author.Tests.{le-leb, lt-leb}
use Rattle.card.proofs.card_fits.Goals as goal

pub returns-then-from-gt-MAX_NAME_LEN : goal.returns-then-from-gt-MAX_NAME_LEN
returns-then-from-gt-MAX_NAME_LEN c = rw (lt-leb _ _ (rw c.from.ensures at c.if-from-gt-MAX_NAME_LEN.true))

pub returns : goal.returns
returns c = rw (le-leb _ _ (rw c.from.ensures at c.if-from-gt-MAX_NAME_LEN.false), c.length_of.ensures)
