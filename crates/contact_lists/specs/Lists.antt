-- What the answers about a contact row's lists say.
-- Assumes nothing.
use Rattle.std.specs.Prelude.{ℕ, ◌≤◌, List, [], ◌≡◌, Result, Ok, Err, length, drop}
use Rattle.layout.specs.Read.{Read, value, refused}
use Rattle.layout.specs.Form.{Form, read_many, times}
use Rattle.layout.specs.Field.{Field, takes, refuses, read_at}
use Rattle.layout.specs.declared.question.Question.{Question}
use Rattle.layout.specs.Questions.{number_of}
use Rattle.reader.specs.Reader.{ended}
use Rattle.contact_lists.specs.declared.ListAt.{ListAt}

-- the n items that stand at the front
module _ {B : Type 0} (f : Form B) where
  abbrev pub items_of : Read (List B) → List B
  items_of (value bs rest) = bs
  items_of (refused q) = []

  unfoldable pub items : ℕ → List ℕ → List B
  items n row = items_of (read_many f n row)

  abbrev pub list_says : List ℕ → Result ListAt Question → Field (List B)
  list_says row (Ok at) = takes (items at.count (drop at.first row)) at.next
  list_says row (Err q) = refuses (number_of q)

  -- `count` items stand from `first` up to `next`
  pub record Listed (row : List ℕ) (first count next : ℕ) : Type 0 where
    pub starts : first ≤ length row
    pub ends : ended (read_at (times f count) row first) ≡ takes tt next

  -- the same, up to some place
  pub record Stands (row : List ℕ) (first count : ℕ) : Type 0 where
    pub next : ℕ
    pub so : Listed row first count next

  abbrev pub ListedAt : List ℕ → Result ListAt Question → Type 0
  ListedAt row (Ok at) = Listed row at.first at.count at.next
  ListedAt row (Err q) = Unit {0}
