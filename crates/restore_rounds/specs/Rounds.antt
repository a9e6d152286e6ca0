-- What the rounds' code answers, in the words of the store's definitions.
-- Assumes nothing.
use Rattle.std.specs.Prelude.{ℕ, zero, suc, List, [], ◌∷◌, Bool, Result, Ok, Err, cond, ◌&&◌, length, leb, eqb}
use Rattle.std.proofs.Math.Option.{Option, none, some}
use Rattle.layout.specs.declared.question.Question.{Question}
use Rattle.layout.specs.Questions.{number_of, ORDER, BOUNDS, VERSION}
use Rattle.layout.specs.Layout.{read_row}
use Rattle.store.specs.declared.Entry.{Entry}
use Rattle.store.specs.Omitted.{Omitted, is_omitted, read_omitted}
use Rattle.store.specs.Rounds.{ask, first_no, Round}
use Rattle.store.specs.Kinds.{DEVICE, CONTACT, COURIER, kind_of, layout_of, refusal_in}
use Rattle.store.specs.Store.{store_of, within, part_of, order, bounds}
use Rattle.restore_rounds.specs.declared.Round as code
use Rattle.restore_rounds.specs.declared.Round.TheVariants.{Order, Bounds, Rows}

-- the question that an answer names
abbrev pub verdict_in : Result (Unit {0}) Question → Option ℕ
verdict_in (Ok u) = none
verdict_in (Err q) = some (number_of q)

-- 1, of the i-th entry's kind and that of the entry before it
abbrev pub follows : (i before kind : ℕ) → Bool
follows zero before kind = eqb kind DEVICE
follows (suc i) before kind = leb CONTACT kind && leb kind COURIER && leb before kind

-- a round by the number of its first question; any other number is that of the rows
abbrev pub numbered_round : ℕ → code.Round
numbered_round number = cond (eqb number ORDER) Order (cond (eqb number BOUNDS) Bounds Rows)

-- which round of the store's it is
abbrev pub round_of : code.Round → (run : List ℕ) → List Entry → Omitted → Round
round_of Order run es omitted = order (store_of run es)
round_of Bounds run es omitted = bounds (store_of run es)
round_of Rows run es omitted = read_omitted run es (is_omitted omitted)

-- the same, of an entry and the one before it
abbrev pub round_asks : (run : List ℕ) → Omitted → (before e : Entry) → code.Round → (i : ℕ) → Option ℕ
round_asks run omitted before e Order i = first_no (ask ORDER (follows i before.kind e.kind) ∷ [])
round_asks run omitted before e Bounds i = first_no (ask BOUNDS (within (length run) e) ∷ [])
round_asks run omitted before e Rows i =
    cond (is_omitted omitted e) (first_no (ask VERSION (eqb e.version 3) ∷ [])) (refusal_in (read_row (layout_of (kind_of e.kind) e.version) (part_of run e)))
