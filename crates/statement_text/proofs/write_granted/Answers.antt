-- `statement_text::write_granted` meets its contract: the text is measured, the room is asked for, then lines and T are stored at the front.
-- Assumes nothing.
use Prim.Native.Nat.{ℕ, ◌+◌, ◌≤◌}
use mathlib.Core.List.{List, [], ◌∷◌, ◌++◌}
use mathlib.Core.Path.{◌≡◌, sym, ap, ap₂, ◌∙◌}
use native.Mathlib.Omega.{arith}
use lib.ListN.{length, length-append}
use Rattle.layout.specs.Write.{wrote}
use Rattle.layout.proofs.Write.{stored_short, stored_row}
use Rattle.put.proofs.Put.{◌then◌, put_front}
use Rattle.store.specs.declared.Entry.{Entry}
use Rattle.numbers.specs.Decimal.{fields_text}
use Rattle.sheet_entries.specs.Table.{entries_from}
use Rattle.statement_text.specs.Text.{last_line, LETTER_T}
use Rattle.statement_text.specs.Lines.{lines_from, count_from, TEXT_BYTES}
use Rattle.statement_text.proofs.Lines.{retext}
use Rattle.statement_text.proofs.write_granted.Goals as goal
use Rattle.statement_text.proofs.write_granted.Goals.{After-fields_len}

-- the text: the lines of the entries, and the last line
module _ (c : After-fields_len) where
  abbrev entries : List Entry
  entries = entries_from c.args.n c.args.records.now

  abbrev lines : List ℕ
  lines = lines_from c.args.run.now entries entries

  abbrev last : List ℕ
  last = last_line (count_from c.args.run.now entries) entries c.args.next_slot

  same-last : LETTER_T ∷ fields_text (c.measure-measured.result.contacts ∷ c.how_many-queued.result ∷ c.how_many-held.result ∷ c.args.next_slot ∷ []) ≡ last
  same-last i = LETTER_T ∷ fields_text (c.measure-measured.ensures.many i ∷ c.how_many-queued.ensures i ∷ c.how_many-held.ensures i ∷ c.args.next_slot ∷ [])

  long : c.measure-measured.result.len + 1 + c.fields_len.result ≡ length (lines ++ last)
  long = omega (arith, c.measure-measured.ensures.long, c.fields_len.ensures.0, ap length same-last, length-append lines last)

  short : length (lines ++ last) ≤ TEXT_BYTES
  short = omega (arith, long, c.measure-measured.ensures.short, c.fields_len.ensures.1)

pub returns-then-out-len : goal.returns-then-out-len
returns-then-out-len c =
    let t = (goal.at.returns-then-out-len c).After-fields_len in
    record { out_after = sym (stored_short (lines t ++ last t) c.args.out.now (omega (arith, long t))); next_slot_len_bound = short t }

pub returns : goal.returns
returns c =
    let t = (goal.at.returns c).After-fields_len in
    let out = c.args.out.now in
    let room : length (lines t ++ last t) ≤ length out = omega (arith, long t) in
    let w = c.put_lines-at.ensures then retext (same-last t) c.put_line.ensures.1 in
    record { out_after = ap₂ (λ (k : ℕ) (l : List ℕ). record { answer = wrote k; out = l }) (long t) (w.now-is ∙ put_front out (lines t ++ last t) room) ∙ sym (stored_row (lines t ++ last t) out room); next_slot_len_bound = short t }
