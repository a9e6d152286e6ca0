-- `statement_text::write_refused` meets its contract: the room is asked for, then the line is stored at the front.
-- Assumes nothing.
use Prim.Native.Nat.{ℕ, ◌+◌, ◌≤◌}
use mathlib.Core.List.{List, [], ◌∷◌}
use mathlib.Core.Path.{◌≡◌, sym, ap₂, ◌∙◌}
use native.Mathlib.Omega.{arith}
use lib.ListN.{length}
use Rattle.layout.specs.Write.{wrote}
use Rattle.layout.proofs.Write.{stored_short, stored_row}
use Rattle.put.proofs.Put.{put_front}
use Rattle.numbers.specs.Decimal.{fields_text}
use Rattle.statement_text.specs.Lines.{TEXT_BYTES}
use Rattle.statement_text.proofs.write_refused.Goals as goal
use Rattle.statement_text.proofs.write_refused.Goals.{After-fields_len-len}

module _ (c : After-fields_len-len) where
  abbrev text : List ℕ
  text = c.args.letter ∷ fields_text (c.args.number ∷ c.args.place ∷ [])

  long : 1 + c.fields_len-len.result ≡ length text
  long = omega (arith, c.fields_len-len.ensures.0)

  short : length text ≤ TEXT_BYTES
  short = omega (arith, long, c.fields_len-len.ensures.1)

pub returns-then-out-len : goal.returns-then-out-len
returns-then-out-len c =
    let t = (goal.at.returns-then-out-len c).After-fields_len-len in
    record { out_after = sym (stored_short (text t) c.args.out.now (omega (arith, long t))); place_len_bound = short t }

pub returns : goal.returns
returns c =
    let t = (goal.at.returns c).After-fields_len-len in
    let out = c.args.out.now in
    let room : length (text t) ≤ length out = omega (arith, long t) in
    let now-is = c.put_line.ensures.1.now-is ∙ put_front out (text t) room in
    record { out_after = ap₂ (λ (k : ℕ) (l : List ℕ). record { answer = wrote k; out = l }) (long t) now-is ∙ sym (stored_row (text t) out room); place_len_bound = short t }
