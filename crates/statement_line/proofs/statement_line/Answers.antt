-- `statement_line::statement_line` meets its contract: the room is asked for, then the line is stored at the front.
use Prim.Native.Nat.{ℕ, ◌+◌, ◌≤◌}
use mathlib.Core.List.{List, ◌∷◌, []}
use mathlib.Core.Path.{◌≡◌, refl, sym, ap, ap₂, ◌∙◌}
use native.Mathlib.Omega.{arith}
use lib.ListN.{length}
use Rattle.layout.specs.Write.{wrote}
use Rattle.layout.proofs.Write.{stored_short, stored_row}
use Rattle.put.specs.Put.{put}
use Rattle.put.proofs.Put.{put_front}
use Rattle.store.specs.Line.{line_text, line_of}
use Rattle.statement_line.proofs.Text.{same_line}
use Rattle.statement_line.proofs.statement_line.Goals as goal
use Rattle.statement_line.proofs.statement_line.Goals.{After-fields_len-len}

module _ (c : After-fields_len-len) where
  abbrev line : List ℕ
  line = let a = c.args in line_of a.contact.0 a.sent a.acked a.contiguous a.beyond a.queued a.expired

  -- the numbers that are written are the line's
  same : line_text (c.args.contact.0 ∷ c.from-sent.result ∷ c.from-acked.result ∷ c.from-contiguous.result ∷ c.args.beyond ∷ c.args.queued ∷ c.args.expired ∷ []) ≡ line
  same = same_line c.args.contact.0 c.args.queued c.from-sent.ensures c.from-acked.ensures c.from-contiguous.ensures refl refl

  long : 1 + c.fields_len-len.result ≡ length line
  long = omega (arith, c.fields_len-len.ensures.0, ap length same)

pub returns-then-out-len : goal.returns-then-out-len
returns-then-out-len c =
    let here = (goal.at.returns-then-out-len c).After-fields_len-len in
    sym (stored_short (line here) c.args.out.now (omega (arith, long here)))

pub returns : goal.returns
returns c =
    let here = (goal.at.returns c).After-fields_len-len in
    let out = c.args.out.now in
    let room : length (line here) ≤ length out = omega (arith, long here) in
    let now-is = c.put_line.ensures.1.now-is ∙ ap (put out 0) (same here) ∙ put_front out (line here) room in
    ap₂ (λ (k : ℕ) (l : List ℕ). record { answer = wrote k; out = l }) (long here) now-is ∙ sym (stored_row (line here) out room)
