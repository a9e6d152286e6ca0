-- `data::leb128` meets its contract: the encoding is stored at the front.
use Rattle.std.proofs.Common.{ℕ, List, ◌≤◌, length, arith}
use mathlib.Core.Path.{sym, ap₂, ◌∙◌}
use Rattle.layout.specs.Form.{leb_print}
use Rattle.layout.specs.Write.{wrote}
use Rattle.layout.proofs.Write.{stored_row}
use Rattle.put.proofs.Put.{put_front}
use Rattle.data.proofs.leb128.Goals as goal

pub returns : goal.returns
returns c =
    let row = leb_print 4 c.args.value in
    let out = c.args.out.now in
    let room : length row ≤ length out = omega (arith, c.leb128_len-n.ensures) in
    ap₂ (λ (k : ℕ) (l : List ℕ). record { answer = wrote k; out = l }) c.leb128_len-n.ensures (c.put_leb128.ensures.1.now-is ∙ put_front out row room) ∙ sym (stored_row row out room)
