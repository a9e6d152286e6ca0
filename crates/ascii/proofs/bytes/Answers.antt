-- `ascii::bytes` meets its contract: its tests are those of the definition.
use Rattle.std.proofs.Common.{◌≡◌, ◌≤◌, true, [], length, sym, ◌∙◌, arith}
use Rattle.layout.specs.Questions.{BLOB}
use Rattle.layout.specs.Layout.{accepted, refused_by}
use Rattle.layout.proofs.Write.{stored_short, stored_row}
use Rattle.rows.specs.Checks.{all}
use Rattle.put.proofs.Put.{put_front}
use Rattle.ascii.specs.Hex.{is_hex, unpaired, bytes_of}
use Rattle.ascii.proofs.Blobs.{length-unpaired, dash-bytes, no-bytes, odd-bytes, even-bytes}
use Rattle.ascii.proofs.bytes.Goals as goal
use Rattle.ascii.proofs.bytes.Goals.{Else-not-all_hex, then-text-eq0-via-then-text-eq0, then-text-eq0-via-else-text-eq0+then-text-eq1, then-text-eq0-via-else-text-eq0+else-text-eq1+then-not-all_hex}

pub returns-then-is_dash : goal.returns-then-is_dash
returns-then-is_dash c = rw (dash-bytes c.args.text.now (sym c.is_dash.ensures ∙ c.if-is_dash.true), stored_row [] c.args.out.now (omega arith))

pub returns-then-text-eq0 : goal.returns-then-text-eq0
returns-then-text-eq0 c =
    let t = c.args.text.now in
    let dash = sym c.is_dash.ensures ∙ c.if-is_dash.false in
    let none : bytes_of t ≡ refused_by BLOB =
    elim c.then-text-eq0.branch [
      | then-text-eq0-via-then-text-eq0 w ↦ no-bytes t w.if-text-eq0.true
      | then-text-eq0-via-else-text-eq0+then-text-eq1 w ↦ odd-bytes t dash w.if-text-eq1.true
      | then-text-eq0-via-else-text-eq0+else-text-eq1+then-not-all_hex w ↦ even-bytes t dash w.if-text-eq0.false (omega arith) ∙ rw (sym w.all_hex.ensures ∙ w.if-not-all_hex.true)
    ] in
    rw none

all-digits : (c : Else-not-all_hex) → all is_hex c.args.text.now ≡ true
all-digits c = sym c.all_hex.ensures ∙ c.if-not-all_hex.false

digits-are : (c : Else-not-all_hex) → bytes_of c.args.text.now ≡ accepted (unpaired c.args.text.now)
digits-are c = even-bytes c.args.text.now (sym c.is_dash.ensures ∙ c.if-is_dash.false) c.if-text-eq0.false (omega arith) ∙ rw (all-digits c)

pub returns-then-out-text : goal.returns-then-out-text
returns-then-out-text c =
    let t = c.args.text.now in
    rw (digits-are (goal.at.returns-then-out-text c).Else-not-all_hex, stored_short (unpaired t) c.args.out.now (omega (arith, length-unpaired t)))

pub returns : goal.returns
returns c =
    let t = c.args.text.now in
    let n = length-unpaired t in
    let room : length (unpaired t) ≤ length c.args.out.now = omega arith in
    let all : c.put_bytes.result ≡ length (unpaired t) = omega arith in
    rw (digits-are (goal.at.returns c).Else-not-all_hex, stored_row (unpaired t) c.args.out.now room, all, c.put_bytes.ensures.1.now-is, put_front c.args.out.now (unpaired t) room)
