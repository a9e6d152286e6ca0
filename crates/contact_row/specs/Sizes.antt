-- How long a contact row is.
-- Assumes nothing.
use Rattle.std.specs.Prelude.{ℕ, ◌+◌, ◌*◌, Option, Some, None, cond}
use Rattle.contact.specs.declared.Contact.{Contact}
use Rattle.contact.specs.declared.SendChain.{SendChain}

abbrev pub send_size : Option SendChain → ℕ
send_size None = 1
send_size (Some s) = 39

-- of a row whose card, chains and skipped keys have so many bytes
abbrev pub row_size : Contact → (card chains skipped : ℕ) → ℕ
row_size c card chains skipped = 251 + card + chains + skipped + send_size c.send + cond c.pending 65 1 + 8 * c.above + 4 * c.unacked + 8 * c.expired
