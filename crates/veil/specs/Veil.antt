-- Veil: the copy of a row alone, with 0 for its veiled bytes.
-- Assumes nothing.
use Rattle.std.specs.Prelude.{ℕ, ◌-◌, ◌≤◌, List, cond, ◌≡◌, length, eqb}
use Rattle.layout.specs.Questions.{CODE}
use Rattle.layout.specs.Veil.{veil, zeros}
use Rattle.layout.specs.Layout.{Layout, accepted, read_row, hidden_row}
use Rattle.layout.specs.Says.{made}
use Rattle.layout.specs.Write.{Left, refuses, judged, writes}
use Rattle.rows.specs.Rows.{device, contact, queued, courier}
use Rattle.queued_row.specs.declared.Outgoing.{Outgoing}
use Rattle.courier_row.specs.declared.Held.{Held}

-- the row's own questions are asked first, then the output; a refusal changes nothing
unfoldable pub veils : {A : Type 0} → Layout A → List ℕ → List ℕ → Left
veils l row out = judged (read_row l row) (hidden_row l veil row) out

-- a row of kind 0 device, 1 contact, 2 queued, 3 courier: 6 for another kind, asked first
unfoldable pub veil_of : (kind version : ℕ) → List ℕ → List ℕ → Left
veil_of kind version row out =
    cond (eqb kind 0) (veils (device version) row out)
    (cond (eqb kind 1) (veils (contact version) row out)
    (cond (eqb kind 2) (veils (queued version) row out)
    (cond (eqb kind 3) (veils (courier version) row out) (record { answer = refuses CODE; out = out }))))

-- ---- rows with a sealed text: the struct that was read, with 0 for s
abbrev pub queued_without_s : Outgoing → Outgoing
queued_without_s q = record { created_s = q.created_s; idx = q.idx; gen_ = q.gen_; envelope = q.envelope; tag = q.tag; s = zeros 16 }

abbrev pub held_without_s : Held → Held
held_without_s h = record { depositor = h.depositor; expiry_min = h.expiry_min; copies = h.copies; kind = h.kind; tag = h.tag; c = h.c; s = zeros 16 }

-- a text stands from `at` on that is no longer than a sealed text can be
pub record Tail (row : List ℕ) (at : ℕ) : Type 0 where
  pub inside : at ≤ length row
  pub few : length row - at ≤ 4064

-- of what reading the row gives, its sealed text's place and the struct: blanked and with as many zeros for the text, it is written as the veiled copy
module _ {A R : Type 0} (layout : ℕ → Layout A) (parts : List ℕ → A → ℕ × R) (image : R → List ℕ → List ℕ) (blanked : R → R) (version : ℕ) (row : List ℕ) where
  pub record VeiledText : Type 0 where
    pub tail : (read : ℕ × R) → accepted read ≡ made (parts row) (read_row (layout version) row) → Tail row read.0
    pub copied : (read : ℕ × R) → accepted read ≡ made (parts row) (read_row (layout version) row) → (out : List ℕ)
        → writes (layout 3) (image (blanked read.1) (zeros (length row - read.0))) out ≡ veils (layout version) row out
