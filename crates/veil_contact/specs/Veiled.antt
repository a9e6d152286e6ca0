-- The parts of a contact row with 0 for what is veiled. That these are the parts' blanked values is shown in proofs/Whole.antt.
-- Assumes nothing.
use Rattle.std.specs.Prelude.{ℕ, ◌+◌, ◌≤◌, List, ◌++◌, map, cond, ◌≡◌, length, get_or, drop, eqb}
use Rattle.std.proofs.Math.Option.{Option, none, some}
use Rattle.layout.specs.Veil.{veil, zeros}
use Rattle.layout.specs.Form.{Form, print_many}
use Rattle.layout.specs.Layout.{Layout, print, fits_of, group, list_layout, list}
use Rattle.rows.specs.Values as value
use Rattle.rows.specs.Checks.{kci}
use Rattle.rows.specs.Rows.{chain, skipped}
use Rattle.card.specs.declared.CardAt.{CardAt}
use Rattle.contact_lists.specs.declared.ListAt.{ListAt}
use Rattle.contact_parts.specs.Parts.{Keys, Chained}
use Rattle.contact_parts.specs.Offsets.{run, list_in}
use Rattle.contact_parts.specs.declared.KeysAt.{KeysAt}
use Rattle.contact_parts.specs.declared.PendingAt.{PendingAt}
use Rattle.contact_parts.specs.declared.SendChainAt.{SendChainAt}
use Rattle.std.specs.Prelude as code
use Rattle.contact_parts.specs.declared.ChainedAt.{ChainedAt}

-- bytes of a row around a key of 32 bytes: `head` of them before it and `tail` of them after it
abbrev pub around_key : List ℕ → (from head tail : ℕ) → List ℕ
around_key row from head tail = run head row from ++ (zeros 32 ++ run tail row (from + head + 32))

-- printed bytes around a key, and the same with 0 for the key
pub record Around (plain hidden : List ℕ) (head tail : ℕ) : Type 0 where
  pub front : List ℕ
  pub key : List ℕ
  pub back : List ℕ
  pub shown : plain ≡ front ++ (key ++ back)
  pub veiled : hidden ≡ front ++ (zeros 32 ++ back)
  pub head-long : length front ≡ head
  pub key-long : length key ≡ 32
  pub tail-long : length back ≡ tail

-- v, which the layout can print, stands printed in the row from a place on
pub record Stands {A : Type 0} (l : Layout A) (row : List ℕ) (from : ℕ) (v : A) : Type 0 where
  pub post : List ℕ
  pub joins : print l v ++ post ≡ drop from row
  pub fits : fits_of l v post

-- items with 0 for what is veiled, printed one behind the other
module _ {B : Type 0} (f : Form B) where
  abbrev pub veiled_many : List B → List ℕ
  veiled_many bs = print_many f (map (f.blank veil) bs)

  -- a counted list that stands in the row
  abbrev pub veiled_list : List ℕ → ListAt → List ℕ
  veiled_list row l = print (list_layout f) ((list f).blank veil (list_in f row l))

-- each item is printed around a key: `head` bytes before it, and as many behind it as `tail` tells by the row
pub record AroundKeys {B : Type 0} (f : Form B) (head : ℕ) (tail : List ℕ → ℕ → ℕ) : Type 0 where
  pub around : (item : B) (row : List ℕ) (from : ℕ) (post : List ℕ) → f.fits item post → f.print item ++ post ≡ drop from row
      → Around (f.print item) (f.print (f.blank veil item)) head (tail row from)
  pub some : (row : List ℕ) (from : ℕ) → 1 ≤ tail row from

-- how many bytes of a card stand behind its beacon_key
abbrev pub card_tail : CardAt → ℕ
card_tail c = 1 + c.name_len + cond (kci c.caps) 1184 0

-- how many bytes stand from a chain's flag on
abbrev pub flag_length : List ℕ → ℕ → ℕ
flag_length row at = cond (eqb (get_or row at 0) 1) 9 1

abbrev pub veiled_keys : KeysAt → Keys
veiled_keys k = record {
  door_a_to_b = zeros 32;
  door_b_to_a = zeros 32;
  route_key = zeros 32;
  resume_index = k.resume_index;
  chain_key = zeros 32;
  sent_msgno = k.sent_msgno;
}

abbrev pub veiled_pending : code.Option PendingAt → Option value.Pending
veiled_pending code.None = none
veiled_pending (code.Some p) = some (record { chain_key = zeros 32; msg_seed = zeros 32 })

abbrev pub veiled_send : code.Option SendChainAt → Option value.Send
veiled_send code.None = none
veiled_send (code.Some s) = some (record { gen = s.gen_; dir = s.dir; idx = s.idx; key = zeros 32 })

abbrev pub veiled_chained : List ℕ → ChainedAt → Chained
veiled_chained row c = record {
  pending = veiled_pending c.pending;
  send = veiled_send c.send;
  chains = (list (group chain)).blank veil (list_in (group chain) row c.chains);
  skipped = (list (group skipped)).blank veil (list_in (group skipped) row c.skipped);
}
