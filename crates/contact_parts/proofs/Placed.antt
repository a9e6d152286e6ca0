-- What stands at the places that the parts' readers answer: the values that are read.
-- Assumes nothing.
use Prim.Native.Nat.{ℕ, ◌+◌, ◌-◌, ◌≤◌}
use mathlib.Core.List.{List}
use mathlib.Core.Option.{Option, none, some}
use mathlib.Core.Path.{◌≡◌, refl, sym, ap, ◌∙◌}
use native.Mathlib.Omega.{arith}
use lib.ListN.{length, drop, length-append, length-drop}
use Rattle.layout.specs.Read.{value}
use Rattle.layout.specs.Veil.{plain, veiled}
use Rattle.layout.specs.Form.{Form, u32, print_many, times}
use Rattle.layout.specs.Field.{read_at, takes}
use Rattle.layout.specs.Field as field
use Rattle.layout.specs.Layout.{group, optional, list, list_layout}
use Rattle.layout.specs.Layout as layout
use Rattle.layout.specs.RowLaws.{Bytes}
use Rattle.layout.proofs.Lawful.{Lawful}
use Rattle.layout.proofs.Front.{number-lawful}
use Rattle.layout.proofs.Parts.{times-lawful}
use Rattle.rows.specs.Values.{Pending, Send}
use Rattle.rows.specs.Rows.{pending, send, chain, skipped, range}
use Rattle.rows.proofs.Lawful.{chain-lawful, skipped-lawful, range-lawful}
use Rattle.contact_lists.specs.Lists as lists
use Rattle.offsets.specs.Offset.{located}
use Rattle.offsets.proofs.Offset.{Stands, field-stands, offset-inside, run_is, optional-stands, Part, part-found}
use Rattle.contact_parts.specs.Parts.{Paired, paired, Keys, keys, Chained, chained, Numbers, numbers}
use Rattle.contact_parts.specs.Offsets.{paired_at, paired_from, CardOffsets, keys_at, keys_from, pending_at, pending_from, send_at, send_from, list_at, list_in, ListIn}
use Rattle.contact_parts.specs.Offsets.{chained_at, chained_from, ChainedLists, numbers_at, numbers_from, NumbersLists}
use Rattle.contact_parts.specs.declared.PairedAt.{PairedAt}
use Rattle.contact_parts.specs.declared.KeysAt.{KeysAt}
use Rattle.contact_parts.specs.declared.ChainedAt.{ChainedAt}
use Rattle.contact_parts.specs.declared.NumbersAt.{NumbersAt}
use Rattle.contact_parts.proofs.Lawful.{paired-lawful, keys-lawful, chained-lawful, numbers-lawful}
use Rattle.contact_parts.proofs.Card.{card-is, card-inside}

-- ---- the value at its places
module _ (row : List ℕ) where
  pub keys-is : (from : ℕ) (k : Keys) → Stands (group keys) k row from → keys_from row (keys_at from k) ≡ k
  keys-is from k s = λ i. record {
    door_a_to_b = run_is veiled 32 (field-stands row keys 0 k s) i;
    door_b_to_a = run_is veiled 32 (field-stands row keys 1 k s) i;
    route_key = run_is veiled 32 (field-stands row keys 2 k s) i;
    resume_index = k.resume_index;
    chain_key = run_is veiled 32 (field-stands row keys 4 k s) i;
    sent_msgno = k.sent_msgno;
  }

  pending-is : (from : ℕ) (o : Option Pending) → Stands (optional (group pending)) o row from → pending_from row (pending_at from o) ≡ o
  pending-is from none s = refl
  pending-is from (some p) s =
      let its = optional-stands (group pending) s in
      λ i. some (record { chain_key = run_is veiled 32 (field-stands row pending 0 p its) i; msg_seed = run_is veiled 32 (field-stands row pending 1 p its) i })

  send-is : (from : ℕ) (o : Option Send) → Stands (optional (group send)) o row from → send_from row (send_at from o) ≡ o
  send-is from none s = refl
  send-is from (some x) s =
      let its = optional-stands (group send) s in
      λ i. some (record { gen = x.gen; dir = x.dir; idx = x.idx; key = run_is veiled 32 (field-stands row send 3 x its) i })

  -- a counted list: its items, and where they end
  module _ {B : Type 0} (f : Form B) (law : Lawful f) (from : ℕ) (bs : List B) (s : Stands (list f) bs row from) (past : from ≤ length row) where
    abbrev first : ℕ
    first = (list_at f from bs).first

    its-items : Stands (times f (length bs)) bs row first
    its-items = field-stands row (list_layout f) 1 bs s

    items-read : (times f (length bs)).read (drop first row) ≡ value bs its-items.post
    items-read = rw (← its-items.joins, (times-lawful f law (length bs)).printed bs its-items.post its-items.fits, its-items.granted)

    pub list-is : list_in f row (list_at f from bs) ≡ bs
    unfolding lists.items
    list-is = rw items-read

    pub list_inside : ListIn f row (list_at f from bs)
    unfolding field.read_at
    list_inside =
        let starts = offset-inside row (list_layout f) 1 bs s past in
        let long : length (print_many f bs) + length its-items.post ≡ length row - first =
        sym (length-append (print_many f bs) its-items.post) ∙ ap (λ (l : List ℕ). length l) its-items.joins ∙ length-drop first row in
        let ends : length row - length its-items.post ≡ (list_at f from bs).next = omega (arith, long, starts) in
        record { starts = starts; ends = rw (items-read, ends) }

  module _ (from : ℕ) (past : from ≤ length row) where
    module _ (c : Chained) (s : Stands (group chained) c row from) where
      pub chained-is : chained_from row (chained_at from c) ≡ c
      chained-is = λ i. record {
        pending = pending-is _ c.pending (field-stands row chained 0 c s) i;
        send = send-is _ c.send (field-stands row chained 1 c s) i;
        chains = list-is (group chain) chain-lawful _ c.chains (field-stands row chained 2 c s) (offset-inside row chained 2 c s past) i;
        skipped = list-is (group skipped) skipped-lawful _ c.skipped (field-stands row chained 3 c s) (offset-inside row chained 3 c s past) i;
      }

      pub chained-inside : ChainedLists row (chained_at from c)
      chained-inside = record {
        chains = list_inside (group chain) chain-lawful _ c.chains (field-stands row chained 2 c s) (offset-inside row chained 2 c s past);
        skipped = list_inside (group skipped) skipped-lawful _ c.skipped (field-stands row chained 3 c s) (offset-inside row chained 3 c s past);
      }

    module _ (n : Numbers) (s : Stands (group numbers) n row from) where
      pub numbers-is : numbers_from row (numbers_at from n) ≡ n
      numbers-is = λ i. record {
        peer_acked = n.peer_acked;
        peer_read = n.peer_read;
        read_marked = n.read_marked;
        contiguous = n.contiguous;
        above = list-is (group range) range-lawful _ n.above (field-stands row numbers 4 n s) (offset-inside row numbers 4 n s past) i;
        unacked = list-is u32 (number-lawful 4) _ n.unacked (field-stands row numbers 5 n s) (offset-inside row numbers 5 n s past) i;
        expired = list-is (group range) range-lawful _ n.expired (field-stands row numbers 6 n s) (offset-inside row numbers 6 n s past) i;
      }

      pub numbers-inside : NumbersLists row (numbers_at from n)
      numbers-inside = record {
        above = list_inside (group range) range-lawful _ n.above (field-stands row numbers 4 n s) (offset-inside row numbers 4 n s past);
        unacked = list_inside u32 (number-lawful 4) _ n.unacked (field-stands row numbers 5 n s) (offset-inside row numbers 5 n s past);
        expired = list_inside (group range) range-lawful _ n.expired (field-stands row numbers 6 n s) (offset-inside row numbers 6 n s past);
      }

    module _ (p : Paired) (s : Stands (group paired) p row from) where
      pub paired_is : paired_from row (paired_at from p) ≡ p
      paired_is = λ i. record {
        role = p.role;
        verification = p.verification;
        pair_id = run_is plain 16 (field-stands row paired 3 p s) i;
        th = run_is plain 48 (field-stands row paired 4 p s) i;
        nonce_b = run_is plain 16 (field-stands row paired 5 p s) i;
        card = card-is row _ p.card (field-stands row paired 6 p s) i;
      }

      pub paired-inside : CardOffsets row (paired_at from p).card
      paired-inside = card-inside row _ p.card (field-stands row paired 6 p s) (offset-inside row paired 6 p s past)

-- ---- what a reader's answer tells of the part that it found
module _ (row : List ℕ) (by : Bytes row) (at : ℕ) where
  pub paired-part : {p : PairedAt} {next : ℕ} → takes p next ≡ located (paired_at at) (read_at (group paired) row at)
      → Part paired row at (paired_from row) (paired_at at) (λ p. CardOffsets row p.card) p next
  unfolding layout.parse
  paired-part answer =
      part-found paired row at (paired_from row) (paired_at at) (λ p. CardOffsets row p.card) (λ x. x) (located (paired_at at)) (λ x. refl) answer paired-lawful by refl
      (λ past v s. (paired_is row at past v s, paired-inside row at past v s)) refl

  pub keys-part : {k : KeysAt} {next : ℕ} → takes k next ≡ located (keys_at at) (read_at (group keys) row at)
      → Part keys row at (keys_from row) (keys_at at) (λ k. Unit {0}) k next
  unfolding layout.parse
  keys-part answer =
      part-found keys row at (keys_from row) (keys_at at) (λ k. Unit {0}) (λ x. x) (located (keys_at at)) (λ x. refl) answer keys-lawful by refl
      (λ past v s. (keys-is row at v s, tt)) refl

  pub chained-part : {c : ChainedAt} {next : ℕ} → takes c next ≡ located (chained_at at) (read_at (group chained) row at)
      → Part chained row at (chained_from row) (chained_at at) (ChainedLists row) c next
  unfolding layout.parse
  chained-part answer =
      part-found chained row at (chained_from row) (chained_at at) (ChainedLists row) (λ x. x) (located (chained_at at)) (λ x. refl) answer chained-lawful by refl
      (λ past v s. (chained-is row at past v s, chained-inside row at past v s)) refl

  pub numbers-part : {n : NumbersAt} {next : ℕ} → takes n next ≡ located (numbers_at at) (read_at (group numbers) row at)
      → Part numbers row at (numbers_from row) (numbers_at at) (NumbersLists row) n next
  unfolding layout.parse
  numbers-part answer =
      part-found numbers row at (numbers_from row) (numbers_at at) (NumbersLists row) (λ x. x) (located (numbers_at at)) (λ x. refl) answer numbers-lawful by refl
      (λ past v s. (numbers-is row at past v s, numbers-inside row at past v s)) refl
