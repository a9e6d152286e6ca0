-- The bytes of the chains' part with 0 for each key, and of its counted lists.
-- Assumes nothing.
use Prim.Native.Nat.{ℕ, ◌+◌}
use mathlib.Core.List.{List, ◌++◌, map, append-nil}
use mathlib.Core.Path.{◌≡◌, ◌∙◌}
use lib.ListN.{length, length-append, length-map}
use Rattle.layout.specs.Veil.{veil}
use Rattle.layout.specs.Form.{Form, bytes_of}
use Rattle.layout.specs.Layout.{print, group}
use Rattle.layout.specs.Layout as layout
use Rattle.layout.specs.RowLaws.{Bytes}
use Rattle.layout.proofs.Lawful.{Lawful}
use Rattle.layout.proofs.Front.{length-bytes_of}
use Rattle.rows.specs.Rows.{chain, skipped}
use Rattle.contact_lists.specs.declared.ListAt.{ListAt}
use Rattle.contact_parts.specs.Parts.{chained}
use Rattle.contact_parts.specs.Offsets.{list_in, ListIn}
use Rattle.contact_parts.specs.declared.ChainedAt.{ChainedAt}
use Rattle.veil_contact.specs.Veiled.{veiled_many, veiled_list, veiled_chained}
use Rattle.veil_contact.proofs.Flagged.{pending_print, send_print}
use Rattle.veil_contact.proofs.Items.{items-long}

module _ {B : Type 0} (f : Form B) (law : Lawful f) (row : List ℕ) (by : Bytes row) (l : ListAt) (here : ListIn f row l) where
  pub list-print : veiled_list f row l ≡ bytes_of 2 l.count ++ veiled_many f (list_in f row l)
  unfolding layout.print layout.blank_of
  list-print =
      let long : length (map (f.blank veil) (list_in f row l)) ≡ l.count = length-map (list_in f row l) (f.blank veil) ∙ items-long f law row by here in
      rw (long, append-nil)

  pub list-long : length (veiled_list f row l) ≡ 2 + length (veiled_many f (list_in f row l))
  list-long = rw list-print (simp (length-append, length-bytes_of))

module _ (row : List ℕ) (c : ChainedAt) where
  pub chained-print : print chained (veiled_chained row c) ≡ pending_print c.pending ++ (send_print c.send ++ (veiled_list (group chain) row c.chains ++ veiled_list (group skipped) row c.skipped))
  unfolding layout.print
  chained-print = simp append-nil

  pub chained-long : length (print chained (veiled_chained row c))
      ≡ length (pending_print c.pending) + (length (send_print c.send) + (length (veiled_list (group chain) row c.chains) + length (veiled_list (group skipped) row c.skipped)))
  chained-long = rw chained-print (simp length-append)
