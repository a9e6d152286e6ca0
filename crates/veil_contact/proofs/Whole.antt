-- A contact row that is accepted: the row and its veiled copy, part by part.
-- Assumes nothing.
use Prim.Native.Nat.{ℕ, ◌+◌, ◌-◌}
use mathlib.Core.List.{List, [], ◌∷◌, ◌++◌, append_assoc, append-nil}
use mathlib.Core.Option.{some}
use mathlib.Core.Path.{◌≡◌, refl, sym, ap, ◌∙◌}
use native.Mathlib.Omega.{arith}
use lib.ListN.{length, drop, length-append, length-drop}
use lib.Seq.{drop_at, take_all}
use Rattle.std.specs.Prelude as code
use Rattle.layout.specs.Questions.{CARD_END}
use Rattle.layout.specs.Veil.{veil, zeros}
use Rattle.layout.specs.Form.{u32, u64}
use Rattle.layout.specs.Layout.{print, blank_of, fits_of, mask_of, group, optional, list, sized, accepted, read_row, hidden_row}
use Rattle.layout.specs.Layout as layout
use Rattle.layout.specs.RowLaws.{Bytes}
use Rattle.layout.proofs.Hide.{length-hide}
use Rattle.layout.proofs.Derived.{list-plain}
use Rattle.rows.specs.Values.{Contact}
use Rattle.rows.specs.Rows.{role, verification, card, pending, send, chain, skipped, range, contact}
use Rattle.rows.proofs.Lawful.{ranges-plain}
use Rattle.rows.proofs.Proved.{proved}
use Rattle.contact_parts.specs.Parts.{paired, keys, chained, Numbers, numbers, paired_of, keys_of, chained_of, numbers_of, joined}
use Rattle.contact_parts.specs.Offsets.{run, paired_from, keys_from, pending_from, send_from, chained_from, numbers_from}
use Rattle.contact_parts.specs.declared.PairedAt.{PairedAt}
use Rattle.contact_parts.specs.declared.KeysAt.{KeysAt}
use Rattle.contact_parts.specs.declared.PendingAt.{PendingAt}
use Rattle.contact_parts.specs.declared.SendChainAt.{SendChainAt}
use Rattle.contact_parts.specs.declared.ChainedAt.{ChainedAt}
use Rattle.contact_parts.specs.declared.NumbersAt.{NumbersAt}
use Rattle.veil_contact.specs.Veiled.{Stands, veiled_keys, veiled_pending, veiled_send, veiled_chained}

-- ---- a contact is printed part by part
module _ (role mode verification pair th nonce card ab ba rk resume ck sent waits sends chains skips acked read marked contiguous above unacked expired : List ℕ) where
  tidy : role ++ (mode ++ (verification ++ (pair ++ (th ++ (nonce ++ (card ++ (ab ++ (ba ++ (rk ++ (resume ++ (ck ++ (sent ++ (waits ++ (sends ++ (chains ++ (skips ++
      (acked ++ (read ++ (marked ++ (contiguous ++ (above ++ (unacked ++ (expired ++ [])))))))))))))))))))))))
      ≡ (role ++ (mode ++ (verification ++ (pair ++ (th ++ (nonce ++ (card ++ [])))))))
      ++ ((ab ++ (ba ++ (rk ++ (resume ++ (ck ++ (sent ++ []))))))
      ++ ((waits ++ (sends ++ (chains ++ (skips ++ []))))
      ++ (acked ++ (read ++ (marked ++ (contiguous ++ (above ++ (unacked ++ (expired ++ [])))))))))
  tidy = simp (append_assoc, append-nil)

pub contact-print : (version : ℕ) (v : Contact) → print (contact version) v ≡ print paired (paired_of v) ++ (print keys (keys_of v) ++ (print chained (chained_of v) ++ print numbers (numbers_of v)))
unfolding layout.print
contact-print version v =
    tidy (role.print v.role) (3 ∷ []) (verification.print v.verification) v.pair_id v.th v.nonce_b ((sized (group card) CARD_END).print v.card)
    v.door_a_to_b v.door_b_to_a v.route_key (u64.print v.resume_index) v.chain_key (u32.print v.sent_msgno)
    ((optional (group pending)).print v.pending) ((optional (group send)).print v.send) ((list (group chain)).print v.chains) ((list (group skipped)).print v.skipped)
    (u32.print v.peer_acked) (u32.print v.peer_read) (u32.print v.read_marked) (u32.print v.contiguous)
    ((list (group range)).print v.above) ((list u32).print v.unacked) ((list (group range)).print v.expired)

-- ---- the parts' blanked values
pending-blank : (row : List ℕ) (p : code.Option PendingAt) (post : List ℕ) → (optional (group pending)).fits (pending_from row p) post → (optional (group pending)).blank veil (pending_from row p) ≡ veiled_pending p
unfolding layout.blank_of
pending-blank row code.None post h = refl
pending-blank row (code.Some p) post h = λ i. some (record { chain_key = zeros (h.1.0.0 i); msg_seed = zeros (h.1.0.1.0 i) })

send-blank : (row : List ℕ) (s : code.Option SendChainAt) (post : List ℕ) → (optional (group send)).fits (send_from row s) post → (optional (group send)).blank veil (send_from row s) ≡ veiled_send s
unfolding layout.blank_of
send-blank row code.None post h = refl
send-blank row (code.Some s) post h = λ i. some (record { gen = s.gen_; dir = s.dir; idx = s.idx; key = zeros (h.1.0.1.1.1.0 i) })

numbers-blank : (n : Numbers) → blank_of numbers veil n ≡ n
unfolding layout.blank_of
numbers-blank n = λ i. record {
  peer_acked = n.peer_acked;
  peer_read = n.peer_read;
  read_marked = n.read_marked;
  contiguous = n.contiguous;
  above = ranges-plain veil n.above i;
  unacked = list-plain u32 veil (λ n. refl) n.unacked i;
  expired = ranges-plain veil n.expired i;
}

-- the blanked contact has the blanked parts
contact-blank : (version : ℕ) (v : Contact)
    → print (contact version) (blank_of (contact version) veil v)
    ≡ print paired (blank_of paired veil (paired_of v)) ++ (print keys (blank_of keys veil (keys_of v)) ++ (print chained (blank_of chained veil (chained_of v)) ++ print numbers (blank_of numbers veil (numbers_of v))))
unfolding layout.blank_of
contact-blank version v = contact-print version (blank_of (contact version) veil v)

-- ---- a row that is accepted
module _ (version : ℕ) (row : List ℕ) (by : Bytes row) (p : PairedAt) (k : KeysAt) (c : ChainedAt) (n : NumbersAt)
    (read : read_row (contact version) row ≡ accepted (joined (paired_from row p) (keys_from row k) (chained_from row c) (numbers_from row n))) where
  abbrev v : Contact
  v = joined (paired_from row p) (keys_from row k) (chained_from row c) (numbers_from row n)

  fits : fits_of (contact version) v []
  fits = ((proved.contact version).laws.read-valid row by v read).fits

  shown : print paired (paired_from row p) ++ (print keys (keys_from row k) ++ (print chained (chained_from row c) ++ print numbers (numbers_from row n))) ≡ row
  shown = sym (contact-print version v) ∙ (proved.contact version).laws.read-print row by v read

  -- its first part stands at its front
  pub paired-stands : Stands paired row 0 (paired_from row p)
  paired-stands = record {
    post = print keys (keys_from row k) ++ (print chained (chained_from row c) ++ print numbers (numbers_from row n));
    joins = shown;
    fits = (fits.0, (fits.1.0, (fits.1.1.0, (fits.1.1.1.0, (fits.1.1.1.1.0, (fits.1.1.1.1.1.0, (fits.1.1.1.1.1.1.0, refl)))))));
  }

  keys-blank : blank_of keys veil (keys_from row k) ≡ veiled_keys k
  unfolding layout.blank_of
  keys-blank =
      let fit = fits.1.1.1.1.1.1.1 in
      λ i. record {
        door_a_to_b = zeros (fit.0 i);
        door_b_to_a = zeros (fit.1.0 i);
        route_key = zeros (fit.1.1.0 i);
        resume_index = k.resume_index;
        chain_key = zeros (fit.1.1.1.1.0 i);
        sent_msgno = k.sent_msgno;
      }

  chained-blank : blank_of chained veil (chained_from row c) ≡ veiled_chained row c
  unfolding layout.blank_of
  chained-blank =
      let fit = fits.1.1.1.1.1.1.1.1.1.1.1.1.1 in
      λ i. record {
        pending = pending-blank row c.pending _ fit.0 i;
        send = send-blank row c.send _ fit.1.0 i;
        chains = (veiled_chained row c).chains;
        skipped = (veiled_chained row c).skipped;
      }

  -- ---- its veiled copy
  pub veiled-copy : hidden_row (contact version) veil row ≡ print paired (blank_of paired veil (paired_from row p)) ++ (print keys (veiled_keys k) ++ (print chained (veiled_chained row c) ++ print numbers (numbers_from row n)))
  veiled-copy =
      sym ((proved.contact version).laws.hidden-prints veil row (λ q r. refl) by v read)
      ∙ contact-blank version v
      ∙ (λ i. print paired (blank_of paired veil (paired_from row p)) ++ (print keys (keys-blank i) ++ (print chained (chained-blank i) ++ print numbers (numbers-blank (numbers_from row n) i))))

  pub copy-long : length (print paired (blank_of paired veil (paired_from row p))) + (length (print keys (veiled_keys k)) + (length (print chained (veiled_chained row c)) + length (print numbers (numbers_from row n)))) ≡ length row
  copy-long = simp length-append at (ap length (sym veiled-copy) ∙ length-hide (mask_of (contact version) veil row) row)

  -- its last part, of which nothing is veiled, stands where it stands in the copy
  numbers-stand : (at : ℕ) → at + length (print numbers (numbers_from row n)) ≡ length row → drop at row ≡ print numbers (numbers_from row n)
  numbers-stand at e =
      let front = print paired (paired_from row p) ++ (print keys (keys_from row k) ++ print chained (chained_from row c)) in
      let cut : front ++ print numbers (numbers_from row n) ≡ row = simp append_assoc shown in
      let here : length front ≡ at = omega (arith, ap length cut, length-append front (print numbers (numbers_from row n))) in
      ap (λ (l : List ℕ). drop at l) (sym cut) ∙ drop_at front (print numbers (numbers_from row n)) at here

  pub numbers-run : (at : ℕ) → at + length (print numbers (numbers_from row n)) ≡ length row → run (length row - at) row at ≡ print numbers (numbers_from row n)
  numbers-run at e = take_all (length row - at) (drop at row) (rw length-drop (omega arith)) ∙ numbers-stand at e
