-- No call changes a lent length, whatever it is handed.
-- Assumes nothing.
use Prim.Native.Nat.{ℕ}
use mathlib.Core.List.{List, ◌++◌}
use mathlib.Core.Bool.{Bool, true, false, cond}
use mathlib.Core.Option.{Option, none, some}
use mathlib.Core.Path.{◌≡◌, refl}
use native.Mathlib.Omega.{arith}
use lib.ListN.{length, drop, length-append, length-drop}
use lib.Dec.{leb, ltb}
use borrow.Author.Tests.{leb-true}
use Rattle.layout.specs.Questions.{RANGES_FIT, OUTPUT}
use Rattle.layout.specs.Layout.{Answer, accepted, refused_by, read_row, group}
use Rattle.layout.specs.Write as write
use Rattle.rows.specs.Values.{Contact}
use Rattle.rows.specs.Rows.{chain, skipped, contact}
use Rattle.put.proofs.Put.{length-put}
use Rattle.contact_lists.specs.Places.{print_places}
use Rattle.numbers.specs.Ranges.{Received, inserted, is_range}
use Rattle.received.specs.Change.{change_of}
use Rattle.received.specs.Lent as received
use Rattle.received.specs.Lent.{flat, fits, stored, list_after}
use Rattle.received.specs.declared.Change.{Change}
use Rattle.contact.specs.Contact.{long_enough}
use Rattle.contact_image.specs.Row.{image}
use Rattle.store.specs.declared.Entry.{Entry}
use Rattle.store.specs.Store as store
use Rattle.store.specs.Store.{store_of, store_passes, part_of, Outcome, contact_in}
use Rattle.calls_step.specs.declared.Mark.{Mark}
use Rattle.calls_step.specs.declared.Mark.TheVariants.{Fresh, Restored, Opened}
use Rattle.ledger.specs.Call.{Call, restore, opens, cover, contains, covers, take, statement, write}
use Rattle.calls_step.specs.Input.{Input, Left, lent_of}
use Rattle.ledger.specs.Call as call
use Rattle.calls_step.specs.Step.{restoring, on_store, passes, on_opened, filling, opening, covered_in, covering, writing, wrote_row, said_line, line_in, step}
use Rattle.calls_step.specs.Step as steps

-- as long as before
record Long (h : Input) (l : Left) : Type 0 where
  pub long : lent_of l.after ≡ lent_of h

module _ {h : Input} where
  both_long : (b : Bool) {x y : Left} → Long h x → Long h y → Long h (cond b x y)
  both_long true p q = p
  both_long false p q = q

module _ (h : Input) where
  abbrev Same : Left → Type 0
  Same l = Long h l

  restoring-long : (run : List ℕ) (es : List Entry) (o : Outcome) → Same (restoring run es h o)
  restoring-long run es (store.granted f) = record { long = refl }
  restoring-long run es (store.refused q i) = record { long = refl }

  filling-long : (k : ℕ) (y : Answer Contact) → Same (filling k h y)
  filling-long k (accepted v) =
      both_long (long_enough v h.lists)
      (record {
        long = λ i. record {
          chains = length-put h.lists.chains 0 (print_places 51 (group chain) v.chains) i;
          skipped = length-put h.lists.skipped 0 (print_places 46 (group skipped) v.skipped) i;
          above = length-put h.lists.above 0 (flat v.above) i;
          unacked = length-put h.lists.unacked 0 v.unacked i;
          expired = length-put h.lists.expired 0 (flat v.expired) i;
          out = length h.out;
        };
      })
      (record { long = refl })
  filling-long k (refused_by q) = record { long = refl }

  opening-long : (k : ℕ) (x : Option Entry) → Same (opening k h x)
  opening-long k none = record { long = refl }
  opening-long k (some e) = filling-long k (read_row (contact e.version) (part_of h.run e))

  store_long : (m : Mark) (l : Left) → Same l → Same (on_store m h l)
  store_long Fresh l s = record { long = refl }
  store_long Restored l s = both_long (store_passes h.run h.entries) s (record { long = refl })
  store_long (Opened id) l s = both_long (store_passes h.run h.entries) s (record { long = refl })

  opened-long : (m : Mark) (l : ℕ → Left) → ((k : ℕ) → Same (l k)) → Same (on_opened m h l)
  opened-long Fresh l s = record { long = refl }
  opened-long Restored l s = record { long = refl }
  opened-long (Opened id) l s = both_long (passes id.0 h) (s id.0) (record { long = refl })

  after-long : (v : Received) (l : List ℕ) (f t : ℕ) → length (list_after v l f t) ≡ length l
  unfolding received.stored
  after-long v l f t = go (fits v (length l) f t)
    where
      go : (b : Bool) → length (cond b (stored (inserted v f t).above (length v.above) l) l) ≡ length l
      go true = length-put l 0 _
      go false = refl

  covering-long : (f t : ℕ) (b : Bool) (c : Change) → Same (covering f t h (cond b (accepted c) (refused_by RANGES_FIT)))
  covering-long f t true c = record {
    long = λ i. record {
      chains = length h.lists.chains;
      skipped = length h.lists.skipped;
      above = after-long (covered_in h) h.lists.above f t i;
      unacked = length h.lists.unacked;
      expired = length h.lists.expired;
      out = length h.out;
    };
  }
  covering-long f t false c = record { long = refl }

  writing-long : (answer : write.Written → call.Answer) (bytes : List ℕ) → Same (writing answer h (write.stored bytes h.out))
  writing-long answer bytes = go (leb (length bytes) (length h.out)) refl
    where
      go : (b : Bool) → leb (length bytes) (length h.out) ≡ b → Same (writing answer h (cond b
          (record { answer = write.wrote (length bytes); out = bytes ++ drop (length bytes) h.out }) (record { answer = write.refuses OUTPUT; out = h.out })))
      go true e =
          let room = leb-true (length bytes) (length h.out) e in
          let n : length (bytes ++ drop (length bytes) h.out) ≡ length h.out = simp (length-append, length-drop) (omega arith) in
          record {
            long = λ i. record {
              chains = length h.lists.chains;
              skipped = length h.lists.skipped;
              above = length h.lists.above;
              unacked = length h.lists.unacked;
              expired = length h.lists.expired;
              out = n i;
            };
          }
      go false e = record { long = refl }

  module _ (N : ℕ) where
    step-long : (c : Call) → Same (step N c h)
    unfolding steps.step
    step-long (restore run es) = restoring-long run es (store.restore (store_of run es))
    step-long (opens k) = store_long h.mark _ (opening-long k (contact_in h.entries k))
    step-long (cover f t) =
        opened-long h.mark _ (λ k. both_long (is_range f t) (covering-long f t (fits (covered_in h) (length h.lists.above) f t) (change_of (covered_in h) f t)) (record { long = refl }))
    step-long (contains m) = opened-long h.mark _ (λ k. record { long = refl })
    step-long (covers f t) = opened-long h.mark _ (λ k. both_long (is_range f t) (record { long = refl }) (record { long = refl }))
    step-long take = opened-long h.mark _ (λ k. both_long (ltb h.contact.sent_msgno N) (record { long = refl }) (record { long = refl }))
    step-long statement = opened-long h.mark _ (λ k. writing-long (said_line (line_in k h)) (line_in k h))
    step-long write = opened-long h.mark _ (λ k. writing-long wrote_row (image h.contact h.lists))

    pub lent-keeps : (c : Call) → lent_of (step N c h).after ≡ lent_of h
    lent-keeps c = (step-long c).long
