-- A no changes nothing, whatever a call is handed; restore writes to nothing lent.
-- Assumes nothing.
use Prim.Native.Nat.{ℕ}
use mathlib.Core.List.{List, ◌++◌}
use mathlib.Core.Bool.{Bool, true, false, cond, true≢false}
use mathlib.Core.Option.{Option, none, some}
use mathlib.Core.Path.{◌≡◌, refl}
use lib.ListN.{length, drop}
use lib.Dec.{leb, ltb}
use Rattle.layout.specs.Questions.{RANGES_FIT, OUTPUT}
use Rattle.layout.specs.Layout.{Answer, accepted, refused_by, read_row}
use Rattle.layout.specs.Write as writer
use Rattle.rows.specs.Values.{Contact}
use Rattle.rows.specs.Rows.{contact}
use Rattle.received.specs.Change.{change_of}
use Rattle.received.specs.Lent.{fits}
use Rattle.received.specs.declared.Change.{Change}
use Rattle.contact.specs.Contact.{long_enough}
use Rattle.contact_image.specs.Row.{image}
use Rattle.store.specs.declared.Entry.{Entry}
use Rattle.store.specs.Store as store
use Rattle.store.specs.Store.{store_of, store_passes, part_of, Outcome, contact_in}
use Rattle.calls_step.specs.declared.Mark.{Mark}
use Rattle.calls_step.specs.declared.Mark.TheVariants.{Fresh, Restored, Opened}
use Rattle.ledger.specs.Call.{Call, restore, opens, cover, contains, covers, take, statement, write, is_granted}
use Rattle.calls_step.specs.Input.{Input, Left}
use Rattle.ledger.specs.Call as call
use Rattle.calls_step.specs.Step.{restoring, on_store, passes, on_opened, filling, opening, covered_in, covering, writing, wrote_row, said_line, line_in, step}
use Rattle.numbers.specs.Ranges.{is_range}
use Rattle.calls_step.specs.Step as steps
use Rattle.calls_step.specs.Proved.{NothingWritten}

-- where the answer is a no, what was handed in stands there
pub record Keeps (h : Input) (l : Left) : Type 0 where
  pub keeps : is_granted l.answer ≡ false → l.after ≡ h

module _ {h : Input} where
  same : {l : Left} → l.after ≡ h → Keeps h l
  same e = record { keeps = λ r. e }

  yes-keeps : {l : Left} → is_granted l.answer ≡ true → Keeps h l
  yes-keeps e = record { keeps = λ r. absurd (true≢false (cc)) }

  cond-keeps : (b : Bool) {x y : Left} → Keeps h x → Keeps h y → Keeps h (cond b x y)
  cond-keeps true p q = p
  cond-keeps false p q = q

module _ (h : Input) where
  restoring-keeps : (run : List ℕ) (es : List Entry) (o : Outcome) → Keeps h (restoring run es h o)
  restoring-keeps run es (store.granted f) = yes-keeps refl
  restoring-keeps run es (store.refused q i) = same refl

  restoring-writes : (run : List ℕ) (es : List Entry) (o : Outcome) → NothingWritten h (restoring run es h o).after
  restoring-writes run es (store.granted f) = record { contact = refl; lists = refl; out = refl }
  restoring-writes run es (store.refused q i) = record { contact = refl; lists = refl; out = refl }

  filling-keeps : (k : ℕ) (y : Answer Contact) → Keeps h (filling k h y)
  filling-keeps k (accepted v) = cond-keeps (long_enough v h.lists) (yes-keeps refl) (same refl)
  filling-keeps k (refused_by q) = same refl

  opening-keeps : (k : ℕ) (x : Option Entry) → Keeps h (opening k h x)
  opening-keeps k none = same refl
  opening-keeps k (some e) = filling-keeps k (read_row (contact e.version) (part_of h.run e))

  store_keeps : (m : Mark) (l : Left) → Keeps h l → Keeps h (on_store m h l)
  store_keeps Fresh l k = same refl
  store_keeps Restored l k = cond-keeps (store_passes h.run h.entries) k (same refl)
  store_keeps (Opened id) l k = cond-keeps (store_passes h.run h.entries) k (same refl)

  opened-keeps : (m : Mark) (l : ℕ → Left) → ((k : ℕ) → Keeps h (l k)) → Keeps h (on_opened m h l)
  opened-keeps Fresh l k = same refl
  opened-keeps Restored l k = same refl
  opened-keeps (Opened id) l k = cond-keeps (passes id.0 h) (k id.0) (same refl)

  covering-keeps : (f t : ℕ) (b : Bool) (c : Change) → Keeps h (covering f t h (cond b (accepted c) (refused_by RANGES_FIT)))
  covering-keeps f t true c = yes-keeps refl
  covering-keeps f t false c = same refl

  writing-keeps : (answer : writer.Written → call.Answer) (bytes : List ℕ) → is_granted (answer (writer.wrote (length bytes))) ≡ true → Keeps h (writing answer h (writer.stored bytes h.out))
  writing-keeps answer bytes e = go (leb (length bytes) (length h.out))
    where
      go : (b : Bool) → Keeps h (writing answer h (cond b
          (record { answer = writer.wrote (length bytes); out = bytes ++ drop (length bytes) h.out }) (record { answer = writer.refuses OUTPUT; out = h.out })))
      go true = yes-keeps e
      go false = same refl

  module _ (N : ℕ) where
    pub step_keeps : (c : Call) → Keeps h (step N c h)
    unfolding steps.step
    step_keeps (restore run es) = restoring-keeps run es (store.restore (store_of run es))
    step_keeps (opens k) = store_keeps h.mark _ (opening-keeps k (contact_in h.entries k))
    step_keeps (cover f t) =
        opened-keeps h.mark _ (λ k. cond-keeps (is_range f t) (covering-keeps f t (fits (covered_in h) (length h.lists.above) f t) (change_of (covered_in h) f t)) (same refl))
    step_keeps (contains m) = opened-keeps h.mark _ (λ k. same refl)
    step_keeps (covers f t) = opened-keeps h.mark _ (λ k. cond-keeps (is_range f t) (same refl) (same refl))
    step_keeps take = opened-keeps h.mark _ (λ k. cond-keeps (ltb h.contact.sent_msgno N) (yes-keeps refl) (same refl))
    step_keeps statement = opened-keeps h.mark _ (λ k. writing-keeps (said_line (line_in k h)) (line_in k h) refl)
    step_keeps write = opened-keeps h.mark _ (λ k. writing-keeps wrote_row (image h.contact h.lists) refl)

    pub restore-keeps : (run : List ℕ) (es : List Entry) → NothingWritten h (step N (restore run es) h).after
    unfolding steps.step
    restore-keeps run es = restoring-writes run es (store.restore (store_of run es))
