-- A call without output does not look at the one that stands by, and leaves it.
-- Assumes nothing.
use Prim.Native.Nat.{ℕ}
use mathlib.Core.List.{List}
use mathlib.Core.Bool.{Bool, true, false, cond, true≢false}
use mathlib.Core.Option.{Option, none, some}
use mathlib.Core.Path.{◌≡◌, refl}
use lib.ListN.{length}
use lib.Dec.{ltb}
use Rattle.layout.specs.Layout.{Answer, accepted, refused_by, read_row}
use Rattle.rows.specs.Values as value
use Rattle.rows.specs.Rows as rows
use Rattle.received.specs.Lent.{plan_of}
use Rattle.contact.specs.Contact.{long_enough}
use Rattle.store.specs.declared.Entry.{Entry}
use Rattle.store.specs.Store.{Outcome, store_of, store_passes, part_of, contact_in}
use Rattle.store.specs.Store as store
use Rattle.calls_step.specs.declared.Mark.{Mark}
use Rattle.calls_step.specs.declared.Mark.TheVariants.{Fresh, Restored, Opened}
use Rattle.ledger.specs.Call.{Call, restore, opens, cover, contains, covers, take, statement, write, has_output}
use Rattle.calls_step.specs.Input.{Input, Left, leaves}
use Rattle.calls_step.specs.Step.{restoring, on_store, passes, on_opened, filling, opening, output, covered_in, covering, step}
use Rattle.numbers.specs.Ranges.{is_range}
use Rattle.calls_step.specs.Step as steps
use Rattle.received.specs.declared.Change.{Change}

-- x is the same as y, with this output
pub record Besides (o : List ℕ) (x y : Left) : Type 0 where
  pub is : x ≡ leaves y.answer (output o y.after)

module _ {o : List ℕ} where
  same : {x y : Left} → x ≡ leaves y.answer (output o y.after) → Besides o x y
  same e = record { is = e }

  cond-besides : (b : Bool) {x y x' y' : Left} → Besides o x x' → Besides o y y' → Besides o (cond b x y) (cond b x' y')
  cond-besides true p q = p
  cond-besides false p q = q

module _ (o : List ℕ) (h : Input) where
  restoring-besides : (run : List ℕ) (es : List Entry) (x : Outcome) → Besides o (restoring run es (output o h) x) (restoring run es h x)
  restoring-besides run es (store.granted f) = same refl
  restoring-besides run es (store.refused q i) = same refl

  filling-besides : (k : ℕ) (x : Answer value.Contact) → Besides o (filling k (output o h) x) (filling k h x)
  filling-besides k (accepted v) = cond-besides (long_enough v h.lists) (same refl) (same refl)
  filling-besides k (refused_by q) = same refl

  opening-besides : (k : ℕ) (x : Option Entry) → Besides o (opening k (output o h) x) (opening k h x)
  opening-besides k none = same refl
  opening-besides k (some e) = filling-besides k (read_row (rows.contact e.version) (part_of h.run e))

  store-besides : (m : Mark) {x y : Left} → Besides o x y → Besides o (on_store m (output o h) x) (on_store m h y)
  store-besides Fresh p = same refl
  store-besides Restored p = cond-besides (store_passes h.run h.entries) p (same refl)
  store-besides (Opened id) p = cond-besides (store_passes h.run h.entries) p (same refl)

  opened-besides : (m : Mark) (x y : ℕ → Left) → ((k : ℕ) → Besides o (x k) (y k)) → Besides o (on_opened m (output o h) x) (on_opened m h y)
  opened-besides Fresh x y p = same refl
  opened-besides Restored x y p = same refl
  opened-besides (Opened id) x y p = cond-besides (passes id.0 h) (p id.0) (same refl)

  covering-besides : (f t : ℕ) (x : Answer Change) → Besides o (covering f t (output o h) x) (covering f t h x)
  covering-besides f t (accepted c) = same refl
  covering-besides f t (refused_by q) = same refl

  pub output-omitted : (N : ℕ) (c : Call) → has_output c ≡ false → Besides o (step N c (output o h)) (step N c h)
  unfolding steps.step
  output-omitted N (restore run es) q = restoring-besides run es (store.restore (store_of run es))
  output-omitted N (opens k) q = store-besides h.mark (opening-besides k (contact_in h.entries k))
  output-omitted N (cover f t) q =
      opened-besides h.mark _ _ (λ k. cond-besides (is_range f t) (covering-besides f t (plan_of (covered_in h) (length h.lists.above) f t)) (same refl))
  output-omitted N (contains m) q = opened-besides h.mark _ _ (λ k. same refl)
  output-omitted N (covers f t) q = opened-besides h.mark _ _ (λ k. cond-besides (is_range f t) (same refl) (same refl))
  output-omitted N take q = opened-besides h.mark _ _ (λ k. cond-besides (ltb h.contact.sent_msgno N) (same refl) (same refl))
  output-omitted N statement q = absurd (true≢false q)
  output-omitted N write q = absurd (true≢false q)
