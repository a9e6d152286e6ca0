-- What a call's part leaves, with what is known of the store, is `step` of the call: answer, and all that stands afterwards.
-- Assumes nothing.
use Prim.Native.Nat.{ℕ, ◌+◌}
use mathlib.Core.List.{List, ◌++◌}
use mathlib.Core.Bool.{Bool, true, false, cond, false≢true, true≢false}
use mathlib.Core.Option.{Option, none, some}
use mathlib.Core.Path.{◌≡◌, refl, sym, ap, ◌∙◌}
use lib.ListN.{length, drop}
use lib.Seq.{take-append_seam}
use lib.Dec.{leb, ltb}
use Rattle.std.specs.Prelude as code
use Rattle.std.specs.Prelude.{Result, Ok, Err}
use Rattle.layout.specs.declared.question.Question.{Question}
use Rattle.layout.specs.Questions.{number_of, STORE, RANGE, RANGES_FIT, OUTPUT}
use Rattle.layout.specs.Layout.{read_row}
use Rattle.layout.specs.Layout as layout
use Rattle.layout.specs.Write as writer
use Rattle.rows.specs.Values as value
use Rattle.rows.specs.Rows as rows
use Rattle.rows.specs.declared.ContactId.{ContactId}
use Rattle.numbers.specs.Ranges.{is_range}
use Rattle.received.specs.Change.{change_of}
use Rattle.received.specs.Lent.{fits, plan_of, list_after}
use Rattle.rows.proofs.Tests.{either, and_both}
use Rattle.contact.specs.declared.Contact.{Contact}
use Rattle.contact.specs.Contact as contacts
use Rattle.contact.specs.Contact.{Lists}
use Rattle.contact_image.specs.Row.{counted, image, writes_contact, ContactTyped, ListsTyped}
use Rattle.contact_image.proofs.Counts.{all-counted}
use Rattle.store.specs.declared.Entry.{Entry}
use Rattle.store.specs.Store.{part_of, replaced_passes, contact_in}
use Rattle.store.specs.Line.{line_of, queued_of}
use Rattle.calls_step.specs.declared.Mark.{Mark}
use Rattle.calls_step.specs.declared.Mark.TheVariants.{Fresh, Restored, Opened}
use Rattle.calls_step.specs.Input.{Input, Left, leaves, no}
use Rattle.calls_step.specs.Step.{on_store, passes, on_opened, filling, above_as, output, writing, wrote_row, said_line, line_in, step}
use Rattle.calls_step.specs.Step as steps
use Rattle.calls_step.specs.Proved.{HIGHEST}
use Rattle.calls_step.proofs.Contracts.{passed-writes}
use Rattle.calls_find.specs.Sought.{sought_of}
use Rattle.calls_dispatch.specs.declared.Call.{Call}
use Rattle.calls_dispatch.specs.declared.Call.TheVariants.{Open, Cover, Contains, Covers, Take, Statement, Write}
use Rattle.calls_dispatch.specs.declared.Facts.{Facts}
use Rattle.calls_dispatch.specs.Dispatch.{call_of, says, input_of, standing, passed_on, store_passed, passed_for, gate_of, id_in, id_for, counts_queued, OfStore, Done, acted, dispatched, Stepped}
use Rattle.calls_open.specs.Calls.{Outcome, left, contains_says, covers_says, covered_by, cover_leaves, cover_list, take_leaves, line_says, row_says, line_from, line_left, opened_by, open_leaves, open_lists}
use Rattle.calls_open.proofs.Few.{few-numbers}

cond_of : {A B : Type 0} (f : A → B) (b : Bool) (x y : A) → f (cond b x y) ≡ cond b (f x) (f y)
cond_of f true x y = refl
cond_of f false x y = refl

-- ---- a gate
abbrev Gate : Type 0
Gate = Result (Unit {0}) Question

abbrev is_through : Gate → Bool
is_through (Ok u) = true
is_through (Err q) = false

abbrev number_in : Gate → ℕ
number_in (Ok u) = STORE
number_in (Err q) = number_of q

through : (b : Bool) → gate_of b ≡ Ok tt → b ≡ true
through true e = refl
through false e = ap is_through e

module _ (m : Mark) (run : List ℕ) (es : List Entry) (c : Contact) (l : Lists) (out : List ℕ) where
  abbrev h : Input
  h = input_of m run es c l out

  -- ---- 34: where it is a no, that is the answer, and where it is a yes, the call's part follows
  opened-no : (n : Mark) (then : ℕ → Left) → passed_on n h ≡ false → no STORE h ≡ on_opened n h then
  opened-no Fresh then e = refl
  opened-no Restored then e = refl
  opened-no (Opened id) then e = rw e

  opened-yes : (n : Mark) (then : ℕ → Left) → passed_on n h ≡ true → then (id_in n).0 ≡ on_opened n h then
  opened-yes Fresh then e = absurd (false≢true e)
  opened-yes Restored then e = absurd (false≢true e)
  opened-yes (Opened id) then e = rw e

  store-no : (n : Mark) (then : Left) → store_passed n h ≡ false → no STORE h ≡ on_store n h then
  store-no Fresh then e = refl
  store-no Restored then e = rw e
  store-no (Opened id) then e = rw e

  store-yes : (n : Mark) (then : Left) → store_passed n h ≡ true → then ≡ on_store n h then
  store-yes Fresh then e = absurd (false≢true e)
  store-yes Restored then e = rw e
  store-yes (Opened id) then e = rw e

  refused-step : (k : Call) → passed_for k m h ≡ false → no STORE h ≡ step HIGHEST (call_of k) h
  unfolding steps.step
  refused-step (Open id) e = store-no m _ e
  refused-step (Cover f t) e = opened-no m _ e
  refused-step (Contains n) e = opened-no m _ e
  refused-step (Covers f t) e = opened-no m _ e
  refused-step Take e = opened-no m _ e
  refused-step Statement e = opened-no m _ e
  refused-step Write e = opened-no m _ e

  -- ---- the lines that statement says: 34 has bounded the counts
  line-is : ListsTyped l → (k : ContactId) → passes k.0 h ≡ true → line_from k c (queued_of k.0 es) l.above l.expired ≡ line_in k.0 h
  line-is typed k e =
      let all = all-counted c l (and_both (counted c l) (replaced_passes run es k.0 (image c l)) e).0 in
      let a = few-numbers 0 c.above l.above typed.above all.above.few in
      let x = few-numbers (c.peer_acked + 1) c.expired l.expired typed.expired all.expired.few in
      λ i. line_of k.0 c.sent_msgno c.peer_acked c.contiguous (a i) (queued_of k.0 es) (x i)

  line-said : (line : List ℕ) → let w = writer.stored line out in leaves (says (line_says w.answer) w.out) (output w.out h) ≡ writing (said_line line) h w
  line-said line =
      either (leb (length line) (length out))
      (λ b. let w : writer.Left = cond b (record { answer = writer.wrote (length line); out = line ++ drop (length line) out }) (record { answer = writer.refuses OUTPUT; out = out }) in
      leaves (says (line_says w.answer) w.out) (output w.out h) ≡ writing (said_line line) h w)
      (λ e. rw take-append_seam)
      (λ e. refl)

  row_wrote : (w : writer.Written) (o : List ℕ) → says (row_says w) o ≡ wrote_row w
  row_wrote (writer.wrote n) o = refl
  row_wrote (writer.refuses q) o = refl

  passed-opened : (n : Mark) → passed_on n h ≡ true → passes (id_in n).0 h ≡ true
  passed-opened Fresh e = absurd (false≢true e)
  passed-opened Restored e = absurd (false≢true e)
  passed-opened (Opened id) e = e

  -- ---- what open leaves
  read-row : (k : ContactId) (version : ℕ) (row : List ℕ) → let x = contacts.reads version row l in
      standing (opened_by x.answer k m c) h x.lists out ≡ filling k.0 h (read_row (rows.contact version) row)
  unfolding contacts.reads
  read-row k version row = go (read_row (rows.contact version) row)
    where
      go : (y : layout.Answer value.Contact) → let x = contacts.opened y l in standing (opened_by x.answer k m c) h x.lists out ≡ filling k.0 h y
      go (layout.accepted v) = cond_of (λ (x : contacts.Left). standing (opened_by x.answer k m c) h x.lists out) (contacts.long_enough v l) _ _
      go (layout.refused_by q) = refl

  looked-up : (k : ContactId) (s : code.Option Entry) (x : Option Entry) → s ≡ sought_of x → standing (open_leaves s k m c run l) h (open_lists s run l) out ≡ steps.opening k.0 h x
  looked-up k s none e = rw e
  looked-up k s (some x) e = rw e (read-row k x.version (part_of run x))

  -- ---- by the call
  module _ {call : Call} (facts : Facts Question) (o : OfStore call h facts) where
    abbrev s : code.Option Entry
    s = facts.sought

    abbrev q : ℕ
    q = facts.queued

    abbrev id : ContactId
    id = facts.id

    as_called : {k : Call} → call ≡ k → {x : Left} → x ≡ step HIGHEST (call_of k) h → x ≡ step HIGHEST (call_of call) h
    as_called e is = is ∙ ap (λ (k : Call). step HIGHEST (call_of k) h) (sym e)

    its : {k : Call} → call ≡ k → id ≡ id_for k m
    its e = o.which ∙ ap (λ (k : Call). id_for k m) e

    refused-is : {q : Question} → facts.gate ≡ Err q → {r : Outcome} → r ≡ left c m (layout.refused_by (number_of q)) → standing r h l out ≡ step HIGHEST (call_of call) h
    refused-is {q} no-so is = ap (λ r. standing r h l out) is ∙ go (passed_for call m h) refl (sym o.gate ∙ no-so)
      where
        go : (b : Bool) → passed_for call m h ≡ b → gate_of b ≡ Err q → no (number_of q) h ≡ step HIGHEST (call_of call) h
        go true is e = absurd (true≢false (ap is_through e))
        go false is e = ap (λ n. no n h) (sym (ap number_in e)) ∙ refused-step call is

    module _ (so : facts.gate ≡ Ok tt) where
      answered : {k : Call} → call ≡ k → passed_for k m h ≡ true
      answered {k} e = through (passed_for k m h) (sym (o.gate ∙ ap (λ (k : Call). gate_of (passed_for k m h)) e) ∙ so)

      contains-is : {n : ℕ} → call ≡ Contains n → {r : Outcome} → r ≡ left c m (contains_says c l.above n) → standing r h l out ≡ step HIGHEST (call_of call) h
      unfolding steps.step
      contains-is e is = as_called e (ap (λ r. standing r h l out) is ∙ opened-yes m _ (answered e))

      covers-is : {f t : ℕ} → call ≡ Covers f t → {r : Outcome} → r ≡ left c m (covers_says c l.above f t) → standing r h l out ≡ step HIGHEST (call_of call) h
      unfolding steps.step
      covers-is {f} {t} e is =
          as_called e (ap (λ r. standing r h l out) is ∙ cond_of (λ a. standing (left c m a) h l out) (is_range f t) _ _ ∙ opened-yes m _ (answered e))

      cover-is : {f t : ℕ} → call ≡ Cover f t → {r : Outcome} {a : List ℕ} → (r ≡ cover_leaves c m l.above f t) × (a ≡ cover_list c l.above f t)
          → standing r h (above_as a l) out ≡ step HIGHEST (call_of call) h
      unfolding steps.step
      cover-is {f} {t} e is =
          let v = steps.covered_in h in
          as_called e
          ((λ i. standing (is.0 i) h (above_as (is.1 i) l) out)
          ∙ either (is_range f t)
          (λ b. standing (cond b (covered_by (plan_of v (length l.above) f t) c m) (left c m (layout.refused_by RANGE))) h (above_as (cond b (list_after v l.above f t) l.above) l) out
          ≡ cond b (steps.covering f t h (plan_of v (length l.above) f t)) (no RANGE h))
          (λ _. either (fits v (length l.above) f t)
          (λ b. standing (covered_by (cond b (layout.accepted (change_of v f t)) (layout.refused_by RANGES_FIT)) c m) h (above_as (list_after v l.above f t) l) out
          ≡ steps.covering f t h (cond b (layout.accepted (change_of v f t)) (layout.refused_by RANGES_FIT)))
          (λ _. refl)
          (λ full. rw full))
          (λ _. refl)
          ∙ opened-yes m _ (answered e))

      take-is : call ≡ Take → {r : Outcome} → r ≡ take_leaves c m → standing r h l out ≡ step HIGHEST (call_of call) h
      unfolding steps.step
      take-is e is =
          as_called e (ap (λ r. standing r h l out) is ∙ cond_of (λ r. standing r h l out) (ltb c.sent_msgno HIGHEST) _ _ ∙ opened-yes m _ (answered e))

      statement-is : call ≡ Statement → ListsTyped l → {r : Outcome} {w : List ℕ} → let x = line_left id c q l.above l.expired out in (r ≡ left c m (line_says x.answer)) × (w ≡ x.out)
          → standing r h l w ≡ step HIGHEST (call_of call) h
      unfolding steps.step
      statement-is e typed is =
          let k = id_in m in
          let line : line_from id c q l.above l.expired ≡ line_in k.0 h =
          (λ i. line_from (its e i) c ((o.count ∙ (λ j. cond (counts_queued (e j)) (queued_of (its e j).0 es) 0)) i) l.above l.expired) ∙ line-is typed k (passed-opened m (answered e)) in
          as_called e
          ((λ i. standing (is.0 i) h l (is.1 i))
          ∙ ap (λ (x : List ℕ). let w = writer.stored x out in leaves (says (line_says w.answer) w.out) (output w.out h)) line
          ∙ line-said (line_in k.0 h)
          ∙ opened-yes m _ (answered e))

      write-is : call ≡ Write → ListsTyped l → ContactTyped c → {r : Outcome} {w : List ℕ} → let x = writes_contact c l out in (r ≡ left c m (row_says x.answer)) × (w ≡ x.out)
          → standing r h l w ≡ step HIGHEST (call_of call) h
      unfolding steps.step
      write-is e typed fields is =
          as_called e
          ((λ i. standing (is.0 i) h l (is.1 i))
          ∙ ap (λ a. leaves a (output (writes_contact c l out).out h)) (row_wrote (writes_contact c l out).answer _)
          ∙ ap (writing wrote_row h) (passed-writes (id_in m).0 h fields typed (passed-opened m (answered e)) out)
          ∙ opened-yes m _ (answered e))

      open_is : {k : ContactId} → call ≡ Open k → {r : Outcome} {ls : Lists}
          → (r ≡ open_leaves s id m c run l) × (ls ≡ open_lists s run l) → standing r h ls out ≡ step HIGHEST (call_of call) h
      unfolding steps.step
      open_is e is =
          as_called e
          ((λ i. standing (is.0 i) h (is.1 i) out)
          ∙ looked-up id s (contact_in es id.0) o.row
          ∙ ap (λ (j : ContactId). steps.opening j.0 h (contact_in es j.0)) (its e)
          ∙ store-yes m _ (answered e))

  -- ---- so what a step leaves is the ledger's, where the facts are right of the store
  acted-is : (call : Call) (facts : Facts Question) → OfStore call h facts → facts.gate ≡ Ok tt → ContactTyped c → ListsTyped l
      → let d = acted call facts m run c l out in standing d.left h d.lists d.out ≡ step HIGHEST (call_of call) h
  acted-is (Open id) facts o so fields typed = open_is facts o so refl (refl, refl)
  acted-is (Cover f t) facts o so fields typed = cover-is facts o so refl (refl, refl)
  acted-is (Contains n) facts o so fields typed = contains-is facts o so refl refl
  acted-is (Covers f t) facts o so fields typed = covers-is facts o so refl refl
  acted-is Take facts o so fields typed = take-is facts o so refl refl
  acted-is Statement facts o so fields typed = statement-is facts o so refl typed (refl, refl)
  acted-is Write facts o so fields typed = write-is facts o so refl typed fields (refl, refl)

  pub stepped : {call : Call} {facts : Facts Question} {d : Done} → Stepped number_of call facts m run c l out d → OfStore call h facts → standing d.left h d.lists d.out ≡ step HIGHEST (call_of call) h
  stepped {call} {facts} s o = ap (λ d. standing d.left h d.lists d.out) s.is ∙ go facts.gate refl
    where
      go : (g : Gate) → facts.gate ≡ g → let d = dispatched number_of g call facts m run c l out in standing d.left h d.lists d.out ≡ step HIGHEST (call_of call) h
      go (Ok u) e = acted-is call facts o e s.contact s.lists
      go (Err q) e = refused-is facts o e refl
