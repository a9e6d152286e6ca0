-- What the calls' parts answer, together: it is the call's step.
-- Assumes nothing.
use Prim.Native.Nat.{ℕ}
use mathlib.Core.List.{List}
use mathlib.Core.Bool.{Bool, cond}
use mathlib.Core.Path.{◌≡◌, refl, sym, ap, ◌∙◌, subst}
use Rattle.std.specs.Prelude.{Result}
use Rattle.layout.specs.declared.question.Question.{Question}
use Rattle.rows.specs.declared.ContactId.{ContactId}
use Rattle.contact.specs.declared.Contact.{Contact}
use Rattle.contact.specs.Contact.{Lists}
use Rattle.store.specs.declared.Entry.{Entry}
use Rattle.store.specs.Store.{store_of}
use Rattle.store.specs.Store as store
use Rattle.store.specs.declared.Refusal.{Refusal}
use Rattle.restore.specs.declared.Granted.{Granted}
use Rattle.restore.specs.Restored.{restored_says, answered}
use Rattle.store.specs.Line.{queued_of}
use Rattle.calls_step.specs.declared.Mark.{Mark}
use Rattle.calls_step.specs.declared.Mark.TheVariants.{Fresh, Restored as Had, Opened}
use Rattle.calls_step.specs.Input.{Input}
use Rattle.calls_step.specs.Step.{restoring}
use Rattle.calls_step.specs.Step as steps
use Rattle.calls_find.specs.Sought.{sought_in}
use Rattle.calls_store.specs.declared.Asking.{Asking}
use Rattle.calls_store.specs.declared.Passed.{Passed}
use Rattle.calls_store.specs.Passes.{passed_as, passes_for}
use Rattle.calls_dispatch.specs.declared.Call.{Call}
use Rattle.calls_dispatch.specs.declared.Call.TheVariants.{Open, Cover, Contains, Covers, Take, Statement, Write}
use Rattle.calls_dispatch.specs.declared.Facts.{Facts}
use Rattle.calls_dispatch.specs.Dispatch.{input_of, passed_on, store_passed, passed_for, gate_of, id_in, id_for, counts_queued, OfStore}
use Rattle.calls.specs.declared.RestoreLeft.{RestoreLeft}
use Rattle.calls.specs.Calls.{stored_for, opened_for, asking_for, facts_as, mark_after, restore_left, left_by, restored_on, RestoreSteps}

-- ---- restore
module _ (run : List ℕ) (es : List Entry) where
  abbrev outcome : store.Outcome
  outcome = store.restore (store_of run es)

  by-outcome : (h : Input) (o : store.Outcome) → left_by (answered o) (mark_after (answered o) h.mark) run es h ≡ restoring run es h o
  by-outcome h (store.granted f) = refl
  by-outcome h (store.refused q i) = refl

  pub restore-is : (m : Mark) (a : Result Granted (Refusal Question)) (r : RestoreLeft) → restored_says a ≡ answered outcome → r ≡ restore_left a m
      → RestoreSteps m run es r
  unfolding steps.step
  restore-is m a r is-a is-r = record {
    answer = ap (λ x. restored_says x.answer) is-r ∙ is-a;
    left = λ h same.
        ap (λ x. restored_on x run es h) is-r
        ∙ (λ i. left_by (is-a i) (mark_after (is-a i) (sym same i)) run es h)
        ∙ by-outcome h outcome;
  }

-- ---- the other calls: what calls_dispatch::step has to know of the store
module _ (call : Call) (m : Mark) (run : List ℕ) (es : List Entry) (c : Contact) (l : Lists) (out : List ℕ) where
  abbrev h : Input
  h = input_of m run es c l out

  on_store : (k : ContactId) (n : Mark) → passes_for (stored_for n) run es k c l ≡ store_passed n h
  on_store k Fresh = refl
  on_store k Had = refl
  on_store k (Opened id) = refl

  on-opened : (n : Mark) → passes_for (opened_for n) run es (id_in n) c l ≡ passed_on n h
  on-opened Fresh = refl
  on-opened Had = refl
  on-opened (Opened id) = refl

  on_call : (k : Call) → passes_for (asking_for k m) run es (id_for k m) c l ≡ passed_for k m h
  on_call (Open id) = on_store id m
  on_call (Cover f t) = on-opened m
  on_call (Contains n) = on-opened m
  on_call (Covers f t) = on-opened m
  on_call Take = on-opened m
  on_call Statement = on-opened m
  on_call Write = on-opened m

  pub of-store : (id : ContactId) (asking : Asking) (answer : Passed) (counted : Bool) (queued : ℕ) (r : Facts Question) → id ≡ id_for call m → asking ≡ asking_for call m
      → answer ≡ passed_as (sought_in es id.0) (passes_for asking run es id c l) → counted ≡ counts_queued call → queued ≡ cond counted (queued_of id.0 es) 0 → r ≡ facts_as answer queued id
      → OfStore call h r
  of-store id asking answer counted queued r is-id is-asking is-answer is-counted is-queued is-r =
      subst (OfStore call h) (sym is-r)
      (record {
        gate = ap (λ p. gate_of p.passed) is-answer ∙ ap gate_of ((λ i. passes_for (is-asking i) run es (is-id i) c l) ∙ on_call call);
        which = is-id;
        row = ap (λ p. p.sought) is-answer;
        count = is-queued ∙ ap (λ b. cond b (queued_of id.0 es) 0) is-counted;
      })
