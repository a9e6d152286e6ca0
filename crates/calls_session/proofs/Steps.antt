-- What a call's parts leave, together: the call's step, of the session and the lent memory as they are.
-- Assumes nothing.
use Prim.Native.Nat.{ℕ}
use mathlib.Core.List.{List, [], ◌∷◌}
use mathlib.Core.Bool.{cond}
use mathlib.Core.Option.{Option, some}
use mathlib.Core.Path.{◌≡◌, refl, sym, ap, ap₂, ◌∙◌, subst, subst₂}
use lib.ListN.{get_or}
use Rattle.std.specs.Prelude.{Option as Optional, Some}
use Rattle.contact.specs.declared.Contact.{Contact}
use Rattle.contact.specs.Contact.{Lists}
use Rattle.store.specs.declared.Entry.{Entry}
use Rattle.calls_step.specs.declared.Mark.{Mark}
use Rattle.ledger.specs.Call.{Call, restore, Answer, is_granted}
use Rattle.calls_step.specs.Input.{Input, Left, leaves}
use Rattle.calls_step.specs.Step.{step}
use Rattle.calls_step.specs.Proved.{HIGHEST}
use Rattle.calls_dispatch.specs.declared.Call.{Call as Made}
use Rattle.calls_dispatch.specs.declared.Call.TheVariants as made
use Rattle.calls_dispatch.specs.Dispatch.{call_of, input_of}
use Rattle.restore.specs.Restored.{restored_says}
use Rattle.calls.specs.Calls.{left_by, restored_on}
use Rattle.calls.specs.declared.RestoreLeft.{RestoreLeft}
use Rattle.calls_code.specs.declared.Numbers.{Numbers}
use Rattle.calls_code.specs.declared.Decoded.{Decoded}
use Rattle.calls_code.specs.Encoding.{run_at, entries_at, six_of}
use Rattle.calls_code.specs.Coded.{six, restore_in, decoded_as}
use Rattle.calls_session.specs.declared.Session.{Session}
use Rattle.calls_session.specs.declared.CallLeft.{CallLeft}
use Rattle.calls_session.specs.Session.{input_in, store_at, moved_by, next_of, LeftAs, Ran}

module _ (s : Session) (run records : List ℕ) where
  abbrev its_run : List ℕ
  its_run = run_at s.start s.len run

  abbrev its_entries : List Entry
  its_entries = entries_at s.first s.n records

  -- the session with another mark and other fields
  next-left : {x : Left} {answer : Answer} {m : Mark} {c : Contact} {a : Numbers} {r : CallLeft} (l : Lists) (out : List ℕ)
      → leaves answer (input_of m its_run its_entries c l out) ≡ x → six a ≡ six_of answer → r ≡ next_of s m c a → LeftAs x (store_at s) (input_in r.session run records l out) r
  next-left {x} l out is says next =
      subst (λ (r : CallLeft). LeftAs x (store_at s) (input_in r.session run records l out) r) (sym next)
      (record { stands = ap (λ y. y.after) is; said = ap Some (says ∙ ap (λ y. six_of y.answer) is); placed = refl })

  -- ---- a call that was made on the session's store, found in the lent run and records
  module _ {p : List ℕ} {t : List Entry} (in-run : p ≡ its_run) (in-records : t ≡ its_entries) where
    on-its-store : (call : Call) {answer : Answer} {m : Mark} {c : Contact} {l' : Lists} {out' : List ℕ} (l : Lists) (out : List ℕ)
        → leaves answer (input_of m p t c l' out') ≡ step HIGHEST call (input_of s.mark p t s.contact l out)
        → leaves answer (input_of m its_run its_entries c l' out') ≡ step HIGHEST call (input_in s run records l out)
    on-its-store call {answer = answer} {m = m} {c = c} {l' = l'} {out' = out'} l out is =
        sym (ap₂ (λ (r : List ℕ) (es : List Entry). leaves answer (input_of m r es c l' out')) in-run in-records)
        ∙ is
        ∙ ap₂ (λ (r : List ℕ) (es : List Entry). step HIGHEST call (input_of s.mark r es s.contact l out)) in-run in-records

    pub step_left : (call : Call) {answer : Answer} {m : Mark} {c : Contact} {a : Numbers} {r : CallLeft} {l' : Lists} {out' : List ℕ} (l : Lists) (out : List ℕ)
        → leaves answer (input_of m p t c l' out') ≡ step HIGHEST call (input_of s.mark p t s.contact l out)
        → six a ≡ six_of answer → r ≡ next_of s m c a
        → LeftAs (step HIGHEST call (input_in s run records l out)) (store_at s) (input_in r.session run records l' out') r
    step_left call {l' = l'} {out' = out'} l out is says next = next-left l' out' (on-its-store call l out is) says next

-- ---- restore
module _ (s : Session) (run records numbers : List ℕ) where
  pub restore-ran : (left : RestoreLeft) {start len first n : ℕ} {p : List ℕ} {t : List Entry} {r : CallLeft} (h after : Input)
      → start ≡ get_or numbers 1 0 → len ≡ get_or numbers 2 0 → first ≡ get_or numbers 3 0 → n ≡ get_or numbers 4 0 → p ≡ run_at start len run → t ≡ entries_at first n records
      → restored_on left p t h ≡ step HIGHEST (restore p t) h
      → (let x = left_by (restored_says left.answer) left.mark (run_at start len run) (entries_at first n records) h in
      LeftAs x (cond (is_granted x.answer) (start ∷ len ∷ first ∷ n ∷ []) (store_at s)) after r)
      → Ran (some (restore_in run records numbers)) numbers s h after r
  restore-ran left {start} {len} {first} {n} {r = r} h after at_a at_b at_c at-d in-run in-records is its = record {
    is = subst₂ (λ (x : Left) (at : List ℕ). LeftAs x (cond (is_granted x.answer) at (store_at s)) after r)
        (sym (ap₂ (λ (x : List ℕ) (es : List Entry). restored_on left x es h) in-run in-records)
        ∙ is
        ∙ ap₂ (λ (x : List ℕ) (es : List Entry). step HIGHEST (restore x es) h)
        (in-run ∙ ap₂ (λ (x y : ℕ). run_at x y run) at_a at_b)
        (in-records ∙ ap₂ (λ (x y : ℕ). entries_at x y records) at_c at-d))
        (λ j. at_a j ∷ at_b j ∷ at_c j ∷ at-d j ∷ [])
        its;
  }

-- ---- the call that was decoded
-- no decoded call but restore moves the store
stays : (c : Made) (a : Answer) (numbers at : List ℕ) → moved_by (call_of c) a numbers at ≡ at
stays (made.Open id) a numbers at = refl
stays (made.Cover f t) a numbers at = refl
stays (made.Contains m) a numbers at = refl
stays (made.Covers f t) a numbers at = refl
stays made.Take a numbers at = refl
stays made.Statement a numbers at = refl
stays made.Write a numbers at = refl

pub step-ran : (c : Made) (numbers : List ℕ) (s : Session) {h after : Input} {r : CallLeft} → LeftAs (step HIGHEST (call_of c) h) (store_at s) after r → Ran (some (call_of c)) numbers s h after r
step-ran c numbers s {h} {after} {r} its = record {
  is = subst (λ (at : List ℕ). LeftAs (step HIGHEST (call_of c) h) at after r) (sym (stays c (step HIGHEST (call_of c) h).answer numbers (store_at s))) its;
}

pub decoded-ran : (run records numbers : List ℕ) {s : Session} {d k : Optional Decoded} {y : Option Call} {h after : Input} {r : CallLeft} → d ≡ k → decoded_as d run records numbers ≡ y
    → Ran (decoded_as k run records numbers) numbers s h after r → Ran y numbers s h after r
decoded-ran run records numbers {s = s} {h = h} {after = after} {r = r} is says ran =
    subst (λ (z : Option Call). Ran z numbers s h after r) (ap (λ (x : Optional Decoded). decoded_as x run records numbers) (sym is) ∙ says) ran
