-- Two runs of one list of calls, over stores that differ only in veiled bytes, are alike.
-- Assumes nothing.
use Prim.Native.Nat.{ℕ, ◌+◌, ◌^◌}
use mathlib.Core.List.{List, [], ◌∷◌, ◌++◌}
use mathlib.Core.Bool.{Bool, true, false}
use mathlib.Core.Path.{◌≡◌, refl, sym, ap, ◌∙◌, subst, subst₂}
use lib.Seq.{take_at}
use Rattle.store.specs.declared.Entry.{Entry}
use Rattle.calls_step.specs.declared.Mark.{Mark}
use Rattle.calls_step.specs.declared.Mark.TheVariants.{Fresh, Opened}
use Rattle.ledger.specs.Call.{Call, Answer, granted, advanced, truth, number, wrote, said, refused, refused_at, is_granted, Lent}
use Rattle.calls_step.specs.Input.{Input, Left, lent_of}
use Rattle.calls_step.specs.Step.{step}
use Rattle.ledger.specs.Ledger.{Open, Ledger, nothing, opened, Account, current, ledger}
use Rattle.calls_step.specs.Legal.{Turn, Legal}
use Rattle.calls_step.specs.Agree.{standing, shown}
use Rattle.calls_step.specs.Two.{CallsAlike, Paired, RowsAlike, WrittenAlike, FieldsOf, OpenedAlike, LeftsAlike, AlikeAll, LedgersAlike, nothings, restoreds, openeds}
use Rattle.calls_step.proofs.Again.{continued-again}
use Rattle.calls_step.specs.Stands.{SoundLedger, StandsFor}
use Rattle.calls_step.proofs.Stands.{continued-stands}
use Rattle.calls_step.proofs.Good.{after, shown-out, Next, Good}
use Rattle.calls_step.proofs.Refused.{step_keeps}
use Rattle.calls_step.proofs.Every.{Kept, begun, call-good, kept_next}
use Rattle.calls_step.proofs.Accounts.{OutputsAlike, AccountsAlike}
use Rattle.calls_step.proofs.AlikeLedgers.{ledger-alike}

-- ---- what was written stands at the front of the output
written : (a : Answer) (row row' out out' : List ℕ) → OutputsAlike a row row' → WrittenAlike a (row ++ out) (row' ++ out')
written (wrote n) row row' out out' h =
    subst₂ RowsAlike (sym (take_at row out n (sym h.0))) (sym (take_at row' out' n (sym (h.0 ∙ h.1.long)))) h.1
written granted row row' out out' h = tt
written (advanced b n) row row' out out' h = tt
written (truth b) row row' out out' h = tt
written (number n) row row' out out' h = tt
written (said n line) row row' out out' h = tt
written (refused q) row row' out out' h = tt
written (refused_at q i) row row' out out' h = tt

module _ (N : ℕ) (wide : N + 1 ≡ 256 ^ 4) where
  -- what stands after a call stands for the ledger's next state
  pub after-stands : (c : Call) (l : Ledger) (h : Input) (a : Account) → StandsFor N l h → Good N l h (step N c h) a → StandsFor N a.state (step N c h).after
  after-stands c l h a st good = go (is_granted a.answer) refl good.next
    where
      go : (b : Bool) → is_granted a.answer ≡ b → Next N b l h a → StandsFor N a.state (step N c h).after
      go true e n =
          subst (λ (x : Left). StandsFor N a.state x.after) (sym good.agrees) (continued-stands N a.state (after N a h) (after N a h) n.1 (continued-again (after N a h)))
      go false e n = subst₂ (StandsFor N) (sym n) (sym ((step_keeps h N c).keeps (ap (λ (x : Left). is_granted x.answer) good.agrees ∙ e))) st

  -- ---- alike while the ledgers are
  mark_of : (l : Ledger) (h : Input) → StandsFor N l h → (standing N l 0 h.out h).mark ≡ h.mark
  mark_of l h s = ap (λ (x : Input). x.mark) s.stands

  marks-alike : (l l' : Ledger) → LedgersAlike N l l' → (h h' : Input) → StandsFor N l h → StandsFor N l' h' → h.mark ≡ h'.mark
  marks-alike l l' nothings h h' s s' = sym (mark_of l h s) ∙ mark_of l' h' s'
  marks-alike l l' (restoreds run run' es v) h h' s s' = sym (mark_of l h s) ∙ mark_of l' h' s'
  marks-alike l l' (openeds run run' es o o' v a) h h' s s' = sym (mark_of l h s) ∙ ap (λ (k : ℕ). Opened (record { 0 = k })) a.id ∙ mark_of l' h' s'

  fields-of : (run : List ℕ) (es : List Entry) (o : Open) (h : Input) → StandsFor N (opened run es o) h → FieldsOf (current N o) h
  fields-of run es o h s = record { contact = sym (ap (λ (x : Input). x.contact) s.stands); lists = ap (λ (x : Input). x.lists) s.stands }

  fields-alike : (l l' : Ledger) → LedgersAlike N l l' → (h h' : Input) → StandsFor N l h → StandsFor N l' h' → OpenedAlike h.mark h h'
  fields-alike l l' nothings h h' s s' = subst (λ (m : Mark). OpenedAlike m h h') (mark_of l h s) tt
  fields-alike l l' (restoreds run run' es v) h h' s s' = subst (λ (m : Mark). OpenedAlike m h h') (mark_of l h s) tt
  fields-alike l l' (openeds run run' es o o' v a) h h' s s' =
      subst (λ (m : Mark). OpenedAlike m h h') (mark_of l h s)
      (record { its = current N o; others = current N o'; alike = a.fields; first = fields-of run es o h s; second = fields-of run' es o' h' s' })

  outs-alike : (a a' : Account) → AccountsAlike N a a' → (h h' : Input) (s s' : Left) → s ≡ shown N a h → s' ≡ shown N a' h' → WrittenAlike s.answer s.after.out s'.after.out
  outs-alike a a' k h h' s s' e e' =
      subst₂ (λ (x y : Left). WrittenAlike x.answer x.after.out y.after.out) (sym e) (sym e')
      (subst₂ (WrittenAlike a.answer) (sym (shown-out N a h)) (sym (shown-out N a' h')) (written a.answer a.output a'.output _ _ k.output))

  -- ---- one turn of both: the calls agree with ledgers that are alike
  pub turns-alike : (c d : Call) (h i : Input) (l m : Ledger) (a b : Account) → StandsFor N l h → StandsFor N m i → Good N l h (step N c h) a → Good N m i (step N d i) b → AccountsAlike N a b
      → LeftsAlike (step N c h) (step N d i)
  turns-alike c d h i l m a b st st' good good' accounts =
      let after = after-stands c l h a st good in
      let after' = after-stands d m i b st' good' in
      record {
        answer = ap (λ (x : Left). x.answer) good.agrees ∙ accounts.answer ∙ sym (ap (λ (x : Left). x.answer) good'.agrees);
        mark = marks-alike _ _ accounts.state _ _ after after';
        fields = fields-alike _ _ accounts.state _ _ after after';
        written = outs-alike a b accounts h i _ _ good.agrees good'.agrees;
      }

  pub accounts-alike : (c d : Call) → CallsAlike c d → (h i : Input) → lent_of h ≡ lent_of i → (l m : Ledger) → LedgersAlike N l m → SoundLedger N l → SoundLedger N m
      → AccountsAlike N (ledger N c (lent_of h) l) (ledger N d (lent_of i) m)
  accounts-alike c d alike h i e l m ls s s' =
      subst (λ (x : Lent). AccountsAlike N (ledger N c (lent_of h) l) (ledger N d x m)) e (ledger-alike N wide c d alike (lent_of h) l m ls s s')

  -- ---- the lists
  all_alike : (ts us : List Turn) → Paired ts us → (l l' : Ledger) (g g' : Input) → Kept N wide l g → Kept N wide l' g' → Legal N g ts → Legal N g' us → LedgersAlike N l l' → AlikeAll N ts us
  all_alike [] [] p l l' g g' k k' legal legal' a = tt
  all_alike [] (u ∷ us) p l l' g g' k k' legal legal' a = absurd p
  all_alike (t ∷ ts) [] p l l' g g' k k' legal legal' a = absurd p
  all_alike (t ∷ ts) (u ∷ us) p l l' g g' k k' legal legal' a =
      let stands = continued-stands N l g t.input k.left legal.1 in
      let stands' = continued-stands N l' g' u.input k'.left legal'.1 in
      let good = call-good N wide t.call legal.0 l k.sound t.input stands in
      let good' = call-good N wide u.call legal'.0 l' k'.sound u.input stands' in
      let accounts = accounts-alike t.call u.call p.0 t.input u.input p.1 l l' a k.sound k'.sound in (
        turns-alike t.call u.call t.input u.input l l' _ _ stands stands' good good' accounts,
        all_alike ts us p.2 _ _ _ _ (kept_next N wide l g t.input _ _ k good) (kept_next N wide l' g' u.input _ _ k' good') legal.2 legal'.2 accounts.state,
      )

  pub two_runs : (g g' : Input) → g.mark ≡ Fresh → g'.mark ≡ Fresh → (ts us : List Turn) → Paired ts us → Legal N g ts → Legal N g' us → AlikeAll N ts us
  two_runs g g' m m' ts us p legal legal' = all_alike ts us p nothing nothing g g' (begun N wide g m) (begun N wide g' m') legal legal' nothings
