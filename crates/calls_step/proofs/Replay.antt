-- Calls one after the other in memory that stands for a state of the ledger: they agree with it, and what they leave stands for the next state.
-- Assumes nothing.
use Prim.Native.Nat.{ℕ, ◌+◌, ◌^◌}
use mathlib.Core.List.{List, [], ◌∷◌}
use mathlib.Core.Bool.{Bool, true, false, cond}
use mathlib.Core.Path.{◌≡◌, refl, sym, ap, ap₂, ◌∙◌, subst}
use Rattle.store.specs.declared.Entry.{Entry}
use Rattle.store.specs.Veiled.{VeilEqual}
use Rattle.calls_step.specs.declared.Mark.TheVariants.{Fresh}
use Rattle.ledger.specs.Call.{Call, restore, Answer, is_granted, Lent}
use Rattle.calls_step.specs.Input.{Input, Left, lent_of}
use Rattle.calls_step.specs.Step.{step}
use Rattle.ledger.specs.Ledger.{Ledger, nothing, Account, ledger}
use Rattle.calls_step.specs.Legal.{Typed, Continues, Legal, last_left}
use Rattle.calls_step.specs.Agree.{AgreesAll}
use Rattle.calls_step.specs.Stands.{SoundLedger, StandsFor}
use Rattle.calls_step.specs.Two.{stores, same, Paired, LedgersAlike}
use Rattle.calls_step.specs.Replay.{replay, answers, ledger_answers, AllAlike, AllTyped, Agreed, AgreedAlike}
use Rattle.calls_step.proofs.Again.{continued-again}
use Rattle.calls_step.proofs.Refused.{step_keeps}
use Rattle.calls_step.proofs.Lengths.{lent-keeps}
use Rattle.calls_step.proofs.Good.{Next, Good}
use Rattle.calls_step.proofs.Every.{call-good, kept_next}
use Rattle.calls_step.proofs.Two.{after-stands, turns-alike, accounts-alike}

module _ (N : ℕ) where
  pub fresh-stands : (h : Input) → h.mark ≡ Fresh → StandsFor N nothing h
  fresh-stands h m = record { stands = λ i. record { mark = sym m i; run = h.run; entries = h.entries; contact = h.contact; lists = h.lists; out = h.out } }

  -- a no changes nothing, so what was left last is what a call leaves
  pub last-left : (c : Call) (h : Input) → last_left h (step N c h) ≡ (step N c h).after
  last-left c h = go (is_granted (step N c h).answer) refl
    where
      go : (b : Bool) → is_granted (step N c h).answer ≡ b → last_left h (step N c h) ≡ (step N c h).after
      go true e = ap (λ (x : Bool). cond x (step N c h).after h) e
      go false e = ap (λ (x : Bool). cond x (step N c h).after h) e ∙ sym ((step_keeps h N c).keeps e)

  last-long : (c : Call) (h : Input) → lent_of (last_left h (step N c h)) ≡ lent_of h
  last-long c h = ap lent_of (last-left c h) ∙ lent-keeps h N c

  -- what was left last before the call may differ from what it was handed; behind it as well
  continued-next : (c : Call) (g h : Input) → Continues g h → Continues (last_left g (step N c h)) (last_left h (step N c h))
  continued-next c g h e = go (is_granted (step N c h).answer)
    where
      go : (b : Bool) → Continues (cond b (step N c h).after g) (cond b (step N c h).after h)
      go true = continued-again (step N c h).after
      go false = e

  pub replay-legal : (cs : List Call) → AllTyped N cs → (g h : Input) → Continues g h → Legal N g (replay N cs h)
  replay-legal [] ts g h e = tt
  replay-legal (c ∷ cs) ts g h e = (ts.0, e, replay-legal cs ts.1 _ _ (continued-next c g h e))

  -- ---- the same calls, on stores that differ only in veiled bytes, where the same lengths are lent
  same-paired : (cs : List Call) (h i : Input) → lent_of h ≡ lent_of i → Paired (replay N cs h) (replay N cs i)
  same-paired [] h i e = tt
  same-paired (c ∷ cs) h i e = (same c, e, same-paired cs _ _ (last-long c h ∙ e ∙ sym (last-long c i)))

  pub stores-paired : (run run' : List ℕ) (es : List Entry) → VeilEqual run run' es → (cs : List Call) (h i : Input) → lent_of h ≡ lent_of i
      → Paired (replay N (restore run es ∷ cs) h) (replay N (restore run' es ∷ cs) i)
  stores-paired run run' es v cs h i e = (stores run run' es v, e, same-paired cs _ _ (last-long (restore run es) h ∙ e ∙ sym (last-long (restore run' es) i)))

module _ (N : ℕ) (wide : N + 1 ≡ 256 ^ 4) where
  -- one call: the next state, and that it is sound, and what is left stands for it
  record Nexts (c : Call) (l : Ledger) (h : Input) : Type 0 where
    good : Good N l h (step N c h) (ledger N c (lent_of h) l)
    sound : SoundLedger N (ledger N c (lent_of h) l).state
    stands : StandsFor N (ledger N c (lent_of h) l).state (last_left h (step N c h))

  sound-next : (l : Ledger) (h : Input) (a : Account) (s : Left) → SoundLedger N l → Good N l h s a → SoundLedger N a.state
  sound-next l h a s k good = go (is_granted a.answer) good.next
    where
      go : (b : Bool) → Next N b l h a → SoundLedger N a.state
      go true n = n.0
      go false n = subst (SoundLedger N) (sym n) k

  nexts : (c : Call) → Typed N c → (l : Ledger) → SoundLedger N l → (h : Input) → StandsFor N l h → Nexts c l h
  nexts c t l s h st =
      let good = call-good N wide c t l s h st in
      record {
        good = good;
        sound = sound-next l h _ _ s good;
        stands = subst (StandsFor N (ledger N c (lent_of h) l).state) (sym (last-left N c h)) (after-stands N wide c l h _ st good);
      }

  pub replayed : (cs : List Call) → AllTyped N cs → (l : Ledger) → SoundLedger N l → (h : Input) → StandsFor N l h → Agreed N l cs h
  replayed [] ts l s h st = record { agrees = tt; sound = s; stands = st; legal = λ g e. tt; last = λ g k e. k }
  replayed (c ∷ cs) ts l s h st =
      let x = nexts c ts.0 l s h st in
      let rest = replayed cs ts.1 (ledger N c (lent_of h) l).state x.sound (last_left h (step N c h)) x.stands in
      record {
        agrees = (x.good.agrees, rest.agrees);
        sound = rest.sound;
        stands = rest.stands;
        legal = λ g e. replay-legal N (c ∷ cs) ts g h e;
        last = λ g k e. rest.last _ (kept_next N wide l g h _ _ (record { sound = s; left = k }) x.good).left (continued-next N c g h e);
      }

  -- ---- they answer as the ledger does, of which the same lengths are asked each time
  same-answers : (cs : List Call) (h : Input) (l : Ledger) (lent : Lent) → lent_of h ≡ lent → AgreesAll N l (replay N cs h) → answers N cs h ≡ ledger_answers N cs lent l
  same-answers [] h l lent e a = refl
  same-answers (c ∷ cs) h l lent e a =
      let first : (step N c h).answer ≡ (ledger N c (lent_of h) l).answer = ap (λ (x : Left). x.answer) a.0 in
      let rest : answers N cs (last_left h (step N c h)) ≡ ledger_answers N cs lent (ledger N c (lent_of h) l).state =
      same-answers cs (last_left h (step N c h)) (ledger N c (lent_of h) l).state lent (last-long N c h ∙ e) a.1 in
      ap₂ (λ (x : Answer) (xs : List Answer). x ∷ xs) first rest ∙ ap (λ (x : Lent). (ledger N c x l).answer ∷ ledger_answers N cs lent (ledger N c x l).state) e

  pub replay-answers : (cs : List Call) (h : Input) → h.mark ≡ Fresh → AllTyped N cs → answers N cs h ≡ ledger_answers N cs (lent_of h) nothing
  replay-answers cs h m t = same-answers cs h nothing (lent_of h) refl (replayed cs t nothing tt h (fresh-stands N h m)).agrees

  -- ---- two runs
  pub two-replays : (cs ds : List Call) → AllAlike cs ds → AllTyped N cs → AllTyped N ds → (l m : Ledger) → LedgersAlike N l m → SoundLedger N l → SoundLedger N m
      → (h i : Input) → StandsFor N l h → StandsFor N m i → lent_of h ≡ lent_of i → AgreedAlike N l m cs ds h i
  two-replays [] [] alike ts us l m ls s s' h i st st' e = record { turns = tt; states = ls }
  two-replays [] (d ∷ ds) alike ts us l m ls s s' h i st st' e = absurd alike
  two-replays (c ∷ cs) [] alike ts us l m ls s s' h i st st' e = absurd alike
  two-replays (c ∷ cs) (d ∷ ds) alike ts us l m ls s s' h i st st' e =
      let x = nexts c ts.0 l s h st in
      let y = nexts d us.0 m s' i st' in
      let accounts = accounts-alike N wide c d alike.0 h i e l m ls s s' in
      let rest =
      two-replays cs ds alike.1 ts.1 us.1 _ _ accounts.state x.sound y.sound _ _ x.stands y.stands (last-long N c h ∙ e ∙ sym (last-long N d i)) in
      record { turns = (turns-alike N wide c d h i l m _ _ st st' x.good y.good accounts, rest.turns); states = rest.states }
