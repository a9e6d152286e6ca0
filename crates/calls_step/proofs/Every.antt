-- Every call, and every list of calls, agrees with the ledger.
-- Assumes nothing.
use Prim.Native.Nat.{ℕ, ◌+◌, ◌^◌}
use mathlib.Core.List.{List, [], ◌∷◌}
use mathlib.Core.Bool.{Bool, true, false, cond}
use mathlib.Core.Path.{◌≡◌, refl, sym, ap, subst}
use native.Mathlib.Omega.{arith}
use Rattle.layout.specs.Questions.{STORE}
use Rattle.contact.specs.Contact.{Lists, contact_of}
use Rattle.contact.specs.declared.Contact.{Contact as Struct}
use Rattle.store.specs.declared.Entry.{Entry}
use Rattle.calls_step.specs.declared.Mark.TheVariants.{Fresh, Restored, Opened}
use Rattle.ledger.specs.Call.{Call, restore, opens, cover, contains, covers, take, statement, write, is_granted}
use Rattle.calls_step.specs.Input.{Input, Left, lent_of}
use Rattle.calls_step.specs.Step.{step}
use Rattle.calls_step.specs.Step as steps
use Rattle.ledger.specs.Ledger.{Open, Ledger, nothing, restored, opened, Account, current, ledger}
use Rattle.ledger.specs.Ledger as ledgers
use Rattle.calls_step.specs.Legal.{Turn, Each, Typed, last_left, Legal}
use Rattle.calls_step.specs.Agree.{laid_lists, AgreesAll}
use Rattle.calls_step.specs.Stands.{SoundStore, Sound, SoundLedger, StandsFor, LastLeft}
use Rattle.calls_step.proofs.Stands.{continued-stands}
use Rattle.calls_step.proofs.Good.{after, Next, Good, refuse-good, restore-good}
use Rattle.calls_step.proofs.Opening.{open-good}
use Rattle.calls_step.proofs.Asking.{input, stands}
use Rattle.calls_step.proofs.Calls.{contains-good, covers-good, take-good, statement-good, write-good}
use Rattle.calls_step.proofs.Covering.{cover-good}

module _ (N : ℕ) (wide : N + 1 ≡ 256 ^ 4) where
  abbrev Agree : Call → Ledger → Input → Type 0
  Agree c l h = Good N l h (step N c h) (ledger N c (lent_of h) l)

  -- ---- while no contact is open: any fields and lists
  module _ (run : List ℕ) (es : List Entry) (fields : Struct) (ls : Lists) (out : List ℕ) where
    abbrev fresh : Input
    fresh = record { mark = Fresh; run = run; entries = es; contact = fields; lists = ls; out = out }

    abbrev ready : Input
    ready = record { mark = Restored; run = run; entries = es; contact = fields; lists = ls; out = out }

    fresh-stands : StandsFor N nothing fresh
    fresh-stands = record { stands = refl }

    ready-stands : StandsFor N (restored run es) ready
    ready-stands = record { stands = refl }

    on-nothing : (c : Call) → Typed N c → Agree c nothing fresh
    unfolding steps.step ledgers.ledger
    on-nothing (restore run' es') t = restore-good N nothing fresh fresh-stands run' es' t
    on-nothing (opens k) t = refuse-good N nothing fresh fresh-stands STORE
    on-nothing (cover f u) t = refuse-good N nothing fresh fresh-stands STORE
    on-nothing (contains n) t = refuse-good N nothing fresh fresh-stands STORE
    on-nothing (covers f u) t = refuse-good N nothing fresh fresh-stands STORE
    on-nothing take t = refuse-good N nothing fresh fresh-stands STORE
    on-nothing statement t = refuse-good N nothing fresh fresh-stands STORE
    on-nothing write t = refuse-good N nothing fresh fresh-stands STORE

    on-restored : SoundStore run es → (c : Call) → Typed N c → Agree c (restored run es) ready
    unfolding steps.step ledgers.ledger
    on-restored s (restore run' es') t = restore-good N (restored run es) ready ready-stands run' es' t
    on-restored s (opens k) t = open-good N (omega arith) run es s k Restored fields ls out (restored run es) ready-stands
    on-restored s (cover f u) t = refuse-good N (restored run es) ready ready-stands STORE
    on-restored s (contains n) t = refuse-good N (restored run es) ready ready-stands STORE
    on-restored s (covers f u) t = refuse-good N (restored run es) ready ready-stands STORE
    on-restored s take t = refuse-good N (restored run es) ready ready-stands STORE
    on-restored s statement t = refuse-good N (restored run es) ready ready-stands STORE
    on-restored s write t = refuse-good N (restored run es) ready ready-stands STORE

  -- ---- on an open contact
  module _ (run : List ℕ) (es : List Entry) (o : Open) (ls : Lists) (out : List ℕ) (sound : Sound N run es o) (same : laid_lists (current N o) 0 ls ≡ ls) where
    on-opened : (c : Call) → Typed N c → Agree c (opened run es o) (input N run es o ls out)
    unfolding steps.step ledgers.ledger
    on-opened (restore run' es') t = restore-good N (opened run es o) (input N run es o ls out) (stands N run es o ls out sound same) run' es' t
    on-opened (opens k) t =
        open-good N (omega arith) run es sound.store k (Opened (record { 0 = o.id })) (contact_of (current N o)) ls out (opened run es o) (stands N run es o ls out sound same)
    on-opened (cover f u) t = cover-good N wide run es o ls out sound same f u t
    on-opened (contains n) t = contains-good N wide run es o ls out sound same n
    on-opened (covers f u) t = covers-good N wide run es o ls out sound same f u
    on-opened take t = take-good N wide run es o ls out sound same
    on-opened statement t = statement-good N wide run es o ls out sound same
    on-opened write t = write-good N wide run es o ls out sound same

  -- ---- every call, on an input that stands for the ledger's state
  pub call-good : (c : Call) → Typed N c → (l : Ledger) → SoundLedger N l → (h : Input) → StandsFor N l h → Agree c l h
  call-good c t nothing s h e = subst (Agree c nothing) e.stands (on-nothing h.run h.entries h.contact h.lists h.out c t)
  call-good c t (restored run es) s h e = subst (Agree c (restored run es)) e.stands (on-restored run es h.contact h.lists h.out s c t)
  call-good c t (opened run es o) s h e =
      subst (Agree c (opened run es o)) e.stands
      (on-opened run es o (laid_lists (current N o) 0 h.lists) h.out s (ap (λ (g : Input). laid_lists (current N o) 0 g.lists) e.stands) c t)

  -- ---- what is left then is the next state's
  pub record Kept (l : Ledger) (g : Input) : Type 0 where
    pub sound : SoundLedger N l
    pub left : LastLeft N l g

  pub kept_next : (l : Ledger) (g h : Input) (s : Left) (a : Account) → Kept l g → Good N l h s a → Kept a.state (last_left g s)
  kept_next l g h s a k good =
      subst (λ (x : Left). Kept a.state (last_left g x)) (sym good.agrees) (go (is_granted a.answer) good.next)
    where
      go : (b : Bool) → Next N b l h a → Kept a.state (cond b (after N a h) g)
      go true n = record { sound = n.0; left = n.1 }
      go false n = subst (λ (x : Ledger). Kept x g) (sym n) k

  all-agree : (ts : List Turn) (l : Ledger) (g : Input) → Kept l g → Legal N g ts → AgreesAll N l ts
  all-agree [] l g k legal = tt
  all-agree (t ∷ ts) l g k legal =
      let good = call-good t.call legal.0 l k.sound t.input (continued-stands N l g t.input k.left legal.1) in
      (good.agrees, all-agree ts (ledger N t.call (lent_of t.input) l).state (last_left g (step N t.call t.input)) (kept_next l g t.input _ _ k good) legal.2)

  -- what holds of each call on an input that stands for a sound state holds of each turn of a legal list
  pub each_turn : (P : Turn → Type 0) → ((c : Call) → Typed N c → (l : Ledger) → SoundLedger N l → (h : Input) → StandsFor N l h → P (record { call = c; input = h }))
      → (ts : List Turn) (l : Ledger) (g : Input) → Kept l g → Legal N g ts → Each P ts
  each_turn P f [] l g k legal = tt
  each_turn P f (t ∷ ts) l g k legal =
      let stands = continued-stands N l g t.input k.left legal.1 in
      let good = call-good t.call legal.0 l k.sound t.input stands in (
        f t.call legal.0 l k.sound t.input stands,
        each_turn P f ts (ledger N t.call (lent_of t.input) l).state (last_left g (step N t.call t.input)) (kept_next l g t.input _ _ k good) legal.2,
      )

  pub begun : (g : Input) → g.mark ≡ Fresh → Kept nothing g
  begun g m = record { sound = tt; left = m }

  pub every-list : (g : Input) → g.mark ≡ Fresh → (ts : List Turn) → Legal N g ts → AgreesAll N nothing ts
  every-list g m ts legal = all-agree ts nothing g (begun g m) legal
