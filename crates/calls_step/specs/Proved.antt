-- What is proved of the calls (proofs/Proved.antt): demand 3 of document 01, and 02's A10 and A11, as claims about lists of calls as a whole.
-- Assumes nothing.
use Rattle.std.specs.Prelude.{ℕ, false, ◌≡◌}
use mathlib.Core.List.{List, ◌++◌, Perm}
use Rattle.rows.specs.Values.{Range}
use Rattle.contact_image.specs.Row.{ContactTyped, ListsTyped}
use Rattle.store.specs.declared.Entry.{Entry}
use Rattle.calls_step.specs.declared.Mark.TheVariants.{Fresh}
use Rattle.ledger.specs.Call.{Call, restore, is_granted, has_output}
use Rattle.calls_step.specs.Input.{Input, lent_of, leaves}
use Rattle.numbers.specs.Decimal.{DecimalLaws}
use Rattle.calls_step.specs.Step.{output, passes, step}
use Rattle.calls_step.specs.Omitted.{passes_in_parts}
use Rattle.ledger.specs.Ledger.{Ledger, nothing}
use Rattle.ledger.specs.Orders.{OrderLaws}
use Rattle.ledger.specs.Chains.{ChainLaws}
use Rattle.calls_step.specs.Legal.{Turn, Each, Continues, Legal}
use Rattle.calls_step.specs.Agree.{AgreesAll}
use Rattle.calls_step.specs.Stands.{SoundLedger, StandsFor, LastLeft}
use Rattle.calls_step.specs.Two.{Paired, AlikeAll, LedgersAlike}
use Rattle.calls_step.specs.Replay.{closing, answers, ledger_answers, AllAlike, AllTyped, Agreed, AgreedAlike}
use Rattle.calls_step.specs.Request.{Request, Serves, RequestsTyped, Served}
use Rattle.calls_step.specs.Stuck.{Unstuck}
use Rattle.calls_step.specs.Blank.{Blankable, Blanks}
use Rattle.calls_step.specs.Orders.{CoverTurns, CoversThenWrite}
use Rattle.calls_step.specs.Chains.{AllButChains, SameAnswers}

-- fields, lists and output are as they were
pub record NothingWritten (h after : Input) : Type 0 where
  pub contact : after.contact ≡ h.contact
  pub lists : after.lists ≡ h.lists
  pub out : after.out ≡ h.out

-- ---- of lists of calls
-- N is the highest message number. g stands for what is there before the first call: nothing is restored, and all else is anything
pub record LedgerLaws (N : ℕ) : Type 0 where
  -- every legal list agrees with the ledger, call by call: answer, mark, store, fields, every lent list and the output whole
  pub every-list : (g : Input) → g.mark ≡ Fresh → (ts : List Turn) → Legal N g ts → AgreesAll N nothing ts
  -- two legal lists of the same calls and lent lengths, on stores that differ only in veiled bytes
  pub two_runs : (g g' : Input) → g.mark ≡ Fresh → g'.mark ≡ Fresh → (ts us : List Turn) → Paired ts us → Legal N g ts → Legal N g' us → AlikeAll N ts us
  -- every list of calls, with any lent lengths, has a legal run
  pub occurs : (g : Input) → g.mark ≡ Fresh → (ws : List Request) → RequestsTyped N ws → Served N g ws
  -- in a legal list 34 comes only from no store, no open contact, or a list lent too short
  pub never_stuck : (g : Input) → g.mark ≡ Fresh → (ts : List Turn) → Legal N g ts → Each (Unstuck N) ts
  -- covers of the same ranges in two orders, from one state, no cover and no write refused (02, A11): the row that is written is the same bytes, and the counts of new
  -- numbers have the same total. `Perm` and what the ledger says of it: ledger's Orders.antt
  pub any_order : (g : Input) → g.mark ≡ Fresh → (ps qs : List Turn) → closing N nothing ps ≡ closing N nothing qs → (rs ss : List Range) (x y : ℕ) (row other : List ℕ)
      → CoversThenWrite N g ps rs x row → CoversThenWrite N g qs ss y other → Perm rs ss → (row ≡ other) × (x ≡ y)
  -- ... and without a write: the ledger comes to one state
  pub same-state : (g : Input) → g.mark ≡ Fresh → (ps qs : List Turn) → closing N nothing ps ≡ closing N nothing qs → (ts us : List Turn) → Legal N g (ps ++ ts) → Legal N g (qs ++ us)
      → (rs ss : List Range) (x y : ℕ) → CoverTurns N ts rs x → CoverTurns N us ss y → Perm rs ss → (closing N nothing (ps ++ ts) ≡ closing N nothing (qs ++ us)) × (x ≡ y)
  -- two beginnings come to one state if they are the same calls with the same lent lengths, whatever else they are handed
  pub one_state : (l : Ledger) (ws : List Request) (ps qs : List Turn) → Serves ws ps → Serves ws qs → closing N l ps ≡ closing N l qs
  -- eight places for chains are enough (02, A10): the same calls answer the same, whatever more is lent for chains
  pub eight-enough : (g g' : Input) → g.mark ≡ Fresh → g'.mark ≡ Fresh → (ts us : List Turn) → AllButChains ts us → Legal N g ts → Legal N g' us → SameAnswers N ts us
  -- the same calls on blanked stores can be made, and give every answer that the list gave
  pub blanked-list : (g : Input) → g.mark ≡ Fresh → (ts : List Turn) → Legal N g ts → Each (λ t. Blankable t.call) ts → Blanks N g ts
  -- memory stands for the empty ledger while nothing is restored, and for the next state if it is handed as much as is lent of what was left last
  pub begins : (h : Input) → h.mark ≡ Fresh → StandsFor N nothing h
  pub goes_on : (l : Ledger) (g h : Input) → LastLeft N l g → Continues g h → StandsFor N l h
  -- calls one after the other in memory that stands for a sound state agree with the ledger, and so may the next list
  pub replayed : (l : Ledger) → SoundLedger N l → (h : Input) → StandsFor N l h → (cs : List Call) → AllTyped N cs → Agreed N l cs h
  -- so they answer as it does
  pub answered : (h : Input) → h.mark ≡ Fresh → (cs : List Call) → AllTyped N cs → answers N cs h ≡ ledger_answers N cs (lent_of h) nothing
  -- two runs of such a list, with the same lent lengths, on stores that differ only in veiled bytes
  pub two-replays : (l m : Ledger) → LedgersAlike N l m → SoundLedger N l → SoundLedger N m → (h i : Input) → StandsFor N l h → StandsFor N m i → lent_of h ≡ lent_of i
      → (cs ds : List Call) → AllAlike cs ds → AllTyped N cs → AllTyped N ds → AgreedAlike N l m cs ds h i

-- ---- of each call
pub record StepLaws (N : ℕ) : Type 0 where
  -- a no changes no state and no lent byte, whatever is handed in
  pub refused-keeps : (c : Call) (h : Input) → is_granted (step N c h).answer ≡ false → (step N c h).after ≡ h
  -- no call changes a lent length
  pub lent-keeps : (c : Call) (h : Input) → lent_of (step N c h).after ≡ lent_of h
  -- restore writes to nothing lent
  pub restore-keeps : (run : List ℕ) (es : List Entry) (h : Input) → NothingWritten h (step N (restore run es) h).after
  -- a call without output does not look at the one that stands by, and leaves it
  pub output-omitted : (c : Call) (h : Input) (o : List ℕ) → has_output c ≡ false → step N c (output o h) ≡ leaves (step N c h).answer (output o (step N c h).after)
  -- 34 may be asked in parts, with the contact's row left out
  pub in_parts : (k : ℕ) (h : Input) → ContactTyped h.contact → ListsTyped h.lists → passes k h ≡ passes_in_parts k h

-- the highest number that a u32 holds
abbrev pub HIGHEST : ℕ
HIGHEST = 4294967295

pub record Proved : Type 0 where
  pub lists : LedgerLaws HIGHEST
  pub calls : StepLaws HIGHEST
  pub orders : OrderLaws HIGHEST
  pub chains : ChainLaws HIGHEST
  pub decimals : DecimalLaws
