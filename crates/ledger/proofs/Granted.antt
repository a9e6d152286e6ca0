-- What the ledger says of a call on an open contact that it grants.
-- Assumes nothing.
use Prim.Native.Nat.{ℕ}
use mathlib.Core.List.{List, []}
use mathlib.Core.Bool.{Bool, true, false, cond, true≢false}
use mathlib.Core.Path.{◌≡◌, refl, sym}
use lib.ListN.{length}
use lib.Dec.{leb}
use Rattle.store.specs.declared.Entry.{Entry}
use Rattle.ledger.specs.Call.{write, wrote, is_granted, Lent}
use Rattle.ledger.specs.Ledger as ledgers
use Rattle.ledger.specs.Ledger.{Open, Ledger, nothing, restored, opened, Account, refuse, passes_now, row_now, on_open, ledger}

-- P is so of an account, if that is a yes
abbrev pub Granted : (Account → Type 0) → Account → Type 0
Granted P a = is_granted a.answer ≡ true → P a

-- behind a question
pub asked : (P : Account → Type 0) (b : Bool) (x : Account) (q : ℕ) (l : Ledger) → Granted P x → Granted P (cond b x (refuse q l))
asked P true x q l p e = p e
asked P false x q l p e = absurd (true≢false (sym e))

-- behind 34
pub on-open : (N : ℕ) (P : Ledger → Account → Type 0) (lent : Lent) (then : (run : List ℕ) → List Entry → Open → Account)
    → ((run : List ℕ) (es : List Entry) (o : Open) → Granted (P (opened run es o)) (then run es o)) → (l : Ledger) → Granted (P l) (on_open N lent l then)
on-open N P lent then p nothing e = absurd (true≢false (sym e))
on-open N P lent then p (restored run es) e = absurd (true≢false (sym e))
on-open N P lent then p (opened run es o) e = asked (P (opened run es o)) (passes_now N lent run es o) (then run es o) _ _ (p run es o) e

-- ---- a write: the row of the open contact
abbrev pub row_in : (N : ℕ) → Ledger → List ℕ
row_in N nothing = []
row_in N (restored run es) = []
row_in N (opened run es o) = row_now N o

pub record WritesRow (N : ℕ) (l : Ledger) (a : Account) : Type 0 where
  pub answer : a.answer ≡ wrote (length (row_in N l))
  pub output : a.output ≡ row_in N l

pub write_granted : (N : ℕ) (lent : Lent) (l : Ledger) → Granted (WritesRow N l) (ledger N write lent l)
unfolding ledgers.ledger
write_granted N lent =
    on-open N (WritesRow N) lent _
    (λ run es o. asked (WritesRow N (opened run es o)) (leb (length (row_now N o)) lent.out) _ _ _ (λ e. record { answer = refl; output = refl }))
