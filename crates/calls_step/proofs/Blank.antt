-- A legal list of calls on stores whose veiled bytes are 0 gives every answer that the list gave.
-- Assumes nothing.
use Prim.Native.Nat.{ℕ, zero, suc, ◌+◌, ◌^◌, ◌<◌}
use mathlib.Core.List.{List, [], ◌∷◌}
use mathlib.Core.Bool.{Bool, true, false, cond}
use mathlib.Core.Path.{◌≡◌, sym, subst}
use native.Mathlib.Omega.{arith}
use Rattle.layout.specs.RowLaws.{Bytes}
use Rattle.store.specs.Veiled.{zero_if}
use Rattle.store.proofs.Proved.{store-laws}
use Rattle.calls_step.specs.declared.Mark.TheVariants.{Fresh}
use Rattle.ledger.specs.Call.{Call, restore, opens, cover, contains, covers, take, statement, write}
use Rattle.calls_step.specs.Input.{Input, lent_of}
use Rattle.calls_step.specs.Legal.{Turn, Each, Typed, Legal, last_left}
use Rattle.calls_step.specs.Step.{step}
use Rattle.calls_step.specs.Two.{CallsAlike, stores, same, Paired, AlikeAll}
use Rattle.calls_step.specs.Request.{Request, Serves, RequestsTyped}
use Rattle.calls_step.specs.Blank.{blank_call, Blankable, SameAnswers, Blanks}
use Rattle.calls_step.proofs.Two.{two_runs}
use Rattle.calls_step.proofs.Occurs.{occurs}

zero-bytes : (f : ℕ → Bool) (l : List ℕ) → Bytes l → Bytes (zero_if f l)
zero-bytes f [] h i = omega arith
zero-bytes f (b ∷ bs) h zero = go (f 0)
  where
    go : (t : Bool) → cond t 0 b < 256
    go true = omega arith
    go false = h 0
zero-bytes f (b ∷ bs) h (suc i) = zero-bytes (λ p. f (suc p)) bs (λ j. h (suc j)) i

call-blank : (c : Call) → Blankable c → CallsAlike c (blank_call c)
call-blank (restore run es) a = stores run _ es (store-laws.veiled.blanked-equal run es a)
call-blank (opens k) a = same (opens k)
call-blank (cover f t) a = same (cover f t)
call-blank (contains m) a = same (contains m)
call-blank (covers f t) a = same (covers f t)
call-blank take a = same take
call-blank statement a = same statement
call-blank write a = same write

-- the calls and lent lengths that the blanked list is to have
requests : List Turn → List Request
requests [] = []
requests (t ∷ ts) = record { call = blank_call t.call; lent = lent_of t.input } ∷ requests ts

module _ (N : ℕ) (wide : N + 1 ≡ 256 ^ 4) where
  blank-typed : (c : Call) → Typed N c → Typed N (blank_call c)
  blank-typed (restore run es) t = zero-bytes _ run t
  blank-typed (opens k) t = tt
  blank-typed (cover f u) t = t
  blank-typed (contains m) t = tt
  blank-typed (covers f u) t = tt
  blank-typed take t = tt
  blank-typed statement t = tt
  blank-typed write t = tt

  requests-typed : (g : Input) (ts : List Turn) → Legal N g ts → RequestsTyped N (requests ts)
  unfolding requests
  requests-typed g [] l = tt
  requests-typed g (t ∷ ts) l = (blank-typed t.call l.0, requests-typed (last_left g (step N t.call t.input)) ts l.2)

  -- a list that serves these requests is paired with the first
  paired : (ts us : List Turn) → Each (λ t. Blankable t.call) ts → Serves (requests ts) us → Paired ts us
  unfolding requests
  paired [] [] a s = tt
  paired [] (u ∷ us) a s = absurd s
  paired (t ∷ ts) [] a s = absurd s
  paired (t ∷ ts) (u ∷ us) a s = (subst (CallsAlike t.call) (sym s.0) (call-blank t.call a.0), sym s.1, paired ts us a.1 s.2)

  same-answers : (ts us : List Turn) → Serves (requests ts) us → AlikeAll N ts us → SameAnswers N ts us
  unfolding requests
  same-answers [] [] s a = tt
  same-answers [] (u ∷ us) s a = absurd s
  same-answers (t ∷ ts) [] s a = absurd s
  same-answers (t ∷ ts) (u ∷ us) s a = (s.0, sym s.1, a.0.answer, same-answers ts us s.2 a.1)

  pub blanked-list : (g : Input) → g.mark ≡ Fresh → (ts : List Turn) → Legal N g ts → Each (λ t. Blankable t.call) ts → Blanks N g ts
  blanked-list g m ts legal apart =
      let served = occurs N wide g m (requests ts) (requests-typed g ts legal) in
      let alike = two_runs N wide g g m m ts served.turns (paired ts served.turns apart served.serves) legal served.legal in
      record { turns = served.turns; legal = served.legal; answers = same-answers ts served.turns served.serves alike }
