-- Calls that are lent more than eight places for chains answer as with eight.
-- Assumes nothing.
use Prim.Native.Nat.{ℕ, ◌+◌, ◌^◌}
use mathlib.Core.List.{List, [], ◌∷◌}
use mathlib.Core.Path.{◌≡◌, sym, ap, ◌∙◌, subst}
use Rattle.ledger.specs.Call.{Call, restore, opens, cover, contains, covers, take, statement, write}
use Rattle.ledger.specs.Ledger.{Ledger, nothing, Account, ledger}
use Rattle.ledger.specs.Chains.{EIGHT_PLACES, with_chains, OfBytes, FewChains}
use Rattle.ledger.proofs.Chains.{chain_laws}
use Rattle.calls_step.specs.declared.Mark.TheVariants.{Fresh}
use Rattle.calls_step.specs.Input.{Input, Left, lent_of}
use Rattle.calls_step.specs.Legal.{Turn, made, Typed, Legal, last_left}
use Rattle.calls_step.specs.Agree.{booked, AgreesAll}
use Rattle.calls_step.specs.Chains.{ButChains, AllButChains, SameAnswers}
use Rattle.calls_step.proofs.Every.{every-list}

module _ (N : ℕ) where
  of-bytes : (c : Call) → Typed N c → OfBytes c
  of-bytes (restore run es) typed = typed
  of-bytes (opens k) typed = tt
  of-bytes (cover f t) typed = tt
  of-bytes (contains m) typed = tt
  of-bytes (covers f t) typed = tt
  of-bytes take typed = tt
  of-bytes statement typed = tt
  of-bytes write typed = tt

  same-account : (l : Ledger) → FewChains l → (t u : Turn) → ButChains t u → booked N t l ≡ booked N u l
  same-account l few t u same =
      (chain_laws N).eight-enough t.call (lent_of t.input) (lent_of t.input).chains same.eight l few
      ∙ (λ i. ledger N (same.call i) (with_chains EIGHT_PLACES (same.lent i)) l)
      ∙ sym ((chain_laws N).eight-enough u.call (lent_of u.input) (lent_of u.input).chains same.eight-too l few)

  same_from : (l : Ledger) → FewChains l → (g : Input) (ts us : List Turn) → AllButChains ts us → Legal N g ts → AgreesAll N l ts → AgreesAll N l us → SameAnswers N ts us
  same_from l few g (t ∷ ts) [] same legal a b = elim same [ ]
  same_from l few g [] (u ∷ us) same legal a b = elim same [ ]
  same_from l few g [] [] same legal a b = tt
  same_from l few g (t ∷ ts) (u ∷ us) same legal a b =
      let account = same-account l few t u same.0 in (
        ap (λ (x : Left). x.answer) a.0 ∙ ap (λ (x : Account). x.answer) account ∙ sym (ap (λ (x : Left). x.answer) b.0),
        same_from (booked N t l).state ((chain_laws N).few-kept t.call (of-bytes t.call legal.0) (lent_of t.input) l few) (last_left g (made N t)) ts us same.1 legal.2 a.1
            (subst (λ (x : Account). AgreesAll N x.state us) (sym account) b.1),
      )

  pub eight-enough : N + 1 ≡ 256 ^ 4 → (g g' : Input) → g.mark ≡ Fresh → g'.mark ≡ Fresh → (ts us : List Turn) → AllButChains ts us → Legal N g ts → Legal N g' us → SameAnswers N ts us
  eight-enough wide g g' m m' ts us same legal legal' = same_from nothing tt g ts us same legal (every-list N wide g m ts legal) (every-list N wide g' m' us legal')
