-- The laws of the calls and of lists of them.
-- Assumes nothing.
use Prim.Native.Nat.{ℕ, ◌+◌, ◌^◌}
use mathlib.Core.Path.{◌≡◌, refl}
use Rattle.calls_step.specs.Proved.{StepLaws, LedgerLaws, HIGHEST, Proved}
use Rattle.calls_step.proofs.Refused.{step_keeps, restore-keeps}
use Rattle.calls_step.proofs.Lengths.{lent-keeps}
use Rattle.calls_step.proofs.Output.{output-omitted}
use Rattle.calls_step.proofs.Omitted.{passes-in-parts}
use Rattle.numbers.proofs.Decimal.{decimal-laws}
use Rattle.ledger.proofs.Orders.{order-laws}
use Rattle.ledger.proofs.Chains.{chain_laws}
use Rattle.calls_step.proofs.Every.{every-list}
use Rattle.calls_step.proofs.Two.{two_runs}
use Rattle.calls_step.proofs.Occurs.{occurs}
use Rattle.calls_step.proofs.Stuck.{never_stuck}
use Rattle.calls_step.proofs.Stands.{continued-stands}
use Rattle.calls_step.proofs.Replay.{fresh-stands, replayed, replay-answers, two-replays}
use Rattle.calls_step.proofs.Blank.{blanked-list}
use Rattle.calls_step.proofs.Orders.{one_state, same-state, any_order}
use Rattle.calls_step.proofs.Chains.{eight-enough}

-- numbers of four bytes
laws : (N : ℕ) → N + 1 ≡ 256 ^ 4 → LedgerLaws N
laws N wide = record {
  every-list = every-list N wide;
  two_runs = two_runs N wide;
  occurs = occurs N wide;
  never_stuck = never_stuck N wide;
  any_order = any_order N wide;
  same-state = same-state N wide;
  one_state = one_state N;
  eight-enough = eight-enough N wide;
  blanked-list = blanked-list N wide;
  begins = fresh-stands N;
  goes_on = continued-stands N;
  replayed = λ l s h st cs t. replayed N wide cs t l s h st;
  answered = λ h m cs t. replay-answers N wide cs h m t;
  two-replays = λ l m ls s s' h i st st' e cs ds a t t'. two-replays N wide cs ds a t t' l m ls s s' h i st st' e;
}

step-laws : (N : ℕ) → StepLaws N
step-laws N = record {
  refused-keeps = λ c h. (step_keeps h N c).keeps;
  lent-keeps = λ c h. lent-keeps h N c;
  restore-keeps = λ run es h. restore-keeps h N run es;
  output-omitted = λ c h o q. (output-omitted o h N c q).is;
  in_parts = passes-in-parts;
}

pub proved : Proved
proved = record { lists = laws HIGHEST refl; calls = step-laws HIGHEST; orders = order-laws HIGHEST; chains = chain_laws HIGHEST; decimals = decimal-laws }
