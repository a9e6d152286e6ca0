-- `sheet::take_digit` meets its contract: what the number says with a digit more decides.
-- Assumes nothing.
use Prim.Native.Nat.{ℕ}
use mathlib.Core.Option.{Option}
use mathlib.Core.Path.{◌≡◌, sym, ap, ◌∙◌}
use Rattle.ascii.specs.Decimal.{with_digit}
use Rattle.ascii.specs.Says.{decimal_says}
use Rattle.sheet.specs.declared.State.{State}
use Rattle.sheet.specs.Machine as machine
use Rattle.sheet.specs.Machine.{highest_at, grown, digit_step}
use Rattle.sheet.proofs.take_digit.Goals as goal

-- by the answers about the width and the number
stepped : (s : State) (b : ℕ) {h : ℕ} {said o : Option ℕ} → h ≡ highest_at s.kind s.left → said ≡ with_digit h s.number b → said ≡ o → grown o s ≡ digit_step b s
unfolding machine.digit_step
stepped s b e f g = ap (λ (x : Option ℕ). grown x s) (sym g ∙ f ∙ ap (λ (h : ℕ). with_digit h s.number b) e)

pub returns-in_default : goal.returns-in_default
returns-in_default c =
    c.waiting.ensures ∙ ap (λ (q : ℕ). machine.waiting c.args.s.lines c.args.s.left q) c.number.ensures ∙ stepped _ _ c.highest.ensures c.with_digit.ensures (ap decimal_says c.in_default.is)

pub returns : goal.returns
returns c = stepped _ _ c.highest.ensures c.with_digit.ensures (ap decimal_says c.in-Some.is)
