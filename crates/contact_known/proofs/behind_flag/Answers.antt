-- `contact_known::behind_flag` meets its contract.
use Rattle.std.proofs.Common.{Ok}
use mathlib.Core.Path.{sym, ap}
use Rattle.contact_known.proofs.Ends.{never, once, flagged-run, flagged-none}
use Rattle.contact_known.proofs.behind_flag.Goals as goal

pub returns-in_err-present : goal.returns-in_err-present
returns-in_err-present c = λ t next read inside. absurd (never read (sym c.in_err-present.ensures))

pub returns-then-not-present : goal.returns-then-not-present
returns-then-not-present c = λ t next read inside. ap (λ n. Ok n) (flagged-none c.args.row.now c.args.at c.args.n (sym c.in_ok-present.ensures) read c.if-not-present.true)

pub returns-in_err-_start : goal.returns-in_err-_start
returns-in_err-_start c = λ t next read inside.
    absurd (never (flagged-run c.args.row.now c.args.at c.args.n (sym c.in_ok-present.ensures) read c.if-not-present.false inside) (sym c.in_err-_start.ensures.0))

pub returns : goal.returns
returns c = λ t next read inside.
    ap (λ n. Ok n) (once (sym c.in_ok-_start.ensures.0) (flagged-run c.args.row.now c.args.at c.args.n (sym c.in_ok-present.ensures) read c.if-not-present.false inside)).1
