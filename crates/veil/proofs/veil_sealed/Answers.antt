-- `veil::veil_sealed` meets its contract: read, s and the sealed text set to 0, and written; or the row's own refusal.
use Rattle.std.proofs.Common.{rules, ◌≡◌, ◌-◌, List, ℕ, Err, length}
use mathlib.Core.Path.{ap₂, ◌∙◌}
use Rattle.layout.specs.Write.{writes}
use Rattle.veil.specs.Veil.{Tail}
use Rattle.veil.proofs.Copied.{not-copied}
use Rattle.veil.proofs.Text.{take-zeros, prefix-long}
use Rattle.veil.proofs.veil_sealed.Goals as goal
use Rattle.veil.proofs.veil_sealed.Goals.{In_ok-sealed_at}

found : (g : _) (c : In_ok-sealed_at g) → Tail c.args.row.now c.in_ok-sealed_at.sealed_at
found g c = c.requires.tail (c.in_ok-sealed_at.sealed_at, c.in_ok-sealed_at.read) c.in_ok-sealed_at.ensures

pub returns-in_err-sealed_at : goal.returns-in_err-sealed_at
returns-in_err-sealed_at g c =
    let no : c.from_residual.result ≡ Err c.in_err-sealed_at.field-0.0 = search rules in
    rw no (not-copied _ (g.R.SealedRow.layout c.args.version) c.args.row.now c.in_err-sealed_at.ensures c.args.out.now)

pub overflow_sub-len : goal.overflow_sub-len
overflow_sub-len g c = (found g (goal.at.overflow_sub-len g c).In_ok-sealed_at).inside

pub slice_bounds-zeros-end : goal.slice_bounds-zeros-end
slice_bounds-zeros-end g c = (found g (goal.at.slice_bounds-zeros-end g c).In_ok-sealed_at).few

pub slice_bounds-row-end : goal.slice_bounds-row-end
slice_bounds-row-end g c = prefix-long (found g (goal.at.slice_bounds-row-end g c).In_ok-sealed_at)

pub returns : goal.returns
returns g c =
    let a = c.args in
    let it = c.in_ok-sealed_at in
    let few = (found g (goal.at.returns g c).In_ok-sealed_at).few in
    c.row.ensures
    ∙ ap₂ (λ read (text : List ℕ). writes (g.R.SealedRow.layout 3) (g.R.SealedRow.image read text) a.out.now) c.without_s.ensures (take-zeros (length a.row.now - it.sealed_at) 4064 few)
    ∙ c.requires.copied (it.sealed_at, it.read) it.ensures a.out.now
