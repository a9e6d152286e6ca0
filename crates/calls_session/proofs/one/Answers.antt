-- `calls_session::one` meets its contract: the call that was decoded.
-- Assumes nothing.
use mathlib.Core.Path.{◌≡◌, refl}
use Rattle.std.proofs.Common.{rules, Some}
use Rattle.calls_code.specs.declared.Decoded.TheVariants as decoded
use Rattle.calls_session.proofs.Steps.{step-ran, decoded-ran}
use Rattle.calls_session.proofs.one.Goals as goal

pub returns-in-Some-Restore : goal.returns-in-Some-Restore
returns-in-Some-Restore c =
    let a = c.args in
    let is : c.decode.result ≡ Some decoded.Restore = search rules in
    (decoded-ran a.run.now a.records.now a.six.now is (c.decode.ensures a.run.now a.records.now) (c.restore.ensures _ _), (refl, refl, refl, refl, refl))

pub returns-in-Some-Made : goal.returns-in-Some-Made
returns-in-Some-Made c =
    let a = c.args in
    let is : c.decode.result ≡ Some (decoded.Made c.in-Some-Made.call) = search rules in
    (decoded-ran a.run.now a.records.now a.six.now is (c.decode.ensures a.run.now a.records.now) (step-ran c.in-Some-Made.call a.six.now a.session c.step.ensures.0), c.step.ensures.1)

pub returns-in-None : goal.returns-in-None
returns-in-None c =
    let a = c.args in
    (decoded-ran a.run.now a.records.now a.six.now c.in-None.is (c.decode.ensures a.run.now a.records.now) (record { is = (refl, refl) }), (refl, refl, refl, refl, refl))
