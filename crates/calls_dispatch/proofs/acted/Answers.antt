-- `calls_dispatch::acted` meets its contract: each call's part, as the definition does.
-- Assumes nothing.
use mathlib.Core.Path.{◌≡◌, refl, sym, ap, ◌∙◌}
use mathlib.Core.List.{List}
use Prim.Native.Nat.{ℕ}
use Rattle.contact.specs.declared.Contact.{Contact}
use Rattle.contact.specs.declared.ListsMut.{ListsMut}
use Rattle.contact.specs.Contact.{Lists, held_in, SameLists}
use Rattle.contact_image.specs.Row.{writes_contact}
use Rattle.calls_step.specs.declared.Mark.{Mark}
use Rattle.calls_step.specs.Step.{above_as}
use Rattle.calls_open.specs.Calls.{left, contains_says, covers_says, line_says, line_left, row_says}
use Rattle.calls_dispatch.specs.declared.Call.{Call}
use Rattle.calls_dispatch.specs.declared.Facts.{Facts}
use Rattle.calls_dispatch.specs.Dispatch.{Done, done, done_by, acted}
use Rattle.calls_dispatch.proofs.acted.Goals as goal

-- nothing else is lent
same : (l : ListsMut) → SameLists l l
same l = (refl, refl, refl, refl, refl)

of-call : {R : Type 0} (facts : Facts R) (m : Mark) (run : List ℕ) (contact : Contact) (l : Lists) (out : List ℕ) {call k : Call} {d : Done} → call ≡ k
    → d ≡ acted k facts m run contact l out → d ≡ acted call facts m run contact l out
of-call facts m run contact l out called is = is ∙ ap (λ x. acted x facts m run contact l out) (sym called)

pub returns-in-Open : goal.returns-in-Open
returns-in-Open g c =
    let a = c.args in
    (of-call a.facts a.mark a.run.now a.contact (held_in a.lists.now) a.out.now c.in-Open.is (λ i. done (c.«open».ensures.value i) (c.«open».ensures.lists_value i) a.out.now), c.«open».ensures.lists_same)

pub returns-in-Cover : goal.returns-in-Cover
returns-in-Cover g c =
    let a = c.args in
    (of-call a.facts a.mark a.run.now a.contact (held_in a.lists.now) a.out.now c.in-Cover.is (λ i. done (c.cover.ensures.0 i) (above_as (c.cover.ensures.1 i) (held_in a.lists.now)) a.out.now), (refl, refl, refl, refl, refl))

pub returns-in-Contains : goal.returns-in-Contains
returns-in-Contains g c =
    let a = c.args in (
      of-call a.facts a.mark a.run.now a.contact (held_in a.lists.now) a.out.now c.in-Contains.is
          (ap (λ r. done r (held_in a.lists.now) a.out.now) c.contains.ensures
          ∙ ap (λ (l : Lists). done (left a.contact a.mark (contains_says a.contact l.above c.in-Contains.msgno)) (held_in a.lists.now) a.out.now) c.read.ensures),
      same a.lists.now,
    )

pub returns-in-Covers : goal.returns-in-Covers
returns-in-Covers g c =
    let a = c.args in (
      of-call a.facts a.mark a.run.now a.contact (held_in a.lists.now) a.out.now c.in-Covers.is
          (ap (λ r. done r (held_in a.lists.now) a.out.now) c.covers.ensures
          ∙ ap (λ (l : Lists). done (left a.contact a.mark (covers_says a.contact l.above c.in-Covers.from c.in-Covers.to)) (held_in a.lists.now) a.out.now) c.read-in-Covers.ensures),
      same a.lists.now,
    )

pub returns-in-Take : goal.returns-in-Take
returns-in-Take g c =
    let a = c.args in
    (of-call a.facts a.mark a.run.now a.contact (held_in a.lists.now) a.out.now c.in-Take.is (ap (λ r. done r (held_in a.lists.now) a.out.now) c.take.ensures), same a.lists.now)

pub returns-in-Statement : goal.returns-in-Statement
returns-in-Statement g c =
    let a = c.args in
    let said = c.statement.ensures in (
      of-call a.facts a.mark a.run.now a.contact (held_in a.lists.now) a.out.now c.in-Statement.is
          ((λ i. done (said.answer i) (held_in a.lists.now) (said.output i))
          ∙ ap (λ (l : Lists). done_by line_says a.contact a.mark (held_in a.lists.now) (line_left a.facts.id a.contact a.facts.queued l.above l.expired a.out.now)) c.read-lent.ensures),
      same a.lists.now,
    )

pub returns-in-Write : goal.returns-in-Write
returns-in-Write g c =
    let a = c.args in
    let written = c.write.ensures in (
      of-call a.facts a.mark a.run.now a.contact (held_in a.lists.now) a.out.now c.in-Write.is
          ((λ i. done (written.answer i) (held_in a.lists.now) (written.output i)) ∙ ap (λ (l : Lists). done_by row_says a.contact a.mark (held_in a.lists.now) (writes_contact a.contact l a.out.now)) c.read-in-Write.ensures),
      same a.lists.now,
    )
