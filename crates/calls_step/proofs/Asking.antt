-- Question 34 on an open contact: it is asked of the fields and lists as the ledger asks it, and is a yes exactly if the lists are long enough.
-- Assumes nothing.
use Prim.Native.Nat.{ℕ, ◌/◌, ◌≤◌}
use mathlib.Core.List.{List}
use mathlib.Core.Bool.{true, cond, ◌&&◌}
use mathlib.Core.Path.{◌≡◌, refl, sym, ap, ◌∙◌, subst}
use lib.ListN.{length}
use lib.Dec.{leb}
use borrow.Author.Tests.{leb-true}
use Rattle.layout.specs.Questions.{STORE}
use Rattle.layout.specs.Layout.{print}
use Rattle.rows.specs.Values.{Contact}
use Rattle.rows.specs.Rows.{contact}
use Rattle.numbers.specs.Ranges.{received}
use Rattle.received.specs.Lent.{pairs}
use Rattle.rows.proofs.Tests.{either, and_both}
use Rattle.contact.specs.Contact.{Lists, contact_of, long_enough, filled}
use Rattle.contact.proofs.Counts.{five}
use Rattle.contact_image.specs.Row as row
use Rattle.numbers.specs.Lists.{within}
use Rattle.contact_image.specs.Row.{counted, image, contact_in}
use Rattle.contact_laws.proofs.Back.{value-back, image-back}
use Rattle.store.specs.declared.Entry.{Entry}
use Rattle.store.specs.Store.{replaced_passes}
use Rattle.calls_step.specs.declared.Mark.TheVariants.{Opened}
use Rattle.calls_step.specs.Input.{Input, Left, no, lent_of}
use Rattle.ledger.specs.Call.{Lent}
use Rattle.calls_step.specs.Step.{passes, covered_in}
use Rattle.ledger.specs.Ledger.{Open, opened, Account, refuse, fitting, enough, covered, current, passes_now}
use Rattle.calls_step.specs.Agree.{laid_lists}
use Rattle.calls_step.specs.Stands.{HoldsAll, Sound, StandsFor}
use Rattle.calls_step.proofs.Laid.{laid_filled, holds-filled}
use Rattle.calls_step.proofs.Good.{Good, refuse-good}

held : (n items : ℕ) → within n items ≡ true → leb n items ≡ true
held n items e = (and_both (leb n items) (leb n 65535) e).0

-- lists that fit are long enough
fits-enough : (v : Contact) (l : Lent) → fitting v l ≡ true → enough v l ≡ true
fits-enough v l fit =
    let h = five (within (length v.chains) (l.chains / 51)) (within (length v.skipped) (l.skipped / 46)) (within (length v.above) (l.above / 2))
    (within (length v.unacked) l.unacked) (within (length v.expired) (l.expired / 2)) fit in
    rw (
      held (length v.chains) (l.chains / 51) h.chains,
      held (length v.skipped) (l.skipped / 46) h.skipped,
      held (length v.above) (l.above / 2) h.above,
      held (length v.unacked) l.unacked h.unacked,
      held (length v.expired) (l.expired / 2) h.expired,
    )

-- ---- the ledger's question, of a sound state
module _ (N : ℕ) (run : List ℕ) (es : List Entry) (o : Open) (sound : Sound N run es o) where
  replaced : replaced_passes run es o.id (print (contact 3) (current N o)) ≡ true
  replaced = rw (sound.stored, sound.going)

  pub passes-now : (lent : Lent) → passes_now N lent run es o ≡ fitting (current N o) lent
  passes-now lent = either (fitting (current N o) lent) (λ b. b && replaced_passes run es o.id (print (contact 3) (current N o)) ≡ b) (λ t. replaced) (λ t. refl)

-- ---- the call's, of what is handed in
module _ (N : ℕ) (run : List ℕ) (es : List Entry) (o : Open) (ls : Lists) (out : List ℕ) where
  abbrev pub input : Input
  input = record { mark = Opened (record { 0 = o.id }); run = run; entries = es; contact = contact_of (current N o); lists = ls; out = out }

  module _ (sound : Sound N run es o) (same : laid_lists (current N o) 0 ls ≡ ls) where
    pub stands : StandsFor N (opened run es o) input
    stands = record { stands = λ i. record { mark = Opened (record { 0 = o.id }); run = run; entries = es; contact = contact_of (current N o); lists = same i; out = out } }

    -- ---- lists that are long enough
    module _ (fit : fitting (current N o) (lent_of input) ≡ true) where
      long : long_enough (current N o) ls ≡ true
      long = fits-enough (current N o) (lent_of input) fit

      refilled : filled (current N o) ls ≡ ls
      refilled = sym (laid_filled (current N o) sound.now ls long) ∙ same

      pub lists-hold : HoldsAll (current N o) (laid_lists (current N o) 0 ls)
      lists-hold = subst (HoldsAll (current N o)) (sym (laid_filled (current N o) sound.now ls long)) (holds-filled (current N o) sound.now ls long)

      -- they stand for the fields: the row that would be written, and the ranges in them
      pub image-now : image (contact_of (current N o)) ls ≡ print (contact 3) (current N o)
      image-now = ap (λ (l : Lists). image (contact_of (current N o)) l) (sym refilled) ∙ image-back 3 (current N o) sound.now.fits ls long

      value-now : contact_in (contact_of (current N o)) ls ≡ current N o
      value-now = ap (λ (l : Lists). contact_in (contact_of (current N o)) l) (sym refilled) ∙ value-back 3 (current N o) sound.now.fits ls long

      pub covered-now : covered_in input ≡ covered N o
      covered-now = ap (λ (v : Contact). received v.contiguous v.above) value-now

      pub expired-now : pairs (length o.fields.expired) ls.expired ≡ o.fields.expired
      expired-now = ap (λ (v : Contact). v.expired) value-now

      pub above-room : length (covered N o).above ≤ length ls.above / 2
      above-room =
          let h = five (within (length o.fields.chains) (length ls.chains / 51)) (within (length o.fields.skipped) (length ls.skipped / 46))
          (within (length (covered N o).above) (length ls.above / 2)) (within (length o.fields.unacked) (length ls.unacked))
          (within (length o.fields.expired) (length ls.expired / 2)) fit in
          leb-true (length (covered N o).above) (length ls.above / 2) (held (length (covered N o).above) (length ls.above / 2) h.above)

    -- ---- the question
    pub passes-is : passes o.id input ≡ fitting (current N o) (lent_of input)
    unfolding row.counted
    passes-is =
        either (fitting (current N o) (lent_of input)) (λ b. b && replaced_passes run es o.id (image (contact_of (current N o)) ls) ≡ b)
        (λ t. rw (image-now t) (replaced N run es o sound))
        (λ t. refl)

    -- ... and then the call
    pub asked : (s : Left) (a : Account) → (fitting (current N o) (lent_of input) ≡ true → Good N (opened run es o) input s a)
        → Good N (opened run es o) input (cond (passes o.id input) s (no STORE input)) (cond (passes_now N (lent_of input) run es o) a (refuse STORE (opened run es o)))
    asked s a f =
        rw (passes-is, passes-now N run es o sound (lent_of input))
        (either (fitting (current N o) (lent_of input)) (λ b. Good N (opened run es o) input (cond b s (no STORE input)) (cond b a (refuse STORE (opened run es o))))
        f (λ t. refuse-good N (opened run es o) input stands STORE))
