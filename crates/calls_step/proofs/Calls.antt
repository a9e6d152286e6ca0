-- contains, covers, take, statement and write agree with the ledger.
-- Assumes nothing.
use Prim.Native.Nat.{ℕ, ◌+◌, ◌-◌, ◌^◌, ◌≤◌, ◌<◌}
use mathlib.Core.List.{List, ◌++◌}
use mathlib.Core.Bool.{Bool, true, cond}
use mathlib.Core.Path.{◌≡◌, refl, sym, ap, ◌∙◌, subst}
use native.Mathlib.Omega.{arith}
use lib.ListN.{length, drop}
use lib.Dec.{leb, ltb}
use borrow.Author.Tests.{leb-true, ltb-true}
use Rattle.layout.specs.Questions.{RANGE, MSGNO_LEFT, OUTPUT}
use Rattle.layout.specs.Write as writer
use Rattle.rows.specs.Values.{Range}
use Rattle.rows.specs.Rows.{contact}
use Rattle.numbers.specs.Ranges as ranges
use Rattle.numbers.specs.Ranges.{Received, is_range}
use Rattle.numbers.specs.Sets.{all_of, how_many, size, size_from}
use Rattle.rows.proofs.Tests.{either, and_both}
use Rattle.received.proofs.Proved.{proved}
use Rattle.contact.specs.Contact.{Lists, contact_of}
use Rattle.store.specs.declared.Entry.{Entry}
use Rattle.store.proofs.Lasting.{opened-lasts}
use Rattle.calls_step.specs.declared.Mark.TheVariants.{Opened}
use Rattle.ledger.specs.Call.{Call, Answer, is_granted, truth, number, wrote, said, refused, contains, covers, take, statement, write}
use Rattle.calls_step.specs.Input.{Input, leaves, no, lent_of}
use Rattle.store.specs.Line.{line_of, queued_of}
use Rattle.calls_step.specs.Step.{covered_in, taking, writing, wrote_row, said_line, line_in, step}
use Rattle.calls_step.specs.Step as steps
use Rattle.ledger.specs.Ledger.{Open, Ledger, opened, plain, refuse, covered, current, fitting, take_now, line_now, row_now, write_now, ledger}
use Rattle.ledger.specs.Ledger as ledgers
use Rattle.calls_step.specs.Agree.{laid_lists}
use Rattle.calls_step.proofs.Numbers.{known, valid-with}
use Rattle.calls_step.specs.Stands.{HoldsAll, Sound, LastLeft}
use Rattle.calls_step.proofs.Laid.{holds-with}
use Rattle.calls_step.proofs.Good.{Next, Good, refuse-good}
use Rattle.calls_step.proofs.Asking.{input, stands, lists-hold, image-now, covered-now, expired-now, asked}

-- 37
pub in_order : (f t : ℕ) → is_range f t ≡ true → (1 ≤ f) × (f ≤ t)
in_order f t e = let p = and_both (leb 1 f) (leb f t) e in (leb-true 1 f p.0, leb-true f t p.1)

module _ (N : ℕ) (wide : N + 1 ≡ 256 ^ 4) (run : List ℕ) (es : List Entry) (o : Open) (ls : Lists) (out : List ℕ) (sound : Sound N run es o)
    (same : laid_lists (current N o) 0 ls ≡ ls)
  where
    abbrev here : Ledger
    here = opened run es o

    abbrev given : Input
    given = input N run es o ls out

    refuses : (q : ℕ) → Good N here given (no q given) (refuse q here)
    refuses q = refuse-good N here given (stands N run es o ls out sound same) q

    module _ (fit : fitting (current N o) (lent_of given) ≡ true) where
      holds : HoldsAll (current N o) (laid_lists (current N o) 0 ls)
      holds = lists-hold N run es o ls out sound same fit

      -- the open contact stays as it is; out' stands in the output then
      left-same : (out' : List ℕ)
          → LastLeft N here (record { mark = Opened (record { 0 = o.id }); run = run; entries = es; contact = contact_of (current N o); lists = laid_lists (current N o) 0 ls; out = out' })
      left-same out' = (refl, record { run = refl; entries = refl }, record { contact = refl; lists = holds })

      next-same : (a : Answer) (bytes : List ℕ) → is_granted a ≡ true → Next N (is_granted a) here given (record { answer = a; state = here; freed = 0; output = bytes })
      next-same a bytes g =
          subst (λ (b : Bool). Next N b here given (record { answer = a; state = here; freed = 0; output = bytes })) (sym g) (sound, left-same (bytes ++ drop (length bytes) out))

      -- an answer, and nothing changed
      told : (y z : Answer) → y ≡ z → is_granted z ≡ true → Good N here given (leaves y given) (plain z here)
      told y z e g = record {
        agrees = λ i. leaves (e i) (sym (stands N run es o ls out sound same).stands i);
        next = next-same z _ g;
      }

      -- ---- statement, write: 40
      writes : (answer : writer.Written → Answer) (a : Answer) (bytes : List ℕ) → answer (writer.wrote (length bytes)) ≡ a → answer (writer.refuses OUTPUT) ≡ refused OUTPUT → is_granted a ≡ true
          → Good N here given (writing answer given (writer.stored bytes out)) (write_now a bytes (lent_of given) here)
      writes answer a bytes e r g =
          either (leb (length bytes) (length out))
          (λ b. Good N here given
          (writing answer given (cond b (record { answer = writer.wrote (length bytes); out = bytes ++ drop (length bytes) out }) (record { answer = writer.refuses OUTPUT; out = out })))
          (cond b (record { answer = a; state = here; freed = 0; output = bytes }) (refuse OUTPUT here)))
          (λ t. record {
            agrees = λ i. leaves (e i)
                (record { mark = Opened (record { 0 = o.id }); run = run; entries = es; contact = contact_of (current N o); lists = sym same i; out = bytes ++ drop (length bytes) out });
            next = next-same a bytes g;
          })
          (λ t. record { agrees = λ i. leaves (r i) (sym (stands N run es o ls out sound same).stands i); next = refl })

      line-now : line_in o.id given ≡ line_now N es o
      line-now =
          let c : ℕ = (covered N o).contiguous in
          let d = known N (current N o) (omega arith) sound.now in
          let b : size (covered_in given).above ≡ how_many o.S (c + 1) (N - c) =
          ap (λ (r : Received). size r.above) (covered-now N run es o ls out sound same fit) ∙ (proved.records sound.records).beyond in
          let acked : ℕ = o.fields.peer_acked in
          let x =
          ap (λ (rs : List Range). size_from (acked + 1) rs) (expired-now N run es o ls out sound same fit)
          ∙ proved.ranges.counted N (acked + 1) (N - acked) o.fields.expired d.expired-canon d.expired (omega arith) in
          λ i. line_of o.id o.n acked c (b i) (queued_of o.id es) (x i)

      -- ---- take: 39
      taken : Open
      taken = record { id = o.id; fields = o.fields; n = o.n + 1; S = o.S }

      sound-taken : o.n < N → Sound N run es taken
      unfolding taken
      sound-taken h =
          let d = known N (current N o) (omega arith) sound.now in
          let valid = valid-with N o.fields (o.n + 1) (covered N o) (omega arith) sound.fields (omega (arith, sound.more)) (omega arith)
          d.contiguous d.few d.canon d.above in
          record {
            store = sound.store;
            fields = sound.fields;
            bytes = sound.bytes;
            now = valid;
            more = omega (arith, sound.more);
            records = sound.records;
            stored = sound.stored;
            going = opened-lasts (current N o) (current N taken) sound.now valid (omega arith) refl run es o.id sound.going;
          }

      takes : Good N here given (taking N given) (take_now N run es o)
      unfolding taken
      takes =
          either (ltb o.n N)
          (λ b. Good N here given
          (cond b
          (leaves (number (o.n + 1)) (record { mark = Opened (record { 0 = o.id }); run = run; entries = es; contact = contact_of (current N taken); lists = ls; out = out }))
          (no MSGNO_LEFT given))
          (cond b (plain (number (o.n + 1)) (opened run es taken)) (refuse MSGNO_LEFT here)))
          (λ t. record {
            agrees = λ i. leaves (number (o.n + 1))
                (record { mark = Opened (record { 0 = o.id }); run = run; entries = es; contact = contact_of (current N taken); lists = sym same i; out = out });
            next = (
              sound-taken (ltb-true o.n N t),
              (refl, record { run = refl; entries = refl }, record { contact = refl; lists = holds-with (current N o) (o.n + 1) (covered N o) _ _ holds holds.above }),
            );
          })
          (λ t. refuses MSGNO_LEFT)

    -- ---- the calls, 34 before them
    abbrev Agree : Call → Type 0
    Agree c = Good N here given (step N c given) (ledger N c (lent_of given) here)

    pub contains-good : (m : ℕ) → Agree (contains m)
    unfolding steps.step ledgers.ledger
    contains-good m =
        asked N run es o ls out sound same _ _
        (λ fit. told fit _ _ (ap truth (ap (λ (r : Received). ranges.contains r m) (covered-now N run es o ls out sound same fit) ∙ sound.records.same_numbers m)) refl)

    pub covers-good : (f t : ℕ) → Agree (covers f t)
    unfolding steps.step ledgers.ledger
    covers-good f t =
        asked N run es o ls out sound same _ _ (λ fit.
        either (is_range f t)
        (λ b. Good N here given
        (cond b (leaves (truth (ranges.covers (covered_in given) f t)) given) (no RANGE given))
        (cond b (plain (truth (all_of o.S f (t + 1 - f))) here) (refuse RANGE here)))
        (λ e. let q = in_order f t e in
        told fit _ _ (ap truth (ap (λ (r : Received). ranges.covers r f t) (covered-now N run es o ls out sound same fit) ∙ (proved.records sound.records).covers-all f t q.0 q.1)) refl)
        (λ e. refuses RANGE))

    pub take-good : Agree take
    unfolding steps.step ledgers.ledger
    take-good = asked N run es o ls out sound same _ _ takes

    pub statement-good : Agree statement
    unfolding steps.step ledgers.ledger
    statement-good =
        asked N run es o ls out sound same _ _ (λ fit.
        subst (λ (line : List ℕ). Good N here given (writing (said_line line) given (writer.stored line out))
        (write_now (said (length (line_now N es o)) (line_now N es o)) (line_now N es o) (lent_of given) here)) (sym (line-now fit))
        (writes fit (said_line (line_now N es o)) (said (length (line_now N es o)) (line_now N es o)) (line_now N es o) refl refl refl))

    pub write-good : Agree write
    unfolding steps.step ledgers.ledger
    write-good =
        asked N run es o ls out sound same _ _ (λ fit.
        subst (λ (row : List ℕ). Good N here given (writing wrote_row given (writer.stored row out))
        (write_now (wrote (length (row_now N o))) (row_now N o) (lent_of given) here)) (sym (image-now N run es o ls out sound same fit))
        (writes fit wrote_row (wrote (length (row_now N o))) (row_now N o) refl refl refl))
