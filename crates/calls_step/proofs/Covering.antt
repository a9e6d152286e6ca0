-- cover agrees with the ledger: the ranges that it leaves are the runs of S with from..to added, and it answers how many numbers that set has more.
-- Assumes nothing.
use Prim.Native.Nat.{ℕ, ◌+◌, ◌-◌, ◌/◌, ◌^◌, ◌≤◌}
use mathlib.Core.List.{List, []}
use mathlib.Core.Bool.{Bool, true, false, cond, not}
use mathlib.Core.Path.{◌≡◌, refl, sym, ap, ◌∙◌, subst}
use native.Mathlib.Omega.{arith}
use lib.ListN.{length}
use lib.Dec.{leb, eqb}
use borrow.Author.Tests.{leb-true}
use Rattle.layout.specs.Questions.{RANGE, RANGES_FIT}
use Rattle.layout.specs.RowLaws.{Valid}
use Rattle.rows.specs.Rows.{contact}
use Rattle.numbers.specs.Ranges.{Received, inserted, added, is_range}
use Rattle.received.specs.Change.{change_of}
use Rattle.received.specs.Change as changes
use Rattle.numbers.specs.Sets.{add, how_many, Records}
use Rattle.received.specs.Lent.{flat, stored, fits, plan_of, list_after}
use Rattle.numbers.specs.Lists.{limit_of}
use Rattle.rows.proofs.Tests.{either}
use Rattle.received.proofs.Proved.{proved}
use Rattle.contact.specs.Contact.{Lists, contact_of}
use Rattle.store.specs.declared.Entry.{Entry}
use Rattle.store.proofs.Lasting.{opened-lasts}
use Rattle.calls_step.specs.declared.Mark.TheVariants.{Opened}
use Rattle.ledger.specs.Call.{advanced, cover}
use Rattle.calls_step.specs.Input.{Input, Left, leaves, no, lent_of}
use Rattle.calls_step.specs.Step.{renumbered, above_as, relisted, covered_in, covering, step}
use Rattle.calls_step.specs.Step as steps
use Rattle.ledger.specs.Ledger.{Open, Ledger, opened, refuse, fitting, covered, current, cover_now, ledger}
use Rattle.ledger.specs.Ledger as ledgers
use Rattle.calls_step.specs.Agree.{laid_lists}
use Rattle.calls_step.proofs.Numbers.{known, valid-with}
use Rattle.calls_step.specs.Stands.{Holds, Sound}
use Rattle.calls_step.proofs.Laid.{holds-with, laid-stored, holds-stored}
use Rattle.calls_step.proofs.Good.{Good, refuse-good}
use Rattle.calls_step.proofs.Asking.{input, stands, lists-hold, covered-now, above-room, asked}
use Rattle.calls_step.proofs.Calls.{in_order}
use Rattle.layout.specs.Layout.{accepted, refused_by}

module _ (N : ℕ) (wide : N + 1 ≡ 256 ^ 4) (run : List ℕ) (es : List Entry) (o : Open) (ls : Lists) (out : List ℕ) (sound : Sound N run es o)
    (same : laid_lists (current N o) 0 ls ≡ ls) (f t : ℕ)
  where
    abbrev here : Ledger
    here = opened run es o

    abbrev given : Input
    given = input N run es o ls out

    -- ---- what the call leaves where the ranges were v
    abbrev left_of : Received → Left
    left_of v =
        cond (fits v (length ls.above) f t)
        (leaves (advanced (change_of v f t).moved (change_of v f t).added)
        (relisted (renumbered o.n (change_of v f t).contiguous (change_of v f t).count (contact_of (current N o))) (above_as (list_after v ls.above f t) ls) given))
        (no RANGES_FIT given)

    plan-left : covering f t given (plan_of (covered_in given) (length ls.above) f t) ≡ left_of (covered_in given)
    plan-left = go (fits (covered_in given) (length ls.above) f t)
      where
        go : (b : Bool) → covering f t given (cond b (accepted (change_of (covered_in given) f t)) (refused_by RANGES_FIT))
            ≡ cond b (leaves (advanced (change_of (covered_in given) f t).moved (change_of (covered_in given) f t).added)
            (relisted (renumbered o.n (change_of (covered_in given) f t).contiguous (change_of (covered_in given) f t).count (contact_of (current N o)))
            (above_as (list_after (covered_in given) ls.above f t) ls) given)) (no RANGES_FIT given)
        go true = refl
        go false = refl

    -- ... in terms of the ranges r that it would then be, with so many new numbers
    abbrev left_as : Received → (new : ℕ) → Left
    left_as r new =
        cond (leb (length r.above) (limit_of (length ls.above)))
        (leaves (advanced (not (eqb r.contiguous (covered N o).contiguous)) new)
        (relisted (renumbered o.n r.contiguous (length r.above) (contact_of (current N o)))
        (above_as (cond (leb (length r.above) (limit_of (length ls.above))) (stored r.above (length (covered N o).above) ls.above) ls.above) ls) given))
        (no RANGES_FIT given)

    left_as_lem : left_of (covered N o) ≡ left_as (inserted (covered N o) f t) (added (covered N o) f t)
    unfolding changes.change_of
    left_as_lem = refl

    -- ---- S with f..t added
    abbrev wider : Open
    wider = record { id = o.id; fields = o.fields; n = o.n; S = add f t o.S }

    abbrev added_now : ℕ
    added_now = how_many (add f t o.S) 1 N - how_many o.S 1 N

    module _ (one : 1 ≤ f) (ft : f ≤ t) (t_n : t ≤ N) where
      adds : Records N (add f t o.S) (inserted (covered N o) f t)
      adds = (proved.records sound.records).insert-adds f t one ft t_n

      wider-is : covered N wider ≡ inserted (covered N o) f t
      wider-is = (proved.records adds).scanned

      added_is : added (covered N o) f t ≡ added_now
      added_is = omega (arith, (proved.records sound.records).added_more f t one t_n)

      records : Records N (add f t o.S) (covered N wider)
      records = subst (Records N (add f t o.S)) (sym wider-is) adds

      module _ (few : length (covered N wider).above ≤ limit_of (length ls.above)) where
        valid : Valid (contact 3) (current N wider)
        valid =
            valid-with N o.fields o.n (covered N wider) (omega arith) sound.fields sound.more (known N (current N o) (omega arith) sound.now).sent
            (proved.records records).contiguous-width (omega arith) records.is-canonical (proved.records records).above-width

        sound-wider : Sound N run es wider
        sound-wider = record {
          store = sound.store;
          fields = sound.fields;
          bytes = sound.bytes;
          now = valid;
          more = sound.more;
          records = records;
          stored = sound.stored;
          going = opened-lasts (current N o) (current N wider) sound.now valid (omega arith) refl run es o.id sound.going;
        }

        module _ (fit : fitting (current N o) (lent_of given) ≡ true) where
          room : length (covered N o).above ≤ length ls.above / 2
          room = above-room N run es o ls out sound same fit

          abbrev freed : ℕ
          freed = length (covered N o).above - length (covered N wider).above

          stored_is : stored (covered N wider).above (length (covered N o).above) ls.above ≡ (laid_lists (current N wider) freed ls).above
          stored_is = sym (laid-stored (covered N wider).above (length (covered N o).above) ls.above room (omega arith))

          lists-are : above_as (stored (covered N wider).above (length (covered N o).above) ls.above) ls ≡ laid_lists (current N wider) freed ls
          lists-are = λ i. record {
            chains = (sym same i).chains;
            skipped = (sym same i).skipped;
            above = stored_is i;
            unacked = (sym same i).unacked;
            expired = (sym same i).expired;
          }

          grants : Good N here given
              (leaves (advanced (not (eqb (covered N wider).contiguous (covered N o).contiguous)) added_now)
              (relisted (renumbered o.n (covered N wider).contiguous (length (covered N wider).above) (contact_of (current N o)))
              (above_as (stored (covered N wider).above (length (covered N o).above) ls.above) ls) given))
              (record { answer = advanced (not (eqb (covered N wider).contiguous (covered N o).contiguous)) added_now; state = opened run es wider; freed = freed; output = [] })
          grants = record {
            agrees = λ i. leaves (advanced (not (eqb (covered N wider).contiguous (covered N o).contiguous)) added_now)
                (record { mark = Opened (record { 0 = o.id }); run = run; entries = es; contact = contact_of (current N wider); lists = lists-are i; out = out });
            next = (
              sound-wider,
              (
                refl,
                record { run = refl; entries = refl },
                record {
                  contact = refl;
                  lists = holds-with (current N o) o.n (covered N wider) _ _ (lists-hold N run es o ls out sound same fit)
                      (subst (Holds 2 (length (covered N wider).above) (flat (covered N wider).above)) stored_is
                      (holds-stored (covered N wider).above (length (covered N o).above) ls.above room (omega arith)));
                },
              ),
            );
          }

      covers-now : fitting (current N o) (lent_of given) ≡ true → Good N here given (left_as (covered N wider) added_now) (cover_now N f t (lent_of given) run es o)
      covers-now fit =
          either (leb (length (covered N wider).above) (limit_of (length ls.above)))
          (λ b. Good N here given
          (cond b (leaves (advanced (not (eqb (covered N wider).contiguous (covered N o).contiguous)) added_now)
          (relisted (renumbered o.n (covered N wider).contiguous (length (covered N wider).above) (contact_of (current N o)))
          (above_as (cond b (stored (covered N wider).above (length (covered N o).above) ls.above) ls.above) ls) given)) (no RANGES_FIT given))
          (cond b (record {
            answer = advanced (not (eqb (covered N wider).contiguous (covered N o).contiguous)) added_now;
            state = opened run es wider;
            freed = length (covered N o).above - length (covered N wider).above;
            output = [];
          }) (refuse RANGES_FIT here)))
          (λ e. grants (leb-true (length (covered N wider).above) (limit_of (length ls.above)) e) fit)
          (λ e. refuse-good N here given (stands N run es o ls out sound same) RANGES_FIT)

      planned-good : fitting (current N o) (lent_of given) ≡ true
          → Good N here given (covering f t given (plan_of (covered_in given) (length ls.above) f t)) (cover_now N f t (lent_of given) run es o)
      planned-good fit =
          subst (λ (x : Left). Good N here given x (cover_now N f t (lent_of given) run es o))
          (sym (plan-left ∙ ap left_of (covered-now N run es o ls out sound same fit) ∙ left_as_lem ∙ (λ i. left_as (sym wider-is i) (added_is i))))
          (covers-now fit)

    pub cover-good : t ≤ N → Good N here given (step N (cover f t) given) (ledger N (cover f t) (lent_of given) here)
    unfolding steps.step ledgers.ledger
    cover-good t_n =
        asked N run es o ls out sound same _ _ (λ fit.
        either (is_range f t)
        (λ b. Good N here given (cond b (covering f t given (plan_of (covered_in given) (length ls.above) f t)) (no RANGE given))
        (cond b (cover_now N f t (lent_of given) run es o) (refuse RANGE here)))
        (λ e. let q = in_order f t e in planned-good q.0 q.1 t_n fit)
        (λ e. refuse-good N here given (stands N run es o ls out sound same) RANGE))
