-- In a legal list 34 comes only from no store, no open contact, or a list lent too short.
-- Assumes nothing.
use Prim.Native.Nat.{ℕ, ◌+◌, ◌/◌, ◌^◌, ◌<◌}
use mathlib.Core.List.{List, ◌++◌}
use mathlib.Core.Bool.{Bool, true, false, cond, ◌&&◌, true≢false}
use mathlib.Core.Option.{Option, none, some}
use mathlib.Core.Path.{◌≡◌, refl, sym, ap, ◌∙◌, subst}
use native.Mathlib.Omega.{arith}
use lib.ListN.{length, drop}
use lib.Dec.{leb, ltb, eqb}
use borrow.Author.Tests.{le-leb}
use Rattle.layout.specs.Questions.{STORE, OUTPUT, RANGES_FIT}
use Rattle.layout.specs.Layout.{Answer, accepted, refused_by, read_row}
use Rattle.layout.specs.Write as writer
use Rattle.rows.specs.Values.{Contact}
use Rattle.rows.specs.Rows.{contact}
use Rattle.rows.proofs.Tests.{either}
use Rattle.received.specs.Lent.{fits}
use Rattle.received.specs.Change.{change_of}
use Rattle.received.specs.declared.Change.{Change}
use Rattle.contact.specs.Contact.{Lists, contact_of, long_enough}
use Rattle.contact.specs.declared.Contact.{Contact as Struct}
use Rattle.numbers.specs.Lists.{within}
use Rattle.contact_image.specs.Row.{image}
use Rattle.contact_laws.proofs.Back.{fits-of}
use Rattle.store.specs.declared.Entry.{Entry}
use Rattle.store.specs.Rounds.{Asked}
use Rattle.store.specs.Rounds as asks
use Rattle.store.specs.Kinds.{CONTACT, kind_of, layout_of, refusal_in}
use Rattle.store.specs.Store as store
use Rattle.store.specs.Store.{store_of, part_of, store_passes, asked, found, outcome, contact_in}
use Rattle.store.proofs.Rounds.{some≢none}
use Rattle.store.proofs.Tests.{is-of}
use Rattle.store.proofs.Accepted.{going-quiet}
use Rattle.calls_step.specs.declared.Mark.TheVariants.{Fresh, Restored}
use Rattle.ledger.specs.Call.{Call, restore, opens, cover, contains, covers, take, statement, write, granted, advanced, truth, number, wrote, said, refused, refused_at}
use Rattle.calls_step.specs.Input.{Input, Left, no, lent_of}
use Rattle.ledger.specs.Call as call
use Rattle.calls_step.specs.Step.{restoring, passes, filling, opening, covering, writing, step}
use Rattle.numbers.specs.Ranges.{is_range}
use Rattle.calls_step.specs.Step as steps
use Rattle.ledger.specs.Ledger.{Open, Ledger, nothing, restored, opened, fitting, enough, current}
use Rattle.calls_step.specs.Legal.{Turn, Each, Typed, Legal}
use Rattle.calls_step.specs.Agree.{laid_lists}
use Rattle.calls_step.specs.Stuck.{places_for, Unstuck}
use Rattle.calls_step.specs.Stands.{SoundStore, Sound, SoundLedger, StandsFor}
use Rattle.calls_step.proofs.Opening.{found_at}
use Rattle.calls_step.proofs.Asking.{input, passes-is}
use Rattle.calls_step.proofs.Every.{each_turn, begun}

-- ---- answers that are 34
abbrev is34 : call.Answer → Bool
is34 granted = false
is34 (advanced b n) = false
is34 (truth b) = false
is34 (number n) = false
is34 (wrote n) = false
is34 (said n line) = false
is34 (refused q) = eqb q STORE
is34 (refused_at q i) = false

-- an answer that is another
record Other (l : Left) : Type 0 where
  other : is34 l.answer ≡ false

not-34 : (l : Left) → Other l → l.answer ≡ refused STORE → ⊥
not-34 l o e = true≢false (sym (ap is34 e) ∙ o.other)

either-other : (b : Bool) (x y : Left) → Other x → Other y → Other (cond b x y)
either-other true x y o p = o
either-other false x y o p = p

-- ---- restore
restore-other : (run : List ℕ) (es : List Entry) (h : Input) → Other (restoring run es h (store.restore (store_of run es)))
restore-other run es h = go (asked (store_of run es))
  where
    go : (x : Asked) → Other (restoring run es h (outcome x (found (store_of run es))))
    go asks.Going = record { other = refl }
    go (asks.Refused q i) = record { other = refl }

-- ---- open: a row of a store that passes is not refused
module _ (run : List ℕ) (es : List Entry) (sound : SoundStore run es) (k : ℕ) where
  row-passes : (e : Entry) → contact_in es k ≡ some e → refusal_in (read_row (contact e.version) (part_of run e)) ≡ none
  row-passes e at =
      let f = found_at es k e at in
      let quiet = (going-quiet (store_of run es) sound.going).1.1.0 f.place (omega arith) f.below in
      let here : refusal_in (read_row (layout_of (kind_of e.kind) e.version) (part_of run e)) ≡ none =
      subst (λ (x : Entry). refusal_in (read_row (layout_of (kind_of x.kind) x.version) (part_of run x)) ≡ none) f.is-there quiet in
      subst (λ (n : ℕ). refusal_in (read_row (layout_of (kind_of n) e.version) (part_of run e)) ≡ none) (is-of CONTACT k e f.of-it).0 here

  filling-other : (h : Input) (y : Answer Contact) → refusal_in y ≡ none → Other (filling k h y)
  filling-other h (accepted v) e = either-other (long_enough v h.lists) _ _ (record { other = refl }) (record { other = refl })
  filling-other h (refused_by q) e = absurd (some≢none e)

  opening-other : (h : Input) → h.run ≡ run → (x : Option Entry) → contact_in es k ≡ x → Other (opening k h x)
  opening-other h r none e = record { other = refl }
  opening-other h r (some e) at =
      filling-other h (read_row (contact e.version) (part_of h.run e)) (subst (λ (x : List ℕ). refusal_in (read_row (contact e.version) (part_of x e)) ≡ none) (sym r) (row-passes e at))

  open-other : (h : Input) → h.run ≡ run → Other (cond (store_passes run es) (opening k h (contact_in es k)) (no STORE h))
  open-other h r = rw sound.going (opening-other h r (contact_in es k) refl)

-- ---- the calls on an open contact, past 34
covering-other : (f t : ℕ) (h : Input) (b : Bool) (c : Change) → Other (covering f t h (cond b (accepted c) (refused_by RANGES_FIT)))
covering-other f t h true c = record { other = refl }
covering-other f t h false c = record { other = refl }

writing-other : (answer : writer.Written → call.Answer) (h : Input) (bytes : List ℕ) → is34 (answer (writer.wrote (length bytes))) ≡ false → is34 (answer (writer.refuses OUTPUT)) ≡ false
    → Other (writing answer h (writer.stored bytes h.out))
writing-other answer h bytes e r = go (leb (length bytes) (length h.out))
  where
    go : (b : Bool) → Other (writing answer h (cond b
        (record { answer = writer.wrote (length bytes); out = bytes ++ drop (length bytes) h.out }) (record { answer = writer.refuses OUTPUT; out = h.out })))
    go true = record { other = e }
    go false = record { other = r }

-- ---- no count of a valid contact is above 65,535
few-enough : (n items : ℕ) → n < 256 ^ 2 → within n items ≡ leb n items
few-enough n items few = either (leb n items) (λ b. b && leb n 65535 ≡ b) (λ t. le-leb n 65535 (omega arith)) (λ t. refl)

module _ (N : ℕ) (wide : N + 1 ≡ 256 ^ 4) where
  module _ (run : List ℕ) (es : List Entry) (o : Open) (ls : Lists) (out : List ℕ) (sound : Sound N run es o) (same : laid_lists (current N o) 0 ls ≡ ls) where
    fitting-is : fitting (current N o) (lent_of (input N run es o ls out)) ≡ places_for (contact_of (current N o)) ls
    fitting-is =
        let k = fits-of 3 (current N o) sound.now.fits in
        rw (
          few-enough (length o.fields.chains) (length ls.chains / 51) k.chains.few,
          few-enough (length o.fields.skipped) (length ls.skipped / 46) k.skipped.few,
          few-enough (length (current N o).above) (length ls.above / 2) k.above.few,
          few-enough (length o.fields.unacked) (length ls.unacked) k.unacked.few,
          few-enough (length o.fields.expired) (length ls.expired / 2) k.expired.few,
        )

    -- 34, or another answer
    wants : (s : Left) → Other s → (cond (passes o.id (input N run es o ls out)) s (no STORE (input N run es o ls out))).answer ≡ refused STORE → places_for (contact_of (current N o)) ls ≡ false
    wants s other e =
        either (places_for (contact_of (current N o)) ls)
        (λ b. (cond b s (no STORE (input N run es o ls out))).answer ≡ refused STORE → b ≡ false)
        (λ t q. absurd (not-34 s other q))
        (λ t q. refl)
        (rw (passes-is N run es o ls out sound same ∙ fitting-is) at e)

    abbrev given : Input
    given = input N run es o ls out

    on-opened : (c : Call) → Unstuck N (record { call = c; input = given })
    unfolding steps.step
    on-opened (restore run' es') e = not-34 _ (restore-other run' es' given) e
    on-opened (opens k) e = not-34 _ (open-other run es sound.store k given refl) e
    on-opened (cover f t) e =
        wants _ (either-other (is_range f t) _ _ (covering-other f t given (fits (steps.covered_in given) (length ls.above) f t) (change_of (steps.covered_in given) f t)) (record { other = refl })) e
    on-opened (contains m) e = wants _ (record { other = refl }) e
    on-opened (covers f t) e = wants _ (either-other (is_range f t) _ _ (record { other = refl }) (record { other = refl })) e
    on-opened take e = wants _ (either-other (ltb o.n N) _ _ (record { other = refl }) (record { other = refl })) e
    on-opened statement e = wants _ (writing-other (steps.said_line (steps.line_in o.id given)) given (steps.line_in o.id given) refl refl) e
    on-opened write e = wants _ (writing-other steps.wrote_row given (image (contact_of (current N o)) ls) refl refl) e

  -- ---- while no contact is open
  module _ (run : List ℕ) (es : List Entry) (fields : Struct) (ls : Lists) (out : List ℕ) where
    on-nothing : (c : Call) → Unstuck N (record { call = c; input = record { mark = Fresh; run = run; entries = es; contact = fields; lists = ls; out = out } })
    unfolding steps.step
    on-nothing (restore run' es') e = not-34 _ (restore-other run' es' _) e
    on-nothing (opens k) e = tt
    on-nothing (cover f t) e = tt
    on-nothing (contains m) e = tt
    on-nothing (covers f t) e = tt
    on-nothing take e = tt
    on-nothing statement e = tt
    on-nothing write e = tt

    on-restored : SoundStore run es → (c : Call) → Unstuck N (record { call = c; input = record { mark = Restored; run = run; entries = es; contact = fields; lists = ls; out = out } })
    unfolding steps.step
    on-restored s (restore run' es') e = not-34 _ (restore-other run' es' _) e
    on-restored s (opens k) e = not-34 _ (open-other run es s k _ refl) e
    on-restored s (cover f t) e = tt
    on-restored s (contains m) e = tt
    on-restored s (covers f t) e = tt
    on-restored s take e = tt
    on-restored s statement e = tt
    on-restored s write e = tt

  abbrev At : Call → Input → Type 0
  At c h = Unstuck N (record { call = c; input = h })

  unstuck : (c : Call) → Typed N c → (l : Ledger) → SoundLedger N l → (h : Input) → StandsFor N l h → At c h
  unstuck c t nothing s h e = subst (At c) e.stands (on-nothing h.run h.entries h.contact h.lists h.out c)
  unstuck c t (restored run es) s h e = subst (At c) e.stands (on-restored run es h.contact h.lists h.out s c)
  unstuck c t (opened run es o) s h e =
      subst (At c) e.stands (on-opened run es o (laid_lists (current N o) 0 h.lists) h.out s (ap (λ (g : Input). laid_lists (current N o) 0 g.lists) e.stands) c)

  pub never_stuck : (g : Input) → g.mark ≡ Fresh → (ts : List Turn) → Legal N g ts → Each (Unstuck N) ts
  never_stuck g m ts legal = each_turn N wide (Unstuck N) unstuck ts nothing g (begun N wide g m) legal
