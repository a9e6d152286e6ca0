-- open agrees with the ledger, and the fields that it leaves are as they were read.
-- Assumes nothing.
use Prim.Native.Nat.{ℕ, suc, ◌+◌, ◌^◌, ◌≤◌, ◌<◌}
use mathlib.Core.List.{List, [], ◌∷◌}
use mathlib.Core.Bool.{Bool, true, false, cond}
use mathlib.Core.Option.{Option, none, some}
use mathlib.Core.Path.{◌≡◌, refl, sym, ap, ◌∙◌, subst}
use native.Mathlib.Omega.{arith}
use lib.ListN.{length}
use lib.Dec.{T}
use Rattle.layout.specs.Questions.{STORE, CONTACT_STORED, LISTS}
use Rattle.layout.specs.Layout.{Answer, accepted, refused_by, read_row}
use Rattle.layout.specs.RowLaws.{Bytes, Valid}
use Rattle.rows.specs.Values.{Contact}
use Rattle.rows.specs.Rows.{contact}
use Rattle.rows.proofs.Proved.{proved}
use Rattle.rows.proofs.RoundTrip.{three}
use Rattle.rows.proofs.Tests.{either}
use Rattle.contact.specs.Contact.{Lists, contact_of, long_enough, filled}
use Rattle.contact.specs.declared.Contact.{Contact as Struct}
use Rattle.store.specs.declared.Entry.{Entry}
use Rattle.store.specs.Rounds.{Going}
use Rattle.store.specs.Kinds.{CONTACT}
use Rattle.store.specs.Store.{entry_at, is_of, part_of, store_passes, opened_in, asked, before, contact_in}
use Rattle.store.proofs.Tests.{truth, holds, found-any}
use Rattle.store.proofs.Parts.{bytes-part}
use Rattle.store.proofs.Opened.{just-opened}
use Rattle.calls_step.specs.declared.Mark.{Mark}
use Rattle.calls_step.specs.declared.Mark.TheVariants.{Opened}
use Rattle.ledger.specs.Call.{granted}
use Rattle.calls_step.specs.Input.{Input, leaves, no, lent_of}
use Rattle.calls_step.specs.Step.{filling, opening}
use Rattle.ledger.specs.Ledger.{Ledger, opened, plain, refuse, open_of, fills, finds, open_in, current}
use Rattle.calls_step.specs.Agree.{laid_lists}
use Rattle.calls_step.specs.Stands.{HoldsAll, SoundStore, Sound, StandsFor, LeftFields}
use Rattle.calls_step.proofs.Laid.{laid_filled, holds-filled}
use Rattle.calls_step.proofs.Stands.{current-open, records-open}
use Rattle.calls_step.proofs.Good.{Good, refuse-good}

-- ---- where the contact's entry stands
pub record FoundAt (es : List Entry) (k : ℕ) (e : Entry) : Type 0 where
  pub place : ℕ
  pub below : place < length es
  pub is-there : entry_at es place ≡ e
  pub of-it : T (is_of CONTACT k e)

pub found_at : (es : List Entry) (k : ℕ) (e : Entry) → contact_in es k ≡ some e → FoundAt es k e
found_at [] k e h = absurd (let z : ◌≡◌ {A = ℕ} 0 1 = cc in omega arith)
found_at (x ∷ es) k e h = go (is_of CONTACT k x) refl h (found_at es k e)
  where
    go : (t : Bool) → is_of CONTACT k x ≡ t → cond t (some x) (contact_in es k) ≡ some e → (contact_in es k ≡ some e → FoundAt es k e) → FoundAt (x ∷ es) k e
    go true p q ih = let s : x ≡ e = cc in record { place = 0; below = omega arith; is-there = s; of-it = subst (λ (y : Entry). T (is_of CONTACT k y)) s (truth (is_of CONTACT k x) p) }
    go false p q ih = let f = ih q in record { place = suc f.place; below = omega (arith, f.below); is-there = f.is-there; of-it = f.of-it }

module _ (N : ℕ) (wide : 256 ^ 4 ≤ N + 1) (run : List ℕ) (es : List Entry) (sound : SoundStore run es) (k : ℕ) where
  -- ---- a row that was read: the state just opened is sound
  module _ (e : Entry) (at : contact_in es k ≡ some e) (v : Contact) (read : read_row (contact e.version) (part_of run e) ≡ accepted v) where
    pub is-three : e.version ≡ 3
    is-three = three _ e.version (part_of run e) read

    read-three : read_row (contact 3) (part_of run e) ≡ accepted v
    read-three = subst (λ (n : ℕ). read_row (contact n) (part_of run e) ≡ accepted v) is-three read

    pub valid : Valid (contact 3) v
    valid = (proved.contact 3).laws.read-valid (part_of run e) (bytes-part run sound.bytes e) v read-three

    pub now : current N (open_of k v) ≡ v
    now = current-open N k v wide valid

    passes : asked (opened_in run es k v) ≡ Going
    passes =
        let f = found_at es k e at in
        just-opened run es k v sound.bytes sound.going f.place f.below (subst (λ (x : Entry). T (is_of CONTACT k x)) (sym f.is-there) f.of-it)
        (ap (λ (x : Entry). read_row (contact 3) (part_of run x)) f.is-there ∙ read-three)

    is-stored : before es (length es) CONTACT k ≡ true
    is-stored =
        let f = found_at es k e at in
        holds (before es (length es) CONTACT k) (found-any (length es) (λ j. is_of CONTACT k (entry_at es j)) f.place f.below
        (subst (λ (x : Entry). T (is_of CONTACT k x)) (sym f.is-there) f.of-it))

    sound-open : Sound N run es (open_of k v)
    sound-open = record {
      store = sound;
      fields = valid;
      bytes = subst Bytes (sym ((proved.contact 3).laws.read-print (part_of run e) (bytes-part run sound.bytes e) v read-three)) (bytes-part run sound.bytes e);
      now = subst (Valid (contact 3)) (sym now) valid;
      more = omega arith;
      records = records-open N k v wide valid;
      stored = is-stored;
      going = subst (λ (c : Contact). asked (opened_in run es k c) ≡ Going) (sym now) passes;
    }

    left-fields : (h : Input) → long_enough v h.lists ≡ true → (m : Mark) → LeftFields (current N (open_of k v))
        (record { mark = m; run = run; entries = es; contact = contact_of (current N (open_of k v)); lists = laid_lists (current N (open_of k v)) 0 h.lists; out = h.out })
    left-fields h enough m = record {
      contact = refl;
      lists = subst (λ (c : Contact). HoldsAll c (laid_lists c 0 h.lists)) (sym now) (subst (HoldsAll v) (sym (laid_filled v valid h.lists enough)) (holds-filled v valid h.lists enough));
    }

  -- ---- 34, 35, 36
  module _ (m : Mark) (c : Struct) (ls : Lists) (out : List ℕ) (l : Ledger) where
    abbrev input : Input
    input = record { mark = m; run = run; entries = es; contact = c; lists = ls; out = out }

    -- what a granted open leaves
    abbrev left_by : Struct → Lists → Input
    left_by fields lists = record { mark = Opened (record { 0 = k }); run = run; entries = es; contact = fields; lists = lists; out = out }

    module _ (stands : StandsFor N l input) where
      granted-good : (e : Entry) → contact_in es k ≡ some e → (v : Contact) → read_row (contact e.version) (part_of run e) ≡ accepted v → long_enough v ls ≡ true
          → Good N l input (leaves granted (left_by (contact_of v) (filled v ls))) (plain granted (opened run es (open_of k v)))
      granted-good e at v read enough = record {
        agrees = subst (λ (u : Contact). leaves granted (left_by (contact_of v) (filled v ls)) ≡ leaves granted (left_by (contact_of u) (laid_lists u 0 ls))) (sym (now e at v read))
            (λ i. leaves granted (left_by (contact_of v) (sym (laid_filled v (valid e at v read) ls enough) i)));
        next = (sound-open e at v read, (refl, record { run = refl; entries = refl }, left-fields e at v read input enough (Opened (record { 0 = k }))));
      }

      filling-good : (e : Entry) → contact_in es k ≡ some e → (y : Answer Contact) → read_row (contact e.version) (part_of run e) ≡ y
          → Good N l input (filling k input y) (fills k (lent_of input) run es l y)
      filling-good e at (refused_by q) r = refuse-good N l input stands q
      filling-good e at (accepted v) r =
          either (long_enough v ls)
          (λ b. Good N l input
          (cond b (leaves granted (left_by (contact_of v) (filled v ls))) (no LISTS input))
          (cond b (plain granted (opened run es (open_of k v))) (refuse LISTS l)))
          (λ t. granted-good e at v r t)
          (λ t. refuse-good N l input stands LISTS)

      finding-good : (x : Option Entry) → contact_in es k ≡ x → Good N l input (opening k input x) (finds k (lent_of input) run es l x)
      finding-good none at = refuse-good N l input stands CONTACT_STORED
      finding-good (some e) at = filling-good e at (read_row (contact e.version) (part_of run e)) refl

      pub open-good : Good N l input (cond (store_passes run es) (opening k input (contact_in es k)) (no STORE input)) (open_in k (lent_of input) run es l)
      open-good = rw sound.going (finding-good (contact_in es k) refl)
