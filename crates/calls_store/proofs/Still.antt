-- What the parts of question 34 answer, together: it is the question.
-- Assumes nothing.
use Prim.Native.Nat.{ℕ, ◌+◌}
use mathlib.Core.List.{List, [], ◌∷◌}
use mathlib.Core.Bool.{Bool, true, false, cond, ◌&&◌, not, false≢true}
use mathlib.Core.Option.{none}
use mathlib.Core.Path.{◌≡◌, refl, sym, ap, ◌∙◌}
use lib.Dec.{T}
use Rattle.std.specs.Prelude.{Option as Optional, Some, Result, Ok, Err, is_some, is_ok}
use lib.ListN.{length, take}
use Rattle.layout.specs.declared.question.Question.{Question}
use Rattle.layout.specs.Questions.{LISTS, PEER_ACKED, UNACKED, ABOVE, EXPIRED}
use Rattle.layout.specs.Layout.{Answer, accepted, refused_by, read_row}
use Rattle.layout.specs.Write as write
use Rattle.rows.specs.Values as value
use Rattle.rows.specs.Rows as rows
use Rattle.rows.specs.declared.ContactId.{ContactId}
use Rattle.rows.specs.Checks.{acked_sent, rising, canonical, none_above}
use Rattle.rows.proofs.Meets.{first-none}
use Rattle.rows.proofs.Tests.{either}
use Rattle.contact.specs.Consistent.{chains_refusal, numbers_refusal, inconsistency}
use Rattle.contact.specs.Contact.{Lists}
use Rattle.contact.specs.declared.Contact.{Contact}
use Rattle.contact_image.specs.Row as row
use Rattle.contact_image.specs.Row.{counted, image, contact_in, asked_contact, ContactTyped, ListsTyped}
use Rattle.contact_image.proofs.Counts.{all-counted}
use Rattle.contact_laws.proofs.RoundTrip.{image-consistent}
use Rattle.store.specs.declared.Entry.{Entry}
use Rattle.store.specs.Omitted.{Omitted, is_omitted, omitted_seen, seen_omitted, asked_omitted}
use Rattle.store.specs.declared.Refusal.{Refusal}
use Rattle.store.specs.Rounds.{Asked, ask}
use Rattle.store.specs.Rounds as so
use Rattle.store.specs.Kinds.{CONTACT}
use Rattle.store.specs.Store.{is_of, before, next_in, slots_below, going, replaced_passes}
use Rattle.store.proofs.Tests.{all_yes}
use Rattle.restore.specs.declared.Granted.{Granted}
use Rattle.restore.specs.Restored.{restored_says, granting, questioned, is_granted}
use Rattle.calls_step.specs.declared.Mark.TheVariants.{Fresh}
use Rattle.calls_step.specs.Input.{Input}
use Rattle.calls_step.specs.Omitted.{sight_of, is_length, passes_in_parts}
use Rattle.calls_step.proofs.Omitted.{passes-in-parts}
use Rattle.calls_find.specs.Sought.{sought_in, queued_among, queued_found}
use Rattle.calls_find.proofs.Halves.{Rises}
use Rattle.calls_find.proofs.Laws.{found-is, among-rising}
use Rattle.calls_store.specs.declared.Asking.{Asking}
use Rattle.calls_store.specs.declared.Asking.TheVariants.{Nothing, Stored, Opened}
use Rattle.calls_store.specs.Passes.{Writable, WritableFor, omitted_for, count_for, yes_for, passes_for}
use Rattle.calls_store.proofs.Among.{sight, asked-apart}

-- ---- fields that could be written have unacked numbers that rise
unacked-rise : (v : value.Contact) → inconsistency v ≡ none → T (rising 1 v.sent_msgno v.unacked)
unacked-rise v e =
    (all_yes (
    ask PEER_ACKED (acked_sent v.peer_acked v.sent_msgno)
    ∷ ask UNACKED (rising 1 v.sent_msgno v.unacked)
    ∷ ask ABOVE (canonical (v.contiguous + 2) v.above)
    ∷ ask EXPIRED (canonical 1 v.expired && none_above v.sent_msgno v.expired)
    ∷ [])
    (first-none (chains_refusal v.chains v.skipped) (numbers_refusal v.sent_msgno v.peer_acked v.contiguous v.above v.unacked v.expired) e).1).1.0

module _ (c : Contact) (l : Lists) (ty : ContactTyped c) (lt : ListsTyped l) where
  rises : is_length (asked_contact c l) ≡ true → Rises (take c.unacked l.unacked)
  unfolding row.asked_contact write.asked
  rises e = go (counted c l) refl (read_row (rows.contact 3) (image c l)) refl e
    where
      go : (b : Bool) → counted c l ≡ b → (y : Answer value.Contact) → read_row (rows.contact 3) (image c l) ≡ y
          → is_length (cond b (write.sized y (length (image c l))) (write.refuses LISTS)) ≡ true → Rises (take c.unacked l.unacked)
      go true counts (accepted u) read p = record { highest = c.sent_msgno; rises = unacked-rise (contact_in c l) (image-consistent c l ty lt (all-counted c l counts) u read) }
      go true counts (refused_by q) read p = absurd (false≢true p)
      go false counts y read p = absurd (false≢true p)

-- ---- a store is granted if every question is a yes
all-granted : (run : List ℕ) (es : List Entry) (omitted : Omitted) (end : Result Granted (Refusal Question)) → restored_says end ≡ questioned run es omitted
    → is_ok end ≡ going (asked_omitted run es (is_omitted omitted) (omitted_seen omitted))
all-granted run es omitted end is =
    said end ∙ ap is_granted is ∙ go (asked_omitted run es (is_omitted omitted) (omitted_seen omitted)) (next_in (seen_omitted run es (is_omitted omitted) (omitted_seen omitted)) es) (slots_below es (length es))
  where
    said : (r : Result Granted (Refusal Question)) → is_ok r ≡ is_granted (restored_says r)
    said (Ok g) = refl
    said (Err r) = refl

    go : (a : Asked) (next slot : ℕ) → is_granted (granting a next slot) ≡ going a
    go so.Going next slot = refl
    go (so.Refused number place) next slot = refl

-- ---- opened fields in place of a contact's row
module _ (run : List ℕ) (es : List Entry) (id : ContactId) (c : Contact) (l : Lists) where
  abbrev k : ℕ
  k = id.0

  abbrev input : Input
  input = record { mark = Fresh; run = run; entries = es; contact = c; lists = l; out = [] }

  still-is : (writable : Bool) (sought : Optional Entry) (omitted : Omitted) (end : Result Granted (Refusal Question)) (count : ℕ) (among r : Bool)
      → Writable c l writable → sought ≡ sought_in es k → omitted ≡ Some (record { contact = id; sent_msgno = c.sent_msgno }) → restored_says end ≡ questioned run es omitted → count ≡ c.unacked
      → among ≡ queued_found k (take count l.unacked) es
      → r ≡ (writable && (is_some sought && (is_ok end && not among)))
      → r ≡ (counted c l && replaced_passes run es k (image c l))
  still-is writable sought omitted end count among r is-writable is-sought is-omitted is-end is-count is_among is-r =
      is-r ∙ (λ i. is-writable.asked i && (there i && (is_ok end && not among))) ∙ in_parts ∙ sym (passes-in-parts k input is-writable.contact is-writable.lists)
    where
      there : is_some sought ≡ before es (length es) CONTACT k
      there = ap is_some is-sought ∙ found-is k es

      going-is : is_ok end ≡ going (asked_omitted run es (is_of CONTACT k) (sight run es k c.sent_msgno []))
      going-is = all-granted run es omitted end is-end ∙ ap (λ (a : Omitted). going (asked_omitted run es (is_omitted a) (omitted_seen a))) is-omitted

      among-is : is_length (asked_contact c l) ≡ true → among ≡ queued_among k (take c.unacked l.unacked) es
      among-is t =
          is_among ∙ ap (λ (n : ℕ). queued_found k (take n l.unacked) es) is-count
          ∙ among-rising k (take c.unacked l.unacked) (rises c l is-writable.contact is-writable.lists t) es

      in_parts : is_length (asked_contact c l) && (before es (length es) CONTACT k && (is_ok end && not among)) ≡ passes_in_parts k input
      in_parts =
          either (is_length (asked_contact c l))
          (λ b. (b && (before es (length es) CONTACT k && (is_ok end && not among)))
          ≡ (b && (before es (length es) CONTACT k && going (asked_omitted run es (is_of CONTACT k) (sight_of c l)))))
          (λ t. ap (λ (x : Bool). before es (length es) CONTACT k && x)
          ((λ i. going-is i && not (among-is t i)) ∙ sym (asked-apart run es k c.sent_msgno (take c.unacked l.unacked))))
          (λ f. refl)

  -- ---- whatever it is asked of
  pub passes-is : (asking : Asking) (writable : Bool) (sought : Optional Entry) (omitted : Omitted) (end : Result Granted (Refusal Question)) (count : ℕ) (among r : Bool)
      → WritableFor asking c l writable → omitted ≡ omitted_for asking id c → restored_says end ≡ questioned run es omitted → count ≡ count_for asking c
      → among ≡ queued_found k (take count l.unacked) es
      → r ≡ yes_for asking writable (is_some sought) (is_ok end) among
      → sought ≡ sought_in es k → r ≡ passes_for asking run es id c l
  passes-is Nothing writable sought omitted end count among r is-writable is-omitted is-end is-count is_among is-r is-sought = is-r
  passes-is Stored writable sought omitted end count among r is-writable is-omitted is-end is-count is_among is-r is-sought =
      is-r ∙ all-granted run es omitted end is-end ∙ ap (λ (a : Omitted). going (asked_omitted run es (is_omitted a) (omitted_seen a))) is-omitted
  passes-is Opened writable sought omitted end count among r is-writable is-omitted is-end is-count is_among is-r is-sought =
      still-is writable sought omitted end count among r is-writable is-sought is-omitted is-end is-count is_among is-r
