-- Question 34 of an open contact, asked with its row left out.
-- Assumes nothing.
use Prim.Native.Nat.{ℕ}
use mathlib.Core.List.{List, [], ◌∷◌}
use mathlib.Core.Bool.{Bool, true, false, cond, ◌&&◌}
use mathlib.Core.Option.{Option, none, some}
use mathlib.Core.Path.{◌≡◌, refl, sym, ap, ◌∙◌, subst}
use native.Mathlib.Omega.{arith}
use lib.ListN.{length}
use lib.Dec.{eqb, eqb→eq}
use Rattle.layout.specs.Questions.{VERSION, LISTS}
use Rattle.layout.specs.Layout.{Answer, accepted, refused_by, read_row}
use Rattle.layout.specs.Write as write
use Rattle.rows.specs.Values.{Contact}
use Rattle.rows.specs.Rows as rows
use Rattle.contact_image.specs.Row as row
use Rattle.contact_image.specs.Row.{counted, image, contact_in, ContactTyped, ListsTyped}
use Rattle.contact_image.proofs.Counts.{all-counted}
use Rattle.contact_laws.proofs.RoundTrip.{image-value}
use Rattle.store.specs.declared.Entry.{Entry}
use Rattle.store.specs.Rounds.{Asked, ask, first_no, turns, rounds}
use Rattle.store.specs.Rounds as asks
use Rattle.store.specs.Kinds.{CONTACT, contact, kind_of, layout_of, Seen, nothing, seen_of, seen_in, refusal_in}
use Rattle.store.specs.Store as store
use Rattle.store.specs.Store.{Store, store_of, replaced_in, entry_at, is_of, part_of, answer_of, seen, order, bounds, across, begun, asked, before, going}
use Rattle.store.specs.Omitted.{read_omitted, seen_omitted, across_omitted, asked_omitted}
use Rattle.store.proofs.Rounds.{turns-refused, rounds-quiet, rounds-same, some≢none}
use Rattle.store.proofs.Tests.{truth, holds, all_yes, is-of, any_found}
use Rattle.store.proofs.Same.{own-use, across-same}
use Rattle.store.proofs.Accepted.{going-quiet}
use Rattle.store.proofs.Opened.{other-version}
use Rattle.rows.proofs.Tests.{either}
use Rattle.calls_step.specs.Input.{Input}
use Rattle.calls_step.specs.Step.{passes}
use Rattle.calls_step.specs.Omitted.{sight_of, passes_omitted, is_length, passes_in_parts}

-- ---- a row that is accepted
module _ (run : List ℕ) (es : List Entry) (k : ℕ) (bytes : List ℕ) (v : Contact) (read : read_row (rows.contact 3) bytes ≡ accepted v) where
  -- what reading it gives, by the entry's version
  abbrev Answered : (kind version : ℕ) → Type 0
  Answered kind version =
      (refusal_in (read_row (layout_of (kind_of kind) version) bytes) ≡ first_no (ask VERSION (eqb version 3) ∷ []))
      × (seen_of (kind_of kind) (read_row (layout_of (kind_of kind) version) bytes) ≡ cond (eqb version 3) (seen_in contact v) nothing)

  answered : (version : ℕ) → Answered CONTACT version
  answered version = go (eqb version 3) refl
    where
      go : (t : Bool) → eqb version 3 ≡ t → Answered CONTACT version
      go true e = subst (λ (n : ℕ). Answered CONTACT n) (sym (eqb→eq version 3 (truth (eqb version 3) e))) (ap refusal_in read, ap (seen_of contact) read)
      go false e =
          let r = other-version version bytes e in
          (ap refusal_in r ∙ ap (λ (t : Bool). first_no (ask VERSION t ∷ [])) (sym e), ap (seen_of contact) r ∙ ap (λ (t : Bool). cond t (seen_in contact v) nothing) (sym e))

  answered-at : (e : Entry) → is_of CONTACT k e ≡ true → Answered e.kind e.version
  answered-at e t = subst (λ (n : ℕ). Answered n e.version) (sym (is-of CONTACT k e (truth (is_of CONTACT k e) t)).0) (answered e.version)

  -- each entry is read and seen as with the row left out
  read_same_lem : (e : Entry) (t : Bool) → is_of CONTACT k e ≡ t
      → refusal_in (read_row (layout_of (kind_of e.kind) e.version) (cond t bytes (part_of run e)))
      ≡ cond t (first_no (ask VERSION (eqb e.version 3) ∷ [])) (refusal_in (read_row (layout_of (kind_of e.kind) e.version) (part_of run e)))
  read_same_lem e true p = (answered-at e p).0
  read_same_lem e false p = refl

  -- ... where its version is 3
  seen_same : (e : Entry) (t : Bool) (o : Option ℕ) → is_of CONTACT k e ≡ t → cond t (first_no (ask VERSION (eqb e.version 3) ∷ [])) o ≡ none
      → seen_of (kind_of e.kind) (read_row (layout_of (kind_of e.kind) e.version) (cond t bytes (part_of run e)))
      ≡ cond t (seen_in contact v) (seen_of (kind_of e.kind) (read_row (layout_of (kind_of e.kind) e.version) (part_of run e)))
  seen_same e true o p h = (answered-at e p).1 ∙ ap (λ (t : Bool). cond t (seen_in contact v) nothing) (holds (eqb e.version 3) (all_yes (ask VERSION (eqb e.version 3) ∷ []) h).0)
  seen_same e false o p h = refl

  abbrev s : Store
  s = replaced_in run es k bytes

  abbrev is_left : Entry → Bool
  is_left = is_of CONTACT k

  -- the rounds before, in both
  abbrev read_same : Asked
  read_same = rounds (order s ∷ bounds s ∷ read_omitted run es is_left ∷ []) (length es) (begun s)

  read-so : rounds (order s ∷ bounds s ∷ store.read s ∷ []) (length es) (begun s) ≡ read_same
  read-so =
      rounds-same (order s ∷ bounds s ∷ store.read s ∷ []) (order s ∷ bounds s ∷ read_omitted run es is_left ∷ []) (length es) (begun s)
      ((λ j h. refl), ((λ j h. refl), ((λ j h. read_same_lem (entry_at es j) (is_left (entry_at es j)) refl), tt)))

  -- 25 to 33, of what those have left
  across-so : (a : Asked) → read_same ≡ a → turns (across s) 0 (length es) a ≡ turns (across_omitted run es is_left (seen_in contact v)) 0 (length es) a
  across-so (asks.Refused n i) e = turns-refused (across s) 0 (length es) n i ∙ sym (turns-refused (across_omitted run es is_left (seen_in contact v)) 0 (length es) n i)
  across-so asks.Going e =
      let quiet = (rounds-quiet (order s ∷ bounds s ∷ read_omitted run es is_left ∷ []) (length es) (begun s) e).1.1.0 in
      rounds-same (across s ∷ []) (across_omitted run es is_left (seen_in contact v) ∷ []) (length es) asks.Going (
        (λ j h. ap first_no (across-same es es refl (λ i b. own-use (entry_at es i)) (seen s) (seen_omitted run es is_left (seen_in contact v))
            (λ i b. let x = entry_at es i in seen_same x (is_left x) (refusal_in (answer_of (store_of run es) x)) refl (quiet i (omega arith) b)) j h)),
        tt,
      )

  asked-same : asked s ≡ asked_omitted run es is_left (seen_in contact v)
  asked-same = ap (turns (across s) 0 (length es)) read-so ∙ across-so read_same refl

-- ---- a row that is refused, though the contact is in the store: no
refused-stops : (run : List ℕ) (es : List Entry) (k : ℕ) (bytes : List ℕ) (q : ℕ) → read_row (rows.contact 3) bytes ≡ refused_by q → before es (length es) CONTACT k ≡ true
    → asked (replaced_in run es k bytes) ≡ asks.Going → ⊥
refused-stops run es k bytes q read found e =
    let s = replaced_in run es k bytes in
    let at = any_found (length es) (λ j. is_of CONTACT k (entry_at es j)) (truth (before es (length es) CONTACT k) found) in
    let x = entry_at es at.0 in
    let is = is-of CONTACT k x at.2 in
    let quiet = (going-quiet s e).1.1.0 at.0 (omega arith) at.1 in
    let here : refusal_in (read_row (layout_of (kind_of x.kind) x.version) bytes) ≡ none =
    subst (λ (t : Bool). refusal_in (read_row (layout_of (kind_of x.kind) x.version) (cond t bytes (part_of run x))) ≡ none) (holds (is_of CONTACT k x) at.2) quiet in
    contradicts x.version (subst (λ (n : ℕ). refusal_in (read_row (layout_of (kind_of n) x.version) bytes) ≡ none) is.0 here)
  where
    contradicts : (version : ℕ) → refusal_in (read_row (rows.contact version) bytes) ≡ none → ⊥
    contradicts version h = go (eqb version 3) refl
      where
        go : (t : Bool) → eqb version 3 ≡ t → ⊥
        go true p = some≢none (sym (ap refusal_in read) ∙ subst (λ (n : ℕ). refusal_in (read_row (rows.contact n) bytes) ≡ none) (eqb→eq version 3 (truth (eqb version 3) p)) h)
        go false p = some≢none (sym (ap refusal_in (other-version version bytes p)) ∙ h)

-- ---- 34 in parts
module _ (k : ℕ) (h : Input) (ty : ContactTyped h.contact) (lt : ListsTyped h.lists) where
  abbrev bytes : List ℕ
  bytes = image h.contact h.lists

  abbrev sight : Seen
  sight = sight_of h.contact h.lists

  going-same : counted h.contact h.lists ≡ true → (y : Answer Contact) → read_row (rows.contact 3) bytes ≡ y
      → before h.entries (length h.entries) CONTACT k && going (asked (replaced_in h.run h.entries k bytes))
      ≡ is_length (write.sized y (length bytes)) && passes_omitted h.run h.entries k sight
  going-same c (accepted u) e =
      ap (λ (a : Asked). before h.entries (length h.entries) CONTACT k && going a)
      (asked-same h.run h.entries k bytes (contact_in h.contact h.lists) (image-value h.contact h.lists ty lt (all-counted h.contact h.lists c) u e))
  going-same c (refused_by q) e = stops (before h.entries (length h.entries) CONTACT k) refl (asked (replaced_in h.run h.entries k bytes)) refl
    where
      stops : (t : Bool) → before h.entries (length h.entries) CONTACT k ≡ t → (a : Asked) → asked (replaced_in h.run h.entries k bytes) ≡ a → t && going a ≡ false
      stops false f a g = refl
      stops true f asks.Going g = absurd (refused-stops h.run h.entries k bytes q e f g)
      stops true f (asks.Refused n i) g = refl

  pub passes-in-parts : passes k h ≡ passes_in_parts k h
  unfolding row.asked_contact write.asked
  passes-in-parts =
      either (counted h.contact h.lists)
      (λ b. b && (before h.entries (length h.entries) CONTACT k && going (asked (replaced_in h.run h.entries k bytes)))
      ≡ is_length (cond b (write.sized (read_row (rows.contact 3) bytes) (length bytes)) (write.refuses LISTS)) && passes_omitted h.run h.entries k sight)
      (λ c. going-same c (read_row (rows.contact 3) bytes) refl)
      (λ c. refl)
