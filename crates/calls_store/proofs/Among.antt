-- The unacked numbers of the contact left out may be asked apart: with them seen every question is a yes exactly if it is without them, and no queued row of that
-- contact has a number among them. Assumes nothing.
use Prim.Native.Nat.{ℕ, zero, suc, ◌<◌}
use mathlib.Core.List.{List, [], ◌∷◌}
use mathlib.Core.Bool.{Bool, true, false, cond, ◌&&◌, ◌||◌, not}
use mathlib.Core.Option.{Option, none, some}
use mathlib.Core.Path.{◌≡◌, refl, sym, ap, ◌∙◌, subst}
use native.Mathlib.Omega.{arith}
use lib.ListN.{length}
use lib.Dec.{T, leb, ltb, eqb, eqb→eq}
use Rattle.layout.specs.Questions.{CONTACT_BELOW_NEXT, CONTACT_NEW, DEPOSITOR, SLOT_NEW, SLOT_BELOW_LAST}
use Rattle.rows.specs.Checks.{any}
use Rattle.store.specs.declared.Entry.{Entry}
use Rattle.store.specs.Rounds.{Asked, Going, Refused, ask, first_no, Round, turns, rounds}
use Rattle.store.specs.Kinds.{CONTACT, QUEUED, COURIER, Kind, device, contact, queued, courier, unknown, kind_of, Seen, contact_sight}
use Rattle.store.specs.Store.{store_of, entry_at, is_of, seen, before, contact_before, next_in, last_slot, low_depositor, across_as, order, bounds, begun, going}
use Rattle.store.specs.Omitted.{read_omitted, seen_omitted, across_omitted, asked_omitted}
use Rattle.store.proofs.Rounds.{turns-refused, granted-quiet, quiet-granted}
use Rattle.store.proofs.Tests.{truth, same, all_yes, yes-all, both, pair, is-of}
use Rattle.calls_find.specs.Sought.{is_among, queued_among}
use Rattle.store.proofs.ByKind.{Sort, is-device, is-contact, is-queued, is-courier, is-unknown, sort}

-- ---- entries of which none is so
none_any : (p : Entry → Bool) (es : List Entry) → ((j : ℕ) → j < length es → T (not (p (entry_at es j)))) → T (not (any p es))
none_any p [] h = tt
none_any p (e ∷ es) h = go (p e) (h 0 (omega arith)) (none_any p es (λ j b. h (suc j) (omega arith)))
  where
    go : (t : Bool) → T (not t) → T (not (any p es)) → T (not (t || any p es))
    go true x y = x
    go false x y = y

any_none : (p : Entry → Bool) (es : List Entry) → T (not (any p es)) → (j : ℕ) → j < length es → T (not (p (entry_at es j)))
any_none p [] h j b = absurd (omega arith)
any_none p (e ∷ es) h j b = go (p e) refl h j b (any_none p es)
  where
    go : (t : Bool) → p e ≡ t → T (not (t || any p es)) → (j : ℕ) → j < suc (length es)
        → (T (not (any p es)) → (i : ℕ) → i < length es → T (not (p (entry_at es i)))) → T (not (p (entry_at (e ∷ es) j)))
    go true x g j b later = absurd g
    go false x g zero b later = subst (λ (t : Bool). T (not t)) (sym x) tt
    go false x g (suc j) b later = later g j (omega arith)

is-going : (a : Asked) → T (going a) → a ≡ Going
is-going Going h = refl
is-going (Refused q p) h = absurd h

going-is : (a : Asked) → a ≡ Going → T (going a)
going-is a e = subst (λ (x : Asked). T (going x)) (sym e) tt

module _ (run : List ℕ) (es : List Entry) (k sent : ℕ) where
  -- what is seen of contact k, with these unacked numbers; and of any entry
  abbrev pub sight : List ℕ → Seen
  sight ns = contact_sight sent ns

  abbrev look : List ℕ → Entry → Seen
  look ns = seen_omitted run es (is_of CONTACT k) (sight ns)

  -- of a contact that is found: it is k, or another
  abbrev owner : List ℕ → (i id : ℕ) → Seen
  owner ns i id = contact_before es (look ns) i id

  abbrev other : (i id : ℕ) → Seen
  other i id = contact_before es (seen (store_of run es)) i id

  owner-as : (ns : List ℕ) (i id : ℕ) → T (before es i CONTACT id) → owner ns i id ≡ cond (eqb id k) (sight ns) (other i id)
  owner-as ns zero id h = absurd h
  owner-as ns (suc i) id h = go (is_of CONTACT id (entry_at es i)) refl h (owner-as ns i id)
    where
      go : (t : Bool) → is_of CONTACT id (entry_at es i) ≡ t → T (t || before es i CONTACT id)
          → (T (before es i CONTACT id) → owner ns i id ≡ cond (eqb id k) (sight ns) (other i id))
          → cond t (look ns (entry_at es i)) (owner ns i id) ≡ cond (eqb id k) (sight ns) (cond t (seen (store_of run es) (entry_at es i)) (other i id))
      go true p g earlier =
          let is = is-of CONTACT id (entry_at es i) (truth (is_of CONTACT id (entry_at es i)) p) in
          ap (λ (t : Bool). cond t (sight ns) (seen (store_of run es) (entry_at es i)))
          (ap (λ (n : ℕ). eqb n CONTACT && eqb (entry_at es i).id k) is.0 ∙ ap (λ (n : ℕ). eqb n k) is.1)
      go false p g earlier = earlier g

  -- ---- what does not look at the numbers
  module _ (ns : List ℕ) where
    part : {X : Type 0} (show : Seen → X) → show (sight ns) ≡ show (sight []) → (e : Entry) → show (look ns e) ≡ show (look [] e)
    part show p e = go (is_of CONTACT k e)
      where
        go : (t : Bool) → show (cond t (sight ns) (seen (store_of run es) e)) ≡ show (cond t (sight []) (seen (store_of run es) e))
        go true = p
        go false = refl

    next : next_in (look ns) es ≡ next_in (look []) es
    next = go es
      where
        go : (l : List Entry) → next_in (look ns) l ≡ next_in (look []) l
        go [] = refl
        go (e ∷ l) = part (λ x. x.next_contact) refl e

    low : (o : Option ℕ) → low_depositor es (look ns) o ≡ low_depositor es (look []) o
    low none = refl
    low (some d) = ap (λ (n : ℕ). ltb d n) next

    sent-as : (i id : ℕ) → T (before es i CONTACT id) → (owner ns i id).sent_msgno ≡ (owner [] i id).sent_msgno
    sent-as i id h = ap (λ (x : Seen). x.sent_msgno) (owner-as ns i id h) ∙ go (eqb id k) ∙ sym (ap (λ (x : Seen). x.sent_msgno) (owner-as [] i id h))
      where
        go : (t : Bool) → (cond t (sight ns) (other i id)).sent_msgno ≡ (cond t (sight []) (other i id)).sent_msgno
        go true = refl
        go false = refl

    -- ---- one entry: e, the i-th
    module _ (e : Entry) (i : ℕ) where
      abbrev asked_of : List ℕ → Option ℕ
      asked_of l = first_no (across_as es (look l) (kind_of e.kind) e i)

      abbrev here : Bool
      here = is_among k ns e

      record Apart : Type 0 where
        to : asked_of ns ≡ none → (asked_of [] ≡ none) × T (not here)
        from : asked_of [] ≡ none → T (not here) → asked_of ns ≡ none

      -- of another kind than queued
      unqueued : (kind : Kind) → kind_of e.kind ≡ kind → across_as es (look ns) kind e i ≡ across_as es (look []) kind e i → here ≡ false → Apart
      unqueued kind is alike apart = record { to = λ h. (sym equal ∙ h, subst (λ (t : Bool). T (not t)) (sym apart) tt); from = λ h g. equal ∙ h }
        where
          equal : asked_of ns ≡ asked_of []
          equal = ap (λ (x : Kind). first_no (across_as es (look ns) x e i)) is ∙ ap first_no alike ∙ sym (ap (λ (x : Kind). first_no (across_as es (look []) x e i)) is)

      not-queued : (n : ℕ) → e.kind ≡ n → eqb n QUEUED ≡ false → here ≡ false
      not-queued n is no-queued = ap (λ (m : ℕ). eqb m QUEUED && eqb e.id k && any (eqb e.msgno) ns) is ∙ ap (λ (t : Bool). t && eqb e.id k && any (eqb e.msgno) ns) no-queued

      -- ---- a queued one: its contact's numbers, by whether it is k's
      abbrev Free : List ℕ → Type 0
      Free l = T (not (any (eqb e.msgno) l))

      numbers : (l : List ℕ) → T (before es i CONTACT e.id) → (owner l i e.id).unacked ≡ cond (eqb e.id k) l (other i e.id).unacked
      numbers l h = ap (λ (x : Seen). x.unacked) (owner-as l i e.id h) ∙ go (eqb e.id k)
        where
          go : (t : Bool) → (cond t (sight l) (other i e.id)).unacked ≡ cond t l (other i e.id).unacked
          go true = refl
          go false = refl

      split : (t : Bool) (u : List ℕ) → Free (cond t ns u) → Free (cond t [] u) × T (not (t && any (eqb e.msgno) ns))
      split true u h = (tt, h)
      split false u h = (h, tt)

      joined : (t : Bool) (u : List ℕ) → Free (cond t [] u) → T (not (t && any (eqb e.msgno) ns)) → Free (cond t ns u)
      joined true u h g = g
      joined false u h g = h

      of-queued : e.kind ≡ QUEUED → here ≡ eqb e.id k && any (eqb e.msgno) ns
      of-queued is = ap (λ (m : ℕ). eqb m QUEUED && eqb e.id k && any (eqb e.msgno) ns) is

      queued-apart : e.kind ≡ QUEUED → Apart
      queued-apart is = record {
        to = λ h.
            let y = all_yes (across_as es (look ns) queued e i) (sym (at ns) ∙ h) in
            let s = split (eqb e.id k) (other i e.id).unacked (subst Free (numbers ns y.0) y.1.1.0) in (
              at [] ∙ yes-all (across_as es (look []) queued e i) (
                y.0,
                (subst (λ (n : ℕ). T (leb 1 e.msgno && leb e.msgno n)) (sent-as i e.id y.0) y.1.0, (subst Free (sym (numbers [] y.0)) s.0, (y.1.1.1.0, tt))),
              ),
              subst (λ (t : Bool). T (not t)) (sym (of-queued is)) s.1,
            );
        from = λ h g.
            let y = all_yes (across_as es (look []) queued e i) (sym (at []) ∙ h) in
            let free = joined (eqb e.id k) (other i e.id).unacked (subst Free (numbers [] y.0) y.1.1.0) (subst (λ (t : Bool). T (not t)) (of-queued is) g) in
            at ns ∙ yes-all (across_as es (look ns) queued e i) (
              y.0,
              (subst (λ (n : ℕ). T (leb 1 e.msgno && leb e.msgno n)) (sym (sent-as i e.id y.0)) y.1.0, (subst Free (sym (numbers ns y.0)) free, (y.1.1.1.0, tt))),
            );
      }
        where
          at : (l : List ℕ) → asked_of l ≡ first_no (across_as es (look l) queued e i)
          at l = ap (λ (n : ℕ). first_no (across_as es (look l) (kind_of n) e i)) is

      apart : Sort e.kind → Apart
      apart (is-device p) = unqueued device (ap kind_of p) refl (not-queued _ p refl)
      apart (is-contact p) =
          unqueued contact (ap kind_of p) (ap (λ (n : ℕ). ask CONTACT_BELOW_NEXT (ltb e.id n) ∷ ask CONTACT_NEW (not (before es i CONTACT e.id)) ∷ []) next) (not-queued _ p refl)
      apart (is-queued p) = queued-apart p
      apart (is-courier p) =
          unqueued courier (ap kind_of p)
          (ap (λ (t : Bool). ask DEPOSITOR t ∷ ask SLOT_NEW (not (before es i COURIER e.id)) ∷ ask SLOT_BELOW_LAST (ltb e.id last_slot) ∷ [])
          (low (look ns e).depositor ∙ ap (low_depositor es (look [])) (part (λ x. x.depositor) refl e)))
          (not-queued _ p refl)
      apart (is-unknown p) = unqueued unknown p refl (not-queued _ refl (go (eqb e.kind QUEUED) refl))
        where
          go : (t : Bool) → eqb e.kind QUEUED ≡ t → t ≡ false
          go true q = let x : queued ≡ unknown = sym (ap kind_of (eqb→eq e.kind QUEUED (truth (eqb e.kind QUEUED) q))) ∙ p in let z : ◌≡◌ {A = ℕ} 0 1 = cc in absurd (omega arith)
          go false q = refl

    -- ---- all entries
    abbrev among : Bool
    among = queued_among k ns es

    abbrev round : List ℕ → Round
    round l = across_omitted run es (is_of CONTACT k) (sight l)

    each : (i : ℕ) → Apart (entry_at es i) i
    each i = apart (entry_at es i) i (sort (entry_at es i).kind)

    across-apart : (a : Asked) → going (turns (round ns) 0 (length es) a) ≡ going (turns (round []) 0 (length es) a) && not among
    across-apart (Refused q p) = ap going (turns-refused (round ns) 0 (length es) q p) ∙ sym (ap (λ (a : Asked). going a && not among) (turns-refused (round []) 0 (length es) q p))
    across-apart Going = same (going (turns (round ns) 0 (length es) Going)) (going (turns (round []) 0 (length es) Going) && not among) to-parts from_parts
      where
        to-parts : T (going (turns (round ns) 0 (length es) Going)) → T (going (turns (round []) 0 (length es) Going) && not among)
        to-parts h =
            let quiet = (granted-quiet (round ns ∷ []) (length es) (is-going (turns (round ns) 0 (length es) Going) h)).0 in
            pair (going (turns (round []) 0 (length es) Going)) (not among)
            (going-is (turns (round []) 0 (length es) Going) (quiet-granted (round [] ∷ []) (length es) ((λ j a b. ((each j).to (quiet j a b)).0), tt)))
            (none_any (is_among k ns) es (λ j b. ((each j).to (quiet j (omega arith) b)).1))

        from_parts : T (going (turns (round []) 0 (length es) Going) && not among) → T (going (turns (round ns) 0 (length es) Going))
        from_parts h =
            let two = both (going (turns (round []) 0 (length es) Going)) (not among) h in
            let quiet = (granted-quiet (round [] ∷ []) (length es) (is-going (turns (round []) 0 (length es) Going) two.0)).0 in
            going-is (turns (round ns) 0 (length es) Going) (quiet-granted (round ns ∷ []) (length es) ((λ j a b. (each j).from (quiet j a b) (any_none (is_among k ns) es two.1 j b)), tt))

    pub asked-apart : going (asked_omitted run es (is_of CONTACT k) (sight ns)) ≡ going (asked_omitted run es (is_of CONTACT k) (sight [])) && not among
    asked-apart = across-apart (rounds (order (store_of run es) ∷ bounds (store_of run es) ∷ read_omitted run es (is_of CONTACT k) ∷ []) (length es) (begun (store_of run es)))
