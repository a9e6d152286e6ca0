-- Where a queued row's contact is found: what is compared and what the searches answer, together.
-- Assumes nothing.
use Prim.Native.Nat.{ℕ, ◌-◌, ◌≤◌, ◌<◌}
use native.Mathlib.Nat.{sub-zero}
use native.Mathlib.Omega.{arith}
use native.Mathlib.Decide.{dec_le}
use mathlib.Core.List.{List}
use mathlib.Core.Bool.{Bool, true, false, cond}
use mathlib.Core.Path.{◌≡◌, refl, sym, ◌∙◌, ap, subst}
use lib.Dec.{leb, ltb, T, leb→le, ltb→lt, nltb→le}
use Rattle.store.specs.declared.Entry.{Entry}
use Rattle.store.specs.declared.Wanted.{Wanted}
use Rattle.store.specs.Kinds.{CONTACT}
use Rattle.store.specs.Store.{entry_at, is_of}
use Rattle.store.specs.Find.{is_wanted, first_of}
use Rattle.store.proofs.Tests.{truth, false-not, both, pair}
use Rattle.store.proofs.Searches.{FirstAt, first-at}
use Rattle.restore_across.specs.Across.{contact_of, earlier, place_or, tried, near_limit, far_limit, chosen, OwnerAt}

earlier-low : (a b : ℕ) → earlier a b ≤ b
earlier-low a b = go (leb a b) refl
  where
    go : (t : Bool) → leb a b ≡ t → cond t a b ≤ b
    go true is = leb→le a b (truth (leb a b) is)
    go false is = omega arith

module _ (es : List Entry) (e : Entry) where
  abbrev is_its : ℕ → Bool
  is_its m = is_of CONTACT e.id (entry_at es m)

  abbrev wanted : ℕ → Bool
  wanted m = is_wanted (contact_of e) (entry_at es m)

  its : (m : ℕ) → T (wanted m) → T (is_its m)
  its m t = (both (is_its m) true t).0

  wants : (m : ℕ) → T (is_its m) → T (wanted m)
  wants m t = pair (is_its m) true t tt

  -- from `near` on, and else from the start
  searched : (upto near : ℕ) → near ≤ upto
      → (let p = first_of es (contact_of e) near (upto - near) in let far = cond (ltb p upto) 0 near in let o = first_of es (contact_of e) 0 far in OwnerAt es e upto (cond (ltb p upto) p (cond (ltb o far) o upto)))
  searched upto near low = go (ltb p upto) refl
    where
      p : ℕ
      p = first_of es (contact_of e) near (upto - near)

      front : FirstAt wanted near (upto - near) p
      front = first-at wanted near (upto - near)

      back : FirstAt wanted 0 near (first_of es (contact_of e) 0 near)
      back = first-at wanted 0 near

      behind : p < upto → OwnerAt es e upto p
      behind l = record { hit = λ x. its p (front.hit (omega arith)); misses = λ over. absurd (omega arith) }

      none : upto ≤ p → near ≤ first_of es (contact_of e) 0 near → (m : ℕ) → m < upto → T (is_its m) → ⊥
      none over none-back m l t = go (dec_le near m)
        where
          go : Dec (near ≤ m) → ⊥
          go (yes a) = front.misses m a (omega arith) (wants m t)
          go (no a) = back.misses m (omega arith) (omega arith) (wants m t)

      before : upto ≤ p → (t : Bool) → ltb (first_of es (contact_of e) 0 near) near ≡ t → OwnerAt es e upto (cond t (first_of es (contact_of e) 0 near) upto)
      before over true is =
          let l = ltb→lt (first_of es (contact_of e) 0 near) near (truth (ltb (first_of es (contact_of e) 0 near) near) is) in
          record { hit = λ x. its (first_of es (contact_of e) 0 near) (back.hit (omega arith)); misses = λ o. absurd (omega arith) }
      before over false is =
          record { hit = λ x. absurd (omega arith); misses = λ o. none over (nltb→le (first_of es (contact_of e) 0 near) near (false-not (ltb (first_of es (contact_of e) 0 near) near) is)) }

      go : (t : Bool) → ltb p upto ≡ t → (let far = cond t 0 near in OwnerAt es e upto (cond t p (cond (ltb (first_of es (contact_of e) 0 far) far) (first_of es (contact_of e) 0 far) upto)))
      go true is = behind (ltb→lt p upto (truth (ltb p upto) is))
      go false is = before (nltb→le p upto (false-not (ltb p upto) is)) (ltb (first_of es (contact_of e) 0 near) near) refl

  -- at a place where it is thought to stand, or else by a search
  found_at : (upto latest p : ℕ) → (p < upto → T (is_its p))
      → (let near = near_limit p latest upto in let q = first_of es (contact_of e) near (upto - near) in let far = far_limit p q near upto in OwnerAt es e upto (chosen p q (first_of es (contact_of e) 0 far) far upto))
  found_at upto latest p hit = go (ltb p upto) refl
    where
      go : (t : Bool) → ltb p upto ≡ t → (let near = cond t upto (earlier latest upto) in let q = first_of es (contact_of e) near (upto - near) in let far = cond t 0 (cond (ltb q upto) 0 near) in
          let o = first_of es (contact_of e) 0 far in OwnerAt es e upto (cond t p (cond (ltb q upto) q (cond (ltb o far) o upto))))
      go true is = let l = ltb→lt p upto (truth (ltb p upto) is) in record { hit = hit; misses = λ over. absurd (omega arith) }
      go false is = searched upto (earlier latest upto) (earlier-low latest upto)

  -- what is compared is the contact
  place-hit : (place upto other : ℕ) → (other < upto → T (is_its other)) → place_or e (entry_at es place) place upto other < upto → T (is_its (place_or e (entry_at es place) place upto other))
  place-hit place upto other hit = go (ltb place upto) (is_its place) refl
    where
      go : (l t : Bool) → is_its place ≡ t → cond l (cond t place other) other < upto → T (is_its (cond l (cond t place other) other))
      go true true is low = truth (is_its place) is
      go true false is low = hit low
      go false t is low = hit low

  tried-hit : (latest hint upto : ℕ) → (let p = tried e (entry_at es latest) latest (entry_at es hint) hint upto in p < upto → T (is_its p))
  tried-hit latest hint upto = place-hit latest upto (place_or e (entry_at es hint) hint upto upto) (place-hit hint upto upto (λ l. absurd (omega arith)))

  pub owner-is : (upto latest hint : ℕ) (a b : Entry) (p near q far o r : ℕ) (w : Wanted) → w ≡ contact_of e → a ≡ entry_at es latest → b ≡ entry_at es hint → p ≡ tried e a latest b hint upto
      → near ≡ near_limit p latest upto → q ≡ first_of es w near (upto - near) → far ≡ far_limit p q near upto → o ≡ first_of es w 0 (far - 0) → r ≡ chosen p q o far upto → OwnerAt es e upto r
  owner-is upto latest hint a b p near q far o r w is-w is-a is_b is-p is-near is-q is-far is-o is-r =
      let hit : p < upto → T (is_its p) = subst (λ (x : ℕ). x < upto → T (is_its x)) (sym (is-p ∙ (λ k. tried e (is-a k) latest (is_b k) hint upto))) (tried-hit latest hint upto) in
      let q' : q ≡ first_of es (contact_of e) (near_limit p latest upto) (upto - near_limit p latest upto) = is-q ∙ (λ k. first_of es (is-w k) (is-near k) (upto - is-near k)) in
      let far' : far ≡ far_limit p (first_of es (contact_of e) (near_limit p latest upto) (upto - near_limit p latest upto)) (near_limit p latest upto) upto = is-far ∙ (λ k. far_limit p (q' k) (is-near k) upto) in
      let o' = is-o ∙ (ap (first_of es w 0) (sub-zero far) ∙ (λ j. first_of es (is-w j) 0 (far' j))) in
      subst (OwnerAt es e upto) (sym (is-r ∙ (λ k. chosen p (q' k) (o' k) (far' k) upto))) (found_at upto latest p hit)
