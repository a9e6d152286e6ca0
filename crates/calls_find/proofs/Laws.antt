-- What the loops over all entries come to: the definitions. And whether a contact's entry is found.
-- Assumes nothing.
use Prim.Native.Nat.{ℕ, zero, suc}
use native.Mathlib.Omega.{arith}
use mathlib.Core.List.{List, [], ◌∷◌}
use mathlib.Core.Bool.{Bool, true, false, cond, ◌&&◌, ◌||◌}
use mathlib.Core.Option.{some}
use mathlib.Core.Path.{◌≡◌, refl, ◌∙◌, ap}
use lib.ListN.{length}
use Rattle.std.specs.Prelude.{Some, is_some}
use Rattle.std.specs.List.{find, count_by, list_any}
use Rattle.std.proofs.lemmas.List.Recursion.{is_count_by}
use Rattle.rows.specs.Checks.{any}
use Rattle.rows.proofs.Tests.{or_swap}
use Rattle.store.specs.declared.Entry.{Entry}
use Rattle.store.specs.Kinds.{CONTACT, QUEUED}
use Rattle.store.specs.Store.{entry_at, is_of, any_below, before, contact_in}
use Rattle.store.specs.Line.{queued_of}
use Rattle.calls_find.specs.Sought as sought
use Rattle.calls_find.specs.Sought.{sought_of, sought_in, queued_among, queued_found}
use Rattle.calls_find.proofs.Halves.{Rises, found-rising}

-- ---- a contact's first entry: what a search for it finds
pub first_found : (k : ℕ) (es : List Entry) → find (is_of CONTACT k) es ≡ sought_in es k
first_found k [] = refl
first_found k (e ∷ es) = go (is_of CONTACT k e) (first_found k es)
  where
    go : (b : Bool) → find (is_of CONTACT k) es ≡ sought_in es k → cond b (Some e) (find (is_of CONTACT k) es) ≡ sought_of (cond b (some e) (contact_in es k))
    go true later = refl
    go false later = later

-- one is found if an entry of the contact is among them
any-front : (n : ℕ) (p : ℕ → Bool) → any_below (suc n) p ≡ (p 0 || any_below n (λ j. p (suc j)))
any-front zero p = refl
any-front (suc n) p = ap (λ b. p (suc n) || b) (any-front n p) ∙ or_swap (p (suc n)) (p 0) (any_below n (λ j. p (suc j)))

pub found-is : (k : ℕ) (es : List Entry) → is_some (sought_in es k) ≡ before es (length es) CONTACT k
found-is k [] = refl
found-is k (e ∷ es) = rw (any-front (length es) (λ j. is_of CONTACT k (entry_at (e ∷ es) j))) (go (is_of CONTACT k e) (found-is k es))
  where
    go : (b : Bool) → is_some (sought_in es k) ≡ before es (length es) CONTACT k → is_some (sought_of (cond b (some e) (contact_in es k))) ≡ (b || before es (length es) CONTACT k)
    go true later = refl
    go false later = later

-- ---- queued rows counted
pub queued-is : (k : ℕ) (es : List Entry) → queued_of k es ≡ count_by (is_of QUEUED k) es
queued-is k es = is_count_by (queued_of k) (is_of QUEUED k) refl (λ x xs. grind arith) es

-- ---- a queued row whose number is found
pub any-is : {A : Type 0} (p : A → Bool) (xs : List A) → list_any p xs ≡ any p xs
any-is p [] = refl
any-is p (x ∷ xs) = ap (λ b. p x || b) (any-is p xs)

-- of no numbers none is found
of-none : (k : ℕ) (es : List Entry) → false ≡ queued_found k [] es
unfolding sought.found_in
of-none k [] = refl
of-none k (e ∷ es) = go (is_of QUEUED k e) (of-none k es)
  where
    go : (b : Bool) → false ≡ queued_found k [] es → false ≡ ((b && false) || queued_found k [] es)
    go true later = later
    go false later = later

pub none_found : (k : ℕ) (numbers : List ℕ) (es : List Entry) → length numbers ≡ 0 → false ≡ queued_found k numbers es
none_found k [] es empty = of-none k es
none_found k (n ∷ numbers) es empty = absurd (omega arith)

-- where the numbers rise, it is a queued row with one of them
pub among-rising : (k : ℕ) (numbers : List ℕ) → Rises numbers → (es : List Entry) → queued_found k numbers es ≡ queued_among k numbers es
among-rising k numbers up [] = refl
among-rising k numbers up (e ∷ es) = λ i. (is_of QUEUED k e && found-rising numbers up e.msgno i) || among-rising k numbers up es i
