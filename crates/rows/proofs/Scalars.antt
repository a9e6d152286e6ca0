-- The grammar accepts the bytes of every text, and no others; and no two texts have the same bytes.
-- Assumes nothing.
use Prim.Native.Nat.{ℕ, zero, suc, ◌+◌, ◌*◌, ◌-◌, ◌≤◌, ◌<◌}
use mathlib.Core.List.{List, [], ◌∷◌, ◌++◌, append_assoc, append_cancel_left, head-eq_of_cons-eq, tail-eq_of_cons-eq}
use mathlib.Core.Bool.{Bool, true, false, cond, and-eq-true_iff, and-false, true≢false}
use mathlib.Core.Option.{some}
use mathlib.Core.Path.{◌≡◌, refl, sym, ap, ◌∙◌}
use native.Mathlib.Omega.{arith}
use lib.Dec.{leb}
use lib.ListN.{length, length-append}
use borrow.Author.Tests.{leb-true, leb-false, le-leb, lt-leb}
use Rattle.rows.specs.Utf8.{Limits, Shape, shapes, is_in, choose, following, or_no, completes, utf8}
use Rattle.rows.specs.Scalars.{Scalar, Scalars, Row, table, encode_by, encode, encode_all, Text, Utf8Laws}

-- a & b & c is (a, (b, c))
infixr 2 ◌&◌
◌&◌ : {A B : Type 0} → A → B → A × B
a & b = (a, b)

split : {A : Type 0} (n m : ℕ) → (n ≤ m → A) → (m < n → A) → A
split {A} n m f g = go (leb n m) refl
  where
    go : (t : Bool) → leb n m ≡ t → A
    go true e = f (leb-true n m e)
    go false e = g (leb-false n m e)

-- ---- to prove P of the encoding of n, prove it of the bytes in each row of the table, for an n of that row
abbrev Each : ℕ → List Row → ℕ → (List ℕ → Type 0) → Type 0
Each from [] n P = from ≤ n → P []
Each from (r ∷ rs) n P = (from ≤ n → n ≤ r.last → P (r.bytes n)) × Each (suc r.last) rs n P

by_rows : (from : ℕ) (rs : List Row) (n : ℕ) (P : List ℕ → Type 0) → Each from rs n P → from ≤ n → P (encode_by rs n)
by_rows from [] n P e l = e l
by_rows from (r ∷ rs) n P e l =
    split n r.last (λ h. rw (le-leb n r.last h) (e.0 l h)) (λ h. rw (lt-leb n r.last h) (by_rows (suc r.last) rs n P e.1 h))

by-table : (n : ℕ) (P : List ℕ → Type 0) → Each 0 table n P → P (encode n)
unfolding encode
by-table n P e = by_rows 0 table n P e (omega arith)

-- ---- what the grammar accepts is a text
abbrev In : Limits → ℕ → Type 0
In r b = (r.lo ≤ b) × (b ≤ r.hi)

in-limits : (r : Limits) (b : ℕ) → is_in r b ≡ true → In r b
in-limits r b e = let t = (and-eq-true_iff _ _).0 e in (leb-true r.lo b t.0, leb-true b r.hi t.1)

-- lists of one length, related place by place
abbrev Pointwise : {A : Type 0} → (A → ℕ → Type 0) → List A → List ℕ → Type 0
Pointwise R [] [] = Unit
Pointwise R [] (y ∷ ys) = ⊥
Pointwise R (x ∷ xs) [] = ⊥
Pointwise R (x ∷ xs) (y ∷ ys) = R x y × Pointwise R xs ys

equal : (xs ys : List ℕ) → Pointwise ◌≡◌ xs ys → xs ≡ ys
equal [] [] e = refl
equal [] (y ∷ ys) e = absurd e
equal (x ∷ xs) [] e = absurd e
equal (x ∷ xs) (y ∷ ys) e = rw (e.0, equal xs ys e.1)

-- the number that a character's bytes hold: to the base 64, less their marks (0x3080 is 0xC0 * 64 + 0x80)
abbrev value : List ℕ → ℕ
value [] = 0
value (b ∷ []) = b
value (b ∷ c ∷ []) = b * 64 + c - 0x3080
value (b ∷ c ∷ d ∷ []) = (b * 64 + c) * 64 + d - 0xE2080
value (b ∷ c ∷ d ∷ e ∷ bs) = ((b * 64 + c) * 64 + d) * 64 + e - 0x3C82080

-- no bytes, or those of one scalar value
abbrev Whole : List ℕ → Type 0
Whole [] = Unit
Whole (b ∷ bs) = Scalar (value (b ∷ bs)) × Each 0 table (value (b ∷ bs)) (λ cs. Pointwise ◌≡◌ cs (b ∷ bs))

-- the bytes bs and any within the limits after them are whole
abbrev Takes : List Limits → List ℕ → Type 0
Takes [] bs = Whole bs
Takes (r ∷ rs) bs = (b : ℕ) → In r b → Takes rs (bs ++ b ∷ [])

abbrev TakesAll : List Shape → Type 0
TakesAll [] = Unit
TakesAll (s ∷ ss) = Takes (s.first ∷ s.more) [] × TakesAll ss

-- bytes within a shape are those of a scalar value: one `omega` for each shape
takes-shapes : TakesAll shapes
takes-shapes = omega arith & omega arith & omega arith & omega arith & omega arith & omega arith & omega arith & omega arith & omega arith & tt

before : (cs bs : List ℕ) → Whole cs → Text bs → Text (cs ++ bs)
before [] bs w t = t
before (c ∷ cs) bs w t =
    let n = value (c ∷ cs) in
    let e : encode n ≡ c ∷ cs = equal (encode n) (c ∷ cs) (by-table n (λ ds. Pointwise ◌≡◌ ds (c ∷ cs)) w.1) in
    record { scalars = n ∷ t.scalars; valid = (w.0, t.valid); encoded = rw (e, t.encoded) }

-- b, the first byte of a character, chooses a shape
module _ {A : Type 0} (b : ℕ) (P : List Limits → Bool) (k : (rs : List Limits) → Takes rs (b ∷ []) → P rs ≡ true → A) where
  begin : (ss : List Shape) → TakesAll ss → or_no (choose ss b) P ≡ true → A
  begin [] t e = absurd (true≢false (sym e))
  begin (s ∷ ss) t e = go (is_in s.first b) refl (begin ss t.1) e
    where
      go : (c : Bool) → is_in s.first b ≡ c → (or_no (choose ss b) P ≡ true → A) → or_no (cond c (some s.more) (choose ss b)) P ≡ true → A
      go true h later e = k s.more (t.0 b (in-limits s.first b h)) e
      go false h later e = later e

-- bs, where cs is what has come of a character, and rs the limits of what is to come
read : (bs : List ℕ) (rs : List Limits) (cs : List ℕ) → Takes rs cs → completes rs bs ≡ true → Text (cs ++ bs)
unfolding completes following
read [] [] cs t e = before cs [] t (record { scalars = []; valid = tt; encoded = refl })
read [] (r ∷ rs) cs t e = absurd (true≢false (sym e))
read (b ∷ bs) [] cs t e = before cs (b ∷ bs) t (begin b (λ rs. completes rs bs) (λ rs. read bs rs (b ∷ [])) shapes takes-shapes e)
read (b ∷ bs) (r ∷ rs) cs t e =
    let h = (and-eq-true_iff (is_in r b) (completes rs bs)).0 e in
    rw append_assoc at (read bs rs (cs ++ b ∷ []) (t b (in-limits r b h.0)) h.1)

pub utf8-text : (bs : List ℕ) → utf8 bs ≡ true → Text bs
utf8-text bs e = read bs [] [] tt e

-- ---- the grammar accepts every text
-- the bytes are within shape i, and the first of them is past the shapes before it
abbrev Fits : ℕ → List Shape → List ℕ → Type 0
Fits i [] cs = ⊥
Fits i (s ∷ ss) [] = ⊥
Fits zero (s ∷ ss) (c ∷ cs) = Pointwise In (s.first ∷ s.more) (c ∷ cs)
Fits (suc i) (s ∷ ss) (c ∷ cs) = (s.first.hi < c) × Fits i ss (c ∷ cs)

-- the last scalar values of the nine shapes are 0x7F, 0x7FF, 0xFFF, 0xCFFF, 0xD7FF, 0xFFFF, 0x3FFFF, 0xFFFFF and 0x10FFFF
fits-shape : (n : ℕ) → Scalar n → (i : ℕ) × Fits i shapes (encode n)
fits-shape n s = by-table n (λ cs. (i : ℕ) × Fits i shapes cs)
    ((λ l h. (0, omega arith))
    & (λ l h. (1, omega arith))
    & (λ l h. split n 0xFFF (λ k. (2, omega arith)) (λ k2.
    split n 0xCFFF (λ k. (3, omega arith)) (λ k3.
    split n 0xD7FF (λ k. (4, omega arith)) (λ k4.
    split n 0xDFFF (λ k. absurd (s.no_surrogate k4 k)) (λ k5. (5, omega arith))))))
    & (λ l h. split n 0x3FFFF (λ k. (6, omega arith)) (λ k6.
    split n 0xFFFFF (λ k. (7, omega arith)) (λ k7. (8, omega arith))))
    & (λ l. absurd (omega (arith, s.code_point))))

limits-in : (r : Limits) (b : ℕ) → In r b → is_in r b ≡ true
limits-in r b h = rw (le-leb r.lo b h.0, le-leb b r.hi h.1)

module _ (rest : List ℕ) where
  complete : (rs : List Limits) (cs : List ℕ) → Pointwise In rs cs → completes rs (cs ++ rest) ≡ completes [] rest
  unfolding completes
  complete [] [] m = refl
  complete [] (c ∷ cs) m = absurd m
  complete (r ∷ rs) [] m = absurd m
  complete (r ∷ rs) (c ∷ cs) m = rw (limits-in r c m.0) (complete rs cs m.1)

  chosen : (i : ℕ) (ss : List Shape) (c : ℕ) (cs : List ℕ) → Fits i ss (c ∷ cs)
      → or_no (choose ss c) (λ rs. completes rs (cs ++ rest)) ≡ completes [] rest
  chosen i [] c cs f = absurd f
  chosen zero (s ∷ ss) c cs f = rw (limits-in s.first c f.0) (complete s.more cs f.1)
  chosen (suc i) (s ∷ ss) c cs f = rw (lt-leb c s.first.hi f.0, and-false) (chosen i ss c cs f.1)

  passes : (i : ℕ) (cs : List ℕ) → Fits i shapes cs → completes [] (cs ++ rest) ≡ completes [] rest
  unfolding completes following
  passes i [] f = absurd f
  passes i (c ∷ cs) f = chosen i shapes c cs f

accepts : (ns : List ℕ) → Scalars ns → utf8 (encode_all ns) ≡ true
unfolding completes
accepts [] s = refl
accepts (n ∷ ns) s = let f = fits-shape n s.0 in passes (encode_all ns) f.0 (encode n) f.1 ∙ accepts ns s.1

pub text-utf8 : (bs : List ℕ) → Text bs → utf8 bs ≡ true
text-utf8 bs t = rw (← t.encoded) (accepts t.scalars t.valid)

-- ---- no two texts have the same bytes
-- equal place by place, as far as both go
abbrev Agree : List ℕ → List ℕ → Type 0
Agree [] ys = Unit
Agree (x ∷ xs) [] = Unit
Agree (x ∷ xs) (y ∷ ys) = (x ≡ y) × Agree xs ys

agree : (xs ys xr yr : List ℕ) → xs ++ xr ≡ ys ++ yr → Agree xs ys
agree [] ys xr yr e = tt
agree (x ∷ xs) [] xr yr e = tt
agree (x ∷ xs) (y ∷ ys) xr yr e = (head-eq_of_cons-eq e, agree xs ys xr yr (tail-eq_of_cons-eq e))

one-scalar : (n m : ℕ) → Scalar n → Scalar m → Agree (encode n) (encode m) → n ≡ m
one-scalar n m s t =
    by-table m (λ ds. Agree (encode n) ds → n ≡ m) (by-table n (λ cs. Each 0 table m (λ ds. Agree cs ds → n ≡ m))
    (omega arith & omega arith & omega arith & omega arith & omega arith))

some_byte : (n : ℕ) (bs : List ℕ) → Scalar n → encode n ++ bs ≡ [] → ⊥
some_byte n bs s e = omega (arith, by-table n (λ cs. 0 < length cs) (omega arith), simp length-append at (ap length e))

one_list : (ns ms : List ℕ) → Scalars ns → Scalars ms → encode_all ns ≡ encode_all ms → ns ≡ ms
one_list [] [] s t e = refl
one_list [] (m ∷ ms) s t e = absurd (some_byte m (encode_all ms) t.0 (sym e))
one_list (n ∷ ns) [] s t e = absurd (some_byte n (encode_all ns) s.0 e)
one_list (n ∷ ns) (m ∷ ms) s t e =
    let h : n ≡ m = one-scalar n m s.0 t.0 (agree (encode n) (encode m) (encode_all ns) (encode_all ms) e) in
    let r : encode m ++ encode_all ns ≡ encode m ++ encode_all ms = rw h at e in
    rw (h, one_list ns ms s.1 t.1 (append_cancel_left (encode m) _ _ r))

pub one-text : (bs : List ℕ) (s t : Text bs) → s.scalars ≡ t.scalars
one-text bs s t = one_list s.scalars t.scalars s.valid t.valid (s.encoded ∙ sym t.encoded)

pub utf8-laws : Utf8Laws
utf8-laws = record { utf8-text = utf8-text; text-utf8 = text-utf8; one-text = one-text }

-- ---- two of the examples of RFC 3629, section 7
alpha : encode_all (0x41 ∷ 0x2262 ∷ 0x391 ∷ 0x2E ∷ []) ≡ 0x41 ∷ 0xE2 ∷ 0x89 ∷ 0xA2 ∷ 0xCE ∷ 0x91 ∷ 0x2E ∷ []
unfolding encode
alpha = refl

stump : encode_all (0xFEFF ∷ 0x233B4 ∷ []) ≡ 0xEF ∷ 0xBB ∷ 0xBF ∷ 0xF0 ∷ 0xA3 ∷ 0x8E ∷ 0xB4 ∷ []
unfolding encode
stump = refl
