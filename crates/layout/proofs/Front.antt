-- Forms that take the first n bytes are lawful: runs, numbers, codes.
-- Assumes nothing.
use Prim.Native.Nat.{ℕ, zero, suc, ◌+◌, ◌*◌, ◌/◌, ◌%◌, ◌^◌, ◌≤◌, ◌<◌}
use mathlib.Core.List.{List, [], ◌∷◌, ◌++◌}
use mathlib.Core.Bool.{Bool, true, false, cond, true≢false}
use mathlib.Core.Option.{Option, none, some, some-injective, none-ne-some}
use mathlib.Core.Path.{◌≡◌, refl, sym, ap, ◌∙◌, subst}
use native.Mathlib.Omega.{arith}
use native.Mathlib.Nat.{pow-suc}
use lib.ListN.{length, get_or, take, drop, replicate, length-append, take-append-drop, length-drop, length-replicate, get_or-append}
use lib.Seq.{length-take-le, take_at, drop_at, get_or_at, take_all, take-suc}
use lib.Dec.{leb, eqb, lit<}
use borrow.Author.Tests.{leb-true, le-leb, eqb-true}
use Rattle.layout.specs.Questions.{FIELD}
use Rattle.layout.specs.Read.{Read, value, refused, after}
use Rattle.layout.specs.Veil.{Sensitivity, Level, hides, hide, zeros}
use Rattle.layout.specs.Form.{bytes, code, or_refused, big_endian, bytes_of, number, one, letter, flag_of, flag_byte, flag}
use Rattle.layout.specs.RowLaws.{Bytes}
use Rattle.layout.specs.Width.{WidthLaws}
use Rattle.layout.proofs.Hide.{as_long, hide-false, seam-cut, take-zeros}
use Rattle.layout.proofs.Lawful.{ReadAlike, Outcome, same, Blinds, Lawful, value≢refused, passed}

-- ---- forms that take the first n bytes, if there are so many, and go on by s
pub bytes_take : (n : ℕ) (row : List ℕ) → Bytes row → Bytes (take n row)
bytes_take zero row by i = lit< tt
bytes_take (suc n) [] by i = by i
bytes_take (suc n) (x ∷ xs) by zero = by 0
bytes_take (suc n) (x ∷ xs) by (suc i) = bytes_take n xs (λ j. by (suc j)) i

module _ {B : Type 0} (n : ℕ) (s : List ℕ → List ℕ → Read B) where
  abbrev pub read_front : List ℕ → Read B
  read_front row = cond (leb n (length row)) (s (take n row) (drop n row)) (refused FIELD)

  -- it is read as its n bytes are
  pub front-in : (t rest : List ℕ) → length t ≡ n → read_front (t ++ rest) ≡ s t rest
  front-in t rest l = rw (le-leb n (length (t ++ rest)) (omega (arith, length-append t rest)), take_at t rest n l, drop_at t rest n l)

  pub record Front (row : List ℕ) (b : B) (rest : List ℕ) : Type 0 where
    pub there : n ≤ length row
    pub long : length (take n row) ≡ n
    pub read : s (take n row) (drop n row) ≡ value b rest

  pub front : (row : List ℕ) (b : B) (rest : List ℕ) → read_front row ≡ value b rest → Front row b rest
  front row b rest e =
      let p = passed (leb n (length row)) (s (take n row) (drop n row)) 4 b rest e in
      let h = leb-true n (length row) p.test in
      record { there = h; long = length-take-le n row h; read = p.then }

  module _ (m : List ℕ → List Bool) where
    abbrev pub mask_front : List ℕ → List Bool
    mask_front row = cond (leb n (length row)) (m (take n row)) []

    pub front-short : ((t : List ℕ) → length t ≡ n → length (m t) ≤ n) → (row : List ℕ) → length (mask_front row) ≤ length row
    front-short h row = go (leb n (length row)) refl
      where
        go : (t : Bool) → leb n (length row) ≡ t → length (cond t (m (take n row)) []) ≤ length row
        go true e = omega (arith, leb-true n (length row) e, h (take n row) (length-take-le n row (leb-true n (length row) e)))
        go false e = omega arith

    -- once the n bytes are there
    pub front-mask : (row : List ℕ) → n ≤ length row → mask_front row ≡ m (take n row)
    front-mask row h = ap (λ (t : Bool). cond t (m (take n row)) []) (le-leb n (length row) h)

    module _ (lv : Level) (R : B → B → Type 0) (r : (b : B) → R b b) where
      pub front-blind : ((t t' rest rest' : List ℕ) (k : B → List ℕ → List Bool) → length t ≡ n → length t ≡ length t'
          → hide (m t ++ after (s t rest) k) (t ++ rest) ≡ hide (m t ++ after (s t rest) k) (t' ++ rest') → Outcome lv R k (s t rest) (s t' rest') (m t) (m t'))
          → Blinds lv R read_front read_front mask_front mask_front
      front-blind h row row' k e =
          let len = as_long (mask_front row ++ after (read_front row) k) row row' e in
          go (leb n (length row)) (leb n (length row')) refl (ap (λ (x : ℕ). leb n x) (sym len)) e
        where
          go : (t t' : Bool) → leb n (length row) ≡ t → t' ≡ t
              → hide (cond t (m (take n row)) [] ++ after (cond t (s (take n row) (drop n row)) (refused FIELD)) k) row ≡ hide (cond t (m (take n row)) [] ++ after (cond t (s (take n row) (drop n row)) (refused FIELD)) k) row'
              → Outcome lv R k (cond t (s (take n row) (drop n row)) (refused FIELD)) (cond t' (s (take n row') (drop n row')) (refused FIELD)) (cond t (m (take n row)) []) (cond t' (m (take n row')) [])
          go true true p q e =
              let K = m (take n row) ++ after (s (take n row) (drop n row)) k in
              let h1 = leb-true n (length row) p in
              let len = as_long K row row' e in
              h (take n row) (take n row') (drop n row) (drop n row') k (length-take-le n row h1) (length-take-le n row h1 ∙ sym (length-take-le n row' (omega arith)))
              (ap (λ (x : List ℕ). hide K x) (take-append-drop n row) ∙ e ∙ sym (ap (λ (x : List ℕ). hide K x) (take-append-drop n row')))
          go false false p q e = same (record { alike = refl; masks = refl })
          go true false p q e = absurd (true≢false (sym q))
          go false true p q e = absurd (true≢false q)

-- what a reading that succeeds gives
abbrev pub got : {B : Type 0} → B → Read B → B
got d (value b rest) = b
got d (refused q) = d

abbrev pub left : {B : Type 0} → Read B → List ℕ
left (value b rest) = rest
left (refused q) = []

-- ---- n bytes
pub bytes-lawful : (m : Sensitivity) (n : ℕ) → Lawful (bytes m n)
bytes-lawful m n = record {
  printed = λ b post h. front-in n (λ t rest. value t rest) b post h;
  joins = λ row b rest by e. let f = front n (λ t rest. value t rest) row b rest e in
      let x : take n row ≡ b = ap (λ (r : Read (List ℕ)). got [] r) f.read in
      let y : drop n row ≡ rest = ap (λ (r : Read (List ℕ)). left r) f.read in
      rw (← x, ← y) (take-append-drop n row);
  fitted = λ row b rest by e. let f = front n (λ t rest. value t rest) row b rest e in
      let x : take n row ≡ b = ap (λ (r : Read (List ℕ)). got [] r) f.read in
      rw (← x) f.long;
  granted = λ row b rest by e. refl;
  short = λ lv row. front-short n (λ t rest. value t rest) (λ t. replicate n (hides lv m)) (λ t h. omega (arith, length-replicate n (hides lv m))) row;
  long = λ lv row b rest e. let f = front n (λ t rest. value t rest) row b rest e in
      let y : drop n row ≡ rest = ap (λ (r : Read (List ℕ)). left r) f.read in
      rw (front-mask n (λ t rest. value t rest) (λ t. replicate n (hides lv m)) row f.there, ← y, length-replicate, length-drop) (omega (arith, f.there));
  blind = λ lv. front-blind n (λ t rest. value t rest) (λ t. replicate n (hides lv m)) lv (λ b b'. cond (hides lv m) (zeros (length b)) b ≡ cond (hides lv m) (zeros (length b')) b') (λ b. refl)
      (λ t t' rest rest' k l l' e. let p = seam-cut (replicate n (hides lv m)) (k t rest) t t' rest rest' (length-replicate n (hides lv m) ∙ sym l) l' e in
      same (record { alike = (hidden (hides lv m) t t' l l' p.front, p.back); masks = refl }));
  bare = λ lv row b rest by e h. let f = front n (λ t rest. value t rest) row b rest e in
      let x : take n row ≡ b = ap (λ (r : Read (List ℕ)). got [] r) f.read in
      let h1 : hide (replicate n (hides lv m)) row ≡ row = rw (front-mask n (λ t rest. value t rest) (λ t. replicate n (hides lv m)) row f.there) at h in
      rw (← x) (zeroed (hides lv m) row f.there h1);
}
  where
    hidden : (h : Bool) (t t' : List ℕ) → length t ≡ n → length t ≡ length t' → hide (replicate n h) t ≡ hide (replicate n h) t' → cond h (zeros (length t)) t ≡ cond h (zeros (length t')) t'
    hidden true t t' l l' e = ap zeros l'
    hidden false t t' l l' e = sym (hide-false n t) ∙ e ∙ hide-false n t'

    zeroed : (h : Bool) (row : List ℕ) → n ≤ length row → hide (replicate n h) row ≡ row → cond h (zeros (length (take n row))) (take n row) ≡ take n row
    zeroed true row l e = ap zeros (length-take-le n row l) ∙ sym (take-zeros n row l) ∙ ap (λ (x : List ℕ). take n x) e
    zeroed false row l e = refl

-- ---- n bytes that stand for something
pub record Codes {B : Type 0} (n : ℕ) (of : List ℕ → Option B) (to : B → List ℕ) (ok : B → Type 0) : Type 0 where
  pub long : (b : B) → ok b → length (to b) ≡ n
  pub back : (b : B) → ok b → of (to b) ≡ some b
  pub forth : (bs : List ℕ) (b : B) → Bytes bs → length bs ≡ n → of bs ≡ some b → to b ≡ bs
  pub okay : (bs : List ℕ) (b : B) → Bytes bs → length bs ≡ n → of bs ≡ some b → ok b

record Meant {B : Type 0} (o : Option B) (left rest : List ℕ) (b : B) : Type 0 where
  pub is : o ≡ some b
  pub same : left ≡ rest

meant : {B : Type 0} (q : ℕ) (o : Option B) (left rest : List ℕ) (b : B) → or_refused q left o ≡ value b rest → Meant o left rest b
meant q none l rest b e = absurd (value≢refused (sym e))
meant q (some x) l rest b e = record { is = ap (λ (r : Read _). some (got x r)) e; same = ap (λ (r : Read _). left r) e }

module _ {B : Type 0} (n q : ℕ) (of : List ℕ → Option B) (to : B → List ℕ) (ok : B → Type 0) (c : Codes n of to ok) where
  pub code-lawful : Lawful (code n q of to ok)
  code-lawful = record {
    printed = λ b post h. front-in n (λ t rest. or_refused q rest (of t)) (to b) post (c.long b h) ∙ ap (λ (o : Option B). or_refused q post o) (c.back b h);
    joins = λ row b rest by e. let f = front n (λ t rest. or_refused q rest (of t)) row b rest e in
        let m = meant q (of (take n row)) (drop n row) rest b f.read in
        rw (c.forth (take n row) b (bytes_take n row by) f.long m.is, ← m.same) (take-append-drop n row);
    fitted = λ row b rest by e. let f = front n (λ t rest. or_refused q rest (of t)) row b rest e in
        let m = meant q (of (take n row)) (drop n row) rest b f.read in
        c.okay (take n row) b (bytes_take n row by) f.long m.is;
    granted = λ row b rest by e. refl;
    short = λ lv row. front-short n (λ t rest. or_refused q rest (of t)) (λ t. replicate n false) (λ t h. omega (arith, length-replicate n false)) row;
    long = λ lv row b rest e. let f = front n (λ t rest. or_refused q rest (of t)) row b rest e in
        let m = meant q (of (take n row)) (drop n row) rest b f.read in
        rw (front-mask n (λ t rest. or_refused q rest (of t)) (λ t. replicate n false) row f.there, ← m.same, length-replicate, length-drop) (omega (arith, f.there));
    blind = λ lv. front-blind n (λ t rest. or_refused q rest (of t)) (λ t. replicate n false) lv (λ b b'. b ≡ b') (λ b. refl)
        (λ t t' rest rest' k l l' e.
        let p = seam-cut (replicate n false) (after (or_refused q rest (of t)) k) t t' rest rest' (length-replicate n false ∙ sym l) l' e in
        let eq : t ≡ t' = sym (hide-false n t) ∙ p.front ∙ hide-false n t' in
        same (record { alike = subst (λ (x : List ℕ). ReadAlike (λ b b'. b ≡ b') k (or_refused q rest (of t)) (or_refused q rest' (of x))) eq (go rest rest' k (of t) p.back); masks = refl }));
    bare = λ lv row b rest by e h. refl;
  }
    where
      go : (rest rest' : List ℕ) (k : B → List ℕ → List Bool) (o : Option B) → hide (after (or_refused q rest o) k) rest ≡ hide (after (or_refused q rest o) k) rest' → ReadAlike (λ b b'. b ≡ b') k (or_refused q rest o) (or_refused q rest' o)
      go rest rest' k none e = refl
      go rest rest' k (some b) e = (refl, e)

-- ---- numbers
pub length-bytes_of : (w n : ℕ) → length (bytes_of w n) ≡ w
unfolding bytes_of
length-bytes_of zero n = refl
length-bytes_of (suc w) n = length-append (bytes_of w (n / 256)) (n % 256 ∷ []) ∙ rw (length-bytes_of w (n / 256)) (omega arith)

big-front : (w : ℕ) (xs ys : List ℕ) → w ≤ length xs → big_endian w (xs ++ ys) ≡ big_endian w xs
unfolding big_endian
big-front zero xs ys h = refl
big-front (suc w) xs ys h = rw (big-front w xs ys (omega arith), get_or-append xs ys 0 w h)

pub big-bytes : (w n : ℕ) → n < 256 ^ w → big_endian w (bytes_of w n) ≡ n
unfolding big_endian bytes_of
big-bytes zero n h = omega arith
big-bytes (suc w) n h =
    let p : n < 256 ^ w * 256 = rw pow-suc at h in
    let xs : List ℕ = bytes_of w (n / 256) in
    let l : length xs ≡ w = length-bytes_of w (n / 256) in
    let e : big_endian w (xs ++ n % 256 ∷ []) ≡ n / 256 = big-front w xs (n % 256 ∷ []) (omega arith) ∙ big-bytes w (n / 256) (omega arith) in
    rw (e, get_or_at xs (n % 256) [] 0 w l) (omega arith)

pub big-below : (w : ℕ) (bs : List ℕ) → Bytes bs → big_endian w bs < 256 ^ w
unfolding big_endian
big-below zero bs by = lit< tt
big-below (suc w) bs by = let ih = big-below w bs by in let b = by w in rw pow-suc (omega arith)

-- the first w bytes come back
big-back : (w : ℕ) (bs : List ℕ) → Bytes bs → w ≤ length bs → bytes_of w (big_endian w bs) ≡ take w bs
unfolding bytes_of big_endian
big-back zero bs by h = refl
big-back (suc w) bs by h =
    let x = get_or bs w 0 in
    let p : x < 256 = by w in
    let b = big_endian w bs in
    let e1 : (b * 256 + x) / 256 ≡ b = omega arith in
    let e2 : (b * 256 + x) % 256 ≡ x = omega arith in
    rw (e1, e2, big-back w bs by (omega arith), take-suc bs w 0 h)

pub byte-print : (n : ℕ) → n < 256 → bytes_of 1 n ≡ n ∷ []
unfolding bytes_of
byte-print n h = let e : n % 256 ≡ n = omega arith in rw e

pub width-laws : (w : ℕ) → WidthLaws w
width-laws w = record { long = length-bytes_of w; below = big-below w; read_back = big-bytes w; print-back = big-back w }

pub number-lawful : (w : ℕ) → Lawful (number w)
number-lawful w = code-lawful w 4 (λ bs. some (big_endian w bs)) (bytes_of w) (λ n. n < 256 ^ w) (record {
  long = λ n h. length-bytes_of w n;
  back = λ n h. ap (λ (x : ℕ). some x) (big-bytes w n h);
  forth = λ bs n by l e. let x : big_endian w bs ≡ n = some-injective (big_endian w bs) n e in rw (← x) (big-back w bs by (omega arith) ∙ take_all w bs (omega arith));
  okay = λ bs n by l e. let x : big_endian w bs ≡ n = some-injective (big_endian w bs) n e in rw (← x) (big-below w bs by);
})

-- ---- a byte of a table, which can be told from what it stands for
one_byte : (bs : List ℕ) → length bs ≡ 1 → get_or bs 0 0 ∷ [] ≡ bs
one_byte [] h = absurd (omega arith)
one_byte (x ∷ []) h = refl
one_byte (x ∷ y ∷ ys) h = absurd (omega arith)

pub letter-lawful : {B : Type 0} (q : ℕ) (of : ℕ → Option B) (to : B → ℕ) → ((x : ℕ) (b : B) → of x ≡ some b → to b ≡ x) → Lawful (letter q of to)
letter-lawful q of to h = code-lawful 1 q (one of) (λ b. to b ∷ []) (λ b. of (to b) ≡ some b) (record {
  long = λ b o. refl;
  back = λ b o. o;
  forth = λ bs b by l e. ap (λ (x : ℕ). x ∷ []) (h (get_or bs 0 0) b e) ∙ one_byte bs l;
  okay = λ bs b by l e. rw (h (get_or bs 0 0) b e) e;
})

pub none≢some : {A : Type 0} {a : A} → none ≡ some a → ⊥
none≢some {a = a} e = none-ne-some a e

flag-tells : (x : ℕ) (b : Bool) → flag_of x ≡ some b → flag_byte b ≡ x
flag-tells x b = go (eqb x 0) (eqb x 1) refl refl
  where
    go : (s t : Bool) → eqb x 0 ≡ s → eqb x 1 ≡ t → cond s (some false) (cond t (some true) none) ≡ some b → flag_byte b ≡ x
    go true t p q e = let f : b ≡ false = cc in rw f (sym (eqb-true x 0 p))
    go false true p q e = let f : b ≡ true = cc in rw f (sym (eqb-true x 1 q))
    go false false p q e = absurd (none≢some e)

pub flag-lawful : Lawful flag
flag-lawful = letter-lawful 5 flag_of flag_byte flag-tells
