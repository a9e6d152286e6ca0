-- What holds of every form, and that layouts of such forms have it.
-- Assumes nothing.
use Prim.Native.Nat.{ℕ, ◌+◌, ◌≤◌}
use mathlib.Core.List.{List, [], ◌++◌, append_assoc, append-nil}
use mathlib.Core.Bool.{Bool, true, false, cond, true≢false}
use mathlib.Core.Option.{Option, none, some}
use mathlib.Core.Path.{◌≡◌, refl, sym, ap, ap₂, ◌∙◌, subst}
use native.Mathlib.Omega.{arith}
use lib.ListN.{length, length-append}
use lib.Seq.{get_or-append-add}
use Rattle.layout.specs.Read.{Read, value, refused, and_then, after, said, first}
use Rattle.layout.specs.Veil.{Level, excused, hide}
use Rattle.layout.specs.Form.{Form, one}
use Rattle.layout.specs.Layout.{Layout, done, field, ask, parse, print, mask_of, blank_of, fits_of, refusal_of, group}
use Rattle.layout.specs.RowLaws.{Bytes}
use Rattle.layout.proofs.Hide.{bare_parts}

-- the same refusal; or values that R relates, with the rests alike under the mask k
module _ {B : Type 0} (R : B → B → Type 0) (k : B → List ℕ → List Bool) where
  abbrev pub ReadAlike : Read B → Read B → Type 0
  ReadAlike (value b rest) (value b' rest') = R b b' × (hide (k b rest) rest ≡ hide (k b rest) rest')
  ReadAlike (refused p) (refused q) = p ≡ q
  ReadAlike (value b rest) (refused q) = ⊥
  ReadAlike (refused p) (value b rest) = ⊥

-- ... and the same mask
pub record Same {B : Type 0} (R : B → B → Type 0) (k : B → List ℕ → List Bool) (x x' : Read B) (m m' : List Bool) : Type 0 where
  pub alike : ReadAlike R k x x'
  pub masks : m' ≡ m

-- refused by a question that is excused
module _ {B : Type 0} (lv : Level) where
  abbrev pub Excused : Read B → Type 0
  Excused (value b rest) = ⊥
  Excused (refused q) = excused lv q ≡ true

pub data Outcome {B : Type 0} (lv : Level) (R : B → B → Type 0) (k : B → List ℕ → List Bool) (x x' : Read B) (m m' : List Bool) : Type 0 where
  same : Same R k x x' m m' → Outcome lv R k x x' m m'
  excuse : Excused lv x → Outcome lv R k x x' m m'
  excuse' : Excused lv x' → Outcome lv R k x x' m m'

-- a reader r with mask m, and another, cannot tell rows apart that are alike under the mask
module _ {B : Type 0} (lv : Level) (R : B → B → Type 0) where
  abbrev pub Blinds : (r r' : List ℕ → Read B) (m m' : List ℕ → List Bool) → Type 0
  Blinds r r' m m' = (row row' : List ℕ) (k : B → List ℕ → List Bool) → hide (m row ++ after (r row) k) row ≡ hide (m row ++ after (r row) k) row' → Outcome lv R k (r row) (r' row') (m row) (m' row')

pub record Lawful {B : Type 0} (f : Form B) : Type 0 where
  -- what is printed is read back, or refused as `refusal` says
  pub printed : (b : B) (post : List ℕ) → f.fits b post → f.read (f.print b ++ post) ≡ said (f.refusal b) b post
  -- what is read is printed as it stood, and could be printed
  pub joins : (row : List ℕ) (b : B) (rest : List ℕ) → Bytes row → f.read row ≡ value b rest → f.print b ++ rest ≡ row
  pub fitted : (row : List ℕ) (b : B) (rest : List ℕ) → Bytes row → f.read row ≡ value b rest → f.fits b rest
  pub granted : (row : List ℕ) (b : B) (rest : List ℕ) → Bytes row → f.read row ≡ value b rest → f.refusal b ≡ none
  -- the mask is as long as what is taken
  pub short : (lv : Level) (row : List ℕ) → length (f.mask lv row) ≤ length row
  pub long : (lv : Level) (row : List ℕ) (b : B) (rest : List ℕ) → f.read row ≡ value b rest → length (f.mask lv row) + length rest ≡ length row
  -- hidden bytes change nothing but what is hidden
  pub blind : (lv : Level) → Blinds lv (λ b b'. f.blank lv b ≡ f.blank lv b') f.read f.read (f.mask lv) (f.mask lv)
  -- where they are 0 so is what is hidden
  pub bare : (lv : Level) (row : List ℕ) (b : B) (rest : List ℕ) → Bytes row → f.read row ≡ value b rest → hide (f.mask lv row) row ≡ row → f.blank lv b ≡ b

-- ---- one field and then another
pub value≢refused : {A : Type 0} {a : A} {rest : List ℕ} {q : ℕ} → value a rest ≡ refused q → ⊥
value≢refused e = let z : ◌≡◌ {A = ℕ} 0 1 = cc in omega arith

pub record Split {A B : Type 0} (x : Read B) (s : B → List ℕ → Read A) (v : A) (rest : List ℕ) : Type 0 where
  pub got : B
  pub mid : List ℕ
  pub first : x ≡ value got mid
  pub second : s got mid ≡ value v rest

pub split : {A B : Type 0} (x : Read B) (s : B → List ℕ → Read A) (v : A) (rest : List ℕ) → and_then x s ≡ value v rest → Split x s v rest
split (value b mid) s v rest e = record { got = b; mid = mid; first = refl; second = e }
split (refused q) s v rest e = absurd (value≢refused (sym e))

pub said-then : {A B : Type 0} (x : Read B) (s : B → List ℕ → Read A) (b : B) (mid : List ℕ) (v : A) (post : List ℕ) (o o' : Option ℕ)
    → x ≡ said o b mid → s b mid ≡ said o' v post → and_then x s ≡ said (first o o') v post
said-then x s b mid v post none o' e h = ap (λ (y : Read _). and_then y s) e ∙ h
said-then x s b mid v post (some q) o' e h = ap (λ (y : Read _). and_then y s) e

masks-join : {A B : Type 0} (s : B → List ℕ → Read A) (n : B → List ℕ → List Bool) (x : Read B) (p : List Bool) (k : A → List ℕ → List Bool)
    → (p ++ after x n) ++ after (and_then x s) k ≡ p ++ after x (λ b rest. n b rest ++ after (s b rest) k)
masks-join s n (value b rest) p k = append_assoc p (n b rest) (after (s b rest) k)
masks-join s n (refused q) p k = append-nil (p ++ [])

module _ {A B : Type 0} (lv : Level) (R : B → B → Type 0) (S : A → A → Type 0) (r r' : List ℕ → Read B) (m m' : List ℕ → List Bool) (s s' : B → List ℕ → Read A) (n n' : B → List ℕ → List Bool) where
  pub then-blind : Blinds lv R r r' m m' → ((b b' : B) → R b b' → Blinds lv S (s b) (s' b') (n b) (n' b'))
      → Blinds lv S (λ row. and_then (r row) s) (λ row. and_then (r' row) s') (λ row. m row ++ after (r row) n) (λ row. m' row ++ after (r' row) n')
  then-blind one two row row' k e =
      let k1 : B → List ℕ → List Bool = λ b rest. n b rest ++ after (s b rest) k in
      let e1 : hide (m row ++ after (r row) k1) row ≡ hide (m row ++ after (r row) k1) row' = rw (masks-join s n (r row) (m row) k) at e in
      go (r row) (r' row') (one row row' k1 e1)
    where
      join : (b b' : B) (rest rest' : List ℕ) → m' row' ≡ m row → Outcome lv S k (s b rest) (s' b' rest') (n b rest) (n' b' rest')
          → Outcome lv S k (s b rest) (s' b' rest') (m row ++ n b rest) (m' row' ++ n' b' rest')
      join b b' rest rest' p (same h) = same (record { alike = h.alike; masks = ap₂ (λ (u v : List Bool). u ++ v) p h.masks })
      join b b' rest rest' p (excuse x) = excuse x
      join b b' rest rest' p (excuse' x) = excuse' x

      both : (x x' : Read B) → ReadAlike R (λ b rest. n b rest ++ after (s b rest) k) x x' → m' row' ≡ m row → Outcome lv S k (and_then x s) (and_then x' s') (m row ++ after x n) (m' row' ++ after x' n')
      both (value b rest) (value b' rest') a p = join b b' rest rest' p (two b b' a.0 rest rest' k a.1)
      both (refused q) (refused q') a p = same (record { alike = a; masks = ap (λ (u : List Bool). u ++ []) p })
      both (value b rest) (refused q) a p = absurd a
      both (refused q) (value b rest) a p = absurd a

      stays : (x : Read B) (s : B → List ℕ → Read A) → Excused lv x → Excused lv (and_then x s)
      stays (value b rest) s h = absurd h
      stays (refused q) s h = h

      go : (x x' : Read B) → Outcome lv R (λ b rest. n b rest ++ after (s b rest) k) x x' (m row) (m' row') → Outcome lv S k (and_then x s) (and_then x' s') (m row ++ after x n) (m' row' ++ after x' n')
      go x x' (same h) = both x x' h.alike h.masks
      go x x' (excuse h) = excuse (stays x s h)
      go x x' (excuse' h) = excuse' (stays x' s' h)

-- ---- layouts
-- its forms are lawful, and each value that it ends in meets P and has, in each field's place, what the field was
pub data Sound {A : Type 0} : (A → Type 0) → Layout A → Type 1 where
  s-done : {P : A → Type 0} {a : A} → P a → Sound P (done a)
  s-field : {B : Type 0} {P : A → Type 0} {f : Form B} {get : A → B} {k : B → Layout A} → Lawful f
      → ((b : B) (rest : List ℕ) → f.fits b rest → Sound (λ v. P v × (get v ≡ b)) (k b)) → Sound P (field f get k)
  s-ask : {P : A → Type 0} {q : ℕ} {t : Bool} {k : Layout A} → Sound P k → Sound P (ask q t k)

-- a field that may be whatever it is
pub s-any : {A B : Type 0} {P : A → Type 0} {f : Form B} {get : A → B} {k : B → Layout A} → Lawful f → ((b : B) → Sound (λ v. P v × (get v ≡ b)) (k b)) → Sound P (field f get k)
s-any law next = s-field law (λ b rest h. next b)

-- two layouts that steer alike whatever is hidden, and end in values that R relates; their forms are lawful
pub data Blind {A : Type 0} (lv : Level) (R : A → A → Type 0) : Layout A → Layout A → Type 1 where
  b-done : {a b : A} → R a b → Blind lv R (done a) (done b)
  b-field : {B : Type 0} {f : Form B} {get : A → B} {k k' : B → Layout A} → Lawful f
      → ((b b' : B) → f.blank lv b ≡ f.blank lv b' → Blind lv R (k b) (k' b')) → Blind lv R (field f get k) (field f get k')
  b-excuse : {q : ℕ} {t t' : Bool} {k k' : Layout A} → excused lv q ≡ true → Blind lv R k k' → Blind lv R (ask q t k) (ask q t' k')
  b-ask : {q : ℕ} {t t' : Bool} {k k' : Layout A} → t ≡ t' → Blind lv R k k' → Blind lv R (ask q t k) (ask q t' k')

-- a field of which nothing is hidden
pub b-plain : {A B : Type 0} {lv : Level} {R : A → A → Type 0} {f : Form B} {get : A → B} {k k' : B → Layout A} → Lawful f → ((b : B) → f.blank lv b ≡ b)
    → ((b : B) → Blind lv R (k b) (k' b)) → Blind lv R (field f get k) (field f get k')
b-plain {B = B} {lv = lv} {R = R} {k = k} {k' = k'} law bared c = b-field law (λ b b' e. subst (λ (x : B). Blind lv R (k b) (k' x)) (sym (bared b) ∙ e ∙ bared b') (c b))

pub record Passed {A : Type 0} (t : Bool) (x y : Read A) : Type 0 where
  pub test : t ≡ true
  pub then : x ≡ y

pub passed : {A : Type 0} (t : Bool) (x : Read A) (q : ℕ) (v : A) (rest : List ℕ) → cond t x (refused q) ≡ value v rest → Passed t x (value v rest)
passed true x q v rest e = record { test = refl; then = e }
passed false x q v rest e = absurd (value≢refused (sym e))

pub bytes_rest : (xs rest row : List ℕ) → xs ++ rest ≡ row → Bytes row → Bytes rest
bytes_rest xs rest row e by i = rw (get_or-append-add xs rest i 0) at (rw (← e) at (by (length xs + i)))

pub record Found (ps : List ℕ) (F : Type 0) (o : Option ℕ) (rest row : List ℕ) : Type 0 where
  pub joins : ps ++ rest ≡ row
  pub fits : F
  pub yes : o ≡ none

module _ {A : Type 0} where
  -- ---- print, then read
  pub printed-in : {l : Layout A} {P : A → Type 0} → Sound P l → (v : A) (post : List ℕ) → fits_of l v post → parse l (print l v ++ post) ≡ said (refusal_of l v) v post
  unfolding parse print refusal_of
  printed-in (s-done p) v post h = ap (λ (x : A). value x post) h
  printed-in (s-field {f = f} {get = get} {k = k} law next) v post h =
      let b = get v in
      let ps = print (k b) v in
      let e : f.read ((f.print b ++ ps) ++ post) ≡ said (f.refusal b) b (ps ++ post) = rw (append_assoc (f.print b) ps post) (law.printed b (ps ++ post) h.0) in
      said-then (f.read ((f.print b ++ ps) ++ post)) (λ b rest. parse (k b) rest) b (ps ++ post) v post (f.refusal b) (refusal_of (k b) v) e
      (printed-in (next b (ps ++ post) h.0) v post h.1)
  printed-in (s-ask {t = true} s) v post h = printed-in s v post h
  printed-in (s-ask {t = false} s) v post h = refl

  -- ---- read, then print
  module _ (v : A) (rest : List ℕ) where
    ends : {l : Layout A} {P : A → Type 0} → Sound P l → (row : List ℕ) → Bytes row → parse l row ≡ value v rest → P v
    unfolding parse
    ends (s-done {P = P} {a = a} p) row by e = let g : a ≡ v = cc in subst P g p
    ends (s-field {f = f} {k = k} law next) row by e =
        let s = split (f.read row) (λ b rest. parse (k b) rest) v rest e in
        let j = law.joins row s.got s.mid by s.first in
        (ends (next s.got s.mid (law.fitted row s.got s.mid by s.first)) s.mid (bytes_rest (f.print s.got) s.mid row j by) s.second).0
    ends (s-ask {q = q} {t = t} {k = k} s) row by e = ends s row by (passed t (parse k row) q v rest e).then

    found : {l : Layout A} {P : A → Type 0} → Sound P l → (row : List ℕ) → Bytes row → parse l row ≡ value v rest → Found (print l v) (fits_of l v rest) (refusal_of l v) rest row
    unfolding parse print refusal_of
    found (s-done {a = a} p) row by e = let g : a ≡ v = cc in let h : row ≡ rest = cc in record { joins = sym h; fits = g; yes = refl }
    found (s-field {B = B} {f = f} {get = get} {k = k} law next) row by e =
        let s = split (f.read row) (λ b rest. parse (k b) rest) v rest e in
        let b = s.got in
        let j = law.joins row b s.mid by s.first in
        let ft = law.fitted row b s.mid by s.first in
        let by' = bytes_rest (f.print b) s.mid row j by in
        let g : get v ≡ b = (ends (next b s.mid ft) s.mid by' s.second).1 in
        let h = found (next b s.mid ft) s.mid by' s.second in
        subst (λ (x : B). Found (f.print x ++ print (k x) v) (f.fits x (print (k x) v ++ rest) × fits_of (k x) v rest) (first (f.refusal x) (refusal_of (k x) v)) rest row) (sym g)
        (record {
          joins = append_assoc (f.print b) (print (k b) v) rest ∙ ap (λ (l : List ℕ). f.print b ++ l) h.joins ∙ j;
          fits = (rw h.joins ft, h.fits);
          yes = rw (law.granted row b s.mid by s.first) h.yes;
        })
    found (s-ask {t = true} s) row by e = let h = found s row by e in record { joins = h.joins; fits = h.fits; yes = h.yes }
    found (s-ask {t = false} s) row by e = absurd (value≢refused (sym e))

    -- ---- what is hidden is 0 where its bytes are
    bare-in : {l : Layout A} {P : A → Type 0} → Sound P l → (lv : Level) (row : List ℕ) → Bytes row → parse l row ≡ value v rest → hide (mask_of l lv row) row ≡ row → blank_of l lv v ≡ v
    unfolding parse mask_of blank_of
    bare-in (s-done p) lv row by e h = cc
    bare-in (s-field {f = f} {get = get} {k = k} law next) lv row by e h =
        let s = split (f.read row) (λ b rest. parse (k b) rest) v rest e in
        let b = s.got in
        let pb = f.print b in
        let j = law.joins row b s.mid by s.first in
        let by' = bytes_rest pb s.mid row j by in
        let ft = law.fitted row b s.mid by s.first in
        let g : get v ≡ b = (ends (next b s.mid ft) s.mid by' s.second).1 in
        let mf = f.mask lv row in
        let mk = mask_of (k b) lv s.mid in
        let h1 : hide (mf ++ mk) row ≡ row = rw s.first at h in
        let p = bare_parts mf mk pb s.mid row j (law.long lv row b s.mid s.first) h1 in
        let eb : f.blank lv b ≡ b = law.bare lv row b s.mid by s.first p.all in
        rw (g, eb) (bare-in (next b s.mid ft) lv s.mid by' s.second p.rest)
    bare-in (s-ask {t = true} s) lv row by e h = bare-in s lv row by e h
    bare-in (s-ask {t = false} s) lv row by e h = absurd (value≢refused (sym e))

-- ---- masks, and what is hidden
module _ {B : Type 0} (f : Form B) (law : Lawful f) (lv : Level) (row : List ℕ) where
  pub mask-short : (n : B → List ℕ → List Bool) → ((b : B) (rest : List ℕ) → length (n b rest) ≤ length rest) → (x : Read B) → f.read row ≡ x → length (f.mask lv row ++ after x n) ≤ length row
  mask-short n h (value b rest) e = rw (length-append (f.mask lv row) (n b rest)) (omega (arith, law.long lv row b rest e, h b rest))
  mask-short n h (refused q) e = rw (append-nil (f.mask lv row)) (law.short lv row)

module _ {A : Type 0} (lv : Level) (R : A → A → Type 0) where
  pub short-in : {l l' : Layout A} → Blind lv R l l' → (row : List ℕ) → length (mask_of l lv row) ≤ length row
  unfolding mask_of
  short-in (b-done r) row = omega arith
  short-in (b-field {f = f} {k = k} law c) row = mask-short f law lv row (λ b rest. mask_of (k b) lv rest) (λ b rest. short-in (c b b refl) rest) (f.read row) refl
  short-in (b-ask {t = true} {k = k} e b) row = short-in b row
  short-in (b-ask {t = false} {k = k} e b) row = omega arith
  short-in (b-excuse {t = true} {k = k} e b) row = short-in b row
  short-in (b-excuse {t = false} {k = k} e b) row = omega arith

  pub long-in : {l l' : Layout A} → Blind lv R l l' → (row : List ℕ) (v : A) (rest : List ℕ) → parse l row ≡ value v rest → length (mask_of l lv row) + length rest ≡ length row
  unfolding mask_of parse
  long-in (b-done {a = a} r) row v rest e = let h : row ≡ rest = cc in rw h (omega arith)
  long-in (b-field {B = B} {f = f} {k = k} law c) row v rest e =
      let s = split (f.read row) (λ b rest. parse (k b) rest) v rest e in
      let h1 = law.long lv row s.got s.mid s.first in
      let h2 = long-in (c s.got s.got refl) s.mid v rest s.second in
      rw (s.first, length-append (f.mask lv row) (mask_of (k s.got) lv s.mid)) (omega arith)
  long-in (b-ask {q = q} {t = true} {k = k} e b) row v rest h = long-in b row v rest h
  long-in (b-ask {q = q} {t = false} {k = k} e b) row v rest h = absurd (value≢refused (sym h))
  long-in (b-excuse {q = q} {t = true} {k = k} e b) row v rest h = long-in b row v rest h
  long-in (b-excuse {q = q} {t = false} {k = k} e b) row v rest h = absurd (value≢refused (sym h))

  pub blind-in : {l l' : Layout A} → Blind lv R l l' → Blinds lv R (parse l) (parse l') (mask_of l lv) (mask_of l' lv)
  unfolding mask_of parse
  blind-in (b-done r) = λ row row' k e. same (record { alike = (r, e); masks = refl })
  blind-in (b-field {B = B} {f = f} {k = k} {k' = k'} law c) =
      then-blind lv (λ (b b' : B). f.blank lv b ≡ f.blank lv b') R f.read f.read (f.mask lv) (f.mask lv) (λ b rest. parse (k b) rest) (λ b rest. parse (k' b) rest)
      (λ b rest. mask_of (k b) lv rest) (λ b rest. mask_of (k' b) lv rest)
      (law.blind lv) (λ b b' e. blind-in (c b b' e))
  blind-in (b-ask {t = true} {t' = true} {k = k} {k' = k'} e b) = blind-in b
  blind-in (b-ask {t = false} {t' = false} {k = k} {k' = k'} e b) = λ row row' k e. same (record { alike = refl; masks = refl })
  blind-in (b-ask {t = true} {t' = false} {k = k} {k' = k'} e b) = absurd (true≢false e)
  blind-in (b-ask {t = false} {t' = true} {k = k} {k' = k'} e b) = absurd (true≢false (sym e))
  blind-in (b-excuse {t = true} {t' = true} {k = k} {k' = k'} e b) = blind-in b
  blind-in (b-excuse {t = false} {t' = false} {k = k} {k' = k'} e b) = λ row row' k e. same (record { alike = refl; masks = refl })
  blind-in (b-excuse {t = true} {t' = false} {k = k} {k' = k'} e b) = λ row row' k _. excuse' e
  blind-in (b-excuse {t = false} {t' = true} {k = k} {k' = k'} e b) = λ row row' k _. excuse e

-- a layout is a lawful form
module _ {A : Type 0} (l : Layout A) (sound : Sound (λ v. Unit {0}) l) (b : (lv : Level) → Blind lv (λ v v'. blank_of l lv v ≡ blank_of l lv v') l l) where
  pub group-lawful : Lawful (group l)
  group-lawful = record {
    printed = printed-in sound;
    joins = λ row v rest by e. (found v rest sound row by e).joins;
    fitted = λ row v rest by e. (found v rest sound row by e).fits;
    granted = λ row v rest by e. (found v rest sound row by e).yes;
    short = λ lv row. short-in lv (λ v v'. blank_of l lv v ≡ blank_of l lv v') (b lv) row;
    long = λ lv row v rest e. long-in lv (λ v v'. blank_of l lv v ≡ blank_of l lv v') (b lv) row v rest e;
    blind = λ lv. blind-in lv (λ v v'. blank_of l lv v ≡ blank_of l lv v') (b lv);
    bare = λ lv row v rest by e. bare-in v rest sound lv row by e;
  }
