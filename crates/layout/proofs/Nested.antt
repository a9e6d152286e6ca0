-- A row within the row, and one of two, are lawful.
-- Assumes nothing.
use Prim.Native.Nat.{ℕ, ◌+◌, ◌≤◌}
use mathlib.Core.List.{List, [], ◌∷◌, ◌++◌, append-nil}
use mathlib.Core.Bool.{Bool, true, false, cond}
use mathlib.Core.Option.{Option, none, some}
use mathlib.Core.Logic.{◌⊎◌, inl, inr}
use mathlib.Core.Path.{◌≡◌, refl, sym, ap, ◌∙◌, subst}
use native.Mathlib.Omega.{arith}
use lib.ListN.{length, take, drop, take-append-drop, length-drop}
use lib.Dec.{eqb}
use borrow.Author.Tests.{eqb-true}
use Rattle.layout.specs.Read.{Read, value, refused, onto, after, said}
use Rattle.layout.specs.Veil.{Level, hide}
use Rattle.layout.specs.Form.{Form, used_up, inside, read_either, mask_either, either}
use Rattle.layout.specs.RowLaws.{Bytes}
use Rattle.layout.proofs.Hide.{as_long, Parts, seam-cut, front_cut, take-hidden}
use Rattle.layout.proofs.Lawful.{ReadAlike, Excused, Outcome, same, excuse, excuse', Blinds, Lawful, value≢refused}
use Rattle.layout.proofs.Front.{bytes_take, front-in, front, front-short, front-mask, front-blind, got, left}
use Rattle.layout.proofs.Wrapped.{onto-blind, more-mask, onto-said, inner, bytes-tail, cons}

-- ---- a row within the row
record Within {B : Type 0} (x : Read B) (r rest : List ℕ) (b : B) : Type 0 where
  pub read : x ≡ value b []
  pub same : r ≡ rest

within : {B : Type 0} (q : ℕ) (x : Read B) (r rest : List ℕ) (b : B) → used_up q r x ≡ value b rest → Within x r rest b
within q (value y []) r rest b e = record { read = ap (λ (z : Read _). value (got y z) []) e; same = ap (λ (z : Read _). left z) e }
within q (value y (x ∷ xs)) r rest b e = absurd (value≢refused (sym e))
within q (refused p) r rest b e = absurd (value≢refused (sym e))

module _ {B : Type 0} (n q : ℕ) (f : Form B) (law : Lawful f) where
  in-said : (o : Option ℕ) (b : B) (rest : List ℕ) → used_up q rest (said o b []) ≡ said o b rest
  in-said none b rest = refl
  in-said (some p) b rest = refl

  after_none : (x : Read B) → after x (λ b rest. []) ≡ []
  after_none (value b rest) = refl
  after_none (refused p) = refl

  s : List ℕ → List ℕ → Read B
  s t rest = used_up q rest (f.read t)

  -- once the parts are known to be alike
  alike-in : (lv : Level) (R : B → B → Type 0) (k : B → List ℕ → List Bool) (rest rest' : List ℕ) (x x' : Read B) → ReadAlike R (λ b r. []) x x'
      → hide (after (used_up q rest x) k) rest ≡ hide (after (used_up q rest x) k) rest' → ReadAlike R k (used_up q rest x) (used_up q rest' x')
  alike-in lv R k rest rest' (value b []) (value b' []) a e = (a.0, e)
  alike-in lv R k rest rest' (value b []) (value b' (y ∷ ys)) a e = let l = as_long [] [] (y ∷ ys) a.1 in absurd (omega arith)
  alike-in lv R k rest rest' (value b (x ∷ xs)) (value b' []) a e = let l = as_long [] (x ∷ xs) [] a.1 in absurd (omega arith)
  alike-in lv R k rest rest' (value b (x ∷ xs)) (value b' (y ∷ ys)) a e = refl
  alike-in lv R k rest rest' (refused p) (refused p') a e = a
  alike-in lv R k rest rest' (value b []) (refused p) a e = absurd a
  alike-in lv R k rest rest' (value b (x ∷ xs)) (refused p) a e = absurd a
  alike-in lv R k rest rest' (refused p) (value b r) a e = absurd a

  out-in : (lv : Level) (R : B → B → Type 0) (k : B → List ℕ → List Bool) (rest rest' : List ℕ) (x x' : Read B) (m m' : List Bool) → Outcome lv R (λ b r. []) x x' m m'
      → hide (after (used_up q rest x) k) rest ≡ hide (after (used_up q rest x) k) rest' → Outcome lv R k (used_up q rest x) (used_up q rest' x') m m'
  out-in lv R k rest rest' x x' m m' (same h) e = same (record { alike = alike-in lv R k rest rest' x x' h.alike e; masks = h.masks })
  out-in lv R k rest rest' x x' m m' (excuse h) e = excuse (stays x rest h)
    where
      stays : (x : Read B) (rest : List ℕ) → Excused lv x → Excused lv (used_up q rest x)
      stays (value b r) rest h = absurd h
      stays (refused p) rest h = h
  out-in lv R k rest rest' x x' m m' (excuse' h) e = excuse' (stays x' rest' h)
    where
      stays : (x : Read B) (rest : List ℕ) → Excused lv x → Excused lv (used_up q rest x)
      stays (value b r) rest h = absurd h
      stays (refused p) rest h = h

  -- the mask of the part ends with it, or before it where it is refused
  in_parts : (lv : Level) (t t' rest rest' : List ℕ) (k : B → List ℕ → List Bool) → length t ≡ length t' → (x : Read B) → f.read t ≡ x
      → hide (f.mask lv t ++ after (used_up q rest x) k) (t ++ rest) ≡ hide (f.mask lv t ++ after (used_up q rest x) k) (t' ++ rest')
      → Parts (hide (f.mask lv t) t) (hide (f.mask lv t) t') (hide (after (used_up q rest x) k) rest) (hide (after (used_up q rest x) k) rest')
  in_parts lv t t' rest rest' k l (value b []) h e = seam-cut (f.mask lv t) (k b rest) t t' rest rest' (omega (arith, law.long lv t b [] h)) l e
  in_parts lv t t' rest rest' k l (value b (x ∷ xs)) h e = front_cut (f.mask lv t) t t' rest rest' (law.short lv t) l (rw (append-nil (f.mask lv t)) at e)
  in_parts lv t t' rest rest' k l (refused p) h e = front_cut (f.mask lv t) t t' rest rest' (law.short lv t) l (rw (append-nil (f.mask lv t)) at e)

  pub inside-lawful : Lawful (inside n q f)
  unfolding s
  inside-lawful = record {
    printed = λ b post h. front-in n s (f.print b) post h.0
        ∙ ap (λ (x : Read B). used_up q post x) (rw (append-nil (f.print b)) at (law.printed b [] h.1)) ∙ in-said (f.refusal b) b post;
    joins = λ row b rest by e. let g = front n s row b rest e in
        let w = within q (f.read (take n row)) (drop n row) rest b g.read in
        let j = law.joins (take n row) b [] (bytes_take n row by) w.read in
        rw (← w.same, rw (append-nil (f.print b)) at j) (take-append-drop n row);
    fitted = λ row b rest by e. let g = front n s row b rest e in
        let w = within q (f.read (take n row)) (drop n row) rest b g.read in
        let j = law.joins (take n row) b [] (bytes_take n row by) w.read in
        (rw (rw (append-nil (f.print b)) at j) g.long, law.fitted (take n row) b [] (bytes_take n row by) w.read);
    granted = λ row b rest by e. let g = front n s row b rest e in
        let w = within q (f.read (take n row)) (drop n row) rest b g.read in
        law.granted (take n row) b [] (bytes_take n row by) w.read;
    short = λ lv row. front-short n s (f.mask lv) (λ t h. omega (arith, law.short lv t)) row;
    long = λ lv row b rest e. let g = front n s row b rest e in
        let w = within q (f.read (take n row)) (drop n row) rest b g.read in
        rw (front-mask n s (f.mask lv) row g.there, ← w.same, length-drop) (omega (arith, law.long lv (take n row) b [] w.read, g.there, g.long));
    blind = λ lv. front-blind n s (f.mask lv) lv (λ b b'. f.blank lv b ≡ f.blank lv b') (λ b. refl)
        (λ t t' rest rest' k l l' e.
        let p = in_parts lv t t' rest rest' k l' (f.read t) refl e in
        out-in lv (λ b b'. f.blank lv b ≡ f.blank lv b') k rest rest' (f.read t) (f.read t') (f.mask lv t) (f.mask lv t')
        (law.blind lv t t' (λ b r. []) (rw (after_none (f.read t), append-nil (f.mask lv t)) p.front)) p.back);
    bare = λ lv row b rest by e h. let g = front n s row b rest e in
        let w = within q (f.read (take n row)) (drop n row) rest b g.read in
        let h1 : hide (f.mask lv (take n row)) row ≡ row = rw (front-mask n s (f.mask lv) row g.there) at h in
        law.bare lv (take n row) b [] (bytes_take n row by) w.read
        (take-hidden n (f.mask lv (take n row)) row (omega (arith, law.short lv (take n row), g.long)) g.there h1);
  }

-- ---- one of two
module _ {B C : Type 0} (q : ℕ) (f : Form B) (g : Form C) (lf : Lawful f) (lg : Lawful g) where
  data Chosen (x : ℕ) (row : List ℕ) (v : B ⊎ C) (rest : List ℕ) : Type 0 where
    chose-f : (b : B) → x ≡ 0 → f.read row ≡ value b rest → inl b ≡ v → Chosen x row v rest
    chose-g : (c : C) → x ≡ 1 → g.read row ≡ value c rest → inr c ≡ v → Chosen x row v rest

  chosen : (x : ℕ) (row : List ℕ) (v : B ⊎ C) (rest : List ℕ) → read_either q f g (x ∷ row) ≡ value v rest → Chosen x row v rest
  chosen x row v rest = go (eqb x 0) (eqb x 1) refl refl
    where
      go : (s t : Bool) → eqb x 0 ≡ s → eqb x 1 ≡ t → cond s (onto inl (f.read row)) (cond t (onto inr (g.read row)) (refused q)) ≡ value v rest → Chosen x row v rest
      go true t p r e = let i = inner inl (f.read row) v rest e in chose-f i.got (eqb-true x 0 p) i.read i.wraps
      go false true p r e = let i = inner inr (g.read row) v rest e in chose-g i.got (eqb-true x 1 r) i.read i.wraps
      go false false p r e = absurd (value≢refused (sym e))

  e-printed : (v : B ⊎ C) (post : List ℕ) → (either q f g).fits v post → (either q f g).read ((either q f g).print v ++ post) ≡ said ((either q f g).refusal v) v post
  e-printed (inl b) post h = ap (λ (x : Read B). onto inl x) (lf.printed b post h) ∙ onto-said inl (f.refusal b) b post
  e-printed (inr c) post h = ap (λ (x : Read C). onto inr x) (lg.printed c post h) ∙ onto-said inr (g.refusal c) c post

  e-joins : (row : List ℕ) (v : B ⊎ C) (rest : List ℕ) → Bytes row → (either q f g).read row ≡ value v rest → (either q f g).print v ++ rest ≡ row
  e-joins [] v rest by e = absurd (value≢refused (sym e))
  e-joins (x ∷ row) v rest by e = go (chosen x row v rest e)
    where
      go : Chosen x row v rest → (either q f g).print v ++ rest ≡ x ∷ row
      go (chose-f b p r w) = rw (← w, p) (ap (λ (l : List ℕ). 0 ∷ l) (lf.joins row b rest (bytes-tail x row by) r))
      go (chose-g c p r w) = rw (← w, p) (ap (λ (l : List ℕ). 1 ∷ l) (lg.joins row c rest (bytes-tail x row by) r))

  e-fitted : (row : List ℕ) (v : B ⊎ C) (rest : List ℕ) → Bytes row → (either q f g).read row ≡ value v rest → (either q f g).fits v rest
  e-fitted [] v rest by e = absurd (value≢refused (sym e))
  e-fitted (x ∷ row) v rest by e = go (chosen x row v rest e)
    where
      go : Chosen x row v rest → (either q f g).fits v rest
      go (chose-f b p r w) = rw (← w) (lf.fitted row b rest (bytes-tail x row by) r)
      go (chose-g c p r w) = rw (← w) (lg.fitted row c rest (bytes-tail x row by) r)

  e-granted : (row : List ℕ) (v : B ⊎ C) (rest : List ℕ) → Bytes row → (either q f g).read row ≡ value v rest → (either q f g).refusal v ≡ none
  e-granted [] v rest by e = absurd (value≢refused (sym e))
  e-granted (x ∷ row) v rest by e = go (chosen x row v rest e)
    where
      go : Chosen x row v rest → (either q f g).refusal v ≡ none
      go (chose-f b p r w) = rw (← w) (lf.granted row b rest (bytes-tail x row by) r)
      go (chose-g c p r w) = rw (← w) (lg.granted row c rest (bytes-tail x row by) r)

  e-short : (lv : Level) (row : List ℕ) → length (mask_either q f g lv row) ≤ length row
  e-short lv [] = omega arith
  e-short lv (x ∷ row) = go (eqb x 0) (eqb x 1)
    where
      go : (s t : Bool) → length (false ∷ cond s (f.mask lv row) (cond t (g.mask lv row) [])) ≤ length (x ∷ row)
      go true t = omega (arith, lf.short lv row)
      go false true = omega (arith, lg.short lv row)
      go false false = omega arith

  e-long : (lv : Level) (row : List ℕ) (v : B ⊎ C) (rest : List ℕ) → (either q f g).read row ≡ value v rest → length (mask_either q f g lv row) + length rest ≡ length row
  e-long lv [] v rest e = absurd (value≢refused (sym e))
  e-long lv (x ∷ row) v rest e = go (chosen x row v rest e)
    where
      go : Chosen x row v rest → length (mask_either q f g lv (x ∷ row)) + length rest ≡ length (x ∷ row)
      go (chose-f b p r w) = rw p (omega (arith, lf.long lv row b rest r))
      go (chose-g c p r w) = rw p (omega (arith, lg.long lv row c rest r))

  e-bare : (lv : Level) (row : List ℕ) (v : B ⊎ C) (rest : List ℕ) → Bytes row → (either q f g).read row ≡ value v rest → hide (mask_either q f g lv row) row ≡ row → (either q f g).blank lv v ≡ v
  e-bare lv [] v rest by e h = absurd (value≢refused (sym e))
  e-bare lv (x ∷ row) v rest by e h = go (chosen x row v rest e)
    where
      tl : hide (cond (eqb x 0) (f.mask lv row) (cond (eqb x 1) (g.mask lv row) [])) row ≡ row
      tl = (cons x x _ row h).tail

      go : Chosen x row v rest → (either q f g).blank lv v ≡ v
      go (chose-f b p r w) = let h1 : hide (f.mask lv row) row ≡ row = rw p at tl in rw (← w) (ap inl (lf.bare lv row b rest (bytes-tail x row by) r h1))
      go (chose-g c p r w) = let h1 : hide (g.mask lv row) row ≡ row = rw p at tl in rw (← w) (ap inr (lg.bare lv row c rest (bytes-tail x row by) r h1))

  module _ (lv : Level) where
    abbrev Like : B ⊎ C → B ⊎ C → Type 0
    Like v v' = (either q f g).blank lv v ≡ (either q f g).blank lv v'

    e-blind : Blinds lv Like (read_either q f g) (read_either q f g) (mask_either q f g lv) (mask_either q f g lv)
    e-blind [] [] k e = same (record { alike = refl; masks = refl })
    e-blind [] (y ∷ ys) k e = let l = as_long [] [] (y ∷ ys) e in absurd (omega arith)
    e-blind (x ∷ xs) [] k e = let l = as_long (mask_either q f g lv (x ∷ xs) ++ after (read_either q f g (x ∷ xs)) k) (x ∷ xs) [] e in absurd (omega arith)
    e-blind (x ∷ xs) (y ∷ ys) k e =
        let c = cons x y _ _ e in
        subst (λ (z : ℕ). Outcome lv Like k (read_either q f g (x ∷ xs)) (read_either q f g (z ∷ ys)) (mask_either q f g lv (x ∷ xs)) (mask_either q f g lv (z ∷ ys))) c.head
        (go (eqb x 0) (eqb x 1) c.tail)
      where
        go : (s t : Bool)
            → hide (cond s (f.mask lv xs) (cond t (g.mask lv xs) []) ++ after (cond s (onto inl (f.read xs)) (cond t (onto inr (g.read xs)) (refused q))) k) xs
            ≡ hide (cond s (f.mask lv xs) (cond t (g.mask lv xs) []) ++ after (cond s (onto inl (f.read xs)) (cond t (onto inr (g.read xs)) (refused q))) k) ys
            → Outcome lv Like k (cond s (onto inl (f.read xs)) (cond t (onto inr (g.read xs)) (refused q))) (cond s (onto inl (f.read ys)) (cond t (onto inr (g.read ys)) (refused q)))
            (false ∷ cond s (f.mask lv xs) (cond t (g.mask lv xs) [])) (false ∷ cond s (f.mask lv ys) (cond t (g.mask lv ys) []))
        go true t e =
            more-mask lv Like k (onto inl (f.read xs)) (onto inl (f.read ys)) (f.mask lv xs) (f.mask lv ys)
            (onto-blind lv (λ b b'. f.blank lv b ≡ f.blank lv b') Like inl inl (λ b b' r. ap inl r) f.read f.read (f.mask lv) (f.mask lv) (lf.blind lv) xs ys k e)
        go false true e =
            more-mask lv Like k (onto inr (g.read xs)) (onto inr (g.read ys)) (g.mask lv xs) (g.mask lv ys)
            (onto-blind lv (λ b b'. g.blank lv b ≡ g.blank lv b') Like inr inr (λ b b' r. ap inr r) g.read g.read (g.mask lv) (g.mask lv) (lg.blind lv) xs ys k e)
        go false false e = same (record { alike = refl; masks = refl })

  pub either_lawful : Lawful (either q f g)
  either_lawful = record {
    printed = e-printed;
    joins = e-joins;
    fitted = e-fitted;
    granted = e-granted;
    short = e-short;
    long = e-long;
    blind = e-blind;
    bare = e-bare;
  }
