-- A part that is there or not, and n of them, are lawful.
-- Assumes nothing.
use Prim.Native.Nat.{ℕ, zero, suc}
use mathlib.Core.List.{List, [], ◌∷◌, ◌++◌, map, append_assoc}
use mathlib.Core.Bool.{Bool, true, false}
use mathlib.Core.Option
use mathlib.Core.Option.{Option, none, some}
use mathlib.Core.Path.{◌≡◌, refl, sym, ap, ap₂, ◌∙◌}
use native.Mathlib.Omega.{arith}
use lib.ListN.{length-append}
use Rattle.layout.specs.Read.{Read, value, onto, said}
use Rattle.layout.specs.Veil.{hide}
use Rattle.layout.specs.Form.{Form, only_if, read_many, print_many, mask_many, refusal_many, times}
use Rattle.layout.proofs.Hide.{bare_parts}
use Rattle.layout.proofs.Lawful.{same, Lawful, split, said-then, then-blind, bytes_rest, mask-short}
use Rattle.layout.proofs.Front.{got, left}
use Rattle.layout.proofs.Wrapped.{onto-blind, onto-said, inner}

-- ---- a part that is there exactly if t
module _ {B : Type 0} (f : Form B) (law : Lawful f) where
  pub only_if-lawful : (t : Bool) → Lawful (only_if f t)
  only_if-lawful true = record {
    printed = printed;
    joins = λ row o rest by e. let i = inner some (f.read row) o rest e in rw (← i.wraps) (law.joins row i.got rest by i.read);
    fitted = λ row o rest by e. let i = inner some (f.read row) o rest e in rw (← i.wraps) (law.fitted row i.got rest by i.read);
    granted = λ row o rest by e. let i = inner some (f.read row) o rest e in rw (← i.wraps) (law.granted row i.got rest by i.read);
    short = law.short;
    long = λ lv row o rest e. let i = inner some (f.read row) o rest e in law.long lv row i.got rest i.read;
    blind = λ lv. onto-blind lv (λ b b'. f.blank lv b ≡ f.blank lv b') (λ o o'. Option.map (f.blank lv) o ≡ Option.map (f.blank lv) o') some some (λ b b' e. ap some e)
        f.read f.read (f.mask lv) (f.mask lv) (law.blind lv);
    bare = λ lv row o rest by e h. let i = inner some (f.read row) o rest e in rw (← i.wraps) (ap some (law.bare lv row i.got rest by i.read h));
  }
    where
      printed : (o : Option B) (post : List ℕ) → (only_if f true).fits o post → (only_if f true).read ((only_if f true).print o ++ post) ≡ said ((only_if f true).refusal o) o post
      printed none post h = absurd h
      printed (some b) post h = ap (λ (x : Read B). onto some x) (law.printed b post h) ∙ onto-said some (f.refusal b) b post
  only_if-lawful false = record {
    printed = printed;
    joins = λ row o rest by e. let x : none ≡ o = ap (λ (r : Read _). got none r) e in let y : row ≡ rest = ap (λ (r : Read _). left r) e in rw (← x) (sym y);
    fitted = λ row o rest by e. let x : none ≡ o = ap (λ (r : Read _). got none r) e in rw (← x) tt;
    granted = λ row o rest by e. let x : none ≡ o = ap (λ (r : Read _). got none r) e in rw (← x);
    short = λ lv row. omega arith;
    long = λ lv row o rest e. let y : row ≡ rest = ap (λ (r : Read _). left r) e in rw y (omega arith);
    blind = λ lv row row' k e. same (record { alike = (refl, e); masks = refl });
    bare = λ lv row o rest by e h. let x : none ≡ o = ap (λ (r : Read _). got none r) e in rw (← x);
  }
    where
      printed : (o : Option B) (post : List ℕ) → (only_if f false).fits o post → (only_if f false).read ((only_if f false).print o ++ post) ≡ said ((only_if f false).refusal o) o post
      printed none post h = refl
      printed (some b) post h = absurd h

-- ---- n groups
module _ {B : Type 0} (f : Form B) (law : Lawful f) where
  record Next (n : ℕ) (row : List ℕ) (bs : List B) (rest : List ℕ) : Type 0 where
    pub head : B
    pub tail : List B
    pub mid : List ℕ
    pub one : f.read row ≡ value head mid
    pub more : read_many f n mid ≡ value tail rest
    pub is : head ∷ tail ≡ bs

  next : (n : ℕ) (row : List ℕ) (bs : List B) (rest : List ℕ) → read_many f (suc n) row ≡ value bs rest → Next n row bs rest
  unfolding read_many
  next n row bs rest e =
      let s = split (f.read row) (λ b mid. onto (λ bs. b ∷ bs) (read_many f n mid)) bs rest e in
      let i = inner (λ (bs : List B). s.got ∷ bs) (read_many f n s.mid) bs rest s.second in
      record { head = s.got; tail = i.got; mid = s.mid; one = s.first; more = i.read; is = i.wraps }

  many-lawful : (n : ℕ) → Lawful (times f n)
  unfolding refusal_many read_many print_many mask_many
  many-lawful zero = record {
    printed = printed;
    joins = λ row bs rest by e. let x : [] ≡ bs = ap (λ (r : Read _). got [] r) e in let y : row ≡ rest = ap (λ (r : Read _). left r) e in rw (← x) (sym y);
    fitted = λ row bs rest by e. let x : [] ≡ bs = ap (λ (r : Read _). got [] r) e in rw (← x) (refl, tt);
    granted = λ row bs rest by e. let x : [] ≡ bs = ap (λ (r : Read _). got [] r) e in rw (← x);
    short = λ lv row. omega arith;
    long = λ lv row bs rest e. let y : row ≡ rest = ap (λ (r : Read _). left r) e in rw y (omega arith);
    blind = λ lv row row' k e. same (record { alike = (refl, e); masks = refl });
    bare = λ lv row bs rest by e h. let x : [] ≡ bs = ap (λ (r : Read _). got [] r) e in rw (← x);
  }
    where
      printed : (bs : List B) (post : List ℕ) → (times f zero).fits bs post → (times f zero).read ((times f zero).print bs ++ post) ≡ said ((times f zero).refusal bs) bs post
      printed [] post h = refl
      printed (b ∷ bs) post h = absurd (omega (arith, h.0))
  many-lawful (suc n) = go (many-lawful n)
    where
      go : Lawful (times f n) → Lawful (times f (suc n))
      go ih = record {
        printed = printed;
        joins = λ row bs rest by e. let x = next n row bs rest e in
            let j = law.joins row x.head x.mid by x.one in
            let j2 = ih.joins x.mid x.tail rest (bytes_rest (f.print x.head) x.mid row j by) x.more in
            rw (← x.is) (append_assoc (f.print x.head) (print_many f x.tail) rest ∙ ap (λ (l : List ℕ). f.print x.head ++ l) j2 ∙ j);
        fitted = λ row bs rest by e. let x = next n row bs rest e in
            let j = law.joins row x.head x.mid by x.one in
            let by' = bytes_rest (f.print x.head) x.mid row j by in
            let j2 = ih.joins x.mid x.tail rest by' x.more in
            let h = ih.fitted x.mid x.tail rest by' x.more in
            rw (← x.is) (ap suc h.0, (rw j2 (law.fitted row x.head x.mid by x.one), h.1));
        granted = λ row bs rest by e. let x = next n row bs rest e in
            let j = law.joins row x.head x.mid by x.one in
            let by' = bytes_rest (f.print x.head) x.mid row j by in
            rw (← x.is, law.granted row x.head x.mid by x.one) (ih.granted x.mid x.tail rest by' x.more);
        short = λ lv row. mask-short f law lv row (λ b mid. mask_many f lv n mid) (λ b mid. ih.short lv mid) (f.read row) refl;
        long = λ lv row bs rest e. let x = next n row bs rest e in
            let h1 = law.long lv row x.head x.mid x.one in
            let h2 = ih.long lv x.mid x.tail rest x.more in
            rw (x.one, length-append (f.mask lv row) (mask_many f lv n x.mid)) (omega arith);
        blind = λ lv. then-blind lv (λ (b b' : B). f.blank lv b ≡ f.blank lv b') (λ (bs bs' : List B). map (f.blank lv) bs ≡ map (f.blank lv) bs') f.read f.read (f.mask lv) (f.mask lv)
            (λ b mid. onto (λ bs. b ∷ bs) (read_many f n mid)) (λ b mid. onto (λ bs. b ∷ bs) (read_many f n mid)) (λ b mid. mask_many f lv n mid) (λ b mid. mask_many f lv n mid)
            (law.blind lv)
            (λ b b' e. onto-blind lv (λ (bs bs' : List B). map (f.blank lv) bs ≡ map (f.blank lv) bs') (λ (bs bs' : List B). map (f.blank lv) bs ≡ map (f.blank lv) bs')
            (λ bs. b ∷ bs) (λ bs. b' ∷ bs) (λ bs bs' h. ap₂ (λ (x : B) (l : List B). x ∷ l) e h) (read_many f n) (read_many f n) (mask_many f lv n) (mask_many f lv n) (ih.blind lv));
        bare = λ lv row bs rest by e h. let x = next n row bs rest e in
            let j = law.joins row x.head x.mid by x.one in
            let by' = bytes_rest (f.print x.head) x.mid row j by in
            let h1 : hide (f.mask lv row ++ mask_many f lv n x.mid) row ≡ row = rw x.one at h in
            let p = bare_parts (f.mask lv row) (mask_many f lv n x.mid) (f.print x.head) x.mid row j (law.long lv row x.head x.mid x.one) h1 in
            rw (← x.is) (ap₂ (λ (y : B) (l : List B). y ∷ l) (law.bare lv row x.head x.mid by x.one p.all) (ih.bare lv x.mid x.tail rest by' x.more p.rest));
      }
        where
          printed : (bs : List B) (post : List ℕ) → (times f (suc n)).fits bs post → (times f (suc n)).read ((times f (suc n)).print bs ++ post) ≡ said ((times f (suc n)).refusal bs) bs post
          printed [] post h = absurd (omega (arith, h.0))
          printed (b ∷ bs) post h =
              let ps = print_many f bs in
              let e : f.read ((f.print b ++ ps) ++ post) ≡ said (f.refusal b) b (ps ++ post) = rw (append_assoc (f.print b) ps post) (law.printed b (ps ++ post) h.1.0) in
              said-then (f.read ((f.print b ++ ps) ++ post)) (λ b mid. onto (λ bs. b ∷ bs) (read_many f n mid)) b (ps ++ post) (b ∷ bs) post (f.refusal b) (refusal_many f bs) e
              (ap (λ (x : Read (List B)). onto (λ bs. b ∷ bs) x) (ih.printed bs post (omega (arith, h.0), h.1.1)) ∙ onto-said (λ bs. b ∷ bs) (refusal_many f bs) bs post)

  pub times-lawful : (n : ℕ) → Lawful (times f n)
  times-lawful = many-lawful
