-- Records in lent places: what a row has for them is read as the places are, and is what the records print; and a filled place is read back.
-- Assumes nothing.
use Prim.Native.Nat.{ℕ, zero, suc, ◌+◌, ◌-◌, ◌*◌, ◌≤◌, ◌<◌}
use mathlib.Core.List.{List, [], ◌∷◌, ◌++◌, append_assoc, append-nil}
use mathlib.Core.Option.{Option, none, some}
use mathlib.Core.Path.{◌≡◌, refl, sym, ap, ◌∙◌}
use native.Mathlib.Omega.{arith}
use native.Mathlib.Nat.{mul-zero, mul-suc, sub_self}
use native.Mathlib.Numerals.{add-one}
use lib.ListN.{length, take, drop, length-append, length-drop, length-replicate}
use lib.Seq.{take_at, take-add, drop_at, drop-drop, length-take-le}
use lib.Dec.{lit<}
use Rattle.layout.specs.Read.{Read, value, refused, and_then, onto, first}
use Rattle.layout.specs.Veil.{zeros}
use Rattle.layout.specs.Form.{Form, times, read_many, print_many, fits_many, refusal_many}
use Rattle.layout.specs.Form as form
use Rattle.layout.specs.Field.{takes, read_at}
use Rattle.layout.specs.Write.{Written, wrote, refuses}
use Rattle.layout.specs.RowLaws.{Bytes}
use Rattle.layout.proofs.Lawful.{Lawful, value≢refused}
use Rattle.layout.proofs.Front.{bytes_take, left}
use Rattle.layout.proofs.At.{took, took-next, bytes_drop}
use Rattle.layout.proofs.Parts.{times-lawful}
use Rattle.layout.proofs.Wrapped.{inner}
use Rattle.contact_lists.specs.Lists.{items, items_of, Stands}
use Rattle.contact_lists.specs.Places.{read_places, print_places, places_of}
use Rattle.contact_lists.specs.Places as places
use Rattle.contact_lists.proofs.Ends.{items_at}
use Rattle.contact_lent.specs.Lent.{size_of, Granted, places_bytes, rejoin}
use Rattle.contact_lent.specs.Lent as lent

-- one more place is in the list
pub next_place : (w n : ℕ) (l : List ℕ) → w * suc n ≤ length l → (w ≤ length l) × (w * n ≤ length (drop w l))
next_place w n l h = let e = mul-suc w n in (omega arith, rw (length-drop w l) (omega arith))

bytes-append : (a b : List ℕ) → Bytes a → Bytes b → Bytes (a ++ b)
bytes-append [] b x y i = y i
bytes-append (c ∷ a) b x y zero = x 0
bytes-append (c ∷ a) b x y (suc i) = bytes-append a b (λ j. x (suc j)) y i

-- ---- the same answer, with other bytes left behind it
pub rejoin-onto : {A B : Type 0} (g : A → B) (post : List ℕ) (x : Read A) → rejoin post (onto g x) ≡ onto g (rejoin post x)
rejoin-onto g post (value a rest) = refl
rejoin-onto g post (refused q) = refl

-- so many bytes, or the same refusal
abbrev pub size_as : {A : Type 0} → Read A → ℕ → Written
size_as (value a rest) n = wrote n
size_as (refused q) n = refuses q

-- ---- a form of which a row has `size l` bytes for the record in the place that l starts with
pub record Placed {B : Type 0} (w : ℕ) (f : Form B) (size : List ℕ → ℕ) : Type 0 where
  pub lawful : Lawful f
  pub most : (l : List ℕ) → size l ≤ w
  pub read-place : (l post : List ℕ) → w ≤ length l → f.read (take (size l) l ++ post) ≡ rejoin post (f.read (take w l))
  pub print-place : (b : B) (post rest : List ℕ) → f.fits b post → size (f.print b ++ rest) ≡ length (f.print b)

-- n records that print these bytes
pub record Printed {B : Type 0} (f : Form B) (row : List ℕ) (n : ℕ) (bs : List B) : Type 0 where
  pub bytes : row ≡ print_many f bs
  pub count : length bs ≡ n
  pub fits : fits_many f bs []

module _ {B : Type 0} (w : ℕ) (f : Form B) (size : List ℕ → ℕ) (p : Placed w f size) where
  -- one record
  pub place-printed : (l : List ℕ) {b : B} {rest : List ℕ} → Bytes l → w ≤ length l → f.read (take w l) ≡ value b rest → f.print b ≡ take (size l) l
  place-printed l {b} {rest} by h e =
      let r : f.read (take (size l) l ++ []) ≡ value b [] = p.read-place l [] h ∙ ap (λ (x : Read B). rejoin [] x) e in
      let by' : Bytes (take (size l) l ++ []) = bytes-append (take (size l) l) [] (bytes_take (size l) l by) (λ i. lit< tt) in
      sym (append-nil (f.print b)) ∙ p.lawful.joins (take (size l) l ++ []) b [] by' r ∙ append-nil (take (size l) l)

  -- its size is told by its place
  pub place-size : (l : List ℕ) → Bytes l → w ≤ length l → size_of f (f.read (take w l)) ≡ size_as (f.read (take w l)) (size l)
  place-size l by h = go (f.read (take w l)) refl
    where
      go : (x : Read B) → f.read (take w l) ≡ x → size_of f x ≡ size_as x (size l)
      go (value b rest) e = ap (λ (n : ℕ). wrote n) (ap (λ (x : List ℕ). length x) (place-printed l by h e) ∙ length-take-le (size l) l (omega (arith, p.most l)))
      go (refused q) e = refl

  -- n of them
  more-places : (n : ℕ) (l post : List ℕ) → read_many f n (places_bytes w size n (drop w l) ++ post) ≡ rejoin post (read_places w f n (drop w l)) → (x : Read B)
      → and_then (rejoin (places_bytes w size n (drop w l) ++ post) x) (λ b mid. onto (λ bs. b ∷ bs) (read_many f n mid))
      ≡ rejoin post (and_then x (λ b rest. onto (λ bs. b ∷ bs) (read_places w f n (drop w l))))
  more-places n l post e (value b rest) = rw e (sym (rejoin-onto (λ bs. b ∷ bs) post (read_places w f n (drop w l))))
  more-places n l post e (refused q) = refl

  pub read-places : (n : ℕ) (l post : List ℕ) → w * n ≤ length l → read_many f n (places_bytes w size n l ++ post) ≡ rejoin post (read_places w f n l)
  unfolding form.read_many places.read_places lent.places_bytes
  read-places zero l post h = refl
  read-places (suc n) l post h =
      let in_List = next_place w n l h in
      let row = places_bytes w size n (drop w l) ++ post in
      rw (append_assoc (take (size l) l) (places_bytes w size n (drop w l)) post, p.read-place l row in_List.0)
      (more-places n l post (read-places n (drop w l) post in_List.1) (f.read (take w l)))

  bytes-places : (n : ℕ) (l : List ℕ) → Bytes l → Bytes (places_bytes w size n l)
  unfolding lent.places_bytes
  bytes-places zero l by = λ i. lit< tt
  bytes-places (suc n) l by = bytes-append (take (size l) l) (places_bytes w size n (drop w l)) (bytes_take (size l) l by) (bytes-places n (drop w l) (bytes_drop w l by))

  pub places-printed : (n : ℕ) (l : List ℕ) {bs : List B} {rest : List ℕ} → read_places w f n l ≡ value bs rest → Bytes l → w * n ≤ length l → Printed f (places_bytes w size n l) n bs
  places-printed n l {bs} {rest} e by h =
      let law = times-lawful f p.lawful n in
      let row = places_bytes w size n l in
      let r : read_many f n (row ++ []) ≡ value bs [] = read-places n l [] h ∙ ap (λ (x : Read (List B)). rejoin [] x) e in
      let by' : Bytes (row ++ []) = bytes-append row [] (bytes-places n l by) (λ i. lit< tt) in
      let fit = law.fitted (row ++ []) bs [] by' r in
      record {
        bytes = sym (sym (append-nil (print_many f bs)) ∙ law.joins (row ++ []) bs [] by' r ∙ append-nil row);
        count = fit.0;
        fits = fit.1;
      }

-- ---- the bytes of n places, of which i are written
module _ (w : ℕ) (size : List ℕ → ℕ) (l : List ℕ) (count i : ℕ) where
  abbrev pub bytes_left : List ℕ
  bytes_left = places_bytes w size (count - i) (drop (w * i) l)

  pub bytes-turn : i < count → bytes_left ≡ take (size (drop (w * i) l)) (drop (w * i) l) ++ places_bytes w size (count - (i + 1)) (drop (w * (i + 1)) l)
  unfolding lent.places_bytes
  bytes-turn h =
      let s : count - i ≡ suc (count - (i + 1)) = omega arith in
      let n1 : w * i + w ≡ w * (i + 1) = sym (rw add-one (mul-suc w i)) in
      rw (s, drop-drop w (w * i) l, n1)

  pub bytes-end : count ≤ i → bytes_left ≡ []
  unfolding lent.places_bytes
  bytes-end h = let z : count - i ≡ 0 = omega arith in rw z

-- ---- places that no question refuses
module _ {B : Type 0} (w : ℕ) (f : Form B) where
  rest-is : (n : ℕ) (l : List ℕ) (bs : List B) (rest : List ℕ) → read_places w f n l ≡ value bs rest → drop (w * n) l ≡ rest
  unfolding places.read_places
  rest-is zero l bs rest e = rw mul-zero (ap (λ (x : Read (List B)). left x) e)
  rest-is (suc n) l bs rest e = go (f.read (take w l)) e (rest-is n (drop w l))
    where
      go : (x : Read B) → and_then x (λ b rest. onto (λ bs. b ∷ bs) (read_places w f n (drop w l))) ≡ value bs rest
          → ((bs : List B) (rest : List ℕ) → read_places w f n (drop w l) ≡ value bs rest → drop (w * n) (drop w l) ≡ rest) → drop (w * suc n) l ≡ rest
      go (value b mid) e others =
          let i = inner (λ bs. b ∷ bs) (read_places w f n (drop w l)) bs rest e in
          let n1 : w * suc n ≡ w + w * n = mul-suc w n ∙ omega arith in
          rw n1 (sym (drop-drop (w * n) w l) ∙ others i.got rest i.read)
      go (refused q) e others = absurd (value≢refused (sym e))

  pub granted : (n : ℕ) (l : List ℕ) {bs : List B} {rest : List ℕ} → read_places w f n l ≡ value bs rest → Granted w f n l
  unfolding places.places_of
  granted n l {bs} {rest} e = record { reads = e ∙ rw (e, rest-is n l bs rest e) }

  -- what their size tells
  pub size-granted : (n : ℕ) (l : List ℕ) {k : ℕ} → size_of (times f n) (read_places w f n l) ≡ wrote k → Granted w f n l × (k ≡ length (print_many f (places_of w f n l)))
  unfolding places.places_of
  size-granted n l {k} e = go (read_places w f n l) refl e
    where
      go : (x : Read (List B)) → read_places w f n l ≡ x → size_of (times f n) x ≡ wrote k → Granted w f n l × (k ≡ length (print_many f (items_of f (read_places w f n l))))
      go (value bs rest) r e = (granted n l r, rw r (cc))
      go (refused q) r e = absurd (let z : ◌≡◌ {A = ℕ} 0 1 = cc in omega arith)

-- ---- places that were filled
-- a form whose records have at most w bytes, whatever follows them
pub record Narrow {B : Type 0} (w : ℕ) (f : Form B) : Type 0 where
  pub lawful : Lawful f
  pub most : (b : B) (post : List ℕ) → f.fits b post → length (f.print b) ≤ w
  pub anywhere : (b : B) (post post' : List ℕ) → f.fits b post → f.fits b post'

first-none : (o p : Option ℕ) → first o p ≡ none → (o ≡ none) × (p ≡ none)
first-none none p e = (refl, e)
first-none (some q) p e = absurd (let z : ◌≡◌ {A = ℕ} 0 1 = cc in omega arith)

module _ {B : Type 0} (w : ℕ) (f : Form B) (narrow : Narrow w f) where
  length-place : (b : B) (post : List ℕ) → f.fits b post → length (f.print b ++ zeros (w - length (f.print b))) ≡ w
  length-place b post h = length-append (f.print b) (zeros (w - length (f.print b))) ∙ rw length-replicate (omega (arith, narrow.most b post h))

  pub length-places : (bs : List B) (post : List ℕ) → fits_many f bs post → length (print_places w f bs) ≡ w * length bs
  unfolding places.print_places
  length-places [] post h = sym (mul-zero w)
  length-places (b ∷ bs) post h =
      length-append (f.print b ++ zeros (w - length (f.print b))) (print_places w f bs)
      ∙ rw (length-place b (print_many f bs ++ post) h.0, length-places bs post h.1, mul-suc w (length bs)) (omega arith)

  pub filled-reads : (bs : List B) (rest post : List ℕ) → fits_many f bs post → refusal_many f bs ≡ none → read_places w f (length bs) (print_places w f bs ++ rest) ≡ value bs rest
  unfolding places.read_places places.print_places form.refusal_many
  filled-reads [] rest post h n = refl
  filled-reads (b ∷ bs) rest post h n =
      let yes = first-none (f.refusal b) (refusal_many f bs) n in
      let place = f.print b ++ zeros (w - length (f.print b)) in
      let long = length-place b (print_many f bs ++ post) h.0 in
      let behind = print_places w f bs ++ rest in
      let fit = narrow.anywhere b (print_many f bs ++ post) (zeros (w - length (f.print b))) h.0 in
      rw (
        append_assoc place (print_places w f bs) rest,
        take_at place behind w long,
        drop_at place behind w long,
        narrow.lawful.printed b (zeros (w - length (f.print b))) fit,
        yes.0,
        filled-reads bs rest post h.1 yes.1,
      )

  -- and a row has for them what they print
  pub filled-bytes : (size : List ℕ → ℕ) → Placed w f size → (bs : List B) (rest post : List ℕ) → fits_many f bs post
      → places_bytes w size (length bs) (print_places w f bs ++ rest) ≡ print_many f bs
  unfolding lent.places_bytes places.print_places form.print_many
  filled-bytes size p [] rest post h = refl
  filled-bytes size p (b ∷ bs) rest post h =
      let pad = zeros (w - length (f.print b)) in
      let behind = print_places w f bs ++ rest in
      let whole : ((f.print b ++ pad) ++ print_places w f bs) ++ rest ≡ (f.print b ++ pad) ++ behind = append_assoc (f.print b ++ pad) (print_places w f bs) rest in
      let front : (f.print b ++ pad) ++ behind ≡ f.print b ++ (pad ++ behind) = append_assoc (f.print b) pad behind in
      let long : size ((f.print b ++ pad) ++ behind) ≡ length (f.print b) = rw front (p.print-place b (print_many f bs ++ post) (pad ++ behind) h.0) in
      let one : take (length (f.print b)) ((f.print b ++ pad) ++ behind) ≡ f.print b = rw front (take_at (f.print b) (pad ++ behind) (length (f.print b)) refl) in
      rw (whole, long, one, drop_at (f.print b ++ pad) behind w (length-place b (print_many f bs ++ post) h.0), filled-bytes size p bs rest post h.1)

-- ---- records that fill their places
module _ {B : Type 0} (w : ℕ) (f : Form B) (law : Lawful f) (exact : (b : B) (post : List ℕ) → f.fits b post → length (f.print b) ≡ w) where
  pub length-exact : (bs : List B) (post : List ℕ) → fits_many f bs post → length (print_many f bs) ≡ w * length bs
  unfolding form.print_many
  length-exact [] post h = sym (mul-zero w)
  length-exact (b ∷ bs) post h =
      length-append (f.print b) (print_many f bs) ∙ rw (exact b (print_many f bs ++ post) h.0, length-exact bs post h.1, mul-suc w (length bs)) (omega arith)

  places-exact : (bs : List B) (post : List ℕ) → fits_many f bs post → print_places w f bs ≡ print_many f bs
  unfolding form.print_many places.print_places
  places-exact [] post h = refl
  places-exact (b ∷ bs) post h = rw (exact b (print_many f bs ++ post) h.0, sub_self, append-nil, places-exact bs post h.1)

  -- those that stand in a row are one run of it
  pub record Run (row : List ℕ) (first count : ℕ) : Type 0 where
    pub inside : first + w * count ≤ length row
    pub bytes : take (w * count) (drop first row) ≡ print_places w f (items f count (drop first row))

  pub run : (row : List ℕ) (from count : ℕ) → Bytes row → Stands f row from count → Run row from count
  run row from count by l =
      let times-law = times-lawful f law count in
      let bs = items f count (drop from row) in
      let found : read_at (times f count) row from ≡ takes bs l.next = items_at f row count from l.so.ends in
      let t = took row from (times f count) times-law by found in
      let fit = times-law.fitted (drop from row) bs (drop l.next row) (bytes_drop from row by) t.reads in
      let whole : print_many f bs ++ drop l.next row ≡ drop from row = times-law.joins (drop from row) bs (drop l.next row) (bytes_drop from row by) t.reads in
      let long : length (print_many f bs) ≡ w * count = length-exact bs (drop l.next row) fit.1 ∙ ap (λ (k : ℕ). w * k) fit.0 in
      record {
        inside = omega (arith, took-next row from (times f count) times-law by found l.so.starts, t.inside, long);
        bytes = ap (λ (x : List ℕ). take (w * count) x) (sym whole) ∙ take_at (print_many f bs) (drop l.next row) (w * count) long ∙ sym (places-exact bs (drop l.next row) fit.1);
      }

-- places of which a row has all bytes are one run of the list
pub bytes-exact : (w n : ℕ) (l : List ℕ) → places_bytes w (λ l. w) n l ≡ take (w * n) l
unfolding lent.places_bytes
bytes-exact w zero l = rw mul-zero
bytes-exact w (suc n) l =
    let n1 : w * suc n ≡ w + w * n = mul-suc w n ∙ omega arith in
    rw (n1, bytes-exact w n (drop w l)) (sym (take-add w (w * n) l))
