-- Reading the row that would be written: part by part, to its first refusal or to the questions 54 and 17 to 24.
-- Assumes nothing.
use Prim.Native.Nat.{ℕ, ◌^◌, ◌<◌}
use mathlib.Core.List.{List, [], ◌++◌, append_assoc, append-nil}
use mathlib.Core.Bool.{true}
use mathlib.Core.Option.{Option, none, some}
use mathlib.Core.Path.{◌≡◌, refl, sym, ap, ◌∙◌}
use native.Mathlib.Omega.{arith}
use Rattle.layout.specs.Questions.{VERSION}
use Rattle.layout.specs.Read.{Read, value, refused, and_then, said}
use Rattle.layout.specs.Form.{Form, bytes_of, read_many}
use Rattle.layout.specs.Layout.{Layout, done, field, parse, print, fits_of, refusal_of, group, optional, list}
use Rattle.layout.specs.Layout as layout
use Rattle.layout.proofs.Lawful.{Lawful}
use Rattle.layout.proofs.Front.{number-lawful}
use Rattle.layout.proofs.Derived.{optional-lawful}
use Rattle.layout.proofs.Steps.{Came, field_is, ask-is}
use Rattle.rows.specs.Values as value
use Rattle.rows.specs.Rows.{pending, send, chain, skipped, contact}
use Rattle.rows.proofs.Lawful.{pending-lawful, send-lawful}
use Rattle.contact_parts.specs.Parts.{Chained, paired, keys, chained, numbers, joined}
use Rattle.contact_parts.specs.Parts as parts
use Rattle.contact_parts.proofs.Parts.{embed, embed-parse, in_parts, after_paired, after_keys, after_chained, consistent}
use Rattle.contact_parts.proofs.Lawful.{paired-lawful, keys-lawful, numbers-lawful}
use Rattle.contact_lists.specs.Places.{read_places}
use Rattle.contact_lent.specs.Lent.{rejoin, chains_bytes, skipped_bytes}
use Rattle.contact_lent.proofs.Laws.{read-chains, read-skipped}
use Rattle.contact.specs.Consistent.{inconsistency}
use Rattle.contact.specs.Contact.{Lists}
use Rattle.contact.specs.declared.Contact.{Contact}
use Rattle.contact.proofs.Consistent.{all_asked}
use Rattle.contact_image.specs.Row as spec
use Rattle.contact_image.specs.Row.{paired_of, keys_of, pending_of, send_of, numbers_of, chained_of, chained_image, image, ContactTyped, ListsTyped}
use Rattle.contact_image.proofs.Counts.{AllCounted}
use Rattle.contact_image.proofs.Fits.{paired-fits, keys-fit, keys-granted, numbers-fits, numbers-granted, pending-fits, pending-granted, send-fits, send-granted}

-- ---- a part that was printed
printed : {A C : Type 0} (part : Layout A) → Lawful (group part) → (get : C → A) (k : A → Layout C) (a : A) (post : List ℕ) (o : Option ℕ) → fits_of part a post → refusal_of part a ≡ o
    → parse (embed part get k) (print part a ++ post) ≡ and_then (said o a post) (λ b rest. parse (k b) rest)
printed {A} part law get k a post o fits e =
    embed-parse part get k (print part a ++ post)
    ∙ ap (λ (x : Read A). and_then x (λ b rest. parse (k b) rest)) (law.printed a post fits ∙ ap (λ (o : Option ℕ). said o a post) e)

-- a field that was printed
field-printed : {B : Type 0} (f : Form B) → Lawful f → (b : B) (post : List ℕ) → f.fits b post → f.refusal b ≡ none → f.read (f.print b ++ post) ≡ value b post
field-printed f law b post fits granted = law.printed b post fits ∙ ap (λ (o : Option ℕ). said o b post) granted

-- a counted list, from its count and its items' bytes
list_read : {B : Type 0} (f : Form B) (n : ℕ) (bs post : List ℕ) (x : Read (List B)) → n < 256 ^ 2 → read_many f n (bs ++ post) ≡ x → (list f).read ((bytes_of 2 n ++ bs) ++ post) ≡ x
unfolding layout.parse
list_read {B} f n bs post x few e = rw (append_assoc (bytes_of 2 n) bs post, (number-lawful 2).printed n (bs ++ post) few, e) (same x)
  where
    same : (x : Read (List B)) → and_then x (λ bs rest. value bs rest) ≡ x
    same (value bs rest) = refl
    same (refused q) = refl

module _ (c : Contact) (ty : ContactTyped c) (l : Lists) (all : AllCounted c l) where
  -- ---- what it awaits and sends, and its chains: their bytes, and what reading them gives
  abbrev pends : List ℕ
  pends = (optional (group pending)).print (pending_of c)

  abbrev sends : List ℕ
  sends = (optional (group send)).print (send_of c.send c.send_key)

  abbrev chains : List ℕ
  chains = bytes_of 2 c.chains ++ chains_bytes c.chains l.chains

  abbrev skips : List ℕ
  skips = bytes_of 2 c.skipped ++ skipped_bytes c.skipped l.skipped

  abbrev whole : List value.Chain → List value.Skipped → Chained
  whole cs ks = record { pending = pending_of c; send = send_of c.send c.send_key; chains = cs; skipped = ks }

  abbrev chained_read : Read (List value.Chain) → Read (List value.Skipped) → List ℕ → Read Chained
  chained_read (refused q) y post = refused q
  chained_read (value cs rest) (refused q) post = refused q
  chained_read (value cs rest) (value ks rest') post = value (whole cs ks) post

  last : (post : List ℕ) (cs : List value.Chain) (y : Read (List value.Skipped)) (rest : List ℕ) → and_then (rejoin post y) (λ ks more. parse (done (whole cs ks)) more) ≡ chained_read (value cs rest) y post
  unfolding layout.parse
  last post cs (value ks rest') rest = refl
  last post cs (refused q) rest = refl

  chained-read : (x : Read (List value.Chain)) (y : Read (List value.Skipped)) (post : List ℕ) → read_places 51 (group chain) c.chains l.chains ≡ x
      → read_places 46 (group skipped) c.skipped l.skipped ≡ y → parse chained (chained_image c l ++ post) ≡ chained_read x y post
  unfolding spec.chained_image
  chained-read x y post p q =
      ap (λ (row : List ℕ). parse chained row) regroup
      ∙ field_is (pends ++ (sends ++ (chains ++ (skips ++ post)))) (optional (group pending)) _ _ (value (pending_of c) (sends ++ (chains ++ (skips ++ post))))
      (field-printed (optional (group pending)) (optional-lawful (group pending) pending-lawful) (pending_of c) _ (pending-fits c ty _) (pending-granted c ty))
      ∙ field_is (sends ++ (chains ++ (skips ++ post))) (optional (group send)) _ _ (value (send_of c.send c.send_key) (chains ++ (skips ++ post)))
      (field-printed (optional (group send)) (optional-lawful (group send) send-lawful) (send_of c.send c.send_key) _ (send-fits c ty _) (send-granted c ty))
      ∙ field_is (chains ++ (skips ++ post)) (list (group chain)) _ _ (rejoin (skips ++ post) x)
      (list_read (group chain) c.chains _ (skips ++ post) (rejoin (skips ++ post) x) (omega (arith, all.chains.few)) (read-chains c.chains l.chains (skips ++ post) all.chains.held ∙ ap (λ (z : Read (List value.Chain)). rejoin (skips ++ post) z) p))
      ∙ then x
    where
      regroup : (pends ++ (sends ++ (chains ++ skips))) ++ post ≡ pends ++ (sends ++ (chains ++ (skips ++ post)))
      regroup = append_assoc pends _ post ∙ ap (λ (r : List ℕ). pends ++ r) (append_assoc sends _ post ∙ ap (λ (r : List ℕ). sends ++ r) (append_assoc chains skips post))

      skips-read : (list (group skipped)).read (skips ++ post) ≡ rejoin post y
      skips-read = list_read (group skipped) c.skipped _ post (rejoin post y) (omega (arith, all.skipped.few)) (read-skipped c.skipped l.skipped post all.skipped.held ∙ ap (λ (z : Read (List value.Skipped)). rejoin post z) q)

      then : (x : Read (List value.Chain)) → and_then (rejoin (skips ++ post) x) (λ cs more. parse (field (list (group skipped)) (λ v. v.skipped) (λ ks. done (whole cs ks))) more) ≡ chained_read x y post
      then (refused q) = refl
      then (value cs rest) = field_is (skips ++ post) (list (group skipped)) _ _ (rejoin post y) skips-read ∙ last post cs y rest

  -- ---- the row
  module _ (lt : ListsTyped l) where
    abbrev last-part : List ℕ
    last-part = print numbers (numbers_of c l)

    abbrev from-chained : List ℕ
    from-chained = chained_image c l ++ last-part

    abbrev from-keys : List ℕ
    from-keys = print keys (keys_of c) ++ from-chained

    began : parse (contact 3) (image c l) ≡ parse (embed paired parts.paired_of after_paired) (image c l)
    began = ap (λ (row : Layout value.Contact). parse row (image c l)) (in_parts 3) ∙ ask-is (image c l) VERSION true true _ refl

    pub paired-refused : (q : ℕ) → refusal_of paired (paired_of c) ≡ some q → parse (contact 3) (image c l) ≡ refused q
    unfolding spec.image
    paired-refused q e = began ∙ printed paired paired-lawful parts.paired_of after_paired (paired_of c) from-keys (some q) (paired-fits c ty from-keys) e

    module _ (granted : refusal_of paired (paired_of c) ≡ none) where
      to-chained : (x : Read Chained) → parse chained (chained_image c l ++ last-part) ≡ x
          → parse (contact 3) (image c l) ≡ and_then x (λ ch rest. parse (after_chained (paired_of c) (keys_of c) ch) rest)
      unfolding spec.image
      to-chained x e =
          began ∙ printed paired paired-lawful parts.paired_of after_paired (paired_of c) from-keys none (paired-fits c ty from-keys) granted
          ∙ printed keys keys-lawful parts.keys_of (after_keys (paired_of c)) (keys_of c) from-chained none (keys-fit c ty from-chained) (keys-granted c ty)
          ∙ embed-parse chained parts.chained_of (after_chained (paired_of c) (keys_of c)) from-chained
          ∙ ap (λ (y : Read Chained). and_then y (λ ch rest. parse (after_chained (paired_of c) (keys_of c) ch) rest)) e

      pub chains-refused : (q : ℕ) → read_places 51 (group chain) c.chains l.chains ≡ refused q → parse (contact 3) (image c l) ≡ refused q
      chains-refused q e = to-chained (refused q) (chained-read (refused q) _ last-part e refl)

      module _ (cs : List value.Chain) (rest : List ℕ) (chains : read_places 51 (group chain) c.chains l.chains ≡ value cs rest) where
        pub skipped-refused : (q : ℕ) → read_places 46 (group skipped) c.skipped l.skipped ≡ refused q → parse (contact 3) (image c l) ≡ refused q
        skipped-refused q e = to-chained (refused q) (chained-read (value cs rest) (refused q) last-part chains e)

        pub all_read : (ks : List value.Skipped) (rest' : List ℕ) → read_places 46 (group skipped) c.skipped l.skipped ≡ value ks rest'
            → (v : value.Contact) → joined (paired_of c) (keys_of c) (whole cs ks) (numbers_of c l) ≡ v → parse (contact 3) (image c l) ≡ said (inconsistency v) v []
        all_read ks rest' skips v is =
            let end : Came (consistent (paired_of c) (keys_of c) (whole cs ks) (numbers_of c l)) [] 0 (consistent (paired_of c) (keys_of c) (whole cs ks) (numbers_of c l)) 0 = record { same = refl } in
            to-chained (value (whole cs ks) last-part) (chained-read (value cs rest) (value ks rest') last-part chains skips)
            ∙ ap (λ (row : List ℕ). parse (after_chained (paired_of c) (keys_of c) (whole cs ks)) row) (sym (append-nil last-part))
            ∙ printed numbers numbers-lawful parts.numbers_of (consistent (paired_of c) (keys_of c) (whole cs ks)) (numbers_of c l) [] none (numbers-fits c ty l lt all []) (numbers-granted c ty l lt all)
            ∙ all_asked (paired_of c) (keys_of c) (whole cs ks) (numbers_of c l) end (omega arith)
            ∙ ap (λ (u : value.Contact). said (inconsistency u) u []) is
