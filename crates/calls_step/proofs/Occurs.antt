-- Every list of calls, with any lengths lent to each, occurs: the theorems about legal lists are about all of them.
-- Assumes nothing.
use Prim.Native.Nat.{ℕ, ◌+◌, ◌-◌, ◌*◌, ◌/◌, ◌^◌, ◌≤◌, min}
use mathlib.Core.List.{List, [], ◌∷◌, ◌++◌}
use mathlib.Core.Path.{◌≡◌, refl, sym, ap, ◌∙◌, subst}
use native.Mathlib.Omega.{arith}
use lib.ListN.{length, take, length-append, length-replicate, length-take}
use lib.Seq.{take-take, take-append-le}
use Rattle.layout.specs.Veil.{zeros}
use Rattle.rows.specs.Values.{Contact}
use Rattle.contact.specs.Contact.{contact_of}
use Rattle.contact.specs.declared.Contact.{Contact as Struct}
use Rattle.calls_step.specs.declared.Mark.{Mark}
use Rattle.calls_step.specs.declared.Mark.TheVariants.{Fresh, Restored, Opened}
use Rattle.calls_step.specs.Input.{Input, lent_of}
use Rattle.ledger.specs.Call.{Lent}
use Rattle.calls_step.specs.Step.{step}
use Rattle.ledger.specs.Ledger.{Ledger, nothing, restored, opened, current, ledger}
use Rattle.calls_step.specs.Legal.{Turn, SameItems, SameLists, StoreAgain, FieldsAgain, Continues, last_left, made, Legal}
use Rattle.calls_step.specs.Replay.{turn}
use Rattle.calls_step.specs.Request.{Request, Serves, RequestsTyped, Served}
use Rattle.calls_step.specs.Stands.{Holds, HoldsAll, LastLeft}
use Rattle.calls_step.proofs.Stands.{continued-stands}
use Rattle.calls_step.proofs.Every.{Kept, begun, call-good, kept_next}

-- ---- a list of n places, with those of l as far as it goes
unfoldable pub fitted : ℕ → List ℕ → List ℕ
fitted n l = take n l ++ zeros (n - length l)

fitted-long : (n : ℕ) (l : List ℕ) → length (fitted n l) ≡ n
unfolding fitted
fitted-long n l = length-append (take n l) (zeros (n - length l)) ∙ simp (length-take, length-replicate) (omega arith)

fitted-front : (k n : ℕ) (l : List ℕ) → k ≤ n → k ≤ length l → take k (fitted n l) ≡ take k l
unfolding fitted
fitted-front k n l a b = take-append-le k (take n l) (zeros (n - length l)) (rw length-take (omega arith)) ∙ take-take k n l a

holds-room : (w n : ℕ) (items l : List ℕ) → Holds w n items l → w * n ≤ length l
holds-room w n items l h = omega (arith, h.long, length-take (w * n) l, ap length h.front)

-- so many whole items of it are those that were left
module _ (n c : ℕ) (items l : List ℕ) where
  items-51 : Holds 51 c items l → SameItems 51 c l (fitted n l)
  items-51 h = fitted-front (51 * min c (length (fitted n l) / 51)) n l (omega (arith, fitted-long n l)) (omega (arith, holds-room 51 c items l h))

  items-46 : Holds 46 c items l → SameItems 46 c l (fitted n l)
  items-46 h = fitted-front (46 * min c (length (fitted n l) / 46)) n l (omega (arith, fitted-long n l)) (omega (arith, holds-room 46 c items l h))

  items-2 : Holds 2 c items l → SameItems 2 c l (fitted n l)
  items-2 h = fitted-front (2 * min c (length (fitted n l) / 2)) n l (omega (arith, fitted-long n l)) (omega (arith, holds-room 2 c items l h))

  items-1 : Holds 1 c items l → SameItems 1 c l (fitted n l)
  items-1 h = fitted-front (1 * min c (length (fitted n l) / 1)) n l (omega (arith, fitted-long n l)) (omega (arith, holds-room 1 c items l h))

-- ---- what was left, with other lengths lent
unfoldable pub again : Input → Lent → Input
again g e = record {
  mark = g.mark;
  run = g.run;
  entries = g.entries;
  contact = g.contact;
  lists = record {
    chains = fitted e.chains g.lists.chains;
    skipped = fitted e.skipped g.lists.skipped;
    above = fitted e.above g.lists.above;
    unacked = fitted e.unacked g.lists.unacked;
    expired = fitted e.expired g.lists.expired;
  };
  out = zeros e.out;
}

lent_again : (g : Input) (e : Lent) → lent_of (again g e) ≡ e
unfolding again
lent_again g e = λ i. record {
  chains = fitted-long e.chains g.lists.chains i;
  skipped = fitted-long e.skipped g.lists.skipped i;
  above = fitted-long e.above g.lists.above i;
  unacked = fitted-long e.unacked g.lists.unacked i;
  expired = fitted-long e.expired g.lists.expired i;
  out = length-replicate {A = ℕ} e.out 0 i;
}

store-again : (m : Mark) (g : Input) (e : Lent) → StoreAgain m g (again g e)
unfolding again
store-again Fresh g e = tt
store-again Restored g e = record { run = refl; entries = refl }
store-again (Opened k) g e = record { run = refl; entries = refl }

lists-again : (v : Contact) (g : Input) (e : Lent) → g.contact ≡ contact_of v → HoldsAll v g.lists → SameLists g.contact g.lists (again g e).lists
unfolding again
lists-again v g e c h =
    subst (λ (x : Struct). SameLists x g.lists (again g e).lists) (sym c)
    (record {
      chains = items-51 e.chains (length v.chains) _ g.lists.chains h.chains;
      skipped = items-46 e.skipped (length v.skipped) _ g.lists.skipped h.skipped;
      above = items-2 e.above (length v.above) _ g.lists.above h.above;
      unacked = items-1 e.unacked (length v.unacked) _ g.lists.unacked h.unacked;
      expired = items-2 e.expired (length v.expired) _ g.lists.expired h.expired;
    })

module _ (N : ℕ) (wide : N + 1 ≡ 256 ^ 4) where
  fields-again : (l : Ledger) (g : Input) (e : Lent) → LastLeft N l g → FieldsAgain g.mark g (again g e)
  unfolding again
  fields-again nothing g e k = subst (λ (m : Mark). FieldsAgain m g (again g e)) (sym k) tt
  fields-again (restored run es) g e k = subst (λ (m : Mark). FieldsAgain m g (again g e)) (sym k.0) tt
  fields-again (opened run es o) g e k = subst (λ (m : Mark). FieldsAgain m g (again g e)) (sym k.0) (refl, lists-again (current N o) g e k.2.contact k.2.lists)

  continued-again : (l : Ledger) (g : Input) (e : Lent) → LastLeft N l g → Continues g (again g e)
  unfolding again
  continued-again l g e k = record { mark = refl; store = store-again g.mark g e; fields = fields-again l g e k }

  -- ---- the calls, each handed what was left with the lengths that are to be lent to it
  abbrev pub serving : List Request → Input → List Turn
  serving [] g = []
  serving (w ∷ ws) g = let t = turn w.call (again g w.lent) in t ∷ serving ws (last_left g (made N t))

  pub served : (ws : List Request) (g : Input) → Serves ws (serving ws g)
  served [] g = tt
  served (w ∷ ws) g = (refl, lent_again g w.lent, served ws _)

  all-legal : (ws : List Request) → RequestsTyped N ws → (l : Ledger) (g : Input) → Kept N wide l g → Legal N g (serving ws g)
  all-legal [] t l g k = tt
  all-legal (w ∷ ws) t l g k =
      let h = again g w.lent in
      let given = continued-again l g w.lent k.left in
      let good = call-good N wide w.call t.0 l k.sound h (continued-stands N l g h k.left given) in
      (t.0, given, all-legal ws t.1 (ledger N w.call (lent_of h) l).state (last_left g (step N w.call h)) (kept_next N wide l g h _ _ k good))

  pub serving-legal : (g : Input) → g.mark ≡ Fresh → (ws : List Request) → RequestsTyped N ws → Legal N g (serving ws g)
  serving-legal g m ws t = all-legal ws t nothing g (begun N wide g m)

  pub occurs : (g : Input) → g.mark ≡ Fresh → (ws : List Request) → RequestsTyped N ws → Served N g ws
  occurs g m ws t = record { turns = serving ws g; legal = serving-legal g m ws t; serves = served ws g }
