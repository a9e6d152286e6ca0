-- Covers in another order: turns that agree with the ledger cover as it does, and write the row that it holds.
-- Assumes nothing.
use Prim.Native.Nat.{ℕ, ◌+◌, ◌^◌}
use mathlib.Core.List.{List, [], ◌∷◌, ◌++◌, Perm}
use mathlib.Core.Path.{◌≡◌, refl, sym, ap, ◌∙◌, subst}
use lib.ListN.{length, take, drop}
use lib.Seq.{take_at}
use Rattle.rows.specs.Values.{Range}
use Rattle.calls_step.specs.declared.Mark.TheVariants.{Fresh}
use Rattle.ledger.specs.Call.{Call, Answer, granted, advanced, truth, number, wrote, said, refused, refused_at, is_granted, Lent}
use Rattle.ledger.specs.Ledger.{Ledger, nothing, ledger}
use Rattle.ledger.specs.Orders.{CoverCalls}
use Rattle.ledger.specs.Orders as ledgers
use Rattle.ledger.proofs.Granted.{row_in, WritesRow, write_granted}
use Rattle.ledger.proofs.Orders.{order-laws}
use Rattle.calls_step.specs.Input.{Input, Left, lent_of}
use Rattle.calls_step.specs.Legal.{Turn, made, Legal}
use Rattle.calls_step.specs.Agree.{booked, shown, AgreesAll}
use Rattle.calls_step.specs.Replay.{closing}
use Rattle.calls_step.specs.Request.{Request, Serves}
use Rattle.calls_step.specs.Orders.{CoverTurns, none, more, Writes, CoversThenWrite}
use Rattle.calls_step.proofs.Good.{shown-out}
use Rattle.calls_step.proofs.Every.{every-list}

-- the length in an answer
abbrev length_in : Answer → ℕ
length_in granted = 0
length_in (advanced moved added) = 0
length_in (truth b) = 0
length_in (number n) = 0
length_in (wrote n) = n
length_in (said n line) = n
length_in (refused q) = 0
length_in (refused_at q i) = 0

module _ (N : ℕ) where
  -- ---- a list that agrees with the ledger, in two parts
  parted : (l : Ledger) (ts us : List Turn) → AgreesAll N l (ts ++ us) → AgreesAll N l ts × AgreesAll N (closing N l ts) us
  parted l [] us a = (tt, a)
  parted l (t ∷ ts) us a = let rest = parted (booked N t l).state ts us a.1 in ((a.0, rest.0), rest.1)

  closing-parted : (l : Ledger) (ts us : List Turn) → closing N l (ts ++ us) ≡ closing N (closing N l ts) us
  closing-parted l [] us = refl
  closing-parted l (t ∷ ts) us = closing-parted (booked N t l).state ts us

  -- ---- the ledger is fed calls and lent lengths alone: turns that serve the same requests come to one state
  pub one_state : (l : Ledger) (ws : List Request) (ps qs : List Turn) → Serves ws ps → Serves ws qs → closing N l ps ≡ closing N l qs
  one_state l (w ∷ ws) (t ∷ ts) [] s s' = elim s' [ ]
  one_state l (w ∷ ws) [] qs s s' = elim s [ ]
  one_state l [] (t ∷ ts) qs s s' = elim s [ ]
  one_state l [] [] (u ∷ us) s s' = elim s' [ ]
  one_state l [] [] [] s s' = refl
  one_state l (w ∷ ws) (t ∷ ts) (u ∷ us) s s' =
      let call : t.call ≡ u.call = s.0 ∙ sym s'.0 in
      let lent : lent_of t.input ≡ lent_of u.input = s.1 ∙ sym s'.1 in
      ap (λ (m : Ledger). closing N m ts) (λ i. (ledger N (call i) (lent i) l).state) ∙ one_state (booked N u l).state ws ts us s.2 s'.2

  -- ---- covers
  covered : {ts : List Turn} {rs : List Range} {x : ℕ} (l : Ledger) → AgreesAll N l ts → CoverTurns N ts rs x → CoverCalls N l rs x (closing N l ts)
  covered l a none = ledgers.none l
  covered l a (more t ts r rs moved added total is so c) =
      let lent : Lent = lent_of t.input in
      ledgers.more l _ r rs lent moved added total
      (ap (λ (c : Call). (ledger N c lent l).answer) (sym is) ∙ sym (ap (λ (x : Left). x.answer) a.0) ∙ so)
      (subst (λ (c : Call). CoverCalls N (ledger N c lent l).state rs total (closing N (booked N t l).state ts)) is (covered (booked N t l).state a.1 c))

  -- ---- a write
  row_written : (l : Ledger) (w : Turn) (row : List ℕ) → made N w ≡ shown N (booked N w l) w.input → Writes N w row → row ≡ row_in N l
  row_written l w row a writes =
      let so : (booked N w l).answer ≡ wrote (length row) = sym (ap (λ (x : Left). x.answer) a) ∙ writes.answer in
      let row-of : WritesRow N l (booked N w l) =
      subst (λ (c : Call). is_granted (ledger N c (lent_of w.input) l).answer ≡ is_granted (wrote (length row)) → WritesRow N l (ledger N c (lent_of w.input) l)) (sym writes.call)
      (write_granted N (lent_of w.input) l) (ap is_granted so) in
      let behind : List ℕ = drop (length (booked N w l).output) w.input.out in
      sym writes.front
      ∙ ap (λ (x : Left). take (length row) x.after.out) a
      ∙ ap (take (length row)) (shown-out N (booked N w l) w.input)
      ∙ ap (λ (x : List ℕ). take (length row) (x ++ behind)) row-of.output
      ∙ take_at (row_in N l) behind (length row) (ap length_in (sym row-of.answer ∙ so))

-- ---- two orders
module _ (N : ℕ) (wide : N + 1 ≡ 256 ^ 4) (g : Input) (fresh : g.mark ≡ Fresh) where
  -- turns behind others agree with the ledger from the state that those come to
  behind : (ps ts : List Turn) → Legal N g (ps ++ ts) → AgreesAll N (closing N nothing ps) ts
  behind ps ts legal = (parted N nothing ps ts (every-list N wide g fresh (ps ++ ts) legal)).1

  pub same-state : (ps qs : List Turn) → closing N nothing ps ≡ closing N nothing qs → (ts us : List Turn) → Legal N g (ps ++ ts) → Legal N g (qs ++ us)
      → (rs ss : List Range) (x y : ℕ) → CoverTurns N ts rs x → CoverTurns N us ss y → Perm rs ss → (closing N nothing (ps ++ ts) ≡ closing N nothing (qs ++ us)) × (x ≡ y)
  same-state ps qs one ts us legal legal' rs ss x y c d p =
      let k : Ledger = closing N nothing qs in
      let first = subst (λ (l : Ledger). CoverCalls N l rs x (closing N (closing N nothing ps) ts)) one (covered N (closing N nothing ps) (behind ps ts legal) c) in
      let same = (order-laws N).any_order k _ _ rs ss x y first (covered N k (behind qs us legal') d) p in
      (closing-parted N nothing ps ts ∙ same.0 ∙ sym (closing-parted N nothing qs us), same.1)

  -- covers and a write, by the ledger: to some state, whose row is written
  record Ended (l : Ledger) (rs : List Range) (total : ℕ) (row : List ℕ) : Type 0 where
    state : Ledger
    covers : CoverCalls N l rs total state
    row_is : row ≡ row_in N state

  ended : (ps : List Turn) (rs : List Range) (x : ℕ) (row : List ℕ) → CoversThenWrite N g ps rs x row → Ended (closing N nothing ps) rs x row
  ended ps rs x row s =
      let l : Ledger = closing N nothing ps in
      let m : Ledger = closing N l s.turns in
      let a = parted N l s.turns (s.last ∷ []) (behind ps (s.turns ++ s.last ∷ []) s.legal) in
      record { state = m; covers = covered N l a.0 s.covers; row_is = row_written N m s.last row a.1.0 s.writes }

  pub any_order : (ps qs : List Turn) → closing N nothing ps ≡ closing N nothing qs → (rs ss : List Range) (x y : ℕ) (row other : List ℕ)
      → CoversThenWrite N g ps rs x row → CoversThenWrite N g qs ss y other → Perm rs ss → (row ≡ other) × (x ≡ y)
  any_order ps qs one rs ss x y row other s s' p =
      let first : Ended (closing N nothing qs) rs x row = subst (λ (l : Ledger). Ended l rs x row) one (ended ps rs x row s) in
      let second = ended qs ss y other s' in
      let same = (order-laws N).any_order (closing N nothing qs) first.state second.state rs ss x y first.covers second.covers p in
      (first.row_is ∙ ap (row_in N) same.0 ∙ sym second.row_is, same.1)
