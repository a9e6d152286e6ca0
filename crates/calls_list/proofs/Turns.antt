-- A list of calls, turn by turn: what the calls from the i-th on would answer and leave, of what stands before it, is what all would.
-- Assumes nothing.
use Prim.Native.Nat.{ℕ, suc, ◌+◌, ◌-◌, ◌*◌, ◌≤◌, ◌<◌}
use mathlib.Core.List.{List, [], ◌∷◌}
use mathlib.Core.Bool.{true≢false, false≢true}
use mathlib.Core.Option.{Option, none, some}
use mathlib.Core.Path.{◌≡◌, refl, sym, ap, ap₂, ◌∙◌, subst}
use native.Mathlib.Omega.{arith}
use lib.ListN.{length, drop}
use lib.Seq.{drop-drop}
use Rattle.std.specs.Prelude.{Some, None, is_some, unwrap_or, option_map}
use Rattle.layout.specs.RowLaws.{Bytes}
use Rattle.put.specs.Put as storing
use Rattle.put.specs.Put.{put}
use Rattle.put.proofs.Put.{put-append}
use Rattle.ledger.specs.Call.{Call, Answer, granted, advanced, truth, number, wrote, said, refused, refused_at}
use Rattle.calls_step.specs.Input.{Input}
use Rattle.calls_step.specs.Step.{step}
use Rattle.calls_step.specs.Legal.{last_left}
use Rattle.calls_step.specs.Replay.{answers, left}
use Rattle.calls_step.specs.Proved.{HIGHEST}
use Rattle.calls_step.proofs.Proved.{proved}
use Rattle.calls_step.proofs.Replay.{last-left}
use Rattle.calls_code.specs.declared.Numbers.{Numbers}
use Rattle.calls_code.specs.Coded.{six}
use Rattle.calls_session.specs.declared.Session.{Session}
use Rattle.calls_session.specs.declared.CallLeft.{CallLeft}
use Rattle.calls_session.specs.Session.{store_at, moved_by, LeftAs, Ran}
use Rattle.calls_code.specs.Encoding as encoding
use Rattle.calls_code.specs.Encoding.{call_in, followed_by, calls_from, most_calls, calls_of, six_of, numbers_of}
use Rattle.calls_list.specs.Replay.{placed_by, Replayed}
use Rattle.calls_list.proofs.Typed.{typed-calls}

six-long : (a : Answer) → length (six_of a) ≡ 6
six-long granted = refl
six-long (advanced b n) = refl
six-long (truth b) = refl
six-long (number n) = refl
six-long (wrote n) = refl
six-long (said n line) = refl
six-long (refused q) = refl
six-long (refused_at q i) = refl

-- the numbers that are there are the answer's
numbers-said : (r : CallLeft) (a : Answer) {n : Numbers} → r.answer ≡ Some n → option_map six r.answer ≡ Some (six_of a) → six n ≡ six_of a
numbers-said r a is says = ap (λ o. unwrap_or o []) (sym (ap (option_map six) is) ∙ says)

module _ (run records numbers : List ℕ) (most : ℕ) where
  -- ---- the calls from the i-th on
  abbrev pub rest : ℕ → List Call
  rest i = calls_from (most - i) run records (drop (6 * i) numbers)

  abbrev pub call_at : ℕ → Option Call
  call_at i = call_in run records (drop (6 * i) numbers)

  six-behind : (i : ℕ) → drop 6 (drop (6 * i) numbers) ≡ drop (6 * (i + 1)) numbers
  six-behind i = drop-drop 6 (6 * i) numbers ∙ ap (λ (n : ℕ). drop n numbers) behind
    where
      behind : 6 * i + 6 ≡ 6 * (i + 1)
      behind = omega arith

  next-rest : (i : ℕ) → i < most → rest i ≡ followed_by (call_at i) (rest (i + 1))
  unfolding encoding.calls_from
  next-rest i h =
      ap (λ (n : ℕ). calls_from n run records (drop (6 * i) numbers)) more
      ∙ ap (λ (l : List ℕ). followed_by (call_at i) (calls_from (most - (i + 1)) run records l)) (six-behind i)
    where
      more : most - i ≡ suc (most - (i + 1))
      more = omega (arith, h)

  no-rest : (i : ℕ) → most ≤ i → rest i ≡ []
  unfolding encoding.calls_from
  no-rest i h = ap (λ (n : ℕ). calls_from n run records (drop (6 * i) numbers)) none_left
    where
      none_left : most - i ≡ 0
      none_left = omega (arith, h)

  -- ---- what is still to come: h₀, the store's place at₀ and the answers' list before were there at first
  module _ (h₀ : Input) (at₀ before : List ℕ) where
    abbrev all : List Call
    all = calls_from most run records numbers

    pub record ToCome (cs : List Call) (i : ℕ) (h : Input) (at now : List ℕ) : Type 0 where
      pub leaves : left HIGHEST cs h ≡ left HIGHEST all h₀
      pub moves : placed_by cs (drop (6 * i) numbers) h at ≡ placed_by all numbers h₀ at₀
      pub says : put now (6 * i) (numbers_of (answers HIGHEST cs h)) ≡ put before 0 (numbers_of (answers HIGHEST all h₀))

    -- nothing is
    pub record Came (h : Input) (at now : List ℕ) : Type 0 where
      pub leaves : h ≡ left HIGHEST all h₀
      pub moves : at ≡ placed_by all numbers h₀ at₀
      pub says : now ≡ put before 0 (numbers_of (answers HIGHEST all h₀))

    ended : {cs : List Call} (i : ℕ) {h : Input} {at now : List ℕ} → cs ≡ [] → ToCome cs i h at now → Came h at now
    unfolding encoding.numbers_of storing.put
    ended i {h} {at} {now} e t = record {
      leaves = ap (λ (l : List Call). left HIGHEST l h) (sym e) ∙ t.leaves;
      moves = ap (λ (l : List Call). placed_by l (drop (6 * i) numbers) h at) (sym e) ∙ t.moves;
      says = ap (λ (l : List Call). put now (6 * i) (numbers_of (answers HIGHEST l h))) (sym e) ∙ t.says;
    }

    module _ (i : ℕ) {h after : Input} {now : List ℕ} {r : CallLeft} where
      -- one call of these is made
      made : (at : List ℕ) (c : Call) (cs : List Call) {n : Numbers} → r.answer ≡ Some n → LeftAs (step HIGHEST c h) (moved_by c (step HIGHEST c h).answer (drop (6 * i) numbers) at) after r
          → ToCome (c ∷ cs) i h at now → ToCome cs (i + 1) after (store_at r.session) (put now (6 * i) (six n))
      unfolding encoding.numbers_of
      made at c cs answer l t =
          let last = last_left h (step HIGHEST c h) in
          let six-numbers = six_of (step HIGHEST c h).answer in
          let same : after ≡ last = l.stands ∙ sym (last-left HIGHEST c h) in
          let behind : 6 * (i + 1) ≡ 6 * i + length six-numbers = omega (arith, six-long (step HIGHEST c h).answer) in
          record {
            leaves = ap (left HIGHEST cs) same ∙ t.leaves;
            moves =
                ap₂ (λ (x : Input) (a : List ℕ). placed_by cs (drop (6 * (i + 1)) numbers) x a) same l.placed
                ∙ ap (λ (ns : List ℕ). placed_by cs ns last (moved_by c (step HIGHEST c h).answer (drop (6 * i) numbers) at)) (sym (six-behind i))
                ∙ t.moves;
            says =
                ap₂ (λ (a : List ℕ) (x : Input). put (put now (6 * i) a) (6 * (i + 1)) (numbers_of (answers HIGHEST cs x))) (numbers-said r (step HIGHEST c h).answer answer l.said) same
                ∙ ap (λ (n : ℕ). put (put now (6 * i) six-numbers) n (numbers_of (answers HIGHEST cs last))) behind
                ∙ sym (put-append now (6 * i) six-numbers (numbers_of (answers HIGHEST cs last)))
                ∙ t.says;
          }

      ran : (s : Session) (x : Option Call) (cs : List Call) {n : Numbers} → r.answer ≡ Some n → Ran x (drop (6 * i) numbers) s h after r → ToCome (followed_by x cs) i h (store_at s) now
          → ToCome cs (i + 1) after (store_at r.session) (put now (6 * i) (six n))
      ran s none cs answer l t = absurd (true≢false (ap is_some (sym answer ∙ ap (λ (y : CallLeft). y.answer) l.is.0)))
      ran s (some c) cs answer l t = made (store_at s) c cs answer l.is t

      stopped : (s : Session) (x : Option Call) (cs : List Call) → r.answer ≡ None → Ran x (drop (6 * i) numbers) s h after r → ToCome (followed_by x cs) i h (store_at s) now → Came after (store_at r.session) now
      stopped s none cs unanswered l t =
          let came = ended i refl t in
          record { leaves = l.is.1 ∙ came.leaves; moves = ap (λ (y : CallLeft). store_at y.session) l.is.0 ∙ came.moves; says = came.says }
      stopped s (some c) cs unanswered l t = absurd (false≢true (ap is_some (sym (ap (option_map six) unanswered) ∙ l.is.said)))

      -- ---- the loop: a turn, a turn whose numbers are no call, and behind the last
      pub turn : {s : Session} {these now' : List ℕ} {n : Numbers} → i < most → r.answer ≡ Some n → these ≡ drop (6 * i) numbers → Ran (call_in run records these) these s h after r → now' ≡ put now (6 * i) (six n)
          → ToCome (rest i) i h (store_at s) now → ToCome (rest (i + 1)) (i + 1) after (store_at r.session) now'
      turn lt answer at_here l stored t = rw stored (ran _ (call_at i) (rest (i + 1)) answer (rw at_here at l) (rw (next-rest i lt) at t))

      pub stop : {s : Session} {these : List ℕ} → i < most → r.answer ≡ None → these ≡ drop (6 * i) numbers → Ran (call_in run records these) these s h after r → ToCome (rest i) i h (store_at s) now
          → Came after (store_at r.session) now
      stop lt unanswered at_here l t = stopped _ (call_at i) (rest (i + 1)) unanswered (rw at_here at l) (rw (next-rest i lt) at t)

    pub end : (i : ℕ) {h : Input} {at now : List ℕ} → most ≤ i → ToCome (rest i) i h at now → Came h at now
    end i le t = ended i (no-rest i le) t

    pub begin : ToCome (rest 0) 0 h₀ at₀ before
    begin = rw whole (record { leaves = refl; moves = refl; says = refl })
      where
        whole : most - 0 ≡ most
        whole = omega arith

-- what stands at the end is what all calls leave, and they agree with the ledger
pub replayed : (run records numbers : List ℕ) (room : ℕ) {most : ℕ} {s r : Session} {h₀ h : Input} {before now : List ℕ} → most ≡ most_calls (length numbers) room → Bytes run
    → Came run records numbers most h₀ (store_at s) before h (store_at r) now → Replayed (calls_of run records numbers room) numbers s r h₀ h before now
replayed run records numbers room {most} {s} {r} {h₀} {h} {before} {now} e bytes came =
    let typed = typed-calls run records bytes most numbers in
    subst (λ (m : ℕ). Replayed (calls_from m run records numbers) numbers s r h₀ h before now) e
    (record {
      left = came.leaves;
      placed = came.moves;
      said = came.says;
      typed = typed;
      agreed = λ l sound stands. proved.lists.replayed l sound h₀ stands (calls_from most run records numbers) typed;
    })
