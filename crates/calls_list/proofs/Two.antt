-- Two runs of a list of calls, in memory that stands for states that are alike.
-- Assumes nothing.
use mathlib.Core.List.{List, [], ◌∷◌}
use mathlib.Core.Path.{◌≡◌, refl, sym, ap, ap₂, ◌∙◌}
use Rattle.put.specs.Put.{put}
use Rattle.ledger.specs.Call.{Call, Answer}
use Rattle.calls_step.specs.Input.{Input}
use Rattle.calls_step.specs.Two.{AlikeAll}
use Rattle.calls_step.specs.Replay.{replay, answers, AllAlike}
use Rattle.calls_step.specs.Proved.{HIGHEST}
use Rattle.calls_step.proofs.Proved.{proved}
use Rattle.calls_code.specs.Encoding.{numbers_of}
use Rattle.calls_list.specs.Replay.{TwoRuns}

same-answers : (cs ds : List Call) (h i : Input) → AllAlike cs ds → AlikeAll HIGHEST (replay HIGHEST cs h) (replay HIGHEST ds i) → answers HIGHEST cs h ≡ answers HIGHEST ds i
same-answers [] [] h i calls turns = refl
same-answers [] (d ∷ ds) h i calls turns = absurd calls
same-answers (c ∷ cs) [] h i calls turns = absurd calls
same-answers (c ∷ cs) (d ∷ ds) h i calls turns = ap₂ (λ (a : Answer) (l : List Answer). a ∷ l) turns.0.answer (same-answers cs ds _ _ calls.1 turns.1)

pub two_runs : TwoRuns
two_runs cs ds m n s r s' r' h after i after' before now now' one other calls lengths l k states sound sound' stands stands' =
    let alike = proved.lists.two-replays l k states sound sound' h i stands stands' lengths cs ds calls one.typed other.typed in
    (alike, one.said ∙ ap (λ (x : List Answer). put before 0 (numbers_of x)) (same-answers cs ds h i calls alike.turns) ∙ sym other.said)
