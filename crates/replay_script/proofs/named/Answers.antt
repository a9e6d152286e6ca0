-- What an iterator finds is the first row with this name.
use Rattle.std.proofs.Common.{◌≡◌, rules, tests, Bor, List, ℕ, find, option_map}
use Rattle.std.specs.Str.{bytes_eq}
use Rattle.std.proofs.lemmas.Iterator.{YieldsList-from_slice}
use Rattle.std.proofs.lemmas.Iterator.Search.{find_from_yields_List}
use Rattle.replay_script.specs.Table.{Form}
use Rattle.replay_script.proofs.named.Goals as goal

pub returns : goal.returns
returns c =
    let test : Bor (List ℕ) × Form → _ = λ row. bytes_eq c.args.word.now row.0.now in
    let row : option_map (λ r. r.now) c.find.result ≡ find test c.args.rows.now =
    find_from_yields_List test _ _ c.find.result c.find.ensures.ran (YieldsList-from_slice c.args.rows.now cc) (λ x b q k. search (rules, tests)) in
    record { first-is = rw (← row) (search rules) }
