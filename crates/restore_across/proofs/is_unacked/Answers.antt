-- `restore_across::is_unacked` meets its contract: the chunks that are searched are the numbers.
use Rattle.std.proofs.Common.{rules, ◌≡◌, ◌-◌, length, take, drop, ◌∙◌, sym, ap, arith}
use Rattle.std.specs.Int.{from_be_bytes, w32}
use Rattle.std.proofs.lemmas.List.{take_all, length-drop, length-take-le}
use Rattle.std.proofs.lemmas.List.Sorted.{answers_always}
use Rattle.restore_across.proofs.Chunks.{roomy, searched}
use Rattle.restore_across.proofs.is_unacked.Goals as goal
use Rattle.restore_across.proofs.is_unacked.Goals.{After-as_chunks}

-- what is cut from a place on is all that stands behind it
rest : (c : After-as_chunks) → take (length c.args.row.now - c.args.owner.unacked) (drop c.args.owner.unacked c.args.row.now) ≡ drop c.args.owner.unacked c.args.row.now
rest c = take_all _ _ (omega (arith, length-drop c.args.owner.unacked c.args.row.now))

-- there are so many chunks
long : (c : After-as_chunks) → length (take c.args.owner.count c.as_chunks.result.0.now) ≡ c.args.owner.count
long c =
    let room = roomy c.args.row.now c.args.owner.unacked c.args.owner.count c.requires.stands in
    length-take-le _ _ (omega (arith, c.as_chunks.ensures.front_len, ap (λ l. length l) (rest c), room))

pub slice_bounds-binary_search_by_key-end : goal.slice_bounds-binary_search_by_key-end
slice_bounds-binary_search_by_key-end c = sym (long (goal.at.slice_bounds-binary_search_by_key-end c).After-as_chunks)

pub returns : goal.returns
returns c =
    let a = c.args in
    let facts = c.binary_search_by_key.ensures in
    let by_key = facts.position (from_be_bytes w32) (answers_always _ _ _ (λ f a r g called. search rules)) in
    let before = (goal.at.returns c).After-as_chunks in
    c.is_ok.ensures.value
    ∙ searched a.row.now a.owner.unacked a.owner.count c.requires.stands _ (rest before) c.as_chunks.result.0.now c.as_chunks.ensures.front
    a.msgno c.requires.highest c.requires.rises (long before) c.binary_search_by_key.result facts.bound by_key
