-- Each tag has its line.
use native.Mathlib.Omega.{arith}
use Rattle.replay_answer.specs.Transcript.{answer_text}
use Rattle.replay_answer.proofs.Lines.{as_line}
use Rattle.replay_answer.proofs.Answers.{of-tag, is_row, is_said, is-other}
use Rattle.replay_answer.proofs.answer_line.Goals as goal

pub returns-in-0 : goal.returns-in-0
unfolding answer_text
returns-in-0 c = let s = c.args in as_line s.out.now (of-tag s.a s.b s.bytes.now c.in-0.is) c.text_line.ensures

pub returns-in-1 : goal.returns-in-1
unfolding answer_text
returns-in-1 c = let s = c.args in as_line s.out.now (of-tag s.a s.b s.bytes.now c.in-1.is) c.added_line.ensures

pub returns-in-2 : goal.returns-in-2
unfolding answer_text
returns-in-2 c = let s = c.args in as_line s.out.now (of-tag s.a s.b s.bytes.now c.in-2.is) c.truth_line.ensures

pub returns-in-3 : goal.returns-in-3
unfolding answer_text
returns-in-3 c = let s = c.args in as_line s.out.now (of-tag s.a s.b s.bytes.now c.in-3.is) c.number_line.ensures

pub returns-in-4 : goal.returns-in-4
unfolding answer_text
returns-in-4 c = let s = c.args in as_line s.out.now (is_row s.a s.b s.bytes.now c.in-4.is c.first.ensures) c.hex_line.ensures

pub returns-in-5 : goal.returns-in-5
unfolding answer_text
returns-in-5 c =
    let s = c.args in
    as_line s.out.now (is_said s.a s.b s.bytes.now c.in-5.is c.saturating_sub.ensures c.first-in-5.ensures) c.text_line-in-5.ensures

pub returns-in-6 : goal.returns-in-6
unfolding answer_text
returns-in-6 c = let s = c.args in as_line s.out.now (of-tag s.a s.b s.bytes.now c.in-6.is) c.number_line-in-6.ensures

pub returns-in_default : goal.returns-in_default
unfolding answer_text
returns-in_default c =
    let s = c.args in
    as_line s.out.now
    (is-other s.a s.b s.bytes.now {tag = s.tag} (λ e. omega (arith, e)) (λ e. omega (arith, e)) (λ e. omega (arith, e)) (λ e. omega (arith, e)) (λ e. omega (arith, e)) (λ e. omega (arith, e)) (λ e. omega (arith, e)))
    c.place_line.ensures
