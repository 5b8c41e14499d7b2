-- How long a line is, and that a text which was put at the front of a buffer stands there, whole.
use Rattle.std.specs.Prelude.{ℕ, ◌+◌, ◌≤◌, ◌≡◌, refl, List, [], ◌∷◌, ◌++◌, length, take, drop, Ok, Err}
use Rattle.std.proofs.Common.{ap, ◌∙◌, arith, length-append, take_at}
use Rattle.std.proofs.lemmas.List.Edits.{sets, sets-eq}
use Rattle.pairs.specs.declared.Pair.{Pair}
use Rattle.site.specs.Answers.{Message, messages_of, Answer}
use Rattle.text.specs.Decimal.{decimal}
use Rattle.text.specs.Line.{message_text, pair_text, after_commas, tail_text, head_with, line_with, message_tail, message_line}
use Rattle.text.specs.Lines.{longest_line}
use Rattle.text.specs.laws.Decimal.{length-decimal}
use Rattle.text.specs.laws.LineLaws.{length-pair, length-sent, length-head}

-- the first comma becomes the space
length-tail : (i : ℕ) (messages : List Message) → length (tail_text i messages) ≤ length (after_commas i messages) + 3
unfolding tail_text after_commas
length-tail i [] = omega arith
length-tail i (m ∷ ms) = omega (arith, length-append (message_text i m ++ after_commas i ms) (10 ∷ []))

sent-long : (i : ℕ) (answer : Answer) → length (after_commas i (messages_of answer)) ≤ 160
unfolding after_commas
sent-long i (Ok sent) = length-sent i sent.shares sent.commands sent.ack
sent-long i (Err refusal) = omega arith

-- no line is longer than the longest: of an answer,
pub line-short : (number refusal status stamp i : ℕ) (answer : Answer) → length (line_with number refusal status stamp i (messages_of answer)) ≤ longest_line
unfolding line_with
line-short number refusal status stamp i answer =
    omega
    (arith, length-append (head_with number refusal status stamp) (tail_text i (messages_of answer)), length-head number refusal status stamp, length-tail i (messages_of answer), sent-long i answer)

-- and with a message
pub message-short : (number status stamp i : ℕ) (p : Pair) → length (message_line number status stamp i p) ≤ longest_line
unfolding message_line
message-short number status stamp i p =
    omega
    (arith, length-append (head_with number 0 status stamp) (message_tail i p), length-head number 0 status stamp, length-append (decimal i) (pair_text p ++ (10 ∷ [])), length-append (pair_text p) (10 ∷ []), length-decimal i, length-pair p)

pub put_front : (text before : List ℕ) → length text ≤ length before → take (length text) (sets before 0 text) ≡ text
put_front text before h =
    ap (take (length text)) (sets-eq text before 0 (omega (arith, h))) ∙ take_at text (drop (0 + length text) before) (length text) refl
