-- How long the parts of a line can be, and how messages are put one after another.
use Rattle.std.specs.Prelude.{ℕ, suc, ◌+◌, ◌*◌, ◌-◌, ◌≤◌, ◌≡◌, refl, Bool, true, false, List, [], ◌∷◌, ◌++◌, map, leb, length, set, Option, None, Some}
use Rattle.std.proofs.Common.{sym, ap, subst, ◌∙◌, append_assoc, append-nil, arith, leb-true, leb-false, le-leb, length-append, set-set}
use Rattle.std.proofs.lemmas.Bool.{lt-leb}
use Rattle.std.proofs.lemmas.List.Edits.{sets}
use Rattle.pairs.specs.declared.Pair.{Pair}
use Rattle.pairs.specs.declared.Pairs.{Pairs}
use Rattle.pairs.specs.declared.Pairs.TheVariants.{Zero, One, Two}
use Rattle.pairs.specs.Pair.{listed, listed_known}
use Rattle.site.specs.declared.Site.{Site}
use Rattle.site.specs.Answers.{Message, Share, Command, Ack}
use Rattle.text.specs.Puts.{Puts, then, room-after, set_front}
use Rattle.text.specs.Outputs.{node_room}
use Rattle.text.specs.Decimal.{decimal}
use Rattle.text.specs.laws.Decimal.{length-decimal}
use Rattle.text.specs.Line.{pair_text, message_text, node_text, lettered, all_lettered, after_commas, head_with, tail_text, shown_status, shown_stamp, line_with, line_of, message_tail, message_line}
use Rattle.text.specs.Lines.{longest_line, line_bytes, line_next}

-- nothing put
pub puts-nothing : (l : List ℕ) (at : ℕ) → Puts l at [] l at
puts-nothing l at = record { bytes = refl; place = omega arith }

pub length-pair : (p : Pair) → length (pair_text p) ≤ 22
length-pair p = omega (arith, length-decimal p.stamp.0)

pub length-headed : (x y : ℕ) (p : Pair) → length (x ∷ y ∷ pair_text p) ≤ 24
length-headed x y p = omega (arith, length-pair p)

pub node-short : (of : Option ℕ) → length (node_text of) ≤ node_room of
node-short None = omega arith
node-short (Some i) = length-decimal i

pub length-lettered : (first : ℕ) (of : Option ℕ) (p : Pair) → length (lettered first of p) ≤ 24 + node_room of
length-lettered first of p = omega (arith, length-append (node_text of) (pair_text p), node-short of, length-pair p)

-- one message, with its comma
pub one-message : (i : ℕ) (m : Message) → after_commas i (m ∷ []) ≡ 44 ∷ message_text i m
unfolding after_commas
one-message i m = ap (λ (l : List ℕ). 44 ∷ l) (append-nil (message_text i m))

pub two-messages : (i : ℕ) (m k : Message) → after_commas i (m ∷ k ∷ []) ≡ (44 ∷ message_text i m) ++ (44 ∷ message_text i k)
unfolding after_commas
two-messages i m k = ap (λ (l : List ℕ). 44 ∷ (message_text i m ++ (44 ∷ l))) (append-nil (message_text i k))

pub commas-append : (i : ℕ) (ms ks : List Message) → after_commas i (ms ++ ks) ≡ after_commas i ms ++ after_commas i ks
unfolding after_commas
commas-append i [] ks = refl
commas-append i (m ∷ ms) ks =
    ap (λ (l : List ℕ). 44 ∷ l) (ap (λ (l : List ℕ). message_text i m ++ l) (commas-append i ms ks) ∙ sym (append_assoc (message_text i m) (after_commas i ms) (after_commas i ks)))

pub no-message : (i : ℕ) → after_commas i [] ≡ []
unfolding after_commas
no-message i = refl

no_longer : {xs ys : List ℕ} {k : ℕ} → xs ≡ ys → length ys ≤ k → length xs ≤ k
no_longer e h = rw e h

-- shares name their node, and commands none
pub shares-lettered : (i : ℕ) (shares : Pairs) → after_commas i (map Share (listed shares)) ≡ all_lettered 83 (Some i) shares
shares-lettered i Zero = no-message i
shares-lettered i (One p) = one-message i (Share p)
shares-lettered i (Two p q) = two-messages i (Share p) (Share q)

pub commands-lettered : (i : ℕ) (commands : Pairs) → after_commas i (map Command (listed commands)) ≡ all_lettered 67 None commands
commands-lettered i Zero = no-message i
commands-lettered i (One p) = one-message i (Command p)
commands-lettered i (Two p q) = two-messages i (Command p) (Command q)

pub length-all : (first : ℕ) (of : Option ℕ) (pairs : Pairs) → length (all_lettered first of pairs) ≤ 2 * (24 + node_room of)
length-all first of Zero = omega arith
length-all first of (One p) = omega (arith, length-lettered first of p)
length-all first of (Two p q) = omega (arith, length-append (lettered first of p) (lettered first of q), length-lettered first of p, length-lettered first of q)

pub length-shares : (i : ℕ) (shares : Pairs) → length (after_commas i (map Share (listed shares))) ≤ 88
length-shares i shares = no_longer (shares-lettered i shares) (length-all 83 (Some i) shares)

pub length-commands : (i : ℕ) (commands : Pairs) → length (after_commas i (map Command (listed commands))) ≤ 48
length-commands i commands = no_longer (commands-lettered i commands) (length-all 67 None commands)

pub length-ack : (i : ℕ) (ack : Option Pair) → length (after_commas i (map Ack (listed_known ack))) ≤ 24
length-ack i (Some p) = no_longer (one-message i (Ack p)) (length-lettered 65 None p)
length-ack i None = no_longer (no-message i) (omega arith)

-- ---- parts of a line, put

-- the same text by another name
pub puts-as : {l k s t : List ℕ} {i j : ℕ} → t ≡ s → Puts l i s k j → Puts l i t k j
puts-as {l} {k} {s} {t} {i} {j} e p = subst (λ (x : List ℕ). Puts l i x k j) (sym e) p

module _ (i : ℕ) (x : Option Pair) where
  pub ack-yes : (p : Pair) → x ≡ Some p → after_commas i (map Ack (listed_known x)) ≡ lettered 65 None p
  ack-yes p e = ap (λ (y : Option Pair). after_commas i (map Ack (listed_known y))) e ∙ one-message i (Ack p)

  pub ack-no : x ≡ None → after_commas i (map Ack (listed_known x)) ≡ []
  ack-no e = ap (λ (y : Option Pair). after_commas i (map Ack (listed_known y))) e ∙ no-message i

pub three-lists : (i : ℕ) (xs ys zs : List Message) → after_commas i (xs ++ (ys ++ zs)) ≡ after_commas i xs ++ (after_commas i ys ++ after_commas i zs)
three-lists i xs ys zs = commas-append i xs (ys ++ zs) ∙ ap (λ (l : List ℕ). after_commas i xs ++ l) (commas-append i ys zs)

-- what was sent, by what each of the three puts
pub sent-lettered : (i : ℕ) (shares commands : Pairs) (ack : Option Pair) (acks : List ℕ) → after_commas i (map Ack (listed_known ack)) ≡ acks
    → after_commas i (map Share (listed shares) ++ (map Command (listed commands) ++ map Ack (listed_known ack))) ≡ all_lettered 83 (Some i) shares ++ (all_lettered 67 None commands ++ acks)
sent-lettered i shares commands ack acks e =
    three-lists i (map Share (listed shares)) (map Command (listed commands)) (map Ack (listed_known ack))
    ∙ (λ j. shares-lettered i shares j ++ (commands-lettered i commands j ++ e j))

-- with no message: a space, `-` and the line's end
pub tail_none : (i : ℕ) (ms : List Message) {l l1 l2 : List ℕ} {at next c : ℕ} → Puts l at (after_commas i ms) l1 next → next ≡ at
    → Puts l1 at (32 ∷ 45 ∷ 10 ∷ []) l2 c → Puts l at (tail_text i ms) l2 c
unfolding after_commas tail_text
tail_none i [] {l} {l1} {l2} {at} {next} {c} p e q = subst (λ (m : List ℕ). Puts m at (32 ∷ 45 ∷ 10 ∷ []) l2 c) p.bytes q
tail_none i (m ∷ ms) p e q = absurd (omega (arith, p.place))

-- with messages: the first comma becomes the space
pub tail-some : (i : ℕ) (ms : List Message) {l l1 l2 l3 : List ℕ} {at next a c : ℕ} → Puts l at (after_commas i ms) l1 next → (next ≡ at → ⊥)
    → Puts l1 at (32 ∷ []) l2 a → Puts l2 next (10 ∷ []) l3 c → Puts l at (tail_text i ms) l3 c
unfolding after_commas tail_text
tail-some i [] p ne q r = absurd (ne (omega (arith, p.place)))
tail-some i (m ∷ ms) {l} {l1} {l2} {l3} {at} {next} {a} {c} p ne q r = then spaced r
  where
    rest : List ℕ
    rest = message_text i m ++ after_commas i ms

    over : set (sets (set l at 44) (suc at) rest) at 32 ≡ sets (set l at 32) (suc at) rest
    over = set_front (set l at 44) rest at (suc at) 32 (omega arith) ∙ ap (λ (k : List ℕ). sets k (suc at) rest) (set-set l at 44 32)

    spaced : Puts l at (32 ∷ rest) l2 next
    spaced = record { bytes = q.bytes ∙ ap (λ (k : List ℕ). set k at 32) p.bytes ∙ over; place = p.place }

pub length-sent : (i : ℕ) (shares commands : Pairs) (ack : Option Pair)
    → length (after_commas i (map Share (listed shares) ++ (map Command (listed commands) ++ map Ack (listed_known ack)))) ≤ 160
length-sent i shares commands ack =
    no_longer (three-lists i (map Share (listed shares)) (map Command (listed commands)) (map Ack (listed_known ack)))
    (together (after_commas i (map Share (listed shares))) (after_commas i (map Command (listed commands))) (after_commas i (map Ack (listed_known ack))) (length-shares i shares) (length-commands i commands) (length-ack i ack))
  where
    together : (xs ys zs : List ℕ) → length xs ≤ 88 → length ys ≤ 48 → length zs ≤ 24 → length (xs ++ (ys ++ zs)) ≤ 160
    together xs ys zs a b c = omega (arith, length-append xs (ys ++ zs), length-append ys zs)

pub length-head : (number refusal status stamp : ℕ) → length (head_with number refusal status stamp) ≤ 64
length-head number refusal status stamp =
    omega
    (arith, length-append (decimal number) (32 ∷ (decimal refusal ++ (32 ∷ status ∷ 32 ∷ decimal stamp))), length-append (decimal refusal) (32 ∷ status ∷ 32 ∷ decimal stamp), length-decimal number, length-decimal refusal, length-decimal stamp)

-- the room after a head
pub head-room : (number refusal status stamp : ℕ) {l l1 : List ℕ} {at next : ℕ} → leb (at + longest_line) (length l) ≡ true → Puts l at (head_with number refusal status stamp) l1 next
    → next + 192 ≤ length l1
head-room number refusal status stamp {l} {l1} {at} room p = room-after 64 192 p (length-head number refusal status stamp) (leb-true (at + longest_line) (length l) room)

-- ---- lines

pub line-shown : (number refusal : ℕ) (site : Site) (i : ℕ) (ms : List Message) → line_of number refusal site i ms ≡ line_with number refusal (shown_status site) (shown_stamp site) i ms
unfolding line_of line_with
line-shown number refusal site i ms = refl

pub no-tail : (i : ℕ) → tail_text i [] ≡ 32 ∷ 45 ∷ 10 ∷ []
unfolding tail_text
no-tail i = refl

-- with nothing sent, whoever acted
pub no-sender : (number refusal status stamp i : ℕ) → line_with number refusal status stamp i [] ≡ line_with number refusal status stamp 0 []
unfolding line_with
no-sender number refusal status stamp i = ap (λ (t : List ℕ). head_with number refusal status stamp ++ t) (no-tail i ∙ sym (no-tail 0))

-- a head and a tail are a line
pub line-put : (number refusal status stamp i : ℕ) (ms : List Message) {l l1 l2 : List ℕ} {at next r : ℕ} → leb (at + longest_line) (length l) ≡ true
    → Puts l at (head_with number refusal status stamp) l1 next → Puts l1 next (tail_text i ms) l2 r
    → (l2 ≡ line_bytes l at (line_with number refusal status stamp i ms)) × (r ≡ line_next l at (line_with number refusal status stamp i ms))
unfolding line_with line_bytes line_next
line-put number refusal status stamp i ms room p q = let whole = then p q in (simp room whole.bytes, simp room whole.place)

-- and so is one with a message
pub message-put : (number status stamp i : ℕ) (pair : Pair) {l l1 l2 : List ℕ} {at next r : ℕ} → leb (at + longest_line) (length l) ≡ true
    → Puts l at (head_with number 0 status stamp) l1 next → Puts l1 next (message_tail i pair) l2 r
    → (l2 ≡ line_bytes l at (message_line number status stamp i pair)) × (r ≡ line_next l at (message_line number status stamp i pair))
unfolding message_line line_bytes line_next
message-put number status stamp i pair room p q = let whole = then p q in (simp room whole.bytes, simp room whole.place)

-- where there is no room
pub line_kept : (l : List ℕ) (at : ℕ) (text : List ℕ) → leb (at + longest_line) (length l) ≡ false → (l ≡ line_bytes l at text) × (at ≡ line_next l at text)
unfolding line_bytes line_next
line_kept l at text full = (simp full, simp full)

pub room-left : (at size : ℕ) → longest_line ≤ size → leb at (size - longest_line) ≡ leb (at + longest_line) size
room-left at size h = go (leb (at + longest_line) size) refl
  where
    go : (b : Bool) → leb (at + longest_line) size ≡ b → leb at (size - longest_line) ≡ leb (at + longest_line) size
    go true e = le-leb at (size - longest_line) (omega (arith, leb-true (at + longest_line) size e)) ∙ sym e
    go false e = lt-leb at (size - longest_line) (omega (arith, leb-false (at + longest_line) size e)) ∙ sym e

-- ---- up to two messages, by how many there are

module _ (make : Pair → Message) (i : ℕ) (x : Pairs) where
  pub pairs-zero : x ≡ Zero → after_commas i (map make (listed x)) ≡ []
  pairs-zero e = ap (λ (y : Pairs). after_commas i (map make (listed y))) e ∙ no-message i

  pub pairs-one : (p : Pair) → x ≡ One p → after_commas i (map make (listed x)) ≡ 44 ∷ message_text i (make p)
  pairs-one p e = ap (λ (y : Pairs). after_commas i (map make (listed y))) e ∙ one-message i (make p)

  pub pairs-two : (p q : Pair) → x ≡ Two p q → after_commas i (map make (listed x)) ≡ (44 ∷ message_text i (make p)) ++ (44 ∷ message_text i (make q))
  pairs-two p q e = ap (λ (y : Pairs). after_commas i (map make (listed y))) e ∙ two-messages i (make p) (make q)

pub length-share : (i : ℕ) (p : Pair) → length (44 ∷ 83 ∷ (decimal i ++ pair_text p)) ≤ 44
length-share i p = omega (arith, length-append (decimal i) (pair_text p), length-decimal i, length-pair p)

-- the place after a head
pub after-head : (number refusal status stamp : ℕ) {l l1 : List ℕ} {at next : ℕ} → Puts l at (head_with number refusal status stamp) l1 next → next ≤ at + 64
after-head number refusal status stamp p = omega (arith, p.place, length-head number refusal status stamp)
