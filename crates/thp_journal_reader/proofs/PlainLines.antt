-- Lines that read as something have plain words, so that they are printable and have no empty word.
use Rattle.std.proofs.Common.{◌≡◌, ◌^◌, ◌-◌, ℕ, Bool, true, false, cond, List, [], ◌∷◌, Option, None, Ok, Err, subst, refl, sym, inl, inr, codes, not, All}
use Rattle.std.specs.List.{list_all, list_any}
use Rattle.std.proofs.lemmas.List.Elements.{All-cons, All-nil}
use Rattle.thp_history.specs.declared.events.Event.{Event}
use Rattle.thp_history.specs.declared.events.Outcome.{Outcome}
use Rattle.thp_script.specs.declared.fault.TextKind.{TextKind}
use Rattle.thp_script.specs.declared.fault.TextKind.TheVariants.{BadByte, BadWord}
use Rattle.thp_script.specs.Prelude.{number_up_to, one_word, two_words, fault_of_line, is_empty, is_printable, Text, words_in_line}
use Rattle.thp_script.proofs.LineLaws.{IsPlain, bind_ok, none_empty, ok_value, one_plain, pieces_printable, plain_word, word_cases}
use Rattle.thp_history.specs.declared.page_call.Loss.{Loss}
use Rattle.thp_journal_reader.specs.Prelude.{EventWord, OfPage, OfRange, OfLoss, UnmapSub, Split, Close, PageWord, RangeWord, Line, Version, Plain, Orders, Underused, Large, caller_number, close_event, event_by, event_of, loss_event, loss_words, no_words, outcome_and_word, page_event, page_number, range_event, range_loss_words, range_number, split_event, three_words, unmap_event, event_word, outcome_of, before, line_by_words, end_line, parsed_event_line, head_of, line_by, line_of, node_of, node_with, number_between, ordered_node, plain_node, node_threshold_of, underused_node, parsed_version, set_of_text}
use Rattle.thp_journal_writer.specs.Prelude.{version_limits}
use Rattle.thp_journal_reader.proofs.PlainWords.{event_word_plain, number_plain, one_or, outcome_plain, set_plain}

-- ---- so many words

no_words_plain : (words : List Text) (nothing : Unit) → no_words words ≡ Ok nothing → All IsPlain words
no_words_plain [] nothing e = All-nil IsPlain
no_words_plain (a ∷ words) nothing e = absurd cc

one_word_plain : (words : List Text) (w : Text) → one_word words ≡ Ok w → IsPlain w → All IsPlain words
one_word_plain [] w e p = absurd cc
one_word_plain (a ∷ []) w e p = one_plain a (plain_word a w (ok_value a w e) p)
one_word_plain (a ∷ b ∷ words) w e p = absurd cc

two_words_plain : (words : List Text) (w : Text × Text) → two_words words ≡ Ok w → IsPlain w.0 → IsPlain w.1 → All IsPlain words
two_words_plain [] w e p q = absurd cc
two_words_plain (a ∷ []) w e p q = absurd cc
two_words_plain (a ∷ b ∷ []) w e p q =
    subst (λ (x : Text × Text). All IsPlain (x.0 ∷ x.1 ∷ [])) (sym (ok_value (a, b) w e)) (All-cons IsPlain w.0 (w.1 ∷ []) p (one_plain w.1 q))
two_words_plain (a ∷ b ∷ d ∷ words) w e p q = absurd cc

three_words_plain : (words : List Text) (w : Text × Text × Text) → three_words words ≡ Ok w → IsPlain w.0 → IsPlain w.1 → IsPlain w.2 → All IsPlain words
three_words_plain [] w e p q r = absurd cc
three_words_plain (a ∷ []) w e p q r = absurd cc
three_words_plain (a ∷ b ∷ []) w e p q r = absurd cc
three_words_plain (a ∷ b ∷ d ∷ []) w e p q r =
    subst (λ (x : Text × Text × Text). All IsPlain (x.0 ∷ x.1 ∷ x.2 ∷ [])) (sym (ok_value (a, b, d) w e)) (All-cons IsPlain w.0 (w.1 ∷ w.2 ∷ []) p (All-cons IsPlain w.1 (w.2 ∷ []) q (one_plain w.2 r)))
three_words_plain (a ∷ b ∷ d ∷ f ∷ words) w e p q r = absurd cc

ending_plain : (words : List Text) (w : Outcome × Text) → outcome_and_word words ≡ Ok w → IsPlain w.1 → All IsPlain words
unfolding outcome_and_word
ending_plain [] w e p = absurd cc
ending_plain (name ∷ words) w e p =
    let outcome = bind_ok (outcome_of name) _ w e in
    let word = bind_ok (one_word words) _ w outcome.2 in
    let is : (outcome.0, word.0) ≡ w = ok_value (outcome.0, word.0) w word.2 in
    let plain : IsPlain word.0 = subst (λ (x : Outcome × Text). IsPlain x.1) (sym is) p in
    All-cons IsPlain name words (outcome_plain name outcome.0 outcome.1) (one_word_plain words word.0 word.1 plain)

loss_words_plain : (words : List Text) (w : Text × Outcome × Text) → loss_words words ≡ Ok w → IsPlain w.0 → IsPlain w.2 → All IsPlain words
loss_words_plain [] w e p q = absurd cc
loss_words_plain (page ∷ words) w e p q =
    let ending = bind_ok (outcome_and_word words) _ w e in
    let is : (page, ending.0.0, ending.0.1) ≡ w = ok_value (page, ending.0.0, ending.0.1) w ending.2 in
    All-cons IsPlain page words
    (subst (λ (x : Text × Outcome × Text). IsPlain x.0) (sym is) p)
    (ending_plain words ending.0 ending.1 (subst (λ (x : Text × Outcome × Text). IsPlain x.2) (sym is) q))

range_loss_plain : (words : List Text) (w : Text × Text × Text × Outcome × Text) → range_loss_words words ≡ Ok w → IsPlain w.0 → IsPlain w.1 → IsPlain w.2 → IsPlain w.4 → All IsPlain words
range_loss_plain [] w e p q r s = absurd cc
range_loss_plain (a ∷ []) w e p q r s = absurd cc
range_loss_plain (a ∷ b ∷ []) w e p q r s = absurd cc
range_loss_plain (a ∷ b ∷ d ∷ words) w e p q r s =
    let ending = bind_ok (outcome_and_word words) _ w e in
    let is : (a, b, d, ending.0.0, ending.0.1) ≡ w = ok_value (a, b, d, ending.0.0, ending.0.1) w ending.2 in
    All-cons IsPlain a (b ∷ d ∷ words)
    (subst (λ (x : Text × Text × Text × Outcome × Text). IsPlain x.0) (sym is) p)
    (All-cons IsPlain b (d ∷ words)
    (subst (λ (x : Text × Text × Text × Outcome × Text). IsPlain x.1) (sym is) q)
    (All-cons IsPlain d words
    (subst (λ (x : Text × Text × Text × Outcome × Text). IsPlain x.2) (sym is) r)
    (ending_plain words ending.0 ending.1 (subst (λ (x : Text × Text × Text × Outcome × Text). IsPlain x.4) (sym is) s))))

-- ---- events

abbrev ArePlain : Text → List Text → Type 0
ArePlain caller words = IsPlain caller × All IsPlain words

module _ (v : Version) (caller : Text) (words : List Text) (event : Event) where
  page_event_plain : (name : PageWord) → page_event v name caller words ≡ Ok event → ArePlain caller words
  unfolding page_event
  page_event_plain name e =
      let w = bind_ok (one_word words) _ event e in
      let c = bind_ok (caller_number v caller) _ event w.2 in
      let p = bind_ok (page_number w.0) _ event c.2 in
      (number_plain (version_limits v).last_caller c.0 caller c.1, one_word_plain words w.0 w.1 (number_plain 18446744073709551615 p.0 w.0 p.1))

  range_event_plain : (name : RangeWord) → range_event v name caller words ≡ Ok event → ArePlain caller words
  unfolding range_event
  range_event_plain name e =
      let w = bind_ok (three_words words) _ event e in
      let c = bind_ok (caller_number v caller) _ event w.2 in
      let p = bind_ok (page_number w.0.0) _ event c.2 in
      let f = bind_ok (range_number w.0.1) _ event p.2 in
      let n = bind_ok (range_number w.0.2) _ event f.2 in (
        number_plain (version_limits v).last_caller c.0 caller c.1,
        three_words_plain words w.0 w.1 (number_plain 18446744073709551615 p.0 w.0.0 p.1) (number_plain 65535 f.0 w.0.1 f.1) (number_plain 65535 n.0 w.0.2 n.1),
      )

  loss_event_plain : (name : Loss) → loss_event v name caller words ≡ Ok event → ArePlain caller words
  unfolding loss_event
  loss_event_plain name e =
      let w = bind_ok (loss_words words) _ event e in
      let c = bind_ok (caller_number v caller) _ event w.2 in
      let p = bind_ok (page_number w.0.0) _ event c.2 in
      let s = bind_ok (set_of_text w.0.2) _ event p.2 in
      (number_plain (version_limits v).last_caller c.0 caller c.1, loss_words_plain words w.0 w.1 (number_plain 18446744073709551615 p.0 w.0.0 p.1) (set_plain w.0.2 s.0 s.1))

  unmap_event_plain : unmap_event v caller words ≡ Ok event → ArePlain caller words
  unfolding unmap_event
  unmap_event_plain e =
      let w = bind_ok (range_loss_words words) _ event e in
      let c = bind_ok (caller_number v caller) _ event w.2 in
      let p = bind_ok (page_number w.0.0) _ event c.2 in
      let f = bind_ok (range_number w.0.1) _ event p.2 in
      let n = bind_ok (range_number w.0.2) _ event f.2 in
      let s = bind_ok (set_of_text w.0.4) _ event n.2 in (
        number_plain (version_limits v).last_caller c.0 caller c.1,
        range_loss_plain words w.0 w.1 (number_plain 18446744073709551615 p.0 w.0.0 p.1) (number_plain 65535 f.0 w.0.1 f.1) (number_plain 65535 n.0 w.0.2 n.1) (set_plain w.0.4 s.0 s.1),
      )

  split_event_plain : split_event v caller words ≡ Ok event → ArePlain caller words
  unfolding split_event
  split_event_plain e =
      let w = bind_ok (two_words words) _ event e in
      let c = bind_ok (caller_number v caller) _ event w.2 in
      let p = bind_ok (page_number w.0.0) _ event c.2 in
      let s = bind_ok (set_of_text w.0.1) _ event p.2 in
      (number_plain (version_limits v).last_caller c.0 caller c.1, two_words_plain words w.0 w.1 (number_plain 18446744073709551615 p.0 w.0.0 p.1) (set_plain w.0.1 s.0 s.1))

  close_event_plain : close_event v caller words ≡ Ok event → ArePlain caller words
  unfolding close_event
  close_event_plain e =
      let w = bind_ok (no_words words) _ event e in
      let c = bind_ok (caller_number v caller) _ event w.2 in
      (number_plain (version_limits v).last_caller c.0 caller c.1, no_words_plain words w.0 w.1)

  event_by_plain : (word : EventWord) → event_by v word caller words ≡ Ok event → ArePlain caller words
  event_by_plain (OfPage name) e = page_event_plain name e
  event_by_plain (OfRange name) e = range_event_plain name e
  event_by_plain (OfLoss name) e = loss_event_plain name e
  event_by_plain UnmapSub e = unmap_event_plain e
  event_by_plain Split e = split_event_plain e
  event_by_plain Close e = close_event_plain e

event_plain : (v : Version) (caller : Text) (words : List Text) (event : Event) → event_of v caller words ≡ Ok event → All IsPlain (caller ∷ words)
event_plain v caller [] event e = absurd cc
event_plain v caller (name ∷ words) event e =
    let word = bind_ok (event_word v name) _ event e in
    let p = event_by_plain v caller words event word.0 word.2 in
    All-cons IsPlain caller (name ∷ words) p.0 (All-cons IsPlain name words (event_word_plain v name word.0 word.1) p.1)

-- ---- nodes

version_plain : (word : Text) (v : Version) → parsed_version word ≡ Ok v → IsPlain word
unfolding parsed_version
version_plain word v e =
    one_or word (codes "1") _ _ v e refl refl
    (λ e1. one_or word (codes "2") _ _ v e1 refl refl
    (λ e2. one_or word (codes "3") _ _ v e2 refl refl
    (λ e3. one_or word (codes "4") _ _ v e3 refl refl
    (λ e4. absurd cc))))

head_plain : (words : List Text) (line : Line) → head_of words ≡ Ok line → All IsPlain words
unfolding head_of
head_plain words line e =
    let w = bind_ok (one_word words) _ line e in
    let v = bind_ok (parsed_version w.0) _ line w.2 in
    one_word_plain words w.0 w.1 (version_plain w.0 v.0 v.1)

before_plain : (key : Text) (words : List Text) (w : Text × List Text) → before key words ≡ Ok w → IsPlain key → IsPlain w.0 → All IsPlain w.1 → All IsPlain words
before_plain key [] w e k p q = absurd cc
before_plain key (a ∷ []) w e k p q = absurd cc
before_plain key (operand ∷ word ∷ words) w e k p q =
    elim (word_cases word key _ _ w e) [
      | inl h ↦
          subst (λ (x : Text × List Text). All IsPlain (x.0 ∷ word ∷ x.1)) (sym (ok_value (operand, words) w h.1)) (All-cons IsPlain w.0 (word ∷ w.1) p (All-cons IsPlain word w.1 (plain_word word key h.0 k) q))
      | inr f ↦ absurd cc
    ]

between_plain : (least most n : ℕ) (word : Text) → number_between least most word ≡ Ok n → IsPlain word
between_plain least most n word e =
    let m = bind_ok (number_up_to most word) _ n e in
    number_plain most m.0 word m.1

threshold_plain : (order : ℕ) (word : Text) (t : Option ℕ) → node_threshold_of order word ≡ Ok t → IsPlain word
unfolding node_threshold_of
threshold_plain order word t e =
    one_or word (codes "off") _ _ t e refl refl
    (λ f.
    let n = bind_ok (number_up_to (2 ^ order - 1) word) _ t f in
    number_plain (2 ^ order - 1) n.0 word n.1)

node_with_plain : (v : Version) (number blocks : Text) (order : ℕ) (underused : Option ℕ) (line : Line) → node_with v number blocks order underused ≡ Ok line → IsPlain number × IsPlain blocks
node_with_plain v number blocks order underused line e =
    let n = bind_ok (number_up_to (version_limits v).last_node number) _ line e in
    let b = bind_ok (number_between 1 (version_limits v).most_blocks blocks) _ line n.2 in
    (number_plain (version_limits v).last_node n.0 number n.1, between_plain 1 (version_limits v).most_blocks b.0 blocks b.1)

threshold_node_plain : (v : Version) (words : List Text) (line : Line) → underused_node v words ≡ Ok line → All IsPlain words
unfolding underused_node
threshold_node_plain v words line e =
    let number = bind_ok (before (codes "blocks") words) _ line e in
    let blocks = bind_ok (before (codes "order") number.0.1) _ line number.2 in
    let order_word = bind_ok (before (codes "underused") blocks.0.1) _ line blocks.2 in
    let threshold_word = bind_ok (one_word order_word.0.1) _ line order_word.2 in
    let order = bind_ok (number_between 2 9 order_word.0.0) _ line threshold_word.2 in
    let threshold = bind_ok (node_threshold_of order.0 threshold_word.0) _ line order.2 in
    let p = node_with_plain v number.0.0 blocks.0.0 order.0 threshold.0 line threshold.2 in
    before_plain (codes "blocks") words number.0 number.1 (record { printable = refl; some = refl }) p.0
    (before_plain (codes "order") number.0.1 blocks.0 blocks.1 (record { printable = refl; some = refl }) p.1
    (before_plain (codes "underused") blocks.0.1 order_word.0 order_word.1 (record { printable = refl; some = refl }) (between_plain 2 9 order.0 order_word.0.0 order.1)
    (one_word_plain order_word.0.1 threshold_word.0 threshold_word.1 (threshold_plain order.0 threshold_word.0 threshold.0 threshold.1))))

node_plain : (v : Version) (words : List Text) (line : Line) → node_of v words ≡ Ok line → All IsPlain words
unfolding plain_node ordered_node
node_plain Plain words line e =
    let number = bind_ok (before (codes "blocks") words) _ line e in
    let blocks = bind_ok (one_word number.0.1) _ line number.2 in
    let p = node_with_plain Plain number.0.0 blocks.0 9 None line blocks.2 in
    before_plain (codes "blocks") words number.0 number.1 (record { printable = refl; some = refl }) p.0 (one_word_plain number.0.1 blocks.0 blocks.1 p.1)
node_plain Orders words line e =
    let number = bind_ok (before (codes "blocks") words) _ line e in
    let blocks = bind_ok (before (codes "order") number.0.1) _ line number.2 in
    let order_word = bind_ok (one_word blocks.0.1) _ line blocks.2 in
    let order = bind_ok (number_between 2 9 order_word.0) _ line order_word.2 in
    let p = node_with_plain Orders number.0.0 blocks.0.0 order.0 None line order.2 in
    before_plain (codes "blocks") words number.0 number.1 (record { printable = refl; some = refl }) p.0
    (before_plain (codes "order") number.0.1 blocks.0 blocks.1 (record { printable = refl; some = refl }) p.1 (one_word_plain blocks.0.1 order_word.0 order_word.1 (between_plain 2 9 order.0 order_word.0 order.1)))
node_plain Underused words line e = threshold_node_plain Underused words line e
node_plain Large words line e = threshold_node_plain Large words line e

-- ---- lines

named_plain : (name word : Text) (words : List Text) → name ≡ word → list_all is_printable word ≡ true → is_empty word ≡ false → All IsPlain words → All IsPlain (name ∷ words)
named_plain name word words is printable some plain = All-cons IsPlain name words (plain_word name word is (record { printable = printable; some = some })) plain

end_plain : (words : List Text) (line : Line) → end_line words ≡ Ok line → All IsPlain words
end_plain words line e =
    let nothing = bind_ok (no_words words) _ line e in
    no_words_plain words nothing.0 nothing.1

event_line_plain : (v : Version) (caller : Text) (words : List Text) (line : Line) → parsed_event_line v caller words ≡ Ok line → All IsPlain (caller ∷ words)
event_line_plain v caller words line e =
    let event = bind_ok (event_of v caller words) _ line e in
    event_plain v caller words event.0 event.1

line_plain : (v : Version) (words : List Text) (line : Line) → line_by_words v words ≡ Ok line → All IsPlain words
unfolding line_by
line_plain v [] line e = absurd cc
line_plain v (name ∷ words) line e =
    elim (word_cases name (codes "thp-journal") _ _ line e) [
      | inl h ↦ named_plain name (codes "thp-journal") words h.0 refl refl (head_plain words line h.1)
      | inr e1 ↦
          elim (word_cases name (codes "node") _ _ line e1) [
            | inl h ↦ named_plain name (codes "node") words h.0 refl refl (node_plain v words line h.1)
            | inr e2 ↦
                elim (word_cases name (codes "end") _ _ line e2) [
                  | inl h ↦ named_plain name (codes "end") words h.0 refl refl (end_plain words line h.1)
                  | inr e3 ↦ event_line_plain v name words line e3
                ]
          ]
    ]

-- a line whose words read as something says that
pub line_of-read : (v : Version) (text : Text) (line : Line) → Ok line ≡ line_by_words v (words_in_line text) → Ok line ≡ line_of v text
unfolding line_of
line_of-read v text line e =
    let plain = line_plain v (words_in_line text) line (sym e) in
    rw (pieces_printable text plain, none_empty (words_in_line text) plain) e

-- and one whose words don't has the first fault that applies
pub line_of-fails : (v : Version) (text : Text) (reading : TextKind) → Err reading ≡ line_by_words v (words_in_line text) → Err (fault_of_line text reading) ≡ line_of v text
unfolding line_of
line_of-fails v text reading e = go (list_all is_printable text) (list_any is_empty (words_in_line text))
  where
    go : (b c : Bool) → Err (cond b (cond c BadWord reading) BadByte) ≡ cond (not b) (Err BadByte) (cond c (Err BadWord) (line_by_words v (words_in_line text)))
    go false c = refl
    go true true = refl
    go true false = e
