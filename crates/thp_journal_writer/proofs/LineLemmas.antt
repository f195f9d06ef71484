-- Lines made piece by piece.
use Rattle.std.proofs.Common.{◌≡◌, ℕ, ◌+◌, ◌/◌, ◌%◌, ◌<◌, ◌≤◌, List, [], ◌∷◌, ◌++◌, map, refl, ap, sym, ◌∙◌, arith, append_assoc, codes, Bool, true, false, ◌||◌, ◌&&◌, decimal, length, nat_lt}
use Rattle.std.proofs.lemmas.Fmt.{decimal_digit, decimal_step}
use Rattle.thp_history.specs.declared.events.Event.{Event}
use Rattle.thp_history.specs.declared.events.What.{What}
use Rattle.thp_journal_writer.specs.Prelude.{spaced_line, what_words, event_words, event_line, NodeHistory, Version, Plain, Orders, Underused, Large, are_large, has_large_caller, is_large, node_words, underused_words, journal_of, Journal, ended, is_access, node_line, underused_word, reports_underused, has_order_9, version_line, version_number, version_of}
use Rattle.std.specs.List.{list_any, list_all}
use Rattle.std.proofs.lemmas.List.{length-map}
use Rattle.thp_history.specs.declared.shape.Shape.{Shape}
use Rattle.thp_history.specs.Prelude.{max_blocks, some_event, shrinks_underused}

-- a number of two digits
pub two_digits : (n : ℕ) → 10 ≤ n → n < 100 → decimal n ≡ (48 + n / 10) ∷ (48 + n % 10) ∷ []
two_digits n low high = decimal_step n low (omega arith) ∙ ap (λ ds. ds ++ ((48 + n % 10) ∷ [])) (decimal_digit (n / 10) (omega arith))

-- a number of three digits
pub three_digits : (n : ℕ) → 100 ≤ n → n < 1000 → decimal n ≡ (48 + n / 10 / 10) ∷ (48 + n / 10 % 10) ∷ (48 + n % 10) ∷ []
three_digits n low high = grind (arith, decimal_step, two_digits)

-- a number of one, two and three digits behind a text, and a byte behind it
pub number_of_one : (t : List ℕ) (n d after : ℕ) → n < 10 → d ≡ 48 + n → t ++ (d ∷ after ∷ []) ≡ t ++ decimal n ++ after ∷ []
number_of_one t n d after h e = grind (arith, append_assoc, decimal_digit)

pub number_of_two : (t : List ℕ) (n d e after : ℕ) → 10 ≤ n → n < 100 → d ≡ 48 + n / 10 → e ≡ 48 + n % 10 → t ++ (d ∷ e ∷ after ∷ []) ≡ t ++ decimal n ++ after ∷ []
number_of_two t n d e after low high f g = grind (arith, append_assoc, two_digits)

pub number_of_three : (t : List ℕ) (n d e f after : ℕ) → 100 ≤ n → n < 1000 → d ≡ 48 + n / 10 / 10 → e ≡ 48 + n / 10 % 10 → f ≡ 48 + n % 10 →
    t ++ (d ∷ e ∷ f ∷ after ∷ []) ≡ t ++ decimal n ++ after ∷ []
number_of_three t n d e f after low high g h i = grind (arith, append_assoc, three_digits)

-- the line of a node, piece by piece
pub plain_node : (t t1 t2 t3 : List ℕ) (v : Version) (n blocks : ℕ) (s : Shape) → v ≡ Plain → blocks ≡ s.blocks → t1 ≡ t ++ codes "node " → t2 ≡ t1 ++ decimal n ++ 32 ∷ [] → t3 ≡ t2 ++ codes "blocks " →
    t3 ++ decimal blocks ++ 10 ∷ [] ≡ t ++ ended (node_line v n s)
unfolding node_line
plain_node t t1 t2 t3 v n blocks s is e0 e1 e2 e3 = rw (e3, e2, e1, e0, is) (simp append_assoc)

pub orders_node : (t t1 t2 t3 : List ℕ) (v : Version) (n : ℕ) (s : Shape) → v ≡ Orders → t1 ≡ t ++ codes "node " → t2 ≡ t1 ++ decimal n ++ 32 ∷ [] → t3 ≡ t2 ++ codes "blocks " →
    t3 ++ decimal s.blocks ++ codes " order " ++ decimal s.order ++ 10 ∷ [] ≡ t ++ ended (node_line v n s)
unfolding node_line
orders_node t t1 t2 t3 v n s is e1 e2 e3 = rw (e3, e2, e1, is) (simp append_assoc)

pub underused_node : (t t1 t2 t3 t4 : List ℕ) (v : Version) (n : ℕ) (s : Shape) → node_words v n s ≡ underused_words n s → t1 ≡ t ++ codes "node " → t2 ≡ t1 ++ decimal n ++ 32 ∷ [] → t3 ≡ t2 ++ codes "blocks " →
    t4 ≡ t3 ++ decimal s.blocks ++ codes " order " ++ decimal s.order ++ 32 ∷ [] → t4 ++ codes "underused " ++ ended (underused_word s.underused) ≡ t ++ ended (node_line v n s)
unfolding node_line
underused_node t t1 t2 t3 t4 v n s is e1 e2 e3 e4 = rw (e4, e3, e2, e1, is) (simp append_assoc)

-- a node's line has a threshold from version 3 on
pub has_threshold : (v : Version) (n : ℕ) (s : Shape) → (v ≡ Plain → ⊥) → (v ≡ Orders → ⊥) → node_words v n s ≡ underused_words n s
has_threshold Plain n s first second = absurd (first refl)
has_threshold Orders n s first second = absurd (second refl)
has_threshold Underused n s first second = refl
has_threshold Large n s first second = refl

-- a test of journals, at the nodes that they report
any_of_map : (nodes : List NodeHistory) → list_any reports_underused (map journal_of nodes) ≡ list_any (λ node. reports_underused (journal_of node)) nodes
any_of_map [] = refl
any_of_map (node ∷ nodes) = ap (λ b. reports_underused (journal_of node) || b) (any_of_map nodes)

all_of_map : (nodes : List NodeHistory) → list_all has_order_9 (map journal_of nodes) ≡ list_all (λ node. has_order_9 (journal_of node)) nodes
all_of_map [] = refl
all_of_map (node ∷ nodes) = ap (λ b. has_order_9 (journal_of node) && b) (all_of_map nodes)

-- the version of some nodes, by their tests
pub version_large : (nodes : List NodeHistory) → are_large (map journal_of nodes) ≡ true → Large ≡ version_of (map journal_of nodes)
unfolding version_of
version_large nodes e = rw e refl

pub version_underused : (nodes : List NodeHistory) → are_large (map journal_of nodes) ≡ false → list_any (λ node. reports_underused (journal_of node)) nodes ≡ true → Underused ≡ version_of (map journal_of nodes)
unfolding version_of
version_underused nodes few e = rw (few, any_of_map nodes ∙ e) refl

pub version_plain : (nodes : List NodeHistory) → are_large (map journal_of nodes) ≡ false → list_any (λ node. reports_underused (journal_of node)) nodes ≡ false → list_all (λ node. has_order_9 (journal_of node)) nodes ≡ true → Plain ≡ version_of (map journal_of nodes)
unfolding version_of
version_plain nodes few e f = rw (few, any_of_map nodes ∙ e, all_of_map nodes ∙ f) refl

pub version_orders : (nodes : List NodeHistory) → are_large (map journal_of nodes) ≡ false → list_any (λ node. reports_underused (journal_of node)) nodes ≡ false → list_all (λ node. has_order_9 (journal_of node)) nodes ≡ false → Orders ≡ version_of (map journal_of nodes)
unfolding version_of
version_orders nodes few e f = rw (few, any_of_map nodes ∙ e, all_of_map nodes ∙ f) refl

-- the caller stands before what happened
caller_first : (digits : List ℕ) (w : What) → spaced_line (digits ∷ what_words w) ≡ digits ++ 32 ∷ spaced_line (what_words w)
caller_first digits x = grind arith

-- the line of an event behind a text
pub event_after : (t t1 : List ℕ) (caller : ℕ) (e : Event) → caller ≡ e.caller → t1 ≡ t ++ decimal caller ++ 32 ∷ [] → t1 ++ ended (spaced_line (what_words e.what)) ≡ t ++ ended (event_line e)
unfolding event_line event_words
event_after t t1 caller e same e1 = grind (arith, caller_first, append_assoc)

-- the first line, piece by piece
pub version_after : (t t1 : List ℕ) (n : ℕ) (v : Version) → n ≡ version_number v → t1 ≡ t ++ codes "thp-journal " → t1 ++ decimal n ++ 10 ∷ [] ≡ t ++ ended (version_line v)
version_after t t1 n v e f = rw (f, e) (simp append_assoc)

-- what a node shows of underused pages and of what was written
pub reported_by_switch : (j : Journal) (b : Bool) → b ≡ shrinks_underused j.0 → b ≡ true → b ≡ reports_underused j
unfolding reports_underused
reported_by_switch j b e is = is ∙ sym (ap (λ x. x || some_event is_access j.1) (sym e ∙ is))

pub reported_by_events : (j : Journal) (b c : Bool) → b ≡ shrinks_underused j.0 → b ≡ false → c ≡ list_any (λ (event : Event). is_access event.what) j.1 → c ≡ reports_underused j
unfolding reports_underused some_event
reported_by_events j b c e is f = f ∙ sym (ap (λ x. x || some_event is_access j.1) (sym e ∙ is))

-- there are too many nodes, or one of them is large
pub large_by_number : (nodes : List NodeHistory) → nat_lt 8 (length nodes) ≡ true → are_large (map journal_of nodes) ≡ true
unfolding are_large
large_by_number nodes e = rw (length-map nodes journal_of, e) refl

pub large_by_nodes : (nodes : List NodeHistory) (b : Bool) → nat_lt 8 (length nodes) ≡ false → b ≡ list_any (λ node. is_large (journal_of node)) nodes → b ≡ are_large (map journal_of nodes)
unfolding are_large
large_by_nodes nodes b few e = rw (length-map nodes journal_of, few) (e ∙ sym (large_of_map nodes)) where
  large_of_map : (nodes : List NodeHistory) → list_any is_large (map journal_of nodes) ≡ list_any (λ node. is_large (journal_of node)) nodes
  large_of_map [] = refl
  large_of_map (node ∷ nodes) = ap (λ b. is_large (journal_of node) || b) (large_of_map nodes)

-- a node has too many blocks, or an event of a great caller
pub large_by_blocks : (j : Journal) → nat_lt max_blocks j.0.blocks ≡ true → is_large j ≡ true
unfolding is_large
large_by_blocks j e = rw e refl

pub large_by_callers : (j : Journal) (b : Bool) → nat_lt max_blocks j.0.blocks ≡ false → b ≡ list_any has_large_caller j.1 → b ≡ is_large j
unfolding is_large
large_by_callers j b few e = rw few e
