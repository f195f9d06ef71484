-- What is known of nodes that are followed line by line, and what is kept of each (this project's profile).
use Rattle.std.specs.Prelude.{◌≡◌, ◌≤◌, ◌+◌, ◌⊎◌, ⊤, ℕ, Bool, true, All, List, [], ◌∷◌, ◌++◌, length, not, ◌&&◌, Option, Some, None, IfSome, is_some}
use Rattle.std.specs.List.{fold, AllZip}
use Rattle.std.specs.Option.{option_or}
use Rattle.thp_history.specs.declared.shape.Shape.{Shape}
use Rattle.thp_history.specs.Prelude.{History, IsFirstMisfit, max_node_blocks}
use Rattle.thp_check.specs.Prelude.{Replayed}
use Rattle.thp_script.specs.Prelude.{max_counted}
use Rattle.thp_journal_reader.specs.declared.follower.FollowedNodes.{FollowedNodes}
use Rattle.thp_journal_reader.specs.declared.follower.Follower.{Follower}
use Rattle.thp_journal_reader.specs.declared.long_check.Illegal.{Illegal}
use Rattle.thp_journal_reader.specs.declared.journals.ReadNode.{ReadNode}
use Rattle.thp_journal_reader.specs.declared.line.Line.{Line}
use Rattle.thp_journal_reader.specs.Answers.{IsLegalNode, ReportsFirst, IsLegalFront}
use Rattle.thp_journal_reader.specs.Reading.{with_line, IsNodeBefore}

-- the nodes in numbered lines
unfoldable pub nodes_read : List (ℕ × Line) → List ReadNode
nodes_read lines = fold (λ nodes (l : ℕ × Line). with_line l.0 nodes l.1) [] lines

-- the node's shape and its events
abbrev pub replay_of : ReadNode → Replayed
replay_of node = record { shape = node.shape; history = node.events }

-- the first illegal event remains the first
abbrev pub first_illegal : Option Illegal → Illegal → Option Illegal
first_illegal first illegal = option_or first (Some illegal)

-- an event is illegal, and the nodes after it are not followed
abbrev pub has_stopped : Bool → Option Illegal → Bool
has_stopped follows_all illegal = is_some illegal && not follows_all

-- this is kept of the node: of its legal events, all or those before its first illegal event, and of that event
pub record IsStored {K : Type 0} (keeps : Shape → History → Option Illegal → K → Type 0) (node : ReadNode) (kept : K) : Type 0 where
  pub front : History
  pub illegal : Option Illegal
  pub legal : IsLegalFront node front
  pub first : ReportsFirst (node ∷ []) illegal
  pub kept_is : keeps node.shape front illegal kept

-- the same for each node, in order
abbrev pub AreKept : {K : Type 0} → (Shape → History → Option Illegal → K → Type 0) → List ReadNode → List K → Type 0
AreKept keeps = AllZip (IsStored keeps)

-- the last node is the current one: the replay is of its events, which are legal, and the next of them is on this line
pub record EndsAt {K : Type 0} (keeps : Shape → History → Option Illegal → K → Type 0) (nodes : List ReadNode) (replay : Replayed) (next_line : ℕ) (kept : List K) : Type 0 where
  pub before : List ReadNode
  pub last : ReadNode
  pub nodes_are : nodes ≡ before ++ last ∷ []
  pub replay_is : replay ≡ replay_of last
  pub legal : IsLegalNode last
  pub next_is : next_line ≡ last.first_line + length last.events
  pub kept_are : AreKept keeps before kept

-- the last node, if there is one, has an illegal event
abbrev pub LastIsIllegal : List ReadNode → Type 0
LastIsIllegal [] = ⊤
LastIsIllegal (node ∷ []) = (place : ℕ) × IsFirstMisfit node.shape node.events place
LastIsIllegal (node ∷ next ∷ nodes) = LastIsIllegal (next ∷ nodes)

-- no node is at hand: the last one has an illegal event, or the nodes are not followed
abbrev pub HasNone : {K : Type 0} → (Shape → History → Option Illegal → K → Type 0) → Bool → List ReadNode → Option Illegal → List K → Type 0
HasNone keeps follows_all nodes illegal kept = (AreKept keeps nodes kept × LastIsIllegal nodes) ⊎ (has_stopped follows_all illegal ≡ true)

-- the kept data agrees with the nodes
abbrev pub FollowsBy : {F K : Type 0} → (F → Replayed) → (Shape → History → Option Illegal → K → Type 0) → Bool → List ReadNode → Option F → ℕ → Option Illegal → List K → Type 0
FollowsBy replayed keeps follows_all nodes (Some node) next_line illegal kept = EndsAt keeps nodes (replayed node) next_line kept
FollowsBy replayed keeps follows_all nodes None next_line illegal kept = HasNone keeps follows_all nodes illegal kept

-- what the follower knows of the nodes so far is right
pub record FollowerKnows {F K : Type 0} (replayed : F → Replayed) (keeps : Shape → History → Option Illegal → K → Type 0) (follows_all : Bool) (nodes : List ReadNode) (follower : Follower F K) : Type 0 where
  pub first : ReportsFirst nodes follower.illegal
  pub known : FollowsBy replayed keeps follows_all nodes follower.at_hand follower.next_line follower.illegal follower.kept.items

-- the same, this being the replay of the current node
abbrev pub FollowsWith : {F K : Type 0} → (Shape → History → Option Illegal → K → Type 0) → List ReadNode → Replayed → Follower F K → Type 0
FollowsWith keeps nodes replay follower = ReportsFirst nodes follower.illegal × EndsAt keeps nodes replay follower.next_line follower.kept.items

-- the last node has ended, too: there is kept data of each, unless the nodes are not followed
abbrev pub HasEnded : {K : Type 0} → (Shape → History → Option Illegal → K → Type 0) → Bool → List ReadNode → Option Illegal → List K → Type 0
HasEnded keeps follows_all nodes illegal kept = ReportsFirst nodes illegal × (AreKept keeps nodes kept ⊎ (has_stopped follows_all illegal ≡ true))

-- the current node was kept up to this illegal event, with this left of it
pub record StopsWith {K R : Type 0} (keeps : Shape → History → Option Illegal → K → Type 0) (leaves : Replayed → R → Type 0) (rest : R) (found : Illegal) (illegal : Option Illegal) (kept : List K) (new_illegal : Option Illegal) (new_kept : List K) : Type 0 where
  pub more : K
  pub more_is : (before : Replayed) → leaves before rest → keeps before.shape before.history (Some found) more
  pub kept_are : new_kept ≡ kept ++ more ∷ []
  pub illegal_is : new_illegal ≡ first_illegal illegal found

-- there is room for one more event of the current node
abbrev pub HasRoomIn : ℕ → Replayed → Type 0
HasRoomIn next_line replay = (length replay.history ≤ next_line) × (next_line ≤ max_counted)

abbrev pub FollowerHasRoom : {F K : Type 0} → (F → Replayed) → Follower F K → Type 0
FollowerHasRoom replayed follower = IfSome follower.at_hand (λ node. HasRoomIn follower.next_line (replayed node))

-- the first illegal event so far
abbrev pub illegal_so_far : {F K : Type 0} → FollowedNodes F K → Option Illegal
illegal_so_far followed = followed.follower.illegal

-- what is known of these nodes is right
abbrev pub KnowsNodes : {F K : Type 0} → (F → Replayed) → (Shape → History → Option Illegal → K → Type 0) → Bool → List ReadNode → FollowedNodes F K → Type 0
KnowsNodes replayed keeps follows_all nodes followed = FollowerKnows replayed keeps follows_all nodes followed.follower

-- what is known is right for the nodes in the lines, which are before the line of this number
pub record FollowsLines {F K : Type 0} (replayed : F → Replayed) (keeps : Shape → History → Option Illegal → K → Type 0) (follows_all : Bool) (number : ℕ) (nodes : FollowedNodes F K) : Type 0 where
  pub each : All (IsNodeBefore max_node_blocks number) (nodes_read nodes.lines)
  pub follows : FollowerKnows replayed keeps follows_all (nodes_read nodes.lines) nodes.follower
