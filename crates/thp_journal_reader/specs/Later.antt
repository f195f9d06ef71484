-- What is before a line is before the next one, too: ghost members of traits, which cite no file of proofs, need it here.
use Rattle.std.specs.Prelude.{◌+◌, ℕ, Bool, List, Option, All}
use Rattle.std.proofs.Math.Nat.{le_trans, le-add_right}
use Rattle.thp_history.specs.declared.shape.Shape.{Shape}
use Rattle.thp_history.specs.Prelude.{History, max_blocks, max_node_blocks}
use Rattle.thp_check.specs.Prelude.{Replayed}
use Rattle.thp_journal_reader.specs.declared.follower.FollowedNodes.{FollowedNodes}
use Rattle.thp_journal_reader.specs.declared.long_check.Illegal.{Illegal}
use Rattle.thp_journal_reader.specs.declared.journals.ReadNode.{ReadNode}
use Rattle.thp_journal_reader.specs.declared.journals.Nodes.{Nodes}
use Rattle.thp_journal_reader.specs.Following.{nodes_read, FollowsLines}
use Rattle.thp_journal_reader.specs.Reading.{nodes_in, IsNodeBefore, IsReadingNodes}

node_later : (most number : ℕ) (node : ReadNode) → IsNodeBefore most number node → IsNodeBefore most (number + 1) node
node_later most number node before = record { shape = before.shape; lines = le_trans before.lines (le-add_right number 1) }

each_later : (most number : ℕ) (nodes : List ReadNode) → All (IsNodeBefore most number) nodes → All (IsNodeBefore most (number + 1)) nodes
each_later most number nodes each = λ k d inside. node_later most number _ (each k d inside)

pub reads_later : (number : ℕ) (nodes : Option Nodes) → IsReadingNodes number nodes → IsReadingNodes (number + 1) nodes
reads_later number nodes reads = record { along = reads.along; each = each_later max_blocks number (nodes_in nodes) reads.each }

pub follows_later : {F K : Type 0} (replayed : F → Replayed) (keeps : Shape → History → Option Illegal → K → Type 0) (follows_all : Bool) (number : ℕ) (nodes : FollowedNodes F K) →
    FollowsLines replayed keeps follows_all number nodes → FollowsLines replayed keeps follows_all (number + 1) nodes
follows_later replayed keeps follows_all number nodes along = record { each = each_later max_node_blocks number (nodes_read nodes.lines) along.each; follows = along.follows }
