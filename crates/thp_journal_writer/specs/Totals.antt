-- The totals of nodes, and their text (this project's formats; the counters' names are those of
-- `admin-guide/mm/transhuge.rst`, "Monitoring usage").
use Rattle.std.specs.Prelude.{ℕ, ◌+◌, List, [], ◌∷◌, ◌++◌, Option, Some, None, codes, length, map, if◌then◌else◌, decimal}
use Rattle.thp_history.specs.declared.shape.Shape.{Shape}
use Rattle.thp_history.specs.Prelude.{thp_split_page, thp_split_page_failed, thp_deferred_split_page, thp_split_pmd, thp_underused_split_page, allocations, frames_given, frames_held, History, queue, shrinks_underused}
use Rattle.thp_journal_writer.specs.declared.totals.Totals.{Totals}

-- the totals of a node of this shape, with this history; the last one exists if its shrinker looks for underused pages
abbrev pub totals_of : Shape → History → Totals
totals_of s h = record {
  pages = allocations h;
  queue = length (queue s h);
  frames_held = frames_held s h;
  frames_given = frames_given h;
  thp_split_page = thp_split_page h;
  thp_split_page_failed = thp_split_page_failed h;
  thp_deferred_split_page = thp_deferred_split_page h;
  thp_split_pmd = thp_split_pmd h;
  thp_underused_split_page = if shrinks_underused s then Some (thp_underused_split_page s h) else None;
}

-- a label, a number in decimal and a line feed
unfoldable pub number_line : List ℕ → ℕ → List ℕ
number_line label number = label ++ decimal number ++ codes "\n"

-- the nine lines of node n
unfoldable pub nine_lines : ℕ → Totals → List ℕ
nine_lines n t =
    number_line (codes "node ") n
    ++ number_line (codes "pages ") t.pages
    ++ number_line (codes "queue ") t.queue
    ++ number_line (codes "frames_held ") t.frames_held
    ++ number_line (codes "frames_given ") t.frames_given
    ++ number_line (codes "thp_split_page ") t.thp_split_page
    ++ number_line (codes "thp_split_page_failed ") t.thp_split_page_failed
    ++ number_line (codes "thp_deferred_split_page ") t.thp_deferred_split_page
    ++ number_line (codes "thp_split_pmd ") t.thp_split_pmd

-- a tenth line, if the node's shrinker looks for underused pages
unfoldable pub tenth_line : Option ℕ → List ℕ
tenth_line None = []
tenth_line (Some split) = number_line (codes "thp_underused_split_page ") split

-- the lines of node n
abbrev pub totals_lines : ℕ → Totals → List ℕ
totals_lines n t = nine_lines n t ++ tenth_line t.thp_underused_split_page

-- the lines of nodes that are numbered from n
abbrev pub totals_lines_from : ℕ → List Totals → List ℕ
totals_lines_from n [] = []
totals_lines_from n (totals ∷ more) = totals_lines n totals ++ totals_lines_from (n + 1) more

-- the totals of a node with its shape and its history
abbrev pub totals_in : Shape × History → Totals
totals_in node = totals_of node.0 node.1

-- the totals of all nodes as text, each with its shape and its history
abbrev pub totals_text : List (Shape × History) → List ℕ
totals_text nodes = totals_lines_from 0 (map totals_in nodes)
