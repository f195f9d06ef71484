use Rattle.std.proofs.Common.{◌≡◌, ◌++◌, drop}
use Rattle.thp_drawing.specs.Tables.{column_lines, node_table_line, stuck_table_lines}
use Rattle.thp_drawing.proofs.table.put_node.Given as goal

abbrev pub invariant-loop-place : goal.invariant-loop-place
invariant-loop-place l =
    l.text.items ++ column_lines l.number l.node.width l.node.prefixes l.place (drop l.place l.node.columns.items)
    ≡ l.fn.text.items ++ node_table_line l.number l.node ++ column_lines l.number l.node.width l.node.prefixes 0 l.node.columns.items

abbrev pub invariant-loop-page : goal.invariant-loop-page
invariant-loop-page l =
    l.text.items ++ stuck_table_lines l.number (drop l.page-index l.node.stuck.items)
    ≡ l.fn.text.items ++ node_table_line l.number l.node ++ column_lines l.number l.node.width l.node.prefixes 0 l.node.columns.items
    ++ stuck_table_lines l.number l.node.stuck.items
