-- The view that contracts have of an `IndexList`.
use Rattle.std.specs.Prelude.{ℕ, List, [], ◌∷◌, ◌++◌, drop}
use Rattle.thp_links.specs.Indices.{without_index}
use Rattle.thp_links.specs.declared.index_list.Edit.{Edit}
use Rattle.thp_links.specs.declared.index_list.Edit.TheVariants.{Append, Prepend, Remove, RemoveFirst}
use Rattle.thp_links.specs.declared.index_list.Edits.{Edits}
use Rattle.thp_links.specs.declared.index_list.Edits.TheVariants.{Empty, Then'}

-- the list after one edit
abbrev pub edited_by : Edit → List ℕ → List ℕ
edited_by (Append i) xs = xs ++ i ∷ []
edited_by (Prepend i) xs = i ∷ xs
edited_by (Remove i) xs = without_index i xs
edited_by RemoveFirst xs = drop 1 xs

-- the list after the edits
abbrev pub edited : Edits → List ℕ
edited Empty = []
edited (Then' edit shape before) = edited_by edit (edited before)
