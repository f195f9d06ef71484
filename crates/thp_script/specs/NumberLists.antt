-- Lists of numbers in a word of the command line (this project's formats).
use Rattle.std.specs.Prelude.{◌≡◌, ◌≤◌, ◌<◌, ◌^◌, ℕ, nat_le, List, [], ◌∷◌, length, Option, Some, None, option_map, codes, if◌then◌else◌, decimal, bytes_eq}
use Rattle.std.specs.List.{join_with_byte}
use Rattle.thp_script.specs.Limits.{max_nodes}
use Rattle.thp_script.specs.Words.{Text, number_of, pieces_at}

-- items are separated by single commas (44)
abbrev pub items_of : Text → List Text
items_of = pieces_at 44

-- one more item at the front, if it and the others can be parsed
abbrev pub in_front : {A : Type 0} → Option A → Option (List A) → Option (List A)
in_front None read = None
in_front (Some x) None = None
in_front (Some x) (Some xs) = Some (x ∷ xs)

-- the items parsed, if each can be parsed
abbrev pub all_read : {A : Type 0} → (Text → Option A) → List Text → Option (List A)
all_read read [] = Some []
all_read read (item ∷ items) = in_front (read item) (all_read read items)

-- a list parsed, of at least one item and at most as many as there can be nodes
unfoldable pub list_in : {A : Type 0} → (Text → Option A) → Text → Option (List A)
list_in read text = if nat_le (length (items_of text)) max_nodes then all_read read (items_of text) else None

-- an order as an item: a number
abbrev pub order_of : Text → Option ℕ
order_of = number_of 4294967295

-- a threshold as an item: `off`, or a number
abbrev pub threshold_of : Text → Option (Option ℕ)
threshold_of item = if bytes_eq item (codes "off") then Some None else option_map (λ n. Some n) (number_of 4294967295 item)

-- the orders in a text
abbrev pub orders_in : Text → Option (List ℕ)
orders_in = list_in order_of

-- the thresholds in a text
abbrev pub thresholds_in : Text → Option (List (Option ℕ))
thresholds_in = list_in threshold_of

-- the text of a threshold
abbrev pub threshold_text : Option ℕ → Text
threshold_text None = codes "off"
threshold_text (Some n) = decimal n

-- a number that an order or a threshold can be written with
abbrev pub IsWritable : Option ℕ → Type 0
IsWritable None = Unit {0}
IsWritable (Some n) = n < 2 ^ 32

-- the text is these items, separated by commas: at least one, and at most as many as there can be nodes
pub record IsListText (items : List Text) (text : Text) : Type 0 where
  pub some : 0 < length items
  pub few : length items ≤ max_nodes
  pub joined : text ≡ join_with_byte 44 items
