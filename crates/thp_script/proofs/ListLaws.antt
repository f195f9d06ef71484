-- Lists of items read one by one, and written.
use Rattle.std.proofs.Common.{◌≡◌, ◌==◌, ◌<◌, ◌≤◌, ◌^◌, ℕ, Bool, true, false, cond, List, [], ◌∷◌, ◌++◌, length, map, Option, Some, None, ap, arith, codes, leb, lit<, refl, sym, All, IfNone, IfSome, MatchOption, option_map, decimal, unwrap_or, bytes_eq}
use Rattle.std.specs.Char.{is_ascii_digit}
use Rattle.std.specs.List.{join_with_byte, list_all}
use Rattle.std.proofs.lemmas.Bool.{and_parts, le-leb, leb-true, lt-leb, ne_eqb}
use Rattle.std.proofs.lemmas.Fmt.{digits_decimal}
use Rattle.std.proofs.lemmas.List.Elements.{All-cons, All-head, All-nil, All-tail}
use Rattle.std.proofs.lemmas.List.Splits.{join_with_byte-slice_split, slice_split_at, slice_split_none}
use Rattle.std.proofs.lemmas.Slice.Eq.{bytes_eq-Decides}
use Rattle.arrayvec.specs.ArrayVec.{ArrayVec}
use Rattle.thp_script.specs.Prelude.{max_nodes, all_read, in_front, items_of, list_in, order_of, threshold_of, threshold_text, IsListText, IsWritable, Text}
use Rattle.thp_script.proofs.NumberLaws.{decimal_of_number, digits, number_of-decimal}
use Rattle.thp_script.proofs.PieceLaws.{HasFirst, has_first}

-- ---- one by one

-- the items read before, in front of those that are still read
abbrev pub behind : {A : Type 0} → List A → Option (List A) → Option (List A)
behind before None = None
behind before (Some xs) = Some (before ++ xs)

module _ {A : Type 0} (read : Text → Option A) (text : Text) where
  pub list_fails : all_read read (items_of text) ≡ None → list_in read text ≡ None
  unfolding list_in
  list_fails e = grind arith

  pub list_too_long : max_nodes < length (items_of text) → list_in read text ≡ None
  unfolding list_in
  list_too_long lt = rw (lt-leb (length (items_of text)) max_nodes lt) refl

  pub list_is : (xs : List A) → length (items_of text) ≤ max_nodes → all_read read (items_of text) ≡ Some xs → list_in read text ≡ Some xs
  unfolding list_in
  list_is xs le e = rw (le-leb (length (items_of text)) max_nodes le) e

-- ---- written

-- an item in front of others, where all can be read
front_read : {A : Type 0} (o : Option A) (r : Option (List A)) (xs : List A) → in_front o r ≡ Some xs → (x : A) × (ys : List A) × (o ≡ Some x) × (r ≡ Some ys) × (x ∷ ys ≡ xs)
front_read x r xs e = grind (arith, unwrap_or)

-- where each item is read as what it writes, so are the items
module _ {A : Type 0} (read : Text → Option A) (write : A → Text) (writes : (item : Text) (x : A) → read item ≡ Some x → item ≡ write x) where
  all_written : (items : List Text) (xs : List A) → all_read read items ≡ Some xs → items ≡ map write xs
  all_written [] xs e = rw (← ap (λ o. unwrap_or o xs) e) refl
  all_written (item ∷ items) xs e =
      let f = front_read (read item) (all_read read items) xs e in
      rw (← f.4) (cons_same (writes item f.0 f.2) (all_written items f.1 f.3))
    where
      cons_same : {a b : Text} {xs ys : List Text} → a ≡ b → xs ≡ ys → a ∷ xs ≡ b ∷ ys
      cons_same e h = rw (e, h) refl

  -- a list that is read is the text of what it is read as
  pub list_written : (text : Text) (xs : List A) → list_in read text ≡ Some xs → IsListText (map write xs) text
  unfolding list_in
  list_written text xs e = go (leb (length (items_of text)) max_nodes) refl (has_first 44 text) e
    where
      go : (b : Bool) → leb (length (items_of text)) max_nodes ≡ b → HasFirst (items_of text) → cond b (all_read read (items_of text)) None ≡ Some xs → IsListText (map write xs) text
      go true few first e =
          let is : items_of text ≡ map write xs = all_written (items_of text) xs e in
          record {
            some = rw (← is, first.2) (omega arith);
            few = rw (← is) (leb-true (length (items_of text)) max_nodes few);
            joined = rw (← is) (sym (join_with_byte-slice_split 44 text));
          }
      go false few first e = absurd cc

  -- so what a reader gives has its text
  pub given_written : (given : Option (ArrayVec A)) (bytes text : Text) → bytes ≡ text → MatchOption given (list_in read bytes ≡ None) (λ v. list_in read bytes ≡ Some v.items) → IfSome given (λ v. IsListText (map write v.items) text)
  given_written x bytes text e h = grind (arith, list_written)

-- ---- read again

-- the text of items without a comma is cut into those items
abbrev pub HasNoComma : Text → Type 0
HasNoComma item = All (λ b. (b == 44) ≡ false) item

items_of_joined : (items : List Text) → 0 < length items → All HasNoComma items → items_of (join_with_byte 44 items) ≡ items
items_of_joined [] some plain = absurd (omega arith)
items_of_joined (item ∷ []) some plain = slice_split_none (λ b. b == 44) item (All-head HasNoComma item [] plain)
items_of_joined (item ∷ next ∷ items) some plain =
    rw (slice_split_at (λ b. b == 44) item 44 (join_with_byte 44 (next ∷ items)) (All-head HasNoComma item (next ∷ items) plain) refl, items_of_joined (next ∷ items) (omega arith) (All-tail HasNoComma item (next ∷ items) plain)) refl

module _ {A : Type 0} (read : Text → Option A) (write : A → Text) (IsRight : A → Type 0) (again : (x : A) → IsRight x → read (write x) ≡ Some x) (plain : (x : A) → IsRight x → HasNoComma (write x)) where
  all_again : (xs : List A) → All IsRight xs → all_read read (map write xs) ≡ Some xs
  all_again [] right = refl
  all_again (x ∷ xs) right = rw (again x (All-head IsRight x xs right), all_again xs (All-tail IsRight x xs right)) refl

  all_plain : (xs : List A) → All IsRight xs → All HasNoComma (map write xs)
  all_plain [] right = All-nil HasNoComma
  all_plain (x ∷ xs) right = All-cons HasNoComma (write x) (map write xs) (plain x (All-head IsRight x xs right)) (all_plain xs (All-tail IsRight x xs right))

  -- the text of a list is read as that list
  pub list_again : (text : Text) (xs : List A) → All IsRight xs → IsListText (map write xs) text → list_in read text ≡ Some xs
  list_again text xs right is =
      let cut : items_of text ≡ map write xs = rw is.joined (items_of_joined (map write xs) is.some (all_plain xs right)) in
      list_is read text xs (rw cut is.few) (rw cut (all_again xs right))

  -- so a text that isn't read is no list's
  pub none_is_list : (text : Text) → list_in read text ≡ None → (xs : List A) → All IsRight xs → ¬ IsListText (map write xs) text
  none_is_list text none xs right is = grind (arith, list_again)

  -- so what a reader doesn't give is none
  pub given_refused : (given : Option (ArrayVec A)) (bytes text : Text) → bytes ≡ text → MatchOption given (list_in read bytes ≡ None) (λ v. list_in read bytes ≡ Some v.items)
      → IfNone given ((xs : List A) → All IsRight xs → ¬ IsListText (map write xs) text)
  given_refused x bytes text e h = grind (arith, none_is_list)

-- ---- orders and thresholds

no_comma_in_digits : (item : Text) → list_all is_ascii_digit item ≡ true → HasNoComma item
no_comma_in_digits [] digits = All-nil (λ b. (b == 44) ≡ false)
no_comma_in_digits (b ∷ item) digits =
    let p = and_parts (is_ascii_digit b) (list_all is_ascii_digit item) digits in
    let low : 48 ≤ b = leb-true 48 b (and_parts (leb 48 b) (leb b 57) p.0).0 in
    All-cons (λ c. (c == 44) ≡ false) b item (ne_eqb b 44 (λ (e : b ≡ 44). absurd (omega arith))) (no_comma_in_digits item p.1)

pub order_written : (item : Text) (n : ℕ) → order_of item ≡ Some n → item ≡ decimal n
order_written item n e = sym (decimal_of_number 4294967295 n item (lit< tt) e).1

pub order_again : (n : ℕ) → n < 2 ^ 32 → order_of (decimal n) ≡ Some n
order_again n lt = number_of-decimal 4294967295 n (omega arith) (lit< tt)

pub order_plain : (n : ℕ) → n < 2 ^ 32 → HasNoComma (decimal n)
order_plain n lt = grind (arith, no_comma_in_digits, digits_decimal, digits)

option_some : (o : Option ℕ) (t : Option ℕ) → option_map (λ n. Some n) o ≡ Some t → (n : ℕ) × (o ≡ Some n) × (Some n ≡ t)
option_some x t e = grind (arith, unwrap_or)

pub threshold_written : (item : Text) (t : Option ℕ) → threshold_of item ≡ Some t → item ≡ threshold_text t
threshold_written item t e = grind (arith, bytes_eq, option_map, unwrap_or, bytes_eq-Decides, option_some, order_written)

-- a number isn't `off`
digits_not_off : (item : Text) → list_all is_ascii_digit item ≡ true → bytes_eq item (codes "off") ≡ false
digits_not_off item digits = grind (arith, bytes_eq, bytes_eq-Decides)

pub threshold_again : (t : Option ℕ) → IsWritable t → threshold_of (threshold_text t) ≡ Some t
threshold_again x right = grind (arith, digits_not_off, digits_decimal, digits, order_again)

pub threshold_plain : (t : Option ℕ) → IsWritable t → HasNoComma (threshold_text t)
threshold_plain x right = grind (arith, All-cons, All-nil, order_plain)
