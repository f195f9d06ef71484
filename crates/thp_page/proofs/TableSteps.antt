-- From the fields of a table to what contracts see: reads and writes of one block.
use Rattle.std.proofs.Common.{◌≡◌, ◌≢◌, ◌∙◌, ◌<◌, ℕ, zero, suc, List, [], ◌∷◌, length, get_or, set, replicate, cond, Option, Some, None, ap, sym, refl, arith, is_some, IsSome, IfSome, IfNone}
use Rattle.std.proofs.lemmas.List.{length-map, set-get_or}
use Rattle.thp_links.specs.declared.link.Link.{Link}
use Rattle.thp_history.specs.Prelude.{PageState}
use Rattle.thp_page.specs.Prelude.{Descriptor, Standing, Slot, Table, slot_at, with_slot, number_in, page_in, paged, stood, HoldsPage, links_of, slot_of, slots_of, blank_descriptor, with_page}

-- the table that such fields stand for
abbrev pub table_of : ℕ → List (Option ℕ) → List Descriptor → ℕ → Table
table_of order ns ds n = record { order = order; links = links_of ds; slots = slots_of ns ds; accesses = n }

-- a write that keeps a descriptor's pair keeps the pairs
pub links_of-set : (ds : List Descriptor) (b : ℕ) (d e : Descriptor) → d ≡ get_or ds b d → e.link ≡ d.link → links_of (set ds b e) ≡ links_of ds
links_of-set [] b d e is same = refl
links_of-set (x ∷ ds) zero d e is same = ap (λ l. l ∷ links_of ds) (same ∙ ap (λ (k : Descriptor). k.link) is)
links_of-set (x ∷ ds) (suc b) d e is same = ap (λ ls. x.link ∷ ls) (links_of-set ds b d e is same)

-- a write of a descriptor, of a number and of both is one of the slot
pub slots_of-set : (ns : List (Option ℕ)) (ds : List Descriptor) (b : ℕ) (e : Descriptor) → slots_of ns (set ds b e) ≡ set (slots_of ns ds) b (slot_of (get_or ns b None) e)
slots_of-set [] [] b e = refl
slots_of-set [] (d ∷ ds) b e = refl
slots_of-set (n ∷ ns) [] b e = refl
slots_of-set (n ∷ ns) (d ∷ ds) zero e = refl
slots_of-set (n ∷ ns) (d ∷ ds) (suc b) e = ap (λ os. slot_of n d ∷ os) (slots_of-set ns ds b e)

pub slots_of-number : (ns : List (Option ℕ)) (ds : List Descriptor) (b : ℕ) (o : Option ℕ) (d : Descriptor) → slots_of (set ns b o) ds ≡ set (slots_of ns ds) b (slot_of o (get_or ds b d))
slots_of-number [] ds b o d = refl
slots_of-number (n ∷ ns) [] zero o d = refl
slots_of-number (n ∷ ns) [] (suc b) o d = refl
slots_of-number (n ∷ ns) (x ∷ ds) zero o d = refl
slots_of-number (n ∷ ns) (x ∷ ds) (suc b) o d = ap (λ os. slot_of n x ∷ os) (slots_of-number ns ds b o d)

pub slots_of-both : (ns : List (Option ℕ)) (ds : List Descriptor) (b : ℕ) (o : Option ℕ) (e : Descriptor) → slots_of (set ns b o) (set ds b e) ≡ set (slots_of ns ds) b (slot_of o e)
slots_of-both [] ds b o e = refl
slots_of-both (n ∷ ns) [] zero o e = refl
slots_of-both (n ∷ ns) [] (suc b) o e = refl
slots_of-both (n ∷ ns) (d ∷ ds) zero o e = refl
slots_of-both (n ∷ ns) (d ∷ ds) (suc b) o e = ap (λ os. slot_of n d ∷ os) (slots_of-both ns ds b o e)

-- a write of a pair keeps the slots
pub slots_of-linked : (ns : List (Option ℕ)) (ds : List Descriptor) (b : ℕ) (d : Descriptor) (l : Link) → d ≡ get_or ds b d → slots_of ns (set ds b (record d { link = l })) ≡ slots_of ns ds
slots_of-linked [] [] b d l is = refl
slots_of-linked [] (x ∷ ds) b d l is = refl
slots_of-linked (n ∷ ns) [] b d l is = refl
slots_of-linked (n ∷ ns) (x ∷ ds) zero d l is = ap (λ o. o ∷ slots_of ns ds) (slot_of-linked n d l ∙ ap (λ (k : Descriptor). slot_of n k) is) where
  slot_of-linked : (o : Option ℕ) (k : Descriptor) (m : Link) → slot_of o (record k { link = m }) ≡ slot_of o k
  slot_of-linked None k m = refl
  slot_of-linked (Some i) k m = refl
slots_of-linked (n ∷ ns) (x ∷ ds) (suc b) d l is = ap (λ os. slot_of n x ∷ os) (slots_of-linked ns ds b d l is)

-- the slot of a block, by its number and its descriptor
pub get_or-slots_of : (ns : List (Option ℕ)) (ds : List Descriptor) (b : ℕ) (d : Descriptor) → length ns ≡ length ds → b < length ds → get_or (slots_of ns ds) b None ≡ slot_of (get_or ns b None) (get_or ds b d)
get_or-slots_of [] ds b d same inside = absurd (omega arith)
get_or-slots_of (n ∷ ns) [] b d same inside = absurd (omega arith)
get_or-slots_of (n ∷ ns) (x ∷ ds) zero d same inside = refl
get_or-slots_of (n ∷ ns) (x ∷ ds) (suc b) d same inside = get_or-slots_of ns ds b d (omega arith) (omega arith)

-- a slot has a page of this number exactly where the block has the number
pub number-held : (ns : List (Option ℕ)) (ds : List Descriptor) (b id : ℕ) → HoldsPage (get_or (slots_of ns ds) b None) id → get_or ns b None ≡ Some id
number-held [] ds b id held = absurd held
number-held (n ∷ ns) [] b id held = absurd held
number-held (None ∷ ns) (d ∷ ds) zero id held = absurd held
number-held (Some m ∷ ns) (d ∷ ds) zero id held = ap (λ (k : ℕ). Some k) held
number-held (n ∷ ns) (d ∷ ds) (suc b) id held = number-held ns ds b id held

pub HoldsPage-number : (ns : List (Option ℕ)) (ds : List Descriptor) (b id : ℕ) → length ns ≡ length ds → get_or ns b None ≡ Some id → HoldsPage (get_or (slots_of ns ds) b None) id
HoldsPage-number [] ds b id same is = absurd (cc)
HoldsPage-number (n ∷ ns) [] b id same is = absurd (omega arith)
HoldsPage-number (None ∷ ns) (d ∷ ds) zero id same is = absurd (cc)
HoldsPage-number (Some m ∷ ns) (d ∷ ds) zero id same is = cc
HoldsPage-number (n ∷ ns) (d ∷ ds) (suc b) id same is = HoldsPage-number ns ds b id (omega arith) is

-- a slot with another page, and with another standing
pub slot_of-page : (o : Option ℕ) (d : Descriptor) (p : PageState) → slot_of o (with_page d p) ≡ paged (slot_of o d) p
slot_of-page x d p = grind arith

pub slot_of-standing : (o : Option ℕ) (d : Descriptor) (w : Standing) → slot_of o (record d { standing = w }) ≡ stood (slot_of o d) w
slot_of-standing x d w = grind arith

-- what a slot has
pub number_in-slot_of : (o : Option ℕ) (d : Descriptor) → number_in (slot_of o d) ≡ o
number_in-slot_of x d = grind arith

pub standing_in-slot_of : (o : Option ℕ) (d : Descriptor) → IfSome (slot_of o d) (λ s. d.standing ≡ s.standing)
standing_in-slot_of x d = grind arith

pub occupant-slot_of : (o : Option ℕ) (d : Descriptor) → IfSome (slot_of o d) (λ s. d.page ≡ s.page)
occupant-slot_of None d = tt
occupant-slot_of (Some n) d = refl

pub numbered_slot : (o : Option Slot) (id : ℕ) → number_in o ≡ Some id → IfSome o (λ s. id ≡ s.id)
numbered_slot None id is = tt
numbered_slot (Some s) id is = cc

pub page_in-slot_of : (o : Option ℕ) (d : Descriptor) → page_in (slot_of o d) ≡ cond (is_some o) (Some d.page) None
page_in-slot_of x d = grind arith

-- a block inside what contracts see is inside the fields
pub block_inside : (order : ℕ) (ns : List (Option ℕ)) (ds : List Descriptor) (n b : ℕ) (t : Table) → table_of order ns ds n ≡ t → b < length t.links → b < length ds
block_inside order ns ds n b t view inside = grind (arith, length-map)

-- a read of a block
pub slot_read : (order : ℕ) (ns : List (Option ℕ)) (ds : List Descriptor) (n b : ℕ) (d : Descriptor) (t : Table) → table_of order ns ds n ≡ t → length ns ≡ length ds → b < length t.links → d ≡ get_or ds b d → slot_at t b ≡ slot_of (get_or ns b None) d
slot_read order ns ds n b d t view same inside is =
    ap (λ (u : Table). slot_at u b) (sym view)
    ∙ get_or-slots_of ns ds b d same (block_inside order ns ds n b t view inside)
    ∙ ap (λ (k : Descriptor). slot_of (get_or ns b None) k) (sym is)

-- the number of a block, and a block without one
pub number_read : (order : ℕ) (ns : List (Option ℕ)) (ds : List Descriptor) (n b : ℕ) (t : Table) → table_of order ns ds n ≡ t → length ns ≡ length ds → b < length t.links → number_in (slot_at t b) ≡ get_or ns b None
number_read order ns ds n b t view same inside =
    ap (λ (u : Table). number_in (slot_at u b)) (sym view)
    ∙ ap number_in (get_or-slots_of ns ds b (blank_descriptor order) same (block_inside order ns ds n b t view inside))
    ∙ number_in-slot_of (get_or ns b None) (get_or ds b (blank_descriptor order))

pub empty_read : (order : ℕ) (ns : List (Option ℕ)) (ds : List Descriptor) (n b : ℕ) (t : Table) → table_of order ns ds n ≡ t → length ns ≡ length ds → b < length t.links → get_or ns b None ≡ None → slot_at t b ≡ None
empty_read order ns ds n b t view same inside none =
    ap (λ (u : Table). slot_at u b) (sym view)
    ∙ get_or-slots_of ns ds b (blank_descriptor order) same (block_inside order ns ds n b t view inside)
    ∙ ap (λ (o : Option ℕ). slot_of o (get_or ds b (blank_descriptor order))) none

-- an empty block has no number, and a taken one has
pub no_number : (order : ℕ) (ns : List (Option ℕ)) (ds : List Descriptor) (n b : ℕ) (t : Table) → table_of order ns ds n ≡ t → length ns ≡ length ds → b < length t.links → slot_at t b ≡ None → get_or ns b None ≡ None
no_number order ns ds n b t view same inside empty = sym (number_read order ns ds n b t view same inside) ∙ ap number_in empty

pub some_number : (order : ℕ) (ns : List (Option ℕ)) (ds : List Descriptor) (n b : ℕ) (t : Table) → table_of order ns ds n ≡ t → length ns ≡ length ds → b < length t.links → IsSome (slot_at t b) → IsSome (get_or ns b None)
some_number order ns ds n b t view same inside taken = ap is_some (sym (number_read order ns ds n b t view same inside)) ∙ as_slot (slot_at t b) ∙ taken where
  as_slot : (o : Option Slot) → is_some (number_in o) ≡ is_some o
  as_slot None = refl
  as_slot (Some s) = refl

-- the block of a number, and a number that no block has
pub number_found : (order : ℕ) (ns : List (Option ℕ)) (ds : List Descriptor) (n id : ℕ) (t : Table) (r : Option ℕ) → table_of order ns ds n ≡ t → length ns ≡ length ds → IfSome r (λ b. get_or ns b None ≡ Some id) → IfSome r (λ b. HoldsPage (slot_at t b) id)
number_found order ns ds n id t x view same is = grind (arith, HoldsPage-number)

pub number_absent : (order : ℕ) (ns : List (Option ℕ)) (ds : List Descriptor) (n id : ℕ) (t : Table) (r : Option ℕ) → table_of order ns ds n ≡ t → IfNone r ((b : ℕ) → get_or ns b None ≢ Some id) → IfNone r ((b : ℕ) → HoldsPage (slot_at t b) id → ⊥)
number_absent order ns ds n id t x view none = grind (arith, number-held)

-- a descriptor written, with its pair kept
pub descriptor_written : (order : ℕ) (ns : List (Option ℕ)) (ds : List Descriptor) (n b : ℕ) (d e : Descriptor) (t : Table) → table_of order ns ds n ≡ t → d ≡ get_or ds b d → e.link ≡ d.link → table_of order ns (set ds b e) n ≡ with_slot t b (slot_of (get_or ns b None) e)
descriptor_written order ns ds n b d e t view is same = grind (arith, links_of-set, slots_of-set, get_or)

-- a descriptor written as it was
pub descriptor_kept : (order : ℕ) (ns : List (Option ℕ)) (ds : List Descriptor) (n b : ℕ) (d : Descriptor) (t : Table) → table_of order ns ds n ≡ t → d ≡ get_or ds b d → table_of order ns (set ds b d) n ≡ t
descriptor_kept order ns ds n b d t view is = grind (arith, set-get_or)

-- a number taken away
pub number_cleared : (order : ℕ) (ns ms : List (Option ℕ)) (ds : List Descriptor) (n b : ℕ) (t : Table) → table_of order ns ds n ≡ t → ms ≡ set ns b None → table_of order ms ds n ≡ with_slot t b None
number_cleared order ns ms ds n b t view is =
    let made : List (Option Slot) → Table = λ os. record { order = order; links = links_of ds; slots = os; accesses = n } in
    ap (λ (ks : List (Option ℕ)). table_of order ks ds n) is
    ∙ ap made (slots_of-number ns ds b None (blank_descriptor order))
    ∙ ap (λ (u : Table). with_slot u b None) view

-- a number and a descriptor written, with its pair kept
pub both_written : (order : ℕ) (ns ms : List (Option ℕ)) (ds : List Descriptor) (n b id : ℕ) (d e : Descriptor) (t : Table) → table_of order ns ds n ≡ t → ms ≡ set ns b (Some id) → d ≡ get_or ds b d → e.link ≡ d.link → table_of order ms (set ds b e) n ≡ with_slot t b (slot_of (Some id) e)
both_written order ns ms ds n b id d e t view placed is same = grind (arith, links_of-set, slots_of-both)

-- a new table has no page
pub slots_of-blank : (n : ℕ) (d : Descriptor) → slots_of (replicate n None) (replicate n d) ≡ replicate n None
slots_of-blank zero d = refl
slots_of-blank (suc n) d = ap (λ os. None ∷ os) (slots_of-blank n d)
