-- Whether a batch tries its pages in the order in which it took them (this project's profile).
use Rattle.std.specs.Prelude.{ℕ, Bool, false, not, nat_eq, if◌then◌else◌, List, [], ◌∷◌, ◌++◌, ◌+◌, Option, Some, None, find, fold, position, remove}
use Rattle.thp_history.specs.declared.events.Event.{Event}
use Rattle.thp_history.specs.declared.events.Outcome.TheVariants.{Freed}
use Rattle.thp_history.specs.declared.events.What.{What}
use Rattle.thp_history.specs.declared.events.What.TheVariants.{UnmapWhole, UnmapSub, Unpin, Taken, Split, Pinned, Used, Back, Dropped}
use Rattle.thp_history.specs.Prelude.{History}
use Rattle.thp_journal_scripts.specs.declared.turns.UntriedPage.{UntriedPage}

-- the page that an event tries
abbrev pub tried_page : What → Option ℕ
tried_page (Split p released) = Some p
tried_page (Pinned p) = Some p
tried_page (Used p) = Some p
tried_page w = None

-- the page that no event tries any more after this one, unless it is taken again
abbrev pub done_page : What → Option ℕ
done_page (UnmapWhole Freed p released) = Some p
done_page (UnmapSub Freed p first count released) = Some p
done_page (Unpin Freed p released) = Some p
done_page (Back p) = Some p
done_page (Dropped p) = Some p
done_page w = tried_page w

-- the pages without the one at a place, if there is a place
abbrev pub without_place : Option ℕ → List UntriedPage → List UntriedPage
without_place None pages = pages
without_place (Some i) pages = remove pages i

-- the pages without the first p, if there is a p
abbrev pub unless_done : Option ℕ → List UntriedPage → List UntriedPage
unless_done None pages = pages
unless_done (Some p) pages = without_place (position (λ (u : UntriedPage). nat_eq u.page p) pages) pages

-- the page that a caller takes
abbrev pub taken_by : ℕ → What → List UntriedPage
taken_by c (Taken p) = record { caller = c; page = p } ∷ []
taken_by c w = []

-- the pages that are taken and not tried yet after an event, in the order of their takes
abbrev pub untried_after : List UntriedPage → Event → List UntriedPage
untried_after pages e = unless_done (done_page e.what) pages ++ taken_by e.caller e.what

-- the first of a caller's pages
abbrev pub first_untried : ℕ → List UntriedPage → Option UntriedPage
first_untried c pages = find (λ (u : UntriedPage). nat_eq u.caller c) pages

abbrev pub is_page : ℕ → Option UntriedPage → Bool
is_page p None = false
is_page p (Some u) = nat_eq u.page p

-- another page than the caller's first is tried
abbrev pub is_other : List UntriedPage → ℕ → Option ℕ → Bool
is_other pages c None = false
is_other pages c (Some p) = not (is_page p (first_untried c pages))

-- an event tries another page than the first that its caller has taken and not tried yet
abbrev pub is_out_of_turn : List UntriedPage → Event → Bool
is_out_of_turn pages e = is_other pages e.caller (tried_page e.what)

-- the pages that are taken and not tried yet, and the number of tries out of turn so far
pub record TurnsSoFar : Type 0 where
  pub untried : List UntriedPage
  pub count : ℕ

abbrev pub turns_after : TurnsSoFar → Event → TurnsSoFar
turns_after t e = record {
  untried = untried_after t.untried e;
  count = t.count + (if is_out_of_turn t.untried e then 1 else 0);
}

abbrev pub turns_of : History → TurnsSoFar
turns_of h = fold turns_after (record { untried = []; count = 0 }) h

-- the number of tries of another page than the first that its caller has taken and not tried yet
abbrev pub out_of_turn : History → ℕ
out_of_turn h = (turns_of h).count
