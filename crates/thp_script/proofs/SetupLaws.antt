-- The commands of `setup` that are let go while a script is read stand at the front of what is read.
use Rattle.std.proofs.Common.{◌≡◌, ◌∙◌, ◌<◌, ℕ, zero, suc, List, [], ◌∷◌, ◌++◌, length, get_or, set, Option, Result, Ok, refl, sym, ap, append_assoc, arith, slice_set, append-nil}
use Rattle.thp_script.specs.Prelude.{Command, ScriptSections, Settings, after_setup, lines_spell, read_after, script_in, spelled_with, with_commands, ◌>>=◌, commands_from, Fault, Placed, fault_with, unless, TextSoFar, Text, lines_of}
use Rattle.thp_script.specs.Parts.{first_section}

-- the commands of sections whose first begins with `front`
front_stays : (front setup : List Command) (workers : List (List Command)) (ps : List Placed) → script_in (with_commands ((front ++ setup) ∷ workers) ps) ≡ after_setup front (script_in (with_commands (setup ∷ workers) ps))
front_stays front setup workers [] = refl
front_stays front setup workers ((zero, command) ∷ ps) =
    ap (λ first. script_in (with_commands (first ∷ workers) ps)) (append_assoc front setup (command ∷ []))
    ∙ front_stays front (setup ++ command ∷ []) workers ps
front_stays front setup workers ((suc k, command) ∷ ps) = front_stays front setup (set workers k (get_or workers k [] ++ command ∷ [])) ps

front_read : (front setup : List Command) (workers : List (List Command)) (read : Result (List Placed) Fault)
    → (read >>= λ ps. Ok (script_in (with_commands ((front ++ setup) ∷ workers) ps))) ≡ read_after front (read >>= λ ps. Ok (script_in (with_commands (setup ∷ workers) ps)))
front_read front setup workers x = grind (arith, front_stays)

front_reported : (front : List Command) (fault : Option Fault) (one other : Result ScriptSections Fault) → one ≡ read_after front other → unless fault one ≡ read_after front (unless fault other)
front_reported front x one other same = grind arith

-- what is spelled once the commands of `setup` that were read are let go
pub setup_gone : (s : Settings) (sections : List (List Command)) (section : Option ℕ) (t : TextSoFar) (more : Text) → 0 < length sections
    → spelled_with (record { settings = s; sections = sections; section = section; text = t }) more
    ≡ read_after (first_section sections) (spelled_with (record { settings = s; sections = slice_set sections 0 []; section = section; text = t }) more)
unfolding lines_spell
setup_gone s [] section t more some = absurd (omega arith)
setup_gone s (setup ∷ workers) section t more some =
    front_reported setup (fault_with t more) _ _
    (ap (λ first. commands_from s t.line section (lines_of (t.begun ++ more)) >>= λ ps. Ok (script_in (with_commands (first ∷ workers) ps))) (sym (append-nil setup))
    ∙ front_read setup [] workers (commands_from s t.line section (lines_of (t.begun ++ more))))

-- no command of `setup` is left then
pub none_left : (sections : List (List Command)) → first_section (slice_set sections 0 []) ≡ []
none_left [] = refl
none_left (setup ∷ workers) = refl
