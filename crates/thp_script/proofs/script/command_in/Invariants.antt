use Rattle.std.proofs.Common.{◌≡◌, List, drop, map}
use Rattle.thp_script.specs.Prelude.{Settings, Text, command_in, reading_of}
use Rattle.thp_script.proofs.script.command_in.Given as goal

-- the word names what it names among the commands that are left
abbrev pub invariant-loop-word : goal.invariant-loop-word
invariant-loop-word l = (s : Settings) (words : List Text) →
    command_in (map (λ command. (command.0.now, reading_of command.1)) (drop l.word-index l.commands)) s l.name words
    ≡ command_in (map (λ command. (command.0.now, reading_of command.1)) l.commands) s l.name words
