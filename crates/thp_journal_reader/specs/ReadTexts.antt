-- What a check or a reader of journals has read, part by part, with the laws that `ReadsParts` asks for.
use Rattle.std.proofs.Common.{◌≡◌, ◌∙◌, ◌++◌, [], ℕ, List, ap, append_assoc, refl, sym}
use Rattle.thp_journal_reader.specs.Parts.{JournalReadSoFar, result_with}

-- the second state follows from the first by reading these bytes; the greatest number allowed is the same
pub record HasReadText (old : JournalReadSoFar) (bytes : List ℕ) (new : JournalReadSoFar) : Type 0 where
  pub text : (more : List ℕ) → result_with new more ≡ result_with old (bytes ++ more)
  pub most : new.text.most ≡ old.text.most

-- reading nothing changes nothing
pub no_text_read : (read : JournalReadSoFar) → HasReadText read [] read
no_text_read read = record { text = λ more. refl; most = refl }

-- reading bytes and then more bytes is reading all of them
pub more_text_read : (a b c : JournalReadSoFar) (first more : List ℕ) → HasReadText a first b → HasReadText b more c → HasReadText a (first ++ more) c
more_text_read a b c first more old new = record {
  text = λ rest. new.text rest ∙ old.text (more ++ rest) ∙ ap (result_with a) (sym (append_assoc first more rest));
  most = new.most ∙ old.most;
}
