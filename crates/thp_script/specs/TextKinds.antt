-- The kinds of error of a text, by their words.
use Rattle.std.specs.Prelude.{ℕ, List, codes}
use Rattle.thp_script.specs.declared.fault.TextKind.{TextKind}
use Rattle.thp_script.specs.declared.fault.TextKind.TheVariants.{TooLong, BadByte, Cut, BadWord, BadCount, BadNumber, BadSet, BadOrder}

-- the word for a kind on standard error (this project's formats)
abbrev pub kind_word : TextKind → List ℕ
kind_word TooLong = codes "too-long"
kind_word BadByte = codes "bad-byte"
kind_word Cut = codes "cut"
kind_word BadWord = codes "bad-word"
kind_word BadCount = codes "bad-count"
kind_word BadNumber = codes "bad-number"
kind_word BadSet = codes "bad-set"
kind_word BadOrder = codes "bad-order"
