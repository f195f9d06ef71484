-- Known bytes over several reads and writes.
use Rattle.std.proofs.Common.{◌≡◌, ℕ, ◌<◌, List, [], ◌∷◌, ◌++◌, length, Option, Some, None, sym, ◌∙◌, arith, append_assoc, take, drop, append-nil, take-append-drop, IfSome}
use Rattle.std.specs.Io.KnownBytes.{Consumes, Appends, Keeps, IsAtEnd}
use Rattle.thp_script.specs.Prelude.{IsFrontOf}
use Rattle.thp_cli.specs.Prelude.{WritesFront}

-- nothing was read
pub read_nothing : (a : Option (List ℕ)) → Consumes a a []
read_nothing x = grind arith

-- one more piece was read
pub read_more : (a b c : Option (List ℕ)) (bytes piece : List ℕ) → Consumes a b bytes → Consumes b c piece → Consumes a c (bytes ++ piece)
read_more x b c bytes piece h k = grind (arith, append_assoc)

-- all was read: one more read gave nothing
pub read_all : (most : ℕ) (a b c : Option (List ℕ)) (bytes piece : List ℕ) → Consumes a b bytes → Consumes b c piece → length piece ≡ 0 → IsAtEnd c → IfSome a (IsFrontOf most bytes)
read_all most None b c bytes piece h k none end = tt
read_all most (Some xs) None c bytes piece h k none end = absurd h
read_all most (Some xs) (Some ys) None bytes piece h k none end = absurd k
read_all most (Some xs) (Some ys) (Some zs) bytes [] h k none end = record { rest = ys; front = h; all = λ le. k ∙ end }
read_all most (Some xs) (Some ys) (Some zs) bytes (b ∷ piece) h k none end = absurd (omega arith)

-- more was read than is looked at
pub read_beyond : (most : ℕ) (a b : Option (List ℕ)) (bytes : List ℕ) → Consumes a b bytes → most < length bytes → IfSome a (IsFrontOf most bytes)
read_beyond most x b bytes h lt = grind arith

-- the writer took the text but for `rest`
pub record Written (old new : Option (List ℕ)) (text rest : List ℕ) : Type 0 where
  pub front : List ℕ
  pub parts : text ≡ front ++ rest
  pub written : Appends old new front

appends_nothing : (old : Option (List ℕ)) → Appends old old []
appends_nothing x = grind (arith, append-nil)

appends_more : (a b c : Option (List ℕ)) (front piece : List ℕ) → Appends a b front → Appends b c piece → Appends a c (front ++ piece)
appends_more x b c front piece h k = grind (arith, append_assoc)

pub write_more : (a b c : Option (List ℕ)) (text rest : List ℕ) (n : ℕ) → Written a b text rest → Appends b c (take n rest) → Written a c text (drop n rest)
write_more a b c text rest n w k = grind (arith, append_assoc, take-append-drop, appends_more)

pub write_stops : (a b c : Option (List ℕ)) (text rest : List ℕ) → Written a b text rest → Appends b c [] → WritesFront a c text
write_stops a b c text rest w k = grind (arith, append-nil, appends_more)

keeps_appends : (b c : Option (List ℕ)) → Keeps b c → Appends b c []
keeps_appends x c k = grind (arith, append-nil)

pub flush_stops : (a b c : Option (List ℕ)) (text rest : List ℕ) → Written a b text rest → Keeps b c → WritesFront a c text
flush_stops a b c text rest w k = write_stops a b c text rest w (keeps_appends b c k)

-- the bytes were taken, and nothing is left of them
pub written_all : (a b : Option (List ℕ)) (text : List ℕ) → Appends a b text → Written a b text []
written_all a b text w = record { front = text; parts = sym (append-nil text); written = w }

-- a part of what was left was taken, too
pub written_part : (a b c : Option (List ℕ)) (text rest part left : List ℕ) → Written a b text rest → part ++ left ≡ rest → Appends b c part → Written a c text left
written_part a b c text rest part left w e k = grind (arith, append_assoc, appends_more)

-- a front of a part of what was left was taken
pub part_cut : (a b c : Option (List ℕ)) (text rest part left : List ℕ) → Written a b text rest → part ++ left ≡ rest → WritesFront b c part → WritesFront a c text
part_cut a b c text rest part left w e k = grind (arith, append_assoc, appends_more)
