use Rattle.std.proofs.Common.{◌≡◌, codes, rules, refl}
use Rattle.std.proofs.lemmas.Slice.Eq.{text_from_reads}
use Rattle.thp_journal_reader.specs.Prelude.{common_word}
use Rattle.thp_journal_reader.proofs.event_line.common_word.Goals as goal

pub returns-in-mapsub : goal.returns-in-mapsub
unfolding common_word
returns-in-mapsub c =
    let is : c.args.name.now ≡ codes "mapsub" = text_from_reads c.args.name.now (codes "mapsub") (search rules) (search rules) in
    rw is refl

pub returns-in-pinned : goal.returns-in-pinned
unfolding common_word
returns-in-pinned c =
    let is : c.args.name.now ≡ codes "pinned" = text_from_reads c.args.name.now (codes "pinned") (search rules) (search rules) in
    rw is refl

pub returns-in-dropped : goal.returns-in-dropped
unfolding common_word
returns-in-dropped c =
    let is : c.args.name.now ≡ codes "dropped" = text_from_reads c.args.name.now (codes "dropped") (search rules) (search rules) in
    rw is refl

pub returns-in-mapwhole : goal.returns-in-mapwhole
unfolding common_word
returns-in-mapwhole c =
    let is : c.args.name.now ≡ codes "mapwhole" = text_from_reads c.args.name.now (codes "mapwhole") (search rules) (search rules) in
    rw is refl

pub returns-in-unmapsub : goal.returns-in-unmapsub
unfolding common_word
returns-in-unmapsub c =
    let is : c.args.name.now ≡ codes "unmapsub" = text_from_reads c.args.name.now (codes "unmapsub") (search rules) (search rules) in
    rw is refl

pub returns-in-splitpmd : goal.returns-in-splitpmd
unfolding common_word
returns-in-splitpmd c =
    let is : c.args.name.now ≡ codes "splitpmd" = text_from_reads c.args.name.now (codes "splitpmd") (search rules) (search rules) in
    rw is refl

pub returns-in-unmapwhole : goal.returns-in-unmapwhole
unfolding common_word
returns-in-unmapwhole c =
    let is : c.args.name.now ≡ codes "unmapwhole" = text_from_reads c.args.name.now (codes "unmapwhole") (search rules) (search rules) in
    rw is refl
