-- The appearance of a picture: classes of letters and lines, and their colours on a light and on a dark background.
use Rattle.std.specs.Prelude.{ℕ, List, ◌++◌, codes}

-- the size at which the picture is shown, its font, and the sizes of letters, lines and bars; then colours: letters, lines and
-- frames, and the stages of pages, first on a light background and then on a dark one
abbrev pub style : List ℕ
style =
    codes "<style>\n"
    ++ codes "svg{display:block;width:100%;max-width:1080px;height:auto;margin:0 auto;color-scheme:light dark}\n"
    ++ codes "text{font:120px system-ui,sans-serif;font-variant-numeric:tabular-nums}\n"
    ++ codes ".h{font-size:150px;font-weight:600}.hh{font-size:190px;font-weight:600}.e{text-anchor:end}.c{text-anchor:middle}\n"
    ++ codes "path{shape-rendering:crispEdges}.pale{fill-opacity:.35}.rule,.zero{fill:none;shape-rendering:auto;stroke-width:6}\n"
    ++ codes ".s0,.s1,.s2,.s3,.s4{fill:currentColor}.bar,.lane{fill:none;stroke:currentColor;stroke-width:90}.thin{stroke-width:60}\n"
    ++ codes "svg{background:#ffffff}.bg{fill:#ffffff}.ink{fill:#1c2128}.soft{fill:#5d6673}.bad{fill:#c8102e}\n"
    ++ codes ".rule{stroke:#e4e7ec}.zero{stroke:#1c2128}.held{fill:#64748b}.given{fill:#a4582a}.pin,.wait{fill:#868d97}\n"
    ++ codes ".s0{color:#8292a3}.s1{color:#a86b00}.s2{color:#2c46a4}.s3{color:#a03a8b}.s4{color:#10422a}\n"
    ++ codes "@media(prefers-color-scheme:dark){\n"
    ++ codes "svg{background:#14171c}.bg{fill:#14171c}.ink{fill:#e8ebf0}.soft{fill:#a3acb9}.bad{fill:#ff6b78}\n"
    ++ codes ".rule{stroke:#2a3038}.zero{stroke:#e8ebf0}.held{fill:#8b9ab0}.given{fill:#d28a55}.pin,.wait{fill:#7f8793}\n"
    ++ codes ".s0{color:#5d6878}.s1{color:#ffcc80}.s2{color:#397aff}.s3{color:#e07ab2}.s4{color:#6cca98}\n"
    ++ codes "}</style>\n"
