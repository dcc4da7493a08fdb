-- The first word of a line.
use Rattle.std.specs.Prelude.{ℕ, List, codes}
use Rattle.job_lines.specs.declared.verb.Verb.{Verb}
use Rattle.job_lines.specs.declared.verb.Verb.TheVariants.{Field, Escape, Pad, Land, Keep, Place, Lift, Bar, Clear, Show}

abbrev pub keyword : Verb → List ℕ
keyword Field = codes "field"
keyword Escape = codes "escape"
keyword Pad = codes "pad"
keyword Land = codes "land"
keyword Keep = codes "keep"
keyword Place = codes "place"
keyword Lift = codes "lift"
keyword Bar = codes "bar"
keyword Clear = codes "clear"
keyword Show = codes "show"

abbrev pub AnyVerb : Verb → Type 0
AnyVerb v = Unit {0}
