-- Changes of labels at the ends on one side.
--
--     renamed change x     the label that a change makes of x: e and g are exchanged, or a is replaced by b
use Rattle.std.specs.Prelude.{ℕ}
use Rattle.graph_parts.specs.Renaming.{replaced}
use Rattle.slide_strands.specs.Doubling.{exchanged}
use Rattle.slide_band.specs.declared.relabelling.Relabelling.{Relabelling}
use Rattle.slide_band.specs.declared.relabelling.Relabelling.TheVariants.{Exchange, Replace}

abbrev pub renamed : Relabelling → ℕ → ℕ
renamed (Exchange e g) x = exchanged e g x
renamed (Replace a b) x = replaced a b x
