-- Two laws of cabled crossings, each by the name of its function in src/laws.rt.
use Rattle.cable_crossings.specs.Laws.{ThroughArcsLaw, CabledBigonLaw}
use Rattle.cable_crossings.proofs.CabledStrands.{cabled_strands}
use Rattle.cable_crossings.proofs.ThroughArcs.{through_arcs}

-- STRANDS THAT GO STRAIGHT THROUGH
pub strands_through : ThroughArcsLaw
strands_through = through_arcs

-- A BIGON
pub bigon_of_cables : CabledBigonLaw
bigon_of_cables = cabled_strands
