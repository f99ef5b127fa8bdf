-- What a reader's stop says: at p the bytes stop going on as the shape says. Of want of memory it says
-- nothing.
--
--     MissesAt fits tokens bytes at stop     the same of a part that begins at a place
--     StopsAt fits tokens bytes stop         the same of all the bytes
use Rattle.std.specs.Prelude.{ℕ, List}
use Rattle.pd_reader.specs.declared.fault.Stop.{Stop}
use Rattle.pd_reader.specs.declared.fault.Stop.TheVariants as stops
use Rattle.text_shapes.specs.Readers.{Missed, Refuses}

module _ {V : Type 0} (fits : V → Type 0) (tokens : V → List (List ℕ)) (bytes : List ℕ) where
  abbrev pub MissesAt : ℕ → Stop → Type 0
  MissesAt at (stops.At p) = Missed fits tokens bytes at p
  MissesAt at stops.Memory = Unit {0}

  abbrev pub StopsAt : Stop → Type 0
  StopsAt (stops.At p) = Refuses fits tokens bytes p
  StopsAt stops.Memory = Unit {0}
