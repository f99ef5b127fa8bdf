-- A stop behind what was read is a stop of the whole, want of memory among it.
use Rattle.std.proofs.Common.{ℕ, List}
use Rattle.pd_reader.specs.declared.fault.Stop.{Stop}
use Rattle.pd_reader.specs.declared.fault.Stop.TheVariants as stops
use Rattle.pd_reader.specs.Stops.{MissesAt, StopsAt}
use Rattle.text_shapes.specs.Readers.{LeadsTo}
use Rattle.text_shapes.proofs.Chain.{LeadsTo-missed, missed_refuses}

pub LeadsTo-stop : {A W : Type 0} (fits_a : A → Type 0) (F : A → List (List ℕ)) (fits_w : W → Type 0) (G : W → List (List ℕ)) (e : W → A) (bytes : List ℕ) (a b : ℕ) (stop : Stop)
    → LeadsTo fits_a F fits_w G e bytes a b → MissesAt fits_w G bytes b stop → MissesAt fits_a F bytes a stop
LeadsTo-stop fits_a F fits_w G e bytes a b (stops.At p) l m = LeadsTo-missed fits_a F fits_w G e bytes a b p l m
LeadsTo-stop fits_a F fits_w G e bytes a b stops.Memory l m = tt

-- the same of all the bytes
pub stop_refuses : {A : Type 0} (fits : A → Type 0) (F : A → List (List ℕ)) (bytes : List ℕ) (stop : Stop) → MissesAt fits F bytes 0 stop → StopsAt fits F bytes stop
stop_refuses fits F bytes (stops.At p) m = missed_refuses fits F bytes p m
stop_refuses fits F bytes stops.Memory m = tt
