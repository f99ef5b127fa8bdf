-- The directions at both ends of the band, from lists of the ends at the places, their labels and their faces.
use Rattle.std.specs.Prelude.{ℕ, Bool, false, List, slice_index, slice_index_or, Option, option_map}
use Rattle.slide_laws.specs.Slides.{band_ends}

abbrev pub sides_from : List (ℕ × Bool) → List ℕ → List ℕ → ℕ → ℕ → Option (Bool × Bool)
sides_from ends labels faces e f =
    option_map (λ places. ((slice_index_or ends places.0 (0, false)).1, (slice_index_or ends places.1 (0, false)).1)) (band_ends labels (slice_index faces) e f)
