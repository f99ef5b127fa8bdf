-- The first place of a label has it.
use Rattle.std.proofs.Common.{◌≡◌, ◌<◌, ℕ, ◌==◌, true, cond, List, length, slice_index, Some, None, unwrap_or, sym, ap, subst}
use Rattle.std.specs.Set.{is_member}
use Rattle.std.proofs.lemmas.Bool.{lt-ltb}
use Rattle.planar_check.specs.Components.{rank}
use Rattle.diagram_moves.specs.Moves.{first_place_of}
use Rattle.diagram_moves.proofs.PlaceLemmas.{index_has}

pub first_place_has : (ls : List ℕ) (e : ℕ) → is_member ◌==◌ ls e ≡ true → (first_place_of ls e < length ls) × (slice_index ls (first_place_of ls e) ≡ e)
first_place_has ls e m =
    let r = index_has ls e m in
    let P : ℕ → Type 0 = λ q. (q < length ls) × (slice_index ls q ≡ e) in
    subst P (sym (ap (λ z. unwrap_or (cond z (Some (rank ls e)) None) 0) (lt-ltb (rank ls e) (length ls) r.0))) r
