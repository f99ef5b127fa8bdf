-- The brackets along a script.
use Rattle.std.proofs.Common.{◌≡◌, ℕ, ◌+◌, List, [], ◌∷◌, Option, Some, None, Ok, Err, refl, sym, ap, subst}
use Rattle.planar_check.specs.declared.fault.PlanarFault.{PlanarFault}
use Rattle.planar_check.specs.Places.{item_slots}
use Rattle.planar_check.specs.Planar.{planar_refusal}
use Rattle.diagram_moves.specs.Moves.{move}
use Rattle.diagram_moves.specs.declared.fault.MoveFault.{MoveFault}
use Rattle.diagram_moves.specs.Scripts.{kept_planar, judged, applied, Played, going_on, behind, played}
use Rattle.move_results.specs.Laws.{AreLines, ScriptLinesLaw}
use Rattle.diagram_moves.specs.Steps.{Answer, Moved, of_plane}
use Rattle.move_results.proofs.PairedResults.{paired_again}
use Rattle.diagram_moves.proofs.PlainMoves.{plain_moves}

refused_not : (refusal : MoveFault) (moved : Moved) → ◌≡◌ {A = Answer} (Err refusal) (Ok moved) → ⊥
refused_not refusal moved h = cc

stopped_not : (at : ℕ × MoveFault) (results : List Moved) → ◌≡◌ {A = Played} (Err at) (Ok results) → ⊥
stopped_not at results h = cc

-- what is kept is what was made
kept_is : (made moved : Moved) (fault : Option PlanarFault) → kept_planar made fault ≡ Ok moved → made ≡ moved
kept_is made moved None h = let e : ◌≡◌ {A = Answer} (Ok made) (Ok moved) = h in cc
kept_is made moved (Some fault) h = absurd (refused_not (of_plane fault) moved h)

judged_is : (answer : Answer) (moved : Moved) → judged answer ≡ Ok moved → answer ≡ Ok moved
judged_is (Err refusal) moved h = absurd (refused_not refusal moved h)
judged_is (Ok made) moved h = ap Ok (kept_is made moved (planar_refusal item_slots made.items) h)

-- an accepted step, and the steps behind it
gone_on : (k : ℕ) (answer : Answer) (next : Moved → Played) (results : List Moved) → going_on k answer next ≡ Ok results → (moved : Moved) × (answer ≡ Ok moved) × (next moved ≡ Ok results)
gone_on k (Err refusal) next results h = absurd (stopped_not (k, refusal) results h)
gone_on k (Ok moved) next results h = (moved, refl, h)

is_behind : (moved : Moved) (rest : Played) (results : List Moved) → behind moved rest ≡ Ok results → (others : List Moved) × (rest ≡ Ok others) × (results ≡ moved ∷ others)
is_behind moved (Err at) results h = absurd (stopped_not at results h)
is_behind moved (Ok others) results h = (others, refl, (let e : ◌≡◌ {A = Played} (Ok (moved ∷ others)) (Ok results) = h in cc))

-- EACH LINE IS ITS FACTOR TIMES THE ONE BEFORE
pub script_lines : ScriptLinesLaw
script_lines p k items [] results pd h =
    let e : ◌≡◌ {A = Played} (Ok []) (Ok results) = h in
    let none : [] ≡ results = cc in
    subst (AreLines p items) none tt
script_lines p k items (step ∷ steps) results pd h =
    let a = gone_on k (applied items step) (λ moved. behind moved (played (k + 1) moved.items steps)) results h in
    let moved = a.0 in
    let b = is_behind moved (played (k + 1) moved.items steps) results a.2 in
    let made = judged_is (move items step) moved a.1 in
    let line = plain_moves p items step moved pd made in
    let rest = script_lines p (k + 1) moved.items steps b.0 (paired_again items step moved pd made) b.1 in
    subst (AreLines p items) (sym b.2) (line, rest)
