-- No move answers that its result is not planar: that is looked at after it.
use Rattle.std.proofs.Common.{◌≡◌, ℕ, ltb, Bool, true, false, cond, not, ◌||◌, ◌==◌, List, [], ◌∷◌, ◌++◌, length, Option, Some, None, pos, Ok, Err, sym, subst, ⊎_elim}
use Rattle.std.specs.List.{find}
use Rattle.std.proofs.lemmas.Bool.{cases_Bool}
use Rattle.pd_reader.specs.declared.item.Item.{Item}
use Rattle.pd_reader.specs.declared.item.Item.TheVariants as item
use Rattle.planar_check.specs.Places.{place_labels}
use Rattle.diagram_moves.specs.declared.factor.Factor.{Factor}
use Rattle.diagram_moves.specs.declared.fault.MoveFault.{MoveFault}
use Rattle.diagram_moves.specs.declared.fault.MoveFault.TheVariants.{NoEdge, NoCrossing, SameEdge, LoopEdge, NotSameFace, NotBigon, NotTriangle, NotCurl, TooMany, NotPlanar}
use Rattle.diagram_moves.specs.Moves.{move, given, unless, finished, is_edge, is_loop, same_face, second_place, first_place_of, is_bigon, slot_pairs, is_triangle, slot_triples, is_curl, four}
use Rattle.diagram_moves.specs.Rewriting.{crossing_at, fresh}
use Rattle.script_reader.specs.declared.step.Step.{Step}
use Rattle.script_reader.specs.declared.step.Step.TheVariants.{R2, R2Undo, R3, Curl, CurlUndo, BlowUp, Slide}
use Rattle.diagram_moves.specs.Steps.{Answer, Moved}

-- no answer of that kind
pub record IsPlain (answer : Answer) : Type 0 where
  pub never : (faces wanted : ℕ) → ◌≡◌ {A = Answer} answer (Err (NotPlanar faces wanted)) → ⊥

plain_ok : (moved : Moved) → IsPlain (Ok moved)
plain_ok moved = record { never = λ faces wanted h. absurd cc }

plain_given : {X : Type 0} (o : Option X) (refusal : MoveFault) (next : X → Answer) → IsPlain (Err refusal) → ((x : X) → IsPlain (next x)) → IsPlain (given o refusal next)
plain_given None refusal next err go = err
plain_given (Some x) refusal next err go = go x

plain_unless : (test : Bool) (refusal : MoveFault) (next : Answer) → IsPlain (Err refusal) → IsPlain next → IsPlain (unless test refusal next)
plain_unless true refusal next err go = err
plain_unless false refusal next err go = go

too_many : (limit : ℕ) → IsPlain (Err (TooMany limit))
too_many limit = record { never = λ faces wanted h. absurd cc }

plain_finished : (factor : Factor) (items : List Item) → IsPlain (finished factor items)
plain_finished factor items =
    let done : Answer = Ok record { items = items; factor = factor } in
    let P : Bool → Type 0 = λ b. IsPlain (cond {A = Answer} b (Err (TooMany 256)) done) in
    ⊎_elim (λ t. subst P (sym t) (too_many 256)) (λ f. subst P (sym f) (plain_ok record { items = items; factor = factor })) (cases_Bool (ltb 256 (length items)))

no_edge : (e : ℕ) → IsPlain (Err (NoEdge e))
no_edge e = record { never = λ faces wanted h. absurd cc }

no_crossing : (c : ℕ) → IsPlain (Err (NoCrossing c))
no_crossing c = record { never = λ faces wanted h. absurd cc }

loop_edge : (e : ℕ) → IsPlain (Err (LoopEdge e))
loop_edge e = record { never = λ faces wanted h. absurd cc }

same_edge : IsPlain (Err SameEdge)
same_edge = record { never = λ faces wanted h. absurd cc }

not_same_face : IsPlain (Err NotSameFace)
not_same_face = record { never = λ faces wanted h. absurd cc }

not_bigon : IsPlain (Err NotBigon)
not_bigon = record { never = λ faces wanted h. absurd cc }

not_triangle : IsPlain (Err NotTriangle)
not_triangle = record { never = λ faces wanted h. absurd cc }

not_curl : IsPlain (Err NotCurl)
not_curl = record { never = λ faces wanted h. absurd cc }

pub plain_move : (items : List Item) (step : Step) → IsPlain (move items step)
plain_move items (R2 e f) =
    let e_first = first_place_of (place_labels items) e in
    let f_first = first_place_of (place_labels items) f in
    let meets : ℕ → Bool = λ p. same_face items p f_first || same_face items p (second_place items f) in
    plain_unless (not (is_edge items e)) (NoEdge e) _ (no_edge e)
    (plain_unless (not (is_edge items f)) (NoEdge f) _ (no_edge f)
    (plain_unless (e == f) SameEdge _ same_edge
    (plain_unless (is_loop items e) (LoopEdge e) _ (loop_edge e)
    (plain_unless (is_loop items f) (LoopEdge f) _ (loop_edge f)
    (plain_unless (not (meets e_first || meets (second_place items e))) NotSameFace _ not_same_face
    (plain_finished _ _))))))
plain_move items (R2Undo c d) =
    plain_given (crossing_at items c) (NoCrossing c) _ (no_crossing c) (λ here.
    plain_given (crossing_at items d) (NoCrossing d) _ (no_crossing d) (λ there.
    plain_unless (c == d) NotBigon _ not_bigon
    (plain_given (find (is_bigon here there) slot_pairs) NotBigon _ not_bigon (λ at.
    plain_finished _ _))))
plain_move items (R3 c d f) =
    plain_given (crossing_at items c) (NoCrossing c) _ (no_crossing c) (λ first.
    plain_given (crossing_at items d) (NoCrossing d) _ (no_crossing d) (λ second.
    plain_given (crossing_at items f) (NoCrossing f) _ (no_crossing f) (λ third.
    plain_unless (c == d || (d == f || c == f)) NotTriangle _ not_triangle
    (plain_given (find (λ at. is_triangle first second third at || is_triangle first third second at) slot_triples) NotTriangle _ not_triangle (λ at.
    plain_finished _ _)))))
plain_move items (Curl e sign) = plain_unless (not (is_edge items e)) (NoEdge e) _ (no_edge e) (plain_finished _ _)
plain_move items (CurlUndo c) =
    plain_given (crossing_at items c) (NoCrossing c) _ (no_crossing c) (λ here.
    plain_given (find (is_curl here) four) NotCurl _ not_curl (λ s.
    plain_finished _ _))
plain_move items (BlowUp sign) = plain_finished record { curl = pos 0; circle = 1 } (items ++ item.Loop (fresh items) ∷ [])
plain_move items (Slide e f) = no_edge e
