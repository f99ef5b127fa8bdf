-- Moves of diagrams (Reidemeister's moves, Lickorish, ch. 3; names, labels and results are this project's own). Crossings are
-- numbered from 1, slots 0 to 3; slots 0 and 2 are under, 1 and 3 over; n is the greatest label plus 1.
--
--     move items step            the result with its factor, or the first refusal
--
-- R2[e,f] pushes e over f:                      R2Undo takes them apart, R3 moves a strand over a crossing
--
--     e1 ---.     .--- e3
--            \   /                the middle piece of e is n, that of f is n+2
--     f1 --- e2 / f2 --- f3
--
-- A face of exactly two places, one at c and one at d, is a label at slot s of c and slot t of d, while another stands at the
-- slots s-1 and t+1; for each label stands twice. So it is with three.
use Rattle.std.specs.Prelude.{ℕ, ◌+◌, ◌-◌, ◌%◌, ◌==◌, ◌&&◌, ◌||◌, not, nat_lt, Bool, true, false, if◌then◌else◌, min, max, List, [], ◌∷◌, ◌++◌, length, map, pos, negsuc, Option, Some, None, unwrap_or, Ok, Err}
use Rattle.std.specs.List.{filter, find, flat_map}
use Rattle.std.specs.Set.{is_member}
use Rattle.graph_parts.specs.LeastNames.{least_label}
use Rattle.pd_reader.specs.declared.item.Item.{Item}
use Rattle.pd_reader.specs.declared.item.Item.TheVariants as item
use Rattle.pd_reader.specs.Items.{item_labels}
use Rattle.pd_reader.specs.Diagrams.{labels}
use Rattle.planar_check.specs.declared.sign.Sign.{Sign}
use Rattle.planar_check.specs.declared.sign.Sign.TheVariants as signs
use Rattle.planar_check.specs.Places.{place_labels, crossings_of, first_place, other_place}
use Rattle.planar_check.specs.Planar.{face_of}
use Rattle.diagram_moves.specs.Rewriting.{slot, around, crossing_at, rewritten, at_places, crossing_labels, fresh}
use Rattle.script_reader.specs.declared.step.Step.{Step}
use Rattle.script_reader.specs.declared.step.Step.TheVariants.{R2, R2Undo, R3, Curl, CurlUndo, BlowUp, Slide}
use Rattle.diagram_moves.specs.declared.factor.Factor.{Factor}
use Rattle.diagram_moves.specs.declared.fault.MoveFault.{MoveFault}
use Rattle.diagram_moves.specs.declared.fault.MoveFault.TheVariants.{NoEdge, NoCrossing, SameEdge, LoopEdge, NotSameFace, NotBigon, NotTriangle, NotCurl, TooMany}
use Rattle.diagram_moves.specs.Steps.{Answer}

-- ---- what moves share
-- more than 256 items are refused last
abbrev pub finished : Factor → List Item → Answer
finished factor items = if nat_lt 256 (length items) then Err (TooMany 256) else Ok record { items = items; factor = factor }

abbrev pub plain : Factor
plain = record { curl = pos 0; circle = 0 }

-- with what there is, or a refusal
abbrev pub given : {X : Type 0} → Option X → MoveFault → (X → Answer) → Answer
given None refusal next = Err refusal
given (Some x) refusal next = next x

-- where a test holds, or a refusal
abbrev pub unless : Bool → MoveFault → Answer → Answer
unless true refusal next = Err refusal
unless false refusal next = next

abbrev pub four : List ℕ
four = 0 ∷ 1 ∷ 2 ∷ 3 ∷ []

abbrev pub is_edge : List Item → ℕ → Bool
is_edge items e = is_member ◌==◌ (labels item_labels items) e

abbrev pub is_loop : List Item → ℕ → Bool
is_loop items e = not (is_member ◌==◌ (crossing_labels items) e)

-- ---- classes of labels that become one: each label becomes the least of its class, and a class that no crossing has is a Loop
abbrev pub two_labels : ℕ → ℕ → List ℕ
two_labels a b = if a == b then a ∷ [] else (min a b ∷ max a b ∷ [])

abbrev pub closing : (ℕ → ℕ) → ℕ → ℕ → List Item → List Item
closing label x y items = items ++ map item.Loop (filter (λ least. not (is_member ◌==◌ (crossing_labels items) least)) (two_labels (label x) (label y)))

-- ---- R2
-- the first place of a label that stands at one
abbrev pub first_place_of : List ℕ → ℕ → ℕ
first_place_of labels e = unwrap_or (first_place labels e) 0

abbrev pub second_place : List Item → ℕ → ℕ
second_place items e = other_place (place_labels items) (first_place_of (place_labels items) e)

-- e, cut at its second place, and f at its own
abbrev pub cut_labels : ℕ → ℕ → ℕ → ℕ → ℕ → ℕ → ℕ
cut_labels second_e new_e second_f new_f p label = if p == second_e then new_e else (if p == second_f then new_f else label)

-- the pieces of e and f are taken from their first places on, or from their second ones
abbrev pub pushed : List Item → ℕ → ℕ → Bool → Bool → List Item
pushed items e f first_of_e first_of_f =
    let n = fresh items in
    let e1 = if first_of_e then e else n + 1 in
    let e3 = if first_of_e then n + 1 else e in
    let f1 = if first_of_f then f else n + 3 in
    let f3 = if first_of_f then n + 3 else f in
    at_places (cut_labels (second_place items e) (n + 1) (second_place items f) (n + 3)) 0 items
    ++ item.X ((n + 2) ∷ e1 ∷ f3 ∷ n ∷ []) ∷ item.X (f1 ∷ e3 ∷ (n + 2) ∷ n ∷ []) ∷ []

abbrev pub same_face : List Item → ℕ → ℕ → Bool
same_face items p q = face_of (crossings_of items) p == face_of (crossings_of items) q

abbrev pub push : List Item → ℕ → ℕ → Answer
push items e f =
    let e_first = first_place_of (place_labels items) e in
    let f_first = first_place_of (place_labels items) f in
    let meets = λ (p : ℕ). same_face items p f_first || same_face items p (second_place items f) in
    unless (not (is_edge items e)) (NoEdge e)
    (unless (not (is_edge items f)) (NoEdge f)
    (unless (e == f) SameEdge
    (unless (is_loop items e) (LoopEdge e)
    (unless (is_loop items f) (LoopEdge f)
    (unless (not (meets e_first || meets (second_place items e))) NotSameFace
    (let first_of_e = meets e_first in
    let p = if first_of_e then e_first else second_place items e in
    finished plain (pushed items e f first_of_e (same_face items p f_first))))))))

-- ---- R2Undo
abbrev pub slot_pairs : List (ℕ × ℕ)
slot_pairs = flat_map (λ s. map (λ t. (s, t)) four) four

-- an edge from slot s of c to slot t of d, and one from slot t+1 of d to slot s-1 of c; the one is over at both, the other under
abbrev pub is_bigon : List ℕ → List ℕ → ℕ × ℕ → Bool
is_bigon c d at = slot c at.0 == slot d at.1 && (slot c (at.0 + 3) == slot d (at.1 + 1) && at.0 % 2 == at.1 % 2)

-- the labels that become one
abbrev pub bigon_classes : List ℕ → List ℕ → ℕ × ℕ → List (ℕ × ℕ)
bigon_classes c d at =
    let x = slot c at.0 in
    let y = slot d (at.1 + 1) in
    (x, slot c (at.0 + 2)) ∷ (x, slot d (at.1 + 2)) ∷ (y, slot c (at.0 + 1)) ∷ (y, slot d (at.1 + 3)) ∷ []

-- the crossings in the list go, and each other label becomes another one
abbrev pub removed : List ℕ → (ℕ → ℕ) → List Item → List Item
removed gone label items = rewritten (λ k slots. if is_member ◌==◌ gone k then [] else item.X (map label slots) ∷ []) 1 items

abbrev pub pull : List Item → ℕ → ℕ → Answer
pull items c d =
    given (crossing_at items c) (NoCrossing c) (λ here.
    given (crossing_at items d) (NoCrossing d) (λ there.
    unless (c == d) NotBigon
    (given (find (is_bigon here there) slot_pairs) NotBigon (λ at.
    let label = least_label (bigon_classes here there at) in
    finished plain (closing label (slot here at.0) (slot there (at.1 + 1)) (removed (d ∷ c ∷ []) label items))))))

-- ---- R3
abbrev pub slot_triples : List (ℕ × (ℕ × ℕ))
slot_triples = flat_map (λ s. map (λ t. (s, t)) slot_pairs) four

-- edges from slot s of c to slot t of d, from t+1 of d to u of f, from u+1 of f to s-1 of c; one is over at both of its places
abbrev pub is_triangle : List ℕ → List ℕ → List ℕ → ℕ × (ℕ × ℕ) → Bool
is_triangle c d f at =
    let s = at.0 in let t = at.1.0 in let u = at.1.1 in
    slot c s == slot d t && (slot d (t + 1) == slot f u && (slot f (u + 1) == slot c (s + 3)
    && not ((s + 1) % 2 == t % 2 && t % 2 == u % 2)))

-- the slots of a crossing whose corner begins at slot k: before it stands, round the triangle, a crossing whose strand through
-- the shared edge ends in `before`, and after it one whose strand ends in `after`
abbrev pub moved_slots : ℕ → List ℕ → ℕ → ℕ → List ℕ
moved_slots k slots before after = around (4 - k % 4) (before ∷ after ∷ slot slots k ∷ slot slots (k + 1) ∷ [])

-- c, d and f follow one another round the triangle; their corners begin at s, t and u
abbrev pub triangle_slots : ℕ → ℕ → ℕ → List ℕ → List ℕ → List ℕ → ℕ → ℕ → ℕ → ℕ → List ℕ → List ℕ
triangle_slots c d f first second third s t u k slots =
    if k == c then moved_slots s first (slot third (u + 3)) (slot second (t + 2))
    else (if k == d then moved_slots t second (slot first (s + 3)) (slot third (u + 2))
    else (if k == f then moved_slots u third (slot second (t + 3)) (slot first (s + 2)) else slots))

abbrev pub triangle_rewritten : List Item → ℕ → ℕ → ℕ → List ℕ → List ℕ → List ℕ → ℕ → ℕ → ℕ → List Item
triangle_rewritten items c d f first second third s t u =
    rewritten (λ k slots. item.X (triangle_slots c d f first second third s t u k slots) ∷ []) 1 items

abbrev pub slide_over : List Item → ℕ → ℕ → ℕ → Answer
slide_over items c d f =
    given (crossing_at items c) (NoCrossing c) (λ first.
    given (crossing_at items d) (NoCrossing d) (λ second.
    given (crossing_at items f) (NoCrossing f) (λ third.
    unless (c == d || (d == f || c == f)) NotTriangle
    (given (find (λ at. is_triangle first second third at || is_triangle first third second at) slot_triples) NotTriangle (λ at.
    let s = at.0 in let t = at.1.0 in let u = at.1.1 in
    finished plain
    (if is_triangle first second third at then triangle_rewritten items c d f first second third (s + 3) t u
    else triangle_rewritten items c f d first third second (s + 3) t u))))))

-- ---- Curl and CurlUndo
abbrev pub curl_slots : ℕ → ℕ → ℕ → Sign → List ℕ
curl_slots e_first e_second n signs.Plus = e_first ∷ e_second ∷ n ∷ n ∷ []
curl_slots e_first e_second n signs.Minus = e_first ∷ n ∷ n ∷ e_second ∷ []

abbrev pub curl_of : Sign → Factor
curl_of signs.Plus = record { curl = pos 1; circle = 0 }
curl_of signs.Minus = record { curl = negsuc 0; circle = 0 }

-- in the place of the Loop e
abbrev pub curled_loop : ℕ → List ℕ → List Item → List Item
curled_loop e slots [] = []
curled_loop e slots (item.X others ∷ rest) = item.X others ∷ curled_loop e slots rest
curled_loop e slots (item.Loop label ∷ rest) = if label == e then item.X slots ∷ rest else item.Loop label ∷ curled_loop e slots rest

-- e, cut at its second place
abbrev pub cut_label : ℕ → ℕ → ℕ → ℕ → ℕ
cut_label second_e new_e p label = if p == second_e then new_e else label

abbrev pub add_curl : List Item → ℕ → Sign → Answer
add_curl items e sign =
    let n = fresh items in
    unless (not (is_edge items e)) (NoEdge e)
    (finished (curl_of sign)
    (if is_loop items e then curled_loop e (curl_slots e e n sign) items
    else at_places (cut_label (second_place items e) (n + 1)) 0 items ++ item.X (curl_slots e (n + 1) n sign) ∷ []))

abbrev pub is_curl : List ℕ → ℕ → Bool
is_curl c s = slot c s == slot c (s + 1)

abbrev pub curl_classes : List ℕ → ℕ → List (ℕ × ℕ)
curl_classes c s = (slot c s, slot c (s + 2)) ∷ (slot c s, slot c (s + 3)) ∷ []

abbrev pub undo_curl : List Item → ℕ → Answer
undo_curl items c =
    given (crossing_at items c) (NoCrossing c) (λ here.
    given (find (is_curl here) four) NotCurl (λ s.
    let label = least_label (curl_classes here s) in
    finished (curl_of (if s % 2 == 0 then signs.Minus else signs.Plus)) (closing label (slot here s) (slot here s) (removed (c ∷ []) label items))))

-- ---- the moves
-- A slide is no move: it asks for framings, and slide_laws says what it gives. Here it has no result.
abbrev pub move : List Item → Step → Answer
move items (R2 e f) = push items e f
move items (R2Undo c d) = pull items c d
move items (R3 c d f) = slide_over items c d f
move items (Curl e sign) = add_curl items e sign
move items (CurlUndo c) = undo_curl items c
move items (BlowUp sign) = finished record { curl = pos 0; circle = 1 } (items ++ item.Loop (fresh items) ∷ [])
move items (Slide e f) = Err (NoEdge e)
