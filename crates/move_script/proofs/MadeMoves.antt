-- Each move, where none of its refusals comes: what the code makes is what the definition says.
use Rattle.std.proofs.Common.{◌≡◌, ℕ, ◌+◌, ◌%◌, Bool, true, false, cond, not, ◌||◌, ◌==◌, List, [], ◌∷◌, ◌++◌, map, unwrap_or, Option, Some, None, sym, ap, ◌∙◌}
use Rattle.std.specs.List.{filter, find}
use Rattle.std.specs.Set.{is_member}
use Rattle.graph_parts.specs.LeastNames.{least_label}
use Rattle.pd_reader.specs.declared.item.Item.{Item}
use Rattle.pd_reader.specs.declared.item.Item.TheVariants as item
use Rattle.planar_check.specs.declared.sign.Sign.{Sign}
use Rattle.planar_check.specs.declared.sign.Sign.TheVariants as signs
use Rattle.planar_check.specs.Places.{first_place, other_place, place_labels}
use Rattle.diagram_moves.specs.declared.fault.MoveFault.{MoveFault}
use Rattle.diagram_moves.specs.declared.fault.MoveFault.TheVariants.{NoEdge, NoCrossing, SameEdge, LoopEdge, NotSameFace, NotBigon, NotTriangle, NotCurl}
use Rattle.diagram_moves.specs.Moves.{add_curl, bigon_classes, closing, curl_classes, curl_of, curl_slots, curled_loop, cut_label, finished, first_place_of, four, given, is_bigon, is_curl, is_edge, is_loop, is_triangle, plain, pull, push, pushed, removed, same_face, second_place, slide_over, slot_pairs, slot_triples, triangle_rewritten, two_labels, undo_curl, unless}
use Rattle.diagram_moves.specs.Rewriting.{at_places, crossing_at, crossing_labels, fresh, slot}
use Rattle.diagram_moves.specs.Steps.{Answer}
use Rattle.move_script.specs.Tables.{cut_by, joined}
use Rattle.move_script.proofs.EdgeLemmas.{a_loop, no_loop}
use Rattle.move_script.proofs.Loops.{either_triangle}

pub given_at : {X : Type 0} (o : Option X) (refusal : MoveFault) (next : X → Answer) (x : X) → o ≡ Some x → given o refusal next ≡ next x
given_at {X = X'} o refusal next x h = ap (λ (w : Option X'). given w refusal next) h

pub unless_past : (test : Bool) (refusal : MoveFault) (next : Answer) → test ≡ false → unless test refusal next ≡ next
unless_past test refusal next h = ap (λ b. unless b refusal next) h

-- ---- classes
abbrev pub closed_by : List Item → ℕ → ℕ → List Item
closed_by items x y = items ++ map item.Loop (filter (λ least. not (is_member ◌==◌ (crossing_labels items) least)) (two_labels x y))

pub closed_is : (items left : List Item) (gone : List ℕ) (joins pairs : List (ℕ × ℕ)) (x y a b : ℕ) → ((label : ℕ) → joined joins label ≡ least_label pairs label) →
    left ≡ removed gone (joined joins) items → a ≡ joined joins x → b ≡ joined joins y →
    closed_by left a b ≡ closing (least_label pairs) x y (removed gone (least_label pairs) items)
closed_is items left gone joins pairs x y a b same left_is a_is b_is =
    let labels : joined joins ≡ least_label pairs = λ i label. same label i in
    ap (λ ls. closed_by ls a b) left_is
    ∙ ap (λ n. closed_by (removed gone (joined joins) items) n b) a_is
    ∙ ap (λ n. closed_by (removed gone (joined joins) items) (joined joins x) n) b_is
    ∙ ap (λ (f : ℕ → ℕ). closing f x y (removed gone f items)) labels

-- ---- the moves
pub pull_is : (items all : List Item) (c d : ℕ) (here there : List ℕ) (at : ℕ × ℕ) → crossing_at items c ≡ Some here → crossing_at items d ≡ Some there → (c == d) ≡ false → find (is_bigon here there) slot_pairs ≡ Some at →
    (let label = least_label (bigon_classes here there at) in all ≡ closing label (slot here at.0) (slot there (at.1 + 1)) (removed (d ∷ c ∷ []) label items)) →
    finished plain all ≡ pull items c d
pull_is items all c d here there at at_c at_d apart found is =
    sym
    (given_at (crossing_at items c) (NoCrossing c) _ here at_c
    ∙ given_at (crossing_at items d) (NoCrossing d) _ there at_d
    ∙ unless_past (c == d) NotBigon _ apart
    ∙ given_at (find (is_bigon here there) slot_pairs) NotBigon _ at found
    ∙ sym (ap (finished plain) is))

pub undone_is : (items all : List Item) (c s : ℕ) (here : List ℕ) → crossing_at items c ≡ Some here → find (is_curl here) four ≡ Some s →
    (let label = least_label (curl_classes here s) in all ≡ closing label (slot here s) (slot here s) (removed (c ∷ []) label items)) →
    finished (curl_of (cond (s % 2 == 0) signs.Minus signs.Plus)) all ≡ undo_curl items c
undone_is items all c s here at_c found is =
    sym
    (given_at (crossing_at items c) (NoCrossing c) _ here at_c
    ∙ given_at (find (is_curl here) four) NotCurl _ s found
    ∙ sym (ap (finished (curl_of (cond (s % 2 == 0) signs.Minus signs.Plus))) is))

pub slid_is : (items all : List Item) (c d f : ℕ) (here there beyond : List ℕ) (at : ℕ × (ℕ × ℕ)) → crossing_at items c ≡ Some here → crossing_at items d ≡ Some there → crossing_at items f ≡ Some beyond →
    (c == d || (d == f || c == f)) ≡ false → find (either_triangle here there beyond) slot_triples ≡ Some at →
    all ≡ cond (is_triangle here there beyond at) (triangle_rewritten items c d f here there beyond (at.0 + 3) at.1.0 at.1.1) (triangle_rewritten items c f d here beyond there (at.0 + 3) at.1.0 at.1.1) →
    finished plain all ≡ slide_over items c d f
slid_is items all c d f here there beyond at at_c at_d at_f apart found is =
    sym
    (given_at (crossing_at items c) (NoCrossing c) _ here at_c
    ∙ given_at (crossing_at items d) (NoCrossing d) _ there at_d
    ∙ given_at (crossing_at items f) (NoCrossing f) _ beyond at_f
    ∙ unless_past (c == d || (d == f || c == f)) NotTriangle _ apart
    ∙ given_at (find (either_triangle here there beyond) slot_triples) NotTriangle _ at found
    ∙ sym (ap (finished plain) is))

pub curled_is : (items all : List Item) (e : ℕ) (sign : Sign) → is_edge items e ≡ true →
    (let n = fresh items in all ≡ cond (is_loop items e) (curled_loop e (curl_slots e e n sign) items) (at_places (cut_label (second_place items e) (n + 1)) 0 items ++ item.X (curl_slots e (n + 1) n sign) ∷ [])) →
    finished (curl_of sign) all ≡ add_curl items e sign
curled_is items all e sign has is = sym (unless_past (not (is_edge items e)) (NoEdge e) _ (ap not has) ∙ sym (ap (finished (curl_of sign)) is))

-- a curl at the second place of an edge, and one in the place of a loop
pub edge_curled : (items all : List Item) (e first other n : ℕ) (sign : Sign) → first_place (place_labels items) e ≡ Some first → other ≡ other_place (place_labels items) first → n ≡ fresh items →
    all ≡ at_places (cut_by ((other, n + 1) ∷ [])) 0 items ++ item.X (curl_slots e (n + 1) n sign) ∷ [] →
    (let m = fresh items in all ≡ cond (is_loop items e) (curled_loop e (curl_slots e e m sign) items) (at_places (cut_label (second_place items e) (m + 1)) 0 items ++ item.X (curl_slots e (m + 1) m sign) ∷ []))
edge_curled items all e first other n sign first_is other_is n_is is =
    let m = fresh items in
    let second : other ≡ second_place items e = other_is ∙ sym (ap (λ q. other_place (place_labels items) (unwrap_or q 0)) first_is) in
    is
    ∙ ap (λ k. at_places (cut_by ((other, k + 1) ∷ [])) 0 items ++ item.X (curl_slots e (k + 1) k sign) ∷ []) n_is
    ∙ ap (λ o. at_places (cut_label o (m + 1)) 0 items ++ item.X (curl_slots e (m + 1) m sign) ∷ []) second
    ∙ sym
    (ap (λ b. cond b (curled_loop e (curl_slots e e m sign) items) (at_places (cut_label (second_place items e) (m + 1)) 0 items ++ item.X (curl_slots e (m + 1) m sign) ∷ [])) (no_loop items e first first_is))

pub loop_curled : (items all : List Item) (e n : ℕ) (sign : Sign) → first_place (place_labels items) e ≡ None → n ≡ fresh items → all ≡ curled_loop e (curl_slots e e n sign) items →
    (let m = fresh items in all ≡ cond (is_loop items e) (curled_loop e (curl_slots e e m sign) items) (at_places (cut_label (second_place items e) (m + 1)) 0 items ++ item.X (curl_slots e (m + 1) m sign) ∷ []))
loop_curled items all e n sign none n_is is =
    let m = fresh items in
    is
    ∙ ap (λ k. curled_loop e (curl_slots e e k sign) items) n_is
    ∙ sym
    (ap (λ b. cond b (curled_loop e (curl_slots e e m sign) items) (at_places (cut_label (second_place items e) (m + 1)) 0 items ++ item.X (curl_slots e (m + 1) m sign) ∷ [])) (a_loop items e none))

module _ (items : List Item) (e f : ℕ) (has_e : is_edge items e ≡ true) (has_f : is_edge items f ≡ true) (apart : (e == f) ≡ false) (on_e : is_loop items e ≡ false) (on_f : is_loop items f ≡ false) where
  abbrev pub e_first : ℕ
  e_first = first_place_of (place_labels items) e

  abbrev pub f_first : ℕ
  f_first = first_place_of (place_labels items) f

  abbrev pub meeting : ℕ → Bool
  meeting p = same_face items p f_first || same_face items p (second_place items f)

  abbrev pub from : ℕ
  from = cond (meeting e_first) e_first (second_place items e)

  started : (rest : Answer) → unless (not (meeting e_first || meeting (second_place items e))) NotSameFace (finished plain (pushed items e f (meeting e_first) (same_face items from f_first))) ≡ rest → push items e f ≡ rest
  started rest h =
      unless_past (not (is_edge items e)) (NoEdge e) _ (ap not has_e)
      ∙ unless_past (not (is_edge items f)) (NoEdge f) _ (ap not has_f)
      ∙ unless_past (e == f) SameEdge _ apart
      ∙ unless_past (is_loop items e) (LoopEdge e) _ on_e
      ∙ unless_past (is_loop items f) (LoopEdge f) _ on_f
      ∙ h

  pub push_is : (all : List Item) (first_of_e first_of_f : Bool) → first_of_e ≡ meeting e_first → (meeting e_first || meeting (second_place items e)) ≡ true → first_of_f ≡ same_face items from f_first →
      all ≡ pushed items e f first_of_e first_of_f → finished plain all ≡ push items e f
  push_is all first_of_e first_of_f of_e meets of_f is =
      sym
      (started (finished plain all)
      (unless_past (not (meeting e_first || meeting (second_place items e))) NotSameFace _ (ap not meets)
      ∙ ap (λ b. finished plain (pushed items e f b (same_face items from f_first))) (sym of_e)
      ∙ ap (λ b. finished plain (pushed items e f first_of_e b)) (sym of_f)
      ∙ sym (ap (finished plain) is)))
