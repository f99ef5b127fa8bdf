-- The late refusals, and what the result of a slide is made of.
use Rattle.std.proofs.Common.{◌≡◌, ◌⊎◌, ℕ, ◌-◌, ◌<◌, ◌≤◌, ◌^◌, Bool, true, false, List, length, map, set, Option, Some, None, Result, Ok, Err, ℤ, pos, unsigned_abs, inl, inr, refl, sym, ap, subst, ◌∙◌, arith, ⊎_elim}
use Rattle.std.specs.Prelude.{option_map}
use Rattle.std.specs.Result.{IfOk, IfErr, OnOk}
use Rattle.std.proofs.lemmas.Bool.{lt-ltb, le-ltb}
use Rattle.std.proofs.lemmas.List.{get_or-set_same, length-set}
use Rattle.pd_reader.specs.declared.item.Item.{Item}
use Rattle.pd_reader.specs.Diagrams.{IsDiagram}
use Rattle.planar_check.specs.declared.sign.Sign.{Sign}
use Rattle.planar_check.specs.declared.fault.PlanarFault.{PlanarFault}
use Rattle.planar_check.specs.Components.{number_of, least_labels}
use Rattle.planar_check.specs.Framings.{FramedDiagram, IsFramed, framing_of, is_large}
use Rattle.planar_check.specs.Places.{item_slots}
use Rattle.planar_check.specs.Planar.{planar_refusal}
use Rattle.planar_check.specs.Signs.{sign_for}
use Rattle.slide_strands.specs.declared.strand.Piece.{Piece}
use Rattle.slide_strands.specs.Strands.{alike}
use Rattle.slide_laws.specs.declared.fault.SlideFault.{SlideFault}
use Rattle.slide_laws.specs.declared.fault.SlideFault.TheVariants.{FramingSize, Memory}
use Rattle.slide_laws.specs.Directed.{items_of}
use Rattle.slide_laws.specs.Refusals.{of_plane}
use Rattle.slide_laws.specs.Slides.{SlidDiagram, top_of, excess, framed_top, framed_pieces, slid_pieces, slid_framing, is_against, early_refusal, slid_by, late_refusal}
use Rattle.slide_laws.proofs.Congruence.{i_some, i_within, j_some}
use Rattle.slide_laws.proofs.Refused.{Passed, passes}
use Rattle.slide_laws.proofs.SlidDiagram.{is_diagram, same_leasts, pieces_few, set_small}
use Rattle.slide_band.proofs.Steps.{by_plane, late_large, late_small, plane_refused}

-- ---- what holds of an answer
pub ok_told : (r : Result SlidDiagram SlideFault) (s : SlidDiagram) (answer : Result SlidDiagram SlideFault) (plane : Option PlanarFault) → IfOk r (λ x. x ≡ s) → OnOk r (plane ≡ None) → answer ≡ by_plane s plane →
    IfOk r (λ x. answer ≡ Ok x)
ok_told (Ok x) s answer plane is none told = told ∙ (ap (by_plane s) none ∙ ap (λ (y : SlidDiagram). Ok y) (sym is))
ok_told (Err fault) s answer plane is none told = tt

pub err_told : (r : Result SlidDiagram SlideFault) (s : SlidDiagram) (answer : Result SlidDiagram SlideFault) (plane : Option PlanarFault) →
    IfErr r (λ fault. (fault ≡ Memory) ⊎ (option_map of_plane plane ≡ Some fault)) → answer ≡ by_plane s plane → IfErr r (λ fault. (fault ≡ Memory) ⊎ (answer ≡ Err fault))
err_told (Ok x) s answer plane why told = tt
err_told (Err fault) s answer plane why told = ⊎_elim (λ m. inl m) (λ h. inr (told ∙ plane_refused s plane fault h)) why

pub ok_more : (r : Result SlidDiagram SlideFault) (answer : Result SlidDiagram SlideFault) (P : SlidDiagram → Type 0) → IfOk r (λ x. answer ≡ Ok x) → ((x : SlidDiagram) → answer ≡ Ok x → P x) → IfOk r P
ok_more (Ok x) answer P is told = told x is
ok_more (Err fault) answer P is told = tt

-- a size past 2^60
pub size_large : (framing : ℤ) → 2 ^ 60 < unsigned_abs framing → is_large framing ≡ true
size_large framing h = lt-ltb (2 ^ 60) (unsigned_abs framing) h

pub size_small : (framing : ℤ) → unsigned_abs framing ≤ 2 ^ 60 → is_large framing ≡ false
size_small framing h = le-ltb (2 ^ 60) (unsigned_abs framing) h

-- ---- framings that fit
pub framed_fits : (framed : FramedDiagram) (items : List Item) (c : ℕ) (framing : ℤ) → IsFramed framed → least_labels items ≡ least_labels framed.items → 1 ≤ c → c ≤ length (least_labels framed.items) → is_large framing ≡ false →
    IsFramed (record { items = items; framings = set framed.framings (c - 1) framing })
framed_fits framed items c framing is_framed same low high small =
    let count = is_framed.count in
    record {
      count = length-set framed.framings (c - 1) framing ∙ (count ∙ sym (ap length same));
      small = set_small framed.framings (c - 1) framing (omega (arith, low, high, count)) is_framed.small small;
    }

module _ (framed : FramedDiagram) (diagram : IsDiagram framed.items) (is_framed : IsFramed framed) (e f : ℕ) (passed : early_refusal framed e f ≡ None) where
  abbrev k : Passed framed e f
  k = passes framed e f passed

  abbrev moved : ℕ
  moved = number_of framed.items e

  abbrev over : ℕ
  over = number_of framed.items f

  pub moved_first : 1 ≤ moved
  moved_first = i_some framed diagram is_framed e f k.e_placed k.f_placed k.apart k.even

  pub over_first : 1 ≤ over
  over_first = j_some framed diagram is_framed e f k.e_placed k.f_placed k.apart k.even

  moved_last : moved ≤ length (least_labels framed.items)
  moved_last = i_within framed diagram is_framed e f k.e_placed k.f_placed k.apart k.even

  pub curls_few : (j : ℕ) → j ≡ over → unsigned_abs (excess framed j) ≤ 64
  curls_few j same =
      let few = k.few in
      let at_j = ap (λ (c : ℕ). unsigned_abs (excess framed c)) same in
      omega (arith, few, at_j)

  -- the result, and what the code makes
  abbrev pub result_of : ℕ → List Piece → Sign → ℤ → SlidDiagram
  result_of i made sign framing = record {
    framed = record { items = items_of made; framings = set framed.framings (i - 1) framing };
    sign = sign;
    against = map (is_against made) (least_labels framed.items);
  }

  module _ (i j top : ℕ) (pieces made : List Piece) (a b : Bool) (sign : Sign) (framing : ℤ) (of_i : i ≡ moved) (of_j : j ≡ over) (of_top : top ≡ framed_top framed f)
      (of_made : made ≡ slid_pieces i j e f top pieces a b) (of_sign : sign ≡ sign_for (alike a b)) (of_framing : framing ≡ slid_framing framed i j sign) where
    made_is : made ≡ slid_pieces moved over e f (framed_top framed f) pieces a b
    made_is =
        of_made
        ∙ (ap (λ (c : ℕ). slid_pieces c j e f top pieces a b) of_i
        ∙ (ap (λ (c : ℕ). slid_pieces moved c e f top pieces a b) of_j
        ∙ ap (λ (t : ℕ). slid_pieces moved over e f t pieces a b) of_top))

    framing_is : framing ≡ slid_framing framed moved over (sign_for (alike a b))
    framing_is =
        of_framing
        ∙ (ap (λ (c : ℕ). slid_framing framed c j sign) of_i
        ∙ (ap (λ (c : ℕ). slid_framing framed moved c sign) of_j
        ∙ ap (λ (s : Sign). slid_framing framed moved over s) of_sign))

    pub result_is : result_of i made sign framing ≡ slid_by framed e f pieces a b
    result_is =
        ap (λ (c : ℕ). result_of c made sign framing) of_i
        ∙ (ap (λ (ps : List Piece). result_of moved ps sign framing) made_is
        ∙ (ap (λ (s : Sign). result_of moved (slid_pieces moved over e f (framed_top framed f) pieces a b) s framing) of_sign
        ∙ ap (λ (z : ℤ). result_of moved (slid_pieces moved over e f (framed_top framed f) pieces a b) (sign_for (alike a b)) z) framing_is))

    -- THE ANSWER, WHERE THE FRAMING IS SMALL
    pub answer_is : is_large framing ≡ false → late_refusal framed i (slid_by framed e f pieces a b) ≡ by_plane (result_of i made sign framing) (planar_refusal item_slots (items_of made))
    answer_is small =
        subst (λ (s : SlidDiagram). late_refusal framed i s ≡ by_plane (result_of i made sign framing) (planar_refusal item_slots (items_of made))) result_is
        (late_small framed i (result_of i made sign framing) (ap is_large at_i ∙ small))
      where
        at_i : framing_of (result_of i made sign framing).framed i ≡ framing
        at_i = get_or-set_same framed.framings (i - 1) framing (pos 0) (let low = moved_first in let high = moved_last in let count = is_framed.count in omega (arith, of_i, low, high, count))

  -- and where it is not
  pub large_told : (i j : ℕ) (pieces : List Piece) (a b : Bool) (sign : Sign) (framing : ℤ) → i ≡ moved → j ≡ over → sign ≡ sign_for (alike a b) → framing ≡ slid_framing framed i j sign → is_large framing ≡ true →
      late_refusal framed i (slid_by framed e f pieces a b) ≡ Err (FramingSize i)
  large_told i j pieces a b sign framing of_i of_j of_sign of_framing large =
      let made = slid_pieces i j e f (framed_top framed f) pieces a b in
      let at_i : framing_of (result_of i made sign framing).framed i ≡ framing =
      get_or-set_same framed.framings (i - 1) framing (pos 0) (let low = moved_first in let high = moved_last in let count = is_framed.count in omega (arith, of_i, low, high, count)) in
      subst (λ (s : SlidDiagram). late_refusal framed i s ≡ Err (FramingSize i)) (result_is i j (framed_top framed f) pieces made a b sign framing of_i of_j refl refl of_sign of_framing)
      (late_large framed i (result_of i made sign framing) (ap is_large at_i ∙ large))

  module _ (small : top_of framed.items ≤ 1999000) where
    pub few_pieces : (pieces : List Piece) → pieces ≡ framed_pieces framed f → length pieces ≤ 256
    few_pieces pieces same = let n = ap length same in let few = pieces_few framed diagram is_framed e f k false false small in omega (arith, n, few)

    abbrev canonical : Bool → Bool → List Piece
    canonical a b = slid_pieces moved over e f (framed_top framed f) (framed_pieces framed f) a b

    canonical_is : (i j top : ℕ) (pieces made : List Piece) (a b : Bool) → i ≡ moved → j ≡ over → top ≡ framed_top framed f → pieces ≡ framed_pieces framed f → made ≡ slid_pieces i j e f top pieces a b → made ≡ canonical a b
    canonical_is i j top pieces made a b of_i of_j of_top of_pieces of_made =
        of_made
        ∙ (ap (λ (c : ℕ). slid_pieces c j e f top pieces a b) of_i
        ∙ (ap (λ (c : ℕ). slid_pieces moved c e f top pieces a b) of_j
        ∙ (ap (λ (t : ℕ). slid_pieces moved over e f t pieces a b) of_top
        ∙ ap (λ (ps : List Piece). slid_pieces moved over e f (framed_top framed f) ps a b) of_pieces)))

    pub made_diagram : (i j top : ℕ) (pieces made : List Piece) (a b : Bool) → i ≡ moved → j ≡ over → top ≡ framed_top framed f → pieces ≡ framed_pieces framed f → made ≡ slid_pieces i j e f top pieces a b → IsDiagram (items_of made)
    made_diagram i j top pieces made a b of_i of_j of_top of_pieces of_made =
        subst (λ (ps : List Piece). IsDiagram (items_of ps)) (sym (canonical_is i j top pieces made a b of_i of_j of_top of_pieces of_made)) (is_diagram framed diagram is_framed e f k a b small)

    pub made_leasts : (i j top : ℕ) (pieces made : List Piece) (a b : Bool) → i ≡ moved → j ≡ over → top ≡ framed_top framed f → pieces ≡ framed_pieces framed f → made ≡ slid_pieces i j e f top pieces a b → least_labels (items_of made) ≡ least_labels framed.items
    made_leasts i j top pieces made a b of_i of_j of_top of_pieces of_made =
        ap (λ (ps : List Piece). least_labels (items_of ps)) (canonical_is i j top pieces made a b of_i of_j of_top of_pieces of_made) ∙ same_leasts framed diagram is_framed e f k a b small
