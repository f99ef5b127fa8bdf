-- The moves at corners, at names that are written out: sums over all states are computed, and what is left is an equation modulo m in a, b
-- and delta.
use Rattle.std.proofs.Common.{◌≡◌, ℕ, ◌+◌, ◌*◌, ◌%◌, true, List, [], ◌∷◌, refl, sym, ap, ◌∙◌, arith}
use Rattle.std.specs.List.{list_all}
use Rattle.std.proofs.lemmas.List.Sums.{AllPass-from_list_all}
use Rattle.std.specs.Set.{is_member}
use Rattle.std.specs.Prelude.{◌==◌}
use Rattle.state_sums.specs.LocalSums.{SameEverywhere}
use Rattle.state_sums.specs.Networks.{Node, names_of}
use Rattle.state_sums.proofs.Coefficients.{SameEverywhere-from_worth}
use Rattle.state_sums.proofs.Congruent.{pow_0, pow_1, congruent_by}
use Rattle.state_sums.proofs.LabelSums.{label_weighed, pattern_sum-labels}
use Rattle.state_sums.proofs.StateEdges.{has_places, HavePlaces-from_test}
use Rattle.state_sums.proofs.Sums.{total}
use Rattle.piece_laws.specs.Corners as piece
use Rattle.piece_laws.specs.Corners.{of_nodes}
use Rattle.piece_laws.proofs.SkeinEquations.{curl_equation, smoothings_cancel}
use Rattle.piece_laws.specs.Laws.{CurlCornerLaw, BigonCornersLaw, TriangleCornersLaw}

-- pieces that are alike by labels are alike everywhere
written_alike : (m delta : ℕ) (open_names : List ℕ) (old new : List Node) → list_all has_places old ≡ true → list_all has_places new ≡ true →
    list_all (is_member ◌==◌ (names_of old)) open_names ≡ true → list_all (is_member ◌==◌ (names_of new)) open_names ≡ true →
    ((worth : List ℕ → ℕ) → total old (label_weighed delta old 0 open_names worth) % m ≡ total new (label_weighed delta new 0 open_names worth) % m) →
    SameEverywhere m delta open_names (of_nodes old) (of_nodes new)
written_alike m delta open_names old new p q a b h =
    SameEverywhere-from_worth m delta open_names _ _
    (λ worth.
    ap (λ n. n % m) (pattern_sum-labels delta old 0 open_names worth (HavePlaces-from_test old p) (AllPass-from_list_all (is_member ◌==◌ (names_of old)) open_names a))
    ∙ h worth
    ∙ sym (ap (λ n. n % m) (pattern_sum-labels delta new 0 open_names worth (HavePlaces-from_test new q) (AllPass-from_list_all (is_member ◌==◌ (names_of new)) open_names b))))

-- THE CURL
pub curl_corner : CurlCornerLaw
curl_corner m a b delta w numbers factor =
    written_alike m delta (0 ∷ 1 ∷ []) (piece.curl_corner a b) (piece.curl_arcs w) refl refl refl refl
    (λ worth.
    let plain = worth (0 ∷ 0 ∷ []) in
    congruent_by m _ _ (a * delta + b + a * a * a) 0 0 (w + a * a * a) plain plain (curl_equation m a b delta numbers) (sym factor) (simp (pow_0, pow_1) (omega arith)))

-- THE BIGON
pub bigon_corners : BigonCornersLaw
bigon_corners m a b delta numbers =
    written_alike m delta (0 ∷ 1 ∷ 2 ∷ 3 ∷ []) (piece.bigon_corners a b) piece.bigon_arcs refl refl refl refl
    (λ worth.
    let across = worth (0 ∷ 0 ∷ 2 ∷ 2 ∷ []) in
    let turned = worth (0 ∷ 1 ∷ 1 ∷ 0 ∷ []) in
    congruent_by m _ _ (a * b) 1 (a * a + b * b + a * b * delta) 0 turned across numbers.inverse (smoothings_cancel m a b delta numbers) (simp (pow_0, pow_1) (omega arith)))

-- THE TRIANGLE
pub triangle_corners : TriangleCornersLaw
triangle_corners m a b delta numbers =
    written_alike m delta (0 ∷ 1 ∷ 2 ∷ 3 ∷ 4 ∷ 5 ∷ []) (piece.triangle_corners a b) (piece.triangle_moved a b) refl refl refl refl
    (λ worth.
    let low = worth (0 ∷ 0 ∷ 2 ∷ 2 ∷ 4 ∷ 4 ∷ []) in
    let high = worth (0 ∷ 1 ∷ 2 ∷ 0 ∷ 1 ∷ 2 ∷ []) in
    let i = smoothings_cancel m a b delta numbers in
    let q = a * a + b * b + a * b * delta in
    congruent_by m _ _ q 0 0 q (b * low) (b * high) i (sym i) (simp (pow_0, pow_1) (omega arith)))
