-- One node among others in another form: alike everywhere where its terms count alike between any edges before and behind.
use Rattle.std.proofs.Common.{◌≡◌, ℕ, ◌%◌, ◌||◌, ◌==◌, List, [], ◌∷◌, ◌++◌, sum_by, refl, sym, ap, ◌∙◌, All}
use Rattle.std.specs.List.{AllPass}
use Rattle.std.specs.Set.{is_member}
use Rattle.std.proofs.lemmas.List.Elements.{All-append}
use Rattle.std.proofs.lemmas.List.Sums.{sum_by-cons}
use Rattle.graph_parts.proofs.Distinct.{is_member-append}
use Rattle.state_sums.specs.LocalSums.{SameEverywhere}
use Rattle.state_sums.specs.Networks.{Node, IsNode, names_of}
use Rattle.state_sums.specs.StateSums.{term_edges}
use Rattle.state_sums.proofs.Congruent.{add_same_mod, mul_same_mod}
use Rattle.state_sums.proofs.LabelSums.{label_weighed}
use Rattle.state_sums.proofs.Sums.{total, total-append}
use Rattle.piece_laws.proofs.Alike.{alike}
use Rattle.state_sums.proofs.NodeOrder.{names_of-three}

-- sums agree modulo m where each summand does
sum_by-mod : {X : Type 0} (m : ℕ) (f g : X → ℕ) (xs : List X) → ((x : X) → f x % m ≡ g x % m) → sum_by f xs % m ≡ sum_by g xs % m
sum_by-mod m f g [] h = refl
sum_by-mod m f g (x ∷ xs) h =
    ap (λ n. n % m) (sum_by-cons f x xs) ∙ add_same_mod m _ _ _ _ (h x) (sum_by-mod m f g xs h) ∙ sym (ap (λ n. n % m) (sum_by-cons g x xs))

pub total-mod : (m : ℕ) (nodes : List Node) (f g : List (ℕ × ℕ) → ℕ) → ((es : List (ℕ × ℕ)) → f es % m ≡ g es % m) → total nodes f % m ≡ total nodes g % m
total-mod m [] f g h = h []
total-mod m (node ∷ nodes) f g h =
    sum_by-mod m _ _ node.terms (λ term. mul_same_mod m term.weight _ _ (total-mod m nodes _ _ (λ es. h (term_edges node term ++ es))))

pub same_between : (front old new back : List Node) → ((u : ℕ) → is_member ◌==◌ (names_of old) u ≡ is_member ◌==◌ (names_of new) u) → (u : ℕ) →
    is_member ◌==◌ (names_of (front ++ (old ++ back))) u ≡ is_member ◌==◌ (names_of (front ++ (new ++ back))) u
same_between front old new back h u =
    ap (λ ns. is_member ◌==◌ ns u) (names_of-three front old back)
    ∙ is_member-append (names_of front) (names_of old ++ names_of back) u
    ∙ ap (λ t. is_member ◌==◌ (names_of front) u || t)
    (is_member-append (names_of old) (names_of back) u ∙ ap (λ t. t || is_member ◌==◌ (names_of back) u) (h u) ∙ sym (is_member-append (names_of new) (names_of back) u))
    ∙ sym (is_member-append (names_of front) (names_of new ++ names_of back) u)
    ∙ sym (ap (λ ns. is_member ◌==◌ ns u) (names_of-three front new back))

-- A RUN OF NODES IN ANOTHER FORM
pub run_alike : (m delta free : ℕ) (front old new back : List Node) (open_names : List ℕ) → All IsNode front → All IsNode old → All IsNode new → All IsNode back →
    ((u : ℕ) → is_member ◌==◌ (names_of old) u ≡ is_member ◌==◌ (names_of new) u) → AllPass (is_member ◌==◌ (names_of (front ++ (old ++ back)))) open_names →
    ((worth : List ℕ → ℕ) (es : List (ℕ × ℕ)) →
    total old (λ fs. total back (λ gs. label_weighed delta (front ++ (old ++ back)) free open_names worth (es ++ (fs ++ gs)))) % m
    ≡ total new (λ fs. total back (λ gs. label_weighed delta (front ++ (new ++ back)) free open_names worth (es ++ (fs ++ gs)))) % m) →
    SameEverywhere m delta open_names record { nodes = front ++ (old ++ back); free_loops = free } record { nodes = front ++ (new ++ back); free_loops = free }
run_alike m delta free front old new back open_names p q r s same has h =
    alike m delta free open_names (front ++ (old ++ back)) (front ++ (new ++ back))
    (All-append IsNode front (old ++ back) p (All-append IsNode old back q s)) (All-append IsNode front (new ++ back) p (All-append IsNode new back r s))
    (same_between front old new back same) has
    (λ worth.
    let f : List (ℕ × ℕ) → ℕ = label_weighed delta (front ++ (old ++ back)) free open_names worth in
    let g : List (ℕ × ℕ) → ℕ = label_weighed delta (front ++ (new ++ back)) free open_names worth in
    ap (λ n. n % m) (total-append front (old ++ back) f)
    ∙ total-mod m front _ _
    (λ es.
    ap (λ n. n % m) (total-append old back (λ fs. f (es ++ fs)))
    ∙ h worth es
    ∙ sym (ap (λ n. n % m) (total-append new back (λ fs. g (es ++ fs)))))
    ∙ sym (ap (λ n. n % m) (total-append front (new ++ back) g)))
