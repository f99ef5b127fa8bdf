-- What is drawn into a rotation system whose pairing is a function: other is the pairing before, drawn the one after.
--
--     IsCurl names turn other drawn p q a b c d        a vertex of four names, two of them paired, in the edge between p and q
--     IsSubdivision names turn other drawn p q u v     a vertex of two names in the edge between p and q
--     IsPush n turn other drawn e1 e3 f1 f3            one edge pushed over another, by two vertices of four names
--     passed u v other                                 the pairing where the names u and v are passed by
--     IsVertexOfTwo names turn other u v               u and v are a vertex beside the names
--     IsLoneCurl names turn other a b c d              a vertex of four names beside the names, with two edges from itself to itself
--     IsSlide names turn turned other a0 .. c3         one side of a triangle slid over the vertex across from it
--     IsRenamed names others turn other turned drawn f g    a system under other names
use Rattle.std.specs.Prelude.{◌≡◌, ◌≢◌, ◌<◌, ℕ, ◌+◌, ◌==◌, if◌then◌else◌, true, false, List, ◌∷◌}
use Rattle.std.specs.Set.{is_member}
use Rattle.rotation_parts.specs.Rotations.{IsPairingOf}

-- a vertex of four names drawn into the edge between p and q
--
--          c-----d           p - a, q - b, c - d; the names turn a, b, c, d
--           \   /
--            \ /
--            / \
--     p --- a   b --- q
pub record IsCurl (names : List ℕ) (turn other drawn : ℕ → ℕ) (p q a b c d : ℕ) : Type 0 where
  pub has_p : is_member ◌==◌ names p ≡ true
  pub has_q : is_member ◌==◌ names q ≡ true
  pub pq : other p ≡ q
  pub qp : other q ≡ p
  pub turn_in : (x : ℕ) → is_member ◌==◌ names x ≡ true → is_member ◌==◌ names (turn x) ≡ true
  pub other_in : (x : ℕ) → is_member ◌==◌ names x ≡ true → is_member ◌==◌ names (other x) ≡ true
  pub new_a : is_member ◌==◌ names a ≡ false
  pub new_b : is_member ◌==◌ names b ≡ false
  pub new_c : is_member ◌==◌ names c ≡ false
  pub new_d : is_member ◌==◌ names d ≡ false
  pub distinct : (a ≢ b) × (a ≢ c) × (a ≢ d) × (b ≢ c) × (b ≢ d) × (c ≢ d)
  pub ta : turn a ≡ b
  pub tb : turn b ≡ c
  pub tc : turn c ≡ d
  pub td : turn d ≡ a
  pub dp : drawn p ≡ a
  pub da : drawn a ≡ p
  pub dq : drawn q ≡ b
  pub db : drawn b ≡ q
  pub dc : drawn c ≡ d
  pub dd : drawn d ≡ c
  pub kept : (x : ℕ) → is_member ◌==◌ names x ≡ true → x ≢ p → x ≢ q → drawn x ≡ other x

-- a vertex of two names drawn into the edge between p and q: p - u, v - q
pub record IsSubdivision (names : List ℕ) (turn other drawn : ℕ → ℕ) (p q u v : ℕ) : Type 0 where
  pub has_p : is_member ◌==◌ names p ≡ true
  pub has_q : is_member ◌==◌ names q ≡ true
  pub pq : other p ≡ q
  pub qp : other q ≡ p
  pub turn_in : (x : ℕ) → is_member ◌==◌ names x ≡ true → is_member ◌==◌ names (turn x) ≡ true
  pub other_in : (x : ℕ) → is_member ◌==◌ names x ≡ true → is_member ◌==◌ names (other x) ≡ true
  pub new_u : is_member ◌==◌ names u ≡ false
  pub new_v : is_member ◌==◌ names v ≡ false
  pub distinct : u ≢ v
  pub tu : turn u ≡ v
  pub tv : turn v ≡ u
  pub dp : drawn p ≡ u
  pub du : drawn u ≡ p
  pub dq : drawn q ≡ v
  pub dv : drawn v ≡ q
  pub kept : (x : ℕ) → is_member ◌==◌ names x ≡ true → x ≢ p → x ≢ q → drawn x ≡ other x

-- one edge pushed over another: below n stand the old places, from n on the slots of the first new crossing, from n + 4 on those of the second
pub record IsPush (n : ℕ) (turn other drawn : ℕ → ℕ) (e1 e3 f1 f3 : ℕ) : Type 0 where
  pub le1 : e1 < n
  pub le3 : e3 < n
  pub lf1 : f1 < n
  pub lf3 : f3 < n
  pub ee : other e1 ≡ e3
  pub ee_back : other e3 ≡ e1
  pub ff : other f1 ≡ f3
  pub ff_back : other f3 ≡ f1
  pub apart : (e3 ≢ e1) × (e3 ≢ f1) × (f3 ≢ e1) × (f3 ≢ f1) × (f1 ≢ e1)
  pub turn_in : (x : ℕ) → x < n → turn x < n
  pub other_in : (x : ℕ) → x < n → other x < n
  pub t0 : turn (n + 0) ≡ n + 1
  pub t1 : turn (n + 1) ≡ n + 2
  pub t2 : turn (n + 2) ≡ n + 3
  pub t3 : turn (n + 3) ≡ n + 0
  pub t4 : turn (n + 4) ≡ n + 5
  pub t5 : turn (n + 5) ≡ n + 6
  pub t6 : turn (n + 6) ≡ n + 7
  pub t7 : turn (n + 7) ≡ n + 4
  pub d0 : drawn (n + 0) ≡ n + 6
  pub d1 : drawn (n + 1) ≡ e1
  pub d2 : drawn (n + 2) ≡ f3
  pub d3 : drawn (n + 3) ≡ n + 7
  pub d4 : drawn (n + 4) ≡ f1
  pub d5 : drawn (n + 5) ≡ e3
  pub d6 : drawn (n + 6) ≡ n + 0
  pub d7 : drawn (n + 7) ≡ n + 3
  pub de1 : drawn e1 ≡ n + 1
  pub df3 : drawn f3 ≡ n + 2
  pub df1 : drawn f1 ≡ n + 4
  pub de3 : drawn e3 ≡ n + 5
  pub kept : (x : ℕ) → x < n → x ≢ e1 → x ≢ e3 → x ≢ f1 → x ≢ f3 → drawn x ≡ other x

-- what u and v were paired with is paired
abbrev pub passed : ℕ → ℕ → (ℕ → ℕ) → ℕ → ℕ
passed u v other x = if other x == u then other v else (if other x == v then other u else other x)

-- a vertex of two names, u and v, beside the names; other pairs them all
pub record IsVertexOfTwo (names : List ℕ) (turn other : ℕ → ℕ) (u v : ℕ) : Type 0 where
  pub new_u : is_member ◌==◌ names u ≡ false
  pub new_v : is_member ◌==◌ names v ≡ false
  pub distinct : u ≢ v
  pub tu : turn u ≡ v
  pub tv : turn v ≡ u
  pub turn_in : (x : ℕ) → is_member ◌==◌ names x ≡ true → is_member ◌==◌ names (turn x) ≡ true
  pub pairing : IsPairingOf (u ∷ v ∷ names) other

-- a vertex of four names that is a piece of its own, with the edges a - b and c - d; the names turn a, b, c, d
pub record IsLoneCurl (names : List ℕ) (turn other : ℕ → ℕ) (a b c d : ℕ) : Type 0 where
  pub turn_in : (x : ℕ) → is_member ◌==◌ names x ≡ true → is_member ◌==◌ names (turn x) ≡ true
  pub other_in : (x : ℕ) → is_member ◌==◌ names x ≡ true → is_member ◌==◌ names (other x) ≡ true
  pub new_a : is_member ◌==◌ (b ∷ c ∷ d ∷ names) a ≡ false
  pub new_b : is_member ◌==◌ (c ∷ d ∷ names) b ≡ false
  pub new_c : is_member ◌==◌ (d ∷ names) c ≡ false
  pub new_d : is_member ◌==◌ names d ≡ false
  pub ta : turn a ≡ b
  pub tb : turn b ≡ c
  pub tc : turn c ≡ d
  pub td : turn d ≡ a
  pub ab : other a ≡ b
  pub ba : other b ≡ a
  pub cd : other c ≡ d
  pub dc : other d ≡ c

-- A triangle between the vertices a, b and c with the edges a1 - b0, b1 - c0, c1 - a0. After the slide the same edges meet at three other
-- vertices: turned instead of turn.
--
--     turn:   a0 a1 a2 a3    b0 b1 b2 b3    c0 c1 c2 c3
--     turned: a0 a1 c3 b2    b0 b1 a3 c2    c0 c1 b3 a2
pub record IsSlide (names : List ℕ) (turn turned other : ℕ → ℕ) (a0 a1 a2 a3 b0 b1 b2 b3 c0 c1 c2 c3 : ℕ) : Type 0 where
  -- the twelve names are different, as their kinds are
  pub kind : ℕ → ℕ
  pub kind_a0 : kind a0 ≡ 0
  pub kind_a1 : kind a1 ≡ 1
  pub kind_a2 : kind a2 ≡ 2
  pub kind_a3 : kind a3 ≡ 3
  pub kind_b0 : kind b0 ≡ 4
  pub kind_b1 : kind b1 ≡ 5
  pub kind_b2 : kind b2 ≡ 6
  pub kind_b3 : kind b3 ≡ 7
  pub kind_c0 : kind c0 ≡ 8
  pub kind_c1 : kind c1 ≡ 9
  pub kind_c2 : kind c2 ≡ 10
  pub kind_c3 : kind c3 ≡ 11
  pub has_a0 : is_member ◌==◌ names a0 ≡ true
  pub has_a1 : is_member ◌==◌ names a1 ≡ true
  pub has_a2 : is_member ◌==◌ names a2 ≡ true
  pub has_a3 : is_member ◌==◌ names a3 ≡ true
  pub has_b0 : is_member ◌==◌ names b0 ≡ true
  pub has_b1 : is_member ◌==◌ names b1 ≡ true
  pub has_b2 : is_member ◌==◌ names b2 ≡ true
  pub has_b3 : is_member ◌==◌ names b3 ≡ true
  pub has_c0 : is_member ◌==◌ names c0 ≡ true
  pub has_c1 : is_member ◌==◌ names c1 ≡ true
  pub has_c2 : is_member ◌==◌ names c2 ≡ true
  pub has_c3 : is_member ◌==◌ names c3 ≡ true
  pub turn_in : (x : ℕ) → is_member ◌==◌ names x ≡ true → is_member ◌==◌ names (turn x) ≡ true
  pub turned_in : (x : ℕ) → is_member ◌==◌ names x ≡ true → is_member ◌==◌ names (turned x) ≡ true
  pub pairing : IsPairingOf names other
  pub t_a0 : turn a0 ≡ a1
  pub t_a1 : turn a1 ≡ a2
  pub t_a2 : turn a2 ≡ a3
  pub t_a3 : turn a3 ≡ a0
  pub t_b0 : turn b0 ≡ b1
  pub t_b1 : turn b1 ≡ b2
  pub t_b2 : turn b2 ≡ b3
  pub t_b3 : turn b3 ≡ b0
  pub t_c0 : turn c0 ≡ c1
  pub t_c1 : turn c1 ≡ c2
  pub t_c2 : turn c2 ≡ c3
  pub t_c3 : turn c3 ≡ c0
  pub s_a0 : turned a0 ≡ a1
  pub s_a1 : turned a1 ≡ c3
  pub s_a2 : turned a2 ≡ c0
  pub s_a3 : turned a3 ≡ c2
  pub s_b0 : turned b0 ≡ b1
  pub s_b1 : turned b1 ≡ a3
  pub s_b2 : turned b2 ≡ a0
  pub s_b3 : turned b3 ≡ a2
  pub s_c0 : turned c0 ≡ c1
  pub s_c1 : turned c1 ≡ b3
  pub s_c2 : turned c2 ≡ b0
  pub s_c3 : turned c3 ≡ b2
  pub o_a0 : other a0 ≡ c1
  pub o_a1 : other a1 ≡ b0
  pub o_b0 : other b0 ≡ a1
  pub o_b1 : other b1 ≡ c0
  pub o_c0 : other c0 ≡ b1
  pub o_c1 : other c1 ≡ a0
  pub kept : (x : ℕ) → is_member ◌==◌ names x ≡ true → x ≢ a0 → x ≢ a1 → x ≢ a2 → x ≢ a3 → x ≢ b0 → x ≢ b1 → x ≢ b2 → x ≢ b3 → x ≢ c0 → x ≢ c1 → x ≢ c2 → x ≢ c3 → (turned x ≡ turn x) × (turn x ≢ a0) × (turn x ≢ b0) × (turn x ≢ c0)

-- the same system under other names: f gives the new ones, g the old ones
pub record IsRenamed (names others : List ℕ) (turn other turned drawn f g : ℕ → ℕ) : Type 0 where
  pub onto_others : (x : ℕ) → is_member ◌==◌ names x ≡ true → is_member ◌==◌ others (f x) ≡ true
  pub into_names : (u : ℕ) → is_member ◌==◌ others u ≡ true → is_member ◌==◌ names (g u) ≡ true
  pub new_again : (u : ℕ) → is_member ◌==◌ others u ≡ true → f (g u) ≡ u
  pub old_again : (x : ℕ) → is_member ◌==◌ names x ≡ true → g (f x) ≡ x
  pub turn_in : (x : ℕ) → is_member ◌==◌ names x ≡ true → is_member ◌==◌ names (turn x) ≡ true
  pub other_in : (x : ℕ) → is_member ◌==◌ names x ≡ true → is_member ◌==◌ names (other x) ≡ true
  pub turns : (x : ℕ) → is_member ◌==◌ names x ≡ true → turned (f x) ≡ f (turn x)
  pub pairs : (x : ℕ) → is_member ◌==◌ names x ≡ true → drawn (f x) ≡ f (other x)
