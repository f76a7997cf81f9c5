-- A polygon that is cut along its diagonals from one corner: its triangles are its ears, cut off from the first one on, and their half-edges begin at its corners. By any names of half-edges.
use Rattle.std.proofs.Common.{◌≡◌, ◌⊎◌, ℕ, zero, suc, ◌+◌, ◌-◌, ◌<◌, ◌≤◌, List, [], ◌∷◌, map, refl, sym, ap, ◌∙◌, subst, inl, inr, arith, append-nil}
use Rattle.std.specs.List.{range_with_len, AllByRecursion}
use Rattle.fs_lists.specs.Members.{IsIn}
use Rattle.fs_lists.proofs.Members.{in_map}
use Rattle.fs_lists.proofs.Ranges.{in_range}
use Rattle.fs_ring.specs.Operations.{Operations}
use Rattle.fs_ring.specs.Vector.{add_vector, cross}
use Rattle.fs_paths.specs.SideGluing.{SideGluing}
use Rattle.fs_triangles.specs.Ears.{Ear, AreEars, last, ear, last_after}
use Rattle.fs_triangles.proofs.EarCuts.{half_edges_of, Begins, as_first, as_second, as_diagonal, at_twin, at_other}
use Rattle.fs_triangles.proofs.Rounds.{Leads, Round}

here_or_after : (a j : ℕ) → a ≤ j → (a ≡ j) ⊎ (a + 1 ≤ j)
here_or_after a j l = grind arith

module _ {A : Type 0} (R : Operations A) (IsPositive : A → Type 0) {X : Type 0} (G : SideGluing X A) (first third side : ℕ → X) (n : ℕ) where
  -- triangle t: from the corner of the cut to corner t + 1, along side t + 1, and back
  abbrev pub fan_ear : ℕ → Ear X
  fan_ear t = record { first = first t; second = side (t + 1); diagonal = third t }

  -- the boundary of what is left from triangle t on, which is k + 1 triangles, begun with this side
  abbrev pub fan_boundary : X → ℕ → ℕ → List X
  fan_boundary head t k = head ∷ map side (range_with_len (t + 1) (suc (suc k)))

  -- the triangles from triangle t on, which are k + 1, are the ears of the polygon with this boundary: their first half-edges begin at the corner of the cut, where the side `head` does, and their others at the corners that follow
  pub record AreFanEars (t k : ℕ) (boundary : List X) (head : X) : Type 0 where
    pub ears : AreEars R IsPositive G boundary (map fan_ear (range_with_len t (suc k)))
    pub first_begins : (j : ℕ) → t ≤ j → j ≤ t + k → Begins R IsPositive G ears (first j) head
    pub side_begins : (j : ℕ) → t ≤ j → j ≤ t + k → Begins R IsPositive G ears (side (j + 1)) (side (j + 1))
    pub third_begins : (j : ℕ) → t ≤ j → j ≤ t + k → Begins R IsPositive G ears (third j) (side (j + 2))

  -- the half-edges first t, side (t + 1) and third t are those of triangle t of a polygon with n sides
  pub record IsFan : Type 0 where
    pub last_third : third (n - 3) ≡ side (n - 1)
    pub diagonal : (t : ℕ) → t + 3 < n → G.twin (third t) ≡ first (t + 1)
    pub sum : (t : ℕ) → t + 3 < n → G.vector (first (t + 1)) ≡ add_vector R (G.vector (first t)) (G.vector (side (t + 1)))
    pub counterclockwise : (t : ℕ) → t + 3 ≤ n → IsPositive (cross R (G.vector (first t)) (G.vector (side (t + 1))))
    pub at_first : (t : ℕ) → t + 3 < n → IsPositive (cross R (G.vector (side (n - 1))) (G.vector (first (t + 1))))

  last_of_sides : (a m : ℕ) → last_after (side a) (map side (range_with_len (a + 1) m)) ≡ side (a + m)
  last_of_sides a zero = ap side (omega arith)
  last_of_sides a (suc m) = last_of_sides (a + 1) m ∙ ap side (omega arith)

  -- the last triangle
  one_triangle : IsFan → (t : ℕ) → t + 3 ≡ n → AreFanEars t zero (fan_boundary (first t) t zero) (first t)
  one_triangle fan t e =
      let at : n - 3 ≡ t = omega arith in
      let end : n - 1 ≡ t + 1 + 1 = omega arith in
      subst (λ c. AreFanEars t zero (first t ∷ side (t + 1) ∷ c ∷ []) (first t))
      (ap third (sym at) ∙ fan.last_third ∙ ap side end)
      (record {
        ears = last (first t) (side (t + 1)) (third t);
        first_begins = λ j l m. let same : j ≡ t = omega arith in (inl (ap first same), ap first (sym same));
        side_begins = λ j l m. let same : j ≡ t = omega arith in (inr (inl (ap (λ i. side (i + 1)) same)), refl);
        third_begins = λ j l m.
            let same : j ≡ t = omega arith in
            let to_end : j + 2 ≡ n - 1 = omega arith in
            let from_last : n - 3 ≡ j = omega arith in
            (inr (inr (inl (ap third same))), ap side to_end ∙ sym fan.last_third ∙ ap third from_last);
      })

  -- one triangle more
  module _ (fan : IsFan) (k t : ℕ) (e : t + suc k + 3 ≡ n) (others : AreFanEars (t + 1) k (fan_boundary (first (t + 1)) (t + 1) k) (first (t + 1))) where
    abbrev f : X
    f = side (t + 1 + 1)

    abbrev rest : List X
    rest = map side (range_with_len (t + 1 + 1 + 1) (suc k))

    more : AreFanEars (t + 1) k (G.twin (third t) ∷ f ∷ rest) (G.twin (third t))
    more = subst (λ x. AreFanEars (t + 1) k (x ∷ f ∷ rest) x) (sym (fan.diagonal t (omega arith))) others

    last_side : last_after f rest ≡ side (n - 1)
    last_side = let end : t + 1 + 1 + suc k ≡ n - 1 = omega arith in last_of_sides (t + 1 + 1) (suc k) ∙ ap side end

    sum : G.vector (first (t + 1)) ≡ add_vector R (G.vector (first t)) (G.vector (side (t + 1)))
    sum = fan.sum t (omega arith)

    in_rest : (j : ℕ) → t + 2 ≤ j → j < t + 2 + suc (suc k) → IsIn (side j) (f ∷ rest)
    in_rest j l m = in_map side j (range_with_len (t + 1 + 1) (suc (suc k))) (in_range (t + 1 + 1) (suc (suc k)) j (omega arith) (omega arith))

    one_more : AreFanEars t (suc k) (fan_boundary (first t) t (suc k)) (first t)
    one_more = record {
      ears = ear [] (fan_boundary (first t) t (suc k)) (first t) (side (t + 1)) (third t) f rest (map fan_ear (range_with_len (t + 1) (suc k)))
          (append-nil (fan_boundary (first t) t (suc k)))
          (fan.counterclockwise t (omega arith))
          (subst (λ v. IsPositive (cross R (G.vector (last_after f rest)) v)) sum (subst (λ x. IsPositive (cross R (G.vector x) (G.vector (first (t + 1))))) (sym last_side) (fan.at_first t (omega arith))))
          (subst (λ v. IsPositive (cross R v (G.vector f))) sum (fan.counterclockwise (t + 1) (omega arith)))
          more.ears;
      first_begins = λ j l m. elim (here_or_after t j l) [
        | inl same ↦ as_first (ap first (sym same)) refl
        | inr later ↦ at_twin (more.first_begins j later (omega arith)) refl
      ];
      side_begins = λ j l m. elim (here_or_after t j l) [
        | inl same ↦ as_second (ap (λ i. side (i + 1)) (sym same)) (ap (λ i. side (i + 1)) (sym same))
        | inr later ↦ at_other (more.side_begins j later (omega arith)) (in_rest (j + 1) (omega arith) (omega arith))
      ];
      third_begins = λ j l m. elim (here_or_after t j l) [
        | inl same ↦ let next : j + 2 ≡ t + 1 + 1 = omega arith in as_diagonal (ap third (sym same)) (ap side next)
        | inr later ↦ at_other (more.third_begins j later (omega arith)) (in_rest (j + 2) (omega arith) (omega arith))
      ];
    }

  -- the triangles from triangle t on are the ears of what is left, and their half-edges begin at its corners
  pub fan_is_ears : IsFan → (k t : ℕ) → t + k + 3 ≡ n → AreFanEars t k (fan_boundary (first t) t k) (first t)
  fan_is_ears fan zero t e = one_triangle fan t (omega arith)
  fan_is_ears fan (suc k) t e = one_more fan k t e (fan_is_ears fan k (t + 1) (omega arith))

  -- a half-edge of triangles is one of some triangle
  of_triangle : (t m : ℕ) (x : X) → IsIn x (half_edges_of (map fan_ear (range_with_len t m))) → (j : ℕ) × (t ≤ j) × (j < t + m) × IsIn x (half_edges_of (fan_ear j ∷ []))
  of_triangle t zero x i = absurd i
  of_triangle t (suc m) x (inl e) = (t, omega arith, omega arith, inl e)
  of_triangle t (suc m) x (inr (inl e)) = (t, omega arith, omega arith, inr (inl e))
  of_triangle t (suc m) x (inr (inr (inl e))) = (t, omega arith, omega arith, inr (inr (inl e)))
  of_triangle t (suc m) x (inr (inr (inr i))) = let r = of_triangle (t + 1) m x i in (r.0, omega (arith, r.1), omega (arith, r.2), r.3)

  -- each half-edge begins at its home, where the homes are these corners
  pub fan_begins : (t k : ℕ) (boundary : List X) (head : X) (fan : AreFanEars t k boundary head) (home : X → X)
      → ((j : ℕ) → t ≤ j → j ≤ t + k → home (first j) ≡ head)
      → ((j : ℕ) → t ≤ j → j ≤ t + k → home (side (j + 1)) ≡ side (j + 1))
      → ((j : ℕ) → t ≤ j → j ≤ t + k → home (third j) ≡ side (j + 2))
      → (x : X) → IsIn x (half_edges_of (map fan_ear (range_with_len t (suc k)))) → Begins R IsPositive G fan.ears x (home x)
  fan_begins t k boundary head fan home firsts sides thirds x i = let r = of_triangle t (suc k) x i in here r.0 r.1 (omega (arith, r.2)) r.3
    where
      begins_at : (z y : X) → Begins R IsPositive G fan.ears z y → home z ≡ y → x ≡ z → Begins R IsPositive G fan.ears x (home x)
      begins_at z y b e same = subst (λ w. Begins R IsPositive G fan.ears w (home w)) (sym same) (subst (Begins R IsPositive G fan.ears z) (sym e) b)

      here : (j : ℕ) → t ≤ j → j ≤ t + k → IsIn x (half_edges_of (fan_ear j ∷ [])) → Begins R IsPositive G fan.ears x (home x)
      here j l m (inl e) = begins_at (first j) head (fan.first_begins j l m) (firsts j l m) e
      here j l m (inr (inl e)) = begins_at (side (j + 1)) (side (j + 1)) (fan.side_begins j l m) (sides j l m) e
      here j l m (inr (inr (inl e))) = begins_at (third j) (side (j + 2)) (fan.third_begins j l m) (thirds j l m) e
      here j l m (inr (inr (inr n))) = absurd n

  -- ---- round the sides

  leads_of : (P : X → X → Type 0) (a m : ℕ) (z : X) → ((j : ℕ) → a ≤ j → j < a + m → P (side j) (side (j + 1))) → P (side (a + m)) z → Leads P (side a) (map side (range_with_len (a + 1) m)) z
  leads_of P a zero z h l = let e : a + zero ≡ a = omega arith in subst (λ j. P (side j) z) e l
  leads_of P a (suc m) z h l =
      let e : a + suc m ≡ a + 1 + m = omega arith in
      (h a (omega arith) (omega arith), leads_of P (a + 1) m z (λ j l k. h j (omega arith) (omega arith)) (subst (λ j. P (side j) z) e l))

  of_leads : (P : X → X → Type 0) (a m : ℕ) (z : X) → Leads P (side a) (map side (range_with_len (a + 1) m)) z
      → ((j : ℕ) → a ≤ j → j < a + m → P (side j) (side (j + 1))) × P (side (a + m)) z
  of_leads P a zero z h = let e : a ≡ a + zero = omega arith in ((λ j l k. absurd (omega arith)), subst (λ j. P (side j) z) e h)
  of_leads P a (suc m) z h =
      let rest = of_leads P (a + 1) m z h.1 in
      let e : a + 1 + m ≡ a + suc m = omega arith in (
        (λ j l k. elim (here_or_after a j l) [
          | inl same ↦ subst (λ i. P (side i) (side (i + 1))) same h.0
          | inr more ↦ rest.0 j more (omega arith)
        ]),
        subst (λ j. P (side j) z) e rest.1,
      )

  -- a relation of each side and the next one, and of the last side and the first
  pub round_of : (P : X → X → Type 0) (m : ℕ) → ((j : ℕ) → j < m → P (side j) (side (j + 1))) → P (side m) (side 0) → Round P (map side (range_with_len 0 (suc m)))
  round_of P m h l =
      let e : m ≡ 0 + m = omega arith in
      leads_of P 0 m (side 0) (λ j a k. h j (omega arith)) (subst (λ j. P (side j) (side 0)) e l)

  pub of_round : (P : X → X → Type 0) (m : ℕ) → Round P (map side (range_with_len 0 (suc m))) → ((j : ℕ) → j < m → P (side j) (side (j + 1))) × P (side m) (side 0)
  of_round P m h =
      let e : 0 + m ≡ m = omega arith in
      let both = of_leads P 0 m (side 0) h in
      ((λ j l. both.0 j (omega arith) (omega arith)), subst (λ j. P (side j) (side 0)) e both.1)

-- what holds at each number of a range holds of each item of the mapped range
pub all_in_range : {Y : Type 0} (f : ℕ → Y) (P : Y → Type 0) (a m : ℕ) → ((t : ℕ) → a ≤ t → t < a + m → P (f t)) → AllByRecursion P (map f (range_with_len a m))
all_in_range f P a zero h = tt
all_in_range f P a (suc m) h = (h a (omega arith) (omega arith), all_in_range f P (a + 1) m (λ t l k. h t (omega arith) (omega arith)))
