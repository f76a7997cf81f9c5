-- The search for cells: faces get numbers one after another.
use Rattle.std.proofs.Common.{◌≡◌, ◌≢◌, ◌⊎◌, inl, inr, ℕ, ◌+◌, ◌*◌, ◌/◌, ◌<◌, ◌≤◌, Option, Some, None, List, [], ◌∷◌, ◌++◌, length, set, count_by, cond, sym, ap, ◌∙◌, refl, subst, arith}
use Rattle.std.proofs.lemmas.Bool.{cases_lt, cases_eq}
use Rattle.std.proofs.lemmas.List.{get_or-set_same, get_or-set_other, length-set, length-append}
use Rattle.std.proofs.lemmas.List.Elements.{Contains-append_left, Contains-push, Contains-push_cases}
use Rattle.std.proofs.lemmas.List.Sums.{sum_by-set}
use Rattle.std.specs.List.{Contains}
use Rattle.std.specs.Option.{is_none}
use Rattle.fs_gluing.specs.Triangulation.{Triangulation, edge_twin}
use Rattle.fs_delaunay.specs.Cells.{AreOfOneCell}
use Rattle.fs_delaunay.specs.CellNumbers.{number_of, JoinsFaces, AreNumbered, GetNumbers}
use Rattle.fs_delaunay.proofs.CellJoins.{one_cell_refl, one_cell_sym}

-- ---- one more number

-- equal numbers that are there
pub some_same : (j k : ℕ) → Some j ≡ Some k → j ≡ k
some_same j k e = cc

some_not_none : (numbers : List (Option ℕ)) (x y j : ℕ) → number_of numbers x ≡ Some j → number_of numbers y ≡ None → x ≢ y
some_not_none numbers x y j is fresh e = let both : Some j ≡ None = sym is ∙ ap (number_of numbers) e ∙ fresh in cc

module _ (numbers : List (Option ℕ)) (y k : ℕ) (there : y < length numbers) (fresh : number_of numbers y ≡ None) where
  set_here : number_of (set numbers y (Some k)) y ≡ Some k
  set_here = get_or-set_same numbers y (Some k) None there

  set_other : (x : ℕ) → x ≢ y → number_of (set numbers y (Some k)) x ≡ number_of numbers x
  set_other x n = get_or-set_other numbers y x (Some k) None n

  set_kept : (x j : ℕ) → number_of numbers x ≡ Some j → number_of (set numbers y (Some k)) x ≡ Some j
  set_kept x j h = set_other x (some_not_none numbers x y j h fresh) ∙ h

  set_cases : (x j : ℕ) → number_of (set numbers y (Some k)) x ≡ Some j → ((x ≡ y) × (j ≡ k)) ⊎ (number_of numbers x ≡ Some j)
  set_cases x j h = elim (cases_eq x y) [
    | inl e ↦ inl (e, some_same j k (sym h ∙ ap (number_of (set numbers y (Some k))) e ∙ set_here))
    | inr n ↦ inr (sym (set_other x n) ∙ h)
  ]

  -- 1 for a face without a number
  abbrev weight : Option ℕ → ℕ
  weight o = cond (is_none o) 1 0

  count_set : count_by is_none (set numbers y (Some k)) + 1 ≡ count_by is_none numbers
  count_set =
      let total = sum_by-set weight numbers y (Some k) None there in
      omega (arith, total, ap (λ o. weight o) fresh)

  -- the face that gets a number waits
  pub get_number : (waiting : List ℕ) → GetNumbers numbers (set numbers y (Some k)) waiting (waiting ++ y ∷ [])
  get_number waiting = record { long = length-set numbers y (Some k); kept = set_kept; count = omega (arith, count_set, length-append waiting (y ∷ [])) }

pub get_none : (numbers : List (Option ℕ)) (waiting : List ℕ) → GetNumbers numbers numbers waiting waiting
get_none numbers waiting = record { long = refl; kept = λ x j h. h; count = refl }

pub get_more : (numbers more most : List (Option ℕ)) (waiting longer longest : List ℕ) → GetNumbers numbers more waiting longer → GetNumbers more most longer longest → GetNumbers numbers most waiting longest
get_more numbers more most waiting longer longest a b = record { long = b.long ∙ a.long; kept = λ x j h. b.kept x j (a.kept x j h); count = b.count ∙ a.count }

module _ {d : ℕ} {t : Triangulation} where
  -- a face without a number, which is of one cell with all that have number k, gets it and waits
  pub numbered_more : (n k m : ℕ) (numbers : List (Option ℕ)) (waiting : List ℕ) (from to y : ℕ) → AreNumbered d t n k m numbers waiting from to → y < length numbers → number_of numbers y ≡ None
      → m ≤ k + 1 → ((x : ℕ) → number_of numbers x ≡ Some k → AreOfOneCell d t x y) → AreNumbered d t n k (k + 1) (set numbers y (Some k)) (waiting ++ y ∷ []) from to
  numbered_more n k m numbers waiting from to y a there fresh few joined =
      let kept = set_kept numbers y k there fresh in
      let cases = set_cases numbers y k there fresh in
      let here = set_here numbers y k there fresh in
      let after : n ≤ y = elim (cases_lt y n) [ inl l ↦ absurd (let r = a.below y l in some_not_none numbers y y r.0 r.1 fresh refl) | inr past ↦ past ] in
      record {
        long = ap (λ i. 3 * i) (length-set numbers y (Some k)) ∙ a.long;
        below = λ x b. let r = a.below x b in (r.0, kept x r.0 r.1);
        small = λ x j h. elim (cases x j h) [ inl e ↦ let same = e.1 in omega (arith, same) | inr o ↦ let l = a.small x j o in omega (arith, l, few) ];
        used = λ i b. let r = a.used i b in (r.0, r.1, kept r.0 i r.2);
        one_cell = λ x z j hx hz. elim (cases x j hx) [
          | inl ex ↦ elim (cases z j hz) [
            | inl ez ↦ subst (AreOfOneCell d t x) (ex.0 ∙ sym ez.0) (one_cell_refl x)
            | inr oz ↦ subst (λ w. AreOfOneCell d t w z) (sym ex.0) (one_cell_sym (joined z (oz ∙ ap (λ i. Some i) ex.1)))
          ]
          | inr ox ↦ elim (cases z j hz) [
            | inl ez ↦ subst (AreOfOneCell d t x) (sym ez.0) (joined x (ox ∙ ap (λ i. Some i) ez.1))
            | inr oz ↦ a.one_cell x z j ox oz
          ]
        ];
        order = λ x j i hx b. elim (cases x j hx) [
          | inl e ↦
              let same = e.1 in
              let is_y = e.0 in
              let r = a.used i (omega (arith, b, same)) in
              let l = r.1 in
              (r.0, omega (arith, l, after, is_y), kept r.0 i r.2)
          | inr o ↦ let r = a.order x j i o b in (r.0, r.1, kept r.0 i r.2)
        ];
        wait = λ x c. elim (Contains-push_cases waiting y x c) [ inl w ↦ kept x k (a.wait x w) | inr e ↦ subst (λ z. number_of (set numbers y (Some k)) z ≡ Some k) e here ];
        closed = λ h j joins hx. elim (cases (h / 3) j hx) [
          | inl e ↦ inl (e.1, inl (subst (Contains (waiting ++ y ∷ [])) (sym e.0) (Contains-push waiting y)))
          | inr o ↦ elim (a.closed h j joins o) [
            | inl p ↦ inl (p.0, elim p.1 [ inl w ↦ inl (Contains-append_left waiting (y ∷ []) (h / 3) w) | inr r ↦ inr r ])
            | inr c ↦ inr (kept (edge_twin t h / 3) j c)
          ]
        ];
      }

  -- a half-edge is crossed: its number goes on across it, where the edge joins
  pub half_edge_crossed : (n k m : ℕ) (numbers : List (Option ℕ)) (waiting : List ℕ) (h to : ℕ) → AreNumbered d t n k m numbers waiting h to
      → ((j : ℕ) → JoinsFaces d t h → number_of numbers (h / 3) ≡ Some j → number_of numbers (edge_twin t h / 3) ≡ Some j) → AreNumbered d t n k m numbers waiting (h + 1) to
  half_edge_crossed n k m numbers waiting h to a passes = record {
    long = a.long;
    below = a.below;
    small = a.small;
    used = a.used;
    one_cell = a.one_cell;
    order = a.order;
    wait = a.wait;
    closed = λ g j joins is. elim (a.closed g j joins is) [
      | inl p ↦ elim p.1 [
        | inl w ↦ inl (p.0, inl w)
        | inr r ↦ elim (cases_eq g h) [
          | inl e ↦ inr (subst (λ i. JoinsFaces d t i → number_of numbers (i / 3) ≡ Some j → number_of numbers (edge_twin t i / 3) ≡ Some j) (sym e) (passes j) joins is)
          | inr o ↦ let l = r.0 in inl (p.0, inr (omega (arith, l, o), r.1))
        ]
      ]
      | inr c ↦ inr c
    ];
  }

  -- a face is taken from those that wait: its half-edges are to be crossed
  pub face_taken : (n k m : ℕ) (numbers : List (Option ℕ)) (rest : List ℕ) (face : ℕ) → AreNumbered d t n k m numbers (rest ++ face ∷ []) 0 0 → AreNumbered d t n k m numbers rest (3 * face) (3 * face + 3)
  face_taken n k m numbers rest face a = record {
    long = a.long;
    below = a.below;
    small = a.small;
    used = a.used;
    one_cell = a.one_cell;
    order = a.order;
    wait = λ x c. a.wait x (Contains-append_left rest (face ∷ []) x c);
    closed = λ h j joins is. elim (a.closed h j joins is) [
      | inl p ↦ elim p.1 [
        | inl w ↦ elim (Contains-push_cases rest face (h / 3) w) [ inl c ↦ inl (p.0, inl c) | inr e ↦ inl (p.0, inr (omega (arith, e), omega (arith, e))) ]
        | inr r ↦ let l = r.1 in absurd (omega (arith, l))
      ]
      | inr c ↦ inr c
    ];
  }

  -- its half-edges are all crossed
  pub face_done : (n k m : ℕ) (numbers : List (Option ℕ)) (waiting : List ℕ) (to : ℕ) → AreNumbered d t n k m numbers waiting to to → AreNumbered d t n k m numbers waiting 0 0
  face_done n k m numbers waiting to a = record {
    long = a.long;
    below = a.below;
    small = a.small;
    used = a.used;
    one_cell = a.one_cell;
    order = a.order;
    wait = a.wait;
    closed = λ h j joins is. elim (a.closed h j joins is) [
      | inl p ↦ elim p.1 [ inl w ↦ inl (p.0, inl w) | inr r ↦ let l = r.0 in let g = r.1 in absurd (omega (arith, l, g)) ]
      | inr c ↦ inr c
    ];
  }
