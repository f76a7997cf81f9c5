-- The search for cells, from its beginning to its end: each cell is numbered from its first face.
use Rattle.std.proofs.Common.{◌≡◌, inl, inr, ℕ, ◌+◌, ◌-◌, ◌*◌, ◌/◌, ◌<◌, Bool, true, false, eqb, Option, Some, None, List, [], ◌∷◌, ◌++◌, length, get_or, set, replicate, take, count_by, sym, ap, ◌∙◌, refl, subst, arith}
use Rattle.std.proofs.lemmas.Bool.{cases_lt, eqb-true, eq-eqb}
use Rattle.std.proofs.lemmas.List.{append-nil, get_or_default, get_or_past, get_or-replicate, get_or-set_same, length-append, length-replicate}
use Rattle.std.proofs.lemmas.List.Elements.{Contains-push}
use Rattle.std.specs.List.{Contains}
use Rattle.std.specs.Option.{is_none, is_some}
use Rattle.fs_quadratic.specs.Radicand.{IsRadicand}
use Rattle.fs_quadratic.specs.Ring.{quadratic, IsPositive, zero}
use Rattle.fs_triangles.specs.Triangles.{AreTriangles}
use Rattle.fs_gluing.specs.Triangulation.{Triangulation, face_sides, edge_twin}
use Rattle.fs_mesh.specs.Meshes.{edge_circle}
use Rattle.fs_mesh.proofs.HalfEdgeNumbers.{side_of_number}
use Rattle.fs_delaunay.specs.Cells.{AreJoined}
use Rattle.fs_delaunay.specs.CellNumbers.{number_of, JoinsFaces, AreNumbered, GetNumbers, AreCellNumbers}
use Rattle.fs_delaunay.proofs.CellJoins.{one_cell_across, twin_joins}
use Rattle.fs_delaunay.proofs.CellNumbers.{numbered_more, half_edge_crossed, face_taken, get_number}

none_in : (x : ℕ) → Contains [] x → ⊥
none_in x c = omega (arith, c.1)

-- a face has a number or none
pub number_there : (o : Option ℕ) → is_some o ≡ true → (j : ℕ) × (o ≡ Some j)
number_there None h = absurd (let same : false ≡ true = h in cc)
number_there (Some j) h = (j, refl)

pub number_missing : (o : Option ℕ) → is_some o ≡ false → o ≡ None
number_missing None h = refl
number_missing (Some j) h = absurd (let same : true ≡ false = h in cc)

replicate_none : (n x : ℕ) → number_of (replicate n None) x ≡ None
replicate_none n x = elim (cases_lt x n) [
  | inl l ↦ get_or-replicate n x None None l
  | inr past ↦ get_or_past (replicate n None) x None (let none : Option ℕ = None in omega (arith, past, length-replicate n none))
]

-- the test whether a number is j
has_number : ℕ → Option ℕ → Bool
has_number j None = false
has_number j (Some i) = eqb i j

has_number_true : (j : ℕ) (o : Option ℕ) → o ≡ Some j → has_number j o ≡ true
unfolding has_number
has_number_true j o e = ap (has_number j) e ∙ eq-eqb j j refl

number_of_test : (j : ℕ) (o : Option ℕ) → has_number j o ≡ true → o ≡ Some j
unfolding has_number
number_of_test j None h = absurd (let same : false ≡ true = h in cc)
number_of_test j (Some i) h = ap (λ n. Some n) (eqb-true i j h)

same_test : (a b : Bool) → (a ≡ true → b ≡ true) → (b ≡ true → a ≡ true) → a ≡ b
same_test true b to from = sym (to refl)
same_test false true to from = from refl
same_test false false to from = refl

module _ {d : ℕ} {t : Triangulation} where
  -- no face has a number at first
  pub numbered_none : (n : ℕ) → 3 * n ≡ length t.vectors → AreNumbered d t 0 0 0 (replicate n None) [] 0 0
  numbered_none n e =
      let never : (x j : ℕ) → number_of (replicate n None) x ≡ Some j → ⊥ = λ x j h. (let both : None ≡ Some j = sym (replicate_none n x) ∙ h in cc) in
      record {
        long = let none : Option ℕ = None in ap (λ i. 3 * i) (length-replicate n none) ∙ e;
        below = λ x l. absurd (omega (arith, l));
        small = λ x j h. absurd (never x j h);
        used = λ i l. absurd (omega (arith, l));
        one_cell = λ x y j h. absurd (never x j h);
        order = λ x j i h. absurd (never x j h);
        wait = λ x c. absurd (none_in x c);
        closed = λ h j joins is. absurd (never (h / 3) j is);
      }

  -- the first face of a cell gets its number
  pub cell_begun : (n k : ℕ) (numbers : List (Option ℕ)) → AreNumbered d t n k k numbers [] 0 0 → n < length numbers → number_of numbers n ≡ None → AreNumbered d t n k (k + 1) (set numbers n (Some k)) (n ∷ []) 0 0
  cell_begun n k numbers a there fresh = numbered_more n k k numbers [] 0 0 n a there fresh (omega arith) (λ x h. let l = a.small x k h in absurd (omega (arith, l)))

  -- no face waits any more: the cell is numbered
  pub cell_ended : (n k : ℕ) (numbers : List (Option ℕ)) (waiting : List ℕ) → AreNumbered d t n k (k + 1) numbers waiting 0 0 → number_of numbers n ≡ Some k → waiting ≡ []
      → AreNumbered d t (n + 1) (k + 1) (k + 1) numbers [] 0 0
  cell_ended n k numbers waiting a first none = record {
    long = a.long;
    below = λ x l. elim (cases_lt x n) [ inl b ↦ a.below x b | inr past ↦ let e : n ≡ x = omega (arith, l, past) in (k, subst (λ y. number_of numbers y ≡ Some k) e first) ];
    small = a.small;
    used = λ i l. elim (cases_lt i k) [
      | inl b ↦ let r = a.used i b in let before = r.1 in (r.0, omega (arith, before), r.2)
      | inr past ↦ let e : k ≡ i = omega (arith, l, past) in (n, omega arith, first ∙ ap (λ j. Some j) e)
    ];
    one_cell = a.one_cell;
    order = a.order;
    wait = λ x c. absurd (none_in x c);
    closed = λ h j joins is. elim (a.closed h j joins is) [
      | inl p ↦ elim p.1 [ inl w ↦ absurd (none_in (h / 3) (subst (λ ws. Contains ws (h / 3)) none w)) | inr r ↦ let l = r.1 in absurd (omega (arith, l)) ]
      | inr c ↦ inr c
    ];
  }

  -- a face that has a number is passed
  pub face_passed : (n k j : ℕ) (numbers : List (Option ℕ)) → AreNumbered d t n k k numbers [] 0 0 → number_of numbers n ≡ Some j → AreNumbered d t (n + 1) k k numbers [] 0 0
  face_passed n k j numbers a first = record {
    long = a.long;
    below = λ x l. elim (cases_lt x n) [ inl b ↦ a.below x b | inr past ↦ let e : n ≡ x = omega (arith, l, past) in (j, subst (λ y. number_of numbers y ≡ Some j) e first) ];
    small = a.small;
    used = λ i l. let r = a.used i l in let before = r.1 in (r.0, omega (arith, before), r.2);
    one_cell = a.one_cell;
    order = a.order;
    wait = a.wait;
    closed = a.closed;
  }

  module _ (radicand : IsRadicand d) (triangles : AreTriangles (quadratic d) (IsPositive d) (face_sides t)) where
    -- across an edge that joins, a face that has a number has that of this one, or this face waits
    pub seen_across : (n k m : ℕ) (numbers : List (Option ℕ)) (waiting : List ℕ) (h to i : ℕ) → AreNumbered d t n k m numbers waiting h to → number_of numbers (h / 3) ≡ Some k
        → number_of numbers (edge_twin t h / 3) ≡ Some i → JoinsFaces d t h → number_of numbers (edge_twin t h / 3) ≡ Some k
    seen_across n k m numbers waiting h to i a here there joins =
        elim (a.closed (edge_twin t h) i (twin_joins t triangles radicand h joins) there) [
          | inl p ↦ there ∙ ap (λ j. Some j) p.0
          | inr c ↦ there ∙ sym c ∙ ap (λ g. number_of numbers (g / 3)) (triangles.twin_twin h (side_of_number t h joins.there)) ∙ here
        ]

    -- the numbers are those of the cells, once no half-edge is pending
    pub numbers_done : (n k m : ℕ) (numbers : List (Option ℕ)) → AreNumbered d t n k m numbers [] 0 0 → n ≡ length numbers → AreCellNumbers d t numbers
    numbers_done n k m numbers a all =
        let across : (h j : ℕ) → JoinsFaces d t h → number_of numbers (h / 3) ≡ Some j → number_of numbers (edge_twin t h / 3) ≡ Some j = λ h j joins is. elim (a.closed h j joins is) [
          | inl p ↦ elim p.1 [ inl w ↦ absurd (none_in (h / 3) w) | inr r ↦ let l = r.1 in absurd (omega (arith, l)) ]
          | inr c ↦ c
        ] in
        let back : (h j : ℕ) → JoinsFaces d t h → number_of numbers (edge_twin t h / 3) ≡ Some j → number_of numbers (h / 3) ≡ Some j = λ h j joins is.
        ap (λ g. number_of numbers (g / 3)) (sym (triangles.twin_twin h (side_of_number t h joins.there))) ∙ across (edge_twin t h) j (twin_joins t triangles radicand h joins) is in
        let step : (j u v : ℕ) → AreJoined d t u v → has_number j (number_of numbers u) ≡ has_number j (number_of numbers v) = λ j u v w.
        let joins : JoinsFaces d t w.half_edge = record { there = w.side.there; zero = w.zero } in
        subst (λ x. has_number j (number_of numbers x) ≡ has_number j (number_of numbers v)) w.side.of
        (subst (λ y. has_number j (number_of numbers (w.half_edge / 3)) ≡ has_number j (number_of numbers y)) w.twin.of
        (same_test (has_number j (number_of numbers (w.half_edge / 3))) (has_number j (number_of numbers (edge_twin t w.half_edge / 3)))
        (λ h. has_number_true j (number_of numbers (edge_twin t w.half_edge / 3)) (across w.half_edge j joins (number_of_test j (number_of numbers (w.half_edge / 3)) h)))
        (λ h. has_number_true j (number_of numbers (w.half_edge / 3)) (back w.half_edge j joins (number_of_test j (number_of numbers (edge_twin t w.half_edge / 3)) h))))) in
        record {
          long = a.long;
          each = λ x l. a.below x (omega (arith, l, all));
          one_cell = a.one_cell;
          one_number = λ x y j is one.
              number_of_test j (number_of numbers y) (sym (one (λ z. has_number j (number_of numbers z)) (step j)) ∙ has_number_true j (number_of numbers x) is);
          order = a.order;
        }

-- ---- the steps of the search

module _ {d : ℕ} {t : Triangulation} where
  -- the search of a cell before its loop
  pub search_starts : (n k : ℕ) (numbers : List (Option ℕ)) (none waiting : List ℕ) → AreNumbered d t n k k numbers [] 0 0 → n < length numbers → number_of numbers n ≡ None → none ≡ [] → waiting ≡ none ++ n ∷ []
      → AreNumbered d t n k (k + 1) (set numbers n (Some k)) waiting 0 0 × (number_of (set numbers n (Some k)) n ≡ Some k)
  search_starts n k numbers none waiting a there fresh none_is waiting_is = (
    subst (λ w. AreNumbered d t n k (k + 1) (set numbers n (Some k)) w 0 0) (sym (waiting_is ∙ ap (λ w. w ++ n ∷ []) none_is)) (cell_begun n k numbers a there fresh),
    get_or-set_same numbers n (Some k) None there,
  )

  -- the face that waits last has the cell's number
  pub waiting_numbered : (n k m : ℕ) (numbers : List (Option ℕ)) (waiting rest : List ℕ) (face : ℕ) → waiting ≡ rest ++ face ∷ [] → AreNumbered d t n k m numbers waiting 0 0 → number_of numbers face ≡ Some k
  waiting_numbered n k m numbers waiting rest face is a = a.wait face (subst (λ w. Contains w face) (sym is) (Contains-push rest face))

  -- the face that waits last is visited
  pub search_more : (n k face : ℕ) (numbers more : List (Option ℕ)) (waiting rest longer : List ℕ) → waiting ≡ rest ++ face ∷ [] → AreNumbered d t n k (k + 1) numbers waiting 0 0 → number_of numbers n ≡ Some k
      → GetNumbers numbers more rest longer → ((n : ℕ) → AreNumbered d t n k (k + 1) numbers rest (3 * face) (3 * face + 3) → AreNumbered d t n k (k + 1) more longer 0 0)
      → AreNumbered d t n k (k + 1) more longer 0 0 × (number_of more n ≡ Some k)
  search_more n k face numbers more waiting rest longer is a first get visited = (
    visited n (face_taken n k (k + 1) numbers rest face (subst (λ w. AreNumbered d t n k (k + 1) numbers w 0 0) is a)),
    get.kept n k first,
  )

  -- no face waits any more
  pub search_ends : (n k m : ℕ) (numbers : List (Option ℕ)) (waiting rest : List ℕ) → waiting ≡ rest ++ [] → rest ≡ take (m - 1) waiting → m ≡ 0 → AreNumbered d t n k (k + 1) numbers waiting 0 0
      → number_of numbers n ≡ Some k → AreNumbered d t (n + 1) (k + 1) (k + 1) numbers [] 0 0
  search_ends n k m numbers waiting rest is rest_is none a first = cell_ended n k numbers waiting a first (is ∙ append-nil rest ∙ rest_is ∙ ap (λ i. take (i - 1) waiting) none)

  module _ (radicand : IsRadicand d) (triangles : AreTriangles (quadratic d) (IsPositive d) (face_sides t)) where
    -- the edge of the half-edge doesn't join its faces
    pub crossed_apart : (n k m : ℕ) (numbers : List (Option ℕ)) (waiting : List ℕ) (h to : ℕ) → ¬ (edge_circle d t h ≡ zero) → AreNumbered d t n k m numbers waiting h to → AreNumbered d t n k m numbers waiting (h + 1) to
    crossed_apart n k m numbers waiting h to apart a = half_edge_crossed n k m numbers waiting h to a (λ j joins. absurd (apart joins.zero))

    -- the face across it has a number
    pub crossed_seen : (n k m i : ℕ) (numbers : List (Option ℕ)) (waiting : List ℕ) (h to : ℕ) → number_of numbers (h / 3) ≡ Some k → number_of numbers (edge_twin t h / 3) ≡ Some i
        → AreNumbered d t n k m numbers waiting h to → AreNumbered d t n k m numbers waiting (h + 1) to
    crossed_seen n k m i numbers waiting h to here there a =
        half_edge_crossed n k m numbers waiting h to a
        (λ j joins is. seen_across radicand triangles n k m numbers waiting h to i a here there joins ∙ sym here ∙ is)

    -- it has none, and gets this one
    pub crossed_new : (n k : ℕ) (numbers : List (Option ℕ)) (waiting : List ℕ) (h to : ℕ) → JoinsFaces d t h → number_of numbers (h / 3) ≡ Some k → edge_twin t h / 3 < length numbers
        → number_of numbers (edge_twin t h / 3) ≡ None → AreNumbered d t n k (k + 1) numbers waiting h to
        → AreNumbered d t n k (k + 1) (set numbers (edge_twin t h / 3) (Some k)) (waiting ++ (edge_twin t h / 3) ∷ []) (h + 1) to
    crossed_new n k numbers waiting h to joins here there fresh a =
        let y = edge_twin t h / 3 in
        let more = numbered_more n k (k + 1) numbers waiting h to y a there fresh (omega arith) (λ x is. one_cell_across t triangles x h (a.one_cell x (h / 3) k is here) joins) in
        let kept = (get_number numbers y k there fresh waiting).kept (h / 3) k here in
        half_edge_crossed n k (k + 1) (set numbers y (Some k)) (waiting ++ y ∷ []) h to more (λ j again is. get_or-set_same numbers y (Some k) None there ∙ sym kept ∙ is)

    -- the same where the twin is read
    pub crossed_new_at : (n k : ℕ) (numbers : List (Option ℕ)) (waiting longer : List ℕ) (h to twin : ℕ) → twin ≡ edge_twin t h → JoinsFaces d t h → number_of numbers (h / 3) ≡ Some k → twin / 3 < length numbers
        → number_of numbers (twin / 3) ≡ None → longer ≡ waiting ++ (twin / 3) ∷ [] → AreNumbered d t n k (k + 1) numbers waiting h to
        → AreNumbered d t n k (k + 1) (set numbers (twin / 3) (Some k)) longer (h + 1) to
    crossed_new_at n k numbers waiting longer h to twin is joins here there fresh longer_is a =
        subst (λ w. AreNumbered d t n k (k + 1) (set numbers (twin / 3) (Some k)) w (h + 1) to) (sym longer_is)
        (subst (λ g. g / 3 < length numbers → number_of numbers (g / 3) ≡ None → AreNumbered d t n k (k + 1) (set numbers (g / 3) (Some k)) (waiting ++ (g / 3) ∷ []) (h + 1) to) (sym is)
        (λ l f. crossed_new n k numbers waiting h to joins here l f a) there fresh)

-- a number that is read at its index
pub number_read : (numbers : List (Option ℕ)) (x : ℕ) (o : Option ℕ) → x < length numbers → o ≡ get_or numbers x o → number_of numbers x ≡ o
number_read numbers x o there read = get_or_default numbers x None o there ∙ sym read

-- the face across a half-edge is there
pub face_across_below : (t : Triangulation) (numbers : List (Option ℕ)) (twin : ℕ) → 3 * length numbers ≡ length t.vectors → twin < length t.vectors → twin / 3 < length numbers
face_across_below t numbers twin long l = omega (arith, long, l)

-- a visit lowers the number of faces that wait plus that of faces without a number
pub search_falls : (face : ℕ) (numbers more : List (Option ℕ)) (waiting rest longer : List ℕ) → waiting ≡ rest ++ face ∷ [] → GetNumbers numbers more rest longer
    → length longer + count_by is_none more < length waiting + count_by is_none numbers
search_falls face numbers more waiting rest longer is get = let count = get.count in omega (arith, count, ap length is, length-append rest (face ∷ []))

-- a face before the end is there
pub numbers_below_end : {d : ℕ} {t : Triangulation} (n k m faces x : ℕ) (numbers : List (Option ℕ)) → AreNumbered d t n k m numbers [] 0 0 → 3 * faces ≡ length t.vectors → x < faces → x < length numbers
numbers_below_end n k m faces x numbers a e l = let long = a.long in omega (arith, long, e, l)
