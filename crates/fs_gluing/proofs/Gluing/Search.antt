-- The search through glued sides marks the polygons that are reached from polygon 0.
use Rattle.std.proofs.Common.{◌≡◌, ◌↔◌, ◌⊎◌, inl, inr, ℕ, ◌+◌, ◌-◌, ◌<◌, Bool, true, false, not, cond, List, [], ◌∷◌, ◌++◌, Some, length, take, get_or, set, replicate, count_by, sym, ap, ◌∙◌, refl, subst, arith}
use Rattle.std.proofs.lemmas.Bool.{cases_lt, cases_eq}
use Rattle.std.proofs.lemmas.List.{append-nil, get_or_default, get_or_past, get_or-set_same, get_or-set_other, get_or-replicate, length-map, length-replicate, length-set, length-append, take_more, map-append}
use Rattle.std.proofs.lemmas.List.Elements.{All-from_recursion, All-get_or, Contains-append_left, Contains-push, Contains-push_cases}
use Rattle.std.proofs.lemmas.List.Sums.{sum_by-set}
use Rattle.std.proofs.lemmas.Option.{slice_get-map, slice_get_within, get_or_from_slice_get, slice_get_cases, slice_get_read}
use Rattle.std.specs.Bool.{IsTrue}
use Rattle.std.specs.Option.{option_map, option_and_then}
use Rattle.std.specs.List.{AllByRecursion, Contains, slice_get, range_with_len}
use Rattle.fs_lists.proofs.All.{All-of_each}
use Rattle.fs_lists.proofs.Ranges.{range_more}
use Rattle.fs_plane.specs.declared.corners.Corner.{Corner}
use Rattle.fs_gluing.specs.declared.surfaces.Side.{Side}
use Rattle.fs_gluing.specs.declared.faults.Fault.TheVariants.{Apart}
use Rattle.fs_gluing.specs.declared.faults.BuildStop.TheVariants.{Fault}
use Rattle.fs_gluing.specs.TestsInOrder.{PassesBefore, IsFirstStop}
use Rattle.fs_gluing.specs.FirstFault.{stop_of}
use Rattle.fs_gluing.specs.FirstFault.Test.{polygon_reached}
use Rattle.fs_gluing.specs.SearchMarks.{IsMarked, MarksPolygons, AreReachedMarks, partner_polygons}
use Rattle.fs_gluing.specs.Polygons.{at_side}
use Rattle.fs_gluing.specs.Reached.{IsReached}
use Rattle.fs_gluing.specs.Surface.{AreNeighbours, IsGlued}
use Rattle.fs_gluing.proofs.Base.TestsInOrder.{passes_before_none, passes_before_more, passes_before_same, first_stop_of_rest, first_stop_of_head}
use Rattle.fs_gluing.proofs.SurfaceCalls.NextCorner.{in_polygon_at}

bool_cases : (b : Bool) → IsTrue b ⊎ (¬ IsTrue b)
bool_cases true = inl refl
bool_cases false = inr (λ h. cc)

marked_cases : (marks : List Bool) (k : ℕ) → IsMarked marks k ⊎ (¬ IsMarked marks k)
marked_cases marks k = bool_cases (get_or marks k false)

marked_within : (marks : List Bool) (k : ℕ) → IsMarked marks k → k < length marks
marked_within marks k h = elim (cases_lt k (length marks)) [ inl l ↦ l | inr past ↦ absurd (let e : false ≡ true = sym (get_or_past marks k false past) ∙ h in cc) ]

-- ---- the sides of one polygon

not_in_none : (k : ℕ) → Contains [] k → ⊥
not_in_none k c = omega (arith, c.1)

marks_seen : (ks : List ℕ) (k : ℕ) (marks more : List Bool) (waiting longer : List ℕ) → MarksPolygons ks marks more waiting longer → IsMarked more k → MarksPolygons (ks ++ k ∷ []) marks more waiting longer
marks_seen ks k marks more waiting longer m seen = record {
  long = m.long;
  marked = λ j. (
    (λ h. elim ((m.marked j).0 h) [ inl a ↦ inl a | inr c ↦ inr (Contains-append_left ks (k ∷ []) j c) ]),
    (λ h. elim h [
      | inl a ↦ (m.marked j).1 (inl a)
      | inr c ↦ elim (Contains-push_cases ks k j c) [ inl d ↦ (m.marked j).1 (inr d) | inr e ↦ subst (IsMarked more) e seen ]
    ]),
  );
  wait = m.wait;
  count = m.count;
}

-- one more mark
set_marked : (marks : List Bool) (k j : ℕ) → k < length marks → IsMarked (set marks k true) j ↔ (IsMarked marks j ⊎ (k ≡ j))
set_marked marks k j l =
    let here : k ≡ j → IsMarked (set marks k true) j = λ e. subst (IsMarked (set marks k true)) e (get_or-set_same marks k true false l) in
    let other : (k ≡ j → ⊥) → get_or (set marks k true) j false ≡ get_or marks j false = λ n. get_or-set_other marks k j true false (λ e. n (sym e)) in (
      (λ h. elim (cases_eq k j) [ inl e ↦ inr e | inr n ↦ inl (sym (other n) ∙ h) ]),
      (λ h. elim h [ inl m ↦ elim (cases_eq k j) [ inl e ↦ here e | inr n ↦ other n ∙ m ] | inr e ↦ here e ]),
    )

false_unless : (b : Bool) → ¬ IsTrue b → b ≡ false
false_unless true h = absurd (h refl)
false_unless false h = refl

-- 1 for a mark that is not set
abbrev weight : Bool → ℕ
weight b = cond (not b) 1 0

count_set : (marks : List Bool) (k : ℕ) → k < length marks → ¬ IsMarked marks k → count_by not (set marks k true) + 1 ≡ count_by not marks
count_set marks k l h =
    let total = sum_by-set weight marks k true false l in
    omega (arith, total, ap (λ b. weight b) (false_unless (get_or marks k false) h))

marks_new : (ks : List ℕ) (k : ℕ) (marks more : List Bool) (waiting longer : List ℕ) → MarksPolygons ks marks more waiting longer → k < length more → ¬ IsMarked more k
    → MarksPolygons (ks ++ k ∷ []) marks (set more k true) waiting (longer ++ k ∷ [])
marks_new ks k marks more waiting longer m l fresh =
    let now : (j : ℕ) → IsMarked (set more k true) j ↔ (IsMarked more j ⊎ (k ≡ j)) = λ j. set_marked more k j l in
    let unmarked : ¬ IsMarked marks k = λ a. fresh ((m.marked k).1 (inl a)) in
    record {
      long = length-set more k true ∙ m.long;
      marked = λ j. (
        (λ h. elim ((now j).0 h) [
          | inl a ↦ elim ((m.marked j).0 a) [ inl b ↦ inl b | inr c ↦ inr (Contains-append_left ks (k ∷ []) j c) ]
          | inr e ↦ inr (subst (Contains (ks ++ k ∷ [])) e (Contains-push ks k))
        ]),
        (λ h. elim h [
          | inl a ↦ (now j).1 (inl ((m.marked j).1 (inl a)))
          | inr c ↦ elim (Contains-push_cases ks k j c) [ inl d ↦ (now j).1 (inl ((m.marked j).1 (inr d))) | inr e ↦ (now j).1 (inr e) ]
        ]),
      );
      wait = λ j. (
        (λ h. elim (Contains-push_cases longer k j h) [
          | inl c ↦ elim ((m.wait j).0 c) [ inl a ↦ inl a | inr p ↦ inr ((now j).1 (inl p.0), p.1) ]
          | inr e ↦ inr ((now j).1 (inr e), subst (λ i. ¬ IsMarked marks i) e unmarked)
        ]),
        (λ h. elim h [
          | inl a ↦ Contains-append_left longer (k ∷ []) j ((m.wait j).1 (inl a))
          | inr p ↦ elim ((now j).0 p.0) [
            | inl b ↦ Contains-append_left longer (k ∷ []) j ((m.wait j).1 (inr (b, p.1)))
            | inr e ↦ subst (Contains (longer ++ k ∷ [])) e (Contains-push longer k)
          ]
        ]),
      );
      count = omega (arith, m.count, count_set more k l fresh, length-append longer (k ∷ []));
    }

-- the polygons of the partners of one more side
partners_more : (sides : List Side) (j : ℕ) (side : Side) → j < length sides → side ≡ get_or sides j side → partner_polygons (take (j + 1) sides) ≡ partner_polygons (take j sides) ++ side.partner.polygon ∷ []
partners_more sides j side l is =
    ap partner_polygons (take_more sides j side l)
    ∙ map-append (λ (s : Side). s.partner.polygon) (take j sides) (get_or sides j side ∷ [])
    ∙ ap (λ (s : Side). partner_polygons (take j sides) ++ s.partner.polygon ∷ []) (sym is)

side_inside : (n : ℕ) (sides : List Side) (j : ℕ) (side : Side) → AllByRecursion (λ side. side.partner.polygon < n) sides → j < length sides → side ≡ get_or sides j side → side.partner.polygon < n
side_inside n sides j side inside l is =
    let P : Side → Type 0 = λ side. side.partner.polygon < n in
    subst P (sym is) (All-get_or P sides j side l (All-from_recursion P sides inside))

-- ---- side j is visited after the sides before it; b is the mark of the polygon that its partner is in

-- the polygon was marked before: nothing changes
pub visit_seen : (sides : List Side) (j : ℕ) (side : Side) (marks before more : List Bool) (waiting longer longest : List ℕ) (b : Bool) → AllByRecursion (λ side. side.partner.polygon < length marks) sides
    → j < length sides → side ≡ get_or sides j side → MarksPolygons (partner_polygons (take j sides)) marks before waiting longer → b ≡ get_or before side.partner.polygon b → b ≡ true
    → more ≡ before → longest ≡ longer → MarksPolygons (partner_polygons (take (j + 1) sides)) marks more waiting longest
visit_seen sides j side marks before more waiting longer longest b inside l is m read seen is_more is_longest =
    let k_inside : side.partner.polygon < length before = omega (arith, m.long, side_inside (length marks) sides j side inside l is) in
    subst (λ ks. MarksPolygons ks marks more waiting longest) (sym (partners_more sides j side l is))
    (subst (λ bs. MarksPolygons (partner_polygons (take j sides) ++ side.partner.polygon ∷ []) marks bs waiting longest) (sym is_more)
    (subst (λ ws. MarksPolygons (partner_polygons (take j sides) ++ side.partner.polygon ∷ []) marks before waiting ws) (sym is_longest)
    (marks_seen (partner_polygons (take j sides)) side.partner.polygon marks before waiting longer m
    (get_or_default before side.partner.polygon false b k_inside ∙ sym read ∙ seen))))

-- the polygon wasn't marked: it becomes marked and waits
pub visit_new : (sides : List Side) (j : ℕ) (side : Side) (marks before more : List Bool) (waiting longer longest : List ℕ) (b : Bool) → AllByRecursion (λ side. side.partner.polygon < length marks) sides
    → j < length sides → side ≡ get_or sides j side → MarksPolygons (partner_polygons (take j sides)) marks before waiting longer → b ≡ get_or before side.partner.polygon b → b ≡ false
    → more ≡ set before side.partner.polygon true → longest ≡ longer ++ side.partner.polygon ∷ [] → MarksPolygons (partner_polygons (take (j + 1) sides)) marks more waiting longest
visit_new sides j side marks before more waiting longer longest b inside l is m read unseen is_more is_longest =
    let k_inside : side.partner.polygon < length before = omega (arith, m.long, side_inside (length marks) sides j side inside l is) in
    let unmarked : get_or before side.partner.polygon false ≡ false = get_or_default before side.partner.polygon false b k_inside ∙ sym read ∙ unseen in
    subst (λ ks. MarksPolygons ks marks more waiting longest) (sym (partners_more sides j side l is))
    (subst (λ bs. MarksPolygons (partner_polygons (take j sides) ++ side.partner.polygon ∷ []) marks bs waiting longest) (sym is_more)
    (subst (λ ws. MarksPolygons (partner_polygons (take j sides) ++ side.partner.polygon ∷ []) marks (set before side.partner.polygon true) waiting ws) (sym is_longest)
    (marks_new (partner_polygons (take j sides)) side.partner.polygon marks before waiting longer m k_inside
    (λ h. let both : false ≡ true = sym unmarked ∙ h in cc))))

-- ---- all polygons

-- the marked polygons are reached, those that wait among them, and the neighbours of the others are marked
pub record Searches (polygons : List (List Side)) (marks : List Bool) (waiting : List ℕ) : Type 0 where
  pub long : length marks ≡ length polygons
  pub first : IsMarked marks 0
  pub reached : (k : ℕ) → IsMarked marks k → IsReached (AreNeighbours polygons) k
  pub wait : (k : ℕ) → Contains waiting k → IsMarked marks k
  pub closed : (k j : ℕ) → IsMarked marks k → AreNeighbours polygons k j → Contains waiting k ⊎ IsMarked marks j

replicate_unmarked : (n k : ℕ) → get_or (replicate n false) k false ≡ false
replicate_unmarked n k = elim (cases_lt k n) [
  | inl l ↦ get_or-replicate n k false false l
  | inr past ↦ get_or_past (replicate n false) k false (omega (arith, past, length-replicate n false))
]

marks_first : (n k : ℕ) → IsMarked (set (replicate n false) 0 true) k → 0 ≡ k
marks_first n k h = elim (cases_eq 0 k) [
  | inl e ↦ e
  | inr other ↦ absurd (let both : false ≡ true = sym (replicate_unmarked n k) ∙ sym (get_or-set_other (replicate n false) 0 k true false (λ e. other (sym e))) ∙ h in cc)
]

-- at first polygon 0 is marked and waits
search_none : (polygons : List (List Side)) (n : ℕ) → n ≡ length polygons → 0 < n → Searches polygons (set (replicate n false) 0 true) (0 ∷ [])
search_none polygons n is some =
    let first : IsMarked (set (replicate n false) 0 true) 0 = get_or-set_same (replicate n false) 0 true false (omega (arith, some, length-replicate n false)) in
    record {
      long = length-set (replicate n false) 0 true ∙ length-replicate n false ∙ is;
      first = first;
      reached = λ k h. subst (IsReached (AreNeighbours polygons)) (marks_first n k h) (λ held at_0 step. at_0);
      wait = λ k c. elim (Contains-push_cases [] 0 k c) [ inl none ↦ absurd (not_in_none k none) | inr e ↦ subst (IsMarked (set (replicate n false) 0 true)) e first ];
      closed = λ k j h step. inl (subst (Contains (0 ∷ [])) (marks_first n k h) (Contains-push [] 0));
    }

-- the polygon that a side is glued to
abbrev partner_polygon : Side → ℕ
partner_polygon side = side.partner.polygon

-- ---- the neighbours of a polygon are those that the partners of its sides are in

neighbour_listed : (polygons : List (List Side)) (k j : ℕ) (polygon : List Side) → slice_get polygons k ≡ Some polygon → AreNeighbours polygons k j → Contains (partner_polygons polygon) j
neighbour_listed polygons k j polygon there n =
    let at : slice_get polygon n.corner.side ≡ Some n.side =
    ap (option_and_then (λ (p : List Side). slice_get p n.corner.side)) (sym (ap (slice_get polygons) n.from ∙ there)) ∙ n.there in
    let listed : slice_get (partner_polygons polygon) n.corner.side ≡ Some n.side.partner.polygon = slice_get-map partner_polygon polygon n.corner.side ∙ ap (option_map partner_polygon) at in
    (n.corner.side, slice_get_within _ _ _ listed, get_or_from_slice_get (partner_polygons polygon) n.corner.side n.side.partner.polygon j listed ∙ n.to)

listed_neighbour : (polygons : List (List Side)) (k j : ℕ) (polygon : List Side) → slice_get polygons k ≡ Some polygon → Contains (partner_polygons polygon) j → AreNeighbours polygons k j
listed_neighbour polygons k j polygon there c = elim (slice_get_cases polygon c.0).1 [
  | inl a ↦ record {
    corner = record { polygon = k; side = c.0 };
    side = a.0;
    there = ap (option_and_then (λ (p : List Side). slice_get p c.0)) there ∙ a.2;
    from = refl;
    to = sym (get_or_from_slice_get (partner_polygons polygon) c.0 (partner_polygon a.0) j (slice_get-map partner_polygon polygon c.0 ∙ ap (option_map partner_polygon) a.2)) ∙ c.2;
  }
  | inr past ↦ absurd (omega (arith, past.0, c.1, length-map polygon partner_polygon))
]

-- the polygon that waits last is visited
pub search_more : (polygons : List (List Side)) (k : ℕ) (polygon : List Side) (marks more : List Bool) (waiting rest longer : List ℕ) → slice_get polygons k ≡ Some polygon
    → waiting ≡ rest ++ k ∷ [] → Searches polygons marks waiting → MarksPolygons (partner_polygons polygon) marks more rest longer → Searches polygons more longer
search_more polygons k polygon marks more waiting rest longer there is s m =
    let t : Searches polygons marks (rest ++ k ∷ []) = subst (Searches polygons marks) is s in
    record {
      long = m.long ∙ t.long;
      first = (m.marked 0).1 (inl t.first);
      reached = λ j h. elim ((m.marked j).0 h) [
        | inl a ↦ t.reached j a
        | inr c ↦ λ held at_0 step. step k j (listed_neighbour polygons k j polygon there c) (t.reached k (t.wait k (Contains-push rest k)) held at_0 step)
      ];
      wait = λ j c. elim ((m.wait j).0 c) [ inl a ↦ (m.marked j).1 (inl (t.wait j (Contains-append_left rest (k ∷ []) j a))) | inr p ↦ p.0 ];
      closed = λ i j h step. elim (marked_cases marks i) [
        | inl a ↦ elim (t.closed i j a step) [
          | inl c ↦ elim (Contains-push_cases rest k i c) [
            | inl d ↦ inl ((m.wait i).1 (inl d))
            | inr e ↦ inr ((m.marked j).1 (inr (neighbour_listed polygons k j polygon there (subst (λ n. AreNeighbours polygons n j) (sym e) step))))
          ]
          | inr b ↦ inr ((m.marked j).1 (inl b))
        ]
        | inr fresh ↦ inl ((m.wait i).1 (inr (h, fresh)))
      ];
    }

none_waits : (waiting rest : List ℕ) (n : ℕ) → waiting ≡ rest ++ [] → rest ≡ take (n - 1) waiting → n ≡ 0 → waiting ≡ []
none_waits waiting rest n is rest_is none = is ∙ append-nil rest ∙ rest_is ∙ ap (λ m. take (m - 1) waiting) none

-- where none waits, the marked ones are closed under steps
pub search_all : (polygons : List (List Side)) (marks : List Bool) (waiting rest : List ℕ) (n : ℕ) → waiting ≡ rest ++ [] → rest ≡ take (n - 1) waiting → n ≡ 0 → Searches polygons marks waiting → AreReachedMarks polygons marks
search_all polygons marks waiting rest n is rest_is none s =
    let empty = none_waits waiting rest n is rest_is none in
    record {
      long = s.long;
      exact = λ k. (
        s.reached k,
        (λ r. r (λ j. get_or marks j false) s.first
            (λ i j step held. elim (s.closed i j held step) [ inl c ↦ absurd (not_in_none i (subst (λ w. Contains w i) empty c)) | inr h ↦ h ])),
      );
    }

-- the partners of a polygon's sides are in polygons that exist
pub partners_inside : (polygons : List (List Side)) (k : ℕ) (polygon : List Side) (n : ℕ) → slice_get polygons k ≡ Some polygon → n ≡ length polygons
    → ((c : Corner) (side : Side) → at_side polygons c ≡ Some side → IsGlued polygons c side) → AllByRecursion (λ side. side.partner.polygon < n) polygon
partners_inside polygons k polygon n there is glued =
    All-of_each (λ side. side.partner.polygon < n) polygon (λ j side at.
    let c : Corner = record { polygon = k; side = j } in
    let back = (glued c side (ap (option_and_then (λ (p : List Side). slice_get p j)) there ∙ at)).back in
    let s = in_polygon_at polygons side.partner _ back in
    omega (arith, is, slice_get_within polygons side.partner.polygon s.polygon s.is))

-- ---- the steps of the loop

-- the search before its loop
pub search_begins : (polygons : List (List Side)) (n : ℕ) (marks : List Bool) (none waiting : List ℕ) → marks ≡ replicate n false → n ≡ length polygons → 0 < length polygons
    → none ≡ [] → waiting ≡ none ++ 0 ∷ [] → Searches polygons (set marks 0 true) waiting
search_begins polygons n marks none waiting marks_are is some none_is waiting_is =
    subst (λ w. Searches polygons (set marks 0 true) w) (sym (waiting_is ∙ ap (λ w. w ++ 0 ∷ []) none_is))
    (subst (λ m. Searches polygons (set m 0 true) (0 ∷ [])) (sym marks_are) (search_none polygons n is (omega (arith, is, some))))

-- a polygon that waits exists
pub waits_inside : (polygons : List (List Side)) (k : ℕ) (marks : List Bool) (waiting rest : List ℕ) → waiting ≡ rest ++ k ∷ [] → Searches polygons marks waiting → k < length polygons
waits_inside polygons k marks waiting rest is s =
    let l = marked_within marks k (s.wait k (subst (λ w. Contains w k) (sym is) (Contains-push rest k))) in
    omega (arith, l, s.long)

-- the polygon that is read is the one that waits last
pub waiting_polygon : (polygons rows : List (List Side)) (k : ℕ) (item polygon : List Side) (marks : List Bool) (waiting rest : List ℕ) → waiting ≡ rest ++ k ∷ [] → Searches polygons marks waiting
    → rows ≡ polygons → item ≡ get_or rows k item → polygon ≡ item → slice_get polygons k ≡ Some polygon
waiting_polygon polygons rows k item polygon marks waiting rest is s same read polygon_is =
    slice_get_read polygons (length polygons) k item refl (waits_inside polygons k marks waiting rest is s) (read ∙ ap (λ ps. get_or ps k item) same) ∙ ap (λ p. Some p) (sym polygon_is)

-- a visit lowers the number of polygons that wait plus that of polygons without a mark
pub search_falls : (polygons : List ℕ) (k : ℕ) (marks more : List Bool) (waiting rest longer : List ℕ) → waiting ≡ rest ++ k ∷ [] → MarksPolygons polygons marks more rest longer
    → length longer + count_by not more < length waiting + count_by not marks
search_falls polygons k marks more waiting rest longer is m = omega (arith, m.count, ap length is, length-append rest (k ∷ []))

-- ---- the marks in the order of the polygons

-- the polygons before polygon i are reached
abbrev pub ReachesBefore : List (List Side) → ℕ → Type 0
ReachesBefore polygons i = PassesBefore (IsReached (AreNeighbours polygons)) (range_with_len 0 (length polygons)) (range_with_len i (length polygons - i))

-- no polygon comes before polygon 0
pub reached_none : (polygons : List (List Side)) → ReachesBefore polygons 0
reached_none polygons =
    let same : length polygons ≡ length polygons - 0 = omega arith in
    passes_before_none _ _ _ (ap (range_with_len 0) same)

next_reached : (polygons : List (List Side)) (marks : List Bool) (i : ℕ) → AreReachedMarks polygons marks → i < length marks → ReachesBefore polygons i
    → PassesBefore (IsReached (AreNeighbours polygons)) (range_with_len 0 (length polygons)) (i ∷ range_with_len (i + 1) (length polygons - (i + 1)))
next_reached polygons marks i m l before = passes_before_same _ _ _ _ (range_more i (length polygons) (omega (arith, l, m.long))) before

-- a marked polygon is reached
pub reached_more : (polygons : List (List Side)) (marks read : List Bool) (i : ℕ) → AreReachedMarks polygons marks → read ≡ marks → i < length read → IsMarked read i → ReachesBefore polygons i → ReachesBefore polygons (i + 1)
reached_more polygons marks read i m same l marked before =
    let n : AreReachedMarks polygons read = subst (AreReachedMarks polygons) (sym same) m in
    passes_before_more _ _ (i ∷ []) _ (next_reached polygons read i n l before) ((n.exact i).0 marked, tt)

-- polygon i is the first that isn't reached
pub apart_first : (polygons : List (List Side)) (marks read : List Bool) (i : ℕ) → AreReachedMarks polygons marks → read ≡ marks → i < length read → get_or read i false ≡ false → ReachesBefore polygons i
    → IsFirstStop (IsReached (AreNeighbours polygons)) (range_with_len 0 (length polygons)) (λ i. stop_of (polygon_reached i)) (Fault (Apart i))
apart_first polygons marks read i m same l unmarked before =
    let n : AreReachedMarks polygons read = subst (AreReachedMarks polygons) (sym same) m in
    first_stop_of_rest _ _ _ _ _ (next_reached polygons read i n l before)
    (first_stop_of_head _ _ _ _ _ refl (λ r. let both : false ≡ true = sym unmarked ∙ (n.exact i).1 r in cc))
