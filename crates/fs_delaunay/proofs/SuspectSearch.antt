-- The search for the first edge that fails, among the suspects.
use Rattle.std.proofs.Common.{◌≡◌, ◌↔◌, ℕ, ◌+◌, ◌<◌, Bool, false, List, length, Ok, refl, sym, ap, ◌∙◌, subst, inl, inr, arith, length-set, get_or-set_same, get_or-set_other}
use Rattle.std.proofs.Math.ListN.{set}
use Rattle.std.proofs.lemmas.Bool.Decides.{eqb_tells}
use Rattle.std.specs.Bool.{◌==◌}
use Rattle.std.specs.Ordering.{ordering_index}
use Rattle.std.specs.declared.cmp.Ordering.{Ordering}
use Rattle.std.specs.declared.cmp.Ordering.TheVariants.{Less, Equal, Greater}
use Rattle.fs_quadratic.specs.Ring.{Quadratic, IsPositive}
use Rattle.fs_gluing.specs.Triangulation.{Triangulation, IsEdge, edge_twin}
use Rattle.fs_mesh.specs.Meshes.{edge_circle_after}
use Rattle.fs_delaunay.specs.CheckedRuns.{Passes}
use Rattle.fs_delaunay.specs.Steps.{TestsEdge}
use Rattle.fs_delaunay.specs.Suspects.{mark_of, HasNoMark, IsFirstMark, MarksSuspects}

module _ (d : ℕ) (t : Triangulation) (flips h : ℕ) where
  -- the sign of the circle value tells whether the edge fails
  pub tests_edge : (value : Quadratic) (o : Ordering) (held : Bool) → h < length t.vectors → h < edge_twin t h → edge_circle_after d t h ≡ Ok value
      → (o ≡ Greater) ↔ IsPositive d value → held ≡ (ordering_index o == 2) → TestsEdge d t flips h (Ok held)
  tests_edge value Less held there lesser given greater e =
      subst (λ b. TestsEdge d t flips h (Ok b)) (sym e) (λ edge. record { value = value; given = given; legal = λ p. let g = greater.1 p in absurd cc })
  tests_edge value Equal held there lesser given greater e =
      subst (λ b. TestsEdge d t flips h (Ok b)) (sym e) (λ edge. record { value = value; given = given; legal = λ p. let g = greater.1 p in absurd cc })
  tests_edge value Greater held there lesser given greater e =
      subst (λ b. TestsEdge d t flips h (Ok b)) (sym e) (record { there = there; lesser = lesser }, record { value = value; given = given; illegal = greater.0 refl })

-- each edge without a mark passes, and the numbers below some number have none
pub record SearchesSuspects (d : ℕ) (t : Triangulation) (marks : List Bool) (from : ℕ) : Type 0 where
  pub suspects : MarksSuspects d t marks
  pub before : HasNoMark marks 0 from

module _ (d : ℕ) (t : Triangulation) (marks : List Bool) (from : ℕ) (s : SearchesSuspects d t marks from) where
  module _ (h : ℕ) (first : IsFirstMark marks 0 h) where
    -- a suspect that passes is a suspect no more
    pub suspects_without : (IsEdge t h → Passes d t h) → MarksSuspects d t (set marks h false)
    suspects_without passes = record {
      as_many = length-set marks h false ∙ s.suspects.as_many;
      passes = λ e edge unmarked. elim (eqb_tells e h) [
        | inl same ↦ subst (Passes d t) (sym same.1) (passes (subst (IsEdge t) same.1 edge))
        | inr other ↦ s.suspects.passes e edge (sym (get_or-set_other marks h e false false other.1) ∙ unmarked)
      ];
    }

    pub search_goes_on : (IsEdge t h → Passes d t h) → SearchesSuspects d t (set marks h false) (h + 1)
    search_goes_on passes = record {
      suspects = suspects_without passes;
      before = λ o least below. elim (eqb_tells o h) [
        | inl same ↦ ap (mark_of (set marks h false)) same.1 ∙ get_or-set_same marks h false false first.there
        | inr other ↦ let not_h = other.1 in get_or-set_other marks h o false false other.1 ∙ first.before o (omega arith) (omega arith)
      ];
    }
