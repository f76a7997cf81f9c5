-- The shape that a job describes: it is one, it allows no straight corner, and where all its tests pass it has a surface.
use Rattle.std.proofs.Common.{◌≡◌, false, Option, Some, None, Result, Ok, Err, List, refl, sym, ap, ◌∙◌, subst, inl, inr}
use Rattle.std.specs.List.{AllByRecursion}
use Rattle.fs_lists.proofs.Equal.{length-positive}
use Rattle.fs_lists.proofs.Results.{ok_equal, err_equal, ok_not_err}
use Rattle.fs_gluing.specs.declared.faults.BuildStop.{BuildStop}
use Rattle.fs_gluing.specs.declared.shapes.Point.{Point}
use Rattle.fs_gluing.specs.declared.shapes.Shape.{Shape}
use Rattle.fs_gluing.specs.Shape.{IsWithinLimits}
use Rattle.fs_gluing.proofs.Outcome.SurfaceExists.{HasDenominators}
use Rattle.fs_unfold.specs.Unfolding.{EndsUnfolding}
use Rattle.fs_unfold.proofs.UnfoldingExists.{unfolding_ends}
use Rattle.fs_unfold.proofs.UnfoldingMeans.{unfolding_within, unfolding_strict, unfolding_dens}
use Rattle.fs_unfold.proofs.UnfoldingUnique.{unfolding_unique}
use Rattle.fs_job.specs.declared.job.Form.TheVariants.{Polygons, Table}
use Rattle.fs_job.specs.declared.job.Job.{Job}
use Rattle.fs_job.specs.Draft.{Draft, DescribesSurface}
use Rattle.fs_job.specs.Reading.{form_table, form_polygons, form_glues, job_draft, IsFormWithinLimits}
use Rattle.fs_job.proofs.SoundDrafts.{IsSound}
use Rattle.fs_cli.specs.Answer.{DescribesShape, by_polygons, by_table}

none_not_some : {o : Option (List Point)} (table : List Point) → o ≡ None → o ≡ Some table → ⊥
none_not_some table e f = let g = sym e ∙ f in cc

some_equal : {o : Option (List Point)} (t u : List Point) → o ≡ Some t → o ≡ Some u → t ≡ u
some_equal t u e f = let g = sym e ∙ f in cc

-- ---- one shape

-- a draft describes one shape at most
pub describes_one : (draft : Draft) (a b : Shape) → DescribesShape draft a → DescribesShape draft b → a ≡ b
describes_one draft a b (by_polygons none is) (by_polygons none' is') = is ∙ sym is'
describes_one draft a b (by_polygons none is) (by_table table some ends) = absurd (none_not_some table none some)
describes_one draft a b (by_table table some ends) (by_polygons none is) = absurd (none_not_some table none some)
describes_one draft a b (by_table t some ends) (by_table u some' ends') =
    ok_equal a b (unfolding_unique draft.d t (Ok a) (Ok b) ends (subst (λ x. EndsUnfolding draft.d x (Ok b)) (some_equal u t some' some) ends'))

-- a table that isn't unfolded has one stop
pub stops_once : (draft : Draft) (t u : List Point) (p q : BuildStop) → draft.table ≡ Some t → EndsUnfolding draft.d t (Err p) → draft.table ≡ Some u → EndsUnfolding draft.d u (Err q) → p ≡ q
stops_once draft t u p q some ends some' ends' =
    err_equal p q (unfolding_unique draft.d t (Err p) (Err q) ends (subst (λ x. EndsUnfolding draft.d x (Err q)) (some_equal u t some' some) ends'))

-- and its draft describes no shape
pub stop_or_shape : (draft : Draft) (table : List Point) (stop : BuildStop) (shape : Shape) → draft.table ≡ Some table → EndsUnfolding draft.d table (Err stop) → DescribesShape draft shape → ⊥
stop_or_shape draft table stop shape some ends (by_polygons none is) = none_not_some table none some
stop_or_shape draft table stop shape some ends (by_table u some' ends') =
    ok_not_err shape stop (unfolding_unique draft.d u (Ok shape) (Err stop) ends' (subst (λ x. EndsUnfolding draft.d x (Err stop)) (some_equal table u some some') ends))

-- ---- what the shape is like

-- it allows no straight corner
pub described_strict : (draft : Draft) (shape : Shape) → DescribesShape draft shape → shape.straight ≡ false
described_strict draft shape (by_polygons none is) = ap (λ (s : Shape). s.straight) is
described_strict draft shape (by_table table some ends) = unfolding_strict draft.d table (Ok shape) shape ends refl

-- within the limits, and with denominators above 0
pub record IsFit (shape : Shape) : Type 0 where
  pub limits : IsWithinLimits shape
  pub points : AllByRecursion (AllByRecursion HasDenominators) shape.polygons

-- so is the shape of a sound draft
pub described_fit : (draft : Draft) (shape : Shape) → IsSound draft → DescribesSurface draft → DescribesShape draft shape → IsFit shape
described_fit draft shape sound some (by_polygons none is) = subst IsFit (sym is) (record {
  limits = record { some_polygon = elim some [ inl polygons ↦ length-positive draft.polygons polygons | inr table ↦ absurd (table none) ]; polygons = sound.polygons; sides = sound.sides };
  points = sound.points;
})
described_fit draft shape sound some (by_table table is ends) = record {
  limits = unfolding_within draft.d table (Ok shape) shape (sound.few_in_table table is) ends refl;
  points = unfolding_dens draft.d table sound.radicand (sound.table_points table is) (sound.few_in_table table is) (Ok shape) shape ends refl;
}

-- ---- it exists

module _ (draft : Draft) (sound : IsSound draft) (no_shape : (shape : Shape) → ¬ DescribesShape draft shape)
    (no_stop : (table : List Point) (stop : BuildStop) → draft.table ≡ Some table → ¬ EndsUnfolding draft.d table (Err stop)) where
  by_form : (table : Option (List Point)) → draft.table ≡ table → ⊥
  by_form None e = no_shape _ (by_polygons e refl)
  by_form (Some table) e = unfolding_ends draft.d table sound.radicand (sound.table_points table e) (sound.few_in_table table e) by_end
    where
      by_end : (result : Result Shape BuildStop) → ¬ EndsUnfolding draft.d table result
      by_end (Ok shape) ends = no_shape shape (by_table table e ends)
      by_end (Err stop) ends = no_stop table stop e ends

  -- a sound draft describes a shape, or its table isn't unfolded
  pub shape_or_stop : ⊥
  shape_or_stop = by_form draft.table refl

-- ---- the shape of a job that is read

-- that of its polygons
pub polygons_described : (job : Job) (shape : Shape) → job.form ≡ Polygons shape → IsFormWithinLimits job.form → DescribesShape (job_draft job) shape
polygons_described job shape is limits =
    let strict = (subst IsFormWithinLimits is limits).1 in
    by_polygons (ap form_table is) (λ i. record { polygons = ap form_polygons (sym is) i; glues = ap form_glues (sym is) i; straight = strict i })

-- or of its table
pub table_described : (job : Job) (table : List Point) (shape : Shape) → job.form ≡ Table table → EndsUnfolding job.field.d table (Ok shape) → DescribesShape (job_draft job) shape
table_described job table shape is ends = by_table table (ap form_table is) ends
