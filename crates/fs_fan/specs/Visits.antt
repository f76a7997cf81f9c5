-- What is computed at a half-edge and at a live word, as checked computations.
use Rattle.std.specs.Prelude.{ℕ, if◌then◌else◌, ◌&&◌, Bool, false, Result, Ok, List}
use Rattle.std.specs.Ordering.{is_gt}
use Rattle.fs_quadratic.specs.Ring.{Quadratic, quadratic, sign}
use Rattle.fs_quadratic.specs.Checked.{◌>>=◌}
use Rattle.fs_quadratic.specs.declared.steps.Place.{Place}
use Rattle.fs_plane.specs.Formulas.{cross_after, norm_after, vector_sum_after, comes_within_after, is_at_most}
use Rattle.fs_plane.specs.Vector.{PlaneVector, vector_neg, cross}
use Rattle.fs_gluing.specs.Triangulation.{Triangulation, face_sides, edge_vector, edge_twin, next_in_face, prev_in_face}
use Rattle.fs_words.specs.Words.{Letter}
use Rattle.fs_words.specs.Sectors.{View, last_view}
use Rattle.fs_fan.specs.declared.visits.Opening.{Opening}
use Rattle.fs_fan.specs.declared.visits.Visit.{Visit}

-- whether b is strictly to the left of a
abbrev pub is_left_of : ℕ → PlaneVector → PlaneVector → Bool
is_left_of d a b = is_gt (sign d (cross d a b))

-- the last crossing of a word, with its sector
abbrev pub view_of : ℕ → Triangulation → ℕ → List Letter → View ℕ Quadratic
view_of d t h letters = last_view (quadratic d) (is_left_of d) (face_sides t) h letters

-- half-edge h as a ray, and its first word
unfoldable pub opening : ℕ → Triangulation → Quadratic → ℕ → Result Opening Place
opening d t bound h = do
  length ← norm_after 0 d (edge_vector t h)
  near ← comes_within_after 3 d (edge_vector t h) (vector_neg (edge_vector t (prev_in_face h))) bound
  Ok (record { found = is_at_most d length bound; live = near })

-- whether a tip is within the bound, by places 9 to 11, where it is in the sector
unfoldable pub tip_within : ℕ → Quadratic → PlaneVector → (in_sector : Bool) → Result Bool Place
tip_within d bound tip in_sector = if in_sector then (do
  length ← norm_after 8 d tip
  Ok (is_at_most d length bound)) else Ok false

-- whether a half-edge beyond comes within the bound, where the sector reaches it
unfoldable pub side_within : ℕ → ℕ → Quadratic → PlaneVector → PlaneVector → (reached : Bool) → Result Bool Place
side_within before d bound p q reached = if reached then comes_within_after before d p q bound else Ok false

-- a live word: its tip, and its words with one letter more
unfoldable pub visit : ℕ → Triangulation → Quadratic → View ℕ Quadratic → Result Visit Place
visit d t bound at = do
  tip ← vector_sum_after 0 at.crossing.right_end (edge_vector t (next_in_face (edge_twin t at.crossing.side)))
  right_turn ← cross_after 2 d at.right_bound tip
  left_turn ← cross_after 5 d tip at.left_bound
  found ← tip_within d bound tip (is_gt (sign d right_turn) && is_gt (sign d left_turn))
  right ← side_within 11 d bound at.crossing.right_end tip (is_gt (sign d right_turn))
  left ← side_within 33 d bound tip at.crossing.left_end (is_gt (sign d left_turn))
  Ok (record { tip = tip; past_right = is_gt (sign d right_turn); past_left = is_gt (sign d left_turn); found = found; right = right; left = left })
