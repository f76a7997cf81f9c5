-- The entries of the search's stack, which are the views of words with what is known of their ends, and what a visit tells of its tip. The contract of `flat` doesn't rest on this file.
use Rattle.std.specs.Prelude.{◌≡◌, ℕ, Bool, true, false, cond, Option, Some, None, Result, Ok, Err, List, [], ◌∷◌}
use Rattle.fs_quadratic.specs.Ring.{Quadratic, quadratic}
use Rattle.fs_quadratic.specs.declared.steps.Place.{Place}
use Rattle.fs_plane.specs.Vector.{PlaneVector}
use Rattle.fs_plane.specs.Formulas.{norm_after, is_at_most}
use Rattle.fs_gluing.specs.Triangulation.{Triangulation, face_sides, edge_twin, next_in_face, prev_in_face}
use Rattle.fs_words.specs.Words.{tip_of}
use Rattle.fs_words.specs.Sectors.{View}
use Rattle.fs_fan.specs.declared.visits.Entry.{Entry}
use Rattle.fs_fan.specs.declared.visits.Visit.{Visit}
use Rattle.fs_fan.specs.declared.visits.Sight.{Sight}
use Rattle.fs_fan.specs.Visits.{is_left_of, view_of}
use Rattle.fs_fan.specs.Search.{Word}

-- the view that an entry keeps
abbrev pub view_at : Entry → View ℕ Quadratic
view_at e = record {
  crossing = record { side = e.side; right_end = e.right_end; left_end = e.left_end };
  right_bound = e.right_bound;
  left_bound = e.left_bound;
}

-- whether a squared length is at most the bound, where it is computed
abbrev pub told_within : ℕ → Quadratic → Result Quadratic Place → Option Bool
told_within d bound (Ok length) = Some (is_at_most d length bound)
told_within d bound (Err stop) = None

-- whether the squared length of v is at most the bound, where what is computed for it fits
abbrev pub known_within : ℕ → Quadratic → PlaneVector → Option Bool
known_within d bound v = told_within d bound (norm_after 0 d v)

-- whether a segment is known to come within the bound by what is known of its ends: the first is within it, or the second, and the first isn't
abbrev pub is_known_near : (start end : Option Bool) → Bool
is_known_near (Some true) end = true
is_known_near (Some false) (Some true) = true
is_known_near (Some false) (Some false) = false
is_known_near (Some false) None = false
is_known_near None end = false

-- the entry that keeps a view
abbrev pub entry_of : ℕ → Quadratic → View ℕ Quadratic → Entry
entry_of d bound s = record {
  side = s.crossing.side;
  right_within = known_within d bound s.crossing.right_end;
  left_within = known_within d bound s.crossing.left_end;
  right_end = s.crossing.right_end;
  left_end = s.crossing.left_end;
  right_bound = s.right_bound;
  left_bound = s.left_bound;
}

-- that of a word
abbrev pub word_entry : ℕ → Triangulation → Quadratic → Word → Entry
word_entry d t bound w = entry_of d bound (view_of d t w.half_edge w.letters)

-- what an entry tells of its ends is so
pub record TellsEnds (d : ℕ) (bound : Quadratic) (e : Entry) : Type 0 where
  pub right : e.right_within ≡ known_within d bound e.right_end
  pub left : e.left_within ≡ known_within d bound e.left_end

-- one item or none
abbrev pub optional : {X : Type 0} → Bool → X → List X
optional there x = cond there (x ∷ []) []

-- a visit tells the tip, and on which side of the two bounds it is
pub record TellsTip (d : ℕ) (t : Triangulation) (s : View ℕ Quadratic) (visit : Visit) : Type 0 where
  pub tip : visit.tip ≡ tip_of (quadratic d) (face_sides t) s.crossing
  pub past_right : visit.past_right ≡ is_left_of d s.right_bound (tip_of (quadratic d) (face_sides t) s.crossing)
  pub past_left : visit.past_left ≡ is_left_of d (tip_of (quadratic d) (face_sides t) s.crossing) s.left_bound

-- the entry that goes on with right more from one that was visited
abbrev pub right_entry : Triangulation → Entry → Sight → Entry
right_entry t e s = record {
  side = next_in_face (edge_twin t e.side);
  right_within = e.right_within;
  left_within = s.within;
  right_end = e.right_end;
  left_end = s.visit.tip;
  right_bound = e.right_bound;
  left_bound = cond s.visit.past_left s.visit.tip e.left_bound;
}

-- that with left more
abbrev pub left_entry : Triangulation → Entry → Sight → Entry
left_entry t e s = record {
  side = prev_in_face (edge_twin t e.side);
  right_within = s.within;
  left_within = e.left_within;
  right_end = s.visit.tip;
  left_end = e.left_end;
  right_bound = cond s.visit.past_right s.visit.tip e.right_bound;
  left_bound = e.left_bound;
}
