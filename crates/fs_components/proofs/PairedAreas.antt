-- The area of letters, scaled by the squared length of a direction, is a sum of a pairing of lengths with return vectors.
use Rattle.std.proofs.Common.{◌≡◌, ℕ, List, [], ◌∷◌, map, refl, ap}
use Rattle.fs_ring.specs.CommutativeRing.{IsCommutativeRing}
use Rattle.fs_ring.specs.Vector as plane
use Rattle.fs_ring.proofs.PlaneSolver.{plane_identity}
use Rattle.fs_ring.proofs.RingLaws.{add_mul}
use Rattle.fs_ring.proofs.Solver.{expressions as E, ◌⊕◌, ◌⊗◌, ◌≐◌}
use Rattle.fs_quadratic.specs.Ring.{Quadratic, quadratic, add, mul, neg, total, zero as nil}
use Rattle.fs_quadratic.proofs.Laws.{quadratic_ring}
use Rattle.fs_plane.specs.Vector.{PlaneVector, dot}
use Rattle.fs_gluing.specs.Exchanges.{Letter}
use Rattle.fs_rauzy.specs.Pairings.{Addition, IsPairing, letters_sum}

-- the numbers with their sums
abbrev pub numbers : Addition Quadratic
numbers = record { add = add; neg = neg; zero = nil }

-- a length times how far a vector leads along v
abbrev pub along : ℕ → PlaneVector → Quadratic → PlaneVector → Quadratic
along d v a h = mul d a (dot d v h)

-- it is a pairing
pub along_pairing : (d : ℕ) (v : PlaneVector) → IsPairing numbers (along d v)
along_pairing d v = record {
  group = record { add_assoc = L.add_assoc; add_comm = L.add_comm; add_zero = L.add_zero; add_neg = L.add_neg };
  numbers = λ a b h. add_mul L a b (dot d v h);
  vectors = λ a h k. plane_identity L (a ∷ []) (v ∷ h ∷ k ∷ []) (λ a v h k. a ⊗ plane.dot E v (plane.add_vector E h k) ≐ a ⊗ plane.dot E v h ⊕ a ⊗ plane.dot E v k) refl;
}
  where
    L : IsCommutativeRing (quadratic d)
    L = quadratic_ring d

-- its sum over letters is that of their areas, scaled by the squared length of v
pub letters_area : (d : ℕ) (v : PlaneVector) (letters : List Letter) → letters_sum numbers (along d v) letters ≡ total (map (λ letter. mul d letter.length (dot d v letter.back)) letters)
letters_area d v [] = refl
letters_area d v (l ∷ ls) = ap (add (mul d l.length (dot d v l.back))) (letters_area d v ls)
