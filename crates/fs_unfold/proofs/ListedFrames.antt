-- Each product in the list has a frame.
use Rattle.std.proofs.Common.{◌≡◌, ℕ, Bool, List, [], ◌∷◌, length, sym, subst}
use Rattle.std.specs.List.{AllByRecursion}
use Rattle.fs_lists.specs.Members.{IsIn}
use Rattle.fs_lists.proofs.All.{All-append, All-slice_get}
use Rattle.fs_lists.proofs.Members.{in_map_cases, All-member}
use Rattle.fs_quadratic.specs.Ring.{Quadratic}
use Rattle.fs_quadratic.proofs.SquareRoot.{radicand_no_square}
use Rattle.fs_plane.specs.Vector.{PlaneVector}
use Rattle.fs_gluing.specs.declared.shapes.Point.{Point}
use Rattle.fs_gluing.specs.Scaling.{scaled_vector}
use Rattle.fs_unfold.specs.declared.matrices.Matrix.{Matrix}
use Rattle.fs_unfold.specs.declared.matrices.Mirror.{Mirror}
use Rattle.fs_unfold.specs.Tables.{IsTable}
use Rattle.fs_unfold.specs.Matrices.{mirror, times}
use Rattle.fs_unfold.specs.Products.{mirrors, AreListed, first, known, added, next_product}
use Rattle.fs_unfold.proofs.ComputedMatrices.{times_is}
use Rattle.fs_unfold.proofs.Frames.{HasFrame, frame_identity, frame_times}
use Rattle.fs_unfold.proofs.ProductLists.{get_in}
use Rattle.fs_unfold.proofs.TableTests.{den_of, table_side}

-- a matrix with a frame
pub record IsFramed (d : ℕ) (m : Matrix) : Type 0 where
  pub f : PlaneVector
  pub k : Quadratic
  pub turned : Bool
  pub frame : HasFrame d m f k turned

module _ (d : ℕ) (table : List Point) (is : IsTable d table) where
  -- a reflection in the list is that in a side of the table
  pub mirror_side : (r : Mirror) → IsIn r (mirrors d table) → (p : Point) × IsIn p table × (r ≡ mirror d p)
  mirror_side r h = in_map_cases (mirror d) r table h

  -- a framed matrix times a reflection
  framed_times : (m : Matrix) (r : Mirror) → IsFramed d m → IsIn r (mirrors d table) → IsFramed d (times d m r)
  framed_times m r h r_in =
      let side = mirror_side r r_in in
      let p = side.0 in
      subst (λ x. IsFramed d (times d m x)) (sym side.2)
      (record {
        f = _;
        k = _;
        turned = _;
        frame = frame_times (radicand_no_square is.radicand) m h.f h.k h.turned (den_of table) p (scaled_vector (den_of table) p) h.frame (table_side d table is p side.1);
      })

  all_framed : (list : List Matrix) (g i : ℕ) → AreListed d (mirrors d table) list g i → AllByRecursion (IsFramed d) list
  all_framed _ _ _ first = (record { f = _; k = _; turned = _; frame = frame_identity (radicand_no_square is.radicand) }, tt)
  all_framed _ _ _ (known list g i m n r before at_g at_i made there) = all_framed list g i before
  all_framed _ _ _ (added list g i m n r before at_g at_i made new room) =
      let earlier = all_framed list g i before in
      All-append (IsFramed d) list (n ∷ []) earlier
      (subst (IsFramed d) (sym (times_is d m r n made)) (framed_times m r (All-slice_get (IsFramed d) list g m earlier at_g) (get_in (mirrors d table) i r at_i)), tt)
  all_framed _ _ _ (next_product list g before) = all_framed list g (length (mirrors d table)) before

  -- each item has a frame
  pub listed_framed : (list : List Matrix) (g i : ℕ) → AreListed d (mirrors d table) list g i → (m : Matrix) → IsIn m list → IsFramed d m
  listed_framed list g i listed m m_in = All-member (IsFramed d) list m (all_framed list g i listed) m_in
