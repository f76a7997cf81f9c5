-- The texts of flips, faces and cells, line by line.
use Rattle.std.proofs.Common.{◌≡◌, ℕ, ◌+◌, ◌<◌, List, [], ◌∷◌, ◌++◌, length, take, get_or, refl, sym, ap, ◌∙◌, arith, append_assoc, append-nil}
use Rattle.std.specs.Fmt.{decimal}
use Rattle.std.specs.List.{flat_map, range_with_len}
use Rattle.std.specs.Prelude.{codes}
use Rattle.std.proofs.lemmas.List.FromFn.{map-range_with_len_more}
use Rattle.fs_fraction.specs.Fraction.{Fraction, reduced}
use Rattle.fs_fraction.specs.Number.{spelling}
use Rattle.fs_plane.specs.declared.corners.Corner.{Corner}
use Rattle.fs_plane.specs.Vector.{PlaneVector}
use Rattle.std.proofs.lemmas.List.{take_more, flat_map_more, map-id, length-take-le}
use Rattle.fs_report.specs.Text.{line_of, corner_text}
use Rattle.fs_report.specs.DelaunayText.{cell_line, cell_lines, vector_text}

-- the text with that of the next item added
pub items_written : {X : Type 0} (f : X → List ℕ) (items : List X) (i : ℕ) (d : X) (start text text' : List ℕ) → i < length items → text ≡ start ++ flat_map f (take i items)
    → text' ≡ text ++ f (get_or items i d) → text' ≡ start ++ flat_map f (take (i + 1) items)
items_written f items i d start text text' h before more =
    more
    ∙ (ap (λ (bytes : List ℕ). bytes ++ f (get_or items i d)) before
    ∙ (flat_map_more f start (take i items) (get_or items i d)
    ∙ ap (λ (xs : _). start ++ flat_map f xs) (sym (take_more items i d h))))

range_more : (n : ℕ) → range_with_len 0 (n + 1) ≡ range_with_len 0 n ++ n ∷ []
range_more n = sym (map-id (range_with_len 0 (n + 1))) ∙ (map-range_with_len_more (λ x. x) 0 n n (omega arith) ∙ ap (λ (ns : List ℕ). ns ++ n ∷ []) (map-id (range_with_len 0 n)))

-- the text with that of the next number added
pub number_written : (f : ℕ → List ℕ) (n : ℕ) (start text text' : List ℕ) → text ≡ start ++ flat_map f (range_with_len 0 n) → text' ≡ text ++ f n → text' ≡ start ++ flat_map f (range_with_len 0 (n + 1))
number_written f n start text text' before more =
    more
    ∙ (ap (λ (bytes : List ℕ). bytes ++ f n) before
    ∙ (flat_map_more f start (range_with_len 0 n) n
    ∙ ap (λ (ns : List ℕ). start ++ flat_map f ns) (sym (range_more n))))

-- ---- cells

cell_lines-append : (c : ℕ) (cells : List (List ℕ)) (faces : List ℕ) → cell_lines c (cells ++ faces ∷ []) ≡ cell_lines c cells ++ cell_line (c + length cells) faces
cell_lines-append c [] faces = append-nil (cell_line c faces) ∙ ap (λ (k : ℕ). cell_line k faces) (omega arith)
cell_lines-append c (first ∷ cells) faces =
    ap (λ (text : List ℕ). cell_line c first ++ text) (cell_lines-append (c + 1) cells faces ∙ ap (λ (k : ℕ). cell_lines (c + 1) cells ++ cell_line k faces) (omega arith))
    ∙ sym (append_assoc (cell_line c first) (cell_lines (c + 1) cells) (cell_line (c + length (first ∷ cells)) faces))

-- the text with the line of the next cell added
pub cells_written : (cells : List (List ℕ)) (i : ℕ) (d : List ℕ) (start text text' : List ℕ) → i < length cells → text ≡ start ++ cell_lines 0 (take i cells) → text' ≡ text ++ cell_line i (get_or cells i d)
    → text' ≡ start ++ cell_lines 0 (take (i + 1) cells)
cells_written cells i d start text text' h before more =
    more
    ∙ (ap (λ (bytes : List ℕ). bytes ++ cell_line i (get_or cells i d)) before
    ∙ (append_assoc start (cell_lines 0 (take i cells)) (cell_line i (get_or cells i d))
    ∙ ap (λ (bytes : List ℕ). start ++ bytes) (sym next)))
  where
    at : 0 + length (take i cells) ≡ i
    at = let same = length-take-le i cells (omega arith) in omega arith

    next : cell_lines 0 (take (i + 1) cells) ≡ cell_lines 0 (take i cells) ++ cell_line i (get_or cells i d)
    next =
        ap (cell_lines 0) (take_more cells i d h)
        ∙ (cell_lines-append 0 (take i cells) (get_or cells i d)
        ∙ ap (λ (k : ℕ). cell_lines 0 (take i cells) ++ cell_line k (get_or cells i d)) at)

-- ---- vectors

-- the text of the unscaled vector, by the texts of its coordinates
pub vector_spelled : (den den' : ℕ) (v w : PlaneVector) (x y : Fraction) (text first second : List ℕ) → den ≡ den' → v ≡ w → x ≡ reduced v.x den → y ≡ reduced v.y den → first ≡ spelling x → second ≡ spelling y
    → text ≡ first ++ (codes "," ++ second) → text ≡ vector_text den' w
vector_spelled den den' v w x y text first second dens vectors ofx ofy one two whole =
    (whole ∙ sym (append_assoc first (codes ",") second))
    ∙ ((λ i. one i ++ codes "," ++ two i)
    ∙ ((λ i. spelling (ofx i) ++ codes "," ++ spelling (ofy i))
    ∙ (λ i. vector_text (dens i) (vectors i))))

-- ---- faces

-- the text of three twins
pub twins_spelled : (a b c a' b' c' : ℕ) (text : List ℕ) → a ≡ a' → b ≡ b' → c ≡ c' → text ≡ decimal a ++ (codes " " ++ (decimal b ++ (codes " " ++ decimal c)))
    → text ≡ decimal a' ++ codes " " ++ decimal b' ++ codes " " ++ decimal c'
twins_spelled a b c a' b' c' text one two three whole = whole ∙ (simp append_assoc refl ∙ (λ i. decimal (one i) ++ codes " " ++ decimal (two i) ++ codes " " ++ decimal (three i)))

-- the text with the line of a face added
pub face_written : (f : ℕ) (old text vectors twins vectors' twins' : List ℕ) → vectors ≡ vectors' → twins ≡ twins'
    → text ≡ old ++ (codes "face " ++ (decimal f ++ (codes " " ++ (vectors ++ (codes " twins " ++ (twins ++ 10 ∷ []))))))
    → text ≡ old ++ line_of (codes "face " ++ decimal f ++ codes " " ++ vectors' ++ codes " twins " ++ twins')
face_written f old text vectors twins vectors' twins' v t whole =
    whole
    ∙ (ap (λ (line : List ℕ). old ++ line) (simp append_assoc refl)
    ∙ (λ i. old ++ line_of (codes "face " ++ decimal f ++ codes " " ++ v i ++ codes " twins " ++ t i)))

-- ---- entries of the saddle list

-- the text with the line of an entry added
pub entry_written : (start start' : Corner) (old text v v' : List ℕ) → start ≡ start' → v ≡ v'
    → text ≡ old ++ (codes "saddle " ++ (decimal start.polygon ++ (codes "." ++ (decimal start.side ++ (codes " " ++ (v ++ 10 ∷ []))))))
    → text ≡ old ++ line_of (codes "saddle " ++ corner_text start' ++ codes " " ++ v')
entry_written start start' old text v v' same vectors whole =
    whole
    ∙ (ap (λ (line : List ℕ). old ++ line) (simp append_assoc refl)
    ∙ (λ i. old ++ line_of (codes "saddle " ++ corner_text (same i) ++ codes " " ++ vectors i)))
