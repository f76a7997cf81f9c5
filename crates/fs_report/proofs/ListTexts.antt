-- The texts of lists: numbers with commas, the lines of vertices, and sides after spaces.
use Rattle.std.proofs.Common.{◌≡◌, ◌≢◌, ℕ, zero, suc, ◌+◌, ◌<◌, Bool, true, false, cond, List, [], ◌∷◌, ◌++◌, length, take, get_or, eqb, inl, inr, refl, sym, ap, ◌∙◌, arith, append_assoc, append-nil}
use Rattle.std.specs.Prelude.{codes}
use Rattle.std.specs.Fmt.{decimal}
use Rattle.std.proofs.lemmas.Bool.Decides.{eqb_tells}
use Rattle.std.proofs.lemmas.List.{take_more}
use Rattle.fs_stratum.specs.declared.cones.Cone.{Cone}
use Rattle.fs_plane.specs.declared.corners.Corner.{Corner}
use Rattle.fs_report.specs.Text.{with_commas, vertex_line, vertex_lines, corner_text, spaced_sides}

-- a number after others
commas_append : (m : ℕ) (ms : List ℕ) (n : ℕ) → with_commas ((m ∷ ms) ++ n ∷ []) ≡ with_commas (m ∷ ms) ++ (codes "," ++ decimal n)
commas_append m [] n = simp append_assoc
commas_append m (k ∷ ms) n =
    ap (λ (text : List ℕ). (decimal m ++ codes ",") ++ text) (commas_append k ms n)
    ∙ simp append_assoc

commas_append_any : (ms : List ℕ) (n : ℕ) (first : Bool) → (first ≡ true → ms ≡ []) → (first ≡ false → 0 < length ms)
    → with_commas (ms ++ n ∷ []) ≡ with_commas ms ++ cond first (decimal n) (codes "," ++ decimal n)
commas_append_any [] n true none some = refl
commas_append_any [] n false none some = absurd (let h = some refl in omega arith)
commas_append_any (m ∷ ms) n true none some = absurd (let h = none refl in cc)
commas_append_any (m ∷ ms) n false none some = commas_append m ms n

take_positive : (i : ℕ) (numbers : List ℕ) → i ≢ 0 → 0 < length numbers → 0 < length (take i numbers)
take_positive zero numbers i_not h = absurd (i_not refl)
take_positive (suc i) [] i_not h = absurd (omega arith)
take_positive (suc i) (n ∷ ns) i_not h = omega arith

-- one number more of a list
commas_take_more : (numbers : List ℕ) (i d : ℕ) → i < length numbers
    → with_commas (take (i + 1) numbers) ≡ with_commas (take i numbers) ++ cond (eqb i 0) (decimal (get_or numbers i d)) (codes "," ++ decimal (get_or numbers i d))
commas_take_more numbers i d h = ap with_commas (take_more numbers i d h) ∙ commas_append_any (take i numbers) (get_or numbers i d) (eqb i 0) none some
  where
    clash : {b : Bool} → b ≡ true → b ≡ false → ⊥
    clash e f = cc

    none : eqb i 0 ≡ true → take i numbers ≡ []
    none e = elim (eqb_tells i 0) [
      | inl same ↦ ap (λ (j : ℕ). take j numbers) same.1
      | inr other ↦ absurd (clash e other.0)
    ]

    some : eqb i 0 ≡ false → 0 < length (take i numbers)
    some e = elim (eqb_tells i 0) [
      | inl same ↦ absurd (clash same.0 e)
      | inr other ↦ take_positive i numbers other.1 (omega arith)
    ]

-- the text with the next number added
pub commas_written : (numbers : List ℕ) (i d : ℕ) (text text' : List ℕ) → i < length numbers → text ≡ with_commas (take i numbers)
    → text' ≡ text ++ cond (eqb i 0) (decimal (get_or numbers i d)) (codes "," ++ decimal (get_or numbers i d)) → text' ≡ with_commas (take (i + 1) numbers)
commas_written numbers i d text text' h before more =
    more
    ∙ (ap (λ (bytes : List ℕ). bytes ++ cond (eqb i 0) (decimal (get_or numbers i d)) (codes "," ++ decimal (get_or numbers i d))) before
    ∙ sym (commas_take_more numbers i d h))

-- ---- vertices

vertex_lines-append : (cones others : List Cone) → vertex_lines (cones ++ others) ≡ vertex_lines cones ++ vertex_lines others
vertex_lines-append [] others = refl
vertex_lines-append (cone ∷ cones) others =
    ap (λ (text : List ℕ). vertex_line cone ++ text) (vertex_lines-append cones others) ∙ sym (append_assoc (vertex_line cone) (vertex_lines cones) (vertex_lines others))

-- one vertex more of a list
vertices_take_more : (cones : List Cone) (i : ℕ) (d : Cone) → i < length cones → vertex_lines (take (i + 1) cones) ≡ vertex_lines (take i cones) ++ vertex_line (get_or cones i d)
vertices_take_more cones i d h =
    ap vertex_lines (take_more cones i d h)
    ∙ (vertex_lines-append (take i cones) (get_or cones i d ∷ [])
    ∙ ap (λ (text : List ℕ). vertex_lines (take i cones) ++ text) (append-nil (vertex_line (get_or cones i d))))

-- the lines with the next vertex added
pub vertices_written : (cones : List Cone) (i : ℕ) (d : Cone) (start text text' : List ℕ) → i < length cones → text ≡ start ++ vertex_lines (take i cones) → text' ≡ text ++ vertex_line (get_or cones i d)
    → text' ≡ start ++ vertex_lines (take (i + 1) cones)
vertices_written cones i d start text text' h before more =
    more
    ∙ (ap (λ (bytes : List ℕ). bytes ++ vertex_line (get_or cones i d)) before
    ∙ (append_assoc start (vertex_lines (take i cones)) (vertex_line (get_or cones i d))
    ∙ ap (λ (bytes : List ℕ). start ++ bytes) (sym (vertices_take_more cones i d h))))

-- ---- sides after spaces

spaced_sides-append : (sides others : List Corner) → spaced_sides (sides ++ others) ≡ spaced_sides sides ++ spaced_sides others
spaced_sides-append [] others = refl
spaced_sides-append (c ∷ sides) others =
    ap (λ (text : List ℕ). (codes " " ++ corner_text c) ++ text) (spaced_sides-append sides others) ∙ sym (append_assoc (codes " " ++ corner_text c) (spaced_sides sides) (spaced_sides others))

-- the text with the next side added
pub sides_written : (sides : List Corner) (i : ℕ) (d : Corner) (start text text' : List ℕ) → i < length sides → text ≡ start ++ spaced_sides (take i sides) → text' ≡ text ++ (codes " " ++ corner_text (get_or sides i d))
    → text' ≡ start ++ spaced_sides (take (i + 1) sides)
sides_written sides i d start text text' h before more =
    more
    ∙ (ap (λ (bytes : List ℕ). bytes ++ (codes " " ++ corner_text (get_or sides i d))) before
    ∙ (append_assoc start (spaced_sides (take i sides)) (codes " " ++ corner_text (get_or sides i d))
    ∙ ap (λ (bytes : List ℕ). start ++ bytes) (sym next)))
  where
    next : spaced_sides (take (i + 1) sides) ≡ spaced_sides (take i sides) ++ (codes " " ++ corner_text (get_or sides i d))
    next =
        ap spaced_sides (take_more sides i d h)
        ∙ (spaced_sides-append (take i sides) (get_or sides i d ∷ [])
        ∙ ap (λ (text : List ℕ). spaced_sides (take i sides) ++ text) (append-nil (codes " " ++ corner_text (get_or sides i d))))
