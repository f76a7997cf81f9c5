-- The texts of the answer to `flow`, line by line.
use Rattle.std.proofs.Common.{◌≡◌, ℕ, Some, None, List, ◌∷◌, [], ◌++◌, refl, ◌∙◌, ap, append_assoc}
use Rattle.std.specs.Fmt.{decimal}
use Rattle.std.specs.List.{slice_get}
use Rattle.std.specs.Prelude.{codes}
use Rattle.fs_plane.specs.declared.corners.Corner.{Corner}
use Rattle.fs_rauzy.specs.declared.parts.Letter.{Letter}
use Rattle.fs_report.specs.DelaunayText.{vector_text}
use Rattle.fs_report.specs.FlowText.{holonomy_text}
use Rattle.fs_report.specs.Text.{line_of, corner_text}

-- the text with the line of a connection added
pub connection_written : (start start' : Corner) (old text v v' : List ℕ) → start ≡ start' → v ≡ v'
    → text ≡ old ++ (codes "connection " ++ (decimal start.polygon ++ (codes "." ++ (decimal start.side ++ (codes " " ++ (v ++ 10 ∷ []))))))
    → text ≡ old ++ line_of (codes "connection " ++ corner_text start' ++ codes " " ++ v')
connection_written start start' old text v v' same vectors whole =
    whole
    ∙ (ap (λ (line : List ℕ). old ++ line) (simp append_assoc refl)
    ∙ (λ i. old ++ line_of (codes "connection " ++ corner_text (same i) ++ codes " " ++ vectors i)))

-- the words of a base, by the texts of its numbers
pub base_spelled : (base base' width width' text : List ℕ) → base ≡ base' → width ≡ width' → text ≡ codes " base " ++ (base ++ (codes " width " ++ width)) → text ≡ codes " base " ++ base' ++ codes " width " ++ width'
base_spelled base base' width width' text b w whole = whole ∙ (simp append_assoc refl ∙ (λ i. codes " base " ++ b i ++ codes " width " ++ w i))

-- the words of a cylinder, by the texts of its parts
pub cylinder_spelled : (base base' holonomy holonomy' square square' height height' area area' text : List ℕ) → base ≡ base' → holonomy ≡ holonomy' → square ≡ square' → height ≡ height' → area ≡ area'
    → text ≡ codes "cylinder" ++ (base ++ (codes " holonomy " ++ (holonomy ++ (codes " square " ++ (square ++ (codes " height-square " ++ (height ++ (codes " area " ++ area))))))))
    → text ≡ codes "cylinder" ++ base' ++ codes " holonomy " ++ holonomy' ++ codes " square " ++ square' ++ codes " height-square " ++ height' ++ codes " area " ++ area'
cylinder_spelled base base' holonomy holonomy' square square' height height' area area' text b h s t a whole =
    whole
    ∙ (simp append_assoc refl ∙ (λ i. codes "cylinder" ++ b i ++ codes " holonomy " ++ h i ++ codes " square " ++ s i ++ codes " height-square " ++ t i ++ codes " area " ++ a i))

-- the words of a part with a loop, by the texts of its parts
pub minimal_spelled : (letters letters' from to : ℕ) (base base' area area' text : List ℕ) → base ≡ base' → letters ≡ letters' → area ≡ area'
    → text ≡ codes "minimal" ++ (base ++ (codes " letters " ++ (decimal letters ++ (codes " loop " ++ (decimal from ++ (codes " " ++ (decimal to ++ (codes " area " ++ area))))))))
    → text ≡ codes "minimal" ++ base' ++ codes " letters " ++ decimal letters' ++ codes " loop " ++ decimal from ++ codes " " ++ decimal to ++ codes " area " ++ area'
minimal_spelled letters letters' from to base base' area area' text b l a whole =
    whole
    ∙ (simp append_assoc refl
    ∙ (λ i. codes "minimal" ++ b i ++ codes " letters " ++ decimal (l i) ++ codes " loop " ++ decimal from ++ codes " " ++ decimal to ++ codes " area " ++ a i))

-- the text of the return vector of the first letter
pub first_spelled : (den : ℕ) (letters : List Letter) (letter : Letter) → Some letter ≡ slice_get letters 0 → vector_text den letter.back ≡ holonomy_text den letters
first_spelled den [] letter e = absurd cc
first_spelled den (x ∷ xs) letter e =
    let same : letter ≡ x = cc in
    ap (λ (l : Letter). vector_text den l.back) same

-- where there is no letter, there is no text
pub none_spelled : (den : ℕ) (letters : List Letter) → None ≡ slice_get letters 0 → [] ≡ holonomy_text den letters
none_spelled den [] e = refl
none_spelled den (x ∷ xs) e = absurd cc
