-- The measures of parts, one after another.
use Rattle.std.proofs.Common.{◌≡◌, ℕ, ℤ, suc, Result, Ok, Err, List, [], ◌∷◌, ◌++◌, length, get_or, refl, sym, ap, ◌∙◌, subst, arith}
use Rattle.std.specs.Prelude.{unsigned_abs}
use Rattle.fs_quadratic.specs.declared.steps.Place.{Place}
use Rattle.fs_plane.specs.declared.sites.Site.TheVariants.{Value}
use Rattle.fs_plane.specs.Vector.{PlaneVector}
use Rattle.fs_gluing.specs.Surface.{GluedPolygons}
use Rattle.fs_rauzy.specs.declared.parts.Kind.TheVariants.{Cylinder, Looped}
use Rattle.fs_rauzy.specs.declared.parts.Letter.{Letter}
use Rattle.fs_rauzy.specs.declared.parts.Part.{Part}
use Rattle.fs_components.specs.declared.flow.Measured.{Measured}
use Rattle.fs_components.specs.Flows.{measured, GivesMeasures, of_cylinder, of_looped, AreMeasured, StopsMeasuring}
use Rattle.fs_components.specs.Gathering.{IsShort}
use Rattle.fs_components.specs.Measures.{PartMeasures, checked_cylinder, checked_looped}

only_item : {X : Type 0} (xs : List X) (x : X) → length xs ≡ 1 → x ≡ get_or xs 0 x → xs ≡ x ∷ []
only_item [] x one is = absurd (omega arith)
only_item (y ∷ []) x one is = ap (λ z. z ∷ []) (sym is)
only_item (y ∷ z ∷ xs) x one is = absurd (omega arith)

module _ (s : GluedPolygons) (v : PlaneVector) (p : Part) (d : ℕ) (den : ℤ) (field : d ≡ s.d) (same : den ≡ s.den) (letters : List Letter) (read : letters ≡ p.letters) (r : Result PartMeasures Place) where
  -- what a cylinder's measures are
  pub cylinder_given : IsShort p → p.kind ≡ Cylinder → (letter : Letter) → letter ≡ get_or letters 0 letter → r ≡ checked_cylinder d (unsigned_abs den) v p.width letter.back → GivesMeasures s v p r
  cylinder_given short kind letter is e =
      subst (GivesMeasures s v p) (sym (e ∙ (λ i. checked_cylinder (field i) (unsigned_abs (same i)) v p.width letter.back)))
      (of_cylinder letter kind (sym read ∙ only_item letters letter (ap length read ∙ short.one kind) is))

  -- and those of any other part
  pub looped_given : (from to : ℕ) → p.kind ≡ Looped from to → r ≡ checked_looped d (unsigned_abs den) v letters → GivesMeasures s v p r
  looped_given from to kind e = subst (GivesMeasures s v p) (sym (e ∙ (λ i. checked_looped (field i) (unsigned_abs (same i)) v (read i)))) (of_looped from to kind)

module _ (s : GluedPolygons) (v : PlaneVector) where
  -- one part more
  pub measured_more : (ps : List Part) (ms : List Measured) (p : Part) (m : PartMeasures) → GivesMeasures s v p (Ok m) → AreMeasured s v ps ms → AreMeasured s v (ps ++ p ∷ []) (ms ++ measured p m ∷ [])
  measured_more [] [] p m g h = ((m, g, refl), tt)
  measured_more [] (n ∷ ms) p m g h = absurd h
  measured_more (q ∷ ps) [] p m g h = absurd h
  measured_more (q ∷ ps) (n ∷ ms) p m g h = (h.0, measured_more ps ms p m g h.1)

  -- there are as many measured parts
  pub as_many : (ps : List Part) (ms : List Measured) → AreMeasured s v ps ms → length ms ≡ length ps
  as_many [] [] h = refl
  as_many [] (n ∷ ms) h = absurd h
  as_many (q ∷ ps) [] h = absurd h
  as_many (q ∷ ps) (n ∷ ms) h = ap (λ (k : ℕ). suc k) (as_many ps ms h.1)

  -- the first part that overflows
  pub measuring_stopped : (parts before after : List Part) (p : Part) (done : List Measured) (n : ℕ) (stop : Place) → parts ≡ before ++ p ∷ after → AreMeasured s v before done → GivesMeasures s v p (Err stop)
      → n ≡ length done → StopsMeasuring s v parts (Value n stop.0)
  measuring_stopped parts before after p done n stop is h overflows count = record {
    before = before;
    part = p;
    after = after;
    is = is;
    done = done;
    measured_before = h;
    stop = stop;
    overflows = overflows;
    at = ap (λ (k : ℕ). Value k stop.0) (count ∙ as_many before done h);
  }
