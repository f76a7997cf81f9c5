-- The measures of parts, or the first part whose measures overflow, are determined.
use Rattle.std.proofs.Common.{◌≡◌, ℕ, suc, Result, Ok, Err, List, [], ◌∷◌, ◌++◌, length, refl, sym, ap, ◌∙◌, subst}
use Rattle.std.specs.Prelude.{unsigned_abs}
use Rattle.fs_lists.proofs.Equal.{cons_equal, heads_equal, tails_equal}
use Rattle.fs_lists.proofs.Results.{ok_equal, err_equal, ok_not_err}
use Rattle.fs_quadratic.specs.declared.steps.Place.{Place}
use Rattle.fs_plane.specs.declared.sites.Site.{Site}
use Rattle.fs_plane.specs.declared.sites.Site.TheVariants.{Value}
use Rattle.fs_plane.specs.Vector.{PlaneVector}
use Rattle.fs_gluing.specs.Surface.{GluedPolygons}
use Rattle.fs_rauzy.specs.declared.parts.Letter.{Letter}
use Rattle.fs_rauzy.specs.declared.parts.Part.{Part}
use Rattle.fs_components.specs.declared.flow.Measured.{Measured}
use Rattle.fs_components.specs.Flows.{measured, GivesMeasures, of_cylinder, of_looped, AreMeasured, StopsMeasuring}
use Rattle.fs_components.specs.Measures.{PartMeasures, checked_cylinder}

module _ (s : GluedPolygons) (v : PlaneVector) where
  -- a part has one result
  pub measures_unique : (p : Part) (a b : Result PartMeasures Place) → GivesMeasures s v p a → GivesMeasures s v p b → a ≡ b
  measures_unique p _ _ (of_cylinder letter kind is) (of_cylinder other kind_too it) =
      ap (λ (l : Letter). checked_cylinder s.d (unsigned_abs s.den) v p.width l.back) (heads_equal letter other [] [] (sym is ∙ it))
  measures_unique p _ _ (of_cylinder letter kind is) (of_looped from to looped) = let e = sym kind ∙ looped in absurd cc
  measures_unique p _ _ (of_looped from to looped) (of_cylinder letter kind is) = let e = sym kind ∙ looped in absurd cc
  measures_unique p _ _ (of_looped from to looped) (of_looped from_too to_too looped_too) = refl

  measured_unique : (ps : List Part) (ms ns : List Measured) → AreMeasured s v ps ms → AreMeasured s v ps ns → ms ≡ ns
  measured_unique [] [] [] h k = refl
  measured_unique [] [] (n ∷ ns) h k = absurd k
  measured_unique [] (m ∷ ms) ns h k = absurd h
  measured_unique (p ∷ ps) [] ns h k = absurd h
  measured_unique (p ∷ ps) (m ∷ ms) [] h k = absurd k
  measured_unique (p ∷ ps) (m ∷ ms) (n ∷ ns) h k =
      cons_equal m n ms ns
      (h.0.2 ∙ ap (measured p) (ok_equal h.0.0 k.0.0 (measures_unique p (Ok h.0.0) (Ok k.0.0) h.0.1 k.0.1)) ∙ sym k.0.2)
      (measured_unique ps ms ns h.1 k.1)

  not_both : (p : Part) (m : PartMeasures) (stop : Place) → GivesMeasures s v p (Ok m) → ¬ GivesMeasures s v p (Err stop)
  not_both p m stop h k = ok_not_err m stop (measures_unique p (Ok m) (Err stop) h k)

  -- the first part that overflows is one
  first_unique : (before others : List Part) (p q : Part) (after rest : List Part) (done also : List Measured) (stop other : Place) → before ++ p ∷ after ≡ others ++ q ∷ rest
      → AreMeasured s v before done → AreMeasured s v others also → GivesMeasures s v p (Err stop) → GivesMeasures s v q (Err other) → (length before ≡ length others) × (stop ≡ other)
  first_unique [] [] p q after rest done also stop other is h k g e =
      (refl, err_equal stop other (measures_unique q (Err stop) (Err other) (subst (λ x. GivesMeasures s v x (Err stop)) (heads_equal p q after rest is) g) e))
  first_unique [] (o ∷ others) p q after rest done [] stop other is h k g e = absurd k
  first_unique [] (o ∷ others) p q after rest done (m ∷ also) stop other is h k g e =
      absurd (not_both o k.0.0 stop k.0.1 (subst (λ x. GivesMeasures s v x (Err stop)) (heads_equal p o after (others ++ q ∷ rest) is) g))
  first_unique (b ∷ before) [] p q after rest [] also stop other is h k g e = absurd h
  first_unique (b ∷ before) [] p q after rest (m ∷ done) also stop other is h k g e =
      absurd (not_both b h.0.0 other h.0.1 (subst (λ x. GivesMeasures s v x (Err other)) (sym (heads_equal b q (before ++ p ∷ after) rest is)) e))
  first_unique (b ∷ before) (o ∷ others) p q after rest [] also stop other is h k g e = absurd h
  first_unique (b ∷ before) (o ∷ others) p q after rest (m ∷ done) [] stop other is h k g e = absurd k
  first_unique (b ∷ before) (o ∷ others) p q after rest (m ∷ done) (n ∷ also) stop other is h k g e =
      let more = first_unique before others p q after rest done also stop other (tails_equal b o (before ++ p ∷ after) (others ++ q ∷ rest) is) h.1 k.1 g e in
      (ap (λ (n : ℕ). suc n) more.0, more.1)

  stops_unique : (ps : List Part) (one other : Site) → StopsMeasuring s v ps one → StopsMeasuring s v ps other → one ≡ other
  stops_unique ps one other h k =
      let same = first_unique h.before k.before h.part k.part h.after k.after h.done k.done h.stop k.stop (sym h.is ∙ k.is) h.measured_before k.measured_before h.overflows k.overflows in
      h.at ∙ (λ i. Value (same.0 i) (same.1 i).0) ∙ sym k.at

  measured_around : (before : List Part) (p : Part) (after : List Part) (ms : List Measured) → AreMeasured s v (before ++ p ∷ after) ms → (m : PartMeasures) × GivesMeasures s v p (Ok m)
  measured_around [] p after [] h = absurd h
  measured_around [] p after (m ∷ ms) h = (h.0.0, h.0.1)
  measured_around (b ∷ before) p after [] h = absurd h
  measured_around (b ∷ before) p after (m ∷ ms) h = measured_around before p after ms h.1

  -- ---- all parts

  -- all parts are measured, or one overflows
  pub data MeasureAll (parts : List Part) : Result (List Measured) Site → Type 0 where
    all_measured : (list : List Measured) → AreMeasured s v parts list → MeasureAll parts (Ok list)
    one_stops : (site : Site) → StopsMeasuring s v parts site → MeasureAll parts (Err site)

  -- in one way
  pub all_unique : (parts : List Part) (a b : Result (List Measured) Site) → MeasureAll parts a → MeasureAll parts b → a ≡ b
  all_unique parts _ _ (all_measured list h) (all_measured other k) = ap (λ (l : List Measured). Ok l) (measured_unique parts list other h k)
  all_unique parts _ _ (all_measured list h) (one_stops site k) =
      let m = measured_around k.before k.part k.after list (subst (λ ps. AreMeasured s v ps list) k.is h) in
      absurd (not_both k.part m.0 k.stop m.1 k.overflows)
  all_unique parts _ _ (one_stops site k) (all_measured list h) =
      let m = measured_around k.before k.part k.after list (subst (λ ps. AreMeasured s v ps list) k.is h) in
      absurd (not_both k.part m.0 k.stop m.1 k.overflows)
  all_unique parts _ _ (one_stops site h) (one_stops other k) = ap (λ (x : Site). Err x) (stops_unique parts site other h k)
