-- Each event keeps that the flow from each position meets exactly one base: of an open component, or of one that has closed. A library for crates to come.
use Rattle.std.proofs.Common.{◌≡◌, ◌≢◌, ℕ, List, [], ◌∷◌, ◌++◌, map, refl, sym, ◌∙◌, subst, inl, inr}
use Rattle.std.specs.List.{AllByRecursion}
use Rattle.std.proofs.lemmas.List.Sorted.{IsPermutation-middle, IsPermutation-sym}
use Rattle.fs_lists.specs.Members.{IsDistinct}
use Rattle.fs_ring.specs.OrderedRing.{IsOrderedRing}
use Rattle.fs_quadratic.specs.Ring.{quadratic, IsPositive}
use Rattle.fs_plane.specs.Vector.{PlaneVector, vector_zero}
use Rattle.fs_gluing.specs.Exchanges.{Component, IsLawful}
use Rattle.fs_gluing.specs.Surface.{GluedPolygons, IsTranslationSurface}
use Rattle.fs_iet.proofs.Rearrangements.{in_permutation}
use Rattle.fs_iet.proofs.SideMeasures.{surface_order}
use Rattle.fs_rauzy.specs.declared.events.Event.{Event}
use Rattle.fs_rauzy.specs.declared.events.Event.TheVariants.{Won, Merged, Split, Closed}
use Rattle.fs_rauzy.specs.Events.{Outcome, Makes, splits, closes, wins_above, wins_below, merges}
use Rattle.fs_rauzy.specs.FirstReturns.{AllGiveReturns}
use Rattle.fs_rauzy.specs.Towers.{Base, base_of}
use Rattle.fs_rauzy.proofs.BasesMet.{AreMetOnce, met_in_order, met_after_shortened}
use Rattle.fs_rauzy.proofs.DividedBases.{met_after_split}
use Rattle.fs_rauzy.proofs.DividedComponents.{divided_by_split}
use Rattle.fs_rauzy.proofs.EventRows.{won_above_lawful, won_below_lawful, merged_lawful, split_left_lawful, split_right_lawful}
use Rattle.fs_rauzy.proofs.ShortenedComponents.{shortened_by_top, shortened_by_bottom, shortened_by_merge}

-- the base of the component that an event closes
abbrev pub closed_base : Event → List Component → List Base
closed_base Closed [] = []
closed_base Closed (c ∷ rest) = base_of c ∷ []
closed_base (Won top) components = []
closed_base (Merged found) components = []
closed_base (Split k found) components = []

-- items that differ still differ when the first one is put further on
distinct_moved : {X : Type 0} (x : X) (xs ys : List X) → IsDistinct (x ∷ (xs ++ ys)) → IsDistinct (xs ++ x ∷ ys)
distinct_moved x [] ys p = p
distinct_moved x (z ∷ xs) ys p = (
  (λ y h e. elim (in_permutation y (xs ++ x ∷ ys) (x ∷ (xs ++ ys)) (IsPermutation-middle xs x ys) h) [
    | inl same ↦ p.0 z (inl refl) (sym same ∙ sym e)
    | inr k ↦ p.1.0 y k e
  ]),
  distinct_moved x xs ys ((λ y h. p.0 y (inr h)), p.1.1),
)

module _ (s : GluedPolygons) (v : PlaneVector) (surface : IsTranslationSurface s) (some : v ≢ vector_zero) where
  abbrev L : IsOrderedRing (quadratic s.d) (IsPositive s.d)
  L = surface_order s surface

  closed_later : (b : Base) (rest others : List Base) → AreMetOnce s v (b ∷ (rest ++ others)) → AreMetOnce s v (rest ++ b ∷ others)
  closed_later b rest others old = (
    met_in_order s v (λ u. (
      in_permutation u (b ∷ (rest ++ others)) (rest ++ b ∷ others) (IsPermutation-sym (rest ++ b ∷ others) (b ∷ (rest ++ others)) (IsPermutation-middle rest b others)),
      in_permutation u (rest ++ b ∷ others) (b ∷ (rest ++ others)) (IsPermutation-middle rest b others),
    )) old.0,
    distinct_moved b rest others old.1,
  )

  kept : {components : List Component} {outcome : Outcome} (closed : List Base) → AllByRecursion (IsLawful s.d) components → Makes s.d components outcome → AllGiveReturns s v components
      → AreMetOnce s v (map base_of components ++ closed) → AreMetOnce s v (map base_of outcome.components ++ (closed_base outcome.event components ++ closed))
  kept closed lawful (splits c left right rest k found split) g old =
      met_after_split s v surface some lawful.0 (split_left_lawful L lawful.0 split) (split_right_lawful L lawful.0 split) g.0 (divided_by_split L split) old
  kept closed lawful (closes c rest) g old = closed_later (base_of c) (map base_of rest) closed old
  kept closed lawful (wins_above c after rest won) g old =
      let lawful_after = won_above_lawful L lawful.0 won in
      met_after_shortened s v surface some lawful.0 lawful_after g.0 (shortened_by_top L lawful.0 lawful_after won) old
  kept closed lawful (wins_below c after rest won) g old =
      let lawful_after = won_below_lawful L lawful.0 won in
      met_after_shortened s v surface some lawful.0 lawful_after g.0 (shortened_by_bottom L lawful.0 lawful_after won) old
  kept closed lawful (merges c after rest found merged) g old =
      let lawful_after = merged_lawful L lawful.0 merged in
      met_after_shortened s v surface some lawful.0 lawful_after g.0 (shortened_by_merge L lawful.0 lawful_after merged) old

-- each event keeps that the flow from each position meets exactly one base, of every surface and direction, where components give first returns
pub events_keep_bases : {d : ℕ} {components : List Component} {outcome : Outcome} → AllByRecursion (IsLawful d) components → Makes d components outcome
    → (s : GluedPolygons) (v : PlaneVector) → IsTranslationSurface s → v ≢ vector_zero → s.d ≡ d → AllGiveReturns s v components → (closed : List Base)
    → AreMetOnce s v (map base_of components ++ closed) → AreMetOnce s v (map base_of outcome.components ++ (closed_base outcome.event components ++ closed))
events_keep_bases {d} {components} {outcome} lawful made s v surface some same g closed old =
    kept s v surface some closed (subst (λ (e : ℕ). AllByRecursion (IsLawful e) components) (sym same) lawful) (subst (λ (e : ℕ). Makes e components outcome) (sym same) made) g old
