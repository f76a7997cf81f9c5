-- The exchange of a direction gives first returns, and each event keeps them.
use Rattle.std.proofs.Common.{◌≡◌, ◌≢◌, ℕ, ◌+◌, List, length, sym, ◌∙◌, subst, arith}
use Rattle.std.specs.List.{AllByRecursion}
use Rattle.fs_ring.proofs.Order as order
use Rattle.fs_ring.proofs.RingLaws as ring_laws
use Rattle.fs_quadratic.specs.Ring.{Quadratic, add, zero as nil}
use Rattle.fs_plane.specs.Vector.{PlaneVector, vector_zero}
use Rattle.fs_gluing.specs.CrossingMap.{block_start}
use Rattle.fs_gluing.specs.Exchanges.{Letter, Component, IsLawful, Takes, IsExchange}
use Rattle.fs_gluing.specs.Surface.{GluedPolygons, IsTranslationSurface}
use Rattle.fs_iet.specs.FirstReturns.{IsFirstReturn}
use Rattle.fs_iet.proofs.ExchangeCrossings.{crosses_of_takes}
use Rattle.fs_iet.proofs.FirstReturns.{first_return_within, first_return_later}
use Rattle.fs_iet.proofs.Orbits.{orbit_of_crossing}
use Rattle.fs_iet.proofs.SideMeasures.{surface_order}
use Rattle.fs_iet.proofs.TakenPositions.{takes_within}
use Rattle.fs_rauzy.specs.Events.{Outcome, Makes, splits, closes, wins_above, wins_below, merges}
use Rattle.fs_rauzy.specs.FirstReturns.{GivesReturns, AllGiveReturns, KeepsReturns}
use Rattle.fs_rauzy.proofs.DividedComponents.{divided_by_split, taken_by_left, taken_by_right}
use Rattle.fs_rauzy.proofs.EventRows.{won_above_lawful, won_below_lawful, merged_lawful, split_left_lawful, split_right_lawful}
use Rattle.fs_rauzy.proofs.ShortenedComponents.{shortened_by_top, shortened_by_bottom, shortened_by_merge}
use Rattle.fs_rauzy.proofs.TakenAfter.{TakenAs, once, twice, IsTakenFrom, taken_of_shortened}

module _ (s : GluedPolygons) (v : PlaneVector) (surface : IsTranslationSurface s) (some : v ≢ vector_zero) where
  -- a component that takes what another takes, once or twice, gives first returns where that does
  returns_of_taken : {c after : Component} → GivesReturns s v c → IsTakenFrom s.d c after → GivesReturns s v after
  returns_of_taken {c} {after} g k = record {
    from_zero = order.at_most_trans (surface_order s surface) nil c.base after.base g.from_zero k.from_left;
    to_total =
        order.at_most_trans (surface_order s surface) (add after.base after.total) (add c.base c.total) (block_start s v (length s.polygons)) k.to_right g.to_total;
    returns = λ letter y z t. go letter y z t (k.taken letter y z t);
  }
    where
      go : (letter : Letter) (y z : Quadratic) → Takes s.d after letter y z → TakenAs s.d c after letter y z
          → (m : ℕ) × IsFirstReturn s v after.base (add after.base after.total) m y z letter.back
      go letter y z t (once old u e) =
          let first = g.returns old y z u in (
            first.0,
            subst (IsFirstReturn s v after.base (add after.base after.total) first.0 y z) (sym e)
                (first_return_within s surface v some k.from_left k.to_right first.1 (k.within letter y z t)),
          )
      go letter y z t (twice a b u taken out taken2 e) =
          let first = g.returns a y u taken in
          let second = g.returns b u z taken2 in (
            first.0 + second.0,
            subst (IsFirstReturn s v after.base (add after.base after.total) (first.0 + second.0) y z) (sym e)
                (first_return_later s surface v some k.from_left k.to_right first.1 out
                (first_return_within s surface v some k.from_left k.to_right second.1 (k.within letter y z t))),
          )

  kept : {components : List Component} {outcome : Outcome} → AllByRecursion (IsLawful s.d) components → Makes s.d components outcome → AllGiveReturns s v components
      → AllGiveReturns s v outcome.components
  kept lawful (splits c left right rest k found split) g =
      let L = surface_order s surface in
      let left_lawful = split_left_lawful L lawful.0 split in
      let right_lawful = split_right_lawful L lawful.0 split in
      let divided = divided_by_split L split in (
        returns_of_taken g.0 (taken_by_right L lawful.0 left_lawful right_lawful divided),
        (returns_of_taken g.0 (taken_by_left L lawful.0 left_lawful right_lawful divided), g.1),
      )
  kept lawful (closes c rest) g = g.1
  kept lawful (wins_above c after rest won) g =
      let L = surface_order s surface in
      let lawful_after = won_above_lawful L lawful.0 won in
      (returns_of_taken g.0 (taken_of_shortened L lawful.0 (shortened_by_top L lawful.0 lawful_after won) lawful_after), g.1)
  kept lawful (wins_below c after rest won) g =
      let L = surface_order s surface in
      let lawful_after = won_below_lawful L lawful.0 won in
      (returns_of_taken g.0 (taken_of_shortened L lawful.0 (shortened_by_bottom L lawful.0 lawful_after won) lawful_after), g.1)
  kept lawful (merges c after rest found merged) g =
      let L = surface_order s surface in
      let lawful_after = merged_lawful L lawful.0 merged in
      (returns_of_taken g.0 (taken_of_shortened L lawful.0 (shortened_by_merge L lawful.0 lawful_after merged) lawful_after), g.1)

  -- what the exchange of a surface and a direction takes, the flow takes by one crossing, and is back on the base
  pub exchange_returns : {c : Component} {letter : Letter} {y z : Quadratic} → IsExchange s v c → IsLawful s.d c → Takes s.d c letter y z
      → IsFirstReturn s v c.base (add c.base c.total) 1 y z letter.back
  exchange_returns exchange lawful t = record {
    some = omega arith;
    orbit = orbit_of_crossing s v (crosses_of_takes s surface v some exchange t).1;
    returned = (takes_within (surface_order s surface) lawful t).1;
    not_before = λ i u g p q o inside. absurd (omega arith);
  }

  -- the exchange of a surface and a direction gives first returns: each is one crossing
  pub exchange_gives_returns : {d : ℕ} {c : Component} → s.d ≡ d → IsExchange s v c → IsLawful d c → GivesReturns s v c
  exchange_gives_returns {d} {c} same exchange lawful = record {
    from_zero = order.at_most_of_eq (surface_order s surface) nil c.base (sym exchange.base);
    to_total =
        order.at_most_of_eq (surface_order s surface) (add c.base c.total) (block_start s v (length s.polygons))
        ((λ i. add (exchange.base i) (exchange.total i)) ∙ ring_laws.zero_add (surface_order s surface).ring (block_start s v (length s.polygons)));
    returns = λ letter y z t. (1, exchange_returns exchange (subst (λ (e : ℕ). IsLawful e c) (sym same) lawful) t);
  }

-- each event keeps first returns, of every surface and direction
pub events_keep_returns : {d : ℕ} {components : List Component} {outcome : Outcome} → AllByRecursion (IsLawful d) components → Makes d components outcome
    → KeepsReturns d components outcome.components
events_keep_returns {d} {components} {outcome} lawful made s v surface some same g =
    kept s v surface some (subst (λ (e : ℕ). AllByRecursion (IsLawful e) components) (sym same) lawful) (subst (λ (e : ℕ). Makes e components outcome) (sym same) made) g
