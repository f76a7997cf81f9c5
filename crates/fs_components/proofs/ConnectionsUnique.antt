-- The list of connections ends in exactly one way.
use Rattle.std.proofs.Common.{◌≡◌, ◌≢◌, ℕ, suc, Result, Ok, Err, List, [], ◌∷◌, ◌++◌, length, refl, sym, ap, ◌∙◌, subst}
use Rattle.std.specs.Prelude.{IsPermutation}
use Rattle.fs_lists.proofs.All.{All-between}
use Rattle.fs_lists.proofs.Equal.{cons_equal, heads_equal, tails_equal}
use Rattle.fs_lists.proofs.Results.{ok_not_err, err_equal}
use Rattle.fs_quadratic.specs.declared.steps.Place.{Place}
use Rattle.fs_plane.specs.declared.listing.Listed.{Listed}
use Rattle.fs_plane.specs.declared.sites.Site.TheVariants.{Keep}
use Rattle.fs_plane.specs.declared.sites.Stop.{Stop}
use Rattle.fs_plane.specs.declared.sites.Stop.TheVariants.{Undecided, Overflow, NoMemory}
use Rattle.fs_plane.specs.ListedLaws.{listed_total}
use Rattle.fs_plane.specs.Listing.{keep}
use Rattle.fs_plane.specs.Vector.{PlaneVector, vector_zero}
use Rattle.fs_gluing.specs.Surface.{GluedPolygons}
use Rattle.fs_rauzy.specs.declared.events.Found.{Found}
use Rattle.fs_components.specs.Connections.{AreKeepable, AreEntriesOf, no_entry, left_out, kept, EndsConnections, keep_overflows, listed, ReturnsConnections}
use Rattle.fs_plane.proofs.EqualListed.{listed_equal, listed_exact}
use Rattle.fs_components.proofs.PickedSides.{connections_unique}
use Rattle.fs_lists.proofs.SortedLists.{sorted_unique}

entries_unique : (d : ℕ) (connections : List Found) (one other : List Listed) → AreEntriesOf d connections one → AreEntriesOf d connections other → one ≡ other
entries_unique d _ _ _ no_entry no_entry = refl
entries_unique d _ _ _ (left_out c cs es null rest) (left_out _ _ fs also others) = entries_unique d cs es fs rest others
entries_unique d _ _ _ (left_out c cs es null rest) (kept _ _ f fs some is others) = absurd (some null)
entries_unique d _ _ _ (kept c cs e es some is rest) (left_out _ _ fs null others) = absurd (some null)
entries_unique d _ _ _ (kept c cs e es some is rest) (kept _ _ f fs also it others) =
    cons_equal e f es fs (listed_equal e f (is.field ∙ sym it.field) (is.vector ∙ sym it.vector) (is.corner ∙ sym it.corner)) (entries_unique d cs es fs rest others)

-- a connection that can't be kept
record IsUnkept (connection : Found) (stop : Place) : Type 0 where
  pub nonzero : connection.v ≢ vector_zero
  pub overflows : keep connection.v ≡ Err stop

abbrev IsKeepable : Found → Type 0
IsKeepable connection = connection.v ≢ vector_zero → keep connection.v ≡ Ok connection.v

not_both : (connection : Found) (stop : Place) → IsKeepable connection → ¬ IsUnkept connection stop
not_both connection stop k u = ok_not_err connection.v stop (sym (k u.nonzero) ∙ u.overflows)

-- the first connection that can't be kept is one
first_unique : (before others : List Found) (c e : Found) (after rest : List Found) (stop other : Place) → before ++ c ∷ after ≡ others ++ e ∷ rest → AreKeepable before → AreKeepable others
    → IsUnkept c stop → IsUnkept e other → (length before ≡ length others) × (stop ≡ other)
first_unique [] [] c e after rest stop other is p q u w =
    (refl, err_equal stop other (sym u.overflows ∙ ap (λ (x : Found). keep x.v) (heads_equal c e after rest is) ∙ w.overflows))
first_unique [] (o ∷ others) c e after rest stop other is p q u w =
    absurd (not_both o stop q.0 (subst (λ x. IsUnkept x stop) (heads_equal c o after (others ++ e ∷ rest) is) u))
first_unique (b ∷ before) [] c e after rest stop other is p q u w =
    absurd (not_both b other p.0 (subst (λ x. IsUnkept x other) (sym (heads_equal b e (before ++ c ∷ after) rest is)) w))
first_unique (b ∷ before) (o ∷ others) c e after rest stop other is p q u w =
    let more = first_unique before others c e after rest stop other (tails_equal b o (before ++ c ∷ after) (others ++ e ∷ rest) is) p.1 q.1 u w in
    (ap (λ (n : ℕ). suc n) more.0, more.1)

module _ (s : GluedPolygons) (v : PlaneVector) (found : List Found) where
  -- a list ends in one way
  pub list_unique : (a b : Result (List Listed) Stop) → EndsConnections s v found a → EndsConnections s v found b → a ≡ b
  list_unique _ _ (keep_overflows cs before after c stop are is keepable some overflows) (keep_overflows es others rest e other are_too it keepable_too also overflows_too) =
      let same = first_unique before others c e after rest stop other (sym is ∙ connections_unique s v found cs es are are_too ∙ it) keepable keepable_too
      (record { nonzero = some; overflows = overflows }) (record { nonzero = also; overflows = overflows_too }) in
      λ i. Err (Overflow (Keep (same.0 i) (same.1 i).0))
  list_unique _ _ (keep_overflows cs before after c stop are is keepable some overflows) (listed es entries list are_too keepable_too entries_too all ascending) =
      absurd (not_both c stop (All-between IsKeepable es before after c (connections_unique s v found es cs are_too are ∙ is) keepable_too) (record { nonzero = some; overflows = overflows }))
  list_unique _ _ (listed cs entries list are keepable of all ascending) (keep_overflows es before after e stop are_too it keepable_too some overflows) =
      absurd (not_both e stop (All-between IsKeepable cs before after e (connections_unique s v found cs es are are_too ∙ it) keepable) (record { nonzero = some; overflows = overflows }))
  list_unique _ _ (listed cs entries list are keepable of all ascending) (listed es entries_too other are_too keepable_too of_too all_too ascending_too) =
      let same = entries_unique s.d cs entries entries_too of (subst (λ xs. AreEntriesOf s.d xs entries_too) (connections_unique s v found es cs are_too are) of_too) in
      ap (λ (l : List Listed). Ok l) (sorted_unique listed_total listed_exact entries list other all (subst (λ (xs : List Listed). IsPermutation xs other) (sym same) all_too) ascending ascending_too)

  -- what a call returns is the one end of the list
  pub list_returned : (result : Result (List Listed) Stop) → ReturnsConnections (EndsConnections s v found) result → (given : Result (List Listed) Stop) → EndsConnections s v found given
      → ReturnsConnections (λ returned. returned ≡ given) result
  list_returned (Ok list) h given ends = list_unique (Ok list) given h ends
  list_returned (Err NoMemory) h given ends = tt
  list_returned (Err (Undecided n)) h given ends = h
  list_returned (Err (Overflow site)) h given ends = list_unique (Err (Overflow site)) given h ends
