-- The connections that are kept one after another, and the first that can't be.
use Rattle.std.proofs.Common.{◌≡◌, ◌≢◌, ℕ, ◌+◌, List, [], ◌∷◌, ◌++◌, take, drop, sym, ap, ◌∙◌, subst, arith}
use Rattle.std.proofs.lemmas.List.{take-append-drop, take_more, length-take-le}
use Rattle.fs_lists.proofs.All.{All-append}
use Rattle.fs_lists.proofs.Items.{IsItem, drop_item}
use Rattle.fs_plane.specs.declared.listing.Listed.{Listed}
use Rattle.fs_plane.specs.declared.sites.Stop.{Stop}
use Rattle.fs_plane.specs.declared.sites.Stop.TheVariants.{Undecided, Overflow, NoMemory}
use Rattle.fs_plane.specs.Vector.{vector_zero}
use Rattle.fs_rauzy.specs.declared.events.Found.{Found}
use Rattle.fs_components.specs.Connections.{IsEntryOf, AreKeepable, AreEntriesOf, no_entry, left_out, kept}
use Rattle.fs_components.specs.Gathering.{AreKept, IsKeptAfter, is_zero, is_kept, IsTooLarge, StopsAtConnection, StopsKeeping}

module _ (d : ℕ) where
  more_left_out : (xs : List Found) (es : List Listed) (x : Found) → x.v ≡ vector_zero → AreEntriesOf d xs es → AreEntriesOf d (xs ++ x ∷ []) es
  more_left_out _ _ x null no_entry = left_out x [] [] null no_entry
  more_left_out _ _ x null (left_out y xs es z rest) = left_out y (xs ++ x ∷ []) es z (more_left_out xs es x null rest)
  more_left_out _ _ x null (kept y xs e es z is rest) = kept y (xs ++ x ∷ []) e es z is (more_left_out xs es x null rest)

  more_kept : (xs : List Found) (es : List Listed) (x : Found) (entry : Listed) → x.v ≢ vector_zero → IsEntryOf d x entry → AreEntriesOf d xs es → AreEntriesOf d (xs ++ x ∷ []) (es ++ entry ∷ [])
  more_kept _ _ x entry some is no_entry = kept x [] entry [] some is no_entry
  more_kept _ _ x entry some is (left_out y xs es z rest) = left_out y (xs ++ x ∷ []) (es ++ entry ∷ []) z (more_kept xs es x entry some is rest)
  more_kept _ _ x entry some is (kept y xs e es z it rest) = kept y (xs ++ x ∷ []) e (es ++ entry ∷ []) z it (more_kept xs es x entry some is rest)

  -- no connection
  pub kept_none : AreKept d [] []
  kept_none = record { keepable = tt; entries = no_entry }

  module _ (connections : List Found) (i : ℕ) (x : Found) (item : IsItem connections i x) where
    before_and_this : take (i + 1) connections ≡ take i connections ++ x ∷ []
    before_and_this = take_more connections i x item.inside ∙ ap (λ c. take i connections ++ c ∷ []) (sym item.is)

    -- one connection more is kept
    pub kept_next : (before after : List Listed) → IsKeptAfter d x before after → AreKept d (take i connections) before → AreKept d (take (i + 1) connections) after
    kept_next before _ (is_zero null) are =
        subst (λ xs. AreKept d xs before) (sym before_and_this)
        (record {
          keepable = All-append _ (take i connections) (x ∷ []) are.keepable ((λ some. absurd (some null)), tt);
          entries = more_left_out (take i connections) before x null are.entries;
        })
    kept_next before _ (is_kept entry some fits is) are =
        subst (λ xs. AreKept d xs (before ++ entry ∷ [])) (sym before_and_this)
        (record {
          keepable = All-append _ (take i connections) (x ∷ []) are.keepable ((λ n. fits), tt);
          entries = more_kept (take i connections) before x entry some is are.entries;
        })

    -- or it is the first that can't be
    pub stops_next : (n : ℕ) (stop : Stop) → n ≡ i → AreKeepable (take i connections) → StopsAtConnection x n stop → StopsKeeping connections stop
    stops_next n NoMemory same keepable stops = tt
    stops_next n (Undecided k) same keepable stops = absurd stops
    stops_next n (Overflow site) same keepable stops = record {
      before = take i connections;
      connection = x;
      after = drop (i + 1) connections;
      is = sym (take-append-drop i connections) ∙ ap (λ rest. take i connections ++ rest) (drop_item connections i x item);
      keepable = keepable;
      too_large = subst (λ k. IsTooLarge x k site) (same ∙ sym (length-take-le i connections (let inside = item.inside in omega arith))) stops;
    }
