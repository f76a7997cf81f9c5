-- There is at most one exchange of a flow, and one site where it overflows.
use Rattle.std.proofs.Common.{◌≡◌, ◌≢◌, ◌↔◌, ℕ, ◌<◌, Bool, true, false, Some, List, [], ◌∷◌, length, map, Result, Ok, Err, refl, sym, ap, ◌∙◌}
use Rattle.std.proofs.lemmas.List.{map-id}
use Rattle.std.specs.List.{slice_get}
use Rattle.fs_lists.specs.Members.{IsDistinct}
use Rattle.fs_lists.proofs.Equal.{heads_equal, tails_equal}
use Rattle.fs_lists.proofs.Results.{err_equal}
use Rattle.fs_plane.specs.declared.corners.Corner.{Corner}
use Rattle.fs_plane.specs.declared.sites.Site.{Site}
use Rattle.fs_plane.specs.Vector.{PlaneVector, vector_zero}
use Rattle.fs_gluing.specs.Exchanges.{Component, Letter, IsChainIn, IsTopRow, IsBottomRow, IsLetterOf, IsExchange}
use Rattle.fs_gluing.specs.Surface.{GluedPolygons, IsTranslationSurface}
use Rattle.fs_gluing.specs.SurfaceSides.{partner}
use Rattle.fs_iet.specs.declared.rows.Row.{Row}
use Rattle.fs_iet.specs.declared.rows.Row.TheVariants.{Top, Bottom}
use Rattle.fs_iet.specs.ExchangeSites.{GivesExchange, letter_overflows, shift_overflows, exchanged}
use Rattle.fs_iet.specs.Rows.{IsInRow, to_right_in}
use Rattle.fs_iet.proofs.ItemRuns.{run_unique}
use Rattle.fs_iet.proofs.ListsInTurn.{maps_equal, number_unique, item_of_other}
use Rattle.fs_iet.proofs.PolygonRows.{row_run}
use Rattle.fs_iet.proofs.RowChains.{row_unique}
use Rattle.fs_iet.proofs.RowLetters.{not_ok}
use Rattle.fs_iet.proofs.SidesOfRows.{top_row_distinct}

-- ---- letters

same_decision : (a b : Bool) (P : Type 0) → (a ≡ true) ↔ P → (b ≡ true) ↔ P → a ≡ b
same_decision true b P f g = sym (g.1 (f.0 refl))
same_decision false true P f g = f.1 (g.0 refl)
same_decision false false P f g = refl

-- a side has one letter of a name
letter_unique : (s : GluedPolygons) (v : PlaneVector) (f : Corner) (name : ℕ) (a b : Letter) → IsLetterOf s v f name a → IsLetterOf s v f name b → a ≡ b
letter_unique s v f name a b h k =
    let named = h.named ∙ sym k.named in
    let long = h.length ∙ sym k.length in
    let back = h.back ∙ sym k.back in
    let corner = h.corner ∙ sym k.corner in
    let start = h.start ∙ sym k.start in
    let start_real = same_decision a.start.real b.start.real _ h.start_real k.start_real in
    let end = h.end ∙ sym k.end in
    let end_real = same_decision a.end.real b.end.real _ h.end_real k.end_real in
    λ i. record {
      name = named i;
      length = long i;
      back = back i;
      corner = corner i;
      start = record { vector = start i; real = start_real i };
      end = record { vector = end i; real = end_real i };
    }

-- ---- names

-- numbers of items of a list without repetition are determined by the items
names_unique : {X : Type 0} (outgoing : List Corner) (other : X → Corner) → IsDistinct outgoing → (sides : List X) (names others : List ℕ) → map (λ n. slice_get outgoing n) names ≡ map (λ e. Some (other e)) sides
    → map (λ n. slice_get outgoing n) others ≡ map (λ e. Some (other e)) sides → names ≡ others
names_unique outgoing other once [] [] [] e f = refl
names_unique outgoing other once [] [] (k ∷ others) e f = cc
names_unique outgoing other once [] (n ∷ names) others e f = cc
names_unique outgoing other once (x ∷ sides) [] others e f = cc
names_unique outgoing other once (x ∷ sides) (n ∷ names) [] e f = cc
names_unique outgoing other once (x ∷ sides) (n ∷ names) (k ∷ others) e f =
    λ i. number_unique outgoing once n k (other x) (heads_equal _ _ _ _ e) (heads_equal _ _ _ _ f) i ∷ names_unique outgoing other once sides names others (tails_equal _ _ _ _ e) (tails_equal _ _ _ _ f) i

module _ (s : GluedPolygons) (surface : IsTranslationSurface s) (v : PlaneVector) (some : v ≢ vector_zero) where
  -- ---- rows

  -- a polygon has one chain in a row
  chain_unique : (row : Row) (i : ℕ) (xs ys : List Corner) → i < length s.polygons → IsChainIn (to_right_in s row) (IsInRow s v row) i xs → IsChainIn (to_right_in s row) (IsInRow s v row) i ys → xs ≡ ys
  chain_unique row i xs ys l h k =
      let r = row_run surface some i l row in
      run_unique r.run xs h.sides h.in_turn ∙ sym (run_unique r.run ys k.sides k.in_turn)

  top_row_unique : (row other : List Corner) → IsTopRow s v row → IsTopRow s v other → row ≡ other
  top_row_unique row other h k = row_unique (length s.polygons) row other (λ i xs ys l. chain_unique Top i xs ys l) h k

  bottom_row_unique : (row other : List Corner) → IsBottomRow s v row → IsBottomRow s v other → row ≡ other
  bottom_row_unique row other h k = row_unique (length s.polygons) row other (λ i xs ys l. chain_unique Bottom i xs ys l) h k

  -- ---- exchanges

  module _ {c e : Component} (h : IsExchange s v c) (k : IsExchange s v e) where
    outgoing_same : h.outgoing ≡ k.outgoing
    outgoing_same = top_row_unique h.outgoing k.outgoing h.top_row k.top_row

    incoming_same : h.incoming ≡ k.incoming
    incoming_same = bottom_row_unique h.incoming k.incoming h.bottom_row k.bottom_row

    letters_same : c.top ≡ e.top
    letters_same =
        sym (map-id c.top)
        ∙ maps_equal (λ (l : Letter). l) (λ (l : Letter). l) c.top e.top (h.as_many ∙ ap length outgoing_same ∙ sym k.as_many)
        (λ n a b there_a there_b.
        let side = item_of_other c.top h.outgoing n a h.as_many there_a in
        letter_unique s v side.0 n a b (h.letters n side.0 a side.1 there_a) (k.letters n side.0 b (ap (λ row. slice_get row n) (sym outgoing_same) ∙ side.1) there_b))
        ∙ map-id e.top

    names_same : c.bottom ≡ e.bottom
    names_same =
        names_unique h.outgoing (λ x. partner s.polygons x) (top_row_distinct s surface v some h.top_row) h.incoming c.bottom e.bottom h.bottom
        ((λ i. map (λ n. slice_get (outgoing_same i) n) e.bottom) ∙ k.bottom ∙ ap (map (λ x. Some (partner s.polygons x))) (sym incoming_same))

    -- any two exchanges of a flow are the same
    pub exchange_unique : c ≡ e
    exchange_unique =
        let base = h.base ∙ sym k.base in
        let total = h.total ∙ sym k.total in
        let top = letters_same in
        let bottom = names_same in
        λ i. record { base = base i; total = total i; top = top i; bottom = bottom i }

  -- so are any two that are given, or the first sites
  pub given_unique : (a b : Result Component Site) → GivesExchange s v a → GivesExchange s v b → a ≡ b
  given_unique a b (letter_overflows p e) (letter_overflows q f) = ap (λ (x : Site). Err x) (err_equal p q (sym e ∙ f))
  given_unique a b (letter_overflows p e) (shift_overflows q ok f) = absurd (not_ok _ p e ok)
  given_unique a b (letter_overflows p e) (exchanged c ok fits h) = absurd (not_ok _ p e ok)
  given_unique a b (shift_overflows p ok e) (letter_overflows q f) = absurd (not_ok _ q f ok)
  given_unique a b (shift_overflows p ok e) (shift_overflows q other f) = ap (λ (x : Site). Err x) (err_equal p q (sym e ∙ f))
  given_unique a b (shift_overflows p ok e) (exchanged c other fits h) = absurd (not_ok _ p e fits)
  given_unique a b (exchanged c ok fits h) (letter_overflows q f) = absurd (not_ok _ q f ok)
  given_unique a b (exchanged c ok fits h) (shift_overflows q other f) = absurd (not_ok _ q f fits)
  given_unique a b (exchanged c ok fits h) (exchanged e other all k) = ap (λ (x : Component). Ok x) (exchange_unique h k)
