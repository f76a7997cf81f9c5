-- The exchange of a flow exists where no sum and no return vector overflows. So there is always a result: the exchange, or the first site.
use Rattle.std.proofs.Common.{◌≡◌, ◌≢◌, ◌↔◌, ℕ, zero, suc, ◌+◌, Bool, true, false, Some, Result, Ok, Err, IsOk, List, [], ◌∷◌, length, map, refl, sym, ap, ◌∙◌, subst, arith}
use Rattle.std.proofs.lemmas.Option.{same_Some, none-some}
use Rattle.std.specs.List.{slice_get, AllByRecursion}
use Rattle.std.specs.declared.cmp.Ordering.{Ordering}
use Rattle.std.specs.declared.cmp.Ordering.TheVariants.{Less, Equal, Greater}
use Rattle.fs_lists.specs.Members.{IsIn}
use Rattle.fs_quadratic.specs.Ring.{Quadratic, sign, zero as nil}
use Rattle.fs_quadratic.proofs.Signs.{sign-positive, sign-negative, positive_of_sign, negative_of_sign}
use Rattle.fs_plane.specs.declared.corners.Corner.{Corner}
use Rattle.fs_plane.specs.declared.sites.Site.{Site}
use Rattle.fs_plane.specs.Vector.{PlaneVector, vector_zero, vector_neg}
use Rattle.fs_gluing.specs.CrossingMap.{across, IsIncoming, IsOutgoing, side_width, gluing_vector, block_start}
use Rattle.fs_gluing.specs.Exchanges.{Letter, Component, IsLetterOf, IsExchange}
use Rattle.fs_gluing.specs.FirstCut.{position_in}
use Rattle.fs_gluing.specs.NextCorner.{corner_after, side_before}
use Rattle.fs_gluing.specs.Polygons.{HasSide, all_sides}
use Rattle.fs_gluing.specs.Surface.{GluedPolygons, IsTranslationSurface, IsSurface}
use Rattle.fs_gluing.specs.SurfaceSides.{partner}
use Rattle.fs_gluing.proofs.SurfaceCalls.NextCorner.{has_before, has_after}
use Rattle.fs_iet.specs.ExchangeSites.{checked_total, checked_returns, GivesExchange, letter_overflows, shift_overflows, exchanged}
use Rattle.fs_iet.proofs.BuiltExchanges.{all_of_row, partners_there}
use Rattle.fs_iet.proofs.ListsInTurn.{number_of_member}
use Rattle.fs_iet.proofs.SideMeasures.{surface_no_square, partner_incoming}
use Rattle.fs_iet.proofs.SideRows.{top_row_exists, bottom_row_exists}

-- ---- numbers of members

-- members of a list have numbers there
names_exist : {X Y : Type 0} (outgoing : List X) (other : Y → X) (incoming : List Y) → AllByRecursion (λ e. IsIn (other e) outgoing) incoming
    → (names : List ℕ) × (map (λ n. slice_get outgoing n) names ≡ map (λ e. Some (other e)) incoming)
names_exist outgoing other [] all = ([], refl)
names_exist outgoing other (e ∷ incoming) all =
    let first = number_of_member outgoing (other e) all.0 in
    let rest = names_exist outgoing other incoming all.1 in
    (first.0 ∷ rest.0, λ i. first.1 i ∷ rest.1 i)

-- ---- letters

module _ (s : GluedPolygons) (surface : IsTranslationSurface s) (v : PlaneVector) where
  -- whether the flow enters by a side is decided by the sign of its width
  incoming_test : (e : Corner) → HasSide s.polygons e → (test : Bool) × ((test ≡ true) ↔ IsIncoming s v e)
  incoming_test e has = by (sign s.d (across s v e)) refl
    where
      by : (r : Ordering) → sign s.d (across s v e) ≡ r → (test : Bool) × ((test ≡ true) ↔ IsIncoming s v e)
      by Greater is = (true, (λ t. record { side = has; enters = positive_of_sign (surface_no_square s surface) (across s v e) is }, λ i. refl))
      by Equal is = (false, (λ t. absurd cc, λ i. let k = sym is ∙ sign-positive s.d (across s v e) i.enters in absurd cc))
      by Less is = (false, (λ t. absurd cc, λ i. let k = sym is ∙ sign-positive s.d (across s v e) i.enters in absurd cc))

  -- so is whether it leaves by it
  outgoing_test : (e : Corner) → HasSide s.polygons e → (test : Bool) × ((test ≡ true) ↔ IsOutgoing s v e)
  outgoing_test e has = by (sign s.d (across s v e)) refl
    where
      by : (r : Ordering) → sign s.d (across s v e) ≡ r → (test : Bool) × ((test ≡ true) ↔ IsOutgoing s v e)
      by Less is = (true, (λ t. record { side = has; leaves = negative_of_sign (surface_no_square s surface) (across s v e) is }, λ o. refl))
      by Equal is = (false, (λ t. absurd cc, λ o. let k = sym is ∙ sign-negative s.d (across s v e) o.leaves in absurd cc))
      by Greater is = (false, (λ t. absurd cc, λ o. let k = sym is ∙ sign-negative s.d (across s v e) o.leaves in absurd cc))

  -- an outgoing side has a letter
  letter_exists : (f : Corner) → IsOutgoing s v f → (name : ℕ) → (letter : Letter) × IsLetterOf s v f name letter
  letter_exists f out name =
      let other = partner s.polygons f in
      let after = corner_after s.polygons f in
      let start = incoming_test (side_before s.polygons other) (has_before s.polygons other (partner_incoming s surface v f out).side) in
      let end = outgoing_test after (has_after s.polygons f out.side) in (
        record {
          name = name;
          length = side_width s v f;
          back = gluing_vector s v f;
          corner = other;
          start = record { vector = vector_neg (position_in s other.polygon other.side); real = start.0 };
          end = record { vector = position_in s after.polygon after.side; real = end.0 };
        },
        record { named = refl; length = refl; back = refl; corner = refl; start = refl; start_real = start.1; end = refl; end_real = end.1 },
      )

  -- one letter more, before the others
  first_letter : (b : ℕ) (f : Corner) (row : List Corner) (letter : Letter) (letters : List Letter) → IsLetterOf s v f b letter
      → ((n m : ℕ) (g : Corner) (l : Letter) → b + 1 + n ≡ m → slice_get row n ≡ Some g → slice_get letters n ≡ Some l → IsLetterOf s v g m l)
      → (n m : ℕ) (g : Corner) (l : Letter) → b + n ≡ m → slice_get (f ∷ row) n ≡ Some g → slice_get (letter ∷ letters) n ≡ Some l → IsLetterOf s v g m l
  first_letter b f row letter letters first rest zero m g l e h k =
      let same : b ≡ m = omega arith in
      subst (λ (n : ℕ). IsLetterOf s v g n l) same (subst (λ x. IsLetterOf s v x b l) (same_Some f g h) (subst (IsLetterOf s v f b) (same_Some letter l k) first))
  first_letter b f row letter letters first rest (suc n) m g l e h k = rest n m g l (omega arith) h k

  -- the sides of a row have letters, named by their places from b on
  letters_exist : (row : List Corner) → AllByRecursion (IsOutgoing s v) row → (b : ℕ) → (letters : List Letter) × (length letters ≡ length row)
      × ((n m : ℕ) (g : Corner) (l : Letter) → b + n ≡ m → slice_get row n ≡ Some g → slice_get letters n ≡ Some l → IsLetterOf s v g m l)
  letters_exist [] all b = ([], refl, λ n m g l e h k. absurd (none-some g h))
  letters_exist (f ∷ row) all b =
      let first = letter_exists f all.0 b in
      let rest = letters_exist row all.1 (b + 1) in
      (first.0 ∷ rest.0, ap (λ (k : ℕ). suc k) rest.1, first_letter b f row first.0 rest.0 first.1 rest.2)

-- ---- the exchange

-- there is an exchange
pub exchange_exists : (s : GluedPolygons) → IsSurface s → (v : PlaneVector) → v ≢ vector_zero → (c : Component) × IsExchange s v c
exchange_exists s surface v some =
    let top = top_row_exists s surface.surface v some in
    let bottom = bottom_row_exists s surface.surface v some in
    let letters = letters_exist s surface.surface v top.0 (all_of_row top.1) 0 in
    let names = names_exist top.0 (partner s.polygons) bottom.0 (partners_there s surface v some top.0 bottom.0 top.1 bottom.1) in (
      record { base = nil; total = block_start s v (length s.polygons); top = letters.0; bottom = names.0 },
      record {
        base = refl;
        total = refl;
        outgoing = top.0;
        incoming = bottom.0;
        top_row = top.1;
        bottom_row = bottom.1;
        as_many = letters.1;
        letters = λ n f letter e h. letters.2 n n f letter (omega arith) e h;
        bottom = names.1;
      },
    )

-- there is a result: the exchange, or the first site
pub exchange_end_exists : (s : GluedPolygons) → IsSurface s → (v : PlaneVector) → v ≢ vector_zero → (result : Result Component Site) × GivesExchange s v result
exchange_end_exists s surface v some = by_total (checked_total s v) refl
  where
    by_returns : IsOk (checked_total s v) → (r : Result Bool Site) → checked_returns s v (all_sides s.polygons) ≡ r → (result : Result Component Site) × GivesExchange s v result
    by_returns fits (Err site) is = (Err site, shift_overflows site fits is)
    by_returns fits (Ok test) is = let x = exchange_exists s surface v some in (Ok x.0, exchanged x.0 fits (subst IsOk (sym is) refl) x.1)

    by_total : (r : Result Quadratic Site) → checked_total s v ≡ r → (result : Result Component Site) × GivesExchange s v result
    by_total (Err site) is = (Err site, letter_overflows site is)
    by_total (Ok sum) is = by_returns (subst IsOk (sym is) refl) (checked_returns s v (all_sides s.polygons)) refl
