-- A run goes on in the same way after any earlier events.
use Rattle.std.proofs.Common.{ℕ, Bool, true, false, Result, Ok, List, [], ◌∷◌, ◌++◌, subst, append_assoc}
use Rattle.fs_quadratic.specs.Ring as ring
use Rattle.fs_quadratic.specs.declared.steps.Place.{Place}
use Rattle.fs_gluing.specs.Exchanges.{Component}
use Rattle.fs_rauzy.specs.declared.events.Event.TheVariants.{Closed}
use Rattle.fs_rauzy.specs.declared.parts.Logged.{Logged}
use Rattle.fs_rauzy.specs.Events.{Outcome}
use Rattle.fs_rauzy.specs.Runs.{Point, Checkpoint, IsMadeAt, ComparesAt, Goes, closes_loop, closes_cylinder, begins_anew, finds_loop, wins, wins_and_saves}

-- the point with these events before its own
abbrev pub with_earlier : List Logged → Point → Point
with_earlier earlier p = record p { events = earlier ++ p.events }

module _ (d : ℕ) (earlier : List Logged) where
  made_with : (p : Point) (o : Outcome) → IsMadeAt d p o → IsMadeAt d (with_earlier earlier p) o
  made_with p o made = record { going = made.going; made = made.made }

  compares_with : (p : Point) (o : Outcome) (c : Component) (saved : Checkpoint) (r : Result Bool Place) → ComparesAt d p o c saved r → ComparesAt d (with_earlier earlier p) o c saved r
  compares_with p o c saved r k =
      record { made = made_with p o k.made; top = k.top; event = k.event; rest = k.rest; components = k.components; saved_before = k.saved_before; compared = k.compared }

  -- the event comes after the earlier ones
  goes_so : (p q : Point) (o : Outcome) → Goes d (with_earlier earlier p) (record q { events = (earlier ++ p.events) ++ (record { event = o.event; length = o.length }) ∷ [] })
      → Goes d (with_earlier earlier p) (record q { events = earlier ++ (p.events ++ (record { event = o.event; length = o.length }) ∷ []) })
  goes_so p q o g =
      subst (λ (es : List Logged). Goes d (with_earlier earlier p) (record q { events = es })) (append_assoc earlier p.events ((record { event = o.event; length = o.length }) ∷ [])) g

  -- a run that goes on does so after the earlier events
  pub goes_with_earlier : (p q : Point) → Goes d p q → Goes d (with_earlier earlier p) (with_earlier earlier q)
  goes_with_earlier p q (closes_loop c rest saved looped was before) = goes_so p q (record { event = Closed; length = ring.zero; components = rest }) (closes_loop c rest saved looped was before)
  goes_with_earlier p q (closes_cylinder o c rest made event was) = goes_so p q o (closes_cylinder o c rest (made_with p o made) event was)
  goes_with_earlier p q (begins_anew o made anew) = goes_so p q o (begins_anew o (made_with p o made) anew)
  goes_with_earlier p q (finds_loop o c saved k) = goes_so p q o (finds_loop o c saved (compares_with p o c saved (Ok true) k))
  goes_with_earlier p q (wins o c saved k other) = goes_so p q o (wins o c saved (compares_with p o c saved (Ok false) k) other)
  goes_with_earlier p q (wins_and_saves o c saved k there) = goes_so p q o (wins_and_saves o c saved (compares_with p o c saved (Ok false) k) there)
