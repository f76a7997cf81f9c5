-- What lessens as the induction goes on. The contracts of public calls don't rest on this file.
use Rattle.std.specs.Prelude.{ℕ, ◌+◌, ◌-◌, ◌*◌, List, [], ◌∷◌, length}
use Rattle.fs_gluing.specs.Exchanges.{Component}
use Rattle.fs_rauzy.specs.declared.events.Event.{Event}
use Rattle.fs_rauzy.specs.declared.events.Event.TheVariants.{Won, Merged, Split, Closed}

-- twice the number of letters, less one for each component
abbrev pub weight : List Component → ℕ
weight [] = 0
weight (c ∷ rest) = (2 * length c.top - 1) + weight rest

-- how much less this is after an event, at least
abbrev pub weight_taken : Event → ℕ
weight_taken (Won top) = 0
weight_taken (Merged found) = 2
weight_taken (Split k found) = 1
weight_taken Closed = 1
