use Rattle.std.proofs.Common.{◌≡◌, ◌-◌, map, take}
use Rattle.fs_stratum.specs.declared.cones.Cone.{Cone}
use Rattle.fs_report.proofs.stratum.find_orders.Given as goal

-- the orders of the vertices so far
abbrev pub invariant-loop-cone : goal.invariant-loop-cone
invariant-loop-cone l = l.orders.items ≡ map (λ (cone : Cone). cone.k - 1) (take l.cone-index l.cones)
