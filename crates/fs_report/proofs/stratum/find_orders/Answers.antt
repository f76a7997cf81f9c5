use Rattle.fs_report.proofs.SortedOrders.{orders_sorted}
use Rattle.fs_report.proofs.stratum.find_orders.Goals as goal

pub returns : goal.returns
returns c =
    orders_sorted c.args.cones.now c.loop-cone.cone-index c.loop-cone.orders.items c.sort_unstable.new.self.items c.reverse.new.self.items c.from_vec.result c.loop-cone-test.false
    c.loop-cone.invariant c.sort_unstable.ensures.permutation c.sort_unstable.ensures.sorted c.reverse.ensures.items c.from_vec.ensures
