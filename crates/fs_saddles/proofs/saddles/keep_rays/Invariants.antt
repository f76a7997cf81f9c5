-- The rays so far are kept.
use Rattle.std.proofs.Common.{◌≡◌, take, length}
use Rattle.fs_saddles.specs.Keeping.{AreKeptAs}
use Rattle.fs_saddles.proofs.saddles.keep_rays.Given as goal

abbrev pub invariant-loop-ray : goal.invariant-loop-ray
invariant-loop-ray l = AreKeptAs l.mesh (take l.ray-index l.rays) l.list × (length l.list ≡ l.ray-index)
