-- Whether a vector is in a sector can be decided.
use Rattle.std.proofs.Common.{◌⊎◌, inl, inr}
use Rattle.fs_ring.specs.Operations.{Operations}
use Rattle.fs_ring.specs.OrderedRing.{IsOrderedRing, Sign, positive, null, negative}
use Rattle.fs_ring.specs.Vector.{Vector, cross, dot}
use Rattle.fs_ring.specs.Direction.{InSector, at_start, inside}
use Rattle.fs_ring.proofs.Signs as signs
use Rattle.fs_ring.proofs.Turns as turns

module _ {A : Type 0} {R : Operations A} {IsPositive : A → Type 0} (L : IsOrderedRing R IsPositive) where
  abbrev Sector : Vector A → Vector A → Vector A → Type 0
  Sector a b v = InSector R IsPositive a b v

  -- it can be decided whether a vector is in a sector
  pub decide_sector : (a b v : Vector A) → InSector R IsPositive a b v ⊎ ¬ InSector R IsPositive a b v
  decide_sector a b v = go (L.trichotomy (cross R a v)) (L.trichotomy (cross R v b)) (L.trichotomy (dot R a v))
    where
      go : Sign R IsPositive (cross R a v) → Sign R IsPositive (cross R v b) → Sign R IsPositive (dot R a v) → Sector a b v ⊎ ¬ Sector a b v
      go (positive p) (positive q) t = inl (inside p q)
      go (positive p) (null e) t = inr (λ s. elim s [ at_start h ↦ turns.along_not_left L h p | inside k l ↦ signs.positive-ne-zero L l e ])
      go (positive p) (negative q) t = inr (λ s. elim s [ at_start h ↦ turns.along_not_left L h p | inside k l ↦ signs.not_both_signs L l q ])
      go (null e) s (positive q) = inl (at_start (record { parallel = e; same_way = q }))
      go (null e) s (null f) = inr (λ s. elim s [ at_start h ↦ signs.positive-ne-zero L h.same_way f | inside k l ↦ signs.positive-ne-zero L k e ])
      go (null e) s (negative q) = inr (λ s. elim s [ at_start h ↦ signs.not_both_signs L h.same_way q | inside k l ↦ signs.positive-ne-zero L k e ])
      go (negative p) s t = inr (λ s. elim s [ at_start h ↦ signs.negative-ne-zero L p h.parallel | inside k l ↦ signs.not_both_signs L k p ])
