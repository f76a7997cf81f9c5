-- The order of corners, by polygon and then by side, is total.
use Rattle.std.proofs.Common.{◌≡◌, ◌⊎◌, inl, inr, ℕ, ◌+◌, ◌<◌, sym, ◌∙◌, refl, arith}
use Rattle.std.proofs.lemmas.Bool.{cases_eq, cases_order}
use Rattle.std.specs.Cmp.{nat_cmp_is}
use Rattle.std.specs.Ordering.{nat_cmp, ordering_then}
use Rattle.std.specs.declared.cmp.Ordering.{Ordering}
use Rattle.std.specs.declared.cmp.Ordering.TheVariants.{Less, Equal, Greater}
use Rattle.fs_plane.specs.declared.corners.Corner.{Corner}
use Rattle.fs_gluing.specs.Gluing.{corner_cmp}
use Rattle.fs_gluing.proofs.Base.Equality.{corner_eq}
use Rattle.fs_gluing.proofs.Sides.AllSides.{corner}

wrong_equal : Equal ≡ Less → ⊥
wrong_equal e = cc

wrong_greater : Greater ≡ Less → ⊥
wrong_greater e = cc

-- a comes before b: by polygon, then by side
abbrev pub Precedes : Corner → Corner → Type 0
Precedes a b = (a.polygon < b.polygon) ⊎ ((a.polygon ≡ b.polygon) × (a.side < b.side))

then_ordering : (a b : Corner) (p q : Ordering) → p ≡ nat_cmp a.polygon b.polygon → q ≡ nat_cmp a.side b.side → corner_cmp a b ≡ ordering_then p q
then_ordering a b p q e f = λ i. ordering_then (sym e i) (sym f i)

-- a corner that comes before another is less
pub less_of : (a b : Corner) → Precedes a b → corner_cmp a b ≡ Less
less_of a b (inl l) = then_ordering a b Less (nat_cmp a.side b.side) (nat_cmp_is a.polygon b.polygon Less l) refl
less_of a b (inr h) = then_ordering a b Equal Less (nat_cmp_is a.polygon b.polygon Equal h.0) (nat_cmp_is a.side b.side Less h.1)

-- a corner that is less comes before
pub of_less : (a b : Corner) → corner_cmp a b ≡ Less → Precedes a b
of_less a b h = elim (cases_order a.polygon b.polygon) [
  | inl e ↦ elim (cases_order a.side b.side) [
    | inl f ↦ let k = sym (then_ordering a b Equal Equal (nat_cmp_is a.polygon b.polygon Equal e) (nat_cmp_is a.side b.side Equal f)) ∙ h in absurd (wrong_equal k)
    | inr s ↦ elim s [
      | inl l ↦ inr (e, l)
      | inr l ↦ let k = sym (then_ordering a b Equal Greater (nat_cmp_is a.polygon b.polygon Equal e) (nat_cmp_is a.side b.side Greater l)) ∙ h in absurd (wrong_greater k)
    ]
  ]
  | inr s ↦ elim s [
    | inl l ↦ inl l
    | inr l ↦ let k = sym (then_ordering a b Greater (nat_cmp a.side b.side) (nat_cmp_is a.polygon b.polygon Greater l) refl) ∙ h in absurd (wrong_greater k)
  ]
]

-- the order of corners is transitive
pub less_trans : (a b c : Corner) → corner_cmp a b ≡ Less → corner_cmp b c ≡ Less → corner_cmp a c ≡ Less
less_trans a b c h k = less_of a c (elim (of_less a b h) [
  | inl l ↦ elim (of_less b c k) [ inl m ↦ inl (omega arith) | inr m ↦ inl (let e = m.0 in omega arith) ]
  | inr l ↦ elim (of_less b c k) [ inl m ↦ inl (let e = l.0 in omega arith) | inr m ↦ inr (l.0 ∙ m.0, let f = l.1 in let g = m.1 in omega arith) ]
])

-- no corner is less than itself
pub not_less_itself : (a : Corner) → corner_cmp a a ≡ Less → ⊥
not_less_itself a h = elim (of_less a a h) [ inl l ↦ omega arith | inr k ↦ let l = k.1 in omega arith ]

-- of two corners at most one is less than the other
pub not_less_both_ways : (a b : Corner) → corner_cmp a b ≡ Less → corner_cmp b a ≡ Less → ⊥
not_less_both_ways a b h k = not_less_itself a (less_trans a b a h k)

-- two corners are equal, or one is less than the other
pub corner_cases : (a b : Corner) → (a ≡ b) ⊎ ((corner_cmp a b ≡ Less) ⊎ (corner_cmp b a ≡ Less))
corner_cases a b = elim (cases_order a.polygon b.polygon) [
  | inl e ↦ elim (cases_order a.side b.side) [
    | inl f ↦ inl (corner_eq e f)
    | inr s ↦ elim s [ inl l ↦ inr (inl (less_of a b (inr (e, l)))) | inr l ↦ inr (inr (less_of b a (inr (sym e, l)))) ]
  ]
  | inr s ↦ elim s [ inl l ↦ inr (inl (less_of a b (inl l))) | inr l ↦ inr (inr (less_of b a (inl l))) ]
]

-- ---- the next corner of a polygon

-- what is less than a corner is less than the next of its polygon
pub to_next : (e : Corner) (i j : ℕ) → corner_cmp e (corner i j) ≡ Less → corner_cmp e (corner i (j + 1)) ≡ Less
to_next e i j h = less_of e (corner i (j + 1)) (elim (of_less e (corner i j) h) [ inl l ↦ inl l | inr k ↦ inr (k.0, let l = k.1 in omega arith) ])

-- a corner is less than the next of its polygon
pub here_next : (i j : ℕ) → corner_cmp (corner i j) (corner i (j + 1)) ≡ Less
here_next i j = less_of (corner i j) (corner i (j + 1)) (inr (refl, omega arith))

-- what is less than the next corner is less than the corner, or it is the corner
pub next_cases : (e : Corner) (i j : ℕ) → corner_cmp e (corner i (j + 1)) ≡ Less → (corner_cmp e (corner i j) ≡ Less) ⊎ (corner i j ≡ e)
next_cases e i j h = elim (of_less e (corner i (j + 1)) h) [
  | inl l ↦ inl (less_of e (corner i j) (inl l))
  | inr k ↦ elim (cases_eq j e.side) [
    | inl f ↦ inr (corner_eq (sym k.0) f)
    | inr n ↦ inl (less_of e (corner i j) (inr (k.0, let l = k.1 in omega arith)))
  ]
]

-- what is less than a corner of a polygon is less than the first of the next
pub to_row : (e : Corner) (i n : ℕ) → corner_cmp e (corner i n) ≡ Less → corner_cmp e (corner (i + 1) 0) ≡ Less
to_row e i n h = less_of e (corner (i + 1) 0) (elim (of_less e (corner i n) h) [ inl l ↦ inl (omega arith) | inr k ↦ inl (let f = k.0 in omega arith) ])
