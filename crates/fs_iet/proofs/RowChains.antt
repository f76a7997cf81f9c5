-- A row as the chains of all polygons, one after another: a polygon more, and that there is no other row.
use Rattle.std.proofs.Common.{◌≡◌, ◌⊎◌, ℕ, ◌+◌, ◌<◌, ◌≤◌, List, [], ◌∷◌, ◌++◌, length, get_or, refl, sym, ap, ◌∙◌, subst, inl, inr, arith, length-append, append-nil}
use Rattle.std.proofs.Math.Seq.{get_or-append_seam}
use Rattle.std.proofs.lemmas.List.{get_or_append_left, ext_get_or}
use Rattle.std.proofs.lemmas.List.Concat.{flat_map-cons}
use Rattle.std.proofs.lemmas.Grind.{flat_map-append}
use Rattle.std.specs.List.{flat_map}
use Rattle.fs_plane.specs.declared.corners.Corner.{Corner}
use Rattle.fs_gluing.specs.Exchanges.{AreChainsIn, IsChainIn}
use Rattle.fs_iet.proofs.ItemRuns.{less_or_not}

-- ---- lists one after another

-- the lists one after another
abbrev pub joined : {X : Type 0} → List (List X) → List X
joined xss = flat_map (λ xs. xs) xss

-- ---- rows

module _ {f : Corner → Corner} {P : Corner → Type 0} where
  -- no polygon so far
  pub chains_none : AreChainsIn f P 0 []
  chains_none = record { chains = []; as_many = refl; each = λ i l. absurd (omega arith); all = refl }

  -- the chain of the next polygon
  pub chains_more : (n : ℕ) (row chain : List Corner) → AreChainsIn f P n row → IsChainIn f P n chain → AreChainsIn f P (n + 1) (row ++ chain)
  chains_more n row chain before h =
      let as_many = before.as_many in
      let more = length-append before.chains (chain ∷ []) in
      record {
        chains = before.chains ++ chain ∷ [];
        as_many = omega arith;
        each = λ i l. go i l (less_or_not i n);
        all =
            (λ j. before.all j ++ chain)
            ∙ ap (λ xs. joined before.chains ++ xs) (sym (flat_map-cons (λ (ys : List Corner). ys) chain [] ∙ append-nil chain))
            ∙ sym (flat_map-append (λ (ys : List Corner). ys) before.chains (chain ∷ []));
      }
    where
      go : (i : ℕ) → i < n + 1 → (i < n) ⊎ (n ≤ i) → IsChainIn f P i (get_or (before.chains ++ chain ∷ []) i [])
      go i l (inl less) =
          let as_many = before.as_many in
          subst (IsChainIn f P i) (sym (get_or_append_left before.chains (chain ∷ []) [] i (omega arith))) (before.each i less)
      go i l (inr most) =
          let as_many = before.as_many in
          let same : length before.chains ≡ i = omega arith in
          subst (IsChainIn f P i) (sym (ap (λ (k : ℕ). get_or (before.chains ++ chain ∷ []) k []) (sym same) ∙ get_or-append_seam before.chains chain [] []))
          (subst (λ (k : ℕ). IsChainIn f P k chain) (sym before.as_many ∙ same) h)

  -- two rows are the same where the chains of each polygon are
  pub row_unique : (n : ℕ) (row other : List Corner) → ((i : ℕ) (xs ys : List Corner) → i < n → IsChainIn f P i xs → IsChainIn f P i ys → xs ≡ ys)
      → AreChainsIn f P n row → AreChainsIn f P n other → row ≡ other
  row_unique n row other same a b =
      let long = a.as_many in
      a.all
      ∙ ap joined (ext_get_or [] a.chains b.chains (a.as_many ∙ sym b.as_many)
      (λ i l. let m : i < n = omega arith in same i (get_or a.chains i []) (get_or b.chains i []) m (a.each i m) (b.each i m)))
      ∙ sym b.all
