-- The sides are added from left to right.
use Rattle.std.proofs.Common.{◌≡◌, ◌++◌, ◌∷◌, [], ◌+◌, ◌-◌, ◌<◌, ℕ, suc, true, ap, ◌∙◌, subst, sym, arith, append_assoc, length-append, length}
use borrow.Author.Count.{below_more}
use Rattle.fs_cycles.specs.Cycles.{iterate}
use Rattle.fs_cycles.proofs.Iterates.{iterate_after}
use Rattle.fs_gluing.specs.NextCorner.{side_count}
use Rattle.fs_gluing.specs.Polygons.{HasSide}
use Rattle.fs_iet.specs.Rows.{IsInRow, to_right_in}
use Rattle.fs_iet.proofs.ItemRuns.{walk, walk_more, length-walk}
use Rattle.fs_iet.proofs.PolygonRows.{chain_goes_on, chain_ends, has_right}
use Rattle.fs_iet.proofs.rows.push_chain.Goals as goal
use Rattle.fs_iet.proofs.rows.push_chain.Goals.{After-to_the_right-e}

falls : (a n b more k : ℕ) → b ≡ a + k → more ≡ b + 1 → k < n → a + n - more < a + n - b
falls a n b more k e f l = omega arith

-- the side that is added is in the row
here : (c : After-to_the_right-e) → IsInRow c.args.surface.now c.args.v c.args.row (iterate (to_right_in c.args.surface.now c.args.row) c.loop-v.invariant.k c.find_leftmost-e.result)
here c = subst (IsInRow c.args.surface.now c.args.v c.args.row) c.loop-v.invariant.at (c.is_in_row.ensures.0 c.loop-v-test.true)

pub loop-v-smaller : goal.loop-v-smaller
loop-v-smaller c =
    let l = c.loop-v.invariant in
    falls (length c.args.sides.now) (side_count c.args.surface.now.polygons c.args.i) (length c.loop-v.sides) (length c.push.new.self) l.k
    (ap length l.added
    ∙ length-append c.args.sides.now (walk (to_right_in c.args.surface.now c.args.row) l.k c.find_leftmost-e.result)
    ∙ ap (λ n. length c.args.sides.now + n) (length-walk (to_right_in c.args.surface.now c.args.row) l.k c.find_leftmost-e.result))
    (ap length c.in_ok-push.ensures.ok ∙ length-append c.loop-v.sides (c.loop-v.e ∷ []))
    (chain_goes_on c.requires.surface c.requires.direction c.args.i c.requires.there c.find_leftmost-e.ensures l.k l.all (here c))

pub loop-v-preserved : goal.loop-v-preserved
loop-v-preserved c =
    let l = c.loop-v.invariant in
    let right = to_right_in c.args.surface.now c.args.row in
    let one_more : l.k + 1 ≡ suc l.k = omega arith in
    record {
      k = suc l.k;
      added = c.in_ok-push.ensures.ok
          ∙ (λ i. l.added i ++ l.at i ∷ [])
          ∙ append_assoc c.args.sides.now (walk right l.k c.find_leftmost-e.result) (iterate right l.k c.find_leftmost-e.result ∷ [])
          ∙ ap (λ xs. c.args.sides.now ++ xs) (sym (walk_more right l.k c.find_leftmost-e.result));
      at = c.to_the_right-e.ensures ∙ ap right l.at ∙ sym (iterate_after right l.k c.find_leftmost-e.result);
      all = subst (λ n. (j : ℕ) → j < n → IsInRow c.args.surface.now c.args.v c.args.row (iterate right j c.find_leftmost-e.result)) one_more (below_more _ _ l.all (here c));
      there = subst (HasSide c.args.surface.now.polygons) (sym c.to_the_right-e.ensures) (has_right c.args.surface.now c.args.row c.loop-v.e l.there);
    }

pub returns : goal.returns
returns c =
    let l = c.loop-v.invariant in (
      walk (to_right_in c.args.surface.now c.args.row) l.k c.find_leftmost-e.result,
      l.added,
      chain_ends c.requires.surface c.requires.direction c.args.i c.requires.there c.find_leftmost-e.ensures l.k l.all
          (λ h. let t : c.is_in_row.result ≡ true = c.is_in_row.ensures.1 (subst (IsInRow c.args.surface.now c.args.v c.args.row) (sym l.at) h) in let f = c.loop-v-test.false in cc),
    )
