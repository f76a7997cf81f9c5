use Rattle.std.proofs.Common.{◌≡◌, ◌≢◌, ◌++◌, List, ℕ, length, ◌∙◌, ap, subst, arith}
use Rattle.std.proofs.lemmas.Bool.Decides.{Decides-eqb}
use Rattle.std.proofs.lemmas.Slice.Eq.{strip_prefix_is}
use Rattle.std.specs.Option.{MatchOption}
use Rattle.fs_job.proofs.TextWords.{words-eight}
use Rattle.fs_job.proofs.words.skip_eights.Goals as goal

pub loop-more-smaller : goal.loop-more-smaller
loop-more-smaller c =
    let eight = ap length c.as_slice.ensures in
    let shorter = c.in-Some.ensures.cases.2 in
    omega arith

pub loop-more-preserved : goal.loop-more-preserved
loop-more-preserved c =
    let text = c.loop-more.rest.now in
    let spaces = c.as_slice.result.now in
    let eight = ap length c.as_slice.ensures in
    let shorter = c.in-Some.ensures.cases.2 in
    let cut : text ≡ spaces ++ c.in-Some.more.now =
    subst (λ o. MatchOption o ((rest : List ℕ) → text ≢ spaces ++ rest) (λ more. text ≡ spaces ++ more.now)) c.in-Some.is
    (strip_prefix_is Decides-eqb text spaces c.strip_prefix.result c.strip_prefix.ensures.cases) in
    (c.loop-more.invariant.0 ∙ words-eight text c.in-Some.more.now (cut ∙ ap (λ s. s ++ c.in-Some.more.now) c.as_slice.ensures), omega arith)
