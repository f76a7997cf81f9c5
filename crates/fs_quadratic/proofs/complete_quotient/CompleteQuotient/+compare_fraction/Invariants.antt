use Rattle.fs_quadratic.proofs.complete_quotient.CompleteQuotient.+compare_fraction.Given as goal

-- the denominator
abbrev pub decreases-compare_fraction : goal.decreases-compare_fraction
decreases-compare_fraction l = l.b
