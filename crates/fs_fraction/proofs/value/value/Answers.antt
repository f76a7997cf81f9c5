use Rattle.fs_fraction.specs.Parts.{ratio_of}
use Rattle.fs_fraction.proofs.LowestRatios.{rational_read, root_read, both_read}
use Rattle.fs_fraction.proofs.value.value.Goals as goal

pub returns-in_ok-r-in-Rational : goal.returns-in_ok-r-in-Rational
returns-in_ok-r-in-Rational c =
    let r = c.in_ok-r-in-Rational in
    rw c.in-Rational.is (rational_read c.in-Rational.a.minus (ratio_of c.in-Rational.a.ratio) r.r.over r.r.under c.rational.result r.ensures c.rational.ensures.lowest c.rational.ensures.value)

pub returns-in_ok-r-in-Root : goal.returns-in_ok-r-in-Root
returns-in_ok-r-in-Root c =
    let r = c.in_ok-r-in-Root in
    rw c.in-Root.is (root_read c.in-Root.a.minus (ratio_of c.in-Root.a.ratio) r.r.over r.r.under c.root.result r.ensures c.root.ensures.lowest c.root.ensures.value)

pub returns-in_ok-s-in-Both : goal.returns-in_ok-s-in-Both
returns-in_ok-s-in-Both c =
    let r = c.in_ok-r-in-Both in
    let s = c.in_ok-s-in-Both in
    rw c.in-Both.is
    (both_read c.in-Both.a.minus c.in-Both.b.minus (ratio_of c.in-Both.a.ratio) (ratio_of c.in-Both.b.ratio) r.r.over r.r.under s.s.over s.s.under c.both.result
    r.ensures s.ensures c.both.ensures.lowest c.both.ensures.value)
