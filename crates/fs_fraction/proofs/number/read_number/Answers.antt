use Rattle.std.proofs.Common.{Err, refl}
use Rattle.fs_fraction.specs.declared.number.NumberFault.TheVariants.{Wide}
use Rattle.fs_fraction.specs.Number.{Reads, wide_number}
use Rattle.fs_fraction.specs.Parts.{written_of}
use Rattle.fs_fraction.proofs.Readings.{read_narrow, same_read}
use Rattle.fs_fraction.proofs.number.read_number.Goals as goal

pub returns-then-not-is_narrow : goal.returns-then-not-is_narrow
returns-then-not-is_narrow c =
    let wide : Reads c.args.text.now (Err Wide) = wide_number (written_of c.in-Some.written) c.in-Some.ensures (λ narrow. cc (c.if-not-is_narrow.ensures.1 narrow)) refl in
    record { read = wide; only = λ other reads. same_read c.args.text.now (Err Wide) other wide reads }

pub returns : goal.returns
returns c =
    let narrow = read_narrow c.args.text.now (written_of c.in-Some.written) c.value.result c.in-Some.ensures (c.if-not-is_narrow.ensures.0 refl) c.value.ensures in
    rw c.ok_or.ensures.value (record { read = narrow; only = λ other reads. same_read c.args.text.now _ other narrow reads })
