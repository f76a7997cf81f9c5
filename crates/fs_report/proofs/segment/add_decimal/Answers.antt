-- A number below 10 is one digit.
use Rattle.std.proofs.Common.{◌≡◌, ℕ, ◌+◌, ◌<◌, List, [], ◌∷◌, ◌++◌, Result, Ok, Err, OnOk, sym, ap, ◌∙◌, arith}
use Rattle.std.specs.Prelude.{if◌then◌else◌}
use Rattle.std.specs.Char.{encode_utf8}
use Rattle.std.specs.Fmt.{decimal}
use Rattle.std.specs.Result.{is_ok}
use Rattle.std.specs.declared.alloc.AllocError.{AllocError}
use Rattle.std.proofs.lemmas.Fmt.{decimal_digit}
use Rattle.fs_report.proofs.segment.add_decimal.Goals as goal

digit_added : (added : Result (Unit {0}) AllocError) (old new : List ℕ) (ch n : ℕ) → n < 10 → ch ≡ 48 + n → new ≡ (if is_ok added then old ++ encode_utf8 ch else old) → (ch < 128 → encode_utf8 ch ≡ ch ∷ [])
    → OnOk added (new ≡ old ++ decimal n)
digit_added (Ok done) old new ch n h e wrote ascii =
    wrote ∙ ap (λ (bytes : List ℕ). old ++ bytes) (ascii (omega arith) ∙ ap (λ (byte : ℕ). byte ∷ []) e ∙ sym (decimal_digit n h))
digit_added (Err stop) old new ch n h e wrote ascii = tt

pub returns-then-n-lt10 : goal.returns-then-n-lt10
returns-then-n-lt10 c = digit_added c.push.result _ _ c.from.result c.args.n c.if-n-lt10.true c.from.ensures c.push.ensures.bytes c.push.ensures.ascii
