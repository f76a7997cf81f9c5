use Rattle.std.proofs.Common.{◌≡◌, List, ℕ, Err, map, string_bytes, sym, ap, subst}
use Rattle.std.specs.Io.KnownBytes.{Consumes}
use Rattle.fs_cli.specs.declared.outcome.Status.{Status}
use Rattle.fs_cli.specs.Answer.{IsAnswered}
use Rattle.fs_cli.proofs.CallWrites.{all_read, of_each, too_long_begins, too_long_whole, too_long_only, no_usage, answer_no_usage, writes_job, writes_staircase, writes_asked}
use Rattle.fs_cli.proofs.Requests.{request_bounded, job_asked, no_staircase, asked_staircase}
use Rattle.fs_cli.proofs.run.flat.Goals as goal

-- ---- what is asked for is within bounds

pub summarize-requires-clause-some : goal.summarize-requires-clause-some
summarize-requires-clause-some g c = ((request_bounded c.in-Some.ensures).rectangles c.in-Some-staircase.staircase c.in-Some-staircase.is).0

pub summarize-requires-clause-few : goal.summarize-requires-clause-few
summarize-requires-clause-few g c = ((request_bounded c.in-Some.ensures).rectangles c.in-Some-staircase.staircase c.in-Some-staircase.is).1

pub summarize-requires-clause-least : goal.summarize-requires-clause-least
summarize-requires-clause-least g c = (request_bounded c.in-Some.ensures).least

pub summarize-requires-clause-most : goal.summarize-requires-clause-most
summarize-requires-clause-most g c = (request_bounded c.in-Some.ensures).most

pub answer-requires-clause-least : goal.answer-requires-clause-least
answer-requires-clause-least g c = (request_bounded c.in-Some.ensures).least

pub answer-requires-clause-most : goal.answer-requires-clause-most
answer-requires-clause-most g c = (request_bounded c.in-Some.ensures).most

-- ---- admitted words

pub returns-in-Some-staircase-clause-usage : goal.returns-in-Some-staircase-clause-usage
returns-in-Some-staircase-clause-usage g c = no_usage c.summarize.result c.in-Some.ensures (answer_no_usage c.summarize.result c.summarize.ensures.kinds)

pub returns-in-Ok-clause-usage : goal.returns-in-Ok-clause-usage
returns-in-Ok-clause-usage g c = no_usage c.answer.result c.in-Some.ensures (answer_no_usage c.answer.result c.answer.ensures.kinds)

pub returns-in-Err-TooLong-clause-usage : goal.returns-in-Err-TooLong-clause-usage
returns-in-Err-TooLong-clause-usage g c = no_usage c.refuse.result c.in-Some.ensures (answer_no_usage c.refuse.result c.refuse.ensures.kinds)

pub returns-in-Err-ReadFault-clause-usage : goal.returns-in-Err-ReadFault-clause-usage
returns-in-Err-ReadFault-clause-usage g c = no_usage _ c.in-Some.ensures (λ e. cc)

pub returns-in-Err-NoMemory-clause-usage : goal.returns-in-Err-NoMemory-clause-usage
returns-in-Err-NoMemory-clause-usage g c = no_usage _ c.in-Some.ensures (λ e. cc)

-- ---- a staircase

pub returns-in-Some-staircase-clause-whole : goal.returns-in-Some-staircase-clause-whole
returns-in-Some-staircase-clause-whole g c = λ whole.
    of_each _ _ (λ bytes. (writes_staircase _ _ _ _ _ (map string_bytes c.args.words.now) c.in-Some.request c.in-Some-staircase.staircase bytes c.in-Some.ensures c.in-Some-staircase.is c.summarize.ensures).whole whole)

pub returns-in-Some-staircase-clause-only : goal.returns-in-Some-staircase-clause-only
returns-in-Some-staircase-clause-only g c = λ whole.
    let words = map string_bytes c.args.words.now in
    let each : (bytes output : List ℕ) (other : Status) → IsAnswered words bytes output other → other ≡ c.summarize.result = (λ bytes output other answered.
    let wrote = (writes_staircase _ _ _ _ _ words c.in-Some.request c.in-Some-staircase.staircase bytes c.in-Some.ensures c.in-Some-staircase.is c.summarize.ensures).whole whole in
    (c.one_answer.ensures.one words bytes output wrote.0 other c.summarize.result answered wrote.1).1) in
    of_each _ _ each

pub returns-in-Some-staircase-clause-end : goal.returns-in-Some-staircase-clause-end
returns-in-Some-staircase-clause-end g c = λ whole none. absurd (none _ _ (asked_staircase c.in-Some.ensures c.in-Some-staircase.is))

pub returns-in-Some-staircase-clause-broken : goal.returns-in-Some-staircase-clause-broken
returns-in-Some-staircase-clause-broken g c = λ broken.
    of_each _ _ (λ bytes. (writes_staircase _ _ _ _ _ (map string_bytes c.args.words.now) c.in-Some.request c.in-Some-staircase.staircase bytes c.in-Some.ensures c.in-Some-staircase.is c.summarize.ensures).broken broken)

pub returns-in-Some-staircase-clause-staircase : goal.returns-in-Some-staircase-clause-staircase
returns-in-Some-staircase-clause-staircase g c = λ budget staircase asked whole.
    (writes_asked _ _ _ _ _ (map string_bytes c.args.words.now) c.in-Some.request c.in-Some-staircase.staircase c.in-Some.ensures c.in-Some-staircase.is c.summarize.ensures budget staircase asked).whole whole

pub returns-in-Some-staircase-clause-staircase_broken : goal.returns-in-Some-staircase-clause-staircase_broken
returns-in-Some-staircase-clause-staircase_broken g c = λ budget staircase asked broken.
    (writes_asked _ _ _ _ _ (map string_bytes c.args.words.now) c.in-Some.request c.in-Some-staircase.staircase c.in-Some.ensures c.in-Some-staircase.is c.summarize.ensures budget staircase asked).broken broken

-- ---- a job that is read

pub returns-in-Ok-clause-whole : goal.returns-in-Ok-clause-whole
returns-in-Ok-clause-whole g c = λ whole.
    let left = g.I.Source.left in
    let taken = subst (λ (bytes : List ℕ). Consumes (left c.args.input.now) (left c.read_all.new.source) bytes) (sym c.deref.ensures.value) c.in-Ok.ensures.bytes in
    let wrote = writes_job _ _ _ _ _ (map string_bytes c.args.words.now) c.in-Some.request c.deref.result.now c.in-Some.ensures (job_asked _ c.in_default-staircase.not-Some) c.answer.ensures in
    all_read (left c.args.input.now) (left c.read_all.new.source) c.deref.result.now taken c.in-Ok.ensures.end _ (wrote.whole whole)

pub returns-in-Ok-clause-only : goal.returns-in-Ok-clause-only
returns-in-Ok-clause-only g c = λ whole.
    let left = g.I.Source.left in
    let taken = subst (λ (bytes : List ℕ). Consumes (left c.args.input.now) (left c.read_all.new.source) bytes) (sym c.deref.ensures.value) c.in-Ok.ensures.bytes in
    let words = map string_bytes c.args.words.now in
    let wrote = (writes_job _ _ _ _ _ words c.in-Some.request c.deref.result.now c.in-Some.ensures (job_asked _ c.in_default-staircase.not-Some) c.answer.ensures).whole whole in
    all_read (left c.args.input.now) (left c.read_all.new.source) c.deref.result.now taken c.in-Ok.ensures.end _
    (λ output other answered. (c.one_answer.ensures.one words c.deref.result.now output wrote.0 other c.answer.result answered wrote.1).1)

pub returns-in-Ok-clause-broken : goal.returns-in-Ok-clause-broken
returns-in-Ok-clause-broken g c = λ broken.
    let left = g.I.Source.left in
    let taken = subst (λ (bytes : List ℕ). Consumes (left c.args.input.now) (left c.read_all.new.source) bytes) (sym c.deref.ensures.value) c.in-Ok.ensures.bytes in
    let wrote = writes_job _ _ _ _ _ (map string_bytes c.args.words.now) c.in-Some.request c.deref.result.now c.in-Some.ensures (job_asked _ c.in_default-staircase.not-Some) c.answer.ensures in
    all_read (left c.args.input.now) (left c.read_all.new.source) c.deref.result.now taken c.in-Ok.ensures.end _ (wrote.broken broken)

pub returns-in-Err-TooLong-clause-whole : goal.returns-in-Err-TooLong-clause-whole
returns-in-Err-TooLong-clause-whole g c = λ whole.
    let long = c.in-Err-TooLong.ensures.too_long (ap Err c.in-Err-TooLong.field-0-is) in
    too_long_whole (map string_bytes c.args.words.now) c.in-Some.request c.in-Some.ensures (job_asked _ c.in_default-staircase.not-Some) _ _ long.0 _ _ c.refuse.result long.1 long.2 (c.refuse.ensures.whole whole)

pub returns-in-Err-TooLong-clause-only : goal.returns-in-Err-TooLong-clause-only
returns-in-Err-TooLong-clause-only g c = λ whole.
    let long = c.in-Err-TooLong.ensures.too_long (ap Err c.in-Err-TooLong.field-0-is) in
    too_long_only (map string_bytes c.args.words.now) c.in-Some.request c.in-Some.ensures (job_asked _ c.in_default-staircase.not-Some) _ _ long.0 c.refuse.result long.1 long.2 (c.refuse.ensures.whole whole).1.1

pub returns-in-Err-TooLong-clause-broken : goal.returns-in-Err-TooLong-clause-broken
returns-in-Err-TooLong-clause-broken g c = λ broken.
    let long = c.in-Err-TooLong.ensures.too_long (ap Err c.in-Err-TooLong.field-0-is) in
    too_long_begins (map string_bytes c.args.words.now) c.in-Some.request c.in-Some.ensures (job_asked _ c.in_default-staircase.not-Some) _ _ long.0 _ _ long.1 long.2 (c.refuse.ensures.broken broken)

-- ---- nothing is said of a staircase then

pub returns-in-Ok-clause-nothing_taken : goal.returns-in-Ok-clause-nothing_taken
returns-in-Ok-clause-nothing_taken g c = λ budget staircase asked. absurd (no_staircase c.in-Some.ensures c.in_default-staircase.not-Some budget staircase asked)

pub returns-in-Ok-clause-staircase : goal.returns-in-Ok-clause-staircase
returns-in-Ok-clause-staircase g c = λ budget staircase asked. absurd (no_staircase c.in-Some.ensures c.in_default-staircase.not-Some budget staircase asked)

pub returns-in-Ok-clause-staircase_broken : goal.returns-in-Ok-clause-staircase_broken
returns-in-Ok-clause-staircase_broken g c = λ budget staircase asked. absurd (no_staircase c.in-Some.ensures c.in_default-staircase.not-Some budget staircase asked)

pub returns-in-Err-TooLong-clause-nothing_taken : goal.returns-in-Err-TooLong-clause-nothing_taken
returns-in-Err-TooLong-clause-nothing_taken g c = λ budget staircase asked. absurd (no_staircase c.in-Some.ensures c.in_default-staircase.not-Some budget staircase asked)

pub returns-in-Err-TooLong-clause-staircase : goal.returns-in-Err-TooLong-clause-staircase
returns-in-Err-TooLong-clause-staircase g c = λ budget staircase asked. absurd (no_staircase c.in-Some.ensures c.in_default-staircase.not-Some budget staircase asked)

pub returns-in-Err-TooLong-clause-staircase_broken : goal.returns-in-Err-TooLong-clause-staircase_broken
returns-in-Err-TooLong-clause-staircase_broken g c = λ budget staircase asked. absurd (no_staircase c.in-Some.ensures c.in_default-staircase.not-Some budget staircase asked)

pub returns-in-Err-ReadFault-clause-nothing_taken : goal.returns-in-Err-ReadFault-clause-nothing_taken
returns-in-Err-ReadFault-clause-nothing_taken g c = λ budget staircase asked. absurd (no_staircase c.in-Some.ensures c.in_default-staircase.not-Some budget staircase asked)

pub returns-in-Err-NoMemory-clause-nothing_taken : goal.returns-in-Err-NoMemory-clause-nothing_taken
returns-in-Err-NoMemory-clause-nothing_taken g c = λ budget staircase asked. absurd (no_staircase c.in-Some.ensures c.in_default-staircase.not-Some budget staircase asked)

pub returns-in-Err-NoMemory-clause-staircase_broken : goal.returns-in-Err-NoMemory-clause-staircase_broken
returns-in-Err-NoMemory-clause-staircase_broken g c = λ budget staircase asked. absurd (no_staircase c.in-Some.ensures c.in_default-staircase.not-Some budget staircase asked)
