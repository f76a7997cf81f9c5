-- Which bytes are which job, and the first fault of all others.
use Rattle.std.specs.Prelude.{◌≡◌, ◌≢◌, ℕ, ◌+◌, List, [], ◌∷◌, ◌++◌, length, codes}
use Rattle.fs_gluing.specs.declared.faults.Fault.{Fault}
use Rattle.fs_gluing.specs.declared.faults.Fault.TheVariants as faults
use Rattle.fs_job.specs.Pieces.{lines_of, words_of, IsText}
use Rattle.fs_job.specs.Statement.{Statement, SpellsStatement}
use Rattle.fs_job.specs.Draft.{Draft, Progress, nothing, headed, ended, Outcome, to_progress, to_fault, StatementLeads}

-- the words of the first line
abbrev pub header : List (List ℕ)
header = codes "flatsurf" ∷ codes "1" ∷ []

-- where the line with the number n leads, in the order in which faults are looked for
pub data Leads (n : ℕ) (before : Progress) (line : List ℕ) (outcome : Outcome) : Type 0 where
  -- it has a byte that no line may have
  not_ascii : ¬ IsText line → outcome ≡ to_fault (faults.NotAscii n) → Leads n before line outcome
  -- it is blank, and is skipped
  skipped : IsText line → words_of line ≡ [] → outcome ≡ to_progress before → Leads n before line outcome
  -- it is the first that isn't blank, and is the header
  header_line : IsText line → before ≡ nothing → words_of line ≡ header → outcome ≡ to_progress headed → Leads n before line outcome
  -- it is the first that isn't blank, and isn't the header
  bad_header : IsText line → before ≡ nothing → words_of line ≢ [] → words_of line ≢ header → outcome ≡ to_fault faults.BadHeader → Leads n before line outcome
  -- it is after the header, isn't blank, and spells no statement
  bad_line : IsText line → before ≢ nothing → words_of line ≢ [] → ((s : Statement) → ¬ SpellsStatement (words_of line) s)
      → outcome ≡ to_fault (faults.BadLine n) → Leads n before line outcome
  -- it is after the header, and spells a statement
  statement : (s : Statement) → IsText line → before ≢ nothing → SpellsStatement (words_of line) s → StatementLeads n before s outcome → Leads n before line outcome

-- ---- all lines

-- the lines, of which the first has the number n, lead from one progress to the other
abbrev pub LinesLead : ℕ → Progress → List (List ℕ) → Progress → Type 0
LinesLead n before [] after = before ≡ after
LinesLead n before (line ∷ lines) after = (mid : Progress) × Leads n before line (to_progress mid) × LinesLead (n + 1) mid lines after

-- the bytes are this job
abbrev pub IsJob : List ℕ → Draft → Type 0
IsJob bytes draft = LinesLead 1 nothing (lines_of bytes) (ended draft)

-- the bytes are no job, and this is their first fault
pub data IsFirstFault (bytes : List ℕ) (fault : Fault) : Type 0 where
  -- it is that of the line after these, which have none
  at_line : (lines : List (List ℕ)) → (line : List ℕ) → (rest : List (List ℕ)) → (before : Progress) → lines_of bytes ≡ lines ++ line ∷ rest
      → LinesLead 1 nothing lines before → Leads (length lines + 1) before line (to_fault fault) → IsFirstFault bytes fault
  -- all lines are blank
  no_header : LinesLead 1 nothing (lines_of bytes) nothing → fault ≡ faults.BadHeader → IsFirstFault bytes fault
  -- no line has a fault, and `end` doesn't come
  no_end : (before : Progress) → LinesLead 1 nothing (lines_of bytes) before → before ≢ nothing → ((draft : Draft) → before ≢ ended draft)
      → fault ≡ faults.NoEnd → IsFirstFault bytes fault
