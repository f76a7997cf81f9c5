-- The one result that bytes have: the job that they are, or their first fault; or out of memory.
use Rattle.std.proofs.Common.{◌≡◌, ℕ, ◌⊎◌, inl, inr, List, Result, Ok, Err, IfOk, IfErr, refl, ap, ◌∙◌}
use Rattle.fs_gluing.specs.declared.faults.Fault.{Fault}
use Rattle.fs_job.specs.declared.job.Job.{Job}
use Rattle.fs_job.specs.declared.job.JobStop.{JobStop}
use Rattle.fs_job.specs.declared.job.JobStop.TheVariants as stops
use Rattle.fs_job.specs.Draft.{Draft}
use Rattle.fs_job.specs.Grammar.{IsJob, IsFirstFault}
use Rattle.fs_job.specs.Reading.{job_draft}
use Rattle.fs_job.proofs.JobLines.{job_unique, fault_unique, not_both}

module _ (bytes : List ℕ) where
  -- out of memory, or the first fault of the bytes
  abbrev IsStop : JobStop → Type 0
  IsStop e = (e ≡ stops.NoMemory) ⊎ ((fault : Fault) × (e ≡ stops.Fault fault) × IsFirstFault bytes fault)

  -- where they are a job, it is the one that is read
  pub job_returned : (result : Result Job JobStop) → IfOk result (λ job. IsJob bytes (job_draft job)) → IfErr result IsStop → (draft : Draft) → IsJob bytes draft
      → ((job : Job) × (result ≡ Ok job) × (job_draft job ≡ draft)) ⊎ (result ≡ Err stops.NoMemory)
  job_returned (Ok job) read stopped draft is = inl (job, refl, job_unique bytes (job_draft job) draft read is)
  job_returned (Err e) read stopped draft is = elim stopped [ inl none ↦ inr (ap Err none) | inr found ↦ absurd (not_both bytes draft found.0 is found.2) ]

  -- where they have a first fault, it is the one that is returned
  pub fault_returned : (result : Result Job JobStop) → IfOk result (λ job. IsJob bytes (job_draft job)) → IfErr result IsStop → (fault : Fault) → IsFirstFault bytes fault
      → (result ≡ Err (stops.Fault fault)) ⊎ (result ≡ Err stops.NoMemory)
  fault_returned (Ok job) read stopped fault is = absurd (not_both bytes (job_draft job) fault read is)
  fault_returned (Err e) read stopped fault is = elim stopped [
    | inl none ↦ inr (ap Err none)
    | inr found ↦ inl (ap Err (found.1 ∙ ap stops.Fault (fault_unique bytes found.0 fault found.2 is)))
  ]
