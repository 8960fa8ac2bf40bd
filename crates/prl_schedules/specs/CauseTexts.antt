-- How it is written what a broken rule is about.
use Rattle.std.specs.Prelude.{◌+◌, ◌++◌, ℕ, List, [], slice_index_or, codes, decimal}
use Rattle.prl_base.specs.declared.numbers.TaskNo.{TaskNo}
use Rattle.prl_schedules.specs.declared.causes.Cause.{Cause}
use Rattle.prl_schedules.specs.declared.causes.Cause.TheVariants as causes
use Rattle.prl_schedules.specs.declared.causes.DatedJob.{DatedJob}
use Rattle.prl_schedules.specs.declared.causes.Finding.{Finding}
use Rattle.prl_schedules.specs.declared.lefts.Left.{Left}

-- what stands before a number, and the number
abbrev pub number_text : List ℕ → ℕ → List ℕ
number_text front number = front ++ decimal number

-- the name of a task, among these
abbrev pub name_text : List (List ℕ) → TaskNo → List ℕ
name_text names task = slice_index_or names task.0 []

-- what stands before a job, its number, which counts from 0, and its task
abbrev pub job_text : List (List ℕ) → List ℕ → DatedJob → List ℕ
job_text names front job = number_text front job.number ++ codes " of " ++ name_text names job.task

abbrev pub cause_text : List (List ℕ) → Cause → List ℕ
cause_text names (causes.Early job) =
    job_text names (codes " the act is of job ") job ++ number_text (codes ", which is released at tick ") job.release
cause_text names (causes.AllEnded task jobs) =
    codes " all jobs of " ++ name_text names task ++ number_text (codes " have ended; their number is ") jobs
cause_text names (causes.Overtakes job other) =
    job_text names (codes " the act is of job ") job ++ number_text (codes ", which is due by tick ") job.deadline
    ++ job_text names (codes ". It overtakes job ") other ++ number_text (codes ", which is due by tick ") other.deadline
cause_text names (causes.Due job) =
    job_text names (codes " job ") job ++ number_text (codes " has not ended, and it is due by tick ") job.deadline
cause_text names (causes.DueOrOver job until) =
    job_text names (codes " job ") job ++ number_text (codes " has not ended, and it is due by tick ") job.deadline
    ++ number_text (codes "; or, where `--until` is at most ") until ++ codes ", the run is over"
cause_text names causes.Over = codes " the run is over: no job is due later"

-- the line of what was found, by the names of the tasks
abbrev pub finding_text : List (List ℕ) → Finding → List ℕ
finding_text names finding = number_text (codes "At tick ") finding.tick ++ cause_text names finding.cause ++ codes ".\n"

unfoldable pub done_text : Left → List ℕ
done_text left = number_text (codes "It has done so many acts: ") left.done

unfoldable pub more_text : Left → List ℕ
more_text left = number_text (codes "; and so many are left: ") (left.more + 1) ++ codes ".\n"

-- how many acts a job has done and has left, of which the last ends it
abbrev pub left_text : Left → List ℕ
left_text left = done_text left ++ more_text left
