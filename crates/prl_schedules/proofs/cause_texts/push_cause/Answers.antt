use Rattle.prl_base.proofs.Standard.{◌≡◌, ◌++◌, ◌∙◌, ℕ, List, ap, append_assoc, codes}
use Rattle.prl_base.specs.declared.numbers.TaskNo.{TaskNo}
use Rattle.prl_schedules.specs.declared.causes.Cause.TheVariants as causes
use Rattle.prl_schedules.specs.Vocabulary.{DatedJob, cause_text, job_text, name_text, number_text}
use Rattle.prl_schedules.specs.ScheduleTexts.{task_names}
use Rattle.prl_schedules.proofs.cause_texts.push_cause.Goals as goal

two : (old a b mid new : List ℕ) → mid ≡ old ++ a → new ≡ mid ++ b → new ≡ old ++ (a ++ b)
two old a b mid new first second = second ∙ ap (λ (xs : List ℕ). xs ++ b) first ∙ append_assoc old a b

three : (old a b d one mid new : List ℕ) → one ≡ old ++ a → mid ≡ one ++ b → new ≡ mid ++ d → new ≡ old ++ ((a ++ b) ++ d)
three old a b d one mid new first second third = two old (a ++ b) d mid new (two old a b one mid first second) third

four : (old a b d e one mid last new : List ℕ) → one ≡ old ++ a → mid ≡ one ++ b → last ≡ mid ++ d → new ≡ last ++ e → new ≡ old ++ (((a ++ b) ++ d) ++ e)
four old a b d e one mid last new first second third fourth =
    two old ((a ++ b) ++ d) e last new (three old a b d one mid last first second third) fourth

module _ (names : List (List ℕ)) (old : List ℕ) where
  early : (job : DatedJob) (mid new : List ℕ) → mid ≡ old ++ job_text names (codes " the act is of job ") job →
      new ≡ mid ++ number_text (codes ", which is released at tick ") job.release → new ≡ old ++ cause_text names (causes.Early job)
  early job mid new first second =
      two old (job_text names (codes " the act is of job ") job) (number_text (codes ", which is released at tick ") job.release) mid new first second

  all_ended : (task : TaskNo) (jobs : ℕ) (one mid new : List ℕ) → one ≡ old ++ codes " all jobs of " → mid ≡ one ++ name_text names task →
      new ≡ mid ++ number_text (codes " have ended; their number is ") jobs → new ≡ old ++ cause_text names (causes.AllEnded task jobs)
  all_ended task jobs one mid new first second third =
      three old (codes " all jobs of ") (name_text names task) (number_text (codes " have ended; their number is ") jobs) one mid new first second third

  overtakes : (job other : DatedJob) (one mid last new : List ℕ) → one ≡ old ++ job_text names (codes " the act is of job ") job →
      mid ≡ one ++ number_text (codes ", which is due by tick ") job.deadline → last ≡ mid ++ job_text names (codes ". It overtakes job ") other →
      new ≡ last ++ number_text (codes ", which is due by tick ") other.deadline → new ≡ old ++ cause_text names (causes.Overtakes job other)
  overtakes job other one mid last new first second third fourth =
      four old (job_text names (codes " the act is of job ") job) (number_text (codes ", which is due by tick ") job.deadline)
      (job_text names (codes ". It overtakes job ") other) (number_text (codes ", which is due by tick ") other.deadline) one mid last new first second third fourth

  due_or_over : (job : DatedJob) (until : ℕ) (one mid last new : List ℕ) → one ≡ old ++ job_text names (codes " job ") job →
      mid ≡ one ++ number_text (codes " has not ended, and it is due by tick ") job.deadline →
      last ≡ mid ++ number_text (codes "; or, where `--until` is at most ") until → new ≡ last ++ codes ", the run is over" →
      new ≡ old ++ cause_text names (causes.DueOrOver job until)
  due_or_over job until one mid last new first second third fourth =
      four old (job_text names (codes " job ") job) (number_text (codes " has not ended, and it is due by tick ") job.deadline)
      (number_text (codes "; or, where `--until` is at most ") until) (codes ", the run is over") one mid last new first second third fourth

pub returns-in_ok-push-in-Early : goal.returns-in_ok-push-in-Early
returns-in_ok-push-in-Early c =
    rw c.in-Early.is (early (task_names c.args.plan.now) c.args.text.now.items c.in-Early.job c.push_job.new.text.items c.push.new.text.items
    c.in_ok-push_job-in-Early.ensures c.in_ok-push-in-Early.ensures)

pub returns-in_ok-push-in-AllEnded : goal.returns-in_ok-push-in-AllEnded
returns-in_ok-push-in-AllEnded c =
    rw c.in-AllEnded.is (all_ended (task_names c.args.plan.now) c.args.text.now.items c.in-AllEnded.task c.in-AllEnded.jobs
    c.extend_from_slice.new.self.items c.push_name.new.text.items c.push-in-AllEnded.new.text.items
    c.in_ok-extend_from_slice-in-AllEnded.ensures.items c.in_ok-push_name-in-AllEnded.ensures c.in_ok-push-in-AllEnded.ensures)

pub returns-in_ok-push-in-Overtakes-2 : goal.returns-in_ok-push-in-Overtakes-2
returns-in_ok-push-in-Overtakes-2 c =
    rw c.in-Overtakes.is (overtakes (task_names c.args.plan.now) c.args.text.now.items c.in-Overtakes.job c.in-Overtakes.other
    c.push_job-in-Overtakes.new.text.items c.push-in-Overtakes.new.text.items c.push_job-in-Overtakes-2.new.text.items c.push-in-Overtakes-2.new.text.items
    c.in_ok-push_job-in-Overtakes.ensures c.in_ok-push-in-Overtakes.ensures c.in_ok-push_job-in-Overtakes-2.ensures c.in_ok-push-in-Overtakes-2.ensures)

pub returns-in_ok-extend_from_slice-in-DueOrOver : goal.returns-in_ok-extend_from_slice-in-DueOrOver
returns-in_ok-extend_from_slice-in-DueOrOver c =
    rw c.in-DueOrOver.is (due_or_over (task_names c.args.plan.now) c.args.text.now.items c.in-DueOrOver.job c.in-DueOrOver.until
    c.push_job-in-DueOrOver.new.text.items c.push-in-DueOrOver.new.text.items c.push-in-DueOrOver-2.new.text.items c.extend_from_slice-in-DueOrOver.new.self.items
    c.in_ok-push_job-in-DueOrOver.ensures c.in_ok-push-in-DueOrOver.ensures c.in_ok-push-in-DueOrOver-2.ensures
    c.in_ok-extend_from_slice-in-DueOrOver.ensures.items)

pub returns-in_ok-extend_from_slice-in-Over : goal.returns-in_ok-extend_from_slice-in-Over
returns-in_ok-extend_from_slice-in-Over c = rw c.in-Over.is c.in_ok-extend_from_slice-in-Over.ensures.items
