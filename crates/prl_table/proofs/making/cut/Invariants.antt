use Rattle.std.specs.Prelude.{◌≡◌, ℕ, Option}
use Rattle.prl_table.specs.Vocabulary.{cut_from, cut_to, last_of, job_in, HasTicks, HaveAtMost}
use Rattle.prl_table.proofs.making.cut.Given as goal

-- the pieces of the ticks so far, and what the last one goes to
abbrev pub invariant-loop-n : goal.invariant-loop-n
invariant-loop-n l = record {
  entries : (run : ℕ → Option (ℕ × ℕ)) → HasTicks run l.ticks → l.entries.items ≡ cut_to l.plan run (cut_from l.plan) l.n;
  few : HaveAtMost l.n l.entries.items;
  last : (run : ℕ → Option (ℕ × ℕ)) → HasTicks run l.ticks → job_in l.last ≡ last_of run (cut_from l.plan) l.n;
}
