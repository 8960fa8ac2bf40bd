-- The text that a command means is one, whatever has run.
use Rattle.prl_base.proofs.Standard.{◌≡◌, ℕ, Bool, List, None, is_some}
use Rattle.prl_arguments.specs.declared.arguments.Command.{Command}
use Rattle.prl_arguments.specs.declared.arguments.Mode.{Mode}
use Rattle.prl_arguments.specs.declared.arguments.Mode.TheVariants as modes
use Rattle.prl_stages.specs.Vocabulary.{Given, IsMeant, IsMeantIn, Comes, files, stages_after, stages_of}
use Rattle.prl_stages.specs.declared.ran.Ran.{Ran}
use Rattle.prl_stages.proofs.AllHold.{behind}
use Rattle.prl_stages.proofs.OneMode.{one_text}
use Rattle.prl_stages.proofs.OneText as one
use Rattle.prl_stages.proofs.OneText.{Laws}

pub meant_in : (law : Laws) (g : Given) (c : Command) (mode : Mode) (named : Bool) → Comes g (stages_after mode named) None → (a b : List ℕ) (ran other : Ran)
    → IsMeantIn mode g c a ran → IsMeantIn mode g c b other → a ≡ b
meant_in law g c modes.Print named comes a b ran other h k = one.print_one law g a b h.0 k.0
meant_in law g c modes.Plan named comes a b ran other h k = one.plan_one law g a b h.0 k.0
meant_in law g c modes.Check named comes a b ran other h k = one.check_one law g a b h.0 k.0
meant_in law g c modes.Flows named comes a b ran other h k = one_text law g modes.Flows named comes a b h.0 k.0
meant_in law g c modes.Schedule named comes a b ran other h k = one.schedule_one law g a b h.0 k.0
meant_in law g c modes.Cores named comes a b ran other h k = one.cores_one law g a b h.0 k.0
meant_in law g c modes.Edf named comes a b ran other h k = one.edf_one law g a b h.0 k.0
meant_in law g c modes.Table named comes a b ran other h k = one.table_one law g a b h.0 k.0
meant_in law g c modes.Replay named comes a b ran other h k = one.replay_one law g a b h.0 k.0
meant_in law g c modes.Run named comes a b ran other h k = one.run_one law g c.clock a b ran other h k
meant_in law g c modes.Generate named comes a b ran other h k = one.summary_one law g c.seed c.size a b ran other h k
meant_in law g c modes.Cycle named comes a b ran other h k = one.cycle_one law g a b ran other h k

pub one_meaning : (law : Laws) (g : Given) (c : Command) → Comes g (stages_of c) None → (a b : List ℕ) (ran other : Ran) → IsMeant g c a ran → IsMeant g c b other → a ≡ b
one_meaning law g c comes a b ran other h k =
    let named = is_some c.bodies in
    meant_in law g c c.mode named (behind g files (stages_after c.mode named) comes) a b ran other h k
