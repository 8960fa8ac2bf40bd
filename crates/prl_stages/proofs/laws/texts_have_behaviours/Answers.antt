use Rattle.prl_stages.specs.Vocabulary.{FindOne, PartLaws, RunningLaws, WholeLaws}
use Rattle.prl_stages.proofs.OneParts.{one_clocks, one_flat}
use Rattle.prl_stages.proofs.OnePlan.{one_graph}
use Rattle.prl_stages.proofs.OneRun.{one_plan}
use Rattle.prl_stages.proofs.Replaying.{behaviour_there}
use Rattle.prl_stages.proofs.SomeText.{cores_text, cycle_text, flows_text, replay_text, run_text, summary_text}
use Rattle.prl_stages.proofs.laws.texts_have_behaviours.Goals as goal

pub returns : goal.returns
returns c =
    let ones : FindOne = c.findings_are_one.ensures in
    let one : PartLaws = ones.parts in
    let law : RunningLaws = c.runs_tell_of_behaviours.ensures in
    let whole : WholeLaws = c.whole_lists_are_there.ensures in
    record {
      behaviour = λ g bodies trees flat clocks rows has p main is. behaviour_there one law whole g bodies trees flat clocks rows has p main is;
      flows = λ g bodies trees named comes. flows_text one law whole g bodies trees named comes;
      replay = λ g bodies trees named comes. replay_text one law whole g bodies trees named comes;
      cores = λ g bodies trees named comes. cores_text one law whole g bodies trees named comes;
      run = λ g bodies trees named comes gate. run_text one law whole g bodies trees named comes gate;
      cycle = λ g bodies trees named comes.
          cycle_text one law whole g bodies trees named (one_plan ones.runs g (one_graph ones.plans g (one_flat one g) (one_clocks one g))) comes;
      generate = λ g bodies trees named comes seed size. summary_text one law whole g bodies trees named comes seed size;
    }
