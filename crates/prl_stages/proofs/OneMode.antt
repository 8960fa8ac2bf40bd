-- The text that a mode means is one where its stages hold.
use Rattle.std.proofs.Common.{◌≡◌, ◌++◌, ℕ, Bool, List, [], ◌∷◌, None}
use Rattle.prl_arguments.specs.declared.arguments.Mode.{Mode}
use Rattle.prl_arguments.specs.declared.arguments.Mode.TheVariants as modes
use Rattle.prl_stages.specs.Vocabulary.{Stage, Given, Comes, Holds, IsText, front, stages_after}
use Rattle.prl_stages.specs.declared.stages.Stage.TheVariants as stages
use Rattle.prl_stages.proofs.AllHold.{first_holds}
use Rattle.prl_stages.proofs.OneText as one
use Rattle.prl_stages.proofs.OneText.{Laws}

-- the clocks of a program, where its first stages hold
pub clocks_hold : (g : Given) (rest : List Stage) → Comes g (front ++ rest) None → Holds g stages.Clocks
clocks_hold g rest comes =
    let types : List Stage = stages.Types ∷ stages.Expansion ∷ stages.Causality ∷ stages.Clocks ∷ rest in
    let expansion : List Stage = stages.Expansion ∷ stages.Causality ∷ stages.Clocks ∷ rest in
    let causality : List Stage = stages.Causality ∷ stages.Clocks ∷ rest in
    let one = first_holds g stages.Grammar types comes in
    let two = first_holds g stages.Types expansion one.1 in
    let three = first_holds g stages.Expansion causality two.1 in
    let four = first_holds g stages.Causality (stages.Clocks ∷ rest) three.1 in
    (first_holds g stages.Clocks rest four.1).0

pub one_text : (law : Laws) (g : Given) (mode : Mode) (named : Bool) → Comes g (stages_after mode named) None → (a b : List ℕ) → IsText g mode a → IsText g mode b → a ≡ b
one_text law g modes.Print named comes a b h k = one.print_one law g a b h k
one_text law g modes.Plan named comes a b h k = one.plan_one law g a b h k
one_text law g modes.Check named comes a b h k = one.check_one law g a b h k
one_text law g modes.Flows named comes a b h k =
    let has = clocks_hold g (stages.Bodies ∷ stages.Rows ∷ stages.Values ∷ []) comes in
    one.flows_one law g has.0 has.1 has.2 a b h k
one_text law g modes.Schedule named comes a b h k = one.schedule_one law g a b h k
one_text law g modes.Cores named comes a b h k = one.cores_one law g a b h k
one_text law g modes.Edf named comes a b h k = one.edf_one law g a b h k
one_text law g modes.Table named comes a b h k = one.table_one law g a b h k
one_text law g modes.Replay named comes a b h k = one.replay_one law g a b h k
one_text law g modes.Run named comes a b h k = absurd h
one_text law g modes.Generate named comes a b h k = absurd h
one_text law g modes.Cycle named comes a b h k = absurd h
