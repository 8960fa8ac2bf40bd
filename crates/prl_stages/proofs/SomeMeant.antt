-- Each command whose stages hold means a text.
use Rattle.prl_base.proofs.Standard.{ℕ, Bool, List, map, None, refl, is_some}
use Rattle.prl_arguments.specs.declared.arguments.Command.{Command}
use Rattle.prl_arguments.specs.declared.arguments.Mode.{Mode}
use Rattle.prl_arguments.specs.declared.arguments.Mode.TheVariants as modes
use Rattle.prl_body.specs.Checks.{body_tree}
use Rattle.prl_body.specs.declared.bodies.CheckedBody.{CheckedBody}
use Rattle.prl_rule.specs.declared.views.Gate.{Gate}
use Rattle.prl_stages.specs.Vocabulary.{Given, AreBodies, HoldsBodies, IsCycleText, IsMeant, IsMeantIn, IsRunText, IsSummary, Comes, IsText, files, stages_after, stages_of}
use Rattle.prl_stages.specs.declared.ran.Ran.{Ran}
use Rattle.prl_stages.specs.declared.ran.Ran.TheVariants as runs
use Rattle.prl_stages.proofs.AllHold.{behind}

-- a mode whose stages hold has a text
abbrev Exists : Given → Mode → Type 0
Exists g mode = (named : Bool) → Comes g (stages_after mode named) None → (text : List ℕ) × IsText g mode text

-- it has one for each list of bodies that the text's are
abbrev ExistsWith : Given → Mode → Type 0
ExistsWith g mode = (bodies : List CheckedBody) → AreBodies g (map body_tree bodies) → Exists g mode

-- the laws of texts
pub record Laws (g : Given) : Type 0 where
  pub print : Exists g modes.Print
  pub plan : Exists g modes.Plan
  pub check : Exists g modes.Check
  pub schedule : Exists g modes.Schedule
  pub edf : Exists g modes.Edf
  pub table : Exists g modes.Table
  pub flows : ExistsWith g modes.Flows
  pub replay : ExistsWith g modes.Replay
  pub cores : ExistsWith g modes.Cores
  pub run : (bodies : List CheckedBody) → AreBodies g (map body_tree bodies) → (named : Bool) → Comes g (stages_after modes.Run named) None
      → (gate : Gate) → (text : List ℕ) × (ran : Ran) × IsRunText g gate text ran
  pub cycle : (bodies : List CheckedBody) → AreBodies g (map body_tree bodies) → (named : Bool) → Comes g (stages_after modes.Cycle named) None
      → (text : List ℕ) × (ran : Ran) × IsCycleText g text ran
  pub generate : (bodies : List CheckedBody) → AreBodies g (map body_tree bodies) → (named : Bool) → Comes g (stages_after modes.Generate named) None
      → (seed size : ℕ) → (text : List ℕ) × (ran : Ran) × IsSummary g seed size text ran

module _ (g : Given) (law : Laws g) (c : Command) where
  -- nothing is run beside such a text
  alone : (mode : Mode) → ((text : List ℕ) → IsText g mode text → IsMeantIn mode g c text runs.Not) → (text : List ℕ) × IsText g mode text
      → (text : List ℕ) × (ran : Ran) × IsMeantIn mode g c text ran
  alone mode means some = (some.0, runs.Not, means some.0 some.1)

  meant_in : (mode : Mode) (named : Bool) → HoldsBodies g mode → Comes g (stages_after mode named) None → (text : List ℕ) × (ran : Ran) × IsMeantIn mode g c text ran
  meant_in modes.Print named holds comes = alone modes.Print (λ text is. (is, refl)) (law.print named comes)
  meant_in modes.Plan named holds comes = alone modes.Plan (λ text is. (is, refl)) (law.plan named comes)
  meant_in modes.Check named holds comes = alone modes.Check (λ text is. (is, refl)) (law.check named comes)
  meant_in modes.Schedule named holds comes = alone modes.Schedule (λ text is. (is, refl)) (law.schedule named comes)
  meant_in modes.Edf named holds comes = alone modes.Edf (λ text is. (is, refl)) (law.edf named comes)
  meant_in modes.Table named holds comes = alone modes.Table (λ text is. (is, refl)) (law.table named comes)
  meant_in modes.Flows named holds comes = let b = holds tt in alone modes.Flows (λ text is. (is, refl)) (law.flows b.0 b.1 named comes)
  meant_in modes.Replay named holds comes = let b = holds tt in alone modes.Replay (λ text is. (is, refl)) (law.replay b.0 b.1 named comes)
  meant_in modes.Cores named holds comes = let b = holds tt in alone modes.Cores (λ text is. (is, refl)) (law.cores b.0 b.1 named comes)
  meant_in modes.Run named holds comes = let b = holds tt in law.run b.0 b.1 named comes c.clock
  meant_in modes.Cycle named holds comes = let b = holds tt in law.cycle b.0 b.1 named comes
  meant_in modes.Generate named holds comes = let b = holds tt in law.generate b.0 b.1 named comes c.seed c.size

  pub some_meant : HoldsBodies g c.mode → Comes g (stages_of c) None → (text : List ℕ) × (ran : Ran) × IsMeant g c text ran
  some_meant holds comes =
      let named = is_some c.bodies in
      meant_in c.mode named holds (behind g files (stages_after c.mode named) comes)
