-- What the texts of a command mean is one: one behaviour with one list of flows of main's outputs, over one plan with one list of values by instance.
use Rattle.std.proofs.Common.{◌≡◌, ℕ, List, Option, Result, Ok, map, sym, ap, ◌∙◌, subst}
use Rattle.prl_ast.specs.Trees.{ProgramTree}
use Rattle.prl_base.specs.declared.operators.Clock.{Clock}
use Rattle.prl_base.specs.declared.values.Ty.{Ty}
use Rattle.prl_causal.specs.Vocabulary.{outputs_of, Behaviour, Satisfies, state_in, node_at}
use Rattle.prl_body.specs.Vocabulary.{BodyTree, body_tree, checked, TextTree}
use Rattle.prl_body.specs.declared.bodies.CheckedBody.{CheckedBody}
use Rattle.prl_body.specs.declared.faults.BodyFault.{BodyFault}
use Rattle.prl_clock.specs.Outcomes.{AreOnlyClocks}
use Rattle.prl_core.specs.Cores.{opened_on}
use Rattle.prl_expand.specs.Vocabulary.{IsOneToOne, Expansion, IsExpansion, flat_of}
use Rattle.prl_flow.specs.Vocabulary.{FlatProgram, IsFlat, Rows, IsSolution, State}
use Rattle.prl_names.specs.Uses.{used_imports}
use Rattle.prl_plan.specs.Vocabulary.{Placement, alone, constants_on, PlanView, opening}
use Rattle.prl_plan.specs.declared.graphs.TaskGraph.{TaskGraph}
use Rattle.prl_plan.specs.declared.horizons.Horizon.{Horizon}
use Rattle.prl_causal.specs.Conditions.{clocks_in}
use Rattle.prl_types.specs.Typing.{IsTyped}
use Rattle.prl_values.specs.JobValues.{job_values}
use Rattle.prl_stages.specs.declared.faults.InputFile.TheVariants as parts
use Rattle.prl_stages.specs.Vocabulary.{Given, text_of, AreBodies, HasGraph, HasClocks, IsFlattened, Execution, Meaning, meant_flows, named_flows, rows_for, FindOne}
use Rattle.prl_stages.proofs.OneParts.{is_flat, ok_ok, one_clocks, one_flat, one_main, one_program}
use Rattle.prl_stages.proofs.OnePlan.{one_graph}
use Rattle.prl_stages.proofs.OneRun.{moved, one_plan}
use Rattle.prl_stages.proofs.OneTold.{AreAlike}
use Rattle.prl_stages.proofs.SameBodies.{satisfied_there, values_same}

-- the laws of the crates below
pub record MeaningLaws : Type 0 where
  pub ones : FindOne
  pub solutions : (p : ProgramTree) (asked : Option (List ℕ)) (main : ℕ) (types : List Ty) (e : Expansion) → IsTyped p asked main types → IsExpansion p main e
      → (bodies : List CheckedBody) (rows : Rows) (until : ℕ) → IsOneToOne (Satisfies p main bodies rows until) (IsSolution (flat_of p types main e) bodies rows until) state_in
  pub clocks : (p : FlatProgram) → IsFlat p → (clocks : List Clock) → AreOnlyClocks p clocks
      → (bodies : List CheckedBody) (rows : Rows) (until : ℕ) (s : State) → IsSolution p bodies rows until s → clocks_in s ≡ clocks

module _ (law : MeaningLaws) (g : Given) where
  pub graphs : (a b : TaskGraph) → HasGraph g a → HasGraph g b → a ≡ b
  graphs = one_graph law.ones.plans g (one_flat law.ones.parts g) (one_clocks law.ones.parts g)

  -- a text has the bodies of one list of trees
  one_trees : (s t : List BodyTree) → AreBodies g s → AreBodies g t → s ≡ t
  one_trees s t h k =
      let programs : k.program ≡ h.program = one_program law.ones.parts g k.program h.program k.is_main.program h.is_main.program in
      let mains : k.main ≡ h.main = one_main law.ones.parts g k.program k.main h.program h.main k.is_main h.is_main in
      let texts : k.texts ≡ h.texts = ok_ok (Ok k.texts) k.texts h.texts (refl_of (Ok k.texts)) (law.ones.parts.bodies (text_of g parts.Bodies) (Ok k.texts) (Ok h.texts) k.written h.written) in
      let check : ProgramTree → ℕ → List TextTree → Result (List BodyTree) BodyFault = λ p main x. checked p.imports (used_imports p main) x in
      let first : check h.program k.main k.texts ≡ Ok t = subst (λ (p : ProgramTree). check p k.main k.texts ≡ Ok t) programs k.fitting in
      let second : check h.program h.main k.texts ≡ Ok t = subst (λ (m : ℕ). check h.program m k.texts ≡ Ok t) mains first in
      ok_ok (check h.program h.main h.texts) s t h.fitting (subst (λ (x : List TextTree). check h.program h.main x ≡ Ok t) texts second)
    where
      refl_of : {A : Type 0} (x : A) → x ≡ x
      refl_of x = cc

  module _ (flat : FlatProgram) (clocks : List Clock) (has : HasClocks g flat clocks) where
    -- the clocks of what is meant are those of the calculus
    clocks_there : (m : Meaning g) → clocks_in (state_in m.one.one) ≡ clocks
    clocks_there m =
        let f : IsFlattened g m.flat = m.flattened in
        let b = m.one.one in
        let first : Satisfies f.program m.main m.bodies m.rows g.until b =
        subst (λ (p : ProgramTree). Satisfies p m.main m.bodies m.rows g.until b) (one_program law.ones.parts g m.program f.program m.is_main.program f.is_main.program) m.one.is in
        let second : Satisfies f.program f.main m.bodies m.rows g.until b =
        subst (λ (k : ℕ). Satisfies f.program k m.bodies m.rows g.until b) (one_main law.ones.parts g m.program m.main f.program f.main m.is_main f.is_main) first in
        let made : IsSolution (flat_of f.program f.is_main.types f.main f.expanded.expansion) m.bodies m.rows g.until (state_in b) =
        (law.solutions f.program g.node f.main f.is_main.types f.expanded.expansion f.is_main.typed f.expanded.is m.bodies m.rows g.until).into b second in
        let is : IsSolution m.flat m.bodies m.rows g.until (state_in b) =
        subst (λ (p : FlatProgram). IsSolution p m.bodies m.rows g.until (state_in b)) (sym f.expanded.flat_is) made in
        let only : AreOnlyClocks m.flat clocks =
        subst (λ (p : FlatProgram). AreOnlyClocks p clocks) (one_flat law.ones.parts g flat m.flat has.causal.flattened f) has.only in
        law.clocks m.flat (is_flat law.ones.parts g m.flat f) clocks only m.bodies m.rows g.until (state_in b) is

    rows_there : (m : Meaning g) → rows_for g flat clocks ≡ Ok m.rows
    rows_there m =
        let at : rows_for g m.flat clocks ≡ Ok m.rows = subst (λ (cs : List Clock). rows_for g m.flat cs ≡ Ok m.rows) (clocks_there m) m.read in
        subst (λ (p : FlatProgram). rows_for g p clocks ≡ Ok m.rows) (one_flat law.ones.parts g m.flat flat m.flattened has.causal.flattened) at

    module _ (a b : Meaning g) where
      pub one_rows : a.rows ≡ b.rows
      one_rows = ok_ok (rows_for g flat clocks) a.rows b.rows (rows_there a) (rows_there b)

      pub trees_are_one : map body_tree a.bodies ≡ map body_tree b.bodies
      trees_are_one = one_trees (map body_tree a.bodies) (map body_tree b.bodies) a.are_bodies b.are_bodies

      programs_are_one : a.program ≡ b.program
      programs_are_one = one_program law.ones.parts g a.program b.program a.is_main.program b.is_main.program

      mains_are_one : a.main ≡ b.main
      mains_are_one = one_main law.ones.parts g a.program a.main b.program b.main a.is_main b.is_main

      one_behaviour : a.one.one ≡ b.one.one
      one_behaviour =
          let x = a.one.one in
          let first : Satisfies b.program a.main a.bodies a.rows g.until x = subst (λ (p : ProgramTree). Satisfies p a.main a.bodies a.rows g.until x) programs_are_one a.one.is in
          let second : Satisfies b.program b.main a.bodies a.rows g.until x = subst (λ (m : ℕ). Satisfies b.program m a.bodies a.rows g.until x) mains_are_one first in
          let third : Satisfies b.program b.main a.bodies b.rows g.until x = subst (λ (r : Rows). Satisfies b.program b.main a.bodies r g.until x) one_rows second in
          b.one.only x (satisfied_there a.bodies b.bodies trees_are_one b.rows b.program b.main g.until x third)

      -- the flows of main's outputs are one
      pub one_meant : meant_flows g a ≡ meant_flows g b
      one_meant =
          ap (λ (p : ProgramTree). named_flows (node_at p a.main).outs (outputs_of a.one.one)) programs_are_one
          ∙ ap (λ (m : ℕ). named_flows (node_at b.program m).outs (outputs_of a.one.one)) mains_are_one
          ∙ ap (λ (x : Behaviour). named_flows (node_at b.program b.main).outs (outputs_of x)) one_behaviour

  module _ (a b : Execution g) where
    abbrev clocked : HasClocks g a.has_horizon.has_plan.has_graph.flat a.has_horizon.has_plan.has_graph.clocks
    clocked = a.has_horizon.has_plan.has_graph.clocked

    pub same_flows : meant_flows g a.meaning ≡ meant_flows g b.meaning
    same_flows = one_meant a.has_horizon.has_plan.has_graph.flat a.has_horizon.has_plan.has_graph.clocks clocked a.meaning b.meaning

    pub same_plan : a.plan ≡ b.plan
    same_plan = one_plan law.ones.runs g graphs a.plan b.plan a.has_horizon.has_plan b.has_horizon.has_plan

    pub same_horizon : a.horizon ≡ b.horizon
    same_horizon =
        let here : a.horizon ≡ a.horizon = cc in
        moved law.ones.runs g graphs a.plan b.plan a.horizon b.horizon (λ p h. a.horizon ≡ h) a.has_horizon b.has_horizon here

    same_rows : a.meaning.rows ≡ b.meaning.rows
    same_rows = one_rows a.has_horizon.has_plan.has_graph.flat a.has_horizon.has_plan.has_graph.clocks clocked a.meaning b.meaning

    same_trees : map body_tree a.meaning.bodies ≡ map body_tree b.meaning.bodies
    same_trees = trees_are_one a.has_horizon.has_plan.has_graph.flat a.has_horizon.has_plan.has_graph.clocks clocked a.meaning b.meaning

    same_values : job_values a.plan.graph a.meaning.bodies a.meaning.rows a.horizon.until ≡ job_values b.plan.graph b.meaning.bodies b.meaning.rows b.horizon.until
    same_values =
        ap (λ (p : PlanView). job_values p.graph a.meaning.bodies a.meaning.rows a.horizon.until) same_plan
        ∙ ap (λ (r : Rows). job_values b.plan.graph a.meaning.bodies r a.horizon.until) same_rows
        ∙ ap (λ (h : Horizon). job_values b.plan.graph a.meaning.bodies b.meaning.rows h.until) same_horizon
        ∙ values_same a.meaning.bodies b.meaning.bodies same_trees b.meaning.rows b.plan.graph b.horizon.until

    -- the machines of both, wherever the tasks run, as long as they run at the same places
    pub same_machines : (here there : Placement) → constants_on a.plan here a.horizon ≡ constants_on b.plan there b.horizon
        → AreAlike (opened_on a.plan here a.meaning.bodies a.meaning.rows a.horizon) (opened_on b.plan there b.meaning.bodies b.meaning.rows b.horizon)
    same_machines here there same = record {
      plans = same_plan;
      runs = same;
      values = same_values;
      states = ap opening same;
    }

    pub same_alone : constants_on a.plan (alone a.plan) a.horizon ≡ constants_on b.plan (alone b.plan) b.horizon
    same_alone =
        ap (λ (p : PlanView). constants_on p (alone p) a.horizon) same_plan ∙ ap (λ (h : Horizon). constants_on b.plan (alone b.plan) h) same_horizon
