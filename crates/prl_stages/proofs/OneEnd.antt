-- A list of stages comes to one end.
use Rattle.std.proofs.Common.{◌≡◌, ◌<◌, ℕ, length, List, [], ◌∷◌, Option, Some, Result, Ok, Err, refl, sym, ap, ◌∙◌, inl, inr, subst, arith}
use Rattle.prl_ast.specs.Trees.{ProgramTree}
use Rattle.prl_types.specs.Typing.{IsFault}
use Rattle.prl_body.specs.Vocabulary.{BodyTree, checked, TextTree}
use Rattle.prl_body.specs.declared.faults.BodyFault.{BodyFault}
use Rattle.prl_bodytext.specs.Parsing.{IsParsed}
use Rattle.prl_names.specs.Uses.{used_imports}
use Rattle.prl_base.specs.declared.operators.Clock.{Clock}
use Rattle.prl_causal.specs.Annotations.{flows_in}
use Rattle.prl_clock.specs.Outcomes.{IsOutcome as IsClockOutcome}
use Rattle.prl_evaluation.specs.declared.evaluation.TheConstants.{MAX_VALUES}
use Rattle.prl_expand.specs.Expansions.{Expansion}
use Rattle.prl_flow.specs.Vocabulary.{FlatProgram, Rows, HasNoCycle, IsCycleLabel, values_before}
use Rattle.prl_sensors.specs.declared.faults.SensorFault.{SensorFault}
use Rattle.prl_stages.specs.declared.faults.InputFile.TheVariants as parts
use Rattle.prl_stages.specs.Vocabulary.{Fault, Stage, Given, content_of, text_of, IsMain, AreBodies, RefusesBodies, grammar_fault, bodies_fault, HasClocks, clock_fault, too_many}
use Rattle.prl_stages.specs.Vocabulary.{rows_for, sensors_fault, told_parse, told_clocks, told_body, told_sensors, Holds, Refuses, Comes, FindOne}
use Rattle.prl_stages.specs.declared.faults.Fault.TheVariants as faults
use Rattle.prl_stages.specs.declared.stages.Stage.TheVariants as stages
use Rattle.prl_stages.proofs.OnePlan.{cells_apart, cells_one, dates_apart, dates_one, graph_apart, graph_one, one_graph, words_apart, words_one}
use Rattle.prl_stages.proofs.OnePlaced.{cores_apart, cores_one, placed_apart, placed_one}
use Rattle.prl_stages.proofs.OneTable.{TableLaws, made_apart, made_one, table_apart, table_one}
use Rattle.prl_stages.proofs.OneRun.{horizon_apart, horizon_one, schedule_apart, schedule_one}
use Rattle.prl_stages.proofs.Told.{grammar_told, clocks_told, bodies_told, sensors_told, same_told}
use Rattle.prl_stages.proofs.OneParts as ones
use Rattle.prl_stages.proofs.OneParts.{ok_ok, ok_err, err_err}

-- the laws of the crates below
pub record Laws : Type 0 where
  pub ones : FindOne
  pub tables : TableLaws
  pub one_label : (p : FlatProgram) (a b : List ℕ) → IsCycleLabel p a → IsCycleLabel p b → a ≡ b
  pub no_label : (p : FlatProgram) (label : List ℕ) → HasNoCycle p → IsCycleLabel p label → ⊥

module _ (law : Laws) (g : Given) where
  -- the faults of two texts of bodies that are one
  moved_bodies : (p : ProgramTree) (main : ℕ) (q : ProgramTree) (other : ℕ) (fault : BodyFault) → IsMain g p main → IsMain g q other
      → RefusesBodies p main (text_of g parts.Bodies) fault → RefusesBodies q other (text_of g parts.Bodies) fault
  moved_bodies p main q other fault h k e =
      let at = subst (λ (x : ProgramTree). RefusesBodies x main (text_of g parts.Bodies) fault) ((ones.one_program law.ones.parts g) p q h.program k.program) e in
      subst (λ (x : ℕ). RefusesBodies q x (text_of g parts.Bodies) fault) ((ones.one_main law.ones.parts g) p main q other h k) at

  one_text : (s t : List TextTree) → IsParsed (text_of g parts.Bodies) (Ok s) → IsParsed (text_of g parts.Bodies) (Ok t) → s ≡ t
  one_text s t h k = ok_ok (Ok s) s t refl (law.ones.parts.bodies (text_of g parts.Bodies) (Ok s) (Ok t) h k)

  read_apart : (s : List TextTree) (fault : BodyFault) → IsParsed (text_of g parts.Bodies) (Ok s) → IsParsed (text_of g parts.Bodies) (Err fault) → ⊥
  read_apart s fault h k = ok_err (Ok s) s fault refl (law.ones.parts.bodies (text_of g parts.Bodies) (Ok s) (Err fault) h k)

  bodies_apart : (trees : List BodyTree) (fault : BodyFault) (h : AreBodies g trees) → RefusesBodies h.program h.main (text_of g parts.Bodies) fault → ⊥
  bodies_apart trees fault h k = elim k [
    | inl unread ↦ read_apart h.texts fault h.written unread
    | inr unfit ↦
        let same = one_text unfit.0 h.texts unfit.1 h.written in
        let check : List TextTree → Result (List BodyTree) BodyFault = checked h.program.imports (used_imports h.program h.main) in
        ok_err (check h.texts) trees fault h.fitting (subst (λ (x : List TextTree). check x ≡ Err fault) same unfit.2)
  ]

  one_body_fault : (p : ProgramTree) (main : ℕ) (a b : BodyFault) → RefusesBodies p main (text_of g parts.Bodies) a → RefusesBodies p main (text_of g parts.Bodies) b → a ≡ b
  one_body_fault p main a b h k = elim h [
    | inl u ↦ elim k [
      | inl v ↦ err_err (Err a) a b refl (law.ones.parts.bodies (text_of g parts.Bodies) (Err a) (Err b) u v)
      | inr v ↦ absurd (read_apart v.0 a v.1 u)
    ]
    | inr u ↦ elim k [
      | inl v ↦ absurd (read_apart u.0 b u.1 v)
      | inr v ↦
          let check : List TextTree → Result (List BodyTree) BodyFault = checked p.imports (used_imports p main) in
          err_err (check u.0) a b u.2 (subst (λ (x : List TextTree). check x ≡ Err b) (one_text v.0 u.0 v.1 u.1) v.2)
    ]
  ]

  moved_rows : (p q : FlatProgram) (a b : List Clock) (r : Result Rows SensorFault) → HasClocks g p a → HasClocks g q b → rows_for g p a ≡ r → rows_for g q b ≡ r
  moved_rows p q a b r h k e =
      let at : rows_for g q a ≡ r = subst (λ (x : FlatProgram). rows_for g x a ≡ r) ((ones.one_flat law.ones.parts g) p q h.causal.flattened k.causal.flattened) e in
      subst (λ (clocks : List Clock). rows_for g q clocks ≡ r) ((ones.one_clocks law.ones.parts g) p q a b h k) at

  apart : (s : Stage) (f : Fault) → Holds g s → Refuses g s f → ⊥
  apart (stages.File part) f h k = ok_err (content_of g part) h.0 f h.1 k
  apart stages.Grammar f h k =
      let fault = grammar_fault k.0 in
      ok_err (Ok h.0) h.0 fault refl (law.ones.parts.programs (text_of g parts.Program) (Ok h.0) (Err fault) h.1.written k.1)
  apart stages.Types f h k =
      let same = (ones.one_program law.ones.parts g) k.0 h.0 k.1 h.2.program in
      let fault = k.2 in
      (ones.typed_is_no_fault law.ones.parts g) h.0 h.1 h.2.types fault h.2.typed (subst (λ (p : ProgramTree). IsFault p g.node fault) same k.3)
  apart stages.Expansion f h k =
      let same = (ones.one_expansion law.ones.parts g) h.1.program h.1.main k.0 k.1 h.1.expanded.expansion k.4.1.expansion h.1.is_main k.2 h.1.expanded.is k.4.1.is in
      let few = h.1.expanded.few in
      let many : 4096 < length (flows_in h.1.expanded.expansion) = subst (λ (e : Expansion). 4096 < length (flows_in e)) (sym same) k.4.1.many in
      omega (arith, few, many)
  apart stages.Causality f h k =
      let same = (ones.one_flat law.ones.parts g) k.0 h.0 k.1 h.1.flattened in
      law.no_label h.0 k.2 h.1.acyclic (subst (λ (x : FlatProgram). IsCycleLabel x k.2) same k.3)
  apart stages.Clocks f h k =
      let same = (ones.one_flat law.ones.parts g) k.0 h.0 k.1.flattened h.2.causal.flattened in
      let fault = clock_fault k.2 in
      let at : IsClockOutcome h.0 (Err fault) = subst (λ (x : FlatProgram). IsClockOutcome x (Err fault)) same k.3 in
      ok_err (Ok h.1) h.1 fault refl (law.ones.parts.clocks h.0 ((ones.is_flat law.ones.parts g) h.0 h.2.causal.flattened) (Ok h.1) (Err fault) h.2.only at)
  apart stages.Graph f h k = graph_apart law.ones.plans g (ones.one_flat law.ones.parts g) (ones.one_clocks law.ones.parts g) h.0 f h.1 k
  apart stages.Words f h k = words_apart law.ones.plans g (ones.one_flat law.ones.parts g) (ones.one_clocks law.ones.parts g) h.0 h.1 f h.2 k
  apart stages.Dates f h k = dates_apart law.ones.plans g (ones.one_flat law.ones.parts g) (ones.one_clocks law.ones.parts g) h.0 h.1 f h.2 k
  apart stages.Cells f h k = cells_apart law.ones.plans g (ones.one_flat law.ones.parts g) (ones.one_clocks law.ones.parts g) h.0 f h.1 k
  apart stages.Bodies f h k =
      let fault = bodies_fault k.3 in
      bodies_apart h.0 fault h.1 (moved_bodies k.0 k.1 h.1.program h.1.main fault k.2 h.1.is_main k.4)
  apart stages.Horizon f h k = horizon_apart law.ones.runs g (one_graph law.ones.plans g (ones.one_flat law.ones.parts g) (ones.one_clocks law.ones.parts g)) h.0 h.1 f h.2 k
  apart stages.Rows f h k =
      let fault = sensors_fault k.3 in
      let at = moved_rows k.0 h.0 k.1 h.1 (Err fault) k.2 h.3.clocked k.4 in
      ok_err (rows_for g h.0 h.1) h.2 fault h.3.read at
  apart stages.Schedule f h k = schedule_apart law.ones.runs g (one_graph law.ones.plans g (ones.one_flat law.ones.parts g) (ones.one_clocks law.ones.parts g)) h.0 h.1 f h.2 k
  apart stages.Made f h k = made_apart law.tables law.ones.runs g (one_graph law.ones.plans g (ones.one_flat law.ones.parts g) (ones.one_clocks law.ones.parts g)) h.0 h.1 f h.2 k
  apart stages.Table f h k = table_apart law.tables law.ones.runs g (one_graph law.ones.plans g (ones.one_flat law.ones.parts g) (ones.one_clocks law.ones.parts g)) h.0 h.1 f h.2 k
  apart stages.Cores f h k = cores_apart law.ones.runs g (one_graph law.ones.plans g (ones.one_flat law.ones.parts g) (ones.one_clocks law.ones.parts g)) h.0 h.1 f h.2 k
  apart stages.Placed f h k = placed_apart law.ones.runs g (one_graph law.ones.plans g (ones.one_flat law.ones.parts g) (ones.one_clocks law.ones.parts g)) h.0 h.1 h.2 f h.3 k
  apart stages.Values f h k =
      let few = h.3 in
      let many = subst (λ (clocks : List Clock). MAX_VALUES < values_before g.until clocks) ((ones.one_clocks law.ones.parts g) k.0 h.0 k.1 h.1 k.2 h.2) k.3 in omega (arith, few, many)

  one : (s : Stage) (a b : Fault) → Refuses g s a → Refuses g s b → a ≡ b
  one (stages.File part) a b h k = err_err (content_of g part) a b h k
  one stages.Grammar a b h k =
      let x = grammar_fault h.0 in
      let y = grammar_fault k.0 in
      let same = err_err (Err x) x y refl (law.ones.parts.programs (text_of g parts.Program) (Err x) (Err y) h.1 k.1) in
      same_told told_parse x y (faults.Grammar h.0) (faults.Grammar k.0) a b same (grammar_told h.0) h.2 (grammar_told k.0) k.2
  one stages.Types a b h k =
      let same = (ones.one_program law.ones.parts g) k.0 h.0 k.1 h.1 in
      let there = subst (λ (p : ProgramTree). IsFault p g.node k.2) same k.3 in
      h.4 ∙ ap faults.Types ((ones.one_type_fault law.ones.parts g) h.0 h.2 k.2 h.3 there) ∙ sym k.4
  one stages.Expansion a b h k = h.5 ∙ ap faults.Limit (h.4.0 ∙ sym k.4.0) ∙ sym k.5
  one stages.Causality a b h k =
      let same = (ones.one_flat law.ones.parts g) k.0 h.0 k.1 h.1 in
      let label = subst (λ (x : FlatProgram). IsCycleLabel x k.2) same k.3 in
      h.4 ∙ ap faults.Cycle (law.one_label h.0 h.2 k.2 h.3 label) ∙ sym k.4
  one stages.Clocks a b h k =
      let same = (ones.one_flat law.ones.parts g) k.0 h.0 k.1.flattened h.1.flattened in
      let x = clock_fault h.2 in
      let y = clock_fault k.2 in
      let at : IsClockOutcome h.0 (Err y) = subst (λ (p : FlatProgram). IsClockOutcome p (Err y)) same k.3 in
      let faulty = err_err (Err x) x y refl (law.ones.parts.clocks h.0 ((ones.is_flat law.ones.parts g) h.0 h.1.flattened) (Err x) (Err y) h.3 at) in
      same_told told_clocks x y (faults.Clocks h.2) (faults.Clocks k.2) a b faulty (clocks_told h.2) h.4 (clocks_told k.2) k.4
  one stages.Graph a b h k = graph_one law.ones.plans g (ones.one_flat law.ones.parts g) (ones.one_clocks law.ones.parts g) a b h k
  one stages.Words a b h k = words_one law.ones.plans g (ones.one_flat law.ones.parts g) (ones.one_clocks law.ones.parts g) a b h k
  one stages.Dates a b h k = dates_one law.ones.plans g (ones.one_flat law.ones.parts g) (ones.one_clocks law.ones.parts g) a b h k
  one stages.Cells a b h k = cells_one law.ones.plans g (ones.one_flat law.ones.parts g) (ones.one_clocks law.ones.parts g) a b h k
  one stages.Bodies a b h k =
      let x = bodies_fault h.3 in
      let y = bodies_fault k.3 in
      let at = moved_bodies k.0 k.1 h.0 h.1 y k.2 h.2 k.4 in
      same_told told_body x y (faults.Bodies h.3) (faults.Bodies k.3) a b (one_body_fault h.0 h.1 x y h.4 at) (bodies_told h.3) h.5 (bodies_told k.3) k.5
  one stages.Horizon a b h k = horizon_one law.ones.runs g (one_graph law.ones.plans g (ones.one_flat law.ones.parts g) (ones.one_clocks law.ones.parts g)) a b h k
  one stages.Rows a b h k =
      let x = sensors_fault h.3 in
      let y = sensors_fault k.3 in
      let at = moved_rows k.0 h.0 k.1 h.1 (Err y) k.2 h.2 k.4 in
      same_told told_sensors x y (faults.Sensors h.3) (faults.Sensors k.3) a b (err_err (rows_for g h.0 h.1) x y h.4 at) (sensors_told h.3) h.5 (sensors_told k.3) k.5
  one stages.Schedule a b h k = schedule_one law.ones.runs g (one_graph law.ones.plans g (ones.one_flat law.ones.parts g) (ones.one_clocks law.ones.parts g)) a b h k
  one stages.Made a b h k = made_one law.tables law.ones.runs g (one_graph law.ones.plans g (ones.one_flat law.ones.parts g) (ones.one_clocks law.ones.parts g)) a b h k
  one stages.Table a b h k = table_one law.tables law.ones.runs g (one_graph law.ones.plans g (ones.one_flat law.ones.parts g) (ones.one_clocks law.ones.parts g)) a b h k
  one stages.Cores a b h k = cores_one law.ones.runs g (one_graph law.ones.plans g (ones.one_flat law.ones.parts g) (ones.one_clocks law.ones.parts g)) a b h k
  one stages.Placed a b h k = placed_one law.ones.runs g (one_graph law.ones.plans g (ones.one_flat law.ones.parts g) (ones.one_clocks law.ones.parts g)) a b h k
  one stages.Values a b h k =
      h.4 ∙ ap (λ (clocks : List Clock). too_many (values_before g.until clocks)) ((ones.one_clocks law.ones.parts g) h.0 k.0 h.1 k.1 h.2 k.2) ∙ sym k.4

  -- a list of stages comes to one end
  pub one_end : (list : List Stage) (a b : Option (Stage × Fault)) → Comes g list a → Comes g list b → a ≡ b
  one_end [] a b ha hb = ha ∙ sym hb
  one_end (stage ∷ rest) a b ha hb = elim ha [
    | inl h ↦ elim hb [ inl k ↦ one_end rest a b h.1 k.1 | inr k ↦ absurd (apart stage k.0 h.0 k.1) ]
    | inr h ↦ elim hb [ inl k ↦ absurd (apart stage h.0 k.0 h.1) | inr k ↦ h.2 ∙ ap (λ f. Some (stage, f)) (one stage h.0 k.0 h.1 k.1) ∙ sym k.2 ]
  ]
