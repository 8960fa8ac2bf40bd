-- What a machine tells of a list of events is one, whatever bodies give its values by instance.
use Rattle.prl_base.proofs.Standard.{◌≡◌, ◌+◌, ◌%◌, ℕ, zero, suc, List, [], ◌∷◌, Option, Some, refl, sym, ap, ◌∙◌, subst, filter}
use Rattle.prl_base.specs.declared.numbers.CellNo.{CellNo}
use Rattle.prl_base.specs.declared.numbers.EdgeNo.{EdgeNo}
use Rattle.prl_base.specs.declared.numbers.TaskNo.{TaskNo}
use Rattle.prl_base.specs.declared.values.Value.{Value}
use Rattle.prl_core.specs.Cores.{CoreView, IsSightOf, IsSightOfRead, Tells, constants, values_of}
use Rattle.prl_plan.specs.Vocabulary.{PlanView, edge_at, first_unfinished, ExecState, RunConstants, after_event, next_action}
use Rattle.prl_plan.specs.declared.events.Action.{Action}
use Rattle.prl_plan.specs.declared.events.Event.{Event}
use Rattle.prl_plan.specs.declared.events.Action.TheVariants as actions
use Rattle.prl_plan.specs.declared.events.Event.TheVariants as events
use Rattle.prl_replay.specs.Replays.{IsReplay, TellsAll, after, is_read}
use Rattle.prl_track.specs.Machine.{cell_no}
use Rattle.prl_track.specs.declared.seen.Seen.{Seen}
use Rattle.prl_track.specs.declared.seen.Seen.TheVariants as sights
use Rattle.prl_values.specs.JobValues.{JobValues, value_on}

-- two machines of one plan, with the same constants, values by instance and state
pub record AreAlike (a b : CoreView) : Type 0 where
  pub plans : a.plan ≡ b.plan
  pub runs : constants a ≡ constants b
  pub values : values_of a ≡ values_of b
  pub states : a.state ≡ b.state

some_one : {A : Type 0} (r : Option A) (x y : A) → r ≡ Some x → r ≡ Some y → x ≡ y
some_one r x y h k = cc

module _ (a b : CoreView) (alike : AreAlike a b) where
  one_value : (e n : ℕ) (x y : Value) → value_on (values_of a) (edge_at a.plan.graph e) n ≡ Some x → value_on (values_of b) (edge_at b.plan.graph e) n ≡ Some y → x ≡ y
  one_value e n x y h k =
      let same : value_on (values_of a) (edge_at a.plan.graph e) n ≡ value_on (values_of b) (edge_at b.plan.graph e) n =
      ap (λ (p : PlanView). value_on (values_of a) (edge_at p.graph e) n) alike.plans ∙ ap (λ (v : JobValues). value_on v (edge_at b.plan.graph e) n) alike.values in
      some_one (value_on (values_of b) (edge_at b.plan.graph e) n) x y (sym same ∙ h) k

  one_read : (task : TaskNo) (n port : ℕ) (edge : EdgeNo) (m : ℕ) (cell : CellNo) (half : ℕ) (x y : Seen) → IsSightOfRead a task n port edge m cell half x
      → IsSightOfRead b task n port edge m cell half y → x ≡ y
  one_read task n port edge m cell zero x y h k = h ∙ sym k
  one_read task n port edge m cell (suc half) x y h k =
      h.1 ∙ ap (λ (v : Value). sights.Read task n port edge m cell v) (one_value edge.0 n h.0 k.0 h.2.told k.2.told) ∙ sym k.1

  one_sight : (task : TaskNo) (n : ℕ) (action : Action) (x y : Seen) → IsSightOf a task n action x → IsSightOf b task n action y → x ≡ y
  one_sight task n (actions.ReadConst port value) x y h k = h.0 ∙ sym k.0
  one_sight task n (actions.Read port edge m slot) x y h k = one_read task n port edge m (cell_no slot) (slot.0 % 2) x y h.1 k.1
  one_sight task n (actions.Write edge m slot) x y h k = h.1 ∙ sym k.1
  one_sight task n actions.End x y h k = h ∙ sym k

  one_told : (event : Event) (x y : Seen) → Tells a event x → Tells b event y → x ≡ y
  one_told events.Tick x y h k = h ∙ ap (λ (s : ExecState). sights.Ticked (s.now + 1)) alike.states ∙ sym k
  one_told (events.Act task) x y h k =
      let jobs : first_unfinished b.state task.0 ≡ first_unfinished a.state task.0 = ap (λ (s : ExecState). first_unfinished s task.0) (sym alike.states) in
      let acts : next_action (constants b) b.state task.0 ≡ next_action (constants a) a.state task.0 =
      ap (λ (c : RunConstants). next_action c b.state task.0) (sym alike.runs) ∙ ap (λ (s : ExecState). next_action (constants a) s task.0) (sym alike.states) in
      let there : IsSightOf b task (first_unfinished a.state task.0) (next_action (constants a) a.state task.0) y =
      subst (λ (act : Action). IsSightOf b task (first_unfinished a.state task.0) act y) acts
      (subst (λ (n : ℕ). IsSightOf b task n (next_action (constants b) b.state task.0) y) jobs k) in
      one_sight task (first_unfinished a.state task.0) (next_action (constants a) a.state task.0) x y h there

  after_alike : (event : Event) → AreAlike (after a event) (after b event)
  after_alike event = record {
    plans = alike.plans;
    runs = alike.runs;
    values = alike.values;
    states = ap (λ (c : RunConstants). after_event c a.state event) alike.runs ∙ ap (λ (s : ExecState). after_event (constants b) s event) alike.states;
  }

one_all : (a b : CoreView) → AreAlike a b → (list : List Event) (x y : List Seen) → TellsAll a list x → TellsAll b list y → x ≡ y
one_all a b alike [] [] [] h k = refl
one_all a b alike [] [] (seen ∷ y) h k = absurd k
one_all a b alike [] (seen ∷ x) y h k = absurd h
one_all a b alike (event ∷ list) [] y h k = absurd h
one_all a b alike (event ∷ list) (seen ∷ x) [] h k = absurd k
one_all a b alike (event ∷ list) (seen ∷ x) (other ∷ y) h k =
    ap (λ (s : Seen). s ∷ x) (one_told a b alike event seen other h.0 k.0)
    ∙ ap (λ (l : List Seen). other ∷ l) (one_all (after a event) (after b event) (after_alike a b alike event) list x y h.1 k.1)

-- the reads among what is told are one
pub one_reads : (a b : CoreView) → AreAlike a b → (list : List Event) (x y : List Seen) → IsReplay a list x → IsReplay b list y → x ≡ y
one_reads a b alike list x y h k = h.kept ∙ ap (filter is_read) (one_all a b alike list h.seens k.seens h.told k.told) ∙ sym k.kept
