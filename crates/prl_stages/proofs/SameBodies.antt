-- Bodies with the same trees make the same steps, hence satisfy the same behaviours and give the same values by instance.
use Rattle.prl_base.proofs.Standard.{◌≡◌, ◌+◌, ℕ, zero, suc, true, false, cond, List, [], ◌∷◌, map, Option, Some, None, refl, sym, ap, ◌∙◌, subst, AllByRecursion, bytes_eq, slice_get, fun_ext}
use Rattle.prl_base.proofs.Standard.{map-map}
use Rattle.prl_base.specs.Clocks.{date_at}
use Rattle.prl_base.specs.declared.operators.Clock.{Clock}
use Rattle.prl_base.specs.declared.values.Value.{Value}
use Rattle.prl_ast.specs.Trees.{ProgramTree}
use Rattle.prl_causal.specs.Vocabulary.{program_rules, Behaviour, Satisfies}
use Rattle.prl_body.specs.Vocabulary.{Stepped, body_named, body_step, first_values, next_expressions, value_expressions, BodyTree, RegisterTree, body_tree, register_tree, Expression, value}
use Rattle.prl_body.specs.declared.bodies.CheckedBody.{CheckedBody}
use Rattle.prl_flow.specs.Vocabulary.{nth_step, registers_before, Rows, Rule, rated, constant, operator, applied, same, sensed, Holds, IsApplied, IsStep, Timed, all_at}
use Rattle.prl_plan.specs.Jobs.{task_at}
use Rattle.prl_plan.specs.declared.graphs.Kind.{Kind}
use Rattle.prl_plan.specs.declared.graphs.TaskGraph.{TaskGraph}
use Rattle.prl_plan.specs.declared.graphs.Kind.TheVariants as kinds
use Rattle.prl_values.specs.JobValues.{JobValues, body_of_task, given, gives, job_values, reads_of_job, step_outputs, values_after}

-- the first registers and the expressions of the next ones are those of the tree
tree_firsts : (body : CheckedBody) → first_values body ≡ map (λ (r : RegisterTree). r.first) (body_tree body).registers
tree_firsts body = sym (map-map (λ (r : RegisterTree). r.first) register_tree body.registers)

tree_nexts : (body : CheckedBody) → next_expressions body ≡ map (λ (r : RegisterTree). r.next) (body_tree body).registers
tree_nexts body = sym (map-map (λ (r : RegisterTree). r.next) register_tree body.registers)

module _ (a b : CheckedBody) (trees : body_tree a ≡ body_tree b) where
  same_firsts : first_values a ≡ first_values b
  same_firsts = tree_firsts a ∙ ap (λ (t : BodyTree). map (λ (r : RegisterTree). r.first) t.registers) trees ∙ sym (tree_firsts b)

  same_nexts : next_expressions a ≡ next_expressions b
  same_nexts = tree_nexts a ∙ ap (λ (t : BodyTree). map (λ (r : RegisterTree). r.next) t.registers) trees ∙ sym (tree_nexts b)

  same_values : value_expressions a ≡ value_expressions b
  same_values = ap (λ (t : BodyTree). t.values) trees

  abbrev stepped : List Value → List Value → List Expression → List Expression → Stepped
  stepped inputs registers values nexts = record { outputs = map (value inputs registers) values; registers = map (value inputs registers) nexts }

  same_step : (inputs registers : List Value) → body_step a inputs registers ≡ body_step b inputs registers
  same_step inputs registers =
      ap (λ (es : List Expression). stepped inputs registers es (next_expressions a)) same_values
      ∙ ap (λ (es : List Expression). stepped inputs registers (value_expressions b) es) same_nexts

  same_before : (inputs : ℕ → List Value) (n : ℕ) → registers_before a inputs n ≡ registers_before b inputs n
  same_before inputs zero = same_firsts
  same_before inputs (suc n) =
      ap (λ (rs : List Value). (body_step a (inputs n) rs).registers) (same_before inputs n)
      ∙ ap (λ (s : Stepped). s.registers) (same_step (inputs n) (registers_before b inputs n))

  same_outputs : (inputs : ℕ → List Value) (n : ℕ) → (nth_step a inputs n).outputs ≡ (nth_step b inputs n).outputs
  same_outputs inputs n =
      ap (λ (rs : List Value). (body_step a (inputs n) rs).outputs) (same_before inputs n)
      ∙ ap (λ (s : Stepped). s.outputs) (same_step (inputs n) (registers_before b inputs n))

  -- a step of the one is a step of the other
  step_there : (clock : Clock) (args outs : List Timed) (registers : List (List Value)) (n : ℕ) → IsStep a clock args outs registers n → IsStep b clock args outs registers n
  step_there clock args outs registers n h =
      let made = same_step h.inputs h.before in
      record {
        inputs = h.inputs;
        before = h.before;
        read = h.read;
        held = h.held;
        gives = subst (λ (s : Stepped). all_at outs (date_at clock n) ≡ map Some s.outputs) made h.gives;
        next = subst (λ (s : Stepped). slice_get registers (n + 1) ≡ Some s.registers) made h.next;
      }

-- no body on both sides, or two of one tree
abbrev HaveOneTree : Option CheckedBody → Option CheckedBody → Type 0
HaveOneTree None None = Unit {0}
HaveOneTree None (Some b) = ⊥
HaveOneTree (Some a) None = ⊥
HaveOneTree (Some a) (Some b) = body_tree a ≡ body_tree b

first_tree : (t u : BodyTree) (ts us : List BodyTree) → t ∷ ts ≡ u ∷ us → t ≡ u
first_tree t u ts us e = cc

rest_trees : (t u : BodyTree) (ts us : List BodyTree) → t ∷ ts ≡ u ∷ us → ts ≡ us
rest_trees t u ts us e = cc

-- the bodies of a name
same_named : (xs ys : List CheckedBody) (name : List ℕ) → map body_tree xs ≡ map body_tree ys → HaveOneTree (body_named xs name) (body_named ys name)
same_named [] [] name trees = tt
same_named [] (y ∷ ys) name trees = absurd (cc)
same_named (x ∷ xs) [] name trees = absurd (cc)
same_named (x ∷ xs) (y ∷ ys) name trees =
    let first : body_tree x ≡ body_tree y = first_tree (body_tree x) (body_tree y) (map body_tree xs) (map body_tree ys) trees in
    let rest = same_named xs ys name (rest_trees (body_tree x) (body_tree y) (map body_tree xs) (map body_tree ys) trees) in
    let names : x.name ≡ y.name = ap (λ (t : BodyTree). t.name) first in
    subst (λ (word : List ℕ). HaveOneTree (cond (bytes_eq x.name name) (Some x) (body_named xs name)) (cond (bytes_eq word name) (Some y) (body_named ys name))) names
    (elim (bytes_eq x.name name) as (λ t. HaveOneTree (cond t (Some x) (body_named xs name)) (cond t (Some y) (body_named ys name))) [ true ↦ first | false ↦ rest ])

-- what has one tree with a body is a body
other_body : (a : CheckedBody) (o r : Option CheckedBody) → HaveOneTree o r → o ≡ Some a → (b : CheckedBody) × (r ≡ Some b) × (body_tree a ≡ body_tree b)
other_body a None None h e = absurd (cc)
other_body a None (Some b) h e = absurd h
other_body a (Some x) None h e = absurd h
other_body a (Some x) (Some b) h e =
    let same : x ≡ a = some_one x a e in
    (b, refl, subst (λ (y : CheckedBody). body_tree y ≡ body_tree b) same h)
  where
    some_one : (x y : CheckedBody) → Some x ≡ Some y → x ≡ y
    some_one x y e = cc

module _ (xs ys : List CheckedBody) (trees : map body_tree xs ≡ map body_tree ys) (rows : Rows) where
  applied_there : (until : ℕ) (name : List ℕ) (args outs : List Timed) (registers : List (List Value)) → IsApplied xs until name args outs registers
      → IsApplied ys until name args outs registers
  applied_there until name args outs registers h =
      let found = other_body h.body (body_named xs name) (body_named ys name) (same_named xs ys name trees) h.named in
      record {
        body = found.0;
        named = found.1;
        clock = h.clock;
        args_clock = h.args_clock;
        outs_clock = h.outs_clock;
        number = h.number;
        first = subst (λ (vs : List Value). slice_get registers 0 ≡ Some vs) (same_firsts h.body found.0 found.2) h.first;
        steps = λ n early. step_there h.body found.0 found.2 h.clock args outs registers n (h.steps n early);
      }

  rule_there : (until : ℕ) (rule : Rule Timed (List (List Value))) → Holds xs rows until rule → Holds ys rows until rule
  rule_there until (rated rate f) h = h
  rule_there until (constant v f) h = h
  rule_there until (operator op x y) h = h
  rule_there until (applied name args outs registers) h = applied_there until name args outs registers h
  rule_there until (same f g) h = h
  rule_there until (sensed k f) h = h

  rules_there : (until : ℕ) (rules : List (Rule Timed (List (List Value)))) → AllByRecursion (Holds xs rows until) rules → AllByRecursion (Holds ys rows until) rules
  rules_there until [] h = tt
  rules_there until (rule ∷ rules) h = (rule_there until rule h.0, rules_there until rules h.1)

  -- a behaviour that satisfies a program for the ones satisfies it for the others
  pub satisfied_there : (p : ProgramTree) (main until : ℕ) (behaviour : Behaviour) → Satisfies p main xs rows until behaviour → Satisfies p main ys rows until behaviour
  satisfied_there p main until behaviour h = record {
    text = h.text;
    timed = h.timed;
    rules = rules_there until (program_rules p main behaviour) h.rules;
  }

  steps_same : (o r : Option CheckedBody) → HaveOneTree o r → (inputs : ℕ → List Value) (n : ℕ) → step_outputs o inputs n ≡ step_outputs r inputs n
  steps_same None None h inputs n = refl
  steps_same None (Some b) h inputs n = absurd h
  steps_same (Some a) None h inputs n = absurd h
  steps_same (Some a) (Some b) h inputs n = same_outputs a b h inputs n

  gives_same : (kind : Kind) (o r : Option CheckedBody) → HaveOneTree o r → (inputs : ℕ → List Value) (n : ℕ) → gives kind rows o inputs n ≡ gives kind rows r inputs n
  gives_same (kinds.Sensor k) o r h inputs n = refl
  gives_same (kinds.Node k) o r h inputs n = steps_same o r h inputs n
  gives_same (kinds.Actuator k) o r h inputs n = refl

  given_same : (graph : TaskGraph) (v : JobValues) (i n : ℕ) → given graph xs rows v i n ≡ given graph ys rows v i n
  given_same graph v i n =
      gives_same (task_at graph i).kind (body_of_task xs (task_at graph i)) (body_of_task ys (task_at graph i)) (same_named xs ys _ trees) (reads_of_job graph v i) n

  after_same : (graph : TaskGraph) (rounds : ℕ) → values_after graph xs rows rounds ≡ values_after graph ys rows rounds
  after_same graph zero = fun_ext (λ i. fun_ext (λ n. refl))
  after_same graph (suc rounds) =
      fun_ext (λ i. fun_ext (λ n.
      (given_same graph (values_after graph xs rows rounds) i n ∙ ap (λ (v : JobValues). given graph ys rows v i n) (after_same graph rounds))))

  -- the values by instance are the same
  pub values_same : (graph : TaskGraph) (until : ℕ) → job_values graph xs rows until ≡ job_values graph ys rows until
  values_same graph until = after_same graph (until + graph.hyper)
