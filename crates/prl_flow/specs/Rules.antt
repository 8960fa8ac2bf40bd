-- What a program asks of its flows. The rules are generic in what stands for a flow, `F`, and for the registers of an
-- application, `R`: these themselves, or their numbers.
use Rattle.std.specs.Prelude.{ℕ, ◌+◌, List, [], ◌∷◌, ◌++◌, map, Option, Some, None}
use Rattle.prl_base.specs.declared.numbers.FlowNo.{FlowNo}
use Rattle.prl_base.specs.declared.operators.Op.{Op}
use Rattle.prl_base.specs.declared.values.Value.{Value}
use Rattle.prl_ast.specs.declared.declarations.Rate.{Rate}
use Rattle.prl_flow.specs.declared.programs.App.{App}
use Rattle.prl_flow.specs.declared.programs.Arg.{Arg}
use Rattle.prl_flow.specs.declared.programs.Def.{Def}
use Rattle.prl_flow.specs.declared.programs.Def.TheVariants as definitions
use Rattle.prl_flow.specs.declared.programs.Flow.{Flow}
use Rattle.prl_flow.specs.Programs.{FlatProgram}

pub data Rule (F R : Type 0) : Type 0 where
  -- a declared rate gives the flow its clock
  rated : Rate → F → Rule F R
  -- the flow has the value at each of its dates
  constant : Value → F → Rule F R
  -- of the first flow the operator makes the second
  operator : Op → F → F → Rule F R
  -- the steps of an import's body, by its name, make the outputs of the arguments, and the registers
  applied : List ℕ → List F → List F → R → Rule F R
  -- the two are one flow
  same : F → F → Rule F R
  -- the flow has the first rows of the sensor of main's input of this number
  sensed : ℕ → F → Rule F R

-- the same rule of other things
abbrev pub mark_rule : {F R G S : Type 0} → (F → G) → (R → S) → Rule F R → Rule G S
mark_rule f r (rated rate x) = rated rate (f x)
mark_rule f r (constant v x) = constant v (f x)
mark_rule f r (operator op x y) = operator op (f x) (f y)
mark_rule f r (applied name args outs x) = applied name (map f args) (map f outs) (r x)
mark_rule f r (same x y) = same (f x) (f y)
mark_rule f r (sensed k x) = sensed k (f x)

abbrev pub rate_rules : {F R : Type 0} → Option Rate → F → List (Rule F R)
rate_rules None x = []
rate_rules (Some rate) x = rated rate x ∷ []

-- what the definition of flow `i` asks; outputs of applications are told by the applications
abbrev pub definition_rules : ℕ → Def → List (Rule ℕ ℕ)
definition_rules i (definitions.Sensor k) = sensed k i ∷ []
definition_rules i (definitions.Copy of) = same i of.0 ∷ []
definition_rules i (definitions.Const v) = constant v i ∷ []
definition_rules i (definitions.Apply app out) = []
definition_rules i (definitions.Op op of) = operator op of.0 i ∷ []

abbrev pub flow_rules : ℕ → Flow → List (Rule ℕ ℕ)
flow_rules i flow = rate_rules flow.rate i ++ definition_rules i flow.def

-- of these flows, which are counted from `i`
abbrev pub flows_rules : ℕ → List Flow → List (Rule ℕ ℕ)
flows_rules i [] = []
flows_rules i (flow ∷ flows) = flow_rules i flow ++ flows_rules (i + 1) flows

abbrev pub app_rule : ℕ → App → Rule ℕ ℕ
app_rule k app = applied app.name (map (λ (a : Arg). a.flow.0) app.args) (map (λ (f : FlowNo). f.0) app.outs) k

-- of these applications, which are counted from `k`
abbrev pub apps_rules : ℕ → List App → List (Rule ℕ ℕ)
apps_rules k [] = []
apps_rules k (app ∷ apps) = app_rule k app ∷ apps_rules (k + 1) apps

-- the rules of a flat program, over the numbers of its flows and applications
abbrev pub flat_rules : FlatProgram → List (Rule ℕ ℕ)
flat_rules p = flows_rules 0 p.flows ++ apps_rules 0 p.apps
