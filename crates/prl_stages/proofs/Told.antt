-- Refusals and the faults of the crates below that they tell.
use Rattle.std.proofs.Common.{◌≡◌, Option, Some, refl, sym, ap, ◌∙◌}
use Rattle.prl_stages.specs.Vocabulary.{GrammarRefusal, ClocksRefusal, GraphRefusal, BodiesRefusal, SensorsRefusal, Fault, grammar_fault, bodies_fault, clock_fault}
use Rattle.prl_stages.specs.Vocabulary.{graph_fault, sensors_fault, told_parse, told_clocks, told_graph, told_body, told_sensors}
use Rattle.prl_stages.specs.declared.faults.GrammarRefusal.TheVariants as bad_grammar
use Rattle.prl_stages.specs.declared.faults.ClocksRefusal.TheVariants as bad_clocks
use Rattle.prl_stages.specs.declared.faults.GraphRefusal.TheVariants as bad_graph
use Rattle.prl_stages.specs.declared.faults.BodiesRefusal.TheVariants as bad_bodies
use Rattle.prl_stages.specs.declared.faults.SensorsRefusal.TheVariants as bad_rows
use Rattle.prl_stages.specs.declared.faults.Fault.TheVariants as faults

-- the fault of a refusal is told as that refusal
pub grammar_told : (r : GrammarRefusal) → told_parse (grammar_fault r) ≡ Some (faults.Grammar r)
grammar_told (bad_grammar.BadToken at) = refl
grammar_told (bad_grammar.Unexpected at) = refl
grammar_told (bad_grammar.NumberRange at) = refl
grammar_told (bad_grammar.Limit limit) = refl

pub clocks_told : (r : ClocksRefusal) → told_clocks (clock_fault r) ≡ Some (faults.Clocks r)
clocks_told (bad_clocks.Mismatch at) = refl
clocks_told (bad_clocks.Limit limit) = refl
clocks_told (bad_clocks.Free label) = refl
clocks_told (bad_clocks.NotWhole label period start) = refl

pub graph_told : (r : GraphRefusal) → told_graph (graph_fault r) ≡ Some (faults.Graph r)
graph_told (bad_graph.DueOnNonTask label) = refl
graph_told (bad_graph.DueRange flow due period) = refl
graph_told (bad_graph.Limit limit) = refl

pub bodies_told : (r : BodiesRefusal) → told_body (bodies_fault r) ≡ Some (faults.Bodies r)
bodies_told (bad_bodies.Syntax at) = refl
bodies_told (bad_bodies.Limit limit) = refl
bodies_told (bad_bodies.BodyName at) = refl
bodies_told (bad_bodies.BodyType at) = refl
bodies_told (bad_bodies.BodyArity at) = refl
bodies_told (bad_bodies.Missing name) = refl

pub sensors_told : (r : SensorsRefusal) → told_sensors (sensors_fault r) ≡ Some (faults.Sensors r)
sensors_told (bad_rows.Row number) = refl
sensors_told (bad_rows.NoSensor number) = refl
sensors_told (bad_rows.Order number) = refl
sensors_told (bad_rows.Value number) = refl
sensors_told (bad_rows.Short name have need) = refl

pub some_some : {A : Type 0} (r : Option A) (a b : A) → r ≡ Some a → r ≡ Some b → a ≡ b
some_some r a b h k = cc

-- faults that are one are told as one
pub same_told : {F : Type 0} (told : F → Option Fault) (x y : F) (told_x told_y a b : Fault) → x ≡ y → told x ≡ Some told_x → a ≡ told_x
    → told y ≡ Some told_y → b ≡ told_y → a ≡ b
same_told told x y told_x told_y a b same h ha k kb = ha ∙ some_some (told y) told_x told_y (sym (ap told same) ∙ h) k ∙ sym kb
