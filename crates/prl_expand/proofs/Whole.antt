-- The flat program of the whole.
use Rattle.prl_base.proofs.Standard.{◌≡◌, ◌<◌, ◌+◌, ◌++◌, ◌∷◌, [], ℕ, zero, suc, List, Some, map, length, slice_get, sym, ap, subst, ◌∙◌, arith, range_with_len}
use Rattle.prl_base.specs.declared.numbers.FlowNo.{FlowNo}
use Rattle.prl_base.specs.declared.values.Ty.{Ty}
use Rattle.prl_ast.specs.Vocabulary.{NodeTree, ProgramTree, program_tree, IsInRange}
use Rattle.prl_ast.specs.declared.declarations.Program.{Program}
use Rattle.prl_flow.specs.Programs.{FlatProgram}
use Rattle.prl_flow.specs.declared.programs.App.{App}
use Rattle.prl_flow.specs.declared.programs.Def.{Def}
use Rattle.prl_flow.specs.declared.programs.Flow.{Flow}
use Rattle.prl_flow.specs.Programs as flat_programs
use Rattle.prl_names.specs.Vocabulary.{IsNamed, applies}
use Rattle.prl_names.proofs.Right.{named}
use Rattle.prl_types.specs.Typing.{IsRight}
use Rattle.prl_causal.specs.Vocabulary.{flows_in, outputs_of, node_at, node_or}
use Rattle.prl_expand.specs.Vocabulary.{Expansion, IsExpansion, devices_of, entered_apps, entered_flows, flat_of, flow_no, sensors_from, ExpandFault, IsExpandFault, IsPast, a_node, flows_of, IsSound}
use Rattle.prl_expand.specs.Vocabulary.{MayApply}
use Rattle.prl_flow.specs.declared.programs.Def.TheVariants as definitions
use Rattle.prl_expand.proofs.Within.{all_levels}
use Rattle.prl_expand.proofs.Adding.{past_more}
use Rattle.prl_expand.proofs.Entering.{node_found, variables_past}
use Rattle.prl_expand.proofs.Expanded.{first, is_expansion, past_is}

pub sensors_suc : (a f n : ℕ) → sensors_from a (range_with_len f (suc n)) ≡ sensors_from a (range_with_len f n) ++ definitions.Sensor (a + n) ∷ []
sensors_suc a f zero = let here : a ≡ a + 0 = omega arith in ap (λ k. definitions.Sensor k ∷ []) here
sensors_suc a f (suc n) =
    let here : (a + 1) + n ≡ a + suc n = omega arith in
    ap (λ (ds : List Def). definitions.Sensor a ∷ ds) (sensors_suc (a + 1) (f + 1) n ∙ ap (λ k. sensors_from (a + 1) (range_with_len (f + 1) n) ++ definitions.Sensor k ∷ []) here)

pub sensors_more : (n : ℕ) → sensors_from 0 (range_with_len 0 (n + 1)) ≡ sensors_from 0 (range_with_len 0 n) ++ definitions.Sensor n ∷ []
sensors_more n =
    let next : n + 1 ≡ suc n = omega arith in
    let here : 0 + n ≡ n = omega arith in
    ap (λ k. sensors_from 0 (range_with_len 0 k)) next ∙ sensors_suc 0 0 n ∙ ap (λ k. sensors_from 0 (range_with_len 0 n) ++ definitions.Sensor k ∷ []) here

abbrev pub a_flat : List Flow → List App → List FlowNo → List FlowNo → List flat_programs.Device → List flat_programs.Device → FlatProgram
a_flat flows apps ins outs in_devices out_devices = record { flows = flows; apps = apps; ins = ins; outs = outs; in_devices = in_devices; out_devices = out_devices }

-- main's node and its expansion, by equal programs and numbers
pub main_node : (checked typed : Program) (k main : ℕ) (d : NodeTree) → checked ≡ typed → k ≡ main → slice_get (program_tree checked).nodes k ≡ Some d → node_at (program_tree typed) main ≡ d
main_node checked typed k main d same is at = ap (node_at (program_tree typed)) (sym is) ∙ ap node_or (node_found typed checked k d same at)

pub main_whole : (checked typed : Program) (k main levels : ℕ) → checked ≡ typed → k ≡ main → levels ≡ length (program_tree typed).nodes →
    a_node (program_tree checked) levels k first ≡ a_node (program_tree typed) (length (program_tree typed).nodes) main first
main_whole checked typed k main levels same is many =
    ap (λ pr. a_node (program_tree pr) levels k first) same ∙ ap (λ n. a_node (program_tree typed) n k first) many
    ∙ ap (λ j. a_node (program_tree typed) (length (program_tree typed).nodes) j first) is

module _ (p : ProgramTree) (main : ℕ) (tys : List Ty) (right : IsRight p main tys) where
  abbrev pub whole : Expansion
  whole = a_node p (length p.nodes) main first

  is_named : IsNamed p main
  is_named = named p right.main main right.typed.names

  pub main_there : main < length p.nodes
  main_there = is_named.main_below

  pub sound_is : IsInRange p → IsSound p
  sound_is range = record { main = main; named = is_named; range = range }

  pub levels_do : MayApply p (length p.nodes) (λ j. applies p main j)
  levels_do = all_levels p main main is_named

  pub expansion_is : IsExpansion p main whole
  expansion_is = is_expansion p main is_named

  pub flat_is : (flows : List Flow) (apps : List App) (ins outs : List FlowNo) (in_devices out_devices : List flat_programs.Device)
      → flows ≡ flows_of (entered_flows p tys [] main (sensors_from 0 (range_with_len 0 (length (node_at p main).ins))) whole) → apps ≡ entered_apps p main whole
      → ins ≡ map flow_no (range_with_len 0 (length (node_at p main).ins)) → outs ≡ map flow_no (outputs_of whole) → in_devices ≡ devices_of p.sensors (node_at p main).ins
      → out_devices ≡ devices_of p.actuators (node_at p main).outs → a_flat flows apps ins outs in_devices out_devices ≡ flat_of p tys main whole
  flat_is flows apps ins outs in_devices out_devices a b c e f g =
      ap (λ x. a_flat x apps ins outs in_devices out_devices) a
      ∙ ap (λ x. a_flat (flat_of p tys main whole).flows x ins outs in_devices out_devices) b
      ∙ ap (λ x. a_flat (flat_of p tys main whole).flows (flat_of p tys main whole).apps x outs in_devices out_devices) c
      ∙ ap (λ x. a_flat (flat_of p tys main whole).flows (flat_of p tys main whole).apps (flat_of p tys main whole).ins x in_devices out_devices) e
      ∙ ap (λ x. a_flat (flat_of p tys main whole).flows (flat_of p tys main whole).apps (flat_of p tys main whole).ins (flat_of p tys main whole).outs x out_devices) f
      ∙ ap (λ x. a_flat (flat_of p tys main whole).flows (flat_of p tys main whole).apps (flat_of p tys main whole).ins (flat_of p tys main whole).outs (flat_of p tys main whole).in_devices x) g

  pub fault_is : (e : ExpandFault) → IsPast (0 + length (flows_in whole)) e → IsExpandFault p main e
  fault_is e h = past_is p main is_named (0 + length (flows_in whole)) e (omega arith) h

  pub inputs_fault : (e : ExpandFault) (d : NodeTree) (n : ℕ) → node_at p main ≡ d → n ≡ length d.ins → IsPast (0 + n) e → IsExpandFault p main e
  inputs_fault e d n is count h =
      fault_is e (variables_past p tys (length p.nodes) main first d e is (past_more (0 + n) (((0 + length d.ins) + length d.outs) + length d.locals) e (omega (arith, count)) h))

-- main's node is there, by equal programs and numbers
pub there_in : (checked typed : Program) (k main : ℕ) (tys : List Ty) → IsRight (program_tree typed) main tys → checked ≡ typed → k ≡ main → k < length (program_tree checked).nodes
there_in checked typed k main tys right same is =
    subst (λ x. k < length (program_tree x).nodes) (sym same) (subst (λ n. n < length (program_tree typed).nodes) (sym is) (main_there (program_tree typed) main tys right))
