-- What a step adds to what is made.
use Rattle.std.specs.Prelude.{◌≡◌, ◌≤◌, ◌++◌, ℕ, List, [], length}
use Rattle.std.specs.List.{range_with_len}
use Rattle.prl_ast.specs.Trees.{ProgramTree}
use Rattle.prl_causal.specs.Annotations.{flows_in}
use Rattle.prl_causal.specs.Asked.{outputs_of}
use Rattle.prl_causal.specs.Texts.{node_at}
use Rattle.prl_flow.specs.declared.programs.App.{App}
use Rattle.prl_expand.specs.Expansions.{Expansion}
use Rattle.prl_expand.specs.Flats.{Numbered, Types, entered_apps, entered_flows, sensors_from}
use Rattle.prl_expand.specs.declared.counts.Next.{Next}
use Rattle.prl_expand.specs.declared.nodes.Made.{Made}
use Rattle.prl_expand.specs.code.Limits.{IsFew}
use Rattle.prl_expand.specs.code.Made.{a_node}
use Rattle.prl_expand.specs.code.Terms.{flows_of}

-- these flows and applications are added, and then these numbers are next
pub record Adds (old new : Made) (flows : List Numbered) (apps : List App) (next : Next) : Type 0 where
  pub flows_are : new.flows.items ≡ old.flows.items ++ flows_of flows
  pub apps_are : new.apps.items ≡ old.apps.items ++ apps
  pub next_is : new.next ≡ next
  pub few : IsFew new.next

-- main's expansion, numbered from the first numbers on
abbrev pub main_made : ProgramTree → ℕ → Expansion
main_made p main = a_node p (length p.nodes) main (record { flow = 0; app = 0; node = 0 })

-- what was made within main, and the flows of its outputs
pub record IsMadeWithin (p : ProgramTree) (types : Types) (main : ℕ) (made : Made) (outs : List ℕ) : Type 0 where
  pub flows_are : made.flows.items ≡ flows_of (entered_flows p types [] main (sensors_from 0 (range_with_len 0 (length (node_at p main).ins))) (main_made p main))
  pub apps_are : made.apps.items ≡ entered_apps p main (main_made p main)
  pub outs_are : outs ≡ outputs_of (main_made p main)
  pub few : length (flows_in (main_made p main)) ≤ 4096
  pub few_ins : length (node_at p main).ins ≤ 4096
