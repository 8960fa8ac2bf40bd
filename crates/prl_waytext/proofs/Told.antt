-- What is told of ways, from its parts.
use Rattle.std.proofs.Common.{◌≡◌, ◌∙◌, ℕ, ℤ, List, [], Option, Some, ap, inl, inr, refl}
use Rattle.prl_base.specs.Decimals.{decimal_of}
use Rattle.prl_flow.specs.Programs.{FlatProgram}
use Rattle.prl_plan.specs.Vocabulary.{Job, task_at}
use Rattle.prl_plan.specs.declared.graphs.TaskGraph.{TaskGraph}
use Rattle.prl_clashes.specs.declared.clashes.Clash.{Clash}
use Rattle.prl_clashes.specs.ClashTexts.{clash_text}
use Rattle.prl_clashes.specs.ClockWays.{IsClash}
use Rattle.prl_ways.specs.declared.chains.Chain.{Chain}
use Rattle.prl_ways.specs.declared.rounds.Round.{Round}
use Rattle.prl_ways.specs.Chains.{IsChainTo, IsCircle}
use Rattle.prl_ways.specs.ChainTexts.{chain_text, circle_text}
use Rattle.prl_ways.specs.Rounds.{IsRound}
use Rattle.prl_ways.specs.RoundTexts.{flow_label, round_text}
use Rattle.prl_waytext.specs.Longs.{IsTooLong, long_text}
use Rattle.prl_waytext.specs.ProgramTexts.{IsFlatOf, IsGraphIn}
use Rattle.prl_waytext.specs.Ways.{IsChainTold, IsCircleTold, IsClashTold, IsCycleTold, IsDated, IsJobNamed}

pub cycle_is : (program : List ℕ) (node : Option (List ℕ)) (label : List ℕ) (flat : FlatProgram) (first : ℕ) (round : Round) (text : List ℕ)
    → IsFlatOf program node flat → flow_label flat first ≡ label → IsRound flat first round → text ≡ round_text flat round
    → IsCycleTold (Some program) node label text
cycle_is program node label flat first round text is_flat labelled is_round is =
    inr (
      flat,
      round,
      record {
        is_flat = is_flat;
        labelled = ap (flow_label flat) is_round.first ∙ labelled;
        is_round = record { first = refl; way = is_round.way };
      },
      is,
    )

pub no_cycle : (program : List ℕ) (node : Option (List ℕ)) (label text : List ℕ) → text ≡ [] → IsCycleTold (Some program) node label text
no_cycle program node label text is = inl is

pub clash_is : (program : List ℕ) (node : Option (List ℕ)) (number : List ℕ) (flat : FlatProgram) (at : ℕ) (clash : Clash) (text : List ℕ)
    → IsFlatOf program node flat → decimal_of number ≡ Some at → IsClash flat at clash → text ≡ clash_text flat clash
    → IsClashTold (Some program) node number text
clash_is program node number flat at clash text is_flat told is_clash is =
    inr (flat, clash, record { is_flat = is_flat; at = at; told = told; is_clash = is_clash }, is)

pub no_clash : (program : List ℕ) (node : Option (List ℕ)) (number text : List ℕ) → text ≡ [] → IsClashTold (Some program) node number text
no_clash program node number text is = inl is

pub chain_is : (program : List ℕ) (node : Option (List ℕ)) (name number needs : List ℕ) (graph : TaskGraph) (chain : Chain) (job : Job) (date : ℤ) (text : List ℕ)
    → IsGraphIn program node graph → IsJobNamed graph name number job → IsDated needs date → IsChainTo graph job date chain
    → text ≡ chain_text graph chain → IsChainTold (Some program) node name number needs text
chain_is program node name number needs graph chain job date text is_graph is_job dated is_chain is =
    inr (
    inr (
      graph,
      chain,
      record { is_graph = is_graph; job = job; is_job = is_job; date = date; dated = dated; is_chain = is_chain },
      is,
    )
    )

pub no_chain : (program : List ℕ) (node : Option (List ℕ)) (name number needs text : List ℕ) → text ≡ [] → IsChainTold (Some program) node name number needs text
no_chain program node name number needs text is = inr (inl is)

pub chain_long : (program : List ℕ) (node : Option (List ℕ)) (name number needs : List ℕ) (graph : TaskGraph) (task : ℕ) (text : List ℕ)
    → IsGraphIn program node graph → IsTooLong graph task → text ≡ long_text (task_at graph task) → IsChainTold (Some program) node name number needs text
chain_long program node name number needs graph task text is_graph long is =
    inl (record { graph = graph; is_graph = is_graph; task = task; long = long; is = is })

pub circle_long : (program : List ℕ) (node : Option (List ℕ)) (graph : TaskGraph) (task : ℕ) (text : List ℕ)
    → IsGraphIn program node graph → IsTooLong graph task → text ≡ long_text (task_at graph task) → IsCircleTold (Some program) node text
circle_long program node graph task text is_graph long is =
    inl (record { graph = graph; is_graph = is_graph; task = task; long = long; is = is })

pub circle_is : (program : List ℕ) (node : Option (List ℕ)) (graph : TaskGraph) (chain : Chain) (text : List ℕ) → IsGraphIn program node graph
    → IsCircle graph chain → text ≡ circle_text graph chain → IsCircleTold (Some program) node text
circle_is program node graph chain text is_graph is_circle is = inr (inr (graph, chain, record { is_graph = is_graph; is_circle = is_circle }, is))

pub no_circle : (program : List ℕ) (node : Option (List ℕ)) (text : List ℕ) → text ≡ [] → IsCircleTold (Some program) node text
no_circle program node text is = inr (inl is)
