-- A flow that uses lower ranks alone is on no cycle, where no use leads up.
use Rattle.prl_base.proofs.Standard.{◌≡◌, ◌<◌, ◌≤◌, ℕ, List, Some, slice_get, sym, ◌∙◌, subst, arith}
use Rattle.prl_flow.specs.Vocabulary.{FlatProgram, Leads, once, then}
use Rattle.prl_causal.specs.declared.ranks.Ranks.{Ranks}
use Rattle.prl_causal.specs.declared.sources.Source.{Source}
use Rattle.prl_causal.specs.declared.sources.Source.TheVariants as sources
use Rattle.prl_causal.specs.code.Ranks.{AreRanks, rank_at, source_rank}
use Rattle.prl_causal.specs.code.Sources.{Names, UsesBy}
use Rattle.prl_causal.proofs.Elements.{some_inner}

module _ (p : FlatProgram) (all : List Source) (r : Ranks) (h : AreRanks p all r) where
  named_below : (source : Source) (j : ℕ) → Names p source j → rank_at r.flows j ≤ source_rank r source
  named_below sources.Nothing j named = absurd named
  named_below (sources.Flow of) j named = subst (λ x. rank_at r.flows x ≤ rank_at r.flows of.0) named (omega arith)
  named_below (sources.Arguments k) j named = subst (λ x. rank_at r.flows x ≤ rank_at r.apps k) named.is (h.arguments_fall k named.app named.applied named.index named.arg named.found)

  leads_down : (i j : ℕ) → Leads (UsesBy p all) i j → rank_at r.flows j ≤ rank_at r.flows i
  leads_down i j (once a b u) = omega (arith, named_below u.source b u.names, h.sources_fall a u.source u.found)
  leads_down i j (then a b c u rest) = omega (arith, named_below u.source b u.names, h.sources_fall a u.source u.found, leads_down b c rest)

  -- the first use leads below
  first_down : (i j : ℕ) (source : Source) → slice_get all i ≡ Some source → source_rank r source < rank_at r.flows i → Leads (UsesBy p all) i j → rank_at r.flows j < rank_at r.flows i
  first_down i j source at low (once a b u) =
      let same : u.source ≡ source = some_inner u.source source (sym u.found ∙ at) in
      let below : rank_at r.flows b ≤ source_rank r source = subst (λ x. rank_at r.flows b ≤ source_rank r x) same (named_below u.source b u.names) in
      omega (arith, below, low)
  first_down i j source at low (then a b c u rest) =
      let same : u.source ≡ source = some_inner u.source source (sym u.found ∙ at) in
      let below : rank_at r.flows b ≤ source_rank r source = subst (λ x. rank_at r.flows b ≤ source_rank r x) same (named_below u.source b u.names) in
      omega (arith, below, low, leads_down b c rest)

  pub no_way_back : (i : ℕ) (source : Source) → slice_get all i ≡ Some source → source_rank r source < rank_at r.flows i → Leads (UsesBy p all) i i → ⊥
  no_way_back i source at low leads = absurd (omega (arith, first_down i i source at low leads))
