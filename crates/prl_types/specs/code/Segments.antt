-- Flows as the code lists them: one, or all that something applied gives.
use Rattle.std.specs.Prelude.{List, [], ◌∷◌, ◌++◌}
use Rattle.prl_terms.specs.declared.terms.Term.{Term}
use Rattle.prl_types.specs.declared.segments.Segment.{Segment}
use Rattle.prl_types.specs.declared.segments.Flows.{Flows}
use Rattle.prl_types.specs.declared.segments.Flows.TheVariants as given
use Rattle.prl_types.specs.Flows.{Flow, placed}

abbrev pub listed : Flows → List Term
listed (given.One t) = t ∷ []
listed (given.All ts) = ts.now

abbrev pub terms_in : List Segment → List Term
terms_in [] = []
terms_in (s ∷ ss) = listed s.flows ++ terms_in ss

-- each where its segment stands
abbrev pub flows_in : List Segment → List Flow
flows_in [] = []
flows_in (s ∷ ss) = placed s.at (listed s.flows) ++ flows_in ss
