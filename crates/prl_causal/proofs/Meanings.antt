-- What the lists of sources say is what the flat program says.
use Rattle.prl_base.proofs.Standard.{◌≡◌, ◌<◌, ◌⊎◌, ℕ, Bool, true, false, cond, List, length, map, slice_get, Some, None, refl, sym, ◌∙◌, ap, subst, arith, inl, inr, ⊎_elim, false≢true, length-map}
use Rattle.prl_base.proofs.Standard.{slice_get_within, slice_get-map, option_map}
use Rattle.prl_base.specs.Operators.{delays}
use Rattle.prl_base.specs.declared.numbers.FlowNo.{FlowNo}
use Rattle.prl_base.specs.declared.values.Ty.{Ty}
use Rattle.prl_flow.specs.Vocabulary.{FlatProgram, IsFlat, IsWellDefined, UsesNow, UsesInside, NamesNow, NamesInside, IsOnCycle, HasNoCycle, IsOrder, Leads, once, then}
use Rattle.prl_flow.specs.declared.programs.Def.{Def}
use Rattle.prl_flow.specs.declared.programs.Flow.{Flow}
use Rattle.prl_flow.specs.declared.programs.Def.TheVariants as definitions
use Rattle.prl_causal.specs.Vocabulary.{Source, IsWhole, undelayed_of, inside_of, all_undelayed, all_inside, Names, UsesBy, IsSource, AreSources}
use Rattle.prl_causal.specs.declared.sources.Source.TheVariants as sources
use Rattle.prl_causal.proofs.Placing.{no_way_back}
use Rattle.prl_causal.proofs.Ways.{along}

mapped : (h : Flow → Source) (flows : List Flow) (i : ℕ) (s : Source) → slice_get (map h flows) i ≡ Some s → (f : Flow) × (slice_get flows i ≡ Some f) × (h f ≡ s)
mapped h flows i s found =
    elim (slice_get flows i) as (λ o. slice_get flows i ≡ o → option_map h o ≡ Some s → (f : Flow) × (slice_get flows i ≡ Some f) × (h f ≡ s)) [
      | Some f ↦ λ e is. (let same : h f ≡ s = cc in (f, e, same))
      | None ↦ λ e is. cc
    ] refl (sym (slice_get-map h flows i) ∙ found)

to_map : (h : Flow → Source) (flows : List Flow) (i : ℕ) (f : Flow) → slice_get flows i ≡ Some f → slice_get (map h flows) i ≡ Some (h f)
to_map h flows i f found = slice_get-map h flows i ∙ ap (option_map h) found

chosen_now : (p : FlatProgram) (b : Bool) (of : FlowNo) (j : ℕ) → Names p (cond b sources.Nothing (sources.Flow of)) j → (b ≡ false) × (of.0 ≡ j)
chosen_now p true of j names = absurd names
chosen_now p false of j names = (refl, names)

choose_now : (p : FlatProgram) (b : Bool) (of : FlowNo) (j : ℕ) → b ≡ false → of.0 ≡ j → Names p (cond b sources.Nothing (sources.Flow of)) j
choose_now p true of j clear e = absurd (false≢true (sym clear))
choose_now p false of j clear e = e

names_now : (p : FlatProgram) (d : Def) (j : ℕ) → Names p (undelayed_of d) j → NamesNow p d j
names_now p (definitions.Sensor k) j names = names
names_now p (definitions.Copy of) j names = names
names_now p (definitions.Const v) j names = names
names_now p (definitions.Apply app out) j names = names
names_now p (definitions.Op op of) j names = chosen_now p (delays op) of j names

now_names : (p : FlatProgram) (d : Def) (j : ℕ) → NamesNow p d j → Names p (undelayed_of d) j
now_names p (definitions.Sensor k) j names = names
now_names p (definitions.Copy of) j names = names
now_names p (definitions.Const v) j names = names
now_names p (definitions.Apply app out) j names = names
now_names p (definitions.Op op of) j names = choose_now p (delays op) of j names.0 names.1

names_inside : (p : FlatProgram) (d : Def) (j : ℕ) → Names p (inside_of d) j → NamesInside d j
names_inside p (definitions.Sensor k) j names = names
names_inside p (definitions.Copy of) j names = names
names_inside p (definitions.Const v) j names = names
names_inside p (definitions.Apply app out) j names = names
names_inside p (definitions.Op op of) j names = names

inside_names : (p : FlatProgram) (d : Def) (j : ℕ) → NamesInside d j → Names p (inside_of d) j
inside_names p (definitions.Sensor k) j names = names
inside_names p (definitions.Copy of) j names = names
inside_names p (definitions.Const v) j names = names
inside_names p (definitions.Apply app out) j names = names
inside_names p (definitions.Op op of) j names = names

-- a use of a flow is one by the list of what its definitions use
used_by : (p : FlatProgram) (of : Def → Source) (i j : ℕ) (flow : Flow) → slice_get p.flows i ≡ Some flow → Names p (of flow.def) j → UsesBy p (map (λ f. of f.def) p.flows) i j
used_by p of i j flow found names = record { source = of flow.def; found = to_map (λ f. of f.def) p.flows i flow found; names = names }

-- and such a use tells the flow, which names the other
use_by : (p : FlatProgram) (of : Def → Source) (i j : ℕ) → UsesBy p (map (λ f. of f.def) p.flows) i j → (flow : Flow) × ((slice_get p.flows i ≡ Some flow) × Names p (of flow.def) j)
use_by p of i j u = (let at = mapped (λ f. of f.def) p.flows i u.source u.found in (at.0, (at.1, subst (λ s. Names p s j) (sym at.2) u.names)))

by_now : (p : FlatProgram) (i j : ℕ) → UsesNow p i j → UsesBy p (all_undelayed p) i j
by_now p i j u = used_by p undelayed_of i j u.flow u.found (now_names p u.flow.def j u.names)

now_by : (p : FlatProgram) (i j : ℕ) → UsesBy p (all_undelayed p) i j → UsesNow p i j
now_by p i j u = (let at = use_by p undelayed_of i j u in record { flow = at.0; found = at.1.0; names = names_now p at.0.def j at.1.1 })

by_inside : (p : FlatProgram) (i j : ℕ) → UsesInside p i j → UsesBy p (all_inside p) i j
by_inside p i j u = used_by p inside_of i j u.flow u.found (inside_names p u.flow.def j u.names)

inside_by : (p : FlatProgram) (i j : ℕ) → UsesBy p (all_inside p) i j → UsesInside p i j
inside_by p i j u = (let at = use_by p inside_of i j u in record { flow = at.0; found = at.1.0; names = names_inside p at.0.def j at.1.1 })

-- a flow is on a cycle exactly where a way along either list leads back to it
pub on_undelayed : (p : FlatProgram) (all : List Source) (i : ℕ) → all ≡ all_undelayed p → Leads (UsesBy p all) i i → IsOnCycle p i
on_undelayed p all i are way = inl (along (UsesBy p (all_undelayed p)) (UsesNow p) (now_by p) i i (subst (λ l. Leads (UsesBy p l) i i) are way))

pub on_inside : (p : FlatProgram) (all : List Source) (i : ℕ) → all ≡ all_inside p → Leads (UsesBy p all) i i → IsOnCycle p i
on_inside p all i are way = inr (along (UsesBy p (all_inside p)) (UsesInside p) (inside_by p) i i (subst (λ l. Leads (UsesBy p l) i i) are way))

pub on_either : (p : FlatProgram) (i : ℕ) → IsOnCycle p i → Leads (UsesBy p (all_undelayed p)) i i ⊎ Leads (UsesBy p (all_inside p)) i i
on_either p i on =
    ⊎_elim (λ a. inl (along (UsesNow p) (UsesBy p (all_undelayed p)) (by_now p) i i a)) (λ b. inr (along (UsesInside p) (UsesBy p (all_inside p)) (by_inside p) i i b)) on

pub on_none : (p : FlatProgram) (first second : List Source) (i : ℕ) → first ≡ all_undelayed p → second ≡ all_inside p
    → (Leads (UsesBy p first) i i → ⊥) → (Leads (UsesBy p second) i i → ⊥) → IsOnCycle p i → ⊥
on_none p first second i undelayed inside none_first none_second on =
    ⊎_elim (λ a. none_first (subst (λ l. Leads (UsesBy p l) i i) (sym undelayed) a)) (λ b. none_second (subst (λ l. Leads (UsesBy p l) i i) (sym inside) b)) (on_either p i on)

chosen_there : (p : FlatProgram) (b : Bool) (of : FlowNo) → of.0 < length p.flows → IsSource p (cond b sources.Nothing (sources.Flow of))
chosen_there p true of below = tt
chosen_there p false of below = below

undelayed_there : (p : FlatProgram) (i : ℕ) (ty : Ty) (d : Def) → IsWellDefined p i ty d → IsSource p (undelayed_of d)
undelayed_there p i ty (definitions.Sensor k) is = tt
undelayed_there p i ty (definitions.Copy of) is = slice_get_within p.flows of.0 is.0 is.1
undelayed_there p i ty (definitions.Const v) is = tt
undelayed_there p i ty (definitions.Apply app out) is = slice_get_within p.apps app is.0 is.1
undelayed_there p i ty (definitions.Op op of) is = chosen_there p (delays op) of (slice_get_within p.flows of.0 is.0.0 is.0.1)

inside_there : (p : FlatProgram) (i : ℕ) (ty : Ty) (d : Def) → IsWellDefined p i ty d → IsSource p (inside_of d)
inside_there p i ty (definitions.Sensor k) is = tt
inside_there p i ty (definitions.Copy of) is = slice_get_within p.flows of.0 is.0 is.1
inside_there p i ty (definitions.Const v) is = tt
inside_there p i ty (definitions.Apply app out) is = tt
inside_there p i ty (definitions.Op op of) is = slice_get_within p.flows of.0 is.0.0 is.0.1

named_within : (p : FlatProgram) → IsFlat p → (s : Source) (j : ℕ) → IsSource p s → Names p s j → j < length p.flows
named_within p flat sources.Nothing j there names = absurd names
named_within p flat (sources.Flow of) j there names = subst (λ x. x < length p.flows) names there
named_within p flat (sources.Arguments k) j there a = subst (λ x. x < length p.flows) a.is ((flat.apps k a.app a.applied).args a.index a.arg a.found)

sources_of : (p : FlatProgram) → IsFlat p → (h : Flow → Source) → ((i : ℕ) (f : Flow) → slice_get p.flows i ≡ Some f → IsSource p (h f)) → AreSources p (map h p.flows)
sources_of p flat h there =
    let count : length (map h p.flows) ≡ length p.flows = length-map p.flows h in
    let each : (i : ℕ) (s : Source) → slice_get (map h p.flows) i ≡ Some s → IsSource p s =
    λ i s found. (let at = mapped h p.flows i s found in subst (λ x. IsSource p x) at.2 (there i at.0 at.1)) in
    record {
      count = count;
      few = rw count flat.few;
      within = λ i j u. rw count (named_within p flat u.source j (each i u.source u.found) u.names);
      each = each;
    }

pub undelayed_sources : (p : FlatProgram) (all : List Source) → IsFlat p → all ≡ all_undelayed p → AreSources p all
undelayed_sources p all flat are = subst (λ l. AreSources p l) (sym are) (sources_of p flat (λ f. undelayed_of f.def) (λ i f found. undelayed_there p i f.ty f.def (flat.flows i f found)))

pub inside_sources : (p : FlatProgram) (all : List Source) → IsFlat p → all ≡ all_inside p → AreSources p all
inside_sources p all flat are = subst (λ l. AreSources p l) (sym are) (sources_of p flat (λ f. inside_of f.def) (λ i f found. inside_there p i f.ty f.def (flat.flows i f found)))

-- an order along the undelayed uses is an order
pub order_is : (p : FlatProgram) (all : List Source) (order : List FlowNo) → all ≡ all_undelayed p → IsWhole (UsesBy p all) (length all) order → IsOrder p order
order_is p all order are given =
    let whole = subst (λ l. IsWhole (UsesBy p l) (length l) order) are given in
    let number : length (all_undelayed p) ≡ length p.flows = length-map p.flows (λ f. undelayed_of f.def) in
    record {
      count = whole.count ∙ number;
      each = λ i below. whole.each i (rw number below);
      after = λ j k x y at there uses.
          (let earlier = whole.after j x y.0 at (by_now p x.0 y.0 uses) in
          let same = whole.once earlier.0 k y earlier.2 there in
          let low = earlier.1 in
          omega arith);
    }

no_way : (p : FlatProgram) (all : List Source) (order : List FlowNo) → IsWhole (UsesBy p all) (length all) order → (i : ℕ) → Leads (UsesBy p all) i i → ⊥
no_way p all order whole = no_way_back (UsesBy p all) (length all) order whole (λ k j u. slice_get_within all k u.source u.found)

-- where there are orders along both lists, there is no cycle
pub no_cycle : (p : FlatProgram) (first second : List Source) (order other : List FlowNo) → first ≡ all_undelayed p → second ≡ all_inside p
    → IsWhole (UsesBy p first) (length first) order → IsWhole (UsesBy p second) (length second) other → HasNoCycle p
no_cycle p first second order other undelayed inside by_date by_step = λ i on.
    on_none p first second i undelayed inside (no_way p first order by_date i) (no_way p second other by_step i) on

now_start : (p : FlatProgram) (i j : ℕ) → Leads (UsesNow p) i j → (f : Flow) × (slice_get p.flows i ≡ Some f)
now_start p i j (once a b u) = (u.flow, u.found)
now_start p i j (then a b c u rest) = (u.flow, u.found)

inside_start : (p : FlatProgram) (i j : ℕ) → Leads (UsesInside p) i j → (f : Flow) × (slice_get p.flows i ≡ Some f)
inside_start p i j (once a b u) = (u.flow, u.found)
inside_start p i j (then a b c u rest) = (u.flow, u.found)

-- the number of a flow on a cycle is below that of flows
pub cyclic_flow : (p : FlatProgram) (i : ℕ) → IsOnCycle p i → (f : Flow) × (slice_get p.flows i ≡ Some f)
cyclic_flow p i on = ⊎_elim (λ a. now_start p i i a) (λ b. inside_start p i i b) on
