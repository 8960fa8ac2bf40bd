-- The flat program of an expansion is well formed.
use Rattle.prl_base.proofs.Standard.{◌≡◌, ◌≤◌, ◌<◌, ◌+◌, ℕ, zero, suc, true, false, cond, List, [], ◌∷◌, ◌++◌, map, length, Option, Some, slice_get, refl, sym, ap, ◌∙◌, subst, arith, AllByRecursion}
use Rattle.prl_base.proofs.Standard.{range_with_len, option_map, bytes_eq, bytes_decides, length-map, map-append, slice_get-map, slice_get_within, get_or_from_slice_get}
use Rattle.std.proofs.lemmas.List.{length-append, append_assoc}
use Rattle.prl_base.specs.Names.{IsName}
use Rattle.prl_base.specs.declared.numbers.FlowNo.{FlowNo}
use Rattle.prl_base.specs.declared.values.Ty.{Ty}
use Rattle.prl_base.specs.declared.values.Ty.TheVariants as kinds
use Rattle.prl_ast.specs.InRange as ranges
use Rattle.prl_ast.specs.Trees.{NodeTree, ProgramTree}
use Rattle.prl_ast.specs.declared.declarations.Device.{Device}
use Rattle.prl_ast.specs.declared.declarations.Param.{Param}
use Rattle.prl_flow.specs.Vocabulary.{FlatProgram, IsWellDefined, IsNoted, IsApplication, IsInput, IsFlat, IsFactor, Rule}
use Rattle.prl_flow.specs.declared.programs.App.{App}
use Rattle.prl_flow.specs.declared.programs.Def.{Def}
use Rattle.prl_flow.specs.declared.programs.Flow.{Flow}
use Rattle.prl_flow.specs.declared.programs.Def.TheVariants as definitions
use Rattle.prl_flow.specs.Programs as flats
use Rattle.prl_flow.proofs.Lists.{element_at, slice_get_append_left}
use Rattle.prl_names.specs.Vocabulary.{device_names, param_names, params_of, AllAreAmong, IsNamed}
use Rattle.prl_names.proofs.Right.{named}
use Rattle.prl_terms.specs.Choices.{Choice, type_in, MeetsAll, FitsTerm, FitRules}
use Rattle.prl_terms.specs.declared.terms.Rule.{Rule as TypeRule}
use Rattle.prl_terms.specs.declared.terms.Term.{Term}
use Rattle.prl_terms.specs.declared.terms.Term.TheVariants as terms
use Rattle.prl_types.specs.Vocabulary.{first_of, count_of, parameters_of, rules_of, declared_rules, nodes_rules, equations_rules, IsTyped}
use Rattle.prl_types.proofs.Fitting.{rules_fit}
use Rattle.prl_causal.specs.Vocabulary.{flows_in, imports_in, inputs_of, node_at, node_or, HasVariables}
use Rattle.prl_causal.specs.Annotations.{entered}
use Rattle.prl_expand.specs.Expansions.{Expansion, IsExpansion}
use Rattle.prl_expand.specs.Flats.{Numbered, Types, type_at, resolved, flow_no, variable_flows, equated, copies, right_flows, all_numbered, entered_apps, sensors_from, wcet_named, devices_of, flat_of}
use Rattle.prl_expand.proofs.FlatRules.{sensors_count, entered_tells}
use Rattle.prl_expand.proofs.FlowTypes.{HasFlow, IsEnvironment, entered_environment, middle}
use Rattle.prl_expand.proofs.Lists.{some_inner, head_same, tail_same, at_place, all_both, all_first, all_second}
use Rattle.prl_expand.proofs.Numbers.{entered_numbered, numbers_of}
use Rattle.prl_expand.proofs.Sound.{IsSound, sound_from, there, variables_count}
use Rattle.prl_expand.proofs.Sources.{mapped_from}
use Rattle.prl_expand.proofs.WellDefined.{Met, AllMet, AreTypedNodes, IsSoundFlow, HaveApps}
use Rattle.prl_expand.proofs.WellFormed.{AreSoundApps, among_place, entered_sound, factor}

-- types

resolved_is : (tys : Types) (choice : Choice) (count : ℕ) → ((k : ℕ) → k < count → slice_get tys k ≡ Some (choice k)) → (t : Term) → FitsTerm count t → resolved tys t ≡ type_in choice t
resolved_is tys choice count are (terms.Known ty) fits = refl
resolved_is tys choice count are (terms.Parameter k) fits = get_or_from_slice_get tys k (choice k) kinds.Int (are k fits)

all_met : (tys : Types) (choice : Choice) (count : ℕ) → ((k : ℕ) → k < count → slice_get tys k ≡ Some (choice k)) → (rules : List TypeRule) → FitRules count rules → MeetsAll choice rules → AllMet tys rules
all_met tys choice count are [] fits meets = tt
all_met tys choice count are (r ∷ rules) fits meets =
    (resolved_is tys choice count are r.wanted fits.0.0 ∙ meets.0 ∙ sym (resolved_is tys choice count are r.found fits.0.1), all_met tys choice count are rules fits.1 meets.1)

node_met : (p : ProgramTree) (tys : Types) (ns : List NodeTree) (first i k : ℕ) (n : NodeTree) → AllMet tys (nodes_rules p first ns) → slice_get ns i ≡ Some n → k ≡ first + i → AllMet tys (equations_rules p k n.eqs)
node_met p tys [] first i k n met found at = absurd (cc)
node_met p tys (m ∷ ns) first zero k n met found at =
    let number : first ≡ k = omega (arith, at) in
    subst (λ (x : NodeTree). AllMet tys (equations_rules p k x.eqs)) (some_inner m n found)
    (subst (λ j. AllMet tys (equations_rules p j m.eqs)) number (all_first (Met tys) (equations_rules p first m.eqs) (nodes_rules p (first + 1) ns) met))
node_met p tys (m ∷ ns) first (suc i) k n met found at =
    node_met p tys ns (first + 1) i k n (all_second (Met tys) (equations_rules p first m.eqs) (nodes_rules p (first + 1) ns) met) found (omega (arith, at))

pub typed_nodes : (p : ProgramTree) (asked : Option (List ℕ)) (main : ℕ) (tys : List Ty) → ranges.IsInRange p → IsTyped p asked main tys → AreTypedNodes p tys
unfolding rules_of
typed_nodes p asked main tys range typed =
    let only = typed.only in
    let met = all_met tys only.choice (count_of p) (λ k below. only.forced only.choice k only.meets below) (declared_rules 0 (parameters_of p) ++ nodes_rules p 0 p.nodes) (rules_fit p) only.meets in
    let nodes = all_second (Met tys) (declared_rules 0 (parameters_of p)) (nodes_rules p 0 p.nodes) met in
    record {
      node = λ k n found. record {
        rules = node_met p tys p.nodes 0 k k n nodes found (omega arith);
        range = at_place ranges.IsNodeInRange p.nodes k n range.nodes found;
      };
      imports = range.imports;
    }

-- flows and applications at their numbers

get_end : {A : Type 0} (front : List A) (x : A) (rest : List A) → slice_get (front ++ (x ∷ rest)) (length front) ≡ Some x
get_end [] x rest = refl
get_end (y ∷ front) x rest = get_end front x rest

flows_at : (front : List Flow) (k : ℕ) (fs : List Numbered) → k ≡ length front → numbers_of fs ≡ range_with_len k (length fs)
    → AllByRecursion (λ (f : Numbered). slice_get (front ++ map (λ (g : Numbered). g.1) fs) f.0 ≡ Some f.1) fs
flows_at front k [] e counted = tt
flows_at front k (f ∷ fs) e counted =
    let here : f.0 ≡ length front = head_same f.0 k (numbers_of fs) (range_with_len (k + 1) (length fs)) counted ∙ e in
    let rest : List Flow = map (λ (g : Numbered). g.1) fs in
    let moved : (front ++ (f.1 ∷ [])) ++ rest ≡ front ++ (f.1 ∷ rest) = append_assoc front (f.1 ∷ []) rest in
    let later = flows_at (front ++ (f.1 ∷ [])) (k + 1) fs (omega (arith, e, length-append front (f.1 ∷ []))) (tail_same f.0 k (numbers_of fs) (range_with_len (k + 1) (length fs)) counted) in (
      ap (slice_get (front ++ (f.1 ∷ rest))) here ∙ get_end front f.1 rest,
      subst (λ (all : List Flow). AllByRecursion (λ (g : Numbered). slice_get all g.0 ≡ Some g.1) fs) moved later,
    )

pub apps_at : (p : ProgramTree) (tys : Types) (flat : FlatProgram) (front : List App) (k : ℕ) (us : List App) → k ≡ length front → flat.apps ≡ front ++ us → HaveApps p tys flat (range_with_len k (length us)) us
apps_at p tys flat front k [] e is = tt
apps_at p tys flat front k (u ∷ us) e is = (
  ap (λ (all : List App). slice_get all k) is ∙ ap (slice_get (front ++ (u ∷ us))) e ∙ get_end front u us,
  apps_at p tys flat (front ++ (u ∷ [])) (k + 1) us (omega (arith, e, length-append front (u ∷ []))) (is ∙ sym (append_assoc front (u ∷ []) us)),
)

app_at : (p : ProgramTree) (tys : Types) (flat : FlatProgram) (first : ℕ) (us : List App) (i k : ℕ) (u : App) → AreSoundApps p tys flat (range_with_len first (length us)) us → slice_get us i ≡ Some u → k ≡ first + i → IsApplication flat k u
app_at p tys flat first [] i k u h e at = absurd (cc)
app_at p tys flat first (v ∷ us) zero k u h e at =
    let number : first ≡ k = omega (arith, at) in
    subst (λ (x : App). IsApplication flat k x) (some_inner v u e) (subst (λ m. IsApplication flat m v) number h.0)
app_at p tys flat first (v ∷ us) (suc i) k u h e at = app_at p tys flat (first + 1) us i k u h.1 e (omega (arith, at))

-- the number of an element is its place
pub number_at : (first : ℕ) (fs : List Numbered) (i k : ℕ) (f : Numbered) → numbers_of fs ≡ range_with_len first (length fs) → slice_get fs i ≡ Some f → k ≡ first + i → f.0 ≡ k
number_at first [] i k f counted e at = absurd (cc)
number_at first (g ∷ fs) zero k f counted e at =
    let number : first ≡ k = omega (arith, at) in
    sym (ap (λ (x : Numbered). x.0) (some_inner g f e)) ∙ (head_same g.0 first (numbers_of fs) (range_with_len (first + 1) (length fs)) counted) ∙ number
number_at first (g ∷ fs) (suc i) k f counted e at =
    number_at (first + 1) fs i k f (tail_same g.0 first (numbers_of fs) (range_with_len (first + 1) (length fs)) counted) e (omega (arith, at))

sensor_at : (first : ℕ) (is : List ℕ) (j k : ℕ) (d : Def) → slice_get (sensors_from first is) j ≡ Some d → k ≡ first + j → d ≡ definitions.Sensor k
sensor_at first [] j k d e at = absurd (cc)
sensor_at first (i ∷ is) zero k d e at =
    let number : first ≡ k = omega (arith, at) in
    sym (some_inner (definitions.Sensor first) d e) ∙ ap definitions.Sensor number
sensor_at first (i ∷ is) (suc j) k d e at = sensor_at (first + 1) is j k d e (omega (arith, at))

variable_at : (p : ProgramTree) (tys : Types) (flat : FlatProgram) (label : List ℕ) (m : ℕ) (qs : List Param) (is : List ℕ) (ds : List Def) → length is ≡ length qs → AllByRecursion (HasFlow p tys flat) (variable_flows label tys m qs is ds)
    → (j i : ℕ) (d : Def) → slice_get is j ≡ Some i → slice_get ds j ≡ Some d → (f : Flow) × (slice_get flat.flows i ≡ Some f) × (f.def ≡ d)
variable_at p tys flat label m qs [] ds a h j i d e g = absurd (cc)
variable_at p tys flat label m [] (x ∷ is) ds a h j i d e g = absurd (omega (arith, a))
variable_at p tys flat label m (q ∷ qs) (x ∷ is) [] a h j i d e g = absurd (cc)
variable_at p tys flat label m (q ∷ qs) (x ∷ is) (c ∷ ds) a h zero i d e g =
    (_, ap (slice_get flat.flows) (sym (some_inner x i e)) ∙ h.0, some_inner c d g)
variable_at p tys flat label m (q ∷ qs) (x ∷ is) (c ∷ ds) a h (suc j) i d e g = variable_at p tys flat label (m + 1) qs is ds (omega (arith, a)) h.1 j i d e g

-- devices

wcet_range : (ds : List Device) (t : ℕ) (name : List ℕ) → slice_get (device_names ds) t ≡ Some name → AllByRecursion ranges.IsDeviceInRange ds → ranges.IsCount (wcet_named ds name)
wcet_range [] t name e h = absurd (cc)
wcet_range (d ∷ ds) zero name e h =
    let here : d.name ≡ name = some_inner d.name name e in
    subst ranges.IsCount (sym (ap (λ b. cond b d.wcet (wcet_named ds name)) ((bytes_decides d.name name).1 here))) h.0.1
wcet_range (d ∷ ds) (suc t) name e h =
    elim (bytes_eq d.name name) as (λ b. ranges.IsCount (cond b d.wcet (wcet_named ds name))) [ true ↦ h.0.1 | false ↦ (wcet_range ds t name e h.1) ]

-- a device of a flat program has a name and a WCET
abbrev IsDevice : flats.Device → Type 0
IsDevice d = IsName d.0 × IsFactor d.1

devices_range : (ds : List Device) (qs : List Param) → AllAreAmong (device_names ds) qs → AllByRecursion ranges.IsDeviceInRange ds → AllByRecursion ranges.IsParamInRange qs
    → AllByRecursion IsDevice (devices_of ds qs)
devices_range ds [] among range params = tt
devices_range ds (q ∷ qs) among range params =
    let t = among_place (device_names ds) q.name among.0 in
    ((params.0.name, factor (wcet_named ds q.name) (wcet_range ds t.0 q.name t.1 range)), devices_range ds qs among.1 range params.1)

device_name : (ds : List Device) (qs : List Param) (j : ℕ) (d : flats.Device) → slice_get (devices_of ds qs) j ≡ Some d → slice_get (map (λ (q : Param). q.name) qs) j ≡ Some d.0
device_name ds qs j d e =
    let q = mapped_from (λ (x : Param). (x.name, wcet_named ds x.name)) qs j d e in
    slice_get-map (λ (x : Param). x.name) qs j ∙ ap (option_map (λ (x : Param). x.name)) q.1 ∙ ap (λ (x : flats.Device). Some x.0) q.2

both_names : (us bs : List flats.Device) (xs ys : List (List ℕ)) → length us ≡ length xs → ((j : ℕ) (d : flats.Device) → slice_get us j ≡ Some d → slice_get xs j ≡ Some d.0)
    → ((j : ℕ) (d : flats.Device) → slice_get bs j ≡ Some d → slice_get ys j ≡ Some d.0) → (j : ℕ) (d : flats.Device) → slice_get (us ++ bs) j ≡ Some d → slice_get (xs ++ ys) j ≡ Some d.0
both_names [] bs [] ys e f g j d at = g j d at
both_names [] bs (x ∷ xs) ys e f g j d at = absurd (omega (arith, e))
both_names (a ∷ us) bs [] ys e f g j d at = absurd (omega (arith, e))
both_names (a ∷ us) bs (x ∷ xs) ys e f g zero d at = f 0 d at
both_names (a ∷ us) bs (x ∷ xs) ys e f g (suc j) d at = both_names us bs xs ys (omega (arith, e)) (λ i c h. f (suc i) c h) g j d at

module _ (p : ProgramTree) (asked : Option (List ℕ)) (main : ℕ) (tys : List Ty) (range : ranges.IsInRange p) (typed : IsTyped p asked main tys) where
  right : IsNamed p main
  right = named p asked main typed.names

  sound : IsSound p
  sound = sound_from p right.nodes typed.arity

  pub flat_formed : (e : Expansion) → IsExpansion p main e → length (flows_in e) ≤ 4096 → IsFlat (flat_of p tys main e)
  flat_formed (entered ins outs locals rights) expansion few =
      let e : Expansion = entered ins outs locals rights in
      let flat : FlatProgram = flat_of p tys main (entered ins outs locals rights) in
      let n : NodeTree = node_at p main in
      let env : List ℕ = (ins ++ outs) ++ locals in
      let sources : List Def = sensors_from 0 ins in
      let enough : length (sensors_from 0 ins) ≡ length ins = sensors_count 0 ins in
      let at = there (slice_get p.nodes main) (length ins) (length outs) (length locals) expansion.text.0 in
      let found : slice_get p.nodes main ≡ Some n = at.1 ∙ ap Some (sym (ap node_or at.1)) in
      let has : HasVariables (Some n) (length ins) (length outs) (length locals) = subst (λ (o : Option NodeTree). HasVariables o (length ins) (length outs) (length locals)) found expansion.text.0 in
      let count : length env ≡ length (params_of n) = variables_count n ins outs locals has in
      let fs : List Numbered = all_numbered p tys main (entered ins outs locals rights) in
      let numbers : numbers_of fs ≡ flows_in e = entered_numbered p tys sound [] main sources e expansion.text enough in
      let number : length fs ≡ length (flows_in e) = sym (length-map fs (λ (f : Numbered). f.0)) ∙ ap length numbers in
      let counted : numbers_of fs ≡ range_with_len 0 (length fs) = numbers ∙ expansion.flows ∙ ap (range_with_len 0) (sym number) in
      let flow : AllByRecursion (HasFlow p tys flat) fs = flows_at [] 0 fs refl counted in
      let tells = entered_tells (λ (r : Rule ℕ ℕ). Unit {0}) p tys sound [] main sources _ e expansion.text enough refl in
      let us : List App = entered_apps p main (entered ins outs locals rights) in
      let app_numbers : imports_in e ≡ range_with_len 0 (length us) = expansion.imports ∙ ap (range_with_len 0) tells.count in
      let apps : HaveApps p tys flat (imports_in e) us = subst (λ (ks : List ℕ). HaveApps p tys flat ks us) (sym app_numbers) (apps_at p tys flat [] 0 us refl refl) in
      let all = entered_sound p tys flat sound (typed_nodes p asked main tys range typed) [] main sources e expansion.text enough
      (λ j i s a b.
      let is : s ≡ definitions.Sensor j = sensor_at 0 ins j j s b (omega arith) in
      subst (λ (d : Def). IsWellDefined flat i (type_at tys (first_of p main + j)) d) (sym is) (slice_get-map flow_no ins j ∙ ap (option_map flow_no) a))
      flow apps in
      let sound_apps : AreSoundApps p tys flat (range_with_len 0 (length us)) us = subst (λ (ks : List ℕ). AreSoundApps p tys flat ks us) app_numbers all.1 in
      let env_typed : IsEnvironment p tys flat main env = entered_environment p tys flat sound [] main sources ins outs locals rights expansion.text enough flow in
      let vars : List Numbered = variable_flows [] tys (first_of p main) (params_of n) env (sources ++ copies (equated n env n.eqs rights) (n.outs ++ n.locals)) in
      let var_flow = all_first (HasFlow p tys flat) vars (right_flows p tys main n env n.eqs rights) flow in
      let devices = right.devices n found in
      let node_range = ((typed_nodes p asked main tys range typed).node main n found).range in
      let ins_of : List flats.Device = devices_of p.sensors n.ins in
      let outs_of : List flats.Device = devices_of p.actuators n.outs in
      let ins_count : length ins_of ≡ length n.ins = length-map n.ins (λ (q : Param). (q.name, wcet_named p.sensors q.name)) in
      let outs_count : length outs_of ≡ length n.outs = length-map n.outs (λ (q : Param). (q.name, wcet_named p.actuators q.name)) in
      record {
        in_count = ins_count ∙ sym has.0 ∙ sym (length-map ins flow_no);
        out_count = outs_count ∙ sym has.1 ∙ sym (length-map outs flow_no);
        devices = (
          λ k d found_d. at_place IsDevice (ins_of ++ outs_of) k d
              (all_both IsDevice ins_of outs_of (devices_range p.sensors n.ins devices.sensors range.sensors node_range.ins) (devices_range p.actuators n.outs devices.actuators range.actuators node_range.outs)) found_d,
          λ j k c d at_c at_d same_name.
              (right.nodes main n found).params_apart j k c.0 (device_there n ins_count j c at_c) ((device_there n ins_count k d at_d) ∙ ap Some (sym same_name)),
        );
        flows = λ i f found_f. (flow_sound flat fs counted all.0 i f found_f).0;
        notes = λ i f found_f. (flow_sound flat fs counted all.0 i f found_f).1;
        apps = λ k u found_u. app_at p tys flat 0 us k k u sound_apps found_u (omega arith);
        ins = λ k f found_f.
            let i = mapped_from flow_no ins k f found_f in
            let small : k < length ins = slice_get_within ins k i.0 i.1 in
            let sensor = element_at sources k (omega (arith, small, enough)) in
            let is : sensor.0 ≡ definitions.Sensor k = sensor_at 0 ins k k sensor.0 sensor.1 (omega arith) in
            let in_env : slice_get env k ≡ Some i.0 =
            ap (λ (xs : List ℕ). slice_get xs k) (append_assoc ins outs locals) ∙ slice_get_append_left ins (outs ++ locals) k small ∙ i.1 in
            let in_sources : slice_get (sources ++ copies (equated n env n.eqs rights) (n.outs ++ n.locals)) k ≡ Some sensor.0 =
            slice_get_append_left sources (copies (equated n env n.eqs rights) (n.outs ++ n.locals)) k (omega (arith, small, enough)) ∙ sensor.1 in
            let v = variable_at p tys flat [] (first_of p main) (params_of n) env (sources ++ copies (equated n env n.eqs rights) (n.outs ++ n.locals)) count var_flow k i.0 sensor.0 in_env in_sources in
            subst (λ (g : FlowNo). IsInput flat k g) i.2 (v.0, v.1, v.2 ∙ is);
        outs = λ k f found_f.
            let i = mapped_from flow_no outs k f found_f in
            let kind = env_typed (length ins + k) i.0 (middle p tys flat ins outs locals k i.0 i.1) in
            subst (λ (g : FlowNo). g.0 < length flat.flows) i.2 (slice_get_within flat.flows i.0 kind.0 kind.1);
        few = omega (arith, few, number, length-map fs (λ (f : Numbered). f.1));
      }
    where
      flow_sound : (flat : FlatProgram) (fs : List Numbered) → numbers_of fs ≡ range_with_len 0 (length fs) → AllByRecursion (IsSoundFlow p tys flat) fs → (i : ℕ) (f : Flow)
          → slice_get (map (λ (g : Numbered). g.1) fs) i ≡ Some f → IsWellDefined flat i f.ty f.def × IsNoted f
      flow_sound flat fs counted sounds i f found_f =
          let g = mapped_from (λ (x : Numbered). x.1) fs i f found_f in
          let number : g.0.0 ≡ i = number_at 0 fs i i g.0 counted g.1 (omega arith) in
          let is = at_place (IsSoundFlow p tys flat) fs i g.0 sounds g.1 in
          subst (λ (x : Flow). IsWellDefined flat i x.ty x.def × IsNoted x) g.2 (subst (λ k. IsWellDefined flat k g.0.1.ty g.0.1.def × IsNoted g.0.1) number is)

      device_there : (n : NodeTree) → length (devices_of p.sensors n.ins) ≡ length n.ins → (j : ℕ) (d : flats.Device) → slice_get (devices_of p.sensors n.ins ++ devices_of p.actuators n.outs) j ≡ Some d
          → slice_get (param_names n) j ≡ Some d.0
      device_there n many j d e =
          let ins_names : List (List ℕ) = map (λ (q : Param). q.name) n.ins in
          let outs_names : List (List ℕ) = map (λ (q : Param). q.name) n.outs in
          let locals_names : List (List ℕ) = map (λ (q : Param). q.name) n.locals in
          let names : slice_get (ins_names ++ outs_names) j ≡ Some d.0 =
          both_names (devices_of p.sensors n.ins) (devices_of p.actuators n.outs) ins_names outs_names (many ∙ sym (length-map n.ins (λ (q : Param). q.name)))
          (device_name p.sensors n.ins) (device_name p.actuators n.outs) j d e in
          let small : j < length (ins_names ++ outs_names) = slice_get_within (ins_names ++ outs_names) j d.0 names in
          let whole : param_names n ≡ (ins_names ++ outs_names) ++ locals_names =
          map-append (λ (q : Param). q.name) (n.ins ++ n.outs) n.locals ∙ ap (λ (xs : List (List ℕ)). xs ++ locals_names) (map-append (λ (q : Param). q.name) n.ins n.outs) in
          ap (λ (xs : List (List ℕ)). slice_get xs j) whole ∙ slice_get_append_left (ins_names ++ outs_names) locals_names j small ∙ names

-- the flows of an expansion stand at their numbers
pub flows_there : (p : ProgramTree) (tys : List Ty) (main : ℕ) (sound : IsSound p) (e : Expansion) → IsExpansion p main e → AllByRecursion (HasFlow p tys (flat_of p tys main e)) (all_numbered p tys main e)
flows_there p tys main sound e expansion =
    let fs : List Numbered = all_numbered p tys main e in
    let numbers : numbers_of fs ≡ flows_in e = entered_numbered p tys sound [] main (sensors_from 0 (inputs_of e)) e expansion.text (sensors_count 0 (inputs_of e)) in
    flows_at [] 0 fs refl (numbers ∙ expansion.flows ∙ ap (range_with_len 0) (sym (sym (length-map fs (λ (f : Numbered). f.0)) ∙ ap length numbers)))
