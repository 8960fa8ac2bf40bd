-- The rules of the flat program of an expansion are those that the text asks: the same hold.
use Rattle.prl_base.proofs.Standard.{suc, ◌≡◌, ◌+◌, ℕ, List, [], ◌∷◌, ◌++◌, map, length, Some, slice_get, refl, sym, ap, ◌∙◌, subst, arith, reverse, AllByRecursion, length-map, map-append, append-nil}
use Rattle.std.proofs.lemmas.List.{append_assoc}
use Rattle.prl_base.specs.declared.numbers.FlowNo.{FlowNo}
use Rattle.prl_base.specs.declared.places.Span.{Span}
use Rattle.prl_base.specs.declared.values.Ty.{Ty}
use Rattle.prl_ast.specs.Trees.{Tree, Root, const, var, apply, group, Trees, none, more, EquationTree, NodeTree, ProgramTree}
use Rattle.prl_ast.specs.declared.declarations.Param.{Param}
use Rattle.prl_ast.specs.declared.declarations.Port.{Port}
use Rattle.prl_ast.specs.declared.expressions.PlacedOp.{PlacedOp}
use Rattle.prl_ast.specs.Trees.{tree}
use Rattle.prl_flow.specs.Rules.{Rule, operator, applied, same, sensed, rate_rules, definition_rules, flow_rules, app_rule}
use Rattle.prl_flow.specs.declared.programs.App.{App}
use Rattle.prl_flow.specs.declared.programs.Arg.{Arg}
use Rattle.prl_flow.specs.declared.programs.Def.{Def}
use Rattle.prl_names.specs.Vocabulary.{callee_of, params_of, IsKnown, IsKnownRoot, AreKnown, AreKnownEquations}
use Rattle.prl_types.specs.Vocabulary.{equations_faults, faults_in, root_faults, all_faults, first_of}
use Rattle.prl_types.specs.Flows as flows
use Rattle.prl_causal.specs.Annotations.{Entered, entered, Rights, done, next, Part, part, Core, Parts, imports_in, right_imports, part_imports, core_imports, parts_imports}
use Rattle.prl_causal.specs.Annotations as notes
use Rattle.prl_causal.specs.Asked.{inputs_of, last_of, given, root_given, all_given, constant_rules, all_same, operator_rules, declared_rules, entered_rules, rights_rules, part_rules, root_rules, all_rules, sensed_rules, at_lefts}
use Rattle.prl_causal.specs.Texts.{node_at, node_of, IsText, AreRights, IsPart, IsCore, AreParts}
use Rattle.prl_expand.specs.Flats.{Numbered, Types, flow_no, copy_of, resolved, variable_flows, equated, copies, operator_flows, output_flows, import_at, ports_of, constant_flows, entered_flows, right_flows, part_flows, root_flows_of, all_flows, placed, arguments, entered_apps, right_apps, part_apps, root_apps, all_apps, sensors_from, label_of_node, source_of}
use Rattle.prl_expand.proofs.Lists.{all_both, all_first, all_second, no_first, no_second, lengths_append}
use Rattle.prl_expand.proofs.Sound.{IsRightNode, IsSound, operated_right, argued_right, enough_given, equated_right, entered_is, call_of}
use Rattle.prl_expand.proofs.Sources.{definitions_rules, left_rules, lefts_from, lefts_to}

abbrev pub numbered_rules : List Numbered → List (Rule ℕ ℕ)
numbered_rules [] = []
numbered_rules (f ∷ fs) = flow_rules f.0 f.1 ++ numbered_rules fs

-- of applications with their numbers
abbrev pub zipped_rules : List ℕ → List App → List (Rule ℕ ℕ)
zipped_rules [] us = []
zipped_rules (k ∷ ks) [] = []
zipped_rules (k ∷ ks) (a ∷ us) = app_rule k a ∷ zipped_rules ks us

pub numbered_append : (fs gs : List Numbered) → numbered_rules (fs ++ gs) ≡ numbered_rules fs ++ numbered_rules gs
numbered_append [] gs = refl
numbered_append (f ∷ fs) gs =
    ap (λ rs. flow_rules f.0 f.1 ++ rs) (numbered_append fs gs) ∙ sym (append_assoc (flow_rules f.0 f.1) (numbered_rules fs) (numbered_rules gs))

zipped_append : (ks ls : List ℕ) (us bs : List App) → length ks ≡ length us → zipped_rules (ks ++ ls) (us ++ bs) ≡ zipped_rules ks us ++ zipped_rules ls bs
zipped_append [] ls [] bs e = refl
zipped_append [] ls (a ∷ us) bs e = absurd (omega (arith, e))
zipped_append (k ∷ ks) ls [] bs e = absurd (omega (arith, e))
zipped_append (k ∷ ks) ls (a ∷ us) bs e = ap (λ rs. app_rule k a ∷ rs) (zipped_append ks ls us bs (omega (arith, e)))

operators_are : (ty : Ty) (os : List PlacedOp) (is of : List ℕ) → numbered_rules (operator_flows ty os is of) ≡ operator_rules os is of
operators_are ty [] is of = refl
operators_are ty (o ∷ os) [] of = refl
operators_are ty (o ∷ os) (i ∷ is) [] = refl
operators_are ty (o ∷ os) (i ∷ is) (x ∷ xs) = ap (λ rs. operator o.op x i ∷ rs) (operators_are ty os is (i ∷ []))

outputs_are : (app out : ℕ) (at : Span) (qs : List Port) (is : List ℕ) → numbered_rules (output_flows app out at qs is) ≡ []
outputs_are app out at [] is = refl
outputs_are app out at (q ∷ qs) [] = refl
outputs_are app out at (q ∷ qs) (i ∷ is) = outputs_are app (out + 1) at qs is

constants_are : (root : Root) (i : ℕ) (at : Span) → numbered_rules (constant_flows root i at) ≡ constant_rules root i
constants_are (const v) i at = refl
constants_are (var name) i at = refl
constants_are (apply name place args) i at = refl
constants_are (group parts) i at = refl

placed_are : (at : Span) (is : List ℕ) → map (λ (a : Arg). a.flow.0) (map (λ (i : ℕ). record { flow = flow_no i; at = at }) is) ≡ is
placed_are at [] = refl
placed_are at (i ∷ is) = ap (λ js. i ∷ js) (placed_are at is)

outs_are : (is : List ℕ) → map (λ (f : FlowNo). f.0) (map flow_no is) ≡ is
outs_are [] = refl
outs_are (i ∷ is) = ap (λ js. i ∷ js) (outs_are is)

tree_placed : (t : Tree) (is : List ℕ) → map (λ (a : Arg). a.flow.0) (placed t is) ≡ is
tree_placed (tree pre root post at) is = placed_are at is

pub arguments_are : (n : NodeTree) (env : List ℕ) (ts : Trees) (qs : Parts ℕ ℕ ℕ) → map (λ (a : Arg). a.flow.0) (arguments n env ts qs) ≡ all_given n env ts qs
arguments_are n env ts notes.none = refl
arguments_are n env none (notes.more q rest) = refl
arguments_are n env (more t ts) (notes.more q rest) =
    map-append (λ (a : Arg). a.flow.0) (placed t (given n env t q)) (arguments n env ts rest)
    ∙ rw (tree_placed t (given n env t q), arguments_are n env ts rest) refl

definitions_append : (is js : List ℕ) (ds es : List Def) → length is ≡ length ds → definitions_rules (is ++ js) (ds ++ es) ≡ definitions_rules is ds ++ definitions_rules js es
definitions_append [] js [] es e = refl
definitions_append [] js (d ∷ ds) es e = absurd (omega (arith, e))
definitions_append (i ∷ is) js [] es e = absurd (omega (arith, e))
definitions_append (i ∷ is) js (d ∷ ds) es e =
    ap (λ rs. definition_rules i d ++ rs) (definitions_append is js ds es (omega (arith, e)))
    ∙ sym (append_assoc (definition_rules i d) (definitions_rules is ds) (definitions_rules js es))

pub definitions_copies : (is gs : List ℕ) → definitions_rules is (map copy_of gs) ≡ all_same is gs
definitions_copies [] gs = refl
definitions_copies (i ∷ is) [] = refl
definitions_copies (i ∷ is) (g ∷ gs) = ap (λ rs. same i g ∷ rs) (definitions_copies is gs)

pub sensors_count : (k : ℕ) (is : List ℕ) → length (sensors_from k is) ≡ length is
sensors_count k [] = refl
sensors_count k (i ∷ is) = ap suc (sensors_count (k + 1) is)

pub definitions_sensors : (k : ℕ) (is : List ℕ) → definitions_rules is (sensors_from k is) ≡ sensed_rules k is
definitions_sensors k [] = refl
definitions_sensors k (i ∷ is) = ap (λ rs. sensed k i ∷ rs) (definitions_sensors (k + 1) is)

-- the rules of right sides
abbrev right_part_rules : ProgramTree → NodeTree → List ℕ → List EquationTree → Rights ℕ ℕ ℕ → List (Rule ℕ ℕ)
right_part_rules p n env es done = []
right_part_rules p n env [] (next q rest) = []
right_part_rules p n env (e ∷ es) (next q rest) = part_rules p n env e.right q ++ right_part_rules p n env es rest

module _ (P : Rule ℕ ℕ → Type 0) where
  abbrev All : List (Rule ℕ ℕ) → Type 0
  All rules = AllByRecursion P rules

  -- flows and applications of which the same rules hold
  pub record Tells (fs : List Numbered) (ks : List ℕ) (us : List App) (rules : List (Rule ℕ ℕ)) : Type 0 where
    pub to : All (numbered_rules fs) → All (zipped_rules ks us) → All rules
    pub flows : All rules → All (numbered_rules fs)
    pub apps : All rules → All (zipped_rules ks us)
    pub count : length ks ≡ length us

  tells_nothing : Tells [] [] [] []
  tells_nothing = record { to = λ f g. tt; flows = λ h. tt; apps = λ h. tt; count = refl }

  tells_both : (fs gs : List Numbered) (ks ls : List ℕ) (us bs : List App) (rs ss : List (Rule ℕ ℕ)) → Tells fs ks us rs → Tells gs ls bs ss
      → Tells (fs ++ gs) (ks ++ ls) (us ++ bs) (rs ++ ss)
  tells_both fs gs ks ls us bs rs ss a b = record {
    to = λ f g.
        let f2 = subst All (numbered_append fs gs) f in
        let g2 = subst All (zipped_append ks ls us bs a.count) g in
        all_both P rs ss (a.to (all_first P (numbered_rules fs) (numbered_rules gs) f2) (all_first P (zipped_rules ks us) (zipped_rules ls bs) g2))
        (b.to (all_second P (numbered_rules fs) (numbered_rules gs) f2) (all_second P (zipped_rules ks us) (zipped_rules ls bs) g2));
    flows = λ h. subst All (sym (numbered_append fs gs)) (all_both P (numbered_rules fs) (numbered_rules gs) (a.flows (all_first P rs ss h)) (b.flows (all_second P rs ss h)));
    apps = λ h. subst All (sym (zipped_append ks ls us bs a.count)) (all_both P (zipped_rules ks us) (zipped_rules ls bs) (a.apps (all_first P rs ss h)) (b.apps (all_second P rs ss h)));
    count = lengths_append ks ls us bs a.count b.count;
  }

  -- flows alone
  tells_flows : (gs : List Numbered) (ss : List (Rule ℕ ℕ)) → numbered_rules gs ≡ ss → Tells gs [] [] ss
  tells_flows gs ss e = record { to = λ f g. subst All e f; flows = λ h. subst All (sym e) h; apps = λ h. tt; count = refl }

  tells_more : (fs gs : List Numbered) (ks : List ℕ) (us : List App) (rs ss : List (Rule ℕ ℕ)) → Tells fs ks us rs → numbered_rules gs ≡ ss → Tells (fs ++ gs) ks us (rs ++ ss)
  tells_more fs gs ks us rs ss a e =
      subst (λ (bs : List App). Tells (fs ++ gs) ks bs (rs ++ ss)) (append-nil us)
      (subst (λ (ls : List ℕ). Tells (fs ++ gs) ls (us ++ []) (rs ++ ss)) (append-nil ks) (tells_both fs gs ks [] us [] rs ss a (tells_flows gs ss e)))

  -- the flows of variables: their declared rates, and their definitions
  record Declares (fs : List Numbered) (qs : List Param) (is : List ℕ) (ds : List Def) : Type 0 where
    rates : All (numbered_rules fs) → All (declared_rules qs is)
    defs : All (numbered_rules fs) → All (definitions_rules is ds)
    back : All (declared_rules qs is) → All (definitions_rules is ds) → All (numbered_rules fs)

  declares : (label : List ℕ) (tys : Types) (k : ℕ) (qs : List Param) (is : List ℕ) (ds : List Def) → length is ≡ length qs → length is ≡ length ds
      → Declares (variable_flows label tys k qs is ds) qs is ds
  declares label tys k [] [] ds a b = record { rates = λ h. tt; defs = λ h. tt; back = λ f g. tt }
  declares label tys k [] (i ∷ is) ds a b = absurd (omega (arith, a))
  declares label tys k (q ∷ qs) [] ds a b = absurd (omega (arith, a))
  declares label tys k (q ∷ qs) (i ∷ is) [] a b = absurd (omega (arith, b))
  declares label tys k (q ∷ qs) (i ∷ is) (d ∷ ds) a b =
      let rest = declares label tys (k + 1) qs is ds (omega (arith, a)) (omega (arith, b)) in
      let rate : List (Rule ℕ ℕ) = rate_rules q.rate i in
      let def : List (Rule ℕ ℕ) = definition_rules i d in
      let later : List (Rule ℕ ℕ) = numbered_rules (variable_flows label tys (k + 1) qs is ds) in
      record {
        rates = λ h. all_both P rate (declared_rules qs is) (all_first P rate def (all_first P (rate ++ def) later h)) (rest.rates (all_second P (rate ++ def) later h));
        defs = λ h. all_both P def (definitions_rules is ds) (all_second P rate def (all_first P (rate ++ def) later h)) (rest.defs (all_second P (rate ++ def) later h));
        back = λ f g. all_both P (rate ++ def) later (all_both P rate def (all_first P rate (declared_rules qs is) f) (all_first P def (definitions_rules is ds) g))
            (rest.back (all_second P rate (declared_rules qs is) f) (all_second P def (definitions_rules is ds) g));
      }

  -- the rules of equations: of their right sides, and of their left names
  record Splits (all parts lefts : List (Rule ℕ ℕ)) : Type 0 where
    part : All all → All parts
    left : All all → All lefts
    back : All parts → All lefts → All all

  splits : (p : ProgramTree) (n : NodeTree) (env : List ℕ) (es : List EquationTree) (qs : Rights ℕ ℕ ℕ)
      → Splits (rights_rules p n env es qs) (right_part_rules p n env es qs) (left_rules n env es qs)
  splits p n env es done = record { part = λ h. tt; left = λ h. tt; back = λ f g. tt }
  splits p n env [] (next q rest) = record { part = λ h. tt; left = λ h. tt; back = λ f g. tt }
  splits p n env (e ∷ es) (next q rest) =
      let a : List (Rule ℕ ℕ) = part_rules p n env e.right q in
      let b : List (Rule ℕ ℕ) = all_same (at_lefts n env e.lefts) (given n env e.right q) in
      let c : List (Rule ℕ ℕ) = rights_rules p n env es rest in
      let more = splits p n env es rest in
      record {
        part = λ h. all_both P a (right_part_rules p n env es rest) (all_first P a (b ++ c) h) (more.part (all_second P b c (all_second P a (b ++ c) h)));
        left = λ h. all_both P b (left_rules n env es rest) (all_first P b c (all_second P a (b ++ c) h)) (more.left (all_second P b c (all_second P a (b ++ c) h)));
        back = λ f g. all_both P a (b ++ c) (all_first P a (right_part_rules p n env es rest) f)
            (all_both P b c (all_first P b (left_rules n env es rest) g) (more.back (all_second P a (right_part_rules p n env es rest) f) (all_second P b (left_rules n env es rest) g)));
      }

  module _ (p : ProgramTree) (tys : Types) (sound : IsSound p) where
    -- the variables of a node and its equations together
    entered_made : (label : List ℕ) (k : ℕ) (sources : List Def) (extra : List (Rule ℕ ℕ)) (ins outs locals : List ℕ) (rights : Rights ℕ ℕ ℕ) (n : NodeTree) → IsRightNode p k n → AreRights p n.eqs rights
        → length sources ≡ length ins → definitions_rules ins sources ≡ extra → length ins ≡ length n.ins → length (outs ++ locals) ≡ length (n.outs ++ n.locals)
        → length ((ins ++ outs) ++ locals) ≡ length (params_of n)
        → Tells (right_flows p tys k n ((ins ++ outs) ++ locals) n.eqs rights) (right_imports rights) (right_apps p n ((ins ++ outs) ++ locals) n.eqs rights)
        (right_part_rules p n ((ins ++ outs) ++ locals) n.eqs rights)
        → Tells (variable_flows label tys (first_of p k) (params_of n) ((ins ++ outs) ++ locals) (sources ++ copies (equated n ((ins ++ outs) ++ locals) n.eqs rights) (n.outs ++ n.locals))
        ++ right_flows p tys k n ((ins ++ outs) ++ locals) n.eqs rights) (right_imports rights) (right_apps p n ((ins ++ outs) ++ locals) n.eqs rights)
        (extra ++ (declared_rules (params_of n) ((ins ++ outs) ++ locals) ++ rights_rules p n ((ins ++ outs) ++ locals) n.eqs rights))
    entered_made label k sources extra ins outs locals rights n right text enough are ins_count rest_count count rs =
        let env : List ℕ = (ins ++ outs) ++ locals in
        let given_flows : List Def = copies (equated n env n.eqs rights) (n.outs ++ n.locals) in
        let defs : List Def = sources ++ given_flows in
        let env_is : env ≡ ins ++ (outs ++ locals) = append_assoc ins outs locals in
        let copied : length given_flows ≡ length (n.outs ++ n.locals) = length-map (n.outs ++ n.locals) (λ (q : Param). copy_of (source_of (equated n env n.eqs rights) q.name)) in
        let as_many : length env ≡ length defs = ap length env_is ∙ lengths_append ins (outs ++ locals) sources given_flows (sym enough) (rest_count ∙ sym copied) in
        let vs = declares label tys (first_of p k) (params_of n) env defs count as_many in
        let vars : List Numbered = variable_flows label tys (first_of p k) (params_of n) env defs in
        let others : List Numbered = right_flows p tys k n env n.eqs rights in
        let split = splits p n env n.eqs rights in
        let declared : List (Rule ℕ ℕ) = declared_rules (params_of n) env in
        let asked : List (Rule ℕ ℕ) = rights_rules p n env n.eqs rights in
        let cut : definitions_rules env defs ≡ extra ++ definitions_rules (outs ++ locals) given_flows =
        ap (λ (es : List ℕ). definitions_rules es defs) env_is ∙ definitions_append ins (outs ++ locals) sources given_flows (sym enough)
        ∙ ap (λ r. r ++ definitions_rules (outs ++ locals) given_flows) are in
        record {
          to = λ f g.
              let f2 = subst All (numbered_append vars others) f in
              let v = all_first P (numbered_rules vars) (numbered_rules others) f2 in
              let d = subst All cut (vs.defs v) in
              all_both P extra (declared ++ asked) (all_first P extra (definitions_rules (outs ++ locals) given_flows) d)
              (all_both P declared asked (vs.rates v)
              (split.back (rs.to (all_second P (numbered_rules vars) (numbered_rules others) f2) g)
              (lefts_to P p k n right ins (outs ++ locals) env env_is ins_count rest_count rights text (all_second P extra (definitions_rules (outs ++ locals) given_flows) d))));
          flows = λ h.
              let more = all_second P extra (declared ++ asked) h in
              let rules = all_second P declared asked more in
              let d = all_both P extra (definitions_rules (outs ++ locals) given_flows) (all_first P extra (declared ++ asked) h)
              (lefts_from P p k n right ins (outs ++ locals) env env_is ins_count rest_count rights text (split.left rules)) in
              subst All (sym (numbered_append vars others))
              (all_both P (numbered_rules vars) (numbered_rules others) (vs.back (all_first P declared asked more) (subst All (sym cut) d)) (rs.flows (split.part rules)));
          apps = λ h. rs.apps (split.part (all_second P declared asked (all_second P extra (declared ++ asked) h)));
          count = rs.count;
        }

    mutual
      pub part_tells : (k : ℕ) (n : NodeTree) (env : List ℕ) → slice_get p.nodes k ≡ Some n → length env ≡ length (params_of n) → (t : Tree) (q : Part ℕ ℕ ℕ) → IsPart p t q → IsKnown p k t
          → faults_in p k t ≡ [] → Tells (part_flows p tys k n env t q) (part_imports q) (part_apps p n env t q) (part_rules p n env t q)
      part_tells k n env found count (tree pre root post at) (part pres core posts) h known arity =
          let of : List ℕ = root_given n env root core in
          let ty : Ty = resolved tys (flows.operand (flows.root_flows p k root)) in
          tells_more (root_flows_of p tys k n env root at core) (operator_flows ty post posts of ++ operator_flows ty (reverse pre) (reverse pres) (last_of of posts))
          (core_imports core) (root_apps p n env root at core) (root_rules p n env root core)
          (operator_rules post posts of ++ operator_rules (reverse pre) (reverse pres) (last_of of posts))
          (root_tells k n env found count root at core h.1 known (operated_right p k pre root post arity).inner)
          (numbered_append (operator_flows ty post posts of) (operator_flows ty (reverse pre) (reverse pres) (last_of of posts))
          ∙ rw (operators_are ty post posts of, operators_are ty (reverse pre) (reverse pres) (last_of of posts)) refl)

      pub root_tells : (k : ℕ) (n : NodeTree) (env : List ℕ) → slice_get p.nodes k ≡ Some n → length env ≡ length (params_of n) → (root : Root) (at : Span) (c : Core ℕ ℕ ℕ) → IsCore p root c
          → IsKnownRoot p k root → root_faults p k root ≡ []
          → Tells (root_flows_of p tys k n env root at c) (core_imports c) (root_apps p n env root at c) (root_rules p n env root c)
      root_tells k n env found count (const v) at (notes.constant i) h known arity = tells_flows (constant_flows (const v) i at) (constant_rules (const v) i) (constants_are (const v) i at)
      root_tells k n env found count (var name) at notes.name h known arity = tells_nothing
      root_tells k n env found count (apply name place args) at (notes.import parts x outs) h known arity =
          let ports : List Port = ports_of (import_at p (callee_of p name)) in
          let call : App = call_of p n env name place args parts outs in
          let rule : app_rule x call ≡ applied name (all_given n env args parts) outs x = rw (arguments_are n env args parts, outs_are outs) refl in
          tells_both (all_flows p tys k n env args parts) (output_flows x 0 place ports outs) (parts_imports parts) (x ∷ []) (all_apps p n env args parts) (call ∷ [])
          (all_rules p n env args parts) (applied name (all_given n env args parts) outs x ∷ [])
          (all_tells k n env found count args parts h.1 known.1 (argued_right p k name place args arity).inner)
          (record {
            to = λ f g. (subst P rule g.0, tt);
            flows = λ g. subst All (sym (outputs_are x 0 place ports outs)) tt;
            apps = λ g. (subst P (sym rule) g.0, tt);
            count = refl;
          })
      root_tells k n env found count (apply name place args) at (notes.node parts x child) h known arity =
          let callee = node_of (callee_of p name) in
          let gs : List ℕ = all_given n env args parts in
          let argued = argued_right p k name place args arity in
          let enough = enough_given p k n env found count name args parts child h.0 h.1 h.2 known.1 argued in
          tells_both (all_flows p tys k n env args parts) (entered_flows p tys (label_of_node name x) callee (map copy_of gs) child) (parts_imports parts) (imports_in child)
          (all_apps p n env args parts) (entered_apps p callee child) (all_rules p n env args parts) (all_same (inputs_of child) gs ++ entered_rules p callee child)
          (all_tells k n env found count args parts h.1 known.1 argued.inner)
          (entered_tells (label_of_node name x) callee (map copy_of gs) (all_same (inputs_of child) gs) child h.2 enough (definitions_copies (inputs_of child) gs))
      root_tells k n env found count (group args) at (notes.group parts) h known arity = all_tells k n env found count args parts h known arity
      root_tells k n env found count root at core h known arity = absurd h

      pub all_tells : (k : ℕ) (n : NodeTree) (env : List ℕ) → slice_get p.nodes k ≡ Some n → length env ≡ length (params_of n) → (ts : Trees) (qs : Parts ℕ ℕ ℕ) → AreParts p ts qs → AreKnown p k ts
          → all_faults p k ts ≡ [] → Tells (all_flows p tys k n env ts qs) (parts_imports qs) (all_apps p n env ts qs) (all_rules p n env ts qs)
      all_tells k n env found count none notes.none h known arity = tells_nothing
      all_tells k n env found count none (notes.more q rest) h known arity = absurd h
      all_tells k n env found count (more t ts) notes.none h known arity = absurd h
      all_tells k n env found count (more t ts) (notes.more q rest) h known arity =
          tells_both (part_flows p tys k n env t q) (all_flows p tys k n env ts rest) (part_imports q) (parts_imports rest) (part_apps p n env t q) (all_apps p n env ts rest)
          (part_rules p n env t q) (all_rules p n env ts rest)
          (part_tells k n env found count t q h.0 known.0 (no_first (faults_in p k t) (all_faults p k ts) arity))
          (all_tells k n env found count ts rest h.1 known.1 (no_second (faults_in p k t) (all_faults p k ts) arity))

      pub right_tells : (k : ℕ) (n : NodeTree) (env : List ℕ) → slice_get p.nodes k ≡ Some n → length env ≡ length (params_of n) → (es : List EquationTree) (qs : Rights ℕ ℕ ℕ) → AreRights p es qs
          → AreKnownEquations p k es → equations_faults p k es ≡ [] → Tells (right_flows p tys k n env es qs) (right_imports qs) (right_apps p n env es qs) (right_part_rules p n env es qs)
      right_tells k n env found count [] done h known arity = tells_nothing
      right_tells k n env found count [] (next q rest) h known arity = absurd h
      right_tells k n env found count (e ∷ es) done h known arity = absurd h
      right_tells k n env found count (e ∷ es) (next q rest) h known arity =
          let arities = equated_right p k e es arity in
          tells_both (part_flows p tys k n env e.right q) (right_flows p tys k n env es rest) (part_imports q) (right_imports rest) (part_apps p n env e.right q) (right_apps p n env es rest)
          (part_rules p n env e.right q) (right_part_rules p n env es rest)
          (part_tells k n env found count e.right q h.0 known.1 arities.first)
          (right_tells k n env found count es rest h.1 known.2 arities.second)

      pub entered_tells : (label : List ℕ) (k : ℕ) (sources : List Def) (extra : List (Rule ℕ ℕ)) (e : Entered ℕ ℕ ℕ) → IsText p k e → length sources ≡ length (inputs_of e)
          → definitions_rules (inputs_of e) sources ≡ extra → Tells (entered_flows p tys label k sources e) (imports_in e) (entered_apps p k e) (extra ++ entered_rules p k e)
      entered_tells label k sources extra (entered ins outs locals rights) text enough are =
          let n : NodeTree = node_at p k in
          let env : List ℕ = (ins ++ outs) ++ locals in
          let is = entered_is p k ins outs locals text.0 in
          let right : IsRightNode p k n = sound.node k n is.found in
          let rs = right_tells k n env is.found is.count n.eqs rights text.1 right.named.known right.arity in
          entered_made label k sources extra ins outs locals rights n right text.1 enough are is.has.0 is.rest_count is.count rs
