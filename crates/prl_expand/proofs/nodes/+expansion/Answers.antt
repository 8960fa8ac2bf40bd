use Rattle.prl_base.proofs.Standard.{ℕ, ◌≡◌, ◌<◌, ◌+◌, ◌-◌, ◌++◌, [], ◌∙◌, Some, ap, arith, length, map, refl, slice_get, subst, sym, slice_get_read, take, AllByRecursion}
use Rattle.prl_ast.specs.Trees.{apply, equation_tree, node_tree, program_tree, root_of, tree_of}
use Rattle.prl_ast.specs.declared.declarations.Import.{Import}
use Rattle.prl_ast.specs.declared.declarations.Program.{Program}
use Rattle.prl_names.specs.Vocabulary.{all_trees, callee_of, param_at, params_of, IsKnownRoot}
use Rattle.prl_names.specs.declared.lookups.Callee.TheVariants as callees
use Rattle.prl_names.proofs.Marking.{callee_below}
use Rattle.prl_names.proofs.Rows.{root_of_Apply}
use Rattle.prl_causal.specs.Annotations as notes
use Rattle.prl_causal.specs.Vocabulary.{outputs_of, node_at, node_or}
use Rattle.prl_expand.specs.Flats as flats
use Rattle.prl_expand.specs.Vocabulary.{copies, copy_of, equated, paired, Next, IsPast, a_node, have_types, the_rights, types_of, Adds, past_entered}
use Rattle.prl_expand.specs.Vocabulary.{past_rights, arg_of, flow_of, flows_of, EquationsFit, ActFits, RootFits, copied, def_of, pairs_of}
use Rattle.prl_expand.specs.code.Acts.{act_of, acts_of}
use Rattle.prl_expand.specs.code.Standings.{IsAt}
use Rattle.prl_expand.specs.code.Steps.{Given, Standing, after, end_given, end_types, nothing, site, start}
use Rattle.prl_expand.proofs.Adding.{adds_as, below_few}
use Rattle.prl_expand.proofs.Closing.{closed_given, closed_made, if_ok_both, ok_on, one_more, step_past, step_within}
use Rattle.prl_expand.proofs.Entering.{AreVariables, entered_apps, entered_given, entered_made, entered_next, entered_types, equations_past, node_found, node_variables, params_length, variables_past}
use Rattle.prl_expand.proofs.Expressions.{copied_are, drop_equations, err_and, if_err, if_ok, import_apps, import_flows, import_next, import_past, import_types, node_apps, node_flows, node_given, node_next, node_past, on_ok, var_given, var_types}
use Rattle.prl_expand.proofs.Stepping.{at_next, whole_after}
use Rattle.prl_expand.proofs.Within.{act_fits, call_fits, node_few, outputs_some, ports_some, tree_acts, variables_few, equations_fit, few_nodes, import_below, levels_left, may_apply, right_fits, variable_at}
use Rattle.prl_expand.proofs.Remaining.{rights_step}
use Rattle.prl_expand.proofs.nodes.+expansion.Goals as goal
use Rattle.prl_expand.proofs.nodes.+expansion.Goals.{apply-After-program, apply-In-Some-Node, base-In-Apply, enter-After-as_slice-terms, enter-After-node_at-node}

-- the import that is applied
is_import : (t : ℕ) (c : apply-After-program t) → callee_of (program_tree c.args.names.now) c.args.name.now ≡ Some (callees.Import c.in-Some-Import.k)
is_import t c = sym (c.callee.ensures ∙ ap (callee_of (program_tree c.args.names.now)) c.bytes.ensures.bytes) ∙ c.in-Some-Import.is ∙ ap Some c.in-Some-Import.field-0-is

import_there : (t : ℕ) (c : apply-After-program t) (i : Import) → slice_get (program_tree c.program.result.now).imports c.in-Some-Import.k ≡ Some i →
    slice_get (program_tree c.args.names.now).imports c.in-Some-Import.k ≡ Some i
import_there t c i at = ap (λ (x : Program). slice_get (program_tree x).imports c.in-Some-Import.k) (sym c.program.ensures) ∙ at

pub apply-returns-in-Some-Import-clause-types : goal.apply-returns-in-Some-Import-clause-types
apply-returns-in-Some-Import-clause-types t c =
    let d = (goal.at.apply-returns-in-Some-Import-clause-types t c).After-program in
    let p = program_tree c.args.names.now in
    let o = callee_of p c.args.name.now in
    if_ok c.import.result _ _ (λ terms e. e ∙ import_types p c.args.typed.now.types c.args.levels c.in-Some-Import.k c.import_at.result.now o c.args.name.now c.args.at [] [] c.args.made.now.next
    (is_import t d) (import_there t d c.import_at.result.now c.import_at.ensures))
    c.import.ensures.types

pub apply-returns-in-Some-Import-clause-made : goal.apply-returns-in-Some-Import-clause-made
apply-returns-in-Some-Import-clause-made t c =
    let d = (goal.at.apply-returns-in-Some-Import-clause-made t c).After-program in
    let p = program_tree c.args.names.now in
    let tys = c.args.typed.now.types in
    let o = callee_of p c.args.name.now in
    let s = c.args.made.now.next in
    let of = map flow_of c.args.args.items in
    let us = map arg_of c.args.args.items in
    on_ok c.import.result _ _
    (λ adds. adds_as c.args.made.now c.import.new.made _ _ _ _ _ _ adds
    (import_flows p tys c.args.levels c.in-Some-Import.k c.import_at.result.now o c.args.name.now c.args.at of us s (is_import t d) (import_there t d c.import_at.result.now c.import_at.ensures))
    (import_apps p tys c.args.levels c.in-Some-Import.k c.import_at.result.now o c.args.name.now c.args.at of us s (is_import t d) (import_there t d c.import_at.result.now c.import_at.ensures))
    (import_next p tys c.args.levels c.in-Some-Import.k c.import_at.result.now o c.args.name.now c.args.at of us s (is_import t d) (import_there t d c.import_at.result.now c.import_at.ensures)))
    c.import.ensures.made

pub apply-returns-in-Some-Import-clause-limit : goal.apply-returns-in-Some-Import-clause-limit
apply-returns-in-Some-Import-clause-limit t c =
    let d = (goal.at.apply-returns-in-Some-Import-clause-limit t c).After-program in
    let p = program_tree c.args.names.now in
    let o = callee_of p c.args.name.now in
    if_err c.import.result _ _
    (λ x past. subst (λ n. IsPast n x) (import_past p c.args.typed.now.types c.args.levels c.in-Some-Import.k c.import_at.result.now o c.args.name.now c.args.at [] [] c.args.made.now.next
    (is_import t d) (import_there t d c.import_at.result.now c.import_at.ensures)) past)
    c.import.ensures.limit

-- the node that is applied, at a level below
is_node : (t : ℕ) (c : apply-In-Some-Node t) → callee_of (program_tree c.args.names.now) c.args.name.now ≡ Some (callees.Node c.in-Some-Node.k)
is_node t c = sym (c.callee.ensures ∙ ap (callee_of (program_tree c.args.names.now)) c.bytes.ensures.bytes) ∙ c.in-Some-Node.is ∙ ap Some c.in-Some-Node.field-0-is

is_deep : (t : ℕ) (c : apply-In-Some-Node t) → 0 < c.args.levels
is_deep t c = levels_left (program_tree c.args.names.now) c.args.levels c.in-Some-Node.k (c.requires.fits.reach c.in-Some-Node.k (is_node t c))

pub apply-returns-in_ok-sources-in-Some-Node-clause-given : goal.apply-returns-in_ok-sources-in-Some-Node-clause-given
apply-returns-in_ok-sources-in-Some-Node-clause-given t c =
    let d = (goal.at.apply-returns-in_ok-sources-in-Some-Node-clause-given t c).In-Some-Node in
    let p = program_tree c.args.names.now in
    let o = callee_of p c.args.name.now in
    if_ok c.enter.result _ _
    (λ terms e. e ∙ ap (λ s. outputs_of (a_node p (c.args.levels - 1) c.in-Some-Node.k s)) c.take_node-number.ensures.next
    ∙ node_given p c.args.typed.now.types c.args.levels c.in-Some-Node.k o c.args.name.now c.args.at [] [] c.args.made.now.next (is_node t d) (is_deep t d))
    c.enter.ensures.given

pub apply-returns-in_ok-sources-in-Some-Node-clause-made : goal.apply-returns-in_ok-sources-in-Some-Node-clause-made
apply-returns-in_ok-sources-in-Some-Node-clause-made t c =
    let d = (goal.at.apply-returns-in_ok-sources-in-Some-Node-clause-made t c).In-Some-Node in
    let p = program_tree c.args.names.now in
    let tys = c.args.typed.now.types in
    let o = callee_of p c.args.name.now in
    let s = c.args.made.now.next in
    let j = c.in-Some-Node.k in
    let of = map flow_of c.args.args.items in
    let us = map arg_of c.args.args.items in
    let taken = c.take_node-number.ensures.next in
    let label = c.in_ok-label-in-Some-Node.ensures ∙ ap (flats.label_of_node c.args.name.now) c.take_node-number.ensures.node in
    let sources = ap (map def_of) (c.in_ok-sources-in-Some-Node.ensures ∙ ap (map copied) c.as_slice.ensures.value) ∙ copied_are c.args.args.items in
    let flows = ap (λ l. flats.entered_flows p tys l j (map def_of c.in_ok-sources-in-Some-Node.sources.items) (a_node p (c.args.levels - 1) j c.take_node-number.new.next)) label
    ∙ ap (λ ds. flats.entered_flows p tys (flats.label_of_node c.args.name.now s.node) j ds (a_node p (c.args.levels - 1) j c.take_node-number.new.next)) sources
    ∙ ap (λ x. flats.entered_flows p tys (flats.label_of_node c.args.name.now s.node) j (map copy_of of) (a_node p (c.args.levels - 1) j x)) taken
    ∙ node_flows p tys c.args.levels j o c.args.name.now c.args.at of us s (is_node t d) (is_deep t d) in
    let apps = ap (λ x. flats.entered_apps p j (a_node p (c.args.levels - 1) j x)) taken ∙ node_apps p tys c.args.levels j o c.args.name.now c.args.at of us s (is_node t d) (is_deep t d) in
    let numbers = ap (λ x. past_entered x (a_node p (c.args.levels - 1) j x)) taken ∙ node_next p tys c.args.levels j o c.args.name.now c.args.at of us s (is_node t d) (is_deep t d) in
    on_ok c.enter.result _ _ (λ adds. record {
      flows_are = adds.flows_are ∙ ap (λ fs. c.args.made.now.flows.items ++ flows_of fs) flows;
      apps_are = adds.apps_are ∙ ap (λ xs. c.args.made.now.apps.items ++ xs) apps;
      next_is = adds.next_is ∙ numbers;
      few = adds.few;
    }) c.enter.ensures.made

pub apply-returns-in_ok-sources-in-Some-Node-clause-limit : goal.apply-returns-in_ok-sources-in-Some-Node-clause-limit
apply-returns-in_ok-sources-in-Some-Node-clause-limit t c =
    let d = (goal.at.apply-returns-in_ok-sources-in-Some-Node-clause-limit t c).In-Some-Node in
    let p = program_tree c.args.names.now in
    let j = c.in-Some-Node.k in
    let number = ap (λ (x : Next). x.flow + length (notes.flows_in (a_node p (c.args.levels - 1) j x))) c.take_node-number.ensures.next
    ∙ node_past p c.args.typed.now.types c.args.levels j (callee_of p c.args.name.now) c.args.name.now c.args.at [] [] c.args.made.now.next (is_node t d) (is_deep t d) in
    if_err c.enter.result _ _ (λ x past. subst (λ n. IsPast n x) number past) c.enter.ensures.limit

-- what an application is as a tree
root_apply : (t : ℕ) (c : base-In-Apply t) → root_of c.args.base.now ≡ apply c.in-Apply.name c.in-Apply.at (all_trees c.in-Apply.args.items)
root_apply t c = ap root_of c.in-Apply.is ∙ root_of_Apply c.in-Apply.name c.in-Apply.at c.in-Apply.args

-- the node that is entered, and its variables
node_there : (t : ℕ) (c : enter-After-node_at-node t) → slice_get (program_tree c.args.names.now).nodes c.args.k ≡ Some (node_tree c.node_at-node.result.now)
node_there t c = node_found c.args.names.now c.program.result.now c.args.k (node_tree c.node_at-node.result.now) c.program.ensures c.node_at-node.ensures

vars_are : (t : ℕ) (c : enter-After-as_slice-terms t) →
    AreVariables (program_tree c.args.names.now) c.args.typed.now.types c.args.k c.args.made.now.next (node_tree c.node_at-node.result.now) c.as_slice-terms.result.now
vars_are t c = node_variables _ _ c.args.typed.now.types c.args.k _ _ c.as_slice-terms.result.now _ c.as_slice-terms.ensures.value c.in_ok-env.ensures.flows c.in_ok-env.ensures.types c.requires.names

pub enter-returns-in_err-take_variables-clause-limit : goal.enter-returns-in_err-take_variables-clause-limit
enter-returns-in_err-take_variables-clause-limit t c =
    let p = program_tree c.args.names.now in
    let levels = c.args.levels in
    let k = c.args.k in
    let s = c.args.made.now.next in
    let d = node_tree c.node_at-node.result.now in
    let found = node_there t (goal.at.enter-returns-in_err-take_variables-clause-limit t c).After-node_at-node in
    let is : node_at p k ≡ d = ap node_or found in
    let past = variables_past p c.args.typed.now.types levels k s d c.in_err-take_variables.field-0.0 is c.in_err-take_variables.ensures.limit in
    err_and c.from_residual.result _ _ (λ x same. subst (λ y. IsPast (s.flow + length (notes.flows_in (a_node p levels k s))) y) (sym same) past) c.from_residual.ensures.1

pub enter-variables-requires-clause-node : goal.enter-variables-requires-clause-node
enter-variables-requires-clause-node t c =
    let found = node_there t (goal.at.enter-variables-requires-clause-node t c).After-node_at-node in
    subst (λ pr. slice_get (program_tree pr).nodes c.args.k ≡ Some (node_tree c.node_at-node.result.now)) c.requires.names found

pub enter-equations-requires : goal.enter-equations-requires
enter-equations-requires t c =
    let found = node_there t (goal.at.enter-equations-requires t c).After-node_at-node in
    let p = program_tree c.args.names.now in
    let levels = c.args.levels in
    let k = c.args.k in
    let s = c.args.made.now.next in
    let d = node_tree c.node_at-node.result.now in
    let is : node_at p k ≡ d = ap node_or found in
    let vars = vars_are t (goal.at.enter-equations-requires t c).After-as_slice-terms in
    let few = variables_few s c.take_variables.new.next d c.in_ok-take_variables.ensures.next c.in_ok-take_variables.ensures.few (outputs_some p k d c.requires.sound found) c.requires.few in (
      omega (arith, c.decreases),
      (
        record {
          same = c.requires.names;
          sound = c.requires.sound;
          there = (d, found);
          count = vars.many ∙ sym (params_length d) ∙ ap (λ x. length (params_of x)) (sym is);
          types = vars.types_are ∙ ap (have_types p c.args.typed.now.types k) (sym vars.many);
        },
        (
          subst (EquationsFit p levels k) (sym (ap (map equation_tree) c.as_slice-eqs.ensures)) (equations_fit p levels k d c.requires.sound found c.requires.levels),
          few,
        ),
      ),
    )

pub enter-returns-in_err-pairs-clause-limit : goal.enter-returns-in_err-pairs-clause-limit
enter-returns-in_err-pairs-clause-limit t c =
    let found = node_there t (goal.at.enter-returns-in_err-pairs-clause-limit t c).After-node_at-node in
    let p = program_tree c.args.names.now in
    let levels = c.args.levels in
    let k = c.args.k in
    let s = c.args.made.now.next in
    let d = node_tree c.node_at-node.result.now in
    let is : node_at p k ≡ d = ap node_or found in
    let eqs = ap (map equation_tree) c.as_slice-eqs.ensures in
    let here = subst (λ es. IsPast (c.take_variables.new.next.flow + length (notes.right_flows (the_rights p levels es c.take_variables.new.next))) c.in_err-pairs.field-0.0) eqs c.in_err-pairs.ensures.limit in
    let past = equations_past p c.args.typed.now.types levels k s d c.take_variables.new.next c.in_err-pairs.field-0.0 is c.in_ok-take_variables.ensures.next here in
    err_and c.from_residual-in_err-pairs.result _ _ (λ x same. subst (λ y. IsPast (s.flow + length (notes.flows_in (a_node p levels k s))) y) (sym same) past) c.from_residual-in_err-pairs.ensures.1

pub enter-outs_of-requires : goal.enter-outs_of-requires
enter-outs_of-requires t c = omega (arith, (vars_are t (goal.at.enter-outs_of-requires t c).After-as_slice-terms).many)

pub enter-returns-clause-given : goal.enter-returns-clause-given
enter-returns-clause-given t c =
    let p = program_tree c.args.names.now in
    let k = c.args.k in
    let d = node_tree c.node_at-node.result.now in
    let is : node_at p k ≡ d = ap node_or (node_there t (goal.at.enter-returns-clause-given t c).After-node_at-node) in
    let vars = vars_are t (goal.at.enter-returns-clause-given t c).After-as_slice-terms in
    ap (map flow_of) c.in_ok-outs_of.ensures ∙ entered_given p c.args.typed.now.types c.args.levels k c.args.made.now.next c.as_slice-terms.result.now d is vars.numbers

pub enter-returns-clause-types : goal.enter-returns-clause-types
enter-returns-clause-types t c =
    let found = node_there t (goal.at.enter-returns-clause-types t c).After-node_at-node in
    let k = c.args.k in
    let s = c.args.made.now.next in
    let d = node_tree c.node_at-node.result.now in
    let vars = vars_are t (goal.at.enter-returns-clause-types t c).After-as_slice-terms in
    ap types_of c.in_ok-outs_of.ensures ∙ entered_types (program_tree c.args.names.now) c.args.typed.now.types c.args.levels k s c.as_slice-terms.result.now d found vars.types_are

pub enter-returns-clause-made : goal.enter-returns-clause-made
enter-returns-clause-made t c =
    let found = node_there t (goal.at.enter-returns-clause-made t c).After-node_at-node in
    let p = program_tree c.args.names.now in
    let tys = c.args.typed.now.types in
    let levels = c.args.levels in
    let k = c.args.k in
    let s = c.args.made.now.next in
    let d = node_tree c.node_at-node.result.now in
    let is : node_at p k ≡ d = ap node_or found in
    let vars = vars_are t (goal.at.enter-returns-clause-made t c).After-as_slice-terms in
    let terms = c.as_slice-terms.result.now in
    let n = node_at p k in
    let env = map flow_of terms in
    let eqs = ap (map equation_tree) c.as_slice-eqs.ensures in
    let start = c.in_ok-take_variables.ensures.next in
    let adds = c.in_ok-pairs.ensures.made in
    let flows = adds.flows_are ∙ ap (λ xs. xs ++ flows_of (flats.right_flows p tys k n env (map equation_tree c.as_slice-eqs.result.now) (the_rights p levels (map equation_tree c.as_slice-eqs.result.now) c.take_variables.new.next))) c.new.ensures.items
    ∙ ap (λ es. flows_of (flats.right_flows p tys k n env es (the_rights p levels es c.take_variables.new.next))) eqs
    ∙ ap (λ x. flows_of (flats.right_flows p tys k n env d.eqs (the_rights p levels d.eqs x))) start in
    let apps = adds.apps_are ∙ ap (λ xs. xs ++ flats.right_apps p n env (map equation_tree c.as_slice-eqs.result.now) (the_rights p levels (map equation_tree c.as_slice-eqs.result.now) c.take_variables.new.next)) c.new-2.ensures.items
    ∙ ap (λ es. flats.right_apps p n env es (the_rights p levels es c.take_variables.new.next)) eqs
    ∙ ap (λ x. flats.right_apps p n env d.eqs (the_rights p levels d.eqs x)) start in
    let numbers_after = adds.next_is ∙ ap (λ es. past_rights c.take_variables.new.next (the_rights p levels es c.take_variables.new.next)) eqs
    ∙ ap (λ x. past_rights x (the_rights p levels d.eqs x)) start ∙ entered_next p tys levels k s d is in
    let pairs = ap pairs_of c.as_slice.ensures.value ∙ c.in_ok-pairs.ensures.pairs ∙ ap (λ es. equated n env es (the_rights p levels es c.take_variables.new.next)) eqs
    ∙ ap (λ x. equated n env d.eqs (the_rights p levels d.eqs x)) start in
    let defs = ap (λ qs. map def_of c.args.sources.items ++ copies qs (d.outs ++ d.locals)) pairs in
    record {
      flows_are = entered_made p tys levels k s c.args.label.now c.args.made.now.flows.items c.equations.new.made.flows.items c.push_node.new.made.flows.items terms (map def_of c.args.sources.items)
          (map def_of c.args.sources.items ++ copies (pairs_of c.as_slice.result.now) (d.outs ++ d.locals)) d is (record {
            inner_is = flows;
            numbers = vars.numbers;
            types_are = vars.types_are ∙ ap (have_types p tys k) (sym vars.many);
            defs_are = defs;
            all_is = c.in_ok-push_node.ensures.flows;
          });
      apps_are = c.in_ok-push_node.ensures.apps ∙ ap (λ us. c.args.made.now.apps.items ++ us) (entered_apps p tys levels k s c.equations.new.made.apps.items terms d is vars.numbers apps);
      next_is = c.in_ok-push_node.ensures.next ∙ numbers_after;
      few = below_few c.push_node.new.made.next c.equations.new.made.next c.in_ok-push_node.ensures.next adds.few;
    }

pub equations-loop-equation-preserved : goal.equations-loop-equation-preserved
equations-loop-equation-preserved t c =
    let p = program_tree c.args.names.now in
    let rest = drop_equations c.args.eqs.now c.loop-equation.equation-index c.equation-item.result c.loop-equation-test.true c.equation-item.is in
    let longer = c.in_ok-push_pairs.ensures ∙ ap (λ ls. pairs_of c.loop-equation.pairs.items ++ paired ls (map flow_of c.as_slice-in-loop-equation.result.now)) c.as_slice.ensures
    ∙ ap (λ ts. pairs_of c.loop-equation.pairs.items ++ paired c.equation-item.result.lefts (map flow_of ts)) c.as_slice-in-loop-equation.ensures.value in
    rights_step p c.args.typed.now.types c.args.levels c.args.k (map flow_of c.args.env.now) c.loop-equation.pairs.items _ c.in_ok-terms.terms.items c.loop-equation.made c.expression.new.made c.args.made.now
    (equation_tree c.equation-item.result) _ _ (map equation_tree c.args.eqs.now) c.loop-equation.invariant rest longer c.in_ok-terms.ensures.args c.in_ok-terms.ensures.made

pub apply-import_at-requires : goal.apply-import_at-requires
apply-import_at-requires t c =
    subst (λ (x : Program). c.in-Some-Import.k < length x.imports) (sym c.program.ensures) (import_below (program_tree c.args.names.now) c.args.name.now c.in-Some-Import.k
    (is_import t (goal.at.apply-import_at-requires t c).After-program))

pub apply-overflow_sub-levels : goal.apply-overflow_sub-levels
apply-overflow_sub-levels t c =
    let p = program_tree c.args.names.now in
    let is = sym (c.callee.ensures ∙ ap (callee_of p) c.bytes.ensures.bytes) ∙ c.in-Some-Node.is ∙ ap Some c.in-Some-Node.field-0-is in
    omega (arith, levels_left p c.args.levels c.in-Some-Node.k (c.requires.fits.reach c.in-Some-Node.k is))

pub apply-import-requires-clause-some : goal.apply-import-requires-clause-some
apply-import-requires-clause-some t c =
    let p = program_tree c.args.names.now in
    ports_some p c.in-Some-Import.k c.import_at.result.now c.requires.sound (import_there t (goal.at.apply-import-requires-clause-some t c).After-program c.import_at.result.now c.import_at.ensures)

pub apply-enter-requires : goal.apply-enter-requires
apply-enter-requires t c =
    let d = (goal.at.apply-enter-requires t c).In-Some-Node in
    let p = program_tree c.args.names.now in
    let k = c.in-Some-Node.k in
    let below = callee_below p c.args.name.now k (is_node t d) in (
      omega (arith, c.decreases, is_deep t d),
      (
        c.requires.names,
        (
          c.requires.sound,
          (
            below,
            (
              few_nodes p k c.requires.sound below,
              (
                may_apply p c.args.levels (c.args.levels - 1) k (omega (arith, is_deep t d)) (c.requires.fits.reach k (is_node t d)),
                node_few c.args.made.now.next c.take_node-number.new.next c.take_node-number.ensures.next c.requires.few,
              ),
            ),
          ),
        ),
      ),
    )

pub base-variable-requires : goal.base-variable-requires
base-variable-requires t c =
    let p = program_tree c.args.names.now in
    let there = c.requires.inside.there in
    let at = variable_at p c.args.k c.in-Var.name there.0 there.1 (subst (IsKnownRoot p c.args.k) (ap root_of c.in-Var.is) c.requires.fits.known) in
    (at.0, c.param-index.ensures ∙ ap (param_at p c.args.k) c.bytes.ensures.bytes ∙ at.1, omega (arith, at.2, c.requires.inside.count))

pub base-apply-requires : goal.base-apply-requires
base-apply-requires t c =
    let p = program_tree c.args.names.now in
    let fits = subst (RootFits p c.args.levels c.args.k) (root_apply t (goal.at.base-apply-requires t c).In-Apply) c.requires.fits in (
      omega (arith, c.decreases),
      (
        c.requires.inside.same,
        (
          c.requires.inside.sound,
          (call_fits p c.args.levels c.args.k c.in-Apply.name c.in-Apply.at (all_trees c.in-Apply.args.items) fits, c.requires.few),
        ),
      ),
    )

pub base-returns-in_ok-one_term-in-Var-clause-given : goal.base-returns-in_ok-one_term-in-Var-clause-given
base-returns-in_ok-one_term-in-Var-clause-given t c =
    let p = program_tree c.args.names.now in
    let tys = c.args.typed.now.types in
    let w = site c.args.names.now tys c.args.levels c.args.k c.args.env.now in
    let found = c.variable.ensures in
    let is = sym (c.param-index.ensures ∙ ap (param_at p c.args.k) c.bytes.ensures.bytes) ∙ found.1 in
    ap (map flow_of) c.in_ok-one_term-in-Var.ensures ∙ var_given p tys c.args.k c.args.env.now c.in-Var.name found.0 c.variable.result is found.2 c.requires.inside.there
    ∙ ap (λ r. end_given w r (map flow_of c.args.parts.items) c.args.made.now.next) (sym (ap root_of c.in-Var.is))

pub base-returns-in_ok-one_term-in-Var-clause-types : goal.base-returns-in_ok-one_term-in-Var-clause-types
base-returns-in_ok-one_term-in-Var-clause-types t c =
    let p = program_tree c.args.names.now in
    let tys = c.args.typed.now.types in
    let w = site c.args.names.now tys c.args.levels c.args.k c.args.env.now in
    let found = c.variable.ensures in
    let is = sym (c.param-index.ensures ∙ ap (param_at p c.args.k) c.bytes.ensures.bytes) ∙ found.1 in
    ap types_of c.in_ok-one_term-in-Var.ensures ∙ var_types p tys c.args.k c.args.env.now c.in-Var.name found.0 c.variable.result is found.2 c.requires.inside.types
    ∙ ap (λ r. end_types w r (types_of c.args.parts.items)) (sym (ap root_of c.in-Var.is))

pub closed-returns-clause-given : goal.closed-returns-clause-given
closed-returns-clause-given t c =
    let w = site c.args.names.now c.args.typed.now.types c.args.levels c.args.k c.args.env.now in
    let e = c.args.expr.now in
    let base = c.in_ok-of.ensures in
    if_ok_both c.operated.result _ _ _
    (λ terms args kinds. closed_given w e.pre (root_of e.base) e.post e.at c.args.parts.items c.in_ok-of.of.items terms.items c.base.new.made.next c.args.made.now.next args kinds base.made.next_is base.given base.types)
    c.operated.ensures.args c.operated.ensures.types

pub closed-returns-clause-made : goal.closed-returns-clause-made
closed-returns-clause-made t c =
    let w = site c.args.names.now c.args.typed.now.types c.args.levels c.args.k c.args.env.now in
    let e = c.args.expr.now in
    let base = c.in_ok-of.ensures in
    on_ok c.operated.result _ _
    (λ two. closed_made w e.pre (root_of e.base) e.post e.at c.args.made.now c.base.new.made c.operated.new.made c.args.parts.items c.in_ok-of.of.items base.made base.given base.types two)
    c.operated.ensures.made

pub equations-expression-requires : goal.equations-expression-requires
equations-expression-requires t c =
    let i = c.loop-equation.equation-index in
    let found = slice_get_read c.args.eqs.now (length c.args.eqs.now) i c.equation-item.result refl c.loop-equation-test.true c.equation-item.is in (
      omega (arith, c.decreases),
      (
        c.requires.inside,
        (
          right_fits (program_tree c.args.names.now) c.args.levels c.args.k c.args.eqs.now i c.equation-item.result found c.requires.fits,
          c.loop-equation.invariant.few,
        ),
      ),
    )

pub expression-run-requires : goal.expression-run-requires
expression-run-requires t c =
    let p = program_tree c.args.names.now in
    let acts = ap acts_of c.as_slice.ensures.value ∙ c.in_ok-steps.ensures in (
      omega (arith, c.decreases),
      (
        c.requires.inside,
        (
          subst (AllByRecursion (ActFits p c.args.levels c.args.k)) (sym acts) (tree_acts p c.args.levels c.args.k (tree_of c.args.expr.now) c.requires.fits),
          c.requires.few,
        ),
      ),
    )

pub expression-returns-clause-args : goal.expression-returns-clause-args
expression-returns-clause-args t c =
    let w = site c.args.names.now c.args.typed.now.types c.args.levels c.args.k c.args.env.now in
    let st = start nothing [] c.args.made.now.next in
    let end = ap (λ xs. after w xs st) (ap acts_of c.as_slice.ensures.value ∙ c.in_ok-steps.ensures) ∙ whole_after w (tree_of c.args.expr.now) st in
    if_ok c.run.result _ _ (λ terms made. ap (λ (g : Given). g.args) (made.list_is ∙ ap (λ (x : Standing). x.list) end)) c.run.ensures.at

pub expression-returns-clause-made : goal.expression-returns-clause-made
expression-returns-clause-made t c =
    let w = site c.args.names.now c.args.typed.now.types c.args.levels c.args.k c.args.env.now in
    let st = start nothing [] c.args.made.now.next in
    let end = ap (λ xs. after w xs st) (ap acts_of c.as_slice.ensures.value ∙ c.in_ok-steps.ensures) ∙ whole_after w (tree_of c.args.expr.now) st in
    ok_on c.run.result _ _ (λ terms made. subst (λ (x : Standing). Adds c.args.made.now c.run.new.made x.flows x.apps x.next) end made.made) c.run.ensures.at

pub expression-returns-clause-limit : goal.expression-returns-clause-limit
expression-returns-clause-limit t c =
    let w = site c.args.names.now c.args.typed.now.types c.args.levels c.args.k c.args.env.now in
    let st = start nothing [] c.args.made.now.next in
    let end = ap (λ xs. after w xs st) (ap acts_of c.as_slice.ensures.value ∙ c.in_ok-steps.ensures) ∙ whole_after w (tree_of c.args.expr.now) st in
    if_err c.run.result _ _ (λ e past. subst (λ (x : Standing). IsPast x.next.flow e) end past) c.run.ensures.limit

pub run-advance-requires : goal.run-advance-requires
run-advance-requires t c =
    let steps = c.args.steps.now in
    let found = slice_get_read steps (length steps) c.loop-step.step-index c.step-item.result refl c.loop-step-test.true c.step-item.is in (
      omega (arith, c.decreases),
      (
        c.requires.inside,
        (
          act_fits (program_tree c.args.names.now) c.args.levels c.args.k steps c.loop-step.step-index c.step-item.result found c.requires.fits,
          c.loop-step.invariant.made.few,
        ),
      ),
    )

pub run-loop-step-preserved : goal.run-loop-step-preserved
run-loop-step-preserved t c =
    let w = site c.args.names.now c.args.typed.now.types c.args.levels c.args.k c.args.env.now in
    let st = start nothing [] c.args.made.now.next in
    let steps = c.args.steps.now in
    let i = c.loop-step.step-index in
    let x = c.step-item.result in
    subst (λ (y : Standing). IsAt c.args.made.now y c.in_ok-list.list.items c.advance.new.around.items c.advance.new.made) (sym (one_more w steps i x c.loop-step-test.true c.step-item.is st))
    (at_next w c.args.made.now c.loop-step.made c.advance.new.made (after w (acts_of (take i steps)) st) (act_of x) c.loop-step.list.items c.in_ok-list.list.items c.loop-step.around.items
    c.advance.new.around.items c.loop-step.invariant c.in_ok-list.ensures.at)

pub run-returns-in_err-list-clause-limit : goal.run-returns-in_err-list-clause-limit
run-returns-in_err-list-clause-limit t c =
    let w = site c.args.names.now c.args.typed.now.types c.args.levels c.args.k c.args.env.now in
    let st = start nothing [] c.args.made.now.next in
    let steps = c.args.steps.now in
    let i = c.loop-step.step-index in
    let x = c.step-item.result in
    let count = (after w (acts_of steps) st).next.flow in
    let past = step_past w (act_of x) (after w (acts_of (take i steps)) st) c.args.made.now c.loop-step.made c.loop-step.list.items c.loop-step.around.items count c.in_err-list.field-0.0
    c.loop-step.invariant (step_within w steps i x c.loop-step-test.true c.step-item.is st) c.in_err-list.ensures.limit in
    err_and c.from_residual.result _ _ (λ e same. subst (IsPast count) (sym same) past) c.from_residual.ensures.1
