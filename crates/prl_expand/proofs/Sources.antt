-- Each output and each local has the flow that an equation gives it, and each equation gives its flows to outputs and locals.
use Rattle.prl_base.proofs.Standard.{◌≡◌, ◌<◌, ◌+◌, ◌-◌, ℕ, zero, suc, true, false, cond, List, [], ◌∷◌, ◌++◌, map, length, Option, Some, None, IsSome, slice_get, refl, sym, ap, ◌∙◌, subst, arith}
use Rattle.prl_base.proofs.Standard.{⊎_elim, filter, AllByRecursion, flat_map, option_map, bytes_eq, bytes_decides, cases_lt, length-map, map-append, slice_get-map, slice_get_within}
use Rattle.std.specs.Option.{is_some}
use Rattle.std.proofs.lemmas.List.{length-append, append_assoc}
use Rattle.prl_ast.specs.Trees.{EquationTree, NodeTree, ProgramTree}
use Rattle.prl_ast.specs.declared.declarations.Param.{Param}
use Rattle.prl_ast.specs.declared.declarations.Placed.{Placed}
use Rattle.prl_flow.proofs.Lists.{element_at, slice_get_append_left}
use Rattle.prl_flow.specs.Rules.{Rule, same, definition_rules}
use Rattle.prl_flow.specs.declared.programs.Def.{Def}
use Rattle.prl_names.specs.Vocabulary.{param_at, param_of, param_names, params_of, index_of, index_from, placed_param, AreApart, AreKnownLefts, AreKnownEquations, AllAreAmong, placed_names, is_among}
use Rattle.prl_names.specs.Vocabulary.{is_flow, lefts_of, definition_space, left_names}
use Rattle.prl_names.proofs.Marking.{index_found}
use Rattle.prl_types.specs.Vocabulary.{equations_faults, equation_faults, faults_in, unless_equal, flows_of}
use Rattle.prl_causal.specs.Vocabulary.{Rights, done, next, one, at_index, at_variable, at_lefts, all_same, given, AreRights}
use Rattle.prl_expand.specs.Flats.{copies, equated, paired, source_of}
use Rattle.prl_expand.proofs.Lists.{at_place, some_inner, all_both, all_first, all_second, no_first, no_second, equal_unless}
use Rattle.prl_expand.proofs.Sound.{IsRightNode, given_length, param_known, variable_length}

abbrev Source : Type 0
Source = List ℕ × ℕ

abbrev pub names_of : List Source → List (List ℕ)
names_of ss = map (λ (s : Source). s.0) ss

-- what stands at an index of a mapped list
pub mapped_from : {A B : Type 0} (f : A → B) (xs : List A) (t : ℕ) (y : B) → slice_get (map f xs) t ≡ Some y → (x : A) × (slice_get xs t ≡ Some x) × (f x ≡ y)
mapped_from f [] t y e = absurd (cc)
mapped_from f (x ∷ xs) zero y e = (x, refl, some_inner (f x) y e)
mapped_from f (x ∷ xs) (suc t) y e = mapped_from f xs t y e

-- the second of two lists
pub get_second : {A : Type 0} (xs ys : List A) (t : ℕ) → slice_get (xs ++ ys) (length xs + t) ≡ slice_get ys t
get_second [] ys t = ap (slice_get ys) (omega arith)
get_second (x ∷ xs) ys t =
    let e : suc (length xs) + t ≡ suc (length xs + t) = omega arith in
    ap (slice_get (x ∷ xs ++ ys)) e ∙ get_second xs ys t

pub index_some : (k : ℕ) (ns : List (List ℕ)) (j : ℕ) (name : List ℕ) → slice_get ns j ≡ Some name → (i : ℕ) × (index_from k ns name ≡ Some i)
index_some k [] j name e = absurd (cc)
index_some k (x ∷ xs) zero name e =
    let at : bytes_eq x name ≡ true = (bytes_decides x name).1 (some_inner x name e) in
    (k, ap (λ b. cond b (Some k) (index_from (k + 1) xs name)) at)
index_some k (x ∷ xs) (suc j) name e =
    elim (bytes_eq x name) as (λ b. (i : ℕ) × (cond b (Some k) (index_from (k + 1) xs name) ≡ Some i)) [
      | true ↦ (k, refl)
      | false ↦ index_some (k + 1) xs j name e
    ]

-- the variable at an index is found there by its name
pub index_is : (ns : List (List ℕ)) (j : ℕ) (name : List ℕ) → AreApart ns → slice_get ns j ≡ Some name → index_of ns name ≡ Some j
index_is ns j name apart e =
    let i = index_some 0 ns j name e in
    i.1 ∙ ap Some (apart i.0 j name (index_found ns name i.0 i.1) e)

pub variable_is : (n : NodeTree) (env : List ℕ) (j i : ℕ) (q : Param) → AreApart (param_names n) → slice_get (params_of n) j ≡ Some q → slice_get env j ≡ Some i
    → at_variable n env q.name ≡ i ∷ []
variable_is n env j i q apart found at =
    let there : slice_get (param_names n) j ≡ Some q.name = slice_get-map (λ (x : Param). x.name) (params_of n) j ∙ ap (option_map (λ (x : Param). x.name)) found in
    ap (at_index env) (index_is (param_names n) j q.name apart there) ∙ ap one at

-- the rules of the flows that are given to names
abbrev pub pair_rules : NodeTree → List ℕ → List Source → List (Rule ℕ ℕ)
pair_rules n env [] = []
pair_rules n env (s ∷ ss) = all_same (at_variable n env s.0) (s.1 ∷ []) ++ pair_rules n env ss

-- the rules of definitions of flows
abbrev pub definitions_rules : List ℕ → List Def → List (Rule ℕ ℕ)
definitions_rules [] ds = []
definitions_rules (i ∷ is) [] = []
definitions_rules (i ∷ is) (d ∷ ds) = definition_rules i d ++ definitions_rules is ds

-- the rules of left names
abbrev pub left_rules : NodeTree → List ℕ → List EquationTree → Rights ℕ ℕ ℕ → List (Rule ℕ ℕ)
left_rules n env es done = []
left_rules n env [] (next q rest) = []
left_rules n env (e ∷ es) (next q rest) = all_same (at_lefts n env e.lefts) (given n env e.right q) ++ left_rules n env es rest

the_one : {A : Type 0} (xs : List A) → length xs ≡ 1 → (x : A) × (xs ≡ x ∷ [])
the_one [] e = absurd (omega (arith, e))
the_one (x ∷ []) e = (x, refl)
the_one (x ∷ y ∷ rest) e = absurd (omega (arith, e))

module _ (p : ProgramTree) (k : ℕ) (n : NodeTree) (env : List ℕ) (found : slice_get p.nodes k ≡ Some n) (count : length env ≡ length (params_of n)) where
  pair_is : (l : Placed) (ls : List Placed) (g : ℕ) (gs : List ℕ) (x : ℕ) → at_variable n env l.name ≡ x ∷ [] → all_same (at_lefts n env ls) gs ≡ pair_rules n env (paired ls gs)
      → all_same {R = ℕ} (at_variable n env l.name ++ at_lefts n env ls) (g ∷ gs) ≡ all_same (at_variable n env l.name) (g ∷ []) ++ pair_rules n env (paired ls gs)
  pair_is l ls g gs x e rest = rw e (ap (λ r. same x g ∷ r) rest)

  pairs_are : (ls : List Placed) (gs : List ℕ) → AreKnownLefts p k ls → all_same (at_lefts n env ls) gs ≡ pair_rules n env (paired ls gs)
  pairs_are [] gs known = refl
  pairs_are (l ∷ ls) [] known =
      ap (λ v. all_same (v ++ at_lefts n env ls) []) (the_one (at_variable n env l.name) (variable_length p k n env l.name found count known.0)).1
  pairs_are (l ∷ ls) (g ∷ gs) known =
      let x = the_one (at_variable n env l.name) (variable_length p k n env l.name found count known.0) in
      pair_is l ls g gs x.0 x.1 (pairs_are ls gs known.1)

  pair_rules_append : (ss ts : List Source) → pair_rules n env (ss ++ ts) ≡ pair_rules n env ss ++ pair_rules n env ts
  pair_rules_append [] ts = refl
  pair_rules_append (s ∷ ss) ts =
      ap (λ r. all_same (at_variable n env s.0) (s.1 ∷ []) ++ r) (pair_rules_append ss ts)
      ∙ sym (append_assoc (all_same (at_variable n env s.0) (s.1 ∷ [])) (pair_rules n env ss) (pair_rules n env ts))

  pub lefts_are : (es : List EquationTree) (qs : Rights ℕ ℕ ℕ) → AreKnownEquations p k es → left_rules n env es qs ≡ pair_rules n env (equated n env es qs)
  lefts_are es done known = refl
  lefts_are [] (next q rest) known = refl
  lefts_are (e ∷ es) (next q rest) known =
      rw (pairs_are e.lefts (given n env e.right q) known.0, lefts_are es rest known.2)
      (sym (pair_rules_append (paired e.lefts (given n env e.right q)) (equated n env es rest)))

  paired_names : (ls : List Placed) (gs : List ℕ) → length gs ≡ length ls → names_of (paired ls gs) ≡ placed_names ls
  paired_names [] gs e = refl
  paired_names (l ∷ ls) [] e = absurd (omega (arith, e))
  paired_names (l ∷ ls) (g ∷ gs) e = ap (λ ns. l.name ∷ ns) (paired_names ls gs (omega (arith, e)))

  pub equated_names : (es : List EquationTree) (qs : Rights ℕ ℕ ℕ) → AreRights p es qs → AreKnownEquations p k es → equations_faults p k es ≡ []
      → names_of (equated n env es qs) ≡ placed_names (flat_map (λ (e : EquationTree). e.lefts) es)
  equated_names [] done text known arity = refl
  equated_names [] (next q rest) text known arity = absurd text
  equated_names (e ∷ es) done text known arity = absurd text
  equated_names (e ∷ es) (next q rest) text known arity =
      let here : equation_faults p k e ≡ [] = no_first (equation_faults p k e) (equations_faults p k es) arity in
      let sides : length (flows_of p k e.right) ≡ length e.lefts =
      equal_unless (length (flows_of p k e.right)) (length e.lefts) e.at.at (no_first (unless_equal (length (flows_of p k e.right)) (length e.lefts) e.at.at) (faults_in p k e.right) here) in
      let gives : length (given n env e.right q) ≡ length e.lefts = given_length p k n env found count e.right q text.0 known.1 ∙ sides in
      let later = equated_names es rest text.1 known.2 (no_second (equation_faults p k e) (equations_faults p k es) arity) in
      map-append (λ (s : Source). s.0) (paired e.lefts (given n env e.right q)) (equated n env es rest)
      ∙ rw (paired_names e.lefts (given n env e.right q) gives, later)
      (sym (map-append (λ (l : Placed). l.name) e.lefts (flat_map (λ (x : EquationTree). x.lefts) es)))

-- the flow of a name is the one that stands beside it
source_is : (ss : List Source) (t : ℕ) (s : Source) → AreApart (names_of ss) → slice_get ss t ≡ Some s → source_of ss s.0 ≡ s.1
source_is [] t s apart e = absurd (cc)
source_is (x ∷ xs) zero s apart e =
    let is : x ≡ s = some_inner x s e in
    let at : bytes_eq x.0 s.0 ≡ true = (bytes_decides x.0 s.0).1 (ap (λ (y : Source). y.0) is) in
    ap (λ b. cond b x.1 (source_of xs s.0)) at ∙ ap (λ (y : Source). y.1) is
source_is (x ∷ xs) (suc t) s apart e =
    elim (bytes_eq x.0 s.0) as (λ b. bytes_eq x.0 s.0 ≡ b → cond b x.1 (source_of xs s.0) ≡ s.1) [
      | true ↦ λ f.
          (let name : x.0 ≡ s.0 = (bytes_decides x.0 s.0).0 f in
          absurd (omega (arith, apart 0 (suc t) s.0 (ap Some name) (slice_get-map (λ (y : Source). y.0) xs t ∙ ap (option_map (λ (y : Source). y.0)) e))))
      | false ↦ λ f. source_is xs t s (λ i j m a b. omega (arith, apart (suc i) (suc j) m a b)) e
    ] refl

module _ (P : Rule ℕ ℕ → Type 0) (n : NodeTree) (env : List ℕ) where
  abbrev All : List (Rule ℕ ℕ) → Type 0
  All rules = AllByRecursion P rules

  the_same : (name : List ℕ) (i g : ℕ) → at_variable n env name ≡ i ∷ [] → All (all_same (at_variable n env name) (g ∷ [])) → P (same i g)
  the_same name i g e h = (subst (λ (v : List ℕ). All (all_same v (g ∷ []))) e h).0

  same_all : (name : List ℕ) (i g : ℕ) → at_variable n env name ≡ i ∷ [] → P (same i g) → All (all_same (at_variable n env name) (g ∷ []))
  same_all name i g e h = subst (λ (v : List ℕ). All (all_same v (g ∷ []))) (sym e) (h, tt)

  -- the rule of a name that is given a flow
  source_rule : (ss : List Source) (t : ℕ) (name : List ℕ) (s : Source) (i : ℕ) → at_variable n env name ≡ i ∷ [] → slice_get ss t ≡ Some s → s.0 ≡ name
      → All (pair_rules n env ss) → P (same i (source_of ss name))
  source_rule [] t name s i e found is h = absurd (cc)
  source_rule (x ∷ xs) zero name s i e found is h =
      let here : x.0 ≡ name = ap (λ (y : Source). y.0) (some_inner x s found) ∙ is in
      let first : All (all_same (at_variable n env x.0) (x.1 ∷ [])) = all_first P (all_same (at_variable n env x.0) (x.1 ∷ [])) (pair_rules n env xs) h in
      let taken : cond (bytes_eq x.0 name) x.1 (source_of xs name) ≡ x.1 = ap (λ b. cond b x.1 (source_of xs name)) ((bytes_decides x.0 name).1 here) in
      subst (λ g. P (same i g)) (sym taken) (the_same x.0 i x.1 (ap (at_variable n env) here ∙ e) first)
  source_rule (x ∷ xs) (suc t) name s i e found is h =
      elim (bytes_eq x.0 name) as (λ b. bytes_eq x.0 name ≡ b → P (same i (cond b x.1 (source_of xs name)))) [
        | true ↦ λ f.
            (let at : x.0 ≡ name = (bytes_decides x.0 name).0 f in
            the_same x.0 i x.1 (ap (at_variable n env) at ∙ e) (all_first P (all_same (at_variable n env x.0) (x.1 ∷ [])) (pair_rules n env xs) h))
        | false ↦ λ f. (source_rule xs t name s i e found is (all_second P (all_same (at_variable n env x.0) (x.1 ∷ [])) (pair_rules n env xs) h))
      ] refl

  -- from the rules of pairs to those of outputs and locals
  copies_from : (ss : List Source) → AreApart (param_names n) → All (pair_rules n env ss) → (qs : List Param) (is : List ℕ) (base : ℕ)
      → ((t : ℕ) (q : Param) → slice_get qs t ≡ Some q → slice_get (params_of n) (base + t) ≡ Some q)
      → ((t : ℕ) (i : ℕ) → slice_get is t ≡ Some i → slice_get env (base + t) ≡ Some i)
      → AllAreAmong (names_of ss) qs → All (definitions_rules is (copies ss qs))
  copies_from ss apart h qs [] base params numbers among = tt
  copies_from ss apart h [] (i ∷ is) base params numbers among = tt
  copies_from ss apart h (q ∷ qs) (i ∷ is) base params numbers among =
      let var : at_variable n env q.name ≡ i ∷ [] = variable_is n env (base + 0) i q apart (params 0 q refl) (numbers 0 i refl) in
      let place = place_of (names_of ss) q.name among.0 in
      let s = mapped_from (λ (y : Source). y.0) ss place.0 q.name place.1 in
      let next : (t : ℕ) → base + suc t ≡ (base + 1) + t = λ t. omega arith in (
        source_rule ss place.0 q.name s.0 i var s.1 s.2 h,
        copies_from ss apart h qs is (base + 1) (λ t x e. subst (λ j. slice_get (params_of n) j ≡ Some x) (next t) (params (suc t) x e))
            (λ t x e. subst (λ j. slice_get env j ≡ Some x) (next t) (numbers (suc t) x e)) among.1,
      )
    where
      place_of : (ns : List (List ℕ)) (name : List ℕ) → is_among ns name ≡ true → (t : ℕ) × (slice_get ns t ≡ Some name)
      place_of ns name e =
          elim (index_of ns name) as (λ o. index_of ns name ≡ o → is_some o ≡ true → (t : ℕ) × (slice_get ns t ≡ Some name)) [
            | Some t ↦ λ f g. (t, index_found ns name t f)
            | None ↦ λ f g. absurd (cc)
          ] refl e

  -- the rule of an output or a local
  definition_at : (ss : List Source) (qs : List Param) (is : List ℕ) (t : ℕ) (q : Param) (i : ℕ) → slice_get qs t ≡ Some q → slice_get is t ≡ Some i
      → All (definitions_rules is (copies ss qs)) → P (same i (source_of ss q.name))
  definition_at ss [] is t q i e f h = absurd (cc)
  definition_at ss (x ∷ qs) [] t q i e f h = absurd (cc)
  definition_at ss (x ∷ qs) (y ∷ is) zero q i e f h =
      subst (λ (z : Param). P (same i (source_of ss z.name))) (some_inner x q e) (subst (λ j. P (same j (source_of ss x.name))) (some_inner y i f) h.0)
  definition_at ss (x ∷ qs) (y ∷ is) (suc t) q i e f h = definition_at ss qs is t q i e f h.1

  -- the rules of pairs, one by one
  pairs_from : (ss : List Source) → ((t : ℕ) (s : Source) → slice_get ss t ≡ Some s → All (all_same (at_variable n env s.0) (s.1 ∷ []))) → All (pair_rules n env ss)
  pairs_from [] each = tt
  pairs_from (s ∷ ss) each = all_both P (all_same (at_variable n env s.0) (s.1 ∷ [])) (pair_rules n env ss) (each 0 s refl) (pairs_from ss (λ t x e. each (suc t) x e))

left_known : (p : ProgramTree) (k : ℕ) (ls : List Placed) → AreKnownLefts p k ls → AllByRecursion (λ (l : Placed). IsSome (param_at p k l.name)) ls
left_known p k [] h = tt
left_known p k (l ∷ ls) h = (h.0, left_known p k ls h.1)

all_known : (p : ProgramTree) (k : ℕ) (es : List EquationTree) → AreKnownEquations p k es
    → AllByRecursion (λ (l : Placed). IsSome (param_at p k l.name)) (flat_map (λ (e : EquationTree). e.lefts) es)
all_known p k [] h = tt
all_known p k (e ∷ es) h =
    all_both (λ (l : Placed). IsSome (param_at p k l.name)) e.lefts (flat_map (λ (x : EquationTree). x.lefts) es) (left_known p k e.lefts h.0) (all_known p k es h.2)

some_true : (o : Option ℕ) → IsSome o → is_some o ≡ true
some_true None h = absurd (cc)
some_true (Some x) h = refl

-- left names are all flows
all_flows_kept : (n : NodeTree) (ls : List Placed) → AllByRecursion (λ (l : Placed). is_flow n l ≡ true) ls → filter (is_flow n) ls ≡ ls
all_flows_kept n [] h = refl
all_flows_kept n (l ∷ ls) h = ap (λ b. cond b (l ∷ filter (is_flow n) ls) (filter (is_flow n) ls)) h.0 ∙ ap (λ r. l ∷ r) (all_flows_kept n ls h.1)

each_of : {A : Type 0} (P Q : A → Type 0) → ((x : A) → P x → Q x) → (xs : List A) → AllByRecursion P xs → AllByRecursion Q xs
each_of P Q f [] h = tt
each_of P Q f (x ∷ xs) h = (f x h.0, each_of P Q f xs h.1)

module _ (P : Rule ℕ ℕ → Type 0) (p : ProgramTree) (k : ℕ) (n : NodeTree) (right : IsRightNode p k n) (ins rest env : List ℕ) (is_env : env ≡ ins ++ rest)
    (ins_count : length ins ≡ length n.ins) (rest_count : length rest ≡ length (n.outs ++ n.locals)) (rights : Rights ℕ ℕ ℕ) (text : AreRights p n.eqs rights) where
  abbrev sources : List Source
  sources = equated n env n.eqs rights

  abbrev others : List Param
  others = n.outs ++ n.locals

  count_is : length env ≡ length (params_of n)
  count_is =
      ap length is_env
      ∙ omega (arith, ins_count, rest_count, length-append ins rest, length-append (n.ins ++ n.outs) n.locals, length-append n.ins n.outs, length-append n.outs n.locals)

  params_are : params_of n ≡ n.ins ++ others
  params_are = append_assoc n.ins n.outs n.locals

  names_are : names_of sources ≡ left_names n
  names_are = equated_names p k n env right.found count_is n.eqs rights text right.named.known right.arity

  lefts_known : AllByRecursion (λ (l : Placed). IsSome (param_of n l.name)) (lefts_of n)
  lefts_known = each_of (λ (l : Placed). IsSome (param_at p k l.name)) (λ (l : Placed). IsSome (param_of n l.name))
      (λ l h. subst (λ (o : Option ℕ). IsSome o) (param_known p k n l.name right.found) h) (lefts_of n) (all_known p k n.eqs right.named.known)

  kept : filter (is_flow n) (lefts_of n) ≡ lefts_of n
  kept = all_flows_kept n (lefts_of n) (each_of (λ (l : Placed). IsSome (param_of n l.name)) (λ (l : Placed). is_flow n l ≡ true) (λ l h. some_true (param_of n l.name) h) (lefts_of n) lefts_known)

  definitions_are : placed_names (definition_space n) ≡ placed_names (map placed_param n.ins) ++ left_names n
  definitions_are =
      ap (λ (ls : List Placed). placed_names (map placed_param n.ins ++ ls)) kept
      ∙ map-append (λ (l : Placed). l.name) (map placed_param n.ins) (lefts_of n)

  all_apart : AreApart (placed_names (map placed_param n.ins) ++ left_names n)
  all_apart = subst AreApart definitions_are right.named.definitions_apart

  inputs_count : length (placed_names (map placed_param n.ins)) ≡ length n.ins
  inputs_count = length-map (map placed_param n.ins) (λ (l : Placed). l.name) ∙ length-map n.ins placed_param

  left_place : (t : ℕ) (name : List ℕ) → slice_get (left_names n) t ≡ Some name → slice_get (placed_names (map placed_param n.ins) ++ left_names n) (length n.ins + t) ≡ Some name
  left_place t name e =
      subst (λ m. slice_get (placed_names (map placed_param n.ins) ++ left_names n) (m + t) ≡ Some name) inputs_count
      (get_second (placed_names (map placed_param n.ins)) (left_names n) t ∙ e)

  sources_apart : AreApart (names_of sources)
  sources_apart = λ i j name a b.
      let second = left_place j name (ap (λ (ns : List (List ℕ)). slice_get ns j) (sym names_are) ∙ b) in
      omega (arith, all_apart (length n.ins + i) (length n.ins + j) name (left_place i name (ap (λ (ns : List (List ℕ)). slice_get ns i) (sym names_are) ∙ a)) second)

  -- a left name is no input
  no_input : (t j : ℕ) (name : List ℕ) → slice_get (left_names n) t ≡ Some name → (q : Param) → slice_get n.ins j ≡ Some q → q.name ≡ name → ⊥
  no_input t j name e q found is =
      let there : slice_get (map placed_param n.ins) j ≡ Some (placed_param q) = slice_get-map placed_param n.ins j ∙ ap (option_map placed_param) found in
      let named : slice_get (placed_names (map placed_param n.ins)) j ≡ Some q.name =
      slice_get-map (λ (l : Placed). l.name) (map placed_param n.ins) j ∙ ap (option_map (λ (l : Placed). l.name)) there in
      let small : j < length n.ins = slice_get_within n.ins j q found in
      let at : slice_get (placed_names (map placed_param n.ins) ++ left_names n) j ≡ Some name =
      slice_get_append_left (placed_names (map placed_param n.ins)) (left_names n) j (omega (arith, small, inputs_count)) ∙ named ∙ ap Some is in
      omega (arith, all_apart j (length n.ins + t) name at (left_place t name e), small)

  pub lefts_from : AllByRecursion P (left_rules n env n.eqs rights) → AllByRecursion P (definitions_rules rest (copies sources others))
  lefts_from h =
      copies_from P n env sources right.named.params_apart (subst (λ rs. AllByRecursion P rs) (lefts_are p k n env right.found count_is n.eqs rights right.named.known) h)
      others rest (length n.ins)
      (λ t q e. ap (λ (qs : List Param). slice_get qs (length n.ins + t)) params_are ∙ get_second n.ins others t ∙ e)
      (λ t i e. subst (λ m. slice_get env (m + t) ≡ Some i) ins_count (ap (λ (is : List ℕ). slice_get is (length ins + t)) is_env ∙ get_second ins rest t ∙ e))
      (subst (λ (ns : List (List ℕ)). AllAreAmong ns others) (sym names_are) right.named.defined)

  pair_to : AllByRecursion P (definitions_rules rest (copies sources others)) → (t : ℕ) (s : Source) → slice_get sources t ≡ Some s
      → AllByRecursion P (all_same (at_variable n env s.0) (s.1 ∷ []))
  pair_to h t s e =
      let there : slice_get (names_of sources) t ≡ Some s.0 = slice_get-map (λ (y : Source). y.0) sources t ∙ ap (option_map (λ (y : Source). y.0)) e in
      let left : slice_get (left_names n) t ≡ Some s.0 = ap (λ (ns : List (List ℕ)). slice_get ns t) (sym names_are) ∙ there in
      let l = mapped_from (λ (y : Placed). y.name) (lefts_of n) t s.0 left in
      let known : IsSome (param_of n s.0) = subst (λ (name : List ℕ). IsSome (param_of n name)) l.2 (at_place (λ (y : Placed). IsSome (param_of n y.name)) (lefts_of n) t l.0 lefts_known l.1) in
      at_param left (param_of n s.0) known refl
    where
      at_index_of : slice_get (left_names n) t ≡ Some s.0 → (j : ℕ) → param_of n s.0 ≡ Some j → AllByRecursion P (all_same (at_variable n env s.0) (s.1 ∷ []))
      at_index_of left j is =
          let named : slice_get (param_names n) j ≡ Some s.0 = index_found (param_names n) s.0 j is in
          let q = mapped_from (λ (x : Param). x.name) (params_of n) j s.0 named in
          let both : slice_get (n.ins ++ others) j ≡ Some q.0 = ap (λ (qs : List Param). slice_get qs j) (sym params_are) ∙ q.1 in
          ⊎_elim
          (λ small. absurd (no_input t j s.0 left q.0 (sym (slice_get_append_left n.ins others j small) ∙ both) q.2))
          (λ large.
          let at : length n.ins + (j - length n.ins) ≡ j = omega (arith, large) in
          let found : slice_get others (j - length n.ins) ≡ Some q.0 = sym (get_second n.ins others (j - length n.ins)) ∙ ap (slice_get (n.ins ++ others)) at ∙ both in
          let i = element_at rest (j - length n.ins) (omega (arith, slice_get_within others (j - length n.ins) q.0 found, rest_count)) in
          let number : slice_get env j ≡ Some i.0 =
          ap (λ (is : List ℕ). slice_get is j) is_env ∙ ap (slice_get (ins ++ rest)) (sym (ap (λ m. m + (j - length n.ins)) ins_count ∙ at)) ∙ get_second ins rest (j - length n.ins) ∙ i.1 in
          let var : at_variable n env s.0 ≡ i.0 ∷ [] = ap (at_index env) is ∙ ap one number in
          let rule : P (same i.0 (source_of sources q.0.name)) = definition_at P n env sources others rest (j - length n.ins) q.0 i.0 found i.1 h in
          let gives : source_of sources q.0.name ≡ s.1 = ap (source_of sources) q.2 ∙ source_is sources t s sources_apart e in
          same_all P n env s.0 i.0 s.1 var (subst (λ g. P (same i.0 g)) gives rule))
          (cases_lt j (length n.ins))

      at_param : slice_get (left_names n) t ≡ Some s.0 → (o : Option ℕ) → IsSome o → param_of n s.0 ≡ o → AllByRecursion P (all_same (at_variable n env s.0) (s.1 ∷ []))
      at_param left None known is = absurd (cc)
      at_param left (Some j) known is = at_index_of left j is

  pub lefts_to : AllByRecursion P (definitions_rules rest (copies sources others)) → AllByRecursion P (left_rules n env n.eqs rights)
  lefts_to h =
      subst (λ rs. AllByRecursion P rs) (sym (lefts_are p k n env right.found count_is n.eqs rights right.named.known))
      (pairs_from P n env sources (pair_to h))
