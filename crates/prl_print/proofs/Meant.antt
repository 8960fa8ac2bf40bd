-- What holds of the trees of programs.
use Rattle.prl_base.proofs.Standard.{◌≡◌, ◌≤◌, ◌+◌, ℕ, zero, suc, false, true, List, [], ◌∷◌, map, length, Option, Some, None, refl, sym, subst, arith, length-append, append-nil, length-map, ints}
use Rattle.prl_base.proofs.Standard.{AllByRecursion}
use Rattle.prl_base.specs.Values.{FitsValue}
use Rattle.prl_ast.specs.Vocabulary.{IsCount, IsShift, IsRate, IsDue, IfThere, IsInRange, IsParamInRange, IsPrefix, IsPostfix, IsRootInRange, IsEquationInRange, Tree, Root, group, Trees, ProgramTree}
use Rattle.prl_ast.specs.declared.declarations.Placed.{Placed}
use Rattle.prl_lex.specs.Vocabulary.{Lexeme, lexemes_of, inner, within, nested}
use Rattle.prl_syntax.specs.Vocabulary.{class_of, program_vocabulary, StemTree, joined, param_of, note_or, first_note, params_of, port_of, root_of_name, trees_from, Declared, with_declared}
use Rattle.prl_syntax.specs.Vocabulary.{program_of, Grammar, Const, Ratio, Postfix, Expr, Exprs, Base, Prefix, AfterConst, Stem, programs, Name, Names, Left, Equation, TypeName, Rate, Due}
use Rattle.prl_syntax.specs.Vocabulary.{Note as NoteText, Item as ItemText, Run, Params, EndedRun, Locals, PortGroup, NextGroup, Ports, Wcet, Import, Device, Node, Declaration, Program, IsProgramOf}
use Rattle.prl_syntax.specs.declared.words.Fixed.{Fixed}
use Rattle.prl_syntax.specs.declared.parameters.Note.{Note}
use Rattle.prl_syntax.specs.declared.parameters.Item.{Item}
use Rattle.prl_print.proofs.Fractions.{is_shift}
use Rattle.prl_print.proofs.Own.{IsOwnName, IsOwnPlaced, IsOwnPort, IsOwnParam, IsOwnImport, IsOwnDevice, all_of, IsFreeRoot, IsOwnTree, AreOwnTrees, IsOwnEquation, IsOwnNode, AreOwn}
use Rattle.prl_print.proofs.Source.{deeper, Fine, fine, Sure, Any, Counting, s_action, s_both, s_either, s_give, s_many, s_placed, s_deep, s_at, s_place, s_close, s_named, s_number, s_count, s_second, s_first, s_maybe, s_list, s_parens, s_perhaps}
use Rattle.prl_base.specs.declared.operators.Op.TheVariants as ops
use Rattle.prl_syntax.specs.declared.words.Fixed.TheVariants as fixed

abbrev pub IsSome : {X : Type 0} → List X → Type 0
IsSome xs = 1 ≤ length xs

abbrev AreSome : {X : Type 0} → (X → Type 0) → List X → Type 0
AreSome P xs = AllByRecursion P xs × IsSome xs

-- what holds of lists holds of them joined
all_joined : {X : Type 0} (P : X → Type 0) (xs : List X) (xss : List (List X)) → AllByRecursion P xs → AllByRecursion (AreSome P) xss → AllByRecursion P (joined (xs ∷ xss))
all_joined P (x ∷ xs) xss h g = (h.0, all_joined P xs xss h.1 g)
all_joined P [] (ys ∷ yss) h g = all_joined P ys yss g.0.0 g.1
all_joined P [] [] h g = tt

some_joined : {X : Type 0} (P : X → Type 0) (xs : List X) (xss : List (List X)) → AreSome P xs → AllByRecursion (AreSome P) xss → AreSome P (joined (xs ∷ xss))
some_joined P xs xss h g = (all_joined P xs xss h.0 g, omega (arith, length-append xs (joined xss), h.1))

abbrev IsOwnNote : Note → Type 0
IsOwnNote note = IfThere IsRate note.rate × IfThere IsDue note.due

abbrev IsOwnItem : Item → Type 0
IsOwnItem i = IsOwnName i.name.name × IfThere IsOwnNote i.note

own_param : (n : Placed) (a b : Option Note) → IsOwnName n.name → IfThere IsOwnNote a → IfThere IsOwnNote b → IsOwnParam (param_of n (note_or a b)) × IfThere IsOwnNote (note_or a b)
own_param n (Some a) b e h g = ((record { name = e.0; rate = h.0; due = h.1 }, e), h)
own_param n None (Some b) e h g = ((record { name = e.0; rate = g.0; due = g.1 }, e), g)
own_param n None None e h g = ((record { name = e.0; rate = tt; due = tt }, e), tt)

own_params : (items : List Item) → AllByRecursion IsOwnItem items → AllByRecursion IsOwnParam (params_of items) × IfThere IsOwnNote (first_note items None)
own_params [] h = (tt, tt)
own_params (i ∷ items) h = let later = own_params items h.1 in let one = own_param i.name i.note (first_note items None) h.0.0 h.0.1 later.1 in ((one.0, later.0), one.1)

own_ports : (ty : _) (ns : List Placed) → AllByRecursion IsOwnPlaced ns → AllByRecursion IsOwnPort (map (port_of ty) ns)
own_ports ty [] h = tt
own_ports ty (n ∷ ns) h = (h.0, own_ports ty ns h.1)

abbrev IsOwnRoot : ℕ → Root → Type 0
IsOwnRoot d r = IsRootInRange d r × IsFreeRoot r

abbrev IsOwnStem : ℕ → StemTree → Type 0
IsOwnStem d s = AllByRecursion (λ o. IsPrefix o.op) s.0 × IsOwnRoot d s.1

own_trees : (d : ℕ) (ts : List Tree) → AllByRecursion (λ t. (d ≤ 64) × IsOwnTree d t) ts → AreOwnTrees d (trees_from ts)
own_trees d [] h = (tt, tt)
own_trees d (t ∷ ts) h = let others = own_trees d ts h.1 in ((h.0.1.0, others.0), (h.0.1.1, others.1))

named_root : (d : ℕ) (name : List ℕ) (at : _) (args : Option Trees) → IsOwnName name → IfThere (λ ts. (d + 1 ≤ 64) × AreOwnTrees (d + 1) ts) args → IsOwnRoot d (root_of_name (name, at) args)
named_root d name at None e h = e
named_root d name at (Some args) e h = ((e.0, h.0, h.1.0), (e.1, h.1.1))

-- a program with the declaration more
abbrev IsOwnDeclared : Declared → Type 0
IsOwnDeclared d = (p : ProgramTree) → AreOwn p → AreOwn (with_declared d p)

all_own : (ds : List Declared) → AllByRecursion IsOwnDeclared ds → AreOwn (program_of ds)
all_own [] h = (tt, tt, tt, tt)
all_own (d ∷ ds) h = h.0 (program_of ds) (all_own ds h.1)

-- whatever stands in parentheses
module _ (I : StemTree → List Lexeme → Type 0) (inside : (d : ℕ) → Sure I Any d Any d inner (IsOwnStem d)) where
  abbrev Means : {A : Type 0} → ℕ → Grammar A → (A → Type 0) → Type 0
  Means d g P = Sure I Any d Any d g P

  ratio_means : (d : ℕ) → Means d Ratio IsShift
  unfolding Ratio
  ratio_means d = s_action (s_both s_number (s_maybe (s_second s_place s_number))) (λ x _. is_shift x.0 x.1)

  expr_means : (d : ℕ) → Means d Expr (IsOwnTree d)
  unfolding Expr Postfix
  expr_means d =
      let postfix : Means d Postfix (λ o. IsPostfix o.op) = s_either (s_action (s_both (s_at {J = Counting} (λ i c _. refl)) s_count) (λ x h. h.1))
      (s_either (s_action (s_both (s_at {J = Counting} (λ i c _. refl)) s_count) (λ x h. h.1)) (s_action (s_both s_place (ratio_means d)) (λ x h. h.1))) in
      s_action (s_placed (s_both (inside d) (s_many postfix))) (λ x h. ((h.0.0, h.0.1.0, h.1), h.0.1.1))

  stem_means : (d : ℕ) → Means d Stem (IsOwnStem d)
  unfolding Exprs Base Prefix Const AfterConst Stem
  stem_means d =
      let exprs : Means (d + 1) Exprs (λ ts. AreOwnTrees (d + 1) ts × IsOwnRoot d (group ts)) = s_list s_place (s_deep (expr_means (d + 1)))
      (λ t ts h g. (let all = own_trees (d + 1) (t ∷ ts) (h, g) in (all, ((h.0, all.0.0, all.0.1), all.1)))) in
      let base : Means d Base (IsOwnRoot d) = s_either (s_action (s_both s_named (s_maybe (s_perhaps (tt, tt) (λ ts h. h.0) exprs))) (λ x h. named_root d x.0.0 x.0.1 x.1 h.0 h.1)) (s_action (s_parens exprs) (λ ts h. h.1)) in
      let prefix : (f : Fixed) → Sure I Any d Any (deeper d (class_of f)) (Prefix f) (λ p. (op : _) → IsPrefix op → IsOwnStem (deeper d (class_of f)) (p op)) = λ f.
      s_action (s_both s_place (inside (deeper d (class_of f)))) (λ x h op own. ((own, h.1.0), h.1.1)) in
      let constant : Means d Const FitsValue = s_either (s_action s_place (λ p _. tt)) (s_either (s_action s_place (λ p _. tt))
      (s_either (s_action (s_second s_place s_number) (λ n _. record { sfits = omega (arith, ints) })) (s_action s_number (λ n _. record { sfits = omega arith })))) in
      let after : Means d AfterConst (λ k. (v : _) → FitsValue v → IsOwnStem d (k v)) =
      s_either (s_action (prefix fixed.Fby) (λ p h v fits. h (ops.Fby v) fits)) (s_either (s_action (prefix fixed.Cons) (λ p h v fits. h (ops.Cons v) fits)) (s_give (λ v fits. (tt, (fits, tt))))) in
      s_either (s_action base (λ b h. (tt, h))) (s_either (s_action (prefix fixed.Tail) (λ p h. h ops.Tail tt)) (s_action (s_both constant after) (λ x h. h.1 x.0 h.0)))

  program_means : Means 0 Program AreOwn
  unfolding Name Names Left Equation TypeName Rate Due NoteText ItemText Run Params EndedRun Locals PortGroup NextGroup Ports Wcet Import Device Node Declaration Program
  program_means =
      let name : (d : ℕ) → Means d Name IsOwnPlaced = λ d. s_action s_named (λ n h. h) in
      let names : Means 1 Names (AreSome IsOwnPlaced) = s_action (s_both (name 1) (s_many (s_second s_place (name 1)))) (λ x h. (h, omega arith)) in
      let left : Means 0 Left (AreSome IsOwnPlaced) = s_either (s_parens names) (s_action (name 0) (λ n h. ((h, tt), omega arith))) in
      let equation : Means 0 Equation IsOwnEquation = s_action (s_placed (s_both left (s_first (s_second s_place (expr_means 0)) s_place)))
      (λ x h. record { range = record { lefts = all_of (λ n q. q.0) x.1.0 h.0.0; some = h.0.1; right = h.1.0 }; lefts = h.0.0; right = h.1.1 }) in
      let rate : (d : ℕ) → Means d Rate IsRate = λ d.
      s_action (s_second (s_at {J = λ i c. i ≡ true} (λ i c _. refl)) (s_second (s_at {J = Counting} (λ i c h. subst (λ j. Counting j 19) (sym h) refl))
      (s_first (s_both s_count (s_second s_place (ratio_means (d + 1)))) s_close))) (λ x h. h) in
      let due : (d : ℕ) → Means d Due IsDue = λ d. s_action (s_second s_place s_number) (λ n _. omega arith) in
      let type : (d : ℕ) → Means d TypeName (λ t. Unit {0}) = λ d. s_either (s_action s_place (λ p _. tt)) (s_action s_place (λ p _. tt)) in
      let note : (d : ℕ) → Means d NoteText IsOwnNote = λ d.
      s_either (s_action (due d) (λ u h. (tt, h))) (s_either (s_action (s_both (rate d) (s_maybe (due d))) (λ x h. h)) (s_action (s_both (type d) (s_both (s_maybe (rate d)) (s_maybe (due d)))) (λ x h. h.1))) in
      let run : (d : ℕ) → Means d Run (AreSome IsOwnParam) = λ d.
      s_list s_place (s_action {Q = IsOwnItem} (s_both (name d) (s_maybe (s_second s_place (note d)))) (λ x h. h)) (λ i is h g. ((own_params (i ∷ is) (h, g)).0, omega arith)) in
      let params : Means 1 Params (AreSome IsOwnParam) = s_list s_place (run 1) (some_joined IsOwnParam) in
      let ended : Means 0 EndedRun (AreSome IsOwnParam) = s_first (run 0) s_place in
      let locals : Means 0 Locals (AllByRecursion IsOwnParam) = s_either (s_action (s_second s_place (s_both ended (s_many ended))) (λ x h. all_joined IsOwnParam x.0 x.1 h.0.0 h.1)) (s_give tt) in
      let group : Means 1 PortGroup (AreSome IsOwnPort) = s_action (s_both names (s_second s_place (type 1))) (λ x h. (own_ports x.1 x.0 h.0.0, omega (arith, length-map x.0 (port_of x.1), h.0.1))) in
      let ports : Means 1 Ports (AreSome IsOwnPort) = s_action (s_both group (s_many (s_second (s_either s_place s_place) group))) (λ x h. some_joined IsOwnPort x.0 x.1 h.0 h.1) in
      let wcet : (d : ℕ) → Means d Wcet IsCount = λ d. s_action (s_first (s_second (s_at {J = Counting} (λ i c _. refl)) s_count) s_place) (λ n h. h) in
      let imports : Means 0 Import IsOwnImport =
      s_action (s_both (s_second (s_second s_place s_place) s_named) (s_both (s_perhaps tt (λ ps h. h.0) ports) (s_both (s_second s_place (s_parens ports)) (wcet 0))))
      (λ x h. record { range = record { name = h.0.0; ins = all_of (λ p q. q.0) x.1.0 h.1.0.1; outs = all_of (λ p q. q.0) x.1.1.0 h.1.1.0.0; some = h.1.1.0.1; wcet = h.1.1.1 }; name = h.0; ins = h.1.0.1; outs = h.1.1.0.0 }) in
      let device : (f : Fixed) → Sure I Any 0 Any (deeper 0 (class_of f)) (Device f) IsOwnDevice = λ f. s_action (s_both (s_second s_place s_named) (wcet (deeper 0 (class_of f)))) (λ x h. h) in
      let ranges : (ps : _) → AllByRecursion IsOwnParam ps → AllByRecursion IsParamInRange ps = all_of (λ p q. q.0) in
      let equations : (es : _) → AllByRecursion IsOwnEquation es → AllByRecursion IsEquationInRange es = all_of (λ e q. q.range) in
      let nodes : Means 0 Node IsOwnNode =
      s_action (s_both (s_second s_place s_named) (s_both (s_perhaps tt (λ ps h. h.0) params) (s_both (s_second s_place (s_parens params))
      (s_both locals (s_first (s_first (s_second s_place (s_many equation)) s_place) (s_maybe s_place))))))
      (λ x h. (let locals = ranges x.1.1.1.0 h.1.1.1.0 in let eqs = equations x.1.1.1.1 h.1.1.1.1 in
      record { range = record { name = h.0.0; ins = ranges x.1.0 h.1.0.1; outs = ranges x.1.1.0 h.1.1.0.0; some = h.1.1.0.1; locals = locals; eqs = eqs }; name = h.0; ins = h.1.0.1; outs = h.1.1.0.0; locals = h.1.1.1.0; eqs = h.1.1.1.1 })) in
      let last : Means 0 Declaration IsOwnDeclared = s_either (s_action imports (λ i h p g. ((h, g.0), g.1, g.2, g.3))) (s_either (s_action (device fixed.Sensor) (λ d h p g. (g.0, (h, g.1), g.2, g.3)))
      (s_either (s_action (device fixed.Actuator) (λ d h p g. (g.0, g.1, (h, g.2), g.3))) (s_action nodes (λ n h p g. (g.0, g.1, g.2, (h, g.3)))))) in
      s_action (s_many last) all_own

within_means : (n d : ℕ) → Sure (within programs n) Any d Any d inner (IsOwnStem d)
unfolding within programs
within_means zero d = record { sure = λ i c s w rest known fine h. absurd h }
within_means (suc n) d = record { sure = (stem_means (within programs n) (within_means n) d).sure }

-- the program of each text
pub own : (text : List ℕ) (p : ProgramTree) → IsProgramOf text p → AreOwn p
unfolding nested
own text p h =
    let inside : (d : ℕ) → Sure (nested programs) Any d Any d inner (IsOwnStem d) = λ d. record { sure = λ i c s w rest known fine h. (within_means h.0 d).sure i c s w rest known fine h.1 } in
    let w = lexemes_of program_vocabulary text h.read.tokens in
    let limited = fine text text 0 0 0 h.read.tokens refl (omega arith) h.read.lexical false 0 h.read.ranges in
    ((program_means (nested programs) inside).sure false 0 p w [] tt (subst (Fine false 0 0) (sym (append-nil w)) limited) h.read.written).0

pub in_range : (text : List ℕ) (p : ProgramTree) → IsProgramOf text p → IsInRange p
in_range text p h =
    let all = own text p h in
    record {
      imports = all_of (λ (i : _) (q : IsOwnImport i). q.range) p.imports all.0;
      sensors = all_of (λ d q. (q.0.0, q.1)) p.sensors all.1;
      actuators = all_of (λ d q. (q.0.0, q.1)) p.actuators all.2;
      nodes = all_of (λ (n : _) (q : IsOwnNode n). q.range) p.nodes all.3;
      few = h.nodes;
    }
