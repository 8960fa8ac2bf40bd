-- The printed parts of programs are texts of the grammar.
use Rattle.prl_base.proofs.Standard.{◌≡◌, ◌==◌, ◌≤◌, ◌+◌, ℕ, suc, pos, negsuc, neg_ℤ, nat_abs, min, Bool, true, false, cond, codes, decimal, List, [], ◌∷◌, ◌++◌, length, map, Option, Some, None, refl}
use Rattle.prl_base.proofs.Standard.{sym, ap, ◌∙◌, subst, arith, append_assoc, eqb-true, le-leb, nat_tests, flat_map-append, append-nil, map-append, signed_decimal, flat_map, AllByRecursion}
use Rattle.prl_base.specs.Vocabulary.{Fraction, value_text, fraction_text, type_text, FitsValue}
use Rattle.prl_base.specs.declared.decimals.TheConstants.{MAX_NEGATIVE, MAX_POSITIVE}
use Rattle.prl_base.specs.declared.operators.Op.{Op}
use Rattle.prl_base.specs.declared.values.Ty.{Ty}
use Rattle.prl_base.specs.declared.values.Value.{Value}
use Rattle.prl_base.specs.declared.operators.Op.TheVariants as ops
use Rattle.prl_base.specs.declared.values.Ty.TheVariants as types
use Rattle.prl_base.specs.declared.values.Value.TheVariants as values
use Rattle.prl_ast.specs.Vocabulary.{IsCount, IsShift, IsRate, IsDue, IfThere, IsPrefix, IsPostfix, IsTreeInRange, IsRootInRange, AreTreesInRange, Tree, Root, const, var, apply, group, Trees, none}
use Rattle.prl_ast.specs.Vocabulary.{more, EquationTree, NodeTree, ProgramTree}
use Rattle.prl_ast.specs.declared.declarations.Device.{Device}
use Rattle.prl_ast.specs.declared.declarations.Import.{Import}
use Rattle.prl_ast.specs.declared.declarations.Param.{Param}
use Rattle.prl_ast.specs.declared.declarations.Placed.{Placed}
use Rattle.prl_ast.specs.declared.declarations.Port.{Port}
use Rattle.prl_ast.specs.declared.declarations.Rate.{Rate}
use Rattle.prl_ast.specs.declared.expressions.PlacedOp.{PlacedOp}
use Rattle.prl_ast.specs.Trees.{tree}
use Rattle.prl_lex.specs.Lexing.{tokens_from}
use Rattle.prl_lex.specs.Vocabulary.{◌⊳◌, ◌&◌, maybe, list_of, number, Text, positive, negative, many, out_of_range, IsTextOf}
use Rattle.prl_syntax.specs.Vocabulary.{program_texts, in_range, program_ranges, small, ratio_with, ratio_of, joined, param_of, note_or, params_of, port_of, StemTree, prefixed, root_of_name}
use Rattle.prl_syntax.specs.Vocabulary.{trees_from, Declared, imported, sensor, actuator, with_declared, program_of, Grammar, the, in_parens, maybe_in_parens, Const, Ratio, Name, Names, TypeName}
use Rattle.prl_syntax.specs.Vocabulary.{Rate as RateText, Due, Note as NoteText, Item as ItemText, Run, Params, EndedRun, Locals, PortGroup, NextGroup, Ports, Wcet, Import as ImportText}
use Rattle.prl_syntax.specs.Vocabulary.{Device as DeviceText, programs, Postfix, Expr, Exprs, Base, Prefix, AfterConst, Stem, Left, Equation, Node, Declaration, Program}
use Rattle.prl_syntax.specs.declared.words.Fixed.{Fixed}
use Rattle.prl_syntax.specs.declared.parameters.Note.{Note}
use Rattle.prl_syntax.specs.Trees.{node}
use Rattle.prl_syntax.specs.declared.words.Fixed.TheVariants as fixed
use Rattle.prl_print.specs.Places.{nowhere, unplaced_port, unplaced_param, unplaced_device, unplaced_import, unplaced_name, unplaced_operator, unplaced_tree, unplaced_root, unplaced_trees, unplaced_equation, unplaced_node, unplaced}
use Rattle.prl_print.specs.Printing.{printed_rate, printed_due, part, printed_note, printed_param, printed_params, printed_locals, printed_port, printed_ports, printed_wcet, printed_import, printed_device, separated, name_of, printed_operator, printed_operators, printed_tree, printed_root, printed_others, printed_lefts, printed_equation, printed_node, printed}
use Rattle.prl_print.proofs.Tokens.{constant, part as a_part, loud, wordy, State, state, state_after, scan_end}
use Rattle.prl_print.proofs.Printed.{Prints, p_left, p_right, p_placed, p_inner, p_action, p_both, p_skip, p_drop, p_give, p_none, p_cons, p_bytes, p_rest, p_row, p_many, p_any, p_word, p_blank, p_pad, p_line, p_name, p_keyword, p_number, p_part, p_count, p_open, p_close, p_comma, p_semicolon, p_sign, p_colon, p_minus, p_operator}
use Rattle.prl_print.proofs.Fractions.{natural, reads_itself}
use Rattle.prl_print.proofs.Meant.{IsSome}
use Rattle.prl_print.proofs.Own.{IsOwnName, IsOwnParam, IsOwnPort, IsOwnImport, IsOwnDevice, IsOwnPlaced, IsFreeTree, IsFreeRoot, AreFreeTrees, IsOwnEquation, IsOwnNode, AreOwn}

-- outside of rates, after so many open parentheses: where a word may begin, and after a word
abbrev plain : ℕ → State
plain d = state false constant loud d

abbrev after : ℕ → State
after d = state false constant wordy d

abbrev Writes : {A : Type 0} → Grammar A → (A → Type 0) → ℕ → List ℕ → Type 0
Writes g E d text = Prints g E (plain d) (after d) text

small_is : (n : ℕ) → n ≤ 2147483647 → small n ≡ n
small_is n h = omega arith

-- constants, ratios, types, rates and notes

value_prints : {d : ℕ} (v : Value) → FitsValue v → Writes Const (λ x. x ≡ v) d (value_text v)
unfolding Const
value_prints (values.Int (pos n)) h =
    p_right (p_right (p_right (p_action (p_number n (omega (arith, h.sfits)) (le-leb n MAX_POSITIVE (omega (arith, h.sfits))) (λ b h. grind (arith, nat_tests, h)))
    (λ m e. ap positive e ∙ ap (λ k. values.Int (pos k)) {x = min n MAX_POSITIVE} {y = n} (omega (arith, h.sfits))))))
value_prints (values.Int (negsuc n)) h = p_right (p_right (p_left (p_action (p_minus (suc n) (omega (arith, h.sfits))) (λ m e. ap negative e ∙ ap (λ k. values.Int (neg_ℤ (pos k))) {x = min (suc n) MAX_NEGATIVE} {y = suc n} (omega (arith, h.sfits))))))
value_prints (values.Bool true) h = p_left (p_action (p_keyword fixed.True (codes "true") refl refl) (λ p _. refl))
value_prints (values.Bool false) h = p_right (p_left (p_action (p_keyword fixed.False (codes "false") refl refl) (λ p _. refl)))

denominator_prints : {i : Bool} {d : ℕ} (q : Fraction) → IsShift q → (b : Bool) → (q.den == 1) ≡ b
    → Prints (maybe (the fixed.Slash ⊳ number)) (λ o. ratio_with (nat_abs q.num) o ≡ q) (state i (in_range i 1) wordy d) (state i (in_range i 1) wordy d) (cond b [] (codes "/" ++ decimal q.den))
denominator_prints q h true e = p_right (p_give (ap (ratio_of (nat_abs q.num)) (sym (eqb-true q.den 1 e)) ∙ reads_itself q h))
denominator_prints q h false e = p_left (p_action (p_skip (p_sign fixed.Slash 47 (refl, refl, refl, refl, refl) (λ b h. grind (arith, nat_tests, h))) (p_count q.den (h.0.positive, h.0.den))) (λ a f. ap (ratio_of (nat_abs q.num)) f ∙ reads_itself q h))

ratio_prints : {i : Bool} {d : ℕ} (q : Fraction) → IsShift q → Prints Ratio (λ x. x ≡ q) (state i a_part loud d) (state i (in_range i 1) wordy d) (fraction_text q)
unfolding Ratio
ratio_prints q h =
    p_bytes (ap (λ z. signed_decimal z ++ cond (q.den == 1) [] (codes "/" ++ decimal q.den)) (natural q.num h.1))
    (p_action (p_both (p_part (nat_abs q.num) h.0.num) (denominator_prints q h (q.den == 1) refl)) (λ x e. ap (λ n. ratio_with n x.1) e.0 ∙ e.1))

type_prints : {d : ℕ} (ty : Ty) → Writes TypeName (λ x. x ≡ ty) d (type_text ty)
unfolding TypeName
type_prints types.Int = p_left (p_action (p_keyword fixed.Int (codes "int") refl refl) (λ p _. refl))
type_prints types.Bool = p_right (p_action (p_keyword fixed.Bool (codes "bool") refl refl) (λ p _. refl))

-- in parentheses
enclosed : {A : Type 0} {i j : Bool} {r q : ℕ → Bool} {d : ℕ} {text : List ℕ} {E : A → Type 0} {g : Grammar A} → d + 1 ≤ 64
    → Prints g E (state_after i 19 loud (d + 1)) (state j q wordy (d + 1)) text → Prints (in_parens g) E (state i r wordy d) (state_after j 20 loud d) (codes "(" ++ (text ++ codes ")"))
enclosed le one = p_skip p_open (p_drop one (p_close le))

rate_text : (a b c e f : List ℕ) → a ++ ((b ++ (c ++ e)) ++ f) ≡ a ++ b ++ c ++ e ++ f
rate_text a b c e f = simp append_assoc

rate_prints : {d : ℕ} → d + 1 ≤ 64 → (r : Rate) → IsRate r → Writes RateText (λ x. x ≡ r) d (printed_rate r)
unfolding RateText
rate_prints le r h =
    p_bytes (rate_text (codes "rate (") (decimal r.period) (codes ", ") (fraction_text r.phase) (codes ")")) (p_word (p_action {F = λ x. x ≡ record { period = r.period; phase = r.phase }}
    (p_skip (p_keyword fixed.Rate (codes "rate") refl refl) (p_pad refl (enclosed le (p_both (p_count r.period h.0) (p_skip p_comma (p_pad refl (ratio_prints r.phase h.1))))))) (λ x e. cc (small_is r.period h.0.1, e.0, e.1))))

due_prints : {d : ℕ} (due : ℕ) → IsDue due → Writes Due (λ x. x ≡ due) d (printed_due due)
unfolding Due
due_prints due h = p_action (p_skip (p_keyword fixed.Due (codes "due") refl refl) (p_pad refl (p_part due h))) (λ n e. ap small e ∙ small_is due h)

-- a part of a note, after a blank
later_part : {X : Type 0} {d : ℕ} {g : Grammar X} (P : X → Type 0) (show : X → List ℕ) → ((x : X) → P x → Writes g (λ y. y ≡ x) d (show x)) → (o : Option X) → IfThere P o
    → Prints (maybe g) (λ y. y ≡ o) (after d) (after d) (flat_map (λ other. codes " " ++ other) (part show o))
later_part P show each None h = p_right (p_give refl)
later_part P show each (Some x) h = p_left (p_action (p_bytes (sym (append-nil (codes " " ++ show x))) (p_pad refl (each x h))) (λ y e. ap Some e))

-- a note, or none, gives a parameter what is printed
abbrev IsNote : Option Ty → Option Rate → Option ℕ → Option Note → Type 0
IsNote ty rate due o = (n : Placed) → param_of n (note_or o None) ≡ record { name = n.name; ty = ty; rate = rate; due = due; at = n.at }

colon_note : {d : ℕ} (ty : Option Ty) (rate : Option Rate) (due : Option ℕ) (text : List ℕ) → Writes NoteText (λ x. IsNote ty rate due (Some x)) d text → Prints (maybe (the fixed.Colon ⊳ NoteText)) (IsNote ty rate due) (after d) (after d) (codes ": " ++ text)
colon_note ty rate due text note = p_left (p_action (p_skip p_colon (p_pad refl note)) (λ a e. e))

note_prints : {d : ℕ} → d + 1 ≤ 64 → (ty : Option Ty) (rate : Option Rate) (due : Option ℕ) → IfThere IsRate rate → IfThere IsDue due
    → Prints (maybe (the fixed.Colon ⊳ NoteText)) (IsNote ty rate due) (after d) (after d) (printed_note (part type_text ty ++ part printed_rate rate ++ part printed_due due))
unfolding NoteText
note_prints le None None None r u = p_right (p_give (λ n. refl))
note_prints le None None (Some due) r u = colon_note None None (Some due) _ (p_left (p_action (p_bytes (sym (append-nil (printed_due due))) (due_prints due u)) (λ d e n. cc)))
note_prints le None (Some rate) due r u = colon_note None (Some rate) due _ (p_right (p_left (p_action (p_both (rate_prints le rate r) (later_part IsDue printed_due due_prints due u)) (λ x e n. cc (e.0, e.1)))))
note_prints le (Some ty) rate due r u =
    colon_note (Some ty) rate due _ (p_right (p_right (p_bytes (ap (λ t. type_text ty ++ t) (sym (flat_map-append (λ other. codes " " ++ other) (part printed_rate rate) (part printed_due due))))
    (p_action (p_both (type_prints ty) (p_both (later_part IsRate printed_rate (rate_prints le) rate r) (later_part IsDue printed_due due_prints due u))) (λ x e n. cc (e.0, e.1.0, e.1.1))))))

-- lists

perhaps_enclosed : {A : Type 0} {d : ℕ} {text : List ℕ} {E : A → Type 0} {nothing : A} {g : Grammar A} → d + 1 ≤ 64 → Writes g E (d + 1) text → Prints (maybe_in_parens nothing g) E (after d) (plain d) (codes "(" ++ (text ++ codes ")"))
perhaps_enclosed le one = p_skip p_open (p_right (p_drop one (p_close le)))

nothing_enclosed : {A : Type 0} {d : ℕ} {E : A → Type 0} {nothing : A} {g : Grammar A} → d + 1 ≤ 64 → E nothing → Prints (maybe_in_parens nothing g) E (after d) (plain d) (codes "()")
nothing_enclosed le e = p_skip p_open (p_left (p_action (p_any (p_close le)) (λ c _. e)))

-- a list of one
alone : {A : Type 0} {d : ℕ} {text : List ℕ} (f : Fixed) {g : Grammar A} {E : A → Type 0} {F : List A → Type 0} → ((x : A) → E x → F (x ∷ [])) → Writes g E d text → Writes (list_of (the f) g) F d text
alone {text} f {F} h one = p_bytes (append-nil text) (p_action (p_both one (p_none {F = λ xs. xs ≡ []} refl)) (λ x e. subst (λ xs. F (x.0 ∷ xs)) (sym e.1) (h x.0 e.0)))

abbrev Means : {A : Type 0} → (A → A) → List A → List A → Type 0
Means u xs ys = map u ys ≡ map u xs

-- texts of one each, one after another
groups_print : {X : Type 0} {g h : Grammar (List X)} {s t : State} (P : X → Type 0) (u : X → X) (between : List ℕ) (text : X → List ℕ) → ((x : X) → P x → Prints g (Means u (x ∷ [])) s t (text x))
    → ((x : X) → P x → Prints h (Means u (x ∷ [])) t t (between ++ text x)) → (x : X) (xs : List X) → AllByRecursion P (x ∷ xs) → Prints (g & many h) (λ r. Means u (x ∷ xs) (r.0 ++ joined r.1)) s t (separated between (map text (x ∷ xs)))
groups_print P u between text first later x xs all =
    p_row P (λ x. Means u (x ∷ [])) (λ xs rs. Means u xs (joined rs)) (λ x xs r rs e f. map-append u r (joined rs) ∙ ap (λ ys. ys ++ map u (joined rs)) e ∙ ap (λ ys. u x ∷ ys) f) between text refl first later x xs all

-- parameters

name_prints : {d : ℕ} (name : List ℕ) → IsOwnName name → Writes Name (λ n. n.name ≡ name) d name
unfolding Name
name_prints name h = p_action (p_name name h) (λ n e. e)

run_prints : {d : ℕ} → d + 1 ≤ 64 → (p : Param) → IsOwnParam p → Writes Run (Means unplaced_param (p ∷ [])) d (printed_param p)
unfolding Run ItemText
run_prints le p h = p_action {E = λ items. Means unplaced_param (p ∷ []) (params_of items)} (alone fixed.Comma (λ i e. ap (λ x. x ∷ []) e)
    (p_action {F = λ i. unplaced_param (param_of i.name (note_or i.note None)) ≡ unplaced_param p} (p_both (name_prints p.name h.1) (note_prints le p.ty p.rate p.due h.0.rate h.0.due))
    (λ x e. ap unplaced_param (e.1 x.0) ∙ ap (λ name. record { name = name; ty = p.ty; rate = p.rate; due = p.due; at = nowhere }) e.0)))
    (λ items e. e)

params_print : {d : ℕ} → d + 1 ≤ 64 → (p : Param) (ps : List Param) → AllByRecursion IsOwnParam (p ∷ ps) → Writes Params (Means unplaced_param (p ∷ ps)) d (printed_params (p ∷ ps))
unfolding Params
params_print le p ps h =
    p_action {E = λ runs. Means unplaced_param (p ∷ ps) (joined runs)} (p_action (groups_print IsOwnParam unplaced_param (codes "; ") printed_param (run_prints le) (λ x own. p_skip p_semicolon (p_pad refl (run_prints le x own))) p ps h) (λ x e. e)) (λ runs e. e)

ended_run : (p : Param) → IsOwnParam p → Prints EndedRun (Means unplaced_param (p ∷ [])) (plain 0) (plain 0) (printed_param p ++ codes ";")
unfolding EndedRun
ended_run p h = p_drop (run_prints (omega arith) p h) p_semicolon

ended_row : {X : Type 0} (f : X → List ℕ) (x : X) (xs : List X) (z : List ℕ) → separated (codes " ") (map (λ y. f y ++ codes ";") (x ∷ xs)) ++ z ≡ separated (codes "; ") (map f (x ∷ xs)) ++ (codes ";" ++ z)
ended_row f x [] z = simp (append_assoc, append-nil)
ended_row f x (y ∷ ys) z = append_assoc (f x ++ codes ";") _ z ∙ append_assoc (f x) (codes ";") _ ∙ ap (λ t. f x ++ (codes "; " ++ t)) (ended_row f y ys z) ∙ sym (append_assoc (f x) _ (codes ";" ++ z))

locals_print : (ps : List Param) → AllByRecursion IsOwnParam ps → Prints Locals (Means unplaced_param ps) (plain 0) (plain 0) (printed_locals ps)
unfolding Locals
locals_print [] h = p_right (p_give refl)
locals_print (p ∷ ps) h =
    p_left (p_bytes (ap (λ t. codes "var " ++ t) (ended_row printed_param p ps (codes "\n")))
    (p_line refl (p_action (p_skip (p_keyword fixed.Var (codes "var") refl refl) (p_pad refl (groups_print IsOwnParam unplaced_param (codes " ") (λ x. printed_param x ++ codes ";") ended_run (λ x own. p_pad refl (ended_run x own)) p ps h))) (λ x e. e))))

-- ports, imports, sensors and actuators

group_prints : (p : Port) → IsOwnPort p → Writes PortGroup (Means unplaced_port (p ∷ [])) 1 (printed_port p)
unfolding PortGroup Names
group_prints p h =
    p_bytes (simp append_assoc refl)
    (p_action (p_both (alone fixed.Comma {F = λ ns. (t : Ty) → map unplaced_port (map (port_of t) ns) ≡ record { name = p.name; ty = t; at = nowhere } ∷ []}
    (λ n e t. ap (λ k. record { name = k; ty = t; at = nowhere } ∷ []) e) (name_prints p.name h)) (p_skip p_colon (p_pad refl (type_prints p.ty))))
    (λ x e. e.0 x.1 ∙ ap (λ ty. record { name = p.name; ty = ty; at = nowhere } ∷ []) e.1))

ports_print : (p : Port) (ps : List Port) → AllByRecursion IsOwnPort (p ∷ ps) → Writes Ports (Means unplaced_port (p ∷ ps)) 1 (printed_ports (p ∷ ps))
unfolding Ports NextGroup
ports_print p ps h = p_action (groups_print IsOwnPort unplaced_port (codes "; ") printed_port group_prints (λ x own. p_skip (p_right p_semicolon) (p_pad refl (group_prints x own))) p ps h) (λ x e. e)

-- a head: what is taken and what is given, in parentheses, and what stands before and after them
head_prints : {N X R : Type 0} {P : X → Type 0} {f : Grammar N} {g : Grammar (List X)} {h : Grammar R} {E : N → Type 0} {F : R → Type 0} {front more : List ℕ} (u : X → X) (text : List X → List ℕ) → text [] ≡ []
    → ((x : X) (xs : List X) → AllByRecursion P (x ∷ xs) → Writes g (Means u (x ∷ xs)) 1 (text (x ∷ xs))) → (ins outs : List X) → AllByRecursion P ins → AllByRecursion P outs → IsSome outs → Writes f E 0 front → Prints h F (plain 0) (plain 0) more
    → Prints (f & maybe_in_parens [] g & the fixed.Returns ⊳ in_parens g & h) (λ x. E x.0 × (Means u ins x.1.0 × (Means u outs x.1.1.0 × F x.1.1.1))) (plain 0) (plain 0) (front ++ codes "(" ++ text ins ++ codes ") returns (" ++ text outs ++ codes ")" ++ more)
head_prints {X} {P} {g} u text empty each ins outs h k some front rest =
    p_bytes (simp append_assoc refl) (p_both front (p_both (taken ins h) (p_both (p_skip (p_pad refl (p_keyword fixed.Returns (codes "returns") refl refl)) (p_pad refl (given outs k some))) rest)))
  where
    taken : (xs : List X) → AllByRecursion P xs → Prints (maybe_in_parens [] g) (Means u xs) (after 0) (plain 0) (codes "(" ++ (text xs ++ codes ")"))
    taken [] h = p_bytes (ap (λ t. codes "(" ++ (t ++ codes ")")) (sym empty)) (nothing_enclosed (omega arith) refl)
    taken (x ∷ xs) h = perhaps_enclosed (omega arith) (each x xs h)

    given : (xs : List X) → AllByRecursion P xs → IsSome xs → Prints (in_parens g) (Means u xs) (after 0) (plain 0) (codes "(" ++ (text xs ++ codes ")"))
    given [] h some = absurd (omega arith)
    given (x ∷ xs) h some = enclosed (omega arith) (each x xs h)

wcet_prints : (n : ℕ) → IsCount n → Prints Wcet (λ w. w ≡ n) (after 0) (plain 0) (printed_wcet n)
unfolding Wcet
wcet_prints n h =
    p_bytes (simp append_assoc refl)
    (p_line refl (p_action (p_drop (p_skip (p_pad refl (p_keyword fixed.Wcet (codes "wcet") refl refl)) (p_pad refl (p_count n h))) p_semicolon) (λ m e. ap small e ∙ small_is n h.1)))

import_prints : (i : Import) → IsOwnImport i → Prints ImportText (λ x. unplaced_import x ≡ unplaced_import i) (plain 0) (plain 0) (printed_import i)
unfolding ImportText
import_prints i h =
    p_action (head_prints unplaced_port printed_ports refl ports_print i.ins i.outs h.ins h.outs h.range.some
    (p_skip (p_skip (p_keyword fixed.Imported (codes "imported") refl refl) (p_pad refl (p_keyword fixed.Node (codes "node") refl refl))) (p_pad refl (p_name i.name h.name))) (p_any (wcet_prints i.wcet h.range.wcet)))
    (λ x e. cc (e.0, e.1.0, e.1.1.0, e.1.1.1))

device_prints : (f : Fixed) (text : List ℕ) → Writes (the f) (λ p. Unit {0}) 0 text → (d : Device) → IsOwnDevice d → Prints (DeviceText f) (λ x. unplaced_device x ≡ unplaced_device d) (plain 0) (plain 0) (printed_device (text ++ codes " ") d)
unfolding DeviceText
device_prints f text keyword d h = p_bytes (simp append_assoc refl) (p_action (p_both (p_skip keyword (p_pad refl (p_name d.name h.0))) (wcet_prints d.wcet h.1)) (λ x e. cc (e.0, e.1)))

-- expressions

abbrev unplaced_op : Op → PlacedOp
unplaced_op op = record { op = op; at = nowhere }

postfix_prints : {d : ℕ} (op : Op) → IsPostfix op → Prints Postfix (λ x. unplaced_operator x ≡ unplaced_op op) (after d) (after d) (printed_operator op)
unfolding Postfix
postfix_prints (ops.Fby v) h = absurd h
postfix_prints (ops.Cons v) h = absurd h
postfix_prints ops.Tail h = absurd h
postfix_prints (ops.Up k) h = p_left (p_action (p_both (p_pad refl (p_operator fixed.Up 42 94 (refl, refl, refl))) (p_pad refl (p_count k h))) (λ x e. ap (λ n. unplaced_op (ops.Up n)) (ap small e.1 ∙ small_is k h.1)))
postfix_prints (ops.Down k) h = p_right (p_left (p_action (p_both (p_pad refl (p_operator fixed.Down 47 94 (refl, refl, refl))) (p_pad refl (p_count k h))) (λ x e. ap (λ n. unplaced_op (ops.Down n)) (ap small e.1 ∙ small_is k h.1))))
postfix_prints (ops.Shift q) h = p_right (p_right (p_action (p_both (p_pad refl (p_operator fixed.Shift 126 62 (refl, refl, refl))) (p_pad refl (ratio_prints q h))) (λ x e. ap (λ c. unplaced_op (ops.Shift c)) e.1)))

-- prefixes and what they are applied to, places aside
abbrev IsStem : StemTree → StemTree → Type 0
IsStem stem s = (map unplaced_operator s.0, unplaced_root s.1) ≡ stem

one_prefix : {d : ℕ} {q : ℕ → Bool} {s : State} {word text : List ℕ} (f : Fixed) {stem : StemTree} → q 32 ≡ false → Prints (the f) (λ p. Unit {0}) s (state false constant q d) word → Writes Stem (IsStem stem) d text
    → Prints (Prefix f) (λ make. (op : Op) → IsStem (prefixed (unplaced_op op) stem) (make op)) s (after d) (word ++ 32 ∷ text)
unfolding Prefix
one_prefix f calm word text = p_action (p_both word (p_pad calm (p_inner text))) (λ x e op. ap (prefixed (unplaced_op op)) e.1)

-- a constant, and what is made of it
constant_stem : {d : ℕ} {text : List ℕ} {stem : StemTree} (v : Value) → FitsValue v → Prints AfterConst (λ make. IsStem stem (make v)) (after d) (after d) text → Writes Stem (IsStem stem) d (value_text v ++ text)
unfolding Stem
constant_stem v h next = p_right (p_right (p_action (p_both (value_prints v h) next) (λ x e. ap (λ c. (map unplaced_operator (x.1 c).0, unplaced_root (x.1 c).1)) e.0 ∙ e.1)))

prefix_prints : {d : ℕ} {text : List ℕ} {stem : StemTree} (op : Op) → IsPrefix op → Writes Stem (IsStem stem) d text → Writes Stem (IsStem (prefixed (unplaced_op op) stem)) d (printed_operator op ++ text)
unfolding Stem AfterConst
prefix_prints {text} (ops.Fby v) h one = p_bytes (sym (append_assoc (value_text v) (codes " fby ") text)) (constant_stem v h (p_pad refl (p_left (p_action (one_prefix fixed.Fby refl (p_keyword fixed.Fby (codes "fby") refl refl) one) (λ make e. e (ops.Fby v))))))
prefix_prints {text} (ops.Cons v) h one =
    p_bytes (sym (append_assoc (value_text v) (codes " :: ") text)) (constant_stem v h (p_pad refl (p_right (p_left (p_action (one_prefix fixed.Cons refl (p_operator fixed.Cons 58 58 (refl, refl, refl)) one) (λ make e. e (ops.Cons v)))))))
prefix_prints ops.Tail h one = p_right (p_left (p_action (one_prefix fixed.Tail refl (p_keyword fixed.Tail (codes "tail") refl refl) one) (λ make e. e ops.Tail)))
prefix_prints (ops.Up n) h one = absurd h
prefix_prints (ops.Down n) h one = absurd h
prefix_prints (ops.Shift q) h one = absurd h

stem_prints : {d : ℕ} {text : List ℕ} {root : Root} (pre : List PlacedOp) → AllByRecursion (λ o. IsPrefix o.op) pre → Writes Stem (IsStem ([], root)) d text → Writes Stem (IsStem (map unplaced_operator pre, root)) d (printed_operators pre ++ text)
stem_prints [] h base = base
stem_prints {text} (o ∷ pre) h base = p_bytes (sym (append_assoc (printed_operator o.op) (printed_operators pre) text)) (prefix_prints o.op h.0 (stem_prints pre h.1 base))

base_stem : {d : ℕ} {text : List ℕ} {root : Root} → Writes Base (λ x. unplaced_root x ≡ root) d text → Writes Stem (IsStem ([], root)) d text
unfolding Stem
base_stem base = p_left (p_action base (λ b e. ap (λ (x : Root). ([], x)) e))

exprs_print : {d : ℕ} {t : Tree} {ts : Trees} {a c : List ℕ} → Writes Expr (λ x. unplaced_tree x ≡ t) d a → Prints (many (the fixed.Comma ⊳ Expr)) (λ xs. unplaced_trees (trees_from xs) ≡ ts) (after d) (after d) c
    → Writes Exprs (λ x. unplaced_trees x ≡ more t ts) d (a ++ c)
unfolding Exprs
exprs_print {t} {ts} first others = p_action {E = λ xs. unplaced_trees (trees_from xs) ≡ more t ts} (p_action (p_both first others) (λ x e. cc (e.0, e.1))) (λ xs e. e)

application : {d : ℕ} {text : List ℕ} {args : Trees} (name : List ℕ) → IsOwnName name → Prints (maybe_in_parens none Exprs) (λ x. unplaced_trees x ≡ args) (after d) (plain d) text → Writes Stem (IsStem ([], apply name nowhere args)) d (name ++ text)
unfolding Base
application {args} name h list =
    base_stem (p_left (p_word (p_action (p_both (p_name name h) (p_left (p_action {F = λ o. (n : _) → unplaced_root (root_of_name n o) ≡ apply n.0 nowhere args} list (λ xs f n. ap (apply n.0 nowhere) f)))) (λ x e. e.1 x.0 ∙ ap (λ k. apply k nowhere args) e.0))))

mutual
  unfolding Stem AfterConst Base Expr

  tree_prints : (d : ℕ) (t : Tree) → IsTreeInRange d t → IsFreeTree t → Writes Expr (λ x. unplaced_tree x ≡ unplaced_tree t) d (printed_tree t)
  tree_prints d (tree pre root post at) h g =
      p_action (p_placed (p_both (p_inner (stem_prints pre h.0 (root_prints d root h.1 g))) (p_many (λ o. IsPostfix o.op) unplaced_operator unplaced_operator (λ o. printed_operator o.op) (λ o own. postfix_prints o.op own) post h.2)))
      (λ x e. ap (λ (s : StemTree). tree s.0 s.1 (map unplaced_operator x.1.1) nowhere) e.0 ∙ ap (λ ops. tree (map unplaced_operator pre) (unplaced_root root) ops nowhere) e.1)

  root_prints : (d : ℕ) (r : Root) → IsRootInRange d r → IsFreeRoot r → Writes Stem (IsStem ([], unplaced_root r)) d (printed_root r)
  root_prints d (const v) h g = p_bytes (append-nil (value_text v)) (constant_stem v h (p_right (p_right (p_give refl))))
  root_prints d (var name) h g = base_stem (p_bytes (append-nil name) (p_left (p_action (p_both (p_name name (h, g)) (p_right (p_give {F = λ o. o ≡ None} refl))) (λ x e. cc (e.0, e.1)))))
  root_prints d (apply name at none) h g = application name (h.0, g.0) (nothing_enclosed h.1 refl)
  root_prints d (apply name at (more t ts)) h g = application name (h.0, g.0) (perhaps_enclosed h.1 (exprs_print (tree_prints (d + 1) t h.2.0 g.1.0) (others_print (d + 1) ts h.2.1 g.1.1)))
  root_prints d (group none) h g = absurd h
  root_prints d (group (more t ts)) h g = base_stem (p_right (p_action (p_any (p_word (enclosed h.0 (exprs_print (tree_prints (d + 1) t h.1 g.0) (others_print (d + 1) ts h.2 g.1))))) (λ xs e. ap group e)))

  others_print : (d : ℕ) (ts : Trees) → AreTreesInRange d ts → AreFreeTrees ts → Prints (many (the fixed.Comma ⊳ Expr)) (λ xs. unplaced_trees (trees_from xs) ≡ unplaced_trees ts) (after d) (after d) (printed_others ts)
  others_print d none h g = p_none refl
  others_print d (more t ts) h g = p_cons (λ x xs e f. cc) (p_skip p_comma (p_pad refl (tree_prints d t h.0 g.0))) (others_print d ts h.1 g.1)

-- equations

names_print : {d : ℕ} (n : Placed) (ns : List Placed) → AllByRecursion IsOwnPlaced (n ∷ ns) → Writes Names (λ xs. map unplaced_name xs ≡ map unplaced_name (n ∷ ns)) d (separated (codes ", ") (map name_of (n ∷ ns)))
unfolding Names
names_print n ns h =
    p_action (p_row IsOwnPlaced (λ n x. x.name ≡ n.name) (λ ns xs. map unplaced_name xs ≡ map unplaced_name ns) (λ n ns x xs e f. cc) (codes ", ") name_of refl
    (λ n own. name_prints n.name own) (λ n own. p_skip p_comma (p_pad refl (name_prints n.name own))) n ns h) (λ x e. e)

lefts_print : (ns : List Placed) → AllByRecursion IsOwnPlaced ns → IsSome ns → Writes Left (λ xs. map unplaced_name xs ≡ map unplaced_name ns) 0 (printed_lefts ns)
unfolding Left
lefts_print [] h some = absurd (omega arith)
lefts_print (n ∷ []) h some = p_right (p_action (name_prints n.name h.0) (λ x e. cc))
lefts_print (n ∷ m ∷ ns) h some = p_left (p_any (p_word (enclosed (omega arith) (names_print n (m ∷ ns) h))))

equation_prints : (e : EquationTree) → IsOwnEquation e → Prints Equation (λ x. unplaced_equation x ≡ unplaced_equation e) (plain 0) (plain 0) (printed_equation e)
unfolding Equation
equation_prints q h =
    p_bytes (simp append_assoc refl)
    (p_line refl (p_pad refl (p_pad {q = loud} refl (p_action (p_placed (p_both (lefts_print q.lefts h.lefts h.range.some)
    (p_drop (p_skip (p_pad {p = wordy} refl (p_sign {after = loud} fixed.Equals 61 (refl, refl, refl, refl, refl) (λ b h. refl))) (p_pad refl (tree_prints 0 q.right h.range.right h.right))) p_semicolon))) (λ x e. cc (e.0, e.1))))))

-- nodes

node_text : (f l i r o c v b e z : List ℕ) → f ++ l ++ i ++ r ++ o ++ c ++ (10 ∷ (v ++ (b ++ e ++ z ++ []))) ≡ (f ++ l ++ i ++ r ++ o ++ (c ++ 10 ∷ []) ++ v) ++ b ++ e ++ z
node_text f l i r o c v b e z = simp (append_assoc, append-nil)

node_prints : (n : NodeTree) → IsOwnNode n → Prints Node (λ x. unplaced_node x ≡ unplaced_node n) (plain 0) (plain 0) (printed_node n)
unfolding Node
node_prints n h =
    p_bytes (node_text (codes "node " ++ n.name) (codes "(") (printed_params n.ins) (codes ") returns (") (printed_params n.outs) (codes ")") (printed_locals n.locals) (codes "let\n") (flat_map printed_equation n.eqs) (codes "tel\n"))
    (p_action (head_prints unplaced_param printed_params refl (params_print (omega arith)) n.ins n.outs h.ins h.outs h.range.some (p_skip (p_keyword fixed.Node (codes "node") refl refl) (p_pad refl (p_name n.name h.name)))
    (p_blank 10 (omega arith, refl, refl) (p_both (locals_print n.locals h.locals)
    (p_drop (p_drop (p_skip (p_line refl (p_keyword fixed.Let (codes "let") refl refl)) (p_many IsOwnEquation unplaced_equation unplaced_equation printed_equation equation_prints n.eqs h.eqs))
    (p_line refl (p_keyword fixed.Tel (codes "tel") refl refl))) (p_right (p_give {F = λ o. Unit {0}} tt))))))
    (λ x e. cc (e.0, e.1.0, e.1.1.0, e.1.1.1.0, e.1.1.1.1)))

-- the program: a declaration adds to it what the other does, places aside
abbrev Adds : Declared → Declared → Type 0
Adds x d = (p : ProgramTree) → unplaced (with_declared d p) ≡ with_declared x (unplaced p)

-- those of one kind, before the others
kind_prints : {X : Type 0} {rest : List ℕ} (P : X → Type 0) (one : X → Declared) (put : List X → ProgramTree) (text : X → List ℕ) → ((x : X) (xs : List X) → with_declared (one x) (put xs) ≡ put (x ∷ xs))
    → ((x : X) → P x → Prints Declaration (Adds (one x)) (plain 0) (plain 0) (text x)) → (xs : List X) → AllByRecursion P xs → Prints (many Declaration) (λ ds. unplaced (program_of ds) ≡ put []) (plain 0) (plain 0) rest
    → Prints (many Declaration) (λ ds. unplaced (program_of ds) ≡ put xs) (plain 0) (plain 0) (flat_map text xs ++ rest)
kind_prints P one put text step = p_rest P (λ x. Adds (one x)) (λ xs ds. unplaced (program_of ds) ≡ put xs) (λ x xs d ds e f. e (program_of ds) ∙ ap (with_declared (one x)) f ∙ step x xs) text

program_prints : (p : ProgramTree) → AreOwn p → Prints Program (λ x. unplaced x ≡ unplaced p) (plain 0) (plain 0) (printed p)
unfolding Program Declaration
program_prints p h =
    p_bytes (simp (append_assoc, append-nil) refl)
    (p_action {E = λ ds. unplaced (program_of ds) ≡ unplaced p}
    (kind_prints IsOwnImport (λ i. imported (unplaced_import i)) (λ is. unplaced (record p { imports = is })) printed_import (λ i is. refl) (λ i g. p_left (p_action (import_prints i g) (λ x e p. ap (λ k. with_declared (imported k) (unplaced p)) e))) p.imports h.0
    (kind_prints IsOwnDevice (λ d. sensor (unplaced_device d)) (λ ds. unplaced (record p { imports = []; sensors = ds })) (printed_device (codes "sensor ")) (λ d ds. refl)
    (λ d g. p_right (p_left (p_action (device_prints fixed.Sensor (codes "sensor") (p_keyword fixed.Sensor (codes "sensor") refl refl) d g) (λ x e p. ap (λ k. with_declared (sensor k) (unplaced p)) e)))) p.sensors h.1
    (kind_prints IsOwnDevice (λ d. actuator (unplaced_device d)) (λ ds. unplaced (record p { imports = []; sensors = []; actuators = ds })) (printed_device (codes "actuator ")) (λ d ds. refl)
    (λ d g. p_right (p_right (p_left (p_action (device_prints fixed.Actuator (codes "actuator") (p_keyword fixed.Actuator (codes "actuator") refl refl) d g) (λ x e p. ap (λ k. with_declared (actuator k) (unplaced p)) e))))) p.actuators h.2
    (kind_prints IsOwnNode (λ n. node (unplaced_node n)) (λ ns. unplaced (record p { imports = []; sensors = []; actuators = []; nodes = ns })) printed_node (λ n ns. refl)
    (λ n g. p_right (p_right (p_right (p_action (node_prints n g) (λ x e p. ap (λ k. with_declared (node k) (unplaced p)) e))))) p.nodes h.3 (p_none refl)))))
    (λ ds e. e))

-- The printed text of a program has a tree, and this is the program, places aside.
pub printed_reads : (p : ProgramTree) → AreOwn p → (t : ProgramTree) × (unplaced t ≡ unplaced p) × IsTextOf program_texts (printed p) t
unfolding tokens_from
printed_reads p h =
    let text : List ℕ = printed p in
    let x = program_prints p h 0 in
    let s = x.lexes text [] [] (sym (append-nil text)) (scan_end (0 + length text) text (omega arith)) in
    let lexical = ap (tokens_from 0 0 0) (sym (append-nil text)) ∙ s.reads.2 in
    let written = subst (Text programs Program x.tree) (sym (s.seen ∙ append-nil x.words)) x.is in
    (x.tree, x.same, record { tokens = s.tokens; lexical = lexical; written = written; ranges = ap (out_of_range program_ranges false 0) s.seen ∙ s.reads.3 0 (λ n. refl) })
