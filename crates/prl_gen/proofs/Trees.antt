-- The tree of a generated program, with no places, and that the text is its printed form.
use Rattle.prl_base.proofs.Standard.{◌≡◌, ◌==◌, ◌-◌, ◌/◌, ◌++◌, ℕ, zero, suc, Bool, true, false, cond, pos, List, [], ◌∷◌, length, map, Some, None, refl, sym, ◌∙◌, ap, append_assoc, arith, codes}
use Rattle.prl_base.proofs.Standard.{decimal, length-append, slice_index, nat_lt, digits, flat_map, nat_tests, flat_map-append, append-nil, length-map, map-append}
use Rattle.prl_base.specs.Texts.{fraction_text}
use Rattle.prl_base.specs.declared.operators.Op.{Op}
use Rattle.prl_base.specs.declared.operators.Op.TheVariants as ops
use Rattle.prl_base.specs.declared.values.Ty.TheVariants as types
use Rattle.prl_base.specs.declared.values.Value.TheVariants as values
use Rattle.prl_ast.specs.Trees.{Tree, var, apply, group, none, more, EquationTree, NodeTree, ProgramTree}
use Rattle.prl_ast.specs.declared.declarations.Device.{Device}
use Rattle.prl_ast.specs.declared.declarations.Import.{Import}
use Rattle.prl_ast.specs.declared.declarations.Param.{Param}
use Rattle.prl_ast.specs.declared.declarations.Placed.{Placed}
use Rattle.prl_ast.specs.declared.declarations.Port.{Port}
use Rattle.prl_ast.specs.declared.expressions.PlacedOp.{PlacedOp}
use Rattle.prl_ast.specs.Trees.{tree}
use Rattle.prl_print.specs.Places.{nowhere}
use Rattle.prl_print.specs.Printing.{printed, printed_device, printed_equation, printed_import, printed_node, printed_param, printed_params, printed_ports, printed_tree, printed_wcet, separated}
use Rattle.prl_gen.specs.Vocabulary.{each, actuator_lines, converted, delayed, equation, equations, feed, import_lines, input, inputs, outputs, program, semicolon_before, sensor_lines}

-- a letter and the number of the lane
abbrev pub name_of_lane : List ℕ → ℕ → List ℕ
name_of_lane letter lane = letter ++ decimal lane

abbrev pub one_of : {A : Type 0} → (ℕ → A) → ℕ → List A
one_of make lane = make lane ∷ []

abbrev pub port_tree : List ℕ → Port
port_tree name = record { name = name; ty = types.Int; at = nowhere }

abbrev pub import_tree : ℕ → Import
import_tree lane = record {
  name = name_of_lane (codes "f") lane;
  ins = port_tree (codes "x") ∷ port_tree (codes "y") ∷ [];
  outs = port_tree (codes "z") ∷ [];
  wcet = 1;
  at = nowhere;
}

abbrev pub device_tree : List ℕ → ℕ → Device
device_tree letter lane = record { name = name_of_lane letter lane; wcet = 1; at = nowhere }

abbrev pub input_tree : List ℕ → ℕ → Param
input_tree periods lane = record {
  name = name_of_lane (codes "s") lane;
  ty = None;
  rate = Some (record { period = slice_index periods lane; phase = record { num = pos 0; den = 1 } });
  due = None;
  at = nowhere;
}

abbrev pub output_tree : ℕ → Param
output_tree lane = record { name = name_of_lane (codes "a") lane; ty = None; rate = None; due = None; at = nowhere }

abbrev pub placed_op : Op → PlacedOp
placed_op op = record { op = op; at = nowhere }

abbrev pub delayed_tree : ℕ → Tree
delayed_tree lane = tree (placed_op (ops.Fby (values.Int (pos 0))) ∷ []) (var (name_of_lane (codes "a") lane)) [] nowhere

abbrev pub grouped_tree : ℕ → Op → Tree
grouped_tree lane op = tree [] (group (more (delayed_tree lane) none)) (placed_op op ∷ []) nowhere

abbrev pub converted_tree : ℕ → ℕ → ℕ → Tree
converted_tree lane from to =
    cond (from == to) (delayed_tree lane) (cond (nat_lt to from) (grouped_tree lane (ops.Up (from / to))) (grouped_tree lane (ops.Down (to / from))))

abbrev pub feed_tree : List ℕ → ℕ → Tree
feed_tree periods lane = cond (lane == 0) (delayed_tree 0) (converted_tree (lane - 1) (slice_index periods (lane - 1)) (slice_index periods lane))

abbrev pub var_tree : List ℕ → Tree
var_tree name = tree [] (var name) [] nowhere

abbrev pub applied_tree : List ℕ → ℕ → Tree
applied_tree periods lane =
    tree [] (apply (name_of_lane (codes "f") lane) nowhere (more (var_tree (name_of_lane (codes "s") lane)) (more (feed_tree periods lane) none))) [] nowhere

abbrev pub left_tree : ℕ → Placed
left_tree lane = record { name = name_of_lane (codes "a") lane; at = nowhere }

abbrev pub equation_of_lane : List ℕ → ℕ → EquationTree
equation_of_lane periods lane = record { lefts = left_tree lane ∷ []; right = applied_tree periods lane; at = nowhere }

abbrev pub main_tree : List ℕ → NodeTree
main_tree periods = record {
  name = codes "main";
  ins = each (one_of (input_tree periods)) (length periods);
  outs = each (one_of output_tree) (length periods);
  locals = [];
  eqs = each (one_of (equation_of_lane periods)) (length periods);
  at = nowhere;
}

abbrev pub generated_tree : List ℕ → ProgramTree
generated_tree periods = record {
  imports = each (one_of import_tree) (length periods);
  sensors = each (one_of (device_tree (codes "s"))) (length periods);
  actuators = each (one_of (device_tree (codes "a"))) (length periods);
  nodes = main_tree periods ∷ [];
}

-- lists made one after another, printed one after another
printed_each : {A : Type 0} (print : A → List ℕ) (make : ℕ → A) (text : ℕ → List ℕ) (n : ℕ) → ((lane : ℕ) → print (make lane) ≡ text lane)
    → flat_map print (each (one_of make) n) ≡ each text n
printed_each print make text zero same = refl
printed_each print make text (suc n) same =
    let before = printed_each print make text n same in
    let both = flat_map-append print (each (one_of make) n) (make n ∷ []) in
    let last : flat_map print (make n ∷ []) ≡ text n = append-nil (print (make n)) ∙ same n in
    both ∙ (ap (λ l. l ++ flat_map print (make n ∷ [])) before ∙ ap (λ l. each text n ++ l) last)

separated_more : (between : List ℕ) (first : List ℕ) (texts : List (List ℕ)) (last : List ℕ)
    → separated between ((first ∷ texts) ++ last ∷ []) ≡ separated between (first ∷ texts) ++ (between ++ last)
separated_more between first texts last =
    let more : flat_map (λ (other : List ℕ). between ++ other) (texts ++ last ∷ []) ≡ flat_map (λ (other : List ℕ). between ++ other) texts ++ ((between ++ last) ++ []) =
    flat_map-append (λ (other : List ℕ). between ++ other) texts (last ∷ []) in
    let same : first ++ (flat_map (λ (other : List ℕ). between ++ other) texts ++ ((between ++ last) ++ []))
    ≡ (first ++ flat_map (λ (other : List ℕ). between ++ other) texts) ++ (between ++ last) = simp (append_assoc, append-nil) in
    ap (λ l. first ++ l) more ∙ same

-- a list that has an element, and one more
separated_last : (between : List ℕ) (texts : List (List ℕ)) (n : ℕ) (last : List ℕ) → length texts ≡ suc n
    → separated between (texts ++ last ∷ []) ≡ separated between texts ++ (between ++ last)
separated_last between [] n last some = absurd (omega (arith, some))
separated_last between (first ∷ texts) n last some = separated_more between first texts last

pub counted : {A : Type 0} (make : ℕ → A) (n : ℕ) → length (each (one_of make) n) ≡ n
counted make zero = refl
counted make (suc n) = (let before = counted make n in length-append (each (one_of make) n) (make n ∷ []) ∙ omega (arith, before))

-- from the second lane on a semicolon stands before
semicolon_at : (k : ℕ) → semicolon_before (suc k) ≡ codes "; "
semicolon_at k = (let not : (suc k == 0) ≡ false = grind (arith, nat_tests) in ap (λ b. cond b [] (codes "; ")) not)

params_each : (make : ℕ → Param) (text : ℕ → List ℕ) (n : ℕ) → ((lane : ℕ) → printed_param (make lane) ≡ text lane)
    → printed_params (each (one_of make) n) ≡ each (λ lane. semicolon_before lane ++ text lane) n
params_each make text zero same = refl
params_each make text (suc zero) same = append-nil (printed_param (make 0)) ∙ same 0
params_each make text (suc (suc n)) same =
    let k = suc n in
    let before = params_each make text (suc n) same in
    let all : map printed_param (each (one_of make) k ++ make k ∷ []) ≡ map printed_param (each (one_of make) k) ++ printed_param (make k) ∷ [] =
    map-append printed_param (each (one_of make) k) (make k ∷ []) in
    let count : length (map printed_param (each (one_of make) k)) ≡ suc n = length-map (each (one_of make) k) printed_param ∙ counted make k in
    ap (λ l. separated (codes "; ") l) all
    ∙ (separated_last (codes "; ") (map printed_param (each (one_of make) k)) n (printed_param (make k)) count
    ∙ (ap (λ l. l ++ (codes "; " ++ printed_param (make k))) before
    ∙ (ap (λ l. each (λ lane. semicolon_before lane ++ text lane) k ++ (codes "; " ++ l)) (same k)
    ∙ ap (λ l. each (λ lane. semicolon_before lane ++ text lane) k ++ (l ++ text k)) (sym (semicolon_at n)))))

import_shape : (a f d b p c q e w : List ℕ) → ((((((a ++ (f ++ d)) ++ b) ++ p) ++ c) ++ q) ++ e) ++ w ≡ ((a ++ f) ++ d) ++ (((((b ++ p) ++ c) ++ q) ++ e) ++ w)
import_shape a f d b p c q e w = simp append_assoc

import_end : ((((codes "(" ++ printed_ports (import_tree 0).ins) ++ codes ") returns (") ++ printed_ports (import_tree 0).outs) ++ codes ")") ++ printed_wcet 1
    ≡ codes "(x: int; y: int) returns (z: int) wcet 1;\n"
unfolding digits
import_end = refl

import_is : (lane : ℕ) → printed_import (import_tree lane) ≡ codes "imported node f" ++ decimal lane ++ codes "(x: int; y: int) returns (z: int) wcet 1;\n"
import_is lane =
    import_shape (codes "imported node ") (codes "f") (decimal lane) (codes "(") (printed_ports (import_tree lane).ins) (codes ") returns (") (printed_ports (import_tree lane).outs) (codes ")")
    (printed_wcet 1)
    ∙ ap (λ l. (codes "imported node f" ++ decimal lane) ++ l) import_end

sensor_is : (lane : ℕ) → printed_device (codes "sensor ") (device_tree (codes "s") lane) ≡ codes "sensor s" ++ decimal lane ++ codes " wcet 1;\n"
unfolding digits
sensor_is lane = refl

actuator_is : (lane : ℕ) → printed_device (codes "actuator ") (device_tree (codes "a") lane) ≡ codes "actuator a" ++ decimal lane ++ codes " wcet 1;\n"
unfolding digits
actuator_is lane = refl

input_shape : (s d c r p m z e : List ℕ) → (s ++ d) ++ (c ++ (((((r ++ p) ++ m) ++ z) ++ e) ++ [])) ≡ (((s ++ d) ++ (c ++ r)) ++ p) ++ ((m ++ z) ++ e)
input_shape s d c r p m z e = simp (append_assoc, append-nil)

input_end : (codes ", " ++ fraction_text (record { num = pos 0; den = 1 })) ++ codes ")" ≡ codes ", 0)"
unfolding digits
input_end = refl

input_is : (periods : List ℕ) (lane : ℕ) → printed_param (input_tree periods lane) ≡ input lane (slice_index periods lane)
input_is periods lane =
    input_shape (codes "s") (decimal lane) (codes ": ") (codes "rate (") (decimal (slice_index periods lane)) (codes ", ") (fraction_text (record { num = pos 0; den = 1 })) (codes ")")
    ∙ ap (λ l. (((codes "s" ++ decimal lane) ++ codes ": rate (") ++ decimal (slice_index periods lane)) ++ l) input_end

output_is : (lane : ℕ) → printed_param (output_tree lane) ≡ codes "a" ++ decimal lane
output_is lane = simp (append_assoc, append-nil)

delayed_is : (lane : ℕ) → printed_tree (delayed_tree lane) ≡ delayed lane
unfolding digits
delayed_is lane = simp (append_assoc, append-nil)

group_shape : (o t c u f : List ℕ) → ((o ++ (t ++ [])) ++ c) ++ ((u ++ f) ++ []) ≡ ((o ++ t) ++ (c ++ u)) ++ f
group_shape o t c u f = simp (append_assoc, append-nil)

up_is : (lane factor : ℕ) → printed_tree (grouped_tree lane (ops.Up factor)) ≡ codes "(" ++ delayed lane ++ codes ") *^ " ++ decimal factor
up_is lane factor =
    group_shape (codes "(") (printed_tree (delayed_tree lane)) (codes ")") (codes " *^ ") (decimal factor) ∙ ap (λ t. ((codes "(" ++ t) ++ codes ") *^ ") ++ decimal factor) (delayed_is lane)

down_is : (lane factor : ℕ) → printed_tree (grouped_tree lane (ops.Down factor)) ≡ codes "(" ++ delayed lane ++ codes ") /^ " ++ decimal factor
down_is lane factor =
    group_shape (codes "(") (printed_tree (delayed_tree lane)) (codes ")") (codes " /^ ") (decimal factor) ∙ ap (λ t. ((codes "(" ++ t) ++ codes ") /^ ") ++ decimal factor) (delayed_is lane)

chosen : (b : Bool) (t u : Tree) (x y : List ℕ) → printed_tree t ≡ x → printed_tree u ≡ y → printed_tree (cond b t u) ≡ cond b x y
chosen true t u x y one other = one
chosen false t u x y one other = other

converted_is : (lane from to : ℕ) → printed_tree (converted_tree lane from to) ≡ converted lane from to
converted_is lane from to =
    chosen (from == to) (delayed_tree lane) (cond (nat_lt to from) (grouped_tree lane (ops.Up (from / to))) (grouped_tree lane (ops.Down (to / from))))
    (delayed lane) (cond (nat_lt to from) (codes "(" ++ delayed lane ++ codes ") *^ " ++ decimal (from / to)) (codes "(" ++ delayed lane ++ codes ") /^ " ++ decimal (to / from)))
    (delayed_is lane)
    (chosen (nat_lt to from) (grouped_tree lane (ops.Up (from / to))) (grouped_tree lane (ops.Down (to / from)))
    (codes "(" ++ delayed lane ++ codes ") *^ " ++ decimal (from / to)) (codes "(" ++ delayed lane ++ codes ") /^ " ++ decimal (to / from)) (up_is lane (from / to)) (down_is lane (to / from)))

feed_is : (periods : List ℕ) (lane : ℕ) → printed_tree (feed_tree periods lane) ≡ feed periods lane
feed_is periods lane =
    chosen (lane == 0) (delayed_tree 0) (converted_tree (lane - 1) (slice_index periods (lane - 1)) (slice_index periods lane))
    (delayed 0) (converted (lane - 1) (slice_index periods (lane - 1)) (slice_index periods lane))
    (delayed_is 0) (converted_is (lane - 1) (slice_index periods (lane - 1)) (slice_index periods lane))

equation_shape : (i a d q f b s m x e z : List ℕ)
    → (((i ++ (a ++ d)) ++ q) ++ (((f ++ d) ++ ((b ++ (((s ++ d) ++ []) ++ ((m ++ x) ++ []))) ++ e)) ++ [])) ++ z
    ≡ (((((((i ++ a) ++ d) ++ q) ++ ((f ++ d) ++ b)) ++ ((s ++ d) ++ m)) ++ x) ++ (e ++ z))
equation_shape i a d q f b s m x e z = simp (append_assoc, append-nil)

-- an equation, whatever it reads beside its sensor
fed_is : (lane : ℕ) (t : Tree) (x : List ℕ) → printed_tree t ≡ x
    → printed_equation (record {
      lefts = left_tree lane ∷ [];
      right = tree [] (apply (name_of_lane (codes "f") lane) nowhere (more (var_tree (name_of_lane (codes "s") lane)) (more t none))) [] nowhere;
      at = nowhere;
    })
    ≡ (codes "  a" ++ decimal lane ++ codes " = ") ++ (codes "f" ++ decimal lane ++ codes "(") ++ (codes "s" ++ decimal lane ++ codes ", ") ++ x ++ codes ");\n"
fed_is lane t x is =
    equation_shape (codes "  ") (codes "a") (decimal lane) (codes " = ") (codes "f") (codes "(") (codes "s") (codes ", ") (printed_tree t) (codes ")") (codes ";\n")
    ∙ ap (λ l. ((((codes "  a" ++ decimal lane ++ codes " = ") ++ (codes "f" ++ decimal lane ++ codes "(")) ++ (codes "s" ++ decimal lane ++ codes ", ")) ++ l) ++ codes ");\n") is

equation_is : (periods : List ℕ) (lane : ℕ) → printed_equation (equation_of_lane periods lane) ≡ equation periods lane
equation_is periods lane = fed_is lane (feed_tree periods lane) (feed periods lane) (feed_is periods lane)

node_shape : (n b i r o c l e z : List ℕ) → ((((((((n ++ b) ++ i) ++ r) ++ o) ++ c) ++ []) ++ l) ++ e ++ z) ++ [] ≡ (((((n ++ b) ++ i) ++ r) ++ o) ++ (c ++ l)) ++ e ++ z
node_shape n b i r o c l e z = simp (append_assoc, append-nil)

-- the node, whatever its parameters and its equations
node_is : (n : NodeTree) (ins outs eqs : List ℕ) → n.name ≡ codes "main" → n.locals ≡ [] → printed_params n.ins ≡ ins → printed_params n.outs ≡ outs → flat_map printed_equation n.eqs ≡ eqs
    → printed_node n ++ [] ≡ (codes "node main(" ++ ins ++ codes ") returns (" ++ outs ++ codes ")\nlet\n") ++ eqs ++ codes "tel\n"
node_is n ins outs eqs name locals i o e =
    rw (name, locals, i, o, e) (node_shape (codes "node main") (codes "(") ins (codes ") returns (") outs (codes ")\n") (codes "let\n") eqs (codes "tel\n"))

each_same : {A : Type 0} (one other : ℕ → List A) (n : ℕ) → ((lane : ℕ) → one lane ≡ other lane) → each one n ≡ each other n
each_same one other zero same = refl
each_same one other (suc n) same = ap (λ l. l ++ one n) (each_same one other n same) ∙ ap (λ l. each other n ++ l) (same n)

program_is : (i s a n declared node : List ℕ) → (i ++ s ++ a) ≡ declared → n ≡ node → i ++ s ++ a ++ n ≡ declared ++ node
program_is i s a n declared node one other = rw (sym one, other) (simp append_assoc)

pub generated_is : (periods : List ℕ) → program periods ≡ printed (generated_tree periods)
generated_is periods =
    let n = length periods in
    let i = printed_each printed_import import_tree (λ lane. codes "imported node f" ++ decimal lane ++ codes "(x: int; y: int) returns (z: int) wcet 1;\n") n import_is in
    let s = printed_each (printed_device (codes "sensor ")) (device_tree (codes "s")) (λ lane. codes "sensor s" ++ decimal lane ++ codes " wcet 1;\n") n sensor_is in
    let a = printed_each (printed_device (codes "actuator ")) (device_tree (codes "a")) (λ lane. codes "actuator a" ++ decimal lane ++ codes " wcet 1;\n") n actuator_is in
    let ins = params_each (input_tree periods) (λ lane. input lane (slice_index periods lane)) n (input_is periods) in
    let outs : printed_params (each (one_of output_tree) n) ≡ outputs n = params_each output_tree (λ lane. codes "a" ++ decimal lane) n output_is
    ∙ each_same (λ lane. semicolon_before lane ++ (codes "a" ++ decimal lane)) (λ lane. (semicolon_before lane ++ codes "a") ++ decimal lane) n
    (λ lane. sym (append_assoc (semicolon_before lane) (codes "a") (decimal lane))) in
    let eqs = printed_each printed_equation (equation_of_lane periods) (equation periods) n (equation_is periods) in
    let main = node_is (main_tree periods) (inputs periods) (outputs n) (equations periods) refl refl ins outs eqs in
    let declared : flat_map printed_import (each (one_of import_tree) n)
    ++ flat_map (printed_device (codes "sensor ")) (each (one_of (device_tree (codes "s"))) n)
    ++ flat_map (printed_device (codes "actuator ")) (each (one_of (device_tree (codes "a"))) n)
    ≡ import_lines n ++ sensor_lines n ++ actuator_lines n = rw (i, s, a) refl in
    sym (program_is (flat_map printed_import (each (one_of import_tree) n)) (flat_map (printed_device (codes "sensor ")) (each (one_of (device_tree (codes "s"))) n))
    (flat_map (printed_device (codes "actuator ")) (each (one_of (device_tree (codes "a"))) n)) (printed_node (main_tree periods) ++ [])
    (import_lines n ++ sensor_lines n ++ actuator_lines n)
    ((codes "node main(" ++ inputs periods ++ codes ") returns (" ++ outputs n ++ codes ")\nlet\n") ++ equations periods ++ codes "tel\n") declared main)
