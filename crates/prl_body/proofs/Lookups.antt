-- The searches of a body's names, each through one list.
use Rattle.prl_base.proofs.Standard.{◌≡◌, ℕ, Bool, List, Option, [], ◌∷◌, map, take, refl, sym, ap, ◌∙◌, ◌||◌, BTreeMap, list_any, option_map, bytes_eq}
use Rattle.std.specs.Option.{is_some}
use denote.Ref.{Bor}
use Rattle.prl_base.specs.Values.{type_of}
use Rattle.prl_base.specs.declared.values.Ty.{Ty}
use Rattle.prl_ast.specs.declared.declarations.Import.{Import}
use Rattle.prl_ast.specs.declared.declarations.Port.{Port}
use Rattle.prl_body.specs.Vocabulary.{Variable, BodyText, RegisterText, Statement, has_port, has_register, has_statement, is_before, left_names, port_names, register_names, port_type, register_type}
use Rattle.prl_body.specs.Vocabulary.{statement_named, import_named, has_text, text_names, statement_tree, text_tree, input_named, register_named}
use Rattle.prl_body.specs.declared.codes.Variable.TheVariants as variables
use Rattle.prl_names.specs.Tables.{AreIndices, found}
use Rattle.prl_body.specs.Scopes.{first_named}
use Rattle.prl_body.proofs.FirstOf.{looked_up, any_is, earlier_is}

abbrev Table : Type 0
Table = BTreeMap (Bor (List ℕ)) ℕ

abbrev pub port_name : Port → List ℕ
port_name p = p.name

abbrev pub register_name : RegisterText → List ℕ
register_name r = r.name

abbrev pub left_name : Statement → List ℕ
left_name s = s.left

abbrev pub import_name : Import → List ℕ
import_name i = i.name

abbrev pub text_name : BodyText → List ℕ
text_name t = t.name

abbrev pub as_input : ℕ → Port → Variable × Ty
as_input k p = (variables.Input k, p.ty)

abbrev pub as_register : ℕ → RegisterText → Variable × Ty
as_register k r = (variables.Register k, type_of r.first)

-- what each search makes of the first element of the name
pub input_found : (ports : List Port) (n : List ℕ) (o : Option (ℕ × Port)) → o ≡ first_named port_name n ports →
    option_map (λ (x : ℕ × Port). as_input x.0 x.1) o ≡ input_named 0 ports n
input_found ports n o is =
    ap (option_map (λ (x : ℕ × Port). as_input x.0 x.1)) is
    ∙ sym (looked_up {name = port_name} {n = n} {here = as_input} {search_from = λ k ps. input_named k ps n} (record { end = λ k. refl; step = λ k x xs. refl }) ports)

pub register_found : (registers : List RegisterText) (n : List ℕ) (o : Option (ℕ × RegisterText)) → o ≡ first_named register_name n registers →
    option_map (λ (x : ℕ × RegisterText). as_register x.0 x.1) o ≡ register_named 0 registers n
register_found registers n o is =
    ap (option_map (λ (x : ℕ × RegisterText). as_register x.0 x.1)) is
    ∙ sym (looked_up {name = register_name} {n = n} {here = as_register} {search_from = λ k rs. register_named k rs n} (record { end = λ k. refl; step = λ k x xs. refl }) registers)

pub port_type_found : (ports : List Port) (n : List ℕ) (o : Option (ℕ × Port)) → o ≡ first_named port_name n ports →
    option_map (λ (x : ℕ × Port). x.1.ty) o ≡ port_type ports n
port_type_found ports n o is =
    ap (option_map (λ (x : ℕ × Port). x.1.ty)) is
    ∙ sym (looked_up {name = port_name} {n = n} {here = λ k p. p.ty} {search_from = λ k ps. port_type ps n} (record { end = λ k. refl; step = λ k x xs. refl }) ports)

pub register_type_found : (registers : List RegisterText) (n : List ℕ) (o : Option (ℕ × RegisterText)) → o ≡ first_named register_name n registers →
    option_map (λ (x : ℕ × RegisterText). type_of x.1.first) o ≡ register_type registers n
register_type_found registers n o is =
    ap (option_map (λ (x : ℕ × RegisterText). type_of x.1.first)) is
    ∙ sym (looked_up {name = register_name} {n = n} {here = λ k r. type_of r.first} {search_from = λ k rs. register_type rs n} (record { end = λ k. refl; step = λ k x xs. refl }) registers)

pub statement_found : (statements : List Statement) (n : List ℕ) → statement_named (map statement_tree statements) n ≡ option_map (λ x. statement_tree x.1) (first_named left_name n statements)
statement_found statements n =
    looked_up {name = left_name} {n = n} {here = λ k s. statement_tree s} {search_from = λ k ss. statement_named (map statement_tree ss) n} (record { end = λ k. refl; step = λ k x xs. refl }) statements

pub import_found : (imports : List Import) (n : List ℕ) (o : Option (ℕ × Import)) → o ≡ first_named import_name n imports →
    option_map (λ (x : ℕ × Import). x.1) o ≡ import_named imports n
import_found imports n o is =
    ap (option_map (λ (x : ℕ × Import). x.1)) is
    ∙ sym (looked_up {name = import_name} {n = n} {here = λ k i. i} {search_from = λ k is. import_named is n} (record { end = λ k. refl; step = λ k x xs. refl }) imports)

-- whether a name is there, and before an index, by the tables
pub port_is_there : (table : Table) (ports : List Port) (n : List ℕ) → AreIndices table (port_names ports) → has_port ports n ≡ is_some (found table n)
port_is_there table ports n are = any_is port_name n ports ∙ ap is_some (sym (are n))

pub register_is_there : (table : Table) (registers : List RegisterText) (n : List ℕ) → AreIndices table (register_names registers) → has_register registers n ≡ is_some (found table n)
register_is_there table registers n are = any_is register_name n registers ∙ ap is_some (sym (are n))

pub register_is_earlier : (table : Table) (registers : List RegisterText) (n : List ℕ) (k : ℕ) → AreIndices table (register_names registers) →
    has_register (take k registers) n ≡ is_before k (found table n)
register_is_earlier table registers n k are = earlier_is register_name n k registers ∙ ap (is_before k) (sym (are n))

tree_has : (statements : List Statement) (n : List ℕ) → has_statement (map statement_tree statements) n ≡ list_any (λ (s : Statement). bytes_eq s.left n) statements
tree_has [] n = refl
tree_has (s ∷ statements) n = ap (λ (b : Bool). bytes_eq s.left n || b) (tree_has statements n)

pub statement_is_earlier : (table : Table) (statements : List Statement) (n : List ℕ) (k : ℕ) → AreIndices table (left_names statements) →
    has_statement (map statement_tree (take k statements)) n ≡ is_before k (found table n)
statement_is_earlier table statements n k are = tree_has (take k statements) n ∙ earlier_is left_name n k statements ∙ ap (is_before k) (sym (are n))

tree_has_text : (texts : List BodyText) (n : List ℕ) → has_text (map text_tree texts) n ≡ list_any (λ (t : BodyText). bytes_eq t.name n) texts
tree_has_text [] n = refl
tree_has_text (t ∷ ts) n = ap (λ (b : Bool). bytes_eq t.name n || b) (tree_has_text ts n)

pub text_is_there : (table : Table) (texts : List BodyText) (n : List ℕ) → AreIndices table (text_names texts) → has_text (map text_tree texts) n ≡ is_some (found table n)
text_is_there table texts n are = tree_has_text texts n ∙ any_is text_name n texts ∙ ap is_some (sym (are n))

pub text_is_earlier : (table : Table) (texts : List BodyText) (n : List ℕ) (k : ℕ) → AreIndices table (text_names texts) →
    has_text (map text_tree (take k texts)) n ≡ is_before k (found table n)
text_is_earlier table texts n k are = tree_has_text (take k texts) n ∙ earlier_is text_name n k texts ∙ ap (is_before k) (sym (are n))
