-- The bodies of used imports are there, with the imports' ports.
use Rattle.prl_base.proofs.Standard.{◌≡◌, ℕ, zero, suc, Bool, true, false, List, [], ◌∷◌, ◌++◌, map, slice_get, Option, Some, None, Result, Ok, Err, refl, sym, ap, ◌∙◌, subst, if◌then◌else◌, bytes_eq}
use Rattle.prl_base.proofs.Standard.{bytes_eq-Decides}
use Rattle.prl_base.specs.Reading.{◌>>=◌}
use Rattle.prl_ast.specs.declared.declarations.Import.{Import}
use Rattle.prl_body.specs.Vocabulary.{CheckedBody, BodyFault, body_named, RegisterTree, BodyTree, body_tree, typed_statements, output_values, resolved_registers, without_fault, checked_body}
use Rattle.prl_body.specs.Vocabulary.{checked_one, checked_bodies, has_text, has_body, all_there, checked, import_named, Expression, name_fault, TextTree, HaveBodiesOf}
use Rattle.prl_body.specs.declared.faults.BodyFault.TheVariants as faults
use Rattle.prl_body.proofs.Inversion.{both_ok, passed_ok}

-- the tree of a checked body has the ports of the import of its name
record IsTreeOf (imports : List Import) (t : BodyTree) : Type 0 where
  of : Import
  declared : import_named imports t.name ≡ Some of
  ins : t.ins ≡ of.ins
  outs : t.outs ≡ of.outs

abbrev AreTreesOf : List Import → List BodyTree → Type 0
AreTreesOf imports ts = (k : ℕ) (t : BodyTree) → slice_get ts k ≡ Some t → IsTreeOf imports t

none_of : (imports : List Import) → AreTreesOf imports []
none_of imports k t found = absurd (cc)

one_more : (imports : List Import) (t : BodyTree) (ts : List BodyTree) → IsTreeOf imports t → AreTreesOf imports ts → AreTreesOf imports (t ∷ ts)
one_more imports t ts h hs zero x found =
    let same : t ≡ x = cc in
    subst (IsTreeOf imports) same h
one_more imports t ts h hs (suc k) x found = hs k x found

pub record HasPorts (of : Import) (name : List ℕ) (t : BodyTree) : Type 0 where
  pub name_is : t.name ≡ name
  pub ins : t.ins ≡ of.ins
  pub outs : t.outs ≡ of.outs

-- what a checked body is made of
pub record IsMadeOf (of : Import) (body : TextTree) (t : BodyTree) : Type 0 where
  pub values : List Expression
  pub registers : List RegisterTree
  pub values_are : output_values of.ins body.registers body.at.at body.statements of.outs ≡ Ok values
  pub registers_are : resolved_registers of.ins body.registers body.statements 0 body.registers ≡ Ok registers
  pub same : ◌≡◌ {A = BodyTree} (record { name = body.name; ins = of.ins; outs = of.outs; registers = registers; values = values }) t

pub made_of : (of : Import) (body : TextTree) (t : BodyTree) → checked_body of body ≡ Ok t → IsMadeOf of body t
made_of of body t is =
    let ins = of.ins in
    let finish : List Expression → List RegisterTree → BodyTree = λ values registers. record { name = body.name; ins = ins; outs = of.outs; registers = registers; values = values } in
    let from_values : List Expression → Result BodyTree BodyFault = λ values. (resolved_registers ins body.registers body.statements 0 body.registers >>= λ registers. Ok (finish values registers)) in
    let from_types : Unit {0} → Result BodyTree BodyFault = λ u. (output_values ins body.registers body.at.at body.statements of.outs >>= from_values) in
    let from_names : Unit {0} → Result BodyTree BodyFault = λ u. (typed_statements ins of.outs body.registers body.statements >>= from_types) in
    let names = both_ok (without_fault (name_fault ins of.outs body)) from_names t is in
    let types = both_ok (typed_statements ins of.outs body.registers body.statements) from_types t names.rest in
    let values = both_ok (output_values ins body.registers body.at.at body.statements of.outs) from_values t types.rest in
    let last : List RegisterTree → Result BodyTree BodyFault = λ registers. Ok (finish values.first registers) in
    let registers = both_ok (resolved_registers ins body.registers body.statements 0 body.registers) last t values.rest in
    record { values = values.first; registers = registers.first; values_are = values.is; registers_are = registers.is; same = cc (registers.rest) }

pub checked_ports : (of : Import) (body : TextTree) (t : BodyTree) → checked_body of body ≡ Ok t → HasPorts of body.name t
checked_ports of body t is = subst (HasPorts of body.name) (made_of of body t is).same (record { name_is = refl; ins = refl; outs = refl })

pub refused_ok : {A F : Type 0} (b : Bool) (r : Result A F) (y : A) (e : F) → (if b then Err e else r) ≡ Ok y → r ≡ Ok y
refused_ok true r y e is = absurd (cc)
refused_ok false r y e is = is

-- a body is the first of a text, and there are others after it
pub record IsFirst (of : Import) (b : TextTree) (rest : Result (List BodyTree) BodyFault) (ts : List BodyTree) : Type 0 where
  pub first : BodyTree
  pub others : List BodyTree
  pub ports : HasPorts of b.name first
  pub others_are : rest ≡ Ok others
  pub same : first ∷ others ≡ ts

pub first_checked : (earlier : List TextTree) (of : Import) (b : TextTree) (rest : Result (List BodyTree) BodyFault) (ts : List BodyTree) →
    checked_one earlier (Some of) b (λ x. (rest >>= λ xs. Ok (x ∷ xs))) rest ≡ Ok ts → IsFirst of b rest ts
first_checked earlier of b rest ts is =
    let found : BodyTree → Result (List BodyTree) BodyFault = λ x. (rest >>= λ xs. Ok (x ∷ xs)) in
    let passed = refused_ok (has_text earlier b.name) (checked_body of b >>= found) ts (faults.BodyName b.at.at) is in
    let one = both_ok (checked_body of b) found ts passed in
    let last : List BodyTree → Result (List BodyTree) BodyFault = λ xs. Ok (one.first ∷ xs) in
    let two = both_ok rest last ts one.rest in
    record { first = one.first; others = two.first; ports = checked_ports of b one.first one.is; others_are = two.is; same = cc (two.rest) }

-- the body of a text, and those after it
checked_next : (imports : List Import) (earlier : List TextTree) (b : TextTree) (rest : Result (List BodyTree) BodyFault) (ts : List BodyTree) (o : Option Import) →
    import_named imports b.name ≡ o → ((xs : List BodyTree) → rest ≡ Ok xs → AreTreesOf imports xs) →
    checked_one earlier o b (λ x. (rest >>= λ xs. Ok (x ∷ xs))) rest ≡ Ok ts → AreTreesOf imports ts
checked_next imports earlier b rest ts None declared others is = others ts is
checked_next imports earlier b rest ts (Some of) declared others is =
    let made = first_checked earlier of b rest ts is in
    let ports = made.ports in
    let here : IsTreeOf imports made.first = record { of = of; declared = ap (import_named imports) ports.name_is ∙ declared; ins = ports.ins; outs = ports.outs } in
    subst (AreTreesOf imports) made.same (one_more imports made.first made.others here (others made.others made.others_are))

checked_trees : (imports : List Import) (earlier texts : List TextTree) (ts : List BodyTree) → checked_bodies imports earlier texts ≡ Ok ts → AreTreesOf imports ts
checked_trees imports earlier [] ts is =
    let same : [] ≡ ts = cc in
    subst (AreTreesOf imports) same (none_of imports)
checked_trees imports earlier (b ∷ bs) ts is =
    checked_next imports earlier b (checked_bodies imports (earlier ++ b ∷ []) bs) ts (import_named imports b.name) refl
    (checked_trees imports (earlier ++ b ∷ []) bs) is

-- a name that a tree has is that of a body
record Found (bodies : List CheckedBody) (name : List ℕ) : Type 0 where
  body : CheckedBody
  at : ℕ
  tree : slice_get (map body_tree bodies) at ≡ Some (body_tree body)
  named : body_named bodies name ≡ Some body
  name_is : body.name ≡ name

found_first : (b : CheckedBody) (bs : List CheckedBody) (name : List ℕ) (same : Bool) → bytes_eq b.name name ≡ same →
    (has_body (map body_tree bs) name ≡ true → Found bs name) → has_body (map body_tree (b ∷ bs)) name ≡ true → Found (b ∷ bs) name
found_first b bs name true is others has = record {
  body = b;
  at = 0;
  tree = refl;
  named = rw is refl;
  name_is = (bytes_eq-Decides b.name name).0 is;
}
found_first b bs name false is others has =
    let later : has_body (map body_tree bs) name ≡ true = rw is at has in
    let rest = others later in
    record {
      body = rest.body;
      at = suc rest.at;
      tree = rest.tree;
      named = rw is rest.named;
      name_is = rest.name_is;
    }

found : (bodies : List CheckedBody) (name : List ℕ) → has_body (map body_tree bodies) name ≡ true → Found bodies name
found [] name has = absurd (cc)
found (b ∷ bs) name has = found_first b bs name (bytes_eq b.name name) refl (found bs name) has

each_there : (trees : List BodyTree) (used : List (List ℕ)) (u : Unit {0}) → all_there trees used ≡ Ok u → (k : ℕ) (name : List ℕ) → slice_get used k ≡ Some name →
    has_body trees name ≡ true
each_there trees [] u is k name at = absurd (cc)
each_there trees (n ∷ ns) u is zero name at =
    let passed = passed_ok (has_body trees n) (all_there trees ns) u (faults.Missing n) is in
    let same : n ≡ name = cc in
    subst (λ x. has_body trees x ≡ true) same passed.0
each_there trees (n ∷ ns) u is (suc k) name at =
    let passed = passed_ok (has_body trees n) (all_there trees ns) u (faults.Missing n) is in
    each_there trees ns u passed.1 k name at

-- the bodies that all are, and those that are used are among them
parts_of_checked : (imports : List Import) (used : List (List ℕ)) (texts : List TextTree) (trees : List BodyTree) → checked imports used texts ≡ Ok trees
    → (checked_bodies imports [] texts ≡ Ok trees) × ((u : Unit {0}) × (all_there trees used ≡ Ok u))
parts_of_checked imports used texts trees is =
    let last : List BodyTree → Unit {0} → Result (List BodyTree) BodyFault = λ ts u. Ok ts in
    let one = both_ok (checked_bodies imports [] texts) (λ ts. (all_there ts used >>= last ts)) trees is in
    let two = both_ok (all_there one.first used) (last one.first) trees one.rest in
    let same : one.first ≡ trees = cc (two.rest) in
    (subst (λ ts. checked_bodies imports [] texts ≡ Ok ts) same one.is, (two.first, subst (λ ts. all_there ts used ≡ Ok two.first) same two.is))

pub HaveBodiesOf_checked : (imports : List Import) (used : List (List ℕ)) (texts : List TextTree) (bodies : List CheckedBody) →
    checked imports used texts ≡ Ok (map body_tree bodies) → HaveBodiesOf imports used bodies
HaveBodiesOf_checked imports used texts bodies is k name at =
    let trees = map body_tree bodies in
    let parts = parts_of_checked imports used texts trees is in
    let here = found bodies name (each_there trees used parts.1.0 parts.1.1 k name at) in
    let of_tree = checked_trees imports [] texts trees parts.0 here.at (body_tree here.body) here.tree in
    record {
      body = here.body;
      of = of_tree.of;
      named = here.named;
      declared = ap (import_named imports) (sym here.name_is) ∙ of_tree.declared;
      ins = of_tree.ins;
      outs = of_tree.outs;
    }
