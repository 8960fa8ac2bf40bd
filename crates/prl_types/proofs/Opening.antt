-- The faults of names, and the fault that a parameter's type is open.
use Rattle.prl_base.proofs.Standard.{◌≡◌, ◌≢◌, ◌<◌, ◌∙◌, ℕ, List, [], length, map, get_or, Option, Some, Ok, Err, subst, ap, refl, arith, slice_get_read, slice_get-map, length-map, option_map}
use Rattle.std.specs.List.{slice_get}
use Rattle.prl_ast.specs.Trees.{ProgramTree}
use Rattle.prl_names.specs.Checks.{names_of}
use Rattle.prl_names.specs.declared.checks.NameFault.{NameFault}
use Rattle.prl_names.specs.declared.checks.NameFault.TheVariants as naming
use Rattle.prl_types.specs.Vocabulary.{Parameter, TypeFault, arity_faults, owned_of, Owned, parameters_of, count_of, rules_of, FailsWith, of_names}
use Rattle.prl_types.specs.declared.faults.TypeFault.TheVariants as faults
use Rattle.prl_terms.specs.Solutions.{IsFree}

pub open_fault : (p : ProgramTree) (main : Option (List ℕ)) (node : ℕ) → names_of p main ≡ Ok node → arity_faults p ≡ [] → (k : ℕ) → IsFree (rules_of p) k → (q : Parameter) → slice_get (parameters_of p) k ≡ Some (owned_of q)
    → (f : TypeFault) → f ≡ faults.TypeFree q.node.now q.param.now.name → FailsWith p main f
open_fault p main node names arity k free q is f fault = rw fault (λ _. record {
  node = node;
  names = names;
  arity = arity;
  number = k;
  first = free;
  owned = owned_of q;
  is = is;
  node_is = refl;
  name_is = refl;
})

-- a fault of names is told as it is
pub names_fault : (p : ProgramTree) (main : Option (List ℕ)) (fault : NameFault) → (fault ≢ naming.Memory → names_of p main ≡ Err fault) → FailsWith p main (of_names fault)
names_fault p main (naming.Twice name) is = λ _. is (λ same. cc)
names_fault p main (naming.Unknown name) is = λ _. is (λ same. cc)
names_fault p main (naming.Undefined name) is = λ _. is (λ same. cc)
names_fault p main (naming.Recursive name) is = λ _. is (λ same. cc)
names_fault p main naming.NoMain is = λ _. is (λ same. cc)
names_fault p main naming.Memory is = λ some. absurd (some refl)

-- the parameter that is read
pub owned_read : (p : ProgramTree) (list : List Parameter) (k : ℕ) (q : Parameter) → map owned_of list ≡ parameters_of p → k < count_of p → q ≡ get_or list k q → slice_get (parameters_of p) k ≡ Some (owned_of q)
owned_read p list k q e lt is =
    let lengths : length (map owned_of list) ≡ length list = length-map list owned_of in
    let same : length (map owned_of list) ≡ count_of p = ap length e in
    subst (λ (os : List Owned). slice_get os k ≡ Some (owned_of q)) e
    (slice_get-map owned_of list k ∙ ap (λ (o : Option Parameter). option_map owned_of o) (slice_get_read list (length list) k q refl (omega arith) is))
