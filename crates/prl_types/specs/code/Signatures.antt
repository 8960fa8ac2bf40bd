-- What imports and nodes take and give, by their types.
use Rattle.std.specs.Prelude.{◌≡◌, ℕ, Bool, true, false, List, [], map, length, Option, Some, None}
use Rattle.std.specs.List.{range_with_len}
use Rattle.prl_ast.specs.Trees.{ProgramTree}
use Rattle.prl_names.specs.declared.lookups.Callee.{Callee}
use Rattle.prl_names.specs.declared.lookups.Callee.TheVariants as callees
use Rattle.prl_types.specs.declared.signatures.Signature.{Signature}
use Rattle.prl_terms.specs.declared.terms.Term.{Term}
use Rattle.prl_types.specs.Flows.{inputs_of, outputs_of}

abbrev pub signature_of : ProgramTree → Callee → Signature
signature_of p callee = record { ins = inputs_of p (Some callee); outs = outputs_of p (Some callee) }

abbrev pub import_signature : ProgramTree → ℕ → Signature
import_signature p k = signature_of p (callees.Import k)

abbrev pub node_signature : ProgramTree → ℕ → Signature
node_signature p k = signature_of p (callees.Node k)

-- the node of an index, or the import
abbrev pub callee_at : Bool → ℕ → Callee
callee_at true k = callees.Node k
callee_at false k = callees.Import k

-- one for each import, and one for each node
pub record AreSignatures (p : ProgramTree) (imports nodes : List Signature) : Type 0 where
  pub of_imports : imports ≡ map (import_signature p) (range_with_len 0 (length p.imports))
  pub of_nodes : nodes ≡ map (node_signature p) (range_with_len 0 (length p.nodes))

-- nothing is taken or given where nothing is applied
abbrev pub taken : Option Signature → List Term
taken None = []
taken (Some s) = s.ins

abbrev pub given : Option Signature → List Term
given None = []
given (Some s) = s.outs

-- the signature has what is taken and given
pub record Signs (p : ProgramTree) (o : Option Signature) (callee : Callee) : Type 0 where
  pub ins : taken o ≡ inputs_of p (Some callee)
  pub outs : given o ≡ outputs_of p (Some callee)
