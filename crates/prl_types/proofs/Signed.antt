-- The signature that is looked up has what is taken and given.
use Rattle.prl_base.proofs.Standard.{◌≡◌, ◌<◌, ◌≤◌, ◌+◌, ◌∙◌, ℕ, List, length, map, arith, sym, subst, ap, inl, inr, Some, None, cases_lt, get_or-map-range_with_len, length-map-range_with_len}
use Rattle.prl_base.proofs.Standard.{slice_get-get_or, slice_get_past, range_with_len}
use Rattle.std.specs.List.{slice_get}
use Rattle.prl_ast.specs.Trees.{ProgramTree}
use Rattle.prl_names.specs.declared.lookups.Callee.{Callee}
use Rattle.prl_names.specs.declared.lookups.Callee.TheVariants as callees
use Rattle.prl_types.specs.code.Signatures.{signature_of}
use Rattle.prl_types.specs.Vocabulary.{Signature, import_inputs, import_outputs, node_inputs, node_outputs, first_of, import_signature, node_signature, taken, given, Signs}

-- the element of such a list
read : (f : ℕ → Signature) (n k : ℕ) → k < n → slice_get (map f (range_with_len 0 n)) k ≡ Some (f k)
read f n k below =
    let len = length-map-range_with_len f 0 n in
    let start : 0 + k ≡ k = omega arith in
    slice_get-get_or (map f (range_with_len 0 n)) k (f k) (omega (arith, len, below))
    ∙ ap (λ s. Some s) (get_or-map-range_with_len f 0 n k k (f k) below start)

past : (f : ℕ → Signature) (n k : ℕ) → n ≤ k → slice_get (map f (range_with_len 0 n)) k ≡ None
past f n k above =
    let len = length-map-range_with_len f 0 n in
    slice_get_past (map f (range_with_len 0 n)) k (omega (arith, len, above))

-- what the list has at an index is signed, if past its end nothing is taken or given
signed : (p : ProgramTree) (callee : ℕ → Callee) (n : ℕ) (list : List Signature) (k : ℕ) → list ≡ map (λ j. signature_of p (callee j)) (range_with_len 0 n) →
    (n ≤ k → Signs p None (callee k)) → Signs p (slice_get list k) (callee k)
signed p callee n list k is beyond =
    elim (cases_lt k n) [
      | inl below ↦
          (let here = ap (λ l. slice_get l k) is ∙ read (λ j. signature_of p (callee j)) n k below in
          record { ins = ap taken here; outs = ap given here })
      | inr above ↦ subst (λ o. Signs p o (callee k)) (sym (ap (λ l. slice_get l k) is ∙ past (λ j. signature_of p (callee j)) n k above)) (beyond above)
    ]

pub import_signed : (p : ProgramTree) (list : List Signature) (k : ℕ) → list ≡ map (import_signature p) (range_with_len 0 (length p.imports)) →
    Signs p (slice_get list k) (callees.Import k)
import_signed p list k is =
    signed p callees.Import (length p.imports) list k is
    (λ above. let none = slice_get_past p.imports k above in record { ins = sym (ap import_inputs none); outs = sym (ap import_outputs none) })

pub node_signed : (p : ProgramTree) (list : List Signature) (k : ℕ) → list ≡ map (node_signature p) (range_with_len 0 (length p.nodes)) →
    Signs p (slice_get list k) (callees.Node k)
node_signed p list k is =
    signed p callees.Node (length p.nodes) list k is
    (λ above. let none = slice_get_past p.nodes k above in record { ins = sym (ap (node_inputs (first_of p k)) none); outs = sym (ap (node_outputs (first_of p k)) none) })

pub same_signature : (s t : Signature) → s.ins ≡ t.ins → s.outs ≡ t.outs → s ≡ t
same_signature s t ins outs = λ i. record { ins = ins i; outs = outs i }
