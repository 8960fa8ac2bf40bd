-- Lists that are made one by one.
use Rattle.prl_base.proofs.Standard.{◌≡◌, ◌≤◌, ◌+◌, ℕ, zero, suc, List, [], ◌∷◌, ◌++◌, map, length, drop, get_or, slice_get, Some, refl, sym, ap, ◌∙◌, arith, range_with_len, drop_all, append-nil}
use Rattle.prl_base.proofs.Standard.{map-append, get_or_from_slice_get}
use Rattle.prl_ast.specs.Trees.{ProgramTree}
use Rattle.prl_ast.specs.declared.declarations.Param.{Param}
use Rattle.prl_ast.specs.declared.declarations.Placed.{Placed}
use Rattle.prl_flow.specs.declared.programs.Def.{Def}
use Rattle.prl_flow.specs.declared.programs.Flow.{Flow}
use Rattle.prl_terms.specs.declared.terms.Term.TheVariants as terms
use Rattle.prl_base.specs.declared.values.Ty.TheVariants as kinds
use Rattle.prl_types.specs.Parameters.{first_of}
use Rattle.prl_expand.specs.Vocabulary.{Numbered, Types, paired, resolved, have_types, types_of, flow_of, flows_of, variables_made}
use Rattle.prl_expand.specs.declared.terms.Term as given

pub range_suc : (a n : ℕ) → range_with_len a (suc n) ≡ range_with_len a n ++ (a + n) ∷ []
range_suc a zero = let here : a ≡ a + 0 = omega arith in ap (λ b. b ∷ []) here
range_suc a (suc n) =
    let here : (a + 1) + n ≡ a + suc n = omega arith in
    ap (λ xs. a ∷ xs) (range_suc (a + 1) n ∙ ap (λ b. range_with_len (a + 1) n ++ b ∷ []) here)

pub range_more : (a n : ℕ) → range_with_len a (n + 1) ≡ range_with_len a n ++ (a + n) ∷ []
range_more a n = let next : n + 1 ≡ suc n = omega arith in ap (range_with_len a) next ∙ range_suc a n

-- no name or no flow is left
no_pairs : (ls : List Placed) (gs : List ℕ) → gs ≡ [] → paired ls gs ≡ []
no_pairs [] gs e = refl
no_pairs (l ∷ ls) [] e = refl
no_pairs (l ∷ ls) (g ∷ gs) e = absurd (cc)

pub pairs_end : (pairs whole : List (List ℕ × ℕ)) (ls : List Placed) (ts : List given.Term) (k : ℕ) → length ts ≤ k → pairs ++ paired (drop k ls) (map flow_of (drop k ts)) ≡ whole → pairs ≡ whole
pairs_end pairs whole ls ts k past e =
    sym (append-nil pairs) ∙ ap (λ (rs : List (List ℕ × ℕ)). pairs ++ rs) (sym (no_pairs (drop k ls) (map flow_of (drop k ts)) (ap (map flow_of) (drop_all k ts past)))) ∙ e

no_flows : (label : List ℕ) (qs : List Param) (ts : List given.Term) (ds : List Def) → ts ≡ [] → variables_made label qs ts ds ≡ []
no_flows label [] ts ds e = refl
no_flows label (q ∷ qs) [] ds e = refl
no_flows label (q ∷ qs) (t ∷ ts) ds e = absurd (cc)

no_defs : (label : List ℕ) (qs : List Param) (ts : List given.Term) (ds : List Def) → ds ≡ [] → variables_made label qs ts ds ≡ []
no_defs label [] ts ds e = refl
no_defs label (q ∷ qs) [] ds e = refl
no_defs label (q ∷ qs) (t ∷ ts) [] e = refl
no_defs label (q ∷ qs) (t ∷ ts) (d ∷ ds) e = absurd (cc)

ended : (flows whole : List Flow) (rest : List Numbered) → rest ≡ [] → flows ++ flows_of rest ≡ whole → flows ≡ whole
ended flows whole rest none e = sym (append-nil flows) ∙ ap (λ (rs : List Numbered). flows ++ flows_of rs) (sym none) ∙ e

pub terms_end : (label : List ℕ) (flows whole : List Flow) (qs : List Param) (ts : List given.Term) (ds : List Def) (k : ℕ) → length ts ≤ k → flows ++ flows_of (variables_made label qs (drop k ts) ds) ≡ whole → flows ≡ whole
terms_end label flows whole qs ts ds k past e = ended flows whole (variables_made label qs (drop k ts) ds) (no_flows label qs (drop k ts) ds (drop_all k ts past)) e

pub defs_end : (label : List ℕ) (flows whole : List Flow) (qs : List Param) (ts : List given.Term) (ds : List Def) → ds ≡ [] → flows ++ flows_of (variables_made label qs ts ds) ≡ whole → flows ≡ whole
defs_end label flows whole qs ts ds none e = ended flows whole (variables_made label qs ts ds) (no_defs label qs ts ds none) e

pub flows_more : (ts : List given.Term) (t : given.Term) (a n : ℕ) → map flow_of ts ≡ range_with_len a n → t.flow ≡ a + n → map flow_of (ts ++ t ∷ []) ≡ range_with_len a (n + 1)
flows_more ts t a n e f = map-append flow_of ts (t ∷ []) ∙ ap (λ xs. xs ++ t.flow ∷ []) e ∙ ap (λ x. range_with_len a n ++ x ∷ []) f ∙ sym (range_more a n)

pub types_more : (p : ProgramTree) (tys : Types) (k n : ℕ) (ts : List given.Term) (t : given.Term) → types_of ts ≡ have_types p tys k n → slice_get tys (first_of p k + n) ≡ Some t.ty
    → types_of (ts ++ t ∷ []) ≡ have_types p tys k (n + 1)
types_more p tys k n ts t e found =
    let first : ℕ = first_of p k in
    let ty : get_or tys (first + n) kinds.Int ≡ t.ty = get_or_from_slice_get tys (first + n) t.ty kinds.Int found in
    map-append (λ (u : given.Term). u.ty) ts (t ∷ []) ∙ ap (λ xs. xs ++ t.ty ∷ []) e ∙ ap (λ x. have_types p tys k n ++ x ∷ []) (sym ty)
    ∙ sym (map-append (resolved tys) (map terms.Parameter (range_with_len first n)) (terms.Parameter (first + n) ∷ []))
    ∙ ap (map (resolved tys)) (sym (map-append terms.Parameter (range_with_len first n) ((first + n) ∷ [])))
    ∙ ap (λ xs. map (resolved tys) (map terms.Parameter xs)) (sym (range_more first n))
