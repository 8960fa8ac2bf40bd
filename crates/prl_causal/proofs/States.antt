-- Behaviours and their states.
use Rattle.prl_base.proofs.Standard.{◌≡◌, ◌+◌, ℕ, List, [], ◌∷◌, ◌++◌, map, length, slice_index_or, refl, sym, ap, ◌∙◌, arith, range_with_len, length-map}
use Rattle.std.proofs.lemmas.List.{append_assoc, length-append}
use Rattle.prl_ast.specs.Trees.{ProgramTree}
use Rattle.prl_flow.specs.States.{State, flow_at, registers_at}
use Rattle.prl_causal.specs.Vocabulary.{Entered, flows_in, imports_in, Behaviour, behaviour_of, state_in, IsText}
use Rattle.prl_causal.proofs.Marks.{flows-map, imports-map, text-map}
use Rattle.prl_causal.proofs.Shapes.{one_behaviour, as_many_flows, as_many_imports}

at_length : {A : Type 0} (ps : List A) (x : A) (xs : List A) (d : A) → slice_index_or (ps ++ (x ∷ xs)) (length ps) d ≡ x
at_length [] x xs d = refl
at_length (p ∷ ps) x xs d = at_length ps x xs d

read_after : {A : Type 0} (d : A) (ps xs : List A) (k : ℕ) → k ≡ length ps → map (λ i. slice_index_or (ps ++ xs) i d) (range_with_len k (length xs)) ≡ xs
read_after d ps [] k e = refl
read_after d ps (x ∷ xs) k e =
    let first : slice_index_or (ps ++ (x ∷ xs)) k d ≡ x = ap (λ i. slice_index_or (ps ++ (x ∷ xs)) i d) e ∙ at_length ps x xs d in
    let moved : (ps ++ (x ∷ [])) ++ xs ≡ ps ++ (x ∷ xs) = append_assoc ps (x ∷ []) xs in
    let rest : map (λ i. slice_index_or ((ps ++ (x ∷ [])) ++ xs) i d) (range_with_len (k + 1) (length xs)) ≡ xs = read_after d (ps ++ (x ∷ [])) xs (k + 1) (omega (arith, e, length-append ps (x ∷ []))) in
    rw (first, ap (λ ys. map (λ i. slice_index_or ys i d) (range_with_len (k + 1) (length xs))) (sym moved) ∙ rest) refl

-- a list read at 0, 1, 2, ..
pub read_all : {A : Type 0} (d : A) (xs : List A) → map (λ i. slice_index_or xs i d) (range_with_len 0 (length xs)) ≡ xs
read_all d xs = read_after d [] xs 0 refl

flows_are : (s : State) (e : Entered ℕ ℕ ℕ) → flows_in e ≡ range_with_len 0 (length s.flows) → flows_in (behaviour_of s e) ≡ s.flows
flows_are s e counted =
    flows-map (flow_at s) (registers_at s) (λ k. tt {0}) e ∙ ap (map (flow_at s)) counted ∙ read_all (record { clock = record { period = 1; start = 0 }; values = [] }) s.flows

imports_are : (s : State) (e : Entered ℕ ℕ ℕ) → imports_in e ≡ range_with_len 0 (length s.registers) → imports_in (behaviour_of s e) ≡ s.registers
imports_are s e counted =
    imports-map (flow_at s) (registers_at s) (λ k. tt {0}) e ∙ ap (map (registers_at s)) counted ∙ read_all [] s.registers

pub made_text : (p : ProgramTree) (k : ℕ) (e : Entered ℕ ℕ ℕ) (s : State) → IsText p k e → IsText p k (behaviour_of s e)
made_text p k e s text = text-map (flow_at s) (registers_at s) (λ k. tt {0}) p k e text

pub made : (p : ProgramTree) (k : ℕ) (e : Entered ℕ ℕ ℕ) (s : State) → IsText p k e → flows_in e ≡ range_with_len 0 (length s.flows) → imports_in e ≡ range_with_len 0 (length s.registers)
    → IsText p k (behaviour_of s e) × (state_in (behaviour_of s e) ≡ s)
made p k e s text flows imports = (made_text p k e s text, rw (flows_are s e flows, imports_are s e imports) refl)

-- a behaviour of the text has as many flows and registers as the text has places for them
pub flow_places : (p : ProgramTree) (k : ℕ) (e : Entered ℕ ℕ ℕ) (b : Behaviour) → IsText p k e → IsText p k b → length (flows_in e) ≡ length (flows_in b)
flow_places p k e b text_e text_b =
    let s = state_in b in
    sym (ap length (flows-map (flow_at s) (registers_at s) (λ k. tt {0}) e) ∙ length-map (flows_in e) (flow_at s))
    ∙ as_many_flows p k (behaviour_of s e) b (made_text p k e s text_e) text_b

pub import_places : (p : ProgramTree) (k : ℕ) (e : Entered ℕ ℕ ℕ) (b : Behaviour) → IsText p k e → IsText p k b → length (imports_in e) ≡ length (imports_in b)
import_places p k e b text_e text_b =
    let s = state_in b in
    sym (ap length (imports-map (flow_at s) (registers_at s) (λ k. tt {0}) e) ∙ length-map (imports_in e) (registers_at s))
    ∙ as_many_imports p k (behaviour_of s e) b (made_text p k e s text_e) text_b

pub own : (p : ProgramTree) (k : ℕ) (e : Entered ℕ ℕ ℕ) (b : Behaviour) → IsText p k e → IsText p k b
    → flows_in e ≡ range_with_len 0 (length (flows_in e)) → imports_in e ≡ range_with_len 0 (length (imports_in e)) → behaviour_of (state_in b) e ≡ b
own p k e b text_e text_b flows imports =
    let s = state_in b in
    let f = flows ∙ ap (range_with_len 0) (flow_places p k e b text_e text_b) in
    let g = imports ∙ ap (range_with_len 0) (import_places p k e b text_e text_b) in
    one_behaviour p k (behaviour_of s e) b (made_text p k e s text_e) text_b (flows_are s e f) (imports_are s e g)
