-- The labels that tell of cycles.
use Rattle.std.proofs.Common.{◌≡◌, ℕ, true, List, slice_get, Some, sym, ◌∙◌, ap, subst}
use Rattle.prl_flow.specs.Vocabulary.{FlatProgram, IsCyclic, IsCycleLabel, named, unnamed, is_made}
use Rattle.prl_flow.specs.declared.programs.Flow.{Flow}
use Rattle.prl_causal.specs.Cycles.{IsFirst, IsFirstNamed, IsLabelOf}

same_label : (p : FlatProgram) (i : ℕ) (label : List ℕ) (flow : Flow) → slice_get p.flows i ≡ Some flow → IsLabelOf p i label → label ≡ flow.label
same_label p i label flow found of = (let there = of.found in let same : of.flow ≡ flow = cc in of.is ∙ ap (λ f. f.label) same)

pub label_named : (p : FlatProgram) (i : ℕ) (label : List ℕ) → IsFirstNamed p i → IsLabelOf p i label → IsCycleLabel p label
label_named p i label first of =
    subst (λ l. IsCycleLabel p l) (sym (same_label p i label first.flow first.cyclic.found of)) (named i first.flow first.cyclic first.named first.earlier)

pub label_unnamed : (p : FlatProgram) (i : ℕ) (label : List ℕ) → ((j : ℕ) (flow : Flow) → IsCyclic p j flow → is_made flow.label ≡ true) → IsFirst p i → IsLabelOf p i label → IsCycleLabel p label
label_unnamed p i label made first of =
    subst (λ l. IsCycleLabel p l) (sym (same_label p i label first.flow first.cyclic.found of))
    (unnamed i first.flow first.cyclic (λ j other cyclic. (first.lowest j other cyclic, made j other cyclic)))
