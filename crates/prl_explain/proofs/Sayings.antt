-- What is told, from its parts.
use Rattle.std.proofs.Common.{◌≡◌, ◌++◌, ℕ, List, [], Option, Some, None, inl, inr, subst, true}
use Rattle.prl_base.specs.Decimals.{decimal_of}
use Rattle.prl_plan.specs.Vocabulary.{PlanView}
use Rattle.prl_spots.specs.Counted.{IsCounted}
use Rattle.prl_hints.specs.Hints.{IsHintTold}
use Rattle.prl_shown.specs.Shown.{shown}
use Rattle.prl_sentences.specs.declared.kinds.Kind.{Kind}
use Rattle.prl_sentences.specs.declared.kinds.Part.TheVariants as parts
use Rattle.prl_sentences.specs.Kinds.{IsLineOf, rest_of}
use Rattle.prl_explain.specs.declared.texts.Texts.{Texts}
use Rattle.prl_explain.specs.Details.{IsPlanFrom}
use Rattle.prl_explain.specs.Explanations.{IsAnswer, IsByPlan, IsCountedAt, IsDetail, IsFront, IsOfKind, IsTextAt, help_text, needs_files, program_in, shown_text}
use Rattle.std.specs.Bool.{OnTrue}
use Rattle.prl_explain.specs.Texts.{AreNamed, Folder, text_in}

pub of_kind_is : (words : List (List ℕ)) (command : Option (List (List ℕ))) (texts : Texts) (kind : Kind) (line front detail text : List ℕ)
    → IsFront kind line words texts front → IsDetail texts command kind.detail (rest_of kind line) detail → text ≡ front ++ detail
    → IsOfKind words command texts kind line text
of_kind_is words command texts kind line front detail text is_front is_detail is = (front, is_front, detail, is_detail, is)

pub explained : (folder : Folder) (words : List (List ℕ)) (command : Option (List (List ℕ))) (line : List ℕ) (kind : Kind) (texts : Texts) (told text : List ℕ)
    → IsLineOf kind line → OnTrue (needs_files kind.target kind.detail) (AreNamed folder words texts) → IsOfKind words command texts kind line told → text ≡ shown true told → IsAnswer folder words command line text
explained folder words command line kind texts told text is_line are_named is_told is_text =
    inr (
    record {
      kind = kind;
      is_line = is_line;
      texts = texts;
      are_named = are_named;
      told = told;
      is_told = is_told;
      is_text = is_text;
    }
    )

pub helped : (folder : Folder) (words : List (List ℕ)) (command : Option (List (List ℕ))) (line text : List ℕ) → words ≡ [] → text ≡ help_text
    → IsAnswer folder words command line text
helped folder words command line text none is = inl (none, is)

pub count_is : (source number : List ℕ) (at : ℕ) (text : List ℕ) → decimal_of number ≡ Some at → IsCounted source at text
    → IsCountedAt source (decimal_of number) text
count_is source number at text told is = rw told is

pub no_count : (source : List ℕ) (found : Option ℕ) (text : List ℕ) → text ≡ [] → IsCountedAt source found text
no_count source None text is = is
no_count source (Some at) text is = inl is

pub by_plan : (texts : Texts) (told : PlanView → List ℕ → Type 0) (plan : PlanView) (text : List ℕ)
    → IsPlanFrom (text_in texts parts.Plan) (program_in texts) texts.node (Some plan) → told plan text → IsByPlan texts told text
by_plan texts told plan text is is_told = (Some plan, is, is_told)

pub without_plan : (texts : Texts) (told : PlanView → List ℕ → Type 0) (text : List ℕ)
    → IsPlanFrom (text_in texts parts.Plan) (program_in texts) texts.node None → text ≡ [] → IsByPlan texts told text
without_plan texts told text is empty = (None, is, empty)

pub hinted_is : (kind : Kind) (line name source front hint text : List ℕ) (at : ℕ) → front ≡ shown_text kind line name source at
    → IsHintTold source at hint → text ≡ front ++ hint → IsTextAt kind line name source (Some at) text
hinted_is kind line name source front hint text at is_front is_hint is =
    (hint, is_hint, subst (λ (f : List ℕ). text ≡ f ++ hint) is_front is)
