-- Lists of stages come to an end, and the first stages are decided.
use Rattle.std.proofs.Common.{◌≡◌, ◌≢◌, ℕ, List, [], ◌∷◌, Option, Some, None, Result, Ok, Err, refl, ap, ◌∙◌, inl, inr, subst}
use Rattle.prl_base.specs.declared.values.Ty.{Ty}
use Rattle.prl_ast.specs.Trees.{ProgramTree}
use Rattle.prl_ast.specs.declared.declarations.Import.{Import}
use Rattle.prl_syntax.specs.Parsing.{IsParsed}
use Rattle.prl_syntax.specs.declared.parsing.ParseFault.{ParseFault}
use Rattle.prl_syntax.specs.declared.parsing.ParseFault.TheVariants as parsing
use Rattle.prl_names.specs.Vocabulary.{names_of, IsNamed, used_imports}
use Rattle.prl_types.specs.Typing.{IsOutcome}
use Rattle.prl_types.specs.declared.faults.TypeFault.{TypeFault}
use Rattle.prl_body.specs.Vocabulary.{BodyTree, checked, TextTree}
use Rattle.prl_body.specs.declared.faults.BodyFault.{BodyFault}
use Rattle.prl_body.specs.declared.faults.BodyFault.TheVariants as body_faults
use Rattle.prl_bodytext.specs.Parsing.{IsParsed as IsParsedBodies}
use Rattle.prl_stages.specs.Vocabulary.{GrammarRefusal, BodiesRefusal, Fault, InputFile, Stage, Given, content_of, text_of, RefusesBodies, grammar_fault, bodies_fault}
use Rattle.prl_stages.specs.Vocabulary.{Holds, Comes, IsDecided, AreDecided}
use Rattle.prl_stages.specs.declared.faults.GrammarRefusal.TheVariants as bad_grammar
use Rattle.prl_stages.specs.declared.faults.BodiesRefusal.TheVariants as bad_bodies
use Rattle.prl_stages.specs.declared.faults.Fault.TheVariants as faults
use Rattle.prl_stages.specs.declared.faults.InputFile.TheVariants as parts
use Rattle.prl_stages.specs.declared.stages.Stage.TheVariants as stages

pub some_end : (g : Given) (list : List Stage) → AreDecided g list → (end : Option (Stage × Fault)) × Comes g list end
some_end g [] h = (None, refl)
some_end g (stage ∷ rest) h = elim h.0 [
  | inl holds ↦ let e = some_end g rest (h.1 holds) in (e.0, inl (holds, e.1))
  | inr refuses ↦ (Some (stage, refuses.0), inr (refuses.0, refuses.1, refl))
]

content_decided : (g : Given) (part : InputFile) (content : Result (List ℕ) Fault) → content_of g part ≡ content → IsDecided g (stages.File part)
content_decided g part (Ok bytes) e = inl (bytes, e)
content_decided g part (Err fault) e = inr (fault, e)

pub file_decided : (g : Given) (part : InputFile) → IsDecided g (stages.File part)
file_decided g part = content_decided g part (content_of g part) refl

-- each fault but want of memory is a refusal's
grammar_refusal : (g : Given) (cause : ParseFault) → IsParsed (text_of g parts.Program) (Err cause) → (r : GrammarRefusal) × (cause ≡ grammar_fault r)
grammar_refusal g (parsing.BadToken at) h = (bad_grammar.BadToken at, refl)
grammar_refusal g (parsing.Unexpected at) h = (bad_grammar.Unexpected at, refl)
grammar_refusal g (parsing.NumberRange at) h = (bad_grammar.NumberRange at, refl)
grammar_refusal g (parsing.Limit limit) h = (bad_grammar.Limit limit, refl)
grammar_refusal g parsing.Memory h = absurd h

grammar_by : (g : Given) (outcome : Result ProgramTree ParseFault) → IsParsed (text_of g parts.Program) outcome → IsDecided g stages.Grammar
grammar_by g (Ok p) h = inl (p, record { written = h })
grammar_by g (Err cause) h =
    let t = grammar_refusal g cause h in
    inr (faults.Grammar t.0, (t.0, subst (λ (x : ParseFault). IsParsed (text_of g parts.Program) (Err x)) t.1 h, refl))

bodies_refusal : (cause : BodyFault) → cause ≢ body_faults.Memory → (r : BodiesRefusal) × (cause ≡ bodies_fault r)
bodies_refusal (body_faults.Syntax at) h = (bad_bodies.Syntax at, refl)
bodies_refusal (body_faults.Limit limit) h = (bad_bodies.Limit limit, refl)
bodies_refusal (body_faults.BodyName at) h = (bad_bodies.BodyName at, refl)
bodies_refusal (body_faults.BodyType at) h = (bad_bodies.BodyType at, refl)
bodies_refusal (body_faults.BodyArity at) h = (bad_bodies.BodyArity at, refl)
bodies_refusal (body_faults.Missing name) h = (bad_bodies.Missing name, refl)
bodies_refusal body_faults.Memory h = absurd (h refl)

-- the laws of the crates below
pub record Laws : Type 0 where
  pub programs : (text : List ℕ) → (outcome : Result ProgramTree ParseFault) × IsParsed text outcome
  pub types : (p : ProgramTree) (main : Option (List ℕ)) → (r : Result (ℕ × List Ty) TypeFault) × IsOutcome p main r
  pub names : (p : ProgramTree) (main : Option (List ℕ)) (node : ℕ) → names_of p main ≡ Ok node → IsNamed p node
  pub bodies : (text : List ℕ) → (outcome : Result (List TextTree) BodyFault) × IsParsedBodies text outcome
  pub checks : (imports : List Import) (used : List (List ℕ)) (texts : List TextTree) → checked imports used texts ≢ Err body_faults.Memory

module _ (law : Laws) (g : Given) where
  pub grammar_decided : IsDecided g stages.Grammar
  grammar_decided = let r = law.programs (text_of g parts.Program) in grammar_by g r.0 r.1

  types_by : (grammar : Holds g stages.Grammar) (outcome : Result (ℕ × List Ty) TypeFault) → IsOutcome grammar.0 g.node outcome → IsDecided g stages.Types
  types_by grammar (Ok t) h = inl (
    grammar.0,
    t.0,
    record {
      program = grammar.1;
      types = t.1;
      typed = h;
      below = (law.names grammar.0 g.node t.0 h.names).main_below;
    },
  )
  types_by grammar (Err cause) h = inr (faults.Types cause, (grammar.0, grammar.1, cause, h, refl))

  pub types_decided : Holds g stages.Grammar → IsDecided g stages.Types
  types_decided grammar = let r = law.types grammar.0 g.node in types_by grammar r.0 r.1

  unwritten : (text : List ℕ) (cause : BodyFault) → IsParsedBodies text (Err cause) → cause ≢ body_faults.Memory
  unwritten text body_faults.Memory h e = h
  unwritten text (body_faults.Syntax at) h e = cc
  unwritten text (body_faults.Limit limit) h e = cc
  unwritten text (body_faults.BodyName at) h e = cc
  unwritten text (body_faults.BodyType at) h e = cc
  unwritten text (body_faults.BodyArity at) h e = cc
  unwritten text (body_faults.Missing name) h e = cc

  module _ (types : Holds g stages.Types) where
    refused_by : (cause : BodyFault) → RefusesBodies types.0 types.1 (text_of g parts.Bodies) cause → cause ≢ body_faults.Memory → IsDecided g stages.Bodies
    refused_by cause h some =
        let t = bodies_refusal cause some in
        inr (faults.Bodies t.0, (types.0, types.1, types.2, t.0, subst (RefusesBodies types.0 types.1 (text_of g parts.Bodies)) t.1 h, refl))

    checked_by : (texts : List TextTree) → IsParsedBodies (text_of g parts.Bodies) (Ok texts) → (r : Result (List BodyTree) BodyFault)
        → checked types.0.imports (used_imports types.0 types.1) texts ≡ r → IsDecided g stages.Bodies
    checked_by texts written (Ok trees) e = inl (
      trees,
      record {
        program = types.0;
        main = types.1;
        is_main = types.2;
        texts = texts;
        written = written;
        fitting = e;
      },
    )
    checked_by texts written (Err cause) e =
        refused_by cause (inr (texts, written, e))
        (λ same. law.checks types.0.imports (used_imports types.0 types.1) texts (e ∙ ap (λ (x : BodyFault). Err x) same))

    bodies_by : (outcome : Result (List TextTree) BodyFault) → IsParsedBodies (text_of g parts.Bodies) outcome → IsDecided g stages.Bodies
    bodies_by (Ok texts) h = checked_by texts h (checked types.0.imports (used_imports types.0 types.1) texts) refl
    bodies_by (Err cause) h = refused_by cause (inl h) (unwritten (text_of g parts.Bodies) cause h)

    pub bodies_decided : IsDecided g stages.Bodies
    bodies_decided = let r = law.bodies (text_of g parts.Bodies) in bodies_by r.0 r.1
