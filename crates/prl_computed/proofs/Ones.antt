-- What the texts of an execution mean is one: its behaviour is a solution of its flat program, whose clocks are those of its plan.
use Rattle.std.proofs.Common.{◌≡◌, ◌≤◌, ℕ, List, Result, Ok, map, refl, sym, ap, ◌∙◌, subst}
use Rattle.prl_base.proofs.Standard.{AllByRecursion}
use Rattle.prl_base.specs.declared.operators.Clock.{Clock}
use Rattle.prl_base.specs.declared.values.Ty.{Ty}
use Rattle.prl_ast.specs.Vocabulary.{IsInRange, ProgramTree}
use Rattle.prl_body.specs.Vocabulary.{HaveBodiesOf, IsWellTyped, body_tree}
use Rattle.prl_causal.specs.Vocabulary.{Satisfies, clocks_in, state_in}
use Rattle.prl_clock.specs.Outcomes.{AreOnlyClocks}
use Rattle.prl_expand.specs.Vocabulary.{Expansion, IsExpansion, flat_of}
use Rattle.prl_flow.specs.Vocabulary.{FlatProgram, HaveBodies, IsFlat, IsSolution, State}
use Rattle.prl_graph.specs.Vocabulary.{AreSmallClocks}
use Rattle.prl_names.specs.Uses.{used_imports}
use Rattle.prl_syntax.specs.declared.parsing.ParseFault.{ParseFault}
use Rattle.prl_types.specs.Typing.{IsTyped}
use Rattle.prl_types.specs.declared.faults.TypeFault.{TypeFault}
use Rattle.prl_stages.specs.declared.faults.InputFile.TheVariants as parts
use Rattle.prl_stages.specs.Vocabulary.{Execution, Given, HasGraph, IsFlattened, IsMain, IsProgram, text_of}
use Rattle.prl_stages.proofs.SmallClocks.{small_clocks}
use Rattle.prl_stages.proofs.TypedBodies.{checked_are_typed}
use Rattle.prl_computed.proofs.Cited.{TextLaws, ValueLaws}
use Rattle.prl_computed.proofs.Values as computed
use Rattle.prl_computed.specs.Computed.{Computes}

abbrev typed_as : ℕ × List Ty → Result (ℕ × List Ty) TypeFault
typed_as t = Ok t

abbrev parsed_as : ProgramTree → Result ProgramTree ParseFault
parsed_as p = Ok p

ok_program : (a b : ProgramTree) → parsed_as a ≡ parsed_as b → a ≡ b
ok_program a b e = cc

ok_main : (a b : ℕ × List Ty) → typed_as a ≡ typed_as b → a.0 ≡ b.0
ok_main a b e = cc

ok_types : (a b : ℕ × List Ty) → typed_as a ≡ typed_as b → a.1 ≡ b.1
ok_types a b e = cc

module _ (law : TextLaws) (g : Given) where
  one_program : (p q : ProgramTree) → IsProgram g p → IsProgram g q → p ≡ q
  one_program p q h k = ok_program p q (law.programs (text_of g parts.Program) (Ok p) (Ok q) h.written k.written)

  -- the node and the types of main, as one outcome
  one_main : (p q : ProgramTree) (main other : ℕ) (h : IsMain g p main) (k : IsMain g q other) → typed_as (main, h.types) ≡ typed_as (other, k.types)
  one_main p q main other h k =
      let typed : IsTyped p g.node other k.types = subst (λ (x : ProgramTree). IsTyped x g.node other k.types) (one_program q p k.program h.program) k.typed in
      law.one p g.node (Ok (main, h.types)) (Ok (other, k.types)) h.typed typed

  one_node : (p q : ProgramTree) (main other : ℕ) → IsMain g p main → IsMain g q other → main ≡ other
  one_node p q main other h k = ok_main (main, h.types) (other, k.types) (one_main p q main other h k)

  one_flat : (a b : FlatProgram) → IsFlattened g a → IsFlattened g b → a ≡ b
  one_flat a b h k =
      let programs = one_program h.program k.program h.is_main.program k.is_main.program in
      let mains = one_node h.program k.program h.main k.main h.is_main k.is_main in
      let types = ok_types (h.main, h.is_main.types) (k.main, k.is_main.types) (one_main h.program k.program h.main k.main h.is_main k.is_main) in
      let at : IsExpansion h.program k.main k.expanded.expansion = subst (λ (x : ProgramTree). IsExpansion x k.main k.expanded.expansion) (sym programs) k.expanded.is in
      let here : IsExpansion h.program h.main k.expanded.expansion = subst (λ (n : ℕ). IsExpansion h.program n k.expanded.expansion) (sym mains) at in
      let expansions = law.expansions h.program h.main h.expanded.expansion k.expanded.expansion h.expanded.is here in
      h.expanded.flat_is
      ∙ ap (λ (x : ProgramTree). flat_of x h.is_main.types h.main h.expanded.expansion) programs
      ∙ ap (λ (x : List Ty). flat_of k.program x h.main h.expanded.expansion) types
      ∙ ap (λ (n : ℕ). flat_of k.program k.is_main.types n h.expanded.expansion) mains
      ∙ ap (λ (x : Expansion). flat_of k.program k.is_main.types k.main x) expansions
      ∙ sym k.expanded.flat_is

  module _ (e : Execution g) where
    made : IsFlattened g e.meaning.flat
    made = e.meaning.flattened

    range : IsInRange made.program
    range = law.ranges (text_of g parts.Program) made.program made.is_main.program.written

    formed : IsFlat e.meaning.flat
    formed =
        subst IsFlat (sym made.expanded.flat_is)
        (law.formed made.program g.node made.main made.is_main.types made.expanded.expansion range made.is_main.typed made.expanded.is made.expanded.few)

    -- the behaviour is one of the flat program
    satisfied : Satisfies made.program made.main e.meaning.bodies e.meaning.rows g.until e.meaning.one.one
    satisfied =
        let programs = one_program e.meaning.program made.program e.meaning.is_main.program made.is_main.program in
        let mains = one_node e.meaning.program made.program e.meaning.main made.main e.meaning.is_main made.is_main in
        subst (λ (n : ℕ). Satisfies made.program n e.meaning.bodies e.meaning.rows g.until e.meaning.one.one) mains
        (subst (λ (x : ProgramTree). Satisfies x e.meaning.main e.meaning.bodies e.meaning.rows g.until e.meaning.one.one) programs e.meaning.one.is)

    solution : IsSolution e.meaning.flat e.meaning.bodies e.meaning.rows g.until (state_in e.meaning.one.one)
    solution =
        subst (λ (x : FlatProgram). IsSolution x e.meaning.bodies e.meaning.rows g.until (state_in e.meaning.one.one)) (sym made.expanded.flat_is)
        ((law.solutions made.program g.node made.main made.is_main.types made.expanded.expansion made.is_main.typed made.expanded.is e.meaning.bodies e.meaning.rows g.until).into
        e.meaning.one.one satisfied)

    -- its clocks are those of the plan
    only : AreOnlyClocks e.meaning.flat (clocks_in (state_in e.meaning.one.one))
    only =
        let of : HasGraph g e.plan.graph = e.has_horizon.has_plan.has_graph in
        let flats = one_flat of.flat e.meaning.flat of.clocked.causal.flattened made in
        let here : AreOnlyClocks e.meaning.flat of.clocks = subst (λ (x : FlatProgram). AreOnlyClocks x of.clocks) flats of.clocked.only in
        let same = law.clocks e.meaning.flat formed of.clocks here e.meaning.bodies e.meaning.rows g.until (state_in e.meaning.one.one) solution in
        subst (AreOnlyClocks e.meaning.flat) (sym same) here

    small : AreSmallClocks (clocks_in (state_in e.meaning.one.one))
    small = small_clocks e.meaning.flat (clocks_in (state_in e.meaning.one.one)) only

    -- its bodies fit
    have : HaveBodiesOf made.program.imports (used_imports made.program made.main) e.meaning.bodies
    have =
        let trees = e.meaning.are_bodies in
        let first = law.used trees.program.imports (used_imports trees.program trees.main) trees.texts e.meaning.bodies trees.fitting in
        let programs = one_program trees.program made.program trees.is_main.program made.is_main.program in
        let mains = one_node trees.program made.program trees.main made.main trees.is_main made.is_main in
        let at = subst (λ (x : ProgramTree). HaveBodiesOf x.imports (used_imports x trees.main) e.meaning.bodies) programs first in
        subst (λ (n : ℕ). HaveBodiesOf made.program.imports (used_imports made.program n) e.meaning.bodies) mains at

    fitting : HaveBodies e.meaning.flat e.meaning.bodies
    fitting =
        subst (λ (x : FlatProgram). HaveBodies x e.meaning.bodies) (sym made.expanded.flat_is)
        (law.fitted made.program g.node made.main made.is_main.types made.expanded.expansion range made.is_main.typed made.expanded.is e.meaning.bodies have)

    typed : AllByRecursion IsWellTyped e.meaning.bodies
    typed =
        let trees = e.meaning.are_bodies in
        checked_are_typed trees.program.imports (used_imports trees.program trees.main) trees.texts e.meaning.bodies trees.fitting

    pub computes : ValueLaws → Computes g e
    computes values = record {
      operands = e.meant;
      outputs = computed.outputs values e.plan e.has_horizon.has_plan.is_plan e.meaning.flat formed e.meaning.bodies e.meaning.rows g.until
          (state_in e.meaning.one.one) solution small fitting typed e.is_graph;
      registers = computed.registers values e.plan e.has_horizon.has_plan.is_plan e.meaning.flat formed e.meaning.bodies e.meaning.rows g.until
          (state_in e.meaning.one.one) solution small fitting typed e.is_graph;
    }
