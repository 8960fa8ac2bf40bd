use Rattle.prl_base.proofs.Standard.{◌≡◌, ◌∙◌, ℕ, true, false, List, [], ◌∷◌, drop, map, refl, sym, ap, ap₂, inl, inr, string_bytes}
use Rattle.clap.specs.Faults.{fault_of, is_simple_and_free}
use Rattle.clap.specs.Kinds.{IsAmong, Kinds}
use Rattle.clap.specs.declared.error.kind.ErrorKind.{ErrorKind}
use Rattle.prl_arguments.specs.Vocabulary.{Mode, app_of_mode, faults_of, is_taken}
use Rattle.prl_arguments.specs.declared.arguments.Mode.TheVariants as modes
use Rattle.prl_arguments.proofs.options.are_options_of.Goals as goal

simple : (mode : Mode) → is_simple_and_free (app_of_mode mode) ≡ true
simple modes.Check = refl
simple _ = refl

mapped : {A : Type 0} (f : A → List ℕ) (words : List A) → map f (drop 1 words) ≡ drop 1 (map f words)
mapped f [] = refl
mapped f (word ∷ words) = refl

some_among : (k : ErrorKind) (kinds : Kinds) → IsAmong k kinds → false ≡ is_taken kinds
some_among k [] h = absurd h
some_among k (x ∷ kinds) h = refl

apart : false ≡ true → ⊥
apart e = cc

pub returns-in-Ok : goal.returns-in-Ok
returns-in-Ok c =
    let same = c.in_ok-command_of.ensures in
    let words = ap (map string_bytes) c.after_first.ensures ∙ mapped string_bytes c.args.words.now in
    let kinds = c.in-Ok.ensures.kinds (ap is_simple_and_free same ∙ simple c.args.mode) in
    let none : faults_of c.args.mode (drop 1 (map string_bytes c.args.words.now)) ≡ [] = ap₂ fault_of (sym same) (sym words) ∙ kinds in
    rw none refl

pub returns : goal.returns
returns c =
    let same = c.in_ok-command_of.ensures in
    let words = ap (map string_bytes) c.after_first.ensures ∙ mapped string_bytes c.args.words.now in
    let kinds = c.in-Err.ensures.kinds (ap is_simple_and_free same ∙ simple c.args.mode) in
    elim kinds [
      | inl memory ↦ let is = c.kind.ensures ∙ memory in absurd (apart (sym c.if-eq.false ∙ rw is at c.eq.ensures))
      | inr among ↦ some_among c.in-Err.error.kind _ among ∙ ap is_taken (ap₂ fault_of same words)
    ]
