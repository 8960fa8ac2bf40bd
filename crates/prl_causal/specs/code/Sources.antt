-- What flows use, along uses of one kind: nothing, another flow, or the arguments of an application.
use Rattle.std.specs.Prelude.{◌≡◌, ◌<◌, ◌^◌, ℕ, List, length, map, Some, slice_get, if◌then◌else◌}
use Rattle.prl_base.specs.Operators.{delays}
use Rattle.prl_flow.specs.declared.programs.App.{App}
use Rattle.prl_flow.specs.declared.programs.Arg.{Arg}
use Rattle.prl_flow.specs.declared.programs.Def.{Def}
use Rattle.prl_flow.specs.declared.programs.Def.TheVariants as definitions
use Rattle.prl_flow.specs.Programs.{FlatProgram}
use Rattle.prl_flow.specs.Uses.{IsArgument}
use Rattle.prl_causal.specs.declared.causality.Uses.{Uses}
use Rattle.prl_causal.specs.declared.sources.Source.{Source}
use Rattle.prl_causal.specs.declared.sources.Source.TheVariants as sources

-- what a definition uses undelayed
abbrev pub undelayed_of : Def → Source
undelayed_of (definitions.Sensor k) = sources.Nothing
undelayed_of (definitions.Copy of) = sources.Flow of
undelayed_of (definitions.Const v) = sources.Nothing
undelayed_of (definitions.Apply app out) = sources.Arguments app
undelayed_of (definitions.Op op of) = if delays op then sources.Nothing else sources.Flow of

-- what a definition uses, delayed or not, and not through an application
abbrev pub inside_of : Def → Source
inside_of (definitions.Sensor k) = sources.Nothing
inside_of (definitions.Copy of) = sources.Flow of
inside_of (definitions.Const v) = sources.Nothing
inside_of (definitions.Apply app out) = sources.Nothing
inside_of (definitions.Op op of) = sources.Flow of

-- what each flow uses undelayed
abbrev pub all_undelayed : FlatProgram → List Source
all_undelayed p = map (λ f. undelayed_of f.def) p.flows

-- what each flow uses, delayed or not, and not through an application
abbrev pub all_inside : FlatProgram → List Source
all_inside p = map (λ f. inside_of f.def) p.flows

-- the two lists are those of the flat program
pub record AreUses (uses : Uses) : Type 0 where
  pub undelayed : uses.undelayed.now ≡ all_undelayed uses.flat.now
  pub inside : uses.inside.now ≡ all_inside uses.flat.now

-- flow `j` is among what is used
abbrev pub Names : FlatProgram → Source → ℕ → Type 0
Names p sources.Nothing j = ⊥
Names p (sources.Flow of) j = of.0 ≡ j
Names p (sources.Arguments k) j = IsArgument p k j

-- flow `i` uses flow `j`
pub record UsesBy (p : FlatProgram) (all : List Source) (i j : ℕ) : Type 0 where
  pub source : Source
  pub found : slice_get all i ≡ Some source
  pub names : Names p source j

-- what is used is there
abbrev pub IsSource : FlatProgram → Source → Type 0
IsSource p sources.Nothing = Unit {0}
IsSource p (sources.Flow of) = of.0 < length p.flows
IsSource p (sources.Arguments k) = k < length p.apps

-- one for each flow, of what is there; the number of each flow fits 32 bits
pub record AreSources (p : FlatProgram) (all : List Source) : Type 0 where
  pub count : length all ≡ length p.flows
  pub few : length all < 2 ^ 32
  pub within : (i j : ℕ) → UsesBy p all i j → j < length all
  pub each : (i : ℕ) (source : Source) → slice_get all i ≡ Some source → IsSource p source

-- these are the arguments of the application of this number
pub record AreArguments (p : FlatProgram) (k : ℕ) (args : List Arg) : Type 0 where
  pub app : App
  pub found : slice_get p.apps k ≡ Some app
  pub are : app.args ≡ args

-- each argument is one of the first `n` flows
abbrev pub AreWithin : List Arg → ℕ → Type 0
AreWithin args n = (j : ℕ) (arg : Arg) → slice_get args j ≡ Some arg → arg.flow.0 < n

-- flow `i` is among the arguments
pub record IsAmong (args : List Arg) (i : ℕ) : Type 0 where
  pub index : ℕ
  pub arg : Arg
  pub found : slice_get args index ≡ Some arg
  pub is : arg.flow.0 ≡ i
