-- The flows and the range that the words ask for.
use Rattle.std.specs.Prelude.{◌≡◌, ◌==◌, ◌<◌, ◌≤◌, ◌+◌, ◌-◌, ◌++◌, ℕ, Bool, true, false, List, [], ◌∷◌, length, min, max, slice_get, Option, Some, None, Ok, IfSome, MatchOption, if◌then◌else◌, bytes_eq, codes}
use Rattle.std.specs.List.{filter, list_any, slice_split}
use Rattle.prl_base.specs.Decimals.{decimal_of}
use Rattle.prl_io.specs.Faults.{Folder}
use Rattle.prl_io.specs.Pairs.{value_of}
use Rattle.prl_drawing.specs.declared.scales.Scale.{Scale}
use Rattle.prl_stages.specs.PlansAlone.{program_alone}
use Rattle.prl_steps.specs.Flows.{FlowView}
use Rattle.prl_steps.specs.declared.samples.Sample.{Sample}
use Rattle.prl_plot.specs.declared.forms.Form.{Form}
use Rattle.prl_plot.specs.declared.words.TheConstants.{MAX_UNTIL}
use Rattle.prl_plot.specs.Inputs.{AreInputsOf}
use Rattle.prl_plot.specs.Rows.{flows_of}

-- the flows are those of the rows in the file of this name
abbrev pub AreFlows : Folder → Form → List FlowView → List ℕ → Type 0
AreFlows folder form flows name =
    (source : List ℕ) × IfSome folder (λ files. files name ≡ Some source) × (flows_of form source ≡ Ok flows)

-- the form of the rows of the sensors of the program in the file that the words name, whose main is the node that they name
abbrev pub IsFormAsked : Folder → List (List ℕ) → Form → Type 0
IsFormAsked folder words form =
    (name source : List ℕ) × (value_of (codes "--program") words ≡ Some name) × IfSome folder (λ files. files name ≡ Some source)
    × (form.dated ≡ false) × AreInputsOf (program_alone source (value_of (codes "--node") words)) form.inputs

abbrev pub dated_form : Form
dated_form = record { dated = true; inputs = [] }

-- the flows of sensors, of which rows have no dates: these are those of the program's clocks
abbrev pub AreSensors : Folder → List (List ℕ) → List FlowView → List ℕ → Type 0
AreSensors folder words flows name =
    (form : Form) × IsFormAsked folder words form × AreFlows folder form flows name

-- the flows that the words ask for, of sensors and of actuators; none where they name no file of them
pub record AreAsked (folder : Folder) (words : List (List ℕ)) (sensors actuators : List FlowView) : Type 0 where
  pub sensed : MatchOption (value_of (codes "--sensors") words) (sensors ≡ []) (AreSensors folder words sensors)
  pub driven : MatchOption (value_of (codes "--actuators") words) (actuators ≡ []) (AreFlows folder dated_form actuators)

-- these flows: those of the sensors, and then those of the actuators
abbrev pub IsAsked : Folder → List (List ℕ) → List FlowView → Type 0
IsAsked folder words flows =
    (sensors actuators : List FlowView) × AreAsked folder words sensors actuators × (flows ≡ sensors ++ actuators)

abbrev pub is_comma : ℕ → Bool
is_comma byte = byte == 44

-- the name is one of a list with commas
abbrev pub is_named : List ℕ → List ℕ → Bool
is_named names name = list_any (λ part. bytes_eq part name) (slice_split is_comma names)

-- all flows, or those that the words name
abbrev pub AreChosen : List (List ℕ) → List FlowView → List FlowView → Type 0
AreChosen words flows chosen =
    MatchOption (value_of (codes "--flow") words) (chosen ≡ flows) (λ names. chosen ≡ filter (λ flow. is_named names flow.name) flows)

abbrev pub date_or_0 : Option Sample → ℕ
date_or_0 None = 0
date_or_0 (Some sample) = sample.date

-- the date of a flow's value of this number; 0 where it is not there
abbrev pub date_in : List Sample → ℕ → ℕ
date_in samples k = date_or_0 (slice_get samples k)

-- up to when a flow's last value is to hold: as long as the one before it did, or for a tick where it is the only one
abbrev pub held_until : List Sample → ℕ
held_until samples =
    let last = date_in samples (length samples - 1) in
    if length samples == 1 then last + 1 else last + (last - date_in samples (length samples - 2))

-- the end of a range where none is asked for: behind its first tick, and not before each flow's last value has held so long, as far as a range may go
abbrev pub default_end : List FlowView → ℕ → ℕ
default_end [] from = from + 1
default_end (flow ∷ flows) from = max (min (held_until flow.samples) MAX_UNTIL) (default_end flows from)

-- the range of ticks that the words ask for, from 0 where they do not say it, and up to the default end of the flows where they do not say that
pub record IsRange (words : List (List ℕ)) (flows : List FlowView) (scale : Scale) : Type 0 where
  pub begins : MatchOption (value_of (codes "--from") words) (scale.from ≡ 0) (λ word. decimal_of word ≡ Some scale.from)
  pub ends : MatchOption (value_of (codes "--until") words) (scale.until ≡ default_end flows scale.from) (λ word. decimal_of word ≡ Some scale.until)
  pub some : scale.from < scale.until
  pub within : scale.until ≤ MAX_UNTIL
  pub span : scale.span ≡ scale.until - scale.from
