-- A frame as JSON: the tokens of an object with an array of slots.
use Rattle.std.specs.Prelude.{◌++◌, ℕ, Bool, List, [], ◌∷◌, codes, decimal}
use Rattle.std.specs.List.{flat_map}
use Rattle.json.specs.Print.{print}
use Rattle.json.specs.Token.{Token, begin_array, begin_object, boolean, end_array, end_object, key, number, string}
use Rattle.prl_plan.specs.declared.graphs.TaskGraph.{TaskGraph}
use Rattle.prl_frames.specs.declared.slots.Slot.{Slot}
use Rattle.prl_frametext.specs.Texts.{name_at}

-- a member with a number, one with a text, and one with yes or no
abbrev pub count : List ℕ → ℕ → List Token
count name n = key name ∷ number (decimal n) ∷ []

abbrev pub word : List ℕ → List ℕ → List Token
word name text = key name ∷ string text ∷ []

abbrev pub flag : List ℕ → Bool → List Token
flag name is = key name ∷ boolean is ∷ []

abbrev pub place_tokens : Slot → List Token
place_tokens slot = count (codes "at") slot.at ++ count (codes "units") slot.units

abbrev pub task_tokens : TaskGraph → Slot → List Token
task_tokens graph slot = count (codes "task") slot.task.0 ++ word (codes "name") (name_at graph slot.task)

abbrev pub job_tokens : Slot → List Token
job_tokens slot = count (codes "job") slot.job ++ count (codes "from") slot.from

abbrev pub mark_tokens : Slot → List Token
mark_tokens slot = flag (codes "first") slot.first ++ flag (codes "last") slot.last

-- the members of a slot
abbrev pub fields : TaskGraph → Slot → List Token
fields graph slot = (place_tokens slot ++ task_tokens graph slot) ++ (job_tokens slot ++ mark_tokens slot)

abbrev pub slot_tokens : TaskGraph → Slot → List Token
slot_tokens graph slot = begin_object ∷ (fields graph slot ++ end_object ∷ [])

abbrev pub slots_tokens : TaskGraph → List Slot → List Token
slots_tokens graph slots = flat_map (slot_tokens graph) slots

abbrev pub array_tokens : TaskGraph → List Slot → List Token
array_tokens graph slots = begin_array ∷ (slots_tokens graph slots ++ end_array ∷ [])

abbrev pub member_tokens : TaskGraph → List Slot → List Token
member_tokens graph slots = count (codes "hyperperiod") graph.hyper ++ key (codes "slots") ∷ array_tokens graph slots

abbrev pub frame_tokens : TaskGraph → List Slot → List Token
frame_tokens graph slots = begin_object ∷ (member_tokens graph slots ++ end_object ∷ [])

-- their text, on one line
abbrev pub json_text : TaskGraph → List Slot → List ℕ
json_text graph slots = print (frame_tokens graph slots) ++ codes "\n"
