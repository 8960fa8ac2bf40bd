-- The bytes of the files that the words name.
use Rattle.prl_base.proofs.Standard.{◌≡◌, ◌≤◌, ◌<◌, ◌^◌, ℕ, List, Option, None, Some, arith, length, subst, sym, IfSome, codes, vec_items, option_map}
use denote.Ref.{Bor}
use Rattle.prl_io.specs.Pairs.{value_of}
use Rattle.prl_sentences.specs.declared.kinds.Part.{Part}
use Rattle.prl_sentences.specs.declared.kinds.Part.TheVariants as parts
use Rattle.prl_explain.specs.declared.texts.Texts.{Texts}
use Rattle.prl_explain.specs.Texts.{AreFew, AreNamed, Folder, IsNamed, most_of, text_in}

-- each file is the one that is named
pub named_all : (folder : Folder) (words : List (List ℕ)) (texts : Texts) → IsNamed folder words parts.Program (option_map vec_items texts.program)
    → IsNamed folder words parts.Bodies (option_map vec_items texts.bodies) → IsNamed folder words parts.Sensors (option_map vec_items texts.sensors)
    → IsNamed folder words parts.Schedule (option_map vec_items texts.schedule) → IsNamed folder words parts.Table (option_map vec_items texts.table)
    → IsNamed folder words parts.Cores (option_map vec_items texts.cores) → IsNamed folder words parts.Plan (option_map vec_items texts.plan)
    → texts.node ≡ value_of (codes "--node") words → AreNamed folder words texts
named_all folder words texts program bodies sensors schedule table cores plan node =
    record { each = each; node = node }
  where
    each : (part : Part) → IsNamed folder words part (text_in texts part)
    each parts.Program = program
    each parts.Bodies = bodies
    each parts.Sensors = sensors
    each parts.Schedule = schedule
    each parts.Table = table
    each parts.Cores = cores
    each parts.Plan = plan

few_of : (folder : Folder) (words : List (List ℕ)) (part : Part) (found : Option (List ℕ)) → IsNamed folder words part found
    → IfSome found (λ bytes. length bytes ≤ most_of part)
few_of folder words part None h = tt
few_of folder words part (Some bytes) h = h.3

-- none of the files that are named is longer than it may be
pub few_all : (folder : Folder) (words : List (List ℕ)) (texts : Texts) → AreNamed folder words texts → AreFew texts
few_all folder words texts named part = few_of folder words part (text_in texts part) (named.each part)

-- so the bytes that are taken of them are no more
pub few_from : (texts : Texts) (part : Part) (found : Option (Bor (List ℕ))) → AreFew texts → option_map (λ (t : Bor (List ℕ)). t.now) found ≡ text_in texts part
    → IfSome found (λ t. length t.now ≤ most_of part)
few_from texts part None few same = tt
few_from texts part (Some text) few same = subst (λ (o : Option (List ℕ)). IfSome o (λ bytes. length bytes ≤ most_of part)) (sym same) (few part)

most_small : (part : Part) → most_of part < 2 ^ 32
most_small parts.Program = omega arith
most_small parts.Bodies = omega arith
most_small parts.Sensors = omega arith
most_small parts.Schedule = omega arith
most_small parts.Table = omega arith
most_small parts.Cores = omega arith
most_small parts.Plan = omega arith

pub below : (part : Part) (found : Option (Bor (List ℕ))) → IfSome found (λ t. length t.now ≤ most_of part) → IfSome found (λ t. length t.now < 2 ^ 32)
below part None h = tt
below part (Some text) h = let k = most_small part in omega (arith, h, k)

-- no file is longer than it may be where none was read
pub few_none : (texts : Texts) → texts.program ≡ None → texts.bodies ≡ None → texts.sensors ≡ None → texts.schedule ≡ None
    → texts.table ≡ None → texts.cores ≡ None → texts.plan ≡ None → AreFew texts
few_none texts program bodies sensors schedule table cores plan parts.Program = rw program tt
few_none texts program bodies sensors schedule table cores plan parts.Bodies = rw bodies tt
few_none texts program bodies sensors schedule table cores plan parts.Sensors = rw sensors tt
few_none texts program bodies sensors schedule table cores plan parts.Schedule = rw schedule tt
few_none texts program bodies sensors schedule table cores plan parts.Table = rw table tt
few_none texts program bodies sensors schedule table cores plan parts.Cores = rw cores tt
few_none texts program bodies sensors schedule table cores plan parts.Plan = rw plan tt
