-- Stops of stages and of lists of stages.
use Rattle.prl_base.proofs.Standard.{◌≡◌, ◌≢◌, ◌++◌, ℕ, List, [], ◌∷◌, Option, Some, None, Result, Ok, Err, refl, sym, ap, inl, inr, subst, IfOk, IfErr}
use Rattle.prl_ast.specs.Trees.{ProgramTree}
use Rattle.prl_body.specs.declared.faults.BodyFault.{BodyFault}
use Rattle.prl_body.specs.declared.faults.BodyFault.TheVariants as body_faults
use Rattle.prl_base.specs.declared.operators.Clock.{Clock}
use Rattle.prl_causal.specs.Cycles.{IsCausalFault}
use Rattle.prl_causal.specs.declared.causality.CausalFault.{CausalFault}
use Rattle.prl_causal.specs.declared.causality.CausalFault.TheVariants as causal_faults
use Rattle.prl_clock.specs.Outcomes.{IsClockFault}
use Rattle.prl_clock.specs.declared.calculus.ClockFault.{ClockFault}
use Rattle.prl_clock.specs.declared.calculus.ClockFault.TheVariants as clock_faults
use Rattle.prl_flow.specs.Programs.{FlatProgram}
use Rattle.prl_sensors.specs.declared.faults.SensorFault.{SensorFault}
use Rattle.prl_sensors.specs.declared.faults.SensorFault.TheVariants as sensors
use Rattle.prl_stages.specs.Runs.{rows_for}
use Rattle.prl_stages.specs.Told.{told_causal}
use Rattle.prl_stages.specs.Vocabulary.{Given, text_of, IsMain, RefusesBodies, IsPlanOrNone, Comes, front, graphed, planned, stop_of, told_body}
use Rattle.prl_stages.specs.Vocabulary.{IsFlattened, IsCausal, HasClocks, told_clocks, told_sensors}
use Rattle.prl_stages.specs.declared.faults.ClocksRefusal.TheVariants as bad_clocks
use Rattle.prl_stages.specs.declared.faults.SensorsRefusal.TheVariants as bad_rows
use Rattle.prl_stages.specs.declared.faults.Fault.{Fault}
use Rattle.prl_stages.specs.declared.faults.InputFile.{InputFile}
use Rattle.prl_stages.specs.declared.stages.Stage.{Stage}
use Rattle.prl_stages.specs.declared.stages.Stop.{Stop}
use Rattle.prl_stages.specs.declared.faults.InputFile.TheVariants as parts
use Rattle.prl_stages.specs.declared.faults.BodiesRefusal.TheVariants as bad_bodies
use Rattle.prl_stages.specs.declared.stages.Stage.TheVariants as stages
use Rattle.prl_stages.specs.declared.stages.Stop.TheVariants as stops
use Rattle.prl_calls.specs.Stops.{StopsAt, StopsIn, AllHold, Passes, PassesAt}

-- bodies refuse
pub bodies_stop : (g : Given) (p : ProgramTree) (main : ℕ) (fault : BodyFault) (stop : Stop) → IsMain g p main
    → (fault ≢ body_faults.Memory → RefusesBodies p main (text_of g parts.Bodies) fault)
    → stop ≡ stop_of stages.Bodies (told_body fault) → StopsAt g stages.Bodies stop
bodies_stop g p main (body_faults.Syntax at) stop h e is = subst (StopsAt g stages.Bodies) (sym is) (refl, (p, main, h, bad_bodies.Syntax at, e (λ k. cc), refl))
bodies_stop g p main (body_faults.Limit limit) stop h e is = subst (StopsAt g stages.Bodies) (sym is) (refl, (p, main, h, bad_bodies.Limit limit, e (λ k. cc), refl))
bodies_stop g p main (body_faults.BodyName at) stop h e is = subst (StopsAt g stages.Bodies) (sym is) (refl, (p, main, h, bad_bodies.BodyName at, e (λ k. cc), refl))
bodies_stop g p main (body_faults.BodyType at) stop h e is = subst (StopsAt g stages.Bodies) (sym is) (refl, (p, main, h, bad_bodies.BodyType at, e (λ k. cc), refl))
bodies_stop g p main (body_faults.BodyArity at) stop h e is = subst (StopsAt g stages.Bodies) (sym is) (refl, (p, main, h, bad_bodies.BodyArity at, e (λ k. cc), refl))
bodies_stop g p main (body_faults.Missing name) stop h e is = subst (StopsAt g stages.Bodies) (sym is) (refl, (p, main, h, bad_bodies.Missing name, e (λ k. cc), refl))
bodies_stop g p main body_faults.Memory stop h e is = subst (StopsAt g stages.Bodies) (sym is) tt

-- a cycle refuses
pub causal_stop : (g : Given) (flat : FlatProgram) (fault : CausalFault) (stop : Stop) → IsFlattened g flat → IsCausalFault flat fault
    → stop ≡ stop_of stages.Causality (told_causal fault) → StopsAt g stages.Causality stop
causal_stop g flat (causal_faults.Cycle label) stop h e is = subst (StopsAt g stages.Causality) (sym is) (refl, (flat, h, label, e, refl))
causal_stop g flat causal_faults.Memory stop h e is = subst (StopsAt g stages.Causality) (sym is) tt

-- flows without clocks refuse
pub clocks_stop : (g : Given) (flat : FlatProgram) (fault : ClockFault) (stop : Stop) → IsCausal g flat → IsClockFault flat fault
    → stop ≡ stop_of stages.Clocks (told_clocks fault) → StopsAt g stages.Clocks stop
clocks_stop g flat (clock_faults.Mismatch at) stop h e is = subst (StopsAt g stages.Clocks) (sym is) (refl, (flat, h, bad_clocks.Mismatch at, e, refl))
clocks_stop g flat (clock_faults.Limit limit) stop h e is = subst (StopsAt g stages.Clocks) (sym is) (refl, (flat, h, bad_clocks.Limit limit, e, refl))
clocks_stop g flat (clock_faults.Free label) stop h e is = subst (StopsAt g stages.Clocks) (sym is) (refl, (flat, h, bad_clocks.Free label, e, refl))
clocks_stop g flat (clock_faults.NotWhole label period start) stop h e is =
    subst (StopsAt g stages.Clocks) (sym is) (refl, (flat, h, bad_clocks.NotWhole label period start, e, refl))
clocks_stop g flat clock_faults.Memory stop h e is = subst (StopsAt g stages.Clocks) (sym is) tt

-- rows refuse
pub rows_stop : (g : Given) (flat : FlatProgram) (clocks : List Clock) (fault : SensorFault) (stop : Stop) → HasClocks g flat clocks
    → (fault ≢ sensors.Memory → rows_for g flat clocks ≡ Err fault) → stop ≡ stop_of stages.Rows (told_sensors fault) → StopsAt g stages.Rows stop
rows_stop g flat clocks (sensors.Row k) stop h e is = subst (StopsAt g stages.Rows) (sym is) (refl, (flat, clocks, h, bad_rows.Row k, e (λ m. cc), refl))
rows_stop g flat clocks (sensors.NoSensor k) stop h e is = subst (StopsAt g stages.Rows) (sym is) (refl, (flat, clocks, h, bad_rows.NoSensor k, e (λ m. cc), refl))
rows_stop g flat clocks (sensors.Order k) stop h e is = subst (StopsAt g stages.Rows) (sym is) (refl, (flat, clocks, h, bad_rows.Order k, e (λ m. cc), refl))
rows_stop g flat clocks (sensors.Value k) stop h e is = subst (StopsAt g stages.Rows) (sym is) (refl, (flat, clocks, h, bad_rows.Value k, e (λ m. cc), refl))
rows_stop g flat clocks (sensors.Short name have need) stop h e is =
    subst (StopsAt g stages.Rows) (sym is) (refl, (flat, clocks, h, bad_rows.Short name have need, e (λ m. cc), refl))
rows_stop g flat clocks sensors.Memory stop h e is = subst (StopsAt g stages.Rows) (sym is) tt

-- a stop of a list is a refusal of it
pub stops_comes : (g : Given) (list : List Stage) (stage : Stage) (fault : Fault) → StopsIn g list (stops.Refused stage fault) → Comes g list (Some (stage, fault))
stops_comes g [] stage fault h = absurd h
stops_comes g (s ∷ rest) stage fault h = elim h [
  | inl k ↦ inr (fault, k.1, ap (λ (x : Stage). Some (x, fault)) k.0)
  | inr k ↦ inl (k.0, stops_comes g rest stage fault k.1)
]

-- no stage of a list is a failed reading
pub stops_unread : (g : Given) (list : List Stage) (part : InputFile) → StopsIn g list (stops.Unread part) → ⊥
stops_unread g [] part h = h
stops_unread g (s ∷ rest) part h = elim h [ inl k ↦ k | inr k ↦ stops_unread g rest part k.1 ]

-- a stop of the stages of a plan that is no want of memory says why there is none
pub stops_plan_or_none : (g : Given) (stop : Stop) → StopsIn g (front ++ graphed ++ planned) stop → stop ≢ stops.Memory → IsPlanOrNone g None
stops_plan_or_none g (stops.Unread part) h other = absurd (stops_unread g (front ++ graphed ++ planned) part h)
stops_plan_or_none g (stops.Refused stage fault) h other = (stage, fault, stops_comes g (front ++ graphed ++ planned) stage fault h)
stops_plan_or_none g stops.Memory h other = absurd (other refl)

-- a stop of the first of two lists, or of the second after all of the first hold, is one of both
pub stops_first : (g : Given) (first rest : List Stage) (stop : Stop) → StopsIn g first stop → StopsIn g (first ++ rest) stop
stops_first g [] rest stop h = absurd h
stops_first g (s ∷ first) rest stop h = elim h [ inl k ↦ inl k | inr k ↦ inr (k.0, stops_first g first rest stop k.1) ]

pub stops_rest : (g : Given) (first rest : List Stage) (stop : Stop) → AllHold g first → StopsIn g rest stop → StopsIn g (first ++ rest) stop
stops_rest g [] rest stop h k = k
stops_rest g (s ∷ first) rest stop h k = inr (h.0, stops_rest g first rest stop h.1 k)

pub both_hold : (g : Given) (first rest : List Stage) → AllHold g first → AllHold g rest → AllHold g (first ++ rest)
both_hold g [] rest h k = k
both_hold g (s ∷ first) rest h k = (h.0, both_hold g first rest h.1 k)

pub hold_comes : (g : Given) (list : List Stage) → AllHold g list → Comes g list None
hold_comes g [] h = refl
hold_comes g (s ∷ rest) h = inl (h.0, hold_comes g rest h.1)

-- lists one after another
pub after_holds : (g : Given) (first rest : List Stage) (end : Option (Stage × Fault)) → AllHold g first → Comes g rest end → Comes g (first ++ rest) end
after_holds g [] rest end h k = k
after_holds g (s ∷ first) rest end h k = inl (h.0, after_holds g first rest end h.1 k)

none_some : (e : Stage × Fault) → Some e ≡ None → ⊥
none_some e h = cc

pub first_refused : (g : Given) (first rest : List Stage) (e : Stage × Fault) → Comes g first (Some e) → Comes g (first ++ rest) (Some e)
first_refused g [] rest e h = absurd (none_some e h)
first_refused g (s ∷ first) rest e h = elim h [ inl k ↦ inl (k.0, first_refused g first rest e k.1) | inr k ↦ inr k ]

-- the later stages are passed after those before them hold
module _ (g : Given) (first : List Stage) (before : AllHold g first) {X : Type 0} (P Q : X → Type 0) (f : (x : X) → P x → Q x) where
  pub passes_rest : (rest : List Stage) (r : Result X Stop) → Passes g rest P r → Passes g (first ++ rest) Q r
  passes_rest rest (Ok x) h = (f x h.0, both_hold g first rest before h.1)
  passes_rest rest (Err stop) h = stops_rest g first rest stop before h

  pub passes_last : (stage : Stage) (r : Result X Stop) → PassesAt g stage P r → Passes g (first ++ stage ∷ []) Q r
  passes_last stage (Ok x) h = (f x h.0, both_hold g first (stage ∷ []) before (h.1, tt))
  passes_last stage (Err stop) h = stops_rest g first (stage ∷ []) stop before (inl h)

-- what is known of what comes of stages, and of their stops
module _ (g : Given) (list : List Stage) {X : Type 0} (P : X → Type 0) where
  pub ok_passed : (Q : X → Type 0) → ((x : X) → P x → AllHold g list → Q x) → (r : Result X Stop) → Passes g list P r → IfOk r Q
  ok_passed Q f (Ok x) h = f x h.0 h.1
  ok_passed Q f (Err stop) h = tt

  pub err_passed : (Q : Stop → Type 0) → ((stop : Stop) → StopsIn g list stop → Q stop) → (r : Result X Stop) → Passes g list P r → IfErr r Q
  err_passed Q f (Ok x) h = tt
  err_passed Q f (Err stop) h = f stop h

-- what holds of results
pub ok_map : {X F : Type 0} (r : Result X F) (P Q : X → Type 0) → ((x : X) → P x → Q x) → IfOk r P → IfOk r Q
ok_map (Ok x) P Q f h = f x h
ok_map (Err e) P Q f h = tt
