use Rattle.prl_base.proofs.Standard.{◌≡◌, ◌+◌, ℕ, [], ◌∷◌, Some, length, length-append, ap, ◌∙◌, subst, arith, inl, inr, slice_get, cases_eq}
use Rattle.std.specs.Vec.{vec_items}
use Rattle.prl_exec.specs.code.Hands.{HasOwn}
use Rattle.prl_exec.proofs.Holding.{get_front, get_last}
use Rattle.prl_exec.proofs.crews.«+serve_down».Goals as goal

pub start-requires-clause-own : goal.start-requires-clause-own
start-requires-clause-own g t c κs outlives =
    let items = c.in-Some.ensures.items in
    let before = c.len-before.ensures in let ok = c.pop.new.self.ok in
    let last : slice_get (vec_items c.args.hands) c.len-before.result ≡ Some c.in-Some.seats =
    ap (slice_get (vec_items c.args.hands)) (let e : c.len-before.result ≡ length (vec_items c.pop.new.self) = omega (arith, before, ok) in e) ∙
    (ap (λ xs. slice_get xs (length (vec_items c.pop.new.self))) items ∙ get_last (vec_items c.pop.new.self) c.in-Some.seats) in
    (c.requires.hands c.len-before.result c.in-Some.seats last).1

pub serve_down-served-requires-clause-hands : goal.serve_down-served-requires-clause-hands
serve_down-served-requires-clause-hands g t c κs outlives = λ j seats has.
    c.requires.hands j seats (ap (λ xs. slice_get xs j) c.in-Some.ensures.items ∙ get_front (vec_items c.pop.new.self) c.in-Some.seats seats j has)

pub serve_down-requires-clause-hands : goal.serve_down-requires-clause-hands
serve_down-requires-clause-hands g t c κs outlives = λ j seats has.
    c.requires.hands j seats (ap (λ xs. slice_get xs j) c.in-Some.ensures.items ∙ get_front (vec_items c.pop.new.self) c.in-Some.seats seats j has)

pub returns-in-Ok-clause-back : goal.returns-in-Ok-clause-back
returns-in-Ok-clause-back g t c = λ v below i inside own.
    let long : length (vec_items c.args.hands) ≡ length (vec_items c.pop.new.self) + 1 = ap length c.in-Some.ensures.items ∙ length-append (vec_items c.pop.new.self) (c.in-Some.seats ∷ []) in
    let before = c.len-before.ensures in let ok = c.pop.new.self.ok in
    let promised = c.in-Ok.ensures in
    elim (cases_eq v (length (vec_items c.pop.new.self))) [
      | inl last ↦
          (let mine : HasOwn (g.S.Crew.tasks c.args.crew.now) c.args.workers (c.len-before.result + 1) (vec_items c.join-hand.result.seats) =
          (let P : _ × ℕ × ℕ → Type 0 =
          λ z. HasOwn (g.S.Crew.tasks z.0) z.1 z.2 (vec_items c.join-hand.result.seats) in subst P {y = (c.args.crew.now, c.args.workers, c.len-before.result + 1)} (λ h. (promised.0 h, promised.1 h, promised.2 h)) c.join-hand.ensures.1) in
          c.put_back.ensures.put i (mine i inside (own ∙ omega (arith, last, before, ok))))
      | inr other ↦ c.put_back.ensures.kept i (c.serve_down-served.ensures.back v (omega (arith, below, long, other)) i inside own)
    ]

pub returns-in-Err-clause-back : goal.returns-in-Err-clause-back
returns-in-Err-clause-back g t c = λ v below i inside own.
    let long : length (vec_items c.args.hands) ≡ length (vec_items c.pop.new.self) + 1 = ap length c.in-Some.ensures.items ∙ length-append (vec_items c.pop.new.self) (c.in-Some.seats ∷ []) in
    let before = c.len-before.ensures in let ok = c.pop.new.self.ok in
    elim (cases_eq v (length (vec_items c.pop.new.self))) [
      | inl last ↦ c.serve_down.ensures.kept i (c.put_back-in-Err.ensures.put i (c.in-Err.ensures.1 i inside (own ∙ omega (arith, last, before, ok))))
      | inr other ↦ c.serve_down.ensures.back v (omega (arith, below, long, other)) i inside own
    ]
