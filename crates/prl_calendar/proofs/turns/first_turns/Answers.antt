use Rattle.prl_base.proofs.Standard.{ℕ, ◌≡◌, ◌+◌, ◌∙◌, List, [], ◌∷◌, ap, arith, subst, map, take, slice_index, ◌++◌, IsPermutation, map-append, take_all, take_more, IsPermutation-push_more}
use Rattle.prl_calendar.specs.Turns.{first_turn}
use Rattle.prl_calendar.proofs.Ordered.{first_turns_are}
use Rattle.prl_calendar.proofs.turns.first_turns.Goals as goal

pub loop-first-preserved : goal.loop-first-preserved
loop-first-preserved c =
    let f = first_turn c.args.clocks.now in
    let firsts : List ℕ = c.args.firsts.now in
    let k : ℕ = c.loop-first.first-index in
    let more : map f (take (k + 1) firsts) ≡ map f (take k firsts) ++ f (slice_index firsts k) ∷ [] = ap (map f) (take_more firsts k 0 c.loop-first-test.true) ∙ map-append f (take k firsts) (slice_index firsts k ∷ []) in
    rw more (IsPermutation-push_more (map f (take k firsts)) c.loop-first.turns c.push.new.self (f (slice_index firsts k)) c.loop-first.invariant c.in_ok-push.ensures)

pub returns : goal.returns
returns c =
    let all : take c.loop-first.first-index c.args.firsts.now ≡ c.args.firsts.now = take_all c.loop-first.first-index c.args.firsts.now (omega arith) in
    first_turns_are c.args.clocks.now c.args.firsts.now c.loop-first.turns c.requires
    (subst (λ (hs : List ℕ). IsPermutation (map (first_turn c.args.clocks.now) hs) c.loop-first.turns) all c.loop-first.invariant)
