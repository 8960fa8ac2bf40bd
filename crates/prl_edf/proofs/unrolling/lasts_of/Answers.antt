use Rattle.prl_base.proofs.Standard.{◌≡◌, ◌+◌, ◌-◌, ◌<◌, ℕ, List, [], ◌∷◌, ◌++◌, Bool, Option, Some, None, reverse, length, get_or, drop}
use Rattle.prl_base.proofs.Standard.{sym, ap, ◌∙◌, arith, slice_get-get_or, replicate, length-replicate, get_or-replicate, rules}
use Rattle.std.proofs.lemmas.List.{length-set}
use Rattle.prl_edf.specs.Vocabulary.{Piece, next_job, is_other, lasts_in}
use Rattle.prl_edf.proofs.Skips.{any_default, none_left, piece_at, one_piece_back, seen_with}
use Rattle.prl_edf.proofs.unrolling.lasts_of.Goals as goal

pub loop-back-preserved : goal.loop-back-preserved
loop-back-preserved c =
    let ps : List Piece = c.args.pieces.now in
    let back : ℕ = c.loop-back.back in
    let k : ℕ = length ps - 1 - back in
    let zero_piece : Piece = record { task = record { 0 = 0 }; job = 0; from = 0; to = 0 } in
    let p : Piece = get_or ps k zero_piece in
    let rest : List Piece = drop (length ps - back) ps in
    let e = c.index.ensures in
    let t = c.loop-back-test.true in
    let inside : k < length ps = omega (arith, t) in
    let next : k + 1 ≡ length ps - back = omega (arith, t) in
    let index : k ≡ length ps - (back + 1) = omega (arith, t) in
    let at : drop k ps ≡ p ∷ rest = piece_at ps k zero_piece inside ∙ ap (λ (n : ℕ). p ∷ drop n ps) next in
    let task : p.task.0 < c.args.tasks = c.requires k p (slice_get-get_or ps k zero_piece inside) in
    let long = c.loop-back.invariant.long in
    let in_seen : p.task.0 < length c.loop-back.seen.items = omega (arith, task, long) in
    let seen_at : c.index.result.now ≡ next_job rest p.task.0 = e ∙ any_default c.loop-back.seen.items p.task.0 c.index.result.now None in_seen ∙ c.loop-back.invariant.seen p.task.0 task in
    let last : c.comes_last.result ≡ is_other (next_job rest p.task.0) p.job = c.comes_last.ensures ∙ ap (λ (o : Option ℕ). is_other o p.job) seen_at in
    let whole : p ∷ rest ≡ drop (length ps - (back + 1)) ps = sym at ∙ ap (λ (n : ℕ). drop n ps) index in
    record {
      lasts = one_piece_back p rest c.loop-back.lasts.items c.push.new.self.items c.loop-back.invariant.lasts
          (c.in_ok-push.ensures.items ∙ ap (λ (b : Bool). c.loop-back.lasts.items ++ (b ∷ [])) last) ∙ ap (λ (l : List Piece). reverse (lasts_in l)) whole;
      long = length-set c.loop-back.seen.items p.task.0 (Some p.job) ∙ long;
      seen = λ i below. seen_with p rest c.loop-back.seen.items in_seen i (c.loop-back.invariant.seen i below) ∙ ap (λ (l : List Piece). next_job l i) whole;
    }

pub loop-back-init : goal.loop-back-init
loop-back-init c =
    let ps : List Piece = c.args.pieces.now in
    let none : drop (length ps - 0) ps ≡ [] = none_left ps (length ps - 0) (omega arith) in
    let seen : c.in_ok-seen.seen.items ≡ replicate c.args.tasks None = c.in_ok-seen.ensures.items_if_clones_equal (λ y h. search (rules, h)) in
    record {
      lasts = c.new-lasts.ensures.items ∙ sym (ap (λ (l : List Piece). reverse (lasts_in l)) none);
      long = ap length seen ∙ length-replicate c.args.tasks None;
      seen = λ i below. ap (λ (l : List (Option ℕ)). get_or l i None) seen ∙ get_or-replicate c.args.tasks i None None below ∙ sym (ap (λ (l : List Piece). next_job l i) none);
    }

pub index-requires : goal.index-requires
index-requires c =
    let ps : List Piece = c.args.pieces.now in
    let k : ℕ = length ps - 1 - c.loop-back.back in
    let zero_piece : Piece = record { task = record { 0 = 0 }; job = 0; from = 0; to = 0 } in
    let task = c.requires k (get_or ps k zero_piece) (slice_get-get_or ps k zero_piece (omega (arith, c.loop-back-test.true))) in
    omega (arith, task, c.loop-back.invariant.long, c.loop-back.seen.ok)

pub index_mut-requires : goal.index_mut-requires
index_mut-requires c =
    let ps : List Piece = c.args.pieces.now in
    let k : ℕ = length ps - 1 - c.loop-back.back in
    let zero_piece : Piece = record { task = record { 0 = 0 }; job = 0; from = 0; to = 0 } in
    let task = c.requires k (get_or ps k zero_piece) (slice_get-get_or ps k zero_piece (omega (arith, c.loop-back-test.true))) in
    omega (arith, task, c.loop-back.invariant.long, c.loop-back.seen.ok)

pub overflow_cast-task : goal.overflow_cast-task
overflow_cast-task c =
    let ps : List Piece = c.args.pieces.now in
    let k : ℕ = length ps - 1 - c.loop-back.back in
    let zero_piece : Piece = record { task = record { 0 = 0 }; job = 0; from = 0; to = 0 } in
    let task = c.requires k (get_or ps k zero_piece) (slice_get-get_or ps k zero_piece (omega (arith, c.loop-back-test.true))) in
    omega (arith, task, c.ranges.tasks)

pub returns : goal.returns
returns c =
    let ps : List Piece = c.args.pieces.now in
    let none : length ps - c.loop-back.back ≡ 0 = omega (arith, c.loop-back-test.false) in
    c.loop-back.invariant.lasts ∙ ap (λ (n : ℕ). reverse (lasts_in (drop n ps))) none
