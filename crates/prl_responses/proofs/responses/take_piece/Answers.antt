use Rattle.prl_base.proofs.Standard.{◌+◌, ◌-◌, ◌∙◌, ℕ, Option, set, slice_index_or, slice_get-get_or, ap, sym, subst, arith}
use Rattle.prl_ages.specs.Ages.{released}
use Rattle.prl_edf.specs.declared.pieces.Piece.{Piece}
use Rattle.prl_responses.specs.Responses.{times_at}
use Rattle.prl_responses.specs.declared.responses.Times.{Times}
use Rattle.prl_responses.specs.code.PieceTimes.{AreAllTimes, with_job}
use Rattle.prl_responses.proofs.PieceTimes.{all_more}
use Rattle.prl_responses.proofs.responses.take_piece.Goals as goal

abbrev no_piece : Piece
no_piece = record { task = record { 0 = 0 }; job = 0; from = 0; to = 0 }

pub late-response-requires : goal.late-response-requires
late-response-requires c = c.requires.fit c.args.k (slice_index_or c.args.pieces.now c.args.k no_piece) (slice_get-get_or c.args.pieces.now c.args.k no_piece c.requires.inside)

pub early-slack-requires : goal.early-slack-requires
early-slack-requires c = c.requires.fit c.args.k (slice_index_or c.args.pieces.now c.args.k no_piece) (slice_get-get_or c.args.pieces.now c.args.k no_piece c.requires.inside)

pub slice_copy_out-with_job : goal.slice_copy_out-with_job
slice_copy_out-with_job c =
    let fits = c.requires.fit c.args.k (slice_index_or c.args.pieces.now c.args.k no_piece) (slice_get-get_or c.args.pieces.now c.args.k no_piece c.requires.inside) in
    omega (arith, fits.task, c.requires.are.long)

pub bounds-list-piece : goal.bounds-list-piece
bounds-list-piece c =
    let fits = c.requires.fit c.args.k (slice_index_or c.args.pieces.now c.args.k no_piece) (slice_get-get_or c.args.pieces.now c.args.k no_piece c.requires.inside) in
    omega (arith, fits.task, c.requires.are.long)

pub returns : goal.returns
returns c =
    let graph = c.args.plan.now.graph in
    let at = slice_get-get_or c.args.pieces.now c.args.k no_piece c.requires.inside in
    let fits = c.requires.fit c.args.k (slice_index_or c.args.pieces.now c.args.k no_piece) at in
    let more = all_more graph c.args.pieces.now c.args.k (slice_index_or c.args.pieces.now c.args.k no_piece) at fits c.args.list.now c.requires.are in
    let value = c.with_job-times.ensures
    ∙ ap (λ (x : ℕ). with_job (times_at c.args.list.now (slice_index_or c.args.pieces.now c.args.k no_piece).task.0) x c.early-slack.result (slice_index_or c.args.pieces.now c.args.k no_piece).job) c.late-response.ensures
    ∙ ap (λ (x : ℕ). with_job (times_at c.args.list.now (slice_index_or c.args.pieces.now c.args.k no_piece).task.0)
    ((slice_index_or c.args.pieces.now c.args.k no_piece).to - released c.args.plan.now.graph (slice_index_or c.args.pieces.now c.args.k no_piece).task.0 (slice_index_or c.args.pieces.now c.args.k no_piece).job)
    x (slice_index_or c.args.pieces.now c.args.k no_piece).job) c.early-slack.ensures in
    subst (λ (x : Option Times). AreAllTimes c.args.plan.now.graph c.args.pieces.now (c.args.k + 1) (set c.args.list.now (slice_index_or c.args.pieces.now c.args.k no_piece).task.0 x)) (sym value) more
