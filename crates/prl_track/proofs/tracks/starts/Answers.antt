use Rattle.prl_track.proofs.tracks.starts.Goals as goal

pub returns-clause-ended : goal.returns-clause-ended
returns-clause-ended c = c.in_ok-ended.ensures.items_if_clones_equal (λ y h. h)

pub returns-clause-places : goal.returns-clause-places
returns-clause-places c = c.in_ok-places.ensures.items_if_clones_equal (λ y h. h)

pub returns-clause-cursors : goal.returns-clause-cursors
returns-clause-cursors c = c.in_ok-cursors.ensures.items_if_clones_equal (λ y h. h)
