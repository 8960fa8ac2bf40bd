-- The words of this crate that clauses and proofs use, from one place.
pub use Rattle.prl_gen.specs.Draws.{draw, state_after}
unfoldable pub use Rattle.prl_gen.specs.Draws.{next}
pub use Rattle.prl_gen.specs.Lanes.{ArePositive, factors_from, instances, period_at, periods_from}
pub use Rattle.prl_gen.specs.Lanes.{state_of_lane}
pub use Rattle.prl_gen.specs.Numbered.{each}
pub use Rattle.prl_gen.specs.Texts.{actuator_lines, body, converted, delayed, equation, equations}
pub use Rattle.prl_gen.specs.Texts.{feed, generated_program, import_lines, input, inputs, outputs}
pub use Rattle.prl_gen.specs.Texts.{program, row, rows_of_lane, semicolon_before, sensor_lines}
pub use Rattle.prl_gen.specs.declared.lanes.TheConstants.{UNTIL}
