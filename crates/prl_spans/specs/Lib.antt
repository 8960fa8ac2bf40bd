-- acts anywhere in the span of their job
pub mod Spans
-- the spans that a table gives
pub mod TableSpans
-- the spans that a run gives
pub mod RunSpans
