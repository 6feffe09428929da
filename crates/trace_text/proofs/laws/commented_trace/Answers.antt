use Rattle.trace_text.proofs.TextLaws.{commented-whole, lines-commented, trace-behind}
use Rattle.trace_text.proofs.laws.commented_trace.Goals as goal

pub returns : goal.returns
returns c = record { whole = commented-whole; lines = lines-commented; held = trace-behind }
