use Rattle.std.proofs.Common.{string_bytes}
use Rattle.layer_stages.proofs.StageLaws.{line-joined}
use Rattle.layer_stages.proofs.lines.push_stage.Goals as goal

pub returns : goal.returns
returns c = line-joined c.args.spares c.args.number c.args.stage (string_bytes c.args.text.now) (string_bytes c.push_numbers.new.text) (string_bytes c.push_end.new.text) c.in_ok-push_numbers.ensures c.in_ok-push_end.ensures
