-- `print::lines` meets its contract: line after line (`lines_put`). Assumes nothing.
use Rattle.problem.specs.Printed.{text}
use Rattle.print.proofs.LineLaws.{route_fields_lem, lines_put}
use Rattle.print.proofs.lines.Goals as goal

pub returns : goal.returns
unfolding text
returns c =
    let reply = c.args.reply.now in
    lines_put reply
    (route_fields_lem reply 12 3 32 c.kilometres.ensures c.number4.ensures c.part-main.ensures.result_value)
    (route_fields_lem reply 16 4 64 c.kilometres-2.ensures c.number4-2.ensures c.part-standby.ensures.result_value)
    c.verdict_line-next.ensures.puts c.line-next.ensures.puts c.line.ensures.puts
