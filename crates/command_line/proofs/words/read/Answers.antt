use Rattle.std.proofs.Common.{map, rules}
use Rattle.clap.specs.Words.{app_of, found_of, rows_of}
use Rattle.command_line.proofs.CommandLaws.{matched, refused, told, unmeant}
use Rattle.command_line.proofs.words.read.Goals as goal

pub returns-in-Err-clause-bad : goal.returns-in-Err-clause-bad
returns-in-Err-clause-bad c = λ bad.
    refused (app_of c.in_ok-qroute_command.field-0) (map (λ w. w.now) c.args.words.now) c.in-Err.error c.in_ok-qroute_command.ensures c.in-Err.ensures.kinds
    (c.words_fault.ensures (told _ _ bad))

pub returns-clause-bad : goal.returns-clause-bad
returns-clause-bad c = λ bad.
    let there = matched (app_of c.in_ok-qroute_command.field-0) (map (λ w. w.now) c.args.words.now) c.in-Ok.matches c.in_ok-qroute_command.ensures
    c.in-Ok.ensures.matches in
    unmeant (map (λ w. w.now) c.args.words.now) c.in-Some.name.now (rows_of (found_of c.in-Some.found.now)) (search (there, rules)) (c.meaning_of.ensures.bad bad)
