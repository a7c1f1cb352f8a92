use Rattle.std.proofs.Common.{Some, None}
use Rattle.run_plan.proofs.ReadToEnd.{read_to_end}
use Rattle.run_plan.proofs.reading.read_all.Goals as goal

pub returns-in-Ok : goal.returns-in-Ok
returns-in-Ok c = read_to_end c.args.reader.now c.feed-fed.new.self c.end.new.self c.args.text.now c.feed-fed.result
    c.end.result None
    c.requires.new c.feed-fed.ensures.stands (λ memory. (c.end.ensures.failed _ (c.feed-fed.ensures.keeps_fault _
    memory)).0) c.end.ensures.answers c.in-Ok.is

pub returns-in-Err-Mgf : goal.returns-in-Err-Mgf
returns-in-Err-Mgf c = read_to_end c.args.reader.now c.feed-fed.new.self c.end.new.self c.args.text.now
    c.feed-fed.result c.end.result (Some c.in-Err-Mgf.fault)
    c.requires.new c.feed-fed.ensures.stands (λ memory. (c.end.ensures.failed _ (c.feed-fed.ensures.keeps_fault _
    memory)).0) c.end.ensures.answers cc
