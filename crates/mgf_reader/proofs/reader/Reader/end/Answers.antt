use Rattle.std.proofs.Common.{sym, ap, ◌∙◌}
use Rattle.mgf_reader.specs.Stands.{ReaderValue}
use Rattle.mgf_reader.proofs.ReaderAnswers.{ended-answers, ended-broken, failed-ends, stood}
use Rattle.mgf_reader.proofs.reader.Reader.end.Goals as goal

pub returns-in-Some-clause-answers : goal.returns-in-Some-clause-answers
returns-in-Some-clause-answers c = λ memory text out stands. failed-ends c.args.self.now text out c.in-Some.fault
    (ap (λ (r : ReaderValue). r.failed) (sym c.self.view_is) ∙ c.in-Some.is) stands

pub returns-clause-answers : goal.returns-clause-answers
returns-clause-answers c = λ memory text out stands.
    let inside = c.self.inside in
    ended-answers inside.fed inside.ended inside.cutter c.end-answer.new.self text out c.end-answer.result memory
    c.end-answer.ensures.ends (stood c.args.self.now inside.fed inside.ended inside.failed inside.cutter text out
    c.self.view_is c.in_default.not-Some stands)

pub returns-clause-broken : goal.returns-clause-broken
returns-clause-broken c = λ memory text out stands.
    let inside = c.self.inside in
    ended-broken inside.fed inside.ended inside.cutter c.end-answer.new.self text out c.end-answer.result memory
    c.end-answer.ensures.ends (stood c.args.self.now inside.fed inside.ended inside.failed inside.cutter text out
    c.self.view_is c.in_default.not-Some stands)
