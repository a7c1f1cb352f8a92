use Rattle.std.proofs.Common.{◌++◌, Err, sym, subst}
use Rattle.mgf_reader.specs.Stands.{Stands}
use Rattle.mgf_reader.proofs.TakesIn.{stands-longer}
use Rattle.mgf_reader.proofs.ReaderAnswers.{fed-stands, fed-answers, fed-broken, stands-answers, restated, reader_of}
use Rattle.mgf_reader.proofs.ReaderAnswers.{stood}
use Rattle.mgf_reader.proofs.reader.Reader.feed.Goals as goal

pub returns-in-Some-clause-stands : goal.returns-in-Some-clause-stands
returns-in-Some-clause-stands c = λ memory text out stands.
    let inside = c.self.inside in
    restated inside.fed _ inside.ended _ inside.failed inside.cutter (text ++ c.args.piece.now) out
    (stands-longer (reader_of inside.fed inside.ended inside.failed inside.cutter) text c.args.piece.now out
    c.in-Some.fault c.in-Some.is (subst (λ r. Stands r text out) (sym c.self.view_is) stands))

pub returns-in-Some-clause-answers : goal.returns-in-Some-clause-answers
returns-in-Some-clause-answers c = λ memory text out stands.
    let inside = c.self.inside in
    stands-answers (reader_of inside.fed inside.ended inside.failed inside.cutter) (text ++ c.args.piece.now) out
    (Err c.in-Some.fault) (stands-longer (reader_of inside.fed inside.ended inside.failed inside.cutter) text
    c.args.piece.now out c.in-Some.fault c.in-Some.is (subst (λ r. Stands r text out) (sym c.self.view_is) stands))
    c.in-Some.is memory

pub returns-clause-stands : goal.returns-clause-stands
returns-clause-stands c = λ memory text out stands.
    let inside = c.self.inside in
    fed-stands inside.fed _ inside.ended _ c.err-self-inside.result inside.cutter c.take-taken.new.self c.args.piece.now
    text out c.take-taken.result memory c.take-taken.ensures.takes c.err-self-inside.ensures.value
    (stood c.args.self.now inside.fed inside.ended inside.failed inside.cutter text out c.self.view_is
    c.in_default.not-Some stands)

pub returns-clause-answers : goal.returns-clause-answers
returns-clause-answers c = λ memory text out stands.
    let inside = c.self.inside in
    fed-answers inside.fed inside.ended inside.cutter c.take-taken.new.self c.args.piece.now text out
    c.take-taken.result memory c.take-taken.ensures.takes
    (stood c.args.self.now inside.fed inside.ended inside.failed inside.cutter text out c.self.view_is
    c.in_default.not-Some stands)

pub returns-clause-broken : goal.returns-clause-broken
returns-clause-broken c = λ memory text out stands.
    let inside = c.self.inside in
    fed-broken inside.fed inside.ended inside.cutter c.take-taken.new.self c.args.piece.now text out c.take-taken.result
    memory c.take-taken.ensures.takes (stood c.args.self.now inside.fed inside.ended inside.failed inside.cutter text
    out c.self.view_is c.in_default.not-Some stands)
