use Rattle.std.proofs.Common.{◌≡◌, ◌++◌, ℕ, List, [], ◌∷◌, length, Ok, sym, subst, ◌∙◌, arith, append-nil}
use Rattle.std.proofs.lemmas.Grind.{common_steps}
use Rattle.std.proofs.lemmas.List.{nil_from_length}
use Rattle.std.proofs.lemmas.Result.{err_from_is_err_and}
use Rattle.mgf_reader.specs.LineForm.{line_form}
use Rattle.mgf_reader.specs.inside.Judging.{line_at, Judges}
use Rattle.mgf_reader.specs.inside.Cutting.{Kept, TakesIn}
use Rattle.mgf_reader.proofs.TakesIn.{takes-line, takes-then, takes-stops}
use Rattle.mgf_reader.proofs.cutter.Cutter.take_line.Goals as goal

pub returns-then-is_empty-clause-takes : goal.returns-then-is_empty-clause-takes
returns-then-is_empty-clause-takes c =
    let held : List ℕ = c.self.inside.unfinished.items in
    let kept : Kept = record { unfinished = held; lines = c.self.inside.judge } in
    let bytes : List ℕ = c.args.part.now in
    let size : length held ≡ 0 = grind (arith, common_steps, c.self.inside.unfinished.ok.0) in
    let none : held ≡ [] = nil_from_length held size in
    let judges : Judges kept.lines (line_form (line_at kept.lines.judged (held ++ bytes))) c.judge_line.result
    c.judge_line.new.judge = subst (λ u. Judges kept.lines
    (line_form (line_at kept.lines.judged (u ++ bytes))) c.judge_line.result c.judge_line.new.judge)
    (sym none) c.judge_line.ensures.judges in
    subst (λ k. TakesIn k (bytes ++ 10 ∷ []) c.judge_line.result
    (record { unfinished = held; lines = c.judge_line.new.judge })) c.self.view_is
    (takes-line kept bytes held c.judge_line.new.judge c.judge_line.result c.requires.part none judges)

pub returns-in_err-keep-clause-takes : goal.returns-in_err-keep-clause-takes
returns-in_err-keep-clause-takes c =
    let p = err_from_is_err_and c.from_residual.result c.from_residual.ensures.1 in
    rw (p.1, p.2) (takes-stops c.args.self.now c.keep.new.self c.args.part.now
    (10 ∷ []) c.in_err-keep.field-0.0 c.in_err-keep.ensures.takes)

pub returns-clause-takes : goal.returns-clause-takes
returns-clause-takes c =
    let held : List ℕ = c.self-2.inside.unfinished.items in
    let kept : Kept = record { unfinished = held; lines = c.self-2.inside.judge } in
    let bytes : List ℕ = c.args.part.now in
    let line : c.deref.result.now ≡ held ++ [] = c.deref.ensures.value ∙ sym (append-nil held) in
    let judges : Judges kept.lines (line_form (line_at kept.lines.judged (held ++ []))) c.judge_line-judged.result
    c.judge_line-judged.new.judge = subst (λ u. Judges kept.lines
    (line_form (line_at kept.lines.judged u)) c.judge_line-judged.result c.judge_line-judged.new.judge) line
    c.judge_line-judged.ensures.judges in
    let first : TakesIn c.args.self.now bytes (Ok tt) kept =
    subst (λ k. TakesIn c.args.self.now bytes (Ok tt) k) (sym c.self-2.view_is) c.in_ok-keep.ensures.takes in
    takes-then c.args.self.now kept (record {
      unfinished = c.clear.new.self.items;
      lines = c.judge_line-judged.new.judge;
    }) bytes (10 ∷ []) c.judge_line-judged.result first
    (takes-line kept [] c.clear.new.self.items c.judge_line-judged.new.judge c.judge_line-judged.result tt
    c.clear.ensures.items judges)
